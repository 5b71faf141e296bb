-- Places of chunks of a head.
use Rattle.std.proofs.Common.{◌≡◌, ℕ, zero, suc, ◌+◌, ◌<◌, ◌≤◌, List, [], ◌∷◌, drop, length, get_or, refl, sym, subst, ap, ◌∙◌, Bool, true, false, cond, add-one, length-drop, arith}
use Rattle.std.proofs.Math.Seq.{drop-cons}
use Rattle.vf_chunk.specs.declared.chunk.Chunk.{Chunk}
use Rattle.vf_chunk.specs.declared.head.HeadName.{HeadName}
use Rattle.vf_chunk.specs.Heads.{is_one_name}
use Rattle.vf_chunk.specs.Heaps.{first_of}
use Rattle.vf_take.specs.Usable.{ChunkCanBeCompared, HeapCanBeCompared}

pub rest_of : {A : Type 0} (xs : List A) (i : ℕ) (x : A) → i < length xs → x ≡ get_or xs i x → drop i xs ≡ x ∷ drop (i + 1) xs
rest_of xs i x low is = rw add-one (drop-cons xs i x low ∙ ap (λ y. y ∷ drop (suc i) xs) (sym is))

-- a chunk can be compared where all can
chunk_there : (cs : List Chunk) (i : ℕ) (d : Chunk) → i < length cs → HeapCanBeCompared cs → ChunkCanBeCompared (get_or cs i d)
chunk_there [] i d low all = absurd (omega arith)
chunk_there (c ∷ cs) zero d low all = all.0
chunk_there (c ∷ cs) (suc i) d low all = chunk_there cs i d (omega arith) all.1

pub chunk_compared : (cs : List Chunk) (i : ℕ) (d : Chunk) → i < length cs → d ≡ get_or cs i d → HeapCanBeCompared cs → ChunkCanBeCompared d
chunk_compared cs i d low is all = subst ChunkCanBeCompared (sym is) (chunk_there cs i d low all)

-- an item of a list that is another
pub item_of : {A : Type 0} (xs ys : List A) (i : ℕ) (x : A) → ys ≡ xs → x ≡ get_or ys i x → x ≡ get_or xs i x
item_of xs ys i x e is = is ∙ ap (λ zs. get_or zs i x) e

-- a chunk whose place is that of a head
pub one_name : (name : HeadName) (cs : List Chunk) (i : ℕ) (d : Chunk) → d ≡ get_or cs i d → is_one_name (get_or cs i d).head.name name ≡ true → is_one_name d.head.name name ≡ true
one_name name cs i d is h = subst (λ (c : Chunk). is_one_name c.head.name name ≡ true) (sym is) h

-- ---- the first chunk of a head
first_low : (name : HeadName) (cs : List Chunk) → first_of name cs ≤ length cs
first_low name [] = omega arith
first_low name (c ∷ cs) = by (is_one_name c.head.name name) (first_low name cs)
  where
    by : (b : Bool) → first_of name cs ≤ length cs → cond b 0 (suc (first_of name cs)) ≤ suc (length cs)
    by true h = omega arith
    by false h = omega (arith, h)

-- it is within the heap
pub next_within : (name : HeadName) (cs : List Chunk) (i j : ℕ) → i ≤ length cs → j ≡ i + first_of name (drop i cs) → j ≤ length cs
next_within name cs i j low is =
    let less = first_low name (drop i cs) in
    let left = length-drop i cs in
    omega (arith, less, left, is, low)

-- and it is of the head
first_is_one : (name : HeadName) (cs : List Chunk) (d : Chunk) → first_of name cs < length cs → is_one_name (get_or cs (first_of name cs) d).head.name name ≡ true
first_is_one name [] d low = absurd (omega (arith, low))
first_is_one name (c ∷ cs) d low = by (is_one_name c.head.name name) refl low (λ less. first_is_one name cs d less)
  where
    by : (b : Bool) → is_one_name c.head.name name ≡ b → cond b 0 (suc (first_of name cs)) < suc (length cs) → (first_of name cs < length cs → is_one_name (get_or cs (first_of name cs) d).head.name name ≡ true) → is_one_name (get_or (c ∷ cs) (cond b 0 (suc (first_of name cs))) d).head.name name ≡ true
    by true e low later = e
    by false e low later = later (omega (arith, low))

get_or_drop : (cs : List Chunk) (i k : ℕ) (d : Chunk) → get_or (drop i cs) k d ≡ get_or cs (i + k) d
get_or_drop cs zero k d = let e : 0 + k ≡ k = omega arith in ap (λ n. get_or cs n d) (sym e)
get_or_drop [] (suc i) k d = empty k (suc i + k)
  where
    empty : (m n : ℕ) → get_or {A = Chunk} [] m d ≡ get_or [] n d
    empty m n = refl
get_or_drop (c ∷ cs) (suc i) k d =
    let e : suc i + k ≡ suc (i + k) = omega arith in
    get_or_drop cs i k d ∙ ap (λ n. get_or (c ∷ cs) n d) (sym e)

pub next_is_one : (name : HeadName) (cs : List Chunk) (i j : ℕ) (d : Chunk) → i ≤ length cs → j ≡ i + first_of name (drop i cs) → j < length cs → is_one_name (get_or cs j d).head.name name ≡ true
next_is_one name cs i j d low is less =
    let left = length-drop i cs in
    let here = first_is_one name (drop i cs) d (omega (arith, left, is, less, low)) in
    subst (λ n. is_one_name (get_or cs n d).head.name name ≡ true) (sym is)
    (subst (λ (c : Chunk). is_one_name c.head.name name ≡ true) (get_or_drop cs i (first_of name (drop i cs)) d) here)

pub dropped : (cs : List Chunk) (i k : ℕ) → drop k (drop i cs) ≡ drop (i + k) cs
dropped cs zero k = let e : 0 + k ≡ k = omega arith in ap (λ n. drop n cs) (sym e)
dropped [] (suc i) k = empty k (suc i + k)
  where
    empty : (m n : ℕ) → drop {A = Chunk} m [] ≡ drop n []
    empty zero zero = refl
    empty zero (suc n) = refl
    empty (suc m) zero = refl
    empty (suc m) (suc n) = refl
dropped (c ∷ cs) (suc i) k =
    let e : suc i + k ≡ suc (i + k) = omega arith in
    dropped cs i k ∙ ap (λ n. drop n (c ∷ cs)) (sym e)
