-- A table that takes names one after the other tells of each in which files it stands.
use Rattle.std.proofs.Common.{◌≡◌, ℕ, zero, suc, ◌+◌, ◌<◌, Bool, true, false, cond, List, [], ◌∷◌, ◌++◌, length, slice_get, slice_set, Option, Some, None, refl, sym, ap, subst, ◌∙◌, arith}
use Rattle.std.proofs.lemmas.Bool.{lt-ltb}
use Rattle.std.proofs.lemmas.List.{length_push}
use Rattle.std.proofs.lemmas.Option.{slice_get_within}
use Rattle.std.specs.Str.{bytes_eq}
use Rattle.std.specs.Cmp.Lexicographic.{bytes_decides}
use Rattle.vf_names.specs.Names.{number_of}
use Rattle.vf_names.proofs.Numbering.{name_there, number_of-push, number_of-push_other}
use Rattle.vf_declared.specs.Scopes.{at_index, at_name}
use Rattle.vf_syntax.specs.declared.written.Name.{Name}
use Rattle.vf_datatypes.specs.declared.stated.Stated.{Stated}
use Rattle.vf_gathering.specs.Named.{in_front, with_optional}
use Rattle.vf_gathering.specs.Standing.{Tells, any_files, files_of, no_names, or_none, with_file, with_name, with_names, with_number}

-- ---- lists

pub nothing_behind : {A : Type 0} (xs : List A) → xs ++ [] ≡ xs
nothing_behind [] = refl
nothing_behind (x ∷ xs) = ap (λ ys. x ∷ ys) (nothing_behind xs)

pub one_by_one : {A : Type 0} (xs : List A) (y : A) (zs : List A) → (xs ++ y ∷ []) ++ zs ≡ xs ++ y ∷ zs
one_by_one [] y zs = refl
one_by_one (x ∷ xs) y zs = ap (λ ys. x ∷ ys) (one_by_one xs y zs)

get_last : {A : Type 0} (xs : List A) (y : A) → slice_get (xs ++ y ∷ []) (length xs) ≡ Some y
get_last [] y = refl
get_last (x ∷ xs) y = get_last xs y

get_before : {A : Type 0} (xs : List A) (y : A) (k : ℕ) → k < length xs → slice_get (xs ++ y ∷ []) k ≡ slice_get xs k
get_before [] y k l = absurd (omega (arith, l))
get_before (x ∷ xs) y zero l = refl
get_before (x ∷ xs) y (suc k) l = get_before xs y k (omega (arith, l))

set_here : {A : Type 0} (xs : List A) (k : ℕ) (y : A) → k < length xs → slice_get (slice_set xs k y) k ≡ Some y
set_here [] k y l = absurd (omega (arith, l))
set_here (x ∷ xs) zero y l = refl
set_here (x ∷ xs) (suc k) y l = set_here xs k y (omega (arith, l))

set_there : {A : Type 0} (xs : List A) (k j : ℕ) (y : A) → (j ≡ k → ⊥) → slice_get (slice_set xs k y) j ≡ slice_get xs j
set_there [] k j y n = refl
set_there (x ∷ xs) zero zero y n = absurd (n refl)
set_there (x ∷ xs) zero (suc j) y n = refl
set_there (x ∷ xs) (suc k) zero y n = refl
set_there (x ∷ xs) (suc k) (suc j) y n = set_there xs k j y (λ e. n (ap suc e))

set_long : {A : Type 0} (xs : List A) (k : ℕ) (y : A) → length (slice_set xs k y) ≡ length xs
set_long [] k y = refl
set_long (x ∷ xs) zero y = refl
set_long (x ∷ xs) (suc k) y = ap suc (set_long xs k y)

-- ---- files

if_behind : (b : Bool) (f : ℕ) (xs ys zs : List ℕ) → ys ≡ xs ++ zs → cond b (f ∷ ys) ys ≡ cond b (f ∷ xs) xs ++ zs
if_behind true f xs ys zs h = ap (λ l. f ∷ l) h
if_behind false f xs ys zs h = h

-- the files of names are those of the first, and then those of the last
files_behind : (x : List ℕ) (ms : List Name) (n : Name) → files_of x (ms ++ n ∷ []) ≡ files_of x ms ++ files_of x (n ∷ [])
files_behind x [] n = refl
files_behind x (m ∷ ms) n = if_behind (bytes_eq x m.text) m.place.file (files_of x ms) (files_of x (ms ++ n ∷ [])) (files_of x (n ∷ [])) (files_behind x ms n)

-- another name behind changes nothing
files_stay : (x : List ℕ) (ms : List Name) (n : Name) → bytes_eq x n.text ≡ false → files_of x (ms ++ n ∷ []) ≡ files_of x ms
files_stay x ms n h = files_behind x ms n ∙ ap (λ (b : Bool). files_of x ms ++ cond b (n.place.file ∷ []) []) h ∙ nothing_behind (files_of x ms)

-- the name itself stands in one file more
files_grow : (x : List ℕ) (ms : List Name) (n : Name) → bytes_eq x n.text ≡ true → files_of x (ms ++ n ∷ []) ≡ files_of x ms ++ n.place.file ∷ []
files_grow x ms n h = files_behind x ms n ∙ ap (λ (b : Bool). files_of x ms ++ cond b (n.place.file ∷ []) []) h

any_more : (fs : List ℕ) (f : ℕ) → any_files (fs ++ f ∷ []) ≡ Some (fs ++ f ∷ [])
any_more [] f = refl
any_more (g ∷ fs) f = refl

any_none : (fs : List ℕ) → any_files fs ≡ None → fs ≡ []
any_none [] h = refl
any_none (f ∷ fs) h = absurd cc

any_some : (fs gs : List ℕ) → any_files fs ≡ Some gs → fs ≡ gs
any_some [] gs h = absurd cc
any_some (f ∷ fs) gs h = cc

-- ---- one name more

-- what a table tells of another name, where a new one comes behind
told_of_others : (d : Stated) (n : Name) (x g : List ℕ) (o : Option ℕ) → length d.names ≡ length d.files → number_of d.names x ≡ o → at_index (d.files ++ (n.place.file ∷ []) ∷ []) o ≡ at_index d.files o
told_of_others d n x g None b e = refl
told_of_others d n x g (Some k) b e =
    let within = slice_get_within d.names k x (name_there d.names x k e) in
    get_before d.files (n.place.file ∷ []) k (omega (arith, within, b))

-- of a new name
new_told : (ms : List Name) (d : Stated) (n : Name) → Tells ms d → number_of d.names n.text ≡ None → (x : List ℕ) (c : Bool) → bytes_eq x n.text ≡ c → at_name (d.names ++ n.text ∷ []) (d.files ++ (n.place.file ∷ []) ∷ []) x ≡ any_files (files_of x (ms ++ n ∷ []))
new_told ms d n t none x true e =
    let same : x ≡ n.text = (bytes_decides x n.text).0 e in
    let number : number_of (d.names ++ n.text ∷ []) x ≡ Some (length d.files) = ap (number_of (d.names ++ n.text ∷ [])) same ∙ number_of-push d.names n.text none ∙ ap Some t.beside in
    let before : files_of x ms ≡ [] = any_none (files_of x ms) (sym (t.files x) ∙ ap (at_index d.files) (ap (number_of d.names) same ∙ none)) in
    ap (at_index (d.files ++ (n.place.file ∷ []) ∷ [])) number ∙ get_last d.files (n.place.file ∷ [])
    ∙ sym (ap any_files (files_grow x ms n e ∙ ap (λ l. l ++ n.place.file ∷ []) before))
new_told ms d n t none x false e =
    ap (at_index (d.files ++ (n.place.file ∷ []) ∷ [])) (number_of-push_other d.names n.text x e)
    ∙ told_of_others d n x [] (number_of d.names x) t.beside refl
    ∙ t.files x ∙ ap any_files (sym (files_stay x ms n e))

-- what a table tells of another name, where one stands once more
told_again_of_others : (d : Stated) (n : Name) (k : ℕ) (x g : List ℕ) (o : Option ℕ) → number_of d.names n.text ≡ Some k → bytes_eq x n.text ≡ false → number_of d.names x ≡ o → at_index (slice_set d.files k g) o ≡ at_index d.files o
told_again_of_others d n k x g None h a e = refl
told_again_of_others d n k x g (Some j) h a e = set_there d.files k j g apart
  where
    apart : j ≡ k → ⊥
    apart q =
        let one : slice_get d.names k ≡ Some x = ap (slice_get d.names) (sym q) ∙ name_there d.names x j e in
        let other : slice_get d.names k ≡ Some n.text = name_there d.names n.text k h in
        let same : x ≡ n.text = cc in
        let yes : bytes_eq x n.text ≡ true = (bytes_decides x n.text).1 same in
        absurd cc

-- of a name that stands once more
again_told : (ms : List Name) (d : Stated) (n : Name) (k : ℕ) → Tells ms d → number_of d.names n.text ≡ Some k → (g : List ℕ) → slice_get d.files k ≡ Some g → (x : List ℕ) (c : Bool) → bytes_eq x n.text ≡ c → at_name d.names (slice_set d.files k (g ++ n.place.file ∷ [])) x ≡ any_files (files_of x (ms ++ n ∷ []))
again_told ms d n k t h g there x true e =
    let same : x ≡ n.text = (bytes_decides x n.text).0 e in
    let number : number_of d.names x ≡ Some k = ap (number_of d.names) same ∙ h in
    let before : files_of x ms ≡ g = any_some (files_of x ms) g (sym (t.files x) ∙ ap (at_index d.files) number ∙ there) in
    ap (at_index (slice_set d.files k (g ++ n.place.file ∷ []))) number ∙ set_here d.files k (g ++ n.place.file ∷ []) (slice_get_within d.files k g there)
    ∙ sym (ap any_files (files_grow x ms n e ∙ ap (λ l. l ++ n.place.file ∷ []) before) ∙ any_more g n.place.file)
again_told ms d n k t h g there x false e =
    told_again_of_others d n k x (g ++ n.place.file ∷ []) (number_of d.names x) h e refl
    ∙ t.files x ∙ ap any_files (sym (files_stay x ms n e))

-- the files of a name that has a number
files_there : (ms : List Name) (d : Stated) (n : Name) (k : ℕ) → Tells ms d → number_of d.names n.text ≡ Some k → (g : List ℕ) × (slice_get d.files k ≡ Some g)
files_there ms d n k t h = found (slice_get d.files k) refl
  where
    found : (o : Option (List ℕ)) → slice_get d.files k ≡ o → (g : List ℕ) × (slice_get d.files k ≡ Some g)
    found (Some g) e = (g, e)
    found None e = absurd (within-none d.files k (let l = slice_get_within d.names k n.text (name_there d.names n.text k h) in let b = t.beside in omega (arith, l, b)) e)
      where
        within-none : {A : Type 0} (xs : List A) (k : ℕ) → k < length xs → slice_get xs k ≡ None → ⊥
        within-none [] k l e = absurd (omega (arith, l))
        within-none (x ∷ xs) zero l e = absurd cc
        within-none (x ∷ xs) (suc k) l e = within-none xs k (omega (arith, l)) e

tells_by_number : (ms : List Name) (d : Stated) (n : Name) (o : Option ℕ) → Tells ms d → number_of d.names n.text ≡ o → Tells (ms ++ n ∷ []) (with_number d n o)
tells_by_number ms d n None t h = record { beside = length_push d.names n.text ∙ ap (λ m. m + 1) t.beside ∙ sym (length_push d.files (n.place.file ∷ [])); files = λ x. new_told ms d n t h x (bytes_eq x n.text) refl }
tells_by_number ms d n (Some k) t h = again (files_there ms d n k t h)
  where
    again : (g : List ℕ) × (slice_get d.files k ≡ Some g) → Tells (ms ++ n ∷ []) (with_file d k n.place.file)
    again (g, there) =
        let within = slice_get_within d.files k g there in
        let files : slice_set d.files k (or_none (slice_get d.files k) ++ n.place.file ∷ []) ≡ slice_set d.files k (g ++ n.place.file ∷ []) = ap (λ (o : Option (List ℕ)). slice_set d.files k (or_none o ++ n.place.file ∷ [])) there in
        subst (Tells (ms ++ n ∷ [])) (sym (ap (λ (b : Bool). cond b (record { names = d.names; files = slice_set d.files k (or_none (slice_get d.files k) ++ n.place.file ∷ []) }) d) (lt-ltb k (length d.files) within)
        ∙ ap (λ (fs : List (List ℕ)). record { names = d.names; files = fs }) files))
        (record { beside = t.beside ∙ sym (set_long d.files k (g ++ n.place.file ∷ [])); files = λ x. again_told ms d n k t h g there x (bytes_eq x n.text) refl })

-- ---- all names

tells_more : (ms ns : List Name) (d : Stated) → Tells ms d → Tells (ms ++ ns) (with_names d ns)
tells_more ms [] d t = subst (λ (l : List Name). Tells l d) (sym (nothing_behind ms)) t
tells_more ms (n ∷ ns) d t = subst (λ (l : List Name). Tells l (with_names (with_name d n) ns)) (one_by_one ms n ns) (tells_more (ms ++ n ∷ []) ns (with_name d n) (tells_by_number ms d n (number_of d.names n.text) t refl))

-- a table of all names tells of each of them
pub all_told : {d : Stated} (ns : List Name) → d ≡ with_names no_names ns → Tells ns d
all_told ns e = subst (Tells ns) (sym e) (tells_more [] ns no_names (record { beside = refl; files = λ x. refl }))

-- one name more in front, if there is one
pub one_more : (d d' : Stated) (o : Option Name) (ns : List Name) → d' ≡ with_optional d o → with_names d (in_front o ns) ≡ with_names d' ns
one_more d d' None ns e = ap (λ (d : Stated). with_names d ns) (sym e)
one_more d d' (Some n) ns e = ap (λ (d : Stated). with_names d ns) (sym e)
