-- All owners of a state in a list: what they own is what a share-out of the state sums up.
use Rattle.std.proofs.Common.{◌≡◌, ℕ, zero, suc, ◌<◌, ◌≤◌, ◌+◌, ◌&&◌, Bool, true, false, List, [], ◌∷◌, ◌++◌, map, length, slice_get, Option, Some, None, refl, sym, ap, subst, ◌∙◌, ◌⊎◌, inl, inr, arith}
use Rattle.std.specs.Prelude.{is_some, IsTrue, T, ◌||◌}
use Rattle.std.specs.List.{range_with_len, list_any}
use Rattle.std.specs.Ordering.{nat_cmp, eq_by_cmp, is_lt, is_eq}
use Rattle.std.specs.FinMap as finite
use Rattle.std.specs.FinMap.Entries.{below_all, is_sorted}
use Rattle.std.proofs.lemmas.Bool.{false≢true, cases_eq}
use Rattle.std.proofs.lemmas.Bool.Decides.{nat_tests}
use Rattle.vf_model.specs.Memory.{Memory, Block, block_at}
use Rattle.vf_model.specs.State.{State, Thread}
use Rattle.vf_meaning.specs.Parts.{Part, nothing}
use Rattle.vf_meaning.specs.ShareOuts.{ShareOut, SumsTo, parts_of}
use Rattle.vf_safety.proofs.Owners.{Owner, OfThread, OfMutex, Leaked, Owning, IsAmong, AreDistinct, Shared, gathered}

-- a number is one of several
abbrev pub IsNumberOf : ℕ → List ℕ → Type 0
IsNumberOf n [] = ⊥
IsNumberOf n (k ∷ ks) = (k ≡ n) ⊎ IsNumberOf n ks

-- no number stands twice
abbrev pub DifferentNumbers : List ℕ → Type 0
DifferentNumbers [] = Unit {0}
DifferentNumbers (k ∷ ks) = (IsNumberOf k ks → ⊥) × DifferentNumbers ks

range_from : (a n k : ℕ) → IsNumberOf k (range_with_len a n) → a ≤ k
range_from a zero k h = absurd h
range_from a (suc n) k (inl e) = omega (arith, e)
range_from a (suc n) k (inr h) = let l = range_from (a + 1) n k h in omega (arith, l)

range_different : (a n : ℕ) → DifferentNumbers (range_with_len a n)
range_different a zero = tt
range_different a (suc n) = ((λ h. above a (range_from (a + 1) n a h)), range_different (a + 1) n)
  where
    above : (a : ℕ) → a + 1 ≤ a → ⊥
    above a l = omega (arith, l)

in_range : (a n k : ℕ) → a ≤ k → k < a + n → IsNumberOf k (range_with_len a n)
in_range a zero k l m = absurd (none a k l m)
  where
    none : (a k : ℕ) → a ≤ k → k < a + 0 → ⊥
    none a k l m = omega (arith, l, m)
in_range a (suc n) k l m = elim (cases_eq a k) [ inl e ↦ inl e | inr other ↦ inr (in_range (a + 1) n k (omega (arith, l, other)) (omega (arith, m))) ]

-- ---- owners of threads, of mutexes, and what was leaked
thread_same : {t u : ℕ} → OfThread t ≡ OfThread u → t ≡ u
thread_same h = cc

mutex_same : {b c : ℕ} → OfMutex b ≡ OfMutex c → b ≡ c
mutex_same h = cc

abbrev pub owners_of : List ℕ → List ℕ → List Owner
owners_of ts bs = map OfThread ts ++ map OfMutex bs

mutex_among : (bs : List ℕ) (b : ℕ) → IsAmong (OfMutex b) (map OfMutex bs) → IsNumberOf b bs
mutex_among [] b h = h
mutex_among (c ∷ bs) b (inl e) = inl (mutex_same e)
mutex_among (c ∷ bs) b (inr h) = inr (mutex_among bs b h)

no_thread : (bs : List ℕ) (t : ℕ) → IsAmong (OfThread t) (map OfMutex bs) → ⊥
no_thread [] t h = h
no_thread (c ∷ bs) t (inl e) = cc
no_thread (c ∷ bs) t (inr h) = no_thread bs t h

thread_among : (ts bs : List ℕ) (t : ℕ) → IsAmong (OfThread t) (owners_of ts bs) → IsNumberOf t ts
thread_among [] bs t h = absurd (no_thread bs t h)
thread_among (u ∷ ts) bs t (inl e) = inl (thread_same e)
thread_among (u ∷ ts) bs t (inr h) = inr (thread_among ts bs t h)

none_leaked : (ts bs : List ℕ) → IsAmong Leaked (owners_of ts bs) → ⊥
none_leaked [] [] h = h
none_leaked [] (c ∷ bs) (inl e) = cc
none_leaked [] (c ∷ bs) (inr h) = none_leaked [] bs h
none_leaked (u ∷ ts) bs (inl e) = cc
none_leaked (u ∷ ts) bs (inr h) = none_leaked ts bs h

mutexes_different : (bs : List ℕ) → DifferentNumbers bs → AreDistinct (map OfMutex bs)
mutexes_different [] h = tt
mutexes_different (b ∷ bs) h = ((λ i. h.0 (mutex_among bs b i)), mutexes_different bs h.1)

owners_different : (ts bs : List ℕ) → DifferentNumbers ts → DifferentNumbers bs → AreDistinct (owners_of ts bs)
owners_different [] bs h k = mutexes_different bs k
owners_different (t ∷ ts) bs h k = ((λ i. h.0 (thread_among ts bs t i)), owners_different ts bs h.1 k)

among_mutexes : (bs : List ℕ) (b : ℕ) → IsNumberOf b bs → IsAmong (OfMutex b) (map OfMutex bs)
among_mutexes [] b h = h
among_mutexes (c ∷ bs) b (inl e) = inl (ap OfMutex e)
among_mutexes (c ∷ bs) b (inr h) = inr (among_mutexes bs b h)

mutex_in : (ts bs : List ℕ) (b : ℕ) → IsNumberOf b bs → IsAmong (OfMutex b) (owners_of ts bs)
mutex_in [] bs b h = among_mutexes bs b h
mutex_in (t ∷ ts) bs b h = inr (mutex_in ts bs b h)

thread_in : (ts bs : List ℕ) (t : ℕ) → IsNumberOf t ts → IsAmong (OfThread t) (owners_of ts bs)
thread_in [] bs t h = absurd h
thread_in (u ∷ ts) bs t (inl e) = inl (ap OfThread e)
thread_in (u ∷ ts) bs t (inr h) = inr (thread_in ts bs t h)

mutex_parts : (parts : Owning) (bs : List ℕ) → map parts (map OfMutex bs) ≡ map (λ b. parts (OfMutex b)) bs
mutex_parts parts [] = refl
mutex_parts parts (b ∷ bs) = ap (λ z. parts (OfMutex b) ∷ z) (mutex_parts parts bs)

owner_parts : (parts : Owning) (ts bs : List ℕ) → map parts (owners_of ts bs) ≡ map (λ t. parts (OfThread t)) ts ++ map (λ b. parts (OfMutex b)) bs
owner_parts parts [] bs = mutex_parts parts bs
owner_parts parts (t ∷ ts) bs = ap (λ z. parts (OfThread t) ∷ z) (owner_parts parts ts bs)

-- ---- the blocks of a memory
lt_not_eq : (k j : ℕ) → T (is_lt (nat_cmp k j)) → k ≡ j → ⊥
lt_not_eq k j l e = absurd (no_self k (subst (λ z. T (is_lt (nat_cmp k z))) (sym e) l))
  where
    no_self : (k : ℕ) → T (is_lt (nat_cmp k k)) → ⊥
    no_self k h = grind (arith, nat_tests, h)

first_of_both : (a b : Bool) → T (a && b) → T a
first_of_both true b h = tt
first_of_both false b h = absurd h

second_of_both : (a b : Bool) → T (a && b) → T b
second_of_both true b h = h
second_of_both false b h = absurd h

below_none : {X : Type 0} (k : ℕ) (es : List (ℕ × X)) → T (below_all nat_cmp k es) → IsNumberOf k (map (λ e. e.0) es) → ⊥
below_none k [] l h = h
below_none k (x ∷ es) l (inl e) = lt_not_eq k x.0 (first_of_both _ _ l) (sym e)
below_none k (x ∷ es) l (inr h) = below_none k es (second_of_both _ _ l) h

sorted_different : {X : Type 0} (es : List (ℕ × X)) → T (is_sorted nat_cmp es) → DifferentNumbers (map (λ e. e.0) es)
sorted_different [] h = tt
sorted_different (x ∷ es) h = ((λ i. below_none x.0 es (first_of_both _ _ h) i), sorted_different es (second_of_both _ _ h))

keys_different : (m : Memory) → DifferentNumbers (finite.keys m)
keys_different m = sorted_different (finite.entries m) (finite.entries_sorted m)

tied : (b k : ℕ) → IsTrue (is_eq (nat_cmp b k)) → k ≡ b
tied b k h = grind (arith, nat_tests, h)

any_number : (b : ℕ) (ks : List ℕ) → IsTrue (list_any (eq_by_cmp nat_cmp b) ks) → IsNumberOf b ks
any_number b [] h = absurd (false≢true h)
any_number b (k ∷ ks) h = by_first (is_eq (nat_cmp b k)) (list_any (eq_by_cmp nat_cmp b) ks) refl h (λ i. any_number b ks i)
  where
    by_first : (c d : Bool) → is_eq (nat_cmp b k) ≡ c → IsTrue (c || d) → (IsTrue d → IsNumberOf b ks) → IsNumberOf b (k ∷ ks)
    by_first true d is h go = inl (tied b k is)
    by_first false d is h go = inr (go h)

pub there_number : (m : Memory) (b : ℕ) (block : Block) → block_at m b ≡ Some block → IsNumberOf b (finite.keys m)
there_number m b block is = any_number b (finite.keys m) (sym (finite.contains_key-keys m b) ∙ ap is_some is)

-- ---- the sum of a share-out
pub long_enough : {A : Type 0} (xs : List A) (t : ℕ) (x : A) → slice_get xs t ≡ Some x → t < length xs
long_enough [] t x h = absurd (none_some h)
  where
    none_some : None ≡ Some x → ⊥
    none_some e = cc
long_enough (y ∷ xs) zero x h = omega arith
long_enough (y ∷ xs) (suc t) x h = let l = long_enough xs t x h in omega (arith, l)

-- the share-out by what each owner has
abbrev pub out_of : Owning → ShareOut
out_of parts = record { threads = λ t. parts (OfThread t); mutexes = λ b. parts (OfMutex b); leaked = parts Leaked }

pub out_sums : (s : State) (parts : Owning) (all : Part) → Shared parts all → ((t : ℕ) → slice_get s.threads t ≡ None → parts (OfThread t) ≡ nothing) → ((b : ℕ) → block_at s.memory b ≡ None → parts (OfMutex b) ≡ nothing)
    → SumsTo (parts_of s (out_of parts)) all
out_sums s parts all h threads mutexes =
    let ts = range_with_len 0 (length s.threads) in
    let bs = finite.keys s.memory in
    subst (λ z. SumsTo (parts Leaked ∷ z) all) (owner_parts parts ts bs)
    (gathered (Leaked ∷ owners_of ts bs) parts all h (none_leaked ts bs, owners_different ts bs (range_different 0 (length s.threads)) (keys_different s.memory)) (λ o none. covered o none))
  where
    no_more : (t n : ℕ) → t < n → t < 0 + n
    no_more t n l = omega (arith, l)

    known_thread : (t : ℕ) (o : Option Thread) → slice_get s.threads t ≡ o → (IsAmong (OfThread t) (Leaked ∷ owners_of (range_with_len 0 (length s.threads)) (finite.keys s.memory)) → ⊥) → parts (OfThread t) ≡ nothing
    known_thread t None is none = threads t is
    known_thread t (Some frames) is none = absurd (none (inr (thread_in (range_with_len 0 (length s.threads)) (finite.keys s.memory) t (in_range 0 (length s.threads) t (omega arith) (no_more t (length s.threads) (long_enough s.threads t frames is))))))

    known_mutex : (b : ℕ) (o : Option Block) → block_at s.memory b ≡ o → (IsAmong (OfMutex b) (Leaked ∷ owners_of (range_with_len 0 (length s.threads)) (finite.keys s.memory)) → ⊥) → parts (OfMutex b) ≡ nothing
    known_mutex b None is none = mutexes b is
    known_mutex b (Some block) is none = absurd (none (inr (mutex_in (range_with_len 0 (length s.threads)) (finite.keys s.memory) b (there_number s.memory b block is))))

    covered : (o : Owner) → (IsAmong o (Leaked ∷ owners_of (range_with_len 0 (length s.threads)) (finite.keys s.memory)) → ⊥) → parts o ≡ nothing
    covered Leaked none = absurd (none (inl refl))
    covered (OfThread t) none = known_thread t (slice_get s.threads t) refl none
    covered (OfMutex b) none = known_mutex b (block_at s.memory b) refl none
