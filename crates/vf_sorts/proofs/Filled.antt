-- Filled sorts, head by head and row by row.
use Rattle.std.proofs.Common.{◌≡◌, ◌≢◌, ◌↔◌, ◌<◌, true, false, IsTrue, arith, refl, ap, ap₂, ◌∙◌, ℕ, Bool, List, [], ◌∷◌}
use Rattle.std.specs.Prelude.{◌&&◌, map}
use Rattle.std.proofs.lemmas.Bool.Decides.{nat_tests}
use Rattle.vf_sorts.specs.declared.sort.Head.{Head}
use Rattle.vf_sorts.specs.declared.sort.Head.TheVariants as heads
use Rattle.vf_sorts.specs.Sorts.{Sort, Sorts, sort, no_sorts, and_sort, row}
use Rattle.vf_sorts.specs.Told.{untold, untold_all}
use Rattle.vf_sorts.specs.Unknowns.{Filling, headed, filled, filled_all, is_in_head, numbered_in_head, numbered_below, all_numbered_below, IsBelow, EachUnknownOf, instance_of, instance, instances}

-- a head that is no unknown sort stays
pub head_filled : (f : Filling) (h : Head) (ts : Sorts) → ((u : ℕ) → h ≢ heads.Unknown u) → headed f h ts ≡ sort h ts
head_filled f heads.Int ts n = refl
head_filled f heads.Bool ts n = refl
head_filled f (heads.Pointer w) ts n = refl
head_filled f heads.Real ts n = refl
head_filled f heads.Any ts n = refl
head_filled f (heads.Parameter i) ts n = refl
head_filled f (heads.Unknown u) ts n = absurd (n u refl)
head_filled f (heads.Datatype d) ts n = refl
head_filled f heads.Predicate ts n = refl

pub head_held : (u : ℕ) (h : Head) (b : Bool) → ((v : ℕ) → h ≢ heads.Unknown v) → is_in_head u h b ≡ b
head_held u heads.Int b n = refl
head_held u heads.Bool b n = refl
head_held u (heads.Pointer w) b n = refl
head_held u heads.Real b n = refl
head_held u heads.Any b n = refl
head_held u (heads.Parameter i) b n = refl
head_held u (heads.Unknown v) b n = absurd (n v refl)
head_held u (heads.Datatype d) b n = refl
head_held u heads.Predicate b n = refl

-- a head that is no type parameter stays
pub head_of_instance : (first count : ℕ) (h : Head) (ts : Sorts) → ((i : ℕ) → h ≢ heads.Parameter i) → instance_of first count h ts ≡ sort h ts
head_of_instance first count heads.Int ts n = refl
head_of_instance first count heads.Bool ts n = refl
head_of_instance first count (heads.Pointer w) ts n = refl
head_of_instance first count heads.Real ts n = refl
head_of_instance first count heads.Any ts n = refl
head_of_instance first count (heads.Parameter i) ts n = absurd (n i refl)
head_of_instance first count (heads.Unknown u) ts n = refl
head_of_instance first count (heads.Datatype d) ts n = refl
head_of_instance first count heads.Predicate ts n = refl

-- a row of filled sorts
pub row_filled : (f : Filling) (ss : List Sort) → filled_all f (row ss) ≡ row (map (filled f) ss)
row_filled f [] = refl
row_filled f (s ∷ ss) = ap (and_sort (filled f s)) (row_filled f ss)

pub row_of_instances : (first count : ℕ) (ss : List Sort) → instances first count (row ss) ≡ row (map (instance first count) ss)
row_of_instances first count [] = refl
row_of_instances first count (s ∷ ss) = ap (and_sort (instance first count s)) (row_of_instances first count ss)

-- what fills a head of which the parts are filled
headed_twice : (f g : Filling) (h : Head) (ts : Sorts) → filled g (headed f h (filled_all f ts)) ≡ headed (λ u. filled g (f u)) h (filled_all g (filled_all f ts))
headed_twice f g heads.Int ts = refl
headed_twice f g heads.Bool ts = refl
headed_twice f g (heads.Pointer w) ts = refl
headed_twice f g heads.Real ts = refl
headed_twice f g heads.Any ts = refl
headed_twice f g (heads.Parameter i) ts = refl
headed_twice f g (heads.Unknown u) ts = refl
headed_twice f g (heads.Datatype d) ts = refl
headed_twice f g heads.Predicate ts = refl

-- what is filled twice is filled by what the second makes of the first
mutual
  pub filled_twice : (f g : Filling) (s : Sort) → filled g (filled f s) ≡ filled (λ u. filled g (f u)) s
  filled_twice f g (sort h ts) = headed_twice f g h ts ∙ ap (headed (λ u. filled g (f u)) h) (all_filled_twice f g ts)

  pub all_filled_twice : (f g : Filling) (ts : Sorts) → filled_all g (filled_all f ts) ≡ filled_all (λ u. filled g (f u)) ts
  all_filled_twice f g no_sorts = refl
  all_filled_twice f g (and_sort t ts) = ap₂ and_sort (filled_twice f g t) (all_filled_twice f g ts)

pub head_numbered : (n : ℕ) (h : Head) (b : Bool) → ((u : ℕ) → h ≢ heads.Unknown u) → numbered_in_head n h b ≡ b
head_numbered n heads.Int b m = refl
head_numbered n heads.Bool b m = refl
head_numbered n (heads.Pointer w) b m = refl
head_numbered n heads.Real b m = refl
head_numbered n heads.Any b m = refl
head_numbered n (heads.Parameter i) b m = refl
head_numbered n (heads.Unknown u) b m = absurd (m u refl)
head_numbered n (heads.Datatype d) b m = refl
head_numbered n heads.Predicate b m = refl

both_told : (a b : Bool) (A B : Type 0) → (IsTrue a ↔ A) → (IsTrue b ↔ B) → IsTrue (a && b) ↔ (A × B)
both_told true true A B p q = (λ e. (p.0 refl, q.0 refl), λ h. refl)
both_told true false A B p q = (λ e. absurd cc, λ h. q.1 h.1)
both_told false b A B p q = (λ e. absurd cc, λ h. p.1 h.0)

mutual
  -- numbers are below as they are tested to be
  pub below_told : (n : ℕ) (s : Sort) → IsTrue (numbered_below n s) ↔ IsBelow n s
  below_told n (sort heads.Int ts) = all_below_told n ts
  below_told n (sort heads.Bool ts) = all_below_told n ts
  below_told n (sort (heads.Pointer w) ts) = all_below_told n ts
  below_told n (sort heads.Real ts) = all_below_told n ts
  below_told n (sort heads.Any ts) = all_below_told n ts
  below_told n (sort (heads.Parameter i) ts) = all_below_told n ts
  below_told n (sort (heads.Unknown u) ts) = (λ e. grind (arith, nat_tests), λ h. grind (arith, nat_tests))
  below_told n (sort (heads.Datatype d) ts) = all_below_told n ts
  below_told n (sort heads.Predicate ts) = all_below_told n ts

  pub all_below_told : (n : ℕ) (ts : Sorts) → IsTrue (all_numbered_below n ts) ↔ EachUnknownOf (λ u. u < n) ts
  all_below_told n no_sorts = (λ e. tt, λ h. refl)
  all_below_told n (and_sort t ts) = both_told (numbered_below n t) (all_numbered_below n ts) (IsBelow n t) (EachUnknownOf (λ u. u < n) ts) (below_told n t) (all_below_told n ts)

-- a sort that is made of parts is seen by its head and its parts
pub row_untold : (ss : List Sort) → untold_all (row ss) ≡ row (map untold ss)
row_untold [] = refl
row_untold (s ∷ ss) = ap (and_sort (untold s)) (row_untold ss)
