-- What follows where something comes to be known of an unknown sort.
use Rattle.std.proofs.Common.{◌≡◌, ◌≢◌, ◌↔◌, ℕ, zero, suc, ◌<◌, [], ◌∷◌, ◌++◌, length, Bool, true, false, Option, Some, None, refl, sym, ◌∙◌, ap, subst, arith}
use Rattle.std.specs.Prelude.{◌||◌, nat_eq, slice_get}
use Rattle.std.specs.Option.{option_map}
use Rattle.std.proofs.Math.Decide.{ℕ_discrete}
use Rattle.std.proofs.lemmas.Bool.Decides.{nat_tests}
use Rattle.std.proofs.lemmas.Option.{slice_get_within}
use Rattle.vf_sorts.specs.declared.sort.Head.TheVariants as heads
use Rattle.vf_sorts.specs.Sorts.{Sort, Sorts, sort, no_sorts, and_sort}
use Rattle.vf_sorts.specs.Unknowns.{Filling, filled, filled_all, Known, known_or, by_known, EachUnknown, EachUnknownOf, IsBelow, IsOpen, IsResolved, is_in, is_in_some, only, with_known}
use Rattle.vf_sorts.proofs.Agreeing.{Respects, AgreesSeen, only_same, only_other, learnt, kept, substituted}

-- what a sort is known to be where another one was put into what was known
known_before : (g : Sort → Sort) (o : Option (Option Sort)) (t : Sort) → option_map (option_map g) o ≡ Some (Some t) → (r : Sort) × (o ≡ Some (Some r)) × (g r ≡ t)
known_before g (Some (Some r)) t e = (r, refl, cc)
known_before g (Some None) t e = cc
known_before g None t e = cc

-- sorts agree with what is known then where they did before and the sort is equal
pub agrees_with : (o : Sort → Sort) → Respects o → (known : Known) (u : ℕ) (s : Sort) → slice_get known u ≡ Some None → (f : Filling) → AgreesSeen o f (with_known known u s) ↔ (AgreesSeen o f known × (o (f u) ≡ o (filled f s)))
agrees_with o r known u s h f = (λ a. (λ v t e. before a v t e (ℕ_discrete u v), a u s (learnt known (filled (only u s)) u s None h)), λ b v t e. after b.0 b.1 v t e (ℕ_discrete u v))
  where
    before : AgreesSeen o f (with_known known u s) → (v : ℕ) (t : Sort) → slice_get known v ≡ Some (Some t) → Dec (u ≡ v) → o (f v) ≡ o (filled f t)
    before a v t e (yes p) = absurd (never (subst (λ (w : ℕ). slice_get known w ≡ Some None) p h))
      where
        never : slice_get known v ≡ Some None → ⊥
        never k = cc
    before a v t e (no n) =
        a v (filled (only u s) t) (kept known (filled (only u s)) u v s n ∙ ap (option_map (option_map (filled (only u s)))) e)
        ∙ substituted o r f u s (a u s (learnt known (filled (only u s)) u s None h)) t

    after : AgreesSeen o f known → o (f u) ≡ o (filled f s) → (v : ℕ) (t : Sort) → slice_get (with_known known u s) v ≡ Some (Some t) → Dec (u ≡ v) → o (f v) ≡ o (filled f t)
    after b eq v t e (yes p) =
        let there : slice_get (with_known known u s) v ≡ Some (Some s) = subst (λ (w : ℕ). slice_get (with_known known u s) w ≡ Some (Some s)) p (learnt known (filled (only u s)) u s None h) in
        let same : s ≡ t = cc in
        ap (λ (w : ℕ). o (f w)) (sym p) ∙ eq ∙ ap (λ (q : Sort). o (filled f q)) same
    after b eq v t e (no n) =
        let was = known_before (filled (only u s)) (slice_get known v) t (sym (kept known (filled (only u s)) u v s n) ∙ e) in
        b v was.0 was.1 ∙ sym (substituted o r f u s eq was.0) ∙ ap (λ (q : Sort). o (filled f q)) was.2

-- ---- what is said of each unknown sort
mutual
  pub each_filled : (P Q : ℕ → Type 0) (f : Filling) → ((u : ℕ) → P u → EachUnknown Q (f u)) → (s : Sort) → EachUnknown P s → EachUnknown Q (filled f s)
  each_filled P Q f step (sort heads.Int ts) h = each_filled_of P Q f step ts h
  each_filled P Q f step (sort heads.Bool ts) h = each_filled_of P Q f step ts h
  each_filled P Q f step (sort (heads.Pointer w) ts) h = each_filled_of P Q f step ts h
  each_filled P Q f step (sort heads.Real ts) h = each_filled_of P Q f step ts h
  each_filled P Q f step (sort heads.Any ts) h = each_filled_of P Q f step ts h
  each_filled P Q f step (sort (heads.Parameter i) ts) h = each_filled_of P Q f step ts h
  each_filled P Q f step (sort (heads.Unknown u) ts) h = step u h
  each_filled P Q f step (sort (heads.Datatype d) ts) h = each_filled_of P Q f step ts h
  each_filled P Q f step (sort heads.Predicate ts) h = each_filled_of P Q f step ts h

  each_filled_of : (P Q : ℕ → Type 0) (f : Filling) → ((u : ℕ) → P u → EachUnknown Q (f u)) → (ts : Sorts) → EachUnknownOf P ts → EachUnknownOf Q (filled_all f ts)
  each_filled_of P Q f step no_sorts h = tt
  each_filled_of P Q f step (and_sort t ts) h = (each_filled P Q f step t h.0, each_filled_of P Q f step ts h.1)

neither : (a b : Bool) → (a || b) ≡ false → (a ≡ false) × (b ≡ false)
neither false b e = (refl, e)
neither true b e = cc

mutual
  -- the unknown sorts in a sort are others than one that is not in it
  pub each_other : (P : ℕ → Type 0) (u : ℕ) (s : Sort) → is_in u s ≡ false → EachUnknown P s → EachUnknown (λ v. P v × (u ≢ v)) s
  each_other P u (sort heads.Int ts) e h = each_other_of P u ts e h
  each_other P u (sort heads.Bool ts) e h = each_other_of P u ts e h
  each_other P u (sort (heads.Pointer w) ts) e h = each_other_of P u ts e h
  each_other P u (sort heads.Real ts) e h = each_other_of P u ts e h
  each_other P u (sort heads.Any ts) e h = each_other_of P u ts e h
  each_other P u (sort (heads.Parameter i) ts) e h = each_other_of P u ts e h
  each_other P u (sort (heads.Unknown v) ts) e h = (h, λ p. let same : nat_eq u v ≡ true = grind (arith, nat_tests) in let t : true ≡ false = sym same ∙ e in absurd cc)
  each_other P u (sort (heads.Datatype d) ts) e h = each_other_of P u ts e h
  each_other P u (sort heads.Predicate ts) e h = each_other_of P u ts e h

  each_other_of : (P : ℕ → Type 0) (u : ℕ) (ts : Sorts) → is_in_some u ts ≡ false → EachUnknownOf P ts → EachUnknownOf (λ v. P v × (u ≢ v)) ts
  each_other_of P u no_sorts e h = tt
  each_other_of P u (and_sort t ts) e h =
      let both = neither (is_in u t) (is_in_some u ts) e in
      (each_other P u t both.0 h.0, each_other_of P u ts both.1 h.1)

mutual
  pub each_more : (P Q : ℕ → Type 0) → ((u : ℕ) → P u → Q u) → (s : Sort) → EachUnknown P s → EachUnknown Q s
  each_more P Q step (sort heads.Int ts) h = each_more_of P Q step ts h
  each_more P Q step (sort heads.Bool ts) h = each_more_of P Q step ts h
  each_more P Q step (sort (heads.Pointer w) ts) h = each_more_of P Q step ts h
  each_more P Q step (sort heads.Real ts) h = each_more_of P Q step ts h
  each_more P Q step (sort heads.Any ts) h = each_more_of P Q step ts h
  each_more P Q step (sort (heads.Parameter i) ts) h = each_more_of P Q step ts h
  each_more P Q step (sort (heads.Unknown u) ts) h = step u h
  each_more P Q step (sort (heads.Datatype d) ts) h = each_more_of P Q step ts h
  each_more P Q step (sort heads.Predicate ts) h = each_more_of P Q step ts h

  each_more_of : (P Q : ℕ → Type 0) → ((u : ℕ) → P u → Q u) → (ts : Sorts) → EachUnknownOf P ts → EachUnknownOf Q ts
  each_more_of P Q step no_sorts h = tt
  each_more_of P Q step (and_sort t ts) h = (each_more P Q step t h.0, each_more_of P Q step ts h.1)

-- what is open and is not learnt of stays open
still_open : (known : Known) (u : ℕ) (s : Sort) (v : ℕ) → slice_get known v ≡ Some None → u ≢ v → slice_get (with_known known u s) v ≡ Some None
still_open known u s v o n = kept known (filled (only u s)) u v s n ∙ ap (option_map (option_map (filled (only u s)))) o

-- what is known is resolved still
pub resolved_with : (known : Known) (u : ℕ) (s : Sort) → slice_get known u ≡ Some None → IsOpen known s → is_in u s ≡ false → IsResolved known → IsResolved (with_known known u s)
resolved_with known u s h opened out resolved v t e = by (ℕ_discrete u v)
  where
    open_then : IsOpen (with_known known u s) s
    open_then = each_more (λ w. (slice_get known w ≡ Some None) × (u ≢ w)) (λ w. slice_get (with_known known u s) w ≡ Some None) (λ w p. still_open known u s w p.0 p.1) s (each_other (λ w. slice_get known w ≡ Some None) u s out opened)

    put : (w : ℕ) → slice_get known w ≡ Some None → IsOpen (with_known known u s) (only u s w)
    put w o = at (ℕ_discrete u w)
      where
        at : Dec (u ≡ w) → IsOpen (with_known known u s) (only u s w)
        at (yes p) = subst (IsOpen (with_known known u s)) (sym (only_same u w s p)) open_then
        at (no n) = subst (IsOpen (with_known known u s)) (sym (only_other u w s n)) (still_open known u s w o n)

    by : Dec (u ≡ v) → IsOpen (with_known known u s) t
    by (yes p) =
        let there : slice_get (with_known known u s) v ≡ Some (Some s) = subst (λ (w : ℕ). slice_get (with_known known u s) w ≡ Some (Some s)) p (learnt known (filled (only u s)) u s None h) in
        let same : s ≡ t = cc in
        subst (IsOpen (with_known known u s)) same open_then
    by (no n) =
        let was = known_before (filled (only u s)) (slice_get known v) t (sym (kept known (filled (only u s)) u v s n) ∙ e) in
        subst (IsOpen (with_known known u s)) was.2 (each_filled (λ w. slice_get known w ≡ Some None) (λ w. slice_get (with_known known u s) w ≡ Some None) (only u s) put was.0 (resolved v was.0 was.1))

-- a sort in which what is known stands for the unknown ones is open
pub resolved_open : (known : Known) → IsResolved known → (s : Sort) → IsBelow (length known) s → IsOpen known (filled (by_known known) s)
resolved_open known resolved s below = each_filled (λ u. u < length known) (λ u. slice_get known u ≡ Some None) (by_known known) (λ u lt. at u (slice_get known u) refl lt) s below
  where
    past : (known : Known) (u : ℕ) → slice_get known u ≡ None → u < length known → ⊥
    past [] u e lt = omega arith
    past (k ∷ known) zero e lt = cc
    past (k ∷ known) (suc u) e lt = past known u e (omega arith)

    at : (u : ℕ) (o : Option (Option Sort)) → slice_get known u ≡ o → u < length known → IsOpen known (known_or u o)
    at u (Some (Some t)) e lt = resolved u t e
    at u (Some None) e lt = e
    at u None e lt = absurd (past known u e lt)

-- unknown sorts that are open have numbers
pub open_below : (known : Known) (s : Sort) → IsOpen known s → IsBelow (length known) s
open_below known s opened = each_more (λ u. slice_get known u ≡ Some None) (λ u. u < length known) (λ u o. slice_get_within known u None o) s opened

-- one unknown sort more
there_still : (known : Known) (o : Option Sort) (u : ℕ) (q : Option Sort) → slice_get known u ≡ Some q → slice_get (known ++ o ∷ []) u ≡ Some q
there_still [] o u q e = absurd cc
there_still (k ∷ known) o zero q e = e
there_still (k ∷ known) o (suc u) q e = there_still known o u q e

there_before : (known : Known) (u : ℕ) (s : Sort) → slice_get (known ++ None ∷ []) u ≡ Some (Some s) → slice_get known u ≡ Some (Some s)
there_before [] zero s e = absurd cc
there_before [] (suc u) s e = absurd cc
there_before (k ∷ known) zero s e = e
there_before (k ∷ known) (suc u) s e = there_before known u s e

pub resolved_more : (known then_known : Known) → then_known ≡ known ++ None ∷ [] → IsResolved known → IsResolved then_known
resolved_more known then_known e resolved = subst IsResolved (sym e) (λ u s h. each_more (λ v. slice_get known v ≡ Some None) (λ v. slice_get (known ++ None ∷ []) v ≡ Some None) (λ v o. there_still known None v None o) s (resolved u s (there_before known u s h)))
