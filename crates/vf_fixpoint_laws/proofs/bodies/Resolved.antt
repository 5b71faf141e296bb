-- What is known of unknown sorts stays resolved where sorts are made equal, and behind expressions.
use Rattle.std.proofs.Common.{◌≡◌, ℕ, zero, suc, ◌+◌, ◌<◌, ◌≤◌, Bool, true, false, List, [], ◌∷◌, ◌++◌, length, Option, Some, None, refl, sym, subst, ap, ◌∙◌, arith, append-nil}
use Rattle.std.specs.Prelude.{◌&&◌, nat_eq, if◌then◌else◌, map, slice_get, slice_set}
use Rattle.std.specs.Option.{option_map}
use Rattle.vf_base.specs.declared.place.Place.{Place}
use Rattle.vf_sorts.specs.declared.pair.Pair.{Pair}
use Rattle.vf_sorts.specs.declared.sort.Head.{Head}
use Rattle.vf_sorts.specs.declared.sort.Head.TheVariants as heads
use Rattle.vf_sorts.specs.Sorts.{Sort, Sorts, sort, no_sorts, and_sort, row}
use Rattle.vf_sorts.specs.Pairs.{AreBelow, head_of, paired, weight}
use Rattle.vf_sorts.specs.Unknowns.{EachUnknown, EachUnknownOf, IsBelow, IsOpen, IsResolved, Known, by_known, filled, instance, is_in, only, with_known}
use Rattle.vf_sorts.specs.Unifying.{Equates, Left, are_heads_alike, beside, by_unknown, first_made, is_numbered, listed, made_within, pair_of, then_made, unknown_of, with_parts, with_sort}
use Rattle.vf_sorts.proofs.Learning.{open_below, resolved_more, resolved_open, resolved_with}
use Rattle.vf_sorts.proofs.Making.{below_append}
use Rattle.vf_sorts.proofs.Settling.{settling_agrees}
use Rattle.vf_syntax.specs.GhostExprTree.{GhostExprTree, GhostExprTrees, GhostLinkTree, GhostLinkTrees}
use Rattle.vf_syntax.specs.declared.operator.BinaryOperator.{BinaryOperator}
use Rattle.vf_syntax.specs.declared.operator.BinaryOperator.TheVariants as operators
use Rattle.vf_syntax.specs.declared.operator.UnaryOperator.{UnaryOperator}
use Rattle.vf_syntax.specs.declared.operator.UnaryOperator.TheVariants as unaries
use Rattle.vf_declared.specs.declared.scope.Scope.{Scope}
use Rattle.vf_sorting.specs.declared.context.Context.{Context}
use Rattle.vf_sorting.specs.HasSort.{HasSort, number, truth, falsehood, result, this_, thread, name_, application, parenthesized, conditional, prefixed, chain, Meets, null_second, null_first, any_beside, alike, LinkHasSort, compared, moved, joined, LinksHaveSort, no_links, more_links, Passes, inside, null, choice, any_wanted, as_wanted, ArePassed, none_passed, one_passed}
use Rattle.vf_sorting.specs.Kinds.{with_fresh}
use Rattle.vf_sorting.specs.Operators.{operand_sort, prefix_sort, result_sort}
use Rattle.vf_sorting.proofs.Below.{below_more, fresh_length, fresh_more, instance_below}
use Rattle.vf_fixpoint_laws.specs.bodies.Resolved.{EquatingResolves, PassingResolves, PassingSettles}

-- ---- one step
length_put : {A : Type 0} (xs : List A) (u : ℕ) (a : A) → length (slice_set xs u a) ≡ length xs
length_put [] u a = refl
length_put (x ∷ xs) zero a = refl
length_put (x ∷ xs) (suc u) a = ap suc (length_put xs u a)

pub length_mapped : {A B : Type 0} (f : A → B) (xs : List A) → length (map f xs) ≡ length xs
length_mapped f [] = refl
length_mapped f (x ∷ xs) = ap suc (length_mapped f xs)

same_known : {k l : Known} → Some k ≡ Some l → k ≡ l
same_known e = cc

same_left : {l m : Left} → Some l ≡ Some m → l ≡ m
same_left e = cc

-- what is known still has the numbers that it had, and is resolved
abbrev StaysResolved : Known → Known → Type 0
StaysResolved k k' = IsResolved k' × (length k' ≡ length k)

known_stays : (k k' : Known) (u : ℕ) (t : Sort) → IsResolved k → slice_get k u ≡ Some None → IsOpen k t → with_sort k u t ≡ Some k' → StaysResolved k k'
known_stays k k' u t r opened opened_t e = by (is_numbered u (unknown_of (head_of t))) (is_in u t) refl e
  where
    by : (p q : Bool) → is_in u t ≡ q → (if p then Some k else if q then None else Some (with_known k u t)) ≡ Some k' → StaysResolved k k'
    by true q is e = subst (StaysResolved k) (same_known e) (r, refl)
    by false true is e = absurd cc
    by false false is e = subst (StaysResolved k) (same_known e) (resolved_with k u t opened opened_t is r, length_put (map (option_map (filled (only u t))) k) u (Some t) ∙ length_mapped (option_map (filled (only u t))) k)

-- an unknown sort that is open
open_unknown : (k : Known) (u : ℕ) (h : Head) (ts : Sorts) → unknown_of h ≡ Some u → IsOpen k (sort h ts) → slice_get k u ≡ Some None
open_unknown k u (heads.Unknown v) ts e o = let q : v ≡ u = cc in subst (λ (w : ℕ). slice_get k w ≡ Some None) q o
open_unknown k u heads.Int ts e o = absurd cc
open_unknown k u heads.Bool ts e o = absurd cc
open_unknown k u (heads.Pointer w) ts e o = absurd cc
open_unknown k u heads.Real ts e o = absurd cc
open_unknown k u heads.Any ts e o = absurd cc
open_unknown k u (heads.Parameter i) ts e o = absurd cc
open_unknown k u (heads.Datatype d) ts e o = absurd cc
open_unknown k u heads.Predicate ts e o = absurd cc

-- the parts of what is no unknown sort
parts_each : (P : ℕ → Type 0) (h : Head) (ts : Sorts) → unknown_of h ≡ None → EachUnknown P (sort h ts) → EachUnknownOf P ts
parts_each P (heads.Unknown v) ts e o = absurd cc
parts_each P heads.Int ts e o = o
parts_each P heads.Bool ts e o = o
parts_each P (heads.Pointer w) ts e o = o
parts_each P heads.Real ts e o = o
parts_each P heads.Any ts e o = o
parts_each P (heads.Parameter i) ts e o = o
parts_each P (heads.Datatype d) ts e o = o
parts_each P heads.Predicate ts e o = o

pairs_below : (n : ℕ) (ts us : Sorts) → EachUnknownOf (λ u. u < n) ts → EachUnknownOf (λ u. u < n) us → AreBelow n (paired (listed ts) (listed us))
pairs_below n no_sorts us a b = tt
pairs_below n (and_sort t ts) no_sorts a b = tt
pairs_below n (and_sort t ts) (and_sort u us) a b = ((a.0, b.0), pairs_below n ts us a.1 b.1)

-- what is left is of numbers, and what is known is resolved
abbrev IsLeftWell : Left → Type 0
IsLeftWell l = IsResolved l.0 × AreBelow (length l.0) l.1

module _ (k : Known) (ps : List Pair) (r : IsResolved k) (below : AreBelow (length k) ps) where
  learnt_well : (u : ℕ) (t : Sort) (l : Left) → slice_get k u ≡ Some None → IsOpen k t → option_map (beside ps) (with_sort k u t) ≡ Some l → IsLeftWell l
  learnt_well u t l opened opened_t e = by (with_sort k u t) refl e
    where
      by : (o : Option Known) → with_sort k u t ≡ o → option_map (beside ps) o ≡ Some l → IsLeftWell l
      by None is e = absurd cc
      by (Some k') is e =
          let s = known_stays k k' u t r opened opened_t is in
          subst IsLeftWell (same_left e) (s.0, subst (λ (n : ℕ). AreBelow n ps) (sym s.1) below)

  step_well : (s t : Sort) (l : Left) → IsOpen k s → IsOpen k t → by_unknown k ps s t (unknown_of (head_of s)) (unknown_of (head_of t)) ≡ Some l → IsLeftWell l
  step_well (sort h ts) (sort g us) l a b e = by (unknown_of h) (unknown_of g) refl refl e
    where
      by : (o q : Option ℕ) → unknown_of h ≡ o → unknown_of g ≡ q → by_unknown k ps (sort h ts) (sort g us) o q ≡ Some l → IsLeftWell l
      by (Some u) q is is' e = learnt_well u (sort g us) l (open_unknown k u h ts is a) b e
      by None (Some u) is is' e = learnt_well u (sort h ts) l (open_unknown k u g us is' b) a e
      by None None is is' e =
          unlike e (pairs_below (length k) ts us (parts_each (λ u. u < length k) h ts is (open_below k (sort h ts) a)) (parts_each (λ u. u < length k) g us is' (open_below k (sort g us) b)))
        where
          unlike : with_parts k ps (sort h ts) (sort g us) ≡ Some l → AreBelow (length k) (paired (listed ts) (listed us)) → IsLeftWell l
          unlike e all = choose (are_heads_alike h g && nat_eq (length (listed ts)) (length (listed us))) e
            where
              choose : (q : Bool) → (if q then Some (k, paired (listed ts) (listed us) ++ ps) else None) ≡ Some l → IsLeftWell l
              choose true e = subst IsLeftWell (same_left e) (r, below_append (length k) (paired (listed ts) (listed us)) ps all below)
              choose false e = absurd cc

-- ---- all steps
made_resolved : (n : ℕ) (k k' : Known) (ps : List Pair) → IsResolved k → AreBelow (length k) ps → made_within n k ps ≡ Some k' → IsResolved k'
made_resolved zero k k' [] r b e = subst IsResolved (same_known e) r
made_resolved (suc n) k k' [] r b e = subst IsResolved (same_known e) r
made_resolved zero k k' (p ∷ ps) r b e = absurd cc
made_resolved (suc n) k k' (p ∷ ps) r b e = by (λ l. made_resolved n l.0 k' l.1) (first_made k p ps) refl e
  where
    by : ((l : Left) → IsResolved l.0 → AreBelow (length l.0) l.1 → made_within n l.0 l.1 ≡ Some k' → IsResolved k') → (o : Option Left) → first_made k p ps ≡ o → then_made (λ l. made_within n l.0 l.1) o ≡ Some k' → IsResolved k'
    by further None is e = absurd cc
    by further (Some l) is e =
        let s = step_well k ps r b.1 (filled (by_known k) p.left) (filled (by_known k) p.right) l (resolved_open k r p.left b.0.0) (resolved_open k r p.right b.0.1) is in
        further l s.0 s.1 e

pub equating_resolves : EquatingResolves
equating_resolves k k' t u r a b e = made_resolved (weight k (pair_of t u ∷ [])) k k' (pair_of t u ∷ []) r ((a, b), tt) e.made

-- ---- unknown sorts that are added
pub fresh_resolved : (k : Known) (n : ℕ) → IsResolved k → IsResolved (with_fresh k n)
fresh_resolved k zero r = subst IsResolved (sym (append-nil k)) r
fresh_resolved k (suc n) r = resolved_more (with_fresh k n) (with_fresh k (suc n)) (ap (with_fresh k) (let q : suc n ≡ n + 1 = omega arith in q) ∙ sym (fresh_more k n)) (fresh_resolved k n r)

prefix_below : (o : UnaryOperator) (n : ℕ) → IsBelow n (prefix_sort o)
prefix_below unaries.Minus n = tt
prefix_below unaries.Not n = tt

operand_below : (o : BinaryOperator) (n : ℕ) → IsBelow n (operand_sort o)
operand_below operators.Times n = tt
operand_below operators.Divide n = tt
operand_below operators.Remainder n = tt
operand_below operators.Plus n = tt
operand_below operators.Minus n = tt
operand_below operators.Less n = tt
operand_below operators.LessOrEqual n = tt
operand_below operators.Greater n = tt
operand_below operators.GreaterOrEqual n = tt
operand_below operators.Equal n = tt
operand_below operators.NotEqual n = tt
operand_below operators.And n = tt
operand_below operators.Or n = tt

result_below : (o : BinaryOperator) (n : ℕ) → IsBelow n (result_sort o)
result_below operators.Times n = tt
result_below operators.Divide n = tt
result_below operators.Remainder n = tt
result_below operators.Plus n = tt
result_below operators.Minus n = tt
result_below operators.Less n = tt
result_below operators.LessOrEqual n = tt
result_below operators.Greater n = tt
result_below operators.GreaterOrEqual n = tt
result_below operators.Equal n = tt
result_below operators.NotEqual n = tt
result_below operators.And n = tt
result_below operators.Or n = tt

-- ---- expressions
-- what is known then is resolved, and not of fewer unknown sorts
pub record Goes (k k' : Known) : Type 0 where
  pub resolved : IsResolved k'
  pub more : length k ≤ length k'

goes_on : {k l m : Known} → Goes k l → Goes l m → Goes k m
goes_on a b = record { resolved = b.resolved; more = (let p = a.more in let q = b.more in omega (arith, p, q)) }

goes_still : (k : Known) → IsResolved k → Goes k k
goes_still k r = record { resolved = r; more = omega arith }

goes_equal : (k k' : Known) (t u : Sort) → IsResolved k → IsBelow (length k) t → IsBelow (length k) u → Equates k t u k' → Goes k k'
goes_equal k k' t u r a b e = record { resolved = equating_resolves k k' t u r a b e; more = (let l = e.long in omega (arith, l)) }

goes_fresh : (k : Known) (n : ℕ) → IsResolved k → Goes k (with_fresh k n)
goes_fresh k n r = record { resolved = fresh_resolved k n r; more = (let l = fresh_length k n in omega (arith, l)) }

still_below : {k k' : Known} (t : Sort) → Goes k k' → IsBelow (length k) t → IsBelow (length k') t
still_below {k} {k'} t g b = below_more (length k) (length k') g.more t b

module _ (s : Scope) (c : Context) where
  mutual
    has_goes : {k k' : Known} {e : GhostExprTree} {t : Sort} → HasSort s c k e t k' → IsResolved k → Goes k k' × IsBelow (length k') t
    has_goes (number {k}) r = (goes_still k r, tt)
    has_goes (truth {k}) r = (goes_still k r, tt)
    has_goes (falsehood {k}) r = (goes_still k r, tt)
    has_goes (result {k} is below) r = (goes_still k r, below)
    has_goes (this_ {k} is) r = (goes_still k r, tt)
    has_goes (thread {k} is) r = (goes_still k r, tt)
    has_goes (name_ {k} {g} is below) r =
        (goes_fresh k g.parameters r, subst (λ n. IsBelow n (instance (length k) g.parameters g.result)) (sym (fresh_length k g.parameters)) (instance_below (length k) (length k) g.parameters (omega arith) g.result below.1))
    has_goes (application {k} {k'} {g} local is below passed) r =
        let f = goes_fresh k g.parameters r in
        let enough : length k + g.parameters ≤ length (with_fresh k g.parameters) = (let l = fresh_length k g.parameters in omega (arith, l)) in
        let p = passed_goes passed f.resolved enough below.0 in
        let whole = instance_below (length k) (length k) g.parameters (omega arith) g.result below.1 in
        (goes_on f p, below_more (length k + g.parameters) (length k') (let q = p.more in omega (arith, q, enough)) (instance (length k) g.parameters g.result) whole)
    has_goes (parenthesized h) r = has_goes h r
    has_goes (conditional test h m) r =
        let p = passes_goes test r tt in
        let q = has_goes h p.resolved in
        let t = meets_goes m q.0.resolved q.1 in
        (goes_on p (goes_on q.0 t.0), t.1)
    has_goes (prefixed {k'} {o} p) r = (passes_goes p r (prefix_below o _), prefix_below o (length k'))
    has_goes (chain h l) r =
        let p = has_goes h r in
        let q = links_goes l p.0.resolved p.1 in
        (goes_on p.0 q.0, q.1)

    meets_goes : {k k' : Known} {z : Bool} {t u : Sort} {d : GhostExprTree} → Meets s c k z t d u k' → IsResolved k → IsBelow (length k) t → Goes k k' × IsBelow (length k') u
    meets_goes (null_second {k} is) r b = (goes_still k r, b)
    meets_goes (null_first other h is) r b = has_goes h r
    meets_goes (any_beside other h not_null is) r b = ((has_goes h r).0, tt)
    meets_goes (alike {k₁} {k'} {t} {u} other h not_null not_any e) r b =
        let p = has_goes h r in
        let q = goes_equal k₁ k' u t p.0.resolved p.1 (still_below t p.0 b) e in
        (goes_on p.0 q, still_below t q (still_below t p.0 b))

    link_goes : {k k' : Known} {z : Bool} {p : Place} {t u : Sort} {x : GhostLinkTree} → LinkHasSort s c k z p t x u k' → IsResolved k → IsBelow (length k) t → Goes k k' × IsBelow (length k') u
    link_goes (compared is m) r b = ((meets_goes m r b).0, tt)
    link_goes (moved other is p) r b = (passes_goes p r tt, tt)
    link_goes (joined {k} {k₁} {k'} {t} {o} other still e p) r b =
        let f = goes_equal k k₁ t (operand_sort o) r b (operand_below o (length k)) e in
        (goes_on f (passes_goes p f.resolved (operand_below o (length k₁))), result_below o (length k'))

    links_goes : {k k' : Known} {z : Bool} {p : Place} {t u : Sort} {xs : GhostLinkTrees} → LinksHaveSort s c k z p t xs u k' → IsResolved k → IsBelow (length k) t → Goes k k' × IsBelow (length k') u
    links_goes (no_links {k}) r b = (goes_still k r, b)
    links_goes (more_links l ls) r b =
        let p = link_goes l r b in
        let q = links_goes ls p.0.resolved p.1 in
        (goes_on p.0 q.0, q.1)

    pub passes_goes : {k k' : Known} {w : Sort} {q : Place} {e : GhostExprTree} → Passes s c k w q e k' → IsResolved k → IsBelow (length k) w → Goes k k'
    passes_goes (inside p) r b = passes_goes p r b
    passes_goes (null {k} is) r b = goes_still k r
    passes_goes (choice {w} is test x y) r b =
        let p = passes_goes test r tt in
        let f = passes_goes x p.resolved (still_below w p b) in
        goes_on p (goes_on f (passes_goes y f.resolved (still_below w f (still_below w p b))))
    passes_goes (any_wanted outside is h) r b = (has_goes h r).0
    passes_goes (as_wanted {k₁} {k'} {w} {t} outside other h e) r b =
        let p = has_goes h r in
        goes_on p.0 (goes_equal k₁ k' t w p.0.resolved p.1 (still_below w p.0 b) e)

    passed_goes : {k k' : Known} {first n : ℕ} {ts : List Sort} {xs : GhostExprTrees} → ArePassed s c k first n ts xs k' → IsResolved k → first + n ≤ length k → EachUnknownOf (λ u. u < first) (row ts) → Goes k k'
    passed_goes (none_passed {k}) r l b = goes_still k r
    passed_goes (one_passed {k} {k₁} {first} {n} {t} p ps) r l b =
        let f = passes_goes p r (below_more (first + n) (length k) l (instance first n t) (instance_below first first n (omega arith) t b.0)) in
        goes_on f (passed_goes ps f.resolved (let q = f.more in omega (arith, l, q)) b.1)

pub passing_resolves : PassingResolves
passing_resolves s c k k' w q e r b p = (passes_goes s c p r b).resolved

pub passing_settles : PassingSettles
passing_settles s c k k' w q e r b p = settling_agrees k' (passing_resolves s c k k' w q e r b p)
