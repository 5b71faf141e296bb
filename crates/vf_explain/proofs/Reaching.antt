-- Points are reached over edges of least paths until no edge leads on, and then all are reached to which there is a path.
use Rattle.std.proofs.Common.{◌≡◌, ℕ, zero, suc, ◌+◌, ◌<◌, ◌≤◌, ◌^◌, inl, List, [], ◌∷◌, length, Option, Some, None, refl, sym, ◌∙◌, ap, subst, arith, Bool, true, false}
use Rattle.std.specs.Prelude.{ℤ, pos, ◌+ℤ◌, ◌≤ℤ◌, Contains, slice_get, slice_set, slice_index, slice_index_or, count_by, is_none, MatchBool}
use Rattle.std.proofs.lemmas.Int.{ints, by_lt_z}
use Rattle.std.proofs.lemmas.List.Sums.{sum_by-cons}
use Rattle.std.proofs.lemmas.List.Elements.{Contains-get_or}
use Rattle.std.proofs.lemmas.Option.{slice_get-get_or}
use Rattle.std.proofs.Math.Decide.{ℕ_discrete}
use Rattle.vf_arith.specs.declared.bounds.Edge.{Edge}
use Rattle.vf_arith.specs.Paths.{Path, path_none, path_edge, IsLeast, HasNegativeCycle, IsSmall}
use Rattle.vf_arith.proofs.Distances.{join}
use Rattle.vf_refute.specs.declared.steps.Derived.{Derived}
use Rattle.vf_table.specs.declared.node.Node.{Node}
use Rattle.vf_table.specs.Tables.{IsInteger}
use Rattle.vf_refute.specs.declared.steps.Derived.TheVariants.{AreEqual, AreWithin}
use Rattle.vf_refute.specs.Refutations.{HasDerived, IsWithin, IsLevel}
use Rattle.vf_log.specs.Derivations.{Derivation, HasAdded}
use Rattle.vf_log.proofs.Continued.{added_has}
use Rattle.vf_explain.specs.Reached.{AreReasons, IsBoundBy, IsBoundOver, AreReached, HaveStayed, LeadsOn, IsClosed}

-- what stands at an index is one of a list
pub edge_in : (es edges : List Edge) (i : ℕ) (d : Edge) → es ≡ edges → i < length edges → Contains edges (slice_index_or es i d)
edge_in es edges i d e l = subst (λ (z : List Edge). Contains edges (slice_index_or z i d)) (sym e) (Contains-get_or edges i d l)

-- least weights are one
pub least_one : {edges : List Edge} {x y : ℕ} {c d : ℤ} → IsLeast edges x y c → IsLeast edges x y d → c ≡ d
least_one {c = c} {d = d} h k = let a : c ≤ℤ d = h.least d k.reached in let b : d ≤ℤ c = k.least c h.reached in omega (arith, ints)

-- going over an edge and then on, the bound is within the limit
pub within : (most before last : ℤ) → IsSmall (2 ^ 100) most → IsSmall (2 ^ 125) (before +ℤ last) → IsWithin (2 ^ 126) ((most +ℤ before) +ℤ last)
within most before last f s =
    let a = f.low in let b = f.high in let l = s.low in let h = s.high in
    record { low = omega (arith, ints); high = omega (arith, ints) }

-- and it is that of the edge and of all the rest
pub regrouped : (most before last : ℤ) → (most +ℤ before) +ℤ last ≡ most +ℤ (before +ℤ last)
regrouped most before last = omega (arith, ints)

-- an edge leads on where the least bound to its end is not below the way over it
pub over : {edges : List Edge} {x : ℕ} (e : Edge) {b c : ℤ} → Contains edges e → IsLeast edges x e.from b → IsLeast edges x e.to c → (b +ℤ e.most) ≤ℤ c → IsLeast edges x e.to (b +ℤ e.most)
over {edges} {x} e {b} {c} m h k l =
    let f : c ≤ℤ (b +ℤ e.most) = k.least (b +ℤ e.most) (join h.reached (path_edge e m path_none) (b +ℤ e.most) (omega (arith, ints))) in
    subst (IsLeast edges x e.to) (let q : c ≡ b +ℤ e.most = omega (arith, ints) in q) k

-- the least weight from a point to itself is 0
pub own_least : {edges : List Edge} {x : ℕ} {c : ℤ} → (HasNegativeCycle edges → ⊥) → IsLeast edges x x c → c ≡ pos 0
own_least {edges} {x} {c} fine h =
    let a : c ≤ℤ pos 0 = h.least (pos 0) path_none in
    by_lt_z c (pos 0) (λ l. absurd (fine (record { point = x; total = c; cycle = h.reached; below = l }))) (λ k. omega (arith, ints))

-- what was written stands there
pub set_here : {A : Type 0} (xs : List A) (n : ℕ) (x : A) → n < length xs → slice_get (slice_set xs n x) n ≡ Some x
set_here [] n x h = absurd (omega (arith, h))
set_here (y ∷ ys) zero x h = refl
set_here (y ∷ ys) (suc n) x h = set_here ys n x (omega (arith, h))

-- what stands elsewhere stays
pub set_there : {A : Type 0} (xs : List A) (n m : ℕ) (x : A) → (m ≡ n → ⊥) → slice_get (slice_set xs n x) m ≡ slice_get xs m
set_there [] n m x h = refl
set_there (y ∷ ys) zero zero x h = absurd (h refl)
set_there (y ∷ ys) zero (suc m) x h = refl
set_there (y ∷ ys) (suc n) zero x h = refl
set_there (y ∷ ys) (suc n) (suc m) x h = set_there ys n m x (λ e. h (ap suc e))

-- one point more is reached
pub reached_more : (known known' : List Derived) (edges : List Edge) (first : Edge) (steps : List (Option ℕ)) (to s : ℕ) → ((a : ℕ) (d : Derived) → HasDerived known a d → HasDerived known' a d) → AreReached known edges first steps → IsBoundOver known' edges first to s → to < length steps → AreReached known' edges first (slice_set steps to (Some s))
reached_more known known' edges first steps to s kept reached new l y r h = elim (ℕ_discrete y to) [
  | yes e ↦ (let there : slice_get (slice_set steps to (Some s)) y ≡ Some (Some s) = ap (slice_get (slice_set steps to (Some s))) e ∙ set_here steps to (Some s) l in
      let same : r ≡ s = cc in
      subst (λ z. IsBoundOver known' edges first z r) (sym e) (subst (λ z. IsBoundOver known' edges first to z) (sym same) new))
  | no n ↦ (let b = reached y r (sym (set_there steps to y (Some s) n) ∙ h) in record { rest = b.rest; least = b.least; derived = kept r (AreWithin first.from y (first.most +ℤ b.rest)) b.derived })
]

-- the points that were reached stay so where one more is
pub stayed_more : (steps : List (Option ℕ)) (to s : ℕ) → slice_get steps to ≡ Some None → HaveStayed steps (slice_set steps to (Some s))
stayed_more steps to s missing y r h = elim (ℕ_discrete y to) [
  | yes e ↦ absurd (let c : slice_get steps to ≡ Some (Some r) = ap (slice_get steps) (sym e) ∙ h in cc)
  | no n ↦ set_there steps to y (Some s) n ∙ h
]

-- and fewer are missing
pub missing_falls : (steps : List (Option ℕ)) (to s : ℕ) → slice_get steps to ≡ Some None → count_by is_none (slice_set steps to (Some s)) < count_by is_none steps
missing_falls [] to s h = absurd cc
missing_falls (None ∷ os) zero s h = simp sum_by-cons (omega arith)
missing_falls (Some r ∷ os) zero s h = absurd cc
missing_falls (None ∷ os) (suc to) s h = let m = missing_falls os to s h in simp sum_by-cons (omega (arith, m))
missing_falls (Some r ∷ os) (suc to) s h = let m = missing_falls os to s h in simp sum_by-cons (omega (arith, m))

-- a point was reached
abbrev pub IsReached : List (Option ℕ) → ℕ → Type 0
IsReached steps y = (s : ℕ) × (slice_get steps y ≡ Some (Some s))

-- where no edge leads on, each point of a least path from a point that was reached is reached
pub reached_along : {edges : List Edge} {z y : ℕ} {c : ℤ} (x : ℕ) (steps : List (Option ℕ)) → IsClosed edges x steps → Path edges z y c → (a b : ℤ) → IsLeast edges x z a → IsLeast edges x y b → b ≡ a +ℤ c → IsReached steps z → IsReached steps y
reached_along x steps closed path_none a b h k e r = r
reached_along {edges = edges} {y = y} x steps closed (path_edge {d = d} e m rest) a b h k q r =
    at_end (slice_get steps e.to) refl (λ s t. reached_along x steps closed rest (a +ℤ e.most) b behind k (omega (arith, ints, q)) (s, t))
  where
    behind : IsLeast edges x e.to (a +ℤ e.most)
    behind = record {
      reached = join h.reached (path_edge e m path_none) (a +ℤ e.most) (omega (arith, ints));
      least = λ f p. let w : b ≤ℤ (f +ℤ d) = k.least (f +ℤ d) (join p rest (f +ℤ d) refl) in omega (arith, ints, q, w);
    }

    lead : ((s : ℕ) → slice_get steps e.to ≡ Some (Some s) → ⊥) → LeadsOn edges x steps e
    lead none = record { step = r.0; reached = r.1; missing = none; before = a; to_it = h; behind = behind }

    at_end : (o : Option (Option ℕ)) → slice_get steps e.to ≡ o → ((s : ℕ) → slice_get steps e.to ≡ Some (Some s) → IsReached steps y) → IsReached steps y
    at_end None t go = absurd (closed e m (lead (λ s q. let n : None ≡ Some (Some s) = sym t ∙ q in absurd cc)))
    at_end (Some None) t go = absurd (closed e m (lead (λ s q. let n : Some None ≡ Some (Some s) = sym t ∙ q in absurd cc)))
    at_end (Some (Some s)) t go = go s t

-- where no edge leads on, a point is reached to which there is a least path
pub reached_at_last : (edges : List Edge) (x y : ℕ) (c a : ℤ) (steps : List (Option ℕ)) → (HasNegativeCycle edges → ⊥) → IsClosed edges x steps → IsLeast edges x y c → IsLeast edges x x a → IsReached steps x → IsReached steps y
reached_at_last edges x y c a steps fine closed least own r =
    let z = own_least fine own in
    reached_along x steps closed least.reached a c own least (omega (arith, ints, z)) r

-- where each edge was looked at and none led on, none leads on
pub told_at_end : (b : Bool) (P : Type 0) (edges : List Edge) (x i : ℕ) (steps before : List (Option ℕ)) → length edges ≤ i
    → MatchBool b P ((steps ≡ before) × ((k : ℕ) (e : Edge) → k < i → slice_get edges k ≡ Some e → LeadsOn edges x before e → ⊥)) → MatchBool b P ((steps ≡ before) × IsClosed edges x before)
told_at_end true P edges x i steps before l h = h
told_at_end false P edges x i steps before l h = (h.0, λ e m. let k = m.1 in h.1 m.0 e (omega (arith, k, l)) (slice_get-get_or edges m.0 e m.1 ∙ ap Some m.2))

-- no edge before an index leads on
abbrev pub NoneLeads : List Edge → ℕ → ℕ → List (Option ℕ) → Type 0
NoneLeads edges x i steps = (k : ℕ) (e : Edge) → k < i → slice_get edges k ≡ Some e → LeadsOn edges x steps e → ⊥

-- an edge led on
pub told_led : (edges : List Edge) (x i : ℕ) (b c over : Bool) (new now before : List (Option ℕ)) (Q S : Type 0) → b ≡ true → over ≡ true → MatchBool over (count_by is_none new < count_by is_none now) Q
    → MatchBool c (count_by is_none now < count_by is_none before) ((now ≡ before) × NoneLeads edges x i before) → MatchBool b (count_by is_none new < count_by is_none before) S
told_led edges x i b c over new now before Q S is led h k = subst (λ z. MatchBool z (count_by is_none new < count_by is_none before) S) (sym is) (fallen c k)
  where
    less : count_by is_none new < count_by is_none now
    less = subst (λ z. MatchBool z (count_by is_none new < count_by is_none now) Q) led h

    fallen : (d : Bool) → MatchBool d (count_by is_none now < count_by is_none before) ((now ≡ before) × NoneLeads edges x i before) → count_by is_none new < count_by is_none before
    fallen true m = let l = less in omega (arith, l, m)
    fallen false m = let l = less in let e = ap (count_by is_none) m.0 in omega (arith, l, e)

-- an edge did not lead on
pub told_not : (edges : List Edge) (x i : ℕ) (e : Edge) (b c over : Bool) (new now before : List (Option ℕ)) → b ≡ c → over ≡ false → slice_get edges i ≡ Some e
    → MatchBool over (count_by is_none new < count_by is_none now) ((new ≡ now) × (LeadsOn edges x now e → ⊥)) → MatchBool c (count_by is_none now < count_by is_none before) ((now ≡ before) × NoneLeads edges x i before)
    → MatchBool b (count_by is_none new < count_by is_none before) ((new ≡ before) × NoneLeads edges x (i + 1) before)
told_not edges x i e b c over new now before is none found h k = subst (λ z. MatchBool z (count_by is_none new < count_by is_none before) ((new ≡ before) × NoneLeads edges x (i + 1) before)) (sym is) (kept c k)
  where
    told : (new ≡ now) × (LeadsOn edges x now e → ⊥)
    told = subst (λ z. MatchBool z (count_by is_none new < count_by is_none now) ((new ≡ now) × (LeadsOn edges x now e → ⊥))) none h

    last : now ≡ before → (j : ℕ) (f : Edge) → j ≡ i → slice_get edges j ≡ Some f → LeadsOn edges x before f → ⊥
    last same j f at there leads =
        let one : f ≡ e = let g = ap (slice_get edges) (sym at) in cc in
        told.1 (subst (λ z. LeadsOn edges x z e) (sym same) (subst (λ z. LeadsOn edges x before z) one leads))

    kept : (d : Bool) → MatchBool d (count_by is_none now < count_by is_none before) ((now ≡ before) × NoneLeads edges x i before) → MatchBool d (count_by is_none new < count_by is_none before) ((new ≡ before) × NoneLeads edges x (i + 1) before)
    kept true m = let e1 = ap (count_by is_none) told.0 in omega (arith, m, e1)
    kept false m = (
      told.0 ∙ m.0,
      λ j f l there leads. elim (ℕ_discrete j i) [
        | yes q ↦ last m.0 j f q there leads
        | no n ↦ m.1 j f (omega (arith, l, n)) there leads
      ],
    )

-- what derived the edges still does
pub reasons_kept : (known known' : List Derived) (edges : List Edge) (reasons : List ℕ) → ((a : ℕ) (d : Derived) → HasDerived known a d → HasDerived known' a d) → AreReasons known edges reasons → AreReasons known' edges reasons
reasons_kept known known' edges reasons kept h = record { long = h.long; each = λ i e f. kept (slice_index reasons i) (AreWithin e.from e.to e.most) (h.each i e f) }

-- an integer term is equal to itself, and so within 0 of itself
pub own_level : (before after : Derivation) (x s : ℕ) → HasAdded before after s (AreEqual x x) → IsInteger before.nodes x → (y : ℕ) × (z : ℕ) × (c : ℤ) × IsLevel after.nodes after.known s y z c × IsWithin (2 ^ 126) c
own_level before after x s added is =
    let there = subst (λ (ns : List Node). IsInteger ns x) (sym added.nodes) is in
    (x, x, pos 0, inl (added_has added, there, there, refl), record { low = omega (arith, ints); high = omega (arith, ints) })

pub own_within : (before middle after : Derivation) (x s t : ℕ) → HasAdded before middle s (AreEqual x x) → IsInteger before.nodes x → ((y z : ℕ) (c : ℤ) → IsLevel middle.nodes middle.known s y z c → HasAdded middle after t (AreWithin y z c)) → HasAdded middle after t (AreWithin x x (pos 0))
own_within before middle after x s t added is gives =
    let there = subst (λ (ns : List Node). IsInteger ns x) (sym added.nodes) is in
    gives x x (pos 0) (inl (added_has added, there, there, refl))

-- the least bound from a point to itself is 0
pub own_is_least : (edges : List Edge) (x : ℕ) → (HasNegativeCycle edges → ⊥) → IsLeast edges x x (pos 0)
own_is_least edges x fine = record {
  reached = path_none;
  least = λ d p. by_lt_z d (pos 0) (λ l. absurd (fine (record { point = x; total = d; cycle = p; below = l }))) (λ k. k);
}

-- at first one point alone was reached, over the first edge
pub first_reached : (known : List Derived) (edges : List Edge) (first : Edge) (reason : ℕ) (steps items : List (Option ℕ)) → (HasNegativeCycle edges → ⊥) → HasDerived known reason (AreWithin first.from first.to first.most) → steps ≡ items
    → ((k s : ℕ) → slice_get items k ≡ Some (Some s) → (k ≡ first.to) × (s ≡ reason)) → AreReached known edges first steps
first_reached known edges first reason steps items fine derived same others y s h =
    let o = others y s (ap (λ os. slice_get os y) (sym same) ∙ h) in
    let none : first.most +ℤ pos 0 ≡ first.most = omega (arith, ints) in
    subst (λ z. IsBoundOver known edges first z s) (sym o.0) (subst (λ z. IsBoundOver known edges first first.to z) (sym o.1)
    (record { rest = pos 0; least = own_is_least edges first.to fine; derived = subst (λ z. HasDerived known reason (AreWithin first.from first.to z)) (sym none) derived }))

-- over the edge from a point to itself with the number 0, the bound is that of the rest
pub own_over : {known : List Derived} {edges : List Edge} (own : Edge) {y s : ℕ} → own.most ≡ pos 0 → own.from ≡ own.to → IsBoundOver known edges own y s → IsBoundBy known edges own.from y s
own_over {known} {edges} own {y} {s} none same b =
    let rest : own.most +ℤ b.rest ≡ b.rest = omega (arith, ints, none) in
    record { total = b.rest; least = subst (λ (x : ℕ). IsLeast edges x y b.rest) (sym same) b.least; derived = subst (λ z. HasDerived known s (AreWithin own.from y z)) rest b.derived }
