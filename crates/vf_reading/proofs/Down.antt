-- From the terms to the table.
use Rattle.std.proofs.Common.{◌≡◌, ℕ, zero, suc, ◌<◌, inl, inr, List, [], ◌∷◌, map, length, Some, refl, sym, ◌∙◌, ap, subst, arith, get_or}
use Rattle.std.specs.Prelude.{ℤ, neg_ℤ, Contains, slice_get}
use Rattle.std.proofs.lemmas.Option.{slice_get_cases}
use Rattle.vf_tree.specs.Core.{Identity}
use Rattle.vf_table.specs.declared.node.Head.{Head}
use Rattle.vf_table.specs.declared.node.Node.{Node}
use Rattle.vf_table.specs.Tables as tables
use Rattle.vf_table.specs.Tables.{IsInjective, IsNumber, IsPlus, HaveClashingHeads}
use Rattle.vf_refute.specs.declared.steps.Fact.{Fact}
use Rattle.vf_refute.specs.declared.steps.Fact.TheVariants as facts_
use Rattle.vf_refute.specs.Closure as N
use Rattle.vf_closure.specs.Terms as terms
use Rattle.vf_closure.specs.Terms.{Integer, Term, Terms, term, no_terms, and_term, number, plus, count, kind_of, IsAt, here, further_on}
use Rattle.vf_closure.specs.Literals.{Literal, Equal, NotEqual, AtMost, Difference, NotDifference, False, IsInteger}
use Rattle.vf_closure.specs.Closure as T
use Rattle.vf_closure.specs.Closure.{no_unfoldings, Arises}
use Rattle.vf_reading.specs.Reading.{StandsFor, in_row, IsReading, literal, IsTableOf, IsInside}
use Rattle.vf_reading.proofs.Heads as H
use Rattle.vf_reading.proofs.Up.{part_in, count_row}

at_down : (tree : ℕ → Term) (xs : List ℕ) {i : ℕ} {t : Term} {ts : Terms} → IsAt t i ts → in_row tree xs ≡ ts → (i < length xs) × (tree (get_or xs i 0) ≡ t)
at_down tree [] here e = absurd (cc)
at_down tree [] (further_on h) e = absurd (cc)
at_down tree (x ∷ xs) here e = (omega arith, cc)
at_down tree (x ∷ xs) (further_on h) e = let k = at_down tree xs h (cc) in (let l = k.0 in omega arith, k.1)

fact_down : (tree : ℕ → Term) (facts : List Fact) (l : Literal) → Contains (map (literal tree) facts) l → (f : Fact) × Contains facts f × (literal tree f ≡ l)
fact_down tree [] l m = absurd (let h = m.1 in omega arith)
fact_down tree (f ∷ facts) l (zero, i, e) = (f, (0, omega arith, refl), e)
fact_down tree (f ∷ facts) l (suc k, i, e) = let r = fact_down tree facts l (k, omega arith, e) in (r.0, (suc (r.1).0, (let j = (r.1).1 in omega arith), (r.1).2), r.2)

node_at : (nodes : List Node) (a : ℕ) → a < length nodes → (m : Node) × (slice_get nodes a ≡ Some m)
node_at nodes a l = elim (slice_get_cases nodes a).1 [ inl h ↦ (h.0, h.2) | inr h ↦ absurd (let k = h.0 in omega arith) ]

-- a row of two terms
two_down : (tree : ℕ → Term) (xs : List ℕ) (s t : Term) → in_row tree xs ≡ and_term s (and_term t no_terms) → (length xs ≡ 2) × (tree (get_or xs 0 0) ≡ s) × (tree (get_or xs 1 0) ≡ t)
two_down tree [] s t e = absurd (cc)
two_down tree (x ∷ []) s t e = absurd (let f : no_terms ≡ and_term t no_terms = cc in cc)
two_down tree (x ∷ y ∷ []) s t e = (refl, cc, cc)
two_down tree (x ∷ y ∷ z ∷ zs) s t e = absurd (let f : and_term (tree z) (in_row tree zs) ≡ no_terms = cc in cc)

integer_head : (t : Term) (h : terms.Head) (ts : Terms) → t ≡ term h ts → IsInteger t → kind_of h ≡ Integer
integer_head t h ts e i = subst IsInteger e i

module _ (nodes : List Node) (meant : Head → terms.Head) (tree : ℕ → Term) (facts : List Fact) (reading : IsReading nodes meant tree) (held : IsTableOf nodes tree (map (literal tree) facts)) (inside : (l : Fact) → Contains facts l → IsInside (length nodes) l) where
  -- the number of a term
  record Place (t : Term) : Type 0 where
    at : ℕ
    within : at < length nodes
    is : tree at ≡ t

  place : {d : ℕ} {t : Term} → Arises no_unfoldings (map (literal tree) facts) d t → Place t
  place {d} {t} h = let k = held.has d t h in record { at = k.0; within = k.1; is = k.2 }

  same_place : {t : Term} (p q : Place t) → p.at ≡ q.at
  same_place p q = held.once p.at q.at p.within q.within (p.is ∙ sym q.is)

  record Down (s t : Term) : Type 0 where
    left : Place s
    right : Place t
    equal : N.Same nodes facts left.at right.at

  record BoundDown (s t : Term) (c : ℤ) : Type 0 where
    left : Place s
    right : Place t
    bound : N.Bound nodes facts left.at right.at c

  -- at given places
  equal_at : {s t : Term} → Down s t → (p : Place s) (q : Place t) → N.Same nodes facts p.at q.at
  equal_at d p q = subst (λ x. N.Same nodes facts x q.at) (same_place d.left p) (subst (N.Same nodes facts d.left.at) (same_place d.right q) d.equal)

  bound_at : {s t : Term} {c : ℤ} → BoundDown s t c → (p : Place s) (q : Place t) → N.Bound nodes facts p.at q.at c
  bound_at {s} {t} {c} d p q = subst (λ x. N.Bound nodes facts x q.at c) (same_place d.left p) (subst (λ x. N.Bound nodes facts d.left.at x c) (same_place d.right q) d.bound)

  -- the node of a term
  record Found (h : terms.Head) (ts : Terms) (a : ℕ) : Type 0 where
    node : Node
    found : slice_get nodes a ≡ Some node
    head : meant node.head ≡ h
    row : in_row tree node.parts.items ≡ ts

  abbrev found_at : {h : terms.Head} {ts : Terms} (p : Place (term h ts)) → Found h ts p.at
  found_at p = let m = node_at nodes p.at p.within in let w = reading.whole p.at m.0 m.1 in let e = p.is in
      record { node = m.0; found = m.1; head = cc; row = cc }

  stands_at : {h : terms.Head} {ts : Terms} {a : ℕ} (f : Found h ts a) → StandsFor f.node.head h
  stands_at {h} {ts} {a} f = subst (StandsFor f.node.head) f.head (reading.stands a f.node f.found)

  one_head : {h : terms.Head} {xs ys : Terms} {a b : ℕ} (f : Found h xs a) (g : Found h ys b) → f.node.head ≡ g.node.head
  one_head {a = a} {b = b} f g = reading.one a b f.node g.node f.found g.found (f.head ∙ sym g.head)

  abbrev part_place : {h : terms.Head} {ts : Terms} {a : ℕ} {t : Term} (f : Found h ts a) (i : ℕ) → i < length f.node.parts.items → tree (get_or f.node.parts.items i 0) ≡ t → Place t
  part_place {a = a} f i l e = record { at = get_or f.node.parts.items i 0; within = part_in nodes (length nodes) a f.node i reading.parts f.found l; is = e }

  number_at : {c : ℤ} (p : Place (number c)) → IsNumber nodes p.at c
  number_at p = let f = found_at p in (f.node, f.found, H.number_down (stands_at f) refl)

  -- the part of a sum, and the sum
  record Sum_ (q : Term) (c : ℤ) (a : ℕ) : Type 0 where
    part : Place q
    is : IsPlus nodes a part.at c

  sum_at : {q : Term} {c : ℤ} (p : Place (plus q c)) → Sum_ q c p.at
  sum_at {q} {c} p =
      let f = found_at p in let r = two_down tree f.node.parts.items q (number c) f.row in
      record {
        part = part_place f 0 (omega (arith, r.0)) r.1;
        is = record { node = f.node; found = f.found; head = H.plus_down (stands_at f) refl; two = r.0; part = refl; number = number_at (part_place f 1 (omega (arith, r.0)) r.2) };
      }

  is_integer : {t : Term} (p : Place t) → IsInteger t → tables.IsInteger nodes p.at
  is_integer {t} p i = let m = node_at nodes p.at p.within in
      (m.0, m.1, H.integer_down (reading.stands p.at m.0 m.1) (integer_head t (meant m.0.head) (in_row tree m.0.parts.items) (sym p.is ∙ reading.whole p.at m.0 m.1) i))

  given_down : (s t : Term) (f : Fact) → Contains facts f → literal tree f ≡ Equal s t → Down s t
  given_down s t (facts_.Equal a b) m e = let i = inside (facts_.Equal a b) m in record { left = record { at = a; within = i.0; is = cc }; right = record { at = b; within = i.1; is = cc }; equal = N.given m }
  given_down s t (facts_.NotEqual a b) m e = absurd (cc)
  given_down s t (facts_.AtMost x y c) m e = absurd (cc)
  given_down s t (facts_.Difference x y c) m e = absurd (cc)
  given_down s t (facts_.NotDifference x y c) m e = absurd (cc)
  given_down s t facts_.False m e = absurd (cc)

  most_down : (s t : Term) (d : ℤ) (f : Fact) → Contains facts f → literal tree f ≡ AtMost s t d → BoundDown s t d
  most_down s t d (facts_.AtMost x y c) m e = let i = inside (facts_.AtMost x y c) m in record { left = record { at = x; within = i.0; is = cc }; right = record { at = y; within = i.1; is = cc }; bound = subst (N.Bound nodes facts x y) (let z : c ≡ d = cc in z) (N.most m) }
  most_down s t d (facts_.Equal a b) m e = absurd (cc)
  most_down s t d (facts_.NotEqual a b) m e = absurd (cc)
  most_down s t d (facts_.Difference x y c) m e = absurd (cc)
  most_down s t d (facts_.NotDifference x y c) m e = absurd (cc)
  most_down s t d facts_.False m e = absurd (cc)

  difference_down : (s t : Term) (d : ℤ) (f : Fact) → Contains facts f → literal tree f ≡ Difference s t d → BoundDown s t d × BoundDown t s (neg_ℤ d)
  difference_down s t d (facts_.Difference x y c) m e = let i = inside (facts_.Difference x y c) m in let z : c ≡ d = cc in (
    record { left = record { at = x; within = i.0; is = cc }; right = record { at = y; within = i.1; is = cc }; bound = subst (N.Bound nodes facts x y) z (N.difference_up m) },
    record { left = record { at = y; within = i.1; is = cc }; right = record { at = x; within = i.0; is = cc }; bound = subst (λ w. N.Bound nodes facts y x (neg_ℤ w)) z (N.difference_down m) },
  )
  difference_down s t d (facts_.Equal a b) m e = absurd (cc)
  difference_down s t d (facts_.NotEqual a b) m e = absurd (cc)
  difference_down s t d (facts_.AtMost x y c) m e = absurd (cc)
  difference_down s t d (facts_.NotDifference x y c) m e = absurd (cc)
  difference_down s t d facts_.False m e = absurd (cc)

  -- parts that are equal place by place
  abbrev PartsEqual : List ℕ → List ℕ → Type 0
  PartsEqual ps qs = (length ps ≡ length qs) × ((i : ℕ) → i < length ps → N.Same nodes facts (get_or ps i 0) (get_or qs i 0))

  abbrev AreInside : List ℕ → Type 0
  AreInside ps = (i : ℕ) → i < length ps → get_or ps i 0 < length nodes

  none : (ps qs : List ℕ) → in_row tree ps ≡ no_terms → in_row tree qs ≡ no_terms → PartsEqual ps qs
  none [] [] e f = (refl, λ i l. absurd (omega arith))
  none [] (q ∷ qs) e f = absurd (cc)
  none (p ∷ ps) qs e f = absurd (cc)

  some : (s t : Term) (xs ys : Terms) (ps qs : List ℕ) → AreInside ps → AreInside qs → in_row tree ps ≡ and_term s xs → in_row tree qs ≡ and_term t ys → Down s t →
      ((ps' qs' : List ℕ) → AreInside ps' → AreInside qs' → in_row tree ps' ≡ xs → in_row tree qs' ≡ ys → PartsEqual ps' qs') → PartsEqual ps qs
  some s t xs ys [] qs below below' e f d rest = absurd (cc)
  some s t xs ys (p ∷ ps) [] below below' e f d rest = absurd (cc)
  some s t xs ys (p ∷ ps) (q ∷ qs) below below' e f d rest =
      let r = rest ps qs (λ i l. below (suc i) (omega arith)) (λ i l. below' (suc i) (omega arith)) (cc) (cc) in
      (let k = r.0 in omega arith, each (equal_at d (record { at = p; within = below 0 (omega arith); is = cc }) (record { at = q; within = below' 0 (omega arith); is = cc })) r.1)
    where
      each : N.Same nodes facts p q → ((i : ℕ) → i < length ps → N.Same nodes facts (get_or ps i 0) (get_or qs i 0)) → (i : ℕ) → i < suc (length ps) → N.Same nodes facts (get_or (p ∷ ps) i 0) (get_or (q ∷ qs) i 0)
      each h k zero l = h
      each h k (suc i) l = k i (omega arith)

  injective_at : {c : Identity} {xs ys : Terms} {i : ℕ} {s t : Term} → IsAt s i xs → IsAt t i ys → count xs ≡ count ys → Down (term (terms.Constructor c) xs) (term (terms.Constructor c) ys) → Down s t
  injective_at {c} {xs} {ys} {i} {s} {t} v w n d =
      let f = found_at d.left in let g = found_at d.right in
      let a = at_down tree f.node.parts.items v f.row in let b = at_down tree g.node.parts.items w g.row in
      let k = H.constructor_down (stands_at f) refl in
      record {
        left = part_place f i a.0 a.1;
        right = part_place g i b.0 b.1;
        equal = N.injective f.found g.found (subst IsInjective (sym k.1) tt) (one_head f g)
            (sym (count_row tree f.node.parts.items) ∙ ap count f.row ∙ n ∙ sym (ap count g.row) ∙ count_row tree g.node.parts.items) a.0 d.equal;
      }

  mutual
    same_down : {s t : Term} → T.Same no_unfoldings (map (literal tree) facts) s t → Down s t
    same_down (T.given {a = s} {b = t} h) = let f = fact_down tree facts (Equal s t) h in given_down s t f.0 f.1 f.2
    same_down (T.same_self h) = let p = place h in record { left = p; right = p; equal = N.same_self }
    same_down (T.same_back h) = let d = same_down h in record { left = d.right; right = d.left; equal = N.same_back d.equal }
    same_down (T.same_through h k) = let d = same_down h in let e = same_down k in record { left = d.left; right = e.right; equal = N.same_through d.equal (equal_at e d.right e.right) }
    same_down (T.congruent {h = h} {xs = xs} {ys = ys} i j e) =
        let p = place i in let q = place j in let f = found_at p in let g = found_at q in
        let r = all_down e f.node.parts.items g.node.parts.items (λ k l. part_in nodes (length nodes) p.at f.node k reading.parts f.found l) (λ k l. part_in nodes (length nodes) q.at g.node k reading.parts g.found l) f.row g.row in
        record { left = p; right = q; equal = N.congruent f.found g.found (one_head f g) r.0 r.1 }
    same_down (T.injective e n v w) = injective_at v w n (same_down e)
    same_down (T.squeezed i j h k) = let d = bound_down h in let e = bound_down k in
        record { left = d.left; right = d.right; equal = N.squeezed (is_integer d.left i) (is_integer d.right j) d.bound (bound_at e d.right d.left) }
    same_down (T.unfolds l h e) = absurd (cc)
    same_down (T.unfolds_case l h k e f g) = absurd (cc)

    all_down : {xs ys : Terms} → T.AllSame no_unfoldings (map (literal tree) facts) xs ys → (ps qs : List ℕ) → AreInside ps → AreInside qs → in_row tree ps ≡ xs → in_row tree qs ≡ ys → PartsEqual ps qs
    all_down T.no_more ps qs below below' e f = none ps qs e f
    all_down (T.one_more {a = s} {b = t} {xs = xs} {ys = ys} h k) ps qs below below' e f = some s t xs ys ps qs below below' e f (same_down h) (λ ps' qs' b b' e' f'. all_down k ps' qs' b b' e' f')

    bound_down : {s t : Term} {c : ℤ} → T.Bound no_unfoldings (map (literal tree) facts) s t c → BoundDown s t c
    bound_down (T.most {x = s} {y = t} {c = c} h) = let f = fact_down tree facts (AtMost s t c) h in most_down s t c f.0 f.1 f.2
    bound_down (T.difference_up {x = s} {y = t} {c = c} h) = let f = fact_down tree facts (Difference s t c) h in (difference_down s t c f.0 f.1 f.2).0
    bound_down (T.difference_down {x = s} {y = t} {c = c} h) = let f = fact_down tree facts (Difference s t c) h in (difference_down s t c f.0 f.1 f.2).1
    bound_down (T.still i h) = let p = place h in record { left = p; right = p; bound = N.still (is_integer p i) }
    bound_down (T.weaker l h) = let d = bound_down h in record { left = d.left; right = d.right; bound = N.weaker l d.bound }
    bound_down (T.chain h k) = let d = bound_down h in let e = bound_down k in record { left = d.left; right = e.right; bound = N.chain d.bound (bound_at e d.right e.right) }
    bound_down (T.sum_up h) = let p = place h in let s = sum_at p in record { left = p; right = s.part; bound = N.sum_up s.is }
    bound_down (T.sum_down h) = let p = place h in let s = sum_at p in record { left = s.part; right = p; bound = N.sum_down s.is }
    bound_down (T.number_up h) = let p = place h in let o = place T.zero_arises in record { left = p; right = o; bound = N.number_up (number_at p) (number_at o) }
    bound_down (T.number_down h) = let p = place h in let o = place T.zero_arises in record { left = o; right = p; bound = N.number_down (number_at p) (number_at o) }
    bound_down (T.level i j h) = let d = same_down h in record { left = d.left; right = d.right; bound = N.level (is_integer d.left i) (is_integer d.right j) d.equal }

  pub equal_down : (a b : ℕ) → a < length nodes → b < length nodes → T.Same no_unfoldings (map (literal tree) facts) (tree a) (tree b) → N.Same nodes facts a b
  equal_down a b i j h = equal_at (same_down h) (record { at = a; within = i; is = refl }) (record { at = b; within = j; is = refl })

  clash_at : {h k : terms.Head} {xs ys : Terms} → T.AreClashing h k → Down (term h xs) (term k ys) → N.Conflict nodes facts
  clash_at {h} {k} c d = let f = found_at d.left in let g = found_at d.right in
      N.clash (f.node, g.node, f.found, g.found, H.clash_down (stands_at f) (stands_at g) (λ e. sym f.head ∙ ap meant e ∙ g.head) c) d.equal

  unequal_down : (s t : Term) (f : Fact) → Contains facts f → literal tree f ≡ NotEqual s t → Down s t → N.Conflict nodes facts
  unequal_down s t (facts_.NotEqual a b) m e d = let i = inside (facts_.NotEqual a b) m in N.denied_equality m (equal_at d (record { at = a; within = i.0; is = cc }) (record { at = b; within = i.1; is = cc }))
  unequal_down s t (facts_.Equal x y) m e d = absurd (cc)
  unequal_down s t (facts_.AtMost x y c) m e d = absurd (cc)
  unequal_down s t (facts_.Difference x y c) m e d = absurd (cc)
  unequal_down s t (facts_.NotDifference x y c) m e d = absurd (cc)
  unequal_down s t facts_.False m e d = absurd (cc)

  differ_down : (s t : Term) (k : ℤ) (f : Fact) → Contains facts f → literal tree f ≡ NotDifference s t k → BoundDown s t k → BoundDown t s (neg_ℤ k) → N.Conflict nodes facts
  differ_down s t k (facts_.NotDifference x y c) m e d d' = let i = inside (facts_.NotDifference x y c) m in let z : k ≡ c = cc in
      let p : Place s = record { at = x; within = i.0; is = cc } in let q : Place t = record { at = y; within = i.1; is = cc } in
      N.denied_difference m (subst (N.Bound nodes facts x y) z (bound_at d p q)) (subst (λ w. N.Bound nodes facts y x (neg_ℤ w)) z (bound_at d' q p))
  differ_down s t k (facts_.Equal x y) m e d d' = absurd (cc)
  differ_down s t k (facts_.NotEqual a b) m e d d' = absurd (cc)
  differ_down s t k (facts_.AtMost x y c) m e d d' = absurd (cc)
  differ_down s t k (facts_.Difference x y c) m e d d' = absurd (cc)
  differ_down s t k facts_.False m e d d' = absurd (cc)

  false_down : (f : Fact) → Contains facts f → literal tree f ≡ False → N.Conflict nodes facts
  false_down facts_.False m e = N.falsehood m
  false_down (facts_.Equal x y) m e = absurd (cc)
  false_down (facts_.NotEqual a b) m e = absurd (cc)
  false_down (facts_.AtMost x y c) m e = absurd (cc)
  false_down (facts_.Difference x y c) m e = absurd (cc)
  false_down (facts_.NotDifference x y c) m e = absurd (cc)

  pub conflict_down : T.Conflict no_unfoldings (map (literal tree) facts) → N.Conflict nodes facts
  conflict_down (T.below_itself h) = let d = bound_down h in N.below_itself (bound_at d d.left d.left)
  conflict_down (T.clash c e) = clash_at c (same_down e)
  conflict_down (T.denied_equality {a = s} {b = t} m e) = let f = fact_down tree facts (NotEqual s t) m in unequal_down s t f.0 f.1 f.2 (same_down e)
  conflict_down (T.denied_difference {x = s} {y = t} {c = c} m h k) = let f = fact_down tree facts (NotDifference s t c) m in differ_down s t c f.0 f.1 f.2 (bound_down h) (bound_down k)
  conflict_down (T.falsehood m) = let f = fact_down tree facts False m in false_down f.0 f.1 f.2
