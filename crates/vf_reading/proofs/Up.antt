-- From the table to the terms.
use Rattle.std.proofs.Common.{◌≡◌, ℕ, zero, suc, ◌<◌, ◌⊎◌, inl, inr, List, [], ◌∷◌, map, length, Some, refl, sym, ◌∙◌, ap, subst, arith, get_or}
use Rattle.std.specs.Prelude.{ℤ, pos, Contains, slice_get}
use Rattle.std.proofs.lemmas.Option.{slice_get_within, get_or_from_slice_get}
use Rattle.std.proofs.lemmas.List.{get_or-map, length-map}
use Rattle.vf_table.specs.declared.node.Head.{Head}
use Rattle.vf_table.specs.declared.node.Node.{Node}
use Rattle.vf_table.specs.Tables as tables
use Rattle.vf_table.specs.Tables.{PartsAreBelow, IsInjective, IsNumber, IsPlus, HaveClashingHeads}
use Rattle.vf_refute.specs.declared.steps.Fact.{Fact}
use Rattle.vf_refute.specs.declared.steps.Fact.TheVariants as facts_
use Rattle.vf_refute.specs.Closure as N
use Rattle.vf_closure.specs.Terms as terms
use Rattle.vf_closure.specs.Terms.{Integer, Term, Terms, term, no_terms, and_term, number, plus, count, kind_of, IsAt, here, further_on, itself}
use Rattle.vf_closure.specs.Literals.{IsInteger}
use Rattle.vf_closure.specs.Closure as T
use Rattle.vf_closure.specs.Closure.{no_unfoldings, Arises}
use Rattle.vf_reading.specs.Reading.{in_row, IsReading, literal, IsTableOf}
use Rattle.vf_reading.proofs.Heads as H

pub fact_up : (tree : ℕ → Term) (facts : List Fact) (l : Fact) → Contains facts l → Contains (map (literal tree) facts) (literal tree l)
fact_up tree facts l m = (m.0, rw length-map (m.1), get_or-map (literal tree) facts m.0 l (literal tree l) m.1 ∙ ap (literal tree) m.2)

pub at_row : (tree : ℕ → Term) (xs : List ℕ) (i : ℕ) → i < length xs → IsAt (tree (get_or xs i 0)) i (in_row tree xs)
at_row tree [] i l = absurd (omega arith)
at_row tree (x ∷ xs) zero l = here
at_row tree (x ∷ xs) (suc i) l = further_on (at_row tree xs i (omega arith))

pub count_row : (tree : ℕ → Term) (xs : List ℕ) → count (in_row tree xs) ≡ length xs
count_row tree [] = refl
count_row tree (x ∷ xs) = let e = count_row tree xs in omega arith

pub part_in : (nodes : List Node) (n a : ℕ) (m : Node) (i : ℕ) → PartsAreBelow nodes n → slice_get nodes a ≡ Some m → i < length m.parts.items → get_or m.parts.items i 0 < n
part_in nodes n a m i below e l = (rw (get_or_from_slice_get nodes a m m e) at (below a m (slice_get_within nodes a m e))) i 0 l

-- two parts as a list
two_items : (xs : List ℕ) → length xs ≡ 2 → xs ≡ get_or xs 0 0 ∷ get_or xs 1 0 ∷ []
two_items [] e = absurd (omega arith)
two_items (x ∷ []) e = absurd (omega arith)
two_items (x ∷ y ∷ []) e = refl
two_items (x ∷ y ∷ z ∷ zs) e = absurd (omega arith)

integer_term : (t : Term) (h : terms.Head) (ts : Terms) → t ≡ term h ts → kind_of h ≡ Integer → IsInteger t
integer_term t h ts e k = subst IsInteger (sym e) k

module _ (nodes : List Node) (meant : Head → terms.Head) (tree : ℕ → Term) (facts : List Fact) (reading : IsReading nodes meant tree) (held : IsTableOf nodes tree (map (literal tree) facts)) where
  abbrev Equal_ : Term → Term → Type 0
  Equal_ s t = T.Same no_unfoldings (map (literal tree) facts) s t

  abbrev Bound_ : Term → Term → ℤ → Type 0
  Bound_ s t c = T.Bound no_unfoldings (map (literal tree) facts) s t c

  integer_up : (x : ℕ) → tables.IsInteger nodes x → IsInteger (tree x)
  integer_up x i = integer_term (tree x) (meant i.0.head) (in_row tree i.0.parts.items) (reading.whole x i.0 i.1) (H.integer_up (reading.stands x i.0 i.1) i.2)

  number_up : (x : ℕ) (c : ℤ) → IsNumber nodes x c → tree x ≡ number c
  number_up x c p = reading.whole x p.0 p.1 ∙ ap (λ h. term h (in_row tree p.0.parts.items)) (H.number_up c (reading.stands x p.0 p.1) p.2) ∙ ap (λ (l : List ℕ). term (terms.Number c) (in_row tree l)) (reading.leaf x p.0 c p.1 p.2)

  plus_up : (a q : ℕ) (c : ℤ) → IsPlus nodes a q c → tree a ≡ plus (tree q) c
  plus_up a q c p = reading.whole a p.node p.found ∙ ap (λ h. term h (in_row tree p.node.parts.items)) (H.plus_up (reading.stands a p.node p.found) p.head)
      ∙ ap (λ (l : List ℕ). term terms.Plus (in_row tree l)) (two_items p.node.parts.items p.two)
      ∙ ap (λ x. term terms.Plus (and_term (tree x) (and_term (tree (get_or p.node.parts.items 1 0)) no_terms))) p.part
      ∙ ap (λ t. term terms.Plus (and_term (tree q) (and_term t no_terms))) (number_up (get_or p.node.parts.items 1 0) c p.number)

  -- terms of the table that are equal there are one, or their trees are equal
  abbrev Up : ℕ → ℕ → Type 0
  Up a b = (tree a ≡ tree b) ⊎ Equal_ (tree a) (tree b)

  up_equal : {a b : ℕ} → a < length nodes → Up a b → Equal_ (tree a) (tree b)
  up_equal {a} {b} i (inl e) = subst (Equal_ (tree a)) e (T.same_self (held.arises a i))
  up_equal i (inr h) = h

  up_back : {a b : ℕ} → Up a b → Up b a
  up_back (inl e) = inl (sym e)
  up_back (inr h) = inr (T.same_back h)

  up_through : {a b c : ℕ} → Up a b → Up b c → Up a c
  up_through {a} {b} {c} (inl e) (inl f) = inl (e ∙ f)
  up_through {a} {b} {c} (inl e) (inr k) = inr (subst (λ t. Equal_ t (tree c)) (sym e) k)
  up_through {a} {b} {c} (inr h) (inl f) = inr (subst (Equal_ (tree a)) f h)
  up_through (inr h) (inr k) = inr (T.same_through h k)

  ups : (xs ys : List ℕ) → length xs ≡ length ys → ((i : ℕ) → i < length xs → get_or xs i 0 < length nodes) → ((i : ℕ) → i < length xs → Up (get_or xs i 0) (get_or ys i 0)) → T.AllSame no_unfoldings (map (literal tree) facts) (in_row tree xs) (in_row tree ys)
  ups [] [] e inside h = T.no_more
  ups [] (y ∷ ys) e inside h = absurd (omega arith)
  ups (x ∷ xs) [] e inside h = absurd (omega arith)
  ups (x ∷ xs) (y ∷ ys) e inside h = T.one_more (up_equal (inside 0 (omega arith)) (h 0 (omega arith))) (ups xs ys (omega arith) (λ i l. inside (suc i) (omega arith)) (λ i l. h (suc i) (omega arith)))

  both : {s t u w : Term} → s ≡ u → t ≡ w → Equal_ u w → Equal_ s t
  both {s} {t} {u} {w} e f h = subst (λ z. Equal_ z t) (sym e) (subst (Equal_ u) (sym f) h)

  both_ends : {s t u w : Term} {c : ℤ} → s ≡ u → t ≡ w → Bound_ u w c → Bound_ s t c
  both_ends {s} {t} {u} {w} {c} e f h = subst (λ z. Bound_ z t c) (sym e) (subst (λ z. Bound_ u z c) (sym f) h)

  -- where a term arises, so does what it is
  arises_as : (a : ℕ) (t : Term) → a < length nodes → tree a ≡ t → Arises no_unfoldings (map (literal tree) facts) zero t
  arises_as a t l e = subst (Arises no_unfoldings (map (literal tree) facts) zero) e (held.arises a l)

  whole_up : (a b : ℕ) (m n : Node) → slice_get nodes a ≡ Some m → slice_get nodes b ≡ Some n → m.head ≡ n.head → length m.parts.items ≡ length n.parts.items → ((i : ℕ) → i < length m.parts.items → Up (get_or m.parts.items i 0) (get_or n.parts.items i 0)) → Up a b
  whole_up a b m n p q e l h =
      let x = reading.whole a m p in
      let y : tree b ≡ term (meant m.head) (in_row tree n.parts.items) = reading.whole b n q ∙ ap (λ k. term (meant k) (in_row tree n.parts.items)) (sym e) in
      inr (both x y (T.congruent (arises_as a (term (meant m.head) (in_row tree m.parts.items)) (slice_get_within nodes a m p) x) (arises_as b (term (meant m.head) (in_row tree n.parts.items)) (slice_get_within nodes b n q) y)
      (ups m.parts.items n.parts.items l (λ i w. part_in nodes (length nodes) a m i reading.parts p w) h)))

  part_up : (a b : ℕ) (m n : Node) (i : ℕ) → slice_get nodes a ≡ Some m → slice_get nodes b ≡ Some n → IsInjective m.head → m.head ≡ n.head → length m.parts.items ≡ length n.parts.items → i < length m.parts.items → Up a b → Up (get_or m.parts.items i 0) (get_or n.parts.items i 0)
  part_up a b m n i p q t e l w h =
      let c = H.constructor_up (reading.stands a m p) t in
      let x : tree a ≡ term (terms.Constructor c.0) (in_row tree m.parts.items) = reading.whole a m p ∙ ap (λ k. term k (in_row tree m.parts.items)) c.1 in
      let y : tree b ≡ term (terms.Constructor c.0) (in_row tree n.parts.items) = reading.whole b n q ∙ ap (λ k. term (meant k) (in_row tree n.parts.items)) (sym e) ∙ ap (λ k. term k (in_row tree n.parts.items)) c.1 in
      inr (T.injective (both (sym x) (sym y) (up_equal (slice_get_within nodes a m p) h)) (count_row tree m.parts.items ∙ l ∙ sym (count_row tree n.parts.items))
      (at_row tree m.parts.items i w) (at_row tree n.parts.items i (omega arith)))

  mutual
    same_up : {a b : ℕ} → N.Same nodes facts a b → Up a b
    same_up (N.given {a = a} {b = b} h) = inr (T.given (fact_up tree facts (facts_.Equal a b) h))
    same_up N.same_self = inl refl
    same_up (N.same_back h) = up_back (same_up h)
    same_up (N.same_through h k) = up_through (same_up h) (same_up k)
    same_up (N.congruent {a = a} {b = b} {m = m} {n = n} p q e l h) = whole_up a b m n p q e l (λ i w. same_up (h i w))
    same_up (N.injective {a = a} {b = b} {m = m} {n = n} {i = i} p q t e l w h) = part_up a b m n i p q t e l w (same_up h)
    same_up (N.squeezed {x = x} {y = y} i j h k) = inr (T.squeezed (integer_up x i) (integer_up y j) (bound_up h) (bound_up k))

    bound_up : {x y : ℕ} {c : ℤ} → N.Bound nodes facts x y c → Bound_ (tree x) (tree y) c
    bound_up (N.most {x = x} {y = y} {c = c} h) = T.most (fact_up tree facts (facts_.AtMost x y c) h)
    bound_up (N.difference_up {x = x} {y = y} {c = c} h) = T.difference_up (fact_up tree facts (facts_.Difference x y c) h)
    bound_up (N.difference_down {x = x} {y = y} {c = c} h) = T.difference_down (fact_up tree facts (facts_.Difference x y c) h)
    bound_up (N.still {x = x} i) = T.still (integer_up x i) (held.arises x (slice_get_within nodes x i.0 i.1))
    bound_up (N.weaker l h) = T.weaker l (bound_up h)
    bound_up (N.chain h k) = T.chain (bound_up h) (bound_up k)
    bound_up (N.sum_up {a = a} {q = q} {c = c} p) = both_ends (plus_up a q c p) refl (T.sum_up (arises_as a (plus (tree q) c) (slice_get_within nodes a p.node p.found) (plus_up a q c p)))
    bound_up (N.sum_down {a = a} {q = q} {c = c} p) = both_ends refl (plus_up a q c p) (T.sum_down (arises_as a (plus (tree q) c) (slice_get_within nodes a p.node p.found) (plus_up a q c p)))
    bound_up (N.number_up {a = a} {o = o} {c = c} p z) = both_ends (number_up a c p) (number_up o (pos 0) z) (T.number_up (arises_as a (number c) (slice_get_within nodes a p.0 p.1) (number_up a c p)))
    bound_up (N.number_down {a = a} {o = o} {c = c} p z) = both_ends (number_up o (pos 0) z) (number_up a c p) (T.number_down (arises_as a (number c) (slice_get_within nodes a p.0 p.1) (number_up a c p)))
    bound_up (N.level {x = x} {y = y} i j h) = T.level (integer_up x i) (integer_up y j) (up_equal (slice_get_within nodes x i.0 i.1) (same_up h))

  pub equal_up : (a b : ℕ) → a < length nodes → N.Same nodes facts a b → Equal_ (tree a) (tree b)
  equal_up a b l h = up_equal l (same_up h)

  pub conflict_up : N.Conflict nodes facts → T.Conflict no_unfoldings (map (literal tree) facts)
  conflict_up (N.below_itself h) = T.below_itself (bound_up h)
  conflict_up (N.clash {a = a} {b = b} k h) =
      T.clash (H.clash_up (reading.stands a k.0 k.2) (reading.stands b k.1 k.3) (reading.one a b k.0 k.1 k.2 k.3) k.4)
      (both (sym (reading.whole a k.0 k.2)) (sym (reading.whole b k.1 k.3)) (up_equal (slice_get_within nodes a k.0 k.2) (same_up h)))
  conflict_up (N.denied_equality {a = a} {b = b} m h) = unequal a b m (same_up h)
    where
      unequal : (a b : ℕ) → Contains facts (facts_.NotEqual a b) → Up a b → T.Conflict no_unfoldings (map (literal tree) facts)
      unequal a b m (inl e) = T.denied_equality (fact_up tree facts (facts_.NotEqual a b) m) (subst (Equal_ (tree a)) e (T.same_self (T.asked (fact_up tree facts (facts_.NotEqual a b) m) (0, omega arith, refl) itself)))
      unequal a b m (inr k) = T.denied_equality (fact_up tree facts (facts_.NotEqual a b) m) k
  conflict_up (N.denied_difference {x = x} {y = y} {c = c} m h k) = T.denied_difference (fact_up tree facts (facts_.NotDifference x y c) m) (bound_up h) (bound_up k)
  conflict_up (N.falsehood m) = T.falsehood (fact_up tree facts facts_.False m)
