-- What holds over a table still holds where terms and facts are added.
use Rattle.std.proofs.Common.{◌≡◌, ℕ, zero, suc, ◌<◌, ◌≤◌, inl, inr, List, [], ◌∷◌, ◌++◌, length, slice_get, Some, sym, subst, arith, All}
use Rattle.std.specs.Prelude.{ℤ, pos, Contains, slice_index}
use Rattle.std.proofs.lemmas.Bool.{cases_lt}
use Rattle.std.proofs.lemmas.Option.{slice_get_within, get_or_from_slice_get}
use Rattle.std.proofs.lemmas.List.{length_push}
use Rattle.std.proofs.lemmas.List.Elements.{All-push, All-weaker}
use Rattle.vf_table.specs.declared.node.Node.{Node}
use Rattle.vf_table.specs.Tables.{PartsAreBelow, IsInteger, IsNumber, IsPlus, HaveClashingHeads}
use Rattle.vf_congruence.specs.Congruence.{Congruent, based, congruent_self, congruent_back, congruent_through, by_parts, of_parts}
use Rattle.vf_arith.specs.declared.bounds.Edge.{Edge}
use Rattle.vf_refute.specs.declared.steps.Fact.{Fact}
use Rattle.vf_refute.specs.declared.steps.Fact.TheVariants as fs
use Rattle.vf_refute.specs.Closure.{Same, given, same_self, same_back, same_through, congruent, injective, squeezed, Bound, most, difference_up, difference_down, still, weaker, sum_up, sum_down, number_up, number_down, chain, level}
use Rattle.vf_ground.specs.Held.{AreSound, HasBoth, HasTerm, IsFine}
use Rattle.vf_ground.proofs.Gained.{both_kept}
use Rattle.vf_combination.specs.Exchanged.{HasClash}

pub found_more : (nodes : List Node) (node : Node) (a : ℕ) (m : Node) → slice_get nodes a ≡ Some m → slice_get (nodes ++ node ∷ []) a ≡ Some m
found_more [] node a m e = cc
found_more (x ∷ xs) node zero m e = e
found_more (x ∷ xs) node (suc a) m e = found_more xs node a m e

found_less : (nodes : List Node) (node : Node) (a : ℕ) (m : Node) → a < length nodes → slice_get (nodes ++ node ∷ []) a ≡ Some m → slice_get nodes a ≡ Some m
found_less [] node a m l e = absurd (omega arith)
found_less (x ∷ xs) node zero m l e = e
found_less (x ∷ xs) node (suc a) m l e = found_less xs node a m (omega arith) e

module _ (nodes nodes' : List Node) (facts facts' : List Fact) (found : (a : ℕ) (m : Node) → slice_get nodes a ≡ Some m → slice_get nodes' a ≡ Some m) (kept : (l : Fact) → Contains facts l → Contains facts' l) where
  integer_more : (x : ℕ) → IsInteger nodes x → IsInteger nodes' x
  integer_more x h = (h.0, found x h.0 h.1, h.2)

  number_more : (x : ℕ) (c : ℤ) → IsNumber nodes x c → IsNumber nodes' x c
  number_more x c h = (h.0, found x h.0 h.1, h.2)

  plus_more : {a q : ℕ} {c : ℤ} → IsPlus nodes a q c → IsPlus nodes' a q c
  plus_more {a} {q} {c} h = record { node = h.node; found = found a h.node h.found; head = h.head; two = h.two; part = h.part; number = number_more (slice_index h.node.parts.items 1) c h.number }

  mutual
    same_more : {a b : ℕ} → Same nodes facts a b → Same nodes' facts' a b
    same_more (given {a = a} {b = b} h) = given (kept (fs.Equal a b) h)
    same_more same_self = same_self
    same_more (same_back h) = same_back (same_more h)
    same_more (same_through h k) = same_through (same_more h) (same_more k)
    same_more (congruent {a = a} {b = b} {m = m} {n = n} p q e l h) = congruent (found a m p) (found b n q) e l (λ i w. same_more (h i w))
    same_more (injective {a = a} {b = b} {m = m} {n = n} p q t e l w h) = injective (found a m p) (found b n q) t e l w (same_more h)
    same_more (squeezed {x = x} {y = y} i j h k) = squeezed (integer_more x i) (integer_more y j) (bound_more h) (bound_more k)

    bound_more : {x y : ℕ} {c : ℤ} → Bound nodes facts x y c → Bound nodes' facts' x y c
    bound_more (most {x = x} {y = y} {c = c} h) = most (kept (fs.AtMost x y c) h)
    bound_more (difference_up {x = x} {y = y} {c = c} h) = difference_up (kept (fs.Difference x y c) h)
    bound_more (difference_down {x = x} {y = y} {c = c} h) = difference_down (kept (fs.Difference x y c) h)
    bound_more (still {x = x} i) = still (integer_more x i)
    bound_more (weaker l h) = weaker l (bound_more h)
    bound_more (chain h k) = chain (bound_more h) (bound_more k)
    bound_more (sum_up p) = sum_up (plus_more p)
    bound_more (sum_down p) = sum_down (plus_more p)
    bound_more (number_up {a = a} {o = o} {c = c} p z) = number_up (number_more a c p) (number_more o (pos 0) z)
    bound_more (number_down {a = a} {o = o} {c = c} p z) = number_down (number_more a c p) (number_more o (pos 0) z)
    bound_more (level {x = x} {y = y} i j h) = level (integer_more x i) (integer_more y j) (same_more h)

  pub sound_more : (merged : List (ℕ × ℕ)) (edges : List Edge) → AreSound nodes facts merged edges → AreSound nodes' facts' merged edges
  sound_more merged edges s = record { equal = λ a b m. same_more (s.equal a b m); bound = λ e m. bound_more (s.bound e m) }

-- ---- one term more

module _ (nodes : List Node) (node : Node) where
  pub congruent_grown : {base : ℕ → ℕ → Type 0} {a b : ℕ} → Congruent nodes base a b → Congruent (nodes ++ node ∷ []) base a b
  congruent_grown (based h) = based h
  congruent_grown congruent_self = congruent_self
  congruent_grown (congruent_back h) = congruent_back (congruent_grown h)
  congruent_grown (congruent_through h k) = congruent_through (congruent_grown h) (congruent_grown k)
  congruent_grown (by_parts {a = a} {b = b} {m = m} {n = n} p q e l h) = by_parts (found_more nodes node a m p) (found_more nodes node b n q) e l (λ i w. congruent_grown (h i w))
  congruent_grown (of_parts {a = a} {b = b} {m = m} {n = n} p q t e l w h) = of_parts (found_more nodes node a m p) (found_more nodes node b n q) t e l w (congruent_grown h)

  pub integer_grown : (x : ℕ) → IsInteger nodes x → IsInteger (nodes ++ node ∷ []) x
  integer_grown x h = (h.0, found_more nodes node x h.0 h.1, h.2)

  pub integer_less : (x : ℕ) → x < length nodes → IsInteger (nodes ++ node ∷ []) x → IsInteger nodes x
  integer_less x l h = (h.0, found_less nodes node x h.0 l h.1, h.2)

  number_less : (x : ℕ) (c : ℤ) → x < length nodes → IsNumber (nodes ++ node ∷ []) x c → IsNumber nodes x c
  number_less x c l h = (h.0, found_less nodes node x h.0 l h.1, h.2)

  pub heads_less : (x y : ℕ) → x < length nodes → y < length nodes → HaveClashingHeads (nodes ++ node ∷ []) x y → HaveClashingHeads nodes x y
  heads_less x y i j h = (h.0, h.1, found_less nodes node x h.0 i h.2, found_less nodes node y h.1 j h.3, h.4)

  pub clash_grown : (merged : List (ℕ × ℕ)) → HasClash nodes merged → HasClash (nodes ++ node ∷ []) merged
  clash_grown merged h = record {
    left = h.left;
    right = h.right;
    clash = let p = h.clash.heads in record { heads = (p.0, p.1, found_more nodes node h.left p.0 p.2, found_more nodes node h.right p.1 p.3, p.4); same = congruent_grown h.clash.same };
  }

  -- the second part of a sum is a term of the table
  second_part : (a q : ℕ) (c : ℤ) → a < length nodes → PartsAreBelow nodes (length nodes) → (p : IsPlus (nodes ++ node ∷ []) a q c) → slice_index p.node.parts.items 1 < length nodes
  second_part a q c l below p =
      let f = found_less nodes node a p.node l p.found in
      let w : All (λ x. x < length nodes) p.node.parts.items = rw (get_or_from_slice_get nodes a p.node p.node f) at (below a p.node l) in
      w 1 0 (let t = p.two in omega arith)

  plus_less : (a q : ℕ) (c : ℤ) → a < length nodes → PartsAreBelow nodes (length nodes) → IsPlus (nodes ++ node ∷ []) a q c → IsPlus nodes a q c
  plus_less a q c l below p = record {
    node = p.node;
    found = found_less nodes node a p.node l p.found;
    head = p.head;
    two = p.two;
    part = p.part;
    number = number_less (slice_index p.node.parts.items 1) c (second_part a q c l below p) p.number;
  }

  -- with a term more, the old ones have their bounds, and to the new one if that is 0
  pub terms_grown : (edges edges' : List Edge) → ((e : Edge) → Contains edges e → Contains edges' e) → PartsAreBelow nodes (length nodes) → ((a : ℕ) → a < length nodes → HasTerm nodes edges a) → (term : ℕ) → term ≡ length nodes → HasTerm (nodes ++ node ∷ []) edges' term →
      ((c : ℤ) (a : ℕ) → IsNumber (nodes ++ node ∷ []) a c → IsNumber (nodes ++ node ∷ []) term (pos 0) → HasBoth edges' a term c) → (a : ℕ) → a < length (nodes ++ node ∷ []) → HasTerm (nodes ++ node ∷ []) edges' a
  terms_grown edges edges' kept below old term number new zero_bounds a l = elim (cases_lt a (length nodes)) [
    | inl i ↦ record {
      sum = λ q c p. both_kept edges edges' kept a q c ((old a i).sum q c (plus_less a q c i below p));
      number = λ c o p z. elim (cases_lt o (length nodes)) [
        | inl j ↦ both_kept edges edges' kept a o c ((old a i).number c o (number_less a c i p) (number_less o (pos 0) j z))
        | inr j ↦ (let e : term ≡ o = within o z j in subst (λ (w : ℕ). HasBoth edges' a w c) e (zero_bounds c a p (subst (λ (w : ℕ). IsNumber (nodes ++ node ∷ []) w (pos 0)) (sym e) z)))
      ];
    }
    | inr i ↦ (let e : term ≡ a = (let n = length_push nodes node in omega arith) in subst (HasTerm (nodes ++ node ∷ []) edges') e new)
  ]
    where
      within : (o : ℕ) → IsNumber (nodes ++ node ∷ []) o (pos 0) → length nodes ≤ o → term ≡ o
      within o z j = let n = length_push nodes node in let k = slice_get_within (nodes ++ node ∷ []) o z.0 z.1 in omega arith

  pub parts_grown : PartsAreBelow nodes (length nodes) → All (λ part. part < length nodes) node.parts.items → PartsAreBelow (nodes ++ node ∷ []) (length (nodes ++ node ∷ []))
  parts_grown below parts =
      let n = length_push nodes node in
      All-push (λ (m : Node). All (λ part. part < length (nodes ++ node ∷ [])) m.parts.items) nodes node
      (All-weaker (λ (m : Node). All (λ part. part < length nodes) m.parts.items) (λ (m : Node). All (λ part. part < length (nodes ++ node ∷ [])) m.parts.items)
      (λ m h. All-weaker (λ part. part < length nodes) (λ part. part < length (nodes ++ node ∷ [])) (λ part k. omega arith) m.parts.items h) nodes below)
      (All-weaker (λ part. part < length nodes) (λ part. part < length (nodes ++ node ∷ [])) (λ part k. omega arith) node.parts.items parts)

  pub fine_grown : (l : Fact) → IsFine nodes l → IsFine (nodes ++ node ∷ []) l
  fine_grown (fs.Equal a b) h = let n = length_push nodes node in let i = h.0 in let j = h.1 in (omega arith, omega arith)
  fine_grown (fs.NotEqual a b) h = let n = length_push nodes node in let i = h.0 in let j = h.1 in (omega arith, omega arith)
  fine_grown (fs.AtMost x y c) h = let n = length_push nodes node in let i = h.0 in let j = h.1 in (omega arith, omega arith, h.2, integer_grown x h.3, integer_grown y h.4)
  fine_grown (fs.Difference x y c) h = let n = length_push nodes node in let i = h.0 in let j = h.1 in (omega arith, omega arith, h.2, integer_grown x h.3, integer_grown y h.4)
  fine_grown (fs.NotDifference x y c) h = let n = length_push nodes node in let i = h.0 in let j = h.1 in (omega arith, omega arith, h.2, integer_grown x h.3, integer_grown y h.4)
  fine_grown fs.False h = h
