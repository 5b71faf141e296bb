-- What a step derives over a table, and whether it names a conflict, is told by the entries of the table.
use Rattle.std.proofs.Common.{◌≡◌, ℕ, inl, inr, List, length, map, get_or, Some, sym, ap, ◌∙◌, subst, arith}
use Rattle.std.specs.Prelude.{ℤ, pos, slice_get, slice_index}
use Rattle.std.proofs.lemmas.Option.{slice_get-get_or}
use Rattle.vf_table.specs.declared.node.Head.{Head}
use Rattle.vf_table.specs.declared.node.Node.{Node}
use Rattle.vf_table.specs.Tables.{IsInjective, IsOfIntegers, IsInteger, IsNumber, IsPlus, AreClashing, HaveClashingHeads}
use Rattle.vf_refute.specs.declared.steps.Fact.{Fact}
use Rattle.vf_refute.specs.declared.steps.Derived.{Derived}
use Rattle.vf_refute.specs.declared.steps.Derived.TheVariants.{AreEqual, AreWithin, HaveDifference}
use Rattle.vf_refute.specs.declared.steps.Step.{Step}
use Rattle.vf_refute.specs.declared.steps.Step.TheVariants as steps_
use Rattle.vf_refute.specs.Refutations.{ArePairwiseEqual, AreParts, IsOffset, IsLevel, Derives, CannotBe, IsConflict}
use Rattle.vf_question.specs.Tabled.{entries}
use Rattle.vf_question.proofs.Read.{row_of_all}

module _ (nodes others : List Node) (same : map entries nodes ≡ map entries others) (facts : List Fact) (known : List Derived) where
  -- the node at the same place has the same entries
  record IsLike (a : ℕ) (m : Node) : Type 0 where
    node : Node
    found : slice_get others a ≡ Some node
    head : m.head ≡ node.head
    parts : m.parts.items ≡ node.parts.items

  like : (a : ℕ) (m : Node) → slice_get nodes a ≡ Some m → IsLike a m
  like a m s =
      let r = row_of_all entries entries nodes others a m m same s in
      record {
        node = get_or others a m;
        found = slice_get-get_or others a m r.0;
        head = ap (λ (p : Head × List ℕ). p.0) r.1;
        parts = ap (λ (p : Head × List ℕ). p.1) r.1;
      }

  number_alike : (x : ℕ) (c : ℤ) → IsNumber nodes x c → IsNumber others x c
  number_alike x c h = let l = like x h.0 h.1 in (l.node, l.found, sym l.head ∙ h.2)

  integer_alike : (x : ℕ) → IsInteger nodes x → IsInteger others x
  integer_alike x h = let l = like x h.0 h.1 in (l.node, l.found, subst IsOfIntegers l.head h.2)

  plus_alike : (a q : ℕ) (c : ℤ) → IsPlus nodes a q c → IsPlus others a q c
  plus_alike a q c h = let l = like a h.node h.found in record {
    node = l.node;
    found = l.found;
    head = sym l.head ∙ h.head;
    two = ap length (sym l.parts) ∙ h.two;
    part = ap (λ (xs : List ℕ). slice_index xs 0) (sym l.parts) ∙ h.part;
    number = subst (λ (xs : List ℕ). IsNumber others (slice_index xs 1) c) l.parts (number_alike (slice_index h.node.parts.items 1) c h.number);
  }

  offset_alike : (a o q : ℕ) (c : ℤ) → IsOffset nodes a o q c → IsOffset others a o q c
  offset_alike a o q c h = elim h [ inl k ↦ inl (plus_alike a q c k) | inr k ↦ inr (k.0, number_alike a c k.1, number_alike o (pos 0) k.2) ]

  level_alike : (a x y : ℕ) (c : ℤ) → IsLevel nodes known a x y c → IsLevel others known a x y c
  level_alike a x y c h = elim h [ inl k ↦ inl (k.0, integer_alike x k.1, integer_alike y k.2, k.3) | inr k ↦ inr k ]

  pairwise_alike : (xs ys zs ws ss : List ℕ) → xs ≡ zs → ys ≡ ws → ArePairwiseEqual known xs ys ss → ArePairwiseEqual known zs ws ss
  pairwise_alike xs ys zs ws ss e f h = subst (λ (z : List ℕ). ArePairwiseEqual known z ws ss) e (subst (λ (w : List ℕ). ArePairwiseEqual known xs w ss) f h)

  parts_alike : (x y i p q : ℕ) → AreParts nodes x y i p q → AreParts others x y i p q
  parts_alike x y i p q h =
      let l = like x h.left h.found_left in
      let r = like y h.right h.found_right in
      record {
        left = l.node;
        right = r.node;
        found_left = l.found;
        found_right = r.found;
        injective = subst IsInjective l.head h.injective;
        head = sym l.head ∙ h.head ∙ r.head;
        long = ap length (sym l.parts) ∙ h.long ∙ ap length r.parts;
        within = let e = ap length l.parts in omega (arith, h.within);
        first = h.first ∙ ap (λ (xs : List ℕ). slice_index xs i) l.parts;
        second = h.second ∙ ap (λ (xs : List ℕ). slice_index xs i) r.parts;
      }

  pub derives_alike : (s : Step) (d : Derived) → Derives nodes facts known s d → Derives others facts known s d
  derives_alike (steps_.Fact i) d h = h
  derives_alike (steps_.Reflexive t) d h = h
  derives_alike (steps_.Symmetric a) d h = h
  derives_alike (steps_.Transitive a b) d h = h
  derives_alike (steps_.Congruent a b steps) d h =
      let l = like a h.left h.found_left in
      let r = like b h.right h.found_right in
      record {
        left = l.node;
        right = r.node;
        found_left = l.found;
        found_right = r.found;
        head = sym l.head ∙ h.head ∙ r.head;
        parts = pairwise_alike h.left.parts.items h.right.parts.items l.node.parts.items r.node.parts.items steps.numbers.items l.parts r.parts h.parts;
        is = h.is;
      }
  derives_alike (steps_.Part a i) d h = record { x = h.x; y = h.y; p = h.p; q = h.q; equal = h.equal; parts = parts_alike h.x h.y i h.p h.q h.parts; is = h.is }
  derives_alike (steps_.Above a o) d h = record { other = h.other; by = h.by; offset = offset_alike a o h.other h.by h.offset; is = h.is }
  derives_alike (steps_.Below a o) d h = record { other = h.other; by = h.by; offset = offset_alike a o h.other h.by h.offset; is = h.is }
  derives_alike (steps_.LevelAbove a) d h = record { x = h.x; y = h.y; by = h.by; level = level_alike a h.x h.y h.by h.level; is = h.is }
  derives_alike (steps_.LevelBelow a) d h = record { x = h.x; y = h.y; by = h.by; level = level_alike a h.x h.y h.by h.level; is = h.is }
  derives_alike (steps_.Chain a b) d h = h
  derives_alike (steps_.Squeezed a b) d h = record { x = h.x; y = h.y; first = h.first; second = h.second; left = integer_alike h.x h.left; right = integer_alike h.y h.right; is = h.is }
  derives_alike (steps_.Conflict a) d h = absurd h
  derives_alike (steps_.DeniedDifference a b) d h = absurd h
  derives_alike (steps_.Falsehood i) d h = absurd h

  clashing_alike : (x y : ℕ) → HaveClashingHeads nodes x y → HaveClashingHeads others x y
  clashing_alike x y h =
      let l = like x h.0 h.2 in
      let r = like y h.1 h.3 in
      (l.node, r.node, l.found, r.found, subst (λ (j : Head). AreClashing j r.node.head) l.head (subst (AreClashing h.0.head) r.head h.4))

  cannot_alike : (d : Derived) → CannotBe nodes facts d → CannotBe others facts d
  cannot_alike (AreEqual x y) h = elim h [ inl k ↦ inl (clashing_alike x y k) | inr k ↦ inr k ]
  cannot_alike (AreWithin x y c) h = h
  cannot_alike (HaveDifference x y c) h = absurd h

  pub conflict_alike : (s : Step) → IsConflict nodes facts known s → IsConflict others facts known s
  conflict_alike (steps_.Conflict a) h = record { derived = h.derived; has = h.has; cannot = cannot_alike h.derived h.cannot }
  conflict_alike (steps_.DeniedDifference a b) h = h
  conflict_alike (steps_.Falsehood i) h = h
  conflict_alike (steps_.Fact i) h = absurd h
  conflict_alike (steps_.Reflexive t) h = absurd h
  conflict_alike (steps_.Symmetric a) h = absurd h
  conflict_alike (steps_.Transitive a b) h = absurd h
  conflict_alike (steps_.Congruent a b steps) h = absurd h
  conflict_alike (steps_.Part a i) h = absurd h
  conflict_alike (steps_.Above a o) h = absurd h
  conflict_alike (steps_.Below a o) h = absurd h
  conflict_alike (steps_.LevelAbove a) h = absurd h
  conflict_alike (steps_.LevelBelow a) h = absurd h
  conflict_alike (steps_.Chain a b) h = absurd h
  conflict_alike (steps_.Squeezed a b) h = absurd h
