-- A question over the same terms has the same closure.
use Rattle.std.proofs.Common.{◌≡◌, ℕ, ◌<◌, List, length, Some, sym, ◌∙◌, ap, subst, arith}
use Rattle.std.specs.Prelude.{ℤ, pos, All, slice_get, slice_index, slice_index_or}
use Rattle.std.proofs.lemmas.Option.{slice_get_within, slice_get-get_or, get_or_from_slice_get}
use Rattle.vf_table.specs.declared.node.Head.{Head}
use Rattle.vf_table.specs.declared.node.Node.{Node}
use Rattle.vf_table.specs.Tables.{PartsAreBelow, IsInjective, IsOfIntegers, IsInteger, IsNumber, IsPlus, AreClashing, HaveClashingHeads}
use Rattle.vf_refute.specs.declared.steps.Fact.{Fact}
use Rattle.vf_refute.specs.declared.steps.Fact.TheVariants as fs
use Rattle.vf_refute.specs.Closure.{Same, given, same_self, same_back, same_through, congruent, injective, squeezed, Bound, most, difference_up, difference_down, still, weaker, sum_up, sum_down, number_up, number_down, chain, level, Conflict, below_itself, clash, denied_equality, denied_difference, falsehood}
use Rattle.vf_log.specs.Copies.{IsCopy, HaveSameTerms}
use Rattle.vf_arith.specs.declared.bounds.Edge.{Edge}
use Rattle.vf_ground.specs.Held.{IsFine, HasTerm}

-- either table is a copy of the other
pub reversed : (nodes copies : List Node) → HaveSameTerms nodes copies → HaveSameTerms copies nodes
reversed nodes copies h = record {
  long = sym h.long;
  each = λ a copy there.
      let l = slice_get_within copies a copy there in
      let e = h.long in
      let here : slice_get nodes a ≡ Some (slice_index_or nodes a copy) = slice_get-get_or nodes a copy (omega (arith, l, e)) in
      let r = h.each a (slice_index_or nodes a copy) here in
      let found = r.1 in
      let same : r.0 ≡ copy = cc in
      let k = subst (λ (w : Node). IsCopy (slice_index_or nodes a copy) w) same r.2 in
      (slice_index_or nodes a copy, here, record { head = sym k.head; parts = sym k.parts });
}

module _ (nodes copies : List Node) (h : HaveSameTerms nodes copies) where
  pub integer_kept : (x : ℕ) → IsInteger nodes x → IsInteger copies x
  integer_kept x i = let r = h.each x i.0 i.1 in (r.0, r.1, subst IsOfIntegers (sym r.2.head) i.2)

  pub number_kept : (x : ℕ) (c : ℤ) → IsNumber nodes x c → IsNumber copies x c
  number_kept x c i = let r = h.each x i.0 i.1 in (r.0, r.1, r.2.head ∙ i.2)

  pub plus_kept : (a q : ℕ) (c : ℤ) → IsPlus nodes a q c → IsPlus copies a q c
  plus_kept a q c p = let r = h.each a p.node p.found in record {
    node = r.0;
    found = r.1;
    head = r.2.head ∙ p.head;
    two = ap length r.2.parts ∙ p.two;
    part = ap (λ (xs : List ℕ). slice_index xs 0) r.2.parts ∙ p.part;
    number = subst (λ (xs : List ℕ). IsNumber copies (slice_index xs 1) c) (sym r.2.parts) (number_kept (slice_index p.node.parts.items 1) c p.number);
  }

  pub heads_kept : (x y : ℕ) → HaveClashingHeads nodes x y → HaveClashingHeads copies x y
  heads_kept x y k =
      let r = h.each x k.0 k.2 in
      let s = h.each y k.1 k.3 in
      (r.0, s.0, r.1, s.1, subst (λ (w : Head). AreClashing w s.0.head) (sym r.2.head) (subst (λ (w : Head). AreClashing k.0.head w) (sym s.2.head) k.4))

  term_kept : (x : ℕ) → x < length nodes → x < length copies
  term_kept x l = let e = h.long in omega (arith, l, e)

  pub fine_kept : (fact : Fact) → IsFine nodes fact → IsFine copies fact
  fine_kept (fs.Equal a b) f = (term_kept a f.0, term_kept b f.1)
  fine_kept (fs.NotEqual a b) f = (term_kept a f.0, term_kept b f.1)
  fine_kept (fs.AtMost x y c) f = (term_kept x f.0, term_kept y f.1, f.2, integer_kept x f.3, integer_kept y f.4)
  fine_kept (fs.Difference x y c) f = (term_kept x f.0, term_kept y f.1, f.2, integer_kept x f.3, integer_kept y f.4)
  fine_kept (fs.NotDifference x y c) f = (term_kept x f.0, term_kept y f.1, f.2, integer_kept x f.3, integer_kept y f.4)
  fine_kept fs.False f = f

module _ (nodes copies : List Node) (facts : List Fact) (h : HaveSameTerms nodes copies) where
  -- equal parts are equal parts of the copies
  parts_kept : (xs ys us vs : List ℕ) → us ≡ xs → vs ≡ ys → ((i : ℕ) → i < length xs → Same copies facts (slice_index xs i) (slice_index ys i)) → (i : ℕ) → i < length us → Same copies facts (slice_index us i) (slice_index vs i)
  parts_kept xs ys us vs p q each i l =
      subst (λ (zs : List ℕ). Same copies facts (slice_index zs i) (slice_index vs i)) (sym p)
      (subst (λ (zs : List ℕ). Same copies facts (slice_index xs i) (slice_index zs i)) (sym q)
      (each i (subst (λ (zs : List ℕ). i < length zs) p l)))

  part_kept : (xs ys us vs : List ℕ) (i : ℕ) → us ≡ xs → vs ≡ ys → Same copies facts (slice_index us i) (slice_index vs i) → Same copies facts (slice_index xs i) (slice_index ys i)
  part_kept xs ys us vs i p q s =
      subst (λ (zs : List ℕ). Same copies facts (slice_index zs i) (slice_index ys i)) p
      (subst (λ (zs : List ℕ). Same copies facts (slice_index us i) (slice_index zs i)) q s)

  mutual
    same_copied : {a b : ℕ} → Same nodes facts a b → Same copies facts a b
    same_copied (given m) = given m
    same_copied same_self = same_self
    same_copied (same_back s) = same_back (same_copied s)
    same_copied (same_through s t) = same_through (same_copied s) (same_copied t)
    same_copied (congruent {a = a} {b = b} {m = u} {n = v} p q e l k) =
        let r = h.each a u p in
        let s = h.each b v q in
        congruent r.1 s.1 (r.2.head ∙ e ∙ sym s.2.head) (ap length r.2.parts ∙ l ∙ sym (ap length s.2.parts))
        (parts_kept u.parts.items v.parts.items r.0.parts.items s.0.parts.items r.2.parts s.2.parts (λ i w. same_copied (k i w)))
    same_copied (injective {a = a} {b = b} {m = u} {n = v} {i = i} p q t e l w k) =
        let r = h.each a u p in
        let s = h.each b v q in
        part_kept u.parts.items v.parts.items r.0.parts.items s.0.parts.items i r.2.parts s.2.parts
        (injective r.1 s.1 (subst IsInjective (sym r.2.head) t) (r.2.head ∙ e ∙ sym s.2.head) (ap length r.2.parts ∙ l ∙ sym (ap length s.2.parts)) (subst (λ (zs : List ℕ). i < length zs) (sym r.2.parts) w) (same_copied k))
    same_copied (squeezed {x = x} {y = y} i j s t) = squeezed (integer_kept nodes copies h x i) (integer_kept nodes copies h y j) (bound_copied s) (bound_copied t)

    bound_copied : {x y : ℕ} {c : ℤ} → Bound nodes facts x y c → Bound copies facts x y c
    bound_copied (most m) = most m
    bound_copied (difference_up m) = difference_up m
    bound_copied (difference_down m) = difference_down m
    bound_copied (still {x = x} i) = still (integer_kept nodes copies h x i)
    bound_copied (weaker l s) = weaker l (bound_copied s)
    bound_copied (chain s t) = chain (bound_copied s) (bound_copied t)
    bound_copied (sum_up {a = a} {q = q} {c = c} p) = sum_up (plus_kept nodes copies h a q c p)
    bound_copied (sum_down {a = a} {q = q} {c = c} p) = sum_down (plus_kept nodes copies h a q c p)
    bound_copied (number_up {a = a} {o = o} {c = c} p z) = number_up (number_kept nodes copies h a c p) (number_kept nodes copies h o _ z)
    bound_copied (number_down {a = a} {o = o} {c = c} p z) = number_down (number_kept nodes copies h a c p) (number_kept nodes copies h o _ z)
    bound_copied (level {x = x} {y = y} i j s) = level (integer_kept nodes copies h x i) (integer_kept nodes copies h y j) (same_copied s)

  pub conflict_copied : Conflict nodes facts → Conflict copies facts
  conflict_copied (below_itself s) = below_itself (bound_copied s)
  conflict_copied (clash {a = a} {b = b} k s) = clash (heads_kept nodes copies h a b k) (same_copied s)
  conflict_copied (denied_equality m s) = denied_equality m (same_copied s)
  conflict_copied (denied_difference m s t) = denied_difference m (bound_copied s) (bound_copied t)
  conflict_copied (falsehood m) = falsehood m

-- the parts of the copies are terms too
pub parts_copied : (nodes copies : List Node) (n : ℕ) → HaveSameTerms nodes copies → PartsAreBelow nodes n → PartsAreBelow copies n
parts_copied nodes copies n h below = λ k d l.
    let r = (reversed nodes copies h).each k (slice_index_or copies k d) (slice_get-get_or copies k d l) in
    let m = slice_get_within nodes k r.0 r.1 in
    let w : All (λ x. x < n) r.0.parts.items = rw (get_or_from_slice_get nodes k r.0 r.0 r.1) at (below k r.0 m) in
    subst (λ (xs : List ℕ). All (λ x. x < n) xs) r.2.parts w

-- facts are fine over the copies too
pub all_fine : (nodes copies : List Node) (facts : List Fact) → HaveSameTerms nodes copies → All (IsFine nodes) facts → All (IsFine copies) facts
all_fine nodes copies facts h fine = λ k d l. fine_kept nodes copies h (slice_index_or facts k d) (fine k d l)

-- what the terms give the copies is there too
pub term_copied : (nodes copies : List Node) (edges : List Edge) (a : ℕ) → HaveSameTerms copies nodes → HasTerm nodes edges a → HasTerm copies edges a
term_copied nodes copies edges a h t = record {
  sum = λ q c p. t.sum q c (plus_kept copies nodes h a q c p);
  number = λ c o p z. t.number c o (number_kept copies nodes h a c p) (number_kept copies nodes h o (pos 0) z);
}
