-- The table of terms that are with their parts, read.
use Rattle.std.proofs.Common.{◌≡◌, ◌<◌, ℕ, zero, suc, List, [], length, get_or, Some, refl, sym, ap, ap₂, ◌∙◌, subst, arith}
use Rattle.std.specs.Prelude.{ℤ, pos, All, slice_get}
use Rattle.std.proofs.lemmas.List.{length-map}
use Rattle.std.proofs.lemmas.Option.{slice_get-get_or}
use Rattle.vf_table.specs.declared.node.Head.{Head}
use Rattle.vf_table.specs.declared.node.Head.TheVariants as heads
use Rattle.vf_table.specs.declared.node.Node.{Node}
use Rattle.vf_tree.specs.Core.{Identity}
use Rattle.vf_meaning.specs.Ghost.{Name}
use Rattle.vf_closure.specs.Terms as terms
use Rattle.vf_closure.specs.Terms.{Kind, Integer, Other, Term, Terms, term, no_terms, and_term, number, IsAt, here, further_on}
use Rattle.vf_reading.specs.Reading.{StandsFor, a_number, a_truth, a_null, a_function, a_constructor, a_plus, an_integer, another, in_row, IsReading}
use Rattle.vf_question.specs.Tabled.{head_place, opaque, tabled_head, places, tabled, entries}
use Rattle.vf_question.specs.Questions.{at}
use Rattle.vf_question.specs.Plain.{IsPlain}
use Rattle.vf_question.proofs.Has.{Has, contains_has, has_contains, has_place, has_at}
use Rattle.vf_question.proofs.Read.{at_head, head_meant, meant, row_of_all, places_read, IsOf, node_of}
use Rattle.vf_interning.specs.Interned.{AreClosed}
use Rattle.vf_recheck.specs.Refutations.{IsTableOf}

symbol_stands : (k : Kind) (x : Name) (n : ℕ) → StandsFor (opaque k n) (terms.Symbol k x)
symbol_stands Integer x n = an_integer refl tt
symbol_stands Other x n = another refl tt

fixpoint_stands : (k : Kind) (f : Identity) (n : ℕ) → StandsFor (opaque k n) (terms.Fixpoint k f)
fixpoint_stands Integer f n = an_integer refl tt
fixpoint_stands Other f n = another refl tt

choice_stands : (k : Kind) (n : ℕ) → StandsFor (opaque k n) (terms.Choose k)
choice_stands Integer n = an_integer refl tt
choice_stands Other n = another refl tt

head_stands : (h : terms.Head) (ts : List Term) → StandsFor (tabled_head ts h) h
head_stands (terms.Number z) ts = a_number
head_stands (terms.Truth b) ts = a_truth
head_stands terms.Null ts = a_null
head_stands (terms.Function g) ts = a_function
head_stands (terms.Constructor c) ts = a_constructor
head_stands terms.Plus ts = a_plus
head_stands (terms.Symbol k x) ts = symbol_stands k x (head_place (terms.Symbol k x) ts)
head_stands (terms.Fixpoint k f) ts = fixpoint_stands k f (head_place (terms.Fixpoint k f) ts)
head_stands (terms.Claims f) ts = another refl tt
head_stands (terms.Predicate p) ts = another refl tt
head_stands (terms.Share x) ts = another refl tt
head_stands (terms.Sum factors) ts = an_integer refl tt
head_stands (terms.Arithmetic op) ts = an_integer refl tt
head_stands (terms.Compare op) ts = another refl tt
head_stands terms.Not ts = another refl tt
head_stands terms.And ts = another refl tt
head_stands terms.Or ts = another refl tt
head_stands (terms.Choose k) ts = choice_stands k (head_place (terms.Choose k) ts)
head_stands terms.PointerSum ts = another refl tt

places_below : (ts : List Term) (ps : Terms) → ((p : Term) (i : ℕ) → IsAt p i ps → Has ts p) → All (λ (n : ℕ). n < length ts) (places ts ps)
places_below ts no_terms h k d l = absurd (omega arith)
places_below ts (and_term p ps) h zero d l = has_place p ts (h p 0 here)
places_below ts (and_term p ps) h (suc k) d l = places_below ts ps (λ q i a. h q (suc i) (further_on a)) k d (omega arith)

module _ (nodes : List Node) (ts : List Term) (same : IsTableOf nodes ts) (closed : AreClosed ts) (plain : (t : Term) → Has ts t → IsPlain t) where
  node_at : (a : ℕ) (m : Node) → slice_get nodes a ≡ Some m → (a < length ts) × (entries m ≡ tabled ts (at ts a))
  node_at a m s = row_of_all entries (tabled ts) nodes ts a m (number (pos 0)) same s

  found : (a : ℕ) (m : Node) → slice_get nodes a ≡ Some m → IsOf ts (at ts a) m
  found a m s = node_of ts (at ts a) m (node_at a m s).1

  has_whole : (a : ℕ) (m : Node) (s : slice_get nodes a ≡ Some m) (h : terms.Head) (ps : Terms) → at ts a ≡ term h ps → Has ts (term h ps)
  has_whole a m s h ps e = subst (Has ts) e (has_at (number (pos 0)) ts a (node_at a m s).0)

  head_at : (a : ℕ) (m : Node) (s : slice_get nodes a ≡ Some m) (o : IsOf ts (at ts a) m) → meant ts m.head ≡ o.top
  head_at a m s o = ap (meant ts) o.head ∙ head_meant o.top ts (at_head o.top o.row ts (has_whole a m s o.top o.row o.whole))

  row_at : (a : ℕ) (m : Node) (s : slice_get nodes a ≡ Some m) (o : IsOf ts (at ts a) m) → (p : Term) (i : ℕ) → IsAt p i o.row → Has ts p
  row_at a m s o p i k = contains_has ts p (closed o.top o.row p i (has_contains ts (term o.top o.row) (has_whole a m s o.top o.row o.whole)) k)

  pub long : length nodes ≡ length ts
  long = sym (length-map nodes entries) ∙ ap length same ∙ length-map ts (tabled ts)

  is_whole : (a : ℕ) (m : Node) → slice_get nodes a ≡ Some m → at ts a ≡ term (meant ts m.head) (in_row (at ts) m.parts.items)
  is_whole a m s =
      let o = found a m s in
      let r : in_row (at ts) m.parts.items ≡ o.row = ap (in_row (at ts)) o.parts ∙ places_read ts o.row (row_at a m s o) in
      o.whole ∙ ap₂ term (sym (head_at a m s o)) (sym r)

  does_stand : (a : ℕ) (m : Node) → slice_get nodes a ≡ Some m → StandsFor m.head (meant ts m.head)
  does_stand a m s =
      let o = found a m s in
      subst (λ (k : terms.Head). StandsFor m.head k) (sym (head_at a m s o)) (subst (λ (h : Head). StandsFor h o.top) (sym o.head) (head_stands o.top ts))

  is_one : (a b : ℕ) (m n : Node) → slice_get nodes a ≡ Some m → slice_get nodes b ≡ Some n → meant ts m.head ≡ meant ts n.head → m.head ≡ n.head
  is_one a b m n s r e =
      let o = found a m s in
      let p = found b n r in
      o.head ∙ ap (tabled_head ts) (sym (head_at a m s o) ∙ e ∙ head_at b n r p) ∙ sym p.head

  is_leaf : (a : ℕ) (m : Node) (z : ℤ) → slice_get nodes a ≡ Some m → m.head ≡ heads.Number z → m.parts.items ≡ []
  is_leaf a m z s e =
      let o = found a m s in
      let h : o.top ≡ terms.Number z = sym (head_at a m s o) ∙ ap (meant ts) e in
      let k : Has ts (term (terms.Number z) o.row) = subst (λ (g : terms.Head). Has ts (term g o.row)) h (has_whole a m s o.top o.row o.whole) in
      o.parts ∙ ap (places ts) (plain (term (terms.Number z) o.row) k).0.0

  are_below : (k : ℕ) (d : Node) → k < length nodes → All (λ (p : ℕ). p < length nodes) (get_or nodes k d).parts.items
  are_below k d l =
      let s = slice_get-get_or nodes k d l in
      let o = found k (get_or nodes k d) s in
      let b = places_below ts o.row (row_at k (get_or nodes k d) s o) in
      subst (λ (xs : List ℕ). All (λ (p : ℕ). p < length nodes) xs) (sym o.parts) (subst (λ (n : ℕ). All (λ (p : ℕ). p < n) (places ts o.row)) (sym long) b)

  pub is_reading : IsReading nodes (meant ts) (at ts)
  is_reading = record { whole = is_whole; stands = does_stand; one = is_one; leaf = is_leaf; parts = are_below }
