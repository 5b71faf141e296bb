-- The table of the terms of literals, read.
use Rattle.std.proofs.Common.{◌≡◌, ◌≤◌, ◌<◌, ◌+◌, inl, inr, ℕ, zero, suc, Bool, true, false, cond, List, [], ◌∷◌, length, get_or, map, Some, refl, sym, ap, ap₂, ◌∙◌, subst, arith, add-one}
use Rattle.std.specs.Prelude.{ℤ, pos, Contains, All, slice_get}
use Rattle.std.proofs.lemmas.Bool.{false≢true}
use Rattle.std.proofs.lemmas.List.{length-map}
use Rattle.std.proofs.lemmas.Option.{slice_get-get_or}
use Rattle.std.specs.declared.cmp.Ordering.{Ordering}
use Rattle.std.specs.declared.cmp.Ordering.TheVariants as order
use Rattle.std.specs.Ordering.{is_eq}
use Rattle.vf_table.specs.declared.node.Head.{Head}
use Rattle.vf_table.specs.declared.node.Head.TheVariants as heads
use Rattle.vf_table.specs.declared.node.Node.{Node}
use Rattle.vf_refute.specs.declared.steps.Fact.{Fact}
use Rattle.vf_tree.specs.Core.{Identity}
use Rattle.vf_meaning.specs.Ghost.{Name}
use Rattle.vf_closure.specs.Terms as terms
use Rattle.vf_closure.specs.Terms.{Kind, Integer, Other, Term, Terms, term, no_terms, and_term, number, kind_of, IsAt, here, further_on, itself}
use Rattle.vf_closure.specs.Literals.{Literal, Equal, NotEqual, AtMost, Difference, NotDifference, False, compares}
use Rattle.vf_closure.specs.Closure.{asked}
use Rattle.vf_normal.specs.Order.{compare_heads}
use Rattle.vf_normal.proofs.Order.{heads_told, heads_total}
use Rattle.std.specs.Cmp.{tied_itself}
use Rattle.vf_reading.specs.Reading.{StandsFor, a_number, a_truth, a_null, a_function, a_constructor, a_plus, an_integer, another, in_row, IsReading, IsTableOf, IsInside, literal}
use Rattle.vf_question.specs.Numbered.{place, with_one, with_literals, terms_of, all_terms, IsGathered}
use Rattle.vf_question.specs.Tabled.{head_place, opaque, tabled_head, places, tabled, entries, tabled_fact}
use Rattle.vf_question.specs.Questions.{AreLeaves, at, IsQuestion}
use Rattle.vf_question.specs.declared.question.Question.{Question}
use Rattle.vf_question.proofs.Has.{Has, contains_has, has_contains, has_place, at_place, has_at, place_at}
use Rattle.vf_question.proofs.Asked.{terms_once, term_arises, has_arising, has_part}

-- ---- heads
abbrev pub head_of : Term → terms.Head
head_of (term h ps) = h

-- the head that a head of the table stands for
abbrev pub meant : List Term → Head → terms.Head
meant ts (heads.Number z) = terms.Number z
meant ts (heads.Truth b) = terms.Truth b
meant ts heads.Null = terms.Null
meant ts (heads.Function n) = head_of (at ts n)
meant ts (heads.Constructor n) = head_of (at ts n)
meant ts heads.Plus = terms.Plus
meant ts (heads.Integer n) = head_of (at ts n)
meant ts (heads.Other n) = head_of (at ts n)

eq_told : (o : Ordering) → is_eq o ≡ true → o ≡ order.Equal
eq_told order.Less h = cc
eq_told order.Equal h = refl
eq_told order.Greater h = cc

pub head_told : (k h : terms.Head) → is_eq (compare_heads k h) ≡ true → k ≡ h
head_told k h e = heads_told k h (eq_told (compare_heads k h) e)

pub head_is : (k h : terms.Head) → k ≡ h → is_eq (compare_heads k h) ≡ true
head_is k h e = ap is_eq (subst (λ (x : terms.Head). compare_heads k x ≡ order.Equal) e (tied_itself heads_total k))

next : {A : Type 0} (x d : A) (xs : List A) (n : ℕ) → get_or (x ∷ xs) (n + 1) d ≡ get_or xs n d
next x d xs n = rw add-one refl

head_first : (b : Bool) (h k : terms.Head) (qs : Terms) (us : List Term) → is_eq (compare_heads k h) ≡ b → k ≡ h → head_of (at (term k qs ∷ us) (cond b 0 (head_place h us + 1))) ≡ h
head_first true h k qs us e f = f
head_first false h k qs us e f = absurd (false≢true (sym e ∙ head_is k h f))

head_later : (b : Bool) (h k : terms.Head) (qs : Terms) (us : List Term) → is_eq (compare_heads k h) ≡ b → head_of (at us (head_place h us)) ≡ h → head_of (at (term k qs ∷ us) (cond b 0 (head_place h us + 1))) ≡ h
head_later true h k qs us e r = head_told k h e
head_later false h k qs us e r = ap head_of (next (term k qs) (number (pos 0)) us (head_place h us)) ∙ r

-- the first term with a head has it, where one has it
pub at_head : (h : terms.Head) (ps : Terms) (ts : List Term) → Has ts (term h ps) → head_of (at ts (head_place h ts)) ≡ h
at_head h ps [] k = absurd k
at_head h ps (term g qs ∷ us) (inl e) = head_first (is_eq (compare_heads g h)) h g qs us refl (ap head_of e)
at_head h ps (term g qs ∷ us) (inr k) = head_later (is_eq (compare_heads g h)) h g qs us refl (at_head h ps us k)

opaque_meant : (k : Kind) (n : ℕ) (ts : List Term) → meant ts (opaque k n) ≡ head_of (at ts n)
opaque_meant Integer n ts = refl
opaque_meant Other n ts = refl

-- the head of the table for a head of the terms stands for it
pub head_meant : (h : terms.Head) (ts : List Term) → head_of (at ts (head_place h ts)) ≡ h → meant ts (tabled_head ts h) ≡ h
head_meant (terms.Number z) ts e = refl
head_meant (terms.Truth b) ts e = refl
head_meant terms.Null ts e = refl
head_meant (terms.Function g) ts e = e
head_meant (terms.Constructor c) ts e = e
head_meant terms.Plus ts e = refl
head_meant (terms.Symbol k x) ts e = opaque_meant k (head_place (terms.Symbol k x) ts) ts ∙ e
head_meant (terms.Fixpoint k f) ts e = opaque_meant k (head_place (terms.Fixpoint k f) ts) ts ∙ e
head_meant (terms.Claims f) ts e = e
head_meant (terms.Predicate p) ts e = e
head_meant (terms.Share x) ts e = e
head_meant (terms.Sum factors) ts e = e
head_meant (terms.Arithmetic op) ts e = e
head_meant (terms.Compare op) ts e = e
head_meant terms.Not ts e = e
head_meant terms.And ts e = e
head_meant terms.Or ts e = e
head_meant (terms.Choose k) ts e = opaque_meant k (head_place (terms.Choose k) ts) ts ∙ e
head_meant terms.PointerSum ts e = e

symbol_stands : (k : Kind) (x : Name) (n : ℕ) → StandsFor (opaque k n) (terms.Symbol k x)
symbol_stands Integer x n = an_integer refl tt
symbol_stands Other x n = another refl tt

fixpoint_stands : (k : Kind) (f : Identity) (n : ℕ) → StandsFor (opaque k n) (terms.Fixpoint k f)
fixpoint_stands Integer f n = an_integer refl tt
fixpoint_stands Other f n = another refl tt

choice_stands : (k : Kind) (n : ℕ) → StandsFor (opaque k n) (terms.Choose k)
choice_stands Integer n = an_integer refl tt
choice_stands Other n = another refl tt

head_stands : (h : terms.Head) (ts : List Term) → StandsFor (tabled_head ts h) h
head_stands (terms.Number z) ts = a_number
head_stands (terms.Truth b) ts = a_truth
head_stands terms.Null ts = a_null
head_stands (terms.Function g) ts = a_function
head_stands (terms.Constructor c) ts = a_constructor
head_stands terms.Plus ts = a_plus
head_stands (terms.Symbol k x) ts = symbol_stands k x (head_place (terms.Symbol k x) ts)
head_stands (terms.Fixpoint k f) ts = fixpoint_stands k f (head_place (terms.Fixpoint k f) ts)
head_stands (terms.Claims f) ts = another refl tt
head_stands (terms.Predicate p) ts = another refl tt
head_stands (terms.Share x) ts = another refl tt
head_stands (terms.Sum factors) ts = an_integer refl tt
head_stands (terms.Arithmetic op) ts = an_integer refl tt
head_stands (terms.Compare op) ts = another refl tt
head_stands terms.Not ts = another refl tt
head_stands terms.And ts = another refl tt
head_stands terms.Or ts = another refl tt
head_stands (terms.Choose k) ts = choice_stands k (head_place (terms.Choose k) ts)
head_stands terms.PointerSum ts = another refl tt

-- ---- nodes
pub row_of_all : {A B C : Type 0} (f : A → C) (g : B → C) (xs : List A) (ys : List B) (i : ℕ) (x : A) (d : B) → map f xs ≡ map g ys → slice_get xs i ≡ Some x → (i < length ys) × (f x ≡ g (get_or ys i d))
row_of_all f g [] ys i x d e s = cc
row_of_all f g (z ∷ zs) [] i x d e s = cc
row_of_all f g (z ∷ zs) (y ∷ ys) zero x d e s = let p : z ≡ x = cc in let q : f z ≡ g y = cc in (omega arith, ap f (sym p) ∙ q)
row_of_all f g (z ∷ zs) (y ∷ ys) (suc i) x d e s = let q : map f zs ≡ map g ys = cc in let r = row_of_all f g zs ys i x d q s in (omega (arith, r.0), r.1)

pub places_read : (ts : List Term) (ps : Terms) → ((p : Term) (i : ℕ) → IsAt p i ps → Has ts p) → in_row (at ts) (places ts ps) ≡ ps
places_read ts no_terms h = refl
places_read ts (and_term p ps) h = ap₂ and_term (at_place p (number (pos 0)) ts (h p 0 here)) (places_read ts ps (λ q i a. h q (suc i) (further_on a)))

places_below : (ts : List Term) (ps : Terms) → ((p : Term) (i : ℕ) → IsAt p i ps → Has ts p) → All (λ (n : ℕ). n < length ts) (places ts ps)
places_below ts no_terms h k d l = absurd (omega arith)
places_below ts (and_term p ps) h zero d l = has_place p ts (h p 0 here)
places_below ts (and_term p ps) h (suc k) d l = places_below ts ps (λ q i a. h q (suc i) (further_on a)) k d (omega arith)

-- ---- facts
-- each term that the literals compare is in the list
abbrev pub AreThere : List Term → List Literal → Type 0
AreThere ts ls = (l : Literal) (t : Term) → Has ls l → Has (compares l) t → Has ts t

pub fact_read : (ts : List Term) (l : Literal) → ((t : Term) → Has (compares l) t → Has ts t) → literal (at ts) (tabled_fact ts l) ≡ l
fact_read ts (Equal a b) h = ap₂ Equal (at_place a (number (pos 0)) ts (h a (inl refl))) (at_place b (number (pos 0)) ts (h b (inr (inl refl))))
fact_read ts (NotEqual a b) h = ap₂ NotEqual (at_place a (number (pos 0)) ts (h a (inl refl))) (at_place b (number (pos 0)) ts (h b (inr (inl refl))))
fact_read ts (AtMost p n c) h = ap₂ (λ x y. AtMost x y c) (at_place p (number (pos 0)) ts (h p (inl refl))) (at_place n (number (pos 0)) ts (h n (inr (inl refl))))
fact_read ts (Difference p n c) h = ap₂ (λ x y. Difference x y c) (at_place p (number (pos 0)) ts (h p (inl refl))) (at_place n (number (pos 0)) ts (h n (inr (inl refl))))
fact_read ts (NotDifference p n c) h = ap₂ (λ x y. NotDifference x y c) (at_place p (number (pos 0)) ts (h p (inl refl))) (at_place n (number (pos 0)) ts (h n (inr (inl refl))))
fact_read ts False h = refl

facts_read : (ts : List Term) (ls : List Literal) → AreThere ts ls → map (literal (at ts)) (map (tabled_fact ts) ls) ≡ ls
facts_read ts [] h = refl
facts_read ts (l ∷ ls) h = ap₂ (λ k ks. k ∷ ks) (fact_read ts l (λ t c. h l t (inl refl) c)) (facts_read ts ls (λ k t c d. h k t (inr c) d))

pub fact_inside : (ts : List Term) (l : Literal) → ((t : Term) → Has (compares l) t → Has ts t) → IsInside (length ts) (tabled_fact ts l)
fact_inside ts (Equal a b) h = (has_place a ts (h a (inl refl)), has_place b ts (h b (inr (inl refl))))
fact_inside ts (NotEqual a b) h = (has_place a ts (h a (inl refl)), has_place b ts (h b (inr (inl refl))))
fact_inside ts (AtMost p n c) h = (has_place p ts (h p (inl refl)), has_place n ts (h n (inr (inl refl))))
fact_inside ts (Difference p n c) h = (has_place p ts (h p (inl refl)), has_place n ts (h n (inr (inl refl))))
fact_inside ts (NotDifference p n c) h = (has_place p ts (h p (inl refl)), has_place n ts (h n (inr (inl refl))))
fact_inside ts False h = tt

facts_inside : (ts : List Term) (ls : List Literal) → AreThere ts ls → (f : Fact) → Has (map (tabled_fact ts) ls) f → IsInside (length ts) f
facts_inside ts [] h f k = absurd k
facts_inside ts (l ∷ ls) h f (inl e) = subst (IsInside (length ts)) e (fact_inside ts l (λ t c. h l t (inl refl) c))
facts_inside ts (l ∷ ls) h f (inr k) = facts_inside ts ls (λ j t c d. h j t (inr c) d) f k

there : (ls : List Literal) → AreThere (all_terms ls) ls
there ls l t h c = has_arising ls zero t (asked (has_contains ls l h) (has_contains (compares l) t c) itself)

-- what is known of a node
pub record IsOf (ts : List Term) (t : Term) (m : Node) : Type 0 where
  pub top : terms.Head
  pub row : Terms
  pub whole : t ≡ term top row
  pub head : m.head ≡ tabled_head ts top
  pub parts : m.parts.items ≡ places ts row

pub node_of : (ts : List Term) (t : Term) (m : Node) → entries m ≡ tabled ts t → IsOf ts t m
node_of ts (term h ps) m e = record { top = h; row = ps; whole = refl; head = ap (λ (p : Head × List ℕ). p.0) e; parts = ap (λ (p : Head × List ℕ). p.1) e }

module _ (ls : List Literal) (nodes : List Node) (same : map entries nodes ≡ map (tabled (all_terms ls)) (all_terms ls)) where
  abbrev ts : List Term
  ts = all_terms ls

  node_at : (a : ℕ) (m : Node) → slice_get nodes a ≡ Some m → (a < length ts) × (entries m ≡ tabled ts (at ts a))
  node_at a m s = row_of_all entries (tabled ts) nodes ts a m (number (pos 0)) same s

  found : (a : ℕ) (m : Node) → slice_get nodes a ≡ Some m → IsOf ts (at ts a) m
  found a m s = node_of ts (at ts a) m (node_at a m s).1

  has_whole : (a : ℕ) (m : Node) (s : slice_get nodes a ≡ Some m) (h : terms.Head) (ps : Terms) → at ts a ≡ term h ps → Has ts (term h ps)
  has_whole a m s h ps e = subst (Has ts) e (has_at (number (pos 0)) ts a (node_at a m s).0)

  head_at : (a : ℕ) (m : Node) (s : slice_get nodes a ≡ Some m) (o : IsOf ts (at ts a) m) → meant ts m.head ≡ o.top
  head_at a m s o = ap (meant ts) o.head ∙ head_meant o.top ts (at_head o.top o.row ts (has_whole a m s o.top o.row o.whole))

  row_at : (a : ℕ) (m : Node) (s : slice_get nodes a ≡ Some m) (o : IsOf ts (at ts a) m) → (p : Term) (i : ℕ) → IsAt p i o.row → Has ts p
  row_at a m s o p i k = has_part ls o.top o.row p i (has_whole a m s o.top o.row o.whole) k

  long : length nodes ≡ length ts
  long = sym (length-map nodes entries) ∙ ap length same ∙ length-map ts (tabled ts)

  is_whole : (a : ℕ) (m : Node) → slice_get nodes a ≡ Some m → at ts a ≡ term (meant ts m.head) (in_row (at ts) m.parts.items)
  is_whole a m s =
      let o = found a m s in
      let r : in_row (at ts) m.parts.items ≡ o.row = ap (in_row (at ts)) o.parts ∙ places_read ts o.row (row_at a m s o) in
      o.whole ∙ ap₂ term (sym (head_at a m s o)) (sym r)

  does_stand : (a : ℕ) (m : Node) → slice_get nodes a ≡ Some m → StandsFor m.head (meant ts m.head)
  does_stand a m s =
      let o = found a m s in
      subst (λ (k : terms.Head). StandsFor m.head k) (sym (head_at a m s o)) (subst (λ (h : Head). StandsFor h o.top) (sym o.head) (head_stands o.top ts))

  is_one : (a b : ℕ) (m n : Node) → slice_get nodes a ≡ Some m → slice_get nodes b ≡ Some n → meant ts m.head ≡ meant ts n.head → m.head ≡ n.head
  is_one a b m n s r e =
      let o = found a m s in
      let p = found b n r in
      o.head ∙ ap (tabled_head ts) (sym (head_at a m s o) ∙ e ∙ head_at b n r p) ∙ sym p.head

  is_leaf : AreLeaves ls → (a : ℕ) (m : Node) (z : ℤ) → slice_get nodes a ≡ Some m → m.head ≡ heads.Number z → m.parts.items ≡ []
  is_leaf leaves a m z s e =
      let o = found a m s in
      let h : o.top ≡ terms.Number z = sym (head_at a m s o) ∙ ap (meant ts) e in
      let k : Has ts (term (terms.Number z) o.row) = subst (λ (g : terms.Head). Has ts (term g o.row)) h (has_whole a m s o.top o.row o.whole) in
      o.parts ∙ ap (places ts) (leaves z o.row (term_arises ls (term (terms.Number z) o.row) k))

  are_below : (k : ℕ) (d : Node) → k < length nodes → All (λ (p : ℕ). p < length nodes) (get_or nodes k d).parts.items
  are_below k d l =
      let s = slice_get-get_or nodes k d l in
      let o = found k (get_or nodes k d) s in
      let b = places_below ts o.row (row_at k (get_or nodes k d) s o) in
      subst (λ (xs : List ℕ). All (λ (p : ℕ). p < length nodes) xs) (sym o.parts) (subst (λ (n : ℕ). All (λ (p : ℕ). p < n) (places ts o.row)) (sym long) b)

  pub is_reading : AreLeaves ls → IsReading nodes (meant ts) (at ts)
  is_reading leaves = record { whole = is_whole; stands = does_stand; one = is_one; leaf = is_leaf leaves; parts = are_below }

  pub is_table : IsTableOf nodes (at ts) ls
  is_table = record {
    arises = λ a l. term_arises ls (at ts a) (has_at (number (pos 0)) ts a (omega (arith, long)));
    has = λ d t a. let h = has_arising ls d t a in (place t ts, omega (arith, long, has_place t ts h), at_place t (number (pos 0)) ts h);
    once = λ a b l k e. sym (place_at (number (pos 0)) ts a (terms_once ls) (omega (arith, long))) ∙ ap (λ t. place t ts) e ∙ place_at (number (pos 0)) ts b (terms_once ls) (omega (arith, long));
  }

  pub is_inside : (facts : List Fact) → facts ≡ map (tabled_fact ts) ls → (l : Fact) → Contains facts l → IsInside (length nodes) l
  is_inside facts e l c = subst (λ (n : ℕ). IsInside n l) (sym long) (facts_inside ts ls (there ls) l (contains_has (map (tabled_fact ts) ls) l (subst (λ (fs : List Fact). Contains fs l) e c)))

-- the table of the terms of literals, with the literals as facts over it, is a question
pub is_question : (ls : List Literal) (q : Question) → AreLeaves ls → map entries q.nodes.items ≡ map (tabled (all_terms ls)) (all_terms ls) → q.facts.items ≡ map (tabled_fact (all_terms ls)) ls → IsQuestion ls q
is_question ls q leaves same told = record {
  long = long ls q.nodes.items same;
  meant = meant (all_terms ls);
  reading = is_reading ls q.nodes.items same leaves;
  table = is_table ls q.nodes.items same;
  facts = ap (map (literal (at (all_terms ls)))) told ∙ facts_read (all_terms ls) ls (there ls);
  inside = is_inside ls q.nodes.items same q.facts.items told;
}

-- the same, where the terms are given
pub question_over : (ls : List Literal) (last : List Term) (q : Question) → AreLeaves ls → last ≡ all_terms ls → map entries q.nodes.items ≡ map (tabled last) last → q.facts.items ≡ map (tabled_fact last) ls → IsQuestion ls q
question_over ls last q leaves k n f = is_question ls q leaves (subst (λ (ts : List Term). map entries q.nodes.items ≡ map (tabled ts) ts) k n) (subst (λ (ts : List Term). q.facts.items ≡ map (tabled_fact ts) ls) k f)

-- the terms that were gathered, and 0
pub gathered_terms : (ls : List Literal) (most : ℕ) (b : Bool) (start first last : List Term) (zero_term : Term)
    → start ≡ [] → IsGathered most b (with_literals ls start) first → b ≡ true → zero_term ≡ number (pos 0) → last ≡ with_one zero_term first → (length (terms_of ls) ≤ most) × (last ≡ all_terms ls)
gathered_terms ls most false start first last t s g e z w = cc
gathered_terms ls most true start first last t s g e z w = (subst (λ (ts : List Term). length (with_literals ls ts) ≤ most) s g.1, w ∙ ap₂ with_one z (g.0 ∙ ap (with_literals ls) s))

-- and where they are too many
pub not_gathered : (ls : List Literal) (most : ℕ) (b : Bool) (start first : List Term) → start ≡ [] → IsGathered most b (with_literals ls start) first → b ≡ false → most < length (terms_of ls)
not_gathered ls most true start first s g e = cc
not_gathered ls most false start first s g e = subst (λ (ts : List Term). most < length (with_literals ls ts)) s g
