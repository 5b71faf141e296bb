-- The literals of truth values mean what the terms do.
use Rattle.std.proofs.Common.{◌≡◌, ◌↔◌, Bool, true, false, not, ◌&&◌, cond, Option, Some, None, refl, sym, ◌∙◌, ap, ap₂, arith}
use Rattle.std.specs.Prelude.{ℤ, int_lt, int_le}
use Rattle.std.proofs.lemmas.Int.{ints}
use Rattle.std.proofs.lemmas.Bool.{false≢true}
use Rattle.vf_tree.specs.Core.{Comparison, Equal, NotEqual, Less, LessEqual, Greater, GreaterEqual}
use Rattle.vf_model.specs.Values.{Value, number_of, same_truth}
use Rattle.vf_model.specs.Values as values
use Rattle.vf_meaning.specs.Valuations.{Valuation, is_same, is_true}
use Rattle.vf_meaning.specs.GhostValues.{Interpretation, compared}
use Rattle.vf_meaning.proofs.Values.{tells_values}
use Rattle.vf_closure.specs.Terms.{Kind, Integer, Other, Truth, Compare, Not, Term, term, no_terms, and_term, kind_of}
use Rattle.vf_closure.specs.Values.{value}
use Rattle.vf_closure.specs.Literals.{IsInteger, Holds}
use Rattle.vf_normal.specs.Comparisons.{literal_of}
use Rattle.vf_normal.proofs.Compared.{comparisons_meant}
use Rattle.vf_formula.specs.Rows.{truth_in}
use Rattle.vf_truths.specs.Truths.{Statement, turned, beside, bare, opposite, is_integer_kind, is_integer, equality, other_literal, bare_literal}
use Rattle.vf_truths.specs.Laws.{HasTruthValue, TruthLiteralsMeanIt}

not_twice : (b : Bool) → not (not b) ≡ b
not_twice true = refl
not_twice false = refl

-- a truth value is the wanted one exactly where it, or its denial, is true
wanted_true : (b : Bool) → (b ≡ true) ↔ (values.Truth b ≡ values.Truth true)
wanted_true b = (λ e. ap values.Truth e, λ e. ap is_true e)

wanted_false : (b : Bool) → (not b ≡ true) ↔ (values.Truth b ≡ values.Truth false)
wanted_false true = (λ e. cc, λ e. cc)
wanted_false false = (λ e. refl, λ e. refl)

through : (A B C : Type 0) → A ↔ B → B ↔ C → A ↔ C
through A B C e d = (λ a. d.0 (e.0 a), λ c. e.1 (d.1 c))

not_less : (a b : ℤ) → int_le b a ≡ not (int_lt a b)
not_less a b = grind (arith, ints)

not_at_most : (a b : ℤ) → int_lt b a ≡ not (int_le a b)
not_at_most a b = grind (arith, ints)

-- the opposite of a comparison says the opposite
opposite_compared : (op : Comparison) (v w : Value) → compared (opposite op) v w ≡ not (compared op v w)
opposite_compared Equal v w = refl
opposite_compared NotEqual v w = sym (not_twice (is_same v w))
opposite_compared Less v w = not_less (number_of v) (number_of w)
opposite_compared LessEqual v w = not_at_most (number_of v) (number_of w)
opposite_compared Greater v w = not_less (number_of w) (number_of v)
opposite_compared GreaterEqual v w = not_at_most (number_of w) (number_of v)

integer_kind : (k : Kind) → is_integer_kind k ≡ true → k ≡ Integer
integer_kind Integer e = refl
integer_kind Other e = cc

integer_term : (t : Term) → is_integer t ≡ true → IsInteger t
integer_term (term h ts) e = integer_kind (kind_of h) e

-- a truth value, or its denial
abbrev told : Bool → Bool → Bool
told true b = not b
told false b = b

told_not : (d b : Bool) → told (not d) b ≡ not (told d b)
told_not true b = sym (not_twice b)
told_not false b = refl

-- a comparison with a truth value says the other truth value, or its denial
beside_right : (d b c : Bool) → told d (same_truth b c) ≡ told (same_truth d c) b
beside_right true true true = refl
beside_right true true false = refl
beside_right true false true = refl
beside_right true false false = refl
beside_right false true true = refl
beside_right false true false = refl
beside_right false false true = refl
beside_right false false false = refl

beside_left : (d b c : Bool) → told d (same_truth c b) ≡ told (same_truth d c) b
beside_left true true true = refl
beside_left true true false = refl
beside_left true false true = refl
beside_left true false false = refl
beside_left false true true = refl
beside_left false true false = refl
beside_left false false true = refl
beside_left false false false = refl

not_true : (b : Bool) → (b ≡ true → ⊥) → b ≡ false
not_true true h = absurd (h refl)
not_true false h = refl

abbrev truth_found : Option Bool → Bool
truth_found (Some b) = b
truth_found None = false

told_wanted : (d b w : Bool) → (b ≡ cond d (not w) w) ↔ (told d b ≡ w)
told_wanted true b w = (λ e. ap not e ∙ not_twice w, λ e. sym (not_twice b) ∙ ap not e)
told_wanted false b w = (λ e. e, λ e. e)

module _ (i : Interpretation) (v : Valuation) where
  -- ---- literals of comparisons
  order_meant : (op : Comparison) (a b : Term) (w : Bool) → IsInteger a → IsInteger b → Holds i v (literal_of (cond w op (opposite op)) a b) ↔ (values.Truth (compared op (value i v a) (value i v b)) ≡ values.Truth w)
  order_meant op a b true m n = through _ _ _ (comparisons_meant i v op a b m n) (wanted_true (compared op (value i v a) (value i v b)))
  order_meant op a b false m n =
      let o = opposite_compared op (value i v a) (value i v b) in
      through _ _ _ (comparisons_meant i v (opposite op) a b m n) (through _ _ _ (λ e. sym o ∙ e, λ e. o ∙ e) (wanted_false (compared op (value i v a) (value i v b))))

  equality_meant : (a b : Term) (w : Bool) → Holds i v (equality a b w) ↔ (values.Truth (is_same (value i v a) (value i v b)) ≡ values.Truth w)
  equality_meant a b true =
      let t = tells_values (value i v a) (value i v b) in
      (λ h. ap values.Truth (t.1 h), λ h. t.0 (ap is_true h))
  equality_meant a b false =
      let t = tells_values (value i v a) (value i v b) in
      (λ h. ap values.Truth (not_true (is_same (value i v a) (value i v b)) (λ e. h (t.0 e))), λ h e. false≢true (sym (ap is_true h) ∙ t.1 e))

  other_meant : (op : Comparison) (a b : Term) (w : Bool) → Holds i v (other_literal op a b w) ↔ (values.Truth (compared op (value i v a) (value i v b)) ≡ values.Truth w)
  other_meant Equal a b w = equality_meant a b w
  other_meant NotEqual a b w =
      let s = is_same (value i v a) (value i v b) in
      through _ _ _ (equality_meant a b (not w)) (λ e. ap values.Truth (ap (λ x. not (is_true x)) e ∙ not_twice w), λ e. ap values.Truth (sym (not_twice s) ∙ ap (λ x. not (is_true x)) e))
  other_meant Less a b w = (λ h. h, λ h. h)
  other_meant LessEqual a b w = (λ h. h, λ h. h)
  other_meant Greater a b w = (λ h. h, λ h. h)
  other_meant GreaterEqual a b w = (λ h. h, λ h. h)

  by_kinds : (op : Comparison) (a b : Term) (w c d : Bool) → is_integer a ≡ c → is_integer b ≡ d → Holds i v (cond (c && d) (literal_of (cond w op (opposite op)) a b) (other_literal op a b w)) ↔ (values.Truth (compared op (value i v a) (value i v b)) ≡ values.Truth w)
  by_kinds op a b w true true e f = order_meant op a b w (integer_term a e) (integer_term b f)
  by_kinds op a b w true false e f = other_meant op a b w
  by_kinds op a b w false d e f = other_meant op a b w

  bare_meant : (t : Term) (w : Bool) → Holds i v (bare_literal t w) ↔ (value i v t ≡ values.Truth w)
  bare_meant (term (Compare op) (and_term a (and_term b no_terms))) w = by_kinds op a b w (is_integer a) (is_integer b) refl refl
  bare_meant t w = (λ h. h, λ h. h)

  -- ---- negations, and comparisons with truth values
  abbrev Tells : Term → Statement → Type 0
  Tells t s = HasTruthValue i v s.subject → value i v t ≡ values.Truth (told s.is_denied (is_true (value i v s.subject)))

  itself : (t : Term) → Tells t (record { subject = t; is_denied = false })
  itself t h = h

  turned_tells : (d : Bool) (t u : Term) (s : Statement) → ((b : Bool) → value i v u ≡ values.Truth b → value i v t ≡ values.Truth (told d b)) → Tells u s → Tells t (turned d s)
  turned_tells true t u s f g h = f _ (g h) ∙ ap values.Truth (sym (told_not s.is_denied (is_true (value i v s.subject))))
  turned_tells false t u s f g h = f _ (g h)

  truth_value : (t : Term) (c : Bool) → truth_in t ≡ Some c → value i v t ≡ values.Truth c
  truth_value (term (Truth b) ts) c e = ap (λ o. values.Truth (truth_found o)) e
  truth_value t c e = cc

  beside_tells : (d : Bool) (t a b : Term) (o p : Option Bool) → truth_in a ≡ o → truth_in b ≡ p → value i v t ≡ values.Truth (told d (is_same (value i v a) (value i v b))) → Tells a (bare a) → Tells b (bare b) → Tells t (beside d o p (record { subject = t; is_denied = false }) (bare a) (bare b))
  beside_tells d t a b o (Some c) e f g k l =
      turned_tells (same_truth d c) t a (bare a) (λ x m. g ∙ ap₂ (λ y z. values.Truth (told d (is_same y z))) m (truth_value b c f) ∙ ap values.Truth (beside_right d x c)) k
  beside_tells d t a b (Some c) None e f g k l =
      turned_tells (same_truth d c) t b (bare b) (λ x m. g ∙ ap₂ (λ y z. values.Truth (told d (is_same y z))) (truth_value a c e) m ∙ ap values.Truth (beside_left d x c)) l
  beside_tells d t a b None None e f g k l = λ h. h

  -- a term has the truth value that its statement has
  bare_tells : (t : Term) → Tells t (bare t)
  bare_tells (term Not (and_term u no_terms)) = turned_tells true (term Not (and_term u no_terms)) u (bare u) (λ b e. ap (λ x. values.Truth (not (is_true x))) e) (bare_tells u)
  bare_tells (term (Compare Equal) (and_term a (and_term b no_terms))) = beside_tells false _ a b (truth_in a) (truth_in b) refl refl refl (bare_tells a) (bare_tells b)
  bare_tells (term (Compare NotEqual) (and_term a (and_term b no_terms))) = beside_tells true _ a b (truth_in a) (truth_in b) refl refl refl (bare_tells a) (bare_tells b)
  bare_tells t = λ h. h

pub truths_meant : TruthLiteralsMeanIt
truths_meant i v t w h =
    let s = bare t in
    let b = is_true (value i v s.subject) in
    let e = bare_tells i v t h in
    let g = told_wanted s.is_denied b w in
    through _ _ _ (bare_meant i v s.subject (cond s.is_denied (not w) w))
    (λ k. e ∙ ap values.Truth (g.0 (ap is_true k)), λ k. h ∙ ap values.Truth (g.1 (ap is_true (sym e ∙ k))))
