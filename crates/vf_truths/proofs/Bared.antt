-- Terms without the negations and the truth values that they are compared with.
use Rattle.std.proofs.Common.{◌≡◌, List, ◌∷◌, [], length, Bool, true, false, Option, Some, None, refl, ◌∙◌, ap₂, subst, arith}
use Rattle.std.proofs.Math.ListN.{get_or}
use Rattle.std.specs.Prelude.{IfOk}
use Rattle.std.specs.declared.result.Result.{Result}
use Rattle.std.specs.declared.result.Result.TheVariants.{Ok, Err}
use Rattle.vf_tree.specs.Core.{Comparison, Equal, NotEqual}
use Rattle.vf_closure.specs.Terms.{Compare, Not, Term, term, no_terms, and_term}
use Rattle.vf_closure.specs.Literals as pure
use Rattle.vf_normal.specs.NormalForms.{IsNormal}
use Rattle.vf_formula.specs.declared.literal.Literal.{Literal}
use Rattle.vf_formula.specs.Literals.{shown_literal}
use Rattle.vf_formula.specs.Rows.{row, truth_in}
use Rattle.vf_truths.specs.Truths.{Statement, turned, beside, bare, has_truth, bare_literal}

turned_normal : (b : Bool) (s : Statement) → IsNormal s.subject → IsNormal (turned b s).subject
turned_normal true s n = n
turned_normal false s n = n

beside_normal : (d : Bool) (o p : Option Bool) (whole a b : Statement) → IsNormal whole.subject → IsNormal a.subject → IsNormal b.subject → IsNormal (beside d o p whole a b).subject
beside_normal d o (Some c) whole a b n l r = turned_normal _ a l
beside_normal d (Some c) None whole a b n l r = turned_normal _ b r
beside_normal d None None whole a b n l r = n

-- what stands in a term in normal form is in normal form
pub bare_normal : (t : Term) → IsNormal t → IsNormal (bare t).subject
bare_normal (term Not (and_term t no_terms)) n = turned_normal true (bare t) (bare_normal t n.1.0)
bare_normal (term (Compare Equal) (and_term a (and_term b no_terms))) n = beside_normal false (truth_in a) (truth_in b) _ (bare a) (bare b) n (bare_normal a n.1.0) (bare_normal b n.1.1.0)
bare_normal (term (Compare NotEqual) (and_term a (and_term b no_terms))) n = beside_normal true (truth_in a) (truth_in b) _ (bare a) (bare b) n (bare_normal a n.1.0) (bare_normal b n.1.1.0)
bare_normal t n = n

-- a negation, and a comparison, stay as they are where they have not as many parts as they should
pub denies_nothing : (t : Term) (ts : List Term) → term Not (row ts) ≡ t → (length ts ≡ 1 → ⊥) → bare t ≡ record { subject = t; is_denied = false }
denies_nothing t ts e n = subst (λ u. bare u ≡ record { subject = u; is_denied = false }) e (by ts n)
  where
    by : (ts : List Term) → (length ts ≡ 1 → ⊥) → bare (term Not (row ts)) ≡ record { subject = term Not (row ts); is_denied = false }
    by [] n = refl
    by (u ∷ []) n = absurd (n refl)
    by (u ∷ w ∷ ts) n = refl

pub equals_nothing : (t : Term) (ts : List Term) → term (Compare Equal) (row ts) ≡ t → (length ts ≡ 2 → ⊥) → bare t ≡ record { subject = t; is_denied = false }
equals_nothing t ts e n = subst (λ u. bare u ≡ record { subject = u; is_denied = false }) e (by ts n)
  where
    by : (ts : List Term) → (length ts ≡ 2 → ⊥) → bare (term (Compare Equal) (row ts)) ≡ record { subject = term (Compare Equal) (row ts); is_denied = false }
    by [] n = refl
    by (u ∷ []) n = refl
    by (u ∷ w ∷ []) n = absurd (n refl)
    by (u ∷ w ∷ x ∷ ts) n = refl

pub differs_from_nothing : (t : Term) (ts : List Term) → term (Compare NotEqual) (row ts) ≡ t → (length ts ≡ 2 → ⊥) → bare t ≡ record { subject = t; is_denied = false }
differs_from_nothing t ts e n = subst (λ u. bare u ≡ record { subject = u; is_denied = false }) e (by ts n)
  where
    by : (ts : List Term) → (length ts ≡ 2 → ⊥) → bare (term (Compare NotEqual) (row ts)) ≡ record { subject = term (Compare NotEqual) (row ts); is_denied = false }
    by [] n = refl
    by (u ∷ []) n = refl
    by (u ∷ w ∷ []) n = absurd (n refl)
    by (u ∷ w ∷ x ∷ ts) n = refl

pub compares_nothing : (t : Term) (op : Comparison) (ts : List Term) (w : Bool) → term (Compare op) (row ts) ≡ t → (length ts ≡ 2 → ⊥) → has_truth t w ≡ bare_literal t w
compares_nothing t op ts w e n = subst (λ u. has_truth u w ≡ bare_literal u w) e (by ts n)
  where
    by : (ts : List Term) → (length ts ≡ 2 → ⊥) → has_truth (term (Compare op) (row ts)) w ≡ bare_literal (term (Compare op) (row ts)) w
    by [] n = refl
    by (u ∷ []) n = refl
    by (u ∷ x ∷ []) n = absurd (n refl)
    by (u ∷ x ∷ y ∷ ts) n = refl

pub ok_literal : {E : Type 0} (r : Result Literal E) (x y : pure.Literal) → IfOk r (λ l. shown_literal l ≡ x) → x ≡ y → IfOk r (λ l. shown_literal l ≡ y)
ok_literal (Ok l) x y h e = h ∙ e
ok_literal (Err f) x y h e = tt

-- two terms that stand alone in a row
pub both_read : (ts : List Term) (a b : Term) → length ts ≡ 2 → a ≡ get_or ts 0 a → b ≡ get_or ts 1 b → and_term a (and_term b no_terms) ≡ row ts
both_read [] a b n e d = absurd (omega arith)
both_read (x ∷ []) a b n e d = absurd (omega arith)
both_read (x ∷ y ∷ []) a b n e d = ap₂ (λ t u. and_term t (and_term u no_terms)) e d
both_read (x ∷ y ∷ z ∷ ts) a b n e d = absurd (omega arith)
