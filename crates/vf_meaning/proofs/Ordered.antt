-- Every fixpoint of a list in order meets its equation.
use Rattle.std.proofs.Common.{◌≡◌, ◌≢◌, ℕ, zero, suc, ◌<◌, Bool, cond, not, ◌&&◌, ◌||◌, List, [], ◌∷◌, refl, sym, ap, ap₂, subst, ◌∙◌, inl, inr, ⊎_elim, arith, neg_ℤ}
use Rattle.std.specs.Prelude.{Contains}
use Rattle.std.specs.Cmp.Lexicographic.{bytes_decides}
use Rattle.std.proofs.lemmas.Bool.{cases_Bool}
use Rattle.vf_tree.specs.Core.{Identity}
use Rattle.vf_model.specs.Values.{Value, Values, more, number_of, same_identity}
use Rattle.vf_model.specs.Values as values
use Rattle.vf_meaning.specs.Ghost.{GhostExpression, GhostExpressions, no_expressions, and_expression, Variable, Number, Truth, Fraction, Null, Function, Construct, Apply, PredicateValue, Claims, Negate, Arithmetic, PointerSum, Share, Compare, Not, And, Or, Choose, CaseTree, FixpointBody, Returns, Switches, FixpointTree}
use Rattle.vf_meaning.specs.Valuations.{Valuation, value_at, is_true, further, all_bound, of_arguments}
use Rattle.vf_meaning.specs.GhostValues.{Interpretation, computed, compared, shared, claimed, value_of, values_of, by_case, by_body, unfolded, unfoldings, interpreted}
use Rattle.vf_meaning.specs.Structural.{Applies, AnyApplies, BodyApplies, AreOrdered, ListedFixpointsMeetEquations}
use Rattle.vf_meaning.proofs.Structural.{fixpoints_meet_equations}

-- ---- expressions have one value where all fixpoints in them have one
module _ (i j : Interpretation) (claims_same : i.claims ≡ j.claims) where
  abbrev Same : Identity → Type 0
  Same g = (vs : Values) → i.fixpoint g vs ≡ j.fixpoint g vs

  claimed_same : (t : Identity) (w : Value) → claimed i t w ≡ claimed j t w
  claimed_same t (values.Function g) = ap (λ c. c g t) claims_same
  claimed_same t (values.Number z) = refl
  claimed_same t (values.Truth b) = refl
  claimed_same t values.Null = refl
  claimed_same t (values.Pointer b o) = refl
  claimed_same t (values.Constructed c vs) = refl
  claimed_same t (values.Predicate p vs) = refl
  claimed_same t (values.Fraction d) = refl

  mutual
    value_same : (v : Valuation) (e : GhostExpression) → ((g : Identity) → Applies e g → Same g) → value_of i v e ≡ value_of j v e
    value_same v (Variable y) h = refl
    value_same v (Number z) h = refl
    value_same v (Truth b) h = refl
    value_same v (Fraction d) h = refl
    value_same v Null h = refl
    value_same v (Function g) h = refl
    value_same v (Construct c es) h = ap (λ r. values.Constructed c r) (values_same v es h)
    value_same v (Apply g es) h = ap (λ r. i.fixpoint g r) (values_same v es (λ k a. h k (inr a))) ∙ h g (inl refl) (values_of j v es)
    value_same v (PredicateValue p es) h = ap (λ r. values.Predicate p r) (values_same v es h)
    value_same v (Claims t e) h = ap (λ r. values.Truth (claimed i t r)) (value_same v e h) ∙ ap values.Truth (claimed_same t (value_of j v e))
    value_same v (Negate e) h = ap (λ r. values.Number (neg_ℤ (number_of r))) (value_same v e h)
    value_same v (Arithmetic op a b) h = ap₂ (λ r s. values.Number (computed op (number_of r) (number_of s))) (value_same v a (λ k x. h k (inl x))) (value_same v b (λ k x. h k (inr x)))
    value_same v (PointerSum a b) h = ap₂ (λ r s. further r (number_of s)) (value_same v a (λ k x. h k (inl x))) (value_same v b (λ k x. h k (inr x)))
    value_same v (Share a b) h = ap₂ shared (value_same v a (λ k x. h k (inl x))) (value_same v b (λ k x. h k (inr x)))
    value_same v (Compare op a b) h = ap₂ (λ r s. values.Truth (compared op r s)) (value_same v a (λ k x. h k (inl x))) (value_same v b (λ k x. h k (inr x)))
    value_same v (Not e) h = ap (λ r. values.Truth (not (is_true r))) (value_same v e h)
    value_same v (And a b) h = ap₂ (λ r s. values.Truth (is_true r && is_true s)) (value_same v a (λ k x. h k (inl x))) (value_same v b (λ k x. h k (inr x)))
    value_same v (Or a b) h = ap₂ (λ r s. values.Truth (is_true r || is_true s)) (value_same v a (λ k x. h k (inl x))) (value_same v b (λ k x. h k (inr x)))
    value_same v (Choose c a b) h =
        ap (λ r. cond (is_true r) (value_of i v a) (value_of i v b)) (value_same v c (λ k x. h k (inl x)))
        ∙ ap₂ (λ r s. cond (is_true (value_of j v c)) r s) (value_same v a (λ k x. h k (inr (inl x)))) (value_same v b (λ k x. h k (inr (inr x))))

    values_same : (v : Valuation) (es : GhostExpressions) → ((g : Identity) → AnyApplies es g → Same g) → values_of i v es ≡ values_of j v es
    values_same v no_expressions h = refl
    values_same v (and_expression e es) h = ap₂ more (value_same v e (λ k x. h k (inl x))) (values_same v es (λ k x. h k (inr x)))

  case_same : (v : Valuation) (cs : List CaseTree) (w : Value) → ((c : CaseTree) → Contains cs c → (g : Identity) → Applies c.result g → Same g)
      → by_case i v cs w ≡ by_case j v cs w
  case_same v [] w h = refl
  case_same v (c ∷ cs) (values.Constructed d ws) h =
      ap₂ (λ r s. cond (same_identity c.constructor d) r s)
      (value_same (all_bound v c.names ws) c.result (h c (0, omega arith, refl)))
      (case_same v cs (values.Constructed d ws) (λ k has. h k (suc has.0, omega (arith, has.1), has.2)))
  case_same v (c ∷ cs) (values.Number z) h = refl
  case_same v (c ∷ cs) (values.Truth b) h = refl
  case_same v (c ∷ cs) values.Null h = refl
  case_same v (c ∷ cs) (values.Pointer b o) h = refl
  case_same v (c ∷ cs) (values.Function g) h = refl
  case_same v (c ∷ cs) (values.Predicate p us) h = refl
  case_same v (c ∷ cs) (values.Fraction d) h = refl

  body_same : (b : FixpointBody) (vs : Values) → ((g : Identity) → BodyApplies b g → Same g) → by_body i b vs ≡ by_body j b vs
  body_same (Returns e) vs h = value_same (of_arguments vs) e h
  body_same (Switches k cs) vs h = case_same (of_arguments vs) cs (value_at vs k) (λ c has g a. h g (c, has, a))

-- ---- the claims of a list's interpretation are those given
claims_are : (claims : Identity → Identity → Bool) (fs : List FixpointTree) → (interpreted claims fs).claims ≡ claims
claims_are claims [] = refl
claims_are claims (f ∷ fs) = claims_are claims fs

-- what a body of the list uses stands in the list
uses_listed : (fs : List FixpointTree) (f : FixpointTree) → AreOrdered fs → Contains fs f → (g : Identity) → BodyApplies f.body g → (h : FixpointTree) × Contains fs h × (h.identity ≡ g)
uses_listed [] f o (k, l, e) g a = absurd (nowhere k l)
  where
    nowhere : (k : ℕ) → k < 0 → ⊥
    nowhere k l = omega arith
uses_listed (f' ∷ fs) f o (zero, l, e) g a =
    ⊎_elim (λ own. (f', (0, omega arith, refl), sym own)) (λ other. (other.0, (suc (other.1).0, omega (arith, (other.1).1), (other.1).2), other.2)) (o.1 g (subst (λ z. BodyApplies z.body g) (sym e) a))
uses_listed (f' ∷ fs) f o (suc k, l, e) g a =
    let inner = uses_listed fs f o.3 (k, omega (arith, l), e) g a in
    (inner.0, (suc (inner.1).0, omega (arith, (inner.1).1), (inner.1).2), inner.2)

-- a fixpoint in front changes the value of no other
kept : (claims : Identity → Identity → Bool) (f : FixpointTree) (fs : List FixpointTree) (g : Identity) (vs : Values) → g ≢ f.identity
    → (interpreted claims (f ∷ fs)).fixpoint g vs ≡ (interpreted claims fs).fixpoint g vs
kept claims f fs g vs other =
    ap (λ t. cond t (unfolded (interpreted claims fs) f (unfoldings f.body vs) vs) ((interpreted claims fs).fixpoint g vs))
    (⊎_elim (λ yes1. absurd (other ((bytes_decides g f.identity).0 yes1))) (λ no1. no1) (cases_Bool (same_identity g f.identity)))

pub listed_fixpoints_meet_equations : ListedFixpointsMeetEquations
listed_fixpoints_meet_equations claims [] f vs o (k, l, e) = absurd (nowhere k l)
  where
    nowhere : (k : ℕ) → k < 0 → ⊥
    nowhere k l = omega arith
listed_fixpoints_meet_equations claims (f' ∷ fs) f vs o (zero, l, e) =
    subst (λ z. (interpreted claims (f' ∷ fs)).fixpoint z.identity vs ≡ by_body (interpreted claims (f' ∷ fs)) z.body vs) e (fixpoints_meet_equations claims f' fs vs o.0)
listed_fixpoints_meet_equations claims (f' ∷ fs) f vs o (suc k, l, e) =
    let has : Contains fs f = (k, omega (arith, l), e) in
    let tail = listed_fixpoints_meet_equations claims fs f vs o.3 has in
    kept claims f' fs f.identity vs (o.2 f has) ∙ tail
    ∙ body_same (interpreted claims fs) (interpreted claims (f' ∷ fs)) refl f.body vs
    (λ g a us. let other = uses_listed fs f o.3 has g a in sym (kept claims f' fs g us (λ same. o.2 other.0 other.1 (other.2 ∙ same))))
