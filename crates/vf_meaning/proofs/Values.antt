-- The laws of values and of ghost expressions.
use Rattle.std.proofs.Common.{◌≡◌, Bool, true, false, cond, not, ◌&&◌, ◌||◌, ◌==◌, refl, sym, ap, ap₂, subst, ◌∙◌, inl, inr}
use Rattle.std.specs.Ordering.{int_eq}
use Rattle.std.specs.Cmp.Lexicographic.{bytes_decides}
use Rattle.std.proofs.lemmas.Bool.{false≢true, eqb-true, eq-eqb, and_parts, and_from}
use Rattle.std.proofs.lemmas.Bool.Decides.{Decides-int_eq}
use Rattle.vf_tree.specs.Core.{Identity, Divide, Remainder}
use Rattle.vf_model.specs.Values.{Dyadic, Whole, Odd, Value, Values, none, more, number_of, same_truth}
use Rattle.vf_model.specs.Values as values
use Rattle.vf_meaning.specs.Ghost.{Name, Numbered, Result, This, CurrentThread, same_name, GhostExpression, GhostExpressions, no_expressions, and_expression, Variable, Number, Truth, Fraction, Null, Function, Construct, Apply, PredicateValue, Claims, Negate, Arithmetic, PointerSum, Share, Compare, Not, And, Or, Choose}
use Rattle.vf_meaning.specs.Valuations.{Valuation, is_same, are_same, same_fraction, is_true, further}
use Rattle.vf_meaning.specs.Names.{Uses, UsesAny}
use Rattle.vf_meaning.specs.GhostValues.{Interpretation, value_of, values_of, computed, compared, shared, claimed}
use Rattle.vf_meaning.specs.ValueLaws.{TellsClaims, TellsValues, TellsNames, ValuesAgree, DividesByNought}

truth_told : (a b : Bool) → same_truth a b ≡ true → a ≡ b
truth_told true true h = refl
truth_told false false h = refl
truth_told true false h = absurd (false≢true h)
truth_told false true h = absurd (false≢true h)

truth_own : (a : Bool) → same_truth a a ≡ true
truth_own true = refl
truth_own false = refl

fraction_told : (a b : Dyadic) → same_fraction a b ≡ true → a ≡ b
fraction_told (Whole k) (Whole l) h = ap Whole (eqb-true k l h)
fraction_told (Odd j m) (Odd i n) h = let p = and_parts (j == i) (m == n) h in ap₂ Odd (eqb-true j i p.0) (eqb-true m n p.1)
fraction_told _ _ h = absurd (false≢true h)

fraction_own : (a : Dyadic) → same_fraction a a ≡ true
fraction_own (Whole k) = eq-eqb k k refl
fraction_own (Odd j m) = and_from (j == j) (m == m) (eq-eqb j j refl) (eq-eqb m m refl)

mutual
  value_told : (v w : Value) → is_same v w ≡ true → v ≡ w
  value_told (values.Number y) (values.Number z) h = ap values.Number ((Decides-int_eq y z).0 h)
  value_told (values.Truth a) (values.Truth b) h = ap values.Truth (truth_told a b h)
  value_told values.Null values.Null h = refl
  value_told (values.Pointer b o) (values.Pointer c q) h = let p = and_parts (b == c) (int_eq o q) h in ap₂ values.Pointer (eqb-true b c p.0) ((Decides-int_eq o q).0 p.1)
  value_told (values.Function g) (values.Function k) h = ap values.Function ((bytes_decides g k).0 h)
  value_told (values.Constructed c vs) (values.Constructed d ws) h = let p = and_parts _ (are_same vs ws) h in ap₂ values.Constructed ((bytes_decides c d).0 p.0) (values_told vs ws p.1)
  value_told (values.Predicate c vs) (values.Predicate d ws) h = let p = and_parts _ (are_same vs ws) h in ap₂ values.Predicate ((bytes_decides c d).0 p.0) (values_told vs ws p.1)
  value_told (values.Fraction d) (values.Fraction e) h = ap values.Fraction (fraction_told d e h)
  value_told _ _ h = absurd (false≢true h)

  values_told : (vs ws : Values) → are_same vs ws ≡ true → vs ≡ ws
  values_told none none h = refl
  values_told (more v vs) (more w ws) h = let p = and_parts (is_same v w) (are_same vs ws) h in ap₂ more (value_told v w p.0) (values_told vs ws p.1)
  values_told _ _ h = absurd (false≢true h)

mutual
  value_own : (v : Value) → is_same v v ≡ true
  value_own (values.Number z) = (Decides-int_eq z z).1 refl
  value_own (values.Truth b) = truth_own b
  value_own values.Null = refl
  value_own (values.Pointer b o) = and_from (b == b) (int_eq o o) (eq-eqb b b refl) ((Decides-int_eq o o).1 refl)
  value_own (values.Function g) = (bytes_decides g g).1 refl
  value_own (values.Constructed c vs) = and_from _ (are_same vs vs) ((bytes_decides c c).1 refl) (values_own vs)
  value_own (values.Predicate c vs) = and_from _ (are_same vs vs) ((bytes_decides c c).1 refl) (values_own vs)
  value_own (values.Fraction d) = fraction_own d

  values_own : (vs : Values) → are_same vs vs ≡ true
  values_own none = refl
  values_own (more v vs) = and_from (is_same v v) (are_same vs vs) (value_own v) (values_own vs)

pub tells_values : TellsValues
tells_values v w = (value_told v w, λ e. subst (λ x. is_same v x ≡ true) e (value_own v))

name_told : (x y : Name) → same_name x y ≡ true → x ≡ y
name_told (Numbered i) (Numbered j) h = ap Numbered (eqb-true i j h)
name_told Result Result h = refl
name_told This This h = refl
name_told CurrentThread CurrentThread h = refl
name_told _ _ h = absurd (false≢true h)

name_own : (x : Name) → same_name x x ≡ true
name_own (Numbered i) = eq-eqb i i refl
name_own Result = refl
name_own This = refl
name_own CurrentThread = refl

pub tells_names : TellsNames
tells_names x y = (name_told x y, λ e. subst (λ z. same_name x z ≡ true) e (name_own x))

module _ (i : Interpretation) (v w : Valuation) where
  mutual
    value_agrees : (e : GhostExpression) → ((x : Name) → Uses e x → v x ≡ w x) → value_of i v e ≡ value_of i w e
    value_agrees (Variable y) h = h y refl
    value_agrees (Number z) h = refl
    value_agrees (Truth b) h = refl
    value_agrees (Fraction d) h = refl
    value_agrees Null h = refl
    value_agrees (Function g) h = refl
    value_agrees (Construct c es) h = ap (λ r. values.Constructed c r) (values_agree es h)
    value_agrees (Apply f es) h = ap (λ r. i.fixpoint f r) (values_agree es h)
    value_agrees (PredicateValue p es) h = ap (λ r. values.Predicate p r) (values_agree es h)
    value_agrees (Claims t e) h = ap (λ r. values.Truth (claimed i t r)) (value_agrees e h)
    value_agrees (Negate e) h = ap (λ r. value_of i (λ x. r) (Negate (Variable Result))) (value_agrees e h)
    value_agrees (Arithmetic op a b) h = ap₂ (λ r s. values.Number (computed op (number_of r) (number_of s))) (value_agrees a (λ x u. h x (inl u))) (value_agrees b (λ x u. h x (inr u)))
    value_agrees (PointerSum a b) h = ap₂ (λ r s. further r (number_of s)) (value_agrees a (λ x u. h x (inl u))) (value_agrees b (λ x u. h x (inr u)))
    value_agrees (Share a b) h = ap₂ shared (value_agrees a (λ x u. h x (inl u))) (value_agrees b (λ x u. h x (inr u)))
    value_agrees (Compare op a b) h = ap₂ (λ r s. values.Truth (compared op r s)) (value_agrees a (λ x u. h x (inl u))) (value_agrees b (λ x u. h x (inr u)))
    value_agrees (Not e) h = ap (λ r. values.Truth (not (is_true r))) (value_agrees e h)
    value_agrees (And a b) h = ap₂ (λ r s. values.Truth (is_true r && is_true s)) (value_agrees a (λ x u. h x (inl u))) (value_agrees b (λ x u. h x (inr u)))
    value_agrees (Or a b) h = ap₂ (λ r s. values.Truth (is_true r || is_true s)) (value_agrees a (λ x u. h x (inl u))) (value_agrees b (λ x u. h x (inr u)))
    value_agrees (Choose c a b) h =
        ap (λ r. cond (is_true r) (value_of i v a) (value_of i v b)) (value_agrees c (λ x u. h x (inl u)))
        ∙ ap₂ (λ r s. cond (is_true (value_of i w c)) r s) (value_agrees a (λ x u. h x (inr (inl u)))) (value_agrees b (λ x u. h x (inr (inr u))))

    values_agree : (es : GhostExpressions) → ((x : Name) → UsesAny es x → v x ≡ w x) → values_of i v es ≡ values_of i w es
    values_agree no_expressions h = refl
    values_agree (and_expression e es) h = ap₂ more (value_agrees e (λ x u. h x (inl u))) (values_agree es (λ x u. h x (inr u)))

pub agreed : ValuesAgree
agreed i v w e h = value_agrees i v w e h

pub all_agreed : (i : Interpretation) (v w : Valuation) (es : GhostExpressions) → ((x : Name) → UsesAny es x → v x ≡ w x) → values_of i v es ≡ values_of i w es
all_agreed i v w es h = values_agree i v w es h

pub divides_by_nought : DividesByNought
divides_by_nought i v a b h = (
  ap (λ z. values.Number (computed Divide (number_of (value_of i v a)) z)) h,
  ap (λ z. values.Number (computed Remainder (number_of (value_of i v a)) z)) h,
)

claims_told : (i : Interpretation) (t : Identity) (w : Value) → claimed i t w ≡ true → (g : Identity) × (w ≡ values.Function g) × (i.claims g t ≡ true)
claims_told i t (values.Function g) h = (g, refl, h)
claims_told i t _ h = absurd (false≢true h)

pub tells_claims : TellsClaims
tells_claims i v t e = (λ h. claims_told i t (value_of i v e) h, λ c. subst (λ w. claimed i t w ≡ true) (sym c.1) c.2)
