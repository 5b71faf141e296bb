-- The values of terms: of an expression in which terms stand for the names, and under a valuation with another value for a new symbol.
use Rattle.std.proofs.Common.{◌≡◌, ◌≢◌, ℕ, cond, not, ◌&&◌, ◌||◌, Some, None, refl, sym, ap, ap₂, subst, ◌∙◌, inl, inr, neg_ℤ, unwrap_or}
use Rattle.std.proofs.lemmas.Bool.{cases_Bool}
use Rattle.vf_model.specs.Values.{Dyadic, Value, Values, more, number_of}
use Rattle.vf_model.specs.Values as values
use Rattle.vf_meaning.specs.Fractions.{product}
use Rattle.vf_meaning.specs.Ghost.{Name, Numbered, same_name, GhostExpression, GhostExpressions, no_expressions, and_expression, Variable, Number, Truth, Fraction, Null, Function, Construct, Apply, PredicateValue, Claims, Negate, Arithmetic, PointerSum, Share, Compare, Not, And, Or, Choose}
use Rattle.vf_meaning.specs.Valuations.{Valuation, is_true, further, bound, fraction_in}
use Rattle.vf_meaning.specs.GhostValues.{Interpretation, computed, compared, shared, claimed, value_of, values_of}
use Rattle.vf_meaning.specs.Names.{Uses}
use Rattle.vf_meaning.specs.Assertions.{Environment}
use Rattle.vf_meaning.proofs.Values.{agreed, tells_names}
use Rattle.vf_rules.specs.Terms.{Term, Store, term_named, term_of, terms_of, stored, IsBound}
use Rattle.vf_rules.specs.States.{meaning, value_in, StoreMeans}
use Rattle.vf_rules.specs.Fresh.{IsFreshIn}
use Rattle.vf_rules.specs.Laws.{Grows}

-- ---- the value of an expression with terms for its names
module _ (i : Interpretation) (v : Valuation) (s : Store) where
  -- the valuation of the names by their terms
  abbrev pub by_terms : Valuation
  by_terms x = value_of i v (term_named s x)

  mutual
    pub term_value : (x : GhostExpression) → value_of i v (term_of s x) ≡ value_of i by_terms x
    term_value (Variable y) = refl
    term_value (Number z) = refl
    term_value (Truth b) = refl
    term_value (Fraction d) = refl
    term_value Null = refl
    term_value (Function g) = refl
    term_value (Construct c es) = ap (λ r. values.Constructed c r) (terms_value es)
    term_value (Apply f es) = ap (λ r. i.fixpoint f r) (terms_value es)
    term_value (PredicateValue p es) = ap (λ r. values.Predicate p r) (terms_value es)
    term_value (Claims t e) = ap (λ r. values.Truth (claimed i t r)) (term_value e)
    term_value (Negate e) = ap (λ r. values.Number (neg_ℤ (number_of r))) (term_value e)
    term_value (Arithmetic op a b) = ap₂ (λ r q. values.Number (computed op (number_of r) (number_of q))) (term_value a) (term_value b)
    term_value (PointerSum a b) = ap₂ (λ r q. further r (number_of q)) (term_value a) (term_value b)
    term_value (Share a b) = ap₂ shared (term_value a) (term_value b)
    term_value (Compare op a b) = ap₂ (λ r q. values.Truth (compared op r q)) (term_value a) (term_value b)
    term_value (Not e) = ap (λ r. values.Truth (not (is_true r))) (term_value e)
    term_value (And a b) = ap₂ (λ r q. values.Truth (is_true r && is_true q)) (term_value a) (term_value b)
    term_value (Or a b) = ap₂ (λ r q. values.Truth (is_true r || is_true q)) (term_value a) (term_value b)
    term_value (Choose c a b) =
        ap (λ r. cond (is_true r) (value_of i v (term_of s a)) (value_of i v (term_of s b))) (term_value c)
        ∙ ap₂ (λ r q. cond (is_true (value_of i by_terms c)) r q) (term_value a) (term_value b)

    pub terms_value : (es : GhostExpressions) → values_of i v (terms_of s es) ≡ values_of i by_terms es
    terms_value no_expressions = refl
    terms_value (and_expression e es) = ap₂ more (term_value e) (terms_value es)

-- a bound name's term
pub named_term : (s : Store) (x : Name) (t : Term) → s x ≡ Some t → term_named s x ≡ t
named_term s x t h = ap (λ o. unwrap_or o Null) h

pub bound_named : (e : Environment) (v : Valuation) (s : Store) (w : Valuation) (x : Name) → StoreMeans e v s w → (t : Term) × (s x ≡ Some t) → value_in e v (term_named s x) ≡ w x
bound_named e v s w x m h = ap (value_in e v) (named_term s x h.0 h.1) ∙ m x h.0 h.1

-- where each name is bound, the value of the term is that of the expression under the valuation of the names
pub bound_value : (e : Environment) (v : Valuation) (s : Store) (w : Valuation) (x : GhostExpression) → IsBound s x → StoreMeans e v s w → value_in e v (term_of s x) ≡ value_of (meaning e) w x
bound_value e v s w x b m = term_value (meaning e) v s x ∙ agreed (meaning e) (by_terms (meaning e) v s) w x (λ y u. bound_named e v s w y m (b y u))

-- ---- new symbols
pub other_symbol : (v : Valuation) (y : ℕ) (u : Value) (x : Name) → x ≢ Numbered y → bound v (Numbered y) u x ≡ v x
other_symbol v y u x h =
    elim (cases_Bool (same_name x (Numbered y))) [
      | inl t ↦ absurd (h ((tells_names x (Numbered y)).0 t))
      | inr t ↦ ap (λ b. cond b u (v x)) t
    ]

pub own_symbol : (v : Valuation) (y : ℕ) (u : Value) → bound v (Numbered y) u (Numbered y) ≡ u
own_symbol v y u = ap (λ b. cond b u (v (Numbered y))) ((tells_names (Numbered y) (Numbered y)).1 refl)

pub fresh_value : (e : Environment) (v : Valuation) (y : ℕ) (u : Value) (t : Term) → (Uses t (Numbered y) → ⊥) → value_in e (bound v (Numbered y) u) t ≡ value_in e v t
fresh_value e v y u t h = agreed (meaning e) (bound v (Numbered y) u) v t (λ x used. other_symbol v y u x (λ same. h (subst (λ z. Uses t z) same used)))

pub fresh_store : (e : Environment) (v : Valuation) (y : ℕ) (u : Value) (s : Store) (w : Valuation) → IsFreshIn y s → StoreMeans e v s w → StoreMeans e (bound v (Numbered y) u) s w
fresh_store e v y u s w f m x t h = fresh_value e v y u t (f x t h) ∙ m x t h

-- ---- stores
pub stored_own : (s : Store) (x : Name) (t : Term) → stored s x t x ≡ Some t
stored_own s x t = ap (λ b. cond b (Some t) (s x)) ((tells_names x x).1 refl)

pub stored_other : (s : Store) (x y : Name) (t : Term) → y ≢ x → stored s x t y ≡ s y
stored_other s x y t h =
    elim (cases_Bool (same_name y x)) [
      | inl e ↦ absurd (h ((tells_names y x).0 e))
      | inr e ↦ ap (λ b. cond b (Some t) (s y)) e
    ]

some_same : {A : Type 0} {x y : A} → Some x ≡ Some y → x ≡ y
some_same e = cc

-- a name that gets the term of its value
pub stored_means : (e : Environment) (v : Valuation) (s : Store) (w : Valuation) (x : Name) (t : Term) → StoreMeans e v s w → value_in e v t ≡ w x → StoreMeans e v (stored s x t) w
stored_means e v s w x t m h y u k =
    elim (cases_Bool (same_name y x)) [
      | inl same ↦ ap (value_in e v) (some_same (sym k ∙ ap (λ b. cond b (Some t) (s y)) same)) ∙ h ∙ ap w (sym ((tells_names y x).0 same))
      | inr other ↦ m y u (sym (ap (λ b. cond b (Some t) (s y)) other) ∙ k)
    ]

none_some : {A B : Type 0} {x : A} → None ≡ Some x → B
none_some e = cc

pub stored_grows : (s : Store) (x : Name) (t : Term) → s x ≡ None → Grows s (stored s x t)
stored_grows s x t h y u k =
    elim (cases_Bool (same_name y x)) [
      | inl same ↦ none_some (sym h ∙ ap s (sym ((tells_names y x).0 same)) ∙ k)
      | inr other ↦ ap (λ b. cond b (Some t) (s y)) other ∙ k
    ]

pub grown_means : (e : Environment) (v : Valuation) (s r : Store) (w : Valuation) → Grows s r → StoreMeans e v r w → StoreMeans e v s w
grown_means e v s r w g m x t h = m x t (g x t h)

-- ---- shares
shared_fractions : (a b : Value) (x y : Dyadic) → a ≡ values.Fraction x → b ≡ values.Fraction y → shared a b ≡ values.Fraction (product x y)
shared_fractions a b x y h k = ap₂ shared h k

in_fraction : (w : Value) (x : Dyadic) → fraction_in w ≡ Some x → w ≡ values.Fraction x
in_fraction (values.Fraction d) x h = ap values.Fraction (some_same h)
in_fraction (values.Number z) x h = none_some h
in_fraction (values.Truth b) x h = none_some h
in_fraction values.Null x h = none_some h
in_fraction (values.Pointer b o) x h = none_some h
in_fraction (values.Function g) x h = none_some h
in_fraction (values.Constructed c vs) x h = none_some h
in_fraction (values.Predicate p vs) x h = none_some h

pub fraction_is : (w : Value) (x : Dyadic) → fraction_in w ≡ Some x → w ≡ values.Fraction x
fraction_is w x h = in_fraction w x h
