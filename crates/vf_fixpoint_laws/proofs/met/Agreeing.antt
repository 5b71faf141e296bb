-- Where fixpoints that come earlier agree in two interpretations, and the same fixpoint at what is smaller, so do the values of a body.
use Rattle.std.proofs.Common.{◌≡◌, ℕ, suc, ◌<◌, List, Option, Some, None, refl, sym, subst, ap, ap₂, ◌∙◌, ⊎_elim, arith}
use Rattle.std.specs.Prelude.{Bool}
use Rattle.vf_tree.specs.Core.{Identity}
use Rattle.vf_model.specs.Values.{Value, Values, none, more}
use Rattle.vf_model.specs.Values as values
use Rattle.vf_meaning.specs.Valuations.{Valuation, appended, count, of_arguments, size, sizes, value_at}
use Rattle.vf_meaning.specs.GhostValues.{Interpretation, claimed}
use Rattle.vf_closure.specs.Terms.{Head, Symbol, Number, Truth, Null, Function, Constructor, Fixpoint, Claims, Predicate, Share, Sum, Plus, Arithmetic, Compare, Not, And, Or, Choose, PointerSum, Term, Terms, term, no_terms, and_term, kind_of}
use Rattle.vf_closure.specs.Values.{all_values, applied, of_kind, value}
use Rattle.vf_definitions.specs.Unfolded.{case_for}
use Rattle.vf_definitions.specs.declared.fixpoint.Case.{Case}
use Rattle.vf_definitions.specs.declared.fixpoint.Body.{Body}
use Rattle.vf_definitions.specs.declared.fixpoint.Body.TheVariants.{Returns, Switches}
use Rattle.vf_fixpoint_laws.specs.bodies.Recursion.{BodyGoesDown, GoesDownBy, PassesComponent, Ranks, TermGoesDown, TermsGoDown}
use Rattle.vf_fixpoint_laws.specs.met.Valued.{body_value, case_value, measure, switched_value}
use Rattle.vf_fixpoint_laws.proofs.met.Small.{component_small}

claimed_alike : (i j : Interpretation) → i.claims ≡ j.claims → (t : Identity) (w : Value) → claimed i t w ≡ claimed j t w
claimed_alike i j e t (values.Function g) = ap (λ (claims : Identity → Identity → Bool). claims g t) e
claimed_alike i j e t (values.Number z) = refl
claimed_alike i j e t (values.Truth b) = refl
claimed_alike i j e t values.Null = refl
claimed_alike i j e t (values.Pointer b o) = refl
claimed_alike i j e t (values.Constructed c vs) = refl
claimed_alike i j e t (values.Predicate p vs) = refl
claimed_alike i j e t (values.Fraction d) = refl

-- ---- terms
module _ (i j : Interpretation) (claims : i.claims ≡ j.claims) (r : Ranks) (c : Identity) (n : ℕ) (o : Option ℕ) (v : Valuation)
    (earlier : (f : Identity) → r f < r c → (ws : Values) → i.fixpoint f ws ≡ j.fixpoint f ws) (itself : (ts : Terms) → PassesComponent n o ts → i.fixpoint c (all_values i v ts) ≡ j.fixpoint c (all_values i v ts)) where
  head_alike : (h : Head) (ts : Terms) → GoesDownBy r c n o h ts → applied i v h (all_values i v ts) ≡ applied j v h (all_values i v ts)
  head_alike (Fixpoint k f) ts g = ⊎_elim (λ l. earlier f l (all_values i v ts)) (λ p. subst (λ (z : Identity). i.fixpoint z (all_values i v ts) ≡ j.fixpoint z (all_values i v ts)) (sym p.0) (itself ts p.1)) g
  head_alike (Claims t) ts g = ap values.Truth (claimed_alike i j claims t (value_at (all_values i v ts) 0))
  head_alike (Symbol k x) ts g = refl
  head_alike (Number z) ts g = refl
  head_alike (Truth b) ts g = refl
  head_alike Null ts g = refl
  head_alike (Function f) ts g = refl
  head_alike (Constructor f) ts g = refl
  head_alike (Predicate p) ts g = refl
  head_alike (Share x) ts g = refl
  head_alike (Sum ks) ts g = refl
  head_alike Plus ts g = refl
  head_alike (Arithmetic q) ts g = refl
  head_alike (Compare q) ts g = refl
  head_alike Not ts g = refl
  head_alike And ts g = refl
  head_alike Or ts g = refl
  head_alike (Choose k) ts g = refl
  head_alike PointerSum ts g = refl

  mutual
    term_alike : (t : Term) → TermGoesDown r c n o t → value i v t ≡ value j v t
    term_alike (term h ts) g = ap (of_kind (kind_of h)) (head_alike h ts g.0) ∙ ap (λ (vs : Values). of_kind (kind_of h) (applied j v h vs)) (terms_alike ts g.1)

    terms_alike : (ts : Terms) → TermsGoDown r c n o ts → all_values i v ts ≡ all_values j v ts
    terms_alike no_terms g = refl
    terms_alike (and_term t ts) g = ap₂ more (term_alike t g.0) (terms_alike ts g.1)

-- ---- bodies
module _ (i j : Interpretation) (claims : i.claims ≡ j.claims) (r : Ranks) (c : Identity) (n : ℕ) (vs : Values) (long : n ≡ count vs) (earlier : (f : Identity) → r f < r c → (ws : Values) → i.fixpoint f ws ≡ j.fixpoint f ws) where
  -- a switch has the same value in both
  module _ (p : ℕ) (cases : List Case) (itself : (ws : Values) → size (value_at ws p) < size (value_at vs p) → i.fixpoint c ws ≡ j.fixpoint c ws) (down : BodyGoesDown r c n (Switches p cases)) where
    case_alike : (g : Identity) (us : Values) → value_at vs p ≡ values.Constructed g us → (o : Option Case) → case_for cases g ≡ o → case_value i vs us o ≡ case_value j vs us o
    case_alike g us at None e = refl
    case_alike g us at (Some y) e =
        term_alike i j claims r c n (Some p) (of_arguments (appended vs us)) earlier
        (λ ts q. itself (all_values i (of_arguments (appended vs us)) ts)
        (let small = component_small i vs us n ts p long q in let whole : size (value_at vs p) ≡ suc (sizes us) = ap size at in omega (arith, small, whole)))
        y.result (down g y e)

    switch_alike : (w : Value) → value_at vs p ≡ w → switched_value i vs cases w ≡ switched_value j vs cases w
    switch_alike (values.Constructed g us) at = case_alike g us at (case_for cases g) refl
    switch_alike (values.Number z) at = refl
    switch_alike (values.Truth b) at = refl
    switch_alike values.Null at = refl
    switch_alike (values.Pointer b o) at = refl
    switch_alike (values.Function f) at = refl
    switch_alike (values.Predicate q us) at = refl
    switch_alike (values.Fraction d) at = refl

  pub body_alike : (b : Body) → ((ws : Values) → measure b ws < measure b vs → i.fixpoint c ws ≡ j.fixpoint c ws) → BodyGoesDown r c n b → body_value i b vs ≡ body_value j b vs
  body_alike (Returns t) itself down = term_alike i j claims r c n None (of_arguments vs) earlier (λ ts p. absurd p) t down
  body_alike (Switches p cases) itself down = switch_alike p cases itself down (value_at vs p) refl
