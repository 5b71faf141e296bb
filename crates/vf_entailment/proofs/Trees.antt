-- The meaning of an environment gives the fixpoints among its own the values of their bodies.
use Rattle.std.proofs.Common.{◌≡◌, ◌↔◌, ℕ, zero, suc, Bool, true, false, cond, List, [], ◌∷◌, length, map, Some, refl, sym, subst, ap, ap₂, ◌∙◌, arith}
use Rattle.std.specs.Prelude.{Contains, ◌==◌}
use Rattle.std.proofs.Math.Path.{fun_ext}
use Rattle.std.proofs.lemmas.Bool.Decides.{Decides-eqb}
use Rattle.vf_tree.specs.Core.{Identity}
use Rattle.vf_model.specs.Values.{Value, Values, none, more, same_identity}
use Rattle.vf_model.specs.Values as values
use Rattle.vf_meaning.specs.Ghost.{Name, Numbered, Result, This, CurrentThread, Sort}
use Rattle.vf_meaning.specs.Valuations.{Valuation, value_at, count, appended, bound, all_bound, of_arguments}
use Rattle.vf_meaning.specs.GhostValues.{Interpretation, value_of, by_body, by_case}
use Rattle.vf_meaning.proofs.Ordered.{listed_fixpoints_meet_equations}
use Rattle.vf_closure.specs.Terms.{Kind, Integer, Other, Term, term}
use Rattle.vf_closure.specs.Values.{of_kind, value}
use Rattle.vf_closure.specs.Literals.{IsInteger}
use Rattle.vf_normal.specs.Normal.{as_kind}
use Rattle.vf_normal.specs.Sums.{as_integer, integer_by}
use Rattle.vf_normal.proofs.Worth.{as_integer_value}
use Rattle.vf_formula.specs.Heads.{shown_kind}
use Rattle.vf_definitions.specs.Unfolded.{case_for}
use Rattle.vf_definitions.specs.Laws.{MeetsBody}
use Rattle.vf_definitions.specs.declared.fixpoint.Case.{Case}
use Rattle.vf_definitions.specs.declared.fixpoint.Body.{Body}
use Rattle.vf_definitions.specs.declared.fixpoint.Body.TheVariants.{Returns, Switches}
use Rattle.vf_definitions.specs.declared.fixpoint.Fixpoint.{Fixpoint}
use Rattle.vf_rules.specs.States.{meaning}
use Rattle.vf_entailment.specs.Meant.{meant}
use Rattle.vf_entailment.specs.Trees.{numbered, case_tree, body_tree, tree_of, case_as, body_as}
use Rattle.vf_entailment.specs.Laws.{AreIntegers, BodiesStayOfTheirKind, DefinitionsAreMet}
use Rattle.vf_entailment.proofs.Values.{terms_meant}

-- ---- names numbered behind the parameters
one_more_counted : (vs : Values) (w : Value) → count (appended vs (more w none)) ≡ suc (count vs)
one_more_counted none w = refl
one_more_counted (more v vs) w = ap suc (one_more_counted vs w)

appended_none : (vs : Values) → appended vs none ≡ vs
appended_none none = refl
appended_none (more v vs) = ap (more v) (appended_none vs)

appended_one : (vs : Values) (w : Value) (ws : Values) → appended (appended vs (more w none)) ws ≡ appended vs (more w ws)
appended_one none w ws = refl
appended_one (more v vs) w ws = ap (more v) (appended_one vs w ws)

at_end : (vs : Values) (w : Value) → w ≡ value_at (appended vs (more w none)) (count vs)
at_end none w = refl
at_end (more v vs) w = at_end vs w

before_end : (vs : Values) (w : Value) (k : ℕ) → (k ≡ count vs → ⊥) → value_at vs k ≡ value_at (appended vs (more w none)) k
before_end none w zero n = absurd (n refl)
before_end none w (suc k) n = refl
before_end (more v vs) w zero n = refl
before_end (more v vs) w (suc k) n = before_end vs w k (λ e. n (ap suc e))

placed_behind : (vs : Values) (w : Value) (k : ℕ) → cond (k == count vs) w (value_at vs k) ≡ value_at (appended vs (more w none)) k
placed_behind vs w k = by (k == count vs) (Decides-eqb k (count vs))
  where
    by : (b : Bool) → (b ≡ true) ↔ (k ≡ count vs) → cond b w (value_at vs k) ≡ value_at (appended vs (more w none)) k
    by true told = at_end vs w ∙ ap (value_at (appended vs (more w none))) (sym (told.0 refl))
    by false told = before_end vs w k (λ e. let f = told.1 e in cc)

one_behind : (vs : Values) (w : Value) (x : Name) → bound (of_arguments vs) (Numbered (count vs)) w x ≡ of_arguments (appended vs (more w none)) x
one_behind vs w (Numbered k) = placed_behind vs w k
one_behind vs w Result = refl
one_behind vs w This = refl
one_behind vs w CurrentThread = refl

-- names numbered behind arguments have the values behind these
all_behind : (vs us : Values) → all_bound (of_arguments vs) (numbered (count vs) (count us)) us ≡ of_arguments (appended vs us)
all_behind vs none = ap of_arguments (sym (appended_none vs))
all_behind vs (more w ws) =
    ap₂ (λ f n. all_bound f (numbered n (count ws)) ws) (fun_ext (one_behind vs w)) (sym (one_more_counted vs w))
    ∙ all_behind (appended vs (more w none)) ws
    ∙ ap of_arguments (appended_one vs w ws)

-- ---- bodies
module _ (i : Interpretation) where
  kind_value : (v : Valuation) (k : Kind) (t : Term) → value i v (as_kind k t) ≡ of_kind k (value i v t)
  kind_value v Integer t = as_integer_value i v t
  kind_value v Other t = refl

  -- what a case returns, taken as one of a kind
  case_met : (k : Kind) (vs us : Values) (y : Case) (n : ℕ) → count vs ≡ n → count us ≡ y.names
      → of_kind k (value_of i (all_bound (of_arguments vs) (case_tree n y).names us) (case_tree n y).result) ≡ value i (of_arguments (appended vs us)) (case_as k y).result
  case_met k vs us y n counted many =
      ap (of_kind k)
      (ap₂ (λ a b. value_of i (all_bound (of_arguments vs) (numbered a b) us) (meant y.result)) (sym counted) (sym many)
      ∙ ap (λ v. value_of i v (meant y.result)) (all_behind vs us)
      ∙ terms_meant i (of_arguments (appended vs us)) y.result)
      ∙ sym (kind_value (of_arguments (appended vs us)) k y.result)

  -- a case gives a value
  abbrev Gives : Kind → Values → Values → Case → Value → Type 0
  Gives k vs us x w = of_kind k w ≡ value i (of_arguments (appended vs us)) x.result

  cases_met : (k : Kind) (vs us : Values) (c : Identity) (n : ℕ) (ys : List Case) (x : Case) → count vs ≡ n → case_for (map (case_as k) ys) c ≡ Some x → count us ≡ x.names
      → Gives k vs us x (by_case i (of_arguments vs) (map (case_tree n) ys) (values.Constructed c us))
  cases_met k vs us c n [] x counted e many = absurd cc
  cases_met k vs us c n (y ∷ ys) x counted e many = by (same_identity y.constructor c) e (cases_met k vs us c n ys x counted)
    where
      by : (b : Bool) → cond b (Some (case_as k y)) (case_for (map (case_as k) ys) c) ≡ Some x
          → (case_for (map (case_as k) ys) c ≡ Some x → count us ≡ x.names → Gives k vs us x (by_case i (of_arguments vs) (map (case_tree n) ys) (values.Constructed c us)))
          → Gives k vs us x (cond b (value_of i (all_bound (of_arguments vs) (case_tree n y).names us) (case_tree n y).result) (by_case i (of_arguments vs) (map (case_tree n) ys) (values.Constructed c us)))
      by true d rest =
          let same : case_as k y ≡ x = cc in
          case_met k vs us y n counted (many ∙ ap (λ (z : Case). z.names) (sym same)) ∙ ap (λ (z : Case). value i (of_arguments (appended vs us)) z.result) same
      by false d rest = rest d many

  -- a fixpoint whose equation is that of a tree has the values of its body
  body_met : (f : Fixpoint) (sorts : List Sort) (b : Body) → length sorts ≡ f.parameters → ((vs : Values) → i.fixpoint f.identity vs ≡ by_body i (body_tree (length sorts) b) vs) → MeetsBody i f (body_as (shown_kind f.kind) b)
  body_met f sorts (Returns t) number equation = λ vs counted.
      ap (of_kind (shown_kind f.kind)) (equation vs ∙ terms_meant i (of_arguments vs) t) ∙ sym (kind_value (of_arguments vs) (shown_kind f.kind) t)
  body_met f sorts (Switches p cases) number equation = λ vs us c x counted at_constructor found many.
      ap (of_kind (shown_kind f.kind)) (equation vs ∙ ap (by_case i (of_arguments vs) (map (case_tree (length sorts)) cases)) at_constructor)
      ∙ cases_met (shown_kind f.kind) vs us c (length sorts) cases x (counted ∙ sym number) found many

pub definitions_met : DefinitionsAreMet
definitions_met e fs ordered among f there =
    let h = among f there in
    subst (MeetsBody (meaning e) f) (sym h.is)
    (body_met (meaning e) f h.sorts h.body h.number (λ vs. listed_fixpoints_meet_equations e.claims e.fixpoints (tree_of f.identity h.sorts h.result h.body) vs ordered h.there))

-- ---- bodies of their kind
abbrev with_result : Case → Term → Case
with_result y t = record { constructor = y.constructor; names = y.names; result = t }

case_stays : (k : Kind) (y : Case) → as_kind k y.result ≡ y.result → case_as k y ≡ y
case_stays k y e = ap (with_result y) e

cases_stay : (k : Kind) (ys : List Case) → ((y : Case) → Contains ys y → as_kind k y.result ≡ y.result) → map (case_as k) ys ≡ ys
cases_stay k [] h = refl
cases_stay k (y ∷ ys) h = ap₂ (λ x xs. x ∷ xs) (case_stays k y (h y (0, omega arith, refl))) (cases_stay k ys (λ z there. h z (suc there.0, omega (arith, there.1), there.2)))

integer_stays : (t : Term) → IsInteger t → as_integer t ≡ t
integer_stays (term h ts) e = ap (λ k. integer_by k (term h ts)) e

pub bodies_stay : BodiesStayOfTheirKind
bodies_stay = record { others = others; integers = integers }
  where
    others : (b : Body) → body_as Other b ≡ b
    others (Returns t) = refl
    others (Switches p cases) = ap (Switches p) (cases_stay Other cases (λ y there. refl))

    integers : (b : Body) → AreIntegers b → body_as Integer b ≡ b
    integers (Returns t) h = ap Returns (integer_stays t h)
    integers (Switches p cases) h = ap (Switches p) (cases_stay Integer cases (λ y there. integer_stays y.result (h y there)))
