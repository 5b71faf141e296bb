-- Expressions that have types have values of these, and what rules ask of types is so.
use Rattle.std.proofs.Common.{◌≡◌, ◌≢◌, ℕ, zero, suc, false, Bool, cond, List, [], ◌∷◌, slice_get, Option, Some, None, refl, sym, subst, ◌∙◌, inl, inr, ⊎_elim}
use Rattle.std.proofs.lemmas.Bool.{cases_Bool}
use Rattle.vf_base.specs.declared.int_type.IntType.{IntType}
use Rattle.vf_base.specs.declared.int_type.IntType.TheVariants as types
use Rattle.vf_tree.specs.Core.{ArithmeticOperator, Add, Subtract, Multiply, Divide, Remainder, TypeTree, Void, Integer, PointerToVoid, PointerToInt, PointerToStruct, PointerToFunction, ExpressionTree, Read, StepTree, Set, Load, Store, Allocate, Free, Offset, LoadAt, StoreAt, AllocateInts, FreeInts, Call, CallPointer, If, Return, FunctionTree, ProgramTree, LessEqual}
use Rattle.vf_tree.specs.Core as core
use Rattle.vf_model.specs.Integers.{least, greatest}
use Rattle.vf_model.specs.Values.{Value}
use Rattle.vf_model.specs.Values as values
use Rattle.vf_meaning.specs.Ghost.{Integers, Truths, Pointers, Number, Truth, Null, Function, Negate, Arithmetic, Compare}
use Rattle.vf_meaning.specs.Valuations.{Valuation}
use Rattle.vf_meaning.specs.Assertions.{Environment}
use Rattle.vf_rules.specs.Terms.{Term}
use Rattle.vf_rules.specs.States.{Fact, Holds, OfSort, value_in}
use Rattle.vf_rules.specs.Types.{is_bool, IsOfType, facts_of_type}
use Rattle.vf_rules.specs.Consume.{EntailsAll}
use Rattle.vf_rules.specs.Evaluate.{IsInRange, IsNumber, MayApply, Evaluates, EvaluatesAll, IsOfC}
use Rattle.vf_rules.specs.Accept.{facts_of_types}
use Rattle.vf_rules.specs.Ranges.{LocalsTyped}
use Rattle.vf_rules.proofs.Produces.{type_met}
use Rattle.vf_rules.proofs.Ranges.{ranges_widen}
use Rattle.vf_rule_laws.specs.Typing.{IsPointerType, FitsInto, HasType, HaveTypes, HasNumberType, HasValueType}
use Rattle.vf_rule_laws.specs.Asked.{IsAsked, IsConverted, EvaluatesAsking}
use Rattle.vf_rule_laws.specs.TypedLaws.{TypedExpressionsEvaluate, StepsMeetTypes}
use Rattle.vf_rule_laws.proofs.Paths.{all_by, all_joined}
use Rattle.vf_rule_laws.proofs.Quotients.{quotient_in_range, remainder_in_range}

some_same : {A : Type 0} {x y : A} → Some x ≡ Some y → x ≡ y
some_same e = cc

none_some : {A B : Type 0} {x : A} → None ≡ Some x → B
none_some e = cc

-- ---- facts of types
pub pointer_facts : (type : TypeTree) (t : Term) → IsPointerType type → facts_of_type type t ≡ OfSort t Pointers ∷ []
pointer_facts Void t h = absurd h
pointer_facts (Integer u) t h = absurd h
pointer_facts PointerToVoid t h = refl
pointer_facts PointerToInt t h = refl
pointer_facts (PointerToStruct g) t h = refl
pointer_facts (PointerToFunction g) t h = refl

pub fitting_facts : (e : Environment) (path : List Fact) (from into : TypeTree) (t : Term) → FitsInto from into → EntailsAll e path (facts_of_type from t) → EntailsAll e path (facts_of_type into t)
fitting_facts e path from into t (inl is) h = subst (λ z. EntailsAll e path (facts_of_type z t)) is h
fitting_facts e path from into t (inr both) h = subst (EntailsAll e path) (pointer_facts from t both.0 ∙ sym (pointer_facts into t both.1)) h

-- the facts of a type of numbers
abbrev facts_by : Bool → IntType → Term → List Fact
facts_by b ty t = cond b (OfSort t Truths ∷ []) (OfSort t Integers ∷ Holds (Compare LessEqual (Number (least ty)) t) ∷ Holds (Compare LessEqual t (Number (greatest ty))) ∷ [])

pub number_facts : (e : Environment) (path : List Fact) (ty : IntType) (t : Term) → is_bool ty ≡ false → EntailsAll e path (facts_of_type (Integer ty) t) → IsNumber e path t × IsInRange e path ty t
number_facts e path ty t numeric h = let k = subst (λ b. EntailsAll e path (facts_by b ty t)) numeric h in (k.0, ((k.1).0, ((k.1).1).0))

pub facts_of_number : (e : Environment) (path : List Fact) (ty : IntType) (t : Term) → is_bool ty ≡ false → IsNumber e path t → IsInRange e path ty t → EntailsAll e path (facts_of_type (Integer ty) t)
facts_of_number e path ty t numeric n r = subst (λ b. EntailsAll e path (facts_by b ty t)) (sym numeric) (n, (r.0, (r.1, tt)))

-- a type of values says that a term can be compared in C
compared_facts : (e : Environment) (path : List Fact) (type : TypeTree) (t : Term) → type ≢ Void → EntailsAll e path (facts_of_type type t) → IsOfC e path t
compared_facts e path Void t not_void h = absurd (not_void refl)
compared_facts e path (Integer ty) t not_void h =
    elim (cases_Bool (is_bool ty)) [
      | inl yes1 ↦ inr (inl (subst (λ b. EntailsAll e path (facts_by b ty t)) yes1 h).0)
      | inr no1 ↦ inl (subst (λ b. EntailsAll e path (facts_by b ty t)) no1 h).0
    ]
compared_facts e path PointerToVoid t not_void h = inr (inr h.0)
compared_facts e path PointerToInt t not_void h = inr (inr h.0)
compared_facts e path (PointerToStruct g) t not_void h = inr (inr h.0)
compared_facts e path (PointerToFunction g) t not_void h = inr (inr h.0)

-- ---- locals
pub local_facts : (e : Environment) (path : List Fact) (typed : List TypeTree) (ts : List (Option Term)) (x : ℕ) (type : TypeTree) (t : Term) → LocalsTyped e path typed ts → slice_get typed x ≡ Some type → slice_get ts x ≡ Some (Some t)
    → EntailsAll e path (facts_of_type type t)
local_facts e path [] ts x type t h is there = none_some is
local_facts e path (k ∷ typed) [] x type t h is there = absurd h
local_facts e path (k ∷ typed) (None ∷ ts) zero type t h is there = none_some (some_same there)
local_facts e path (k ∷ typed) (Some u ∷ ts) zero type t h is there =
    subst (λ z. EntailsAll e path (facts_of_type z t)) (some_same is) (subst (λ z. EntailsAll e path (facts_of_type k z)) (some_same (some_same there)) h.0)
local_facts e path (k ∷ typed) (None ∷ ts) (suc x) type t h is there = local_facts e path typed ts x type t h is there
local_facts e path (k ∷ typed) (Some u ∷ ts) (suc x) type t h is there = local_facts e path typed ts x type t h.1 is there

-- ---- expressions
constant_facts : (e : Environment) (path : List Fact) (type : TypeTree) (t u : Term) (w : Value) → IsOfType type w → t ≡ u → ((v : Valuation) → value_in e v u ≡ w) → EntailsAll e path (facts_of_type type t)
constant_facts e path type t u w h is value = subst (λ z. EntailsAll e path (facts_of_type type z)) (sym is) (all_by e path (facts_of_type type u) (λ v m. type_met e v type u w (value v) h))

own_facts : (e : Environment) (path : List Fact) (ty : IntType) (type : TypeTree) (t : Term) → type ≡ Integer ty → is_bool ty ≡ false → IsNumber e path t → IsInRange e path ty t → EntailsAll e path (facts_of_type type t)
own_facts e path ty type t is numeric n r = subst (λ z. EntailsAll e path (facts_of_type z t)) (sym is) (facts_of_number e path ty t numeric n r)

-- the result of ghost arithmetic is a number
negated_number : (e : Environment) (path : List Fact) (t u : Term) → t ≡ Negate u → IsNumber e path t
negated_number e path t u is = subst (IsNumber e path) (sym is) (record { by = λ v m. inl refl })

computed_number : (e : Environment) (path : List Fact) (op : ArithmeticOperator) (t u w : Term) → t ≡ Arithmetic op u w → IsNumber e path t
computed_number e path op t u w is = subst (IsNumber e path) (sym is) (record { by = λ v m. inl refl })

module _ (e : Environment) (path : List Fact) (typed : List TypeTree) (locals : List (Option Term)) (own : LocalsTyped e path typed locals) where
  pub expression_facts : (a : ExpressionTree) (type : TypeTree) (t : Term) → HasType typed a type → Evaluates e path locals a t → EntailsAll e path (facts_of_type type t)
  expression_facts (Read x place) type t h ev = fitting_facts e path h.0 type t h.2 (local_facts e path typed locals x h.0 t own h.1 ev)
  expression_facts (core.Number z) type t h ev = constant_facts e path type t (Number z) (values.Number z) h ev (λ v. refl)
  expression_facts (core.Truth b) type t h ev = constant_facts e path type t (Truth b) (values.Truth b) h ev (λ v. refl)
  expression_facts core.Null type t h ev = constant_facts e path type t Null values.Null h ev (λ v. refl)
  expression_facts (core.Function g) type t h ev = constant_facts e path type t (Function g) (values.Function g) h ev (λ v. refl)
  expression_facts (core.Negate ty a place) type t h (u, hu, is, range) = own_facts e path ty type t h.0 h.1 (negated_number e path t u is) range
  expression_facts (core.Arithmetic op ty a b place) type t h (u, w, hu, hw, nu, nw, may, is, range) = own_facts e path ty type t h.0 h.1 (computed_number e path op t u w is) range
  expression_facts (core.Convert ty a place) type t h (ht, n, range) = own_facts e path ty type t h.0 h.1 n range

  -- a conversion keeps what is in the range of the type that it comes from, where that is as wide
  converted : (from into : IntType) (t : Term) → IsInRange e path from t → IsConverted e path from into t → IsInRange e path into t
  converted from into t r (low, high) =
      (⊎_elim (λ l. (ranges_widen e path from into t r).0 l) (λ k. k) low, ⊎_elim (λ l. (ranges_widen e path from into t r).1 l) (λ k. k) high)

  asked_range : (op : ArithmeticOperator) (ty : IntType) (u w t : Term) → IsNumber e path u → IsNumber e path w → IsInRange e path ty u → IsInRange e path ty w → t ≡ Arithmetic op u w → IsAsked e path op ty u w t
      → MayApply e path op ty u w × IsInRange e path ty t
  asked_range Add ty u w t nu nw ru rw is h = (tt, h)
  asked_range Subtract ty u w t nu nw ru rw is h = (tt, h)
  asked_range Multiply ty u w t nu nw ru rw is h = (tt, h)
  asked_range Divide ty u w t nu nw ru rw is h = (h, subst (IsInRange e path ty) (sym is) (quotient_in_range e path ty u w nu nw ru rw h))
  asked_range Remainder ty u w t nu nw ru rw is h = (h, subst (IsInRange e path ty) (sym is) (remainder_in_range e path ty u w nu nw ru rw h))

  pub expression_evaluates : (a : ExpressionTree) (type : TypeTree) (t : Term) → HasType typed a type → EvaluatesAsking e path typed locals a t → Evaluates e path locals a t
  expression_evaluates (Read x place) type t h ev = ev
  expression_evaluates (core.Number z) type t h ev = ev
  expression_evaluates (core.Truth b) type t h ev = ev
  expression_evaluates core.Null type t h ev = ev
  expression_evaluates (core.Function g) type t h ev = ev
  expression_evaluates (core.Negate ty a place) type t h (u, hu, is, range) = (u, expression_evaluates a (Integer ty) u h.2 hu, is, range)
  expression_evaluates (core.Arithmetic op ty a b place) type t h (u, w, hu, hw, is, asked) =
      let eu = expression_evaluates a (Integer ty) u h.2 hu in
      let ew = expression_evaluates b (Integer ty) w h.3 hw in
      let nu = number_facts e path ty u h.1 (expression_facts a (Integer ty) u h.2 eu) in
      let nw = number_facts e path ty w h.1 (expression_facts b (Integer ty) w h.3 ew) in
      let r = asked_range op ty u w t nu.0 nw.0 nu.1 nw.1 is asked in
      (u, w, eu, ew, nu.0, nw.0, r.0, is, r.1)
  expression_evaluates (core.Convert ty a place) type t h (ht, (from, numeric, has, asked)) =
      let et = expression_evaluates a (Integer from) t has ht in
      let n = number_facts e path from t numeric (expression_facts a (Integer from) t has et) in
      (et, n.0, converted from ty t n.1 asked)

  -- several expressions
  pub expressions_facts : (xs : List ExpressionTree) (wanted : List TypeTree) (ts : List Term) → HaveTypes typed xs wanted → EvaluatesAll e path locals xs ts → EntailsAll e path (facts_of_types wanted ts)
  expressions_facts [] [] ts h ev = tt
  expressions_facts [] (k ∷ wanted) ts h ev = absurd h
  expressions_facts (a ∷ xs) [] ts h ev = absurd h
  expressions_facts (a ∷ xs) (k ∷ wanted) [] h ev = absurd ev
  expressions_facts (a ∷ xs) (k ∷ wanted) (t ∷ ts) h ev = all_joined e path (facts_of_type k t) (facts_of_types wanted ts) (expression_facts a k t h.0 ev.0) (expressions_facts xs wanted ts h.1 ev.1)

  number_asked : (a : ExpressionTree) (t : Term) → HasNumberType typed a → Evaluates e path locals a t → IsNumber e path t
  number_asked a t (ty, numeric, has) ev = (number_facts e path ty t numeric (expression_facts a (Integer ty) t has ev)).0

  value_asked : (a : ExpressionTree) (t : Term) → HasValueType typed a → Evaluates e path locals a t → IsOfC e path t
  value_asked a t (type, not_void, has) ev = compared_facts e path type t not_void (expression_facts a type t has ev)

pub typed_expressions_evaluate : TypedExpressionsEvaluate
typed_expressions_evaluate e path typed locals a type t has own = (expression_evaluates e path typed locals own a type t has, expression_facts e path typed locals own a type t has)

pub steps_meet_types : StepsMeetTypes
steps_meet_types e p f kinds st (If c a b yes_step no_step) h own = λ t u et eu. (value_asked e st.path f.locals st.locals own.locals a t h.0 et, value_asked e st.path f.locals st.locals own.locals b u h.1 eu)
steps_meet_types e p f kinds st (Store a field b place next) h own = λ w ew type is. (expression_facts e st.path f.locals st.locals own.locals b type w (h type is).0 ew, (h type is).1)
steps_meet_types e p f kinds st (Offset x a i place next) h own = λ j ej. number_asked e st.path f.locals st.locals own.locals i j h.2 ej
steps_meet_types e p f kinds st (LoadAt x a i place next) h own = λ j ej. number_asked e st.path f.locals st.locals own.locals i j h.1 ej
steps_meet_types e p f kinds st (StoreAt a i b place next) h own =
    λ j w ej ew. (number_asked e st.path f.locals st.locals own.locals i j h.0 ej, expression_facts e st.path f.locals st.locals own.locals b (Integer types.Int) w h.1 ew)
steps_meet_types e p f kinds st (AllocateInts x a place next) h own = λ t et. number_asked e st.path f.locals st.locals own.locals a t h.1 et
steps_meet_types e p f kinds st (Call target g operands place next) h own = λ signature ts is es. expressions_facts e st.path f.locals st.locals own.locals operands signature.parameters ts (h signature is).1 es
steps_meet_types e p f kinds st (CallPointer target a signature operands place next) h own = λ ts es. expressions_facts e st.path f.locals st.locals own.locals operands signature.parameters ts h.1 es
steps_meet_types e p f kinds st (Return (Some a)) h own = λ t et. expression_facts e st.path f.locals st.locals own.locals a f.signature.result t h et
steps_meet_types e p f kinds st (Return None) h own = tt
steps_meet_types e p f kinds st (Set x a next) h own = tt
steps_meet_types e p f kinds st (Load x a field place next) h own = tt
steps_meet_types e p f kinds st (Allocate x g next) h own = tt
steps_meet_types e p f kinds st (Free a g place next) h own = tt
steps_meet_types e p f kinds st (FreeInts a place next) h own = tt
