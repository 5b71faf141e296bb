-- What has to be asked where states are typed: ranges and divisors alone; and what of types follows without being asked.
use Rattle.std.specs.Prelude.{◌≡◌, ◌≢◌, ◌⊎◌, false, ◌≤ℤ◌, List, slice_get, Option, Some}
use Rattle.vf_base.specs.declared.int_type.IntType.{IntType}
use Rattle.vf_base.specs.declared.int_type.IntType.TheVariants as types
use Rattle.vf_tree.specs.Core.{ArithmeticOperator, Divide, Remainder, TypeTree, Void, Integer, ExpressionTree, Read, Signature, StepTree, Store, Offset, LoadAt, StoreAt, AllocateInts, Call, CallPointer, If, Return, FunctionTree, ProgramTree, LessEqual}
use Rattle.vf_tree.specs.Core as core
use Rattle.vf_model.specs.Integers.{least, greatest}
use Rattle.vf_meaning.specs.Ghost.{Number, Truth, Null, Function, Negate, Arithmetic, Compare}
use Rattle.vf_meaning.specs.Assertions.{Environment}
use Rattle.vf_rules.specs.Terms.{Term}
use Rattle.vf_rules.specs.States.{Fact, Holds, SymbolicState, Entails}
use Rattle.vf_rules.specs.Types.{is_bool, type_of_field, facts_of_type}
use Rattle.vf_rules.specs.Consume.{EntailsAll}
use Rattle.vf_rules.specs.Evaluate.{IsInRange, IsDivisor, IsNumber, Evaluates, EvaluatesAll, IsOfC}
use Rattle.vf_rules.specs.Accept.{facts_of_types, facts_of_result}
use Rattle.vf_rule_laws.specs.Typing.{HasType, IsSignatureOf}

-- what is asked of the result of an operator: that it is in range; and of quotients and remainders, which then are, that the divisor is one
abbrev pub IsAsked : Environment → List Fact → ArithmeticOperator → IntType → Term → Term → Term → Type 0
IsAsked e path Divide ty a b t = IsDivisor e path ty a b
IsAsked e path Remainder ty a b t = IsDivisor e path ty a b
IsAsked e path _ ty a b t = IsInRange e path ty t

-- what is asked of a conversion from a type: each bound that the type itself does not give
abbrev pub IsConverted : Environment → List Fact → IntType → IntType → Term → Type 0
IsConverted e path from into t =
    ((least into ≤ℤ least from) ⊎ Entails e path (Holds (Compare LessEqual (Number (least into)) t))) × ((greatest from ≤ℤ greatest into) ⊎ Entails e path (Holds (Compare LessEqual t (Number (greatest into)))))

-- an expression over locals of some types has a term, where nothing is asked but ranges and divisors
abbrev pub EvaluatesAsking : Environment → List Fact → List TypeTree → List (Option Term) → ExpressionTree → Term → Type 0
EvaluatesAsking e path typed locals (Read x place) t = slice_get locals x ≡ Some (Some t)
EvaluatesAsking e path typed locals (core.Number z) t = t ≡ Number z
EvaluatesAsking e path typed locals (core.Truth b) t = t ≡ Truth b
EvaluatesAsking e path typed locals core.Null t = t ≡ Null
EvaluatesAsking e path typed locals (core.Function g) t = t ≡ Function g
EvaluatesAsking e path typed locals (core.Negate ty a place) t = (u : Term) × EvaluatesAsking e path typed locals a u × (t ≡ Negate u) × IsInRange e path ty t
EvaluatesAsking e path typed locals (core.Arithmetic op ty a b place) t =
    (u : Term) × (w : Term) × EvaluatesAsking e path typed locals a u × EvaluatesAsking e path typed locals b w × (t ≡ Arithmetic op u w) × IsAsked e path op ty u w t
EvaluatesAsking e path typed locals (core.Convert ty a place) t =
    EvaluatesAsking e path typed locals a t × ((from : IntType) × (is_bool from ≡ false) × HasType typed a (Integer from) × IsConverted e path from ty t)

-- what the rule of a step asks of types is so: what is compared can be compared in C, what goes into a field, a parameter or the result has the facts of its type, and what stands for an index or a length is a number
abbrev pub MeetsTypes : Environment → ProgramTree → FunctionTree → SymbolicState → StepTree → Type 0
MeetsTypes e p f st (If c a b yes_step no_step) = (t u : Term) → Evaluates e st.path st.locals a t → Evaluates e st.path st.locals b u → IsOfC e st.path t × IsOfC e st.path u
MeetsTypes e p f st (Store a field b place next) =
    (w : Term) → Evaluates e st.path st.locals b w → (type : TypeTree) → type_of_field p field.structure field.index ≡ Some type → EntailsAll e st.path (facts_of_type type w) × (type ≢ Void)
MeetsTypes e p f st (Offset x a i place next) = (j : Term) → Evaluates e st.path st.locals i j → IsNumber e st.path j
MeetsTypes e p f st (LoadAt x a i place next) = (j : Term) → Evaluates e st.path st.locals i j → IsNumber e st.path j
MeetsTypes e p f st (StoreAt a i b place next) =
    (j w : Term) → Evaluates e st.path st.locals i j → Evaluates e st.path st.locals b w → IsNumber e st.path j × EntailsAll e st.path (facts_of_type (Integer types.Int) w)
MeetsTypes e p f st (AllocateInts x a place next) = (t : Term) → Evaluates e st.path st.locals a t → IsNumber e st.path t
MeetsTypes e p f st (Call target g operands place next) =
    (signature : Signature) (ts : List Term) → IsSignatureOf p g signature → EvaluatesAll e st.path st.locals operands ts → EntailsAll e st.path (facts_of_types signature.parameters ts)
MeetsTypes e p f st (CallPointer target a signature operands place next) = (ts : List Term) → EvaluatesAll e st.path st.locals operands ts → EntailsAll e st.path (facts_of_types signature.parameters ts)
MeetsTypes e p f st (Return (Some a)) = (t : Term) → Evaluates e st.path st.locals a t → EntailsAll e st.path (facts_of_result f.signature.result t)
MeetsTypes e p f st _ = Unit {0}
