-- The terms of C expressions, with what must be entailed for them to have a value.
use Rattle.std.specs.Prelude.{◌≡◌, ◌⊎◌, pos, negsuc, List, [], ◌∷◌, slice_get, Option, Some}
use Rattle.vf_base.specs.declared.int_type.IntType.{IntType}
use Rattle.vf_tree.specs.Core.{ArithmeticOperator, Add, Subtract, Multiply, Divide, Remainder, ExpressionTree, Read, LessEqual, NotEqual}
use Rattle.vf_tree.specs.Core as core
use Rattle.vf_model.specs.Integers.{least, greatest}
use Rattle.vf_meaning.specs.Ghost.{Number, Truth, Null, Function, Negate, Arithmetic, Compare, Integers, Truths, Pointers}
use Rattle.vf_meaning.specs.Assertions.{Environment}
use Rattle.vf_rules.specs.Terms.{Term}
use Rattle.vf_rules.specs.States.{Fact, Holds, OfSort, Entails}

-- on a path a term is in the range of a type: at least its least number and at most its greatest
abbrev pub IsInRange : Environment → List Fact → IntType → Term → Type 0
IsInRange e path ty t = Entails e path (Holds (Compare LessEqual (Number (least ty)) t)) × Entails e path (Holds (Compare LessEqual t (Number (greatest ty))))

-- on a path a divisor is not 0, and it is not -1 or the dividend is not the least number
abbrev pub IsDivisor : Environment → List Fact → IntType → Term → Term → Type 0
IsDivisor e path ty a b =
    Entails e path (Holds (Compare NotEqual b (Number (pos 0))))
    × (Entails e path (Holds (Compare NotEqual b (Number (negsuc 0)))) ⊎ Entails e path (Holds (Compare NotEqual a (Number (least ty)))))

-- on a path an operator may be applied: a divisor is one
abbrev pub MayApply : Environment → List Fact → ArithmeticOperator → IntType → Term → Term → Type 0
MayApply e path Divide ty a b = IsDivisor e path ty a b
MayApply e path Remainder ty a b = IsDivisor e path ty a b
MayApply e path _ ty a b = Unit {0}

-- on a path a term has a number as its value
abbrev pub IsNumber : Environment → List Fact → Term → Type 0
IsNumber e path t = Entails e path (OfSort t Integers)

-- an expression over locals has a term: each local that is read has one, and each result is in the range of its type
abbrev pub Evaluates : Environment → List Fact → List (Option Term) → ExpressionTree → Term → Type 0
Evaluates e path locals (Read x place) t = slice_get locals x ≡ Some (Some t)
Evaluates e path locals (core.Number z) t = t ≡ Number z
Evaluates e path locals (core.Truth b) t = t ≡ Truth b
Evaluates e path locals core.Null t = t ≡ Null
Evaluates e path locals (core.Function g) t = t ≡ Function g
Evaluates e path locals (core.Negate ty a place) t = (u : Term) × Evaluates e path locals a u × (t ≡ Negate u) × IsInRange e path ty t
Evaluates e path locals (core.Arithmetic op ty a b place) t =
    (u : Term) × (w : Term) × Evaluates e path locals a u × Evaluates e path locals b w × IsNumber e path u × IsNumber e path w × MayApply e path op ty u w × (t ≡ Arithmetic op u w) × IsInRange e path ty t
Evaluates e path locals (core.Convert ty a place) t = Evaluates e path locals a t × IsNumber e path t × IsInRange e path ty t

-- several expressions in order
abbrev pub EvaluatesAll : Environment → List Fact → List (Option Term) → List ExpressionTree → List Term → Type 0
EvaluatesAll e path locals [] [] = Unit {0}
EvaluatesAll e path locals (x ∷ xs) (t ∷ ts) = Evaluates e path locals x t × EvaluatesAll e path locals xs ts
EvaluatesAll e path locals _ _ = ⊥

-- on a path a term has a value that C compares: a number, a truth value or a pointer
abbrev pub IsOfC : Environment → List Fact → Term → Type 0
IsOfC e path t = Entails e path (OfSort t Integers) ⊎ (Entails e path (OfSort t Truths) ⊎ Entails e path (OfSort t Pointers))
