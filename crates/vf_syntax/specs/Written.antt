-- How names, types and operators are spelled.
use Rattle.std.specs.Prelude.{ℕ, Bool, true, false, List, [], ◌∷◌, Option, Some, None, nat_eq}
use Rattle.vf_base.specs.declared.place.Place.{Place}
use Rattle.vf_lexer.specs.declared.punctuator.Punctuator.{Punctuator}
use Rattle.vf_lexer.specs.declared.punctuator.Punctuator.TheVariants as punctuators
use Rattle.vf_syntax.specs.declared.keyword.Keyword.TheVariants as keywords
use Rattle.vf_syntax.specs.declared.side.Side.{Side}
use Rattle.vf_syntax.specs.declared.operator.UnaryOperator.{UnaryOperator}
use Rattle.vf_syntax.specs.declared.operator.UnaryOperator.TheVariants as unaries
use Rattle.vf_syntax.specs.declared.operator.BinaryOperator.{BinaryOperator}
use Rattle.vf_syntax.specs.declared.operator.BinaryOperator.TheVariants as binaries
use Rattle.vf_syntax.specs.declared.operator.Level.{Level}
use Rattle.vf_syntax.specs.declared.operator.Level.TheVariants as levels
use Rattle.vf_syntax.specs.declared.operator.AssignmentOperator.{AssignmentOperator}
use Rattle.vf_syntax.specs.declared.operator.AssignmentOperator.TheVariants as assignments
use Rattle.vf_syntax.specs.declared.operator.StepOperator.{StepOperator}
use Rattle.vf_syntax.specs.declared.operator.StepOperator.TheVariants as steps
use Rattle.vf_syntax.specs.declared.written.Name.{Name}
use Rattle.vf_syntax.specs.declared.written.Sign.{Sign}
use Rattle.vf_syntax.specs.declared.written.Sign.TheVariants as signs
use Rattle.vf_syntax.specs.declared.written.Width.{Width}
use Rattle.vf_syntax.specs.declared.written.Width.TheVariants as widths
use Rattle.vf_syntax.specs.declared.written.IntegerWords.{IntegerWords}
use Rattle.vf_syntax.specs.declared.written.IntegerWords.TheVariants as integers
use Rattle.vf_syntax.specs.declared.written.TypeForm.{TypeForm}
use Rattle.vf_syntax.specs.declared.written.TypeForm.TheVariants as forms
use Rattle.vf_syntax.specs.declared.written.CType.{CType}
use Rattle.vf_syntax.specs.Walks.{Walk, ◌⨾◌, at, mark, word, identifier}

-- a name, at its place
unfoldable pub name : Side → Name → Walk
name s n = at n.place ⨾ identifier s n.text

-- `signed` or `unsigned`
unfoldable pub sign : Side → Sign → Walk
sign s signs.Signed = word s keywords.Signed
sign s signs.Unsigned = word s keywords.Unsigned

-- the words of an integer type behind its sign (C11 6.7.2)
unfoldable pub width : Side → Width → Walk
width s widths.Char = word s keywords.Char
width s widths.Short = word s keywords.Short
width s widths.ShortInt = word s keywords.Short ⨾ word s keywords.Int
width s widths.Int = word s keywords.Int
width s widths.Long = word s keywords.Long
width s widths.LongInt = word s keywords.Long ⨾ word s keywords.Int
width s widths.LongLong = word s keywords.Long ⨾ word s keywords.Long
width s widths.LongLongInt = word s keywords.Long ⨾ word s keywords.Long ⨾ word s keywords.Int

-- the words of an integer type
unfoldable pub integer : Side → IntegerWords → Walk
integer s (integers.Sign g) = sign s g
integer s (integers.Width w) = width s w
integer s (integers.Both g w) = sign s g ⨾ width s w

-- a type, behind its place
unfoldable pub type_form : Side → TypeForm → Walk
type_form s (forms.Integer w) = integer s w
type_form s forms.Bool = word s keywords.Bool
type_form s forms.VoidPointer = word s keywords.Void ⨾ mark s punctuators.Star
type_form s forms.IntPointer = word s keywords.Int ⨾ mark s punctuators.Star
type_form s (forms.StructPointer n) = word s keywords.Struct ⨾ name s n ⨾ mark s punctuators.Star
type_form s (forms.NamedPointer x) = identifier s x ⨾ mark s punctuators.Star

-- type = integer type | "bool" | ("void" | "struct" NAME | NAME | "int") "*"
unfoldable pub ctype : Side → CType → Walk
ctype s t = at t.place ⨾ type_form s t.form

-- how an operator in front of its operand is written
abbrev pub unary_mark : UnaryOperator → Punctuator
unary_mark unaries.Minus = punctuators.Minus
unary_mark unaries.Not = punctuators.Not

-- how an operator between operands is written
abbrev pub binary_mark : BinaryOperator → Punctuator
binary_mark binaries.Times = punctuators.Star
binary_mark binaries.Divide = punctuators.Slash
binary_mark binaries.Remainder = punctuators.Percent
binary_mark binaries.Plus = punctuators.Plus
binary_mark binaries.Minus = punctuators.Minus
binary_mark binaries.Less = punctuators.Less
binary_mark binaries.LessOrEqual = punctuators.LessOrEqual
binary_mark binaries.Greater = punctuators.Greater
binary_mark binaries.GreaterOrEqual = punctuators.GreaterOrEqual
binary_mark binaries.Equal = punctuators.Equal
binary_mark binaries.NotEqual = punctuators.NotEqual
binary_mark binaries.And = punctuators.AndAnd
binary_mark binaries.Or = punctuators.OrOr

-- the level on which an operator stands (C11 6.5.5 to 6.5.14)
abbrev pub level_of : BinaryOperator → Level
level_of binaries.Times = levels.Multiplicative
level_of binaries.Divide = levels.Multiplicative
level_of binaries.Remainder = levels.Multiplicative
level_of binaries.Plus = levels.Additive
level_of binaries.Minus = levels.Additive
level_of binaries.Less = levels.Relational
level_of binaries.LessOrEqual = levels.Relational
level_of binaries.Greater = levels.Relational
level_of binaries.GreaterOrEqual = levels.Relational
level_of binaries.Equal = levels.Equality
level_of binaries.NotEqual = levels.Equality
level_of binaries.And = levels.And
level_of binaries.Or = levels.Or

-- how loosely a level holds its operands together: 0 are primary expressions, 1 those with something behind them, 2 those with something in front
abbrev pub looseness : Level → ℕ
looseness levels.Multiplicative = 3
looseness levels.Additive = 4
looseness levels.Relational = 5
looseness levels.Equality = 6
looseness levels.And = 7
looseness levels.Or = 8

-- how an operator of an assignment is written
abbrev pub assignment_mark : AssignmentOperator → Punctuator
assignment_mark assignments.Becomes = punctuators.Becomes
assignment_mark assignments.PlusBecomes = punctuators.PlusBecomes
assignment_mark assignments.MinusBecomes = punctuators.MinusBecomes
assignment_mark assignments.TimesBecomes = punctuators.StarBecomes
assignment_mark assignments.DivideBecomes = punctuators.SlashBecomes
assignment_mark assignments.RemainderBecomes = punctuators.PercentBecomes

-- how `++` and `--` are written
abbrev pub step_mark : StepOperator → Punctuator
step_mark steps.Increment = punctuators.PlusPlus
step_mark steps.Decrement = punctuators.MinusMinus

-- the operator in front of its operand that a punctuator is (C11 6.5.3)
abbrev pub unary_of : Punctuator → Option UnaryOperator
unary_of punctuators.Minus = Some unaries.Minus
unary_of punctuators.Not = Some unaries.Not
unary_of p = None

-- the operator between operands that a punctuator is (C11 6.5.5 to 6.5.14)
abbrev pub binary_of : Punctuator → Option BinaryOperator
binary_of punctuators.Star = Some binaries.Times
binary_of punctuators.Slash = Some binaries.Divide
binary_of punctuators.Percent = Some binaries.Remainder
binary_of punctuators.Plus = Some binaries.Plus
binary_of punctuators.Minus = Some binaries.Minus
binary_of punctuators.Less = Some binaries.Less
binary_of punctuators.LessOrEqual = Some binaries.LessOrEqual
binary_of punctuators.Greater = Some binaries.Greater
binary_of punctuators.GreaterOrEqual = Some binaries.GreaterOrEqual
binary_of punctuators.Equal = Some binaries.Equal
binary_of punctuators.NotEqual = Some binaries.NotEqual
binary_of punctuators.AndAnd = Some binaries.And
binary_of punctuators.OrOr = Some binaries.Or
binary_of p = None

-- the operator of an assignment that a punctuator is (C11 6.5.16)
abbrev pub assignment_of : Punctuator → Option AssignmentOperator
assignment_of punctuators.Becomes = Some assignments.Becomes
assignment_of punctuators.PlusBecomes = Some assignments.PlusBecomes
assignment_of punctuators.MinusBecomes = Some assignments.MinusBecomes
assignment_of punctuators.StarBecomes = Some assignments.TimesBecomes
assignment_of punctuators.SlashBecomes = Some assignments.DivideBecomes
assignment_of punctuators.PercentBecomes = Some assignments.RemainderBecomes
assignment_of p = None

-- `++` or `--`, where a punctuator is one
abbrev pub step_of : Punctuator → Option StepOperator
step_of punctuators.PlusPlus = Some steps.Increment
step_of punctuators.MinusMinus = Some steps.Decrement
step_of p = None
