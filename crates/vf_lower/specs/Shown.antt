-- What the types of the code stand for.
use Rattle.vf_steps.specs.Shown.{value_of, values_of}
use Rattle.vf_lower.specs.declared.test.Test.{Test}
use Rattle.vf_lower.specs.declared.setting.Kind.{Kind}
use Rattle.vf_lower.specs.declared.setting.Setting.{Setting}
use Rattle.vf_lower.specs.declared.operand.Access.{Access}
use Rattle.vf_lower.specs.declared.operand.Access.TheVariants as accesses
use Rattle.vf_lower.specs.declared.operand.Outcome.{Outcome}
use Rattle.vf_lower.specs.declared.operand.Outcome.TheVariants as left
use Rattle.vf_lower.specs.declared.operand.Left.{Left}
use Rattle.vf_lower.specs.Settings as settings
use Rattle.vf_lower.specs.Branches as branches
use Rattle.vf_lower.specs.Operands as operands

-- a setting
abbrev pub setting_of : Setting → settings.Setting
setting_of c = record { scope = c.scope.now; numbers = c.numbers.now; statement = c.statement }

-- a kind
abbrev pub kind_of : Kind → settings.Kind
kind_of k = record { ctype = k.ctype; is_null = k.is_null }

-- a test
abbrev pub test_of : Test → branches.Test
test_of x = record { comparison = x.comparison; first = value_of x.first; second = value_of x.second; is_opposite = x.is_opposite }

-- an access
abbrev pub access_of : Access → operands.Access
access_of (accesses.Load v field place) = operands.load (value_of v) field place
access_of (accesses.LoadAt v index place) = operands.load_at (value_of v) (value_of index) place
access_of (accesses.Allocate structure) = operands.allocate structure
access_of (accesses.AllocateInts len place) = operands.allocate_ints (value_of len) place
access_of (accesses.Call function arguments place) = operands.call function (values_of arguments) place
access_of (accesses.CallPointer v function_type arguments place) = operands.call_pointer (value_of v) function_type (values_of arguments) place

-- what is left of an expression
abbrev pub outcome_of : Outcome → operands.Outcome
outcome_of (left.Is v) = operands.is (value_of v)
outcome_of (left.Holds x) = operands.holds (test_of x)
outcome_of (left.Awaits a) = operands.awaits (access_of a)
outcome_of left.Nothing = operands.nothing

-- an operand on the left of something
abbrev pub left_of : Left → operands.Left
left_of l = record { outcome = outcome_of l.outcome; kind = kind_of l.kind }
