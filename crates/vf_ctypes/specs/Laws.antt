-- What promotion, common types and conversions keep. Each law is the contract of a public function with an empty body.
use Rattle.std.specs.Prelude.{◌≡◌, ◌≤◌, true, ℤ, Some}
use Rattle.vf_base.specs.declared.int_type.IntType.{IntType}
use Rattle.vf_base.specs.declared.int_type.IntType.TheVariants as types
use Rattle.vf_model.specs.Integers.{InRange}
use Rattle.vf_ctypes.specs.Types.{rank, holds_all, promoted, common_type, converted}

-- promotion keeps each number of a type
abbrev pub PromotionKeeps : Type 0
PromotionKeeps = (t : IntType) → holds_all (promoted t) t ≡ true

-- no type of lower rank than `int` is a common type
abbrev pub CommonTypesAreWide : Type 0
CommonTypesAreWide = (a b : IntType) → rank types.Int ≤ rank (common_type a b)

-- two operands have one common type, whichever stands first
abbrev pub CommonTypesAreMutual : Type 0
CommonTypesAreMutual = (a b : IntType) → common_type a b ≡ common_type b a

-- a type that is a common type is the common type of itself and itself
abbrev pub CommonTypesStay : Type 0
CommonTypesStay = (a b : IntType) → common_type (common_type a b) (common_type a b) ≡ common_type a b

-- what a conversion gives is a number of the type
abbrev pub ConversionsFit : Type 0
ConversionsFit = (t : IntType) (z w : ℤ) → converted t z ≡ Some w → InRange t w

-- a number of a type is what it is converted to
abbrev pub ConversionsKeep : Type 0
ConversionsKeep = (t : IntType) (z : ℤ) → InRange t z → converted t z ≡ Some z
