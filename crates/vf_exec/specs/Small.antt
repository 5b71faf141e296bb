-- The numbers that terms are.
use Rattle.std.specs.Prelude.{ℤ, pos, neg_ℤ, ◌≤ℤ◌, ◌^◌, List, Option, All, IfSome}
use Rattle.vf_exec.specs.declared.sum.NumberTerm.{NumberTerm}

-- the numbers of terms are within plus and minus 2^90
abbrev pub IsSmall : ℤ → Type 0
IsSmall z = (neg_ℤ (pos (2 ^ 90)) ≤ℤ z) × (z ≤ℤ pos (2 ^ 90))

-- the number of a term, small enough for one
abbrev pub IsSmallTerm : NumberTerm → Type 0
IsSmallTerm t = IsSmall t.number

-- each local that is set is such a term
abbrev pub AreSmall : List (Option NumberTerm) → Type 0
AreSmall locals = All (λ local. IfSome local IsSmallTerm) locals
