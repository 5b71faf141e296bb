-- What the literals of the code stand for.
use Rattle.vf_closure.specs.Literals as pure
use Rattle.vf_formula.specs.declared.literal.Literal.{Literal}
use Rattle.vf_formula.specs.declared.literal.Literal.TheVariants.{Equal, NotEqual, AtMost, Difference, NotDifference, False}

-- a literal
abbrev pub shown_literal : Literal → pure.Literal
shown_literal (Equal a b) = pure.Equal a b
shown_literal (NotEqual a b) = pure.NotEqual a b
shown_literal (AtMost p n c) = pure.AtMost p n c
shown_literal (Difference p n c) = pure.Difference p n c
shown_literal (NotDifference p n c) = pure.NotDifference p n c
shown_literal False = pure.False
