-- What holds where more is declared, and may be built, than in another scope.
use Rattle.vf_model.specs.Values.{Value}
use Rattle.vf_sorts.specs.Sorts.{Sort}
use Rattle.vf_fixpoint_laws.specs.values.Declares.{Covers, Declared}
use Rattle.vf_fixpoint_laws.specs.values.Worth.{HasValue, Sets, Tests, passing}

-- what is declared covers itself
abbrev pub EachCoversItself : Type 0
EachCoversItself = (d : Declared) → Covers d d

-- what covers a cover covers what that one does
abbrev pub CoversCompose : Type 0
CoversCompose = (d e f : Declared) → Covers d e → Covers e f → Covers d f

-- each value that a sort has, it has by a cover
abbrev pub CoversKeepIn : Sets → Type 0
CoversKeepIn sets = (d e : Declared) → Covers d e → (v : Value) (t : Sort) → HasValue e sets v t → HasValue d sets v t

-- so it is for all sets that are told by tests
abbrev pub CoversKeepValues : Type 0
CoversKeepValues = (tests : Tests) → CoversKeepIn (passing tests)
