-- What a chunk of a predicate value tells where the value is known to be that of rows of int cells. The law is the contract of a public function with an empty body.
use Rattle.std.specs.Prelude.{◌≡◌, pos, List, [], ◌∷◌, Option, Some}
use Rattle.vf_tree.specs.Core.{LessEqual}
use Rattle.vf_meaning.specs.Ghost.{Integers, Number, Compare}
use Rattle.vf_meaning.specs.Assertions.{Environment}
use Rattle.vf_rules.specs.Terms.{Term}
use Rattle.vf_rules.specs.States.{Holds, OfSort, SymbolicChunk, SymbolicState, Shows}
use Rattle.vf_rules.specs.Take.{Removes, Renames}
use Rattle.vf_rules.specs.Arrays.{row_head}

-- as soon as the value is known, so that its chunk is that of a row, the state shows that the row's length is a number, and that it is not negative
abbrev pub ValuedRowsShowLengths : Type 0
ValuedRowsShowLengths =
    (e : Environment) (st : SymbolicState) (u long : Term) (content : Option Term) (c d : SymbolicChunk) (others : List SymbolicChunk) → Removes c st.chunks others → Renames e st.path c d → d.head ≡ row_head → d.arguments ≡ Some u ∷ Some long ∷ content ∷ []
    → Shows e st (OfSort long Integers) × Shows e st (Holds (Compare LessEqual (Number (pos 0)) long))
