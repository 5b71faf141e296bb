-- Laws of sums over lists of parts, and of share-outs. Each is the contract of a public function with an empty body.
use Rattle.std.specs.Prelude.{◌≡◌, ◌≢◌, ℕ, List, ◌∷◌, ◌++◌, slice_get, Some}
use Rattle.vf_tree.specs.Core.{ProgramTree}
use Rattle.vf_model.specs.State.{State}
use Rattle.vf_model.specs.Races.{Race}
use Rattle.vf_meaning.specs.Assertions.{Environment}
use Rattle.vf_meaning.specs.Parts.{Part, IsSum}
use Rattle.vf_meaning.specs.ShareOuts.{ShareOut, SumsTo, IsShareOut}

-- a sum over a list of parts is the sum of any one of them and a sum over the others
abbrev pub SumsOpen : Type 0
SumsOpen = (before after : List Part) (q p : Part) → SumsTo (before ++ q ∷ after) p → (r : Part) × SumsTo (before ++ after) r × IsSum q r p

-- and the sum of one part and a sum over others is a sum over all of them, wherever that one stands
abbrev pub SumsClose : Type 0
SumsClose = (before after : List Part) (q r p : Part) → SumsTo (before ++ after) r → IsSum q r p → SumsTo (before ++ q ∷ after) p

-- two members of a list at different places are owned apart in a sum over it
abbrev pub MembersAreApart : Type 0
MembersAreApart =
    (parts : List Part) (i j : ℕ) (q r p : Part) → i ≢ j → slice_get parts i ≡ Some q → slice_get parts j ≡ Some r → SumsTo parts p
    → (others : Part) × (rest : Part) × IsSum q others p × IsSum r rest others

-- in a state that has a share-out no two threads race: one of them would own the whole of a cell of which the other owns some
abbrev pub ShareOutsExcludeRaces : Type 0
ShareOutsExcludeRaces = (e : Environment) (p : ProgramTree) (s : State) (o : ShareOut) → IsShareOut e p s o → Race p s → ⊥
