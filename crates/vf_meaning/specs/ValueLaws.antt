-- Laws of values and ghost expressions. Each is the contract of a public function with an empty body.
use Rattle.std.specs.Prelude.{◌≡◌, pos, ◌↔◌, IsTrue}
use Rattle.vf_tree.specs.Core.{Identity, Divide, Remainder}
use Rattle.vf_model.specs.Values.{Value, number_of}
use Rattle.vf_model.specs.Values as values
use Rattle.vf_meaning.specs.Ghost.{Name, same_name, GhostExpression, Arithmetic, Claims}
use Rattle.vf_meaning.specs.Valuations.{Valuation, is_true, is_same}
use Rattle.vf_meaning.specs.Names.{Uses}
use Rattle.vf_meaning.specs.GhostValues.{Interpretation, value_of}

-- the test on values says just that two are equal
abbrev pub TellsValues : Type 0
TellsValues = (v w : Value) → IsTrue (is_same v w) ↔ (v ≡ w)

-- the test on names says just that two are equal
abbrev pub TellsNames : Type 0
TellsNames = (x y : Name) → IsTrue (same_name x y) ↔ (x ≡ y)

-- an expression has one value under all valuations that agree on the names in it
abbrev pub ValuesAgree : Type 0
ValuesAgree = (i : Interpretation) (v w : Valuation) (e : GhostExpression) → ((x : Name) → Uses e x → v x ≡ w x) → value_of i v e ≡ value_of i w e

-- division and remainder by 0 are 0
abbrev pub DividesByNought : Type 0
DividesByNought =
    (i : Interpretation) (v : Valuation) (a b : GhostExpression) → number_of (value_of i v b) ≡ pos 0
    → (value_of i v (Arithmetic Divide a b) ≡ values.Number (pos 0)) × (value_of i v (Arithmetic Remainder a b) ≡ values.Number (pos 0))

-- a claim on a value is true just where the value is a function whose declaration claims that function type
abbrev pub TellsClaims : Type 0
TellsClaims =
    (i : Interpretation) (v : Valuation) (t : Identity) (e : GhostExpression)
    → IsTrue (is_true (value_of i v (Claims t e))) ↔ ((g : Identity) × (value_of i v e ≡ values.Function g) × IsTrue (i.claims g t))
