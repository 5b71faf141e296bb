-- What is shown of the literals of truth values.
use Rattle.std.specs.Prelude.{◌≡◌, ◌↔◌, Bool}
use Rattle.vf_model.specs.Values as values
use Rattle.vf_meaning.specs.Valuations.{Valuation, is_true}
use Rattle.vf_meaning.specs.GhostValues.{Interpretation}
use Rattle.vf_closure.specs.Terms.{Term}
use Rattle.vf_closure.specs.Values.{value}
use Rattle.vf_closure.specs.Literals.{Holds}
use Rattle.vf_truths.specs.Truths.{bare, truth_literal}

-- the value of a term is a truth value
abbrev pub HasTruthValue : Interpretation → Valuation → Term → Type 0
HasTruthValue i v t = value i v t ≡ values.Truth (is_true (value i v t))

-- Whatever is declared, where a term without its negations and the truth values that it is compared with has a truth value, a valuation meets the literal exactly where the term has the wanted truth value
abbrev pub TruthLiteralsMeanIt : Type 0
TruthLiteralsMeanIt = (i : Interpretation) (v : Valuation) (t : Term) (w : Bool) → HasTruthValue i v (bare t).subject → Holds i v (truth_literal t w) ↔ (value i v t ≡ values.Truth w)
