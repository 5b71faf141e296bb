-- What is shown of the meaning of resolved trees. Each law is the contract of a public function with an empty body.
use Rattle.std.specs.Prelude.{◌≡◌}
use Rattle.vf_entailment.specs.Meant.{meant}
use Rattle.vf_resolved.specs.TruthTree.{TruthTree}
use Rattle.vf_resolved.specs.Apart.{as_term}
use Rattle.vf_resolved_meaning.specs.Meaning.{truth_meant}

-- a truth value that is told apart means what its term means
abbrev pub TruthsMeanTheirTerms : Type 0
TruthsMeanTheirTerms = (x : TruthTree) → truth_meant x ≡ meant (as_term x)
