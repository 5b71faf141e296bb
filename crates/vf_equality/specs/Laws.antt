-- What is shown of literals that are asked. It is the contract of a public function with an empty body.
use Rattle.vf_tree.specs.Core.{Comparison}
use Rattle.vf_closure.specs.Terms.{Term}
use Rattle.vf_normal.specs.Comparisons.{literal_of}
use Rattle.vf_question.specs.Plain.{IsPlain}
use Rattle.vf_asking.specs.Plain.{CanBeAsked}

-- the literal of each comparison of two plain terms can be asked, and so it can be a fact
abbrev pub ComparisonsCanBeAsked : Type 0
ComparisonsCanBeAsked = (op : Comparison) (a b : Term) → IsPlain a → IsPlain b → CanBeAsked (literal_of op a b)
