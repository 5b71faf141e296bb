use Rattle.std.proofs.Common.{ℕ, ap, ◌∙◌}
use Rattle.vf_steps.specs.Shown.{nodes_of}
use Rattle.vf_flow.specs.Leads.{step_number}
use Rattle.vf_flow.specs.Shown.{number_in}
use Rattle.vf_flow.specs.Named.{naming_of}
use Rattle.vf_flow.specs.Steps.{number_of}
use Rattle.vf_flow.proofs.Making.{steps_same}
use Rattle.vf_flow.proofs.steps.make_steps.Goals as goal

pub returns : goal.returns
returns c =
    let ns = nodes_of c.args.nodes.now.items in
    let right = λ (i : ℕ). c.in_ok-numbers.ensures i ∙ ap (λ fs. step_number fs i) c.in_ok-flows.ensures in
    record {
      steps = c.in_ok-steps.ensures ∙ steps_same (naming_of c.args.naming.now) (number_in c.in_ok-numbers.numbers) (number_of ns) 0 ns right;
      numbers = right;
    }
