use Rattle.std.proofs.Common.{ap, ◌∙◌}
use Rattle.vf_formula.specs.Heads.{shown_head}
use Rattle.vf_unfold.specs.Rows.{first_part}
use Rattle.vf_unfold.proofs.Equations.{first_is}
use Rattle.vf_unfold.proofs.listed.ListedUnfolder.switched.Goals as goal

pub returns : goal.returns
returns c = c.get.ensures ∙ first_is (shown_head c.application.inside.head) c.application.inside.parts ∙ ap first_part c.application.view_is
