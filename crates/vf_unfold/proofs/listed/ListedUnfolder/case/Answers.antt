use Rattle.std.proofs.Common.{ap, sym, ◌∙◌, List}
use Rattle.vf_closure.specs.Terms.{Term}
use Rattle.vf_unfold.specs.Rows.{row_for}
use Rattle.vf_unfold.proofs.Equations.{rows_plain}
use Rattle.vf_unfold.proofs.listed.ListedUnfolder.case.Goals as goal

pub returns-clause-plain : goal.returns-clause-plain
returns-clause-plain c = λ b e. rows_plain c.self.inside.rows.items c.self.invariant c.in_ok-at.at b (ap (λ (rs : List (Term × Term)). row_for rs c.in_ok-at.at) (sym c.deref.ensures.value) ∙ sym c.in_ok-body.ensures ∙ e)
