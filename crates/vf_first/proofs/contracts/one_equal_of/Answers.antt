-- One link, or not just one.
use Rattle.std.proofs.Common.{sym, ◌∙◌}
use Rattle.vf_first.proofs.Loops.{not_one, just_one, none_there}
use Rattle.vf_first.proofs.contracts.one_equal_of.Goals as goal

pub returns-then-len-ne1 : goal.returns-then-len-ne1
returns-then-len-ne1 c = sym (not_one c.args.links.now (λ e. c.if-len-ne1.true (c.len.ensures ∙ e)))

pub returns-in_err-get : goal.returns-in_err-get
returns-in_err-get c = c.from_residual.ensures ∙ sym (none_there c.args.links.now (sym (rw c.in_err-get.was at c.get.ensures)))

pub returns : goal.returns
returns c = c.equal_of.ensures ∙ sym (just_one c.args.links.now c.in_ok-get.field-0.now (sym c.len.ensures ∙ c.if-len-ne1.false) (sym (rw c.in_ok-get.was at c.get.ensures)))
