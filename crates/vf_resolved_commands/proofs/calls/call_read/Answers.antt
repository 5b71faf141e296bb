use Rattle.std.proofs.Common.{◌∙◌}
use Rattle.vf_terms.specs.Settings.{setting_of}
use Rattle.vf_resolved_commands.proofs.Calling.{call_told}
use Rattle.vf_resolved_commands.proofs.calls.call_read.Goals as goal

pub returns : goal.returns
returns c =
    c.call_made.ensures
    ∙ call_told (setting_of c.args.setting.now) c.args.first c.args.place c.args.name.now c.args.arguments.now c.declaration-meaning.result (record { is_real = c.in_ok-callee.callee.is_real; parameters = c.in_ok-callee.callee.parameters; arguments = c.in_ok-callee.callee.arguments }) c.in_ok-lemma.lemma c.in_ok-sorts.sorts c.in_ok-behind.behind c.in_ok-row.row
    c.declaration-meaning.ensures c.in_ok-callee.ensures c.in_ok-behind.ensures c.in_ok-sorts.ensures c.in_ok-row.ensures c.in_ok-lemma.ensures
