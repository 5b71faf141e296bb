use Rattle.std.proofs.Common.{◌≡◌, drop}
use Rattle.vf_terms.specs.Settings.{setting_of}
use Rattle.vf_resolved_commands.specs.Commands.{all_passed}
use Rattle.vf_resolved_commands.proofs.Lists.{put_terms}
use Rattle.vf_resolved_commands.proofs.calls.all_passed.Given as goal

-- the arguments that were read, with those that are left, are all
abbrev pub invariant-loop-at : goal.invariant-loop-at
invariant-loop-at l =
    put_terms l.row.terms (all_passed (setting_of l.setting) (drop l.at l.sorts) l.row.next (drop l.at l.arguments))
    ≡ all_passed (setting_of l.setting) l.sorts l.next l.arguments
