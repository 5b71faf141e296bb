use Rattle.std.proofs.Common.{◌≡◌, drop}
use Rattle.vf_terms.specs.Settings.{setting_of}
use Rattle.vf_resolved_parts.specs.Patterns.{values_read}
use Rattle.vf_resolved_parts.proofs.Lists.{put_terms}
use Rattle.vf_resolved_parts.proofs.patterns.values_read.Given as goal

-- the values that were read, with those that are left, are all
abbrev pub invariant-loop-at : goal.invariant-loop-at
invariant-loop-at l =
    put_terms l.row.terms (values_read (setting_of l.setting) (drop l.at l.sorts) l.row.next (drop l.at l.patterns))
    ≡ values_read (setting_of l.setting) l.sorts l.next l.patterns
