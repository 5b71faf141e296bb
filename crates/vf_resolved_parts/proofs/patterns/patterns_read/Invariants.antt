use Rattle.std.proofs.Common.{◌≡◌, drop}
use Rattle.vf_terms.specs.Settings.{setting_of}
use Rattle.vf_resolved_parts.specs.Patterns.{patterns_read}
use Rattle.vf_resolved_parts.proofs.Lists.{put_patterns}
use Rattle.vf_resolved_parts.proofs.patterns.patterns_read.Given as goal

-- the patterns that were read, with those that are left, are all
abbrev pub invariant-loop-at : goal.invariant-loop-at
invariant-loop-at l =
    put_patterns l.all (patterns_read (setting_of l.setting) l.first (drop l.at l.sorts) l.progress (drop l.at l.patterns))
    ≡ patterns_read (setting_of l.setting) l.first l.sorts l.fn.progress l.patterns
