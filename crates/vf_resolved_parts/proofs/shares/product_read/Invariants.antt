use Rattle.std.proofs.Common.{◌≡◌, drop}
use Rattle.vf_terms.specs.Settings.{setting_of}
use Rattle.vf_resolved_parts.specs.Shares.{links_read, product_read}
use Rattle.vf_resolved_parts.proofs.Lists.{put_factors}
use Rattle.vf_resolved_parts.proofs.shares.product_read.Given as goal

-- the factors that were read, with those that are left, are all
abbrev pub invariant-loop-at : goal.invariant-loop-at
invariant-loop-at l =
    put_factors l.all (links_read (setting_of l.setting) l.next (drop l.at l.links)) ≡ product_read (setting_of l.setting) l.fn.next l.first l.links
