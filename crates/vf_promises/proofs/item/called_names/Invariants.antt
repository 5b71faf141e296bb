use Rattle.std.proofs.Common.{◌≡◌, [], drop, fold}
use Rattle.vf_names.specs.Names.{put}
use Rattle.vf_promises.specs.Lines.{others_called}
use Rattle.vf_promises.proofs.item.called_names.Given as goal

-- with the names that are still to come they are all
abbrev pub invariant-loop-mention : goal.invariant-loop-mention
invariant-loop-mention l = fold put l.names (others_called l.scope l.own (drop l.mention-index l.mentions)) ≡ fold put [] (others_called l.scope l.own l.mentions)
