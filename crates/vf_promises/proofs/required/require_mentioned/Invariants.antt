use Rattle.std.proofs.Common.{◌≡◌, drop, fold}
use Rattle.std.specs.Option.{option_copied}
use Rattle.vf_names.specs.Names.{put}
use Rattle.vf_promises.specs.Required.{required_of}
use Rattle.vf_promises.proofs.required.require_mentioned.Given as goal

-- with the names that are still to come they are all
abbrev pub invariant-loop-mention : goal.invariant-loop-mention
invariant-loop-mention l = fold put l.names (required_of l.scope l.known (option_copied l.hidden) (drop l.mention-index l.mentions)) ≡ fold put l.fn.names (required_of l.scope l.known (option_copied l.hidden) l.mentions)
