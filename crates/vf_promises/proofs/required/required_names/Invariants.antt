use Rattle.std.proofs.Common.{◌≡◌, [], drop, fold}
use Rattle.vf_names.specs.Names.{put}
use Rattle.vf_promises.specs.Required.{along, required_in}
use Rattle.vf_promises.proofs.required.required_names.Given as goal

-- with the names that are still to come they are all
abbrev pub invariant-loop-item : goal.invariant-loop-item
invariant-loop-item l = fold put l.names (along (required_in l.scope) l.known (drop l.item-index l.items)) ≡ fold put [] (along (required_in l.scope) [] l.items)
