use Rattle.std.proofs.Common.{◌≡◌, take}
use Rattle.vf_promises.proofs.type_names.tags.Given as goal

-- the tags so far
abbrev pub invariant-loop-tag : goal.invariant-loop-tag
invariant-loop-tag l = l.tags ≡ take l.tag-index l.tag-items
