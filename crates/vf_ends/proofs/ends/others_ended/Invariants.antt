use Rattle.std.proofs.Common.{List, map}
use Rattle.vf_tree.specs.Core.{Identity}
use Rattle.vf_engine.specs.States.{thread_of}
use Rattle.vf_ends.proofs.Settling.{EndedBelow}
use Rattle.vf_ends.proofs.ends.others_ended.Given as goal

abbrev pub invariant-loop-thread : goal.invariant-loop-thread
invariant-loop-thread l = (names : List Identity) → EndedBelow (map (thread_of names) l.threads) l.thread
