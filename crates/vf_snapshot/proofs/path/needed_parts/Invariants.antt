-- The parts that are kept and those of the rest make those of the whole path.
use Rattle.std.proofs.Common.{◌≡◌, [], drop, fold, reverse}
use Rattle.vf_snapshot.specs.Paths.{parts_from, parts_of, with_part}
use Rattle.vf_snapshot.proofs.path.needed_parts.Given as goal

abbrev pub invariant-loop-byte : goal.invariant-loop-byte
invariant-loop-byte l = fold with_part (reverse l.kept.items) (parts_from l.part (drop l.byte-index l.path)) ≡ fold with_part [] (parts_of l.path)
