use Rattle.std.proofs.Common.{◌≡◌, map}
use Rattle.vf_program.specs.Units.{unit_of}
use Rattle.vf_try.specs.Files.{file_of, is_any_refused, manifests_in, plains_in}
use Rattle.vf_try.proofs.units.units_of.Given as goal

-- the units of the files so far
abbrev pub invariant-loop-file : goal.invariant-loop-file
invariant-loop-file l = record {
  plains : map unit_of l.units.plains.items ≡ plains_in (map file_of l.yielded);
  manifests : l.units.manifests.items ≡ manifests_in (map file_of l.yielded);
  refused : l.units.is_any_refused ≡ is_any_refused (map file_of l.yielded);
}
