-- None of the files so far is among the others.
use Rattle.std.proofs.Common.{◌≡◌, false, take}
use Rattle.std.specs.List.{list_any}
use Rattle.vf_preproc.specs.UnitText.{is_among}
use Rattle.vf_preproc.proofs.name_table.is_one_among.Given as goal

abbrev pub invariant-loop-other : goal.invariant-loop-other
invariant-loop-other l = list_any (λ f. is_among l.files f) (take l.other-index l.others) ≡ false
