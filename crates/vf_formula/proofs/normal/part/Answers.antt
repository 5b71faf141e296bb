use Rattle.std.proofs.Common.{◌∙◌, sym, ap}
use Rattle.std.specs.Option.{option_copied}
use Rattle.vf_normal.proofs.Reached.{part_normal}
use Rattle.vf_formula.specs.Rows.{row}
use Rattle.vf_formula.proofs.Calculating.{ok_normal}
use Rattle.vf_formula.proofs.Parts.{part_got, part_missed, ok_as}
use Rattle.vf_formula.proofs.normal.part.Goals as goal

pub returns-in-Some-clause-value : goal.returns-in-Some-clause-value
returns-in-Some-clause-value c =
    let e = part_got c.args.parts.now c.args.at c.in-Some.part.now (sym (ap option_copied c.in-Some.is) ∙ c.get.ensures) in
    ok_as c.copy.result c.in-Some.part.now _ c.copy.ensures e

pub returns-in-Some-clause-normal : goal.returns-in-Some-clause-normal
returns-in-Some-clause-normal c =
    let e = part_got c.args.parts.now c.args.at c.in-Some.part.now (sym (ap option_copied c.in-Some.is) ∙ c.get.ensures) in
    ok_normal c.copy.result _ (ok_as c.copy.result c.in-Some.part.now _ c.copy.ensures e) (part_normal (row c.args.parts.now) c.args.at c.requires)

pub returns-in-None-clause-value : goal.returns-in-None-clause-value
returns-in-None-clause-value c = c.of_number.ensures ∙ sym (part_missed c.args.parts.now c.args.at (sym (ap option_copied c.in-None.is) ∙ c.get.ensures))
