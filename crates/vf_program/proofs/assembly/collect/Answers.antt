use Rattle.std.proofs.Common.{◌≡◌, ◌+◌, ◌∙◌, ◌++◌, Some, drop, slice_get, ap, sym, arith}
use Rattle.std.proofs.lemmas.Option.{slice_get-get_or}
use Rattle.vf_program.specs.Indexes.{names_of}
use Rattle.vf_program.specs.Units.{unit_of}
use Rattle.vf_program.proofs.Standing.{left_behind, names_left, one_unit_more, stands, stays_within}
use Rattle.vf_program.proofs.assembly.collect.Goals as goal

pub invariant_of-renaming : goal.invariant_of-renaming
invariant_of-renaming c =
    let units = c.args.units.now in
    let i = c.loop-unit.unit-index in
    let unit = c.unit-item.result in
    let within = slice_get-get_or units i unit c.loop-unit-test.true in
    let here : slice_get units i ≡ Some unit = cc in
    record {
      stands = stands unit.names (names_of (drop (i + 1) units)) c.args.all.now c.loop-unit.first (c.loop-unit.invariant.2 ∙ names_left units i unit here);
      few = c.requires.few;
    }

pub overflow_add-first : goal.overflow_add-first
overflow_add-first c =
    let units = c.args.units.now in
    let i = c.loop-unit.unit-index in
    let unit = c.unit-item.result in
    let within = slice_get-get_or units i unit c.loop-unit-test.true in
    let here : slice_get units i ≡ Some unit = cc in
    let ends = stays_within unit.names (names_of (drop (i + 1) units)) c.args.all.now c.loop-unit.first (c.loop-unit.invariant.2 ∙ names_left units i unit here) c.loop-unit.invariant.3 in
    omega (arith, ends, c.len-first.ensures, c.requires.few)

pub loop-unit-preserved : goal.loop-unit-preserved
loop-unit-preserved c =
    let units = c.args.units.now in
    let all = c.args.all.now in
    let i = c.loop-unit.unit-index in
    let unit = c.unit-item.result in
    let within = slice_get-get_or units i unit c.loop-unit-test.true in
    let here : slice_get units i ≡ Some unit = cc in
    let rest = names_of (drop (i + 1) units) in
    let left = c.loop-unit.invariant.2 ∙ names_left units i unit here in
    let ends = stays_within unit.names rest all c.loop-unit.first left c.loop-unit.invariant.3 in
    let size = c.len-first.ensures in (
      c.in_ok-add_unit.ensures.functions ∙ ap (λ l. l ++ (unit_of unit).functions) c.loop-unit.invariant.0 ∙ sym (one_unit_more (λ u. (unit_of u).functions) units i unit here),
      c.in_ok-add_unit.ensures.structs ∙ ap (λ l. l ++ (unit_of unit).structs) c.loop-unit.invariant.1 ∙ sym (one_unit_more (λ u. (unit_of u).structs) units i unit here),
      ap (λ n. drop (c.loop-unit.first + n) all) size ∙ left_behind unit.names rest all c.loop-unit.first left,
      omega (arith, ends, size),
    )
