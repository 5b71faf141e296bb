use Rattle.std.proofs.Common.{◌≡◌, ◌≤◌, length, refl, sym, to_z, of_z, arith}
use Rattle.std.specs.Int.{w128}
use Rattle.std.proofs.lemmas.Int.{to_z-of_z}
use Rattle.std.proofs.lemmas.List.{length-map, map-set, set_past}
use Rattle.std.specs.Option.{option_map}
use Rattle.vf_model.specs.Values.{Number}
use Rattle.vf_machine.specs.Machine.{values_of}
use Rattle.vf_machine.proofs.machine.with_local.Goals as goal
use Rattle.vf_machine.proofs.machine.with_local.Goals.{then-local-len, else-local-len}

pub returns-clause-locals : goal.returns-clause-locals
returns-clause-locals c =
    elim c.if-local-len.branch [
      | then-local-len w ↦
          let same : to_z w128 (of_z w128 c.args.value) ≡ c.args.value = to_z-of_z w128 c.args.value c.ranges.value in
          rw (w.locals-is, map-set, same) refl
      | else-local-len w ↦
          let all : length (values_of c.args.frame.locals.items) ≡ length c.args.frame.locals.items = length-map c.args.frame.locals.items (option_map Number) in
          let past : length (values_of c.args.frame.locals.items) ≤ c.args.local = omega (arith, all, c.args.frame.locals.ok.0) in
          rw w.locals-is (sym (set_past (values_of c.args.frame.locals.items) c.args.local _ past))
    ]
