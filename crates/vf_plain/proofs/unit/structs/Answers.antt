use Rattle.std.proofs.Common.{map, sym}
use Rattle.vf_core.specs.Shown.{struct_of}
use Rattle.vf_flow.specs.Named.{naming_of}
use Rattle.vf_plain.proofs.Numbers.{structs_more}
use Rattle.vf_plain.proofs.unit.structs.Goals as goal

pub loop-number-preserved : goal.loop-number-preserved
loop-number-preserved c =
    let names = c.args.naming.now.names.now in
    structs_more (naming_of c.args.naming.now) c.args.scope.now.structures c.loop-number.number c.in-Some.structure.now (map (struct_of names) c.loop-number.all) (map (struct_of names) c.add_struct.new.structs) _ (sym c.in-Some.ensures) c.in_ok-add_struct.ensures c.loop-number.invariant
