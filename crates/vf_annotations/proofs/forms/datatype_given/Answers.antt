use Rattle.vf_datatypes.specs.Datatypes.{datatype_behind}
use Rattle.vf_walk.proofs.Steps.{just}
use Rattle.vf_predicates.proofs.Heads.{gives_too}
use Rattle.vf_annotations.proofs.forms.datatype_given.Goals as goal

pub returns : goal.returns
returns c = just _ _ _ (gives_too c.declare_datatype.result c.declare_datatype.new.scope (datatype_behind c.args.stated.now c.args.name.now c.args.parameters.now c.args.constructors.now c.args.scope.now) c.declare_datatype.ensures)
