use Rattle.vf_heads.specs.Heads.{family_behind}
use Rattle.vf_walk.proofs.Steps.{just}
use Rattle.vf_predicates.proofs.Heads.{gives_too}
use Rattle.vf_annotations.proofs.forms.family_given.Goals as goal

pub returns : goal.returns
returns c = just _ _ _ (gives_too c.declare_family.result c.declare_family.new.scope (family_behind c.args.name.now c.args.index.now c.args.parameters.now c.args.scope.now) c.declare_family.ensures)
