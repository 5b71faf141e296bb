use Rattle.std.proofs.Common.{◌∙◌, sym}
use Rattle.vf_preproc.specs.Scopes.{header_of, scope_of}
use Rattle.vf_preproc.proofs.Rejoining.{again_same}
use Rattle.vf_preproc.proofs.join.join_again.Goals as goal

pub returns : goal.returns
returns c = again_same c.args.is_ghost c.args.hash c.args.join c.args.names.now (header_of c.args.header.now) (scope_of c.args.scope.now) c.requires.joined c.requires.serves (sym c.clashes.ensures ∙ c.if-clashes.false)
