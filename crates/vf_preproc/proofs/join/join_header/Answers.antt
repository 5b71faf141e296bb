use Rattle.std.proofs.Common.{subst, IfSome}
use Rattle.vf_preproc.specs.Scopes.{header_of, scope_of}
use Rattle.vf_preproc.specs.Joins.{IsJoined}
use Rattle.vf_preproc.proofs.Rejoining.{again_joined, with_joined}
use Rattle.vf_preproc.proofs.join.join_header.Goals as goal

pub returns-then-serves-clause-joined : goal.returns-then-serves-clause-joined
returns-then-serves-clause-joined c =
    let joined = subst (λ k. IfSome k (λ join. IsJoined join c.args.names.now (header_of c.args.header.now) (scope_of c.args.scope.now))) c.in-Some.is c.requires.joined in
    again_joined c.args.is_ghost c.args.hash c.in-Some.join c.args.names.now (header_of c.args.header.now) (scope_of c.args.scope.now) c.len.result c.requires.even joined c.in_ok-join_again.ensures

pub returns-clause-joined : goal.returns-clause-joined
returns-clause-joined c =
    with_joined c.args.is_ghost c.args.hash c.args.names.now (header_of c.args.header.now) (scope_of c.args.scope.now) (scope_of c.with_header.new.scope) c.len-2.result c.requires.even c.in_ok-with_header.ensures
