use Rattle.std.proofs.Common.{rules, ◌≡◌, slice_get, refl, sym}
use Rattle.std.proofs.lemmas.Result.{err_from_is_err_and}
use Rattle.vf_preproc.specs.Scopes.{header_of, scope_of}
use Rattle.vf_preproc.specs.Units.{unit_of}
use Rattle.vf_preproc.proofs.Rejoining.{with_header_joins, joins_below, joins_grow}
use Rattle.vf_expand.specs.Remembered.{join_at}
use Rattle.vf_expand.proofs.Remembering.{complete_there, incomplete, known_joined, remembers_joined, old_joins, old_refused}
use Rattle.vf_expand.proofs.steps.join_old.Goals as goal

pub join_header-requires-clause-joined : goal.join_header-requires-clause-joined
join_header-requires-clause-joined c =
    let there = complete_there (slice_get (unit_of c.args.unit.now).complete c.args.number) (header_of c.in-Some.header.now) (sym c.in-Some.ensures) in
    let known : c.copied-known.result ≡ join_at c.args.joins.now c.args.number = search rules in
    known_joined _ c.args.unit.now.names (unit_of c.args.unit.now).complete c.args.joins.now (scope_of c.args.scope.now) c.args.number (header_of c.in-Some.header.now) c.copied-known.result c.requires.remembers there known

pub returns-in_err-join-in-Some-clause-exact : goal.returns-in_err-join-in-Some-clause-exact
returns-in_err-join-in-Some-clause-exact c =
    let there = complete_there (slice_get (unit_of c.args.unit.now).complete c.args.number) (header_of c.in-Some.header.now) (sym c.in-Some.ensures) in
    let p = err_from_is_err_and c.from_residual.result c.from_residual.ensures.1 in
    rw (p.1, p.2) (old_refused c.args.include.now.hash c.args.include.now.is_ghost (unit_of c.args.unit.now) c.args.number (header_of c.in-Some.header.now) (scope_of c.args.scope.now) c.in_err-join-in-Some.field-0.0 there c.in_err-join-in-Some.ensures.exact)

pub returns-in_ok-insert-in-Some-clause-exact : goal.returns-in_ok-insert-in-Some-clause-exact
returns-in_ok-insert-in-Some-clause-exact c =
    let there = complete_there (slice_get (unit_of c.args.unit.now).complete c.args.number) (header_of c.in-Some.header.now) (sym c.in-Some.ensures) in
    old_joins c.args.include.now.hash c.args.include.now.is_ghost (unit_of c.args.unit.now) c.args.number (header_of c.in-Some.header.now) (scope_of c.args.scope.now) (scope_of c.join_header.new.scope) there c.in_ok-join-in-Some.ensures.exact

pub returns-in_ok-insert-in-Some-clause-remembers : goal.returns-in_ok-insert-in-Some-clause-remembers
returns-in_ok-insert-in-Some-clause-remembers c =
    let there = complete_there (slice_get (unit_of c.args.unit.now).complete c.args.number) (header_of c.in-Some.header.now) (sym c.in-Some.ensures) in
    let joins = with_header_joins c.args.include.now.is_ghost c.args.include.now.hash c.args.unit.now.names (header_of c.in-Some.header.now) (scope_of c.args.scope.now) (scope_of c.join_header.new.scope) c.in_ok-join-in-Some.ensures.exact in
    remembers_joined _ c.args.unit.now.names (unit_of c.args.unit.now).complete c.args.joins.now c.insert.new.self (scope_of c.args.scope.now) (scope_of c.join_header.new.scope) c.args.number c.in_ok-join-in-Some.join (header_of c.in-Some.header.now)
    c.requires.remembers (joins_grow c.args.include.now.is_ghost c.args.include.now.hash c.args.unit.now.names (header_of c.in-Some.header.now) (scope_of c.args.scope.now) (scope_of c.join_header.new.scope) joins)
    (joins_below _ c.args.include.now.is_ghost c.args.include.now.hash c.args.unit.now.names (header_of c.in-Some.header.now) (scope_of c.args.scope.now) (scope_of c.join_header.new.scope) joins c.requires.remembers.files (c.requires.named.begun c.args.number (header_of c.in-Some.header.now) there))
    c.requires.below there
    c.in_ok-join-in-Some.ensures.joined c.in_ok-join-in-Some.ensures.all c.in_ok-insert-in-Some.ensures.updates.0

pub returns-in-None-clause-exact : goal.returns-in-None-clause-exact
returns-in-None-clause-exact c =
    rw c.refusal.ensures (incomplete c.args.include.now.hash c.args.include.now.is_ghost (unit_of c.args.unit.now) c.args.number (scope_of c.args.scope.now) (sym c.in-None.ensures), refl)
