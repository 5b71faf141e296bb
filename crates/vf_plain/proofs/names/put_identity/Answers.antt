use Rattle.std.proofs.Common.{rules, ◌≤◌, ◌∙◌, ap, length, slice_set, sym}
use Rattle.vf_plain.specs.Identities.{paths_of}
use Rattle.vf_plain.proofs.Numbers.{at_found, at_no_declaration, at_no_name, at_other, at_past}
use Rattle.vf_plain.proofs.names.put_identity.Goals as goal

pub returns-in_default : goal.returns-in_default
returns-in_default c = λ count e. e ∙ at_no_name c.args.named (paths_of c.args.snapshot.now) c.args.scope.now.names c.args.scope.now.declarations c.args.at count c.in_default.ensures

pub returns-in_default-get : goal.returns-in_default-get
returns-in_default-get c = λ count e. e ∙ at_no_declaration c.args.named (paths_of c.args.snapshot.now) c.args.scope.now.names c.args.scope.now.declarations c.args.at count c.in_default-get.ensures

pub returns-in_default-number : goal.returns-in_default-number
returns-in_default-number c = λ count e. e ∙ at_other c.args.named (paths_of c.args.snapshot.now) c.args.scope.now.names c.args.scope.now.declarations c.args.at count c.in-Some.name.now c.in-Some-get.declaration.now (sym c.in-Some.ensures) (sym c.in-Some-get.ensures) (sym c.in_default-number.ensures)

pub returns-in_ok-identity : goal.returns-in_ok-identity
returns-in_ok-identity c = λ count e.
    c.set.ensures
    ∙ ap (slice_set c.args.texts.now c.in-Some-number.number) c.in_ok-identity.ensures
    ∙ at_found c.args.named (paths_of c.args.snapshot.now) c.args.scope.now.names c.args.scope.now.declarations c.args.at count c.in-Some-number.number c.in-Some.name.now c.in-Some-get.declaration.now c.args.texts.now (sym c.in-Some.ensures) (sym c.in-Some-get.ensures) (sym c.in-Some-number.ensures) e

pub returns-else-number-len : goal.returns-else-number-len
returns-else-number-len c = λ count e.
    let past : length c.args.texts.now ≤ c.in-Some-number.number = search rules in
    at_past c.args.named (paths_of c.args.snapshot.now) c.args.scope.now.names c.args.scope.now.declarations c.args.at count c.in-Some-number.number c.in-Some.name.now c.in-Some-get.declaration.now c.args.texts.now (sym c.in-Some.ensures) (sym c.in-Some-get.ensures) (sym c.in-Some-number.ensures) past e
