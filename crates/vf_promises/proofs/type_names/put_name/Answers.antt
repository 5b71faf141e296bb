use Rattle.std.proofs.Common.{rules, ◌≤◌, ◌∙◌, ap, length, slice_set, sym}
use Rattle.vf_promises.proofs.Numbered.{at_found, at_no_declaration, at_no_name, at_other, at_past}
use Rattle.vf_promises.proofs.type_names.put_name.Goals as goal

pub returns-in_default : goal.returns-in_default
returns-in_default c = λ count e. e ∙ at_no_name c.args.scope.now c.args.named c.args.scope.now.names c.args.scope.now.declarations c.args.at count c.in_default.ensures

pub returns-in_default-get : goal.returns-in_default-get
returns-in_default-get c = λ count e. e ∙ at_no_declaration c.args.scope.now c.args.named c.args.scope.now.names c.args.scope.now.declarations c.args.at count c.in_default-get.ensures

pub returns-in_default-number : goal.returns-in_default-number
returns-in_default-number c = λ count e. e ∙ at_other c.args.scope.now c.args.named c.args.scope.now.names c.args.scope.now.declarations c.args.at count c.in-Some.name.now c.in-Some-get.declaration.now (sym c.in-Some.ensures) (sym c.in-Some-get.ensures) (sym c.in_default-number.ensures)

pub returns-in_ok-from_bytes : goal.returns-in_ok-from_bytes
returns-in_ok-from_bytes c = λ count e.
    c.set.ensures
    ∙ ap (slice_set c.args.names.now c.in-Some-number.number) c.in_ok-from_bytes.ensures
    ∙ at_found c.args.scope.now c.args.named c.args.scope.now.names c.args.scope.now.declarations c.args.at count c.in-Some-number.number c.in-Some.name.now c.in-Some-get.declaration.now c.args.names.now (sym c.in-Some.ensures) (sym c.in-Some-get.ensures) (sym c.in-Some-number.ensures) e

pub returns-else-number-len : goal.returns-else-number-len
returns-else-number-len c = λ count e.
    let past : length c.args.names.now ≤ c.in-Some-number.number = search rules in
    at_past c.args.scope.now c.args.named c.args.scope.now.names c.args.scope.now.declarations c.args.at count c.in-Some-number.number c.in-Some.name.now c.in-Some-get.declaration.now c.args.names.now (sym c.in-Some.ensures) (sym c.in-Some-get.ensures) (sym c.in-Some-number.ensures) past e
