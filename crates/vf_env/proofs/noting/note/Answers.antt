use Rattle.std.proofs.Common.{◌≡◌, ◌≤◌, length, Some, ap, sym, ◌∙◌, rules}
use Rattle.vf_names.specs.Names.{number_of}
use Rattle.vf_env.proofs.Beside.{noted_at, noted_past}
use Rattle.vf_env.proofs.noting.note.Goals as goal

pub returns-then-at-len : goal.returns-then-at-len
returns-then-at-len c =
    let number : number_of c.args.names.now c.args.name.now.text ≡ Some c.in-Some.at = ap (number_of c.args.names.now) (sym c.as_bytes.ensures) ∙ sym c.in-Some.ensures.number in
    let past : length c.args.trees.now ≤ c.in-Some.at = search rules in
    noted_past c.args.names.now c.args.name.now.text c.args.number c.in-Some.at c.args.trees.now number past

pub returns : goal.returns
returns c =
    let number : number_of c.args.names.now c.args.name.now.text ≡ Some c.in-Some.at = ap (number_of c.args.names.now) (sym c.as_bytes.ensures) ∙ sym c.in-Some.ensures.number in
    noted_at c.args.names.now c.args.name.now.text c.args.number c.in-Some.at c.args.trees.now c.replace-list.new.self c.replace-none.new.self c.replace-list.result _ c.end_with.new.list number c.replace-list.ensures.given c.replace-list.ensures.written c.in_ok-end_with.ensures c.replace-none.ensures.written
