use Rattle.std.proofs.Common.{◌≡◌, ◌<◌, true, sym, ap, ◌∙◌, length, rules, arith}
use Rattle.std.proofs.lemmas.List.{length-map}
use Rattle.std.proofs.lemmas.Option.{slice_get_within}
use Rattle.vf_model.specs.Values.{same_identity}
use Rattle.vf_model.specs.Accesses.{field_count_in}
use Rattle.vf_core.specs.Shown.{identity_of, struct_of, type_of}
use Rattle.vf_core.proofs.Positions.{find_found, find_missing}
use Rattle.vf_core.proofs.resolve.fields_named.Goals as goal

pub returns-in-loop-i : goal.returns-in-loop-i
returns-in-loop-i c =
    let u = c.args.unit.now in
    let body = c.in-Some.body.now in
    let is : same_identity (identity_of u.names body.identity) c.args.text.now ≡ true = search rules in
    c.len.ensures ∙ sym (length-map body.fields (type_of u.names))
    ∙ sym (ap field_count_in (find_found (struct_of u.names) (λ s. same_identity s.identity c.args.text.now) u.structs c.loop-i.i body (sym c.in-Some.ensures) is c.loop-i.invariant))

pub returns : goal.returns
returns c =
    let u = c.args.unit.now in
    sym (ap field_count_in (find_missing (struct_of u.names) (λ s. same_identity s.identity c.args.text.now) u.structs
    (λ k f at. let within : k < length u.structs = slice_get_within u.structs k f at in c.loop-i.invariant k f (omega arith) at)))
