use Rattle.std.proofs.Common.{rules, ◌≡◌, None, [], ◌∷◌, ◌++◌, length, ap, ◌∙◌, sym, subst}
use Rattle.vf_names.specs.Names.{number_of}
use Rattle.vf_names.specs.Kept.{Numbers}
use Rattle.vf_names.proofs.Numbering.{Numbers-push}
use Rattle.vf_names.proofs.names.Names.put_new.Goals as goal

pub invariant_of-self-in-Ok : goal.invariant_of-self-in-Ok
invariant_of-self-in-Ok c =
    let none : number_of c.self.inside.names.items c.args.name.now ≡ None = ap (λ names. number_of names c.args.name.now) c.self.view_is ∙ c.requires in
    let last : c.len-number.result ≡ length c.self.inside.names.items = search rules in
    let made : Numbers (c.self.inside.names.items ++ c.args.name.now ∷ []) c.insert.new.self = Numbers-push c.self.inside.names.items c.in_ok-key.key c.args.name.now c.len-number.result c.self.inside.numbers c.insert.new.self c.in_ok-key.ensures.items last none c.self.invariant c.in-Ok.ensures.updates in
    let same : c.push.new.self.items ≡ c.self.inside.names.items ++ c.args.name.now ∷ [] = c.in_ok-push.ensures.items ∙ ap (λ text. c.self.inside.names.items ++ text ∷ []) c.in_ok-text.ensures in
    subst (λ names. Numbers names c.insert.new.self) (sym same) made
