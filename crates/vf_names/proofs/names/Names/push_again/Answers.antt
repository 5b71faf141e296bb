use Rattle.std.proofs.Common.{◌≡◌, ◌∷◌, ◌++◌, [], Some, ap, ◌∙◌, sym, subst}
use Rattle.vf_names.specs.Names.{number_of}
use Rattle.vf_names.specs.Kept.{Numbers}
use Rattle.vf_names.proofs.Numbering.{Numbers-push_again}
use Rattle.vf_names.proofs.names.Names.push_again.Goals as goal

pub invariant_of-self-2 : goal.invariant_of-self-2
invariant_of-self-2 c =
    let known : number_of c.self.inside.names.items c.args.name.now ≡ Some c.args.number = ap (λ names. number_of names c.args.name.now) c.self.view_is ∙ c.requires in
    let same : c.push.new.self.items ≡ c.self.inside.names.items ++ c.args.name.now ∷ [] = c.in_ok-push.ensures.items ∙ ap (λ text. c.self.inside.names.items ++ text ∷ []) c.in_ok-again.ensures in
    subst (λ names. Numbers names c.self.inside.numbers) (sym same) (Numbers-push_again c.self.inside.names.items c.args.name.now c.args.number c.self.inside.numbers known c.self.invariant)
