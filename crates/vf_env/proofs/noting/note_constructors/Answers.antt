use Rattle.std.proofs.Common.{◌≡◌, ◌<◌, length, Some, slice_get, ap, refl, sym, ◌∙◌, rules}
use Rattle.std.proofs.lemmas.Option.{slice_get_read}
use Rattle.vf_env.proofs.Beside.{constructors_more}
use Rattle.vf_env.proofs.noting.note_constructors.Goals as goal

pub loop-constructor-preserved : goal.loop-constructor-preserved
loop-constructor-preserved c =
    let at = c.loop-constructor.constructor-index in
    let slice = c.as_slice-constructor-items.result.now in
    let within : at < length slice = search rules in
    let there : slice_get c.args.constructors.now at ≡ Some c.constructor-item.result = ap (λ l. slice_get l at) (sym c.as_slice-constructor-items.ensures) ∙ slice_get_read slice (length slice) at c.constructor-item.result refl within c.constructor-item.is in
    constructors_more c.args.names.now c.args.constructors.now at c.constructor-item.result c.args.number c.args.trees.now c.loop-constructor.trees c.note.new.trees there c.in_ok-note.ensures c.loop-constructor.invariant
