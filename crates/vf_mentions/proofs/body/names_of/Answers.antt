use Rattle.std.proofs.Common.{[], ◌∷◌, refl, sym}
use Rattle.vf_syntax.specs.declared.item.Typed.{Typed}
use Rattle.vf_mentions.specs.Bodies.{names_of}
use Rattle.vf_mentions.proofs.Loops.{one_more}
use Rattle.vf_mentions.proofs.body.names_of.Goals as goal

pub loop-at-preserved : goal.loop-at-preserved
loop-at-preserved c = one_more (λ (x : Typed). x.name.text ∷ []) names_of (λ x xs. refl) c.args.typed.now c.loop-at.at _ _ _ _ (sym c.in-Some.ensures) (rw c.as_bytes.ensures at c.in_ok-push.ensures.pushed) c.loop-at.invariant
