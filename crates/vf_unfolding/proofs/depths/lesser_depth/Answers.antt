use Rattle.std.proofs.Common.{sym, ◌∙◌}
use Rattle.std.proofs.lemmas.Bool.{false≢true}
use Rattle.vf_unfolding.proofs.Leasts.{within_counts, others_stay}
use Rattle.vf_unfolding.proofs.depths.lesser_depth.Goals as goal

pub returns-then-is_within : goal.returns-then-is_within
returns-then-is_within c = within_counts c.args.term.now c.args.unfolding.now.body c.args.unfolding.now.depth c.args.least c.if-unfolding-least.false (c.is_within.ensures.0 c.if-is_within.true)

pub returns : goal.returns
returns c = others_stay c.args.term.now c.args.unfolding.now.body c.args.unfolding.now.depth c.args.least (λ w. false≢true (sym c.if-is_within.false ∙ c.is_within.ensures.1 w))
