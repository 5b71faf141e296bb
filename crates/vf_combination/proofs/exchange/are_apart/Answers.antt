use Rattle.std.proofs.Common.{◌≡◌, true, false}
use Rattle.vf_combination.proofs.Marked.{apart_quiet}
use Rattle.vf_combination.proofs.exchange.are_apart.Goals as goal

pub returns : goal.returns
returns c = λ t k. apart_quiet c.args.classes.now c.args.bounds.now k c.args.x c.args.y
    (λ s. let e : false ≡ true = c.if-same.ensures.1 s in cc)
    (λ n o. let e : false ≡ true = c.if-are_level.ensures.1 (n, o) in cc)
