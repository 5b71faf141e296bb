use Rattle.std.proofs.Common.{sym, ◌∙◌, arith}
use Rattle.std.proofs.lemmas.Int.{ints}
use Rattle.std.proofs.lemmas.Option.{same_Some}
use Rattle.vf_arith.proofs.matrix.closes_below.Goals as goal

pub overflow_add-result : goal.overflow_add-result
overflow_add-result c = let h = c.requires.back c.in-Some.t c.in-Some.is in let l = h.low in let u = h.high in let m = c.requires.most.low in let n = c.requires.most.high in omega (arith, ints)

pub returns-in-Some : goal.returns-in-Some
returns-in-Some c = let h = c.requires.back c.in-Some.t c.in-Some.is in let l = h.low in let u = h.high in let m = c.requires.most.low in let n = c.requires.most.high in (
  λ y. (c.in-Some.t, c.in-Some.is, grind (arith, ints)),
  λ k. let e = same_Some c.in-Some.t k.0 (sym c.in-Some.is ∙ k.1) in let b = k.2 in grind (arith, ints),
)
