use Rattle.std.proofs.Common.{ap, arith, Some}
use Rattle.std.proofs.lemmas.Int.{ints}
use Rattle.vf_arith.proofs.matrix.way_over.Goals as goal

pub overflow_add-result : goal.overflow_add-result
overflow_add-result c = let h = c.requires.before c.in-Some-Some.v c.in-Some-Some.is-0 in let l = h.low in let u = h.high in let m = c.requires.most.low in let n = c.requires.most.high in omega (arith, ints)

pub overflow_add-result-in-Some-Some : goal.overflow_add-result-in-Some-Some
overflow_add-result-in-Some-Some c = let h = c.requires.before c.in-Some-Some.v c.in-Some-Some.is-0 in let l = h.low in let u = h.high in let k = c.requires.after c.in-Some-Some.w c.in-Some-Some.is-1 in let m = k.low in let n = k.high in let p = c.requires.most.low in let q = c.requires.most.high in omega (arith, ints)

pub returns-in-Some-Some : goal.returns-in-Some-Some
returns-in-Some-Some c =
    let h = c.requires.before c.in-Some-Some.v c.in-Some-Some.is-0 in let l = h.low in let u = h.high in let k = c.requires.after c.in-Some-Some.w c.in-Some-Some.is-1 in let m = k.low in let n = k.high in let p = c.requires.most.low in let q = c.requires.most.high in
    rw (c.in-Some-Some.is-0, c.in-Some-Some.is-1) (ap Some (omega (arith, ints)))
