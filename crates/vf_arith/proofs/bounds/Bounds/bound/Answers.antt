use Rattle.std.proofs.Common.{◌≡◌, ◌<◌, ◌+◌, ◌*◌, ap, refl, true, false, arith, Bool}
use Rattle.std.proofs.lemmas.Nat.{mul-add-lt}
use Rattle.vf_arith.specs.Paths.{Network}
use Rattle.vf_arith.specs.Matrices.{distance}
use Rattle.vf_arith.proofs.Entries.{bound_is, bound_small, at_entry}
use Rattle.vf_arith.proofs.Histories.{matrix_of, within}
use Rattle.vf_arith.proofs.bounds.Bounds.bound.Goals as goal

unset : (b : Bool) → (b ≡ true → ⊥) → b ≡ false
unset true h = absurd (h refl)
unset false h = refl

pub index-requires : goal.index-requires
index-requires c =
    let r = (within c.self.inside.size c.self.inside.width c.self.inside.edges.items c.self.inside.cyclic c.self.inside.matrix.items c.self.inside.layers.items c.self.invariant).0 in
    let is = matrix_of c.self.inside.size c.self.inside.width c.self.inside.edges.items c.self.inside.cyclic c.self.inside.matrix.items c.self.inside.layers.items c.self.invariant in
    let x : c.args.x < c.self.inside.width = omega (arith, c.requires.left, ap (λ (a : Network). a.size) c.self.view_is, r) in
    let y : c.args.y < c.self.inside.width = omega (arith, c.requires.right, ap (λ (a : Network). a.size) c.self.view_is, r) in
    let l = mul-add-lt c.args.x c.self.inside.width c.args.y c.self.inside.width x y in
    let g = is.long in omega (arith, c.self.inside.matrix.ok.0)

pub returns-clause-least : goal.returns-clause-least
returns-clause-least c =
    let r = (within c.self.inside.size c.self.inside.width c.self.inside.edges.items c.self.inside.cyclic c.self.inside.matrix.items c.self.inside.layers.items c.self.invariant).0 in
    let is = matrix_of c.self.inside.size c.self.inside.width c.self.inside.edges.items c.self.inside.cyclic c.self.inside.matrix.items c.self.inside.layers.items c.self.invariant in
    let x : c.args.x < c.self.inside.width = omega (arith, c.requires.left, ap (λ (a : Network). a.size) c.self.view_is, r) in
    let y : c.args.y < c.self.inside.width = omega (arith, c.requires.right, ap (λ (a : Network). a.size) c.self.view_is, r) in
    rw (← ap (λ (a : Network). a.edges) c.self.view_is)
    (bound_is c.self.inside.width c.self.inside.edges.items (distance c.self.inside.width c.self.inside.matrix.items)
    (is.exact (unset c.self.inside.cyclic (λ e. c.requires.fine (rw (← ap (λ (a : Network). a.edges) c.self.view_is) (is.bad e)))))
    c.args.x c.args.y x y c.index.result.now
    (at_entry c.self.inside.matrix.items (c.args.x * c.self.inside.width + c.args.y) c.index.result.now (let l = mul-add-lt c.args.x c.self.inside.width c.args.y c.self.inside.width x y in let g = is.long in omega arith) c.index.ensures))

pub returns-clause-small : goal.returns-clause-small
returns-clause-small c =
    let r = (within c.self.inside.size c.self.inside.width c.self.inside.edges.items c.self.inside.cyclic c.self.inside.matrix.items c.self.inside.layers.items c.self.invariant).0 in
    let is = matrix_of c.self.inside.size c.self.inside.width c.self.inside.edges.items c.self.inside.cyclic c.self.inside.matrix.items c.self.inside.layers.items c.self.invariant in
    let x : c.args.x < c.self.inside.width = omega (arith, c.requires.left, ap (λ (a : Network). a.size) c.self.view_is, r) in
    let y : c.args.y < c.self.inside.width = omega (arith, c.requires.right, ap (λ (a : Network). a.size) c.self.view_is, r) in
    bound_small c.self.inside.width c.self.inside.edges.items c.self.inside.cyclic c.self.inside.matrix.items is
    (unset c.self.inside.cyclic (λ e. c.requires.fine (rw (← ap (λ (a : Network). a.edges) c.self.view_is) (is.bad e))))
    c.args.x c.args.y x y c.index.result.now
    (at_entry c.self.inside.matrix.items (c.args.x * c.self.inside.width + c.args.y) c.index.result.now (let l = mul-add-lt c.args.x c.self.inside.width c.args.y c.self.inside.width x y in let g = is.long in omega arith) c.index.ensures)
