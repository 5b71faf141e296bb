use Rattle.std.proofs.Common.{rules, ◌≡◌, subst, sym, ap, length, List, ◌-◌}
use Rattle.std.specs.Prelude.{Some, slice_get}
use Rattle.vf_arith.specs.Paths.{Network}
use Rattle.vf_arith.specs.declared.journal.Saved.{Saved}
use Rattle.vf_arith.specs.Histories.{OnlySavedShorten, steps_of}
use Rattle.vf_arith.proofs.Histories.{ends_in, only_saved}
use Rattle.vf_arith.proofs.bounds.Bounds.shortened.Goals as goal

pub returns-in-Some : goal.returns-in-Some
returns-in-Some c =
    let layers = c.self.inside.layers.items in
    let e : slice_get layers (length layers - 1) ≡ Some c.in-Some.layer.now = search rules in
    subst (λ (n : Network). OnlySavedShorten n c.deref-in-Some.result.now) c.self.view_is
    (subst (λ (ss : List Saved). OnlySavedShorten (record { size = c.self.inside.size; edges = c.self.inside.edges.items; steps = steps_of layers; weight = 0 }) ss) (sym c.deref-in-Some.ensures.value)
    (only_saved c.self.inside.size c.self.inside.width c.self.inside.edges.items c.self.inside.cyclic c.self.inside.matrix.items layers 0 c.in-Some.layer.now c.self.invariant (ends_in layers c.in-Some.layer.now e) (λ h. c.requires.fine (rw (← ap (λ (a : Network). a.edges) c.self.view_is) h))))
