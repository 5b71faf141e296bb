use Rattle.std.proofs.Common.{rules, ◌≡◌, subst, sym, length, List, ◌-◌}
use Rattle.std.specs.Prelude.{Some, slice_get}
use Rattle.vf_growing.specs.Steps.{Growth}
use Rattle.vf_growing.specs.declared.journal.Moved.{Moved}
use Rattle.vf_growing.specs.Histories.{OnlyMovedMeet, steps_of}
use Rattle.vf_growing.proofs.Steps.{ends_in, only_moved}
use Rattle.vf_growing.proofs.growing.GrowingClasses.moved.Goals as goal

pub returns-in-Some : goal.returns-in-Some
returns-in-Some c =
    let layers = c.self.inside.layers.items in
    let e : slice_get layers (length layers - 1) ≡ Some c.in-Some.layer.now = search rules in
    subst (λ (g : Growth). OnlyMovedMeet g c.deref-in-Some.result.now) c.self.view_is
    (subst (λ (ms : List Moved). OnlyMovedMeet (record { nodes = c.self.inside.nodes.items; merged = c.self.inside.merged.items; steps = steps_of layers; weight = 0 }) ms) (sym c.deref-in-Some.ensures.value)
    (only_moved layers c.self.inside.nodes.items c.self.inside.merged.items c.self.inside.classes.items 0 c.in-Some.layer.now c.self.invariant (ends_in layers c.in-Some.layer.now e)))
