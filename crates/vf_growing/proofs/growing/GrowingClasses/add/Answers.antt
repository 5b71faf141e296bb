use Rattle.std.proofs.Common.{◌≡◌, ℕ, ◌<◌, ◌^◌, ◌+◌, ◌∷◌, [], ◌++◌, List, length, drop, All, ap, sym, ◌∙◌, subst, arith, refl}
use Rattle.vf_table.specs.declared.node.Node.{Node}
use Rattle.vf_congruence.proofs.Meeting.{least_settled, written}
use Rattle.vf_growing.specs.Steps.{Growth, IsTermOf}
use Rattle.vf_growing.proofs.Steps.{settled_more, kept_grown, term_of_new}
use Rattle.vf_growing.proofs.growing.GrowingClasses.add.Goals as goal

pub settle-requires-clause-settled : goal.settle-requires-clause-settled
settle-requires-clause-settled c =
    rw (c.deref-3.ensures.value, c.deref-4.ensures.value, c.in_ok-push.ensures.items)
    (settled_more c.self.inside.nodes.items c.args.node c.self.inside.classes.items c.self.invariant.least.long (least_settled c.self.inside.nodes.items c.self.inside.merged.items c.self.inside.classes.items c.self.invariant.least))

pub invariant_of-self-in-Ok : goal.invariant_of-self-in-Ok
invariant_of-self-in-Ok c =
    let few : length c.self.inside.nodes.items + 1 < 2 ^ 32 = omega (arith, c.requires.few, ap (λ (h : Growth). length h.nodes) c.self.view_is) in
    let parts = subst (λ (ns : List Node). All (λ part. part < length ns) c.args.node.parts.items) (sym (ap (λ (h : Growth). h.nodes) c.self.view_is)) c.requires.parts in
    let first : c.in_ok-classes.classes.items ≡ c.self.inside.classes.items ++ length c.self.inside.nodes.items ∷ [] =
    c.in_ok-classes.ensures ∙ ap (λ (xs : List ℕ). xs ++ c.len-term.result ∷ []) c.deref-2.ensures.value
    ∙ ap (λ n. c.self.inside.classes.items ++ n ∷ []) (let e : c.len-term.result ≡ length c.self.inside.nodes.items = omega (arith, c.len-term.ensures, c.self.inside.nodes.ok.0) in e) in
    let long : length c.settle.new.classes ≡ length c.in_ok-classes.classes.items = omega (arith, c.settle.auto.classes, c.deref_mut.ensures.len, c.in_ok-classes.classes.ok.0) in
    let back = written c.in_ok-classes.classes.len c.settle.new.classes (drop (length c.settle.new.classes) c.in_ok-classes.classes.items) (omega (arith, c.in_ok-classes.classes.ok.0)) in
    let moved = rw (c.deref-5.ensures.value, c.deref-6.ensures.value, back) at c.in-Ok.ensures in
    let sound = rw (c.deref-3.ensures.value, c.in_ok-push.ensures.items, c.deref_mut.ensures.value) at c.settle.ensures.sound in
    let complete = rw (c.deref-3.ensures.value, c.in_ok-push.ensures.items, c.deref_mut.ensures.value) at c.settle.ensures.complete in
    let bounded = rw c.deref_mut.ensures.value at c.settle.ensures.bounded in
    rw (back, c.push_reserved.ensures.items, c.in_ok-push.ensures.items, c.in_ok-reserve.ensures.items)
    (kept_grown c.self.inside.layers.items c.self.inside.nodes.items c.self.inside.merged.items c.self.inside.classes.items c.in_ok-classes.classes.items c.settle.new.classes _ c.args.node c.self.invariant
    few parts first long refl moved sound complete bounded)

pub returns-in-Ok-clause-number : goal.returns-in-Ok-clause-number
returns-in-Ok-clause-number c = rw c.in_ok-push.ensures.items (term_of_new c.self.inside.nodes.items c.args.node c.len-term.result (omega (arith, c.len-term.ensures, c.self.inside.nodes.ok.0)))

pub returns-in-Ok-clause-present : goal.returns-in-Ok-clause-present
returns-in-Ok-clause-present c = λ term t. absurd (c.in_default.ensures term (subst (λ (ns : List Node). IsTermOf ns term c.args.node) (sym (ap (λ (h : Growth). h.nodes) c.self.view_is) ∙ sym c.deref.ensures.value) t))
