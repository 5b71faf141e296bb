use Rattle.std.proofs.Common.{◌≡◌, ◌<◌, length, drop, ap, sym, ◌∙◌, refl, true, false, arith}
use mir.Val.{to_z, of_z}
use mir.Syntax.{w128}
use Rattle.std.proofs.lemmas.Int.{ints}
use Rattle.std.specs.Prelude.{ℤ, Option, List}
use Rattle.vf_arith.specs.Paths.{Network}
use Rattle.vf_arith.specs.Matrices.{distance}
use Rattle.vf_arith.proofs.Entries.{cycle_more, weight_falls, matrix_cyclic, matrix_closes, matrix_relaxed, at_entry, column_small, rows_small, written}
use Rattle.vf_arith.proofs.Histories.{matrix_of, within, kept_bound, nothing_saved, saved_shortened, entries_shortened}
use Rattle.vf_arith.proofs.bounds.Bounds.add.Goals as goal

pub invariant_of-self-then-self : goal.invariant_of-self-then-self
invariant_of-self-then-self c =
    let s : c.args.edge.from < c.self.inside.size = omega (arith, c.requires.from, ap (λ (a : Network). a.size) c.self.view_is) in
    let t : c.args.edge.to < c.self.inside.size = omega (arith, c.requires.to, ap (λ (a : Network). a.size) c.self.view_is) in
    let r = (within c.self.inside.size c.self.inside.width c.self.inside.edges.items c.self.inside.cyclic c.self.inside.matrix.items c.self.inside.layers.items c.self.invariant).0 in
    let sw : c.args.edge.from < c.self.inside.width = omega (arith, s, r) in
    let tw : c.args.edge.to < c.self.inside.width = omega (arith, t, r) in
    let is = matrix_of c.self.inside.size c.self.inside.width c.self.inside.edges.items c.self.inside.cyclic c.self.inside.matrix.items c.self.inside.layers.items c.self.invariant in
    rw (c.push_reserved.ensures.items, c.push_reserved-then-self.ensures.items, c.in_ok-reserve.ensures.items, c.in_ok-reserve-2.ensures.items)
    (kept_bound c.self.inside.size c.self.inside.width c.self.inside.edges.items c.self.inside.cyclic c.self.inside.cyclic c.self.inside.matrix.items c.self.inside.matrix.items c.self.inside.layers.items _ c.args.edge c.self.invariant s t refl (sym c.if-self.true)
    (nothing_saved c.self.inside.width c.new.result.items (distance c.self.inside.width c.self.inside.matrix.items) c.new.ensures.items)
    (matrix_cyclic c.self.inside.width c.self.inside.edges.items c.self.inside.cyclic c.self.inside.matrix.items c.args.edge is c.if-self.true c.requires.small sw tw))

pub index-requires : goal.index-requires
index-requires c =
    let s : c.args.edge.from < c.self.inside.size = omega (arith, c.requires.from, ap (λ (a : Network). a.size) c.self.view_is) in
    let t : c.args.edge.to < c.self.inside.size = omega (arith, c.requires.to, ap (λ (a : Network). a.size) c.self.view_is) in
    let r = (within c.self.inside.size c.self.inside.width c.self.inside.edges.items c.self.inside.cyclic c.self.inside.matrix.items c.self.inside.layers.items c.self.invariant).0 in
    let sw : c.args.edge.from < c.self.inside.width = omega (arith, s, r) in
    let tw : c.args.edge.to < c.self.inside.width = omega (arith, t, r) in
    let is = matrix_of c.self.inside.size c.self.inside.width c.self.inside.edges.items c.self.inside.cyclic c.self.inside.matrix.items c.self.inside.layers.items c.self.invariant in
    omega (arith, tw, c.in_ok-before.ensures.0, c.in_ok-before.before.ok.0)

pub closes_below-requires-clause-back : goal.closes_below-requires-clause-back
closes_below-requires-clause-back c =
    let s : c.args.edge.from < c.self.inside.size = omega (arith, c.requires.from, ap (λ (a : Network). a.size) c.self.view_is) in
    let t : c.args.edge.to < c.self.inside.size = omega (arith, c.requires.to, ap (λ (a : Network). a.size) c.self.view_is) in
    let r = (within c.self.inside.size c.self.inside.width c.self.inside.edges.items c.self.inside.cyclic c.self.inside.matrix.items c.self.inside.layers.items c.self.invariant).0 in
    let sw : c.args.edge.from < c.self.inside.width = omega (arith, s, r) in
    let tw : c.args.edge.to < c.self.inside.width = omega (arith, t, r) in
    let is = matrix_of c.self.inside.size c.self.inside.width c.self.inside.edges.items c.self.inside.cyclic c.self.inside.matrix.items c.self.inside.layers.items c.self.invariant in
    λ v h. column_small c.self.inside.width c.self.inside.edges.items c.self.inside.cyclic c.self.inside.matrix.items c.deref.result.now c.in_ok-before.before.items c.args.edge.from is c.if-self.false c.deref.ensures.value sw c.in_ok-before.ensures c.args.edge.to v
    (at_entry c.in_ok-before.before.items c.args.edge.to c.index.result.now (omega (arith, tw, c.in_ok-before.ensures.0)) c.index.ensures ∙ h)

pub invariant_of-self-then-closes_below : goal.invariant_of-self-then-closes_below
invariant_of-self-then-closes_below c =
    let s : c.args.edge.from < c.self.inside.size = omega (arith, c.requires.from, ap (λ (a : Network). a.size) c.self.view_is) in
    let t : c.args.edge.to < c.self.inside.size = omega (arith, c.requires.to, ap (λ (a : Network). a.size) c.self.view_is) in
    let r = (within c.self.inside.size c.self.inside.width c.self.inside.edges.items c.self.inside.cyclic c.self.inside.matrix.items c.self.inside.layers.items c.self.invariant).0 in
    let sw : c.args.edge.from < c.self.inside.width = omega (arith, s, r) in
    let tw : c.args.edge.to < c.self.inside.width = omega (arith, t, r) in
    let is = matrix_of c.self.inside.size c.self.inside.width c.self.inside.edges.items c.self.inside.cyclic c.self.inside.matrix.items c.self.inside.layers.items c.self.invariant in
    let k = c.if-closes_below.ensures.0 refl in
    rw (c.push_reserved-then-closes_below.ensures.items, c.push_reserved-then-closes_below-2.ensures.items, c.in_ok-reserve.ensures.items, c.in_ok-reserve-2.ensures.items)
    (kept_bound c.self.inside.size c.self.inside.width c.self.inside.edges.items c.self.inside.cyclic true c.self.inside.matrix.items c.self.inside.matrix.items c.self.inside.layers.items _ c.args.edge c.self.invariant s t refl (sym c.if-self.false)
    (nothing_saved c.self.inside.width c.new-then-closes_below.result.items (distance c.self.inside.width c.self.inside.matrix.items) c.new-then-closes_below.ensures.items)
    (matrix_closes c.self.inside.width c.self.inside.edges.items c.self.inside.cyclic c.self.inside.matrix.items c.args.edge k.0 is c.if-self.false c.requires.small sw tw
    (ap (λ (l : List (Option ℤ)). distance c.self.inside.width l c.args.edge.to c.args.edge.from) (sym c.deref.ensures.value) ∙ sym (c.in_ok-before.ensures.1 c.args.edge.to tw)
    ∙ at_entry c.in_ok-before.before.items c.args.edge.to c.index.result.now (omega (arith, tw, c.in_ok-before.ensures.0)) c.index.ensures ∙ k.1)
    (let h = c.requires.small.low in let u = c.requires.small.high in omega (arith, ints, k.2))))

pub shortened-requires-clause-before : goal.shortened-requires-clause-before
shortened-requires-clause-before c =
    let s : c.args.edge.from < c.self.inside.size = omega (arith, c.requires.from, ap (λ (a : Network). a.size) c.self.view_is) in
    let t : c.args.edge.to < c.self.inside.size = omega (arith, c.requires.to, ap (λ (a : Network). a.size) c.self.view_is) in
    let r = (within c.self.inside.size c.self.inside.width c.self.inside.edges.items c.self.inside.cyclic c.self.inside.matrix.items c.self.inside.layers.items c.self.invariant).0 in
    let sw : c.args.edge.from < c.self.inside.width = omega (arith, s, r) in
    let tw : c.args.edge.to < c.self.inside.width = omega (arith, t, r) in
    let is = matrix_of c.self.inside.size c.self.inside.width c.self.inside.edges.items c.self.inside.cyclic c.self.inside.matrix.items c.self.inside.layers.items c.self.invariant in
    rw c.deref-4.ensures.value
    (column_small c.self.inside.width c.self.inside.edges.items c.self.inside.cyclic c.self.inside.matrix.items c.deref.result.now c.in_ok-before.before.items c.args.edge.from is c.if-self.false c.deref.ensures.value sw c.in_ok-before.ensures)

pub shortened-requires-clause-after : goal.shortened-requires-clause-after
shortened-requires-clause-after c =
    let s : c.args.edge.from < c.self.inside.size = omega (arith, c.requires.from, ap (λ (a : Network). a.size) c.self.view_is) in
    let t : c.args.edge.to < c.self.inside.size = omega (arith, c.requires.to, ap (λ (a : Network). a.size) c.self.view_is) in
    let r = (within c.self.inside.size c.self.inside.width c.self.inside.edges.items c.self.inside.cyclic c.self.inside.matrix.items c.self.inside.layers.items c.self.invariant).0 in
    let sw : c.args.edge.from < c.self.inside.width = omega (arith, s, r) in
    let tw : c.args.edge.to < c.self.inside.width = omega (arith, t, r) in
    let is = matrix_of c.self.inside.size c.self.inside.width c.self.inside.edges.items c.self.inside.cyclic c.self.inside.matrix.items c.self.inside.layers.items c.self.invariant in
    rw c.deref-5.ensures.value
    (rows_small c.self.inside.width c.self.inside.edges.items c.self.inside.cyclic c.self.inside.matrix.items c.deref-2.result.now c.in_ok-after.after.items c.args.edge.to is c.if-self.false c.deref-2.ensures.value tw c.in_ok-after.ensures)

pub shortened-requires-clause-triangles : goal.shortened-requires-clause-triangles
shortened-requires-clause-triangles c =
    let is = matrix_of c.self.inside.size c.self.inside.width c.self.inside.edges.items c.self.inside.cyclic c.self.inside.matrix.items c.self.inside.layers.items c.self.invariant in
    rw (c.deref-3.ensures.value, c.deref-4.ensures.value, c.in_ok-before.ensures.0) ((is.exact c.if-self.false).triangle)

pub shortened-requires-clause-start : goal.shortened-requires-clause-start
shortened-requires-clause-start c =
    let s : c.args.edge.from < c.self.inside.size = omega (arith, c.requires.from, ap (λ (a : Network). a.size) c.self.view_is) in
    let r = (within c.self.inside.size c.self.inside.width c.self.inside.edges.items c.self.inside.cyclic c.self.inside.matrix.items c.self.inside.layers.items c.self.invariant).0 in
    rw (c.deref-4.ensures.value, c.in_ok-before.ensures.0) (omega (arith, s, r))

pub shortened-requires-clause-end : goal.shortened-requires-clause-end
shortened-requires-clause-end c =
    let t : c.args.edge.to < c.self.inside.size = omega (arith, c.requires.to, ap (λ (a : Network). a.size) c.self.view_is) in
    let r = (within c.self.inside.size c.self.inside.width c.self.inside.edges.items c.self.inside.cyclic c.self.inside.matrix.items c.self.inside.layers.items c.self.invariant).0 in
    rw (c.deref-4.ensures.value, c.in_ok-before.ensures.0) (omega (arith, t, r))

pub shorten-requires-clause-before : goal.shorten-requires-clause-before
shorten-requires-clause-before c =
    let s : c.args.edge.from < c.self.inside.size = omega (arith, c.requires.from, ap (λ (a : Network). a.size) c.self.view_is) in
    let t : c.args.edge.to < c.self.inside.size = omega (arith, c.requires.to, ap (λ (a : Network). a.size) c.self.view_is) in
    let r = (within c.self.inside.size c.self.inside.width c.self.inside.edges.items c.self.inside.cyclic c.self.inside.matrix.items c.self.inside.layers.items c.self.invariant).0 in
    let sw : c.args.edge.from < c.self.inside.width = omega (arith, s, r) in
    let tw : c.args.edge.to < c.self.inside.width = omega (arith, t, r) in
    let is = matrix_of c.self.inside.size c.self.inside.width c.self.inside.edges.items c.self.inside.cyclic c.self.inside.matrix.items c.self.inside.layers.items c.self.invariant in
    rw c.deref-7.ensures.value
    (column_small c.self.inside.width c.self.inside.edges.items c.self.inside.cyclic c.self.inside.matrix.items c.deref.result.now c.in_ok-before.before.items c.args.edge.from is c.if-self.false c.deref.ensures.value sw c.in_ok-before.ensures)

pub shorten-requires-clause-after : goal.shorten-requires-clause-after
shorten-requires-clause-after c =
    let s : c.args.edge.from < c.self.inside.size = omega (arith, c.requires.from, ap (λ (a : Network). a.size) c.self.view_is) in
    let t : c.args.edge.to < c.self.inside.size = omega (arith, c.requires.to, ap (λ (a : Network). a.size) c.self.view_is) in
    let r = (within c.self.inside.size c.self.inside.width c.self.inside.edges.items c.self.inside.cyclic c.self.inside.matrix.items c.self.inside.layers.items c.self.invariant).0 in
    let sw : c.args.edge.from < c.self.inside.width = omega (arith, s, r) in
    let tw : c.args.edge.to < c.self.inside.width = omega (arith, t, r) in
    let is = matrix_of c.self.inside.size c.self.inside.width c.self.inside.edges.items c.self.inside.cyclic c.self.inside.matrix.items c.self.inside.layers.items c.self.invariant in
    rw c.deref-8.ensures.value
    (rows_small c.self.inside.width c.self.inside.edges.items c.self.inside.cyclic c.self.inside.matrix.items c.deref-2.result.now c.in_ok-after.after.items c.args.edge.to is c.if-self.false c.deref-2.ensures.value tw c.in_ok-after.ensures)

pub shorten-requires-clause-points : goal.shorten-requires-clause-points
shorten-requires-clause-points c =
    let only = rw c.deref-4.ensures.value at c.in_ok-saved.ensures.only in
    rw (c.deref-6.ensures.value, c.deref-7.ensures.value) (λ s m. let o = only s m in (o.left, o.right))

pub invariant_of-self-2 : goal.invariant_of-self-2
invariant_of-self-2 c =
    let s : c.args.edge.from < c.self.inside.size = omega (arith, c.requires.from, ap (λ (a : Network). a.size) c.self.view_is) in
    let t : c.args.edge.to < c.self.inside.size = omega (arith, c.requires.to, ap (λ (a : Network). a.size) c.self.view_is) in
    let r = (within c.self.inside.size c.self.inside.width c.self.inside.edges.items c.self.inside.cyclic c.self.inside.matrix.items c.self.inside.layers.items c.self.invariant).0 in
    let sw : c.args.edge.from < c.self.inside.width = omega (arith, s, r) in
    let tw : c.args.edge.to < c.self.inside.width = omega (arith, t, r) in
    let is = matrix_of c.self.inside.size c.self.inside.width c.self.inside.edges.items c.self.inside.cyclic c.self.inside.matrix.items c.self.inside.layers.items c.self.invariant in
    let long : length c.shorten.new.matrix ≡ length c.self.inside.matrix.items = omega (arith, c.shorten.auto.matrix, c.deref_mut.ensures.len, c.self.inside.matrix.ok.0) in
    let back = written c.self.inside.matrix.len c.shorten.new.matrix (drop (length c.shorten.new.matrix) c.self.inside.matrix.items) (omega (arith, c.self.inside.matrix.ok.0, long)) in
    let only = rw (c.deref-3.ensures.value, c.deref-4.ensures.value, c.deref-5.ensures.value, c.in_ok-before.ensures.0) at c.in_ok-saved.ensures.only in
    let looked = rw (c.deref-3.ensures.value, c.deref-4.ensures.value, c.deref-5.ensures.value, c.in_ok-before.ensures.0) at c.in_ok-saved.ensures.looked in
    let put = rw (c.deref-6.ensures.value, c.deref-7.ensures.value, c.deref-8.ensures.value, c.in_ok-before.ensures.0) at c.shorten.ensures.put in
    let each = rw (c.deref_mut.ensures.value, c.deref-6.ensures.value, c.deref-7.ensures.value, c.in_ok-before.ensures.0) at c.shorten.ensures.each in
    let entries = entries_shortened c.self.inside.width c.self.inside.matrix.items c.shorten.new.matrix c.in_ok-before.before.items c.in_ok-after.after.items (to_z w128 (of_z w128 c.args.edge.most)) c.in_ok-saved.saved.items only looked put each in
    rw (back, c.push_reserved-2.ensures.items, c.push_reserved-3.ensures.items, c.in_ok-reserve.ensures.items, c.in_ok-reserve-2.ensures.items)
    (kept_bound c.self.inside.size c.self.inside.width c.self.inside.edges.items c.self.inside.cyclic c.self.inside.cyclic c.self.inside.matrix.items c.shorten.new.matrix c.self.inside.layers.items _ c.args.edge c.self.invariant s t refl (sym c.if-self.false)
    (saved_shortened c.self.inside.width c.self.inside.matrix.items c.shorten.new.matrix c.in_ok-before.before.items c.in_ok-after.after.items (to_z w128 (of_z w128 c.args.edge.most)) c.in_ok-saved.saved.items only each)
    (matrix_relaxed c.self.inside.width c.self.inside.edges.items c.self.inside.cyclic c.self.inside.matrix.items c.shorten.new.matrix c.args.edge c.in_ok-after.after.items c.in_ok-before.before.items (to_z w128 (of_z w128 c.args.edge.most))
    (let l = c.requires.small.low in let u = c.requires.small.high in omega (arith, ints)) is c.if-self.false c.requires.small sw tw
    (λ q h b. let l = c.requires.small.low in let u = c.requires.small.high in
    let e : false ≡ true = c.if-closes_below.ensures.1 (
      q,
      sym (at_entry c.in_ok-before.before.items c.args.edge.to c.index.result.now (omega (arith, tw, c.in_ok-before.ensures.0)) c.index.ensures)
          ∙ c.in_ok-before.ensures.1 c.args.edge.to tw ∙ ap (λ (m : List (Option ℤ)). distance c.self.inside.width m c.args.edge.to c.args.edge.from) c.deref.ensures.value ∙ h,
      omega (arith, ints),
    ) in cc)
    long
    (λ k l. c.in_ok-before.ensures.1 k l ∙ ap (λ (m : List (Option ℤ)). distance c.self.inside.width m k c.args.edge.from) c.deref.ensures.value)
    (λ k l. c.in_ok-after.ensures.1 k l ∙ ap (λ (m : List (Option ℤ)). distance c.self.inside.width m c.args.edge.to k) c.deref-2.ensures.value)
    entries))

pub returns-then-self-clause-weight : goal.returns-then-self-clause-weight
returns-then-self-clause-weight c =
    let is = matrix_of c.self.inside.size c.self.inside.width c.self.inside.edges.items c.self.inside.cyclic c.self.inside.matrix.items c.self.inside.layers.items c.self.invariant in
    λ fine below without_edges. absurd (fine (rw (c.push_reserved.ensures.items, c.in_ok-reserve.ensures.items) (cycle_more c.self.inside.edges.items c.args.edge (is.bad c.if-self.true))))

pub returns-then-closes_below-clause-weight : goal.returns-then-closes_below-clause-weight
returns-then-closes_below-clause-weight c =
    let s : c.args.edge.from < c.self.inside.size = omega (arith, c.requires.from, ap (λ (a : Network). a.size) c.self.view_is) in
    let t : c.args.edge.to < c.self.inside.size = omega (arith, c.requires.to, ap (λ (a : Network). a.size) c.self.view_is) in
    let r = (within c.self.inside.size c.self.inside.width c.self.inside.edges.items c.self.inside.cyclic c.self.inside.matrix.items c.self.inside.layers.items c.self.invariant).0 in
    let sw : c.args.edge.from < c.self.inside.width = omega (arith, s, r) in
    let tw : c.args.edge.to < c.self.inside.width = omega (arith, t, r) in
    let is = matrix_of c.self.inside.size c.self.inside.width c.self.inside.edges.items c.self.inside.cyclic c.self.inside.matrix.items c.self.inside.layers.items c.self.invariant in
    let k = c.if-closes_below.ensures.0 refl in
    λ fine below without_edges. absurd (fine (rw (c.push_reserved-then-closes_below.ensures.items, c.in_ok-reserve.ensures.items)
    ((matrix_closes c.self.inside.width c.self.inside.edges.items c.self.inside.cyclic c.self.inside.matrix.items c.args.edge k.0 is c.if-self.false c.requires.small sw tw
    (ap (λ (l : List (Option ℤ)). distance c.self.inside.width l c.args.edge.to c.args.edge.from) (sym c.deref.ensures.value) ∙ sym (c.in_ok-before.ensures.1 c.args.edge.to tw)
    ∙ at_entry c.in_ok-before.before.items c.args.edge.to c.index.result.now (omega (arith, tw, c.in_ok-before.ensures.0)) c.index.ensures ∙ k.1)
    (let h = c.requires.small.low in let u = c.requires.small.high in omega (arith, ints, k.2))).bad refl)))

pub returns-clause-weight : goal.returns-clause-weight
returns-clause-weight c =
    let s : c.args.edge.from < c.self.inside.size = omega (arith, c.requires.from, ap (λ (a : Network). a.size) c.self.view_is) in
    let t : c.args.edge.to < c.self.inside.size = omega (arith, c.requires.to, ap (λ (a : Network). a.size) c.self.view_is) in
    let r = (within c.self.inside.size c.self.inside.width c.self.inside.edges.items c.self.inside.cyclic c.self.inside.matrix.items c.self.inside.layers.items c.self.invariant).0 in
    let sw : c.args.edge.from < c.self.inside.width = omega (arith, s, r) in
    let tw : c.args.edge.to < c.self.inside.width = omega (arith, t, r) in
    let is = matrix_of c.self.inside.size c.self.inside.width c.self.inside.edges.items c.self.inside.cyclic c.self.inside.matrix.items c.self.inside.layers.items c.self.invariant in
    let long : length c.shorten.new.matrix ≡ length c.self.inside.matrix.items = omega (arith, c.shorten.auto.matrix, c.deref_mut.ensures.len, c.self.inside.matrix.ok.0) in
    let back = written c.self.inside.matrix.len c.shorten.new.matrix (drop (length c.shorten.new.matrix) c.self.inside.matrix.items) (omega (arith, c.self.inside.matrix.ok.0, long)) in
    let only = rw (c.deref-3.ensures.value, c.deref-4.ensures.value, c.deref-5.ensures.value, c.in_ok-before.ensures.0) at c.in_ok-saved.ensures.only in
    let looked = rw (c.deref-3.ensures.value, c.deref-4.ensures.value, c.deref-5.ensures.value, c.in_ok-before.ensures.0) at c.in_ok-saved.ensures.looked in
    let put = rw (c.deref-6.ensures.value, c.deref-7.ensures.value, c.deref-8.ensures.value, c.in_ok-before.ensures.0) at c.shorten.ensures.put in
    let each = rw (c.deref_mut.ensures.value, c.deref-6.ensures.value, c.deref-7.ensures.value, c.in_ok-before.ensures.0) at c.shorten.ensures.each in
    let entries = entries_shortened c.self.inside.width c.self.inside.matrix.items c.shorten.new.matrix c.in_ok-before.before.items c.in_ok-after.after.items (to_z w128 (of_z w128 c.args.edge.most)) c.in_ok-saved.saved.items only looked put each in
    λ fine below without_edges. rw (back, ← ap (λ (a : Network). a.weight) c.self.view_is)
    (weight_falls c.self.inside.width c.self.inside.edges.items c.self.inside.cyclic c.self.inside.matrix.items c.shorten.new.matrix c.args.edge is c.if-self.false
    (matrix_relaxed c.self.inside.width c.self.inside.edges.items c.self.inside.cyclic c.self.inside.matrix.items c.shorten.new.matrix c.args.edge c.in_ok-after.after.items c.in_ok-before.before.items (to_z w128 (of_z w128 c.args.edge.most))
    (let l = c.requires.small.low in let u = c.requires.small.high in omega (arith, ints)) is c.if-self.false c.requires.small sw tw
    (λ q h b. let l = c.requires.small.low in let u = c.requires.small.high in
    let e : false ≡ true = c.if-closes_below.ensures.1 (
      q,
      sym (at_entry c.in_ok-before.before.items c.args.edge.to c.index.result.now (omega (arith, tw, c.in_ok-before.ensures.0)) c.index.ensures)
          ∙ c.in_ok-before.ensures.1 c.args.edge.to tw ∙ ap (λ (m : List (Option ℤ)). distance c.self.inside.width m c.args.edge.to c.args.edge.from) c.deref.ensures.value ∙ h,
      omega (arith, ints),
    ) in cc)
    long
    (λ k l. c.in_ok-before.ensures.1 k l ∙ ap (λ (m : List (Option ℤ)). distance c.self.inside.width m k c.args.edge.from) c.deref.ensures.value)
    (λ k l. c.in_ok-after.ensures.1 k l ∙ ap (λ (m : List (Option ℤ)). distance c.self.inside.width m c.args.edge.to k) c.deref-2.ensures.value)
    entries)
    (λ x y i j. (_, entries x y i j))
    (let h = c.requires.small.low in let u = c.requires.small.high in omega (arith, ints, below))
    (rw (← ap (λ (a : Network). a.edges) c.self.view_is) at without_edges))
