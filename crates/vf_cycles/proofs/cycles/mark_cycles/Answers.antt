use Rattle.std.proofs.Common.{◌≡◌, ◌<◌, ◌+◌, ◌-◌, ◌++◌, ℕ, [], length, reverse, take, drop, refl, sym, subst, ◌∙◌, arith}
use Rattle.std.specs.Prelude.{Contains, slice_index}
use Rattle.std.proofs.lemmas.List.Elements.{Contains-get_or}
use Rattle.vf_cycles.specs.Walks.{IsRanked, IsWalk, IsMarkedFrom}
use Rattle.vf_cycles.proofs.Components.{ranked_next, next_covered, next_loops, next_sound, next_complete}
use Rattle.vf_cycles.proofs.cycles.mark_cycles.Goals as goal

pub mark_from-requires-clause-within : goal.mark_from-requires-clause-within
mark_from-requires-clause-within c =
    let inv = c.loop-at.invariant in
    let within : c.loop-at.at - 1 < length c.args.order.now = let i = inv.within in omega arith in
    subst (λ n. slice_index c.args.order.now (c.loop-at.at - 1) < n) (sym inv.nodes)
    (c.requires.order.nodes (slice_index c.args.order.now (c.loop-at.at - 1)) (Contains-get_or c.args.order.now (c.loop-at.at - 1) 0 within))

pub loop-at-preserved : goal.loop-at-preserved
loop-at-preserved c =
    let s = c.args.sources.now in
    let t = c.args.targets.now in
    let order = c.args.order.now in
    let g = c.in_ok-graph.graph in
    let inv = c.loop-at.invariant in
    let e = c.in_ok-mark_from.ensures in
    let w = c.loop-at.walk in
    let v = c.mark_from.new.walk in
    let at = c.loop-at.at - 1 in
    let next : c.loop-at.at ≡ at + 1 = omega arith in
    let within : at < length order = let i = inv.within in omega arith in
    let root = slice_index order at in
    let gs = c.in_ok-graph.ensures.sources in
    let gt = c.in_ok-graph.ensures.targets in
    let m : IsMarkedFrom t s root w.finished.items v.finished.items c.loop-at.marks.items c.mark_from.new.marks.items =
    subst (λ a. IsMarkedFrom a s root w.finished.items v.finished.items c.loop-at.marks.items c.mark_from.new.marks.items) gs
    (subst (λ b. IsMarkedFrom g.sources.items b root w.finished.items v.finished.items c.loop-at.marks.items c.mark_from.new.marks.items) gt e.marked) in
    let old : IsWalk t s [] w.finished.items w.seen.items w.left.items =
    subst (λ a. IsWalk a s [] w.finished.items w.seen.items w.left.items) gs
    (subst (λ b. IsWalk g.sources.items b [] w.finished.items w.seen.items w.left.items) gt inv.walk) in
    let new : IsWalk t s [] (w.finished.items ++ m.more) v.seen.items v.left.items =
    subst (λ f. IsWalk t s [] f v.seen.items v.left.items) m.parts
    (subst (λ a. IsWalk a s [] v.finished.items v.seen.items v.left.items) gs
    (subst (λ b. IsWalk g.sources.items b [] v.finished.items v.seen.items v.left.items) gt e.walk)) in
    let nodes : length v.seen.items ≡ c.args.count = e.nodes ∙ inv.nodes in
    let covered = subst (λ n. (u : ℕ) → Contains (drop n order) u → Contains w.finished.items u) next inv.covered in
    let ranked = subst (λ n. IsRanked s t (drop n order) (reverse (take n order))) next inv.ranked in
    let marking : IsMarkedFrom t s root w.finished.items (w.finished.items ++ m.more) c.loop-at.marks.items c.mark_from.new.marks.items =
    record { more = m.more; parts = refl; rooted = subst (λ l. Contains l root) m.parts m.rooted; first = m.first; each = m.each; nodes = m.nodes; kept = m.kept; marked = m.marked; all = m.all } in
    record {
      within = omega arith;
      walk = e.walk;
      opened = e.opened;
      nodes = nodes;
      covered = λ u h. subst (λ l. Contains l u) (sym m.parts)
          (next_covered c.args.count s t order at root w.finished.items m.more w.seen.items v.seen.items w.left.items v.left.items c.requires.edges.pairs c.requires.order within refl old new nodes m.each covered ranked
          c.loop-at.marks.items c.mark_from.new.marks.items marking refl inv.loops inv.sound inv.complete u h);
      ranked = ranked_next c.args.count s t order at root w.finished.items m.more w.seen.items v.seen.items w.left.items v.left.items c.requires.edges.pairs c.requires.order within refl old new nodes m.each covered ranked;
      long = m.nodes ∙ inv.long;
      loops = next_loops c.args.count s t order at root w.finished.items m.more w.seen.items v.seen.items w.left.items v.left.items c.requires.edges.pairs c.requires.order within refl old new nodes m.each covered ranked
          c.loop-at.marks.items c.mark_from.new.marks.items marking refl inv.loops inv.sound inv.complete;
      sound = next_sound c.args.count s t order at root w.finished.items m.more w.seen.items v.seen.items w.left.items v.left.items c.requires.edges.pairs c.requires.order within refl old new nodes m.each covered ranked
          c.loop-at.marks.items c.mark_from.new.marks.items marking refl inv.loops inv.sound inv.complete;
      complete = λ u h. next_complete c.args.count s t order at root w.finished.items m.more w.seen.items v.seen.items w.left.items v.left.items c.requires.edges.pairs c.requires.order within refl old new nodes m.each covered ranked
          c.loop-at.marks.items c.mark_from.new.marks.items marking refl inv.loops inv.sound inv.complete u (subst (λ l. Contains l u) m.parts h);
    }

pub returns : goal.returns
returns c =
    let inv = c.loop-at.invariant in
    let zero_ : c.loop-at.at ≡ 0 = let end = c.loop-at-test.false in omega arith in
    record {
      nodes = inv.long;
      reach = inv.sound;
      each = λ u b r. inv.complete u (inv.covered u (subst (λ n. Contains (drop n c.args.order.now) u) (sym zero_) (c.requires.order.each u b))) r;
    }
