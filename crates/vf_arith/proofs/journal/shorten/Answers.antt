use Rattle.std.proofs.Common.{arith, ap, ◌∙◌, ◌≡◌, ◌*◌, ◌<◌, length, None}
use Rattle.std.proofs.lemmas.Int.{ints}
use mir.Val.{to_z, of_z}
use mir.Syntax.{w128}
use Rattle.std.proofs.lemmas.Nat.{mul-add-lt}
use Rattle.std.specs.Prelude.{slice_index_or, ℤ}
use Rattle.vf_arith.specs.declared.journal.Saved.{Saved}
use Rattle.vf_arith.specs.Matrices.{entry, over_edge}
use Rattle.vf_arith.proofs.Journals.{found_at, put_more, each_more, one_way}
use Rattle.vf_arith.proofs.journal.shorten.Goals as goal

pub bounds-before-s : goal.bounds-before-s
bounds-before-s c = (c.requires.points _ (found_at c.args.saved.now c.loop-s.s-index (record { x = 0; y = 0; distance = None }) (omega arith))).0

pub bounds-after-s : goal.bounds-after-s
bounds-after-s c = let h = (c.requires.points _ (found_at c.args.saved.now c.loop-s.s-index (record { x = 0; y = 0; distance = None }) (omega arith))).1 in omega arith

pub way_over-way-requires-clause-before : goal.way_over-way-requires-clause-before
way_over-way-requires-clause-before c = c.requires.before (slice_index_or c.args.saved.now c.loop-s.s-index (record { x = 0; y = 0; distance = None })).x

pub way_over-way-requires-clause-after : goal.way_over-way-requires-clause-after
way_over-way-requires-clause-after c = c.requires.after (slice_index_or c.args.saved.now c.loop-s.s-index (record { x = 0; y = 0; distance = None })).y

pub bounds-matrix-s : goal.bounds-matrix-s
bounds-matrix-s c = let h = c.requires.points _ (found_at c.args.saved.now c.loop-s.s-index (record { x = 0; y = 0; distance = None }) (omega arith)) in
    let s = slice_index_or c.args.saved.now c.loop-s.s-index (record { x = 0; y = 0; distance = None }) in
    omega (arith, mul-add-lt s.x (length c.args.before.now) s.y (length c.args.before.now) h.0 h.1)

pub loop-s-preserved : goal.loop-s-preserved
loop-s-preserved c =
    let value = λ (s : Saved). over_edge (entry c.args.before.now s.x) (to_z w128 (of_z w128 c.args.most)) (entry c.args.after.now s.y) in
    let d : Saved = record { x = 0; y = 0; distance = None } in
    let long : length c.loop-s.matrix ≡ length c.args.before.now * length c.args.before.now = omega arith in
    let within : c.loop-s.s-index < length c.args.saved.now = omega arith in
    let one = one_way c.args.before.now (to_z w128 (of_z w128 c.args.most)) c.args.after.now in
    record {
      put = put_more (length c.args.before.now) c.loop-s.matrix c.args.matrix.now c.args.saved.now c.loop-s.s-index d value c.way_over-way.result long within c.requires.points (λ s t m n. one s t) c.way_over-way.ensures c.loop-s.invariant.put c.loop-s.invariant.each;
      each = each_more (length c.args.before.now) c.loop-s.matrix c.args.matrix.now c.args.saved.now c.loop-s.s-index d value c.way_over-way.result long within c.requires.points (λ s t m n. one s t) c.way_over-way.ensures c.loop-s.invariant.put c.loop-s.invariant.each;
    }

pub returns-clause-put : goal.returns-clause-put
returns-clause-put c =
    let most : to_z w128 (of_z w128 c.args.most) ≡ c.args.most = (let h = c.requires.most.low in let u = c.requires.most.high in omega (arith, ints)) in
    λ s m. c.loop-s.invariant.put m.0 s (omega (arith, m.1)) m.2 ∙ ap (λ (z : ℤ). over_edge (entry c.args.before.now s.x) z (entry c.args.after.now s.y)) most
