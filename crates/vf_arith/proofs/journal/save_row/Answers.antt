use Rattle.std.proofs.Common.{◌≡◌, ℕ, ◌<◌, ◌⊎◌, arith, inl, inr, below_more, ap, sym, ◌∙◌, subst, length}
use Rattle.std.specs.Prelude.{ℤ, slice_index}
use mir.Val.{to_z, of_z}
use mir.Syntax.{w128}
use Rattle.std.proofs.lemmas.Int.{ints}
use Rattle.std.proofs.lemmas.Nat.{mul-add-lt}
use Rattle.std.proofs.lemmas.List.{get_or_default}
use Rattle.vf_arith.specs.Matrices.{distance, entry, lesser, over_edge}
use Rattle.vf_arith.specs.Histories.{IsSaved}
use Rattle.vf_arith.proofs.Journals.{is_shortened, saved_more, number_at}
use Rattle.vf_arith.proofs.journal.save_row.Goals as goal

pub bounds-after-y : goal.bounds-after-y
bounds-after-y c = let h = c.requires.ends _ (number_at c.args.ends.now c.loop-y.y-index 0 (omega arith)) in omega arith

pub way_over-way-requires-clause-before : goal.way_over-way-requires-clause-before
way_over-way-requires-clause-before c = c.requires.before c.args.x

pub way_over-way-requires-clause-after : goal.way_over-way-requires-clause-after
way_over-way-requires-clause-after c = c.requires.after (slice_index c.args.ends.now c.loop-y.y-index)

pub bounds-matrix-x : goal.bounds-matrix-x
bounds-matrix-x c = let h = c.requires.ends _ (number_at c.args.ends.now c.loop-y.y-index 0 (omega arith)) in
    omega (arith, mul-add-lt c.args.x (length c.args.before.now) (slice_index c.args.ends.now c.loop-y.y-index) (length c.args.before.now) c.requires.point h)

pub loop-y-preserved : goal.loop-y-preserved
loop-y-preserved c =
    let way = c.way_over-way.ensures in
    let e = c.in_ok-save_if_longer.ensures in
    let at : slice_index c.args.ends.now c.loop-y.y-index < length c.args.before.now = c.requires.ends _ (number_at c.args.ends.now c.loop-y.y-index 0 (omega arith)) in
    record {
      kept = λ s m. e.kept s (c.loop-y.invariant.kept s m);
      only = λ s m. elim (e.only s m) [
        | inl k ↦ c.loop-y.invariant.only s k
        | inr k ↦ inr (is_shortened c.args.matrix.now c.args.before.now (to_z w128 (of_z w128 c.args.most)) c.args.after.now c.args.x (slice_index c.args.ends.now c.loop-y.y-index) c.way_over-way.result s c.requires.point at way k.0 k.1 k.2 k.3)
      ];
      looked = below_more (λ k. IsSaved c.save_if_longer.new.saved.items c.args.x (slice_index c.args.ends.now k)
          ⊎ (lesser (distance (length c.args.before.now) c.args.matrix.now c.args.x (slice_index c.args.ends.now k)) (over_edge (entry c.args.before.now c.args.x) (to_z w128 (of_z w128 c.args.most)) (entry c.args.after.now (slice_index c.args.ends.now k))) ≡ distance (length c.args.before.now) c.args.matrix.now c.args.x (slice_index c.args.ends.now k))) c.loop-y.y-index
          (λ k l. elim (c.loop-y.invariant.looked k l) [
            | inl j ↦ inl (saved_more c.loop-y.saved.items c.save_if_longer.new.saved.items c.args.x (slice_index c.args.ends.now k) e.kept j)
            | inr j ↦ inr j
          ])
          (elim e.looked [
            | inl k ↦ inl k
            | inr k ↦ inr (ap (λ o. lesser (distance (length c.args.before.now) c.args.matrix.now c.args.x (slice_index c.args.ends.now c.loop-y.y-index)) o) (sym way) ∙ k)
          ]);
    }

pub returns-clause-looked : goal.returns-clause-looked
returns-clause-looked c =
    let most : to_z w128 (of_z w128 c.args.most) ≡ c.args.most = (let h = c.requires.most.low in let u = c.requires.most.high in omega (arith, ints)) in
    λ y m. subst (λ (z : ℤ). IsSaved c.loop-y.saved.items c.args.x y ⊎ (lesser (distance (length c.args.before.now) c.args.matrix.now c.args.x y) (over_edge (entry c.args.before.now c.args.x) z (entry c.args.after.now y)) ≡ distance (length c.args.before.now) c.args.matrix.now c.args.x y)) most
    (subst (λ (j : ℕ). IsSaved c.loop-y.saved.items c.args.x j ⊎ (lesser (distance (length c.args.before.now) c.args.matrix.now c.args.x j) (over_edge (entry c.args.before.now c.args.x) (to_z w128 (of_z w128 c.args.most)) (entry c.args.after.now j)) ≡ distance (length c.args.before.now) c.args.matrix.now c.args.x j))
    (get_or_default c.args.ends.now m.0 0 y m.1 ∙ m.2)
    (c.loop-y.invariant.looked m.0 (let l = m.1 in omega arith)))
