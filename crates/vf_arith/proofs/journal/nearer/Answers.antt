use Rattle.std.proofs.Common.{◌≡◌, ◌⊎◌, arith, inl, inr, below_more, ap, sym, ◌∙◌, subst, length, Some}
use Rattle.std.specs.Prelude.{ℤ, pos, Contains}
use mir.Val.{to_z, of_z}
use mir.Syntax.{w128}
use Rattle.std.proofs.lemmas.Int.{ints}
use Rattle.vf_arith.specs.Matrices.{distance, entry, lesser, over_edge}
use Rattle.vf_arith.proofs.journal.nearer.Goals as goal

pub way_over-way-requires-clause-after : goal.way_over-way-requires-clause-after
way_over-way-requires-clause-after c = c.requires.after c.loop-y.y

pub loop-y-preserved : goal.loop-y-preserved
loop-y-preserved c =
    let way = c.way_over-way.ensures in
    let e = c.in_ok-keep_if_shorter.ensures in
    record {
      below = λ y m. elim (e.only y m) [ inl k ↦ c.loop-y.invariant.below y k | inr k ↦ omega (arith, k) ];
      others = below_more (λ j. Contains c.keep_if_shorter.new.ends.items j ⊎ (lesser (distance (length c.args.after.now) c.args.matrix.now c.args.from j) (over_edge (Some (pos 0)) (to_z w128 (of_z w128 c.args.most)) (entry c.args.after.now j)) ≡ distance (length c.args.after.now) c.args.matrix.now c.args.from j)) c.loop-y.y
          (λ j l. elim (c.loop-y.invariant.others j l) [ inl k ↦ inl (e.kept j k) | inr k ↦ inr k ])
          (elim e.looked [
            | inl k ↦ inl k
            | inr k ↦ inr (ap (λ o. lesser (distance (length c.args.after.now) c.args.matrix.now c.args.from c.loop-y.y) o) (sym way) ∙ k)
          ]);
    }

pub returns-clause-others : goal.returns-clause-others
returns-clause-others c =
    let most : to_z w128 (of_z w128 c.args.most) ≡ c.args.most = (let h = c.requires.most.low in let u = c.requires.most.high in omega (arith, ints)) in
    λ y iny. subst (λ (z : ℤ). Contains c.loop-y.ends.items y ⊎ (lesser (distance (length c.args.after.now) c.args.matrix.now c.args.from y) (over_edge (Some (pos 0)) z (entry c.args.after.now y)) ≡ distance (length c.args.after.now) c.args.matrix.now c.args.from y)) most
    (c.loop-y.invariant.others y (omega arith))
