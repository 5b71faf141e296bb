use Rattle.std.proofs.Common.{◌≡◌, ◌⊎◌, arith, subst, inl, inr, below_more, length, Some}
use Rattle.std.specs.Prelude.{ℤ, pos}
use mir.Val.{to_z, of_z}
use mir.Syntax.{w128}
use Rattle.std.proofs.lemmas.Int.{ints}
use Rattle.vf_arith.specs.Matrices.{distance, entry, lesser, over_edge}
use Rattle.vf_arith.specs.Histories.{IsSaved, IsShortened}
use Rattle.vf_arith.proofs.Journals.{saved_more, no_shorter_end}
use Rattle.vf_arith.proofs.journal.shortened.Goals as goal

pub save_row_if_shorter-requires-clause-others : goal.save_row_if_shorter-requires-clause-others
save_row_if_shorter-requires-clause-others c = λ y iny. elim (c.in_ok-ends.ensures.others y (omega arith)) [
  | inl k ↦ inl (rw c.deref.ensures.value k)
  | inr e ↦ inr (no_shorter_end (length c.args.before.now) (distance (length c.args.before.now) c.args.matrix.now) (entry c.args.before.now c.loop-x.x) (to_z w128 (of_z w128 c.args.most)) c.loop-x.x c.args.from y (entry c.args.after.now y)
      c.requires.triangles (omega arith) c.requires.start iny (c.requires.to_start c.loop-x.x (omega arith))
      (subst (λ n. lesser (distance n c.args.matrix.now c.args.from y) (over_edge (Some (pos 0)) (to_z w128 (of_z w128 c.args.most)) (entry c.args.after.now y)) ≡ distance n c.args.matrix.now c.args.from y) c.requires.same e))
]

pub save_row_if_shorter-requires-clause-ends : goal.save_row_if_shorter-requires-clause-ends
save_row_if_shorter-requires-clause-ends c = rw c.deref.ensures.value (λ y m. let l = c.in_ok-ends.ensures.below y m in omega arith)

pub loop-x-preserved : goal.loop-x-preserved
loop-x-preserved c =
    let e = c.in_ok-save_row_if_shorter.ensures in
    record {
      only = λ s m. elim (e.only s m) [ inl k ↦ c.loop-x.invariant.only s k | inr k ↦ k ];
      looked = λ i j l inj. below_more (λ i. IsSaved c.save_row_if_shorter.new.saved.items i j
          ⊎ (lesser (distance (length c.args.before.now) c.args.matrix.now i j) (over_edge (entry c.args.before.now i) (to_z w128 (of_z w128 c.args.most)) (entry c.args.after.now j)) ≡ distance (length c.args.before.now) c.args.matrix.now i j)) c.loop-x.x
          (λ i l. elim (c.loop-x.invariant.looked i j l inj) [
            | inl k ↦ inl (saved_more c.loop-x.saved.items c.save_row_if_shorter.new.saved.items i j e.kept k)
            | inr k ↦ inr k
          ])
          (e.looked j inj) i l;
    }

pub returns-clause-only : goal.returns-clause-only
returns-clause-only c =
    let most : to_z w128 (of_z w128 c.args.most) ≡ c.args.most = (let h = c.requires.most.low in let u = c.requires.most.high in omega (arith, ints)) in
    λ s m. subst (λ (z : ℤ). IsShortened (length c.args.before.now) c.args.matrix.now c.args.before.now z c.args.after.now s) most (c.loop-x.invariant.only s m)

pub returns-clause-looked : goal.returns-clause-looked
returns-clause-looked c =
    let most : to_z w128 (of_z w128 c.args.most) ≡ c.args.most = (let h = c.requires.most.low in let u = c.requires.most.high in omega (arith, ints)) in
    λ x y inx iny. subst (λ (z : ℤ). IsSaved c.loop-x.saved.items x y ⊎ (lesser (distance (length c.args.before.now) c.args.matrix.now x y) (over_edge (entry c.args.before.now x) z (entry c.args.after.now y)) ≡ distance (length c.args.before.now) c.args.matrix.now x y)) most
    (c.loop-x.invariant.looked x y (omega arith) iny)
