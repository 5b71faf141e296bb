use Rattle.std.proofs.Common.{◌∷◌, [], refl, arith, inl, inr}
use Rattle.vf_congruence.specs.Congruence.{based, congruent_back}
use Rattle.vf_congruence.specs.Meeting.{AreTogetherOrPaired}
use Rattle.vf_congruence.proofs.Meeting.{renamed, renamed_falls, paired_none, bounded_renamed}
use Rattle.vf_congruence.proofs.joining.join_two.Goals as goal

pub returns-then-one-other-clause-only : goal.returns-then-one-other-clause-only
returns-then-one-other-clause-only c = paired_none _ _ _

pub returns-then-one-other-2-clause-only : goal.returns-then-one-other-2-clause-only
returns-then-one-other-2-clause-only c =
    renamed (AreTogetherOrPaired c.args.classes.now (c.args.a ∷ []) (c.args.b ∷ [])) _ _ _ _ c.args.b c.args.a c.rename_class.auto.classes c.rename_class.ensures.moved c.rename_class.ensures.kept c.requires.right refl c.requires.left refl
    (congruent_back (based (inr (record { place = 0; within = omega arith; left = refl; right = refl }))))
    (λ x y h. inl h)

pub returns-then-one-other-2-clause-falls : goal.returns-then-one-other-2-clause-falls
returns-then-one-other-2-clause-falls c =
    λ t. renamed_falls _ _ _ _ c.args.b c.rename_class.auto.classes c.rename_class.ensures.moved c.rename_class.ensures.kept c.requires.right refl c.if-one-other-2.true

pub returns-else-one-other-2-clause-only : goal.returns-else-one-other-2-clause-only
returns-else-one-other-2-clause-only c =
    renamed (AreTogetherOrPaired c.args.classes.now (c.args.a ∷ []) (c.args.b ∷ [])) _ _ _ _ c.args.a c.args.b c.rename_class-else-one-other-2.auto.classes c.rename_class-else-one-other-2.ensures.moved c.rename_class-else-one-other-2.ensures.kept c.requires.left refl c.requires.right refl
    (based (inr (record { place = 0; within = omega arith; left = refl; right = refl })))
    (λ x y h. inl h)

pub returns-else-one-other-2-clause-falls : goal.returns-else-one-other-2-clause-falls
returns-else-one-other-2-clause-falls c =
    λ t. renamed_falls _ _ _ _ c.args.a c.rename_class-else-one-other-2.auto.classes c.rename_class-else-one-other-2.ensures.moved c.rename_class-else-one-other-2.ensures.kept c.requires.left refl (omega arith)

pub returns-then-one-other-2-clause-bounded : goal.returns-then-one-other-2-clause-bounded
returns-then-one-other-2-clause-bounded c = bounded_renamed _ _ _ _ c.args.a c.rename_class.ensures.moved c.rename_class.ensures.kept c.requires.left refl

pub returns-else-one-other-2-clause-bounded : goal.returns-else-one-other-2-clause-bounded
returns-else-one-other-2-clause-bounded c = bounded_renamed _ _ _ _ c.args.b c.rename_class-else-one-other-2.ensures.moved c.rename_class-else-one-other-2.ensures.kept c.requires.right refl
