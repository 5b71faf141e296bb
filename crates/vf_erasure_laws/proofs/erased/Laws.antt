-- The laws about units.
use Rattle.std.proofs.Common.{subst}
use Rattle.vf_declared.specs.declared.scope.Scope.{Scope}
use Rattle.vf_annotations.specs.Forms.{meanings}
use Rattle.vf_erasure_laws.specs.plain.Stripped.{stripped_items}
use Rattle.vf_resolve.specs.Beginning.{beginning}
use Rattle.vf_erasure_laws.proofs.hidden.Laws.{annotations_are_unseen}
use Rattle.vf_erasure_laws.specs.erased.Erasure.{AnnotatedBodiesAreErased}
use Rattle.vf_erasure_laws.specs.erased.Units.{IsLowered, PlainReadingsAreErased, UnitsAreErased}
use Rattle.vf_erasure_laws.proofs.erased.Bodies.{bodies_are_erased}
use Rattle.vf_erasure_laws.proofs.erased.Units.{items_erased, plain_answer}
use Rattle.vf_erasure_laws.proofs.erased.WalkingUnits.{beginning_seen, beginning_settled}

-- bodies
pub annotated_bodies : AnnotatedBodiesAreErased
annotated_bodies d r is_main xs last p numbers s t n o e h = bodies_are_erased (meanings d) r is_main xs last p numbers s t n (annotations_are_unseen d) o e h

-- units
pub units_are_erased : UnitsAreErased
units_are_erased d xs s t fs o h = items_erased (meanings d) (annotations_are_unseen d) o h

-- plain readings
pub plain_readings_are_erased : PlainReadingsAreErased
plain_readings_are_erased f d xs t fs h r v k =
    plain_answer r (subst (λ (s : Scope). IsLowered (stripped_items xs) s fs t) (beginning_seen f xs) (units_are_erased d xs (beginning f xs) t fs (beginning_settled f xs) h)) k
