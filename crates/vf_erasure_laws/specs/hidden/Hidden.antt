-- What annotations declare is not seen by C text.
use Rattle.vf_datatypes.specs.declared.stated.Stated.{Stated}
use Rattle.vf_annotations.specs.Forms.{meanings}
use Rattle.vf_erasure_laws.specs.seen.Unseen.{AreUnseen}

-- what annotations declare is not seen by C text, whichever datatypes stand in their unit
abbrev pub AnnotationsAreUnseen : Type 0
AnnotationsAreUnseen = (d : Stated) → AreUnseen (meanings d)
