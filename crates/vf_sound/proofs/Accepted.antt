-- What the rules accept by right answers is safe.
use Rattle.vf_sound.specs.Laws.{AcceptedIsSafe}
use Rattle.vf_exec.specs.Main.{checks}
use Rattle.std.proofs.Common.{Ok}
use Rattle.vf_sound.proofs.Allowing.{right_answers_allow}
use Rattle.vf_sound.proofs.Bodies.{main_good}
use Rattle.vf_sound.proofs.Keeping.{is_safe, is_kept}

pub accepted_is_safe : AcceptedIsSafe
accepted_is_safe core e i origin s t formed extends meets low follows right events =
    let good = main_good i core formed.main formed.is_main (right_answers_allow i (checks core) origin s t (Ok tt) meets low follows right) in
    (is_safe core formed.main formed.is_main formed.in_order good events, is_kept core formed.main formed.is_main formed.in_order good e events extends)
