use Rattle.std.proofs.Common.{rules}
use Rattle.vf_machine.proofs.Turns.{main_frame_is}
use Rattle.vf_machine.proofs.machine.main_frame.Goals as goal

pub returns-in_ok-locals-in-Some : goal.returns-in_ok-locals-in-Some
returns-in_ok-locals-in-Some c =
    main_frame_is c.args.program.now.plain.functions c.args.program.now.plain.main c.in-Some.function.now c.in_ok-locals-in-Some.locals.items
    c.in-Some.ensures
    (c.in_ok-locals-in-Some.ensures.items_if_clones_equal (λ y h. search rules))
