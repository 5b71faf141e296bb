use Rattle.std.proofs.Common.{arith}
use Rattle.vf_congruence.proofs.Meeting.{joined_sound, joined_complete, join_falls, bounded_more}
use Rattle.vf_congruence.proofs.joining.join_and_settle.Goals as goal

pub returns-clause-sound : goal.returns-clause-sound
returns-clause-sound c = joined_sound c.args.nodes.now c.args.classes.now c.join_two.new.classes c.settle.new.classes _ _ c.join_two.ensures.only c.settle.ensures.sound

pub returns-clause-complete : goal.returns-clause-complete
returns-clause-complete c = joined_complete c.args.nodes.now c.args.classes.now c.join_two.new.classes c.settle.new.classes c.args.a c.args.b c.requires.left c.requires.right c.join_two.auto.classes c.join_two.ensures.kept c.join_two.ensures.joined c.settle.ensures.complete

pub returns-clause-weight : goal.returns-clause-weight
returns-clause-weight c = λ h. let f = join_falls c.args.classes.now c.join_two.new.classes c.args.a c.args.b c.join_two.result c.join_two.ensures.joined c.join_two.ensures.same c.join_two.ensures.falls h in let g = c.settle.ensures.weight in omega arith

pub returns-clause-bounded : goal.returns-clause-bounded
returns-clause-bounded c = bounded_more c.args.classes.now c.join_two.new.classes c.settle.new.classes c.join_two.auto.classes c.join_two.ensures.bounded c.settle.ensures.bounded
