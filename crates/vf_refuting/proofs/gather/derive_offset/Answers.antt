use Rattle.vf_log.proofs.Continued.{added_continues, continued_more}
use Rattle.vf_refuting.proofs.Deriving.{within_negative, offset_later, two_derived}
use Rattle.vf_refuting.proofs.gather.derive_offset.Goals as goal

pub below-requires : goal.below-requires
below-requires c =
    let a = c.in_ok-above.ensures.added c.args.other c.args.by c.requires.offset in
    record { offset = (c.args.other, c.args.by, offset_later c.args.a c.args.zero c.args.other c.args.by (added_continues a) c.requires.offset, within_negative c.args.by c.requires.small) }

pub returns-clause-continued : goal.returns-clause-continued
returns-clause-continued c =
    let a = c.in_ok-above.ensures.added c.args.other c.args.by c.requires.offset in
    continued_more (added_continues a) (added_continues (c.in_ok-below.ensures.added c.args.other c.args.by (offset_later c.args.a c.args.zero c.args.other c.args.by (added_continues a) c.requires.offset)))

pub returns-clause-derived : goal.returns-clause-derived
returns-clause-derived c =
    let a = c.in_ok-above.ensures.added c.args.other c.args.by c.requires.offset in
    two_derived a (c.in_ok-below.ensures.added c.args.other c.args.by (offset_later c.args.a c.args.zero c.args.other c.args.by (added_continues a) c.requires.offset))
