-- A text and its end.
use Rattle.std.proofs.Common.{◌∙◌, sym, arith, codes}
use Rattle.vf_words.proofs.Endings.{ends_where, where_ends, ends_long}
use Rattle.vf_words.proofs.paths.ends_in_vfmanifest.Goals as goal

pub returns-then-bytes-lt11 : goal.returns-then-bytes-lt11
returns-then-bytes-lt11 c = (λ e. absurd (cc e), λ h. absurd (omega (arith, ends_long c.args.bytes.now (codes ".vfmanifest") h, c.if-bytes-lt11.true)))

pub returns : goal.returns
returns c = (
  λ e. ends_where c.args.bytes.now (codes ".vfmanifest") (omega (arith, c.if-bytes-lt11.false)) (sym c.split_at.ensures.back ∙ c.same_bytes.ensures.0 e),
  λ h. c.same_bytes.ensures.1 (c.split_at.ensures.back ∙ where_ends c.args.bytes.now (codes ".vfmanifest") h),
)
