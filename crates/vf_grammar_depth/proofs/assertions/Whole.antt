-- Assertions of one depth and of another.
use Rattle.std.proofs.Common.{ℕ, zero, suc, ◌<◌, arith}
use Rattle.vf_syntax.specs.Walks.{head_has}
use Rattle.vf_parse_term.specs.Pieces.{too_deep_at}
use Rattle.vf_parse_assertion.specs.Contents.{parts_of}
use Rattle.vf_parse_assertion.specs.Parsers.{begins_part, switch_head_at, content_at, assertion_at}
use Rattle.vf_grammar_depth.proofs.expressions.Deeper.{Deeper, keeps, then_deep, done_deep}
use Rattle.vf_grammar_depth.proofs.expressions.Begun.{Begun, then_begun, none_deep, same_deep}
use Rattle.vf_grammar_depth.proofs.terms.Whole.{RisesByTwo, term_same, term_rises}
use Rattle.vf_grammar_depth.proofs.chunks.Whole.{terms_same, terms_rise}
use Rattle.vf_grammar_depth.proofs.assertions.Heads.{switch_head_deep}
use Rattle.vf_grammar_depth.proofs.assertions.Parts.{joined_deep}
use Rattle.vf_grammar_depth.proofs.assertions.Starts.{joined_starts}

pub switch_head_same : (d : ℕ) → Deeper 0 (switch_head_at d) (switch_head_at d)
switch_head_same d = switch_head_deep d d (term_same d)

pub switch_head_rises : RisesByTwo switch_head_at
switch_head_rises d m lt = switch_head_deep d m (term_rises d m lt)

pub content_same : (d : ℕ) → Deeper 0 (content_at d) (content_at d)
unfolding content_at too_deep_at
content_same zero = same_deep (λ ts. head_has begins_part ts)
content_same (suc d) = joined_deep (terms_same d) (content_same d)

pub content_rises : RisesByTwo content_at
unfolding content_at too_deep_at
content_rises d zero lt = absurd (omega (arith, lt))
content_rises zero (suc m) lt = none_deep (joined_starts (terms_same m) (content_same m))
content_rises (suc d) (suc m) lt =
    let below : suc d < m = omega (arith, lt) in
    joined_deep (terms_rise d m below) (content_rises d m below)

pub content_starts : (d : ℕ) → Begun (head_has begins_part) (content_at (suc d))
unfolding content_at
content_starts d = joined_starts (terms_same d) (content_same d)

pub assertion_same : (d : ℕ) → Deeper 0 (assertion_at d) (assertion_at d)
unfolding assertion_at
assertion_same d = then_deep (content_same d) (λ x. done_deep (parts_of x))

pub assertion_rises : RisesByTwo assertion_at
unfolding assertion_at
assertion_rises d m lt = then_deep (content_rises d m lt) (λ x. done_deep (parts_of x))

pub assertion_starts : (d : ℕ) → Begun (head_has begins_part) (assertion_at (suc d))
unfolding assertion_at
assertion_starts d = then_begun (content_starts d) (λ x. keeps (done_deep {j = 0} (parts_of x)))
