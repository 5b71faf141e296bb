-- Ghost commands and bodies of lemmas of one depth and of another.
use Rattle.std.proofs.Common.{ℕ, zero, suc, ◌<◌, arith}
use Rattle.vf_syntax.specs.Walks.{head_has}
use Rattle.vf_parse_term.specs.Pieces.{too_deep_at}
use Rattle.vf_parse_command.specs.Commands.{begins_command, command_at, body_at}
use Rattle.vf_grammar_depth.proofs.expressions.Deeper.{Deeper}
use Rattle.vf_grammar_depth.proofs.expressions.Begun.{none_deep, same_deep}
use Rattle.vf_grammar_depth.proofs.terms.Whole.{RisesByTwo, sort_same, sort_rises, term_same, term_rises}
use Rattle.vf_grammar_depth.proofs.patterns.Shares.{any_share_deep}
use Rattle.vf_grammar_depth.proofs.patterns.Whole.{patterns_same, patterns_rises, any_patterns_same, any_patterns_rises}
use Rattle.vf_grammar_depth.proofs.assertions.Heads.{case_head_deep}
use Rattle.vf_grammar_depth.proofs.assertions.Whole.{assertion_same, assertion_rises, switch_head_same, switch_head_rises}
use Rattle.vf_grammar_depth.proofs.commands.Flats.{Inside}
use Rattle.vf_grammar_depth.proofs.commands.Commands.{body_by_deep, command_by_deep}
use Rattle.vf_grammar_depth.proofs.commands.Starts.{command_by_starts}

inside_same : (d : ℕ) → Inside 0 d d
inside_same d = record {
  sorts = sort_same d;
  terms = term_same d;
  patterns = patterns_same d;
  any_patterns = any_patterns_same d;
  assertions = assertion_same d;
  switches = switch_head_same d;
  shares = any_share_deep;
  cases = case_head_deep;
}

inside_rises : (d m : ℕ) → suc d < m → Inside 1 d m
inside_rises d m lt = record {
  sorts = sort_rises d m (omega (arith, lt));
  terms = term_rises d m lt;
  patterns = patterns_rises d m lt;
  any_patterns = any_patterns_rises d m lt;
  assertions = assertion_rises d m lt;
  switches = switch_head_rises d m lt;
  shares = any_share_deep;
  cases = case_head_deep;
}

pub command_same : (d : ℕ) → Deeper 0 (command_at d) (command_at d)
unfolding command_at too_deep_at
command_same zero = same_deep (λ ts. head_has begins_command ts)
command_same (suc d) = command_by_deep (inside_same d) (command_same d)

pub command_rises : RisesByTwo command_at
unfolding command_at too_deep_at
command_rises d zero lt = absurd (omega (arith, lt))
command_rises zero (suc zero) lt = absurd (omega (arith, lt))
command_rises zero (suc (suc m)) lt = none_deep (command_by_starts (inside_same (suc m)) (command_same (suc m)))
command_rises (suc d) (suc m) lt =
    let below : suc d < m = omega (arith, lt) in
    command_by_deep (inside_rises d m below) (command_rises d m below)

pub body_same : (d : ℕ) → Deeper 0 (body_at d) (body_at d)
body_same d = body_by_deep (command_same d)

pub body_rises : RisesByTwo body_at
body_rises d m lt = body_by_deep (command_rises d m lt)
