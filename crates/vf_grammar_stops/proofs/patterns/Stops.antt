-- Where a token is refused, no share, no pattern and no case could go on.
use Rattle.std.proofs.Common.{◌≡◌, ℕ, ◌+◌, false, List, Option, Some, Err, sym, ◌∙◌, arith}
use Rattle.vf_lexer.specs.declared.punctuator.Punctuator.TheVariants.{OpenParenthesis, OpenBracket}
use Rattle.vf_lexer.specs.declared.token.Token.{Token}
use Rattle.vf_syntax.specs.declared.side.Side.TheVariants.{Ghost}
use Rattle.vf_syntax.specs.declared.pattern.Share.{Share}
use Rattle.vf_syntax.specs.declared.pattern.Pattern.{Pattern}
use Rattle.vf_syntax.specs.declared.pattern.CasePattern.{CasePattern}
use Rattle.vf_syntax.specs.Walks.{head_has, is_mark}
use Rattle.vf_syntax.specs.Lists.{optional, greatest, or_none}
use Rattle.vf_syntax.specs.Assertions.{share, pattern, pattern_list, pattern_nesting, case_pattern}
use Rattle.vf_cursor.specs.declared.fault.Fault.TheVariants.{Syntax}
use Rattle.vf_parse_pattern.specs.Shares.{share_at, any_share_at}
use Rattle.vf_parse_pattern.specs.Patterns.{pattern_at, patterns_at, any_patterns_at, case_pattern_at}
use Rattle.vf_grammar_read.specs.terms.Laws.{goes_on_with_term}
use Rattle.vf_grammar_read.proofs.terms.Behind.{ended}
use Rattle.vf_grammar_read.proofs.patterns.SharesFull.{share_full, any_share_full}
use Rattle.vf_grammar_read.proofs.patterns.PatternsFull.{pattern_full, patterns_full, any_patterns_full, case_full}
use Rattle.vf_grammar_stops.specs.types.Stops.{BeginsUpTo}
use Rattle.vf_grammar_stops.proofs.types.Local.{stops_too}
use Rattle.vf_grammar_stops.proofs.terms.Stops.{apart}
use Rattle.vf_grammar_stops.proofs.patterns.PatternsAlike.{share_like, any_share_like, pattern_like, patterns_like, any_patterns_like, case_pattern_like}

pub shares_stop : (ts other rest : List Token) (k : ℕ) (x : Share) → share_at ts ≡ Err (Syntax k) → BeginsUpTo ts k other → share x other ≡ Some rest → ⊥
shares_stop ts other rest k x e begins h =
    let stop = stops_too {b = false} (share_like {b = false}) (Syntax k) tt ts other e begins in
    apart x rest stop.0 (sym (share_full x other rest h) ∙ stop.1)

pub any_shares_stop : (ts other rest : List Token) (k : ℕ) (x : Option Share) → any_share_at ts ≡ Err (Syntax k) → BeginsUpTo ts k other → optional share x other ≡ Some rest → head_has (is_mark Ghost OpenBracket) rest ≡ false → ⊥
any_shares_stop ts other rest k x e begins h free =
    let stop = stops_too {b = false} (any_share_like {b = false}) (Syntax k) tt ts other e begins in
    apart x rest stop.0 (sym (any_share_full x other rest h free) ∙ stop.1)

pub patterns_stop : (d : ℕ) (ts other rest : List Token) (k : ℕ) (x : Pattern) → pattern_at d ts ≡ Err (Syntax k) → BeginsUpTo ts k other → pattern x other ≡ Some rest → goes_on_with_term rest ≡ false → ⊥
patterns_stop d ts other rest k x e begins h free =
    let m = d + pattern_nesting x in
    let stop = stops_too {b = false} (pattern_like d m (omega arith)) (Syntax k) tt ts other e begins in
    let read = pattern_full m x other rest h (omega arith) (ended rest free) in
    apart x rest stop.0 (sym read ∙ stop.1)

pub pattern_lists_stop : (d : ℕ) (ts other rest : List Token) (k : ℕ) (xs : List Pattern) → patterns_at d ts ≡ Err (Syntax k) → BeginsUpTo ts k other → pattern_list xs other ≡ Some rest → ⊥
pattern_lists_stop d ts other rest k xs e begins h =
    let m = d + greatest pattern_nesting xs in
    let stop = stops_too {b = false} (patterns_like d m (omega arith)) (Syntax k) tt ts other e begins in
    let read = patterns_full m xs other rest h (omega arith) in
    apart xs rest stop.0 (sym read ∙ stop.1)

pub any_patterns_stop : (d : ℕ) (ts other rest : List Token) (k : ℕ) (x : Option (List Pattern)) → any_patterns_at d ts ≡ Err (Syntax k) → BeginsUpTo ts k other → optional pattern_list x other ≡ Some rest → head_has (is_mark Ghost OpenParenthesis) rest ≡ false → ⊥
any_patterns_stop d ts other rest k x e begins h free =
    let m = d + or_none (greatest pattern_nesting) x in
    let stop = stops_too {b = false} (any_patterns_like d m (omega arith)) (Syntax k) tt ts other e begins in
    let read = any_patterns_full m x other rest h (omega arith) free in
    apart x rest stop.0 (sym read ∙ stop.1)

pub cases_stop : (ts other rest : List Token) (k : ℕ) (x : CasePattern) → case_pattern_at ts ≡ Err (Syntax k) → BeginsUpTo ts k other → case_pattern x other ≡ Some rest → head_has (is_mark Ghost OpenParenthesis) rest ≡ false → ⊥
cases_stop ts other rest k x e begins h free =
    let stop = stops_too {b = false} (case_pattern_like {b = false}) (Syntax k) tt ts other e begins in
    apart x rest stop.0 (sym (case_full x other rest h free) ∙ stop.1)
