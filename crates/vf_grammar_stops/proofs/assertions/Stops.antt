-- Where a token is refused, one is refused in all tokens that begin alike, and no assertion could go on.
use Rattle.std.proofs.Common.{◌≡◌, ℕ, ◌+◌, ◌≤◌, false, List, Some, Err, sym, ◌∙◌, arith}
use Rattle.vf_lexer.specs.declared.token.Token.{Token}
use Rattle.vf_syntax.specs.AssertionTree.{PartTree}
use Rattle.vf_cursor.specs.declared.fault.Fault.TheVariants.{Syntax}
use Rattle.vf_cursor.specs.Parsing.{Parser}
use Rattle.vf_parse_assertion.specs.Parsers.{assertion_at}
use Rattle.vf_parse_assertion.specs.Laws.{assertion_walk, assertion_depth}
use Rattle.vf_grammar_read.specs.assertions.Laws.{goes_on_with_assertion}
use Rattle.vf_grammar_read.proofs.assertions.Ends.{ended_at_all}
use Rattle.vf_grammar_read.proofs.assertions.AssertionsFull.{assertion_full}
use Rattle.vf_grammar_stops.specs.types.Stops.{BeginsUpTo}
use Rattle.vf_grammar_stops.proofs.types.Local.{Does, stops_too}
use Rattle.vf_grammar_stops.proofs.terms.Stops.{apart}
use Rattle.vf_grammar_stops.specs.assertions.Laws.{RefusesAlike, AssertionsRefuseAlike}
use Rattle.vf_grammar_stops.proofs.assertions.AssertionsAlike.{assertion_like}

-- a parser that stops alike refuses alike
pub refuses_alike : {A : Type 0} (p : ℕ → Parser A) → ((d m : ℕ) → d ≤ m → Does false (p d) (p m)) → RefusesAlike p
refuses_alike p h d m ts other n le e begins = stops_too {b = false} (h d m le) (Syntax n) tt ts other e begins

pub assertions_refuse : AssertionsRefuseAlike
assertions_refuse d m ts other n le e begins = refuses_alike assertion_at assertion_like d m ts other n le e begins

pub assertions_stop : (d : ℕ) (ts other rest : List Token) (n : ℕ) (xs : List PartTree) → assertion_at d ts ≡ Err (Syntax n) → BeginsUpTo ts n other → assertion_walk xs other ≡ Some rest → goes_on_with_assertion rest ≡ false → ⊥
assertions_stop d ts other rest n xs e begins h free =
    let m = d + assertion_depth xs in
    let stop = stops_too {b = false} (assertion_like d m (omega arith)) (Syntax n) tt ts other e begins in
    let read = assertion_full m xs other rest h (omega arith) (ended_at_all rest free) in
    apart xs rest stop.0 (sym read ∙ stop.1)
