-- Where a token is refused, no sort and no expression of ghost text could go on.
use Rattle.std.proofs.Common.{◌≡◌, ℕ, ◌+◌, false, List, Some, Err, sym, ◌∙◌, arith}
use Rattle.vf_lexer.specs.declared.token.Token.{Token}
use Rattle.vf_syntax.specs.SortTree.{SortTree}
use Rattle.vf_syntax.specs.GhostExprTree.{GhostExprTree}
use Rattle.vf_syntax.specs.GhostExpressions.{sort, ghost_expr}
use Rattle.vf_cursor.specs.declared.fault.Fault.TheVariants.{Syntax}
use Rattle.vf_cursor.specs.Parsing.{ok}
use Rattle.vf_parse_term.specs.Laws.{sort_depth, term_depth}
use Rattle.vf_parse_term.specs.Sorts.{sort_at}
use Rattle.vf_parse_term.specs.Terms.{term_at}
use Rattle.vf_grammar_read.specs.terms.Laws.{goes_on_with_sort, goes_on_with_term}
use Rattle.vf_grammar_read.proofs.terms.SortsFull as sorts
use Rattle.vf_grammar_read.proofs.terms.SortsFull.{sort_full}
use Rattle.vf_grammar_read.proofs.terms.Behind.{ended}
use Rattle.vf_grammar_read.proofs.terms.TermsFull.{most_loose, term_full}
use Rattle.vf_grammar_stops.specs.types.Stops.{BeginsUpTo}
use Rattle.vf_grammar_stops.proofs.types.Local.{stops_too}
use Rattle.vf_grammar_stops.proofs.terms.SortsAlike.{sort_like}
use Rattle.vf_grammar_stops.proofs.terms.TermsAlike.{term_like}

-- what was read was not refused
pub apart : {A : Type 0} (x : A) (rest : List Token) (m : ℕ) → ok x rest ≡ Err (Syntax m) → ⊥
apart x rest m e = cc

pub sorts_stop : (d : ℕ) (ts other rest : List Token) (n : ℕ) (x : SortTree) → sort_at d ts ≡ Err (Syntax n) → BeginsUpTo ts n other → sort x other ≡ Some rest → goes_on_with_sort rest ≡ false → ⊥
sorts_stop d ts other rest n x e begins h free =
    let m = d + sort_depth x in
    let stop = stops_too {b = false} (sort_like d m (omega arith)) (Syntax n) tt ts other e begins in
    let read = sort_full m x other rest h (omega arith) (sorts.ended rest free) in
    apart x rest stop.0 (sym read ∙ stop.1)

pub terms_stop : (d : ℕ) (ts other rest : List Token) (n : ℕ) (x : GhostExprTree) → term_at d ts ≡ Err (Syntax n) → BeginsUpTo ts n other → ghost_expr x other ≡ Some rest → goes_on_with_term rest ≡ false → ⊥
terms_stop d ts other rest n x e begins h free =
    let m = d + term_depth x in
    let stop = stops_too {b = false} (term_like d m (omega arith)) (Syntax n) tt ts other e begins in
    let read = term_full m x other rest h (omega arith) (most_loose x) (ended rest free) in
    apart x rest stop.0 (sym read ∙ stop.1)
