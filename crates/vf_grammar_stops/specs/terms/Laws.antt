-- Where a token is refused, no sort and no expression of ghost text could go on.
use Rattle.std.specs.Prelude.{◌≡◌, ℕ, false, List, Some, Err}
use Rattle.vf_lexer.specs.declared.token.Token.{Token}
use Rattle.vf_syntax.specs.SortTree.{SortTree}
use Rattle.vf_syntax.specs.GhostExprTree.{GhostExprTree}
use Rattle.vf_syntax.specs.GhostExpressions.{sort, ghost_expr}
use Rattle.vf_cursor.specs.declared.fault.Fault.TheVariants.{Syntax}
use Rattle.vf_parse_term.specs.Sorts.{sort_at}
use Rattle.vf_parse_term.specs.Terms.{term_at}
use Rattle.vf_grammar_read.specs.terms.Laws.{goes_on_with_sort, goes_on_with_term}
use Rattle.vf_grammar_stops.specs.types.Stops.{BeginsUpTo}

-- a token is refused in a sort only where no tokens that are alike up to it begin with a sort, however deep it nests, before what does not go on with it
abbrev pub SortsStopAlike : Type 0
SortsStopAlike = (d : ℕ) (ts other rest : List Token) (n : ℕ) (x : SortTree) → sort_at d ts ≡ Err (Syntax n) → BeginsUpTo ts n other → sort x other ≡ Some rest → goes_on_with_sort rest ≡ false → ⊥

-- the same of an expression of ghost text
abbrev pub TermsStopAlike : Type 0
TermsStopAlike = (d : ℕ) (ts other rest : List Token) (n : ℕ) (x : GhostExprTree) → term_at d ts ≡ Err (Syntax n) → BeginsUpTo ts n other → ghost_expr x other ≡ Some rest → goes_on_with_term rest ≡ false → ⊥
