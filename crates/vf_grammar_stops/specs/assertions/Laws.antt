-- Where a token is refused, one is refused in all tokens that begin alike.
use Rattle.std.specs.Prelude.{◌≡◌, ℕ, ◌≤◌, false, List, Some, Err}
use Rattle.vf_lexer.specs.declared.token.Token.{Token}
use Rattle.vf_syntax.specs.AssertionTree.{PartTree}
use Rattle.vf_cursor.specs.declared.fault.Fault.TheVariants.{Syntax}
use Rattle.vf_cursor.specs.Parsing.{Parser}
use Rattle.vf_parse_assertion.specs.Parsers.{assertion_at}
use Rattle.vf_parse_assertion.specs.Laws.{assertion_walk}
use Rattle.vf_grammar_read.specs.assertions.Laws.{goes_on_with_assertion}
use Rattle.vf_grammar_stops.specs.types.Stops.{BeginsUpTo}

-- where a token is refused, one is refused in all tokens that are alike up to it, also where more may nest
abbrev pub RefusesAlike : {A : Type 0} → (ℕ → Parser A) → Type 0
RefusesAlike p = (d m : ℕ) (ts other : List Token) (n : ℕ) → d ≤ m → p d ts ≡ Err (Syntax n) → BeginsUpTo ts n other → (k : ℕ) × (p m other ≡ Err (Syntax k))

-- so of assertions
abbrev pub AssertionsRefuseAlike : Type 0
AssertionsRefuseAlike = RefusesAlike assertion_at

-- a token is refused in an assertion only where no tokens that are alike up to it begin with an assertion, however deep it nests, before what does not go on with it
abbrev pub AssertionsStopAlike : Type 0
AssertionsStopAlike = (d : ℕ) (ts other rest : List Token) (n : ℕ) (xs : List PartTree) → assertion_at d ts ≡ Err (Syntax n) → BeginsUpTo ts n other → assertion_walk xs other ≡ Some rest → goes_on_with_assertion rest ≡ false → ⊥
