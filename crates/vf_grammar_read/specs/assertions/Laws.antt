-- What is spelled is read.
use Rattle.std.specs.Prelude.{◌≡◌, ℕ, ◌≤◌, Bool, false, ◌||◌, List, Some}
use Rattle.vf_lexer.specs.declared.punctuator.Punctuator.TheVariants.{SeparatingAnd}
use Rattle.vf_lexer.specs.declared.token.Token.{Token}
use Rattle.vf_syntax.specs.declared.side.Side.TheVariants.{Ghost}
use Rattle.vf_syntax.specs.AssertionTree.{PartTree}
use Rattle.vf_syntax.specs.Walks.{head_has, is_mark}
use Rattle.vf_cursor.specs.Parsing.{ok}
use Rattle.vf_parse_assertion.specs.Parsers.{assertion_at}
use Rattle.vf_parse_assertion.specs.Laws.{assertion_walk, assertion_depth}
use Rattle.vf_grammar_read.specs.chunks.Laws.{goes_on_with_part}

-- the next token goes on with an assertion in front of it: it goes on with a part, or it is `&*&`
unfoldable pub goes_on_with_assertion : List Token → Bool
goes_on_with_assertion ts = head_has (is_mark Ghost SeparatingAnd) ts || goes_on_with_part ts

-- an assertion that tokens spell, and that nests no deeper than it may, is read from them, where what stands behind does not go on with it
abbrev pub AssertionsAreRead : Type 0
AssertionsAreRead = (d : ℕ) (xs : List PartTree) (ts rest : List Token) → assertion_walk xs ts ≡ Some rest → assertion_depth xs ≤ d → goes_on_with_assertion rest ≡ false → assertion_at d ts ≡ ok xs rest

-- two assertions that the same tokens spell are one, places included
abbrev pub AssertionsHaveOneReading : Type 0
AssertionsHaveOneReading = (xs ys : List PartTree) (ts rest : List Token) → assertion_walk xs ts ≡ Some rest → assertion_walk ys ts ≡ Some rest → goes_on_with_assertion rest ≡ false → xs ≡ ys
