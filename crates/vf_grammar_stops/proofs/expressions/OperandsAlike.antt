-- Parsers that read no expression stop alike on tokens that are alike.
use Rattle.std.proofs.Common.{Bool, Option, Some, None}
use Rattle.vf_base.specs.declared.place.Place.{Place}
use Rattle.vf_lexer.specs.declared.punctuator.Punctuator.TheVariants as punctuators
use Rattle.vf_syntax.specs.declared.keyword.Keyword.TheVariants as keywords
use Rattle.vf_syntax.specs.declared.side.Side.TheVariants.{Real}
use Rattle.vf_syntax.specs.declared.operator.BinaryOperator.{BinaryOperator}
use Rattle.vf_syntax.specs.declared.operator.Level.{Level}
use Rattle.vf_syntax.specs.ExprTree as tree
use Rattle.vf_syntax.specs.Written.{binary_mark}
use Rattle.vf_cursor.specs.Types.{next_on}
use Rattle.vf_parse_expression.specs.Operands.{operator_found, operator_at, number_primary_at, character_primary_at, field_at, malloc_struct_at}
use Rattle.vf_grammar_stops.proofs.types.Local.{Does, then_like, done_like, fail_like, here_like, mark_like, word_like, name_like}
use Rattle.vf_grammar_stops.proofs.expressions.Heads.{found_like, level_hangs, number_like, character_like}

pub number_primary_like : {b : Bool} → Does b number_primary_at number_primary_at
unfolding number_primary_at
number_primary_like = then_like here_like (λ h. then_like number_like (λ n. done_like (tree.number h n.0 n.1)))

pub character_primary_like : {b : Bool} → Does b character_primary_at character_primary_at
unfolding character_primary_at
character_primary_like = then_like here_like (λ h. then_like character_like (λ n. done_like (tree.character h n)))

pub field_like : {b : Bool} → Does b field_at field_at
unfolding field_at
field_like = then_like (mark_like Real punctuators.Arrow) (λ a. then_like (name_like Real) (λ n. done_like (tree.field_ a n)))

pub malloc_struct_like : {b : Bool} (p : Place) → Does b (malloc_struct_at p) (malloc_struct_at p)
unfolding malloc_struct_at
malloc_struct_like p =
    then_like (word_like Real keywords.Sizeof) (λ a. then_like (mark_like Real punctuators.OpenParenthesis) (λ c. then_like (word_like Real keywords.Struct) (λ d. then_like (name_like Real)
    (λ n. then_like (mark_like Real punctuators.CloseParenthesis) (λ f. then_like (mark_like Real punctuators.CloseParenthesis) (λ g. done_like (tree.malloc p n)))))))

found_operator : {b : Bool} (o : Option BinaryOperator) → Does b (operator_found o) (operator_found o)
found_operator None = fail_like
found_operator (Some o) = then_like (mark_like Real (binary_mark o)) (λ m. done_like (m, o))

pub operator_like : {b : Bool} (l : Level) → Does b (operator_at l) (operator_at l)
unfolding operator_at
operator_like l = found_like (next_on Real l) (level_hangs l) operator_found operator_found (λ o. found_operator o)
