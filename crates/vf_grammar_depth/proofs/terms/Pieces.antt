-- Parsers of lists of annotations go past what was too deep, where what they read does.
use Rattle.std.proofs.Common.{ℕ, List, [], ◌∷◌, ◌++◌}
use Rattle.std.specs.Prelude.{Bool}
use Rattle.vf_lexer.specs.declared.punctuator.Punctuator.TheVariants.{Comma}
use Rattle.vf_lexer.specs.declared.token.Token.{Token}
use Rattle.vf_syntax.specs.declared.side.Side.TheVariants.{Ghost}
use Rattle.vf_syntax.specs.Walks.{is_mark}
use Rattle.vf_cursor.specs.Parsing.{Parser, many}
use Rattle.vf_parse_term.specs.Pieces.{behind_comma, comma_step, some_at, any_at}
use Rattle.vf_grammar_depth.proofs.expressions.Deeper.{Deeper, then_deep, done_deep, mark_deep, head_deep, items_deep}

pub behind_comma_deep : {A : Type 0} {j : ℕ} {p q : Parser A} → Deeper j p q → Deeper j (behind_comma p) (behind_comma q)
unfolding behind_comma
behind_comma_deep h = then_deep (mark_deep Ghost Comma) (λ c. h)

more_deep : {A : Type 0} {j : ℕ} {p q : Parser A} → Deeper j p q → (xs : List A) → Deeper j (λ ts. many (is_mark Ghost Comma) (comma_step p) xs ts) (λ ts. many (is_mark Ghost Comma) (comma_step q) xs ts)
unfolding comma_step
more_deep h xs = items_deep (is_mark Ghost Comma) (behind_comma_deep h) xs

pub some_deep : {A : Type 0} {j : ℕ} {p q : Parser A} → Deeper j p q → Deeper j (some_at p) (some_at q)
unfolding some_at
some_deep h = then_deep h (λ a. more_deep h ([] ++ a ∷ []))

pub any_deep : {A : Type 0} {j : ℕ} {p q : Parser A} (ends : Token → Bool) → Deeper j p q → Deeper j (any_at ends p) (any_at ends q)
unfolding any_at
any_deep ends h = head_deep ends (done_deep []) (some_deep h)
