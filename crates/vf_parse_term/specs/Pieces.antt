-- Parsers of lists, and of parts that stand too deep.
use Rattle.std.specs.Prelude.{Bool, List, [], ◌∷◌, ◌++◌, length, Err, if◌then◌else◌}
use Rattle.vf_lexer.specs.declared.punctuator.Punctuator.TheVariants.{Comma}
use Rattle.vf_lexer.specs.declared.token.Token.{Token}
use Rattle.vf_syntax.specs.declared.side.Side.TheVariants.{Ghost}
use Rattle.vf_syntax.specs.Walks.{head_has, is_mark}
use Rattle.vf_cursor.specs.declared.fault.Fault.TheVariants.{Depth}
use Rattle.vf_cursor.specs.Parsing.{Parser, ok, ◌>>=◌, fails_at, mark_at, many, item_step}

-- what may not stand there: too deep where the next token can begin it, else the token itself can't stand there
unfoldable pub too_deep_at : {A : Type 0} → (Token → Bool) → Parser A
too_deep_at begins ts = if head_has begins ts then Err (Depth (length ts)) else fails_at ts

-- an item behind a comma
unfoldable pub behind_comma : {A : Type 0} → Parser A → Parser A
behind_comma p ts = mark_at Ghost Comma ts >>= λ c. p c.1

-- one more item, behind a comma
unfoldable pub comma_step : {A : Type 0} → Parser A → List A → Parser (List A)
comma_step p xs ts = item_step (behind_comma p) xs ts

-- one item at least, with commas between them
unfoldable pub some_at : {A : Type 0} → Parser A → Parser (List A)
some_at p ts = p ts >>= λ a. many (is_mark Ghost Comma) (comma_step p) ([] ++ a.0 ∷ []) a.1

-- items with commas between them, none where a token stands there that ends them
unfoldable pub any_at : {A : Type 0} → (Token → Bool) → Parser A → Parser (List A)
any_at ends p ts = if head_has ends ts then ok [] ts else some_at p ts
