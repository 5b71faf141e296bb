-- Parsers of lists, and of parts that stand too deep, stop alike on tokens that are alike.
use Rattle.std.proofs.Common.{◌≡◌, Bool, false, List, [], ◌∷◌, ◌++◌}
use Rattle.vf_lexer.specs.declared.punctuator.Punctuator.TheVariants.{Comma}
use Rattle.vf_lexer.specs.declared.token.Token.{Token}
use Rattle.vf_syntax.specs.declared.side.Side.TheVariants.{Ghost}
use Rattle.vf_syntax.specs.Walks.{head_has, is_mark}
use Rattle.vf_cursor.specs.Parsing.{Parser, many}
use Rattle.vf_parse_term.specs.Pieces.{too_deep_at, behind_comma, comma_step, some_at, any_at}
use Rattle.vf_grammar_stops.proofs.types.Local.{Does, then_like, done_like, mark_like, choice_like, first_has}
use Rattle.vf_grammar_stops.proofs.types.LoopAlike.{Takes, items_like}
use Rattle.vf_grammar_stops.proofs.expressions.Refused.{Refuses}
use Rattle.vf_grammar_stops.proofs.expressions.Takes.{mark_takes, both_take}
use Rattle.vf_grammar_stops.proofs.expressions.ExprAlike.{deep_like}

-- where nothing may stand one level further down
pub too_deep_like : {A : Type 0} (begins : Token → Bool) (q : Parser A) → ((ts : List Token) → head_has begins ts ≡ false → Refuses q ts) → Does false (too_deep_at begins) q
unfolding too_deep_at
too_deep_like begins q h = deep_like (λ ts. head_has begins ts) q (λ r s e. first_has begins r s e) h

pub behind_comma_like : {A : Type 0} {b : Bool} {p q : Parser A} → Does b p q → Does b (behind_comma p) (behind_comma q)
unfolding behind_comma
behind_comma_like h = then_like (mark_like Ghost Comma) (λ c. h)

pub behind_comma_takes : {A : Type 0} {q : Parser A} → Takes q → Takes (behind_comma q)
unfolding behind_comma
behind_comma_takes h = both_take (mark_takes Ghost Comma) (λ c. h)

more_like : {A : Type 0} {b : Bool} {p q : Parser A} → Does b p q → Takes q → (xs : List A) → Does b (λ ts. many (is_mark Ghost Comma) (comma_step p) xs ts) (λ ts. many (is_mark Ghost Comma) (comma_step q) xs ts)
unfolding comma_step
more_like h takes xs = items_like (is_mark Ghost Comma) (behind_comma_like h) (behind_comma_takes takes) xs

pub some_like : {A : Type 0} {b : Bool} {p q : Parser A} → Does b p q → Takes q → Does b (some_at p) (some_at q)
unfolding some_at
some_like h takes = then_like h (λ a. more_like h takes ([] ++ a ∷ []))

pub any_like : {A : Type 0} {b : Bool} {p q : Parser A} (ends : Token → Bool) → Does b p q → Takes q → Does b (any_at ends p) (any_at ends q)
unfolding any_at
any_like ends h takes = choice_like ends (done_like []) (some_like h takes)
