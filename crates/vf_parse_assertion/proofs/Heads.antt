-- What can begin an assertion, by the first token.
use Rattle.std.proofs.Common.{◌≡◌, Bool, List, [], ◌∷◌, refl}
use Rattle.std.specs.Prelude.{◌||◌}
use Rattle.vf_lexer.specs.declared.punctuator.Punctuator.TheVariants as punctuators
use Rattle.vf_lexer.specs.declared.token.Token.{Token}
use Rattle.vf_syntax.specs.declared.keyword.Keyword.TheVariants as keywords
use Rattle.vf_syntax.specs.declared.side.Side.TheVariants.{Ghost}
use Rattle.vf_syntax.specs.Walks.{head_has, is_mark, is_word}
use Rattle.vf_parse_term.specs.Terms.{begins_term}
use Rattle.vf_parse_assertion.specs.Parsers.{begins_part}

pub begins_part_is : (ts : List Token) → head_has begins_part ts ≡ (head_has begins_term ts || head_has (is_mark Ghost punctuators.OpenBracket) ts || head_has (is_word Ghost keywords.Emp) ts || head_has (is_word Ghost keywords.Switch) ts)
unfolding begins_part
begins_part_is [] = refl
begins_part_is (t ∷ ts) = refl
