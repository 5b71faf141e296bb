-- Tokens of no text may spell a unit with a `#` in a name.
use Rattle.std.proofs.Common.{◌≡◌, [], Some, codes, refl, arith}
use Rattle.vf_syntax.specs.declared.side.Grammar.TheVariants.{Plain}
use Rattle.vf_syntax.specs.Keywords.{is_keyword}
use Rattle.vf_syntax.specs.Units.{item, parameters_walk, result_type, signature, unit}
use Rattle.vf_syntax.specs.Walks.{at, identifier, is_mark, is_name, is_word, mark, word}
use Rattle.vf_syntax.specs.Written.{name}
use Rattle.vf_grammar_read.proofs.expressions.Same.{no_true}
use Rattle.vf_fixpoint_laws.specs.well_declared.Names.{AreUnmarked}
use Rattle.vf_fixpoint_laws.specs.identifiers.Names.{NamesAreWords}
use Rattle.vf_fixpoint_laws.specs.identifiers.Example.{declaring, MarkedTokensSpellMarkedUnits, unit_of}

marked_spelled : unit Plain (unit_of (codes "a#b")) (declaring (codes "a#b")) ≡ Some []
unfolding unit item signature result_type parameters_walk at mark word identifier name is_mark is_word is_name is_keyword
marked_spelled = refl

plain_spelled : unit Plain (unit_of (codes "a_b")) (declaring (codes "a_b")) ≡ Some []
unfolding unit item signature result_type parameters_walk at mark word identifier name is_mark is_word is_name is_keyword
plain_spelled = refl

is_marked : AreUnmarked (unit_of (codes "a#b")).items → ⊥
is_marked h = absurd cc

no_words : NamesAreWords (declaring (codes "a#b")) → ⊥
no_words h = let w = h.1.0 refl in no_true w.1

words : NamesAreWords (declaring (codes "a_b"))
words = (λ e. (refl, refl), (λ e. (refl, refl), (λ e. absurd cc, (λ e. absurd cc, (λ e. absurd cc, tt)))))

pub marked_tokens : MarkedTokensSpellMarkedUnits
marked_tokens = record {
  spelled = record { spelled = marked_spelled; nested = omega arith };
  marked = is_marked;
  no_words = no_words;
  plainly = record { spelled = plain_spelled; nested = omega arith };
  words = words;
}
