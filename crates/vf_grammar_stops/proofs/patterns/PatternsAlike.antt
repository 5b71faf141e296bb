-- Shares, patterns and cases stop alike on tokens that are alike, also where the others may nest deeper.
use Rattle.std.proofs.Common.{ℕ, ◌≤◌, Bool, true, false, List, [], Option, Some, None}
use Rattle.vf_base.specs.declared.place.Place.{Place}
use Rattle.vf_lexer.specs.declared.punctuator.Punctuator.TheVariants as punctuators
use Rattle.vf_syntax.specs.declared.side.Side.TheVariants.{Ghost}
use Rattle.vf_syntax.specs.declared.written.Name.{Name}
use Rattle.vf_syntax.specs.declared.pattern.Share.{Share}
use Rattle.vf_syntax.specs.declared.pattern.Amount.{Amount}
use Rattle.vf_syntax.specs.declared.pattern.Amount.TheVariants as amounts
use Rattle.vf_syntax.specs.declared.pattern.Factor.{Factor}
use Rattle.vf_syntax.specs.declared.pattern.Factor.TheVariants as factors
use Rattle.vf_syntax.specs.declared.pattern.FactorLink.{FactorLink}
use Rattle.vf_syntax.specs.declared.pattern.Pattern.TheVariants as patterns
use Rattle.vf_syntax.specs.declared.pattern.CasePattern.{CasePattern}
use Rattle.vf_syntax.specs.Walks.{head_has, is_mark, is_name, is_wild}
use Rattle.vf_cursor.specs.Parsing.{wild_at}
use Rattle.vf_parse_pattern.specs.Shares.{number_factor_at, factor_at, is_factor_mark, factor_link_at, factor_step, product_at, amount_at, share_at, any_share_at}
use Rattle.vf_parse_pattern.specs.Patterns.{pattern_at, patterns_at, any_patterns_at, names_at, any_names_at, case_pattern_at}
use Rattle.vf_parse_pattern.proofs.PatternsRead.{pattern_sound}
use Rattle.vf_grammar_read.proofs.patterns.PatternsFull.{pattern_eats}
use Rattle.vf_grammar_stops.proofs.types.Local.{Does, then_like, done_like, here_like, mark_like, name_like, take_like, choice_like}
use Rattle.vf_grammar_stops.proofs.types.LoopAlike.{Takes, items_like}
use Rattle.vf_grammar_stops.proofs.expressions.Takes.{mark_takes, name_takes, then_takes, choice_takes}
use Rattle.vf_grammar_stops.proofs.terms.Pieces.{any_like}
use Rattle.vf_grammar_stops.proofs.terms.TermsAlike.{number_like, term_like}

number_factor_like : {b : Bool} → Does b number_factor_at number_factor_at
unfolding number_factor_at
number_factor_like = then_like here_like (λ p. then_like number_like (λ n. done_like (factors.Number n.0 n.1 p)))

factor_like : {b : Bool} → Does b factor_at factor_at
unfolding factor_at
factor_like = choice_like (is_name Ghost) (then_like (name_like Ghost) (λ n. done_like (factors.Name n))) number_factor_like

-- a factor behind `*` or `/`
abbrev link_of : Bool → Factor → FactorLink
link_of v f = record { divides = v; factor = f }

factor_link_like : {b : Bool} → Does b factor_link_at factor_link_at
unfolding factor_link_at
factor_link_like =
    choice_like (is_mark Ghost punctuators.Slash) (then_like (mark_like Ghost punctuators.Slash) (λ m. then_like factor_like (λ f. done_like (link_of true f))))
    (then_like (mark_like Ghost punctuators.Star) (λ m. then_like factor_like (λ f. done_like (link_of false f))))

factor_link_takes : Takes factor_link_at
unfolding factor_link_at
factor_link_takes =
    choice_takes (λ ts. head_has (is_mark Ghost punctuators.Slash) ts) (then_takes (mark_takes Ghost punctuators.Slash) (λ m. then_like factor_like (λ f. done_like (link_of true f))))
    (then_takes (mark_takes Ghost punctuators.Star) (λ m. then_like factor_like (λ f. done_like (link_of false f))))

product_like : {b : Bool} → Does b product_at product_at
unfolding product_at factor_step
product_like = then_like factor_like (λ f. then_like (items_like is_factor_mark factor_link_like factor_link_takes []) (λ ls. done_like (amounts.Product f ls)))

amount_like : {b : Bool} → Does b amount_at amount_at
unfolding amount_at
amount_like = choice_like (is_mark Ghost punctuators.Question) (then_like (mark_like Ghost punctuators.Question) (λ q. then_like (name_like Ghost) (λ n. done_like (amounts.Binds q n)))) product_like

-- an amount between its brackets
abbrev share_of : Place → Amount → Share
share_of p a = record { place = p; amount = a }

pub share_like : {b : Bool} → Does b share_at share_at
unfolding share_at
share_like = then_like (mark_like Ghost punctuators.OpenBracket) (λ p. then_like amount_like (λ a. then_like (mark_like Ghost punctuators.CloseBracket) (λ z. done_like (share_of p a))))

pub any_share_like : {b : Bool} → Does b any_share_at any_share_at
unfolding any_share_at
any_share_like = choice_like (is_mark Ghost punctuators.OpenBracket) (then_like share_like (λ s. done_like (Some s))) (done_like None)

wild_like : {b : Bool} → Does b wild_at wild_at
unfolding wild_at
wild_like = then_like (take_like is_wild) (λ t. done_like t.place)

pub pattern_like : (d m : ℕ) → d ≤ m → Does false (pattern_at d) (pattern_at m)
unfolding pattern_at
pattern_like d m le =
    choice_like (is_mark Ghost punctuators.Question) (then_like (mark_like Ghost punctuators.Question) (λ q. then_like (name_like Ghost) (λ n. done_like (patterns.Binds q n))))
    (choice_like is_wild (then_like wild_like (λ p. done_like (patterns.Wild p))) (then_like (term_like d m le) (λ e. done_like (patterns.Is e))))

-- what is read as a pattern takes a token
pub pattern_takes : (d : ℕ) → Takes (pattern_at d)
pattern_takes d ts x rest e = (pattern_eats x).eat ts rest ((pattern_sound d ts x rest e).0)

pub patterns_like : (d m : ℕ) → d ≤ m → Does false (patterns_at d) (patterns_at m)
unfolding patterns_at
patterns_like d m le =
    then_like (mark_like Ghost punctuators.OpenParenthesis) (λ a. then_like (any_like (is_mark Ghost punctuators.CloseParenthesis) (pattern_like d m le) (pattern_takes m))
    (λ xs. then_like (mark_like Ghost punctuators.CloseParenthesis) (λ z. done_like xs)))

pub any_patterns_like : (d m : ℕ) → d ≤ m → Does false (any_patterns_at d) (any_patterns_at m)
unfolding any_patterns_at
any_patterns_like d m le = choice_like (is_mark Ghost punctuators.OpenParenthesis) (then_like (patterns_like d m le) (λ xs. done_like (Some xs))) (done_like None)

names_like : {b : Bool} → Does b names_at names_at
unfolding names_at
names_like =
    then_like (mark_like Ghost punctuators.OpenParenthesis) (λ a. then_like (any_like (is_mark Ghost punctuators.CloseParenthesis) (name_like Ghost) (name_takes Ghost))
    (λ xs. then_like (mark_like Ghost punctuators.CloseParenthesis) (λ z. done_like xs)))

any_names_like : {b : Bool} → Does b any_names_at any_names_at
unfolding any_names_at
any_names_like = choice_like (is_mark Ghost punctuators.OpenParenthesis) (then_like names_like (λ xs. done_like (Some xs))) (done_like None)

-- a constructor with names
abbrev case_of : Name → Option (List Name) → CasePattern
case_of n xs = record { constructor = n; names = xs }

pub case_pattern_like : {b : Bool} → Does b case_pattern_at case_pattern_at
unfolding case_pattern_at
case_pattern_like = then_like (name_like Ghost) (λ n. then_like any_names_like (λ xs. done_like (case_of n xs)))
