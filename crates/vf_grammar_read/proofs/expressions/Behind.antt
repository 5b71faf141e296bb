-- What stands behind an expression, and by what it goes on.
use Rattle.std.proofs.Common.{◌≡◌, ℕ, ◌≤◌, ◌<◌, Bool, true, false, ◌&&◌, ◌||◌, List, [], ◌∷◌, Option, Some, None, refl, sym, subst, ap, ◌∙◌, arith, nat_eq}
use Rattle.std.specs.Prelude.{if◌then◌else◌}
use Rattle.std.specs.Str.{bytes_eq}
use Rattle.std.proofs.lemmas.Bool.{ne_eqb, or_parts}
use Rattle.vf_base.specs.declared.place.Place.{Place}
use Rattle.vf_lexer.specs.declared.punctuator.Punctuator.{Punctuator}
use Rattle.vf_lexer.specs.declared.punctuator.Punctuator.TheVariants as punctuators
use Rattle.vf_lexer.specs.declared.token.Kind.{Kind}
use Rattle.vf_lexer.specs.declared.token.Kind.TheVariants as kinds
use Rattle.vf_lexer.specs.declared.token.Token.{Token}
use Rattle.vf_lexer.specs.Punctuators as marks
use Rattle.vf_syntax.specs.declared.side.Side.{Side}
use Rattle.vf_syntax.specs.declared.side.Side.TheVariants.{Real}
use Rattle.vf_syntax.specs.declared.operator.BinaryOperator.{BinaryOperator}
use Rattle.vf_syntax.specs.declared.operator.BinaryOperator.TheVariants as binaries
use Rattle.vf_syntax.specs.declared.operator.Level.{Level}
use Rattle.vf_syntax.specs.declared.operator.Level.TheVariants as levels
use Rattle.vf_syntax.specs.Walks.{head_has, is_on, is_punctuator, is_mark, at, mark}
use Rattle.vf_syntax.specs.Written.{binary_mark, binary_of, level_of, looseness}
use Rattle.vf_cursor.specs.Parsing.{ok, punctuator_of, is_there}
use Rattle.vf_cursor.specs.Types.{next_mark, next_on, on_level, found_then}
use Rattle.vf_parse_expression.specs.Operands.{is_part, joins, operator_at}
use Rattle.vf_grammar_read.specs.expressions.Laws.{goes_on_with}
use Rattle.vf_grammar_read.proofs.expressions.Same.{no_true}
use Rattle.vf_grammar_read.proofs.expressions.Fronts.{Class, a_mark, class_next, Front, at_stays, mark_front}
use Rattle.vf_grammar_read.proofs.expressions.Taken.{mark_here}

-- how loosely a punctuator behind an expression holds it: 1 as a part, 3 to 8 as an operator, 9 as the `?` of a conditional, 10 where it does not go on
abbrev pub mark_hold : Punctuator → ℕ
mark_hold punctuators.Arrow = 1
mark_hold punctuators.OpenBracket = 1
mark_hold punctuators.OpenParenthesis = 1
mark_hold punctuators.Star = 3
mark_hold punctuators.Slash = 3
mark_hold punctuators.Percent = 3
mark_hold punctuators.Plus = 4
mark_hold punctuators.Minus = 4
mark_hold punctuators.Less = 5
mark_hold punctuators.LessOrEqual = 5
mark_hold punctuators.Greater = 5
mark_hold punctuators.GreaterOrEqual = 5
mark_hold punctuators.Equal = 6
mark_hold punctuators.NotEqual = 6
mark_hold punctuators.AndAnd = 7
mark_hold punctuators.OrOr = 8
mark_hold punctuators.Question = 9
mark_hold p = 10

abbrev pub hold : Option Punctuator → ℕ
hold None = 10
hold (Some p) = mark_hold p

-- what stands behind holds looser than r
abbrev pub Looser : ℕ → List Token → Type 0
Looser r ts = r < hold (next_mark Real ts)

pub front_looser : (r : ℕ) (c : Class) (ts : List Token) → Front Real c ts → r < hold (class_next c) → Looser r ts
front_looser r c ts f h = subst (λ (o : Option Punctuator). r < hold o) (sym f.next_is) h

-- the next token is a punctuator
abbrev same_mark : Punctuator → Option Punctuator → Bool
same_mark q None = false
same_mark q (Some p) = bytes_eq (marks.spelling p) (marks.spelling q)

by_kind : (q : Punctuator) (b : Bool) (k : Kind) → (b && is_punctuator q k) ≡ same_mark q (if b then punctuator_of k else None)
by_kind q true (kinds.Punctuator p) = refl
by_kind q true k = refl
by_kind q false k = refl

pub next_tells : (s : Side) (q : Punctuator) (ts : List Token) → head_has (is_mark s q) ts ≡ same_mark q (next_mark s ts)
unfolding is_mark
next_tells s q [] = refl
next_tells s q (t ∷ ts) = by_kind q (is_on s t) t.kind

part_words : (ts : List Token) → head_has is_part ts ≡ (head_has (is_mark Real punctuators.Arrow) ts || (head_has (is_mark Real punctuators.OpenBracket) ts || head_has (is_mark Real punctuators.OpenParenthesis) ts))
unfolding is_part
part_words [] = refl
part_words (t ∷ ts) = refl

-- a punctuator begins a part
abbrev pub part_mark : Option Punctuator → Bool
part_mark o = same_mark punctuators.Arrow o || (same_mark punctuators.OpenBracket o || same_mark punctuators.OpenParenthesis o)

pub part_tells : (ts : List Token) → head_has is_part ts ≡ part_mark (next_mark Real ts)
part_tells ts = part_words ts ∙ (λ i. next_tells Real punctuators.Arrow ts i || (next_tells Real punctuators.OpenBracket ts i || next_tells Real punctuators.OpenParenthesis ts i))

no_part_mark : (o : Option Punctuator) → 1 < hold o → part_mark o ≡ false
no_part_mark None h = refl
no_part_mark (Some punctuators.Arrow) h = absurd (omega (arith, h))
no_part_mark (Some punctuators.OpenBracket) h = absurd (omega (arith, h))
no_part_mark (Some punctuators.OpenParenthesis) h = absurd (omega (arith, h))
no_part_mark (Some p) h = refl

pub no_part : (ts : List Token) → Looser 1 ts → head_has is_part ts ≡ false
no_part ts h = part_tells ts ∙ no_part_mark (next_mark Real ts) h

no_question_mark : (o : Option Punctuator) → 9 < hold o → same_mark punctuators.Question o ≡ false
no_question_mark None h = refl
no_question_mark (Some punctuators.Question) h = absurd (omega (arith, h))
no_question_mark (Some p) h = refl

pub no_question : (ts : List Token) → Looser 9 ts → head_has (is_mark Real punctuators.Question) ts ≡ false
no_question ts h = next_tells Real punctuators.Question ts ∙ no_question_mark (next_mark Real ts) h

pub join_tells : (l : Level) (ts : List Token) → head_has (joins l) ts ≡ is_there (found_then (found_then (next_mark Real ts) binary_of) (on_level l))
unfolding joins next_on
join_tells l [] = refl
join_tells l (t ∷ ts) = refl

other_level : (l : Level) (o : BinaryOperator) → looseness l < looseness (level_of o) → is_there (on_level l o) ≡ false
other_level l o h = rw (ne_eqb (looseness (level_of o)) (looseness l) (λ e. omega (arith, h, e))) refl

no_join_mark : (l : Level) (r : ℕ) (o : Option Punctuator) → r < hold o → looseness l ≤ r → is_there (found_then (found_then o binary_of) (on_level l)) ≡ false
no_join_mark l r None h k = refl
no_join_mark l r (Some punctuators.Star) h k = other_level l binaries.Times (omega (arith, h, k))
no_join_mark l r (Some punctuators.Slash) h k = other_level l binaries.Divide (omega (arith, h, k))
no_join_mark l r (Some punctuators.Percent) h k = other_level l binaries.Remainder (omega (arith, h, k))
no_join_mark l r (Some punctuators.Plus) h k = other_level l binaries.Plus (omega (arith, h, k))
no_join_mark l r (Some punctuators.Minus) h k = other_level l binaries.Minus (omega (arith, h, k))
no_join_mark l r (Some punctuators.Less) h k = other_level l binaries.Less (omega (arith, h, k))
no_join_mark l r (Some punctuators.LessOrEqual) h k = other_level l binaries.LessOrEqual (omega (arith, h, k))
no_join_mark l r (Some punctuators.Greater) h k = other_level l binaries.Greater (omega (arith, h, k))
no_join_mark l r (Some punctuators.GreaterOrEqual) h k = other_level l binaries.GreaterOrEqual (omega (arith, h, k))
no_join_mark l r (Some punctuators.Equal) h k = other_level l binaries.Equal (omega (arith, h, k))
no_join_mark l r (Some punctuators.NotEqual) h k = other_level l binaries.NotEqual (omega (arith, h, k))
no_join_mark l r (Some punctuators.AndAnd) h k = other_level l binaries.And (omega (arith, h, k))
no_join_mark l r (Some punctuators.OrOr) h k = other_level l binaries.Or (omega (arith, h, k))
no_join_mark l r (Some p) h k = refl

pub no_join : (l : Level) (r : ℕ) (ts : List Token) → Looser r ts → looseness l ≤ r → head_has (joins l) ts ≡ false
no_join l r ts h k = join_tells l ts ∙ no_join_mark l r (next_mark Real ts) h k

binary_back : (o : BinaryOperator) → binary_of (binary_mark o) ≡ Some o
binary_back binaries.Times = refl
binary_back binaries.Divide = refl
binary_back binaries.Remainder = refl
binary_back binaries.Plus = refl
binary_back binaries.Minus = refl
binary_back binaries.Less = refl
binary_back binaries.LessOrEqual = refl
binary_back binaries.Greater = refl
binary_back binaries.GreaterOrEqual = refl
binary_back binaries.Equal = refl
binary_back binaries.NotEqual = refl
binary_back binaries.And = refl
binary_back binaries.Or = refl

pub binary_hold : (o : BinaryOperator) → mark_hold (binary_mark o) ≡ looseness (level_of o)
binary_hold binaries.Times = refl
binary_hold binaries.Divide = refl
binary_hold binaries.Remainder = refl
binary_hold binaries.Plus = refl
binary_hold binaries.Minus = refl
binary_hold binaries.Less = refl
binary_hold binaries.LessOrEqual = refl
binary_hold binaries.Greater = refl
binary_hold binaries.GreaterOrEqual = refl
binary_hold binaries.Equal = refl
binary_hold binaries.NotEqual = refl
binary_hold binaries.And = refl
binary_hold binaries.Or = refl

-- an operator of a level stands in front
next_found : (l : Level) (o : BinaryOperator) (ts : List Token) → Front Real (a_mark (binary_mark o)) ts → nat_eq (looseness (level_of o)) (looseness l) ≡ true → found_then (found_then (next_mark Real ts) binary_of) (on_level l) ≡ Some o
next_found l o ts f h = rw (f.next_is, binary_back o, h) refl

pub joined : (l : Level) (o : BinaryOperator) (ts : List Token) → Front Real (a_mark (binary_mark o)) ts → nat_eq (looseness (level_of o)) (looseness l) ≡ true → head_has (joins l) ts ≡ true
joined l o ts f h = join_tells l ts ∙ ap is_there (next_found l o ts f h)

pub operator_full : (l : Level) (p : Place) (o : BinaryOperator) (ts us rest : List Token) → at p ts ≡ Some us → mark Real (binary_mark o) us ≡ Some rest → nat_eq (looseness (level_of o)) (looseness l) ≡ true → operator_at l ts ≡ ok (p, o) rest
unfolding operator_at next_on
operator_full l p o ts us rest h m e =
    let f : Front Real (a_mark (binary_mark o)) ts = subst (λ vs. Front Real (a_mark (binary_mark o)) vs) (sym (at_stays p ts us h)) (mark_front Real (binary_mark o) us rest m) in
    rw (next_found l o ts f e, mark_here Real (binary_mark o) p ts us rest h m) refl

-- the level of a looseness
abbrev level_at : ℕ → Level
level_at n = if nat_eq n 3 then levels.Multiplicative else (if nat_eq n 4 then levels.Additive else (if nat_eq n 5 then levels.Relational else (if nat_eq n 6 then levels.Equality else (if nat_eq n 7 then levels.And else levels.Or))))

level_back : (l : Level) → level_at (looseness l) ≡ l
level_back levels.Multiplicative = refl
level_back levels.Additive = refl
level_back levels.Relational = refl
level_back levels.Equality = refl
level_back levels.And = refl
level_back levels.Or = refl

pub level_same : (l m : Level) → looseness l ≡ looseness m → l ≡ m
level_same l m h = sym (level_back l) ∙ ap level_at h ∙ level_back m

-- what does not go on with an expression holds looser than any
ended_mark : (o : Option Punctuator) → part_mark o ≡ false → is_there (found_then o binary_of) ≡ false → same_mark punctuators.Question o ≡ false → 9 < hold o
ended_mark None a b c = omega arith
ended_mark (Some punctuators.Arrow) a b c = no_true (sym a)
ended_mark (Some punctuators.OpenBracket) a b c = no_true (sym a)
ended_mark (Some punctuators.OpenParenthesis) a b c = no_true (sym a)
ended_mark (Some punctuators.Star) a b c = no_true (sym b)
ended_mark (Some punctuators.Slash) a b c = no_true (sym b)
ended_mark (Some punctuators.Percent) a b c = no_true (sym b)
ended_mark (Some punctuators.Plus) a b c = no_true (sym b)
ended_mark (Some punctuators.Minus) a b c = no_true (sym b)
ended_mark (Some punctuators.Less) a b c = no_true (sym b)
ended_mark (Some punctuators.LessOrEqual) a b c = no_true (sym b)
ended_mark (Some punctuators.Greater) a b c = no_true (sym b)
ended_mark (Some punctuators.GreaterOrEqual) a b c = no_true (sym b)
ended_mark (Some punctuators.Equal) a b c = no_true (sym b)
ended_mark (Some punctuators.NotEqual) a b c = no_true (sym b)
ended_mark (Some punctuators.AndAnd) a b c = no_true (sym b)
ended_mark (Some punctuators.OrOr) a b c = no_true (sym b)
ended_mark (Some punctuators.Question) a b c = no_true (sym c)
ended_mark (Some p) a b c = omega arith

pub ended : (ts : List Token) → goes_on_with ts ≡ false → Looser 9 ts
unfolding goes_on_with
ended ts h =
    let a = or_parts (head_has is_part ts) _ h in
    let b = or_parts (is_there (found_then (next_mark Real ts) binary_of)) _ a.1 in
    ended_mark (next_mark Real ts) (sym (part_tells ts) ∙ a.0) b.0 (sym (next_tells Real punctuators.Question ts) ∙ b.1)

partless_mark : (o : Option Punctuator) → part_mark o ≡ false → 1 < hold o
partless_mark None h = omega arith
partless_mark (Some punctuators.Arrow) h = no_true (sym h)
partless_mark (Some punctuators.OpenBracket) h = no_true (sym h)
partless_mark (Some punctuators.OpenParenthesis) h = no_true (sym h)
partless_mark (Some p) h = omega arith

pub partless : (ts : List Token) → head_has is_part ts ≡ false → Looser 1 ts
partless ts h = partless_mark (next_mark Real ts) (sym (part_tells ts) ∙ h)

no_star_mark : (o : Option Punctuator) → 3 < hold o → same_mark punctuators.Star o ≡ false
no_star_mark None h = refl
no_star_mark (Some punctuators.Star) h = absurd (omega (arith, h))
no_star_mark (Some p) h = refl

pub no_star : (ts : List Token) → Looser 3 ts → head_has (is_mark Real punctuators.Star) ts ≡ false
no_star ts h = next_tells Real punctuators.Star ts ∙ no_star_mark (next_mark Real ts) h
