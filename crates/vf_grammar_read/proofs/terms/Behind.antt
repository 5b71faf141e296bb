-- What stands behind an expression of ghost text, and by what it goes on.
use Rattle.std.proofs.Common.{◌≡◌, ℕ, ◌≤◌, ◌<◌, Bool, true, false, ◌&&◌, List, [], ◌∷◌, Option, Some, None, refl, sym, subst, ap, ◌∙◌, arith, nat_eq}
use Rattle.std.specs.Prelude.{if◌then◌else◌}
use Rattle.std.proofs.lemmas.Bool.{ne_eqb, or_parts}
use Rattle.vf_lexer.specs.declared.punctuator.Punctuator.{Punctuator}
use Rattle.vf_lexer.specs.declared.punctuator.Punctuator.TheVariants as punctuators
use Rattle.vf_lexer.specs.declared.token.Kind.{Kind}
use Rattle.vf_lexer.specs.declared.token.Kind.TheVariants as kinds
use Rattle.vf_lexer.specs.declared.token.Token.{Token}
use Rattle.vf_syntax.specs.declared.side.Side.TheVariants.{Ghost}
use Rattle.vf_syntax.specs.declared.operator.BinaryOperator.{BinaryOperator}
use Rattle.vf_syntax.specs.declared.operator.BinaryOperator.TheVariants as binaries
use Rattle.vf_syntax.specs.declared.operator.Level.{Level}
use Rattle.vf_syntax.specs.Walks.{head_has, is_on, is_punctuator, is_mark}
use Rattle.vf_syntax.specs.Written.{binary_mark, binary_of, level_of, looseness}
use Rattle.vf_cursor.specs.Parsing.{punctuator_of, is_there}
use Rattle.vf_cursor.specs.Types.{next_mark, next_on, on_level, found_then}
use Rattle.vf_parse_term.specs.Terms.{joins}
use Rattle.vf_parse_term.proofs.Heads.{joins_next}
use Rattle.vf_grammar_read.proofs.expressions.Same.{no_true}
use Rattle.vf_grammar_read.proofs.expressions.Fronts.{Class, a_mark, class_next, Front}
use Rattle.vf_grammar_read.specs.terms.Laws.{goes_on_with_term}

-- how loosely a punctuator behind an expression holds it: 1 as the arguments of a name, 3 to 8 as an operator, 9 where it does not go on
abbrev pub mark_hold : Punctuator → ℕ
mark_hold punctuators.OpenParenthesis = 1
mark_hold punctuators.Star = 3
mark_hold punctuators.Slash = 3
mark_hold punctuators.Percent = 3
mark_hold punctuators.Plus = 4
mark_hold punctuators.Minus = 4
mark_hold punctuators.Less = 5
mark_hold punctuators.LessOrEqual = 5
mark_hold punctuators.Greater = 5
mark_hold punctuators.GreaterOrEqual = 5
mark_hold punctuators.Equal = 6
mark_hold punctuators.NotEqual = 6
mark_hold punctuators.AndAnd = 7
mark_hold punctuators.OrOr = 8
mark_hold p = 9

abbrev pub hold : Option Punctuator → ℕ
hold None = 9
hold (Some p) = mark_hold p

-- what stands behind holds looser than r
abbrev pub Looser : ℕ → List Token → Type 0
Looser r ts = r < hold (next_mark Ghost ts)

pub front_looser : (r : ℕ) (c : Class) (ts : List Token) → Front Ghost c ts → r < hold (class_next c) → Looser r ts
front_looser r c ts f h = subst (λ (o : Option Punctuator). r < hold o) (sym f.next_is) h

-- the next token begins arguments
abbrev pub opens : Option Punctuator → Bool
opens None = false
opens (Some punctuators.OpenParenthesis) = true
opens (Some p) = false

opens_kind : (b : Bool) (k : Kind) → (b && is_punctuator punctuators.OpenParenthesis k) ≡ opens (if b then punctuator_of k else None)
opens_kind true (kinds.Punctuator punctuators.OpenParenthesis) = refl
opens_kind true (kinds.Punctuator p) = refl
opens_kind true k = refl
opens_kind false k = refl

opens_tell : (ts : List Token) → head_has (is_mark Ghost punctuators.OpenParenthesis) ts ≡ opens (next_mark Ghost ts)
unfolding is_mark
opens_tell [] = refl
opens_tell (t ∷ ts) = opens_kind (is_on Ghost t) t.kind

no_opening : (o : Option Punctuator) → 1 < hold o → opens o ≡ false
no_opening None h = refl
no_opening (Some punctuators.OpenParenthesis) h = absurd (omega (arith, h))
no_opening (Some p) h = refl

pub unopened : (ts : List Token) → Looser 1 ts → head_has (is_mark Ghost punctuators.OpenParenthesis) ts ≡ false
unopened ts h = opens_tell ts ∙ no_opening (next_mark Ghost ts) h

other_level : (l : Level) (o : BinaryOperator) → looseness l < looseness (level_of o) → is_there (on_level l o) ≡ false
other_level l o h = rw (ne_eqb (looseness (level_of o)) (looseness l) (λ e. omega (arith, h, e))) refl

no_join_mark : (l : Level) (r : ℕ) (o : Option Punctuator) → r < hold o → looseness l ≤ r → is_there (found_then (found_then o binary_of) (on_level l)) ≡ false
no_join_mark l r None h k = refl
no_join_mark l r (Some punctuators.Star) h k = other_level l binaries.Times (omega (arith, h, k))
no_join_mark l r (Some punctuators.Slash) h k = other_level l binaries.Divide (omega (arith, h, k))
no_join_mark l r (Some punctuators.Percent) h k = other_level l binaries.Remainder (omega (arith, h, k))
no_join_mark l r (Some punctuators.Plus) h k = other_level l binaries.Plus (omega (arith, h, k))
no_join_mark l r (Some punctuators.Minus) h k = other_level l binaries.Minus (omega (arith, h, k))
no_join_mark l r (Some punctuators.Less) h k = other_level l binaries.Less (omega (arith, h, k))
no_join_mark l r (Some punctuators.LessOrEqual) h k = other_level l binaries.LessOrEqual (omega (arith, h, k))
no_join_mark l r (Some punctuators.Greater) h k = other_level l binaries.Greater (omega (arith, h, k))
no_join_mark l r (Some punctuators.GreaterOrEqual) h k = other_level l binaries.GreaterOrEqual (omega (arith, h, k))
no_join_mark l r (Some punctuators.Equal) h k = other_level l binaries.Equal (omega (arith, h, k))
no_join_mark l r (Some punctuators.NotEqual) h k = other_level l binaries.NotEqual (omega (arith, h, k))
no_join_mark l r (Some punctuators.AndAnd) h k = other_level l binaries.And (omega (arith, h, k))
no_join_mark l r (Some punctuators.OrOr) h k = other_level l binaries.Or (omega (arith, h, k))
no_join_mark l r (Some p) h k = refl

pub no_join : (l : Level) (r : ℕ) (ts : List Token) → Looser r ts → looseness l ≤ r → head_has (joins l) ts ≡ false
unfolding next_on
no_join l r ts h k = joins_next l ts ∙ no_join_mark l r (next_mark Ghost ts) h k

binary_back : (o : BinaryOperator) → binary_of (binary_mark o) ≡ Some o
binary_back binaries.Times = refl
binary_back binaries.Divide = refl
binary_back binaries.Remainder = refl
binary_back binaries.Plus = refl
binary_back binaries.Minus = refl
binary_back binaries.Less = refl
binary_back binaries.LessOrEqual = refl
binary_back binaries.Greater = refl
binary_back binaries.GreaterOrEqual = refl
binary_back binaries.Equal = refl
binary_back binaries.NotEqual = refl
binary_back binaries.And = refl
binary_back binaries.Or = refl

pub binary_hold : (o : BinaryOperator) → mark_hold (binary_mark o) ≡ looseness (level_of o)
binary_hold binaries.Times = refl
binary_hold binaries.Divide = refl
binary_hold binaries.Remainder = refl
binary_hold binaries.Plus = refl
binary_hold binaries.Minus = refl
binary_hold binaries.Less = refl
binary_hold binaries.LessOrEqual = refl
binary_hold binaries.Greater = refl
binary_hold binaries.GreaterOrEqual = refl
binary_hold binaries.Equal = refl
binary_hold binaries.NotEqual = refl
binary_hold binaries.And = refl
binary_hold binaries.Or = refl

-- an operator of a level stands in front
pub next_found : (l : Level) (o : BinaryOperator) (ts : List Token) → Front Ghost (a_mark (binary_mark o)) ts → nat_eq (looseness (level_of o)) (looseness l) ≡ true → next_on Ghost l ts ≡ Some o
unfolding next_on
next_found l o ts f h = rw (f.next_is, binary_back o, h) refl

pub joined : (l : Level) (o : BinaryOperator) (ts : List Token) → Front Ghost (a_mark (binary_mark o)) ts → nat_eq (looseness (level_of o)) (looseness l) ≡ true → head_has (joins l) ts ≡ true
joined l o ts f h = joins_next l ts ∙ ap is_there (next_found l o ts f h)

-- what does not go on with an expression holds looser than any
ended_mark : (o : Option Punctuator) → opens o ≡ false → is_there (found_then o binary_of) ≡ false → 8 < hold o
ended_mark None a b = omega arith
ended_mark (Some punctuators.OpenParenthesis) a b = no_true (sym a)
ended_mark (Some punctuators.Star) a b = no_true (sym b)
ended_mark (Some punctuators.Slash) a b = no_true (sym b)
ended_mark (Some punctuators.Percent) a b = no_true (sym b)
ended_mark (Some punctuators.Plus) a b = no_true (sym b)
ended_mark (Some punctuators.Minus) a b = no_true (sym b)
ended_mark (Some punctuators.Less) a b = no_true (sym b)
ended_mark (Some punctuators.LessOrEqual) a b = no_true (sym b)
ended_mark (Some punctuators.Greater) a b = no_true (sym b)
ended_mark (Some punctuators.GreaterOrEqual) a b = no_true (sym b)
ended_mark (Some punctuators.Equal) a b = no_true (sym b)
ended_mark (Some punctuators.NotEqual) a b = no_true (sym b)
ended_mark (Some punctuators.AndAnd) a b = no_true (sym b)
ended_mark (Some punctuators.OrOr) a b = no_true (sym b)
ended_mark (Some p) a b = omega arith

pub ended : (ts : List Token) → goes_on_with_term ts ≡ false → Looser 8 ts
unfolding goes_on_with_term
ended ts h =
    let a = or_parts (head_has (is_mark Ghost punctuators.OpenParenthesis) ts) _ h in
    ended_mark (next_mark Ghost ts) (sym (opens_tell ts) ∙ a.0) a.1
