-- Whether a cast comes next is told by tokens that are used up before anything can be refused.
use Rattle.std.proofs.Common.{◌≡◌, ℕ, ◌+◌, ◌≤◌, ◌++◌, Bool, true, false, ◌&&◌, ◌||◌, List, [], ◌∷◌, length, refl, sym, subst, ap, ◌∙◌, length-append, arith}
use Rattle.std.proofs.lemmas.Slice.Eq.{bytes_eq-Decides}
use Rattle.vf_lexer.specs.declared.punctuator.Punctuator.TheVariants as punctuators
use Rattle.vf_lexer.specs.declared.token.Token.{Token}
use Rattle.vf_syntax.specs.declared.side.Side.TheVariants.{Real}
use Rattle.vf_syntax.specs.Walks.{head_has, is_mark, is_name, mark, identifier}
use Rattle.vf_cursor.specs.Types.{is_type_word}
use Rattle.vf_parse_expression.specs.Operands.{after, sees_cast_type, sees_cast}
use Rattle.vf_grammar_read.proofs.expressions.Fronts.{a_mark, a_name, Front, mark_front, identifier_front}
use Rattle.vf_grammar_stops.specs.types.Stops.{first}
use Rattle.vf_grammar_stops.proofs.types.Local.{first_front, first_has}

-- a name in front
pub name_seen : (t : Token) (ts : List Token) → is_name Real t ≡ true → Front Real a_name (t ∷ ts)
unfolding identifier
name_seen t ts h = identifier_front Real t.text (t ∷ ts) ts (rw (h, (bytes_eq-Decides t.text t.text).1 refl) refl)

-- a punctuator in front
pub mark_seen : (m : _) (t : Token) (ts : List Token) → is_mark Real m t ≡ true → Front Real (a_mark m) (t ∷ ts)
unfolding mark
mark_seen m t ts h = mark_front Real m (t ∷ ts) ts (rw h refl)

-- the second token is the same where one was used
pub front_1 : (used us rest : List Token) → first us ≡ first rest → 1 ≤ length used → first (after (used ++ us)) ≡ first (after (used ++ rest))
front_1 [] us rest h le = absurd (omega (arith, le))
front_1 (t ∷ used) us rest h le = first_front used us rest h

pub front_2 : (used us rest : List Token) → first us ≡ first rest → 2 ≤ length used → first (after (after (used ++ us))) ≡ first (after (after (used ++ rest)))
front_2 [] us rest h le = absurd (omega (arith, le))
front_2 (t ∷ used) us rest h le = front_1 used us rest h (omega (arith, le))

front_3 : (used us rest : List Token) → first us ≡ first rest → 3 ≤ length used → first (after (after (after (used ++ us)))) ≡ first (after (after (after (used ++ rest))))
front_3 [] us rest h le = absurd (omega (arith, le))
front_3 (t ∷ used) us rest h le = front_2 used us rest h (omega (arith, le))

pub and_same : (a c x y : Bool) → a ≡ x → (x ≡ true → c ≡ y) → (a && c) ≡ (x && y)
and_same a c true y h k = rw (h, k refl) refl
and_same a c false y h k = rw h refl

-- a parenthesis, a name and a star come next
abbrev pub opens : List Token → Bool
opens ts = head_has (is_mark Real punctuators.OpenParenthesis) ts

abbrev pub names : List Token → Bool
names ts = head_has (is_name Real) (after ts)

abbrev pub stars : List Token → Bool
stars ts = head_has (is_mark Real punctuators.Star) (after (after ts))

-- so much of the tokens must be used up that a look for a cast tells the same
pub record Enough (ts : List Token) (n : ℕ) : Type 0 where
  pub one : opens ts ≡ true → n + 1 ≤ length ts
  pub two : opens ts ≡ true → names ts ≡ true → n + 2 ≤ length ts
  pub three : opens ts ≡ true → names ts ≡ true → stars ts ≡ true → n + 3 ≤ length ts

cast_same : (used rest us : List Token) → Enough (used ++ rest) (length rest) → first us ≡ first rest → sees_cast (used ++ us) ≡ sees_cast (used ++ rest)
unfolding sees_cast sees_cast_type
cast_same used rest us e h =
    let size = length-append used rest in
    and_same _ _ _ _ (first_has (is_mark Real punctuators.OpenParenthesis) (used ++ us) (used ++ rest) (first_front used us rest h)) (λ o.
    let second = front_1 used us rest h (omega (arith, e.one o, size)) in
    let word = first_has (is_type_word Real) (after (used ++ us)) (after (used ++ rest)) second in
    let name = and_same _ _ _ _ (first_has (is_name Real) (after (used ++ us)) (after (used ++ rest)) second) (λ n.
    and_same _ _ _ _ (first_has (is_mark Real punctuators.Star) (after (after (used ++ us))) (after (after (used ++ rest))) (front_2 used us rest h (omega (arith, e.two o n, size)))) (λ s.
    first_has (is_mark Real punctuators.CloseParenthesis) (after (after (after (used ++ us)))) (after (after (after (used ++ rest)))) (front_3 used us rest h (omega (arith, e.three o n s, size))))) in
    λ i. word i || name i)

pub cast_told : (ts used rest us : List Token) → ts ≡ used ++ rest → Enough ts (length rest) → first us ≡ first rest → sees_cast (used ++ us) ≡ sees_cast ts
cast_told ts used rest us e n h = cast_same used rest us (subst (λ vs. Enough vs (length rest)) e n) h ∙ ap sees_cast (sym e)
