-- What is read without an expression in it is spelled so.
use Rattle.std.proofs.Common.{◌≡◌, ℕ, zero, suc, ◌+◌, ◌≤◌, true, List, Option, Some, None, refl, subst, inl, inr, arith, nat_eq}
use Rattle.vf_base.specs.declared.place.Place.{Place}
use Rattle.vf_lexer.specs.declared.punctuator.Punctuator.TheVariants as punctuators
use Rattle.vf_lexer.specs.declared.token.Token.{Token}
use Rattle.vf_syntax.specs.declared.keyword.Keyword.TheVariants as keywords
use Rattle.vf_syntax.specs.declared.side.Side.TheVariants.{Real}
use Rattle.vf_syntax.specs.declared.operator.BinaryOperator.{BinaryOperator}
use Rattle.vf_syntax.specs.declared.operator.Level.{Level}
use Rattle.vf_syntax.specs.ExprTree.{ExprTree, PostfixTree}
use Rattle.vf_syntax.specs.Walks.{at, mark, word, number, character}
use Rattle.vf_syntax.specs.Written.{binary_mark, level_of, looseness}
use Rattle.vf_syntax.specs.Expressions.{expr, postfix, nesting, part_nesting, rank}
use Rattle.vf_cursor.specs.Parsing.{Parser, ok, here_at, mark_at, word_at, name_at, number_at, character_at}
use Rattle.vf_cursor.specs.Types.{next_mark, next_on, on_level, found_then}
use Rattle.vf_cursor.proofs.Facts.{bind_ok, moved, chose}
use Rattle.vf_syntax.specs.Written.{binary_of}
use Rattle.vf_parse_expression.specs.Operands.{operator_found, operator_at, number_primary_at, character_primary_at, field_at, malloc_struct_at, nth_level}
use Rattle.vf_parse_expression.proofs.Small.{goes, here_walk, mark_walk, word_walk, name_walk, number_walk, character_walk}

-- an expression was read: the tokens that were taken spell it, it nests no deeper than it may, with k more, and it holds together so closely
pub record Spelt (k r d : ℕ) (x : ExprTree) (ts rest : List Token) : Type 0 where
  pub walk : expr x ts ≡ Some rest
  pub deep : nesting x + k ≤ d
  pub close : rank x ≤ r

-- what a parser reads is so
abbrev pub Reads : ℕ → ℕ → ℕ → Parser ExprTree → Type 0
Reads k r d p = (ts : List Token) (x : ExprTree) (rest : List Token) → p ts ≡ ok x rest → Spelt k r d x ts rest

-- an operator of a level was read
abbrev pub Joined : Level → List Token → (Place × BinaryOperator) → List Token → Type 0
Joined l ts x rest = (at x.0 ts ≡ Some ts) × (mark Real (binary_mark x.1) ts ≡ Some rest) × (nat_eq (looseness (level_of x.1)) (looseness l) ≡ true)

of_level : (l : Level) (q : Option BinaryOperator) (o : BinaryOperator) → found_then q (on_level l) ≡ Some o → nat_eq (looseness (level_of o)) (looseness l) ≡ true
of_level l None o e = absurd cc
of_level l (Some p) o e =
    elim (chose (nat_eq (looseness (level_of p)) (looseness l)) (Some p) None _ e) [
      | inl h ↦ let same : p ≡ o = cc in subst (λ (z : BinaryOperator). nat_eq (looseness (level_of z)) (looseness l) ≡ true) same h.0
      | inr h ↦ absurd cc
    ]

level_found : (l : Level) (ts : List Token) (o : BinaryOperator) → next_on Real l ts ≡ Some o → nat_eq (looseness (level_of o)) (looseness l) ≡ true
unfolding next_on
level_found l ts o e = of_level l (found_then (next_mark Real ts) binary_of) o e

by_found : (l : Level) (ts : List Token) (o : Option BinaryOperator) (x : Place × BinaryOperator) (rest : List Token) → next_on Real l ts ≡ o → operator_found o ts ≡ ok x rest → Joined l ts x rest
by_found l ts None x rest h e = absurd cc
by_found l ts (Some o) x rest h e =
    let m = bind_ok {r = mark_at Real (binary_mark o) ts} e in
    let w = mark_walk Real (binary_mark o) ts m.0.0 m.0.1 m.1 in
    moved (λ (y : Place × BinaryOperator) r. Joined l ts y r) m.2 (w.0, w.1, level_found l ts o h)

pub operator_sound : (l : Level) (ts : List Token) (x : Place × BinaryOperator) (rest : List Token) → operator_at l ts ≡ ok x rest → Joined l ts x rest
unfolding operator_at
operator_sound l ts x rest e = by_found l ts (next_on Real l ts) x rest refl e

pub level_looseness : (j : ℕ) → j ≤ 5 → looseness (nth_level j) ≡ j + 3
level_looseness zero h = refl
level_looseness (suc zero) h = refl
level_looseness (suc (suc zero)) h = refl
level_looseness (suc (suc (suc zero))) h = refl
level_looseness (suc (suc (suc (suc zero)))) h = refl
level_looseness (suc (suc (suc (suc (suc zero))))) h = refl
level_looseness (suc (suc (suc (suc (suc (suc j)))))) h = absurd (omega (arith, h))

pub number_primary_sound : (d : ℕ) → Reads 0 0 d number_primary_at
unfolding number_primary_at
number_primary_sound d ts x rest e =
    let h = bind_ok {r = here_at ts} e in
    let n = bind_ok {r = number_at Real h.0.1} h.2 in
    moved (λ y r. Spelt 0 0 d y ts r) n.2
    (record { walk = goes (number Real n.0.0.0 n.0.0.1) (here_walk ts h.0.0 h.0.1 h.1).0 (number_walk Real h.0.1 n.0.0 n.0.1 n.1); deep = omega arith; close = omega arith })

pub character_primary_sound : (d : ℕ) → Reads 0 0 d character_primary_at
unfolding character_primary_at
character_primary_sound d ts x rest e =
    let h = bind_ok {r = here_at ts} e in
    let n = bind_ok {r = character_at h.0.1} h.2 in
    moved (λ y r. Spelt 0 0 d y ts r) n.2
    (record { walk = goes (character n.0.0) (here_walk ts h.0.0 h.0.1 h.1).0 (character_walk h.0.1 n.0.0 n.0.1 n.1); deep = omega arith; close = omega arith })

pub field_sound : (d : ℕ) (ts : List Token) (x : PostfixTree) (rest : List Token) → field_at ts ≡ ok x rest → (postfix x ts ≡ Some rest) × (part_nesting x ≤ d)
unfolding field_at
field_sound d ts x rest e =
    let a = bind_ok {r = mark_at Real punctuators.Arrow ts} e in
    let n = bind_ok {r = name_at Real a.0.1} a.2 in
    let am = mark_walk Real punctuators.Arrow ts a.0.0 a.0.1 a.1 in
    moved (λ y r. (postfix y ts ≡ Some r) × (part_nesting y ≤ d)) n.2 (rw (am.0, am.1, name_walk Real a.0.1 n.0.0 n.0.1 n.1) refl, omega arith)

pub malloc_struct_sound : (p : Place) (d : ℕ) (ss us ts : List Token) (x : ExprTree) (rest : List Token) → at p ss ≡ Some ss → word Real keywords.Malloc ss ≡ Some us → mark Real punctuators.OpenParenthesis us ≡ Some ts
    → malloc_struct_at p ts ≡ ok x rest → Spelt 0 0 d x ss rest
unfolding malloc_struct_at
malloc_struct_sound p d ss us ts x rest h1 h2 h3 e =
    let a = bind_ok {r = word_at Real keywords.Sizeof ts} e in
    let b = bind_ok {r = mark_at Real punctuators.OpenParenthesis a.0.1} a.2 in
    let c = bind_ok {r = word_at Real keywords.Struct b.0.1} b.2 in
    let n = bind_ok {r = name_at Real c.0.1} c.2 in
    let f = bind_ok {r = mark_at Real punctuators.CloseParenthesis n.0.1} n.2 in
    let g = bind_ok {r = mark_at Real punctuators.CloseParenthesis f.0.1} f.2 in
    let aw = word_walk Real keywords.Sizeof ts a.0.0 a.0.1 a.1 in
    let bw = mark_walk Real punctuators.OpenParenthesis a.0.1 b.0.0 b.0.1 b.1 in
    let cw = word_walk Real keywords.Struct b.0.1 c.0.0 c.0.1 c.1 in
    let nw = name_walk Real c.0.1 n.0.0 n.0.1 n.1 in
    let fw = mark_walk Real punctuators.CloseParenthesis n.0.1 f.0.0 f.0.1 f.1 in
    let gw = mark_walk Real punctuators.CloseParenthesis f.0.1 g.0.0 g.0.1 g.1 in
    moved (λ y r. Spelt 0 0 d y ss r) g.2
    (record { walk = rw (h1, h2, h3, aw.1, bw.1, cw.1, nw, fw.1, gw.1) refl; deep = omega arith; close = omega arith })
