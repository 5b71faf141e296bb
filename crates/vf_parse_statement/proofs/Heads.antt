-- What stands in front of the statement in a loop or an `if`, and what holds no statement in it, is spelled so.
use Rattle.std.proofs.Common.{◌≡◌, ℕ, ◌+◌, ◌≤◌, Bool, List, Option, Some, refl, inl, inr, arith}
use Rattle.vf_base.specs.declared.place.Place.{Place}
use Rattle.vf_lexer.specs.declared.punctuator.Punctuator.TheVariants as punctuators
use Rattle.vf_lexer.specs.declared.token.Token.{Token}
use Rattle.vf_syntax.specs.declared.keyword.Keyword.TheVariants as keywords
use Rattle.vf_syntax.specs.declared.side.Side.TheVariants.{Real}
use Rattle.vf_syntax.specs.declared.side.Grammar.{Grammar}
use Rattle.vf_syntax.specs.declared.side.Grammar.TheVariants as grammars
use Rattle.vf_syntax.specs.declared.contract.Invariant.{Invariant}
use Rattle.vf_syntax.specs.ExprTree.{ExprTree}
use Rattle.vf_syntax.specs.Walks.{Walk, head_has, is_mark, at, mark, word}
use Rattle.vf_syntax.specs.Lists.{optional, or_none}
use Rattle.vf_syntax.specs.Expressions.{expr, nesting}
use Rattle.vf_syntax.specs.Statements.{owed, simple, simple_nesting, first, first_nesting, invariant_walk, invariant_nesting, whole_nesting}
use Rattle.vf_cursor.specs.Parsing.{Parser, ok, mark_at, word_at}
use Rattle.vf_cursor.proofs.Facts.{bind_ok, moved, chose}
use Rattle.vf_parse_expression.proofs.Small.{mark_walk, word_walk}
use Rattle.vf_parse_expression.proofs.Collected.{Itemised}
use Rattle.vf_parse_expression.proofs.OperandsSound.{Reads}
use Rattle.vf_parse_simple.specs.Simples.{simple_at, first_at}
use Rattle.vf_parse_simple.proofs.Sound.{simple_sound, first_sound}
use Rattle.vf_parse_statement.specs.declared.flat.Parts.{Parts}
use Rattle.vf_parse_statement.specs.Parsers.{owed_at, unless_at, optional_expr_at, condition_at, optional_first_at, optional_step_at, head_at, while_head_at, for_head_at}

pub owed_sound : {A : Type 0} (w : A → Walk) (n : A → ℕ) (d : ℕ) (p : Parser A) → Itemised w n d p → (g : Grammar) → Itemised (owed g w) (or_none n) d (owed_at g p)
owed_sound {A = A} w n d p hp grammars.Whole ts x rest eq =
    let a = bind_ok {r = p ts} eq in
    moved (λ (y : Option A) r. (owed grammars.Whole w y ts ≡ Some r) × (or_none n y ≤ d)) a.2 (hp ts a.0.0 a.0.1 a.1)
owed_sound {A = A} w n d p hp grammars.Plain ts x rest eq = moved (λ (y : Option A) r. (owed grammars.Plain w y ts ≡ Some r) × (or_none n y ≤ d)) eq (refl, omega arith)

pub unless_sound : {A : Type 0} (w : A → Walk) (n : A → ℕ) (d : ℕ) (p : Parser A) → Itemised w n d p → (ends : Token → Bool) → Itemised (optional w) (or_none n) d (unless_at ends p)
unless_sound {A = A} w n d p hp ends ts x rest eq =
    elim (chose (head_has ends ts) _ _ _ eq) [
      | inl h ↦ moved (λ (y : Option A) r. (optional w y ts ≡ Some r) × (or_none n y ≤ d)) h.1 (refl, omega arith)
      | inr h ↦
          let a = bind_ok {r = p ts} h.1 in
          moved (λ (y : Option A) r. (optional w y ts ≡ Some r) × (or_none n y ≤ d)) a.2 (hp ts a.0.0 a.0.1 a.1)
    ]

pub whole_sound : (e : Parser ExprTree) (d : ℕ) → Reads 1 9 d e → Itemised expr whole_nesting d e
whole_sound e d he ts x rest eq = let h = he ts x rest eq in (h.walk, h.deep)

pub optional_expr_sound : (e : Parser ExprTree) (d : ℕ) → Reads 1 9 d e → Itemised (optional expr) (or_none whole_nesting) d (optional_expr_at e)
unfolding optional_expr_at
optional_expr_sound e d he = unless_sound expr whole_nesting d e (whole_sound e d he) (is_mark Real punctuators.Semicolon)

pub optional_first_sound : (e f : Parser ExprTree) (d : ℕ) → Reads 1 9 d e → Reads 0 1 d f → Itemised (optional first) (or_none first_nesting) d (optional_first_at e f)
unfolding optional_first_at
optional_first_sound e f d he hf = unless_sound first first_nesting d (first_at e f) (first_sound e f d he hf) (is_mark Real punctuators.Semicolon)

pub optional_step_sound : (e f : Parser ExprTree) (d : ℕ) → Reads 1 9 d e → Reads 0 1 d f → Itemised (optional simple) (or_none simple_nesting) d (optional_step_at e f)
unfolding optional_step_at
optional_step_sound e f d he hf = unless_sound simple simple_nesting d (simple_at e f) (simple_sound e f d he hf) (is_mark Real punctuators.CloseParenthesis)

-- an expression was read between parentheses
pub record Conditioned (d : ℕ) (ts : List Token) (c : ExprTree) (rest : List Token) : Type 0 where
  pub inside : List Token
  pub behind : List Token
  pub opens : mark Real punctuators.OpenParenthesis ts ≡ Some inside
  pub walk : expr c inside ≡ Some behind
  pub closes : mark Real punctuators.CloseParenthesis behind ≡ Some rest
  pub deep : nesting c + 1 ≤ d

pub condition_sound : (e : Parser ExprTree) (d : ℕ) → Reads 1 9 d e → (ts : List Token) (c : ExprTree) (rest : List Token) → condition_at e ts ≡ ok c rest → Conditioned d ts c rest
unfolding condition_at
condition_sound e d he ts c rest eq =
    let o = bind_ok {r = mark_at Real punctuators.OpenParenthesis ts} eq in
    let a = bind_ok {r = e o.0.1} o.2 in
    let m = bind_ok {r = mark_at Real punctuators.CloseParenthesis a.0.1} a.2 in
    let ow = mark_walk Real punctuators.OpenParenthesis ts o.0.0 o.0.1 o.1 in
    let aw = he o.0.1 a.0.0 a.0.1 a.1 in
    let mw = mark_walk Real punctuators.CloseParenthesis a.0.1 m.0.0 m.0.1 m.1 in
    moved (λ y r. Conditioned d ts y r) m.2 (record { inside = o.0.1; behind = a.0.1; opens = ow.1; walk = aw.walk; closes = mw.1; deep = aw.deep })

-- the parts of a `for` between its parentheses were read
pub record Headed (d : ℕ) (ts : List Token) (x : Parts) (rest : List Token) : Type 0 where
  pub opened : List Token
  pub begun : List Token
  pub parted : List Token
  pub tested : List Token
  pub parted_again : List Token
  pub stepped : List Token
  pub opens : mark Real punctuators.OpenParenthesis ts ≡ Some opened
  pub begins : optional first x.first opened ≡ Some begun
  pub parts : mark Real punctuators.Semicolon begun ≡ Some parted
  pub tests : optional expr x.condition parted ≡ Some tested
  pub parts_again : mark Real punctuators.Semicolon tested ≡ Some parted_again
  pub steps : optional simple x.step parted_again ≡ Some stepped
  pub closes : mark Real punctuators.CloseParenthesis stepped ≡ Some rest
  pub first_deep : or_none first_nesting x.first ≤ d
  pub condition_deep : or_none whole_nesting x.condition ≤ d
  pub step_deep : or_none simple_nesting x.step ≤ d

pub head_sound : (e f : Parser ExprTree) (d : ℕ) → Reads 1 9 d e → Reads 0 1 d f → (ts : List Token) (x : Parts) (rest : List Token) → head_at e f ts ≡ ok x rest → Headed d ts x rest
unfolding head_at
head_sound e f d he hf ts x rest eq =
    let o = bind_ok {r = mark_at Real punctuators.OpenParenthesis ts} eq in
    let a = bind_ok {r = optional_first_at e f o.0.1} o.2 in
    let m = bind_ok {r = mark_at Real punctuators.Semicolon a.0.1} a.2 in
    let c = bind_ok {r = optional_expr_at e m.0.1} m.2 in
    let n = bind_ok {r = mark_at Real punctuators.Semicolon c.0.1} c.2 in
    let s = bind_ok {r = optional_step_at e f n.0.1} n.2 in
    let z = bind_ok {r = mark_at Real punctuators.CloseParenthesis s.0.1} s.2 in
    let ow = mark_walk Real punctuators.OpenParenthesis ts o.0.0 o.0.1 o.1 in
    let aw = optional_first_sound e f d he hf o.0.1 a.0.0 a.0.1 a.1 in
    let mw = mark_walk Real punctuators.Semicolon a.0.1 m.0.0 m.0.1 m.1 in
    let cw = optional_expr_sound e d he m.0.1 c.0.0 c.0.1 c.1 in
    let nw = mark_walk Real punctuators.Semicolon c.0.1 n.0.0 n.0.1 n.1 in
    let sw = optional_step_sound e f d he hf n.0.1 s.0.0 s.0.1 s.1 in
    let zw = mark_walk Real punctuators.CloseParenthesis s.0.1 z.0.0 z.0.1 z.1 in
    moved (λ (y : Parts) r. Headed d ts y r) z.2
    (record {
      opened = o.0.1;
      begun = a.0.1;
      parted = m.0.1;
      tested = c.0.1;
      parted_again = n.0.1;
      stepped = s.0.1;
      opens = ow.1;
      begins = aw.0;
      parts = mw.1;
      tests = cw.0;
      parts_again = nw.1;
      steps = sw.0;
      closes = zw.1;
      first_deep = aw.1;
      condition_deep = cw.1;
      step_deep = sw.1;
    })

-- a `while` up to its body was read
pub record Whiled (g : Grammar) (d : ℕ) (ts : List Token) (x : Place × ExprTree × Option Invariant) (rest : List Token) : Type 0 where
  pub behind_word : List Token
  pub behind_condition : List Token
  pub here : at x.0 ts ≡ Some ts
  pub begins : word Real keywords.While ts ≡ Some behind_word
  pub condition : Conditioned d behind_word x.1 behind_condition
  pub owes : owed g invariant_walk x.2 behind_condition ≡ Some rest
  pub invariant_deep : or_none invariant_nesting x.2 ≤ d

pub while_head_sound : (g : Grammar) (e : Parser ExprTree) (i : Parser Invariant) (d : ℕ) → Reads 1 9 d e → Itemised invariant_walk invariant_nesting d i
    → (ts : List Token) (x : Place × ExprTree × Option Invariant) (rest : List Token) → while_head_at g e i ts ≡ ok x rest → Whiled g d ts x rest
unfolding while_head_at
while_head_sound g e i d he hi ts x rest eq =
    let w = bind_ok {r = word_at Real keywords.While ts} eq in
    let c = bind_ok {r = condition_at e w.0.1} w.2 in
    let v = bind_ok {r = owed_at g i c.0.1} c.2 in
    let ww = word_walk Real keywords.While ts w.0.0 w.0.1 w.1 in
    let cw = condition_sound e d he w.0.1 c.0.0 c.0.1 c.1 in
    let vw = owed_sound invariant_walk invariant_nesting d i hi g c.0.1 v.0.0 v.0.1 v.1 in
    moved (λ (y : Place × ExprTree × Option Invariant) r. Whiled g d ts y r) v.2
    (record { behind_word = w.0.1; behind_condition = c.0.1; here = ww.0; begins = ww.1; condition = cw; owes = vw.0; invariant_deep = vw.1 })

-- a `for` up to its body was read
pub record Forred (g : Grammar) (d : ℕ) (ts : List Token) (x : Place × Parts × Option Invariant) (rest : List Token) : Type 0 where
  pub behind_word : List Token
  pub behind_parts : List Token
  pub here : at x.0 ts ≡ Some ts
  pub begins : word Real keywords.For ts ≡ Some behind_word
  pub parts : Headed d behind_word x.1 behind_parts
  pub owes : owed g invariant_walk x.2 behind_parts ≡ Some rest
  pub invariant_deep : or_none invariant_nesting x.2 ≤ d

pub for_head_sound : (g : Grammar) (e f : Parser ExprTree) (i : Parser Invariant) (d : ℕ) → Reads 1 9 d e → Reads 0 1 d f → Itemised invariant_walk invariant_nesting d i
    → (ts : List Token) (x : Place × Parts × Option Invariant) (rest : List Token) → for_head_at g e f i ts ≡ ok x rest → Forred g d ts x rest
unfolding for_head_at
for_head_sound g e f i d he hf hi ts x rest eq =
    let w = bind_ok {r = word_at Real keywords.For ts} eq in
    let h = bind_ok {r = head_at e f w.0.1} w.2 in
    let v = bind_ok {r = owed_at g i h.0.1} h.2 in
    let ww = word_walk Real keywords.For ts w.0.0 w.0.1 w.1 in
    let hw = head_sound e f d he hf w.0.1 h.0.0 h.0.1 h.1 in
    let vw = owed_sound invariant_walk invariant_nesting d i hi g h.0.1 v.0.0 v.0.1 v.1 in
    moved (λ (y : Place × Parts × Option Invariant) r. Forred g d ts y r) v.2
    (record { behind_word = w.0.1; behind_parts = h.0.1; here = ww.0; begins = ww.1; parts = hw; owes = vw.0; invariant_deep = vw.1 })
