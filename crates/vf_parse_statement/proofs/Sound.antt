-- What is read as a statement is spelled so, and nests no deeper than it may.
use Rattle.std.proofs.Common.{◌≡◌, ℕ, zero, suc, ◌+◌, ◌≤◌, Bool, true, false, List, [], length, Some, refl, sym, ◌∙◌, inl, inr, arith}
use Rattle.vf_lexer.specs.declared.punctuator.Punctuator.TheVariants as punctuators
use Rattle.vf_lexer.specs.declared.token.Token.{Token}
use Rattle.vf_syntax.specs.declared.keyword.Keyword.TheVariants as keywords
use Rattle.vf_syntax.specs.declared.side.Side.TheVariants.{Real, Ghost}
use Rattle.vf_syntax.specs.declared.side.Grammar.{Grammar}
use Rattle.vf_syntax.specs.declared.side.Grammar.TheVariants as grammars
use Rattle.vf_syntax.specs.declared.contract.Invariant.{Invariant}
use Rattle.vf_syntax.specs.declared.item.Body.{Body}
use Rattle.vf_syntax.specs.declared.written.CType.{CType}
use Rattle.vf_syntax.specs.declared.written.Name.{Name}
use Rattle.vf_syntax.specs.ExprTree.{ExprTree}
use Rattle.vf_syntax.specs.GhostCommandTree.{GhostCommandTree}
use Rattle.vf_syntax.specs.StmtTree.{StmtTree, stmt_list}
use Rattle.vf_syntax.specs.Walks.{head_has, is_mark, is_word, is_on}
use Rattle.vf_syntax.specs.Written.{name, ctype}
use Rattle.vf_syntax.specs.Commands.{command, command_nesting}
use Rattle.vf_syntax.specs.Statements.{invariant_walk, invariant_nesting, is_open, is_command, stmt, stmt_nesting, stmts, stmts_nesting}
use Rattle.vf_syntax.specs.Units.{body}
use Rattle.vf_cursor.specs.Parsing.{Parser, ok, here_at, mark_at, word_at, name_at}
use Rattle.vf_cursor.specs.Types.{ctype_at}
use Rattle.vf_cursor.proofs.Facts.{bind_ok, moved, chose, no_true}
use Rattle.vf_parse_expression.specs.Parsers.{too_deep, expr_at, postfix_at}
use Rattle.vf_parse_expression.proofs.Small.{here_walk, mark_walk, word_walk, name_walk}
use Rattle.vf_parse_expression.proofs.TypesSound.{ctype_walk}
use Rattle.vf_parse_expression.proofs.Collected.{Collects, Itemised, many_collected}
use Rattle.vf_parse_expression.proofs.OperandsSound.{Reads}
use Rattle.vf_parse_expression.proofs.Sound.{expr_sound, postfix_sound}
use Rattle.vf_parse_simple.specs.Simples.{sees_declaration, declared_at, optional_value_at, simple_at}
use Rattle.vf_parse_simple.proofs.Sound.{optional_value_sound, simple_sound}
use Rattle.vf_parse_statement.specs.Annotations.{ReadsCommands, ReadsInvariants}
use Rattle.vf_parse_statement.specs.Parsers.{sees_statement, declaration_at, simple_statement_at, optional_expr_at, return_at, empty_at, flat_at, command_statement_at, condition_at, branches_at, if_at, while_head_at, while_at, for_head_at, for_at, sees_annotation, stmt_by, is_inside, stmts_by, body_by, block_by, real_by, real_at}
use Rattle.vf_parse_statement.proofs.Heads.{optional_expr_sound, condition_sound, while_head_sound, for_head_sound}

-- a statement of real text was read: the tokens that were taken spell it, it nests no deeper than it may, with k more, and where an `else` comes next it takes none
pub record Stated (g : Grammar) (k d : ℕ) (x : StmtTree) (ts rest : List Token) : Type 0 where
  pub walk : stmt g x ts ≡ Some rest
  pub deep : stmt_nesting x + k ≤ d
  pub is_real : is_command x ≡ false
  pub is_closed : head_has (is_word Real keywords.Else) rest ≡ true → is_open x ≡ false

-- what a parser reads is so
abbrev pub States : Grammar → ℕ → ℕ → Parser StmtTree → Type 0
States g k d p = (ts : List Token) (x : StmtTree) (rest : List Token) → p ts ≡ ok x rest → Stated g k d x ts rest

declaration_sound : (g : Grammar) (e : Parser ExprTree) (d : ℕ) → Reads 1 9 d e → States g 0 d (declaration_at e)
unfolding declaration_at declared_at
declaration_sound g e d he ts x rest eq =
    let h = bind_ok {r = here_at ts} eq in
    let p = bind_ok {r = declared_at h.0.1} h.2 in
    let t = bind_ok {r = ctype_at Real h.0.1} p.1 in
    let n = bind_ok {r = name_at Real t.0.1} t.2 in
    let v = bind_ok {r = optional_value_at e p.0.1} p.2 in
    let m = bind_ok {r = mark_at Real punctuators.Semicolon v.0.1} v.2 in
    let hw = here_walk ts h.0.0 h.0.1 h.1 in
    let tn = moved (λ (y : CType × Name) r. (us : List Token) × (ctype Real y.0 h.0.1 ≡ Some us) × (name Real y.1 us ≡ Some r)) n.2 (t.0.1, ctype_walk Real h.0.1 t.0.0 t.0.1 t.1, name_walk Real t.0.1 n.0.0 n.0.1 n.1) in
    let vw = optional_value_sound e d he p.0.1 v.0.0 v.0.1 v.1 in
    let mw = mark_walk Real punctuators.Semicolon v.0.1 m.0.0 m.0.1 m.1 in
    moved (λ y r. Stated g 0 d y ts r) m.2 (record { walk = rw (hw.0, tn.1, tn.2, vw.0, mw.0, mw.1) refl; deep = omega (arith, vw.1); is_real = refl; is_closed = λ _. refl })

simple_statement_sound : (g : Grammar) (e f : Parser ExprTree) (d : ℕ) → Reads 1 9 d e → Reads 0 1 d f → States g 0 d (simple_statement_at e f)
unfolding simple_statement_at
simple_statement_sound g e f d he hf ts x rest eq =
    let h = bind_ok {r = here_at ts} eq in
    let s = bind_ok {r = simple_at e f h.0.1} h.2 in
    let m = bind_ok {r = mark_at Real punctuators.Semicolon s.0.1} s.2 in
    let hw = here_walk ts h.0.0 h.0.1 h.1 in
    let sw = simple_sound e f d he hf h.0.1 s.0.0 s.0.1 s.1 in
    let mw = mark_walk Real punctuators.Semicolon s.0.1 m.0.0 m.0.1 m.1 in
    moved (λ y r. Stated g 0 d y ts r) m.2 (record { walk = rw (hw.0, sw.0, mw.0, mw.1) refl; deep = omega (arith, sw.1); is_real = refl; is_closed = λ _. refl })

return_sound : (g : Grammar) (e : Parser ExprTree) (d : ℕ) → Reads 1 9 d e → States g 0 d (return_at e)
unfolding return_at
return_sound g e d he ts x rest eq =
    let w = bind_ok {r = word_at Real keywords.Return ts} eq in
    let v = bind_ok {r = optional_expr_at e w.0.1} w.2 in
    let m = bind_ok {r = mark_at Real punctuators.Semicolon v.0.1} v.2 in
    let ww = word_walk Real keywords.Return ts w.0.0 w.0.1 w.1 in
    let vw = optional_expr_sound e d he w.0.1 v.0.0 v.0.1 v.1 in
    let mw = mark_walk Real punctuators.Semicolon v.0.1 m.0.0 m.0.1 m.1 in
    moved (λ y r. Stated g 0 d y ts r) m.2 (record { walk = rw (ww.0, ww.1, vw.0, mw.0, mw.1) refl; deep = omega (arith, vw.1); is_real = refl; is_closed = λ _. refl })

empty_sound : (g : Grammar) (d : ℕ) → States g 0 d empty_at
unfolding empty_at
empty_sound g d ts x rest eq =
    let m = bind_ok {r = mark_at Real punctuators.Semicolon ts} eq in
    let mw = mark_walk Real punctuators.Semicolon ts m.0.0 m.0.1 m.1 in
    moved (λ y r. Stated g 0 d y ts r) m.2 (record { walk = rw (mw.0, mw.1) refl; deep = omega arith; is_real = refl; is_closed = λ _. refl })

flat_sound : (g : Grammar) (e f : Parser ExprTree) (d : ℕ) → Reads 1 9 d e → Reads 0 1 d f → States g 0 d (flat_at e f)
unfolding flat_at
flat_sound g e f d he hf ts x rest eq =
    elim (chose (head_has (is_word Real keywords.Return) ts) _ _ _ eq) [
      | inl h ↦ return_sound g e d he ts x rest h.1
      | inr h ↦
          elim (chose (head_has (is_mark Real punctuators.Semicolon) ts) _ _ _ h.1) [
            | inl k ↦ empty_sound g d ts x rest k.1
            | inr k ↦
                elim (chose (sees_declaration ts) _ _ _ k.1) [
                  | inl l ↦ declaration_sound g e d he ts x rest l.1
                  | inr l ↦ simple_statement_sound g e f d he hf ts x rest l.1
                ]
          ]
    ]

if_sound : (g : Grammar) (e : Parser ExprTree) (s : Parser StmtTree) (d : ℕ) → Reads 1 9 d e → States g 1 d s → States g 0 d (if_at e s)
unfolding if_at branches_at
if_sound g e s d he hs ts x rest eq =
    let w = bind_ok {r = word_at Real keywords.If ts} eq in
    let c = bind_ok {r = condition_at e w.0.1} w.2 in
    let a = bind_ok {r = s c.0.1} c.2 in
    let ww = word_walk Real keywords.If ts w.0.0 w.0.1 w.1 in
    let cw = condition_sound e d he w.0.1 c.0.0 c.0.1 c.1 in
    let aw = hs c.0.1 a.0.0 a.0.1 a.1 in
    elim (chose (head_has (is_word Real keywords.Else) a.0.1) _ _ _ a.2) [
      | inl h ↦
          let l = bind_ok {r = word_at Real keywords.Else a.0.1} h.1 in
          let b = bind_ok {r = s l.0.1} l.2 in
          let lw = word_walk Real keywords.Else a.0.1 l.0.0 l.0.1 l.1 in
          let bw = hs l.0.1 b.0.0 b.0.1 b.1 in
          let closed : is_open a.0.0 ≡ false = aw.is_closed h.0 in
          moved (λ y r. Stated g 0 d y ts r) b.2
          (record { walk = rw (ww.0, ww.1, cw.opens, cw.walk, cw.closes, aw.is_real, closed, aw.walk, lw.1, bw.is_real) bw.walk; deep = omega (arith, cw.deep, aw.deep, bw.deep); is_real = refl; is_closed = bw.is_closed })
      | inr h ↦
          moved (λ y r. Stated g 0 d y ts r) h.1
          (record { walk = rw (ww.0, ww.1, cw.opens, cw.walk, cw.closes, aw.is_real) aw.walk; deep = omega (arith, cw.deep, aw.deep); is_real = refl; is_closed = λ k. no_true (sym h.0 ∙ k) })
    ]

while_sound : (g : Grammar) (e : Parser ExprTree) (i : Parser Invariant) (s : Parser StmtTree) (d : ℕ) → Reads 1 9 d e → Itemised invariant_walk invariant_nesting d i → States g 1 d s → States g 0 d (while_at g e i s)
unfolding while_at
while_sound g e i s d he hi hs ts x rest eq =
    let h = bind_ok {r = while_head_at g e i ts} eq in
    let b = bind_ok {r = s h.0.1} h.2 in
    let hw = while_head_sound g e i d he hi ts h.0.0 h.0.1 h.1 in
    let bw = hs h.0.1 b.0.0 b.0.1 b.1 in
    moved (λ y r. Stated g 0 d y ts r) b.2
    (record {
      walk = rw (hw.here, hw.begins, hw.condition.opens, hw.condition.walk, hw.condition.closes, hw.owes, bw.is_real) bw.walk;
      deep = omega (arith, hw.condition.deep, hw.invariant_deep, bw.deep);
      is_real = refl;
      is_closed = bw.is_closed;
    })

for_sound : (g : Grammar) (e f : Parser ExprTree) (i : Parser Invariant) (s : Parser StmtTree) (d : ℕ) → Reads 1 9 d e → Reads 0 1 d f → Itemised invariant_walk invariant_nesting d i → States g 1 d s → States g 0 d (for_at g e f i s)
unfolding for_at
for_sound g e f i s d he hf hi hs ts x rest eq =
    let h = bind_ok {r = for_head_at g e f i ts} eq in
    let b = bind_ok {r = s h.0.1} h.2 in
    let hw = for_head_sound g e f i d he hf hi ts h.0.0 h.0.1 h.1 in
    let p = hw.parts in
    let bw = hs h.0.1 b.0.0 b.0.1 b.1 in
    moved (λ y r. Stated g 0 d y ts r) b.2
    (record {
      walk = rw (hw.here, hw.begins, p.opens, p.begins, p.parts, p.tests, p.parts_again, p.steps, p.closes, hw.owes, bw.is_real) bw.walk;
      deep = omega (arith, p.first_deep, p.condition_deep, p.step_deep, hw.invariant_deep, bw.deep);
      is_real = refl;
      is_closed = bw.is_closed;
    })

-- a statement or a ghost command was read
abbrev pub Done : Grammar → ℕ → Parser StmtTree → Type 0
Done g d p = Itemised (stmt g) (λ (x : StmtTree). stmt_nesting x + 1) d p

command_statement_sound : (c : Parser GhostCommandTree) (d : ℕ) → Itemised command (λ (x : GhostCommandTree). command_nesting x + 1) d c → Done grammars.Whole d (command_statement_at c)
unfolding command_statement_at
command_statement_sound c d hc ts x rest eq =
    let h = bind_ok {r = here_at ts} eq in
    let a = bind_ok {r = c h.0.1} h.2 in
    let hw = here_walk ts h.0.0 h.0.1 h.1 in
    let aw = hc h.0.1 a.0.0 a.0.1 a.1 in
    moved (λ (y : StmtTree) r. (stmt grammars.Whole y ts ≡ Some r) × (stmt_nesting y + 1 ≤ d)) a.2 (rw hw.0 aw.0, aw.1)

pub stmt_sound : (g : Grammar) (c : Parser GhostCommandTree) (s : Parser StmtTree) (d : ℕ) → Itemised command (λ (x : GhostCommandTree). command_nesting x + 1) d c → States g 1 d s → Done g d (stmt_by g c s)
unfolding stmt_by sees_annotation
stmt_sound grammars.Whole c s d hc hs ts x rest eq =
    elim (chose (head_has (is_on Ghost) ts) _ _ _ eq) [
      | inl h ↦ command_statement_sound c d hc ts x rest h.1
      | inr h ↦ let k = hs ts x rest h.1 in (k.walk, k.deep)
    ]
stmt_sound grammars.Plain c s d hc hs ts x rest eq = let k = hs ts x rest eq in (k.walk, k.deep)

pub stmts_collect : (g : Grammar) → Collects (stmt g) (λ (x : StmtTree). stmt_nesting x + 1) (λ (xs : List StmtTree). stmts g (stmt_list xs)) (λ (xs : List StmtTree). stmts_nesting (stmt_list xs))
stmts_collect g = record { nothing_walk = λ ts. refl; item_walk = λ x xs ts. refl; nothing_deep = refl; item_deep = λ x xs. refl }

-- statements were read
abbrev pub Listed : Grammar → ℕ → List Token → List StmtTree → List Token → Type 0
Listed g d ts xs rest = (stmts g (stmt_list xs) ts ≡ Some rest) × (stmts_nesting (stmt_list xs) ≤ d)

pub stmts_sound : (g : Grammar) (p : Parser StmtTree) (d : ℕ) → Done g d p → (ts : List Token) (xs : List StmtTree) (rest : List Token) → stmts_by p ts ≡ ok xs rest → Listed g d ts xs rest
unfolding stmts_by
stmts_sound g p d hp ts xs rest eq = many_collected (stmts_collect g) d is_inside p hp (length ts) ts ts [] xs rest refl (omega arith) eq

-- a body was read
abbrev pub Bodied : Grammar → ℕ → List Token → Body → List Token → Type 0
Bodied g d ts x rest = (body g x ts ≡ Some rest) × (stmts_nesting (stmt_list x.statements) ≤ d)

pub body_sound : (g : Grammar) (p : Parser StmtTree) (d : ℕ) → Done g d p → (ts : List Token) (x : Body) (rest : List Token) → body_by p ts ≡ ok x rest → Bodied g d ts x rest
unfolding body_by body
body_sound g p d hp ts x rest eq =
    let o = bind_ok {r = mark_at Real punctuators.OpenBrace ts} eq in
    let xs = bind_ok {r = stmts_by p o.0.1} o.2 in
    let m = bind_ok {r = mark_at Real punctuators.CloseBrace xs.0.1} xs.2 in
    let ow = mark_walk Real punctuators.OpenBrace ts o.0.0 o.0.1 o.1 in
    let xw = stmts_sound g p d hp o.0.1 xs.0.0 xs.0.1 xs.1 in
    let mw = mark_walk Real punctuators.CloseBrace xs.0.1 m.0.0 m.0.1 m.1 in
    moved (λ (y : Body) r. Bodied g d ts y r) m.2 (rw (ow.0, ow.1, xw.0, mw.0, mw.1) refl, xw.1)

block_sound : (g : Grammar) (p : Parser StmtTree) (d : ℕ) → Done g d p → States g 0 d (block_by p)
unfolding block_by body
block_sound g p d hp ts x rest eq =
    let b = bind_ok {r = body_by p ts} eq in
    let bw = body_sound g p d hp ts b.0.0 b.0.1 b.1 in
    moved (λ y r. Stated g 0 d y ts r) b.2 (record { walk = bw.0; deep = omega (arith, bw.1); is_real = refl; is_closed = λ _. refl })

real_sound : (g : Grammar) (e f : Parser ExprTree) (i : Parser Invariant) (s p : Parser StmtTree) (d : ℕ) → Reads 1 9 d e → Reads 0 1 d f → Itemised invariant_walk invariant_nesting d i → States g 1 d s → Done g d p
    → States g 0 d (real_by g e f i s p)
unfolding real_by
real_sound g e f i s p d he hf hi hs hp ts x rest eq =
    elim (chose (head_has (is_word Real keywords.If) ts) _ _ _ eq) [
      | inl h ↦ if_sound g e s d he hs ts x rest h.1
      | inr h ↦
          elim (chose (head_has (is_word Real keywords.While) ts) _ _ _ h.1) [
            | inl k ↦ while_sound g e i s d he hi hs ts x rest k.1
            | inr k ↦
                elim (chose (head_has (is_word Real keywords.For) ts) _ _ _ k.1) [
                  | inl l ↦ for_sound g e f i s d he hf hi hs ts x rest l.1
                  | inr l ↦
                      elim (chose (head_has (is_mark Real punctuators.OpenBrace) ts) _ _ _ l.1) [
                        | inl m ↦ block_sound g p d hp ts x rest m.1
                        | inr m ↦ flat_sound g e f d he hf ts x rest m.1
                      ]
                ]
          ]
    ]

no_depth : {Y : Type 0} (begins : Bool) (ts : List Token) (x : StmtTree) (rest : List Token) → too_deep begins ts ≡ ok x rest → Y
no_depth true ts x rest e = absurd cc
no_depth false ts x rest e = absurd cc

one_deeper : {g : Grammar} {d : ℕ} {x : StmtTree} {ts rest : List Token} → Stated g 0 d x ts rest → Stated g 1 (suc d) x ts rest
one_deeper p = record { walk = p.walk; deep = omega (arith, p.deep); is_real = p.is_real; is_closed = p.is_closed }

pub all_sound : (g : Grammar) (c : ℕ → Parser GhostCommandTree) (i : ℕ → Parser Invariant) → ReadsCommands c → ReadsInvariants i → (d : ℕ) → States g 1 d (real_at g c i d)
unfolding real_at
all_sound g c i hc hi zero ts x rest eq = no_depth (sees_statement ts) ts x rest eq
all_sound g c i hc hi (suc d) ts x rest eq =
    let down = all_sound g c i hc hi d in
    one_deeper (real_sound g (expr_at d) (postfix_at d) (i d) (real_at g c i d) (stmt_by g (c d) (real_at g c i d)) d (expr_sound d) (postfix_sound d) (hi d) down (stmt_sound g (c d) (real_at g c i d) d (hc d) down) ts x rest eq)

pub statement_sound : (g : Grammar) (c : ℕ → Parser GhostCommandTree) (i : ℕ → Parser Invariant) → ReadsCommands c → ReadsInvariants i → (d : ℕ) → Done g d (stmt_by g (c d) (real_at g c i d))
statement_sound g c i hc hi d = stmt_sound g (c d) (real_at g c i d) d (hc d) (all_sound g c i hc hi d)
