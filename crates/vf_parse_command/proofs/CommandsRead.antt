-- The ghost commands that are read are spelled, and nest no deeper than is allowed.
use Rattle.std.proofs.Common.{◌≡◌, ℕ, zero, suc, ◌+◌, ◌≤◌, Bool, true, false, List, [], ◌∷◌, length, Option, Some, None, refl, sym, subst, ap, ◌∙◌, arith, inl, inr}
use Rattle.std.specs.Prelude.{max}
use Rattle.vf_base.specs.declared.place.Place.{Place}
use Rattle.vf_lexer.specs.declared.punctuator.Punctuator.TheVariants as punctuators
use Rattle.vf_lexer.specs.declared.token.Token.{Token}
use Rattle.vf_syntax.specs.declared.keyword.Keyword.TheVariants as keywords
use Rattle.vf_syntax.specs.declared.side.Side.TheVariants.{Ghost}
use Rattle.vf_syntax.specs.declared.pattern.CasePattern.{CasePattern}
use Rattle.vf_syntax.specs.declared.item.GhostBody.{GhostBody}
use Rattle.vf_syntax.specs.GhostExprTree.{GhostExprTree}
use Rattle.vf_syntax.specs.GhostCommandTree.{GhostCommandTree, GhostCommandTrees, CommandCaseTree, CommandCaseTrees, ghost_command_list, command_case_list}
use Rattle.vf_syntax.specs.GhostCommandTree as tree
use Rattle.vf_syntax.specs.Walks.{Walk, goes_on, ◌⨾◌, at, mark, word, head_has, is_mark, is_word}
use Rattle.vf_syntax.specs.Lists.{each, greatest}
use Rattle.vf_syntax.specs.GhostExpressions.{ghost_expr, ghost_nesting}
use Rattle.vf_syntax.specs.Assertions.{case_pattern}
use Rattle.vf_syntax.specs.Commands.{command, commands, command_case, command_cases, command_nesting, commands_nesting, command_case_nesting, command_cases_nesting}
use Rattle.vf_syntax.specs.Units.{ghost_body}
use Rattle.vf_cursor.specs.Parsing.{Parser, ok, ◌>>=◌, here_at, mark_at, word_at, many, item_step}
use Rattle.vf_cursor.proofs.Facts.{bind_ok, ok_pair, moved, chose}
use Rattle.vf_parse_term.specs.Terms.{term_at}
use Rattle.vf_parse_term.specs.Laws.{IsSpelled}
use Rattle.vf_parse_term.proofs.Taken.{here_sound, mark_sound, word_sound}
use Rattle.vf_parse_term.proofs.Lists.{items_sound}
use Rattle.vf_parse_term.proofs.SortsRead.{too_deep_never}
use Rattle.vf_parse_term.proofs.TermsRead.{term_sound}
use Rattle.vf_parse_assertion.specs.Parsers.{switch_head_at, case_head_at}
use Rattle.vf_parse_assertion.proofs.PartsRead.{Head, head_sound}
use Rattle.vf_parse_command.specs.Commands.{begins_command, is_inside, command_step, commands_at, body_by, block_at, if_head_at, branches_at, if_at, case_at, case_step, cases_at, switch_at, command_by, command_at, body_at}
use Rattle.vf_parse_command.specs.Laws.{command_depth, body_depth, CommandsAreSpelled, BodiesAreSpelled}
use Rattle.vf_parse_command.proofs.FlatRead.{flat_sound}
use Rattle.vf_parse_command.proofs.CaseHeads.{CaseHead, case_head_sound}

-- what a parser reads is a ghost command that nests so deep at most, itself counted
abbrev ReadsCommand : ℕ → Parser GhostCommandTree → Type 0
ReadsCommand d c = IsSpelled c command command_depth d

-- tokens spell a ghost command, in which so many nest at most
abbrev IsCommand : ℕ → List Token → GhostCommandTree → List Token → Type 0
IsCommand d ts x rest = (command x ts ≡ Some rest) × (command_nesting x ≤ d)

-- tokens spell the ghost commands of a list, each of which nests so deep at most
abbrev AreCommands : ℕ → List Token → List GhostCommandTree → List Token → Type 0
AreCommands d ts xs rest = (commands (ghost_command_list xs) ts ≡ Some rest) × (commands_nesting (ghost_command_list xs) ≤ d)

commands_same : (xs : List GhostCommandTree) → each command xs ≡ commands (ghost_command_list xs)
commands_same [] = refl
commands_same (x ∷ xs) = ap (λ (W : Walk). command x ⨾ W) (commands_same xs)

commands_deep : (xs : List GhostCommandTree) → greatest command_depth xs ≡ commands_nesting (ghost_command_list xs)
commands_deep [] = refl
commands_deep (x ∷ xs) = ap (λ (n : ℕ). max (command_nesting x + 1) n) (commands_deep xs)

commands_sound : (c : Parser GhostCommandTree) (d : ℕ) → ReadsCommand d c → (ts : List Token) (xs : List GhostCommandTree) (rest : List Token) → commands_at c ts ≡ ok xs rest → AreCommands d ts xs rest
unfolding command_step
commands_sound c d hc ts xs rest eq =
    let k = items_sound c command command_depth d hc is_inside (length ts) [] ts xs rest eq in
    let walk : commands (ghost_command_list k.0) ts ≡ Some rest = subst (λ (W : Walk). W ts ≡ Some rest) (commands_same k.0) k.2 in
    let low : commands_nesting (ghost_command_list k.0) ≤ d = subst (λ (n : ℕ). n ≤ d) (commands_deep k.0) k.3 in
    subst (λ (ys : List GhostCommandTree). AreCommands d ts ys rest) (sym k.1) (walk, low)

-- what stands between the braces of a block, and where the braces stand
pub record Block (d : ℕ) (ts : List Token) (b : GhostBody) (rest : List Token) : Type 0 where
  pub inside : List Token
  pub behind : List Token
  pub here : at b.place ts ≡ Some ts
  pub opens : mark Ghost punctuators.OpenBrace ts ≡ Some inside
  pub commands : AreCommands d inside b.commands behind
  pub there : at b.last behind ≡ Some behind
  pub closes : mark Ghost punctuators.CloseBrace behind ≡ Some rest

block_sound : (c : Parser GhostCommandTree) (d : ℕ) → ReadsCommand d c → (ts : List Token) (b : GhostBody) (rest : List Token) → body_by c ts ≡ ok b rest → Block d ts b rest
unfolding body_by
block_sound c d hc ts b rest eq =
    let o = bind_ok {r = mark_at Ghost punctuators.OpenBrace ts} eq in
    let xs = bind_ok {r = commands_at c o.0.1} o.2 in
    let z = bind_ok {r = mark_at Ghost punctuators.CloseBrace xs.0.1} xs.2 in
    let opens = mark_sound Ghost punctuators.OpenBrace ts o.0.0 o.0.1 o.1 in
    let closes = mark_sound Ghost punctuators.CloseBrace xs.0.1 z.0.0 z.0.1 z.1 in
    moved (λ (y : GhostBody) r. Block d ts y r) z.2 (record { inside = o.0.1; behind = xs.0.1; here = opens.1; opens = opens.0; commands = commands_sound c d hc o.0.1 xs.0.0 xs.0.1 xs.1; there = closes.1; closes = closes.0 })

body_walk : (d : ℕ) (ts : List Token) (b : GhostBody) (rest : List Token) → Block d ts b rest → ghost_body b ts ≡ Some rest
unfolding ghost_body
body_walk d ts b rest h = rw (h.here, h.opens, h.commands.0, h.there) (h.closes)

block_walk : (p : Place) (xs : GhostCommandTrees) (ts inside behind rest : List Token) → at p ts ≡ Some ts → mark Ghost punctuators.OpenBrace ts ≡ Some inside → commands xs inside ≡ Some behind → mark Ghost punctuators.CloseBrace behind ≡ Some rest → command (tree.block p xs) ts ≡ Some rest
block_walk p xs ts inside behind rest here opens walk closes = rw (here, opens, walk) closes

block_command_sound : (c : Parser GhostCommandTree) (d : ℕ) → ReadsCommand d c → (ts : List Token) (x : GhostCommandTree) (rest : List Token) → block_at c ts ≡ ok x rest → IsCommand d ts x rest
unfolding block_at
block_command_sound c d hc ts x rest eq =
    let b = bind_ok {r = body_by c ts} eq in
    let h = block_sound c d hc ts b.0.0 b.0.1 b.1 in
    moved (λ y r. IsCommand d ts y r) b.2 (block_walk b.0.0.place (ghost_command_list b.0.0.commands) ts h.inside h.behind b.0.1 h.here h.opens h.commands.0 h.closes, h.commands.1)

-- the head of an `if`
pub record IfHead (d : ℕ) (ts : List Token) (p : Place) (e : GhostExprTree) (rest : List Token) : Type 0 where
  pub worded : List Token
  pub opened : List Token
  pub behind : List Token
  pub here : at p ts ≡ Some ts
  pub asks : word Ghost keywords.If ts ≡ Some worded
  pub opens : mark Ghost punctuators.OpenParenthesis worded ≡ Some opened
  pub test : ghost_expr e opened ≡ Some behind
  pub closes : mark Ghost punctuators.CloseParenthesis behind ≡ Some rest
  pub deep : ghost_nesting e + 1 ≤ d

if_head_sound : (d : ℕ) (ts : List Token) (h : Place × GhostExprTree) (rest : List Token) → if_head_at d ts ≡ ok h rest → IfHead d ts h.0 h.1 rest
unfolding if_head_at
if_head_sound d ts h rest eq =
    let w = bind_ok {r = word_at Ghost keywords.If ts} eq in
    let o = bind_ok {r = mark_at Ghost punctuators.OpenParenthesis w.0.1} w.2 in
    let t = bind_ok {r = term_at d o.0.1} o.2 in
    let z = bind_ok {r = mark_at Ghost punctuators.CloseParenthesis t.0.1} t.2 in
    let first = word_sound Ghost keywords.If ts w.0.0 w.0.1 w.1 in
    let k = term_sound d o.0.1 t.0.0 t.0.1 t.1 in
    moved (λ (y : Place × GhostExprTree) r. IfHead d ts y.0 y.1 r) z.2 (record {
      worded = w.0.1;
      opened = o.0.1;
      behind = t.0.1;
      here = first.1;
      asks = first.0;
      opens = (mark_sound Ghost punctuators.OpenParenthesis w.0.1 o.0.0 o.0.1 o.1).0;
      test = k.0;
      closes = (mark_sound Ghost punctuators.CloseParenthesis t.0.1 z.0.0 z.0.1 z.1).0;
      deep = k.1;
    })

if_walk : (d : ℕ) (p : Place) (e : GhostExprTree) (xs : GhostCommandTrees) (ts mid inside behind rest : List Token) → IfHead d ts p e mid → mark Ghost punctuators.OpenBrace mid ≡ Some inside → commands xs inside ≡ Some behind → mark Ghost punctuators.CloseBrace behind ≡ Some rest
    → command (tree.if_ p e xs) ts ≡ Some rest
if_walk d p e xs ts mid inside behind rest h opens walk closes = rw (h.here, h.asks, h.opens, h.test, h.closes, opens, walk) closes

if_deep : (p : Place) (e : GhostExprTree) (xs : GhostCommandTrees) (d : ℕ) → ghost_nesting e + 1 ≤ d → commands_nesting xs ≤ d → command_nesting (tree.if_ p e xs) ≤ d
if_deep p e xs d one two = omega (arith, one, two)

if_else_walk : (d : ℕ) (p : Place) (e : GhostExprTree) (xs ys : GhostCommandTrees) (ts mid inside behind closed worded second last rest : List Token) → IfHead d ts p e mid → mark Ghost punctuators.OpenBrace mid ≡ Some inside → commands xs inside ≡ Some behind
    → mark Ghost punctuators.CloseBrace behind ≡ Some closed → word Ghost keywords.Else closed ≡ Some worded → mark Ghost punctuators.OpenBrace worded ≡ Some second → commands ys second ≡ Some last → mark Ghost punctuators.CloseBrace last ≡ Some rest
    → command (tree.if_else p e xs ys) ts ≡ Some rest
if_else_walk d p e xs ys ts mid inside behind closed worded second last rest h opens walk closes other opens_other walk_other closes_other =
    rw (h.here, h.asks, h.opens, h.test, h.closes, opens, walk, closes, other, opens_other, walk_other) closes_other

if_else_deep : (p : Place) (e : GhostExprTree) (xs ys : GhostCommandTrees) (d : ℕ) → ghost_nesting e + 1 ≤ d → commands_nesting xs ≤ d → commands_nesting ys ≤ d → command_nesting (tree.if_else p e xs ys) ≤ d
if_else_deep p e xs ys d one two three = omega (arith, one, two, three)

branches_sound : (c : Parser GhostCommandTree) (d : ℕ) → ReadsCommand d c → (p : Place) (e : GhostExprTree) (b : GhostBody) (all mid ts : List Token) → IfHead d all p e mid → Block d mid b ts → (x : GhostCommandTree) (rest : List Token) → branches_at c p e b ts ≡ ok x rest → IsCommand d all x rest
unfolding branches_at
branches_sound c d hc p e b all mid ts head h x rest eq =
    elim (chose (head_has (is_word Ghost keywords.Else) ts) _ _ _ eq) [
      | inl g ↦
          let w = bind_ok {r = word_at Ghost keywords.Else ts} g.1 in
          let y = bind_ok {r = body_by c w.0.1} w.2 in
          let k = block_sound c d hc w.0.1 y.0.0 y.0.1 y.1 in
          let other = (word_sound Ghost keywords.Else ts w.0.0 w.0.1 w.1).0 in
          let xs = ghost_command_list b.commands in
          let ys = ghost_command_list y.0.0.commands in
          moved (λ z r. IsCommand d all z r) y.2
          (if_else_walk d p e xs ys all mid h.inside h.behind ts w.0.1 k.inside k.behind y.0.1 head h.opens h.commands.0 h.closes other k.opens k.commands.0 k.closes, if_else_deep p e xs ys d head.deep h.commands.1 k.commands.1)
      | inr g ↦
          let xs = ghost_command_list b.commands in
          moved (λ z r. IsCommand d all z r) g.1 (if_walk d p e xs all mid h.inside h.behind ts head h.opens h.commands.0 h.closes, if_deep p e xs d head.deep h.commands.1)
    ]

if_sound : (c : Parser GhostCommandTree) (d : ℕ) → ReadsCommand d c → (ts : List Token) (x : GhostCommandTree) (rest : List Token) → if_at d c ts ≡ ok x rest → IsCommand d ts x rest
unfolding if_at
if_sound c d hc ts x rest eq =
    let h = bind_ok {r = if_head_at d ts} eq in
    let b = bind_ok {r = body_by c h.0.1} h.2 in
    branches_sound c d hc h.0.0.0 h.0.0.1 b.0.0 ts h.0.1 b.0.1 (if_head_sound d ts h.0.0 h.0.1 h.1) (block_sound c d hc h.0.1 b.0.0 b.0.1 b.1) x rest b.2

case_walk : (p : Place) (k : CasePattern) (xs : GhostCommandTrees) (ts mid rest : List Token) → CaseHead ts p k mid → commands xs mid ≡ Some rest → command_case (tree.command_case p k xs) ts ≡ Some rest
case_walk p k xs ts mid rest h walk = rw (h.here, h.cases, h.pattern, h.colon) walk

-- tokens spell a case, which nests at most so deep
abbrev IsCase : ℕ → List Token → CommandCaseTree → List Token → Type 0
IsCase d ts x rest = (command_case x ts ≡ Some rest) × (command_case_nesting x ≤ d)

case_sound : (c : Parser GhostCommandTree) (d : ℕ) → ReadsCommand d c → IsSpelled (case_at c) command_case command_case_nesting d
unfolding case_at
case_sound c d hc ts x rest eq =
    let h = bind_ok {r = case_head_at ts} eq in
    let xs = bind_ok {r = commands_at c h.0.1} h.2 in
    let k = commands_sound c d hc h.0.1 xs.0.0 xs.0.1 xs.1 in
    moved (λ y r. IsCase d ts y r) xs.2 (case_walk h.0.0.0 h.0.0.1 (ghost_command_list xs.0.0) ts h.0.1 xs.0.1 (case_head_sound ts h.0.0 h.0.1 h.1) k.0, k.1)

cases_same : (xs : List CommandCaseTree) → each command_case xs ≡ command_cases (command_case_list xs)
cases_same [] = refl
cases_same (x ∷ xs) = ap (λ (W : Walk). command_case x ⨾ W) (cases_same xs)

cases_deep : (xs : List CommandCaseTree) → greatest command_case_nesting xs ≡ command_cases_nesting (command_case_list xs)
cases_deep [] = refl
cases_deep (x ∷ xs) = ap (λ (n : ℕ). max (command_case_nesting x) n) (cases_deep xs)

-- tokens spell the cases of a list
abbrev AreCases : ℕ → List Token → List CommandCaseTree → List Token → Type 0
AreCases d ts xs rest = (command_cases (command_case_list xs) ts ≡ Some rest) × (command_cases_nesting (command_case_list xs) ≤ d)

cases_sound : (c : Parser GhostCommandTree) (d : ℕ) → ReadsCommand d c → (ts : List Token) (xs : List CommandCaseTree) (rest : List Token) → cases_at c ts ≡ ok xs rest → AreCases d ts xs rest
unfolding case_step
cases_sound c d hc ts xs rest eq =
    let k = items_sound (case_at c) command_case command_case_nesting d (case_sound c d hc) (is_word Ghost keywords.Case) (length ts) [] ts xs rest eq in
    let walk : command_cases (command_case_list k.0) ts ≡ Some rest = subst (λ (W : Walk). W ts ≡ Some rest) (cases_same k.0) k.2 in
    let low : command_cases_nesting (command_case_list k.0) ≤ d = subst (λ (n : ℕ). n ≤ d) (cases_deep k.0) k.3 in
    subst (λ (ys : List CommandCaseTree). AreCases d ts ys rest) (sym k.1) (walk, low)

switch_walk : (d : ℕ) (p : Place) (e : GhostExprTree) (cs : CommandCaseTrees) (ts braced behind rest : List Token) → at p ts ≡ Some ts → (h : Head d ts e braced) → command_cases cs braced ≡ Some behind → mark Ghost punctuators.CloseBrace behind ≡ Some rest
    → command (tree.switch_ p e cs) ts ≡ Some rest
switch_walk d p e cs ts braced behind rest here h cases closes = rw (here, h.switches, h.opens, h.term, h.closes, h.brace, cases) closes

switch_deep : (d : ℕ) (p : Place) (e : GhostExprTree) (cs : CommandCaseTrees) → ghost_nesting e + 1 ≤ d → command_cases_nesting cs ≤ d → command_nesting (tree.switch_ p e cs) ≤ d
switch_deep d p e cs one two = omega (arith, one, two)

switch_sound : (c : Parser GhostCommandTree) (d : ℕ) → ReadsCommand d c → (ts : List Token) (x : GhostCommandTree) (rest : List Token) → switch_at d c ts ≡ ok x rest → IsCommand d ts x rest
unfolding switch_at
switch_sound c d hc ts x rest eq =
    let p = bind_ok {r = here_at ts} eq in
    let e = bind_ok {r = switch_head_at d p.0.1} p.2 in
    let xs = bind_ok {r = cases_at c e.0.1} e.2 in
    let z = bind_ok {r = mark_at Ghost punctuators.CloseBrace xs.0.1} xs.2 in
    let here = here_sound ts p.0.0 p.0.1 p.1 in
    let head : Head d ts e.0.0 e.0.1 = subst (λ (r : List Token). Head d r e.0.0 e.0.1) here.0 (head_sound d p.0.1 e.0.0 e.0.1 e.1) in
    let cases = cases_sound c d hc e.0.1 xs.0.0 xs.0.1 xs.1 in
    let closes = (mark_sound Ghost punctuators.CloseBrace xs.0.1 z.0.0 z.0.1 z.1).0 in
    let cs = command_case_list xs.0.0 in
    moved (λ y r. IsCommand d ts y r) z.2 (switch_walk d p.0.0 e.0.0 cs ts e.0.1 xs.0.1 z.0.1 here.1 head cases.0 closes, switch_deep d p.0.0 e.0.0 cs head.deep cases.1)

command_by_sound : (c : Parser GhostCommandTree) (d : ℕ) → ReadsCommand d c → (ts : List Token) (x : GhostCommandTree) (rest : List Token) → command_by d c ts ≡ ok x rest → IsCommand d ts x rest
unfolding command_by
command_by_sound c d hc ts x rest eq =
    elim (chose (head_has (is_word Ghost keywords.If) ts) _ _ _ eq) [
      | inl h ↦ if_sound c d hc ts x rest h.1
      | inr g ↦
          elim (chose (head_has (is_word Ghost keywords.Switch) ts) _ _ _ g.1) [
            | inl h ↦ switch_sound c d hc ts x rest h.1
            | inr g ↦
                elim (chose (head_has (is_mark Ghost punctuators.OpenBrace) ts) _ _ _ g.1) [
                  | inl h ↦ block_command_sound c d hc ts x rest h.1
                  | inr h ↦ flat_sound d ts x rest h.1
                ]
          ]
    ]

mutual
  unfolding command_at

  pub command_sound : CommandsAreSpelled
  command_sound zero ts x rest e = too_deep_never begins_command ts x rest e
  command_sound (suc d) ts x rest e = let k = command_by_sound (command_at d) d (command_sound d) ts x rest e in let low = k.1 in (k.0, omega (arith, low))

pub body_sound : BodiesAreSpelled
body_sound d ts b rest eq =
    let h = block_sound (command_at d) d (command_sound d) ts b rest eq in
    (body_walk d ts b rest h, h.commands.1)
