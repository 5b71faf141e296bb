-- Ghost commands stop alike on tokens that are alike, also where more may nest.
use Rattle.std.proofs.Common.{◌≡◌, ℕ, zero, suc, ◌≤◌, Bool, false, List, [], ◌∷◌, refl, arith}
use Rattle.std.proofs.lemmas.Bool.{or_parts}
use Rattle.vf_base.specs.declared.place.Place.{Place}
use Rattle.vf_lexer.specs.declared.punctuator.Punctuator.TheVariants as punctuators
use Rattle.vf_lexer.specs.declared.token.Token.{Token}
use Rattle.vf_syntax.specs.declared.keyword.Keyword.TheVariants as keywords
use Rattle.vf_syntax.specs.declared.side.Side.TheVariants.{Ghost}
use Rattle.vf_syntax.specs.declared.item.GhostBody.{GhostBody}
use Rattle.vf_syntax.specs.GhostExprTree.{GhostExprTree}
use Rattle.vf_syntax.specs.GhostCommandTree.{GhostCommandTree, ghost_command_list, command_case_list, command_case}
use Rattle.vf_syntax.specs.GhostCommandTree as tree
use Rattle.vf_syntax.specs.Walks.{head_has, is_mark, is_word, is_name}
use Rattle.vf_cursor.specs.Parsing.{Parser, here_at}
use Rattle.vf_cursor.specs.Types.{is_type_word}
use Rattle.vf_parse_term.specs.Pieces.{too_deep_at}
use Rattle.vf_parse_term.specs.Sorts.{begins_sort}
use Rattle.vf_parse_command.specs.Flats.{sees_assignment, sees_call, declaration_at, value_at, flat_at}
use Rattle.vf_parse_command.specs.Commands.{is_command_word, begins_command, is_inside, command_step, commands_at, body_by, block_at, if_head_at, branches_at, if_at, case_at, case_step, cases_at, switch_at, command_by, command_at, body_at}
use Rattle.vf_parse_command.proofs.CommandsRead.{command_sound}
use Rattle.vf_grammar_read.proofs.statements.GhostEaten.{command_eats}
use Rattle.vf_grammar_stops.proofs.types.Local.{Does, then_like, done_like, here_like, mark_like, word_like, choice_like}
use Rattle.vf_grammar_stops.proofs.types.LoopAlike.{Takes, items_like}
use Rattle.vf_grammar_stops.proofs.expressions.Refused.{Refuses}
use Rattle.vf_grammar_stops.proofs.expressions.Takes.{then_takes}
use Rattle.vf_grammar_stops.proofs.terms.Pieces.{too_deep_like}
use Rattle.vf_grammar_stops.proofs.terms.SortsAlike.{sort_refuses}
use Rattle.vf_grammar_stops.proofs.terms.TermsAlike.{term_like}
use Rattle.vf_grammar_stops.proofs.assertions.AssertionsAlike.{switch_head_like, case_head_like, case_head_takes}
use Rattle.vf_grammar_stops.proofs.commands.FlatsAlike.{flat_like}

commands_like : {b : Bool} {c e : Parser GhostCommandTree} → Does b c e → Takes e → Does b (commands_at c) (commands_at e)
unfolding command_step
commands_like hc takes = items_like is_inside hc takes []

-- the body of a lemma, or a block
abbrev body_of : Place → List GhostCommandTree → Place → GhostBody
body_of p xs z = record { place = p; commands = xs; last = z }

body_by_like : {b : Bool} {c e : Parser GhostCommandTree} → Does b c e → Takes e → Does b (body_by c) (body_by e)
unfolding body_by
body_by_like hc takes = then_like (mark_like Ghost punctuators.OpenBrace) (λ o. then_like (commands_like hc takes) (λ xs. then_like (mark_like Ghost punctuators.CloseBrace) (λ z. done_like (body_of o xs z))))

block_like : {b : Bool} {c e : Parser GhostCommandTree} → Does b c e → Takes e → Does b (block_at c) (block_at e)
unfolding block_at
block_like hc takes = then_like (body_by_like hc takes) (λ y. done_like (tree.block y.place (ghost_command_list y.commands)))

if_head_like : (d m : ℕ) → d ≤ m → Does false (if_head_at d) (if_head_at m)
unfolding if_head_at
if_head_like d m le = then_like (word_like Ghost keywords.If) (λ w. then_like (mark_like Ghost punctuators.OpenParenthesis) (λ o. then_like (term_like d m le) (λ e. then_like (mark_like Ghost punctuators.CloseParenthesis) (λ z. done_like (w, e)))))

branches_like : {c e : Parser GhostCommandTree} → Does false c e → Takes e → (p : Place) (x : GhostExprTree) (y : GhostBody) → Does false (branches_at c p x y) (branches_at e p x y)
unfolding branches_at
branches_like hc takes p x y =
    choice_like (is_word Ghost keywords.Else) (then_like (word_like Ghost keywords.Else) (λ w. then_like (body_by_like hc takes) (λ z. done_like (tree.if_else p x (ghost_command_list y.commands) (ghost_command_list z.commands)))))
    (done_like (tree.if_ p x (ghost_command_list y.commands)))

if_like : {c e : Parser GhostCommandTree} (d m : ℕ) → d ≤ m → Does false c e → Takes e → Does false (if_at d c) (if_at m e)
unfolding if_at
if_like d m le hc takes = then_like (if_head_like d m le) (λ h. then_like (body_by_like hc takes) (λ y. branches_like hc takes h.0 h.1 y))

case_like : {c e : Parser GhostCommandTree} → Does false c e → Takes e → Does false (case_at c) (case_at e)
unfolding case_at
case_like hc takes = then_like case_head_like (λ h. then_like (commands_like hc takes) (λ xs. done_like (command_case h.0 h.1 (ghost_command_list xs))))

case_takes : {e : Parser GhostCommandTree} → Does false e e → Takes e → Takes (case_at e)
unfolding case_at
case_takes he takes = then_takes case_head_takes (λ h. then_like (commands_like he takes) (λ xs. done_like (command_case h.0 h.1 (ghost_command_list xs))))

cases_like : {c e : Parser GhostCommandTree} → Does false c e → Does false e e → Takes e → Does false (cases_at c) (cases_at e)
unfolding case_step
cases_like hc he takes = items_like (is_word Ghost keywords.Case) (case_like hc takes) (case_takes he takes) []

switch_like : {c e : Parser GhostCommandTree} (d m : ℕ) → d ≤ m → Does false c e → Does false e e → Takes e → Does false (switch_at d c) (switch_at m e)
unfolding switch_at
switch_like d m le hc he takes =
    then_like here_like (λ p. then_like (switch_head_like d m le) (λ x. then_like (cases_like hc he takes) (λ xs. then_like (mark_like Ghost punctuators.CloseBrace) (λ z. done_like (tree.switch_ p x (command_case_list xs))))))

command_by_like : {c e : Parser GhostCommandTree} (d m : ℕ) → d ≤ m → Does false c e → Does false e e → Takes e → Does false (command_by d c) (command_by m e)
unfolding command_by
command_by_like d m le hc he takes =
    choice_like (is_word Ghost keywords.If) (if_like d m le hc takes) (choice_like (is_word Ghost keywords.Switch) (switch_like d m le hc he takes)
    (choice_like (is_mark Ghost punctuators.OpenBrace) (block_like hc takes) (flat_like d m le)))

-- the tests of what begins a ghost command, each failed
record Uncommanded (ts : List Token) : Type 0 where
  open_word : head_has (is_word Ghost keywords.Open) ts ≡ false
  close_word : head_has (is_word Ghost keywords.Close) ts ≡ false
  leak_word : head_has (is_word Ghost keywords.Leak) ts ≡ false
  assert_word : head_has (is_word Ghost keywords.Assert) ts ≡ false
  if_word : head_has (is_word Ghost keywords.If) ts ≡ false
  switch_word : head_has (is_word Ghost keywords.Switch) ts ≡ false
  brace : head_has (is_mark Ghost punctuators.OpenBrace) ts ≡ false
  sort : head_has begins_sort ts ≡ false
  name : head_has (is_name Ghost) ts ≡ false

unnamed : (ts : List Token) → head_has begins_sort ts ≡ false → head_has (is_name Ghost) ts ≡ false
unfolding begins_sort
unnamed [] h = refl
unnamed (t ∷ ts) h =
    let a = or_parts _ (is_type_word Ghost t) h in
    (or_parts _ (is_name Ghost t) a.0).1

uncommanded : (ts : List Token) → head_has begins_command ts ≡ false → Uncommanded ts
unfolding begins_command is_command_word
uncommanded [] h = record { open_word = refl; close_word = refl; leak_word = refl; assert_word = refl; if_word = refl; switch_word = refl; brace = refl; sort = refl; name = refl }
uncommanded (t ∷ ts) h =
    let a = or_parts _ (begins_sort t) h in
    let b = or_parts _ (is_mark Ghost punctuators.OpenBrace t) a.0 in
    let c = or_parts _ (is_word Ghost keywords.Switch t) b.0 in
    let d = or_parts _ (is_word Ghost keywords.If t) c.0 in
    let e = or_parts _ (is_word Ghost keywords.Assert t) d.0 in
    let f = or_parts _ (is_word Ghost keywords.Leak t) e.0 in
    let g = or_parts (is_word Ghost keywords.Open t) _ f.0 in
    record { open_word = g.0; close_word = g.1; leak_word = f.1; assert_word = e.1; if_word = d.1; switch_word = c.1; brace = b.1; sort = a.1; name = unnamed (t ∷ ts) a.1 }

declaration_refuses : (d : ℕ) (ts : List Token) → head_has begins_sort ts ≡ false → Refuses (declaration_at d) ts
unfolding declaration_at here_at
declaration_refuses d [] h = refl
declaration_refuses d (t ∷ ts) h = rw (sort_refuses d (t ∷ ts) h) refl

value_refuses : (d : ℕ) (ts : List Token) → Uncommanded ts → Refuses (value_at d) ts
unfolding value_at sees_assignment sees_call
value_refuses d ts u = rw u.name (declaration_refuses d ts u.sort)

command_by_refuses : (d : ℕ) (c : Parser GhostCommandTree) (ts : List Token) → Uncommanded ts → Refuses (command_by d c) ts
unfolding command_by flat_at
command_by_refuses d c ts u = rw (u.if_word, u.switch_word, u.brace, u.open_word, u.close_word, u.leak_word, u.assert_word) (value_refuses d ts u)

-- what can't begin a ghost command is refused at once
command_refuses : (m : ℕ) (ts : List Token) → head_has begins_command ts ≡ false → Refuses (command_at m) ts
unfolding command_at too_deep_at
command_refuses zero ts h = rw h refl
command_refuses (suc m) ts h = command_by_refuses m (command_at m) ts (uncommanded ts h)

-- what is read as a ghost command takes a token
command_takes : (d : ℕ) → Takes (command_at d)
command_takes d ts x rest e = (command_eats x).eat ts rest ((command_sound d ts x rest e).0)

pub command_like : (d m : ℕ) → d ≤ m → Does false (command_at d) (command_at m)
unfolding command_at
command_like zero m le = too_deep_like begins_command (command_at m) (command_refuses m)
command_like (suc d) zero le = absurd (omega (arith, le))
command_like (suc d) (suc m) le = command_by_like d m (omega (arith, le)) (command_like d m (omega (arith, le))) (command_like m m (omega arith)) (command_takes m)

pub body_like : (d m : ℕ) → d ≤ m → Does false (body_at d) (body_at m)
body_like d m le = body_by_like (command_like d m le) (command_takes m)
