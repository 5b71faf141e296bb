-- Ghost commands in which others stand go past what was too deep, where more may nest.
use Rattle.std.proofs.Common.{ℕ, List, []}
use Rattle.vf_base.specs.declared.place.Place.{Place}
use Rattle.vf_lexer.specs.declared.punctuator.Punctuator.TheVariants as punctuators
use Rattle.vf_syntax.specs.declared.keyword.Keyword.TheVariants as keywords
use Rattle.vf_syntax.specs.declared.side.Side.TheVariants.{Ghost}
use Rattle.vf_syntax.specs.declared.item.GhostBody.{GhostBody}
use Rattle.vf_syntax.specs.GhostExprTree.{GhostExprTree}
use Rattle.vf_syntax.specs.GhostCommandTree.{GhostCommandTree, ghost_command_list, command_case_list, command_case}
use Rattle.vf_syntax.specs.GhostCommandTree as tree
use Rattle.vf_syntax.specs.Walks.{is_mark, is_word}
use Rattle.vf_cursor.specs.Parsing.{Parser}
use Rattle.vf_parse_command.specs.Commands.{is_inside, command_step, commands_at, body_by, block_at, if_head_at, branches_at, if_at, case_at, case_step, cases_at, switch_at, command_by}
use Rattle.vf_grammar_depth.proofs.expressions.Deeper.{Deeper, then_deep, done_deep, here_deep, mark_deep, word_deep, head_deep, items_deep}
use Rattle.vf_grammar_depth.proofs.commands.Flats.{Inside, flat_deep}

pub commands_deep : {j : ℕ} {c e : Parser GhostCommandTree} → Deeper j c e → Deeper j (commands_at c) (commands_at e)
unfolding command_step
commands_deep hc = items_deep is_inside hc []

-- the body of a lemma, or a block
abbrev pub body_of : Place → List GhostCommandTree → Place → GhostBody
body_of p xs z = record { place = p; commands = xs; last = z }

pub body_by_deep : {j : ℕ} {c e : Parser GhostCommandTree} → Deeper j c e → Deeper j (body_by c) (body_by e)
unfolding body_by
body_by_deep hc = then_deep (mark_deep Ghost punctuators.OpenBrace) (λ o. then_deep (commands_deep hc) (λ xs. then_deep (mark_deep Ghost punctuators.CloseBrace) (λ z. done_deep (body_of o xs z))))

block_deep : {j : ℕ} {c e : Parser GhostCommandTree} → Deeper j c e → Deeper j (block_at c) (block_at e)
unfolding block_at
block_deep hc = then_deep (body_by_deep hc) (λ y. done_deep (tree.block y.place (ghost_command_list y.commands)))

if_head_deep : {j d m : ℕ} → Inside j d m → Deeper j (if_head_at d) (if_head_at m)
unfolding if_head_at
if_head_deep h = then_deep (word_deep Ghost keywords.If) (λ w. then_deep (mark_deep Ghost punctuators.OpenParenthesis) (λ o. then_deep h.terms (λ e. then_deep (mark_deep Ghost punctuators.CloseParenthesis) (λ z. done_deep (w, e)))))

pub branches_deep : {j : ℕ} {c e : Parser GhostCommandTree} → Deeper j c e → (p : Place) (x : GhostExprTree) (y : GhostBody) → Deeper j (branches_at c p x y) (branches_at e p x y)
unfolding branches_at
branches_deep hc p x y =
    head_deep (is_word Ghost keywords.Else) (then_deep (word_deep Ghost keywords.Else) (λ w. then_deep (body_by_deep hc) (λ z. done_deep (tree.if_else p x (ghost_command_list y.commands) (ghost_command_list z.commands)))))
    (done_deep (tree.if_ p x (ghost_command_list y.commands)))

if_deep : {j d m : ℕ} {c e : Parser GhostCommandTree} → Inside j d m → Deeper j c e → Deeper j (if_at d c) (if_at m e)
unfolding if_at
if_deep h hc = then_deep (if_head_deep h) (λ x. then_deep (body_by_deep hc) (λ y. branches_deep hc x.0 x.1 y))

case_deep : {j d m : ℕ} {c e : Parser GhostCommandTree} → Inside j d m → Deeper j c e → Deeper j (case_at c) (case_at e)
unfolding case_at
case_deep h hc = then_deep h.cases (λ x. then_deep (commands_deep hc) (λ xs. done_deep (command_case x.0 x.1 (ghost_command_list xs))))

pub cases_deep : {j d m : ℕ} {c e : Parser GhostCommandTree} → Inside j d m → Deeper j c e → Deeper j (cases_at c) (cases_at e)
unfolding case_step
cases_deep h hc = items_deep (is_word Ghost keywords.Case) (case_deep h hc) []

switch_deep : {j d m : ℕ} {c e : Parser GhostCommandTree} → Inside j d m → Deeper j c e → Deeper j (switch_at d c) (switch_at m e)
unfolding switch_at
switch_deep h hc =
    then_deep here_deep (λ p. then_deep h.switches (λ x. then_deep (cases_deep h hc) (λ xs. then_deep (mark_deep Ghost punctuators.CloseBrace) (λ z. done_deep (tree.switch_ p x (command_case_list xs))))))

pub command_by_deep : {j d m : ℕ} {c e : Parser GhostCommandTree} → Inside j d m → Deeper j c e → Deeper j (command_by d c) (command_by m e)
unfolding command_by
command_by_deep h hc =
    head_deep (is_word Ghost keywords.If) (if_deep h hc) (head_deep (is_word Ghost keywords.Switch) (switch_deep h hc) (head_deep (is_mark Ghost punctuators.OpenBrace) (block_deep hc) (flat_deep h)))
