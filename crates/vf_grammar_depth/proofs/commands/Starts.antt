-- What begins a ghost command is taken, and what does not is refused at once.
use Rattle.std.proofs.Common.{◌≡◌, ℕ, suc, Bool, true, false, ◌&&◌, ◌||◌, List, [], ◌∷◌, length, refl, sym, ◌∙◌}
use Rattle.std.specs.Prelude.{if◌then◌else◌}
use Rattle.std.proofs.lemmas.Bool.{or_parts}
use Rattle.vf_lexer.specs.declared.punctuator.Punctuator.TheVariants as punctuators
use Rattle.vf_lexer.specs.declared.token.Token.{Token}
use Rattle.vf_syntax.specs.declared.keyword.Keyword.TheVariants as keywords
use Rattle.vf_syntax.specs.declared.side.Side.TheVariants.{Ghost}
use Rattle.vf_syntax.specs.GhostCommandTree.{GhostCommandTree, ghost_command_list, command_case_list}
use Rattle.vf_syntax.specs.GhostCommandTree as tree
use Rattle.vf_syntax.specs.Walks.{head_has, is_mark, is_word, is_name}
use Rattle.vf_cursor.specs.Parsing.{Parser}
use Rattle.vf_cursor.specs.Types.{is_type_word}
use Rattle.vf_parse_term.specs.Sorts.{begins_sort, sort_at}
use Rattle.vf_parse_command.specs.Flats.{second_has, sees_assignment, sees_call, open_at, close_at, leak_at, assert_at, declaration_at, assignment_at, call_at, value_at, flat_at}
use Rattle.vf_parse_command.specs.Commands.{is_command_word, begins_command, body_by, block_at, if_head_at, if_at, switch_at, command_by}
use Rattle.vf_grammar_depth.proofs.expressions.Deeper.{Deeper, keeps, then_deep, done_deep, mark_deep}
use Rattle.vf_grammar_depth.proofs.expressions.Begun.{BegunAt, Begun, then_begun, here_begun, mark_begun, word_begun, name_begun, choice_begun}
use Rattle.vf_grammar_depth.proofs.expressions.Starts.{begun_as}
use Rattle.vf_grammar_depth.proofs.expressions.TypeStarts.{begun_by, same_truth}
use Rattle.vf_grammar_depth.proofs.terms.Whole.{sort_same}
use Rattle.vf_grammar_depth.proofs.terms.Starts.{sort_starts}
use Rattle.vf_grammar_depth.proofs.assertions.Heads.{switch_head_starts}
use Rattle.vf_grammar_depth.proofs.commands.Flats.{Inside, applied_deep, declared_behind_deep, assigned_behind_deep, called_behind_deep}
use Rattle.vf_grammar_depth.proofs.commands.Commands.{body_of, commands_deep, body_by_deep, branches_deep, cases_deep}

-- where one sort may stand, what begins one is taken
sort_begun : (d : ℕ) → Begun (head_has begins_sort) (sort_at (suc d))
unfolding sort_at
sort_begun d = sort_starts (sort_same d)

open_starts : {d : ℕ} → Inside 0 d d → Begun (head_has (is_word Ghost keywords.Open)) (open_at d)
unfolding open_at
open_starts h = then_begun (word_begun Ghost keywords.Open) (λ w. keeps (then_deep (applied_deep h) (λ x. done_deep (tree.open_ w x.share x.name x.first x.second))))

close_starts : {d : ℕ} → Inside 0 d d → Begun (head_has (is_word Ghost keywords.Close)) (close_at d)
unfolding close_at
close_starts h = then_begun (word_begun Ghost keywords.Close) (λ w. keeps (then_deep (applied_deep h) (λ x. done_deep (tree.close_ w x.share x.name x.first x.second))))

leak_starts : {d : ℕ} → Inside 0 d d → Begun (head_has (is_word Ghost keywords.Leak)) (leak_at d)
unfolding leak_at
leak_starts h = then_begun (word_begun Ghost keywords.Leak) (λ w. keeps (then_deep h.assertions (λ a. then_deep (mark_deep Ghost punctuators.Semicolon) (λ z. done_deep (tree.leak_ w a)))))

assert_starts : {d : ℕ} → Inside 0 d d → Begun (head_has (is_word Ghost keywords.Assert)) (assert_at d)
unfolding assert_at
assert_starts h = then_begun (word_begun Ghost keywords.Assert) (λ w. keeps (then_deep h.assertions (λ a. then_deep (mark_deep Ghost punctuators.Semicolon) (λ z. done_deep (tree.assert_ w a)))))

declaration_starts : {d : ℕ} → Inside 0 (suc d) (suc d) → Begun (head_has begins_sort) (declaration_at (suc d))
unfolding declaration_at
declaration_starts {d = d} h = here_begun (sort_begun d) (λ p s. keeps (declared_behind_deep h p s))

assignment_starts : {d : ℕ} → Inside 0 d d → Begun (head_has (is_name Ghost)) (assignment_at d)
unfolding assignment_at
assignment_starts h = then_begun (name_begun Ghost) (λ n. keeps (assigned_behind_deep h n))

call_starts : {d : ℕ} → Inside 0 d d → Begun (head_has (is_name Ghost)) (call_at d)
unfolding call_at
call_starts h = then_begun (name_begun Ghost) (λ n. keeps (called_behind_deep h n))

and_left : (a b : Bool) → (a && b) ≡ true → a ≡ true
and_left true b h = refl
and_left false b h = h

not_false : (v : Bool) → (v ≡ false → true ≡ false) → v ≡ true
not_false true h = refl
not_false false h = sym (h refl)

unnamed : (ts : List Token) → head_has begins_sort ts ≡ false → head_has (is_name Ghost) ts ≡ false
unfolding begins_sort
unnamed [] h = refl
unnamed (t ∷ ts) h =
    let a = or_parts _ (is_type_word Ghost t) h in
    (or_parts _ (is_name Ghost t) a.0).1

-- a name begins a sort
named_sort : (ts : List Token) → head_has (is_name Ghost) ts ≡ true → head_has begins_sort ts ≡ true
named_sort ts e = not_false (head_has begins_sort ts) (λ h. sym e ∙ unnamed ts h)

-- what is taken where a name comes next, and something behind it
named_begun : {p : Parser GhostCommandTree} (test : Token → Bool) (ts : List Token) → Begun (head_has (is_name Ghost)) p → (head_has (is_name Ghost) ts && second_has test ts) ≡ true → BegunAt (head_has begins_sort ts) (length ts) (p ts)
named_begun {p = p} test ts h e =
    let n = and_left (head_has (is_name Ghost) ts) (second_has test ts) e in
    begun_as (head_has (is_name Ghost) ts) (head_has begins_sort ts) (length ts) (p ts) n (named_sort ts n) (h.run ts)

call_by : {d : ℕ} → Inside 0 (suc d) (suc d) → (ts : List Token) (w : Bool) → (head_has (is_name Ghost) ts && second_has (is_mark Ghost punctuators.OpenParenthesis) ts) ≡ w
    → BegunAt (head_has begins_sort ts) (length ts) (if w then call_at (suc d) ts else declaration_at (suc d) ts)
call_by h ts true e = named_begun (is_mark Ghost punctuators.OpenParenthesis) ts (call_starts h) e
call_by h ts false e = (declaration_starts h).run ts

value_by : {d : ℕ} → Inside 0 (suc d) (suc d) → (ts : List Token) (w : Bool) → (head_has (is_name Ghost) ts && second_has (is_mark Ghost punctuators.Becomes) ts) ≡ w
    → BegunAt (head_has begins_sort ts) (length ts) (if w then assignment_at (suc d) ts else (if head_has (is_name Ghost) ts && second_has (is_mark Ghost punctuators.OpenParenthesis) ts then call_at (suc d) ts else declaration_at (suc d) ts))
value_by h ts true e = named_begun (is_mark Ghost punctuators.Becomes) ts (assignment_starts h) e
value_by h ts false e = call_by h ts (head_has (is_name Ghost) ts && second_has (is_mark Ghost punctuators.OpenParenthesis) ts) refl

value_starts : {d : ℕ} → Inside 0 (suc d) (suc d) → Begun (head_has begins_sort) (value_at (suc d))
unfolding value_at sees_assignment sees_call
value_starts h = record { run = λ ts. value_by h ts (head_has (is_name Ghost) ts && second_has (is_mark Ghost punctuators.Becomes) ts) refl }

-- what begins a ghost command in which no other stands, in the order in which it is looked for
abbrev flats_seen : List Token → Bool
flats_seen ts = head_has (is_word Ghost keywords.Open) ts || (head_has (is_word Ghost keywords.Close) ts || (head_has (is_word Ghost keywords.Leak) ts || (head_has (is_word Ghost keywords.Assert) ts || head_has begins_sort ts)))

flat_starts : {d : ℕ} → Inside 0 (suc d) (suc d) → Begun flats_seen (flat_at (suc d))
unfolding flat_at
flat_starts h = choice_begun (open_starts h) (choice_begun (close_starts h) (choice_begun (leak_starts h) (choice_begun (assert_starts h) (value_starts h))))

body_by_starts : {c e : Parser GhostCommandTree} → Deeper 0 c e → Begun (head_has (is_mark Ghost punctuators.OpenBrace)) (body_by e)
unfolding body_by
body_by_starts hc = then_begun (mark_begun Ghost punctuators.OpenBrace) (λ o. keeps (then_deep (commands_deep hc) (λ xs. then_deep (mark_deep Ghost punctuators.CloseBrace) (λ z. done_deep (body_of o xs z)))))

block_starts : {c e : Parser GhostCommandTree} → Deeper 0 c e → Begun (head_has (is_mark Ghost punctuators.OpenBrace)) (block_at e)
unfolding block_at
block_starts hc = then_begun (body_by_starts hc) (λ y. keeps (done_deep {j = 0} (tree.block y.place (ghost_command_list y.commands))))

if_head_starts : {d : ℕ} → Inside 0 d d → Begun (head_has (is_word Ghost keywords.If)) (if_head_at d)
unfolding if_head_at
if_head_starts h = then_begun (word_begun Ghost keywords.If) (λ w. keeps (then_deep (mark_deep Ghost punctuators.OpenParenthesis) (λ o. then_deep h.terms (λ e. then_deep (mark_deep Ghost punctuators.CloseParenthesis) (λ z. done_deep (w, e))))))

if_starts : {d : ℕ} {c e : Parser GhostCommandTree} → Inside 0 d d → Deeper 0 c e → Begun (head_has (is_word Ghost keywords.If)) (if_at d e)
unfolding if_at
if_starts h hc = then_begun (if_head_starts h) (λ x. keeps (then_deep (body_by_deep hc) (λ y. branches_deep hc x.0 x.1 y)))

switch_starts : {d : ℕ} {c e : Parser GhostCommandTree} → Inside 0 d d → Deeper 0 c e → Begun (head_has (is_word Ghost keywords.Switch)) (switch_at d e)
unfolding switch_at
switch_starts {d = d} h hc = here_begun (switch_head_starts d) (λ p x. keeps (then_deep (cases_deep h hc) (λ xs. then_deep (mark_deep Ghost punctuators.CloseBrace) (λ z. done_deep (tree.switch_ p x (command_case_list xs))))))

-- what begins a ghost command, in the order in which it is looked for
abbrev commands_seen : List Token → Bool
commands_seen ts = head_has (is_word Ghost keywords.If) ts || (head_has (is_word Ghost keywords.Switch) ts || (head_has (is_mark Ghost punctuators.OpenBrace) ts || flats_seen ts))

commands_none : (t : Token) (ts : List Token) → commands_seen (t ∷ ts) ≡ false → begins_command t ≡ false
unfolding begins_command is_command_word
commands_none t ts h =
    let a = or_parts (is_word Ghost keywords.If t) _ h in
    let b = or_parts (is_word Ghost keywords.Switch t) _ a.1 in
    let c = or_parts (is_mark Ghost punctuators.OpenBrace t) _ b.1 in
    let d = or_parts (is_word Ghost keywords.Open t) _ c.1 in
    let e = or_parts (is_word Ghost keywords.Close t) _ d.1 in
    let f = or_parts (is_word Ghost keywords.Leak t) _ e.1 in
    let g = or_parts (is_word Ghost keywords.Assert t) _ f.1 in
    rw (a.0, b.0, c.0, d.0, e.0, f.0, g.0, g.1) refl

none_commands : (t : Token) (ts : List Token) → begins_command t ≡ false → commands_seen (t ∷ ts) ≡ false
unfolding begins_command is_command_word
none_commands t ts h =
    let a = or_parts _ (begins_sort t) h in
    let b = or_parts _ (is_mark Ghost punctuators.OpenBrace t) a.0 in
    let c = or_parts _ (is_word Ghost keywords.Switch t) b.0 in
    let d = or_parts _ (is_word Ghost keywords.If t) c.0 in
    let e = or_parts _ (is_word Ghost keywords.Assert t) d.0 in
    let f = or_parts _ (is_word Ghost keywords.Leak t) e.0 in
    let g = or_parts (is_word Ghost keywords.Open t) _ f.0 in
    rw (d.1, c.1, b.1, g.0, g.1, f.1, e.1, a.1) refl

commands_told : (ts : List Token) → commands_seen ts ≡ head_has begins_command ts
commands_told [] = refl
commands_told (t ∷ ts) = same_truth (commands_seen (t ∷ ts)) (begins_command t) (commands_none t ts) (none_commands t ts)

-- where one sort may stand inside, what begins a ghost command is taken
pub command_by_starts : {d : ℕ} {c e : Parser GhostCommandTree} → Inside 0 (suc d) (suc d) → Deeper 0 c e → Begun (head_has begins_command) (command_by (suc d) e)
unfolding command_by
command_by_starts h hc = begun_by commands_told (choice_begun (if_starts h hc) (choice_begun (switch_starts h hc) (choice_begun (block_starts hc) (flat_starts h))))
