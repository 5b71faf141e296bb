-- Expressions of ghost text go past what was too deep, where more may nest.
use Rattle.std.proofs.Common.{ℕ, zero, suc, List, [], Option, Some, None}
use Rattle.vf_base.specs.declared.place.Place.{Place}
use Rattle.vf_lexer.specs.declared.punctuator.Punctuator.TheVariants as punctuators
use Rattle.vf_syntax.specs.declared.keyword.Keyword.TheVariants as keywords
use Rattle.vf_syntax.specs.declared.side.Side.TheVariants.{Ghost}
use Rattle.vf_syntax.specs.declared.operator.UnaryOperator.{UnaryOperator}
use Rattle.vf_syntax.specs.declared.operator.BinaryOperator.{BinaryOperator}
use Rattle.vf_syntax.specs.declared.operator.Level.{Level}
use Rattle.vf_syntax.specs.GhostExprTree.{GhostExprTree, ghost_expr_list, ghost_link}
use Rattle.vf_syntax.specs.GhostExprTree as tree
use Rattle.vf_syntax.specs.Walks.{is_mark, is_word, is_name}
use Rattle.vf_syntax.specs.Written.{unary_mark, binary_mark}
use Rattle.vf_cursor.specs.Parsing.{Parser}
use Rattle.vf_cursor.specs.Types.{next_on, next_unary}
use Rattle.vf_parse_term.specs.Terms.{literal_at, constant_at, arguments_at, named_at, second_branch_at, branches_at, parenthesized_at, primary_form_at, primary_at, signed_by, signed_at, level_above, joins, link_by, link_at, link_step, chained, chain_at, joined_by, rest_at, joined_at}
use Rattle.vf_grammar_depth.proofs.expressions.Deeper.{Deeper, then_deep, done_deep, fail_deep, here_deep, mark_deep, word_deep, name_deep, number_deep, found_deep, head_deep, items_deep}
use Rattle.vf_grammar_depth.proofs.terms.Pieces.{any_deep}

pub literal_deep : {j : ℕ} (p : Place) → Deeper j (literal_at p) (literal_at p)
unfolding literal_at
literal_deep p =
    head_deep (is_word Ghost keywords.True) (then_deep (word_deep Ghost keywords.True) (λ a. done_deep (tree.true_ p)))
    (head_deep (is_word Ghost keywords.False) (then_deep (word_deep Ghost keywords.False) (λ a. done_deep (tree.false_ p)))
    (then_deep (number_deep Ghost) (λ n. done_deep (tree.number p n.0 n.1))))

constant_deep : {j : ℕ} (p : Place) → Deeper j (constant_at p) (constant_at p)
unfolding constant_at
constant_deep p =
    head_deep (is_word Ghost keywords.Result) (then_deep (word_deep Ghost keywords.Result) (λ a. done_deep (tree.result p)))
    (head_deep (is_word Ghost keywords.This) (then_deep (word_deep Ghost keywords.This) (λ a. done_deep (tree.this_ p)))
    (head_deep (is_word Ghost keywords.CurrentThread) (then_deep (word_deep Ghost keywords.CurrentThread) (λ a. done_deep (tree.current_thread p))) (literal_deep p)))

pub arguments_deep : {j : ℕ} {e g : Parser GhostExprTree} → Deeper j e g → Deeper j (arguments_at e) (arguments_at g)
unfolding arguments_at
arguments_deep he =
    then_deep (mark_deep Ghost punctuators.OpenParenthesis) (λ a. then_deep (any_deep (is_mark Ghost punctuators.CloseParenthesis) he) (λ xs. then_deep (mark_deep Ghost punctuators.CloseParenthesis) (λ b. done_deep xs)))

pub named_deep : {j : ℕ} {e g : Parser GhostExprTree} → Deeper j e g → (p : Place) (x : List ℕ) → Deeper j (named_at e p x) (named_at g p x)
unfolding named_at
named_deep he p x = head_deep (is_mark Ghost punctuators.OpenParenthesis) (then_deep (arguments_deep he) (λ xs. done_deep (tree.application p x (ghost_expr_list xs)))) (done_deep (tree.name_ p x))

second_branch_deep : {j : ℕ} {f h : Parser GhostExprTree} → Deeper j f h → (p : Place) (c a : GhostExprTree) → Deeper j (second_branch_at f p c a) (second_branch_at h p c a)
unfolding second_branch_at
second_branch_deep hf p c a = then_deep (mark_deep Ghost punctuators.Colon) (λ k. then_deep hf (λ b. then_deep (mark_deep Ghost punctuators.CloseParenthesis) (λ z. done_deep (tree.conditional p c a b))))

pub branches_deep : {j : ℕ} {f h : Parser GhostExprTree} → Deeper j f h → (p : Place) (c : GhostExprTree) → Deeper j (branches_at f p c) (branches_at h p c)
unfolding branches_at
branches_deep hf p c = then_deep (mark_deep Ghost punctuators.Question) (λ q. then_deep hf (λ a. second_branch_deep hf p c a))

pub parenthesized_deep : {j : ℕ} {e g f h : Parser GhostExprTree} → Deeper j e g → Deeper j f h → (p : Place) → Deeper j (parenthesized_at e f p) (parenthesized_at g h p)
unfolding parenthesized_at
parenthesized_deep he hf p =
    then_deep (mark_deep Ghost punctuators.OpenParenthesis) (λ o. then_deep he (λ c. head_deep (is_mark Ghost punctuators.Question) (branches_deep hf p c) (then_deep (mark_deep Ghost punctuators.CloseParenthesis) (λ z. done_deep (tree.parenthesized p c)))))

pub primary_form_deep : {j : ℕ} {e g f h : Parser GhostExprTree} → Deeper j e g → Deeper j f h → (p : Place) → Deeper j (primary_form_at e f p) (primary_form_at g h p)
unfolding primary_form_at
primary_form_deep he hf p =
    head_deep (is_mark Ghost punctuators.OpenParenthesis) (parenthesized_deep he hf p) (head_deep (is_name Ghost) (then_deep (name_deep Ghost) (λ n. named_deep he p n.text)) (constant_deep p))

pub primary_deep : {j : ℕ} {e g f h : Parser GhostExprTree} → Deeper j e g → Deeper j f h → Deeper j (primary_at e f) (primary_at g h)
unfolding primary_at
primary_deep he hf = then_deep here_deep (λ p. primary_form_deep he hf p)

signed_by_deep : {j : ℕ} {e g f h u v : Parser GhostExprTree} → Deeper j e g → Deeper j f h → Deeper j u v → (o : Option UnaryOperator) → Deeper j (signed_by e f u o) (signed_by g h v o)
signed_by_deep he hf hu None = primary_deep he hf
signed_by_deep he hf hu (Some o) = then_deep (mark_deep Ghost (unary_mark o)) (λ p. then_deep hu (λ a. done_deep (tree.unary p o a)))

pub signed_deep : {j : ℕ} {e g f h u v : Parser GhostExprTree} → Deeper j e g → Deeper j f h → Deeper j u v → Deeper j (signed_at e f u) (signed_at g h v)
unfolding signed_at
signed_deep {e = e} {g = g} {f = f} {h = h} {u = u} {v = v} he hf hu = found_deep (next_unary Ghost) (signed_by e f u) (signed_by g h v) (λ o. signed_by_deep he hf hu o)

link_by_deep : {j : ℕ} {p q : Parser GhostExprTree} → Deeper j p q → (o : Option BinaryOperator) → Deeper j (link_by p o) (link_by q o)
link_by_deep hp None = fail_deep
link_by_deep hp (Some o) = then_deep (mark_deep Ghost (binary_mark o)) (λ m. then_deep hp (λ a. done_deep (ghost_link m o a)))

link_deep : {j : ℕ} {p q : Parser GhostExprTree} (l : Level) → Deeper j p q → Deeper j (link_at l p) (link_at l q)
unfolding link_at
link_deep {p = p} {q = q} l hp = found_deep (next_on Ghost l) (link_by p) (link_by q) (λ o. link_by_deep hp o)

chain_deep : {j : ℕ} {p q : Parser GhostExprTree} (l : Level) → Deeper j p q → (h : Place) (a : GhostExprTree) → Deeper j (chain_at l p h a) (chain_at l q h a)
unfolding chain_at link_step
chain_deep l hp h a = then_deep (items_deep (joins l) (link_deep l hp) []) (λ xs. done_deep (chained h l a xs))

pub rest_deep : {j : ℕ} {u v : Parser GhostExprTree} → Deeper j u v → (n : ℕ) (p : Place) (a : GhostExprTree) → Deeper j (rest_at u n p a) (rest_at v n p a)
unfolding rest_at joined_by
rest_deep hu zero p a = done_deep a
rest_deep hu (suc n) p a = then_deep (rest_deep hu n p a) (λ b. chain_deep (level_above n) (then_deep here_deep (λ h. then_deep hu (λ c. rest_deep hu n h c))) p b)

pub joined_deep : {j : ℕ} {u v : Parser GhostExprTree} → Deeper j u v → (n : ℕ) → Deeper j (joined_at u n) (joined_at v n)
unfolding joined_by
joined_deep hu n = then_deep here_deep (λ h. then_deep hu (λ c. rest_deep hu n h c))
