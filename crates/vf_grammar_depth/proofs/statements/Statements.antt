-- Statements that may nest deeper are read past each token that was too deep, where annotations are.
use Rattle.std.proofs.Common.{ℕ, ◌&&◌, List, [], Option, Some, None}
use Rattle.vf_base.specs.declared.place.Place.{Place}
use Rattle.vf_lexer.specs.declared.punctuator.Punctuator.TheVariants as punctuators
use Rattle.vf_lexer.specs.declared.token.Token.{Token}
use Rattle.std.specs.Prelude.{Bool}
use Rattle.vf_syntax.specs.declared.keyword.Keyword.TheVariants as keywords
use Rattle.vf_syntax.specs.declared.side.Side.TheVariants.{Real, Ghost}
use Rattle.vf_syntax.specs.declared.side.Grammar.{Grammar}
use Rattle.vf_syntax.specs.declared.contract.Invariant.{Invariant}
use Rattle.vf_syntax.specs.declared.simple.Simple.{Simple}
use Rattle.vf_syntax.specs.declared.simple.First.{First}
use Rattle.vf_syntax.specs.declared.item.Body.{Body}
use Rattle.vf_syntax.specs.ExprTree.{ExprTree}
use Rattle.vf_syntax.specs.GhostCommandTree.{GhostCommandTree}
use Rattle.vf_syntax.specs.StmtTree.{StmtTree, stmt_list}
use Rattle.vf_syntax.specs.StmtTree as tree
use Rattle.vf_syntax.specs.Walks.{head_has, is_on, is_mark, is_word}
use Rattle.vf_cursor.specs.Parsing.{Parser}
use Rattle.vf_parse_simple.specs.Simples.{sees_declaration}
use Rattle.vf_parse_statement.specs.declared.flat.Parts.{Parts}
use Rattle.vf_parse_statement.specs.Parsers.{is_whole, owed_at, unless_at, declaration_at, simple_statement_at, optional_expr_at, return_at, empty_at, flat_at, command_statement_at, condition_at, optional_first_at, optional_step_at, head_at, branches_at, if_at, while_head_at, while_of, while_at, for_head_at, for_of, for_at, sees_annotation, stmt_by, is_inside, stmts_by, body_by, block_by, real_by}
use Rattle.vf_grammar_depth.proofs.expressions.Deeper.{Deeper, then_deep, done_deep, here_deep, mark_deep, word_deep, choice_deep, head_deep, fixed_deep, items_deep}
use Rattle.vf_grammar_depth.proofs.statements.Simples.{declared_deep, optional_value_deep, simple_deep, first_deep}

pub owed_deep : {A : Type 0} {j : ℕ} {p q : Parser A} (g : Grammar) → Deeper j p q → Deeper j (owed_at g p) (owed_at g q)
owed_deep g h = fixed_deep (is_whole g) (then_deep h (λ x. done_deep (Some x))) (done_deep None)

unless_deep : {A : Type 0} {j : ℕ} {p q : Parser A} (ends : Token → Bool) → Deeper j p q → Deeper j (unless_at ends p) (unless_at ends q)
unless_deep ends h = head_deep ends (done_deep None) (then_deep h (λ x. done_deep (Some x)))

pub declaration_deep : {j : ℕ} {e h : Parser ExprTree} → Deeper j e h → Deeper j (declaration_at e) (declaration_at h)
unfolding declaration_at
declaration_deep he = then_deep here_deep (λ p. then_deep declared_deep (λ d. then_deep (optional_value_deep he) (λ v. then_deep (mark_deep Real punctuators.Semicolon) (λ m. done_deep (tree.declaration p d.0 d.1 v m)))))

pub simple_statement_deep : {j : ℕ} {e h f k : Parser ExprTree} → Deeper j e h → Deeper j f k → Deeper j (simple_statement_at e f) (simple_statement_at h k)
unfolding simple_statement_at
simple_statement_deep he hf = then_deep here_deep (λ p. then_deep (simple_deep he hf) (λ x. then_deep (mark_deep Real punctuators.Semicolon) (λ m. done_deep (tree.simple p x m))))

pub optional_expr_deep : {j : ℕ} {e h : Parser ExprTree} → Deeper j e h → Deeper j (optional_expr_at e) (optional_expr_at h)
unfolding optional_expr_at
optional_expr_deep he = unless_deep (is_mark Real punctuators.Semicolon) he

pub return_deep : {j : ℕ} {e h : Parser ExprTree} → Deeper j e h → Deeper j (return_at e) (return_at h)
unfolding return_at
return_deep he = then_deep (word_deep Real keywords.Return) (λ w. then_deep (optional_expr_deep he) (λ x. then_deep (mark_deep Real punctuators.Semicolon) (λ m. done_deep (tree.return_ w x m))))

pub empty_deep : {j : ℕ} → Deeper j empty_at empty_at
unfolding empty_at
empty_deep = then_deep (mark_deep Real punctuators.Semicolon) (λ m. done_deep (tree.empty_ m))

flat_deep : {j : ℕ} {e h f k : Parser ExprTree} → Deeper j e h → Deeper j f k → Deeper j (flat_at e f) (flat_at h k)
unfolding flat_at
flat_deep he hf = head_deep (is_word Real keywords.Return) (return_deep he) (head_deep (is_mark Real punctuators.Semicolon) empty_deep (choice_deep sees_declaration (declaration_deep he) (simple_statement_deep he hf)))

command_statement_deep : {j : ℕ} {c l : Parser GhostCommandTree} → Deeper j c l → Deeper j (command_statement_at c) (command_statement_at l)
unfolding command_statement_at
command_statement_deep hc = then_deep here_deep (λ p. then_deep hc (λ x. done_deep (tree.ghost p x)))

pub condition_deep : {j : ℕ} {e h : Parser ExprTree} → Deeper j e h → Deeper j (condition_at e) (condition_at h)
unfolding condition_at
condition_deep he = then_deep (mark_deep Real punctuators.OpenParenthesis) (λ o. then_deep he (λ x. then_deep (mark_deep Real punctuators.CloseParenthesis) (λ m. done_deep x)))

-- what stands between the parentheses of a `for`
abbrev parts_of : Option First → Option ExprTree → Option Simple → Parts
parts_of a c s = record { first = a; condition = c; step = s }

pub for_parts_deep : {j : ℕ} {e h f k : Parser ExprTree} → Deeper j e h → Deeper j f k → Deeper j (head_at e f) (head_at h k)
unfolding head_at optional_first_at optional_step_at
for_parts_deep he hf =
    then_deep (mark_deep Real punctuators.OpenParenthesis) (λ o. then_deep (unless_deep (is_mark Real punctuators.Semicolon) (first_deep he hf)) (λ a. then_deep (mark_deep Real punctuators.Semicolon) (λ m. then_deep (optional_expr_deep he)
    (λ c. then_deep (mark_deep Real punctuators.Semicolon) (λ n. then_deep (unless_deep (is_mark Real punctuators.CloseParenthesis) (simple_deep he hf)) (λ s. then_deep (mark_deep Real punctuators.CloseParenthesis) (λ x. done_deep (parts_of a c s))))))))

pub branches_deep : {j : ℕ} {s r : Parser StmtTree} → Deeper j s r → (p : Place) (c : ExprTree) (a : StmtTree) → Deeper j (branches_at s p c a) (branches_at r p c a)
unfolding branches_at
branches_deep hs p c a = head_deep (is_word Real keywords.Else) (then_deep (word_deep Real keywords.Else) (λ w. then_deep hs (λ x. done_deep (tree.if_else p c a x)))) (done_deep (tree.if_ p c a))

pub if_deep : {j : ℕ} {e h : Parser ExprTree} {s r : Parser StmtTree} → Deeper j e h → Deeper j s r → Deeper j (if_at e s) (if_at h r)
unfolding if_at
if_deep he hs = then_deep (word_deep Real keywords.If) (λ w. then_deep (condition_deep he) (λ c. then_deep hs (λ a. branches_deep hs w c a)))

while_head_deep : {j : ℕ} {e h : Parser ExprTree} {i v : Parser Invariant} (g : Grammar) → Deeper j e h → Deeper j i v → Deeper j (while_head_at g e i) (while_head_at g h v)
unfolding while_head_at
while_head_deep g he hi = then_deep (word_deep Real keywords.While) (λ w. then_deep (condition_deep he) (λ c. then_deep (owed_deep g hi) (λ v. done_deep (w, c, v))))

pub while_deep : {j : ℕ} {e h : Parser ExprTree} {i v : Parser Invariant} {s r : Parser StmtTree} (g : Grammar) → Deeper j e h → Deeper j i v → Deeper j s r → Deeper j (while_at g e i s) (while_at g h v r)
unfolding while_at
while_deep g he hi hs = then_deep (while_head_deep g he hi) (λ p. then_deep hs (λ x. done_deep (while_of p x)))

for_head_deep : {j : ℕ} {e h f k : Parser ExprTree} {i v : Parser Invariant} (g : Grammar) → Deeper j e h → Deeper j f k → Deeper j i v → Deeper j (for_head_at g e f i) (for_head_at g h k v)
unfolding for_head_at
for_head_deep g he hf hi = then_deep (word_deep Real keywords.For) (λ w. then_deep (for_parts_deep he hf) (λ p. then_deep (owed_deep g hi) (λ v. done_deep (w, p, v))))

pub for_deep : {j : ℕ} {e h f k : Parser ExprTree} {i v : Parser Invariant} {s r : Parser StmtTree} (g : Grammar) → Deeper j e h → Deeper j f k → Deeper j i v → Deeper j s r → Deeper j (for_at g e f i s) (for_at g h k v r)
unfolding for_at
for_deep g he hf hi hs = then_deep (for_head_deep g he hf hi) (λ p. then_deep hs (λ x. done_deep (for_of p x)))

pub stmt_deep : {j : ℕ} {c l : Parser GhostCommandTree} {s r : Parser StmtTree} (g : Grammar) → Deeper j c l → Deeper j s r → Deeper j (stmt_by g c s) (stmt_by g l r)
unfolding stmt_by sees_annotation
stmt_deep g hc hs = choice_deep (λ ts. is_whole g && head_has (is_on Ghost) ts) (command_statement_deep hc) hs

-- the body of a function
abbrev pub body_of : Place → List StmtTree → Place → Body
body_of p xs m = record { place = p; statements = xs; last = m }

pub body_deep : {j : ℕ} {p q : Parser StmtTree} → Deeper j p q → Deeper j (body_by p) (body_by q)
unfolding body_by stmts_by
body_deep hp = then_deep (mark_deep Real punctuators.OpenBrace) (λ o. then_deep (items_deep is_inside hp []) (λ xs. then_deep (mark_deep Real punctuators.CloseBrace) (λ m. done_deep (body_of o xs m))))

pub block_deep : {j : ℕ} {p q : Parser StmtTree} → Deeper j p q → Deeper j (block_by p) (block_by q)
unfolding block_by
block_deep hp = then_deep (body_deep hp) (λ x. done_deep (tree.block x.place (stmt_list x.statements) x.last))

pub real_deep : {j : ℕ} {e h f k : Parser ExprTree} {i v : Parser Invariant} {s r p q : Parser StmtTree} (g : Grammar) → Deeper j e h → Deeper j f k → Deeper j i v → Deeper j s r → Deeper j p q → Deeper j (real_by g e f i s p) (real_by g h k v r q)
unfolding real_by
real_deep g he hf hi hs hp =
    head_deep (is_word Real keywords.If) (if_deep he hs) (head_deep (is_word Real keywords.While) (while_deep g he hi hs)
    (head_deep (is_word Real keywords.For) (for_deep g he hf hi hs) (head_deep (is_mark Real punctuators.OpenBrace) (block_deep hp) (flat_deep he hf))))
