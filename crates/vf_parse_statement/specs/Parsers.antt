-- Parsers of statements. e reads an expression, f a primary expression with what stands behind it, i an invariant and s a statement that is no ghost command.
use Rattle.std.specs.Prelude.{ℕ, zero, suc, Bool, true, false, not, ◌&&◌, ◌||◌, List, [], Option, Some, None, if◌then◌else◌}
use Rattle.vf_base.specs.declared.place.Place.{Place}
use Rattle.vf_lexer.specs.declared.punctuator.Punctuator.TheVariants as punctuators
use Rattle.vf_lexer.specs.declared.token.Token.{Token}
use Rattle.vf_syntax.specs.declared.keyword.Keyword.TheVariants as keywords
use Rattle.vf_syntax.specs.declared.side.Side.TheVariants.{Real, Ghost}
use Rattle.vf_syntax.specs.declared.side.Grammar.{Grammar}
use Rattle.vf_syntax.specs.declared.side.Grammar.TheVariants as grammars
use Rattle.vf_syntax.specs.declared.contract.Invariant.{Invariant}
use Rattle.vf_syntax.specs.declared.simple.Simple.{Simple}
use Rattle.vf_syntax.specs.declared.simple.First.{First}
use Rattle.vf_syntax.specs.declared.item.Body.{Body}
use Rattle.vf_syntax.specs.ExprTree.{ExprTree}
use Rattle.vf_syntax.specs.GhostCommandTree.{GhostCommandTree}
use Rattle.vf_syntax.specs.StmtTree.{StmtTree, stmt_list}
use Rattle.vf_syntax.specs.StmtTree as tree
use Rattle.vf_syntax.specs.Walks.{head_has, is_on, is_mark, is_word}
use Rattle.vf_cursor.specs.Parsing.{Parser, ok, ◌>>=◌, here_at, mark_at, word_at, is_there, many, item_step}
use Rattle.vf_cursor.specs.Types.{is_type_word, next_step}
use Rattle.vf_parse_expression.specs.Operands.{sees_primary}
use Rattle.vf_parse_expression.specs.Parsers.{too_deep, expr_at, postfix_at}
use Rattle.vf_parse_statement.specs.declared.flat.Parts.{Parts}
use Rattle.vf_parse_simple.specs.Simples.{sees_declaration, declared_at, optional_value_at, simple_at, first_at}

-- a grammar has annotations
abbrev pub is_whole : Grammar → Bool
is_whole grammars.Whole = true
is_whole grammars.Plain = false

-- a part that the whole grammar owes, and the plain one has not
abbrev pub owed_at : {A : Type 0} → Grammar → Parser A → Parser (Option A)
owed_at g p ts = if is_whole g then (p ts >>= λ x. ok (Some x.0) x.1) else ok None ts

-- a part that may be absent, where a token that ends it does not come next
abbrev pub unless_at : {A : Type 0} → (Token → Bool) → Parser A → Parser (Option A)
unless_at ends p ts = if head_has ends ts then ok None ts else (p ts >>= λ x. ok (Some x.0) x.1)

-- a word that begins a statement comes next
unfoldable pub sees_statement_word : List Token → Bool
sees_statement_word ts = head_has (is_word Real keywords.If) ts || (head_has (is_word Real keywords.While) ts || (head_has (is_word Real keywords.For) ts || head_has (is_word Real keywords.Return) ts))

-- what can begin a statement of real text comes next
unfoldable pub sees_statement : List Token → Bool
sees_statement ts = sees_statement_word ts || (head_has (is_mark Real punctuators.OpenBrace) ts || (head_has (is_mark Real punctuators.Semicolon) ts
    || (head_has (is_type_word Real) ts || (is_there (next_step ts) || sees_primary ts))))

-- a declaration: type NAME ["=" expression] ";"
unfoldable pub declaration_at : Parser ExprTree → Parser StmtTree
declaration_at e ts = here_at ts >>= λ h. declared_at h.1 >>= λ d. optional_value_at e d.1 >>= λ v. mark_at Real punctuators.Semicolon v.1 >>= λ m. ok (tree.declaration h.0 d.0.0 d.0.1 v.0 m.0) m.1

-- an assignment or a call, and ";"
unfoldable pub simple_statement_at : Parser ExprTree → Parser ExprTree → Parser StmtTree
simple_statement_at e f ts = here_at ts >>= λ h. simple_at e f h.1 >>= λ x. mark_at Real punctuators.Semicolon x.1 >>= λ m. ok (tree.simple h.0 x.0 m.0) m.1

-- an expression, or none where ";" comes next
unfoldable pub optional_expr_at : Parser ExprTree → Parser (Option ExprTree)
optional_expr_at e ts = unless_at (is_mark Real punctuators.Semicolon) e ts

-- "return" [expression] ";"
unfoldable pub return_at : Parser ExprTree → Parser StmtTree
return_at e ts = word_at Real keywords.Return ts >>= λ w. optional_expr_at e w.1 >>= λ x. mark_at Real punctuators.Semicolon x.1 >>= λ m. ok (tree.return_ w.0 x.0 m.0) m.1

-- ";"
unfoldable pub empty_at : Parser StmtTree
empty_at ts = mark_at Real punctuators.Semicolon ts >>= λ m. ok (tree.empty_ m.0) m.1

-- a statement in which no other stands
unfoldable pub flat_at : Parser ExprTree → Parser ExprTree → Parser StmtTree
flat_at e f ts = if head_has (is_word Real keywords.Return) ts then return_at e ts else (if head_has (is_mark Real punctuators.Semicolon) ts then empty_at ts
    else (if sees_declaration ts then declaration_at e ts else simple_statement_at e f ts))

-- a ghost command, as a statement
unfoldable pub command_statement_at : Parser GhostCommandTree → Parser StmtTree
command_statement_at c ts = here_at ts >>= λ h. c h.1 >>= λ x. ok (tree.ghost h.0 x.0) x.1

-- "(" expression ")"
unfoldable pub condition_at : Parser ExprTree → Parser ExprTree
condition_at e ts = mark_at Real punctuators.OpenParenthesis ts >>= λ o. e o.1 >>= λ x. mark_at Real punctuators.CloseParenthesis x.1 >>= λ m. ok x.0 m.1

-- what stands first in a `for`, or nothing where ";" comes next
unfoldable pub optional_first_at : Parser ExprTree → Parser ExprTree → Parser (Option First)
optional_first_at e f ts = unless_at (is_mark Real punctuators.Semicolon) (first_at e f) ts

-- the step of a `for`, or nothing where ")" comes next
unfoldable pub optional_step_at : Parser ExprTree → Parser ExprTree → Parser (Option Simple)
optional_step_at e f ts = unless_at (is_mark Real punctuators.CloseParenthesis) (simple_at e f) ts

-- what stands behind the condition of a `for` and its ";": [step] ")"
unfoldable pub behind_condition_at : Parser ExprTree → Parser ExprTree → Option First → Option ExprTree → Parser Parts
behind_condition_at e f a c ts = optional_step_at e f ts >>= λ s. mark_at Real punctuators.CloseParenthesis s.1 >>= λ x. ok (record { first = a; condition = c; step = s.0 }) x.1

-- what stands behind the first part of a `for` and its ";": [expression] ";" [step] ")"
unfoldable pub behind_first_at : Parser ExprTree → Parser ExprTree → Option First → Parser Parts
behind_first_at e f a ts = optional_expr_at e ts >>= λ c. mark_at Real punctuators.Semicolon c.1 >>= λ n. behind_condition_at e f a c.0 n.1

-- "(" [first] ";" [expression] ";" [step] ")"
unfoldable pub head_at : Parser ExprTree → Parser ExprTree → Parser Parts
head_at e f ts = mark_at Real punctuators.OpenParenthesis ts >>= λ o. optional_first_at e f o.1 >>= λ a. mark_at Real punctuators.Semicolon a.1 >>= λ m. optional_expr_at e m.1
    >>= λ c. mark_at Real punctuators.Semicolon c.1 >>= λ n. optional_step_at e f n.1 >>= λ s. mark_at Real punctuators.CloseParenthesis s.1 >>= λ x. ok (record { first = a.0; condition = c.0; step = s.0 }) x.1

-- an `else` and the statement behind it
unfoldable pub other_branch_at : Parser StmtTree → Place → ExprTree → StmtTree → Parser StmtTree
other_branch_at s p c a ts = word_at Real keywords.Else ts >>= λ w. s w.1 >>= λ b. ok (tree.if_else p c a b.0) b.1

-- what stands behind the branch of an `if`: an `else`, which belongs to it, or nothing of it
unfoldable pub branches_at : Parser StmtTree → Place → ExprTree → StmtTree → Parser StmtTree
branches_at s p c a ts = if head_has (is_word Real keywords.Else) ts then (word_at Real keywords.Else ts >>= λ w. s w.1 >>= λ b. ok (tree.if_else p c a b.0) b.1) else ok (tree.if_ p c a) ts

-- "if" "(" expression ")" statement ["else" statement]
unfoldable pub if_at : Parser ExprTree → Parser StmtTree → Parser StmtTree
if_at e s ts = word_at Real keywords.If ts >>= λ w. condition_at e w.1 >>= λ c. s c.1 >>= λ a. branches_at s w.0 c.0 a.0 a.1

-- "while" "(" expression ")" invariant
unfoldable pub while_head_at : Grammar → Parser ExprTree → Parser Invariant → Parser (Place × ExprTree × Option Invariant)
while_head_at g e i ts = word_at Real keywords.While ts >>= λ w. condition_at e w.1 >>= λ c. owed_at g i c.1 >>= λ v. ok (w.0, c.0, v.0) v.1

-- a `while` and its body
abbrev pub while_of : (Place × ExprTree × Option Invariant) → StmtTree → StmtTree
while_of h b = tree.while_ h.0 h.1 h.2 b

-- "while" "(" expression ")" invariant statement
unfoldable pub while_at : Grammar → Parser ExprTree → Parser Invariant → Parser StmtTree → Parser StmtTree
while_at g e i s ts = while_head_at g e i ts >>= λ h. s h.1 >>= λ b. ok (while_of h.0 b.0) b.1

-- "for" with what stands between its parentheses, and the invariant
unfoldable pub for_head_at : Grammar → Parser ExprTree → Parser ExprTree → Parser Invariant → Parser (Place × Parts × Option Invariant)
for_head_at g e f i ts = word_at Real keywords.For ts >>= λ w. head_at e f w.1 >>= λ h. owed_at g i h.1 >>= λ v. ok (w.0, h.0, v.0) v.1

-- a `for` and its body
abbrev pub for_of : (Place × Parts × Option Invariant) → StmtTree → StmtTree
for_of h b = tree.for_ h.0 h.1.first h.1.condition h.1.step h.2 b

-- "for" "(" [first] ";" [expression] ";" [step] ")" invariant statement
unfoldable pub for_at : Grammar → Parser ExprTree → Parser ExprTree → Parser Invariant → Parser StmtTree → Parser StmtTree
for_at g e f i s ts = for_head_at g e f i ts >>= λ h. s h.1 >>= λ b. ok (for_of h.0 b.0) b.1

-- an annotation comes next, which the grammar has
unfoldable pub sees_annotation : Grammar → List Token → Bool
sees_annotation g ts = is_whole g && head_has (is_on Ghost) ts

-- a statement or a ghost command, which c reads
unfoldable pub stmt_by : Grammar → Parser GhostCommandTree → Parser StmtTree → Parser StmtTree
stmt_by g c s ts = if sees_annotation g ts then command_statement_at c ts else s ts

-- a token stands inside of a block
unfoldable pub is_inside : Token → Bool
is_inside t = not (is_mark Real punctuators.CloseBrace t)

-- statements and ghost commands up to "}", where x reads one
unfoldable pub stmts_by : Parser StmtTree → Parser (List StmtTree)
stmts_by x ts = many is_inside (item_step x) [] ts

-- "{" statements "}"
unfoldable pub body_by : Parser StmtTree → Parser Body
body_by x ts = mark_at Real punctuators.OpenBrace ts >>= λ o. stmts_by x o.1 >>= λ xs. mark_at Real punctuators.CloseBrace xs.1 >>= λ m. ok (record { place = o.0; statements = xs.0; last = m.0 }) m.1

-- a block
unfoldable pub block_by : Parser StmtTree → Parser StmtTree
block_by x ts = body_by x ts >>= λ b. ok (tree.block b.0.place (stmt_list b.0.statements) b.0.last) b.1

-- a statement of real text; x reads a statement or a ghost command
unfoldable pub real_by : Grammar → Parser ExprTree → Parser ExprTree → Parser Invariant → Parser StmtTree → Parser StmtTree → Parser StmtTree
real_by g e f i s x ts = if head_has (is_word Real keywords.If) ts then if_at e s ts else (if head_has (is_word Real keywords.While) ts then while_at g e i s ts
    else (if head_has (is_word Real keywords.For) ts then for_at g e f i s ts else (if head_has (is_mark Real punctuators.OpenBrace) ts then block_by x ts else flat_at e f ts)))

-- a statement of real text that nests so deep at most, itself counted; c and i read ghost commands and invariants that nest so deep at most
unfoldable pub real_at : Grammar → (ℕ → Parser GhostCommandTree) → (ℕ → Parser Invariant) → ℕ → Parser StmtTree
real_at g c i zero ts = too_deep (sees_statement ts) ts
real_at g c i (suc d) ts = real_by g (expr_at d) (postfix_at d) (i d) (real_at g c i d) (stmt_by g (c d) (real_at g c i d)) ts

-- a statement or a ghost command that nests so deep at most, itself counted
abbrev pub stmt_at : Grammar → (ℕ → Parser GhostCommandTree) → (ℕ → Parser Invariant) → ℕ → Parser StmtTree
stmt_at g c i d = stmt_by g (c d) (real_at g c i d)

-- statements and ghost commands up to "}", each of which nests so deep at most, itself counted
abbrev pub stmts_at : Grammar → (ℕ → Parser GhostCommandTree) → (ℕ → Parser Invariant) → ℕ → Parser (List StmtTree)
stmts_at g c i d = stmts_by (stmt_at g c i d)

-- "{" statements "}", each of which nests so deep at most, itself counted
abbrev pub body_at : Grammar → (ℕ → Parser GhostCommandTree) → (ℕ → Parser Invariant) → ℕ → Parser Body
body_at g c i d = body_by (stmt_at g c i d)
