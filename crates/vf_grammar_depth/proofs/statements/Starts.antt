-- What begins a statement is taken, and what does not is refused at once.
use Rattle.std.proofs.Common.{◌≡◌, Bool, true, false, ◌&&◌, ◌||◌, List, [], ◌∷◌, length, Option, Some, None, refl, sym, ◌∙◌}
use Rattle.std.specs.Prelude.{if◌then◌else◌}
use Rattle.std.proofs.lemmas.Bool.{or_parts}
use Rattle.vf_lexer.specs.declared.punctuator.Punctuator.{Punctuator}
use Rattle.vf_lexer.specs.declared.punctuator.Punctuator.TheVariants as punctuators
use Rattle.vf_lexer.specs.declared.token.Kind.{Kind}
use Rattle.vf_lexer.specs.declared.token.Kind.TheVariants as kinds
use Rattle.vf_lexer.specs.declared.token.Token.{Token}
use Rattle.vf_syntax.specs.declared.keyword.Keyword.TheVariants as keywords
use Rattle.vf_syntax.specs.declared.side.Side.TheVariants.{Real}
use Rattle.vf_syntax.specs.declared.side.Grammar.{Grammar}
use Rattle.vf_syntax.specs.declared.contract.Invariant.{Invariant}
use Rattle.vf_syntax.specs.declared.operator.StepOperator.{StepOperator}
use Rattle.vf_syntax.specs.declared.operator.StepOperator.TheVariants as steps
use Rattle.vf_syntax.specs.declared.simple.Simple.TheVariants as simples
use Rattle.vf_syntax.specs.ExprTree.{ExprTree}
use Rattle.vf_syntax.specs.StmtTree.{StmtTree, stmt_list}
use Rattle.vf_syntax.specs.StmtTree as tree
use Rattle.vf_syntax.specs.Statements.{is_left_side}
use Rattle.vf_syntax.specs.Walks.{head_has, is_on, is_punctuator, is_mark, is_word, is_name}
use Rattle.vf_syntax.specs.Written.{step_mark, step_of}
use Rattle.vf_cursor.specs.Parsing.{Parser, punctuator_of, next_by, number_of, character_of, is_there}
use Rattle.vf_cursor.specs.Types.{is_type_word, next_step, found_then}
use Rattle.vf_parse_expression.specs.Operands.{sees_primary}
use Rattle.vf_parse_simple.specs.Simples.{sees_declaration, declared_at, step_before_at, simple_by, simple_at}
use Rattle.vf_parse_statement.specs.Parsers.{sees_statement_word, sees_statement, declaration_at, simple_statement_at, return_at, empty_at, flat_at, if_at, while_head_at, while_of, while_at, for_head_at, for_of, for_at, is_inside, stmts_by, body_by, block_by, real_by}
use Rattle.vf_grammar_depth.proofs.expressions.Deeper.{Deeper, keeps, then_deep, done_deep, fail_deep, mark_deep, name_deep, fixed_deep, items_deep}
use Rattle.vf_grammar_depth.proofs.expressions.Begun.{BegunAt, Begun, then_begun, here_begun, mark_begun, word_begun, choice_begun}
use Rattle.vf_grammar_depth.proofs.expressions.TypeStarts.{begun_by, types_begin, type_starts}
use Rattle.vf_grammar_depth.proofs.expressions.Starts.{same_mark, begun_as}
use Rattle.vf_grammar_depth.proofs.statements.Simples.{optional_value_deep, behind_deep}
use Rattle.vf_grammar_depth.proofs.statements.Statements.{body_of, owed_deep, optional_expr_deep, condition_deep, for_parts_deep, branches_deep}

declared_starts : Begun (types_begin Real) declared_at
unfolding declared_at
declared_starts = then_begun (type_starts Real) (λ t. keeps (then_deep {j = 0} (name_deep Real) (λ n. done_deep (t, n))))

declaration_starts : {e h : Parser ExprTree} → Deeper 0 e h → Begun (types_begin Real) (declaration_at h)
unfolding declaration_at
declaration_starts he = here_begun declared_starts (λ p d. keeps (then_deep (optional_value_deep he) (λ v. then_deep (mark_deep Real punctuators.Semicolon) (λ m. done_deep (tree.declaration p d.0 d.1 v m)))))

-- `++` and `--` are written by their punctuators
step_known : (p : Punctuator) (o : StepOperator) → step_of p ≡ Some o → p ≡ step_mark o
step_known punctuators.PlusPlus o e = let same : o ≡ steps.Increment = cc in rw same refl
step_known punctuators.MinusMinus o e = let same : o ≡ steps.Decrement = cc in rw same refl
step_known p o e = absurd cc

step_kind : (v : Bool) (k : Kind) (o : StepOperator) → found_then (if v then punctuator_of k else None) step_of ≡ Some o → (v && is_punctuator (step_mark o) k) ≡ true
step_kind false k o e = absurd cc
step_kind true (kinds.Punctuator p) o e = rw (step_known p o e) (same_mark (step_mark o))
step_kind true k o e = absurd cc

step_marked : (ts : List Token) (o : StepOperator) → next_step ts ≡ Some o → head_has (is_mark Real (step_mark o)) ts ≡ true
unfolding next_step is_mark
step_marked [] o e = absurd cc
step_marked (t ∷ ts) o e = step_kind (is_on Real t) t.kind o e

step_before_starts : {f h : Parser ExprTree} → Deeper 0 f h → (o : StepOperator) → Begun (head_has (is_mark Real (step_mark o))) (step_before_at h o)
unfolding step_before_at
step_before_starts hf o = then_begun (mark_begun Real (step_mark o)) (λ m. keeps (then_deep hf (λ a. fixed_deep (is_left_side a) (done_deep (simples.StepBefore m o a)) fail_deep)))

simple_by_starts : {e h f k : Parser ExprTree} → Deeper 0 e h → Deeper 0 f k → Begun sees_primary k → (ts : List Token) (o : Option StepOperator) → next_step ts ≡ o → BegunAt (is_there o || sees_primary ts) (length ts) (simple_by h k o ts)
simple_by_starts he hf hk ts None e = (then_begun hk (λ a. keeps (behind_deep he a))).run ts
simple_by_starts {k = k} he hf hk ts (Some o) e = begun_as _ true (length ts) (step_before_at k o ts) (step_marked ts o e) refl ((step_before_starts hf o).run ts)

simple_starts : {e h f k : Parser ExprTree} → Deeper 0 e h → Deeper 0 f k → Begun sees_primary k → Begun (λ ts. is_there (next_step ts) || sees_primary ts) (simple_at h k)
unfolding simple_at
simple_starts he hf hk = record { run = λ ts. simple_by_starts he hf hk ts (next_step ts) refl }

simple_statement_starts : {e h f k : Parser ExprTree} → Deeper 0 e h → Deeper 0 f k → Begun sees_primary k → Begun (λ ts. is_there (next_step ts) || sees_primary ts) (simple_statement_at h k)
unfolding simple_statement_at
simple_statement_starts he hf hk = here_begun (simple_starts he hf hk) (λ p x. keeps (then_deep {j = 0} (mark_deep Real punctuators.Semicolon) (λ m. done_deep (tree.simple p x m))))

-- the first word of a declaration, or what begins an assignment or a call
abbrev others_seen : List Token → Bool
others_seen ts = head_has (is_type_word Real) ts || (is_there (next_step ts) || sees_primary ts)

not_false : (v : Bool) → (v ≡ false → true ≡ false) → v ≡ true
not_false true h = refl
not_false false h = sym (h refl)

undeclared : (ts : List Token) → head_has (is_type_word Real) ts ≡ false → head_has (is_name Real) ts ≡ false → sees_declaration ts ≡ false
unfolding sees_declaration
undeclared ts h k = rw (h, k) refl

declared_type : (ts : List Token) → sees_declaration ts ≡ true → types_begin Real ts ≡ true
declared_type ts e = not_false (types_begin Real ts) (λ h. let p = or_parts (head_has (is_type_word Real) ts) _ h in sym e ∙ undeclared ts (p.0) (p.1))

nameless : (ts : List Token) → sees_primary ts ≡ false → head_has (is_name Real) ts ≡ false
unfolding sees_primary
nameless ts h =
    let a = or_parts (is_there (next_by Real number_of ts)) _ h in
    let c = or_parts (is_there (next_by Real character_of ts)) _ a.1 in
    let d = or_parts (head_has (is_word Real keywords.True) ts) _ c.1 in
    let e = or_parts (head_has (is_word Real keywords.False) ts) _ d.1 in
    let f = or_parts (head_has (is_word Real keywords.Malloc) ts) _ e.1 in
    (or_parts (head_has (is_name Real) ts) _ f.1).0

declared_other : (ts : List Token) → sees_declaration ts ≡ true → others_seen ts ≡ true
declared_other ts e = not_false (others_seen ts) (λ h.
    let a = or_parts (head_has (is_type_word Real) ts) _ h in
    let b = or_parts (is_there (next_step ts)) _ a.1 in
    sym e ∙ undeclared ts (a.0) (nameless ts (b.1)))

typeless : (ts : List Token) → sees_declaration ts ≡ false → head_has (is_type_word Real) ts ≡ false
unfolding sees_declaration
typeless ts h = (or_parts (head_has (is_type_word Real) ts) _ h).0

other_by : {e h f k : Parser ExprTree} → Deeper 0 e h → Deeper 0 f k → Begun sees_primary k → (ts : List Token) (w : Bool) → sees_declaration ts ≡ w → BegunAt (others_seen ts) (length ts) (if w then declaration_at h ts else simple_statement_at h k ts)
other_by {h = h} he hf hk ts true e = begun_as (types_begin Real ts) (others_seen ts) (length ts) (declaration_at h ts) (declared_type ts e) (declared_other ts e) ((declaration_starts he).run ts)
other_by he hf hk ts false e = rw (typeless ts e) ((simple_statement_starts he hf hk).run ts)

other_starts : {e h f k : Parser ExprTree} → Deeper 0 e h → Deeper 0 f k → Begun sees_primary k → Begun others_seen (λ ts. if sees_declaration ts then declaration_at h ts else simple_statement_at h k ts)
other_starts he hf hk = record { run = λ ts. other_by he hf hk ts (sees_declaration ts) refl }

-- the order of looks is of no matter
order : (a b c o r s x : Bool) → (a || (b || (c || (o || (r || (s || x)))))) ≡ ((a || (b || (c || r))) || (o || (s || x)))
order true b c o r s x = refl
order false true c o r s x = refl
order false false true o r s x = refl
order false false false true true s x = refl
order false false false true false s x = refl
order false false false false r s x = refl

order_told : (ts : List Token) → (head_has (is_word Real keywords.If) ts || (head_has (is_word Real keywords.While) ts || (head_has (is_word Real keywords.For) ts || (head_has (is_mark Real punctuators.OpenBrace) ts || (head_has (is_word Real keywords.Return) ts
    || (head_has (is_mark Real punctuators.Semicolon) ts || others_seen ts)))))) ≡ sees_statement ts
unfolding sees_statement sees_statement_word
order_told ts = order (head_has (is_word Real keywords.If) ts) (head_has (is_word Real keywords.While) ts) (head_has (is_word Real keywords.For) ts) (head_has (is_mark Real punctuators.OpenBrace) ts) (head_has (is_word Real keywords.Return) ts)
    (head_has (is_mark Real punctuators.Semicolon) ts) (others_seen ts)

return_starts : {e h : Parser ExprTree} → Deeper 0 e h → Begun (head_has (is_word Real keywords.Return)) (return_at h)
unfolding return_at
return_starts he = then_begun (word_begun Real keywords.Return) (λ w. keeps (then_deep (optional_expr_deep he) (λ x. then_deep (mark_deep Real punctuators.Semicolon) (λ m. done_deep (tree.return_ w x m)))))

empty_starts : Begun (head_has (is_mark Real punctuators.Semicolon)) empty_at
unfolding empty_at
empty_starts = then_begun (mark_begun Real punctuators.Semicolon) (λ m. keeps (done_deep {j = 0} (tree.empty_ m)))

if_starts : {e h : Parser ExprTree} {s r : Parser StmtTree} → Deeper 0 e h → Deeper 0 s r → Begun (head_has (is_word Real keywords.If)) (if_at h r)
unfolding if_at
if_starts he hs = then_begun (word_begun Real keywords.If) (λ w. keeps (then_deep (condition_deep he) (λ c. then_deep hs (λ a. branches_deep hs w c a))))

while_head_starts : {e h : Parser ExprTree} {i v : Parser Invariant} (g : Grammar) → Deeper 0 e h → Deeper 0 i v → Begun (head_has (is_word Real keywords.While)) (while_head_at g h v)
unfolding while_head_at
while_head_starts g he hi = then_begun (word_begun Real keywords.While) (λ w. keeps (then_deep (condition_deep he) (λ c. then_deep (owed_deep g hi) (λ x. done_deep (w, c, x)))))

while_starts : {e h : Parser ExprTree} {i v : Parser Invariant} {s r : Parser StmtTree} (g : Grammar) → Deeper 0 e h → Deeper 0 i v → Deeper 0 s r → Begun (head_has (is_word Real keywords.While)) (while_at g h v r)
unfolding while_at
while_starts g he hi hs = then_begun (while_head_starts g he hi) (λ p. keeps (then_deep hs (λ x. done_deep (while_of p x))))

for_head_starts : {e h f k : Parser ExprTree} {i v : Parser Invariant} (g : Grammar) → Deeper 0 e h → Deeper 0 f k → Deeper 0 i v → Begun (head_has (is_word Real keywords.For)) (for_head_at g h k v)
unfolding for_head_at
for_head_starts g he hf hi = then_begun (word_begun Real keywords.For) (λ w. keeps (then_deep (for_parts_deep he hf) (λ p. then_deep (owed_deep g hi) (λ x. done_deep (w, p, x)))))

for_starts : {e h f k : Parser ExprTree} {i v : Parser Invariant} {s r : Parser StmtTree} (g : Grammar) → Deeper 0 e h → Deeper 0 f k → Deeper 0 i v → Deeper 0 s r → Begun (head_has (is_word Real keywords.For)) (for_at g h k v r)
unfolding for_at
for_starts g he hf hi hs = then_begun (for_head_starts g he hf hi) (λ p. keeps (then_deep hs (λ x. done_deep (for_of p x))))

body_starts : {p q : Parser StmtTree} → Deeper 0 p q → Begun (head_has (is_mark Real punctuators.OpenBrace)) (body_by q)
unfolding body_by stmts_by
body_starts hp = then_begun (mark_begun Real punctuators.OpenBrace) (λ o. keeps (then_deep (items_deep is_inside hp []) (λ xs. then_deep (mark_deep Real punctuators.CloseBrace) (λ m. done_deep (body_of o xs m)))))

block_starts : {p q : Parser StmtTree} → Deeper 0 p q → Begun (head_has (is_mark Real punctuators.OpenBrace)) (block_by q)
unfolding block_by
block_starts hp = then_begun (body_starts hp) (λ x. keeps (done_deep {j = 0} (tree.block x.place (stmt_list x.statements) x.last)))

pub real_starts : {e h f k : Parser ExprTree} {i v : Parser Invariant} {s r p q : Parser StmtTree} (g : Grammar) → Deeper 0 e h → Deeper 0 f k → Begun sees_primary k → Deeper 0 i v → Deeper 0 s r → Deeper 0 p q → Begun sees_statement (real_by g h k v r q)
unfolding real_by flat_at
real_starts g he hf hk hi hs hp =
    begun_by order_told (choice_begun (if_starts he hs) (choice_begun (while_starts g he hi hs) (choice_begun (for_starts g he hf hi hs) (choice_begun (block_starts hp) (choice_begun (return_starts he) (choice_begun empty_starts (other_starts he hf hk)))))))
