-- Statements stop alike on tokens that are alike, where the parsers of annotations do.
use Rattle.std.proofs.Common.{◌≡◌, ℕ, zero, suc, ◌≤◌, Bool, true, false, ◌||◌, List, [], ◌∷◌, length, Option, Some, None, refl, ap, ◌∙◌, arith}
use Rattle.std.specs.Prelude.{if◌then◌else◌}
use Rattle.std.proofs.lemmas.Bool.{or_parts}
use Rattle.vf_base.specs.declared.place.Place.{Place}
use Rattle.vf_lexer.specs.declared.punctuator.Punctuator.TheVariants as punctuators
use Rattle.vf_lexer.specs.declared.token.Token.{Token}
use Rattle.vf_syntax.specs.declared.keyword.Keyword.TheVariants as keywords
use Rattle.vf_syntax.specs.declared.side.Side.TheVariants.{Real, Ghost}
use Rattle.vf_syntax.specs.declared.side.Grammar.{Grammar}
use Rattle.vf_syntax.specs.declared.contract.Invariant.{Invariant}
use Rattle.vf_syntax.specs.declared.simple.Simple.{Simple}
use Rattle.vf_syntax.specs.declared.simple.First.{First}
use Rattle.vf_syntax.specs.declared.item.Body.{Body}
use Rattle.vf_syntax.specs.ExprTree.{ExprTree}
use Rattle.vf_syntax.specs.GhostCommandTree.{GhostCommandTree}
use Rattle.vf_syntax.specs.StmtTree.{StmtTree, stmt_list}
use Rattle.vf_syntax.specs.StmtTree as tree
use Rattle.vf_syntax.specs.Walks.{head_has, is_on, is_mark, is_word, is_name}
use Rattle.vf_cursor.specs.Parsing.{Parser, ok, ◌>>=◌, here_at, mark_at, is_there}
use Rattle.vf_cursor.specs.Types.{is_type_word, next_step}
use Rattle.vf_parse_expression.specs.Parsers.{expr_at, factor_at, postfix_at}
use Rattle.vf_parse_simple.specs.Simples.{sees_declaration, declared_at, optional_value_at, simple_at}
use Rattle.vf_parse_statement.specs.declared.flat.Parts.{Parts}
use Rattle.vf_parse_statement.specs.Annotations.{ReadsCommands, ReadsInvariants}
use Rattle.vf_parse_statement.specs.Parsers.{is_whole, owed_at, unless_at, sees_statement_word, sees_statement, declaration_at, simple_statement_at, optional_expr_at, return_at, empty_at, flat_at, command_statement_at, condition_at, optional_first_at, optional_step_at, head_at, branches_at, if_at, while_head_at, while_of, while_at, for_head_at, for_of, for_at, sees_annotation, stmt_by, is_inside, stmts_by, body_by, block_by, real_by, real_at}
use Rattle.vf_parse_statement.proofs.Sound.{Done, statement_sound}
use Rattle.vf_grammar_read.proofs.statements.Begins.{stmt_eats}
use Rattle.vf_grammar_stops.proofs.types.Local.{LikeAt, Does, then_like, done_like, here_like, mark_like, word_like, choice_like, both_like, first_has}
use Rattle.vf_grammar_stops.proofs.types.LoopAlike.{Takes, items_like}
use Rattle.vf_grammar_stops.proofs.expressions.Heads.{Hangs, fixed_like, step_hangs}
use Rattle.vf_grammar_stops.proofs.expressions.Beyond.{bounded, beyond_bind, seen_like}
use Rattle.vf_grammar_stops.proofs.expressions.Refused.{Refuses, here_refuses, unseen, post_refuses, primary_hangs}
use Rattle.vf_grammar_stops.proofs.expressions.ExprAlike.{deep_like, expr_like, postfix_like}
use Rattle.vf_grammar_stops.proofs.simple_statements.SimplesAlike.{Named, declared_like, optional_value_like, simple_like, first_like, declaration_told, declared_name, simple_name, post_named}

pub owed_like : {A : Type 0} {b : Bool} {p q : Parser A} (g : Grammar) → Does b p q → Does b (owed_at g p) (owed_at g q)
owed_like g h = fixed_like (is_whole g) (then_like h (λ x. done_like (Some x))) (done_like None)

unless_like : {A : Type 0} {b : Bool} {p q : Parser A} (ends : Token → Bool) → Does b p q → Does b (unless_at ends p) (unless_at ends q)
unless_like ends h = choice_like ends (done_like None) (then_like h (λ x. done_like (Some x)))

declaration_like : {b : Bool} {e h : Parser ExprTree} → Does b e h → Does b (declaration_at e) (declaration_at h)
unfolding declaration_at
declaration_like he = then_like here_like (λ p. then_like declared_like (λ d. then_like (optional_value_like he) (λ v. then_like (mark_like Real punctuators.Semicolon) (λ m. done_like (tree.declaration p d.0 d.1 v m)))))

simple_statement_like : {b : Bool} {e h f k : Parser ExprTree} → Does b e h → Does b f k → Does b (simple_statement_at e f) (simple_statement_at h k)
unfolding simple_statement_at
simple_statement_like he hf = then_like here_like (λ p. then_like (simple_like he hf) (λ x. then_like (mark_like Real punctuators.Semicolon) (λ m. done_like (tree.simple p x m))))

optional_expr_like : {b : Bool} {e h : Parser ExprTree} → Does b e h → Does b (optional_expr_at e) (optional_expr_at h)
unfolding optional_expr_at
optional_expr_like he = unless_like (is_mark Real punctuators.Semicolon) he

return_like : {b : Bool} {e h : Parser ExprTree} → Does b e h → Does b (return_at e) (return_at h)
unfolding return_at
return_like he = then_like (word_like Real keywords.Return) (λ w. then_like (optional_expr_like he) (λ x. then_like (mark_like Real punctuators.Semicolon) (λ m. done_like (tree.return_ w x m))))

empty_like : {b : Bool} → Does b empty_at empty_at
unfolding empty_at
empty_like = then_like (mark_like Real punctuators.Semicolon) (λ m. done_like (tree.empty_ m))

-- from a name on, a declaration and an assignment or a call get past it
declaration_named : {e h : Parser ExprTree} → Does false e h → Named (declaration_at e)
unfolding declaration_at here_at
declaration_named he [] n = absurd cc
declaration_named {e = e} he (t ∷ ts) n =
    beyond_bind 1 (suc (length ts)) (declared_at (t ∷ ts)) (λ d us. optional_value_at e us >>= λ v. mark_at Real punctuators.Semicolon v.1 >>= λ m. ok (tree.declaration t.place d.0 d.1 v.0 m.0) m.1) (declared_name (t ∷ ts) n)
    (λ d. bounded (then_like (optional_value_like he) (λ v. then_like (mark_like Real punctuators.Semicolon) (λ m. done_like (tree.declaration t.place d.0 d.1 v m)))))

simple_statement_named : {e h : Parser ExprTree} (f : Parser ExprTree) → Does false e h → Named f → Named (simple_statement_at e f)
unfolding simple_statement_at here_at
simple_statement_named f he hf [] n = absurd cc
simple_statement_named {e = e} f he hf (t ∷ ts) n =
    beyond_bind 1 (suc (length ts)) (simple_at e f (t ∷ ts)) (λ x us. mark_at Real punctuators.Semicolon us >>= λ m. ok (tree.simple t.place x m.0) m.1) (simple_name f he hf (t ∷ ts) n)
    (λ x. bounded (then_like (mark_like Real punctuators.Semicolon) (λ m. done_like (tree.simple t.place x m))))

-- a declaration, or an assignment or a call
abbrev other_at : Parser ExprTree → Parser ExprTree → Parser StmtTree
other_at e f ts = if sees_declaration ts then declaration_at e ts else simple_statement_at e f ts

by_look : {e h f k : Parser ExprTree} → Does false e h → Does false f k → Named f → (ts : List Token) (w : Bool) → sees_declaration ts ≡ w → LikeAt false (other_at h k) ts (if w then declaration_at e ts else simple_statement_at e f ts)
by_look {e = e} {h = h} {f = f} {k = k} he hf named ts true seen =
    seen_like (declaration_at h) (other_at h k) ts (declaration_at e ts)
    (λ used rest us parts far same. rw (declaration_told ts used rest us parts (λ n. far 1 (length ts) (declaration_named he ts n)) same ∙ seen) refl) ((declaration_like he).run ts)
by_look {e = e} {h = h} {f = f} {k = k} he hf named ts false seen =
    seen_like (simple_statement_at h k) (other_at h k) ts (simple_statement_at e f ts)
    (λ used rest us parts far same. rw (declaration_told ts used rest us parts (λ n. far 1 (length ts) (simple_statement_named f he named ts n)) same ∙ seen) refl) ((simple_statement_like he hf).run ts)

other_like : {e h f k : Parser ExprTree} → Does false e h → Does false f k → Named f → Does false (other_at e f) (other_at h k)
other_like he hf named = record { run = λ ts. by_look he hf named ts (sees_declaration ts) refl }

flat_like : {e h f k : Parser ExprTree} → Does false e h → Does false f k → Named f → Does false (flat_at e f) (flat_at h k)
unfolding flat_at
flat_like he hf named = choice_like (is_word Real keywords.Return) (return_like he) (choice_like (is_mark Real punctuators.Semicolon) empty_like (other_like he hf named))

command_statement_like : {b : Bool} {c l : Parser GhostCommandTree} → Does b c l → Does b (command_statement_at c) (command_statement_at l)
unfolding command_statement_at
command_statement_like hc = then_like here_like (λ p. then_like hc (λ x. done_like (tree.ghost p x)))

condition_like : {b : Bool} {e h : Parser ExprTree} → Does b e h → Does b (condition_at e) (condition_at h)
unfolding condition_at
condition_like he = then_like (mark_like Real punctuators.OpenParenthesis) (λ o. then_like he (λ x. then_like (mark_like Real punctuators.CloseParenthesis) (λ m. done_like x)))

-- what stands between the parentheses of a `for`
abbrev parts_of : Option First → Option ExprTree → Option Simple → Parts
parts_of a c s = record { first = a; condition = c; step = s }

head_like : {e h f k : Parser ExprTree} → Does false e h → Does false f k → Named f → Does false (head_at e f) (head_at h k)
unfolding head_at optional_first_at optional_step_at
head_like he hf named =
    then_like (mark_like Real punctuators.OpenParenthesis) (λ o. then_like (unless_like (is_mark Real punctuators.Semicolon) (first_like he hf named)) (λ a. then_like (mark_like Real punctuators.Semicolon) (λ m. then_like (optional_expr_like he)
    (λ c. then_like (mark_like Real punctuators.Semicolon) (λ n. then_like (unless_like (is_mark Real punctuators.CloseParenthesis) (simple_like he hf)) (λ s. then_like (mark_like Real punctuators.CloseParenthesis) (λ x. done_like (parts_of a c s))))))))

branches_like : {b : Bool} {s r : Parser StmtTree} → Does b s r → (p : Place) (c : ExprTree) (a : StmtTree) → Does b (branches_at s p c a) (branches_at r p c a)
unfolding branches_at
branches_like hs p c a = choice_like (is_word Real keywords.Else) (then_like (word_like Real keywords.Else) (λ w. then_like hs (λ x. done_like (tree.if_else p c a x)))) (done_like (tree.if_ p c a))

if_like : {b : Bool} {e h : Parser ExprTree} {s r : Parser StmtTree} → Does b e h → Does b s r → Does b (if_at e s) (if_at h r)
unfolding if_at
if_like he hs = then_like (word_like Real keywords.If) (λ w. then_like (condition_like he) (λ c. then_like hs (λ a. branches_like hs w c a)))

while_head_like : {b : Bool} {e h : Parser ExprTree} {i j : Parser Invariant} (g : Grammar) → Does b e h → Does b i j → Does b (while_head_at g e i) (while_head_at g h j)
unfolding while_head_at
while_head_like g he hi = then_like (word_like Real keywords.While) (λ w. then_like (condition_like he) (λ c. then_like (owed_like g hi) (λ v. done_like (w, c, v))))

while_like : {b : Bool} {e h : Parser ExprTree} {i j : Parser Invariant} {s r : Parser StmtTree} (g : Grammar) → Does b e h → Does b i j → Does b s r → Does b (while_at g e i s) (while_at g h j r)
unfolding while_at
while_like g he hi hs = then_like (while_head_like g he hi) (λ p. then_like hs (λ x. done_like (while_of p x)))

for_head_like : {e h f k : Parser ExprTree} {i j : Parser Invariant} (g : Grammar) → Does false e h → Does false f k → Named f → Does false i j → Does false (for_head_at g e f i) (for_head_at g h k j)
unfolding for_head_at
for_head_like g he hf named hi = then_like (word_like Real keywords.For) (λ w. then_like (head_like he hf named) (λ p. then_like (owed_like g hi) (λ v. done_like (w, p, v))))

for_like : {e h f k : Parser ExprTree} {i j : Parser Invariant} {s r : Parser StmtTree} (g : Grammar) → Does false e h → Does false f k → Named f → Does false i j → Does false s r → Does false (for_at g e f i s) (for_at g h k j r)
unfolding for_at
for_like g he hf named hi hs = then_like (for_head_like g he hf named hi) (λ p. then_like hs (λ x. done_like (for_of p x)))

stmt_like : {b : Bool} {c l : Parser GhostCommandTree} {s r : Parser StmtTree} (g : Grammar) → Does b c l → Does b s r → Does b (stmt_by g c s) (stmt_by g l r)
unfolding stmt_by sees_annotation
stmt_like g hc hs = both_like (is_whole g) (is_on Ghost) (command_statement_like hc) hs

-- what is read as a statement takes a token
done_takes : (g : Grammar) (d : ℕ) (p : Parser StmtTree) → Done g d p → Takes p
done_takes g d p h ts x rest e = (stmt_eats g x).eat ts rest ((h ts x rest e).0)

-- the body of a function
abbrev body_of : Place → List StmtTree → Place → Body
body_of p xs m = record { place = p; statements = xs; last = m }

body_like : {b : Bool} {p q : Parser StmtTree} → Does b p q → Takes q → Does b (body_by p) (body_by q)
unfolding body_by stmts_by
body_like hp hq = then_like (mark_like Real punctuators.OpenBrace) (λ o. then_like (items_like is_inside hp hq []) (λ xs. then_like (mark_like Real punctuators.CloseBrace) (λ m. done_like (body_of o xs m))))

block_like : {b : Bool} {p q : Parser StmtTree} → Does b p q → Takes q → Does b (block_by p) (block_by q)
unfolding block_by
block_like hp hq = then_like (body_like hp hq) (λ x. done_like (tree.block x.place (stmt_list x.statements) x.last))

real_like : {e h f k : Parser ExprTree} {i j : Parser Invariant} {s r p q : Parser StmtTree} (g : Grammar) → Does false e h → Does false f k → Named f → Does false i j → Does false s r → Does false p q → Takes q → Does false (real_by g e f i s p) (real_by g h k j r q)
unfolding real_by
real_like g he hf named hi hs hp hq =
    choice_like (is_word Real keywords.If) (if_like he hs) (choice_like (is_word Real keywords.While) (while_like g he hi hs)
    (choice_like (is_word Real keywords.For) (for_like g he hf named hi hs) (choice_like (is_mark Real punctuators.OpenBrace) (block_like hp hq) (flat_like he hf named))))

none_of : {A : Type 0} (o : Option A) → is_there o ≡ false → o ≡ None
none_of None h = refl
none_of (Some x) h = absurd cc

simple_refuses : (e f : Parser ExprTree) (ts : List Token) → next_step ts ≡ None → Refuses f ts → Refuses (simple_at e f) ts
unfolding simple_at
simple_refuses e f ts h k = rw (h, k) refl

simple_statement_refuses : (e f : Parser ExprTree) (ts : List Token) → next_step ts ≡ None → Refuses f ts → Refuses (simple_statement_at e f) ts
unfolding simple_statement_at
simple_statement_refuses e f ts h k = here_refuses (simple_at e f) _ ts (simple_refuses e f ts h k)

undeclared : (ts : List Token) → head_has (is_type_word Real) ts ≡ false → head_has (is_name Real) ts ≡ false → sees_declaration ts ≡ false
unfolding sees_declaration
undeclared ts h k = rw (h, k) refl

-- what can't begin a statement is refused at once
real_refuses : (g : Grammar) (c : ℕ → Parser GhostCommandTree) (i : ℕ → Parser Invariant) (m : ℕ) (ts : List Token) → sees_statement ts ≡ false → Refuses (real_at g c i m) ts
unfolding real_at real_by flat_at sees_statement sees_statement_word
real_refuses g c i zero ts h = rw h refl
real_refuses g c i (suc m) ts h =
    let words = or_parts _ _ h in
    let a = or_parts (head_has (is_word Real keywords.If) ts) _ words.0 in
    let b = or_parts (head_has (is_word Real keywords.While) ts) _ a.1 in
    let d = or_parts (head_has (is_word Real keywords.For) ts) _ b.1 in
    let e = or_parts (head_has (is_mark Real punctuators.OpenBrace) ts) _ words.1 in
    let f = or_parts (head_has (is_mark Real punctuators.Semicolon) ts) _ e.1 in
    let k = or_parts (head_has (is_type_word Real) ts) _ f.1 in
    let l = or_parts (is_there (next_step ts)) _ k.1 in
    let none = unseen ts l.1 in
    rw (a.0, b.0, d.0, e.0, d.1, f.0, undeclared ts k.0 none.name)
    (simple_statement_refuses (expr_at m) (postfix_at m) ts (none_of (next_step ts) l.0) (post_refuses (expr_at m) (factor_at m) ts none))

statement_hangs : Hangs sees_statement
unfolding sees_statement sees_statement_word
statement_hangs r s h = λ i. (first_has (is_word Real keywords.If) r s h i || (first_has (is_word Real keywords.While) r s h i || (first_has (is_word Real keywords.For) r s h i || first_has (is_word Real keywords.Return) r s h i)))
    || (first_has (is_mark Real punctuators.OpenBrace) r s h i || (first_has (is_mark Real punctuators.Semicolon) r s h i || (first_has (is_type_word Real) r s h i || (ap is_there (step_hangs r s h) i || primary_hangs r s h i))))

-- parsers of annotations stop alike on tokens that are alike, also where more may nest
abbrev pub Alike : {A : Type 0} → (ℕ → Parser A) → Type 0
Alike p = (d m : ℕ) → d ≤ m → Does false (p d) (p m)

pub all_like : (g : Grammar) (c : ℕ → Parser GhostCommandTree) (i : ℕ → Parser Invariant) → ReadsCommands c → ReadsInvariants i → Alike c → Alike i → (d m : ℕ) → d ≤ m → Does false (real_at g c i d) (real_at g c i m)
unfolding real_at
all_like g c i rc ri hc hi zero m le = deep_like sees_statement (real_at g c i m) statement_hangs (real_refuses g c i m)
all_like g c i rc ri hc hi (suc d) zero le = absurd (omega (arith, le))
all_like g c i rc ri hc hi (suc d) (suc m) le =
    let below : d ≤ m = omega (arith, le) in
    let down = all_like g c i rc ri hc hi d m below in
    real_like g (expr_like d m below) (postfix_like d m below) (post_named d) (hi d m below) down (stmt_like g (hc d m below) down) (done_takes g m _ (statement_sound g c i rc ri m))

pub statement_like : (g : Grammar) (c : ℕ → Parser GhostCommandTree) (i : ℕ → Parser Invariant) → ReadsCommands c → ReadsInvariants i → Alike c → Alike i → (d m : ℕ) → d ≤ m → Does false (stmt_by g (c d) (real_at g c i d)) (stmt_by g (c m) (real_at g c i m))
statement_like g c i rc ri hc hi d m le = stmt_like g (hc d m le) (all_like g c i rc ri hc hi d m le)

pub bodies_like : (g : Grammar) (c : ℕ → Parser GhostCommandTree) (i : ℕ → Parser Invariant) → ReadsCommands c → ReadsInvariants i → Alike c → Alike i → (d m : ℕ) → d ≤ m → Does false (body_by (stmt_by g (c d) (real_at g c i d))) (body_by (stmt_by g (c m) (real_at g c i m)))
bodies_like g c i rc ri hc hi d m le = body_like (statement_like g c i rc ri hc hi d m le) (done_takes g m _ (statement_sound g c i rc ri m))
