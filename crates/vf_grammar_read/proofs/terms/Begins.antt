-- What expressions of ghost text begin with.
use Rattle.std.proofs.Common.{◌≡◌, ◌≤◌, Bool, true, false, ◌&&◌, List, Some, refl, sym, subst, arith}
use Rattle.vf_base.specs.declared.place.Place.{Place}
use Rattle.vf_lexer.specs.declared.punctuator.Punctuator.TheVariants as punctuators
use Rattle.vf_lexer.specs.declared.token.Token.{Token}
use Rattle.vf_syntax.specs.declared.keyword.Keyword.TheVariants as keywords
use Rattle.vf_syntax.specs.declared.side.Side.TheVariants.{Ghost}
use Rattle.vf_syntax.specs.declared.operator.UnaryOperator.{UnaryOperator}
use Rattle.vf_syntax.specs.declared.operator.UnaryOperator.TheVariants as unaries
use Rattle.vf_syntax.specs.GhostExprTree.{GhostExprTree}
use Rattle.vf_syntax.specs.GhostExprTree as tree
use Rattle.vf_syntax.specs.Walks.{provided, at, mark, identifier}
use Rattle.vf_syntax.specs.Written.{unary_mark}
use Rattle.vf_syntax.specs.GhostExpressions.{ghost_expr, ghost_rank, is_ghost_operand, has_ghost_links}
use Rattle.vf_grammar_read.proofs.expressions.Same.{no_true}
use Rattle.vf_grammar_read.proofs.expressions.Fronts.{Class, a_mark, a_word, a_name, a_number, a_character, class_mark, Front, gone, at_stays, mark_front, word_front, identifier_front, number_front}
use Rattle.vf_grammar_read.proofs.expressions.Begins.{met, loose}

-- a token can begin a primary expression
abbrev pub class_primary : Class → Bool
class_primary (a_mark punctuators.OpenParenthesis) = true
class_primary (a_mark p) = false
class_primary (a_word keywords.True) = true
class_primary (a_word keywords.False) = true
class_primary (a_word keywords.Result) = true
class_primary (a_word keywords.This) = true
class_primary (a_word keywords.CurrentThread) = true
class_primary (a_word k) = false
class_primary a_name = true
class_primary a_number = true
class_primary a_character = false

-- a token can begin an expression
abbrev pub class_term : Class → Bool
class_term (a_mark punctuators.Minus) = true
class_term (a_mark punctuators.Not) = true
class_term c = class_primary c

-- what an expression begins with
pub record Begun (x : GhostExprTree) (ts : List Token) : Type 0 where
  pub class : Class
  pub front : Front Ghost class ts
  pub begins : class_term class ≡ true
  pub close : ghost_rank x ≤ 0 → class_primary class ≡ true

pub behind : (p : Place) {c : Class} {ts us : List Token} → at p ts ≡ Some us → Front Ghost c us → Front Ghost c ts
behind p {c = c} {ts = ts} {us = us} h f = subst (λ vs. Front Ghost c vs) (sym (at_stays p ts us h)) f

sign_begins : (o : UnaryOperator) → class_term (a_mark (unary_mark o)) ≡ true
sign_begins unaries.Minus = refl
sign_begins unaries.Not = refl

pub term_begins : (x : GhostExprTree) (ts rest : List Token) → ghost_expr x ts ≡ Some rest → Begun x ts
term_begins (tree.number p n ty) ts rest h =
    let g = gone (at p ts) h in
    record { class = a_number; front = behind p g.1 (number_front Ghost n ty g.0 rest g.2); begins = refl; close = λ c. refl }
term_begins (tree.true_ p) ts rest h =
    let g = gone (at p ts) h in
    record { class = a_word keywords.True; front = behind p g.1 (word_front Ghost _ g.0 rest g.2); begins = refl; close = λ c. refl }
term_begins (tree.false_ p) ts rest h =
    let g = gone (at p ts) h in
    record { class = a_word keywords.False; front = behind p g.1 (word_front Ghost _ g.0 rest g.2); begins = refl; close = λ c. refl }
term_begins (tree.result p) ts rest h =
    let g = gone (at p ts) h in
    record { class = a_word keywords.Result; front = behind p g.1 (word_front Ghost _ g.0 rest g.2); begins = refl; close = λ c. refl }
term_begins (tree.this_ p) ts rest h =
    let g = gone (at p ts) h in
    record { class = a_word keywords.This; front = behind p g.1 (word_front Ghost _ g.0 rest g.2); begins = refl; close = λ c. refl }
term_begins (tree.current_thread p) ts rest h =
    let g = gone (at p ts) h in
    record { class = a_word keywords.CurrentThread; front = behind p g.1 (word_front Ghost _ g.0 rest g.2); begins = refl; close = λ c. refl }
term_begins (tree.name_ p x) ts rest h =
    let g = gone (at p ts) h in
    record { class = a_name; front = behind p g.1 (identifier_front Ghost x g.0 rest g.2); begins = refl; close = λ c. refl }
term_begins (tree.application p x xs) ts rest h =
    let g = gone (at p ts) h in let m = gone (identifier Ghost x g.0) g.2 in
    record { class = a_name; front = behind p g.1 (identifier_front Ghost x g.0 _ m.1); begins = refl; close = λ c. refl }
term_begins (tree.parenthesized p a) ts rest h =
    let g = gone (at p ts) h in let m = gone (mark Ghost punctuators.OpenParenthesis g.0) g.2 in
    record { class = a_mark punctuators.OpenParenthesis; front = behind p g.1 (mark_front Ghost _ g.0 m.0 m.1); begins = refl; close = λ c. refl }
term_begins (tree.conditional p c a b) ts rest h =
    let g = gone (at p ts) h in let m = gone (mark Ghost punctuators.OpenParenthesis g.0) g.2 in
    record { class = a_mark punctuators.OpenParenthesis; front = behind p g.1 (mark_front Ghost _ g.0 m.0 m.1); begins = refl; close = λ c. refl }
term_begins (tree.unary p o a) ts rest h =
    let g = gone (at p ts) h in let m = gone (mark Ghost (unary_mark o) g.0) g.2 in
    record { class = a_mark (unary_mark o); front = behind p g.1 (mark_front Ghost _ g.0 m.0 m.1); begins = sign_begins o; close = λ c. absurd (omega (arith, c)) }
term_begins (tree.chain p l a xs) ts rest h =
    let g = gone (at p ts) h in
    let q = gone (provided (is_ghost_operand l a && has_ghost_links xs) g.0) g.2 in
    let w = met _ g.0 q.0 q.1 in
    let m = gone (ghost_expr a q.0) q.2 in
    let b = term_begins a q.0 m.0 m.1 in
    record { class = b.class; front = behind p g.1 (subst (λ us. Front Ghost b.class us) (sym w.1) b.front); begins = b.begins; close = λ c. absurd (omega (arith, c, loose l)) }

-- no expression begins with a closing parenthesis
pub unclosed : (c : Class) → class_term c ≡ true → class_mark c punctuators.CloseParenthesis ≡ false
unclosed (a_mark punctuators.OpenParenthesis) h = refl
unclosed (a_mark punctuators.Minus) h = refl
unclosed (a_mark punctuators.Not) h = refl
unclosed (a_mark p) h = no_true h
unclosed (a_word k) h = refl
unclosed a_name h = refl
unclosed a_number h = refl
unclosed a_character h = refl
