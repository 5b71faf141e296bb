-- The first operand of an expression, and what stands behind it.
use Rattle.std.proofs.Common.{◌≡◌, ◌≤◌, Bool, true, ◌&&◌, ◌||◌, List, Option, Some, refl, sym, subst, ap, ◌∙◌, arith}
use Rattle.vf_lexer.specs.declared.punctuator.Punctuator.{Punctuator}
use Rattle.vf_lexer.specs.declared.token.Token.{Token}
use Rattle.vf_syntax.specs.declared.side.Side.TheVariants.{Ghost}
use Rattle.vf_syntax.specs.declared.operator.BinaryOperator.{BinaryOperator}
use Rattle.vf_syntax.specs.declared.operator.BinaryOperator.TheVariants as binaries
use Rattle.vf_syntax.specs.declared.operator.Level.{Level}
use Rattle.vf_syntax.specs.declared.operator.Level.TheVariants as levels
use Rattle.vf_syntax.specs.GhostExprTree.{GhostExprTree, GhostLinkTrees, no_ghost_link, more_ghost_link}
use Rattle.vf_syntax.specs.GhostExprTree as tree
use Rattle.vf_syntax.specs.Walks.{provided, at, mark, head_has}
use Rattle.vf_syntax.specs.Written.{binary_mark, binary_of}
use Rattle.vf_syntax.specs.GhostExpressions.{ghost_expr, ghost_link, ghost_links, ghost_rank, ghost_nesting, is_ghost_operand, has_ghost_links, ghost_joins_on}
use Rattle.vf_cursor.specs.Parsing.{is_there}
use Rattle.vf_cursor.specs.Types.{next_on, on_level, found_then}
use Rattle.vf_parse_term.specs.Terms.{joins}
use Rattle.vf_parse_term.proofs.Heads.{joins_next}
use Rattle.vf_parse_chunk.specs.Chunks.{sees_operator}
use Rattle.vf_grammar_read.proofs.expressions.Same.{no_true, both}
use Rattle.vf_grammar_read.proofs.expressions.Fronts.{a_mark, Front, gone, at_stays, mark_front}
use Rattle.vf_grammar_read.proofs.expressions.Begins.{met}
use Rattle.vf_grammar_read.proofs.terms.Begins.{behind}

-- what stands behind the first operand of an expression: what stands behind the expression, where it is all of it, or an operator
pub data Next (x a : GhostExprTree) (mid rest : List Token) : Type 0 where
  alone : x ≡ a → mid ≡ rest → Next x a mid rest
  operator : (o : BinaryOperator) → Front Ghost (a_mark (binary_mark o)) mid → Next x a mid rest

-- the first operand of an expression
pub record First (x : GhostExprTree) (ts rest : List Token) : Type 0 where
  pub operand : GhostExprTree
  pub mid : List Token
  pub walk : ghost_expr operand ts ≡ Some mid
  pub close : ghost_rank operand ≤ 2
  pub low : ghost_nesting operand ≤ ghost_nesting x
  pub next : Next x operand mid rest

link_operator : (l : Level) (x : _) (ts rest : List Token) → ghost_link l x ts ≡ Some rest → (o : BinaryOperator) × Front Ghost (a_mark (binary_mark o)) ts
link_operator l (tree.ghost_link p o a) ts rest h =
    let g = gone (at p ts) h in
    let q = gone (provided (ghost_joins_on l (tree.ghost_link p o a)) g.0) g.2 in
    let w = met _ g.0 q.0 q.1 in
    let m = gone (mark Ghost (binary_mark o) q.0) q.2 in
    (o, behind p g.1 (subst (λ us. Front Ghost (a_mark (binary_mark o)) us) (sym w.1) (mark_front Ghost (binary_mark o) q.0 m.0 m.1)))

links_operator : (l : Level) (xs : GhostLinkTrees) (ts rest : List Token) → has_ghost_links xs ≡ true → ghost_links l xs ts ≡ Some rest → (o : BinaryOperator) × Front Ghost (a_mark (binary_mark o)) ts
links_operator l no_ghost_link ts rest k h = no_true k
links_operator l (more_ghost_link x xs) ts rest k h = let m = gone (ghost_link l x ts) h in link_operator l x ts m.0 m.1

chain_next : (x a : GhostExprTree) (b : GhostExprTree) (mid inner rest : List Token) → Next a b mid inner → (o : BinaryOperator) × Front Ghost (a_mark (binary_mark o)) inner → Next x b mid rest
chain_next x a b mid inner rest (alone same e) k = operator k.0 (subst (λ us. Front Ghost (a_mark (binary_mark k.0)) us) (sym e) k.1)
chain_next x a b mid inner rest (operator o f) k = operator o f

self : (x : GhostExprTree) (ts rest : List Token) → ghost_expr x ts ≡ Some rest → ghost_rank x ≤ 2 → First x ts rest
self x ts rest h low = record { operand = x; mid = rest; walk = h; close = low; low = omega arith; next = alone refl refl }

pub first_of : (x : GhostExprTree) (ts rest : List Token) → ghost_expr x ts ≡ Some rest → First x ts rest
first_of (tree.number p n ty) ts rest h = self _ ts rest h (omega arith)
first_of (tree.true_ p) ts rest h = self _ ts rest h (omega arith)
first_of (tree.false_ p) ts rest h = self _ ts rest h (omega arith)
first_of (tree.result p) ts rest h = self _ ts rest h (omega arith)
first_of (tree.this_ p) ts rest h = self _ ts rest h (omega arith)
first_of (tree.current_thread p) ts rest h = self _ ts rest h (omega arith)
first_of (tree.name_ p x) ts rest h = self (tree.name_ p x) ts rest h (omega arith)
first_of (tree.application p f xs) ts rest h = self (tree.application p f xs) ts rest h (omega arith)
first_of (tree.parenthesized p a) ts rest h = self (tree.parenthesized p a) ts rest h (omega arith)
first_of (tree.conditional p c a b) ts rest h = self (tree.conditional p c a b) ts rest h (omega arith)
first_of (tree.unary p o a) ts rest h = self (tree.unary p o a) ts rest h (omega arith)
first_of (tree.chain p l a xs) ts rest h =
    let g = gone (at p ts) h in
    let q = gone (provided (is_ghost_operand l a && has_ghost_links xs) g.0) g.2 in
    let w = met _ g.0 q.0 q.1 in
    let m = gone (ghost_expr a q.0) q.2 in
    let f = first_of a q.0 m.0 m.1 in
    let same : ts ≡ q.0 = at_stays p ts g.0 g.1 ∙ w.1 in
    let deep = f.low in
    record {
      operand = f.operand;
      mid = f.mid;
      walk = subst (λ us. ghost_expr f.operand us ≡ Some f.mid) (sym same) f.walk;
      close = f.close;
      low = omega (arith, deep);
      next = chain_next (tree.chain p l a xs) a f.operand f.mid m.0 rest f.next (links_operator l xs m.0 rest (both _ _ w.0).1 m.2);
    }

-- a punctuator is an operator of a level
abbrev on : Level → Option Punctuator → Bool
on l q = is_there (found_then (found_then q binary_of) (on_level l))

level_seen : (l : Level) (o : BinaryOperator) (ts : List Token) → Front Ghost (a_mark (binary_mark o)) ts → head_has (joins l) ts ≡ on l (Some (binary_mark o))
unfolding next_on
level_seen l o ts f = joins_next l ts ∙ ap (on l) f.next_is

known : (o : BinaryOperator) → (on levels.Multiplicative (Some (binary_mark o)) || on levels.Additive (Some (binary_mark o)) || on levels.Relational (Some (binary_mark o)) || on levels.Equality (Some (binary_mark o)) || on levels.And (Some (binary_mark o)) || on levels.Or (Some (binary_mark o))) ≡ true
known binaries.Times = refl
known binaries.Divide = refl
known binaries.Remainder = refl
known binaries.Plus = refl
known binaries.Minus = refl
known binaries.Less = refl
known binaries.LessOrEqual = refl
known binaries.Greater = refl
known binaries.GreaterOrEqual = refl
known binaries.Equal = refl
known binaries.NotEqual = refl
known binaries.And = refl
known binaries.Or = refl

pub seen : (o : BinaryOperator) (ts : List Token) → Front Ghost (a_mark (binary_mark o)) ts → sees_operator ts ≡ true
unfolding sees_operator
seen o ts f =
    (λ i. level_seen levels.Multiplicative o ts f i || level_seen levels.Additive o ts f i || level_seen levels.Relational o ts f i || level_seen levels.Equality o ts f i || level_seen levels.And o ts f i || level_seen levels.Or o ts f i) ∙ known o
