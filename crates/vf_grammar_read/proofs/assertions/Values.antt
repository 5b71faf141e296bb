-- Expressions as parts of an assertion, and as they are read there.
use Rattle.std.proofs.Common.{◌≡◌, ℕ, ◌≤◌, false, List, Some, refl, sym, subst, ap, arith}
use Rattle.vf_base.specs.declared.place.Place.{Place}
use Rattle.vf_lexer.specs.declared.token.Token.{Token}
use Rattle.vf_syntax.specs.declared.side.Side.TheVariants.{Ghost}
use Rattle.vf_syntax.specs.GhostExprTree.{GhostExprTree}
use Rattle.vf_syntax.specs.GhostExprTree as exprs
use Rattle.vf_syntax.specs.Walks.{at, identifier}
use Rattle.vf_syntax.specs.Written.{name}
use Rattle.vf_syntax.specs.GhostExpressions.{ghost_expr, ghost_nesting, is_application}
use Rattle.vf_syntax.specs.Assertions.{part, part_nesting, pattern_list}
use Rattle.vf_parse_chunk.specs.declared.pieces.Value.{Value}
use Rattle.vf_parse_chunk.specs.declared.pieces.Value.TheVariants as values
use Rattle.vf_parse_chunk.specs.Pieces.{part_of_value, term_of}
use Rattle.vf_grammar_read.proofs.expressions.Fronts.{gone, at_stays}
use Rattle.vf_grammar_read.proofs.chunks.ChunksFull.{as_patterns, arguments_listed, nesting_as, terms_as}

-- where the first token of an expression stands
abbrev pub place_of : GhostExprTree → Place
place_of (exprs.number p n ty) = p
place_of (exprs.true_ p) = p
place_of (exprs.false_ p) = p
place_of (exprs.result p) = p
place_of (exprs.this_ p) = p
place_of (exprs.current_thread p) = p
place_of (exprs.name_ p x) = p
place_of (exprs.application p f xs) = p
place_of (exprs.parenthesized p a) = p
place_of (exprs.conditional p c a b) = p
place_of (exprs.unary p o a) = p
place_of (exprs.chain p l a xs) = p

-- an expression as a part that an expression spells too
abbrev pub value_of : GhostExprTree → Value
value_of (exprs.application p f xs) = values.Application (record { text = f; place = p }) (as_patterns xs)
value_of e = values.Term (place_of e) e

pub value_back : (e : GhostExprTree) → term_of (value_of e) ≡ e
value_back (exprs.application p f xs) = ap (exprs.application p f) (terms_as xs)
value_back e = refl

-- an expression stands at its place
pub placed_at : (e : GhostExprTree) (ts rest : List Token) → ghost_expr e ts ≡ Some rest → at (place_of e) ts ≡ Some ts
placed_at (exprs.number p n ty) ts rest h = let g = gone (at p ts) h in subst (λ us. at p ts ≡ Some us) (sym (at_stays p ts g.0 g.1)) g.1
placed_at (exprs.true_ p) ts rest h = let g = gone (at p ts) h in subst (λ us. at p ts ≡ Some us) (sym (at_stays p ts g.0 g.1)) g.1
placed_at (exprs.false_ p) ts rest h = let g = gone (at p ts) h in subst (λ us. at p ts ≡ Some us) (sym (at_stays p ts g.0 g.1)) g.1
placed_at (exprs.result p) ts rest h = let g = gone (at p ts) h in subst (λ us. at p ts ≡ Some us) (sym (at_stays p ts g.0 g.1)) g.1
placed_at (exprs.this_ p) ts rest h = let g = gone (at p ts) h in subst (λ us. at p ts ≡ Some us) (sym (at_stays p ts g.0 g.1)) g.1
placed_at (exprs.current_thread p) ts rest h = let g = gone (at p ts) h in subst (λ us. at p ts ≡ Some us) (sym (at_stays p ts g.0 g.1)) g.1
placed_at (exprs.name_ p x) ts rest h = let g = gone (at p ts) h in subst (λ us. at p ts ≡ Some us) (sym (at_stays p ts g.0 g.1)) g.1
placed_at (exprs.application p f xs) ts rest h = let g = gone (at p ts) h in subst (λ us. at p ts ≡ Some us) (sym (at_stays p ts g.0 g.1)) g.1
placed_at (exprs.parenthesized p a) ts rest h = let g = gone (at p ts) h in subst (λ us. at p ts ≡ Some us) (sym (at_stays p ts g.0 g.1)) g.1
placed_at (exprs.conditional p c a b) ts rest h = let g = gone (at p ts) h in subst (λ us. at p ts ≡ Some us) (sym (at_stays p ts g.0 g.1)) g.1
placed_at (exprs.unary p o a) ts rest h = let g = gone (at p ts) h in subst (λ us. at p ts ≡ Some us) (sym (at_stays p ts g.0 g.1)) g.1
placed_at (exprs.chain p l a xs) ts rest h = let g = gone (at p ts) h in subst (λ us. at p ts ≡ Some us) (sym (at_stays p ts g.0 g.1)) g.1

-- an expression that is no application is a pure part
pure_spelled : (e : GhostExprTree) (ts rest : List Token) → is_application e ≡ false → ghost_expr e ts ≡ Some rest → part (part_of_value (values.Term (place_of e) e)) ts ≡ Some rest
pure_spelled e ts rest a h = rw (placed_at e ts rest h, a) h

named_here : (p : Place) (x : List ℕ) (ts mid : List Token) → at p ts ≡ Some ts → identifier Ghost x ts ≡ Some mid → name Ghost (record { text = x; place = p }) ts ≡ Some mid
unfolding name
named_here p x ts mid here h = rw here h

-- an application is a chunk
chunk_spelled : (p : Place) (f : List ℕ) (xs : _) (ts rest : List Token) → ghost_expr (exprs.application p f xs) ts ≡ Some rest → part (part_of_value (value_of (exprs.application p f xs))) ts ≡ Some rest
chunk_spelled p f xs ts rest h =
    let here = placed_at (exprs.application p f xs) ts rest h in
    let g = gone (at p ts) h in
    let n = gone (identifier Ghost f g.0) g.2 in
    let list : pattern_list (as_patterns xs) n.0 ≡ Some rest = arguments_listed xs n.0 rest n.2 in
    let called : identifier Ghost f ts ≡ Some n.0 = subst (λ us. identifier Ghost f us ≡ Some n.0) (sym (at_stays p ts g.0 g.1)) n.1 in
    rw (here, named_here p f ts n.0 here called, list) refl

-- what spells an expression spells it as a part
pub value_spelled : (e : GhostExprTree) (ts rest : List Token) → ghost_expr e ts ≡ Some rest → part (part_of_value (value_of e)) ts ≡ Some rest
value_spelled (exprs.number p n ty) ts rest h = pure_spelled (exprs.number p n ty) ts rest refl h
value_spelled (exprs.true_ p) ts rest h = pure_spelled (exprs.true_ p) ts rest refl h
value_spelled (exprs.false_ p) ts rest h = pure_spelled (exprs.false_ p) ts rest refl h
value_spelled (exprs.result p) ts rest h = pure_spelled (exprs.result p) ts rest refl h
value_spelled (exprs.this_ p) ts rest h = pure_spelled (exprs.this_ p) ts rest refl h
value_spelled (exprs.current_thread p) ts rest h = pure_spelled (exprs.current_thread p) ts rest refl h
value_spelled (exprs.name_ p x) ts rest h = pure_spelled (exprs.name_ p x) ts rest refl h
value_spelled (exprs.application p f xs) ts rest h = chunk_spelled p f xs ts rest h
value_spelled (exprs.parenthesized p a) ts rest h = pure_spelled (exprs.parenthesized p a) ts rest refl h
value_spelled (exprs.conditional p c a b) ts rest h = pure_spelled (exprs.conditional p c a b) ts rest refl h
value_spelled (exprs.unary p o a) ts rest h = pure_spelled (exprs.unary p o a) ts rest refl h
value_spelled (exprs.chain p l a xs) ts rest h = pure_spelled (exprs.chain p l a xs) ts rest refl h

-- and nests as deep
pub value_deep : (e : GhostExprTree) → part_nesting (part_of_value (value_of e)) ≤ ghost_nesting e
value_deep (exprs.application p f xs) = omega (arith, nesting_as xs)
value_deep (exprs.number p n ty) = omega arith
value_deep (exprs.true_ p) = omega arith
value_deep (exprs.false_ p) = omega arith
value_deep (exprs.result p) = omega arith
value_deep (exprs.this_ p) = omega arith
value_deep (exprs.current_thread p) = omega arith
value_deep (exprs.name_ p x) = omega arith
value_deep (exprs.parenthesized p a) = omega arith
value_deep (exprs.conditional p c a b) = omega arith
value_deep (exprs.unary p o a) = omega arith
value_deep (exprs.chain p l a xs) = omega arith
