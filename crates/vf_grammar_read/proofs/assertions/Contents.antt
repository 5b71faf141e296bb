-- What an assertion is read as, before it is known whether it stands between the parentheses of an expression.
use Rattle.std.proofs.Common.{◌≡◌, Bool, true, false, ◌&&◌, List, [], ◌∷◌, Some, None, refl, sym, subst, ap, ◌∙◌}
use Rattle.std.specs.Prelude.{if◌then◌else◌}
use Rattle.vf_base.specs.declared.place.Place.{Place}
use Rattle.vf_lexer.specs.declared.punctuator.Punctuator.TheVariants as punctuators
use Rattle.vf_lexer.specs.declared.token.Token.{Token}
use Rattle.vf_syntax.specs.declared.side.Side.TheVariants.{Ghost}
use Rattle.vf_syntax.specs.declared.written.Name.{Name}
use Rattle.vf_syntax.specs.declared.pattern.Pattern.{Pattern}
use Rattle.vf_syntax.specs.GhostExprTree.{GhostExprTree}
use Rattle.vf_syntax.specs.GhostExprTree as exprs
use Rattle.vf_syntax.specs.AssertionTree.{PartTree, PartTrees, no_part, more_part, part_list}
use Rattle.vf_syntax.specs.AssertionTree as tree
use Rattle.vf_syntax.specs.Walks.{Walk, ◌⨾◌, provided, at, mark, identifier}
use Rattle.vf_syntax.specs.Written.{name}
use Rattle.vf_syntax.specs.Lists.{optional}
use Rattle.vf_syntax.specs.GhostExpressions.{ghost_expr}
use Rattle.vf_syntax.specs.Assertions.{part, assertion, pattern_list, are_value_patterns, is_value, is_lone_value, is_content, is_expression, is_conditional_last}
use Rattle.vf_cursor.specs.Parsing.{ok, here_at}
use Rattle.vf_cursor.proofs.Facts.{ok_pair}
use Rattle.vf_parse_chunk.specs.declared.pieces.Value.TheVariants as values
use Rattle.vf_parse_chunk.specs.declared.pieces.Piece.{Piece}
use Rattle.vf_parse_chunk.specs.declared.pieces.Piece.TheVariants as pieces
use Rattle.vf_parse_chunk.specs.declared.pieces.Begun.TheVariants as begun
use Rattle.vf_parse_chunk.specs.Pieces.{part_of, part_of_value, unshared}
use Rattle.vf_parse_assertion.specs.declared.contents.Content.{Content}
use Rattle.vf_parse_assertion.specs.declared.contents.Content.TheVariants as contents
use Rattle.vf_parse_assertion.specs.Contents.{parts_of, enclosed, tree_of, chosen}
use Rattle.vf_grammar_read.proofs.expressions.Same.{no_true}
use Rattle.vf_grammar_read.proofs.expressions.Fronts.{gone, at_stays}
use Rattle.vf_grammar_read.proofs.expressions.Taken.{here_read}
use Rattle.vf_grammar_read.proofs.chunks.ChunksFull.{as_patterns, values_as}
use Rattle.vf_grammar_read.proofs.assertions.Values.{value_of}

-- the parts of an assertion
abbrev pub part_items : PartTrees → List PartTree
part_items no_part = []
part_items (more_part x xs) = x ∷ part_items xs

pub part_items_are : (xs : PartTrees) → part_list (part_items xs) ≡ xs
part_items_are no_part = refl
part_items_are (more_part x xs) = ap (more_part x) (part_items_are xs)

abbrev mutual
  -- what a part is read as
  pub piece_of : PartTree → Piece
  piece_of (tree.pure p e) = pieces.Value (values.Term p e)
  piece_of (tree.chunk p None n first second) = unshared p n first second
  piece_of (tree.conditional p c a b) = chosen p c (content_of a) (content_of b)
  piece_of x = pieces.Other x

  -- what an assertion is read as
  pub content_of : PartTrees → Content
  content_of no_part = contents.Several []
  content_of (more_part x no_part) = contents.Lone (piece_of x)
  content_of (more_part x (more_part y ys)) = contents.Several (x ∷ y ∷ part_items ys)

chosen_tree : (p : Place) (c : GhostExprTree) (x y : Content) → part_of (chosen p c x y) ≡ tree_of p c x y
chosen_tree p c (contents.Lone (pieces.Value v)) (contents.Lone (pieces.Value w)) = refl
chosen_tree p c (contents.Lone (pieces.Value v)) y = refl
chosen_tree p c x y = refl

alone_back : (b : Bool) (p : Place) (n : Name) (xs : List Pattern) → p ≡ n.place → part_of (if b then pieces.Value (values.Application n xs) else pieces.Other (tree.chunk p None n xs None)) ≡ tree.chunk p None n xs None
alone_back true p n xs e = let back = sym e in λ i. tree.chunk (back i) None n xs None
alone_back false p n xs e = refl

-- a name that stands at a place has it
named_there : (p : Place) (n : Name) (w : Walk) (ts rest : List Token) → (at p ⨾ name Ghost n ⨾ w) ts ≡ Some rest → p ≡ n.place
unfolding name
named_there p n w ts rest h =
    let g = gone {g = name Ghost n ⨾ w} (at p ts) h in
    let m = gone {g = w} (name Ghost n g.0) g.2 in
    let k = gone {g = identifier Ghost n.text} (at n.place g.0) m.1 in
    let one : here_at g.0 ≡ ok p g.0 = subst (λ us. here_at us ≡ ok p g.0) (at_stays p ts g.0 g.1) (here_read p ts g.0 g.1) in
    (ok_pair p n.place g.0 k.0 (sym one ∙ here_read n.place g.0 k.0 k.1)).0

mutual
  -- a part that is spelled is what is read
  pub piece_back : (x : PartTree) (ts rest : List Token) → part x ts ≡ Some rest → part_of (piece_of x) ≡ x
  piece_back (tree.pure p e) ts rest h = refl
  piece_back (tree.chunk p None n first None) ts rest h = alone_back (are_value_patterns first) p n first (named_there p n (pattern_list first ⨾ optional pattern_list None) ts rest h)
  piece_back (tree.chunk p None n first (Some second)) ts rest h = refl
  piece_back (tree.chunk p (Some s) n first second) ts rest h = refl
  piece_back (tree.conditional p c a b) ts rest h =
      let g = gone (at p ts) h in
      let t = gone (ghost_expr c g.0) g.2 in
      let q = gone (mark Ghost punctuators.Question t.0) t.2 in
      let one = gone (assertion a q.0) q.2 in
      let k = gone (mark Ghost punctuators.Colon one.0) one.2 in
      let first = content_back a q.0 one.0 one.1 in
      let second = content_back b k.0 rest k.2 in
      chosen_tree p c (content_of a) (content_of b) ∙ (λ i. tree.conditional p c (first i) (second i))
  piece_back (tree.switch_ p e cs) ts rest h = refl
  piece_back (tree.cell p s e f v) ts rest h = refl
  piece_back (tree.empty_ p) ts rest h = refl
  piece_back (tree.group p a) ts rest h = refl

  pub content_back : (xs : PartTrees) (ts rest : List Token) → assertion xs ts ≡ Some rest → part_list (parts_of (content_of xs)) ≡ xs
  content_back no_part ts rest h = absurd cc
  content_back (more_part x no_part) ts rest h =
      let g = gone (provided (is_conditional_last (more_part x no_part)) ts) h in
      let m = gone (part x g.0) g.2 in
      ap (λ y. more_part y no_part) (piece_back x g.0 m.0 m.1)
  content_back (more_part x (more_part y ys)) ts rest h = ap (λ zs. more_part x (more_part y zs)) (part_items_are ys)

-- an expression that is all of an assertion
pub lone_value : (e : GhostExprTree) → content_of (more_part (part_of_value (value_of e)) no_part) ≡ contents.Lone (pieces.Value (value_of e))
lone_value (exprs.application p f xs) = let all = values_as xs in λ i. contents.Lone (if all i then pieces.Value (values.Application (record { text = f; place = p }) (as_patterns xs)) else pieces.Other (tree.chunk p None (record { text = f; place = p }) (as_patterns xs) None))
lone_value e = refl

-- a conditional of expressions
pub lone_choice : (p : Place) (c a b : GhostExprTree) → content_of (more_part (tree.conditional p c (more_part (part_of_value (value_of a)) no_part) (more_part (part_of_value (value_of b)) no_part)) no_part) ≡ contents.Lone (pieces.Conditional p c (value_of a) (value_of b))
lone_choice p c a b = let one = lone_value a in let two = lone_value b in λ i. contents.Lone (chosen p c (one i) (two i))

-- an assertion is one part that is an expression too, by what it is read as
abbrev is_lone : Content → Bool
is_lone (contents.Lone (pieces.Value v)) = true
is_lone c = false

not_lone : (p : Place) (c : GhostExprTree) (x y : Content) → is_lone (contents.Lone (chosen p c x y)) ≡ false
not_lone p c (contents.Lone (pieces.Value v)) (contents.Lone (pieces.Value w)) = refl
not_lone p c (contents.Lone (pieces.Value v)) y = refl
not_lone p c x y = refl

alone_is : (b : Bool) (p : Place) (n : Name) (xs : List Pattern) → is_lone (contents.Lone (if b then pieces.Value (values.Application n xs) else pieces.Other (tree.chunk p None n xs None))) ≡ b
alone_is true p n xs = refl
alone_is false p n xs = refl

piece_lone : (x : PartTree) → is_lone (contents.Lone (piece_of x)) ≡ is_value x
piece_lone (tree.pure p e) = refl
piece_lone (tree.chunk p None n first None) = alone_is (are_value_patterns first) p n first
piece_lone (tree.chunk p None n first (Some second)) = refl
piece_lone (tree.chunk p (Some s) n first second) = refl
piece_lone (tree.conditional p c a b) = not_lone p c (content_of a) (content_of b)
piece_lone (tree.switch_ p e cs) = refl
piece_lone (tree.cell p s e f v) = refl
piece_lone (tree.empty_ p) = refl
piece_lone (tree.group p a) = refl

content_lone : (xs : PartTrees) → is_lone (content_of xs) ≡ is_lone_value xs
content_lone no_part = refl
content_lone (more_part x no_part) = piece_lone x
content_lone (more_part x (more_part y ys)) = refl

chosen_other : (p : Place) (c : GhostExprTree) (x y : Content) → (is_lone x && is_lone y) ≡ false → chosen p c x y ≡ pieces.Other (tree_of p c x y)
chosen_other p c (contents.Lone (pieces.Value v)) (contents.Lone (pieces.Value w)) h = no_true (sym h)
chosen_other p c (contents.Lone (pieces.Value v)) y h = refl
chosen_other p c x y h = refl

alone_other : (b : Bool) (p : Place) (n : Name) (xs : List Pattern) → b ≡ false → (if b then pieces.Value (values.Application n xs) else pieces.Other (tree.chunk p None n xs None)) ≡ pieces.Other (tree.chunk p None n xs None)
alone_other b p n xs h = rw h refl

-- a part that is no expression in parentheses is read as itself
piece_other : (x : PartTree) (ts rest : List Token) → part x ts ≡ Some rest → is_content x ≡ false → piece_of x ≡ pieces.Other x
piece_other (tree.pure p e) ts rest h k = no_true (sym k)
piece_other (tree.chunk p None n first None) ts rest h k = alone_other (are_value_patterns first) p n first k
piece_other (tree.chunk p None n first (Some second)) ts rest h k = refl
piece_other (tree.chunk p (Some s) n first second) ts rest h k = refl
piece_other (tree.conditional p c a b) ts rest h k =
    let whole = piece_back (tree.conditional p c a b) ts rest h in
    let one = content_lone a in
    let two = content_lone b in
    let none : (is_lone (content_of a) && is_lone (content_of b)) ≡ false = (λ i. one i && two i) ∙ k in
    chosen_other p c (content_of a) (content_of b) none ∙ ap pieces.Other (sym (chosen_tree p c (content_of a) (content_of b)) ∙ whole)
piece_other (tree.switch_ p e cs) ts rest h k = refl
piece_other (tree.cell p s e f v) ts rest h k = refl
piece_other (tree.empty_ p) ts rest h k = refl
piece_other (tree.group p a) ts rest h k = refl

-- an assertion between parentheses that is no expression is a part of its own
pub enclosed_group : (p : Place) (xs : PartTrees) (ts rest : List Token) → assertion xs ts ≡ Some rest → is_expression xs ≡ false → enclosed p (content_of xs) ≡ begun.Whole (pieces.Other (tree.group p xs))
enclosed_group p no_part ts rest h k = refl
enclosed_group p (more_part x no_part) ts rest h k =
    let g = gone (provided (is_conditional_last (more_part x no_part)) ts) h in
    let m = gone (part x g.0) g.2 in
    ap (λ y. enclosed p (contents.Lone y)) (piece_other x g.0 m.0 m.1 k)
enclosed_group p (more_part x (more_part y ys)) ts rest h k = ap (λ zs. begun.Whole (pieces.Other (tree.group p (more_part x (more_part y zs))))) (part_items_are ys)
