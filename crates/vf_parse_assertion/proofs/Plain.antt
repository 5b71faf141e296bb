-- What begins a part, and what an expression begins without a conditional, is no conditional.
use Rattle.std.proofs.Common.{◌≡◌, ℕ, Bool, true, false, List, Option, Some, None, refl, inl, inr}
use Rattle.std.specs.Prelude.{◌&&◌, if◌then◌else◌}
use Rattle.vf_base.specs.declared.place.Place.{Place}
use Rattle.vf_lexer.specs.declared.punctuator.Punctuator.TheVariants as punctuators
use Rattle.vf_lexer.specs.declared.token.Token.{Token}
use Rattle.vf_syntax.specs.declared.keyword.Keyword.TheVariants as keywords
use Rattle.vf_syntax.specs.declared.side.Side.TheVariants.{Ghost}
use Rattle.vf_syntax.specs.declared.written.Name.{Name}
use Rattle.vf_syntax.specs.declared.pattern.Pattern.{Pattern}
use Rattle.vf_syntax.specs.declared.pattern.Share.{Share}
use Rattle.vf_syntax.specs.GhostExprTree.{GhostExprTree}
use Rattle.vf_syntax.specs.GhostExpressions.{is_application}
use Rattle.vf_syntax.specs.AssertionTree as tree
use Rattle.vf_syntax.specs.Assertions.{is_conditional, are_value_patterns}
use Rattle.vf_syntax.specs.Walks.{head_has, is_mark, is_word}
use Rattle.vf_cursor.specs.Parsing.{ok, here_at, mark_at, word_at, name_at}
use Rattle.vf_cursor.proofs.Facts.{bind_ok, moved, chose}
use Rattle.vf_parse_term.specs.Terms.{rest_at, operand_at}
use Rattle.vf_parse_pattern.specs.Shares.{share_at}
use Rattle.vf_parse_pattern.specs.Patterns.{pattern_at}
use Rattle.vf_parse_chunk.specs.declared.pieces.Value.TheVariants as values
use Rattle.vf_parse_chunk.specs.declared.pieces.Piece.{Piece}
use Rattle.vf_parse_chunk.specs.declared.pieces.Piece.TheVariants as pieces
use Rattle.vf_parse_chunk.specs.declared.pieces.Front.{Front}
use Rattle.vf_parse_chunk.specs.declared.pieces.Front.TheVariants as fronts
use Rattle.vf_parse_chunk.specs.declared.pieces.Begun.{Begun}
use Rattle.vf_parse_chunk.specs.declared.pieces.Begun.TheVariants as begun
use Rattle.vf_parse_chunk.specs.Pieces.{part_of, unshared, begun_of}
use Rattle.vf_parse_chunk.specs.Chunks.{front_at, cell_at, shared_by, shared_at, begun_at, ended_at}

-- a part that was read at once is no conditional
abbrev pub IsPlain : Begun → Type 0
IsPlain (begun.Whole x) = is_conditional (part_of x) ≡ false
IsPlain (begun.Operand e) = Unit {0}

cell_plain : (d : ℕ) (p : Place) (s : Option Share) (e : GhostExprTree) (ts : List Token) (x : Piece) (rest : List Token) → cell_at d p s e ts ≡ ok x rest → is_conditional (part_of x) ≡ false
unfolding cell_at
cell_plain d p s e ts x rest eq =
    let a = bind_ok {r = mark_at Ghost punctuators.Arrow ts} eq in
    let f = bind_ok {r = name_at Ghost a.0.1} a.2 in
    let b = bind_ok {r = mark_at Ghost punctuators.PointsTo f.0.1} f.2 in
    let v = bind_ok {r = pattern_at d b.0.1} b.2 in
    moved (λ y r. is_conditional (part_of y) ≡ false) v.2 refl

shared_by_plain : (d : ℕ) (p : Place) (s : Share) (q : Place) (f : Front) (ts : List Token) (x : Piece) (rest : List Token) → shared_by d p s q f ts ≡ ok x rest → is_conditional (part_of x) ≡ false
shared_by_plain d p s q (fronts.Chunk n xs ys) ts x rest e = moved (λ y r. is_conditional (part_of y) ≡ false) e refl
shared_by_plain d p s q (fronts.Operand a) ts x rest e =
    let b = bind_ok {r = rest_at (operand_at d) 6 q a ts} e in
    cell_plain d p (Some s) b.0.0 b.0.1 x rest b.2

shared_plain : (d : ℕ) (p : Place) (ts : List Token) (x : Piece) (rest : List Token) → shared_at d p ts ≡ ok x rest → is_conditional (part_of x) ≡ false
unfolding shared_at
shared_plain d p ts x rest e =
    let s = bind_ok {r = share_at ts} e in
    let q = bind_ok {r = here_at s.0.1} s.2 in
    let f = bind_ok {r = front_at d q.0.1} q.2 in
    shared_by_plain d p s.0.0 q.0.0 f.0.0 f.0.1 x rest f.2

alone_plain : (b : Bool) (p : Place) (n : Name) (xs : List Pattern) → is_conditional (part_of (if b then pieces.Value (values.Application n xs) else pieces.Other (tree.chunk p None n xs None))) ≡ false
alone_plain true p n xs = refl
alone_plain false p n xs = refl

unshared_plain : (p : Place) (n : Name) (xs : List Pattern) (ys : Option (List Pattern)) → is_conditional (part_of (unshared p n xs ys)) ≡ false
unshared_plain p n xs None = alone_plain (are_value_patterns xs) p n xs
unshared_plain p n xs (Some ys) = refl

begun_of_plain : (p : Place) (f : Front) → IsPlain (begun_of p f)
begun_of_plain p (fronts.Chunk n xs ys) = unshared_plain p n xs ys
begun_of_plain p (fronts.Operand e) = tt

pub begun_plain : (d : ℕ) (p : Place) (ts : List Token) (x : Begun) (rest : List Token) → begun_at d p ts ≡ ok x rest → IsPlain x
unfolding begun_at
begun_plain d p ts x rest e =
    elim (chose (head_has (is_mark Ghost punctuators.OpenBracket) ts) _ _ _ e) [
      | inl h ↦
          let a = bind_ok {r = shared_at d p ts} h.1 in
          moved (λ (y : Begun) r. IsPlain y) a.2 (shared_plain d p ts a.0.0 a.0.1 a.1)
      | inr g ↦
          elim (chose (head_has (is_word Ghost keywords.Emp) ts) _ _ _ g.1) [
            | inl h ↦
                let w = bind_ok {r = word_at Ghost keywords.Emp ts} h.1 in
                moved (λ (y : Begun) r. IsPlain y) w.2 refl
            | inr h ↦
                let f = bind_ok {r = front_at d ts} h.1 in
                moved (λ (y : Begun) r. IsPlain y) f.2 (begun_of_plain p f.0.0)
          ]
    ]

pub ended_plain : (d : ℕ) (p : Place) (e : GhostExprTree) (ts : List Token) (x : Piece) (rest : List Token) → ended_at d p e ts ≡ ok x rest → is_conditional (part_of x) ≡ false
unfolding ended_at
ended_plain d p e ts x rest eq =
    elim (chose (head_has (is_mark Ghost punctuators.Arrow) ts) _ _ _ eq) [
      | inl h ↦ cell_plain d p None e ts x rest h.1
      | inr g ↦
          elim (chose (is_application e) _ _ _ g.1) [
            | inl h ↦ absurd (let s = h.1 in cc)
            | inr h ↦ moved (λ y r. is_conditional (part_of y) ≡ false) h.1 refl
          ]
    ]
