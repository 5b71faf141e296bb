-- The parts that are read are spelled, and nest no deeper than is allowed.
use Rattle.std.proofs.Common.{◌≡◌, ℕ, ◌≤◌, Bool, true, false, List, Option, Some, None, refl, subst, arith, inl, inr}
use Rattle.std.specs.Prelude.{◌&&◌, if◌then◌else◌}
use Rattle.vf_base.specs.declared.place.Place.{Place}
use Rattle.vf_lexer.specs.declared.punctuator.Punctuator.TheVariants as punctuators
use Rattle.vf_lexer.specs.declared.token.Token.{Token}
use Rattle.vf_syntax.specs.declared.keyword.Keyword.TheVariants as keywords
use Rattle.vf_syntax.specs.declared.side.Side.TheVariants.{Ghost}
use Rattle.vf_syntax.specs.declared.written.Name.{Name}
use Rattle.vf_syntax.specs.declared.pattern.Pattern.{Pattern}
use Rattle.vf_syntax.specs.declared.pattern.Share.{Share}
use Rattle.vf_syntax.specs.GhostExprTree.{GhostExprTree}
use Rattle.vf_syntax.specs.GhostExpressions.{is_application}
use Rattle.vf_syntax.specs.AssertionTree as tree
use Rattle.vf_syntax.specs.Walks.{at, head_has, is_mark, is_word, is_name, identifier}
use Rattle.vf_syntax.specs.Written.{name}
use Rattle.vf_syntax.specs.Lists.{optional, greatest, or_none}
use Rattle.vf_syntax.specs.Assertions.{share, pattern_list, are_value_patterns, pattern_nesting}
use Rattle.vf_cursor.specs.Parsing.{ok, here_at, mark_at, word_at, name_at}
use Rattle.vf_cursor.proofs.Facts.{bind_ok, moved, chose, no_true}
use Rattle.vf_parse_term.specs.Laws.{IsTerm}
use Rattle.vf_parse_term.specs.Terms.{rest_at, operand_at}
use Rattle.vf_parse_term.proofs.Taken.{here_sound, mark_sound, word_sound, name_sound}
use Rattle.vf_parse_term.proofs.TermsRead.{operand_sound, rest_sound}
use Rattle.vf_parse_pattern.specs.Shares.{share_at}
use Rattle.vf_parse_pattern.specs.Patterns.{pattern_at, patterns_at}
use Rattle.vf_parse_pattern.proofs.SharesRead.{share_sound}
use Rattle.vf_parse_pattern.proofs.PatternsRead.{pattern_sound, patterns_sound}
use Rattle.vf_parse_chunk.specs.declared.pieces.Value.TheVariants as values
use Rattle.vf_parse_chunk.specs.declared.pieces.Piece.{Piece}
use Rattle.vf_parse_chunk.specs.declared.pieces.Piece.TheVariants as pieces
use Rattle.vf_parse_chunk.specs.declared.pieces.Front.{Front}
use Rattle.vf_parse_chunk.specs.declared.pieces.Front.TheVariants as fronts
use Rattle.vf_parse_chunk.specs.declared.pieces.Begun.{Begun}
use Rattle.vf_parse_chunk.specs.Pieces.{term_of, unshared, begun_of}
use Rattle.vf_parse_chunk.specs.Chunks.{goes_further, applied_at, named_at, front_at, cell_at, shared_by, shared_at, begun_at, ended_at}
use Rattle.vf_parse_chunk.specs.Laws.{IsPiece, IsBegun, BegunAreSpelled, EndedAreSpelled}
use Rattle.vf_parse_chunk.proofs.Applied.{application_sound}

-- a name and one list of patterns, which nest at most so deep
pub record Listed (d : ℕ) (ts : List Token) (n : Name) (xs : List Pattern) (rest : List Token) : Type 0 where
  pub behind : List Token
  pub here : at n.place ts ≡ Some ts
  pub named : identifier Ghost n.text ts ≡ Some behind
  pub walk : name Ghost n ts ≡ Some behind
  pub list : pattern_list xs behind ≡ Some rest
  pub low : greatest pattern_nesting xs ≤ d

-- a chunk behind its share
pub record Chunked (d : ℕ) (ts : List Token) (n : Name) (xs : List Pattern) (ys : Option (List Pattern)) (rest : List Token) : Type 0 where
  pub mid : List Token
  pub first : Listed d ts n xs mid
  pub second : optional pattern_list ys mid ≡ Some rest
  pub deep : or_none (greatest pattern_nesting) ys ≤ d

-- the front of a part
abbrev IsFront : ℕ → List Token → Front → List Token → Type 0
IsFront d ts (fronts.Chunk n xs ys) rest = Chunked d ts n xs ys rest
IsFront d ts (fronts.Operand e) rest = IsTerm 2 d ts e rest

both : (a b : Bool) → (a && b) ≡ true → a ≡ true
both true b h = refl
both false b h = no_true h

some_same : {a b : List Token} → Some a ≡ Some b → a ≡ b
some_same e = cc

listed_term : (d : ℕ) (ts : List Token) (n : Name) (xs : List Pattern) (rest : List Token) → Listed d ts n xs rest → are_value_patterns xs ≡ true → IsTerm 0 d ts (term_of (values.Application n xs)) rest
listed_term d ts n xs rest l h = application_sound d n xs ts l.behind rest l.here l.named l.list l.low h

applied_sound : (d : ℕ) (n : Name) (xs : List Pattern) (all ts : List Token) → Listed d all n xs ts → (x : Front) (rest : List Token) → applied_at d n xs ts ≡ ok x rest → IsFront d all x rest
unfolding applied_at
applied_sound d n xs all ts l x rest e =
    elim (chose (head_has (is_mark Ghost punctuators.OpenParenthesis) ts) _ _ _ e) [
      | inl h ↦
          let ys = bind_ok {r = patterns_at d ts} h.1 in
          let k = patterns_sound d ts ys.0.0 ys.0.1 ys.1 in
          moved (λ y r. IsFront d all y r) ys.2 (record { mid = ts; first = l; second = k.0; deep = k.1 })
      | inr g ↦
          elim (chose (are_value_patterns xs && goes_further ts) _ _ _ g.1) [
            | inl h ↦
                let t = listed_term d all n xs ts l (both (are_value_patterns xs) (goes_further ts) h.0) in
                let rank = t.1 in
                moved (λ y r. IsFront d all y r) h.1 (t.0, omega (arith, rank), t.2)
            | inr h ↦ moved (λ y r. IsFront d all y r) h.1 (record { mid = ts; first = l; second = refl; deep = omega arith })
          ]
    ]

named_sound : (d : ℕ) (ts : List Token) (x : Front) (rest : List Token) → named_at d ts ≡ ok x rest → IsFront d ts x rest
unfolding named_at
named_sound d ts x rest e =
    let n = bind_ok {r = name_at Ghost ts} e in
    let k = name_sound Ghost ts n.0.0 n.0.1 n.1 in
    elim (chose (head_has (is_mark Ghost punctuators.OpenParenthesis) n.0.1) _ _ _ n.2) [
      | inl h ↦
          let xs = bind_ok {r = patterns_at d n.0.1} h.1 in
          let l = patterns_sound d n.0.1 xs.0.0 xs.0.1 xs.1 in
          applied_sound d n.0.0 xs.0.0 ts xs.0.1 (record { behind = n.0.1; here = k.1; named = k.2; walk = k.0; list = l.0; low = l.1 }) x rest xs.2
      | inr h ↦ moved (λ y r. IsFront d ts y r) h.1 (rw (k.1) (k.2), omega arith, omega arith)
    ]

front_sound : (d : ℕ) (ts : List Token) (x : Front) (rest : List Token) → front_at d ts ≡ ok x rest → IsFront d ts x rest
unfolding front_at
front_sound d ts x rest e =
    elim (chose (head_has (is_name Ghost) ts) _ _ _ e) [
      | inl h ↦ named_sound d ts x rest h.1
      | inr h ↦ let a = bind_ok {r = operand_at d ts} h.1 in moved (λ y r. IsFront d ts y r) a.2 (operand_sound d ts a.0.0 a.0.1 a.1)
    ]

-- a cell is spelled by what its share and its pointer take, and what is taken behind them
cell_sound : (d : ℕ) (p : Place) (s : Option Share) (e : GhostExprTree) (all inner ts : List Token) → at p all ≡ Some all → optional share s all ≡ Some inner → IsTerm 8 d inner e ts
    → (x : Piece) (rest : List Token) → cell_at d p s e ts ≡ ok x rest → IsPiece d all x rest
unfolding cell_at
cell_sound d p s e all inner ts here shares ha x rest eq =
    let a = bind_ok {r = mark_at Ghost punctuators.Arrow ts} eq in
    let f = bind_ok {r = name_at Ghost a.0.1} a.2 in
    let b = bind_ok {r = mark_at Ghost punctuators.PointsTo f.0.1} f.2 in
    let v = bind_ok {r = pattern_at d b.0.1} b.2 in
    let arrow = (mark_sound Ghost punctuators.Arrow ts a.0.0 a.0.1 a.1).0 in
    let field = (name_sound Ghost a.0.1 f.0.0 f.0.1 f.1).0 in
    let points = (mark_sound Ghost punctuators.PointsTo f.0.1 b.0.0 b.0.1 b.1).0 in
    let value = pattern_sound d b.0.1 v.0.0 v.0.1 v.1 in
    let nests = ha.2 in
    let low = value.1 in
    moved (λ y r. IsPiece d all y r) v.2 ((rw (here, shares, ha.0, arrow, field, points) (value.0), omega (arith, nests, low)), refl)

shared_by_sound : (d : ℕ) (p : Place) (s : Share) (q : Place) (all inner ts : List Token) → at p all ≡ Some all → share s all ≡ Some inner → at q inner ≡ Some inner
    → (f : Front) → IsFront d inner f ts → (x : Piece) (rest : List Token) → shared_by d p s q f ts ≡ ok x rest → IsPiece d all x rest
shared_by_sound d p s q all inner ts here shares there (fronts.Chunk n xs ys) k x rest e =
    let first = k.first in
    let low = first.low in
    let deep = k.deep in
    moved (λ y r. IsPiece d all y r) e ((rw (here, shares, first.walk, first.list) (k.second), omega (arith, low, deep)), refl)
shared_by_sound d p s q all inner ts here shares there (fronts.Operand a) k x rest e =
    let b = bind_ok {r = rest_at (operand_at d) 6 q a ts} e in
    let term = rest_sound (operand_at d) d (operand_sound d) 6 (omega arith) q a inner ts there k b.0.0 b.0.1 b.1 in
    cell_sound d p (Some s) b.0.0 all inner b.0.1 here shares term x rest b.2

shared_sound : (d : ℕ) (p : Place) (ts : List Token) → at p ts ≡ Some ts → (x : Piece) (rest : List Token) → shared_at d p ts ≡ ok x rest → IsPiece d ts x rest
unfolding shared_at
shared_sound d p ts here x rest e =
    let s = bind_ok {r = share_at ts} e in
    let q = bind_ok {r = here_at s.0.1} s.2 in
    let f = bind_ok {r = front_at d q.0.1} q.2 in
    let there = here_sound s.0.1 q.0.0 q.0.1 q.1 in
    let k : IsFront d s.0.1 f.0.0 f.0.1 = subst (λ (r : List Token). IsFront d r f.0.0 f.0.1) there.0 (front_sound d q.0.1 f.0.0 f.0.1 f.1) in
    shared_by_sound d p s.0.0 q.0.0 ts s.0.1 f.0.1 here (share_sound ts s.0.0 s.0.1 s.1).0 there.1 f.0.0 k x rest f.2

alone_sound : (d : ℕ) (p : Place) (n : Name) (xs : List Pattern) (ts rest : List Token) → at p ts ≡ Some ts → Listed d ts n xs rest → (b : Bool) → are_value_patterns xs ≡ b → IsPiece d ts (if b then pieces.Value (values.Application n xs) else pieces.Other (tree.chunk p None n xs None)) rest
alone_sound d p n xs ts rest here l true h =
    let t = listed_term d ts n xs rest l h in
    let low = l.low in
    ((rw (l.here, l.walk, l.list) refl, omega (arith, low)), (t.0, t.2, h))
alone_sound d p n xs ts rest here l false h =
    let low = l.low in
    ((rw (here, l.walk, l.list) refl, omega (arith, low)), h)

unshared_sound : (d : ℕ) (p : Place) (n : Name) (xs : List Pattern) (ys : Option (List Pattern)) (ts rest : List Token) → at p ts ≡ Some ts → Chunked d ts n xs ys rest → IsPiece d ts (unshared p n xs ys) rest
unshared_sound d p n xs None ts rest here k =
    let same : k.mid ≡ rest = some_same k.second in
    let first : Listed d ts n xs rest = subst (λ (r : List Token). Listed d ts n xs r) same k.first in
    alone_sound d p n xs ts rest here first (are_value_patterns xs) refl
unshared_sound d p n xs (Some ys) ts rest here k =
    let first = k.first in
    let low = first.low in
    let deep = k.deep in
    ((rw (here, first.walk, first.list) (k.second), omega (arith, low, deep)), refl)

begun_of_sound : (d : ℕ) (p : Place) (f : Front) (ts rest : List Token) → at p ts ≡ Some ts → IsFront d ts f rest → IsBegun d ts (begun_of p f) rest
begun_of_sound d p (fronts.Chunk n xs ys) ts rest here k = unshared_sound d p n xs ys ts rest here k
begun_of_sound d p (fronts.Operand e) ts rest here k = k

pub begun_sound : BegunAreSpelled
unfolding begun_at
begun_sound d p ts x rest here e =
    elim (chose (head_has (is_mark Ghost punctuators.OpenBracket) ts) _ _ _ e) [
      | inl h ↦
          let a = bind_ok {r = shared_at d p ts} h.1 in
          moved (λ (y : Begun) r. IsBegun d ts y r) a.2 (shared_sound d p ts here a.0.0 a.0.1 a.1)
      | inr g ↦
          elim (chose (head_has (is_word Ghost keywords.Emp) ts) _ _ _ g.1) [
            | inl h ↦
                let w = bind_ok {r = word_at Ghost keywords.Emp ts} h.1 in
                let emp = (word_sound Ghost keywords.Emp ts w.0.0 w.0.1 w.1).0 in
                moved (λ (y : Begun) r. IsBegun d ts y r) w.2 ((rw here emp, omega arith), refl)
            | inr h ↦
                let f = bind_ok {r = front_at d ts} h.1 in
                moved (λ (y : Begun) r. IsBegun d ts y r) f.2 (begun_of_sound d p f.0.0 ts f.0.1 here (front_sound d ts f.0.0 f.0.1 f.1))
          ]
    ]

pub ended_sound : EndedAreSpelled
unfolding ended_at
ended_sound d p e all ts here ha x rest eq =
    elim (chose (head_has (is_mark Ghost punctuators.Arrow) ts) _ _ _ eq) [
      | inl h ↦ cell_sound d p None e all all ts here refl ha x rest h.1
      | inr g ↦
          elim (chose (is_application e) _ _ _ g.1) [
            | inl h ↦ absurd cc
            | inr h ↦ moved (λ y r. IsPiece d all y r) h.1 ((rw (here, h.0) (ha.0), ha.2), (ha.0, ha.2, refl))
          ]
    ]
