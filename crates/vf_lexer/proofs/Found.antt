-- Each piece that the code finds is a lexical element, or opens an annotation, that may stand there.
use Rattle.std.proofs.Common.{◌≡◌, ◌⊎◌, inl, inr, ℕ, suc, ◌-◌, ◌≤◌, Bool, true, false, List, [], ◌∷◌, ◌++◌, length, take, drop, Option, Some, None, refl, sym, ap, subst, ◌∙◌, arith, append_assoc}
use Rattle.std.specs.Prelude.{nat_eq, nat_le, ◌||◌, codes, if◌then◌else◌}
use Rattle.std.specs.List.{starts_with}
use Rattle.std.proofs.lemmas.Bool.{leb-true}
use Rattle.std.proofs.lemmas.List.{take-append-drop, length-take-le, length-append}
use Rattle.vf_lexer.specs.declared.class.Class.TheVariants as classes
use Rattle.vf_lexer.specs.declared.piece.Piece.{Piece}
use Rattle.vf_lexer.specs.Bytes.{is_blank}
use Rattle.vf_lexer.specs.Numbers.{◌>>=◌}
use Rattle.vf_lexer.specs.Pieces.{run_len, Front, token_front, gap, token, opening, solid_piece, ended_from, block_comment, plain_piece, closed_block, block_opening, outer_piece, inner_piece, begins_with_mark, header_piece}
use Rattle.vf_lexer.specs.Cuts.{Setting, Real, Inside, Header, is_ghost_in, Lexeme, Blank, Line_comment, Block_comment, Mark, Token_is, bytes_of, Form, Line_form, Block_form, opening_mark, closing_mark, LineBody, BlockBody, IsMark, opens_comment, Stands, Opens}
use Rattle.vf_lexer.proofs.Sizes.{or_left_no, or_right_no, or_case, FrontFits, token_fits}
use Rattle.vf_lexer.proofs.Bodies.{front_of, line_len, line_split, unclosed_front, closed_split, ClosedSplit, at_last}
use Rattle.vf_lexer.proofs.Lexemes.{as_piece}

-- the piece is a lexical element that stands in front of a text
pub record IsFound (w : Setting) (text : List ℕ) (piece : Piece) : Type 0 where
  pub lexeme : Lexeme
  pub rest : List ℕ
  pub whole : text ≡ bytes_of lexeme ++ rest
  pub stands : Stands w lexeme rest
  pub same : piece ≡ as_piece lexeme

-- the piece opens an annotation that stands in front of a text
pub record IsOpened (text : List ℕ) (piece : Piece) : Type 0 where
  pub form : Form
  pub body : List ℕ
  pub rest : List ℕ
  pub whole : text ≡ opening_mark form ++ (body ++ (closing_mark form ++ rest))
  pub opens : Opens Real form body rest
  pub same : piece ≡ opening (length body) (length (closing_mark form))

-- ---- tokens and blank bytes

token_at : (w : Setting) (text : List ℕ) (o : Front) (piece : Piece) → token_front (is_ghost_in w) text ≡ o → FrontFits (length text) o → opens_comment text ≡ false → (o >>= λ x. Some (token x)) ≡ Some piece → IsFound w text piece
unfolding FrontFits
token_at w text None piece e fits h f = absurd cc
token_at w text (Some x) piece e fits h f =
    let whole : take x.1 text ++ drop x.1 text ≡ text = take-append-drop x.1 text in
    let size : length (take x.1 text) ≡ x.1 = length-take-le x.1 text fits.1 in
    record {
      lexeme = Token_is x.0 (take x.1 text);
      rest = drop x.1 text;
      whole = sym whole;
      stands = (rw (whole, size) e, rw whole h);
      same = rw size (let same : token x ≡ piece = cc in sym same);
    }

solid_by : (w : Setting) (b : ℕ) (bs : List ℕ) (piece : Piece) (t : Bool) → is_blank b ≡ t → opens_comment (b ∷ bs) ≡ false → (if t then Some (gap 1) else (token_front (is_ghost_in w) (b ∷ bs) >>= λ x. Some (token x))) ≡ Some piece → IsFound w (b ∷ bs) piece
solid_by w b bs piece true h clear e = record { lexeme = Blank b; rest = bs; whole = refl; stands = h; same = let same : gap 1 ≡ piece = cc in sym same }
solid_by w b bs piece false h clear e = token_at w (b ∷ bs) (token_front (is_ghost_in w) (b ∷ bs)) piece refl (token_fits (is_ghost_in w) (b ∷ bs)) clear e

solid_found : (w : Setting) (text : List ℕ) (piece : Piece) → opens_comment text ≡ false → solid_piece (is_ghost_in w) text ≡ Some piece → IsFound w text piece
unfolding solid_piece
solid_found w [] piece clear e = absurd cc
solid_found w (b ∷ bs) piece clear e = solid_by w b bs piece (is_blank b) refl clear e

-- ---- comments

line_found : (w : Setting) (text tail : List ℕ) (piece : Piece) → text ≡ codes "//" ++ tail → ((body rest : List ℕ) → tail ≡ body ++ rest → LineBody w body) → gap (run_len classes.Line text) ≡ piece → IsFound w text piece
line_found w text tail piece e may f =
    let s = line_split tail in
    let whole : text ≡ codes "//" ++ (s.body ++ s.rest) = e ∙ ap (λ t. codes "//" ++ t) s.whole in
    let size : run_len classes.Line text ≡ suc (suc (length s.body)) = ap (run_len classes.Line) whole ∙ (let len = line_len s.body s.rest s.line s.ends in omega arith) in
    record {
      lexeme = Line_comment s.body;
      rest = s.rest;
      whole = whole;
      stands = (may s.body s.rest s.whole, s.line, s.ends);
      same = sym f ∙ ap gap size;
    }

block_at : (w : Setting) (text tail : List ℕ) (o : Option ℕ) (piece : Piece) → text ≡ codes "/*" ++ tail → ended_from 2 tail ≡ o → ((body rest : List ℕ) → tail ≡ body ++ rest → BlockBody w body) → (o >>= λ n. Some (gap n)) ≡ Some piece → IsFound w text piece
block_at w text tail None piece e f may g = absurd cc
block_at w text tail (Some n) piece e f may g =
    let s = closed_split 2 tail n f in
    let found : gap n ≡ piece = cc in
    let size : n ≡ suc (suc (length (s.body ++ codes "*/"))) = let c = s.count in let len = length-append s.body (codes "*/") in omega arith in
    record {
      lexeme = Block_comment s.body;
      rest = s.rest;
      whole = e ∙ ap (λ t. codes "/*" ++ t) s.whole;
      stands = (may s.body (codes "*/" ++ s.rest) (s.whole ∙ append_assoc s.body (codes "*/") s.rest), s.unclosed);
      same = sym found ∙ ap gap size;
    }

either_opens : (a b : Bool) → a ≡ false → b ≡ false → (a || b) ≡ false
either_opens true b h k = absurd cc
either_opens false b h k = k

-- a front of what does not begin with `@` does not either
front_at : (body rest : List ℕ) → starts_with nat_eq (body ++ rest) (codes "@") ≡ false → starts_with nat_eq body (codes "@") ≡ false
front_at [] rest h = refl
front_at (x ∷ xs) rest h = h

-- what follows a comment's two bytes does not begin with `@` where the text is no mark
behind_line : (text tail : List ℕ) → text ≡ codes "//" ++ tail → starts_with nat_eq text (codes "//@") ≡ false → starts_with nat_eq tail (codes "@") ≡ false
behind_line text tail e h = rw e at h

behind_block : (text tail : List ℕ) → text ≡ codes "/*" ++ tail → starts_with nat_eq text (codes "/*@") ≡ false → starts_with nat_eq tail (codes "@") ≡ false
behind_block text tail e h = rw e at h

record MayComment (w : Setting) : Type 0 where
  line : (body : List ℕ) → starts_with nat_eq body (codes "@") ≡ false → LineBody w body
  block : (body : List ℕ) → starts_with nat_eq body (codes "@") ≡ false → BlockBody w body

plain_by : (w : Setting) (may : MayComment w) (text : List ℕ) (piece : Piece) (line block : Bool) → starts_with nat_eq text (codes "//") ≡ line → starts_with nat_eq text (codes "/*") ≡ block
    → starts_with nat_eq text (codes "//@") ≡ false → starts_with nat_eq text (codes "/*@") ≡ false
    → (if line then Some (gap (run_len classes.Line text)) else (if block then block_comment text else solid_piece (is_ghost_in w) text)) ≡ Some piece → IsFound w text piece
plain_by w may text piece true block h k m n e =
    let front : text ≡ codes "//" ++ drop 2 text = front_of text (codes "//") h in
    let clear = behind_line text (drop 2 text) front m in
    line_found w text (drop 2 text) piece front (λ body rest whole. may.line body (front_at body rest (rw whole at clear))) cc
plain_by w may text piece false true h k m n e =
    let front : text ≡ codes "/*" ++ drop 2 text = front_of text (codes "/*") k in
    let clear = behind_block text (drop 2 text) front n in
    block_at w text (drop 2 text) (ended_from 2 (drop 2 text)) piece front refl (λ body rest whole. may.block body (front_at body rest (rw whole at clear))) e
plain_by w may text piece false false h k m n e = solid_found w text piece (either_opens _ _ h k) e

plain_found : (w : Setting) (may : MayComment w) (text : List ℕ) (piece : Piece) → starts_with nat_eq text (codes "//@") ≡ false → starts_with nat_eq text (codes "/*@") ≡ false → plain_piece (is_ghost_in w) text ≡ Some piece → IsFound w text piece
unfolding plain_piece
plain_found w may text piece m n e = plain_by w may text piece (starts_with nat_eq text (codes "//")) (starts_with nat_eq text (codes "/*")) refl refl m n e

-- ---- annotations

line_opened : (text tail : List ℕ) (piece : Piece) → text ≡ codes "//@" ++ tail → opening (run_len classes.Line tail) 0 ≡ piece → IsOpened text piece
line_opened text tail piece e f =
    let s = line_split tail in
    let size : run_len classes.Line tail ≡ length s.body = ap (run_len classes.Line) s.whole ∙ line_len s.body s.rest s.line s.ends in
    record {
      form = Line_form;
      body = s.body;
      rest = s.rest;
      whole = e ∙ ap (λ t. codes "//@" ++ t) s.whole;
      opens = (s.line, s.ends);
      same = sym f ∙ ap (λ n. opening n 0) size;
    }

closed_at : (text tail : List ℕ) (n : ℕ) (piece : Piece) (s : ClosedSplit 0 tail n) → text ≡ codes "/*@" ++ tail → 3 ≤ n → starts_with nat_eq (drop (n - 3) tail) (codes "@") ≡ true → opening (n - 3) 3 ≡ piece → IsOpened text piece
closed_at text tail n piece s e l at f =
    let count = s.count in
    let one : suc (n - 3) ≡ length s.body = omega arith in
    let parts : tail ≡ s.body ++ (codes "*/" ++ s.rest) = s.whole ∙ append_assoc s.body (codes "*/") s.rest in
    let last = at_last (n - 3) s.body (codes "*/" ++ s.rest) one (subst (λ t. starts_with nat_eq (drop (n - 3) t) (codes "@") ≡ true) parts at) in
    let size : n - 3 ≡ length last.0 = let len = length-append last.0 (codes "@") in let same = ap length last.1 in omega arith in
    record {
      form = Block_form;
      body = last.0;
      rest = s.rest;
      whole = e ∙ ap (λ t. codes "/*@" ++ t) (parts ∙ ap (λ t. t ++ (codes "*/" ++ s.rest)) last.1 ∙ append_assoc last.0 (codes "@") (codes "*/" ++ s.rest));
      opens = unclosed_front last.0 (codes "@") (rw last.1 at s.unclosed);
      same = sym f ∙ ap (λ m. opening m 3) size;
    }

closed_by : (text tail : List ℕ) (n : ℕ) (piece : Piece) (s : ClosedSplit 0 tail n) (long at : Bool) → text ≡ codes "/*@" ++ tail → nat_le 3 n ≡ long → starts_with nat_eq (drop (n - 3) tail) (codes "@") ≡ at
    → (if long then (if at then Some (opening (n - 3) 3) else None) else None) ≡ Some piece → IsOpened text piece
closed_by text tail n piece s false at e l h f = absurd cc
closed_by text tail n piece s true false e l h f = absurd cc
closed_by text tail n piece s true true e l h f = closed_at text tail n piece s e (leb-true 3 n l) h cc

block_opened : (text tail : List ℕ) (o : Option ℕ) (piece : Piece) → text ≡ codes "/*@" ++ tail → ended_from 0 tail ≡ o → (o >>= λ n. closed_block tail n) ≡ Some piece → IsOpened text piece
block_opened text tail None piece e f g = absurd cc
block_opened text tail (Some n) piece e f g = closed_by text tail n piece (closed_split 0 tail n f) (nat_le 3 n) (starts_with nat_eq (drop (n - 3) tail) (codes "@")) e refl refl g

may_real : MayComment Real
may_real = record { line = λ body h. h; block = λ body h. h }

may_header : MayComment Header
may_header = record { line = λ body h. h; block = λ body h. h }

outer_by : (text : List ℕ) (piece : Piece) (line block : Bool) → starts_with nat_eq text (codes "//@") ≡ line → starts_with nat_eq text (codes "/*@") ≡ block
    → (if line then Some (opening (run_len classes.Line (drop 3 text)) 0) else (if block then block_opening (drop 3 text) else plain_piece false text)) ≡ Some piece → IsFound Real text piece ⊎ IsOpened text piece
outer_by text piece true block h k e = inr (line_opened text (drop 3 text) piece (front_of text (codes "//@") h) cc)
outer_by text piece false true h k e = inr (block_opened text (drop 3 text) (ended_from 0 (drop 3 text)) piece (front_of text (codes "/*@") k) refl e)
outer_by text piece false false h k e = inl (plain_found Real may_real text piece h k e)

pub outer_found : (text : List ℕ) (piece : Piece) → outer_piece text ≡ Some piece → IsFound Real text piece ⊎ IsOpened text piece
unfolding outer_piece
outer_found text piece e = outer_by text piece (starts_with nat_eq text (codes "//@")) (starts_with nat_eq text (codes "/*@")) refl refl e

inner_by : (text : List ℕ) (piece : Piece) (line block : Bool) → starts_with nat_eq text (codes "//") ≡ line → starts_with nat_eq text (codes "/*") ≡ block
    → (if line then Some (gap (run_len classes.Line text)) else (if block then None else solid_piece true text)) ≡ Some piece → IsFound Inside text piece
inner_by text piece true block h k e = line_found Inside text (drop 2 text) piece (front_of text (codes "//") h) (λ body rest whole. tt) cc
inner_by text piece false true h k e = absurd cc
inner_by text piece false false h k e = solid_found Inside text piece (either_opens _ _ h k) e

pub inner_found : (text : List ℕ) (piece : Piece) → inner_piece text ≡ Some piece → IsFound Inside text piece
unfolding inner_piece
inner_found text piece e = inner_by text piece (starts_with nat_eq text (codes "//")) (starts_with nat_eq text (codes "/*")) refl refl e

mark_found : (text mark : List ℕ) (piece : Piece) → starts_with nat_eq text mark ≡ true → IsMark Header mark → gap (length mark) ≡ piece → IsFound Header text piece
mark_found text mark piece h m e = record { lexeme = Mark mark; rest = drop (length mark) text; whole = front_of text mark h; stands = m; same = sym e }

header_by : (text : List ℕ) (piece : Piece) (mark : Bool) → begins_with_mark text ≡ mark → (if mark then Some (gap 3) else plain_piece true text) ≡ Some piece → IsFound Header text piece
header_by text piece true h e =
    let found : gap 3 ≡ piece = cc in
    or_case (starts_with nat_eq text (codes "//@") || starts_with nat_eq text (codes "/*@")) (starts_with nat_eq text (codes "@*/")) h
    (λ f. or_case (starts_with nat_eq text (codes "//@")) (starts_with nat_eq text (codes "/*@")) f
    (λ g. mark_found text (codes "//@") piece g (inl refl) found)
    (λ g. mark_found text (codes "/*@") piece g (inr (inl refl)) found))
    (λ g. mark_found text (codes "@*/") piece g (inr (inr refl)) found)
header_by text piece false h e =
    let openings = or_left_no (starts_with nat_eq text (codes "//@") || starts_with nat_eq text (codes "/*@")) (starts_with nat_eq text (codes "@*/")) h in
    plain_found Header may_header text piece (or_left_no (starts_with nat_eq text (codes "//@")) (starts_with nat_eq text (codes "/*@")) openings) (or_right_no (starts_with nat_eq text (codes "//@")) (starts_with nat_eq text (codes "/*@")) openings) e

pub header_found : (text : List ℕ) (piece : Piece) → header_piece text ≡ Some piece → IsFound Header text piece
unfolding header_piece
header_found text piece e = header_by text piece (begins_with_mark text) refl e
