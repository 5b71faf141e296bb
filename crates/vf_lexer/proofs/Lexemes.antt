-- The piece that the code finds in front of a text is the lexical element, or the annotation, that may stand there.
use Rattle.std.proofs.Common.{◌≡◌, inl, inr, ℕ, ◌+◌, ◌-◌, Bool, true, false, List, [], ◌∷◌, ◌++◌, length, Option, Some, None, refl, sym, ap, subst, ◌∙◌, arith, append_assoc}
use Rattle.std.specs.Prelude.{nat_eq, nat_le, ◌&&◌, ◌||◌, codes, if◌then◌else◌}
use Rattle.std.specs.List.{starts_with}
use Rattle.std.proofs.lemmas.Bool.{eqb-true}
use Rattle.std.proofs.lemmas.List.{length-append}
use Rattle.std.proofs.Math.Seq.{drop-append_seam}
use Rattle.vf_lexer.specs.declared.class.Class.TheVariants as classes
use Rattle.vf_lexer.specs.declared.token.Kind.{Kind}
use Rattle.vf_lexer.specs.declared.piece.Piece.{Piece}
use Rattle.vf_lexer.specs.Bytes.{is_blank}
use Rattle.vf_lexer.specs.Numbers.{◌>>=◌}
use Rattle.vf_lexer.specs.Punctuators.{punctuator_of}
use Rattle.vf_lexer.specs.Pieces.{run_len, token_front, gap, token, opening, solid_piece, ended_from, plain_piece, block_opening, outer_piece, inner_piece, header_piece}
use Rattle.vf_lexer.specs.Cuts.{Setting, Real, Inside, Header, is_ghost_in, Lexeme, Blank, Line_comment, Block_comment, Mark, Token_is, bytes_of, Form, Line_form, Block_form, opening_mark, closing_mark, AtLineEnd, InLine, Unclosed, LineBody, BlockBody, IsMark, opens_comment, Stands, Opens}
use Rattle.vf_lexer.proofs.Sizes.{or_left_no, or_right_no, or_case}
use Rattle.vf_lexer.proofs.Bodies.{line_len, unclosed_at, ended_is}

-- the piece that the code finds in a setting
abbrev pub piece_in : Setting → List ℕ → Option Piece
piece_in Real text = outer_piece text
piece_in Inside text = inner_piece text
piece_in Header text = header_piece text

-- a lexical element as a piece
abbrev pub as_piece : Lexeme → Piece
as_piece (Blank b) = gap 1
as_piece (Line_comment body) = gap (length (bytes_of (Line_comment body)))
as_piece (Block_comment body) = gap (length (bytes_of (Block_comment body)))
as_piece (Mark mark) = gap (length mark)
as_piece (Token_is kind bytes) = token (kind, length bytes)

-- ---- what may stand is found

blank_by : (P : ℕ → Type 0) (b c : ℕ) (rest : Bool) → (nat_eq b c || rest) ≡ true → P c → (rest ≡ true → P b) → P b
blank_by P b c rest h at other = or_case (nat_eq b c) rest h (λ e. subst P (sym (eqb-true b c e)) at) other

blank_is : (P : ℕ → Type 0) (b : ℕ) → is_blank b ≡ true → P 9 → P 10 → P 12 → P 13 → P 32 → P b
blank_is P b h p9 p10 p12 p13 p32 =
    or_case (nat_eq b 9 || nat_eq b 10 || nat_eq b 12 || nat_eq b 13) (nat_eq b 32) h
    (λ h4. or_case (nat_eq b 9 || nat_eq b 10 || nat_eq b 12) (nat_eq b 13) h4
    (λ h3. or_case (nat_eq b 9 || nat_eq b 10) (nat_eq b 12) h3
    (λ h2. or_case (nat_eq b 9) (nat_eq b 10) h2
    (λ e. subst P (sym (eqb-true b 9 e)) p9)
    (λ e. subst P (sym (eqb-true b 10 e)) p10))
    (λ e. subst P (sym (eqb-true b 12 e)) p12))
    (λ e. subst P (sym (eqb-true b 13 e)) p13))
    (λ e. subst P (sym (eqb-true b 32 e)) p32)

blank_piece : (w : Setting) (b : ℕ) (rest : List ℕ) → is_blank b ≡ true → piece_in w (b ∷ rest) ≡ Some (gap 1)
unfolding outer_piece inner_piece header_piece plain_piece solid_piece
blank_piece Real b rest h = blank_is (λ x. outer_piece (x ∷ rest) ≡ Some (gap 1)) b h refl refl refl refl refl
blank_piece Inside b rest h = blank_is (λ x. inner_piece (x ∷ rest) ≡ Some (gap 1)) b h refl refl refl refl refl
blank_piece Header b rest h = blank_is (λ x. header_piece (x ∷ rest) ≡ Some (gap 1)) b h refl refl refl refl refl

-- no token begins with a blank byte, nor with `@`
blank_no_token : (ghost : Bool) (b : ℕ) (rest : List ℕ) → is_blank b ≡ true → token_front ghost (b ∷ rest) ≡ None
unfolding token_front punctuator_of
blank_no_token true b rest h = blank_is (λ x. token_front true (x ∷ rest) ≡ None) b h refl refl refl refl refl
blank_no_token false b rest h = blank_is (λ x. token_front false (x ∷ rest) ≡ None) b h refl refl refl refl refl

at_no_token : (rest : List ℕ) → token_front true (64 ∷ rest) ≡ None
unfolding token_front punctuator_of
at_no_token rest = refl

line_at : (body rest : List ℕ) → starts_with nat_eq body (codes "@") ≡ false → AtLineEnd rest → starts_with nat_eq (body ++ rest) (codes "@") ≡ false
line_at [] [] h e = refl
line_at [] (b ∷ bs) h e = rw e refl
line_at (x ∷ xs) rest h e = h

block_at : (body rest : List ℕ) → starts_with nat_eq body (codes "@") ≡ false → starts_with nat_eq ((body ++ codes "*/") ++ rest) (codes "@") ≡ false
block_at [] rest h = refl
block_at (x ∷ xs) rest h = h

comment_len : (body rest : List ℕ) → InLine body → AtLineEnd rest → run_len classes.Line (codes "//" ++ (body ++ rest)) ≡ length (codes "//" ++ body)
comment_len body rest h e = let len = line_len body rest h e in omega arith

line_piece : (w : Setting) (body rest : List ℕ) → LineBody w body → InLine body → AtLineEnd rest → piece_in w (codes "//" ++ (body ++ rest)) ≡ Some (gap (length (codes "//" ++ body)))
unfolding outer_piece inner_piece header_piece plain_piece
line_piece Real body rest l h e = rw (line_at body rest l e) (ap (λ n. Some (gap n)) (comment_len body rest h e))
line_piece Inside body rest l h e = ap (λ n. Some (gap n)) (comment_len body rest h e)
line_piece Header body rest l h e = rw (line_at body rest l e) (ap (λ n. Some (gap n)) (comment_len body rest h e))

block_size : (body : List ℕ) → 2 + (length body + 2) ≡ length (codes "/*" ++ (body ++ codes "*/"))
block_size body = let len = length-append body (codes "*/") in omega arith

block_found : (body rest : List ℕ) → Unclosed body → (ended_from 2 ((body ++ codes "*/") ++ rest) >>= λ n. Some (gap n)) ≡ Some (gap (length (codes "/*" ++ (body ++ codes "*/"))))
block_found body rest h = rw (ended_is 2 body rest h) (ap (λ n. Some (gap n)) (block_size body))

block_piece : (w : Setting) (body rest : List ℕ) → BlockBody w body → Unclosed body → piece_in w (codes "/*" ++ ((body ++ codes "*/") ++ rest)) ≡ Some (gap (length (codes "/*" ++ (body ++ codes "*/"))))
unfolding outer_piece header_piece plain_piece
block_piece Real body rest l h = rw (block_at body rest l) (block_found body rest h)
block_piece Inside body rest l h = absurd l
block_piece Header body rest l h = rw (block_at body rest l) (block_found body rest h)

mark_piece : (mark rest : List ℕ) → IsMark Header mark → header_piece (mark ++ rest) ≡ Some (gap (length mark))
unfolding header_piece
mark_piece mark rest (inl h) = subst (λ m. header_piece (m ++ rest) ≡ Some (gap (length m))) (sym h) refl
mark_piece mark rest (inr (inl h)) = subst (λ m. header_piece (m ++ rest) ≡ Some (gap (length m))) (sym h) refl
mark_piece mark rest (inr (inr h)) = subst (λ m. header_piece (m ++ rest) ≡ Some (gap (length m))) (sym h) refl

solid_by : (ghost : Bool) (b : ℕ) (bs : List ℕ) (x : Kind × ℕ) (t : Bool) → is_blank b ≡ t → token_front ghost (b ∷ bs) ≡ Some x → (if t then Some (gap 1) else (token_front ghost (b ∷ bs) >>= λ y. Some (token y))) ≡ Some (token x)
solid_by ghost b bs x true h e = let no = blank_no_token ghost b bs h in absurd cc
solid_by ghost b bs x false h e = rw e refl

solid_token : (ghost : Bool) (text : List ℕ) (x : Kind × ℕ) → token_front ghost text ≡ Some x → solid_piece ghost text ≡ Some (token x)
unfolding solid_piece token_front
solid_token ghost [] x e = absurd cc
solid_token ghost (b ∷ bs) x e = solid_by ghost b bs x (is_blank b) refl e

-- a text that begins with more of a needle begins with less of it
no_line : (text : List ℕ) → opens_comment text ≡ false → starts_with nat_eq text (codes "//") ≡ false
no_line text h = or_left_no (starts_with nat_eq text (codes "//")) (starts_with nat_eq text (codes "/*")) h

no_block : (text : List ℕ) → opens_comment text ≡ false → starts_with nat_eq text (codes "/*") ≡ false
no_block text h = or_right_no (starts_with nat_eq text (codes "//")) (starts_with nat_eq text (codes "/*")) h

shorter : (text : List ℕ) (a b c : ℕ) → starts_with nat_eq text (a ∷ b ∷ []) ≡ false → starts_with nat_eq text (a ∷ b ∷ c ∷ []) ≡ false
shorter [] a b c h = refl
shorter (x ∷ []) a b c h = h
shorter (x ∷ y ∷ text) a b c h = pair (nat_eq a x) (nat_eq b y) (starts_with nat_eq text (c ∷ [])) h
  where
    pair : (p q r : Bool) → (p && (q && true)) ≡ false → (p && (q && r)) ≡ false
    pair true true r e = absurd cc
    pair true false r e = refl
    pair false q r e = refl

no_at : (text : List ℕ) (x : Kind × ℕ) → token_front true text ≡ Some x → starts_with nat_eq text (codes "@*/") ≡ false
unfolding token_front
no_at [] x e = absurd cc
no_at (b ∷ bs) x e = at (nat_eq 64 b) refl
  where
    at : (t : Bool) → nat_eq 64 b ≡ t → (nat_eq 64 b && starts_with nat_eq bs (codes "*/")) ≡ false
    at true h = let here : token_front true (64 ∷ bs) ≡ Some x = rw (sym (eqb-true 64 b h)) at e in let none = at_no_token bs in absurd cc
    at false h = rw h refl

token_piece : (w : Setting) (text : List ℕ) (x : Kind × ℕ) → token_front (is_ghost_in w) text ≡ Some x → opens_comment text ≡ false → piece_in w text ≡ Some (token x)
unfolding outer_piece inner_piece header_piece plain_piece
token_piece Real text x e h = rw (shorter text 47 47 64 (no_line text h), shorter text 47 42 64 (no_block text h), no_line text h, no_block text h) (solid_token false text x e)
token_piece Inside text x e h = rw (no_line text h, no_block text h) (solid_token true text x e)
token_piece Header text x e h = rw (shorter text 47 47 64 (no_line text h), shorter text 47 42 64 (no_block text h), no_at text x e, no_line text h, no_block text h) (solid_token true text x e)

pub lexeme_piece : (w : Setting) (l : Lexeme) (rest : List ℕ) → Stands w l rest → piece_in w (bytes_of l ++ rest) ≡ Some (as_piece l)
lexeme_piece w (Blank b) rest h = blank_piece w b rest h
lexeme_piece w (Line_comment body) rest h = line_piece w body rest h.0 h.1 h.2
lexeme_piece w (Block_comment body) rest h = block_piece w body rest h.0 h.1
lexeme_piece Header (Mark mark) rest h = mark_piece mark rest h
lexeme_piece Real (Mark mark) rest h = absurd h
lexeme_piece Inside (Mark mark) rest h = absurd h
lexeme_piece w (Token_is kind bytes) rest h = token_piece w (bytes ++ rest) (kind, length bytes) h.0 h.1

-- ---- an annotation that may stand is found

block_annotation : (body rest : List ℕ) → Unclosed body → block_opening (body ++ (codes "@*/" ++ rest)) ≡ Some (opening (length body) 3)
block_annotation body rest h =
    let at : body ++ (codes "@*/" ++ rest) ≡ ((body ++ codes "@") ++ codes "*/") ++ rest = sym (append_assoc (body ++ codes "@") (codes "*/") rest ∙ append_assoc body (codes "@") (codes "*/" ++ rest)) in
    let size : 0 + (length (body ++ codes "@") + 2) ≡ length body + 3 = let len = length-append body (codes "@") in omega arith in
    let ends : ended_from 0 (body ++ (codes "@*/" ++ rest)) ≡ Some (length body + 3) = ap (ended_from 0) at ∙ ended_is 0 (body ++ codes "@") rest (unclosed_at body h) ∙ ap Some size in
    let less : nat_le 3 (length body + 3) ≡ true = le3 (length body) in
    let back : (length body + 3) - 3 ≡ length body = omega arith in
    rw (ends, less, back, drop-append_seam body (codes "@*/" ++ rest)) refl
  where
    le3 : (n : ℕ) → nat_le 3 (n + 3) ≡ true
    le3 n = grind arith

pub annotation_piece : (form : Form) (body rest : List ℕ) → Opens Real form body rest → outer_piece (opening_mark form ++ (body ++ (closing_mark form ++ rest))) ≡ Some (opening (length body) (length (closing_mark form)))
unfolding outer_piece
annotation_piece Line_form body rest h = ap (λ n. Some (opening n 0)) (line_len body rest h.0 h.1)
annotation_piece Block_form body rest h = block_annotation body rest h
