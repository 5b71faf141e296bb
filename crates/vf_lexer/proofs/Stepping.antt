-- What the code goes over in one step is a lexical element, a mark of an annotation, or nothing where none may stand.
use Rattle.std.proofs.Common.{◌≡◌, ◌⊎◌, inl, inr, ℕ, ◌<◌, Bool, true, false, List, [], ◌∷◌, ◌++◌, length, Option, Some, None, refl, sym, ap, subst, ◌∙◌, arith, append_assoc}
use Rattle.std.specs.Prelude.{Result, Ok, Err}
use Rattle.vf_base.specs.declared.place.Place.{Place}
use Rattle.vf_lexer.specs.declared.token.Token.{Token}
use Rattle.vf_lexer.specs.declared.piece.Piece.{Piece}
use Rattle.vf_lexer.specs.Numbers.{◌>>=◌}
use Rattle.vf_lexer.specs.Pieces.{outside, gap, opening, inner_piece, outer_piece, header_piece}
use Rattle.vf_lexer.specs.Tokens.{Spot, End, Fault, Piece_is, place_after, walk, next_walked, next_piece, next_in, next_at, piece_at, inside_of}
use Rattle.vf_lexer.specs.Cuts.{Setting, Real, Inside, Header, setting_of, Lexeme, bytes_of, Form, opening_mark, closing_mark, Stands, Opens, first_place, token_in, NoLexeme, NoAnnotation}
use Rattle.vf_lexer.proofs.Walks.{CleanBelow, clean_walked, walk_barred, FirstBarred}
use Rattle.vf_lexer.proofs.Lexemes.{piece_in, as_piece, lexeme_piece, annotation_piece}
use Rattle.vf_lexer.proofs.Found.{IsFound, IsOpened, outer_found, inner_found, header_found}
use Rattle.vf_lexer.proofs.Runs.{spot_of, region_of, next_some, size_is, piece_outside, piece_inside, piece_close, step_plain, step_open, step_inside, step_close}

-- ---- what one step tells

end_in : (s : Spot) (text : List ℕ) → next_in s text ≡ End → text ≡ []
end_in s [] e = refl
end_in s (b ∷ bs) e = absurd (not_end (piece_at s) e)
  where
    walked : (piece : Piece) (r : Result Place Place) → next_walked s piece r ≡ End → ⊥
    walked piece (Ok p) f = absurd cc
    walked piece (Err p) f = absurd cc

    not_end : (o : Option Piece) → next_piece s o ≡ End → ⊥
    not_end None f = absurd cc
    not_end (Some piece) f = walked piece (walk s.place piece.size s.text) f

pub end_none : (s : Spot) → next_at s ≡ End → s.text ≡ []
unfolding next_at
end_none s e = end_in s s.text e

-- a step goes over a piece, all of whose bytes may stand
pub record Taken (s : Spot) : Type 0 where
  pub piece : Piece
  pub found : piece_at s ≡ Some piece
  pub clean : CleanBelow piece.size s.text

taken_walked : (s : Spot) (piece : Piece) (r : Result Place Place) (x : Option Token) (t : Spot) → piece_at s ≡ Some piece → walk s.place piece.size s.text ≡ r → next_walked s piece r ≡ Piece_is x t → Taken s
taken_walked s piece (Ok p) x t e w f = record { piece = piece; found = e; clean = clean_walked s.place p piece.size s.text w }
taken_walked s piece (Err p) x t e w f = absurd cc

taken_piece : (s : Spot) (o : Option Piece) (x : Option Token) (t : Spot) → piece_at s ≡ o → next_piece s o ≡ Piece_is x t → Taken s
taken_piece s None x t e f = absurd cc
taken_piece s (Some piece) x t e f = taken_walked s piece (walk s.place piece.size s.text) x t e refl f

taken_in : (s : Spot) (text : List ℕ) (x : Option Token) (t : Spot) → next_in s text ≡ Piece_is x t → Taken s
taken_in s [] x t f = absurd cc
taken_in s (b ∷ bs) x t f = taken_piece s (piece_at s) x t refl f

taken : (s : Spot) (x : Option Token) (t : Spot) → next_at s ≡ Piece_is x t → Taken s
unfolding next_at
taken s x t f = taken_in s s.text x t f

-- a fault is where no piece stands, or where in a piece begins what may stand nowhere
pub data Halts (s : Spot) (p : Place) : Type 0 where
  no_piece : (s.text ≡ [] → ⊥) → piece_at s ≡ None → p ≡ s.place → Halts s p
  in_piece : (piece : Piece) → FirstBarred s.place p piece.size s.text → Halts s p

halts_walked : (s : Spot) (p : Place) (piece : Piece) (r : Result Place Place) → walk s.place piece.size s.text ≡ r → next_walked s piece r ≡ Fault p → Halts s p
halts_walked s p piece (Ok q) w f = absurd cc
halts_walked s p piece (Err q) w f = let same : q ≡ p = cc in in_piece piece (walk_barred s.place p piece.size s.text (w ∙ ap Err same))

halts_piece : (s : Spot) (p : Place) (o : Option Piece) → (s.text ≡ [] → ⊥) → piece_at s ≡ o → next_piece s o ≡ Fault p → Halts s p
halts_piece s p None some e f = let same : s.place ≡ p = cc in no_piece some e (sym same)
halts_piece s p (Some piece) some e f = halts_walked s p piece (walk s.place piece.size s.text) refl f

halts_in : (s : Spot) (p : Place) (text : List ℕ) → s.text ≡ text → next_in s text ≡ Fault p → Halts s p
halts_in s p [] same f = absurd cc
halts_in s p (b ∷ bs) same f = halts_piece s p (piece_at s) (λ e. absurd cc) refl f

pub halts : (s : Spot) (p : Place) → next_at s ≡ Fault p → Halts s p
unfolding next_at
halts s p f = halts_in s p s.text refl f

same_step : (s t u : Spot) (x y : Option Token) → next_at s ≡ Piece_is x t → next_at s ≡ Piece_is y u → (x ≡ y) × (t ≡ u)
same_step s t u x y e f = (cc, cc)

-- ---- steps outside of annotations

pub record PlainStep (h : Bool) (file : ℕ) (before text : List ℕ) (x : Option Token) (t : Spot) : Type 0 where
  pub lexeme : Lexeme
  pub rest : List ℕ
  pub whole : text ≡ bytes_of lexeme ++ rest
  pub stands : Stands (setting_of h) lexeme rest
  pub clean : CleanBelow (length (bytes_of lexeme)) (bytes_of lexeme ++ rest)
  pub token : x ≡ token_in file h before lexeme
  pub spot : t ≡ spot_of h file (before ++ bytes_of lexeme) outside rest

pub record OpenStep (file : ℕ) (before text : List ℕ) (x : Option Token) (t : Spot) : Type 0 where
  pub form : Form
  pub body : List ℕ
  pub rest : List ℕ
  pub whole : text ≡ opening_mark form ++ (body ++ (closing_mark form ++ rest))
  pub opens : Opens Real form body rest
  pub clean : CleanBelow 3 (opening_mark form ++ (body ++ (closing_mark form ++ rest)))
  pub token : x ≡ None
  pub spot : t ≡ spot_of false file (before ++ opening_mark form) (region_of (length body) (length (closing_mark form))) (body ++ (closing_mark form ++ rest))

plain_step : (h : Bool) (file : ℕ) (before text : List ℕ) (x : Option Token) (t : Spot) (piece : Piece) → next_at (spot_of h file before outside text) ≡ Piece_is x t → CleanBelow piece.size text → IsFound (setting_of h) text piece → PlainStep h file before text x t
plain_step h file before text x t piece e clean found =
    let l = found.lexeme in
    let size : piece.size ≡ length (bytes_of l) = ap (λ p. p.size) found.same ∙ size_is l in
    let clear : CleanBelow (length (bytes_of l)) (bytes_of l ++ found.rest) = rw (size, found.whole) at clean in
    let at : next_at (spot_of h file before outside (bytes_of l ++ found.rest)) ≡ Piece_is x t = rw found.whole at e in
    let same = same_step (spot_of h file before outside (bytes_of l ++ found.rest)) t _ x _ at (step_plain h file before l found.rest found.stands clear) in
    record { lexeme = l; rest = found.rest; whole = found.whole; stands = found.stands; clean = clear; token = same.0; spot = same.1 }

open_step : (file : ℕ) (before text : List ℕ) (x : Option Token) (t : Spot) (piece : Piece) → next_at (spot_of false file before outside text) ≡ Piece_is x t → CleanBelow piece.size text → IsOpened text piece → OpenStep file before text x t
open_step file before text x t piece e clean found =
    let size : piece.size ≡ 3 = ap (λ p. p.size) found.same in
    let clear : CleanBelow 3 (opening_mark found.form ++ (found.body ++ (closing_mark found.form ++ found.rest))) = rw (size, found.whole) at clean in
    let at : next_at (spot_of false file before outside (opening_mark found.form ++ (found.body ++ (closing_mark found.form ++ found.rest)))) ≡ Piece_is x t = rw found.whole at e in
    let same = same_step (spot_of false file before outside (opening_mark found.form ++ (found.body ++ (closing_mark found.form ++ found.rest)))) t _ x _ at (step_open file before found.form found.body found.rest found.opens clear) in
    record { form = found.form; body = found.body; rest = found.rest; whole = found.whole; opens = found.opens; clean = clear; token = same.0; spot = same.1 }

pub real_step : (file : ℕ) (before text : List ℕ) (x : Option Token) (t : Spot) → next_at (spot_of false file before outside text) ≡ Piece_is x t → PlainStep false file before text x t ⊎ OpenStep file before text x t
real_step file before text x t e = choose (outer_found text gone.piece (sym (piece_outside false file before text) ∙ gone.found))
  where
    gone : Taken (spot_of false file before outside text)
    gone = taken (spot_of false file before outside text) x t e

    choose : IsFound Real text gone.piece ⊎ IsOpened text gone.piece → PlainStep false file before text x t ⊎ OpenStep file before text x t
    choose (inl f) = inl (plain_step false file before text x t gone.piece e gone.clean f)
    choose (inr f) = inr (open_step file before text x t gone.piece e gone.clean f)

pub header_step : (file : ℕ) (before text : List ℕ) (x : Option Token) (t : Spot) → next_at (spot_of true file before outside text) ≡ Piece_is x t → PlainStep true file before text x t
header_step file before text x t e =
    let gone = taken (spot_of true file before outside text) x t e in
    plain_step true file before text x t gone.piece e gone.clean (header_found text gone.piece (sym (piece_outside true file before text) ∙ gone.found))

-- ---- steps inside of annotations

pub record InsideStep (file : ℕ) (before body tail : List ℕ) (closing : ℕ) (x : Option Token) (t : Spot) : Type 0 where
  pub lexeme : Lexeme
  pub rest : List ℕ
  pub whole : body ≡ bytes_of lexeme ++ rest
  pub stands : Stands Inside lexeme rest
  pub clean : CleanBelow (length (bytes_of lexeme)) (bytes_of lexeme ++ (rest ++ tail))
  pub token : x ≡ token_in file true before lexeme
  pub spot : t ≡ spot_of false file (before ++ bytes_of lexeme) (region_of (length rest) closing) (rest ++ tail)

inside_by : (file : ℕ) (before body tail : List ℕ) (closing : ℕ) (x : Option Token) (t : Spot) (piece : Piece) (o : Option Piece) → next_at (spot_of false file before (region_of (length body) closing) (body ++ tail)) ≡ Piece_is x t → CleanBelow piece.size (body ++ tail)
    → inner_piece body ≡ o → (o >>= λ q. Some (inside_of (region_of (length body) closing) q)) ≡ Some piece → InsideStep file before body tail closing x t
inside_by file before body tail closing x t piece None e clean f g = absurd cc
inside_by file before body tail closing x t piece (Some q) e clean f g =
    let found = inner_found body q f in
    let l = found.lexeme in
    let same_piece : inside_of (region_of (length body) closing) q ≡ piece = cc in
    let size : piece.size ≡ length (bytes_of l) = ap (λ p. p.size) (sym same_piece) ∙ ap (λ p. p.size) found.same ∙ size_is l in
    let parts : body ++ tail ≡ bytes_of l ++ (found.rest ++ tail) = ap (λ b. b ++ tail) found.whole ∙ append_assoc (bytes_of l) found.rest tail in
    let clear : CleanBelow (length (bytes_of l)) (bytes_of l ++ (found.rest ++ tail)) = rw (size, parts) at clean in
    let step : next_at (spot_of false file before (region_of (length body) closing) (body ++ tail)) ≡ Piece_is (token_in file true before l) (spot_of false file (before ++ bytes_of l) (region_of (length found.rest) closing) (found.rest ++ tail)) =
    subst (λ b. next_at (spot_of false file before (region_of (length b) closing) (b ++ tail)) ≡ Piece_is (token_in file true before l) (spot_of false file (before ++ bytes_of l) (region_of (length found.rest) closing) (found.rest ++ tail))) (sym found.whole)
    (step_inside file before l found.rest tail closing found.stands clear) in
    let same = same_step (spot_of false file before (region_of (length body) closing) (body ++ tail)) t _ x _ e step in
    record { lexeme = l; rest = found.rest; whole = found.whole; stands = found.stands; clean = clear; token = same.0; spot = same.1 }

pub inside_step : (file : ℕ) (before body tail : List ℕ) (closing : ℕ) (x : Option Token) (t : Spot) → 0 < length body → next_at (spot_of false file before (region_of (length body) closing) (body ++ tail)) ≡ Piece_is x t → InsideStep file before body tail closing x t
inside_step file before body tail closing x t some e =
    let gone = taken (spot_of false file before (region_of (length body) closing) (body ++ tail)) x t e in
    inside_by file before body tail closing x t gone.piece (inner_piece body) e gone.clean refl (sym (piece_inside file before body tail closing some) ∙ gone.found)

pub close_step : (file : ℕ) (before close rest : List ℕ) (x : Option Token) (t : Spot) → 0 < length close → next_at (spot_of false file before (region_of 0 (length close)) (close ++ rest)) ≡ Piece_is x t
    → CleanBelow (length close) (close ++ rest) × (x ≡ None) × (t ≡ spot_of false file (before ++ close) outside rest)
close_step file before close rest x t some e =
    let s = spot_of false file before (region_of 0 (length close)) (close ++ rest) in
    let gone = taken s x t e in
    let same_piece : gap (length close) ≡ gone.piece = let at = sym (piece_close file before (close ++ rest) (length close) some) ∙ gone.found in cc in
    let size : gone.piece.size ≡ length close = ap (λ p. p.size) (sym same_piece) in
    let clear : CleanBelow (length close) (close ++ rest) = rw size at gone.clean in
    let same = same_step s t _ x _ e (step_close file before close rest some clear) in
    (clear, same.0, same.1)

-- ---- nothing may stand where the code finds nothing, and the other way round

none_and_some : {A B : Type 0} (o : Option A) (a : A) → o ≡ None → o ≡ Some a → B
none_and_some o a e f = absurd cc

pub no_lexeme : (w : Setting) (text : List ℕ) → (text ≡ [] → ⊥) → piece_in w text ≡ None → NoLexeme w text
no_lexeme w text some e = record { left = some; none = λ l rest whole stands. none_and_some (piece_in w text) (as_piece l) e (ap (piece_in w) whole ∙ lexeme_piece w l rest stands) }

pub no_annotation : (h : Bool) (text : List ℕ) → piece_in (setting_of h) text ≡ None → NoAnnotation (setting_of h) text
no_annotation true text e = λ form body rest whole opens. opens
no_annotation false text e = λ form body rest whole opens. none_and_some (outer_piece text) (opening (length body) (length (closing_mark form))) e (ap outer_piece whole ∙ annotation_piece form body rest opens)

none_unless : (o : Option Piece) → ((piece : Piece) → o ≡ Some piece → ⊥) → o ≡ None
none_unless None h = refl
none_unless (Some piece) h = absurd (h piece refl)

found_none : (w : Setting) (text : List ℕ) (piece : Piece) → NoLexeme w text → IsFound w text piece → ⊥
found_none w text piece n f = n.none f.lexeme f.rest f.whole f.stands

outer_none : (text : List ℕ) (piece : Piece) → NoLexeme Real text → NoAnnotation Real text → IsFound Real text piece ⊎ IsOpened text piece → ⊥
outer_none text piece n m (inl f) = found_none Real text piece n f
outer_none text piece n m (inr f) = m f.form f.body f.rest f.whole f.opens

some_text : (text : List ℕ) → (text ≡ [] → ⊥) → 0 < length text
some_text [] h = absurd (h refl)
some_text (b ∷ bs) h = omega arith

fault_at : (s : Spot) → (s.text ≡ [] → ⊥) → piece_at s ≡ None → next_at s ≡ Fault s.place
fault_at s some e = next_some s (some_text s.text some) ∙ ap (next_piece s) e

pub fault_outside : (h : Bool) (file : ℕ) (before text : List ℕ) → NoLexeme (setting_of h) text → NoAnnotation (setting_of h) text → next_at (spot_of h file before outside text) ≡ Fault (place_after (first_place file) before)
fault_outside true file before text n m = fault_at (spot_of true file before outside text) n.left (piece_outside true file before text ∙ none_unless (header_piece text) (λ piece e. found_none Header text piece n (header_found text piece e)))
fault_outside false file before text n m = fault_at (spot_of false file before outside text) n.left (piece_outside false file before text ∙ none_unless (outer_piece text) (λ piece e. outer_none text piece n m (outer_found text piece e)))

pub fault_inside : (file : ℕ) (before body tail : List ℕ) (closing : ℕ) → NoLexeme Inside body → next_at (spot_of false file before (region_of (length body) closing) (body ++ tail)) ≡ Fault (place_after (first_place file) before)
fault_inside file before body tail closing n =
    let none : inner_piece body ≡ None = none_unless (inner_piece body) (λ piece e. found_none Inside body piece n (inner_found body piece e)) in
    fault_at (spot_of false file before (region_of (length body) closing) (body ++ tail)) (λ e. n.left (front_none body tail e))
    (piece_inside file before body tail closing (some_text body n.left) ∙ ap (λ o. o >>= λ q. Some (inside_of (region_of (length body) closing) q)) none)
  where
    front_none : (a b : List ℕ) → a ++ b ≡ [] → a ≡ []
    front_none [] b e = refl
    front_none (x ∷ a) b e = absurd cc
