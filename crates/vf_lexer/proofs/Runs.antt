-- What the code goes over from spot to spot, and that it goes over the elements of a text.
use Rattle.std.proofs.Common.{◌≡◌, inl, inr, ℕ, ◌+◌, ◌-◌, ◌<◌, Bool, true, false, List, [], ◌∷◌, ◌++◌, length, take, Option, Some, None, refl, sym, ap, ap₂, subst, ◌∙◌, arith, append_assoc, append-nil}
use Rattle.std.specs.Prelude.{Ok, nat_lt}
use Rattle.std.proofs.lemmas.List.{length-append}
use Rattle.std.proofs.Math.Seq.{drop-append_seam, take-append_seam}
use Rattle.vf_base.specs.declared.place.Place.{Place}
use Rattle.vf_lexer.specs.declared.token.Token.{Token}
use Rattle.vf_lexer.specs.declared.piece.Piece.{Piece}
use Rattle.vf_lexer.specs.declared.piece.Region.{Region}
use Rattle.vf_lexer.specs.Numbers.{◌>>=◌}
use Rattle.vf_lexer.specs.Pieces.{outside, gap, opening, inner_piece, token_front}
use Rattle.vf_lexer.specs.Tokens.{Spot, End, Fault, Piece_is, place_after, walk, is_ghost, token_of, spot_behind, next_walked, next_piece, next_in, next_at, piece_at, inside_of}
use Rattle.vf_lexer.specs.Cuts.{Setting, Real, Inside, Header, is_ghost_in, setting_of, Lexeme, Blank, Line_comment, Block_comment, Mark, Token_is, bytes_of, text_of, Form, Line_form, Block_form, opening_mark, closing_mark, Element, Plain, Annotation, element_bytes, whole_text, Stands, AllStand, Opens, ElementStands, ElementsStand, first_place, token_in, with_first, tokens_in, element_tokens, tokens_of}
use Rattle.vf_lexer.proofs.Sizes.{FrontFits, token_fits}
use Rattle.vf_lexer.proofs.Walks.{CleanBelow, walk_clean, clean_less, clean_rest, place_append}
use Rattle.vf_lexer.proofs.Lexemes.{piece_in, as_piece, lexeme_piece, annotation_piece}

-- from a spot to the end of the text there are these tokens
pub data Gives : Spot → List Token → Type 0 where
  ended : {s : Spot} → next_at s ≡ End → Gives s []
  passed : {s t : Spot} {x : Option Token} {tokens : List Token} → next_at s ≡ Piece_is x t → Gives t tokens → Gives s (with_first x tokens)

-- from a spot on there are pieces up to a place, where none can start or go on
pub data Stops : Spot → Place → Type 0 where
  here : {s : Spot} {p : Place} → next_at s ≡ Fault p → Stops s p
  later : {s t : Spot} {x : Option Token} {p : Place} → next_at s ≡ Piece_is x t → Stops t p → Stops s p

-- from a spot one comes to another over these tokens
pub record Reaches (s : Spot) (tokens : List Token) (t : Spot) : Type 0 where
  pub gives : (more : List Token) → Gives t more → Gives s (tokens ++ more)
  pub stops : (p : Place) → Stops t p → Stops s p

reach_none : (s : Spot) → Reaches s [] s
reach_none s = record { gives = λ more g. g; stops = λ p h. h }

reach_both : (s t u : Spot) (a b : List Token) → Reaches s a t → Reaches t b u → Reaches s (a ++ b) u
reach_both s t u a b g h = record { gives = λ more k. rw (append_assoc a b more) (g.gives (b ++ more) (h.gives more k)); stops = λ p k. g.stops p (h.stops p k) }

pub reach_first : (s t u : Spot) (x : Option Token) (tokens : List Token) → next_at s ≡ Piece_is x t → Reaches t tokens u → Reaches s (with_first x tokens) u
reach_first s t u None tokens e h = record { gives = λ more g. passed {x = None} e (h.gives more g); stops = λ p k. later e (h.stops p k) }
reach_first s t u (Some k) tokens e h = record { gives = λ more g. passed {x = Some k} e (h.gives more g); stops = λ p k. later e (h.stops p k) }

-- ---- spots

-- the spot behind these bytes of a file
abbrev pub spot_of : Bool → ℕ → List ℕ → Region → List ℕ → Spot
spot_of header file before region text = record { header = header; place = place_after (first_place file) before; start = length before; region = region; text = text }

abbrev pub region_of : ℕ → ℕ → Region
region_of inside closing = record { inside = inside; closing = closing }

next_in_some : (s : Spot) (text : List ℕ) → 0 < length text → next_in s text ≡ next_piece s (piece_at s)
next_in_some s [] h = absurd (omega arith)
next_in_some s (b ∷ bs) h = refl

pub next_some : (s : Spot) → 0 < length s.text → next_at s ≡ next_piece s (piece_at s)
unfolding next_at
next_some s h = next_in_some s s.text h

behind_is : (h : Bool) (file : ℕ) (before : List ℕ) (region : Region) (front rest : List ℕ) (piece : Piece) → piece.size ≡ length front
    → spot_behind (spot_of h file before region (front ++ rest)) piece (place_after (place_after (first_place file) before) (take (length front) (front ++ rest))) ≡ spot_of h file (before ++ front) piece.region rest
behind_is h file before region front rest piece e = rw (e, take-append_seam front rest, drop-append_seam front rest, place_append (first_place file) before front, length-append before front) refl

walk_then : (s : Spot) (piece : Piece) (p : Place) → walk s.place piece.size s.text ≡ Ok p → next_piece s (Some piece) ≡ Piece_is (token_of s piece.shape piece.size) (spot_behind s piece p)
walk_then s piece p e = ap (next_walked s piece) e

pub next_is : (h : Bool) (file : ℕ) (before : List ℕ) (region : Region) (front rest : List ℕ) (piece : Piece) → piece_at (spot_of h file before region (front ++ rest)) ≡ Some piece → piece.size ≡ length front → 0 < length front → CleanBelow (length front) (front ++ rest)
    → next_at (spot_of h file before region (front ++ rest)) ≡ Piece_is (token_of (spot_of h file before region (front ++ rest)) piece.shape piece.size) (spot_of h file (before ++ front) piece.region rest)
next_is h file before region front rest piece e size some clean =
    let s = spot_of h file before region (front ++ rest) in
    let long : 0 < length (front ++ rest) = let len = length-append front rest in omega arith in
    let walked : walk (place_after (first_place file) before) piece.size (front ++ rest) ≡ Ok (place_after (place_after (first_place file) before) (take (length front) (front ++ rest))) = rw size (walk_clean (place_after (first_place file) before) (length front) (front ++ rest) clean) in
    next_some s long ∙ ap (next_piece s) e ∙ walk_then s piece _ walked ∙ ap (Piece_is (token_of s piece.shape piece.size)) (behind_is h file before region front rest piece size)

-- ---- lexical elements

pub size_is : (l : Lexeme) → (as_piece l).size ≡ length (bytes_of l)
size_is (Blank b) = refl
size_is (Line_comment body) = refl
size_is (Block_comment body) = refl
size_is (Mark mark) = refl
size_is (Token_is kind bytes) = refl

pub region_is : (l : Lexeme) → (as_piece l).region ≡ outside
region_is (Blank b) = refl
region_is (Line_comment body) = refl
region_is (Block_comment body) = refl
region_is (Mark mark) = refl
region_is (Token_is kind bytes) = refl

token_some : (ghost : Bool) (bytes rest : List ℕ) (kind : _) → token_front ghost (bytes ++ rest) ≡ Some (kind, length bytes) → 0 < length bytes
unfolding FrontFits
token_some ghost bytes rest kind e = let fits = token_fits ghost (bytes ++ rest) in (rw e at fits).0

pub lexeme_some : (w : Setting) (l : Lexeme) (rest : List ℕ) → Stands w l rest → 0 < length (bytes_of l)
lexeme_some w (Blank b) rest h = omega arith
lexeme_some w (Line_comment body) rest h = omega arith
lexeme_some w (Block_comment body) rest h = omega arith
lexeme_some Header (Mark mark) rest (inl h) = rw h (omega arith)
lexeme_some Header (Mark mark) rest (inr (inl h)) = rw h (omega arith)
lexeme_some Header (Mark mark) rest (inr (inr h)) = rw h (omega arith)
lexeme_some Real (Mark mark) rest h = absurd h
lexeme_some Inside (Mark mark) rest h = absurd h
lexeme_some w (Token_is kind bytes) rest h = token_some (is_ghost_in w) bytes rest kind h.0

pub token_is : (h : Bool) (file : ℕ) (before : List ℕ) (region : Region) (l : Lexeme) (rest : List ℕ) (ghost : Bool) → is_ghost (spot_of h file before region (bytes_of l ++ rest)) ≡ ghost
    → token_of (spot_of h file before region (bytes_of l ++ rest)) (as_piece l).shape (as_piece l).size ≡ token_in file ghost before l
token_is h file before region (Blank b) rest ghost e = refl
token_is h file before region (Line_comment body) rest ghost e = refl
token_is h file before region (Block_comment body) rest ghost e = refl
token_is h file before region (Mark mark) rest ghost e = refl
token_is h file before region (Token_is kind bytes) rest ghost e = rw (e, take-append_seam bytes rest) refl

pub piece_outside : (h : Bool) (file : ℕ) (before text : List ℕ) → piece_at (spot_of h file before outside text) ≡ piece_in (setting_of h) text
unfolding piece_at
piece_outside true file before text = refl
piece_outside false file before text = refl

ghost_outside : (h : Bool) (file : ℕ) (before text : List ℕ) → is_ghost (spot_of h file before outside text) ≡ h
ghost_outside true file before text = refl
ghost_outside false file before text = refl

pub step_plain : (h : Bool) (file : ℕ) (before : List ℕ) (l : Lexeme) (rest : List ℕ) → Stands (setting_of h) l rest → CleanBelow (length (bytes_of l)) (bytes_of l ++ rest)
    → next_at (spot_of h file before outside (bytes_of l ++ rest)) ≡ Piece_is (token_in file h before l) (spot_of h file (before ++ bytes_of l) outside rest)
step_plain h file before l rest stands clean =
    next_is h file before outside (bytes_of l) rest (as_piece l) (piece_outside h file before (bytes_of l ++ rest) ∙ lexeme_piece (setting_of h) l rest stands) (size_is l) (lexeme_some (setting_of h) l rest stands) clean
    ∙ ap₂ Piece_is (token_is h file before outside l rest h (ghost_outside h file before (bytes_of l ++ rest))) (ap (λ r. spot_of h file (before ++ bytes_of l) r rest) (region_is l))

pub step_open : (file : ℕ) (before : List ℕ) (form : Form) (body rest : List ℕ) → Opens Real form body rest → CleanBelow 3 (opening_mark form ++ (body ++ (closing_mark form ++ rest)))
    → next_at (spot_of false file before outside (opening_mark form ++ (body ++ (closing_mark form ++ rest)))) ≡ Piece_is None (spot_of false file (before ++ opening_mark form) (region_of (length body) (length (closing_mark form))) (body ++ (closing_mark form ++ rest)))
step_open file before Line_form body rest opens clean =
    next_is false file before outside (opening_mark Line_form) (body ++ (closing_mark Line_form ++ rest)) (opening (length body) (length (closing_mark Line_form))) (piece_outside false file before _ ∙ annotation_piece Line_form body rest opens) refl (omega arith) clean
step_open file before Block_form body rest opens clean =
    next_is false file before outside (opening_mark Block_form) (body ++ (closing_mark Block_form ++ rest)) (opening (length body) (length (closing_mark Block_form))) (piece_outside false file before _ ∙ annotation_piece Block_form body rest opens) refl (omega arith) clean

lt_true : (n : ℕ) → 0 < n → nat_lt 0 n ≡ true
lt_true n h = grind arith

pub piece_inside : (file : ℕ) (before body tail : List ℕ) (closing : ℕ) → 0 < length body → piece_at (spot_of false file before (region_of (length body) closing) (body ++ tail)) ≡ (inner_piece body >>= λ piece. Some (inside_of (region_of (length body) closing) piece))
unfolding piece_at
piece_inside file before body tail closing h = rw (lt_true (length body) h, take-append_seam body tail) refl

ghost_inside : (file : ℕ) (before : List ℕ) (n closing : ℕ) (text : List ℕ) → 0 < n → is_ghost (spot_of false file before (region_of n closing) text) ≡ true
ghost_inside file before n closing text h = lt_true n h

pub step_inside : (file : ℕ) (before : List ℕ) (l : Lexeme) (rest tail : List ℕ) (closing : ℕ) → Stands Inside l rest → CleanBelow (length (bytes_of l)) (bytes_of l ++ (rest ++ tail))
    → next_at (spot_of false file before (region_of (length (bytes_of l ++ rest)) closing) ((bytes_of l ++ rest) ++ tail)) ≡ Piece_is (token_in file true before l) (spot_of false file (before ++ bytes_of l) (region_of (length rest) closing) (rest ++ tail))
step_inside file before l rest tail closing stands clean =
    let region = region_of (length (bytes_of l ++ rest)) closing in
    let some : 0 < length (bytes_of l) = lexeme_some Inside l rest stands in
    let len : length (bytes_of l ++ rest) ≡ length (bytes_of l) + length rest = length-append (bytes_of l) rest in
    let long : 0 < length (bytes_of l ++ rest) = omega arith in
    let parts : (bytes_of l ++ rest) ++ tail ≡ bytes_of l ++ (rest ++ tail) = append_assoc (bytes_of l) rest tail in
    let found : piece_at (spot_of false file before region ((bytes_of l ++ rest) ++ tail)) ≡ Some (inside_of region (as_piece l)) =
    piece_inside file before (bytes_of l ++ rest) tail closing long ∙ ap (λ o. o >>= λ piece. Some (inside_of region piece)) (lexeme_piece Inside l rest stands) in
    let left : length (bytes_of l ++ rest) - (as_piece l).size ≡ length rest = let size = size_is l in omega arith in
    let found_at : piece_at (spot_of false file before region (bytes_of l ++ (rest ++ tail))) ≡ Some (inside_of region (as_piece l)) = subst (λ t. piece_at (spot_of false file before region t) ≡ Some (inside_of region (as_piece l))) parts found in
    ap (λ t. next_at (spot_of false file before region t)) parts
    ∙ next_is false file before region (bytes_of l) (rest ++ tail) (inside_of region (as_piece l)) found_at (size_is l) some clean
    ∙ ap₂ Piece_is (token_is false file before region l (rest ++ tail) true (ghost_inside file before (length (bytes_of l ++ rest)) closing (bytes_of l ++ (rest ++ tail)) long)) (ap (λ n. spot_of false file (before ++ bytes_of l) (region_of n closing) (rest ++ tail)) left)

pub piece_close : (file : ℕ) (before text : List ℕ) (n : ℕ) → 0 < n → piece_at (spot_of false file before (region_of 0 n) text) ≡ Some (gap n)
unfolding piece_at
piece_close file before text n h = rw (lt_true n h) refl

pub step_close : (file : ℕ) (before close rest : List ℕ) → 0 < length close → CleanBelow (length close) (close ++ rest)
    → next_at (spot_of false file before (region_of 0 (length close)) (close ++ rest)) ≡ Piece_is None (spot_of false file (before ++ close) outside rest)
step_close file before close rest some clean = next_is false file before (region_of 0 (length close)) close rest (gap (length close)) (piece_close file before (close ++ rest) (length close) some) refl some clean

-- ---- going over elements

pub clean_both : (a b rest : List ℕ) → CleanBelow (length (a ++ b)) ((a ++ b) ++ rest) → CleanBelow (length a) (a ++ (b ++ rest)) × CleanBelow (length b) (b ++ rest)
clean_both a b rest h =
    let all : CleanBelow (length a + length b) (a ++ (b ++ rest)) = rw (length-append a b, append_assoc a b rest) at h in
    (clean_less (length a + length b) (length a) (a ++ (b ++ rest)) (omega arith) all, clean_rest a (length b) (b ++ rest) all)

pub lexemes_reach : (file : ℕ) (before : List ℕ) (ls : List Lexeme) (rest tail : List ℕ) (closing : ℕ) → AllStand Inside ls rest → CleanBelow (length (text_of ls)) (text_of ls ++ (rest ++ tail))
    → Reaches (spot_of false file before (region_of (length (text_of ls ++ rest)) closing) ((text_of ls ++ rest) ++ tail)) (tokens_in file true before ls) (spot_of false file (before ++ text_of ls) (region_of (length rest) closing) (rest ++ tail))
lexemes_reach file before [] rest tail closing stand clean = rw (append-nil before) (reach_none _)
lexemes_reach file before (l ∷ ls) rest tail closing stand clean =
    let cleans = clean_both (bytes_of l) (text_of ls) (rest ++ tail) clean in
    let parts = append_assoc (bytes_of l) (text_of ls) rest in
    let first : CleanBelow (length (bytes_of l)) (bytes_of l ++ ((text_of ls ++ rest) ++ tail)) = subst (λ t. CleanBelow (length (bytes_of l)) (bytes_of l ++ t)) (sym (append_assoc (text_of ls) rest tail)) cleans.0 in
    let later : Reaches (spot_of false file (before ++ bytes_of l) (region_of (length (text_of ls ++ rest)) closing) ((text_of ls ++ rest) ++ tail)) (tokens_in file true (before ++ bytes_of l) ls) (spot_of false file ((before ++ bytes_of l) ++ text_of ls) (region_of (length rest) closing) (rest ++ tail)) =
    lexemes_reach file (before ++ bytes_of l) ls rest tail closing stand.1 cleans.1 in
    let step = step_inside file before l (text_of ls ++ rest) tail closing stand.0 first in
    let all = reach_first _ _ _ (token_in file true before l) (tokens_in file true (before ++ bytes_of l) ls) step later in
    rw (parts, sym (append_assoc before (bytes_of l) (text_of ls))) all

close_reach : (file : ℕ) (before close rest : List ℕ) → CleanBelow (length close) (close ++ rest) → Reaches (spot_of false file before (region_of 0 (length close)) (close ++ rest)) [] (spot_of false file (before ++ close) outside rest)
close_reach file before [] rest clean = rw (append-nil before) (reach_none _)
close_reach file before (c ∷ cs) rest clean = reach_first _ _ _ None [] (step_close file before (c ∷ cs) rest (omega arith) clean) (reach_none _)

annotation_reach : (file : ℕ) (before : List ℕ) (form : Form) (ls : List Lexeme) (rest : List ℕ) → Opens Real form (text_of ls) rest → AllStand Inside ls []
    → CleanBelow (length (element_bytes (Annotation form ls))) (element_bytes (Annotation form ls) ++ rest)
    → Reaches (spot_of false file before outside (element_bytes (Annotation form ls) ++ rest)) (tokens_in file true (before ++ opening_mark form) ls) (spot_of false file (before ++ element_bytes (Annotation form ls)) outside rest)
annotation_reach file before form ls rest opens stand clean =
    let o = opening_mark form in
    let c = closing_mark form in
    let body = text_of ls in
    let cleans = clean_both o (body ++ c) rest clean in
    let inner = clean_both body c rest cleans.1 in
    let tail : (body ++ c) ++ rest ≡ body ++ (c ++ rest) = append_assoc body c rest in
    let whole : (o ++ (body ++ c)) ++ rest ≡ o ++ (body ++ (c ++ rest)) = append_assoc o (body ++ c) rest ∙ ap (λ t. o ++ t) tail in
    let three : CleanBelow 3 (o ++ (body ++ (c ++ rest))) = subst (λ t. CleanBelow 3 (o ++ t)) tail (three_of form (body ++ c) rest cleans.0) in
    let open_step = step_open file before form body rest opens three in
    let bare : body ++ [] ≡ body = append-nil body in
    let inside : Reaches (spot_of false file (before ++ o) (region_of (length (body ++ [])) (length c)) ((body ++ []) ++ (c ++ rest))) (tokens_in file true (before ++ o) ls) (spot_of false file ((before ++ o) ++ body) (region_of 0 (length c)) (c ++ rest)) =
    lexemes_reach file (before ++ o) ls [] (c ++ rest) (length c) stand inner.0 in
    let inside_bare : Reaches (spot_of false file (before ++ o) (region_of (length body) (length c)) (body ++ (c ++ rest))) (tokens_in file true (before ++ o) ls) (spot_of false file ((before ++ o) ++ body) (region_of 0 (length c)) (c ++ rest)) =
    subst (λ t. Reaches (spot_of false file (before ++ o) (region_of (length t) (length c)) (t ++ (c ++ rest))) (tokens_in file true (before ++ o) ls) (spot_of false file ((before ++ o) ++ body) (region_of 0 (length c)) (c ++ rest))) bare inside in
    let close : Reaches (spot_of false file ((before ++ o) ++ body) (region_of 0 (length c)) (c ++ rest)) [] (spot_of false file (((before ++ o) ++ body) ++ c) outside rest) = close_reach file ((before ++ o) ++ body) c rest inner.1 in
    let both = reach_both _ _ _ (tokens_in file true (before ++ o) ls) [] inside_bare close in
    let both_bare : Reaches (spot_of false file (before ++ o) (region_of (length body) (length c)) (body ++ (c ++ rest))) (tokens_in file true (before ++ o) ls) (spot_of false file (((before ++ o) ++ body) ++ c) outside rest) = rw (append-nil (tokens_in file true (before ++ o) ls)) at both in
    let front : before ++ (o ++ (body ++ c)) ≡ ((before ++ o) ++ body) ++ c = sym (append_assoc (before ++ o) body c ∙ append_assoc before o (body ++ c)) in
    let all = reach_first _ _ _ None (tokens_in file true (before ++ o) ls) open_step both_bare in
    rw (whole, front) all
  where
    three_of : (form : Form) (x y : List ℕ) → CleanBelow (length (opening_mark form)) (opening_mark form ++ (x ++ y)) → CleanBelow 3 (opening_mark form ++ (x ++ y))
    three_of Line_form x y h = h
    three_of Block_form x y h = h

with_none : (x : Option Token) (more : List Token) → with_first x [] ++ more ≡ with_first x more
with_none None more = refl
with_none (Some k) more = refl

element_reach : (h : Bool) (file : ℕ) (before : List ℕ) (e : Element) (rest : List ℕ) → ElementStands (setting_of h) e rest → CleanBelow (length (element_bytes e)) (element_bytes e ++ rest)
    → Reaches (spot_of h file before outside (element_bytes e ++ rest)) (element_tokens file h before e) (spot_of h file (before ++ element_bytes e) outside rest)
element_reach h file before (Plain l) rest stands clean = reach_first _ _ _ (token_in file h before l) [] (step_plain h file before l rest stands clean) (reach_none _)
element_reach true file before (Annotation form ls) rest stands clean = absurd stands.0
element_reach false file before (Annotation form ls) rest stands clean = annotation_reach file before form ls rest stands.0 stands.1 clean

pub elements_reach : (h : Bool) (file : ℕ) (before : List ℕ) (es : List Element) (rest : List ℕ) → ElementsStand (setting_of h) es rest → CleanBelow (length (whole_text es)) (whole_text es ++ rest)
    → Reaches (spot_of h file before outside (whole_text es ++ rest)) (tokens_of file h before es) (spot_of h file (before ++ whole_text es) outside rest)
elements_reach h file before [] rest stand clean = rw (append-nil before) (reach_none _)
elements_reach h file before (e ∷ es) rest stand clean =
    let cleans = clean_both (element_bytes e) (whole_text es) rest clean in
    let first = element_reach h file before e (whole_text es ++ rest) stand.0 cleans.0 in
    let later : Reaches (spot_of h file (before ++ element_bytes e) outside (whole_text es ++ rest)) (tokens_of file h (before ++ element_bytes e) es) (spot_of h file ((before ++ element_bytes e) ++ whole_text es) outside rest) =
    elements_reach h file (before ++ element_bytes e) es rest stand.1 cleans.1 in
    let all = reach_both _ _ _ (element_tokens file h before e) (tokens_of file h (before ++ element_bytes e) es) first later in
    rw (append_assoc (element_bytes e) (whole_text es) rest, sym (append_assoc before (element_bytes e) (whole_text es))) all
