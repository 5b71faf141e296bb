-- The code's tokens are those of the one way to cut a text, and it stops at the first byte at which nothing can start or go on.
use Rattle.std.proofs.Common.{◌≡◌, ◌⊎◌, inl, inr, ℕ, Bool, true, false, List, [], ◌∷◌, ◌++◌, length, Option, Some, None, refl, sym, ap, ap₂, subst, ◌∙◌, arith, append_assoc, append-nil}
use Rattle.std.proofs.lemmas.List.{length-append}
use Rattle.vf_lexer.specs.declared.token.Token.{Token}
use Rattle.vf_lexer.specs.Pieces.{outside}
use Rattle.vf_lexer.specs.Tokens.{Spot, Piece_is, next_at, beginning}
use Rattle.vf_lexer.specs.Cuts.{Real, Inside, Header, Lexeme, bytes_of, text_of, Form, Line_form, Block_form, opening_mark, closing_mark, Element, Plain, Annotation, element_bytes, whole_text, Stands, AllStand, Opens, ElementsStand, token_in, with_first, tokens_in, tokens_of, HasTokens}
use Rattle.vf_lexer.proofs.Walks.{CleanBelow, clean_append, clean_everywhere, clean_from}
use Rattle.vf_lexer.proofs.Runs.{Gives, ended, passed, spot_of, region_of, lexeme_some, elements_reach}
use Rattle.vf_lexer.proofs.Stepping.{end_none, PlainStep, OpenStep, real_step, header_step, InsideStep, inside_step, close_step}
use Rattle.vf_lexer.proofs.Steps.{at_end}

-- ---- a cut text gives its tokens

pub cut_gives : (h : Bool) (file : ℕ) (bytes : List ℕ) (tokens : List Token) → HasTokens h file bytes tokens → Gives (beginning h file bytes) tokens
cut_gives h file bytes tokens has =
    let es = has.0 in
    let cut = has.1 in
    let bare : bytes ≡ whole_text es ++ [] = cut.whole ∙ sym (append-nil (whole_text es)) in
    let clean : CleanBelow (length (whole_text es)) (whole_text es ++ []) = subst (λ t. CleanBelow (length (whole_text es)) t) bare (clean_from (length (whole_text es)) bytes cut.clean) in
    let reach = elements_reach h file [] es [] cut.stand clean in
    let given : Gives (spot_of h file [] outside (whole_text es ++ [])) (tokens_of file h [] es ++ []) = reach.gives [] (ended (at_end (spot_of h file (whole_text es) outside []) (omega arith))) in
    let plain : Gives (spot_of h file [] outside (whole_text es ++ [])) (tokens_of file h [] es) = subst (λ ts. Gives (spot_of h file [] outside (whole_text es ++ [])) ts) (append-nil (tokens_of file h [] es)) given in
    rw (bare, has.2) plain

-- ---- tokens are given of a text that can be cut

clean_step : (front rest : List ℕ) → CleanBelow (length front) (front ++ rest) → CleanBelow (length rest) rest → CleanBelow (length (front ++ rest)) (front ++ rest)
clean_step front rest h k = rw (length-append front rest) (clean_append front (length rest) rest h k)

-- in a ghost header these elements are the rest of the text
record HeaderCut (file : ℕ) (before text : List ℕ) (tokens : List Token) : Type 0 where
  elements : List Element
  whole : text ≡ whole_text elements
  stand : ElementsStand Header elements []
  clean : CleanBelow (length text) text
  same : tokens ≡ tokens_of file true before elements

first_more : (x : Option Token) (a b : List Token) → with_first x (a ++ b) ≡ with_first x a ++ b
first_more None a b = refl
first_more (Some k) a b = refl

header_next : (file : ℕ) (before text : List ℕ) (x : Option Token) (t : Spot) (tokens : List Token) (s : PlainStep true file before text x t) → HeaderCut file (before ++ bytes_of s.lexeme) s.rest tokens → HeaderCut file before text (with_first x tokens)
header_next file before text x t tokens s more =
    let bare : s.rest ≡ whole_text more.elements ++ [] = more.whole ∙ sym (append-nil (whole_text more.elements)) in
    record {
      elements = Plain s.lexeme ∷ more.elements;
      whole = s.whole ∙ ap (λ r. bytes_of s.lexeme ++ r) more.whole;
      stand = (subst (λ r. Stands Header s.lexeme r) bare s.stands, more.stand);
      clean = rw s.whole (clean_step (bytes_of s.lexeme) s.rest s.clean more.clean);
      same = ap₂ with_first s.token more.same ∙ first_more (token_in file true before s.lexeme) [] (tokens_of file true (before ++ bytes_of s.lexeme) more.elements);
    }

header_cut : (file : ℕ) {s : Spot} {tokens : List Token} → Gives s tokens → (before text : List ℕ) → s ≡ spot_of true file before outside text → HeaderCut file before text tokens
header_cut file (ended {s = s} e) before text same =
    let none : text ≡ [] = ap (λ z. z.text) (sym same) ∙ end_none s e in
    rw none (record { elements = []; whole = refl; stand = tt; clean = tt; same = refl })
header_cut file (passed {s = s} {t = t} {x = x} {tokens = tokens} e g) before text same =
    let step = header_step file before text x t (rw same at e) in
    header_next file before text x t tokens step (header_cut file g (before ++ bytes_of step.lexeme) step.rest step.spot)

-- in the text of an annotation, its closing mark and what follows, these lexical elements are that text, and these elements are what follows
record RealCut (file : ℕ) (before body close after : List ℕ) (tokens : List Token) : Type 0 where
  lexemes : List Lexeme
  elements : List Element
  body_is : body ≡ text_of lexemes
  body_stands : AllStand Inside lexemes []
  after_is : after ≡ whole_text elements
  after_stands : ElementsStand Real elements []
  clean : CleanBelow (length (body ++ (close ++ after))) (body ++ (close ++ after))
  same : tokens ≡ tokens_in file true before lexemes ++ tokens_of file false (before ++ (body ++ close)) elements

pub append_none : (a b : List ℕ) → a ++ b ≡ [] → (a ≡ []) × (b ≡ [])
append_none [] b e = (refl, e)
append_none (x ∷ a) b e = absurd cc

no_first : {B : Type 0} (lexemes : List Lexeme) → [] ≡ text_of lexemes → AllStand Inside lexemes [] → (lexemes ≡ [] → B) → B
no_first [] e h k = k refl
no_first (l ∷ ls) e h k = let some = lexeme_some Inside l (text_of ls ++ []) h.0 in let len = length-append (bytes_of l) (text_of ls) in let zero : 0 ≡ length (bytes_of l ++ text_of ls) = ap length e in absurd (omega arith)

tokens_outside : (file : ℕ) (before : List ℕ) (tokens : List Token) (after : List ℕ) (more : RealCut file before [] [] after tokens) → tokens ≡ tokens_of file false before more.elements
tokens_outside file before tokens after more = no_first more.lexemes more.body_is more.body_stands (λ none. rw (none, append-nil before) at more.same)

inside_next : (file : ℕ) (before body close after : List ℕ) (x : Option Token) (t : Spot) (tokens : List Token) (s : InsideStep file before body (close ++ after) (length close) x t) → RealCut file (before ++ bytes_of s.lexeme) s.rest close after tokens → RealCut file before body close after (with_first x tokens)
inside_next file before body close after x t tokens s more =
    let bare : s.rest ≡ text_of more.lexemes ++ [] = more.body_is ∙ sym (append-nil (text_of more.lexemes)) in
    let front : (before ++ bytes_of s.lexeme) ++ (s.rest ++ close) ≡ before ++ (body ++ close) =
    append_assoc before (bytes_of s.lexeme) (s.rest ++ close) ∙ ap (λ r. before ++ r) (sym (append_assoc (bytes_of s.lexeme) s.rest close) ∙ ap (λ r. r ++ close) (sym s.whole)) in
    record {
      lexemes = s.lexeme ∷ more.lexemes;
      elements = more.elements;
      body_is = s.whole ∙ ap (λ r. bytes_of s.lexeme ++ r) more.body_is;
      body_stands = (subst (λ r. Stands Inside s.lexeme r) bare s.stands, more.body_stands);
      after_is = more.after_is;
      after_stands = more.after_stands;
      clean = rw (s.whole, append_assoc (bytes_of s.lexeme) s.rest (close ++ after)) (clean_step (bytes_of s.lexeme) (s.rest ++ (close ++ after)) s.clean more.clean);
      same = ap₂ with_first s.token more.same ∙ first_more (token_in file true before s.lexeme) (tokens_in file true (before ++ bytes_of s.lexeme) more.lexemes) _
          ∙ ap (λ b. with_first (token_in file true before s.lexeme) (tokens_in file true (before ++ bytes_of s.lexeme) more.lexemes) ++ tokens_of file false b more.elements) front;
    }

close_next : (file : ℕ) (before close after : List ℕ) (x : Option Token) (tokens : List Token) → CleanBelow (length close) (close ++ after) → x ≡ None → RealCut file (before ++ close) [] [] after tokens → RealCut file before [] close after (with_first x tokens)
close_next file before close after x tokens clean none more = record {
  lexemes = [];
  elements = more.elements;
  body_is = refl;
  body_stands = tt;
  after_is = more.after_is;
  after_stands = more.after_stands;
  clean = clean_step close after clean more.clean;
  same = rw none (tokens_outside file (before ++ close) tokens after more);
}

plain_next : (file : ℕ) (before text : List ℕ) (x : Option Token) (t : Spot) (tokens : List Token) (s : PlainStep false file before text x t) → RealCut file (before ++ bytes_of s.lexeme) [] [] s.rest tokens → RealCut file before [] [] text (with_first x tokens)
plain_next file before text x t tokens s more =
    let bare : s.rest ≡ whole_text more.elements ++ [] = more.after_is ∙ sym (append-nil (whole_text more.elements)) in
    record {
      lexemes = [];
      elements = Plain s.lexeme ∷ more.elements;
      body_is = refl;
      body_stands = tt;
      after_is = s.whole ∙ ap (λ r. bytes_of s.lexeme ++ r) more.after_is;
      after_stands = (subst (λ r. Stands Real s.lexeme r) bare s.stands, more.after_stands);
      clean = rw s.whole (clean_step (bytes_of s.lexeme) s.rest s.clean more.clean);
      same = ap₂ with_first s.token (tokens_outside file (before ++ bytes_of s.lexeme) tokens s.rest more) ∙ first_more (token_in file false before s.lexeme) [] _
          ∙ ap (λ b. tokens_of file false b (Plain s.lexeme ∷ more.elements)) (sym (append-nil before));
    }

pub clean_open : (form : Form) (text : List ℕ) → CleanBelow 3 (opening_mark form ++ text) → CleanBelow (length (opening_mark form)) (opening_mark form ++ text)
clean_open Line_form text h = h
clean_open Block_form text h = h

pub annotation_bytes : (form : Form) (ls : List Lexeme) (rest : List ℕ) → opening_mark form ++ (text_of ls ++ (closing_mark form ++ rest)) ≡ element_bytes (Annotation form ls) ++ rest
annotation_bytes form ls rest = ap (λ r. opening_mark form ++ r) (sym (append_assoc (text_of ls) (closing_mark form) rest)) ∙ sym (append_assoc (opening_mark form) (text_of ls ++ closing_mark form) rest)

open_next : (file : ℕ) (before text : List ℕ) (x : Option Token) (t : Spot) (tokens : List Token) (s : OpenStep file before text x t) → RealCut file (before ++ opening_mark s.form) s.body (closing_mark s.form) s.rest tokens → RealCut file before [] [] text (with_first x tokens)
open_next file before text x t tokens s more =
    let bare : s.rest ≡ whole_text more.elements ++ [] = more.after_is ∙ sym (append-nil (whole_text more.elements)) in
    let o = opening_mark s.form in
    let c = closing_mark s.form in
    let front : (before ++ o) ++ (s.body ++ c) ≡ (before ++ []) ++ (o ++ (text_of more.lexemes ++ c)) = append_assoc before o (s.body ++ c) ∙ ap (λ b. before ++ (o ++ (b ++ c))) more.body_is ∙ ap (λ b. b ++ (o ++ (text_of more.lexemes ++ c))) (sym (append-nil before)) in
    record {
      lexemes = [];
      elements = Annotation s.form more.lexemes ∷ more.elements;
      body_is = refl;
      body_stands = tt;
      after_is = s.whole ∙ ap (λ b. o ++ (b ++ (c ++ s.rest))) more.body_is ∙ annotation_bytes s.form more.lexemes s.rest ∙ ap (λ r. element_bytes (Annotation s.form more.lexemes) ++ r) more.after_is;
      after_stands = ((subst (λ r. Opens Real s.form (text_of more.lexemes) r) bare (subst (λ b. Opens Real s.form b s.rest) more.body_is s.opens), more.body_stands), more.after_stands);
      clean = rw s.whole (clean_step o (s.body ++ (c ++ s.rest)) (clean_open s.form (s.body ++ (c ++ s.rest)) s.clean) more.clean);
      same = rw s.token (more.same ∙ ap (λ b. tokens_in file true (before ++ o) more.lexemes ++ tokens_of file false b more.elements) front
          ∙ ap (λ b. tokens_in file true (b ++ o) more.lexemes ++ tokens_of file false ((before ++ []) ++ (o ++ (text_of more.lexemes ++ c))) more.elements) (sym (append-nil before)));
    }

real_next : (file : ℕ) (before body close after : List ℕ) (x : Option Token) (t : Spot) (tokens : List Token) → next_at (spot_of false file before (region_of (length body) (length close)) (body ++ (close ++ after))) ≡ Piece_is x t
    → ((before2 body2 close2 after2 : List ℕ) → t ≡ spot_of false file before2 (region_of (length body2) (length close2)) (body2 ++ (close2 ++ after2)) → RealCut file before2 body2 close2 after2 tokens)
    → RealCut file before body close after (with_first x tokens)
real_next file before (b ∷ bs) close after x t tokens e more =
    let s = inside_step file before (b ∷ bs) (close ++ after) (length close) x t (omega arith) e in
    inside_next file before (b ∷ bs) close after x t tokens s (more (before ++ bytes_of s.lexeme) s.rest close after s.spot)
real_next file before [] (c ∷ cs) after x t tokens e more =
    let s = close_step file before (c ∷ cs) after x t (omega arith) e in
    close_next file before (c ∷ cs) after x tokens s.0 s.1 (more (before ++ (c ∷ cs)) [] [] after s.2)
real_next file before [] [] after x t tokens e more = choose (real_step file before after x t e)
  where
    choose : PlainStep false file before after x t ⊎ OpenStep file before after x t → RealCut file before [] [] after (with_first x tokens)
    choose (inl s) = plain_next file before after x t tokens s (more (before ++ bytes_of s.lexeme) [] [] s.rest s.spot)
    choose (inr s) = open_next file before after x t tokens s (more (before ++ opening_mark s.form) s.body (closing_mark s.form) s.rest s.spot)

real_end : (file : ℕ) (before body close after : List ℕ) → body ++ (close ++ after) ≡ [] → RealCut file before body close after []
real_end file before body close after e =
    let b = append_none body (close ++ after) e in
    let c = append_none close after b.1 in
    rw (b.0, c.0, c.1) (record { lexemes = []; elements = []; body_is = refl; body_stands = tt; after_is = refl; after_stands = tt; clean = tt; same = refl })

real_cut : (file : ℕ) {s : Spot} {tokens : List Token} → Gives s tokens → (before body close after : List ℕ) → s ≡ spot_of false file before (region_of (length body) (length close)) (body ++ (close ++ after)) → RealCut file before body close after tokens
real_cut file (ended {s = s} e) before body close after same = real_end file before body close after (ap (λ z. z.text) (sym same) ∙ end_none s e)
real_cut file (passed {s = s} {t = t} {x = x} {tokens = tokens} e g) before body close after same = real_next file before body close after x t tokens (rw same at e) (λ b2 y2 c2 a2 f. real_cut file g b2 y2 c2 a2 f)

pub gives_cut : (h : Bool) (file : ℕ) (bytes : List ℕ) (tokens : List Token) → Gives (beginning h file bytes) tokens → HasTokens h file bytes tokens
gives_cut true file bytes tokens g =
    let cut = header_cut file g [] bytes refl in
    (cut.elements, record { whole = cut.whole; stand = cut.stand; clean = clean_everywhere bytes cut.clean }, cut.same)
gives_cut false file bytes tokens g =
    let cut = real_cut file g [] [] [] bytes refl in
    (cut.elements, record { whole = cut.after_is; stand = cut.after_stands; clean = clean_everywhere bytes cut.clean }, tokens_outside file [] tokens bytes cut)
