-- The code stops at the first byte at which nothing can start or go on.
use Rattle.std.proofs.Common.{◌≡◌, ◌⊎◌, inl, inr, ℕ, zero, suc, ◌+◌, ◌-◌, ◌<◌, Bool, true, false, List, [], ◌∷◌, ◌++◌, length, take, drop, Option, Some, None, refl, sym, ap, ap₂, subst, ◌∙◌, arith, append_assoc, append-nil}
use Rattle.std.proofs.lemmas.List.{length-append}
use Rattle.std.proofs.Math.Seq.{take-append-add, drop-append-add}
use Rattle.vf_base.specs.declared.place.Place.{Place}
use Rattle.vf_lexer.specs.declared.token.Token.{Token}
use Rattle.vf_lexer.specs.declared.fault.LexFault.{LexFault}
use Rattle.vf_lexer.specs.declared.fault.LexFault.TheVariants as faults
use Rattle.vf_lexer.specs.Bytes.{is_barred}
use Rattle.vf_lexer.specs.Pieces.{outside, inner_piece}
use Rattle.vf_lexer.specs.Numbers.{◌>>=◌}
use Rattle.vf_lexer.specs.Tokens.{Spot, Fault, Piece_is, place_after, next_at, beginning, inside_of, IfLex}
use Rattle.vf_lexer.specs.Cuts.{Real, Inside, setting_of, Lexeme, bytes_of, text_of, Form, Line_form, Block_form, opening_mark, closing_mark, Element, Plain, Annotation, element_bytes, whole_text, Stands, AllStand, Opens, ElementStands, first_place, HasTokens, NoLexeme, StuckOutside, StuckInside, IsFaulty, HasFault}
use Rattle.vf_lexer.proofs.Walks.{CleanBelow, clean_less, clean_at, clean_append, clean_from, place_append, same_place_none}
use Rattle.vf_lexer.proofs.Runs.{Stops, here, later, spot_of, region_of, step_open, clean_both, lexemes_reach, elements_reach, piece_inside, piece_close, piece_outside}
use Rattle.vf_lexer.proofs.Stepping.{Halts, no_piece, in_piece, halts, PlainStep, OpenStep, real_step, header_step, InsideStep, inside_step, close_step, no_lexeme, no_annotation, fault_outside, fault_inside}
use Rattle.vf_lexer.proofs.Laws.{same_place, never_both}
use Rattle.vf_lexer.proofs.Cutting.{cut_gives, append_none, clean_open, annotation_bytes}

-- ---- a byte that is stuck is one at which the code stops

-- the code stops behind these bytes
StopsBehind : Bool → ℕ → List ℕ → ℕ → Type 0
StopsBehind h file bytes n = (front : List ℕ) × (rest : List ℕ) × (bytes ≡ front ++ rest) × (rest ≡ [] → ⊥) × (n ≡ length front) × Stops (spot_of h file [] outside bytes) (place_after (first_place file) front)

stuck_outside : (h : Bool) (file : ℕ) (bytes : List ℕ) (n : ℕ) → CleanBelow n bytes → StuckOutside h bytes n → StopsBehind h file bytes n
unfolding StopsBehind
stuck_outside h file bytes n clean s =
    let front = whole_text s.elements in
    let clear : CleanBelow (length front) (front ++ s.rest) = rw (s.count, s.whole) at clean in
    let reach = elements_reach h file [] s.elements s.rest s.stand clear in
    let stop : Stops (spot_of h file [] outside (front ++ s.rest)) (place_after (first_place file) front) = reach.stops _ (here (fault_outside h file front s.rest s.none s.no_annotation)) in
    (front, s.rest, s.whole, s.none.left, s.count, rw s.whole stop)

three_long : (form : Form) → length (opening_mark form) ≡ 3
three_long Line_form = refl
three_long Block_form = refl

open_clean : (form : Form) (text : List ℕ) → CleanBelow (length (opening_mark form)) (opening_mark form ++ text) → CleanBelow 3 (opening_mark form ++ text)
open_clean Line_form text h = h
open_clean Block_form text h = h

stuck_inside : (h : Bool) (file : ℕ) (bytes : List ℕ) (n : ℕ) → CleanBelow n bytes → StuckInside h bytes n → StopsBehind h file bytes n
unfolding StopsBehind
stuck_inside true file bytes n clean s = absurd s.opens
stuck_inside false file bytes n clean s =
    let w = whole_text s.elements in
    let o = opening_mark s.form in
    let t = text_of s.lexemes in
    let c = closing_mark s.form in
    let tail = c ++ s.after in
    let inner : (t ++ s.rest) ++ tail ≡ t ++ (s.rest ++ tail) = append_assoc t s.rest tail in
    let parts : bytes ≡ w ++ (o ++ (t ++ (s.rest ++ tail))) = s.whole ∙ ap (λ x. w ++ (o ++ x)) inner in
    let whole : bytes ≡ (w ++ (o ++ t)) ++ (s.rest ++ tail) = parts ∙ sym (append_assoc w (o ++ t) (s.rest ++ tail) ∙ ap (λ x. w ++ x) (append_assoc o t (s.rest ++ tail))) in
    let count : n ≡ length (w ++ (o ++ t)) = let a = length-append w (o ++ t) in let b = length-append o t in let d = three_long s.form in let e = s.count in omega arith in
    let all : CleanBelow (length (w ++ (o ++ t))) ((w ++ (o ++ t)) ++ (s.rest ++ tail)) = rw (count, whole) at clean in
    let outer = clean_both w (o ++ t) (s.rest ++ tail) all in
    let both = clean_both o t (s.rest ++ tail) outer.1 in
    let first : CleanBelow (length w) (w ++ (o ++ ((t ++ s.rest) ++ tail))) = subst (λ x. CleanBelow (length w) (w ++ x)) (append_assoc o t (s.rest ++ tail) ∙ ap (λ x. o ++ x) (sym inner)) outer.0 in
    let second : CleanBelow 3 (o ++ ((t ++ s.rest) ++ tail)) = open_clean s.form ((t ++ s.rest) ++ tail) (subst (λ x. CleanBelow (length o) (o ++ x)) (sym inner) both.0) in
    let place = place_after (first_place file) ((w ++ o) ++ t) in
    let stop : Stops (spot_of false file ((w ++ o) ++ t) (region_of (length s.rest) (length c)) (s.rest ++ tail)) place = here (fault_inside file ((w ++ o) ++ t) s.rest tail (length c) s.none) in
    let in_annotation = lexemes_reach file (w ++ o) s.lexemes s.rest tail (length c) s.stand both.1 in
    let opened = later (step_open file w s.form (t ++ s.rest) s.after s.opens second) (in_annotation.stops place stop) in
    let reach = elements_reach false file [] s.elements (o ++ ((t ++ s.rest) ++ tail)) s.before first in
    let stops : Stops (spot_of false file [] outside (w ++ (o ++ ((t ++ s.rest) ++ tail)))) place = reach.stops place opened in
    let last : Stops (spot_of false file [] outside bytes) (place_after (first_place file) (w ++ (o ++ t))) = rw (s.whole, sym (append_assoc w o t)) stops in
    (w ++ (o ++ t), s.rest ++ tail, whole, (λ e. s.none.left (append_none s.rest tail e).0), count, last)

some_taken : (d : ℕ) (rest : List ℕ) → take (suc d) rest ≡ [] → rest ≡ []
some_taken d [] e = refl
some_taken d (b ∷ bs) e = absurd cc

not_before : (h : Bool) (file : ℕ) (bytes : List ℕ) (n k : ℕ) → k < n → Stops (spot_of h file [] outside bytes) (place_after (first_place file) (take n bytes)) → StopsBehind h file bytes k → ⊥
unfolding StopsBehind
not_before h file bytes n k less stops b =
    let front = b.0 in
    let rest = b.1 in
    let split : n ≡ length front + suc (n - suc k) = let c = b.4 in omega arith in
    let taken : take n bytes ≡ front ++ take (suc (n - suc k)) rest = ap₂ take split b.2 ∙ take-append-add front rest (suc (n - suc k)) in
    let same : place_after (first_place file) (take n bytes) ≡ place_after (first_place file) front = same_place stops b.5 in
    let back : place_after (place_after (first_place file) front) (take (suc (n - suc k)) rest) ≡ place_after (first_place file) front = place_append (first_place file) front (take (suc (n - suc k)) rest) ∙ ap (place_after (first_place file)) (sym taken) ∙ same in
    b.3 (some_taken (n - suc k) rest (same_place_none (place_after (first_place file) front) (take (suc (n - suc k)) rest) back))

true_and_false : {B : Type 0} (b : Bool) → b ≡ true → b ≡ false → B
true_and_false b e f = absurd cc

-- no byte before the one at which the code stops is faulty
none_before : (h : Bool) (file : ℕ) (bytes : List ℕ) (n : ℕ) → CleanBelow n bytes → Stops (spot_of h file [] outside bytes) (place_after (first_place file) (take n bytes)) → (k : ℕ) → k < n → IsFaulty h bytes k → ⊥
none_before h file bytes n clean stops k less (inl s) = not_before h file bytes n k less stops (stuck_outside h file bytes k (clean_less n k bytes (omega arith) clean) s)
none_before h file bytes n clean stops k less (inr (inl s)) = not_before h file bytes n k less stops (stuck_inside h file bytes k (clean_less n k bytes (omega arith) clean) s)
none_before h file bytes n clean stops k less (inr (inr e)) = true_and_false (is_barred (drop k bytes)) e (clean_at n k bytes less clean)

-- ---- where the code stops a byte is faulty

more_outside : (h : Bool) (e : Element) (rest : List ℕ) (n : ℕ) → ElementStands (setting_of h) e rest → StuckOutside h rest n → StuckOutside h (element_bytes e ++ rest) (length (element_bytes e) + n)
more_outside h e rest n stands s = record {
  elements = e ∷ s.elements;
  rest = s.rest;
  whole = ap (λ r. element_bytes e ++ r) s.whole ∙ sym (append_assoc (element_bytes e) (whole_text s.elements) s.rest);
  stand = (subst (λ r. ElementStands (setting_of h) e r) s.whole stands, s.stand);
  none = s.none;
  no_annotation = s.no_annotation;
  count = let c = s.count in let len = length-append (element_bytes e) (whole_text s.elements) in omega arith;
}

more_inside : (h : Bool) (e : Element) (rest : List ℕ) (n : ℕ) → ElementStands (setting_of h) e rest → StuckInside h rest n → StuckInside h (element_bytes e ++ rest) (length (element_bytes e) + n)
more_inside h e rest n stands s =
    let tail = opening_mark s.form ++ ((text_of s.lexemes ++ s.rest) ++ (closing_mark s.form ++ s.after)) in
    record {
      elements = e ∷ s.elements;
      form = s.form;
      lexemes = s.lexemes;
      rest = s.rest;
      after = s.after;
      whole = ap (λ r. element_bytes e ++ r) s.whole ∙ sym (append_assoc (element_bytes e) (whole_text s.elements) tail);
      before = (subst (λ r. ElementStands (setting_of h) e r) s.whole stands, s.before);
      opens = s.opens;
      stand = s.stand;
      none = s.none;
      count = let c = s.count in let len = length-append (element_bytes e) (whole_text s.elements) in omega arith;
    }

more_barred : (front rest : List ℕ) (n : ℕ) → is_barred (drop n rest) ≡ true → is_barred (drop (length front + n) (front ++ rest)) ≡ true
more_barred front rest n h = rw (drop-append-add front rest n) h

more_faulty : (h : Bool) (e : Element) (rest : List ℕ) (n : ℕ) → ElementStands (setting_of h) e rest → IsFaulty h rest n → IsFaulty h (element_bytes e ++ rest) (length (element_bytes e) + n)
more_faulty h e rest n stands (inl s) = inl (more_outside h e rest n stands s)
more_faulty h e rest n stands (inr (inl s)) = inr (inl (more_inside h e rest n stands s))
more_faulty h e rest n stands (inr (inr b)) = inr (inr (more_barred (element_bytes e) rest n b))

more_place : (file : ℕ) (before front rest : List ℕ) (n : ℕ) (p : Place) → p ≡ place_after (first_place file) ((before ++ front) ++ take n rest) → p ≡ place_after (first_place file) (before ++ take (length front + n) (front ++ rest))
more_place file before front rest n p e = e ∙ ap (place_after (first_place file)) (append_assoc before front (take n rest) ∙ ap (λ r. before ++ r) (sym (take-append-add front rest n)))

-- a text outside of annotations is faulty behind some bytes, at this place
record FaultIn (h : Bool) (file : ℕ) (before text : List ℕ) (p : Place) : Type 0 where
  count : ℕ
  clean : CleanBelow count text
  place : p ≡ place_after (first_place file) (before ++ take count text)
  faulty : IsFaulty h text count

more_fault : (h : Bool) (file : ℕ) (before : List ℕ) (e : Element) (rest : List ℕ) (p : Place) → ElementStands (setting_of h) e rest → CleanBelow (length (element_bytes e)) (element_bytes e ++ rest) → FaultIn h file (before ++ element_bytes e) rest p → FaultIn h file before (element_bytes e ++ rest) p
more_fault h file before e rest p stands clean f = record {
  count = length (element_bytes e) + f.count;
  clean = clean_append (element_bytes e) f.count rest clean f.clean;
  place = more_place file before (element_bytes e) rest f.count p f.place;
  faulty = more_faulty h e rest f.count stands f.faulty;
}

barred_place : (file : ℕ) (before text : List ℕ) (n : ℕ) (p : Place) → p ≡ place_after (place_after (first_place file) before) (take n text) → p ≡ place_after (first_place file) (before ++ take n text)
barred_place file before text n p e = e ∙ place_append (first_place file) before (take n text)

fault_here : (h : Bool) (file : ℕ) (before text : List ℕ) (p : Place) → Halts (spot_of h file before outside text) p → FaultIn h file before text p
fault_here h file before text p (no_piece some e f) =
    let none = sym (piece_outside h file before text) ∙ e in
    record {
      count = 0;
      clean = tt;
      place = f ∙ ap (place_after (first_place file)) (sym (append-nil before));
      faulty = inl (record { elements = []; rest = text; whole = refl; stand = tt; none = no_lexeme (setting_of h) text some none; no_annotation = no_annotation h text none; count = refl });
    }
fault_here h file before text p (in_piece piece b) = record { count = b.count; clean = b.clean; place = barred_place file before text b.count p b.place; faulty = inr (inr b.barred) }

header_more : (file : ℕ) (before text : List ℕ) (p : Place) (x : Option Token) (t : Spot) (s : PlainStep true file before text x t) → FaultIn true file (before ++ bytes_of s.lexeme) s.rest p → FaultIn true file before text p
header_more file before text p x t s f = rw s.whole (more_fault true file before (Plain s.lexeme) s.rest p s.stands s.clean f)

header_fault : (file : ℕ) {s : Spot} {p : Place} → Stops s p → (before text : List ℕ) → s ≡ spot_of true file before outside text → FaultIn true file before text p
header_fault file (here {s = s} {p = p} e) before text same = fault_here true file before text p (halts (spot_of true file before outside text) p (rw same at e))
header_fault file (later {s = s} {t = t} {x = x} {p = p} e g) before text same =
    let step = header_step file before text x t (rw same at e) in
    header_more file before text p x t step (header_fault file g (before ++ bytes_of step.lexeme) step.rest step.spot)

-- behind some lexical elements of an annotation none may stand
record StuckBody (body : List ℕ) (n : ℕ) : Type 0 where
  lexemes : List Lexeme
  rest : List ℕ
  whole : body ≡ text_of lexemes ++ rest
  stand : AllStand Inside lexemes rest
  none : NoLexeme Inside rest
  count : n ≡ length (text_of lexemes)

-- the text of an annotation is cut, and what follows it is faulty
record StuckBehind (body close after : List ℕ) (n : ℕ) : Type 0 where
  lexemes : List Lexeme
  more : ℕ
  whole : body ≡ text_of lexemes
  stand : AllStand Inside lexemes []
  faulty : StuckOutside false after more ⊎ StuckInside false after more
  count : n ≡ length body + (length close + more)

WhyReal : List ℕ → List ℕ → List ℕ → ℕ → Type 0
WhyReal body close after n = StuckBody body n ⊎ StuckBehind body close after n ⊎ (is_barred (drop n (body ++ (close ++ after))) ≡ true)

record RealFault (file : ℕ) (before body close after : List ℕ) (p : Place) : Type 0 where
  count : ℕ
  clean : CleanBelow count (body ++ (close ++ after))
  place : p ≡ place_after (first_place file) (before ++ take count (body ++ (close ++ after)))
  why : WhyReal body close after count

empty_body : {B : Type 0} (n : ℕ) → StuckBody [] n → B
empty_body n s = absurd (s.none.left (append_none (text_of s.lexemes) s.rest (sym s.whole)).1)

why_outside : (after : List ℕ) (n : ℕ) → WhyReal [] [] after n → IsFaulty false after n
unfolding WhyReal
why_outside after n (inl s) = empty_body n s
why_outside after n (inr (inl s)) = let same : n ≡ s.more = let c = s.count in omega arith in rw same (found s.faulty)
  where
    found : StuckOutside false after s.more ⊎ StuckInside false after s.more → IsFaulty false after s.more
    found (inl x) = inl x
    found (inr x) = inr (inl x)
why_outside after n (inr (inr b)) = inr (inr b)

fault_outside_of : (file : ℕ) (before after : List ℕ) (p : Place) → RealFault file before [] [] after p → FaultIn false file before after p
fault_outside_of file before after p f = record { count = f.count; clean = f.clean; place = f.place; faulty = why_outside after f.count f.why }

why_of : (after : List ℕ) (n : ℕ) → IsFaulty false after n → WhyReal [] [] after n
unfolding WhyReal
why_of after n (inl s) = inr (inl (record { lexemes = []; more = n; whole = refl; stand = tt; faulty = inl s; count = omega arith }))
why_of after n (inr (inl s)) = inr (inl (record { lexemes = []; more = n; whole = refl; stand = tt; faulty = inr s; count = omega arith }))
why_of after n (inr (inr b)) = inr (inr b)

real_of : (file : ℕ) (before after : List ℕ) (p : Place) → FaultIn false file before after p → RealFault file before [] [] after p
real_of file before after p f = record { count = f.count; clean = f.clean; place = f.place; why = why_of after f.count f.faulty }

-- ---- inside of an annotation

body_here : (file : ℕ) (before body close after : List ℕ) (p : Place) → 0 < length body → Halts (spot_of false file before (region_of (length body) (length close)) (body ++ (close ++ after))) p → RealFault file before body close after p
unfolding WhyReal
body_here file before body close after p some (no_piece left e f) = record {
  count = 0;
  clean = tt;
  place = f ∙ ap (place_after (first_place file)) (sym (append-nil before));
  why = inl (record { lexemes = []; rest = body; whole = refl; stand = tt; none = no_lexeme Inside body (λ x. let zero = ap length x in absurd (omega arith)) (none_of (inner_piece body) (sym (piece_inside file before body (close ++ after) (length close) some) ∙ e)); count = refl });
}
  where
    none_of : (o : Option _) → (o >>= λ q. Some (inside_of (region_of (length body) (length close)) q)) ≡ None → o ≡ None
    none_of None g = refl
    none_of (Some q) g = absurd cc
body_here file before body close after p some (in_piece piece b) = record { count = b.count; clean = b.clean; place = barred_place file before (body ++ (close ++ after)) b.count p b.place; why = inr (inr b.barred) }

close_here : (file : ℕ) (before close after : List ℕ) (p : Place) → 0 < length close → Halts (spot_of false file before (region_of 0 (length close)) (close ++ after)) p → RealFault file before [] close after p
unfolding WhyReal
close_here file before close after p some (no_piece left e f) = let found = piece_close file before (close ++ after) (length close) some in absurd cc
close_here file before close after p some (in_piece piece b) = record { count = b.count; clean = b.clean; place = barred_place file before (close ++ after) b.count p b.place; why = inr (inr b.barred) }

body_why : (l : Lexeme) (rest close after : List ℕ) (n : ℕ) → Stands Inside l rest → WhyReal rest close after n → WhyReal (bytes_of l ++ rest) close after (length (bytes_of l) + n)
unfolding WhyReal
body_why l rest close after n stands (inl s) = inl (record {
  lexemes = l ∷ s.lexemes;
  rest = s.rest;
  whole = ap (λ r. bytes_of l ++ r) s.whole ∙ sym (append_assoc (bytes_of l) (text_of s.lexemes) s.rest);
  stand = (subst (λ r. Stands Inside l r) s.whole stands, s.stand);
  none = s.none;
  count = let c = s.count in let len = length-append (bytes_of l) (text_of s.lexemes) in omega arith;
})
body_why l rest close after n stands (inr (inl s)) = inr (inl (record {
  lexemes = l ∷ s.lexemes;
  more = s.more;
  whole = ap (λ r. bytes_of l ++ r) s.whole;
  stand = (subst (λ r. Stands Inside l r) (s.whole ∙ sym (append-nil (text_of s.lexemes))) stands, s.stand);
  faulty = s.faulty;
  count = let c = s.count in let len = length-append (bytes_of l) rest in omega arith;
}))
body_why l rest close after n stands (inr (inr b)) = inr (inr (rw (append_assoc (bytes_of l) rest (close ++ after)) (more_barred (bytes_of l) (rest ++ (close ++ after)) n b)))

body_more : (file : ℕ) (before body close after : List ℕ) (p : Place) (x : Option Token) (t : Spot) (s : InsideStep file before body (close ++ after) (length close) x t) → RealFault file (before ++ bytes_of s.lexeme) s.rest close after p → RealFault file before body close after p
body_more file before body close after p x t s f =
    let parts : (bytes_of s.lexeme ++ s.rest) ++ (close ++ after) ≡ bytes_of s.lexeme ++ (s.rest ++ (close ++ after)) = append_assoc (bytes_of s.lexeme) s.rest (close ++ after) in
    let found : RealFault file before (bytes_of s.lexeme ++ s.rest) close after p = record {
      count = length (bytes_of s.lexeme) + f.count;
      clean = rw parts (clean_append (bytes_of s.lexeme) f.count (s.rest ++ (close ++ after)) s.clean f.clean);
      place = rw parts (more_place file before (bytes_of s.lexeme) (s.rest ++ (close ++ after)) f.count p f.place);
      why = body_why s.lexeme s.rest close after f.count s.stands f.why;
    } in
    subst (λ b. RealFault file before b close after p) (sym s.whole) found

close_why : (close after : List ℕ) (n : ℕ) → IsFaulty false after n → WhyReal [] close after (length close + n)
unfolding WhyReal
close_why close after n (inl s) = inr (inl (record { lexemes = []; more = n; whole = refl; stand = tt; faulty = inl s; count = omega arith }))
close_why close after n (inr (inl s)) = inr (inl (record { lexemes = []; more = n; whole = refl; stand = tt; faulty = inr s; count = omega arith }))
close_why close after n (inr (inr b)) = inr (inr (more_barred close after n b))

close_more : (file : ℕ) (before close after : List ℕ) (p : Place) → CleanBelow (length close) (close ++ after) → RealFault file (before ++ close) [] [] after p → RealFault file before [] close after p
close_more file before close after p clean r =
    let f = fault_outside_of file (before ++ close) after p r in
    record {
      count = length close + f.count;
      clean = clean_append close f.count after clean f.clean;
      place = more_place file before close after f.count p f.place;
      why = close_why close after f.count f.faulty;
    }

open_faulty : (form : Form) (body rest : List ℕ) (n : ℕ) → Opens Real form body rest → WhyReal body (closing_mark form) rest n
    → IsFaulty false (opening_mark form ++ (body ++ (closing_mark form ++ rest))) (length (opening_mark form) + n)
unfolding WhyReal
open_faulty form body rest n opens (inl s) = inr (inl (record {
  elements = [];
  form = form;
  lexemes = s.lexemes;
  rest = s.rest;
  after = rest;
  whole = ap (λ b. opening_mark form ++ (b ++ (closing_mark form ++ rest))) s.whole;
  before = tt;
  opens = subst (λ b. Opens Real form b rest) s.whole opens;
  stand = s.stand;
  none = s.none;
  count = let c = s.count in let three = three_long form in omega arith;
}))
open_faulty form body rest n opens (inr (inl s)) =
    let e = Annotation form s.lexemes in
    let stands : ElementStands Real e rest = (subst (λ b. Opens Real form b rest) s.whole opens, s.stand) in
    let size : length (element_bytes e) + s.more ≡ length (opening_mark form) + n =
    let a = length-append (opening_mark form) (text_of s.lexemes ++ closing_mark form) in let b = length-append (text_of s.lexemes) (closing_mark form) in let c = s.count in let d = ap length s.whole in omega arith in
    let whole : element_bytes e ++ rest ≡ opening_mark form ++ (body ++ (closing_mark form ++ rest)) = sym (ap (λ b. opening_mark form ++ (b ++ (closing_mark form ++ rest))) s.whole ∙ annotation_bytes form s.lexemes rest) in
    subst (λ t. IsFaulty false t (length (opening_mark form) + n)) whole (subst (λ m. IsFaulty false (element_bytes e ++ rest) m) size (behind e stands s.faulty))
  where
    behind : (e : Element) → ElementStands Real e rest → StuckOutside false rest s.more ⊎ StuckInside false rest s.more → IsFaulty false (element_bytes e ++ rest) (length (element_bytes e) + s.more)
    behind e stands (inl x) = inl (more_outside false e rest s.more stands x)
    behind e stands (inr x) = inr (inl (more_inside false e rest s.more stands x))
open_faulty form body rest n opens (inr (inr b)) = inr (inr (more_barred (opening_mark form) (body ++ (closing_mark form ++ rest)) n b))

open_more : (file : ℕ) (before text : List ℕ) (p : Place) (x : Option Token) (t : Spot) (s : OpenStep file before text x t) → RealFault file (before ++ opening_mark s.form) s.body (closing_mark s.form) s.rest p → FaultIn false file before text p
open_more file before text p x t s f =
    let o = opening_mark s.form in
    let inner = s.body ++ (closing_mark s.form ++ s.rest) in
    rw s.whole (record {
      count = length o + f.count;
      clean = clean_append o f.count inner (clean_open s.form inner s.clean) f.clean;
      place = more_place file before o inner f.count p f.place;
      faulty = open_faulty s.form s.body s.rest f.count s.opens f.why;
    })

real_here : (file : ℕ) (before body close after : List ℕ) (p : Place) → Halts (spot_of false file before (region_of (length body) (length close)) (body ++ (close ++ after))) p → RealFault file before body close after p
real_here file before (b ∷ bs) close after p h = body_here file before (b ∷ bs) close after p (omega arith) h
real_here file before [] (c ∷ cs) after p h = close_here file before (c ∷ cs) after p (omega arith) h
real_here file before [] [] after p h = real_of file before after p (fault_here false file before after p h)

real_more : (file : ℕ) (before body close after : List ℕ) (p : Place) (x : Option Token) (t : Spot) → next_at (spot_of false file before (region_of (length body) (length close)) (body ++ (close ++ after))) ≡ Piece_is x t
    → ((before2 body2 close2 after2 : List ℕ) → t ≡ spot_of false file before2 (region_of (length body2) (length close2)) (body2 ++ (close2 ++ after2)) → RealFault file before2 body2 close2 after2 p)
    → RealFault file before body close after p
real_more file before (b ∷ bs) close after p x t e more =
    let s = inside_step file before (b ∷ bs) (close ++ after) (length close) x t (omega arith) e in
    body_more file before (b ∷ bs) close after p x t s (more (before ++ bytes_of s.lexeme) s.rest close after s.spot)
real_more file before [] (c ∷ cs) after p x t e more =
    let s = close_step file before (c ∷ cs) after x t (omega arith) e in
    close_more file before (c ∷ cs) after p s.0 (more (before ++ (c ∷ cs)) [] [] after s.2)
real_more file before [] [] after p x t e more = real_of file before after p (choose (real_step file before after x t e))
  where
    choose : PlainStep false file before after x t ⊎ OpenStep file before after x t → FaultIn false file before after p
    choose (inl s) = rw s.whole (more_fault false file before (Plain s.lexeme) s.rest p s.stands s.clean (fault_outside_of file (before ++ bytes_of s.lexeme) s.rest p (more (before ++ bytes_of s.lexeme) [] [] s.rest s.spot)))
    choose (inr s) = open_more file before after p x t s (more (before ++ opening_mark s.form) s.body (closing_mark s.form) s.rest s.spot)

real_fault : (file : ℕ) {s : Spot} {p : Place} → Stops s p → (before body close after : List ℕ) → s ≡ spot_of false file before (region_of (length body) (length close)) (body ++ (close ++ after)) → RealFault file before body close after p
real_fault file (here {s = s} {p = p} e) before body close after same = real_here file before body close after p (halts (spot_of false file before (region_of (length body) (length close)) (body ++ (close ++ after))) p (rw same at e))
real_fault file (later {s = s} {t = t} {x = x} {p = p} e g) before body close after same = real_more file before body close after p x t (rw same at e) (λ b2 y2 c2 a2 f. real_fault file g b2 y2 c2 a2 f)

-- ---- the fault of a whole text

fault_of : (h : Bool) (file : ℕ) (bytes : List ℕ) (p : Place) → Stops (beginning h file bytes) p → FaultIn h file [] bytes p
fault_of true file bytes p s = header_fault file s [] bytes refl
fault_of false file bytes p s = fault_outside_of file [] bytes p (real_fault file s [] [] [] bytes refl)

pub stops_fault : (h : Bool) (file : ℕ) (bytes : List ℕ) (p : Place) → Stops (beginning h file bytes) p → HasFault h file bytes p
stops_fault h file bytes p s =
    let f = fault_of h file bytes p s in
    let at : Stops (spot_of h file [] outside bytes) (place_after (first_place file) (take f.count bytes)) = subst (λ q. Stops (spot_of h file [] outside bytes) q) f.place s in
    (f.count, record { faulty = f.faulty; first = none_before h file bytes f.count f.clean at }, f.place)

pub one_fault : (h : Bool) (file : ℕ) (bytes : List ℕ) (p q : Place) → HasFault h file bytes p → HasFault h file bytes q → p ≡ q
one_fault h file bytes p q (m, f, e) (n, g, k) = by_order (order m n)
  where
    order : (a b : ℕ) → (a < b) ⊎ (b < a) ⊎ (a ≡ b)
    order zero zero = inr (inr refl)
    order zero (suc b) = inl (omega arith)
    order (suc a) zero = inr (inl (omega arith))
    order (suc a) (suc b) = elim (order a b) [ inl l ↦ inl (omega arith) | inr r ↦ elim r [ inl l ↦ inr (inl (omega arith)) | inr l ↦ inr (inr (ap suc l)) ] ]

    by_order : (m < n) ⊎ (n < m) ⊎ (m ≡ n) → p ≡ q
    by_order (inl l) = absurd (g.first m l f.faulty)
    by_order (inr (inl l)) = absurd (f.first n l g.faulty)
    by_order (inr (inr l)) = e ∙ ap (λ i. place_after (first_place file) (take i bytes)) l ∙ sym k

faulty_never : (h : Bool) (file : ℕ) (bytes : List ℕ) (tokens : List Token) (n : ℕ) → HasTokens h file bytes tokens → IsFaulty h bytes n → ⊥
unfolding StopsBehind
faulty_never h file bytes tokens n has (inl s) = never_both (cut_gives h file bytes tokens has) (stuck_outside h file bytes n (clean_from n bytes has.1.clean) s).5
faulty_never h file bytes tokens n has (inr (inl s)) = never_both (cut_gives h file bytes tokens has) (stuck_inside h file bytes n (clean_from n bytes has.1.clean) s).5
faulty_never h file bytes tokens n has (inr (inr b)) = true_and_false (is_barred (drop n bytes)) b (has.1.clean n)

pub never_cut : (h : Bool) (file : ℕ) (bytes : List ℕ) (tokens : List Token) (p : Place) → HasTokens h file bytes tokens → HasFault h file bytes p → ⊥
never_cut h file bytes tokens p has f = faulty_never h file bytes tokens f.0 has f.1.faulty

-- where the code stops at a spot, it stops in the whole text, which has no tokens
pub stops_here : (e : LexFault) (s start : Spot) → IfLex e (λ p. next_at s ≡ Fault p) → ((p : Place) → Stops s p → Stops start p) → IfLex e (λ p. Stops start p)
stops_here (faults.Lex p) s start h earlier = earlier p (here h)
stops_here faults.Memory s start h earlier = tt

pub fault_there : (e : LexFault) (h : Bool) (file : ℕ) (bytes : List ℕ) → IfLex e (λ p. Stops (beginning h file bytes) p) → IfLex e (λ p. HasFault h file bytes p)
fault_there (faults.Lex p) h file bytes s = stops_fault h file bytes p s
fault_there faults.Memory h file bytes s = tt

pub none_there : (e : LexFault) (h : Bool) (file : ℕ) (bytes : List ℕ) → IfLex e (λ p. Stops (beginning h file bytes) p) → IfLex e (λ _. (tokens : List Token) → HasTokens h file bytes tokens → ⊥)
none_there (faults.Lex p) h file bytes s = λ tokens has. never_both (cut_gives h file bytes tokens has) s
none_there faults.Memory h file bytes s = tt
