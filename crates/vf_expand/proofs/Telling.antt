-- Each text has tokens or a first byte at which it has none, and so there is a library for all that may be held.
use Rattle.std.proofs.Common.{◌≡◌, ◌⊎◌, inl, inr, ◌<◌, ◌≤◌, ℕ, zero, suc, Bool, true, false, nat_le, nat_lt, List, [], ◌∷◌, length, take, length-drop, Option, Some, None, Result, Ok, Err, slice_get, refl, ap, subst, ◌∙◌, arith}
use Rattle.vf_base.specs.declared.place.Place.{Place}
use Rattle.vf_lexer.specs.declared.token.Token.{Token}
use Rattle.vf_lexer.specs.declared.piece.Piece.{Piece}
use Rattle.std.proofs.lemmas.Bool.{leb-true, leb-false, ltb-true}
use Rattle.vf_lexer.specs.Numbers.{◌>>=◌}
use Rattle.vf_lexer.specs.Pieces.{PieceFits, inner_piece}
use Rattle.vf_lexer.specs.declared.piece.Region.{Region}
use Rattle.vf_lexer.specs.Tokens.{Spot, Next, End, Fault, Piece_is, beginning, walk, next_walked, next_piece, next_in, next_at, piece_at, inside_of, annotated_piece}
use Rattle.vf_lexer.specs.Cuts.{HasTokens, HasFault}
use Rattle.vf_lexer.proofs.Runs.{Gives, ended, passed, Stops, here, later}
use Rattle.vf_lexer.proofs.Sizes.{either, outer_fits, inner_fits, header_fits}
use Rattle.vf_lexer.proofs.Cutting.{gives_cut}
use Rattle.vf_lexer.proofs.Faults.{stops_fault, one_fault, never_cut}
use Rattle.vf_lexer.proofs.Laws.{same_tokens}
use Rattle.vf_lexer.proofs.Cutting.{cut_gives}
use Rattle.vf_snapshot.specs.declared.held.Held.{Held}
use Rattle.vf_snapshot.specs.declared.held.Held.TheVariants as known
use Rattle.vf_snapshot.specs.Holdings.{Holdings, number_in}
use Rattle.vf_preproc.specs.Targets.{is_ghost_path}
use Rattle.vf_preproc.specs.UnitText.{Source, Library, Text, Faulty, TooLong, Absent, Unknown}
use Rattle.vf_preproc.specs.Units.{Tells, TellsOf}

-- ---- a piece takes at least one byte

-- a piece that was found takes at least one byte
abbrev Takes : Option Piece → Type 0
Takes None = Unit {0}
Takes (Some piece) = 0 < piece.size

fits_takes : (most : ℕ) (o : Option Piece) → PieceFits most o → Takes o
fits_takes most None h = tt
fits_takes most (Some piece) h = h.0

inside_takes : (region : Region) (o : Option Piece) → Takes o → Takes (o >>= λ piece. Some (inside_of region piece))
inside_takes region None h = tt
inside_takes region (Some piece) h = h

annotated_takes : (region : Region) (text : List ℕ) → Takes (annotated_piece region text)
annotated_takes region text = either Takes (nat_lt 0 region.inside) _ _
    (λ e. inside_takes region (inner_piece (take region.inside text)) (fits_takes _ _ (inner_fits (take region.inside text))))
    (λ e. either Takes (nat_lt 0 region.closing) _ _ (λ f. ltb-true 0 region.closing f) (λ f. fits_takes _ _ (outer_fits text)))

piece_takes : (s : Spot) → Takes (piece_at s)
unfolding piece_at
piece_takes s = either Takes s.header _ _ (λ e. fits_takes _ _ (header_fits s.text)) (λ e. annotated_takes s.region s.text)

-- ---- each text is read to its end or to a fault

-- the spot behind what stands here, if something does, has less text
abbrev Shortens : ℕ → Next → Type 0
Shortens n End = Unit {0}
Shortens n (Fault p) = Unit {0}
Shortens n (Piece_is x t) = length t.text < n

walked_shortens : (s : Spot) (piece : Piece) (r : Result Place Place) → 0 < length s.text → 0 < piece.size → Shortens (length s.text) (next_walked s piece r)
walked_shortens s piece (Ok p) some takes = let size = length-drop piece.size s.text in omega arith
walked_shortens s piece (Err p) some takes = tt

piece_shortens : (s : Spot) (o : Option Piece) → 0 < length s.text → Takes o → Shortens (length s.text) (next_piece s o)
piece_shortens s None some takes = tt
piece_shortens s (Some piece) some takes = walked_shortens s piece (walk s.place piece.size s.text) some takes

in_shortens : (s : Spot) (text : List ℕ) → length text ≡ length s.text → Shortens (length s.text) (next_in s text)
in_shortens s [] same = tt
in_shortens s (b ∷ bs) same = piece_shortens s (piece_at s) (omega arith) (piece_takes s)

shortens : (s : Spot) → Shortens (length s.text) (next_at s)
unfolding next_at
shortens s = in_shortens s s.text refl

-- a text gives tokens, or stops
abbrev IsRead : Spot → Type 0
IsRead s = ((tokens : List Token) × Gives s tokens) ⊎ ((p : Place) × Stops s p)

read_behind : (s t : Spot) (x : Option Token) → next_at s ≡ Piece_is x t → IsRead t → IsRead s
read_behind s t x is (inl (tokens, gives)) = inl (_, passed is gives)
read_behind s t x is (inr (p, stops)) = inr (p, later is stops)

-- a spot is read by what stands there, where all spots with less text are read
read_by : (n : ℕ) (s : Spot) → ((t : Spot) → length t.text < length s.text → IsRead t) → (next : Next) → next_at s ≡ next → IsRead s
read_by n s shorter End is = inl ([], ended is)
read_by n s shorter (Fault p) is = inr (p, here is)
read_by n s shorter (Piece_is x t) is = read_behind s t x is (shorter t (subst (Shortens (length s.text)) is (shortens s)))

is_read : (n : ℕ) (s : Spot) → length s.text < n → IsRead s
is_read zero s fits = absurd (omega arith)
is_read (suc n) s fits = read_by n s (λ t less. is_read n t (omega arith)) (next_at s) refl

-- a text has tokens, or a first byte at which it has none
abbrev IsCutOrNot : Bool → ℕ → List ℕ → Type 0
IsCutOrNot header file bytes = ((tokens : List Token) × HasTokens header file bytes tokens) ⊎ ((p : Place) × HasFault header file bytes p)

cut_or_not : (header : Bool) (file : ℕ) (bytes : List ℕ) → IsCutOrNot header file bytes
cut_or_not header file bytes = told (is_read (suc (length bytes)) (beginning header file bytes) (omega arith))
  where
    told : IsRead (beginning header file bytes) → IsCutOrNot header file bytes
    told (inl (tokens, gives)) = inl (tokens, gives_cut header file bytes tokens gives)
    told (inr (p, stops)) = inr (p, stops_fault header file bytes p stops)

-- ---- the library of what is held

abbrev cut_source : (header : Bool) (number : ℕ) (bytes : List ℕ) → IsCutOrNot header number bytes → Source
cut_source header number bytes (inl (tokens, has)) = Text number bytes tokens
cut_source header number bytes (inr (p, has)) = Faulty p

abbrev sized_source : List ℕ → ℕ → List ℕ → Bool → Source
sized_source path number bytes true = cut_source (is_ghost_path path) number bytes (cut_or_not (is_ghost_path path) number bytes)
sized_source path number bytes false = TooLong number

abbrev held_source : List ℕ → ℕ → Held → Source
held_source path number (known.Bytes bytes) = sized_source path number bytes (nat_le (length bytes) 1048576)
held_source path number known.TooLong = TooLong number
held_source path number known.Missing = Absent

abbrev entry_source : List ℕ → ℕ → Option (List ℕ × Held) → Source
entry_source path number None = Unknown
entry_source path number (Some e) = held_source path number e.1

abbrev found_source : Holdings → List ℕ → Option ℕ → Source
found_source held path None = Unknown
found_source held path (Some number) = entry_source path number (slice_get held number)

abbrev library_of : Holdings → Library
library_of held path = found_source held path (number_in held path)

cut_tells : (header : Bool) (number : ℕ) (bytes : List ℕ) (tokens : List Token) → HasTokens header number bytes tokens → (c : IsCutOrNot header number bytes) → cut_source header number bytes c ≡ Text number bytes tokens
cut_tells header number bytes tokens has (inl (other, is)) = ap (Text number bytes) (same_tokens (cut_gives header number bytes other is) (cut_gives header number bytes tokens has))
cut_tells header number bytes tokens has (inr (p, is)) = absurd (never_cut header number bytes tokens p has is)

fault_tells : (header : Bool) (number : ℕ) (bytes : List ℕ) (place : Place) → HasFault header number bytes place → (c : IsCutOrNot header number bytes) → cut_source header number bytes c ≡ Faulty place
fault_tells header number bytes place has (inl (tokens, is)) = absurd (never_cut header number bytes tokens place is has)
fault_tells header number bytes place has (inr (p, is)) = ap Faulty (one_fault header number bytes p place is has)

-- a text that is short enough is looked into, and no other one
is_short : (path : List ℕ) (number : ℕ) (bytes : List ℕ) → length bytes ≤ 1048576 → (b : Bool) → nat_le (length bytes) 1048576 ≡ b
    → sized_source path number bytes b ≡ cut_source (is_ghost_path path) number bytes (cut_or_not (is_ghost_path path) number bytes)
is_short path number bytes short true is = refl
is_short path number bytes short false is = let long = leb-false (length bytes) 1048576 is in absurd (omega arith)

is_long : (path : List ℕ) (number : ℕ) (bytes : List ℕ) → 1048576 < length bytes → (b : Bool) → nat_le (length bytes) 1048576 ≡ b → sized_source path number bytes b ≡ TooLong number
is_long path number bytes long true is = let short = leb-true (length bytes) 1048576 is in absurd (omega arith)
is_long path number bytes long false is = refl

source_tells : (library : Library) (path : List ℕ) (number : ℕ) (h : Held) → library path ≡ held_source path number h → TellsOf library path number h
source_tells library path number (known.Bytes bytes) is = (
  λ long. is ∙ is_long path number bytes long (nat_le (length bytes) 1048576) refl,
  λ short tokens has. is ∙ is_short path number bytes short (nat_le (length bytes) 1048576) refl
      ∙ cut_tells (is_ghost_path path) number bytes tokens has (cut_or_not (is_ghost_path path) number bytes),
  λ short place has. is ∙ is_short path number bytes short (nat_le (length bytes) 1048576) refl
      ∙ fault_tells (is_ghost_path path) number bytes place has (cut_or_not (is_ghost_path path) number bytes),
)
source_tells library path number known.TooLong is = is
source_tells library path number known.Missing is = is

-- the library of what is held tells what is held
pub told : (held : Holdings) → (library : Library) × Tells library held
told held = (
  library_of held,
  λ path number h at.
      source_tells (library_of held) path number h (ap (found_source held path) at.0 ∙ ap (entry_source path number) at.1),
)
