-- Where a place is refused, no part of an annotation begins.
use Rattle.std.proofs.Common.{◌≡◌, refl, sym, ap, subst, ◌∙◌, ℕ, zero, suc, ◌+◌, ◌-◌, ◌≤◌, false, List, [], ◌∷◌, ◌++◌, drop, length, Some, Result, Ok, Err, length-append, arith}
use Rattle.std.specs.List.{slice_get}
use Rattle.std.proofs.lemmas.List.{length-drop}
use Rattle.vf_base.specs.declared.place.Place.{Place}
use Rattle.vf_lexer.specs.declared.token.Token.{Token}
use Rattle.vf_cursor.specs.declared.fault.Fault.{Fault}
use Rattle.vf_cursor.specs.declared.fault.Fault.TheVariants as faults
use Rattle.vf_cursor.specs.Parsing.{Read}
use Rattle.vf_parse_real.specs.declared.fault.ParseFault.{ParseFault}
use Rattle.vf_parse_real.specs.declared.fault.ParseFault.TheVariants as parse_faults
use Rattle.vf_parse_real.specs.Faults.{place_or, place_at, fault_of}
use Rattle.vf_parse_part.specs.declared.part.GhostPart.{GhostPart}
use Rattle.vf_parse_part.specs.declared.part.GhostTree.{GhostTree}
use Rattle.vf_parse_part.specs.Parts.{part_at, part, kind_of, PartAnswers}
use Rattle.vf_grammar_stops.specs.types.Stops.{first, BeginsUpTo}
use Rattle.vf_grammar_stops.proofs.types.Local.{LikeAt, Stopped}
use Rattle.vf_part.specs.Laws.{AnswersPart, NoPartBegins, EndsPart}
use Rattle.vf_part.proofs.Reading.{part_like, parts_stop}

-- the token that stands in front of so many
seen_behind : (used left : List Token) → slice_get (used ++ left) (length (used ++ left) - length left) ≡ first left
seen_behind [] [] = refl
seen_behind [] (t ∷ left) = let e : suc (length left) - suc (length left) ≡ 0 = omega arith in rw e refl
seen_behind (t ∷ used) left =
    let size = length-append used left in
    let e : suc (length (used ++ left)) - length left ≡ suc (length (used ++ left) - length left) = omega (arith, size) in
    rw e (seen_behind used left)

-- the same behind an index
seen : (at : ℕ) (tokens used left : List Token) → at ≤ length tokens → drop at tokens ≡ used ++ left → slice_get tokens (length tokens - length left) ≡ first left
seen zero tokens used left le e = rw e (seen_behind used left)
seen (suc at) [] used left le e = absurd (omega (arith, le))
seen (suc at) (t ∷ tokens) used left le e =
    let size = length-append used left in
    let dropped = length-drop at tokens in
    let count : length (drop at tokens) ≡ length used + length left = ap (λ (l : List Token). length l) e ∙ size in
    let back : suc (length tokens) - length left ≡ suc (length tokens - length left) = omega (arith, dropped, count) in
    rw back (seen at tokens used left (omega (arith, le)) e)

pub place_is : (at : ℕ) (tokens used left : List Token) (end : Place) (k : ℕ) → at ≤ length tokens → drop at tokens ≡ used ++ left → length left ≡ k → place_at tokens end k ≡ place_or end (first left)
place_is at tokens used left end k le parts count = rw (sym count) (ap (place_or end) (seen at tokens used left le parts))

at_place : (kind : GhostPart) (end : Place) (tokens : List Token) (at k : ℕ) → at ≤ length tokens → part_at kind 128 (drop at tokens) ≡ Err (faults.Syntax k) → NoPartBegins kind tokens at end (place_at tokens end k)
at_place kind end tokens at k le e =
    let ts = drop at tokens in
    let like : LikeAt false (part_at kind 128) ts (Err (faults.Syntax k)) = subst (λ (r : Read GhostTree). LikeAt false (part_at kind 128) ts r) e ((part_like kind 128 128 (omega arith)).run ts) in
    let v : Stopped (part_at kind 128) ts (faults.Syntax k) = like tt in
    record {
      used = v.used;
      left = v.rest;
      parts = v.parts;
      place_is = place_is at tokens v.used v.rest end k le v.parts v.left;
      none_begins = λ others rest x same same_first h ends. parts_stop kind 128 ts (v.used ++ others) rest k x e (record { used = v.used; left = v.rest; others = others; parts = v.parts; count = v.left; other_parts = refl; alike = same_first }) same h ends;
    }

at_fault : (kind : GhostPart) (end p : Place) (tokens : List Token) (at : ℕ) (f : Fault) → at ≤ length tokens → part_at kind 128 (drop at tokens) ≡ Err f → parse_faults.Syntax p ≡ fault_of tokens end f → NoPartBegins kind tokens at end p
at_fault kind end p tokens at (faults.Syntax k) le e h = let same : p ≡ place_at tokens end k = cc in subst (λ z. NoPartBegins kind tokens at end z) (sym same) (at_place kind end tokens at k le e)
at_fault kind end p tokens at (faults.Depth k) le e h = absurd cc

pub refused : (result : Result (GhostTree × ℕ) ParseFault) (kind : GhostPart) (end p : Place) (tokens : List Token) (at : ℕ) → at ≤ length tokens → AnswersPart result kind end tokens at → result ≡ Err (parse_faults.Syntax p) → NoPartBegins kind tokens at end p
refused result kind end p tokens at le a e =
    let b : PartAnswers (Err (parse_faults.Syntax p)) end tokens (part_at kind 128 (drop at tokens)) = subst (λ r. PartAnswers r end tokens (part_at kind 128 (drop at tokens))) e a in
    at_fault kind end p tokens at b.0 le b.1 b.2

named : (end p : Place) (tokens : List Token) (f : Fault) → parse_faults.Unsupported p ≡ fault_of tokens end f → ⊥
named end p tokens (faults.Syntax k) e = absurd cc
named end p tokens (faults.Depth k) e = absurd cc

pub supported : (result : Result (GhostTree × ℕ) ParseFault) (kind : GhostPart) (end p : Place) (tokens : List Token) (at : ℕ) → AnswersPart result kind end tokens at → result ≡ Err (parse_faults.Unsupported p) → ⊥
supported result kind end p tokens at a e =
    let b : PartAnswers (Err (parse_faults.Unsupported p)) end tokens (part_at kind 128 (drop at tokens)) = subst (λ r. PartAnswers r end tokens (part_at kind 128 (drop at tokens))) e a in
    named end p tokens b.0 b.2
