-- The index behind what was read.
use Rattle.std.proofs.Common.{◌≡◌, refl, sym, ap, subst, ◌∙◌, ℕ, zero, suc, ◌+◌, ◌-◌, ◌≤◌, false, List, [], ◌∷◌, ◌++◌, drop, length, Some, Result, Ok, Err, length-append, arith}
use Rattle.std.proofs.lemmas.List.{length-drop}
use Rattle.vf_base.specs.declared.place.Place.{Place}
use Rattle.vf_lexer.specs.declared.token.Token.{Token}
use Rattle.vf_cursor.specs.declared.fault.Fault.{Fault}
use Rattle.vf_cursor.specs.Parsing.{Read, ok}
use Rattle.vf_cursor.proofs.Facts.{ok_pair}
use Rattle.vf_parse_real.specs.declared.fault.ParseFault.{ParseFault}
use Rattle.vf_parse_real.specs.declared.fault.ParseFault.TheVariants as parse_faults
use Rattle.vf_parse_part.specs.declared.part.GhostPart.{GhostPart}
use Rattle.vf_parse_part.specs.declared.part.GhostTree.{GhostTree}
use Rattle.vf_parse_part.specs.Parts.{part_at, part, part_nesting, kind_of, IsPart, PartAnswers, PartRefused}
use Rattle.vf_parse_part.proofs.PartsRead.{parts_are_spelled}
use Rattle.vf_grammar_stops.proofs.types.Local.{LikeAt, Went}
use Rattle.vf_part.specs.Laws.{AnswersPart, IsTaken, EndsPart, IsAnswered}
use Rattle.vf_part.proofs.Reading.{part_full, part_like}

-- what is left behind a front is found by how much it is
left_behind : (used rest : List Token) → drop (length (used ++ rest) - length rest) (used ++ rest) ≡ rest
left_behind [] rest = let e : length rest - length rest ≡ 0 = omega arith in rw e refl
left_behind (t ∷ used) rest =
    let size = length-append used rest in
    let e : suc (length (used ++ rest)) - length rest ≡ suc (length (used ++ rest) - length rest) = omega (arith, size) in
    rw e (left_behind used rest)

-- so behind an index too
left_of_drop : (at : ℕ) (tokens used rest : List Token) → at ≤ length tokens → drop at tokens ≡ used ++ rest → drop (length tokens - length rest) tokens ≡ rest
left_of_drop zero tokens used rest le e = rw e (left_behind used rest)
left_of_drop (suc at) [] used rest le e = absurd (omega (arith, le))
left_of_drop (suc at) (t ∷ tokens) used rest le e =
    let size = length-append used rest in
    let dropped = length-drop at tokens in
    let count : length (drop at tokens) ≡ length used + length rest = ap (λ (l : List Token). length l) e ∙ size in
    let back : suc (length tokens) - length rest ≡ suc (length tokens - length rest) = omega (arith, dropped, count) in
    rw back (left_of_drop at tokens used rest (omega (arith, le)) e)

-- what is read from an index leaves what stands behind another
went : (kind : GhostPart) (d : ℕ) (ts : List Token) (x : GhostTree) (rest : List Token) → part_at kind d ts ≡ ok x rest → Went (part_at kind d) ts x rest
went kind d ts x rest e = subst (λ (r : Read GhostTree). LikeAt false (part_at kind d) ts r) e ((part_like kind d d (omega arith)).run ts)

-- the index behind what is read, told by how many tokens are left
record Behind (tokens : List Token) (at : ℕ) (rest : List Token) : Type 0 where
  later : at ≤ length tokens - length rest
  found : drop (length tokens - length rest) tokens ≡ rest

behind : (kind : GhostPart) (d : ℕ) (tokens : List Token) (at : ℕ) (x : GhostTree) (rest : List Token) → at ≤ length tokens → part_at kind d (drop at tokens) ≡ ok x rest → Behind tokens at rest
behind kind d tokens at x rest le e =
    let w = went kind d (drop at tokens) x rest e in
    let dropped = length-drop at tokens in
    let count : length (drop at tokens) ≡ length w.used + length rest = ap (λ (l : List Token). length l) w.parts ∙ length-append w.used rest in
    record { later = omega (arith, le, dropped, count); found = left_of_drop at tokens w.used rest le w.parts }

taken_by : (kind : GhostPart) (tokens : List Token) (at : ℕ) (x : GhostTree) (next : ℕ) (rest : List Token) → at ≤ length tokens → part_at kind 128 (drop at tokens) ≡ ok x rest → next ≡ length tokens - length rest → IsTaken kind tokens at x next
taken_by kind tokens at x next rest le e is =
    let b = behind kind 128 tokens at x rest le e in
    let s = parts_are_spelled kind 128 (drop at tokens) x rest e in
    let same : drop next tokens ≡ rest = ap (λ n. drop n tokens) is ∙ b.found in
    record {
      behind = omega (arith, b.later, is);
      inside = omega (arith, is);
      spelled = s.spelled ∙ ap (λ (l : List Token). Some l) (sym same);
      kind_is = s.kind_is;
      nesting = s.nesting;
    }

pub taken : (result : Result (GhostTree × ℕ) ParseFault) (kind : GhostPart) (end : Place) (tokens : List Token) (at : ℕ) (x : GhostTree) (next : ℕ) → at ≤ length tokens → AnswersPart result kind end tokens at → result ≡ Ok (x, next) → IsTaken kind tokens at x next
taken result kind end tokens at x next le a e =
    let b : PartAnswers (Ok (x, next)) end tokens (part_at kind 128 (drop at tokens)) = subst (λ r. PartAnswers r end tokens (part_at kind 128 (drop at tokens))) e a in
    taken_by kind tokens at x next b.0 le b.1 b.2

-- one reading comes to one part
one_read : (read : Read GhostTree) (x y : GhostTree) (r s : List Token) → read ≡ ok x r → read ≡ ok y s → (x ≡ y) × (r ≡ s)
one_read read x y r s e f = ok_pair x y r s (sym e ∙ f)

not_both : {B : Type 0} (read : Read GhostTree) (f : Fault) (x : GhostTree) (r : List Token) → read ≡ Err f → read ≡ ok x r → B
not_both read f x r e h = absurd cc

answered_by : (result : Result (GhostTree × ℕ) ParseFault) (kind : GhostPart) (end : Place) (tokens : List Token) (at : ℕ) (x : GhostTree) (rest : List Token) → at ≤ length tokens → AnswersPart result kind end tokens at → part_at kind 128 (drop at tokens) ≡ ok x rest → IsAnswered result tokens x rest
answered_by (Ok y) kind end tokens at x rest le a e =
    let one = one_read (part_at kind 128 (drop at tokens)) y.0 x a.0 rest a.1 e in
    let b = behind kind 128 tokens at x rest le e in
    (one.0, ap (λ n. drop n tokens) (a.2 ∙ ap (λ (l : List Token). length tokens - length l) one.1) ∙ b.found)
answered_by (Err parse_faults.Memory) kind end tokens at x rest le a e = tt
answered_by (Err (parse_faults.Unsupported p)) kind end tokens at x rest le a e = not_both (part_at kind 128 (drop at tokens)) a.0 x rest a.1 e
answered_by (Err (parse_faults.Syntax p)) kind end tokens at x rest le a e = not_both (part_at kind 128 (drop at tokens)) a.0 x rest a.1 e
answered_by (Err (parse_faults.Depth p)) kind end tokens at x rest le a e = not_both (part_at kind 128 (drop at tokens)) a.0 x rest a.1 e

pub answered : (result : Result (GhostTree × ℕ) ParseFault) (end : Place) (tokens : List Token) (at : ℕ) (x : GhostTree) (rest : List Token) → at ≤ length tokens → AnswersPart result (kind_of x) end tokens at → part x (drop at tokens) ≡ Some rest → part_nesting x ≤ 128 → EndsPart (kind_of x) rest → IsAnswered result tokens x rest
answered result end tokens at x rest le a h deep ends = answered_by result (kind_of x) end tokens at x rest le a (part_full 128 x (drop at tokens) rest h deep ends)
