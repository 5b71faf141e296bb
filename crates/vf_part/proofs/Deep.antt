-- The place of a token that was too deep in a part of an annotation.
use Rattle.std.proofs.Common.{◌≡◌, refl, sym, ap, subst, ◌∙◌, ℕ, zero, suc, ◌+◌, ◌-◌, ◌<◌, ◌≤◌, List, ◌∷◌, drop, length, Result, Err, arith}
use Rattle.vf_base.specs.declared.place.Place.{Place}
use Rattle.vf_lexer.specs.declared.token.Token.{Token}
use Rattle.vf_cursor.specs.declared.fault.Fault.{Fault}
use Rattle.vf_cursor.specs.declared.fault.Fault.TheVariants as faults
use Rattle.vf_cursor.specs.Parsing.{Parser}
use Rattle.vf_parse_real.specs.declared.fault.ParseFault.{ParseFault}
use Rattle.vf_parse_real.specs.declared.fault.ParseFault.TheVariants as parse_faults
use Rattle.vf_parse_real.specs.Faults.{place_at, fault_of}
use Rattle.vf_parse_part.specs.declared.part.GhostPart.{GhostPart}
use Rattle.vf_parse_part.specs.declared.part.GhostPart.TheVariants as parts
use Rattle.vf_parse_part.specs.declared.part.GhostTree.{GhostTree}
use Rattle.vf_parse_part.specs.declared.part.GhostTree.TheVariants as trees
use Rattle.vf_parse_part.specs.Parts.{as_tree, part_at, PartAnswers}
use Rattle.vf_grammar_depth.specs.expressions.Deep.{GoesPast, IsNotTooDeep}
use Rattle.vf_grammar_depth.proofs.expressions.Deeper.{Deeper, then_deep, done_deep}
use Rattle.vf_grammar_depth.proofs.expressions.Answers.{within}
use Rattle.vf_grammar_depth.proofs.units.Places.{split, some_left, deepened}
use Rattle.vf_grammar_depth.proofs.terms.Whole.{RisesByTwo, answers_deepen_by_two}
use Rattle.vf_grammar_depth.proofs.commands.Whole.{command_rises}
use Rattle.vf_grammar_depth.proofs.ghost_items.Clauses.{claim_deep}
use Rattle.vf_grammar_depth.proofs.ghost_items.Whole.{contract_rises, invariant_rises, item_rises}
use Rattle.vf_part.specs.Laws.{AnswersPart, PartGoesOn}
use Rattle.vf_part.proofs.Refused.{place_is}

as_tree_deep : {A : Type 0} {j : ℕ} (make : A → GhostTree) {p q : Parser A} → Deeper j p q → Deeper j (λ ts. as_tree make (p ts)) (λ ts. as_tree make (q ts))
as_tree_deep make h = then_deep h (λ a. done_deep (make a))

pub part_rises : (kind : GhostPart) → RisesByTwo (part_at kind)
unfolding part_at
part_rises parts.Claim d m lt = as_tree_deep trees.Claim claim_deep
part_rises parts.Contract d m lt = as_tree_deep trees.Contract (contract_rises d m lt)
part_rises parts.Invariant d m lt = as_tree_deep trees.Invariant (invariant_rises d m lt)
part_rises parts.Item d m lt = as_tree_deep trees.Item (item_rises d m lt)
part_rises parts.Command d m lt = as_tree_deep trees.Command (command_rises d m lt)

past_at : (kind : GhostPart) (d m n : ℕ) (ts : List Token) → part_at kind d ts ≡ Err (faults.Depth n) → suc d < m → GoesPast n (part_at kind m ts)
past_at kind d m n ts e lt = deepened n (part_at kind d ts) (part_at kind m ts) e ((answers_deepen_by_two (part_at kind) (part_rises kind) d m ts lt).0)

decided_at : (kind : GhostPart) (d m : ℕ) (ts : List Token) → suc d < m → suc (length ts + length ts) < m → IsNotTooDeep (part_at kind m ts)
decided_at kind d m ts lt less = (answers_deepen_by_two (part_at kind) (part_rises kind) d m ts lt).1 less

goes_on : (kind : GhostPart) (d : ℕ) (tokens : List Token) (at : ℕ) (end : Place) (n : ℕ) → at ≤ length tokens → part_at kind d (drop at tokens) ≡ Err (faults.Depth n) → PartGoesOn kind d tokens at (place_at tokens end n)
goes_on kind d tokens at end zero le e =
    let ts = drop at tokens in
    absurd (omega (arith, some_left zero (part_at kind (suc (suc d)) ts) (past_at kind d (suc (suc d)) zero ts e (omega arith))))
goes_on kind d tokens at end (suc n) le e =
    let ts = drop at tokens in
    let most = within (length ts) (suc n) (part_at kind d ts) (part_at kind (suc (suc d)) ts) ((part_rises kind d (suc (suc d)) (omega arith)).run ts) e in
    let k = length ts - suc n in
    let size : length ts ≡ k + suc n = omega (arith, most) in
    let s = split k n ts size in
    record {
      used = s.used;
      next = s.next;
      behind = s.behind;
      parts = s.parts;
      place_is = place_is at tokens s.used (s.next ∷ s.behind) end (suc n) le s.parts (ap suc s.count);
      past = λ m lt. subst (λ z. GoesPast (suc z) (part_at kind m ts)) (sym s.count) (past_at kind d m (suc n) ts e lt);
      decided = λ m lt less. decided_at kind d m ts lt less;
    }

at_fault : (kind : GhostPart) (end p : Place) (tokens : List Token) (at : ℕ) (f : Fault) → at ≤ length tokens → part_at kind 128 (drop at tokens) ≡ Err f → parse_faults.Depth p ≡ fault_of tokens end f → PartGoesOn kind 128 tokens at p
at_fault kind end p tokens at (faults.Syntax k) le e h = absurd cc
at_fault kind end p tokens at (faults.Depth k) le e h = let same : place_at tokens end k ≡ p = cc in subst (λ z. PartGoesOn kind 128 tokens at z) same (goes_on kind 128 tokens at end k le e)

pub too_deep : (result : Result (GhostTree × ℕ) ParseFault) (kind : GhostPart) (end p : Place) (tokens : List Token) (at : ℕ) → at ≤ length tokens → AnswersPart result kind end tokens at → result ≡ Err (parse_faults.Depth p) → PartGoesOn kind 128 tokens at p
too_deep result kind end p tokens at le a e =
    let b : PartAnswers (Err (parse_faults.Depth p)) end tokens (part_at kind 128 (drop at tokens)) = subst (λ r. PartAnswers r end tokens (part_at kind 128 (drop at tokens))) e a in
    at_fault kind end p tokens at b.0 le b.1 b.2
