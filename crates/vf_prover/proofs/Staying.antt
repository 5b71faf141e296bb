-- Right answers stay right as a journal grows.
use Rattle.std.proofs.Common.{◌≡◌, ℕ, ◌-◌, ◌≤◌, List, [], ◌∷◌, ◌++◌, length, drop, sym, ap, ◌∙◌, subst, arith, length-append, length-drop}
use Rattle.std.specs.Prelude.{All}
use Rattle.std.proofs.lemmas.List.{length-map, drop-append-le}
use Rattle.std.proofs.lemmas.List.Elements.{All-push}
use Rattle.vf_trail.specs.declared.node.Node.{Node}
use Rattle.vf_asking.specs.declared.answers.Answer.{Answer}
use Rattle.vf_formula.specs.Literals.{shown_literal}
use Rattle.vf_formula.specs.declared.literal.Literal.{Literal}
use Rattle.vf_definitions.specs.declared.fixpoint.Fixpoint.{Fixpoint}
use Rattle.vf_asking.specs.declared.journal.Journal.{Journal}
use Rattle.vf_asking.specs.Journal.{Asked, asked_of, seen, path_at, IsAsBefore, HasBegun, HasPushed, HasAsked}
use Rattle.vf_asking.specs.Right.{IsRight, AreRightFrom}
use Rattle.vf_asking.proofs.Seeing.{seen_before, seen_begun, seen_pushed, seen_asked}
use Rattle.vf_prover.specs.Held.{last_definitions, IsRightAnswer}

abbrev Stays : ℕ → Journal → Type 0
Stays origin j = AreRightFrom origin (seen j) × (origin ≤ length j.entries)

entries_seen : (j : Journal) → length (seen j).entries ≡ length j.entries
unfolding seen
entries_seen j = length-map j.entries (asked_of j.units j.trail.facts)

pub right_none : (origin : ℕ) (j : Journal) → origin ≡ length j.entries → Stays origin j
right_none origin j e =
    (λ k d low. absurd (omega (arith, length-drop origin (seen j).entries, entries_seen j)), omega arith)

pub right_before : (origin : ℕ) (j k : Journal) → IsAsBefore j k → Stays origin j → Stays origin k
right_before origin j k b r =
    (subst (λ s. AreRightFrom origin s) (sym (seen_before j k b)) r.0, omega (arith, ap length b.entries, r.1))

pub right_begun : (origin : ℕ) (defs : List Fixpoint) (j k : Journal) → HasBegun defs j k → Stays origin j → Stays origin k
right_begun origin defs j k b r =
    (subst (λ s. AreRightFrom origin s) (sym (seen_begun defs j k b)) r.0, omega (arith, ap length b.entries, r.1))

pub right_pushed : (origin : ℕ) (at : Node) (fact : Literal) (j k : Journal) → HasPushed at fact j k → Stays origin j → Stays origin k
right_pushed origin at fact j k p r =
    (subst (λ s. AreRightFrom origin s) (sym (seen_pushed at fact j k p)) r.0, omega (arith, ap length p.entries, r.1))

right_more : (entries : List Asked) (e : Asked) (origin : ℕ) → origin ≤ length entries → All IsRight (drop origin entries) → IsRight e → All IsRight (drop origin (entries ++ e ∷ []))
right_more entries e origin low h one = rw drop-append-le (All-push IsRight (drop origin entries) e h one)

pub right_kept : (origin : ℕ) (at : Node) (goal : Literal) (answer : Answer) (j k : Journal) → IsRightAnswer (last_definitions j.units) (path_at j at) (shown_literal goal) answer → HasAsked at goal answer j k → Stays origin j → Stays origin k
unfolding seen
right_kept origin at goal answer j k right a r =
    let low : origin ≤ length (seen j).entries = omega (arith, entries_seen j, r.1) in
    let more = right_more (seen j).entries _ origin low r.0 (right (length j.units - 1)) in
    let longer = length-append j.entries in (
      subst (λ s. AreRightFrom origin s) (sym (seen_asked at goal answer j k a)) more,
      omega (arith, ap length a.entries ∙ length-append j.entries _, r.1),
    )
