-- What is handed over of the question that was answered last, as a journal grows.
use Rattle.std.proofs.Common.{◌≡◌, ◌≤◌, ◌+◌, ◌-◌, ℕ, List, [], ◌∷◌, ◌++◌, length, Option, Some, None, refl, sym, ap, ◌∙◌, subst, arith, length-append}
use Rattle.std.proofs.lemmas.List.{length-map}
use Rattle.vf_trail.specs.declared.node.Node.{Node}
use Rattle.vf_closure.specs.Literals.{denied}
use Rattle.vf_formula.specs.Literals.{shown_literal}
use Rattle.vf_formula.specs.declared.literal.Literal.{Literal}
use Rattle.vf_definitions.specs.declared.fixpoint.Fixpoint.{Fixpoint}
use Rattle.vf_definitions.specs.Unfolded.{unfoldings_of}
use Rattle.vf_recheck.specs.declared.steps.Refutation.{Refutation}
use Rattle.vf_recheck.specs.Refutations.{IsRefutation}
use Rattle.vf_asking.specs.declared.answers.Answer.{Answer}
use Rattle.vf_asking.specs.declared.answers.Answer.TheVariants.{Proved, Unknown}
use Rattle.vf_asking.specs.declared.journal.Journal.{Journal}
use Rattle.vf_asking.specs.Journal.{Asked, Seen, asked_of, seen, path_at, IsAsBefore, HasBegun, HasPushed, HasAsked}
use Rattle.vf_asking.proofs.Seeing.{seen_before, seen_begun, seen_pushed, seen_asked}
use Rattle.vf_prover.specs.Held.{last_definitions}
use Rattle.vf_prover.specs.Explained.{last_asked, IsHandedOver}

pub many_seen : (j : Journal) → length (seen j).entries ≡ length j.entries
unfolding seen
many_seen j = length-map j.entries (asked_of j.units j.trail.facts)

-- nothing was asked since
pub handed_none : (j : Journal) (handed : ℕ) → handed ≡ length j.entries → IsHandedOver (seen j).entries handed None
handed_none j handed e = λ a s p. omega (arith, e, many_seen j)

-- ---- no question more
handed_same : (s t : Seen) (handed : ℕ) (o : Option Refutation) → t.entries ≡ s.entries → IsHandedOver s.entries handed o → IsHandedOver t.entries handed o
handed_same s t handed o e h = subst (λ (es : List Asked). IsHandedOver es handed o) (sym e) h

pub handed_before : (j k : Journal) (handed : ℕ) (o : Option Refutation) → IsAsBefore j k → IsHandedOver (seen j).entries handed o → IsHandedOver (seen k).entries handed o
handed_before j k handed o b h = handed_same (seen j) (seen k) handed o (ap (λ (s : Seen). s.entries) (seen_before j k b)) h

pub handed_begun : (defs : List Fixpoint) (j k : Journal) (handed : ℕ) (o : Option Refutation) → HasBegun defs j k → IsHandedOver (seen j).entries handed o → IsHandedOver (seen k).entries handed o
handed_begun defs j k handed o b h = handed_same (seen j) (seen k) handed o (ap (λ (s : Seen). s.entries) (seen_begun defs j k b)) h

pub handed_pushed : (at : Node) (fact : Literal) (j k : Journal) (handed : ℕ) (o : Option Refutation) → HasPushed at fact j k → IsHandedOver (seen j).entries handed o → IsHandedOver (seen k).entries handed o
handed_pushed at fact j k handed o b h = handed_same (seen j) (seen k) handed o (ap (λ (s : Seen). s.entries) (seen_pushed at fact j k b)) h

-- ---- one question more
last_is : (es : List Asked) (e : Asked) → last_asked (es ++ e ∷ []) ≡ Some e
last_is [] e = refl
last_is (a ∷ []) e = refl
last_is (a ∷ b ∷ es) e = last_is (b ∷ es) e

record IsNoted (j k : Journal) (e : Asked) : Type 0 where
  entries : (seen k).entries ≡ (seen j).entries ++ e ∷ []

abbrev noted_of : Journal → Node → Literal → Answer → Asked
noted_of j at goal answer = record { unit = length j.units - 1; definitions = last_definitions j.units; path = path_at j at; goal = shown_literal goal; answer = answer }

noted_is : (j k : Journal) (at : Node) (goal : Literal) (answer : Answer) → HasAsked at goal answer j k → IsNoted j k (noted_of j at goal answer)
unfolding seen
noted_is j k at goal answer a = record { entries = ap (λ (s : Seen). s.entries) (seen_asked at goal answer j k a) }

pub handed_proved : (j k : Journal) (at : Node) (goal : Literal) (handed : ℕ) (r : Refutation) → handed ≤ length j.entries → HasAsked at goal Proved j k → IsRefutation (unfoldings_of (last_definitions j.units)) (path_at j at ++ denied (shown_literal goal)) r.steps.items → IsHandedOver (seen k).entries handed (Some r)
handed_proved j k at goal handed r l a h =
    let e = noted_of j at goal Proved in
    let n = noted_is j k at goal Proved a in
    record {
      new = let m = ap length n.entries ∙ length-append (seen j).entries (e ∷ []) in omega (arith, m, l, many_seen j);
      last = e;
      is = ap last_asked n.entries ∙ last_is (seen j).entries e;
      proved = refl;
      refuted = h;
    }

pub handed_unknown : (j k : Journal) (at : Node) (goal : Literal) (handed : ℕ) → HasAsked at goal Unknown j k → IsHandedOver (seen k).entries handed None
handed_unknown j k at goal handed a = λ e s p.
    let o : Some (noted_of j at goal Unknown) ≡ Some e = sym (ap last_asked (noted_is j k at goal Unknown a).entries ∙ last_is (seen j).entries (noted_of j at goal Unknown)) ∙ s in
    let q : noted_of j at goal Unknown ≡ e = cc in
    let u : Unknown ≡ Proved = ap (λ (x : Asked). x.answer) q ∙ p in
    absurd (cc)

pub one_more : (at : Node) (goal : Literal) (answer : Answer) (j k : Journal) → HasAsked at goal answer j k → length k.entries ≡ length j.entries + 1
one_more at goal answer j k a = ap length a.entries ∙ length-append j.entries _
