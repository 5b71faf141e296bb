-- What classes and bounds say at the end of the question.
use Rattle.std.proofs.Common.{◌≡◌, ℕ, ◌<◌, List, length, refl, sym, ◌∙◌, subst, Bool, true, false}
use Rattle.std.specs.Prelude.{◌↔◌, Contains}
use Rattle.std.specs.Bool.{MatchBool}
use Rattle.vf_table.specs.declared.node.Node.{Node}
use Rattle.vf_congruence.specs.Congruence.{Congruent, WereMerged, Merges}
use Rattle.vf_arith.specs.declared.bounds.Edge.{Edge}
use Rattle.vf_arith.specs.Paths.{HasNegativeCycle}
use Rattle.vf_refute.specs.declared.steps.Fact.{Fact}
use Rattle.vf_refute.specs.declared.steps.Fact.TheVariants as fs
use Rattle.vf_refute.specs.Closure.{Same, Conflict, clash, denied_equality, denied_difference, falsehood}
use Rattle.vf_ground.specs.Held.{HasFact, HasTerm, AreSound, AreComplete, AllAgree, ShowNoConflict, HaveGrown, HaveBoundsGrown, IsContradicted, Clash, IsFine}
use Rattle.vf_ground.proofs.Closing.{same_by, near_by, no_conflict, cycle_by, same_in}

module _ (nodes : List Node) (facts : List Fact) (merged : List (ℕ × ℕ)) (edges : List Edge) (sound : AreSound nodes facts merged edges) where
  pub contradiction_is : (l : Fact) → IsFine nodes l → Contains facts l → IsContradicted nodes merged edges l → Conflict nodes facts
  contradiction_is (fs.Equal a b) f m h = absurd h
  contradiction_is (fs.NotEqual a b) f m h = denied_equality m (same_by nodes facts merged edges sound h)
  contradiction_is (fs.AtMost x y c) f m h = absurd h
  contradiction_is (fs.Difference x y c) f m h = absurd h
  contradiction_is (fs.NotDifference x y c) f m h = denied_difference m (near_by nodes facts merged edges sound f.3 h.0) (near_by nodes facts merged edges sound f.4 h.1)
  contradiction_is fs.False f m h = falsehood m

  pub clash_is : (x y : ℕ) → Clash nodes merged x y → Conflict nodes facts
  clash_is x y p = clash p.heads (same_by nodes facts merged edges sound p.same)

  pub verdict_is : ((l : Fact) → Contains facts l → IsFine nodes l) → AreComplete nodes facts merged edges → (HasNegativeCycle edges → ⊥) → ((x y : ℕ) → x < length nodes → y < length nodes → Clash nodes merged x y → ⊥) →
      (b : Bool) → MatchBool b ((l : Fact) × Contains facts l × IsContradicted nodes merged edges l) ((l : Fact) → Contains facts l → IsContradicted nodes merged edges l → ⊥) →
      (b ≡ true → Conflict nodes facts) × (Conflict nodes facts → b ≡ true)
  verdict_is fines complete fine pairs true h = (λ t. contradiction_is h.0 (fines h.0 h.1) h.1 h.2, λ k. refl)
  verdict_is fines complete fine pairs false h = (λ t. absurd (cc), λ k. absurd (no_conflict nodes facts merged edges complete none fine k))
    where
      none : ShowNoConflict nodes facts merged edges
      none = record {
        heads = λ x y i j heads same. pairs x y i j (record { heads = heads; same = same });
        unequal = λ x y m s. h (fs.NotEqual x y) m s;
        differ = λ x y c m p q. h (fs.NotDifference x y c) m (p, q);
        not_false = λ m. h fs.False m tt;
      }
