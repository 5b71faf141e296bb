-- How a run begins, closes and ends.
use Rattle.std.proofs.Common.{◌≡◌, ℕ, ◌<◌, inl, inr, List, [], length, Option, Some, None, refl, sym, ◌∙◌, subst, arith, slice_get}
use Rattle.std.specs.Prelude.{ℤ, Contains, MatchOption}
use Rattle.std.proofs.lemmas.Option.{slice_get_within, get_or_from_slice_get}
use Rattle.vf_table.specs.declared.node.Node.{Node}
use Rattle.vf_congruence.specs.Explained as equalities
use Rattle.vf_arith.specs.declared.bounds.Edge.{Edge}
use Rattle.vf_arith.specs.Paths.{HasNegativeCycle}
use Rattle.vf_refute.specs.declared.steps.Fact.{Fact}
use Rattle.vf_refute.specs.declared.steps.Fact.TheVariants as fs
use Rattle.vf_refute.specs.declared.steps.Derived.{Derived}
use Rattle.vf_refute.specs.declared.steps.Derived.TheVariants.{AreEqual, AreWithin}
use Rattle.vf_refute.specs.Closure.{Conflict}
use Rattle.vf_refute.specs.Refutations.{HasDerived, IsImpossible, IsDenied}
use Rattle.vf_log.specs.Copies.{HaveSameTerms}
use Rattle.vf_log.specs.Derivations.{Derivation, IsContinued}
use Rattle.vf_explain.specs.Reached as bounds_
use Rattle.vf_ground.specs.Held.{HasFact, HasTerm, AllAgree, AreComplete, ShowNoConflict, IsContradicted, Clash}
use Rattle.vf_ground.proofs.Closing.{no_conflict}
use Rattle.vf_ground.proofs.Gained.{fact_kept, term_kept}
use Rattle.vf_refuting.specs.declared.run.Run.{Run}
use Rattle.vf_refuting.specs.Runs.{IsRun, GoesOn, HaveDerivedBoth}
use Rattle.vf_refuting.proofs.Copied.{reversed, heads_kept, term_copied, conflict_copied}

pub told_none : {A : Type 0} (o : Option A) (N : Type 0) (S : A → Type 0) → o ≡ None → MatchOption o N S → N
told_none o N S e h = subst (λ z. MatchOption z N S) e h

pub contains_got : (facts : List Fact) (i : ℕ) (l : Fact) → slice_get facts i ≡ Some l → Contains facts l
contains_got facts i l h = (i, slice_get_within facts i l h, get_or_from_slice_get facts i l l h)

pub cycle_ends : (nodes : List Node) (facts : List Fact) (known : List Derived) (s : ℕ) → bounds_.IsBelowItself known s → IsImpossible nodes facts known s
cycle_ends nodes facts known s h = record { derived = AreWithin h.point h.point h.total; has = h.derived; cannot = (refl, h.below) }

pub clash_ends : (before after : Run) (x y s : ℕ) → IsRun before → GoesOn before after → Clash before.classes.nodes before.classes.merged x y → HasDerived after.log.known s (AreEqual x y) → IsImpossible after.log.nodes after.log.facts after.log.known s
clash_ends before after x y s h g k d =
    let heads = heads_kept before.classes.nodes before.log.nodes h.terms x y k.heads in
    record { derived = AreEqual x y; has = d; cannot = inl (rw g.log.nodes heads) }

pub equality_ends : (before after : Run) (i x y s : ℕ) → GoesOn before after → slice_get before.log.facts i ≡ Some (fs.NotEqual x y) → HasDerived after.log.known s (AreEqual x y) → IsImpossible after.log.nodes after.log.facts after.log.known s
equality_ends before after i x y s g there d =
    let m = contains_got before.log.facts i (fs.NotEqual x y) there in
    record { derived = AreEqual x y; has = d; cannot = inr (subst (λ (l : List Fact). Contains l (fs.NotEqual x y)) (sym g.log.facts) m) }

pub difference_ends : (before after : Derivation) (i x y a b : ℕ) (c : ℤ) → IsContinued before after → slice_get before.facts i ≡ Some (fs.NotDifference x y c) → HaveDerivedBoth after.known x y c a b → IsDenied after.facts after.known a b
difference_ends before after i x y a b c g there d =
    let m = contains_got before.facts i (fs.NotDifference x y c) there in
    record { x = x; y = y; c = c; above = d.up; below = d.down; denied = subst (λ (l : List Fact). Contains l (fs.NotDifference x y c)) (sym g.facts) m }

pub none_ends : (nodes : List Node) (facts : List Fact) (merged : List (ℕ × ℕ)) (edges : List Edge) → AreComplete nodes facts merged edges → (HasNegativeCycle edges → ⊥) → ((x y : ℕ) → x < length nodes → y < length nodes → Clash nodes merged x y → ⊥) → ((l : Fact) → Contains facts l → IsContradicted nodes merged edges l → ⊥) → Conflict nodes facts → ⊥
none_ends nodes facts merged edges complete fine pairs h = no_conflict nodes facts merged edges complete none fine
  where
    none : ShowNoConflict nodes facts merged edges
    none = record {
      heads = λ x y i j heads same. pairs x y i j (record { heads = heads; same = same });
      unequal = λ x y m s. h (fs.NotEqual x y) m s;
      differ = λ x y c m p q. h (fs.NotDifference x y c) m (p, q);
      not_false = λ m. h fs.False m tt;
    }

pub nothing_equal : (known : List Derived) (merged : List (ℕ × ℕ)) (reasons : List ℕ) → merged ≡ [] → reasons ≡ [] → equalities.AreReasons known merged reasons
nothing_equal known merged reasons m r =
    subst (λ (l : List (ℕ × ℕ)). equalities.AreReasons known l reasons) (sym m) (subst (λ (l : List ℕ). equalities.AreReasons known [] l) (sym r) (record { long = refl; each = λ i x y h. absurd cc }))

pub nothing_within : (known : List Derived) (edges : List Edge) (reasons : List ℕ) → edges ≡ [] → reasons ≡ [] → bounds_.AreReasons known edges reasons
nothing_within known edges reasons m r =
    subst (λ (l : List Edge). bounds_.AreReasons known l reasons) (sym m) (subst (λ (l : List ℕ). bounds_.AreReasons known [] l) (sym r) (record { long = refl; each = λ i e h. absurd cc }))

-- all that the closure holds is there at last
pub all_complete : (a b c d : Run) → GoesOn a b → GoesOn b c → GoesOn c d → ((l : Fact) → Contains a.log.facts l → HasFact b.classes.merged b.bounds.edges l) → ((x : ℕ) → x < length b.log.nodes → HasTerm b.log.nodes c.bounds.edges x) → AllAgree d.classes.nodes d.classes.merged d.bounds.edges → AreComplete d.classes.nodes d.log.facts d.classes.merged d.bounds.edges
all_complete a b c d g h k has terms settled = record {
  facts_in = λ l m. fact_kept b.classes.merged b.bounds.edges d.classes.merged d.bounds.edges (λ x y w. k.merged x y (h.merged x y w)) (λ e w. k.edges e (h.edges e w)) l
      (has l (subst (λ (fs' : List Fact). Contains fs' l) (k.log.facts ∙ h.log.facts ∙ g.log.facts) m));
  terms_in = λ x i.
      let same : HaveSameTerms d.classes.nodes b.log.nodes = subst (λ (ns : List Node). HaveSameTerms d.classes.nodes ns) (k.log.nodes ∙ h.log.nodes) k.is.terms in
      let long = same.long in
      term_copied b.log.nodes d.classes.nodes d.bounds.edges x same
      (term_kept b.log.nodes c.bounds.edges d.bounds.edges k.edges x (terms x (omega (arith, long, i))));
  settled = settled;
}

-- what the closure over the classes' terms has not, that over the question's has not either
pub none_at_all : (first last : Run) (nodes : List Node) (facts : List Fact) → GoesOn first last → first.log.nodes ≡ nodes → first.log.facts ≡ facts → (Conflict last.classes.nodes last.log.facts → ⊥) → Conflict nodes facts → ⊥
none_at_all first last nodes facts g n f none k =
    none (subst (λ (l : List Fact). Conflict last.classes.nodes l) (sym (g.log.facts ∙ f))
    (conflict_copied nodes last.classes.nodes facts (subst (λ (ns : List Node). HaveSameTerms ns last.classes.nodes) (g.log.nodes ∙ n) (reversed last.classes.nodes last.log.nodes g.is.terms)) k))
