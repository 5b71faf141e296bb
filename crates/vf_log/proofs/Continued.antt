-- A log goes on, and ends in a refutation.
use Rattle.std.proofs.Common.{◌≡◌, ℕ, List, [], ◌∷◌, ◌++◌, length, Some, refl, sym, ◌∙◌, ap, subst, arith, length-append}
use Rattle.std.proofs.lemmas.Option.{slice_get_within, get_or_from_slice_get, slice_get-get_or}
use Rattle.std.proofs.lemmas.List.{get_or_append_left, get_or_push}
use Rattle.std.proofs.Math.Decide.{ℕ_discrete}
use Rattle.std.specs.Prelude.{slice_get, ◌+◌, ◌<◌}
use Rattle.vf_table.specs.declared.node.Node.{Node}
use Rattle.vf_log.specs.Copies.{IsCopy, HaveSameTerms}
use Rattle.vf_refute.specs.declared.steps.Fact.{Fact}
use Rattle.vf_refute.specs.declared.steps.Derived.{Derived}
use Rattle.vf_refute.specs.declared.steps.Step.{Step}
use Rattle.vf_refute.specs.Refutations.{HasDerived, Derives, IsWithinLimit, IsConflict, Refute}
use Rattle.vf_log.specs.Derivations.{Derivation, AreDerived, HasAdded, IsContinued}

module _ (nodes : List Node) (facts : List Fact) where
  pub derived_more : (steps : List Step) (known after : List Derived) (step : Step) (d : Derived) → AreDerived nodes facts known steps after → Derives nodes facts after step d → IsWithinLimit d → AreDerived nodes facts known (steps ++ step ∷ []) (after ++ d ∷ [])
  derived_more [] known after step d h k w = (d, subst (λ (z : List Derived). Derives nodes facts z step d) h k, w, ap (λ (z : List Derived). z ++ d ∷ []) h)
  derived_more (first ∷ more) known after step d h k w = (h.0, h.1, h.2, derived_more more (known ++ h.0 ∷ []) after step d h.3 k w)

  -- steps that derive all that a last step needs are a refutation with it
  pub refute_at_last : (steps : List Step) (known after : List Derived) (last : Step) → AreDerived nodes facts known steps after → IsConflict nodes facts after last → Refute nodes facts known (steps ++ last ∷ [])
  refute_at_last [] known after last h k = subst (λ (z : List Derived). IsConflict nodes facts z last) h k
  refute_at_last (first ∷ []) known after last h k = (h.0, h.1, h.2, subst (λ (z : List Derived). IsConflict nodes facts z last) h.3 k)
  refute_at_last (first ∷ next ∷ more) known after last h k = (h.0, h.1, h.2, refute_at_last (next ∷ more) (known ++ h.0 ∷ []) after last h.3 k)

-- what a longer list has
pub has_kept : {X : Type 0} (xs : List X) (d e : X) (a : ℕ) → slice_get xs a ≡ Some e → slice_get (xs ++ d ∷ []) a ≡ Some e
has_kept xs d e a h =
    let l = slice_get_within xs a e h in
    slice_get-get_or (xs ++ d ∷ []) a e (simp length-append (omega arith)) ∙ ap Some (get_or_append_left xs (d ∷ []) e a l ∙ get_or_from_slice_get xs a e e h)

pub has_last : {X : Type 0} (xs : List X) (d : X) (s : ℕ) → s ≡ length xs → slice_get (xs ++ d ∷ []) s ≡ Some d
has_last xs d s e = slice_get-get_or (xs ++ d ∷ []) s d (simp length-append (omega arith)) ∙ ap Some (get_or_push xs d d s (sym e))

-- one node more is copied
pub copied_more : (nodes copies : List Node) (i : ℕ) (node copy : Node) → length copies ≡ i → slice_get nodes i ≡ Some node → IsCopy node copy →
    ((a : ℕ) (n : Node) → a < i → slice_get nodes a ≡ Some n → (c : Node) × (slice_get copies a ≡ Some c) × IsCopy n c) →
    (a : ℕ) (n : Node) → a < i + 1 → slice_get nodes a ≡ Some n → (c : Node) × (slice_get (copies ++ copy ∷ []) a ≡ Some c) × IsCopy n c
copied_more nodes copies i node copy long found new all a n l e = elim (ℕ_discrete a i) [
  | yes p ↦ (copy, has_last copies copy a (p ∙ sym long), let q : node ≡ n = let f = ap (slice_get nodes) p in cc in subst (λ (z : Node). IsCopy z copy) q new)
  | no p ↦ let r = all a n (omega arith) e in (r.0, has_kept copies copy r.0 a r.1, r.2)
]

-- an added step derived what it says
pub added_has : {before after : Derivation} {s : ℕ} {d : Derived} → HasAdded before after s d → HasDerived after.known s d
added_has {before = before} {s = s} {d = d} h = subst (λ (z : List Derived). HasDerived z s d) (sym h.known) (has_last before.known d s h.number)

pub added_continues : {before after : Derivation} {s : ℕ} {d : Derived} → HasAdded before after s d → IsContinued before after
added_continues {before = before} {d = d} h = record {
  nodes = h.nodes;
  facts = h.facts;
  kept = λ a e k. subst (λ (z : List Derived). HasDerived z a e) (sym h.known) (has_kept before.known d e a k);
}

pub continued_none : (l : Derivation) → IsContinued l l
continued_none l = record { nodes = refl; facts = refl; kept = λ a d h. h }

pub continued_more : {x y z : Derivation} → IsContinued x y → IsContinued y z → IsContinued x z
continued_more h k = record { nodes = k.nodes ∙ h.nodes; facts = k.facts ∙ h.facts; kept = λ a d m. k.kept a d (h.kept a d m) }

pub same_kept : {nodes : List Node} {before after : Derivation} → IsContinued before after → HaveSameTerms nodes before.nodes → HaveSameTerms nodes after.nodes
same_kept {nodes = nodes} h k = subst (HaveSameTerms nodes) (sym h.nodes) k
