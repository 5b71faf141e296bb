-- Accepted lemmas of linked units hold: in the order of their calls, each where those before it do.
use Rattle.std.specs.Prelude.{Contains}
use Rattle.std.proofs.Common.{◌≡◌, ◌⊎◌, ℕ, ◌<◌, List, [], ◌∷◌, Option, Some, None, refl, sym, ap, subst, ◌∙◌, inl, inr, arith}
use Rattle.vf_tree.specs.Core.{Identity, ProgramTree}
use Rattle.vf_meaning.specs.Valuations.{Valuation}
use Rattle.vf_meaning.specs.Assertions.{ContractTree, Environment}
use Rattle.vf_meaning.specs.Environments.{option_or, IsContractOf}
use Rattle.vf_meaning.specs.Parts.{Part}
use Rattle.vf_rules.specs.Lemmas.{Fall, Gives, LemmaHolds}
use Rattle.vf_lemmas.proofs.Accepted.{HoldsHere, accepted_holds}
use Rattle.vf_linked.specs.CallOrder.{CallsOther, IsCallOrder}
use Rattle.vf_linked.specs.Lemmas.{lemma_under, HoldsUnder, CalledHold, LemmaKeepsContracts, LinkedLemmasHold}
use Rattle.vf_linked.proofs.CallOrder.{calls_are_ordered}
use Rattle.vf_linked.proofs.Members.{empty, either_in, first_in, later_in}
use Rattle.vf_linked.proofs.Refined.{refined_lemmas_hold}

some_same : {A : Type 0} {x y : A} → Some x ≡ Some y → x ≡ y
some_same e = cc

module _ (e : Environment) (p : ProgramTree) where
  -- what falls does not matter once a lemma holds
  regiven : (g : Identity) (k : ContractTree) (falls other : Fall) (under : Valuation) (q : Part) → Gives e (lemma_under g k falls) under q → Gives e (lemma_under g k other) under q
  regiven g k falls other under q h = record { kept = h.kept; leaked = h.leaked; sums = h.sums; ensured = h.ensured; unleaked = h.unleaked }

  any_fall : (g : Identity) (k : ContractTree) (falls : Fall) → LemmaHolds e p (lemma_under g k falls) → HoldsUnder e p g k
  any_fall g k falls h other under q of_sorts typed required = regiven g k falls other under q (h under q of_sorts typed required)

  -- a lemma that keeps its contracts holds under each where the others that it calls hold
  lemma_holds : (g : Identity) → LemmaKeepsContracts e p g → CalledHold e p g → (k : ContractTree) → IsContractOf e g k → HoldsUnder e p g k
  lemma_holds g keeps called k of = by_table of
    where
      nothing_before : (i : ℕ) → i < 0 → HoldsHere e p (lemma_under g keeps.own keeps.falls ∷ []) i
      nothing_before i l = absurd (omega (arith, l))

      own_holds : LemmaHolds e p (lemma_under g keeps.own keeps.falls)
      own_holds = accepted_holds e p (lemma_under g keeps.own keeps.falls ∷ []) 0 (lemma_under g keeps.own keeps.falls) refl (keeps.accepted called) nothing_before

      same : keeps.own ≡ k → HoldsUnder e p g k
      same is = subst (HoldsUnder e p g) is (any_fall g keeps.own keeps.falls own_holds)

      by_definition : (o : Option ContractTree) → e.functions g ≡ o → e.prototypes g ≡ Some k → HoldsUnder e p g k
      by_definition None none known = same (some_same (sym keeps.is_own ∙ ap (λ z. option_or z (e.prototypes g)) none ∙ known))
      by_definition (Some defined) is known =
          let own_is : keeps.own ≡ defined = some_same (sym keeps.is_own ∙ ap (λ z. option_or z (e.prototypes g)) is) in
          any_fall g k keeps.falls (refined_lemmas_hold e p (lemma_under g defined keeps.falls) (lemma_under g k keeps.falls) refl (any_fall g defined keeps.falls (subst (λ z. LemmaHolds e p (lemma_under g z keeps.falls)) own_is own_holds) keeps.falls) (keeps.refines defined k is known))

      by_table : IsContractOf e g k → HoldsUnder e p g k
      by_table (inl known) = same (some_same (sym keeps.is_own ∙ ap (λ z. option_or z (e.prototypes g)) known))
      by_table (inr known) = by_definition (e.functions g) refl known

  -- a lemma holds under each of its contracts
  abbrev Holds : Identity → Type 0
  Holds g = (k : ContractTree) → IsContractOf e g k → HoldsUnder e p g k

  -- lemmas in the order of their calls hold where those before them do
  in_order : (before lemmas : List Identity) → IsCallOrder e lemmas → ((g : Identity) → Contains lemmas g → LemmaKeepsContracts e p g) → ((h : Identity) → Contains before h → Holds h)
      → ((g h : Identity) → Contains lemmas g → CallsOther e g h → (Contains before h ⊎ Contains lemmas h) ⊎ Holds h) → (g : Identity) → Contains lemmas g → Holds g
  in_order before [] ordered keep hold calls g there = empty there
  in_order before (x ∷ xs) ordered keep hold calls g there =
      let first : Holds x = lemma_holds x (keep x (first_in x xs)) (λ h k called of. elim (calls x h (first_in x xs) called) [
        | inl (inl earlier) ↦ hold h earlier k of
        | inl (inr listed) ↦ elim (either_in x h xs listed) [ inl own ↦ absurd (called.other (sym own)) | inr later ↦ absurd (ordered.0 h later called) ]
        | inr other ↦ other k of
      ]) in
      elim (either_in x g xs there) [
        | inl own ↦ subst Holds own first
        | inr later ↦ in_order (x ∷ before) xs ordered.1 (λ h c. keep h (later_in x h xs c)) (λ h c. elim (either_in x h before c) [ inl own ↦ subst Holds own first | inr earlier ↦ hold h earlier ]) (λ f h c called. elim (calls f h (later_in x f xs c) called) [
          | inl (inl earlier) ↦ inl (inl (later_in x h before earlier))
          | inl (inr listed) ↦ elim (either_in x h xs listed) [ inl own ↦ inl (inl (subst (Contains (x ∷ before)) own (first_in x before))) | inr rest ↦ inl (inr rest) ]
          | inr other ↦ inr other
        ]) g later
      ]

pub linked_lemmas_hold : LinkedLemmasHold
linked_lemmas_hold e p lemmas h g k there of =
    let (order, ordered, same) = calls_are_ordered e lemmas h.acyclic in
    in_order e p [] order ordered (λ f c. h.keep f ((same f).1 c)) (λ f c. empty c) (λ f l c called. elim (h.others f l ((same f).1 c) called) [ inl listed ↦ inl (inr ((same l).0 listed)) | inr holds ↦ inr holds ]) g ((same g).0 there) k of
