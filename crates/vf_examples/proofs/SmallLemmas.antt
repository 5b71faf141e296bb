-- The lemmas of the example are accepted.
use Rattle.std.proofs.Common.{◌≡◌, zero, suc, [], ◌∷◌, Some, None, subst}
use Rattle.vf_lemmas.specs.Proves.{IsAcceptedLemma}
use Rattle.vf_examples.specs.SmallLemmas.{lemma_environment, no_program, reopen, visit, walk, LemmasAreAccepted}
use Rattle.vf_examples.proofs.Reopened.{reopen_is_accepted}
use Rattle.vf_examples.proofs.Walked.{visit_is_accepted, walk_is_accepted}

some_same : {A : Type 0} {x y : A} → Some x ≡ Some y → x ≡ y
some_same e = cc

none_some : {A B : Type 0} {x : A} → None ≡ Some x → B
none_some e = cc

pub lemmas_are_accepted : LemmasAreAccepted
lemmas_are_accepted zero lemma is = subst (IsAcceptedLemma lemma_environment no_program (reopen ∷ visit ∷ walk ∷ []) 0) (some_same is) reopen_is_accepted
lemmas_are_accepted (suc zero) lemma is = subst (IsAcceptedLemma lemma_environment no_program (reopen ∷ visit ∷ walk ∷ []) 1) (some_same is) visit_is_accepted
lemmas_are_accepted (suc (suc zero)) lemma is = subst (IsAcceptedLemma lemma_environment no_program (reopen ∷ visit ∷ walk ∷ []) 2) (some_same is) walk_is_accepted
lemmas_are_accepted (suc (suc (suc k))) lemma is = none_some is
