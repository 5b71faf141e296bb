-- What a thread that has ended leaves, by what it owed at first.
use Rattle.std.proofs.Common.{◌≡◌, ℕ, [], ◌∷◌, Option, Some, None, refl, sym, ap, subst, ◌∙◌, inl, inr, arith}
use Rattle.vf_tree.specs.Core.{Identity}
use Rattle.vf_model.specs.Values.{Dyadic, Value}
use Rattle.vf_model.specs.Values as values
use Rattle.vf_meaning.specs.Fractions.{whole, product}
use Rattle.vf_meaning.specs.Ghost.{Numbered, This}
use Rattle.vf_meaning.specs.Valuations.{Valuation}
use Rattle.vf_meaning.specs.Assertions.{Environment}
use Rattle.vf_meaning.specs.Parts.{Part, nothing, ◌⊕◌, IsSum}
use Rattle.vf_meaning.specs.Chunks.{Just}
use Rattle.vf_meaning.specs.Satisfaction.{SatisfiesFamily, MeansAt}
use Rattle.vf_meaning.specs.ShareOuts.{SatisfiesPost}
use Rattle.vf_meaning.specs.Kept.{with_result, Ensures}
use Rattle.vf_meaning.proofs.Parts.{sums_turn, nothing-⊕}
use Rattle.vf_rules.specs.Threads.{thread_run_post, run, run_joinable}
use Rattle.vf_safety.specs.Safe.{Duty, Done, IsPlain, IsJoinable}
use Rattle.vf_safety.proofs.Mutexes.{full_is}

all_given : (given rest own : Part) → rest ≡ nothing → IsSum given rest own → own ≡ given
all_given given rest own none sums = (sums_turn given rest own sums).adds ∙ ap (λ z. z ⊕ given) none ∙ nothing-⊕ given

-- a thread that nobody joins leaves nothing
pub plain_left : (e : Environment) (d : Duty) (result : Option Value) (own : Part) → IsPlain d → Done e d result own → own ≡ nothing
plain_left e d result own plain (given, ensured, sums) = all_given given d.rest own plain.rest sums ∙ nothing_there (subst (λ k. Ensures e k d.names result given) plain.contract ensured)
  where
    nothing_there : Ensures e run d.names result given → given ≡ nothing
    nothing_there h = (h.satisfies).1

-- what the names of a contract are with a result
result_this : (w : Valuation) (result : Option Value) → with_result w result This ≡ w This
result_this w None = refl
result_this w (Some v) = refl

result_number : (w : Valuation) (result : Option Value) (k : ℕ) → with_result w result (Numbered k) ≡ w (Numbered k)
result_number w None k = refl
result_number w (Some v) k = refl

post_by : (e : Environment) (n : ℕ) (c : Dyadic) (w : Valuation) (run : Identity) (argument info : Value) (q : Part) → product whole c ≡ whole → w This ≡ values.Function run → w (Numbered 0) ≡ argument → w (Numbered 1) ≡ info
    → SatisfiesFamily (MeansAt e n) (product whole c) thread_run_post (w This) (Just (w (Numbered 0)) ∷ Just (w (Numbered 1)) ∷ []) q → SatisfiesPost e run argument info q
post_by e n c w run argument info q share this_is first second h = (
  n,
  subst (λ i. SatisfiesFamily (MeansAt e n) whole thread_run_post (values.Function run) (Just argument ∷ Just i ∷ []) q) second
      (subst (λ a. SatisfiesFamily (MeansAt e n) whole thread_run_post (values.Function run) (Just a ∷ Just (w (Numbered 1)) ∷ []) q) first
      (subst (λ f. SatisfiesFamily (MeansAt e n) whole thread_run_post f (Just (w (Numbered 0)) ∷ Just (w (Numbered 1)) ∷ []) q) this_is
      (subst (λ x. SatisfiesFamily (MeansAt e n) x thread_run_post (w This) (Just (w (Numbered 0)) ∷ Just (w (Numbered 1)) ∷ []) q) share h))),
)

-- a thread that is joined leaves what the handle says
pub joinable_left : (e : Environment) (d : Duty) (run : Identity) (argument info : Value) (result : Option Value) (own : Part) → IsJoinable d run argument info → Done e d result own → SatisfiesPost e run argument info own
joinable_left e d run argument info result own joinable (given, ensured, sums) =
    subst (SatisfiesPost e run argument info) (sym (all_given given d.rest own joinable.rest sums)) (left_by (subst (λ k. Ensures e k d.names result given) joinable.contract ensured))
  where
    left_by : Ensures e run_joinable d.names result given → SatisfiesPost e run argument info given
    left_by h =
        let (n, (c, share, family)) = h.satisfies in
        post_by e n c (with_result h.later result) run argument info given (full_is share.is)
        (result_this h.later result ∙ h.fixed This tt ∙ joinable.this_one)
        (result_number h.later result 0 ∙ h.fixed (Numbered 0) (inl (omega arith)) ∙ joinable.argument_is)
        (result_number h.later result 1 ∙ h.fixed (Numbered 1) (inr (inr (inr (inr (inl refl))))) ∙ joinable.info_is) family
