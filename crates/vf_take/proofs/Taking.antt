-- Taking a share of a chunk out of a heap.
use Rattle.std.proofs.Common.{◌≡◌, refl, sym, subst, ap, Result, Ok, Err, true, false, List, [], length}
use Rattle.std.specs.Prelude.{Option, Some, None, slice_get}
use Rattle.vf_base.specs.declared.refusal.Refusal.{Refusal}
use Rattle.vf_base.specs.declared.refusal.RuleFault.{RuleFault}
use Rattle.vf_base.specs.declared.refusal.RuleFault.TheVariants.{Refused, Memory}
use Rattle.vf_base.specs.declared.rule.Rule.TheVariants as rules
use Rattle.vf_closure.specs.Literals.{Literal}
use Rattle.vf_asking.specs.Journal.{Seen}
use Rattle.vf_asking.specs.Course.{refusal, Follows, Blames}
use Rattle.vf_asking.proofs.Following.{follows_done, follows_try, follows_if, follows_unless, blames_try, blames_later, blames_memory, blames_refused}
use Rattle.vf_asking.proofs.Seeing.{grew_not, grew_on, grew_path, grew_node, grew_begun}
use Rattle.vf_chunk.specs.declared.chunk.Chunk.{Chunk}
use Rattle.vf_chunk.specs.Heads.{is_primitive}
use Rattle.vf_take.specs.declared.wanted.Places.{Places}
use Rattle.vf_take.specs.declared.wanted.Found.{Found}
use Rattle.vf_take.specs.declared.wanted.Taken.{Taken}
use Rattle.vf_take.specs.declared.wanted.Wanted.{Wanted}
use Rattle.vf_take.specs.Results.{Faults}
use Rattle.vf_take.specs.Takes.{finds, taken_at, beside}
use Rattle.vf_take.specs.Merges.{merging, taken_or_merged, takes}
use Rattle.vf_take.proofs.Results.{done_gives, done_faults, not_both}

pub beside_faults : (path : List Literal) (r : Result Taken Refusal) (f : RuleFault) → Faults r f → Faults (beside path r) f
beside_faults path r (Refused e) h = ap (beside path) h
beside_faults path r Memory h = tt

module _ (places : Places) (path : List Literal) (w : Wanted) (cs : List Chunk) (s t : Seen) where
  -- a chunk that fits
  pub taken_found : (f : Option Found) (x : Found) (r : Taken) → f ≡ Some x → taken_at places cs x.at x.portion (slice_get cs x.at) ≡ Ok r → Follows (taken_or_merged places path w cs f) s s (Ok (r, path))
  taken_found f x r e g = subst (λ z. Follows (taken_or_merged places path w cs z) s s (Ok (r, path))) (sym e) (done_gives _ (r, path) s (ap (beside path) g))

  pub taken_refused : (f : Option Found) (x : Found) (q : RuleFault) → f ≡ Some x → Faults (taken_at places cs x.at x.portion (slice_get cs x.at)) q → Blames (taken_or_merged places path w cs f) s s q
  taken_refused f x q e g = subst (λ z. Blames (taken_or_merged places path w cs z) s s q) (sym e) (done_faults _ q s (beside_faults path _ q g))

  -- no chunk alone fits
  pub taken_no_location : (f : Option Found) (q : RuleFault) → f ≡ None → is_primitive w.head.name ≡ false → q ≡ Refused (refusal rules.NoChunk places.part) → Blames (taken_or_merged places path w cs f) s s q
  taken_no_location f q e n is =
      subst (λ z. Blames (taken_or_merged places path w cs z) s s q) (sym e)
      (subst (λ (x : RuleFault). Blames (taken_or_merged places path w cs None) s s x) (sym is)
      (blames_refused _ s s (refusal rules.NoChunk places.part) (follows_unless (is_primitive w.head.name) _ _ s s (Err (refusal rules.NoChunk places.part)) (not_both (is_primitive w.head.name) n) (follows_done _ _ s s refl refl))))

  pub taken_merged : (f : Option Found) (y : Result (Taken × List Literal) Refusal) → f ≡ None → is_primitive w.head.name ≡ true → Follows (merging (length cs) places path w [] cs) s t y → Follows (taken_or_merged places path w cs f) s t y
  taken_merged f y e g p = subst (λ z. Follows (taken_or_merged places path w cs z) s t y) (sym e) (follows_if (is_primitive w.head.name) _ _ s t y g p)

  pub taken_merged_fail : (f : Option Found) (q : RuleFault) → f ≡ None → is_primitive w.head.name ≡ true → Blames (merging (length cs) places path w [] cs) s t q → Blames (taken_or_merged places path w cs f) s t q
  unfolding Blames
  taken_merged_fail f (Refused x) e g p = taken_merged f (Err x) e g p
  taken_merged_fail f Memory e g p = tt

pub ruleset following = (taken_found, taken_refused, taken_no_location, taken_merged, taken_merged_fail, grew_not)

module _ (places : Places) (path : List Literal) (w : Wanted) (cs : List Chunk) (s t u : Seen) where
  pub takes_fail : (q : RuleFault) → Blames (finds places path w cs 0) s t q → Blames (takes places path w cs) s t q
  unfolding takes
  takes_fail q p = blames_try (finds places path w cs 0) (taken_or_merged places path w cs) s t q p

  pub takes_gives : (here : List Literal) (f : Option Found) (y : Result (Taken × List Literal) Refusal) → here ≡ path → Follows (finds places path w cs 0) s t (Ok f) → Follows (taken_or_merged places here w cs f) t u y → Follows (takes places path w cs) s u y
  unfolding takes
  takes_gives here f y same p q =
      follows_try (finds places path w cs 0) (taken_or_merged places path w cs) s t u f y p (subst (λ (x : List Literal). Follows (taken_or_merged places x w cs f) t u y) same q)

  pub takes_later : (here : List Literal) (f : Option Found) (q : RuleFault) → here ≡ path → Follows (finds places path w cs 0) s t (Ok f) → Blames (taken_or_merged places here w cs f) t u q → Blames (takes places path w cs) s u q
  unfolding takes
  takes_later here f q same p h =
      blames_later (finds places path w cs 0) (taken_or_merged places path w cs) s t u f q p (subst (λ (x : List Literal). Blames (taken_or_merged places x w cs f) t u q) same h)

pub ruleset taking = (takes_fail, takes_gives, takes_later, blames_memory, grew_not, grew_on, grew_path, grew_node, grew_begun)
