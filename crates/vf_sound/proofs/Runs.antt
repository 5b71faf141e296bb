-- Runs, event by event, and races.
use Rattle.std.proofs.Common.{◌≡◌, ℕ, zero, suc, ◌<◌, List, [], ◌∷◌, length, take, Option, Some, None, slice_get, refl, ap, arith}
use Rattle.std.specs.Prelude.{IsTrue}
use Rattle.std.specs.List.{fold}
use Rattle.std.proofs.lemmas.Option.{slice_get_within}
use Rattle.vf_tree.specs.Core.{ProgramTree}
use Rattle.vf_model.specs.declared.words.Event.{Event}
use Rattle.vf_model.specs.State.{Thread, End, State}
use Rattle.vf_model.specs.Acts.{Touch}
use Rattle.vf_model.specs.Races.{next_touch, touch_in, touch_unended}
use Rattle.vf_model.specs.Steps.{act_by, next_act}
use Rattle.vf_model.specs.Runs.{opening, after}
use Rattle.vf_meaning.specs.Kept.{before}
use Rattle.vf_sound.specs.Laws.{EventsFollow, TestsHoldThroughout, OneThreadHasNoRace}

module _ (p : ProgramTree) where
  one_more : (s : State) (events : List Event) (k : ℕ) (event : Event) → slice_get events k ≡ Some event → fold (after p) s (take (suc k) events) ≡ after p (fold (after p) s (take k events)) event
  one_more s [] k event is = absurd (none_some is)
    where
      none_some : {A : Type 0} {x : A} → None ≡ Some x → ⊥
      none_some e = cc
  one_more s (x ∷ xs) zero event is = let same : x ≡ event = cc in ap (after p s) same
  one_more s (x ∷ xs) (suc k) event is = one_more (after p s x) xs k event is

  no_more : (s : State) (events : List Event) (k : ℕ) → slice_get events k ≡ None → fold (after p) s (take (suc k) events) ≡ fold (after p) s (take k events)
  no_more s [] zero is = refl
  no_more s [] (suc k) is = refl
  no_more s (x ∷ xs) zero is = absurd (some_none is)
    where
      some_none : {A : Type 0} {x : A} → Some x ≡ None → ⊥
      some_none e = cc
  no_more s (x ∷ xs) (suc k) is = no_more (after p s x) xs k is

pub events_follow : EventsFollow
events_follow p events = (refl, one_more p (opening p) events, no_more p (opening p) events)

-- what holds of the opening state and is kept by each event holds of each state that a list of events comes to
pub holds_throughout : (p : ProgramTree) (Holds : State → Type 0) → Holds (opening p) → ((s : State) (event : Event) → Holds s → Holds (after p s event)) → (events : List Event) (k : ℕ) → Holds (before p events k)
holds_throughout p Holds first keeps events k = throughout (opening p) (take k events) first
  where
    throughout : (s : State) (es : List Event) → Holds s → Holds (fold (after p) s es)
    throughout s [] h = h
    throughout s (e ∷ es) h = throughout (after p s e) es (keeps s e h)

pub tests_hold_throughout : TestsHoldThroughout
tests_hold_throughout p test first keeps events k = holds_throughout p (λ s. IsTrue (test s)) first keeps events k

-- ---- races
-- no touch is one
no_touch : {x : Touch} → None ≡ Some x → ⊥
no_touch e = cc

module _ (p : ProgramTree) (s : State) (t : ℕ) (touch : Touch) where
  touches_unended : (end : Option End) → touch_unended p s t end ≡ Some touch → touch_in (next_act p s t) ≡ Some touch
  touches_unended None is = is
  touches_unended (Some end) is = absurd (no_touch is)

  known_thread : (o : Option Thread) → touch_in (act_by p s t o) ≡ Some touch → (thread : Thread) × (o ≡ Some thread)
  known_thread None is = absurd (no_touch is)
  known_thread (Some thread) is = (thread, refl)

  -- a thread whose next step touches something was started
  pub touching_is_started : next_touch p s t ≡ Some touch → t < length s.threads
  touching_is_started is = let known = known_thread (slice_get s.threads t) (touches_unended s.end is) in slice_get_within s.threads t known.0 known.1

pub one_thread_has_no_race : OneThreadHasNoRace
one_thread_has_no_race p s few race =
    let first = touching_is_started p s race.first race.first_touch race.first_touches in
    let second = touching_is_started p s race.second race.second_touch race.second_touches in
    race.different (omega arith)
