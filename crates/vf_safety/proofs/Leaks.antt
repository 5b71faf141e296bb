-- What a thread gives up between two steps, where a leak stands, is the others' from the next step on.
use Rattle.std.proofs.Common.{◌≡◌, ℕ, zero, suc, Bool, true, false, [], ◌∷◌, slice_get, Some, refl, ap, ◌∙◌, inl, inr}
use Rattle.std.specs.Bool.{MatchBool}
use Rattle.vf_tree.specs.Core.{ProgramTree}
use Rattle.vf_model.specs.Memory.{Memory}
use Rattle.vf_model.specs.State.{Thread, State}
use Rattle.vf_meaning.specs.Fractions.{whole, nought, sum, IsPositive}
use Rattle.vf_meaning.specs.Assertions.{Environment}
use Rattle.vf_meaning.specs.Parts.{Location, Content, Part, nothing, ◌⊕◌, IsSum}
use Rattle.vf_meaning.specs.Fits.{Fits}
use Rattle.vf_meaning.specs.Kept.{LeaksNext}
use Rattle.vf_meaning.proofs.FitSteps.{sum_left}
use Rattle.vf_meaning.proofs.Parts.{sums_turn, nothing-⊕, in_left, in_right, sum_at, nought_or_positive, not_nought, whole_is_alone}
use Rattle.vf_safety.specs.Safe.{Duties, Exchange, Went, Exchanged, Safe}
use Rattle.vf_safety.proofs.Steps.{apart}

-- a part whose whole of a location is in what is not given up has the whole of it
still_whole : (off less own rest more all : Part) (m : Memory) (l : Location) (c : Content) → IsSum off less own → IsSum off rest more → IsSum less more all → Fits all m → less l c ≡ whole → own l c ≡ whole
still_whole off less own rest more all m l c s r both fits h =
    let none : off l c ≡ nought = elim (nought_or_positive (off l c)) [ inl z ↦ z | inr y ↦ absurd (not_nought (more l c) (whole_is_alone less more all m l c c both fits h) (in_left off rest more r l c y)) ] in
    sum_at less off own (sums_turn off less own s) l c ∙ ap (sum (less l c)) none ∙ sum_left (less l c) nought refl ∙ h

still_owns : (off less own rest more all : Part) (m : Memory) (l : Location) (c : Content) → IsSum off less own → IsSum off rest more → IsSum less more all → Fits all m
    → (b : Bool) → MatchBool b (less l c ≡ whole) (IsPositive (less l c)) → MatchBool b (own l c ≡ whole) (IsPositive (own l c))
still_owns off less own rest more all m l c s r both fits true h = still_whole off less own rest more all m l c s r both fits h
still_owns off less own rest more all m l c s r both fits false h = in_right off less own s l c h

module _ (e : Environment) (p : ProgramTree) (t : ℕ) where
  -- nothing and nothing is nothing
  both_nothing : (a b all : Part) → a ≡ nothing → b ≡ nothing → IsSum a b all → all ≡ nothing
  both_nothing a b all one two sums = sums.adds ∙ ap (λ z. z ⊕ b) one ∙ nothing-⊕ b ∙ two

  -- a part is given up before the next step of a thread's frames only where a leak stands there
  abbrev pub IsLeaked : Thread → Part → Type 0
  IsLeaked frames off = (s : State) → slice_get s.threads t ≡ Some frames → (LeaksNext e p s t → ⊥) → off ≡ nothing

  -- what was given up before a step is given up in it
  gone : (S : ℕ → Duties → Thread → Part → Type 0) (x : Exchange) (duties : Duties) (s new : State) (off rest more before : Part) → IsSum off rest more → ((LeaksNext e p s t → ⊥) → off ≡ nothing) → Went e p t S x duties s new more before → Went e p t S x duties s new rest before
  gone S x duties s new off rest more before r none w =
      let (lost, both, given_up) = apart rest off more w.lost w.others (sums_turn off rest more r) w.given_up in
      let (leaked, leaks, parted) = apart w.given w.leaked w.lost off lost w.parted (sums_turn off w.lost lost both) in
      record {
        frames = w.frames;
        own = w.own;
        given = w.given;
        leaked = leaked;
        unleaked = λ no_leak. both_nothing w.leaked off leaked (w.unleaked no_leak) (none no_leak) leaks;
        lost = lost;
        handed = w.handed;
        parted = parted;
        others = w.others;
        all = w.all;
        given_up = given_up;
        sums = w.sums;
        fits = w.fits;
        typed = w.typed;
        shaped = w.shaped;
        now = w.now;
        alone = w.alone;
        begun = w.begun;
        unshared = w.unshared;
        unmoved = w.unmoved;
        known = w.known;
        settled = w.settled;
        owing = w.owing;
        within = w.within;
        owes = w.owes;
        going = w.going;
        called = w.called;
        leaves = w.leaves;
        finished = w.finished;
      }

  gone_exchanged : (S : ℕ → Duties → Thread → Part → Type 0) (duties : Duties) (s new : State) (off rest more before : Part) → IsSum off rest more → ((LeaksNext e p s t → ⊥) → off ≡ nothing) → Exchanged e p t S duties s new more before → Exchanged e p t S duties s new rest before
  gone_exchanged S duties s new off rest more before r none x = record {
    exchange = x.exchange;
    offered = x.offered;
    started = x.started;
    went = λ taken remaining is sums.
        let (further, both, whole_is) = apart taken remaining rest off more sums (sums_turn off rest more r) in
        gone S x.exchange duties s new off remaining further before (sums_turn remaining off further both) none (x.went taken further is whole_is);
  }

  -- with more than a safe part a thread is safe, what is more being leaked
  pub leaving_safe : (duties : Duties) (n : ℕ) (frames : Thread) (off less own : Part) → IsSum off less own → IsLeaked frames off → Safe e p t duties n frames less → Safe e p t duties n frames own
  leaving_safe duties zero frames off less own s leaked safe = tt
  leaving_safe duties (suc n) [] off less own s leaked safe = tt
  leaving_safe duties (suc n) (frame ∷ callers) off less own s leaked safe = λ st rest all going here within sums fits typed shaped.
      let (more, r, both) = apart less off own rest all (sums_turn off less own s) sums in
      let k = safe st more all going here within both fits typed shaped in
      record {
        faultless = k.faultless;
        owned = λ touch new c l h covers at. let o = k.owned touch new c l h covers at in (o.0, still_owns off less own rest more all st.memory l o.0 s r both fits touch.writes o.1);
        goes = λ grant going. gone_exchanged (λ u ds. Safe e p u ds n) duties st _ off rest more all r (leaked st here) (k.goes grant going);
      }
