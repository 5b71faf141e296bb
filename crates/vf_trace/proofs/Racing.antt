-- Faults and races of one state.
use Rattle.std.specs.Prelude.{IsTrue}
use Rattle.std.proofs.Common.{nat_lt, ◌≡◌, ℕ, ◌<◌, ◌≤◌, ◌||◌, true, length, Option, Some, None, is_none, slice_get, refl, sym, ap, subst, ◌∙◌, ◌⊎◌, inl, inr, ⊎_elim, arith}
use Rattle.std.proofs.lemmas.Bool.{true≢false, cases_lt, or_left, or_right, or_cases, ltb-true, lt-ltb}
use Rattle.std.proofs.lemmas.Option.{slice_get_within}
use Rattle.vf_base.specs.declared.place.Place.{Place}
use Rattle.vf_tree.specs.Core.{ProgramTree}
use Rattle.vf_model.specs.declared.words.FaultKind.{FaultKind}
use Rattle.vf_model.specs.Memory.{Memory, cells_at, block_at}
use Rattle.vf_model.specs.State.{Thread, State, End}
use Rattle.vf_model.specs.Acts.{Touch}
use Rattle.vf_model.specs.Steps.{act_by}
use Rattle.vf_model.specs.Races.{touch_in, touch_unended, next_touch, Race}
use Rattle.vf_model.specs.Runs.{Fault}
use Rattle.vf_model.proofs.Machine.{fault_by_any_grant}
use Rattle.vf_trace.specs.Touching.{Clash, FindsCommon, ClashesAt, IsRaceAt}
use Rattle.vf_trace.specs.Sights.{IsFirstRace}

-- a thread with a fault was started
pub fault_started : (p : ProgramTree) (s : State) (t : ℕ) (kind : FaultKind) (place : Place) → Fault p s t kind place → t < length s.threads
fault_started p s t kind place f = (fault_by_any_grant p s t kind place f).1.started

pub none_is_none : {A : Type 0} {x : A} → ◌≡◌ {A = Option A} None (Some x) → ⊥
none_is_none h = true≢false (ap is_none h)

-- a thread that has a touch is there
by_started : (p : ProgramTree) (s : State) (t : ℕ) (touch : Touch) (o : Option Thread) → slice_get s.threads t ≡ o → touch_in (act_by p s t o) ≡ Some touch → t < length s.threads
by_started p s t touch None at h = absurd (none_is_none h)
by_started p s t touch (Some of) at h = slice_get_within s.threads t of at

unended_started : (p : ProgramTree) (s : State) (t : ℕ) (touch : Touch) (end : Option End) → touch_unended p s t end ≡ Some touch → t < length s.threads
unended_started p s t touch (Some end) h = absurd (none_is_none h)
unended_started p s t touch None h = by_started p s t touch (slice_get s.threads t) refl h

-- a thread whose next step touches a cell was started
pub touch_started : (p : ProgramTree) (s : State) (t : ℕ) (touch : Touch) → next_touch p s t ≡ Some touch → t < length s.threads
touch_started p s t touch h = unended_started p s t touch s.end h

-- the same race, the other thread first
abbrev pub swapped : (p : ProgramTree) (s : State) → Race p s → Race p s
swapped p s r = record {
  first = r.second;
  second = r.first;
  different = λ e. r.different (sym e);
  first_touch = r.second_touch;
  second_touch = r.first_touch;
  first_touches = r.second_touches;
  second_touches = r.first_touches;
  cell = r.cell;
  by_first = r.by_second;
  by_second = r.by_first;
  writes = ⊎_elim (λ x. or_right r.second_touch.writes r.first_touch.writes x) (λ x. or_left r.second_touch.writes r.first_touch.writes x) (or_cases r.first_touch.writes r.second_touch.writes r.writes);
}

-- of two numbers one is less, or they are the same
orders : (a b : ℕ) → (a < b) ⊎ ((b < a) ⊎ (a ≡ b))
orders a b =
    ⊎_elim inl (λ not_less. inr (⊎_elim inl (λ not_more. inr (omega (arith, not_less, not_more))) (cases_lt b a))) (cases_lt a b)

-- a clash of a thread's touch with a later thread's is a race
pub race_at : (p : ProgramTree) (s : State) (one : Touch) (first second : ℕ) (place : Place) → next_touch p s first ≡ Some one → first < second
    → ClashesAt p s one second place → IsRaceAt p s first one.place second place
race_at p s one first second place touches less h = record {
  race = record {
    first = first;
    second = second;
    different = λ e. omega (arith, e);
    first_touch = one;
    second_touch = h.two;
    first_touches = touches;
    second_touches = h.touches;
    cell = (h.clash).cell;
    by_first = (h.clash).by_one;
    by_second = (h.clash).by_two;
    writes = (h.clash).writes;
  };
  is_first = refl;
  is_second = refl;
  at_first = refl;
  at_second = h.at;
}

pub some_touch : (x y : Touch) → ◌≡◌ {A = Option Touch} (Some x) (Some y) → x ≡ y
some_touch x y h = cc h

-- a race of a thread is a clash of its touch with that of the other thread
pub clash_of : (p : ProgramTree) (s : State) (one : Touch) (first : ℕ) → next_touch p s first ≡ Some one → (other : Race p s) → other.first ≡ first
    → ClashesAt p s one other.second (other.second_touch).place
clash_of p s one first touches other is =
    let same : other.first_touch ≡ one = some_touch _ _ (sym other.first_touches ∙ ap (next_touch p s) is ∙ touches) in
    record {
      two = other.second_touch;
      touches = other.second_touches;
      at = refl;
      clash = subst (λ t. Clash s.memory t other.second_touch) same (record { cell = other.cell; by_one = other.by_first; by_two = other.by_second; writes = other.writes });
    }

-- no race has a thread below a number as the lesser of the two
abbrev pub NoRaceBelow : ProgramTree → State → ℕ → Type 0
NoRaceBelow p s count = (other : Race p s) → other.first < count → other.first < other.second → ⊥

-- so no race has one as either
pub none_below : (p : ProgramTree) (s : State) (count : ℕ) → NoRaceBelow p s count → (other : Race p s) → other.first < count → count ≤ other.second
none_below p s count none other low =
    ⊎_elim
    (λ less. ⊎_elim
    (λ up. absurd (none other low up))
    (λ rest. ⊎_elim (λ down. absurd (none (swapped p s other) less down)) (λ same. absurd (other.different same)) rest)
    (orders other.first other.second))
    (λ more. more)
    (cases_lt other.second count)

-- the least race of the least thread that has one is the least race
pub first_of : (p : ProgramTree) (s : State) (first second : ℕ) (first_place second_place : Place) → NoRaceBelow p s first → first < second
    → IsRaceAt p s first first_place second second_place → ((other : Race p s) → other.first ≡ first → first < other.second → second ≤ other.second)
    → IsFirstRace p s first first_place second second_place
first_of p s first second first_place second_place none less at least =
    let floor : (other : Race p s) → first ≤ other.first = λ other.
    ⊎_elim
    (λ low. ⊎_elim
    (λ up. absurd (none other low up))
    (λ rest. ⊎_elim (λ down. let far : other.second < first = omega (arith, down, low) in absurd (none (swapped p s other) far down)) (λ same. absurd (other.different same)) rest)
    (orders other.first other.second))
    (λ more. more)
    (cases_lt other.first first) in
    record {
      race = at;
      least_first = floor;
      least_second = λ other is.
          ⊎_elim
          (λ up. let above : first < other.second = omega (arith, up, is) in least other is above)
          (λ rest. ⊎_elim
          (λ down. let low = floor (swapped p s other) in absurd (omega (arith, down, low, is)))
          (λ same. absurd (other.different same))
          rest)
          (orders other.first other.second);
    }

-- where no started thread is the lesser of two that race, there is no race
pub raceless : (p : ProgramTree) (s : State) → NoRaceBelow p s (length s.threads) → Race p s → ⊥
raceless p s none r =
    let one = touch_started p s r.first r.first_touch r.first_touches in
    let two = touch_started p s r.second r.second_touch r.second_touches in
    ⊎_elim
    (λ up. none r one up)
    (λ rest. ⊎_elim (λ down. none (swapped p s r) two down) (λ same. r.different same) rest)
    (orders r.first r.second)

some_number : (x y : ℕ) → ◌≡◌ {A = Option ℕ} (Some x) (Some y) → x ≡ y
some_number x y h = cc h

-- two touches of one block clash where the block has the least index that both touch
pub clash_told : (m : Memory) (one two : Touch) (found : Option ℕ) (index n : ℕ) → one.block ≡ two.block → (one.writes || two.writes) ≡ true
    → FindsCommon one.cell two.cell found → found ≡ Some index → n ≡ length (cells_at (block_at m one.block))
    → (IsTrue (nat_lt index n) → Clash m one two) × (Clash m one two → IsTrue (nat_lt index n))
clash_told m one two found index n same writes common is count = (
  λ low. let both = common.covered index is in
      let there : index < length (cells_at (block_at m one.block)) = subst (λ k. index < k) count (ltb-true index n low) in
      record {
        cell = record { block = one.block; index = index };
        by_one = record { there = there; block = refl; covered = both.0 };
        by_two = record { there = there; block = sym same; covered = both.1 };
        writes = writes;
      },
  λ h. let least = common.least (h.cell).index ((h.by_one).covered, (h.by_two).covered) in
      let k_is : least.0 ≡ index = some_number _ _ (sym least.1 ∙ is) in
      let there : (h.cell).index < n = subst (λ k. (h.cell).index < k) (ap (λ b. length (cells_at (block_at m b))) (sym (h.by_one).block) ∙ sym count) (h.by_one).there in
      let low = least.2 in
      lt-ltb index n (omega (arith, k_is, there, low)),
)
