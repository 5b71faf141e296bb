-- Nodes of a body: which are reached, how many are steps, and where they lead.
use Rattle.std.proofs.Common.{◌≡◌, ℕ, zero, suc, ◌+◌, ◌-◌, ◌<◌, ◌≤◌, ◌⊎◌, inl, inr, Bool, true, false, if◌then◌else◌, List, [], ◌∷◌, length, get_or, Option, Some, None, option_map, slice_get, refl, sym, ap, ◌∙◌, arith}
use Rattle.std.specs.Prelude.{unwrap_or}
use Rattle.std.proofs.lemmas.Bool.{cases_lt}
use Rattle.std.proofs.lemmas.List.{take_all}
use Rattle.vf_flow.specs.declared.flow.Flow.{Flow}
use Rattle.vf_flow.specs.declared.follow.Way.{Way}
use Rattle.vf_flow.specs.Leads.{comes_to, count_steps, is_step, leads, passed, reached, skips}
use Rattle.vf_flow.specs.Shown.{come_to}
use Rattle.vf_flow.specs.Tables.{Lists, reached_backward, steps_before}

-- behind the end nothing is reached but the end
pub reached_past : (i : ℕ) (fs : List Flow) → length fs ≤ i → reached i fs ≡ length fs
reached_past i [] h = refl
reached_past zero (f ∷ fs) h = absurd (omega arith)
reached_past (suc i) (f ∷ fs) h = ap suc (reached_past i fs (omega (arith, h)))

-- from the end the end is reached
pub reached_first : (fs : List Flow) (m : ℕ) → m ≡ 0 → length fs ≡ reached_backward fs m
reached_first fs m is = sym (reached_past (length fs - m) fs (omega (arith, is)))

-- a node that does not lead forward is reached from itself
pub reached_here : (i : ℕ) (fs : List Flow) (f : Flow) → slice_get fs i ≡ Some f → skips f ≡ None → reached i fs ≡ i
reached_here i [] f at none = absurd cc
reached_here zero (g ∷ fs) f at none =
    let e : g ≡ f = cc in
    ap (λ h. passed (skips h) (λ k. reached k fs)) e ∙ ap (λ s. passed s (λ k. reached k fs)) none
reached_here (suc i) (g ∷ fs) f at none = ap suc (reached_here i fs f at none)

-- from another node what is reached from where it leads
pub reached_on : (i k j : ℕ) (fs : List Flow) (f : Flow) → slice_get fs i ≡ Some f → skips f ≡ Some k → j ≡ i + 1 + k → reached i fs ≡ reached j fs
reached_on i k j [] f at some is = absurd cc
reached_on zero k j (g ∷ fs) f at some is =
    let e : g ≡ f = cc in
    let next : suc k ≡ j = omega (arith, is) in
    ap (λ h. passed (skips h) (λ m. reached m fs)) e ∙ ap (λ s. passed s (λ m. reached m fs)) some ∙ ap (λ m. reached m (g ∷ fs)) next
reached_on (suc i) k zero (g ∷ fs) f at some is = absurd (omega (arith, is))
reached_on (suc i) k (suc j) (g ∷ fs) f at some is = ap suc (reached_on i k j fs f at some (omega (arith, is)))

-- no more is reached than the end
pub reached_within : (i : ℕ) (fs : List Flow) → reached i fs ≤ length fs
reached_within i [] = omega arith
reached_within (suc i) (f ∷ fs) = let rest = reached_within i fs in omega (arith, rest)
reached_within zero (f ∷ fs) = by_skip (skips f) (λ k. reached_within k fs)
  where
    by_skip : (s : Option ℕ) → ((k : ℕ) → reached k fs ≤ length fs) → passed s (λ k. reached k fs) ≤ suc (length fs)
    by_skip None rest = omega arith
    by_skip (Some k) rest = let most : reached k fs ≤ length fs = rest k in omega (arith, most)

-- what is reached from a node stands in the list of what is reached, in backward order
pub reached_read : (fs : List Flow) (all : List ℕ) (end i r : ℕ) → end ≡ length fs → length all ≡ length fs + 1 → Lists (reached_backward fs) all → i ≤ length fs → r ≡ get_or all (end - i) end → r ≡ reached i fs
reached_read fs all end i r is size right h read =
    read ∙ right.each (end - i) end (omega (arith, is, size, h)) ∙ ap (λ k. reached k fs) (omega (arith, is, h))

-- what is reached from a node, by what is reached from those behind it
pub reached_more : (fs : List Flow) (all : List ℕ) (end done i r : ℕ) (f : Flow) (s : Option ℕ) → end ≡ length fs → i + done + 1 ≡ end → length all ≡ done + 1 → Lists (reached_backward fs) all → slice_get fs i ≡ Some f → s ≡ skips f → r ≡ unwrap_or (option_map (λ k. get_or all (done - k) end) s) i → r ≡ reached_backward fs (length all)
reached_more fs all end done i r f None is place size right at skip read =
    read ∙ sym (reached_here i fs f at (sym skip)) ∙ ap (λ j. reached j fs) (omega (arith, is, place, size))
reached_more fs all end done i r f (Some k) is place size right at skip read =
    let here : i ≡ length fs - length all = omega (arith, is, place, size) in
    read ∙ right.each (done - k) end (omega (arith, size)) ∙ by_order (cases_lt done k) ∙ sym (reached_on i k (i + 1 + k) fs f at (sym skip) refl) ∙ ap (λ j. reached j fs) here
  where
    by_order : (done < k) ⊎ (k ≤ done) → reached (length fs - (done - k)) fs ≡ reached (i + 1 + k) fs
    by_order (inr h) = ap (λ j. reached j fs) (omega (arith, h, is, place))
    by_order (inl h) =
        let first : length fs ≤ length fs - (done - k) = omega (arith, h) in
        let second : length fs ≤ i + 1 + k = omega (arith, h, is, place) in
        reached_past (length fs - (done - k)) fs first ∙ sym (reached_past (i + 1 + k) fs second)

-- one node more counts where it is a step
pub count_more : (i : ℕ) (fs : List Flow) (f : Flow) → slice_get fs i ≡ Some f → steps_before fs (i + 1) ≡ (if is_step f then suc (steps_before fs i) else steps_before fs i)
count_more i [] f at = absurd cc
count_more zero (g ∷ fs) f at = let e : g ≡ f = cc in ap (λ h. if is_step h then suc zero else zero) e
count_more (suc i) (g ∷ fs) f at =
    let step : suc i + 1 ≡ suc (i + 1) = omega arith in
    ap (steps_before (g ∷ fs)) step ∙ ap (λ k. if is_step g then suc k else k) (count_more i fs f at) ∙ by_tests (is_step g) (is_step f) (steps_before fs i)
  where
    by_tests : (a b : Bool) (k : ℕ) → (if a then suc (if b then suc k else k) else (if b then suc k else k)) ≡ (if b then suc (if a then suc k else k) else (if a then suc k else k))
    by_tests true true k = refl
    by_tests true false k = refl
    by_tests false true k = refl
    by_tests false false k = refl

-- no more are counted than there are
pub most_more : (k i m : ℕ) (b : Bool) → k ≤ i → m ≡ (if b then suc k else k) → m ≤ i + 1
most_more k i m true h is = omega (arith, h, is)
most_more k i m false h is = omega (arith, h, is)

-- all count from the end on
pub count_all : (i : ℕ) (fs : List Flow) → length fs ≤ i → count_steps fs ≡ steps_before fs i
count_all i fs h = ap count_steps (sym (take_all i fs h))

-- a node behind the end leads past the last step
pub leads_past : (t i : ℕ) (fs : List Flow) → length fs ≤ i → leads t fs i ≡ count_steps fs
leads_past zero i fs h = refl
leads_past (suc t) i fs h =
    ap (λ r. comes_to fs (leads t fs) r (slice_get fs r)) (reached_past i fs h)
    ∙ ap (comes_to fs (leads t fs) (length fs)) (none_there fs)
  where
    none_there : (gs : List Flow) → slice_get gs (length gs) ≡ None
    none_there [] = refl
    none_there (g ∷ gs) = none_there gs

-- the way from a node that was reached comes to what the node leads to from which it was
pub way_on : (fs : List Flow) (turn i r v : ℕ) (w : Way) → turn < length fs → r ≡ reached i fs → ((before : ℕ → ℕ) → come_to before w ≡ comes_to fs before r (slice_get fs r)) → leads (length fs - turn) fs i ≡ v → come_to (leads (length fs - (turn + 1)) fs) w ≡ v
way_on fs turn i r v w less at way so =
    let left : length fs - turn ≡ suc (length fs - (turn + 1)) = omega (arith, less) in
    way (leads (length fs - (turn + 1)) fs)
    ∙ ap (λ s. comes_to fs (leads (length fs - (turn + 1)) fs) s (slice_get fs s)) at
    ∙ ap (λ t. leads t fs i) (sym left)
    ∙ so
