-- A memory of n blocks has a free number among the n + 1 from 1 on, and the search finds the least.
use Rattle.std.proofs.Common.{◌≡◌, ℕ, zero, suc, ◌+◌, ◌-◌, ◌<◌, ◌≤◌, true, false, None, is_some, sym, ap, subst, ◌∙◌, ⊎_elim, arith}
use Rattle.std.specs.FinMap as map
use Rattle.std.specs.Ordering.{nat_cmp, eq_by_cmp}
use Rattle.std.specs.Cmp.{nat_cmp_total, unsigned_tied}
use Rattle.std.proofs.lemmas.Bool.{true≢false, cases_lt, cases_Bool, cond-true, cond-false, ne_eqb}
use Rattle.vf_model.specs.Memory.{Memory, IsLeastFree, free_from, least_free}
use Rattle.vf_model.specs.Laws.{GrantsWanted, GrantsLeastFree}

-- without a block of its own, a memory has the others
others_stay : (m : Memory) (k j : ℕ) → (j ≡ k → ⊥) → map.contains_key m j ≡ true → map.contains_key (map.remove m k) j ≡ true
others_stay m k j apart h =
    let tied : eq_by_cmp nat_cmp j k ≡ false = unsigned_tied j k ∙ ne_eqb j k apart in
    ap is_some (map.get-remove nat_cmp_total m k j ∙ cond-false _ None (map.get m j) tied) ∙ h

-- a memory with a block has at least one
not_empty : (m : Memory) (k : ℕ) → map.contains_key m k ≡ true → 1 ≤ map.len m
not_empty m k here =
    ⊎_elim
    (λ less. let none : map.len m ≡ 0 = omega (arith, less) in
    absurd (true≢false (sym here ∙ ap (λ n. map.contains_key n k) (map.empty_of_len m none) ∙ ap is_some (map.get-empty nat_cmp k))))
    (λ more. more)
    (cases_lt (map.len m) 1)

-- where n numbers in a row are taken, there are as many blocks
crowded : (n : ℕ) (m : Memory) (k : ℕ) → ((j : ℕ) → k ≤ j → j < k + n → map.contains_key m j ≡ true) → n ≤ map.len m
crowded zero m k taken = omega arith
crowded (suc n) m k taken =
    let rest : n ≤ map.len (map.remove m k) =
    crowded n (map.remove m k) (suc k) (λ j low high. others_stay m k j (λ e. absurd (omega arith)) (taken j (omega arith) (omega arith))) in
    let here : map.contains_key m k ≡ true = taken k (omega arith) (omega arith) in
    let some : 1 ≤ map.len m = not_empty m k here in
    let size : map.len (map.remove m k) ≡ map.len m - 1 = map.len-remove nat_cmp_total m k ∙ cond-true _ (map.len m - 1) (map.len m) here in
    omega arith

-- each number from 1 up to j is taken
Taken : Memory → ℕ → Type 0
Taken m j = (k : ℕ) → 1 ≤ k → k < suc j → map.contains_key m k ≡ true

Taken-more : (m : Memory) (j : ℕ) → Taken m j → map.contains_key m (suc j) ≡ true → Taken m (suc j)
unfolding Taken
Taken-more m j taken here k low high =
    ⊎_elim
    (λ less. taken k low less)
    (λ more. let e : suc j ≡ k = omega (arith, more) in subst (λ i. map.contains_key m i ≡ true) e here)
    (cases_lt k (suc j))

finds : (n : ℕ) (m : Memory) (j : ℕ) → Taken m j → map.len m ≤ j + n → IsLeastFree m (free_from m (suc j) n)
unfolding Taken
finds zero m j taken few = record {
  from_one = omega arith;
  free = ⊎_elim (λ here. absurd (let many = crowded (suc j) m 1 (λ k low high. Taken-more m j taken here k low (omega arith)) in omega (arith, many))) (λ none. none) (cases_Bool (map.contains_key m (suc j)));
  least = taken;
}
finds (suc n) m j taken few =
    ⊎_elim
    (λ here. subst (λ b. IsLeastFree m b) (sym (cond-true _ (free_from m (suc (suc j)) n) (suc j) here)) (finds n m (suc j) (Taken-more m j taken here) (omega arith)))
    (λ none. subst (λ b. IsLeastFree m b) (sym (cond-false _ (free_from m (suc (suc j)) n) (suc j) none)) (record { from_one = omega arith; free = none; least = taken }))
    (cases_Bool (map.contains_key m (suc j)))

least_free_is : (m : Memory) → IsLeastFree m (least_free m)
unfolding Taken
least_free_is m = finds (map.len m) m 0 (λ k low high. absurd (omega arith)) (omega arith)

pub wanted_granted : GrantsWanted
wanted_granted m wanted free = cond-false _ _ _ free

pub least_granted : GrantsLeastFree
least_granted m wanted taken = subst (λ b. IsLeastFree m b) (sym (cond-true _ _ _ taken)) (least_free_is m)
