-- The least free number of a memory.
use Rattle.std.proofs.Common.{◌≡◌, ℕ, zero, suc, ◌+◌, ◌≤◌, true, sym, subst, ◌∙◌, ⊎_elim, arith}
use Rattle.std.specs.FinMap as map
use Rattle.std.proofs.lemmas.Bool.{true≢false, cases_lt, cases_Bool, cond-true, cond-false}
use Rattle.vf_model.proofs.FreeBlocks.{least_granted}
use Rattle.vf_model.specs.Memory.{Memory, IsLeastFree, free_from, least_free, granted_block}

-- there is one least free number
pub least_is_one : (m : Memory) (a b : ℕ) → IsLeastFree m a → IsLeastFree m b → a ≡ b
least_is_one m a b p q =
    ⊎_elim
    (λ less. absurd (true≢false (sym (q.least a p.from_one less) ∙ p.free)))
    (λ more. ⊎_elim (λ less. absurd (true≢false (sym (p.least b q.from_one less) ∙ q.free))) (λ other. omega (arith, more, other)) (cases_lt b a))
    (cases_lt a b)

bounded : (n : ℕ) (m : Memory) (k : ℕ) → free_from m k n ≤ k + n
bounded zero m k = omega arith
bounded (suc n) m k =
    ⊎_elim
    (λ here. subst (λ b. b ≤ k + suc n) (sym (cond-true _ (free_from m (suc k) n) k here)) (let h = bounded n m (suc k) in omega arith))
    (λ none. subst (λ b. b ≤ k + suc n) (sym (cond-false _ (free_from m (suc k) n) k none)) (omega arith))
    (cases_Bool (map.contains_key m k))

-- the number that is granted for a taken one is at most one more than there are blocks
pub granted_bound : (m : Memory) (g : ℕ) → map.contains_key m g ≡ true → granted_block m g ≤ 1 + map.len m
granted_bound m g taken = subst (λ b. b ≤ 1 + map.len m) (sym (cond-true _ (least_free m) g taken)) (bounded (map.len m) m 1)

-- there is a least free number, at most one more than there are blocks
pub least_there : (m : Memory) (P : Type 0) → ((b : ℕ) → IsLeastFree m b → b ≤ 1 + map.len m → P) → P
least_there m P found =
    ⊎_elim
    (λ taken. found (granted_block m 1) (least_granted m 1 taken) (granted_bound m 1 taken))
    (λ free. found 1 (record { from_one = omega arith; free = free; least = λ k low high. absurd (omega (arith, low, high)) }) (omega arith))
    (cases_Bool (map.contains_key m 1))
