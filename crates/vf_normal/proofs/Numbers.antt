-- Products of whole numbers.
use Rattle.std.proofs.Common.{◌≡◌, ◌*◌, ◌∙◌, ap, arith}
use Rattle.std.specs.Prelude.{ℤ, pos, ◌+ℤ◌, ◌*ℤ◌, ◌-ℤ◌, neg_ℤ}
use Rattle.std.proofs.lemmas.Int.{ints}
use Rattle.std.proofs.Math.IntN.{*ℤ_comm}
use borrow.Author.Differences.{up, down, same_in, sum_is_lem, product_is}

pub distributed : (a b c : ℤ) → (a +ℤ b) *ℤ c ≡ (a *ℤ c) +ℤ (b *ℤ c)
distributed a b c =
    let above = ap (λ x. x * up c) (sum_is_lem a b) in
    let below = ap (λ x. x * down c) (sum_is_lem a b) in
    omega (arith, same_in, sum_is_lem, product_is)

pub grouped : (a b c : ℤ) → (a *ℤ b) *ℤ c ≡ a *ℤ (b *ℤ c)
grouped a b c =
    let e = ap (λ x. x * up c) (product_is a b).0 in
    let f = ap (λ x. x * down c) (product_is a b).0 in
    let g = ap (λ x. x * up c) (product_is a b).1 in
    let h = ap (λ x. x * down c) (product_is a b).1 in
    let k = ap (λ x. up a * x) (product_is b c).0 in
    let l = ap (λ x. down a * x) (product_is b c).0 in
    let m = ap (λ x. up a * x) (product_is b c).1 in
    let n = ap (λ x. down a * x) (product_is b c).1 in
    grind (arith, same_in, product_is)

pub out_of : (k a b : ℤ) → k *ℤ (a +ℤ b) ≡ (k *ℤ a) +ℤ (k *ℤ b)
out_of k a b = *ℤ_comm k (a +ℤ b) ∙ distributed a b k ∙ ap (λ x. x +ℤ (b *ℤ k)) (*ℤ_comm a k) ∙ ap (λ x. (k *ℤ a) +ℤ x) (*ℤ_comm b k)

pub less_is : (a b : ℤ) → a +ℤ (neg_ℤ (pos 1) *ℤ b) ≡ a -ℤ b
less_is a b = omega (arith, ints)

pub nothing_more : (a b : ℤ) → (pos 0 *ℤ a) +ℤ b ≡ b
nothing_more a b = omega (arith, ints)

pub once : (a : ℤ) → ((pos 1 *ℤ a) +ℤ pos 0) +ℤ pos 0 ≡ a
once a = omega (arith, ints)

pub once_alone : (a : ℤ) → (pos 1 *ℤ a) +ℤ pos 0 ≡ a
once_alone a = omega (arith, ints)

pub nothing_behind : (a : ℤ) → a +ℤ pos 0 ≡ a
nothing_behind a = omega (arith, ints)

pub nothing_before : (a : ℤ) → pos 0 +ℤ a ≡ a
nothing_before a = omega (arith, ints)

pub sum_grouped : (a b c : ℤ) → (a +ℤ b) +ℤ c ≡ a +ℤ (b +ℤ c)
sum_grouped a b c = omega (arith, ints)

pub exchanged : (a b c : ℤ) → a +ℤ (b +ℤ c) ≡ b +ℤ (a +ℤ c)
exchanged a b c = omega (arith, ints)

pub sums_together : (a b c d : ℤ) → (a +ℤ b) +ℤ (c +ℤ d) ≡ (a +ℤ c) +ℤ (b +ℤ d)
sums_together a b c d = omega (arith, ints)
