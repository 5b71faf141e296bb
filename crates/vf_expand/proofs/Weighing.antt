-- Less is left of a walk with each step.
use Rattle.std.proofs.Common.{◌≡◌, ◌<◌, ◌≤◌, ℕ, zero, suc, ◌+◌, ◌*◌, ◌-◌, List, ◌∷◌, length, reverse, Result, Ok, Err, IfOk, ◌∙◌, arith}
use Rattle.std.proofs.lemmas.List.{length-map, length-reverse}
use Rattle.vf_expand.specs.declared.frames.Waiting.{Waiting}
use Rattle.vf_preproc.specs.declared.fault.ExpandFault.{ExpandFault}
use Rattle.vf_expand.specs.declared.state.Next.{Next}
use Rattle.vf_expand.specs.declared.state.Next.TheVariants as nexts
use Rattle.vf_expand.specs.Weights.{left_of, lefts_of, token_weight, weight_of, NextFalls}

-- each token weighs something
pub weighs : (room : ℕ) → 0 < token_weight room
unfolding token_weight
weighs zero = omega arith
weighs (suc room) = let h = weighs room in omega arith

-- each file that waits has its tokens left
pub lefts_size : (stack : List Waiting) → length (lefts_of stack) ≡ length stack
lefts_size stack = length-map (reverse stack) (λ (w : Waiting). left_of w.file) ∙ length-reverse stack

-- a file of which less is left weighs less
pub fewer_weigh : (m n : ℕ) (ns : List ℕ) → m < n → weight_of (m ∷ ns) < weight_of (n ∷ ns)
fewer_weigh m n ns less = more (token_weight (32 - length ns)) (weight_of ns) (weighs (32 - length ns))
  where
    more : (p w : ℕ) → 0 < p → (m + 1) * p + w < (n + 1) * p + w
    more p w some = grind arith

-- and no more, of which no more is left
pub no_more_weigh : (m n : ℕ) (ns : List ℕ) → m ≤ n → weight_of (m ∷ ns) ≤ weight_of (n ∷ ns)
no_more_weigh m n ns less = more (token_weight (32 - length ns)) (weight_of ns)
  where
    more : (p w : ℕ) → (m + 1) * p + w ≤ (n + 1) * p + w
    more p w = grind arith

-- a file that is begun weighs less than the token that includes it
pub begun_weighs : (m n : ℕ) (ns : List ℕ) → m < 18446744073709551616 → length ns < 32 → weight_of (m ∷ n ∷ ns) < weight_of (suc n ∷ ns)
unfolding token_weight
begun_weighs m n ns few shallow =
    let deeper : 32 - length ns ≡ suc (32 - suc (length ns)) = omega arith in
    rw deeper (more (token_weight (32 - suc (length ns))) (weight_of ns) (weighs (32 - suc (length ns))))
  where
    more : (q w : ℕ) → 0 < q → (m + 1) * q + ((n + 1) * (18446744073709551617 * q) + w) < (suc n + 1) * (18446744073709551617 * q) + w
    more q w some = grind arith

-- a file that is ended weighs something
pub ended_weighs : (m n : ℕ) (ns : List ℕ) → weight_of (n ∷ ns) < weight_of (m ∷ n ∷ ns)
ended_weighs m n ns = more (token_weight (32 - suc (length ns))) (weight_of (n ∷ ns)) (weighs (32 - suc (length ns)))
  where
    more : (q w : ℕ) → 0 < q → w < (m + 1) * q + w
    more q w some = grind arith

-- what weighs less than less weighs less than more
pub next_falls : (m n : ℕ) → m ≤ n → (r : Result Next ExpandFault) → IfOk r (NextFalls m) → IfOk r (NextFalls n)
next_falls m n less (Err e) h = tt
next_falls m n less (Ok (nexts.Ends unit)) h = tt
next_falls m n less (Ok (nexts.Goes w)) h = omega arith
