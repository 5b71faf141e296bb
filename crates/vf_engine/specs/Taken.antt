-- Which numbers are taken.
use Rattle.std.specs.Prelude.{◌≡◌, ℕ, zero, suc, ◌+◌, ◌*◌, ◌≤◌, ◌<◌, cond, List, Option, None, is_some, IsSome, slice_index_or}

-- each number from 1 on that is below that one has a value
abbrev pub AreTaken : {V : Type 0} → (ℕ → Option V) → ℕ → Type 0
AreTaken value_at least = (k : ℕ) → 1 ≤ k → k < least → IsSome (value_at k)

-- how many numbers have a value, of a count of numbers from one on
unfoldable pub taken_from : {V : Type 0} → (ℕ → Option V) → ℕ → ℕ → ℕ
taken_from value_at from zero = 0
taken_from value_at from (suc count) = cond (is_some (value_at from)) 1 0 + taken_from value_at (suc from) count

-- no group of 512 numbers has fewer values than its count says
abbrev pub AreCounted : {V : Type 0} → (ℕ → Option V) → List ℕ → Type 0
AreCounted value_at counts = (group : ℕ) → slice_index_or counts group 0 ≤ taken_from value_at (512 * group) 512

-- a number from 1 on that has no value, and is the least such
pub record IsFirstFree {V : Type 0} (value_at : ℕ → Option V) (number : ℕ) : Type 0 where
  pub from_one : 1 ≤ number
  pub free : value_at number ≡ None
  pub taken : AreTaken value_at number
