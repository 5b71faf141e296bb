-- The argument at a place, where it is known.
use Rattle.std.proofs.Common.{◌≡◌, ℕ, zero, suc, ◌<◌, ◌≤◌, List, [], ◌∷◌, length, get_or, refl, sym, ap, subst, ◌∙◌, arith}
use Rattle.std.specs.Prelude.{Some, None, slice_get}
use Rattle.std.proofs.lemmas.Option.{slice_get_read}
use Rattle.vf_closure.specs.Terms.{Term}
use Rattle.vf_equality.specs.Equality.{CanBeCompared}
use Rattle.vf_chunk.specs.declared.chunk.Argument.{Argument}
use Rattle.vf_chunk.specs.declared.chunk.Argument.TheVariants.{Known, Unknown}
use Rattle.vf_take.specs.Usable.{ArgumentCanBeCompared, ArgumentsCanBeCompared, known_of, known_at}
use Rattle.vf_take.proofs.Arguments.{argument_compared}

-- there is none
pub known_past : (xs : List Argument) (i : ℕ) → length xs ≤ i → None ≡ known_at xs i
known_past [] i high = refl
known_past (x ∷ xs) zero high = absurd (omega (arith, high))
known_past (x ∷ xs) (suc i) high = known_past xs i (omega (arith, high))

module _ (xs : List Argument) (i : ℕ) (a : Argument) (low : i < length xs) (is : a ≡ get_or xs i a) where
  read_at : slice_get xs i ≡ Some a
  read_at = slice_get_read xs (length xs) i a refl low is

  pub known_there : (t : Term) → a ≡ Known t → Some t ≡ known_at xs i
  known_there t e = sym (ap known_of (read_at ∙ ap Some e))

  pub known_not : a ≡ Unknown → None ≡ known_at xs i
  known_not e = sym (ap known_of (read_at ∙ ap Some e))

  pub known_compared : (t : Term) → a ≡ Known t → ArgumentsCanBeCompared xs → CanBeCompared t
  known_compared t e all = subst ArgumentCanBeCompared e (argument_compared xs i a low is all)

pub ruleset knowing = (known_past, known_there, known_not, known_compared)
