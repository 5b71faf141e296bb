-- The length of a row of int cells is a number that is not negative, where a chunk of it is produced.
use Rattle.std.proofs.Common.{◌≡◌, ℕ, pos, true, List, [], ◌∷◌, length, map, Option, Some, None, refl, sym, subst, inl, arith}
use Rattle.std.specs.Prelude.{IsTrue, int_le}
use Rattle.std.proofs.lemmas.Int.{ints}
use Rattle.vf_tree.specs.Core.{Identity, LessEqual}
use Rattle.vf_model.specs.Values.{Dyadic}
use Rattle.vf_model.specs.Values as values
use Rattle.vf_meaning.specs.Fractions.{whole}
use Rattle.vf_meaning.specs.Ghost.{Integers, Number, Compare}
use Rattle.vf_meaning.specs.Valuations.{Valuation}
use Rattle.vf_meaning.specs.GhostValues.{compared}
use Rattle.vf_meaning.specs.Assertions.{Head, BlockOf, Named, Family, Applied, Environment}
use Rattle.vf_meaning.specs.Sorts.{HasSort}
use Rattle.vf_meaning.specs.Parts.{Part}
use Rattle.vf_meaning.specs.Chunks.{Primitive, Mutexes, HeldMutexes, Handles, IntBlocks, IntCells, Others, primitive}
use Rattle.vf_meaning.specs.Satisfaction.{SatisfiesPrimitive, SatisfiesHead, MeansAt}
use Rattle.vf_rules.specs.Terms.{Term, Store, head_of}
use Rattle.vf_rules.specs.States.{Holds, OfSort, meaning, value_in, wanted_in, Meets}
use Rattle.vf_rules.specs.Produce.{facts_of_row, facts_of_chunk}

not_below : (n : ℕ) → int_le (pos 0) (pos n) ≡ true
not_below n = grind (arith, ints)

pub length_met : (e : Environment) (v : Valuation) (long : Term) (n : ℕ) → value_in e v long ≡ values.Number (pos n) → Meets e v (OfSort long Integers ∷ Holds (Compare LessEqual (Number (pos 0)) long) ∷ [])
length_met e v long n is = (subst (λ w. HasSort e w Integers) (sym is) (inl refl), (subst (λ w. IsTrue (compared LessEqual (values.Number (pos 0)) w)) (sym is) (not_below n), tt))

module _ (e : Environment) (v : Valuation) (n : ℕ) (x : Dyadic) (f : Identity) (q : Part) where
  -- a row of int cells tells that its length is one
  row_met : (ts : List (Option Term)) → SatisfiesPrimitive (MeansAt e n) IntCells x f (map (wanted_in e v) ts) q → Meets e v (facts_of_row IntCells ts)
  row_met [] h = tt
  row_met (a ∷ []) h = tt
  row_met (a ∷ None ∷ ts) h = tt
  row_met (a ∷ Some long ∷ []) h = absurd h
  row_met (a ∷ Some long ∷ c ∷ []) (pointer, row, at, many, which, is_row) = length_met e v long (length row) (sym many)
  row_met (a ∷ Some long ∷ c ∷ d ∷ ts) h = absurd h

  primitive_met : (k : Primitive) (ts : List (Option Term)) → SatisfiesPrimitive (MeansAt e n) k x f (map (wanted_in e v) ts) q → Meets e v (facts_of_row k ts)
  primitive_met Mutexes ts h = tt
  primitive_met HeldMutexes ts h = tt
  primitive_met Handles ts h = tt
  primitive_met IntBlocks ts h = tt
  primitive_met IntCells ts h = row_met ts h
  primitive_met Others ts h = tt

-- what is known of a chunk's arguments is met where a part is what the chunk says
pub chunk_met : (e : Environment) (v : Valuation) (n : ℕ) (x : Dyadic) (head : Head) (s : Store) (ts : List (Option Term)) (q : Part)
    → SatisfiesHead (MeansAt e n) (meaning e) whole x (head_of s head) v (map (wanted_in e v) ts) q → Meets e v (facts_of_chunk head ts)
chunk_met e v n x (BlockOf g) s ts q h = tt
chunk_met e v n x (Named f) s ts q h = primitive_met e v n x f q (primitive f) ts h
chunk_met e v n x (Family f t) s ts q h = tt
chunk_met e v n x (Applied t) s ts q h = tt
