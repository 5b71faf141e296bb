-- A part that satisfies an assertion owns boundedly much.
use Rattle.std.proofs.Common.{◌≡◌, ℕ, zero, suc, ◌+◌, Bool, true, false, List, [], ◌∷◌, Option, Some, None, refl, sym, subst}
use Rattle.std.specs.Prelude.{pos}
use Rattle.std.specs.Bool.{MatchBool}
use Rattle.vf_tree.specs.Core.{Identity}
use Rattle.vf_model.specs.Values.{Dyadic, Value, Values, same_identity}
use Rattle.vf_model.specs.Values as values
use Rattle.vf_meaning.specs.Fractions.{numerator, product}
use Rattle.vf_meaning.specs.Valuations.{Valuation, is_true, all_bound}
use Rattle.vf_meaning.specs.GhostValues.{Interpretation, value_of, interpreted}
use Rattle.vf_meaning.specs.Assertions.{Head, BlockOf, Named, Family, Applied, Assertion, Pure, Empty, Both, Choose, Switch, Cell, Chunk, Branches, no_branches, branch, BodyName, BodyTree, Environment}
use Rattle.vf_meaning.specs.Parts.{Location, Content, IndexCell, CellOf, Part, nothing, single, IsSum}
use Rattle.vf_meaning.specs.Chunks.{Wanted, Primitive, Mutexes, HeldMutexes, Handles, IntBlocks, IntCells, Others, primitive, IsRow, IsRowAt, IsInts}
use Rattle.vf_meaning.specs.Satisfaction.{SatisfiesPrimitive, SatisfiesFamily, SatisfiesValue, SatisfiesHead, SatisfiesBy, SatisfiesBranch, SatisfiesIf, MeansAt, SatisfiesAt}
use Rattle.vf_lemmas.proofs.Masses.{HasMass, mass_sum, mass_nothing, mass_single}

one_of : {A B C : Type 0} (b : Bool) → (A → C) → (B → C) → MatchBool b A B → C
one_of true f g h = f h
one_of false f g h = g h

-- a part owns boundedly much
abbrev pub IsBounded : Part → Type 0
IsBounded p = (n : ℕ) × HasMass n p

single_bounded : (l : Location) (c : Content) (x : Dyadic) (p : Part) → p ≡ single l c x → IsBounded p
single_bounded l c x p h = subst IsBounded (sym h) (numerator x, mass_single l c x)

nothing_bounded : (p : Part) → p ≡ nothing → IsBounded p
nothing_bounded p h = subst IsBounded (sym h) (0, mass_nothing)

sum_bounded : (p q r : Part) → IsSum p q r → IsBounded p → IsBounded q → IsBounded r
sum_bounded p q r s h k = (h.0 + k.0, mass_sum h.0 k.0 p q r s h.1 k.1)

row_bounded : (x : Dyadic) (b k : ℕ) (row : List (Option Value)) (p : Part) → IsRow x b k row p → IsBounded p
row_bounded x b k [] p h = nothing_bounded p h
row_bounded x b k (held ∷ row) p h = sum_bounded (single (IndexCell b k) (CellOf held) x) h.0 p h.1 (single_bounded (IndexCell b k) (CellOf held) x _ refl) (row_bounded x b (suc k) row h.0 h.2)

row_at_bounded : (x : Dyadic) (w : Value) (row : List (Option Value)) (p : Part) → IsRowAt x w row p → IsBounded p
row_at_bounded x w [] p h = nothing_bounded p h
row_at_bounded x (values.Pointer b (pos o)) (held ∷ row) p h = row_bounded x b o (held ∷ row) p h
row_at_bounded x _ (held ∷ row) p h = absurd h

ints_bounded : (x : Dyadic) (ws : List Wanted) (p : Part) → IsInts x ws p → IsBounded p
ints_bounded x (a ∷ b ∷ c ∷ []) p h = row_at_bounded x h.0 h.1 p h.5
ints_bounded x _ p h = absurd h

module _ (M : Dyadic → BodyName → Values → Part → Type 0) (each : (x : Dyadic) (b : BodyName) (vs : Values) (p : Part) → M x b vs p → IsBounded p) where
  primitive_bounded : (k : Primitive) (x : Dyadic) (q : Identity) (ws : List Wanted) (p : Part) → SatisfiesPrimitive M k x q ws p → IsBounded p
  primitive_bounded Mutexes x q ws p h = single_bounded _ _ x p h.owns
  primitive_bounded HeldMutexes x q ws p h = single_bounded _ _ x p h.owns
  primitive_bounded Handles x q ws p h = single_bounded _ _ x p h.owns
  primitive_bounded IntBlocks x q ws p h = single_bounded _ _ x p h.owns
  primitive_bounded IntCells x q ws p h = ints_bounded x ws p h
  primitive_bounded Others x q ws p h = each x _ h.0 p h.2

  family_bounded : (x : Dyadic) (q : Identity) (w : Value) (ws : List Wanted) (p : Part) → SatisfiesFamily M x q w ws p → IsBounded p
  family_bounded x q (values.Function g) ws p h = each x _ h.0 p h.2
  family_bounded x q _ ws p h = absurd h

  applied_bounded : (x : Dyadic) (w : Value) (ws : List Wanted) (p : Part) → SatisfiesValue M x w ws p → IsBounded p
  applied_bounded x (values.Predicate q first) ws p h = primitive_bounded (primitive q) x q _ p h
  applied_bounded x _ ws p h = absurd h

  module _ (i : Interpretation) (s : Dyadic) where
    head_bounded : (x : Dyadic) (head : Head) (v : Valuation) (ws : List Wanted) (p : Part) → SatisfiesHead M i s x head v ws p → IsBounded p
    head_bounded x (BlockOf g) v ws p h = single_bounded _ _ x p h.owns
    head_bounded x (Named q) v ws p h = primitive_bounded (primitive q) x q ws p h
    head_bounded x (Family q e) v ws p h = family_bounded x q (value_of i v e) ws p h
    head_bounded x (Applied e) v ws p h = applied_bounded x (value_of i v e) ws p h

    mutual
      satisfying_bounded : (a : Assertion) (v : Valuation) (p : Part) → SatisfiesBy M i s a v p → IsBounded p
      satisfying_bounded (Pure e) v p h = nothing_bounded p h.0
      satisfying_bounded Empty v p h = nothing_bounded p h
      satisfying_bounded (Both a b) v p h = sum_bounded h.0 h.1 p h.2 (satisfying_bounded a v h.0 h.3) (satisfying_bounded b v h.1 h.4)
      satisfying_bounded (Choose c a b) v p h = one_of (is_true (value_of i v c)) (satisfying_bounded a v p) (satisfying_bounded b v p) h
      satisfying_bounded (Switch e branches) v p h = branch_bounded branches (value_of i v e) v p h
      satisfying_bounded (Cell share e f x) v p h = single_bounded _ _ (product s h.0) p (h.2).owns
      satisfying_bounded (Chunk share head xs) v p h = head_bounded (product s h.0) head v _ p h.2

      branch_bounded : (bs : Branches) (w : Value) (v : Valuation) (p : Part) → SatisfiesBranch M i s bs w v p → IsBounded p
      branch_bounded no_branches w v p h = absurd h
      branch_bounded (branch c xs a rest) (values.Constructed d ws) v p h =
          one_of (same_identity c d) (satisfying_bounded a (all_bound v xs ws) p) (branch_bounded rest (values.Constructed d ws) v p) h
      branch_bounded (branch c xs a rest) (values.Number z) v p h = absurd h
      branch_bounded (branch c xs a rest) (values.Truth b) v p h = absurd h
      branch_bounded (branch c xs a rest) values.Null v p h = absurd h
      branch_bounded (branch c xs a rest) (values.Pointer b o) v p h = absurd h
      branch_bounded (branch c xs a rest) (values.Function g) v p h = absurd h
      branch_bounded (branch c xs a rest) (values.Predicate q vs) v p h = absurd h
      branch_bounded (branch c xs a rest) (values.Fraction d) v p h = absurd h

if_bounded : (e : Environment) (M : Dyadic → BodyName → Values → Part → Type 0) → ((x : Dyadic) (b : BodyName) (vs : Values) (p : Part) → M x b vs p → IsBounded p)
    → (s : Dyadic) (o : Option BodyTree) (vs : Values) (p : Part) → SatisfiesIf e M s o vs p → IsBounded p
if_bounded e M each s None vs p h = absurd h
if_bounded e M each s (Some b) vs p h = satisfying_bounded M each (interpreted e.claims e.fixpoints) s b.assertion h.under p h.satisfies

means_bounded : (e : Environment) (n : ℕ) (s : Dyadic) (b : BodyName) (vs : Values) (p : Part) → MeansAt e n s b vs p → IsBounded p
means_bounded e zero s b vs p h = absurd h
means_bounded e (suc n) s b vs p h = if_bounded e (MeansAt e n) (means_bounded e n) s (e.bodies b) vs p h

pub satisfying_is_bounded : (e : Environment) (n : ℕ) (s : Dyadic) (a : Assertion) (v : Valuation) (p : Part) → SatisfiesAt e n s a v p → IsBounded p
satisfying_is_bounded e n s a v p h = satisfying_bounded (MeansAt e n) (means_bounded e n) (interpreted e.claims e.fixpoints) s a v p h
