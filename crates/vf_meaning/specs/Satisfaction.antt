-- When a part satisfies an assertion, at a scale and by what predicates mean; and what predicates mean at a depth.
use Rattle.std.specs.Prelude.{◌≡◌, ℕ, zero, suc, ◌<◌, IsTrue, List, ◌++◌, map, Option, Some, None}
use Rattle.std.specs.Bool.{MatchBool}
use Rattle.vf_tree.specs.Core.{Identity}
use Rattle.vf_model.specs.Values.{Dyadic, Value, Values, same_identity}
use Rattle.vf_model.specs.Values as values
use Rattle.vf_meaning.specs.Fractions.{product, IsPositive}
use Rattle.vf_meaning.specs.Ghost.{Numbered}
use Rattle.vf_meaning.specs.Valuations.{Valuation, listed, count, value_at, is_true, all_bound}
use Rattle.vf_meaning.specs.GhostValues.{Interpretation, value_of, interpreted}
use Rattle.vf_meaning.specs.Assertions.{ShareTree, Head, BlockOf, Named, Family, Applied, Assertion, Pure, Empty, Both, Choose, Switch, Cell, Chunk, Branches, no_branches, branch, BodyName, Plain, Instance, BodyTree, Environment}
use Rattle.vf_meaning.specs.Sorts.{AreOfSorts}
use Rattle.vf_meaning.specs.Parts.{Part, nothing, IsSum}
use Rattle.vf_meaning.specs.Chunks.{fraction_of, Wanted, Just, wanted, AllMeet, Primitive, Mutexes, HeldMutexes, Handles, IntBlocks, IntCells, Others, primitive, IsFieldCell, IsStructBlock, IsIntBlock, IsMutex, IsHeldMutex, IsHandle, IsInts}

-- the share of a chunk is a positive fraction x
pub record IsShare (v : Valuation) (share : ShareTree) (x : Dyadic) : Type 0 where
  pub is : fraction_of v share ≡ Some x
  pub positive : IsPositive x

-- M says what predicates mean: at a scale, for a body's name and its arguments, which parts satisfy it
module _ (M : Dyadic → BodyName → Values → Part → Type 0) where
  -- a body's name at arguments as asked
  abbrev pub SatisfiesBody : Dyadic → BodyName → List Wanted → Part → Type 0
  SatisfiesBody x b ws p = (vs : Values) × AllMeet ws (listed vs) × M x b vs p

  -- a predicate at arguments as asked: one of the prelude's without a body, or else by its body
  abbrev pub SatisfiesPrimitive : Primitive → Dyadic → Identity → List Wanted → Part → Type 0
  SatisfiesPrimitive Mutexes x q ws p = IsMutex x ws p
  SatisfiesPrimitive HeldMutexes x q ws p = IsHeldMutex x ws p
  SatisfiesPrimitive Handles x q ws p = IsHandle x ws p
  SatisfiesPrimitive IntBlocks x q ws p = IsIntBlock x ws p
  SatisfiesPrimitive IntCells x q ws p = IsInts x ws p
  SatisfiesPrimitive Others x q ws p = SatisfiesBody x (Plain q) ws p

  -- a predicate by its identity, at arguments as asked
  abbrev pub SatisfiesNamed : Dyadic → Identity → List Wanted → Part → Type 0
  SatisfiesNamed x q ws p = SatisfiesPrimitive (primitive q) x q ws p

  -- a family at an index, which is a function
  abbrev pub SatisfiesFamily : Dyadic → Identity → Value → List Wanted → Part → Type 0
  SatisfiesFamily x family (values.Function g) ws p = SatisfiesBody x (Instance family g) ws p
  SatisfiesFamily x family _ ws p = ⊥

  -- a predicate value at the arguments that it does not have yet
  abbrev pub SatisfiesValue : Dyadic → Value → List Wanted → Part → Type 0
  SatisfiesValue x (values.Predicate q first) ws p = SatisfiesNamed x q (map Just (listed first) ++ ws) p
  SatisfiesValue x _ ws p = ⊥

  module _ (i : Interpretation) (s : Dyadic) where
    -- a chunk, x being its share at the scale
    abbrev pub SatisfiesHead : Dyadic → Head → Valuation → List Wanted → Part → Type 0
    SatisfiesHead x (BlockOf g) v ws p = IsStructBlock x g ws p
    SatisfiesHead x (Named q) v ws p = SatisfiesNamed x q ws p
    SatisfiesHead x (Family family e) v ws p = SatisfiesFamily x family (value_of i v e) ws p
    SatisfiesHead x (Applied e) v ws p = SatisfiesValue x (value_of i v e) ws p

    -- a part satisfies an assertion, at the scale s: each share in it is multiplied by s
    abbrev mutual
      pub SatisfiesBy : Assertion → Valuation → Part → Type 0
      SatisfiesBy (Pure e) v p = (p ≡ nothing) × IsTrue (is_true (value_of i v e))
      SatisfiesBy Empty v p = p ≡ nothing
      SatisfiesBy (Both a b) v p = (q : Part) × (r : Part) × IsSum q r p × SatisfiesBy a v q × SatisfiesBy b v r
      SatisfiesBy (Choose c a b) v p = MatchBool (is_true (value_of i v c)) (SatisfiesBy a v p) (SatisfiesBy b v p)
      SatisfiesBy (Switch e branches) v p = SatisfiesBranch branches (value_of i v e) v p
      SatisfiesBy (Cell share e f x) v p = (c : Dyadic) × IsShare v share c × IsFieldCell (product s c) (value_of i v e) f (wanted i v x) p
      SatisfiesBy (Chunk share head xs) v p = (c : Dyadic) × IsShare v share c × SatisfiesHead (product s c) head v (map (wanted i v) xs) p

      -- the branch of the constructor that the value was made with, its names having the constructor's arguments
      pub SatisfiesBranch : Branches → Value → Valuation → Part → Type 0
      SatisfiesBranch no_branches w v p = ⊥
      SatisfiesBranch (branch c xs a rest) (values.Constructed d ws) v p =
          MatchBool (same_identity c d) (SatisfiesBy a (all_bound v xs ws) p) (SatisfiesBranch rest (values.Constructed d ws) v p)
      SatisfiesBranch (branch c xs a rest) _ v p = ⊥

-- the first names, as many as there are values, have these values
abbrev pub BeginsWith : Valuation → Values → Type 0
BeginsWith v vs = (k : ℕ) → k < count vs → v (Numbered k) ≡ value_at vs k

-- a part satisfies a body at arguments: for some values of its other names
pub record SatisfiesOf (e : Environment) (M : Dyadic → BodyName → Values → Part → Type 0) (s : Dyadic) (b : BodyTree) (vs : Values) (p : Part) : Type 0 where
  pub under : Valuation
  pub sorts : AreOfSorts e under b.sorts
  pub number : count vs ≡ b.parameters
  pub begins : BeginsWith under vs
  pub satisfies : SatisfiesBy M (interpreted e.claims e.fixpoints) s b.assertion under p

-- a body that may be missing: nothing satisfies it then
abbrev pub SatisfiesIf : Environment → (Dyadic → BodyName → Values → Part → Type 0) → Dyadic → Option BodyTree → Values → Part → Type 0
SatisfiesIf e M s None vs p = ⊥
SatisfiesIf e M s (Some b) vs p = SatisfiesOf e M s b vs p

-- what predicates mean at a depth: nothing at 0, and at a greater depth their bodies, by what predicates mean at a depth less by one
abbrev pub MeansAt : Environment → ℕ → Dyadic → BodyName → Values → Part → Type 0
MeansAt e zero s b vs p = ⊥
MeansAt e (suc n) s b vs p = SatisfiesIf e (MeansAt e n) s (e.bodies b) vs p

-- a part satisfies an assertion at a depth and a scale
abbrev pub SatisfiesAt : Environment → ℕ → Dyadic → Assertion → Valuation → Part → Type 0
SatisfiesAt e n s a v p = SatisfiesBy (MeansAt e n) (interpreted e.claims e.fixpoints) s a v p

-- a part satisfies an assertion at a scale: it does at some depth, so that predicates are the least fixed point of their bodies
abbrev pub Satisfies : Environment → Dyadic → Assertion → Valuation → Part → Type 0
Satisfies e s a v p = (n : ℕ) × SatisfiesAt e n s a v p
