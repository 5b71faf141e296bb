-- Which sorts the arguments of chunks and the contents of cells have.
use Rattle.std.specs.Prelude.{◌≡◌, ℕ, false, List, [], ◌∷◌, map, Option, Some, None, slice_get}
use Rattle.vf_base.specs.declared.place.Place.{Place}
use Rattle.vf_tree.specs.Core.{Identity}
use Rattle.vf_closure.specs.Terms.{Term}
use Rattle.vf_sorts.specs.declared.sort.Head.TheVariants as heads
use Rattle.vf_sorts.specs.Sorts.{Sort, Sorts, sort}
use Rattle.vf_sorts.specs.Unknowns.{Filling, Known, filled}
use Rattle.vf_declared.specs.declared.ctype.CType.{CType}
use Rattle.vf_declared.specs.declared.declaration.Constructor.{Constructor}
use Rattle.vf_declared.specs.declared.declaration.Family.{Family}
use Rattle.vf_declared.specs.declared.declaration.GhostDeclaration.TheVariants as ghosts
use Rattle.vf_declared.specs.declared.declaration.PredicateConstructor.{PredicateConstructor}
use Rattle.vf_declared.specs.declared.scope.Scope.{Scope}
use Rattle.vf_declared.specs.Scopes.{at_name, field_of, is_later_predicate, later_predicate, local_of}
use Rattle.vf_syntax.specs.declared.pattern.Pattern as written_patterns
use Rattle.vf_syntax.specs.declared.pattern.Share as written
use Rattle.vf_syntax.specs.declared.written.Name.{Name}
use Rattle.vf_sorting.specs.Kinds.{bool_sort, pointer_sort}
use Rattle.vf_sorting.specs.Schemes.{constructor_scheme, sort_of_type}
use Rattle.vf_sorting.specs.declared.context.Context.{Context}
use Rattle.vf_binding.specs.declared.bound.Bound.{Bound}
use Rattle.vf_binding.specs.Chunks.{ChunkBinds, local_takes, sorts_of}
use Rattle.vf_binding.specs.Chunks as binding
use Rattle.vf_terms.specs.Named.{files_or_none, identity_of}
use Rattle.vf_resolved.specs.Apart.{as_term}
use Rattle.vf_resolved.specs.AssertionTree.{BranchTrees, PartTree, PartTrees, more_branch, more_part, no_branch, no_part}
use Rattle.vf_resolved.specs.AssertionTree as tree
use Rattle.vf_resolved.specs.TruthTree.{TruthTree}
use Rattle.vf_resolved.specs.declared.head.CellField.{CellField}
use Rattle.vf_resolved.specs.declared.head.Head.{Head}
use Rattle.vf_resolved.specs.declared.head.Head.TheVariants as chunks
use Rattle.vf_resolved.specs.declared.pattern.Argument.{Argument}
use Rattle.vf_resolved.specs.declared.pattern.Pattern.{Pattern}
use Rattle.vf_resolved.specs.declared.pattern.Share.{Share}
use Rattle.vf_resolved.specs.declared.pattern.Slot.{Slot}
use Rattle.vf_resolved_parts.specs.Heads.{fields_of, files_in, integer_in, place_in, text_or_none}
use Rattle.vf_resolved_laws.specs.Heads.{Declares, Vocabulary}
use Rattle.vf_resolved_laws.specs.Patterns.{AllHaveSorts, ArgumentHasSort, PatternHasSort, ShareHasSort, SlotHasSort}
use Rattle.vf_resolved_laws.specs.Terms.{TermHasSort, used}

-- the identity of the struct with a number
abbrev pub struct_of : Vocabulary → ℕ → Identity
struct_of d k = identity_of d.paths (files_in (slice_get d.scope.structures k)) (text_or_none (slice_get d.scope.tags k))

-- what a chunk is of takes arguments of these sorts, as they are known in the end: a value those that are the parts of its sort, a family at an index and a predicate constructor at its first arguments those of the others
pub data ChunkTakes (d : Vocabulary) : Head → List Sort → Type 0 where
  value : {x : Term} {ts : Sorts} → TermHasSort d x (sort heads.Predicate ts) → ChunkTakes d (chunks.Value x) (sorts_of ts)
  predicate : {c : Identity} {n : ℕ} {ts : List Sort} → Declares d c n (ghosts.Predicate ts) → (f : Filling) → ChunkTakes d (chunks.Predicate c) (map (filled f) ts)
  later : {c : Identity} {ts : List Sort} (x : List ℕ) (from : ℕ) → later_predicate d.scope x from ≡ Some ts → c ≡ identity_of d.paths (files_or_none (at_name d.scope.predicates d.scope.predicate_files x)) x → (f : Filling)
      → ChunkTakes d (chunks.Predicate c) (map (filled f) ts)
  family : {c : Identity} {n : ℕ} {k : Family} {x : Argument} → Declares d c n (ghosts.Family k) → (f : Filling) → ArgumentHasSort d x (filled f k.index) → ChunkTakes d (chunks.Family c x) (map (filled f) k.arguments)
  constructor : {c : Identity} {n : ℕ} {k : PredicateConstructor} {xs : List Argument} → Declares d c n (ghosts.PredicateConstructor k) → (f : Filling) → AllHaveSorts (ArgumentHasSort d) xs (map (filled f) k.first)
      → ChunkTakes d (chunks.Constructor c xs) (map (filled f) k.second)
  block : (k : ℕ) → ChunkTakes d (chunks.Block (struct_of d k)) (pointer_sort ∷ [])

-- a field of a struct has a type
pub record FieldHasType (d : Vocabulary) (c : CellField) (u : CType) : Type 0 where
  pub number : ℕ
  pub name : Name
  pub stands : field_of d.scope number name.text name.place.file ≡ Some u
  pub is : c ≡ record { structure = struct_of d number; index = place_in name.text (fields_of d.scope number); integer = integer_in (Some u) }

-- the names of a case, whose constructor has an identity, stand for values of the sorts of its arguments, at some sorts for the type parameters of its datatype
pub record NamesFit (d : Vocabulary) (c : Identity) (xs : List Slot) : Type 0 where
  pub number : ℕ
  pub constructor_of : Constructor
  pub stands : Declares d c number (ghosts.Constructor constructor_of)
  pub filling : Filling
  pub first : ℕ
  pub have_sorts : AllHaveSorts (SlotHasSort d) xs (map (used filling first (constructor_scheme d.scope constructor_of)) constructor_of.arguments)

mutual
  -- a part has the sorts that it takes
  pub data PartHasSorts (d : Vocabulary) : PartTree → Type 0 where
    pure : {p : Place} {x : TruthTree} → TermHasSort d (as_term x) bool_sort → PartHasSorts d (tree.pure p x)
    empty_ : {p : Place} → PartHasSorts d (tree.empty_ p)
    group : {p : Place} {xs : PartTrees} → PartsHaveSorts d xs → PartHasSorts d (tree.group p xs)
    conditional : {p : Place} {x : TruthTree} {xs ys : PartTrees} → TermHasSort d (as_term x) bool_sort → PartsHaveSorts d xs → PartsHaveSorts d ys → PartHasSorts d (tree.conditional p x xs ys)
    switch_ : {p : Place} {x : Term} {n : ℕ} {ts : Sorts} {bs : BranchTrees} → TermHasSort d x (sort (heads.Datatype n) ts) → BranchesHaveSorts d bs → PartHasSorts d (tree.switch_ p x bs)
    chunk : {p : Place} {h : Option Share} {x : Head} {xs : List Pattern} {ts : List Sort} → ShareHasSort d h → ChunkTakes d x ts → AllHaveSorts (PatternHasSort d) xs ts → PartHasSorts d (tree.chunk p h x xs)
    cell : {p : Place} {h : Option Share} {e : Term} {c : CellField} {x : Pattern} {u : CType} → ShareHasSort d h → TermHasSort d e pointer_sort → FieldHasType d c u → PatternHasSort d x (sort_of_type u) → PartHasSorts d (tree.cell p h e c x)

  -- the same of parts
  pub data PartsHaveSorts (d : Vocabulary) : PartTrees → Type 0 where
    no_parts : PartsHaveSorts d no_part
    more_parts : {x : PartTree} {xs : PartTrees} → PartHasSorts d x → PartsHaveSorts d xs → PartsHaveSorts d (more_part x xs)

  -- the same of the cases of a `switch`
  pub data BranchesHaveSorts (d : Vocabulary) : BranchTrees → Type 0 where
    no_branches : BranchesHaveSorts d no_branch
    more_branches : {p : Place} {c : Identity} {i : ℕ} {xs : List Slot} {ys : PartTrees} {bs : BranchTrees} → NamesFit d c xs → PartsHaveSorts d ys → BranchesHaveSorts d bs → BranchesHaveSorts d (more_branch (tree.branch p c i xs ys) bs)

-- what a local takes is known where it stands in front of parentheses, if ever
abbrev pub IsDecided : Scope → Known → Known → Name → Type 0
IsDecided s known in_the_end n = local_takes in_the_end (local_of s n.text) ≡ local_takes known (local_of s n.text)

-- so it is where a chunk may stand, behind its share
abbrev pub ChunkIsDecided : {s : Scope} {c : Context} {k k' : Known} {b b' : Bound} {h : Option written.Share} {n : Name} {xs : List written_patterns.Pattern} {ys : Option (List written_patterns.Pattern)} → Known → ChunkBinds s c k b h n xs ys k' b' → Type 0
ChunkIsDecided {s} {n = n} in_the_end (binding.ChunkBinds.chunk {k₁} share takes below all) = IsDecided s k₁ in_the_end n
ChunkIsDecided {s} {n = n} in_the_end (binding.ChunkBinds.truth {k₁} share takes passes) = IsDecided s k₁ in_the_end n

-- each predicate that stands later in the unit has sorts
abbrev pub LaterHaveSorts : Scope → Type 0
LaterHaveSorts s = (x : List ℕ) (from : ℕ) → later_predicate s x from ≡ None → is_later_predicate s x from ≡ false
