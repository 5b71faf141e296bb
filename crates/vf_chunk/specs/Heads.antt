-- Heads: what a chunk is of.
use Rattle.std.specs.Prelude.{Bool, true, false, ◌&&◌, ◌==◌, List, [], ◌∷◌}
use Rattle.vf_model.specs.Values.{same_identity}
use Rattle.vf_meaning.specs.Chunks.{Primitive, IntCells, Others, primitive}
use Rattle.vf_closure.specs.Terms.{Term}
use Rattle.vf_chunk.specs.declared.head.HeadName.{HeadName}
use Rattle.vf_chunk.specs.declared.head.HeadName.TheVariants as names
use Rattle.vf_chunk.specs.declared.head.Head.{Head}

-- whether two names of heads are one
abbrev pub is_one_name : HeadName → HeadName → Bool
is_one_name (names.Cell s i) (names.Cell t j) = same_identity s t && (i == j)
is_one_name (names.Block s) (names.Block t) = same_identity s t
is_one_name (names.Predicate p) (names.Predicate q) = same_identity p q
is_one_name (names.Family f) (names.Family g) = same_identity f g
is_one_name names.Value names.Value = true
is_one_name _ _ = false

-- whether there are no terms
abbrev pub are_none : List Term → Bool
are_none [] = true
are_none (t ∷ ts) = false

-- whether a head has no head terms
abbrev pub is_bare : Head → Bool
is_bare h = are_none h.terms

-- whether a predicate of the prelude without a body is a fraction of locations
abbrev pub is_location : Primitive → Bool
is_location Others = false
is_location _ = true

-- whether chunks of a head with one first argument are shares of one location, so that they are merged: cells, blocks, and the prelude's predicates without a body
abbrev pub is_primitive : HeadName → Bool
is_primitive (names.Cell s i) = true
is_primitive (names.Block s) = true
is_primitive (names.Predicate p) = is_location (primitive p)
is_primitive _ = false

-- whether a predicate is that of rows of int cells
abbrev pub is_row : Primitive → Bool
is_row IntCells = true
is_row _ = false

-- whether a head is that of rows of int cells, which are merged only where their lengths are equal too
abbrev pub is_of_rows : HeadName → Bool
is_of_rows (names.Predicate p) = is_row (primitive p)
is_of_rows _ = false
