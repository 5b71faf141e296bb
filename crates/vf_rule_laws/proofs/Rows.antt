-- A chunk of a predicate value that is known to be that of rows of int cells tells the row's length.
use Rattle.std.proofs.Common.{◌≡◌, pos, List, [], ◌∷◌, Option, Some, None, subst₂}
use Rattle.std.specs.Prelude.{codes}
use Rattle.vf_tree.specs.Core.{LessEqual}
use Rattle.vf_model.specs.Values.{Value}
use Rattle.vf_meaning.specs.Ghost.{Integers, Number, Compare}
use Rattle.vf_meaning.specs.Valuations.{Valuation}
use Rattle.vf_meaning.specs.Assertions.{Named, Environment}
use Rattle.vf_meaning.specs.Parts.{Part}
use Rattle.vf_rules.specs.Terms.{Term}
use Rattle.vf_rules.specs.States.{Holds, OfSort, SymbolicChunk, SymbolicState, Meets, HeadMeans, ChunkMeans, StandsFor}
use Rattle.vf_rules.specs.Take.{Removes, removes_here, removes_later, Renames, Replaces, replaces_here, replaces_later, names_value, no_change, and_change}
use Rattle.vf_rules.specs.Arrays.{row_head}
use Rattle.vf_rules.proofs.Takes.{removes_parted, changes_stand}
use Rattle.vf_rules.proofs.RowLengths.{chunk_met}
use Rattle.vf_rule_laws.specs.Rows.{ValuedRowsShowLengths}

-- a chunk of several, with another one in its place
replaced : (c d : SymbolicChunk) {cs ds : List SymbolicChunk} → Removes c cs ds → (es : List SymbolicChunk) × Replaces c d cs es × Removes d es ds
replaced c d (removes_here {cs}) = (d ∷ cs, replaces_here, removes_here)
replaced c d (removes_later {d = b} r) = let o = replaced c d r in (b ∷ o.0, replaces_later o.1, removes_later o.2)

-- what a row tells of its length
row_told : (e : Environment) (v : Valuation) (u long : Term) (content : Option Term) (d : SymbolicChunk) (q : Part) → ChunkMeans e v d q → d.head ≡ row_head → d.arguments ≡ Some u ∷ Some long ∷ content ∷ []
    → Meets e v (OfSort long Integers ∷ Holds (Compare LessEqual (Number (pos 0)) long) ∷ [])
row_told e v u long content d q m head arguments =
    let h : HeadMeans e v m.fraction row_head (Some u ∷ Some long ∷ content ∷ []) q = subst₂ (λ k ts. HeadMeans e v m.fraction k ts q) head arguments m.head in
    chunk_met e v h.0 m.fraction (Named (codes "<vf_arrays.h>#ints")) (λ x. None) (Some u ∷ Some long ∷ content ∷ []) q h.1

told : (e : Environment) (st : SymbolicState) (u long : Term) (content : Option Term) (c d : SymbolicChunk) (others : List SymbolicChunk) → Removes c st.chunks others → Renames e st.path c d → d.head ≡ row_head → d.arguments ≡ Some u ∷ Some long ∷ content ∷ []
    → (v : Valuation) (locals : List (Option Value)) (names : Valuation) (p : Part) → StandsFor e v st locals names p → Meets e v (OfSort long Integers ∷ Holds (Compare LessEqual (Number (pos 0)) long) ∷ [])
told e st u long content c d others removes renames head arguments v locals names p stands =
    let o = replaced c d removes in
    let after = changes_stand e v (and_change (names_value {st = st} c d o.0 renames o.1) no_change) locals names p stands in
    let parted = removes_parted e v d o.2 p after.chunks_mean in
    row_told e v u long content d parted.off parted.chunk head arguments

pub valued_rows_show_lengths : ValuedRowsShowLengths
valued_rows_show_lengths e st u long content c d others removes renames head arguments =
    (record { by = λ v locals names p stands. (told e st u long content c d others removes renames head arguments v locals names p stands).0 }, record { by = λ v locals names p stands. ((told e st u long content c d others removes renames head arguments v locals names p stands).1).0 })
