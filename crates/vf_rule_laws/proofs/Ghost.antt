-- Rules of annotations that lead to one state lead from a typed state to a typed one.
use Rattle.std.proofs.Common.{ℕ, pos, List, [], ◌∷◌, ◌++◌, Option, Some, refl}
use Rattle.vf_tree.specs.Core.{TypeTree, ProgramTree, LessEqual}
use Rattle.vf_meaning.specs.Ghost.{Sort, Integers, Number, Not, Compare, PointerSum}
use Rattle.vf_meaning.specs.Assertions.{Environment}
use Rattle.vf_rules.specs.Terms as terms
use Rattle.vf_rules.specs.States.{Holds, OfSort, SymbolicState}
use Rattle.vf_rules.specs.Arrays.{row_chunk, shared_row, Arranges, knows_length, makes_row, splits_row, joins_rows}
use Rattle.vf_rules.specs.Ranges.{IsTypedState}
use Rattle.vf_rules.proofs.Ranges.{facts_keep_types, changes_keep_types}
use Rattle.vf_rule_laws.specs.Leading.{GhostLeads, changes, arranges, sees, splits_true, splits_false}
use Rattle.vf_rule_laws.specs.TypedLaws.{GhostStepsKeepTypes}
use Rattle.vf_rule_laws.proofs.Steps.{no_cell, contents_added, contents_removed, other_chunks}

module _ (e : Environment) (p : ProgramTree) (typed : List TypeTree) (kinds : ℕ → Option Sort) where
  abbrev Typed : SymbolicState → Type 0
  Typed st = IsTypedState e p typed kinds st

  -- a state with other ghost names
  pub renamed : (st : SymbolicState) (names : terms.Store) → Typed st → Typed (record st { names = names })
  renamed st names t = record { locals = t.locals; contents = t.contents; symbols = t.symbols }

  arranged : {st new : SymbolicState} → Arranges e st new → Typed st → Typed new
  arranged (knows_length {st} u long content c others removes head arguments) t = facts_keep_types e p typed kinds st (OfSort long Integers ∷ Holds (Compare LessEqual (Number (pos 0)) long) ∷ []) t
  arranged (makes_row {st} u nil is) t = other_chunks e p typed kinds st (st.chunks ++ row_chunk u (Number (pos 0)) (Some nil) ∷ []) t (contents_added e p st.path st.chunks (row_chunk u (Number (pos 0)) (Some nil) ∷ []) t.contents (no_cell e p st.path (row_chunk u (Number (pos 0)) (Some nil)) _ refl, tt))
  arranged (splits_row {st} u long count rest content first second c others removes head arguments number low high is splits) t =
      let rows = shared_row c.share u count first ∷ shared_row c.share (PointerSum u count) rest second ∷ [] in
      other_chunks e p typed kinds st (others ++ rows) t
      (contents_added e p st.path others rows (contents_removed e p st.path c removes t.contents).1 (no_cell e p st.path (shared_row c.share u count first) _ refl, (no_cell e p st.path (shared_row c.share (PointerSum u count) rest second) _ refl, tt)))
  arranged (joins_rows {st} u count w more total first second content c d mid others left head arguments right also further next shares is joins) t =
      let rows = shared_row c.share u total content ∷ [] in
      other_chunks e p typed kinds st (others ++ rows) t
      (contents_added e p st.path others rows (contents_removed e p st.path d right (contents_removed e p st.path c left t.contents).1).1 (no_cell e p st.path (shared_row c.share u total content) _ refl, tt))

  pub led : {st su : SymbolicState} → GhostLeads e st su → Typed st → Typed su
  led {st} {su} (changes h) t = changes_keep_types e p typed kinds st su h t
  led {st} {su} (arranges h) t = arranged h t
  led {st} (sees fact shown) t = facts_keep_types e p typed kinds st (fact ∷ []) t
  led {st} (splits_true u) t = facts_keep_types e p typed kinds st (Holds u ∷ []) t
  led {st} (splits_false u) t = facts_keep_types e p typed kinds st (Holds (Not u) ∷ []) t

pub ghost_steps_keep_types : GhostStepsKeepTypes
ghost_steps_keep_types e p typed kinds st su names leads t = renamed e p typed kinds su names (led e p typed kinds leads t)
