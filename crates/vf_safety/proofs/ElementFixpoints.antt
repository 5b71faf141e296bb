-- Reads and writes at an index of a row give what the fixpoints on lists of numbers give.
use Rattle.std.proofs.Common.{◌≡◌, ℕ, zero, suc, ◌+◌, pos, false, cond, List, [], ◌∷◌, ◌++◌, length, slice_get, slice_set, Option, Some, None, refl, sym, ap, ap₂, ◌∙◌, arith}
use Rattle.std.specs.Prelude.{ℤ, ◌+ℤ◌, ◌-ℤ◌, codes}
use Rattle.std.specs.Ordering.{int_eq}
use Rattle.std.proofs.lemmas.Int.{ints}
use Rattle.vf_tree.specs.Core.{LessEqual}
use Rattle.vf_model.specs.Values.{Value, none, more, number_of}
use Rattle.vf_model.specs.Values as values
use Rattle.vf_meaning.specs.Ghost.{Integers, Number, Compare}
use Rattle.vf_meaning.specs.Valuations.{Valuation}
use Rattle.vf_meaning.specs.Parts.{Part}
use Rattle.vf_rules.specs.States.{Holds, OfSort, value_in, Meets, ChunksMean}
use Rattle.vf_meaning.specs.GhostValues.{by_body, interpreted}
use Rattle.vf_meaning.specs.Assertions.{Environment}
use Rattle.vf_meaning.specs.Chunks.{list_of}
use Rattle.vf_meaning.proofs.Ordered.{listed_fixpoints_meet_equations}
use Rattle.vf_rules.proofs.Takes.{removes_parted}
use Rattle.vf_rules.proofs.RowLengths.{length_met}
use Rattle.vf_safety.specs.ArrayLaws.{take_name, drop_name, append_name, apply}
use Rattle.vf_safety.specs.ElementLaws.{nth_name, set_name, nth_fixpoint, set_fixpoint, DeclaresElements, ItemsAreNth, WrittenListsAreSet, CellsHoldNth, WrittenCellsAreSet, OneItemIsAList, NilIsEmpty, ListsAreCut, ListsAreAppended, LengthsAreLess, LengthsAreMore, RowsShowLengths}
use Rattle.vf_safety.proofs.Elements.{row_owned_of, item_there, map_set}
use Rattle.vf_safety.proofs.ListFixpoints.{at_two, takes, drops, appends}

some_same : {A : Type 0} {x y : A} → Some x ≡ Some y → x ≡ y
some_same e = cc

none_some : {A B : Type 0} {x : A} → None ≡ Some x → B
none_some e = cc

not_here : (n : ℕ) → int_eq (pos (suc n)) (pos 0) ≡ false
not_here n = grind (arith, ints)

less : (n : ℕ) → pos (suc n) -ℤ pos 1 ≡ pos n
less n = grind (arith, ints)

difference : (i j : ℕ) → pos (i + j) -ℤ pos i ≡ pos j
difference i j = grind (arith, ints)

total : (i j : ℕ) → pos i +ℤ pos j ≡ pos (i + j)
total i j = grind (arith, ints)

module _ (e : Environment) (elements : DeclaresElements e) where
  -- what `ints_nth` and `ints_set` are at values
  abbrev nth : Value → Value → Value
  nth list index = (interpreted e.claims e.fixpoints).fixpoint nth_name (more list (more index none))

  abbrev set_to : Value → Value → Value → Value
  set_to list index item = (interpreted e.claims e.fixpoints).fixpoint set_name (more list (more index (more item none)))

  abbrev cell : ℤ → Value → Value
  cell z rest = values.Constructed (codes "<vf_arrays.h>#ints_cons") (more (values.Number z) (more rest none))

  nth_equation : (list index : Value) → nth list index ≡ by_body (interpreted e.claims e.fixpoints) nth_fixpoint.body (more list (more index none))
  nth_equation list index = listed_fixpoints_meet_equations e.claims e.fixpoints nth_fixpoint (more list (more index none)) elements.ordered elements.reads

  set_equation : (list index item : Value) → set_to list index item ≡ by_body (interpreted e.claims e.fixpoints) set_fixpoint.body (more list (more index (more item none)))
  set_equation list index item = listed_fixpoints_meet_equations e.claims e.fixpoints set_fixpoint (more list (more index (more item none))) elements.ordered elements.sets

  nth_is : (zs : List ℤ) (k : ℕ) (z : ℤ) → slice_get zs k ≡ Some z → nth (list_of zs) (values.Number (pos k)) ≡ values.Number z
  nth_is [] k z h = none_some h
  nth_is (y ∷ ys) zero z h = nth_equation (list_of (y ∷ ys)) (values.Number (pos 0)) ∙ ap values.Number (some_same h)
  nth_is (y ∷ ys) (suc k) z h =
      nth_equation (list_of (y ∷ ys)) (values.Number (pos (suc k)))
      ∙ ap (λ b. cond b (values.Number y) (nth (list_of ys) (values.Number (pos (suc k) -ℤ pos 1)))) (not_here k)
      ∙ ap (λ w. nth (list_of ys) (values.Number w)) (less k)
      ∙ nth_is ys k z h

  set_is : (zs : List ℤ) (k : ℕ) (z : ℤ) → set_to (list_of zs) (values.Number (pos k)) (values.Number z) ≡ list_of (slice_set zs k z)
  set_is [] k z = set_equation (list_of []) (values.Number (pos k)) (values.Number z)
  set_is (y ∷ ys) zero z = set_equation (list_of (y ∷ ys)) (values.Number (pos 0)) (values.Number z)
  set_is (y ∷ ys) (suc k) z =
      set_equation (list_of (y ∷ ys)) (values.Number (pos (suc k))) (values.Number z)
      ∙ ap (λ b. cond b (cell z (list_of ys)) (cell y (set_to (list_of ys) (values.Number (pos (suc k) -ℤ pos 1)) (values.Number z)))) (not_here k)
      ∙ ap (λ w. cell y (set_to (list_of ys) (values.Number w) (values.Number z))) (less k)
      ∙ ap (cell y) (set_is ys k z)

-- ---- the laws
pub items_are_nth : ItemsAreNth
items_are_nth e elements path list index = record { by = λ v m zs k z list_is index_is at. ap₂ (nth e elements) list_is index_is ∙ nth_is e elements zs k z at }

pub written_lists_are_set : WrittenListsAreSet
written_lists_are_set e elements path list index item = record {
  by = λ v m zs k z list_is index_is item_is. ap₂ (λ a b. set_to e elements a b (value_in e v item)) list_is index_is ∙ ap (set_to e elements (list_of zs) (values.Number (pos k))) item_is ∙ set_is e elements zs k z;
}

pub one_item_is_a_list : OneItemIsAList
one_item_is_a_list e path item = record { by = λ v m z item_is. ap (λ w. values.Constructed (codes "<vf_arrays.h>#ints_cons") (more w (more (list_of []) none))) item_is }

pub cells_hold_nth : CellsHoldNth
cells_hold_nth e elements v list index cells k held meets index_is there = item_there e v [] list index (apply nth_name list index) cells k held (items_are_nth e elements [] list index) tt meets index_is there

pub written_cells_are_set : WrittenCellsAreSet
written_cells_are_set e elements v list index item cells k z (zs, list_is, cells_are) index_is item_is =
    (slice_set zs k z, (written_lists_are_set e elements [] list index item).by v tt zs k z list_is index_is item_is, ap (λ r. slice_set r k (Some (values.Number z))) cells_are ∙ map_set zs k z)

pub nil_is_empty : NilIsEmpty
nil_is_empty e path = record { by = λ v m. refl }

pub lists_are_cut : ListsAreCut
lists_are_cut e lists path list count = record {
  by = λ v m xs ys list_is count_is. (ap₂ (at_two e lists take_name) list_is count_is ∙ takes e lists xs ys, ap₂ (at_two e lists drop_name) list_is count_is ∙ drops e lists xs ys);
}

pub lists_are_appended : ListsAreAppended
lists_are_appended e lists path first second = record { by = λ v m xs ys first_is second_is. ap₂ (at_two e lists append_name) first_is second_is ∙ appends e lists xs ys }

pub lengths_are_less : LengthsAreLess
lengths_are_less e path long first = record { by = λ v m i j long_is first_is. ap₂ (λ a b. values.Number (number_of a -ℤ number_of b)) long_is first_is ∙ ap values.Number (difference i j) }

pub lengths_are_more : LengthsAreMore
lengths_are_more e path first second = record { by = λ v m i j first_is second_is. ap₂ (λ a b. values.Number (number_of a +ℤ number_of b)) first_is second_is ∙ ap values.Number (total i j) }

pub rows_show_lengths : RowsShowLengths
rows_show_lengths e st u long content c others taken head arguments = (record { by = λ v locals names p stands. (met v p stands.chunks_mean).0 }, record { by = λ v locals names p stands. ((met v p stands.chunks_mean).1).0 })
  where
    met : (v : Valuation) (p : Part) → ChunksMean e v st.chunks p → Meets e v (OfSort long Integers ∷ Holds (Compare LessEqual (Number (pos 0)) long) ∷ [])
    met v p means =
        let o = removes_parted e v c taken p means in
        let owned = row_owned_of e v u long content c o.off o.chunk head arguments in
        length_met e v long (length owned.row) owned.long_is
