-- The functions that read and write an array at an index are accepted.
use Rattle.std.proofs.Common.{◌≡◌, ℕ, zero, suc, pos, List, [], ◌∷◌, ◌++◌, Some, None, refl, subst, ◌⊎◌, inl, inr, arith}
use Rattle.vf_base.specs.declared.int_type.IntType.TheVariants as types
use Rattle.vf_tree.specs.Core.{Integer, Less, LessEqual, Read}
use Rattle.vf_model.specs.Integers.{least, greatest}
use Rattle.vf_model.specs.Values.{Value}
use Rattle.vf_model.specs.Values as values
use Rattle.vf_meaning.specs.Fractions.{whole}
use Rattle.vf_meaning.specs.Ghost.{Sort, Name, Integers, Pointers, Numbered, Result, This, CurrentThread, Number, Compare, Fraction, Share}
use Rattle.vf_meaning.specs.Chunks.{list_of}
use Rattle.vf_meaning.specs.Sorts.{HasSort}
use Rattle.vf_rules.specs.Terms.{Term, Store, stored}
use Rattle.vf_rules.specs.States.{Fact, Holds, OfSort, SymbolicChunk, SymbolicState, assuming_all, with_chunks}
use Rattle.vf_rules.specs.Fresh.{symbol, IsNew}
use Rattle.vf_rules.specs.Types.{facts_of_type}
use Rattle.vf_rules.specs.Take.{takes_all, removes_here, no_change}
use Rattle.vf_rules.specs.Predicates.{AreInhabited}
use Rattle.vf_rules.specs.Arrays.{row_chunk, shared_row, finds_from, becomes_set}
use Rattle.vf_rules.specs.Accept.{all_of_it, with_local, beginning, KeepsFixed, Accepts, do_load_at, do_store_at, do_return, do_leave, IsAcceptedFunction}
use Rattle.vf_safety.specs.ArrayLaws.{numbers, apply}
use Rattle.vf_safety.specs.ElementLaws.{nth_name, set_name, apply_three, DeclaresElements}
use Rattle.vf_safety.proofs.ElementFixpoints.{items_are_nth, written_lists_are_set}
use Rattle.vf_safety.proofs.ElementOrder.{elements_are_in_order}
use Rattle.vf_examples.specs.BoxProgram.{somewhere}
use Rattle.vf_examples.specs.ArrayCalls.{arrays, get_contract, put_contract, get, put, array_program, ElementsAreAccepted}
use Rattle.vf_examples.proofs.NewSymbols.{fresh_call, fresh_state, new_symbol}
use Rattle.vf_examples.proofs.SharingFacts.{some_same, none_some, among_one, same_self, by_value, by_place, nothing_bound, name_bound, integer_is_no_void}

elements : DeclaresElements arrays
elements = record { ordered = elements_are_in_order; reads = (0, omega arith, refl); sets = (1, omega arith, refl) }

-- ---- sorts
abbrev HasValue : Sort → Type 0
HasValue s = (w : Value) × HasSort arrays w s

pointers : HasValue Pointers
pointers = (values.Null, inl refl)

integers : HasValue Integers
integers = (values.Number (pos 0), inl refl)

lists : HasValue numbers
lists = (list_of [], ((refl, refl), ([], refl, tt)))

get_inhabited : AreInhabited arrays get_contract.sorts
get_inhabited zero s is = subst HasValue (some_same is) pointers
get_inhabited (suc zero) s is = subst HasValue (some_same is) integers
get_inhabited (suc (suc zero)) s is = subst HasValue (some_same is) integers
get_inhabited (suc (suc (suc zero))) s is = subst HasValue (some_same is) lists
get_inhabited (suc (suc (suc (suc k)))) s is = none_some is

put_inhabited : AreInhabited arrays put_contract.sorts
put_inhabited zero s is = subst HasValue (some_same is) pointers
put_inhabited (suc zero) s is = subst HasValue (some_same is) integers
put_inhabited (suc (suc zero)) s is = subst HasValue (some_same is) integers
put_inhabited (suc (suc (suc zero))) s is = subst HasValue (some_same is) integers
put_inhabited (suc (suc (suc (suc zero)))) s is = subst HasValue (some_same is) lists
put_inhabited (suc (suc (suc (suc (suc k))))) s is = none_some is

-- ---- names that are bound
-- one of several names in a row
three_bound : (s : Store) (x y z : Name) (t u w : Term) → s x ≡ Some t → s y ≡ Some u → s z ≡ Some w → (n : Name) → (x ≡ n) ⊎ ((y ≡ n) ⊎ ((z ≡ n) ⊎ ⊥)) → (r : Term) × (s n ≡ Some r)
three_bound s x y z t u w a b c n (inl h) = name_bound s x t a n h
three_bound s x y z t u w a b c n (inr (inl h)) = name_bound s y u b n h
three_bound s x y z t u w a b c n (inr (inr (inl h))) = name_bound s z w c n h
three_bound s x y z t u w a b c n (inr (inr (inr never))) = absurd never

two_bound : (s : Store) (x y : Name) (t u : Term) → s x ≡ Some t → s y ≡ Some u → (n : Name) → (x ≡ n) ⊎ (y ≡ n) → (r : Term) × (s n ≡ Some r)
two_bound s x y t u a b n (inl h) = name_bound s x t a n h
two_bound s x y t u a b n (inr h) = name_bound s y u b n h

right_bound : (s : Store) (x : Name) (t : Term) → s x ≡ Some t → (n : Name) → ⊥ ⊎ (x ≡ n) → (r : Term) × (s n ≡ Some r)
right_bound s x t a n (inl never) = absurd never
right_bound s x t a n (inr h) = name_bound s x t a n h

-- ---- the function that reads
abbrev share : Term
share = Share all_of_it (Fraction whole)

abbrev read_names : Store
read_names = (beginning get get_contract).names

abbrev read_store : Store
read_store = stored read_names (Numbered 3) (symbol 3)

abbrev read_row : SymbolicChunk
read_row = shared_row share (symbol 0) (symbol 1) (Some (symbol 3))

abbrev read_path : List Fact
read_path = (beginning get get_contract).path ++ OfSort (symbol 3) numbers ∷ OfSort (symbol 1) Integers ∷ Holds (Compare LessEqual (Number (pos 0)) (symbol 1)) ∷ Holds (Compare LessEqual (Number (pos 0)) (symbol 2)) ∷ Holds (Compare Less (symbol 2) (symbol 1)) ∷ []

abbrev read_produced : SymbolicState
read_produced = record { locals = (beginning get get_contract).locals; names = read_names; chunks = read_row ∷ []; path = read_path }

abbrev read_begun : SymbolicState
read_begun = record { locals = (beginning get get_contract).locals; names = read_store; chunks = read_row ∷ []; path = read_path }

abbrev item : Term
item = apply nth_name (symbol 3) (symbol 2)

abbrev read : SymbolicState
read = with_local (assuming_all read_begun (facts_of_type (Integer types.Int) item)) 3 item

abbrev result_store : Store
result_store = stored read_store Result item

read_new : IsNew 3 all_of_it read_names (Some share ∷ Some (symbol 0) ∷ Some (symbol 1) ∷ []) (beginning get get_contract)
read_new =
    new_symbol 3 all_of_it read_names (Some share ∷ Some (symbol 0) ∷ Some (symbol 1) ∷ []) (beginning get get_contract)
    (fresh_state 3 (beginning get get_contract) (fresh_call 3 (symbol 0 ∷ symbol 1 ∷ symbol 2 ∷ []) refl) refl refl refl) (fresh_call 3 (symbol 0 ∷ symbol 1 ∷ symbol 2 ∷ []) refl) refl refl

read_keeps : KeepsFixed get_contract read_store result_store
read_keeps (Numbered k) u fix is = is
read_keeps Result u fix is = absurd fix
read_keeps This u fix is = is
read_keeps CurrentThread u fix is = is

read_ends : Accepts arrays array_program get get_contract [] [] 1 read
read_ends =
    do_return {now = []} {soon = []} {n = 1} {st = read} (Read 3 somewhere) item refl refl
    (by_place arrays read.path 16 (OfSort item Integers) refl, (by_place arrays read.path 17 (Holds (Compare LessEqual (Number (least types.Int)) item)) refl, (by_place arrays read.path 18 (Holds (Compare LessEqual item (Number (greatest types.Int)))) refl, tt)))
    integer_is_no_void (
      nothing_bound result_store,
      (
        read,
        no_change,
        (
          tt,
          (
            read_row,
            [],
            takes_all (same_self arrays read.path share),
            (
              refl,
              (
                name_bound result_store (Numbered 0) (symbol 0) refl,
                same_self arrays read.path (symbol 0),
                (
                  name_bound result_store (Numbered 1) (symbol 1) refl,
                  same_self arrays read.path (symbol 1),
                  (
                    name_bound result_store (Numbered 3) (symbol 3) refl,
                    same_self arrays read.path (symbol 3),
                    (three_bound result_store Result (Numbered 3) (Numbered 2) item (symbol 3) (symbol 2) refl refl refl, same_self arrays read.path item, (refl, read_keeps)),
                  ),
                ),
              ),
            ),
          ),
        ),
      ),
    )

read_body : Accepts arrays array_program get get_contract [] [] 0 read_begun
read_body =
    do_load_at {now = []} {soon = []} {n = 0} {st = read_begun} 3 (Read 0 somewhere) (Read 2 somewhere) somewhere 1 (symbol 0) (symbol 2) (symbol 0) (symbol 1) (symbol 3) (symbol 2) item read_row [] refl refl refl
    (by_place arrays read_path 4 (OfSort (symbol 2) Integers) refl) removes_here refl refl (finds_from (same_self arrays read_path (symbol 0)))
    (by_place arrays read_path 14 (Holds (Compare LessEqual (Number (pos 0)) (symbol 2))) refl, by_place arrays read_path 15 (Holds (Compare Less (symbol 2) (symbol 1))) refl)
    (items_are_nth arrays elements read_path (symbol 3) (symbol 2)) read_ends

get_is_accepted : IsAcceptedFunction arrays array_program get get_contract
get_is_accepted = record {
  contract = record { known = inl refl; parameters = refl; fewer = omega arith; inhabited = get_inhabited };
  outs = record { store = read_store; state = read_produced } ∷ [];
  produced = (
    nothing_bound read_names,
    (
      tt,
      (
        name_bound read_names (Numbered 0) (symbol 0) refl,
        (
          name_bound read_names (Numbered 1) (symbol 1) refl,
          (3, read_new, refl, (right_bound read_store (Numbered 2) (symbol 2) refl, inr (two_bound read_store (Numbered 2) (Numbered 1) (symbol 2) (symbol 1) refl refl, inr (inl (refl, refl))))),
        ),
      ),
    ),
  );
  body = among_one (λ s su. Accepts arrays array_program get get_contract [] [] 0 (record su { names = s })) read_store read_produced read_body;
}

-- ---- the function that writes
abbrev write_names : Store
write_names = (beginning put put_contract).names

abbrev write_store : Store
write_store = stored write_names (Numbered 4) (symbol 4)

abbrev old_row : SymbolicChunk
old_row = shared_row share (symbol 0) (symbol 1) (Some (symbol 4))

abbrev write_path : List Fact
write_path = (beginning put put_contract).path ++ OfSort (symbol 4) numbers ∷ OfSort (symbol 1) Integers ∷ Holds (Compare LessEqual (Number (pos 0)) (symbol 1)) ∷ Holds (Compare LessEqual (Number (pos 0)) (symbol 2)) ∷ Holds (Compare Less (symbol 2) (symbol 1)) ∷ []

abbrev write_produced : SymbolicState
write_produced = record { locals = (beginning put put_contract).locals; names = write_names; chunks = old_row ∷ []; path = write_path }

abbrev write_begun : SymbolicState
write_begun = record { locals = (beginning put put_contract).locals; names = write_store; chunks = old_row ∷ []; path = write_path }

abbrev written : Term
written = apply_three set_name (symbol 4) (symbol 2) (symbol 3)

abbrev new_row : SymbolicChunk
new_row = row_chunk (symbol 0) (symbol 1) (Some written)

abbrev wrote : SymbolicState
wrote = with_chunks write_begun (new_row ∷ [])

write_new : IsNew 4 all_of_it write_names (Some share ∷ Some (symbol 0) ∷ Some (symbol 1) ∷ []) (beginning put put_contract)
write_new =
    new_symbol 4 all_of_it write_names (Some share ∷ Some (symbol 0) ∷ Some (symbol 1) ∷ []) (beginning put put_contract)
    (fresh_state 4 (beginning put put_contract) (fresh_call 4 (symbol 0 ∷ symbol 1 ∷ symbol 2 ∷ symbol 3 ∷ []) refl) refl refl refl) (fresh_call 4 (symbol 0 ∷ symbol 1 ∷ symbol 2 ∷ symbol 3 ∷ []) refl) refl refl

write_ends : Accepts arrays array_program put put_contract [] [] 1 wrote
write_ends =
    do_leave {now = []} {soon = []} {n = 1} {st = wrote} refl refl (
      nothing_bound write_store,
      (
        wrote,
        no_change,
        (
          tt,
          (
            new_row,
            [],
            takes_all (by_value arrays write_path share all_of_it (λ v. refl)),
            (
              refl,
              (
                name_bound write_store (Numbered 0) (symbol 0) refl,
                same_self arrays write_path (symbol 0),
                (
                  name_bound write_store (Numbered 1) (symbol 1) refl,
                  same_self arrays write_path (symbol 1),
                  (
                    three_bound write_store (Numbered 4) (Numbered 2) (Numbered 3) (symbol 4) (symbol 2) (symbol 3) refl refl refl,
                    same_self arrays write_path written,
                    (refl, λ x t fix is. is),
                  ),
                ),
              ),
            ),
          ),
        ),
      ),
    )

write_body : Accepts arrays array_program put put_contract [] [] 0 write_begun
write_body =
    do_store_at {now = []} {soon = []} {n = 0} {st = write_begun} (Read 0 somewhere) (Read 2 somewhere) (Read 3 somewhere) somewhere 1 (symbol 0) (symbol 2) (symbol 3) (symbol 0) (symbol 1) (symbol 2) (Some (symbol 4)) (Some written) old_row [] refl refl refl refl
    (by_place arrays write_path 4 (OfSort (symbol 2) Integers) refl)
    (by_place arrays write_path 7 (OfSort (symbol 3) Integers) refl, (by_place arrays write_path 8 (Holds (Compare LessEqual (Number (least types.Int)) (symbol 3))) refl, (by_place arrays write_path 9 (Holds (Compare LessEqual (symbol 3) (Number (greatest types.Int)))) refl, tt)))
    (takes_all (by_value arrays write_path all_of_it share (λ v. refl))) refl refl (finds_from (same_self arrays write_path (symbol 0)))
    (by_place arrays write_path 18 (Holds (Compare LessEqual (Number (pos 0)) (symbol 2))) refl, by_place arrays write_path 19 (Holds (Compare Less (symbol 2) (symbol 1))) refl)
    (becomes_set (written_lists_are_set arrays elements write_path (symbol 4) (symbol 2) (symbol 3))) write_ends

put_is_accepted : IsAcceptedFunction arrays array_program put put_contract
put_is_accepted = record {
  contract = record { known = inl refl; parameters = refl; fewer = omega arith; inhabited = put_inhabited };
  outs = record { store = write_store; state = write_produced } ∷ [];
  produced = (
    nothing_bound write_names,
    (
      tt,
      (
        name_bound write_names (Numbered 0) (symbol 0) refl,
        (
          name_bound write_names (Numbered 1) (symbol 1) refl,
          (4, write_new, refl, (right_bound write_store (Numbered 2) (symbol 2) refl, inr (two_bound write_store (Numbered 2) (Numbered 1) (symbol 2) (symbol 1) refl refl, inr (inl (refl, refl))))),
        ),
      ),
    ),
  );
  body = among_one (λ s su. Accepts arrays array_program put put_contract [] [] 0 (record su { names = s })) write_store write_produced write_body;
}

pub elements_are_accepted : ElementsAreAccepted
elements_are_accepted = (get_is_accepted, put_is_accepted)
