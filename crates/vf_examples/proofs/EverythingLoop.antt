-- The loop of the example with everything is accepted: a list is built, of which the predicate is closed once more in each round, and what it has is leaked behind the loop.
use Rattle.std.specs.Prelude.{int_le, int_lt, ◌+ℤ◌}
use Rattle.std.proofs.Common.{◌≡◌, ◌≢◌, ℕ, zero, suc, ℤ, pos, Bool, true, not, List, [], ◌∷◌, ◌++◌, slice_get, Option, Some, None, refl, sym, ap, subst, ◌∙◌, inl, inr, arith}
use Rattle.std.proofs.lemmas.Int.{ints}
use Rattle.std.proofs.lemmas.Bool.{false≢true}
use Rattle.vf_base.specs.declared.int_type.IntType.TheVariants as types
use Rattle.vf_tree.specs.Core.{TypeTree, Void, Integer, PointerToStruct, Add, Less, Equal, LessEqual, NotEqual}
use Rattle.vf_tree.specs.Core as core
use Rattle.vf_model.specs.Values.{number_of}
use Rattle.vf_model.specs.Values as values
use Rattle.vf_model.specs.Integers.{least, greatest}
use Rattle.vf_model.specs.PreludeFunctions.{Abort, identity_of}
use Rattle.vf_meaning.specs.Ghost.{Integers, Pointers, Name, Numbered, Result, This, CurrentThread, Null, Number, Compare, Arithmetic, Not}
use Rattle.vf_meaning.specs.Valuations.{Valuation, is_same}
use Rattle.vf_meaning.specs.Assertions.{Named, Plain}
use Rattle.vf_meaning.specs.Environments.{by_command}
use Rattle.vf_rules.specs.Terms.{Term, Store, stored}
use Rattle.vf_rules.specs.States.{Fact, Holds, OfSort, Of, SymbolicChunk, SymbolicState, IsMet, Meets, Entails}
use Rattle.vf_rules.specs.Fresh.{symbol}
use Rattle.vf_rules.specs.Types.{type_of_field, facts_of_type}
use Rattle.vf_rules.specs.Take.{takes_all, takes_later, no_change}
use Rattle.vf_rules.specs.Consume.{EntailsAll}
use Rattle.vf_rules.specs.Predicates.{store_of, Closes}
use Rattle.vf_rules.specs.Loops.{OfLocal, Changing, facts_of_known, Loop, IsLoop, AreNamesSorted, Comes, Enters}
use Rattle.vf_rules.specs.Accept.{all_of_it, call_store, cell_chunk, block_chunk, KeepsFixed, Accepts, do_set, do_if, do_abort, do_store, do_allocate, do_return, may_drop, may_close, may_leak, may_enter, may_repeat}
use Rattle.vf_examples.specs.BoxProgram.{somewhere, box_contract}
use Rattle.vf_examples.specs.Everything.{node_name, next_field, nodes_name, nodes_body, nodes_of_head, everything_main, everything_program, everything_environment}
use Rattle.vf_examples.proofs.NewSymbols.{fresh_state}
use Rattle.vf_examples.proofs.SharingFacts.{among_one, by_place, by_value, first_bound, inhabited, integer_is_no_void, name_bound, none_some, nothing_bound, same_self, some_same, sorted, whole_fraction}
use Rattle.vf_examples.proofs.SharedTick.{written_share}
use Rattle.vf_examples.proofs.SharedStates.{at, fresh}

-- a body of main is accepted within loops
abbrev pub GoesIn : List Loop → List Loop → ℕ → SymbolicState → Type 0
GoesIn now soon n st = Accepts everything_environment everything_program everything_main box_contract now soon n st

-- the same outside of loops
abbrev pub Goes : ℕ → SymbolicState → Type 0
Goes n st = GoesIn [] [] n st

-- ---- facts
last_met : (v : Valuation) (path : List Fact) (f : Fact) → Meets everything_environment v (path ++ f ∷ []) → IsMet everything_environment v f
last_met v [] f m = m.0
last_met v (g ∷ path) f m = last_met v path f m.1

not_both : (b : Bool) → b ≡ true → not b ≡ true → ⊥
not_both b h k = false≢true (sym (ap not h) ∙ k)

pointer_no_void : PointerToStruct node_name ≢ Void
pointer_no_void h = cc

null_sorted : (path : List Fact) → Entails everything_environment path (OfSort Null Pointers)
null_sorted path = record { by = λ v m. inl refl }

number_sorted : (path : List Fact) (n : ℕ) → Entails everything_environment path (OfSort (Number (pos n)) Integers)
number_sorted path n = record { by = λ v m. inl refl }

keeps : (t : Term) → KeepsFixed box_contract (call_store []) (stored (call_store []) Result t)
keeps t (Numbered k) u fixed is = is
keeps t Result u fixed is = absurd fixed
keeps t This u fixed is = is
keeps t CurrentThread u fixed is = is

counts : (n : ℤ) → int_le (least types.Int) n ≡ true → int_lt n (pos 3) ≡ true → (int_le (least types.Int) (n +ℤ pos 1) ≡ true) × (int_le (n +ℤ pos 1) (greatest types.Int) ≡ true)
counts n low less = (grind (arith, ints), grind (arith, ints))

-- ---- states
abbrev nodes_chunk : Term → Term → SymbolicChunk
nodes_chunk share t = record { share = share; head = Of (Named nodes_name); arguments = Some t ∷ [] }

-- the locals, of which the first three are of no interest
abbrev locals_with : (c m t : Option Term) → Term → Option Term → Term → List (Option Term)
locals_with c m t h n i = c ∷ m ∷ t ∷ Some h ∷ n ∷ Some i ∷ []

-- ---- the loop
abbrev head_changes : Changing
head_changes = record { number = 0; known = OfLocal (PointerToStruct node_name) }

abbrev count_changes : Changing
count_changes = record { number = 1; known = OfLocal (Integer types.Int) }

abbrev changes : List Changing
changes = head_changes ∷ count_changes ∷ []

abbrev head_path : List Fact
head_path = OfSort (symbol 0) Pointers ∷ OfSort (symbol 1) Integers ∷ Holds (Compare LessEqual (Number (least types.Int)) (symbol 1)) ∷ Holds (Compare LessEqual (symbol 1) (Number (greatest types.Int))) ∷ []

abbrev head_locals : Option Term → List (Option Term)
head_locals n = locals_with None None None (symbol 0) n (symbol 1)

abbrev head : SymbolicState
head = at (head_locals None) head_path (nodes_chunk written_share (symbol 0) ∷ [])

abbrev loop : Loop
loop = record {
  node = 14;
  invariant = nodes_of_head;
  sorts = Pointers ∷ [];
  changing = changes;
  locals = head_locals None;
  names = call_store [];
  store = store_of (symbol 0 ∷ []);
  kept = [];
  path = [];
  outs = record { store = store_of (symbol 0 ∷ []); state = head } ∷ [];
}

number_at : (i : ℕ) (c : Changing) → slice_get changes i ≡ Some c → c.number ≡ i
number_at zero c is = ap (λ (x : Changing). x.number) (sym (some_same is))
number_at (suc zero) c is = ap (λ (x : Changing). x.number) (sym (some_same is))
number_at (suc (suc i)) c is = none_some is

is_loop : IsLoop everything_environment everything_program loop
is_loop = record {
  fresh = λ j c is. record { names = fresh c.number; kept = λ u. u; path = λ u. u };
  distinct = λ i j c d a b same. sym (number_at i c a) ∙ same ∙ number_at j d b;
  inhabited = inhabited everything_environment (inr refl) (Pointers ∷ []) (tt, tt);
  produced = (nothing_bound (store_of (symbol 0 ∷ [])), (tt, (name_bound (store_of (symbol 0 ∷ [])) (Numbered 0) (symbol 0) refl, inl (refl, refl))));
}

first_sorted : (path : List Fact) (t : Term) → Entails everything_environment path (OfSort t Pointers) → AreNamesSorted everything_environment path (Pointers ∷ []) (store_of (t ∷ []))
first_sorted path t h zero s z is known = subst (λ x. Entails everything_environment path (OfSort x s)) (some_same known) (subst (λ x. Entails everything_environment path (OfSort t x)) (some_same is) h)
first_sorted path t h (suc k) s z is known = none_some is

-- a state with a list and a count comes to the head
comes : (c m t n : Option Term) (h i : Term) (path : List Fact) → Entails everything_environment path (OfSort h Pointers) → EntailsAll everything_environment path (facts_of_type (Integer types.Int) i) → Enters everything_environment everything_program loop (at (locals_with c m t h n i) path (nodes_chunk all_of_it h ∷ []))
comes c m t n h i path pointer count = record {
  store = store_of (h ∷ []);
  of_sorts = first_sorted path h pointer;
  consumed = (
    nothing_bound (store_of (h ∷ [])),
    (
      at (locals_with c m t h n i) path (nodes_chunk all_of_it h ∷ []),
      no_change,
      (
        tt,
        (
          nodes_chunk all_of_it h,
          [],
          takes_all (by_value everything_environment path written_share all_of_it (λ v. refl)),
          (
            refl,
            (
              name_bound (store_of (h ∷ [])) (Numbered 0) h refl,
              same_self everything_environment path h,
              record {
                now = h ∷ i ∷ [];
                number = refl;
                known = all_known;
                locals = (Comes.changed_term 0 head_changes h refl refl, (Comes.changed_term 1 count_changes i refl refl, tt));
                names = λ x z is. is;
                store_comes = store_comes;
                kept = refl;
                path = tt;
              },
            ),
          ),
        ),
      ),
    ),
  );
}
  where
    known_at : (d e : Changing) (y z : Term) → Some d ≡ Some e → Some y ≡ Some z → EntailsAll everything_environment path (facts_of_known d.known y) → EntailsAll everything_environment path (facts_of_known e.known z)
    known_at d e y z is now all = subst (λ x. EntailsAll everything_environment path (facts_of_known e.known x)) (some_same now) (subst (λ (x : Changing). EntailsAll everything_environment path (facts_of_known x.known y)) (some_same is) all)

    all_known : (j : ℕ) (d : Changing) (z : Term) → slice_get changes j ≡ Some d → slice_get (h ∷ i ∷ []) j ≡ Some z → EntailsAll everything_environment path (facts_of_known d.known z)
    all_known zero d z is now = known_at head_changes d h z is now (pointer, tt)
    all_known (suc zero) d z is now = known_at count_changes d i z is now count
    all_known (suc (suc j)) d z is now = none_some is

    store_comes : (x : Name) (z : Term) → store_of (symbol 0 ∷ []) x ≡ Some z → (w : Term) × (store_of (h ∷ []) x ≡ Some w) × Comes changes (h ∷ i ∷ []) z w
    store_comes (Numbered zero) z is = (h, refl, subst (λ y. Comes changes (h ∷ i ∷ []) y h) (some_same is) (Comes.changed_term 0 head_changes h refl refl))
    store_comes (Numbered (suc k)) z is = none_some is
    store_comes Result z is = none_some is
    store_comes This z is = none_some is
    store_comes CurrentThread z is = none_some is

-- ---- behind the loop
abbrev behind_path : List Fact
behind_path = head_path ++ Holds (Not (Compare Less (symbol 1) (Number (pos 3)))) ∷ []

returns : GoesIn (loop ∷ []) (loop ∷ []) 21 (at (head_locals None) behind_path [])
returns =
    do_return (core.Number (pos 7)) (Number (pos 7)) refl refl (number_sorted behind_path 7, (record { by = λ v m. refl }, (record { by = λ v m. refl }, tt))) integer_is_no_void
    (first_bound (stored (call_store []) Result (Number (pos 7))) Result (Number (pos 7)) refl, same_self everything_environment behind_path (Number (pos 7)), (refl, keeps (Number (pos 7))))

leaks : GoesIn (loop ∷ []) (loop ∷ []) 21 (at (head_locals None) behind_path (nodes_chunk written_share (symbol 0) ∷ []))
leaks =
    may_leak nodes_of_head (Pointers ∷ []) (store_of (symbol 0 ∷ [])) (record { store = store_of (symbol 0 ∷ []); state = at (head_locals None) behind_path [] } ∷ [])
    (by_command refl) (first_sorted behind_path (symbol 0) (by_place everything_environment behind_path 0 (OfSort (symbol 0) Pointers) refl)) (
      nothing_bound (store_of (symbol 0 ∷ [])),
      (
        at (head_locals None) behind_path (nodes_chunk written_share (symbol 0) ∷ []),
        no_change,
        (
          tt,
          (
            nodes_chunk written_share (symbol 0),
            [],
            takes_all (same_self everything_environment behind_path written_share),
            (refl, (name_bound (store_of (symbol 0 ∷ [])) (Numbered 0) (symbol 0) refl, same_self everything_environment behind_path (symbol 0), inl (refl, refl))),
          ),
        ),
      ),
    )
    (λ s st among. among_one (λ s st. GoesIn (loop ∷ []) (loop ∷ []) 21 st) (store_of (symbol 0 ∷ [])) (at (head_locals None) behind_path []) returns s st among)

-- ---- in the loop
abbrev round_path : List Fact
round_path = head_path ++ Holds (Compare Less (symbol 1) (Number (pos 3))) ∷ []

abbrev new_path : List Fact
new_path = round_path ++ OfSort (symbol 2) Pointers ∷ Holds (Compare NotEqual (symbol 2) Null) ∷ []

abbrev node_path : List Fact
node_path = new_path ++ Holds (Not (Compare Equal (symbol 2) Null)) ∷ []

abbrev longer_path : List Fact
longer_path = node_path ++ Holds (Not (Compare Equal (symbol 2) Null)) ∷ []

abbrev older : SymbolicChunk
older = nodes_chunk written_share (symbol 0)

abbrev node_cell : Option Term → SymbolicChunk
node_cell content = cell_chunk next_field (symbol 2) content

abbrev node_block : SymbolicChunk
node_block = block_chunk node_name (symbol 2)

abbrev one_more : Term
one_more = Arithmetic Add (symbol 1) (Number (pos 1))

-- what is known of the count in a round
number_of_count : (v : Valuation) → Meets everything_environment v longer_path → (int_le (least types.Int) (number_of (v (Numbered 1))) ≡ true) × (int_lt (number_of (v (Numbered 1))) (pos 3) ≡ true)
number_of_count v m = (m.1.1.0, m.1.1.1.1.0)

low_enough : Entails everything_environment longer_path (Holds (Compare LessEqual (Number (least types.Int)) one_more))
low_enough = record { by = λ v m. let n = number_of_count v m in (counts (number_of (v (Numbered 1))) n.0 n.1).0 }

high_enough : Entails everything_environment longer_path (Holds (Compare LessEqual one_more (Number (greatest types.Int))))
high_enough = record { by = λ v m. let n = number_of_count v m in (counts (number_of (v (Numbered 1))) n.0 n.1).1 }

sum_sorted : Entails everything_environment longer_path (OfSort one_more Integers)
sum_sorted = record { by = λ v m. inl refl }

repeats : GoesIn (loop ∷ []) (loop ∷ []) 19 (at (head_locals (Some (symbol 2))) longer_path (nodes_chunk all_of_it (symbol 2) ∷ []))
repeats =
    do_set 3 (core.Read 4 somewhere) 20 (symbol 2) refl refl
    (do_set 5 (core.Arithmetic Add types.Int (core.Read 5 somewhere) (core.Number (pos 1)) somewhere) 14 one_more refl
    (symbol 1, Number (pos 1), refl, refl, by_place everything_environment longer_path 1 (OfSort (symbol 1) Integers) refl, number_sorted longer_path 1, tt, refl, (low_enough, high_enough))
    (may_repeat loop (inl refl) refl (comes None None None (Some (symbol 2)) (symbol 2) one_more longer_path (by_place everything_environment longer_path 5 (OfSort (symbol 2) Pointers) refl) (sum_sorted, (low_enough, (high_enough, tt))))))

-- the predicate is closed with the new node
abbrev node_store : Store
node_store = store_of (symbol 2 ∷ [])

abbrev nodes_store : Store
nodes_store = stored node_store (Numbered 1) (symbol 0)

closes_node : Closes everything_environment everything_program (at (head_locals (Some (symbol 2))) node_path (older ∷ node_block ∷ node_cell (Some (symbol 0)) ∷ []))
    (record { store = nodes_store; state = at (head_locals (Some (symbol 2))) longer_path (nodes_chunk all_of_it (symbol 2) ∷ []) } ∷ [])
closes_node = record {
  share = all_of_it;
  fraction = whole_fraction everything_environment node_path all_of_it (λ v. refl);
  name = Plain nodes_name;
  openable = refl;
  body = nodes_body;
  there = refl;
  arguments = symbol 2 ∷ [];
  number = refl;
  of_sorts = sorted everything_environment node_path (Pointers ∷ Pointers ∷ []) (symbol 2 ∷ []) (by_place everything_environment node_path 5 (OfSort (symbol 2) Pointers) refl, tt);
  inhabited = inhabited everything_environment (inr refl) (Pointers ∷ Pointers ∷ []) (tt, (tt, tt));
  consumed = (
    first_bound node_store (Numbered 0) (symbol 2) refl,
    inl (record { by = λ v m. not_both (is_same (v (Numbered 2)) values.Null) (last_met v node_path (Holds (Compare Equal (symbol 2) Null)) m) m.1.1.1.1.1.1.1.0 }),
    inr (
      name_bound node_store (Numbered 0) (symbol 2) refl,
      (
        at (head_locals (Some (symbol 2))) longer_path (older ∷ node_block ∷ node_cell (Some (symbol 0)) ∷ []),
        no_change,
        (
          tt,
          (
            node_cell (Some (symbol 0)),
            older ∷ node_block ∷ [],
            takes_later (takes_later (takes_all (by_value everything_environment longer_path written_share all_of_it (λ v. refl)))),
            (
              refl,
              (
                symbol 2,
                Some (symbol 0),
                refl,
                same_self everything_environment longer_path (symbol 2),
                (
                  refl,
                  (by_place everything_environment longer_path 0 (OfSort (symbol 0) Pointers) refl, tt),
                  (
                    nothing_bound nodes_store,
                    (
                      at (head_locals (Some (symbol 2))) longer_path (older ∷ node_block ∷ []),
                      no_change,
                      (
                        tt,
                        (
                          node_block,
                          older ∷ [],
                          takes_later (takes_all (by_value everything_environment longer_path written_share all_of_it (λ v. refl))),
                          (
                            refl,
                            (
                              name_bound nodes_store (Numbered 0) (symbol 2) refl,
                              same_self everything_environment longer_path (symbol 2),
                              (
                                nothing_bound nodes_store,
                                (
                                  at (head_locals (Some (symbol 2))) longer_path (older ∷ []),
                                  no_change,
                                  (
                                    tt,
                                    (
                                      older,
                                      [],
                                      takes_all (same_self everything_environment longer_path written_share),
                                      (refl, (name_bound nodes_store (Numbered 1) (symbol 0) refl, same_self everything_environment longer_path (symbol 0), inl (refl, refl))),
                                    ),
                                  ),
                                ),
                              ),
                            ),
                          ),
                        ),
                      ),
                    ),
                  ),
                ),
              ),
            ),
          ),
        ),
      ),
    ),
  );
}

closed_node : GoesIn (loop ∷ []) (loop ∷ []) 19 (at (head_locals (Some (symbol 2))) node_path (older ∷ node_block ∷ node_cell (Some (symbol 0)) ∷ []))
closed_node = may_close (record { store = nodes_store; state = at (head_locals (Some (symbol 2))) longer_path (nodes_chunk all_of_it (symbol 2) ∷ []) } ∷ []) closes_node
    (λ s st among. among_one (λ s st. GoesIn (loop ∷ []) (loop ∷ []) 19 st) nodes_store (at (head_locals (Some (symbol 2))) longer_path (nodes_chunk all_of_it (symbol 2) ∷ [])) repeats s st among)

pointer_fits : (type : TypeTree) → type_of_field everything_program node_name 0 ≡ Some type → EntailsAll everything_environment node_path (facts_of_type type (symbol 0)) × (type ≢ Void)
pointer_fits type is = subst (λ z. EntailsAll everything_environment node_path (facts_of_type z (symbol 0)) × (z ≢ Void)) (some_same is) ((by_place everything_environment node_path 0 (OfSort (symbol 0) Pointers) refl, tt), pointer_no_void)

links : GoesIn (loop ∷ []) (loop ∷ []) 18 (at (head_locals (Some (symbol 2))) node_path (older ∷ node_cell None ∷ node_block ∷ []))
links =
    do_store (core.Read 4 somewhere) (core.Read 3 somewhere) next_field somewhere 19 (symbol 2) (symbol 2) (symbol 0) None (node_cell None) (older ∷ node_block ∷ []) refl refl refl
    (takes_later (takes_all (same_self everything_environment node_path all_of_it))) refl refl (same_self everything_environment node_path (symbol 2)) pointer_fits closed_node

granted_way : GoesIn (loop ∷ []) (loop ∷ []) 16 (at (head_locals (Some (symbol 2))) new_path (older ∷ node_cell None ∷ node_block ∷ []))
granted_way =
    do_if Equal (core.Read 4 somewhere) core.Null 17 18 (symbol 2) Null refl refl refl (inr (inr (by_place everything_environment new_path 5 (OfSort (symbol 2) Pointers) refl))) (inr (inr (null_sorted new_path)))
    (may_drop (record { by = λ v m. not_both (is_same (v (Numbered 2)) values.Null) (last_met v new_path (Holds (Compare Equal (symbol 2) Null)) m) m.1.1.1.1.1.1.0 }))
    links

null_way : GoesIn (loop ∷ []) (loop ∷ []) 16 (at (head_locals (Some Null)) round_path (older ∷ []))
null_way =
    do_if Equal (core.Read 4 somewhere) core.Null 17 18 Null Null refl refl refl (inr (inr (null_sorted round_path))) (inr (inr (null_sorted round_path)))
    (do_abort None (identity_of Abort) somewhere 18 refl refl)
    (may_drop (record { by = λ v m. not_both true refl (last_met v round_path (Holds (Not (Compare Equal Null Null))) m) }))

round : GoesIn (loop ∷ []) (loop ∷ []) 15 (at (head_locals None) round_path (older ∷ []))
round = do_allocate 4 node_name 16 2 refl (fresh_state 2 (at (head_locals None) round_path (older ∷ [])) (fresh 2) refl refl refl) null_way granted_way

at_head : GoesIn [] (loop ∷ []) 14 head
at_head = do_if {st = head} Less (core.Read 5 somewhere) (core.Number (pos 3)) 15 21 (symbol 1) (Number (pos 3)) refl refl refl (inl (by_place everything_environment head_path 1 (OfSort (symbol 1) Integers) refl)) (inl (number_sorted head_path 3)) round leaks

-- ---- the list begins empty
module _ (c m t : Option Term) (path : List Fact) where
  abbrev empty_path : List Fact
  empty_path = path ++ Holds (Compare Equal Null Null) ∷ []

  abbrev begun : List (Option Term)
  begun = locals_with c m t Null None (Number (pos 0))

  enters : Goes 14 (at begun empty_path (nodes_chunk all_of_it Null ∷ []))
  enters =
      may_enter loop refl is_loop (comes c m t None Null (Number (pos 0)) empty_path (null_sorted empty_path) (number_sorted empty_path 0, (record { by = λ v m. refl }, (record { by = λ v m. refl }, tt))))
      (λ s st among. among_one (λ s st. GoesIn [] (loop ∷ []) 14 st) (store_of (symbol 0 ∷ [])) head at_head s st among)

  closes_empty : Closes everything_environment everything_program (at begun path []) (record { store = store_of (Null ∷ []); state = at begun empty_path (nodes_chunk all_of_it Null ∷ []) } ∷ [])
  closes_empty = record {
    share = all_of_it;
    fraction = whole_fraction everything_environment path all_of_it (λ v. refl);
    name = Plain nodes_name;
    openable = refl;
    body = nodes_body;
    there = refl;
    arguments = Null ∷ [];
    number = refl;
    of_sorts = sorted everything_environment path (Pointers ∷ Pointers ∷ []) (Null ∷ []) (null_sorted path, tt);
    inhabited = inhabited everything_environment (inr refl) (Pointers ∷ Pointers ∷ []) (tt, (tt, tt));
    consumed = (
      first_bound (store_of (Null ∷ [])) (Numbered 0) Null refl,
      inr (inl (refl, refl)),
      inl (record { by = λ v m. not_both true refl (last_met v path (Holds (Not (Compare Equal Null Null))) m) }),
    );
  }

  pub lists : Goes 12 (at (c ∷ m ∷ t ∷ None ∷ None ∷ None ∷ []) path [])
  lists =
      do_set 3 core.Null 13 Null refl refl
      (do_set 5 (core.Number (pos 0)) 14 (Number (pos 0)) refl refl
      (may_close (record { store = store_of (Null ∷ []); state = at begun empty_path (nodes_chunk all_of_it Null ∷ []) } ∷ []) closes_empty
      (λ s st among. among_one (λ s st. Goes 14 st) (store_of (Null ∷ [])) (at begun empty_path (nodes_chunk all_of_it Null ∷ [])) enters s st among)))
