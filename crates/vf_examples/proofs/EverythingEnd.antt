-- The last part of main of the example with everything is accepted, from the join of the thread on: a derivation by the rules.
use Rattle.std.proofs.Common.{◌≡◌, ℕ, pos, List, [], ◌∷◌, ◌++◌, Option, Some, None, refl, sym, ap₂, subst, ◌∙◌, ◌⊎◌, inl, inr}
use Rattle.vf_base.specs.declared.int_type.IntType.TheVariants as types
use Rattle.vf_tree.specs.Core.{Integer}
use Rattle.vf_tree.specs.Core as core
use Rattle.vf_model.specs.Values.{Dyadic}
use Rattle.vf_model.specs.Values as values
use Rattle.vf_model.specs.PreludeFunctions.{ThreadJoin, MutexDispose, identity_of}
use Rattle.vf_meaning.specs.Fractions.{whole, sum}
use Rattle.vf_meaning.specs.Ghost.{Pointers, Anything, Numbered, Result, Null, Number, Function, Fraction, Share, Compare}
use Rattle.vf_meaning.specs.Valuations.{Valuation}
use Rattle.vf_meaning.specs.Assertions.{Named, Family, Plain, Instance}
use Rattle.vf_rules.specs.Terms.{Term, stored}
use Rattle.vf_rules.specs.States.{Fact, Holds, OfSort, SymbolicChunk, value_in, Entails}
use Rattle.vf_rules.specs.Fresh.{symbol, IsFreshIn}
use Rattle.vf_rules.specs.Types.{facts_of_type}
use Rattle.vf_rules.specs.Take.{same, Takes, Replaces, Renames, IsSumOf, Joins, merges_here, merges_later, merges, takes_all, takes_later, removes_here, removes_later, no_change, and_change, names_value, replaces_here, replaces_later}
use Rattle.vf_rules.specs.Consume.{EntailsAll}
use Rattle.vf_rules.specs.Predicates.{store_of, plain, instance, Opens, Closes}
use Rattle.vf_rules.specs.Mutexes.{disposal}
use Rattle.vf_rules.specs.Threads.{thread_run_post, join, disposes, joins}
use Rattle.vf_rules.specs.Accept.{all_of_it, AreFixed, call_store, cell_chunk, do_prelude, do_free, may_change, may_open, may_close}
use Rattle.vf_examples.specs.BoxProgram.{somewhere}
use Rattle.vf_examples.specs.Sharing.{counter_name, count_field, mutex_field, tick_name, guarded_name, guarded_body, shared_body}
use Rattle.vf_examples.specs.Everything.{everything_program, everything_environment}
use Rattle.vf_examples.proofs.NewSymbols.{fresh_stored, fresh_call, fresh_arguments, fresh_state, new_symbol}
use Rattle.vf_examples.proofs.SharingFacts.{among_one, by_place, by_value, call_fixed, first_bound, fixed_stored, guarded_sorted, half_of, inhabited, name_bound, nothing_bound, same_self, sorted, whole_fraction}
use Rattle.vf_examples.proofs.EverythingLoop.{Goes, lists}
use Rattle.vf_examples.proofs.SharedTick.{written_share, half_at, field_chunk, applied_chunk, guarded_chunk, post_chunk}
use Rattle.vf_examples.proofs.SharedStates.{at, block, cell_all, cell_half, dispose_store, fresh, half_left, info, join_store, mutex_all, mutex_back, mutex_joined, opened_cell, path4, path5, path6, path7, path8, post_store, q, thread_chunk}

-- ---- the locals on the way
abbrev pub one_local : List (Option Term)
one_local = Some (symbol 0) ∷ None ∷ None ∷ None ∷ None ∷ None ∷ []

abbrev pub two_locals : List (Option Term)
two_locals = Some (symbol 0) ∷ Some (symbol 1) ∷ None ∷ None ∷ None ∷ None ∷ []

abbrev pub three_locals : List (Option Term)
three_locals = Some (symbol 0) ∷ Some (symbol 1) ∷ Some (symbol 2) ∷ None ∷ None ∷ None ∷ []

pub renames : (path : List Fact) (share : Term) → Renames everything_environment path (applied_chunk share q) (guarded_chunk share (symbol 0))
renames path share = record { predicate = guarded_name; value = q; first = symbol 0 ∷ []; is = same_self everything_environment path q; applied_head = refl; named_head = refl; one_share = refl; arguments = refl }

-- ---- the last steps: the struct is freed
pub number_facts : (path : List Fact) (n : ℕ) → n ≡ 5 ⊎ n ≡ 7 → EntailsAll everything_environment path (facts_of_type (Integer types.Int) (Number (pos n)))
number_facts path n (inl is) = subst (λ z. EntailsAll everything_environment path (facts_of_type (Integer types.Int) (Number (pos z)))) (sym is) (record { by = λ v m. inl refl }, (record { by = λ v m. refl }, (record { by = λ v m. refl }, tt)))
number_facts path n (inr is) = subst (λ z. EntailsAll everything_environment path (facts_of_type (Integer types.Int) (Number (pos z)))) (sym is) (record { by = λ v m. inl refl }, (record { by = λ v m. refl }, (record { by = λ v m. refl }, tt)))

frees : Goes 11 (at three_locals path8 (block ∷ cell_all ∷ opened_cell ∷ []))
frees =
    do_free (core.Read 0 somewhere) counter_name somewhere 12 (symbol 0) [] refl refl (
      opened_cell,
      block ∷ cell_all ∷ [],
      symbol 0,
      None,
      takes_later (takes_later (takes_all (by_value everything_environment path8 all_of_it (Share written_share (Fraction whole)) (λ v. refl)))),
      refl,
      refl,
      same_self everything_environment path8 (symbol 0),
      (cell_all, block ∷ [], symbol 0, Some (symbol 1), takes_later (takes_all (same_self everything_environment path8 all_of_it)), refl, refl, same_self everything_environment path8 (symbol 0), (block, symbol 0, takes_all (same_self everything_environment path8 all_of_it), refl, refl, same_self everything_environment path8 (symbol 0))),
    ) (lists (Some (symbol 0)) (Some (symbol 1)) (Some (symbol 2)) path8)

-- ---- the predicate's chunk is opened, and closed again
pub takes_last : (path : List Fact) (wanted : Term) (c : SymbolicChunk) (cs : List SymbolicChunk) → Entails everything_environment path (same wanted c.share) → Takes everything_environment path wanted c (cs ++ c ∷ []) cs
takes_last path wanted c [] h = takes_all h
takes_last path wanted c (d ∷ cs) h = takes_later (takes_last path wanted c cs h)

replaces_last : (c d : SymbolicChunk) (cs : List SymbolicChunk) → Replaces c d (cs ++ c ∷ []) (cs ++ d ∷ [])
replaces_last c d [] = replaces_here
replaces_last c d (b ∷ cs) = replaces_later (replaces_last c d cs)

opens_guarded : (path : List Fact) (locals : List (Option Term)) (cs : List SymbolicChunk) → Opens everything_environment everything_program (at locals path (cs ++ guarded_chunk written_share (symbol 0) ∷ []))
    (record { store = store_of (symbol 0 ∷ []); state = at locals (path ++ Holds (Compare core.NotEqual (symbol 0) Null) ∷ []) (cs ++ opened_cell ∷ []) } ∷ [])
opens_guarded path locals cs = record {
  chunk = guarded_chunk written_share (symbol 0);
  others = cs;
  share = written_share;
  taken = takes_last path written_share (guarded_chunk written_share (symbol 0)) cs (same_self everything_environment path written_share);
  head = Named guarded_name;
  head_is = refl;
  name = Plain guarded_name;
  of_head = plain guarded_name refl;
  body = guarded_body;
  there = refl;
  arguments = symbol 0 ∷ [];
  arguments_are = refl;
  number = refl;
  produced = (name_bound (store_of (symbol 0 ∷ [])) (Numbered 0) (symbol 0) refl, (tt, inl (refl, refl)));
}

pub opened_last : (n : ℕ) (path : List Fact) (locals : List (Option Term)) (cs : List SymbolicChunk) → Goes n (at locals (path ++ Holds (Compare core.NotEqual (symbol 0) Null) ∷ []) (cs ++ opened_cell ∷ [])) → Goes n (at locals path (cs ++ applied_chunk written_share q ∷ []))
opened_last n path locals cs go =
    may_change (and_change (names_value (applied_chunk written_share q) (guarded_chunk written_share (symbol 0)) (cs ++ guarded_chunk written_share (symbol 0) ∷ []) (renames path written_share) (replaces_last (applied_chunk written_share q) (guarded_chunk written_share (symbol 0)) cs)) no_change)
    (may_open (record { store = store_of (symbol 0 ∷ []); state = at locals (path ++ Holds (Compare core.NotEqual (symbol 0) Null) ∷ []) (cs ++ opened_cell ∷ []) } ∷ []) (opens_guarded path locals cs)
    (λ s st among. among_one (λ s st. Goes n st) (store_of (symbol 0 ∷ [])) (at locals (path ++ Holds (Compare core.NotEqual (symbol 0) Null) ∷ []) (cs ++ opened_cell ∷ [])) go s st among))

closes_guarded : (path : List Fact) (locals : List (Option Term)) (cs ds : List SymbolicChunk) (content : Option Term) → Entails everything_environment path (OfSort (symbol 0) Pointers)
    → Takes everything_environment path written_share (cell_chunk count_field (symbol 0) content) cs ds
    → Closes everything_environment everything_program (at locals path cs) (record { store = store_of (symbol 0 ∷ []); state = at locals path (ds ++ guarded_chunk all_of_it (symbol 0) ∷ []) } ∷ [])
closes_guarded path locals cs ds content pointer takes = record {
  share = all_of_it;
  fraction = whole_fraction everything_environment path all_of_it (λ v. refl);
  name = Plain guarded_name;
  openable = refl;
  body = guarded_body;
  there = refl;
  arguments = symbol 0 ∷ [];
  number = refl;
  of_sorts = sorted everything_environment path (Pointers ∷ []) (symbol 0 ∷ []) (pointer, tt);
  inhabited = inhabited everything_environment (inr refl) (Pointers ∷ []) (tt, tt);
  consumed = (
    name_bound (store_of (symbol 0 ∷ [])) (Numbered 0) (symbol 0) refl,
    (
      at locals path cs,
      no_change,
      (
        tt,
        (
          cell_chunk count_field (symbol 0) content,
          ds,
          takes,
          (refl, (symbol 0, content, refl, same_self everything_environment path (symbol 0), inl (refl, refl))),
        ),
      ),
    ),
  );
}

pub closed_so : (n : ℕ) (path : List Fact) (locals : List (Option Term)) (cs ds : List SymbolicChunk) (content : Option Term) → Entails everything_environment path (OfSort (symbol 0) Pointers)
    → Takes everything_environment path written_share (cell_chunk count_field (symbol 0) content) cs ds → Goes n (at locals path (ds ++ guarded_chunk all_of_it (symbol 0) ∷ [])) → Goes n (at locals path cs)
closed_so n path locals cs ds content pointer takes go =
    may_close (record { store = store_of (symbol 0 ∷ []); state = at locals path (ds ++ guarded_chunk all_of_it (symbol 0) ∷ []) } ∷ []) (closes_guarded path locals cs ds content pointer takes)
    (λ s st among. among_one (λ s st. Goes n st) (store_of (symbol 0 ∷ [])) (at locals path (ds ++ guarded_chunk all_of_it (symbol 0) ∷ [])) go s st among)

-- ---- the mutex is disposed
disposes_it : Goes 10 (at three_locals path7 (block ∷ cell_all ∷ mutex_all ∷ []))
disposes_it =
    do_prelude None (identity_of MutexDispose) (core.Read 1 somewhere ∷ []) somewhere 11 MutexDispose disposal (symbol 1 ∷ [])
    (record { store = stored dispose_store Result (symbol 7); state = at three_locals path7 (block ∷ cell_all ∷ applied_chunk written_share q ∷ []) } ∷ [])
    refl refl disposes refl (inhabited everything_environment (inr refl) disposal.sorts (tt, (tt, tt))) (λ h. refl) (refl, tt) refl (sorted everything_environment path7 disposal.sorts (symbol 1 ∷ []) (by_place everything_environment path7 5 (OfSort (symbol 1) Pointers) refl, tt)) (
      nothing_bound (call_store (symbol 1 ∷ [])),
      (
        at three_locals path7 (block ∷ cell_all ∷ mutex_all ∷ []),
        no_change,
        (
          tt,
          (
            mutex_all,
            block ∷ cell_all ∷ [],
            takes_later (takes_later (takes_all (by_value everything_environment path7 written_share all_of_it (λ v. refl)))),
            (
              refl,
              (
                name_bound (call_store (symbol 1 ∷ [])) (Numbered 0) (symbol 1) refl,
                same_self everything_environment path7 (symbol 1),
                (
                  refl,
                  (guarded_sorted everything_environment (inr refl) path7 (symbol 0) (by_place everything_environment path7 2 (OfSort (symbol 0) Pointers) refl), tt),
                  (
                    7,
                    new_symbol 7 all_of_it dispose_store [] (at three_locals path7 (block ∷ cell_all ∷ [])) (fresh_state 7 (at three_locals path7 (block ∷ cell_all ∷ [])) (fresh 7) refl refl refl) (fresh_stored 7 (call_store (symbol 1 ∷ [])) (Numbered 1) q (fresh_call 7 (symbol 1 ∷ []) refl) refl) refl refl,
                    fixed_stored disposal (call_store (symbol 1 ∷ [])) (Numbered 1) q (call_fixed disposal (symbol 1 ∷ []) refl) (inr (inr (inr (inr (inl refl))))),
                    (name_bound (stored dispose_store Result (symbol 7)) (Numbered 1) q refl, (tt, inl (refl, refl))),
                  ),
                ),
              ),
            ),
          ),
        ),
      ),
    )
    (λ s st among. among_one (λ s st. Goes 11 st) (stored dispose_store Result (symbol 7)) (at three_locals path7 (block ∷ cell_all ∷ applied_chunk written_share q ∷ [])) (opened_last 11 path7 three_locals (block ∷ cell_all ∷ []) frees) s st among)

-- ---- the halves come together
abbrev pub cell_back : SymbolicChunk
cell_back = field_chunk (half_at written_share) mutex_field (symbol 0) (Some (symbol 6))

fraction_same : {x y : Dyadic} → values.Fraction x ≡ values.Fraction y → x ≡ y
fraction_same h = cc

halves_sum : (path : List Fact) (a b : Term) → ((v : Valuation) → value_in everything_environment v a ≡ values.Fraction half_of) → ((v : Valuation) → value_in everything_environment v b ≡ values.Fraction half_of) → IsSumOf everything_environment path all_of_it a b
halves_sum path a b h k = record { by = λ v m x y l r. ap₂ (λ u w. values.Fraction (sum u w)) (fraction_same (sym (h v) ∙ l)) (fraction_same (sym (k v) ∙ r)) }

joins_cells : Joins everything_environment path5 cell_half cell_back cell_all (same (symbol 1) (symbol 6) ∷ [])
joins_cells = record {
  first = symbol 0;
  second = symbol 0;
  others = Some (symbol 1) ∷ [];
  more = Some (symbol 6) ∷ [];
  primitive = tt;
  one_head = refl;
  arguments = refl;
  further = refl;
  one_place = same_self everything_environment path5 (symbol 0);
  total = all_of_it;
  sums = halves_sum path5 half_left (half_at written_share) (λ v. refl) (λ v. refl);
  both_is = refl;
  facts_are = refl;
}

joins_mutexes : Joins everything_environment path6 mutex_back mutex_joined mutex_all (same q q ∷ [])
joins_mutexes = record {
  first = symbol 1;
  second = symbol 6;
  others = Some q ∷ [];
  more = Some q ∷ [];
  primitive = tt;
  one_head = refl;
  arguments = refl;
  further = refl;
  one_place = by_place everything_environment path6 11 (same (symbol 1) (symbol 6)) refl;
  total = all_of_it;
  sums = halves_sum path6 (Share all_of_it (Share (Fraction whole) half_left)) (half_at written_share) (λ v. refl) (λ v. refl);
  both_is = refl;
  facts_are = refl;
}

merged : Goes 10 (at three_locals path5 (block ∷ cell_half ∷ mutex_back ∷ cell_back ∷ mutex_joined ∷ []))
merged =
    may_change (and_change (merges (block ∷ cell_all ∷ mutex_back ∷ mutex_joined ∷ []) (same (symbol 1) (symbol 6) ∷ []) (merges_later (merges_here (removes_later removes_here) joins_cells)))
    (and_change (merges (block ∷ cell_all ∷ mutex_all ∷ []) (same q q ∷ []) (merges_later (merges_later (merges_here removes_here joins_mutexes)))) no_change)) disposes_it

opens_post : Opens everything_environment everything_program (at three_locals path4 (block ∷ cell_half ∷ mutex_back ∷ post_chunk written_share (symbol 0) info ∷ []))
    (record { store = post_store; state = at three_locals path5 (block ∷ cell_half ∷ mutex_back ∷ cell_back ∷ mutex_joined ∷ []) } ∷ [])
opens_post = record {
  chunk = post_chunk written_share (symbol 0) info;
  others = block ∷ cell_half ∷ mutex_back ∷ [];
  share = written_share;
  taken = takes_later (takes_later (takes_later (takes_all (same_self everything_environment path4 written_share))));
  head = Family thread_run_post (Function tick_name);
  head_is = refl;
  name = Instance thread_run_post tick_name;
  of_head = instance thread_run_post (Function tick_name) tick_name (same_self everything_environment path4 (Function tick_name));
  body = shared_body;
  there = refl;
  arguments = symbol 0 ∷ info ∷ [];
  arguments_are = refl;
  number = refl;
  produced = (
    name_bound (store_of (symbol 0 ∷ info ∷ [])) (Numbered 0) (symbol 0) refl,
    (
      tt,
      (
        6,
        new_symbol 6 written_share (store_of (symbol 0 ∷ info ∷ [])) (Some (half_at written_share) ∷ Some (symbol 0) ∷ []) (at three_locals path4 (block ∷ cell_half ∷ mutex_back ∷ []))
            (fresh_state 6 (at three_locals path4 (block ∷ cell_half ∷ mutex_back ∷ [])) (fresh 6) refl refl refl) (fresh_arguments 6 (symbol 0 ∷ info ∷ []) refl) refl refl,
        refl,
        (nothing_bound post_store, (tt, (name_bound post_store (Numbered 2) (symbol 6) refl, (first_bound post_store (Numbered 0) (symbol 0) refl, inl (refl, refl))))),
      ),
    ),
  );
}

opened_post : Goes 10 (at three_locals path4 (block ∷ cell_half ∷ mutex_back ∷ post_chunk written_share (symbol 0) info ∷ []))
opened_post = may_open (record { store = post_store; state = at three_locals path5 (block ∷ cell_half ∷ mutex_back ∷ cell_back ∷ mutex_joined ∷ []) } ∷ []) opens_post
    (λ s st among. among_one (λ s st. Goes 10 st) post_store (at three_locals path5 (block ∷ cell_half ∷ mutex_back ∷ cell_back ∷ mutex_joined ∷ [])) merged s st among)

-- ---- the thread is joined
fresh_joined : IsFreshIn 5 join_store
fresh_joined =
    fresh_stored 5 (stored (stored (call_store (symbol 2 ∷ [])) (Numbered 1) (Function tick_name)) (Numbered 2) (symbol 0)) (Numbered 3) info
    (fresh_stored 5 (stored (call_store (symbol 2 ∷ [])) (Numbered 1) (Function tick_name)) (Numbered 2) (symbol 0) (fresh_stored 5 (call_store (symbol 2 ∷ [])) (Numbered 1) (Function tick_name) (fresh_call 5 (symbol 2 ∷ []) refl) refl) refl) refl

join_fixed : AreFixed join join_store
join_fixed =
    fixed_stored join (stored (stored (call_store (symbol 2 ∷ [])) (Numbered 1) (Function tick_name)) (Numbered 2) (symbol 0)) (Numbered 3) info
    (fixed_stored join (stored (call_store (symbol 2 ∷ [])) (Numbered 1) (Function tick_name)) (Numbered 2) (symbol 0)
    (fixed_stored join (call_store (symbol 2 ∷ [])) (Numbered 1) (Function tick_name) (call_fixed join (symbol 2 ∷ []) refl) (inr (inr (inr (inr (inl refl))))))
    (inr (inr (inr (inr (inr (inl refl)))))))
    (inr (inr (inr (inr (inr (inr (inl refl)))))))

pub function_sorted : (path : List Fact) → Entails everything_environment path (OfSort (Function tick_name) Pointers)
function_sorted path = record { by = λ v m. inl refl }

pub info_sorted : (path : List Fact) → Entails everything_environment path (OfSort info Anything)
info_sorted path = record { by = λ v m. inr refl }

pub joins_it : Goes 9 (at three_locals path4 (block ∷ cell_half ∷ thread_chunk ∷ mutex_back ∷ []))
joins_it =
    do_prelude None (identity_of ThreadJoin) (core.Read 2 somewhere ∷ []) somewhere 10 ThreadJoin join (symbol 2 ∷ [])
    (record { store = stored join_store Result (symbol 5); state = at three_locals path4 (block ∷ cell_half ∷ mutex_back ∷ post_chunk written_share (symbol 0) info ∷ []) } ∷ [])
    refl refl joins refl (inhabited everything_environment (inr refl) join.sorts (tt, (tt, (tt, (tt, tt))))) (λ h. refl) (refl, tt) refl (sorted everything_environment path4 join.sorts (symbol 2 ∷ []) (by_place everything_environment path4 6 (OfSort (symbol 2) Pointers) refl, tt)) (
      nothing_bound (call_store (symbol 2 ∷ [])),
      (
        at three_locals path4 (block ∷ cell_half ∷ thread_chunk ∷ mutex_back ∷ []),
        no_change,
        (
          tt,
          (
            thread_chunk,
            block ∷ cell_half ∷ mutex_back ∷ [],
            takes_later (takes_later (takes_all (same_self everything_environment path4 written_share))),
            (
              refl,
              (
                name_bound (call_store (symbol 2 ∷ [])) (Numbered 0) (symbol 2) refl,
                same_self everything_environment path4 (symbol 2),
                (
                  refl,
                  (function_sorted path4, tt),
                  (
                    refl,
                    (by_place everything_environment path4 2 (OfSort (symbol 0) Pointers) refl, tt),
                    (
                      refl,
                      (info_sorted path4, tt),
                      (
                        5,
                        new_symbol 5 all_of_it join_store [] (at three_locals path4 (block ∷ cell_half ∷ mutex_back ∷ [])) (fresh_state 5 (at three_locals path4 (block ∷ cell_half ∷ mutex_back ∷ [])) (fresh 5) refl refl refl) fresh_joined refl refl,
                        join_fixed,
                        (name_bound (stored join_store Result (symbol 5)) (Numbered 1) (Function tick_name) refl, (tt, (name_bound (stored join_store Result (symbol 5)) (Numbered 2) (symbol 0) refl, (name_bound (stored join_store Result (symbol 5)) (Numbered 3) info refl, inl (refl, refl))))),
                      ),
                    ),
                  ),
                ),
              ),
            ),
          ),
        ),
      ),
    )
    (λ s st among. among_one (λ s st. Goes 10 st) (stored join_store Result (symbol 5)) (at three_locals path4 (block ∷ cell_half ∷ mutex_back ∷ post_chunk written_share (symbol 0) info ∷ [])) opened_post s st among)
