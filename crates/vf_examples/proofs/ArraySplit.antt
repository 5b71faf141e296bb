-- The lemma whose body calls `ints_split` is accepted.
use Rattle.std.proofs.Common.{◌≡◌, ℕ, zero, suc, pos, List, [], ◌∷◌, Some, None, refl, sym, ap, subst, ◌∙◌, ◌⊎◌, inl, inr, arith}
use Rattle.vf_tree.specs.Core.{Subtract, Equal, LessEqual}
use Rattle.vf_model.specs.Values.{Value}
use Rattle.vf_model.specs.Values as values
use Rattle.vf_meaning.specs.Fractions.{whole, product}
use Rattle.vf_meaning.specs.Ghost.{Sort, Name, Integers, Pointers, Fractions, Numbered, CurrentThread, Number, Arithmetic, PointerSum, Compare, Fraction, Share, Variable}
use Rattle.vf_meaning.specs.Chunks.{list_of}
use Rattle.vf_meaning.specs.Sorts.{HasSort}
use Rattle.vf_meaning.proofs.Linking.{never_leaks}
use Rattle.vf_rules.specs.Terms.{Term, Store, stored}
use Rattle.vf_rules.specs.States.{Fact, Holds, OfSort, SymbolicChunk, SymbolicState, Entails}
use Rattle.vf_rules.specs.Fresh.{symbol, IsNew}
use Rattle.vf_rules.specs.Take.{IsQuotient, takes_all, removes_here, no_change}
use Rattle.vf_rules.specs.Predicates.{AreInhabited, AreSorted}
use Rattle.vf_rules.specs.Lemmas.{LemmaTree, LemmaHolds}
use Rattle.vf_rules.specs.Arrays.{shared_row}
use Rattle.vf_rules.specs.Accept.{all_of_it, call_store, AreFixed}
use Rattle.vf_lemmas.specs.Proves.{Proves, may_end, may_call_held, IsAcceptedLemma, with_all}
use Rattle.vf_safety.specs.ArrayLaws.{numbers, take_name, drop_name, apply, split_contract, DeclaresLists}
use Rattle.vf_safety.proofs.ArrayLemmas.{rows_are_split, unchanging_lemmas_hold}
use Rattle.vf_safety.proofs.ElementOrder.{elements_are_in_order}
use Rattle.vf_examples.specs.SmallLemmas.{no_program}
use Rattle.vf_examples.specs.ArrayCalls.{arrays, split_none, ints_split, SplittingIsAccepted}
use Rattle.vf_examples.proofs.NewSymbols.{fresh_stored, fresh_call, fresh_state, new_symbol}
use Rattle.vf_examples.proofs.SharingFacts.{some_same, none_some, among_one, same_self, by_value, by_place, fraction_same, whole_positive, nothing_bound, name_bound, sorted, call_fixed, fixed_stored}

abbrev lemmas : List LemmaTree
lemmas = split_none ∷ []

-- ---- `ints_split` holds
lists : DeclaresLists arrays
lists = record { ordered = elements_are_in_order; takes = (2, omega arith, refl); drops = (3, omega arith, refl); appends = (4, omega arith, refl) }

split_holds : LemmaHolds arrays no_program ints_split
split_holds = unchanging_lemmas_hold arrays no_program ints_split (rows_are_split arrays lists)

-- ---- the states on the way
abbrev names : Store
names = call_store (symbol 0 ∷ [])

abbrev long_named : Store
long_named = stored names (Numbered 1) (symbol 1)

abbrev all_named : Store
all_named = stored long_named (Numbered 2) (symbol 2)

abbrev share : Term
share = Share all_of_it (Fraction whole)

abbrev again : Term
again = Share all_of_it (Share (Fraction whole) (Fraction whole))

abbrev none_at_all : Term
none_at_all = Number (pos 0)

abbrev left : Term
left = Arithmetic Subtract (symbol 1) none_at_all

abbrev row_of : SymbolicChunk
row_of = shared_row share (symbol 0) (symbol 1) (Some (symbol 2))

abbrev front : SymbolicChunk
front = shared_row again (symbol 0) none_at_all (Some (apply take_name (symbol 2) none_at_all))

abbrev back : SymbolicChunk
back = shared_row again (PointerSum (symbol 0) none_at_all) left (Some (apply drop_name (symbol 2) none_at_all))

abbrev not_negative : Term → List Fact
not_negative t = OfSort t Integers ∷ Holds (Compare LessEqual none_at_all t) ∷ []

abbrev of_thread : Fact
of_thread = OfSort (Variable CurrentThread) Integers

abbrev first_path : List Fact
first_path = OfSort (symbol 0) Pointers ∷ of_thread ∷ []

abbrev path : List Fact
path = OfSort (symbol 0) Pointers ∷ of_thread ∷ OfSort (symbol 1) Integers ∷ OfSort (symbol 2) numbers ∷ OfSort (symbol 1) Integers ∷ Holds (Compare LessEqual none_at_all (symbol 1)) ∷ []

abbrev last_path : List Fact
last_path =
    OfSort (symbol 0) Pointers ∷ of_thread ∷ OfSort (symbol 1) Integers ∷ OfSort (symbol 2) numbers ∷ OfSort (symbol 1) Integers ∷ Holds (Compare LessEqual none_at_all (symbol 1))
    ∷ OfSort none_at_all Integers ∷ Holds (Compare LessEqual none_at_all none_at_all) ∷ OfSort left Integers ∷ Holds (Compare LessEqual none_at_all left) ∷ []

abbrev at_first : SymbolicState
at_first = record { locals = []; names = names; chunks = []; path = first_path }

abbrev produced : SymbolicState
produced = record { locals = []; names = names; chunks = row_of ∷ []; path = path }

abbrev begun : SymbolicState
begun = record { locals = []; names = all_named; chunks = row_of ∷ []; path = path }

abbrev after_call : SymbolicState
after_call = record { locals = []; names = all_named; chunks = front ∷ back ∷ []; path = last_path }

-- ---- names
abbrev passed : List Term
passed = symbol 0 ∷ none_at_all ∷ []

abbrev call_names : Store
call_names = stored (stored (stored (call_store passed) (Numbered 2) (Fraction whole)) (Numbered 3) (symbol 1)) (Numbered 4) (symbol 2)

new_long : IsNew 1 all_of_it names (Some share ∷ Some (symbol 0) ∷ []) at_first
new_long = new_symbol 1 all_of_it names (Some share ∷ Some (symbol 0) ∷ []) at_first (fresh_state 1 at_first (fresh_call 1 (symbol 0 ∷ []) refl) refl refl refl) (fresh_call 1 (symbol 0 ∷ []) refl) refl refl

abbrev with_long : SymbolicState
with_long = record { locals = []; names = names; chunks = []; path = OfSort (symbol 0) Pointers ∷ of_thread ∷ OfSort (symbol 1) Integers ∷ [] }

new_list : IsNew 2 all_of_it long_named (Some share ∷ Some (symbol 0) ∷ Some (symbol 1) ∷ []) with_long
new_list =
    new_symbol 2 all_of_it long_named (Some share ∷ Some (symbol 0) ∷ Some (symbol 1) ∷ []) with_long (fresh_state 2 with_long (fresh_call 2 (symbol 0 ∷ []) refl) refl refl refl)
    (fresh_stored 2 names (Numbered 1) (symbol 1) (fresh_call 2 (symbol 0 ∷ []) refl) refl) refl refl

-- ---- sorts
-- a sort of the contracts has a value
list_value : HasSort arrays (list_of []) numbers
list_value = ((refl, refl), ([], refl, tt))

inhabited : AreInhabited arrays split_contract.sorts
inhabited zero s is = (values.Null, subst (HasSort arrays values.Null) (some_same is) (inl refl))
inhabited (suc zero) s is = (values.Number (pos 0), subst (HasSort arrays (values.Number (pos 0))) (some_same is) (inl refl))
inhabited (suc (suc zero)) s is = (values.Fraction whole, subst (HasSort arrays (values.Fraction whole)) (some_same is) (inl refl, whole_positive))
inhabited (suc (suc (suc zero))) s is = (values.Number (pos 0), subst (HasSort arrays (values.Number (pos 0))) (some_same is) (inl refl))
inhabited (suc (suc (suc (suc zero)))) s is = (list_of [], subst (HasSort arrays (list_of [])) (some_same is) list_value)
inhabited (suc (suc (suc (suc (suc k))))) s is = none_some is

arguments_sorted : AreSorted arrays path split_contract.sorts passed
arguments_sorted = sorted arrays path split_contract.sorts passed (by_place arrays path 0 (OfSort (symbol 0) Pointers) refl, (record { by = λ v m. inl refl }, tt))

quotient : IsQuotient arrays path share all_of_it (Fraction whole)
quotient = record { by = λ v m c x scale is. (whole, refl, sym (fraction_same is) ∙ ap (λ z. product z whole) (fraction_same scale), whole_positive) }

-- ---- names that are bound
-- one of two names that are bound
either_bound : (s : Store) (x y : Name) (t u : Term) → s x ≡ Some t → s y ≡ Some u → (z : Name) → (x ≡ z) ⊎ (y ≡ z) → (w : Term) × (s z ≡ Some w)
either_bound s x y t u is also z (inl h) = name_bound s x t is z h
either_bound s x y t u is also z (inr h) = name_bound s y u also z h

-- the name on the left, where none is on the right
left_bound : (s : Store) (x : Name) (t : Term) → s x ≡ Some t → (z : Name) → (x ≡ z) ⊎ ⊥ → (w : Term) × (s z ≡ Some w)
left_bound s x t is z (inl h) = name_bound s x t is z h
left_bound s x t is z (inr never) = absurd never

right_bound : (s : Store) (x : Name) (t : Term) → s x ≡ Some t → (z : Name) → ⊥ ⊎ (x ≡ z) → (w : Term) × (s z ≡ Some w)
right_bound s x t is z (inl never) = absurd never
right_bound s x t is z (inr h) = name_bound s x t is z h

-- a fixpoint's two arguments
arguments_bound : (s : Store) (x y : Name) (t u : Term) → s x ≡ Some t → s y ≡ Some u → (z : Name) → (x ≡ z) ⊎ ((y ≡ z) ⊎ ⊥) → (w : Term) × (s z ≡ Some w)
arguments_bound s x y t u is also z (inl h) = name_bound s x t is z h
arguments_bound s x y t u is also z (inr h) = left_bound s y u also z h

argument_bound : (s : Store) (x : Name) (t : Term) → s x ≡ Some t → (z : Name) → (x ≡ z) ⊎ (⊥ ⊎ ⊥) → (w : Term) × (s z ≡ Some w)
argument_bound s x t is z (inl h) = name_bound s x t is z h
argument_bound s x t is z (inr (inl never)) = absurd never
argument_bound s x t is z (inr (inr never)) = absurd never

fixed : AreFixed split_contract call_names
fixed =
    fixed_stored split_contract (stored (stored (call_store passed) (Numbered 2) (Fraction whole)) (Numbered 3) (symbol 1)) (Numbered 4) (symbol 2)
    (fixed_stored split_contract (stored (call_store passed) (Numbered 2) (Fraction whole)) (Numbered 3) (symbol 1)
    (fixed_stored split_contract (call_store passed) (Numbered 2) (Fraction whole) (call_fixed split_contract passed refl) (inr (inl (inl refl))))
    (inr (inl (inr (inr (inr (inl refl)))))))
    (inr (inl (inr (inr (inr (inr (inl refl)))))))

-- ---- the steps
shares_are_one : (p : List Fact) → Entails arrays p (Holds (Compare Equal share again))
shares_are_one p = by_value arrays p share again (λ v. refl)

ends : Proves arrays no_program lemmas split_none 0 [] after_call
ends =
    may_end {st = after_call} (
      nothing_bound all_named,
      (
        after_call,
        no_change,
        (
          tt,
          (
            front,
            back ∷ [],
            takes_all (shares_are_one last_path),
            (
              refl,
              (
                name_bound all_named (Numbered 0) (symbol 0) refl,
                same_self arrays last_path (symbol 0),
                (
                  nothing_bound all_named,
                  same_self arrays last_path none_at_all,
                  (
                    argument_bound all_named (Numbered 2) (symbol 2) refl,
                    same_self arrays last_path (apply take_name (symbol 2) none_at_all),
                    (
                      nothing_bound all_named,
                      (
                        record { locals = []; names = all_named; chunks = back ∷ []; path = last_path },
                        no_change,
                        (
                          tt,
                          (
                            back,
                            [],
                            takes_all (shares_are_one last_path),
                            (
                              refl,
                              (
                                left_bound all_named (Numbered 0) (symbol 0) refl,
                                same_self arrays last_path (PointerSum (symbol 0) none_at_all),
                                (
                                  left_bound all_named (Numbered 1) (symbol 1) refl,
                                  same_self arrays last_path left,
                                  (argument_bound all_named (Numbered 2) (symbol 2) refl, same_self arrays last_path (apply drop_name (symbol 2) none_at_all), (refl, λ x t fix is. is)),
                                ),
                              ),
                            ),
                          ),
                        ),
                      ),
                    ),
                  ),
                ),
              ),
            ),
          ),
        ),
      ),
    )

body : Proves arrays no_program lemmas split_none 0 [] begun
body =
    may_call_held {st = begun} ints_split passed (record { store = call_names; state = after_call } ∷ []) split_holds (λ leaks. absurd (never_leaks arrays (λ text. refl) leaks)) inhabited refl arguments_sorted (by_place arrays path 1 of_thread refl) (
      nothing_bound (call_store passed),
      (
        begun,
        no_change,
        (
          row_of,
          [],
          Fraction whole,
          removes_here,
          quotient,
          refl,
          (record { by = λ v m. (inl refl, whole_positive) }, tt),
          (
            refl,
            (
              name_bound (stored (call_store passed) (Numbered 2) (Fraction whole)) (Numbered 0) (symbol 0) refl,
              same_self arrays path (symbol 0),
              (
                refl,
                (by_place arrays path 2 (OfSort (symbol 1) Integers) refl, tt),
                (
                  refl,
                  (by_place arrays path 3 (OfSort (symbol 2) numbers) refl, tt),
                  (
                    right_bound call_names (Numbered 1) none_at_all refl,
                    record { by = λ v m. refl },
                    (
                      either_bound call_names (Numbered 1) (Numbered 3) none_at_all (symbol 1) refl refl,
                      by_place arrays path 5 (Holds (Compare LessEqual none_at_all (symbol 1))) refl,
                      (
                        fixed,
                        (
                          nothing_bound call_names,
                          (
                            ((Fraction whole, refl), tt),
                            (
                              name_bound call_names (Numbered 0) (symbol 0) refl,
                              (
                                name_bound call_names (Numbered 1) none_at_all refl,
                                (
                                  arguments_bound call_names (Numbered 4) (Numbered 1) (symbol 2) none_at_all refl refl,
                                  (
                                    nothing_bound call_names,
                                    (
                                      ((Fraction whole, refl), tt),
                                      (
                                        either_bound call_names (Numbered 0) (Numbered 1) (symbol 0) none_at_all refl refl,
                                        (
                                          either_bound call_names (Numbered 3) (Numbered 1) (symbol 1) none_at_all refl refl,
                                          (arguments_bound call_names (Numbered 4) (Numbered 1) (symbol 2) none_at_all refl refl, inl (refl, refl)),
                                        ),
                                      ),
                                    ),
                                  ),
                                ),
                              ),
                            ),
                          ),
                        ),
                      ),
                    ),
                  ),
                ),
              ),
            ),
          ),
        ),
      ),
    ) (among_one (λ s su. Proves arrays no_program lemmas split_none 0 [] su) call_names after_call ends)

split_none_is_accepted : IsAcceptedLemma arrays no_program lemmas 0 split_none
split_none_is_accepted =
    with_all (record { store = all_named; state = produced } ∷ []) (
      nothing_bound names,
      (tt, (name_bound names (Numbered 0) (symbol 0) refl, (1, new_long, refl, (2, new_list, refl, inl (refl, refl))))),
    )
    (among_one (λ s su. Proves arrays no_program lemmas split_none 0 [] (record su { names = s })) all_named produced body)

pub splitting_is_accepted : SplittingIsAccepted
splitting_is_accepted zero lemma is = subst (IsAcceptedLemma arrays no_program lemmas 0) (some_same is) split_none_is_accepted
splitting_is_accepted (suc k) lemma is = none_some is
