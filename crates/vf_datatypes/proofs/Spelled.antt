-- Sorts that are written one after the other.
use Rattle.std.proofs.Common.{◌≡◌, ◌≢◌, ℕ, zero, suc, ◌+◌, ◌<◌, ◌≤◌, List, [], ◌∷◌, ◌++◌, append_assoc, length, drop, Some, slice_get, Result, Ok, Err, refl, sym, ◌∙◌, ap, subst, arith}
use Rattle.vf_base.specs.declared.place.Place.{Place}
use Rattle.vf_base.specs.declared.refusal.Refusal.{Refusal}
use Rattle.vf_base.specs.declared.refusal.RuleFault.{RuleFault}
use Rattle.vf_base.specs.declared.refusal.RuleFault.TheVariants as faults
use Rattle.vf_base.specs.declared.rule.Rule.TheVariants as rules
use Rattle.vf_sorts.specs.declared.sort.Head.TheVariants as heads
use Rattle.vf_sorts.specs.Sorts.{Sort}
use Rattle.vf_sorts.specs.Unknowns.{leaf}
use Rattle.vf_declared.specs.declared.scope.Scope.{Scope}
use Rattle.vf_syntax.specs.declared.item.ConstructorArgument.{ConstructorArgument}
use Rattle.vf_syntax.specs.SortTree.{SortTree, sort_list, sort_nodes, sort_nodes_all}
use Rattle.vf_sorting.specs.Answers.{Answers, Tells}
use Rattle.vf_sorting.specs.Refusals.{refused}
use Rattle.vf_sorting.specs.Spelling.{in_front, parameter_over}
use Rattle.vf_datatypes.specs.declared.own.Own.{Own}
use Rattle.vf_datatypes.specs.declared.stated.Stated.{Stated}
use Rattle.vf_datatypes.specs.Arguments.{argument_sort, argument_sorts, sorts_of}
use Rattle.vf_datatypes.proofs.Lists.{left_at, left_end, none_behind}

-- a type parameter without arguments
pub no_arguments : (p : Place) (i : ℕ) (xs : List SortTree) → length xs ≡ 0 → parameter_over p i (sort_list xs) ≡ Ok (leaf (heads.Parameter i))
no_arguments p i [] h = refl
no_arguments p i (x ∷ xs) h = absurd (omega (arith, h))

-- a type parameter with arguments
pub some_arguments : (p : Place) (i : ℕ) (xs : List SortTree) → length xs ≢ 0 → parameter_over p i (sort_list xs) ≡ Err (refused rules.Typing p)
some_arguments p i [] h = absurd (h refl)
some_arguments p i (x ∷ xs) h = refl

-- a sort has fewer nodes than the list in which it stands
pub sort_smaller : (xs : List SortTree) (i : ℕ) (x : SortTree) → slice_get xs i ≡ Some x → sort_nodes x < sort_nodes_all (sort_list xs)
sort_smaller [] i x h = absurd cc
sort_smaller (y ∷ xs) zero x h = let e : y ≡ x = cc in rw (sym e) (omega arith)
sort_smaller (y ∷ xs) (suc i) x h = let rest = sort_smaller xs i x h in omega (arith, rest)

-- sorts behind others
abbrev pub behind : List Sort → Result (List Sort) Refusal → Result (List Sort) Refusal
behind ts (Err x) = Err x
behind ts (Ok us) = Ok (ts ++ us)

behind_one : (ts : List Sort) (t : Sort) (r : Result (List Sort) Refusal) → behind ts (in_front (Ok t) r) ≡ behind (ts ++ t ∷ []) r
behind_one ts t (Err x) = refl
behind_one ts t (Ok us) = ap Ok (sym (append_assoc ts (t ∷ []) us))

-- nothing is made so far
pub sorts_begin : (r : Result (List Sort) Refusal) → r ≡ behind [] r
sorts_begin (Ok ts) = refl
sorts_begin (Err x) = refl

-- one more sort is made, whatever they are written in
on : {X : Type 0} (f : List X → Result (List Sort) Refusal) (one : X → Result Sort Refusal) → ((x : X) (xs : List X) → f (x ∷ xs) ≡ in_front (one x) (f xs)) → (xs : List X) (i : ℕ) (x : X) (ts us : List Sort) (t : Sort) → slice_get xs i ≡ Some x → one x ≡ Ok t → us ≡ ts ++ t ∷ [] → f xs ≡ behind ts (f (drop i xs)) → f xs ≡ behind us (f (drop (i + 1) xs))
on f one split xs i x ts us t h e q w =
    w ∙ ap (λ ys. behind ts (f ys)) (left_at xs i x h)
    ∙ ap (behind ts) (split x (drop (i + 1) xs))
    ∙ ap (λ r. behind ts (in_front r (f (drop (i + 1) xs)))) e
    ∙ behind_one ts t (f (drop (i + 1) xs))
    ∙ ap (λ vs. behind vs (f (drop (i + 1) xs))) (sym q)

-- all are made
ends : {X : Type 0} (f : List X → Result (List Sort) Refusal) → f [] ≡ Ok [] → (xs : List X) (i : ℕ) (ts : List Sort) → length xs ≤ i → f xs ≡ behind ts (f (drop i xs)) → f xs ≡ Ok ts
ends f none xs i ts l w = w ∙ ap (λ ys. behind ts (f ys)) (left_end xs i l) ∙ ap (behind ts) none ∙ ap Ok (none_behind ts)

-- one is refused
stopped : {X : Type 0} (f : List X → Result (List Sort) Refusal) (one : X → Result Sort Refusal) → ((x : X) (xs : List X) → f (x ∷ xs) ≡ in_front (one x) (f xs)) → (xs : List X) (i : ℕ) (x : X) (ts : List Sort) (r : Refusal) → slice_get xs i ≡ Some x → one x ≡ Err r → f xs ≡ behind ts (f (drop i xs)) → f xs ≡ Err r
stopped f one split xs i x ts r h e w =
    w ∙ ap (λ ys. behind ts (f ys)) (left_at xs i x h)
    ∙ ap (behind ts) (split x (drop (i + 1) xs))
    ∙ ap (λ q. behind ts (in_front q (f (drop (i + 1) xs)))) e

told : (Q R : Refusal → Type 0) (e : RuleFault) → ((r : Refusal) → Q r → R r) → Tells Q e → Tells R e
told Q R (faults.Refused r) f a = f r a
told Q R faults.Memory f a = tt

stops : {X : Type 0} (f : List X → Result (List Sort) Refusal) (one : X → Result Sort Refusal) → ((x : X) (xs : List X) → f (x ∷ xs) ≡ in_front (one x) (f xs)) → (xs : List X) (i : ℕ) (x : X) (ts : List Sort) (e : RuleFault) (res : Result (List Sort) RuleFault) → slice_get xs i ≡ Some x → Tells (λ r. one x ≡ Err r) e → res ≡ Err e → f xs ≡ behind ts (f (drop i xs)) → Answers {A = List Sort} (λ us. f xs ≡ Ok us) (λ r. f xs ≡ Err r) res
stops f one split xs i x ts e res h a q w =
    subst (Answers {A = List Sort} (λ us. f xs ≡ Ok us) (λ r. f xs ≡ Err r)) (sym q)
    (told (λ r. one x ≡ Err r) (λ r. f xs ≡ Err r) e (λ r g. stopped f one split xs i x ts r h g w) a)

-- ---- sorts in a row
pub sorts_on : (s : Scope) (d : Stated) (o : Own) (xs : List SortTree) (i : ℕ) (x : SortTree) (ts us : List Sort) (t : Sort) → slice_get xs i ≡ Some x → argument_sort s d o x ≡ Ok t → us ≡ ts ++ t ∷ [] → argument_sorts s d o (sort_list xs) ≡ behind ts (argument_sorts s d o (sort_list (drop i xs))) → argument_sorts s d o (sort_list xs) ≡ behind us (argument_sorts s d o (sort_list (drop (i + 1) xs)))
sorts_on s d o = on (λ xs. argument_sorts s d o (sort_list xs)) (argument_sort s d o) (λ x xs. refl)

pub sorts_end : (s : Scope) (d : Stated) (o : Own) (xs : List SortTree) (i : ℕ) (ts : List Sort) → length xs ≤ i → argument_sorts s d o (sort_list xs) ≡ behind ts (argument_sorts s d o (sort_list (drop i xs))) → argument_sorts s d o (sort_list xs) ≡ Ok ts
sorts_end s d o = ends (λ xs. argument_sorts s d o (sort_list xs)) refl

pub sorts_stop : (s : Scope) (d : Stated) (o : Own) (xs : List SortTree) (i : ℕ) (x : SortTree) (ts : List Sort) (e : RuleFault) (res : Result (List Sort) RuleFault) → slice_get xs i ≡ Some x → Tells (λ r. argument_sort s d o x ≡ Err r) e → res ≡ Err e → argument_sorts s d o (sort_list xs) ≡ behind ts (argument_sorts s d o (sort_list (drop i xs))) → Answers {A = List Sort} (λ us. argument_sorts s d o (sort_list xs) ≡ Ok us) (λ r. argument_sorts s d o (sort_list xs) ≡ Err r) res
sorts_stop s d o = stops (λ xs. argument_sorts s d o (sort_list xs)) (argument_sort s d o) (λ x xs. refl)

-- ---- the sorts of a constructor's arguments
pub arguments_on : (s : Scope) (d : Stated) (o : Own) (xs : List ConstructorArgument) (i : ℕ) (x : ConstructorArgument) (ts us : List Sort) (t : Sort) → slice_get xs i ≡ Some x → argument_sort s d o x.sort ≡ Ok t → us ≡ ts ++ t ∷ [] → sorts_of s d o xs ≡ behind ts (sorts_of s d o (drop i xs)) → sorts_of s d o xs ≡ behind us (sorts_of s d o (drop (i + 1) xs))
arguments_on s d o = on (sorts_of s d o) (λ (x : ConstructorArgument). argument_sort s d o x.sort) (λ x xs. refl)

pub arguments_end : (s : Scope) (d : Stated) (o : Own) (xs : List ConstructorArgument) (i : ℕ) (ts : List Sort) → length xs ≤ i → sorts_of s d o xs ≡ behind ts (sorts_of s d o (drop i xs)) → sorts_of s d o xs ≡ Ok ts
arguments_end s d o = ends (sorts_of s d o) refl

pub arguments_stop : (s : Scope) (d : Stated) (o : Own) (xs : List ConstructorArgument) (i : ℕ) (x : ConstructorArgument) (ts : List Sort) (e : RuleFault) (res : Result (List Sort) RuleFault) → slice_get xs i ≡ Some x → Tells (λ r. argument_sort s d o x.sort ≡ Err r) e → res ≡ Err e → sorts_of s d o xs ≡ behind ts (sorts_of s d o (drop i xs)) → Answers {A = List Sort} (λ us. sorts_of s d o xs ≡ Ok us) (λ r. sorts_of s d o xs ≡ Err r) res
arguments_stop s d o = stops (sorts_of s d o) (λ (x : ConstructorArgument). argument_sort s d o x.sort) (λ x xs. refl)
