-- The example has its sort.
use Rattle.std.proofs.Common.{◌≡◌, ℕ, zero, suc, [], Some, refl, subst}
use Rattle.std.specs.Prelude.{slice_get}
use Rattle.vf_meaning.specs.Ghost.{Numbered}
use Rattle.vf_sorts.specs.Pairs.{left_to_do}
use Rattle.vf_sorts.specs.Unifying.{Equates}
use Rattle.vf_sorts.specs.Unknowns.{AgreesAsTold, settling}
use Rattle.vf_declared.specs.declared.locals.Local.{Local}
use Rattle.vf_sorting.specs.HasSort.{HasSort, number, name_, conditional, chain, alike, null_second, compared, joined, no_links, more_links, as_wanted}
use Rattle.vf_sorting.specs.Kinds.{bool_sort, int_sort, pointer_sort}
use Rattle.vf_sorting.specs.Schemes.{at_sort, sort_of_local}
use Rattle.vf_terms.specs.Named.{local_term}
use Rattle.vf_terms.specs.Settings.{settled}
use Rattle.vf_resolved_laws.specs.Example.{ChoiceHasItsSort, choice_of_two, no_words, two_names, two_sorts, two_symbols}
use Rattle.vf_resolved_laws.specs.Given.{GivesSorts}
use Rattle.vf_resolved_laws.specs.Heads.{vocabulary_of}
use Rattle.vf_resolved_laws.specs.Terms.{TermHasSort, symbol}
use Rattle.vf_resolved_laws.proofs.Reading.{expressions_keep_sorts}

-- a sort equals itself, which makes nothing known
pub numbers_equate : Equates [] int_sort int_sort []
unfolding left_to_do
numbers_equate = record { long = refl; alike = λ f. ((λ a. (a, refl)), (λ b. b.0)); kept = λ f a. a; told = λ f a e. a; made = refl }

pub truths_equate : Equates [] bool_sort bool_sort []
unfolding left_to_do
truths_equate = record { long = refl; alike = λ f. ((λ a. (a, refl)), (λ b. b.0)); kept = λ f a. a; told = λ f a e. a; made = refl }

choice_sorted : HasSort two_names no_words [] choice_of_two int_sort []
choice_sorted = conditional
    (as_wanted refl refl (chain (name_ {g = at_sort pointer_sort} refl (tt, tt)) (more_links (compared refl (null_second refl)) no_links)) truths_equate)
    number
    (alike refl (chain (name_ {g = at_sort int_sort} refl (tt, tt)) (more_links (joined refl refl numbers_equate (as_wanted refl refl number numbers_equate)) no_links)) refl refl numbers_equate)

same_local : {l m : Local} → Some l ≡ Some m → l ≡ m
same_local e = cc

have_locals : (n : ℕ) (l : Local) → slice_get two_names.locals.meanings n ≡ Some l → TermHasSort (vocabulary_of two_symbols two_sorts) (local_term (slice_get two_symbols.locals n)) (settled two_symbols (sort_of_local l))
have_locals zero l e = subst (λ (m : Local). TermHasSort (vocabulary_of two_symbols two_sorts) (local_term (slice_get two_symbols.locals 0)) (settled two_symbols (sort_of_local m))) (same_local e) (symbol (Numbered 0))
have_locals (suc zero) l e = subst (λ (m : Local). TermHasSort (vocabulary_of two_symbols two_sorts) (local_term (slice_get two_symbols.locals 1)) (settled two_symbols (sort_of_local m))) (same_local e) (symbol (Numbered 1))
have_locals (suc (suc n)) l e = absurd cc

given : GivesSorts (vocabulary_of two_symbols two_sorts) two_symbols
given = record { aligned = refl; locals = have_locals; result = λ t e. absurd cc; this_value = λ e. absurd cc; thread = λ e. absurd cc }

nothing_known : AgreesAsTold (settling []) []
nothing_known u t e = absurd cc

pub choice_has_its_sort : ChoiceHasItsSort
choice_has_its_sort = record {
  gives = given;
  sorted = choice_sorted;
  agrees = nothing_known;
  is_read = refl;
  has_sort = ((expressions_keep_sorts two_symbols two_sorts given).sorted [] [] choice_of_two int_sort choice_sorted nothing_known).has_sort;
}
