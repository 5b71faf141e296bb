-- The example's parts have their sorts.
use Rattle.std.proofs.Common.{◌≡◌, ℕ, zero, suc, [], ◌∷◌, Option, Some, None, refl, subst}
use Rattle.std.specs.Prelude.{codes, false, if◌then◌else◌, is_some, slice_get}
use Rattle.vf_names.specs.Names.{number_of}
use Rattle.vf_meaning.specs.Ghost.{Numbered}
use Rattle.vf_sorts.specs.Sorts.{Sort}
use Rattle.vf_sorts.specs.Unknowns.{AgreesAsTold, settling}
use Rattle.vf_declared.specs.declared.locals.Local.{Local}
use Rattle.vf_sorting.specs.HasSort.{alike, as_wanted, chain, compared, more_links, name_, no_links, number}
use Rattle.vf_sorting.specs.Kinds.{int_sort}
use Rattle.vf_sorting.specs.Schemes.{at_sort, sort_of_local}
use Rattle.vf_binding.specs.Chunks as binding
use Rattle.vf_binding.specs.Patterns as bindings
use Rattle.vf_binding.specs.Shares as sharing
use Rattle.vf_asserting.specs.Gives.{Gives}
use Rattle.vf_asserting.specs.Gives as giving
use Rattle.vf_terms.specs.Named.{local_term}
use Rattle.vf_terms.specs.Settings.{settled}
use Rattle.vf_resolving.specs.Standings.{setting_at}
use Rattle.vf_resolved_laws.specs.Assertions.{NumbersHaveSorts, Stands}
use Rattle.vf_resolved_laws.specs.Chunk.{ChunkHasItsSorts, around, chunk_and_truth, one_predicate, start, vocabulary}
use Rattle.vf_resolved_laws.specs.Example.{no_words}
use Rattle.vf_resolved_laws.specs.Parts.{LaterHaveSorts}
use Rattle.vf_resolved_laws.specs.Terms.{TermHasSort, symbol}
use Rattle.vf_resolved_laws.proofs.Asserting.{assertions_keep_sorts}
use Rattle.vf_resolved_laws.proofs.Example.{numbers_equate, truths_equate}

text_gives : Gives no_words (one_predicate (codes "n" ∷ [])) [] chunk_and_truth (one_predicate (codes "n" ∷ codes "y" ∷ [])) []
text_gives =
    giving.Gives.more_parts
    (giving.PartGives.chunk
    (binding.ChunkBinds.chunk sharing.SharePasses.whole refl (tt, (tt, (tt, tt)))
    (binding.ArgumentsBind.one_pair
    (bindings.AllBind.one_binds (bindings.Binds.value (as_wanted refl refl (name_ {g = at_sort int_sort} refl (tt, tt)) numbers_equate))
    (bindings.AllBind.one_binds (bindings.Binds.named refl) bindings.AllBind.none_bind)))))
    (giving.Gives.more_parts
    (giving.PartGives.pure (as_wanted refl refl (chain (name_ {g = at_sort int_sort} refl (tt, tt)) (more_links (compared refl (alike refl number refl refl numbers_equate)) no_links)) truths_equate))
    giving.Gives.no_parts)

same_local : {l m : Local} → Some l ≡ Some m → l ≡ m
same_local e = cc

same_sort : {t u : Sort} → Some t ≡ Some u → t ≡ u
same_sort e = cc

have_locals : (n : ℕ) (l : Local) → slice_get start.scope.locals.meanings n ≡ Some l → TermHasSort vocabulary (local_term (slice_get start.terms n)) (settled (setting_at around start) (sort_of_local l))
have_locals zero l e = subst (λ (m : Local). TermHasSort vocabulary (local_term (slice_get start.terms 0)) (settled (setting_at around start) (sort_of_local m))) (same_local e) (symbol (Numbered 0))
have_locals (suc n) l e = absurd cc

start_stands : Stands vocabulary around start (one_predicate (codes "n" ∷ [])) []
start_stands = record {
  scope = refl;
  next = refl;
  vocabulary = refl;
  terms = refl;
  gives = record { aligned = refl; locals = have_locals; result = λ t e. absurd cc; this_value = λ e. absurd cc; thread = λ e. absurd cc };
}

are_numbers : NumbersHaveSorts vocabulary (int_sort ∷ int_sort ∷ [])
are_numbers = record { each = each }
  where
    each : (i : ℕ) (t : Sort) → slice_get (int_sort ∷ int_sort ∷ []) i ≡ Some t → int_sort ≡ t
    each zero t e = same_sort e
    each (suc zero) t e = same_sort e
    each (suc (suc i)) t e = absurd cc

nothing_known : AgreesAsTold (settling []) []
nothing_known u t e = absurd cc

-- no predicate stands later
none_later : LaterHaveSorts vocabulary.scope
none_later x from e = by (number_of vocabulary.scope.names x)
  where
    by : (o : Option ℕ) → (if is_some o then false else false) ≡ false
    by None = refl
    by (Some n) = refl

pub chunk_has_its_sorts : ChunkHasItsSorts
unfolding text_gives
chunk_has_its_sorts = record {
  stands = start_stands;
  gives = text_gives;
  decided = (refl, (tt, tt));
  levelled = (tt, ((tt, refl, ((refl, tt), tt)), tt));
  numbers = are_numbers;
  is_resolved = refl;
  have_sorts = (assertions_keep_sorts vocabulary around start (one_predicate (codes "n" ∷ [])) (one_predicate (codes "n" ∷ codes "y" ∷ [])) [] [] chunk_and_truth start_stands none_later text_gives nothing_known (refl, (tt, tt)) (tt, ((tt, refl, ((refl, tt), tt)), tt)) are_numbers).have_sorts;
}
