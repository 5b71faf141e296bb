-- The end of a lemma's body: what was consumed satisfies the postcondition.
use Rattle.std.proofs.Common.{◌≡◌, List, [], Option, Some, None, refl, sym, ap, subst, ◌∙◌}
use Rattle.vf_tree.specs.Core.{ProgramTree}
use Rattle.vf_model.specs.Values.{Value}
use Rattle.vf_meaning.specs.Fractions.{whole}
use Rattle.vf_meaning.specs.Ghost.{Sort, Name, Numbered}
use Rattle.vf_meaning.specs.Valuations.{Valuation}
use Rattle.vf_meaning.specs.Assertions.{Environment}
use Rattle.vf_meaning.specs.Sorts.{HasSort, AreOfSorts}
use Rattle.vf_meaning.specs.Parts.{Part}
use Rattle.vf_rules.specs.Terms.{Term, Store}
use Rattle.vf_rules.specs.States.{SymbolicState, value_in, ChunksMean, StoreMeans, StandsFor}
use Rattle.vf_rules.specs.Consume.{Consume}
use Rattle.vf_rules.specs.Laws.{StoreSorted}
use Rattle.vf_rules.specs.Accept.{all_of_it, KeepsFixed}
use Rattle.vf_rules.proofs.Consumes.{consumed}
use Rattle.vf_rules.specs.Lemmas.{LemmaTree, Gives}

module _ (e : Environment) where
  -- ---- a valuation with the values of a store's terms, and others where a name has none
  value_or : (v : Valuation) (o : Option Term) (u : Value) → Value
  value_or v None u = u
  value_or v (Some z) u = value_in e v z

  override : Valuation → Store → Valuation → Valuation
  override v s w x = value_or v (s x) (w x)

  or_is : (v : Valuation) (o : Option Term) (u : Value) (z : Term) → o ≡ Some z → value_in e v z ≡ value_or v o u
  unfolding value_or
  or_is v o u z h = ap (λ y. value_or v y u) (sym h)

  or_else : (v : Valuation) (o : Option Term) (u w : Value) → ((z : Term) → o ≡ Some z → value_in e v z ≡ w) → u ≡ w → value_or v o u ≡ w
  unfolding value_or
  or_else v None u w h is = is
  or_else v (Some z) u w h is = h z refl

  or_sorted : (v : Valuation) (o : Option Term) (u : Value) (so : Sort) → ((z : Term) → o ≡ Some z → HasSort e (value_in e v z) so) → HasSort e u so → HasSort e (value_or v o u) so
  unfolding value_or
  or_sorted v None u so h is = is
  or_sorted v (Some z) u so h is = h z refl

  override_means : (v : Valuation) (s : Store) (w : Valuation) → StoreMeans e v s (override v s w)
  unfolding override
  override_means v s w x z h = or_is v (s x) (w x) z h

  override_sorted : (v : Valuation) (sorts : List Sort) (s : Store) (w : Valuation) → StoreSorted e v sorts s → AreOfSorts e w sorts → AreOfSorts e (override v s w) sorts
  unfolding override
  override_sorted v sorts s w h k n so known = or_sorted v (s (Numbered n)) (w (Numbered n)) so (λ z is. h n so z is known) (k n so known)

  override_is : (v : Valuation) (s : Store) (w : Valuation) (x : Name) (u : Value) → ((z : Term) → s x ≡ Some z → value_in e v z ≡ u) → w x ≡ u → override v s w x ≡ u
  unfolding override
  override_is v s w x u h is = or_else v (s x) (w x) u h is

  pub names_sorted : (v : Valuation) (sorts : List Sort) (s : Store) (w : Valuation) → StoreMeans e v s w → AreOfSorts e w sorts → StoreSorted e v sorts s
  names_sorted v sorts s w m h k so u is known = subst (λ z. HasSort e z so) (sym (m (Numbered k) u is)) (h k so known)

  -- where the postcondition is consumed and nothing is left, the lemma gives all that there is
  pub end_gives : (p : ProgramTree) (own : LemmaTree) (st : SymbolicState) → Consume e p own.contract.sorts all_of_it own.contract.ensures_this st.names st (λ s1 st1. (st1.chunks ≡ []) × KeepsFixed own.contract st.names s1)
      → (v w : Valuation) (q : Part) → StandsFor e v st [] w q → AreOfSorts e w own.contract.sorts → Gives e own w q
  end_gives p own st consume v w q stands of_sorts =
      let c = consumed e p own.contract.sorts all_of_it whole [] w own.contract.ensures_this st.names st (λ s1 st1. (st1.chunks ≡ []) × KeepsFixed own.contract st.names s1) consume v q stands
      (names_sorted v own.contract.sorts st.names w stands.names_mean of_sorts) refl in
      record {
        kept = c.off;
        leaked = c.left;
        sums = c.sums;
        ensured = record {
          later = override c.under c.store w;
          fixed = λ x fix. override_is c.under c.store w x (w x) (λ z is. let old = (c.holds).1 x z fix is in c.stays x z old ∙ stands.names_mean x z old) refl;
          sorts = override_sorted c.under own.contract.sorts c.store w c.sorted of_sorts;
          satisfies = (c.depth, c.satisfies (override c.under c.store w) (override_means c.under c.store w));
        };
        unleaked = λ h. subst (λ cs. ChunksMean e c.under cs c.left) (c.holds).0 (c.stands).chunks_mean;
      }
