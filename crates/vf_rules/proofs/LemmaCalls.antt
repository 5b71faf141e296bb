-- What a call of a lemma that holds makes of what a state stands for.
use Rattle.std.proofs.Common.{◌≡◌, List, Option, Some, refl, sym, subst, ◌∙◌, arith}
use Rattle.vf_tree.specs.Core.{ProgramTree}
use Rattle.vf_model.specs.Values.{Value}
use Rattle.vf_meaning.specs.Fractions.{whole, IsPositive}
use Rattle.vf_meaning.specs.Ghost.{Sort, Integers, Name, Numbered, CurrentThread, Variable}
use Rattle.vf_meaning.specs.Valuations.{Valuation}
use Rattle.vf_meaning.specs.Assertions.{BodyOf, Environment}
use Rattle.vf_meaning.specs.Environments.{MayLeak}
use Rattle.vf_meaning.specs.Sorts.{HasSort}
use Rattle.vf_meaning.specs.Parts.{Part, nothing, IsSum}
use Rattle.vf_meaning.proofs.Parts.{sums_turn, sums_regroup}
use Rattle.vf_rules.specs.Terms.{Term}
use Rattle.vf_rules.specs.Terms as terms
use Rattle.vf_rules.specs.States.{Fact, SymbolicState, value_in, Meets, KnowsThread, StoreMeans, StandsFor}
use Rattle.vf_rules.specs.Types.{IsTypedPart}
use Rattle.vf_rules.specs.Produce.{Produce}
use Rattle.vf_rules.specs.Consume.{Consume}
use Rattle.vf_rules.specs.Laws.{Outcome, IsAmong, Grows, StoreSorted}
use Rattle.vf_rules.specs.Predicates.{store_of, AreInhabited, AreSorted}
use Rattle.vf_rules.specs.Accept.{all_of_it, call_store, AreFixed}
use Rattle.vf_rules.specs.Lemmas.{LemmaTree, LemmaHolds}
use Rattle.vf_rules.proofs.Terms.{stored_own, stored_other}
use Rattle.vf_rules.proofs.Produces.{produced, typed_left}
use Rattle.vf_rules.proofs.Consumes.{consumed}
use Rattle.vf_rules.proofs.Opening.{completed, completed_means, completed_sorted}

positive_whole : IsPositive whole
positive_whole = omega arith

-- What is there behind a call: an outcome that stands for what is left of a part, and what was leaked of it, which is nothing where nothing may be leaked in the lemma's body
pub record AfterLemma (e : Environment) (lemma : LemmaTree) (outs : List Outcome) (locals : List (Option Value)) (names : Valuation) (p : Part) : Type 0 where
  pub under : Valuation
  pub store : terms.Store
  pub state : SymbolicState
  pub holds : IsAmong outs store state
  pub left : Part
  pub leaked : Part
  pub sums : IsSum leaked left p
  pub unleaked : (MayLeak e (BodyOf lemma.identity) → ⊥) → leaked ≡ nothing
  pub stands : StandsFor e under state locals names left

-- the arguments have the sorts of the parameters
pub sorted_arguments : (e : Environment) (v : Valuation) (path : List Fact) (sorts : List Sort) (ts : List Term) → AreSorted e path sorts ts → Meets e v path → StoreSorted e v sorts (call_store ts)
sorted_arguments e v path sorts ts h m n so z is known = (h n so z known (sym (stored_other (store_of ts) CurrentThread (Numbered n) (Variable CurrentThread) (λ c. clash c)) ∙ is)).by v m
  where
    clash : Numbered n ≡ CurrentThread → ⊥
    clash c = cc

-- the thread of a call is the one that the state knows
pub called_thread : (e : Environment) (v u : Valuation) (path : List Fact) (ts : List Term) (s : terms.Store) (w : Valuation) → KnowsThread e path → Meets e v path → Grows (call_store ts) s
    → ((x : Name) (t : Term) → call_store ts x ≡ Some t → value_in e u t ≡ value_in e v t) → StoreMeans e u s w → HasSort e (w CurrentThread) Integers
called_thread e v u path ts s w knows met grows stays means =
    let own = stored_own (store_of ts) CurrentThread (Variable CurrentThread) in
    subst (λ z. HasSort e z Integers) (sym (stays CurrentThread (Variable CurrentThread) own) ∙ means CurrentThread (Variable CurrentThread) (grows CurrentThread (Variable CurrentThread) own)) (knows.by v met)

pub lemma_called : (e : Environment) (p : ProgramTree) (lemma : LemmaTree) (ts : List Term) (outs : List Outcome) (st : SymbolicState) → LemmaHolds e p lemma → AreInhabited e lemma.contract.sorts → AreSorted e st.path lemma.contract.sorts ts → KnowsThread e st.path
    → Consume e p lemma.contract.sorts all_of_it lemma.contract.requires_this (call_store ts) st (λ s1 st1. AreFixed lemma.contract s1 × Produce e p lemma.contract.sorts all_of_it lemma.contract.ensures_this s1 st1 (IsAmong outs))
    → (locals : List (Option Value)) (names v : Valuation) (part : Part) → StandsFor e v st locals names part → IsTypedPart e p part → AfterLemma e lemma outs locals names part
lemma_called e p lemma ts outs st holds inhabited sorted knows consume locals names v part stands typed =
    let c = consumed e p lemma.contract.sorts all_of_it whole locals names lemma.contract.requires_this (call_store ts) st _ consume v part stands (sorted_arguments e v st.path lemma.contract.sorts ts sorted stands.path) refl in
    let values = completed e c.under lemma.contract.sorts inhabited c.store in
    let means = completed_means e c.under lemma.contract.sorts inhabited c.store in
    let typed_off = typed_left e p c.off c.left part c.sums typed in
    let g = holds values c.off (completed_sorted e c.under lemma.contract.sorts inhabited c.store c.sorted, called_thread e v c.under st.path ts c.store values knows stands.path c.grows c.stays means) typed_off (c.depth, c.satisfies values means) in
    let ensured = g.ensured in
    let later_means : StoreMeans e c.under c.store ensured.later = λ x z h. means x z h ∙ sym (ensured.fixed x ((c.holds).0 x z h)) in
    let (now, both, all) = sums_regroup g.leaked g.kept c.off c.left part (sums_turn g.kept g.leaked c.off g.sums) c.sums in
    let o = produced e p lemma.contract.sorts all_of_it whole (ensured.satisfies).0 locals names lemma.contract.ensures_this c.store c.state (IsAmong outs) (c.holds).1 c.under ensured.later g.kept c.left now c.stands later_means ensured.sorts refl positive_whole
    (ensured.satisfies).1 (typed_left e p g.kept g.leaked c.off g.sums typed_off) both in
    record { under = o.under; store = o.store; state = o.state; holds = o.holds; left = now; leaked = g.leaked; sums = all; unleaked = g.unleaked; stands = o.stands }
