-- Accepted lemmas hold: by their order, then by how much a part owns, and then by the size of a value or the depth of the precondition's first part.
use Rattle.std.proofs.Common.{◌≡◌, ℕ, zero, suc, ◌<◌, ◌≤◌, List, [], map, slice_get, Some, refl, sym, subst, ◌∙◌, inl, inr, arith}
use Rattle.vf_tree.specs.Core.{ProgramTree}
use Rattle.vf_meaning.specs.Fractions.{whole, IsPositive}
use Rattle.vf_meaning.specs.Valuations.{Valuation}
use Rattle.vf_meaning.specs.Assertions.{Names, Environment}
use Rattle.vf_meaning.specs.Sorts.{AreOfSorts}
use Rattle.vf_meaning.specs.Parts.{Part, nothing, IsSum}
use Rattle.vf_meaning.specs.Satisfaction.{Satisfies}
use Rattle.vf_meaning.proofs.Parts.{sums_turn, nothing_is_neutral}
use Rattle.vf_rules.specs.Terms.{Store}
use Rattle.vf_rules.specs.States.{SymbolicState, StoreMeans, StandsFor}
use Rattle.vf_rules.specs.Types.{IsTypedPart}
use Rattle.vf_rules.specs.Produce.{NoArgumentSort, Produce}
use Rattle.vf_rules.specs.Laws.{IsAmong}
use Rattle.vf_rules.specs.Accept.{all_of_it, call_store, parameter_symbols}
use Rattle.vf_rules.proofs.Patterns.{patterns_read}
use Rattle.vf_rules.proofs.Produces.{produced, typed_right}
use Rattle.vf_rules.specs.Lemmas.{LemmaTree, Gives, AreGhostValues, LemmaHolds}
use Rattle.vf_lemmas.specs.Depths.{rest_of}
use Rattle.vf_lemmas.specs.Proves.{lemma_beginning, IsAcceptedLemma, with_all, with_first_aside}
use Rattle.vf_lemmas.specs.Laws.{AcceptedLemmasHold}
use Rattle.vf_lemmas.proofs.Beginnings.{begins_mean, beginning_stands}
use Rattle.vf_lemmas.proofs.Masses.{HasMass}
use Rattle.vf_lemmas.proofs.Bounded.{satisfying_is_bounded}
use Rattle.vf_lemmas.proofs.Asides.{FirstAt}
use Rattle.vf_lemmas.proofs.Around.{HasFall, has_fall}
use Rattle.vf_lemmas.proofs.Bodies.{Usable, body_gives}

some_same : {A : Type 0} {x y : A} → Some x ≡ Some y → x ≡ y
some_same e = cc

positive_whole : IsPositive whole
positive_whole = omega arith

neutral : (q : Part) → IsSum q nothing q
neutral q = sums_turn nothing q q (nothing_is_neutral q)

-- induction on all smaller numbers
below_all : (P : ℕ → Type 0) → ((n : ℕ) → ((m : ℕ) → m < n → P m) → P n) → (n m : ℕ) → m < n → P m
below_all P step zero m l = absurd (none_below m l)
  where
    none_below : (m : ℕ) → m < 0 → ⊥
    none_below m l = omega (arith, l)
below_all P step (suc n) m l = step m (λ j i. below_all P step n j (omega (arith, l, i)))

pub by_smaller : (P : ℕ → Type 0) → ((n : ℕ) → ((m : ℕ) → m < n → P m) → P n) → (n : ℕ) → P n
by_smaller P step n = below_all P step (suc n) n (omega arith)

module _ (e : Environment) (p : ProgramTree) (lemmas : List LemmaTree) where
  named : (v w : Valuation) (s : Store) (st : SymbolicState) (q : Part) → StoreMeans e v s w → StandsFor e v st [] w q → StandsFor e v (record st { names = s }) [] w q
  named v w s st q means stands = record { path = stands.path; locals_mean = stands.locals_mean; names_mean = means; chunks_mean = stands.chunks_mean }

  -- a lemma gives its postcondition where the lemmas that its body may call do
  once : (place : ℕ) (lemma : LemmaTree) → slice_get lemmas place ≡ Some lemma → IsAcceptedLemma e p lemmas place lemma → (n m : ℕ) (w : Valuation) (q : Part) → HasFall e lemma.contract lemma.falls w q n → HasMass m q
      → AreGhostValues e w lemma.contract.sorts → IsTypedPart e p q → Satisfies e whole lemma.contract.requires_this w q → Usable e p lemmas lemma place n m → Gives e lemma w q
  once place lemma here (with_all outs produce go) n m w q fall mass of_sorts typed required usable =
      let k = lemma.contract in
      let o = produced e p k.sorts all_of_it whole required.0 [] w k.requires_this (call_store (parameter_symbols k.parameters)) (lemma_beginning k) (IsAmong outs) produce
      w w q nothing q (beginning_stands e w k of_sorts) (begins_mean e w k.parameters) of_sorts.0 refl positive_whole required.1 typed (neutral q) in
      body_gives e p lemmas lemma place (go o.store o.state o.holds) here w n m (λ i is. subst (λ f. HasFall e k f w q n) is fall) usable o.under w q q
      (record { fixed = λ x f. refl; of_sorts = of_sorts.0; aside = nothing; sums = neutral q; asides_mean = refl; typed = typed; mass = mass }) (named o.under w o.store o.state q o.means o.stands)
  once place lemma here (with_first_aside names outs falls read go) n m w q fall mass of_sorts typed required usable =
      let k = lemma.contract in
      let at : FirstAt e k.requires_this w n q = subst (λ f. HasFall e k f w q n) falls fall in
      let r = patterns_read e p k.sorts all_of_it (λ ts s st. Produce e p k.sorts all_of_it (rest_of k.requires_this) s st (IsAmong outs)) [] w w nothing of_sorts.0 NoArgumentSort 0 (map (λ x. Names x) names) (call_store (parameter_symbols k.parameters)) (lemma_beginning k) [] read
      w [] (λ j so never. absurd never) (beginning_stands e w k of_sorts) (begins_mean e w k.parameters) in
      let o = produced e p k.sorts all_of_it whole at.depth [] w (rest_of k.requires_this) r.store r.state (IsAmong outs) r.holds r.under w at.others nothing at.others r.stands r.means of_sorts.0 refl positive_whole at.rest_holds
      (typed_right e p at.first at.others q at.sums typed) (neutral at.others) in
      body_gives e p lemmas lemma place (go o.store o.state o.holds) here w n m (λ i is. subst (λ f. HasFall e k f w q n) is fall) usable o.under w at.others q
      (record {
        fixed = λ x f. refl;
        of_sorts = of_sorts.0;
        aside = at.first;
        sums = sums_turn at.first at.others q at.sums;
        asides_mean = (at.first, nothing, neutral at.first, (n, own_depth n, at.first_holds), refl);
        typed = typed;
        mass = mass;
      })
      (named o.under w o.store o.state at.others o.means o.stands)
    where
      own_depth : (n : ℕ) → n ≤ n
      own_depth n = omega arith

  -- the lemma gives its postcondition wherever the part owns at most m
  abbrev HoldsWith : LemmaTree → ℕ → Type 0
  HoldsWith lemma m = (w : Valuation) (q : Part) → HasMass m q → AreGhostValues e w lemma.contract.sorts → IsTypedPart e p q → Satisfies e whole lemma.contract.requires_this w q → Gives e lemma w q

  -- and so wherever besides what falls has a size
  abbrev HoldsAt : LemmaTree → ℕ → ℕ → Type 0
  HoldsAt lemma m n = (w : Valuation) (q : Part) → HasFall e lemma.contract lemma.falls w q n → HasMass m q → AreGhostValues e w lemma.contract.sorts → IsTypedPart e p q → Satisfies e whole lemma.contract.requires_this w q → Gives e lemma w q

  abbrev pub HoldsHere : ℕ → Type 0
  HoldsHere place = (lemma : LemmaTree) → slice_get lemmas place ≡ Some lemma → LemmaHolds e p lemma

  by_size : (place : ℕ) (lemma : LemmaTree) → slice_get lemmas place ≡ Some lemma → IsAcceptedLemma e p lemmas place lemma → ((i : ℕ) → i < place → HoldsHere i)
      → (m : ℕ) → ((j : ℕ) → j < m → HoldsWith lemma j) → (n : ℕ) → ((i : ℕ) → i < n → HoldsAt lemma m i) → HoldsAt lemma m n
  by_size place lemma is accepted before m less n smaller w q fall mass of_sorts typed required =
      once place lemma is accepted n m w q fall mass of_sorts typed required (λ number callee there under r sorts1 typed1 required1 lower.
      elim lower [
        | inl h ↦ before number h callee there under r sorts1 typed1 required1
        | inr h ↦
            let same : lemma ≡ callee = some_same (sym is ∙ subst (λ z. slice_get lemmas z ≡ Some callee) h.0 there) in
            subst (λ z. AreGhostValues e under z.contract.sorts → Satisfies e whole z.contract.requires_this under r → Gives e z under r) same
            (λ sorts2 required2. elim h.1 [
              | inl owns ↦ less owns.0 owns.1 under r owns.2 sorts2 typed1 required2
              | inr own ↦ smaller (own.1).0 (own.1).1 under r (own.1).2 own.0 sorts2 typed1 required2
            ])
            sorts1 required1
      ])

  by_mass : (place : ℕ) (lemma : LemmaTree) → slice_get lemmas place ≡ Some lemma → IsAcceptedLemma e p lemmas place lemma → ((i : ℕ) → i < place → HoldsHere i) → (m : ℕ) → ((j : ℕ) → j < m → HoldsWith lemma j) → HoldsWith lemma m
  by_mass place lemma is accepted before m less w q mass of_sorts typed required =
      let fall = has_fall e lemma.contract lemma.falls w q required in
      by_smaller (HoldsAt lemma m) (by_size place lemma is accepted before m less) fall.0 w q fall.1 mass of_sorts typed required

  -- an accepted lemma holds where those before it do
  pub accepted_holds : (place : ℕ) (lemma : LemmaTree) → slice_get lemmas place ≡ Some lemma → IsAcceptedLemma e p lemmas place lemma → ((i : ℕ) → i < place → HoldsHere i) → LemmaHolds e p lemma
  accepted_holds place lemma is accepted before under q of_sorts typed required =
      let bound = satisfying_is_bounded e required.0 whole lemma.contract.requires_this under q required.1 in
      by_smaller (HoldsWith lemma) (by_mass place lemma is accepted before) bound.0 under q bound.1 of_sorts typed required

pub accepted_lemmas_hold : AcceptedLemmasHold
accepted_lemmas_hold e p lemmas accepted = by_smaller (HoldsHere e p lemmas) (λ place before lemma is. accepted_holds e p lemmas place lemma is (accepted place lemma is) before)
