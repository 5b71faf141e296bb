-- What stands round the part that a state of a lemma's body stands for, and what falls where a lemma calls itself.
use Rattle.std.proofs.Common.{◌≡◌, ℕ, ◌<◌, List, ◌∷◌, ◌++◌, Some, None, refl, sym, subst, ◌∙◌}
use Rattle.std.specs.Prelude.{Contains}
use Rattle.vf_tree.specs.Core.{ProgramTree}
use Rattle.vf_meaning.specs.Ghost.{Name, Numbered}
use Rattle.vf_meaning.specs.Valuations.{Valuation, size}
use Rattle.vf_meaning.specs.Assertions.{Assertion, ContractTree, Environment}
use Rattle.vf_meaning.specs.Sorts.{HasSort, AreOfSorts}
use Rattle.vf_meaning.specs.Parts.{Part, IsSum}
use Rattle.vf_meaning.specs.Satisfaction.{SatisfiesAt, Satisfies}
use Rattle.vf_meaning.specs.Fractions.{whole}
use Rattle.vf_meaning.specs.Kept.{IsFixed}
use Rattle.vf_meaning.proofs.Parts.{sums_turn, sums_regroup}
use Rattle.vf_rules.specs.Terms.{Store}
use Rattle.vf_rules.specs.States.{StoreMeans}
use Rattle.vf_rules.specs.Types.{IsTypedPart}
use Rattle.vf_rules.proofs.Produces.{typed_left, typed_right}
use Rattle.vf_rules.specs.Lemmas.{Fall, OnArgument, OnDepth, LemmaTree}
use Rattle.vf_lemmas.specs.Depths.{Aside, all_inside, TakesAside, HoldAt, AreNew, AreFreeOf}
use Rattle.vf_lemmas.proofs.Masses.{HasMass, mass_left}
use Rattle.vf_lemmas.proofs.Asides.{FirstAt, first_at, AsideMeans, AsidesMean, taken_out, asides_renewed, inner_asides}

none_some : {A B : Type 0} {x : A} → None ≡ Some x → B
none_some e = cc

-- what falls has a size: that of a parameter's value, or a depth at which the first part of the precondition holds
abbrev pub HasFall : Environment → ContractTree → Fall → Valuation → Part → ℕ → Type 0
HasFall e k (OnArgument j) w q n = size (w (Numbered j)) ≡ n
HasFall e k OnDepth w q n = FirstAt e k.requires_this w n q

pub has_fall : (e : Environment) (k : ContractTree) (f : Fall) (w : Valuation) (q : Part) → Satisfies e whole k.requires_this w q → (n : ℕ) × HasFall e k f w q n
has_fall e k (OnArgument j) w q h = (size (w (Numbered j)), refl)
has_fall e k OnDepth w q h = (h.0, first_at e k.requires_this w h.0 q h.1)

module _ (e : Environment) (p : ProgramTree) (own : LemmaTree) where
  -- Round a part are what is set aside, whose sum with it is a part that has its types and owns at most m; and the valuation of the names has the fixed ones from the beginning, and values of the contract's sorts
  pub record Around (names : Valuation) (asides : List Aside) (w : Valuation) (n m : ℕ) (part q : Part) : Type 0 where
    pub fixed : (x : Name) → IsFixed own.contract x → names x ≡ w x
    pub of_sorts : AreOfSorts e names own.contract.sorts
    pub aside : Part
    pub sums : IsSum part aside q
    pub asides_mean : AsidesMean e names n asides aside
    pub typed : IsTypedPart e p q
    pub mass : HasMass m q

  pub part_typed : (names : Valuation) (asides : List Aside) (w : Valuation) (n m : ℕ) (part q : Part) → Around names asides w n m part q → IsTypedPart e p part
  part_typed names asides w n m part q a = typed_left e p part a.aside q a.sums a.typed

  -- a part of it is given away
  pub with_less : (names : Valuation) (asides : List Aside) (w : Valuation) (n m : ℕ) (off left part q : Part) → IsSum off left part → Around names asides w n m part q → (less : Part) × IsSum off less q × Around names asides w n m left less
  with_less names asides w n m off left part q s a =
      let (less, both, all) = sums_regroup off left part a.aside q s a.sums in (
        less,
        all,
        record {
          fixed = a.fixed;
          of_sorts = a.of_sorts;
          aside = a.aside;
          sums = both;
          asides_mean = a.asides_mean;
          typed = typed_right e p off less q all a.typed;
          mass = mass_left m less off q (sums_turn off less q all) a.mass;
        },
      )

  -- something that is set aside comes back
  pub record Back (names : Valuation) (b : Aside) (others : List Aside) (w : Valuation) (n m : ℕ) (part q : Part) : Type 0 where
    pub off : Part
    pub now : Part
    pub sums : IsSum off part now
    pub means : AsideMeans e names n b off
    pub around : Around names others w n m now q

  pub back : (names : Valuation) (b : Aside) {asides others : List Aside} → TakesAside b asides others → (w : Valuation) (n m : ℕ) (part q : Part) → Around names asides w n m part q → Back names b others w n m part q
  back names b t w n m part q a =
      let o = taken_out e names n b t a.aside a.asides_mean in
      let (now, both, all) = sums_regroup o.left o.off a.aside part q (sums_turn o.off o.left a.aside o.sums) (sums_turn part a.aside q a.sums) in
      record {
        off = o.off;
        now = now;
        sums = both;
        means = o.means;
        around = record { fixed = a.fixed; of_sorts = a.of_sorts; aside = o.left; sums = sums_turn o.left now q all; asides_mean = o.others_mean; typed = a.typed; mass = a.mass };
      }

  -- what is set aside is split
  pub split_around : (names : Valuation) (b : Aside) (first second : Assertion) {asides others : List Aside} → TakesAside b asides others → (w : Valuation) (n m : ℕ) (part q : Part)
      → ((j : ℕ) (off : Part) → SatisfiesAt e j whole b.assertion names off → (r : Part) × (s : Part) × IsSum r s off × SatisfiesAt e j whole first names r × SatisfiesAt e j whole second names s)
      → Around names asides w n m part q → Around names (record { inside = b.inside; assertion = first } ∷ record { inside = b.inside; assertion = second } ∷ others) w n m part q
  split_around names b first second t w n m part q splits a =
      let o = taken_out e names n b t a.aside a.asides_mean in
      let j = (o.means).0 in
      let (r, s, parted, one, two) = splits j o.off (o.means).2 in
      let (more, both, all) = sums_regroup r s o.off o.left a.aside parted o.sums in
      record {
        fixed = a.fixed;
        of_sorts = a.of_sorts;
        aside = a.aside;
        sums = a.sums;
        asides_mean = (r, more, all, (j, (o.means).1, one), (s, o.left, both, (j, (o.means).1, two), o.others_mean));
        typed = a.typed;
        mass = a.mass;
      }

  -- names that are not new have the values that they had
  pub still_named : (names later : Valuation) (new : List Name) (s : Store) (v : Valuation) → AreNew own.contract s new → ((x : Name) → (Contains new x → ⊥) → later x ≡ names x) → StoreMeans e v s names → StoreMeans e v s later
  still_named names later new s v fresh same m x t is = m x t is ∙ sym (same x (λ c. none_some (sym (fresh.unbound x c) ∙ is)))

  -- what comes back is opened: inner assertions are set aside, and a rest comes back
  pub opened_around : (names : Valuation) (new : List Name) (s : Store) (inner : List Assertion) (others : List Aside) (w : Valuation) (n j : ℕ) (m : ℕ) (part q : Part) → AreNew own.contract s new → AreFreeOf new others → j < n
      → (later : Valuation) → ((x : Name) → (Contains new x → ⊥) → later x ≡ names x) → (deep left off now : Part) → IsSum deep left off → IsSum off part now → HoldAt e j inner later deep → Around names others w n m now q
      → (more : Part) × IsSum left part more × Around later (all_inside inner ++ others) w n m more q
  opened_around names new s inner others w n j m part q fresh free l later same deep left off now parted sums hold a =
      let (more, both, all) = sums_regroup deep left off part now parted sums in
      let (aside, with_deep, whole_is) = sums_regroup more deep now a.aside q (sums_turn deep more now all) a.sums in (
        more,
        both,
        record {
          fixed = λ x f. same x (λ c. fresh.unfixed x c f) ∙ a.fixed x f;
          of_sorts = λ k b known. subst (λ z. HasSort e z b) (sym (same (Numbered k) (λ c. fresh.unsorted k b c known))) (a.of_sorts k b known);
          aside = aside;
          sums = whole_is;
          asides_mean = inner_asides e later n j l inner others deep a.aside aside with_deep hold (asides_renewed e names later n new others same free a.aside a.asides_mean);
          typed = a.typed;
          mass = a.mass;
        },
      )
