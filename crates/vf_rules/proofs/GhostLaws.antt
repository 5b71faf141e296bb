-- What a consumption tells of a state is shown by the state, so that an assertion can be asserted.
use Rattle.std.proofs.Common.{◌≡◌, List, [], ◌∷◌, ◌++◌, Option, Some, None, refl, sym, ap, subst, ◌∙◌, inl, inr}
use Rattle.vf_tree.specs.Core.{ProgramTree}
use Rattle.vf_model.specs.Values.{Value}
use Rattle.vf_meaning.specs.Ghost.{Sort, Not}
use Rattle.vf_meaning.specs.Valuations.{Valuation}
use Rattle.vf_meaning.specs.Assertions.{ShareTree, Times, Taken, PatternTree, Is, Names, Wild, Assertion, Pure, Empty, Both, Choose, Switch, Cell, Chunk, Environment}
use Rattle.vf_meaning.specs.Parts.{Part}
use Rattle.vf_rules.specs.Terms.{Term, Store, term_of}
use Rattle.vf_rules.specs.Terms as terms
use Rattle.vf_rules.specs.States.{Fact, Holds, SymbolicChunk, SymbolicState, Meets, StandsFor, Shows, Infeasible, assuming, assuming_all, with_chunks}
use Rattle.vf_rules.specs.Produce.{Given}
use Rattle.vf_rules.specs.Take.{Change, Changes, learns, merges, names_value, makes_value, no_change, and_change}
use Rattle.vf_rules.specs.Consume.{ConsumePatterns, ConsumeShare, Consume}
use Rattle.vf_rules.specs.Accept.{all_of_it, may_drop, may_see, may_split, Accepts}
use Rattle.vf_rules.specs.GhostLaws.{HasNoCases, AssertingIsAccepted, ChoosingIsAccepted}
use Rattle.vf_rules.proofs.Stands.{assuming_stands}
use Rattle.vf_rules.proofs.Takes.{takes_parted, removes_parted, changes_stand}

-- ---- paths
in_front : (e : Environment) (v : Valuation) (fs gs : List Fact) → Meets e v (fs ++ gs) → Meets e v fs
in_front e v [] gs m = tt
in_front e v (f ∷ fs) gs m = (m.0, in_front e v fs gs m.1)

behind : (e : Environment) (v : Valuation) (fs gs : List Fact) → Meets e v (fs ++ gs) → Meets e v gs
behind e v [] gs m = m
behind e v (f ∷ fs) gs m = behind e v fs gs m.1

nothing_more : (fs : List Fact) → fs ++ [] ≡ fs
nothing_more [] = refl
nothing_more (f ∷ fs) = ap (λ z. f ∷ z) (nothing_more fs)

one_more : (fs : List Fact) (g : Fact) (gs : List Fact) → (fs ++ g ∷ []) ++ gs ≡ fs ++ g ∷ gs
one_more [] g gs = refl
one_more (f ∷ fs) g gs = ap (λ z. f ∷ z) (one_more fs g gs)

regrouped : (fs gs hs : List Fact) → (fs ++ gs) ++ hs ≡ fs ++ (gs ++ hs)
regrouped [] gs hs = refl
regrouped (f ∷ fs) gs hs = ap (λ z. f ∷ z) (regrouped fs gs hs)

-- a change adds facts to a path, and keeps locals and names
record Adds (st new : SymbolicState) : Type 0 where
  facts : List Fact
  is : new ≡ record st { chunks = new.chunks; path = st.path ++ facts }

adds_one : (e : Environment) {st new : SymbolicState} → Change e st new → Adds st new
adds_one e (learns {st} f h) = record { facts = f ∷ []; is = refl }
adds_one e (merges {st} cs facts t) = record { facts = facts; is = refl }
adds_one e (names_value {st} c d cs h t) = record { facts = []; is = ap (λ z. record st { chunks = cs; path = z }) (sym (nothing_more st.path)) }
adds_one e (makes_value {st} c d cs h t) = record { facts = []; is = ap (λ z. record st { chunks = cs; path = z }) (sym (nothing_more st.path)) }

adds_then : (st mid new : SymbolicState) → Adds st mid → Adds mid new → Adds st new
adds_then st mid new a b = record {
  facts = a.facts ++ b.facts;
  is = b.is ∙ ap (λ (z : SymbolicState). record z { chunks = new.chunks; path = z.path ++ b.facts }) a.is ∙ ap (λ z. record st { chunks = new.chunks; path = z }) (regrouped st.path a.facts b.facts);
}

adds : (e : Environment) {st new : SymbolicState} → Changes e st new → Adds st new
adds e (no_change {st}) = record { facts = []; is = ap (λ z. record st { path = z }) (sym (nothing_more st.path)) }
adds e (and_change {st} {mid} {new} c cs) = adds_then st mid new (adds_one e c) (adds e cs)

-- ---- what patterns and shares come to
patterns_end : (e : Environment) (p : ProgramTree) (sorts : List Sort) (scale : Term) (path : List Fact) (ps : List PatternTree) (ts : List (Option Term)) (s : Store) (K : Store → Type 0) → ConsumePatterns e p sorts scale path ps ts s K → (r : Store) × K r
patterns_end e p sorts scale path [] [] s K k = (s, k)
patterns_end e p sorts scale path [] (t ∷ ts) s K k = absurd k
patterns_end e p sorts scale path (Is x ∷ ps) [] s K k = absurd k
patterns_end e p sorts scale path (Names x ∷ ps) [] s K k = absurd k
patterns_end e p sorts scale path (Wild ∷ ps) [] s K k = absurd k
patterns_end e p sorts scale path (Is x ∷ ps) (Some t ∷ ts) s K k = patterns_end e p sorts scale path ps ts s K k.2
patterns_end e p sorts scale path (Names x ∷ ps) (Some t ∷ ts) s K k = patterns_end e p sorts scale path ps ts (terms.stored s x t) K k.2
patterns_end e p sorts scale path (Wild ∷ ps) (t ∷ ts) s K k = patterns_end e p sorts scale path ps ts s K k
patterns_end e p sorts scale path (Is x ∷ ps) (None ∷ ts) s K k = absurd k
patterns_end e p sorts scale path (Names x ∷ ps) (None ∷ ts) s K k = absurd k

-- A is closed under seeing what a state shows, under splitting, and under dropping states that cannot be
module _ (e : Environment) (p : ProgramTree) (sorts : List Sort) (scale : Term) (A : SymbolicState → Type 0) (see : (st : SymbolicState) (f : Fact) → Shows e st f → A (assuming st f) → A st)
    (split : (st : SymbolicState) (t : Term) → A (assuming st (Holds t)) → A (assuming st (Holds (Not t))) → A st) (drop : (st : SymbolicState) → Infeasible e st.path → A st) (cs : List SymbolicChunk) where
  -- a state is left of the one with the chunks that were there before
  abbrev pub IsLeft : SymbolicState → Type 0
  IsLeft st = (v : Valuation) (locals : List (Option Value)) (names : Valuation) (part : Part) → StandsFor e v (with_chunks st cs) locals names part → (q : Part) × StandsFor e v st locals names q

  -- the state with fewer facts stands for as much
  fewer : (st : SymbolicState) (fs : List Fact) (v : Valuation) (locals : List (Option Value)) (names : Valuation) (part : Part) → StandsFor e v (assuming_all st fs) locals names part → StandsFor e v st locals names part
  fewer st fs v locals names part m = record { path = in_front e v st.path fs m.path; locals_mean = m.locals_mean; names_mean = m.names_mean; chunks_mean = m.chunks_mean }

  -- several facts that are shown are seen
  see_all : (st : SymbolicState) (fs : List Fact) → ((v : Valuation) (locals : List (Option Value)) (names : Valuation) (part : Part) → StandsFor e v st locals names part → Meets e v fs) → A (assuming_all st fs) → A st
  see_all st [] shown go = subst A (ap (λ z. record st { path = z }) (nothing_more st.path)) go
  see_all st (f ∷ fs) shown go =
      see st f (record { by = λ v locals names part m. (shown v locals names part m).0 })
      (see_all (assuming st f) fs (λ v locals names part m. (shown v locals names part (fewer st (f ∷ []) v locals names part m)).1) (subst A (ap (λ z. record st { path = z }) (sym (one_more st.path f fs))) go))

  -- after changes
  changed_left : (st st1 : SymbolicState) → Changes e st st1 → (a : Adds st st1) → IsLeft st → IsLeft st1
  changed_left st st1 changes a left v locals names part m =
      let before = left v locals names part (fewer (with_chunks st cs) a.facts v locals names part (subst (λ (z : SymbolicState). StandsFor e v (with_chunks z cs) locals names part) a.is m)) in
      (before.0, changes_stand e v changes locals names before.0 before.1)

  see_changes : (st st1 : SymbolicState) → Changes e st st1 → IsLeft st → (IsLeft st1 → A (with_chunks st1 cs)) → A (with_chunks st cs)
  see_changes st st1 changes left go =
      let a = adds e changes in
      see_all (with_chunks st cs) a.facts (λ v locals names part m. shown a v locals names part m)
      (subst (λ (z : SymbolicState). A (with_chunks z cs)) a.is (go (changed_left st st1 changes a left)))
    where
      shown : (a : Adds st st1) (v : Valuation) (locals : List (Option Value)) (names : Valuation) (part : Part) → StandsFor e v (with_chunks st cs) locals names part → Meets e v a.facts
      shown a v locals names part m =
          let before = left v locals names part m in
          let after = changes_stand e v changes locals names before.0 before.1 in
          behind e v st.path a.facts (subst (λ (z : SymbolicState). Meets e v z.path) a.is after.path)

  -- after a chunk was taken
  see_share : (share : ShareTree) (s : Store) (st : SymbolicState) (K : SymbolicChunk → List SymbolicChunk → Store → Type 0) → ConsumeShare e p sorts scale share s st.path st.chunks K → IsLeft st
      → ((c : SymbolicChunk) (ds : List SymbolicChunk) (r : Store) → K c ds r → IsLeft (with_chunks st ds) → A (with_chunks st cs)) → A (with_chunks st cs)
  see_share (Times d ys) s st K (bound, (c, ds, takes, k)) left go = go c ds s k (λ v locals names part m.
      let before = left v locals names part m in
      let o = takes_parted e v st.path _ c takes (before.1).path before.0 (before.1).chunks_mean in
      (o.left, record { path = (before.1).path; locals_mean = (before.1).locals_mean; names_mean = (before.1).names_mean; chunks_mean = o.chunks_mean }))
  see_share (Taken x) s st K (c, ds, t, removes, quotient, unbound, facts, k) left go = go c ds (terms.stored s x t) k (λ v locals names part m.
      let before = left v locals names part m in
      let o = removes_parted e v c removes before.0 (before.1).chunks_mean in
      (o.left, record { path = (before.1).path; locals_mean = (before.1).locals_mean; names_mean = (before.1).names_mean; chunks_mean = o.chunks_mean }))

  -- after a fact was assumed
  assumed_left : (st : SymbolicState) (f : Fact) → IsLeft st → IsLeft (assuming st f)
  assumed_left st f left v locals names part m =
      let before = left v locals names part (fewer (with_chunks st cs) (f ∷ []) v locals names part m) in
      (before.0, assuming_stands e v st locals names before.0 f (behind e v st.path (f ∷ []) m.path).0 before.1)

  pub asserted : (a : Assertion) (s : Store) (st : SymbolicState) (K : Store → SymbolicState → Type 0) → HasNoCases a → IsLeft st → Consume e p sorts scale a s st K
      → ((r : Store) (su : SymbolicState) → IsLeft su → K r su → A (with_chunks su cs)) → A (with_chunks st cs)
  asserted (Pure x) s st K plain left k go = go s st left k.2
  asserted Empty s st K plain left k go = go s st left k
  asserted (Both a b) s st K plain left k go = asserted a s st _ plain.0 left k (λ r su left1 k1. asserted b r su K plain.1 left1 k1 go)
  asserted (Choose x a b) s st K plain left k go =
      split (with_chunks st cs) (term_of s x)
      (by_case (Holds (term_of s x)) (λ st1. Consume e p sorts scale a s st1 K) k.1 (λ k1. asserted a s (assuming st (Holds (term_of s x))) K plain.0 (assumed_left st (Holds (term_of s x)) left) k1 go))
      (by_case (Holds (Not (term_of s x))) (λ st1. Consume e p sorts scale b s st1 K) k.2 (λ k1. asserted b s (assuming st (Holds (Not (term_of s x)))) K plain.1 (assumed_left st (Holds (Not (term_of s x))) left) k1 go))
    where
      by_case : (f : Fact) (K1 : SymbolicState → Type 0) → Given e p sorts scale st f K1 → (K1 (assuming st f) → A (with_chunks (assuming st f) cs)) → A (with_chunks (assuming st f) cs)
      by_case f K1 (inl never) go1 = drop (with_chunks (assuming st f) cs) never
      by_case f K1 (inr k1) go1 = go1 k1
  asserted (Switch x _) s st K plain left k go = absurd plain
  asserted (Cell share pointer f x) s st K plain left (bound, (st1, changes, k)) go =
      see_changes st st1 changes left (λ left1. see_share share s st1 _ k left1 (λ c ds r k1 left2.
      let (is, (t, content, arguments, equal, patterns)) = k1 in
      let (r2, k2) = patterns_end e p sorts scale st1.path (x ∷ []) (content ∷ []) r (λ s2. K s2 (with_chunks st1 ds)) patterns in
      go r2 (with_chunks st1 ds) left2 k2))
  asserted (Chunk share head xs) s st K plain left (bound, (st1, changes, k)) go =
      see_changes st st1 changes left (λ left1. see_share share s st1 _ k left1 (λ c ds r k1 left2.
      let (r2, k2) = patterns_end e p sorts scale st1.path xs c.arguments r (λ s2. K s2 (with_chunks st1 ds)) k1.1 in
      go r2 (with_chunks st1 ds) left2 k2))

pub asserting_is_accepted : AssertingIsAccepted
asserting_is_accepted e p f k now soon n st sorts a s outs plain consume go =
    asserted e p sorts all_of_it (λ z. Accepts e p f k now soon n z) (λ z fact shown h. may_see fact shown h) (λ z t left right. may_split t left right) (λ z never. may_drop never) st.chunks a s st _ plain
    (λ v locals names part m. (part, m)) consume (λ r su left among. go r su among)

pub choosing_is_accepted : ChoosingIsAccepted
choosing_is_accepted e p f k now soon n st t left right = may_split t left right
