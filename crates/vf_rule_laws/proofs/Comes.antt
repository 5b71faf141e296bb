-- What is to hold behind an assertion may be that the store and the state are among finitely many outcomes: those to which its reading comes.
use Rattle.std.proofs.Common.{◌≡◌, ℕ, zero, suc, ◌-◌, List, [], ◌∷◌, ◌++◌, drop, map, Option, Some, None, refl, ap₂, subst₂, ◌⊎◌, inl, inr}
use Rattle.vf_tree.specs.Core.{ProgramTree, Equal}
use Rattle.vf_meaning.specs.Ghost.{Sort, Not, Compare, Construct}
use Rattle.vf_meaning.specs.Assertions.{ShareTree, Times, Taken, PatternTree, Is, Names, Wild, Assertion, Pure, Empty, Both, Choose, Switch, Cell, Chunk, Branches, no_branches, branch, Environment}
use Rattle.vf_rules.specs.Terms.{Term, Store, term_of, in_row}
use Rattle.vf_rules.specs.States.{Fact, Holds, SymbolicChunk, SymbolicState, assuming, with_chunks}
use Rattle.vf_rules.specs.Produce.{known, NoArgumentSort, Given, ProducePatterns, ProduceShare, Produce, ProduceBranches}
use Rattle.vf_rules.specs.Take.{Change, learns, merges, names_value, makes_value, Changes, no_change, and_change}
use Rattle.vf_rules.specs.Consume.{ConsumePatterns, ConsumeShare, Consume, ConsumeBranches}
use Rattle.vf_rules.specs.Laws.{Outcome, IsAmong}

-- ---- outcomes
abbrev pub outcome : Store → SymbolicState → Outcome
outcome s st = record { store = s; state = st }

pub among_left : (xs ys : List Outcome) (s : Store) (st : SymbolicState) → IsAmong xs s st → IsAmong (xs ++ ys) s st
among_left [] ys s st h = absurd h
among_left (x ∷ xs) ys s st (inl h) = inl h
among_left (x ∷ xs) ys s st (inr h) = inr (among_left xs ys s st h)

pub among_right : (xs ys : List Outcome) (s : Store) (st : SymbolicState) → IsAmong ys s st → IsAmong (xs ++ ys) s st
among_right [] ys s st h = h
among_right (x ∷ xs) ys s st h = inr (among_right xs ys s st h)

pub among_either : (xs ys : List Outcome) (s : Store) (st : SymbolicState) → IsAmong (xs ++ ys) s st → IsAmong xs s st ⊎ IsAmong ys s st
among_either [] ys s st h = inr h
among_either (x ∷ xs) ys s st (inl h) = inl (inl h)
among_either (x ∷ xs) ys s st (inr h) =
    elim (among_either xs ys s st h) [
      | inl k ↦ inl (inr k)
      | inr k ↦ inr k
    ]

-- one of several outcomes that are changed is one of them, changed
pub among_mapped : (g : Outcome → Outcome) (xs : List Outcome) (s : Store) (st : SymbolicState) → IsAmong (map g xs) s st → (o : Outcome) × IsAmong xs o.store o.state × ((g o).store ≡ s) × ((g o).state ≡ st)
among_mapped g [] s st h = absurd h
among_mapped g (x ∷ xs) s st (inl h) = (x, inl (refl, refl), h.0, h.1)
among_mapped g (x ∷ xs) s st (inr h) = let o = among_mapped g xs s st h in (o.0, inr o.1, o.2, o.3)

pub mapped_among : (g : Outcome → Outcome) (xs : List Outcome) (s : Store) (st : SymbolicState) → IsAmong xs s st → IsAmong (map g xs) (g (outcome s st)).store (g (outcome s st)).state
mapped_among g [] s st h = absurd h
mapped_among g (x ∷ xs) s st (inl h) = inl (ap₂ (λ a b. (g (outcome a b)).store) h.0 h.1, ap₂ (λ a b. (g (outcome a b)).state) h.0 h.1)
mapped_among g (x ∷ xs) s st (inr h) = inr (mapped_among g xs s st h)

-- ---- what comes
-- Inv is so of a path and of each that is longer
module _ (Inv : List Fact → Type 0) (more : (path gs : List Fact) → Inv path → Inv (path ++ gs)) where
  -- what is to hold behind a reading holds of each of finitely many outcomes, and whatever holds of these may be what is to hold
  abbrev pub Comes : ((Store → SymbolicState → Type 0) → Type 0) → (Store → SymbolicState → Type 0) → Type 1
  Comes Do K =
      (outs : List Outcome) × ((s : Store) (st : SymbolicState) → IsAmong outs s st → K s st × Inv st.path) × ((Q : Store → SymbolicState → Type 0) → ((s : Store) (st : SymbolicState) → IsAmong outs s st → Q s st) → Do Q)

  comes_once : (s : Store) (st : SymbolicState) (K : Store → SymbolicState → Type 0) → K s st → Inv st.path → Comes (λ Q. Q s st) K
  comes_once s st K k i = (outcome s st ∷ [], (λ r su h. once r su h), (λ Q q. q s st (inl (refl, refl))))
    where
      once : (r : Store) (su : SymbolicState) → IsAmong (outcome s st ∷ []) r su → K r su × Inv su.path
      once r su (inl h) = subst₂ (λ a b. K a b × Inv b.path) h.0 h.1 (k, i)
      once r su (inr h) = absurd h

  -- two readings
  comes_both : (D E : (Store → SymbolicState → Type 0) → Type 0) (K : Store → SymbolicState → Type 0) → Comes D K → Comes E K → Comes (λ Q. D Q × E Q) K
  comes_both D E K (xs, each, again) (ys, later, anew) =
      (xs ++ ys, (λ s st h. in_either s st (among_either xs ys s st h)), (λ Q q. (again Q (λ s st h. q s st (among_left xs ys s st h)), anew Q (λ s st h. q s st (among_right xs ys s st h)))))
    where
      in_either : (s : Store) (st : SymbolicState) → IsAmong xs s st ⊎ IsAmong ys s st → K s st × Inv st.path
      in_either s st (inl h) = each s st h
      in_either s st (inr h) = later s st h

  -- one reading behind each of several outcomes
  pub comes_each : (D : Store → SymbolicState → (Store → SymbolicState → Type 0) → Type 0) (K : Store → SymbolicState → Type 0) (outs : List Outcome) → ((s : Store) (st : SymbolicState) → IsAmong outs s st → Comes (D s st) K)
      → Comes (λ Q. (s : Store) (st : SymbolicState) → IsAmong outs s st → D s st Q) K
  comes_each D K [] go = ([], (λ s st h. absurd h), (λ Q q s st h. absurd h))
  comes_each D K (o ∷ os) go =
      let first = go o.store o.state (inl (refl, refl)) in
      let rest = comes_each D K os (λ s st h. go s st (inr h)) in
      let both = comes_both (D o.store o.state) (λ Q. (s : Store) (st : SymbolicState) → IsAmong os s st → D s st Q) K first rest in
      (both.0, both.1, (λ Q q s st h. first_or_later Q (both.2 Q q) s st h))
    where
      first_or_later : (Q : Store → SymbolicState → Type 0) → D o.store o.state Q × ((s : Store) (st : SymbolicState) → IsAmong os s st → D s st Q) → (s : Store) (st : SymbolicState) → IsAmong (o ∷ os) s st → D s st Q
      first_or_later Q d s st (inl h) = subst₂ (λ a b. D a b Q) h.0 h.1 d.0
      first_or_later Q d s st (inr h) = d.1 s st h

  -- a reading whose outcomes are changed before what is to hold is asked of them
  pub comes_changed : (D : (Store → SymbolicState → Type 0) → Type 0) (g : Outcome → Outcome) (K : Store → SymbolicState → Type 0) → ((o : Outcome) → Inv o.state.path → Inv (g o).state.path)
      → Comes D (λ s st. K (g (outcome s st)).store (g (outcome s st)).state) → Comes (λ Q. D (λ s st. Q (g (outcome s st)).store (g (outcome s st)).state)) K
  comes_changed D g K keep (outs, each, again) = (map g outs, (λ s st h. of_one s st (among_mapped g outs s st h)), (λ Q q. again (λ s st. Q (g (outcome s st)).store (g (outcome s st)).state) (λ s st h. q (g (outcome s st)).store (g (outcome s st)).state (mapped_among g outs s st h))))
    where
      of_one : (s : Store) (st : SymbolicState) → ((o : Outcome) × IsAmong outs o.store o.state × ((g o).store ≡ s) × ((g o).state ≡ st)) → K s st × Inv st.path
      of_one s st (o, h, r, su) = let k = each o.store o.state h in subst₂ (λ a b. K a b × Inv b.path) r su (k.0, keep o k.1)

  -- a reading that goes on where another has come to
  pub comes_then : (D : (Store → SymbolicState → Type 0) → Type 0) (F : Store → SymbolicState → (Store → SymbolicState → Type 0) → Type 0) (K : Store → SymbolicState → Type 0)
      → Comes D (λ s st. F s st K) → ((s : Store) (st : SymbolicState) → F s st K → Inv st.path → Comes (F s st) K) → Comes (λ Q. D (λ s st. F s st Q)) K
  comes_then D F K (outs, each, again) go =
      let rest = comes_each F K outs (λ s st h. let k = each s st h in go s st k.0 k.1) in
      (rest.0, rest.1, (λ Q q. again (λ s st. F s st Q) (rest.2 Q q)))

  module _ (e : Environment) (p : ProgramTree) (sorts : List Sort) (scale : Term) where
    -- where a state that cannot be is dropped there is no outcome
    comes_given : (st : SymbolicState) (f : Fact) (F : SymbolicState → (Store → SymbolicState → Type 0) → Type 0) (K : Store → SymbolicState → Type 0) → Given e p sorts scale st f (λ su. F su K) → Inv st.path
        → ((su : SymbolicState) → F su K → Inv su.path → Comes (F su) K) → Comes (λ Q. Given e p sorts scale st f (λ su. F su Q)) K
    comes_given st f F K (inl never) i go = ([], (λ s su h. absurd h), (λ Q q. inl never))
    comes_given st f F K (inr k) i go = let r = go (assuming st f) k (more st.path (f ∷ []) i) in (r.0, r.1, (λ Q q. inr (r.2 Q q)))

    -- ---- producing
    -- patterns and shares come to one outcome each
    abbrev OnePatterns : ((List (Option Term) → Store → SymbolicState → Type 0) → Type 0) → (List (Option Term) → Store → SymbolicState → Type 0) → Type 1
    OnePatterns Do K = (ts : List (Option Term)) × (s : Store) × (st : SymbolicState) × K ts s st × Inv st.path × ((Q : List (Option Term) → Store → SymbolicState → Type 0) → Q ts s st → Do Q)

    patterns_come : (Has : ℕ → Sort → Type 0) (n : ℕ) (ps : List PatternTree) (s : Store) (st : SymbolicState) (ts : List (Option Term)) (K : List (Option Term) → Store → SymbolicState → Type 0)
        → ProducePatterns e p sorts scale Has n ps s st ts K → Inv st.path → OnePatterns (ProducePatterns e p sorts scale Has n ps s st ts) K
    patterns_come Has n [] s st ts K k i = (ts, s, st, k, i, (λ Q q. q))
    patterns_come Has n (Is x ∷ ps) s st ts K k i =
        let r = patterns_come (λ j. Has (suc j)) (n - 1) ps s st _ K k.1 i in (r.0, r.1, r.2, r.3, r.4, (λ Q q. (k.0, r.5 Q q)))
    patterns_come Has n (Names x ∷ ps) s st ts K k i =
        let r = patterns_come (λ j. Has (suc j)) (n - 1) ps _ _ _ K k.3 (more st.path _ i) in (r.0, r.1, r.2, r.3, r.4, (λ Q q. (k.0, k.1, k.2, r.5 Q q)))
    patterns_come Has zero (Wild ∷ ps) s st ts K k i = let r = patterns_come (λ j. Has (suc j)) zero ps s st _ K k i in (r.0, r.1, r.2, r.3, r.4, (λ Q q. r.5 Q q))
    patterns_come Has (suc n) (Wild ∷ ps) s st ts K k i =
        let r = patterns_come (λ j. Has (suc j)) n ps s _ _ K k.4 (more st.path _ i) in (r.0, r.1, r.2, r.3, r.4, (λ Q q. (k.0, k.1, k.2, k.3, r.5 Q q)))

    abbrev OneShare : ((Term → Store → SymbolicState → Type 0) → Type 0) → (Term → Store → SymbolicState → Type 0) → Type 1
    OneShare Do K = (c : Term) × (s : Store) × (st : SymbolicState) × K c s st × Inv st.path × ((Q : Term → Store → SymbolicState → Type 0) → Q c s st → Do Q)

    share_comes : (share : ShareTree) (s : Store) (st : SymbolicState) (K : Term → Store → SymbolicState → Type 0) → ProduceShare e p sorts scale share s st K → Inv st.path → OneShare (ProduceShare e p sorts scale share s st) K
    share_comes (Times d ys) s st K k i = (_, s, st, k.1, i, (λ Q q. (k.0, q)))
    share_comes (Taken x) s st K k i = (_, _, _, k.3, more st.path _ i, (λ Q q. (k.0, k.1, k.2, q)))

    -- the store is as before behind a conditional
    abbrev as_before : Store → Outcome → Outcome
    as_before s o = outcome s o.state

    mutual
      pub produce_comes : (a : Assertion) (s : Store) (st : SymbolicState) (K : Store → SymbolicState → Type 0) → Produce e p sorts scale a s st K → Inv st.path → Comes (Produce e p sorts scale a s st) K
      produce_comes (Pure x) s st K h i =
          let r = comes_given st (Holds (term_of s x)) (λ su Q. Q s su) K h.1 i (λ su k j. comes_once s su K k j) in (r.0, r.1, (λ Q q. (h.0, r.2 Q q)))
      produce_comes Empty s st K h i = comes_once s st K h i
      produce_comes (Both a b) s st K h i =
          comes_then (Produce e p sorts scale a s st) (λ s1 st1. Produce e p sorts scale b s1 st1) K (produce_comes a s st (λ s1 st1. Produce e p sorts scale b s1 st1 K) h i) (λ s1 st1 k j. produce_comes b s1 st1 K k j)
      produce_comes (Choose x a b) s st K h i =
          let left = comes_given st (Holds (term_of s x)) (λ su Q. Produce e p sorts scale a s su (λ s2 st2. Q s st2)) K h.1 i
          (λ su k j. comes_changed (Produce e p sorts scale a s su) (as_before s) K (λ o z. z) (produce_comes a s su (λ s2 st2. K s st2) k j)) in
          let right = comes_given st (Holds (Not (term_of s x))) (λ su Q. Produce e p sorts scale b s su (λ s2 st2. Q s st2)) K h.2 i
          (λ su k j. comes_changed (Produce e p sorts scale b s su) (as_before s) K (λ o z. z) (produce_comes b s su (λ s2 st2. K s st2) k j)) in
          let r = comes_both (λ Q. Given e p sorts scale st (Holds (term_of s x)) (λ su. Produce e p sorts scale a s su (λ s2 st2. Q s st2))) (λ Q. Given e p sorts scale st (Holds (Not (term_of s x))) (λ su. Produce e p sorts scale b s su (λ s2 st2. Q s st2))) K left right in
          (r.0, r.1, (λ Q q. let d = r.2 Q q in (h.0, d.0, d.1)))
      produce_comes (Switch x branches) s st K h i = let r = branches_come branches (term_of s x) s st K h.2 i in (r.0, r.1, (λ Q q. (h.0, h.1, r.2 Q q)))
      produce_comes (Cell share pointer f x) s st K h i =
          let c = share_comes share s st _ h.1 i in
          let r = patterns_come NoArgumentSort 0 (x ∷ []) c.1 c.2 _ _ c.3 c.4 in
          let last = comes_once r.1 _ K r.3 (more (r.2).path _ r.4) in
          (last.0, last.1, (λ Q q. (h.0, c.5 _ (r.5 _ (last.2 Q q)))))
      produce_comes (Chunk share head xs) s st K h i =
          let c = share_comes share s st _ h.1 i in
          let r = patterns_come _ _ xs c.1 c.2 _ _ c.3 c.4 in
          let last = comes_once r.1 _ K r.3 (more (r.2).path _ r.4) in
          (last.0, last.1, (λ Q q. (h.0, c.5 _ (r.5 _ (last.2 Q q)))))

      branches_come : (bs : Branches) (u : Term) (s : Store) (st : SymbolicState) (K : Store → SymbolicState → Type 0) → ProduceBranches e p sorts scale bs u s st K → Inv st.path → Comes (ProduceBranches e p sorts scale bs u s st) K
      branches_come no_branches u s st K h i = ([], (λ r su k. absurd k), (λ Q q. tt))
      branches_come (branch c xs a rest) u s st K h i =
          let r = patterns_come NoArgumentSort 0 (map (λ x. Names x) xs) s st (Some u ∷ []) _ h.0 i in
          let fact = Holds (Compare Equal u (Construct c (in_row (known (drop 1 r.0))))) in
          let here = comes_given r.2 fact (λ su Q. Produce e p sorts scale a r.1 su (λ s3 st3. Q s st3)) K r.3 r.4
          (λ su k j. comes_changed (Produce e p sorts scale a r.1 su) (as_before s) K (λ o z. z) (produce_comes a r.1 su (λ s3 st3. K s st3) k j)) in
          let both = comes_both (λ Q. Given e p sorts scale r.2 fact (λ su. Produce e p sorts scale a r.1 su (λ s3 st3. Q s st3))) (ProduceBranches e p sorts scale rest u s st) K here (branches_come rest u s st K h.1 i) in
          (both.0, both.1, (λ Q q. let d = both.2 Q q in (r.5 _ d.0, d.1)))

    -- ---- consuming
    change_longer : {st new : SymbolicState} → Change e st new → Inv st.path → Inv new.path
    change_longer (learns {st} f h) i = more st.path (f ∷ []) i
    change_longer (merges {st} cs facts m) i = more st.path facts i
    change_longer (names_value c d cs r m) i = i
    change_longer (makes_value c d cs r m) i = i

    changes_longer : {st new : SymbolicState} → Changes e st new → Inv st.path → Inv new.path
    changes_longer no_change i = i
    changes_longer (and_change c cs) i = changes_longer cs (change_longer c i)

    wanted_come : (path : List Fact) (ps : List PatternTree) (ts : List (Option Term)) (s : Store) (K : Store → Type 0) → ConsumePatterns e p sorts scale path ps ts s K
        → (r : Store) × K r × ((Q : Store → Type 0) → Q r → ConsumePatterns e p sorts scale path ps ts s Q)
    wanted_come path [] [] s K h = (s, h, (λ Q q. q))
    wanted_come path [] (t ∷ ts) s K h = absurd h
    wanted_come path (Is x ∷ ps) [] s K h = absurd h
    wanted_come path (Is x ∷ ps) (None ∷ ts) s K h = absurd h
    wanted_come path (Is x ∷ ps) (Some t ∷ ts) s K h = let r = wanted_come path ps ts s K h.2 in (r.0, r.1, (λ Q q. (h.0, h.1, r.2 Q q)))
    wanted_come path (Names x ∷ ps) [] s K h = absurd h
    wanted_come path (Names x ∷ ps) (None ∷ ts) s K h = absurd h
    wanted_come path (Names x ∷ ps) (Some t ∷ ts) s K h = let r = wanted_come path ps ts _ K h.2 in (r.0, r.1, (λ Q q. (h.0, h.1, r.2 Q q)))
    wanted_come path (Wild ∷ ps) [] s K h = absurd h
    wanted_come path (Wild ∷ ps) (t ∷ ts) s K h = wanted_come path ps ts s K h

    taken_comes : (share : ShareTree) (s : Store) (path : List Fact) (cs : List SymbolicChunk) (K : SymbolicChunk → List SymbolicChunk → Store → Type 0) → ConsumeShare e p sorts scale share s path cs K
        → (c : SymbolicChunk) × (ds : List SymbolicChunk) × (r : Store) × K c ds r × ((Q : SymbolicChunk → List SymbolicChunk → Store → Type 0) → Q c ds r → ConsumeShare e p sorts scale share s path cs Q)
    taken_comes (Times d ys) s path cs K (bound, (c, ds, takes, k)) = (c, ds, s, k, (λ Q q. (bound, (c, ds, takes, q))))
    taken_comes (Taken x) s path cs K (c, ds, t, removes, quotient, unbound, facts, k) = (c, ds, _, k, (λ Q q. (c, ds, t, removes, quotient, unbound, facts, q)))

    mutual
      pub consume_comes : (a : Assertion) (s : Store) (st : SymbolicState) (K : Store → SymbolicState → Type 0) → Consume e p sorts scale a s st K → Inv st.path → Comes (Consume e p sorts scale a s st) K
      consume_comes (Pure x) s st K h i = let r = comes_once s st K h.2 i in (r.0, r.1, (λ Q q. (h.0, h.1, r.2 Q q)))
      consume_comes Empty s st K h i = comes_once s st K h i
      consume_comes (Both a b) s st K h i =
          comes_then (Consume e p sorts scale a s st) (λ s1 st1. Consume e p sorts scale b s1 st1) K (consume_comes a s st (λ s1 st1. Consume e p sorts scale b s1 st1 K) h i) (λ s1 st1 k j. consume_comes b s1 st1 K k j)
      consume_comes (Choose x a b) s st K h i =
          let left = comes_given st (Holds (term_of s x)) (λ su. Consume e p sorts scale a s su) K h.1 i (λ su k j. consume_comes a s su K k j) in
          let right = comes_given st (Holds (Not (term_of s x))) (λ su. Consume e p sorts scale b s su) K h.2 i (λ su k j. consume_comes b s su K k j) in
          let r = comes_both (λ Q. Given e p sorts scale st (Holds (term_of s x)) (λ su. Consume e p sorts scale a s su Q)) (λ Q. Given e p sorts scale st (Holds (Not (term_of s x))) (λ su. Consume e p sorts scale b s su Q)) K left right in
          (r.0, r.1, (λ Q q. let d = r.2 Q q in (h.0, d.0, d.1)))
      consume_comes (Switch x branches) s st K h i = let r = cases_come branches (term_of s x) s st K h.2 i in (r.0, r.1, (λ Q q. (h.0, h.1, r.2 Q q)))
      consume_comes (Cell share pointer f x) s st K (bound, (st1, changes, k)) i =
          let c = taken_comes share s st1.path st1.chunks _ k in
          let inner = (c.3).1 in
          let w = wanted_come st1.path (x ∷ []) (inner.1 ∷ []) c.2 _ inner.4 in
          let last = comes_once w.0 (with_chunks st1 c.1) K w.1 (changes_longer changes i) in
          (last.0, last.1, (λ Q q. (bound, (st1, changes, c.4 _ ((c.3).0, (inner.0, inner.1, inner.2, inner.3, w.2 _ (last.2 Q q)))))))
      consume_comes (Chunk share head xs) s st K (bound, (st1, changes, k)) i =
          let c = taken_comes share s st1.path st1.chunks _ k in
          let w = wanted_come st1.path xs (c.0).arguments c.2 _ (c.3).1 in
          let last = comes_once w.0 (with_chunks st1 c.1) K w.1 (changes_longer changes i) in
          (last.0, last.1, (λ Q q. (bound, (st1, changes, c.4 _ ((c.3).0, w.2 _ (last.2 Q q))))))

      cases_come : (bs : Branches) (u : Term) (s : Store) (st : SymbolicState) (K : Store → SymbolicState → Type 0) → ConsumeBranches e p sorts scale bs u s st K → Inv st.path → Comes (ConsumeBranches e p sorts scale bs u s st) K
      cases_come no_branches u s st K h i = ([], (λ r su k. absurd k), (λ Q q. tt))
      cases_come (branch c xs a rest) u s st K h i =
          let r = patterns_come NoArgumentSort 0 (map (λ x. Names x) xs) s st (Some u ∷ []) _ h.0 i in
          let fact = Holds (Compare Equal u (Construct c (in_row (known (drop 1 r.0))))) in
          let here = comes_given r.2 fact (λ su. Consume e p sorts scale a r.1 su) K r.3 r.4 (λ su k j. consume_comes a r.1 su K k j) in
          let both = comes_both (λ Q. Given e p sorts scale r.2 fact (λ su. Consume e p sorts scale a r.1 su Q)) (ConsumeBranches e p sorts scale rest u s st) K here (cases_come rest u s st K h.1 i) in
          (both.0, both.1, (λ Q q. let d = both.2 Q q in (r.5 _ d.0, d.1)))
