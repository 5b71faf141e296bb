-- Assertions are resolved as parts that have the sorts that they take.
use Rattle.std.proofs.Common.{◌≡◌, ℕ, suc, ◌+◌, List, [], ◌∷◌, ◌++◌, length, Option, Some, refl, sym, subst, ap, ◌∙◌}
use Rattle.std.specs.Prelude.{Bool, false, map}
use Rattle.vf_base.specs.declared.place.Place.{Place}
use Rattle.vf_sorts.specs.Sorts.{Sort}
use Rattle.vf_sorts.specs.Unknowns.{AgreesAsTold, Known, settling}
use Rattle.vf_declared.specs.declared.scope.Scope.{Scope}
use Rattle.vf_syntax.specs.AssertionTree.{AssertionCaseTree, AssertionCaseTrees, PartTree, PartTrees, assertion_case, more_assertion_case, more_part, no_assertion_case, no_part}
use Rattle.vf_syntax.specs.AssertionTree as tree
use Rattle.vf_syntax.specs.declared.pattern.CasePattern.{CasePattern}
use Rattle.vf_syntax.specs.declared.pattern.Factor.{Factor}
use Rattle.vf_syntax.specs.declared.pattern.Pattern.{Pattern}
use Rattle.vf_syntax.specs.declared.pattern.Share.{Share}
use Rattle.vf_syntax.specs.declared.written.Name as written
use Rattle.vf_syntax.specs.GhostExprTree.{GhostExprTree}
use Rattle.vf_sorting.specs.declared.context.Context.{Context}
use Rattle.vf_sorting.specs.HasSort.{Passes}
use Rattle.vf_sorting.specs.Kinds.{bool_sort}
use Rattle.vf_binding.specs.declared.bound.Bound.{Bound}
use Rattle.vf_binding.specs.Bound.{no_names, with_names}
use Rattle.vf_binding.specs.Chunks.{ArgumentsBind, CellBinds, ChunkBinds, TruthPasses}
use Rattle.vf_binding.specs.Chunks as binding
use Rattle.vf_binding.specs.Patterns.{AllBind, Binds}
use Rattle.vf_binding.specs.Patterns as bindings
use Rattle.vf_binding.specs.Shares.{AmountPasses, SharePasses}
use Rattle.vf_binding.specs.Shares as sharing
use Rattle.vf_asserting.specs.Cases.{names_or_none}
use Rattle.vf_asserting.specs.Gives.{BranchGives, CaseGives, CasesGive, Gives, PartGives}
use Rattle.vf_asserting.specs.Gives as giving
use Rattle.vf_asserting.specs.Leaving.{count, left}
use Rattle.vf_asserting.specs.Switches.{Switches, case_sorts, parameters_of, switches}
use Rattle.vf_terms.specs.Readings.{read}
use Rattle.vf_resolved.specs.Apart.{as_term}
use Rattle.vf_resolved.specs.AssertionTree.{branch_list, part_list}
use Rattle.vf_resolved_parts.specs.Parts.{PartRead, cell_read, chunk_read}
use Rattle.vf_resolved_parts.specs.Truths.{truth}
use Rattle.vf_resolved_parts.specs.declared.progress.Progress.{Progress}
use Rattle.vf_resolving.specs.Assertions.{case_resolved, cases_resolved, part_resolved, parts_resolved, within_case}
use Rattle.vf_resolving.specs.Cases.{case_names, switched}
use Rattle.vf_resolving.specs.Standings.{Around, Standing, behind, counting, declaring, known_sort, leaving, setting_at}
use Rattle.vf_resolving.specs.declared.cases.Switched.{Switched}
use Rattle.vf_resolved_laws.specs.Assertions.{AreCasesLevelled, AreDecided, ArePartsLevelled, CasesAreDecided, IsPartLevelled, NumbersHaveSorts, PartIsDecided, Stands}
use Rattle.vf_resolved_laws.specs.Given.{GivesSorts}
use Rattle.vf_resolved_laws.specs.Heads.{Vocabulary, vocabulary_of}
use Rattle.vf_resolved_laws.specs.Laws.{AssertionsKeepSorts, PartFollows, progress_at}
use Rattle.vf_resolved_laws.specs.Levels.{IsLevelled}
use Rattle.vf_resolved_laws.specs.Parts.{BranchesHaveSorts, ChunkIsDecided, LaterHaveSorts, NamesFit, PartHasSorts, PartsHaveSorts}
use Rattle.vf_resolved_laws.specs.Parts as sorted
use Rattle.vf_resolved_laws.specs.Terms.{TermHasSort}
use Rattle.vf_resolved_laws.proofs.Before.{before, before_fresh, before_pass}
use Rattle.vf_resolved_laws.proofs.Chunks.{cells_keep_sorts, chunks_keep_sorts}
use Rattle.vf_resolved_laws.proofs.Places.{behind_sorts, behind_stands, counting_stands, fewer_numbers, leaving_stands, numbers_follow, sorts_are}
use Rattle.vf_resolved_laws.proofs.Reading.{expressions_keep_sorts}
use Rattle.vf_resolved_laws.proofs.Switching.{HaveNumbers, IsOver, case_fits, first_number, names_are, names_long, switch_over}
use Rattle.vf_resolved_laws.proofs.Telling.{truths_are_read}

-- ---- as many names are bound as sorts
longer : {A : Type 0} (xs : List A) (x : A) → length (xs ++ x ∷ []) ≡ suc (length xs)
longer [] x = refl
longer (y ∷ xs) x = ap suc (longer xs x)

module _ {s : Scope} {c : Context} where
  binds_long : {k k' : Known} {b b' : Bound} {t : Sort} {x : Pattern} → Binds s c k b t x k' b' → length b.names ≡ length b.sorts → length b'.names ≡ length b'.sorts
  binds_long (bindings.Binds.value p) e = e
  binds_long {b = b} {t = t} (bindings.Binds.named {n = n} free) e = longer b.names n.text ∙ ap suc e ∙ sym (longer b.sorts t)
  binds_long bindings.Binds.anything e = e

  all_long : {k k' : Known} {b b' : Bound} {ts : List Sort} {xs : List Pattern} → AllBind s c k b ts xs k' b' → length b.names ≡ length b.sorts → length b'.names ≡ length b'.sorts
  all_long bindings.AllBind.none_bind e = e
  all_long (bindings.AllBind.one_binds x xs) e = all_long xs (binds_long x e)

  amount_long : {k k' : Known} {b b' : Bound} {x : Rattle.vf_syntax.specs.declared.pattern.Amount.Amount} → AmountPasses s c k b x k' b' → length b.names ≡ length b.sorts → length b'.names ≡ length b'.sorts
  amount_long {b = b} (sharing.AmountPasses.bound {n = n} free) e = longer b.names n.text ∙ ap suc e ∙ sym (longer b.sorts sharing.fraction_sort)
  amount_long (sharing.AmountPasses.product first rest) e = e

  share_long : {k k' : Known} {b b' : Bound} {h : Option Share} → SharePasses s c k b h k' b' → length b.names ≡ length b.sorts → length b'.names ≡ length b'.sorts
  share_long sharing.SharePasses.whole e = e
  share_long (sharing.SharePasses.part amount) e = amount_long amount e

  arguments_long : {k k' : Known} {b b' : Bound} {t : Rattle.vf_binding.specs.declared.chunk_sorts.ChunkSorts.ChunkSorts} {xs : List Pattern} {ys : Option (List Pattern)} → ArgumentsBind s c k b t xs ys k' b' → length b.names ≡ length b.sorts → length b'.names ≡ length b'.sorts
  arguments_long (binding.ArgumentsBind.one_pair all) e = all_long all e
  arguments_long (binding.ArgumentsBind.two_pairs heads all) e = all_long all e

  chunk_long : {k k' : Known} {b b' : Bound} {h : Option Share} {n : written.Name} {xs : List Pattern} {ys : Option (List Pattern)} → ChunkBinds s c k b h n xs ys k' b' → length b.names ≡ length b.sorts → length b'.names ≡ length b'.sorts
  chunk_long (binding.ChunkBinds.chunk share takes below arguments) e = arguments_long arguments (share_long share e)
  chunk_long (binding.ChunkBinds.truth share takes passes) e = share_long share e

  cell_long : {k k' : Known} {b b' : Bound} {h : Option Share} {e : GhostExprTree} {f : written.Name} {x : Pattern} → CellBinds s c k b h e f x k' b' → length b.names ≡ length b.sorts → length b'.names ≡ length b'.sorts
  cell_long (binding.CellBinds.cell share has told field content) e = binds_long content (share_long share e)

-- ---- what is known in front of a part
module _ (c : Context) (f : Rattle.vf_sorts.specs.Unknowns.Filling) where
  abbrev Agreeing : Known → Type 0
  Agreeing k = AgreesAsTold f k

  module _ {s : Scope} where
    back_binds : {k k' : Known} {b b' : Bound} {t : Sort} {x : Pattern} → Binds s c k b t x k' b' → Agreeing k' → Agreeing k
    back_binds (bindings.Binds.value p) a = before_pass s c f p a
    back_binds (bindings.Binds.named free) a = a
    back_binds bindings.Binds.anything a = a

    back_all : {k k' : Known} {b b' : Bound} {ts : List Sort} {xs : List Pattern} → AllBind s c k b ts xs k' b' → Agreeing k' → Agreeing k
    back_all bindings.AllBind.none_bind a = a
    back_all (bindings.AllBind.one_binds x xs) a = back_binds x (back_all xs a)

    back_heads : {k k' : Known} {ts : List Sort} {xs : List Pattern} → bindings.HeadsPass s c k ts xs k' → Agreeing k' → Agreeing k
    back_heads bindings.HeadsPass.none_pass a = a
    back_heads (bindings.HeadsPass.one_passes (bindings.HeadPasses.value p) xs) a = before_pass s c f p (back_heads xs a)

    back_factor : {k k' : Known} {d : Bool} {x : Factor} → sharing.FactorPasses s c k d x k' → Agreeing k' → Agreeing k
    back_factor (sharing.FactorPasses.number is) a = a
    back_factor (sharing.FactorPasses.named p) a = before_pass s c f p a

    back_links : {k k' : Known} {ls : List Rattle.vf_syntax.specs.declared.pattern.FactorLink.FactorLink} → sharing.LinksPass s c k ls k' → Agreeing k' → Agreeing k
    back_links sharing.LinksPass.none_pass a = a
    back_links (sharing.LinksPass.one_passes l ls) a = back_factor l (back_links ls a)

    back_amount : {k k' : Known} {b b' : Bound} {x : Rattle.vf_syntax.specs.declared.pattern.Amount.Amount} → AmountPasses s c k b x k' b' → Agreeing k' → Agreeing k
    back_amount (sharing.AmountPasses.bound free) a = a
    back_amount (sharing.AmountPasses.product first rest) a = back_factor first (back_links rest a)

    back_share : {k k' : Known} {b b' : Bound} {h : Option Share} → SharePasses s c k b h k' b' → Agreeing k' → Agreeing k
    back_share sharing.SharePasses.whole a = a
    back_share (sharing.SharePasses.part amount) a = back_amount amount a

    back_arguments : {k k' : Known} {b b' : Bound} {t : Rattle.vf_binding.specs.declared.chunk_sorts.ChunkSorts.ChunkSorts} {xs : List Pattern} {ys : Option (List Pattern)} → ArgumentsBind s c k b t xs ys k' b' → Agreeing k' → Agreeing k
    back_arguments (binding.ArgumentsBind.one_pair all) a = back_all all a
    back_arguments (binding.ArgumentsBind.two_pairs heads all) a = back_heads heads (back_all all a)

    back_chunk : {k k' : Known} {b b' : Bound} {h : Option Share} {n : written.Name} {xs : List Pattern} {ys : Option (List Pattern)} → ChunkBinds s c k b h n xs ys k' b' → Agreeing k' → Agreeing k
    back_chunk (binding.ChunkBinds.chunk share takes below arguments) a = back_share share (back_arguments arguments a)
    back_chunk (binding.ChunkBinds.truth share takes (binding.TruthPasses.truth known plain p)) a = back_share share (before_pass s c f p a)

    back_cell : {k k' : Known} {b b' : Bound} {h : Option Share} {e : GhostExprTree} {g : written.Name} {x : Pattern} → CellBinds s c k b h e g x k' b' → Agreeing k' → Agreeing k
    back_cell (binding.CellBinds.cell share has told field content) a = back_share share (before s c f has (back_binds content a))

    back_switch : {k k' : Known} {e : GhostExprTree} {cs : AssertionCaseTrees} {first n : ℕ} → Switches s c k e cs first n k' → Agreeing k' → Agreeing k
    back_switch (switches {k₁} {d} has is_one all equates) a = before s c f has (before_fresh f k₁ (parameters_of s d) (equates.kept f a))

  mutual
    back_part : {s s' : Scope} {k k' : Known} {x : PartTree} → PartGives c s k x s' k' → Agreeing k' → Agreeing k
    back_part {s} (giving.PartGives.conditional test xs ys) a = before_pass s c f test (back_branch xs (back_branch ys a))
    back_part (giving.PartGives.switch_ over cs) a = back_switch over (back_cases cs a)
    back_part (giving.PartGives.cell binds) a = back_cell binds a
    back_part (giving.PartGives.chunk binds) a = back_chunk binds a
    back_part giving.PartGives.empty_ a = a
    back_part {s} (giving.PartGives.pure passes) a = before_pass s c f passes a
    back_part (giving.PartGives.group xs) a = back_parts xs a

    back_branch : {s s' : Scope} {k k' : Known} {xs : PartTrees} → BranchGives c s k xs s' k' → Agreeing k' → Agreeing k
    back_branch (giving.BranchGives.branch xs) a = back_parts xs a

    back_parts : {s s' : Scope} {k k' : Known} {xs : PartTrees} → Gives c s k xs s' k' → Agreeing k' → Agreeing k
    back_parts giving.Gives.no_parts a = a
    back_parts (giving.Gives.more_parts x xs) a = back_part x (back_parts xs a)

    back_case : {s s' : Scope} {first n : ℕ} {k k' : Known} {x : AssertionCaseTree} → CaseGives c s first n k x s' k' → Agreeing k' → Agreeing k
    back_case (giving.CaseGives.a_case names xs) a = back_parts xs a

    back_cases : {s s' : Scope} {first n : ℕ} {k k' : Known} {xs : AssertionCaseTrees} → CasesGive c s first n k xs s' k' → Agreeing k' → Agreeing k
    back_cases giving.CasesGive.no_cases a = a
    back_cases (giving.CasesGive.more_cases x xs) a = back_case x (back_cases xs a)

-- ---- names that are numbered stay so
module _ (d : Vocabulary) (a : Around) where
  fewer_behind : (g : Progress) (y : Standing) → NumbersHaveSorts d (behind a g y).sorts → NumbersHaveSorts d y.sorts
  fewer_behind g y h = fewer_numbers d y.sorts (map (known_sort a) g.bound.sorts) (subst (NumbersHaveSorts d) (ap (λ (z : Standing). z.sorts) (sorts_are a g.bound.sorts (declaring g.bound y))) h)

  mutual
    fewer_part : (x : PartTree) (y : Standing) → NumbersHaveSorts d (part_resolved a y x).standing.sorts → NumbersHaveSorts d y.sorts
    fewer_part (tree.conditional p e xs zs) y h =
        let t = truth (setting_at a y) y.next e in
        let first = leaving (count y.scope) (parts_resolved a (counting t.next y) xs).standing in
        fewer_parts xs (counting t.next y) (fewer_parts zs first h)
    fewer_part (tree.switch_ p e cs) y h =
        let w = switched y.scope (read (setting_at a y) false y.next e) in
        fewer_cases cs w (counting (w.first + w.count) y) h
    fewer_part (tree.cell p q e f x) y h = fewer_behind (cell_read (setting_at a y) (length y.sorts) (record { bound = no_names; next = y.next }) p q e f x).progress y h
    fewer_part (tree.chunk p q n xs ys) y h = fewer_behind (chunk_read (setting_at a y) (length y.sorts) (record { bound = no_names; next = y.next }) p q n xs ys).progress y h
    fewer_part (tree.empty_ p) y h = h
    fewer_part (tree.pure p e) y h = h
    fewer_part (tree.group p xs) y h = fewer_parts xs y h

    fewer_parts : (xs : PartTrees) (y : Standing) → NumbersHaveSorts d (parts_resolved a y xs).standing.sorts → NumbersHaveSorts d y.sorts
    fewer_parts no_part y h = h
    fewer_parts (more_part x xs) y h = fewer_part x y (fewer_parts xs (part_resolved a y x).standing h)

    fewer_case : (x : AssertionCaseTree) (w : Switched) (y : Standing) → NumbersHaveSorts d (case_resolved a w y x).standing.sorts → NumbersHaveSorts d y.sorts
    fewer_case (assertion_case p x xs) w y h = fewer_behind (record { bound = case_names y.scope w x; next = y.next }) y (fewer_parts xs (within_case a w x y) h)

    fewer_cases : (xs : AssertionCaseTrees) (w : Switched) (y : Standing) → NumbersHaveSorts d (cases_resolved a w y xs).standing.sorts → NumbersHaveSorts d y.sorts
    fewer_cases no_assertion_case w y h = h
    fewer_cases (more_assertion_case x xs) w y h = fewer_case x w y (fewer_cases xs w (case_resolved a w y x).standing h)

-- ---- parts
module _ (d : Vocabulary) (a : Around) (laters : LaterHaveSorts d.scope) where
  abbrev Agrees : Known → Type 0
  Agrees k = AgreesAsTold (settling a.known) k

  -- what is declared in the setting of a place
  abbrev V : Standing → Vocabulary
  V y = vocabulary_of (setting_at a y) d.names

  given : {y : Standing} {s : Scope} {k : Known} → Stands d a y s k → GivesSorts (V y) (setting_at a y)
  given {y} st = subst (λ w. GivesSorts w (setting_at a y)) (sym st.vocabulary) st.gives

  -- a truth value
  truth_at : {y : Standing} {s : Scope} {k k' : Known} {q : Place} {e : GhostExprTree} → Stands d a y s k → Passes s a.context k bool_sort q e k' → Agrees k' → IsLevelled e
      → TermHasSort d (as_term (truth (setting_at a y) y.next e).truth) bool_sort × ((truth (setting_at a y) y.next e).next ≡ length k')
  truth_at {y} {s} {k} {k'} {q} {e} st p agrees on =
      let here = subst (λ w. Passes w a.context k bool_sort q e k') (sym st.scope) p in
      let t = truths_are_read (setting_at a y) d.names (given st) k k' q e here agrees on in
      let r = (expressions_keep_sorts (setting_at a y) d.names (given st)).passed k k' bool_sort q e here agrees in
      subst (λ u. TermHasSort d (as_term (truth (setting_at a y) u e).truth) bool_sort × ((truth (setting_at a y) u e).next ≡ length k')) (sym st.next)
      (subst (λ w. TermHasSort w (as_term (truth (setting_at a y) (length k) e).truth) bool_sort) st.vocabulary t.has_sort, t.next ∙ r.next)

  -- a chunk or a cell, behind which its names are declared
  told_at : {y : Standing} {s : Scope} {k k' : Known} {b : Bound} (r : PartRead) → Stands d a y s k → PartFollows (V y) (setting_at a y) (length y.sorts) r k' b → length b.names ≡ length b.sorts → NumbersHaveSorts d (behind a r.progress y).sorts
      → PartHasSorts d r.part × Stands d a (behind a r.progress y) (with_names s b) k'
  told_at {y} {s} {k} {k'} {b} r st follows long h =
      let all = subst (NumbersHaveSorts d) (ap (λ (g : Progress). (behind a g y).sorts) follows.progress ∙ behind_sorts a b k' y) h in
      (subst (λ w. PartHasSorts w r.part) st.vocabulary (follows.has_sorts (record { each = numbers_follow d a y b all })), subst (λ (g : Progress). Stands d a (behind a g y) (with_names s b) k') (sym follows.progress) (behind_stands d a b k' long all st))

  cell_at : {y : Standing} {s : Scope} {k k' : Known} {b : Bound} {h : Option Share} {e : GhostExprTree} {f : written.Name} {x : Pattern} (p : Place) → Stands d a y s k → CellBinds s a.context k no_names h e f x k' b → Agrees k'
      → PartFollows (V y) (setting_at a y) (length y.sorts) (cell_read (setting_at a y) (length y.sorts) (record { bound = no_names; next = y.next }) p h e f x) k' b
  cell_at {y} {s} {k} {k'} {b} {h} {e} {f} {x} p st binds agrees =
      subst (λ u. PartFollows (V y) (setting_at a y) (length y.sorts) (cell_read (setting_at a y) (length y.sorts) (record { bound = no_names; next = u }) p h e f x) k' b) (sym st.next)
      (cells_keep_sorts (setting_at a y) d.names (length y.sorts) (given st) k k' no_names b p h e f x (subst (λ w. CellBinds w a.context k no_names h e f x k' b) (sym st.scope) binds) agrees)

  chunk_at : {y : Standing} {s : Scope} {k k' : Known} {b : Bound} {h : Option Share} {n : written.Name} {xs : List Pattern} {ys : Option (List Pattern)} (p : Place) → Stands d a y s k → (binds : ChunkBinds s a.context k no_names h n xs ys k' b) → ChunkIsDecided a.known binds → Agrees k'
      → PartFollows (V y) (setting_at a y) (length y.sorts) (chunk_read (setting_at a y) (length y.sorts) (record { bound = no_names; next = y.next }) p h n xs ys) k' b
  chunk_at {y} {s} {k} {k'} {b} {h} {n} {xs} {ys} p st binds decided agrees =
      subst (λ u. PartFollows (V y) (setting_at a y) (length y.sorts) (chunk_read (setting_at a y) (length y.sorts) (record { bound = no_names; next = u }) p h n xs ys) k' b) (sym st.next)
      (subst (λ w. (c : ChunkBinds w a.context k no_names h n xs ys k' b) → ChunkIsDecided a.known c → PartFollows (V y) (setting_at a y) (length y.sorts) (chunk_read (setting_at a y) (length y.sorts) (progress_at no_names k) p h n xs ys) k' b) st.scope
      (λ c same. chunks_keep_sorts (setting_at a y) d.names (length y.sorts) (given st) (subst (λ (w : Vocabulary). LaterHaveSorts w.scope) (sym st.vocabulary) laters) k k' no_names b p h n xs ys c same agrees) binds decided)

  switch_at : {y : Standing} {s : Scope} {k k' : Known} {e : GhostExprTree} {cs : AssertionCaseTrees} {first n : ℕ} → Stands d a y s k → Switches s a.context k e cs first n k' → Agrees k' → IsOver d a y e cs first n k'
  switch_at {y} {s} {k} {k'} {e} {cs} {first} {n} st over agrees = switch_over d a y st (given st) (subst (λ w. Switches w a.context k e cs first n k') (sym st.scope) over) agrees

  -- behind a branch the names of the branch are gone
  left_at : {y z : Standing} {s s' : Scope} {k k' : Known} → Stands d a y s k → Stands d a z s' k' → Stands d a (leaving (count y.scope) z) (left (count s) s') k'
  left_at {y} {z} {s} {s'} {k} {k'} here there = subst (λ n. Stands d a (leaving (count y.scope) z) (left n s') k') (ap count here.scope) (leaving_stands d a (count y.scope) there)

  -- what stands in a case
  module _ {y : Standing} {s : Scope} {k : Known} (st : Stands d a y s k) (w : Switched) (first n : ℕ) (first_is : w.first ≡ first) (count_is : w.count ≡ n) (x : CasePattern) (b : Bound)
      (binds : Rattle.vf_asserting.specs.Cases.NamesBind s no_names (names_or_none x.names) (case_sorts s first n x) b) where
    bound_is : b ≡ case_names y.scope w x
    bound_is = names_are s no_names b (names_or_none x.names) (case_sorts s first n x) binds ∙ (λ i. record { names = map (λ (m : written.Name). m.text) (names_or_none x.names); sorts = case_sorts (sym st.scope i) (sym first_is i) (sym count_is i) x })

    case_all : NumbersHaveSorts d (within_case a w x y).sorts → NumbersHaveSorts d (y.sorts ++ map (known_sort a) b.sorts)
    case_all h = subst (NumbersHaveSorts d) (ap (λ (g : Progress). (behind a g y).sorts) (λ i. record { bound = sym bound_is i; next = st.next i }) ∙ behind_sorts a b k y) h

    within_stands : NumbersHaveSorts d (within_case a w x y).sorts → Stands d a (within_case a w x y) (with_names s b) k
    within_stands h =
        subst (λ (g : Progress). Stands d a (behind a g y) (with_names s b) k) (λ i. record { bound = bound_is i; next = sym st.next i })
        (behind_stands d a b k (names_long s no_names b (names_or_none x.names) (case_sorts s first n x) binds refl) (case_all h) st)

    names_fit : (dt : ℕ) (m : ℕ) → n ≡ parameters_of y.scope dt → Rattle.vf_asserting.specs.Cases.case_number y.scope dt x ≡ Some m → NumbersHaveSorts d (within_case a w x y).sorts
        → NamesFit d (Rattle.vf_resolving.specs.Cases.constructor_identity y.scope a.paths x.constructor) (Rattle.vf_resolving.specs.Standings.slots_for a (length y.sorts) (case_names y.scope w x).sorts)
    names_fit dt m parameters is h =
        let sorts_is : case_sorts y.scope w.first (parameters_of y.scope dt) x ≡ b.sorts = ap (λ j. case_sorts y.scope w.first j x) (sym parameters ∙ sym count_is) ∙ ap (λ (c : Bound). c.sorts) (sym bound_is) in
        let follow = numbers_follow d a y b (case_all h) in
        let fit = case_fits a y d.names x dt w.first m is (subst (λ (ts : List Sort). Rattle.vf_resolved_laws.proofs.Switching.NumbersFollow (V y) a (length y.sorts) ts) (sym sorts_is) follow) in
        subst (λ v. NamesFit v (Rattle.vf_resolving.specs.Cases.constructor_identity y.scope a.paths x.constructor) (Rattle.vf_resolving.specs.Standings.slots_for a (length y.sorts) (case_names y.scope w x).sorts)) st.vocabulary
        (subst (λ (ts : List Sort). NamesFit (V y) (Rattle.vf_resolving.specs.Cases.constructor_identity y.scope a.paths x.constructor) (Rattle.vf_resolving.specs.Standings.slots_for a (length y.sorts) ts)) (sorts_is ∙ ap (λ (c : Bound). c.sorts) bound_is) fit)

  mutual
    part_follows : {s s' : Scope} {k k' : Known} {x : PartTree} (g : PartGives a.context s k x s' k') → Agrees k' → PartIsDecided a.known g → IsPartLevelled x → (y : Standing) → Stands d a y s k → NumbersHaveSorts d (part_resolved a y x).standing.sorts
        → PartHasSorts d (part_resolved a y x).part × Stands d a (part_resolved a y x).standing s' k'
    part_follows (giving.PartGives.conditional {e} {xs} {ys} test (giving.BranchGives.branch gx) (giving.BranchGives.branch gy)) agrees decided on y st h =
        let middle = back_parts a.context (settling a.known) gy agrees in
        let t = truth_at st test (back_parts a.context (settling a.known) gx middle) on.0 in
        let y₁ = counting (truth (setting_at a y) y.next e).next y in
        let st₁ = counting_stands d a (truth (setting_at a y) y.next e).next t.1 st in
        let y₂ = leaving (count y.scope) (parts_resolved a y₁ xs).standing in
        let first = parts_follow gx middle decided.0 on.1 y₁ st₁ (fewer_parts d a ys y₂ h) in
        let st₂ = left_at st first.1 in
        let second = parts_follow gy agrees decided.1 on.2 y₂ st₂ h in
        (sorted.PartHasSorts.conditional t.0 first.0 second.0, left_at st₂ second.1)
    part_follows (giving.PartGives.switch_ {k₁} {e} {cs} {first} {n} over gs) agrees decided on y st h =
        let o = switch_at st over (back_cases a.context (settling a.known) gs agrees) in
        let w = switched y.scope (read (setting_at a y) false y.next e) in
        let st₁ = counting_stands d a (w.first + w.count) o.behind st in
        let all = cases_follow gs agrees decided on (counting (w.first + w.count) y) st₁ w o.first_is o.count_is o.datatype o.parameters o.numbers h in
        (sorted.PartHasSorts.switch_ {n = o.datatype} {ts = o.parts} o.has_sort all.0, all.1)
    part_follows (giving.PartGives.cell {p} {h = q} {e} {f} {x} binds) agrees decided on y st h =
        told_at (cell_read (setting_at a y) (length y.sorts) (record { bound = no_names; next = y.next }) p q e f x) st (cell_at p st binds agrees) (cell_long binds refl) h
    part_follows (giving.PartGives.chunk {p} {h = q} {n} {xs} {ys} binds) agrees decided on y st h =
        told_at (chunk_read (setting_at a y) (length y.sorts) (record { bound = no_names; next = y.next }) p q n xs ys) st (chunk_at p st binds decided agrees) (chunk_long binds refl) h
    part_follows giving.PartGives.empty_ agrees decided on y st h = (sorted.PartHasSorts.empty_, st)
    part_follows (giving.PartGives.pure {e} passes) agrees decided on y st h =
        let t = truth_at st passes agrees on in
        (sorted.PartHasSorts.pure t.0, counting_stands d a (truth (setting_at a y) y.next e).next t.1 st)
    part_follows (giving.PartGives.group gx) agrees decided on y st h =
        let all = parts_follow gx agrees decided on y st h in
        (sorted.PartHasSorts.group all.0, all.1)

    parts_follow : {s s' : Scope} {k k' : Known} {xs : PartTrees} (g : Gives a.context s k xs s' k') → Agrees k' → AreDecided a.known g → ArePartsLevelled xs → (y : Standing) → Stands d a y s k → NumbersHaveSorts d (parts_resolved a y xs).standing.sorts
        → PartsHaveSorts d (part_list (parts_resolved a y xs).parts) × Stands d a (parts_resolved a y xs).standing s' k'
    parts_follow giving.Gives.no_parts agrees decided on y st h = (sorted.PartsHaveSorts.no_parts, st)
    parts_follow (giving.Gives.more_parts {x} {xs} gx gs) agrees decided on y st h =
        let first = part_follows gx (back_parts a.context (settling a.known) gs agrees) decided.0 on.0 y st (fewer_parts d a xs (part_resolved a y x).standing h) in
        let rest = parts_follow gs agrees decided.1 on.1 (part_resolved a y x).standing first.1 h in
        (sorted.PartsHaveSorts.more_parts first.0 rest.0, rest.1)

    cases_follow : {s s' : Scope} {first n : ℕ} {k k' : Known} {cs : AssertionCaseTrees} (g : CasesGive a.context s first n k cs s' k') → Agrees k' → CasesAreDecided a.known g → AreCasesLevelled cs → (y : Standing) → Stands d a y s k
        → (w : Switched) → w.first ≡ first → w.count ≡ n → (dt : ℕ) → n ≡ parameters_of y.scope dt → HaveNumbers y.scope dt cs → NumbersHaveSorts d (cases_resolved a w y cs).standing.sorts
        → BranchesHaveSorts d (branch_list (cases_resolved a w y cs).branches) × Stands d a (cases_resolved a w y cs).standing s' k'
    cases_follow giving.CasesGive.no_cases agrees decided on y st w first_is count_is dt parameters numbers h = (sorted.BranchesHaveSorts.no_branches, st)
    cases_follow (giving.CasesGive.more_cases {first} {n} {x = assertion_case p x xs} {xs = cs} (giving.CaseGives.a_case {b} names gx) gs) agrees decided on y st w first_is count_is dt parameters numbers h =
        let z = case_resolved a w y (assertion_case p x xs) in
        let here = fewer_cases d a cs w z.standing h in
        let inner = fewer_parts d a xs (within_case a w x y) here in
        let one = first_number y.scope dt (assertion_case p x xs) cs numbers in
        let parts = parts_follow gx (back_cases a.context (settling a.known) gs agrees) decided.0 on.0 (within_case a w x y) (within_stands st w first n first_is count_is x b names inner) here in
        let behind_it = left_at st parts.1 in
        let same_level = ap (λ (v : Vocabulary). v.scope) (st.vocabulary ∙ sym behind_it.vocabulary) in
        let level : HaveNumbers (V y).scope dt cs = record { numbers = one.others.numbers; are = one.others.are } in
        let next_level : HaveNumbers (V z.standing).scope dt cs = subst (λ q. HaveNumbers q dt cs) same_level level in
        let rest = cases_follow gs agrees decided.1 on.1 z.standing behind_it w first_is count_is dt (parameters ∙ ap (λ q. parameters_of q dt) same_level) (record { numbers = next_level.numbers; are = next_level.are }) h in
        (sorted.BranchesHaveSorts.more_branches (names_fit st w first n first_is count_is x b names dt one.number parameters one.is inner) parts.0 rest.0, rest.1)

-- assertions keep sorts
pub assertions_keep_sorts : AssertionsKeepSorts
assertions_keep_sorts d a y s then_s known then_known xs st laters gives agrees decided on h =
    let all = parts_follow d a laters gives agrees decided on y st h in
    record { have_sorts = all.0; stands = all.1 }
