-- What assertions declare behind them, by one rule for each form: from a scope and what is known of unknown sorts to the scope and what is known then.
use Rattle.std.specs.Prelude.{ℕ, List, Option}
use Rattle.vf_base.specs.declared.place.Place.{Place}
use Rattle.vf_sorts.specs.Unknowns.{Known}
use Rattle.vf_declared.specs.declared.scope.Scope.{Scope}
use Rattle.vf_syntax.specs.declared.pattern.CasePattern.{CasePattern}
use Rattle.vf_syntax.specs.declared.pattern.Pattern.{Pattern}
use Rattle.vf_syntax.specs.declared.pattern.Share.{Share}
use Rattle.vf_syntax.specs.declared.written.Name.{Name}
use Rattle.vf_syntax.specs.GhostExprTree.{GhostExprTree}
use Rattle.vf_syntax.specs.AssertionTree.{PartTree, PartTrees, no_part, more_part, AssertionCaseTree, AssertionCaseTrees, no_assertion_case, more_assertion_case}
use Rattle.vf_syntax.specs.AssertionTree as tree
use Rattle.vf_sorting.specs.declared.context.Context.{Context}
use Rattle.vf_sorting.specs.HasSort.{Passes}
use Rattle.vf_sorting.specs.Kinds.{bool_sort}
use Rattle.vf_sorting.specs.Operators.{place_of}
use Rattle.vf_binding.specs.declared.bound.Bound.{Bound}
use Rattle.vf_binding.specs.Bound.{no_names, with_names}
use Rattle.vf_binding.specs.Chunks.{CellBinds, ChunkBinds}
use Rattle.vf_asserting.specs.Leaving.{count, left}
use Rattle.vf_asserting.specs.Cases.{NamesBind, names_or_none}
use Rattle.vf_asserting.specs.Switches.{Switches, case_sorts}

mutual
  -- a part declares what its patterns bind, which is visible behind the part
  pub data PartGives (c : Context) : Scope → Known → PartTree → Scope → Known → Type 0 where
    conditional : {s s₁ s' : Scope} {k k₁ k₂ k' : Known} {p : Place} {e : GhostExprTree} {xs ys : PartTrees} → Passes s c k bool_sort (place_of e) e k₁ → BranchGives c s k₁ xs s₁ k₂ → BranchGives c s₁ k₂ ys s' k' → PartGives c s k (tree.conditional p e xs ys) s' k'
    switch_ : {s s' : Scope} {k k₁ k' : Known} {p : Place} {e : GhostExprTree} {cs : AssertionCaseTrees} {first n : ℕ} → Switches s c k e cs first n k₁ → CasesGive c s first n k₁ cs s' k' → PartGives c s k (tree.switch_ p e cs) s' k'
    cell : {s : Scope} {k k' : Known} {b : Bound} {p : Place} {h : Option Share} {e : GhostExprTree} {f : Name} {x : Pattern} → CellBinds s c k no_names h e f x k' b → PartGives c s k (tree.cell p h e f x) (with_names s b) k'
    chunk : {s : Scope} {k k' : Known} {b : Bound} {p : Place} {h : Option Share} {n : Name} {xs : List Pattern} {ys : Option (List Pattern)} → ChunkBinds s c k no_names h n xs ys k' b → PartGives c s k (tree.chunk p h n xs ys) (with_names s b) k'
    empty_ : {s : Scope} {k : Known} {p : Place} → PartGives c s k (tree.empty_ p) s k
    pure : {s : Scope} {k k' : Known} {p : Place} {e : GhostExprTree} → Passes s c k bool_sort (place_of e) e k' → PartGives c s k (tree.pure p e) s k'
    group : {s s' : Scope} {k k' : Known} {p : Place} {xs : PartTrees} → Gives c s k xs s' k' → PartGives c s k (tree.group p xs) s' k'

  -- what the assertion of a branch declares is gone behind it
  pub data BranchGives (c : Context) : Scope → Known → PartTrees → Scope → Known → Type 0 where
    branch : {s s' : Scope} {k k' : Known} {xs : PartTrees} → Gives c s k xs s' k' → BranchGives c s k xs (left (count s) s') k'

  -- parts declare what each of them does, from left to right
  pub data Gives (c : Context) : Scope → Known → PartTrees → Scope → Known → Type 0 where
    no_parts : {s : Scope} {k : Known} → Gives c s k no_part s k
    more_parts : {s s₁ s' : Scope} {k k₁ k' : Known} {x : PartTree} {xs : PartTrees} → PartGives c s k x s₁ k₁ → Gives c s₁ k₁ xs s' k' → Gives c s k (more_part x xs) s' k'

  -- a case has names for the arguments of its constructor, which are visible in it alone, where unknown sorts from a number on stand for so many type parameters
  pub data CaseGives (c : Context) : Scope → ℕ → ℕ → Known → AssertionCaseTree → Scope → Known → Type 0 where
    a_case : {s s' : Scope} {first n : ℕ} {k k' : Known} {b : Bound} {p : Place} {x : CasePattern} {xs : PartTrees} → NamesBind s no_names (names_or_none x.names) (case_sorts s first n x) b → Gives c (with_names s b) k xs s' k' → CaseGives c s first n k (tree.assertion_case p x xs) (left (count s) s') k'

  -- the same of cases, from the first to the last
  pub data CasesGive (c : Context) : Scope → ℕ → ℕ → Known → AssertionCaseTrees → Scope → Known → Type 0 where
    no_cases : {s : Scope} {first n : ℕ} {k : Known} → CasesGive c s first n k no_assertion_case s k
    more_cases : {s s₁ s' : Scope} {first n : ℕ} {k k₁ k' : Known} {x : AssertionCaseTree} {xs : AssertionCaseTrees} → CaseGives c s first n k x s₁ k₁ → CasesGive c s₁ first n k₁ xs s' k' → CasesGive c s first n k (more_assertion_case x xs) s' k'
