-- Which assertions are refused, by which rule and at which place: the first fault in the order of the text, what stands in an expression before what stands around it.
use Rattle.std.specs.Prelude.{ℕ, List, Option}
use Rattle.vf_base.specs.declared.place.Place.{Place}
use Rattle.vf_base.specs.declared.refusal.Refusal.{Refusal}
use Rattle.vf_sorts.specs.Unknowns.{Known}
use Rattle.vf_declared.specs.declared.scope.Scope.{Scope}
use Rattle.vf_syntax.specs.declared.pattern.CasePattern.{CasePattern}
use Rattle.vf_syntax.specs.declared.pattern.Pattern.{Pattern}
use Rattle.vf_syntax.specs.declared.pattern.Share.{Share}
use Rattle.vf_syntax.specs.declared.written.Name.{Name}
use Rattle.vf_syntax.specs.GhostExprTree.{GhostExprTree}
use Rattle.vf_syntax.specs.AssertionTree.{PartTree, PartTrees, more_part, AssertionCaseTree, AssertionCaseTrees, more_assertion_case}
use Rattle.vf_syntax.specs.AssertionTree as tree
use Rattle.vf_sorting.specs.declared.context.Context.{Context}
use Rattle.vf_sorting.specs.HasSort.{Passes}
use Rattle.vf_sorting.specs.IsRefused.{Fails}
use Rattle.vf_sorting.specs.Kinds.{bool_sort}
use Rattle.vf_sorting.specs.Operators.{place_of}
use Rattle.vf_binding.specs.declared.bound.Bound.{Bound}
use Rattle.vf_binding.specs.Bound.{no_names, with_names}
use Rattle.vf_binding.specs.Chunks.{CellFails, ChunkFails}
use Rattle.vf_asserting.specs.Cases.{NamesBind, NamesFail, names_or_none}
use Rattle.vf_asserting.specs.Switches.{SwitchFails, Switches, case_sorts}
use Rattle.vf_asserting.specs.Gives.{BranchGives, CaseGives, PartGives}

mutual
  -- a part is refused
  pub data PartFails (c : Context) : Scope → Known → PartTree → Refusal → Type 0 where
    test : {s : Scope} {k : Known} {p : Place} {e : GhostExprTree} {xs ys : PartTrees} {r : Refusal} → Fails s c k bool_sort (place_of e) e r → PartFails c s k (tree.conditional p e xs ys) r
    first_branch : {s : Scope} {k k₁ : Known} {p : Place} {e : GhostExprTree} {xs ys : PartTrees} {r : Refusal} → Passes s c k bool_sort (place_of e) e k₁ → AnyPartFails c s k₁ xs r → PartFails c s k (tree.conditional p e xs ys) r
    second_branch : {s s₁ : Scope} {k k₁ k₂ : Known} {p : Place} {e : GhostExprTree} {xs ys : PartTrees} {r : Refusal} → Passes s c k bool_sort (place_of e) e k₁ → BranchGives c s k₁ xs s₁ k₂ → AnyPartFails c s₁ k₂ ys r → PartFails c s k (tree.conditional p e xs ys) r
    switch_ : {s : Scope} {k : Known} {p : Place} {e : GhostExprTree} {cs : AssertionCaseTrees} {r : Refusal} → SwitchFails s c k e cs r → PartFails c s k (tree.switch_ p e cs) r
    a_case : {s : Scope} {k k₁ : Known} {p : Place} {e : GhostExprTree} {cs : AssertionCaseTrees} {first n : ℕ} {r : Refusal} → Switches s c k e cs first n k₁ → AnyCaseFails c s first n k₁ cs r → PartFails c s k (tree.switch_ p e cs) r
    cell : {s : Scope} {k : Known} {p : Place} {h : Option Share} {e : GhostExprTree} {f : Name} {x : Pattern} {r : Refusal} → CellFails s c k no_names h e f x r → PartFails c s k (tree.cell p h e f x) r
    chunk : {s : Scope} {k : Known} {p : Place} {h : Option Share} {n : Name} {xs : List Pattern} {ys : Option (List Pattern)} {r : Refusal} → ChunkFails s c k no_names h n xs ys r → PartFails c s k (tree.chunk p h n xs ys) r
    pure : {s : Scope} {k : Known} {p : Place} {e : GhostExprTree} {r : Refusal} → Fails s c k bool_sort (place_of e) e r → PartFails c s k (tree.pure p e) r
    group : {s : Scope} {k : Known} {p : Place} {xs : PartTrees} {r : Refusal} → AnyPartFails c s k xs r → PartFails c s k (tree.group p xs) r

  -- the first of some parts that is refused
  pub data AnyPartFails (c : Context) : Scope → Known → PartTrees → Refusal → Type 0 where
    this_part : {s : Scope} {k : Known} {x : PartTree} {xs : PartTrees} {r : Refusal} → PartFails c s k x r → AnyPartFails c s k (more_part x xs) r
    later_part : {s s₁ : Scope} {k k₁ : Known} {x : PartTree} {xs : PartTrees} {r : Refusal} → PartGives c s k x s₁ k₁ → AnyPartFails c s₁ k₁ xs r → AnyPartFails c s k (more_part x xs) r

  -- a case is refused: one of its names may not be bound, or its assertion is refused
  pub data CaseFails (c : Context) : Scope → ℕ → ℕ → Known → AssertionCaseTree → Refusal → Type 0 where
    name_ : {s : Scope} {first n : ℕ} {k : Known} {p : Place} {x : CasePattern} {xs : PartTrees} {r : Refusal} → NamesFail s (names_or_none x.names) (case_sorts s first n x) x.constructor.place r → CaseFails c s first n k (tree.assertion_case p x xs) r
    body : {s : Scope} {first n : ℕ} {k : Known} {b : Bound} {p : Place} {x : CasePattern} {xs : PartTrees} {r : Refusal} → NamesBind s no_names (names_or_none x.names) (case_sorts s first n x) b → AnyPartFails c (with_names s b) k xs r → CaseFails c s first n k (tree.assertion_case p x xs) r

  -- the first of some cases that is refused
  pub data AnyCaseFails (c : Context) : Scope → ℕ → ℕ → Known → AssertionCaseTrees → Refusal → Type 0 where
    this_case : {s : Scope} {first n : ℕ} {k : Known} {x : AssertionCaseTree} {xs : AssertionCaseTrees} {r : Refusal} → CaseFails c s first n k x r → AnyCaseFails c s first n k (more_assertion_case x xs) r
    later_case : {s s₁ : Scope} {first n : ℕ} {k k₁ : Known} {x : AssertionCaseTree} {xs : AssertionCaseTrees} {r : Refusal} → CaseGives c s first n k x s₁ k₁ → AnyCaseFails c s₁ first n k₁ xs r → AnyCaseFails c s first n k (more_assertion_case x xs) r
