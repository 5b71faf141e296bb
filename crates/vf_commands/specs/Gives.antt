-- What ghost commands declare behind them, by one rule for each form: from a scope and what is known of unknown sorts to the scope and what is known then.
use Rattle.std.specs.Prelude.{ℕ, List, Option}
use Rattle.vf_base.specs.declared.place.Place.{Place}
use Rattle.vf_sorts.specs.Sorts.{Sort}
use Rattle.vf_sorts.specs.Unknowns.{Known}
use Rattle.vf_declared.specs.declared.scope.Scope.{Scope}
use Rattle.vf_syntax.specs.declared.pattern.CasePattern.{CasePattern}
use Rattle.vf_syntax.specs.declared.pattern.Pattern.{Pattern}
use Rattle.vf_syntax.specs.declared.pattern.Share.{Share}
use Rattle.vf_syntax.specs.declared.written.Name.{Name}
use Rattle.vf_syntax.specs.GhostExprTree.{GhostExprTree, ghost_expr_list}
use Rattle.vf_syntax.specs.AssertionTree.{PartTree, part_list}
use Rattle.vf_syntax.specs.SortTree.{SortTree}
use Rattle.vf_syntax.specs.GhostCommandTree.{GhostCommandTree, GhostCommandTrees, no_ghost_command, more_ghost_command, CommandCaseTree, CommandCaseTrees, no_command_case, more_command_case}
use Rattle.vf_syntax.specs.GhostCommandTree as tree
use Rattle.vf_sorting.specs.HasSort.{Passes}
use Rattle.vf_sorting.specs.Kinds.{bool_sort}
use Rattle.vf_sorting.specs.Operators.{place_of}
use Rattle.vf_binding.specs.declared.bound.Bound.{Bound}
use Rattle.vf_binding.specs.Bound.{no_names, with_names}
use Rattle.vf_asserting.specs.Gives.{Gives}
use Rattle.vf_asserting.specs.Leaving.{count, left}
use Rattle.vf_asserting.specs.Cases.{NamesBind, names_or_none}
use Rattle.vf_asserting.specs.Switches.{case_sorts}
use Rattle.vf_commands.specs.declared.around.Around.{Around}
use Rattle.vf_commands.specs.Opening.{ClosePasses, OpenBinds}
use Rattle.vf_commands.specs.Locals.{Assigns, Declares, with_ghost}
use Rattle.vf_commands.specs.Calls.{CallPasses}
use Rattle.vf_commands.specs.Switches.{Switches}

mutual
  -- a ghost command declares what its patterns bind or its name, which is visible behind the command
  pub data CommandGives (w : Around) : Scope → Known → GhostCommandTree → Scope → Known → Type 0 where
    open_ : {s : Scope} {k k' : Known} {b : Bound} {p : Place} {h : Option Share} {n : Name} {xs : List Pattern} {ys : Option (List Pattern)} → OpenBinds s w.context k h n xs ys k' b → CommandGives w s k (tree.open_ p h n xs ys) (with_names s b) k'
    close_ : {s : Scope} {k k' : Known} {p : Place} {h : Option Share} {n : Name} {xs : List Pattern} {ys : Option (List Pattern)} → ClosePasses s w.context k h n xs ys k' → CommandGives w s k (tree.close_ p h n xs ys) s k'
    leak_ : {s s' : Scope} {k k' : Known} {p : Place} {a : List PartTree} → Gives w.context s k (part_list a) s' k' → CommandGives w s k (tree.leak_ p a) s' k'
    assert_ : {s s' : Scope} {k k' : Known} {p : Place} {a : List PartTree} → Gives w.context s k (part_list a) s' k' → CommandGives w s k (tree.assert_ p a) s' k'
    declaration : {s : Scope} {k k' : Known} {p : Place} {u : SortTree} {n : Name} {e : GhostExprTree} {t : Sort} → Declares s w k u n e t k' → CommandGives w s k (tree.declaration p u n e) (with_ghost s n.text t) k'
    assignment : {s : Scope} {k k' : Known} {p : Place} {x : List ℕ} {e : GhostExprTree} → Assigns s w k p x e k' → CommandGives w s k (tree.assignment p x e) s k'
    call_ : {s : Scope} {k k' : Known} {p : Place} {f : List ℕ} {xs : List GhostExprTree} → CallPasses s w.context k p f (ghost_expr_list xs) k' → CommandGives w s k (tree.call_ p f xs) s k'
    if_ : {s s' : Scope} {k k₁ k' : Known} {p : Place} {e : GhostExprTree} {xs : GhostCommandTrees} → Passes s w.context k bool_sort (place_of e) e k₁ → BlockGives w s k₁ xs s' k' → CommandGives w s k (tree.if_ p e xs) s' k'
    if_else : {s s₁ s' : Scope} {k k₁ k₂ k' : Known} {p : Place} {e : GhostExprTree} {xs ys : GhostCommandTrees} → Passes s w.context k bool_sort (place_of e) e k₁ → BlockGives w s k₁ xs s₁ k₂ → BlockGives w s₁ k₂ ys s' k' → CommandGives w s k (tree.if_else p e xs ys) s' k'
    switch_ : {s s' : Scope} {k k₁ k' : Known} {p : Place} {e : GhostExprTree} {cs : CommandCaseTrees} {first n : ℕ} → Switches s w.context k e cs first n k₁ → CasesGive w s first n k₁ cs s' k' → CommandGives w s k (tree.switch_ p e cs) s' k'
    block : {s s' : Scope} {k k' : Known} {p : Place} {xs : GhostCommandTrees} → BlockGives w s k xs s' k' → CommandGives w s k (tree.block p xs) s' k'

  -- what the commands of a block declare is gone behind it
  pub data BlockGives (w : Around) : Scope → Known → GhostCommandTrees → Scope → Known → Type 0 where
    a_block : {s s' : Scope} {k k' : Known} {xs : GhostCommandTrees} → CommandsGive w s k xs s' k' → BlockGives w s k xs (left (count s) s') k'

  -- commands declare what each of them does, from the first to the last
  pub data CommandsGive (w : Around) : Scope → Known → GhostCommandTrees → Scope → Known → Type 0 where
    no_commands : {s : Scope} {k : Known} → CommandsGive w s k no_ghost_command s k
    more_commands : {s s₁ s' : Scope} {k k₁ k' : Known} {x : GhostCommandTree} {xs : GhostCommandTrees} → CommandGives w s k x s₁ k₁ → CommandsGive w s₁ k₁ xs s' k' → CommandsGive w s k (more_ghost_command x xs) s' k'

  -- a case has names for the arguments of its constructor, which are visible in it alone, where unknown sorts from a number on stand for so many type parameters
  pub data CaseGives (w : Around) : Scope → ℕ → ℕ → Known → CommandCaseTree → Scope → Known → Type 0 where
    a_case : {s s' : Scope} {first n : ℕ} {k k' : Known} {b : Bound} {p : Place} {x : CasePattern} {xs : GhostCommandTrees} → NamesBind s no_names (names_or_none x.names) (case_sorts s first n x) b → CommandsGive w (with_names s b) k xs s' k' → CaseGives w s first n k (tree.command_case p x xs) (left (count s) s') k'

  -- the same of cases, from the first to the last
  pub data CasesGive (w : Around) : Scope → ℕ → ℕ → Known → CommandCaseTrees → Scope → Known → Type 0 where
    no_cases : {s : Scope} {first n : ℕ} {k : Known} → CasesGive w s first n k no_command_case s k
    more_cases : {s s₁ s' : Scope} {first n : ℕ} {k k₁ k' : Known} {x : CommandCaseTree} {xs : CommandCaseTrees} → CaseGives w s first n k x s₁ k₁ → CasesGive w s₁ first n k₁ xs s' k' → CasesGive w s first n k (more_command_case x xs) s' k'
