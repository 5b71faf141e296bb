-- Which ghost commands are refused, by which rule and at which place: the first fault in the order of the text, what stands in an expression before what stands around it.
use Rattle.std.specs.Prelude.{ℕ, List, Option}
use Rattle.vf_base.specs.declared.place.Place.{Place}
use Rattle.vf_base.specs.declared.refusal.Refusal.{Refusal}
use Rattle.vf_sorts.specs.Unknowns.{Known}
use Rattle.vf_declared.specs.declared.scope.Scope.{Scope}
use Rattle.vf_syntax.specs.declared.pattern.CasePattern.{CasePattern}
use Rattle.vf_syntax.specs.declared.pattern.Pattern.{Pattern}
use Rattle.vf_syntax.specs.declared.pattern.Share.{Share}
use Rattle.vf_syntax.specs.declared.written.Name.{Name}
use Rattle.vf_syntax.specs.GhostExprTree.{GhostExprTree, ghost_expr_list}
use Rattle.vf_syntax.specs.AssertionTree.{PartTree, part_list}
use Rattle.vf_syntax.specs.SortTree.{SortTree}
use Rattle.vf_syntax.specs.GhostCommandTree.{GhostCommandTree, GhostCommandTrees, more_ghost_command, CommandCaseTree, CommandCaseTrees, more_command_case}
use Rattle.vf_syntax.specs.GhostCommandTree as tree
use Rattle.vf_sorting.specs.HasSort.{Passes}
use Rattle.vf_sorting.specs.IsRefused.{Fails}
use Rattle.vf_sorting.specs.Kinds.{bool_sort}
use Rattle.vf_sorting.specs.Operators.{place_of}
use Rattle.vf_binding.specs.declared.bound.Bound.{Bound}
use Rattle.vf_binding.specs.Bound.{no_names, with_names}
use Rattle.vf_asserting.specs.IsRefused.{AnyPartFails}
use Rattle.vf_asserting.specs.Cases.{NamesBind, NamesFail, names_or_none}
use Rattle.vf_asserting.specs.Switches.{case_sorts}
use Rattle.vf_commands.specs.declared.around.Around.{Around}
use Rattle.vf_commands.specs.Opening.{CloseFails, OpenFails}
use Rattle.vf_commands.specs.Locals.{AssignmentFails, DeclarationFails}
use Rattle.vf_commands.specs.Calls.{CallFails}
use Rattle.vf_commands.specs.Switches.{SwitchFails, Switches}
use Rattle.vf_commands.specs.Gives.{BlockGives, CaseGives, CommandGives}

mutual
  -- a ghost command is refused
  pub data CommandFails (w : Around) : Scope → Known → GhostCommandTree → Refusal → Type 0 where
    open_ : {s : Scope} {k : Known} {p : Place} {h : Option Share} {n : Name} {xs : List Pattern} {ys : Option (List Pattern)} {r : Refusal} → OpenFails s w.context k h n xs ys r → CommandFails w s k (tree.open_ p h n xs ys) r
    close_ : {s : Scope} {k : Known} {p : Place} {h : Option Share} {n : Name} {xs : List Pattern} {ys : Option (List Pattern)} {r : Refusal} → CloseFails s w.context k h n xs ys r → CommandFails w s k (tree.close_ p h n xs ys) r
    leak_ : {s : Scope} {k : Known} {p : Place} {a : List PartTree} {r : Refusal} → AnyPartFails w.context s k (part_list a) r → CommandFails w s k (tree.leak_ p a) r
    assert_ : {s : Scope} {k : Known} {p : Place} {a : List PartTree} {r : Refusal} → AnyPartFails w.context s k (part_list a) r → CommandFails w s k (tree.assert_ p a) r
    declaration : {s : Scope} {k : Known} {p : Place} {u : SortTree} {n : Name} {e : GhostExprTree} {r : Refusal} → DeclarationFails s w k u n e r → CommandFails w s k (tree.declaration p u n e) r
    assignment : {s : Scope} {k : Known} {p : Place} {x : List ℕ} {e : GhostExprTree} {r : Refusal} → AssignmentFails s w k p x e r → CommandFails w s k (tree.assignment p x e) r
    call_ : {s : Scope} {k : Known} {p : Place} {f : List ℕ} {xs : List GhostExprTree} {r : Refusal} → CallFails s w.context k p f (ghost_expr_list xs) r → CommandFails w s k (tree.call_ p f xs) r
    if_test : {s : Scope} {k : Known} {p : Place} {e : GhostExprTree} {xs : GhostCommandTrees} {r : Refusal} → Fails s w.context k bool_sort (place_of e) e r → CommandFails w s k (tree.if_ p e xs) r
    if_block : {s : Scope} {k k₁ : Known} {p : Place} {e : GhostExprTree} {xs : GhostCommandTrees} {r : Refusal} → Passes s w.context k bool_sort (place_of e) e k₁ → AnyCommandFails w s k₁ xs r → CommandFails w s k (tree.if_ p e xs) r
    test : {s : Scope} {k : Known} {p : Place} {e : GhostExprTree} {xs ys : GhostCommandTrees} {r : Refusal} → Fails s w.context k bool_sort (place_of e) e r → CommandFails w s k (tree.if_else p e xs ys) r
    first_block : {s : Scope} {k k₁ : Known} {p : Place} {e : GhostExprTree} {xs ys : GhostCommandTrees} {r : Refusal} → Passes s w.context k bool_sort (place_of e) e k₁ → AnyCommandFails w s k₁ xs r → CommandFails w s k (tree.if_else p e xs ys) r
    second_block : {s s₁ : Scope} {k k₁ k₂ : Known} {p : Place} {e : GhostExprTree} {xs ys : GhostCommandTrees} {r : Refusal} → Passes s w.context k bool_sort (place_of e) e k₁ → BlockGives w s k₁ xs s₁ k₂ → AnyCommandFails w s₁ k₂ ys r → CommandFails w s k (tree.if_else p e xs ys) r
    switch_ : {s : Scope} {k : Known} {p : Place} {e : GhostExprTree} {cs : CommandCaseTrees} {r : Refusal} → SwitchFails s w.context k e cs r → CommandFails w s k (tree.switch_ p e cs) r
    a_case : {s : Scope} {k k₁ : Known} {p : Place} {e : GhostExprTree} {cs : CommandCaseTrees} {first n : ℕ} {r : Refusal} → Switches s w.context k e cs first n k₁ → AnyCaseFails w s first n k₁ cs r → CommandFails w s k (tree.switch_ p e cs) r
    block : {s : Scope} {k : Known} {p : Place} {xs : GhostCommandTrees} {r : Refusal} → AnyCommandFails w s k xs r → CommandFails w s k (tree.block p xs) r

  -- the first of some commands that is refused
  pub data AnyCommandFails (w : Around) : Scope → Known → GhostCommandTrees → Refusal → Type 0 where
    this_command : {s : Scope} {k : Known} {x : GhostCommandTree} {xs : GhostCommandTrees} {r : Refusal} → CommandFails w s k x r → AnyCommandFails w s k (more_ghost_command x xs) r
    later_command : {s s₁ : Scope} {k k₁ : Known} {x : GhostCommandTree} {xs : GhostCommandTrees} {r : Refusal} → CommandGives w s k x s₁ k₁ → AnyCommandFails w s₁ k₁ xs r → AnyCommandFails w s k (more_ghost_command x xs) r

  -- a case is refused: one of its names may not be bound, or one of its commands is refused
  pub data CaseFails (w : Around) : Scope → ℕ → ℕ → Known → CommandCaseTree → Refusal → Type 0 where
    name_ : {s : Scope} {first n : ℕ} {k : Known} {p : Place} {x : CasePattern} {xs : GhostCommandTrees} {r : Refusal} → NamesFail s (names_or_none x.names) (case_sorts s first n x) x.constructor.place r → CaseFails w s first n k (tree.command_case p x xs) r
    body : {s : Scope} {first n : ℕ} {k : Known} {b : Bound} {p : Place} {x : CasePattern} {xs : GhostCommandTrees} {r : Refusal} → NamesBind s no_names (names_or_none x.names) (case_sorts s first n x) b → AnyCommandFails w (with_names s b) k xs r → CaseFails w s first n k (tree.command_case p x xs) r

  -- the first of some cases that is refused
  pub data AnyCaseFails (w : Around) : Scope → ℕ → ℕ → Known → CommandCaseTrees → Refusal → Type 0 where
    this_case : {s : Scope} {first n : ℕ} {k : Known} {x : CommandCaseTree} {xs : CommandCaseTrees} {r : Refusal} → CaseFails w s first n k x r → AnyCaseFails w s first n k (more_command_case x xs) r
    later_case : {s s₁ : Scope} {first n : ℕ} {k k₁ : Known} {x : CommandCaseTree} {xs : CommandCaseTrees} {r : Refusal} → CaseGives w s first n k x s₁ k₁ → AnyCaseFails w s₁ first n k₁ xs r → AnyCaseFails w s first n k (more_command_case x xs) r
