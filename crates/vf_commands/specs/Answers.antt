-- What the check of ghost commands answers.
use Rattle.std.specs.Prelude.{ℕ, ◌+◌, ◌<◌, ◌^◌, List, Option, Result}
use Rattle.vf_base.specs.declared.place.Place.{Place}
use Rattle.vf_base.specs.declared.refusal.RuleFault.{RuleFault}
use Rattle.vf_sorts.specs.Sorts.{Sort}
use Rattle.vf_sorts.specs.Unknowns.{Known}
use Rattle.vf_declared.specs.declared.scope.Scope.{Scope}
use Rattle.vf_syntax.specs.declared.pattern.Pattern.{Pattern}
use Rattle.vf_syntax.specs.declared.pattern.Share.{Share}
use Rattle.vf_syntax.specs.declared.written.Name.{Name}
use Rattle.vf_syntax.specs.GhostExprTree.{GhostExprTree, GhostExprTrees}
use Rattle.vf_syntax.specs.SortTree.{SortTree}
use Rattle.vf_syntax.specs.GhostCommandTree.{GhostCommandTree, GhostCommandTrees, CommandCaseTree, CommandCaseTrees}
use Rattle.vf_sorting.specs.declared.context.Context.{Context}
use Rattle.vf_sorting.specs.Answers.{Answers, Kept}
use Rattle.vf_binding.specs.declared.bound.Bound.{Bound}
use Rattle.vf_binding.specs.declared.chunk_sorts.ChunkSorts.{ChunkSorts}
use Rattle.vf_asserting.specs.declared.switches.Switched.{Switched}
use Rattle.vf_commands.specs.declared.around.Around.{Around}
use Rattle.vf_commands.specs.Opening.{CloseFails, ClosePasses, OpenBinds, OpenFails, ValuesFail, ValuesPass}
use Rattle.vf_commands.specs.Locals.{AssignmentFails, Assigns, DeclarationFails, Declares}
use Rattle.vf_commands.specs.Calls.{CallFails, CallPasses}
use Rattle.vf_commands.specs.Switches.{SwitchFails, Switches}
use Rattle.vf_commands.specs.Gives.{BlockGives, CaseGives, CasesGive, CommandGives, CommandsGive}
use Rattle.vf_commands.specs.IsRefused.{AnyCaseFails, AnyCommandFails, CaseFails, CommandFails}

-- an answer for `open` is what it binds, or its refusal
pub record IsOpened (s : Scope) (c : Context) (k : Known) (h : Option Share) (n : Name) (xs : List Pattern) (ys : Option (List Pattern)) (r : Result Bound RuleFault) (k' : Known) : Type 0 where
  pub answers : Answers (λ b. Kept (OpenBinds s c k h n xs ys k' b) k k') (OpenFails s c k h n xs ys) r

-- an answer for parentheses in which expressions alone may stand
pub record AreValues {A : Type 0} (s : Scope) (c : Context) (k : Known) (t : ChunkSorts) (g : Place) (xs : List Pattern) (ys : Option (List Pattern)) (r : Result A RuleFault) (k' : Known) : Type 0 where
  pub answers : Answers (λ a. Kept (ValuesPass s c k t xs ys k') k k') (ValuesFail s c k t g xs ys) r

-- an answer for `close`
pub record IsClosed {A : Type 0} (s : Scope) (c : Context) (k : Known) (h : Option Share) (n : Name) (xs : List Pattern) (ys : Option (List Pattern)) (r : Result A RuleFault) (k' : Known) : Type 0 where
  pub answers : Answers (λ a. Kept (ClosePasses s c k h n xs ys k') k k') (CloseFails s c k h n xs ys) r

-- an answer for a declaration is the sort of what is declared, or its refusal
pub record IsDeclared (s : Scope) (w : Around) (k : Known) (u : SortTree) (n : Name) (e : GhostExprTree) (r : Result Sort RuleFault) (k' : Known) : Type 0 where
  pub answers : Answers (λ t. Kept (Declares s w k u n e t k') k k') (DeclarationFails s w k u n e) r

-- an answer for an assignment
pub record IsAssigned {A : Type 0} (s : Scope) (w : Around) (k : Known) (p : Place) (x : List ℕ) (e : GhostExprTree) (r : Result A RuleFault) (k' : Known) : Type 0 where
  pub answers : Answers (λ a. Kept (Assigns s w k p x e k') k k') (AssignmentFails s w k p x e) r

-- an answer for a call
pub record IsCalled {A : Type 0} (s : Scope) (c : Context) (k : Known) (p : Place) (f : List ℕ) (xs : GhostExprTrees) (r : Result A RuleFault) (k' : Known) : Type 0 where
  pub answers : Answers (λ a. Kept (CallPasses s c k p f xs k') k k') (CallFails s c k p f xs) r

-- an answer for what stands in front of cases is which unknown sorts stand for type parameters in them, or a refusal
pub record IsSwitch (s : Scope) (c : Context) (k : Known) (e : GhostExprTree) (cs : CommandCaseTrees) (r : Result Switched RuleFault) (k' : Known) : Type 0 where
  pub answers : Answers (λ w. (w.first + w.count < 2 ^ 64) × Kept (Switches s c k e cs w.first w.count k') k k') (SwitchFails s c k e cs) r

-- an answer for a ghost command is what it declares and what is known then, or its refusal
pub record IsCommand {A : Type 0} (w : Around) (s : Scope) (k : Known) (x : GhostCommandTree) (r : Result A RuleFault) (s' : Scope) (k' : Known) : Type 0 where
  pub answers : Answers (λ a. Kept (CommandGives w s k x s' k') k k') (CommandFails w s k x) r

-- the same of commands, from the first to the last
pub record AreCommands {A : Type 0} (w : Around) (s : Scope) (k : Known) (xs : GhostCommandTrees) (r : Result A RuleFault) (s' : Scope) (k' : Known) : Type 0 where
  pub answers : Answers (λ a. Kept (CommandsGive w s k xs s' k') k k') (AnyCommandFails w s k xs) r

-- an answer for a block
pub record IsBlock {A : Type 0} (w : Around) (s : Scope) (k : Known) (xs : GhostCommandTrees) (r : Result A RuleFault) (s' : Scope) (k' : Known) : Type 0 where
  pub answers : Answers (λ a. Kept (BlockGives w s k xs s' k') k k') (AnyCommandFails w s k xs) r

-- an answer for a case, where unknown sorts from a number on stand for so many type parameters
pub record IsCase {A : Type 0} (w : Around) (s : Scope) (first n : ℕ) (k : Known) (x : CommandCaseTree) (r : Result A RuleFault) (s' : Scope) (k' : Known) : Type 0 where
  pub answers : Answers (λ a. Kept (CaseGives w s first n k x s' k') k k') (CaseFails w s first n k x) r

-- the same of cases, from the first to the last
pub record AreCases {A : Type 0} (w : Around) (s : Scope) (first n : ℕ) (k : Known) (xs : CommandCaseTrees) (r : Result A RuleFault) (s' : Scope) (k' : Known) : Type 0 where
  pub answers : Answers (λ a. Kept (CasesGive w s first n k xs s' k') k k') (AnyCaseFails w s first n k xs) r
