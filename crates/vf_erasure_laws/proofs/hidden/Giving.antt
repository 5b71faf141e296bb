-- A relation between scopes that is kept holds wherever assertions, contracts and ghost commands declare something.
use Rattle.std.proofs.Common.{refl, ℕ}
use Rattle.vf_sorts.specs.Unknowns.{Known}
use Rattle.vf_declared.specs.declared.scope.Scope.{Scope}
use Rattle.vf_syntax.specs.declared.contract.Contract.{Contract}
use Rattle.vf_syntax.specs.AssertionTree.{AssertionCaseTree, AssertionCaseTrees, PartTree, PartTrees}
use Rattle.vf_syntax.specs.GhostCommandTree.{CommandCaseTree, CommandCaseTrees, GhostCommandTree, GhostCommandTrees}
use Rattle.vf_sorting.specs.declared.context.Context.{Context}
use Rattle.vf_asserting.specs.Gives as gives
use Rattle.vf_contracts.specs.Comes as contracts
use Rattle.vf_commands.specs.declared.around.Around.{Around}
use Rattle.vf_commands.specs.Gives as commands
use Rattle.vf_erasure_laws.proofs.hidden.Adding.{IsKept}
use Rattle.vf_erasure_laws.proofs.hidden.Binding.{cell, chunk, names, opened}

-- ---- assertions
mutual
  part : {P : Scope → Scope → Type 0} → IsKept P → {c : Context} {s s' : Scope} {k k' : Known} {x : PartTree} → gives.PartGives c s k x s' k' → P s s'
  part h (gives.conditional e a b) = h.both (branch h a) (branch h b)
  part h (gives.switch_ w xs) = case_parts h xs
  part h (gives.cell {s = s} {b = b} x) = h.named s b (cell x refl)
  part h (gives.chunk {s = s} {b = b} x) = h.named s b (chunk x refl)
  part h (gives.empty_ {s = s}) = h.same s
  part h (gives.pure {s = s} e) = h.same s
  part h (gives.group xs) = parts h xs

  branch : {P : Scope → Scope → Type 0} → IsKept P → {c : Context} {s s' : Scope} {k k' : Known} {xs : PartTrees} → gives.BranchGives c s k xs s' k' → P s s'
  branch h (gives.branch xs) = h.gone (parts h xs)

  pub parts : {P : Scope → Scope → Type 0} → IsKept P → {c : Context} {s s' : Scope} {k k' : Known} {xs : PartTrees} → gives.Gives c s k xs s' k' → P s s'
  parts h (gives.no_parts {s = s}) = h.same s
  parts h (gives.more_parts x xs) = h.both (part h x) (parts h xs)

  case_part : {P : Scope → Scope → Type 0} → IsKept P → {c : Context} {s s' : Scope} {first n : ℕ} {k k' : Known} {x : AssertionCaseTree} → gives.CaseGives c s first n k x s' k' → P s s'
  case_part h (gives.a_case {s = s} {b = b} n xs) = h.gone (h.both (h.named s b (names n refl)) (parts h xs))

  case_parts : {P : Scope → Scope → Type 0} → IsKept P → {c : Context} {s s' : Scope} {first n : ℕ} {k k' : Known} {xs : AssertionCaseTrees} → gives.CasesGive c s first n k xs s' k' → P s s'
  case_parts h (gives.no_cases {s = s}) = h.same s
  case_parts h (gives.more_cases x xs) = h.both (case_part h x) (case_parts h xs)

-- ---- contracts
pub contract : {P : Scope → Scope → Type 0} → IsKept P → {c d : Context} {x : Contract} {s s' : Scope} → contracts.ContractGives c d x s s' → P s s'
contract h (contracts.contract a b) = h.both (parts h a) (h.gone (parts h b))

-- ---- ghost commands
mutual
  pub command : {P : Scope → Scope → Type 0} → IsKept P → {w : Around} {s s' : Scope} {k k' : Known} {x : GhostCommandTree} → commands.CommandGives w s k x s' k' → P s s'
  command h (commands.open_ {s = s} {b = b} o) = h.named s b (opened o)
  command h (commands.close_ {s = s} c) = h.same s
  command h (commands.leak_ xs) = parts h xs
  command h (commands.assert_ xs) = parts h xs
  command h (commands.declaration {s = s} {n = n} {t = t} d) = h.one s n.text t
  command h (commands.assignment {s = s} a) = h.same s
  command h (commands.call_ {s = s} c) = h.same s
  command h (commands.if_ e xs) = block h xs
  command h (commands.if_else e xs ys) = h.both (block h xs) (block h ys)
  command h (commands.switch_ w xs) = case_commands h xs
  command h (commands.block xs) = block h xs

  block : {P : Scope → Scope → Type 0} → IsKept P → {w : Around} {s s' : Scope} {k k' : Known} {xs : GhostCommandTrees} → commands.BlockGives w s k xs s' k' → P s s'
  block h (commands.a_block xs) = h.gone (all_commands h xs)

  all_commands : {P : Scope → Scope → Type 0} → IsKept P → {w : Around} {s s' : Scope} {k k' : Known} {xs : GhostCommandTrees} → commands.CommandsGive w s k xs s' k' → P s s'
  all_commands h (commands.no_commands {s = s}) = h.same s
  all_commands h (commands.more_commands x xs) = h.both (command h x) (all_commands h xs)

  case_command : {P : Scope → Scope → Type 0} → IsKept P → {w : Around} {s s' : Scope} {first n : ℕ} {k k' : Known} {x : CommandCaseTree} → commands.CaseGives w s first n k x s' k' → P s s'
  case_command h (commands.a_case {s = s} {b = b} n xs) = h.gone (h.both (h.named s b (names n refl)) (all_commands h xs))

  case_commands : {P : Scope → Scope → Type 0} → IsKept P → {w : Around} {s s' : Scope} {first n : ℕ} {k k' : Known} {xs : CommandCaseTrees} → commands.CasesGive w s first n k xs s' k' → P s s'
  case_commands h (commands.no_cases {s = s}) = h.same s
  case_commands h (commands.more_cases x xs) = h.both (case_command h x) (case_commands h xs)
