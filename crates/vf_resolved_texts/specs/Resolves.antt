-- What ghost commands come to where they are sorted and resolved, one after another: their resolved trees, or the first refusal of their sorting.
use Rattle.std.specs.Prelude.{ℕ, List, [], ◌∷◌}
use Rattle.std.specs.declared.result.Result.{Result}
use Rattle.vf_base.specs.declared.refusal.Refusal.{Refusal}
use Rattle.vf_base.specs.declared.refusal.RuleFault.{RuleFault}
use Rattle.vf_sorts.specs.Unknowns.{Known}
use Rattle.vf_declared.specs.declared.scope.Scope.{Scope}
use Rattle.vf_syntax.specs.GhostCommandTree.{GhostCommandTree}
use Rattle.vf_sorting.specs.Answers.{Answers}
use Rattle.vf_asserting.specs.Leaving.{count, left}
use Rattle.vf_commands.specs.declared.around.Around.{Around}
use Rattle.vf_commands.specs.Gives.{CommandGives}
use Rattle.vf_commands.specs.IsRefused.{CommandFails}
use Rattle.vf_resolved.specs.CommandTree.{CommandTree}
use Rattle.vf_resolving.specs.Standings.{Standing}
use Rattle.vf_resolved_contracts.specs.Reading.{around_with}
use Rattle.vf_resolved_commands.specs.Commands.{CommandResolved, CommandsResolved, command_in_front, command_resolved}

-- what is declared is another, and no unknown sort is used yet
abbrev pub anew : Scope → Standing → Standing
anew t s = record { scope = t; terms = s.terms; sorts = s.sorts; next = 0 }

-- what is known of unknown sorts behind a command, whose names are gone
pub data CommandKnows (w : Around) (x : GhostCommandTree) (s : Scope) : Known → Scope → Type 0 where
  knows : {s' : Scope} {k : Known} → CommandGives w s [] x s' k → CommandKnows w x s k (left (count s) s')

-- a command is resolved with it
pub data CommandResolves (w : Around) (paths : List (List ℕ)) (x : GhostCommandTree) (s : Standing) : CommandResolved → Type 0 where
  resolves : {t : Scope} {k : Known} → CommandKnows w x s.scope k t → CommandResolves w paths x s (command_resolved (around_with w.context k paths) w.parameters (anew t s) x)

-- commands are resolved, one after another
pub data CommandsResolve (w : Around) (paths : List (List ℕ)) : List GhostCommandTree → Standing → CommandsResolved → Type 0 where
  no_commands : {s : Standing} → CommandsResolve w paths [] s (record { commands = []; standing = s })
  more_commands : {x : GhostCommandTree} {xs : List GhostCommandTree} {s : Standing} {y : CommandResolved} {ys : CommandsResolved} → CommandResolves w paths x s y → CommandsResolve w paths xs y.standing ys → CommandsResolve w paths (x ∷ xs) s (command_in_front y ys)

-- the first of some commands that is refused
pub data AnyCommandStops (w : Around) (paths : List (List ℕ)) : List GhostCommandTree → Standing → Refusal → Type 0 where
  this_command : {x : GhostCommandTree} {xs : List GhostCommandTree} {s : Standing} {r : Refusal} → CommandFails w s.scope [] x r → AnyCommandStops w paths (x ∷ xs) s r
  later_command : {x : GhostCommandTree} {xs : List GhostCommandTree} {s : Standing} {y : CommandResolved} {r : Refusal} → CommandResolves w paths x s y → AnyCommandStops w paths xs y.standing r → AnyCommandStops w paths (x ∷ xs) s r

-- an answer for what is known behind a command
pub record IsCommandKnown (w : Around) (x : GhostCommandTree) (s : Scope) (r : Result Known RuleFault) (t : Scope) : Type 0 where
  pub answers : Answers (λ k. CommandKnows w x s k t) (CommandFails w s [] x) r

-- an answer for a command is its resolved tree, or its refusal
pub record IsCommandTold (w : Around) (paths : List (List ℕ)) (x : GhostCommandTree) (s : Standing) (r : Result CommandTree RuleFault) (t : Standing) : Type 0 where
  pub answers : Answers (λ y. CommandResolves w paths x s (record { command = y; standing = t })) (CommandFails w s.scope [] x) r

-- an answer for commands
pub record AreCommandsTold (w : Around) (paths : List (List ℕ)) (xs : List GhostCommandTree) (s : Standing) (r : Result (List CommandTree) RuleFault) (t : Standing) : Type 0 where
  pub answers : Answers (λ ys. CommandsResolve w paths xs s (record { commands = ys; standing = t })) (AnyCommandStops w paths xs s) r
