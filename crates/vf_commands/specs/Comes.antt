-- What ghost commands come to where nothing is known of unknown sorts in front of each: what is declared behind them, or the first refusal in the order of the text.
use Rattle.std.specs.Prelude.{true, false, [], None, Ok, Err}
use Rattle.vf_base.specs.declared.refusal.Refusal.{Refusal}
use Rattle.vf_sorts.specs.Unknowns.{Known}
use Rattle.vf_declared.specs.declared.scope.Scope.{Scope}
use Rattle.vf_syntax.specs.GhostCommandTree.{GhostCommandTree, GhostCommandTrees, no_ghost_command, more_ghost_command}
use Rattle.vf_walk.specs.Walking.{Only, Then, Walked}
use Rattle.vf_commands.specs.declared.around.Around.{Around}
use Rattle.vf_commands.specs.Gives.{CommandGives}
use Rattle.vf_commands.specs.IsRefused.{CommandFails}

-- around the ghost commands in the body of a function: `currentThread` may stand in them, and there are no type parameters
abbrev pub around_statements : Around
around_statements = record { context = record { «result» = None; has_this = false; has_thread = true; own = None }; parameters = [] }

-- a ghost command comes to what it declares or to its refusal
pub data CommandComes (w : Around) (x : GhostCommandTree) (s : Scope) : Walked → Type 0 where
  given : {s' : Scope} {k : Known} → CommandGives w s [] x s' k → CommandComes w x s (Ok s')
  refused : {r : Refusal} → CommandFails w s [] x r → CommandComes w x s (Err r)

-- the commands of the body of a lemma come to what each of them declares, one after another, or to the first refusal
abbrev pub BodyComes : Around → GhostCommandTrees → Scope → Walked → Type 0
BodyComes w no_ghost_command s = Only (Ok s)
BodyComes w (more_ghost_command x xs) s = Then (CommandComes w x s) (BodyComes w xs)
