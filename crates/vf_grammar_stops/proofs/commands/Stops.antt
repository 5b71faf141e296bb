-- Where a token is refused, one is refused in all tokens that begin alike, and no ghost command could go on.
use Rattle.std.proofs.Common.{◌≡◌, ℕ, ◌+◌, false, List, Some, Err, sym, ◌∙◌, arith}
use Rattle.vf_lexer.specs.declared.token.Token.{Token}
use Rattle.vf_syntax.specs.declared.keyword.Keyword.TheVariants.{Else}
use Rattle.vf_syntax.specs.declared.side.Side.TheVariants.{Ghost}
use Rattle.vf_syntax.specs.declared.item.GhostBody.{GhostBody}
use Rattle.vf_syntax.specs.GhostCommandTree.{GhostCommandTree}
use Rattle.vf_syntax.specs.Walks.{head_has, is_word}
use Rattle.vf_syntax.specs.Commands.{command}
use Rattle.vf_syntax.specs.Units.{ghost_body}
use Rattle.vf_cursor.specs.declared.fault.Fault.TheVariants.{Syntax}
use Rattle.vf_parse_command.specs.Commands.{command_at, body_at}
use Rattle.vf_parse_command.specs.Laws.{command_depth, body_depth}
use Rattle.vf_grammar_read.proofs.commands.CommandsFull.{command_full, body_full}
use Rattle.vf_grammar_stops.specs.types.Stops.{BeginsUpTo}
use Rattle.vf_grammar_stops.proofs.types.Local.{stops_too}
use Rattle.vf_grammar_stops.proofs.terms.Stops.{apart}
use Rattle.vf_grammar_stops.proofs.assertions.Stops.{refuses_alike}
use Rattle.vf_grammar_stops.specs.commands.Laws.{CommandsRefuseAlike, GhostBodiesRefuseAlike}
use Rattle.vf_grammar_stops.proofs.commands.CommandsAlike.{command_like, body_like}

pub commands_refuse : CommandsRefuseAlike
commands_refuse d m ts other n le e begins = refuses_alike command_at command_like d m ts other n le e begins

pub ghost_bodies_refuse : GhostBodiesRefuseAlike
ghost_bodies_refuse d m ts other n le e begins = refuses_alike body_at body_like d m ts other n le e begins

pub commands_stop : (d : ℕ) (ts other rest : List Token) (n : ℕ) (x : GhostCommandTree) → command_at d ts ≡ Err (Syntax n) → BeginsUpTo ts n other → command x other ≡ Some rest → head_has (is_word Ghost Else) rest ≡ false → ⊥
commands_stop d ts other rest n x e begins h none =
    let m = d + command_depth x in
    let stop = stops_too {b = false} (command_like d m (omega arith)) (Syntax n) tt ts other e begins in
    let read = command_full m x other rest h (omega arith) none in
    apart x rest stop.0 (sym read ∙ stop.1)

pub ghost_bodies_stop : (d : ℕ) (ts other rest : List Token) (n : ℕ) (x : GhostBody) → body_at d ts ≡ Err (Syntax n) → BeginsUpTo ts n other → ghost_body x other ≡ Some rest → ⊥
ghost_bodies_stop d ts other rest n x e begins h =
    let m = d + body_depth x in
    let stop = stops_too {b = false} (body_like d m (omega arith)) (Syntax n) tt ts other e begins in
    let read = body_full m x other rest h (omega arith) in
    apart x rest stop.0 (sym read ∙ stop.1)
