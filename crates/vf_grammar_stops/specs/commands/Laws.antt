-- Where a token is refused, one is refused in all tokens that begin alike.
use Rattle.std.specs.Prelude.{◌≡◌, ℕ, false, List, Some, Err}
use Rattle.vf_lexer.specs.declared.token.Token.{Token}
use Rattle.vf_syntax.specs.declared.keyword.Keyword.TheVariants.{Else}
use Rattle.vf_syntax.specs.declared.side.Side.TheVariants.{Ghost}
use Rattle.vf_syntax.specs.declared.item.GhostBody.{GhostBody}
use Rattle.vf_syntax.specs.GhostCommandTree.{GhostCommandTree}
use Rattle.vf_syntax.specs.Walks.{head_has, is_word}
use Rattle.vf_syntax.specs.Commands.{command}
use Rattle.vf_syntax.specs.Units.{ghost_body}
use Rattle.vf_cursor.specs.declared.fault.Fault.TheVariants.{Syntax}
use Rattle.vf_parse_command.specs.Commands.{command_at, body_at}
use Rattle.vf_grammar_stops.specs.types.Stops.{BeginsUpTo}
use Rattle.vf_grammar_stops.specs.assertions.Laws.{RefusesAlike}

-- where a token is refused in a ghost command, one is refused in all tokens that are alike up to it, also where more may nest
abbrev pub CommandsRefuseAlike : Type 0
CommandsRefuseAlike = RefusesAlike command_at

-- the same of the body of a lemma
abbrev pub GhostBodiesRefuseAlike : Type 0
GhostBodiesRefuseAlike = RefusesAlike body_at

-- a token is refused in a ghost command only where no tokens that are alike up to it begin with a ghost command, however deep it nests, before what is no `else`
abbrev pub CommandsStopAlike : Type 0
CommandsStopAlike = (d : ℕ) (ts other rest : List Token) (n : ℕ) (x : GhostCommandTree) → command_at d ts ≡ Err (Syntax n) → BeginsUpTo ts n other → command x other ≡ Some rest → head_has (is_word Ghost Else) rest ≡ false → ⊥

-- the same of the body of a lemma, whatever stands behind it
abbrev pub GhostBodiesStopAlike : Type 0
GhostBodiesStopAlike = (d : ℕ) (ts other rest : List Token) (n : ℕ) (x : GhostBody) → body_at d ts ≡ Err (Syntax n) → BeginsUpTo ts n other → ghost_body x other ≡ Some rest → ⊥
