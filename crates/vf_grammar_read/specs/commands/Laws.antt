-- What is spelled is read.
use Rattle.std.specs.Prelude.{◌≡◌, ℕ, ◌≤◌, false, List, Some}
use Rattle.vf_lexer.specs.declared.token.Token.{Token}
use Rattle.vf_syntax.specs.declared.keyword.Keyword.TheVariants.{Else}
use Rattle.vf_syntax.specs.declared.side.Side.TheVariants.{Ghost}
use Rattle.vf_syntax.specs.declared.item.GhostBody.{GhostBody}
use Rattle.vf_syntax.specs.GhostCommandTree.{GhostCommandTree}
use Rattle.vf_syntax.specs.Walks.{head_has, is_word}
use Rattle.vf_syntax.specs.Commands.{command}
use Rattle.vf_syntax.specs.Units.{ghost_body}
use Rattle.vf_cursor.specs.Parsing.{ok}
use Rattle.vf_parse_command.specs.Commands.{command_at, body_at}
use Rattle.vf_parse_command.specs.Laws.{command_depth, body_depth}

-- a ghost command that tokens spell, and that nests no deeper than it may, is read from them, where no `else` stands behind it
abbrev pub CommandsAreRead : Type 0
CommandsAreRead = (d : ℕ) (x : GhostCommandTree) (ts rest : List Token) → command x ts ≡ Some rest → command_depth x ≤ d → head_has (is_word Ghost Else) rest ≡ false → command_at d ts ≡ ok x rest

-- the body of a lemma that tokens spell, and whose commands nest no deeper than they may, is read from them, whatever stands behind it
abbrev pub BodiesAreRead : Type 0
BodiesAreRead = (d : ℕ) (x : GhostBody) (ts rest : List Token) → ghost_body x ts ≡ Some rest → body_depth x ≤ d → body_at d ts ≡ ok x rest

-- two ghost commands that the same tokens spell are one, places included
abbrev pub CommandsHaveOneReading : Type 0
CommandsHaveOneReading = (x y : GhostCommandTree) (ts rest : List Token) → command x ts ≡ Some rest → command y ts ≡ Some rest → head_has (is_word Ghost Else) rest ≡ false → x ≡ y
