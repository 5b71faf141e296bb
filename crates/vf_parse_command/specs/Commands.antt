-- Parsers of ghost commands. d is how many may stand in one another in a part, and c reads a ghost command inside of one.
use Rattle.std.specs.Prelude.{ℕ, zero, suc, Bool, not, ◌||◌, List, [], if◌then◌else◌}
use Rattle.vf_base.specs.declared.place.Place.{Place}
use Rattle.vf_lexer.specs.declared.punctuator.Punctuator.TheVariants as punctuators
use Rattle.vf_lexer.specs.declared.token.Token.{Token}
use Rattle.vf_syntax.specs.declared.keyword.Keyword.TheVariants as keywords
use Rattle.vf_syntax.specs.declared.side.Side.TheVariants.{Ghost}
use Rattle.vf_syntax.specs.declared.item.GhostBody.{GhostBody}
use Rattle.vf_syntax.specs.GhostExprTree.{GhostExprTree}
use Rattle.vf_syntax.specs.GhostCommandTree.{GhostCommandTree, CommandCaseTree, ghost_command_list, command_case_list, command_case}
use Rattle.vf_syntax.specs.GhostCommandTree as tree
use Rattle.vf_syntax.specs.Walks.{head_has, is_mark, is_word}
use Rattle.vf_cursor.specs.Parsing.{Parser, ok, ◌>>=◌, here_at, mark_at, word_at, many, item_step}
use Rattle.vf_parse_term.specs.Pieces.{too_deep_at}
use Rattle.vf_parse_term.specs.Sorts.{begins_sort}
use Rattle.vf_parse_term.specs.Terms.{term_at}
use Rattle.vf_parse_assertion.specs.Parsers.{switch_head_at, case_head_at}
use Rattle.vf_parse_command.specs.Flats.{flat_at}

-- a token is a word that begins a ghost command
unfoldable pub is_command_word : Token → Bool
is_command_word t = is_word Ghost keywords.Open t || is_word Ghost keywords.Close t || is_word Ghost keywords.Leak t || is_word Ghost keywords.Assert t || is_word Ghost keywords.If t || is_word Ghost keywords.Switch t

-- a token can begin a ghost command
unfoldable pub begins_command : Token → Bool
begins_command t = is_command_word t || is_mark Ghost punctuators.OpenBrace t || begins_sort t

-- a token ends neither a block nor a case
unfoldable pub is_inside : Token → Bool
is_inside t = not (is_mark Ghost punctuators.CloseBrace t || is_word Ghost keywords.Case t)

-- one more ghost command
unfoldable pub command_step : Parser GhostCommandTree → List GhostCommandTree → Parser (List GhostCommandTree)
command_step c xs ts = item_step c xs ts

-- ghost commands up to the end of a block or a case
abbrev pub commands_at : Parser GhostCommandTree → Parser (List GhostCommandTree)
commands_at c = many is_inside (command_step c) []

-- "{" commands "}"
unfoldable pub body_by : Parser GhostCommandTree → Parser GhostBody
body_by c ts = mark_at Ghost punctuators.OpenBrace ts >>= λ o. commands_at c o.1 >>= λ xs. mark_at Ghost punctuators.CloseBrace xs.1 >>= λ z. ok (record { place = o.0; commands = xs.0; last = z.0 }) z.1

-- a block
unfoldable pub block_at : Parser GhostCommandTree → Parser GhostCommandTree
block_at c ts = body_by c ts >>= λ b. ok (tree.block b.0.place (ghost_command_list b.0.commands)) b.1

-- "if" "(" expression ")"
unfoldable pub if_head_at : ℕ → Parser (Place × GhostExprTree)
if_head_at d ts = word_at Ghost keywords.If ts >>= λ w. mark_at Ghost punctuators.OpenParenthesis w.1 >>= λ o. term_at d o.1 >>= λ e. mark_at Ghost punctuators.CloseParenthesis e.1 >>= λ z. ok (w.0, e.0) z.1

-- what stands behind the first block of an `if`: "else" and a block, or nothing of it
unfoldable pub branches_at : Parser GhostCommandTree → Place → GhostExprTree → GhostBody → Parser GhostCommandTree
branches_at c p e b ts = if head_has (is_word Ghost keywords.Else) ts then (word_at Ghost keywords.Else ts >>= λ w. body_by c w.1 >>= λ y. ok (tree.if_else p e (ghost_command_list b.commands) (ghost_command_list y.0.commands)) y.1)
    else ok (tree.if_ p e (ghost_command_list b.commands)) ts

-- "if" "(" expression ")" block ["else" block]
unfoldable pub if_at : ℕ → Parser GhostCommandTree → Parser GhostCommandTree
if_at d c ts = if_head_at d ts >>= λ h. body_by c h.1 >>= λ b. branches_at c h.0.0 h.0.1 b.0 b.1

-- "case" pattern ":" commands
unfoldable pub case_at : Parser GhostCommandTree → Parser CommandCaseTree
case_at c ts = case_head_at ts >>= λ h. commands_at c h.1 >>= λ xs. ok (command_case h.0.0 h.0.1 (ghost_command_list xs.0)) xs.1

-- one more case
unfoldable pub case_step : Parser GhostCommandTree → List CommandCaseTree → Parser (List CommandCaseTree)
case_step c xs ts = item_step (case_at c) xs ts

-- cases, one after another
abbrev pub cases_at : Parser GhostCommandTree → Parser (List CommandCaseTree)
cases_at c = many (is_word Ghost keywords.Case) (case_step c) []

-- "switch" "(" expression ")" "{" cases "}"
unfoldable pub switch_at : ℕ → Parser GhostCommandTree → Parser GhostCommandTree
switch_at d c ts = here_at ts >>= λ p. switch_head_at d p.1 >>= λ e. cases_at c e.1 >>= λ xs. mark_at Ghost punctuators.CloseBrace xs.1 >>= λ z. ok (tree.switch_ p.0 e.0 (command_case_list xs.0)) z.1

-- a ghost command
unfoldable pub command_by : ℕ → Parser GhostCommandTree → Parser GhostCommandTree
command_by d c ts = if head_has (is_word Ghost keywords.If) ts then if_at d c ts else (if head_has (is_word Ghost keywords.Switch) ts then switch_at d c ts
    else (if head_has (is_mark Ghost punctuators.OpenBrace) ts then block_at c ts else flat_at d ts))

unfoldable mutual
  -- a ghost command that nests so deep at most, itself counted
  pub command_at : ℕ → Parser GhostCommandTree
  command_at zero ts = too_deep_at begins_command ts
  command_at (suc d) ts = command_by d (command_at d) ts

-- "{" commands "}", each of which nests so deep at most, itself counted
abbrev pub body_at : ℕ → Parser GhostBody
body_at d = body_by (command_at d)
