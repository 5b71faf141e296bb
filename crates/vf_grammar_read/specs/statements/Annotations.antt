-- What is owed of the parsers of annotations, which are given from outside: what tokens spell, and what nests no deeper than it may, is read from them.
use Rattle.std.specs.Prelude.{◌≡◌, ℕ, ◌+◌, ◌≤◌, true, false, List, Some}
use Rattle.vf_lexer.specs.declared.token.Token.{Token}
use Rattle.vf_syntax.specs.declared.keyword.Keyword.TheVariants.{Else}
use Rattle.vf_syntax.specs.declared.side.Side.TheVariants.{Ghost}
use Rattle.vf_syntax.specs.declared.side.Grammar.{Grammar}
use Rattle.vf_syntax.specs.declared.contract.Invariant.{Invariant}
use Rattle.vf_syntax.specs.GhostCommandTree.{GhostCommandTree}
use Rattle.vf_syntax.specs.Commands.{command, command_nesting}
use Rattle.vf_syntax.specs.Statements.{invariant_walk, invariant_nesting}
use Rattle.vf_syntax.specs.Walks.{head_has, is_word}
use Rattle.vf_cursor.specs.Parsing.{Parser, ok}
use Rattle.vf_parse_statement.specs.Parsers.{is_whole}

-- every ghost command is read, where no `else` of ghost text stands behind it; it counts one itself
abbrev pub FullCommands : (ℕ → Parser GhostCommandTree) → Type 0
FullCommands p = (d : ℕ) (x : GhostCommandTree) (ts rest : List Token) → command x ts ≡ Some rest → command_nesting x + 1 ≤ d → head_has (is_word Ghost Else) rest ≡ false → p d ts ≡ ok x rest

-- every invariant is read
abbrev pub FullInvariants : (ℕ → Parser Invariant) → Type 0
FullInvariants p = (d : ℕ) (x : Invariant) (ts rest : List Token) → invariant_walk x ts ≡ Some rest → invariant_nesting x ≤ d → p d ts ≡ ok x rest

-- where a grammar has annotations, all ghost commands and invariants are read
pub record FullTexts (g : Grammar) (c : ℕ → Parser GhostCommandTree) (i : ℕ → Parser Invariant) : Type 0 where
  pub commands_are_read : is_whole g ≡ true → FullCommands c
  pub invariants_are_read : is_whole g ≡ true → FullInvariants i
