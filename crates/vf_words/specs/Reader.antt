-- The command by which clap reads the words behind a command's name: it knows no option, and takes any number of positional words.
use Rattle.std.specs.Prelude.{ℕ, true, List, [], Some, codes}
use Rattle.clap.specs.Lexer.{usize_max}
use Rattle.clap.specs.Walk.{Rule}
use Rattle.clap.specs.Simple.{App, new_rule, new_shape, with_rule}

-- the argument that takes the words
abbrev pub words_rule : Rule
words_rule = record (new_rule (codes "words")) { range = Some (record { start_inclusive = 1; end_inclusive = usize_max }) }

-- the command of a name
abbrev pub reader : List ℕ → App
reader name = with_rule (record { top = record (new_shape name) { no_binary_name = true; disable_help_flag = true }; subs = [] }) words_rule
