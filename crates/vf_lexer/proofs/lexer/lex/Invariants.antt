use Rattle.std.proofs.Common.{◌++◌, List, length}
use Rattle.vf_base.specs.declared.place.Place.{Place}
use Rattle.vf_lexer.specs.declared.token.Token.{Token}
use Rattle.vf_lexer.specs.Tokens.{beginning}
use Rattle.vf_lexer.proofs.Runs.{Gives, Stops}
use Rattle.vf_lexer.proofs.lexer.lex.Given as goal

abbrev pub invariant-loop-cursor : goal.invariant-loop-cursor
invariant-loop-cursor l = record {
  tokens : (more : List Token) → Gives l.cursor more → Gives (beginning l.ghost_header l.file l.bytes) (l.tokens ++ more);
  stops : (p : Place) → Stops l.cursor p → Stops (beginning l.ghost_header l.file l.bytes) p;
}

abbrev pub decreases-loop-cursor : goal.decreases-loop-cursor
decreases-loop-cursor l = length l.cursor.text
