-- A file in which a macro stands for the name of a function, as it is expanded and read.
use Rattle.std.specs.Prelude.{◌≡◌, ℕ, ◌+◌, false, List, [], ◌∷◌, codes, length, None}
use Rattle.std.specs.List.{flat_map}
use Rattle.vf_base.specs.declared.place.Place.{Place}
use Rattle.vf_lexer.specs.declared.punctuator.Punctuator.TheVariants as punctuators
use Rattle.vf_lexer.specs.declared.token.Kind.{Kind}
use Rattle.vf_lexer.specs.declared.token.Kind.TheVariants as kinds
use Rattle.vf_lexer.specs.declared.token.Token.{Token}
use Rattle.vf_snapshot.specs.declared.held.Held.TheVariants as known
use Rattle.vf_snapshot.specs.Holdings.{Holdings}
use Rattle.vf_expand.specs.declared.whole.UnitTokens.{UnitTokens}
use Rattle.vf_syntax.specs.declared.item.Item.TheVariants as items
use Rattle.vf_syntax.specs.declared.item.Parameters.TheVariants as parameters
use Rattle.vf_syntax.specs.declared.item.Unit.{Unit as FileUnit}
use Rattle.vf_syntax.specs.declared.side.Grammar.TheVariants.{Plain}
use Rattle.vf_syntax.specs.declared.written.ResultType.TheVariants as results
use Rattle.vf_syntax.specs.Units.{Spells}
use Rattle.vf_parse_real.specs.Units.{real_tokens}
use Rattle.vf_env.specs.Named.{named}
use Rattle.vf_fixpoint_laws.specs.well_declared.Names.{AreUnmarked}
use Rattle.vf_fixpoint_laws.specs.identifiers.Laws.{AreExpanded}

-- the bytes of the file: a macro, and on the next line a function
abbrev pub bytes : List ℕ
bytes = codes "#define g f\nvoid g();"

-- a snapshot that holds this file alone
abbrev pub held : Holdings
held = (codes "m.c", known.Bytes bytes) ∷ []

-- the place of a column of its second line
abbrev pub second_line : ℕ → Place
second_line column = record { file = 0; line = 2; column = column }

-- a token of the file that stands at a column of the second line, and whose bytes begin behind so many others
abbrev pub token_of : ℕ → ℕ → Kind → List ℕ → Token
token_of start column kind text = record { kind = kind; text = text; start = start; «end» = start + length text; place = second_line column; is_ghost = false }

-- what expanding the file gives: `void f();`, with the macro's token where its name stands
abbrev pub given : UnitTokens
given = record {
  tokens = token_of 12 1 kinds.Name (codes "void") ∷ token_of 10 6 kinds.Name (codes "f") ∷ token_of 18 7 (kinds.Punctuator punctuators.OpenParenthesis) (codes "(") ∷ token_of 19 8 (kinds.Punctuator punctuators.CloseParenthesis) (codes ")") ∷ token_of 20 9 (kinds.Punctuator punctuators.Semicolon) (codes ";") ∷ [];
  headers = [];
  includes = (0 ∷ []) ∷ [];
  «end» = second_line 10;
}

-- the unit that these tokens spell
abbrev pub unit : FileUnit
unit = record { items = items.Prototype (record { «result» = results.Void (second_line 1); name = record { text = codes "f"; place = second_line 6 }; parameters = parameters.Listed [] }) None None ∷ []; headers = [] }

-- the file is expanded to tokens that spell a unit, whose one name is that of the macro's token, and unmarked
pub record MacrosAreReadAsNames : Type 0 where
  pub expanded : AreExpanded held (codes "m.c") given
  pub spelled : Spells Plain 0 unit (real_tokens given.tokens)
  pub is : flat_map named unit.items ≡ codes "f" ∷ []
  pub unmarked : AreUnmarked unit.items
