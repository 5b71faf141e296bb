-- Units that are read from files and accepted: nothing is asked of their names.
use Rattle.std.specs.Prelude.{ℕ, List, Ok}
use Rattle.vf_snapshot.specs.Holdings.{Holdings}
use Rattle.vf_expand.specs.declared.whole.UnitTokens.{UnitTokens}
use Rattle.vf_syntax.specs.declared.item.Unit.{Unit as FileUnit}
use Rattle.vf_syntax.specs.declared.side.Grammar.TheVariants.{Whole}
use Rattle.vf_syntax.specs.Units.{Spells}
use Rattle.vf_declared.specs.declared.scope.Scope.{Scope}
use Rattle.vf_resolve.specs.declared.files.Files.{Files}
use Rattle.vf_resolve.specs.Beginning.{beginning}
use Rattle.vf_resolve.specs.Units.{ItemsCome}
use Rattle.vf_fixpoint_laws.specs.bodies.Bodies.{IsWellDeclared, declared_at}
use Rattle.vf_fixpoint_laws.specs.descending.Ranks.{HavePlainNames}
use Rattle.vf_fixpoint_laws.specs.identifiers.Laws.{AreExpanded}

-- a unit is read from a file and accepted: expanding gave tokens that spell it, and its items come to what they declare
pub record IsReadAndAccepted (held : Holdings) (path : List ℕ) (f : Files) (u : FileUnit) (s : Scope) : Type 0 where
  pub tokens : UnitTokens
  pub limit : ℕ
  pub expanded : AreExpanded held path tokens
  pub spelled : Spells Whole limit u tokens.tokens
  pub come : ItemsCome u.items (beginning f u.items) (Ok s)

-- what such a unit declares is well declared, whatever the paths of its files
abbrev pub ReadUnitsAreWellDeclared : Type 0
ReadUnitsAreWellDeclared = (held : Holdings) (path : List ℕ) (f : Files) (u : FileUnit) (s : Scope) (paths : List (List ℕ)) → IsReadAndAccepted held path f u s → IsWellDeclared (declared_at s paths)

-- no `#` stands in the names that such a unit declares
abbrev pub ReadUnitsHavePlainNames : Type 0
ReadUnitsHavePlainNames = (held : Holdings) (path : List ℕ) (f : Files) (u : FileUnit) (s : Scope) → IsReadAndAccepted held path f u s → HavePlainNames s
