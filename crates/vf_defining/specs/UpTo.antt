-- What is declared up to a name.
use Rattle.std.specs.Prelude.{◌≡◌, ℕ, suc, List, length, Option, Some, None, take}
use Rattle.vf_names.specs.Names.{number_of}
use Rattle.vf_declared.specs.declared.scope.Scope.{Scope}
use Rattle.vf_declared.specs.Beginning.{no_locals}
use Rattle.vf_syntax.specs.declared.written.Name.{Name}
use Rattle.vf_defining.specs.declared.up_to.FileLevel.{FileLevel}

-- how many things stand up to the one with a number, which may be none
abbrev pub through : Option ℕ → ℕ
through None = 0
through (Some n) = suc n

-- what is declared up to a name: of the names of file level those that were declared before it, and itself
abbrev pub up_to : Name → Scope → Scope
up_to n s = record s { names = take (through (number_of s.names n.text)) s.names; declarations = take (through (number_of s.names n.text)) s.declarations }

-- some items are the first of others
pub record AreFirst {A : Type 0} (whole front : List A) : Type 0 where
  pub is : front ≡ take (length front) whole

-- what is declared where the names of file level are others, and there are no locals
abbrev pub with_level : Scope → FileLevel → Scope
with_level s l = record s { locals = no_locals; names = l.names; declarations = l.declarations }
