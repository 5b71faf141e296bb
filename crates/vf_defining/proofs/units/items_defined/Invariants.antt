use Rattle.std.proofs.Common.{◌≡◌, List, ◌++◌, drop}
use Rattle.vf_base.specs.declared.refusal.Refusal.{Refusal}
use Rattle.vf_definitions.specs.declared.fixpoint.Fixpoint.{Fixpoint}
use Rattle.vf_defining.specs.UpTo.{AreFirst, with_level}
use Rattle.vf_defining.specs.Units.{HaveDefinitions, AnyIsRefused}
use Rattle.vf_defining.proofs.units.items_defined.Given as goal

-- whatever the items that are left have or are refused for, all of them have it behind those that were defined, or are refused for; nothing but locals and names of file level has changed, and of these some first are declared
abbrev pub invariant-loop-at : goal.invariant-loop-at
invariant-loop-at l = record {
  on : (ds : List Fixpoint) → HaveDefinitions (with_level l.fn.scope l.fn.level) l.fn.paths (drop l.at l.fn.items) ds → HaveDefinitions (with_level l.fn.scope l.fn.level) l.fn.paths l.fn.items (l.all ++ ds);
  fails : (r : Refusal) → AnyIsRefused (with_level l.fn.scope l.fn.level) (drop l.at l.fn.items) r → AnyIsRefused (with_level l.fn.scope l.fn.level) l.fn.items r;
  alone : with_level l.scope l.fn.level ≡ with_level l.fn.scope l.fn.level;
  names : AreFirst l.fn.level.names l.scope.names;
  declarations : AreFirst l.fn.level.declarations l.scope.declarations;
}
