-- What is known of unknown sorts stays resolved: nothing is known of those that stand in what is known of others.
use Rattle.std.specs.Prelude.{length}
use Rattle.vf_base.specs.declared.place.Place.{Place}
use Rattle.vf_sorts.specs.Sorts.{Sort}
use Rattle.vf_sorts.specs.Unifying.{Equates}
use Rattle.vf_sorts.specs.Unknowns.{AgreesAsTold, IsBelow, IsResolved, Known, settling}
use Rattle.vf_syntax.specs.GhostExprTree.{GhostExprTree}
use Rattle.vf_declared.specs.declared.scope.Scope.{Scope}
use Rattle.vf_sorting.specs.declared.context.Context.{Context}
use Rattle.vf_sorting.specs.HasSort.{Passes}

-- where sorts are made equal whose unknown sorts have numbers, what is known stays resolved
abbrev pub EquatingResolves : Type 0
EquatingResolves = (known then_known : Known) (t u : Sort) → IsResolved known → IsBelow (length known) t → IsBelow (length known) u → Equates known t u then_known → IsResolved then_known

-- so it does behind an expression that passes for a sort whose unknown sorts have numbers
abbrev pub PassingResolves : Type 0
PassingResolves = (s : Scope) (c : Context) (known then_known : Known) (w : Sort) (q : Place) (e : GhostExprTree) → IsResolved known → IsBelow (length known) w → Passes s c known w q e then_known → IsResolved then_known

-- and the sorts that it settles in the end agree with it
abbrev pub PassingSettles : Type 0
PassingSettles = (s : Scope) (c : Context) (known then_known : Known) (w : Sort) (q : Place) (e : GhostExprTree) → IsResolved known → IsBelow (length known) w → Passes s c known w q e then_known → AgreesAsTold (settling then_known) then_known
