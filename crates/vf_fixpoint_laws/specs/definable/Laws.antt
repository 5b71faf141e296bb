-- The bodies of fixpoints of an accepted unit are accepted where more is declared.
use Rattle.std.specs.Prelude.{◌≡◌, ℕ, true, List, is_some, Some, Ok}
use Rattle.vf_base.specs.declared.refusal.Refusal.{Refusal}
use Rattle.vf_names.specs.Names.{number_of}
use Rattle.vf_sorts.specs.Sorts.{Sort}
use Rattle.vf_sorts.specs.Unknowns.{Known}
use Rattle.vf_declared.specs.declared.declaration.Fixpoint.{Fixpoint}
use Rattle.vf_declared.specs.declared.declaration.GhostDeclaration.TheVariants as ghosts
use Rattle.vf_declared.specs.declared.scope.Scope.{Scope}
use Rattle.vf_declared.specs.Scopes.{ghost_of}
use Rattle.vf_syntax.specs.declared.item.FixpointBody.{FixpointBody}
use Rattle.vf_syntax.specs.declared.item.Item.{Item}
use Rattle.vf_syntax.specs.GhostExprTree.{GhostExprTree}
use Rattle.vf_sorting.specs.declared.context.Context.{Context}
use Rattle.vf_sorting.specs.HasSort.{HasSort}
use Rattle.vf_equations.specs.Fixpoints.{EquationsCome}
use Rattle.vf_resolve.specs.declared.files.Files.{Files}
use Rattle.vf_resolve.specs.Beginning.{beginning}
use Rattle.vf_resolve.specs.Units.{ItemsCome}
use Rattle.vf_defining.specs.Symbols.{without_locals}
use Rattle.vf_defining.specs.Units.{AnyIsRefused}
use Rattle.vf_fixpoint_laws.specs.definable.Files.{SeesThrough}
use Rattle.vf_fixpoint_laws.specs.definable.Naming.{EachName, EachNameOfBody}
use Rattle.vf_fixpoint_laws.specs.definable.Preserved.{Preserves, PreservesDatatypes}

-- a name is among some
abbrev pub IsAmong : List (List ℕ) → List ℕ → Type 0
IsAmong ns x = is_some (number_of ns x) ≡ true

-- an expression has the sort that it has also where all that is declared of some names is so, among which those in it are
abbrev pub SortsArePreserved : Type 0
SortsArePreserved = (ns : List (List ℕ)) (s t : Scope) (c : Context) (k k' : Known) (e : GhostExprTree) (u : Sort) → Preserves (IsAmong ns) s t → EachName (IsAmong ns) s.locals.names e → HasSort s c k e u k' → HasSort t c k e u k'

-- the body of a fixpoint that is accepted is accepted also where all that is declared of some names is so, among which those in it are, however many locals are left behind it
abbrev pub EquationsArePreserved : Type 0
EquationsArePreserved = (ns : List (List ℕ)) (s t u : Scope) (l m n : ℕ) (f : Fixpoint) (b : FixpointBody) → Preserves (IsAmong ns) s t → PreservesDatatypes s t → ghost_of s n ≡ Some (ghosts.Fixpoint f) → EachNameOfBody (IsAmong ns) s.locals.names b → EquationsCome l n s b (Ok u) → (v : Scope) × EquationsCome m n t b (Ok v)

-- where files see through each other, no body of a fixpoint of an accepted unit is refused where it is defined
abbrev pub AcceptedUnitsAreDefined : Type 0
AcceptedUnitsAreDefined = (f : Files) (xs : List Item) (s : Scope) (r : Refusal) → SeesThrough (beginning f xs) → ItemsCome xs (beginning f xs) (Ok s) → AnyIsRefused (without_locals s) xs r → ⊥
