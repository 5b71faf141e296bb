-- Annotations whose names C text does not see.
use Rattle.std.specs.Prelude.{◌≡◌, ℕ, List, ◌++◌, length, map, Ok}
use Rattle.vf_declared.specs.declared.locals.GhostLocal.{GhostLocal}
use Rattle.vf_declared.specs.declared.locals.Local.TheVariants as locals
use Rattle.vf_declared.specs.declared.scope.Scope.{Scope}
use Rattle.vf_syntax.specs.declared.contract.Contract.{Contract}
use Rattle.vf_syntax.specs.declared.contract.Invariant.{Invariant}
use Rattle.vf_syntax.specs.declared.item.GhostItem.{GhostItem}
use Rattle.vf_syntax.specs.GhostCommandTree.{GhostCommandTree}
use Rattle.vf_walk.specs.declared.annotations.Owner.{Owner}
use Rattle.vf_walk.specs.Meanings.{Meanings}
use Rattle.vf_erasure_laws.specs.seen.Seen.{IsOrderly, seen}

-- the second scope has more names of annotations among its locals than the first, behind those that are there, and is else the same
pub record AddsGhosts (s t : Scope) : Type 0 where
  pub names : List (List ℕ)
  pub ghosts : List GhostLocal
  pub beside : length names ≡ length ghosts
  pub is : t ≡ record s { locals = record { names = s.locals.names ++ names; meanings = s.locals.meanings ++ map locals.Ghost ghosts } }

-- C text sees the same of both scopes, there are the same locals, and in the second names stand beside what they mean
pub record IsUnseen (s t : Scope) : Type 0 where
  pub same : seen t ≡ seen s
  pub locals : t.locals ≡ s.locals
  pub orderly : IsOrderly t

-- what annotations declare is not seen by C text: a contract, an invariant and a ghost command declare names among the locals alone
pub record AreUnseen (m : Meanings) : Type 0 where
  pub contract : (o : Owner) (c : Contract) (s t : Scope) → IsOrderly s → m.contract o c s (Ok t) → AddsGhosts s t
  pub invariant : (file : ℕ) (i : Invariant) (s t : Scope) → IsOrderly s → m.invariant file i s (Ok t) → AddsGhosts s t
  pub command : (c : GhostCommandTree) (s t : Scope) → IsOrderly s → m.command c s (Ok t) → AddsGhosts s t
  pub item : (i : GhostItem) (s t : Scope) → IsOrderly s → m.item i s (Ok t) → IsUnseen s t
