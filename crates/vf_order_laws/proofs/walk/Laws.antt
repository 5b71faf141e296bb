-- The rules give just what the walks give.
use Rattle.std.proofs.Common.{◌≡◌, List, Result, Ok, Err}
use Rattle.vf_base.specs.declared.place.Place.{Place}
use Rattle.vf_base.specs.declared.refusal.Refusal.{Refusal}
use Rattle.vf_sorts.specs.Sorts.{Sort}
use Rattle.vf_sorts.specs.Unknowns.{Known}
use Rattle.vf_declared.specs.declared.scope.Scope.{Scope}
use Rattle.vf_syntax.specs.declared.item.Item.{Item}
use Rattle.vf_syntax.specs.AssertionTree.{PartTrees}
use Rattle.vf_syntax.specs.GhostExprTree.{GhostExprTree}
use Rattle.vf_sorting.specs.declared.context.Context.{Context}
use Rattle.vf_asserting.specs.Gives.{Gives}
use Rattle.vf_asserting.specs.IsRefused.{AnyPartFails}
use Rattle.vf_walk.specs.Walking.{Walked}
use Rattle.vf_resolve.specs.declared.files.Files.{Files}
use Rattle.vf_order_laws.specs.walk.Sorts.{passed, sort_of}
use Rattle.vf_order_laws.specs.walk.Assertions.{parts_of}
use Rattle.vf_order_laws.specs.walk.Units.{phased}
use Rattle.vf_order_laws.specs.walk.Agreeing.{AssertionComes, AssertionsAreWalked, FormsAreWalked, PassComes, PassesAreWalked, PhasesAreWalked, PhasesCome, RefusalsComeFirst, SortComes, SortsAreWalked, StatementsAreWalked, UnitsAreWalked}
use Rattle.vf_order_laws.specs.walk.Agreeing as comes
use Rattle.vf_order_laws.proofs.walk.Finding.{Found, Grows, PassFound, SortFound, found, stopped}
use Rattle.vf_order_laws.proofs.walk.SortsCome.{is_failed, is_passed, is_refused, sorted}
use Rattle.vf_order_laws.proofs.walk.SortsFound.{pass_found, sort_found}
use Rattle.vf_order_laws.proofs.walk.AssertionsCome.{any_part_fails, parts_give}
use Rattle.vf_order_laws.proofs.walk.AssertionsFound.{parts_found}
use Rattle.vf_order_laws.proofs.walk.StatementsCome.{stmts_come, stmts_found}
use Rattle.vf_order_laws.proofs.walk.UnitsCome.{ComeThrough, first_comes, first_found, none_comes, none_found, passes_come, passes_found, phases_found, refusals_come, unit_comes, unit_found}
use Rattle.vf_order_laws.proofs.walk.UnitsCome as units

-- ---- expressions
pub sort_comes : {s : Scope} {c : Context} {k : Known} {e : GhostExprTree} {v : Result (Sort × Known) Refusal} → SortComes s c k e v → sort_of s c k e ≡ v
sort_comes (comes.has h) = sorted h
sort_comes (comes.refused h) = is_refused h

sort_gives : {s : Scope} {c : Context} {k : Known} {e : GhostExprTree} {v : Result (Sort × Known) Refusal} → SortFound s c k e v → SortComes s c k e v
sort_gives (found h) = comes.has h.0
sort_gives (stopped h) = comes.refused h

pub sorts_are_walked : SortsAreWalked
sorts_are_walked s c k e r = record { found = sort_gives (sort_found s c k r e); comes = λ v h. sort_comes h }

pass_comes : {s : Scope} {c : Context} {k : Known} {w : Sort} {q : Place} {e : GhostExprTree} {v : Result Known Refusal} → PassComes s c k w q e v → passed s c k w q e ≡ v
pass_comes (comes.passes h) = is_passed h
pass_comes (comes.fails h) = is_failed h

pass_gives : {s : Scope} {c : Context} {k : Known} {w : Sort} {q : Place} {e : GhostExprTree} {v : Result Known Refusal} → PassFound s c k w q e v → PassComes s c k w q e v
pass_gives (found h) = comes.passes h.0
pass_gives (stopped h) = comes.fails h

pub passes_are_walked : PassesAreWalked
passes_are_walked s c k w q e r b = record { found = pass_gives (pass_found s c k w q r b e); comes = λ v h. pass_comes h }

-- ---- assertions
pub assertion_comes : {c : Context} {s : Scope} {k : Known} {xs : PartTrees} {v : Result (Scope × Known) Refusal} → AssertionComes c s k xs v → parts_of c s k xs ≡ v
assertion_comes (comes.gives h) = parts_give h
assertion_comes (comes.refused h) = any_part_fails h

assertion_gives : {c : Context} {s : Scope} {k : Known} {xs : PartTrees} {v : Result (Scope × Known) Refusal} → Found (λ r. Gives c s k xs r.0 r.1 × Grows k r.1) (AnyPartFails c s k xs) v → AssertionComes c s k xs v
assertion_gives (found h) = comes.gives h.0
assertion_gives (stopped h) = comes.refused h

pub assertions_are_walked : AssertionsAreWalked
assertions_are_walked c s k xs r = record { found = assertion_gives (parts_found c s k r xs); comes = λ v h. assertion_comes h }

-- ---- annotations, statements and units
pub annotations_are_walked : FormsAreWalked
annotations_are_walked d = units.annotations_are_walked d

pub statements_are_walked : StatementsAreWalked
statements_are_walked d t xs s = record { found = stmts_found (units.annotations_are_walked d) t xs s; comes = λ w h. stmts_come (units.annotations_are_walked d) t xs s h }

pub units_are_walked : UnitsAreWalked
units_are_walked xs s = record { found = unit_found xs s; comes = λ w h. unit_comes h }

-- ---- phases
phases_come : {f : Files} {xs : List Item} {w : Walked} → PhasesCome f xs w → phased f xs ≡ w
phases_come (comes.pass h) = passes_come h
phases_come (comes.refused h) = refusals_come h

through : {f : Files} {xs : List Item} (w : Walked) → ComeThrough f xs w → PhasesCome f xs w
through (Ok s) h = comes.pass h
through (Err r) h = comes.refused h

pub phases_are_walked : PhasesAreWalked
phases_are_walked f xs = record { found = through (phased f xs) (phases_found f xs); comes = λ w h. phases_come h }

pub refusals_are_first : RefusalsComeFirst
refusals_are_first f xs = record {
  refused = λ r. (first_comes, first_found);
  passes = λ s. (passes_come, passes_found);
  accepted = ((λ h. none_comes h.1), none_found);
}
