-- What the invariants of loops come to where they are sorted and resolved: their resolved trees, or the refusal of their sorting.
use Rattle.std.specs.Prelude.{ℕ, List, []}
use Rattle.std.specs.declared.result.Result.{Result}
use Rattle.vf_base.specs.declared.refusal.RuleFault.{RuleFault}
use Rattle.vf_sorts.specs.Unknowns.{Known}
use Rattle.vf_declared.specs.declared.scope.Scope.{Scope}
use Rattle.vf_syntax.specs.declared.contract.Invariant.{Invariant}
use Rattle.vf_syntax.specs.AssertionTree.{part_list}
use Rattle.vf_sorting.specs.Answers.{Answers}
use Rattle.vf_asserting.specs.IsRefused.{AnyPartFails}
use Rattle.vf_contracts.specs.Comes.{around_invariant}
use Rattle.vf_resolved.specs.AssertionTree.{PartTree}
use Rattle.vf_resolving.specs.Standings.{Standing}
use Rattle.vf_resolving.specs.Assertions.{PartsResolved, parts_resolved}
use Rattle.vf_resolved_contracts.specs.Reading.{around_with}
use Rattle.vf_resolved_contracts.specs.Resolves.{BodyKnows}
use Rattle.vf_resolved_texts.specs.Resolves.{anew}

-- an invariant is resolved with what is known of unknown sorts when all of it is sorted, where none of them is used yet
pub data InvariantResolves (paths : List (List ℕ)) (x : Invariant) (s : Standing) : PartsResolved → Type 0 where
  resolves : {t : Scope} {k : Known} → BodyKnows around_invariant x.assertion s.scope k t → InvariantResolves paths x s (parts_resolved (around_with around_invariant k paths) (anew t s) (part_list x.assertion))

-- an answer for what is known behind an invariant, whose names are gone
pub record IsInvariantKnown (x : Invariant) (s : Scope) (r : Result Known RuleFault) (t : Scope) : Type 0 where
  pub answers : Answers (λ k. BodyKnows around_invariant x.assertion s k t) (AnyPartFails around_invariant s [] (part_list x.assertion)) r

-- an answer for an invariant is its resolved tree and what is declared behind it, or its refusal
pub record IsInvariantTold (paths : List (List ℕ)) (x : Invariant) (s : Standing) (r : Result (List PartTree) RuleFault) (t : Standing) : Type 0 where
  pub answers : Answers (λ y. InvariantResolves paths x s (record { parts = y; standing = t })) (AnyPartFails around_invariant s.scope [] (part_list x.assertion)) r
