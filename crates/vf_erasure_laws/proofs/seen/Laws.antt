-- The law about types.
use Rattle.std.proofs.Common.{ap, ◌∙◌}
use Rattle.vf_typing.specs.Typed.{typed}
use Rattle.vf_erasure_laws.specs.seen.Laws.{TypesAreSeen}
use Rattle.vf_erasure_laws.proofs.seen.Leading.{expr_leads, led}
use Rattle.vf_erasure_laws.proofs.seen.Lookups.{finds_seen, names_seen, seen_is}

-- an expression that has a type has it also where C text alone is seen
pub types_are_seen : TypesAreSeen
types_are_seen s e o h = ap (λ t. typed t e) (seen_is s) ∙ led (expr_leads s (names_seen s) (finds_seen s) e) h
