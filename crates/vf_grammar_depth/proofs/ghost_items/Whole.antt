-- Contracts, invariants and ghost items of one depth and of another.
use Rattle.std.proofs.Common.{ℕ, suc, ◌<◌, arith}
use Rattle.vf_parse_ghost.specs.Clauses.{contract_at, invariant_at}
use Rattle.vf_parse_ghost.specs.Items.{item_at}
use Rattle.vf_grammar_depth.proofs.terms.Whole.{RisesByTwo, sort_rises, term_rises}
use Rattle.vf_grammar_depth.proofs.assertions.Whole.{assertion_rises}
use Rattle.vf_grammar_depth.proofs.commands.Whole.{body_rises}
use Rattle.vf_grammar_depth.proofs.ghost_items.Inside.{Inside}
use Rattle.vf_grammar_depth.proofs.ghost_items.Clauses.{contract_deep, invariant_deep}
use Rattle.vf_grammar_depth.proofs.ghost_items.Items.{item_deep}

inside_rises : (d m : ℕ) → suc d < m → Inside 1 d m
inside_rises d m lt = record { sorts = sort_rises d m (omega (arith, lt)); terms = term_rises d m lt; assertions = assertion_rises d m lt; lemma_bodies = body_rises d m lt }

pub contract_rises : RisesByTwo contract_at
contract_rises d m lt = contract_deep (inside_rises d m lt)

pub invariant_rises : RisesByTwo invariant_at
invariant_rises d m lt = invariant_deep (inside_rises d m lt)

pub item_rises : RisesByTwo item_at
item_rises d m lt = item_deep (inside_rises d m lt)
