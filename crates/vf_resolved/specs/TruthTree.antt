-- Written by tools/gen_syntax.py: change it there.
-- Pure data of truth values: no pointers.
use Rattle.std.specs.Prelude.{ℕ, ◌+◌, ◌≤◌, Bool, List, [], ◌∷◌, Option}
use Rattle.std.proofs.Common.{arith}
use denote.Param.Weighed.{most}
use Rattle.vf_core.specs.declared.words.Comparison.{Comparison}
use Rattle.vf_closure.specs.Terms.{Term}

mutual
  -- A truth value, whose connectives and comparisons are told apart.
  pub data TruthTree : Type 0 where
    value : Term → TruthTree
    comparison : Comparison → Bool → TruthTree → TruthTree → TruthTree
    not_ : TruthTree → TruthTree
    and_ : TruthTree → TruthTree → TruthTree
    or_ : TruthTree → TruthTree → TruthTree
    choice : TruthTree → TruthTree → TruthTree → TruthTree

abbrev mutual
  -- how many nodes it has
  pub truth_nodes : TruthTree → ℕ
  truth_nodes (value a) = 1
  truth_nodes (comparison a b c d) = truth_nodes c + truth_nodes d + 1
  truth_nodes (not_ a) = truth_nodes a + 1
  truth_nodes (and_ a b) = truth_nodes a + truth_nodes b + 1
  truth_nodes (or_ a b) = truth_nodes a + truth_nodes b + 1
  truth_nodes (choice a b c) = truth_nodes a + truth_nodes b + truth_nodes c + 1
