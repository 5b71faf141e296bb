use Rattle.std.proofs.Common.{◌≡◌, drop, take, []}
use Rattle.vf_fixpoint.specs.Cases.{constructors_of, is_doubled}
use Rattle.vf_fixpoint.proofs.cases.case_names.Given as goal

abbrev pub invariant-loop-case : goal.invariant-loop-case
invariant-loop-case l = record {
  names : l.names ≡ constructors_of (take l.case-index l.cases);
  rest : is_doubled (constructors_of (take l.case-index l.cases)) (constructors_of (drop l.case-index l.cases)) ≡ is_doubled [] (constructors_of l.cases);
}
