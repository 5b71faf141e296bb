use Rattle.std.proofs.Common.{◌≡◌, drop}
use Rattle.vf_local_numbers.specs.Counting.{counting_of, parameters_counted}
use Rattle.vf_local_numbers.proofs.function.count_list.Given as goal

-- what the parameters that are left come to is what all of them come to
abbrev pub invariant-loop-at : goal.invariant-loop-at
invariant-loop-at l = parameters_counted (drop l.at l.fn.list) (counting_of l.counting) ≡ parameters_counted l.fn.list (counting_of l.initial.counting)
