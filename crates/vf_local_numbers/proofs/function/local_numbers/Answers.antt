use Rattle.std.proofs.Common.{rules, ◌≡◌, ◌∙◌}
use Rattle.vf_bodies.specs.Standing.{standing_of}
use Rattle.vf_local_numbers.specs.Counting.{counting_of}
use Rattle.vf_local_numbers.proofs.Taking.{function_back}
use Rattle.vf_local_numbers.proofs.function.local_numbers.Goals as goal

pub returns-clause-kept : goal.returns-clause-kept
returns-clause-kept c =
    let old : c.replace.result ≡ c.args.scope.now = search rules in
    function_back c.args.signature.now c.args.body.now _ (counting_of c.count_function.new.counting) (standing_of c.leave.new.self) c.mark-before.result c.in_ok-count_function.ensures c.mark-before.ensures c.leave.ensures ∙ old
