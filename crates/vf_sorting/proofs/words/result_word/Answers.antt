use Rattle.std.proofs.Common.{rules, ◌≡◌, Some}
use Rattle.vf_sorting.proofs.Steps.{result_sorted}
use Rattle.vf_sorting.proofs.words.result_word.Goals as goal

pub returns-in_ok-sort-in-Some : goal.returns-in_ok-sort-in-Some
returns-in_ok-sort-in-Some c = let r : c.args.context.now.result ≡ Some c.in-Some.sort = search rules in result_sorted r c.has.ensures c.if-not-has.false c.in_ok-sort-in-Some.ensures
