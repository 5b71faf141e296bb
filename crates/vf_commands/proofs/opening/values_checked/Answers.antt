use Rattle.std.proofs.Common.{rules, ◌≡◌, None, Some}
use Rattle.vf_binding.proofs.Parts.{arguments_below_then}
use Rattle.vf_commands.proofs.Opens.{one_pair_passes, two_pairs_pass}
use Rattle.vf_commands.proofs.opening.values_checked.Goals as goal

pub returns-in_default : goal.returns-in_default
returns-in_default c =
    let n : c.args.second.now ≡ None = search rules in
    one_pair_passes _ n c.is_some.ensures c.if-is_some.false c.in_ok-head_list_checked.ensures

pub head_list_checked-requires-3 : goal.head_list_checked-requires-3
head_list_checked-requires-3 c = arguments_below_then c.args.taken.now c.requires c.in_ok-head_list_checked-2.ensures

pub returns : goal.returns
returns c =
    let z : c.args.second.now ≡ Some c.in-Some.second = search rules in
    let h : c.args.taken.now.heads ≡ Some c.in-Some-heads.heads = search rules in
    two_pairs_pass _ z h c.in_ok-head_list_checked-2.ensures c.in_ok-head_list_checked-3.ensures
