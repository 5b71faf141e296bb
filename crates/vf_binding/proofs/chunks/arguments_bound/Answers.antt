use Rattle.std.proofs.Common.{rules, ◌≡◌, None, Some}
use Rattle.vf_binding.proofs.Parts.{arguments_below_then, one_pair_binds, two_pairs_bind}
use Rattle.vf_binding.proofs.chunks.arguments_bound.Goals as goal

pub returns-in_default : goal.returns-in_default
returns-in_default c =
    let n : c.args.second.now ≡ None = search rules in
    one_pair_binds _ n c.is_some.ensures c.if-is_some.false c.in_ok-list_bound.ensures

pub list_bound-requires-2 : goal.list_bound-requires-2
list_bound-requires-2 c = arguments_below_then c.args.taken.now c.requires c.in_ok-head_list_checked.ensures

pub returns : goal.returns
returns c =
    let z : c.args.second.now ≡ Some c.in-Some.second = search rules in
    let h : c.args.taken.now.heads ≡ Some c.in-Some-heads.heads = search rules in
    two_pairs_bind _ z h c.in_ok-head_list_checked.ensures c.in_ok-list_bound-2.ensures
