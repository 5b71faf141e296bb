use Rattle.std.proofs.Common.{sym, ◌∙◌, arith}
use Rattle.vf_promises.proofs.Commas.{brackets_made, sort_end, sort_more}
use Rattle.vf_promises.proofs.signature.+sorts.Goals as goal

pub push_sorts-loop-at-preserved : goal.push_sorts-loop-at-preserved
push_sorts-loop-at-preserved t c = sort_more c.args.names.now c.args.sorts.now c.loop-at.at c.in-Some.sort.now c.loop-at.out c.push_comma.new.out c.push_sort.new.out _ (sym c.in-Some.ensures) c.in_ok-push_comma.ensures c.in_ok-push_sort.ensures c.loop-at.invariant

pub push_sorts-returns : goal.push_sorts-returns
push_sorts-returns t c = sort_end c.args.names.now c.args.sorts.now c.loop-at.at c.loop-at.out _ (omega arith) c.loop-at.invariant

pub push_brackets-returns : goal.push_brackets-returns
push_brackets-returns t c = brackets_made c.args.names.now c.args.sorts.now c.args.out.now c.push_bytes.new.self c.push_sorts.new.out c.push_bytes-2.new.self (λ e. c.if-len-eq0.false (c.len.ensures ∙ e)) c.in_ok-push_bytes.ensures.pushed c.in_ok-push_sorts.ensures c.in_ok-push_bytes-2.ensures.pushed
