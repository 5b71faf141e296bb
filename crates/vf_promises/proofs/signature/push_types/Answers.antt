use Rattle.std.proofs.Common.{sym, arith}
use Rattle.vf_promises.specs.Signatures.{type_text}
use Rattle.vf_promises.proofs.Commas.{text_end, text_more}
use Rattle.vf_promises.proofs.signature.push_types.Goals as goal

pub loop-at-preserved : goal.loop-at-preserved
loop-at-preserved c = text_more (type_text c.args.names.now) c.args.types.now c.loop-at.at c.in-Some.of.now c.loop-at.out c.push_comma.new.out c.push_type.new.out _ (sym c.in-Some.ensures) c.in_ok-push_comma.ensures c.in_ok-push_type.ensures c.loop-at.invariant

pub returns : goal.returns
returns c = text_end (type_text c.args.names.now) c.args.types.now c.loop-at.at c.loop-at.out _ (omega arith) c.loop-at.invariant
