use Rattle.std.proofs.Common.{sym, ◌∙◌}
use Rattle.std.specs.Prelude.{◌==◌}
use Rattle.std.specs.List.{list_all, slice_split}
use Rattle.vf_manifest.specs.Signatures.{is_type}
use Rattle.vf_manifest.proofs.Cutting.{each_on, each_stop, each_end, rest_shorter}
use Rattle.vf_manifest.proofs.signature.each_type.Goals as goal

pub returns-in_default : goal.returns-in_default
returns-in_default c = c.is_type.ensures ∙ each_end is_type 44 c.parts.left.now (list_all is_type (slice_split (λ b. b == 44) c.args.text.now)) c.in_default.ensures c.parts.invariant

pub returns-then-not-is_type : goal.returns-then-not-is_type
returns-then-not-is_type c = each_stop is_type 44 c.parts.left.now c.in-Some.part.now c.in-Some.rest.now (list_all is_type (slice_split (λ b. b == 44) c.args.text.now)) c.in-Some.ensures (sym c.if-not-is_type.ensures) c.parts.invariant

pub parts-preserved : goal.parts-preserved
parts-preserved c = each_on is_type 44 c.parts.left.now c.in-Some.part.now c.in-Some.rest.now (list_all is_type (slice_split (λ b. b == 44) c.args.text.now)) c.in-Some.ensures (sym c.if-not-is_type.ensures) c.parts.invariant

pub parts-smaller : goal.parts-smaller
parts-smaller c = rest_shorter 44 c.parts.left.now c.in-Some.part.now c.in-Some.rest.now (sym c.in-Some.ensures)
