use Rattle.std.proofs.Common.{◌∷◌, [], ◌++◌, length, ap, ◌∙◌}
use Rattle.vf_manifest.specs.declared.spot.Spot.{Spot}
use Rattle.vf_manifest.specs.Lines.{content}
use Rattle.vf_manifest.proofs.Keeping.{IsPut, lines_put, all_kept}
use Rattle.vf_manifest.proofs.lines.Manifest.push.Goals as goal

abbrev spot_of : goal.In_ok-push → Spot
spot_of c = record { shape = c.shape_of-shape.result; start = c.len-start.result; middle = c.len-middle.result; end = c.len-end.result }

is_put : (c : goal.In_ok-push) → IsPut c.self.inside.bytes c.args.line (spot_of c) c.push_content.new.out
is_put c = record {
  shape = c.shape_of-shape.ensures;
  whole = c.in_ok-push_content.ensures.pushed ∙ ap (λ b. b ++ content c.args.line) c.in_ok-push_subject.ensures.pushed;
  start = c.len-start.ensures;
  middle = c.len-middle.ensures ∙ ap length c.in_ok-push_subject.ensures.pushed;
  end = c.len-end.ensures;
}

pub invariant_of-self-2 : goal.invariant_of-self-2
invariant_of-self-2 c = all_kept c.self.inside.bytes c.args.line (spot_of c) c.push_content.new.out c.self.inside.spots.items c.push.new.self.items (is_put c) c.in_ok-push.ensures.items c.self.invariant

pub returns : goal.returns
returns c =
    lines_put c.self.inside.bytes c.args.line (spot_of c) c.push_content.new.out c.self.inside.spots.items c.push.new.self.items (is_put c) c.in_ok-push.ensures.items c.self.invariant
    ∙ ap (λ ls. ls ++ c.args.line ∷ []) c.self.view_is
