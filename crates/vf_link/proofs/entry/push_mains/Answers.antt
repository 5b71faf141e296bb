use Rattle.std.proofs.Common.{◌≡◌, ◌<◌, [], ◌∷◌, ◌++◌, length, get_or, true, false, Some, sym, ap, subst, ◌∙◌}
use Rattle.std.specs.Prelude.{All, slice_get}
use Rattle.std.specs.Option.{option_map}
use Rattle.std.proofs.lemmas.List.{length_push}
use Rattle.std.proofs.lemmas.List.Elements.{All-push}
use Rattle.vf_link.specs.declared.entry.Entry.{Entry}
use Rattle.vf_link.specs.Statements.{provides_main}
use Rattle.vf_link.specs.Linking.{IsMain}
use Rattle.vf_link.proofs.Lists.{same_items}
use Rattle.vf_link.proofs.Mains.{main_counted, none_counted, main_at, main_of_manifest}
use Rattle.vf_link.proofs.entry.push_mains.Goals as goal
use Rattle.vf_link.proofs.entry.push_mains.Goals.{then-provides_main+in_ok-identity+in_ok-push, else-provides_main}

pub loop-at-preserved : goal.loop-at-preserved
loop-at-preserved c =
    let ms = c.args.manifests.now in
    let ls = c.index-manifests-manifest.result in
    let at = c.loop-at.at in
    let base = length c.args.mains.now.items in
    let old = c.loop-at.mains.items in
    let new = c.if-provides_main.mains.items in
    let inv = c.loop-at.invariant in
    let within = subst (λ n. at < n) c.len-at-end.ensures c.loop-at-test.true in
    let lines_are : ls ≡ get_or ms c.args.manifest ls = c.index-manifests-manifest.is in
    elim c.if-provides_main.branch [
      | then-provides_main+in_ok-identity+in_ok-push w ↦
          (let entry : Entry = record { manifest = c.args.manifest; identity = w.in_ok-identity.identity } in
          let is : option_map provides_main (slice_get ls at) ≡ Some true = c.provides_main.ensures ∙ ap Some w.if-provides_main.true in
          let more : new ≡ old ++ entry ∷ [] = same_items c.if-provides_main.mains w.push.new.self w.mains-is ∙ w.in_ok-push.ensures.items in
          let main = main_of_manifest ms c.args.manifest ls at w.subject.result.now w.in_ok-identity.identity c.requires lines_are within (main_at ls at w.subject.result.now within is w.subject.ensures) w.in_ok-identity.ensures in
          record {
            count = main_counted ls at base (length old) (length new) within is inv.count (ap length more ∙ length_push old entry);
            each = λ before. subst (λ es. All (λ (e : Entry). IsMain ms e.manifest e.identity) es) (sym more) (All-push (λ (e : Entry). IsMain ms e.manifest e.identity) old entry (inv.each before) main);
          })
      | else-provides_main w ↦
          (let is : option_map provides_main (slice_get ls at) ≡ Some false = c.provides_main.ensures ∙ ap Some w.if-provides_main.false in
          let same : new ≡ old = same_items c.if-provides_main.mains c.loop-at.mains w.mains-is in
          record {
            count = none_counted ls at base (length old) (length new) within is inv.count (ap length same);
            each = λ before. subst (λ es. All (λ (e : Entry). IsMain ms e.manifest e.identity) es) (sym same) (inv.each before);
          })
    ]
