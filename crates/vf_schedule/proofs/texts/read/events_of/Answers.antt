use Rattle.std.proofs.Common.{◌≡◌, Some, slice_get, map, ap, sym, ◌∙◌, arith}
use Rattle.std.specs.Option.{option_map}
use Rattle.std.proofs.lemmas.Option.{slice_get-map, slice_get-get_or}
use Rattle.serde_json.specs.View.{view}
use Rattle.vf_schedule.proofs.texts.Texts.{not_missing}
use Rattle.vf_schedule.proofs.texts.read.events_of.Goals as goal

pub returns-in_default-clause-syntax : goal.returns-in_default-clause-syntax
returns-in_default-clause-syntax c = λ _ events all.
    let at : slice_get c.args.values.now c.loop-value.value-index ≡ Some c.value-item.result = slice_get-get_or c.args.values.now c.loop-value.value-index c.value-item.result (omega arith) ∙ ap Some (sym c.value-item.is) in
    not_missing (map view c.args.values.now) c.loop-value.value-index (view c.value-item.result) events
    (slice_get-map view c.args.values.now c.loop-value.value-index ∙ ap (option_map view) at) (sym c.in_default.is ∙ c.event_of.ensures) all
