use Rattle.std.proofs.Common.{◌≡◌, Some, map, length, sym, ap, ◌∙◌, arith}
use Rattle.std.specs.Option.{option_map}
use Rattle.serde_json.specs.Find.{as_array}
use Rattle.serde_json.specs.View.{view, items_view}
use Rattle.vf_schedule.specs.texts.Schedules.{event_of}
use Rattle.vf_schedule.proofs.texts.Texts.{same_values, length_of_map, values_writable}
use Rattle.vf_schedule.proofs.texts.read.read_schedule.Goals as goal

pub returns-then-len-gt-MOST_EVENTS-clause-syntax : goal.returns-then-len-gt-MOST_EVENTS-clause-syntax
returns-then-len-gt-MOST_EVENTS-clause-syntax c = λ _ events t.
    let array_is : Some (items_view c.in-Some.values.now.items) ≡ as_array (view c.in_ok-value.value) = sym (ap (option_map (λ v. items_view v.now.items)) c.in-Some.is) ∙ c.as_array.ensures in
    let same = same_values c.args.bytes.now (view c.in_ok-value.value) c.in-Some.values.now.items events (c.in_ok-value.ensures.read).1 array_is t in
    let few = t.few in
    let length_is = sym (length_of_map c.in-Some.values.now.items) ∙ ap length same in
    omega (arith, few, length_is)

pub returns-in-Ok-clause-bounded : goal.returns-in-Ok-clause-bounded
returns-in-Ok-clause-bounded c =
    values_writable c.in-Some.values.now.items c.in-Ok.events (omega arith) (sym (ap (λ vs. map event_of (map view vs)) c.as_slice.ensures.value) ∙ c.in-Ok.ensures.read)

pub returns-clause-syntax : goal.returns-clause-syntax
returns-clause-syntax c = λ refused events t.
    let array_is : Some (items_view c.in-Some.values.now.items) ≡ as_array (view c.in_ok-value.value) = sym (ap (option_map (λ v. items_view v.now.items)) c.in-Some.is) ∙ c.as_array.ensures in
    let same = same_values c.args.bytes.now (view c.in_ok-value.value) c.in-Some.values.now.items events (c.in_ok-value.ensures.read).1 array_is t in
    c.in-Err.ensures.syntax refused events (ap (λ vs. map event_of (map view vs)) c.as_slice.ensures.value ∙ ap (map event_of) same ∙ t.events_in_order)
