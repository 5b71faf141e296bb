-- Texts of schedules.
use Rattle.std.proofs.Common.{◌≡◌, ℕ, ◌≤◌, true, false, cond, nat_eq, nat_le, ◌||◌, List, [], ◌∷◌, length, map, Option, Some, None, slice_get, refl, sym, ap, subst, ◌∙◌, arith}
use Rattle.std.specs.List.{AllByRecursion}
use Rattle.std.specs.Prelude.{IsUtf8}
use Rattle.std.specs.Option.{option_map}
use Rattle.std.proofs.lemmas.Bool.{le-leb, leb-true, eqb-true}
use Rattle.std.proofs.lemmas.Option.{slice_get-map}
use Rattle.std.proofs.lemmas.List.{length-map}
use Rattle.serde_json.specs.Data.{Num, unsigned, negative, float, Data, null, boolean, number, string, array, object, Items, no_items, item, depth, items_depth}
use Rattle.serde_json.specs.Find.{as_array}
use Rattle.serde_json.specs.Read.{read}
use Rattle.serde_json.specs.View.{view, items_of, items_view}
use Rattle.serde_json.specs.Written.{has_float, items_have_float}
use Rattle.serde_json.specs.declared.value.Value.{Value}
use Rattle.vf_model.specs.declared.words.Event.{Event}
use Rattle.vf_schedule.specs.texts.Schedules.{event_of, event_by, event_of_items, up_to, whole_up_to, number_up_to, step_with, CanBeWritten, data_of, schedule_data, IsScheduleText, IsInRange}

-- only two parts are a thread and a grant
pub not_two : (vs : List Value) → (length vs ≡ 2 → ⊥) → None ≡ event_of_items (items_view vs)
not_two [] h = refl
not_two (a ∷ []) h = refl
not_two (a ∷ b ∷ []) h = absurd (h refl)
not_two (a ∷ b ∷ d ∷ ds) h = refl

none_of : (o : Option Event) → ◌≡◌ {A = Option (Option Event)} (option_map Some o) (Some None) → ⊥
none_of None h = absurd (cc h)
none_of (Some e) h = absurd (cc h)

-- where a value is no event, the values are no events
pub not_missing : (ds : List Data) (i : ℕ) (d : Data) (events : List Event) → slice_get ds i ≡ Some d → None ≡ event_of d → map event_of ds ≡ map Some events → ⊥
not_missing ds i d events at none all =
    none_of (slice_get events i)
    (sym (slice_get-map Some events i) ∙ ap (λ xs. slice_get xs i) (sym all) ∙ slice_get-map event_of ds i ∙ ap (option_map event_of) at ∙ ap Some (sym none))

-- items are the values that they were made of
pub same_items : (xs ys : List Data) → items_of xs ≡ items_of ys → xs ≡ ys
same_items [] [] h = refl
same_items [] (y ∷ ys) h = absurd (cc h)
same_items (x ∷ xs) [] h = absurd (cc h)
same_items (x ∷ xs) (y ∷ ys) h =
    let rest : items_of xs ≡ items_of ys = cc h in
    let first : x ≡ y = cc h in
    let tail = same_items xs ys rest in
    cc

-- events that are there are the same events
same_some : (xs ys : List Event) → map Some xs ≡ map Some ys → xs ≡ ys
same_some [] [] h = refl
same_some [] (y ∷ ys) h = absurd (cc h)
same_some (x ∷ xs) [] h = absurd (cc h)
same_some (x ∷ xs) (y ∷ ys) h =
    let rest : map Some xs ≡ map Some ys = cc h in
    let first : x ≡ y = cc h in
    let tail = same_some xs ys rest in
    cc

some_array : (x y : Items) → ◌≡◌ {A = Option Data} (Some (array x)) (Some (array y)) → x ≡ y
some_array x y h = cc h

-- a text stands for one list of events at most
pub same_events : (bytes : List ℕ) (first second : List Event) → IsScheduleText bytes first → IsScheduleText bytes second → first ≡ second
same_events bytes first second t u =
    let values : t.values ≡ u.values = same_items t.values u.values (some_array _ _ (sym t.text ∙ u.text)) in
    same_some first second (sym t.events_in_order ∙ ap (map event_of) values ∙ u.events_in_order)

some_data : (x y : Data) → ◌≡◌ {A = Option Data} (Some x) (Some y) → x ≡ y
some_data x y h = cc h

some_items : (x y : Items) → ◌≡◌ {A = Option Items} (Some x) (Some y) → x ≡ y
some_items x y h = cc h

-- the values that were read are those of the schedule
pub same_values : (bytes : List ℕ) (d : Data) (vs : List Value) (events : List Event) → read bytes ≡ Some d → Some (items_view vs) ≡ as_array d
    → (t : IsScheduleText bytes events) → map view vs ≡ t.values
same_values bytes d vs events is array_is t =
    same_items (map view vs) t.values (some_items _ _ (array_is ∙ ap as_array (some_data d (array (items_of t.values)) (sym is ∙ t.text))))

-- no data of an event has a float
data_has_none : (e : Event) → has_float (data_of e) ≡ false
data_has_none e =
    elim (nat_eq e.grant 1) as (λ b. has_float (cond b (number (unsigned e.thread)) (array (item (number (unsigned e.thread)) (item (number (unsigned e.grant)) no_items)))) ≡ false) [
      | true ↦ refl
      | false ↦ refl
    ]

items_have_none : (events : List Event) → items_have_float (items_of (map data_of events)) ≡ false
items_have_none [] = refl
items_have_none (e ∷ events) = ap (λ b. b || items_have_float (items_of (map data_of events))) (data_has_none e) ∙ items_have_none events

-- the data of a schedule has no float
pub no_float : (events : List Event) → has_float (schedule_data events) ≡ false
no_float events = items_have_none events

data_depth : (e : Event) → depth (data_of e) ≤ 1
data_depth e =
    elim (nat_eq e.grant 1) as (λ b. depth (cond b (number (unsigned e.thread)) (array (item (number (unsigned e.thread)) (item (number (unsigned e.grant)) no_items)))) ≤ 1) [
      | true ↦ omega arith
      | false ↦ omega arith
    ]

items_shallow : (events : List Event) → items_depth (items_of (map data_of events)) ≤ 1
items_shallow [] = omega arith
items_shallow (e ∷ events) = let head = data_depth e in let rest = items_shallow events in omega (arith, head, rest)

-- the data of a schedule does not nest deep
pub shallow : (events : List Event) → depth (schedule_data events) ≤ 127
shallow events = let d = items_shallow events in omega (arith, d)

up_to_same : (most n : ℕ) → n ≤ most → up_to most n ≡ Some n
up_to_same most n h = ap (λ b. cond b (Some n) None) (le-leb n most h)

alone : (e : Event) → IsInRange e → nat_eq e.grant 1 ≡ true → event_of (number (unsigned e.thread)) ≡ Some e
alone e r h =
    ap (λ t. step_with t (Some 1)) (up_to_same 1023 e.thread r.thread)
    ∙ ap (λ g. Some (record { thread = e.thread; grant = g })) (sym (eqb-true e.grant 1 h))

paired : (e : Event) → IsInRange e → event_of (array (item (number (unsigned e.thread)) (item (number (unsigned e.grant)) no_items))) ≡ Some e
paired e r =
    ap (λ t. step_with t (up_to 1048576 e.grant)) (up_to_same 1023 e.thread r.thread)
    ∙ ap (λ g. step_with (Some e.thread) g) (up_to_same 1048576 e.grant r.grant)

-- the data of an event is that event
event_again : (e : Event) → IsInRange e → event_of (data_of e) ≡ Some e
event_again e r =
    elim (nat_eq e.grant 1) as (λ b. nat_eq e.grant 1 ≡ b
    → event_of (cond b (number (unsigned e.thread)) (array (item (number (unsigned e.thread)) (item (number (unsigned e.grant)) no_items)))) ≡ Some e) [
      | true ↦ λ h. alone e r h
      | false ↦ λ h. paired e r
    ] refl

-- the data of events are those events
pub events_again : (events : List Event) → AllByRecursion IsInRange events → map event_of (map data_of events) ≡ map Some events
events_again [] h = refl
events_again (e ∷ events) h = ap (λ x. x ∷ map event_of (map data_of events)) (event_again e h.0) ∙ ap (λ xs. Some e ∷ xs) (events_again events h.1)

-- as many data as values
pub length_of_map : (vs : List Value) → length (map view vs) ≡ length vs
length_of_map vs = length-map vs view

-- the text of a schedule's values
pub text_of : (events : List Event) (vs : List Value) → map view vs ≡ map data_of events → array (items_view vs) ≡ schedule_data events
text_of events vs h = ap (λ ds. array (items_of ds)) h

-- the text of a schedule's values stands for the schedule
pub reads_again : (bytes : List ℕ) (events : List Event) (vs : List Value) → map view vs ≡ map data_of events → length events ≤ 1000000 → AllByRecursion IsInRange events
    → IsUtf8 bytes → read bytes ≡ Some (array (items_view vs)) → IsScheduleText bytes events
reads_again bytes events vs h few ranged utf8 is = record {
  values = map data_of events;
  few = subst (λ n. n ≤ 1000000) (sym (length-map events data_of)) few;
  utf8 = utf8;
  text = is ∙ ap Some (text_of events vs h);
  events_in_order = events_again events ranged;
}

-- a number that is at most the greatest one is
up_to_bounded : (most n k : ℕ) → up_to most n ≡ Some k → k ≤ most
up_to_bounded most n k h =
    elim (nat_le n most) as (λ b. nat_le n most ≡ b → cond b (Some n) None ≡ Some k → k ≤ most) [
      | true ↦ λ is here. let same : n ≡ k = cc here in subst (λ x. x ≤ most) same (leb-true n most is)
      | false ↦ λ is here. absurd (cc here)
    ] refl h

whole_bounded : (most : ℕ) (n : Num) (k : ℕ) → whole_up_to most n ≡ Some k → k ≤ most
whole_bounded most (unsigned n) k h = up_to_bounded most n k h
whole_bounded most (negative z) k h = absurd (cc h)
whole_bounded most (float x) k h = absurd (cc h)

number_bounded : (most : ℕ) (d : Data) (k : ℕ) → number_up_to most d ≡ Some k → k ≤ most
number_bounded most null k h = absurd (cc h)
number_bounded most (boolean b) k h = absurd (cc h)
number_bounded most (number n) k h = whole_bounded most n k h
number_bounded most (string s) k h = absurd (cc h)
number_bounded most (array ds) k h = absurd (cc h)
number_bounded most (object ms) k h = absurd (cc h)

some_event : (e f : Event) → ◌≡◌ {A = Option Event} (Some e) (Some f) → e ≡ f
some_event e f h = cc h

step_parts : (t g : Option ℕ) (e : Event) → step_with t g ≡ Some e → (t ≡ Some e.thread) × (g ≡ Some e.grant)
step_parts None g e h = absurd (cc h)
step_parts (Some t) None e h = absurd (cc h)
step_parts (Some t) (Some g) e h =
    let same = some_event (record { thread = t; grant = g }) e h in
    (ap (λ f. Some (f.thread)) same, ap (λ f. Some (f.grant)) same)

by_ranged : (d : Data) (o : Option Items) (e : Event) → event_by d o ≡ Some e → IsInRange e
by_ranged d None e h =
    let parts = step_parts (number_up_to 1023 d) (Some 1) e h in
    let one : 1 ≡ e.grant = cc (parts.1) in
    record { thread = number_bounded 1023 d e.thread parts.0; grant = omega (arith, one) }
by_ranged d (Some no_items) e h = absurd (cc h)
by_ranged d (Some (item t no_items)) e h = absurd (cc h)
by_ranged d (Some (item t (item g no_items))) e h =
    let parts = step_parts (number_up_to 1023 t) (number_up_to 1048576 g) e h in
    record { thread = number_bounded 1023 t e.thread parts.0; grant = number_bounded 1048576 g e.grant parts.1 }
by_ranged d (Some (item t (item g (item o ds)))) e h = absurd (cc h)

all_ranged : (ds : List Data) (events : List Event) → map event_of ds ≡ map Some events → AllByRecursion IsInRange events
all_ranged ds [] h = tt
all_ranged [] (e ∷ events) h = absurd (cc h)
all_ranged (d ∷ ds) (e ∷ events) h =
    let first : event_of d ≡ Some e = cc h in
    let rest : map event_of ds ≡ map Some events = cc h in
    (by_ranged d (as_array d) e first, all_ranged ds events rest)

-- events that few values are can be written
pub values_writable : (vs : List Value) (events : List Event) → length vs ≤ 1000000 → map event_of (map view vs) ≡ map Some events → CanBeWritten events
values_writable vs events few h =
    let as_many = ap length h in
    let of_values = length-map (map view vs) event_of in
    let of_views = length-map vs view in
    let of_events : length (map Some events) ≡ length events = length-map events Some in
    record { few = omega (arith, as_many, of_values, of_views, of_events); in_range = all_ranged (map view vs) events h }
