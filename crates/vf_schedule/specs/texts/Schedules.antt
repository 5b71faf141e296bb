-- The text of a schedule, in JSON (RFC 8259).
use Rattle.std.specs.Prelude.{◌≡◌, ℕ, ◌≤◌, cond, nat_le, ◌==◌, List, length, map, Option, Some, None, IsUtf8}
use Rattle.std.specs.List.{AllByRecursion}
use Rattle.vf_model.specs.declared.words.Event.{Event}
use Rattle.serde_json.specs.Data.{Num, unsigned, negative, float, Data, null, boolean, number, string, array, object, Items, no_items, item}
use Rattle.serde_json.specs.Find.{as_array}
use Rattle.serde_json.specs.Read.{read}
use Rattle.serde_json.specs.View.{items_of}

-- the greatest number of a thread
abbrev pub last_thread : ℕ
last_thread = 1023

-- the greatest grant, which is the greatest number that a block can have
abbrev pub last_grant : ℕ
last_grant = 1048576

-- a number that is at most the greatest one
abbrev pub up_to : ℕ → ℕ → Option ℕ
up_to most n = cond (nat_le n most) (Some n) None

-- an unsigned whole number that is at most the greatest one
abbrev pub whole_up_to : ℕ → Num → Option ℕ
whole_up_to most (unsigned n) = up_to most n
whole_up_to most (negative z) = None
whole_up_to most (float x) = None

-- the same of any data
abbrev pub number_up_to : ℕ → Data → Option ℕ
number_up_to most null = None
number_up_to most (boolean b) = None
number_up_to most (number n) = whole_up_to most n
number_up_to most (string s) = None
number_up_to most (array ds) = None
number_up_to most (object ms) = None

-- a thread's step, with its grant, where both are numbers of the range
abbrev pub step_with : Option ℕ → Option ℕ → Option Event
step_with (Some thread) (Some grant) = Some (record { thread = thread; grant = grant })
step_with (Some thread) None = None
step_with None grant = None

-- a thread's number and a grant
abbrev pub event_of_items : Items → Option Event
event_of_items no_items = None
event_of_items (item thread no_items) = None
event_of_items (item thread (item grant no_items)) = step_with (number_up_to last_thread thread) (number_up_to last_grant grant)
event_of_items (item thread (item grant (item other ds))) = None

-- a thread's number alone, with grant 1; or an array of a thread's number and a grant
abbrev pub event_by : Data → Option Items → Option Event
event_by d None = step_with (number_up_to last_thread d) (Some 1)
event_by d (Some ds) = event_of_items ds

-- the event that data is, if it is one
abbrev pub event_of : Data → Option Event
event_of d = event_by d (as_array d)

-- the bytes are a JSON text of an array of at most a million events, and these are the events in order
pub record IsScheduleText (bytes : List ℕ) (events : List Event) : Type 0 where
  pub values : List Data
  pub few : length values ≤ 1000000
  pub utf8 : IsUtf8 bytes
  pub text : read bytes ≡ Some (array (items_of values))
  pub events_in_order : map event_of values ≡ map Some events

-- the data of an event: the thread's number alone where the grant is 1
abbrev pub data_of : Event → Data
data_of e =
    cond (e.grant == 1) (number (unsigned e.thread)) (array (item (number (unsigned e.thread)) (item (number (unsigned e.grant)) no_items)))

-- the data of a schedule
abbrev pub schedule_data : List Event → Data
schedule_data events = array (items_of (map data_of events))

-- the thread's number and the grant are in the range of schedules
pub record IsInRange (e : Event) : Type 0 where
  pub thread : e.thread ≤ 1023
  pub grant : e.grant ≤ 1048576

-- events that a schedule can have
pub record CanBeWritten (events : List Event) : Type 0 where
  pub few : length events ≤ 1000000
  pub in_range : AllByRecursion IsInRange events
