use Rattle.std.proofs.Common.{◌≡◌, map, take, Some}
use Rattle.serde_json.specs.View.{view}
use Rattle.vf_schedule.specs.texts.Schedules.{event_of}
use Rattle.vf_schedule.proofs.texts.read.events_of.Given as goal

abbrev pub invariant-loop-value : goal.invariant-loop-value
invariant-loop-value l = map event_of (map view (take l.value-index l.values)) ≡ map Some l.events
