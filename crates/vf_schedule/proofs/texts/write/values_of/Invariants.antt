use Rattle.std.proofs.Common.{◌≡◌, map, take}
use Rattle.serde_json.specs.View.{view}
use Rattle.vf_schedule.specs.texts.Schedules.{data_of}
use Rattle.vf_schedule.proofs.texts.write.values_of.Given as goal

abbrev pub invariant-loop-event : goal.invariant-loop-event
invariant-loop-event l = map view l.values.items ≡ map data_of (take l.event-index l.events)
