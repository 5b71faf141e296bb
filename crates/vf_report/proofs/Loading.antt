-- What the bytes that were read of a file say of the whole file.
use Rattle.std.proofs.Common.{◌≡◌, ℕ, ◌+◌, ◌≤◌, ◌<◌, List, length, take, Option, Some, None, IfSome, ap, sym, ◌∙◌, refl, arith}
use Rattle.std.specs.Option.{IsSomeAnd}
use Rattle.std.specs.FinMap.{get}
use Rattle.std.proofs.lemmas.List.{length-take, take_all}
use Rattle.vf_base.specs.Outside.{Contents, IsFront}
use Rattle.vf_model.specs.declared.words.Event.{Event}
use Rattle.vf_schedule.specs.texts.Schedules.{IsScheduleText}
use Rattle.vf_manifest.specs.declared.line.Line.{Line}
use Rattle.vf_manifest.specs.Manifests.{IsManifestText}
use Rattle.vf_report.specs.Loaded.{HasSchedule, HasNoSchedule, most_schedule, HasManifest, HasNoManifest, most_manifest}

-- a value that is there, with its fact
pub record Found {A : Type 0} (r : Option A) (P : A → Type 0) : Type 0 where
  pub value : A
  pub there : r ≡ Some value
  pub fact : P value

pub found : {A : Type 0} (r : Option A) (P : A → Type 0) → IsSomeAnd r P → Found r P
found None P h = absurd h
found (Some x) P h = record { value = x; there = refl; fact = h }

-- what was read is no longer than the file
pub no_longer : (all bytes : List ℕ) (limit : ℕ) → bytes ≡ take (limit + 1) all → limit < length bytes → limit < length all
no_longer all bytes limit e h = omega (arith, ap length e, length-take (limit + 1) all)

-- a file of which no more than the limit was read is what was read
pub whole : (all bytes : List ℕ) (limit : ℕ) → bytes ≡ take (limit + 1) all → length bytes ≤ limit → bytes ≡ all
whole all bytes limit e h = e ∙ take_all (limit + 1) all (omega (arith, ap length e, length-take (limit + 1) all))

pub schedule_too_long : (contents : Contents) (path bytes : List ℕ) → IsFront contents path most_schedule bytes → most_schedule < length bytes → IfSome contents (λ m. HasNoSchedule m path)
schedule_too_long None path bytes h long = tt
schedule_too_long (Some m) path bytes h long =
    let f = found (get m path) _ h in
    record {
      bytes = f.value;
      there = f.there;
      unread = λ events s. absurd (omega (arith, no_longer f.value bytes most_schedule f.fact long, s.size));
    }

pub schedule_read : (contents : Contents) (path bytes : List ℕ) (events : List Event) → IsFront contents path most_schedule bytes → length bytes ≤ most_schedule → IsScheduleText bytes events → IfSome contents (λ m. HasSchedule m path events)
schedule_read None path bytes events h short t = tt
schedule_read (Some m) path bytes events h short t =
    let f = found (get m path) _ h in
    record {
      bytes = bytes;
      there = f.there ∙ ap Some (sym (whole f.value bytes most_schedule f.fact short));
      reads = record { size = short; text = t };
    }

pub schedule_unread : (contents : Contents) (path bytes : List ℕ) → IsFront contents path most_schedule bytes → length bytes ≤ most_schedule → ((events : List Event) → IsScheduleText bytes events → ⊥) → IfSome contents (λ m. HasNoSchedule m path)
schedule_unread None path bytes h short none = tt
schedule_unread (Some m) path bytes h short none =
    let f = found (get m path) _ h in
    record {
      bytes = bytes;
      there = f.there ∙ ap Some (sym (whole f.value bytes most_schedule f.fact short));
      unread = λ events s. none events s.text;
    }

pub manifest_too_long : (contents : Contents) (path bytes : List ℕ) → IsFront contents path most_manifest bytes → most_manifest < length bytes → IfSome contents (λ m. HasNoManifest m path)
manifest_too_long None path bytes h long = tt
manifest_too_long (Some m) path bytes h long =
    let f = found (get m path) _ h in
    record {
      bytes = f.value;
      there = f.there;
      unread = λ lines s. absurd (omega (arith, no_longer f.value bytes most_manifest f.fact long, s.size));
    }

pub manifest_read : (contents : Contents) (path bytes : List ℕ) (lines : List Line) → IsFront contents path most_manifest bytes → length bytes ≤ most_manifest → IsManifestText bytes lines → IfSome contents (λ m. HasManifest m path lines)
manifest_read None path bytes lines h short t = tt
manifest_read (Some m) path bytes lines h short t =
    let f = found (get m path) _ h in
    record {
      bytes = bytes;
      there = f.there ∙ ap Some (sym (whole f.value bytes most_manifest f.fact short));
      reads = record { size = short; text = t };
    }

pub manifest_unread : (contents : Contents) (path bytes : List ℕ) → IsFront contents path most_manifest bytes → length bytes ≤ most_manifest → ((lines : List Line) → IsManifestText bytes lines → ⊥) → IfSome contents (λ m. HasNoManifest m path)
manifest_unread None path bytes h short none = tt
manifest_unread (Some m) path bytes h short none =
    let f = found (get m path) _ h in
    record {
      bytes = bytes;
      there = f.there ∙ ap Some (sym (whole f.value bytes most_manifest f.fact short));
      unread = λ lines s. none lines s.text;
    }
