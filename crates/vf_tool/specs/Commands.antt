-- What the commands print that make no promise of safety.
use Rattle.std.specs.Prelude.{◌≡◌, ◌⊎◌, ℕ, List, Option, None}
use Rattle.vf_base.specs.Outside.{FileMap, Takes, TakesFront}
use Rattle.vf_words.specs.Words.{IsLink, IsTrace, IsTry, IsUpgrade}
use Rattle.vf_report.specs.declared.status.Status.{Status}
use Rattle.vf_report.specs.declared.status.Status.TheVariants as statuses
use Rattle.vf_report.specs.Loaded.{HasNoManifest, HasNoSchedule}
use Rattle.std.specs.FinMap.{get}
use Rattle.vf_try.specs.declared.purpose.Purpose.TheVariants.{Run, Trace}
use Rattle.vf_try.specs.Answers as tries
use Rattle.vf_manifest_commands.specs.Manifests.{HasUnreadable, IsLinkAnswer, LacksManifest}

-- this is the status, and the text, of what the words ask for: a try or a trace of source files, or the linking of manifests
pub data Answers (m : FileMap) (words : List (List ℕ)) : Status → List ℕ → Type 0 where
  tried : (schedule : List ℕ) (files : List (List ℕ)) {status : Status} {text : List ℕ} → IsTry words schedule files → tries.IsAnswer m Run schedule files status text → Answers m words status text
  traced : (schedule : List ℕ) (files : List (List ℕ)) {status : Status} {text : List ℕ} → IsTrace words schedule files → tries.IsAnswer m Trace schedule files status text → Answers m words status text
  linked : (manifests : List (List ℕ)) {status : Status} {text : List ℕ} → IsLink words manifests → IsLinkAnswer m manifests status text → Answers m words status text

-- The whole text of an answer with this status was printed.
pub record PrintsAnswer (m : FileMap) (words : List (List ℕ)) (old new : Option (List ℕ)) (status : Status) : Type 0 where
  pub text : List ℕ
  pub answer : Answers m words status text
  pub printed : Takes old new text

-- A front of the text of an answer was printed.
pub record BeginsAnswer (m : FileMap) (words : List (List ℕ)) (old new : Option (List ℕ)) : Type 0 where
  pub status : Status
  pub text : List ℕ
  pub answer : Answers m words status text
  pub printed : TakesFront old new text

-- what holds where an answer is printed whole, by its status; of a sink that failed, or had no memory, a front of the text was taken; in every other case nothing
abbrev pub OnAnswer : Status → (Status → Type 0) → Type 0 → Type 0 → Type 0
OnAnswer statuses.WriteFault whole begins quiet = begins
OnAnswer statuses.Memory whole begins quiet = begins ⊎ quiet
OnAnswer statuses.Usage whole begins quiet = quiet
OnAnswer statuses.ReadFault whole begins quiet = quiet
OnAnswer statuses.Missing whole begins quiet = quiet
OnAnswer statuses.Unreadable whole begins quiet = quiet
OnAnswer statuses.CertRefused whole begins quiet = ⊥
OnAnswer status whole begins quiet = whole status

-- the words ask for a try, a trace or the linking of manifests
abbrev pub AsksAnswer : List (List ℕ) → Type 0
AsksAnswer words = ((schedule : List ℕ) × (files : List (List ℕ)) × IsTry words schedule files)
    ⊎ (((schedule : List ℕ) × (files : List (List ℕ)) × IsTrace words schedule files) ⊎ ((manifests : List (List ℕ)) × IsLink words manifests))

-- a file that the words name is not there
pub data Lacks (m : FileMap) (words : List (List ℕ)) : Type 0 where
  tried : (schedule : List ℕ) (files : List (List ℕ)) → IsTry words schedule files → tries.IsLackingOne m schedule files → Lacks m words
  traced : (schedule : List ℕ) (files : List (List ℕ)) → IsTrace words schedule files → tries.IsLackingOne m schedule files → Lacks m words
  linked : (manifests : List (List ℕ)) → IsLink words manifests → LacksManifest m manifests → Lacks m words
  upgraded : (manifest : List ℕ) → IsUpgrade words manifest → get m manifest ≡ None → Lacks m words

-- a schedule or a manifest that the words name is there and has no reading
pub data HasNoReading (m : FileMap) (words : List (List ℕ)) : Type 0 where
  tried : (schedule : List ℕ) (files : List (List ℕ)) → IsTry words schedule files → HasNoSchedule m schedule → HasNoReading m words
  traced : (schedule : List ℕ) (files : List (List ℕ)) → IsTrace words schedule files → HasNoSchedule m schedule → HasNoReading m words
  linked : (manifests : List (List ℕ)) → IsLink words manifests → HasUnreadable m manifests → HasNoReading m words
  upgraded : (manifest : List ℕ) → IsUpgrade words manifest → HasNoManifest m manifest → HasNoReading m words

-- the statuses that can come where a manifest is to be written again
abbrev pub CanComeOfUpgrade : Status → Type 0
CanComeOfUpgrade statuses.Done = Unit {0}
CanComeOfUpgrade statuses.ReadFault = Unit {0}
CanComeOfUpgrade statuses.WriteFault = Unit {0}
CanComeOfUpgrade statuses.Memory = Unit {0}
CanComeOfUpgrade statuses.Missing = Unit {0}
CanComeOfUpgrade statuses.Unreadable = Unit {0}
CanComeOfUpgrade _ = ⊥
