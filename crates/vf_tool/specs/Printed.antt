-- What a sink has taken of an answer, and the status then.
use Rattle.std.specs.Prelude.{◌≡◌, ◌⊎◌, ℕ, List, Option, Result, Ok, Err}
use Rattle.vf_base.specs.Outside.{Takes, TakesFront}
use Rattle.vf_report.specs.declared.status.Answered.{Answered}
use Rattle.vf_report.specs.declared.status.Status.{Status}
use Rattle.vf_report.specs.declared.status.Status.TheVariants.{Memory, WriteFault}
use Rattle.vf_report.specs.declared.status.Stop.{Stop}
use Rattle.vf_report.specs.Status.{status_of_stop}
use Rattle.vf_manifest_commands.specs.declared.upgrading.UpgradeFault.{UpgradeFault}
use Rattle.vf_manifest_commands.specs.declared.upgrading.UpgradeFault.TheVariants as faults

-- the text was taken whole, and the status is this; or a front of it was taken, and the sink failed or had no memory
abbrev pub IsTextPrinted : Status → List ℕ → Option (List ℕ) → Option (List ℕ) → Status → Type 0
IsTextPrinted own text old new status =
    ((status ≡ own) × Takes old new text) ⊎ (((status ≡ WriteFault) ⊎ (status ≡ Memory)) × TakesFront old new text)

-- the text of an answer was printed, or nothing, and the status is that of the stop
abbrev pub IsPrinted : Result Answered Stop → Option (List ℕ) → Option (List ℕ) → Status → Type 0
IsPrinted (Ok a) old new status = IsTextPrinted a.status a.text old new status
IsPrinted (Err stop) old new status = (status ≡ status_of_stop stop) × (new ≡ old)

-- the line of a manifest that was written again was taken
abbrev pub IsLinePrinted : Result (List ℕ) UpgradeFault → Option (List ℕ) → Option (List ℕ) → Type 0
IsLinePrinted (Ok text) old new = Takes old new text
IsLinePrinted (Err fault) old new = ⊥

-- the manifest could not be written, or this holds
abbrev pub IsUnwritten : Result (List ℕ) UpgradeFault → Type 0 → Type 0
IsUnwritten (Err faults.WriteFault) P = Unit {0}
IsUnwritten r P = P
