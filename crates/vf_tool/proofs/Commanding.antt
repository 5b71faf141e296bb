-- What the commands print that make no promise of safety.
use Rattle.std.proofs.Common.{◌≡◌, inl, inr, sym, subst, ◌⊎◌, ℕ, List, Option, Some, None, Result, Ok, Err, IfNone, IfOk, IfSome}
use Rattle.vf_base.specs.Outside.{Contents, FileMap, Takes, TakesFront}
use Rattle.vf_report.specs.declared.status.Answered.{Answered}
use Rattle.vf_report.specs.declared.status.Status.{Status}
use Rattle.vf_report.specs.declared.status.Status.TheVariants as statuses
use Rattle.vf_report.specs.declared.status.Stop.{Stop}
use Rattle.vf_report.specs.declared.status.Stop.TheVariants as stops
use Rattle.vf_report.specs.Status.{IsTold, status_of_stop}
use Rattle.vf_words.specs.declared.command.Command.{Command}
use Rattle.vf_words.specs.Commands.{Asks}
use Rattle.vf_words.specs.Words.{AskNothing, IsLink, IsTrace, IsTry}
use Rattle.vf_try.specs.declared.purpose.Purpose.TheVariants.{Run, Trace}
use Rattle.vf_try.specs.Answers as tries
use Rattle.vf_manifest_commands.specs.Manifests.{IsLinkAnswer}
use Rattle.vf_tool.specs.Commands.{Answers, BeginsAnswer, OnAnswer, PrintsAnswer}
use Rattle.vf_tool.specs.Commands as commands
use Rattle.vf_tool.specs.Printed.{IsPrinted, IsTextPrinted}

-- an answer that is printed whole
whole : (m : FileMap) (words : List (List ℕ)) (old new : Option (List ℕ)) (own : Status) (text : List ℕ) → IsTold own → Answers m words own text → Takes old new text
    → OnAnswer own (PrintsAnswer m words old new) (BeginsAnswer m words old new) (new ≡ old)
whole m words old new statuses.Done text told a takes = record { text = text; answer = a; printed = takes }
whole m words old new statuses.Refused text told a takes = record { text = text; answer = a; printed = takes }
whole m words old new statuses.LinkRefused text told a takes = record { text = text; answer = a; printed = takes }
whole m words old new statuses.RunFault text told a takes = record { text = text; answer = a; printed = takes }
whole m words old new statuses.Capacity text told a takes = record { text = text; answer = a; printed = takes }
whole m words old new statuses.Usage text told a takes = absurd told
whole m words old new statuses.ReadFault text told a takes = absurd told
whole m words old new statuses.WriteFault text told a takes = absurd told
whole m words old new statuses.Memory text told a takes = absurd told
whole m words old new statuses.Missing text told a takes = absurd told
whole m words old new statuses.Unreadable text told a takes = absurd told
whole m words old new statuses.CertRefused text told a takes = absurd told

-- an answer of which a front was printed
front : (m : FileMap) (words : List (List ℕ)) (old new : Option (List ℕ)) (own status : Status) (text : List ℕ) → Answers m words own text → TakesFront old new text → (status ≡ statuses.WriteFault) ⊎ (status ≡ statuses.Memory)
    → OnAnswer status (PrintsAnswer m words old new) (BeginsAnswer m words old new) (new ≡ old)
front m words old new own status text a takes (inl is) = subst (λ (s : Status). OnAnswer s (PrintsAnswer m words old new) (BeginsAnswer m words old new) (new ≡ old)) (sym is) (record { status = own; text = text; answer = a; printed = takes })
front m words old new own status text a takes (inr is) = subst (λ (s : Status). OnAnswer s (PrintsAnswer m words old new) (BeginsAnswer m words old new) (new ≡ old)) (sym is) (inl (record { status = own; text = text; answer = a; printed = takes }))

stopped : (m : FileMap) (words : List (List ℕ)) (old new : Option (List ℕ)) (stop : Stop) → new ≡ old → OnAnswer (status_of_stop stop) (PrintsAnswer m words old new) (BeginsAnswer m words old new) (new ≡ old)
stopped m words old new stops.ReadFault same = same
stopped m words old new stops.Missing same = same
stopped m words old new stops.Unreadable same = same
stopped m words old new stops.Memory same = inr same

answered_text : (m : FileMap) (words : List (List ℕ)) (old new : Option (List ℕ)) (own status : Status) (text : List ℕ) → IsTold own → Answers m words own text → IsTextPrinted own text old new status
    → OnAnswer status (PrintsAnswer m words old new) (BeginsAnswer m words old new) (new ≡ old)
answered_text m words old new own status text told a (inl (is, takes)) = subst (λ (s : Status). OnAnswer s (PrintsAnswer m words old new) (BeginsAnswer m words old new) (new ≡ old)) (sym is) (whole m words old new own text told a takes)
answered_text m words old new own status text told a (inr (is, takes)) = front m words old new own status text a takes is

-- what is printed of an answer is that of the status
pub answered : (contents : Contents) (m : FileMap) (words : List (List ℕ)) (r : Result Answered Stop) (old new : Option (List ℕ)) (status : Status) → contents ≡ Some m → IfOk r (λ a. IsTold a.status)
    → IfOk r (λ a. IfSome contents (λ n. Answers n words a.status a.text)) → IsPrinted r old new status → OnAnswer status (PrintsAnswer m words old new) (BeginsAnswer m words old new) (new ≡ old)
answered contents m words (Ok a) old new status is told h printed =
    answered_text m words old new a.status status a.text told (subst (λ (c : Contents). IfSome c (λ n. Answers n words a.status a.text)) is h) printed
answered contents m words (Err stop) old new status is told h (s, same) = subst (λ (x : Status). OnAnswer x (PrintsAnswer m words old new) (BeginsAnswer m words old new) (new ≡ old)) (sym s) (stopped m words old new stop same)

-- what files that are told have
pub of_told : (P : FileMap → Type 0) (contents : Contents) (m : FileMap) → contents ≡ Some m → IfSome contents P → P m
of_told P contents m is h = subst (λ (c : Contents). IfSome c P) is h

-- the answer for manifests that are linked
pub link_answers : (contents : Contents) (words manifests : List (List ℕ)) (r : Result Answered Stop) → IsLink words manifests → IfOk r (λ a. IfSome contents (λ m. IsLinkAnswer m manifests a.status a.text)) → IfOk r (λ a. IfSome contents (λ n. Answers n words a.status a.text))
link_answers contents words manifests (Err stop) asked h = tt
link_answers None words manifests (Ok a) asked h = tt
link_answers (Some m) words manifests (Ok a) asked h = commands.Answers.linked manifests asked h

-- the answer for files that are tried
pub tried_answers : (contents : Contents) (words : List (List ℕ)) (schedule : List ℕ) (files : List (List ℕ)) (r : Result Answered Stop) → IsTry words schedule files
    → IfOk r (λ a. IfSome contents (λ m. tries.IsAnswer m Run schedule files a.status a.text)) → IfOk r (λ a. IfSome contents (λ n. Answers n words a.status a.text))
tried_answers contents words schedule files (Err stop) asked h = tt
tried_answers None words schedule files (Ok a) asked h = tt
tried_answers (Some m) words schedule files (Ok a) asked h = commands.Answers.tried schedule files asked h

-- the answer for files that are traced
pub traced_answers : (contents : Contents) (words : List (List ℕ)) (schedule : List ℕ) (files : List (List ℕ)) (r : Result Answered Stop) → IsTrace words schedule files
    → IfOk r (λ a. IfSome contents (λ m. tries.IsAnswer m Trace schedule files a.status a.text)) → IfOk r (λ a. IfSome contents (λ n. Answers n words a.status a.text))
traced_answers contents words schedule files (Err stop) asked h = tt
traced_answers None words schedule files (Ok a) asked h = tt
traced_answers (Some m) words schedule files (Ok a) asked h = commands.Answers.traced schedule files asked h

-- the command that words ask for, and that they ask for none
pub asked_is : (words : List (List ℕ)) (o : Option Command) (x y : Command) → o ≡ Some x → x ≡ y → IfSome o (λ c. Asks words c) → Asks words y
asked_is words o x y is same h = subst (Asks words) same (subst (λ (p : Option Command). IfSome p (λ c. Asks words c)) is h)

pub nothing_is : (words : List (List ℕ)) (o : Option Command) → o ≡ None → IfNone o (AskNothing words) → AskNothing words
nothing_is words o is h = subst (λ (p : Option Command). IfNone p (AskNothing words)) is h
