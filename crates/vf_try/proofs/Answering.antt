-- What is answered, and what is told of it.
use Rattle.std.proofs.Common.{◌≡◌, ◌∙◌, refl, sym, ap, subst, inl, inr, ℕ, ◌+◌, ◌<◌, List, [], ◌∷◌, ◌++◌, length, get_or, take, map, Some, None, IfSome, Result, Ok, Err, IfOk, Bool, true, false}
use Rattle.std.proofs.lemmas.List.{append_assoc, append-nil, map-append, take_more}
use Rattle.vf_base.specs.declared.memory.Memory.{Memory}
use Rattle.vf_base.specs.declared.rule.Rule.{Rule}
use Rattle.vf_base.specs.declared.refusal.Shown.{Shown}
use Rattle.vf_program.specs.Programs.{program_of_units}
use Rattle.vf_link.specs.Statements.{all_lines}
use Rattle.vf_link.specs.Linking.{IsMain, IsRefusal, Links}
use Rattle.vf_link.specs.Refusals.{rule_of, shown_of}
use Rattle.vf_link.specs.declared.refusal.LinkRefusal.{LinkRefusal}
use Rattle.vf_report.specs.Lines.{linked_line, unlinked_line}
use Rattle.vf_base.specs.Outside.{Contents, IsAbsent}
use Rattle.vf_model.specs.declared.words.Event.{Event}
use Rattle.vf_model.specs.declared.words.Outcome.{Outcome}
use Rattle.vf_model.specs.declared.words.Outcome.TheVariants as outcomes
use Rattle.vf_tree.specs.Core.{ProgramTree}
use Rattle.vf_trace.specs.declared.following.Finding.{Finding}
use Rattle.vf_trace.specs.declared.following.Finding.TheVariants as findings
use Rattle.vf_snapshot.specs.Holdings.{Holdings}
use Rattle.vf_manifest.specs.declared.line.Line.{Line}
use Rattle.vf_program.specs.Units.{UnitTree, unit_of}
use Rattle.vf_program.specs.declared.unit.PlainUnit.{PlainUnit}
use Rattle.vf_report.specs.declared.status.Status.{Status}
use Rattle.vf_report.specs.declared.status.Status.TheVariants as statuses
use Rattle.vf_report.specs.Status.{IsTold}
use Rattle.vf_report.specs.Loaded.{HasSchedule}
use Rattle.vf_try.specs.declared.purpose.Purpose.{Purpose}
use Rattle.vf_try.specs.declared.purpose.Purpose.TheVariants.{Run, Trace}
use Rattle.vf_try.specs.declared.files.FileRead.{FileRead}
use Rattle.vf_try.specs.Files.{FileTree, FilesRead, file_of, IsSomeAbsent, is_any_refused, manifests_in, plains_in}
use Rattle.vf_try.specs.Runs.{ProgramPrints, RunPrints, TracePrints, status_of_finding, status_of_outcome}
use Rattle.vf_try.specs.Runs as runs
use Rattle.vf_try.specs.Answers.{Answers, IsAnswer, IsLackingOne, Prints, RestPrints, UnitsPrint, file_line, file_lines, path_by}
use Rattle.vf_try.specs.Answers as answers

-- ---- the statuses of answers
outcome_told : (o : Outcome) → IsTold (status_of_outcome o)
outcome_told (outcomes.Returned n) = tt
outcome_told outcomes.Aborted = tt
outcome_told outcomes.Blocked = tt
outcome_told outcomes.Running = tt
outcome_told (outcomes.Fault kind place) = tt

finding_told : (f : Finding) → IsTold (status_of_finding f)
finding_told findings.Clean = tt
finding_told (findings.Fault count thread kind place) = tt
finding_told (findings.Race count first first_place second second_place) = tt

run_told : {path_of : ℕ → List ℕ} {p : ProgramTree} {events : List Event} {status : Status} {text : List ℕ} → RunPrints path_of p events status text → IsTold status
run_told (runs.ends h) = outcome_told _
run_told (runs.RunPrints.stops new limit h) = tt

trace_told : {path_of : ℕ → List ℕ} {p : ProgramTree} {events : List Event} {status : Status} {text : List ℕ} → TracePrints path_of p events status text → IsTold status
trace_told (runs.found new finding h) = finding_told finding
trace_told (runs.TracePrints.stops new count limit h passed) = tt

program_told : (purpose : Purpose) (path_of : ℕ → List ℕ) (p : ProgramTree) (events : List Event) (status : Status) (text : List ℕ) → ProgramPrints purpose path_of p events status text → IsTold status
program_told Run path_of p events status text h = run_told h
program_told Trace path_of p events status text h = trace_told h

units_told : {purpose : Purpose} {path_of : ℕ → List ℕ} {manifests : List (List Line)} {plains : List UnitTree} {events : List Event} {status : Status} {text : List ℕ} → UnitsPrint purpose path_of manifests plains events status text → IsTold status
units_told (answers.refused refusal h) = tt
units_told {purpose = purpose} (answers.linked at main links is h) = program_told purpose _ _ _ _ _ h

rest_told : (b : Bool) (purpose : Purpose) (path_of : ℕ → List ℕ) (manifests : List (List Line)) (plains : List UnitTree) (events : List Event) (status : Status) (text : List ℕ) → RestPrints b purpose path_of manifests plains events status text → IsTold status
rest_told true purpose path_of manifests plains events status text h = subst IsTold (sym h.0) tt
rest_told false purpose path_of manifests plains events status text h = units_told h

pub prints_told : (purpose : Purpose) (held : Holdings) (files : List FileTree) (events : List Event) (status : Status) (text : List ℕ) → Prints purpose held files events status text → IsTold status
prints_told purpose held files events status text h = rest_told _ purpose _ _ _ events status h.rest h.prints

-- ---- answers over files that are told
pub answered : (contents mid : Contents) (purpose : Purpose) (schedule : List ℕ) (paths : List (List ℕ)) (events : List Event) (held : Holdings) (files : List FileTree) (status : Status) (text : List ℕ) → mid ≡ contents
    → IfSome contents (λ m. HasSchedule m schedule events) → FilesRead mid [] paths files held → Prints purpose held files events status text
    → IfSome contents (λ m. IsAnswer m purpose schedule paths status text)
answered None mid purpose schedule paths events held files status text same has read prints = tt
answered (Some m) mid purpose schedule paths events held files status text same has read prints = record {
  events = events;
  schedule_is = has;
  answers = record { held = held; files = files; read = subst (λ c. FilesRead c [] paths files held) same read; prints = prints };
}

-- no schedule is there
pub lacks_schedule : (contents : Contents) (schedule : List ℕ) (paths : List (List ℕ)) → IsAbsent contents schedule → IfSome contents (λ m. IsLackingOne m schedule paths)
lacks_schedule None schedule paths h = tt
lacks_schedule (Some m) schedule paths h = inl h

-- no source file is there
pub lacks_source : (contents mid : Contents) (schedule : List ℕ) (paths : List (List ℕ)) (events : List Event) → mid ≡ contents → IfSome contents (λ m. HasSchedule m schedule events) → IsSomeAbsent mid paths → IfSome contents (λ m. IsLackingOne m schedule paths)
lacks_source None mid schedule paths events same h absent = tt
lacks_source (Some m) mid schedule paths events same h absent = inr ((events, h), subst (λ (x : Contents). IsSomeAbsent x paths) same absent)

-- ---- what is printed of units
units_linked : (purpose : Purpose) (path_of : ℕ → List ℕ) (manifests : List (List Line)) (plains : List UnitTree) (events : List Event) (at : ℕ) (main : List ℕ) (p : ProgramTree) (status : Status) (old mid new : List ℕ)
    → Links (all_lines manifests) → IsMain manifests at main → mid ≡ old ++ linked_line → p ≡ program_of_units plains main → ((x : List ℕ) × (new ≡ mid ++ x) × ProgramPrints purpose path_of p events status x)
    → (x : List ℕ) × (new ≡ old ++ x) × UnitsPrint purpose path_of manifests plains events status x
units_linked purpose path_of manifests plains events at main p status old mid new links is_main mid_is is (x, new_is, prints) =
    (linked_line ++ x, new_is ∙ ap (λ (t : List ℕ). t ++ x) mid_is ∙ append_assoc old linked_line x, answers.linked at main links is_main (subst (λ (q : ProgramTree). ProgramPrints purpose path_of q events status x) is prints))

-- units that are handed over by other names link, and their program is printed
pub units_run : (purpose : Purpose) (path_of : ℕ → List ℕ) (ms manifests : List (List Line)) (listed us : List PlainUnit) (events : List Event) (at : ℕ) (named main : List ℕ) (p : ProgramTree) (r : Result Status Memory) (old mid new : List ℕ)
    → ms ≡ manifests → listed ≡ us → named ≡ main → Links (all_lines ms) → IsMain ms at main → mid ≡ old ++ linked_line → p ≡ program_of_units (map unit_of listed) named
    → IfOk r (λ s. (x : List ℕ) × (new ≡ mid ++ x) × ProgramPrints purpose path_of p events s x)
    → IfOk r (λ s. (x : List ℕ) × (new ≡ old ++ x) × UnitsPrint purpose path_of manifests (map unit_of us) events s x)
units_run purpose path_of ms manifests listed us events at named main p (Ok s) old mid new same all is links is_main mid_is p_is h =
    units_linked purpose path_of manifests (map unit_of us) events at main p s old mid new
    (subst (λ (x : List (List Line)). Links (all_lines x)) same links) (subst (λ (x : List (List Line)). IsMain x at main) same is_main) mid_is
    (p_is ∙ ap (λ (x : List PlainUnit). program_of_units (map unit_of x) named) all ∙ ap (program_of_units (map unit_of us)) is) h
units_run purpose path_of ms manifests listed us events at named main p (Err e) old mid new same all is links is_main mid_is p_is h = tt

pub units_refused : (purpose : Purpose) (path_of : ℕ → List ℕ) (ms manifests : List (List Line)) (plains : List UnitTree) (events : List Event) (refusal : LinkRefusal) (rule : Rule) (shown : Shown) (old new : List ℕ)
    → ms ≡ manifests → rule ≡ rule_of refusal → shown ≡ shown_of refusal → new ≡ old ++ unlinked_line rule shown → IsRefusal (all_lines ms) refusal
    → (x : List ℕ) × (new ≡ old ++ x) × UnitsPrint purpose path_of manifests plains events statuses.LinkRefused x
units_refused purpose path_of ms manifests plains events refusal rule shown old new same rule_is shown_is new_is is =
    let h : IsRefusal (all_lines manifests) refusal = subst (λ (x : List (List Line)). IsRefusal (all_lines x) refusal) same is in
    (unlinked_line (rule_of refusal) (shown_of refusal), new_is ∙ ap (λ (r : Rule). old ++ unlinked_line r shown) rule_is ∙ ap (λ (x : Shown). old ++ unlinked_line (rule_of refusal) x) shown_is, answers.refused refusal h)

-- the lines of files that are handed over by another name, at the beginning of a text
lines_of_own : (held : Holdings) (listed own : List FileRead) (old text : List ℕ) → listed ≡ own → old ≡ [] → text ≡ old ++ file_lines held (map file_of listed) → text ≡ file_lines held (map file_of own)
lines_of_own held listed own old text same none is =
    is ∙ ap (λ (t : List ℕ). t ++ file_lines held (map file_of listed)) none ∙ ap (λ (fs : List FileRead). file_lines held (map file_of fs)) same

-- the lines of files and of one more
lines_more : (held : Holdings) (fs : List FileTree) (f : FileTree) → file_lines held (fs ++ f ∷ []) ≡ file_lines held fs ++ file_line held f
lines_more held [] f = append-nil (file_line held f)
lines_more held (g ∷ fs) f = ap (λ (t : List ℕ). file_line held g ++ t) (lines_more held fs f) ∙ sym (append_assoc (file_line held g) (file_lines held fs) (file_line held f))

-- one file more was printed
pub lines_on : (held : Holdings) (files : List FileRead) (k : ℕ) (f : FileRead) (old mid new : List ℕ)
    → k < length files → get_or files k f ≡ f → mid ≡ old ++ file_lines held (map file_of (take k files)) → new ≡ mid ++ file_line held (file_of f)
    → new ≡ old ++ file_lines held (map file_of (take (k + 1) files))
lines_on held files k f old mid new low is mid_is new_is =
    new_is ∙ ap (λ (t : List ℕ). t ++ file_line held (file_of f)) mid_is
    ∙ append_assoc old (file_lines held (map file_of (take k files))) (file_line held (file_of f))
    ∙ ap (λ (t : List ℕ). old ++ t) (sym (lines_more held (map file_of (take k files)) (file_of f)))
    ∙ ap (λ (fs : List FileTree). old ++ file_lines held fs) (sym more)
  where
    more : map file_of (take (k + 1) files) ≡ map file_of (take k files) ++ file_of f ∷ []
    more =
        ap (map file_of) (take_more files k f low)
        ∙ map-append file_of (take k files) (get_or files k f ∷ [])
        ∙ ap (λ (x : FileRead). map file_of (take k files) ++ file_of x ∷ []) is

-- ---- the text for files that were read
pub prints_refused : (purpose : Purpose) (held : Holdings) (listed own : List FileRead) (events : List Event) (b : Bool) (old text : List ℕ)
    → listed ≡ own → b ≡ is_any_refused (map file_of own) → b ≡ true → old ≡ [] → text ≡ old ++ file_lines held (map file_of listed)
    → Prints purpose held (map file_of own) events statuses.Refused text
prints_refused purpose held listed own events b old text same b_is true_is none is = record {
  rest = [];
  text_is = lines_of_own held listed own old text same none is ∙ sym (append-nil (file_lines held (map file_of own)));
  prints = subst (λ (c : Bool). RestPrints c purpose (path_by held) (manifests_in (map file_of own)) (plains_in (map file_of own)) events statuses.Refused []) (sym true_is ∙ b_is) (refl, refl);
}

pub prints_units : (purpose : Purpose) (held : Holdings) (listed own : List FileRead) (events : List Event) (b : Bool) (manifests : List (List Line)) (plains : List UnitTree) (status : Status) (old mid text : List ℕ)
    → listed ≡ own → b ≡ is_any_refused (map file_of own) → b ≡ false → manifests ≡ manifests_in (map file_of own) → plains ≡ plains_in (map file_of own) → old ≡ [] → mid ≡ old ++ file_lines held (map file_of listed)
    → ((x : List ℕ) × (text ≡ mid ++ x) × UnitsPrint purpose (path_by held) manifests plains events status x)
    → Prints purpose held (map file_of own) events status text
prints_units purpose held listed own events b manifests plains status old mid text same b_is false_is ms ps none is (x, text_is, prints) = record {
  rest = x;
  text_is = text_is ∙ ap (λ (t : List ℕ). t ++ x) (lines_of_own held listed own old mid same none is);
  prints = subst (λ (c : Bool). RestPrints c purpose (path_by held) (manifests_in (map file_of own)) (plains_in (map file_of own)) events status x) (sym false_is ∙ b_is)
      (subst (λ (m : List (List Line)). UnitsPrint purpose (path_by held) m (plains_in (map file_of own)) events status x) ms (subst (λ (u : List UnitTree). UnitsPrint purpose (path_by held) manifests u events status x) ps prints));
}
