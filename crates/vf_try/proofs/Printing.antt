-- What is printed of a program's run, and of the search in it.
use Rattle.std.proofs.Common.{◌≡◌, ◌∙◌, sym, ap, subst, ℕ, List, ◌++◌, length, Err, arith}
use Rattle.std.specs.List.{fold}
use Rattle.std.proofs.lemmas.List.{take_all, append_assoc}
use Rattle.vf_tree.specs.Core.{ProgramTree}
use Rattle.vf_model.specs.declared.words.Event.{Event}
use Rattle.vf_model.specs.declared.words.Outcome.{Outcome}
use Rattle.vf_model.specs.State.{State}
use Rattle.vf_model.specs.Runs.{after, opening, outcome_of, reach}
use Rattle.vf_engine.specs.declared.words.Limit.{Limit}
use Rattle.vf_engine.specs.declared.words.StepFault.{StepFault}
use Rattle.vf_engine.specs.declared.words.StepFault.TheVariants as refusals
use Rattle.vf_trace.specs.declared.following.Finding.{Finding}
use Rattle.vf_trace.specs.Traces.{IsFound, IsTraced}
use Rattle.vf_report.specs.declared.status.Status.{Status}
use Rattle.vf_report.specs.declared.status.Status.TheVariants as statuses
use Rattle.vf_report.specs.Lines.{capacity_line, closed_output, finding_line, outcome_line, run_lines}
use Rattle.vf_try.specs.Runs.{Follows, IsFull, RunPrints, TracePrints, status_of_finding, status_of_outcome}
use Rattle.vf_try.specs.Runs as runs

-- a run to the end of its events
pub run_ends : (path_of : ℕ → List ℕ) (p q r : ProgramTree) (s now : State) (events : List Event) (out old mid new : List ℕ) (outcome : Outcome) (status : Status)
    → q ≡ p → s ≡ opening p → r ≡ q → Follows q s events (length events) now → out ≡ now.output → mid ≡ old ++ closed_output out → outcome ≡ outcome_of r now → new ≡ mid ++ outcome_line path_of outcome → status ≡ status_of_outcome outcome
    → (x : List ℕ) × (new ≡ old ++ x) × RunPrints path_of p events status x
run_ends path_of p q r s now events out old mid new outcome status same begun kept follows out_is mid_is outcome_is new_is status_is =
    let all : Follows p (opening p) events (length events) now = subst (λ (t : State). Follows p t events (length events) now) begun (subst (λ (g : ProgramTree). Follows g s events (length events) now) same follows) in
    let reached : now ≡ reach p events = all.state ∙ ap (fold (after p) (opening p)) (take_all (length events) events (omega arith)) in
    let out_reached : out ≡ (reach p events).output = out_is ∙ ap (λ (t : State). t.output) reached in
    let outcome_reached : outcome ≡ outcome_of p (reach p events) = outcome_is ∙ ap (λ (g : ProgramTree). outcome_of g now) (kept ∙ same) ∙ ap (outcome_of p) reached in
    let text : new ≡ old ++ run_lines path_of p events =
    new_is ∙ ap (λ (t : List ℕ). t ++ outcome_line path_of outcome) mid_is ∙ append_assoc old (closed_output out) (outcome_line path_of outcome)
    ∙ ap (λ (t : List ℕ). old ++ (closed_output t ++ outcome_line path_of outcome)) out_reached ∙ ap (λ (o : Outcome). old ++ (closed_output (reach p events).output ++ outcome_line path_of o)) outcome_reached in
    (run_lines path_of p events, text, subst (λ (t : Status). RunPrints path_of p events t (run_lines path_of p events)) (sym (status_is ∙ ap status_of_outcome outcome_reached)) (runs.ends (subst (Follows p (opening p) events (length events)) reached all)))

-- a run up to a limit
pub run_stops : (path_of : ℕ → List ℕ) (p q : ProgramTree) (s now : State) (events : List Event) (out old mid new : List ℕ) (limit printed : Limit)
    → q ≡ p → s ≡ opening p → IsFull q s events now limit → out ≡ now.output → mid ≡ old ++ closed_output out → limit ≡ printed → new ≡ mid ++ capacity_line printed
    → (x : List ℕ) × (new ≡ old ++ x) × RunPrints path_of p events statuses.Capacity x
run_stops path_of p q s now events out old mid new limit printed same begun full out_is mid_is shown new_is =
    let all : IsFull p (opening p) events now limit = subst (λ (t : State). IsFull p t events now limit) begun (subst (λ (g : ProgramTree). IsFull g s events now limit) same full) in
    let text : new ≡ old ++ (closed_output now.output ++ capacity_line limit) =
    new_is ∙ ap (λ (l : Limit). mid ++ capacity_line l) (sym shown) ∙ ap (λ (t : List ℕ). t ++ capacity_line limit) mid_is ∙ append_assoc old (closed_output out) (capacity_line limit) ∙ ap (λ (t : List ℕ). old ++ (closed_output t ++ capacity_line limit)) out_is in
    (closed_output now.output ++ capacity_line limit, text, runs.RunPrints.stops now limit all)

-- a search that ends
pub trace_ends : (path_of : ℕ → List ℕ) (p q : ProgramTree) (s now : State) (events : List Event) (finding : Finding) (old new : List ℕ) (status : Status)
    → q ≡ p → s ≡ opening p → IsFound q s events now finding → new ≡ old ++ finding_line path_of finding → status ≡ status_of_finding finding
    → (x : List ℕ) × (new ≡ old ++ x) × TracePrints path_of p events status x
trace_ends path_of p q s now events finding old new status same begun found new_is status_is =
    let all : IsFound p (opening p) events now finding = subst (λ (t : State). IsFound p t events now finding) begun (subst (λ (g : ProgramTree). IsFound g s events now finding) same found) in
    (finding_line path_of finding, new_is, subst (λ (t : Status). TracePrints path_of p events t (finding_line path_of finding)) (sym status_is) (runs.found now finding all))

-- a search up to a limit
pub trace_stops : (path_of : ℕ → List ℕ) (p q : ProgramTree) (s now : State) (events : List Event) (limit printed : Limit) (fault : StepFault) (old new : List ℕ)
    → q ≡ p → s ≡ opening p → fault ≡ refusals.Capacity limit → IsTraced q s events now (Err fault) → limit ≡ printed → new ≡ old ++ capacity_line printed
    → (x : List ℕ) × (new ≡ old ++ x) × TracePrints path_of p events statuses.Capacity x
trace_stops path_of p q s now events limit printed fault old new same begun is traced shown new_is =
    let all : IsTraced p (opening p) events now (Err (refusals.Capacity limit)) =
    subst (λ (f : StepFault). IsTraced p (opening p) events now (Err f)) is (subst (λ (t : State). IsTraced p t events now (Err fault)) begun (subst (λ (g : ProgramTree). IsTraced g s events now (Err fault)) same traced)) in
    (capacity_line limit, new_is ∙ ap (λ (l : Limit). old ++ capacity_line l) (sym shown), runs.TracePrints.stops now all.0 limit all.1 all.2)
