-- Verdicts from what reading, beginning and checking say.
use Rattle.std.proofs.Common.{◌≡◌, ◌∙◌, inl, inr, refl, sym, ap, subst, List, [], ℕ, Result, Ok, Err}
use Rattle.vf_base.specs.declared.refusal.Refusal.{Refusal}
use Rattle.vf_base.specs.declared.refusal.RuleFault.TheVariants.{Refused as Blamed}
use Rattle.vf_snapshot.specs.Holdings.{Holdings}
use Rattle.vf_preproc.specs.UnitText.{Library}
use Rattle.vf_preproc.specs.Units.{Tells}
use Rattle.vf_tree.specs.declared.unit.Core.{Core}
use Rattle.vf_definitions.specs.declared.fixpoint.Fixpoint.{Fixpoint}
use Rattle.vf_asking.specs.declared.journal.Journal.{Journal}
use Rattle.vf_asking.specs.Journal.{Seen, seen, begun, HasBegun}
use Rattle.vf_asking.specs.Course.{Follows, Blames}
use Rattle.vf_asking.proofs.Seeing.{seen_begun}
use Rattle.vf_exec.specs.Main.{checks}
use Rattle.vf_tool.specs.declared.verdict.Verdict.{Verdict}
use Rattle.vf_tool.specs.declared.verdict.Verdict.TheVariants.{Accepted, Refused}
use Rattle.vf_tool.specs.Readings.{ReadsAs}
use Rattle.vf_tool.specs.Verdict.{Checked, Judged, JudgedBy}

-- a journal in which a unit was begun without definitions
begun_bare : (j k : Journal) (defs : List Fixpoint) → defs ≡ [] → HasBegun defs j k → seen k ≡ begun [] (seen j)
begun_bare j k defs none begins = seen_begun defs j k begins ∙ ap (λ (d : List Fixpoint). begun d (seen j)) none

pub accepts : (core : Core) (j k : Journal) (defs : List Fixpoint) (t : Seen) → defs ≡ [] → HasBegun defs j k → Follows (checks core) (seen k) t (Ok tt) → Checked core (seen j) t (Accepted core)
accepts core j k defs t none begins p = (refl, subst (λ (s : Seen). Follows (checks core) s t (Ok tt)) (begun_bare j k defs none begins) p)

pub refuses : (core : Core) (j k : Journal) (defs : List Fixpoint) (t : Seen) (refusal : Refusal) → defs ≡ [] → HasBegun defs j k → Blames (checks core) (seen k) t (Blamed refusal) → Checked core (seen j) t (Refused refusal)
unfolding Blames
refuses core j k defs t refusal none begins p = subst (λ (s : Seen). Follows (checks core) s t (Err refusal)) (begun_bare j k defs none begins) p

-- the file at a path reads as this, whatever stands in files of which nothing is held
abbrev pub ReadsBy : Holdings → List ℕ → Result Core Refusal → Type 0
ReadsBy held path r = (library : Library) → Tells library held → ReadsAs held library path r

pub unread : (held : Holdings) (path : List ℕ) (s : Seen) (refusal : Refusal) → ReadsBy held path (Err refusal) → JudgedBy held path s s (Refused refusal)
unread held path s refusal reads = λ library tells. inr (record { reads = reads library tells; quiet = refl })

judged : (held : Holdings) (library : Library) (path : List ℕ) (s t : Seen) (core : Core) (v : Verdict) → ReadsAs held library path (Ok core) → Checked core s t v → Judged held library path s t v
judged held library path s t core (Accepted accepted) reads (same, follows) = record {
  reads = subst (λ (c : Core). ReadsAs held library path (Ok c)) (sym same) reads;
  follows = subst (λ (c : Core). Follows (checks c) (begun [] s) t (Ok tt)) (sym same) follows;
}
judged held library path s t core (Refused refusal) reads follows = inl (record { core = core; reads = reads; follows = follows })

pub checked : (held : Holdings) (path : List ℕ) (s t : Seen) (core : Core) (v : Verdict) → ReadsBy held path (Ok core) → Checked core s t v → JudgedBy held path s t v
checked held path s t core v reads c = λ library tells. judged held library path s t core v (reads library tells) c

pub ruleset checking = (accepts, refuses)

pub ruleset judging = (unread, checked)
