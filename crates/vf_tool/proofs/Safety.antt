-- What is accepted is safe.
use Rattle.std.proofs.Common.{◌≡◌, ◌∙◌, refl, sym, subst, ℕ, List, [], ◌∷◌, Bool, false, Some, IfSome, arith}
use Rattle.vf_base.specs.Outside.{Contents, FileMap}
use Rattle.vf_tree.specs.Shown.{program_of}
use Rattle.vf_tree.specs.declared.unit.Core.{Core}
use Rattle.vf_asking.specs.Journal.{Seen, nothing_seen, begun}
use Rattle.vf_asking.specs.Right.{AreRightFrom}
use Rattle.vf_meaning.specs.GhostValues.{Interpretation, interpreted}
use Rattle.vf_definitions.specs.Laws.{MeetsDefinitions}
use Rattle.vf_meaning.specs.Assertions.{Environment}
use Rattle.vf_meaning.specs.Environments.{Extends}
use Rattle.vf_sound.specs.Environment.{environment_of}
use Rattle.vf_sound.specs.Laws.{IsAlwaysSafe}
use Rattle.vf_sound.proofs.Accepted.{accepted_is_safe}
use Rattle.vf_sound.proofs.Linking.{extends_itself, one_unit_links}
use Rattle.vf_tool.specs.declared.verdict.Verdict.{Verdict}
use Rattle.vf_tool.specs.declared.verdict.Verdict.TheVariants.{Accepted, Refused}
use Rattle.vf_tool.specs.Verdict.{Judged, JudgedBy, IsAccepted}
use Rattle.vf_tool.specs.Run.{IsAnswer}
use Rattle.vf_tool.specs.Safe.{IsSafeLinked, WhereAccepted, IsSafeRun}
use Rattle.vf_snapshot.specs.Holdings.{Holdings}
use Rattle.vf_preproc.specs.UnitText.{Library}
use Rattle.vf_expand.proofs.Telling.{told}
use Rattle.vf_sound.specs.Formed.{IsFormed}
use Rattle.vf_tool.proofs.Readable.{reading_is_formed}

-- what is accepted over a library reads as a core that is formed
formed : (held : Holdings) (library : Library) (file : List ℕ) (t : Seen) (core : Core) → IsAccepted held library file nothing_seen t core → IsFormed core
formed held library file t core accepted = reading_is_formed held library file core accepted.reads

-- a unit of this form has no fixpoints, so that whatever is declared gives them the values of their bodies
nothing_declared : Interpretation
nothing_declared = interpreted (λ g t. false) []

nothing_defined : MeetsDefinitions nothing_declared []
nothing_defined f (k, low, is) = absurd (omega arith)

-- a unit that is accepted by right answers is safe, in each environment that has all of the unit's
always_safe : (held : Holdings) (library : Library) (file : List ℕ) (t : Seen) (core : Core) (e : Environment) → AreRightFrom 0 t → IsAccepted held library file nothing_seen t core → Extends (environment_of core) e → IsAlwaysSafe e (program_of core.plain)
always_safe held library file t core e right accepted extends =
    accepted_is_safe core e nothing_declared 0 (begun [] nothing_seen) t (formed held library file t core accepted) extends nothing_defined (omega arith) accepted.follows right

safe_unit : (held : Holdings) (library : Library) (file : List ℕ) (t : Seen) (core : Core) → AreRightFrom 0 t → IsAccepted held library file nothing_seen t core → IsSafeLinked (environment_of core ∷ []) (program_of core.plain)
safe_unit held library file t core right accepted = record {
  environment = environment_of core;
  linked = one_unit_links core;
  safe = λ events. (always_safe held library file t core (environment_of core) right accepted (extends_itself (environment_of core)) events).0;
  kept = λ e linked events. (always_safe held library file t core e right accepted (linked.all (environment_of core) (0, omega arith, refl)) events).1;
}

safe_verdict : (held : Holdings) (library : Library) (file : List ℕ) (t : Seen) (v : Verdict) → AreRightFrom 0 t → Judged held library file nothing_seen t v → WhereAccepted v
safe_verdict held library file t (Accepted core) right judged = safe_unit held library file t core right judged
safe_verdict held library file t (Refused refusal) right judged = tt

-- a verdict by what is held of the files is one over a library
safe_held : (held : Holdings) (file : List ℕ) (t : Seen) (v : Verdict) → AreRightFrom 0 t → JudgedBy held file nothing_seen t v → WhereAccepted v
safe_held held file t v right judged = let l = told held in safe_verdict held l.0 file t v right (judged l.0 l.1)

-- what a run answers by right answers is safe
pub safe_run : (contents : Contents) (m : FileMap) (schedule file : List ℕ) (t : Seen) (accepted told : Bool) (text : List ℕ) → contents ≡ Some m → AreRightFrom 0 t → accepted ≡ told → IfSome contents (λ n. IsAnswer n schedule file t accepted text) → IsSafeRun m file t told
safe_run contents m schedule file t accepted told text is right same h =
    let a : IsAnswer m schedule file t accepted text = subst (λ (c : Contents). IfSome c (λ n. IsAnswer n schedule file t accepted text)) is h in
    record {
      held = a.answers.held;
      told = a.answers.told;
      verdict = a.answers.verdict;
      judged = a.answers.judged;
      accepted_is = sym same ∙ a.answers.accepted_is;
      safe = safe_held a.answers.held file t a.answers.verdict right a.answers.judged;
    }
