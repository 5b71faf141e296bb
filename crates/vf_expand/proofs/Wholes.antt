-- The whole unit from its walk.
use Rattle.std.proofs.Common.{◌≡◌, List, [], ℕ, Result, Ok, Err, sym, ap, subst, ◌∙◌}
use Rattle.vf_preproc.specs.declared.fault.ExpandFault.{ExpandFault}
use Rattle.vf_preproc.specs.declared.fault.ExpandFault.TheVariants as faults
use Rattle.vf_preproc.specs.declared.sources.Loaded.{Loaded}
use Rattle.vf_preproc.specs.Directives.{Fault, ◌>>=◌}
use Rattle.vf_preproc.specs.Answers.{Gives}
use Rattle.vf_preproc.specs.UnitText.{Library, Text_of_unit, completed}
use Rattle.vf_preproc.specs.Units.{unit_of}
use Rattle.vf_expand.specs.declared.state.Walk.{Walk}
use Rattle.vf_expand.specs.declared.whole.UnitTokens.{UnitTokens}
use Rattle.vf_expand.specs.Walks.{text_from, walk_text, going_of}
use Rattle.vf_expand.specs.Steps.{Faults}
use Rattle.vf_expand.specs.Wholes.{end_of, counted, text_of_file, text_of, NamedGives, FileGives, UnitGives, Starts}
use Rattle.vf_expand.proofs.Walking.{going_at_first, fails_faults}

-- the text of a unit is what its walk gives, with its tokens counted
pub whole_text : (library : Library) (path : List ℕ) (file : Loaded) (walk : Walk) → Starts path file walk → text_of_file library path file ≡ (walk_text library walk >>= λ s. counted (end_of file.number file.bytes) (completed 0 s.0 s.1))
whole_text library path file walk starts =
    ap (λ r. r >>= λ s. counted (end_of file.number file.bytes) (completed 0 s.0 s.1)) (sym (
    ap (λ ps. text_from library ps (going_of walk.current) (unit_of walk.unit)) starts.pauses
    ∙ ap (λ g. text_from library [] g (unit_of walk.unit)) starts.current
    ∙ ap (text_from library [] (going_at_first path file 0)) starts.unit))

-- what is given of a unit that was counted
pub counted_gives : (text : Result Text_of_unit Fault) (r : Result UnitTokens ExpandFault) (t : Result Text_of_unit Fault) → text ≡ t → Gives text_of r t → FileGives text r
counted_gives text (Ok u) t same h = same ∙ h
counted_gives text (Err e) t same h = subst (Faults e) (sym same) (fails_faults e t h)

-- a fault of the file that a unit is of is one of the unit
pub named_fails : (r : Result Loaded Fault) (f : Loaded → Result Text_of_unit Fault) (e : ExpandFault) → NamedGives r (Err e) → UnitGives (r >>= f) (Err e)
named_fails r f (faults.Refused x) h = (ap (λ q. q >>= f) h.0, h.1)
named_fails r f faults.Missing h = ap (λ q. q >>= f) h
named_fails r f faults.ReadFault h = tt
named_fails r f faults.Memory h = tt

-- what is given of a unit whose file was read
pub file_unit : (text t : Result Text_of_unit Fault) (r : Result UnitTokens ExpandFault) → text ≡ t → FileGives t r → UnitGives text r
file_unit text t (Ok u) same h = same ∙ h
file_unit text t (Err (faults.Refused x)) same h = (same ∙ h.0, h.1)
file_unit text t (Err faults.Missing) same h = absurd h
file_unit text t (Err faults.ReadFault) same h = tt
file_unit text t (Err faults.Memory) same h = tt
