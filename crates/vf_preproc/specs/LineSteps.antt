-- Lines, an include being left to do.
use Rattle.std.specs.Prelude.{◌≡◌, Bool, List, [], ◌∷◌, Result, Ok, Err}
use Rattle.vf_preproc.specs.declared.fault.ExpandFault.{ExpandFault}
use Rattle.vf_preproc.specs.declared.steps.Step.{Step}
use Rattle.vf_preproc.specs.declared.steps.Step.TheVariants as steps
use Rattle.vf_preproc.specs.declared.steps.File.{File as KeptFile}
use Rattle.vf_lexer.specs.declared.token.Token.{Token}
use Rattle.vf_preproc.specs.Directives.{Fault}
use Rattle.vf_preproc.specs.Answers.{Fails}
use Rattle.vf_preproc.specs.UnitText.{File, Includer, Unit_so_far, Scope, included}

-- the file that is being expanded
abbrev pub file_of : KeptFile → File
file_of f = record { path = f.path.now; bytes = f.bytes.now }

-- what a line makes of a unit and a file, for each way in which includes are done
abbrev pub Meaning : Type 0
Meaning = Includer → Result (Unit_so_far × Scope) Fault

-- what was done of a line: all of it, nothing where it is an include, or it is refused
abbrev pub StepGives : Meaning → (Bool → Meaning) → Unit_so_far → Scope → Scope → Result Step ExpandFault → Type 0
StepGives text include_text unit old new (Ok steps.Done) = (include : Includer) → text include ≡ Ok (unit, new)
StepGives text include_text unit old new (Ok (steps.Include ghost)) = (new ≡ old) × ((include : Includer) → text include ≡ include_text ghost include)
StepGives text include_text unit old new (Err e) = (include : Includer) → Fails e (text include)

-- the include that a line is, in ghost text or not
abbrev pub line_included : Includer → File → List Token → Bool → Unit_so_far → Scope → Result (Unit_so_far × Scope) Fault
line_included include file [] ghost unit scope = Ok (unit, scope)
line_included include file (t ∷ ts) ghost unit scope = included include file t.place ghost ts unit scope
