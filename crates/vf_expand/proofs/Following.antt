-- What a line is, and what it leaves of its file.
use Rattle.std.proofs.Common.{◌≡◌, ℕ, ◌-◌, Bool, List, ◌∷◌, length, take, drop, Some, None, Ok, Err, sym, ap, subst, ◌∙◌}
use Rattle.vf_lexer.specs.declared.token.Token.{Token}
use Rattle.vf_preproc.specs.declared.fault.ExpandFault.{ExpandFault}
use Rattle.vf_preproc.specs.declared.steps.Step.TheVariants as steps
use Rattle.vf_preproc.specs.Directives.{◌>>=◌, lines_of}
use Rattle.vf_preproc.specs.Answers.{Fails}
use Rattle.vf_preproc.specs.Targets.{target}
use Rattle.vf_preproc.specs.LineSteps.{line_included, StepGives}
use Rattle.vf_preproc.specs.UnitText.{File, Includer, Unit_so_far, Scope, line, with_header}
use Rattle.vf_expand.specs.declared.frames.Include.{Include}
use Rattle.vf_expand.specs.Walks.{going_text}
use Rattle.vf_expand.specs.Steps.{line_with, include_text, WantedGives, FirstGives}
use Rattle.vf_expand.proofs.Paths.{path_ascii}
use Rattle.vf_expand.proofs.Walking.{fails_then, line_done, line_include, line_fails}

-- the include that a line is, by its first token
pub wanted_given : (file : File) (tokens : List Token) (ghost : Bool) (t : Token) (path : List ℕ) → tokens ≡ t ∷ take (length tokens - 1) (drop 1 tokens) → target ghost file.path file.bytes t.place (take (length tokens - 1) (drop 1 tokens)) ≡ Ok path
    → WantedGives file tokens ghost (Ok (record { path = path; hash = t.place; is_ghost = ghost }))
wanted_given file tokens ghost t path split means = (
  path_ascii ghost file.path file.bytes t.place (take (length tokens - 1) (drop 1 tokens)) path means,
  λ include unit scope.
      ap (λ ts. line_included include file ts ghost unit scope) split
      ∙ ap (λ q. q >>= λ p. include p t.place unit >>= λ found. with_header ghost t.place found.0.names found.1 scope >>= λ s. Ok (found.0, s)) means,
)

pub wanted_fails : (file : File) (tokens : List Token) (ghost : Bool) (t : Token) (e : ExpandFault) → tokens ≡ t ∷ take (length tokens - 1) (drop 1 tokens) → Fails e (target ghost file.path file.bytes t.place (take (length tokens - 1) (drop 1 tokens)))
    → WantedGives file tokens ghost (Err e)
wanted_fails file tokens ghost t e split fails = λ include unit scope.
    subst (λ ts. Fails e (line_included include file ts ghost unit scope)) (sym split)
    (fails_then e (target ghost file.path file.bytes t.place (take (length tokens - 1) (drop 1 tokens))) _ fails)

-- what is done of a line is what is done of the file that it begins
pub going_done : (file : File) (rest l : List Token) (more : List (List Token)) (unit after : Unit_so_far) (scope new : Scope) → lines_of rest ≡ l ∷ more → FirstGives file l unit scope after new (Ok None) → (include : Includer)
    → going_text include (record { file = file; lines = lines_of rest; scope = scope }) unit ≡ going_text include (record { file = file; lines = more; scope = new }) after
going_done file rest l more unit after scope new first gives include =
    ap (λ ls. going_text include (record { file = file; lines = ls; scope = scope }) unit) first ∙ line_done include file l more unit after scope new (gives include)

pub going_include : (file : File) (rest l : List Token) (more : List (List Token)) (unit after : Unit_so_far) (scope new : Scope) (i : Include) → lines_of rest ≡ l ∷ more → FirstGives file l unit scope after new (Ok (Some i)) → (include : Includer)
    → going_text include (record { file = file; lines = lines_of rest; scope = scope }) unit ≡ include_text include i (record { file = file; lines = more; scope = new }) after
going_include file rest l more unit after scope new i first gives include =
    ap (λ ls. going_text include (record { file = file; lines = ls; scope = scope }) unit) first ∙ line_include include file l more unit after scope new i (gives.1 include)

pub going_fails : (file : File) (rest l : List Token) (more : List (List Token)) (unit after : Unit_so_far) (scope new : Scope) (e : ExpandFault) → lines_of rest ≡ l ∷ more → FirstGives file l unit scope after new (Err e) → (include : Includer)
    → Fails e (going_text include (record { file = file; lines = lines_of rest; scope = scope }) unit)
going_fails file rest l more unit after scope new e first gives include =
    subst (λ ls. Fails e (going_text include (record { file = file; lines = ls; scope = scope }) unit)) (sym first) (line_fails include file l more unit scope e (gives include))

-- a line that is an include, by the include that it is
pub first_include : (file : File) (tokens : List Token) (unit after : Unit_so_far) (scope new : Scope) (ghost : Bool) (i : Include)
    → StepGives (λ include. line include file tokens unit scope) (λ g include. line_included include file tokens g unit scope) after scope new (Ok (steps.Include ghost))
    → after ≡ unit → WantedGives file tokens ghost (Ok i) → FirstGives file tokens unit scope after new (Ok (Some i))
first_include file tokens unit after scope new ghost i step same wanted = (
  wanted.0,
  λ include. step.1 include ∙ wanted.1 include unit scope ∙ ap (λ u. line_with include i u scope) (sym same) ∙ ap (λ s. line_with include i after s) (sym step.0),
)

pub first_fails : (file : File) (tokens : List Token) (unit after other : Unit_so_far) (scope new : Scope) (ghost : Bool) (e : ExpandFault)
    → StepGives (λ include. line include file tokens unit scope) (λ g include. line_included include file tokens g unit scope) after scope new (Ok (steps.Include ghost))
    → WantedGives file tokens ghost (Err e) → FirstGives file tokens unit scope other new (Err e)
first_fails file tokens unit after other scope new ghost e step wanted = λ include. subst (Fails e) (sym (step.1 include)) (wanted include unit scope)
