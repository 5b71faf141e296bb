-- How what the code answers stands to what the definitions say.
use Rattle.std.specs.Prelude.{◌≡◌, Result, Ok, Err}
use Rattle.vf_base.specs.declared.refusal.Shown.TheVariants as shown
use Rattle.vf_preproc.specs.declared.fault.ExpandFault.{ExpandFault}
use Rattle.vf_preproc.specs.declared.fault.ExpandFault.TheVariants as faults
use Rattle.vf_preproc.specs.Directives.{Fault, Refused}

-- a refusal is that of the definition, want of memory says nothing, and of what a file's lines mean there are no other faults
abbrev pub Fails : {A : Type 0} → ExpandFault → Result A Fault → Type 0
Fails (faults.Refused r) text = (text ≡ Err (Refused r.rule r.place)) × (r.shown ≡ shown.Nothing)
Fails faults.Missing text = ⊥
Fails faults.ReadFault text = ⊥
Fails faults.Memory text = Unit {0}

-- an answer, seen by `view`, is that of the definition
abbrev pub Gives : {X A : Type 0} → (X → A) → Result X ExpandFault → Result A Fault → Type 0
Gives view (Ok x) text = text ≡ Ok (view x)
Gives view (Err e) text = Fails e text
