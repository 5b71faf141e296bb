use Rattle.std.proofs.Common.{◌≡◌, ℕ, ◌<◌, false, Some, slice_get}
use Rattle.vf_model.specs.Values.{same_identity}
use Rattle.vf_core.specs.Shown.{identity_of}
use Rattle.vf_core.specs.declared.step.StructBody.{StructBody}
use Rattle.vf_core.proofs.resolve.fields_named.Given as goal

-- no struct before this one has the name
abbrev pub invariant-loop-i : goal.invariant-loop-i
invariant-loop-i l =
    (k : ℕ) (f : StructBody) → k < l.i → slice_get l.unit.structs k ≡ Some f → same_identity (identity_of l.unit.names f.identity) l.text ≡ false
