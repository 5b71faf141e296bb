-- Items that went through the phases.
use Rattle.std.proofs.Common.{◌≡◌, sym, subst, ℕ, List, Result, Ok, Err, IfOk}
use Rattle.vf_base.specs.declared.memory.Memory.{Memory}
use Rattle.vf_base.specs.declared.refusal.Refusal.{Refusal}
use Rattle.vf_base.specs.declared.refusal.RuleFault.TheVariants as faults
use Rattle.vf_snapshot.specs.Holdings.{Holdings}
use Rattle.vf_preproc.specs.UnitText.{Text_of_unit}
use Rattle.vf_declared.specs.declared.scope.Scope.{Scope}
use Rattle.vf_syntax.specs.declared.item.Item.{Item}
use Rattle.vf_first.specs.FirstForm.{first_form}
use Rattle.vf_phases.specs.Phases.{IsPhased}
use Rattle.vf_tool.specs.declared.reading.Reading.{Reading}
use Rattle.vf_module.specs.Readings.{files_by}
use Rattle.vf_tool.specs.Readings.{ItemsRead, core_or, result_of}
use Rattle.vf_tool.specs.Readings as readings

-- items that pass read as their core, where they are of the first form
pub passed : (held : Holdings) (path : List ℕ) (unit : Text_of_unit) (items : List Item) (scope : Scope) (r : Result Reading Memory) → IsPhased (files_by held unit) items (Ok scope) → IfOk r (λ x. result_of x ≡ core_or unit.end_of_file.file items (first_form path unit.end_of_file.file items)) → IfOk r (λ x. ItemsRead held path unit items (result_of x))
passed held path unit items scope (Ok x) h e = subst (ItemsRead held path unit items) (sym e) (readings.passes h.answers)
passed held path unit items scope (Err m) h e = tt

-- items that are refused
pub stopped : (held : Holdings) (path : List ℕ) (unit : Text_of_unit) (items : List Item) (refusal : Refusal) → IsPhased (files_by held unit) items (Err (faults.Refused refusal)) → ItemsRead held path unit items (Err refusal)
stopped held path unit items refusal h = readings.stops h.answers
