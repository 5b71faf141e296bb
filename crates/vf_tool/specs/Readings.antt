-- What a file reads as: the core of its unit, or its first refusal.
use Rattle.std.specs.Prelude.{◌≡◌, ℕ, List, Option, Some, None, Result, Ok, Err}
use Rattle.vf_base.specs.declared.place.Place.{Place}
use Rattle.vf_base.specs.declared.rule.Rule.TheVariants.{Unsupported, Contract as ContractRule}
use Rattle.vf_base.specs.declared.refusal.Refusal.{Refusal}
use Rattle.vf_snapshot.specs.Holdings.{Holdings}
use Rattle.vf_preproc.specs.Directives.{Fault, Refused}
use Rattle.vf_preproc.specs.UnitText.{Library, Text_of_unit}
use Rattle.vf_expand.specs.Wholes.{text_of_unit}
use Rattle.vf_declared.specs.declared.scope.Scope.{Scope}
use Rattle.vf_syntax.specs.declared.item.Item.{Item}
use Rattle.vf_tree.specs.declared.unit.Core.{Core}
use Rattle.vf_phases.specs.Phases.{IsRefusedInPhases, PassesPhases}
use Rattle.vf_first.specs.FirstForm.{first_form}
use Rattle.vf_contractless.specs.Missing.{missing_contract}
use Rattle.vf_module.specs.Parsing.{items_of, refusal_at}
use Rattle.vf_module.specs.Readings.{files_by}
use Rattle.vf_tool.specs.declared.reading.Reading.{Reading}
use Rattle.vf_tool.specs.declared.reading.Reading.TheVariants as readings

-- rule 11 at the first byte of a file
abbrev pub unsupported : ℕ → Refusal
unsupported file = refusal_at Unsupported (record { file = file; line = 1; column = 1 })

-- the refusal of a file that is not of the first form: where the first item that is checked against a contract has none, rule 28 at its name, and else rule 11 at the first byte
abbrev pub not_formed : ℕ → Option Place → Refusal
not_formed file (Some place) = refusal_at ContractRule place
not_formed file None = unsupported file

-- a core of items, where there is one
abbrev pub core_or : ℕ → List Item → Option Core → Result Core Refusal
core_or file items (Some core) = Ok core
core_or file items None = Err (not_formed file (missing_contract items))

-- the items of a unit read as the refusal in the first phase that refuses them, and else as their core, where they are of the first form
pub data ItemsRead (held : Holdings) (path : List ℕ) (unit : Text_of_unit) (items : List Item) : Result Core Refusal → Type 0 where
  stops : {refusal : Refusal} → IsRefusedInPhases (files_by held unit) items refusal → ItemsRead held path unit items (Err refusal)
  passes : {scope : Scope} → PassesPhases (files_by held unit) items scope → ItemsRead held path unit items (core_or unit.end_of_file.file items (first_form path unit.end_of_file.file items))

-- a unit reads as its items do, or as the refusal where reading them stops
abbrev pub UnitReads : Holdings → List ℕ → Text_of_unit → Result (List Item) Refusal → Result Core Refusal → Type 0
UnitReads held path unit (Ok items) r = ItemsRead held path unit items r
UnitReads held path unit (Err refusal) r = r ≡ Err refusal

-- what the text of a file reads as; as nothing where the file is not there
abbrev pub TextReads : Holdings → List ℕ → Result Text_of_unit Fault → Result Core Refusal → Type 0
TextReads held path (Ok unit) r = UnitReads held path unit (items_of unit) r
TextReads held path (Err (Refused rule place)) r = r ≡ Err (refusal_at rule place)
TextReads held path (Err fault) r = ⊥

-- the file at a path reads as the core of its unit, or as its first refusal, by what a library tells of the files and the paths that are held; as nothing where the file is not there
abbrev pub ReadsAs : Holdings → Library → List ℕ → Result Core Refusal → Type 0
ReadsAs held library path r = TextReads held path (text_of_unit library path) r

-- what is answered of a reading
abbrev pub result_of : Reading → Result Core Refusal
result_of (readings.Core core) = Ok core
result_of (readings.Refused refusal) = Err refusal
