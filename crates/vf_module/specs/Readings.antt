-- What a file reads as: the plain unit of its text and the lines of its manifest, or its first refusal.
use Rattle.std.specs.Prelude.{◌≡◌, ◌⊎◌, ℕ, List, map, None, Result, Ok, Err}
use Rattle.vf_base.specs.declared.refusal.Refusal.{Refusal}
use Rattle.vf_base.specs.declared.refusal.RuleFault.{RuleFault}
use Rattle.vf_base.specs.declared.refusal.RuleFault.TheVariants as faults
use Rattle.vf_base.specs.declared.rule.Rule.TheVariants.{Fixpoint, Order}
use Rattle.vf_snapshot.specs.Holdings.{Holdings}
use Rattle.vf_preproc.specs.Directives.{Fault, Refused}
use Rattle.vf_preproc.specs.UnitText.{Library, Text_of_unit}
use Rattle.vf_expand.specs.Wholes.{text_of_unit}
use Rattle.vf_expand.specs.declared.whole.UnitTokens.{UnitTokens}
use Rattle.vf_declared.specs.declared.scope.Scope.{Scope}
use Rattle.vf_syntax.specs.declared.item.Item.{Item}
use Rattle.vf_sorting.specs.Answers.{Answers}
use Rattle.vf_resolve.specs.declared.files.Files.{Files}
use Rattle.vf_resolve.specs.Beginning.{beginning}
use Rattle.vf_resolve.specs.UnitFiles.{files_of}
use Rattle.vf_recursion.specs.Faults.{first_fault}
use Rattle.vf_order.specs.Statements.{first_unordered}
use Rattle.vf_phases.specs.Phases.{IsRefusedAt, IsRefusedInPhases}
use Rattle.vf_functions.specs.Definitions.{CoreTree}
use Rattle.vf_functions.specs.Erased.{erased_core}
use Rattle.vf_lowering.specs.Units.{ItemsLower}
use Rattle.vf_manifest.specs.declared.line.Line.{Line}
use Rattle.vf_plain.specs.Identities.{paths_of}
use Rattle.vf_plain.specs.Units.{unit_tree}
use Rattle.vf_program.specs.Units.{UnitTree, unit_of}
use Rattle.vf_promises.specs.Lines.{lines_of}
use Rattle.vf_module.specs.Parsing.{items_of, refusal_at}
use Rattle.vf_module.specs.declared.items.ReadUnit.{ReadUnit}
use Rattle.vf_module.specs.declared.reading.Reading.{Reading}
use Rattle.vf_module.specs.declared.reading.Reading.TheVariants as readings

-- what expanding gave of the text of a unit
abbrev pub tokens_of : Text_of_unit → UnitTokens
tokens_of unit = record { tokens = unit.tokens; headers = unit.headers; includes = unit.includes; «end» = unit.end_of_file }

-- the files of a unit, by the paths that are held
abbrev pub files_by : Holdings → Text_of_unit → Files
files_by held unit = files_of (tokens_of unit) held

-- a unit that passed its phases: its plain reading, and the lines of its manifest
pub record UnitRead : Type 0 where
  pub plain : UnitTree
  pub manifest : List Line

-- the unit that the code has
abbrev pub read_of : ReadUnit → UnitRead
read_of r = record { plain = unit_of r.plain; manifest = r.manifest }

-- items pass their phases and read as this: they declare what stands in a scope and make functions, their fixpoints have values, and the order of no two operands matters; the plain unit has what is left of the functions without their annotations, and the manifest has the lines of the items
pub record ItemsPass (held : Holdings) (unit : Text_of_unit) (items : List Item) (read : UnitRead) : Type 0 where
  pub scope : Scope
  pub cores : List CoreTree
  pub lower : ItemsLower items (beginning (files_by held unit) items) cores scope
  pub fixpoints : first_fault items ≡ None
  pub ordered : first_unordered items ≡ None
  pub plain : read.plain ≡ unit_tree (paths_of held) scope (map erased_core cores)
  pub manifest : read.manifest ≡ lines_of held scope unit.headers items

-- items are refused behind their names: at the first fixpoint without a value, or else where the order of two operands matters first
abbrev pub IsStoppedLater : List Item → Refusal → Type 0
IsStoppedLater items x = IsRefusedAt Fixpoint (first_fault items) x ⊎ ((first_fault items ≡ None) × IsRefusedAt Order (first_unordered items) x)

-- an answer for items is that they pass the phases of fixpoints and of the order of operands, or their refusal in the first of these that refuses them
abbrev pub PassesLater : List Item → Result (Unit {0}) RuleFault → Type 0
PassesLater items (Ok _) = (first_fault items ≡ None) × (first_unordered items ≡ None)
PassesLater items (Err (faults.Refused x)) = IsStoppedLater items x
PassesLater items (Err faults.Memory) = Unit {0}

-- an answer for the items of a unit is what they read as where they pass their phases, or their refusal in the first phase that refuses them
pub record AreRead (held : Holdings) (unit : Text_of_unit) (items : List Item) (r : Result ReadUnit RuleFault) : Type 0 where
  pub answers : Answers (λ p. ItemsPass held unit items (read_of p)) (IsRefusedInPhases (files_by held unit) items) r

-- the items of a unit read as what they pass their phases to, and else as the refusal in the first phase that refuses them
abbrev pub ItemsRead : Holdings → Text_of_unit → List Item → Result UnitRead Refusal → Type 0
ItemsRead held unit items (Ok read) = ItemsPass held unit items read
ItemsRead held unit items (Err refusal) = IsRefusedInPhases (files_by held unit) items refusal

-- a unit reads as its items do, or as the refusal where parsing stops
abbrev pub UnitReads : Holdings → Text_of_unit → Result (List Item) Refusal → Result UnitRead Refusal → Type 0
UnitReads held unit (Ok items) r = ItemsRead held unit items r
UnitReads held unit (Err refusal) r = r ≡ Err refusal

-- what the text of a file reads as; as nothing where the file is not there
abbrev pub TextReads : Holdings → Result Text_of_unit Fault → Result UnitRead Refusal → Type 0
TextReads held (Ok unit) r = UnitReads held unit (items_of unit) r
TextReads held (Err (Refused rule place)) r = r ≡ Err (refusal_at rule place)
TextReads held (Err fault) r = ⊥

-- the file at a path reads as the plain unit of its text with its manifest, or as its first refusal, by what a library tells of the files and the paths that are held; as nothing where the file is not there
abbrev pub ReadsAs : Holdings → Library → List ℕ → Result UnitRead Refusal → Type 0
ReadsAs held library path r = TextReads held (text_of_unit library path) r

-- what is answered of a reading
abbrev pub result_of : Reading → Result UnitRead Refusal
result_of (readings.Read read) = Ok (read_of read)
result_of (readings.Refused refusal) = Err refusal
