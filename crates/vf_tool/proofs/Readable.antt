-- What a file reads as is of the first form.
use Rattle.std.proofs.Common.{◌≡◌, ◌∙◌, sym, ap, refl, List, ℕ, Option, Some, None, Result, Ok, Err}
use Rattle.vf_base.specs.declared.refusal.Refusal.{Refusal}
use Rattle.vf_tree.specs.declared.unit.Core.{Core}
use Rattle.vf_syntax.specs.declared.item.Item.{Item}
use Rattle.vf_preproc.specs.Directives.{Fault, Refused, Missing, Unread}
use Rattle.vf_preproc.specs.UnitText.{Library, Text_of_unit}
use Rattle.vf_expand.specs.Wholes.{text_of_unit}
use Rattle.vf_first.specs.FirstForm.{first_form}
use Rattle.vf_sound.specs.Formed.{IsFormed}
use Rattle.vf_snapshot.specs.Holdings.{Holdings}
use Rattle.vf_order_laws.proofs.determined.Phasing.{never_both, one_refusal}
use Rattle.vf_module.specs.Parsing.{items_of}
use Rattle.vf_tool.specs.Readings.{ItemsRead, ReadsAs, TextReads, UnitReads, core_or}
use Rattle.vf_tool.specs.Readings as readings
use Rattle.vf_tool.proofs.Formed.{first_is_formed}

or_is_formed : (path : List ℕ) (file : ℕ) (is : List Item) (o : Option Core) (core : Core) → o ≡ first_form path file is → core_or file is o ≡ Ok core → IsFormed core
or_is_formed path file is (Some c) core same e = first_is_formed path file is core cc
or_is_formed path file is None core same e = absurd cc

-- ---- what is read is of the first form
items_are_formed : {held : Holdings} {path : List ℕ} {unit : Text_of_unit} {items : List Item} {r : Result Core Refusal} (core : Core) → ItemsRead held path unit items r → r ≡ Ok core → IsFormed core
items_are_formed core (readings.stops h) e = absurd cc
items_are_formed {path = path} {unit = unit} {items = items} core (readings.passes h) e = or_is_formed path unit.end_of_file.file items (first_form path unit.end_of_file.file items) core refl e

unit_is_formed : (held : Holdings) (path : List ℕ) (unit : Text_of_unit) (items : Result (List Item) Refusal) (core : Core) → UnitReads held path unit items (Ok core) → IsFormed core
unit_is_formed held path unit (Ok items) core h = items_are_formed core h refl
unit_is_formed held path unit (Err refusal) core h = absurd cc

text_is_formed : (held : Holdings) (path : List ℕ) (text : Result Text_of_unit Fault) (core : Core) → TextReads held path text (Ok core) → IsFormed core
text_is_formed held path (Ok unit) core h = unit_is_formed held path unit (items_of unit) core h
text_is_formed held path (Err (Refused rule place)) core h = absurd cc
text_is_formed held path (Err Missing) core h = absurd h
text_is_formed held path (Err Unread) core h = absurd h

-- a core that a file reads as is formed
pub reading_is_formed : (held : Holdings) (library : Library) (path : List ℕ) (core : Core) → ReadsAs held library path (Ok core) → IsFormed core
reading_is_formed held library path core h = text_is_formed held path (text_of_unit library path) core h

-- ---- a file reads as one thing
items_one : {held : Holdings} {path : List ℕ} {unit : Text_of_unit} {items : List Item} {r q : Result Core Refusal} → ItemsRead held path unit items r → ItemsRead held path unit items q → r ≡ q
items_one (readings.stops h) (readings.stops k) = ap Err (one_refusal h k)
items_one (readings.stops h) (readings.passes k) = absurd (never_both k h)
items_one (readings.passes h) (readings.stops k) = absurd (never_both h k)
items_one (readings.passes h) (readings.passes k) = refl

unit_one : (held : Holdings) (path : List ℕ) (unit : Text_of_unit) (items : Result (List Item) Refusal) (r q : Result Core Refusal) → UnitReads held path unit items r → UnitReads held path unit items q → r ≡ q
unit_one held path unit (Ok items) r q h k = items_one h k
unit_one held path unit (Err refusal) r q h k = h ∙ sym k

text_one : (held : Holdings) (path : List ℕ) (text : Result Text_of_unit Fault) (r q : Result Core Refusal) → TextReads held path text r → TextReads held path text q → r ≡ q
text_one held path (Ok unit) r q h k = unit_one held path unit (items_of unit) r q h k
text_one held path (Err (Refused rule place)) r q h k = h ∙ sym k
text_one held path (Err Missing) r q h k = absurd h
text_one held path (Err Unread) r q h k = absurd h

pub reads_one : (held : Holdings) (library : Library) (path : List ℕ) (r q : Result Core Refusal) → ReadsAs held library path r → ReadsAs held library path q → r ≡ q
reads_one held library path r q h k = text_one held path (text_of_unit library path) r q h k
