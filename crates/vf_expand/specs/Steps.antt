-- Steps of the walk over files.
use Rattle.std.specs.Prelude.{◌≡◌, ◌≤◌, ℕ, ◌-◌, Bool, List, [], ◌∷◌, ◌++◌, length, slice_get, Option, Some, None, Result, Ok, Err, IsTrue}
use Rattle.std.specs.List.{list_all}
use Rattle.vf_base.specs.declared.place.Place.{Place}
use Rattle.vf_preproc.specs.declared.fault.ExpandFault.{ExpandFault}
use Rattle.vf_preproc.specs.declared.fault.ExpandFault.TheVariants as faults
use Rattle.vf_preproc.specs.declared.sources.Loaded.{Loaded}
use Rattle.vf_preproc.specs.declared.unit.Unit.{Unit as KeptUnit}
use Rattle.vf_base.specs.declared.refusal.Shown.TheVariants as shown
use Rattle.vf_preproc.specs.Directives.{Fault, Refused, lines_of, ◌>>=◌}
use Rattle.vf_preproc.specs.Answers.{Fails}
use Rattle.vf_preproc.specs.Targets.{is_ascii}
use Rattle.vf_preproc.specs.UnitText.{Includer, Library, Unit_so_far, Header, Scope, File, header_at, line, with_header, old_header, completed, begun, unread}
use Rattle.vf_preproc.specs.Units.{unit_of}
use Rattle.vf_preproc.specs.LineSteps.{line_included}
use Rattle.vf_lexer.specs.declared.token.Token.{Token}
use Rattle.vf_expand.specs.declared.frames.Line.{Line}
use Rattle.vf_expand.specs.declared.frames.Line.TheVariants as lines
use Rattle.vf_expand.specs.declared.frames.Include.{Include}
use Rattle.vf_expand.specs.declared.state.Walk.{Walk}
use Rattle.vf_expand.specs.declared.state.Next.{Next}
use Rattle.vf_expand.specs.declared.state.Next.TheVariants as nexts
use Rattle.vf_expand.specs.Walks.{Going, going_text, after_header, resumed, walk_text, pauses_of, going_of}

-- what an include makes of a unit and the file in which it stands
abbrev pub line_with : Includer → Include → Unit_so_far → Scope → Result (Unit_so_far × Scope) Fault
line_with include i unit scope = include i.path i.hash unit >>= λ found. with_header i.is_ghost i.hash found.0.names found.1 scope >>= λ s. Ok (found.0, s)

-- the include that a line is; or it is refused
abbrev pub WantedGives : File → List Token → Bool → Result Include ExpandFault → Type 0
WantedGives file tokens ghost (Ok i) = IsTrue (list_all is_ascii i.path) × ((include : Includer) (unit : Unit_so_far) (scope : Scope) → line_included include file tokens ghost unit scope ≡ line_with include i unit scope)
WantedGives file tokens ghost (Err e) = (include : Includer) (unit : Unit_so_far) (scope : Scope) → Fails e (line_included include file tokens ghost unit scope)

-- what was done of a line: all of it, or nothing where it is an include; or it is refused
abbrev pub FirstGives : File → List Token → Unit_so_far → Scope → Unit_so_far → Scope → Result (Option Include) ExpandFault → Type 0
FirstGives file tokens unit scope after new (Ok None) = (include : Includer) → line include file tokens unit scope ≡ Ok (after, new)
FirstGives file tokens unit scope after new (Ok (Some i)) = IsTrue (list_all is_ascii i.path) × ((include : Includer) → line include file tokens unit scope ≡ line_with include i after new)
FirstGives file tokens unit scope after new (Err e) = (include : Includer) → Fails e (line include file tokens unit scope)

-- what a file gives from an include in it on
abbrev pub include_text : Includer → Include → Going → Unit_so_far → Result (Unit_so_far × Header) Fault
include_text include i going unit = include i.path i.hash unit >>= λ found. after_header include i.hash i.is_ghost going found

-- what was done of a file: nothing at its end, its next line, or all of that but an include; or the line is refused
abbrev pub LineGives : Going → Unit_so_far → Going → Unit_so_far → Result Line ExpandFault → Type 0
LineGives old before new after (Ok lines.End) = (old.lines ≡ []) × (new ≡ old) × (after ≡ before)
LineGives old before new after (Ok lines.Done) = (include : Includer) → going_text include old before ≡ going_text include new after
LineGives old before new after (Ok (lines.Include i)) = IsTrue (list_all is_ascii i.path) × ((include : Includer) → going_text include old before ≡ include_text include i new after)
LineGives old before new after (Err e) = (include : Includer) → Fails e (going_text include old before)

-- what is made of a unit in the end, where an include in its file is to be done first
abbrev pub walk_include_text : Library → Include → Walk → Result (Unit_so_far × Header) Fault
walk_include_text library i w = resumed library (pauses_of w.stack.items) (include_text (header_at (32 - length (pauses_of w.stack.items)) library) i (going_of w.current) (unit_of w.unit))

-- what a header that was begun before makes of a unit and the file that includes it
abbrev pub old_text : Place → Bool → Unit_so_far → ℕ → Scope → Result (Unit_so_far × Scope) Fault
old_text hash ghost unit number scope = old_header hash unit (slice_get unit.complete number) >>= λ found. with_header ghost hash found.0.names found.1 scope >>= λ s. Ok (found.0, s)

-- a refusal is that of the definition, and faults of reading and want of memory say nothing; the named file was there
abbrev pub Faults : {A : Type 0} → ExpandFault → Result A Fault → Type 0
Faults (faults.Refused r) text = (text ≡ Err (Refused r.rule r.place)) × (r.shown ≡ shown.Nothing)
Faults faults.Missing text = ⊥
Faults faults.ReadFault text = Unit {0}
Faults faults.Memory text = Unit {0}

-- a refusal, or want of memory
abbrev pub IsOwn : ExpandFault → Type 0
IsOwn (faults.Refused r) = Unit {0}
IsOwn faults.Missing = ⊥
IsOwn faults.ReadFault = ⊥
IsOwn faults.Memory = Unit {0}

-- what was read is that of the definition
abbrev pub Loads : Result Loaded ExpandFault → Result Loaded Fault → Type 0
Loads (Ok file) text = text ≡ Ok file
Loads (Err e) text = Faults e text

-- the walk went on, and what is made of the unit in the end is still this; or it is refused
abbrev pub WalkGives : Result (Unit_so_far × Header) Fault → Library → Result Walk ExpandFault → Type 0
WalkGives text library (Ok w) = text ≡ walk_text library w
WalkGives text library (Err e) = Faults e text

-- all files were followed to their ends, and the file that the unit is of is complete too
pub record Ends (text : Result (Unit_so_far × Header) Fault) (unit : KeptUnit) : Type 0 where
  pub before : Unit_so_far
  pub header : Header
  pub gives : text ≡ Ok (before, header)
  pub complete : unit_of unit ≡ completed 0 before header

-- the walk went on, or ended with the unit; or it is refused
abbrev pub NextGives : Result (Unit_so_far × Header) Fault → Library → Result Next ExpandFault → Type 0
NextGives text library (Ok (nexts.Goes w)) = text ≡ walk_text library w
NextGives text library (Ok (nexts.Ends unit)) = Ends text unit
NextGives text library (Err e) = Faults e text

-- the walk ended with the unit; or it is refused
abbrev pub EndGives : Result (Unit_so_far × Header) Fault → Result KeptUnit ExpandFault → Type 0
EndGives text (Ok unit) = Ends text unit
EndGives text (Err e) = Faults e text

-- no more tokens are kept than matter
abbrev pub FewNext : Next → Type 0
FewNext (nexts.Goes w) = length w.unit.tokens ≤ 200001
FewNext (nexts.Ends unit) = length unit.tokens ≤ 200001

-- a header was begun: the file that includes it waits for its end
pub record Begins (old : Walk) (include : Include) (file : Loaded) (new : Walk) : Type 0 where
  pub unit : unit_of new.unit ≡ begun (record (unit_of old.unit) { headers = old.unit.headers ++ file.number ∷ [] }) include.path file.tokens
  pub pauses : pauses_of new.stack.items ≡ record { going = going_of old.current; hash = include.hash; ghost_text = include.is_ghost; number = length old.unit.paths } ∷ pauses_of old.stack.items
  pub current : going_of new.current ≡ record { file = record { path = include.path; bytes = file.bytes }; lines = lines_of file.tokens; scope = unread (length old.unit.paths) }
