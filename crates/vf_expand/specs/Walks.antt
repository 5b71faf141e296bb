-- The walk over files: what is left to do of a unit, and what it gives.
use Rattle.std.specs.Prelude.{ℕ, ◌-◌, Bool, List, [], ◌∷◌, length, map, reverse, drop, Result}
use Rattle.vf_base.specs.declared.place.Place.{Place}
use Rattle.vf_lexer.specs.declared.token.Token.{Token}
use Rattle.vf_preproc.specs.Directives.{Fault, ◌>>=◌, lines_of}
use Rattle.vf_preproc.specs.UnitText.{File, Includer, Library, Unit_so_far, Header, Scope, followed, closed, with_header, completed, header_at}
use Rattle.vf_preproc.specs.Scopes.{scope_of}
use Rattle.vf_preproc.specs.Units.{unit_of}
use Rattle.vf_expand.specs.declared.frames.Open.{Open}
use Rattle.vf_expand.specs.declared.frames.Waiting.{Waiting}
use Rattle.vf_expand.specs.declared.state.Walk.{Walk}

-- a file that is being expanded: the lines that are left of it, and what was made of it so far
pub record Going : Type 0 where
  pub file : File
  pub lines : List (List Token)
  pub scope : Scope

-- what the rest of a file gives
abbrev pub going_text : Includer → Going → Unit_so_far → Result (Unit_so_far × Header) Fault
going_text include going unit = followed include going.file going.lines unit going.scope >>= λ s. closed s.0 s.1 s.1.groups

-- what a file gives behind an include in it, once the header is there
abbrev pub after_header : Includer → Place → Bool → Going → Unit_so_far × Header → Result (Unit_so_far × Header) Fault
after_header include hash ghost going found = with_header ghost hash found.0.names found.1 going.scope >>= λ s. going_text include (record going { scope = s }) found.0

-- a file that waits for the end of a header: where its include stands, whether it is ghost text, and the header's number among the files that were begun
pub record Pause : Type 0 where
  pub going : Going
  pub hash : Place
  pub ghost_text : Bool
  pub number : ℕ

-- what is made of a unit in the end, by the files that wait, innermost first, and what the header for which they wait gives
abbrev pub resumed : Library → List Pause → Result (Unit_so_far × Header) Fault → Result (Unit_so_far × Header) Fault
resumed library [] text = text
resumed library (p ∷ ps) text = resumed library ps (text >>= λ s. after_header (header_at (32 - length ps) library) p.hash p.ghost_text p.going (completed p.number s.0 s.1, s.1))

-- what is made of a unit in the end, where some files wait for one
abbrev pub text_from : Library → List Pause → Going → Unit_so_far → Result (Unit_so_far × Header) Fault
text_from library pauses going unit = resumed library pauses (going_text (header_at (32 - length pauses) library) going unit)

-- the file that is being expanded, as it is kept
abbrev pub going_of : Open → Going
going_of o = record { file = record { path = o.path; bytes = o.bytes }; lines = lines_of (drop o.at o.tokens); scope = scope_of o.scope }

-- a file that waits, as it is kept
abbrev pub pause_of : Waiting → Pause
pause_of w = record { going = going_of w.file; hash = w.hash; ghost_text = w.is_ghost; number = w.number }

-- the files that wait, innermost first, as they are kept with the innermost at the end
abbrev pub pauses_of : List Waiting → List Pause
pauses_of stack = map pause_of (reverse stack)

-- what is made of a unit in the end, by what is kept
abbrev pub walk_text : Library → Walk → Result (Unit_so_far × Header) Fault
walk_text library w = text_from library (pauses_of w.stack.items) (going_of w.current) (unit_of w.unit)
