-- What is kept of a unit, as the definitions see it.
use Rattle.std.specs.Prelude.{◌≡◌, ℕ, ◌<◌, ◌≤◌, Bool, List, length, map, option_map}
use Rattle.vf_base.specs.declared.place.Place.{Place}
use Rattle.vf_lexer.specs.declared.token.Token.{Token}
use Rattle.vf_lexer.specs.Cuts.{HasTokens, HasFault}
use Rattle.vf_snapshot.specs.declared.held.Held.{Held}
use Rattle.vf_snapshot.specs.declared.held.Held.TheVariants as known
use Rattle.vf_snapshot.specs.Holdings.{Holdings, IsHeldAt}
use Rattle.vf_preproc.specs.declared.unit.Unit.{Unit as KeptUnit}
use Rattle.vf_preproc.specs.UnitText.{Unit_so_far, Library, Text, Faulty, TooLong, Absent}
use Rattle.vf_preproc.specs.Targets.{is_ghost_path}
use Rattle.vf_preproc.specs.Scopes.{header_of}

-- what is kept of a unit so far
abbrev pub unit_of : KeptUnit → Unit_so_far
unit_of u = record { tokens = u.tokens; paths = u.paths; names = u.names; complete = map (option_map header_of) u.complete.items; headers = u.headers }

-- these are the tokens of the bytes of a file with a number, all of them ghost in a ghost header
abbrev pub Lexes : Bool → ℕ → List ℕ → List Token → Type 0
Lexes ghost number bytes tokens = HasTokens ghost number bytes tokens

-- at this place the bytes of a file cannot be cut into tokens
abbrev pub HasNoToken : Bool → ℕ → List ℕ → Place → Type 0
HasNoToken ghost number bytes place = HasFault ghost number bytes place

-- a library tells of a path what is held of it; a file of more than 1,048,576 bytes is too long
abbrev pub TellsOf : Library → List ℕ → ℕ → Held → Type 0
TellsOf library path number (known.Bytes bytes) =
    (1048576 < length bytes → library path ≡ TooLong number)
    × (length bytes ≤ 1048576 → (tokens : List Token) → Lexes (is_ghost_path path) number bytes tokens → library path ≡ Text number bytes tokens)
    × (length bytes ≤ 1048576 → (place : Place) → HasNoToken (is_ghost_path path) number bytes place → library path ≡ Faulty place)
TellsOf library path number known.TooLong = library path ≡ TooLong number
TellsOf library path number known.Missing = library path ≡ Absent

-- a library tells of each path that was asked for what is held of it
abbrev pub Tells : Library → Holdings → Type 0
Tells library held = (path : List ℕ) (number : ℕ) (h : Held) → IsHeldAt held path number h → TellsOf library path number h
