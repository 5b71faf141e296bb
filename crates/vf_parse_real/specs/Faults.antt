-- What is answered where tokens are no unit.
use Rattle.std.specs.Prelude.{◌≡◌, ℕ, ◌-◌, List, [], length, slice_get, Option, Some, None, Result, Ok, Err}
use Rattle.vf_base.specs.declared.place.Place.{Place}
use Rattle.vf_lexer.specs.declared.token.Token.{Token}
use Rattle.vf_syntax.specs.declared.item.Item.{Item}
use Rattle.vf_syntax.specs.declared.item.Unit as units
use Rattle.vf_cursor.specs.declared.fault.Fault.{Fault}
use Rattle.vf_cursor.specs.declared.fault.Fault.TheVariants as faults
use Rattle.vf_cursor.specs.declared.fault.Stop.{Stop}
use Rattle.vf_cursor.specs.declared.fault.Stop.TheVariants as stops
use Rattle.vf_cursor.specs.Parsing.{Read}
use Rattle.vf_parse_real.specs.declared.fault.ParseFault.{ParseFault}
use Rattle.vf_parse_real.specs.declared.fault.ParseFault.TheVariants as parse_faults

-- the place of a token, or the end where there is none
abbrev pub place_or : Place → Option Token → Place
place_or end None = end
place_or end (Some t) = t.place

-- the place of the token with which so many tokens are left, or the end of the file where none is
abbrev pub place_at : List Token → Place → ℕ → Place
place_at ts end n = place_or end (slice_get ts (length ts - n))

-- a fault by its place
abbrev pub fault_of : List Token → Place → Fault → ParseFault
fault_of ts end (faults.Syntax n) = parse_faults.Syntax (place_at ts end n)
fault_of ts end (faults.Depth n) = parse_faults.Depth (place_at ts end n)

-- why reading stopped, by its place
abbrev pub stop_of : List Token → Place → Stop → ParseFault
stop_of ts end stops.Memory = parse_faults.Memory
stop_of ts end (stops.Fault f) = fault_of ts end f

-- want of memory says nothing of what reading comes to; another answer is the fault that it comes to, by its place
abbrev pub Refuses : ParseFault → Place → List Token → Read (List Item) → Type 0
Refuses parse_faults.Memory end ts read = Unit {0}
Refuses f end ts read = (x : Fault) × (read ≡ Err x) × (f ≡ fault_of ts end x)

-- the answer is what reading the tokens to their end comes to, unless memory ran out
abbrev pub Answers : Result units.Unit ParseFault → Place → List Token → Read (List Item) → Type 0
Answers (Ok u) end ts read = read ≡ Ok (u.items, [])
Answers (Err f) end ts read = Refuses f end ts read
