-- What a snapshot holds: paths with what is known of their files, in the order in which they came.
use Rattle.std.specs.Prelude.{◌≡◌, ℕ, List, [], ◌∷◌, ◌++◌, length, map, nat_le, Option, Some, None, Result, Ok, Err, IfSome, slice_get, if◌then◌else◌}
use Rattle.std.specs.FinMap.{get}
use Rattle.vf_base.specs.Outside.{Contents}
use Rattle.vf_names.specs.Names.{number_of}
use Rattle.vf_snapshot.specs.declared.held.Held.{Held}
use Rattle.vf_snapshot.specs.declared.held.Held.TheVariants as known
use Rattle.vf_snapshot.specs.declared.held.SnapFault.{SnapFault}
use Rattle.vf_snapshot.specs.declared.held.SnapFault.TheVariants as faults

-- the paths that were asked for, each with what is known of it; the number of a path is how many stand before it
abbrev pub Holdings : Type 0
Holdings = List (List ℕ × Held)

-- the paths that were asked for
abbrev pub paths : Holdings → List (List ℕ)
paths held = map (λ (e : List ℕ × Held). e.0) held

-- the number of a path, where it was asked for
abbrev pub number_in : Holdings → List ℕ → Option ℕ
number_in held path = number_of (paths held) path

-- what there is to know of a file: its bytes, or that they are more than 1,048,576, or that there is none
abbrev pub known_of : Option (List ℕ) → Held
known_of None = known.Missing
known_of (Some bytes) = if nat_le (length bytes) 1048576 then known.Bytes bytes else known.TooLong

-- where files are told, this is what there is to know of the path's file
abbrev pub IsKnown : Contents → List ℕ → Held → Type 0
IsKnown told path held = IfSome told (λ m. held ≡ known_of (get m path))

-- the answer for a path of which this is known, under its number
abbrev pub answer : ℕ → Held → Result ℕ SnapFault
answer number (known.Bytes bytes) = Ok number
answer number known.TooLong = Err (faults.TooLong number)
answer number known.Missing = Err faults.Missing

-- a path that was not asked for gets the next number with what its file has, and after a fault of reading or for want of memory nothing is held of it
abbrev pub Learns : Contents → List ℕ → Holdings → Holdings → Result ℕ SnapFault → Type 0
Learns told path old new (Err faults.ReadFault) = new ≡ old
Learns told path old new (Err faults.Memory) = new ≡ old
Learns told path old new result = (held : Held) × (result ≡ answer (length old) held) × (new ≡ old ++ (path, held) ∷ []) × IsKnown told path held

-- the bytes that are held of what is known
abbrev pub bytes_of : Held → List ℕ
bytes_of (known.Bytes bytes) = bytes
bytes_of known.TooLong = []
bytes_of known.Missing = []

-- a fault that says nothing of the path
abbrev pub IsOutside : SnapFault → Type 0
IsOutside faults.ReadFault = Unit {0}
IsOutside faults.Memory = Unit {0}
IsOutside _ = ⊥

-- this is held of a path, under its number
abbrev pub IsHeldAt : Holdings → List ℕ → ℕ → Held → Type 0
IsHeldAt held path number h = (number_in held path ≡ Some number) × (slice_get held number ≡ Some (path, h))

-- after an answer that tells of a path, this is held of it, under the number that the answer names
abbrev pub Stands : Holdings → List ℕ → Result ℕ SnapFault → Type 0
Stands held path (Ok number) = (bytes : List ℕ) × IsHeldAt held path number (known.Bytes bytes)
Stands held path (Err (faults.TooLong number)) = IsHeldAt held path number known.TooLong
Stands held path (Err faults.Missing) = (number : ℕ) × IsHeldAt held path number known.Missing
Stands held path (Err faults.ReadFault) = Unit {0}
Stands held path (Err faults.Memory) = Unit {0}

-- what was held stays, with the same numbers, and more may come behind it
abbrev pub Grows : Holdings → Holdings → Type 0
Grows old new = (more : Holdings) × (new ≡ old ++ more)
