-- How a snapshot keeps what it holds.
use Rattle.std.specs.Prelude.{◌≡◌, ℕ, ◌<◌, List, map, length}
use Rattle.std.specs.String.{string_bytes}
use Rattle.vf_snapshot.specs.declared.held.Held.{Held}
use Rattle.vf_snapshot.specs.declared.snapshot.Entry.{Entry}

-- a path and what is known of it
abbrev pub entry_of : Entry → List ℕ × Held
entry_of e = (string_bytes e.path, e.held)

-- the names are the paths of the entries, of which there are few enough that a number fits
pub record Match (names : List (List ℕ)) (entries : List Entry) : Type 0 where
  pub paths : names ≡ map (λ (e : Entry). string_bytes e.path) entries
  pub few : length entries < 4294967296
