-- What a caller may know of files, and of the counts by which the outside world answers for its faults.
use Rattle.std.specs.Prelude.{◌≡◌, ◌≢◌, ℕ, ◌+◌, ◌≤◌, min, List, [], ◌++◌, length, take, Option, Some, None, IfSome, IsSomeAnd, option_map, unwrap_or, ⊤}
use Rattle.std.specs.Ordering.{nat_cmp}
use Rattle.std.specs.Cmp.Lexicographic.{slice_cmp}
use Rattle.std.specs.FinMap.{FinMap, get, insert}

-- files as a finite map, from the bytes of a path to the bytes of its file
abbrev pub FileMap : Type 0
FileMap = FinMap (slice_cmp nat_cmp) (List ℕ)

-- what is told of files: nothing, or the map of all of them
abbrev pub Contents : Type 0
Contents = Option FileMap

-- the last value of a count, the largest number of 64 bits, at which it stands still
abbrev pub last_count : ℕ
last_count = 18446744073709551615

-- the value of a count after one more
abbrev pub next_count : ℕ → ℕ
next_count n = min (n + 1) last_count

-- a count rose, or stands at its last value
abbrev pub Rose : ℕ → ℕ → Type 0
Rose old new = next_count old ≤ new

-- where files are told, the path is one of theirs, and the bytes are the first `limit + 1` of its file, or all where it is shorter
abbrev pub IsFront : Contents → List ℕ → ℕ → List ℕ → Type 0
IsFront contents path limit bytes = IfSome contents (λ m. IsSomeAnd (get m path) (λ all. bytes ≡ take (limit + 1) all))

-- where files are told, the bytes are a prefix of the path's file, and there are none where the path is not one of theirs
abbrev pub IsPartOf : Contents → List ℕ → List ℕ → Type 0
IsPartOf contents path bytes = IfSome contents (λ m. bytes ≡ take (length bytes) (unwrap_or (get m path) []))

-- where files are told, the path is not one of theirs
abbrev pub IsAbsent : Contents → List ℕ → Type 0
IsAbsent contents path = IfSome contents (λ m. get m path ≡ None)

-- where files are told, the new ones are the old ones with these bytes at the path
abbrev pub IsWritten : Contents → Contents → List ℕ → List ℕ → Type 0
IsWritten old new path bytes = new ≡ option_map (λ m. insert m path bytes) old

-- what was told stays told, what was untold stays untold, and each other path is as before
abbrev pub ChangesAtMost : Contents → Contents → List ℕ → Type 0
ChangesAtMost (Some m) (Some n) path = (other : List ℕ) → other ≢ path → get n other ≡ get m other
ChangesAtMost None None path = ⊤
ChangesAtMost _ _ _ = ⊥

-- where taken bytes are told, they grew by exactly these
abbrev pub Takes : Option (List ℕ) → Option (List ℕ) → List ℕ → Type 0
Takes old new bytes = new ≡ option_map (λ taken. taken ++ bytes) old

-- where taken bytes are told, they grew by a front of the piece
abbrev pub TakesFront : Option (List ℕ) → Option (List ℕ) → List ℕ → Type 0
TakesFront old new piece = (n : ℕ) × (n ≤ length piece) × Takes old new (take n piece)
