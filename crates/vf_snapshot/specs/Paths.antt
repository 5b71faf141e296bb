-- Paths without needless parts.
use Rattle.std.specs.Prelude.{◌≡◌, ℕ, ◌==◌, Bool, not, ◌||◌, ◌&&◌, List, [], ◌∷◌, ◌++◌, codes, fold, reverse, if◌then◌else◌, nat_eq}
use Rattle.std.specs.List.{join_with_byte, starts_with, ends_with}
use Rattle.std.specs.Str.{bytes_eq}

-- the parts of a path, between which the slashes stand; the first one begins with the given bytes
abbrev pub parts_from : List ℕ → List ℕ → List (List ℕ)
parts_from first [] = first ∷ []
parts_from first (b ∷ bs) = if b == 47 then first ∷ parts_from [] bs else parts_from (first ++ b ∷ []) bs

-- the parts of a path, between which the slashes stand
abbrev pub parts_of : List ℕ → List (List ℕ)
parts_of path = parts_from [] path

-- `..` undoes a part that is neither empty nor `..`
abbrev pub is_undone : List ℕ → Bool
is_undone part = not (bytes_eq part []) && not (bytes_eq part (codes ".."))

-- the parts, last one first, where `..` comes next
abbrev pub undo_last : List (List ℕ) → List (List ℕ)
undo_last [] = codes ".." ∷ []
undo_last (last ∷ before) = if is_undone last then before else codes ".." ∷ last ∷ before

-- the parts, last one first, with one more: `.` is left out, and `..` takes the part before it away
abbrev pub with_part : List (List ℕ) → List ℕ → List (List ℕ)
with_part kept part = if bytes_eq part (codes ".") then kept else (if bytes_eq part (codes "..") then undo_last kept else part ∷ kept)

-- the parts that are left of some, in order
abbrev pub needed : List (List ℕ) → List (List ℕ)
needed parts = reverse (fold with_part [] parts)

-- a path in a folder; one that begins with a slash stands alone, and the folder "" adds nothing
abbrev pub joined : List ℕ → List ℕ → List ℕ
joined folder path = if starts_with nat_eq path (codes "/") || bytes_eq folder [] then path
    else (if ends_with nat_eq folder (codes "/") then folder ++ path else folder ++ codes "/" ++ path)

-- the path that one means in a folder, without `.` and without parts that `..` undoes
abbrev pub normal : List ℕ → List ℕ → List ℕ
normal folder path = join_with_byte 47 (needed (parts_of (joined folder path)))
