-- What a name that stands as an expression mentions.
use Rattle.std.specs.Prelude.{ℕ, if◌then◌else◌, List, [], ◌∷◌, Option, Some, None}
use Rattle.std.specs.List.{list_any}
use Rattle.std.specs.Str.{bytes_eq}
use Rattle.vf_mentions.specs.declared.mention.Mention.{Mention}
use Rattle.vf_mentions.specs.declared.mention.Mention.TheVariants as mentions

-- the names of the locals of C that are visible, the innermost last
abbrev pub Locals : Type 0
Locals = List (List ℕ)

-- a name that stands as an expression mentions a function, unless a visible local has it
abbrev pub mentioned_name : Locals → List ℕ → List Mention
mentioned_name locals x = if list_any (bytes_eq x) locals then [] else mentions.Function x ∷ []

-- what a part mentions that may be absent
abbrev pub if_there : {A : Type 0} → (A → List Mention) → Option A → List Mention
if_there f None = []
if_there f (Some x) = f x
