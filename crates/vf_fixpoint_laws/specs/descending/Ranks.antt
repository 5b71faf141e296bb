-- An order of fixpoints: an identity ends with a name, and names have numbers at file level.
use Rattle.std.specs.Prelude.{◌≡◌, ℕ, true, false, nat_eq, if◌then◌else◌, List, [], ◌∷◌, Option, Some, None}
use Rattle.std.specs.Option.{option_or}
use Rattle.vf_tree.specs.Core.{Identity}
use Rattle.vf_names.specs.Names.{number_of}
use Rattle.vf_declared.specs.declared.scope.Scope.{Scope}
use Rattle.vf_declared.specs.Scopes.{is_declared}
use Rattle.vf_defining.specs.Bodies.{place_or_first}
use Rattle.vf_fixpoint_laws.specs.bodies.Recursion.{Ranks}
use Rattle.vf_fixpoint_laws.specs.well_declared.Names.{is_marked, mark}

-- the name in an identity: what stands behind its last `#`
abbrev pub name_in : Identity → Option (List ℕ)
name_in [] = None
name_in (c ∷ cs) = option_or (name_in cs) (if nat_eq mark c then Some cs else None)

-- the number of a name of file level, the first where there is none
abbrev pub rank_of : Scope → Option (List ℕ) → ℕ
rank_of s None = 0
rank_of s (Some x) = place_or_first (number_of s.names x)

-- the order in which fixpoints are declared: the number of the name in an identity
abbrev pub ranks_of : Scope → Ranks
ranks_of s i = rank_of s (name_in i)

-- no `#` stands in a name of file level
abbrev pub HavePlainNames : Scope → Type 0
HavePlainNames s = (x : List ℕ) → is_declared s x ≡ true → is_marked x ≡ false
