-- Whether the claim of a function agrees with it.
use Rattle.std.specs.Prelude.{ℕ, Bool, false, ◌&&◌, ◌||◌, if◌then◌else◌, List, codes, Option, Some, None}
use Rattle.std.specs.Str.{bytes_eq}
use Rattle.vf_base.specs.declared.refusal.Refusal.{Refusal}
use Rattle.vf_base.specs.declared.rule.Rule.TheVariants as rules
use Rattle.vf_declared.specs.declared.declaration.Meaning.{Meaning}
use Rattle.vf_declared.specs.declared.declaration.Meaning.TheVariants as meanings
use Rattle.vf_declared.specs.declared.declaration.Signature.{Signature}
use Rattle.vf_declared.specs.declared.scope.Scope.{Scope}
use Rattle.vf_declared.specs.Scopes.{declaration_of, function_type_of, signature_of}
use Rattle.vf_declared.specs.Types.{same_type, same_types}
use Rattle.vf_syntax.specs.declared.contract.Claim.{Claim}
use Rattle.vf_syntax.specs.declared.written.Name.{Name}
use Rattle.vf_typing.specs.Refusals.{refused}

-- the function type that a name means, by its number
abbrev pub type_in : Option Meaning → Option ℕ
type_in (Some (meanings.FunctionType n)) = Some n
type_in m = None

-- the function that a name means, by its number
abbrev pub function_in : Option Meaning → Option ℕ
function_in (Some (meanings.Function n)) = Some n
function_in m = None

-- the function type that a claim names, where one is seen from the file in which its name stands
abbrev pub claimed_type : Scope → Claim → Option ℕ
claimed_type s k = type_in (declaration_of s k.name.text k.name.place.file)

-- what the functions of a function type give and take
abbrev pub type_signature : Scope → Option ℕ → Option Signature
type_signature s None = None
type_signature s (Some n) = function_type_of s n

-- what a function gives and takes
abbrev pub signature_at : Scope → Option ℕ → Option Signature
signature_at s None = None
signature_at s (Some n) = signature_of s n

-- what the function with a name gives and takes, where one is seen from the file in which the name stands
abbrev pub signature_named : Scope → Name → Option Signature
signature_named s n = signature_at s (function_in (declaration_of s n.text n.place.file))

-- both are there, and give and take the same
abbrev pub are_same : Option Signature → Option Signature → Bool
are_same (Some f) (Some g) = same_type f.«result» g.«result» && same_types f.parameters g.parameters
are_same f g = false

-- the name of the function that a program begins with
abbrev pub is_main : List ℕ → Bool
is_main x = bytes_eq x (codes "main")

-- a claim of a function says nothing: that of `main` that it is one of `main`
abbrev pub says_nothing : Name → Claim → Bool
says_nothing n k = is_main n.text && is_main k.name.text

-- where the claim of the function with a name is refused: it says something, and names no function type that is seen there and whose functions give and take what the function does
abbrev pub claim_refusal : Scope → Name → Claim → Option Refusal
claim_refusal s n k = if says_nothing n k || are_same (type_signature s (claimed_type s k)) (signature_named s n) then None else Some (refused rules.Claim k.place)
