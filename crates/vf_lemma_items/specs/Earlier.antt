-- What stands in front of the parameters of a lemma: its name, which may be declared before, and its type parameters.
use Rattle.std.specs.Prelude.{ℕ, Bool, true, not, ◌&&◌, nat_eq, if◌then◌else◌, List, [], length, is_some, Option, Some, None, Result, Ok, Err}
use Rattle.vf_base.specs.declared.refusal.Refusal.{Refusal}
use Rattle.vf_base.specs.declared.rule.Rule.TheVariants as rules
use Rattle.vf_sorts.specs.Sorts.{Sort}
use Rattle.vf_declared.specs.declared.declaration.GhostDeclaration.{GhostDeclaration}
use Rattle.vf_declared.specs.declared.declaration.GhostDeclaration.TheVariants as ghosts
use Rattle.vf_declared.specs.declared.declaration.Lemma.{Lemma}
use Rattle.vf_declared.specs.declared.declaration.Meaning.{Meaning}
use Rattle.vf_declared.specs.declared.declaration.Meaning.TheVariants as meanings
use Rattle.vf_declared.specs.declared.scope.Scope.{Scope}
use Rattle.vf_declared.specs.Scopes.{at_name, declaration_of, ghost_of, is_declared, sides_of_ghost}
use Rattle.vf_syntax.specs.declared.written.Name.{Name}
use Rattle.vf_sorting.specs.Refusals.{refused}
use Rattle.vf_datatypes.specs.NewNames.{names_c, parameters_behind}
use Rattle.vf_datatypes.specs.Walking.{behind, unless}
use Rattle.vf_walk.specs.Items.{is_main}
use Rattle.vf_predicates.specs.Earlier.{is_doubled, is_of_prelude}
use Rattle.vf_lemma_items.specs.declared.earlier.Head.{Head}

-- what is a lemma
abbrev pub lemma_in : Option GhostDeclaration → Option Lemma
lemma_in (Some (ghosts.Lemma l)) = Some l
lemma_in d = None

-- the sorts of the arguments of a lemma that may be none
abbrev pub sorts_in : Option Lemma → List Sort
sorts_in None = []
sorts_in (Some l) = l.arguments

-- the sorts of the arguments of the lemma with a number
abbrev pub sorts_of : Scope → ℕ → List Sort
sorts_of s k = sorts_in (lemma_in (ghost_of s k))

-- a lemma has as many type parameters as there are names
abbrev pub has_as_many : List (List ℕ) → Option Lemma → Bool
has_as_many ps None = true
has_as_many ps (Some l) = nat_eq l.parameters (length ps)

-- a name is declared, and is not seen from the file where it stands now
abbrev pub is_hidden : Scope → Name → Bool
is_hidden s n = is_declared s n.text && not (is_some (declaration_of s n.text n.place.file))

-- why a lemma may not have a name, whatever the name means already: it is one of C; or declared where it is not seen; or that of the function that a program begins with
abbrev pub name_refusal : Scope → Name → Option Refusal
name_refusal s n = if names_c s n.text n.place.file then Some (refused rules.GhostInReal n.place) else (if is_hidden s n then Some (refused rules.Name n.place) else (if is_main n.text then Some (refused rules.Typing n.place) else None))

-- the lemma of a meaning, where a body, or a declaration without one, may be added to it: there is none so far
abbrev pub lemma_of : Scope → Bool → Meaning → Option ℕ
lemma_of s b (meanings.Ghost k) = if is_some (lemma_in (ghost_of s k)) && not (is_doubled b (sides_of_ghost s k)) then Some k else None
lemma_of s b m = None

-- the same where a name has that meaning: nothing is added to what is a prelude's
abbrev pub extended : Scope → Bool → Name → Meaning → Option ℕ
extended s b n m = if is_of_prelude s (at_name s.names s.declarations n.text) then None else lemma_of s b m

-- the lemma that is meant, or the refusal of its name
abbrev pub extends : Name → Option ℕ → Result (Option ℕ) Refusal
extends n None = Err (refused rules.Name n.place)
extends n (Some k) = Ok (Some k)

-- what a body, or a declaration without one, is of where its name has a meaning already or none: of a lemma by its number, or of a new one
abbrev pub meant : Scope → Bool → Name → Option Meaning → Result (Option ℕ) Refusal
meant s b n None = Ok None
meant s b n (Some m) = extends n (extended s b n m)

-- the same of a name where it stands
abbrev pub earlier : Scope → Bool → Name → Result (Option ℕ) Refusal
earlier s b n = unless (name_refusal s n) (meant s b n (declaration_of s n.text n.place.file))

-- the lemma that a number stands for, if it stands for one
abbrev pub lemma_at : Scope → Option ℕ → Option Lemma
lemma_at s None = None
lemma_at s (Some k) = lemma_in (ghost_of s k)

-- the name of a lemma and its type parameters, which are as many as before where it is declared already
abbrev pub counted : Scope → Name → Option ℕ → List (List ℕ) → Result Head Refusal
counted s n o ps = if has_as_many ps (lemma_at s o) then Ok (record { earlier = o; parameters = ps }) else Err (refused rules.Name n.place)

-- what stands in front of the parameters of a lemma with a body, or without one: its name, and then its type parameters
abbrev pub head : Scope → Bool → Name → List Name → Result Head Refusal
head s b n ns = behind (λ o. behind (counted s n o) (parameters_behind s ns [])) (earlier s b n)
