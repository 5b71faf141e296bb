-- What is declared behind a datatype, or its first refusal in the order of the text.
use Rattle.std.specs.Prelude.{ℕ, ◌+◌, if◌then◌else◌, List, [], ◌∷◌, ◌++◌, length, drop, Result, Ok, Err}
use Rattle.vf_base.specs.declared.refusal.Refusal.{Refusal}
use Rattle.vf_base.specs.declared.rule.Rule.TheVariants as rules
use Rattle.vf_sorts.specs.Sorts.{Sort}
use Rattle.vf_declared.specs.declared.declaration.GhostDeclaration.TheVariants as ghosts
use Rattle.vf_declared.specs.declared.declaration.Meaning.TheVariants as meanings
use Rattle.vf_declared.specs.declared.scope.Scope.{Scope}
use Rattle.vf_declared.specs.Writing.{with_ghost, with_name}
use Rattle.vf_syntax.specs.declared.item.Constructor.{Constructor as Written}
use Rattle.vf_syntax.specs.declared.written.Name.{Name}
use Rattle.vf_sorting.specs.Refusals.{refused}
use Rattle.vf_datatypes.specs.declared.stated.Stated.{Stated}
use Rattle.vf_datatypes.specs.declared.own.Own.{Own}
use Rattle.vf_datatypes.specs.Arguments.{sorts_within}
use Rattle.vf_datatypes.specs.NewNames.{name_refusal, parameters_behind}
use Rattle.vf_datatypes.specs.Inhabited.{is_inhabited}
use Rattle.vf_datatypes.specs.Walking.{behind, unless}

-- a name that annotations declare at file level by the next number, in front of what it is
abbrev pub with_next : Scope → Name → Scope
with_next s n = with_name s n.text (meanings.Ghost (length s.ghosts)) n.place.file

-- one more constructor of a datatype, with arguments of these sorts
abbrev pub with_constructor : ℕ → Scope → List Sort → Result Scope Refusal
with_constructor d s ts = Ok (with_ghost s (ghosts.Constructor (record { datatype = d; arguments = ts })))

-- a constructor's name is declared, and then its arguments have sorts
abbrev pub constructor_behind : Stated → Own → Written → Scope → Result Scope Refusal
constructor_behind d o c s = unless (name_refusal s c.name) (behind (with_constructor o.number (with_next s c.name)) (sorts_within (with_next s c.name) d o c.arguments))

-- constructors one after the other
abbrev pub constructors_behind : Stated → Own → List Written → Scope → Result Scope Refusal
constructors_behind d o [] s = Ok s
constructors_behind d o (c ∷ cs) s = behind (constructors_behind d o cs) (constructor_behind d o c s)

-- numbers from one on, as many as there are items in a list
abbrev pub numbers_from : {A : Type 0} → ℕ → List A → List ℕ
numbers_from n [] = []
numbers_from n (x ∷ xs) = n ∷ numbers_from (n + 1) xs

-- a datatype with the constructors that were declared from a number on
abbrev pub with_datatype : Scope → Own → ℕ → Scope
with_datatype s o first = record s { datatypes = s.datatypes ++ (record { parameters = length o.parameters; constructors = numbers_from first (drop first s.ghosts) }) ∷ [] }

-- the datatype is complete: it has a value
abbrev pub complete : Own → ℕ → Scope → Result Scope Refusal
complete o first s = if is_inhabited (with_datatype s o first) o.number then Ok (with_datatype s o first) else Err (refused rules.Inductive o.place)

-- a datatype's name, in front of its constructors
abbrev pub begun : Scope → Name → Scope
begun s n = with_ghost (with_next s n) (ghosts.Datatype (length s.datatypes))

-- a datatype that has these type parameters
abbrev pub own : Scope → Name → List (List ℕ) → Own
own s n ps = record { place = n.place; number = length s.datatypes; parameters = ps }

-- the constructors of a datatype, and that it has a value
abbrev pub body_behind : Stated → List Written → Scope → Own → Result Scope Refusal
body_behind d cs s o = behind (complete o (length s.ghosts)) (constructors_behind d o cs s)

-- a datatype: its name, its type parameters, its constructors
abbrev pub datatype_behind : Stated → Name → List Name → List Written → Scope → Result Scope Refusal
datatype_behind d n ns cs s = unless (name_refusal s n) (behind (λ ps. body_behind d cs (begun s n) (own s n ps)) (parameters_behind (begun s n) ns []))
