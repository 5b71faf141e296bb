-- What is declared behind a body of a family for a function, or its first refusal in the order of the text.
use Rattle.std.specs.Prelude.{◌≡◌, ℕ, Bool, true, false, if◌then◌else◌, List, [], length, is_some, Option, Some, None, Result, Ok, Err}
use Rattle.vf_base.specs.declared.refusal.Refusal.{Refusal}
use Rattle.vf_base.specs.declared.refusal.RuleFault.{RuleFault}
use Rattle.vf_base.specs.declared.rule.Rule.TheVariants as rules
use Rattle.vf_sorts.specs.Sorts.{Sort}
use Rattle.vf_declared.specs.declared.declaration.GhostDeclaration.{GhostDeclaration}
use Rattle.vf_declared.specs.declared.declaration.GhostDeclaration.TheVariants as ghosts
use Rattle.vf_declared.specs.declared.declaration.GhostSides.{GhostSides}
use Rattle.vf_declared.specs.declared.declaration.Meaning.{Meaning}
use Rattle.vf_declared.specs.declared.declaration.Meaning.TheVariants as meanings
use Rattle.vf_declared.specs.declared.scope.Scope.{Scope}
use Rattle.vf_declared.specs.Scopes.{declaration_of, ghost_of, has, sides_of_ghost}
use Rattle.vf_declared.specs.Writing.{with_instance}
use Rattle.vf_syntax.specs.declared.item.GhostParameter.{GhostParameter}
use Rattle.vf_syntax.specs.declared.written.Name.{Name}
use Rattle.vf_syntax.specs.AssertionTree.{PartTrees}
use Rattle.vf_sorting.specs.Answers.{Answers}
use Rattle.vf_sorting.specs.Refusals.{refused}
use Rattle.vf_asserting.specs.Cases.{ghost_number}
use Rattle.vf_heads.specs.Parameters.{Taken, none_taken, parameters_behind}
use Rattle.vf_walk.specs.Walking.{Only, Then, Walked}
use Rattle.vf_predicates.specs.declared.instances.Instance.{Instance}
use Rattle.vf_predicates.specs.Bodies.{BodyComes}
use Rattle.vf_predicates.specs.Earlier.{AreSame, or_none}

-- the sorts of the arguments of what is a family
abbrev pub family_sorts : Option GhostDeclaration → Option (List Sort)
family_sorts (Some (ghosts.Family f)) = Some f.arguments
family_sorts d = None

-- a number of what annotations declare, where it is a family
abbrev pub if_family : Scope → Option ℕ → Option ℕ
if_family s None = None
if_family s (Some k) = if is_some (family_sorts (ghost_of s k)) then Some k else None

-- the family that a name means where it stands, by its number
abbrev pub family_at : Scope → Name → Option ℕ
family_at s n = if_family s (ghost_number (declaration_of s n.text n.place.file))

-- what is a function
abbrev pub function_in : Option Meaning → Option ℕ
function_in (Some (meanings.Function m)) = Some m
function_in d = None

-- the function of C that a name means where it stands, by its number
abbrev pub function_at : Scope → Name → Option ℕ
function_at s n = function_in (declaration_of s n.text n.place.file)

-- a family has a body for the function with a number already
abbrev pub has_instance : Option GhostSides → ℕ → Bool
has_instance None m = false
has_instance (Some x) m = has x.functions m

-- the family and the function of a body, unless a name means none, or there is such a body already
pub data AreFound (f g : Name) (s : Scope) (k m : ℕ) : Type 0 where
  found : family_at s f ≡ Some k → function_at s g ≡ Some m → has_instance (sides_of_ghost s k) m ≡ false → AreFound f g s k m

-- why the names of a family and a function are refused
pub data NamesFail (f g : Name) (s : Scope) : Refusal → Type 0 where
  no_family : family_at s f ≡ None → NamesFail f g s (refused rules.Name f.place)
  no_function : {k : ℕ} → family_at s f ≡ Some k → function_at s g ≡ None → NamesFail f g s (refused rules.Name g.place)
  again : {k m : ℕ} → family_at s f ≡ Some k → function_at s g ≡ Some m → has_instance (sides_of_ghost s k) m ≡ true → NamesFail f g s (refused rules.Name g.place)

-- an answer for the names of a family and a function is what they mean, or their refusal
pub record AreNamed (f g : Name) (s : Scope) (r : Result Instance RuleFault) : Type 0 where
  pub answers : Answers (λ i. AreFound f g s i.family i.function) (NamesFail f g s) r

-- the parameters of a body have the sorts of the family's, else the family's name in it is refused
pub data IsInstance (f : Name) (k m : ℕ) (t : Taken) : Walked → Type 0 where
  agreed : AreSame t.sorts (or_none (family_sorts (ghost_of t.scope k))) → IsInstance f k m t (Ok (with_instance t.scope k m))
  differs : (AreSame t.sorts (or_none (family_sorts (ghost_of t.scope k))) → ⊥) → IsInstance f k m t (Err (refused rules.Name f.place))

-- a body of a family for a function
pub data InstanceComes (f g : Name) (gs : List GhostParameter) (xs : PartTrees) (s : Scope) : Walked → Type 0 where
  names : {r : Refusal} → NamesFail f g s r → InstanceComes f g gs xs s (Err r)
  body : {k m : ℕ} {w : Walked} → AreFound f g s k m → Then (Then (Only (parameters_behind [] gs (none_taken s))) (IsInstance f k m)) (BodyComes (length s.locals.names) xs) w → InstanceComes f g gs xs s w
