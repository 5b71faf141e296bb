-- Calls of lemmas and functions in ghost text. That no function of C may be called there is for a later check to say.
use Rattle.std.specs.Prelude.{◌≡◌, ℕ, true, false, nat_eq, List, [], length, map, Option, Some, None, Result, Ok, Err}
use Rattle.vf_base.specs.declared.place.Place.{Place}
use Rattle.vf_base.specs.declared.refusal.Refusal.{Refusal}
use Rattle.vf_base.specs.declared.rule.Rule.TheVariants as rules
use Rattle.vf_sorts.specs.Unknowns.{AreBelow, Known}
use Rattle.vf_declared.specs.declared.ctype.CType.{CType}
use Rattle.vf_declared.specs.declared.declaration.GhostDeclaration.{GhostDeclaration}
use Rattle.vf_declared.specs.declared.declaration.GhostDeclaration.TheVariants as ghosts
use Rattle.vf_declared.specs.declared.declaration.Meaning.{Meaning}
use Rattle.vf_declared.specs.declared.declaration.Meaning.TheVariants as meanings
use Rattle.vf_declared.specs.declared.declaration.Signature.{Signature}
use Rattle.vf_declared.specs.declared.scope.Scope.{Scope}
use Rattle.vf_declared.specs.Scopes.{declaration_of, ghost_of, signature_of}
use Rattle.vf_syntax.specs.GhostExprTree.{GhostExprTrees}
use Rattle.vf_sorting.specs.declared.context.Context.{Context}
use Rattle.vf_sorting.specs.HasSort.{ArePassed}
use Rattle.vf_sorting.specs.IsRefused.{AnyFails}
use Rattle.vf_sorting.specs.Kinds.{with_fresh}
use Rattle.vf_sorting.specs.Operators.{count}
use Rattle.vf_sorting.specs.Refusals.{refused}
use Rattle.vf_sorting.specs.Schemes.{names_predicate, sort_of_type, used_parameters}
use Rattle.vf_commands.specs.declared.callee.Callee.{Callee}

-- the types of the parameters of a function that may be none
abbrev pub types_in : Option Signature → List CType
types_in None = []
types_in (Some g) = g.parameters

-- a function takes values of the sorts of its parameters
abbrev pub called_function : Option Signature → Callee
called_function g = record { parameters = 0; arguments = map sort_of_type (types_in g) }

-- what annotations declare by a number is called at a place: a lemma, with unknown sorts for its type parameters except in its own text
abbrev pub called_ghost : Option ℕ → Place → ℕ → Option GhostDeclaration → Result Callee Refusal
called_ghost own p n (Some (ghosts.Lemma l)) = Ok (record { parameters = used_parameters own n l.parameters; arguments = l.arguments })
called_ghost own p n d = Err (refused rules.Typing p)

-- what a name of file level means is called at a place
abbrev pub called : Scope → Option ℕ → Place → Option Meaning → Result Callee Refusal
called s own p None = Err (refused rules.Name p)
called s own p (Some (meanings.Function n)) = Ok (called_function (signature_of s n))
called s own p (Some (meanings.FunctionType n)) = Err (refused rules.Typing p)
called s own p (Some (meanings.Ghost n)) = called_ghost own p n (ghost_of s n)

-- what the call of a name at a place takes, or its refusal, in the text of something that has a number or none
abbrev pub callee_of : Scope → Option ℕ → Place → List ℕ → Result Callee Refusal
callee_of s own p x = called s own p (declaration_of s x p.file)

-- a call may stand: unknown sorts stand for type parameters, and the arguments pass from left to right
pub data CallPasses (s : Scope) (c : Context) : Known → Place → List ℕ → GhostExprTrees → Known → Type 0 where
  calls : {k k' : Known} {p : Place} {f : List ℕ} {xs : GhostExprTrees} {g : Callee} → names_predicate s k f ≡ false → callee_of s c.own p f ≡ Ok g → AreBelow (length k) g.arguments → ArePassed s c (with_fresh k g.parameters) (length k) g.parameters g.arguments xs k' → CallPasses s c k p f xs k'

-- a call is refused
pub data CallFails (s : Scope) (c : Context) : Known → Place → List ℕ → GhostExprTrees → Refusal → Type 0 where
  called_local : {k : Known} {p : Place} {f : List ℕ} {xs : GhostExprTrees} → names_predicate s k f ≡ true → CallFails s c k p f xs (refused rules.Typing p)
  no_lemma : {k : Known} {p : Place} {f : List ℕ} {xs : GhostExprTrees} {r : Refusal} → names_predicate s k f ≡ false → callee_of s c.own p f ≡ Err r → CallFails s c k p f xs r
  stray : {k : Known} {p : Place} {f : List ℕ} {xs : GhostExprTrees} {g : Callee} → names_predicate s k f ≡ false → callee_of s c.own p f ≡ Ok g → (AreBelow (length k) g.arguments → ⊥) → CallFails s c k p f xs (refused rules.Typing p)
  other_count : {k : Known} {p : Place} {f : List ℕ} {xs : GhostExprTrees} {g : Callee} → names_predicate s k f ≡ false → callee_of s c.own p f ≡ Ok g → AreBelow (length k) g.arguments → nat_eq (length g.arguments) (count xs) ≡ false → CallFails s c k p f xs (refused rules.Typing p)
  argument : {k : Known} {p : Place} {f : List ℕ} {xs : GhostExprTrees} {g : Callee} {r : Refusal} → names_predicate s k f ≡ false → callee_of s c.own p f ≡ Ok g → AreBelow (length k) g.arguments → nat_eq (length g.arguments) (count xs) ≡ true → AnyFails s c (with_fresh k g.parameters) (length k) g.parameters g.arguments xs r → CallFails s c k p f xs r
