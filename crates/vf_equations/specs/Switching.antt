-- What stands in front of the cases of a fixpoint: the name of a parameter of a datatype's sort, for whose type parameters unknown sorts stand in the cases.
use Rattle.std.specs.Prelude.{◌≡◌, ℕ, Bool, true, false, ◌&&◌, List, [], ◌∷◌, Option, Some, None, is_some, Result, Ok, Err}
use Rattle.vf_base.specs.declared.place.Place.{Place}
use Rattle.vf_base.specs.declared.refusal.Refusal.{Refusal}
use Rattle.vf_base.specs.declared.rule.Rule.TheVariants as rules
use Rattle.vf_sorts.specs.Sorts.{Sort}
use Rattle.vf_sorts.specs.Unknowns.{IsBelow, Known}
use Rattle.vf_sorts.specs.Unifying.{AreApart, Equates}
use Rattle.vf_declared.specs.declared.declaration.Meaning.{Meaning}
use Rattle.vf_declared.specs.declared.locals.Local.{Local}
use Rattle.vf_declared.specs.declared.scope.Scope.{Scope}
use Rattle.vf_declared.specs.Scopes.{declaration_of, local_of}
use Rattle.vf_syntax.specs.declared.item.FixpointCase.{FixpointCase}
use Rattle.vf_syntax.specs.declared.written.Name.{Name}
use Rattle.vf_sorting.specs.Kinds.{with_fresh}
use Rattle.vf_sorting.specs.Refusals.{refused}
use Rattle.vf_sorting.specs.Schemes.{sort_of_local}
use Rattle.vf_asserting.specs.Cases.{case_number, datatype_in}
use Rattle.vf_asserting.specs.Switches.{parameters_of, unknown_datatype}

-- each case is for a constructor of a datatype, and has as many names as that has arguments; which constructors have a case is asked elsewhere
abbrev pub are_constructors : Scope → ℕ → List FixpointCase → Bool
are_constructors s d [] = true
are_constructors s d (x ∷ cs) = is_some (case_number s d x.pattern) && are_constructors s d cs

-- a name that is not that of a local is refused: by the rule of names where it means nothing, else by the rule of sorts
abbrev pub no_local : Place → Option Meaning → Refusal
no_local p None = refused rules.Name p
no_local p (Some m) = refused rules.Typing p

-- the sort of a name that may be that of a local
abbrev pub sort_in : Scope → Name → Option Local → Result Sort Refusal
sort_in s n None = Err (no_local n.place (declaration_of s n.text n.place.file))
sort_in s n (Some l) = Ok (sort_of_local l)

-- the sort of what a fixpoint switches over
abbrev pub switched_sort : Scope → Name → Result Sort Refusal
switched_sort s n = sort_in s n (local_of s n.text)

-- a fixpoint may switch over a name with these cases: it is that of a local of a datatype's sort, to whose arguments unknown sorts from 0 on are made equal, and each case is for a constructor of it
pub data Switches (s : Scope) (n : Name) (cs : List FixpointCase) : ℕ → Known → Type 0 where
  switches : {k : Known} {t : Sort} {d : ℕ} → switched_sort s n ≡ Ok t → IsBelow 0 t → datatype_in t ≡ Some d → are_constructors s d cs ≡ true → Equates (with_fresh [] (parameters_of s d)) t (unknown_datatype s 0 d) k → Switches s n cs (parameters_of s d) k

-- a fixpoint may not switch over a name with these cases, which is refused at the name
pub data SwitchFails (s : Scope) (n : Name) (cs : List FixpointCase) : Refusal → Type 0 where
  its_name : {r : Refusal} → switched_sort s n ≡ Err r → SwitchFails s n cs r
  stray : {t : Sort} → switched_sort s n ≡ Ok t → (IsBelow 0 t → ⊥) → SwitchFails s n cs (refused rules.Typing n.place)
  no_datatype : {t : Sort} → switched_sort s n ≡ Ok t → IsBelow 0 t → datatype_in t ≡ None → SwitchFails s n cs (refused rules.Typing n.place)
  other_cases : {t : Sort} {d : ℕ} → switched_sort s n ≡ Ok t → IsBelow 0 t → datatype_in t ≡ Some d → are_constructors s d cs ≡ false → SwitchFails s n cs (refused rules.Typing n.place)
  other_sorts : {t : Sort} {d : ℕ} → switched_sort s n ≡ Ok t → IsBelow 0 t → datatype_in t ≡ Some d → are_constructors s d cs ≡ true → AreApart (with_fresh [] (parameters_of s d)) t (unknown_datatype s 0 d) → SwitchFails s n cs (refused rules.Typing n.place)
