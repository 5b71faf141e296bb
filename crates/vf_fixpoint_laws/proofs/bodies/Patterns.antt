-- What the constructor of a case is: a constructor of the datatype, which is declared by the identity that the case has.
use Rattle.std.proofs.Common.{◌≡◌, ℕ, Bool, true, false, List, length, Option, Some, None, refl, ap, ◌∙◌}
use Rattle.std.specs.Prelude.{if◌then◌else◌, is_some, nat_eq}
use Rattle.std.proofs.lemmas.Bool.Decides.{nat_tests}
use Rattle.std.proofs.Common.{arith}
use Rattle.vf_syntax.specs.declared.pattern.CasePattern.{CasePattern}
use Rattle.vf_declared.specs.declared.declaration.Constructor.{Constructor}
use Rattle.vf_declared.specs.declared.declaration.Declaration.{Declaration}
use Rattle.vf_declared.specs.declared.declaration.GhostDeclaration.{GhostDeclaration}
use Rattle.vf_declared.specs.declared.declaration.GhostDeclaration.TheVariants as ghosts
use Rattle.vf_declared.specs.declared.declaration.Meaning.{Meaning}
use Rattle.vf_declared.specs.declared.declaration.Meaning.TheVariants as meanings
use Rattle.vf_declared.specs.declared.scope.Scope.{Scope}
use Rattle.vf_declared.specs.Scopes.{at_name, declaration_of, declared_in, ghost_of, is_visible}
use Rattle.vf_asserting.specs.Cases.{arguments_at, arguments_in, case_arguments, case_number, ghost_number, names_or_none, takes, taking}
use Rattle.vf_terms.specs.Named.{identity_of, seen_from}
use Rattle.vf_defining.specs.Bodies.{files_of, identity_at}
use Rattle.vf_fixpoint_laws.specs.values.Declares.{Declares}
use Rattle.vf_fixpoint_laws.proofs.values.Operating.{first_of, second_of}
use Rattle.vf_fixpoint_laws.specs.bodies.Bodies.{declared_at}

-- a declaration that takes so many arguments
pub record IsTaking (d m : ℕ) (o : Option GhostDeclaration) : Type 0 where
  pub constructor_ : Constructor
  pub is : o ≡ Some (ghosts.Constructor constructor_)
  pub built : constructor_.datatype ≡ d
  pub long : length constructor_.arguments ≡ m

taking_told : (d m : ℕ) (o : Option GhostDeclaration) → takes d m o ≡ true → IsTaking d m o
taking_told d m (Some (ghosts.Constructor k)) e =
    let a : nat_eq k.datatype d ≡ true = first_of (nat_eq k.datatype d) (nat_eq (length k.arguments) m) e in
    let b : nat_eq (length k.arguments) m ≡ true = second_of (nat_eq k.datatype d) (nat_eq (length k.arguments) m) e in
    record { constructor_ = k; is = refl; built = grind (arith, nat_tests, a); long = grind (arith, nat_tests, b) }
taking_told d m (Some (ghosts.Fixpoint f)) e = absurd cc
taking_told d m (Some (ghosts.PredicateConstructor k)) e = absurd cc
taking_told d m (Some (ghosts.Datatype n)) e = absurd cc
taking_told d m (Some (ghosts.Predicate ts)) e = absurd cc
taking_told d m (Some (ghosts.Family f)) e = absurd cc
taking_told d m (Some (ghosts.Lemma l)) e = absurd cc
taking_told d m None e = absurd cc

-- a name that means a declaration of annotations
pub record IsMeant (s : Scope) (paths : List (List ℕ)) (from : ℕ) (x : List ℕ) (n : ℕ) (o : Option Declaration) : Type 0 where
  pub declaration : Declaration
  pub found : o ≡ Some declaration
  pub means : declaration.meaning ≡ meanings.Ghost n
  pub identity : identity_of paths (files_of (seen_from s from o)) x ≡ identity_of paths declaration.files x

pub meant_told : (s : Scope) (paths : List (List ℕ)) (from : ℕ) (x : List ℕ) (n : ℕ) (o : Option Declaration) → declared_in s from o ≡ Some (meanings.Ghost n) → IsMeant s paths from x n o
meant_told s paths from x n None e = absurd cc
meant_told s paths from x n (Some d) e = by (is_visible s from d.files) refl e
  where
    by : (b : Bool) → is_visible s from d.files ≡ b → (if b then Some d.meaning else None) ≡ Some (meanings.Ghost n) → IsMeant s paths from x n (Some d)
    by true is e = record { declaration = d; found = refl; means = (let q : d.meaning ≡ meanings.Ghost n = cc in q); identity = ap (λ (b : Bool). identity_of paths (files_of (if b then Some d else None)) x) is }
    by false is e = absurd cc

-- the constructor of a case
pub record IsCaseOf (s : Scope) (paths : List (List ℕ)) (d : ℕ) (x : CasePattern) : Type 0 where
  pub constructor_ : Constructor
  pub declares : Declares (declared_at s paths) (identity_at s paths x.constructor) (ghosts.Constructor constructor_)
  pub built : constructor_.datatype ≡ d
  pub long : length constructor_.arguments ≡ length (names_or_none x.names)
  pub arguments : case_arguments s x ≡ constructor_.arguments

pub case_told : (s : Scope) (paths : List (List ℕ)) (d : ℕ) (x : CasePattern) → is_some (case_number s d x) ≡ true → IsCaseOf s paths d x
case_told s paths d x e = by (declaration_of s x.constructor.text x.constructor.place.file) refl e
  where
    at : (n : ℕ) → declaration_of s x.constructor.text x.constructor.place.file ≡ Some (meanings.Ghost n) → takes d (length (names_or_none x.names)) (ghost_of s n) ≡ true → IsCaseOf s paths d x
    at n is t =
        let k = taking_told d (length (names_or_none x.names)) (ghost_of s n) t in
        let m = meant_told s paths x.constructor.place.file x.constructor.text n (at_name s.names s.declarations x.constructor.text) is in
        record {
          constructor_ = k.constructor_;
          declares = record { name = x.constructor.text; declaration = m.declaration; number = n; found = m.found; means = m.means; stands = k.is; is = m.identity };
          built = k.built;
          long = k.long;
          arguments = ap (λ (o : Option Meaning). arguments_at s (ghost_number o)) is ∙ ap arguments_in k.is;
        }

    when : (n : ℕ) → declaration_of s x.constructor.text x.constructor.place.file ≡ Some (meanings.Ghost n) → (b : Bool) → takes d (length (names_or_none x.names)) (ghost_of s n) ≡ b → is_some (if b then Some n else None) ≡ true → IsCaseOf s paths d x
    when n is true t e = at n is t
    when n is false t e = absurd cc

    by : (o : Option Meaning) → declaration_of s x.constructor.text x.constructor.place.file ≡ o → is_some (taking s d (length (names_or_none x.names)) (ghost_number o)) ≡ true → IsCaseOf s paths d x
    by (Some (meanings.Ghost n)) is e = when n is (takes d (length (names_or_none x.names)) (ghost_of s n)) refl e
    by (Some (meanings.Function n)) is e = absurd cc
    by (Some (meanings.FunctionType n)) is e = absurd cc
    by None is e = absurd cc
