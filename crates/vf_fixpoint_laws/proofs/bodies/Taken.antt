-- Bodies whose results are taken as numbers, and the definitions that a fixpoint has by the sort of its result.
use Rattle.std.proofs.Common.{◌≡◌, refl, sym, ap, subst, ◌∙◌, ◌⊎◌, inl, inr, ℕ, zero, suc, Bool, true, false, cond, List, [], ◌∷◌, length, map, Option, Some, None, is_some, arith}
use Rattle.std.specs.Prelude.{Contains}
use Rattle.vf_tree.specs.Core.{Identity}
use Rattle.vf_model.specs.Values.{same_identity}
use Rattle.vf_closure.specs.Terms.{Kind, Integer, Other, Term, term, kind_of}
use Rattle.vf_normal.specs.Sums.{as_integer, integer_by}
use Rattle.vf_formula.specs.Heads.{shown_kind}
use Rattle.vf_formula.specs.declared.head.Kind as code
use Rattle.vf_formula.specs.declared.head.Kind.TheVariants as kinds
use Rattle.vf_sorts.specs.declared.sort.Head.TheVariants as heads
use Rattle.vf_sorts.specs.Sorts.{Sort, sort}
use Rattle.vf_declared.specs.declared.scope.Scope.{Scope}
use Rattle.vf_terms.specs.Settings.{kind_of_sort}
use Rattle.vf_definitions.specs.Unfolded.{case_for}
use Rattle.vf_definitions.specs.declared.fixpoint.Body.{Body}
use Rattle.vf_definitions.specs.declared.fixpoint.Body.TheVariants.{Returns, Switches}
use Rattle.vf_definitions.specs.declared.fixpoint.Case.{Case}
use Rattle.vf_definitions.specs.declared.fixpoint.Fixpoint as definitions
use Rattle.vf_defining.specs.Bodies.{identity_at}
use Rattle.vf_defining.specs.Units.{Written, case_of_integers, definitions_of, of_integers}
use Rattle.vf_fixpoint_laws.specs.bodies.Bodies.{HasEachCase}
use Rattle.vf_fixpoint_laws.specs.bodies.Numbers.{BodyIsKinded, TermIsKinded}
use Rattle.vf_fixpoint_laws.specs.bodies.Recursion.{BodyGoesDown, Ranks, TermGoesDown}
use Rattle.vf_fixpoint_laws.specs.values.Declares.{Declared}

-- ---- the definitions of a fixpoint
-- the kind of a sort, as the code has it
abbrev pub own_kind : Sort → code.Kind
own_kind (sort heads.Int ts) = kinds.Integer
own_kind t = kinds.Other

pub own_shown : (t : Sort) → shown_kind (own_kind t) ≡ kind_of_sort t
own_shown (sort heads.Int ts) = refl
own_shown (sort heads.Bool ts) = refl
own_shown (sort (heads.Pointer w) ts) = refl
own_shown (sort heads.Real ts) = refl
own_shown (sort heads.Any ts) = refl
own_shown (sort (heads.Parameter i) ts) = refl
own_shown (sort (heads.Unknown u) ts) = refl
own_shown (sort (heads.Datatype d) ts) = refl
own_shown (sort heads.Predicate ts) = refl

-- a definition of a kind, of a fixpoint with a body in terms
abbrev pub definition_of : Scope → List (List ℕ) → Written → Body → code.Kind → definitions.Fixpoint
definition_of s paths w b k = record { kind = k; identity = identity_at s paths w.name; parameters = length w.parameters; body = b }

module _ (s : Scope) (paths : List (List ℕ)) (w : Written) (b : Body) where
  -- one has the kind of the sort, and the body as it is
  pub own_there : (t : Sort) → Contains (definitions_of s paths w b t) (definition_of s paths w b (own_kind t))
  own_there (sort heads.Int ts) = (zero, omega arith, refl)
  own_there (sort heads.Bool ts) = (zero, omega arith, refl)
  own_there (sort (heads.Pointer w) ts) = (zero, omega arith, refl)
  own_there (sort heads.Real ts) = (zero, omega arith, refl)
  own_there (sort heads.Any ts) = (zero, omega arith, refl)
  own_there (sort (heads.Parameter i) ts) = (zero, omega arith, refl)
  own_there (sort (heads.Unknown u) ts) = (zero, omega arith, refl)
  own_there (sort (heads.Datatype d) ts) = (zero, omega arith, refl)
  own_there (sort heads.Predicate ts) = (zero, omega arith, refl)

  -- each has the fixpoint's identity and parameters, and the body as it is or taken as numbers; where the sort is that of integers it is one of these
  pub record IsOneOf (t : Sort) (x : definitions.Fixpoint) : Type 0 where
    pub identity : x.identity ≡ identity_at s paths w.name
    pub counted : x.parameters ≡ length w.parameters
    pub taken : (x.body ≡ b) ⊎ (x.body ≡ of_integers b)
    pub integers : kind_of_sort t ≡ Integer → shown_kind x.kind ≡ Integer

  one_own : (t : Sort) (k : code.Kind) (x : definitions.Fixpoint) → (kind_of_sort t ≡ Integer → shown_kind k ≡ Integer) → definition_of s paths w b k ≡ x → IsOneOf t x
  one_own t k x h is = record { identity = ap (λ (d : definitions.Fixpoint). d.identity) (sym is); counted = ap (λ (d : definitions.Fixpoint). d.parameters) (sym is); taken = inl (ap (λ (d : definitions.Fixpoint). d.body) (sym is)); integers = λ q. ap (λ (d : definitions.Fixpoint). shown_kind d.kind) (sym is) ∙ h q }

  one_taken : (t : Sort) (x : definitions.Fixpoint) → definition_of s paths w (of_integers b) kinds.Integer ≡ x → IsOneOf t x
  one_taken t x is = record { identity = ap (λ (d : definitions.Fixpoint). d.identity) (sym is); counted = ap (λ (d : definitions.Fixpoint). d.parameters) (sym is); taken = inr (ap (λ (d : definitions.Fixpoint). d.body) (sym is)); integers = λ q. ap (λ (d : definitions.Fixpoint). shown_kind d.kind) (sym is) }

  one_alone : (t : Sort) (k : code.Kind) (x : definitions.Fixpoint) → (kind_of_sort t ≡ Integer → shown_kind k ≡ Integer) → Contains (definition_of s paths w b k ∷ []) x → IsOneOf t x
  one_alone t k x h (zero, l, is) = one_own t k x h is
  one_alone t k x h (suc j, l, is) = absurd (omega (arith, l))

  pub one_of : (t : Sort) (x : definitions.Fixpoint) → Contains (definitions_of s paths w b t) x → IsOneOf t x
  one_of (sort heads.Int ts) x c = one_alone (sort heads.Int ts) kinds.Integer x (λ q. refl) c
  one_of (sort heads.Bool ts) x c = one_alone (sort heads.Bool ts) kinds.Other x (λ q. absurd cc) c
  one_of (sort (heads.Pointer p) ts) x c = one_alone (sort (heads.Pointer p) ts) kinds.Other x (λ q. absurd cc) c
  one_of (sort heads.Real ts) x c = one_alone (sort heads.Real ts) kinds.Other x (λ q. absurd cc) c
  one_of (sort heads.Any ts) x c = one_alone (sort heads.Any ts) kinds.Other x (λ q. absurd cc) c
  one_of (sort (heads.Parameter i) ts) x (zero, l, is) = one_own (sort (heads.Parameter i) ts) kinds.Other x (λ q. absurd cc) is
  one_of (sort (heads.Parameter i) ts) x (suc zero, l, is) = one_taken (sort (heads.Parameter i) ts) x is
  one_of (sort (heads.Parameter i) ts) x (suc (suc j), l, is) = absurd (omega (arith, l))
  one_of (sort (heads.Unknown u) ts) x c = one_alone (sort (heads.Unknown u) ts) kinds.Other x (λ q. absurd cc) c
  one_of (sort (heads.Datatype d) ts) x c = one_alone (sort (heads.Datatype d) ts) kinds.Other x (λ q. absurd cc) c
  one_of (sort heads.Predicate ts) x c = one_alone (sort heads.Predicate ts) kinds.Other x (λ q. absurd cc) c

-- ---- cases
-- a case that is taken as a number is one of those before it
pub case_taken : (cases : List Case) (g : Identity) (y : Case) → case_for (map case_of_integers cases) g ≡ Some y → (x : Case) × (case_for cases g ≡ Some x) × (case_of_integers x ≡ y)
case_taken [] g y e = absurd cc
case_taken (x ∷ cases) g y e = by (same_identity x.constructor g) e (case_taken cases g y)
  where
    by : (b : Bool) → cond b (Some (case_of_integers x)) (case_for (map case_of_integers cases) g) ≡ Some y → (case_for (map case_of_integers cases) g ≡ Some y → (z : Case) × (case_for cases g ≡ Some z) × (case_of_integers z ≡ y)) → (z : Case) × (cond b (Some x) (case_for cases g) ≡ Some z) × (case_of_integers z ≡ y)
    by true e h = (x, refl, (let q : case_of_integers x ≡ y = cc in q))
    by false e h = h e

-- and each that is there before it is there
pub case_stays : (cases : List Case) (g : Identity) → is_some (case_for cases g) ≡ true → is_some (case_for (map case_of_integers cases) g) ≡ true
case_stays [] g e = e
case_stays (x ∷ cases) g e = by (same_identity x.constructor g) e (case_stays cases g)
  where
    by : (b : Bool) → is_some (cond b (Some x) (case_for cases g)) ≡ true → (is_some (case_for cases g) ≡ true → is_some (case_for (map case_of_integers cases) g) ≡ true) → is_some (cond b (Some (case_of_integers x)) (case_for (map case_of_integers cases) g)) ≡ true
    by true e h = refl
    by false e h = h e

-- ---- what stays so of bodies that are taken as numbers
kinded_taken : (fs : List definitions.Fixpoint) (t : Term) → TermIsKinded fs t → TermIsKinded fs (as_integer t)
kinded_taken fs (term h ts) e = by (kind_of h)
  where
    by : (k : Kind) → TermIsKinded fs (integer_by k (term h ts))
    by Integer = e
    by Other = (tt, (e, tt))

pub body_kinded_taken : (fs : List definitions.Fixpoint) (b : Body) → BodyIsKinded fs b → BodyIsKinded fs (of_integers b)
body_kinded_taken fs (Returns t) e = kinded_taken fs t e
body_kinded_taken fs (Switches p cases) e = λ g y there.
    let x = case_taken cases g y there in
    subst (λ (z : Case). TermIsKinded fs z.result) x.2 (kinded_taken fs x.0.result (e g x.0 x.1))

down_taken : (r : Ranks) (c : Identity) (n : ℕ) (o : Option ℕ) (t : Term) → TermGoesDown r c n o t → TermGoesDown r c n o (as_integer t)
down_taken r c n o (term h ts) e = by (kind_of h)
  where
    by : (k : Kind) → TermGoesDown r c n o (integer_by k (term h ts))
    by Integer = e
    by Other = (tt, (e, tt))

pub body_down_taken : (r : Ranks) (c : Identity) (n : ℕ) (b : Body) → BodyGoesDown r c n b → BodyGoesDown r c n (of_integers b)
body_down_taken r c n (Returns t) e = down_taken r c n None t e
body_down_taken r c n (Switches p cases) e = λ g y there.
    let x = case_taken cases g y there in
    subst (λ (z : Case). TermGoesDown r c n (Some p) z.result) x.2 (down_taken r c n (Some p) x.0.result (e g x.0 x.1))

pub each_case_taken : (d : Declared) (ts : List Sort) (b : Body) → HasEachCase d ts b → HasEachCase d ts (of_integers b)
each_case_taken d ts (Returns t) e = tt
each_case_taken d ts (Switches k cases) e = λ n us at c x declares built. case_stays cases c (e n us at c x declares built)

-- what is so of a body, and stays so taken as numbers, is so of each definition
pub either_taken : (P : Body → Type 0) (b c : Body) → (c ≡ b) ⊎ (c ≡ of_integers b) → P b → (P b → P (of_integers b)) → P c
either_taken P b c (inl q) h f = subst P (sym q) h
either_taken P b c (inr q) h f = subst P (sym q) (f h)
