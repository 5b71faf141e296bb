-- Names mean the same in front of arguments and as values where what is declared is preserved.
use Rattle.std.proofs.Common.{◌≡◌, refl, ◌∙◌, ap, ℕ, Bool, true, false, ◌&&◌, if◌then◌else◌, nat_eq, List, [], ◌∷◌, drop, codes, Option, Some, None, Result, Ok, Err, zero, suc, ◌≤◌, length, slice_get, is_some, arith}
use Rattle.std.specs.List.{starts_with}
use Rattle.vf_base.specs.declared.place.Place.{Place}
use Rattle.vf_base.specs.declared.refusal.Refusal.{Refusal}
use Rattle.vf_base.specs.declared.rule.Rule.TheVariants as rules
use Rattle.vf_names.specs.Names.{number_of}
use Rattle.vf_sorts.specs.Sorts.{Sort}
use Rattle.vf_sorts.specs.Unknowns.{Known}
use Rattle.vf_declared.specs.declared.declaration.Constructor.{Constructor}
use Rattle.vf_declared.specs.declared.declaration.GhostDeclaration.{GhostDeclaration}
use Rattle.vf_declared.specs.declared.declaration.GhostDeclaration.TheVariants as ghosts
use Rattle.vf_declared.specs.declared.declaration.Meaning.{Meaning}
use Rattle.vf_declared.specs.declared.declaration.Meaning.TheVariants as meanings
use Rattle.vf_declared.specs.declared.locals.Local.{Local}
use Rattle.vf_declared.specs.declared.locals.Locals.{Locals}
use Rattle.vf_declared.specs.declared.scope.Scope.{Scope}
use Rattle.vf_declared.specs.Changes.{IsAligned}
use Rattle.vf_declared.specs.Scopes.{datatype_of, declaration_of, ghost_of, is_later_predicate, local_in, local_of, at_index}
use Rattle.vf_sorting.specs.declared.scheme.Scheme.{Scheme}
use Rattle.vf_sorting.specs.Kinds.{datatype_sort}
use Rattle.vf_sorting.specs.Refusals.{refused}
use Rattle.vf_sorting.specs.Schemes.{applied_ghost, applied_scheme, applied_test, application_scheme, constant_scheme, constructor_scheme, count_in, declared_scheme, ghost_scheme, is_function_type, is_predicate_local, later_scheme, local_scheme, name_scheme, names_predicate, test_scheme, tests_type}
use Rattle.vf_fixpoint_laws.specs.definable.Preserved.{Preserves}
use Rattle.vf_fixpoint_laws.proofs.definable.Lists.{number_below}

-- what is no scheme
none_given : {A : Type 0} {x : Refusal} {g : Scheme} → ◌≡◌ {A = Result Scheme Refusal} (Err x) (Ok g) → A
none_given e = absurd cc

-- ---- what is declared by numbers
constructor_kept : (s t : Scope) (k : Constructor) → datatype_of t k.datatype ≡ datatype_of s k.datatype → constructor_scheme t k ≡ constructor_scheme s k
constructor_kept s t k e = λ i. record { parameters = count_in (e i); arguments = k.arguments; result = datatype_sort k.datatype (count_in (e i)) }

constant_kept : (s t : Scope) (p : Place) (k : Constructor) (ts : List Sort) → datatype_of t k.datatype ≡ datatype_of s k.datatype → constant_scheme t p k ts ≡ constant_scheme s p k ts
constant_kept s t p k [] e = ap Ok (constructor_kept s t k e)
constant_kept s t p k (u ∷ us) e = refl

-- ---- values
ghost_kept : {P : List ℕ → Type 0} {s t : Scope} → Preserves P s t → (p : Place) (n : ℕ) (o : Option GhostDeclaration) (g : Scheme) → ghost_of s n ≡ o → ghost_scheme s p o ≡ Ok g → ghost_scheme t p (ghost_of t n) ≡ Ok g
ghost_kept h p n None g e f = none_given f
ghost_kept {s = s} {t = t} h p n (Some (ghosts.Constructor k)) g e f = ap (ghost_scheme t p) (h.annotations n (ghosts.Constructor k) e) ∙ (constant_kept s t p k k.arguments (h.constructors n k e) ∙ f)
ghost_kept {t = t} h p n (Some (ghosts.Predicate ss)) g e f = ap (ghost_scheme t p) (h.annotations n (ghosts.Predicate ss) e) ∙ f
ghost_kept h p n (Some (ghosts.Datatype d)) g e f = none_given f
ghost_kept h p n (Some (ghosts.Fixpoint d)) g e f = none_given f
ghost_kept h p n (Some (ghosts.Family d)) g e f = none_given f
ghost_kept h p n (Some (ghosts.PredicateConstructor d)) g e f = none_given f
ghost_kept h p n (Some (ghosts.Lemma d)) g e f = none_given f

declared_kept : {P : List ℕ → Type 0} {s t : Scope} → Preserves P s t → (p : Place) (x : List ℕ) → P x → (o : Option Meaning) (g : Scheme) → declared_scheme s p x o ≡ Ok g → declared_scheme t p x o ≡ Ok g
declared_kept h p x a None g e = ap (later_scheme p) (h.predicates x p.file a) ∙ e
declared_kept h p x a (Some (meanings.Function n)) g e = e
declared_kept h p x a (Some (meanings.FunctionType n)) g e = none_given e
declared_kept {s = s} h p x a (Some (meanings.Ghost n)) g e = ghost_kept h p n (ghost_of s n) g refl e

local_kept : {P : List ℕ → Type 0} {s t : Scope} → Preserves P s t → (p : Place) (x : List ℕ) (o : Option Local) → (o ≡ None → P x) → (g : Scheme) → local_scheme s p x o ≡ Ok g → local_scheme t p x o ≡ Ok g
local_kept {s = s} {t = t} h p x None a g e = ap (declared_scheme t p x) (h.names x p.file (a refl)) ∙ declared_kept h p x (a refl) (declaration_of s x p.file) g e
local_kept h p x (Some l) a g e = e

pub local_same : {P : List ℕ → Type 0} {s t : Scope} → Preserves P s t → (x : List ℕ) → local_of t x ≡ local_of s x
local_same h x = ap (λ l. local_in l x) h.locals

nothing_beside : {A B : Type 0} (xs : List A) (ys : List B) (k : ℕ) → length xs ≡ length ys → suc k ≤ length xs → slice_get ys k ≡ None → ⊥
nothing_beside [] ys k e l f = omega (arith, l)
nothing_beside (x ∷ xs) [] k e l f = omega (arith, e)
nothing_beside (x ∷ xs) (y ∷ ys) zero e l f = cc
nothing_beside (x ∷ xs) (y ∷ ys) (suc k) e l f = nothing_beside xs ys k (omega (arith, e)) (omega (arith, l)) f

unnamed_by : (l : Locals) (x : List ℕ) → IsAligned l → (o : Option ℕ) → number_of l.names x ≡ o → at_index l.meanings o ≡ None → is_some o ≡ false
unnamed_by l x a None e f = refl
unnamed_by l x a (Some k) e f = absurd (nothing_beside l.names l.meanings k a (number_below l.names x k e) f)

-- where a name is that of no local it is none of their names
unnamed : (l : Locals) (x : List ℕ) → IsAligned l → local_in l x ≡ None → is_some (number_of l.names x) ≡ false
unnamed l x a e = unnamed_by l x a (number_of l.names x) refl e

-- a name is the same as a value
pub name_kept : {P : List ℕ → Type 0} {s t : Scope} → Preserves P s t → (p : Place) (x : List ℕ) → (is_some (number_of s.locals.names x) ≡ false → P x) → (g : Scheme) → name_scheme s p x ≡ Ok g → name_scheme t p x ≡ Ok g
name_kept {s = s} {t = t} h p x a g e = ap (local_scheme t p x) (local_same h x) ∙ local_kept h p x (local_of s x) (λ n. a (unnamed s.locals x h.aligned n)) g e

-- ---- in front of arguments
applied_ghost_kept : {P : List ℕ → Type 0} {s t : Scope} → Preserves P s t → (own : Option ℕ) (p : Place) (n : ℕ) (o : Option GhostDeclaration) (g : Scheme) → ghost_of s n ≡ o → applied_ghost s own p n o ≡ Ok g → applied_ghost t own p n (ghost_of t n) ≡ Ok g
applied_ghost_kept h own p n None g e f = none_given f
applied_ghost_kept {s = s} {t = t} h own p n (Some (ghosts.Constructor k)) g e f = ap (applied_ghost t own p n) (h.annotations n (ghosts.Constructor k) e) ∙ (ap Ok (constructor_kept s t k (h.constructors n k e)) ∙ f)
applied_ghost_kept {t = t} h own p n (Some (ghosts.Fixpoint d)) g e f = ap (applied_ghost t own p n) (h.annotations n (ghosts.Fixpoint d) e) ∙ f
applied_ghost_kept {t = t} h own p n (Some (ghosts.PredicateConstructor d)) g e f = ap (applied_ghost t own p n) (h.annotations n (ghosts.PredicateConstructor d) e) ∙ f
applied_ghost_kept h own p n (Some (ghosts.Datatype d)) g e f = none_given f
applied_ghost_kept h own p n (Some (ghosts.Predicate d)) g e f = none_given f
applied_ghost_kept h own p n (Some (ghosts.Family d)) g e f = none_given f
applied_ghost_kept h own p n (Some (ghosts.Lemma d)) g e f = none_given f

-- a function type that a name means is one
type_there : {P : List ℕ → Type 0} {s t : Scope} → Preserves P s t → (x : List ℕ) (file : ℕ) (o : Option Meaning) → declaration_of s x file ≡ o → is_function_type o ≡ true → is_function_type (declaration_of t x file) ≡ true
type_there h x file None e f = absurd (let k : false ≡ true = f in cc)
type_there h x file (Some (meanings.Function n)) e f = absurd (let k : false ≡ true = f in cc)
type_there h x file (Some (meanings.FunctionType n)) e f = ap is_function_type (h.function_types x file n e)
type_there h x file (Some (meanings.Ghost n)) e f = absurd (let k : false ≡ true = f in cc)

both_parts : (a b c : Bool) → (b ≡ true → c ≡ true) → (a && b) ≡ true → (a && c) ≡ true
both_parts true b c h e = h e
both_parts false b c h e = e

tests_kept : {P : List ℕ → Type 0} {s t : Scope} → Preserves P s t → (x : List ℕ) (file : ℕ) → tests_type s x file ≡ true → tests_type t x file ≡ true
tests_kept {s = s} {t = t} h x file e = both_parts (starts_with nat_eq x (codes "is_")) (is_function_type (declaration_of s (drop 3 x) file)) (is_function_type (declaration_of t (drop 3 x) file)) (type_there h (drop 3 x) file (declaration_of s (drop 3 x) file) refl) e

abbrev test_or : Refusal → Bool → Result Scheme Refusal
test_or x b = if b then Ok test_scheme else Err x

-- what passes a test is the same whatever is refused else
test_either : (b c : Bool) (x y : Refusal) (g : Scheme) → (b ≡ true → c ≡ true) → test_or x b ≡ Ok g → test_or y c ≡ Ok g
test_either true c x y g h e = ap (test_or y) (h refl) ∙ e
test_either false c x y g h e = none_given e

test_kept : {P : List ℕ → Type 0} {s t : Scope} → Preserves P s t → (p : Place) (x : List ℕ) (g : Scheme) → applied_test s p x ≡ Ok g → applied_test t p x ≡ Ok g
test_kept {s = s} {t = t} h p x g e = test_either (tests_type s x p.file) (tests_type t x p.file) _ (refused (if is_later_predicate t x p.file then rules.Typing else rules.Name) p) g (tests_kept h x p.file) e

applied_kept : {P : List ℕ → Type 0} {s t : Scope} → Preserves P s t → (own : Option ℕ) (p : Place) (x : List ℕ) (o : Option Meaning) (g : Scheme) → applied_scheme s own p x o ≡ Ok g → applied_scheme t own p x o ≡ Ok g
applied_kept h own p x None g e = test_kept h p x g e
applied_kept h own p x (Some (meanings.Function n)) g e = none_given e
applied_kept h own p x (Some (meanings.FunctionType n)) g e = none_given e
applied_kept {s = s} h own p x (Some (meanings.Ghost n)) g e = applied_ghost_kept h own p n (ghost_of s n) g refl e

-- a name is the same in front of arguments
pub application_kept : {P : List ℕ → Type 0} {s t : Scope} → Preserves P s t → (own : Option ℕ) (p : Place) (x : List ℕ) → P x → (g : Scheme) → application_scheme s own p x ≡ Ok g → application_scheme t own p x ≡ Ok g
application_kept {s = s} {t = t} h own p x a g e = ap (applied_scheme t own p x) (h.names x p.file a) ∙ applied_kept h own p x (declaration_of s x p.file) g e

-- a name that is that of no local with a predicate sort is that of none
pub predicate_same : {P : List ℕ → Type 0} {s t : Scope} → Preserves P s t → (k : Known) (x : List ℕ) → names_predicate t k x ≡ names_predicate s k x
predicate_same h k x = ap (is_predicate_local k) (local_same h x)
