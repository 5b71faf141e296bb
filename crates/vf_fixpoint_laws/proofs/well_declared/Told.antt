-- Where a sort is written it is the one that was told of it ahead of the items.
use Rattle.std.proofs.Common.{◌≡◌, refl, sym, ◌∙◌, ap, ap₂, ℕ, Bool, true, false, if◌then◌else◌, nat_eq, List, [], ◌∷◌, length, Option, Some, None, Result, Ok, Err, slice_get}
use Rattle.vf_base.specs.declared.place.Place.{Place}
use Rattle.vf_base.specs.declared.refusal.Refusal.{Refusal}
use Rattle.vf_names.specs.Names.{number_of}
use Rattle.vf_sorts.specs.declared.sort.Head.TheVariants as heads
use Rattle.vf_sorts.specs.Sorts.{Sort, sort, row}
use Rattle.vf_sorts.specs.Unknowns.{leaf}
use Rattle.vf_declared.specs.declared.declaration.Declaration.{Declaration}
use Rattle.vf_declared.specs.declared.declaration.GhostDeclaration.{GhostDeclaration}
use Rattle.vf_declared.specs.declared.declaration.GhostDeclaration.TheVariants as ghosts
use Rattle.vf_declared.specs.declared.declaration.Meaning.{Meaning}
use Rattle.vf_declared.specs.declared.declaration.Meaning.TheVariants as meanings
use Rattle.vf_declared.specs.declared.declaration.Structure.{Structure}
use Rattle.vf_declared.specs.declared.scope.Scope.{Scope}
use Rattle.vf_declared.specs.Scopes.{at_name, datatype_of, declaration_of, declared_in, ghost_of, is_visible, tag_of, visible_number, visible_tag}
use Rattle.vf_syntax.specs.declared.item.GhostParameter.{GhostParameter}
use Rattle.vf_syntax.specs.declared.written.TypeForm.{TypeForm}
use Rattle.vf_syntax.specs.declared.written.TypeForm.TheVariants as forms
use Rattle.vf_syntax.specs.SortTree.{SortTree, SortTrees, no_sort, more_sort}
use Rattle.vf_syntax.specs.SortTree as tree
use Rattle.vf_sorting.specs.Kinds.{pointer_sort, predicate_sort, value_sort}
use Rattle.vf_sorting.specs.Schemes.{count_in, is_function_type}
use Rattle.vf_sorting.specs.Spelling.{applied_datatype, datatype_in, datatype_meant, datatype_over, form_sort, in_front, predicate_over, tagged_sort, written_sort, written_sorts}
use Rattle.vf_gathering.specs.declared.ahead.Ahead.{Ahead}
use Rattle.vf_gathering.specs.Told.{told, told_all, told_form, told_name, told_over, told_parameters}
use Rattle.vf_erasure_laws.proofs.hidden.Coming.{Comes, ok_comes}
use Rattle.vf_fixpoint_laws.proofs.definable.Extending.{core}
use Rattle.vf_fixpoint_laws.proofs.definable.Parts.{err_comes}
use Rattle.vf_fixpoint_laws.proofs.well_declared.Adding.{Means}
use Rattle.vf_fixpoint_laws.proofs.well_declared.Written.{EachBeside}

-- ---- what names mean
-- what is said of a name that is seen from a file
pub record IsSeen (s : Scope) (x : List ℕ) (m : Meaning) : Type 0 where
  pub declaration : Declaration
  pub found : at_name s.names s.declarations x ≡ Some declaration
  pub meaning : declaration.meaning ≡ m

seen_by : (s : Scope) (x : List ℕ) (from : ℕ) (o : Option Declaration) (m : Meaning) → at_name s.names s.declarations x ≡ o → declared_in s from o ≡ Some m → IsSeen s x m
seen_by s x from None m e f = absurd cc
seen_by s x from (Some d) m e f = by_test (is_visible s from d.files) f
  where
    by_test : (b : Bool) → ◌≡◌ {A = Option Meaning} (if b then Some d.meaning else None) (Some m) → IsSeen s x m
    by_test true g = record { declaration = d; found = e; meaning = cc }
    by_test false g = absurd cc

pub seen : (s : Scope) (x : List ℕ) (from : ℕ) (m : Meaning) → declaration_of s x from ≡ Some m → IsSeen s x m
seen s x from m e = seen_by s x from (at_name s.names s.declarations x) m refl e

-- a name that means a datatype
record MeansDatatype (s : Scope) (x : List ℕ) (k : ℕ) : Type 0 where
  number : ℕ
  means : Means (core s) x number (ghosts.Datatype k)

datatype_is : (o : Option GhostDeclaration) (k : ℕ) → datatype_in o ≡ Some k → o ≡ Some (ghosts.Datatype k)
datatype_is None k e = absurd cc
datatype_is (Some (ghosts.Datatype d)) k e = let h : d ≡ k = cc in ap (λ k. Some (ghosts.Datatype k)) h
datatype_is (Some (ghosts.Constructor d)) k e = absurd cc
datatype_is (Some (ghosts.Fixpoint d)) k e = absurd cc
datatype_is (Some (ghosts.Predicate d)) k e = absurd cc
datatype_is (Some (ghosts.Family d)) k e = absurd cc
datatype_is (Some (ghosts.PredicateConstructor d)) k e = absurd cc
datatype_is (Some (ghosts.Lemma d)) k e = absurd cc

meant_is : (s : Scope) (x : List ℕ) (from : ℕ) (o : Option Meaning) (k : ℕ) → declaration_of s x from ≡ o → datatype_meant s o ≡ Some k → MeansDatatype s x k
meant_is s x from None k e f = absurd cc
meant_is s x from (Some (meanings.Function n)) k e f = absurd cc
meant_is s x from (Some (meanings.FunctionType n)) k e f = absurd cc
meant_is s x from (Some (meanings.Ghost n)) k e f = let i = seen s x from (meanings.Ghost n) e in record { number = n; means = record { declaration = i.declaration; found = i.found; meaning = i.meaning; stands = datatype_is (ghost_of s n) k f } }

-- ---- what is told
-- the datatypes and the tags that are declared so far are told with their numbers
pub record IsTold (w : Ahead) (s : Scope) : Type 0 where
  pub datatypes : (x : List ℕ) (n k : ℕ) → Means (core s) x n (ghosts.Datatype k) → (number_of w.datatypes x ≡ Some k) × (slice_get w.counts k ≡ Some (count_in (datatype_of s k)))
  pub tags : (x : List ℕ) (k : ℕ) → number_of s.tags x ≡ Some k → number_of w.tags x ≡ Some k

abbrev AsTold : Ahead → SortTree → Sort → Type 0
AsTold w x t = t ≡ told w x

abbrev AllAsTold : Ahead → SortTrees → List Sort → Type 0
AllAsTold w xs ts = ts ≡ told_all w xs

-- ---- pointers
numbered_tag : (s : Scope) (from : ℕ) (o : Option ℕ) (k : ℕ) → visible_tag s from o ≡ Some k → o ≡ Some k
numbered_tag s from None k e = absurd cc
numbered_tag s from (Some j) k e = by_structure (slice_get s.structures j) e
  where
    by_test : (b : Bool) → ◌≡◌ {A = Option ℕ} (if b then Some j else None) (Some k) → Some j ≡ Some k
    by_test true e = e
    by_test false e = absurd cc

    by_structure : (o : Option Structure) → visible_number s from j o ≡ Some k → Some j ≡ Some k
    by_structure None e = absurd cc
    by_structure (Some x) e = by_test (is_visible s from x.files) e

abbrev FormAsTold : Ahead → TypeForm → Sort → Type 0
FormAsTold w f t = t ≡ told_form w f

form_told : (w : Ahead) (s : Scope) → IsTold w s → (p : Place) (f : TypeForm) → Comes (FormAsTold w f) (form_sort s p f)
form_told w s h p (forms.Integer x) = ok_comes (FormAsTold w (forms.Integer x)) refl
form_told w s h p forms.Bool = ok_comes (FormAsTold w forms.Bool) refl
form_told w s h p forms.VoidPointer = ok_comes (FormAsTold w forms.VoidPointer) refl
form_told w s h p forms.IntPointer = ok_comes (FormAsTold w forms.IntPointer) refl
form_told w s h p (forms.StructPointer g) = by_tag (tag_of s g.text g.place.file) refl
  where
    by_tag : (o : Option ℕ) → tag_of s g.text g.place.file ≡ o → Comes (FormAsTold w (forms.StructPointer g)) (tagged_sort g.place o)
    by_tag None e = err_comes (FormAsTold w (forms.StructPointer g)) _
    by_tag (Some k) e = ok_comes (FormAsTold w (forms.StructPointer g)) (ap (λ o. leaf (heads.Pointer o)) (sym (h.tags g.text k (numbered_tag s g.place.file (number_of s.tags g.text) k e))))
form_told w s h p (forms.NamedPointer x) = by_test (is_function_type (declaration_of s x p.file)) _
  where
    by_test : (b : Bool) (r : Refusal) → Comes (FormAsTold w (forms.NamedPointer x)) (if b then Ok pointer_sort else Err r)
    by_test true r = ok_comes (FormAsTold w (forms.NamedPointer x)) refl
    by_test false r = err_comes (FormAsTold w (forms.NamedPointer x)) r

-- ---- datatypes and predicates
abbrev NameAsTold : Ahead → List ℕ → SortTrees → Sort → Type 0
NameAsTold w x xs t = t ≡ told_name w (number_of w.datatypes x) (told_all w xs)

over_told : (w : Ahead) (x : List ℕ) (xs : SortTrees) (p : Place) (k n : ℕ) → number_of w.datatypes x ≡ Some k → slice_get w.counts k ≡ Some n → (ts : List Sort) → AllAsTold w xs ts → Comes (NameAsTold w x xs) (applied_datatype p k n ts)
over_told w x xs p k n e f ts i = by_test (nat_eq (length ts) n) refl _
  where
    is_told : nat_eq (length ts) n ≡ true → sort (heads.Datatype k) (row ts) ≡ told_name w (number_of w.datatypes x) (told_all w xs)
    is_told b = sym (ap (λ o. told_name w o (told_all w xs)) e ∙ (ap (λ o. told_over k o (told_all w xs)) f ∙ (ap (told_over k (Some n)) (sym i) ∙ ap (λ b. if b then sort (heads.Datatype k) (row ts) else value_sort) b)))

    by_test : (b : Bool) → nat_eq (length ts) n ≡ b → (r : Refusal) → Comes (NameAsTold w x xs) (if b then Ok (sort (heads.Datatype k) (row ts)) else Err r)
    by_test true b r = ok_comes (NameAsTold w x xs) (is_told b)
    by_test false b r = err_comes (NameAsTold w x xs) r

named_told : (w : Ahead) (s : Scope) → IsTold w s → (p : Place) (x : List ℕ) (xs : SortTrees) (o : Option ℕ) → datatype_meant s (declaration_of s x p.file) ≡ o → (r : Result (List Sort) Refusal) → Comes (AllAsTold w xs) r → Comes (NameAsTold w x xs) (datatype_over s p o r)
named_told w s h p x xs None e r i = err_comes (NameAsTold w x xs) _
named_told w s h p x xs (Some k) e (Err y) i = err_comes (NameAsTold w x xs) y
named_told w s h p x xs (Some k) e (Ok ts) i =
    let m = meant_is s x p.file (declaration_of s x p.file) k refl e in
    let t = h.datatypes x m.number k m.means in
    over_told w x xs p k (count_in (datatype_of s k)) t.0 t.1 ts (i ts refl)

predicate_told : (w : Ahead) (xs : SortTrees) (r : Result (List Sort) Refusal) → Comes (AllAsTold w xs) r → Comes (λ t. t ≡ predicate_sort (told_all w xs)) (predicate_over r)
predicate_told w xs (Err y) i = err_comes (λ t. t ≡ predicate_sort (told_all w xs)) y
predicate_told w xs (Ok ts) i = ok_comes (λ t. t ≡ predicate_sort (told_all w xs)) (ap predicate_sort (i ts refl))

front_told : (w : Ahead) (x : SortTree) (xs : SortTrees) (q : Result Sort Refusal) (r : Result (List Sort) Refusal) → Comes (AsTold w x) q → Comes (AllAsTold w xs) r → Comes (AllAsTold w (more_sort x xs)) (in_front q r)
front_told w x xs (Err y) r h k = err_comes (AllAsTold w (more_sort x xs)) y
front_told w x xs (Ok t) (Err y) h k = err_comes (AllAsTold w (more_sort x xs)) y
front_told w x xs (Ok t) (Ok ts) h k = ok_comes (AllAsTold w (more_sort x xs)) (ap₂ (λ t ts. t ∷ ts) (h t refl) (k ts refl))

mutual
  -- a sort that is written is as it was told
  pub written_told : (w : Ahead) (s : Scope) → IsTold w s → (x : SortTree) → Comes (AsTold w x) (written_sort s [] x)
  written_told w s h (tree.real_ p) = ok_comes (AsTold w (tree.real_ p)) refl
  written_told w s h (tree.any_ p) = ok_comes (AsTold w (tree.any_ p)) refl
  written_told w s h (tree.type_ p t) = form_told w s h t.place t.form
  written_told w s h (tree.name_ p x xs) = named_told w s h p x xs (datatype_meant s (declaration_of s x p.file)) refl (written_sorts s [] xs) (all_told w s h xs)
  written_told w s h (tree.predicate_ p xs) = predicate_told w xs (written_sorts s [] xs) (all_told w s h xs)

  all_told : (w : Ahead) (s : Scope) → IsTold w s → (xs : SortTrees) → Comes (AllAsTold w xs) (written_sorts s [] xs)
  all_told w s h no_sort = ok_comes (AllAsTold w no_sort) refl
  all_told w s h (more_sort x xs) = front_told w x xs (written_sort s [] x) (written_sorts s [] xs) (written_told w s h x) (all_told w s h xs)

-- so are the sorts of parameters
pub parameters_told : (w : Ahead) (Q : GhostParameter → Sort → Type 0) → ((g : GhostParameter) (t : Sort) → Q g t → t ≡ told w g.sort) → (gs : List GhostParameter) (ts : List Sort) → EachBeside Q gs ts → ts ≡ told_parameters w gs
parameters_told w Q f [] [] h = refl
parameters_told w Q f [] (t ∷ ts) h = absurd h
parameters_told w Q f (g ∷ gs) [] h = absurd h
parameters_told w Q f (g ∷ gs) (t ∷ ts) h = ap₂ (λ t ts. t ∷ ts) (f g t h.0) (parameters_told w Q f gs ts h.1)
