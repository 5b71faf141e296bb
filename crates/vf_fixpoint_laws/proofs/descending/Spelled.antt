-- How the sorts of parameters are written: one of a datatype by a name that means it.
use Rattle.std.proofs.Common.{◌≡◌, refl, sym, ap, subst, ◌∙◌, ℕ, zero, suc, Bool, true, false, if◌then◌else◌, nat_eq, List, [], ◌∷◌, ◌++◌, length, append_assoc, append-nil, slice_get, Option, Some, None, Result, Ok, Err}
use Rattle.vf_base.specs.declared.place.Place.{Place}
use Rattle.vf_base.specs.declared.refusal.Refusal.{Refusal}
use Rattle.vf_names.specs.Names.{number_of}
use Rattle.vf_sorts.specs.declared.sort.Head.TheVariants as heads
use Rattle.vf_sorts.specs.Sorts.{Sort, row, sort}
use Rattle.vf_sorts.specs.Unknowns.{leaf}
use Rattle.vf_syntax.specs.declared.item.GhostParameter.{GhostParameter}
use Rattle.vf_syntax.specs.declared.written.TypeForm.{TypeForm}
use Rattle.vf_syntax.specs.declared.written.TypeForm.TheVariants as forms
use Rattle.vf_syntax.specs.SortTree.{SortTree, SortTrees, no_sort, more_sort}
use Rattle.vf_syntax.specs.SortTree as tree
use Rattle.vf_declared.specs.declared.declaration.Declaration.{Declaration}
use Rattle.vf_declared.specs.declared.declaration.GhostDeclaration.{GhostDeclaration}
use Rattle.vf_declared.specs.declared.declaration.GhostDeclaration.TheVariants as ghosts
use Rattle.vf_declared.specs.declared.declaration.Meaning.{Meaning}
use Rattle.vf_declared.specs.declared.declaration.Meaning.TheVariants as meanings
use Rattle.vf_declared.specs.declared.scope.Scope.{Scope}
use Rattle.vf_declared.specs.Scopes.{datatype_of, declaration_of, ghost_of, tag_of}
use Rattle.vf_sorting.specs.Kinds.{bool_sort, int_sort, pointer_sort, predicate_sort, value_sort}
use Rattle.vf_sorting.specs.Schemes.{count_in, is_function_type}
use Rattle.vf_sorting.specs.Spelling.{applied_datatype, datatype_meant, datatype_over, form_sort, name_over, predicate_over, tagged_sort, written_sort, written_sorts}
use Rattle.vf_sorting.specs.Spelling as spelling
use Rattle.vf_asserting.specs.Cases.{datatype_in}
use Rattle.vf_heads.specs.Parameters.{Taken, local_refusal, named, parameter_behind, parameters_behind, with_parameter}
use Rattle.vf_recursion.specs.Faults.{name_in}
use Rattle.vf_erasure_laws.proofs.hidden.Coming.{Comes, apart, behind_comes, none_some, ok_comes, unless_comes}
use Rattle.vf_fixpoint_laws.proofs.descending.Levels.{Level, level}
use Rattle.vf_fixpoint_laws.proofs.descending.Lists.{name_there, some_same}
use Rattle.vf_fixpoint_laws.proofs.descending.Meanings.{Means, get_mapped}
use Rattle.vf_fixpoint_laws.proofs.descending.There.{IsThere, is_there}

-- a sort of a datatype is written by a name that means the datatype
abbrev pub IsSpelled : Level → SortTree → Sort → Type 0
IsSpelled c x t = (d : ℕ) → datatype_in t ≡ Some d → (y : List ℕ) × (name_in x ≡ Some y) × Means c y (ghosts.Datatype d)

no_datatype : (c : Level) (x : SortTree) (t : Sort) → datatype_in t ≡ None → IsSpelled c x t
no_datatype c x t e d f = absurd (none_some (sym e ∙ f))

form_spelled : (c : Level) (x : SortTree) (s : Scope) (p : Place) (f : TypeForm) → Comes (IsSpelled c x) (form_sort s p f)
form_spelled c x s p (forms.Integer w) = ok_comes (IsSpelled c x) (no_datatype c x int_sort refl)
form_spelled c x s p forms.Bool = ok_comes (IsSpelled c x) (no_datatype c x bool_sort refl)
form_spelled c x s p forms.VoidPointer = ok_comes (IsSpelled c x) (no_datatype c x pointer_sort refl)
form_spelled c x s p forms.IntPointer = ok_comes (IsSpelled c x) (no_datatype c x pointer_sort refl)
form_spelled c x s p (forms.StructPointer g) = by_tag (tag_of s g.text g.place.file)
  where
    by_tag : (o : Option ℕ) → Comes (IsSpelled c x) (tagged_sort g.place o)
    by_tag None = λ t e. absurd (apart e)
    by_tag (Some n) = ok_comes (IsSpelled c x) (no_datatype c x (leaf (heads.Pointer (Some n))) refl)
form_spelled c x s p (forms.NamedPointer y) = by_test _ (is_function_type (declaration_of s y p.file))
  where
    by_test : (r : Refusal) (b : Bool) → Comes (IsSpelled c x) (if b then Ok pointer_sort else Err r)
    by_test r true = ok_comes (IsSpelled c x) (no_datatype c x pointer_sort refl)
    by_test r false = λ t e. absurd (apart e)

-- what a number of a datatype is declared by
ghost_datatype : (o : Option GhostDeclaration) (d : ℕ) → spelling.datatype_in o ≡ Some d → o ≡ Some (ghosts.Datatype d)
ghost_datatype None d f = absurd (none_some f)
ghost_datatype (Some (ghosts.Datatype c)) d f = ap (λ c. Some (ghosts.Datatype c)) (some_same f)
ghost_datatype (Some (ghosts.Constructor c)) d f = absurd (none_some f)
ghost_datatype (Some (ghosts.Fixpoint c)) d f = absurd (none_some f)
ghost_datatype (Some (ghosts.Predicate c)) d f = absurd (none_some f)
ghost_datatype (Some (ghosts.Family c)) d f = absurd (none_some f)
ghost_datatype (Some (ghosts.PredicateConstructor c)) d f = absurd (none_some f)
ghost_datatype (Some (ghosts.Lemma c)) d f = absurd (none_some f)

-- a name that means something of annotations in a file
pub there_means : (s : Scope) (x : List ℕ) (from n : ℕ) (g : GhostDeclaration) → IsThere s x from (meanings.Ghost n) → ghost_of s n ≡ Some g → Means (level s) x g
there_means s x from n g h e = record {
  place = h.number;
  named = name_there s.names x h.number h.found;
  number = n;
  means = get_mapped (λ (d : Declaration). d.meaning) s.declarations h.number h.declaration h.at ∙ ap Some h.means;
  is = e;
}

meant : (s : Scope) (x : List ℕ) (from d : ℕ) (o : Option Meaning) → declaration_of s x from ≡ o → datatype_meant s o ≡ Some d → Means (level s) x (ghosts.Datatype d)
meant s x from d None e f = absurd (none_some f)
meant s x from d (Some (meanings.Function n)) e f = absurd (none_some f)
meant s x from d (Some (meanings.FunctionType n)) e f = absurd (none_some f)
meant s x from d (Some (meanings.Ghost n)) e f = there_means s x from n (ghosts.Datatype d) (is_there s x from (meanings.Ghost n) e) (ghost_datatype (ghost_of s n) d f)

over_spelled : (c : Level) (x : SortTree) (s : Scope) (p : Place) (o : Option ℕ) (r : Result (List Sort) Refusal) → ((d : ℕ) → o ≡ Some d → (y : List ℕ) × (name_in x ≡ Some y) × Means c y (ghosts.Datatype d)) → Comes (IsSpelled c x) (datatype_over s p o r)
over_spelled c x s p None r h = λ t e. absurd (apart e)
over_spelled c x s p (Some d) (Err y) h = λ t e. absurd (apart e)
over_spelled c x s p (Some d) (Ok ts) h = by_test _ (nat_eq (length ts) (count_in (datatype_of s d)))
  where
    its : IsSpelled c x (sort (heads.Datatype d) (row ts))
    its e f = h e f

    by_test : (y : Refusal) (b : Bool) → Comes (IsSpelled c x) (if b then Ok (sort (heads.Datatype d) (row ts)) else Err y)
    by_test y true = ok_comes (IsSpelled c x) its
    by_test y false = λ t e. absurd (apart e)

name_spelled : (s : Scope) (p : Place) (x : List ℕ) (o : Option ℕ) (xs : SortTrees) (r : Result (List Sort) Refusal) → Comes (IsSpelled (level s) (tree.name_ p x xs)) (name_over s p x o xs r)
name_spelled s p x (Some i) no_sort r = ok_comes (IsSpelled (level s) (tree.name_ p x no_sort)) (no_datatype (level s) (tree.name_ p x no_sort) (leaf (heads.Parameter i)) refl)
name_spelled s p x (Some i) (more_sort y ys) r = λ t e. absurd (apart e)
name_spelled s p x None xs r = over_spelled (level s) (tree.name_ p x xs) s p (datatype_meant s (declaration_of s x p.file)) r (λ d e. (x, refl, meant s x p.file d (declaration_of s x p.file) refl e))

predicate_spelled : (c : Level) (x : SortTree) (r : Result (List Sort) Refusal) → Comes (IsSpelled c x) (predicate_over r)
predicate_spelled c x (Err y) = λ t e. absurd (apart e)
predicate_spelled c x (Ok ts) = ok_comes (IsSpelled c x) (no_datatype c x (predicate_sort ts) refl)

written_spelled : (s : Scope) (ps : List (List ℕ)) (x : SortTree) → Comes (IsSpelled (level s) x) (written_sort s ps x)
written_spelled s ps (tree.real_ p) = ok_comes (IsSpelled (level s) (tree.real_ p)) (no_datatype (level s) (tree.real_ p) (leaf heads.Real) refl)
written_spelled s ps (tree.any_ p) = ok_comes (IsSpelled (level s) (tree.any_ p)) (no_datatype (level s) (tree.any_ p) value_sort refl)
written_spelled s ps (tree.type_ p t) = form_spelled (level s) (tree.type_ p t) s t.place t.form
written_spelled s ps (tree.name_ p x xs) = name_spelled s p x (number_of ps x) xs (written_sorts s ps xs)
written_spelled s ps (tree.predicate_ p xs) = predicate_spelled (level s) (tree.predicate_ p xs) (written_sorts s ps xs)

-- ---- parameters
-- so are the sorts of parameters, of which there are as many
abbrev pub AreSpelled : Level → List GhostParameter → List Sort → Type 0
AreSpelled c [] [] = Unit {0}
AreSpelled c (g ∷ gs) (t ∷ ts) = IsSpelled c g.sort t × AreSpelled c gs ts
AreSpelled c gs ts = ⊥

pub spelled_counted : (c : Level) (gs : List GhostParameter) (ts : List Sort) → AreSpelled c gs ts → length gs ≡ length ts
spelled_counted c [] [] h = refl
spelled_counted c [] (t ∷ ts) h = absurd h
spelled_counted c (g ∷ gs) [] h = absurd h
spelled_counted c (g ∷ gs) (t ∷ ts) h = ap suc (spelled_counted c gs ts h.1)

pub spelled_at : (c : Level) (gs : List GhostParameter) (ts : List Sort) → AreSpelled c gs ts → (p : ℕ) (g : GhostParameter) (t : Sort) → slice_get gs p ≡ Some g → slice_get ts p ≡ Some t → IsSpelled c g.sort t
spelled_at c [] [] h p g t e f = absurd cc
spelled_at c [] (u ∷ ts) h p g t e f = absurd h
spelled_at c (y ∷ gs) [] h p g t e f = absurd h
spelled_at c (y ∷ gs) (u ∷ ts) h zero g t e f = subst (λ (z : GhostParameter). IsSpelled c z.sort t) (some_same e) (subst (IsSpelled c y.sort) (some_same f) h.0)
spelled_at c (y ∷ gs) (u ∷ ts) h (suc p) g t e f = spelled_at c gs ts h.1 p g t e f

-- one more parameter was taken
record OneTaken (g : GhostParameter) (k l : Taken) : Type 0 where
  of : Sort
  sorts : l.sorts ≡ k.sorts ++ of ∷ []
  spelled : IsSpelled (level k.scope) g.sort of
  level_is : level l.scope ≡ level k.scope

-- parameters were taken
pub record AreTaken (gs : List GhostParameter) (k l : Taken) : Type 0 where
  pub more : List Sort
  pub sorts : l.sorts ≡ k.sorts ++ more
  pub spelled : AreSpelled (level k.scope) gs more
  pub level_is : level l.scope ≡ level k.scope

one_taken : (ps : List (List ℕ)) (g : GhostParameter) (k : Taken) → Comes (OneTaken g k) (parameter_behind ps g k)
one_taken ps g k =
    behind_comes (IsSpelled (level k.scope) g.sort) (OneTaken g k) (named g.name k) (written_sort k.scope ps g.sort) (written_spelled k.scope ps g.sort)
    (λ t h. unless_comes (OneTaken g k) (local_refusal k.scope g.name) (Ok (with_parameter g.name t k)) (ok_comes (OneTaken g k) (record { of = t; sorts = refl; spelled = h; level_is = refl })))

more_taken : {g : GhostParameter} {gs : List GhostParameter} {k l m : Taken} → OneTaken g k l → AreTaken gs l m → AreTaken (g ∷ gs) k m
more_taken {g} {gs} {k} h j = record {
  more = h.of ∷ j.more;
  sorts = j.sorts ∙ (ap (λ ts. ts ++ j.more) h.sorts ∙ append_assoc k.sorts (h.of ∷ []) j.more);
  spelled = (h.spelled, subst (λ c. AreSpelled c gs j.more) h.level_is j.spelled);
  level_is = j.level_is ∙ h.level_is;
}

pub parameters_taken : (ps : List (List ℕ)) (gs : List GhostParameter) (k : Taken) → Comes (AreTaken gs k) (parameters_behind ps gs k)
parameters_taken ps [] k = ok_comes (AreTaken [] k) (record { more = []; sorts = sym (append-nil k.sorts); spelled = tt; level_is = refl })
parameters_taken ps (g ∷ gs) k = behind_comes (OneTaken g k) (AreTaken (g ∷ gs) k) (parameters_behind ps gs) (parameter_behind ps g k) (one_taken ps g k) (λ l h m e. more_taken h (parameters_taken ps gs l m e))
