-- Parameters of ghost text become locals of their sorts.
use Rattle.std.proofs.Common.{◌≡◌, refl, sym, subst, ◌∙◌, ap, ℕ, zero, suc, Bool, true, false, if◌then◌else◌, nat_eq, List, [], ◌∷◌, ◌++◌, length, map, slice_get, append_assoc, append-nil, Option, Some, None, Result, Ok, Err}
use Rattle.vf_base.specs.declared.place.Place.{Place}
use Rattle.vf_base.specs.declared.refusal.Refusal.{Refusal}
use Rattle.vf_names.specs.Names.{number_of}
use Rattle.vf_sorts.specs.declared.sort.Head.TheVariants as heads
use Rattle.vf_sorts.specs.Sorts.{Sort, sort, row}
use Rattle.vf_sorts.specs.Unknowns.{leaf}
use Rattle.vf_declared.specs.declared.declaration.GhostDeclaration.{GhostDeclaration}
use Rattle.vf_declared.specs.declared.declaration.GhostDeclaration.TheVariants as ghosts
use Rattle.vf_declared.specs.declared.declaration.Meaning.{Meaning}
use Rattle.vf_declared.specs.declared.declaration.Meaning.TheVariants as meanings
use Rattle.vf_declared.specs.declared.locals.Local.{Local}
use Rattle.vf_declared.specs.declared.scope.Scope.{Scope}
use Rattle.vf_declared.specs.Scopes.{datatype_of, declaration_of, ghost_of, tag_of}
use Rattle.vf_syntax.specs.declared.item.GhostParameter.{GhostParameter}
use Rattle.vf_syntax.specs.declared.written.Name.{Name}
use Rattle.vf_syntax.specs.declared.written.TypeForm.{TypeForm}
use Rattle.vf_syntax.specs.declared.written.TypeForm.TheVariants as forms
use Rattle.vf_syntax.specs.SortTree.{SortTree, SortTrees, no_sort, more_sort}
use Rattle.vf_syntax.specs.SortTree as tree
use Rattle.vf_sorting.specs.Kinds.{bool_sort, int_sort, pointer_sort, predicate_sort, value_sort}
use Rattle.vf_sorting.specs.Schemes.{count_in, is_function_type, sort_of_local}
use Rattle.vf_sorting.specs.Spelling.{applied_datatype, datatype_meant, datatype_over, form_sort, name_over, parameter_over, predicate_over, tagged_sort, written_sort, written_sorts}
use Rattle.vf_sorting.specs.Spelling as spelling
use Rattle.vf_binding.specs.Bound.{bound_local}
use Rattle.vf_asserting.specs.Cases.{datatype_in}
use Rattle.vf_heads.specs.Parameters.{Taken, local_refusal, named, none_taken, parameter_behind, parameters_behind, with_parameter}
use Rattle.vf_erasure_laws.proofs.hidden.Coming.{Comes, apart, behind_comes, none_some, ok_comes, unless_comes}
use Rattle.vf_fixpoint_laws.proofs.definable.Extending.{Keeps, keeps_same}

-- ---- the datatypes of sorts
-- where a sort is a datatype's, annotations declare the datatype
abbrev pub IsKnown : List GhostDeclaration → Sort → Type 0
IsKnown gs t = (d : ℕ) → datatype_in t ≡ Some d → (n : ℕ) × (slice_get gs n ≡ Some (ghosts.Datatype d))

unknown : (gs : List GhostDeclaration) (t : Sort) → datatype_in t ≡ None → IsKnown gs t
unknown gs t e d f = absurd (none_some (sym e ∙ f))

form_known : (s : Scope) (p : Place) (f : TypeForm) → Comes (IsKnown s.ghosts) (form_sort s p f)
form_known s p (forms.Integer w) = ok_comes (IsKnown s.ghosts) (unknown s.ghosts int_sort refl)
form_known s p forms.Bool = ok_comes (IsKnown s.ghosts) (unknown s.ghosts bool_sort refl)
form_known s p forms.VoidPointer = ok_comes (IsKnown s.ghosts) (unknown s.ghosts pointer_sort refl)
form_known s p forms.IntPointer = ok_comes (IsKnown s.ghosts) (unknown s.ghosts pointer_sort refl)
form_known s p (forms.StructPointer g) = by_tag (tag_of s g.text g.place.file)
  where
    by_tag : (o : Option ℕ) → Comes (IsKnown s.ghosts) (tagged_sort g.place o)
    by_tag None = λ t e. absurd (apart e)
    by_tag (Some n) = ok_comes (IsKnown s.ghosts) (unknown s.ghosts (leaf (heads.Pointer (Some n))) refl)
form_known s p (forms.NamedPointer x) = by_test _ (is_function_type (declaration_of s x p.file))
  where
    by_test : (r : Refusal) (b : Bool) → Comes (IsKnown s.ghosts) (if b then Ok pointer_sort else Err r)
    by_test r true = ok_comes (IsKnown s.ghosts) (unknown s.ghosts pointer_sort refl)
    by_test r false = λ t e. absurd (apart e)

declared_datatype : (gs : List GhostDeclaration) (n d : ℕ) (o : Option GhostDeclaration) → slice_get gs n ≡ o → spelling.datatype_in o ≡ Some d → (k : ℕ) × (slice_get gs k ≡ Some (ghosts.Datatype d))
declared_datatype gs n d None e f = absurd (none_some f)
declared_datatype gs n d (Some (ghosts.Datatype c)) e f = (n, e ∙ ap (λ c. Some (ghosts.Datatype c)) (same f))
  where
    same : ◌≡◌ {A = Option ℕ} (Some c) (Some d) → c ≡ d
    same e = cc
declared_datatype gs n d (Some (ghosts.Constructor c)) e f = absurd (none_some f)
declared_datatype gs n d (Some (ghosts.Fixpoint c)) e f = absurd (none_some f)
declared_datatype gs n d (Some (ghosts.Predicate c)) e f = absurd (none_some f)
declared_datatype gs n d (Some (ghosts.Family c)) e f = absurd (none_some f)
declared_datatype gs n d (Some (ghosts.PredicateConstructor c)) e f = absurd (none_some f)
declared_datatype gs n d (Some (ghosts.Lemma c)) e f = absurd (none_some f)

meant_datatype : (s : Scope) (o : Option Meaning) (d : ℕ) → datatype_meant s o ≡ Some d → (k : ℕ) × (slice_get s.ghosts k ≡ Some (ghosts.Datatype d))
meant_datatype s None d e = absurd (none_some e)
meant_datatype s (Some (meanings.Function n)) d e = absurd (none_some e)
meant_datatype s (Some (meanings.FunctionType n)) d e = absurd (none_some e)
meant_datatype s (Some (meanings.Ghost n)) d e = declared_datatype s.ghosts n d (ghost_of s n) refl e

over_known : (s : Scope) (p : Place) (o : Option ℕ) (r : Result (List Sort) Refusal) → ((d : ℕ) → o ≡ Some d → (k : ℕ) × (slice_get s.ghosts k ≡ Some (ghosts.Datatype d))) → Comes (IsKnown s.ghosts) (datatype_over s p o r)
over_known s p None r h = λ t e. absurd (apart e)
over_known s p (Some d) (Err x) h = λ t e. absurd (apart e)
over_known s p (Some d) (Ok ts) h = by_test _ (nat_eq (length ts) (count_in (datatype_of s d)))
  where
    same : {c : ℕ} → ◌≡◌ {A = Option ℕ} (Some d) (Some c) → d ≡ c
    same e = cc

    known : IsKnown s.ghosts (sort (heads.Datatype d) (row ts))
    known c e = subst (λ c. (k : ℕ) × (slice_get s.ghosts k ≡ Some (ghosts.Datatype c))) (same e) (h d refl)

    by_test : (x : Refusal) (b : Bool) → Comes (IsKnown s.ghosts) (if b then Ok (sort (heads.Datatype d) (row ts)) else Err x)
    by_test x true = ok_comes (IsKnown s.ghosts) known
    by_test x false = λ t e. absurd (apart e)

name_known : (s : Scope) (p : Place) (x : List ℕ) (o : Option ℕ) (xs : SortTrees) (r : Result (List Sort) Refusal) → Comes (IsKnown s.ghosts) (name_over s p x o xs r)
name_known s p x (Some i) no_sort r = ok_comes (IsKnown s.ghosts) (unknown s.ghosts (leaf (heads.Parameter i)) refl)
name_known s p x (Some i) (more_sort y ys) r = λ t e. absurd (apart e)
name_known s p x None xs r = over_known s p (datatype_meant s (declaration_of s x p.file)) r (λ d e. meant_datatype s (declaration_of s x p.file) d e)

predicate_known : (s : Scope) (r : Result (List Sort) Refusal) → Comes (IsKnown s.ghosts) (predicate_over r)
predicate_known s (Err x) = λ t e. absurd (apart e)
predicate_known s (Ok ts) = ok_comes (IsKnown s.ghosts) (unknown s.ghosts (predicate_sort ts) refl)

-- a sort that is written is a datatype's that annotations declare, if it is a datatype's
pub written_known : (s : Scope) (ps : List (List ℕ)) (x : SortTree) → Comes (IsKnown s.ghosts) (written_sort s ps x)
written_known s ps (tree.real_ p) = ok_comes (IsKnown s.ghosts) (unknown s.ghosts (leaf heads.Real) refl)
written_known s ps (tree.any_ p) = ok_comes (IsKnown s.ghosts) (unknown s.ghosts value_sort refl)
written_known s ps (tree.type_ p t) = form_known s t.place t.form
written_known s ps (tree.name_ p x xs) = name_known s p x (number_of ps x) xs (written_sorts s ps xs)
written_known s ps (tree.predicate_ p xs) = predicate_known s (written_sorts s ps xs)

-- ---- parameters
abbrev pub AreKnown : List GhostDeclaration → List Sort → Type 0
AreKnown gs [] = Unit {0}
AreKnown gs (t ∷ ts) = IsKnown gs t × AreKnown gs ts

-- one more parameter was taken
record OneTaken (g : GhostParameter) (k l : Taken) : Type 0 where
  of : Sort
  is : l ≡ with_parameter g.name of k
  known : IsKnown k.scope.ghosts of

-- parameters were taken: they are locals behind those that there were, and nothing else is declared
pub record AreTaken (gs : List GhostParameter) (k l : Taken) : Type 0 where
  pub more : List Sort
  pub sorts : l.sorts ≡ k.sorts ++ more
  pub as_many : length gs ≡ length more
  pub names : l.scope.locals.names ≡ k.scope.locals.names ++ map (λ (g : GhostParameter). g.name.text) gs
  pub meanings : l.scope.locals.meanings ≡ k.scope.locals.meanings ++ map bound_local more
  pub known : AreKnown k.scope.ghosts more
  pub keeps : Keeps k.scope l.scope

one_taken : (ps : List (List ℕ)) (g : GhostParameter) (k : Taken) → Comes (OneTaken g k) (parameter_behind ps g k)
one_taken ps g k =
    behind_comes (IsKnown k.scope.ghosts) (OneTaken g k) (named g.name k) (written_sort k.scope ps g.sort) (written_known k.scope ps g.sort)
    (λ t h. unless_comes (OneTaken g k) (local_refusal k.scope g.name) (Ok (with_parameter g.name t k)) (ok_comes (OneTaken g k) (record { of = t; is = refl; known = h })))

none_more : (k : Taken) → AreTaken [] k k
none_more k = record { more = []; sorts = sym (append-nil k.sorts); as_many = refl; names = sym (append-nil k.scope.locals.names); meanings = sym (append-nil k.scope.locals.meanings); known = tt; keeps = keeps_same k.scope }

one_more : {g : GhostParameter} {gs : List GhostParameter} {k l m : Taken} → OneTaken g k l → AreTaken gs l m → AreTaken (g ∷ gs) k m
one_more {g = g} {gs = gs} {k = k} {m = m} h j =
    let r : AreTaken gs (with_parameter g.name h.of k) m = subst (λ l. AreTaken gs l m) h.is j in
    record {
      more = h.of ∷ r.more;
      sorts = r.sorts ∙ append_assoc k.sorts (h.of ∷ []) r.more;
      as_many = ap suc r.as_many;
      names = r.names ∙ append_assoc k.scope.locals.names (g.name.text ∷ []) (map (λ (g : GhostParameter). g.name.text) gs);
      meanings = r.meanings ∙ append_assoc k.scope.locals.meanings (bound_local h.of ∷ []) (map bound_local r.more);
      known = (h.known, r.known);
      keeps = record { same = r.keeps.same };
    }

pub parameters_taken : (ps : List (List ℕ)) (gs : List GhostParameter) (k : Taken) → Comes (AreTaken gs k) (parameters_behind ps gs k)
parameters_taken ps [] k = ok_comes (AreTaken [] k) (none_more k)
parameters_taken ps (g ∷ gs) k = behind_comes (OneTaken g k) (AreTaken (g ∷ gs) k) (parameters_behind ps gs) (parameter_behind ps g k) (one_taken ps g k) (λ l h m e. one_more h (parameters_taken ps gs l m e))

-- what is taken keeps what is declared
abbrev pub TakenFrom : Scope → Taken → Type 0
TakenFrom s k = Keeps s k.scope

pub parameters_keep : (ps : List (List ℕ)) (gs : List GhostParameter) (s : Scope) → Comes (TakenFrom s) (parameters_behind ps gs (none_taken s))
parameters_keep ps gs s k e = (parameters_taken ps gs (none_taken s) k e).keeps

pub named_keeps : (n : Name) (k : Taken) (t : Sort) → Comes (TakenFrom k.scope) (named n k t)
named_keeps n k t = unless_comes (TakenFrom k.scope) (local_refusal k.scope n) (Ok (with_parameter n t k)) (ok_comes (TakenFrom k.scope) (record { same = refl }))

-- ---- the sorts of such locals
pub local_known : (gs : List GhostDeclaration) (ts : List Sort) (j : ℕ) (l : Local) → AreKnown gs ts → slice_get (map bound_local ts) j ≡ Some l → IsKnown gs (sort_of_local l)
local_known gs [] j l h e = absurd (none_some e)
local_known gs (t ∷ ts) zero l h e = subst (λ l. IsKnown gs (sort_of_local l)) (same e) h.0
  where
    same : ◌≡◌ {A = Option Local} (Some (bound_local t)) (Some l) → bound_local t ≡ l
    same e = cc
local_known gs (t ∷ ts) (suc j) l h e = local_known gs ts j l h.1 e
