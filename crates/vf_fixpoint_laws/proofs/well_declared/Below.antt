-- The datatypes that the arguments of constructors name are below the next number.
use Rattle.std.proofs.Common.{◌≡◌, refl, sym, subst, ◌∙◌, ap, ℕ, ◌<◌, Bool, true, false, ◌&&◌, if◌then◌else◌, nat_eq, List, [], ◌∷◌, length, Option, Some, None, Result, Ok, Err}
use Rattle.std.proofs.lemmas.Bool.{lt-ltb}
use Rattle.std.specs.List.{list_all}
use Rattle.vf_base.specs.declared.place.Place.{Place}
use Rattle.vf_base.specs.declared.refusal.Refusal.{Refusal}
use Rattle.vf_names.specs.Names.{number_of}
use Rattle.vf_sorts.specs.declared.sort.Head.TheVariants as heads
use Rattle.vf_sorts.specs.Sorts.{Sort, sort, row}
use Rattle.vf_declared.specs.declared.declaration.GhostDeclaration.{GhostDeclaration}
use Rattle.vf_declared.specs.declared.declaration.GhostDeclaration.TheVariants as ghosts
use Rattle.vf_declared.specs.declared.declaration.Meaning.{Meaning}
use Rattle.vf_declared.specs.declared.declaration.Meaning.TheVariants as meanings
use Rattle.vf_declared.specs.declared.scope.Scope.{Scope}
use Rattle.vf_declared.specs.Scopes.{datatype_of, declaration_of, ghost_of, tag_of}
use Rattle.vf_syntax.specs.declared.item.ConstructorArgument.{ConstructorArgument}
use Rattle.vf_syntax.specs.declared.written.TypeForm.{TypeForm}
use Rattle.vf_syntax.specs.declared.written.TypeForm.TheVariants as forms
use Rattle.vf_syntax.specs.SortTree.{SortTree, SortTrees, no_sort, more_sort}
use Rattle.vf_syntax.specs.SortTree as tree
use Rattle.vf_sorting.specs.Kinds.{pointer_sort}
use Rattle.vf_sorting.specs.Schemes.{count_in, is_function_type}
use Rattle.vf_sorting.specs.Spelling.{applied_datatype, datatype_in, datatype_meant, form_sort, predicate_over, tagged_sort}
use Rattle.vf_datatypes.specs.declared.stated.Stated.{Stated}
use Rattle.vf_datatypes.specs.declared.own.Own.{Own}
use Rattle.vf_datatypes.specs.Arguments.{are_parameters, argument_sort, argument_sorts, datatype_at, name_over, named_over, sorts_of, sorts_within}
use Rattle.vf_datatypes.specs.Inhabited.{all_name_below, names_below}
use Rattle.vf_erasure_laws.proofs.hidden.Coming.{Comes, behind_comes, ok_comes}
use Rattle.vf_fixpoint_laws.proofs.definable.Parts.{err_comes}
use Rattle.vf_fixpoint_laws.proofs.well_declared.Written.{chosen, front_comes}

-- all datatypes that annotations declare are below a number
abbrev pub NumberedBelow : ℕ → Scope → Type 0
NumberedBelow n s = (k j : ℕ) → ghost_of s k ≡ Some (ghosts.Datatype j) → j < n

abbrev NamesBelow : ℕ → Sort → Type 0
NamesBelow n t = names_below n t ≡ true

abbrev RowIsBelow : ℕ → List Sort → Type 0
RowIsBelow n ts = all_name_below n (row ts) ≡ true

abbrev pub AllBelow : ℕ → List Sort → Type 0
AllBelow n ts = list_all (names_below n) ts ≡ true

both_of : (a b : Bool) → a ≡ true → b ≡ true → (a && b) ≡ true
both_of a b h k = ap (λ x. x && b) h ∙ k

meant_below : (n : ℕ) (s : Scope) → NumberedBelow n s → (m : Option Meaning) (k : ℕ) → datatype_meant s m ≡ Some k → k < n
meant_below n s b (Some (meanings.Ghost i)) k e = by_ghost (ghost_of s i) refl e
  where
    by_ghost : (g : Option GhostDeclaration) → ghost_of s i ≡ g → datatype_in g ≡ Some k → k < n
    by_ghost (Some (ghosts.Datatype j)) h e = let q : j ≡ k = cc in subst (λ x. x < n) q (b i j h)
    by_ghost g h e = absurd cc
meant_below n s b m k e = absurd cc

form_below : (n : ℕ) (s : Scope) (p : Place) (f : TypeForm) → Comes (NamesBelow n) (form_sort s p f)
form_below n s p (forms.Integer w) = ok_comes (NamesBelow n) refl
form_below n s p forms.Bool = ok_comes (NamesBelow n) refl
form_below n s p forms.VoidPointer = ok_comes (NamesBelow n) refl
form_below n s p forms.IntPointer = ok_comes (NamesBelow n) refl
form_below n s p (forms.StructPointer g) = by_tag (tag_of s g.text g.place.file)
  where
    by_tag : (o : Option ℕ) → Comes (NamesBelow n) (tagged_sort g.place o)
    by_tag None = err_comes (NamesBelow n) _
    by_tag (Some i) = ok_comes (NamesBelow n) refl
form_below n s p (forms.NamedPointer x) = chosen (NamesBelow n) (is_function_type (declaration_of s x p.file)) (Ok pointer_sort) (Err _) (ok_comes (NamesBelow n) refl) (err_comes (NamesBelow n) _)

module _ (n : ℕ) (s : Scope) (d : Stated) (o : Own) (b : NumberedBelow n s) (own : o.number < n) where
  at_datatype : (p : Place) (k : ℕ) (ts : List Sort) → k < n → RowIsBelow n ts → Comes (NamesBelow n) (datatype_at s o p k ts)
  at_datatype p k ts l h =
      let is : names_below n (sort (heads.Datatype k) (row ts)) ≡ true = both_of _ (all_name_below n (row ts)) (lt-ltb k n l) h in
      chosen (NamesBelow n) (nat_eq k o.number) _ (applied_datatype p k (count_in (datatype_of s k)) ts)
      (chosen (NamesBelow n) (nat_eq (length ts) (length o.parameters) && are_parameters 0 ts) (Ok (sort (heads.Datatype k) (row ts))) (Err _) (ok_comes (NamesBelow n) is) (err_comes (NamesBelow n) _))
      (chosen (NamesBelow n) (nat_eq (length ts) (count_in (datatype_of s k))) (Ok (sort (heads.Datatype k) (row ts))) (Err _) (ok_comes (NamesBelow n) is) (err_comes (NamesBelow n) _))

  by_number : (p : Place) (x : List ℕ) (k : Option ℕ) → ((i : ℕ) → k ≡ Some i → i < n) → (r : Result (List Sort) Refusal) → Comes (RowIsBelow n) r → Comes (NamesBelow n) (named_over s d o p x k r)
  by_number p x None l r h = err_comes (NamesBelow n) _
  by_number p x (Some k) l r h = behind_comes (RowIsBelow n) (NamesBelow n) (datatype_at s o p k) r h (λ ts c. at_datatype p k ts (l k refl) c)

  by_name : (p : Place) (x : List ℕ) (i : Option ℕ) (xs : SortTrees) (r : Result (List Sort) Refusal) → Comes (RowIsBelow n) r → Comes (NamesBelow n) (name_over s d o p x i xs r)
  by_name p x (Some i) no_sort r h = ok_comes (NamesBelow n) refl
  by_name p x (Some i) (more_sort y ys) r h = err_comes (NamesBelow n) _
  by_name p x None xs r h = by_number p x (datatype_meant s (declaration_of s x p.file)) (λ i e. meant_below n s b (declaration_of s x p.file) i e) r h

  over_predicate : (r : Result (List Sort) Refusal) → Comes (RowIsBelow n) r → Comes (NamesBelow n) (predicate_over r)
  over_predicate (Err x) h = err_comes (NamesBelow n) x
  over_predicate (Ok ts) h = ok_comes (NamesBelow n) (h ts refl)

  mutual
    argument_below : (x : SortTree) → Comes (NamesBelow n) (argument_sort s d o x)
    argument_below (tree.real_ p) = ok_comes (NamesBelow n) refl
    argument_below (tree.any_ p) = ok_comes (NamesBelow n) refl
    argument_below (tree.type_ p t) = form_below n s t.place t.form
    argument_below (tree.name_ p x xs) = by_name p x (number_of o.parameters x) xs (argument_sorts s d o xs) (arguments_below xs)
    argument_below (tree.predicate_ p xs) = over_predicate (argument_sorts s d o xs) (arguments_below xs)

    arguments_below : (xs : SortTrees) → Comes (RowIsBelow n) (argument_sorts s d o xs)
    arguments_below no_sort = ok_comes (RowIsBelow n) refl
    arguments_below (more_sort x xs) = front_comes (NamesBelow n) (RowIsBelow n) (λ t ts h k. both_of (names_below n t) (all_name_below n (row ts)) h k) (argument_sort s d o x) (argument_sorts s d o xs) (argument_below x) (arguments_below xs)

  all_below : (xs : List ConstructorArgument) → Comes (AllBelow n) (sorts_of s d o xs)
  all_below [] = ok_comes (AllBelow n) refl
  all_below (x ∷ xs) = front_comes (NamesBelow n) (AllBelow n) (λ t ts h k. both_of (names_below n t) (list_all (names_below n) ts) h k) (argument_sort s d o x.sort) (sorts_of s d o xs) (argument_below x.sort) (all_below xs)

  -- the sorts of a constructor's arguments
  pub within_below : (xs : Option (List ConstructorArgument)) → Comes (AllBelow n) (sorts_within s d o xs)
  within_below None = ok_comes (AllBelow n) refl
  within_below (Some xs) = all_below xs
