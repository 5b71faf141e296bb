-- A sort that is written in a header is the same in both units in which it is accepted.
use Rattle.std.proofs.Common.{◌≡◌, refl, sym, ap, subst, ◌∙◌, ℕ, Bool, true, false, ◌&&◌, if◌then◌else◌, nat_eq, List, [], ◌∷◌, length, Option, Some, None, Result, Ok, Err}
use Rattle.std.specs.List.{list_all}
use Rattle.std.proofs.lemmas.Bool.{and_parts}
use Rattle.vf_base.specs.declared.place.Place.{Place}
use Rattle.vf_base.specs.declared.refusal.Refusal.{Refusal}
use Rattle.vf_base.specs.declared.rule.Rule.TheVariants as rules
use Rattle.vf_names.specs.Names.{number_of}
use Rattle.vf_sorts.specs.declared.sort.Head.{Head}
use Rattle.vf_sorts.specs.declared.sort.Head.TheVariants as heads
use Rattle.vf_sorts.specs.Sorts.{Sort, sort, row}
use Rattle.vf_sorts.specs.Unknowns.{leaf}
use Rattle.vf_declared.specs.declared.declaration.GhostDeclaration.{GhostDeclaration}
use Rattle.vf_declared.specs.declared.declaration.GhostDeclaration.TheVariants as ghosts
use Rattle.vf_declared.specs.declared.declaration.Meaning.{Meaning}
use Rattle.vf_declared.specs.declared.declaration.Meaning.TheVariants as meanings
use Rattle.vf_declared.specs.declared.scope.Scope.{Scope}
use Rattle.vf_declared.specs.Scopes.{datatype_of, declaration_of, ghost_of, tag_of}
use Rattle.vf_syntax.specs.declared.item.ConstructorArgument.{ConstructorArgument}
use Rattle.vf_syntax.specs.declared.written.TypeForm.{TypeForm}
use Rattle.vf_syntax.specs.declared.written.TypeForm.TheVariants as forms
use Rattle.vf_syntax.specs.SortTree.{SortTree, SortTrees, no_sort, more_sort}
use Rattle.vf_syntax.specs.SortTree as tree
use Rattle.vf_asserting.specs.Cases.{ghost_number}
use Rattle.vf_sorting.specs.Kinds.{pointer_sort, predicate_sort}
use Rattle.vf_sorting.specs.Refusals.{refused}
use Rattle.vf_sorting.specs.Schemes.{count_in, is_function_type}
use Rattle.vf_sorting.specs.Spelling.{applied_datatype, datatype_in, datatype_meant, datatype_over, form_sort, in_front, name_over, parameter_over, predicate_over, tagged_sort, written_sort, written_sorts}
use Rattle.vf_datatypes.specs.declared.own.Own.{Own}
use Rattle.vf_datatypes.specs.declared.stated.Stated.{Stated}
use Rattle.vf_datatypes.specs.Arguments.{are_parameters, argument_sort, argument_sorts, datatype_at, named_over, sorts_of, sorts_within}
use Rattle.vf_datatypes.specs.Arguments as arguments
use Rattle.vf_header_laws.specs.c_names.Parts.{is_part_of}
use Rattle.vf_header_laws.specs.c_names.Same.{ConsistsOfHeaders, done, next}
use Rattle.vf_header_laws.specs.c_names.Types.{files_of_form}
use Rattle.vf_header_laws.proofs.c_names.Alike.{all_both}
use Rattle.vf_header_laws.proofs.c_names.Lists.{none_some, some_same}
use Rattle.vf_header_laws.proofs.c_names.Steps.{apart, ok_same, refused_unless}
use Rattle.vf_header_laws.proofs.c_names.Types.{name_higher, tag_higher}
use Rattle.vf_header_laws.specs.ghost_names.Items.{files_of_arguments, files_of_sort, files_of_sorts, files_within}
use Rattle.vf_header_laws.specs.ghost_names.Meaning.{MeansDatatype}
use Rattle.vf_header_laws.specs.ghost_names.Same.{and_one, AreOneHead, AreOneRow, AreOneSort, AreOneSorts, no_more, over}
use Rattle.vf_header_laws.specs.ghost_names.Same as same

-- ---- sorts
pub row_of : {header : ℕ} {s t : Scope} {ts us : List Sort} → AreOneSorts header s t ts us → AreOneRow header s t (row ts) (row us)
row_of done = no_more
row_of (next r rs) = and_one r (row_of rs)

one_leaf : {header : ℕ} {s t : Scope} {h g : Head} → AreOneHead header s t h g → AreOneSort header s t (leaf h) (leaf g)
one_leaf r = over r no_more

-- two sorts that are these two
pub are_these : {header : ℕ} {s t : Scope} {a b x y : Sort} → a ≡ x → b ≡ y → AreOneSort header s t x y → AreOneSort header s t a b
are_these {header} {s} {t} {b = b} {x = x} e h r = subst (λ z. AreOneSort header s t z b) (sym e) (subst (AreOneSort header s t x) (sym h) r)

-- ---- what is written with one sort or more in it
-- a datatype over sorts
pub record IsApplied (s : Scope) (x : List ℕ) (file : ℕ) (r : Result (List Sort) Refusal) (a : Sort) : Type 0 where
  pub datatype : ℕ
  pub parts : List Sort
  pub meant : datatype_meant s (declaration_of s x file) ≡ Some datatype
  pub given : r ≡ Ok parts
  pub is : a ≡ sort (heads.Datatype datatype) (row parts)

applied_is : (p : Place) (d n : ℕ) (ts : List Sort) (a : Sort) → applied_datatype p d n ts ≡ Ok a → a ≡ sort (heads.Datatype d) (row ts)
applied_is p d n ts a e = (refused_unless (sort (heads.Datatype d) (row ts)) (refused rules.Typing p) (nat_eq (length ts) n) e).is

pub is_applied : (s : Scope) (p : Place) (x : List ℕ) (file : ℕ) (r : Result (List Sort) Refusal) (a : Sort) → datatype_over s p (datatype_meant s (declaration_of s x file)) r ≡ Ok a → IsApplied s x file r a
is_applied s p x file r a e = by_number (datatype_meant s (declaration_of s x file)) refl r refl e
  where
    by_number : (o : Option ℕ) → datatype_meant s (declaration_of s x file) ≡ o → (q : Result (List Sort) Refusal) → r ≡ q → datatype_over s p o q ≡ Ok a → IsApplied s x file r a
    by_number None h q g f = absurd (apart f)
    by_number (Some d) h (Err z) g f = absurd (apart f)
    by_number (Some d) h (Ok ts) g f = record { datatype = d; parts = ts; meant = h; given = g; is = applied_is p d (count_in (datatype_of s d)) ts a f }

datatype_at_is : (s : Scope) (o : Own) (p : Place) (k : ℕ) (ts : List Sort) (a : Sort) → datatype_at s o p k ts ≡ Ok a → a ≡ sort (heads.Datatype k) (row ts)
datatype_at_is s o p k ts a e = by_test (nat_eq k o.number) e
  where
    by_test : (b : Bool) → (if b then (if nat_eq (length ts) (length o.parameters) && are_parameters 0 ts then Ok (sort (heads.Datatype k) (row ts)) else Err (refused rules.Typing p)) else applied_datatype p k (count_in (datatype_of s k)) ts) ≡ Ok a → a ≡ sort (heads.Datatype k) (row ts)
    by_test true h = (refused_unless (sort (heads.Datatype k) (row ts)) (refused rules.Typing p) (nat_eq (length ts) (length o.parameters) && are_parameters 0 ts) h).is
    by_test false h = applied_is p k (count_in (datatype_of s k)) ts a h

pub is_named : (s : Scope) (d : Stated) (o : Own) (p : Place) (x : List ℕ) (file : ℕ) (r : Result (List Sort) Refusal) (a : Sort) → named_over s d o p x (datatype_meant s (declaration_of s x file)) r ≡ Ok a → IsApplied s x file r a
is_named s d o p x file r a e = by_number (datatype_meant s (declaration_of s x file)) refl r refl e
  where
    by_number : (m : Option ℕ) → datatype_meant s (declaration_of s x file) ≡ m → (q : Result (List Sort) Refusal) → r ≡ q → named_over s d o p x m q ≡ Ok a → IsApplied s x file r a
    by_number None h q g f = absurd (apart f)
    by_number (Some k) h (Err z) g f = absurd (apart f)
    by_number (Some k) h (Ok ts) g f = record { datatype = k; parts = ts; meant = h; given = g; is = datatype_at_is s o p k ts a f }

-- a type parameter
parameter_is : (p : Place) (i : ℕ) (xs : SortTrees) (a : Sort) → parameter_over p i xs ≡ Ok a → a ≡ leaf (heads.Parameter i)
parameter_is p i no_sort a e = sym (ok_same e)
parameter_is p i (more_sort x xs) a e = absurd (apart e)

-- predicates over sorts
record IsOver (r : Result (List Sort) Refusal) (a : Sort) : Type 0 where
  parts : List Sort
  given : r ≡ Ok parts
  is : a ≡ predicate_sort parts

is_over : (r : Result (List Sort) Refusal) (a : Sort) → predicate_over r ≡ Ok a → IsOver r a
is_over (Err x) a e = absurd (apart e)
is_over (Ok ts) a e = record { parts = ts; given = refl; is = sym (ok_same e) }

-- a sort in front of others
record IsFront (q : Result Sort Refusal) (r : Result (List Sort) Refusal) (ts : List Sort) : Type 0 where
  one : Sort
  more : List Sort
  given : q ≡ Ok one
  rest : r ≡ Ok more
  is : ts ≡ one ∷ more

is_front : (q : Result Sort Refusal) (r : Result (List Sort) Refusal) (ts : List Sort) → in_front q r ≡ Ok ts → IsFront q r ts
is_front (Err x) r ts e = absurd (apart e)
is_front (Ok t) (Err x) ts e = absurd (apart e)
is_front (Ok t) (Ok more) ts e = record { one = t; more = more; given = refl; rest = refl; is = sym (ok_same e) }

-- ---- both units
-- a datatype that a name means
means : (s : Scope) (header from : ℕ) → ConsistsOfHeaders s header → is_part_of s header from ≡ true → (name : List ℕ) (d : ℕ) → (o : Option Meaning) → declaration_of s name from ≡ o → datatype_meant s o ≡ Some d → MeansDatatype s name header d
means s header from c p name d None e h = none_some h
means s header from c p name d (Some (meanings.Function n)) e h = none_some h
means s header from c p name d (Some (meanings.FunctionType n)) e h = none_some h
means s header from c p name d (Some (meanings.Ghost n)) e h = record { number = n; means = ap ghost_number (name_higher s header from c p name (meanings.Ghost n) e); is = by_declaration (ghost_of s n) refl h }
  where
    by_declaration : (o : Option GhostDeclaration) → ghost_of s n ≡ o → datatype_in o ≡ Some d → ghost_of s n ≡ Some (ghosts.Datatype d)
    by_declaration None i k = none_some k
    by_declaration (Some (ghosts.Datatype j)) i k = i ∙ ap (λ z. Some (ghosts.Datatype z)) (some_same k)
    by_declaration (Some (ghosts.Constructor j)) i k = none_some k
    by_declaration (Some (ghosts.Fixpoint j)) i k = none_some k
    by_declaration (Some (ghosts.Predicate j)) i k = none_some k
    by_declaration (Some (ghosts.Family j)) i k = none_some k
    by_declaration (Some (ghosts.PredicateConstructor j)) i k = none_some k
    by_declaration (Some (ghosts.Lemma j)) i k = none_some k

module _ (header : ℕ) (s t : Scope) (c : ConsistsOfHeaders s header) (d : ConsistsOfHeaders t header) (h : (file : ℕ) → is_part_of s header file ≡ is_part_of t header file) where
  pub applied_alike : (x : List ℕ) (file : ℕ) (q r : Result (List Sort) Refusal) (a b : Sort) → is_part_of s header file ≡ true → ((ts us : List Sort) → q ≡ Ok ts → r ≡ Ok us → AreOneSorts header s t ts us) → IsApplied s x file q a → IsApplied t x file r b → AreOneSort header s t a b
  applied_alike x file q r a b w f i j = are_these i.is j.is
      (over
      (same.datatype (record {
        name = x;
        first = means s header file c w x i.datatype (declaration_of s x file) refl i.meant;
        second = means t header file d (sym (h file) ∙ w) x j.datatype (declaration_of t x file) refl j.meant;
      }))
      (row_of (f i.parts j.parts i.given j.given)))

  tags_alike : (p : Place) (x : List ℕ) (file : ℕ) (a b : Sort) → is_part_of s header file ≡ true → (o q : Option ℕ) → tag_of s x file ≡ o → tag_of t x file ≡ q → tagged_sort p o ≡ Ok a → tagged_sort p q ≡ Ok b → AreOneSort header s t a b
  tags_alike p x file a b w None q e k i j = absurd (apart i)
  tags_alike p x file a b w (Some n) None e k i j = absurd (apart j)
  tags_alike p x file a b w (Some n) (Some m) e k i j = are_these (sym (ok_same i)) (sym (ok_same j))
      (one_leaf (same.struct_pointer (record {
        tag = x;
        first = tag_higher s header file c w x n e;
        second = tag_higher t header file d (sym (h file) ∙ w) x m k;
      })))

  form_alike : (p : Place) (f : TypeForm) (a b : Sort) → list_all (is_part_of s header) (files_of_form f) ≡ true → form_sort s p f ≡ Ok a → form_sort t p f ≡ Ok b → AreOneSort header s t a b
  form_alike p (forms.Integer w) a b k i j = are_these (sym (ok_same i)) (sym (ok_same j)) (one_leaf same.int)
  form_alike p forms.Bool a b k i j = are_these (sym (ok_same i)) (sym (ok_same j)) (one_leaf same.bool)
  form_alike p forms.VoidPointer a b k i j = are_these (sym (ok_same i)) (sym (ok_same j)) (one_leaf same.pointer)
  form_alike p forms.IntPointer a b k i j = are_these (sym (ok_same i)) (sym (ok_same j)) (one_leaf same.pointer)
  form_alike p (forms.StructPointer g) a b k i j = tags_alike g.place g.text g.place.file a b (and_parts (is_part_of s header g.place.file) true k).0 _ _ refl refl i j
  form_alike p (forms.NamedPointer x) a b k i j =
      are_these (refused_unless pointer_sort (refused rules.Name p) (is_function_type (declaration_of s x p.file)) i).is (refused_unless pointer_sort (refused rules.Name p) (is_function_type (declaration_of t x p.file)) j).is (one_leaf same.pointer)

  -- ---- sorts as they are written
  -- what is the same of the sorts that stand in a sort
  abbrev SortsAlike : Result (List Sort) Refusal → Result (List Sort) Refusal → Type 0
  SortsAlike q r = (ts us : List Sort) → q ≡ Ok ts → r ≡ Ok us → AreOneSorts header s t ts us

  over_alike : (q r : Result (List Sort) Refusal) (a b : Sort) → SortsAlike q r → predicate_over q ≡ Ok a → predicate_over r ≡ Ok b → AreOneSort header s t a b
  over_alike q r a b f i j =
      let k = is_over q a i in
      let l = is_over r b j in
      are_these k.is l.is (over same.predicate (row_of (f k.parts l.parts k.given l.given)))

  name_alike : (p : Place) (x : List ℕ) (xs : SortTrees) (q r : Result (List Sort) Refusal) (a b : Sort) → is_part_of s header p.file ≡ true → SortsAlike q r → (o : Option ℕ) → name_over s p x o xs q ≡ Ok a → name_over t p x o xs r ≡ Ok b → AreOneSort header s t a b
  name_alike p x xs q r a b w f (Some n) i j = are_these (parameter_is p n xs a i) (parameter_is p n xs b j) (one_leaf same.parameter)
  name_alike p x xs q r a b w f None i j = applied_alike x p.file q r a b w f (is_applied s p x p.file q a i) (is_applied t p x p.file r b j)

  front_alike : (q r : Result Sort Refusal) (q₁ r₁ : Result (List Sort) Refusal) (ts us : List Sort) → ((a b : Sort) → q ≡ Ok a → r ≡ Ok b → AreOneSort header s t a b) → SortsAlike q₁ r₁ → in_front q q₁ ≡ Ok ts → in_front r r₁ ≡ Ok us → AreOneSorts header s t ts us
  front_alike q r q₁ r₁ ts us f g i j =
      let k = is_front q q₁ ts i in
      let l = is_front r r₁ us j in
      subst (λ z. AreOneSorts header s t z us) (sym k.is) (subst (AreOneSorts header s t (k.one ∷ k.more)) (sym l.is) (next (f k.one l.one k.given l.given) (g k.more l.more k.rest l.rest)))

  none_alike : (ts us : List Sort) → ◌≡◌ {A = Result (List Sort) Refusal} (Ok []) (Ok ts) → ◌≡◌ {A = Result (List Sort) Refusal} (Ok []) (Ok us) → AreOneSorts header s t ts us
  none_alike ts us i j = subst (λ z. AreOneSorts header s t z us) (ok_same i) (subst (AreOneSorts header s t []) (ok_same j) done)

  mutual
    pub sort_alike : (ps : List (List ℕ)) (x : SortTree) (a b : Sort) → list_all (is_part_of s header) (files_of_sort x) ≡ true → written_sort s ps x ≡ Ok a → written_sort t ps x ≡ Ok b → AreOneSort header s t a b
    sort_alike ps (tree.real_ p) a b w i j = are_these (sym (ok_same i)) (sym (ok_same j)) (one_leaf same.real)
    sort_alike ps (tree.any_ p) a b w i j = are_these (sym (ok_same i)) (sym (ok_same j)) (one_leaf same.any)
    sort_alike ps (tree.type_ p f) a b w i j = form_alike f.place f.form a b w i j
    sort_alike ps (tree.name_ p x xs) a b w i j =
        let k = and_parts (is_part_of s header p.file) (list_all (is_part_of s header) (files_of_sorts xs)) w in
        name_alike p x xs (written_sorts s ps xs) (written_sorts t ps xs) a b k.0 (λ ts us e f. sorts_alike ps xs ts us k.1 e f) (number_of ps x) i j
    sort_alike ps (tree.predicate_ p xs) a b w i j = over_alike (written_sorts s ps xs) (written_sorts t ps xs) a b (λ ts us e f. sorts_alike ps xs ts us w e f) i j

    sorts_alike : (ps : List (List ℕ)) (xs : SortTrees) (ts us : List Sort) → list_all (is_part_of s header) (files_of_sorts xs) ≡ true → written_sorts s ps xs ≡ Ok ts → written_sorts t ps xs ≡ Ok us → AreOneSorts header s t ts us
    sorts_alike ps no_sort ts us w i j = none_alike ts us i j
    sorts_alike ps (more_sort x xs) ts us w i j =
        let v = all_both (is_part_of s header) (files_of_sort x) (files_of_sorts xs) w in
        front_alike (written_sort s ps x) (written_sort t ps x) (written_sorts s ps xs) (written_sorts t ps xs) ts us (λ a b e f. sort_alike ps x a b v.0 e f) (λ ts₁ us₁ e f. sorts_alike ps xs ts₁ us₁ v.1 e f) i j

  -- ---- arguments of constructors
  module _ (e f : Stated) (o q : Own) (g : o.parameters ≡ q.parameters) where
    argument_named : (p : Place) (x : List ℕ) (xs : SortTrees) (y z : Result (List Sort) Refusal) (a b : Sort) → is_part_of s header p.file ≡ true → SortsAlike y z → (m n : Option ℕ) → m ≡ n → arguments.name_over s e o p x m xs y ≡ Ok a → arguments.name_over t f q p x n xs z ≡ Ok b → AreOneSort header s t a b
    argument_named p x xs y z a b w k (Some m) (Some n) r i j = are_these (parameter_is p m xs a i) (parameter_is p n xs b j ∙ ap (λ l. leaf (heads.Parameter l)) (sym (some_same r))) (one_leaf same.parameter)
    argument_named p x xs y z a b w k (Some m) None r i j = none_some (sym r)
    argument_named p x xs y z a b w k None (Some n) r i j = none_some r
    argument_named p x xs y z a b w k None None r i j = applied_alike x p.file y z a b w k (is_named s e o p x p.file y a i) (is_named t f q p x p.file z b j)

    mutual
      argument_alike : (x : SortTree) (a b : Sort) → list_all (is_part_of s header) (files_of_sort x) ≡ true → argument_sort s e o x ≡ Ok a → argument_sort t f q x ≡ Ok b → AreOneSort header s t a b
      argument_alike (tree.real_ p) a b w i j = are_these (sym (ok_same i)) (sym (ok_same j)) (one_leaf same.real)
      argument_alike (tree.any_ p) a b w i j = are_these (sym (ok_same i)) (sym (ok_same j)) (one_leaf same.any)
      argument_alike (tree.type_ p z) a b w i j = form_alike z.place z.form a b w i j
      argument_alike (tree.name_ p x xs) a b w i j =
          let k = and_parts (is_part_of s header p.file) (list_all (is_part_of s header) (files_of_sorts xs)) w in
          argument_named p x xs (argument_sorts s e o xs) (argument_sorts t f q xs) a b k.0 (λ ts us y z. arguments_alike xs ts us k.1 y z) (number_of o.parameters x) (number_of q.parameters x) (ap (λ ps. number_of ps x) g) i j
      argument_alike (tree.predicate_ p xs) a b w i j = over_alike (argument_sorts s e o xs) (argument_sorts t f q xs) a b (λ ts us y z. arguments_alike xs ts us w y z) i j

      arguments_alike : (xs : SortTrees) (ts us : List Sort) → list_all (is_part_of s header) (files_of_sorts xs) ≡ true → argument_sorts s e o xs ≡ Ok ts → argument_sorts t f q xs ≡ Ok us → AreOneSorts header s t ts us
      arguments_alike no_sort ts us w i j = none_alike ts us i j
      arguments_alike (more_sort x xs) ts us w i j =
          let v = all_both (is_part_of s header) (files_of_sort x) (files_of_sorts xs) w in
          front_alike (argument_sort s e o x) (argument_sort t f q x) (argument_sorts s e o xs) (argument_sorts t f q xs) ts us (λ a b y z. argument_alike x a b v.0 y z) (λ ts₁ us₁ y z. arguments_alike xs ts₁ us₁ v.1 y z) i j

    listed_alike : (xs : List ConstructorArgument) (ts us : List Sort) → list_all (is_part_of s header) (files_of_arguments xs) ≡ true → sorts_of s e o xs ≡ Ok ts → sorts_of t f q xs ≡ Ok us → AreOneSorts header s t ts us
    listed_alike [] ts us w i j = none_alike ts us i j
    listed_alike (x ∷ xs) ts us w i j =
        let v = all_both (is_part_of s header) (files_of_sort x.sort) (files_of_arguments xs) w in
        front_alike (argument_sort s e o x.sort) (argument_sort t f q x.sort) (sorts_of s e o xs) (sorts_of t f q xs) ts us (λ a b y z. argument_alike x.sort a b v.0 y z) (λ ts₁ us₁ y z. listed_alike xs ts₁ us₁ v.1 y z) i j

    pub within_alike : (xs : Option (List ConstructorArgument)) (ts us : List Sort) → list_all (is_part_of s header) (files_within xs) ≡ true → sorts_within s e o xs ≡ Ok ts → sorts_within t f q xs ≡ Ok us → AreOneSorts header s t ts us
    within_alike None ts us w i j = none_alike ts us i j
    within_alike (Some xs) ts us w i j = listed_alike xs ts us w i j
