-- Names of annotations that are declared in a header show the same in two units.
use Rattle.std.proofs.Common.{◌≡◌, refl, sym, ap, subst, ℕ, true, List, [], ◌∷◌, ◌++◌, length, Ok}
use Rattle.std.specs.List.{list_all}
use Rattle.std.proofs.lemmas.Bool.{and_parts}
use Rattle.vf_sorts.specs.Sorts.{Sort}
use Rattle.vf_declared.specs.declared.declaration.GhostDeclaration.{GhostDeclaration}
use Rattle.vf_declared.specs.declared.scope.Scope.{Scope}
use Rattle.vf_syntax.specs.declared.item.GhostForm.{GhostForm}
use Rattle.vf_syntax.specs.declared.item.GhostForm.TheVariants as forms
use Rattle.vf_syntax.specs.declared.item.GhostParameter.{GhostParameter}
use Rattle.vf_syntax.specs.declared.written.Name.{Name}
use Rattle.vf_syntax.specs.AssertionTree.{part_list}
use Rattle.vf_syntax.specs.SortTree.{SortTree}
use Rattle.vf_sorting.specs.Spelling.{written_sort}
use Rattle.vf_datatypes.specs.declared.stated.Stated.{Stated}
use Rattle.vf_datatypes.specs.Datatypes.{with_next}
use Rattle.vf_annotations.specs.Forms.{FormComes}
use Rattle.vf_header_laws.specs.c_names.Parts.{is_part_of}
use Rattle.vf_header_laws.proofs.c_names.Alike.{all_both}
use Rattle.vf_header_laws.proofs.c_names.Inside.{both_given, first_alone, second_alone}
use Rattle.vf_header_laws.specs.ghost_names.Items.{files_of_constructors, files_of_heads, files_of_names, files_of_parameters, files_of_sort, FormsInsideShowTheSame, names_of_constructors, names_of_form}
use Rattle.vf_header_laws.specs.ghost_names.Same.{AreOneSort, AreOneSorts, DeclareTheSame, ShowTheSameGhosts, StandForTheSame}
use Rattle.vf_header_laws.specs.ghost_names.Same as same
use Rattle.vf_header_laws.proofs.ghost_names.Behind.{form_behind}
use Rattle.vf_header_laws.proofs.ghost_names.Datatypes.{datatypes_agree, is_datatype}
use Rattle.vf_header_laws.proofs.ghost_names.Declaring.{again_adds, DeclaresNew, new_adds, new_at, new_unseen}
use Rattle.vf_header_laws.proofs.ghost_names.Growing.{ghost_grows, Grows, grows_both, rest_grows, sort_grows, sorts_grow, stand_grow}
use Rattle.vf_header_laws.proofs.ghost_names.Heads.{again, constructor_declares, Declares, family_declares, fixpoint_declares, instance_rest, IsConstructor, IsFamily, IsFixpoint, IsPredicate, new, predicate_body_declares, predicate_declares}
use Rattle.vf_header_laws.proofs.ghost_names.Lemmas.{definition_declares, IsLemmaOver, prototype_declares}
use Rattle.vf_header_laws.proofs.ghost_names.Parameters.{read_alike, Reads, reads_alike}
use Rattle.vf_header_laws.proofs.ghost_names.Rest.{rest_itself}
use Rattle.vf_header_laws.proofs.ghost_names.Two.{AreTwo, names_agree, names_map, NamesAgree, rest_agree, two_grow, within_grows}
use Rattle.vf_header_laws.proofs.ghost_names.Walks.{parameters_alike}

-- declarations that are these two
these_declare : {header : ℕ} {s t : Scope} {f g h k : GhostDeclaration} → f ≡ h → g ≡ k → DeclareTheSame header s t h k → DeclareTheSame header s t f g
these_declare {header} {s} {t} {g = g} {h = h} e i r = subst (λ z. DeclareTheSame header s t z g) (sym e) (subst (DeclareTheSame header s t h) (sym i) r)

-- what is declared next keeps its meaning
next_grows : {n : Name} {g : GhostDeclaration} {s t : Scope} → DeclaresNew n g s t → Grows (with_next s n) t
next_grows {n} {g} {s} d = grows_both (ghost_grows (with_next s n) g) (rest_grows d.is)

module _ {s t : Scope} (header : ℕ) (two : AreTwo header s t) where
  two_next : (n : Name) → AreTwo header (with_next s n) (with_next t n)
  two_next n = two_grow (record { file = refl; headers = refl }) (record { file = refl; headers = refl }) two

  within_next : (n : Name) (files : List ℕ) → list_all (is_part_of s header) files ≡ true → list_all (is_part_of (with_next s n) header) files ≡ true
  within_next n files w = within_grows {s = s} {t = with_next s n} header files (record { file = refl; headers = refl }) w

  next_sorts : {ts us : List Sort} (n : Name) (ps : List (List ℕ)) (gs : List GhostParameter) → list_all (is_part_of s header) (files_of_parameters gs) ≡ true → Reads ps gs (with_next s n) ts → Reads ps gs (with_next t n) us → AreOneSorts header (with_next s n) (with_next t n) ts us
  next_sorts n ps gs w i j = reads_alike ps gs (two_next n) (rest_itself (with_next s n)) (rest_itself (with_next t n)) (within_next n (files_of_parameters gs) w) i j

  -- where the one name of a form stands, and the names of its sorts
  parts_of : (n : Name) (files : List ℕ) → list_all (is_part_of s header) (n.place.file ∷ files) ≡ true → (is_part_of s header n.place.file ≡ true) × (list_all (is_part_of s header) files ≡ true)
  parts_of n files w = and_parts (is_part_of s header n.place.file) (list_all (is_part_of s header) files) w

module _ {s t u v : Scope} (header : ℕ) (two : AreTwo header s t) (a : length s.names ≡ length s.declarations) (b : length t.names ≡ length t.declarations) (h : ShowTheSameGhosts header s t) where
  -- ---- one name
  -- names in front of an item stand for the same behind it
  old_names : Grows s u → Grows t v → NamesAgree (StandForTheSame header u v) header s t
  old_names g k = names_map header s t (λ n m r. stand_grow g k r) h.names

  -- one name, which is new in both units or in none
  one_agrees : {n : Name} {Q P : GhostDeclaration → Type 0} → is_part_of s header n.place.file ≡ true → ((f g : GhostDeclaration) → DeclaresNew n f s u → DeclaresNew n g t v → Q f → P g → DeclareTheSame header u v f g) → Declares n Q s u → Declares n P t v → NamesAgree (StandForTheSame header u v) header u v
  one_agrees w z (new {g = f} d q) (new {g = g} e p) =
      let m = new_adds a d in
      let k = new_adds b e in
      names_agree two (record { first = f; second = g; at_first = new_at d; at_second = new_at e; same = z f g d e q p }) m k (old_names m.grows k.grows)
  one_agrees {n} w z (again d) (again e) =
      let m = again_adds a d in
      let k = again_adds b e in
      names_agree two (stand_grow m.grows k.grows (both_given _ _ d.means e.means (h.names n.place.file n.text w))) m k (old_names m.grows k.grows)
  one_agrees {n} w z (new d q) (again e) = second_alone _ _ (new_unseen n.place.file d) e.means (h.names n.place.file n.text w)
  one_agrees {n} w z (again d) (new e p) = first_alone _ _ d.means (new_unseen n.place.file e) (h.names n.place.file n.text w)

  -- ---- what the forms declare
  predicates_same : (n : Name) (gs : List GhostParameter) → list_all (is_part_of s header) (files_of_parameters gs) ≡ true → (f g : GhostDeclaration) → DeclaresNew n f s u → DeclaresNew n g t v → IsPredicate n gs s f → IsPredicate n gs t g → DeclareTheSame header u v f g
  predicates_same n gs w f g d e q p = these_declare q.is p.is (same.predicates (sorts_grow (next_grows d) (next_grows e) (next_sorts header two n [] gs w q.reads p.reads)))

  constructors_same : (n : Name) (fs gs : List GhostParameter) → list_all (is_part_of s header) (files_of_parameters fs ++ files_of_parameters gs) ≡ true → (f g : GhostDeclaration) → DeclaresNew n f s u → DeclaresNew n g t v → IsConstructor n fs gs s f → IsConstructor n fs gs t g → DeclareTheSame header u v f g
  constructors_same n fs gs w f g d e q p =
      let k = all_both (is_part_of s header) (files_of_parameters fs) (files_of_parameters gs) w in
      these_declare q.is p.is
      (same.predicate_constructors (sorts_grow (next_grows d) (next_grows e) (next_sorts header two n [] fs k.0 q.reads_first p.reads_first))
      (sorts_grow (next_grows d) (next_grows e) (reads_alike [] gs (two_next header two n) q.rest p.rest (within_next header two n (files_of_parameters gs) k.1) q.reads_second p.reads_second)))

  families_same : (n : Name) (i : GhostParameter) (gs : List GhostParameter) → list_all (is_part_of s header) (files_of_sort i.sort ++ files_of_parameters gs) ≡ true → (f g : GhostDeclaration) → DeclaresNew n f s u → DeclaresNew n g t v → IsFamily n i gs s f → IsFamily n i gs t g → DeclareTheSame header u v f g
  families_same n i gs w f g d e q p =
      let k = all_both (is_part_of s header) (files_of_sort i.sort) (files_of_parameters gs) w in
      these_declare q.is p.is
      (same.families (sort_grows (next_grows d) (next_grows e) (read_alike [] i.sort q.index p.index (two_next header two n) (rest_itself (with_next s n)) (rest_itself (with_next t n)) (within_next header two n (files_of_sort i.sort) k.0) q.given p.given))
      (sorts_grow (next_grows d) (next_grows e) (reads_alike [] gs (two_next header two n) q.rest p.rest (within_next header two n (files_of_parameters gs) k.1) q.reads p.reads)))

  fixpoints_same : (r : SortTree) (n : Name) (ns : List Name) (gs : List GhostParameter) → list_all (is_part_of s header) (files_of_sort r ++ files_of_parameters gs) ≡ true → (f g : GhostDeclaration) → DeclaresNew n f s u → DeclaresNew n g t v → IsFixpoint r n ns gs s f → IsFixpoint r n ns gs t g → DeclareTheSame header u v f g
  fixpoints_same r n ns gs w f g d e q p =
      let k = all_both (is_part_of s header) (files_of_sort r) (files_of_parameters gs) w in
      let i = parameters_alike s t ns q.written p.written in
      these_declare q.is p.is
      (same.fixpoints (ap length i)
      (sorts_grow (next_grows d) (next_grows e) (next_sorts header two n q.parameters gs k.1 q.reads (subst (λ ps. Reads ps gs (with_next t n) p.sorts) (sym i) p.reads)))
      (sort_grows (new_adds a d).grows (new_adds b e).grows (read_alike q.parameters r q.result_sort p.result_sort two (rest_itself s) (rest_itself t) k.0 q.given (subst (λ ps. written_sort t ps r ≡ Ok p.result_sort) (sym i) p.given))))

  lemmas_same : (n : Name) (ns : List Name) (gs : List GhostParameter) → list_all (is_part_of s header) (files_of_parameters gs) ≡ true → (f g : GhostDeclaration) → DeclaresNew n f s u → DeclaresNew n g t v → IsLemmaOver n ns gs s f → IsLemmaOver n ns gs t g → DeclareTheSame header u v f g
  lemmas_same n ns gs w f g d e q p =
      let i = parameters_alike s t ns q.written p.written in
      these_declare q.is p.is
      (same.lemmas (ap length i) (sorts_grow (next_grows d) (next_grows e) (next_sorts header two n q.parameters gs w q.reads (subst (λ ps. Reads ps gs (with_next t n) p.sorts) (sym i) p.reads))))

  -- ---- forms
  pub forms_agree : (d e : Stated) (x : GhostForm) → list_all (is_part_of s header) (files_of_names (names_of_form x) ++ files_of_heads x) ≡ true → FormComes d x s (Ok u) → FormComes e x t (Ok v) → Grows s u → Grows t v → NamesAgree (StandForTheSame header u v) header u v
  forms_agree d e (forms.Inductive n ns b₁ cs) w i j y z =
      let k = parts_of header two n (files_of_names (names_of_constructors cs) ++ files_of_constructors cs) w in
      let l = all_both (is_part_of s header) (files_of_names (names_of_constructors cs)) (files_of_constructors cs) k.1 in
      datatypes_agree header d e n ns cs two a b k.0 l.0 l.1 (is_datatype d n ns cs s i.is) (is_datatype e n ns cs t j.is) old_names
  forms_agree d e (forms.Fixpoint r n ns gs b₁) w i j y z =
      let k = parts_of header two n (files_of_sort r ++ files_of_parameters gs) w in
      one_agrees k.0 (fixpoints_same r n ns gs k.1) (fixpoint_declares r n ns gs b₁ s i) (fixpoint_declares r n ns gs b₁ t j)
  forms_agree d e (forms.Predicate n gs) w i j y z =
      let k = parts_of header two n (files_of_parameters gs) w in
      one_agrees k.0 (predicates_same n gs k.1) (predicate_declares n gs s i) (predicate_declares n gs t j)
  forms_agree d e (forms.PredicateBody n gs x) w i j y z =
      let k = parts_of header two n (files_of_parameters gs) w in
      one_agrees k.0 (predicates_same n gs k.1) (predicate_body_declares n gs (part_list x) s i) (predicate_body_declares n gs (part_list x) t j)
  forms_agree d e (forms.Family n x gs) w i j y z =
      let k = parts_of header two n (files_of_sort x.sort ++ files_of_parameters gs) w in
      one_agrees k.0 (families_same n x gs k.1) (family_declares n x gs s i.is) (family_declares n x gs t j.is)
  forms_agree d e (forms.Instance f g gs x) w i j y z = rest_agree header (instance_rest f g gs (part_list x) s i) (instance_rest f g gs (part_list x) t j) (old_names y z)
  forms_agree d e (forms.PredicateConstructor n fs gs x) w i j y z =
      let k = parts_of header two n (files_of_parameters fs ++ files_of_parameters gs) w in
      one_agrees k.0 (constructors_same n fs gs k.1) (constructor_declares n fs gs (part_list x) s i) (constructor_declares n fs gs (part_list x) t j)
  forms_agree d e (forms.LemmaPrototype n ns gs c) w i j y z =
      let k = parts_of header two n (files_of_parameters gs) w in
      one_agrees k.0 (lemmas_same n ns gs k.1) (prototype_declares n ns gs c s i) (prototype_declares n ns gs c t j)
  forms_agree d e (forms.Lemma n ns gs c x) w i j y z =
      let k = parts_of header two n (files_of_parameters gs) w in
      one_agrees k.0 (lemmas_same n ns gs k.1) (definition_declares n ns gs c x s i) (definition_declares n ns gs c x t j)

pub forms_inside_show_the_same : FormsInsideShowTheSame
forms_inside_show_the_same header d e x s t u v c q a b w i j h =
    let two : AreTwo header s t = record { first = c; second = q; files = h.files } in
    let g = (form_behind d x s u a.names i).grows in
    let k = (form_behind e x t v b.names j).grows in
    record {
      files = (two_grow g.unit k.unit two).files;
      names = forms_agree header two a.names b.names h d e x w i j g k;
    }
