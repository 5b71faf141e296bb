-- Ghost items but lemmas bring their names.
use Rattle.std.proofs.Common.{◌≡◌, refl, sym, ℕ, Bool, true, false, if◌then◌else◌, List, [], ◌∷◌, length, drop, map, is_some, Option, Some, None, Ok}
use Rattle.vf_base.specs.declared.refusal.Refusal.{Refusal}
use Rattle.vf_names.specs.Names.{number_of}
use Rattle.vf_sorts.specs.Sorts.{Sort}
use Rattle.vf_sorts.specs.Unknowns.{Known}
use Rattle.vf_declared.specs.declared.declaration.Meaning.{Meaning}
use Rattle.vf_declared.specs.declared.declaration.Meaning.TheVariants as meanings
use Rattle.vf_declared.specs.declared.scope.Scope.{Scope}
use Rattle.vf_declared.specs.Scopes.{at_index, declaration_of, declared_in}
use Rattle.vf_declared.specs.Writing.{with_ghost_body}
use Rattle.vf_syntax.specs.declared.item.Constructor.{Constructor}
use Rattle.vf_syntax.specs.declared.item.FixpointBody.{FixpointBody}
use Rattle.vf_syntax.specs.declared.item.FixpointCase.{FixpointCase}
use Rattle.vf_syntax.specs.declared.item.GhostParameter.{GhostParameter}
use Rattle.vf_syntax.specs.declared.written.Name.{Name}
use Rattle.vf_syntax.specs.AssertionTree.{PartTrees}
use Rattle.vf_syntax.specs.SortTree.{SortTree}
use Rattle.vf_sorting.specs.declared.context.Context.{Context}
use Rattle.vf_sorting.specs.Spelling.{written_sort}
use Rattle.vf_asserting.specs.Cases.{ghost_number}
use Rattle.vf_asserting.specs.Leaving.{count}
use Rattle.vf_datatypes.specs.declared.stated.Stated.{Stated}
use Rattle.vf_datatypes.specs.declared.own.Own.{Own}
use Rattle.vf_datatypes.specs.Arguments.{sorts_within}
use Rattle.vf_datatypes.specs.Datatypes.{begun, body_behind, complete, constructor_behind, constructors_behind, datatype_behind, own, with_constructor, with_datatype, with_next}
use Rattle.vf_datatypes.specs.Inhabited.{is_inhabited}
use Rattle.vf_datatypes.specs.NewNames.{name_refusal, names_c}
use Rattle.vf_datatypes.specs.NewNames as names
use Rattle.vf_datatypes.specs.Walking.{behind}
use Rattle.vf_heads.specs.Heads.{behind_index, family_behind, fixpoint_behind, given_fixpoint, indexed, named_fixpoint, second_behind, with_family, with_fixpoint, with_predicate_constructor}
use Rattle.vf_heads.specs.Heads as heads
use Rattle.vf_heads.specs.Parameters.{Taken, local_refusal, named, none_taken, parameters_behind, with_parameter}
use Rattle.vf_predicates.specs.Bodies.{BodyComes}
use Rattle.vf_predicates.specs.Bodies as bodies
use Rattle.vf_predicates.specs.Earlier.{again_refusal, if_predicate, seen_too, stands_too}
use Rattle.vf_predicates.specs.Instances.{InstanceComes, IsInstance, family_at, if_family}
use Rattle.vf_predicates.specs.Instances as instances
use Rattle.vf_predicates.specs.Predicates.{ConstructorComes, HeadComes, IsAgain, PredicateBodyComes, PredicateComes, again_behind, first_behind, number_at, with_predicate, without_body}
use Rattle.vf_predicates.specs.Predicates as predicates
use Rattle.vf_equations.specs.Fixpoints.{EquationsCome, FixpointComes}
use Rattle.vf_equations.specs.Fixpoints as fixpoints
use Rattle.vf_equations.specs.Values as values
use Rattle.vf_erasure_laws.proofs.hidden.Binding as binding
use Rattle.vf_erasure_laws.proofs.hidden.Coming.{Comes, Leads, behind_comes, none_some, ok_comes, only_leads, then_leads, unless_comes}
use Rattle.vf_erasure_laws.proofs.hidden.Giving.{parts}
use Rattle.vf_erasure_laws.proofs.hidden.Heads.{parameters_come}
use Rattle.vf_env.specs.Named.{constructor_name}
use Rattle.vf_env_laws.proofs.Keeping.{Any, Brings, IsBeside, Keeps, brings_before, brings_both, brings_known, brings_name, brings_none, if_comes, keeps_adding, keeps_again, keeps_both, keeps_kept, keeps_same, passed_comes, then_brings}

-- ---- names that are new
neither : (b : Bool) (o : Option ℕ) (x y : Refusal) → ◌≡◌ {A = Option Refusal} (if b then Some x else (if is_some o then Some y else None)) None → o ≡ None
neither true o x y e = absurd (none_some (sym e))
neither false None x y e = refl
neither false (Some k) x y e = absurd (none_some (sym e))

new_name : (s : Scope) (n : Name) → name_refusal s n ≡ None → number_of s.names n.text ≡ None
new_name s n e = neither (names_c s n.text n.place.file) (number_of s.names n.text) _ _ e

pub next_brings : (s : Scope) (n : Name) → IsBeside s → number_of s.names n.text ≡ None → Brings (n.text ∷ []) [] s (with_next s n)
next_brings s n a e = brings_name s n.text (meanings.Ghost (length s.ghosts)) n.place.file a e

-- ---- names that are there
named_there : (s : Scope) (x : List ℕ) (file : ℕ) (o : Option ℕ) (m : Meaning) → number_of s.names x ≡ o → declared_in s file (at_index s.declarations o) ≡ Some m → (k : ℕ) × (number_of s.names x ≡ Some k)
named_there s x file None m e d = absurd (none_some d)
named_there s x file (Some k) m e d = (k, e)

-- a name that means something is there
pub declared_there : (s : Scope) (x : List ℕ) (file : ℕ) (m : Meaning) → declaration_of s x file ≡ Some m → (k : ℕ) × (number_of s.names x ≡ Some k)
declared_there s x file m d = named_there s x file (number_of s.names x) m refl d

ghost_there : (o : Option Meaning) (j : ℕ) → ghost_number o ≡ Some j → (m : Meaning) × (o ≡ Some m)
ghost_there None j e = absurd (none_some e)
ghost_there (Some m) j e = (m, refl)

-- a name that means something of annotations is there
numbered_there : (s : Scope) (n : Name) (j : ℕ) → ghost_number (declaration_of s n.text n.place.file) ≡ Some j → (k : ℕ) × (number_of s.names n.text ≡ Some k)
numbered_there s n j e = let m = ghost_there (declaration_of s n.text n.place.file) j e in declared_there s n.text n.place.file m.0 m.1

-- ---- parameters
-- parameters keep the names of the scope in which they are taken
abbrev pub TakenFrom : Scope → Taken → Type 0
TakenFrom s k = Keeps s k.scope

pub parameters_keep : (ps : List (List ℕ)) (gs : List GhostParameter) (s : Scope) → Comes (TakenFrom s) (parameters_behind ps gs (none_taken s))
parameters_keep ps gs s k e = keeps_adding (parameters_come ps gs (none_taken s) k e)

-- the parameters behind what brings some names
abbrev pub TakenBehind : List (List ℕ) → Scope → Taken → Type 0
TakenBehind xs s k = Brings xs [] s k.scope

pub taken_behind : {xs : List (List ℕ)} {s : Scope} (ps : List (List ℕ)) (gs : List GhostParameter) (t : Scope) → Brings xs [] s t → Comes (TakenBehind xs s) (parameters_behind ps gs (none_taken t))
taken_behind ps gs t h k e = brings_before h (parameters_keep ps gs t k e)

named_keeps : (n : Name) (k : Taken) (t : Sort) → Comes (TakenFrom k.scope) (named n k t)
named_keeps n k t = unless_comes (TakenFrom k.scope) (local_refusal k.scope n) (Ok (with_parameter n t k)) (ok_comes (TakenFrom k.scope) (record { names = refl; tags = refl; count = refl }))

-- ---- families
pub family_brings : (n : Name) (i : GhostParameter) (gs : List GhostParameter) (s : Scope) → IsBeside s → Comes (Brings (n.text ∷ []) [] s) (family_behind n i gs s)
family_brings n i gs s a =
    passed_comes (Brings (n.text ∷ []) [] s) (name_refusal s n) (behind (indexed i gs (with_next s n)) (written_sort (with_next s n) [] i.sort))
    (λ e. behind_comes Any (Brings (n.text ∷ []) [] s) (indexed i gs (with_next s n)) (written_sort (with_next s n) [] i.sort) (λ t u. tt) (λ t u. of_sort e t))
  where
    of_sort : name_refusal s n ≡ None → (t : Sort) → Comes (Brings (n.text ∷ []) [] s) (indexed i gs (with_next s n) t)
    of_sort e t =
        behind_comes (TakenBehind (n.text ∷ []) s) (Brings (n.text ∷ []) [] s) (λ (k : Taken). behind_index (count s) t gs k.scope) (named i.name (none_taken (with_next s n)) t)
        (λ k f. brings_before (next_brings s n a (new_name s n e)) (named_keeps i.name (none_taken (with_next s n)) t k f))
        (λ k h. behind_comes (TakenBehind (n.text ∷ []) s) (Brings (n.text ∷ []) [] s) (with_family (count s) t) (parameters_behind [] gs (none_taken k.scope)) (taken_behind [] gs k.scope h)
        (λ l j. ok_comes (Brings (n.text ∷ []) [] s) (brings_before j (record { names = refl; tags = refl; count = refl }))))

-- ---- datatypes
constructor_brings : (d : Stated) (o : Own) (c : Constructor) (t : Scope) → IsBeside t → Comes (Brings (c.name.text ∷ []) [] t) (constructor_behind d o c t)
constructor_brings d o c t a =
    passed_comes (Brings (c.name.text ∷ []) [] t) (name_refusal t c.name) (behind (with_constructor o.number (with_next t c.name)) (sorts_within (with_next t c.name) d o c.arguments))
    (λ e. behind_comes Any (Brings (c.name.text ∷ []) [] t) (with_constructor o.number (with_next t c.name)) (sorts_within (with_next t c.name) d o c.arguments) (λ ts u. tt)
    (λ ts u. ok_comes (Brings (c.name.text ∷ []) [] t) (brings_before (next_brings t c.name a (new_name t c.name e)) (record { names = refl; tags = refl; count = refl }))))

constructors_bring : (d : Stated) (o : Own) (cs : List Constructor) (t : Scope) → IsBeside t → Comes (Brings (map constructor_name cs) [] t) (constructors_behind d o cs t)
constructors_bring d o [] t a = ok_comes (Brings [] [] t) (brings_none a (keeps_same t))
constructors_bring d o (c ∷ cs) t a =
    behind_comes (Brings (c.name.text ∷ []) [] t) (Brings (map constructor_name (c ∷ cs)) [] t) (constructors_behind d o cs) (constructor_behind d o c t) (constructor_brings d o c t a)
    (λ u h v e. brings_both h (constructors_bring d o cs u h.beside v e))

complete_keeps : (o : Own) (first : ℕ) (t : Scope) → Comes (Keeps t) (complete o first t)
complete_keeps o first t = if_comes (Keeps t) (is_inhabited (with_datatype t o first) o.number) _ _ (λ e. record { names = refl; tags = refl; count = refl })

body_brings : (d : Stated) (cs : List Constructor) (t : Scope) (o : Own) → IsBeside t → Comes (Brings (map constructor_name cs) [] t) (body_behind d cs t o)
body_brings d cs t o a =
    behind_comes (Brings (map constructor_name cs) [] t) (Brings (map constructor_name cs) [] t) (complete o (length t.ghosts)) (constructors_behind d o cs t) (constructors_bring d o cs t a)
    (λ u h v e. brings_before h (complete_keeps o (length t.ghosts) u v e))

pub datatype_brings : (d : Stated) (n : Name) (ns : List Name) (cs : List Constructor) (s : Scope) → IsBeside s → Comes (Brings (n.text ∷ map constructor_name cs) [] s) (datatype_behind d n ns cs s)
datatype_brings d n ns cs s a =
    passed_comes (Brings (n.text ∷ map constructor_name cs) [] s) (name_refusal s n) (behind (λ (ps : List (List ℕ)). body_behind d cs (begun s n) (own s n ps)) (names.parameters_behind (begun s n) ns []))
    (λ e. behind_comes Any (Brings (n.text ∷ map constructor_name cs) [] s) (λ (ps : List (List ℕ)). body_behind d cs (begun s n) (own s n ps)) (names.parameters_behind (begun s n) ns []) (λ ps u. tt)
    (λ ps u v f. let h = first e in brings_both h (body_brings d cs (begun s n) (own s n ps) h.beside v f)))
  where
    first : name_refusal s n ≡ None → Brings (n.text ∷ []) [] s (begun s n)
    first e = brings_before (next_brings s n a (new_name s n e)) (record { names = refl; tags = refl; count = refl })

-- ---- bodies
body_keeps : (n : ℕ) (xs : PartTrees) (s : Scope) → Leads (Keeps s) (BodyComes n xs s)
body_keeps n xs s t (bodies.given g) = keeps_both (parts keeps_kept g) (record { names = refl; tags = refl; count = refl })

-- ---- predicates
stands_keeps : (n : Name) (o : Option ℕ) (s : Scope) → Keeps s (stands_too s n o)
stands_keeps n None s = keeps_same s
stands_keeps n (Some k) s = keeps_again s k n.place.file

pub seen_keeps : (n : Name) (s : Scope) → Keeps s (seen_too s n)
seen_keeps n s = stands_keeps n (number_of s.names n.text) s

first_brings : (n : Name) (gs : List GhostParameter) (s : Scope) → IsBeside s → Comes (Brings (n.text ∷ []) [] s) (first_behind n gs s)
first_brings n gs s a =
    passed_comes (Brings (n.text ∷ []) [] s) (name_refusal s n) (behind with_predicate (parameters_behind [] gs (none_taken (with_next s n))))
    (λ e. behind_comes (TakenBehind (n.text ∷ []) s) (Brings (n.text ∷ []) [] s) with_predicate (parameters_behind [] gs (none_taken (with_next s n))) (taken_behind [] gs (with_next s n) (next_brings s n a (new_name s n e)))
    (λ k h. ok_comes (Brings (n.text ∷ []) [] s) (brings_before h (record { names = refl; tags = refl; count = refl }))))

again_keeps : (b : Bool) (n : Name) (gs : List GhostParameter) (k : ℕ) (s : Scope) → Comes (TakenFrom s) (again_behind b n gs k s)
again_keeps b n gs k s = unless_comes (TakenFrom s) (again_refusal b s n k) (parameters_behind [] gs (none_taken s)) (parameters_keep [] gs s)

if_some : (s : Scope) (o : Option ℕ) (k : ℕ) → if_predicate s o ≡ Some k → (j : ℕ) × (o ≡ Some j)
if_some s None k e = absurd (none_some e)
if_some s (Some j) k e = (j, refl)

is_again : (n : Name) (k : ℕ) (t : Taken) → Leads (Keeps t.scope) (IsAgain n k t)
is_again n k t u (predicates.agreed e) = seen_keeps n t.scope

head_brings : (b : Bool) (n : Name) (gs : List GhostParameter) (s : Scope) → IsBeside s → Leads (Brings (n.text ∷ []) [] s) (HeadComes b n gs s)
head_brings b n gs s a u (predicates.new e f) = first_brings n gs s a u f
head_brings b n gs s a u (predicates.again {k = k} e t) =
    let j = if_some s (ghost_number (declaration_of s n.text n.place.file)) k e in
    let there = numbered_there s n j.0 j.1 in
    let h : Keeps s u = then_leads (TakenFrom s) (Keeps s) (only_leads (TakenFrom s) (again_behind b n gs k s) (again_keeps b n gs k s)) (λ v i w g. keeps_both i (is_again n k v w g)) u t in
    brings_known n.text there.0 a there.1 h

pub predicate_brings : (n : Name) (gs : List GhostParameter) (s : Scope) → IsBeside s → Leads (Brings (n.text ∷ []) [] s) (PredicateComes n gs s)
predicate_brings n gs s a = then_brings (head_brings false n gs s a) (λ t. only_leads (Keeps t) (Ok (without_body (count s) (number_at s n) t)) (ok_comes (Keeps t) (record { names = refl; tags = refl; count = refl })))

pub predicate_body_brings : (n : Name) (gs : List GhostParameter) (xs : PartTrees) (s : Scope) → IsBeside s → Leads (Brings (n.text ∷ []) [] s) (PredicateBodyComes n gs xs s)
predicate_body_brings n gs xs s a = then_brings (head_brings true n gs s a) (λ t u g. keeps_both (record { names = refl; tags = refl; count = refl }) (body_keeps (count s) xs (with_ghost_body t (number_at s n)) u g))

-- ---- predicate constructors
pub constructor_item_brings : (n : Name) (fs gs : List GhostParameter) (xs : PartTrees) (s : Scope) → IsBeside s → Leads (Brings (n.text ∷ []) [] s) (ConstructorComes n fs gs xs s)
constructor_item_brings n fs gs xs s a = then_brings (only_leads (Brings (n.text ∷ []) [] s) (heads.constructor_behind n fs gs s) head) (λ t. body_keeps (count s) xs t)
  where
    second : (k : Taken) → TakenBehind (n.text ∷ []) s k → Comes (Brings (n.text ∷ []) [] s) (second_behind gs k)
    second k h =
        behind_comes (TakenBehind (n.text ∷ []) s) (Brings (n.text ∷ []) [] s) (with_predicate_constructor k.sorts) (parameters_behind [] gs (none_taken k.scope)) (taken_behind [] gs k.scope h)
        (λ l j. ok_comes (Brings (n.text ∷ []) [] s) (brings_before j (record { names = refl; tags = refl; count = refl })))

    head : Comes (Brings (n.text ∷ []) [] s) (heads.constructor_behind n fs gs s)
    head =
        passed_comes (Brings (n.text ∷ []) [] s) (name_refusal s n) (behind (second_behind gs) (parameters_behind [] fs (none_taken (with_next s n))))
        (λ e. behind_comes (TakenBehind (n.text ∷ []) s) (Brings (n.text ∷ []) [] s) (second_behind gs) (parameters_behind [] fs (none_taken (with_next s n))) (taken_behind [] fs (with_next s n) (next_brings s n a (new_name s n e))) (λ k h. second k h))

-- ---- bodies of families
some_family : (s : Scope) (o : Option ℕ) (k : ℕ) → if_family s o ≡ Some k → (j : ℕ) × (o ≡ Some j)
some_family s None k e = absurd (none_some e)
some_family s (Some j) k e = (j, refl)

is_instance : (f : Name) (k m : ℕ) (t : Taken) → Leads (Keeps t.scope) (IsInstance f k m t)
is_instance f k m t u (instances.agreed e) = record { names = refl; tags = refl; count = refl }

found_there : (f g : Name) (s : Scope) (k m : ℕ) → instances.AreFound f g s k m → (j : ℕ) × (number_of s.names f.text ≡ Some j)
found_there f g s k m (instances.found e h i) = let j = some_family s (ghost_number (declaration_of s f.text f.place.file)) k e in numbered_there s f j.0 j.1

pub instance_brings : (f g : Name) (gs : List GhostParameter) (xs : PartTrees) (s : Scope) → IsBeside s → Leads (Brings (f.text ∷ []) [] s) (InstanceComes f g gs xs s)
instance_brings f g gs xs s a u (instances.body {k = k} {m = m} r t) =
    let there = found_there f g s k m r in
    let h : Keeps s u = then_leads (Keeps s) (Keeps s) (then_leads (TakenFrom s) (Keeps s) (only_leads (TakenFrom s) (parameters_behind [] gs (none_taken s)) (parameters_keep [] gs s)) (λ v i w q. keeps_both i (is_instance f k m v w q))) (λ v i w q. keeps_both i (body_keeps (count s) xs v w q)) u t in
    brings_known f.text there.0 a there.1 h

-- ---- fixpoints
case_keeps : {c : Context} {t : Sort} {m : ℕ} {s s' : Scope} {k k' : Known} {x : FixpointCase} → values.CaseGives c t m s k x s' k' → Keeps s s'
case_keeps (values.a_case {s = s} {b = b} n v) = keeps_kept.gone (keeps_kept.named s b (binding.names n refl))

cases_keep : {c : Context} {t : Sort} {m : ℕ} {s s' : Scope} {k k' : Known} {xs : List FixpointCase} → values.CasesGive c t m s k xs s' k' → Keeps s s'
cases_keep (values.no_cases {s = s}) = keeps_same s
cases_keep (values.more_cases x xs) = keeps_both (case_keeps x) (cases_keep xs)

equations_keep : (m n : ℕ) (b : FixpointBody) (s : Scope) → Leads (Keeps s) (EquationsCome m n s b)
equations_keep m n b s u (fixpoints.value v) = record { names = refl; tags = refl; count = refl }
equations_keep m n b s u (fixpoints.cases w xs) = keeps_both (cases_keep xs) (record { names = refl; tags = refl; count = refl })

pub fixpoint_brings : (r : SortTree) (n : Name) (ns : List Name) (gs : List GhostParameter) (b : FixpointBody) (s : Scope) → IsBeside s → Leads (Brings (n.text ∷ []) [] s) (FixpointComes r n ns gs b s)
fixpoint_brings r n ns gs b s a = then_brings (only_leads (Brings (n.text ∷ []) [] s) (fixpoint_behind r n ns gs s) head) (λ t. equations_keep (count s) (length s.ghosts) b t)
  where
    of_sort : (ps : List (List ℕ)) (t : Sort) → Comes (Brings (n.text ∷ []) [] s) (named_fixpoint n gs s ps t)
    of_sort ps t =
        passed_comes (Brings (n.text ∷ []) [] s) (name_refusal s n) (behind (with_fixpoint (length ps) t) (parameters_behind ps gs (none_taken (with_next s n))))
        (λ e. behind_comes (TakenBehind (n.text ∷ []) s) (Brings (n.text ∷ []) [] s) (with_fixpoint (length ps) t) (parameters_behind ps gs (none_taken (with_next s n))) (taken_behind ps gs (with_next s n) (next_brings s n a (new_name s n e)))
        (λ k h. ok_comes (Brings (n.text ∷ []) [] s) (brings_before h (record { names = refl; tags = refl; count = refl }))))

    head : Comes (Brings (n.text ∷ []) [] s) (fixpoint_behind r n ns gs s)
    head =
        behind_comes Any (Brings (n.text ∷ []) [] s) (given_fixpoint r n gs s) (names.parameters_behind s ns []) (λ ps u. tt)
        (λ ps u. behind_comes Any (Brings (n.text ∷ []) [] s) (named_fixpoint n gs s ps) (written_sort s ps r) (λ t v. tt) (λ t v. of_sort ps t))
