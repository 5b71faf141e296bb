-- Ghost items but lemmas add to what is declared.
use Rattle.std.proofs.Common.{◌≡◌, refl, sym, subst, ◌∙◌, ap, ℕ, suc, ◌+◌, ◌≤◌, Bool, true, false, if◌then◌else◌, List, [], ◌∷◌, ◌++◌, length, length-append, drop, map, is_some, Option, Some, None, Ok, arith}
use Rattle.vf_base.specs.declared.refusal.Refusal.{Refusal}
use Rattle.vf_names.specs.Names.{number_of}
use Rattle.vf_sorts.specs.Sorts.{Sort}
use Rattle.vf_sorts.specs.Unknowns.{Known}
use Rattle.vf_declared.specs.declared.declaration.Datatype.{Datatype}
use Rattle.vf_declared.specs.declared.declaration.Fixpoint.{Fixpoint}
use Rattle.vf_declared.specs.declared.declaration.GhostDeclaration.TheVariants as ghosts
use Rattle.vf_declared.specs.declared.declaration.Meaning.{Meaning}
use Rattle.vf_declared.specs.declared.declaration.Meaning.TheVariants as meanings
use Rattle.vf_declared.specs.declared.locals.Locals.{Locals}
use Rattle.vf_declared.specs.declared.scope.Scope.{Scope}
use Rattle.vf_declared.specs.Beginning.{no_locals}
use Rattle.vf_declared.specs.Changes.{first_locals}
use Rattle.vf_declared.specs.Scopes.{declaration_of}
use Rattle.vf_declared.specs.Writing.{with_ghost, with_ghost_body}
use Rattle.vf_syntax.specs.declared.item.Constructor.{Constructor}
use Rattle.vf_syntax.specs.declared.item.FixpointBody.{FixpointBody}
use Rattle.vf_syntax.specs.declared.item.FixpointCase.{FixpointCase}
use Rattle.vf_syntax.specs.declared.item.GhostParameter.{GhostParameter}
use Rattle.vf_syntax.specs.declared.written.Name.{Name}
use Rattle.vf_syntax.specs.AssertionTree.{PartTrees}
use Rattle.vf_syntax.specs.SortTree.{SortTree}
use Rattle.vf_sorting.specs.declared.context.Context.{Context}
use Rattle.vf_sorting.specs.Spelling.{written_sort}
use Rattle.vf_binding.specs.Bound.{bound_local}
use Rattle.vf_asserting.specs.Cases.{ghost_number}
use Rattle.vf_asserting.specs.Leaving.{count}
use Rattle.vf_datatypes.specs.declared.stated.Stated.{Stated}
use Rattle.vf_datatypes.specs.declared.own.Own.{Own}
use Rattle.vf_datatypes.specs.Arguments.{sorts_within}
use Rattle.vf_datatypes.specs.Datatypes.{begun, body_behind, complete, constructor_behind, constructors_behind, datatype_behind, numbers_from, own, with_constructor, with_datatype, with_next}
use Rattle.vf_datatypes.specs.Inhabited.{is_inhabited}
use Rattle.vf_datatypes.specs.NewNames.{name_refusal, names_c}
use Rattle.vf_datatypes.specs.NewNames as names
use Rattle.vf_datatypes.specs.Walking.{behind}
use Rattle.vf_heads.specs.Heads.{behind_index, family_behind, fixpoint_behind, given_fixpoint, indexed, named_fixpoint, second_behind, with_family, with_fixpoint, with_predicate_constructor}
use Rattle.vf_heads.specs.Heads as heads
use Rattle.vf_heads.specs.Parameters.{Taken, named, none_taken, parameters_behind}
use Rattle.vf_predicates.specs.Bodies.{BodyComes}
use Rattle.vf_predicates.specs.Bodies as bodies
use Rattle.vf_predicates.specs.Earlier.{again_refusal, if_predicate}
use Rattle.vf_predicates.specs.Instances.{InstanceComes, IsInstance}
use Rattle.vf_predicates.specs.Instances as instances
use Rattle.vf_predicates.specs.Predicates.{ConstructorComes, HeadComes, IsAgain, PredicateBodyComes, PredicateComes, again_behind, first_behind, number_at, with_predicate, without_body}
use Rattle.vf_predicates.specs.Predicates as predicates
use Rattle.vf_equations.specs.Fixpoints.{EquationsCome, FixpointComes}
use Rattle.vf_equations.specs.Fixpoints as fixpoints
use Rattle.vf_equations.specs.Values as values
use Rattle.vf_erasure_laws.proofs.hidden.Binding as binding
use Rattle.vf_erasure_laws.proofs.hidden.Coming.{Comes, Leads, behind_comes, none_some, ok_comes, only_leads, then_leads, unless_comes}
use Rattle.vf_erasure_laws.proofs.hidden.Giving.{parts}
use Rattle.vf_fixpoint_laws.specs.definable.Files.{SeesThrough}
use Rattle.vf_fixpoint_laws.proofs.definable.Extending.{Grows, Keeps, core, grows_before, grows_behind, grows_both, grows_datatype, grows_ghost, grows_kept, grows_name, keeps_both, keeps_same, sees_kept}
use Rattle.vf_fixpoint_laws.proofs.definable.Parameters.{AreKnown, AreTaken, TakenFrom, named_keeps, parameters_keep, parameters_taken}
use Rattle.vf_fixpoint_laws.proofs.definable.Parts.{Any, Cleared, Ends, if_comes, keeps_kept, passed_comes, then_ends}
use Rattle.vf_fixpoint_laws.proofs.definable.Seeing.{bare}
use Rattle.vf_fixpoint_laws.proofs.definable.Seen.{IsSeen, declared_seen, seen_grows, seen_kept}

-- ---- locals that are gone
pub none_left : (s : Scope) → s.locals ≡ no_locals → (l : Locals) → first_locals l (count s) ≡ no_locals
none_left s e l = ap (λ (m : Locals). first_locals l (length m.names)) e

pub next_grows : (m : ℕ) (s : Scope) (n : Name) → Grows m s (with_next s n)
next_grows m s n = grows_name m s n.text (meanings.Ghost (length s.ghosts)) n.place.file

-- parameters behind what is added
abbrev pub TakenBehind : ℕ → Scope → Taken → Type 0
TakenBehind m s k = Grows m s k.scope

pub taken_behind : {m : ℕ} {s : Scope} (ps : List (List ℕ)) (gs : List GhostParameter) (t : Scope) → Grows m s t → Comes (TakenBehind m s) (parameters_behind ps gs (none_taken t))
taken_behind ps gs t h k e = grows_before h (parameters_keep ps gs t k e)

-- ---- families
pub family_ends : (m : ℕ) (n : Name) (i : GhostParameter) (gs : List GhostParameter) (s : Scope) → s.locals ≡ no_locals → Comes (Ends m s) (family_behind n i gs s)
family_ends m n i gs s a =
    unless_comes (Ends m s) (name_refusal s n) (behind (indexed i gs (with_next s n)) (written_sort (with_next s n) [] i.sort))
    (behind_comes Any (Ends m s) (indexed i gs (with_next s n)) (written_sort (with_next s n) [] i.sort) (λ t u. tt) (λ t u. of_sort t))
  where
    of_sort : (t : Sort) → Comes (Ends m s) (indexed i gs (with_next s n) t)
    of_sort t =
        behind_comes (TakenBehind m s) (Ends m s) (λ (k : Taken). behind_index (count s) t gs k.scope) (named i.name (none_taken (with_next s n)) t)
        (λ k f. grows_before (next_grows m s n) (named_keeps i.name (none_taken (with_next s n)) t k f))
        (λ k h. behind_comes (TakenBehind m s) (Ends m s) (with_family (count s) t) (parameters_behind [] gs (none_taken k.scope)) (taken_behind [] gs k.scope h)
        (λ l j. ok_comes (Ends m s) (record { grows = grows_both j (record { extends = (grows_ghost m l.scope (ghosts.Family (record { index = t; arguments = l.sorts })) tt).extends }); locals = none_left s a l.scope.locals })))

-- ---- datatypes
-- more is declared at file level, but no datatype is complete, and the locals are as before
record Adds (m : ℕ) (s t : Scope) : Type 0 where
  grows : Grows m s t
  locals : t.locals ≡ s.locals
  datatypes : t.datatypes ≡ s.datatypes

adds_both : {m : ℕ} {s t u : Scope} → Adds m s t → Adds m t u → Adds m s u
adds_both h k = record { grows = grows_both h.grows k.grows; locals = k.locals ∙ h.locals; datatypes = k.datatypes ∙ h.datatypes }

constructor_adds : (m : ℕ) (d : Stated) (o : Own) (c : Constructor) (t : Scope) → suc o.number ≤ m → Comes (Adds m t) (constructor_behind d o c t)
constructor_adds m d o c t a =
    unless_comes (Adds m t) (name_refusal t c.name) (behind (with_constructor o.number (with_next t c.name)) (sorts_within (with_next t c.name) d o c.arguments))
    (behind_comes Any (Adds m t) (with_constructor o.number (with_next t c.name)) (sorts_within (with_next t c.name) d o c.arguments) (λ ts u. tt)
    (λ ts u. ok_comes (Adds m t) (record { grows = grows_both (next_grows m t c.name) (grows_ghost m (with_next t c.name) (ghosts.Constructor (record { datatype = o.number; arguments = ts })) a); locals = refl; datatypes = refl })))

constructors_add : (m : ℕ) (d : Stated) (o : Own) (cs : List Constructor) (t : Scope) → suc o.number ≤ m → Comes (Adds m t) (constructors_behind d o cs t)
constructors_add m d o [] t a = ok_comes (Adds m t) (record { grows = grows_kept m (keeps_same t); locals = refl; datatypes = refl })
constructors_add m d o (c ∷ cs) t a =
    behind_comes (Adds m t) (Adds m t) (constructors_behind d o cs) (constructor_behind d o c t) (constructor_adds m d o c t a)
    (λ u h v e. adds_both h (constructors_add m d o cs u a v e))

-- a datatype is complete: its number is below that of the next
abbrev Completes : Scope → Scope → Type 0
Completes s t = Ends (length t.datatypes) s t

one_longer : {A : Type 0} (xs ys : List A) (y : A) → ys ≡ xs → suc (length xs) ≡ length (ys ++ y ∷ [])
one_longer xs ys y e = let h = length-append ys (y ∷ []) in let k : length ys ≡ length xs = ap length e in let p : length (ys ++ y ∷ []) ≡ length ys + 1 = h in omega (arith, k, p)

complete_ends : (s : Scope) → s.locals ≡ no_locals → (o : Own) (first : ℕ) (t : Scope) → Adds (suc (length s.datatypes)) s t → Comes (Completes s) (complete o first t)
complete_ends s a o first t h =
    let d : Datatype = record { parameters = length o.parameters; constructors = numbers_from first (drop first t.ghosts) } in
    if_comes (Completes s) (is_inhabited (with_datatype t o first) o.number) _ _
    (λ e. subst (λ m. Ends m s (record t { datatypes = t.datatypes ++ d ∷ [] })) (one_longer s.datatypes t.datatypes d h.datatypes) (record { grows = grows_both h.grows (grows_datatype (suc (length s.datatypes)) t d); locals = h.locals ∙ a }))

body_ends : (s : Scope) → s.locals ≡ no_locals → (d : Stated) (cs : List Constructor) (t : Scope) (o : Own) → Adds (suc (length s.datatypes)) s t → suc o.number ≤ suc (length s.datatypes) → Comes (Completes s) (body_behind d cs t o)
body_ends s a d cs t o h l =
    behind_comes (Adds (suc (length s.datatypes)) t) (Completes s) (complete o (length t.ghosts)) (constructors_behind d o cs t) (constructors_add (suc (length s.datatypes)) d o cs t l)
    (λ u k. complete_ends s a o (length t.ghosts) u (adds_both h k))

pub datatype_ends : (d : Stated) (n : Name) (ns : List Name) (cs : List Constructor) (s : Scope) → s.locals ≡ no_locals → Comes (Completes s) (datatype_behind d n ns cs s)
datatype_ends d n ns cs s a =
    unless_comes (Completes s) (name_refusal s n) (behind (λ (ps : List (List ℕ)). body_behind d cs (begun s n) (own s n ps)) (names.parameters_behind (begun s n) ns []))
    (behind_comes Any (Completes s) (λ (ps : List (List ℕ)). body_behind d cs (begun s n) (own s n ps)) (names.parameters_behind (begun s n) ns []) (λ ps u. tt)
    (λ ps u. body_ends s a d cs (begun s n) (own s n ps) first (itself (suc (length s.datatypes)))))
  where
    itself : (m : ℕ) → m ≤ m
    itself m = omega arith

    first : Adds (suc (length s.datatypes)) s (begun s n)
    first = record { grows = grows_both (next_grows (suc (length s.datatypes)) s n) (grows_ghost (suc (length s.datatypes)) (with_next s n) (ghosts.Datatype (length s.datatypes)) (itself (suc (length s.datatypes)))); locals = refl; datatypes = refl }

-- ---- bodies
body_clears : (s : Scope) → s.locals ≡ no_locals → (xs : PartTrees) (t : Scope) → Leads (Cleared t) (BodyComes (count s) xs t)
body_clears s a xs t u (bodies.given {s' = v} g) = record { keeps = keeps_both (parts keeps_kept g) (record { same = refl }); locals = none_left s a v.locals }

-- ---- predicates
first_grows : (m : ℕ) (n : Name) (gs : List GhostParameter) (s : Scope) → Comes (Grows m s) (first_behind n gs s)
first_grows m n gs s =
    unless_comes (Grows m s) (name_refusal s n) (behind with_predicate (parameters_behind [] gs (none_taken (with_next s n))))
    (behind_comes (TakenBehind m s) (Grows m s) with_predicate (parameters_behind [] gs (none_taken (with_next s n))) (taken_behind [] gs (with_next s n) (next_grows m s n))
    (λ k h. ok_comes (Grows m s) (grows_both h (grows_ghost m k.scope (ghosts.Predicate k.sorts) tt))))

again_keeps : (b : Bool) (n : Name) (gs : List GhostParameter) (k : ℕ) (s : Scope) → Comes (TakenFrom s) (again_behind b n gs k s)
again_keeps b n gs k s = unless_comes (TakenFrom s) (again_refusal b s n k) (parameters_behind [] gs (none_taken s)) (parameters_keep [] gs s)

ghost_seen : (s : Scope) (n : Name) (o : Option Meaning) (k : ℕ) → declaration_of s n.text n.place.file ≡ o → if_predicate s (ghost_number o) ≡ Some k → IsSeen (core s) n.text n.place.file
ghost_seen s n None k e f = absurd (none_some f)
ghost_seen s n (Some m) k e f = declared_seen s n.text n.place.file m e

is_again : (m : ℕ) (n : Name) (k : ℕ) (s : Scope) (t : Taken) → SeesThrough s → IsSeen (core s) n.text n.place.file → TakenFrom s t → Leads (Grows m s) (IsAgain n k t)
is_again m n k s t v h i u (predicates.agreed e) = grows_behind i (seen_grows m t.scope (sees_kept (grows_kept m i) v) n (seen_kept i n.text n.place.file h))

head_grows : (m : ℕ) (b : Bool) (n : Name) (gs : List GhostParameter) (s : Scope) → SeesThrough s → Leads (Grows m s) (HeadComes b n gs s)
head_grows m b n gs s v u (predicates.new e f) = first_grows m n gs s u f
head_grows m b n gs s v u (predicates.again {k = k} e t) =
    let h = ghost_seen s n (declaration_of s n.text n.place.file) k refl e in
    then_leads (TakenFrom s) (Grows m s) (only_leads (TakenFrom s) (again_behind b n gs k s) (again_keeps b n gs k s)) (λ w i. is_again m n k s w v h i) u t

pub predicate_ends : (m : ℕ) (n : Name) (gs : List GhostParameter) (s : Scope) → SeesThrough s → s.locals ≡ no_locals → Leads (Ends m s) (PredicateComes n gs s)
predicate_ends m n gs s v a = then_ends (head_grows m false n gs s v) (λ t. only_leads (Cleared t) (Ok (without_body (count s) (number_at s n) t)) (ok_comes (Cleared t) (record { keeps = record { same = refl }; locals = none_left s a t.locals })))

pub predicate_body_ends : (m : ℕ) (n : Name) (gs : List GhostParameter) (xs : PartTrees) (s : Scope) → SeesThrough s → s.locals ≡ no_locals → Leads (Ends m s) (PredicateBodyComes n gs xs s)
predicate_body_ends m n gs xs s v a = then_ends (head_grows m true n gs s v) (λ t u g. let r = body_clears s a xs (with_ghost_body t (number_at s n)) u g in record { keeps = record { same = r.keeps.same }; locals = r.locals })

-- ---- predicate constructors
pub constructor_item_ends : (m : ℕ) (n : Name) (fs gs : List GhostParameter) (xs : PartTrees) (s : Scope) → s.locals ≡ no_locals → Leads (Ends m s) (ConstructorComes n fs gs xs s)
constructor_item_ends m n fs gs xs s a = then_ends (only_leads (Grows m s) (heads.constructor_behind n fs gs s) head) (λ t. body_clears s a xs t)
  where
    second : (k : Taken) → TakenBehind m s k → Comes (Grows m s) (second_behind gs k)
    second k h =
        behind_comes (TakenBehind m s) (Grows m s) (with_predicate_constructor k.sorts) (parameters_behind [] gs (none_taken k.scope)) (taken_behind [] gs k.scope h)
        (λ l j. ok_comes (Grows m s) (grows_both j (grows_ghost m l.scope (ghosts.PredicateConstructor (record { first = k.sorts; second = l.sorts })) tt)))

    head : Comes (Grows m s) (heads.constructor_behind n fs gs s)
    head =
        unless_comes (Grows m s) (name_refusal s n) (behind (second_behind gs) (parameters_behind [] fs (none_taken (with_next s n))))
        (behind_comes (TakenBehind m s) (Grows m s) (second_behind gs) (parameters_behind [] fs (none_taken (with_next s n))) (taken_behind [] fs (with_next s n) (next_grows m s n)) (λ k h. second k h))

-- ---- bodies of families
is_instance : (f : Name) (k m : ℕ) (t : Taken) → Leads (Keeps t.scope) (IsInstance f k m t)
is_instance f k m t u (instances.agreed e) = record { same = refl }

pub instance_ends : (m : ℕ) (f g : Name) (gs : List GhostParameter) (xs : PartTrees) (s : Scope) → s.locals ≡ no_locals → Leads (Ends m s) (InstanceComes f g gs xs s)
instance_ends m f g gs xs s a u (instances.body {k = k} {m = n} r t) =
    then_leads (Keeps s) (Ends m s) (then_leads (TakenFrom s) (Keeps s) (only_leads (TakenFrom s) (parameters_behind [] gs (none_taken s)) (parameters_keep [] gs s)) (λ v i w q. keeps_both i (is_instance f k n v w q))) (λ v i w q. let c = body_clears s a xs v w q in record { grows = grows_kept m (keeps_both i c.keeps); locals = c.locals }) u t

-- ---- fixpoints
case_keeps : {c : Context} {t : Sort} {m : ℕ} {s s' : Scope} {k k' : Known} {x : FixpointCase} → values.CaseGives c t m s k x s' k' → Keeps s s'
case_keeps (values.a_case {s = s} {b = b} n v) = keeps_kept.gone (keeps_kept.named s b (binding.names n refl))

cases_keep : {c : Context} {t : Sort} {m : ℕ} {s s' : Scope} {k k' : Known} {xs : List FixpointCase} → values.CasesGive c t m s k xs s' k' → Keeps s s'
cases_keep (values.no_cases {s = s}) = keeps_same s
cases_keep (values.more_cases x xs) = keeps_both (case_keeps x) (cases_keep xs)

pub equations_clear : (s : Scope) → s.locals ≡ no_locals → (n : ℕ) (b : FixpointBody) (t : Scope) → Leads (Cleared t) (EquationsCome (count s) n t b)
equations_clear s a n b t u (fixpoints.value v) = record { keeps = record { same = refl }; locals = none_left s a t.locals }
equations_clear s a n b t u (fixpoints.cases {s' = v} w xs) = record { keeps = keeps_both (cases_keep xs) (record { same = refl }); locals = none_left s a v.locals }

-- a fixpoint stands in front of its body: its name is new and has the next number, and its parameters are locals
pub record IsHead (n : Name) (gs : List GhostParameter) (s t : Scope) : Type 0 where
  pub fixpoint : Fixpoint
  pub new : number_of s.names n.text ≡ None
  pub is : core t ≡ record { frame = bare s; names = s.names ++ n.text ∷ []; declarations = s.declarations ++ (record { meaning = meanings.Ghost (length s.ghosts); files = n.place.file ∷ [] }) ∷ []; ghosts = s.ghosts ++ ghosts.Fixpoint fixpoint ∷ []; datatypes = s.datatypes }
  pub locals : t.locals.names ≡ s.locals.names ++ map (λ (g : GhostParameter). g.name.text) gs
  pub sorts : t.locals.meanings ≡ s.locals.meanings ++ map bound_local fixpoint.arguments
  pub as_many : length gs ≡ length fixpoint.arguments
  pub known : AreKnown s.ghosts fixpoint.arguments
  pub grows : (m : ℕ) → Grows m s t

neither : (b : Bool) (o : Option ℕ) (x y : Refusal) → ◌≡◌ {A = Option Refusal} (if b then Some x else (if is_some o then Some y else None)) None → o ≡ None
neither true o x y e = absurd (none_some (sym e))
neither false None x y e = refl
neither false (Some k) x y e = absurd (none_some (sym e))

new_name : (s : Scope) (n : Name) → name_refusal s n ≡ None → number_of s.names n.text ≡ None
new_name s n e = neither (names_c s n.text n.place.file) (number_of s.names n.text) _ _ e

head_of : (n : Name) (gs : List GhostParameter) (s : Scope) (m : ℕ) (t : Sort) (k : Taken) → name_refusal s n ≡ None → AreTaken gs (none_taken (with_next s n)) k → IsHead n gs s (with_ghost k.scope (ghosts.Fixpoint (record { parameters = m; arguments = k.sorts; «result» = t })))
head_of n gs s m t k e h =
    let f : Fixpoint = record { parameters = m; arguments = k.sorts; «result» = t } in
    record {
      fixpoint = f;
      new = new_name s n e;
      is = λ i. record { frame = (h.keeps.same i).frame; names = (h.keeps.same i).names; declarations = (h.keeps.same i).declarations; ghosts = (h.keeps.same i).ghosts ++ ghosts.Fixpoint f ∷ []; datatypes = (h.keeps.same i).datatypes };
      locals = h.names;
      sorts = h.meanings ∙ ap (λ ts. s.locals.meanings ++ map bound_local ts) (sym h.sorts);
      as_many = h.as_many ∙ ap length (sym h.sorts);
      known = subst (AreKnown s.ghosts) (sym h.sorts) h.known;
      grows = λ m. grows_both (grows_before (next_grows m s n) h.keeps) (grows_ghost m k.scope (ghosts.Fixpoint f) tt);
    }

pub fixpoint_head : (r : SortTree) (n : Name) (ns : List Name) (gs : List GhostParameter) (s : Scope) → Comes (IsHead n gs s) (fixpoint_behind r n ns gs s)
fixpoint_head r n ns gs s =
    behind_comes Any (IsHead n gs s) (given_fixpoint r n gs s) (names.parameters_behind s ns []) (λ ps u. tt)
    (λ ps u. behind_comes Any (IsHead n gs s) (named_fixpoint n gs s ps) (written_sort s ps r) (λ t v. tt) (λ t v. of_sort ps t))
  where
    of_sort : (ps : List (List ℕ)) (t : Sort) → Comes (IsHead n gs s) (named_fixpoint n gs s ps t)
    of_sort ps t =
        passed_comes (IsHead n gs s) (name_refusal s n) (behind (with_fixpoint (length ps) t) (parameters_behind ps gs (none_taken (with_next s n))))
        (λ e. behind_comes (AreTaken gs (none_taken (with_next s n))) (IsHead n gs s) (with_fixpoint (length ps) t) (parameters_behind ps gs (none_taken (with_next s n))) (parameters_taken ps gs (none_taken (with_next s n)))
        (λ k h. ok_comes (IsHead n gs s) (head_of n gs s (length ps) t k e h)))

pub fixpoint_ends : (m : ℕ) (r : SortTree) (n : Name) (ns : List Name) (gs : List GhostParameter) (b : FixpointBody) (s : Scope) → s.locals ≡ no_locals → Leads (Ends m s) (FixpointComes r n ns gs b s)
fixpoint_ends m r n ns gs b s a = then_ends (only_leads (Grows m s) (fixpoint_behind r n ns gs s) (λ t e. (fixpoint_head r n ns gs s t e).grows m)) (λ t. equations_clear s a (length s.ghosts) b t)
