-- What ghost items but lemmas declare at file level.
use Rattle.std.proofs.Common.{◌≡◌, refl, sym, subst, ◌∙◌, ℕ, Bool, true, false, if◌then◌else◌, List, [], ◌∷◌, ◌++◌, length, drop, is_some, Option, Some, None, Ok}
use Rattle.vf_base.specs.declared.refusal.Refusal.{Refusal}
use Rattle.vf_names.specs.Names.{number_of}
use Rattle.vf_sorts.specs.Sorts.{Sort}
use Rattle.vf_sorts.specs.Unknowns.{IsBelow, Known}
use Rattle.vf_declared.specs.declared.declaration.Constructor.{Constructor}
use Rattle.vf_declared.specs.declared.declaration.Datatype.{Datatype}
use Rattle.vf_declared.specs.declared.declaration.Fixpoint.{Fixpoint}
use Rattle.vf_declared.specs.declared.declaration.GhostDeclaration.TheVariants as ghosts
use Rattle.vf_declared.specs.declared.locals.Locals.{Locals}
use Rattle.vf_declared.specs.declared.scope.Scope.{Scope}
use Rattle.vf_declared.specs.Writing.{with_ghost_body}
use Rattle.vf_syntax.specs.declared.item.Constructor.{Constructor as Written}
use Rattle.vf_syntax.specs.declared.item.FixpointBody.{FixpointBody}
use Rattle.vf_syntax.specs.declared.item.FixpointCase.{FixpointCase}
use Rattle.vf_syntax.specs.declared.item.GhostParameter.{GhostParameter}
use Rattle.vf_syntax.specs.declared.written.Name.{Name}
use Rattle.vf_syntax.specs.AssertionTree.{PartTrees}
use Rattle.vf_syntax.specs.SortTree.{SortTree}
use Rattle.vf_sorting.specs.declared.context.Context.{Context}
use Rattle.vf_sorting.specs.Spelling.{written_sort}
use Rattle.vf_asserting.specs.Leaving.{count}
use Rattle.vf_datatypes.specs.declared.stated.Stated.{Stated}
use Rattle.vf_datatypes.specs.declared.own.Own.{Own}
use Rattle.vf_datatypes.specs.Arguments.{sorts_within}
use Rattle.vf_datatypes.specs.Datatypes.{begun, body_behind, complete, constructor_behind, constructors_behind, datatype_behind, numbers_from, own, with_constructor, with_datatype, with_next}
use Rattle.vf_datatypes.specs.Inhabited.{is_inhabited}
use Rattle.vf_datatypes.specs.NewNames.{name_refusal, names_c}
use Rattle.vf_datatypes.specs.NewNames as names
use Rattle.vf_datatypes.specs.Walking.{behind}
use Rattle.vf_heads.specs.Heads.{behind_index, family_behind, fixpoint_behind, given_fixpoint, indexed, named_fixpoint, second_behind, with_family, with_fixpoint, with_predicate_constructor}
use Rattle.vf_heads.specs.Heads as heads
use Rattle.vf_heads.specs.Parameters.{Taken, named, none_taken, parameters_behind}
use Rattle.vf_commands.proofs.Locals.{written_below}
use Rattle.vf_predicates.specs.Bodies.{BodyComes}
use Rattle.vf_predicates.specs.Bodies as bodies
use Rattle.vf_predicates.specs.Earlier.{again_refusal, earlier}
use Rattle.vf_predicates.specs.Instances.{InstanceComes, IsInstance}
use Rattle.vf_predicates.specs.Instances as instances
use Rattle.vf_predicates.specs.Predicates.{ConstructorComes, HeadComes, IsAgain, PredicateBodyComes, PredicateComes, again_behind, first_behind, number_at, with_predicate, without_body}
use Rattle.vf_predicates.specs.Predicates as predicates
use Rattle.vf_equations.specs.Fixpoints.{EquationsCome, FixpointComes}
use Rattle.vf_equations.specs.Fixpoints as fixpoints
use Rattle.vf_equations.specs.Values as values
use Rattle.vf_erasure_laws.proofs.hidden.Binding as binding
use Rattle.vf_erasure_laws.proofs.hidden.Coming.{Comes, Leads, behind_comes, none_some, ok_comes, only_leads, then_leads, unless_comes}
use Rattle.vf_erasure_laws.proofs.hidden.Giving.{parts}
use Rattle.vf_fixpoint_laws.proofs.definable.Extending.{Core, Keeps, core, keeps_both, keeps_same}
use Rattle.vf_fixpoint_laws.proofs.definable.Parameters.{TakenFrom, named_keeps, parameters_keep}
use Rattle.vf_fixpoint_laws.proofs.definable.Parts.{Any, if_comes, keeps_kept, passed_comes}
use Rattle.vf_fixpoint_laws.proofs.definable.Seeing.{with_locals}
use Rattle.vf_fixpoint_laws.specs.bodies.Closed.{Each, IsClosed}
use Rattle.vf_fixpoint_laws.proofs.well_declared.Cores.{New, NewFrom, OthersFrom, PlainFrom, new_before, new_behind, others_ghost, plain_before, plain_behind, then_others}
use Rattle.vf_fixpoint_laws.proofs.well_declared.Lemmas.{seen_plain}
use Rattle.vf_fixpoint_laws.proofs.well_declared.Written.{EachBeside, IsCounted, Taking, beside_each, beside_long, counted, parameters_taken, within_closed}

-- ---- names that are new
neither : (b : Bool) (o : Option ℕ) (x y : Refusal) → ◌≡◌ {A = Option Refusal} (if b then Some x else (if is_some o then Some y else None)) None → o ≡ None
neither true o x y e = absurd (none_some (sym e))
neither false None x y e = refl
neither false (Some k) x y e = absurd (none_some (sym e))

new_name : (s : Scope) (n : Name) → name_refusal s n ≡ None → number_of s.names n.text ≡ None
new_name s n e = neither (names_c s n.text n.place.file) (number_of s.names n.text) _ _ e

-- ---- families
pub family_others : (n : Name) (i : GhostParameter) (gs : List GhostParameter) (s : Scope) → Comes (OthersFrom s) (family_behind n i gs s)
family_others n i gs s =
    passed_comes (OthersFrom s) (name_refusal s n) (behind (indexed i gs (with_next s n)) (written_sort (with_next s n) [] i.sort))
    (λ e. behind_comes Any (OthersFrom s) (indexed i gs (with_next s n)) (written_sort (with_next s n) [] i.sort) (λ t u. tt) (λ t u. of_sort (new_name s n e) t))
  where
    of_sort : number_of s.names n.text ≡ None → (t : Sort) → Comes (OthersFrom s) (indexed i gs (with_next s n) t)
    of_sort a t =
        behind_comes (TakenFrom (with_next s n)) (OthersFrom s) (λ (k : Taken). behind_index (count s) t gs k.scope) (named i.name (none_taken (with_next s n)) t)
        (named_keeps i.name (none_taken (with_next s n)) t)
        (λ k h. behind_comes (TakenFrom k.scope) (OthersFrom s) (with_family (count s) t) (parameters_behind [] gs (none_taken k.scope)) (parameters_keep [] gs k.scope)
        (λ l j. ok_comes (OthersFrom s) (others_ghost n (ghosts.Family (record { index = t; arguments = l.sorts })) tt (new_behind s n (ghosts.Family (record { index = t; arguments = l.sorts })) _ a (keeps_both h j) refl))))

-- ---- datatypes
-- constructors of the datatype with a number were declared, one after the other: no type parameters stand in their arguments but those with numbers below a count, and no unknown sorts
pub data Constructs (d m : ℕ) : Core → Core → Type 0 where
  no_more : {c e : Core} → e ≡ c → Constructs d m c e
  one_more : {c e f : Core} (n : Name) (k : Constructor) → k.datatype ≡ d → Each (IsClosed m) k.arguments → New n (ghosts.Constructor k) c e → Constructs d m e f → Constructs d m c f

abbrev OneFrom : ℕ → ℕ → Scope → Scope → Type 0
OneFrom d m s t = (n : Name) × (k : Constructor) × (k.datatype ≡ d) × Each (IsClosed m) k.arguments × NewFrom n (ghosts.Constructor k) s t

abbrev ConstructsFrom : ℕ → ℕ → Scope → Scope → Type 0
ConstructsFrom d m s t = Constructs d m (core s) (core t)

constructor_new : (d : Stated) (o : Own) (c : Written) (t : Scope) → Comes (OneFrom o.number (length o.parameters) t) (constructor_behind d o c t)
constructor_new d o c t =
    passed_comes (OneFrom o.number (length o.parameters) t) (name_refusal t c.name) (behind (with_constructor o.number (with_next t c.name)) (sorts_within (with_next t c.name) d o c.arguments))
    (λ e. behind_comes (Each (IsClosed (length o.parameters))) (OneFrom o.number (length o.parameters) t) (with_constructor o.number (with_next t c.name)) (sorts_within (with_next t c.name) d o c.arguments) (within_closed (with_next t c.name) d o c.arguments)
    (λ ts h. ok_comes (OneFrom o.number (length o.parameters) t) (c.name, record { datatype = o.number; arguments = ts }, refl, h, new_behind t c.name (ghosts.Constructor (record { datatype = o.number; arguments = ts })) _ (new_name t c.name e) (keeps_same (with_next t c.name)) refl)))

constructors_new : (d : Stated) (o : Own) (cs : List Written) (t : Scope) → Comes (ConstructsFrom o.number (length o.parameters) t) (constructors_behind d o cs t)
constructors_new d o [] t = ok_comes (ConstructsFrom o.number (length o.parameters) t) (no_more refl)
constructors_new d o (c ∷ cs) t =
    behind_comes (OneFrom o.number (length o.parameters) t) (ConstructsFrom o.number (length o.parameters) t) (constructors_behind d o cs) (constructor_behind d o c t) (constructor_new d o c t)
    (λ u h v e. one_more h.0 h.1 h.2 h.3 h.4.is (constructors_new d o cs u v e))

-- a datatype was declared: its name, its constructors, and then it is complete
pub record IsDatatype (n : Name) (ns : List Name) (c e : Core) : Type 0 where
  pub begun : Core
  pub built : Core
  pub datatype : Datatype
  pub named : New n (ghosts.Datatype (length c.datatypes)) c begun
  pub constructs : Constructs (length c.datatypes) (length ns) begun built
  pub counted : datatype.parameters ≡ length ns
  pub is : e ≡ record built { datatypes = built.datatypes ++ datatype ∷ [] }

-- it is complete behind its constructors
record Completes (m : ℕ) (t u : Scope) : Type 0 where
  datatype : Datatype
  counted : datatype.parameters ≡ m
  is : core u ≡ record (core t) { datatypes = t.datatypes ++ datatype ∷ [] }

complete_is : (o : Own) (first : ℕ) (t : Scope) → Comes (Completes (length o.parameters) t) (complete o first t)
complete_is o first t = if_comes (Completes (length o.parameters) t) (is_inhabited (with_datatype t o first) o.number) _ _ (λ e. record { datatype = record { parameters = length o.parameters; constructors = numbers_from first (drop first t.ghosts) }; counted = refl; is = refl })

record Builds (d m : ℕ) (t u : Scope) : Type 0 where
  built : Scope
  constructs : ConstructsFrom d m t built
  completes : Completes m built u

body_builds : (d : Stated) (cs : List Written) (t : Scope) (o : Own) → Comes (Builds o.number (length o.parameters) t) (body_behind d cs t o)
body_builds d cs t o =
    behind_comes (ConstructsFrom o.number (length o.parameters) t) (Builds o.number (length o.parameters) t) (complete o (length t.ghosts)) (constructors_behind d o cs t) (constructors_new d o cs t)
    (λ u h v e. record { built = u; constructs = h; completes = complete_is o (length t.ghosts) u v e })

abbrev pub DatatypeFrom : Name → List Name → Scope → Scope → Type 0
DatatypeFrom n ns s t = IsDatatype n ns (core s) (core t)

pub datatype_is : (d : Stated) (n : Name) (ns : List Name) (cs : List Written) (s : Scope) → Comes (DatatypeFrom n ns s) (datatype_behind d n ns cs s)
datatype_is d n ns cs s =
    passed_comes (DatatypeFrom n ns s) (name_refusal s n) (behind (λ (ps : List (List ℕ)). body_behind d cs (begun s n) (own s n ps)) (names.parameters_behind (begun s n) ns []))
    (λ e. behind_comes (IsCounted ns) (DatatypeFrom n ns s) (λ (ps : List (List ℕ)). body_behind d cs (begun s n) (own s n ps)) (names.parameters_behind (begun s n) ns []) (counted (begun s n) ns)
    (λ ps a t f. whole (new_name s n e) ps a t (body_builds d cs (begun s n) (own s n ps) t f)))
  where
    whole : number_of s.names n.text ≡ None → (ps : List (List ℕ)) → IsCounted ns ps → (t : Scope) → Builds (length s.datatypes) (length ps) (begun s n) t → DatatypeFrom n ns s t
    whole a ps l t b = record {
      begun = core (begun s n);
      built = core b.built;
      datatype = b.completes.datatype;
      named = (new_behind s n (ghosts.Datatype (length s.datatypes)) (begun s n) a (keeps_same (with_next s n)) refl).is;
      constructs = subst (λ m. ConstructsFrom (length s.datatypes) m (begun s n) b.built) l b.constructs;
      counted = b.completes.counted ∙ l;
      is = b.completes.is;
    }

-- ---- bodies
body_keeps : (n : ℕ) (xs : PartTrees) (s : Scope) → Leads (Keeps s) (BodyComes n xs s)
body_keeps n xs s t (bodies.given g) = keeps_both (parts keeps_kept g) (record { same = refl })

-- ---- predicates
-- a predicate was declared: for the first time, over the sorts that are written of its parameters, or once more
pub data IsPredicate (Q : GhostParameter → Sort → Type 0) (n : Name) (gs : List GhostParameter) (s t : Scope) : Type 0 where
  first : (ts : List Sort) → EachBeside Q gs ts → NewFrom n (ghosts.Predicate ts) s t → IsPredicate Q n gs s t
  again : (k : ℕ) → earlier s n ≡ Some k → PlainFrom s t → IsPredicate Q n gs s t

predicate_before : {Q : GhostParameter → Sort → Type 0} {n : Name} {gs : List GhostParameter} {s t u : Scope} → IsPredicate Q n gs s t → Keeps t u → IsPredicate Q n gs s u
predicate_before (first ts h a) k = first ts h (new_before a k)
predicate_before (again j e h) k = again j e (plain_before h k)

-- the sorts that are written of parameters where the name of a predicate is new
abbrev pub WritesIn : Scope → Name → GhostParameter → Sort → Type 0
WritesIn s n g t = (l : Locals) × (written_sort (with_locals (with_next s n) l) [] g.sort ≡ Ok t)

abbrev pub PredicateFrom : Name → List GhostParameter → Scope → Scope → Type 0
PredicateFrom n gs s t = IsPredicate (WritesIn s n) n gs s t

first_is : (n : Name) (gs : List GhostParameter) (s : Scope) → Comes (PredicateFrom n gs s) (first_behind n gs s)
first_is n gs s =
    passed_comes (PredicateFrom n gs s) (name_refusal s n) (behind with_predicate (parameters_behind [] gs (none_taken (with_next s n))))
    (λ e. behind_comes (Taking (WritesIn s n) (with_next s n) gs) (PredicateFrom n gs s) with_predicate (parameters_behind [] gs (none_taken (with_next s n))) (parameters_taken (WritesIn s n) [] (with_next s n) (λ g l t f. (l, f)) gs)
    (λ k h. ok_comes (PredicateFrom n gs s) (first k.sorts h.each (new_behind s n (ghosts.Predicate k.sorts) _ (new_name s n e) h.keeps refl))))

again_keeps : (b : Bool) (n : Name) (gs : List GhostParameter) (k : ℕ) (s : Scope) → Comes (TakenFrom s) (again_behind b n gs k s)
again_keeps b n gs k s = unless_comes (TakenFrom s) (again_refusal b s n k) (parameters_behind [] gs (none_taken s)) (parameters_keep [] gs s)

is_again : (n : Name) (k : ℕ) (t : Taken) → Leads (PlainFrom t.scope) (IsAgain n k t)
is_again n k t u (predicates.agreed e) = seen_plain n t.scope

head_is : (b : Bool) (n : Name) (gs : List GhostParameter) (s : Scope) → Leads (PredicateFrom n gs s) (HeadComes b n gs s)
head_is b n gs s u (predicates.new e f) = first_is n gs s u f
head_is b n gs s u (predicates.again {k = k} e t) = again k e (then_leads (TakenFrom s) (PlainFrom s) (only_leads (TakenFrom s) (again_behind b n gs k s) (again_keeps b n gs k s)) (λ v i w g. plain_behind i (is_again n k v w g)) u t)

pub predicate_is : (n : Name) (gs : List GhostParameter) (s : Scope) → Leads (PredicateFrom n gs s) (PredicateComes n gs s)
predicate_is n gs s = then_leads (PredicateFrom n gs s) (PredicateFrom n gs s) (head_is false n gs s) (λ t h. only_leads (PredicateFrom n gs s) (Ok (without_body (count s) (number_at s n) t)) (ok_comes (PredicateFrom n gs s) (predicate_before h (record { same = refl }))))

pub predicate_body_is : (n : Name) (gs : List GhostParameter) (xs : PartTrees) (s : Scope) → Leads (PredicateFrom n gs s) (PredicateBodyComes n gs xs s)
predicate_body_is n gs xs s = then_leads (PredicateFrom n gs s) (PredicateFrom n gs s) (head_is true n gs s) (λ t h u g. predicate_before h (record { same = (body_keeps (count s) xs (with_ghost_body t (number_at s n)) u g).same }))

-- ---- predicate constructors
pub constructor_others : (n : Name) (fs gs : List GhostParameter) (xs : PartTrees) (s : Scope) → Leads (OthersFrom s) (ConstructorComes n fs gs xs s)
constructor_others n fs gs xs s = then_others (only_leads (OthersFrom s) (heads.constructor_behind n fs gs s) head) (λ t. body_keeps (count s) xs t)
  where
    second : number_of s.names n.text ≡ None → (k : Taken) → TakenFrom (with_next s n) k → Comes (OthersFrom s) (second_behind gs k)
    second a k h =
        behind_comes (TakenFrom k.scope) (OthersFrom s) (with_predicate_constructor k.sorts) (parameters_behind [] gs (none_taken k.scope)) (parameters_keep [] gs k.scope)
        (λ l j. ok_comes (OthersFrom s) (others_ghost n (ghosts.PredicateConstructor (record { first = k.sorts; second = l.sorts })) tt (new_behind s n (ghosts.PredicateConstructor (record { first = k.sorts; second = l.sorts })) _ a (keeps_both h j) refl)))

    head : Comes (OthersFrom s) (heads.constructor_behind n fs gs s)
    head =
        passed_comes (OthersFrom s) (name_refusal s n) (behind (second_behind gs) (parameters_behind [] fs (none_taken (with_next s n))))
        (λ e. behind_comes (TakenFrom (with_next s n)) (OthersFrom s) (second_behind gs) (parameters_behind [] fs (none_taken (with_next s n))) (parameters_keep [] fs (with_next s n)) (λ k h. second (new_name s n e) k h))

-- ---- bodies of families
is_instance : (f : Name) (k m : ℕ) (t : Taken) → Leads (Keeps t.scope) (IsInstance f k m t)
is_instance f k m t u (instances.agreed e) = record { same = refl }

pub instance_keeps : (f g : Name) (gs : List GhostParameter) (xs : PartTrees) (s : Scope) → Leads (Keeps s) (InstanceComes f g gs xs s)
instance_keeps f g gs xs s u (instances.body {k = k} {m = m} r t) =
    then_leads (Keeps s) (Keeps s) (then_leads (TakenFrom s) (Keeps s) (only_leads (TakenFrom s) (parameters_behind [] gs (none_taken s)) (parameters_keep [] gs s)) (λ v i w q. keeps_both i (is_instance f k m v w q))) (λ v i w q. keeps_both i (body_keeps (count s) xs v w q)) u t

-- ---- fixpoints
case_keeps : {c : Context} {t : Sort} {m : ℕ} {s s' : Scope} {k k' : Known} {x : FixpointCase} → values.CaseGives c t m s k x s' k' → Keeps s s'
case_keeps (values.a_case {s = s} {b = b} n v) = keeps_kept.gone (keeps_kept.named s b (binding.names n refl))

cases_keep : {c : Context} {t : Sort} {m : ℕ} {s s' : Scope} {k k' : Known} {xs : List FixpointCase} → values.CasesGive c t m s k xs s' k' → Keeps s s'
cases_keep (values.no_cases {s = s}) = keeps_same s
cases_keep (values.more_cases x xs) = keeps_both (case_keeps x) (cases_keep xs)

equations_keep : (m n : ℕ) (b : FixpointBody) (s : Scope) → Leads (Keeps s) (EquationsCome m n s b)
equations_keep m n b s u (fixpoints.value v) = record { same = refl }
equations_keep m n b s u (fixpoints.cases w xs) = keeps_both (cases_keep xs) (record { same = refl })

-- a fixpoint was declared: no unknown sorts stand in what it is declared with, and it has as many parameters as arguments
pub record IsFixpoint (n : Name) (gs : List GhostParameter) (s t : Scope) : Type 0 where
  pub fixpoint : Fixpoint
  pub known_result : IsBelow 0 fixpoint.result
  pub known_arguments : Each (IsBelow 0) fixpoint.arguments
  pub long : length gs ≡ length fixpoint.arguments
  pub new : NewFrom n (ghosts.Fixpoint fixpoint) s t

-- a parameter has a sort without unknown sorts
abbrev HasKnown : GhostParameter → Sort → Type 0
HasKnown g t = IsBelow 0 t

fixpoint_head : (r : SortTree) (n : Name) (ns : List Name) (gs : List GhostParameter) (s : Scope) → Comes (IsFixpoint n gs s) (fixpoint_behind r n ns gs s)
fixpoint_head r n ns gs s =
    behind_comes Any (IsFixpoint n gs s) (given_fixpoint r n gs s) (names.parameters_behind s ns []) (λ ps u. tt)
    (λ ps u. behind_comes (IsBelow 0) (IsFixpoint n gs s) (named_fixpoint n gs s ps) (written_sort s ps r) (λ t e. written_below [] s ps r t e) (λ t h. of_sort ps t h))
  where
    of_sort : (ps : List (List ℕ)) (t : Sort) → IsBelow 0 t → Comes (IsFixpoint n gs s) (named_fixpoint n gs s ps t)
    of_sort ps t h =
        passed_comes (IsFixpoint n gs s) (name_refusal s n) (behind (with_fixpoint (length ps) t) (parameters_behind ps gs (none_taken (with_next s n))))
        (λ e. behind_comes (Taking HasKnown (with_next s n) gs) (IsFixpoint n gs s) (with_fixpoint (length ps) t) (parameters_behind ps gs (none_taken (with_next s n))) (parameters_taken HasKnown ps (with_next s n) (λ g l u f. written_below [] (with_locals (with_next s n) l) ps g.sort u f) gs)
        (λ k j. ok_comes (IsFixpoint n gs s) (record {
          fixpoint = record { parameters = length ps; arguments = k.sorts; «result» = t };
          known_result = h;
          known_arguments = beside_each HasKnown (IsBelow 0) (λ g u b. b) gs k.sorts j.each;
          long = beside_long HasKnown gs k.sorts j.each;
          new = new_behind s n (ghosts.Fixpoint (record { parameters = length ps; arguments = k.sorts; «result» = t })) _ (new_name s n e) j.keeps refl;
        })))

fixpoint_before : {n : Name} {gs : List GhostParameter} {s t u : Scope} → IsFixpoint n gs s t → Keeps t u → IsFixpoint n gs s u
fixpoint_before h k = record { fixpoint = h.fixpoint; known_result = h.known_result; known_arguments = h.known_arguments; long = h.long; new = new_before h.new k }

pub fixpoint_is : (r : SortTree) (n : Name) (ns : List Name) (gs : List GhostParameter) (b : FixpointBody) (s : Scope) → Leads (IsFixpoint n gs s) (FixpointComes r n ns gs b s)
fixpoint_is r n ns gs b s = then_leads (IsFixpoint n gs s) (IsFixpoint n gs s) (only_leads (IsFixpoint n gs s) (fixpoint_behind r n ns gs s) (fixpoint_head r n ns gs s)) (λ t h u g. fixpoint_before h (equations_keep (count s) (length s.ghosts) b t u g))
