-- What predicates, families' bodies, predicate constructors and fixpoints declare is not seen by C text.
use Rattle.std.proofs.Common.{◌≡◌, refl, sym, subst, ◌∙◌, ap, ℕ, Bool, true, false, if◌then◌else◌, List, [], length, map, Option, Some, None, Ok}
use Rattle.vf_names.specs.Names.{number_of}
use Rattle.vf_declared.specs.declared.declaration.Declaration.{Declaration}
use Rattle.vf_declared.specs.declared.declaration.GhostDeclaration.TheVariants as ghosts
use Rattle.vf_declared.specs.declared.declaration.Meaning.{Meaning}
use Rattle.vf_declared.specs.declared.declaration.Meaning.TheVariants as meanings
use Rattle.vf_declared.specs.declared.locals.Local.TheVariants as locals
use Rattle.vf_declared.specs.declared.scope.Scope.{Scope}
use Rattle.vf_declared.specs.Scopes.{at_index, declaration_of, declared_in, is_visible}
use Rattle.vf_declared.specs.Writing.{with_ghost_body}
use Rattle.vf_syntax.specs.declared.item.FixpointBody.{FixpointBody}
use Rattle.vf_syntax.specs.declared.item.FixpointCase.{FixpointCase}
use Rattle.vf_syntax.specs.declared.item.GhostParameter.{GhostParameter}
use Rattle.vf_syntax.specs.declared.written.Name.{Name}
use Rattle.vf_syntax.specs.AssertionTree.{PartTrees}
use Rattle.vf_syntax.specs.SortTree.{SortTree}
use Rattle.vf_sorts.specs.Sorts.{Sort}
use Rattle.vf_sorts.specs.Unknowns.{Known}
use Rattle.vf_sorting.specs.declared.context.Context.{Context}
use Rattle.vf_asserting.specs.Cases.{ghost_number}
use Rattle.vf_asserting.specs.Leaving.{count}
use Rattle.vf_datatypes.specs.Datatypes.{with_next}
use Rattle.vf_datatypes.specs.NewNames.{name_refusal}
use Rattle.vf_datatypes.specs.Walking.{behind}
use Rattle.vf_heads.specs.Heads.{constructor_behind, fixpoint_behind}
use Rattle.vf_heads.specs.Parameters.{Taken, none_taken, parameters_behind}
use Rattle.vf_predicates.specs.Bodies.{BodyComes}
use Rattle.vf_predicates.specs.Bodies as bodies
use Rattle.vf_predicates.specs.Earlier.{again_refusal, earlier, if_predicate, seen_too, stands_too}
use Rattle.vf_predicates.specs.Instances.{InstanceComes, IsInstance}
use Rattle.vf_predicates.specs.Instances as instances
use Rattle.vf_predicates.specs.Predicates.{ConstructorComes, HeadComes, IsAgain, PredicateBodyComes, PredicateComes, again_behind, first_behind, number_at, with_predicate, without_body}
use Rattle.vf_predicates.specs.Predicates as predicates
use Rattle.vf_equations.specs.Fixpoints.{EquationsCome, FixpointComes}
use Rattle.vf_equations.specs.Fixpoints as fixpoints
use Rattle.vf_equations.specs.Values as values
use Rattle.vf_erasure_laws.specs.seen.Seen.{IsOrderly, is_of_c}
use Rattle.vf_erasure_laws.specs.seen.Unseen.{AddsGhosts, IsUnseen}
use Rattle.vf_erasure_laws.proofs.hidden.Adding.{IsKept, more}
use Rattle.vf_erasure_laws.proofs.hidden.Behind.{IsBehind, behind_again, behind_itself, behind_more, behind_too, stays_kept, unseen_left}
use Rattle.vf_erasure_laws.proofs.hidden.Binding.{names}
use Rattle.vf_erasure_laws.proofs.hidden.Coming.{Comes, Leads, behind_comes, none_some, ok_comes, only_leads, then_leads, unless_comes}
use Rattle.vf_erasure_laws.proofs.hidden.Declarations.{IsGhostAt}
use Rattle.vf_erasure_laws.proofs.hidden.Giving.{parts}
use Rattle.vf_erasure_laws.proofs.hidden.Heads.{TakenBehind, TakesTo, behind_ghost, behind_next, fixpoint, parameters_come, predicate_constructor, taken_behind}

-- ---- names that annotations have declared before
-- a name of file level is none of C
abbrev pub IsGhostName : Scope → Name → Type 0
IsGhostName s n = (k : ℕ) → number_of s.names n.text ≡ Some k → IsGhostAt s.declarations k

ghostly : (b : Bool) (m : Meaning) (k : ℕ) → ghost_number (if b then Some m else None) ≡ Some k → is_of_c m ≡ false
ghostly true (meanings.Ghost n) k e = refl
ghostly true (meanings.Function n) k e = absurd (none_some e)
ghostly true (meanings.FunctionType n) k e = absurd (none_some e)
ghostly false m k e = absurd (none_some e)

-- a name that means something of annotations is none of C
pub ghost_name : (s : Scope) (n : Name) (k : ℕ) → ghost_number (declaration_of s n.text n.place.file) ≡ Some k → IsGhostName s n
ghost_name s n k e i f d g = ghostly (is_visible s n.place.file d.files) d.meaning k (sym (ap (λ (o : Option ℕ). ghost_number (declared_in s n.place.file (at_index s.declarations o))) f ∙ ap (λ (o : Option Declaration). ghost_number (declared_in s n.place.file o)) g) ∙ e)

stands_behind : {s t : Scope} (n : Name) (o : Option ℕ) → number_of t.names n.text ≡ o → IsGhostName t n → IsBehind s t → IsBehind s (stands_too t n o)
stands_behind n None e g h = h
stands_behind n (Some k) e g h = behind_again k n.place.file (g k e) h

-- where annotations declare a name again that they have declared before, and there are more locals
pub seen_behind : {s t : Scope} (n : Name) → IsGhostName s n → IsBehind s s → AddsGhosts s t → IsBehind s (seen_too t n)
seen_behind {s = s} n g h a =
    subst (λ (t : Scope). IsBehind s (seen_too t n)) (sym a.is) (stands_behind {t = more s a.names (map locals.Ghost a.ghosts)} n (number_of s.names n.text) refl g (behind_more a.names (map locals.Ghost a.ghosts) h))

-- ---- bodies
-- what a body declares is gone behind it
pub body : {s t : Scope} → IsOrderly s → (xs : PartTrees) → IsBehind s t → Leads (IsUnseen s) (BodyComes (count s) xs t)
body {s = s} o xs h u (bodies.given {s' = v} g) = unseen_left u o (parts (stays_kept s o.locals) g h) refl refl refl refl

-- ---- predicates
first_comes : {s : Scope} → IsOrderly s → (n : Name) (gs : List GhostParameter) → Comes (IsBehind s) (first_behind n gs s)
first_comes {s = s} o n gs =
    unless_comes (IsBehind s) (name_refusal s n) (behind with_predicate (parameters_behind [] gs (none_taken (with_next s n))))
    (behind_comes (TakenBehind s) (IsBehind s) with_predicate (parameters_behind [] gs (none_taken (with_next s n))) (taken_behind [] gs (with_next s n) (behind_next s n (behind_itself o))) (λ k h. ok_comes (IsBehind s) (behind_ghost k.scope (ghosts.Predicate k.sorts) h)))

again_comes : (b : Bool) (n : Name) (gs : List GhostParameter) (k : ℕ) (s : Scope) → Comes (TakesTo s) (again_behind b n gs k s)
again_comes b n gs k s = unless_comes (TakesTo s) (again_refusal b s n k) (parameters_behind [] gs (none_taken s)) (parameters_come [] gs (none_taken s))

if_some : (s : Scope) (o : Option ℕ) (k : ℕ) → if_predicate s o ≡ Some k → (j : ℕ) × (o ≡ Some j)
if_some s None k e = absurd (none_some e)
if_some s (Some j) k e = (j, refl)

earlier_name : (s : Scope) (n : Name) (k : ℕ) → earlier s n ≡ Some k → IsGhostName s n
earlier_name s n k e = let f = if_some s (ghost_number (declaration_of s n.text n.place.file)) k e in ghost_name s n f.0 f.1

is_again : {s : Scope} → IsOrderly s → (n : Name) (k : ℕ) → IsGhostName s n → (t : Taken) → TakesTo s t → Leads (IsBehind s) (IsAgain n k t)
is_again o n k g t a u (predicates.agreed e) = seen_behind n g (behind_itself o) a

head : {s : Scope} → IsOrderly s → (b : Bool) (n : Name) (gs : List GhostParameter) → Leads (IsBehind s) (HeadComes b n gs s)
head o b n gs u (predicates.new e f) = first_comes o n gs u f
head {s = s} o b n gs u (predicates.again {k = k} e t) = then_leads (TakesTo s) (IsBehind s) (only_leads (TakesTo s) (again_behind b n gs k s) (again_comes b n gs k s)) (λ v h. is_again o n k (earlier_name s n k e) v h) u t

pub predicate : {s : Scope} → IsOrderly s → (n : Name) (gs : List GhostParameter) → Leads (IsUnseen s) (PredicateComes n gs s)
predicate {s = s} o n gs = then_leads (IsBehind s) (IsUnseen s) (head o false n gs) (λ t h. only_leads (IsUnseen s) (Ok (without_body (count s) (number_at s n) t)) (ok_comes (IsUnseen s) (unseen_left (without_body (count s) (number_at s n) t) o h refl refl refl refl)))

pub predicate_body : {s : Scope} → IsOrderly s → (n : Name) (gs : List GhostParameter) (xs : PartTrees) → Leads (IsUnseen s) (PredicateBodyComes n gs xs s)
predicate_body {s = s} o n gs xs = then_leads (IsBehind s) (IsUnseen s) (head o true n gs) (λ t h. body o xs (behind_too (with_ghost_body t (number_at s n)) h refl refl refl refl))

pub constructor : {s : Scope} → IsOrderly s → (n : Name) (fs gs : List GhostParameter) (xs : PartTrees) → Leads (IsUnseen s) (ConstructorComes n fs gs xs s)
constructor {s = s} o n fs gs xs = then_leads (IsBehind s) (IsUnseen s) (only_leads (IsBehind s) (constructor_behind n fs gs s) (predicate_constructor o n fs gs)) (λ t h. body o xs h)

-- ---- bodies of families
is_instance : {s : Scope} (f : Name) (k m : ℕ) (t : Taken) → TakenBehind s t → Leads (IsBehind s) (IsInstance f k m t)
is_instance f k m t h u (instances.agreed e) = behind_too u h refl refl refl refl

pub family_body : {s : Scope} → IsOrderly s → (f g : Name) (gs : List GhostParameter) (xs : PartTrees) → Leads (IsUnseen s) (InstanceComes f g gs xs s)
family_body {s = s} o f g gs xs u (instances.body {k = k} {m = m} a t) =
    then_leads (IsBehind s) (IsUnseen s) (then_leads (TakenBehind s) (IsBehind s) (only_leads (TakenBehind s) (parameters_behind [] gs (none_taken s)) (taken_behind [] gs s (behind_itself o))) (λ v h. is_instance f k m v h)) (λ v h. body o xs h) u t

-- ---- fixpoints
case_given : {P : Scope → Scope → Type 0} → IsKept P → {c : Context} {t : Sort} {m : ℕ} {s s' : Scope} {k k' : Known} {x : FixpointCase} → values.CaseGives c t m s k x s' k' → P s s'
case_given h (values.a_case {s = s} {b = b} n v) = h.gone (h.named s b (names n refl))

cases_given : {P : Scope → Scope → Type 0} → IsKept P → {c : Context} {t : Sort} {m : ℕ} {s s' : Scope} {k k' : Known} {xs : List FixpointCase} → values.CasesGive c t m s k xs s' k' → P s s'
cases_given h (values.no_cases {s = s}) = h.same s
cases_given h (values.more_cases x xs) = h.both (case_given h x) (cases_given h xs)

equations : {s t : Scope} → IsOrderly s → (n : ℕ) (b : FixpointBody) → IsBehind s t → Leads (IsUnseen s) (EquationsCome (count s) n t b)
equations o n b h u (fixpoints.value v) = unseen_left u o h refl refl refl refl
equations {s = s} o n b h u (fixpoints.cases w xs) = unseen_left u o (cases_given (stays_kept s o.locals) xs h) refl refl refl refl

pub fixpoint_item : {s : Scope} → IsOrderly s → (t : SortTree) (n : Name) (ns : List Name) (gs : List GhostParameter) (b : FixpointBody) → Leads (IsUnseen s) (FixpointComes t n ns gs b s)
fixpoint_item {s = s} o t n ns gs b = then_leads (IsBehind s) (IsUnseen s) (only_leads (IsBehind s) (fixpoint_behind t n ns gs s) (fixpoint o t n ns gs)) (λ u h. equations o (length s.ghosts) b h)
