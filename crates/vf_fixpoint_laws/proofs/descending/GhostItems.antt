-- Annotations that declare no datatypes.
use Rattle.std.proofs.Common.{refl, ℕ, Bool, true, false, nat_eq, List, [], length, Option, Some, None, Err}
use Rattle.vf_base.specs.declared.place.Place.{Place}
use Rattle.vf_sorts.specs.Sorts.{Sort}
use Rattle.vf_sorts.specs.Unknowns.{Known}
use Rattle.vf_names.specs.Names.{number_of}
use Rattle.vf_declared.specs.declared.declaration.GhostDeclaration.TheVariants as ghosts
use Rattle.vf_declared.specs.declared.locals.Locals.{Locals}
use Rattle.vf_declared.specs.declared.scope.Scope.{Scope}
use Rattle.vf_declared.specs.Scopes.{sides_of_ghost}
use Rattle.vf_declared.specs.Writing.{with_ghost_body}
use Rattle.vf_syntax.specs.declared.contract.Contract.{Contract}
use Rattle.vf_syntax.specs.declared.item.FixpointBody.{FixpointBody}
use Rattle.vf_syntax.specs.declared.item.FixpointCase.{FixpointCase}
use Rattle.vf_syntax.specs.declared.item.GhostBody.{GhostBody}
use Rattle.vf_syntax.specs.declared.item.GhostParameter.{GhostParameter}
use Rattle.vf_syntax.specs.declared.written.Name.{Name}
use Rattle.vf_syntax.specs.AssertionTree.{PartTrees}
use Rattle.vf_syntax.specs.GhostCommandTree.{GhostCommandTrees, ghost_command_list, more_ghost_command, no_ghost_command}
use Rattle.vf_syntax.specs.SortTree.{SortTree}
use Rattle.vf_sorting.specs.declared.context.Context.{Context}
use Rattle.vf_sorting.specs.Spelling.{written_sort}
use Rattle.vf_asserting.specs.Leaving.{count}
use Rattle.vf_datatypes.specs.Datatypes.{with_next}
use Rattle.vf_datatypes.specs.NewNames.{name_refusal}
use Rattle.vf_datatypes.specs.NewNames as names
use Rattle.vf_datatypes.specs.Walking.{behind}
use Rattle.vf_heads.specs.Heads.{behind_index, family_behind, fixpoint_behind, given_fixpoint, indexed, named_fixpoint, second_behind, with_family, with_fixpoint, with_predicate_constructor}
use Rattle.vf_heads.specs.Heads as heads
use Rattle.vf_heads.specs.Parameters.{Taken, named, none_taken, parameters_behind}
use Rattle.vf_contracts.specs.Comes.{ContractComes}
use Rattle.vf_contracts.specs.Comes as contracts
use Rattle.vf_commands.specs.declared.around.Around.{Around}
use Rattle.vf_commands.specs.Comes as commands
use Rattle.vf_predicates.specs.Bodies.{BodyComes}
use Rattle.vf_predicates.specs.Bodies as bodies
use Rattle.vf_predicates.specs.Earlier.{again_refusal, seen_too, stands_too}
use Rattle.vf_predicates.specs.Instances.{InstanceComes, IsInstance}
use Rattle.vf_predicates.specs.Instances as instances
use Rattle.vf_predicates.specs.Predicates.{ConstructorComes, HeadComes, IsAgain, PredicateBodyComes, PredicateComes, again_behind, first_behind, number_at, with_predicate, without_body}
use Rattle.vf_predicates.specs.Predicates as predicates
use Rattle.vf_lemma_items.specs.declared.earlier.Head.{Head}
use Rattle.vf_lemma_items.specs.Earlier.{head}
use Rattle.vf_lemma_items.specs.Kept.{first_renamed, kept_in, taken_from, taken_unless}
use Rattle.vf_lemma_items.specs.Lemmas.{BodyIf, DefinitionComes, DefinitionOf, IsLemma, OwnContract, PrototypeComes, PrototypeOf, SignatureComes, begun, lemma_over, number}
use Rattle.vf_lemma_items.specs.Lemmas as lemmas
use Rattle.vf_equations.specs.Fixpoints.{EquationsCome, FixpointComes}
use Rattle.vf_equations.specs.Fixpoints as fixpoints
use Rattle.vf_equations.specs.Values as values
use Rattle.vf_erasure_laws.proofs.hidden.Binding as binding
use Rattle.vf_erasure_laws.proofs.hidden.Coming.{Comes, Leads, behind_comes, ok_comes, only_leads, then_leads, unless_comes}
use Rattle.vf_erasure_laws.proofs.hidden.Giving.{command, contract, parts}
use Rattle.vf_fixpoint_laws.proofs.definable.Extending.{Keeps, keeps_both, keeps_same}
use Rattle.vf_fixpoint_laws.proofs.definable.Parameters.{TakenFrom, named_keeps, parameters_keep}
use Rattle.vf_fixpoint_laws.proofs.definable.Parts.{Any, err_comes, keeps_kept, ok_keeps, then_keeps}
use Rattle.vf_fixpoint_laws.proofs.descending.Levels.{Adds, adds_again, adds_behind, adds_itself, adds_kept, adds_next}
use Rattle.vf_fixpoint_laws.proofs.descending.Parts.{only_kept, then_adds}

-- parameters behind a new name
abbrev TakenNext : Scope → Name → Taken → Type 0
TakenNext s n k = Keeps (with_next s n) k.scope

taken_next : (s : Scope) (n : Name) (ps : List (List ℕ)) (gs : List GhostParameter) (t : Scope) → Keeps (with_next s n) t → Comes (TakenNext s n) (parameters_behind ps gs (none_taken t))
taken_next s n ps gs t h k e = keeps_both h (parameters_keep ps gs t k e)

-- ---- families
pub family_adds : (n : Name) (i : GhostParameter) (gs : List GhostParameter) (s : Scope) → Comes (Adds s) (family_behind n i gs s)
family_adds n i gs s =
    unless_comes (Adds s) (name_refusal s n) (behind (indexed i gs (with_next s n)) (written_sort (with_next s n) [] i.sort))
    (behind_comes Any (Adds s) (indexed i gs (with_next s n)) (written_sort (with_next s n) [] i.sort) (λ t u. tt) (λ t u. of_sort t))
  where
    of_sort : (t : Sort) → Comes (Adds s) (indexed i gs (with_next s n) t)
    of_sort t =
        behind_comes (TakenNext s n) (Adds s) (λ (k : Taken). behind_index (count s) t gs k.scope) (named i.name (none_taken (with_next s n)) t) (named_keeps i.name (none_taken (with_next s n)) t)
        (λ k h. behind_comes (TakenNext s n) (Adds s) (with_family (count s) t) (parameters_behind [] gs (none_taken k.scope)) (taken_next s n [] gs k.scope h)
        (λ l j. ok_comes (Adds s) (let a = adds_next s n l.scope (ghosts.Family (record { index = t; arguments = l.sorts })) j tt in record { more = a.more; others = a.others; datatypes = a.datatypes })))

-- ---- bodies
body_keeps : (m : ℕ) (xs : PartTrees) (t : Scope) → Leads (Keeps t) (BodyComes m xs t)
body_keeps m xs t u (bodies.given {s' = v} g) = keeps_both (parts keeps_kept g) (record { same = refl })

-- ---- predicates
first_adds : (n : Name) (gs : List GhostParameter) (s : Scope) → Comes (Adds s) (first_behind n gs s)
first_adds n gs s =
    unless_comes (Adds s) (name_refusal s n) (behind with_predicate (parameters_behind [] gs (none_taken (with_next s n))))
    (behind_comes (TakenNext s n) (Adds s) with_predicate (parameters_behind [] gs (none_taken (with_next s n))) (taken_next s n [] gs (with_next s n) (keeps_same (with_next s n)))
    (λ k h. ok_comes (Adds s) (adds_next s n k.scope (ghosts.Predicate k.sorts) h tt)))

too_adds : (s : Scope) (n : Name) (o : Option ℕ) → Adds s (stands_too s n o)
too_adds s n None = adds_itself s
too_adds s n (Some k) = adds_again s k n.place.file

seen_adds : (s : Scope) (n : Name) → Adds s (seen_too s n)
seen_adds s n = too_adds s n (number_of s.names n.text)

again_keeps : (b : Bool) (n : Name) (gs : List GhostParameter) (k : ℕ) (s : Scope) → Comes (TakenFrom s) (again_behind b n gs k s)
again_keeps b n gs k s = unless_comes (TakenFrom s) (again_refusal b s n k) (parameters_behind [] gs (none_taken s)) (parameters_keep [] gs s)

is_again : (n : Name) (k : ℕ) (s : Scope) (t : Taken) → TakenFrom s t → Leads (Adds s) (IsAgain n k t)
is_again n k s t i u (predicates.agreed e) = adds_behind i (seen_adds t.scope n)

head_adds : (b : Bool) (n : Name) (gs : List GhostParameter) (s : Scope) → Leads (Adds s) (HeadComes b n gs s)
head_adds b n gs s u (predicates.new e f) = first_adds n gs s u f
head_adds b n gs s u (predicates.again {k = k} e t) = then_leads (TakenFrom s) (Adds s) (only_leads (TakenFrom s) (again_behind b n gs k s) (again_keeps b n gs k s)) (λ w i. is_again n k s w i) u t

pub predicate_adds : (n : Name) (gs : List GhostParameter) (s : Scope) → Leads (Adds s) (PredicateComes n gs s)
predicate_adds n gs s = then_adds (head_adds false n gs s) (λ t. only_kept {t = without_body (count s) (number_at s n) t} (record { same = refl }))

pub predicate_body_adds : (n : Name) (gs : List GhostParameter) (xs : PartTrees) (s : Scope) → Leads (Adds s) (PredicateBodyComes n gs xs s)
predicate_body_adds n gs xs s = then_adds (head_adds true n gs s) (λ t u g. record { same = (body_keeps (count s) xs (with_ghost_body t (number_at s n)) u g).same })

-- ---- predicate constructors
pub constructor_adds : (n : Name) (fs gs : List GhostParameter) (xs : PartTrees) (s : Scope) → Leads (Adds s) (ConstructorComes n fs gs xs s)
constructor_adds n fs gs xs s = then_adds (only_leads (Adds s) (heads.constructor_behind n fs gs s) the_head) (λ t. body_keeps (count s) xs t)
  where
    second : (k : Taken) → TakenNext s n k → Comes (Adds s) (second_behind gs k)
    second k h =
        behind_comes (TakenNext s n) (Adds s) (with_predicate_constructor k.sorts) (parameters_behind [] gs (none_taken k.scope)) (taken_next s n [] gs k.scope h)
        (λ l j. ok_comes (Adds s) (adds_next s n l.scope (ghosts.PredicateConstructor (record { first = k.sorts; second = l.sorts })) j tt))

    the_head : Comes (Adds s) (heads.constructor_behind n fs gs s)
    the_head =
        unless_comes (Adds s) (name_refusal s n) (behind (second_behind gs) (parameters_behind [] fs (none_taken (with_next s n))))
        (behind_comes (TakenNext s n) (Adds s) (second_behind gs) (parameters_behind [] fs (none_taken (with_next s n))) (taken_next s n [] fs (with_next s n) (keeps_same (with_next s n))) (λ k h. second k h))

-- ---- bodies of families
is_instance : (f : Name) (k m : ℕ) (t : Taken) → Leads (Keeps t.scope) (IsInstance f k m t)
is_instance f k m t u (instances.agreed e) = record { same = refl }

pub instance_adds : (f g : Name) (gs : List GhostParameter) (xs : PartTrees) (s : Scope) → Leads (Adds s) (InstanceComes f g gs xs s)
instance_adds f g gs xs s u (instances.body {k = k} {m = n} r t) =
    then_leads (Keeps s) (Adds s) (then_leads (TakenFrom s) (Keeps s) (only_leads (TakenFrom s) (parameters_behind [] gs (none_taken s)) (parameters_keep [] gs s)) (λ v i w q. keeps_both i (is_instance f k n v w q))) (λ v i w q. adds_kept (keeps_both i (body_keeps (count s) xs v w q))) u t

-- ---- fixpoints
case_keeps : {c : Context} {t : Sort} {m : ℕ} {s s' : Scope} {k k' : Known} {x : FixpointCase} → values.CaseGives c t m s k x s' k' → Keeps s s'
case_keeps (values.a_case {s = s} {b = b} n v) = keeps_kept.gone (keeps_kept.named s b (binding.names n refl))

cases_keep : {c : Context} {t : Sort} {m : ℕ} {s s' : Scope} {k k' : Known} {xs : List FixpointCase} → values.CasesGive c t m s k xs s' k' → Keeps s s'
cases_keep (values.no_cases {s = s}) = keeps_same s
cases_keep (values.more_cases x xs) = keeps_both (case_keeps x) (cases_keep xs)

pub equations_keep : (m n : ℕ) (b : FixpointBody) (t : Scope) → Leads (Keeps t) (EquationsCome m n t b)
equations_keep m n b t u (fixpoints.value v) = record { same = refl }
equations_keep m n b t u (fixpoints.cases {s' = v} w xs) = keeps_both (cases_keep xs) (record { same = refl })

fixpoint_named : (r : SortTree) (n : Name) (ns : List Name) (gs : List GhostParameter) (s : Scope) → Comes (Adds s) (fixpoint_behind r n ns gs s)
fixpoint_named r n ns gs s =
    behind_comes Any (Adds s) (given_fixpoint r n gs s) (names.parameters_behind s ns []) (λ ps u. tt)
    (λ ps u. behind_comes Any (Adds s) (named_fixpoint n gs s ps) (written_sort s ps r) (λ t v. tt) (λ t v. of_sort ps t))
  where
    of_sort : (ps : List (List ℕ)) (t : Sort) → Comes (Adds s) (named_fixpoint n gs s ps t)
    of_sort ps t =
        unless_comes (Adds s) (name_refusal s n) (behind (with_fixpoint (length ps) t) (parameters_behind ps gs (none_taken (with_next s n))))
        (behind_comes (TakenNext s n) (Adds s) (with_fixpoint (length ps) t) (parameters_behind ps gs (none_taken (with_next s n))) (taken_next s n ps gs (with_next s n) (keeps_same (with_next s n)))
        (λ k h. ok_comes (Adds s) (adds_next s n k.scope (ghosts.Fixpoint (record { parameters = length ps; arguments = k.sorts; «result» = t })) h tt)))

pub fixpoint_adds : (r : SortTree) (n : Name) (ns : List Name) (gs : List GhostParameter) (b : FixpointBody) (s : Scope) → Leads (Adds s) (FixpointComes r n ns gs b s)
fixpoint_adds r n ns gs b s = then_adds (only_leads (Adds s) (fixpoint_behind r n ns gs s) (fixpoint_named r n ns gs s)) (λ t. equations_keep (count s) (length s.ghosts) b t)

-- ---- lemmas
is_lemma : (s : Scope) (n : Name) (ps : List (List ℕ)) (o : Option ℕ) (t : Taken) → Keeps (begun n o s) t.scope → Leads (Adds s) (IsLemma n ps o t)
is_lemma s n ps None t h u lemmas.new = adds_next s n t.scope (lemma_over ps t.sorts) h tt
is_lemma s n ps (Some k) t h u (lemmas.agreed e) = adds_behind h (seen_adds t.scope n)

signature_adds : (n : Name) (gs : List GhostParameter) (h : Head) (s : Scope) → Leads (Adds s) (SignatureComes n gs h s)
signature_adds n gs h s =
    then_leads (TakenFrom (begun n h.earlier s)) (Adds s) (only_leads (TakenFrom (begun n h.earlier s)) (parameters_behind h.parameters gs (none_taken (begun n h.earlier s))) (parameters_keep h.parameters gs (begun n h.earlier s))) (λ t k. is_lemma s n h.parameters h.earlier t k)

contract_keeps : (c d : Context) (x : Contract) (s : Scope) → Leads (Keeps s) (ContractComes c d x s)
contract_keeps c d x s t (contracts.given g) = contract keeps_kept g

taken_keeps : (gs : List GhostParameter) (l : Locals) (p : Option Place) (s : Scope) → Comes (Keeps s) (taken_unless gs l p s)
taken_keeps gs l None s = ok_comes (Keeps s) (record { same = refl })
taken_keeps gs l (Some p) s = err_comes (Keeps s) _

from_keeps : (gs : List GhostParameter) (o : Option Locals) (s : Scope) → Comes (Keeps s) (taken_from gs o s)
from_keeps gs None s = ok_comes (Keeps s) (keeps_same s)
from_keeps gs (Some l) s = taken_keeps gs l (first_renamed l.names gs) s

own_contract_keeps : (gs : List GhostParameter) (k : ℕ) (c : Option Contract) (s : Scope) → Leads (Keeps s) (OwnContract gs k c s)
own_contract_keeps gs k None s = only_leads (Keeps s) (taken_from gs (kept_in (sides_of_ghost s k)) s) (from_keeps gs (kept_in (sides_of_ghost s k)) s)
own_contract_keeps gs k (Some c) s = contract_keeps lemmas.around_contract lemmas.around_contract c s

commands_keep : (w : Around) (xs : GhostCommandTrees) (s : Scope) → Leads (Keeps s) (commands.BodyComes w xs s)
commands_keep w no_ghost_command s = ok_keeps (keeps_same s)
commands_keep w (more_ghost_command x xs) s = then_keeps one (λ t. commands_keep w xs t)
  where
    one : Leads (Keeps s) (commands.CommandComes w x s)
    one t (commands.given g) = command keeps_kept g

lemma_body_keeps : (may : Bool) (w : Around) (b : GhostBody) (s : Scope) → Leads (Keeps s) (BodyIf may w b s)
lemma_body_keeps true w b s = commands_keep w (ghost_command_list b.commands) s
lemma_body_keeps false w b s = only_leads (Keeps s) (Err _) (err_comes (Keeps s) _)

pub lemma_prototype_adds : (n : Name) (ns : List Name) (gs : List GhostParameter) (c : Contract) (s : Scope) → Leads (Adds s) (PrototypeComes n ns gs c s)
lemma_prototype_adds n ns gs c s = then_leads Any (Adds s) (only_leads Any (head s false n ns) (λ h e. tt)) (λ h u. of_head h)
  where
    of_head : (h : Head) → Leads (Adds s) (PrototypeOf n gs c s h)
    of_head h = then_adds (then_adds (signature_adds n gs h s) (λ t. contract_keeps lemmas.around_contract lemmas.around_contract c t)) (λ t. only_kept (record { same = refl }))

pub lemma_adds : (n : Name) (ns : List Name) (gs : List GhostParameter) (c : Option Contract) (b : GhostBody) (s : Scope) → Leads (Adds s) (DefinitionComes n ns gs c b s)
lemma_adds n ns gs c b s = then_leads Any (Adds s) (only_leads Any (head s true n ns) (λ h e. tt)) (λ h u. of_head h)
  where
    of_head : (h : Head) → Leads (Adds s) (DefinitionOf n gs c b s h)
    of_head h =
        let k = number s h.earlier in
        then_adds
        (then_adds
        (then_adds (signature_adds n gs h s) (λ t u g. record { same = (own_contract_keeps gs k c (with_ghost_body t k) u g).same }))
        (λ t. lemma_body_keeps (nat_eq n.place.file t.file) (lemmas.around_body k h.parameters) b t))
        (λ t. only_kept (record { same = refl }))
