-- What ghost items without assertions declare is not seen by C text.
use Rattle.std.proofs.Common.{◌≡◌, refl, ◌∙◌, ℕ, Bool, true, false, if◌then◌else◌, List, [], ◌∷◌, length, drop, Ok, Err}
use Rattle.vf_base.specs.declared.refusal.Refusal.{Refusal}
use Rattle.vf_sorts.specs.Sorts.{Sort}
use Rattle.vf_declared.specs.declared.declaration.GhostDeclaration.{GhostDeclaration}
use Rattle.vf_declared.specs.declared.scope.Scope.{Scope}
use Rattle.vf_declared.specs.Writing.{with_ghost}
use Rattle.vf_syntax.specs.declared.item.Constructor.{Constructor}
use Rattle.vf_syntax.specs.declared.item.GhostParameter.{GhostParameter}
use Rattle.vf_syntax.specs.declared.written.Name.{Name}
use Rattle.vf_syntax.specs.SortTree.{SortTree}
use Rattle.vf_sorting.specs.Spelling.{written_sort}
use Rattle.vf_asserting.specs.Leaving.{count}
use Rattle.vf_datatypes.specs.declared.stated.Stated.{Stated}
use Rattle.vf_datatypes.specs.declared.own.Own.{Own}
use Rattle.vf_datatypes.specs.Arguments.{sorts_within}
use Rattle.vf_datatypes.specs.Datatypes.{begun, body_behind, complete, constructor_behind, constructors_behind, datatype_behind, own, with_constructor, with_datatype, with_next}
use Rattle.vf_datatypes.specs.Inhabited.{is_inhabited}
use Rattle.vf_datatypes.specs.NewNames.{name_refusal}
use Rattle.vf_datatypes.specs.NewNames as names
use Rattle.vf_datatypes.specs.Walking.{behind}
use Rattle.vf_heads.specs.Heads.{behind_index, family_behind, fixpoint_behind, given_fixpoint, indexed, named_fixpoint, second_behind, with_family, with_fixpoint, with_predicate_constructor}
use Rattle.vf_heads.specs.Heads as heads
use Rattle.vf_heads.specs.Parameters.{Taken, local_refusal, named, none_taken, parameter_behind, parameters_behind, with_parameter}
use Rattle.vf_erasure_laws.specs.seen.Seen.{IsOrderly}
use Rattle.vf_erasure_laws.specs.seen.Unseen.{AddsGhosts, IsUnseen}
use Rattle.vf_erasure_laws.proofs.hidden.Adding.{adds_both, adds_none, adds_one}
use Rattle.vf_erasure_laws.proofs.hidden.Behind.{IsBehind, bare, behind_adding, behind_itself, behind_name, behind_too, unseen, unseen_left}
use Rattle.vf_erasure_laws.proofs.hidden.Coming.{Comes, apart, behind_comes, ok_comes, unless_comes}

-- ---- parameters
-- what was taken adds names of annotations to a scope
abbrev pub TakesTo : Scope → Taken → Type 0
TakesTo s k = AddsGhosts s k.scope

-- of what was taken C text sees the same as of a scope, but for locals behind its own
abbrev pub TakenBehind : Scope → Taken → Type 0
TakenBehind s k = IsBehind s k.scope

-- anything
abbrev pub Any : {A : Type 0} → A → Type 0
Any a = Unit {0}

named_comes : (n : Name) (k : Taken) (t : Sort) → Comes (TakesTo k.scope) (named n k t)
named_comes n k t = unless_comes (TakesTo k.scope) (local_refusal k.scope n) (Ok (with_parameter n t k)) (ok_comes (TakesTo k.scope) (adds_one k.scope n.text (record { is_variable = false; sort = t })))

parameter_comes : (ps : List (List ℕ)) (g : GhostParameter) (k : Taken) → Comes (TakesTo k.scope) (parameter_behind ps g k)
parameter_comes ps g k = behind_comes Any (TakesTo k.scope) (named g.name k) (written_sort k.scope ps g.sort) (λ t e. tt) (λ t h. named_comes g.name k t)

pub parameters_come : (ps : List (List ℕ)) (gs : List GhostParameter) (k : Taken) → Comes (TakesTo k.scope) (parameters_behind ps gs k)
parameters_come ps [] k = ok_comes (TakesTo k.scope) (adds_none k.scope)
parameters_come ps (g ∷ gs) k = behind_comes (TakesTo k.scope) (TakesTo k.scope) (parameters_behind ps gs) (parameter_behind ps g k) (parameter_comes ps g k) (λ l h m e. adds_both h (parameters_come ps gs l m e))

-- parameters behind a scope
pub taken_behind : {s : Scope} (ps : List (List ℕ)) (gs : List GhostParameter) (t : Scope) → IsBehind s t → Comes (TakenBehind s) (parameters_behind ps gs (none_taken t))
taken_behind ps gs t h k e = behind_adding h (parameters_come ps gs (none_taken t) k e)

pub behind_next : {s : Scope} (t : Scope) (n : Name) → IsBehind s t → IsBehind s (with_next t n)
behind_next t n h = behind_name n.text (length t.ghosts) n.place.file h

pub behind_ghost : {s : Scope} (t : Scope) (g : GhostDeclaration) → IsBehind s t → IsBehind s (with_ghost t g)
behind_ghost t g h = behind_too (with_ghost t g) h refl refl refl refl

-- ---- families
family_comes_to : {s : Scope} → IsOrderly s → (t : Sort) (k : Taken) → TakenBehind s k → Comes (IsUnseen s) (with_family (count s) t k)
family_comes_to {s = s} o t k h = ok_comes (IsUnseen s) (unseen_left _ o h refl refl refl refl)

indexed_comes : {s : Scope} → IsOrderly s → (n : Name) (i : GhostParameter) (gs : List GhostParameter) (t : Sort) → Comes (IsUnseen s) (indexed i gs (with_next s n) t)
indexed_comes {s = s} o n i gs t =
    behind_comes (TakenBehind s) (IsUnseen s) (λ (k : Taken). behind_index (count s) t gs k.scope) (named i.name (none_taken (with_next s n)) t)
    (λ k e. behind_adding (behind_next s n (behind_itself o)) (named_comes i.name (none_taken (with_next s n)) t k e))
    (λ k h. behind_comes (TakenBehind s) (IsUnseen s) (with_family (count s) t) (parameters_behind [] gs (none_taken k.scope)) (taken_behind [] gs k.scope h) (λ l j. family_comes_to o t l j))

-- what a family declares is not seen
pub family : {s : Scope} → IsOrderly s → (n : Name) (i : GhostParameter) (gs : List GhostParameter) → Comes (IsUnseen s) (family_behind n i gs s)
family {s = s} o n i gs =
    unless_comes (IsUnseen s) (name_refusal s n) (behind (indexed i gs (with_next s n)) (written_sort (with_next s n) [] i.sort))
    (behind_comes Any (IsUnseen s) (indexed i gs (with_next s n)) (written_sort (with_next s n) [] i.sort) (λ t e. tt) (λ t h. indexed_comes o n i gs t))

-- ---- predicate constructors, in front of their bodies
second : {s : Scope} (gs : List GhostParameter) (k : Taken) → TakenBehind s k → Comes (IsBehind s) (second_behind gs k)
second {s = s} gs k h =
    behind_comes (TakenBehind s) (IsBehind s) (with_predicate_constructor k.sorts) (parameters_behind [] gs (none_taken k.scope)) (taken_behind [] gs k.scope h)
    (λ l j. ok_comes (IsBehind s) (behind_ghost l.scope _ j))

pub predicate_constructor : {s : Scope} → IsOrderly s → (n : Name) (fs gs : List GhostParameter) → Comes (IsBehind s) (heads.constructor_behind n fs gs s)
predicate_constructor {s = s} o n fs gs =
    unless_comes (IsBehind s) (name_refusal s n) (behind (second_behind gs) (parameters_behind [] fs (none_taken (with_next s n))))
    (behind_comes (TakenBehind s) (IsBehind s) (second_behind gs) (parameters_behind [] fs (none_taken (with_next s n))) (taken_behind [] fs (with_next s n) (behind_next s n (behind_itself o))) (λ k h. second gs k h))

-- ---- fixpoints, in front of their bodies
with_fixpoint_comes : {s : Scope} (n : ℕ) (t : Sort) (k : Taken) → TakenBehind s k → Comes (IsBehind s) (with_fixpoint n t k)
with_fixpoint_comes {s = s} n t k h = ok_comes (IsBehind s) (behind_ghost k.scope _ h)

named_fixpoint_comes : {s : Scope} → IsOrderly s → (n : Name) (gs : List GhostParameter) (ps : List (List ℕ)) (t : Sort) → Comes (IsBehind s) (named_fixpoint n gs s ps t)
named_fixpoint_comes {s = s} o n gs ps t =
    unless_comes (IsBehind s) (name_refusal s n) (behind (with_fixpoint (length ps) t) (parameters_behind ps gs (none_taken (with_next s n))))
    (behind_comes (TakenBehind s) (IsBehind s) (with_fixpoint (length ps) t) (parameters_behind ps gs (none_taken (with_next s n))) (taken_behind ps gs (with_next s n) (behind_next s n (behind_itself o))) (λ k h. with_fixpoint_comes (length ps) t k h))

pub fixpoint : {s : Scope} → IsOrderly s → (r : SortTree) (n : Name) (ns : List Name) (gs : List GhostParameter) → Comes (IsBehind s) (fixpoint_behind r n ns gs s)
fixpoint {s = s} o r n ns gs =
    behind_comes Any (IsBehind s) (given_fixpoint r n gs s) (names.parameters_behind s ns []) (λ ps e. tt)
    (λ ps h. behind_comes Any (IsBehind s) (named_fixpoint n gs s ps) (written_sort s ps r) (λ t e. tt) (λ t i. named_fixpoint_comes o n gs ps t))

-- ---- datatypes
-- of a scope C text sees the same as of another, and it has the same locals
abbrev IsBeside : Scope → Scope → Type 0
IsBeside s t = IsBehind s t × (t.locals ≡ s.locals)

constructor_comes_to : {s : Scope} (d : ℕ) (t : Scope) (ts : List Sort) → IsBeside s t → Comes (IsBeside s) (with_constructor d t ts)
constructor_comes_to {s = s} d t ts h = ok_comes (IsBeside s) (behind_ghost t _ h.0, h.1)

constructor_comes : {s : Scope} (d : Stated) (o : Own) (c : Constructor) (t : Scope) → IsBeside s t → Comes (IsBeside s) (constructor_behind d o c t)
constructor_comes {s = s} d o c t h =
    unless_comes (IsBeside s) (name_refusal t c.name) (behind (with_constructor o.number (with_next t c.name)) (sorts_within (with_next t c.name) d o c.arguments))
    (behind_comes Any (IsBeside s) (with_constructor o.number (with_next t c.name)) (sorts_within (with_next t c.name) d o c.arguments) (λ ts e. tt) (λ ts i. constructor_comes_to o.number (with_next t c.name) ts (behind_next t c.name h.0, h.1)))

constructors_come : {s : Scope} (d : Stated) (o : Own) (cs : List Constructor) (t : Scope) → IsBeside s t → Comes (IsBeside s) (constructors_behind d o cs t)
constructors_come {s = s} d o [] t h = ok_comes (IsBeside s) h
constructors_come {s = s} d o (c ∷ cs) t h = behind_comes (IsBeside s) (IsBeside s) (constructors_behind d o cs) (constructor_behind d o c t) (constructor_comes d o c t h) (λ u j. constructors_come d o cs u j)

complete_if : {s : Scope} (b : Bool) (t u : Scope) (r : Refusal) → IsBehind s t → t.locals ≡ s.locals → bare u ≡ bare t → u.locals ≡ t.locals → u.names ≡ t.names → u.declarations ≡ t.declarations → Comes (IsBeside s) (if b then Ok u else Err r)
complete_if {s = s} true t u r h e b l n d = ok_comes (IsBeside s) (behind_too u h l b n d, l ∙ e)
complete_if {s = s} false t u r h e b l n d = λ v f. absurd (apart f)

complete_comes : {s : Scope} (o : Own) (first : ℕ) (t : Scope) → IsBeside s t → Comes (IsBeside s) (complete o first t)
complete_comes {s = s} o first t h = complete_if (is_inhabited (with_datatype t o first) o.number) t _ _ h.0 h.1 refl refl refl refl

body_comes : {s : Scope} (d : Stated) (cs : List Constructor) (t : Scope) (o : Own) → IsBeside s t → Comes (IsBeside s) (body_behind d cs t o)
body_comes {s = s} d cs t o h = behind_comes (IsBeside s) (IsBeside s) (complete o (length t.ghosts)) (constructors_behind d o cs t) (constructors_come d o cs t h) (λ u j. complete_comes o (length t.ghosts) u j)

begun_beside : {s : Scope} → IsOrderly s → (n : Name) → IsBeside s (begun s n)
begun_beside {s = s} o n = (behind_ghost (with_next s n) _ (behind_next s n (behind_itself o)), refl)

-- what a datatype declares is not seen
pub datatype : {s : Scope} → IsOrderly s → (d : Stated) (n : Name) (ns : List Name) (cs : List Constructor) → Comes (IsUnseen s) (datatype_behind d n ns cs s)
datatype {s = s} o d n ns cs =
    unless_comes (IsUnseen s) (name_refusal s n) (behind (λ (ps : List (List ℕ)). body_behind d cs (begun s n) (own s n ps)) (names.parameters_behind (begun s n) ns []))
    (behind_comes Any (IsUnseen s) (λ (ps : List (List ℕ)). body_behind d cs (begun s n) (own s n ps)) (names.parameters_behind (begun s n) ns []) (λ ps e. tt)
    (λ ps i t e. let h = body_comes d cs (begun s n) (own s n ps) (begun_beside o n) t e in unseen o h.0 h.1))
