-- The body of a fixpoint that is accepted is accepted where what is declared is preserved.
use Rattle.std.proofs.Common.{◌≡◌, refl, sym, subst, ◌∙◌, ap, ℕ, Bool, true, false, ◌&&◌, ◌||◌, if◌then◌else◌, List, [], ◌∷◌, ◌++◌, length, codes, is_some, map, Option, Some, None, Result, Ok, zero, suc, take, arith, append-nil, append_assoc}
use Rattle.std.proofs.lemmas.List.{length-map}
use Rattle.std.specs.Str.{bytes_eq}
use Rattle.vf_base.specs.declared.refusal.Refusal.{Refusal}
use Rattle.vf_base.specs.declared.rule.Rule.TheVariants as rules
use Rattle.vf_names.specs.Names.{number_of}
use Rattle.vf_sorts.specs.Sorts.{Sort}
use Rattle.vf_sorts.specs.Unknowns.{Known, instance}
use Rattle.vf_sorts.specs.Unifying.{Equates}
use Rattle.vf_declared.specs.declared.declaration.Fixpoint.{Fixpoint}
use Rattle.vf_declared.specs.declared.declaration.GhostDeclaration.{GhostDeclaration}
use Rattle.vf_declared.specs.declared.declaration.GhostDeclaration.TheVariants as ghosts
use Rattle.vf_declared.specs.declared.locals.Local.{Local}
use Rattle.vf_declared.specs.declared.locals.Locals.{Locals}
use Rattle.vf_declared.specs.declared.scope.Scope.{Scope}
use Rattle.vf_declared.specs.Changes.{IsAligned, first_locals}
use Rattle.vf_declared.specs.Scopes.{datatype_of, declaration_of, ghost_of, local_of}
use Rattle.vf_syntax.specs.declared.item.FixpointBody.{FixpointBody}
use Rattle.vf_syntax.specs.declared.item.FixpointCase.{FixpointCase}
use Rattle.vf_syntax.specs.declared.written.Name.{Name}
use Rattle.vf_syntax.specs.GhostExprTree.{GhostExprTree}
use Rattle.vf_sorting.specs.declared.context.Context.{Context}
use Rattle.vf_sorting.specs.Kinds.{datatype_sort, with_fresh}
use Rattle.vf_sorting.specs.Refusals.{refused}
use Rattle.vf_sorting.specs.Schemes.{count_in, sort_of_local}
use Rattle.vf_binding.specs.declared.bound.Bound.{Bound}
use Rattle.vf_binding.specs.Bound.{bound_local, is_of_c, is_real, name_refusal, with_names}
use Rattle.vf_asserting.specs.Cases.{arguments_at, arguments_in, case_arguments, case_number, datatype_in, ghost_number, names_or_none, takes, taking}
use Rattle.vf_asserting.specs.Cases as cases
use Rattle.vf_asserting.specs.Leaving.{count, left}
use Rattle.vf_asserting.specs.Switches.{case_sorts, parameters_of, unknown_datatype}
use Rattle.vf_equations.specs.Fixpoints.{around_fixpoint, result_in, result_of}
use Rattle.vf_equations.specs.Fixpoints as fixpoints
use Rattle.vf_equations.specs.Switching.{are_constructors, sort_in, switched_sort}
use Rattle.vf_equations.specs.Switching as switching
use Rattle.vf_equations.specs.Values as values
use Rattle.vf_fixpoint_laws.specs.definable.Naming.{EachName, EachNameOfBody, EachNameOfCase, EachNameOfCases, EachOf}
use Rattle.vf_fixpoint_laws.specs.definable.Preserved.{Preserves, PreservesDatatypes}
use Rattle.vf_erasure_laws.proofs.hidden.Binding as binding
use Rattle.vf_erasure_laws.proofs.hidden.Lists.{beside}
use Rattle.vf_fixpoint_laws.proofs.definable.Lists.{take_front}
use Rattle.vf_fixpoint_laws.proofs.definable.Names.{local_same}
use Rattle.vf_fixpoint_laws.proofs.definable.Seeing.{meaning_with, predicates_with, with_locals}
use Rattle.vf_fixpoint_laws.proofs.definable.Sorting.{value_kept}

none_some : {A B : Type 0} {a : A} → ◌≡◌ {A = Option A} None (Some a) → B
none_some e = absurd cc

-- ---- other locals
pub still_preserves : {P : List ℕ → Type 0} {s t : Scope} → Preserves P s t → (l m : Locals) → IsAligned l → m ≡ l → Preserves P (with_locals s l) (with_locals t m)
still_preserves {s = s} {t = t} h l m a e = record {
  locals = e;
  aligned = a;
  has_stdlib = h.has_stdlib;
  names = λ x from a. meaning_with t m x from ∙ (h.names x from a ∙ sym (meaning_with s l x from));
  predicates = λ x from a. predicates_with t m x from ∙ (h.predicates x from a ∙ sym (predicates_with s l x from));
  function_types = λ x from n e. meaning_with t m x from ∙ h.function_types x from n (sym (meaning_with s l x from) ∙ e);
  annotations = h.annotations;
  constructors = h.constructors;
}

-- with more names among the locals
with_more : {P : List ℕ → Type 0} {s t : Scope} → Preserves P s t → (b : Bound) → length b.names ≡ length b.sorts → Preserves P (with_names s b) (with_names t b)
with_more {s = s} {t = t} h b a =
    still_preserves h (record { names = s.locals.names ++ b.names; meanings = s.locals.meanings ++ map bound_local b.sorts }) (record { names = t.locals.names ++ b.names; meanings = t.locals.meanings ++ map bound_local b.sorts })
    (beside s.locals.names b.names s.locals.meanings (map bound_local b.sorts) h.aligned (a ∙ sym (length-map b.sorts bound_local)))
    (ap (λ (l : Locals). record { names = l.names ++ b.names; meanings = l.meanings ++ map bound_local b.sorts }) h.locals)

first_aligned : {A B : Type 0} (n : ℕ) (xs : List A) (ys : List B) → length xs ≡ length ys → length (take n xs) ≡ length (take n ys)
first_aligned zero xs ys e = refl
first_aligned (suc n) [] [] e = refl
first_aligned (suc n) [] (y ∷ ys) e = absurd (omega (arith, e))
first_aligned (suc n) (x ∷ xs) [] e = absurd (omega (arith, e))
first_aligned (suc n) (x ∷ xs) (y ∷ ys) e = ap suc (first_aligned n xs ys (omega (arith, e)))

-- with the first locals alone
left_of : {P : List ℕ → Type 0} {s t : Scope} → Preserves P s t → (n m : ℕ) → m ≡ n → Preserves P (left n s) (left m t)
left_of {s = s} {t = t} h n m e = still_preserves h (first_locals s.locals n) (first_locals t.locals m) (first_aligned n s.locals.names s.locals.meanings h.aligned) (λ i. first_locals (h.locals i) (e i))

same_count : {P : List ℕ → Type 0} {s t : Scope} → Preserves P s t → count t ≡ count s
same_count h = ap (λ (l : Locals). length l.names) h.locals

-- ---- names of cases
refusal_same : {P : List ℕ → Type 0} {s t : Scope} → Preserves P s t → (b : Bound) (n : Name) → P n.text → name_refusal t b n ≡ name_refusal s b n
refusal_same h b n a = λ i.
    if is_real (local_same h n.text i) || (is_of_c (h.names n.text n.place.file a i) || (h.has_stdlib i && bytes_eq n.text (codes "free"))) then Some (refused rules.GhostInReal n.place)
    else (if is_some (number_of (h.locals i).names n.text) || is_some (number_of b.names n.text) then Some (refused rules.Name n.place) else None)

names_kept : {P : List ℕ → Type 0} {s t : Scope} → Preserves P s t → {b b' : Bound} {ns : List Name} {ts : List Sort} → EachOf P ns → cases.NamesBind s b ns ts b' → cases.NamesBind t b ns ts b'
names_kept h p cases.none_bind = cases.none_bind
names_kept h p (cases.one_binds {b = b} {n = n} e a) = cases.one_binds (refusal_same h b n p.0 ∙ e) (names_kept h p.1 a)

-- the names that are bound are those of the case
names_bound : {s : Scope} {b b' : Bound} {ns : List Name} {ts : List Sort} → cases.NamesBind s b ns ts b' → b'.names ≡ b.names ++ map (λ (n : Name). n.text) ns
names_bound (cases.none_bind {b = b}) = sym (append-nil b.names)
names_bound (cases.one_binds {b = b} {n = n} {ns = ns} e a) = names_bound a ∙ append_assoc b.names (n.text ∷ []) (map (λ (n : Name). n.text) ns)

-- ---- what cases are for
-- a case is for something that annotations declare
record IsFor (s : Scope) (x : FixpointCase) : Type 0 where
  number : ℕ
  meant : ghost_number (declaration_of s x.pattern.constructor.text x.pattern.constructor.place.file) ≡ Some number
  declaration : GhostDeclaration
  is : ghost_of s number ≡ Some declaration

abbrev AreFor : Scope → List FixpointCase → Type 0
AreFor s [] = Unit {0}
AreFor s (x ∷ xs) = IsFor s x × AreFor s xs

both_true : (a b : Bool) → (a && b) ≡ true → (a ≡ true) × (b ≡ true)
both_true true b e = (refl, e)
both_true false b e = absurd (let f : false ≡ true = e in cc)

is_for : (s : Scope) (d : ℕ) (x : FixpointCase) (o : Option ℕ) (g : Option GhostDeclaration) → ghost_number (declaration_of s x.pattern.constructor.text x.pattern.constructor.place.file) ≡ o → is_some (taking s d (length (names_or_none x.pattern.names)) o) ≡ true → ((n : ℕ) → o ≡ Some n → ghost_of s n ≡ g) → IsFor s x
is_for s d x None g e f h = absurd (let k : false ≡ true = f in cc)
is_for s d x (Some n) None e f h = absurd (let k : false ≡ true = ap (λ g. is_some (if takes d (length (names_or_none x.pattern.names)) g then Some n else None)) (sym (h n refl)) ∙ f in cc)
is_for s d x (Some n) (Some g) e f h = record { number = n; meant = e; declaration = g; is = h n refl }

abbrev at_or_none : (s : Scope) → Option ℕ → Option GhostDeclaration
at_or_none s None = None
at_or_none s (Some n) = ghost_of s n

are_for : (s : Scope) (d : ℕ) (cs : List FixpointCase) → are_constructors s d cs ≡ true → AreFor s cs
are_for s d [] e = tt
are_for s d (x ∷ xs) e =
    let r = both_true (is_some (case_number s d x.pattern)) (are_constructors s d xs) e in
    let o = ghost_number (declaration_of s x.pattern.constructor.text x.pattern.constructor.place.file) in
    (is_for s d x o (at_or_none s o) refl r.0 (λ n f. sym (ap (at_or_none s) f)), are_for s d xs r.1)

for_with : (s : Scope) (l : Locals) (cs : List FixpointCase) → AreFor s cs → AreFor (with_locals s l) cs
for_with s l [] h = tt
for_with s l (x ∷ xs) h = (record { number = h.0.number; meant = ap ghost_number (meaning_with s l x.pattern.constructor.text x.pattern.constructor.place.file) ∙ h.0.meant; declaration = h.0.declaration; is = h.0.is }, for_with s l xs h.1)

-- a case is for the same
number_kept : {P : List ℕ → Type 0} {s t : Scope} → Preserves P s t → (d : ℕ) (x : FixpointCase) → P x.pattern.constructor.text → IsFor s x → case_number t d x.pattern ≡ case_number s d x.pattern
number_kept {s = s} {t = t} h d x p f =
    let m = length (names_or_none x.pattern.names) in
    ap (λ o. taking t d m (ghost_number o)) (h.names x.pattern.constructor.text x.pattern.constructor.place.file p)
    ∙ (ap (taking t d m) f.meant
    ∙ (ap (λ g. if takes d m g then Some f.number else None) (h.annotations f.number f.declaration f.is ∙ sym f.is)
    ∙ sym (ap (taking s d m) f.meant)))

constructors_kept : {P : List ℕ → Type 0} {s t : Scope} → Preserves P s t → (d : ℕ) (ls : List (List ℕ)) (cs : List FixpointCase) → EachNameOfCases P ls cs → AreFor s cs → are_constructors t d cs ≡ are_constructors s d cs
constructors_kept h d ls [] p f = refl
constructors_kept h d ls (x ∷ xs) p f = λ i. is_some (number_kept h d x p.0.constructor f.0 i) && constructors_kept h d ls xs p.1 f.1 i

arguments_kept : {P : List ℕ → Type 0} {s t : Scope} → Preserves P s t → (x : FixpointCase) → P x.pattern.constructor.text → IsFor s x → case_arguments t x.pattern ≡ case_arguments s x.pattern
arguments_kept {s = s} {t = t} h x p f =
    ap (λ o. arguments_at t (ghost_number o)) (h.names x.pattern.constructor.text x.pattern.constructor.place.file p)
    ∙ (ap (arguments_at t) f.meant
    ∙ (ap arguments_in (h.annotations f.number f.declaration f.is ∙ sym f.is)
    ∙ sym (ap (arguments_at s) f.meant)))

-- ---- cases
-- behind something that is given in one scope, what is given in another preserves it
record AreGiven (c : Context) (u : Sort) (m : ℕ) (t : Scope) (k : Known) (cs : List FixpointCase) (s' : Scope) (k' : Known) : Type 0 where
  scope : Scope
  given : values.CasesGive c u m t k cs scope k'

case_kept : {P : List ℕ → Type 0} {s t : Scope} → Preserves P s t → {c : Context} {u : Sort} {m : ℕ} {k k' : Known} {x : FixpointCase} {b : Bound} → EachNameOfCase P s.locals.names x → IsFor s x → cases.NamesBind s (record { names = []; sorts = [] }) (names_or_none x.pattern.names) (case_sorts s 0 m x.pattern) b → values.ValuePasses (with_names s b) c u k x.value k' → values.CaseGives c u m t k x (left (count t) (with_names t b)) k'
case_kept {P = P} {s = s} {t = t} h {m = m} {x = x} {b = b} p f n v =
    values.a_case (subst (λ ts. cases.NamesBind t (record { names = []; sorts = [] }) (names_or_none x.pattern.names) ts b) (sym (ap (map (instance 0 m)) (arguments_kept h x p.constructor f))) (names_kept h p.arguments n)) (value_kept (with_more h b (binding.names n refl)) (subst (λ ns. EachName P (s.locals.names ++ ns) x.value) (sym (names_bound n)) p.value) v)

cases_kept : {P : List ℕ → Type 0} {c : Context} {u : Sort} {m : ℕ} {s t : Scope} → Preserves P s t → {k k' : Known} {cs : List FixpointCase} {s' : Scope} → EachNameOfCases P s.locals.names cs → AreFor s cs → values.CasesGive c u m s k cs s' k' → AreGiven c u m t k cs s' k'
cases_kept {t = t} h p f values.no_cases = record { scope = t; given = values.no_cases }
cases_kept {P = P} {s = s} {t = t} h p f (values.more_cases {xs = xs} (values.a_case {x = x} {b = b} n v) a) =
    let one = case_kept h p.0 f.0 n v in
    let more = cases_kept (left_of (with_more h b (binding.names n refl)) (count s) (count t) (same_count h)) (subst (λ ns. EachNameOfCases P ns xs) (sym (take_front s.locals.names b.names)) p.1) (for_with s (first_locals (with_names s b).locals (count s)) _ f.1) a in
    record { scope = more.scope; given = values.more_cases one more.given }

-- ---- what is switched over
sort_kept : (s t : Scope) (n : Name) (o : Option Local) (u : Sort) → sort_in s n o ≡ Ok u → sort_in t n o ≡ Ok u
sort_kept s t n None u e = absurd cc
sort_kept s t n (Some l) u e = e

datatype_same : {s t : Scope} → PreservesDatatypes s t → (n : Name) (o : Option Local) (u : Sort) (d : ℕ) → local_of s n.text ≡ o → sort_in s n o ≡ Ok u → datatype_in u ≡ Some d → datatype_of t d ≡ datatype_of s d
datatype_same h n None u d e f i = absurd cc
datatype_same h n (Some l) u d e f i = h.same n.text l d e (ap datatype_in (is f) ∙ i)
  where
    is : ◌≡◌ {A = Result Sort Refusal} (Ok (sort_of_local l)) (Ok u) → sort_of_local l ≡ u
    is e = cc

switches_kept : {P : List ℕ → Type 0} {s t : Scope} → Preserves P s t → PreservesDatatypes s t → {n : Name} {cs : List FixpointCase} {p : ℕ} {k : Known} → EachNameOfCases P s.locals.names cs → switching.Switches s n cs p k → switching.Switches t n cs p k × AreFor s cs
switches_kept {s = s} {t = t} h j {n = n} {cs = cs} y (switching.switches {k = k} {t = u} {d = d} e b i a q) =
    let f = are_for s d cs a in
    let same = datatype_same j n (local_of s n.text) u d refl e i in
    let many : parameters_of t d ≡ parameters_of s d = ap count_in same in
    let unknown : unknown_datatype t 0 d ≡ unknown_datatype s 0 d = ap (λ m. instance 0 m (datatype_sort d m)) many in
    let sorted : switched_sort t n ≡ Ok u = ap (sort_in t n) (local_same h n.text) ∙ sort_kept s t n (local_of s n.text) u e in
    let equal : Equates (with_fresh [] (parameters_of t d)) u (unknown_datatype t 0 d) k = subst (λ m. Equates (with_fresh [] m) u (instance 0 m (datatype_sort d m)) k) (sym many) q in
    (subst (λ m. switching.Switches t n cs m k) many (switching.switches sorted b i (constructors_kept h d s.locals.names cs y f ∙ a) equal), f)

-- ---- whole bodies
result_kept : {P : List ℕ → Type 0} {s t : Scope} → Preserves P s t → (n : ℕ) (f : Fixpoint) → ghost_of s n ≡ Some (ghosts.Fixpoint f) → result_of t n ≡ result_of s n
result_kept h n f e = ap result_in (h.annotations n (ghosts.Fixpoint f) e ∙ sym e)

value_comes : {P : List ℕ → Type 0} {s t : Scope} → Preserves P s t → (n : ℕ) (f : Fixpoint) → ghost_of s n ≡ Some (ghosts.Fixpoint f) → {k k' : Known} {e : GhostExprTree} → EachName P s.locals.names e → values.ValuePasses s (around_fixpoint n) (result_of s n) k e k' → values.ValuePasses t (around_fixpoint n) (result_of t n) k e k'
value_comes {t = t} h n f g {k = k} {k' = k'} {e = e} y v = subst (λ u. values.ValuePasses t (around_fixpoint n) u k e k') (sym (result_kept h n f g)) (value_kept h y v)

pub equations_kept : {P : List ℕ → Type 0} {s t : Scope} → Preserves P s t → PreservesDatatypes s t → (l m n : ℕ) (f : Fixpoint) → ghost_of s n ≡ Some (ghosts.Fixpoint f) → (b : FixpointBody) (u : Scope) → EachNameOfBody P s.locals.names b → fixpoints.EquationsCome l n s b (Ok u) → (v : Scope) × fixpoints.EquationsCome m n t b (Ok v)
equations_kept {t = t} h j l m n f g b u y (fixpoints.value v) = (left m t, fixpoints.value (value_comes h n f g y v))
equations_kept {s = s} {t = t} h j l m n f g b u y (fixpoints.cases {cs = cs} {p = p} {k = k} {k' = k'} w a) =
    let r = switches_kept h j y w in
    let c = cases_kept h y r.1 a in
    (left m c.scope, fixpoints.cases r.0 (subst (λ o. values.CasesGive (around_fixpoint n) o p t k cs c.scope k') (sym (result_kept h n f g)) c.given))
