-- Whole functions.
use Rattle.std.proofs.Common.{◌≡◌, ℕ, zero, suc, ◌+◌, nat_eq, slice_get, Bool, true, false, List, [], ◌∷◌, ◌++◌, length, map, if◌then◌else◌, Option, Some, None, Ok, Err, refl, sym, ap, subst, ◌∙◌, append_assoc, arith}
use Rattle.std.proofs.lemmas.List.{append-nil}
use Rattle.vf_base.specs.declared.place.Place.{Place}
use Rattle.vf_base.specs.declared.rule.Rule.TheVariants as rules
use Rattle.vf_names.specs.Names.{number_of}
use Rattle.vf_declared.specs.declared.ctype.CType.{CType}
use Rattle.vf_declared.specs.declared.locals.Local.TheVariants as locals
use Rattle.vf_declared.specs.declared.locals.Locals.{Locals}
use Rattle.vf_declared.specs.declared.scope.Scope.{Scope}
use Rattle.vf_declared.specs.Writing.{with_body}
use Rattle.vf_syntax.specs.declared.contract.Contract.{Contract}
use Rattle.vf_syntax.specs.declared.item.Body.{Body}
use Rattle.vf_syntax.specs.declared.item.Signature.{Signature as WrittenSignature}
use Rattle.vf_syntax.specs.declared.item.Typed.{Typed}
use Rattle.vf_syntax.specs.declared.written.CType.{CType as WrittenType}
use Rattle.vf_syntax.specs.declared.written.Name.{Name}
use Rattle.vf_syntax.specs.declared.written.ResultType.{ResultType}
use Rattle.vf_syntax.specs.declared.written.ResultType.TheVariants as results
use Rattle.vf_syntax.specs.StmtTree.{StmtTrees, stmt_list}
use Rattle.vf_typing.specs.Names.{written_type}
use Rattle.vf_typing.specs.Refusals.{refused}
use Rattle.vf_walk.specs.declared.function.Head.{Head}
use Rattle.vf_walk.specs.Items.{again_in, declared_as, defined, function_number, head, head_giving, head_of, is_main, listed, main_is_right, no_locals, parameters_walked, real_types, result_type, signature_of, signature_walked, WalksBodyIf, WalksDefinition, without_locals}
use Rattle.vf_walk.specs.Names.{earlier, has_types}
use Rattle.vf_walk.specs.Meanings.{Meanings}
use Rattle.vf_walk.specs.Statements.{variable, WalksStmts}
use Rattle.vf_lower.specs.Lowering.{Lowered, gives, ◌⨾◌, taken}
use Rattle.vf_lower.specs.Settings.{Setting}
use Rattle.vf_lower.specs.Statements.{body, type_in, with_variable}
use Rattle.vf_functions.specs.Definitions.{core_of, given, outside, parameters}
use Rattle.vf_functions.specs.Erased.{PlainTree, erased, erased_core}
use Rattle.vf_erasure_laws.specs.plain.Stripped.{stripped_body, stripped_stmts}
use Rattle.vf_erasure_laws.proofs.plain.UnitsKept.{parts_same}
use Rattle.vf_erasure_laws.specs.seen.Seen.{IsOrderly, real_locals, seen}
use Rattle.vf_erasure_laws.specs.seen.Unseen.{AreUnseen}
use Rattle.vf_erasure_laws.specs.erased.Erasure.{AreErasedAlike, among_locals, seen_by_c}
use Rattle.vf_erasure_laws.specs.erased.Walks.{AreTyped, IsSettled}
use Rattle.vf_erasure_laws.proofs.seen.Leading.{led}
use Rattle.vf_erasure_laws.proofs.seen.Lookups.{finds_seen, seen_is}
use Rattle.vf_erasure_laws.proofs.seen.Same.{meaning_same}
use Rattle.vf_erasure_laws.proofs.erased.Bodies.{bodies_are_erased}
use Rattle.vf_erasure_laws.proofs.erased.Keeping.{Keeps, keeps_again, keeps_function, keeps_names, keeps_then, type_stays}
use Rattle.vf_erasure_laws.proofs.erased.WalkingContracts.{body_orderly, body_typed, contracted, seen_without}
use Rattle.vf_erasure_laws.proofs.erased.WalkingExtends.{more as more_locals, stmts_extend, variable_declares}
use Rattle.vf_erasure_laws.proofs.erased.WalkingFunctions.{head_seen, signature_signs}
use Rattle.vf_erasure_laws.proofs.erased.WalkingLists.{all_real, all_real_names, types_of_types}
use Rattle.vf_erasure_laws.proofs.erased.WalkingNames.{again_locals}
use Rattle.vf_erasure_laws.proofs.erased.WalkingSteps.{apart, ok_same, through, went}
use Rattle.vf_erasure_laws.proofs.erased.WalkingTypes.{texts}

-- parameters have types, whatever locals there are
pub data HaveTypes (s : Scope) : List Typed → List CType → Type 0 where
  none : HaveTypes s [] []
  more : {x : Typed} {ps : List Typed} {t : CType} {ts : List CType} → ((l : Locals) → written_type (record s { locals = l }) x.written ≡ Ok t) → HaveTypes s ps ts → HaveTypes s (x ∷ ps) (t ∷ ts)

-- so many numbers from one on
counted : ℕ → ℕ → List ℕ
counted n zero = []
counted n (suc k) = n ∷ counted (n + 1) k

length_counted : (n k : ℕ) → length (counted n k) ≡ k
unfolding counted
length_counted n zero = refl
length_counted n (suc k) = ap suc (length_counted (n + 1) k)

-- a setting with more locals of C
placed : Setting → List (List ℕ) → List CType → ℕ → Setting
placed c xs ts n = record {
  scope = record c.scope { locals = record { names = c.scope.locals.names ++ xs; meanings = c.scope.locals.meanings ++ map locals.Real ts } };
  numbers = c.numbers ++ counted n (length ts);
  statement = c.statement;
}

placed_none : (c : Setting) (n : ℕ) → placed c [] [] n ≡ c
unfolding placed counted
placed_none c n = λ i. record { scope = record c.scope { locals = record { names = append-nil c.scope.locals.names i; meanings = append-nil c.scope.locals.meanings i } }; numbers = append-nil c.numbers i; statement = c.statement }

placed_more : (c : Setting) (x : List ℕ) (t : CType) (xs : List (List ℕ)) (ts : List CType) (n : ℕ) → placed (with_variable c x t n) xs ts (n + 1) ≡ placed c (x ∷ xs) (t ∷ ts) n
unfolding placed counted
placed_more c x t xs ts n = λ i. record {
  scope = record c.scope { locals = record { names = append_assoc c.scope.locals.names (x ∷ []) xs i; meanings = append_assoc c.scope.locals.meanings (locals.Real t ∷ []) (map locals.Real ts) i } };
  numbers = append_assoc c.numbers (n ∷ []) (counted (n + 1) (length ts)) i;
  statement = c.statement;
}

-- what parameters become
parameters_are : (s : Scope) (c : Setting) (l : Locals) → c.scope ≡ record s { locals = l } → {ps : List Typed} {ts : List CType} → HaveTypes s ps ts → (n : ℕ) → parameters c ps n ≡ record { left = placed c (texts ps) ts n; nodes = []; locals = ts }
unfolding gives ◌⨾◌ taken
parameters_are s c l e none n = ap (λ d. record { left = d; nodes = []; locals = [] }) (sym (placed_none c n))
parameters_are s c l e (more {x} {ps} {t} {ts} h k) n =
    let is : type_in (written_type c.scope x.written) ≡ t = ap (λ u. type_in (written_type u x.written)) e ∙ ap type_in (h l) in
    let rest = parameters_are s (with_variable c x.name.text t n) _ (ap (λ (u : Scope). record u { locals = record { names = c.scope.locals.names ++ x.name.text ∷ []; meanings = c.scope.locals.meanings ++ locals.Real t ∷ [] } }) e) k (n + 1) in
    ap (λ u. behind u (parameters (with_variable c x.name.text u n) ps (n + 1))) is ∙ ap (behind t) rest ∙ ap (λ d. record { left = d; nodes = []; locals = t ∷ ts }) (placed_more c x.name.text t (texts ps) ts n)
  where
    behind : CType → Lowered Setting → Lowered Setting
    behind u m = record { left = m.left; nodes = m.nodes; locals = u ∷ m.locals }

-- a function without annotations, by its parameters and what its body becomes
plain_of : WrittenSignature → Body → List CType → Lowered (Unit {0}) → PlainTree
plain_of g b ts m = record { name = g.name; locals = ts ++ m.locals; nodes = erased m.nodes; closing = b.last }

-- a function in steps, given what its parameters and its result are
core_is : (s : Scope) (g : WrittenSignature) (c : Option Contract) (b : Body) (ts : List CType) (r : CType) (xs : StmtTrees) → HaveTypes s (listed g.parameters) ts → given s g.«result» ≡ r → stmt_list b.statements ≡ xs
    → erased_core (core_of s g c b) ≡ plain_of g b ts (body (placed (outside s g.name.place) (texts (listed g.parameters)) ts 0) r (is_main g.name.text) xs b.last (length ts))
unfolding plain_of ◌⨾◌
core_is s g c b ts r xs h e k =
    let first = parameters_are s (outside s g.name.place) s.locals refl h 0 in
    (λ i. erased_core (record { name = g.name; contract = c; locals = (first i).locals ++ (body (first i).left (e i) (is_main g.name.text) (k i) b.last (0 + length (first i).locals)).locals; nodes = (first i).nodes ++ (body (first i).left (e i) (is_main g.name.text) (k i) b.last (0 + length (first i).locals)).nodes; closing = b.last }))
    ∙ ap (λ n. plain_of g b ts (body (placed (outside s g.name.place) (texts (listed g.parameters)) ts 0) r (is_main g.name.text) xs b.last n)) (let z : 0 + length ts ≡ length ts = omega arith in z)

-- the types of parameters that a walk declares
record Typed_all (ps : List Typed) (s t : Scope) : Type 0 where
  types : List CType
  typed : HaveTypes s ps types
  is : t ≡ more_locals s (texts ps) (map locals.Real types)

any_locals : (s : Scope) (l : Locals) (w : WrittenType) (c : CType) → written_type s w ≡ Ok c → written_type (record s { locals = l }) w ≡ Ok c
any_locals s l w c e = led (type_stays s (record s { locals = l }) (record { file = refl; headers = refl; tags = refl; structures = refl; means = λ x f m q k. meaning_same s l x f ∙ k }) w) e

-- what has types among other locals has them
from_locals : {s : Scope} (l : Locals) {ps : List Typed} {ts : List CType} → HaveTypes (record s { locals = l }) ps ts → HaveTypes s ps ts
from_locals l none = none
from_locals l (more h k) = more h (from_locals l k)

all_typed : {t : Scope} (ps : List Typed) (s : Scope) → parameters_walked ps s ≡ Ok t → Typed_all ps s t
all_typed [] s h = record { types = []; typed = none; is = sym (ok_same h) ∙ (λ i. record s { locals = record { names = sym (append-nil s.locals.names) i; meanings = sym (append-nil s.locals.meanings) i } }) }
all_typed (x ∷ ps) s h =
    let k = through (parameters_walked ps) (variable x.name x.written s) h in
    let d = variable_declares x.written x.name k.first in
    let rest = all_typed ps k.at k.next in
    let c = d.type in
    record {
      types = c ∷ rest.types;
      typed = more (λ l. any_locals s l x.written c d.declares.written) (from_locals (record { names = s.locals.names ++ x.name.text ∷ []; meanings = s.locals.meanings ++ locals.Real c ∷ [] }) (subst (λ (u : Scope). HaveTypes u ps rest.types) d.declares.is rest.typed));
      is = rest.is ∙ ap (λ (u : Scope). more_locals u (texts ps) (map locals.Real rest.types)) d.declares.is
          ∙ (λ i. record s { locals = record { names = append_assoc s.locals.names (x.name.text ∷ []) (texts ps) i; meanings = append_assoc s.locals.meanings (locals.Real c ∷ []) (map locals.Real rest.types) i } });
    }

-- types stay where more is declared
typed_stay : (s t : Scope) → Keeps s t → {ps : List Typed} {ts : List CType} → HaveTypes s ps ts → HaveTypes t ps ts
typed_stay s t k none = none
typed_stay s t k (more {x} {t = c} h rest) = more (λ l. any_locals t l x.written c (led (type_stays s t k x.written) (h s.locals))) (typed_stay s t k rest)

given_stays : (s t : Scope) → Keeps s t → (r : ResultType) (c : CType) → result_type s r ≡ Ok c → given t r ≡ c
given_stays s t k (results.Void p) c h = ok_same h
given_stays s t k (results.Value w) c h = ap type_in (led (type_stays s t k w) h)

-- what C text sees of names and tags
keeps_seen : (s : Scope) → Keeps s (seen s)
keeps_seen s = subst (Keeps s) (sym (seen_is s)) (record { file = refl; headers = refl; tags = refl; structures = refl; means = (finds_seen s).declared })

-- where other locals stand, names and tags mean the same
keeps_locals : (s : Scope) (l : Locals) → Keeps s (record s { locals = l })
keeps_locals s l = keeps_names s (record s { locals = l }) refl refl refl refl refl refl

keeps_body : (s : Scope) (k : ℕ) → Keeps s (with_body s k)
keeps_body s k = keeps_names s (with_body s k) refl refl refl refl refl refl

-- what is declared behind the parameters of a function
record Declared_behind (s u : Scope) : Type 0 where
  keeps : Keeps s u
  locals : u.locals ≡ s.locals

declared_behind : (n : Name) (c : CType) (o : Option ℕ) (s u : Scope) → length s.names ≡ length s.declarations → declared_as n c o s ≡ Ok u → Declared_behind s u
declared_behind n c None s u a h = subst (Declared_behind s) (ok_same h) (record { keeps = keeps_function s n.text n.place.file (signature_of c s) a; locals = refl })
declared_behind n c (Some k) s u a h = by_test (has_types c (real_types s.locals.meanings) (slice_get s.functions k)) h
  where
    by_test : (b : Bool) → (if b then Ok (again_in n.place.file (number_of s.names n.text) s) else Err (refused rules.Name n.place)) ≡ Ok u → Declared_behind s u
    by_test true h = subst (Declared_behind s) (ok_same h) (record { keeps = keeps_again s n.text n.place.file; locals = again_locals s n.place.file (number_of s.names n.text) })
    by_test false h = absurd (apart h)

-- the head of a function gives the type that it has
head_gives : (s : Scope) (g : WrittenSignature) (body : Bool) (h : Head) → head s g body ≡ Ok h → result_type s g.«result» ≡ Ok h.given
head_gives s g body h e =
    let k = through (head_giving s g body) (result_type s g.«result») e in
    let j = through (head_of k.at g) (earlier s g.name body) k.next in
    k.first ∙ ap Ok (by_test j.at k.at (main_is_right k.at g) j.next)
  where
    by_test : (q : Option ℕ) (c : CType) (b : Bool) → (if b then Ok (record { given = c; earlier = q }) else Err (refused rules.Typing g.name.place)) ≡ Ok h → c ≡ h.given
    by_test q c true e = ap (λ (h : Head). h.given) (ok_same e)
    by_test q c false e = absurd (apart e)

of_body : (x : Bool) (m : Meanings) (r : CType) (b : Body) (s t : Scope) → WalksBodyIf x m r b s (Ok t) → WalksStmts m r (stmt_list b.statements) s (Ok t)
of_body true m r b s t h = h
of_body false m r b s t h = absurd (apart h.is)

seen_locals : (s : Scope) → (seen s).locals ≡ real_locals s.locals
unfolding seen
seen_locals s = refl

-- parameters are locals of C
parameters_real : (xs : List (List ℕ)) (ts : List CType) → length xs ≡ length ts → real_locals (record { names = xs; meanings = map locals.Real ts }) ≡ record { names = xs; meanings = map locals.Real ts }
unfolding real_locals
parameters_real xs ts e = λ i. record { names = all_real_names xs ts e i; meanings = all_real ts i }

-- the settings in which a body stands
with_annotations : (u t : Scope) (p : Place) (xs : List (List ℕ)) (ts : List CType) → t ≡ without_locals u → real_locals u.locals ≡ record { names = xs; meanings = map locals.Real ts } → placed (outside t p) xs ts 0 ≡ among_locals u (counted 0 (length ts)) p
unfolding placed
with_annotations u t p xs ts e h =
    (λ i. record { scope = record (e i) { locals = record { names = (e i).locals.names ++ xs; meanings = (e i).locals.meanings ++ map locals.Real ts } }; numbers = counted 0 (length ts); statement = p })
    ∙ (λ i. record { scope = record u { locals = sym h i }; numbers = counted 0 (length ts); statement = p })

without_annotations : (u t : Scope) (p : Place) (xs : List (List ℕ)) (ts : List CType) → t ≡ without_locals u → real_locals u.locals ≡ record { names = xs; meanings = map locals.Real ts } → placed (outside (seen t) p) xs ts 0 ≡ seen_by_c u (counted 0 (length ts)) p
unfolding placed
without_annotations u t p xs ts e h =
    let k : seen t ≡ without_locals (seen u) = ap seen e ∙ seen_without u in
    (λ i. record { scope = record (k i) { locals = record { names = (k i).locals.names ++ xs; meanings = (k i).locals.meanings ++ map locals.Real ts } }; numbers = counted 0 (length ts); statement = p })
    ∙ (λ i. record { scope = record (seen u) { locals = sym (seen_locals u ∙ h) i }; numbers = counted 0 (length ts); statement = p })

-- bodies that become the same make the same functions
plain_same : (g : WrittenSignature) (b : Body) (ts : List CType) (a c : Lowered (Unit {0})) → AreErasedAlike a c → plain_of g b ts a ≡ plain_of g (stripped_body b) ts c
unfolding plain_of
plain_same g b ts a c h = λ i. record { name = g.name; locals = ts ++ h.locals i; nodes = h.nodes i; closing = b.last }

types_same : (ts us : List CType) → map locals.Real ts ≡ map locals.Real us → ts ≡ us
types_same ts us e = sym (types_of_types ts) ∙ ap real_types e ∙ types_of_types us

-- a whole function becomes the same without its annotations, where C text alone is seen
pub definition_erased : (m : Meanings) → AreUnseen m → (g : WrittenSignature) (c : Option Contract) (b : Body) (s t : Scope) → IsSettled s → WalksDefinition m g c b s (Ok t) → erased_core (core_of t g c b) ≡ erased_core (core_of (seen t) g None (stripped_body b))
definition_erased m d g c b s t o h =
    let k = went h in
    let hd = head_seen s g true k.first.is in
    let j = went k.next in
    let i = went j.first in
    let l = went i.first in
    let n = function_number s k.at.earlier in
    let w = through (defined n) (signature_walked g k.at s) l.first.is in
    let sg = signature_signs g k.at true s o hd.of w.first in
    let is : with_body w.at n ≡ l.at = ok_same w.next in
    let orderly : IsOrderly l.at = subst IsOrderly is (body_orderly n w.at sg.signed.orderly) in
    let typed : AreTyped l.at.sides l.at.functions = subst (λ (u : Scope). AreTyped u.sides u.functions) is (body_typed n w.at.sides w.at.functions sg.signed.typed) in
    let at : slice_get l.at.functions n ≡ Some sg.signed.function = subst (λ (u : Scope). slice_get u.functions n ≡ Some sg.signed.function) is sg.signed.at in
    let declares : l.at.locals ≡ record { names = texts (listed g.parameters); meanings = map locals.Real sg.signed.types } = subst (λ (u : Scope). u.locals ≡ record { names = texts (listed g.parameters); meanings = map locals.Real sg.signed.types }) is sg.signed.declares in
    let ct = contracted m d g k.at.given c sg.signed.types l.at n sg.signed.function declares sg.signed.as_many orderly typed at sg.signed.takes l.next in
    let stmts = of_body (nat_eq g.name.place.file i.at.file) m k.at.given b i.at j.at i.next in
    let body_extends = stmts_extend m d k.at.given (stmt_list b.statements) i.at j.at ct.orderly stmts in
    let inner : without_locals i.at ≡ t = sym (ap without_locals body_extends.is) ∙ ok_same j.next.is in
    let outer : without_locals l.at ≡ t = sym ct.rest ∙ inner in
    let q = through (declared_as g.name k.at.given k.at.earlier) (parameters_walked (listed g.parameters) s) w.first in
    let ps = all_typed (listed g.parameters) s q.first in
    let kq : Keeps s q.at = subst (Keeps s) (sym ps.is) (keeps_locals s _) in
    let aligned : length q.at.names ≡ length q.at.declarations = subst (λ (u : Scope). length u.names ≡ length u.declarations) (sym ps.is) o.orderly.names in
    let db = declared_behind g.name k.at.given k.at.earlier q.at w.at aligned q.next in
    let kt : Keeps s t = keeps_then kq (keeps_then db.keeps (keeps_then (subst (Keeps w.at) is (keeps_body w.at n)) (subst (Keeps l.at) outer (keeps_locals l.at no_locals)))) in
    let ks : Keeps s (seen t) = keeps_then kt (keeps_seen t) in
    let same : sg.signed.types ≡ ps.types = types_same sg.signed.types ps.types (ap (λ (v : Locals). v.meanings) (sym sg.signed.declares ∙ db.locals ∙ ap (λ (u : Scope). u.locals) ps.is) ∙ ap (λ (v : Locals). v.meanings ++ map locals.Real ps.types) o.cleared) in
    let count : length (texts (listed g.parameters)) ≡ length ps.types = sg.signed.as_many ∙ ap length same in
    let real : real_locals i.at.locals ≡ record { names = texts (listed g.parameters); meanings = map locals.Real ps.types } =
    sym (seen_locals i.at) ∙ ap (λ (u : Scope). u.locals) ct.same ∙ seen_locals l.at ∙ ap real_locals (declares ∙ (λ i. record { names = texts (listed g.parameters); meanings = map locals.Real (same i) })) ∙ parameters_real (texts (listed g.parameters)) ps.types count in
    let alike = bodies_are_erased m k.at.given (is_main g.name.text) (stmt_list b.statements) b.last g.name.place (counted 0 (length ps.types)) i.at j.at (length ps.types) d ct.orderly
    (ap (λ (v : Locals). length v.names) real ∙ count ∙ sym (length_counted 0 (length ps.types))) stmts in
    core_is t g c b ps.types k.at.given (stmt_list b.statements) (typed_stay s t kt ps.typed) (given_stays s t kt g.«result» k.at.given (head_gives s g true k.at k.first.is)) refl
    ∙ ap (λ e. plain_of g b ps.types (body e k.at.given (is_main g.name.text) (stmt_list b.statements) b.last (length ps.types))) (with_annotations i.at t g.name.place (texts (listed g.parameters)) ps.types (sym inner) real)
    ∙ plain_same g b ps.types _ _ alike
    ∙ ap (λ e. plain_of g (stripped_body b) ps.types (body e k.at.given (is_main g.name.text) (stripped_stmts (stmt_list b.statements)) b.last (length ps.types))) (sym (without_annotations i.at t g.name.place (texts (listed g.parameters)) ps.types (sym inner) real))
    ∙ sym (core_is (seen t) g None (stripped_body b) ps.types k.at.given (stripped_stmts (stmt_list b.statements)) (typed_stay s (seen t) ks ps.typed) (given_stays s (seen t) ks g.«result» k.at.given (head_gives s g true k.at k.first.is)) (parts_same b.statements))
