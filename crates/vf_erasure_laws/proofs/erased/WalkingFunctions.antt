-- What C text sees of functions and function types that are declared: their parameters, their types and their numbers.
use Rattle.std.proofs.Common.{◌≡◌, ℕ, suc, Bool, false, if◌then◌else◌, List, [], ◌∷◌, ◌++◌, length, map, Option, Some, None, Ok, Err, slice_get, refl, sym, ap, subst, ◌∙◌, append_assoc, append-nil}
use Rattle.std.proofs.lemmas.List.{length-map}
use Rattle.vf_base.specs.declared.rule.Rule.TheVariants as rules
use Rattle.vf_names.specs.Names.{number_of}
use Rattle.vf_declared.specs.declared.ctype.CType.{CType}
use Rattle.vf_declared.specs.declared.declaration.Meaning.TheVariants as meanings
use Rattle.vf_declared.specs.declared.declaration.Sides.{Sides}
use Rattle.vf_declared.specs.declared.declaration.Signature.{Signature}
use Rattle.vf_declared.specs.declared.locals.Local.TheVariants as locals
use Rattle.vf_declared.specs.declared.locals.Locals.{Locals}
use Rattle.vf_declared.specs.declared.scope.Scope.{Scope}
use Rattle.vf_declared.specs.Changes.{IsAligned}
use Rattle.vf_declared.specs.Writing.{with_function}
use Rattle.vf_syntax.specs.declared.item.Signature.{Signature as WrittenSignature}
use Rattle.vf_syntax.specs.declared.item.Typed.{Typed}
use Rattle.vf_syntax.specs.declared.written.Name.{Name}
use Rattle.vf_syntax.specs.declared.written.ResultType.{ResultType}
use Rattle.vf_syntax.specs.declared.written.ResultType.TheVariants as results
use Rattle.vf_typing.specs.Refusals.{refused}
use Rattle.vf_walk.specs.declared.function.Head.{Head}
use Rattle.vf_walk.specs.Items.{again_in, declared_as, function_number, head, head_giving, head_of, listed, main_is_right, no_locals, parameters_walked, real_types, result_type, signature_of, signature_walked}
use Rattle.vf_walk.specs.Names.{earlier, has_types}
use Rattle.vf_walk.specs.Statements.{variable}
use Rattle.vf_erasure_laws.specs.seen.Seen.{AreBehindPrototype, IsOrderly, real_locals, seen}
use Rattle.vf_erasure_laws.specs.erased.Walks.{AreTyped, IsSettled}
use Rattle.vf_erasure_laws.proofs.erased.WalkingSteps.{ok_same, on, refused_unless, through}
use Rattle.vf_erasure_laws.proofs.erased.WalkingExtends.{beside_behind, more, variable_declares}
use Rattle.vf_erasure_laws.proofs.erased.WalkingSeen.{written_seen}
use Rattle.vf_erasure_laws.proofs.erased.WalkingStatements.{variable_seen}
use Rattle.vf_erasure_laws.proofs.erased.WalkingLists.{before, behind, get_end, OneOf, one_of, types_behind, types_of_real, types_of_types}
use Rattle.vf_erasure_laws.proofs.erased.WalkingNames.{again_beside, again_functions, again_locals, again_seen, again_sides, function_seen, is_earlier, IsEarlier, IsFunction, none_earlier, one_earlier}
use Rattle.vf_erasure_laws.proofs.erased.WalkingTypes.{as_many_texts, has_types_is, texts}

-- ---- parameters
pub record DeclaresAll (ps : List Typed) (s t : Scope) : Type 0 where
  pub types : List CType
  pub as_many : length types ≡ length ps
  pub is : t ≡ more s (texts ps) (map locals.Real types)
  pub again : parameters_walked ps (seen s) ≡ Ok (seen t)

pub parameters_declare : {t : Scope} (ps : List Typed) (s : Scope) → IsAligned s.locals → parameters_walked ps s ≡ Ok t → DeclaresAll ps s t
parameters_declare [] s a h = record {
  types = [];
  as_many = refl;
  is = sym (ok_same h) ∙ (λ i. record s { locals = record { names = sym (append-nil s.locals.names) i; meanings = sym (append-nil s.locals.meanings) i } });
  again = ap (λ (u : Scope). Ok (seen u)) (ok_same h);
}
parameters_declare (p ∷ ps) s a h =
    let k = through (parameters_walked ps) (variable p.name p.written s) h in
    let d = variable_declares p.written p.name k.first in
    let a₁ : IsAligned k.at.locals = subst (λ (u : Scope). IsAligned u.locals) (sym d.declares.is) (beside_behind s.locals.names (p.name.text ∷ []) s.locals.meanings (locals.Real d.type ∷ []) a refl) in
    let rest = parameters_declare ps k.at a₁ k.next in
    record {
      types = d.type ∷ rest.types;
      as_many = ap suc rest.as_many;
      is = rest.is ∙ ap (λ (u : Scope). more u (texts ps) (map locals.Real rest.types)) d.declares.is
          ∙ (λ i. record s { locals = record { names = append_assoc s.locals.names (p.name.text ∷ []) (texts ps) i; meanings = append_assoc s.locals.meanings (locals.Real d.type ∷ []) (map locals.Real rest.types) i } });
      again = on (parameters_walked ps) (variable p.name p.written (seen s)) (variable_seen a d.declares) rest.again;
    }

-- ---- what stands in front of parameters
pub result_seen : {c : CType} (s : Scope) (r : ResultType) → result_type s r ≡ Ok c → result_type (seen s) r ≡ Ok c
result_seen s (results.Void p) h = h
result_seen s (results.Value w) h = written_seen s w h

earlier_again : {s : Scope} {n : Name} {body : Bool} {o : Option ℕ} → IsEarlier s n body o → earlier (seen s) n body ≡ Ok o
earlier_again (none_earlier e) = e
earlier_again (one_earlier f e) = e

-- a function that is declared is of an earlier one, or of none
pub record Heads (g : WrittenSignature) (body : Bool) (s : Scope) (h : Head) : Type 0 where
  pub of : IsEarlier s g.name body h.earlier
  pub again : head (seen s) g body ≡ Ok h

pub head_seen : (s : Scope) (g : WrittenSignature) (body : Bool) {h : Head} → head s g body ≡ Ok h → Heads g body s h
head_seen s g body {h = h} e =
    let k = through (head_giving s g body) (result_type s g.«result») e in
    let j = through (head_of k.at g) (earlier s g.name body) k.next in
    let o = is_earlier s g.name body j.first in
    let is = refused_unless (record { given = k.at; earlier = j.at }) (refused rules.Typing g.name.place) (main_is_right k.at g) j.next in
    record {
      of = subst (λ (d : Head). IsEarlier s g.name body d.earlier) (sym is.is) o;
      again = on (head_giving (seen s) g body) (result_type (seen s) g.«result») (result_seen s g.«result» k.first) (on (head_of k.at g) (earlier (seen s) g.name body) (earlier_again o) j.next);
    }

pub number_alike : (s : Scope) (o : Option ℕ) → function_number (seen s) o ≡ function_number s o
unfolding seen
number_alike s None = refl
number_alike s (Some k) = refl

-- ---- a function that is declared
-- a function or function type takes what C text sees that it takes
pub signature_alike : (t : CType) (s : Scope) → signature_of t (seen s) ≡ signature_of t s
unfolding seen real_locals
signature_alike t s = ap (λ ts. record { «result» = t; parameters = ts }) (types_of_real s.locals.meanings)

-- a function is declared behind its parameters
pub record Signed (n : Name) (given : CType) (o : Option ℕ) (xs : List (List ℕ)) (s u t : Scope) : Type 0 where
  pub types : List CType
  pub as_many : length xs ≡ length types
  pub declares : t.locals ≡ record { names = xs; meanings = map locals.Real types }
  pub orderly : IsOrderly t
  pub numbered : length t.sides ≡ length t.functions
  pub typed : AreTyped t.sides t.functions
  pub function : Signature
  pub at : slice_get t.functions (function_number s o) ≡ Some function
  pub takes : function.parameters ≡ types
  pub again : declared_as n given o (seen u) ≡ Ok (seen t)

-- nothing stands behind the end of a list
past_end : {A : Type 0} (xs : List A) (n : ℕ) → n ≡ length xs → slice_get xs n ≡ None
past_end {A} xs n e = ap (slice_get xs) e ∙ none_at xs
  where
    none_at : (ys : List A) → slice_get ys (length ys) ≡ None
    none_at [] = refl
    none_at (y ∷ ys) = none_at ys

-- a function of which there is neither a prototype nor a body so far
abbrev no_sides : Sides
no_sides = record { prototype = None; is_defined = false }

no_prototype : {A : Type 0} {x : Sides} {l : Locals} → x ≡ no_sides → x.prototype ≡ Some l → A
no_prototype {A} {x} {l} e h = nothing (sym (ap (λ (y : Sides). y.prototype) e) ∙ h)
  where
    nothing : ◌≡◌ {A = Option Locals} None (Some l) → A
    nothing k = absurd cc

no_item : {A B : Type 0} {a : A} {o : Option A} → o ≡ None → o ≡ Some a → B
no_item {A} {B} {a} e h = nothing (sym e ∙ h)
  where
    nothing : ◌≡◌ {A = Option A} None (Some a) → B
    nothing k = absurd cc

old_prototypes : (xs : List Sides) → ((k : ℕ) (x : Sides) (l : Locals) → slice_get xs k ≡ Some x → x.prototype ≡ Some l → AreBehindPrototype l) → (k : ℕ) (x : Sides) (l : Locals) → slice_get (xs ++ no_sides ∷ []) k ≡ Some x → x.prototype ≡ Some l → AreBehindPrototype l
old_prototypes xs h k x l a b = by_one (one_of xs no_sides k x a)
  where
    by_one : OneOf xs no_sides k x → AreBehindPrototype l
    by_one (before e) = h k x l e b
    by_one (behind i e) = no_prototype e b

old_types : (xs : List Sides) (fs : List Signature) (f : Signature) → length xs ≡ length fs → AreTyped xs fs → AreTyped (xs ++ no_sides ∷ []) (fs ++ f ∷ [])
old_types xs fs f e h k x l g a b c = by_one (one_of xs no_sides k x a) (one_of fs f k g c)
  where
    by_one : OneOf xs no_sides k x → OneOf fs f k g → real_types l.meanings ≡ g.parameters
    by_one (before u) (before v) = h k x l g u b v
    by_one (before u) (behind i v) = no_item (past_end xs k (i ∙ sym e)) u
    by_one (behind i u) v = no_prototype u b

-- the types of parameters behind no locals
types_taken : (xs : List (List ℕ)) (ts : List CType) (s : Scope) → s.locals ≡ no_locals → real_types (more s xs (map locals.Real ts)).locals.meanings ≡ ts
types_taken xs ts s e = types_behind s.locals.meanings (map locals.Real ts) ∙ ap (λ (l : Locals). real_types l.meanings ++ real_types (map locals.Real ts)) e ∙ types_of_types ts

locals_taken : (xs : List (List ℕ)) (ts : List CType) (s : Scope) → s.locals ≡ no_locals → (more s xs (map locals.Real ts)).locals ≡ record { names = xs; meanings = map locals.Real ts }
locals_taken xs ts s e = ap (λ (l : Locals). record { names = l.names ++ xs; meanings = l.meanings ++ map locals.Real ts }) e

taken_aligned : (xs : List (List ℕ)) (ts : List CType) (s : Scope) → IsAligned s.locals → length xs ≡ length ts → IsAligned (more s xs (map locals.Real ts)).locals
taken_aligned xs ts s a e = beside_behind s.locals.names xs s.locals.meanings (map locals.Real ts) a (e ∙ sym (length-map ts locals.Real))

-- a new function
signed_new : (n : Name) (given : CType) (xs : List (List ℕ)) (ts : List CType) (s : Scope) → IsSettled s → length xs ≡ length ts → Signed n given None xs s (more s xs (map locals.Real ts)) (with_function (more s xs (map locals.Real ts)) n.text n.place.file (signature_of given (more s xs (map locals.Real ts))))
signed_new n given xs ts s o e =
    let u = more s xs (map locals.Real ts) in
    record {
      types = ts;
      as_many = e;
      declares = locals_taken xs ts s o.cleared;
      orderly = record {
        locals = taken_aligned xs ts s o.orderly.locals e;
        names = beside_behind s.names (n.text ∷ []) s.declarations ((record { meaning = meanings.Function (length s.functions); files = n.place.file ∷ [] }) ∷ []) o.orderly.names refl;
        prototypes = old_prototypes s.sides o.orderly.prototypes;
      };
      numbered = beside_behind s.sides (no_sides ∷ []) s.functions (signature_of given u ∷ []) o.numbered refl;
      typed = old_types s.sides s.functions (signature_of given u) o.numbered o.typed;
      function = signature_of given u;
      at = get_end s.functions (signature_of given u) (length s.functions) refl;
      takes = types_taken xs ts s o.cleared;
      again = ap Ok (ap (with_function (seen u) n.text n.place.file) (signature_alike given u) ∙ sym (function_seen u n.text n.place.file (signature_of given u) o.orderly.names));
    }

has_alike : (given : CType) (u : Scope) (k : ℕ) → has_types given (real_types (seen u).locals.meanings) (slice_get (seen u).functions k) ≡ has_types given (real_types u.locals.meanings) (slice_get u.functions k)
unfolding seen real_locals
has_alike given u k = ap (λ ts. has_types given ts (slice_get u.functions k)) (types_of_real u.locals.meanings)

-- a function that is declared already
signed_again : {t : Scope} (n : Name) (given : CType) (xs : List (List ℕ)) (ts : List CType) (s : Scope) (k : ℕ) → IsSettled s → length xs ≡ length ts → IsFunction s n.text k → declared_as n given (Some k) (more s xs (map locals.Real ts)) ≡ Ok t → Signed n given (Some k) xs s (more s xs (map locals.Real ts)) t
signed_again n given xs ts s k o e f h =
    let u = more s xs (map locals.Real ts) in
    let q = number_of s.names n.text in
    let file = n.place.file in
    let test = refused_unless (again_in file q u) (refused rules.Name n.place) (has_types given (real_types u.locals.meanings) (slice_get u.functions k)) h in
    let has = has_types_is given (real_types u.locals.meanings) (slice_get u.functions k) test.holds in
    subst (Signed n given (Some k) xs s u) (sym test.is) (record {
      types = ts;
      as_many = e;
      declares = again_locals u file q ∙ locals_taken xs ts s o.cleared;
      orderly = record {
        locals = subst IsAligned (sym (again_locals u file q)) (taken_aligned xs ts s o.orderly.locals e);
        names = again_beside u file q o.orderly.names;
        prototypes = λ j x l a b. o.orderly.prototypes j x l (ap (λ ss. slice_get ss j) (sym (again_sides u file q)) ∙ a) b;
      };
      numbered = ap length (again_sides u file q) ∙ o.numbered ∙ sym (ap length (again_functions u file q));
      typed = λ j x l g a b c. o.typed j x l g (ap (λ ss. slice_get ss j) (sym (again_sides u file q)) ∙ a) b (ap (λ fs. slice_get fs j) (sym (again_functions u file q)) ∙ c);
      function = has.function;
      at = ap (λ fs. slice_get fs k) (again_functions u file q) ∙ has.at;
      takes = has.takes ∙ types_taken xs ts s o.cleared;
      again = ap (λ b. if b then Ok (again_in file (number_of (seen u).names n.text) (seen u)) else Err (refused rules.Name n.place)) (has_alike given u k ∙ test.holds)
          ∙ ap Ok (sym (again_seen u n.text file k (record { declaration = f.declaration; found = f.found; means = f.means })));
    })

signed : {t : Scope} {o : Option ℕ} (n : Name) (body : Bool) (given : CType) (xs : List (List ℕ)) (ts : List CType) (s : Scope) → IsSettled s → length xs ≡ length ts → IsEarlier s n body o → declared_as n given o (more s xs (map locals.Real ts)) ≡ Ok t → Signed n given o xs s (more s xs (map locals.Real ts)) t
signed n body given xs ts s o e (none_earlier i) h = subst (Signed n given None xs s (more s xs (map locals.Real ts))) (ok_same h) (signed_new n given xs ts s o e)
signed n body given xs ts s o e (one_earlier {k = k} f i) h = signed_again n given xs ts s k o e f h

-- the parameters of a function, and its declaration behind them
pub record SignedBy (g : WrittenSignature) (h : Head) (s t : Scope) : Type 0 where
  pub parameters : Scope
  pub signed : Signed g.name h.given h.earlier (texts (listed g.parameters)) s parameters t
  pub again : signature_walked g h (seen s) ≡ Ok (seen t)

pub signature_signs : {t : Scope} (g : WrittenSignature) (h : Head) (body : Bool) (s : Scope) → IsSettled s → IsEarlier s g.name body h.earlier → signature_walked g h s ≡ Ok t → SignedBy g h s t
signature_signs g h body s o i e =
    let ps = listed g.parameters in
    let k = through (declared_as g.name h.given h.earlier) (parameters_walked ps s) e in
    let d = parameters_declare ps s o.orderly.locals k.first in
    let signs = signed g.name body h.given (texts ps) d.types s o (as_many_texts ps ∙ sym d.as_many) i (ap (declared_as g.name h.given h.earlier) (sym d.is) ∙ k.next) in
    record {
      parameters = more s (texts ps) (map locals.Real d.types);
      signed = signs;
      again = on (declared_as g.name h.given h.earlier) (parameters_walked ps (seen s)) (d.again ∙ ap (λ (u : Scope). Ok (seen u)) d.is) signs.again;
    }
