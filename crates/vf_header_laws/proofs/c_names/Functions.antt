-- What a function or a function type that is declared changes.
use Rattle.std.proofs.Common.{◌≡◌, ℕ, Bool, true, false, not, ◌&&◌, if◌then◌else◌, nat_eq, List, [], ◌∷◌, ◌++◌, length, is_some, Option, Some, None, Ok, Err, slice_get, refl, sym, ap, subst, ◌∙◌}
use Rattle.std.specs.Option.{option_or}
use Rattle.std.proofs.lemmas.Bool.{and_parts, false≢true}
use Rattle.vf_base.specs.declared.rule.Rule.TheVariants as rules
use Rattle.vf_names.specs.Names.{number_of}
use Rattle.vf_declared.specs.declared.ctype.CType.{CType}
use Rattle.vf_declared.specs.declared.declaration.Declaration.{Declaration}
use Rattle.vf_declared.specs.declared.declaration.Meaning.{Meaning}
use Rattle.vf_declared.specs.declared.declaration.Meaning.TheVariants as meanings
use Rattle.vf_declared.specs.declared.declaration.Signature.{Signature}
use Rattle.vf_declared.specs.declared.scope.Scope.{Scope}
use Rattle.vf_declared.specs.Scopes.{at_index, at_name, declaration_of, declared_in, field_of, function_type_of, is_declared, is_visible, signature_of, tag_of}
use Rattle.vf_declared.specs.Writing.{with_function, with_name, with_name_again}
use Rattle.vf_syntax.specs.declared.contract.Contract.{Contract}
use Rattle.vf_syntax.specs.declared.item.Body.{Body}
use Rattle.vf_syntax.specs.declared.item.Signature.{Signature as WrittenSignature}
use Rattle.vf_syntax.specs.declared.written.Name.{Name}
use Rattle.vf_syntax.specs.StmtTree.{stmt_list}
use Rattle.vf_typing.specs.Refusals.{refused}
use Rattle.vf_walk.specs.declared.annotations.Owner.{Owner}
use Rattle.vf_walk.specs.declared.function.Head.{Head}
use Rattle.vf_walk.specs.Items.{again_in, declared_as, defined, function_number, head, head_giving, head_of, listed, main_is_right, no_locals, owner, parameters_walked, real_types, result_type, signature_walked, type_declared, type_named, type_signed, WalksBodyIf, WalksContract, WalksDefinition, WalksPrototype, WalksType}
use Rattle.vf_walk.specs.Items as walked
use Rattle.vf_walk.specs.Meanings.{no_meanings}
use Rattle.vf_walk.specs.Names.{earlier, earlier_in, extended, extends, function_of, has_types, is_new, is_of_prelude, is_taken, lacks}
use Rattle.vf_walk.specs.Walking.{behind, Optional}
use Rattle.vf_header_laws.specs.c_names.Items.{IsBetweenItems}
use Rattle.vf_header_laws.proofs.c_names.Effects.{name_again, name_behind}
use Rattle.vf_header_laws.proofs.c_names.Files.{also, field_unit, name_by, OfOneUnit, shown, tag_unit}
use Rattle.vf_header_laws.proofs.c_names.Lists.{get_before, get_end, length_changed, none_some, some_same}
use Rattle.vf_header_laws.proofs.c_names.Plain.{IsPlain, parameters_plain, plain, stmts_plain}
use Rattle.vf_header_laws.proofs.c_names.Steps.{apart, ok_same, refused_unless, through, went}
use Rattle.vf_header_laws.proofs.c_names.Structs.{one_longer}

-- a name is declared in a file and means something, and nothing else is declared
pub record DeclaresName (x : List ℕ) (m : Meaning) (file : ℕ) (s t : Scope) : Type 0 where
  pub unit : OfOneUnit s t
  pub names : (y : List ℕ) (from : ℕ) → declaration_of t y from ≡ option_or (declaration_of s y from) (also s from file y x m)
  pub tags : (y : List ℕ) (from : ℕ) → tag_of t y from ≡ tag_of s y from
  pub fields : (n : ℕ) (y : List ℕ) (from : ℕ) → field_of t n y from ≡ field_of s n y from
  pub functions : (n : ℕ) (f : Signature) → signature_of s n ≡ Some f → signature_of t n ≡ Some f
  pub function_types : (n : ℕ) (f : Signature) → function_type_of s n ≡ Some f → function_type_of t n ≡ Some f
  pub between : IsBetweenItems t

-- a new name
pub named : {t : Scope} (s : Scope) (x : List ℕ) (m : Meaning) (file : ℕ) → IsBetweenItems s → at_name s.names s.declarations x ≡ None → shown t ≡ shown (with_name s x m file) → ((n : ℕ) (f : Signature) → signature_of s n ≡ Some f → signature_of t n ≡ Some f) → ((n : ℕ) (f : Signature) → function_type_of s n ≡ Some f → function_type_of t n ≡ Some f) → t.locals ≡ no_locals → DeclaresName x m file s t
named {t} s x m file b n e fs ts l =
    let unit : OfOneUnit s t = record { file = ap (λ (u : Scope). u.file) e; headers = ap (λ (u : Scope). u.headers) e } in
    let tags : t.tags ≡ s.tags = ap (λ (u : Scope). u.tags) e in
    let structures : t.structures ≡ s.structures = ap (λ (u : Scope). u.structures) e in
    record {
      unit = unit;
      names = λ y from. name_by (with_name s x m file) t y from e ∙ name_behind s x m file y from b.names n;
      tags = λ y from. tag_unit s t y from unit tags structures;
      fields = λ k y from. field_unit s t k y from unit structures;
      functions = fs;
      function_types = ts;
      between = record {
        names = ap (λ (u : Scope). length u.names) e ∙ one_longer s.names x s.declarations (record { meaning = m; files = file ∷ [] }) b.names ∙ sym (ap (λ (u : Scope). length u.declarations) e);
        tags = ap length tags ∙ b.tags ∙ sym (ap length structures);
        cleared = l;
      };
    }

-- a name that is declared already
named_again : {t : Scope} (s : Scope) (x : List ℕ) (k : ℕ) (d : Declaration) (m : Meaning) (file : ℕ) → IsBetweenItems s → number_of s.names x ≡ Some k → at_name s.names s.declarations x ≡ Some d → d.meaning ≡ m → plain t ≡ plain (with_name_again s k file) → t.locals ≡ no_locals → DeclaresName x m file s t
named_again {t} s x k d m file b e n i p l =
    let unit : OfOneUnit s t = record { file = ap (λ (u : Scope). u.file) p; headers = ap (λ (u : Scope). u.headers) p } in
    let tags : t.tags ≡ s.tags = ap (λ (u : Scope). u.tags) p in
    let structures : t.structures ≡ s.structures = ap (λ (u : Scope). u.structures) p in
    record {
      unit = unit;
      names = λ y from. name_by (with_name_again s k file) t y from (ap shown p) ∙ name_again s x k d file y from e n ∙ ap (λ c. option_or (declaration_of s y from) (also s from file y x c)) i;
      tags = λ y from. tag_unit s t y from unit tags structures;
      fields = λ k y from. field_unit s t k y from unit structures;
      functions = λ n f h. ap (λ (u : Scope). slice_get u.functions n) p ∙ h;
      function_types = λ n f h. ap (λ (u : Scope). slice_get u.function_types n) p ∙ h;
      between = record {
        names = ap (λ (u : Scope). length u.names) p ∙ b.names ∙ sym (length_changed _ s.declarations k) ∙ sym (ap (λ (u : Scope). length u.declarations) p);
        tags = ap length tags ∙ b.tags ∙ sym (ap length structures);
        cleared = l;
      };
    }

-- ---- earlier declarations
-- what a function is of: of none, or of one that is declared and seen
data IsEarlier (s : Scope) (n : Name) : Option ℕ → Type 0 where
  none_earlier : at_name s.names s.declarations n.text ≡ None → IsEarlier s n None
  one_earlier : {k : ℕ} (d : Declaration) → at_name s.names s.declarations n.text ≡ Some d → d.meaning ≡ meanings.Function k → is_visible s n.place.file d.files ≡ true → IsEarlier s n (Some k)

function_means : {k : ℕ} (s : Scope) (body : Bool) (m : Meaning) → function_of s body m ≡ Some k → m ≡ meanings.Function k
function_means {k} s body (meanings.Function n) h = by_test (lacks body (slice_get s.sides n)) h
  where
    by_test : (b : Bool) → (if b then Some n else None) ≡ Some k → meanings.Function n ≡ meanings.Function k
    by_test true h = ap meanings.Function (some_same h)
    by_test false h = absurd cc
function_means s body (meanings.FunctionType n) h = absurd cc
function_means s body (meanings.Ghost n) h = absurd cc

record IsExtended (s : Scope) (file : ℕ) (d : Declaration) (k : ℕ) : Type 0 where
  means : d.meaning ≡ meanings.Function k
  visible : is_visible s file d.files ≡ true

extended_is : (s : Scope) (file : ℕ) (body : Bool) (d : Declaration) (k : ℕ) → extended s file body d ≡ Some k → IsExtended s file d k
extended_is s file body d k h = by_test (is_visible s file d.files && not (is_of_prelude s d.files)) refl h
  where
    by_test : (b : Bool) → (is_visible s file d.files && not (is_of_prelude s d.files)) ≡ b → (if b then function_of s body d.meaning else None) ≡ Some k → IsExtended s file d k
    by_test true e h = record { means = function_means s body d.meaning h; visible = (and_parts (is_visible s file d.files) (not (is_of_prelude s d.files)) e).0 }
    by_test false e h = none_some h

extends_is : {o : Option ℕ} (n : Name) (q : Option ℕ) → extends n q ≡ Ok o → q ≡ o
extends_is n None h = absurd (apart h)
extends_is n (Some k) h = ok_same h

earlier_is : {o : Option ℕ} (s : Scope) (n : Name) (body : Bool) → earlier s n body ≡ Ok o → IsEarlier s n o
earlier_is {o} s n body h = by_test (is_taken s n.text) h
  where
    by_number : (d : Declaration) → at_name s.names s.declarations n.text ≡ Some d → (q : Option ℕ) → extended s n.place.file body d ≡ q → extends n q ≡ Ok o → IsEarlier s n o
    by_number d e None x h = absurd (apart h)
    by_number d e (Some k) x h = let i = extended_is s n.place.file body d k x in subst (IsEarlier s n) (ok_same h) (one_earlier d e i.means i.visible)

    by_declaration : (q : Option Declaration) → at_name s.names s.declarations n.text ≡ q → earlier_in s n body q ≡ Ok o → IsEarlier s n o
    by_declaration None e h = subst (IsEarlier s n) (ok_same h) (none_earlier e)
    by_declaration (Some d) e h = by_number d e (extended s n.place.file body d) refl h

    by_test : (b : Bool) → (if b then Err (refused rules.Name n.place) else earlier_in s n body (at_name s.names s.declarations n.text)) ≡ Ok o → IsEarlier s n o
    by_test true h = absurd (apart h)
    by_test false h = by_declaration (at_name s.names s.declarations n.text) refl h

-- what stands in front of the parameters of a function
record HasHead (s : Scope) (g : WrittenSignature) (h : Head) : Type 0 where
  given : result_type s g.«result» ≡ Ok h.given
  of : IsEarlier s g.name h.earlier

head_is : {h : Head} (s : Scope) (g : WrittenSignature) (body : Bool) → head s g body ≡ Ok h → HasHead s g h
head_is {h} s g body e =
    let k = through (head_giving s g body) (result_type s g.«result») e in
    let j = through (head_of k.at g) (earlier s g.name body) k.next in
    let is = refused_unless (record { given = k.at; earlier = j.at }) (refused rules.Typing g.name.place) (main_is_right k.at g) j.next in
    record {
      given = k.first ∙ ap Ok (sym (ap (λ (d : Head). d.given) is.is));
      of = subst (λ (d : Head). IsEarlier s g.name d.earlier) (sym is.is) (earlier_is s g.name body j.first);
    }

-- ---- functions
-- a function with a number, which is declared before or is new, with what it gives and takes
pub data IsFunction (s : Scope) (g : WrittenSignature) (number : ℕ) (t : Scope) : Type 0 where
  again : declaration_of s g.name.text g.name.place.file ≡ Some (meanings.Function number) → IsFunction s g number t
  new : (given : CType) (u : Scope) → declaration_of s g.name.text g.name.place.file ≡ None → result_type s g.«result» ≡ Ok given → parameters_walked (listed g.parameters) s ≡ Ok u → signature_of t number ≡ Some (walked.signature_of given u) → IsFunction s g number t

-- a function is declared
pub record DeclaresFunction (g : WrittenSignature) (s t : Scope) : Type 0 where
  pub number : ℕ
  pub name : DeclaresName g.name.text (meanings.Function number) g.name.place.file s t
  pub how : IsFunction s g number t

-- a name that stands beside something has a number
record HasNumber (s : Scope) (x : List ℕ) : Type 0 where
  number : ℕ
  is : number_of s.names x ≡ Some number

has_number : (s : Scope) (x : List ℕ) (d : Declaration) → at_name s.names s.declarations x ≡ Some d → HasNumber s x
has_number s x d e = by_number (number_of s.names x) refl e
  where
    by_number : (o : Option ℕ) → number_of s.names x ≡ o → at_index s.declarations o ≡ Some d → HasNumber s x
    by_number None i e = none_some e
    by_number (Some n) i e = record { number = n; is = i }

module _ (s : Scope) (g : WrittenSignature) (b : IsBetweenItems s) (t v u : Scope) (given : CType) (at : result_type s g.«result» ≡ Ok given) (p : parameters_walked (listed g.parameters) s ≡ Ok v) (k : IsPlain u t) (l : t.locals ≡ no_locals) where
  function_new : at_name s.names s.declarations g.name.text ≡ None → with_function v g.name.text g.name.place.file (walked.signature_of given v) ≡ u → DeclaresFunction g s t
  function_new n e =
      let x = g.name.text in
      let file = g.name.place.file in
      let same : plain v ≡ plain s = (parameters_plain (listed g.parameters) s p).is in
      let m = meanings.Function (length v.functions) in
      let functions : t.functions ≡ v.functions ++ walked.signature_of given v ∷ [] = ap (λ (w : Scope). w.functions) k.is ∙ sym (ap (λ (w : Scope). w.functions) e) in
      let old : v.functions ≡ s.functions = ap (λ (w : Scope). w.functions) same in
      let types : t.function_types ≡ s.function_types = ap (λ (w : Scope). w.function_types) k.is ∙ sym (ap (λ (w : Scope). w.function_types) e) ∙ ap (λ (w : Scope). w.function_types) same in
      record {
        number = length v.functions;
        name = named s x m file b n
            (ap shown k.is ∙ sym (ap shown e) ∙ ap (λ (w : Scope). shown (with_name w x m file)) same)
            (λ j f h. ap (λ fs. slice_get fs j) functions ∙ get_before v.functions (walked.signature_of given v ∷ []) j f (ap (λ fs. slice_get fs j) old ∙ h))
            (λ j f h. ap (λ fs. slice_get fs j) types ∙ h)
            l;
        how = new given v (ap (declared_in s file) n) at p (ap (λ fs. slice_get fs (length v.functions)) functions ∙ get_end v.functions (walked.signature_of given v));
      }

  function_again : (j : ℕ) (d : Declaration) → at_name s.names s.declarations g.name.text ≡ Some d → d.meaning ≡ meanings.Function j → is_visible s g.name.place.file d.files ≡ true → again_in g.name.place.file (number_of v.names g.name.text) v ≡ u → DeclaresFunction g s t
  function_again j d e m w h =
      let x = g.name.text in
      let file = g.name.place.file in
      let same : plain v ≡ plain s = (parameters_plain (listed g.parameters) s p).is in
      let i = has_number s x d e in
      let is : with_name_again v i.number file ≡ u = sym (ap (λ o. again_in file o v) (ap (λ (w : Scope). number_of w.names x) same ∙ i.is)) ∙ h in
      record {
        number = j;
        name = named_again s x i.number d (meanings.Function j) file b i.is e m (k.is ∙ sym (ap plain is) ∙ ap (λ (w : Scope). plain (with_name_again w i.number file)) same) l;
        how = again (ap (declared_in s file) e ∙ ap (λ b. if b then Some d.meaning else None) w ∙ ap Some m);
      }

function_declares : {u : Scope} (g : WrittenSignature) (h : Head) (body : Bool) (s t : Scope) → IsBetweenItems s → head s g body ≡ Ok h → signature_walked g h s ≡ Ok u → IsPlain u t → t.locals ≡ no_locals → DeclaresFunction g s t
function_declares {u} g h body s t b e w k l =
    let i = head_is s g body e in
    let j = through (declared_as g.name h.given h.earlier) (parameters_walked (listed g.parameters) s) w in
    by_earlier j.at j.first i.given h.earlier i.of j.next
  where
    by_earlier : (v : Scope) → parameters_walked (listed g.parameters) s ≡ Ok v → result_type s g.«result» ≡ Ok h.given → (o : Option ℕ) → IsEarlier s g.name o → declared_as g.name h.given o v ≡ Ok u → DeclaresFunction g s t
    by_earlier v p r o (none_earlier n) q = function_new s g b t v u h.given r p k l n (ok_same q)
    by_earlier v p r o (one_earlier {k = n} d c m x) q =
        let is = refused_unless (again_in g.name.place.file (number_of v.names g.name.text) v) (refused rules.Name g.name.place) (has_types h.given (real_types v.locals.meanings) (slice_get v.functions n)) q in
        function_again s g b t v u h.given r p k l n d c m x (sym is.is)

-- a contract that says nothing changes nothing
contract_same : {s t : Scope} (o : Owner) (c : Option Contract) → Optional (no_meanings.contract o) c s (Ok t) → t ≡ s
contract_same o None h = sym (ok_same h.is)
contract_same o (Some c) h = sym (ok_same h.is)

pub prototype_declares : {t : Scope} (g : WrittenSignature) (c : Option Contract) (s : Scope) → IsBetweenItems s → WalksPrototype no_meanings g c s (Ok t) → DeclaresFunction g s t
prototype_declares {t} g c s b h =
    let k = went h in
    let j = went k.next in
    let i = went j.first in
    let last = j.next.is in
    function_declares g k.at false s t b k.first.is i.first.is
    (record { is = sym (ap plain (ok_same last)) ∙ ap plain (contract_same (owner g k.at.given false) c i.next) })
    (sym (ap (λ (u : Scope). u.locals) (ok_same last)))

pub definition_contract : {s t : Scope} (g : WrittenSignature) (r : CType) (k : ℕ) (c : Option Contract) → WalksContract no_meanings g r k c s (Ok t) → t ≡ s
definition_contract g r k None h = sym (ok_same h.is)
definition_contract g r k (Some c) h = sym (ok_same h.is)

body_plain : {s t : Scope} (b : Bool) (r : CType) (x : Body) → WalksBodyIf b no_meanings r x s (Ok t) → IsPlain s t
body_plain {s} {t} true r x h = stmts_plain r (stmt_list x.statements) s t h
body_plain false r x h = absurd (apart h.is)

pub definition_declares : {t : Scope} (g : WrittenSignature) (c : Option Contract) (x : Body) (s : Scope) → IsBetweenItems s → WalksDefinition no_meanings g c x s (Ok t) → DeclaresFunction g s t
definition_declares {t} g c x s b h =
    let k = went h in
    let j = went k.next in
    let i = went j.first in
    let l = went i.first in
    let n = function_number s k.at.earlier in
    let w = through (defined n) (signature_walked g k.at s) l.first.is in
    function_declares g k.at true s t b k.first.is w.first
    (record {
      is = sym (ap plain (ok_same j.next.is)) ∙ (body_plain (nat_eq g.name.place.file i.at.file) k.at.given x i.next).is ∙ ap plain (definition_contract g k.at.given n c l.next) ∙ sym (ap plain (ok_same w.next));
    })
    (sym (ap (λ (u : Scope). u.locals) (ok_same j.next.is)))

-- ---- function types
-- a function type is declared, with what it gives and takes
pub record DeclaresType (g : WrittenSignature) (s t : Scope) : Type 0 where
  pub number : ℕ
  pub undeclared : at_name s.names s.declarations g.name.text ≡ None
  pub name : DeclaresName g.name.text (meanings.FunctionType number) g.name.place.file s t
  pub given : CType
  pub gives : result_type s g.«result» ≡ Ok given
  pub at : Scope
  pub takes : parameters_walked (listed g.parameters) (with_name s g.name.text (meanings.FunctionType number) g.name.place.file) ≡ Ok at
  pub signed : function_type_of t number ≡ Some (walked.signature_of given at)

pub new_undeclared : (s : Scope) (x : List ℕ) → is_new s x ≡ true → at_name s.names s.declarations x ≡ None
new_undeclared s x h = by_number (number_of s.names x) (and_parts (not (is_taken s x)) (not (is_declared s x)) h).1
  where
    by_number : (o : Option ℕ) → not (is_some o) ≡ true → at_index s.declarations o ≡ None
    by_number None h = refl
    by_number (Some n) h = absurd (false≢true h)

pub type_declares : {t : Scope} (g : WrittenSignature) (c : Option Contract) (s : Scope) → IsBetweenItems s → WalksType no_meanings g c s (Ok t) → DeclaresType g s t
type_declares {t} g c s b h =
    let x = g.name.text in
    let file = g.name.place.file in
    let m = meanings.FunctionType (length s.function_types) in
    let ps = listed g.parameters in
    let k = went h in
    let j = went k.next in
    let i = went j.first in
    let w = through (type_signed k.at) (behind (parameters_walked ps) (type_named g.name s)) i.first.is in
    let z = through (parameters_walked ps) (type_named g.name s) w.first in
    let fresh = refused_unless (with_name s x m file) (refused rules.Name g.name.place) (is_new s x) z.first in
    let n = new_undeclared s x fresh.holds in
    let takes : parameters_walked ps (with_name s x m file) ≡ Ok w.at = ap (parameters_walked ps) (sym fresh.is) ∙ z.next in
    let same = (parameters_plain ps (with_name s x m file) takes).is in
    let types_then : w.at.function_types ≡ s.function_types = ap (λ (u : Scope). u.function_types) same in
    let signed : record w.at { function_types = w.at.function_types ++ walked.signature_of k.at w.at ∷ [] } ≡ j.at = ok_same w.next ∙ sym (contract_same (owner g k.at true) c i.next) in
    let last = ok_same j.next.is in
    let types : t.function_types ≡ s.function_types ++ walked.signature_of k.at w.at ∷ [] = sym (ap (λ (u : Scope). u.function_types) last) ∙ sym (ap (λ (u : Scope). u.function_types) signed) ∙ ap (λ fs. fs ++ walked.signature_of k.at w.at ∷ []) types_then in
    record {
      number = length s.function_types;
      undeclared = n;
      name = named s x m file b n
          (sym (ap shown last) ∙ sym (ap shown signed) ∙ ap shown same)
          (λ q f e. sym (ap (λ (u : Scope). slice_get u.functions q) last) ∙ sym (ap (λ (u : Scope). slice_get u.functions q) signed) ∙ ap (λ (u : Scope). slice_get u.functions q) same ∙ e)
          (λ q f e. ap (λ fs. slice_get fs q) types ∙ get_before s.function_types (walked.signature_of k.at w.at ∷ []) q f e)
          (sym (ap (λ (u : Scope). u.locals) last));
      given = k.at;
      gives = k.first.is;
      at = w.at;
      takes = takes;
      signed = ap (λ fs. slice_get fs (length s.function_types)) types ∙ get_end s.function_types (walked.signature_of k.at w.at);
    }
