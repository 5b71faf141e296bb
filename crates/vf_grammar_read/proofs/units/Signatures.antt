-- Signatures, fields and structs that are spelled are read.
use Rattle.std.proofs.Common.{◌≡◌, true, false, ◌||◌, List, [], ◌∷◌, length, Option, Some, None, refl, sym, subst, ap, ◌∙◌, arith}
use Rattle.vf_base.specs.declared.place.Place.{Place}
use Rattle.vf_lexer.specs.declared.punctuator.Punctuator.TheVariants as punctuators
use Rattle.vf_lexer.specs.declared.token.Token.{Token}
use Rattle.vf_syntax.specs.declared.keyword.Keyword.{Keyword}
use Rattle.vf_syntax.specs.declared.keyword.Keyword.TheVariants as keywords
use Rattle.vf_syntax.specs.declared.side.Side.TheVariants.{Real}
use Rattle.vf_syntax.specs.declared.written.Name.{Name}
use Rattle.vf_syntax.specs.declared.written.CType.{CType}
use Rattle.vf_syntax.specs.declared.written.TypeForm.{TypeForm}
use Rattle.vf_syntax.specs.declared.written.TypeForm.TheVariants as forms
use Rattle.vf_syntax.specs.declared.written.ResultType.{ResultType}
use Rattle.vf_syntax.specs.declared.written.ResultType.TheVariants as results
use Rattle.vf_syntax.specs.declared.item.Typed.{Typed}
use Rattle.vf_syntax.specs.declared.item.Parameters.{Parameters}
use Rattle.vf_syntax.specs.declared.item.Parameters.TheVariants as parameters
use Rattle.vf_syntax.specs.declared.item.Signature.{Signature}
use Rattle.vf_syntax.specs.declared.item.Item.TheVariants as items
use Rattle.vf_syntax.specs.declared.side.Grammar.{Grammar}
use Rattle.vf_syntax.specs.Walks.{Walk, ◌⨾◌, goes_on, at, mark, word, identifier, head_has, is_mark}
use Rattle.vf_syntax.specs.Written.{name, type_form, ctype}
use Rattle.vf_syntax.specs.Lists.{each, separated, behind_commas}
use Rattle.vf_syntax.specs.Units.{result_type, typed, field, parameters_walk, signature, item}
use Rattle.vf_cursor.specs.Parsing.{ok}
use Rattle.vf_parse_expression.specs.Operands.{after}
use Rattle.vf_parse_expression.proofs.Collected.{Collects}
use Rattle.vf_parse_statement.specs.Parsers.{is_inside}
use Rattle.vf_parse_item.specs.Parsers.{typed_at, field_at, field_list_at, fields_at, struct_at, sees_struct, sees_void, result_type_at, next_parameter_at, more_parameters_at, parameter_list_at, parameters_inside_at, parameters_at, signature_at}
use Rattle.vf_grammar_read.proofs.expressions.Same.{some_same, no_true}
use Rattle.vf_grammar_read.proofs.expressions.Fronts.{Class, a_mark, a_word, a_name, class_word, Front, gone, at_stays, word_took, identifier_took, mark_front, word_front, identifier_front}
use Rattle.vf_grammar_read.proofs.expressions.Taken.{mark_read, word_here, word_read, name_read}
use Rattle.vf_grammar_read.proofs.expressions.TypesFull as types
use Rattle.vf_grammar_read.proofs.expressions.TypesFull.{Ends, class_type, number_word, width_of, integer_front, ctype_full, ctype_begins}
use Rattle.vf_grammar_read.proofs.expressions.Begins.{behind}
use Rattle.vf_grammar_read.proofs.expressions.Eaten.{Eats, Keeps, keeps, eat_then, then_eat, keep_then, at_keeps, mark_eats, word_eats, name_eats, ctype_eats}
use Rattle.vf_grammar_read.proofs.expressions.Items.{Item as Read, items_full}
use Rattle.vf_grammar_read.proofs.simple_statements.SimplesFull.{declared_full}
use Rattle.vf_grammar_read.proofs.statements.Begins.{Ordinary, parted, typed_ordinary, inside_real}
use Rattle.vf_grammar_read.proofs.statements.GhostEaten.{each_keeps, separated_keep}
use Rattle.vf_grammar_read.proofs.statements.StmtFull.{closing_outside}

pub name_front : (n : Name) (ts rest : List Token) → name Real n ts ≡ Some rest → Front Real a_name ts
unfolding name
name_front n ts rest h = let g = gone (at n.place ts) h in behind n.place g.1 (identifier_front Real n.text g.0 rest g.2)

-- the tokens behind a name
after_name : (n : Name) (ts rest : List Token) → name Real n ts ≡ Some rest → after ts ≡ rest
unfolding name
after_name n ts rest h =
    let g = gone (at n.place ts) h in
    let t = identifier_took Real n.text g.0 rest g.2 in
    ap after (at_stays n.place ts g.0 g.1 ∙ t.parts)

after_word : (k : Keyword) (ts rest : List Token) → word Real k ts ≡ Some rest → after ts ≡ rest
after_word k ts rest h = ap after ((word_took Real k ts rest h).parts)

-- a word of an integer type is neither `struct` nor `void`
number_other : (k : Keyword) → number_word k ≡ true → (class_word (a_word k) keywords.Struct ≡ false) × (class_word (a_word k) keywords.Void ≡ false)
number_other keywords.Signed h = (refl, refl)
number_other keywords.Unsigned h = (refl, refl)
number_other keywords.Char h = (refl, refl)
number_other keywords.Short h = (refl, refl)
number_other keywords.Int h = (refl, refl)
number_other keywords.Long h = (refl, refl)
number_other k h = no_true h

pub front_no_struct : (c : Class) (ts : List Token) → Front Real c ts → class_word c keywords.Struct ≡ false → sees_struct ts ≡ false
unfolding sees_struct
front_no_struct c ts f h = rw (f.words_are keywords.Struct ∙ h) refl

front_no_void : (c : Class) (ts : List Token) → Front Real c ts → class_word c keywords.Void ≡ false → sees_void ts ≡ false
unfolding sees_void
front_no_void c ts f h = rw (f.words_are keywords.Void ∙ h) refl

-- a pointer to a struct declares none
pointer_no_struct : (ts us vs rest : List Token) (n : Name) → word Real keywords.Struct ts ≡ Some us → name Real n us ≡ Some vs → mark Real punctuators.Star vs ≡ Some rest → sees_struct ts ≡ false
unfolding sees_struct
pointer_no_struct ts us vs rest n h k m =
    let f = word_front Real keywords.Struct ts us h in
    let s = mark_front Real punctuators.Star vs rest m in
    rw (f.words_are keywords.Struct, after_word keywords.Struct ts us h, after_name n us vs k, s.marks_are punctuators.Semicolon, s.marks_are punctuators.OpenBrace) refl

pointer_no_void : (ts us rest : List Token) → word Real keywords.Void ts ≡ Some us → mark Real punctuators.Star us ≡ Some rest → sees_void ts ≡ false
unfolding sees_void
pointer_no_void ts us rest h m =
    rw ((word_front Real keywords.Void ts us h).words_are keywords.Void, after_word keywords.Void ts us h, (mark_front Real punctuators.Star us rest m).marks_are punctuators.Star) refl

form_others : (f : TypeForm) (ts rest : List Token) → type_form Real f ts ≡ Some rest → (sees_struct ts ≡ false) × (sees_void ts ≡ false)
unfolding type_form
form_others (forms.Integer w) ts rest h = let n = integer_front Real w ts rest h in let o = number_other n.0 n.2 in (front_no_struct _ ts n.1 o.0, front_no_void _ ts n.1 o.1)
form_others forms.Bool ts rest h = let f = word_front Real keywords.Bool ts rest h in (front_no_struct _ ts f refl, front_no_void _ ts f refl)
form_others forms.VoidPointer ts rest h =
    let g = gone (word Real keywords.Void ts) h in let f = word_front Real keywords.Void ts g.0 g.1 in
    (front_no_struct _ ts f refl, pointer_no_void ts g.0 rest g.1 g.2)
form_others forms.IntPointer ts rest h = let g = gone (word Real keywords.Int ts) h in let f = word_front Real keywords.Int ts g.0 g.1 in (front_no_struct _ ts f refl, front_no_void _ ts f refl)
form_others (forms.StructPointer n) ts rest h =
    let g = gone (word Real keywords.Struct ts) h in let k = gone (name Real n g.0) g.2 in
    (pointer_no_struct ts g.0 k.0 rest n g.1 k.1 k.2, front_no_void _ ts (word_front Real keywords.Struct ts g.0 g.1) refl)
form_others (forms.NamedPointer x) ts rest h = let g = gone (identifier Real x ts) h in let f = identifier_front Real x ts g.0 g.1 in (front_no_struct _ ts f refl, front_no_void _ ts f refl)

type_others : (t : CType) (ts rest : List Token) → ctype Real t ts ≡ Some rest → (sees_struct ts ≡ false) × (sees_void ts ≡ false)
unfolding ctype
type_others t ts rest h =
    let g = gone (at t.place ts) h in
    subst (λ us. (sees_struct us ≡ false) × (sees_void us ≡ false)) (sym (at_stays t.place ts g.0 g.1)) (form_others t.form g.0 rest g.2)

-- type NAME
pub typed_full : (x : Typed) (ts rest : List Token) → typed x ts ≡ Some rest → typed_at ts ≡ ok x rest
unfolding typed typed_at
typed_full x ts rest h = rw (declared_full x.written x.name ts rest h) refl

typed_eats : (x : Typed) → Eats (typed x)
unfolding typed
typed_eats x = eat_then (ctype_eats _ x.written) (keeps (name_eats _ x.name))

typed_front : (x : Typed) (ts rest : List Token) → typed x ts ≡ Some rest → Ordinary ts × (sees_void ts ≡ false)
unfolding typed
typed_front x ts rest h =
    let g = gone (ctype Real x.written ts) h in
    (typed_ordinary ts g.0 (ctype_begins Real x.written ts g.0 g.1), (type_others x.written ts g.0 g.1).1)

field_full : (x : Typed) (ts rest : List Token) → field x ts ≡ Some rest → field_at ts ≡ ok x rest
unfolding field field_at
field_full x ts rest h =
    let g = gone (typed x ts) h in
    rw (typed_full x ts g.0 g.1, (mark_read Real _ g.0 rest g.2).1) refl

field_eats : (x : Typed) → Eats (field x)
unfolding field
field_eats x = eat_then (typed_eats x) (keeps (mark_eats _ _))

field_inside : (x : Typed) (ts rest : List Token) → field x ts ≡ Some rest → head_has is_inside ts ≡ true
unfolding field
field_inside x ts rest h =
    let g = gone (typed x ts) h in
    let o = (typed_front x ts g.0 g.1).0 in
    inside_real ts o.front.side_is (o.front.marks_are punctuators.CloseBrace ∙ (parted o.class o.plain).no_close)

fields_collect : Collects field (λ (x : Typed). 0) (λ (xs : List Typed). each field xs) (λ (xs : List Typed). 0)
fields_collect = record { nothing_walk = λ ts. refl; item_walk = λ x xs ts. refl; nothing_deep = refl; item_deep = λ x xs. refl }

field_item : Read field (λ (x : Typed). 0) 0 (λ ts. Unit {0}) is_inside field_at
field_item = record {
  full = λ x ts rest h deep u. field_full x ts rest h;
  heads = λ x ts rest h. field_inside x ts rest h;
  fine = λ x ts rest h. tt;
  eats = λ x. field_eats x;
}

fields_full : (xs : List Typed) (ts us rest : List Token) → mark Real punctuators.OpenBrace ts ≡ Some us → (each field xs ⨾ mark Real punctuators.CloseBrace ⨾ mark Real punctuators.Semicolon) us ≡ Some rest → fields_at ts ≡ ok xs rest
unfolding fields_at field_list_at
fields_full xs ts us rest o h =
    let g = gone (each field xs us) h in
    let c = gone (mark Real punctuators.CloseBrace g.0) g.2 in
    let f = mark_front Real punctuators.CloseBrace g.0 c.0 c.1 in
    rw ((mark_read Real _ ts us o).1, items_full fields_collect field_item (length us) xs [] us g.0 g.1 (omega arith) tt (closing_outside g.0 f) (omega arith), (mark_read Real _ g.0 c.0 c.1).1, (mark_read Real _ c.0 rest c.2).1) refl

struct_seen : (n : Name) (ts us vs : List Token) → word Real keywords.Struct ts ≡ Some us → name Real n us ≡ Some vs → (head_has (is_mark Real punctuators.Semicolon) vs || head_has (is_mark Real punctuators.OpenBrace) vs) ≡ true → sees_struct ts ≡ true
unfolding sees_struct
struct_seen n ts us vs h k m =
    rw ((word_front Real keywords.Struct ts us h).words_are keywords.Struct, after_word keywords.Struct ts us h, after_name n us vs k, m) refl

pub opaque_full : (g : Grammar) (p : Place) (tag : Name) (ts rest : List Token) → item g (items.Opaque p tag) ts ≡ Some rest → (sees_struct ts ≡ true) × (struct_at ts ≡ ok (items.Opaque p tag) rest)
unfolding item struct_at
opaque_full g p tag ts rest h =
    let a = gone (at p ts) h in
    let w = gone (word Real keywords.Struct a.0) a.2 in
    let n = gone (name Real tag w.0) w.2 in
    let f = mark_front Real punctuators.Semicolon n.0 rest n.2 in
    let seen = struct_seen tag a.0 w.0 n.0 w.1 n.1 (rw (f.marks_are punctuators.Semicolon) refl) in (
      subst (λ us. sees_struct us ≡ true) (sym (at_stays p ts a.0 a.1)) seen,
      rw (word_here Real _ p ts a.0 w.0 a.1 w.1, name_read Real tag w.0 n.0 n.1, f.marks_are punctuators.Semicolon, (mark_read Real _ n.0 rest n.2).1) refl,
    )

pub struct_full : (g : Grammar) (p : Place) (tag : Name) (xs : List Typed) (ts rest : List Token) → item g (items.Struct p tag xs) ts ≡ Some rest → (sees_struct ts ≡ true) × (struct_at ts ≡ ok (items.Struct p tag xs) rest)
unfolding item struct_at
struct_full g p tag xs ts rest h =
    let a = gone (at p ts) h in
    let w = gone (word Real keywords.Struct a.0) a.2 in
    let n = gone (name Real tag w.0) w.2 in
    let o = gone (mark Real punctuators.OpenBrace n.0) n.2 in
    let f = mark_front Real punctuators.OpenBrace n.0 o.0 o.1 in
    let seen = struct_seen tag a.0 w.0 n.0 w.1 n.1 (rw (f.marks_are punctuators.Semicolon, f.marks_are punctuators.OpenBrace) refl) in (
      subst (λ us. sees_struct us ≡ true) (sym (at_stays p ts a.0 a.1)) seen,
      rw (word_here Real _ p ts a.0 w.0 a.1 w.1, name_read Real tag w.0 n.0 n.1, f.marks_are punctuators.Semicolon, fields_full xs n.0 o.0 rest o.1 o.2) refl,
    )

-- `void`, and no `*` behind it
void_seen : (ts us : List Token) → word Real keywords.Void ts ≡ Some us → head_has (is_mark Real punctuators.Star) us ≡ false → sees_void ts ≡ true
unfolding sees_void
void_seen ts us h k = rw ((word_front Real keywords.Void ts us h).words_are keywords.Void, after_word keywords.Void ts us h, k) refl

pub result_full : (x : ResultType) (ts rest : List Token) → result_type x ts ≡ Some rest → Front Real a_name rest → result_type_at ts ≡ ok x rest
unfolding result_type result_type_at
result_full (results.Void p) ts rest h f =
    let a = gone (at p ts) h in
    let seen = subst (λ us. sees_void us ≡ true) (sym (at_stays p ts a.0 a.1)) (void_seen a.0 rest a.2 (f.marks_are punctuators.Star)) in
    rw (seen, word_here Real _ p ts a.0 rest a.1 a.2) refl
result_full (results.Value t) ts rest h f =
    rw ((type_others t ts rest h).1, ctype_full Real t ts rest h (record { no_width = width_of Real _ rest f; no_star = f.marks_are punctuators.Star })) refl

untypedef : (k : Keyword) → class_type (a_word k) ≡ true → class_word (a_word k) keywords.Typedef ≡ false
untypedef keywords.Signed h = refl
untypedef keywords.Unsigned h = refl
untypedef keywords.Char h = refl
untypedef keywords.Short h = refl
untypedef keywords.Int h = refl
untypedef keywords.Long h = refl
untypedef keywords.Bool h = refl
untypedef keywords.Void h = refl
untypedef keywords.Struct h = refl
untypedef k h = no_true h

-- what a signature begins with: real text, no struct that is declared and no `typedef`
pub record Signed (ts : List Token) : Type 0 where
  pub no_struct : sees_struct ts ≡ false
  pub class : Class
  pub front : Front Real class ts
  pub no_typedef : class_word class keywords.Typedef ≡ false

typed_signed : (ts rest : List Token) → sees_struct ts ≡ false → types.Typed Real ts rest → Signed ts
typed_signed ts rest k (types.by_word w f h) = record { no_struct = k; class = a_word w; front = f; no_typedef = untypedef w h }
typed_signed ts rest k (types.by_name mid t u f s a b) = record { no_struct = k; class = a_name; front = f; no_typedef = refl }

-- a result declares no struct, and is real text
pub result_begins : (x : ResultType) (ts rest : List Token) → result_type x ts ≡ Some rest → Signed ts
unfolding result_type
result_begins (results.Void p) ts rest h =
    let a = gone (at p ts) h in
    let f = behind p a.1 (word_front Real keywords.Void a.0 rest a.2) in
    record { no_struct = front_no_struct _ ts f refl; class = a_word keywords.Void; front = f; no_typedef = refl }
result_begins (results.Value t) ts rest h = typed_signed ts rest ((type_others t ts rest h).0) (ctype_begins Real t ts rest h)

parameters_collect : Collects (λ (x : Typed) (ts : List Token). goes_on (mark Real punctuators.Comma ts) (typed x)) (λ (x : Typed). 0) (λ (xs : List Typed). behind_commas Real typed xs) (λ (xs : List Typed). 0)
parameters_collect = record { nothing_walk = λ ts. refl; item_walk = λ x xs ts. three (mark Real punctuators.Comma ts) (typed x) (behind_commas Real typed xs); nothing_deep = refl; item_deep = λ x xs. refl }
  where
    three : (o : Option (List Token)) (f g : Walk) → goes_on o (f ⨾ g) ≡ goes_on (goes_on o f) g
    three None f g = refl
    three (Some ts) f g = refl

parameter_item : Read (λ (x : Typed) (ts : List Token). goes_on (mark Real punctuators.Comma ts) (typed x)) (λ (x : Typed). 0) 0 (λ ts. Unit {0}) (is_mark Real punctuators.Comma) next_parameter_at
unfolding next_parameter_at
parameter_item = record {
  full = λ x ts rest h deep u. let g = gone {g = typed x} (mark Real punctuators.Comma ts) h in let c = mark_read Real punctuators.Comma ts g.0 g.1 in rw c.1 (typed_full x g.0 rest g.2);
  heads = λ x ts rest h. let g = gone {g = typed x} (mark Real punctuators.Comma ts) h in (mark_front Real _ ts g.0 g.1).marks_are punctuators.Comma;
  fine = λ x ts rest h. tt;
  eats = λ x. eat_then (mark_eats Real punctuators.Comma) (keeps (typed_eats x));
}

parameter_list_full : (xs : List Typed) (ts rest : List Token) → separated Real typed xs ts ≡ Some rest → Front Real (a_mark punctuators.CloseParenthesis) rest → (sees_void ts ≡ false) × (parameter_list_at ts ≡ ok xs rest)
unfolding parameter_list_at more_parameters_at
parameter_list_full [] ts rest h f =
    let same : ts ≡ rest = some_same h in
    let k : Front Real (a_mark punctuators.CloseParenthesis) ts = subst (λ us. Front Real (a_mark punctuators.CloseParenthesis) us) (sym same) f in
    (front_no_void _ ts k refl, rw (k.marks_are punctuators.CloseParenthesis) (λ i. ok [] (same i)))
parameter_list_full (x ∷ xs) ts rest h f =
    let g = gone (typed x ts) h in
    let t = typed_front x ts g.0 g.1 in
    let o = t.0 in
    (t.1, rw (o.front.marks_are punctuators.CloseParenthesis ∙ (parted o.class o.plain).no_parenthesis, typed_full x ts g.0 g.1) (items_full parameters_collect parameter_item (length g.0) xs (x ∷ []) g.0 rest g.2 (omega arith) tt (f.marks_are punctuators.Comma) (omega arith)))

pub parameters_full : (x : Parameters) (ts rest : List Token) → parameters_walk x ts ≡ Some rest → parameters_at ts ≡ ok x rest
unfolding parameters_walk parameters_at parameters_inside_at
parameters_full parameters.Void ts rest h =
    let o = gone (mark Real punctuators.OpenParenthesis ts) h in
    let w = gone (word Real keywords.Void o.0) o.2 in
    let f = mark_front Real punctuators.CloseParenthesis w.0 rest w.2 in
    rw ((mark_read Real _ ts o.0 o.1).1, void_seen o.0 w.0 w.1 (f.marks_are punctuators.Star), (word_read Real _ o.0 w.0 w.1).1, (mark_read Real _ w.0 rest w.2).1) refl
parameters_full (parameters.Listed xs) ts rest h =
    let o = gone (mark Real punctuators.OpenParenthesis ts) h in
    let w = gone (separated Real typed xs o.0) o.2 in
    let l = parameter_list_full xs o.0 w.0 w.1 (mark_front Real punctuators.CloseParenthesis w.0 rest w.2) in
    rw ((mark_read Real _ ts o.0 o.1).1, l.0, l.1, (mark_read Real _ w.0 rest w.2).1) refl

pub signature_full : (x : Signature) (ts rest : List Token) → signature x ts ≡ Some rest → signature_at ts ≡ ok x rest
unfolding signature signature_at
signature_full x ts rest h =
    let r = gone (result_type x.«result» ts) h in
    let n = gone (name Real x.name r.0) r.2 in
    rw (result_full x.«result» ts r.0 r.1 (name_front x.name r.0 n.0 n.1), name_read Real x.name r.0 n.0 n.1, parameters_full x.parameters n.0 rest n.2) refl

pub signature_begins : (x : Signature) (ts rest : List Token) → signature x ts ≡ Some rest → Signed ts
unfolding signature
signature_begins x ts rest h = let r = gone (result_type x.«result» ts) h in result_begins x.«result» ts r.0 r.1

field_keeps : (x : Typed) → Keeps (field x)
field_keeps x = keeps (field_eats x)

pub fields_keep : (xs : List Typed) → Keeps (each field xs)
fields_keep xs = each_keeps field field_keeps xs

result_eats : (x : ResultType) → Eats (result_type x)
unfolding result_type
result_eats (results.Void p) = then_eat (at_keeps p) (word_eats _ _)
result_eats (results.Value t) = ctype_eats _ t

parameters_keep : (x : Parameters) → Keeps (parameters_walk x)
unfolding parameters_walk
parameters_keep parameters.Void = keep_then (keeps (mark_eats _ _)) (keep_then (keeps (word_eats _ _)) (keeps (mark_eats _ _)))
parameters_keep (parameters.Listed xs) = keep_then (keeps (mark_eats _ _)) (keep_then (separated_keep Real typed (λ x. keeps (typed_eats x)) xs) (keeps (mark_eats _ _)))

pub signature_eats : (x : Signature) → Eats (signature x)
unfolding signature
signature_eats x = eat_then (result_eats x.«result») (keep_then (keeps (name_eats _ x.name)) (parameters_keep x.parameters))
