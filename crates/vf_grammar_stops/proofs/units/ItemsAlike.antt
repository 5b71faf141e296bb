-- Items and units stop alike on tokens that are alike, where the parsers of annotations do.
use Rattle.std.proofs.Common.{◌≡◌, ℕ, suc, ◌≤◌, Bool, true, false, List, [], ◌∷◌, length, Some, None, Err, refl, sym, subst, ◌∙◌, arith}
use Rattle.std.specs.Prelude.{if◌then◌else◌}
use Rattle.vf_base.specs.declared.place.Place.{Place}
use Rattle.vf_lexer.specs.declared.punctuator.Punctuator.TheVariants as punctuators
use Rattle.vf_lexer.specs.declared.token.Token.{Token}
use Rattle.vf_syntax.specs.declared.keyword.Keyword.TheVariants as keywords
use Rattle.vf_syntax.specs.declared.side.Side.TheVariants.{Real, Ghost}
use Rattle.vf_syntax.specs.declared.side.Grammar.{Grammar}
use Rattle.vf_syntax.specs.declared.written.CType.{CType}
use Rattle.vf_syntax.specs.declared.written.Name.{Name}
use Rattle.vf_syntax.specs.declared.written.ResultType.{ResultType}
use Rattle.vf_syntax.specs.declared.written.ResultType.TheVariants as results
use Rattle.vf_syntax.specs.declared.contract.Contract.{Contract}
use Rattle.vf_syntax.specs.declared.contract.Claim.{Claim}
use Rattle.vf_syntax.specs.declared.contract.Invariant.{Invariant}
use Rattle.vf_syntax.specs.declared.item.Typed.{Typed}
use Rattle.vf_syntax.specs.declared.item.Parameters.{Parameters}
use Rattle.vf_syntax.specs.declared.item.Parameters.TheVariants as parameters
use Rattle.vf_syntax.specs.declared.item.Signature.{Signature}
use Rattle.vf_syntax.specs.declared.item.Body.{Body}
use Rattle.vf_syntax.specs.declared.item.GhostItem.{GhostItem}
use Rattle.vf_syntax.specs.declared.item.Item.{Item}
use Rattle.vf_syntax.specs.declared.item.Item.TheVariants as items
use Rattle.vf_syntax.specs.GhostCommandTree.{GhostCommandTree}
use Rattle.vf_syntax.specs.Walks.{head_has, is_on, is_mark, is_word, is_name}
use Rattle.vf_cursor.specs.declared.fault.Fault.TheVariants.{Syntax}
use Rattle.vf_cursor.specs.Parsing.{Read, Parser, ok, ◌>>=◌, here_at, mark_at, word_at, name_at, end_at}
use Rattle.vf_cursor.specs.Types.{struct_pointer_at, type_form_at, ctype_at}
use Rattle.vf_parse_expression.specs.Operands.{after}
use Rattle.vf_parse_expression.proofs.TypesSound.{ctype_walk}
use Rattle.vf_parse_simple.specs.Simples.{declared_at}
use Rattle.vf_parse_statement.specs.Annotations.{ReadsCommands, ReadsInvariants, ReadsContracts, ReadsClaims, ReadsItems}
use Rattle.vf_parse_statement.specs.Parsers.{is_whole, sees_annotation, is_inside}
use Rattle.vf_parse_item.specs.Parsers.{allowed_at, typed_at, field_at, field_list_at, fields_at, struct_at, sees_struct, sees_void, result_type_at, next_parameter_at, more_parameters_at, parameter_list_at, parameters_inside_at, parameters_at, signature_at, function_type_at, any_claim_at, any_contract_at, prototype_at, definition_at, function_at, real_item_at, item_by, item_at}
use Rattle.vf_parse_item.proofs.Sound.{item_sound}
use Rattle.vf_parse_real.specs.Units.{is_any, items_by, unit_by, unit_at}
use Rattle.vf_grammar_read.proofs.expressions.Same.{no_true}
use Rattle.vf_grammar_read.proofs.expressions.Eaten.{ctype_eats}
use Rattle.vf_grammar_read.proofs.units.UnitFull.{item_eats}
use Rattle.vf_grammar_stops.specs.types.Stops.{first}
use Rattle.vf_grammar_stops.proofs.types.Local.{LikeAt, Does, then_like, done_like, mark_like, word_like, name_like, choice_like, both_like, first_has}
use Rattle.vf_grammar_stops.proofs.types.LoopAlike.{Takes, items_like}
use Rattle.vf_grammar_stops.proofs.types.TypesAlike.{ctype_like}
use Rattle.vf_grammar_stops.proofs.expressions.Beyond.{Beyond, bounded, beyond_bind, seen_like}
use Rattle.vf_grammar_stops.proofs.expressions.Takes.{mark_takes, then_takes}
use Rattle.vf_grammar_stops.proofs.expressions.Reached.{called, name_taken, beyond_then}
use Rattle.vf_grammar_stops.proofs.simple_statements.SimplesAlike.{declared_like}
use Rattle.vf_grammar_stops.proofs.statements.StmtAlike.{Alike, owed_like, bodies_like}
use Rattle.vf_grammar_stops.proofs.units.Looks.{word_seen, word_taken, voids, structs, void_told, struct_told, void_type, struct_type}

allowed_like : {A : Type 0} {b : Bool} {p q : Parser A} (g : Grammar) (begins : Token → Bool) → Does b p q → Does b (allowed_at g begins p) (allowed_at g begins q)
allowed_like g begins h = both_like (is_whole g) begins (then_like h (λ x. done_like (Some x))) (done_like None)

-- a type with a name
abbrev typed_of : CType → Name → Typed
typed_of t n = record { written = t; name = n }

typed_like : {b : Bool} → Does b typed_at typed_at
unfolding typed_at
typed_like = then_like declared_like (λ d. done_like (typed_of d.0 d.1))

field_like : {b : Bool} → Does b field_at field_at
unfolding field_at
field_like = then_like typed_like (λ x. then_like (mark_like Real punctuators.Semicolon) (λ m. done_like x))

-- a type takes a token
ctype_takes : Takes (ctype_at Real)
ctype_takes ts x rest e = (ctype_eats Real x).eat ts rest (ctype_walk Real ts x rest e)

typed_takes : Takes typed_at
unfolding typed_at declared_at
typed_takes = then_takes (then_takes ctype_takes (λ t. then_like (name_like Real) (λ n. done_like (t, n)))) (λ d. done_like (typed_of d.0 d.1))

field_takes : Takes field_at
unfolding field_at
field_takes = then_takes typed_takes (λ x. then_like (mark_like Real punctuators.Semicolon) (λ m. done_like x))

fields_like : {b : Bool} → Does b fields_at fields_at
unfolding fields_at field_list_at
fields_like = then_like (mark_like Real punctuators.OpenBrace) (λ o. then_like (items_like is_inside field_like field_takes []) (λ xs. then_like (mark_like Real punctuators.CloseBrace) (λ c. then_like (mark_like Real punctuators.Semicolon) (λ m. done_like xs))))

-- what stands behind the name of a struct
abbrev struct_behind : Place → Name → Parser Item
struct_behind w n ts = if head_has (is_mark Real punctuators.Semicolon) ts then (mark_at Real punctuators.Semicolon ts >>= λ m. ok (items.Opaque w n) m.1) else (fields_at ts >>= λ f. ok (items.Struct w n f.0) f.1)

struct_behind_like : {b : Bool} (w : Place) (n : Name) → Does b (struct_behind w n) (struct_behind w n)
struct_behind_like w n = choice_like (is_mark Real punctuators.Semicolon) (then_like (mark_like Real punctuators.Semicolon) (λ m. done_like (items.Opaque w n))) (then_like fields_like (λ f. done_like (items.Struct w n f)))

struct_like : {b : Bool} → Does b struct_at struct_at
unfolding struct_at
struct_like = then_like (word_like Real keywords.Struct) (λ w. then_like (name_like Real) (λ n. struct_behind_like w n))

-- `void` alone, or what else may stand there
abbrev void_or : {A : Type 0} → (Place → A) → Parser A → Parser A
void_or f p ts = if sees_void ts then (word_at Real keywords.Void ts >>= λ w. ok (f w.0) w.1) else p ts

void_word : {A : Type 0} (f : Place → A) (ts : List Token) → voids ts ≡ true → Beyond 1 (word_at Real keywords.Void ts >>= λ w. ok (f w.0) w.1) (length ts)
void_word f [] h = absurd cc
void_word f (t ∷ ts) h = rw (word_taken keywords.Void t ts h) (omega arith)

by_void : {A : Type 0} {p q : Parser A} (f : Place → A) → Does false p q → ((us : List Token) → voids us ≡ true → Beyond 1 (p us) (length us)) → (ts : List Token) (w : Bool) → sees_void ts ≡ w
    → LikeAt false (void_or f q) ts (if w then (word_at Real keywords.Void ts >>= λ x. ok (f x.0) x.1) else p ts)
by_void {A = A} {p = p} {q = q} f hp far_p ts true seen =
    let same_read : Does false (λ us. word_at Real keywords.Void us >>= λ x. ok (f x.0) x.1) (λ us. word_at Real keywords.Void us >>= λ x. ok (f x.0) x.1) = then_like (word_like Real keywords.Void) (λ x. done_like (f x)) in
    seen_like (λ us. word_at Real keywords.Void us >>= λ x. ok (f x.0) x.1) (void_or f q) ts (word_at Real keywords.Void ts >>= λ x. ok (f x.0) x.1)
    (λ used rest us parts far same. rw (void_told ts used rest us parts (λ v. far 1 (length ts) (void_word f ts v)) same ∙ seen) refl) (same_read.run ts)
by_void {p = p} {q = q} f hp far_p ts false seen =
    seen_like q (void_or f q) ts (p ts)
    (λ used rest us parts far same. rw (void_told ts used rest us parts (λ v. far 1 (length ts) (far_p ts v)) same ∙ seen) refl) (hp.run ts)

void_like : {A : Type 0} {p q : Parser A} (f : Place → A) → Does false p q → ((us : List Token) → voids us ≡ true → Beyond 1 (p us) (length us)) → Does false (void_or f p) (void_or f q)
void_like f hp far = record { run = λ ts. by_void f hp far ts (sees_void ts) refl }

value_type_like : Does false (λ ts. ctype_at Real ts >>= λ t. ok (results.Value t.0) t.1) (λ ts. ctype_at Real ts >>= λ t. ok (results.Value t.0) t.1)
value_type_like = then_like (ctype_like Real) (λ t. done_like (results.Value t))

value_type_void : (ts : List Token) → voids ts ≡ true → Beyond 1 (ctype_at Real ts >>= λ t. ok (results.Value t.0) t.1) (length ts)
value_type_void ts h = beyond_bind 1 (length ts) (ctype_at Real ts) (λ t. ok (results.Value t)) (void_type ts h) (λ t. bounded (done_like (results.Value t)))

result_type_like : Does false result_type_at result_type_at
unfolding result_type_at
result_type_like = void_like results.Void value_type_like value_type_void

typed_void : (ts : List Token) → voids ts ≡ true → Beyond 1 (typed_at ts) (length ts)
unfolding typed_at declared_at
typed_void ts h =
    beyond_bind 1 (length ts) (declared_at ts) (λ d. ok (typed_of d.0 d.1))
    (beyond_bind 1 (length ts) (ctype_at Real ts) (λ t us. name_at Real us >>= λ n. ok (t, n.0) n.1) (void_type ts h) (λ t. bounded (then_like (name_like Real) (λ n. done_like (t, n)))))
    (λ d. bounded (done_like (typed_of d.0 d.1)))

next_parameter_like : {b : Bool} → Does b next_parameter_at next_parameter_at
unfolding next_parameter_at
next_parameter_like = then_like (mark_like Real punctuators.Comma) (λ m. typed_like)

next_parameter_takes : Takes next_parameter_at
unfolding next_parameter_at
next_parameter_takes = then_takes (mark_takes Real punctuators.Comma) (λ m. typed_like)

more_parameters_like : {b : Bool} (xs : List Typed) → Does b (more_parameters_at xs) (more_parameters_at xs)
unfolding more_parameters_at
more_parameters_like xs = items_like (is_mark Real punctuators.Comma) next_parameter_like next_parameter_takes xs

parameter_list_like : {b : Bool} → Does b parameter_list_at parameter_list_at
unfolding parameter_list_at
parameter_list_like = choice_like (is_mark Real punctuators.CloseParenthesis) (done_like []) (then_like typed_like (λ x. more_parameters_like (x ∷ [])))

parameter_list_void : (ts : List Token) → voids ts ≡ true → Beyond 1 (parameter_list_at ts) (length ts)
unfolding parameter_list_at
parameter_list_void [] h = absurd cc
parameter_list_void (t ∷ ts) h =
    rw ((word_seen keywords.Void t ts h).marks_are punctuators.CloseParenthesis)
    (beyond_bind 1 (suc (length ts)) (typed_at (t ∷ ts)) (λ x us. more_parameters_at (x ∷ []) us) (typed_void (t ∷ ts) h) (λ x. bounded (more_parameters_like (x ∷ []))))

listed_like : Does false (λ ts. parameter_list_at ts >>= λ xs. ok (parameters.Listed xs.0) xs.1) (λ ts. parameter_list_at ts >>= λ xs. ok (parameters.Listed xs.0) xs.1)
listed_like = then_like parameter_list_like (λ xs. done_like (parameters.Listed xs))

listed_void : (ts : List Token) → voids ts ≡ true → Beyond 1 (parameter_list_at ts >>= λ xs. ok (parameters.Listed xs.0) xs.1) (length ts)
listed_void ts h = beyond_bind 1 (length ts) (parameter_list_at ts) (λ xs. ok (parameters.Listed xs)) (parameter_list_void ts h) (λ xs. bounded (done_like (parameters.Listed xs)))

parameters_inside_like : Does false parameters_inside_at parameters_inside_at
unfolding parameters_inside_at
parameters_inside_like = void_like (λ p. parameters.Void) listed_like listed_void

parameters_like : Does false parameters_at parameters_at
unfolding parameters_at
parameters_like = then_like (mark_like Real punctuators.OpenParenthesis) (λ o. then_like parameters_inside_like (λ x. then_like (mark_like Real punctuators.CloseParenthesis) (λ m. done_like x)))

-- a result, a name and parameters
abbrev signature_of : ResultType → Name → Parameters → Signature
signature_of r n x = record { «result» = r; name = n; parameters = x }

named_like : (r : ResultType) → Does false (λ ts. name_at Real ts >>= λ n. parameters_at n.1 >>= λ x. ok (signature_of r n.0 x.0) x.1) (λ ts. name_at Real ts >>= λ n. parameters_at n.1 >>= λ x. ok (signature_of r n.0 x.0) x.1)
named_like r = then_like (name_like Real) (λ n. then_like parameters_like (λ x. done_like (signature_of r n x)))

signature_like : Does false signature_at signature_at
unfolding signature_at
signature_like = then_like result_type_like named_like

function_type_like : {k n : Parser Contract} (g : Grammar) → Does false k n → Does false (function_type_at g k) (function_type_at g n)
unfolding function_type_at
function_type_like g hk = then_like (word_like Real keywords.Typedef) (λ w. then_like signature_like (λ s. then_like (mark_like Real punctuators.Semicolon) (λ m. then_like (owed_like g hk) (λ c. done_like (items.FunctionType w s c)))))

any_claim_like : {l m : Parser Claim} (g : Grammar) → Does false l m → Does false (any_claim_at g l) (any_claim_at g m)
unfolding any_claim_at
any_claim_like g hl = allowed_like g (is_mark Ghost punctuators.Colon) hl

any_contract_like : {k n : Parser Contract} (g : Grammar) → Does false k n → Does false (any_contract_at g k) (any_contract_at g n)
unfolding any_contract_at
any_contract_like g hk = allowed_like g (is_word Ghost keywords.Requires) hk

prototype_like : {l m : Parser Claim} {k n : Parser Contract} (g : Grammar) → Does false l m → Does false k n → (s : Signature) → Does false (prototype_at g l k s) (prototype_at g m n s)
unfolding prototype_at
prototype_like g hl hk s = then_like (mark_like Real punctuators.Semicolon) (λ o. then_like (any_claim_like g hl) (λ a. then_like (owed_like g hk) (λ c. done_like (items.Prototype s a c))))

definition_like : {l m : Parser Claim} {k n : Parser Contract} {b c : Parser Body} (g : Grammar) → Does false l m → Does false k n → Does false b c → (s : Signature) → Does false (definition_at g l k b s) (definition_at g m n c s)
unfolding definition_at
definition_like g hl hk hb s = then_like (any_claim_like g hl) (λ a. then_like (any_contract_like g hk) (λ o. then_like hb (λ x. done_like (items.Function s a o x))))

-- what stands behind the signature of a function
abbrev function_behind : Grammar → Parser Claim → Parser Contract → Parser Body → Signature → Parser Item
function_behind g l k b s ts = if head_has (is_mark Real punctuators.Semicolon) ts then prototype_at g l k s ts else definition_at g l k b s ts

function_behind_like : {l m : Parser Claim} {k n : Parser Contract} {b c : Parser Body} (g : Grammar) → Does false l m → Does false k n → Does false b c → (s : Signature) → Does false (function_behind g l k b s) (function_behind g m n c s)
function_behind_like g hl hk hb s = choice_like (is_mark Real punctuators.Semicolon) (prototype_like g hl hk s) (definition_like g hl hk hb s)

function_like : {l m : Parser Claim} {k n : Parser Contract} {b c : Parser Body} (g : Grammar) → Does false l m → Does false k n → Does false b c → Does false (function_at g l k b) (function_at g m n c)
unfolding function_at
function_like g hl hk hb = then_like signature_like (λ s. function_behind_like g hl hk hb s)

-- a name stands behind the first token
abbrev tagged : List Token → Bool
tagged ts = head_has (is_name Real) (after ts)

-- from `struct` and a name on, each kind of item gets past both
struct_tagged : (ts : List Token) → structs ts ≡ true → tagged ts ≡ true → Beyond 2 (struct_at ts) (length ts)
unfolding struct_at
struct_tagged [] h k = absurd cc
struct_tagged (t ∷ []) h k = absurd cc
struct_tagged (t ∷ s ∷ ts) h k =
    rw (word_taken keywords.Struct t (s ∷ ts) h)
    (beyond_then 2 (suc (suc (length ts))) (name_at Real (s ∷ ts)) (called s) ts (struct_behind t.place) (name_taken s ts k) (omega arith) (bounded (struct_behind_like t.place (called s))))

result_tagged : (ts : List Token) → structs ts ≡ true → tagged ts ≡ true → Beyond 2 (result_type_at ts) (length ts)
unfolding result_type_at sees_void
result_tagged [] h k = absurd cc
result_tagged (t ∷ []) h k = absurd cc
result_tagged (t ∷ s ∷ ts) h k =
    rw ((word_seen keywords.Struct t (s ∷ ts) h).words_are keywords.Void)
    (beyond_bind 2 (suc (suc (length ts))) (ctype_at Real (t ∷ s ∷ ts)) (λ r. ok (results.Value r)) (struct_type t s ts h k) (λ r. bounded (done_like (results.Value r))))

signature_tagged : (ts : List Token) → structs ts ≡ true → tagged ts ≡ true → Beyond 2 (signature_at ts) (length ts)
unfolding signature_at
signature_tagged ts h k = beyond_bind 2 (length ts) (result_type_at ts) (λ r us. name_at Real us >>= λ n. parameters_at n.1 >>= λ x. ok (signature_of r n.0 x.0) x.1) (result_tagged ts h k) (λ r. bounded (named_like r))

-- a function type, or a function
abbrev other_item_at : Grammar → Parser Claim → Parser Contract → Parser Body → Parser Item
other_item_at g l k b ts = if head_has (is_word Real keywords.Typedef) ts then function_type_at g k ts else function_at g l k b ts

other_item_like : {l m : Parser Claim} {k n : Parser Contract} {b c : Parser Body} (g : Grammar) → Does false l m → Does false k n → Does false b c → Does false (other_item_at g l k b) (other_item_at g m n c)
other_item_like g hl hk hb = choice_like (is_word Real keywords.Typedef) (function_type_like g hk) (function_like g hl hk hb)

untyped : (ts : List Token) → structs ts ≡ true → head_has (is_word Real keywords.Typedef) ts ≡ false
untyped [] h = refl
untyped (t ∷ ts) h = (word_seen keywords.Struct t ts h).words_are keywords.Typedef

other_tagged : {l m : Parser Claim} {k n : Parser Contract} {b c : Parser Body} (g : Grammar) → Does false l m → Does false k n → Does false b c → (ts : List Token) → structs ts ≡ true → tagged ts ≡ true → Beyond 2 (other_item_at g l k b ts) (length ts)
unfolding function_at
other_tagged {l = l} {k = k} {b = b} g hl hk hb ts h t =
    rw (untyped ts h) (beyond_bind 2 (length ts) (signature_at ts) (function_behind g l k b) (signature_tagged ts h t) (λ s. bounded (function_behind_like g hl hk hb s)))

by_struct : {l m : Parser Claim} {k n : Parser Contract} {b c : Parser Body} (g : Grammar) → Does false l m → Does false k n → Does false b c → (ts : List Token)
    → (structs ts ≡ true → tagged ts ≡ true) → (w : Bool) → sees_struct ts ≡ w → LikeAt false (real_item_at g m n c) ts (if w then struct_at ts else other_item_at g l k b ts)
unfolding real_item_at
by_struct {l = l} {m = m} {k = k} {n = n} {b = b} {c = c} g hl hk hb ts t true seen =
    seen_like struct_at (real_item_at g m n c) ts (struct_at ts)
    (λ used rest us parts far same. rw (struct_told ts used rest us parts (λ v. far 2 (length ts) (struct_tagged ts v (t v))) same ∙ seen) refl) ((struct_like {b = false}).run ts)
by_struct {l = l} {m = m} {k = k} {n = n} {b = b} {c = c} g hl hk hb ts t false seen =
    seen_like (other_item_at g m n c) (real_item_at g m n c) ts (other_item_at g l k b ts)
    (λ used rest us parts far same. rw (struct_told ts used rest us parts (λ v. far 2 (length ts) (other_tagged g hl hk hb ts v (t v))) same ∙ seen) refl) ((other_item_like g hl hk hb).run ts)

name_refuses : (us : List Token) → head_has (is_name Real) us ≡ false → name_at Real us ≡ Err (Syntax (length us))
unfolding name_at
name_refuses [] h = refl
name_refuses (t ∷ us) h = rw h refl

struct_refuses : (t : Token) (us : List Token) → is_word Real keywords.Struct t ≡ true → head_has (is_name Real) us ≡ false → struct_at (t ∷ us) ≡ Err (Syntax (length us))
unfolding struct_at
struct_refuses t us h k = rw (word_taken keywords.Struct t us h, name_refuses us k) refl

type_refuses : (t : Token) (us : List Token) → is_word Real keywords.Struct t ≡ true → head_has (is_name Real) us ≡ false → ctype_at Real (t ∷ us) ≡ Err (Syntax (length us))
unfolding ctype_at here_at type_form_at struct_pointer_at
type_refuses t us h k =
    let f = word_seen keywords.Struct t us h in
    rw (f.words_are keywords.Bool, f.words_are keywords.Void, f.words_are keywords.Struct, word_taken keywords.Struct t us h, name_refuses us k) refl

other_refuses : (g : Grammar) (l : Parser Claim) (k : Parser Contract) (b : Parser Body) (t : Token) (us : List Token) → is_word Real keywords.Struct t ≡ true → head_has (is_name Real) us ≡ false → other_item_at g l k b (t ∷ us) ≡ Err (Syntax (length us))
unfolding function_at signature_at result_type_at sees_void
other_refuses g l k b t us h j =
    let f = word_seen keywords.Struct t us h in
    rw (f.words_are keywords.Typedef, f.words_are keywords.Void, type_refuses t us h j) refl

same_both : {X : Type 0} (v : Bool) (x y z : X) → x ≡ z → y ≡ z → (if v then x else y) ≡ z
same_both true x y z h k = h
same_both false x y z h k = k

-- behind `struct` each kind of item refuses what is no name
real_refuses : (g : Grammar) (l : Parser Claim) (k : Parser Contract) (b : Parser Body) (t : Token) (us : List Token) → is_word Real keywords.Struct t ≡ true → head_has (is_name Real) us ≡ false → real_item_at g l k b (t ∷ us) ≡ Err (Syntax (length us))
unfolding real_item_at
real_refuses g l k b t us h j = same_both (sees_struct (t ∷ us)) (struct_at (t ∷ us)) (other_item_at g l k b (t ∷ us)) (Err (Syntax (length us))) (struct_refuses t us h j) (other_refuses g l k b t us h j)

tagless : (l m : Parser Claim) (k n : Parser Contract) (b c : Parser Body) (g : Grammar) (ts : List Token) → structs ts ≡ true → tagged ts ≡ false → LikeAt false (real_item_at g m n c) ts (real_item_at g l k b ts)
tagless l m k n b c g [] h j = absurd cc
tagless l m k n b c g (t ∷ us) h j =
    subst (λ (r : Read Item). LikeAt false (real_item_at g m n c) (t ∷ us) r) (sym (real_refuses g l k b t us h j))
    (λ o. record { used = t ∷ []; rest = us; parts = refl; left = refl; alike = λ r e. real_refuses g m n c t r h (first_has (is_name Real) r us e ∙ j) })

by_tag : {l m : Parser Claim} {k n : Parser Contract} {b c : Parser Body} (g : Grammar) → Does false l m → Does false k n → Does false b c → (ts : List Token) (v w : Bool) → structs ts ≡ v → tagged ts ≡ w → LikeAt false (real_item_at g m n c) ts (real_item_at g l k b ts)
unfolding real_item_at
by_tag {l = l} {m = m} {k = k} {n = n} {b = b} {c = c} g hl hk hb ts true false h j = tagless l m k n b c g ts h j
by_tag g hl hk hb ts true true h j = by_struct g hl hk hb ts (λ e. j) (sees_struct ts) refl
by_tag g hl hk hb ts false w h j = by_struct g hl hk hb ts (λ e. absurd (no_true (sym h ∙ e))) (sees_struct ts) refl

real_item_like : {l m : Parser Claim} {k n : Parser Contract} {b c : Parser Body} (g : Grammar) → Does false l m → Does false k n → Does false b c → Does false (real_item_at g l k b) (real_item_at g m n c)
real_item_like g hl hk hb = record { run = λ ts. by_tag g hl hk hb ts (structs ts) (tagged ts) refl refl }

item_like : {l m : Parser Claim} {k n : Parser Contract} {b c : Parser Body} {x y : Parser GhostItem} (g : Grammar) → Does false l m → Does false k n → Does false b c → Does false x y → Does false (item_by g l k b x) (item_by g m n c y)
unfolding item_by sees_annotation
item_like g hl hk hb hx = both_like (is_whole g) (is_on Ghost) (then_like hx (λ a. done_like (items.Ghost a))) (real_item_like g hl hk hb)

-- parsers of annotations are given that read what is spelled, and stop alike on tokens that are alike
pub record AlikeAnnotations (c : ℕ → Parser GhostCommandTree) (i : ℕ → Parser Invariant) (k : ℕ → Parser Contract) (l : Parser Claim) (x : ℕ → Parser GhostItem) : Type 0 where
  pub reads_commands : ReadsCommands c
  pub reads_invariants : ReadsInvariants i
  pub reads_contracts : ReadsContracts k
  pub reads_claims : ReadsClaims l
  pub reads_items : ReadsItems x
  pub commands_alike : Alike c
  pub invariants_alike : Alike i
  pub contracts_alike : Alike k
  pub claims_alike : Does false l l
  pub items_alike : Alike x

pub items_alike : (g : Grammar) (c : ℕ → Parser GhostCommandTree) (i : ℕ → Parser Invariant) (k : ℕ → Parser Contract) (l : Parser Claim) (x : ℕ → Parser GhostItem) → AlikeAnnotations c i k l x
    → (d m : ℕ) → d ≤ m → Does false (item_at g c i k l x d) (item_at g c i k l x m)
items_alike g c i k l x a d m le =
    item_like g a.claims_alike (a.contracts_alike d m le) (bodies_like g c i a.reads_commands a.reads_invariants a.commands_alike a.invariants_alike d m le) (a.items_alike d m le)

-- what is read as an item takes a token
item_takes : (g : Grammar) (c : ℕ → Parser GhostCommandTree) (i : ℕ → Parser Invariant) (k : ℕ → Parser Contract) (l : Parser Claim) (x : ℕ → Parser GhostItem) → AlikeAnnotations c i k l x → (d : ℕ) → Takes (item_at g c i k l x d)
item_takes g c i k l x a d ts y rest e = (item_eats g y).eat ts rest ((item_sound g c i k l x a.reads_commands a.reads_invariants a.reads_contracts a.reads_claims a.reads_items d ts y rest e).0)

end_none : {A : Type 0} (a : A) (r : List Token) → first r ≡ None → end_at a r ≡ ok a r
unfolding end_at
end_none a [] h = refl
end_none a (t ∷ r) h = absurd cc

end_other : {A : Type 0} (a : A) (t : Token) (r : List Token) → first r ≡ Some t → end_at a r ≡ Err (Syntax (length r))
unfolding end_at
end_other a t [] h = absurd cc
end_other a t (u ∷ r) h = refl

end_all : {A : Type 0} (b : Bool) (a : A) (ts : List Token) → LikeAt b (end_at a) ts (end_at a ts)
unfolding end_at
end_all b a [] = record { used = []; parts = refl; alike = end_none a }
end_all b a (t ∷ ts) = λ k. record { used = []; rest = t ∷ ts; parts = refl; left = refl; alike = end_other a t }

end_like : {A : Type 0} {b : Bool} (a : A) → Does b (end_at a) (end_at a)
end_like {b = b} a = record { run = end_all b a }

pub units_alike : (g : Grammar) (c : ℕ → Parser GhostCommandTree) (i : ℕ → Parser Invariant) (k : ℕ → Parser Contract) (l : Parser Claim) (x : ℕ → Parser GhostItem) → AlikeAnnotations c i k l x
    → (d m : ℕ) → d ≤ m → Does false (unit_at g c i k l x d) (unit_at g c i k l x m)
unfolding unit_by items_by
units_alike g c i k l x a d m le = then_like (items_like is_any (items_alike g c i k l x a d m le) (item_takes g c i k l x a m) []) (λ xs. end_like xs)
