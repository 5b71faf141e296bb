-- Items and units that are spelled are read.
use Rattle.std.proofs.Common.{◌≡◌, ℕ, ◌+◌, ◌≤◌, ◌<◌, Bool, true, false, List, [], ◌∷◌, length, Option, Some, None, refl, sym, subst, ◌∙◌, arith}
use Rattle.vf_base.specs.declared.place.Place.{Place}
use Rattle.vf_lexer.specs.declared.punctuator.Punctuator.TheVariants as punctuators
use Rattle.vf_lexer.specs.declared.token.Token.{Token}
use Rattle.vf_syntax.specs.declared.keyword.Keyword.TheVariants as keywords
use Rattle.vf_syntax.specs.declared.side.Side.TheVariants.{Real, Ghost}
use Rattle.vf_syntax.specs.declared.side.Grammar.{Grammar}
use Rattle.vf_syntax.specs.declared.side.Grammar.TheVariants as grammars
use Rattle.vf_syntax.specs.declared.contract.Contract.{Contract}
use Rattle.vf_syntax.specs.declared.contract.Claim.{Claim}
use Rattle.vf_syntax.specs.declared.contract.Invariant.{Invariant}
use Rattle.vf_syntax.specs.declared.item.Signature.{Signature}
use Rattle.vf_syntax.specs.declared.item.Body.{Body}
use Rattle.vf_syntax.specs.declared.item.GhostItem.{GhostItem}
use Rattle.vf_syntax.specs.declared.item.Item.{Item}
use Rattle.vf_syntax.specs.declared.item.Item.TheVariants as items
use Rattle.vf_syntax.specs.declared.item.Unit.{Unit as FileUnit}
use Rattle.vf_syntax.specs.GhostCommandTree.{GhostCommandTree}
use Rattle.vf_syntax.specs.StmtTree.{stmt_list}
use Rattle.vf_syntax.specs.Walks.{Walk, at, mark, word, head_has, is_on, is_mark, is_word}
use Rattle.vf_syntax.specs.Lists.{each, greatest, or_none}
use Rattle.vf_syntax.specs.Statements.{claim, contract, contract_nesting, owed, allowed, stmts_nesting}
use Rattle.vf_syntax.specs.Units.{signature, body, ghost_item, ghost_form_nesting, item, item_nesting, unit, Spells}
use Rattle.vf_cursor.specs.Parsing.{Parser, ok, end_at, fails_at}
use Rattle.vf_parse_expression.proofs.Collected.{Collects}
use Rattle.vf_parse_statement.specs.Annotations.{reads_none}
use Rattle.vf_parse_statement.specs.Parsers.{is_whole, body_at}
use Rattle.vf_parse_item.specs.Parsers.{allowed_at, function_type_at, any_claim_at, any_contract_at, prototype_at, definition_at, function_at, real_item_at, item_by, item_at, sees_struct, struct_at}
use Rattle.vf_parse_real.specs.Units.{is_any, items_by, unit_by, unit_at, plain_at}
use Rattle.vf_grammar_read.proofs.expressions.Same.{some_same, no_true, both}
use Rattle.vf_grammar_read.proofs.expressions.Fronts.{a_mark, a_word, Front, gone, at_stays, mark_front, word_front}
use Rattle.vf_grammar_read.proofs.expressions.Taken.{mark_read, word_here}
use Rattle.vf_grammar_read.proofs.expressions.Begins.{behind}
use Rattle.vf_grammar_read.proofs.expressions.Eaten.{Eats, Keeps, keeps, eat_then, then_eat, keep_then, nothing_keeps, at_keeps, mark_eats, word_eats, name_eats}
use Rattle.vf_grammar_read.proofs.expressions.Items.{Item as Read, items_full}
use Rattle.vf_grammar_read.proofs.simple_statements.SimplesFull.{one_read}
use Rattle.vf_grammar_read.proofs.statements.GhostEaten.{never_keeps, never_eats, claim_keeps, contract_keeps}
use Rattle.vf_grammar_read.proofs.statements.Begins.{real_only, ghost_only, off_word, off_mark, owed_keeps, stmts_keep}
use Rattle.vf_grammar_read.proofs.statements.Parts.{owed_full}
use Rattle.vf_grammar_read.proofs.statements.StmtFull.{bodies_full, plain_texts, real_unseen, ghost_seen}
use Rattle.vf_grammar_read.specs.units.Annotations.{FullAnnotations}
use Rattle.vf_grammar_read.proofs.units.GhostItems.{ghost_item_eats, ghost_item_begins}
use Rattle.vf_grammar_read.proofs.units.Signatures.{front_no_struct, opaque_full, struct_full, signature_full, signature_begins, signature_eats, fields_keep}

-- a part that is allowed is read, where a grammar has annotations; where it is absent, its first token stands not in front
allowed_full : {A : Type 0} (g : Grammar) (w : A → Walk) (n : A → ℕ) (d : ℕ) (begins : Token → Bool) (p : Parser A) → (is_whole g ≡ true → (x : A) (ts rest : List Token) → w x ts ≡ Some rest → n x ≤ d → p ts ≡ ok x rest)
    → ((x : A) (ts rest : List Token) → w x ts ≡ Some rest → head_has begins ts ≡ true) → (x : Option A) (ts rest : List Token) → allowed g w x ts ≡ Some rest → or_none n x ≤ d → head_has begins rest ≡ false → allowed_at g begins p ts ≡ ok x rest
allowed_full grammars.Whole w n d begins p hp hb (Some x) ts rest h deep stop = rw (hb x ts rest h, hp refl x ts rest h deep) refl
allowed_full grammars.Whole w n d begins p hp hb None ts rest h deep stop =
    let same : ts ≡ rest = some_same h in
    rw (subst (λ us. head_has begins us ≡ false) (sym same) stop) (λ i. ok None (same i))
allowed_full grammars.Plain w n d begins p hp hb None ts rest h deep stop = let same : ts ≡ rest = some_same h in λ i. ok None (same i)
allowed_full grammars.Plain w n d begins p hp hb (Some x) ts rest h deep stop = absurd cc

allowed_keeps : {A : Type 0} (g : Grammar) (w : A → Walk) → ((x : A) → Keeps (w x)) → (x : Option A) → Keeps (allowed g w x)
allowed_keeps grammars.Whole w h (Some x) = h x
allowed_keeps grammars.Whole w h None = nothing_keeps
allowed_keeps grammars.Plain w h None = nothing_keeps
allowed_keeps grammars.Plain w h (Some x) = never_keeps

claim_front : (x : Claim) (ts rest : List Token) → claim x ts ≡ Some rest → Front Ghost (a_mark punctuators.Colon) ts
unfolding claim
claim_front x ts rest h =
    let a = gone (at x.place ts) h in
    let m = gone (mark Ghost punctuators.Colon a.0) a.2 in
    subst (λ us. Front Ghost (a_mark punctuators.Colon) us) (sym (at_stays x.place ts a.0 a.1)) (mark_front Ghost _ a.0 m.0 m.1)

contract_front : (x : Contract) (ts rest : List Token) → contract x ts ≡ Some rest → Front Ghost (a_word keywords.Requires) ts
unfolding contract
contract_front x ts rest h =
    let a = gone (at x.place ts) h in
    let m = gone (word Ghost keywords.Requires a.0) a.2 in
    subst (λ us. Front Ghost (a_word keywords.Requires) us) (sym (at_stays x.place ts a.0 a.1)) (word_front Ghost _ a.0 m.0 m.1)

body_front : (g : Grammar) (x : Body) (ts rest : List Token) → body g x ts ≡ Some rest → Front Real (a_mark punctuators.OpenBrace) ts
unfolding body
body_front g x ts rest h =
    let a = gone (at x.place ts) h in
    let m = gone (mark Real punctuators.OpenBrace a.0) a.2 in
    behind x.place a.1 (mark_front Real _ a.0 m.0 m.1)

body_keeps : (g : Grammar) (x : Body) → Keeps (body g x)
unfolding body
body_keeps g x = keep_then (at_keeps x.place) (keep_then (keeps (mark_eats _ _)) (keep_then (stmts_keep g (stmt_list x.statements)) (keep_then (at_keeps x.last) (keeps (mark_eats _ _)))))

-- no colon of ghost text stands where a contract is owed, or is none
owed_colonless : (g : Grammar) (x : Option Contract) (ts rest : List Token) → owed g contract x ts ≡ Some rest → is_whole g ≡ true → head_has (is_mark Ghost punctuators.Colon) ts ≡ false
owed_colonless grammars.Whole (Some x) ts rest h w = (contract_front x ts rest h).marks_are punctuators.Colon
owed_colonless grammars.Whole None ts rest h w = absurd cc
owed_colonless grammars.Plain x ts rest h w = no_true w

-- what stands behind the claim of a function: a contract, or the body
allowed_colonless : (g : Grammar) (x : Option Contract) (ts us : List Token) → allowed g contract x ts ≡ Some us → Front Real (a_mark punctuators.OpenBrace) us → (head_has (is_mark Ghost punctuators.Colon) ts ≡ false) × (head_has (is_mark Real punctuators.Semicolon) ts ≡ false)
allowed_colonless grammars.Whole (Some x) ts us h f =
    let k = contract_front x ts us h in
    (k.marks_are punctuators.Colon, off_mark Real punctuators.Semicolon ts (ghost_only ts k.side_is))
allowed_colonless grammars.Whole None ts us h f =
    let k : Front Real (a_mark punctuators.OpenBrace) ts = subst (λ vs. Front Real (a_mark punctuators.OpenBrace) vs) (sym (some_same h)) f in
    (off_mark Ghost punctuators.Colon ts (real_only ts k.side_is), k.marks_are punctuators.Semicolon)
allowed_colonless grammars.Plain None ts us h f =
    let k : Front Real (a_mark punctuators.OpenBrace) ts = subst (λ vs. Front Real (a_mark punctuators.OpenBrace) vs) (sym (some_same h)) f in
    (off_mark Ghost punctuators.Colon ts (real_only ts k.side_is), k.marks_are punctuators.Semicolon)
allowed_colonless grammars.Plain (Some x) ts us h f = absurd cc

-- no semicolon stands behind the signature of a function with a body
claim_unended : (g : Grammar) (x : Option Claim) (ts us : List Token) → allowed g claim x ts ≡ Some us → head_has (is_mark Real punctuators.Semicolon) us ≡ false → head_has (is_mark Real punctuators.Semicolon) ts ≡ false
claim_unended grammars.Whole (Some x) ts us h k = off_mark Real punctuators.Semicolon ts (ghost_only ts (claim_front x ts us h).side_is)
claim_unended grammars.Whole None ts us h k = subst (λ vs. head_has (is_mark Real punctuators.Semicolon) vs ≡ false) (sym (some_same h)) k
claim_unended grammars.Plain None ts us h k = subst (λ vs. head_has (is_mark Real punctuators.Semicolon) vs ≡ false) (sym (some_same h)) k
claim_unended grammars.Plain (Some x) ts us h k = absurd cc

-- contracts and claims are read, where a grammar has annotations
abbrev pub Contracted : Grammar → ℕ → Parser Contract → Type 0
Contracted g d k = is_whole g ≡ true → (x : Contract) (ts rest : List Token) → contract x ts ≡ Some rest → contract_nesting x ≤ d → k ts ≡ ok x rest

abbrev pub Claimed : Grammar → Parser Claim → Type 0
Claimed g l = is_whole g ≡ true → (x : Claim) (ts rest : List Token) → claim x ts ≡ Some rest → l ts ≡ ok x rest

-- a claim, in which nothing nests
none_nests : Claim → ℕ
none_nests x = 0

claim_shallow : (x : Option Claim) → or_none none_nests x ≤ 0
unfolding none_nests
claim_shallow None = omega arith
claim_shallow (Some x) = omega arith

any_claim_full : (g : Grammar) (l : Parser Claim) → Claimed g l → (x : Option Claim) (ts rest : List Token) → allowed g claim x ts ≡ Some rest → head_has (is_mark Ghost punctuators.Colon) rest ≡ false → any_claim_at g l ts ≡ ok x rest
unfolding any_claim_at
any_claim_full g l hl x ts rest h stop =
    allowed_full g claim none_nests 0 (is_mark Ghost punctuators.Colon) l (λ w a us vs k deep. hl w a us vs k) (λ a us vs k. (claim_front a us vs k).marks_are punctuators.Colon) x ts rest h (claim_shallow x) stop

any_contract_full : (g : Grammar) (d : ℕ) (k : Parser Contract) → Contracted g d k → (x : Option Contract) (ts rest : List Token) → allowed g contract x ts ≡ Some rest → or_none contract_nesting x ≤ d → head_has (is_word Ghost keywords.Requires) rest ≡ false → any_contract_at g k ts ≡ ok x rest
unfolding any_contract_at
any_contract_full g d k hk x ts rest h deep stop =
    allowed_full g contract contract_nesting d (is_word Ghost keywords.Requires) k hk (λ a us vs c. (contract_front a us vs c).words_are keywords.Requires) x ts rest h deep stop

function_type_full : (g : Grammar) (d : ℕ) (k : Parser Contract) → Contracted g d k → (p : Place) (s : Signature) (c : Option Contract) (ts rest : List Token) → item g (items.FunctionType p s c) ts ≡ Some rest → or_none contract_nesting c ≤ d
    → Front Real (a_word keywords.Typedef) ts × (function_type_at g k ts ≡ ok (items.FunctionType p s c) rest)
unfolding item function_type_at
function_type_full g d k hk p s c ts rest h deep =
    let a = gone (at p ts) h in
    let w = gone (word Real keywords.Typedef a.0) a.2 in
    let x = gone (signature s w.0) w.2 in
    let m = gone (mark Real punctuators.Semicolon x.0) x.2 in (
      behind p a.1 (word_front Real _ a.0 w.0 w.1),
      rw (word_here Real _ p ts a.0 w.0 a.1 w.1, signature_full s w.0 x.0 x.1, (mark_read Real _ x.0 m.0 m.1).1, owed_full g contract contract_nesting d k hk c m.0 rest m.2 deep) refl,
    )

plain_claim : (l : Parser Claim) (q : Option Claim) (ts us : List Token) → allowed grammars.Plain claim q ts ≡ Some us → any_claim_at grammars.Plain l ts ≡ ok q us
unfolding any_claim_at
plain_claim l None ts us h = let same : ts ≡ us = some_same h in λ i. ok None (same i)
plain_claim l (Some x) ts us h = absurd cc

claim_before : (g : Grammar) (l : Parser Claim) → Claimed g l → (q : Option Claim) (c : Option Contract) (ts us rest : List Token) → allowed g claim q ts ≡ Some us → owed g contract c us ≡ Some rest → any_claim_at g l ts ≡ ok q us
claim_before grammars.Whole l hl q c ts us rest h k = any_claim_full grammars.Whole l hl q ts us h (owed_colonless grammars.Whole c us rest k refl)
claim_before grammars.Plain l hl q c ts us rest h k = plain_claim l q ts us h

prototype_full : (g : Grammar) (d : ℕ) (k : Parser Contract) (l : Parser Claim) (b : Parser Body) → Contracted g d k → Claimed g l → (s : Signature) (q : Option Claim) (c : Option Contract) (ts rest : List Token) → item g (items.Prototype s q c) ts ≡ Some rest → or_none contract_nesting c ≤ d
    → function_at g l k b ts ≡ ok (items.Prototype s q c) rest
unfolding item function_at prototype_at
prototype_full g d k l b hk hl s q c ts rest h deep =
    let x = gone (signature s ts) h in
    let m = gone (mark Real punctuators.Semicolon x.0) x.2 in
    let a = gone (allowed g claim q m.0) m.2 in
    let f = mark_front Real punctuators.Semicolon x.0 m.0 m.1 in
    rw (signature_full s ts x.0 x.1, f.marks_are punctuators.Semicolon, (mark_read Real _ x.0 m.0 m.1).1, claim_before g l hl q c m.0 a.0 rest a.1 a.2, owed_full g contract contract_nesting d k hk c a.0 rest a.2 deep) refl

definition_full : (g : Grammar) (d : ℕ) (k : Parser Contract) (l : Parser Claim) (b : Parser Body) → Contracted g d k → Claimed g l → ((x : Body) (ts rest : List Token) → body g x ts ≡ Some rest → stmts_nesting (stmt_list x.statements) ≤ d → b ts ≡ ok x rest)
    → (s : Signature) (q : Option Claim) (c : Option Contract) (x : Body) (ts rest : List Token) → item g (items.Function s q c x) ts ≡ Some rest → item_nesting (items.Function s q c x) ≤ d → function_at g l k b ts ≡ ok (items.Function s q c x) rest
unfolding item function_at definition_at
definition_full g d k l b hk hl hb s q c x ts rest h deep =
    let y = gone (signature s ts) h in
    let a = gone (allowed g claim q y.0) y.2 in
    let z = gone (allowed g contract c a.0) a.2 in
    let f = body_front g x z.0 rest z.2 in
    let o = allowed_colonless g c a.0 z.0 z.1 f in
    rw (signature_full s ts y.0 y.1, claim_unended g q y.0 a.0 a.1 o.1, any_claim_full g l hl q y.0 a.0 a.1 o.0, any_contract_full g d k hk c a.0 z.0 z.1 (omega (arith, deep)) (off_word Ghost keywords.Requires z.0 (real_only z.0 f.side_is)), hb x z.0 rest z.2 (omega (arith, deep))) refl

-- a function is no struct and no function type
function_seen : (g : Grammar) (l : Parser Claim) (k : Parser Contract) (b : Parser Body) (x : Item) (s : Signature) (ts us rest : List Token) → signature s ts ≡ Some us → function_at g l k b ts ≡ ok x rest → (head_has (is_on Ghost) ts ≡ false) × (real_item_at g l k b ts ≡ ok x rest)
unfolding real_item_at
function_seen g l k b x s ts us rest h e =
    let n = signature_begins s ts us h in
    (real_only ts n.front.side_is, rw (n.no_struct, n.front.words_are keywords.Typedef ∙ n.no_typedef) e)

-- an item of real text
real_by : (g : Grammar) (l : Parser Claim) (k : Parser Contract) (b : Parser Body) (x : Parser GhostItem) (a : Item) (ts rest : List Token) → head_has (is_on Ghost) ts ≡ false → real_item_at g l k b ts ≡ ok a rest → item_by g l k b x ts ≡ ok a rest
unfolding item_by
real_by g l k b x a ts rest h e = rw (real_unseen g ts h) e

ghost_by : (l : Parser Claim) (k : Parser Contract) (b : Parser Body) (x : Parser GhostItem) (a : GhostItem) (ts rest : List Token) → head_has (is_on Ghost) ts ≡ true → x ts ≡ ok a rest → item_by grammars.Whole l k b x ts ≡ ok (items.Ghost a) rest
unfolding item_by
ghost_by l k b x a ts rest h e = rw (ghost_seen ts h, e) refl

structured : (g : Grammar) (l : Parser Claim) (k : Parser Contract) (b : Parser Body) (a : Item) (ts rest : List Token) → sees_struct ts ≡ true → struct_at ts ≡ ok a rest → real_item_at g l k b ts ≡ ok a rest
unfolding real_item_at
structured g l k b a ts rest h e = rw h e

typedefed : (g : Grammar) (l : Parser Claim) (k : Parser Contract) (b : Parser Body) (a : Item) (ts rest : List Token) → Front Real (a_word keywords.Typedef) ts → function_type_at g k ts ≡ ok a rest → real_item_at g l k b ts ≡ ok a rest
unfolding real_item_at
typedefed g l k b a ts rest f e = rw (front_no_struct _ ts f refl, f.words_are keywords.Typedef) e

struct_side : (ts : List Token) → sees_struct ts ≡ true → head_has (is_on Ghost) ts ≡ false
unfolding sees_struct is_word
struct_side [] h = refl
struct_side (t ∷ ts) h = real_only (t ∷ ts) ((both _ _ (both _ _ (both _ _ h).0).0).0)

pub item_full : (g : Grammar) (d : ℕ) (l : Parser Claim) (k : Parser Contract) (b : Parser Body) (x : Parser GhostItem) → Contracted g d k → Claimed g l → ((a : Body) (ts rest : List Token) → body g a ts ≡ Some rest → stmts_nesting (stmt_list a.statements) ≤ d → b ts ≡ ok a rest)
    → (is_whole g ≡ true → (a : GhostItem) (ts rest : List Token) → ghost_item a ts ≡ Some rest → ghost_form_nesting a.form ≤ d → x ts ≡ ok a rest) → (a : Item) (ts rest : List Token) → item g a ts ≡ Some rest → item_nesting a ≤ d → item_by g l k b x ts ≡ ok a rest
unfolding item
item_full g d l k b x hk hl hb hx (items.Opaque p tag) ts rest h deep = let r = opaque_full g p tag ts rest h in real_by g l k b x _ ts rest (struct_side ts r.0) (structured g l k b _ ts rest r.0 r.1)
item_full g d l k b x hk hl hb hx (items.Struct p tag fs) ts rest h deep = let r = struct_full g p tag fs ts rest h in real_by g l k b x _ ts rest (struct_side ts r.0) (structured g l k b _ ts rest r.0 r.1)
item_full g d l k b x hk hl hb hx (items.FunctionType p s c) ts rest h deep = let r = function_type_full g d k hk p s c ts rest h deep in real_by g l k b x _ ts rest (real_only ts r.0.side_is) (typedefed g l k b _ ts rest r.0 r.1)
item_full g d l k b x hk hl hb hx (items.Prototype s q c) ts rest h deep =
    let y = gone (signature s ts) h in
    let r = function_seen g l k b (items.Prototype s q c) s ts y.0 rest y.1 (prototype_full g d k l b hk hl s q c ts rest h deep) in
    real_by g l k b x _ ts rest r.0 r.1
item_full g d l k b x hk hl hb hx (items.Function s q c a) ts rest h deep =
    let y = gone (signature s ts) h in
    let r = function_seen g l k b (items.Function s q c a) s ts y.0 rest y.1 (definition_full g d k l b hk hl hb s q c a ts rest h deep) in
    real_by g l k b x _ ts rest r.0 r.1
item_full grammars.Whole d l k b x hk hl hb hx (items.Ghost a) ts rest h deep = ghost_by l k b x a ts rest (ghost_item_begins a ts rest h) (hx refl a ts rest h deep)
item_full grammars.Plain d l k b x hk hl hb hx (items.Ghost a) ts rest h deep = absurd cc

pub item_eats : (g : Grammar) (x : Item) → Eats (item g x)
unfolding item
item_eats g (items.Opaque p tag) = then_eat (at_keeps p) (eat_then (word_eats _ _) (keep_then (keeps (name_eats _ tag)) (keeps (mark_eats _ _))))
item_eats g (items.Struct p tag fs) = then_eat (at_keeps p) (eat_then (word_eats _ _) (keep_then (keeps (name_eats _ tag)) (keep_then (keeps (mark_eats _ _)) (keep_then (fields_keep fs) (keep_then (keeps (mark_eats _ _)) (keeps (mark_eats _ _)))))))
item_eats g (items.FunctionType p s c) = then_eat (at_keeps p) (eat_then (word_eats _ _) (keep_then (keeps (signature_eats s)) (keep_then (keeps (mark_eats _ _)) (owed_keeps g contract contract_keeps c))))
item_eats g (items.Prototype s q c) = eat_then (signature_eats s) (keep_then (keeps (mark_eats _ _)) (keep_then (allowed_keeps g claim claim_keeps q) (owed_keeps g contract contract_keeps c)))
item_eats g (items.Function s q c b) = eat_then (signature_eats s) (keep_then (allowed_keeps g claim claim_keeps q) (keep_then (allowed_keeps g contract contract_keeps c) (body_keeps g b)))
item_eats grammars.Whole (items.Ghost x) = ghost_item_eats x
item_eats grammars.Plain (items.Ghost x) = never_eats

units_collect : (g : Grammar) → Collects (item g) item_nesting (λ (xs : List Item). each (item g) xs) (λ (xs : List Item). greatest item_nesting xs)
units_collect g = record { nothing_walk = λ ts. refl; item_walk = λ x xs ts. refl; nothing_deep = refl; item_deep = λ x xs. refl }

something : (ts : List Token) → 0 < length ts → head_has is_any ts ≡ true
something [] h = absurd (omega (arith, h))
something (t ∷ ts) h = refl

more_than : (m n : ℕ) → m < n → 0 < n
more_than m n h = omega (arith, h)

unit_item : (g : Grammar) (d : ℕ) (p : Parser Item) → ((a : Item) (ts rest : List Token) → item g a ts ≡ Some rest → item_nesting a ≤ d → p ts ≡ ok a rest) → Read (item g) item_nesting d (λ ts. Unit {0}) is_any p
unit_item g d p hp = record {
  full = λ a ts rest h deep u. hp a ts rest h deep;
  heads = λ a ts rest h. something ts (more_than (length rest) (length ts) ((item_eats g a).eat ts rest h));
  fine = λ a ts rest h. tt;
  eats = λ a. item_eats g a;
}

pub unit_full : (g : Grammar) (d : ℕ) (p : Parser Item) → ((a : Item) (ts rest : List Token) → item g a ts ≡ Some rest → item_nesting a ≤ d → p ts ≡ ok a rest) → (u : FileUnit) (ts : List Token) → Spells g d u ts → unit_by p ts ≡ ok u.items []
unfolding unit unit_by items_by end_at
unit_full g d p hp u ts s =
    rw (items_full (units_collect g) (unit_item g d p hp) (length ts) u.items [] ts [] s.spelled s.nested tt refl (omega arith)) refl

pub items_read : (g : Grammar) (c : ℕ → Parser GhostCommandTree) (i : ℕ → Parser Invariant) (k : ℕ → Parser Contract) (l : Parser Claim) (x : ℕ → Parser GhostItem) → FullAnnotations g c i k l x
    → (d : ℕ) (a : Item) (ts rest : List Token) → item g a ts ≡ Some rest → item_nesting a ≤ d → item_at g c i k l x d ts ≡ ok a rest
items_read g c i k l x f d a ts rest h deep =
    item_full g d l (k d) (body_at g c i d) (x d) (λ w. f.contracts_are_read w d) f.claims_are_read (λ b us vs m. bodies_full g c i f.texts d b us vs m) (λ w. f.items_are_read w d) a ts rest h deep

pub units_read : (g : Grammar) (c : ℕ → Parser GhostCommandTree) (i : ℕ → Parser Invariant) (k : ℕ → Parser Contract) (l : Parser Claim) (x : ℕ → Parser GhostItem) → FullAnnotations g c i k l x
    → (d : ℕ) (u : FileUnit) (ts : List Token) → Spells g d u ts → unit_at g c i k l x d ts ≡ ok u.items []
units_read g c i k l x f d u ts s = unit_full g d (item_at g c i k l x d) (items_read g c i k l x f d) u ts s

-- without annotations nothing is owed
pub plain_annotations : FullAnnotations grammars.Plain reads_none reads_none reads_none fails_at reads_none
plain_annotations = record { texts = plain_texts reads_none reads_none; contracts_are_read = λ h. no_true h; claims_are_read = λ h. no_true h; items_are_read = λ h. no_true h }

pub plain_units_read : (d : ℕ) (u : FileUnit) (ts : List Token) → Spells grammars.Plain d u ts → plain_at d ts ≡ ok u.items []
plain_units_read d u ts s = units_read grammars.Plain reads_none reads_none reads_none fails_at reads_none plain_annotations d u ts s

deeper : (d e : ℕ) (u : FileUnit) (ts : List Token) → d ≤ e → Spells grammars.Plain d u ts → Spells grammars.Plain e u ts
deeper d e u ts h s = record { spelled = s.spelled; nested = omega (arith, h, s.nested) }

pub one_unit : (d e : ℕ) (u v : FileUnit) (ts : List Token) → Spells grammars.Plain d u ts → Spells grammars.Plain e v ts → u.items ≡ v.items
one_unit d e u v ts s t = one_read (plain_at (d + e)) u.items v.items ts [] (plain_units_read (d + e) u ts (deeper d (d + e) u ts (omega arith) s)) (plain_units_read (d + e) v ts (deeper e (d + e) v ts (omega arith) t))
