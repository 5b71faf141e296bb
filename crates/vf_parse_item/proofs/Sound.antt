-- What is read as an item is spelled so, and nests no deeper than it may.
use Rattle.std.proofs.Common.{◌≡◌, ℕ, ◌≤◌, Bool, List, [], length, Option, Some, None, refl, subst, sym, inl, inr, arith}
use Rattle.vf_lexer.specs.declared.punctuator.Punctuator.TheVariants as punctuators
use Rattle.vf_lexer.specs.declared.token.Token.{Token}
use Rattle.vf_syntax.specs.declared.keyword.Keyword.TheVariants as keywords
use Rattle.vf_syntax.specs.declared.side.Side.TheVariants.{Real, Ghost}
use Rattle.vf_syntax.specs.declared.side.Grammar.{Grammar}
use Rattle.vf_syntax.specs.declared.side.Grammar.TheVariants as grammars
use Rattle.vf_syntax.specs.declared.written.ResultType.{ResultType}
use Rattle.vf_syntax.specs.declared.contract.Contract.{Contract}
use Rattle.vf_syntax.specs.declared.contract.Claim.{Claim}
use Rattle.vf_syntax.specs.declared.contract.Invariant.{Invariant}
use Rattle.vf_syntax.specs.declared.item.Typed.{Typed}
use Rattle.vf_syntax.specs.declared.item.Parameters.{Parameters}
use Rattle.vf_syntax.specs.declared.item.Signature.{Signature}
use Rattle.vf_syntax.specs.declared.item.Body.{Body}
use Rattle.vf_syntax.specs.declared.item.GhostItem.{GhostItem}
use Rattle.vf_syntax.specs.declared.item.Item.{Item}
use Rattle.vf_syntax.specs.GhostCommandTree.{GhostCommandTree}
use Rattle.vf_syntax.specs.StmtTree.{stmt_list}
use Rattle.vf_syntax.specs.Walks.{Walk, ◌⨾◌, goes_on, head_has, is_mark, is_word, is_on, mark}
use Rattle.vf_syntax.specs.Written.{name, ctype}
use Rattle.vf_syntax.specs.Lists.{each, behind_commas, separated, or_none}
use Rattle.vf_syntax.specs.Statements.{claim, contract, contract_nesting, allowed, stmts_nesting}
use Rattle.vf_syntax.specs.Units.{result_type, typed, field, parameters_walk, signature, body, ghost_item, ghost_form_nesting, item, item_nesting}
use Rattle.vf_cursor.specs.Parsing.{Parser, ok, mark_at, word_at, name_at, many, item_step}
use Rattle.vf_cursor.specs.Types.{ctype_at}
use Rattle.vf_cursor.proofs.Facts.{bind_ok, moved, chose}
use Rattle.vf_parse_expression.proofs.Small.{goes, mark_walk, word_walk, name_walk}
use Rattle.vf_parse_expression.proofs.TypesSound.{ctype_walk}
use Rattle.vf_parse_expression.proofs.Collected.{Collects, Itemised, many_collected, many_behind}
use Rattle.vf_parse_simple.specs.Simples.{declared_at}
use Rattle.vf_parse_simple.proofs.Sound.{declared_sound}
use Rattle.vf_parse_statement.specs.Annotations.{ReadsCommands, ReadsInvariants, ReadsContracts, ReadsClaims, ReadsItems}
use Rattle.vf_parse_statement.specs.Parsers.{owed_at, sees_annotation, is_inside, stmt_at, body_at}
use Rattle.vf_parse_statement.proofs.Heads.{owed_sound}
use Rattle.vf_parse_statement.proofs.Sound.{statement_sound, body_sound}
use Rattle.vf_parse_item.specs.Parsers.{allowed_at, typed_at, field_at, field_list_at, fields_at, struct_at, sees_struct, sees_void, result_type_at, next_parameter_at, more_parameters_at, parameter_list_at, parameters_inside_at, parameters_at, signature_at, function_type_at, any_claim_at, any_contract_at, prototype_at, definition_at, function_at, real_item_at, item_by, item_at}

-- what a parser reads is spelled so
abbrev pub Reads : {A : Type 0} → (A → Walk) → Parser A → Type 0
Reads {A = A} w p = (ts : List Token) (x : A) (rest : List Token) → p ts ≡ ok x rest → w x ts ≡ Some rest

allowed_sound : {A : Type 0} (w : A → Walk) (n : A → ℕ) (d : ℕ) (p : Parser A) → Itemised w n d p → (g : Grammar) (begins : Token → Bool) → Itemised (allowed g w) (or_none n) d (allowed_at g begins p)
allowed_sound {A = A} w n d p hp grammars.Whole begins ts x rest eq =
    elim (chose (head_has begins ts) _ _ _ eq) [
      | inl h ↦
          let a = bind_ok {r = p ts} h.1 in
          moved (λ (y : Option A) r. (allowed grammars.Whole w y ts ≡ Some r) × (or_none n y ≤ d)) a.2 (hp ts a.0.0 a.0.1 a.1)
      | inr h ↦ moved (λ (y : Option A) r. (allowed grammars.Whole w y ts ≡ Some r) × (or_none n y ≤ d)) h.1 (refl, omega arith)
    ]
allowed_sound {A = A} w n d p hp grammars.Plain begins ts x rest eq = moved (λ (y : Option A) r. (allowed grammars.Plain w y ts ≡ Some r) × (or_none n y ≤ d)) eq (refl, omega arith)

typed_sound : Reads typed typed_at
unfolding typed_at typed
typed_sound ts x rest eq =
    let d = bind_ok {r = declared_at ts} eq in
    moved (λ (y : Typed) r. (ctype Real y.written ⨾ name Real y.name) ts ≡ Some r) d.2 (declared_sound ts d.0.0 d.0.1 d.1)

field_sound : Reads field field_at
unfolding field_at field
field_sound ts x rest eq =
    let a = bind_ok {r = typed_at ts} eq in
    let m = bind_ok {r = mark_at Real punctuators.Semicolon a.0.1} a.2 in
    moved (λ (y : Typed) r. (typed y ⨾ mark Real punctuators.Semicolon) ts ≡ Some r) m.2 (goes (mark Real punctuators.Semicolon) (typed_sound ts a.0.0 a.0.1 a.1) (mark_walk Real punctuators.Semicolon a.0.1 m.0.0 m.0.1 m.1).1)

field_items : Itemised field (λ (x : Typed). 0) 0 field_at
field_items ts x rest eq = (field_sound ts x rest eq, omega arith)

fields_collect : Collects field (λ (x : Typed). 0) (each field) (λ (xs : List Typed). 0)
fields_collect = record { nothing_walk = λ ts. refl; item_walk = λ x xs ts. refl; nothing_deep = refl; item_deep = λ x xs. refl }

-- the fields between their braces
abbrev pub braced : List Typed → Walk
braced xs = mark Real punctuators.OpenBrace ⨾ each field xs ⨾ mark Real punctuators.CloseBrace ⨾ mark Real punctuators.Semicolon

fields_sound : Reads braced fields_at
unfolding fields_at field_list_at
fields_sound ts x rest eq =
    let o = bind_ok {r = mark_at Real punctuators.OpenBrace ts} eq in
    let xs = bind_ok {r = many is_inside (item_step field_at) [] o.0.1} o.2 in
    let c = bind_ok {r = mark_at Real punctuators.CloseBrace xs.0.1} xs.2 in
    let m = bind_ok {r = mark_at Real punctuators.Semicolon c.0.1} c.2 in
    let ow = mark_walk Real punctuators.OpenBrace ts o.0.0 o.0.1 o.1 in
    let xw = many_collected fields_collect 0 is_inside field_at field_items (length o.0.1) o.0.1 o.0.1 [] xs.0.0 xs.0.1 refl (omega arith) xs.1 in
    let cw = mark_walk Real punctuators.CloseBrace xs.0.1 c.0.0 c.0.1 c.1 in
    let mw = mark_walk Real punctuators.Semicolon c.0.1 m.0.0 m.0.1 m.1 in
    moved (λ (y : List Typed) r. braced y ts ≡ Some r) m.2 (rw (ow.1, xw.0, cw.1, mw.1) refl)

-- an item was read
abbrev pub Done : Grammar → ℕ → List Token → Item → List Token → Type 0
Done g d ts x rest = (item g x ts ≡ Some rest) × (item_nesting x ≤ d)

-- what a parser reads is an item
abbrev pub Items : Grammar → ℕ → Parser Item → Type 0
Items g d p = (ts : List Token) (x : Item) (rest : List Token) → p ts ≡ ok x rest → Done g d ts x rest

struct_sound : (g : Grammar) (d : ℕ) → Items g d struct_at
unfolding struct_at item
struct_sound g d ts x rest eq =
    let w = bind_ok {r = word_at Real keywords.Struct ts} eq in
    let n = bind_ok {r = name_at Real w.0.1} w.2 in
    let ww = word_walk Real keywords.Struct ts w.0.0 w.0.1 w.1 in
    let nw = name_walk Real w.0.1 n.0.0 n.0.1 n.1 in
    elim (chose (head_has (is_mark Real punctuators.Semicolon) n.0.1) _ _ _ n.2) [
      | inl h ↦
          let m = bind_ok {r = mark_at Real punctuators.Semicolon n.0.1} h.1 in
          let mw = mark_walk Real punctuators.Semicolon n.0.1 m.0.0 m.0.1 m.1 in
          moved (λ (y : Item) r. Done g d ts y r) m.2 (rw (ww.0, ww.1, nw, mw.1) refl, omega arith)
      | inr h ↦
          let f = bind_ok {r = fields_at n.0.1} h.1 in
          moved (λ (y : Item) r. Done g d ts y r) f.2 (rw (ww.0, ww.1, nw) (fields_sound n.0.1 f.0.0 f.0.1 f.1), omega arith)
    ]

result_sound : Reads result_type result_type_at
unfolding result_type_at result_type
result_sound ts x rest eq =
    elim (chose (sees_void ts) _ _ _ eq) [
      | inl h ↦
          let w = bind_ok {r = word_at Real keywords.Void ts} h.1 in
          let ww = word_walk Real keywords.Void ts w.0.0 w.0.1 w.1 in
          moved (λ (y : ResultType) r. result_type y ts ≡ Some r) w.2 (rw (ww.0, ww.1) refl)
      | inr h ↦
          let t = bind_ok {r = ctype_at Real ts} h.1 in
          moved (λ (y : ResultType) r. result_type y ts ≡ Some r) t.2 (ctype_walk Real ts t.0.0 t.0.1 t.1)
    ]

-- a comma and a parameter behind it
abbrev pub next : Typed → Walk
next x ts = goes_on (mark Real punctuators.Comma ts) (typed x)

next_items : Itemised next (λ (x : Typed). 0) 0 next_parameter_at
unfolding next_parameter_at
next_items ts x rest eq =
    let m = bind_ok {r = mark_at Real punctuators.Comma ts} eq in
    (goes (typed x) (mark_walk Real punctuators.Comma ts m.0.0 m.0.1 m.1).1 (typed_sound m.0.1 x rest m.2), omega arith)

next_collect : Collects next (λ (x : Typed). 0) (behind_commas Real typed) (λ (xs : List Typed). 0)
next_collect = record { nothing_walk = λ ts. refl; item_walk = λ x xs ts. three (mark Real punctuators.Comma ts) (typed x) (behind_commas Real typed xs); nothing_deep = refl; item_deep = λ x xs. refl }
  where
    three : (o : Option (List Token)) (f g : Walk) → goes_on o (f ⨾ g) ≡ goes_on (goes_on o f) g
    three None f g = refl
    three (Some ts) f g = refl

parameter_list_sound : Reads (separated Real typed) parameter_list_at
unfolding parameter_list_at more_parameters_at
parameter_list_sound ts x rest eq =
    elim (chose (head_has (is_mark Real punctuators.CloseParenthesis) ts) _ _ _ eq) [
      | inl h ↦ moved (λ (y : List Typed) r. separated Real typed y ts ≡ Some r) h.1 refl
      | inr h ↦
          let a = bind_ok {r = typed_at ts} h.1 in
          let b = many_behind next_collect 0 (is_mark Real punctuators.Comma) next_parameter_at next_items (length a.0.1) a.0.1 a.0.1 a.0.0 [] x rest refl (omega arith) a.2 in
          subst (λ (ys : List Typed). separated Real typed ys ts ≡ Some rest) (sym b.parts) (goes (behind_commas Real typed b.others) (typed_sound ts a.0.0 a.0.1 a.1) b.walk)
    ]

-- what stands between the parentheses was read
abbrev pub Inside : List Token → List Token → Parameters → List Token → List Token → Type 0
Inside ss ts x us rest = mark Real punctuators.OpenParenthesis ss ≡ Some ts → mark Real punctuators.CloseParenthesis us ≡ Some rest → parameters_walk x ss ≡ Some rest

inside_sound : (ss ts : List Token) (x : Parameters) (us rest : List Token) → parameters_inside_at ts ≡ ok x us → Inside ss ts x us rest
unfolding parameters_inside_at parameters_walk
inside_sound ss ts x us rest eq =
    elim (chose (sees_void ts) _ _ _ eq) [
      | inl h ↦
          let w = bind_ok {r = word_at Real keywords.Void ts} h.1 in
          let ww = word_walk Real keywords.Void ts w.0.0 w.0.1 w.1 in
          moved (λ (y : Parameters) r. Inside ss ts y r rest) w.2 (λ o c. rw (o, ww.1, c) refl)
      | inr h ↦
          let xs = bind_ok {r = parameter_list_at ts} h.1 in
          let xw = parameter_list_sound ts xs.0.0 xs.0.1 xs.1 in
          moved (λ (y : Parameters) r. Inside ss ts y r rest) xs.2 (λ o c. rw (o, xw, c) refl)
    ]

parameters_sound : Reads parameters_walk parameters_at
unfolding parameters_at
parameters_sound ts x rest eq =
    let o = bind_ok {r = mark_at Real punctuators.OpenParenthesis ts} eq in
    let a = bind_ok {r = parameters_inside_at o.0.1} o.2 in
    let m = bind_ok {r = mark_at Real punctuators.CloseParenthesis a.0.1} a.2 in
    let ow = mark_walk Real punctuators.OpenParenthesis ts o.0.0 o.0.1 o.1 in
    let mw = mark_walk Real punctuators.CloseParenthesis a.0.1 m.0.0 m.0.1 m.1 in
    moved (λ (y : Parameters) r. parameters_walk y ts ≡ Some r) m.2 (inside_sound ts o.0.1 a.0.0 a.0.1 m.0.1 a.1 ow.1 mw.1)

signature_sound : Reads signature signature_at
unfolding signature_at signature
signature_sound ts x rest eq =
    let r = bind_ok {r = result_type_at ts} eq in
    let n = bind_ok {r = name_at Real r.0.1} r.2 in
    let a = bind_ok {r = parameters_at n.0.1} n.2 in
    moved (λ (y : Signature) q. (result_type y.«result» ⨾ name Real y.name ⨾ parameters_walk y.parameters) ts ≡ Some q) a.2
    (rw (result_sound ts r.0.0 r.0.1 r.1, name_walk Real r.0.1 n.0.0 n.0.1 n.1, parameters_sound n.0.1 a.0.0 a.0.1 a.1) refl)

function_type_sound : (g : Grammar) (k : Parser Contract) (d : ℕ) → Itemised contract contract_nesting d k → Items g d (function_type_at g k)
unfolding function_type_at item
function_type_sound g k d hk ts x rest eq =
    let w = bind_ok {r = word_at Real keywords.Typedef ts} eq in
    let s = bind_ok {r = signature_at w.0.1} w.2 in
    let m = bind_ok {r = mark_at Real punctuators.Semicolon s.0.1} s.2 in
    let c = bind_ok {r = owed_at g k m.0.1} m.2 in
    let ww = word_walk Real keywords.Typedef ts w.0.0 w.0.1 w.1 in
    let sw = signature_sound w.0.1 s.0.0 s.0.1 s.1 in
    let mw = mark_walk Real punctuators.Semicolon s.0.1 m.0.0 m.0.1 m.1 in
    let cw = owed_sound contract contract_nesting d k hk g m.0.1 c.0.0 c.0.1 c.1 in
    moved (λ (y : Item) r. Done g d ts y r) c.2 (rw (ww.0, ww.1, sw, mw.1) cw.0, cw.1)

claim_items : (l : Parser Claim) → ReadsClaims l → Itemised claim (λ (x : Claim). 0) 0 l
claim_items l hl ts x rest eq = (hl ts x rest eq, omega arith)

any_claim_sound : (g : Grammar) (l : Parser Claim) → ReadsClaims l → Reads (allowed g claim) (any_claim_at g l)
unfolding any_claim_at
any_claim_sound g l hl ts x rest eq = (allowed_sound claim (λ (y : Claim). 0) 0 l (claim_items l hl) g (is_mark Ghost punctuators.Colon) ts x rest eq).0

any_contract_sound : (g : Grammar) (k : Parser Contract) (d : ℕ) → Itemised contract contract_nesting d k → Itemised (allowed g contract) (or_none contract_nesting) d (any_contract_at g k)
unfolding any_contract_at
any_contract_sound g k d hk = allowed_sound contract contract_nesting d k hk g (is_word Ghost keywords.Requires)

-- an item was read behind its signature
abbrev pub Behind : Grammar → ℕ → Signature → Parser Item → Type 0
Behind g d s p = (ss ts : List Token) (x : Item) (rest : List Token) → signature s ss ≡ Some ts → p ts ≡ ok x rest → Done g d ss x rest

prototype_sound : (g : Grammar) (l : Parser Claim) (k : Parser Contract) (d : ℕ) → ReadsClaims l → Itemised contract contract_nesting d k → (s : Signature) → Behind g d s (prototype_at g l k s)
unfolding prototype_at item
prototype_sound g l k d hl hk s ss ts x rest hs eq =
    let m = bind_ok {r = mark_at Real punctuators.Semicolon ts} eq in
    let a = bind_ok {r = any_claim_at g l m.0.1} m.2 in
    let c = bind_ok {r = owed_at g k a.0.1} a.2 in
    let mw = mark_walk Real punctuators.Semicolon ts m.0.0 m.0.1 m.1 in
    let aw = any_claim_sound g l hl m.0.1 a.0.0 a.0.1 a.1 in
    let cw = owed_sound contract contract_nesting d k hk g a.0.1 c.0.0 c.0.1 c.1 in
    moved (λ (y : Item) r. Done g d ss y r) c.2 (rw (hs, mw.1, aw) cw.0, cw.1)

-- what a parser of bodies reads is spelled so, and nests so deep at most
abbrev pub Bodies : Grammar → ℕ → Parser Body → Type 0
Bodies g d b = (ts : List Token) (x : Body) (rest : List Token) → b ts ≡ ok x rest → (body g x ts ≡ Some rest) × (stmts_nesting (stmt_list x.statements) ≤ d)

definition_sound : (g : Grammar) (l : Parser Claim) (k : Parser Contract) (b : Parser Body) (d : ℕ) → ReadsClaims l → Itemised contract contract_nesting d k → Bodies g d b → (s : Signature) → Behind g d s (definition_at g l k b s)
unfolding definition_at item
definition_sound g l k b d hl hk hb s ss ts x rest hs eq =
    let a = bind_ok {r = any_claim_at g l ts} eq in
    let c = bind_ok {r = any_contract_at g k a.0.1} a.2 in
    let z = bind_ok {r = b c.0.1} c.2 in
    let aw = any_claim_sound g l hl ts a.0.0 a.0.1 a.1 in
    let cw = any_contract_sound g k d hk a.0.1 c.0.0 c.0.1 c.1 in
    let zw = hb c.0.1 z.0.0 z.0.1 z.1 in
    moved (λ (y : Item) r. Done g d ss y r) z.2 (rw (hs, aw, cw.0) zw.0, omega (arith, cw.1, zw.1))

function_sound : (g : Grammar) (l : Parser Claim) (k : Parser Contract) (b : Parser Body) (d : ℕ) → ReadsClaims l → Itemised contract contract_nesting d k → Bodies g d b → Items g d (function_at g l k b)
unfolding function_at
function_sound g l k b d hl hk hb ts x rest eq =
    let s = bind_ok {r = signature_at ts} eq in
    let sw = signature_sound ts s.0.0 s.0.1 s.1 in
    elim (chose (head_has (is_mark Real punctuators.Semicolon) s.0.1) _ _ _ s.2) [
      | inl h ↦ prototype_sound g l k d hl hk s.0.0 ts s.0.1 x rest sw h.1
      | inr h ↦ definition_sound g l k b d hl hk hb s.0.0 ts s.0.1 x rest sw h.1
    ]

real_item_sound : (g : Grammar) (l : Parser Claim) (k : Parser Contract) (b : Parser Body) (d : ℕ) → ReadsClaims l → Itemised contract contract_nesting d k → Bodies g d b → Items g d (real_item_at g l k b)
unfolding real_item_at
real_item_sound g l k b d hl hk hb ts x rest eq =
    elim (chose (sees_struct ts) _ _ _ eq) [
      | inl h ↦ struct_sound g d ts x rest h.1
      | inr h ↦
          elim (chose (head_has (is_word Real keywords.Typedef) ts) _ _ _ h.1) [
            | inl m ↦ function_type_sound g k d hk ts x rest m.1
            | inr m ↦ function_sound g l k b d hl hk hb ts x rest m.1
          ]
    ]

ghost_sound : (x : Parser GhostItem) (d : ℕ) → Itemised ghost_item (λ (a : GhostItem). ghost_form_nesting a.form) d x → (g : Grammar) (l : Parser Claim) (k : Parser Contract) (b : Parser Body) → ReadsClaims l → Itemised contract contract_nesting d k → Bodies g d b
    → Items g d (item_by g l k b x)
unfolding item_by sees_annotation item
ghost_sound x d hx grammars.Whole l k b hl hk hb ts a rest eq =
    elim (chose (head_has (is_on Ghost) ts) _ _ _ eq) [
      | inl h ↦
          let z = bind_ok {r = x ts} h.1 in
          moved (λ (y : Item) r. Done grammars.Whole d ts y r) z.2 (hx ts z.0.0 z.0.1 z.1)
      | inr h ↦ real_item_sound grammars.Whole l k b d hl hk hb ts a rest h.1
    ]
ghost_sound x d hx grammars.Plain l k b hl hk hb ts a rest eq = real_item_sound grammars.Plain l k b d hl hk hb ts a rest eq

pub item_sound : (g : Grammar) (c : ℕ → Parser GhostCommandTree) (i : ℕ → Parser Invariant) (k : ℕ → Parser Contract) (l : Parser Claim) (x : ℕ → Parser GhostItem)
    → ReadsCommands c → ReadsInvariants i → ReadsContracts k → ReadsClaims l → ReadsItems x → (d : ℕ) → Items g d (item_at g c i k l x d)
item_sound g c i k l x hc hi hk hl hx d =
    ghost_sound (x d) d (hx d) g l (k d) (body_at g c i d) hl (hk d) (body_sound g (stmt_at g c i d) d (statement_sound g c i hc hi d))
