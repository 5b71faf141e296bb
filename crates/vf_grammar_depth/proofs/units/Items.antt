-- Items and units that may nest deeper are read past each token that was too deep, where annotations are.
use Rattle.std.proofs.Common.{ℕ, Bool, ◌&&◌, List, [], ◌∷◌, length, Some, None, refl, arith}
use Rattle.std.specs.Prelude.{if◌then◌else◌}
use Rattle.vf_base.specs.declared.place.Place.{Place}
use Rattle.vf_lexer.specs.declared.punctuator.Punctuator.TheVariants as punctuators
use Rattle.vf_lexer.specs.declared.token.Token.{Token}
use Rattle.vf_syntax.specs.declared.keyword.Keyword.TheVariants as keywords
use Rattle.vf_syntax.specs.declared.side.Side.TheVariants.{Real, Ghost}
use Rattle.vf_syntax.specs.declared.side.Grammar.{Grammar}
use Rattle.vf_syntax.specs.declared.written.CType.{CType}
use Rattle.vf_syntax.specs.declared.written.Name.{Name}
use Rattle.vf_syntax.specs.declared.written.ResultType.{ResultType}
use Rattle.vf_syntax.specs.declared.written.ResultType.TheVariants as results
use Rattle.vf_syntax.specs.declared.contract.Contract.{Contract}
use Rattle.vf_syntax.specs.declared.contract.Claim.{Claim}
use Rattle.vf_syntax.specs.declared.contract.Invariant.{Invariant}
use Rattle.vf_syntax.specs.declared.item.Typed.{Typed}
use Rattle.vf_syntax.specs.declared.item.Parameters.{Parameters}
use Rattle.vf_syntax.specs.declared.item.Parameters.TheVariants as parameters
use Rattle.vf_syntax.specs.declared.item.Signature.{Signature}
use Rattle.vf_syntax.specs.declared.item.Body.{Body}
use Rattle.vf_syntax.specs.declared.item.GhostItem.{GhostItem}
use Rattle.vf_syntax.specs.declared.item.Item.{Item}
use Rattle.vf_syntax.specs.declared.item.Item.TheVariants as items
use Rattle.vf_syntax.specs.GhostCommandTree.{GhostCommandTree}
use Rattle.vf_syntax.specs.Walks.{head_has, is_mark, is_word}
use Rattle.vf_cursor.specs.Parsing.{Parser, ok, ◌>>=◌, mark_at, end_at}
use Rattle.vf_parse_statement.specs.Parsers.{is_whole, sees_annotation, is_inside}
use Rattle.vf_parse_item.specs.Parsers.{allowed_at, typed_at, field_at, field_list_at, fields_at, struct_at, sees_struct, sees_void, result_type_at, next_parameter_at, more_parameters_at, parameter_list_at, parameters_inside_at, parameters_at, signature_at, function_type_at, any_claim_at, any_contract_at, prototype_at, definition_at, function_at, real_item_at, item_by, item_at}
use Rattle.vf_parse_real.specs.Units.{is_any, items_by, unit_by, unit_at}
use Rattle.vf_grammar_depth.proofs.expressions.Deeper.{DeeperAt, Deeper, then_deep, done_deep, mark_deep, word_deep, name_deep, choice_deep, head_deep, items_deep}
use Rattle.vf_grammar_depth.proofs.expressions.Types.{ctype_deep}
use Rattle.vf_grammar_depth.proofs.statements.Simples.{declared_deep}
use Rattle.vf_grammar_depth.proofs.statements.Statements.{owed_deep}
use Rattle.vf_grammar_depth.proofs.statements.Whole.{RisesAbove, bodies_rise}

allowed_deep : {A : Type 0} {j : ℕ} {p q : Parser A} (g : Grammar) (begins : Token → Bool) → Deeper j p q → Deeper j (allowed_at g begins p) (allowed_at g begins q)
allowed_deep g begins h = choice_deep (λ ts. is_whole g && head_has begins ts) (then_deep h (λ x. done_deep (Some x))) (done_deep None)

-- a type with a name
abbrev typed_of : CType → Name → Typed
typed_of t n = record { written = t; name = n }

typed_deep : {j : ℕ} → Deeper j typed_at typed_at
unfolding typed_at
typed_deep = then_deep declared_deep (λ d. done_deep (typed_of d.0 d.1))

field_deep : {j : ℕ} → Deeper j field_at field_at
unfolding field_at
field_deep = then_deep typed_deep (λ x. then_deep (mark_deep Real punctuators.Semicolon) (λ m. done_deep x))

fields_deep : {j : ℕ} → Deeper j fields_at fields_at
unfolding fields_at field_list_at
fields_deep = then_deep (mark_deep Real punctuators.OpenBrace) (λ o. then_deep (items_deep is_inside field_deep []) (λ xs. then_deep (mark_deep Real punctuators.CloseBrace) (λ c. then_deep (mark_deep Real punctuators.Semicolon) (λ m. done_deep xs))))

-- what stands behind the name of a struct
abbrev struct_behind : Place → Name → Parser Item
struct_behind w n ts = if head_has (is_mark Real punctuators.Semicolon) ts then (mark_at Real punctuators.Semicolon ts >>= λ m. ok (items.Opaque w n) m.1) else (fields_at ts >>= λ f. ok (items.Struct w n f.0) f.1)

struct_behind_deep : {j : ℕ} (w : Place) (n : Name) → Deeper j (struct_behind w n) (struct_behind w n)
struct_behind_deep w n = head_deep (is_mark Real punctuators.Semicolon) (then_deep (mark_deep Real punctuators.Semicolon) (λ m. done_deep (items.Opaque w n))) (then_deep fields_deep (λ f. done_deep (items.Struct w n f)))

struct_deep : {j : ℕ} → Deeper j struct_at struct_at
unfolding struct_at
struct_deep = then_deep (word_deep Real keywords.Struct) (λ w. then_deep (name_deep Real) (λ n. struct_behind_deep w n))

result_type_deep : {j : ℕ} → Deeper j result_type_at result_type_at
unfolding result_type_at
result_type_deep = choice_deep sees_void (then_deep (word_deep Real keywords.Void) (λ w. done_deep (results.Void w))) (then_deep (ctype_deep Real) (λ t. done_deep (results.Value t)))

next_parameter_deep : {j : ℕ} → Deeper j next_parameter_at next_parameter_at
unfolding next_parameter_at
next_parameter_deep = then_deep (mark_deep Real punctuators.Comma) (λ m. typed_deep)

more_parameters_deep : {j : ℕ} (xs : List Typed) → Deeper j (more_parameters_at xs) (more_parameters_at xs)
unfolding more_parameters_at
more_parameters_deep xs = items_deep (is_mark Real punctuators.Comma) next_parameter_deep xs

parameter_list_deep : {j : ℕ} → Deeper j parameter_list_at parameter_list_at
unfolding parameter_list_at
parameter_list_deep = head_deep (is_mark Real punctuators.CloseParenthesis) (done_deep []) (then_deep typed_deep (λ x. more_parameters_deep (x ∷ [])))

parameters_inside_deep : {j : ℕ} → Deeper j parameters_inside_at parameters_inside_at
unfolding parameters_inside_at
parameters_inside_deep = choice_deep sees_void (then_deep (word_deep Real keywords.Void) (λ w. done_deep parameters.Void)) (then_deep parameter_list_deep (λ xs. done_deep (parameters.Listed xs)))

parameters_deep : {j : ℕ} → Deeper j parameters_at parameters_at
unfolding parameters_at
parameters_deep = then_deep (mark_deep Real punctuators.OpenParenthesis) (λ o. then_deep parameters_inside_deep (λ x. then_deep (mark_deep Real punctuators.CloseParenthesis) (λ m. done_deep x)))

-- a result, a name and parameters
abbrev signature_of : ResultType → Name → Parameters → Signature
signature_of r n x = record { «result» = r; name = n; parameters = x }

signature_deep : {j : ℕ} → Deeper j signature_at signature_at
unfolding signature_at
signature_deep = then_deep result_type_deep (λ r. then_deep (name_deep Real) (λ n. then_deep parameters_deep (λ x. done_deep (signature_of r n x))))

function_type_deep : {j : ℕ} {k n : Parser Contract} (g : Grammar) → Deeper j k n → Deeper j (function_type_at g k) (function_type_at g n)
unfolding function_type_at
function_type_deep g hk = then_deep (word_deep Real keywords.Typedef) (λ w. then_deep signature_deep (λ s. then_deep (mark_deep Real punctuators.Semicolon) (λ m. then_deep (owed_deep g hk) (λ c. done_deep (items.FunctionType w s c)))))

any_claim_deep : {j : ℕ} {l m : Parser Claim} (g : Grammar) → Deeper j l m → Deeper j (any_claim_at g l) (any_claim_at g m)
unfolding any_claim_at
any_claim_deep g hl = allowed_deep g (is_mark Ghost punctuators.Colon) hl

any_contract_deep : {j : ℕ} {k n : Parser Contract} (g : Grammar) → Deeper j k n → Deeper j (any_contract_at g k) (any_contract_at g n)
unfolding any_contract_at
any_contract_deep g hk = allowed_deep g (is_word Ghost keywords.Requires) hk

prototype_deep : {j : ℕ} {l m : Parser Claim} {k n : Parser Contract} (g : Grammar) → Deeper j l m → Deeper j k n → (s : Signature) → Deeper j (prototype_at g l k s) (prototype_at g m n s)
unfolding prototype_at
prototype_deep g hl hk s = then_deep (mark_deep Real punctuators.Semicolon) (λ o. then_deep (any_claim_deep g hl) (λ a. then_deep (owed_deep g hk) (λ c. done_deep (items.Prototype s a c))))

definition_deep : {j : ℕ} {l m : Parser Claim} {k n : Parser Contract} {b c : Parser Body} (g : Grammar) → Deeper j l m → Deeper j k n → Deeper j b c → (s : Signature) → Deeper j (definition_at g l k b s) (definition_at g m n c s)
unfolding definition_at
definition_deep g hl hk hb s = then_deep (any_claim_deep g hl) (λ a. then_deep (any_contract_deep g hk) (λ o. then_deep hb (λ x. done_deep (items.Function s a o x))))

function_deep : {j : ℕ} {l m : Parser Claim} {k n : Parser Contract} {b c : Parser Body} (g : Grammar) → Deeper j l m → Deeper j k n → Deeper j b c → Deeper j (function_at g l k b) (function_at g m n c)
unfolding function_at
function_deep g hl hk hb = then_deep signature_deep (λ s. head_deep (is_mark Real punctuators.Semicolon) (prototype_deep g hl hk s) (definition_deep g hl hk hb s))

real_item_deep : {j : ℕ} {l m : Parser Claim} {k n : Parser Contract} {b c : Parser Body} (g : Grammar) → Deeper j l m → Deeper j k n → Deeper j b c → Deeper j (real_item_at g l k b) (real_item_at g m n c)
unfolding real_item_at
real_item_deep g hl hk hb = choice_deep sees_struct struct_deep (head_deep (is_word Real keywords.Typedef) (function_type_deep g hk) (function_deep g hl hk hb))

item_deep : {j : ℕ} {l m : Parser Claim} {k n : Parser Contract} {b c : Parser Body} {x y : Parser GhostItem} (g : Grammar) → Deeper j l m → Deeper j k n → Deeper j b c → Deeper j x y → Deeper j (item_by g l k b x) (item_by g m n c y)
unfolding item_by
item_deep g hl hk hb hx = choice_deep (sees_annotation g) (then_deep hx (λ a. done_deep (items.Ghost a))) (real_item_deep g hl hk hb)

end_all : {A : Type 0} (j : ℕ) (a : A) (ts : List Token) → DeeperAt j (length ts) (end_at a ts) (end_at a ts)
unfolding end_at
end_all j a [] = (omega arith, refl)
end_all j a (t ∷ ts) = (omega arith, refl)

end_deep : {A : Type 0} {j : ℕ} (a : A) → Deeper j (end_at a) (end_at a)
end_deep {j = j} a = record { run = end_all j a }

unit_deep : {j : ℕ} {p q : Parser Item} → Deeper j p q → Deeper j (unit_by p) (unit_by q)
unfolding unit_by items_by
unit_deep h = then_deep (items_deep is_any h []) (λ xs. end_deep xs)

-- the parsers of annotations go past what was too deep, where so much more may nest; claims are read at no depth
pub record RisingAnnotations (gap : ℕ) (c : ℕ → Parser GhostCommandTree) (i : ℕ → Parser Invariant) (k : ℕ → Parser Contract) (l : Parser Claim) (x : ℕ → Parser GhostItem) : Type 0 where
  pub commands : RisesAbove gap c
  pub invariants : RisesAbove gap i
  pub contracts : RisesAbove gap k
  pub claims : Deeper 1 l l
  pub ghosts : RisesAbove gap x

pub items_rise : (gap : ℕ) (g : Grammar) (c : ℕ → Parser GhostCommandTree) (i : ℕ → Parser Invariant) (k : ℕ → Parser Contract) (l : Parser Claim) (x : ℕ → Parser GhostItem) → RisingAnnotations gap c i k l x → RisesAbove gap (item_at g c i k l x)
items_rise gap g c i k l x h d m lt = item_deep g (h.claims) (h.contracts d m lt) (bodies_rise gap g c i (h.commands) (h.invariants) d m lt) (h.ghosts d m lt)

pub units_rise : (gap : ℕ) (g : Grammar) (c : ℕ → Parser GhostCommandTree) (i : ℕ → Parser Invariant) (k : ℕ → Parser Contract) (l : Parser Claim) (x : ℕ → Parser GhostItem) → RisingAnnotations gap c i k l x → RisesAbove gap (unit_at g c i k l x)
units_rise gap g c i k l x h d m lt = unit_deep (items_rise gap g c i k l x h d m lt)
