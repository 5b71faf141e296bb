-- Parsers of items. l reads a claim, k a contract, b the body of a function and x a ghost item.
use Rattle.std.specs.Prelude.{ℕ, Bool, not, ◌&&◌, ◌||◌, List, [], ◌∷◌, Option, Some, None, if◌then◌else◌}
use Rattle.vf_lexer.specs.declared.punctuator.Punctuator.TheVariants as punctuators
use Rattle.vf_lexer.specs.declared.token.Token.{Token}
use Rattle.vf_syntax.specs.declared.keyword.Keyword.TheVariants as keywords
use Rattle.vf_syntax.specs.declared.side.Side.TheVariants.{Real, Ghost}
use Rattle.vf_syntax.specs.declared.side.Grammar.{Grammar}
use Rattle.vf_syntax.specs.declared.written.ResultType.{ResultType}
use Rattle.vf_syntax.specs.declared.written.ResultType.TheVariants as results
use Rattle.vf_syntax.specs.declared.contract.Contract.{Contract}
use Rattle.vf_syntax.specs.declared.contract.Claim.{Claim}
use Rattle.vf_syntax.specs.declared.contract.Invariant.{Invariant}
use Rattle.vf_syntax.specs.declared.item.Typed.{Typed}
use Rattle.vf_syntax.specs.declared.item.Parameters.{Parameters}
use Rattle.vf_syntax.specs.declared.item.Parameters.TheVariants as parameters
use Rattle.vf_syntax.specs.declared.item.Signature.{Signature}
use Rattle.vf_syntax.specs.declared.item.Body.{Body}
use Rattle.vf_syntax.specs.declared.item.GhostItem.{GhostItem}
use Rattle.vf_syntax.specs.declared.item.Item.{Item}
use Rattle.vf_syntax.specs.declared.item.Item.TheVariants as items
use Rattle.vf_syntax.specs.GhostCommandTree.{GhostCommandTree}
use Rattle.vf_syntax.specs.Walks.{head_has, is_mark, is_word}
use Rattle.vf_cursor.specs.Parsing.{Parser, ok, ◌>>=◌, mark_at, word_at, name_at, many, item_step}
use Rattle.vf_cursor.specs.Types.{ctype_at}
use Rattle.vf_parse_expression.specs.Operands.{after}
use Rattle.vf_parse_simple.specs.Simples.{declared_at}
use Rattle.vf_parse_statement.specs.Parsers.{is_whole, owed_at, sees_annotation, is_inside, body_at}

-- a part that the whole grammar allows, where its first token comes next, and the plain one has not
abbrev pub allowed_at : {A : Type 0} → Grammar → (Token → Bool) → Parser A → Parser (Option A)
allowed_at g begins p ts = if is_whole g && head_has begins ts then (p ts >>= λ x. ok (Some x.0) x.1) else ok None ts

-- type NAME, as a parameter or a field
unfoldable pub typed_at : Parser Typed
typed_at ts = declared_at ts >>= λ d. ok (record { written = d.0.0; name = d.0.1 }) d.1

-- type NAME ";"
unfoldable pub field_at : Parser Typed
field_at ts = typed_at ts >>= λ x. mark_at Real punctuators.Semicolon x.1 >>= λ m. ok x.0 m.1

-- fields up to "}"
unfoldable pub field_list_at : Parser (List Typed)
field_list_at ts = many is_inside (item_step field_at) [] ts

-- "{" fields "}" ";"
unfoldable pub fields_at : Parser (List Typed)
fields_at ts = mark_at Real punctuators.OpenBrace ts >>= λ o. field_list_at o.1 >>= λ xs. mark_at Real punctuators.CloseBrace xs.1 >>= λ c. mark_at Real punctuators.Semicolon c.1 >>= λ m. ok xs.0 m.1

-- "struct" NAME ";" or "struct" NAME "{" fields "}" ";"
unfoldable pub struct_at : Parser Item
struct_at ts = word_at Real keywords.Struct ts >>= λ w. name_at Real w.1 >>= λ n.
    if head_has (is_mark Real punctuators.Semicolon) n.1 then (mark_at Real punctuators.Semicolon n.1 >>= λ m. ok (items.Opaque w.0 n.0) m.1) else (fields_at n.1 >>= λ f. ok (items.Struct w.0 n.0 f.0) f.1)

-- a struct is declared next: a `;` or a `{` stands behind its tag
unfoldable pub sees_struct : List Token → Bool
sees_struct ts = head_has (is_word Real keywords.Struct) ts && (head_has (is_mark Real punctuators.Semicolon) (after (after ts)) || head_has (is_mark Real punctuators.OpenBrace) (after (after ts)))

-- `void` comes next, and no pointer to it
unfoldable pub sees_void : List Token → Bool
sees_void ts = head_has (is_word Real keywords.Void) ts && not (head_has (is_mark Real punctuators.Star) (after ts))

-- what a function returns
unfoldable pub result_type_at : Parser ResultType
result_type_at ts = if sees_void ts then (word_at Real keywords.Void ts >>= λ w. ok (results.Void w.0) w.1) else (ctype_at Real ts >>= λ t. ok (results.Value t.0) t.1)

-- "," type NAME
unfoldable pub next_parameter_at : Parser Typed
next_parameter_at ts = mark_at Real punctuators.Comma ts >>= λ m. typed_at m.1

-- the parameters behind the first
unfoldable pub more_parameters_at : List Typed → Parser (List Typed)
more_parameters_at xs ts = many (is_mark Real punctuators.Comma) (item_step next_parameter_at) xs ts

-- parameters with commas between them, or none where ")" comes next
unfoldable pub parameter_list_at : Parser (List Typed)
parameter_list_at ts = if head_has (is_mark Real punctuators.CloseParenthesis) ts then ok [] ts else (typed_at ts >>= λ x. more_parameters_at (x.0 ∷ []) x.1)

-- what stands between the parentheses of a function
unfoldable pub parameters_inside_at : Parser Parameters
parameters_inside_at ts = if sees_void ts then (word_at Real keywords.Void ts >>= λ w. ok parameters.Void w.1) else (parameter_list_at ts >>= λ xs. ok (parameters.Listed xs.0) xs.1)

-- "(" parameters ")"
unfoldable pub parameters_at : Parser Parameters
parameters_at ts = mark_at Real punctuators.OpenParenthesis ts >>= λ o. parameters_inside_at o.1 >>= λ x. mark_at Real punctuators.CloseParenthesis x.1 >>= λ m. ok x.0 m.1

-- result NAME "(" parameters ")"
unfoldable pub signature_at : Parser Signature
signature_at ts = result_type_at ts >>= λ r. name_at Real r.1 >>= λ n. parameters_at n.1 >>= λ x. ok (record { «result» = r.0; name = n.0; parameters = x.0 }) x.1

-- a function type: "typedef" signature ";" contract
unfoldable pub function_type_at : Grammar → Parser Contract → Parser Item
function_type_at g k ts = word_at Real keywords.Typedef ts >>= λ w. signature_at w.1 >>= λ s. mark_at Real punctuators.Semicolon s.1 >>= λ m. owed_at g k m.1 >>= λ c. ok (items.FunctionType w.0 s.0 c.0) c.1

-- a claim, or none where no `:` comes next
unfoldable pub any_claim_at : Grammar → Parser Claim → Parser (Option Claim)
any_claim_at g l ts = allowed_at g (is_mark Ghost punctuators.Colon) l ts

-- a contract, or none where no `requires` comes next
unfoldable pub any_contract_at : Grammar → Parser Contract → Parser (Option Contract)
any_contract_at g k ts = allowed_at g (is_word Ghost keywords.Requires) k ts

-- ";" [claim] contract behind a signature
unfoldable pub prototype_at : Grammar → Parser Claim → Parser Contract → Signature → Parser Item
prototype_at g l k s ts = mark_at Real punctuators.Semicolon ts >>= λ m. any_claim_at g l m.1 >>= λ a. owed_at g k a.1 >>= λ c. ok (items.Prototype s a.0 c.0) c.1

-- [claim] [contract] body behind a signature
unfoldable pub definition_at : Grammar → Parser Claim → Parser Contract → Parser Body → Signature → Parser Item
definition_at g l k b s ts = any_claim_at g l ts >>= λ a. any_contract_at g k a.1 >>= λ c. b c.1 >>= λ x. ok (items.Function s a.0 c.0 x.0) x.1

-- a function, with or without a body
unfoldable pub function_at : Grammar → Parser Claim → Parser Contract → Parser Body → Parser Item
function_at g l k b ts = signature_at ts >>= λ s. if head_has (is_mark Real punctuators.Semicolon) s.1 then prototype_at g l k s.0 s.1 else definition_at g l k b s.0 s.1

-- an item of real text
unfoldable pub real_item_at : Grammar → Parser Claim → Parser Contract → Parser Body → Parser Item
real_item_at g l k b ts = if sees_struct ts then struct_at ts else (if head_has (is_word Real keywords.Typedef) ts then function_type_at g k ts else function_at g l k b ts)

-- an item
unfoldable pub item_by : Grammar → Parser Claim → Parser Contract → Parser Body → Parser GhostItem → Parser Item
item_by g l k b x ts = if sees_annotation g ts then (x ts >>= λ a. ok (items.Ghost a.0) a.1) else real_item_at g l k b ts

-- an item that nests so deep at most; c, i, k, l and x read ghost commands, invariants, contracts, claims and ghost items
abbrev pub item_at : Grammar → (ℕ → Parser GhostCommandTree) → (ℕ → Parser Invariant) → (ℕ → Parser Contract) → Parser Claim → (ℕ → Parser GhostItem) → ℕ → Parser Item
item_at g c i k l x d = item_by g l (k d) (body_at g c i d) (x d)
