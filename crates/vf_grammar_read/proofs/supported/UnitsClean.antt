-- Items and units that are spelled take no token that is refused by name.
use Rattle.std.proofs.Common.{List, Option, Some, None, refl}
use Rattle.vf_syntax.specs.StmtTree.{stmt_list}
use Rattle.vf_syntax.specs.declared.contract.Claim.{Claim}
use Rattle.vf_syntax.specs.declared.contract.Contract.{Contract}
use Rattle.vf_syntax.specs.declared.item.Body.{Body}
use Rattle.vf_syntax.specs.declared.item.Item.TheVariants as items
use Rattle.vf_syntax.specs.declared.item.Item.{Item}
use Rattle.vf_syntax.specs.declared.item.Parameters.TheVariants as parameters
use Rattle.vf_syntax.specs.declared.item.Parameters.{Parameters}
use Rattle.vf_syntax.specs.declared.item.Signature.{Signature}
use Rattle.vf_syntax.specs.declared.item.Typed.{Typed}
use Rattle.vf_syntax.specs.declared.item.Unit.{Unit as FileUnit}
use Rattle.vf_syntax.specs.declared.side.Grammar.TheVariants as grammars
use Rattle.vf_syntax.specs.declared.side.Grammar.{Grammar}
use Rattle.vf_syntax.specs.declared.side.Side.TheVariants.{Real}
use Rattle.vf_syntax.specs.declared.written.ResultType.TheVariants as results
use Rattle.vf_syntax.specs.declared.written.ResultType.{ResultType}
use Rattle.vf_syntax.specs.Walks.{Walk}
use Rattle.vf_syntax.specs.Lists.{each}
use Rattle.vf_syntax.specs.Statements.{allowed, claim, contract}
use Rattle.vf_syntax.specs.Units.{typed, field, result_type, parameters_walk, signature, body, item, unit}
use Rattle.vf_grammar_read.proofs.supported.Clean.{Clean, clean_then, nothing_clean, never_clean, at_clean, mark_clean, word_clean, name_clean, each_clean, separated_clean, unseen_clean}
use Rattle.vf_grammar_read.proofs.supported.RealClean.{ctype_clean}
use Rattle.vf_grammar_read.proofs.supported.GhostUnseen.{claim_unseen, contract_unseen}
use Rattle.vf_grammar_read.proofs.supported.StatementsClean.{owed_clean, stmts_clean}
use Rattle.vf_grammar_read.proofs.supported.GhostItemsUnseen.{ghost_item_unseen}

typed_clean : (x : Typed) → Clean (typed x)
unfolding typed
typed_clean x = clean_then (ctype_clean _ x.written) (name_clean _ x.name)

field_clean : (x : Typed) → Clean (field x)
unfolding field
field_clean x = clean_then (typed_clean x) (mark_clean _ _ refl)

pub fields_clean : (xs : List Typed) → Clean (each field xs)
fields_clean xs = each_clean field field_clean xs

result_clean : (x : ResultType) → Clean (result_type x)
unfolding result_type
result_clean (results.Void p) = clean_then (at_clean p) (word_clean _ _ refl)
result_clean (results.Value t) = ctype_clean _ t

parameters_clean : (x : Parameters) → Clean (parameters_walk x)
unfolding parameters_walk
parameters_clean parameters.Void = clean_then (mark_clean _ _ refl) (clean_then (word_clean _ _ refl) (mark_clean _ _ refl))
parameters_clean (parameters.Listed xs) = clean_then (mark_clean _ _ refl) (clean_then (separated_clean Real typed typed_clean xs) (mark_clean _ _ refl))

pub signature_clean : (x : Signature) → Clean (signature x)
unfolding signature
signature_clean x = clean_then (result_clean x.«result») (clean_then (name_clean _ x.name) (parameters_clean x.parameters))

claim_clean : (x : Claim) → Clean (claim x)
claim_clean x = unseen_clean (claim_unseen x)

contract_clean : (x : Contract) → Clean (contract x)
contract_clean x = unseen_clean (contract_unseen x)

allowed_clean : {A : Type 0} (g : Grammar) (w : A → Walk) → ((x : A) → Clean (w x)) → (x : Option A) → Clean (allowed g w x)
allowed_clean grammars.Whole w h (Some x) = h x
allowed_clean grammars.Whole w h None = nothing_clean
allowed_clean grammars.Plain w h None = nothing_clean
allowed_clean grammars.Plain w h (Some x) = never_clean

body_clean : (g : Grammar) (x : Body) → Clean (body g x)
unfolding body
body_clean g x = clean_then (at_clean x.place) (clean_then (mark_clean _ _ refl) (clean_then (stmts_clean g (stmt_list x.statements)) (clean_then (at_clean x.last) (mark_clean _ _ refl))))

item_clean : (g : Grammar) (x : Item) → Clean (item g x)
unfolding item
item_clean g (items.Opaque p tag) = clean_then (at_clean p) (clean_then (word_clean _ _ refl) (clean_then (name_clean _ tag) (mark_clean _ _ refl)))
item_clean g (items.Struct p tag fs) = clean_then (at_clean p) (clean_then (word_clean _ _ refl) (clean_then (name_clean _ tag) (clean_then (mark_clean _ _ refl) (clean_then (fields_clean fs) (clean_then (mark_clean _ _ refl) (mark_clean _ _ refl))))))
item_clean g (items.FunctionType p s c) = clean_then (at_clean p) (clean_then (word_clean _ _ refl) (clean_then (signature_clean s) (clean_then (mark_clean _ _ refl) (owed_clean g contract contract_clean c))))
item_clean g (items.Prototype s q c) = clean_then (signature_clean s) (clean_then (mark_clean _ _ refl) (clean_then (allowed_clean g claim claim_clean q) (owed_clean g contract contract_clean c)))
item_clean g (items.Function s q c b) = clean_then (signature_clean s) (clean_then (allowed_clean g claim claim_clean q) (clean_then (allowed_clean g contract contract_clean c) (body_clean g b)))
item_clean grammars.Whole (items.Ghost x) = unseen_clean (ghost_item_unseen x)
item_clean grammars.Plain (items.Ghost x) = never_clean

pub unit_clean : (g : Grammar) (u : FileUnit) → Clean (unit g u)
unfolding unit
unit_clean g u = each_clean (item g) (item_clean g) u.items
