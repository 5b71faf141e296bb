-- Items and units without their annotations are spelled by the tokens of real text alone.
use Rattle.std.proofs.Common.{◌≡◌, Bool, true, false, List, [], ◌∷◌, Option, Some, None, refl, ap}
use Rattle.std.specs.Prelude.{if◌then◌else◌, filter_map}
use Rattle.std.specs.List.{cons_option}
use Rattle.vf_syntax.specs.StmtTree.{StmtTree, more_stmt, stmt_list}
use Rattle.vf_syntax.specs.declared.item.Body.{Body}
use Rattle.vf_syntax.specs.declared.item.Item.TheVariants as items
use Rattle.vf_syntax.specs.declared.item.Item.{Item}
use Rattle.vf_syntax.specs.declared.item.Parameters.TheVariants as parameters
use Rattle.vf_syntax.specs.declared.item.Parameters.{Parameters}
use Rattle.vf_syntax.specs.declared.item.Signature.{Signature}
use Rattle.vf_syntax.specs.declared.item.Typed.{Typed}
use Rattle.vf_syntax.specs.declared.item.Unit.{Unit as FileUnit}
use Rattle.vf_syntax.specs.declared.side.Grammar.TheVariants.{Whole, Plain}
use Rattle.vf_syntax.specs.declared.written.ResultType.TheVariants as results
use Rattle.vf_syntax.specs.declared.written.ResultType.{ResultType}
use Rattle.vf_syntax.specs.Walks.{Walk, ◌⨾◌}
use Rattle.vf_syntax.specs.Lists.{each}
use Rattle.vf_syntax.specs.Statements.{allowed, claim, contract, is_command}
use Rattle.vf_syntax.specs.Units.{typed, field, result_type, parameters_walk, signature, body, item, unit}
use Rattle.vf_grammar_read.proofs.supported.Unseen.{Unseen}
use Rattle.vf_grammar_read.proofs.supported.GhostUnseen.{claim_unseen, contract_unseen}
use Rattle.vf_grammar_read.proofs.supported.GhostItemsUnseen.{ghost_item_unseen}
use Rattle.vf_erasure_laws.specs.plain.Stripped.{stripped_stmt, stripped_stmts, stripped_part, stripped_body, stripped_item, stripped_items, stripped}
use Rattle.vf_erasure_laws.proofs.plain.Kept.{Keeps, Firm, keeps, keeps_then, firm_then, firm_on, past_ghost, unseen_kept, nothing_keeps, at_firm, mark_firm, word_firm, name_firm, each_keeps, separated_keeps}
use Rattle.vf_erasure_laws.proofs.plain.RealKept.{ctype_firm}
use Rattle.vf_erasure_laws.proofs.plain.StatementsKept.{owed_keeps, stmts_keep}

typed_firm : (x : Typed) → Firm (typed x) (typed x)
unfolding typed
typed_firm x = firm_on (ctype_firm x.written) (name_firm x.name)

field_keeps : (x : Typed) → Keeps (field x) (field x)
unfolding field
field_keeps x = keeps (firm_on (typed_firm x) (mark_firm _))

result_firm : (x : ResultType) → Firm (result_type x) (result_type x)
unfolding result_type
result_firm (results.Void p) = at_firm p (word_firm _)
result_firm (results.Value t) = ctype_firm t

parameters_firm : (x : Parameters) → Firm (parameters_walk x) (parameters_walk x)
unfolding parameters_walk
parameters_firm parameters.Void = firm_on (mark_firm _) (firm_on (word_firm _) (mark_firm _))
parameters_firm (parameters.Listed xs) = firm_then (mark_firm _) (keeps_then (separated_keeps typed (λ x. keeps (typed_firm x)) xs) (keeps (mark_firm _)))

signature_firm : (x : Signature) → Firm (signature x) (signature x)
unfolding signature
signature_firm x = firm_on (result_firm x.«result») (firm_on (name_firm x.name) (parameters_firm x.parameters))

-- what the whole grammar allows is left out
allowed_keeps : {A : Type 0} (w : A → Walk) → ((x : A) → Unseen (w x)) → (x : Option A) → Keeps (allowed Whole w x) (allowed Plain w None)
allowed_keeps w h (Some x) = unseen_kept (h x)
allowed_keeps w h None = nothing_keeps

-- the statements of a body that are left are the same in both forms of the list
pub parts_same : (xs : List StmtTree) → stmt_list (filter_map stripped_part xs) ≡ stripped_stmts (stmt_list xs)
parts_same [] = refl
parts_same (x ∷ xs) = by_test (is_command x) (parts_same xs)
  where
    by_test : (b : Bool) → stmt_list (filter_map stripped_part xs) ≡ stripped_stmts (stmt_list xs)
        → stmt_list (cons_option (if b then None else Some (stripped_stmt x)) (filter_map stripped_part xs)) ≡ (if b then stripped_stmts (stmt_list xs) else more_stmt (stripped_stmt x) (stripped_stmts (stmt_list xs)))
    by_test true h = h
    by_test false h = ap (more_stmt (stripped_stmt x)) h

body_firm : (x : Body) → Firm (body Whole x) (body Plain (stripped_body x))
unfolding body
body_firm x = rw (parts_same x.statements) (at_firm x.place (firm_then (mark_firm _) (keeps_then (stmts_keep (stmt_list x.statements)) (keeps (at_firm x.last (mark_firm _))))))

-- an item in front of others is kept, or left out where it is a ghost item
item_keeps : (x : Item) (xs : List Item) {f : Walk} → Keeps f (each (item Plain) xs) → Keeps (item Whole x ⨾ f) (each (item Plain) (cons_option (stripped_item x) xs))
unfolding item
item_keeps (items.Opaque p tag) xs k = keeps_then (keeps (at_firm p (firm_on (word_firm _) (firm_on (name_firm tag) (mark_firm _))))) k
item_keeps (items.Struct p tag fs) xs k = keeps_then (keeps (at_firm p (firm_on (word_firm _) (firm_on (name_firm tag) (firm_then (mark_firm _) (keeps_then (each_keeps field field_keeps fs) (keeps (firm_on (mark_firm _) (mark_firm _))))))))) k
item_keeps (items.FunctionType p s c) xs k = keeps_then (keeps (at_firm p (firm_on (word_firm _) (firm_on (signature_firm s) (firm_then (mark_firm _) (owed_keeps contract contract_unseen c)))))) k
item_keeps (items.Prototype s q c) xs k = keeps_then (keeps (firm_on (signature_firm s) (firm_then (mark_firm _) (keeps_then (allowed_keeps claim claim_unseen q) (owed_keeps contract contract_unseen c))))) k
item_keeps (items.Function s q c b) xs k = keeps_then (keeps (firm_then (signature_firm s) (keeps_then (allowed_keeps claim claim_unseen q) (keeps_then (allowed_keeps contract contract_unseen c) (keeps (body_firm b)))))) k
item_keeps (items.Ghost x) xs k = past_ghost (ghost_item_unseen x) k

items_keep : (xs : List Item) → Keeps (each (item Whole) xs) (each (item Plain) (stripped_items xs))
items_keep [] = nothing_keeps
items_keep (x ∷ xs) = item_keeps x (stripped_items xs) (items_keep xs)

pub unit_keeps : (u : FileUnit) → Keeps (unit Whole u) (unit Plain (stripped u))
unfolding unit
unit_keeps u = items_keep u.items
