-- What items leave stood there before.
use Rattle.std.proofs.Common.{List, Option, Some, None}
use Rattle.vf_syntax.specs.StmtTree.{stmt_list}
use Rattle.vf_syntax.specs.declared.item.Body.{Body}
use Rattle.vf_syntax.specs.declared.item.Item.TheVariants as items
use Rattle.vf_syntax.specs.declared.item.Item.{Item}
use Rattle.vf_syntax.specs.declared.item.Parameters.TheVariants as parameters
use Rattle.vf_syntax.specs.declared.item.Parameters.{Parameters}
use Rattle.vf_syntax.specs.declared.item.Signature.{Signature}
use Rattle.vf_syntax.specs.declared.item.Typed.{Typed}
use Rattle.vf_syntax.specs.declared.side.Grammar.TheVariants as grammars
use Rattle.vf_syntax.specs.declared.side.Grammar.{Grammar}
use Rattle.vf_syntax.specs.declared.side.Side.TheVariants.{Real}
use Rattle.vf_syntax.specs.declared.written.ResultType.TheVariants as results
use Rattle.vf_syntax.specs.declared.written.ResultType.{ResultType}
use Rattle.vf_syntax.specs.Walks.{Walk}
use Rattle.vf_syntax.specs.Lists.{each}
use Rattle.vf_syntax.specs.Statements.{allowed, claim, contract}
use Rattle.vf_syntax.specs.Units.{typed, field, result_type, parameters_walk, signature, body, item}
use Rattle.vf_fixpoint_laws.proofs.identifiers.Keeps.{Keeps, keep_then, nothing_keeps, never_keeps, at_keeps, mark_keeps, word_keeps, name_keeps, each_keeps, separated_keep}
use Rattle.vf_fixpoint_laws.proofs.identifiers.RealKept.{ctype_keeps}
use Rattle.vf_fixpoint_laws.proofs.identifiers.GhostKept.{claim_keeps, contract_keeps}
use Rattle.vf_fixpoint_laws.proofs.identifiers.StatementsKept.{owed_keeps, stmts_keeps}
use Rattle.vf_fixpoint_laws.proofs.identifiers.GhostItemsKept.{ghost_item_keeps}

typed_keeps : (x : Typed) → Keeps (typed x)
unfolding typed
typed_keeps x = keep_then (ctype_keeps _ x.written) (name_keeps _ x.name)

field_keeps : (x : Typed) → Keeps (field x)
unfolding field
field_keeps x = keep_then (typed_keeps x) (mark_keeps _ _)

fields_keeps : (xs : List Typed) → Keeps (each field xs)
fields_keeps xs = each_keeps field field_keeps xs

pub result_keeps : (x : ResultType) → Keeps (result_type x)
unfolding result_type
result_keeps (results.Void p) = keep_then (at_keeps p) (word_keeps _ _)
result_keeps (results.Value t) = ctype_keeps _ t

parameters_keeps : (x : Parameters) → Keeps (parameters_walk x)
unfolding parameters_walk
parameters_keeps parameters.Void = keep_then (mark_keeps _ _) (keep_then (word_keeps _ _) (mark_keeps _ _))
parameters_keeps (parameters.Listed xs) = keep_then (mark_keeps _ _) (keep_then (separated_keep Real typed typed_keeps xs) (mark_keeps _ _))

signature_keeps : (x : Signature) → Keeps (signature x)
unfolding signature
signature_keeps x = keep_then (result_keeps x.«result») (keep_then (name_keeps _ x.name) (parameters_keeps x.parameters))

allowed_keeps : {A : Type 0} (g : Grammar) (w : A → Walk) → ((x : A) → Keeps (w x)) → (x : Option A) → Keeps (allowed g w x)
allowed_keeps grammars.Whole w h (Some x) = h x
allowed_keeps grammars.Whole w h None = nothing_keeps
allowed_keeps grammars.Plain w h None = nothing_keeps
allowed_keeps grammars.Plain w h (Some x) = never_keeps

body_keeps : (g : Grammar) (x : Body) → Keeps (body g x)
unfolding body
body_keeps g x = keep_then (at_keeps x.place) (keep_then (mark_keeps _ _) (keep_then (stmts_keeps g (stmt_list x.statements)) (keep_then (at_keeps x.last) (mark_keeps _ _))))

pub item_keeps : (g : Grammar) (x : Item) → Keeps (item g x)
unfolding item
item_keeps g (items.Opaque p tag) = keep_then (at_keeps p) (keep_then (word_keeps _ _) (keep_then (name_keeps _ tag) (mark_keeps _ _)))
item_keeps g (items.Struct p tag fs) = keep_then (at_keeps p) (keep_then (word_keeps _ _) (keep_then (name_keeps _ tag) (keep_then (mark_keeps _ _) (keep_then (fields_keeps fs) (keep_then (mark_keeps _ _) (mark_keeps _ _))))))
item_keeps g (items.FunctionType p s c) = keep_then (at_keeps p) (keep_then (word_keeps _ _) (keep_then (signature_keeps s) (keep_then (mark_keeps _ _) (owed_keeps g contract contract_keeps c))))
item_keeps g (items.Prototype s q c) = keep_then (signature_keeps s) (keep_then (mark_keeps _ _) (keep_then (allowed_keeps g claim claim_keeps q) (owed_keeps g contract contract_keeps c)))
item_keeps g (items.Function s q c b) = keep_then (signature_keeps s) (keep_then (allowed_keeps g claim claim_keeps q) (keep_then (allowed_keeps g contract contract_keeps c) (body_keeps g b)))
item_keeps grammars.Whole (items.Ghost x) = ghost_item_keeps x
item_keeps grammars.Plain (items.Ghost x) = never_keeps
