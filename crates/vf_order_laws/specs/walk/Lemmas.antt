-- What lemmas come to, as functions: what is declared behind them, or the first refusal.
use Rattle.std.specs.Prelude.{ℕ, Bool, true, false, nat_eq, List, Option, Some, None, Ok, Err}
use Rattle.vf_base.specs.declared.rule.Rule.TheVariants as rules
use Rattle.vf_declared.specs.declared.scope.Scope.{Scope}
use Rattle.vf_declared.specs.Scopes.{sides_of_ghost}
use Rattle.vf_declared.specs.Writing.{with_ghost, with_ghost_body}
use Rattle.vf_syntax.specs.declared.contract.Contract.{Contract}
use Rattle.vf_syntax.specs.declared.item.GhostBody.{GhostBody}
use Rattle.vf_syntax.specs.declared.item.GhostParameter.{GhostParameter}
use Rattle.vf_syntax.specs.declared.written.Name.{Name}
use Rattle.vf_syntax.specs.GhostCommandTree.{ghost_command_list}
use Rattle.vf_sorting.specs.Refusals.{refused}
use Rattle.vf_asserting.specs.Leaving.{count, left}
use Rattle.vf_heads.specs.Parameters.{Taken, none_taken, parameters_behind}
use Rattle.vf_walk.specs.Walking.{Walked}
use Rattle.vf_commands.specs.declared.around.Around.{Around}
use Rattle.vf_predicates.specs.Earlier.{seen_too}
use Rattle.vf_lemma_items.specs.declared.earlier.Head.{Head}
use Rattle.vf_lemma_items.specs.Earlier.{head, sorts_of}
use Rattle.vf_lemma_items.specs.Kept.{kept, kept_in, taken_from}
use Rattle.vf_lemma_items.specs.Lemmas.{around_body, around_contract, begun, lemma_over, number}
use Rattle.vf_order_laws.specs.walk.Alike.{are_same}
use Rattle.vf_order_laws.specs.walk.Contracting.{contract_of, ghost_commands_of}
use Rattle.vf_order_laws.specs.walk.Following.{after, choose}

-- behind its parameters a lemma is new, or has the sorts that it had before
abbrev pub lemma_of : Name → List (List ℕ) → Option ℕ → Taken → Walked
lemma_of n ps None t = Ok (with_ghost t.scope (lemma_over ps t.sorts))
lemma_of n ps (Some k) t = choose (are_same t.sorts (sorts_of t.scope k)) (Ok (seen_too t.scope n)) (Err (refused rules.Name n.place))

-- the parameters of a lemma, and its declaration behind them
abbrev pub signature_of : Name → List GhostParameter → Head → Scope → Walked
signature_of n gs h s = after (lemma_of n h.parameters h.earlier) (parameters_behind h.parameters gs (none_taken (begun n h.earlier s)))

-- a lemma without a body, behind its head
abbrev pub prototype_at : Name → List GhostParameter → Contract → Scope → Head → Walked
prototype_at n gs c s h = after (λ t. Ok (kept (count s) (number s h.earlier) t)) (after (contract_of around_contract around_contract c) (signature_of n gs h s))

-- a lemma without a body
abbrev pub prototype_of : Name → List Name → List GhostParameter → Contract → Scope → Walked
prototype_of n ns gs c s = after (prototype_at n gs c s) (head s false n ns)

-- the contract of a lemma with a body and a number, or that which it was declared with without a body
abbrev pub contract_or_kept : List GhostParameter → ℕ → Option Contract → Scope → Walked
contract_or_kept gs k None s = taken_from gs (kept_in (sides_of_ghost s k)) s
contract_or_kept gs k (Some c) s = contract_of around_contract around_contract c s

-- a body that may stand where it does or not
abbrev pub body_if : Bool → Around → GhostBody → Scope → Walked
body_if true w b s = ghost_commands_of w (ghost_command_list b.commands) s
body_if false w b s = Err (refused rules.Unsupported b.place)

-- the body of a lemma with a number and these type parameters
abbrev pub body_at : Name → ℕ → List (List ℕ) → GhostBody → Scope → Walked
body_at n k ps b s = body_if (nat_eq n.place.file s.file) (around_body k ps) b s

-- the contract of a lemma with a number, which has its body where that begins
abbrev pub contract_at : List GhostParameter → ℕ → Option Contract → Scope → Walked
contract_at gs k c t = contract_or_kept gs k c (with_ghost_body t k)

-- a lemma with a body, behind its head
abbrev pub definition_at : Name → List GhostParameter → Option Contract → GhostBody → Scope → Head → Walked
definition_at n gs c b s h = after (λ t. Ok (left (count s) t)) (after (body_at n (number s h.earlier) h.parameters b) (after (contract_at gs (number s h.earlier) c) (signature_of n gs h s)))

-- a lemma with its body
abbrev pub definition_of : Name → List Name → List GhostParameter → Option Contract → GhostBody → Scope → Walked
definition_of n ns gs c b s = after (definition_at n gs c b s) (head s true n ns)
