-- What is declared behind lemmas, or their first refusal in the order of the text.
use Rattle.std.specs.Prelude.{ℕ, Bool, true, false, nat_eq, List, length, Option, Some, None, Ok, Err}
use Rattle.vf_base.specs.declared.rule.Rule.TheVariants as rules
use Rattle.vf_sorts.specs.Sorts.{Sort}
use Rattle.vf_declared.specs.declared.declaration.GhostDeclaration.{GhostDeclaration}
use Rattle.vf_declared.specs.declared.declaration.GhostDeclaration.TheVariants as ghosts
use Rattle.vf_declared.specs.declared.scope.Scope.{Scope}
use Rattle.vf_declared.specs.Scopes.{sides_of_ghost}
use Rattle.vf_declared.specs.Writing.{with_ghost, with_ghost_body}
use Rattle.vf_syntax.specs.declared.contract.Contract.{Contract}
use Rattle.vf_syntax.specs.declared.item.GhostBody.{GhostBody}
use Rattle.vf_syntax.specs.declared.item.GhostParameter.{GhostParameter}
use Rattle.vf_syntax.specs.declared.written.Name.{Name}
use Rattle.vf_syntax.specs.GhostCommandTree.{ghost_command_list}
use Rattle.vf_sorting.specs.declared.context.Context.{Context}
use Rattle.vf_sorting.specs.Refusals.{refused}
use Rattle.vf_asserting.specs.Leaving.{count, left}
use Rattle.vf_datatypes.specs.Datatypes.{with_next}
use Rattle.vf_heads.specs.Parameters.{Taken, none_taken, parameters_behind}
use Rattle.vf_walk.specs.Walking.{Only, Then, Walked}
use Rattle.vf_contracts.specs.Comes.{ContractComes}
use Rattle.vf_commands.specs.declared.around.Around.{Around}
use Rattle.vf_commands.specs.Comes.{BodyComes}
use Rattle.vf_predicates.specs.Earlier.{AreSame, seen_too}
use Rattle.vf_predicates.specs.Predicates.{or_next}
use Rattle.vf_lemma_items.specs.declared.earlier.Head.{Head}
use Rattle.vf_lemma_items.specs.Earlier.{head, sorts_of}
use Rattle.vf_lemma_items.specs.Kept.{kept, kept_in, taken_from}

-- around the conditions of a contract: `currentThread` may stand in them
abbrev pub around_contract : Context
around_contract = record { «result» = None; has_this = false; has_thread = true; own = None }

-- around the commands in the body of the lemma with a number: `currentThread` may stand in them, and its type parameters are sorts of their own
abbrev pub around_body : ℕ → List (List ℕ) → Around
around_body k ps = record { context = record { «result» = None; has_this = false; has_thread = true; own = Some k }; parameters = ps }

-- the number of a lemma
abbrev pub number : Scope → Option ℕ → ℕ
number s o = or_next o (length s.ghosts)

-- a new lemma has its name in front of what it is
abbrev pub begun : Name → Option ℕ → Scope → Scope
begun n None s = with_next s n
begun n (Some k) s = s

-- a lemma with these type parameters, over arguments of these sorts
abbrev pub lemma_over : List (List ℕ) → List Sort → GhostDeclaration
lemma_over ps ts = ghosts.Lemma (record { parameters = length ps; arguments = ts })

-- behind its parameters a lemma is new, or has the sorts that it had before, else its name is refused
pub data IsLemma (n : Name) (ps : List (List ℕ)) : Option ℕ → Taken → Walked → Type 0 where
  new : {t : Taken} → IsLemma n ps None t (Ok (with_ghost t.scope (lemma_over ps t.sorts)))
  agreed : {k : ℕ} {t : Taken} → AreSame t.sorts (sorts_of t.scope k) → IsLemma n ps (Some k) t (Ok (seen_too t.scope n))
  differs : {k : ℕ} {t : Taken} → (AreSame t.sorts (sorts_of t.scope k) → ⊥) → IsLemma n ps (Some k) t (Err (refused rules.Name n.place))

-- a lemma behind its head: its parameters, which are locals, and its declaration
abbrev pub SignatureComes : Name → List GhostParameter → Head → Scope → Walked → Type 0
SignatureComes n gs h s = Then (Only (parameters_behind h.parameters gs (none_taken (begun n h.earlier s)))) (IsLemma n h.parameters h.earlier)

-- a lemma without a body, behind its head
abbrev pub PrototypeOf : Name → List GhostParameter → Contract → Scope → Head → Walked → Type 0
PrototypeOf n gs c s h = Then (Then (SignatureComes n gs h s) (ContractComes around_contract around_contract c)) (λ t. Only (Ok (kept (count s) (number s h.earlier) t)))

-- a lemma without a body
abbrev pub PrototypeComes : Name → List Name → List GhostParameter → Contract → Scope → Walked → Type 0
PrototypeComes n ns gs c s = Then (Only (head s false n ns)) (PrototypeOf n gs c s)

-- the contract of a lemma with a body and a number, or that which it was declared with without a body
abbrev pub OwnContract : List GhostParameter → ℕ → Option Contract → Scope → Walked → Type 0
OwnContract gs k None s = Only (taken_from gs (kept_in (sides_of_ghost s k)) s)
OwnContract gs k (Some c) s = ContractComes around_contract around_contract c s

-- a body that may stand where it does or not
abbrev pub BodyIf : Bool → Around → GhostBody → Scope → Walked → Type 0
BodyIf true w b s = BodyComes w (ghost_command_list b.commands) s
BodyIf false w b s = Only (Err (refused rules.Unsupported b.place))

-- the body of a lemma with a number and these type parameters: none stands in a header
abbrev pub BodyOf : Name → ℕ → List (List ℕ) → GhostBody → Scope → Walked → Type 0
BodyOf n k ps b s = BodyIf (nat_eq n.place.file s.file) (around_body k ps) b s

-- a lemma with a body, behind its head: the lemma has its body where its contract begins, so that the body may call it
abbrev pub DefinitionOf : Name → List GhostParameter → Option Contract → GhostBody → Scope → Head → Walked → Type 0
DefinitionOf n gs c b s h = Then (Then (Then (SignatureComes n gs h s) (λ t. OwnContract gs (number s h.earlier) c (with_ghost_body t (number s h.earlier)))) (BodyOf n (number s h.earlier) h.parameters b)) (λ t. Only (Ok (left (count s) t)))

-- a lemma with its body
abbrev pub DefinitionComes : Name → List Name → List GhostParameter → Option Contract → GhostBody → Scope → Walked → Type 0
DefinitionComes n ns gs c b s = Then (Only (head s true n ns)) (DefinitionOf n gs c b s)
