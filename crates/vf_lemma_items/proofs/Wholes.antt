-- Whole lemmas, from their parameters to their end.
use Rattle.std.proofs.Common.{◌≡◌, ℕ, Bool, true, false, nat_eq, List, length, Option, Some, None, Result, Ok, Err, refl, sym, ap, subst, ◌∙◌}
use Rattle.vf_base.specs.declared.refusal.RuleFault.{RuleFault}
use Rattle.vf_base.specs.declared.refusal.RuleFault.TheVariants as faults
use Rattle.vf_base.specs.declared.rule.Rule.TheVariants as rules
use Rattle.vf_declared.specs.Changes.{first_locals}
use Rattle.vf_declared.specs.Scopes.{sides_of_ghost}
use Rattle.vf_declared.specs.Writing.{with_ghost_body}
use Rattle.vf_declared.specs.declared.locals.Locals.{Locals}
use Rattle.vf_declared.specs.declared.scope.Scope.{Scope}
use Rattle.vf_syntax.specs.declared.contract.Contract.{Contract}
use Rattle.vf_syntax.specs.declared.item.GhostBody.{GhostBody}
use Rattle.vf_syntax.specs.declared.item.GhostParameter.{GhostParameter}
use Rattle.vf_syntax.specs.declared.written.Name.{Name}
use Rattle.vf_syntax.specs.GhostCommandTree.{ghost_command_list}
use Rattle.vf_sorting.specs.declared.context.Context.{Context}
use Rattle.vf_sorting.specs.Refusals.{refused}
use Rattle.vf_walk.specs.Walking.{Follows, Gives}
use Rattle.vf_walk.specs.Walking as walking
use Rattle.vf_walk.proofs.Steps.{end_here, just, last, next}
use Rattle.vf_contracts.specs.Comes.{ContractComes}
use Rattle.vf_commands.specs.declared.around.Around.{Around}
use Rattle.vf_commands.specs.Comes.{BodyComes}
use Rattle.vf_lemma_items.specs.declared.earlier.Head.{Head}
use Rattle.vf_lemma_items.specs.Kept.{kept, kept_in, taken_from}
use Rattle.vf_lemma_items.specs.Lemmas.{BodyIf, BodyOf, DefinitionOf, OwnContract, PrototypeOf, SignatureComes, around_body, around_contract, number}

-- the same contract within what stands around those of lemmas
within : {c : Context} {x : Contract} {s t : Scope} {r : Result (Unit {0}) RuleFault} → c ≡ around_contract → Follows (ContractComes c c x s) r t → Follows (ContractComes around_contract around_contract x s) r t
within {x = x} {s = s} {t = t} {r = r} a h = subst (λ (c : Context). Follows (ContractComes c c x s) r t) a h

-- what stands in front of the contract of a lemma without a body is refused
pub prototype_stops : (n : Name) (gs : List GhostParameter) (c : Contract) (h : Head) (s u t : Scope) (e : RuleFault) (r : Result (Unit {0}) RuleFault) → Follows (SignatureComes n gs h s) (Err e) u → r ≡ Err e → Follows (PrototypeOf n gs c s h) r t
prototype_stops n gs c h s u t e r f is = end_here {a = u} (end_here f refl) is

-- its contract is refused
pub contract_stops : (n : Name) (gs : List GhostParameter) (c : Contract) (h : Head) (s u v t : Scope) (a : Context) (e : RuleFault) (r : Result (Unit {0}) RuleFault) → Follows (SignatureComes n gs h s) (Ok tt) u → a ≡ around_contract → Follows (ContractComes a a c u) (Err e) v → r ≡ Err e → Follows (PrototypeOf n gs c s h) r t
contract_stops n gs c h s u v t a e r f w g is = end_here (next f (within w g)) is

-- a lemma without a body
pub prototype_comes : (n : Name) (gs : List GhostParameter) (c : Contract) (h : Head) (s u v t : Scope) (a : Context) (m k : ℕ) (r : Result (Unit {0}) RuleFault) → m ≡ length s.locals.names → k ≡ number s h.earlier → Follows (SignatureComes n gs h s) (Ok tt) u → a ≡ around_contract → Follows (ContractComes a a c u) (Ok tt) v → t ≡ kept m k v → r ≡ Ok tt → Follows (PrototypeOf n gs c s h) r t
prototype_comes n gs c h s u v t a m k r e i f w g q is =
    subst (λ (y : Result (Unit {0}) RuleFault). Follows (PrototypeOf n gs c s h) y t) (sym is)
    (last (next f (within w g)) (ap Ok (sym (q ∙ ap (λ (x : ℕ). kept x k v) e ∙ ap (λ (x : ℕ). kept (length s.locals.names) x v) i))))

-- a lemma with a body has a contract of its own
pub own_contract : (gs : List GhostParameter) (k : ℕ) (o : Option Contract) (c : Contract) (s t : Scope) (a : Context) (r : Result (Unit {0}) RuleFault) → o ≡ Some c → a ≡ around_contract → Follows (ContractComes a a c s) r t → Follows (OwnContract gs k o s) r t
own_contract gs k o c s t a r h w f = subst (λ (p : Option Contract). Follows (OwnContract gs k p s) r t) (sym h) (within w f)

-- it has none of its own
pub kept_contract : (gs : List GhostParameter) (k : ℕ) (o : Option Contract) (s t : Scope) (r : Result (Unit {0}) RuleFault) → o ≡ None → Gives r t (taken_from gs (kept_in (sides_of_ghost s k)) s) → Follows (OwnContract gs k o s) r t
kept_contract gs k o s t r h g = subst (λ (p : Option Contract). Follows (OwnContract gs k p s) r t) (sym h) (just (taken_from gs (kept_in (sides_of_ghost s k)) s) r t g)

-- a body stands in a header
pub in_header : (n : Name) (k : ℕ) (ps : List (List ℕ)) (b : GhostBody) (s t : Scope) (e : RuleFault) → nat_eq n.place.file s.file ≡ false → e ≡ faults.Refused (refused rules.Unsupported b.place) → Follows (BodyOf n k ps b s) (Err e) t
in_header n k ps b s t e h q =
    subst (λ (d : RuleFault). Follows (BodyOf n k ps b s) (Err d) t) (sym q)
    (subst (λ (c : Bool). Follows (BodyIf c (around_body k ps) b s) (Err (faults.Refused (refused rules.Unsupported b.place))) t) (sym h)
    (walking.to_refusal (record { is = refl })))

-- it stands in the unit's own file
pub in_file : (n : Name) (k : ℕ) (ps : List (List ℕ)) (b : GhostBody) (s t : Scope) (w : Around) (r : Result (Unit {0}) RuleFault) → nat_eq n.place.file s.file ≡ true → w ≡ around_body k ps → Follows (BodyComes w (ghost_command_list b.commands) s) r t → Follows (BodyOf n k ps b s) r t
in_file n k ps b s t w r h q f =
    subst (λ (c : Bool). Follows (BodyIf c (around_body k ps) b s) r t) (sym h)
    (subst (λ (x : Around). Follows (BodyComes x (ghost_command_list b.commands) s) r t) q f)

-- the contract of the body of a lemma with the number that it has
numbered : (gs : List GhostParameter) (o : Option Contract) (h : Head) (s u v x : Scope) (k : ℕ) (r : Result (Unit {0}) RuleFault) → k ≡ number s h.earlier → v ≡ with_ghost_body u k → Follows (OwnContract gs k o v) r x → Follows (OwnContract gs (number s h.earlier) o (with_ghost_body u (number s h.earlier))) r x
numbered gs o h s u v x k r i q f =
    subst (λ (j : ℕ). Follows (OwnContract gs j o (with_ghost_body u j)) r x) i
    (subst (λ (y : Scope). Follows (OwnContract gs k o y) r x) q f)

-- what stands in front of the contract of a lemma with a body is refused
pub signature_stops : (n : Name) (gs : List GhostParameter) (o : Option Contract) (b : GhostBody) (h : Head) (s u t : Scope) (e : RuleFault) (r : Result (Unit {0}) RuleFault) → Follows (SignatureComes n gs h s) (Err e) u → r ≡ Err e → Follows (DefinitionOf n gs o b s h) r t
signature_stops n gs o b h s u t e r f is = end_here {a = u} (end_here {a = u} (end_here f refl) refl) is

-- its contract is refused
pub own_stops : (n : Name) (gs : List GhostParameter) (o : Option Contract) (b : GhostBody) (h : Head) (s u v x t : Scope) (k : ℕ) (e : RuleFault) (r : Result (Unit {0}) RuleFault) → k ≡ number s h.earlier → Follows (SignatureComes n gs h s) (Ok tt) u → v ≡ with_ghost_body u k → Follows (OwnContract gs k o v) (Err e) x → r ≡ Err e → Follows (DefinitionOf n gs o b s h) r t
own_stops n gs o b h s u v x t k e r i f q g is = end_here {a = x} (end_here (next f (numbered gs o h s u v x k (Err e) i q g)) refl) is

-- its body is refused
pub body_stops : (n : Name) (gs : List GhostParameter) (o : Option Contract) (b : GhostBody) (h : Head) (s u v x y t : Scope) (k : ℕ) (e : RuleFault) (r : Result (Unit {0}) RuleFault) → k ≡ number s h.earlier → Follows (SignatureComes n gs h s) (Ok tt) u → v ≡ with_ghost_body u k → Follows (OwnContract gs k o v) (Ok tt) x → Follows (BodyOf n k h.parameters b x) (Err e) y → r ≡ Err e → Follows (DefinitionOf n gs o b s h) r t
body_stops n gs o b h s u v x y t k e r i f q g d is =
    end_here (next (next f (numbered gs o h s u v x k (Ok tt) i q g)) (subst (λ (j : ℕ). Follows (BodyOf n j h.parameters b x) (Err e) y) i d)) is

-- a lemma with its body
pub definition_comes : (n : Name) (gs : List GhostParameter) (o : Option Contract) (b : GhostBody) (h : Head) (s u v x y : Scope) (l : Locals) (m k : ℕ) → m ≡ length s.locals.names → k ≡ number s h.earlier → Follows (SignatureComes n gs h s) (Ok tt) u → v ≡ with_ghost_body u k → Follows (OwnContract gs k o v) (Ok tt) x → Follows (BodyOf n k h.parameters b x) (Ok tt) y → l ≡ first_locals y.locals m → Follows (DefinitionOf n gs o b s h) (Ok tt) (record y { locals = l })
definition_comes n gs o b h s u v x y l m k c i f q g d j =
    last (next (next f (numbered gs o h s u v x k (Ok tt) i q g)) (subst (λ (j : ℕ). Follows (BodyOf n j h.parameters b x) (Ok tt) y) i d))
    (ap (λ (z : Locals). Ok (record y { locals = z })) (sym (j ∙ ap (first_locals y.locals) c)))
