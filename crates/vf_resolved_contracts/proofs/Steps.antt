-- What contracts and bodies of predicates come to where they are resolved, from the answers for their parts.
use Rattle.std.proofs.Common.{◌≡◌, ℕ, ◌+◌, List, [], ◌∷◌, ◌++◌, map, drop, Some, slice_get, Result, Ok, Err, refl, sym, subst, ap, ◌∙◌}
use Rattle.std.specs.Prelude.{IfOk}
use Rattle.vf_base.specs.declared.place.Place.{Place}
use Rattle.vf_base.specs.declared.refusal.RuleFault.{RuleFault}
use Rattle.vf_base.specs.declared.refusal.RuleFault.TheVariants as faults
use Rattle.vf_closure.specs.Terms.{Term}
use Rattle.vf_sorts.specs.Sorts.{Sort}
use Rattle.vf_sorts.specs.Unknowns.{Known}
use Rattle.vf_declared.specs.Changes.{first_locals}
use Rattle.vf_declared.specs.declared.locals.Locals.{Locals}
use Rattle.vf_declared.specs.declared.scope.Scope.{Scope}
use Rattle.vf_syntax.specs.declared.contract.Contract.{Contract}
use Rattle.vf_syntax.specs.AssertionTree.{PartTree, part_list}
use Rattle.vf_sorting.specs.declared.context.Context.{Context}
use Rattle.vf_sorting.specs.Schemes.{sort_of_local}
use Rattle.vf_sorting.proofs.Lists.{left_at}
use Rattle.vf_binding.proofs.Steps.{failing, wanting}
use Rattle.vf_asserting.specs.Answers.{IsAssertion}
use Rattle.vf_asserting.specs.Gives.{Gives}
use Rattle.vf_asserting.specs.IsRefused.{AnyPartFails}
use Rattle.vf_asserting.specs.Leaving.{count, left}
use Rattle.vf_asserting.proofs.Wholes.{gone}
use Rattle.vf_contracts.specs.Comes as contracts
use Rattle.vf_resolved.specs.AssertionTree.{PartTree as Part}
use Rattle.vf_resolved.specs.declared.contract.Names.{Names}
use Rattle.vf_resolving.specs.Standings.{Around, Standing, leaving, with_sorts}
use Rattle.vf_resolving.specs.Assertions.{PartsResolved, parts_resolved}
use Rattle.vf_resolved_contracts.specs.declared.bodies.BodyRead as code_bodies
use Rattle.vf_resolved_contracts.specs.declared.contracts.ContractRead as code
use Rattle.vf_resolved_contracts.specs.Reading.{BodyRead, ContractRead, around_after, around_with, body_of, body_read, body_read_of, contract_of, contract_read, names_of, postcondition_read, read_of, result_symbol, starting, this_symbol, thread_symbol, unnumbered}
use Rattle.vf_resolved_contracts.specs.Resolves.{BodyKnows, BodyResolves, ContractKnows, ContractResolves, IsBodyKnown, IsBodyResolved, IsContractKnown, IsContractResolved}
use Rattle.vf_resolved_contracts.specs.Resolves as resolved

append_one : {A : Type 0} (xs ys : List A) (x : A) → (xs ++ x ∷ []) ++ ys ≡ xs ++ x ∷ ys
append_one [] ys x = refl
append_one (y ∷ xs) ys x = ap (λ zs. y ∷ zs) (append_one xs ys x)

-- one item more
pub one_more : {A B : Type 0} (f : A → B) (before : List B) (xs : List A) (i : ℕ) (x : A) (w : List B) → slice_get xs i ≡ Some x → before ++ map f (drop i xs) ≡ w → (before ++ f x ∷ []) ++ map f (drop (i + 1) xs) ≡ w
one_more f before xs i x w e h = append_one before (map f (drop (i + 1) xs)) (f x) ∙ sym (ap (λ ys. before ++ map f ys) (left_at xs i x e)) ∙ h

-- an assertion with nothing known before
given : {c : Context} {s s₁ : Scope} {k k₁ : Known} (x : List PartTree) → k ≡ [] → IsAssertion {A = Unit {0}} c s k (part_list x) (Ok tt) s₁ k₁ → Gives c s [] (part_list x) s₁ k₁
given {c = c} {s = s} {s₁ = s₁} {k₁ = k₁} x w i = subst (λ (k : Known). Gives c s k (part_list x) s₁ k₁) w i.answers.1

-- ---- contracts
pub precondition_fails : {c d : Context} {x : Contract} {s s₁ t : Scope} {k k₁ : Known} {res : Result Known RuleFault} (e : RuleFault) → k ≡ [] → IsAssertion {A = Unit {0}} c s k (part_list x.precondition) (Err e) s₁ k₁ → res ≡ Err e → IsContractKnown c d x s res t
precondition_fails {c = c} {x = x} {s = s} e w i q =
    record { answers = failing _ _ _ e (λ r h. contracts.precondition (subst (λ (k : Known). AnyPartFails c s k (part_list x.precondition) r) w h)) i.answers q }

pub postcondition_fails : {c d : Context} {x : Contract} {s s₁ s₂ t : Scope} {k k₁ k₂ : Known} {res : Result Known RuleFault} (e : RuleFault) → k ≡ [] → IsAssertion {A = Unit {0}} c s k (part_list x.precondition) (Ok tt) s₁ k₁ → IsAssertion {A = Unit {0}} d s₁ k₁ (part_list x.postcondition) (Err e) s₂ k₂ → res ≡ Err e → IsContractKnown c d x s res t
postcondition_fails {x = x} e w i j q =
    record { answers = failing _ _ _ e (λ r h. contracts.postcondition (given x.precondition w i) h) j.answers q }

pub contract_known : {c d : Context} {x : Contract} {s s₁ s₂ : Scope} {k k₁ k₂ : Known} {m : ℕ} {l : Locals} → m ≡ count s → k ≡ [] → IsAssertion {A = Unit {0}} c s k (part_list x.precondition) (Ok tt) s₁ k₁ → IsAssertion {A = Unit {0}} d s₁ k₁ (part_list x.postcondition) (Ok tt) s₂ k₂ → l ≡ first_locals s₂.locals m → IsContractKnown c d x s (Ok k₂) (record s₂ { locals = l })
contract_known {c = c} {d = d} {x = x} {s = s} {s₂ = s₂} {k₂ = k₂} {m = m} {l = l} n w i j f =
    let is : record s₂ { locals = l } ≡ left (count s) s₂ = ap (λ (y : Locals). record s₂ { locals = y }) (f ∙ ap (first_locals s₂.locals) n) in
    subst (λ (t : Scope). IsContractKnown c d x s (Ok k₂) t) (sym is) (record { answers = resolved.ContractKnows.knows (given x.precondition w i) j.answers.1 })

pub memory_of_contract : {c d : Context} {paths : List (List ℕ)} {x : Contract} {s : Scope} {res : Result code.ContractRead RuleFault} → res ≡ Err faults.Memory → IsContractResolved c d paths x s res
memory_of_contract q = record { answers = wanting _ _ q }

pub contract_fails : {c d : Context} {paths : List (List ℕ)} {x : Contract} {s t : Scope} {res : Result code.ContractRead RuleFault} (e : RuleFault) → IsContractKnown c d x s (Err e) t → res ≡ Err e → IsContractResolved c d paths x s res
contract_fails e i q = record { answers = failing _ _ _ e (λ r h. h) i.answers q }

pub contract_resolves : {c d : Context} {paths : List (List ℕ)} {x : Contract} {s t : Scope} {k : Known} {y : code.ContractRead} → IsContractKnown c d x s (Ok k) t → read_of y ≡ contract_read c d k paths x t → IsContractResolved c d paths x s (Ok y)
contract_resolves {c = c} {d = d} {paths = paths} {x = x} {s = s} i f =
    record { answers = subst (λ (z : ContractRead). ContractResolves c d paths x s z) (sym f) (resolved.ContractResolves.resolves i.answers) }

-- ---- bodies
pub body_fails : {c : Context} {xs : List PartTree} {s s₁ t : Scope} {k k₁ : Known} {res : Result Known RuleFault} (e : RuleFault) → k ≡ [] → IsAssertion {A = Unit {0}} c s k (part_list xs) (Err e) s₁ k₁ → res ≡ Err e → IsBodyKnown c xs s res t
body_fails {c = c} {xs = xs} {s = s} e w i q =
    record { answers = failing _ _ _ e (λ r h. subst (λ (k : Known). AnyPartFails c s k (part_list xs) r) w h) i.answers q }

pub body_known : {c : Context} {xs : List PartTree} {s s₁ : Scope} {k k₁ : Known} {m : ℕ} {l : Locals} → m ≡ count s → k ≡ [] → IsAssertion {A = Unit {0}} c s k (part_list xs) (Ok tt) s₁ k₁ → l ≡ first_locals s₁.locals m → IsBodyKnown c xs s (Ok k₁) (record s₁ { locals = l })
body_known {c = c} {xs = xs} {s = s} {s₁ = s₁} {k₁ = k₁} {m = m} {l = l} n w i f =
    let is : record s₁ { locals = l } ≡ left (count s) s₁ = ap (λ (y : Locals). record s₁ { locals = y }) (f ∙ ap (first_locals s₁.locals) n) in
    subst (λ (t : Scope). IsBodyKnown c xs s (Ok k₁) t) (sym is) (record { answers = resolved.BodyKnows.knows (given xs w i) })

pub memory_of_body : {c : Context} {paths : List (List ℕ)} {xs : List PartTree} {s : Scope} {res : Result code_bodies.BodyRead RuleFault} → res ≡ Err faults.Memory → IsBodyResolved c paths xs s res
memory_of_body q = record { answers = wanting _ _ q }

pub body_stops : {c : Context} {paths : List (List ℕ)} {xs : List PartTree} {s t : Scope} {res : Result code_bodies.BodyRead RuleFault} (e : RuleFault) → IsBodyKnown c xs s (Err e) t → res ≡ Err e → IsBodyResolved c paths xs s res
body_stops e i q = record { answers = failing _ _ _ e (λ r h. h) i.answers q }

pub body_resolves : {c : Context} {paths : List (List ℕ)} {xs : List PartTree} {s t : Scope} {k : Known} {y : code_bodies.BodyRead} → IsBodyKnown c xs s (Ok k) t → body_read_of y ≡ body_read c k paths xs t → IsBodyResolved c paths xs s (Ok y)
body_resolves {c = c} {paths = paths} {xs = xs} {s = s} i f =
    record { answers = subst (λ (z : BodyRead). BodyResolves c paths xs s z) (sym f) (resolved.BodyResolves.resolves i.answers) }

-- ---- where a text begins
-- the sorts of the parameters are put where nothing is numbered
pub begun : (a : Around) (s : Scope) {ts us : List Sort} {xs : List Term} {w : Standing} → ts ≡ map sort_of_local s.locals.meanings → xs ≡ [] → us ≡ [] → w ≡ with_sorts a ts (record { scope = s; terms = xs; sorts = us; next = 0 }) → w ≡ starting a s
begun a s {ts = ts} {us = us} {xs = xs} told none nothing is =
    is
    ∙ ap (λ (ys : List Term). with_sorts a ts (record { scope = s; terms = ys; sorts = us; next = 0 })) none
    ∙ ap (λ (ys : List Sort). with_sorts a ts (record { scope = s; terms = []; sorts = ys; next = 0 })) nothing
    ∙ ap (λ (ys : List Sort). with_sorts a ys (unnumbered s)) told

-- ---- texts behind their parameters
-- what stands around a text, whose words are these symbols
abbrev pub around_from : Context → Known → List (List ℕ) → Term → Term → Term → Around
around_from c k paths r t h = record { context = c; known = k; paths = paths; «result» = r; this_value = t; thread = h }

pub words_told : (c : Context) (k : Known) (paths : List (List ℕ)) (r t h : Term) → r ≡ result_symbol c → t ≡ this_symbol → h ≡ thread_symbol → around_from c k paths r t h ≡ around_with c k paths
words_told c k paths r t h e f g =
    ap (λ (x : Term). around_from c k paths x t h) e
    ∙ ap (λ (x : Term). around_from c k paths (result_symbol c) x h) f
    ∙ ap (λ (x : Term). around_from c k paths (result_symbol c) this_symbol x) g

abbrev pub body_with : Names → List Part → Standing → BodyRead
body_with m ys w = record { body = record { names = m; assertion = ys }; standing = w }

-- a body
pub body_told : (a : Around) (s : Scope) (xs : List PartTree) (n : ℕ) (w v : Standing) (ys : List Part) (m : Names)
    → n ≡ count s → w ≡ starting a s → parts_resolved a w (part_list xs) ≡ record { parts = ys; standing = v } → m ≡ names_of n v
    → body_with m ys v ≡ body_of (count s) (parts_resolved a (starting a s) (part_list xs))
body_told a s xs n w v ys m many start told named =
    ap (λ (z : Names). body_with z ys v) (named ∙ ap (λ k. names_of k v) many)
    ∙ sym (ap (λ (z : PartsResolved). body_of (count s) z) (ap (λ (z : Standing). parts_resolved a z (part_list xs)) (sym start) ∙ told))

pub body_around : {E : Type 0} (r : Result code_bodies.BodyRead E) (a : Around) (c : Context) (k : Known) (paths : List (List ℕ)) (xs : List PartTree) (s : Scope) → a ≡ around_with c k paths
    → IfOk r (λ x. body_read_of x ≡ body_of (count s) (parts_resolved a (starting a s) (part_list xs)))
    → IfOk r (λ x. body_read_of x ≡ body_read c k paths xs s)
body_around r a c k paths xs s e h =
    subst (λ (b : Around). IfOk r (λ x. body_read_of x ≡ body_of (count s) (parts_resolved b (starting b s) (part_list xs)))) e h

abbrev pub contract_with : Place → Names → List Part → List Part → Standing → ContractRead
contract_with p m xs ys w = record { contract = record { place = p; names = m; precondition = xs; postcondition = ys }; standing = w }

-- a contract
pub postcondition_told : (b : Around) (n : ℕ) (x : Contract) (ps : List Part) (w v u : Standing) (ys : List Part) (k : ℕ) (m : Names)
    → k ≡ count w.scope → parts_resolved b w (part_list x.postcondition) ≡ record { parts = ys; standing = v } → u ≡ leaving k v → m ≡ names_of n u
    → contract_with x.place m ps ys u ≡ postcondition_read b n x (record { parts = ps; standing = w })
postcondition_told b n x ps w v u ys k m many told gone named =
    ap (λ (z : Names). contract_with x.place z ps ys u) named
    ∙ ap (λ (z : Standing). contract_with x.place (names_of n z) ps ys z) (gone ∙ ap (λ j. leaving j v) many)
    ∙ sym (ap (contract_of n x.place (record { parts = ps; standing = w })) told)

pub conditions_told : {E : Type 0} (r : Result code.ContractRead E) (a b : Around) (s : Scope) (x : Contract) (n : ℕ) (w v : Standing) (ys : List Part)
    → n ≡ count s → w ≡ starting a s → parts_resolved a w (part_list x.precondition) ≡ record { parts = ys; standing = v }
    → IfOk r (λ y. read_of y ≡ postcondition_read b n x (record { parts = ys; standing = v }))
    → IfOk r (λ y. read_of y ≡ postcondition_read b (count s) x (parts_resolved a (starting a s) (part_list x.precondition)))
conditions_told r a b s x n w v ys many start told h =
    subst (λ (z : ContractRead). IfOk r (λ y. read_of y ≡ z)) (
    ap (λ k. postcondition_read b k x (record { parts = ys; standing = v })) many
    ∙ sym (ap (λ (z : PartsResolved). postcondition_read b (count s) x z) (ap (λ (z : Standing). parts_resolved a z (part_list x.precondition)) (sym start) ∙ told))
    ) h

pub contract_behind : {E : Type 0} (r : Result code.ContractRead E) (a b : Around) (c : Context) (x : Contract) (s : Scope) → b ≡ around_after a c
    → IfOk r (λ y. read_of y ≡ postcondition_read b (count s) x (parts_resolved a (starting a s) (part_list x.precondition)))
    → IfOk r (λ y. read_of y ≡ postcondition_read (around_after a c) (count s) x (parts_resolved a (starting a s) (part_list x.precondition)))
contract_behind r a b c x s e h =
    subst (λ (u : Around). IfOk r (λ y. read_of y ≡ postcondition_read u (count s) x (parts_resolved a (starting a s) (part_list x.precondition)))) e h

pub contract_around : {E : Type 0} (r : Result code.ContractRead E) (a : Around) (c d : Context) (k : Known) (paths : List (List ℕ)) (x : Contract) (s : Scope) → a ≡ around_with c k paths
    → IfOk r (λ y. read_of y ≡ postcondition_read (around_after a d) (count s) x (parts_resolved a (starting a s) (part_list x.precondition)))
    → IfOk r (λ y. read_of y ≡ contract_read c d k paths x s)
contract_around r a c d k paths x s e h =
    subst (λ (u : Around). IfOk r (λ y. read_of y ≡ postcondition_read (around_after u d) (count s) x (parts_resolved u (starting u s) (part_list x.precondition)))) e h
