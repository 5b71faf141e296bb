-- What a file of the first form has is formed as the proof of safety wants it.
use Rattle.std.proofs.Common.{◌≡◌, ℕ, zero, suc, ◌+◌, Bool, true, false, not, ◌&&◌, cond, List, [], ◌∷◌, ◌++◌, length, is_some, Option, Some, None, slice_get, refl, sym, ap, subst, ◌⊎◌, inl, inr, arith}
use Rattle.vf_base.specs.declared.place.Place.{Place}
use Rattle.vf_tree.specs.declared.unit.Expression.{Expression}
use Rattle.vf_tree.specs.declared.unit.CoreStep.{CoreStep}
use Rattle.vf_tree.specs.declared.unit.CoreStep.TheVariants as core_steps
use Rattle.vf_tree.specs.declared.unit.Contract.{Contract as CoreContract}
use Rattle.vf_tree.specs.declared.unit.Core.{Core}
use Rattle.vf_syntax.specs.declared.item.Item.{Item}
use Rattle.vf_syntax.specs.declared.item.Item.TheVariants as items_of
use Rattle.vf_syntax.specs.declared.item.Signature.{Signature}
use Rattle.vf_syntax.specs.declared.item.Body.{Body}
use Rattle.vf_syntax.specs.declared.contract.Contract.{Contract}
use Rattle.vf_syntax.specs.declared.written.CType.{CType}
use Rattle.vf_syntax.specs.declared.written.Name.{Name}
use Rattle.vf_syntax.specs.declared.simple.Simple.{Simple}
use Rattle.vf_syntax.specs.declared.simple.Simple.TheVariants as simples
use Rattle.vf_syntax.specs.ExprTree.{ExprTree}
use Rattle.vf_syntax.specs.StmtTree.{StmtTree}
use Rattle.vf_syntax.specs.StmtTree as stmt
use Rattle.vf_first.specs.FirstForm.{◌>>=◌, Names, Stepped, Steps, local_of, named_local, is_int_form, is_becomes, given_sum, sum_of, declaration_of, assignment_of, return_of, statement_of, is_return, last_of, steps_of, is_main, contract_of, core_of, function_of, item_of, first_form}
use Rattle.vf_sound.specs.Formed.{IsFormed}

bind_some : {A B : Type 0} {r : Option A} {f : A → Option B} {y : B} → (r >>= f) ≡ Some y → (x : A) × (r ≡ Some x) × (f x ≡ Some y)
bind_some {r = Some x} e = (x, refl, e)
bind_some {r = None} e = absurd cc

-- a test that was passed
passed : {X : Type 0} (b : Bool) (x : Option X) (z : X) → cond b x None ≡ Some z → (b ≡ true) × (x ≡ Some z)
passed true x z e = (refl, e)
passed false x z e = absurd cc

-- the two ways of a choice
chose : {X : Type 0} (b : Bool) (x y z : X) → cond b x y ≡ z → ((b ≡ true) × (x ≡ z)) ⊎ ((b ≡ false) × (y ≡ z))
chose true x y z e = inl (refl, e)
chose false x y z e = inr (refl, e)

-- a step that another follows is followed by this one
abbrev pub Leads : ℕ → CoreStep → Type 0
Leads n step = (x next : ℕ) (e : Expression) → step ≡ core_steps.Set x e next → next ≡ n

leads_set : (n x : ℕ) (e : Expression) → Leads n (core_steps.Set x e n)
leads_set n x e = λ y next d h. cc

leads_return : (n : ℕ) (e : Expression) → Leads n (core_steps.Return e)
leads_return n e = λ y next d h. absurd cc

-- the step of a pair that is given
leads_given : (n : ℕ) (step : CoreStep) (names : Names) (x : Stepped) → Some (step, names) ≡ Some x → Leads n step → Leads n x.0
leads_given n step names x e h = let same : (step, names) ≡ x = cc in subst (λ (p : Stepped). Leads n p.0) same h

declaration_leads : (names : Names) (n : ℕ) (t : CType) (name : Name) (value : Option ExprTree) (x : Stepped) → declaration_of names n t name value ≡ Some x → Leads n x.0
declaration_leads names n t name value x e =
    let p = passed (is_int_form t.form && not (is_some (local_of names name.text))) (given_sum names value >>= λ v. Some (core_steps.Set (length names) v n, names ++ name.text ∷ [])) x e in
    let q = bind_some {r = given_sum names value} p.1 in
    leads_given n (core_steps.Set (length names) q.0 n) (names ++ name.text ∷ []) x q.2 (leads_set n (length names) q.0)

assignment_leads : (names : Names) (n : ℕ) (s : Simple) (x : Stepped) → assignment_of names n s ≡ Some x → Leads n x.0
assignment_leads names n (simples.Assignment left o p right) x e =
    let a = passed (is_becomes o) (named_local names left >>= λ k. sum_of names right >>= λ v. Some (core_steps.Set k v n, names)) x e in
    let c = bind_some {r = named_local names left} a.1 in
    let d = bind_some {r = sum_of names right} c.2 in
    leads_given n (core_steps.Set c.0 d.0 n) names x d.2 (leads_set n c.0 d.0)
assignment_leads names n (simples.StepAfter left o p) x e = absurd cc
assignment_leads names n (simples.StepBefore p o left) x e = absurd cc
assignment_leads names n (simples.Call f) x e = absurd cc

return_leads : (names : Names) (n : ℕ) (value : Option ExprTree) (x : Stepped) → return_of names value ≡ Some x → Leads n x.0
return_leads names n value x e =
    let q = bind_some {r = given_sum names value} e in
    leads_given n (core_steps.Return q.0) names x q.2 (leads_return n q.0)

statement_leads : (names : Names) (n : ℕ) (s : StmtTree) (x : Stepped) → statement_of names n s ≡ Some x → Leads n x.0
statement_leads names n (stmt.declaration p t name value q) x e = declaration_leads names n t name value x e
statement_leads names n (stmt.simple p s q) x e = assignment_leads names n s x e
statement_leads names n (stmt.return_ p value q) x e = return_leads names n value x e
statement_leads names n (stmt.if_ p a b) x e = absurd cc
statement_leads names n (stmt.if_else p a b c) x e = absurd cc
statement_leads names n (stmt.while_ p a b c) x e = absurd cc
statement_leads names n (stmt.for_ p a b c d f) x e = absurd cc
statement_leads names n (stmt.block p a b) x e = absurd cc
statement_leads names n (stmt.empty_ p) x e = absurd cc
statement_leads names n (stmt.ghost p a) x e = absurd cc

-- steps of which the first has the number k, each followed by the next
abbrev pub AreInOrderFrom : ℕ → List CoreStep → Type 0
AreInOrderFrom k steps = (i x next : ℕ) (e : Expression) → slice_get steps i ≡ Some (core_steps.Set x e next) → next ≡ suc (k + i)

last_in_order : (k : ℕ) (x : Stepped) (ss : List StmtTree) (y : Steps) → is_return x.0 ≡ true → last_of x ss ≡ Some y → AreInOrderFrom k y.0
last_in_order k x (s ∷ ss) y r e = absurd cc
last_in_order k (core_steps.Set l e n, names) [] y r h = absurd cc
last_in_order k (core_steps.Return v, names) [] y r h = let same : y.0 ≡ core_steps.Return v ∷ [] = ap (λ (p : Steps). p.0) (sym (given (core_steps.Return v ∷ [], _) y h)) in
    subst (λ (steps : List CoreStep). AreInOrderFrom k steps) (sym same) (one_return k v)
  where
    given : (p q : Steps) → Some p ≡ Some q → p ≡ q
    given p q h = cc

    one_return : (k : ℕ) (v : Expression) → AreInOrderFrom k (core_steps.Return v ∷ [])
    one_return k v zero x next e h = absurd cc
    one_return k v (suc i) x next e h = absurd cc

first_is_followed : (k : ℕ) (step : CoreStep) → Leads (k + 1) step → (x next : ℕ) (e : Expression) → Some step ≡ Some (core_steps.Set x e next) → next ≡ suc (k + 0)
first_is_followed k step leads x next e h = let same : step ≡ core_steps.Set x e next = cc in let n : next ≡ k + 1 = leads x next e same in omega arith

more_in_order : (k : ℕ) (step : CoreStep) (steps : List CoreStep) → Leads (k + 1) step → AreInOrderFrom (k + 1) steps → AreInOrderFrom k (step ∷ steps)
more_in_order k step steps leads rest zero x next e h = first_is_followed k step leads x next e h
more_in_order k step steps leads rest (suc i) x next e h = let n : next ≡ suc (k + 1 + i) = rest i x next e h in omega arith

-- a step and the steps behind it are those of a body
behind : (names : Names) (k : ℕ) (p : Stepped) (ss : List StmtTree) (y : Steps) (leads : Leads (k + 1) p.0) → ((z : Steps) → steps_of p.1 (k + 1) ss ≡ Some z → AreInOrderFrom (k + 1) z.0)
    → (steps_of p.1 (k + 1) ss >>= λ z. Some (p.0 ∷ z.0, z.1)) ≡ Some y → AreInOrderFrom k y.0
behind names k p ss y leads rest e =
    let q = bind_some {r = steps_of p.1 (k + 1) ss} e in
    subst (λ (z : Steps). AreInOrderFrom k z.0) (given (p.0 ∷ q.0.0, q.0.1) y q.2) (more_in_order k p.0 q.0.0 leads (rest q.0 q.1))
  where
    given : (p q : Steps) → Some p ≡ Some q → p ≡ q
    given p q h = cc

-- the two ways of a statement: it is the last, or others follow
either : (names : Names) (k : ℕ) (p : Stepped) (ss : List StmtTree) (y : Steps) → Leads (k + 1) p.0 → ((z : Steps) → steps_of p.1 (k + 1) ss ≡ Some z → AreInOrderFrom (k + 1) z.0)
    → ((is_return p.0 ≡ true) × (last_of p ss ≡ Some y)) ⊎ ((is_return p.0 ≡ false) × ((steps_of p.1 (k + 1) ss >>= λ z. Some (p.0 ∷ z.0, z.1)) ≡ Some y)) → AreInOrderFrom k y.0
either names k p ss y leads rest (inl h) = last_in_order k p ss y h.0 h.1
either names k p ss y leads rest (inr h) = behind names k p ss y leads rest h.1

steps_in_order : (names : Names) (k : ℕ) (ss : List StmtTree) (y : Steps) → steps_of names k ss ≡ Some y → AreInOrderFrom k y.0
steps_in_order names k [] y e = absurd cc
steps_in_order names k (s ∷ ss) y e =
    let p = bind_some {r = statement_of names (k + 1) s} e in
    either names k p.0 ss y (statement_leads names (k + 1) s p.0 p.1) (λ z h. steps_in_order p.0.1 (k + 1) ss z h)
    (chose (is_return p.0.0) (last_of p.0 ss) (steps_of p.0.1 (k + 1) ss >>= λ z. Some (p.0.0 ∷ z.0, z.1)) (Some y) p.2)

core_is_formed : (path : List ℕ) (name : Place) (c : CoreContract) (steps : List CoreStep) (locals : ℕ) (closing : Place) (core : Core) → Some (core_of path name c steps locals closing) ≡ Some core → AreInOrderFrom 0 steps → IsFormed core
core_is_formed path name c steps locals closing core e order =
    let same : core_of path name c steps locals closing ≡ core = cc in
    subst IsFormed same (record {
      main = _;
      is_main = refl;
      in_order = λ k x next d is. let found : next ≡ suc (0 + k) = order k x next d is in omega arith;
    })

function_is_formed : (path : List ℕ) (file : ℕ) (s : Signature) (c : Contract) (b : Body) (core : Core) → function_of path file s c b ≡ Some core → IsFormed core
function_is_formed path file s c b core e =
    let p = passed (is_main file s) (contract_of c >>= λ k. steps_of [] 0 b.statements >>= λ x. Some (core_of path s.name.place k x.0 x.1 b.last)) core e in
    let q = bind_some {r = contract_of c} p.1 in
    let r = bind_some {r = steps_of [] 0 b.statements} q.2 in
    core_is_formed path s.name.place q.0 r.0.0 r.0.1 b.last core r.2 (steps_in_order [] 0 b.statements r.0 r.1)

item_is_formed : (path : List ℕ) (file : ℕ) (i : Item) (core : Core) → item_of path file i ≡ Some core → IsFormed core
item_is_formed path file (items_of.Function s None (Some c) b) core e = function_is_formed path file s c b core e
item_is_formed path file (items_of.Function s None None b) core e = absurd cc
item_is_formed path file (items_of.Function s (Some k) c b) core e = absurd cc
item_is_formed path file (items_of.Opaque p n) core e = absurd cc
item_is_formed path file (items_of.Struct p n fs) core e = absurd cc
item_is_formed path file (items_of.FunctionType p s c) core e = absurd cc
item_is_formed path file (items_of.Prototype s k c) core e = absurd cc
item_is_formed path file (items_of.Ghost g) core e = absurd cc

pub first_is_formed : (path : List ℕ) (file : ℕ) (is : List Item) (core : Core) → first_form path file is ≡ Some core → IsFormed core
first_is_formed path file [] core e = absurd cc
first_is_formed path file (i ∷ []) core e = item_is_formed path file i core e
first_is_formed path file (i ∷ j ∷ is) core e = absurd cc
