-- What annotations of a body come to, from the answers for them.
use Rattle.std.proofs.Common.{◌≡◌, ℕ, List, [], ◌∷◌, ◌++◌, Option, Some, None, Result, Ok, Err, refl, sym, subst, ap, ◌∙◌}
use Rattle.vf_base.specs.declared.refusal.Refusal.{Refusal}
use Rattle.vf_base.specs.declared.refusal.RuleFault.{RuleFault}
use Rattle.vf_base.specs.declared.refusal.RuleFault.TheVariants as faults
use Rattle.vf_sorts.specs.Unknowns.{Known}
use Rattle.vf_declared.specs.Changes.{first_locals}
use Rattle.vf_declared.specs.declared.locals.Locals.{Locals}
use Rattle.vf_declared.specs.declared.scope.Scope.{Scope}
use Rattle.vf_syntax.specs.declared.contract.Invariant.{Invariant}
use Rattle.vf_syntax.specs.declared.simple.First.{First}
use Rattle.vf_syntax.specs.AssertionTree.{part_list}
use Rattle.vf_syntax.specs.GhostCommandTree.{GhostCommandTree}
use Rattle.vf_syntax.specs.StmtTree.{StmtTree, stmt_list}
use Rattle.vf_sorting.specs.declared.context.Context.{Context}
use Rattle.vf_sorting.specs.Answers.{Tells}
use Rattle.vf_binding.proofs.Steps.{failing, wanting}
use Rattle.vf_asserting.specs.Answers.{IsAssertion}
use Rattle.vf_asserting.specs.Gives.{Gives}
use Rattle.vf_asserting.specs.IsRefused.{AnyPartFails}
use Rattle.vf_asserting.specs.Leaving as asserting
use Rattle.vf_asserting.specs.Leaving.{left}
use Rattle.vf_commands.specs.declared.around.Around.{Around}
use Rattle.vf_commands.specs.Comes.{around_statements}
use Rattle.vf_commands.specs.IsRefused.{CommandFails}
use Rattle.vf_contracts.specs.Comes.{around_invariant}
use Rattle.vf_walk.specs.Walking.{Follows, Only, Then}
use Rattle.vf_walk.specs.Walking as walking
use Rattle.vf_walk.proofs.Steps.{end_here, ended, last}
use Rattle.vf_resolved.specs.AssertionTree.{PartTree}
use Rattle.vf_resolved.specs.CommandTree.{CommandTree}
use Rattle.vf_resolving.specs.Assertions.{PartsResolved, parts_resolved}
use Rattle.vf_resolving.specs.Standings.{Standing}
use Rattle.vf_resolved_contracts.specs.Reading.{around_with}
use Rattle.vf_resolved_contracts.specs.Resolves.{BodyKnows}
use Rattle.vf_resolved_contracts.specs.Resolves as contracts
use Rattle.vf_resolved_texts.specs.Resolves.{CommandResolves, IsCommandTold, anew}
use Rattle.vf_resolved_bodies.specs.declared.annotation.Annotation.{Annotation}
use Rattle.vf_resolved_bodies.specs.declared.annotation.Annotation.TheVariants as annotations
use Rattle.vf_resolved_bodies.specs.declared.bodies.BodyTold.{BodyTold}
use Rattle.vf_resolved_bodies.specs.Bodies.{IsBodyTold, beginning, first_numbers, told_of}
use Rattle.vf_resolved_bodies.specs.Bodies as bodies
use Rattle.vf_resolved_bodies.specs.Invariants.{InvariantResolves, IsInvariantKnown, IsInvariantTold}
use Rattle.vf_resolved_bodies.specs.Invariants as invariants
use Rattle.vf_resolved_bodies.specs.Statements.{TellsCommand, TellsInvariant, TellsLoop, TellsStmt, TellsStmts, TellsTurn, Told, count, first_declared, without_first}
use Rattle.vf_resolved_bodies.specs.Statements as statements
use Rattle.vf_resolved_bodies.specs.Telling.{Telling, telling, with_loop}

-- ---- invariants
pub invariant_fails : {x : Invariant} {c : Context} {s s₁ t : Scope} {k k₁ : Known} {res : Result Known RuleFault} (e : RuleFault) → c ≡ around_invariant → k ≡ [] → IsAssertion {A = Unit {0}} c s k (part_list x.assertion) (Err e) s₁ k₁ → res ≡ Err e → IsInvariantKnown x s res t
invariant_fails {x = x} {c = c} {s = s} e a w i q =
    record { answers = failing _ _ _ e (λ r h. subst (λ (c : Context). AnyPartFails c s [] (part_list x.assertion) r) a (subst (λ (k : Known). AnyPartFails c s k (part_list x.assertion) r) w h)) i.answers q }

pub invariant_known : {x : Invariant} {c : Context} {s s₁ : Scope} {k k₁ : Known} {m : ℕ} {l : Locals} → c ≡ around_invariant → m ≡ asserting.count s → k ≡ [] → IsAssertion {A = Unit {0}} c s k (part_list x.assertion) (Ok tt) s₁ k₁ → l ≡ first_locals s₁.locals m → IsInvariantKnown x s (Ok k₁) (record s₁ { locals = l })
invariant_known {x = x} {c = c} {s = s} {s₁ = s₁} {k = k} {k₁ = k₁} {m = m} {l = l} a n w i f =
    let is : record s₁ { locals = l } ≡ left (asserting.count s) s₁ = ap (λ (y : Locals). record s₁ { locals = y }) (f ∙ ap (first_locals s₁.locals) n) in
    let gives : Gives around_invariant s [] (part_list x.assertion) s₁ k₁ = subst (λ (c : Context). Gives c s [] (part_list x.assertion) s₁ k₁) a (subst (λ (k : Known). Gives c s k (part_list x.assertion) s₁ k₁) w i.answers.1) in
    subst (λ (t : Scope). IsInvariantKnown x s (Ok k₁) t) (sym is) (record { answers = contracts.BodyKnows.knows gives })

pub memory_of_invariant : {paths : List (List ℕ)} {x : Invariant} {s t : Standing} {res : Result (List PartTree) RuleFault} → res ≡ Err faults.Memory → IsInvariantTold paths x s res t
memory_of_invariant q = record { answers = wanting _ _ q }

pub invariant_stops : {paths : List (List ℕ)} {x : Invariant} {s t : Standing} {u : Scope} {res : Result (List PartTree) RuleFault} (e : RuleFault) → IsInvariantKnown x s.scope (Err e) u → res ≡ Err e → IsInvariantTold paths x s res t
invariant_stops e i q = record { answers = failing _ _ _ e (λ r h. h) i.answers q }

pub invariant_told : {paths : List (List ℕ)} {x : Invariant} {s t : Standing} {u : Scope} {k : Known} {y : List PartTree} {c : Context} → c ≡ around_invariant → IsInvariantKnown x s.scope (Ok k) u → parts_resolved (around_with c k paths) (anew u s) (part_list x.assertion) ≡ record { parts = y; standing = t } → IsInvariantTold paths x s (Ok y) t
invariant_told {paths = paths} {x = x} {s = s} {u = u} {k = k} a i f =
    let e = ap (λ (c : Context). parts_resolved (around_with c k paths) (anew u s) (part_list x.assertion)) (sym a) in
    record { answers = subst (λ (z : PartsResolved). InvariantResolves paths x s z) (e ∙ f) (invariants.InvariantResolves.resolves i.answers) }

-- ---- ghost commands
-- what is told and declared
abbrev state : Standing → List ℕ → List Annotation → Telling
state t ns xs = record { standing = t; reals = ns; told = xs }

-- one annotation more at the end
appended : (x : Annotation) (t : Standing) (s : Telling) (xs : List Annotation) → xs ≡ s.told ++ x ∷ [] → state t s.reals xs ≡ telling x t s
appended x t s xs h = ap (state t s.reals) h

pub command_memory : {P : Told → Type 0} {t : Telling} {res : Result (Unit {0}) RuleFault} → res ≡ Err faults.Memory → Follows P res t
command_memory {P = P} {t = t} q = subst (λ (r : Result (Unit {0}) RuleFault). Follows P r t) (sym q) walking.out_of_memory

fault : {P : Told → Type 0} (e : RuleFault) (t : Telling) → Tells (λ r. P (Err r)) e → Follows P (Err e) t
fault (faults.Refused r) t h = walking.to_refusal h
fault faults.Memory t h = walking.out_of_memory

-- refusals of one kind that are such of another
refusals : {P Q : Refusal → Type 0} (e : RuleFault) → ((r : Refusal) → P r → Q r) → Tells P e → Tells Q e
refusals (faults.Refused r) f h = f r h
refusals faults.Memory f h = tt

pub command_refused : {paths : List (List ℕ)} {x : GhostCommandTree} {w : Around} {s t : Telling} {u : Standing} {res : Result (Unit {0}) RuleFault} (e : RuleFault) → w ≡ around_statements → IsCommandTold w paths x s.standing (Err e) u → res ≡ Err e → Follows (TellsCommand paths x s) res t
command_refused {paths = paths} {x = x} {s = s} {t = t} e a i q =
    let h : (r : Refusal) → CommandFails _ s.standing.scope [] x r → TellsCommand paths x s (Err r) = λ r f. statements.TellsCommand.refused (subst (λ (w : Around). CommandFails w s.standing.scope [] x r) a f) in
    subst (λ (r : Result (Unit {0}) RuleFault). Follows (TellsCommand paths x s) r t) (sym q) (fault e t (refusals e h i.answers))

pub command_told : {paths : List (List ℕ)} {x : GhostCommandTree} {w : Around} {s : Telling} {u : Standing} {y : CommandTree} {xs : List Annotation} → w ≡ around_statements → IsCommandTold w paths x s.standing (Ok y) u → xs ≡ s.told ++ annotations.Command y ∷ [] → Follows (TellsCommand paths x s) (Ok tt) (state u s.reals xs)
command_told {paths = paths} {x = x} {s = s} {u = u} {y = y} a i h =
    let resolves = subst (λ (w : Around). CommandResolves w paths x s.standing (record { command = y; standing = u })) a i.answers in
    subst (λ (t : Telling). Follows (TellsCommand paths x s) (Ok tt) t) (sym (appended (annotations.Command y) u s _ h)) (walking.to_end (statements.TellsCommand.told resolves))

-- ---- heads of loops
pub invariant_refused : {paths : List (List ℕ)} {x : Invariant} {s t : Telling} {u : Standing} {res : Result (Unit {0}) RuleFault} (e : RuleFault) → IsInvariantTold paths x s.standing (Err e) u → res ≡ Err e → Follows (TellsInvariant paths x s) res t
invariant_refused {paths = paths} {x = x} {s = s} {t = t} e i q =
    subst (λ (r : Result (Unit {0}) RuleFault). Follows (TellsInvariant paths x s) r t) (sym q) (fault e t (refusals e (λ r f. statements.TellsInvariant.refused f) i.answers))

pub loop_told : {paths : List (List ℕ)} {x : Invariant} {s : Telling} {u : Standing} {y : List PartTree} {xs : List Annotation} → IsInvariantTold paths x s.standing (Ok y) u → xs ≡ s.told ++ annotations.Loop (Some y) ∷ [] → Follows (TellsInvariant paths x s) (Ok tt) (state u s.reals xs)
loop_told {paths = paths} {x = x} {s = s} {u = u} {y = y} i h =
    subst (λ (t : Telling). Follows (TellsInvariant paths x s) (Ok tt) t) (sym (appended (annotations.Loop (Some y)) u s _ h)) (walking.to_end (statements.TellsInvariant.told i.answers))

pub bare_told : (paths : List (List ℕ)) (i : Option Invariant) (s : Telling) (xs : List Annotation) → i ≡ None → xs ≡ s.told ++ annotations.Loop None ∷ [] → Follows (TellsLoop paths i s) (Ok tt) (state s.standing s.reals xs)
bare_told paths i s xs e h =
    let bare : Follows (TellsLoop paths None s) (Ok tt) (with_loop None s.standing s) = walking.to_end (record { is = refl }) in
    subst (λ (o : Option Invariant). Follows (TellsLoop paths o s) (Ok tt) (state s.standing s.reals xs)) (sym e) (subst (λ (t : Telling). Follows (TellsLoop paths None s) (Ok tt) t) (sym (appended (annotations.Loop None) s.standing s xs h)) bare)

pub with_invariant : {paths : List (List ℕ)} {i : Option Invariant} {x : Invariant} {s t : Telling} {res : Result (Unit {0}) RuleFault} → i ≡ Some x → Follows (TellsInvariant paths x s) res t → Follows (TellsLoop paths i s) res t
with_invariant {paths = paths} {s = s} {t = t} {res = res} e h = subst (λ (i : Option Invariant). Follows (TellsLoop paths i s) res t) (sym e) h

-- ---- statements
-- what is declared stays as it is
pub stays : {s t : Telling} → t ≡ s → Follows (Only (Ok s)) (Ok tt) t
stays {s = s} h = walking.to_end (record { is = ap Ok (sym h) })

-- a statement by its form
pub as_stmt : (paths : List (List ℕ)) (x y : StmtTree) (s t : Telling) (r : Result (Unit {0}) RuleFault) → x ≡ y → Follows (TellsStmt paths y s) r t → Follows (TellsStmt paths x s) r t
as_stmt paths x y s t r e h = subst (λ (z : StmtTree). Follows (TellsStmt paths z s) r t) (sym e) h

-- a `for`, where its first part is declared
pub for_stops : (paths : List (List ℕ)) (i : Option Invariant) (x : StmtTree) (f : Option First) (s u v t : Telling) (e : RuleFault) (r : Result (Unit {0}) RuleFault) → u ≡ first_declared f s → Follows (TellsTurn paths i (TellsStmt paths x) u) (Err e) v → r ≡ Err e → Follows (Then (TellsTurn paths i (TellsStmt paths x) (first_declared f s)) (λ t. Only (Ok (without_first f (count s) t)))) r t
for_stops paths i x f s u v t e r d h q = end_here {Q = λ w. Only (Ok (without_first f (count s) w))} {t = t} (subst (λ (w : Telling). Follows (TellsTurn paths i (TellsStmt paths x) w) (Err e) v) d h) q

pub for_goes : (paths : List (List ℕ)) (i : Option Invariant) (x : StmtTree) (f : Option First) (s u v t : Telling) (n : ℕ) → n ≡ count s → u ≡ first_declared f s → Follows (TellsTurn paths i (TellsStmt paths x) u) (Ok tt) v → t ≡ without_first f n v → Follows (Then (TellsTurn paths i (TellsStmt paths x) (first_declared f s)) (λ t. Only (Ok (without_first f (count s) t)))) (Ok tt) t
for_goes paths i x f s u v t n m d h g = last {f = λ w. Ok (without_first f (count s) w)} (subst (λ (w : Telling). Follows (TellsTurn paths i (TellsStmt paths x) w) (Ok tt) v) d h) (ap Ok (sym (g ∙ ap (λ (k : ℕ). without_first f k v) m)))

-- ---- whole bodies
pub body_memory : {paths : List (List ℕ)} {n : ℕ} {xs : List StmtTree} {s : Standing} {res : Result BodyTold RuleFault} → res ≡ Err faults.Memory → IsBodyTold paths n xs s res
body_memory q = record { answers = wanting _ _ q }

refusing : {P : Told → Type 0} {t : Telling} (e : RuleFault) → Follows P (Err e) t → Tells (λ r. P (Err r)) e
refusing (faults.Refused r) (walking.to_refusal h) = h
refusing faults.Memory h = tt

-- where a body begins
begins : (n : ℕ) {s : Standing} {ns : List ℕ} {ts : List Annotation} → ns ≡ first_numbers n → ts ≡ [] → state s ns ts ≡ beginning n s
begins n {s = s} {ts = ts} a b = ap (λ (ms : List ℕ). state s ms ts) a ∙ ap (λ (us : List Annotation). state s (first_numbers n) us) b

pub body_stops : {paths : List (List ℕ)} {n : ℕ} {xs : List StmtTree} {s : Standing} {ns : List ℕ} {ts : List Annotation} {t : Telling} {res : Result BodyTold RuleFault} (e : RuleFault) → ns ≡ first_numbers n → ts ≡ [] → Follows (TellsStmts paths (stmt_list xs) (record { standing = s; reals = ns; told = ts })) (Err e) t → res ≡ Err e → IsBodyTold paths n xs s res
body_stops {paths = paths} {n = n} {xs = xs} {s = s} {t = t} e a b h q =
    let k = subst (λ (b : Telling). Follows (TellsStmts paths (stmt_list xs) b) (Err e) t) (begins n a b) h in
    record { answers = failing _ _ _ e (λ r f. f) (refusing {t = t} e k) q }

pub body_tells : {paths : List (List ℕ)} {n : ℕ} {xs : List StmtTree} {s : Standing} {ns : List ℕ} {ts : List Annotation} {t : Telling} → ns ≡ first_numbers n → ts ≡ [] → Follows (TellsStmts paths (stmt_list xs) (record { standing = s; reals = ns; told = ts })) (Ok tt) t → IsBodyTold paths n xs s (Ok (told_of n t))
body_tells {paths = paths} {n = n} {xs = xs} {s = s} {t = t} a b h =
    record { answers = bodies.BodyTells.tells t (subst (λ (b : Telling). TellsStmts paths (stmt_list xs) b (Ok t)) (begins n a b) (ended h)) }
