-- Answers for ghost commands, blocks and cases from the answers for what stands in them.
use Rattle.std.proofs.Common.{◌≡◌, ℕ, ◌+◌, ◌≤◌, ◌<◌, ◌^◌, List, length, drop, map, Option, Some, slice_get, Result, Ok, Err, sym, subst, arith}
use Rattle.vf_base.specs.declared.place.Place.{Place}
use Rattle.vf_base.specs.declared.refusal.RuleFault.{RuleFault}
use Rattle.vf_base.specs.declared.refusal.RuleFault.TheVariants as faults
use Rattle.vf_sorts.specs.Sorts.{Sort}
use Rattle.vf_sorts.specs.Unknowns.{Known, instance}
use Rattle.vf_declared.specs.declared.locals.Locals.{Locals}
use Rattle.vf_declared.specs.declared.scope.Scope.{Scope}
use Rattle.vf_declared.specs.Changes.{first_locals}
use Rattle.vf_syntax.specs.declared.pattern.CasePattern.{CasePattern}
use Rattle.vf_syntax.specs.declared.pattern.Pattern.{Pattern}
use Rattle.vf_syntax.specs.declared.pattern.Share.{Share}
use Rattle.vf_syntax.specs.declared.written.Name.{Name}
use Rattle.vf_syntax.specs.GhostExprTree.{GhostExprTree, ghost_expr_list}
use Rattle.vf_syntax.specs.AssertionTree.{PartTree, part_list}
use Rattle.vf_syntax.specs.SortTree.{SortTree}
use Rattle.vf_syntax.specs.GhostCommandTree.{GhostCommandTree, GhostCommandTrees, no_ghost_command, more_ghost_command, ghost_command_list, CommandCaseTree, CommandCaseTrees, no_command_case, more_command_case, command_case_list}
use Rattle.vf_syntax.specs.GhostCommandTree as tree
use Rattle.vf_sorting.specs.declared.context.Context.{Context}
use Rattle.vf_sorting.specs.Answers.{IsChecked}
use Rattle.vf_sorting.specs.IsRefused.{Fails}
use Rattle.vf_sorting.specs.Kinds.{bool_sort}
use Rattle.vf_sorting.specs.Operators.{place_of}
use Rattle.vf_sorting.proofs.Lists.{left_at, left_end}
use Rattle.vf_sorting.proofs.Steps.{told}
use Rattle.vf_binding.specs.declared.bound.Bound.{Bound}
use Rattle.vf_binding.specs.Bound.{with_names}
use Rattle.vf_binding.proofs.Steps.{failing, wanting}
use Rattle.vf_asserting.specs.declared.switches.Switched.{Switched}
use Rattle.vf_asserting.specs.Answers.{IsAssertion, IsCaseBound}
use Rattle.vf_asserting.specs.Cases.{NamesFail, case_arguments, names_or_none}
use Rattle.vf_asserting.specs.Leaving.{count}
use Rattle.vf_asserting.proofs.Wholes.{case_named, gone, sorts_are, tested}
use Rattle.vf_commands.specs.declared.around.Around.{Around}
use Rattle.vf_commands.specs.Locals.{with_ghost}
use Rattle.vf_commands.specs.Gives as gives
use Rattle.vf_commands.specs.IsRefused as refuses
use Rattle.vf_commands.specs.Answers.{AreCases, AreCommands, IsAssigned, IsBlock, IsCalled, IsCase, IsClosed, IsCommand, IsDeclared, IsOpened, IsSwitch}

-- ---- commands without commands

pub command_memory : {w : Around} {s s' : Scope} {k k' : Known} {x : GhostCommandTree} {res : Result (Unit {0}) RuleFault} → res ≡ Err faults.Memory → IsCommand w s k x res s' k'
command_memory q = record { answers = wanting _ _ q }

pub open_fails : {w : Around} {s s' : Scope} {k k' : Known} {p : Place} {h : Option Share} {n : Name} {xs : List Pattern} {ys : Option (List Pattern)} {res : Result (Unit {0}) RuleFault} (e : RuleFault) → IsOpened s w.context k h n xs ys (Err e) k' → res ≡ Err e → IsCommand w s k (tree.open_ p h n xs ys) res s' k'
open_fails e i q = record { answers = failing _ _ _ e (λ r f. refuses.CommandFails.open_ f) i.answers q }

pub open_gives : {w : Around} {s s' : Scope} {k k' : Known} {b : Bound} {p : Place} {h : Option Share} {n : Name} {xs : List Pattern} {ys : Option (List Pattern)} → IsOpened s w.context k h n xs ys (Ok b) k' → s' ≡ with_names s b → IsCommand {A = Unit {0}} w s k (tree.open_ p h n xs ys) (Ok tt) s' k'
open_gives {w = w} {s = s} {k = k} {k' = k'} {p = p} {h = h} {n = n} {xs = xs} {ys = ys} i q = record { answers = (i.answers.0, subst (λ (u : Scope). gives.CommandGives w s k (tree.open_ p h n xs ys) u k') (sym q) (gives.CommandGives.open_ i.answers.1)) }

pub close_fails : {w : Around} {s s' : Scope} {k k' : Known} {p : Place} {h : Option Share} {n : Name} {xs : List Pattern} {ys : Option (List Pattern)} {res : Result (Unit {0}) RuleFault} (e : RuleFault) → IsClosed {A = Unit {0}} s w.context k h n xs ys (Err e) k' → res ≡ Err e → IsCommand w s k (tree.close_ p h n xs ys) res s' k'
close_fails e i q = record { answers = failing _ _ _ e (λ r f. refuses.CommandFails.close_ f) i.answers q }

pub close_gives : {w : Around} {s : Scope} {k k' : Known} {p : Place} {h : Option Share} {n : Name} {xs : List Pattern} {ys : Option (List Pattern)} → IsClosed {A = Unit {0}} s w.context k h n xs ys (Ok tt) k' → IsCommand {A = Unit {0}} w s k (tree.close_ p h n xs ys) (Ok tt) s k'
close_gives i = record { answers = (i.answers.0, gives.CommandGives.close_ i.answers.1) }

pub leak_fails : {w : Around} {s s' : Scope} {k k' : Known} {p : Place} {a : List PartTree} {res : Result (Unit {0}) RuleFault} (e : RuleFault) → IsAssertion {A = Unit {0}} w.context s k (part_list a) (Err e) s' k' → res ≡ Err e → IsCommand w s k (tree.leak_ p a) res s' k'
leak_fails e i q = record { answers = failing _ _ _ e (λ r f. refuses.CommandFails.leak_ f) i.answers q }

pub leak_gives : {w : Around} {s s' : Scope} {k k' : Known} {p : Place} {a : List PartTree} → IsAssertion {A = Unit {0}} w.context s k (part_list a) (Ok tt) s' k' → IsCommand {A = Unit {0}} w s k (tree.leak_ p a) (Ok tt) s' k'
leak_gives i = record { answers = (i.answers.0, gives.CommandGives.leak_ i.answers.1) }

pub assert_fails : {w : Around} {s s' : Scope} {k k' : Known} {p : Place} {a : List PartTree} {res : Result (Unit {0}) RuleFault} (e : RuleFault) → IsAssertion {A = Unit {0}} w.context s k (part_list a) (Err e) s' k' → res ≡ Err e → IsCommand w s k (tree.assert_ p a) res s' k'
assert_fails e i q = record { answers = failing _ _ _ e (λ r f. refuses.CommandFails.assert_ f) i.answers q }

pub assert_gives : {w : Around} {s s' : Scope} {k k' : Known} {p : Place} {a : List PartTree} → IsAssertion {A = Unit {0}} w.context s k (part_list a) (Ok tt) s' k' → IsCommand {A = Unit {0}} w s k (tree.assert_ p a) (Ok tt) s' k'
assert_gives i = record { answers = (i.answers.0, gives.CommandGives.assert_ i.answers.1) }

pub declaration_fails : {w : Around} {s s' : Scope} {k k' : Known} {p : Place} {u : SortTree} {n : Name} {v : GhostExprTree} {res : Result (Unit {0}) RuleFault} (e : RuleFault) → IsDeclared s w k u n v (Err e) k' → res ≡ Err e → IsCommand w s k (tree.declaration p u n v) res s' k'
declaration_fails e i q = record { answers = failing _ _ _ e (λ r f. refuses.CommandFails.declaration f) i.answers q }

pub declaration_gives : {w : Around} {s s' : Scope} {k k' : Known} {p : Place} {u : SortTree} {n : Name} {v : GhostExprTree} {t : Sort} → IsDeclared s w k u n v (Ok t) k' → s' ≡ with_ghost s n.text t → IsCommand {A = Unit {0}} w s k (tree.declaration p u n v) (Ok tt) s' k'
declaration_gives {w = w} {s = s} {k = k} {k' = k'} {p = p} {u = u} {n = n} {v = v} i q = record { answers = (i.answers.0, subst (λ (z : Scope). gives.CommandGives w s k (tree.declaration p u n v) z k') (sym q) (gives.CommandGives.declaration i.answers.1)) }

pub assignment_fails : {w : Around} {s s' : Scope} {k k' : Known} {p : Place} {x : List ℕ} {v : GhostExprTree} {res : Result (Unit {0}) RuleFault} (e : RuleFault) → IsAssigned {A = Unit {0}} s w k p x v (Err e) k' → res ≡ Err e → IsCommand w s k (tree.assignment p x v) res s' k'
assignment_fails e i q = record { answers = failing _ _ _ e (λ r f. refuses.CommandFails.assignment f) i.answers q }

pub assignment_gives : {w : Around} {s : Scope} {k k' : Known} {p : Place} {x : List ℕ} {v : GhostExprTree} → IsAssigned {A = Unit {0}} s w k p x v (Ok tt) k' → IsCommand {A = Unit {0}} w s k (tree.assignment p x v) (Ok tt) s k'
assignment_gives i = record { answers = (i.answers.0, gives.CommandGives.assignment i.answers.1) }

pub call_fails : {w : Around} {s s' : Scope} {k k' : Known} {p : Place} {f : List ℕ} {xs : List GhostExprTree} {res : Result (Unit {0}) RuleFault} (e : RuleFault) → IsCalled {A = Unit {0}} s w.context k p f (ghost_expr_list xs) (Err e) k' → res ≡ Err e → IsCommand w s k (tree.call_ p f xs) res s' k'
call_fails e i q = record { answers = failing _ _ _ e (λ r f. refuses.CommandFails.call_ f) i.answers q }

pub call_gives : {w : Around} {s : Scope} {k k' : Known} {p : Place} {f : List ℕ} {xs : List GhostExprTree} → IsCalled {A = Unit {0}} s w.context k p f (ghost_expr_list xs) (Ok tt) k' → IsCommand {A = Unit {0}} w s k (tree.call_ p f xs) (Ok tt) s k'
call_gives i = record { answers = (i.answers.0, gives.CommandGives.call_ i.answers.1) }

-- ---- commands with commands

pub enclosed_fails : {w : Around} {s s' : Scope} {k k' : Known} {p : Place} {xs : GhostCommandTrees} {res : Result (Unit {0}) RuleFault} (e : RuleFault) → IsBlock {A = Unit {0}} w s k xs (Err e) s' k' → res ≡ Err e → IsCommand w s k (tree.block p xs) res s' k'
enclosed_fails e i q = record { answers = failing _ _ _ e (λ r f. refuses.CommandFails.block f) i.answers q }

pub enclosed_gives : {w : Around} {s s' : Scope} {k k' : Known} {p : Place} {xs : GhostCommandTrees} → IsBlock {A = Unit {0}} w s k xs (Ok tt) s' k' → IsCommand {A = Unit {0}} w s k (tree.block p xs) (Ok tt) s' k'
enclosed_gives i = record { answers = (i.answers.0, gives.CommandGives.block i.answers.1) }

pub block_fails : {w : Around} {s s' : Scope} {k k' : Known} {xs : GhostCommandTrees} {res : Result (Unit {0}) RuleFault} (e : RuleFault) → AreCommands {A = Unit {0}} w s k xs (Err e) s' k' → res ≡ Err e → IsBlock w s k xs res s' k'
block_fails e i q = record { answers = failing _ _ _ e (λ r f. f) i.answers q }

pub block_gives : {w : Around} {s s₁ : Scope} {k k' : Known} {m : ℕ} {l : Locals} {xs : GhostCommandTrees} → AreCommands {A = Unit {0}} w s k xs (Ok tt) s₁ k' → m ≡ count s → l ≡ first_locals s₁.locals m → IsBlock {A = Unit {0}} w s k xs (Ok tt) (record s₁ { locals = l }) k'
block_gives {w = w} {s = s} {s₁ = s₁} {k = k} {k' = k'} {xs = xs} i m l = record { answers = (i.answers.0, subst (λ (u : Scope). gives.BlockGives w s k xs u k') (sym (gone s s₁ m l)) (gives.a_block i.answers.1)) }

pub if_test_fails : {w : Around} {s s' : Scope} {k k' : Known} {p : Place} {d : GhostExprTree} {xs : GhostCommandTrees} {v : Sort} {res : Result (Unit {0}) RuleFault} (e : RuleFault) → v ≡ bool_sort → IsChecked {A = Unit {0}} s w.context k v (place_of d) d (Err e) k' → res ≡ Err e → IsCommand w s k (tree.if_ p d xs) res s' k'
if_test_fails {w = w} {s = s} {k = k} {d = d} e v i q = record { answers = failing _ _ _ e (λ r f. refuses.CommandFails.if_test (subst (λ (t : Sort). Fails s w.context k t (place_of d) d r) v f)) i.answers q }

pub if_block_fails : {w : Around} {s s' : Scope} {k k₁ k' : Known} {p : Place} {d : GhostExprTree} {xs : GhostCommandTrees} {v : Sort} {res : Result (Unit {0}) RuleFault} (e : RuleFault) → v ≡ bool_sort → IsChecked {A = Unit {0}} s w.context k v (place_of d) d (Ok tt) k₁ → IsBlock {A = Unit {0}} w s k₁ xs (Err e) s' k' → res ≡ Err e → IsCommand w s k (tree.if_ p d xs) res s' k'
if_block_fails e v i j q = record { answers = failing _ _ _ e (λ r f. refuses.CommandFails.if_block (tested v i) f) j.answers q }

pub if_gives : {w : Around} {s s' : Scope} {k k₁ k' : Known} {p : Place} {d : GhostExprTree} {xs : GhostCommandTrees} {v : Sort} → v ≡ bool_sort → IsChecked {A = Unit {0}} s w.context k v (place_of d) d (Ok tt) k₁ → IsBlock {A = Unit {0}} w s k₁ xs (Ok tt) s' k' → IsCommand {A = Unit {0}} w s k (tree.if_ p d xs) (Ok tt) s' k'
if_gives v i j = let x = i.answers.0 in let y = j.answers.0 in record { answers = (omega (arith, x, y), gives.CommandGives.if_ (tested v i) j.answers.1) }

pub test_fails : {w : Around} {s s' : Scope} {k k' : Known} {p : Place} {d : GhostExprTree} {xs ys : GhostCommandTrees} {v : Sort} {res : Result (Unit {0}) RuleFault} (e : RuleFault) → v ≡ bool_sort → IsChecked {A = Unit {0}} s w.context k v (place_of d) d (Err e) k' → res ≡ Err e → IsCommand w s k (tree.if_else p d xs ys) res s' k'
test_fails {w = w} {s = s} {k = k} {d = d} e v i q = record { answers = failing _ _ _ e (λ r f. refuses.CommandFails.test (subst (λ (t : Sort). Fails s w.context k t (place_of d) d r) v f)) i.answers q }

pub first_fails : {w : Around} {s s' : Scope} {k k₁ k' : Known} {p : Place} {d : GhostExprTree} {xs ys : GhostCommandTrees} {v : Sort} {res : Result (Unit {0}) RuleFault} (e : RuleFault) → v ≡ bool_sort → IsChecked {A = Unit {0}} s w.context k v (place_of d) d (Ok tt) k₁ → IsBlock {A = Unit {0}} w s k₁ xs (Err e) s' k' → res ≡ Err e → IsCommand w s k (tree.if_else p d xs ys) res s' k'
first_fails e v i j q = record { answers = failing _ _ _ e (λ r f. refuses.CommandFails.first_block (tested v i) f) j.answers q }

pub second_fails : {w : Around} {s s₁ s' : Scope} {k k₁ k₂ k' : Known} {p : Place} {d : GhostExprTree} {xs ys : GhostCommandTrees} {v : Sort} {res : Result (Unit {0}) RuleFault} (e : RuleFault) → v ≡ bool_sort → IsChecked {A = Unit {0}} s w.context k v (place_of d) d (Ok tt) k₁ → IsBlock {A = Unit {0}} w s k₁ xs (Ok tt) s₁ k₂ → IsBlock {A = Unit {0}} w s₁ k₂ ys (Err e) s' k' → res ≡ Err e → IsCommand w s k (tree.if_else p d xs ys) res s' k'
second_fails e v i j a q = record { answers = failing _ _ _ e (λ r f. refuses.CommandFails.second_block (tested v i) j.answers.1 f) a.answers q }

pub choice_gives : {w : Around} {s s₁ s' : Scope} {k k₁ k₂ k' : Known} {p : Place} {d : GhostExprTree} {xs ys : GhostCommandTrees} {v : Sort} → v ≡ bool_sort → IsChecked {A = Unit {0}} s w.context k v (place_of d) d (Ok tt) k₁ → IsBlock {A = Unit {0}} w s k₁ xs (Ok tt) s₁ k₂ → IsBlock {A = Unit {0}} w s₁ k₂ ys (Ok tt) s' k' → IsCommand {A = Unit {0}} w s k (tree.if_else p d xs ys) (Ok tt) s' k'
choice_gives v i j a =
    let x = i.answers.0 in let y = j.answers.0 in let z = a.answers.0 in
    record { answers = (omega (arith, x, y, z), gives.CommandGives.if_else (tested v i) j.answers.1 a.answers.1) }

-- ---- switches

pub switch_fits : {c : Context} {s : Scope} {k k' : Known} {d : GhostExprTree} {cs : CommandCaseTrees} (o : Switched) → IsSwitch s c k d cs (Ok o) k' → o.first + o.count < 2 ^ 64
switch_fits o i = i.answers.0

pub switch_refused : {w : Around} {s s' : Scope} {k k' : Known} {p : Place} {d : GhostExprTree} {cs : CommandCaseTrees} {res : Result (Unit {0}) RuleFault} (e : RuleFault) → IsSwitch s w.context k d cs (Err e) k' → res ≡ Err e → IsCommand w s k (tree.switch_ p d cs) res s' k'
switch_refused e i q = record { answers = failing _ _ _ e (λ r f. refuses.CommandFails.switch_ f) i.answers q }

pub cases_refused : {w : Around} {s s' : Scope} {k k₁ k' : Known} {p : Place} {d : GhostExprTree} {cs : CommandCaseTrees} {o : Switched} {res : Result (Unit {0}) RuleFault} (e : RuleFault) → IsSwitch s w.context k d cs (Ok o) k₁ → AreCases {A = Unit {0}} w s o.first o.count k₁ cs (Err e) s' k' → res ≡ Err e → IsCommand w s k (tree.switch_ p d cs) res s' k'
cases_refused e i j q = record { answers = failing _ _ _ e (λ r f. refuses.CommandFails.a_case i.answers.1.1 f) j.answers q }

pub switch_gives : {w : Around} {s s' : Scope} {k k₁ k' : Known} {p : Place} {d : GhostExprTree} {cs : CommandCaseTrees} {o : Switched} → IsSwitch s w.context k d cs (Ok o) k₁ → AreCases {A = Unit {0}} w s o.first o.count k₁ cs (Ok tt) s' k' → IsCommand {A = Unit {0}} w s k (tree.switch_ p d cs) (Ok tt) s' k'
switch_gives i j = let x = i.answers.1.0 in let y = j.answers.0 in record { answers = (omega (arith, x, y), gives.CommandGives.switch_ i.answers.1.1 j.answers.1) }

-- ---- cases

pub case_memory : {w : Around} {s s' : Scope} {first n : ℕ} {k k' : Known} {x : CommandCaseTree} {res : Result (Unit {0}) RuleFault} → res ≡ Err faults.Memory → IsCase w s first n k x res s' k'
case_memory q = record { answers = wanting _ _ q }

pub names_refused : {w : Around} {s s' : Scope} {first n : ℕ} {k k' : Known} {us ts : List Sort} {g : Place} {p : Place} {x : CasePattern} {xs : GhostCommandTrees} {res : Result (Unit {0}) RuleFault} (e : RuleFault) → us ≡ case_arguments s x → ts ≡ map (instance first n) us → g ≡ x.constructor.place → IsCaseBound s (names_or_none x.names) ts g (Err e) → res ≡ Err e → IsCase w s first n k (tree.command_case p x xs) res s' k'
names_refused {s = s} {first = first} {n = n} {ts = ts} {x = x} e a t g i q = record { answers = failing _ _ _ e (λ r f. refuses.CaseFails.name_ (subst (λ (us : List Sort). NamesFail s (names_or_none x.names) us x.constructor.place r) (sorts_are s first n x a t) (subst (λ (p : Place). NamesFail s (names_or_none x.names) ts p r) g f))) i.answers q }

pub body_refused : {w : Around} {s s₁ s' : Scope} {first n : ℕ} {k k' : Known} {us ts : List Sort} {g : Place} {b : Bound} {p : Place} {x : CasePattern} {xs : GhostCommandTrees} {res : Result (Unit {0}) RuleFault} (e : RuleFault) → us ≡ case_arguments s x → ts ≡ map (instance first n) us → IsCaseBound s (names_or_none x.names) ts g (Ok b) → s₁ ≡ with_names s b → AreCommands {A = Unit {0}} w s₁ k xs (Err e) s' k' → res ≡ Err e → IsCase w s first n k (tree.command_case p x xs) res s' k'
body_refused {w = w} {s = s} {first = first} {n = n} {k = k} {x = x} {xs = xs} e a t i v j q = record { answers = failing _ _ _ e (λ r f. refuses.CaseFails.body (case_named s first n x a t i) (subst (λ (u : Scope). refuses.AnyCommandFails w u k xs r) v f)) j.answers q }

pub case_gives : {w : Around} {s s₁ s₂ : Scope} {first n : ℕ} {k k' : Known} {us ts : List Sort} {g : Place} {b : Bound} {m : ℕ} {l : Locals} {p : Place} {x : CasePattern} {xs : GhostCommandTrees} → us ≡ case_arguments s x → ts ≡ map (instance first n) us → IsCaseBound s (names_or_none x.names) ts g (Ok b) → s₁ ≡ with_names s b → AreCommands {A = Unit {0}} w s₁ k xs (Ok tt) s₂ k' → m ≡ count s → l ≡ first_locals s₂.locals m → IsCase {A = Unit {0}} w s first n k (tree.command_case p x xs) (Ok tt) (record s₂ { locals = l }) k'
case_gives {w = w} {s = s} {s₂ = s₂} {first = first} {n = n} {k = k} {k' = k'} {p = p} {x = x} {xs = xs} a t i v j m l =
    record { answers = (j.answers.0, subst (λ (u : Scope). gives.CaseGives w s first n k (tree.command_case p x xs) u k') (sym (gone s s₂ m l)) (gives.CaseGives.a_case (case_named s first n x a t i) (subst (λ (u : Scope). gives.CommandsGive w u k xs s₂ k') v j.answers.1))) }

-- ---- commands one after the other

pub commands_end : {w : Around} {s : Scope} {k : Known} (xs : List GhostCommandTree) (i : ℕ) → length xs ≤ i → AreCommands {A = Unit {0}} w s k (ghost_command_list (drop i xs)) (Ok tt) s k
commands_end {w = w} {s = s} {k = k} xs i l = subst (λ (ys : List GhostCommandTree). AreCommands {A = Unit {0}} w s k (ghost_command_list ys) (Ok tt) s k) (sym (left_end xs i l)) (record { answers = (omega arith, gives.no_commands) })

pub commands_halt : {w : Around} {s s' : Scope} {k k' : Known} {x : GhostCommandTree} {res : Result (Unit {0}) RuleFault} (xs : List GhostCommandTree) (i : ℕ) (e : RuleFault) → slice_get xs i ≡ Some x → IsCommand {A = Unit {0}} w s k x (Err e) s' k' → res ≡ Err e → AreCommands w s k (ghost_command_list (drop i xs)) res s' k'
commands_halt {w = w} {s = s} {s' = s'} {k = k} {k' = k'} {x = x} {res = res} xs i e h a q = subst (λ (ys : List GhostCommandTree). AreCommands w s k (ghost_command_list ys) res s' k') (sym (left_at xs i x h)) (record { answers = failing _ _ _ e (λ r f. refuses.this_command f) a.answers q })

commands_on : {w : Around} {s s₁ : Scope} {k k₁ : Known} {x : GhostCommandTree} {xs : GhostCommandTrees} → IsCommand {A = Unit {0}} w s k x (Ok tt) s₁ k₁ → (r : Result (Unit {0}) RuleFault) (s' : Scope) (k' : Known) → AreCommands w s₁ k₁ xs r s' k' → AreCommands w s k (more_ghost_command x xs) r s' k'
commands_on i (Ok v) s' k' j = let l = i.answers.0 in let m = j.answers.0 in record { answers = (omega (arith, l, m), gives.more_commands i.answers.1 j.answers.1) }
commands_on i (Err e) s' k' j = record { answers = told _ _ e (λ r h. refuses.later_command i.answers.1 h) j.answers }

pub commands_next : {w : Around} {s s₁ s' : Scope} {k k₁ k' : Known} {x : GhostCommandTree} {r : Result (Unit {0}) RuleFault} (xs : List GhostCommandTree) (i : ℕ) → slice_get xs i ≡ Some x → IsCommand {A = Unit {0}} w s k x (Ok tt) s₁ k₁ → AreCommands w s₁ k₁ (ghost_command_list (drop (i + 1) xs)) r s' k' → AreCommands w s k (ghost_command_list (drop i xs)) r s' k'
commands_next {w = w} {s = s} {s' = s'} {k = k} {k' = k'} {x = x} {r = r} xs i h a j = subst (λ (ys : List GhostCommandTree). AreCommands w s k (ghost_command_list ys) r s' k') (sym (left_at xs i x h)) (commands_on a r s' k' j)

-- ---- cases one after the other

pub cases_end : {w : Around} {s : Scope} {first n : ℕ} {k : Known} (xs : List CommandCaseTree) (i : ℕ) → length xs ≤ i → AreCases {A = Unit {0}} w s first n k (command_case_list (drop i xs)) (Ok tt) s k
cases_end {w = w} {s = s} {first = first} {n = n} {k = k} xs i l = subst (λ (ys : List CommandCaseTree). AreCases {A = Unit {0}} w s first n k (command_case_list ys) (Ok tt) s k) (sym (left_end xs i l)) (record { answers = (omega arith, gives.no_cases) })

pub cases_halt : {w : Around} {s s' : Scope} {first n : ℕ} {k k' : Known} {x : CommandCaseTree} {res : Result (Unit {0}) RuleFault} (xs : List CommandCaseTree) (i : ℕ) (e : RuleFault) → slice_get xs i ≡ Some x → IsCase {A = Unit {0}} w s first n k x (Err e) s' k' → res ≡ Err e → AreCases w s first n k (command_case_list (drop i xs)) res s' k'
cases_halt {w = w} {s = s} {s' = s'} {first = first} {n = n} {k = k} {k' = k'} {x = x} {res = res} xs i e h a q = subst (λ (ys : List CommandCaseTree). AreCases w s first n k (command_case_list ys) res s' k') (sym (left_at xs i x h)) (record { answers = failing _ _ _ e (λ r f. refuses.this_case f) a.answers q })

cases_on : {w : Around} {s s₁ : Scope} {first n : ℕ} {k k₁ : Known} {x : CommandCaseTree} {xs : CommandCaseTrees} → IsCase {A = Unit {0}} w s first n k x (Ok tt) s₁ k₁ → (r : Result (Unit {0}) RuleFault) (s' : Scope) (k' : Known) → AreCases w s₁ first n k₁ xs r s' k' → AreCases w s first n k (more_command_case x xs) r s' k'
cases_on i (Ok v) s' k' j = let l = i.answers.0 in let m = j.answers.0 in record { answers = (omega (arith, l, m), gives.more_cases i.answers.1 j.answers.1) }
cases_on i (Err e) s' k' j = record { answers = told _ _ e (λ r h. refuses.later_case i.answers.1 h) j.answers }

pub cases_next : {w : Around} {s s₁ s' : Scope} {first n : ℕ} {k k₁ k' : Known} {x : CommandCaseTree} {r : Result (Unit {0}) RuleFault} (xs : List CommandCaseTree) (i : ℕ) → slice_get xs i ≡ Some x → IsCase {A = Unit {0}} w s first n k x (Ok tt) s₁ k₁ → AreCases w s₁ first n k₁ (command_case_list (drop (i + 1) xs)) r s' k' → AreCases w s first n k (command_case_list (drop i xs)) r s' k'
cases_next {w = w} {s = s} {s' = s'} {first = first} {n = n} {k = k} {k' = k'} {x = x} {r = r} xs i h a j = subst (λ (ys : List CommandCaseTree). AreCases w s first n k (command_case_list ys) r s' k') (sym (left_at xs i x h)) (cases_on a r s' k' j)
