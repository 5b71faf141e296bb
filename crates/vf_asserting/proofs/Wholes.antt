-- Answers for parts, cases and assertions from the answers for what stands in them.
use Rattle.std.proofs.Common.{◌≡◌, ℕ, ◌+◌, ◌≤◌, ◌<◌, ◌^◌, List, length, drop, map, Option, Some, slice_get, Result, Ok, Err, sym, ◌∙◌, ap, subst, arith}
use Rattle.vf_base.specs.declared.place.Place.{Place}
use Rattle.vf_base.specs.declared.refusal.RuleFault.{RuleFault}
use Rattle.vf_base.specs.declared.refusal.RuleFault.TheVariants as faults
use Rattle.vf_sorts.specs.Sorts.{Sort}
use Rattle.vf_sorts.specs.Unknowns.{Known, instance}
use Rattle.vf_declared.specs.declared.locals.Locals.{Locals}
use Rattle.vf_declared.specs.declared.scope.Scope.{Scope}
use Rattle.vf_declared.specs.Changes.{first_locals}
use Rattle.vf_syntax.specs.declared.pattern.CasePattern.{CasePattern}
use Rattle.vf_syntax.specs.declared.pattern.Pattern.{Pattern}
use Rattle.vf_syntax.specs.declared.pattern.Share.{Share}
use Rattle.vf_syntax.specs.declared.written.Name.{Name}
use Rattle.vf_syntax.specs.GhostExprTree.{GhostExprTree}
use Rattle.vf_syntax.specs.AssertionTree.{PartTree, PartTrees, no_part, part_list, AssertionCaseTree, AssertionCaseTrees, assertion_case_list, more_assertion_case, more_part, no_assertion_case}
use Rattle.vf_syntax.specs.AssertionTree as tree
use Rattle.vf_sorting.specs.declared.context.Context.{Context}
use Rattle.vf_sorting.specs.Answers.{IsChecked}
use Rattle.vf_sorting.specs.HasSort.{Passes}
use Rattle.vf_sorting.specs.IsRefused.{Fails}
use Rattle.vf_sorting.specs.Kinds.{bool_sort}
use Rattle.vf_sorting.specs.Operators.{place_of}
use Rattle.vf_sorting.proofs.Lists.{left_at, left_end}
use Rattle.vf_sorting.proofs.Steps.{told}
use Rattle.vf_binding.specs.declared.bound.Bound.{Bound}
use Rattle.vf_binding.specs.Bound.{no_names, with_names}
use Rattle.vf_binding.specs.Chunks.{CellBinds, CellFails, ChunkBinds, ChunkFails}
use Rattle.vf_binding.specs.Answers.{IsCell, IsChunk}
use Rattle.vf_binding.proofs.Steps.{failing, wanting}
use Rattle.vf_asserting.specs.declared.switches.Switched.{Switched}
use Rattle.vf_asserting.specs.Leaving.{count, left}
use Rattle.vf_asserting.specs.Cases.{NamesBind, NamesFail, case_arguments, names_or_none}
use Rattle.vf_asserting.specs.Switches.{case_sorts}
use Rattle.vf_asserting.specs.Gives as gives
use Rattle.vf_asserting.specs.IsRefused as refuses
use Rattle.vf_asserting.specs.Answers.{AreCases, IsAssertion, IsBranch, IsCase, IsCaseBound, IsPart, IsSwitch}

-- ---- parts without parts

pub part_memory : {c : Context} {s s' : Scope} {k k' : Known} {x : PartTree} {res : Result (Unit {0}) RuleFault} → res ≡ Err faults.Memory → IsPart c s k x res s' k'
part_memory q = record { answers = wanting _ _ q }

pub chunk_fails : {c : Context} {s s' : Scope} {k k' : Known} {b b' : Bound} {p : Place} {h : Option Share} {n : Name} {xs : List Pattern} {ys : Option (List Pattern)} {res : Result (Unit {0}) RuleFault} (e : RuleFault) → b ≡ no_names → IsChunk {A = Unit {0}} s c k b h n xs ys (Err e) k' b' → res ≡ Err e → IsPart c s k (tree.chunk p h n xs ys) res s' k'
chunk_fails {c = c} {s = s} {k = k} {h = h} {n = n} {xs = xs} {ys = ys} e w i q = record { answers = failing _ _ _ e (λ r f. refuses.PartFails.chunk (subst (λ (b : Bound). ChunkFails s c k b h n xs ys r) w f)) i.answers q }

pub chunk_gives : {c : Context} {s s' : Scope} {k k' : Known} {b b' : Bound} {p : Place} {h : Option Share} {n : Name} {xs : List Pattern} {ys : Option (List Pattern)} → b ≡ no_names → IsChunk {A = Unit {0}} s c k b h n xs ys (Ok tt) k' b' → s' ≡ with_names s b' → IsPart {A = Unit {0}} c s k (tree.chunk p h n xs ys) (Ok tt) s' k'
chunk_gives {c = c} {s = s} {k = k} {k' = k'} {b' = b'} {p = p} {h = h} {n = n} {xs = xs} {ys = ys} w i q = record { answers = (i.answers.0, subst (λ (s' : Scope). gives.PartGives c s k (tree.chunk p h n xs ys) s' k') (sym q) (gives.PartGives.chunk (subst (λ (b : Bound). ChunkBinds s c k b h n xs ys k' b') w i.answers.1))) }

pub cell_fails : {c : Context} {s s' : Scope} {k k' : Known} {b b' : Bound} {p : Place} {h : Option Share} {d : GhostExprTree} {f : Name} {x : Pattern} {res : Result (Unit {0}) RuleFault} (e : RuleFault) → b ≡ no_names → IsCell {A = Unit {0}} s c k b h d f x (Err e) k' b' → res ≡ Err e → IsPart c s k (tree.cell p h d f x) res s' k'
cell_fails {c = c} {s = s} {k = k} {h = h} {d = d} {f = f} {x = x} e w i q = record { answers = failing _ _ _ e (λ r g. refuses.PartFails.cell (subst (λ (b : Bound). CellFails s c k b h d f x r) w g)) i.answers q }

pub cell_gives : {c : Context} {s s' : Scope} {k k' : Known} {b b' : Bound} {p : Place} {h : Option Share} {d : GhostExprTree} {f : Name} {x : Pattern} → b ≡ no_names → IsCell {A = Unit {0}} s c k b h d f x (Ok tt) k' b' → s' ≡ with_names s b' → IsPart {A = Unit {0}} c s k (tree.cell p h d f x) (Ok tt) s' k'
cell_gives {c = c} {s = s} {k = k} {k' = k'} {b' = b'} {p = p} {h = h} {d = d} {f = f} {x = x} w i q = record { answers = (i.answers.0, subst (λ (s' : Scope). gives.PartGives c s k (tree.cell p h d f x) s' k') (sym q) (gives.PartGives.cell (subst (λ (b : Bound). CellBinds s c k b h d f x k' b') w i.answers.1))) }

pub empty_gives : {c : Context} {s : Scope} {k : Known} {p : Place} → IsPart {A = Unit {0}} c s k (tree.empty_ p) (Ok tt) s k
empty_gives = record { answers = (omega arith, gives.PartGives.empty_) }

pub pure_fails : {c : Context} {s s' : Scope} {k k' : Known} {p : Place} {d : GhostExprTree} {w : Sort} {res : Result (Unit {0}) RuleFault} (e : RuleFault) → w ≡ bool_sort → IsChecked {A = Unit {0}} s c k w (place_of d) d (Err e) k' → res ≡ Err e → IsPart c s k (tree.pure p d) res s' k'
pure_fails {c = c} {s = s} {k = k} {d = d} e w i q = record { answers = failing _ _ _ e (λ r f. refuses.PartFails.pure (subst (λ (t : Sort). Fails s c k t (place_of d) d r) w f)) i.answers q }

pub pure_gives : {c : Context} {s : Scope} {k k' : Known} {p : Place} {d : GhostExprTree} {w : Sort} → w ≡ bool_sort → IsChecked {A = Unit {0}} s c k w (place_of d) d (Ok tt) k' → IsPart {A = Unit {0}} c s k (tree.pure p d) (Ok tt) s k'
pure_gives {c = c} {s = s} {k = k} {k' = k'} {d = d} w i = record { answers = (i.answers.0, gives.PartGives.pure (subst (λ (t : Sort). Passes s c k t (place_of d) d k') w i.answers.1)) }

-- ---- parts with parts

pub group_fails : {c : Context} {s s' : Scope} {k k' : Known} {p : Place} {xs : PartTrees} {res : Result (Unit {0}) RuleFault} (e : RuleFault) → IsAssertion {A = Unit {0}} c s k xs (Err e) s' k' → res ≡ Err e → IsPart c s k (tree.group p xs) res s' k'
group_fails e i q = record { answers = failing _ _ _ e (λ r f. refuses.PartFails.group f) i.answers q }

pub group_gives : {c : Context} {s s' : Scope} {k k' : Known} {p : Place} {xs : PartTrees} → IsAssertion {A = Unit {0}} c s k xs (Ok tt) s' k' → IsPart {A = Unit {0}} c s k (tree.group p xs) (Ok tt) s' k'
group_gives i = record { answers = (i.answers.0, gives.PartGives.group i.answers.1) }

pub test_fails : {c : Context} {s s' : Scope} {k k' : Known} {p : Place} {d : GhostExprTree} {xs ys : PartTrees} {w : Sort} {res : Result (Unit {0}) RuleFault} (e : RuleFault) → w ≡ bool_sort → IsChecked {A = Unit {0}} s c k w (place_of d) d (Err e) k' → res ≡ Err e → IsPart c s k (tree.conditional p d xs ys) res s' k'
test_fails {c = c} {s = s} {k = k} {d = d} e w i q = record { answers = failing _ _ _ e (λ r f. refuses.PartFails.test (subst (λ (t : Sort). Fails s c k t (place_of d) d r) w f)) i.answers q }

-- the test of a conditional passes
pub tested : {c : Context} {s : Scope} {k k₁ : Known} {d : GhostExprTree} {w : Sort} → w ≡ bool_sort → IsChecked {A = Unit {0}} s c k w (place_of d) d (Ok tt) k₁ → Passes s c k bool_sort (place_of d) d k₁
tested {c = c} {s = s} {k = k} {k₁ = k₁} {d = d} w i = subst (λ (t : Sort). Passes s c k t (place_of d) d k₁) w i.answers.1

pub first_fails : {c : Context} {s s' : Scope} {k k₁ k' : Known} {p : Place} {d : GhostExprTree} {xs ys : PartTrees} {w : Sort} {res : Result (Unit {0}) RuleFault} (e : RuleFault) → w ≡ bool_sort → IsChecked {A = Unit {0}} s c k w (place_of d) d (Ok tt) k₁ → IsBranch {A = Unit {0}} c s k₁ xs (Err e) s' k' → res ≡ Err e → IsPart c s k (tree.conditional p d xs ys) res s' k'
first_fails e w i j q = record { answers = failing _ _ _ e (λ r f. refuses.PartFails.first_branch (tested w i) f) j.answers q }

-- a scope whose locals declared since are gone
pub gone : {m : ℕ} {l : Locals} (s s₁ : Scope) → m ≡ count s → l ≡ first_locals s₁.locals m → record s₁ { locals = l } ≡ left (count s) s₁
gone s s₁ w q = ap (λ (l : Locals). record s₁ { locals = l }) (q ∙ ap (first_locals s₁.locals) w)

pub branch_fails : {c : Context} {s s' : Scope} {k k' : Known} {xs : PartTrees} {res : Result (Unit {0}) RuleFault} (e : RuleFault) → IsAssertion {A = Unit {0}} c s k xs (Err e) s' k' → res ≡ Err e → IsBranch c s k xs res s' k'
branch_fails e i q = record { answers = failing _ _ _ e (λ r f. f) i.answers q }

pub branch_gives : {c : Context} {s s₁ : Scope} {k k' : Known} {m : ℕ} {l : Locals} {xs : PartTrees} → IsAssertion {A = Unit {0}} c s k xs (Ok tt) s₁ k' → m ≡ count s → l ≡ first_locals s₁.locals m → IsBranch {A = Unit {0}} c s k xs (Ok tt) (record s₁ { locals = l }) k'
branch_gives {c = c} {s = s} {s₁ = s₁} {k = k} {k' = k'} {xs = xs} i m l = record { answers = (i.answers.0, subst (λ (u : Scope). gives.BranchGives c s k xs u k') (sym (gone s s₁ m l)) (gives.branch i.answers.1)) }

pub second_fails : {c : Context} {s s₁ s' : Scope} {k k₁ k₂ k' : Known} {p : Place} {d : GhostExprTree} {xs ys : PartTrees} {w : Sort} {res : Result (Unit {0}) RuleFault} (e : RuleFault) → w ≡ bool_sort → IsChecked {A = Unit {0}} s c k w (place_of d) d (Ok tt) k₁ → IsBranch {A = Unit {0}} c s k₁ xs (Ok tt) s₁ k₂ → IsBranch {A = Unit {0}} c s₁ k₂ ys (Err e) s' k' → res ≡ Err e → IsPart c s k (tree.conditional p d xs ys) res s' k'
second_fails e w i j a q = record { answers = failing _ _ _ e (λ r f. refuses.PartFails.second_branch (tested w i) j.answers.1 f) a.answers q }

pub choice_gives : {c : Context} {s s₁ s' : Scope} {k k₁ k₂ k' : Known} {p : Place} {d : GhostExprTree} {xs ys : PartTrees} {w : Sort} → w ≡ bool_sort → IsChecked {A = Unit {0}} s c k w (place_of d) d (Ok tt) k₁ → IsBranch {A = Unit {0}} c s k₁ xs (Ok tt) s₁ k₂ → IsBranch {A = Unit {0}} c s₁ k₂ ys (Ok tt) s' k' → IsPart {A = Unit {0}} c s k (tree.conditional p d xs ys) (Ok tt) s' k'
choice_gives w i j a =
    let x = i.answers.0 in let y = j.answers.0 in let z = a.answers.0 in
    record { answers = (omega (arith, x, y, z), gives.PartGives.conditional (tested w i) j.answers.1 a.answers.1) }

-- ---- switches

pub switch_fits : {c : Context} {s : Scope} {k k' : Known} {d : GhostExprTree} {cs : AssertionCaseTrees} (w : Switched) → IsSwitch s c k d cs (Ok w) k' → w.first + w.count < 2 ^ 64
switch_fits w i = i.answers.0

pub switch_refused : {c : Context} {s s' : Scope} {k k' : Known} {p : Place} {d : GhostExprTree} {cs : AssertionCaseTrees} {res : Result (Unit {0}) RuleFault} (e : RuleFault) → IsSwitch s c k d cs (Err e) k' → res ≡ Err e → IsPart c s k (tree.switch_ p d cs) res s' k'
switch_refused e i q = record { answers = failing _ _ _ e (λ r f. refuses.PartFails.switch_ f) i.answers q }

pub cases_refused : {c : Context} {s s' : Scope} {k k₁ k' : Known} {p : Place} {d : GhostExprTree} {cs : AssertionCaseTrees} {w : Switched} {res : Result (Unit {0}) RuleFault} (e : RuleFault) → IsSwitch s c k d cs (Ok w) k₁ → AreCases {A = Unit {0}} c s w.first w.count k₁ cs (Err e) s' k' → res ≡ Err e → IsPart c s k (tree.switch_ p d cs) res s' k'
cases_refused e i j q = record { answers = failing _ _ _ e (λ r f. refuses.PartFails.a_case i.answers.1.1 f) j.answers q }

pub switch_gives : {c : Context} {s s' : Scope} {k k₁ k' : Known} {p : Place} {d : GhostExprTree} {cs : AssertionCaseTrees} {w : Switched} → IsSwitch s c k d cs (Ok w) k₁ → AreCases {A = Unit {0}} c s w.first w.count k₁ cs (Ok tt) s' k' → IsPart {A = Unit {0}} c s k (tree.switch_ p d cs) (Ok tt) s' k'
switch_gives i j = let x = i.answers.1.0 in let y = j.answers.0 in record { answers = (omega (arith, x, y), gives.PartGives.switch_ i.answers.1.1 j.answers.1) }

-- ---- cases

pub case_memory : {c : Context} {s s' : Scope} {first n : ℕ} {k k' : Known} {x : AssertionCaseTree} {res : Result (Unit {0}) RuleFault} → res ≡ Err faults.Memory → IsCase c s first n k x res s' k'
case_memory q = record { answers = wanting _ _ q }

-- the sorts of the names of a case
pub sorts_are : {us ts : List Sort} (s : Scope) (first n : ℕ) (x : CasePattern) → us ≡ case_arguments s x → ts ≡ map (instance first n) us → ts ≡ case_sorts s first n x
sorts_are s first n x a t = t ∙ ap (map (instance first n)) a

pub names_refused : {c : Context} {s s' : Scope} {first n : ℕ} {k k' : Known} {us ts : List Sort} {g : Place} {p : Place} {x : CasePattern} {xs : PartTrees} {res : Result (Unit {0}) RuleFault} (e : RuleFault) → us ≡ case_arguments s x → ts ≡ map (instance first n) us → g ≡ x.constructor.place → IsCaseBound s (names_or_none x.names) ts g (Err e) → res ≡ Err e → IsCase c s first n k (tree.assertion_case p x xs) res s' k'
names_refused {s = s} {first = first} {n = n} {ts = ts} {x = x} e a t g i q = record { answers = failing _ _ _ e (λ r f. refuses.CaseFails.name_ (subst (λ (us : List Sort). NamesFail s (names_or_none x.names) us x.constructor.place r) (sorts_are s first n x a t) (subst (λ (p : Place). NamesFail s (names_or_none x.names) ts p r) g f))) i.answers q }

-- the names of a case are bound
pub case_named : {us ts : List Sort} {g : Place} {b : Bound} (s : Scope) (first n : ℕ) (x : CasePattern) → us ≡ case_arguments s x → ts ≡ map (instance first n) us → IsCaseBound s (names_or_none x.names) ts g (Ok b) → NamesBind s no_names (names_or_none x.names) (case_sorts s first n x) b
case_named {b = b} s first n x a t i = subst (λ (us : List Sort). NamesBind s no_names (names_or_none x.names) us b) (sorts_are s first n x a t) i.answers

pub body_refused : {c : Context} {s s₁ s' : Scope} {first n : ℕ} {k k' : Known} {us ts : List Sort} {g : Place} {b : Bound} {p : Place} {x : CasePattern} {xs : PartTrees} {res : Result (Unit {0}) RuleFault} (e : RuleFault) → us ≡ case_arguments s x → ts ≡ map (instance first n) us → IsCaseBound s (names_or_none x.names) ts g (Ok b) → s₁ ≡ with_names s b → IsAssertion {A = Unit {0}} c s₁ k xs (Err e) s' k' → res ≡ Err e → IsCase c s first n k (tree.assertion_case p x xs) res s' k'
body_refused {c = c} {s = s} {first = first} {n = n} {k = k} {x = x} {xs = xs} e a t i w j q = record { answers = failing _ _ _ e (λ r f. refuses.CaseFails.body (case_named s first n x a t i) (subst (λ (u : Scope). refuses.AnyPartFails c u k xs r) w f)) j.answers q }

pub case_gives : {c : Context} {s s₁ s₂ : Scope} {first n : ℕ} {k k' : Known} {us ts : List Sort} {g : Place} {b : Bound} {m : ℕ} {l : Locals} {p : Place} {x : CasePattern} {xs : PartTrees} → us ≡ case_arguments s x → ts ≡ map (instance first n) us → IsCaseBound s (names_or_none x.names) ts g (Ok b) → s₁ ≡ with_names s b → IsAssertion {A = Unit {0}} c s₁ k xs (Ok tt) s₂ k' → m ≡ count s → l ≡ first_locals s₂.locals m → IsCase {A = Unit {0}} c s first n k (tree.assertion_case p x xs) (Ok tt) (record s₂ { locals = l }) k'
case_gives {c = c} {s = s} {s₂ = s₂} {first = first} {n = n} {k = k} {k' = k'} {p = p} {x = x} {xs = xs} a t i w j m l =
    record { answers = (j.answers.0, subst (λ (u : Scope). gives.CaseGives c s first n k (tree.assertion_case p x xs) u k') (sym (gone s s₂ m l)) (gives.a_case (case_named s first n x a t i) (subst (λ (u : Scope). gives.Gives c u k xs s₂ k') w j.answers.1))) }

-- ---- parts one after the other

pub parts_end : {c : Context} {s : Scope} {k : Known} (xs : List PartTree) (i : ℕ) → length xs ≤ i → IsAssertion {A = Unit {0}} c s k (part_list (drop i xs)) (Ok tt) s k
parts_end {c = c} {s = s} {k = k} xs i l = subst (λ (ys : List PartTree). IsAssertion {A = Unit {0}} c s k (part_list ys) (Ok tt) s k) (sym (left_end xs i l)) (record { answers = (omega arith, gives.no_parts) })

pub parts_halt : {c : Context} {s s' : Scope} {k k' : Known} {x : PartTree} {res : Result (Unit {0}) RuleFault} (xs : List PartTree) (i : ℕ) (e : RuleFault) → slice_get xs i ≡ Some x → IsPart {A = Unit {0}} c s k x (Err e) s' k' → res ≡ Err e → IsAssertion c s k (part_list (drop i xs)) res s' k'
parts_halt {c = c} {s = s} {s' = s'} {k = k} {k' = k'} {x = x} {res = res} xs i e h a q = subst (λ (ys : List PartTree). IsAssertion c s k (part_list ys) res s' k') (sym (left_at xs i x h)) (record { answers = failing _ _ _ e (λ r f. refuses.this_part f) a.answers q })

parts_on : {c : Context} {s s₁ : Scope} {k k₁ : Known} {x : PartTree} {xs : PartTrees} → IsPart {A = Unit {0}} c s k x (Ok tt) s₁ k₁ → (r : Result (Unit {0}) RuleFault) (s' : Scope) (k' : Known) → IsAssertion c s₁ k₁ xs r s' k' → IsAssertion c s k (more_part x xs) r s' k'
parts_on i (Ok v) s' k' j = let l = i.answers.0 in let m = j.answers.0 in record { answers = (omega (arith, l, m), gives.more_parts i.answers.1 j.answers.1) }
parts_on i (Err e) s' k' j = record { answers = told _ _ e (λ r h. refuses.later_part i.answers.1 h) j.answers }

pub parts_next : {c : Context} {s s₁ s' : Scope} {k k₁ k' : Known} {x : PartTree} {r : Result (Unit {0}) RuleFault} (xs : List PartTree) (i : ℕ) → slice_get xs i ≡ Some x → IsPart {A = Unit {0}} c s k x (Ok tt) s₁ k₁ → IsAssertion c s₁ k₁ (part_list (drop (i + 1) xs)) r s' k' → IsAssertion c s k (part_list (drop i xs)) r s' k'
parts_next {c = c} {s = s} {s' = s'} {k = k} {k' = k'} {x = x} {r = r} xs i h a j = subst (λ (ys : List PartTree). IsAssertion c s k (part_list ys) r s' k') (sym (left_at xs i x h)) (parts_on a r s' k' j)

-- ---- cases one after the other

pub cases_end : {c : Context} {s : Scope} {first n : ℕ} {k : Known} (xs : List AssertionCaseTree) (i : ℕ) → length xs ≤ i → AreCases {A = Unit {0}} c s first n k (assertion_case_list (drop i xs)) (Ok tt) s k
cases_end {c = c} {s = s} {first = first} {n = n} {k = k} xs i l = subst (λ (ys : List AssertionCaseTree). AreCases {A = Unit {0}} c s first n k (assertion_case_list ys) (Ok tt) s k) (sym (left_end xs i l)) (record { answers = (omega arith, gives.no_cases) })

pub cases_halt : {c : Context} {s s' : Scope} {first n : ℕ} {k k' : Known} {x : AssertionCaseTree} {res : Result (Unit {0}) RuleFault} (xs : List AssertionCaseTree) (i : ℕ) (e : RuleFault) → slice_get xs i ≡ Some x → IsCase {A = Unit {0}} c s first n k x (Err e) s' k' → res ≡ Err e → AreCases c s first n k (assertion_case_list (drop i xs)) res s' k'
cases_halt {c = c} {s = s} {s' = s'} {first = first} {n = n} {k = k} {k' = k'} {x = x} {res = res} xs i e h a q = subst (λ (ys : List AssertionCaseTree). AreCases c s first n k (assertion_case_list ys) res s' k') (sym (left_at xs i x h)) (record { answers = failing _ _ _ e (λ r f. refuses.this_case f) a.answers q })

cases_on : {c : Context} {s s₁ : Scope} {first n : ℕ} {k k₁ : Known} {x : AssertionCaseTree} {xs : AssertionCaseTrees} → IsCase {A = Unit {0}} c s first n k x (Ok tt) s₁ k₁ → (r : Result (Unit {0}) RuleFault) (s' : Scope) (k' : Known) → AreCases c s₁ first n k₁ xs r s' k' → AreCases c s first n k (more_assertion_case x xs) r s' k'
cases_on i (Ok v) s' k' j = let l = i.answers.0 in let m = j.answers.0 in record { answers = (omega (arith, l, m), gives.more_cases i.answers.1 j.answers.1) }
cases_on i (Err e) s' k' j = record { answers = told _ _ e (λ r h. refuses.later_case i.answers.1 h) j.answers }

pub cases_next : {c : Context} {s s₁ s' : Scope} {first n : ℕ} {k k₁ k' : Known} {x : AssertionCaseTree} {r : Result (Unit {0}) RuleFault} (xs : List AssertionCaseTree) (i : ℕ) → slice_get xs i ≡ Some x → IsCase {A = Unit {0}} c s first n k x (Ok tt) s₁ k₁ → AreCases c s₁ first n k₁ (assertion_case_list (drop (i + 1) xs)) r s' k' → AreCases c s first n k (assertion_case_list (drop i xs)) r s' k'
cases_next {c = c} {s = s} {s' = s'} {first = first} {n = n} {k = k} {k' = k'} {x = x} {r = r} xs i h a j = subst (λ (ys : List AssertionCaseTree). AreCases c s first n k (assertion_case_list ys) r s' k') (sym (left_at xs i x h)) (cases_on a r s' k' j)
