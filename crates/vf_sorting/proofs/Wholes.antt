-- Answers for expressions from the answers for their parts.
use Rattle.std.proofs.Common.{◌≡◌, ◌≢◌, ℕ, ◌+◌, ◌≤◌, Bool, true, false, List, [], ◌∷◌, length, zero, suc, Some, slice_get, Result, Ok, Err, IsTrue, ◌↔◌, refl, sym, ◌∙◌, ap, subst, arith}
use Rattle.std.specs.Prelude.{nat_eq}
use Rattle.std.proofs.lemmas.Bool.Decides.{nat_tests}
use Rattle.vf_base.specs.declared.place.Place.{Place}
use Rattle.vf_base.specs.declared.refusal.RuleFault.{RuleFault}
use Rattle.vf_base.specs.declared.refusal.RuleFault.TheVariants as faults
use Rattle.vf_base.specs.declared.rule.Rule.TheVariants as rules
use Rattle.vf_sorts.specs.Sorts.{Sort}
use Rattle.vf_sorts.specs.Unknowns.{AreBelow, IsBelow, Known, instance}
use Rattle.vf_declared.specs.declared.scope.Scope.{Scope}
use Rattle.vf_syntax.specs.declared.operator.Level.{Level}
use Rattle.vf_syntax.specs.declared.operator.UnaryOperator.{UnaryOperator}
use Rattle.vf_syntax.specs.GhostExprTree.{GhostExprTree, GhostExprTrees, ghost_expr_list, GhostLinkTree, GhostLinkTrees}
use Rattle.vf_syntax.specs.GhostExprTree as tree
use Rattle.vf_sorting.specs.declared.context.Context.{Context}
use Rattle.vf_sorting.specs.declared.scheme.Scheme.{Scheme}
use Rattle.vf_sorting.specs.Answers.{Tells, AreChecked, AreLinked, IsChecked, IsMet, IsSorted}
use Rattle.vf_sorting.specs.HasSort as has
use Rattle.vf_sorting.specs.IsRefused as refuses
use Rattle.vf_sorting.specs.Kinds.{bool_sort, with_fresh}
use Rattle.vf_sorting.specs.Operators.{count, is_null, place_of, prefix_sort}
use Rattle.vf_sorting.specs.Refusals.{refused}
use Rattle.vf_sorting.specs.Schemes.{application_scheme, names_predicate}
use Rattle.vf_sorting.specs.Scopes.{IsSchemeBelow}
use Rattle.vf_sorting.proofs.Below.{below_more, fresh_length, instance_below}
use Rattle.vf_sorting.proofs.Steps.{fails, found, instance_within, no_sort, prefix_is}

-- ---- parentheses
pub enclosed_fails : {s : Scope} {c : Context} {k k' : Known} {p : Place} {a : GhostExprTree} {res : Result Sort RuleFault} (e : RuleFault) → IsSorted s c k a (Err e) k' → res ≡ Err e → IsSorted s c k (tree.parenthesized p a) res k'
enclosed_fails e i q = fails _ e (λ r h. refuses.parenthesized h) i.answers q

pub enclosed_sorted : {s : Scope} {c : Context} {k k' : Known} {p : Place} {a : GhostExprTree} {t : Sort} → IsSorted s c k a (Ok t) k' → IsSorted s c k (tree.parenthesized p a) (Ok t) k'
enclosed_sorted i = record { answers = (i.answers.0, i.answers.1, has.parenthesized i.answers.2) }

-- ---- an operator in front
pub prefixed_fails : {s : Scope} {c : Context} {k k' : Known} {p : Place} {o : UnaryOperator} {a : GhostExprTree} {w : Sort} {res : Result Sort RuleFault} (e : RuleFault) → w ≡ prefix_sort o → IsChecked {A = Unit {0}} s c k w (place_of a) a (Err e) k' → res ≡ Err e → IsSorted s c k (tree.unary p o a) res k'
prefixed_fails {s = s} {c = c} {k = k} {a = a} e w i q = fails _ e (λ r h. refuses.prefixed (subst (λ (v : Sort). refuses.Fails s c k v (place_of a) a r) w h)) i.answers q

pub prefixed_sorted : {s : Scope} {c : Context} {k k' : Known} {p : Place} {o : UnaryOperator} {a : GhostExprTree} {w : Sort} → w ≡ prefix_sort o → IsChecked {A = Unit {0}} s c k w (place_of a) a (Ok tt) k' → IsSorted s c k (tree.unary p o a) (Ok w) k'
prefixed_sorted {s = s} {c = c} {k = k} {k' = k'} {o = o} {a = a} w i = found (prefix_sort o) w i.answers.0 (prefix_is (length k') o) (has.prefixed (subst (λ (v : Sort). has.Passes s c k v (place_of a) a k') w i.answers.1))

-- ---- a choice
pub test_fails : {s : Scope} {c : Context} {k k' : Known} {p : Place} {a b d : GhostExprTree} {w : Sort} {res : Result Sort RuleFault} (e : RuleFault) → w ≡ bool_sort → IsChecked {A = Unit {0}} s c k w (place_of a) a (Err e) k' → res ≡ Err e → IsSorted s c k (tree.conditional p a b d) res k'
test_fails {s = s} {c = c} {k = k} {a = a} e w i q = fails _ e (λ r h. refuses.test (subst (λ (v : Sort). refuses.Fails s c k v (place_of a) a r) w h)) i.answers q

-- the test of a choice passes
tested : {s : Scope} {c : Context} {k k₁ : Known} {a : GhostExprTree} {w : Sort} → w ≡ bool_sort → IsChecked {A = Unit {0}} s c k w (place_of a) a (Ok tt) k₁ → has.Passes s c k bool_sort (place_of a) a k₁
tested {s = s} {c = c} {k = k} {k₁ = k₁} {a = a} w i = subst (λ (v : Sort). has.Passes s c k v (place_of a) a k₁) w i.answers.1

pub first_fails : {s : Scope} {c : Context} {k k₁ k' : Known} {p : Place} {a b d : GhostExprTree} {w : Sort} {res : Result Sort RuleFault} (e : RuleFault) → w ≡ bool_sort → IsChecked {A = Unit {0}} s c k w (place_of a) a (Ok tt) k₁ → IsSorted s c k₁ b (Err e) k' → res ≡ Err e → IsSorted s c k (tree.conditional p a b d) res k'
first_fails e w i j q = fails _ e (λ r h. refuses.first_branch (tested w i) h) j.answers q

pub second_fails : {s : Scope} {c : Context} {k k₁ k₂ k' : Known} {p : Place} {a b d : GhostExprTree} {w t : Sort} {z : Bool} {res : Result Sort RuleFault} (e : RuleFault) → w ≡ bool_sort → IsChecked {A = Unit {0}} s c k w (place_of a) a (Ok tt) k₁ → IsSorted s c k₁ b (Ok t) k₂ → z ≡ is_null b → IsMet s c k₂ z t d (Err e) k' → res ≡ Err e → IsSorted s c k (tree.conditional p a b d) res k'
second_fails {s = s} {c = c} {k₂ = k₂} {d = d} {t = t} e w i j z m q = fails _ e (λ r h. refuses.second_branch (tested w i) j.answers.2 (subst (λ (y : Bool). refuses.FailsToMeet s c k₂ y t d r) z h)) m.answers q

pub choice_sorted : {s : Scope} {c : Context} {k k₁ k₂ k' : Known} {p : Place} {a b d : GhostExprTree} {w t v : Sort} {z : Bool} → w ≡ bool_sort → IsChecked {A = Unit {0}} s c k w (place_of a) a (Ok tt) k₁ → IsSorted s c k₁ b (Ok t) k₂ → z ≡ is_null b → IsMet s c k₂ z t d (Ok v) k' → IsSorted s c k (tree.conditional p a b d) (Ok v) k'
choice_sorted {s = s} {c = c} {k₂ = k₂} {k' = k'} {d = d} {t = t} {v = v} w i j z m =
    let x = i.answers.0 in let y = j.answers.0 in let l = m.answers.0 in
    record { answers = (omega (arith, x, y, l), m.answers.1, has.conditional (tested w i) j.answers.2 (subst (λ (y : Bool). has.Meets s c k₂ y t d v k') z m.answers.2)) }

-- ---- operands that are joined
pub start_fails : {s : Scope} {c : Context} {k k' : Known} {p : Place} {l : Level} {a : GhostExprTree} {xs : GhostLinkTrees} {res : Result Sort RuleFault} (e : RuleFault) → IsSorted s c k a (Err e) k' → res ≡ Err e → IsSorted s c k (tree.chain p l a xs) res k'
start_fails e i q = fails _ e (λ r h. refuses.start h) i.answers q

pub chain_fails : {s : Scope} {c : Context} {k k₁ k' : Known} {p g : Place} {l : Level} {a : GhostExprTree} {xs : GhostLinkTrees} {t : Sort} {z : Bool} {res : Result Sort RuleFault} (e : RuleFault) → IsSorted s c k a (Ok t) k₁ → z ≡ is_null a → g ≡ place_of a → AreLinked s c k₁ z g t xs (Err e) k' → res ≡ Err e → IsSorted s c k (tree.chain p l a xs) res k'
chain_fails {s = s} {c = c} {k₁ = k₁} {a = a} {xs = xs} {t = t} {z = b} e i z w j q = fails _ e (λ r h. refuses.links i.answers.2 (subst (λ (y : Bool). refuses.LinksFail s c k₁ y (place_of a) t xs r) z (subst (λ (y : Place). refuses.LinksFail s c k₁ b y t xs r) w h))) j.answers q

pub chain_sorted : {s : Scope} {c : Context} {k k₁ k' : Known} {p g : Place} {l : Level} {a : GhostExprTree} {xs : GhostLinkTrees} {t u : Sort} {z : Bool} → IsSorted s c k a (Ok t) k₁ → z ≡ is_null a → g ≡ place_of a → AreLinked s c k₁ z g t xs (Ok u) k' → IsSorted s c k (tree.chain p l a xs) (Ok u) k'
chain_sorted {s = s} {c = c} {k₁ = k₁} {k' = k'} {a = a} {xs = xs} {t = t} {u = u} {z = b} i z w j =
    let x = i.answers.0 in let y = j.answers.0 in
    record { answers = (omega (arith, x, y), j.answers.1, has.chain i.answers.2 (subst (λ (y : Bool). has.LinksHaveSort s c k₁ y (place_of a) t xs u k') z (subst (λ (y : Place). has.LinksHaveSort s c k₁ b y t xs u k') w j.answers.2))) }

-- ---- applications
-- as many arguments as a list has expressions
counted : (xs : List GhostExprTree) → count (ghost_expr_list xs) ≡ length xs
counted [] = refl
counted (x ∷ xs) = let r = counted xs in omega (arith, r)

same_count : (n : ℕ) (xs : List GhostExprTree) → n ≡ length xs → nat_eq n (count (ghost_expr_list xs)) ≡ true
same_count n xs q = let r = counted xs in let same : n ≡ count (ghost_expr_list xs) = q ∙ sym r in grind (arith, nat_tests)

other_count : (n : ℕ) (xs : List GhostExprTree) → n ≢ length xs → nat_eq n (count (ghost_expr_list xs)) ≡ false
other_count n xs q = let r = counted xs in let other : n ≢ count (ghost_expr_list xs) = (λ e. q (e ∙ r)) in grind (arith, nat_tests)

pub local_applied : {s : Scope} {c : Context} {k : Known} {p : Place} {f : List ℕ} {xs : GhostExprTrees} {y : Bool} {e : RuleFault} → e ≡ faults.Refused (refused rules.Typing p) → y ≡ names_predicate s k f → y ≡ true → IsSorted s c k (tree.application p f xs) (Err e) k
local_applied q n y = no_sort _ q (refuses.applied_local (sym n ∙ y))

pub scheme_fails : {s : Scope} {c : Context} {k k' : Known} {p : Place} {f : List ℕ} {xs : GhostExprTrees} {y : Bool} {res : Result Sort RuleFault} (e : RuleFault) → y ≡ names_predicate s k f → y ≡ false → Tells (λ r. application_scheme s c.own p f ≡ Err r) e → res ≡ Err e → IsSorted s c k (tree.application p f xs) res k'
scheme_fails e n y a q = fails _ e (λ r h. refuses.no_function (sym n ∙ y) h) a q

pub count_fails : {s : Scope} {c : Context} {k : Known} {p : Place} {f : List ℕ} {g : Scheme} {y b : Bool} {e : RuleFault} (xs : List GhostExprTree) → y ≡ names_predicate s k f → y ≡ false → application_scheme s c.own p f ≡ Ok g → (IsTrue b ↔ IsSchemeBelow (length k) g) → b ≡ true → length g.arguments ≢ length xs → e ≡ faults.Refused (refused rules.Typing p) → IsSorted s c k (tree.application p f (ghost_expr_list xs)) (Err e) k
count_fails {g = g} xs n y a w b l q = no_sort _ q (refuses.other_count (sym n ∙ y) a (w.0 b) (other_count (length g.arguments) xs l))

pub arguments_fail : {s : Scope} {c : Context} {k j k' : Known} {p : Place} {f : List ℕ} {g : Scheme} {y b : Bool} {first : ℕ} {res : Result Sort RuleFault} (xs : List GhostExprTree) (e : RuleFault) → y ≡ names_predicate s k f → y ≡ false → application_scheme s c.own p f ≡ Ok g → (IsTrue b ↔ IsSchemeBelow (length k) g) → b ≡ true → length g.arguments ≡ length xs → first ≡ length k → j ≡ with_fresh k g.parameters → AreChecked {A = Unit {0}} s c j first g.parameters g.arguments (ghost_expr_list xs) (Err e) k' → res ≡ Err e → IsSorted s c k (tree.application p f (ghost_expr_list xs)) res k'
arguments_fail {s = s} {c = c} {k = k} {g = g} {first = first} xs e n y a v b l f q i w =
    fails _ e (λ r h. refuses.argument (sym n ∙ y) a (v.0 b) (same_count (length g.arguments) xs l) (subst (λ (m : ℕ). refuses.AnyFails s c (with_fresh k g.parameters) m g.parameters g.arguments (ghost_expr_list xs) r) f (subst (λ (u : Known). refuses.AnyFails s c u first g.parameters g.arguments (ghost_expr_list xs) r) q h))) i.answers w

pub applied_sorted : {s : Scope} {c : Context} {k j k' : Known} {p : Place} {f : List ℕ} {xs : GhostExprTrees} {g : Scheme} {y b : Bool} {first : ℕ} {t : Sort} → y ≡ names_predicate s k f → y ≡ false → application_scheme s c.own p f ≡ Ok g → (IsTrue b ↔ IsSchemeBelow (length k) g) → b ≡ true → first ≡ length k → j ≡ with_fresh k g.parameters → AreChecked {A = Unit {0}} s c j first g.parameters g.arguments xs (Ok tt) k' → t ≡ instance first g.parameters g.result → IsSorted s c k (tree.application p f xs) (Ok t) k'
applied_sorted {s = s} {c = c} {k = k} {j = j} {k' = k'} {p = p} {f = f} {xs = xs} {g = g} {first = first} {t = t} n y a w b m q i e =
    let long : length j ≡ length k + g.parameters = ap length q ∙ fresh_length k g.parameters in
    let le = i.answers.0 in
    let is : t ≡ instance (length k) g.parameters g.result = e ∙ ap (λ (m : ℕ). instance m g.parameters g.result) m in
    found _ is (omega (arith, long, le)) (subst (IsBelow (length k')) is (instance_within k k' first g.parameters t g.result m (omega (arith, long, m, le)) (w.0 b).1 e))
    (has.application (sym n ∙ y) a (w.0 b) (subst (λ (m : ℕ). has.ArePassed s c (with_fresh k g.parameters) m g.parameters g.arguments xs k') m (subst (λ (u : Known). has.ArePassed s c u first g.parameters g.arguments xs k') q i.answers.1)))

pub stray_application : {s : Scope} {c : Context} {k : Known} {p : Place} {f : List ℕ} {xs : GhostExprTrees} {g : Scheme} {y b : Bool} {e : RuleFault} → y ≡ names_predicate s k f → y ≡ false → application_scheme s c.own p f ≡ Ok g → (IsTrue b ↔ IsSchemeBelow (length k) g) → b ≡ false → e ≡ faults.Refused (refused rules.Typing p) → IsSorted s c k (tree.application p f xs) (Err e) k
stray_application n y a w b q = no_sort _ q (refuses.stray_application (sym n ∙ y) a (λ h. let yes_is = w.1 h in absurd cc))

-- what is needed of a scheme for its arguments
pub scheme_first : (k j : Known) (first n : ℕ) → first ≡ length k → j ≡ with_fresh k n → first + n ≤ length j
scheme_first k j first n f q = let long : length j ≡ length k + n = ap length q ∙ fresh_length k n in omega (arith, long, f)

pub scheme_below : (k : Known) (g : Scheme) (first : ℕ) (b : Bool) → (IsTrue b ↔ IsSchemeBelow (length k) g) → b ≡ true → first ≡ length k → IsSchemeBelow first g
scheme_below k g first b w h q = subst (λ (m : ℕ). IsSchemeBelow m g) (sym q) (w.0 h)

-- a parameter at the unknown sorts that stand for type parameters
each_below : (n : ℕ) (ts : List Sort) (i : ℕ) (t : Sort) → slice_get ts i ≡ Some t → AreBelow n ts → IsBelow n t
each_below n [] i t e b = absurd cc
each_below n (x ∷ ts) zero t e b = let q : x ≡ t = cc in subst (IsBelow n) q b.0
each_below n (x ∷ ts) (suc i) t e b = each_below n ts i t e b.1

pub argument_below : (k : Known) (first : ℕ) (g : Scheme) (i : ℕ) (t w : Sort) → IsSchemeBelow first g → slice_get g.arguments i ≡ Some t → w ≡ instance first g.parameters t → first + g.parameters ≤ length k → IsBelow (length k) w
argument_below k first g i t w b e q l = subst (IsBelow (length k)) (sym q) (below_more (first + g.parameters) (length k) l _ (instance_below first first g.parameters (omega arith) t (each_below first g.arguments i t e b.0)))
