-- Answers for names, patterns and shares from the answers for their parts.
use Rattle.std.proofs.Common.{◌≡◌, ◌≢◌, ℕ, ◌+◌, ◌≤◌, Bool, true, false, List, [], ◌∷◌, ◌++◌, length, drop, Some, None, slice_get, Result, Ok, Err, IsTrue, ◌↔◌, refl, sym, ◌∙◌, ap, subst, arith}
use Rattle.vf_base.specs.declared.int_type.IntType.{IntType}
use Rattle.vf_base.specs.declared.place.Place.{Place}
use Rattle.vf_base.specs.declared.refusal.Refusal.{Refusal}
use Rattle.vf_base.specs.declared.refusal.RuleFault.{RuleFault}
use Rattle.vf_base.specs.declared.refusal.RuleFault.TheVariants as faults
use Rattle.vf_base.specs.declared.rule.Rule.TheVariants as rules
use Rattle.vf_sorts.specs.Sorts.{Sort}
use Rattle.vf_sorts.specs.Unknowns.{AreBelow, IsBelow, Known}
use Rattle.vf_declared.specs.declared.scope.Scope.{Scope}
use Rattle.vf_syntax.specs.declared.pattern.Amount.TheVariants as amounts
use Rattle.vf_syntax.specs.declared.pattern.Factor.{Factor}
use Rattle.vf_syntax.specs.declared.pattern.Factor.TheVariants as factors
use Rattle.vf_syntax.specs.declared.pattern.FactorLink.{FactorLink}
use Rattle.vf_syntax.specs.declared.pattern.Pattern.{Pattern}
use Rattle.vf_syntax.specs.declared.pattern.Pattern.TheVariants as patterns
use Rattle.vf_syntax.specs.declared.pattern.Share.{Share}
use Rattle.vf_syntax.specs.declared.written.Name.{Name}
use Rattle.vf_syntax.specs.GhostExprTree.{GhostExprTree}
use Rattle.vf_syntax.specs.GhostExprTree as tree
use Rattle.vf_sorting.specs.declared.context.Context.{Context}
use Rattle.vf_sorting.specs.Answers.{Answers, IsChecked, IsEquated, IsSorted, Tells}
use Rattle.vf_sorting.specs.Operators.{place_of}
use Rattle.vf_sorting.specs.Refusals.{refused}
use Rattle.vf_sorting.proofs.Checks.{apart_fails, sort_fails, wanted_passes}
use Rattle.vf_sorting.proofs.Lists.{left_at, left_end}
use Rattle.vf_sorting.proofs.Steps.{told}
use Rattle.vf_binding.specs.declared.bound.Bound.{Bound}
use Rattle.vf_binding.specs.declared.chunk_sorts.ChunkSorts.{ChunkSorts}
use Rattle.vf_binding.specs.Bound.{is_bound, names_real}
use Rattle.vf_binding.specs.Patterns as patterned
use Rattle.vf_binding.specs.Shares as shared
use Rattle.vf_binding.specs.Shares.{fraction_sort, is_factor}
use Rattle.vf_binding.specs.Chunks.{IsTakenBelow}
use Rattle.vf_binding.specs.Answers.{AreBound, AreFactors, AreHeads, IsAmount, IsBound, IsFactor, IsHead, IsHeadList, IsListBound, IsNamed, IsShare}

-- ---- answers in general
-- a fault of a part is one of the whole
pub failing : {A : Type 0} {res : Result A RuleFault} (T : A → Type 0) (R Q : Refusal → Type 0) (e : RuleFault) → ((r : Refusal) → Q r → R r) → Tells Q e → res ≡ Err e → Answers T R res
failing T R Q e f a q = subst (Answers T R) (sym q) (told Q R e f a)

-- a refusal of the whole
pub refusing : (R : Refusal → Type 0) (e : RuleFault) (r : Refusal) → e ≡ faults.Refused r → R r → Tells R e
refusing R e r q h = subst (Tells R) (sym q) h

-- want of memory says nothing
pub wanting : {A : Type 0} {res : Result A RuleFault} (T : A → Type 0) (R : Refusal → Type 0) → res ≡ Err faults.Memory → Answers T R res
wanting T R q = subst (Answers T R) (sym q) tt

-- ---- names
pub named_memory : {A : Type 0} {s : Scope} {b b' : Bound} {n : Name} {t : Sort} {res : Result A RuleFault} → res ≡ Err faults.Memory → IsNamed s b n t res b'
named_memory q = record { answers = wanting _ _ q }

pub named_real : {s : Scope} {b b' : Bound} {n : Name} {t : Sort} {y : Bool} {e : RuleFault} → y ≡ names_real s n.text n.place.file → y ≡ true → e ≡ faults.Refused (refused rules.GhostInReal n.place) → IsNamed {A = Unit {0}} s b n t (Err e) b'
named_real {s = s} {n = n} w y q = let is : names_real s n.text n.place.file ≡ true = sym w ∙ y in record { answers = refusing _ _ _ q (rw is refl) }

pub named_twice : {s : Scope} {b b' : Bound} {n : Name} {t : Sort} {y z : Bool} {e : RuleFault} → y ≡ names_real s n.text n.place.file → y ≡ false → z ≡ is_bound s b n.text → z ≡ true → e ≡ faults.Refused (refused rules.Name n.place) → IsNamed {A = Unit {0}} s b n t (Err e) b'
named_twice {s = s} {b = b} {n = n} w y v z q =
    let not_real : names_real s n.text n.place.file ≡ false = sym w ∙ y in
    let twice : is_bound s b n.text ≡ true = sym v ∙ z in
    record { answers = refusing _ _ _ q (rw not_real (rw twice refl)) }

pub named_well : {s : Scope} {b : Bound} {n : Name} {t u : Sort} {y z : Bool} {ns : List (List ℕ)} {ts : List Sort} → y ≡ names_real s n.text n.place.file → y ≡ false → z ≡ is_bound s b n.text → z ≡ false → u ≡ t → ns ≡ b.names ++ n.text ∷ [] → ts ≡ b.sorts ++ u ∷ [] → IsNamed {A = Unit {0}} s b n t (Ok tt) (record { names = ns; sorts = ts })
named_well {s = s} {b = b} {n = n} w y v z q p o =
    let not_real : names_real s n.text n.place.file ≡ false = sym w ∙ y in
    let once : is_bound s b n.text ≡ false = sym v ∙ z in
    record { answers = (rw not_real (rw once refl), λ i. record { names = p i; sorts = (o ∙ ap (λ (x : Sort). b.sorts ++ x ∷ []) q) i }) }

-- ---- patterns
pub value_bound : {s : Scope} {c : Context} {k k' : Known} {b : Bound} {w : Sort} {e : GhostExprTree} → IsChecked {A = Unit {0}} s c k w (place_of e) e (Ok tt) k' → IsBound {A = Unit {0}} s c k b w (patterns.Is e) (Ok tt) k' b
value_bound i = record { answers = (i.answers.0, patterned.Binds.value i.answers.1) }

pub value_fails : {s : Scope} {c : Context} {k k' : Known} {b b' : Bound} {w : Sort} {x : GhostExprTree} {res : Result (Unit {0}) RuleFault} (e : RuleFault) → IsChecked {A = Unit {0}} s c k w (place_of x) x (Err e) k' → res ≡ Err e → IsBound s c k b w (patterns.Is x) res k' b'
value_fails e i q = record { answers = failing _ _ _ e (λ r h. patterned.FailsToBind.value h) i.answers q }

pub name_binds : {s : Scope} {c : Context} {k : Known} {b b' : Bound} {w : Sort} {p : Place} {n : Name} → IsNamed {A = Unit {0}} s b n w (Ok tt) b' → IsBound {A = Unit {0}} s c k b w (patterns.Binds p n) (Ok tt) k b'
name_binds {s = s} {c = c} {k = k} {b = b} {w = w} {p = p} {n = n} i = record { answers = (omega arith, subst (patterned.Binds s c k b w (patterns.Binds p n) k) (sym i.answers.1) (patterned.Binds.named i.answers.0)) }

pub name_fails : {s : Scope} {c : Context} {k k' : Known} {b b' : Bound} {w : Sort} {p : Place} {n : Name} {res : Result (Unit {0}) RuleFault} (e : RuleFault) → IsNamed {A = Unit {0}} s b n w (Err e) b' → res ≡ Err e → IsBound s c k b w (patterns.Binds p n) res k' b'
name_fails e i q = record { answers = failing _ _ _ e (λ r h. patterned.FailsToBind.named h) i.answers q }

pub wild_bound : {s : Scope} {c : Context} {k : Known} {b : Bound} {w : Sort} {p : Place} → IsBound {A = Unit {0}} s c k b w (patterns.Wild p) (Ok tt) k b
wild_bound = record { answers = (omega arith, patterned.Binds.anything) }

-- ---- patterns one after the other
pub bound_end : {s : Scope} {c : Context} {k : Known} {b : Bound} (ts : List Sort) (xs : List Pattern) (i : ℕ) → length ts ≤ i → length xs ≤ i → AreBound {A = Unit {0}} s c k b (drop i ts) (drop i xs) (Ok tt) k b
bound_end {s = s} {c = c} {k = k} {b = b} ts xs i l m =
    subst (λ (us : List Sort). AreBound {A = Unit {0}} s c k b us (drop i xs) (Ok tt) k b) (sym (left_end ts i l))
    (subst (λ (ys : List Pattern). AreBound {A = Unit {0}} s c k b [] ys (Ok tt) k b) (sym (left_end xs i m)) (record { answers = (omega arith, patterned.none_bind) }))

pub bound_halt : {s : Scope} {c : Context} {k k' : Known} {b b' : Bound} {t : Sort} {x : Pattern} {res : Result (Unit {0}) RuleFault} (ts : List Sort) (xs : List Pattern) (i : ℕ) (e : RuleFault) → slice_get ts i ≡ Some t → slice_get xs i ≡ Some x → IsBound {A = Unit {0}} s c k b t x (Err e) k' b' → res ≡ Err e → AreBound s c k b (drop i ts) (drop i xs) res k' b'
bound_halt {s = s} {c = c} {k = k} {k' = k'} {b = b} {b' = b'} {t = t} {x = x} {res = res} ts xs i e g h a q =
    subst (λ (us : List Sort). AreBound s c k b us (drop i xs) res k' b') (sym (left_at ts i t g))
    (subst (λ (ys : List Pattern). AreBound s c k b (t ∷ drop (i + 1) ts) ys res k' b') (sym (left_at xs i x h)) (record { answers = failing _ _ _ e (λ r f. patterned.this_pattern f) a.answers q }))

bound_on : {s : Scope} {c : Context} {k k₁ : Known} {b b₁ : Bound} {t : Sort} {ts : List Sort} {x : Pattern} {xs : List Pattern} → IsBound {A = Unit {0}} s c k b t x (Ok tt) k₁ b₁ → (r : Result (Unit {0}) RuleFault) (k' : Known) (b' : Bound) → AreBound s c k₁ b₁ ts xs r k' b' → AreBound s c k b (t ∷ ts) (x ∷ xs) r k' b'
bound_on i (Ok v) k' b' j = let l = i.answers.0 in let m = j.answers.0 in record { answers = (omega (arith, l, m), patterned.one_binds i.answers.1 j.answers.1) }
bound_on i (Err e) k' b' j = record { answers = told _ _ e (λ r h. patterned.later_pattern i.answers.1 h) j.answers }

pub bound_next : {s : Scope} {c : Context} {k k₁ k' : Known} {b b₁ b' : Bound} {t : Sort} {x : Pattern} {r : Result (Unit {0}) RuleFault} (ts : List Sort) (xs : List Pattern) (i : ℕ) → slice_get ts i ≡ Some t → slice_get xs i ≡ Some x → IsBound {A = Unit {0}} s c k b t x (Ok tt) k₁ b₁ → AreBound s c k₁ b₁ (drop (i + 1) ts) (drop (i + 1) xs) r k' b' → AreBound s c k b (drop i ts) (drop i xs) r k' b'
bound_next {s = s} {c = c} {k = k} {k' = k'} {b = b} {b' = b'} {t = t} {x = x} {r = r} ts xs i g h a j =
    subst (λ (us : List Sort). AreBound s c k b us (drop i xs) r k' b') (sym (left_at ts i t g))
    (subst (λ (ys : List Pattern). AreBound s c k b (t ∷ drop (i + 1) ts) ys r k' b') (sym (left_at xs i x h)) (bound_on a r k' b' j))

pub list_other : {s : Scope} {c : Context} {k k' : Known} {b b' : Bound} {ts : List Sort} {g : Place} {xs : List Pattern} {e : RuleFault} → length ts ≢ length xs → e ≡ faults.Refused (refused rules.Typing g) → IsListBound {A = Unit {0}} s c k b ts g xs (Err e) k' b'
list_other l q = record { answers = refusing _ _ _ q (patterned.ListFails.other_count l) }

pub list_fails : {s : Scope} {c : Context} {k k' : Known} {b b' : Bound} {ts : List Sort} {g : Place} {xs : List Pattern} {res : Result (Unit {0}) RuleFault} (e : RuleFault) → length ts ≡ length xs → AreBound {A = Unit {0}} s c k b ts xs (Err e) k' b' → res ≡ Err e → IsListBound s c k b ts g xs res k' b'
list_fails e l i q = record { answers = failing _ _ _ e (λ r h. patterned.ListFails.one_of_them l h) i.answers q }

pub list_bound : {s : Scope} {c : Context} {k k' : Known} {b b' : Bound} {ts : List Sort} {g : Place} {xs : List Pattern} → AreBound {A = Unit {0}} s c k b ts xs (Ok tt) k' b' → IsListBound {A = Unit {0}} s c k b ts g xs (Ok tt) k' b'
list_bound i = record { answers = i.answers }

-- ---- patterns that may bind nothing
pub head_passes : {s : Scope} {c : Context} {k k' : Known} {w : Sort} {e : GhostExprTree} → IsChecked {A = Unit {0}} s c k w (place_of e) e (Ok tt) k' → IsHead {A = Unit {0}} s c k w (patterns.Is e) (Ok tt) k'
head_passes i = record { answers = (i.answers.0, patterned.HeadPasses.value i.answers.1) }

pub head_fails : {s : Scope} {c : Context} {k k' : Known} {w : Sort} {x : GhostExprTree} {res : Result (Unit {0}) RuleFault} (e : RuleFault) → IsChecked {A = Unit {0}} s c k w (place_of x) x (Err e) k' → res ≡ Err e → IsHead s c k w (patterns.Is x) res k'
head_fails e i q = record { answers = failing _ _ _ e (λ r h. patterned.HeadFails.value h) i.answers q }

pub head_named : {s : Scope} {c : Context} {k k' : Known} {w : Sort} {p : Place} {n : Name} {e : RuleFault} → e ≡ faults.Refused (refused rules.Typing p) → IsHead {A = Unit {0}} s c k w (patterns.Binds p n) (Err e) k'
head_named q = record { answers = refusing _ _ _ q patterned.HeadFails.named }

pub head_wild : {s : Scope} {c : Context} {k k' : Known} {w : Sort} {p : Place} {e : RuleFault} → e ≡ faults.Refused (refused rules.Typing p) → IsHead {A = Unit {0}} s c k w (patterns.Wild p) (Err e) k'
head_wild q = record { answers = refusing _ _ _ q patterned.HeadFails.anything }

pub heads_end : {s : Scope} {c : Context} {k : Known} (ts : List Sort) (xs : List Pattern) (i : ℕ) → length ts ≤ i → length xs ≤ i → AreHeads {A = Unit {0}} s c k (drop i ts) (drop i xs) (Ok tt) k
heads_end {s = s} {c = c} {k = k} ts xs i l m =
    subst (λ (us : List Sort). AreHeads {A = Unit {0}} s c k us (drop i xs) (Ok tt) k) (sym (left_end ts i l))
    (subst (λ (ys : List Pattern). AreHeads {A = Unit {0}} s c k [] ys (Ok tt) k) (sym (left_end xs i m)) (record { answers = (omega arith, patterned.HeadsPass.none_pass) }))

pub heads_halt : {s : Scope} {c : Context} {k k' : Known} {t : Sort} {x : Pattern} {res : Result (Unit {0}) RuleFault} (ts : List Sort) (xs : List Pattern) (i : ℕ) (e : RuleFault) → slice_get ts i ≡ Some t → slice_get xs i ≡ Some x → IsHead {A = Unit {0}} s c k t x (Err e) k' → res ≡ Err e → AreHeads s c k (drop i ts) (drop i xs) res k'
heads_halt {s = s} {c = c} {k = k} {k' = k'} {t = t} {x = x} {res = res} ts xs i e g h a q =
    subst (λ (us : List Sort). AreHeads s c k us (drop i xs) res k') (sym (left_at ts i t g))
    (subst (λ (ys : List Pattern). AreHeads s c k (t ∷ drop (i + 1) ts) ys res k') (sym (left_at xs i x h)) (record { answers = failing _ _ _ e (λ r f. patterned.this_head f) a.answers q }))

heads_on : {s : Scope} {c : Context} {k k₁ : Known} {t : Sort} {ts : List Sort} {x : Pattern} {xs : List Pattern} → IsHead {A = Unit {0}} s c k t x (Ok tt) k₁ → (r : Result (Unit {0}) RuleFault) (k' : Known) → AreHeads s c k₁ ts xs r k' → AreHeads s c k (t ∷ ts) (x ∷ xs) r k'
heads_on i (Ok v) k' j = let l = i.answers.0 in let m = j.answers.0 in record { answers = (omega (arith, l, m), patterned.HeadsPass.one_passes i.answers.1 j.answers.1) }
heads_on i (Err e) k' j = record { answers = told _ _ e (λ r h. patterned.later_head i.answers.1 h) j.answers }

pub heads_next : {s : Scope} {c : Context} {k k₁ k' : Known} {t : Sort} {x : Pattern} {r : Result (Unit {0}) RuleFault} (ts : List Sort) (xs : List Pattern) (i : ℕ) → slice_get ts i ≡ Some t → slice_get xs i ≡ Some x → IsHead {A = Unit {0}} s c k t x (Ok tt) k₁ → AreHeads s c k₁ (drop (i + 1) ts) (drop (i + 1) xs) r k' → AreHeads s c k (drop i ts) (drop i xs) r k'
heads_next {s = s} {c = c} {k = k} {k' = k'} {t = t} {x = x} {r = r} ts xs i g h a j =
    subst (λ (us : List Sort). AreHeads s c k us (drop i xs) r k') (sym (left_at ts i t g))
    (subst (λ (ys : List Pattern). AreHeads s c k (t ∷ drop (i + 1) ts) ys r k') (sym (left_at xs i x h)) (heads_on a r k' j))

pub heads_other : {s : Scope} {c : Context} {k k' : Known} {ts : List Sort} {g : Place} {xs : List Pattern} {e : RuleFault} → length ts ≢ length xs → e ≡ faults.Refused (refused rules.Typing g) → IsHeadList {A = Unit {0}} s c k ts g xs (Err e) k'
heads_other l q = record { answers = refusing _ _ _ q (patterned.HeadsFail.other_count l) }

pub heads_fail : {s : Scope} {c : Context} {k k' : Known} {ts : List Sort} {g : Place} {xs : List Pattern} {res : Result (Unit {0}) RuleFault} (e : RuleFault) → length ts ≡ length xs → AreHeads {A = Unit {0}} s c k ts xs (Err e) k' → res ≡ Err e → IsHeadList s c k ts g xs res k'
heads_fail e l i q = record { answers = failing _ _ _ e (λ r h. patterned.HeadsFail.one_of_them l h) i.answers q }

pub heads_pass : {s : Scope} {c : Context} {k k' : Known} {ts : List Sort} {g : Place} {xs : List Pattern} → AreHeads {A = Unit {0}} s c k ts xs (Ok tt) k' → IsHeadList {A = Unit {0}} s c k ts g xs (Ok tt) k'
heads_pass i = record { answers = i.answers }

-- ---- shares
-- the name of a fraction as an expression
fraction : Name → GhostExprTree
fraction n = tree.name_ n.place n.text

pub fraction_below : (n : ℕ) (t : Sort) → t ≡ fraction_sort → IsBelow n t
fraction_below n t e = subst (IsBelow n) (sym e) tt

pub fraction_unnamed : {s : Scope} {c : Context} {k k' : Known} {n : Name} {res : Result (Unit {0}) RuleFault} (e : RuleFault) → IsSorted s c k (tree.name_ n.place n.text) (Err e) k' → res ≡ Err e → IsChecked s c k fraction_sort n.place (tree.name_ n.place n.text) res k'
fraction_unnamed e i q = sort_fails e refl i q

pub fraction_other : {s : Scope} {c : Context} {k k₁ k' : Known} {n : Name} {t w : Sort} {res : Result (Unit {0}) RuleFault} (e : RuleFault) → IsSorted s c k (tree.name_ n.place n.text) (Ok t) k₁ → w ≡ fraction_sort → IsEquated {A = Unit {0}} k₁ t w n.place (Err e) k' → res ≡ Err e → IsChecked s c k fraction_sort n.place (tree.name_ n.place n.text) res k'
fraction_other {k₁ = k₁} {k' = k'} {n = n} {t = t} e i w j q = apart_fails e refl refl refl refl i (subst (λ (u : Sort). IsEquated {A = Unit {0}} k₁ t u n.place (Err e) k') w j) q

pub fraction_named : {s : Scope} {c : Context} {k k₁ k' : Known} {n : Name} {t w : Sort} → IsSorted s c k (tree.name_ n.place n.text) (Ok t) k₁ → w ≡ fraction_sort → IsEquated {A = Unit {0}} k₁ t w n.place (Ok tt) k' → IsChecked {A = Unit {0}} s c k fraction_sort n.place (tree.name_ n.place n.text) (Ok tt) k'
fraction_named {k₁ = k₁} {k' = k'} {n = n} {t = t} i w j = wanted_passes refl refl refl refl i (subst (λ (u : Sort). IsEquated {A = Unit {0}} k₁ t u n.place (Ok tt) k') w j)

pub number_wrong : {s : Scope} {c : Context} {k k' : Known} {d y : Bool} {n : ℕ} {i : IntType} {p : Place} {e : RuleFault} → y ≡ is_factor d n → y ≡ false → e ≡ faults.Refused (refused rules.Typing p) → IsFactor {A = Unit {0}} s c k d (factors.Number n i p) (Err e) k'
number_wrong w y q = record { answers = refusing _ _ _ q (shared.FactorFails.number (sym w ∙ y)) }

pub number_right : {s : Scope} {c : Context} {k : Known} {d y : Bool} {n : ℕ} {i : IntType} {p : Place} → y ≡ is_factor d n → y ≡ true → IsFactor {A = Unit {0}} s c k d (factors.Number n i p) (Ok tt) k
number_right w y = record { answers = (omega arith, shared.FactorPasses.number (sym w ∙ y)) }

pub factor_unnamed : {s : Scope} {c : Context} {k k' : Known} {d : Bool} {n : Name} {res : Result (Unit {0}) RuleFault} (e : RuleFault) → IsChecked {A = Unit {0}} s c k fraction_sort n.place (tree.name_ n.place n.text) (Err e) k' → res ≡ Err e → IsFactor s c k d (factors.Name n) res k'
factor_unnamed e i q = record { answers = failing _ _ _ e (λ r h. shared.FactorFails.named h) i.answers q }

pub factor_divides : {s : Scope} {c : Context} {k k' : Known} {d : Bool} {n : Name} {e : RuleFault} → IsChecked {A = Unit {0}} s c k fraction_sort n.place (tree.name_ n.place n.text) (Ok tt) k' → d ≡ true → e ≡ faults.Refused (refused rules.Typing n.place) → IsFactor {A = Unit {0}} s c k d (factors.Name n) (Err e) k'
factor_divides {s = s} {c = c} {k = k} {n = n} i y q = record { answers = refusing _ _ _ q (subst (λ (d : Bool). shared.FactorFails s c k d (factors.Name n) (refused rules.Typing n.place)) (sym y) (shared.FactorFails.divisor i.answers.1)) }

pub factor_named : {s : Scope} {c : Context} {k k' : Known} {d : Bool} {n : Name} → IsChecked {A = Unit {0}} s c k fraction_sort n.place (tree.name_ n.place n.text) (Ok tt) k' → d ≡ false → IsFactor {A = Unit {0}} s c k d (factors.Name n) (Ok tt) k'
factor_named {s = s} {c = c} {k = k} {k' = k'} {n = n} i y = record { answers = (i.answers.0, subst (λ (d : Bool). shared.FactorPasses s c k d (factors.Name n) k') (sym y) (shared.FactorPasses.named i.answers.1)) }

pub links_end : {s : Scope} {c : Context} {k : Known} (ls : List FactorLink) (i : ℕ) → length ls ≤ i → AreFactors {A = Unit {0}} s c k (drop i ls) (Ok tt) k
links_end {s = s} {c = c} {k = k} ls i l = subst (λ (ys : List FactorLink). AreFactors {A = Unit {0}} s c k ys (Ok tt) k) (sym (left_end ls i l)) (record { answers = (omega arith, shared.LinksPass.none_pass) })

pub links_halt : {s : Scope} {c : Context} {k k' : Known} {l : FactorLink} {res : Result (Unit {0}) RuleFault} (ls : List FactorLink) (i : ℕ) (e : RuleFault) → slice_get ls i ≡ Some l → IsFactor {A = Unit {0}} s c k l.divides l.factor (Err e) k' → res ≡ Err e → AreFactors s c k (drop i ls) res k'
links_halt {s = s} {c = c} {k = k} {k' = k'} {l = l} {res = res} ls i e g a q = subst (λ (ys : List FactorLink). AreFactors s c k ys res k') (sym (left_at ls i l g)) (record { answers = failing _ _ _ e (λ r f. shared.this_link f) a.answers q })

links_on : {s : Scope} {c : Context} {k k₁ : Known} {l : FactorLink} {ls : List FactorLink} → IsFactor {A = Unit {0}} s c k l.divides l.factor (Ok tt) k₁ → (r : Result (Unit {0}) RuleFault) (k' : Known) → AreFactors s c k₁ ls r k' → AreFactors s c k (l ∷ ls) r k'
links_on i (Ok v) k' j = let l = i.answers.0 in let m = j.answers.0 in record { answers = (omega (arith, l, m), shared.LinksPass.one_passes i.answers.1 j.answers.1) }
links_on i (Err e) k' j = record { answers = told _ _ e (λ r h. shared.later_link i.answers.1 h) j.answers }

pub links_next : {s : Scope} {c : Context} {k k₁ k' : Known} {l : FactorLink} {r : Result (Unit {0}) RuleFault} (ls : List FactorLink) (i : ℕ) → slice_get ls i ≡ Some l → IsFactor {A = Unit {0}} s c k l.divides l.factor (Ok tt) k₁ → AreFactors s c k₁ (drop (i + 1) ls) r k' → AreFactors s c k (drop i ls) r k'
links_next {s = s} {c = c} {k = k} {k' = k'} {l = l} {r = r} ls i g a j = subst (λ (ys : List FactorLink). AreFactors s c k ys r k') (sym (left_at ls i l g)) (links_on a r k' j)

pub fraction_binds : {s : Scope} {b b' : Bound} {n : Name} {w : Sort} {res : Result (Unit {0}) RuleFault} → w ≡ fraction_sort → IsNamed s b n w res b' → IsNamed s b n fraction_sort res b'
fraction_binds {s = s} {b = b} {b' = b'} {n = n} {res = res} w i = subst (λ (t : Sort). IsNamed s b n t res b') w i

pub amount_binds : {s : Scope} {c : Context} {k : Known} {b b' : Bound} {p : Place} {n : Name} → IsNamed {A = Unit {0}} s b n fraction_sort (Ok tt) b' → IsAmount {A = Unit {0}} s c k b (amounts.Binds p n) (Ok tt) k b'
amount_binds {s = s} {c = c} {k = k} {b = b} {p = p} {n = n} i = record { answers = (omega arith, subst (shared.AmountPasses s c k b (amounts.Binds p n) k) (sym i.answers.1) (shared.AmountPasses.bound i.answers.0)) }

pub amount_unbound : {s : Scope} {c : Context} {k k' : Known} {b b' : Bound} {p : Place} {n : Name} {res : Result (Unit {0}) RuleFault} (e : RuleFault) → IsNamed {A = Unit {0}} s b n fraction_sort (Err e) b' → res ≡ Err e → IsAmount s c k b (amounts.Binds p n) res k' b'
amount_unbound e i q = record { answers = failing _ _ _ e (λ r h. shared.AmountFails.bound h) i.answers q }

pub first_fails : {s : Scope} {c : Context} {k k' : Known} {b b' : Bound} {f : Factor} {ls : List FactorLink} {res : Result (Unit {0}) RuleFault} (e : RuleFault) → IsFactor {A = Unit {0}} s c k false f (Err e) k' → res ≡ Err e → IsAmount s c k b (amounts.Product f ls) res k' b'
first_fails e i q = record { answers = failing _ _ _ e (λ r h. shared.AmountFails.first h) i.answers q }

pub links_fail : {s : Scope} {c : Context} {k k₁ k' : Known} {b b' : Bound} {f : Factor} {ls : List FactorLink} {res : Result (Unit {0}) RuleFault} (e : RuleFault) → IsFactor {A = Unit {0}} s c k false f (Ok tt) k₁ → AreFactors {A = Unit {0}} s c k₁ ls (Err e) k' → res ≡ Err e → IsAmount s c k b (amounts.Product f ls) res k' b'
links_fail e i j q = record { answers = failing _ _ _ e (λ r h. shared.AmountFails.links i.answers.1 h) j.answers q }

pub product_passes : {s : Scope} {c : Context} {k k₁ k' : Known} {b : Bound} {f : Factor} {ls : List FactorLink} → IsFactor {A = Unit {0}} s c k false f (Ok tt) k₁ → AreFactors {A = Unit {0}} s c k₁ ls (Ok tt) k' → IsAmount {A = Unit {0}} s c k b (amounts.Product f ls) (Ok tt) k' b
product_passes i j = let l = i.answers.0 in let m = j.answers.0 in record { answers = (omega (arith, l, m), shared.AmountPasses.product i.answers.1 j.answers.1) }

pub share_whole : {s : Scope} {c : Context} {k : Known} {b : Bound} → IsShare {A = Unit {0}} s c k b None (Ok tt) k b
share_whole = record { answers = (omega arith, shared.SharePasses.whole) }

pub share_fails : {s : Scope} {c : Context} {k k' : Known} {b b' : Bound} {h : Share} {res : Result (Unit {0}) RuleFault} (e : RuleFault) → IsAmount {A = Unit {0}} s c k b h.amount (Err e) k' b' → res ≡ Err e → IsShare s c k b (Some h) res k' b'
share_fails e i q = record { answers = failing _ _ _ e (λ r f. shared.ShareFails.part f) i.answers q }

pub share_passes : {s : Scope} {c : Context} {k k' : Known} {b b' : Bound} {h : Share} → IsAmount {A = Unit {0}} s c k b h.amount (Ok tt) k' b' → IsShare {A = Unit {0}} s c k b (Some h) (Ok tt) k' b'
share_passes i = record { answers = (i.answers.0, shared.SharePasses.part i.answers.1) }

-- ---- what a chunk takes
pub heads_told : (n : ℕ) (t : ChunkSorts) (x y : Bool) → (hs : List Sort) → t.heads ≡ Some hs → (IsTrue x ↔ AreBelow n hs) → x ≡ true → (IsTrue y ↔ AreBelow n t.arguments) → IsTrue y ↔ IsTakenBelow n t
heads_told n t x y hs q a v b = rw q (λ h. (a.0 v, b.0 h), λ h. b.1 h.1)

pub heads_not_told : (n : ℕ) (t : ChunkSorts) (x : Bool) → (hs : List Sort) → t.heads ≡ Some hs → (IsTrue x ↔ AreBelow n hs) → x ≡ false → IsTrue false ↔ IsTakenBelow n t
heads_not_told n t x hs q a v = rw q (λ h. absurd cc, λ h. let yes_is = a.1 h.0 in absurd cc)
