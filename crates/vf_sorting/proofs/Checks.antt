-- Answers for expressions of which a sort is wanted, and for operators, from the answers for their parts.
use Rattle.std.proofs.Common.{◌≡◌, ℕ, ◌+◌, ◌≤◌, Bool, true, false, List, [], ◌∷◌, length, drop, Result, Ok, Err, Some, slice_get, sym, ◌∙◌, ap, ap₂, subst, arith}
use Rattle.std.specs.Prelude.{◌&&◌, ◌||◌, nat_eq}
use Rattle.vf_base.specs.declared.int_type.IntType.{IntType}
use Rattle.vf_base.specs.declared.place.Place.{Place}
use Rattle.vf_base.specs.declared.refusal.Refusal.{Refusal}
use Rattle.vf_base.specs.declared.refusal.RuleFault.{RuleFault}
use Rattle.vf_base.specs.declared.rule.Rule.TheVariants as rules
use Rattle.vf_sorts.specs.Sorts.{Sort}
use Rattle.vf_sorts.specs.Unknowns.{IsBelow, Known, instance}
use Rattle.vf_sorts.specs.Unifying.{Equates}
use Rattle.vf_declared.specs.declared.scope.Scope.{Scope}
use Rattle.vf_syntax.specs.declared.operator.BinaryOperator.{BinaryOperator}
use Rattle.vf_syntax.specs.GhostExprTree.{GhostExprTree, GhostExprTrees, ghost_expr_list, more_ghost_expr, no_ghost_expr, GhostLinkTree, GhostLinkTrees, ghost_link_list, more_ghost_link, no_ghost_link}
use Rattle.vf_syntax.specs.GhostExprTree as tree
use Rattle.vf_sorting.specs.declared.context.Context.{Context}
use Rattle.vf_sorting.specs.Answers.{Tells, IsApart, AreChecked, AreLinked, IsChecked, IsEquated, IsLinked, IsMet, IsSorted}
use Rattle.vf_sorting.specs.HasSort as has
use Rattle.vf_sorting.specs.IsRefused as refuses
use Rattle.vf_sorting.specs.Kinds.{bool_sort, int_sort, is_any, is_pointer, pointer_sort, resolved, value_sort}
use Rattle.vf_sorting.specs.Operators.{goes_inside, is_equality, is_null, moves, operand_sort, place_of, result_sort}
use Rattle.vf_sorting.specs.Refusals.{refused}
use Rattle.vf_sorting.proofs.Below.{below_more}
use Rattle.vf_sorting.proofs.Lists.{left_at, left_end}
use Rattle.vf_sorting.proofs.Steps.{result_is, told}

-- ---- an expression passes or fails
fails_at : {s : Scope} {c : Context} {k k' : Known} {w : Sort} {g : Place} {x : GhostExprTree} {res : Result (Unit {0}) RuleFault} (Q : Refusal → Type 0) (e : RuleFault) → ((r : Refusal) → Q r → refuses.Fails s c k w g x r) → Tells Q e → res ≡ Err e → IsChecked s c k w g x res k'
fails_at {s = s} {c = c} {k = k} {k' = k'} {w = w} {g = g} {x = x} Q e f a q = subst (λ (y : Result (Unit {0}) RuleFault). IsChecked s c k w g x y k') (sym q) (record { answers = told Q (refuses.Fails s c k w g x) e f a })

pub inside_fails : {s : Scope} {c : Context} {k k' : Known} {w : Sort} {g p : Place} {a : GhostExprTree} {res : Result (Unit {0}) RuleFault} (e : RuleFault) → IsChecked {A = Unit {0}} s c k w g a (Err e) k' → res ≡ Err e → IsChecked s c k w g (tree.parenthesized p a) res k'
inside_fails e i q = fails_at _ e (λ r h. refuses.inside h) i.answers q

pub inside_passes : {s : Scope} {c : Context} {k k' : Known} {w : Sort} {g p : Place} {a : GhostExprTree} → IsChecked {A = Unit {0}} s c k w g a (Ok tt) k' → IsChecked {A = Unit {0}} s c k w g (tree.parenthesized p a) (Ok tt) k'
inside_passes i = record { answers = (i.answers.0, has.inside i.answers.1) }

pub null_passes : {s : Scope} {c : Context} {k : Known} {w t : Sort} {g p : Place} {n : ℕ} {i : IntType} {y : Bool} → t ≡ resolved k w → y ≡ (is_pointer t && nat_eq n 0) → y ≡ true → IsChecked {A = Unit {0}} s c k w g (tree.number p n i) (Ok tt) k
null_passes {n = n} q y h = record { answers = (omega arith, has.null (ap (λ (t : Sort). is_pointer t && nat_eq n 0) (sym q) ∙ sym y ∙ h)) }

pub number_whole : (k : Known) (w t : Sort) (p : Place) (n : ℕ) (i : IntType) (y : Bool) → t ≡ resolved k w → y ≡ (is_pointer t && nat_eq n 0) → y ≡ false → goes_inside (is_pointer (resolved k w)) (tree.number p n i) ≡ false
number_whole k w t p n i y q e h = ap (λ (t : Sort). is_pointer t && nat_eq n 0) (sym q) ∙ sym e ∙ h

pub choice_whole : (k : Known) (w t : Sort) (p : Place) (a b d : GhostExprTree) (y : Bool) → t ≡ resolved k w → y ≡ is_pointer t → y ≡ false → goes_inside (is_pointer (resolved k w)) (tree.conditional p a b d) ≡ false
choice_whole k w t p a b d y q e h = ap is_pointer (sym q) ∙ sym e ∙ h

pub checked_there : {A : Type 0} {s : Scope} {c : Context} {k k' : Known} {w : Sort} {x : GhostExprTree} {r : Result A RuleFault} {g : Place} → g ≡ place_of x → IsChecked s c k w g x r k' → IsChecked s c k w (place_of x) x r k'
checked_there {s = s} {c = c} {k = k} {k' = k'} {w = w} {x = x} {r = r} q i = subst (λ (g : Place). IsChecked s c k w g x r k') q i

pub choice_test_fails : {s : Scope} {c : Context} {k k' : Known} {w t v : Sort} {g p : Place} {a b d : GhostExprTree} {y : Bool} {res : Result (Unit {0}) RuleFault} (e : RuleFault) → t ≡ resolved k w → y ≡ is_pointer t → y ≡ true → v ≡ bool_sort → IsChecked {A = Unit {0}} s c k v (place_of a) a (Err e) k' → res ≡ Err e → IsChecked s c k w g (tree.conditional p a b d) res k'
choice_test_fails {s = s} {c = c} {k = k} {a = a} e q y h v i m = fails_at _ e (λ r f. refuses.choice_test (ap is_pointer (sym q) ∙ sym y ∙ h) (subst (λ (u : Sort). refuses.Fails s c k u (place_of a) a r) v f)) i.answers m

pub choice_first_fails : {s : Scope} {c : Context} {k k₁ k' : Known} {w t v : Sort} {g p : Place} {a b d : GhostExprTree} {y : Bool} {res : Result (Unit {0}) RuleFault} (e : RuleFault) → t ≡ resolved k w → y ≡ is_pointer t → y ≡ true → v ≡ bool_sort → IsChecked {A = Unit {0}} s c k v (place_of a) a (Ok tt) k₁ → IsChecked {A = Unit {0}} s c k₁ w (place_of b) b (Err e) k' → res ≡ Err e → IsChecked {A = Unit {0}} s c k w g (tree.conditional p a b d) res k'
choice_first_fails {s = s} {c = c} {k = k} {k₁ = k₁} {a = a} e q y h v i j m = fails_at _ e (λ r f. refuses.choice_first (ap is_pointer (sym q) ∙ sym y ∙ h) (subst (λ (u : Sort). has.Passes s c k u (place_of a) a k₁) v i.answers.1) f) j.answers m

pub choice_second_fails : {s : Scope} {c : Context} {k k₁ k₂ k' : Known} {w t v : Sort} {g p : Place} {a b d : GhostExprTree} {y : Bool} {res : Result (Unit {0}) RuleFault} (e : RuleFault) → t ≡ resolved k w → y ≡ is_pointer t → y ≡ true → v ≡ bool_sort → IsChecked {A = Unit {0}} s c k v (place_of a) a (Ok tt) k₁ → IsChecked {A = Unit {0}} s c k₁ w (place_of b) b (Ok tt) k₂ → IsChecked {A = Unit {0}} s c k₂ w (place_of d) d (Err e) k' → res ≡ Err e → IsChecked {A = Unit {0}} s c k w g (tree.conditional p a b d) res k'
choice_second_fails {s = s} {c = c} {k = k} {k₁ = k₁} {a = a} e q y h v i j l m = fails_at _ e (λ r f. refuses.choice_second (ap is_pointer (sym q) ∙ sym y ∙ h) (subst (λ (u : Sort). has.Passes s c k u (place_of a) a k₁) v i.answers.1) j.answers.1 f) l.answers m

pub choice_passes : {s : Scope} {c : Context} {k k₁ k₂ k' : Known} {w t v : Sort} {g p : Place} {a b d : GhostExprTree} {y : Bool} → t ≡ resolved k w → y ≡ is_pointer t → y ≡ true → v ≡ bool_sort → IsChecked {A = Unit {0}} s c k v (place_of a) a (Ok tt) k₁ → IsChecked {A = Unit {0}} s c k₁ w (place_of b) b (Ok tt) k₂ → IsChecked {A = Unit {0}} s c k₂ w (place_of d) d (Ok tt) k' → IsChecked {A = Unit {0}} s c k w g (tree.conditional p a b d) (Ok tt) k'
choice_passes {s = s} {c = c} {k = k} {k₁ = k₁} {a = a} q y h v i j l =
    let x = i.answers.0 in let z = j.answers.0 in let u = l.answers.0 in
    record { answers = (omega (arith, x, z, u), has.choice (ap is_pointer (sym q) ∙ sym y ∙ h) (subst (λ (u : Sort). has.Passes s c k u (place_of a) a k₁) v i.answers.1) j.answers.1 l.answers.1) }

-- ---- where the sort of the whole decides
pub sort_fails : {s : Scope} {c : Context} {k k' : Known} {w : Sort} {g : Place} {x : GhostExprTree} {res : Result (Unit {0}) RuleFault} (e : RuleFault) → goes_inside (is_pointer (resolved k w)) x ≡ false → IsSorted s c k x (Err e) k' → res ≡ Err e → IsChecked s c k w g x res k'
sort_fails e o i q = fails_at _ e (λ r h. refuses.no_sort o h) i.answers q

pub any_passes : {s : Scope} {c : Context} {k k' : Known} {w t u : Sort} {g : Place} {x : GhostExprTree} {y : Bool} → goes_inside (is_pointer (resolved k w)) x ≡ false → t ≡ resolved k w → y ≡ is_any t → y ≡ true → IsSorted s c k x (Ok u) k' → IsChecked {A = Unit {0}} s c k w g x (Ok tt) k'
any_passes o q y h i = record { answers = (i.answers.0, has.any_wanted o (ap is_any (sym q) ∙ sym y ∙ h) i.answers.2) }

pub apart_fails : {s : Scope} {c : Context} {k k₁ k' : Known} {w t u : Sort} {g : Place} {x : GhostExprTree} {y : Bool} {res : Result (Unit {0}) RuleFault} (e : RuleFault) → goes_inside (is_pointer (resolved k w)) x ≡ false → t ≡ resolved k w → y ≡ is_any t → y ≡ false → IsSorted s c k x (Ok u) k₁ → IsEquated {A = Unit {0}} k₁ u w g (Err e) k' → res ≡ Err e → IsChecked s c k w g x res k'
apart_fails {s = s} {c = c} {k = k} {w = w} {g = g} {x = x} e o q y h i m l = fails_at _ e (λ r f. subst (refuses.Fails s c k w g x) (sym f.1) (refuses.other_sort o (ap is_any (sym q) ∙ sym y ∙ h) i.answers.2 f.0)) m.answers l

pub wanted_passes : {s : Scope} {c : Context} {k k₁ k' : Known} {w t u : Sort} {g : Place} {x : GhostExprTree} {y : Bool} → goes_inside (is_pointer (resolved k w)) x ≡ false → t ≡ resolved k w → y ≡ is_any t → y ≡ false → IsSorted s c k x (Ok u) k₁ → IsEquated {A = Unit {0}} k₁ u w g (Ok tt) k' → IsChecked {A = Unit {0}} s c k w g x (Ok tt) k'
wanted_passes o q y h i m = let l = i.answers.0 in let e = m.answers.long in record { answers = (omega (arith, l, e), has.as_wanted o (ap is_any (sym q) ∙ sym y ∙ h) i.answers.2 m.answers) }

-- ---- two expressions that meet
not_null : {f : Sort} {v y : Bool} (k : Known) (t : Sort) (d : GhostExprTree) → f ≡ resolved k t → v ≡ is_null d → y ≡ (is_pointer f && v) → y ≡ false → (is_pointer (resolved k t) && is_null d) ≡ false
not_null k t d q v y h = ap₂ (λ (t : Sort) (b : Bool). is_pointer t && b) (sym q) (sym v) ∙ sym y ∙ h

fails_to_meet : {s : Scope} {c : Context} {k k' : Known} {z : Bool} {t : Sort} {x : GhostExprTree} {res : Result Sort RuleFault} (Q : Refusal → Type 0) (e : RuleFault) → ((r : Refusal) → Q r → refuses.FailsToMeet s c k z t x r) → Tells Q e → res ≡ Err e → IsMet s c k z t x res k'
fails_to_meet {s = s} {c = c} {k = k} {k' = k'} {z = z} {t = t} {x = x} Q e f a q = subst (λ (y : Result Sort RuleFault). IsMet s c k z t x y k') (sym q) (record { answers = told Q (refuses.FailsToMeet s c k z t x) e f a })

pub met_null_second : {s : Scope} {c : Context} {k : Known} {z : Bool} {t f : Sort} {d : GhostExprTree} {v y : Bool} → IsBelow (length k) t → f ≡ resolved k t → v ≡ is_null d → y ≡ (is_pointer f && v) → y ≡ true → IsMet s c k z t d (Ok t) k
met_null_second b q v y h = record { answers = (omega arith, b, has.null_second (ap₂ (λ (t : Sort) (b : Bool). is_pointer t && b) (sym q) (sym v) ∙ sym y ∙ h)) }

pub met_fails : {s : Scope} {c : Context} {k k' : Known} {z : Bool} {t f : Sort} {d : GhostExprTree} {v y : Bool} {res : Result Sort RuleFault} (e : RuleFault) → f ≡ resolved k t → v ≡ is_null d → y ≡ (is_pointer f && v) → y ≡ false → IsSorted s c k d (Err e) k' → res ≡ Err e → IsMet s c k z t d res k'
met_fails {k = k} {t = t} {d = d} e q v y h i m = fails_to_meet _ e (λ r f. refuses.second (not_null k t d q v y h) f) i.answers m

pub met_null_first : {s : Scope} {c : Context} {k k' : Known} {z : Bool} {t f u g : Sort} {d : GhostExprTree} {v y x : Bool} → f ≡ resolved k t → v ≡ is_null d → y ≡ (is_pointer f && v) → y ≡ false → IsSorted s c k d (Ok u) k' → g ≡ resolved k' u → x ≡ (is_pointer g && z) → x ≡ true → IsMet s c k z t d (Ok u) k'
met_null_first {k = k} {z = z} {t = t} {d = d} q v y h i g x l = record { answers = (i.answers.0, i.answers.1, has.null_first (not_null k t d q v y h) i.answers.2 (ap (λ (t : Sort). is_pointer t && z) (sym g) ∙ sym x ∙ l)) }

pub met_any : {s : Scope} {c : Context} {k k' : Known} {z : Bool} {t f u g j w : Sort} {d : GhostExprTree} {v y x n : Bool} → f ≡ resolved k t → v ≡ is_null d → y ≡ (is_pointer f && v) → y ≡ false → IsSorted s c k d (Ok u) k' → g ≡ resolved k' u → x ≡ (is_pointer g && z) → x ≡ false → j ≡ resolved k' t → n ≡ (is_any j || is_any g) → n ≡ true → w ≡ value_sort → IsMet s c k z t d (Ok w) k'
met_any {s = s} {c = c} {k = k} {k' = k'} {z = z} {t = t} {d = d} q v y h i g x l j n m w =
    subst (λ (u : Sort). IsMet s c k z t d (Ok u) k') (sym w)
    (record { answers = (i.answers.0, tt, has.any_beside (not_null k t d q v y h) i.answers.2 (ap (λ (t : Sort). is_pointer t && z) (sym g) ∙ sym x ∙ l) (ap₂ (λ (a b : Sort). is_any a || is_any b) (sym j) (sym g) ∙ sym n ∙ m)) })

pub met_apart : {s : Scope} {c : Context} {k k₁ k' : Known} {z : Bool} {t f u g j : Sort} {d : GhostExprTree} {v y x n : Bool} {p : Place} {res : Result Sort RuleFault} (e : RuleFault) → f ≡ resolved k t → v ≡ is_null d → y ≡ (is_pointer f && v) → y ≡ false → IsSorted s c k d (Ok u) k₁ → g ≡ resolved k₁ u → x ≡ (is_pointer g && z) → x ≡ false → j ≡ resolved k₁ t → n ≡ (is_any j || is_any g) → n ≡ false → p ≡ place_of d → IsEquated {A = Unit {0}} k₁ u t p (Err e) k' → res ≡ Err e → IsMet s c k z t d res k'
met_apart {s = s} {c = c} {k = k} {z = z} {t = t} {d = d} e q v y h i g x l j n m p a w =
    fails_to_meet _ e (λ r f. subst (refuses.FailsToMeet s c k z t d) (sym (f.1 ∙ ap (refused rules.Typing) p))
    (refuses.apart (not_null k t d q v y h) i.answers.2 (ap (λ (t : Sort). is_pointer t && z) (sym g) ∙ sym x ∙ l) (ap₂ (λ (a b : Sort). is_any a || is_any b) (sym j) (sym g) ∙ sym n ∙ m) f.0)) a.answers w

pub met_alike : {s : Scope} {c : Context} {k k₁ k' : Known} {z : Bool} {t f u g j : Sort} {d : GhostExprTree} {v y x n : Bool} {p : Place} → IsBelow (length k) t → f ≡ resolved k t → v ≡ is_null d → y ≡ (is_pointer f && v) → y ≡ false → IsSorted s c k d (Ok u) k₁ → g ≡ resolved k₁ u → x ≡ (is_pointer g && z) → x ≡ false → j ≡ resolved k₁ t → n ≡ (is_any j || is_any g) → n ≡ false → IsEquated {A = Unit {0}} k₁ u t p (Ok tt) k' → IsMet s c k z t d (Ok t) k'
met_alike {k = k} {k' = k'} {z = z} {t = t} {d = d} b q v y h i g x l j n m a =
    let e = a.answers.long in let le = i.answers.0 in
    let more : length k ≤ length k' = omega (arith, e, le) in
    record { answers = (more, below_more (length k) (length k') more t b, has.alike (not_null k t d q v y h) i.answers.2 (ap (λ (t : Sort). is_pointer t && z) (sym g) ∙ sym x ∙ l) (ap₂ (λ (a b : Sort). is_any a || is_any b) (sym j) (sym g) ∙ sym n ∙ m) a.answers) }

-- ---- an operator and its operand
link_fails : {s : Scope} {c : Context} {k k' : Known} {z : Bool} {p : Place} {t : Sort} {x : GhostLinkTree} {res : Result Sort RuleFault} (Q : Refusal → Type 0) (e : RuleFault) → ((r : Refusal) → Q r → refuses.LinkFails s c k z p t x r) → Tells Q e → res ≡ Err e → IsLinked s c k z p t x res k'
link_fails {s = s} {c = c} {k = k} {k' = k'} {z = z} {p = p} {t = t} {x = x} Q e f a q = subst (λ (y : Result Sort RuleFault). IsLinked s c k z p t x y k') (sym q) (record { answers = told Q (refuses.LinkFails s c k z p t x) e f a })

pub compared_fails : {s : Scope} {c : Context} {k k' : Known} {z y : Bool} {p g : Place} {t : Sort} {o : BinaryOperator} {a : GhostExprTree} {res : Result Sort RuleFault} (e : RuleFault) → y ≡ is_equality o → y ≡ true → IsMet s c k z t a (Err e) k' → res ≡ Err e → IsLinked s c k z p t (tree.ghost_link g o a) res k'
compared_fails e y h i q = link_fails _ e (λ r f. refuses.compared (sym y ∙ h) f) i.answers q

pub compared_linked : {s : Scope} {c : Context} {k k' : Known} {z y : Bool} {p g : Place} {t u v : Sort} {o : BinaryOperator} {a : GhostExprTree} → y ≡ is_equality o → y ≡ true → IsMet s c k z t a (Ok u) k' → v ≡ bool_sort → IsLinked s c k z p t (tree.ghost_link g o a) (Ok v) k'
compared_linked {s = s} {c = c} {k = k} {k' = k'} {z = z} {p = p} {g = g} {t = t} {o = o} {a = a} y h i v =
    subst (λ (u : Sort). IsLinked s c k z p t (tree.ghost_link g o a) (Ok u) k') (sym v) (record { answers = (i.answers.0, tt, has.compared (sym y ∙ h) i.answers.2) })

pub moved_fails : {s : Scope} {c : Context} {k k' : Known} {z y x : Bool} {p g : Place} {t f w : Sort} {o : BinaryOperator} {a : GhostExprTree} {res : Result Sort RuleFault} (e : RuleFault) → y ≡ is_equality o → y ≡ false → f ≡ resolved k t → x ≡ moves o f → x ≡ true → w ≡ int_sort → IsChecked {A = Unit {0}} s c k w (place_of a) a (Err e) k' → res ≡ Err e → IsLinked s c k z p t (tree.ghost_link g o a) res k'
moved_fails {s = s} {c = c} {k = k} {o = o} {a = a} e y h f x l w i q = link_fails _ e (λ r m. refuses.moved (sym y ∙ h) (ap (moves o) (sym f) ∙ sym x ∙ l) (subst (λ (u : Sort). refuses.Fails s c k u (place_of a) a r) w m)) i.answers q

pub moved_linked : {s : Scope} {c : Context} {k k' : Known} {z y x : Bool} {p g : Place} {t f w v : Sort} {o : BinaryOperator} {a : GhostExprTree} → y ≡ is_equality o → y ≡ false → f ≡ resolved k t → x ≡ moves o f → x ≡ true → w ≡ int_sort → IsChecked {A = Unit {0}} s c k w (place_of a) a (Ok tt) k' → v ≡ pointer_sort → IsLinked s c k z p t (tree.ghost_link g o a) (Ok v) k'
moved_linked {s = s} {c = c} {k = k} {k' = k'} {z = z} {p = p} {g = g} {t = t} {o = o} {a = a} y h f x l w i v =
    subst (λ (u : Sort). IsLinked s c k z p t (tree.ghost_link g o a) (Ok u) k') (sym v)
    (record { answers = (i.answers.0, tt, has.moved (sym y ∙ h) (ap (moves o) (sym f) ∙ sym x ∙ l) (subst (λ (u : Sort). has.Passes s c k u (place_of a) a k') w i.answers.1)) })

pub left_fails : {s : Scope} {c : Context} {k k' : Known} {z y x : Bool} {p g : Place} {t f w : Sort} {o : BinaryOperator} {a : GhostExprTree} {res : Result Sort RuleFault} (e : RuleFault) → y ≡ is_equality o → y ≡ false → f ≡ resolved k t → x ≡ moves o f → x ≡ false → w ≡ operand_sort o → IsEquated {A = Unit {0}} k t w p (Err e) k' → res ≡ Err e → IsLinked s c k z p t (tree.ghost_link g o a) res k'
left_fails {s = s} {c = c} {k = k} {z = z} {p = p} {g = g} {t = t} {o = o} {a = a} e y h f x l w i q =
    link_fails (IsApart k t (operand_sort o) p) e (λ r m. subst (refuses.LinkFails s c k z p t (tree.ghost_link g o a)) (sym m.1) (refuses.left (sym y ∙ h) (ap (moves o) (sym f) ∙ sym x ∙ l) m.0)) (subst (λ (u : Sort). Tells (IsApart k t u p) e) w i.answers) q

pub right_fails : {s : Scope} {c : Context} {k k₁ k' : Known} {z y x : Bool} {p g : Place} {t f w : Sort} {o : BinaryOperator} {a : GhostExprTree} {res : Result Sort RuleFault} (e : RuleFault) → y ≡ is_equality o → y ≡ false → f ≡ resolved k t → x ≡ moves o f → x ≡ false → w ≡ operand_sort o → IsEquated {A = Unit {0}} k t w p (Ok tt) k₁ → IsChecked {A = Unit {0}} s c k₁ w (place_of a) a (Err e) k' → res ≡ Err e → IsLinked s c k z p t (tree.ghost_link g o a) res k'
right_fails {s = s} {c = c} {k = k} {k₁ = k₁} {t = t} {o = o} {a = a} e y h f x l w j i q =
    link_fails _ e (λ r m. refuses.right (sym y ∙ h) (ap (moves o) (sym f) ∙ sym x ∙ l) (subst (λ (u : Sort). Equates k t u k₁) w j.answers) (subst (λ (u : Sort). refuses.Fails s c k₁ u (place_of a) a r) w m)) i.answers q

pub joined_linked : {s : Scope} {c : Context} {k k₁ k' : Known} {z y x : Bool} {p g : Place} {t f w v : Sort} {o : BinaryOperator} {a : GhostExprTree} → y ≡ is_equality o → y ≡ false → f ≡ resolved k t → x ≡ moves o f → x ≡ false → w ≡ operand_sort o → IsEquated {A = Unit {0}} k t w p (Ok tt) k₁ → IsChecked {A = Unit {0}} s c k₁ w (place_of a) a (Ok tt) k' → v ≡ result_sort o → IsLinked s c k z p t (tree.ghost_link g o a) (Ok v) k'
joined_linked {s = s} {c = c} {k = k} {k₁ = k₁} {k' = k'} {z = z} {p = p} {g = g} {t = t} {o = o} {a = a} y h f x l w j i v =
    let e = j.answers.long in let le = i.answers.0 in
    subst (λ (u : Sort). IsLinked s c k z p t (tree.ghost_link g o a) (Ok u) k') (sym v)
    (record { answers = (omega (arith, e, le), result_is (length k') o, has.joined (sym y ∙ h) (ap (moves o) (sym f) ∙ sym x ∙ l) (subst (λ (u : Sort). Equates k t u k₁) w j.answers) (subst (λ (u : Sort). has.Passes s c k₁ u (place_of a) a k') w i.answers.1)) })

-- ---- operators and operands one after the other
pub links_done : {s : Scope} {c : Context} {k : Known} {z : Bool} {p : Place} {t : Sort} → IsBelow (length k) t → AreLinked s c k z p t no_ghost_link (Ok t) k
links_done b = record { answers = (omega arith, b, has.no_links) }

pub links_stop : {s : Scope} {c : Context} {k k' : Known} {z : Bool} {p : Place} {t : Sort} {x : GhostLinkTree} {xs : GhostLinkTrees} (e : RuleFault) → IsLinked s c k z p t x (Err e) k' → AreLinked s c k z p t (more_ghost_link x xs) (Err e) k'
links_stop e i = record { answers = told _ _ e (λ r h. refuses.this_link h) i.answers }

pub links_on : {s : Scope} {c : Context} {k k₁ : Known} {z : Bool} {p : Place} {t u : Sort} {x : GhostLinkTree} {xs : GhostLinkTrees} → IsLinked s c k z p t x (Ok u) k₁ → (r : Result Sort RuleFault) (k' : Known) → AreLinked s c k₁ false p u xs r k' → AreLinked s c k z p t (more_ghost_link x xs) r k'
links_on i (Ok v) k' j = let l = i.answers.0 in let m = j.answers.0 in record { answers = (omega (arith, l, m), j.answers.1, has.more_links i.answers.2 j.answers.2) }
links_on i (Err e) k' j = record { answers = told _ _ e (λ r h. refuses.later_link i.answers.2 h) j.answers }

-- ---- arguments one after the other
pub passed_done : {s : Scope} {c : Context} {k : Known} {first n : ℕ} → AreChecked {A = Unit {0}} s c k first n [] no_ghost_expr (Ok tt) k
passed_done = record { answers = (omega arith, has.none_passed) }

pub passed_stop : {s : Scope} {c : Context} {k k' : Known} {first n : ℕ} {t w : Sort} {ts : List Sort} {a : GhostExprTree} {xs : GhostExprTrees} (e : RuleFault) → w ≡ instance first n t → IsChecked {A = Unit {0}} s c k w (place_of a) a (Err e) k' → AreChecked {A = Unit {0}} s c k first n (t ∷ ts) (more_ghost_expr a xs) (Err e) k'
passed_stop {s = s} {c = c} {k = k} {a = a} e w i = record { answers = told _ _ e (λ r h. refuses.this_argument (subst (λ (u : Sort). refuses.Fails s c k u (place_of a) a r) w h)) i.answers }

pub passed_on : {s : Scope} {c : Context} {k k₁ : Known} {first n : ℕ} {t w : Sort} {ts : List Sort} {a : GhostExprTree} {xs : GhostExprTrees} → w ≡ instance first n t → IsChecked {A = Unit {0}} s c k w (place_of a) a (Ok tt) k₁ → (r : Result (Unit {0}) RuleFault) (k' : Known) → AreChecked {A = Unit {0}} s c k₁ first n ts xs r k' → AreChecked {A = Unit {0}} s c k first n (t ∷ ts) (more_ghost_expr a xs) r k'
passed_on {s = s} {c = c} {k = k} {k₁ = k₁} {a = a} w i (Ok v) k' j = let l = i.answers.0 in let m = j.answers.0 in record { answers = (omega (arith, l, m), has.one_passed (subst (λ (u : Sort). has.Passes s c k u (place_of a) a k₁) w i.answers.1) j.answers.1) }
passed_on {s = s} {c = c} {k = k} {k₁ = k₁} {a = a} w i (Err e) k' j = record { answers = told _ _ e (λ r h. refuses.later_argument (subst (λ (u : Sort). has.Passes s c k u (place_of a) a k₁) w i.answers.1) h) j.answers }

-- ---- what a loop goes over
pub links_end : {s : Scope} {c : Context} {k : Known} {z : Bool} {p : Place} {t : Sort} (xs : List GhostLinkTree) (i : ℕ) → length xs ≤ i → IsBelow (length k) t → AreLinked s c k z p t (ghost_link_list (drop i xs)) (Ok t) k
links_end {s = s} {c = c} {k = k} {z = z} {p = p} {t = t} xs i l b = subst (λ (ys : List GhostLinkTree). AreLinked s c k z p t (ghost_link_list ys) (Ok t) k) (sym (left_end xs i l)) (links_done b)

pub links_halt : {s : Scope} {c : Context} {k k' : Known} {z : Bool} {p : Place} {t : Sort} {x : GhostLinkTree} {res : Result Sort RuleFault} (xs : List GhostLinkTree) (i : ℕ) (e : RuleFault) → slice_get xs i ≡ Some x → IsLinked s c k z p t x (Err e) k' → res ≡ Err e → AreLinked s c k z p t (ghost_link_list (drop i xs)) res k'
links_halt {s = s} {c = c} {k = k} {k' = k'} {z = z} {p = p} {t = t} {x = x} xs i e g l q =
    subst (λ (r : Result Sort RuleFault). AreLinked s c k z p t (ghost_link_list (drop i xs)) r k') (sym q)
    (subst (λ (ys : List GhostLinkTree). AreLinked s c k z p t (ghost_link_list ys) (Err e) k') (sym (left_at xs i x g)) (links_stop e l))

pub links_next : {s : Scope} {c : Context} {k k₁ k' : Known} {z : Bool} {p g : Place} {t u : Sort} {x : GhostLinkTree} {r : Result Sort RuleFault} (xs : List GhostLinkTree) (i : ℕ) → slice_get xs i ≡ Some x → g ≡ p → IsLinked s c k z g t x (Ok u) k₁ → AreLinked s c k₁ false p u (ghost_link_list (drop (i + 1) xs)) r k' → AreLinked s c k z g t (ghost_link_list (drop i xs)) r k'
links_next {s = s} {c = c} {k = k} {k₁ = k₁} {k' = k'} {z = z} {g = g} {t = t} {u = u} {x = x} {r = r} xs i h q l a =
    subst (λ (ys : List GhostLinkTree). AreLinked s c k z g t (ghost_link_list ys) r k') (sym (left_at xs i x h))
    (links_on l r k' (subst (λ (p : Place). AreLinked s c k₁ false p u (ghost_link_list (drop (i + 1) xs)) r k') (sym q) a))

pub passed_end : {s : Scope} {c : Context} {k : Known} {first n : ℕ} (ts : List Sort) (xs : List GhostExprTree) (i : ℕ) → length ts ≤ i → length xs ≤ i → AreChecked {A = Unit {0}} s c k first n (drop i ts) (ghost_expr_list (drop i xs)) (Ok tt) k
passed_end {s = s} {c = c} {k = k} {first = first} {n = n} ts xs i l m =
    subst (λ (ys : List Sort). AreChecked {A = Unit {0}} s c k first n ys (ghost_expr_list (drop i xs)) (Ok tt) k) (sym (left_end ts i l))
    (subst (λ (ys : List GhostExprTree). AreChecked {A = Unit {0}} s c k first n [] (ghost_expr_list ys) (Ok tt) k) (sym (left_end xs i m)) passed_done)

pub passed_halt : {s : Scope} {c : Context} {k k' : Known} {first n : ℕ} {t w : Sort} {a : GhostExprTree} {res : Result (Unit {0}) RuleFault} (ts : List Sort) (xs : List GhostExprTree) (i : ℕ) (e : RuleFault) → slice_get ts i ≡ Some t → slice_get xs i ≡ Some a → w ≡ instance first n t → IsChecked {A = Unit {0}} s c k w (place_of a) a (Err e) k' → res ≡ Err e → AreChecked s c k first n (drop i ts) (ghost_expr_list (drop i xs)) res k'
passed_halt {s = s} {c = c} {k = k} {k' = k'} {first = first} {n = n} {t = t} {a = a} ts xs i e g h w l q =
    subst (λ (r : Result (Unit {0}) RuleFault). AreChecked s c k first n (drop i ts) (ghost_expr_list (drop i xs)) r k') (sym q)
    (subst (λ (ys : List Sort). AreChecked {A = Unit {0}} s c k first n ys (ghost_expr_list (drop i xs)) (Err e) k') (sym (left_at ts i t g))
    (subst (λ (ys : List GhostExprTree). AreChecked {A = Unit {0}} s c k first n (t ∷ drop (i + 1) ts) (ghost_expr_list ys) (Err e) k') (sym (left_at xs i a h)) (passed_stop e w l)))

pub passed_next : {s : Scope} {c : Context} {k k₁ k' : Known} {first n : ℕ} {t w : Sort} {a : GhostExprTree} {r : Result (Unit {0}) RuleFault} (ts : List Sort) (xs : List GhostExprTree) (i : ℕ) → slice_get ts i ≡ Some t → slice_get xs i ≡ Some a → w ≡ instance first n t → IsChecked {A = Unit {0}} s c k w (place_of a) a (Ok tt) k₁ → AreChecked {A = Unit {0}} s c k₁ first n (drop (i + 1) ts) (ghost_expr_list (drop (i + 1) xs)) r k' → AreChecked {A = Unit {0}} s c k first n (drop i ts) (ghost_expr_list (drop i xs)) r k'
passed_next {s = s} {c = c} {k = k} {k₁ = k₁} {k' = k'} {first = first} {n = n} {t = t} {a = a} {r = r} ts xs i g h w l j =
    subst (λ (ys : List Sort). AreChecked s c k first n ys (ghost_expr_list (drop i xs)) r k') (sym (left_at ts i t g))
    (subst (λ (ys : List GhostExprTree). AreChecked s c k first n (t ∷ drop (i + 1) ts) (ghost_expr_list ys) r k') (sym (left_at xs i a h)) (passed_on w l r k' j))
