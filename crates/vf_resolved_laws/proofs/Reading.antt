-- Readings follow sorting: the term of an expression that has a sort has that sort as it is known in the end.
use Rattle.std.proofs.Common.{◌≡◌, ℕ, ◌+◌, Bool, true, false, List, [], ◌∷◌, length, ◌⊎◌, inl, inr, refl, sym, subst, ap, ◌∙◌}
use Rattle.std.specs.Prelude.{if◌then◌else◌, ◌&&◌, ◌||◌, nat_eq, map, pos}
use Rattle.vf_base.specs.declared.place.Place.{Place}
use Rattle.vf_meaning.specs.Ghost.{Name}
use Rattle.vf_closure.specs.Terms.{Term}
use Rattle.vf_closure.specs.Terms as terms
use Rattle.vf_formula.specs.Rows.{row}
use Rattle.vf_sorts.specs.Sorts.{Sort}
use Rattle.vf_sorts.specs.Told.{AreAlike, untold_head}
use Rattle.vf_sorts.specs.Pairs.{head_of}
use Rattle.vf_sorts.specs.Unknowns.{AgreesAsTold, Known, instance, settling}
use Rattle.vf_syntax.specs.GhostExprTree.{GhostExprTree, GhostExprTrees, GhostLinkTree, GhostLinkTrees}
use Rattle.vf_syntax.specs.GhostExprTree as tree
use Rattle.vf_syntax.specs.declared.operator.BinaryOperator.{BinaryOperator}
use Rattle.vf_syntax.specs.declared.operator.BinaryOperator.TheVariants as operators
use Rattle.vf_syntax.specs.declared.operator.UnaryOperator.TheVariants as unaries
use Rattle.vf_sorting.specs.HasSort.{HasSort, number, truth, falsehood, result, this_, thread, name_, application, parenthesized, conditional, prefixed, chain, Meets, null_second, null_first, any_beside, alike, LinkHasSort, compared, moved, joined, LinksHaveSort, no_links, more_links, Passes, inside, null, choice, any_wanted, as_wanted, ArePassed, none_passed, one_passed}
use Rattle.vf_sorting.specs.Kinds.{bool_sort, int_sort, is_any, is_pointer, pointer_sort, resolved, value_sort, with_fresh}
use Rattle.vf_sorting.specs.Operators.{is_equality, is_null, is_plus, moves, operand_sort, result_sort}
use Rattle.vf_sorting.proofs.Below.{fresh_length}
use Rattle.vf_terms.specs.Settings.{Setting, settled}
use Rattle.vf_terms.specs.Named.{scheme_or_int, term_of_name}
use Rattle.vf_terms.specs.Operated.{over_two, operator_head}
use Rattle.vf_terms.specs.Readings.{applied_at, beside_by, null_term, read, read_all, read_link, read_links, reading, sort_or_int, used_at}
use Rattle.vf_terms.specs.Readings as readings
use Rattle.vf_terms.specs.declared.reading.Reading.{Reading}
use Rattle.vf_terms.specs.declared.reading.Pair.{Pair}
use Rattle.vf_terms.specs.declared.reading.Row.{Row}
use Rattle.vf_resolved_laws.specs.Given.{GivesSorts}
use Rattle.vf_resolved_laws.specs.Laws.{ExpressionsKeepSorts}
use Rattle.vf_resolved_laws.specs.Terms.{TermHasSort, TermsHaveSorts, as_one, none_have, of_any, one_has}
use Rattle.vf_resolved_laws.proofs.Sorting.{AreHeadsAlike, alike_one, any_alike, any_head, any_not_pointer, any_one, heads_alike, kind_alike, pointer_alike, pointer_head, pointer_kind}
use Rattle.vf_resolved_laws.proofs.Before.{before, before_links, before_meet, before_pass, before_passed, equated}
use Rattle.vf_resolved_laws.proofs.Naming.{D, application_applies, name_named}
use Rattle.vf_resolved_laws.proofs.Operating.{beside_null, beside_paired, both_of, chosen_term, compared_term, first_of, joined_term, known_any, known_pointer, moved_term, not_first, not_second, null_read, null_sort, null_sorted, number_term, operand_no_pointer, paired_alike, paired_any, paired_null, prefixed_sort, result_settled, second_of, truth_term}

-- one of two tests is passed
either : (a b : Bool) → (a || b) ≡ true → (a ≡ true) ⊎ (b ≡ true)
either true b e = inl refl
either false b e = inr e

left_passed : (a b : Bool) → a ≡ true → (a || b) ≡ true
left_passed true b e = refl
left_passed false b e = absurd cc

right_passed : (a b : Bool) → b ≡ true → (a || b) ≡ true
right_passed true b e = refl
right_passed false b e = e

one_test : (a : Bool) → (a || a) ≡ true → a ≡ true
one_test true e = refl
one_test false e = e

pub no_and_yes : {A : Type 0} (a : Bool) → a ≡ false → a ≡ true → A
no_and_yes true p q = absurd cc
no_and_yes false p q = absurd cc

-- a test that fails wherever another is passed
pub not_both : (a b : Bool) → (b ≡ true → a ≡ false) → (a && b) ≡ false
not_both a true f = not_first a true (f refl)
not_both a false f = not_second a false refl

module _ (s : Setting) (names : Name → Sort) (gives : GivesSorts (D s names) s) where
  -- a term has a sort as it is known in the end
  abbrev pub Is : Term → Sort → Type 0
  Is x t = TermHasSort (D s names) x (settled s t)

  -- a reading is of a sort, behind which so much is known
  abbrev pub IsRead : Reading → Sort → Known → Type 0
  IsRead r t k = (r.next ≡ length k) × AreHeadsAlike r.sort (settled s t) × Is r.term t

  -- the same of two operands
  abbrev pub ArePaired : Pair → Sort → Known → Type 0
  ArePaired p t k = (p.next ≡ length k) × AreHeadsAlike p.sort (settled s t) × Is p.first t × Is p.second t

  -- the same of what is wanted
  abbrev pub IsWanted : Reading → Sort → Known → Type 0
  IsWanted r t k = (r.next ≡ length k) × Is r.term t

  -- the same of arguments
  abbrev pub AreRead : Row → ℕ → ℕ → List Sort → Known → Type 0
  AreRead r first n ts k = (r.next ≡ length k) × TermsHaveSorts (D s names) (row r.terms) (map (λ t. settled s (instance first n t)) ts)

  -- where a pointer is wanted, the sort is one of pointers
  abbrev pub Fits : Bool → Sort → Type 0
  Fits w t = w ≡ true → is_pointer (settled s t) ≡ true

  pub nothing_wanted : (t : Sort) → Fits false t
  nothing_wanted t e = absurd cc

  pub not_null : (z : Bool) (t : Sort) → (z ≡ true → t ≡ int_sort) → z ≡ true → is_pointer (settled s t) ≡ false
  not_null z t shows e = ap (λ (u : Sort). is_pointer (settled s u)) (shows e)

  no_any : (z : Bool) (t : Sort) → (z ≡ true → t ≡ int_sort) → z ≡ true → is_any (settled s t) ≡ false
  no_any z t shows e = ap (λ (u : Sort). is_any (settled s u)) (shows e)

  -- a choice between two terms of a common sort
  chosen_read : (c : Reading) (p : Pair) (t : Sort) (k : Known) → Is c.term bool_sort → ArePaired p t k → IsRead (readings.chosen c p) t k
  chosen_read c p t k test (next, sorts, x, y) = (next, sorts, chosen_term (D s names) c.term p.first p.second _ (settled s t) (kind_alike p.sort (settled s t) sorts) test x y)

  -- two terms of a common sort that are compared
  compared_read : (o : BinaryOperator) (p : Pair) (t : Sort) (k : Known) → is_equality o ≡ true → ArePaired p t k → IsRead (readings.compared o p) bool_sort k
  compared_read o p t k is (next, sorts, x, y) = (next, refl, compared_term (D s names) o p.first p.second (settled s t) is x y)

  -- a choice between pointers
  chosen_pointer_read : (c x y : Reading) (t : Sort) (k : Known) → is_pointer (settled s t) ≡ true → y.next ≡ length k → Is c.term bool_sort → Is x.term t → Is y.term t → IsRead (readings.chosen_pointer c x y) t k
  chosen_pointer_read c x y t k wanted next test xt yt = (next, pointer_head (settled s t) wanted, chosen_term (D s names) c.term x.term y.term _ (settled s t) (pointer_kind (settled s t) wanted) test xt yt)

  -- a term of a sort is of each that is alike in the end
  alike_value : (x : Term) (t u : Sort) → AreAlike (settled s t) (settled s u) → Is x t → Is x u
  alike_value x t u e h = as_one h (alike_one (settled s t) (settled s u) e)

  -- an operator between two operands of its operands' sort
  joined_is : (o : BinaryOperator) (a b : Term) → Is a (operand_sort o) → Is b (operand_sort o) → Is (over_two (operator_head o) a b) (result_sort o)
  joined_is operators.Times a b p q = joined_term (D s names) operators.Times a b p q
  joined_is operators.Divide a b p q = joined_term (D s names) operators.Divide a b p q
  joined_is operators.Remainder a b p q = joined_term (D s names) operators.Remainder a b p q
  joined_is operators.Plus a b p q = joined_term (D s names) operators.Plus a b p q
  joined_is operators.Minus a b p q = joined_term (D s names) operators.Minus a b p q
  joined_is operators.Less a b p q = joined_term (D s names) operators.Less a b p q
  joined_is operators.LessOrEqual a b p q = joined_term (D s names) operators.LessOrEqual a b p q
  joined_is operators.Greater a b p q = joined_term (D s names) operators.Greater a b p q
  joined_is operators.GreaterOrEqual a b p q = joined_term (D s names) operators.GreaterOrEqual a b p q
  joined_is operators.Equal a b p q = joined_term (D s names) operators.Equal a b p q
  joined_is operators.NotEqual a b p q = joined_term (D s names) operators.NotEqual a b p q
  joined_is operators.And a b p q = joined_term (D s names) operators.And a b p q
  joined_is operators.Or a b p q = joined_term (D s names) operators.Or a b p q

  -- ---- two operands that meet
  -- operands of which one is of any sort
  met_any : (z n : Bool) (x y : Reading) (t u : Sort) (k : Known) → (z ≡ true → t ≡ int_sort) → (n ≡ true → u ≡ int_sort) → AreHeadsAlike x.sort (settled s t) → Is x.term t → IsRead y u k
      → (is_any (settled s t) ≡ true) ⊎ (is_any (settled s u) ≡ true) → ArePaired (beside_by n z x y) value_sort k
  met_any z n x y t u k shows shown xs xt (next, ys, yt) is =
      subst (λ p. ArePaired p value_sort k) (sym (beside_paired n z x y (not_both (is_pointer x.sort) n left_out) ∙ paired_any z x y (not_both (is_pointer y.sort) z right_out) (told is)))
      (next, refl, of_any xt, of_any yt)
    where
      left_any : (is_any (settled s t) ≡ true) ⊎ (is_any (settled s u) ≡ true) → n ≡ true → is_any (settled s t) ≡ true
      left_any (inl p) e = p
      left_any (inr q) e = no_and_yes (is_any (settled s u)) (no_any n u shown e) q

      left_out : n ≡ true → is_pointer x.sort ≡ false
      left_out e = pointer_alike x.sort (settled s t) xs ∙ any_not_pointer (settled s t) (left_any is e)

      right_any : (is_any (settled s t) ≡ true) ⊎ (is_any (settled s u) ≡ true) → z ≡ true → is_any (settled s u) ≡ true
      right_any (inl p) e = no_and_yes (is_any (settled s t)) (no_any z t shows e) p
      right_any (inr q) e = q

      right_out : z ≡ true → is_pointer y.sort ≡ false
      right_out e = pointer_alike y.sort (settled s u) ys ∙ any_not_pointer (settled s u) (right_any is e)

      told : (is_any (settled s t) ≡ true) ⊎ (is_any (settled s u) ≡ true) → (is_any x.sort || is_any y.sort) ≡ true
      told (inl p) = left_passed (is_any x.sort) (is_any y.sort) (any_alike x.sort (settled s t) xs ∙ p)
      told (inr q) = right_passed (is_any x.sort) (is_any y.sort) (any_alike y.sort (settled s u) ys ∙ q)

  -- operands of sorts that are alike
  met_alike : (z n : Bool) (x y : Reading) (t u : Sort) (k k' : Known) → (z ≡ true → t ≡ int_sort) → (n ≡ true → u ≡ int_sort) → AreHeadsAlike x.sort (settled s t) → Is x.term t → IsRead y u k
      → AreAlike (settled s u) (settled s t) → length k' ≡ length k → ArePaired (beside_by n z x y) t k'
  met_alike z n x y t u k k' shows shown xs xt (next, ys, yt) e long =
      subst (λ p. ArePaired p t k') (sym (beside_paired n z x y (not_both (is_pointer x.sort) n left_out))) (by (is_any x.sort || is_any y.sort) refl)
    where
      left_out : n ≡ true → is_pointer x.sort ≡ false
      left_out q = pointer_alike x.sort (settled s t) xs ∙ sym (pointer_alike (settled s u) (settled s t) (heads_alike (settled s u) (settled s t) e)) ∙ not_null n u shown q

      right_out : z ≡ true → is_pointer y.sort ≡ false
      right_out q = pointer_alike y.sort (settled s u) ys ∙ pointer_alike (settled s u) (settled s t) (heads_alike (settled s u) (settled s t) e) ∙ not_null z t shows q

      other : Is y.term t
      other = alike_value y.term u t e yt

      all_any : (is_any x.sort || is_any y.sort) ≡ true → is_any (settled s t) ≡ true
      all_any q = one_test (is_any (settled s t))
          (ap (λ b. is_any (settled s t) || b) (sym (any_alike y.sort (settled s u) ys ∙ any_alike (settled s u) (settled s t) (heads_alike (settled s u) (settled s t) e)))
          ∙ ap (λ b. b || is_any y.sort) (sym (any_alike x.sort (settled s t) xs)) ∙ q)

      by : (b : Bool) → (is_any x.sort || is_any y.sort) ≡ b → ArePaired (readings.paired z x y) t k'
      by true q = subst (λ p. ArePaired p t k') (sym (paired_any z x y (not_both (is_pointer y.sort) z right_out) q))
          (next ∙ sym long, ap untold_head (sym (any_head (settled s t) (all_any q))), xt, other)
      by false q = subst (λ p. ArePaired p t k') (sym (paired_alike z x y (not_both (is_pointer y.sort) z right_out) q)) (next ∙ sym long, xs, xt, other)

  mutual
    -- an expression that has a sort, where a pointer is wanted only of a sort of pointers
    pub has_read : {k k' : Known} {e : GhostExprTree} {t : Sort} (w : Bool) → HasSort s.scope s.context k e t k' → AgreesAsTold (settling s.known) k' → Fits w t → (u : ℕ) → u ≡ length k → IsRead (read s w u e) t k'
    has_read false (number {n}) a fits u at = (at, refl, number_term (D s names) (pos n))
    has_read true number a fits u at = absurd (let q : false ≡ true = fits refl in cc)
    has_read w truth a fits u at = (at, refl, truth_term (D s names) true)
    has_read w falsehood a fits u at = (at, refl, truth_term (D s names) false)
    has_read w (result {t} is below) a fits u at = (at, ap (λ o. untold_head (head_of (settled s (sort_or_int o)))) is, gives.result t is)
    has_read w (this_ is) a fits u at = (at, refl, gives.this_value is)
    has_read w (thread is) a fits u at = (at, refl, gives.thread is)
    has_read w (name_ {k} {p} {x} {g} is below) a fits u at =
        subst (λ r. IsRead (used_at s (scheme_or_int r) (term_of_name s x p.file) u) (instance (length k) g.parameters g.result) (with_fresh k g.parameters)) (sym is)
        (ap (λ n. n + g.parameters) at ∙ sym (fresh_length k g.parameters), ap (λ n. untold_head (head_of (settled s (instance n g.parameters g.result)))) at, name_named s names gives p x (length k) g is)
    has_read w (application {k} {k'} {p} {f} {xs} {g} local is below passed) a fits u at =
        subst (λ r. IsRead (applied_at s (scheme_or_int r) f p.file u (read_all s u (scheme_or_int r).parameters (scheme_or_int r).arguments (u + (scheme_or_int r).parameters) xs)) (instance (length k) g.parameters g.result) k') (sym is)
        (subst (λ n. IsRead (applied_at s g f p.file n (read_all s n g.parameters g.arguments (n + g.parameters) xs)) (instance (length k) g.parameters g.result) k') (sym at)
        (let all = passed_read passed a (length k + g.parameters) (sym (fresh_length k g.parameters)) in
        (all.0, refl, application_applies s names p f (read_all s (length k) g.parameters g.arguments (length k + g.parameters) xs).terms (length k) g is all.1)))
    has_read w (parenthesized h) a fits u at = has_read w h a fits u at
    has_read false (conditional {k' = l} {a = c} {b} {d} {t} {u = r} test h m) a fits u at =
        let first = passes_read false test (before s.scope s.context (settling s.known) h (before_meet s.scope s.context (settling s.known) m a)) refl u at in
        let x = has_read false h (before_meet s.scope s.context (settling s.known) m a) (nothing_wanted t) (read s false u c).next first.0 in
        let y = read s false (read s false (read s false u c).next b).next d in
        chosen_read (read s false u c) (beside_by (is_null d) (is_null b) (read s false (read s false u c).next b) y) r l first.1 (meets_read m a (read s false (read s false u c).next b) x (λ q. (null_sorted h q).0))
    has_read true (conditional {k₁} {k₂} {a = c} {b} {d} {t} test h (null_second is)) a fits u at =
        let first = passes_read false test (before s.scope s.context (settling s.known) h a) refl u at in
        let x = has_read true h a fits (read s false u c).next first.0 in
        let y = null_read s (read s true (read s false u c).next b).next d (second_of _ (is_null d) is) in
        chosen_pointer_read (read s false u c) (read s true (read s false u c).next b) (read s true (read s true (read s false u c).next b).next d) t k₂ (fits refl) (ap (λ (r : Reading). r.next) y ∙ x.0) first.1 x.2
        (subst (λ (r : Reading). Is r.term t) (sym y) (null_sort (D s names) (settled s t) (fits refl)))
    has_read true (conditional {k₁} {k₂} {k' = l} {a = c} {b} {d} {t} {u = r} test h (null_first other g is)) a fits u at =
        let middle = before s.scope s.context (settling s.known) g a in
        let first = passes_read false test (before s.scope s.context (settling s.known) h middle) refl u at in
        let nothing = null_sorted h (second_of _ (is_null b) is) in
        let x = null_read s (read s false u c).next b (second_of _ (is_null b) is) in
        let y = has_read true g a fits (read s true (read s false u c).next b).next (ap (λ (q : Reading). q.next) x ∙ first.0 ∙ ap length nothing.1) in
        chosen_pointer_read (read s false u c) (read s true (read s false u c).next b) (read s true (read s true (read s false u c).next b).next d) r l (fits refl) y.0 first.1
        (subst (λ (q : Reading). Is q.term r) (sym x) (null_sort (D s names) (settled s r) (fits refl))) y.2
    has_read true (conditional test h (any_beside other g not_one is)) a fits u at = absurd (let q : false ≡ true = fits refl in cc)
    has_read true (conditional {k₁} {k₂} {k' = l} {a = c} {b} {d} {t} test h (alike {k₁ = k₃} {u = r} other g not_one not_any e)) a fits u at =
        let after = e.kept (settling s.known) a in
        let same = equated (settling s.known) k₃ l r t e a in
        let middle = before s.scope s.context (settling s.known) g after in
        let first = passes_read false test (before s.scope s.context (settling s.known) h middle) refl u at in
        let x = has_read true h middle fits (read s false u c).next first.0 in
        let y = has_read true g after (λ q. pointer_alike (settled s r) (settled s t) (heads_alike (settled s r) (settled s t) same) ∙ fits q) (read s true (read s false u c).next b).next x.0 in
        chosen_pointer_read (read s false u c) (read s true (read s false u c).next b) (read s true (read s true (read s false u c).next b).next d) t l (fits refl) (y.0 ∙ sym e.long) first.1 x.2
        (alike_value (read s true (read s true (read s false u c).next b).next d).term r t same y.2)
    has_read w (prefixed {o = unaries.Minus} p) a fits u at = let x = passes_read false p a refl u at in (x.0, refl, prefixed_sort (D s names) unaries.Minus _ x.1)
    has_read w (prefixed {o = unaries.Not} p) a fits u at = let x = passes_read false p a refl u at in (x.0, refl, prefixed_sort (D s names) unaries.Not _ x.1)
    has_read w (chain {a = b} {t} h l) a fits u at =
        links_read l a (read s false u b) (has_read false h (before_links s.scope s.context (settling s.known) l a) (nothing_wanted t) u at) (λ q. (null_sorted h q).0)

    pub meets_read : {k k' : Known} {z : Bool} {t u : Sort} {d : GhostExprTree} → Meets s.scope s.context k z t d u k' → AgreesAsTold (settling s.known) k' → (x : Reading) → IsRead x t k → (z ≡ true → t ≡ int_sort)
        → ArePaired (beside_by (is_null d) z x (read s false x.next d)) u k'
    meets_read (null_second {k} {z} {t} {d} is) a x (next, xs, xt) shows =
        let wanted = known_pointer s k t a (first_of _ (is_null d) is) in
        let there = both_of (is_pointer x.sort) (is_null d) (pointer_alike x.sort (settled s t) xs ∙ wanted) (second_of _ (is_null d) is) in
        subst (λ p. ArePaired p t k) (sym (beside_null (is_null d) z x (read s false x.next d) there)) (next, xs, xt, null_sort (D s names) (settled s t) wanted)
    meets_read (null_first {k} {k'} {z} {t} {u} {d} other h is) a x (next, xs, xt) shows =
        let y = has_read false h a (nothing_wanted u) x.next next in
        let wanted = known_pointer s k' u a (first_of _ z is) in
        let out = not_first (is_pointer x.sort) (is_null d) (pointer_alike x.sort (settled s t) xs ∙ not_null z t shows (second_of _ z is)) in
        let there = both_of (is_pointer (read s false x.next d).sort) z (pointer_alike (read s false x.next d).sort (settled s u) y.1 ∙ wanted) (second_of _ z is) in
        subst (λ p. ArePaired p u k') (sym (beside_paired (is_null d) z x (read s false x.next d) out ∙ paired_null z x (read s false x.next d) there)) (y.0, y.1, null_sort (D s names) (settled s u) wanted, y.2)
    meets_read (any_beside {k} {k'} {z} {t} {u} {d} other h not_one is) a x (next, xs, xt) shows =
        met_any z (is_null d) x (read s false x.next d) t u k' shows (λ q. (null_sorted h q).0) xs xt (has_read false h a (nothing_wanted u) x.next next) (told (either _ _ is))
      where
        told : (is_any (resolved k' t) ≡ true) ⊎ (is_any (resolved k' u) ≡ true) → (is_any (settled s t) ≡ true) ⊎ (is_any (settled s u) ≡ true)
        told (inl p) = inl (known_any s k' t a p)
        told (inr q) = inr (known_any s k' u a q)
    meets_read (alike {k} {k₁} {k'} {z} {t} {u} {d} other h not_one not_any e) a x (next, xs, xt) shows =
        met_alike z (is_null d) x (read s false x.next d) t u k₁ k' shows (λ q. (null_sorted h q).0) xs xt (has_read false h (e.kept (settling s.known) a) (nothing_wanted u) x.next next) (equated (settling s.known) k₁ k' u t e a) e.long

    pub links_read : {k k' : Known} {z : Bool} {p : Place} {t u : Sort} {xs : GhostLinkTrees} → LinksHaveSort s.scope s.context k z p t xs u k' → AgreesAsTold (settling s.known) k' → (x : Reading) → IsRead x t k → (z ≡ true → t ≡ int_sort)
        → IsRead (read_links s z x xs) u k'
    links_read no_links a x good shows = good
    links_read (more_links {z} {x = y} l ls) a x good shows = links_read ls a (read_link s z x y) (link_read l (before_links s.scope s.context (settling s.known) ls a) x good shows) (λ q. absurd cc)

    pub link_read : {k k' : Known} {z : Bool} {p : Place} {t u : Sort} {y : GhostLinkTree} → LinkHasSort s.scope s.context k z p t y u k' → AgreesAsTold (settling s.known) k' → (x : Reading) → IsRead x t k → (z ≡ true → t ≡ int_sort)
        → IsRead (read_link s z x y) u k'
    link_read (compared {k' = l} {z} {u} {o} {a = b} is m) a x good shows =
        subst (λ q. IsRead (if q then readings.compared o (beside_by (is_null b) z x (read s false x.next b)) else (if moves o x.sort then readings.moved x (read s false x.next b) else readings.joined o x (read s false x.next b))) bool_sort l) (sym is)
        (compared_read o (beside_by (is_null b) z x (read s false x.next b)) u l is (meets_read m a x good shows))
    link_read (moved {k} {k' = l} {z} {t} {o} {a = b} other is p) a x (next, xs, xt) shows =
        let wanted = known_pointer s k t (before_pass s.scope s.context (settling s.known) p a) (second_of (is_plus o) _ is) in
        let there = both_of (is_plus o) (is_pointer x.sort) (first_of (is_plus o) _ is) (pointer_alike x.sort (settled s t) xs ∙ wanted) in
        let y = passes_read false p a refl x.next next in
        subst (λ q. IsRead (if q then readings.compared o (beside_by (is_null b) z x (read s false x.next b)) else (if moves o x.sort then readings.moved x (read s false x.next b) else readings.joined o x (read s false x.next b))) pointer_sort l) (sym other)
        (subst (λ q. IsRead (if q then readings.moved x (read s false x.next b) else readings.joined o x (read s false x.next b)) pointer_sort l) (sym there)
        (y.0, refl, moved_term (D s names) x.term (read s false x.next b).term (settled s t) wanted xt y.1))
    link_read (joined {k} {k₁} {k' = l} {z} {t} {o} {a = b} other still e p) a x (next, xs, xt) shows =
        let after = before_pass s.scope s.context (settling s.known) p a in
        let same = equated (settling s.known) k k₁ t (operand_sort o) e after in
        let out = not_second (is_plus o) (is_pointer x.sort) (pointer_alike x.sort (settled s t) xs ∙ pointer_alike (settled s t) (settled s (operand_sort o)) (heads_alike (settled s t) (settled s (operand_sort o)) same) ∙ operand_no_pointer s o) in
        let y = passes_read false p a (sym (operand_no_pointer s o)) x.next (next ∙ sym e.long) in
        subst (λ q. IsRead (if q then readings.compared o (beside_by (is_null b) z x (read s false x.next b)) else (if moves o x.sort then readings.moved x (read s false x.next b) else readings.joined o x (read s false x.next b))) (result_sort o) l) (sym other)
        (subst (λ q. IsRead (if q then readings.moved x (read s false x.next b) else readings.joined o x (read s false x.next b)) (result_sort o) l) (sym out)
        (y.0, result_settled s o, joined_is o x.term (read s false x.next b).term (as_one xt (alike_one (settled s t) (settled s (operand_sort o)) same)) y.1))

    -- an expression that passes for a wanted sort
    pub passes_read : {k k' : Known} {w : Sort} {q : Place} {e : GhostExprTree} (b : Bool) → Passes s.scope s.context k w q e k' → AgreesAsTold (settling s.known) k' → b ≡ is_pointer (settled s w) → (u : ℕ) → u ≡ length k
        → IsWanted (read s b u e) w k'
    passes_read b (inside p) a is u at = passes_read b p a is u at
    passes_read b (null {k} {w} {n} yes_null) a is u at =
        let wanted = known_pointer s k w a (first_of _ (nat_eq n 0) yes_null) in
        subst (λ q. IsWanted (if q then reading pointer_sort null_term u else reading int_sort (terms.number (pos n)) u) w k) (sym (both_of b (nat_eq n 0) (is ∙ wanted) (second_of _ (nat_eq n 0) yes_null)))
        (at, null_sort (D s names) (settled s w) wanted)
    passes_read b (choice {k} {k₁} {k₂} {k' = l} {w} {p} {a = c} {b = e} {d} pointer test x y) a is u at =
        let after = before_pass s.scope s.context (settling s.known) y a in
        let middle = before_pass s.scope s.context (settling s.known) x after in
        let wanted = known_pointer s k w (before_pass s.scope s.context (settling s.known) test middle) pointer in
        let first = passes_read false test middle refl u at in
        let left = passes_read true x after (sym wanted) (read s false u c).next first.0 in
        let right = passes_read true y a (sym wanted) (read s true (read s false u c).next e).next left.0 in
        subst (λ q. IsWanted (read s q u (tree.conditional p c e d)) w l) (sym (is ∙ wanted)) (
          right.0,
          chosen_term (D s names) _ _ _ _ (settled s w) (pointer_kind (settled s w) wanted) first.1 left.1 right.1,
        )
    passes_read b (any_wanted {k' = l} {w} {t} {e = x} outside any h) a is u at =
        let all = known_any s _ w (before s.scope s.context (settling s.known) h a) any in
        let good = has_read b h a (λ q. no_and_yes b (is ∙ any_not_pointer (settled s w) all) q) u at in
        (good.0, as_one (of_any good.2) (any_one (settled s w) all))
    passes_read b (as_wanted {k₁} {k' = l} {w} {t} {e = x} outside other h e) a is u at =
        let same = equated (settling s.known) k₁ l t w e a in
        let good = has_read b h (e.kept (settling s.known) a) (λ q. pointer_alike (settled s t) (settled s w) (heads_alike (settled s t) (settled s w) same) ∙ sym is ∙ q) u at in
        (good.0 ∙ sym e.long, alike_value (read s b u x).term t w same good.2)

    -- arguments that pass for parameters
    pub passed_read : {k k' : Known} {first n : ℕ} {ts : List Sort} {xs : GhostExprTrees} → ArePassed s.scope s.context k first n ts xs k' → AgreesAsTold (settling s.known) k' → (u : ℕ) → u ≡ length k
        → AreRead (read_all s first n ts u xs) first n ts k'
    passed_read none_passed a u at = (at, none_have)
    passed_read (one_passed {first} {n} {t} {a = b} p ps) a u at =
        let y = passes_read (is_pointer (settled s (instance first n t))) p (before_passed s.scope s.context (settling s.known) ps a) refl u at in
        let rest = passed_read ps a (read s (is_pointer (settled s (instance first n t))) u b).next y.0 in
        (rest.0, one_has y.1 rest.1)

-- readings follow sorting
pub expressions_keep_sorts : ExpressionsKeepSorts
expressions_keep_sorts s names gives = record {
  sorted = λ known then_known e t h a. let r = has_read s names gives false h a (nothing_wanted s names gives t) (length known) refl in record { next = r.0; has_sort = r.2 };
  passed = λ known then_known w q e p a. let r = passes_read s names gives (is_pointer (settled s w)) p a refl (length known) refl in record { next = r.0; has_sort = r.1 };
  all_passed = λ known then_known first n ts xs p a. let r = passed_read s names gives p a (length known) refl in record { next = r.0; have_sorts = subst (TermsHaveSorts (D s names) (row (read_all s first n ts (length known) xs).terms)) (both_maps first n ts) r.1 };
}
  where
    both_maps : (first n : ℕ) (us : List Sort) → map (λ t. settled s (instance first n t)) us ≡ map (settled s) (map (instance first n) us)
    both_maps first n [] = refl
    both_maps first n (u ∷ us) = ap (λ (ws : List Sort). settled s (instance first n u) ∷ ws) (both_maps first n us)
