-- Readings have the sorts of their expressions as they are known in the end, whatever values names have.
use Rattle.std.proofs.Common.{◌≡◌, ℕ, ◌+◌, Bool, true, false, length, ◌⊎◌, inl, inr, refl, sym, subst, ap, ◌∙◌}
use Rattle.std.specs.Prelude.{if◌then◌else◌, ◌&&◌, ◌||◌}
use Rattle.vf_base.specs.declared.place.Place.{Place}
use Rattle.vf_sorts.specs.Sorts.{Sort}
use Rattle.vf_sorts.specs.Told.{AreAlike, untold_head}
use Rattle.vf_sorts.specs.Pairs.{head_of}
use Rattle.vf_sorts.specs.Unknowns.{AgreesAsTold, Known, instance, settling}
use Rattle.vf_syntax.specs.GhostExprTree.{GhostExprTree, GhostLinkTree, GhostLinkTrees}
use Rattle.vf_syntax.specs.declared.operator.UnaryOperator.TheVariants as unaries
use Rattle.vf_declared.specs.declared.scope.Scope.{Scope}
use Rattle.vf_sorting.specs.declared.context.Context.{Context}
use Rattle.vf_sorting.specs.HasSort.{HasSort, number, truth, falsehood, result, this_, thread, name_, application, parenthesized, conditional, prefixed, chain, Meets, null_second, null_first, any_beside, alike, LinkHasSort, compared, moved, joined, LinksHaveSort, no_links, more_links, Passes, inside, any_wanted}
use Rattle.vf_sorting.specs.Kinds.{bool_sort, int_sort, is_any, is_pointer, pointer_sort, resolved, value_sort, with_fresh}
use Rattle.vf_sorting.specs.Operators.{is_null, is_plus, moves, operand_sort, result_sort}
use Rattle.vf_sorting.specs.Schemes.{application_scheme}
use Rattle.vf_sorting.proofs.Below.{fresh_length}
use Rattle.vf_terms.specs.Settings.{Setting, settled}
use Rattle.vf_terms.specs.Named.{scheme_or_int, term_of_name}
use Rattle.vf_terms.specs.Readings.{applied_at, beside_by, read, read_all, read_link, read_links, sort_or_int, used_at}
use Rattle.vf_terms.specs.Readings as readings
use Rattle.vf_terms.specs.declared.reading.Reading.{Reading}
use Rattle.vf_terms.specs.declared.reading.Pair.{Pair}
use Rattle.vf_fixpoint_laws.proofs.values.Alike.{AreHeadsAlike, any_alike, any_head, any_not_pointer, heads_alike, pointer_alike}
use Rattle.vf_fixpoint_laws.proofs.values.Before.{before_links, before_meet, before_pass, equated}
use Rattle.vf_fixpoint_laws.proofs.values.Operating.{beside_null, beside_paired, both_of, first_of, known_any, known_pointer, not_first, not_second, null_sorted, operand_no_pointer, paired_alike, paired_any, paired_null, result_settled, second_of}
use Rattle.vf_fixpoint_laws.proofs.bodies.Numbering.{passes_next}

-- ---- truth values
left_passed : (a b : Bool) → a ≡ true → (a || b) ≡ true
left_passed true b e = refl
left_passed false b e = absurd cc

right_passed : (a b : Bool) → b ≡ true → (a || b) ≡ true
right_passed true b e = refl
right_passed false b e = e

either : (a b : Bool) → (a || b) ≡ true → (a ≡ true) ⊎ (b ≡ true)
either true b e = inl refl
either false b e = inr e

one_test : (a : Bool) → (a || a) ≡ true → a ≡ true
one_test true e = refl
one_test false e = e

no_and_yes : {A : Type 0} (a : Bool) → a ≡ false → a ≡ true → A
no_and_yes true p q = absurd cc
no_and_yes false p q = absurd cc

not_both : (a b : Bool) → (b ≡ true → a ≡ false) → (a && b) ≡ false
not_both a true f = not_first a true (f refl)
not_both a false f = not_second a false refl

-- ---- the numbers of unknown sorts
-- what has a sort passes for `any`
passes_any : {s : Scope} {c : Context} {k k' : Known} {e : GhostExprTree} {t : Sort} (q : Place) → HasSort s c k e t k' → Passes s c k value_sort q e k'
passes_any q number = any_wanted refl refl number
passes_any q truth = any_wanted refl refl truth
passes_any q falsehood = any_wanted refl refl falsehood
passes_any q (result is below) = any_wanted refl refl (result is below)
passes_any q (this_ is) = any_wanted refl refl (this_ is)
passes_any q (thread is) = any_wanted refl refl (thread is)
passes_any q (name_ is below) = any_wanted refl refl (name_ is below)
passes_any q (application local is below passed) = any_wanted refl refl (application local is below passed)
passes_any q (parenthesized h) = inside (passes_any q h)
passes_any q (conditional test h m) = any_wanted refl refl (conditional test h m)
passes_any q (prefixed p) = any_wanted refl refl (prefixed p)
passes_any q (chain h l) = any_wanted refl refl (chain h l)

module _ (s : Setting) where
  -- a reading is of a sort, behind which so much is known
  abbrev pub IsRead : Reading → Sort → Known → Type 0
  IsRead r t k = (r.next ≡ length k) × AreHeadsAlike r.sort (settled s t)

  -- the same of two operands
  abbrev ArePaired : Pair → Sort → Known → Type 0
  ArePaired p t k = (p.next ≡ length k) × AreHeadsAlike p.sort (settled s t)

  not_null : (z : Bool) (t : Sort) → (z ≡ true → t ≡ int_sort) → z ≡ true → is_pointer (settled s t) ≡ false
  not_null z t shows e = ap (λ (u : Sort). is_pointer (settled s u)) (shows e)

  no_any : (z : Bool) (t : Sort) → (z ≡ true → t ≡ int_sort) → z ≡ true → is_any (settled s t) ≡ false
  no_any z t shows e = ap (λ (u : Sort). is_any (settled s u)) (shows e)

  -- ---- two operands that meet
  -- operands of which one is of any sort
  met_any : (z n : Bool) (x y : Reading) (t u : Sort) (k : Known) → (z ≡ true → t ≡ int_sort) → (n ≡ true → u ≡ int_sort) → AreHeadsAlike x.sort (settled s t) → IsRead y u k
      → (is_any (settled s t) ≡ true) ⊎ (is_any (settled s u) ≡ true) → ArePaired (beside_by n z x y) value_sort k
  met_any z n x y t u k shows shown xs (next, ys) is =
      subst (λ p. ArePaired p value_sort k) (sym (beside_paired n z x y (not_both (is_pointer x.sort) n left_out) ∙ paired_any z x y (not_both (is_pointer y.sort) z right_out) (told is))) (next, refl)
    where
      left_any : (is_any (settled s t) ≡ true) ⊎ (is_any (settled s u) ≡ true) → n ≡ true → is_any (settled s t) ≡ true
      left_any (inl p) e = p
      left_any (inr q) e = no_and_yes (is_any (settled s u)) (no_any n u shown e) q

      left_out : n ≡ true → is_pointer x.sort ≡ false
      left_out e = pointer_alike x.sort (settled s t) xs ∙ any_not_pointer (settled s t) (left_any is e)

      right_any : (is_any (settled s t) ≡ true) ⊎ (is_any (settled s u) ≡ true) → z ≡ true → is_any (settled s u) ≡ true
      right_any (inl p) e = no_and_yes (is_any (settled s t)) (no_any z t shows e) p
      right_any (inr q) e = q

      right_out : z ≡ true → is_pointer y.sort ≡ false
      right_out e = pointer_alike y.sort (settled s u) ys ∙ any_not_pointer (settled s u) (right_any is e)

      told : (is_any (settled s t) ≡ true) ⊎ (is_any (settled s u) ≡ true) → (is_any x.sort || is_any y.sort) ≡ true
      told (inl p) = left_passed (is_any x.sort) (is_any y.sort) (any_alike x.sort (settled s t) xs ∙ p)
      told (inr q) = right_passed (is_any x.sort) (is_any y.sort) (any_alike y.sort (settled s u) ys ∙ q)

  -- operands of sorts that are alike
  met_alike : (z n : Bool) (x y : Reading) (t u : Sort) (k k' : Known) → (z ≡ true → t ≡ int_sort) → (n ≡ true → u ≡ int_sort) → AreHeadsAlike x.sort (settled s t) → IsRead y u k
      → AreAlike (settled s u) (settled s t) → length k' ≡ length k → ArePaired (beside_by n z x y) t k'
  met_alike z n x y t u k k' shows shown xs (next, ys) e long =
      subst (λ p. ArePaired p t k') (sym (beside_paired n z x y (not_both (is_pointer x.sort) n left_out))) (by (is_any x.sort || is_any y.sort) refl)
    where
      left_out : n ≡ true → is_pointer x.sort ≡ false
      left_out q = pointer_alike x.sort (settled s t) xs ∙ sym (pointer_alike (settled s u) (settled s t) (heads_alike (settled s u) (settled s t) e)) ∙ not_null n u shown q

      right_out : z ≡ true → is_pointer y.sort ≡ false
      right_out q = pointer_alike y.sort (settled s u) ys ∙ pointer_alike (settled s u) (settled s t) (heads_alike (settled s u) (settled s t) e) ∙ not_null z t shows q

      all_any : (is_any x.sort || is_any y.sort) ≡ true → is_any (settled s t) ≡ true
      all_any q = one_test (is_any (settled s t))
          (ap (λ b. is_any (settled s t) || b) (sym (any_alike y.sort (settled s u) ys ∙ any_alike (settled s u) (settled s t) (heads_alike (settled s u) (settled s t) e)))
          ∙ ap (λ b. b || is_any y.sort) (sym (any_alike x.sort (settled s t) xs)) ∙ q)

      by : (b : Bool) → (is_any x.sort || is_any y.sort) ≡ b → ArePaired (readings.paired z x y) t k'
      by true q = subst (λ p. ArePaired p t k') (sym (paired_any z x y (not_both (is_pointer y.sort) z right_out) q)) (next ∙ sym long, ap untold_head (sym (any_head (settled s t) (all_any q))))
      by false q = subst (λ p. ArePaired p t k') (sym (paired_alike z x y (not_both (is_pointer y.sort) z right_out) q)) (next ∙ sym long, xs)

  mutual
    -- an expression that has a sort
    pub has_read : {k k' : Known} {e : GhostExprTree} {t : Sort} → HasSort s.scope s.context k e t k' → AgreesAsTold (settling s.known) k' → (u : ℕ) → u ≡ length k → IsRead (read s false u e) t k'
    has_read number a u at = (at, refl)
    has_read truth a u at = (at, refl)
    has_read falsehood a u at = (at, refl)
    has_read (result is below) a u at = (at, ap (λ o. untold_head (head_of (settled s (sort_or_int o)))) is)
    has_read (this_ is) a u at = (at, refl)
    has_read (thread is) a u at = (at, refl)
    has_read (name_ {k} {p} {x} {g} is below) a u at =
        subst (λ r. IsRead (used_at s (scheme_or_int r) (term_of_name s x p.file) u) (instance (length k) g.parameters g.result) (with_fresh k g.parameters)) (sym is)
        (ap (λ n. n + g.parameters) at ∙ sym (fresh_length k g.parameters), ap (λ n. untold_head (head_of (settled s (instance n g.parameters g.result)))) at)
    has_read (application {k} {k'} {p} {f} {xs} {g} local is below passed) a u at = (passes_next s false (passes_any p (application {k = k} {k' = k'} {p = p} {f = f} {xs = xs} {g = g} local is below passed)) u at, sorts)
      where
        sorts : AreHeadsAlike (applied_at s (scheme_or_int (application_scheme s.scope s.context.own p f)) f p.file u (read_all s u (scheme_or_int (application_scheme s.scope s.context.own p f)).parameters (scheme_or_int (application_scheme s.scope s.context.own p f)).arguments (u + (scheme_or_int (application_scheme s.scope s.context.own p f)).parameters) xs)).sort (settled s (instance (length k) g.parameters g.result))
        sorts = ap (λ r. untold_head (head_of (settled s (instance u (scheme_or_int r).parameters (scheme_or_int r).result)))) is ∙ ap (λ n. untold_head (head_of (settled s (instance n g.parameters g.result)))) at
    has_read (parenthesized h) a u at = has_read h a u at
    has_read (conditional {a = c} {b} {d} {t} test h m) a u at =
        let first = passes_next s false test u at in
        let x = has_read h (before_meet s.scope s.context (settling s.known) m a) (read s false u c).next first in
        meets_read m a (read s false (read s false u c).next b) x (λ q. (null_sorted h q).0)
    has_read (prefixed {o = unaries.Minus} p) a u at = (passes_next s false p u at, refl)
    has_read (prefixed {o = unaries.Not} p) a u at = (passes_next s false p u at, refl)
    has_read (chain {a = b} {t} h l) a u at = links_read l a (read s false u b) (has_read h (before_links s.scope s.context (settling s.known) l a) u at) (λ q. (null_sorted h q).0)

    meets_read : {k k' : Known} {z : Bool} {t u : Sort} {d : GhostExprTree} → Meets s.scope s.context k z t d u k' → AgreesAsTold (settling s.known) k' → (x : Reading) → IsRead x t k → (z ≡ true → t ≡ int_sort)
        → ArePaired (beside_by (is_null d) z x (read s false x.next d)) u k'
    meets_read (null_second {k} {z} {t} {d} is) a x (next, xs) shows =
        let wanted = known_pointer s k t a (first_of _ (is_null d) is) in
        let there = both_of (is_pointer x.sort) (is_null d) (pointer_alike x.sort (settled s t) xs ∙ wanted) (second_of _ (is_null d) is) in
        subst (λ p. ArePaired p t k) (sym (beside_null (is_null d) z x (read s false x.next d) there)) (next, xs)
    meets_read (null_first {k} {k'} {z} {t} {u} {d} other h is) a x (next, xs) shows =
        let y = has_read h a x.next next in
        let wanted = known_pointer s k' u a (first_of _ z is) in
        let out = not_first (is_pointer x.sort) (is_null d) (pointer_alike x.sort (settled s t) xs ∙ not_null z t shows (second_of _ z is)) in
        let there = both_of (is_pointer (read s false x.next d).sort) z (pointer_alike (read s false x.next d).sort (settled s u) y.1 ∙ wanted) (second_of _ z is) in
        subst (λ p. ArePaired p u k') (sym (beside_paired (is_null d) z x (read s false x.next d) out ∙ paired_null z x (read s false x.next d) there)) (y.0, y.1)
    meets_read (any_beside {k} {k'} {z} {t} {u} {d} other h not_one is) a x (next, xs) shows =
        met_any z (is_null d) x (read s false x.next d) t u k' shows (λ q. (null_sorted h q).0) xs (has_read h a x.next next) (told (either _ _ is))
      where
        told : (is_any (resolved k' t) ≡ true) ⊎ (is_any (resolved k' u) ≡ true) → (is_any (settled s t) ≡ true) ⊎ (is_any (settled s u) ≡ true)
        told (inl p) = inl (known_any s k' t a p)
        told (inr q) = inr (known_any s k' u a q)
    meets_read (alike {k} {k₁} {k'} {z} {t} {u} {d} other h not_one not_any e) a x (next, xs) shows =
        met_alike z (is_null d) x (read s false x.next d) t u k₁ k' shows (λ q. (null_sorted h q).0) xs (has_read h (e.kept (settling s.known) a) x.next next) (equated (settling s.known) k₁ k' u t e a) e.long

    links_read : {k k' : Known} {z : Bool} {p : Place} {t u : Sort} {xs : GhostLinkTrees} → LinksHaveSort s.scope s.context k z p t xs u k' → AgreesAsTold (settling s.known) k' → (x : Reading) → IsRead x t k → (z ≡ true → t ≡ int_sort)
        → IsRead (read_links s z x xs) u k'
    links_read no_links a x good shows = good
    links_read (more_links {z} {x = y} l ls) a x good shows = links_read ls a (read_link s z x y) (link_read l (before_links s.scope s.context (settling s.known) ls a) x good shows) (λ q. absurd cc)

    link_read : {k k' : Known} {z : Bool} {p : Place} {t u : Sort} {y : GhostLinkTree} → LinkHasSort s.scope s.context k z p t y u k' → AgreesAsTold (settling s.known) k' → (x : Reading) → IsRead x t k → (z ≡ true → t ≡ int_sort)
        → IsRead (read_link s z x y) u k'
    link_read (compared {k' = l} {z} {u} {o} {a = b} is m) a x good shows =
        subst (λ q. IsRead (if q then readings.compared o (beside_by (is_null b) z x (read s false x.next b)) else (if moves o x.sort then readings.moved x (read s false x.next b) else readings.joined o x (read s false x.next b))) bool_sort l) (sym is)
        ((meets_read m a x good shows).0, refl)
    link_read (moved {k} {k' = l} {z} {t} {o} {a = b} other is p) a x (next, xs) shows =
        let wanted = known_pointer s k t (before_pass s.scope s.context (settling s.known) p a) (second_of (is_plus o) _ is) in
        let there = both_of (is_plus o) (is_pointer x.sort) (first_of (is_plus o) _ is) (pointer_alike x.sort (settled s t) xs ∙ wanted) in
        subst (λ q. IsRead (if q then readings.compared o (beside_by (is_null b) z x (read s false x.next b)) else (if moves o x.sort then readings.moved x (read s false x.next b) else readings.joined o x (read s false x.next b))) pointer_sort l) (sym other)
        (subst (λ q. IsRead (if q then readings.moved x (read s false x.next b) else readings.joined o x (read s false x.next b)) pointer_sort l) (sym there) (passes_next s false p x.next next, refl))
    link_read (joined {k} {k₁} {k' = l} {z} {t} {o} {a = b} other still e p) a x (next, xs) shows =
        let after = before_pass s.scope s.context (settling s.known) p a in
        let same = equated (settling s.known) k k₁ t (operand_sort o) e after in
        let out = not_second (is_plus o) (is_pointer x.sort) (pointer_alike x.sort (settled s t) xs ∙ pointer_alike (settled s t) (settled s (operand_sort o)) (heads_alike (settled s t) (settled s (operand_sort o)) same) ∙ operand_no_pointer s o) in
        subst (λ q. IsRead (if q then readings.compared o (beside_by (is_null b) z x (read s false x.next b)) else (if moves o x.sort then readings.moved x (read s false x.next b) else readings.joined o x (read s false x.next b))) (result_sort o) l) (sym other)
        (subst (λ q. IsRead (if q then readings.moved x (read s false x.next b) else readings.joined o x (read s false x.next b)) (result_sort o) l) (sym out) (passes_next s false p x.next (next ∙ sym e.long), result_settled s o))
