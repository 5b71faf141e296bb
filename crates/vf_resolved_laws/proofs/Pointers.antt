-- The sort of a reading tells what that of its expression tells of the struct to which a pointer points.
use Rattle.std.proofs.Common.{◌≡◌, ℕ, Bool, true, false, length, refl, sym, subst, ap, ◌∙◌}
use Rattle.std.specs.Prelude.{if◌then◌else◌, ◌||◌}
use Rattle.vf_base.specs.declared.place.Place.{Place}
use Rattle.vf_meaning.specs.Ghost.{Name}
use Rattle.vf_sorts.specs.declared.sort.Head.TheVariants as heads
use Rattle.vf_sorts.specs.Sorts.{Sort, sort}
use Rattle.vf_sorts.specs.Pairs.{head_of}
use Rattle.vf_sorts.specs.Unknowns.{AgreesAsTold, Known, instance, settling}
use Rattle.vf_syntax.specs.declared.operator.BinaryOperator.{BinaryOperator}
use Rattle.vf_syntax.specs.declared.operator.BinaryOperator.TheVariants as operators
use Rattle.vf_syntax.specs.declared.operator.UnaryOperator.TheVariants as unaries
use Rattle.vf_syntax.specs.GhostExprTree.{GhostExprTree, GhostLinkTree, GhostLinkTrees}
use Rattle.vf_sorting.specs.HasSort.{HasSort, number, truth, falsehood, result, this_, thread, name_, application, parenthesized, conditional, prefixed, chain, Meets, null_second, null_first, any_beside, alike, LinkHasSort, compared, moved, joined, LinksHaveSort, no_links, more_links}
use Rattle.vf_sorting.specs.Kinds.{int_sort, is_any, is_pointer, pointer_sort}
use Rattle.vf_sorting.specs.Operators.{is_null, is_plus, moves, result_sort}
use Rattle.vf_terms.specs.Settings.{Setting, settled}
use Rattle.vf_terms.specs.Named.{scheme_or_int}
use Rattle.vf_terms.specs.Readings.{beside_by, read, read_link, read_links, sort_or_int}
use Rattle.vf_terms.specs.Readings as readings
use Rattle.vf_terms.specs.declared.reading.Reading.{Reading}
use Rattle.vf_terms.specs.declared.reading.Pair.{Pair}
use Rattle.vf_resolved_laws.specs.Given.{GivesSorts}
use Rattle.vf_resolved_laws.proofs.Sorting.{heads_alike, pointer_alike}
use Rattle.vf_resolved_laws.proofs.Before.{before, before_links, before_meet, before_pass, equated}
use Rattle.vf_resolved_laws.proofs.Naming.{D}
use Rattle.vf_resolved_laws.proofs.Operating.{beside_null, beside_paired, both_of, first_of, known_pointer, not_first, null_sorted, paired_alike, paired_null, second_of}
use Rattle.vf_resolved_laws.proofs.Reading.{IsRead, has_read, link_read, no_and_yes, not_both, not_null, nothing_wanted, passes_read}

-- a pointer is not `any`
pointer_not_any : (t : Sort) → is_pointer t ≡ true → is_any t ≡ false
pointer_not_any (sort (heads.Pointer w) ts) e = refl
pointer_not_any (sort heads.Int ts) e = absurd cc
pointer_not_any (sort heads.Bool ts) e = absurd cc
pointer_not_any (sort heads.Real ts) e = absurd cc
pointer_not_any (sort heads.Any ts) e = absurd cc
pointer_not_any (sort (heads.Parameter i) ts) e = absurd cc
pointer_not_any (sort (heads.Unknown u) ts) e = absurd cc
pointer_not_any (sort (heads.Datatype d) ts) e = absurd cc
pointer_not_any (sort heads.Predicate ts) e = absurd cc

-- what an operator gives that moves nothing is no pointer
result_no_pointer : (s : Setting) (o : BinaryOperator) → is_pointer (settled s (result_sort o)) ≡ false
result_no_pointer s operators.Times = refl
result_no_pointer s operators.Divide = refl
result_no_pointer s operators.Remainder = refl
result_no_pointer s operators.Plus = refl
result_no_pointer s operators.Minus = refl
result_no_pointer s operators.Less = refl
result_no_pointer s operators.LessOrEqual = refl
result_no_pointer s operators.Greater = refl
result_no_pointer s operators.GreaterOrEqual = refl
result_no_pointer s operators.Equal = refl
result_no_pointer s operators.NotEqual = refl
result_no_pointer s operators.And = refl
result_no_pointer s operators.Or = refl

no_any : (a b : Bool) → a ≡ false → b ≡ false → (a || b) ≡ false
no_any true b e f = absurd cc
no_any false b e f = f

module _ (s : Setting) (names : Name → Sort) (gives : GivesSorts (D s names) s) where
  -- a reading has the head of a sort of pointers, with what it tells
  abbrev Tells : Sort → Sort → Type 0
  Tells r t = is_pointer (settled s t) ≡ true → head_of r ≡ head_of (settled s t)

  abbrev Agrees : Known → Type 0
  Agrees k = AgreesAsTold (settling s.known) k

  mutual
    pub has_told : {k k' : Known} {e : GhostExprTree} {t : Sort} → HasSort s.scope s.context k e t k' → Agrees k' → (u : ℕ) → u ≡ length k → Tells (read s false u e).sort t
    has_told number a u at = λ p. refl
    has_told truth a u at = λ p. refl
    has_told falsehood a u at = λ p. refl
    has_told (result is below) a u at = λ p. ap (λ o. head_of (settled s (sort_or_int o))) is
    has_told (this_ is) a u at = λ p. refl
    has_told (thread is) a u at = λ p. refl
    has_told (name_ {g} is below) a u at = λ p. ap (λ r. head_of (settled s (instance u (scheme_or_int r).parameters (scheme_or_int r).result))) is ∙ ap (λ n. head_of (settled s (instance n g.parameters g.result))) at
    has_told (application {g} local is below passed) a u at = λ p. ap (λ r. head_of (settled s (instance u (scheme_or_int r).parameters (scheme_or_int r).result))) is ∙ ap (λ n. head_of (settled s (instance n g.parameters g.result))) at
    has_told (parenthesized h) a u at = has_told h a u at
    has_told (conditional {a = c} {b} {d} {t} test h m) a u at =
        let there = before_meet s.scope s.context (settling s.known) m a in
        let first = passes_read s names gives false test (before s.scope s.context (settling s.known) h there) refl u at in
        meets_told m a (read s false (read s false u c).next b) (has_read s names gives false h there (nothing_wanted s names gives t) (read s false u c).next first.0) (has_told h there (read s false u c).next first.0) (λ q. (null_sorted h q).0)
    has_told (prefixed {o = unaries.Minus} p) a u at = λ p. refl
    has_told (prefixed {o = unaries.Not} p) a u at = λ p. refl
    has_told (chain {a = b} {t} h l) a u at =
        let there = before_links s.scope s.context (settling s.known) l a in
        links_told l a (read s false u b) (has_read s names gives false h there (nothing_wanted s names gives t) u at) (has_told h there u at) (λ q. (null_sorted h q).0)

    meets_told : {k k' : Known} {z : Bool} {t u : Sort} {d : GhostExprTree} → Meets s.scope s.context k z t d u k' → Agrees k' → (x : Reading) → IsRead s names gives x t k → Tells x.sort t → (z ≡ true → t ≡ int_sort)
        → Tells (beside_by (is_null d) z x (read s false x.next d)).sort u
    meets_told (null_second {k} {z} {t} {d} is) a x xs tells shows =
        let wanted = known_pointer s k t a (first_of _ (is_null d) is) in
        let there = both_of (is_pointer x.sort) (is_null d) (pointer_alike x.sort (settled s t) xs.1 ∙ wanted) (second_of _ (is_null d) is) in
        subst (λ (p : Pair). Tells p.sort t) (sym (beside_null (is_null d) z x (read s false x.next d) there)) tells
    meets_told (null_first {k} {k'} {z} {t} {u} {d} other h is) a x xs tells shows =
        let y = has_read s names gives false h a (nothing_wanted s names gives u) x.next xs.0 in
        let wanted = known_pointer s k' u a (first_of _ z is) in
        let out = not_first (is_pointer x.sort) (is_null d) (pointer_alike x.sort (settled s t) xs.1 ∙ not_null s names gives z t shows (second_of _ z is)) in
        let there = both_of (is_pointer (read s false x.next d).sort) z (pointer_alike (read s false x.next d).sort (settled s u) y.1 ∙ wanted) (second_of _ z is) in
        subst (λ (p : Pair). Tells p.sort u) (sym (beside_paired (is_null d) z x (read s false x.next d) out ∙ paired_null z x (read s false x.next d) there)) (has_told h a x.next xs.0)
    meets_told (any_beside other h not_one is) a x xs tells shows = λ p. absurd (let q : false ≡ true = p in cc)
    meets_told (alike {k} {k₁} {k'} {z} {t} {u} {d} other h not_one not_any e) a x xs tells shows = λ wanted.
        let after = e.kept (settling s.known) a in
        let y = has_read s names gives false h after (nothing_wanted s names gives u) x.next xs.0 in
        let same = heads_alike (settled s u) (settled s t) (equated (settling s.known) k₁ k' u t e a) in
        let x_is = pointer_alike x.sort (settled s t) xs.1 ∙ wanted in
        let y_is = pointer_alike (read s false x.next d).sort (settled s u) y.1 ∙ pointer_alike (settled s u) (settled s t) same ∙ wanted in
        let left = not_both (is_pointer x.sort) (is_null d) (λ q. no_and_yes (is_pointer (settled s u)) (not_null s names gives (is_null d) u (λ n. (null_sorted h n).0) q) (pointer_alike (settled s u) (settled s t) same ∙ wanted)) in
        let right = not_both (is_pointer (read s false x.next d).sort) z (λ q. no_and_yes (is_pointer (settled s t)) (not_null s names gives z t shows q) wanted) in
        ap (λ (p : Pair). head_of p.sort) (beside_paired (is_null d) z x (read s false x.next d) left ∙ paired_alike z x (read s false x.next d) right (no_any (is_any x.sort) (is_any (read s false x.next d).sort) (pointer_not_any x.sort x_is) (pointer_not_any (read s false x.next d).sort y_is)))
        ∙ tells wanted

    links_told : {k k' : Known} {z : Bool} {p : Place} {t u : Sort} {xs : GhostLinkTrees} → LinksHaveSort s.scope s.context k z p t xs u k' → Agrees k' → (x : Reading) → IsRead s names gives x t k → Tells x.sort t → (z ≡ true → t ≡ int_sort) → Tells (read_links s z x xs).sort u
    links_told no_links a x good tells shows = tells
    links_told (more_links {z} {x = y} l ls) a x good tells shows =
        let there = before_links s.scope s.context (settling s.known) ls a in
        links_told ls a (read_link s z x y) (link_read s names gives l there x good shows) (link_told l there x good shows) (λ q. absurd cc)

    link_told : {k k' : Known} {z : Bool} {p : Place} {t u : Sort} {y : GhostLinkTree} → LinkHasSort s.scope s.context k z p t y u k' → Agrees k' → (x : Reading) → IsRead s names gives x t k → (z ≡ true → t ≡ int_sort) → Tells (read_link s z x y).sort u
    link_told (compared is m) a x good shows = λ p. absurd (let q : false ≡ true = p in cc)
    link_told (moved {k} {z} {t} {o} {a = b} other is p) a x good shows =
        let wanted = known_pointer s k t (before_pass s.scope s.context (settling s.known) p a) (second_of (is_plus o) _ is) in
        let there = both_of (is_plus o) (is_pointer x.sort) (first_of (is_plus o) _ is) (pointer_alike x.sort (settled s t) good.1 ∙ wanted) in
        subst (λ q. Tells (if q then readings.compared o (beside_by (is_null b) z x (read s false x.next b)) else (if moves o x.sort then readings.moved x (read s false x.next b) else readings.joined o x (read s false x.next b))).sort pointer_sort) (sym other)
        (subst (λ q. Tells (if q then readings.moved x (read s false x.next b) else readings.joined o x (read s false x.next b)).sort pointer_sort) (sym there) (λ p. refl))
    link_told (joined {o} other still e p) a x good shows = λ w. no_and_yes (is_pointer (settled s (result_sort o))) (result_no_pointer s o) w
