-- The unknown sorts behind an expression are numbered as they are where it is sorted, whatever values its names have.
use Rattle.std.proofs.Common.{◌≡◌, ℕ, ◌+◌, Bool, true, false, List, length, refl, sym, subst, ap, ◌∙◌}
use Rattle.std.specs.Prelude.{if◌then◌else◌, ◌&&◌, ◌||◌, nat_eq, pos}
use Rattle.vf_base.specs.declared.place.Place.{Place}
use Rattle.vf_closure.specs.Terms as terms
use Rattle.vf_sorts.specs.Sorts.{Sort}
use Rattle.vf_sorts.specs.Unknowns.{Known, instance}
use Rattle.vf_syntax.specs.GhostExprTree.{GhostExprTree, GhostExprTrees, GhostLinkTree, GhostLinkTrees}
use Rattle.vf_syntax.specs.GhostExprTree as tree
use Rattle.vf_syntax.specs.declared.operator.BinaryOperator.{BinaryOperator}
use Rattle.vf_sorting.specs.HasSort.{HasSort, number, truth, falsehood, result, this_, thread, name_, application, parenthesized, conditional, prefixed, chain, Meets, null_second, null_first, any_beside, alike, LinkHasSort, compared, moved, joined, LinksHaveSort, no_links, more_links, Passes, inside, null, choice, any_wanted, as_wanted, ArePassed, none_passed, one_passed}
use Rattle.vf_sorting.specs.Kinds.{int_sort, is_any, is_pointer, pointer_sort, value_sort, with_fresh}
use Rattle.vf_sorting.specs.Operators.{is_equality, is_null, moves}
use Rattle.vf_sorting.proofs.Below.{fresh_length}
use Rattle.vf_terms.specs.Settings.{Setting, settled}
use Rattle.vf_terms.specs.Named.{scheme_or_int, term_of_name}
use Rattle.vf_terms.specs.Readings.{applied_at, beside_by, linked, null_term, number_reading, paired, read, read_all, read_link, read_links, reading, used_at}
use Rattle.vf_terms.specs.Readings as readings
use Rattle.vf_terms.specs.declared.reading.Reading.{Reading}
use Rattle.vf_terms.specs.declared.reading.Pair.{Pair}
use Rattle.vf_fixpoint_laws.proofs.values.Operating.{second_of}

-- ---- readings of operands
number_next : (w : Bool) (n u : ℕ) → (number_reading w n u).next ≡ u
number_next w n u = by (w && nat_eq n 0)
  where
    by : (b : Bool) → (if b then reading pointer_sort null_term u else reading int_sort (terms.number (pos n)) u).next ≡ u
    by true = refl
    by false = refl

null_next : (s : Setting) (w : Bool) (u : ℕ) (d : GhostExprTree) → is_null d ≡ true → (read s w u d).next ≡ u
null_next s w u (tree.number p n i) e = number_next w n u
null_next s w u (tree.parenthesized p a) e = null_next s w u a e
null_next s w u (tree.true_ p) e = absurd cc
null_next s w u (tree.false_ p) e = absurd cc
null_next s w u (tree.result p) e = absurd cc
null_next s w u (tree.this_ p) e = absurd cc
null_next s w u (tree.current_thread p) e = absurd cc
null_next s w u (tree.name_ p x) e = absurd cc
null_next s w u (tree.application p f xs) e = absurd cc
null_next s w u (tree.conditional p a b c) e = absurd cc
null_next s w u (tree.unary p o a) e = absurd cc
null_next s w u (tree.chain p l a xs) e = absurd cc

paired_next : (z : Bool) (x y : Reading) → (paired z x y).next ≡ y.next
paired_next z x y = by (is_pointer y.sort && z) (is_any x.sort || is_any y.sort)
  where
    whole : Bool → Bool → Pair
    whole a b = if a then record { first = null_term; second = y.term; sort = y.sort; next = y.next } else if b then record { first = x.term; second = y.term; sort = value_sort; next = y.next } else record { first = x.term; second = y.term; sort = x.sort; next = y.next }

    by : (a b : Bool) → (whole a b).next ≡ y.next
    by true b = refl
    by false true = refl
    by false false = refl

-- a right operand that is a `0` takes no numbers
beside_next : (s : Setting) (z : Bool) (x : Reading) (d : GhostExprTree) → (beside_by (is_null d) z x (read s false x.next d)).next ≡ (read s false x.next d).next
beside_next s z x d = by (is_pointer x.sort && is_null d) refl
  where
    other : Pair
    other = paired z x (read s false x.next d)

    whole : Bool → Pair
    whole b = if b then record { first = x.term; second = null_term; sort = x.sort; next = x.next } else other

    by : (b : Bool) → (is_pointer x.sort && is_null d) ≡ b → (whole b).next ≡ (read s false x.next d).next
    by true e = sym (null_next s false x.next d (second_of (is_pointer x.sort) (is_null d) e))
    by false e = paired_next z x (read s false x.next d)

linked_next : (s : Setting) (o : BinaryOperator) (z : Bool) (x : Reading) (d : GhostExprTree) → (linked o (is_null d) z x (read s false x.next d)).next ≡ (read s false x.next d).next
linked_next s o z x d = by (is_equality o) (moves o x.sort)
  where
    whole : Bool → Bool → Reading
    whole a b = if a then readings.compared o (beside_by (is_null d) z x (read s false x.next d)) else if b then readings.moved x (read s false x.next d) else readings.joined o x (read s false x.next d)

    by : (a b : Bool) → (whole a b).next ≡ (read s false x.next d).next
    by true b = beside_next s z x d
    by false true = refl
    by false false = refl

-- ---- expressions
module _ (s : Setting) where
  mutual
    has_next : {k k' : Known} {e : GhostExprTree} {t : Sort} (w : Bool) → HasSort s.scope s.context k e t k' → (u : ℕ) → u ≡ length k → (read s w u e).next ≡ length k'
    has_next w (number {n}) u at = number_next w n u ∙ at
    has_next w truth u at = at
    has_next w falsehood u at = at
    has_next w (result is below) u at = at
    has_next w (this_ is) u at = at
    has_next w (thread is) u at = at
    has_next w (name_ {k} {p} {x} {g} is below) u at =
        subst (λ r. (used_at s (scheme_or_int r) (term_of_name s x p.file) u).next ≡ length (with_fresh k g.parameters)) (sym is)
        (ap (λ n. n + g.parameters) at ∙ sym (fresh_length k g.parameters))
    has_next w (application {k} {k'} {p} {f} {xs} {g} local is below passed) u at =
        subst (λ r. (applied_at s (scheme_or_int r) f p.file u (read_all s u (scheme_or_int r).parameters (scheme_or_int r).arguments (u + (scheme_or_int r).parameters) xs)).next ≡ length k') (sym is)
        (subst (λ n. (applied_at s g f p.file n (read_all s n g.parameters g.arguments (n + g.parameters) xs)).next ≡ length k') (sym at)
        (passed_next passed (length k + g.parameters) (sym (fresh_length k g.parameters))))
    has_next w (parenthesized h) u at = has_next w h u at
    has_next false (conditional {a = c} {b} {d} test h m) u at =
        let first = passes_next false test u at in
        let x = has_next false h (read s false u c).next first in
        beside_next s (is_null b) (read s false (read s false u c).next b) d ∙ meets_next false m (read s false (read s false u c).next b).next x
    has_next true (conditional {a = c} {b} {d} test h m) u at =
        let first = passes_next false test u at in
        let x = has_next true h (read s false u c).next first in
        meets_next true m (read s true (read s false u c).next b).next x
    has_next w (prefixed p) u at = passes_next false p u at
    has_next w (chain {a = b} h l) u at = links_next l (read s false u b) (has_next false h u at)

    meets_next : {k k' : Known} {z : Bool} {t u : Sort} {d : GhostExprTree} (w : Bool) → Meets s.scope s.context k z t d u k' → (n : ℕ) → n ≡ length k → (read s w n d).next ≡ length k'
    meets_next w (null_second {d} is) n at = null_next s w n d (second_of _ (is_null d) is) ∙ at
    meets_next w (null_first other h is) n at = has_next w h n at
    meets_next w (any_beside other h not_null is) n at = has_next w h n at
    meets_next w (alike other h not_null not_any e) n at = has_next w h n at ∙ sym e.long

    links_next : {k k' : Known} {z : Bool} {p : Place} {t u : Sort} {xs : GhostLinkTrees} → LinksHaveSort s.scope s.context k z p t xs u k' → (x : Reading) → x.next ≡ length k → (read_links s z x xs).next ≡ length k'
    links_next no_links x at = at
    links_next (more_links {z} {x = y} l ls) x at = links_next ls (read_link s z x y) (link_next l x at)

    link_next : {k k' : Known} {z : Bool} {p : Place} {t u : Sort} {y : GhostLinkTree} → LinkHasSort s.scope s.context k z p t y u k' → (x : Reading) → x.next ≡ length k → (read_link s z x y).next ≡ length k'
    link_next (compared {z} {o} {a} is m) x at = linked_next s o z x a ∙ meets_next false m x.next at
    link_next (moved {z} {o} {a} other is p) x at = linked_next s o z x a ∙ passes_next false p x.next at
    link_next (joined {z} {o} {a} other still e p) x at = linked_next s o z x a ∙ passes_next false p x.next (at ∙ sym e.long)

    -- behind an expression that passes for a sort, whether a pointer is wanted or not
    pub passes_next : {k k' : Known} {w : Sort} {q : Place} {e : GhostExprTree} (b : Bool) → Passes s.scope s.context k w q e k' → (u : ℕ) → u ≡ length k → (read s b u e).next ≡ length k'
    passes_next b (inside p) u at = passes_next b p u at
    passes_next b (null {n} is) u at = number_next b n u ∙ at
    passes_next false (choice {a = c} {b} {d} pointer test x y) u at =
        let first = passes_next false test u at in
        let left = passes_next false x (read s false u c).next first in
        beside_next s (is_null b) (read s false (read s false u c).next b) d ∙ passes_next false y (read s false (read s false u c).next b).next left
    passes_next true (choice {a = c} {b} pointer test x y) u at =
        let first = passes_next false test u at in
        let left = passes_next true x (read s false u c).next first in
        passes_next true y (read s true (read s false u c).next b).next left
    passes_next b (any_wanted outside any h) u at = has_next b h u at
    passes_next b (as_wanted outside other h e) u at = has_next b h u at ∙ sym e.long

    passed_next : {k k' : Known} {first n : ℕ} {ts : List Sort} {xs : GhostExprTrees} → ArePassed s.scope s.context k first n ts xs k' → (u : ℕ) → u ≡ length k → (read_all s first n ts u xs).next ≡ length k'
    passed_next none_passed u at = at
    passed_next (one_passed {first} {n} {t} {a = b} p ps) u at =
        passed_next ps (read s (is_pointer (settled s (instance first n t))) u b).next (passes_next (is_pointer (settled s (instance first n t))) p u at)
