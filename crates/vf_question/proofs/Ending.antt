-- Unfolding ends.
use Rattle.std.proofs.Common.{◌≡◌, ◌≤◌, ◌<◌, ◌+◌, ◌⊎◌, inl, inr, ℕ, zero, suc, Bool, true, false, cond, List, [], ◌∷◌, ◌++◌, Option, Some, refl, sym, ap, ◌∙◌, subst, arith}
use Rattle.std.specs.Prelude.{not, ◌&&◌, ◌||◌, ◌==◌, count_by}
use Rattle.std.specs.List.{flat_map}
use Rattle.std.specs.Ordering.{is_eq}
use Rattle.std.proofs.lemmas.List.Sums.{sum_by-cons}
use Rattle.std.proofs.lemmas.Bool.{false≢true, cases_lt, eq-eqb, eqb-true}
use Rattle.vf_closure.specs.Terms.{Constructor, Term, term, IsWithin}
use Rattle.vf_closure.specs.Literals.{Literal}
use Rattle.vf_closure.specs.Closure.{Unfoldings, Arises, asked, zero_arises, deeper, in_body, in_case}
use Rattle.vf_normal.specs.Order.{compare}
use Rattle.vf_question.specs.Numbered.{with_term}
use Rattle.vf_question.specs.declared.unfolding.Unfolding.{Unfolding}
use Rattle.vf_question.specs.Unfolded.{IsAskedFor, of_body, of_case, WasMade}
use Rattle.vf_question.specs.Ends.{unfolding_to, unfoldings_of, reach, possible_below, is_one, is_made, UnfoldingEnds}
use Rattle.vf_question.proofs.Places.{one_own, one_told}
use Rattle.vf_question.proofs.Has.{Has, contains_has, has_contains, has_before, term_has}
use Rattle.vf_question.proofs.Asked.{has_arising}
use Rattle.vf_question.proofs.Settled.{next_asked, below_four}

-- ---- lists
pub has_behind : {A : Type 0} (xs ys : List A) (x : A) → Has ys x → Has (xs ++ ys) x
has_behind [] ys x h = h
has_behind (z ∷ zs) ys x h = inr (has_behind zs ys x h)

has_flat : {A B : Type 0} (f : A → List B) (xs : List A) (x : A) (y : B) → Has xs x → Has (f x) y → Has (flat_map f xs) y
has_flat f [] x y h k = absurd h
has_flat f (z ∷ zs) x y (inl e) k = has_before (f z) (flat_map f zs) y (subst (λ w. Has (f w) y) (sym e) k)
has_flat f (z ∷ zs) x y (inr h) k = has_behind (f z) (flat_map f zs) y (has_flat f zs x y h k)

-- ---- what is possible
has_to : (t : Term) (d : ℕ) (b : Term) (o : Option Term) → o ≡ Some b → Has (unfolding_to t d o) (record { application = t; body = b; depth = d })
has_to t d b o e = subst (λ x. Has (unfolding_to t d x) (record { application = t; body = b; depth = d })) (sym e) (inl refl)

by_its_body : (u : Unfoldings) (facts : List Literal) (d : ℕ) (t b : Term) → Has (reach u facts d) t → u.body t ≡ Some b → Has (flat_map (unfoldings_of u d (reach u facts d)) (reach u facts d)) (record { application = t; body = b; depth = d })
by_its_body u facts d t b h e =
    let ts = reach u facts d in
    has_flat (unfoldings_of u d ts) ts t (record { application = t; body = b; depth = d }) h
    (has_before (unfolding_to t d (u.body t)) (flat_map (λ k. unfolding_to t d (u.case t k)) ts) (record { application = t; body = b; depth = d }) (has_to t d b (u.body t) e))

by_a_case : (u : Unfoldings) (facts : List Literal) (d : ℕ) (t k b : Term) → Has (reach u facts d) t → Has (reach u facts d) k → u.case t k ≡ Some b → Has (flat_map (unfoldings_of u d (reach u facts d)) (reach u facts d)) (record { application = t; body = b; depth = d })
by_a_case u facts d t k b h j e =
    let ts = reach u facts d in
    let m : Unfolding = record { application = t; body = b; depth = d } in
    has_flat (unfoldings_of u d ts) ts t m h
    (has_behind (unfolding_to t d (u.body t)) (flat_map (λ x. unfolding_to t d (u.case t x)) ts) m (has_flat (λ x. unfolding_to t d (u.case t x)) ts k m j (has_to t d b (u.case t k) e)))

body_reached : (u : Unfoldings) (facts : List Literal) (d : ℕ) (m : Unfolding) (s : Term) → Has (flat_map (unfoldings_of u d (reach u facts d)) (reach u facts d)) m → IsWithin s m.body → Has (reach u facts (suc d)) s
body_reached u facts d m s h w =
    has_behind (reach u facts d) (flat_map (λ x. with_term x.body []) (flat_map (unfoldings_of u d (reach u facts d)) (reach u facts d))) s
    (has_flat (λ x. with_term x.body []) (flat_map (unfoldings_of u d (reach u facts d)) (reach u facts d)) m s h (term_has m.body [] s w))

-- what arises can be reached
arises_reached : (u : Unfoldings) (facts : List Literal) (d : ℕ) (t : Term) → Arises u facts d t → Has (reach u facts d) t
arises_reached u facts d t (asked c k w) = has_arising facts zero t (asked c k w)
arises_reached u facts d t zero_arises = has_arising facts zero t zero_arises
arises_reached u facts d t (deeper {d = e} l a) = has_before (reach u facts e) (flat_map (λ x. with_term x.body []) (flat_map (unfoldings_of u e (reach u facts e)) (reach u facts e))) t (arises_reached u facts e t a)
arises_reached u facts d t (in_body {d = e} {t = r} {b = b} l a f w) = body_reached u facts e (record { application = r; body = b; depth = e }) t (by_its_body u facts e r b (arises_reached u facts e r a) f) w
arises_reached u facts d t (in_case {d = e} {c = c} {ks = ks} {t = r} {b = b} l a k q s f w) =
    body_reached u facts e (record { application = r; body = b; depth = e }) t (by_a_case u facts e r (term (Constructor c) ks) b (arises_reached u facts e r a) (arises_reached u facts e (term (Constructor c) ks) k) f) w

asked_at : (u : Unfoldings) (facts : List Literal) (m : Unfolding) → IsAskedFor u facts m → Has (flat_map (unfoldings_of u m.depth (reach u facts m.depth)) (reach u facts m.depth)) m
asked_at u facts m (of_body l a e) = by_its_body u facts m.depth m.application m.body (arises_reached u facts m.depth m.application a) e
asked_at u facts m (of_case {c} {ks} l a k q s e) = by_a_case u facts m.depth m.application (term (Constructor c) ks) m.body (arises_reached u facts m.depth m.application a) (arises_reached u facts m.depth (term (Constructor c) ks) k) e

possible_at : (u : Unfoldings) (facts : List Literal) (n d : ℕ) (m : Unfolding) → d < n → Has (flat_map (unfoldings_of u d (reach u facts d)) (reach u facts d)) m → Has (possible_below u facts n) m
possible_at u facts zero d m l h = absurd (omega arith)
possible_at u facts (suc n) d m l h = elim (cases_lt d n) [
  | inl k ↦ has_before (possible_below u facts n) (flat_map (unfoldings_of u n (reach u facts n)) (reach u facts n)) m (possible_at u facts n d m k h)
  | inr k ↦ let e : d ≡ n = omega arith in has_behind (possible_below u facts n) (flat_map (unfoldings_of u n (reach u facts n)) (reach u facts n)) m (subst (λ (x : ℕ). Has (flat_map (unfoldings_of u x (reach u facts x)) (reach u facts x)) m) e h)
]

asked_possible : (u : Unfoldings) (facts : List Literal) (m : Unfolding) → m.depth < 4 → IsAskedFor u facts m → Has (possible_below u facts 4) m
asked_possible u facts m l a = possible_at u facts 4 m.depth m l (asked_at u facts m a)

-- ---- what was made
and_both : (a b : Bool) → (a && b) ≡ true → (a ≡ true) × (b ≡ true)
and_both true b e = (refl, e)
and_both false b e = cc

and_from : (a b : Bool) → a ≡ true → b ≡ true → (a && b) ≡ true
and_from true b e f = f
and_from false b e f = cc

or_cases : (a b : Bool) → (a || b) ≡ true → (a ≡ true) ⊎ (b ≡ true)
or_cases true b e = inl refl
or_cases false b e = inr e

or_left : (a b : Bool) → a ≡ true → (a || b) ≡ true
or_left true b e = refl
or_left false b e = cc

or_right : (a b : Bool) → b ≡ true → (a || b) ≡ true
or_right true b e = refl
or_right false b e = e

one_self : (m : Unfolding) → is_one m m ≡ true
one_self m = and_from (is_eq (compare m.application m.application) && is_eq (compare m.body m.body)) (m.depth == m.depth) (and_from (is_eq (compare m.application m.application)) (is_eq (compare m.body m.body)) (one_own m.application) (one_own m.body)) (eq-eqb m.depth m.depth refl)

made_is : (n m : Unfolding) (ns : List Unfolding) → is_one n m ≡ true → WasMade (n ∷ ns) m.application m.body m.depth
made_is n m ns e =
    let a = and_both (is_eq (compare n.application m.application) && is_eq (compare n.body m.body)) (n.depth == m.depth) e in
    let b = and_both (is_eq (compare n.application m.application)) (is_eq (compare n.body m.body)) a.0 in
    let d : n.depth ≡ m.depth = eqb-true n.depth m.depth a.1 in
    record { found = n; stands = (0, omega arith, refl); application = one_told n.application m.application b.0; body = one_told n.body m.body b.1; depth = omega arith }

was_behind : (n m : Unfolding) (ns : List Unfolding) → WasMade ns m.application m.body m.depth → WasMade (n ∷ ns) m.application m.body m.depth
was_behind n m ns w = record { found = w.found; stands = has_contains (n ∷ ns) w.found (inr (contains_has ns w.found w.stands)); application = w.application; body = w.body; depth = w.depth }

made_was : (ms : List Unfolding) (m : Unfolding) → is_made ms m ≡ true → WasMade ms m.application m.body m.depth
made_was [] m e = cc
made_was (n ∷ ns) m e = elim (or_cases (is_one n m) (is_made ns m) e) [ inl f ↦ made_is n m ns f | inr f ↦ was_behind n m ns (made_was ns m f) ]

made_last : (ms : List Unfolding) (m : Unfolding) → is_made (ms ++ m ∷ []) m ≡ true
made_last [] m = or_left (is_one m m) false (one_self m)
made_last (n ∷ ns) m = or_right (is_one n m) (is_made (ns ++ m ∷ []) m) (made_last ns m)

made_still : (ms : List Unfolding) (m k : Unfolding) → is_made ms k ≡ true → is_made (ms ++ m ∷ []) k ≡ true
made_still [] m k e = cc
made_still (n ∷ ns) m k e = elim (or_cases (is_one n k) (is_made ns k) e) [ inl f ↦ or_left (is_one n k) (is_made (ns ++ m ∷ []) k) f | inr f ↦ or_right (is_one n k) (is_made (ns ++ m ∷ []) k) (made_still ns m k f) ]

-- ---- counting
abbrev unit : Bool → ℕ
unit b = cond b 1 0

weigh : (b c : Bool) → (b ≡ true → c ≡ true) → cond b 1 0 ≤ cond c 1 0
weigh true c f = let e = ap unit (f refl) in omega (arith, e)
weigh false true f = omega arith
weigh false false f = omega arith

counted : {A : Type 0} (p : A → Bool) (x : A) (xs : List A) → count_by p (x ∷ xs) ≡ cond (p x) 1 0 + count_by p xs
counted p x xs = sum_by-cons (λ y. cond (p y) 1 0) x xs

fewer : {A : Type 0} (p q : A → Bool) (xs : List A) → ((x : A) → q x ≡ true → p x ≡ true) → count_by q xs ≤ count_by p xs
fewer p q [] f = omega arith
fewer p q (x ∷ xs) f = omega (arith, counted p x xs, counted q x xs, weigh (q x) (p x) (f x), fewer p q xs f)

fewer_by_one : {A : Type 0} (p q : A → Bool) (xs : List A) (m : A) → ((x : A) → q x ≡ true → p x ≡ true) → Has xs m → p m ≡ true → q m ≡ false → count_by q xs < count_by p xs
fewer_by_one p q [] m f h e n = absurd h
fewer_by_one p q (x ∷ xs) m f (inl g) e n = omega (arith, counted p x xs, counted q x xs, ap unit (ap p g ∙ e), ap unit (ap q g ∙ n), fewer p q xs f)
fewer_by_one p q (x ∷ xs) m f (inr h) e n = omega (arith, counted p x xs, counted q x xs, weigh (q x) (p x) (f x), fewer_by_one p q xs m f h e n)

unmade : (b : Bool) → (b ≡ true → ⊥) → not b ≡ true
unmade true n = absurd (n refl)
unmade false n = refl

made_not : (b : Bool) → b ≡ true → not b ≡ false
made_not true e = refl
made_not false e = absurd (false≢true e)

kept_out : (a b : Bool) → (a ≡ true → b ≡ true) → not b ≡ true → not a ≡ true
kept_out true b f e = absurd (false≢true (sym (made_not b (f refl)) ∙ e))
kept_out false b f e = refl

pub unfolding_ends : UnfoldingEnds
unfolding_ends u facts made m right next none =
    fewer_by_one (λ x. not (is_made made x)) (λ x. not (is_made (made ++ m ∷ []) x)) (possible_below u facts 4) m
    (λ x. kept_out (is_made made x) (is_made (made ++ m ∷ []) x) (made_still made m x))
    (asked_possible u facts m (below_four u facts m (next_asked u facts made right m next)) (next_asked u facts made right m next))
    (unmade (is_made made m) (λ e. none (made_was made m e)))
    (made_not (is_made (made ++ m ∷ []) m) (made_last made m))
