-- Where an operand is refused, and the pairs of operands that are out of order.
use Rattle.std.proofs.Common.{◌≡◌, ◌⊎◌, inl, inr, Bool, true, false, ◌&&◌, ◌||◌, if◌then◌else◌, IsTrue, List, [], ◌∷◌, ◌++◌, Some, None, refl, sym, ap, ◌∙◌}
use Rattle.vf_base.specs.declared.place.Place.{Place}
use Rattle.vf_order.specs.Marks.{Mark, place_of, holds_call, is_held, first_place, clash}
use Rattle.vf_order.specs.Ordered.{AreUnordered, IsInOrder}
use Rattle.vf_order.proofs.Sums.{holds_call_joined}

-- two operands are out of order, as a test
abbrev pub pairs : List Mark → List Mark → Bool
pairs ms ns = (holds_call ms && is_held ns) || (is_held ms && holds_call ns)

-- an operand is out of order with one of those before it
abbrev pub any_pairs : List (List Mark) → List Mark → Bool
any_pairs [] ns = false
any_pairs (ms ∷ before) ns = pairs ms ns || any_pairs before ns

-- a test that fails refutes what it tests
refuted : (a b c d : Bool) → ((a && b) || (c && d)) ≡ false → ((IsTrue a × IsTrue b) ⊎ (IsTrue c × IsTrue d)) → ⊥
refuted true true c d e s = absurd cc
refuted true false c d e (inl h) = let k = h.1 in absurd cc
refuted true false true true e (inr h) = absurd cc
refuted true false true false e (inr h) = let k = h.1 in absurd cc
refuted true false false d e (inr h) = let k = h.0 in absurd cc
refuted false b c d e (inl h) = let k = h.0 in absurd cc
refuted false b true true e (inr h) = absurd cc
refuted false b true false e (inr h) = let k = h.1 in absurd cc
refuted false b false d e (inr h) = let k = h.0 in absurd cc

-- what is refuted fails its test
failed : (a b c d : Bool) → (((IsTrue a × IsTrue b) ⊎ (IsTrue c × IsTrue d)) → ⊥) → ((a && b) || (c && d)) ≡ false
failed true true c d f = absurd (f (inl (refl, refl)))
failed true false true true f = absurd (f (inr (refl, refl)))
failed true false true false f = refl
failed true false false d f = refl
failed false b true true f = absurd (f (inr (refl, refl)))
failed false b true false f = refl
failed false b false d f = refl

-- of two tests the first fails
first_fails : (a b : Bool) → (a || b) ≡ false → a ≡ false
first_fails true b e = e
first_fails false b e = refl

-- of two tests the second fails
second_fails : (a b : Bool) → (a || b) ≡ false → b ≡ false
second_fails true b e = absurd cc
second_fails false b e = e

-- two tests fail
both_fail : (a b : Bool) → a ≡ false → b ≡ false → (a || b) ≡ false
both_fail true b d e = d
both_fail false b d e = e

-- two operands whose test fails
pub pair_in_order : (ms ns : List Mark) → pairs ms ns ≡ false → AreUnordered ms ns → ⊥
pair_in_order ms ns e = refuted (holds_call ms) (is_held ns) (is_held ms) (holds_call ns) e

-- two operands in order
pub pair_fails : (ms ns : List Mark) → (AreUnordered ms ns → ⊥) → pairs ms ns ≡ false
pair_fails ms ns f = failed (holds_call ms) (is_held ns) (is_held ms) (holds_call ns) f

-- an operand whose tests fail
in_order : (before : List (List Mark)) (ns : List Mark) → any_pairs before ns ≡ false → IsInOrder before ns
in_order [] ns e = tt
in_order (ms ∷ before) ns e = (pair_in_order ms ns (first_fails (pairs ms ns) (any_pairs before ns) e), in_order before ns (second_fails (pairs ms ns) (any_pairs before ns) e))

-- an operand in order
all_fail : (before : List (List Mark)) (ns : List Mark) → IsInOrder before ns → any_pairs before ns ≡ false
all_fail [] ns h = refl
all_fail (ms ∷ before) ns h = both_fail (pairs ms ns) (any_pairs before ns) (pair_fails ms ns h.0) (all_fail before ns h.1)

-- a place that is chosen
chosen : (c : Bool) (p : Place) → (if c then Some p else None) ≡ None → c ≡ false
chosen true p e = absurd cc
chosen false p e = refl

-- operands that do not clash, of which the first hold something
apart : (b : Bool) (ns : List Mark) → (if b || holds_call ns then first_place ns else None) ≡ None → ((b && is_held ns) || holds_call ns) ≡ false
apart true [] e = refl
apart false [] e = refl
apart true (n ∷ ns) e = absurd cc
apart false (n ∷ ns) e = chosen (holds_call (n ∷ ns)) (place_of n) e

-- the other way round
together : (b : Bool) (ns : List Mark) → ((b && is_held ns) || holds_call ns) ≡ false → (if b || holds_call ns then first_place ns else None) ≡ None
together true [] e = refl
together false [] e = refl
together true (n ∷ ns) e = absurd cc
together false (n ∷ ns) e = ap (λ c. if c then Some (place_of n) else None) e

-- operands that do not clash
pub clash_fails : (ms ns : List Mark) → clash ms ns ≡ None → pairs ms ns ≡ false
clash_fails [] ns e = refl
clash_fails (m ∷ ms) ns e = apart (holds_call (m ∷ ms)) ns e

-- operands whose test fails
pub no_clash : (ms ns : List Mark) → pairs ms ns ≡ false → clash ms ns ≡ None
no_clash [] ns e = refl
no_clash (m ∷ ms) ns e = together (holds_call (m ∷ ms)) ns e

-- what operands hold together is out of order with what one of them is
abbrev pub Ties : List (List Mark) → List Mark → Type 0
Ties before ms = (ns : List Mark) → any_pairs before ns ≡ pairs ms ns

-- nothing behind a test
or_nothing : (a : Bool) → (a || false) ≡ a
or_nothing true = refl
or_nothing false = refl

-- two tests in either order
or_swapped : (a b : Bool) → (a || b) ≡ (b || a)
or_swapped true true = refl
or_swapped true false = refl
or_swapped false true = refl
or_swapped false false = refl

-- one of two, and a third
and_shared : (a b h : Bool) → ((a || b) && h) ≡ ((a && h) || (b && h))
and_shared true b true = refl
and_shared true true false = refl
and_shared true false false = refl
and_shared false b h = refl

-- four tests in another order
or_crossed : (w x y z : Bool) → ((w || x) || (y || z)) ≡ ((w || y) || (x || z))
or_crossed true x y z = refl
or_crossed false true true z = refl
or_crossed false true false z = refl
or_crossed false false y z = refl

-- what two lists hold
is_held_joined : (ms ks : List Mark) → is_held (ms ++ ks) ≡ (is_held ms || is_held ks)
is_held_joined [] ks = refl
is_held_joined (m ∷ ms) ks = refl

-- two lists are out of order with what one of them is
pairs_joined : (ms ks ns : List Mark) → pairs (ms ++ ks) ns ≡ (pairs ms ns || pairs ks ns)
pairs_joined ms ks ns =
    let calls = holds_call_joined ms ks in
    let held = is_held_joined ms ks in
    let called = and_shared (holds_call ms) (holds_call ks) (is_held ns) in
    let read = and_shared (is_held ms) (is_held ks) (holds_call ns) in
    (λ i. (calls i && is_held ns) || (held i && holds_call ns)) ∙ (λ i. called i || read i) ∙ or_crossed (holds_call ms && is_held ns) (holds_call ks && is_held ns) (is_held ms && holds_call ns) (is_held ks && holds_call ns)

-- one operand
pub ties_one : (ms : List Mark) → Ties (ms ∷ []) ms
ties_one ms ns = or_nothing (pairs ms ns)

-- a further operand
pub ties_more : (before : List (List Mark)) (ms ks : List Mark) → Ties before ms → Ties (ks ∷ before) (ms ++ ks)
ties_more before ms ks t ns = ap (λ b. pairs ks ns || b) (t ns) ∙ or_swapped (pairs ks ns) (pairs ms ns) ∙ sym (pairs_joined ms ks ns)

-- operands that do not clash with a further one
pub clash_in_order : (before : List (List Mark)) (ms : List Mark) → Ties before ms → (ns : List Mark) → clash ms ns ≡ None → IsInOrder before ns
clash_in_order before ms t ns e = in_order before ns (t ns ∙ clash_fails ms ns e)

-- a further operand in order does not clash with them
pub in_order_clash : (before : List (List Mark)) (ms : List Mark) → Ties before ms → (ns : List Mark) → IsInOrder before ns → clash ms ns ≡ None
in_order_clash before ms t ns h = no_clash ms ns (sym (t ns) ∙ all_fail before ns h)
