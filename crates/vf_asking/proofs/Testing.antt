-- The test whether a literal is between plain terms decides.
use Rattle.std.proofs.Common.{◌≡◌, pos, ◌^◌, ◌&&◌, refl, arith}
use Rattle.std.specs.Prelude.{ℤ, neg_ℤ, ◌+ℤ◌, ◌-ℤ◌, ◌≤ℤ◌, All, [], ◌∷◌}
use Rattle.std.proofs.lemmas.Int.{ints}
use Rattle.std.proofs.lemmas.List.Elements.{All-nil, All-cons, All-head}
use Rattle.std.specs.Bool.{Decides}
use Rattle.std.proofs.lemmas.Bool.Decides.{Decides-and, Decides-like}
use Rattle.vf_closure.specs.Terms.{Kind, Integer, Other, Term, term, kind_of}
use Rattle.vf_closure.specs.Literals.{Literal, Equal, NotEqual, AtMost, Difference, NotDifference, False, denied, IsInteger}
use Rattle.vf_arith.specs.Paths.{IsSmall}
use Rattle.vf_question.specs.Plain.{IsPlain, IsPlainLiteral}
use Rattle.vf_definitions.specs.Kept.{is_within, is_plain}
use Rattle.vf_definitions.proofs.Keeping.{plain_decides, within_decides}
use Rattle.vf_asking.specs.Plain.{is_integer_kind, is_integer, are_sides, is_plain_literal, CanBeAsked}

kinds_decide : (k : Kind) → Decides (is_integer_kind k) (k ≡ Integer)
kinds_decide Integer = (λ e. refl, λ e. refl)
kinds_decide Other = (λ e. cc, λ e. cc)

integers_decide : (t : Term) → Decides (is_integer t) (IsInteger t)
integers_decide (term h ts) = kinds_decide (kind_of h)

both_decide : (a b : Term) → Decides (is_plain a && is_plain b) (IsPlain a × IsPlain b)
both_decide a b = Decides-and (is_plain a) (is_plain b) (plain_decides a) (plain_decides b)

sides_decide : (p n : Term) → Decides (are_sides p n) ((IsPlain p × IsPlain n) × (IsInteger p × IsInteger n))
sides_decide p n = Decides-and (is_plain p && is_plain n) (is_integer p && is_integer n) (both_decide p n) (Decides-and (is_integer p) (is_integer n) (integers_decide p) (integers_decide n))

numbered_decide : (p n : Term) (c : ℤ) → Decides (are_sides p n && is_within c) (IsPlain p × IsPlain n × IsInteger p × IsInteger n × IsSmall (2 ^ 100) c)
numbered_decide p n c = Decides-like (are_sides p n && is_within c)
    (λ h. (h.0.0.0, h.0.0.1, h.0.1.0, h.0.1.1, h.1))
    (λ h. (((h.0, h.1), (h.2, h.3)), h.4))
    (Decides-and (are_sides p n) (is_within c) (sides_decide p n) (within_decides c))

pub plain_literals_decide : (l : Literal) → Decides (is_plain_literal l) (IsPlainLiteral l)
plain_literals_decide (Equal a b) = both_decide a b
plain_literals_decide (NotEqual a b) = both_decide a b
plain_literals_decide (AtMost p n c) = numbered_decide p n c
plain_literals_decide (Difference p n c) = numbered_decide p n c
plain_literals_decide (NotDifference p n c) = numbered_decide p n c
plain_literals_decide False = (λ e. tt, λ u. refl)

one_plain : (l : Literal) → IsPlainLiteral l → All IsPlainLiteral (l ∷ [])
one_plain l h = All-cons IsPlainLiteral l [] h (All-nil IsPlainLiteral)

denied_small : (c : ℤ) → IsSmall (2 ^ 100) c → (c +ℤ pos 1) ≤ℤ pos (2 ^ 100) → IsSmall (2 ^ 100) (neg_ℤ c -ℤ pos 1)
denied_small c s r = record { low = omega (arith, ints, r); high = omega (arith, ints, s.low) }

-- the negation of a goal that may be asked is between plain terms
pub denied_plain : (l : Literal) → CanBeAsked l → All IsPlainLiteral (denied l)
denied_plain (Equal a b) h = one_plain (NotEqual a b) h.0
denied_plain (NotEqual a b) h = one_plain (Equal a b) h.0
denied_plain (AtMost p n c) h = let k = h.0 in one_plain (AtMost n p (neg_ℤ c -ℤ pos 1)) (k.1, k.0, k.3, k.2, denied_small c k.4 h.1)
denied_plain (Difference p n c) h = one_plain (NotDifference p n c) h.0
denied_plain (NotDifference p n c) h = one_plain (Difference p n c) h.0
denied_plain False h = All-nil IsPlainLiteral

pub one_is_plain : (l : Literal) → All IsPlainLiteral (l ∷ []) → IsPlainLiteral l
one_is_plain l h = All-head IsPlainLiteral l [] h

pub plain_is_one : (l : Literal) → IsPlainLiteral l → All IsPlainLiteral (l ∷ [])
plain_is_one l h = one_plain l h
