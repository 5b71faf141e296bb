-- Worked examples of refutations.
use Rattle.std.proofs.Common.{◌≡◌, ℕ, zero, suc, List, [], ◌∷◌, refl, arith, Some, None}
use Rattle.std.specs.Prelude.{pos, negsuc, neg_ℤ, ◌+ℤ◌, ◌≤ℤ◌}
use Rattle.std.proofs.lemmas.Int.{ints}
use Rattle.vf_model.specs.Values.{Value, Values}
use Rattle.vf_model.specs.Values as values
use Rattle.vf_meaning.specs.Ghost.{Numbered}
use Rattle.vf_meaning.specs.Valuations.{Valuation, no_value}
use Rattle.vf_meaning.specs.GhostValues.{Interpretation, interpreted}
use Rattle.vf_closure.specs.Terms.{number, plus, here, itself}
use Rattle.vf_closure.specs.Literals.{Equal, NotEqual, AtMost}
use Rattle.vf_closure.specs.Closure.{no_unfoldings, asked, given, congruent, injective, squeezed, unfolds, no_more, one_more, most, chain, sum_up, sum_down, weaker, below_itself, denied_equality}
use Rattle.vf_closure.specs.Examples.{x, y, f, cons, ByCongruence, ByInjectivity, ByChain, BySqueeze, ByUnfolding, NotBySymbols}
use Rattle.vf_closure.proofs.Sound.{refutations_sound}

pub by_congruence : ByCongruence
by_congruence = denied_equality (1, omega arith, refl)
    (congruent {d = 0} {e = 0} (asked {l = NotEqual (f x) (f y)} (1, omega arith, refl) (0, omega arith, refl) itself) (asked {l = NotEqual (f x) (f y)} (1, omega arith, refl) (1, omega arith, refl) itself) (one_more (given (0, omega arith, refl)) no_more))

pub by_injectivity : ByInjectivity
by_injectivity = denied_equality (1, omega arith, refl) (injective (given {a = cons x} {b = cons y} (0, omega arith, refl)) refl here here)

pub by_chain : ByChain
by_chain = below_itself
    (weaker (let l : ((negsuc 0 +ℤ pos 1) +ℤ (pos 0 +ℤ neg_ℤ (pos 1))) ≤ℤ negsuc 0 = omega (arith, ints) in l)
    (chain
    (chain (most {x = plus y (pos 1)} {y = plus x (pos 1)} (1, omega arith, refl)) (sum_up {d = 0} (asked {l = AtMost (plus y (pos 1)) (plus x (pos 1)) (negsuc 0)} (1, omega arith, refl) (1, omega arith, refl) itself)))
    (chain (most {x = x} {y = y} (0, omega arith, refl)) (sum_down {d = 0} (asked {l = AtMost (plus y (pos 1)) (plus x (pos 1)) (negsuc 0)} (1, omega arith, refl) (0, omega arith, refl) itself)))))

pub by_squeeze : BySqueeze
by_squeeze = denied_equality (2, omega arith, refl)
    (congruent {d = 0} {e = 0} (asked {l = NotEqual (f x) (f y)} (2, omega arith, refl) (0, omega arith, refl) itself) (asked {l = NotEqual (f x) (f y)} (2, omega arith, refl) (1, omega arith, refl) itself)
    (one_more (squeezed refl refl (most (0, omega arith, refl)) (most (1, omega arith, refl))) no_more))

pub by_unfolding : ByUnfolding
by_unfolding = denied_equality (0, omega arith, refl) (unfolds {d = 0} (omega arith) (asked {l = NotEqual (f x) (number (pos 1))} (0, omega arith, refl) (0, omega arith, refl) itself) refl)

-- a valuation that gives each symbol its number
abbrev numbered : Valuation
numbered (Numbered n) = values.Number (pos n)
numbered _ = no_value

abbrev nothing_declared : Interpretation
nothing_declared = interpreted (λ g t. Rattle.std.proofs.Common.false) []

pub not_by_symbols : NotBySymbols
not_by_symbols r = let e = refutations_sound nothing_declared no_unfoldings [] (Equal x y) (record { bodies = λ v t b h. absurd (cc); cases = λ v t a k b h m n. absurd (cc) }) r numbered (λ l h. absurd (let k = h.1 in omega arith)) in impossible e
  where
    impossible : values.Number (pos 0) ≡ values.Number (pos 1) → ⊥
    impossible e = cc
