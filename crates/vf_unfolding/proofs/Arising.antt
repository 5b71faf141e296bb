-- What is equal or bounded without unfolding arises.
use Rattle.std.proofs.Common.{ℕ, zero, List, refl, arith}
use Rattle.std.specs.Prelude.{ℤ, pos}
use Rattle.vf_closure.specs.Terms.{Plus, Constructor, Term, term, and_term, no_terms, number, plus, here, itself}
use Rattle.vf_closure.specs.Literals.{Literal}
use Rattle.vf_closure.specs.Closure as T
use Rattle.vf_closure.specs.Closure.{no_unfoldings, Arises, asked, zero_arises}
use Rattle.vf_question.proofs.Asked.{has_arising, term_arises, part_arises}

module _ (ls : List Literal) where
  -- without unfolding a term that arises does so at depth 0
  pub at_zero : (d : ℕ) (t : Term) → Arises no_unfoldings ls d t → Arises no_unfoldings ls zero t
  at_zero d t a = term_arises ls t (has_arising ls d t a)

  abbrev Both : Term → Term → Type 0
  Both s t = Arises no_unfoldings ls zero s × Arises no_unfoldings ls zero t

  mutual
    pub same_arises : (s t : Term) → T.Same no_unfoldings ls s t → Both s t
    same_arises s t (T.given h) = (asked h (0, omega arith, refl) itself, asked h (1, omega arith, refl) itself)
    same_arises s t (T.same_self {d = d} h) = (at_zero d s h, at_zero d s h)
    same_arises s t (T.same_back h) = let r = same_arises t s h in (r.1, r.0)
    same_arises s t (T.same_through {b = u} h k) = ((same_arises s u h).0, (same_arises u t k).1)
    same_arises s t (T.congruent {d = d} {e = e} h k q) = (at_zero d s h, at_zero e t k)
    same_arises s t (T.injective {c = c} {xs = xs} {ys = ys} {i = i} h n p q) =
        let r = same_arises (term (Constructor c) xs) (term (Constructor c) ys) h in
        (part_arises ls zero (Constructor c) xs s i (term (Constructor c) xs) r.0 refl p, part_arises ls zero (Constructor c) ys t i (term (Constructor c) ys) r.1 refl q)
    same_arises s t (T.squeezed i j h k) = bound_arises s t (pos 0) h
    same_arises s t (T.unfolds l h e) = absurd (cc)
    same_arises s t (T.unfolds_case l i j e q f) = absurd (cc)

    bound_arises : (s t : Term) (c : ℤ) → T.Bound no_unfoldings ls s t c → Both s t
    bound_arises s t c (T.most h) = (asked h (0, omega arith, refl) itself, asked h (1, omega arith, refl) itself)
    bound_arises s t c (T.difference_up h) = (asked h (0, omega arith, refl) itself, asked h (1, omega arith, refl) itself)
    bound_arises s t c (T.difference_down h) = (asked h (1, omega arith, refl) itself, asked h (0, omega arith, refl) itself)
    bound_arises s t c (T.still {d = d} i h) = (at_zero d s h, at_zero d s h)
    bound_arises s t c (T.weaker {c = e} l h) = bound_arises s t e h
    bound_arises s t c (T.chain {y = u} {c = e} {d = f} h k) = ((bound_arises s u e h).0, (bound_arises u t f k).1)
    bound_arises s t c (T.sum_up {d = d} h) = (at_zero d (plus t c) h, part_arises ls d Plus (and_term t (and_term (number c) no_terms)) t 0 (plus t c) h refl here)
    bound_arises s t c (T.sum_down {d = d} {q = q} {c = e} h) = (part_arises ls d Plus (and_term q (and_term (number e) no_terms)) q 0 (plus q e) h refl here, at_zero d (plus q e) h)
    bound_arises s t c (T.number_up {d = d} h) = (at_zero d s h, zero_arises)
    bound_arises s t c (T.number_down {d = d} h) = (zero_arises, at_zero d t h)
    bound_arises s t c (T.level i j h) = same_arises s t h
