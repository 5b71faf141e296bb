-- Sorts and expressions of ghost text of one depth and of another.
use Rattle.std.proofs.Common.{◌≡◌, ℕ, zero, suc, ◌+◌, ◌≤◌, ◌<◌, List, length, Err, arith}
use Rattle.vf_lexer.specs.declared.token.Token.{Token}
use Rattle.vf_cursor.specs.declared.fault.Fault.TheVariants.{Depth}
use Rattle.vf_cursor.specs.Parsing.{Parser}
use Rattle.vf_parse_term.specs.Pieces.{too_deep_at}
use Rattle.vf_parse_term.specs.Sorts.{begins_sort, sort_at}
use Rattle.vf_parse_term.specs.Terms.{begins_term, term_at, branch_at, unary_at}
use Rattle.vf_grammar_depth.specs.expressions.Deep.{Deepens, IsNotTooDeep}
use Rattle.vf_grammar_depth.proofs.expressions.Deeper.{Deeper, then_deep, here_deep}
use Rattle.vf_grammar_depth.proofs.expressions.Begun.{none_deep, same_deep}
use Rattle.vf_grammar_depth.proofs.expressions.Answers.{Rises, deepens, within, one_more, not_deep}
use Rattle.vf_syntax.specs.Walks.{head_has}
use Rattle.vf_grammar_depth.proofs.terms.Sorts.{sort_form_deep}
use Rattle.vf_grammar_depth.proofs.terms.Terms.{signed_deep, joined_deep}
use Rattle.vf_grammar_depth.proofs.terms.Starts.{sort_starts, signed_starts, joined_starts}

pub sort_same : (d : ℕ) → Deeper 0 (sort_at d) (sort_at d)
unfolding sort_at too_deep_at
sort_same zero = same_deep (λ ts. head_has begins_sort ts)
sort_same (suc d) = then_deep here_deep (λ p. sort_form_deep (sort_same d) p)

pub sort_rises : Rises sort_at
unfolding sort_at too_deep_at
sort_rises d zero lt = absurd (omega (arith, lt))
sort_rises zero (suc m) lt = none_deep (sort_starts (sort_same m))
sort_rises (suc d) (suc m) lt = then_deep here_deep (λ p. sort_form_deep (sort_rises d m (omega (arith, lt))) p)

mutual
  unfolding term_at branch_at unary_at too_deep_at

  pub term_same : (d : ℕ) → Deeper 0 (term_at d) (term_at d)
  term_same zero = same_deep (λ ts. head_has begins_term ts)
  term_same (suc d) = joined_deep (signed_deep (term_same d) (branch_same d) (unary_same d)) 6

  pub branch_same : (d : ℕ) → Deeper 0 (branch_at d) (branch_at d)
  branch_same zero = same_deep (λ ts. head_has begins_term ts)
  branch_same (suc d) = term_same d

  pub unary_same : (d : ℕ) → Deeper 0 (unary_at d) (unary_at d)
  unary_same zero = same_deep (λ ts. head_has begins_term ts)
  unary_same (suc d) = signed_deep (term_same d) (branch_same d) (unary_same d)

-- the parsers of all depths, each of which goes past where those of two less depth end
abbrev pub RisesByTwo : {A : Type 0} → (ℕ → Parser A) → Type 0
RisesByTwo p = (d m : ℕ) → suc d < m → Deeper 1 (p d) (p m)

mutual
  unfolding term_at branch_at unary_at too_deep_at

  pub term_rises : RisesByTwo term_at
  term_rises d zero lt = absurd (omega (arith, lt))
  term_rises zero (suc m) lt = none_deep (joined_starts (signed_deep (term_same m) (branch_same m) (unary_same m)) (signed_starts (term_same m) (branch_same m) (unary_same m)) 6)
  term_rises (suc d) (suc m) lt =
      let below : suc d < m = omega (arith, lt) in
      joined_deep (signed_deep (term_rises d m below) (branch_rises d m below) (unary_rises d m below)) 6

  pub branch_rises : RisesByTwo branch_at
  branch_rises d zero lt = absurd (omega (arith, lt))
  branch_rises zero (suc zero) lt = absurd (omega (arith, lt))
  branch_rises zero (suc (suc m)) lt = none_deep (joined_starts (signed_deep (term_same m) (branch_same m) (unary_same m)) (signed_starts (term_same m) (branch_same m) (unary_same m)) 6)
  branch_rises (suc d) (suc m) lt = term_rises d m (omega (arith, lt))

  pub unary_rises : RisesByTwo unary_at
  unary_rises d zero lt = absurd (omega (arith, lt))
  unary_rises zero (suc m) lt = none_deep (signed_starts (term_same m) (branch_same m) (unary_same m))
  unary_rises (suc d) (suc m) lt =
      let below : suc d < m = omega (arith, lt) in
      signed_deep (term_rises d m below) (branch_rises d m below) (unary_rises d m below)

-- each two levels of depth go past a token more
at_most : {A : Type 0} (p : ℕ → Parser A) → RisesByTwo p → (c m : ℕ) → c + c ≤ m → (ts : List Token) (k : ℕ) → p m ts ≡ Err (Depth k) → k + c ≤ length ts
at_most p h zero m le ts k e = let w = within (length ts) k (p m ts) (p (suc (suc m)) ts) ((h m (suc (suc m)) (omega arith)).run ts) e in omega (arith, w)
at_most p h (suc c) zero le ts k e = absurd (omega (arith, le))
at_most p h (suc c) (suc zero) le ts k e = absurd (omega (arith, le))
at_most p h (suc c) (suc (suc m)) le ts k e = one_more (length ts) c k (p m ts) (p (suc (suc m)) ts) ((h m (suc (suc m)) (omega arith)).run ts) (λ i g. at_most p h c m (omega (arith, le)) ts i g) e

-- what parsers that rise so answer
pub answers_deepen_by_two : {A : Type 0} (p : ℕ → Parser A) → RisesByTwo p → (d m : ℕ) (ts : List Token) → suc d < m → Deepens (p d ts) (p m ts) × (suc (length ts + length ts) < m → IsNotTooDeep (p m ts))
answers_deepen_by_two p h d m ts lt =
    (deepens (length ts) (p d ts) (p m ts) ((h d m lt).run ts), λ less. not_deep (length ts) (suc (length ts)) (p m ts) (λ k e. at_most p h (suc (length ts)) m (omega (arith, less)) ts k e) (omega arith))
