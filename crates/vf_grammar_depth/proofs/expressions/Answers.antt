-- What follows for the answers.
use Rattle.std.proofs.Common.{◌≡◌, ℕ, zero, suc, ◌+◌, ◌≤◌, ◌<◌, List, length, Ok, Err, refl, sym, ◌∙◌, arith}
use Rattle.vf_lexer.specs.declared.token.Token.{Token}
use Rattle.vf_cursor.specs.declared.fault.Fault.TheVariants.{Syntax, Depth}
use Rattle.vf_cursor.specs.Parsing.{Read, Parser}
use Rattle.vf_grammar_depth.specs.expressions.Deep.{GoesPast, Deepens, IsNotTooDeep}
use Rattle.vf_grammar_depth.proofs.expressions.Deeper.{left, DeeperAt, Deeper}

past : {A : Type 0} (k : ℕ) (s : Read A) → 1 + left s ≤ k → GoesPast k s
past k (Ok x) h = omega (arith, h)
past k (Err (Syntax n)) h = omega (arith, h)
past k (Err (Depth n)) h = omega (arith, h)

pub deepens : {A : Type 0} (n : ℕ) (r s : Read A) → DeeperAt 1 n r s → Deepens r s
deepens n (Ok x) s h = h.1
deepens n (Err (Syntax k)) s h = h.1
deepens n (Err (Depth k)) s h = past k s (h.1)

-- the parsers of all depths, each of which goes past where those of less depth end
abbrev pub Rises : {A : Type 0} → (ℕ → Parser A) → Type 0
Rises p = (d m : ℕ) → d < m → Deeper 1 (p d) (p m)

pub within : {A : Type 0} (n k : ℕ) (r s : Read A) → DeeperAt 1 n r s → r ≡ Err (Depth k) → k ≤ n
within n k (Ok x) s h e = absurd cc
within n k (Err (Syntax i)) s h e = absurd cc
within n k (Err (Depth i)) s h e = let same : i ≡ k = cc in omega (arith, same, h.0)

left_deep : {A : Type 0} (k : ℕ) (s : Read A) → s ≡ Err (Depth k) → left s ≡ k
left_deep k s e = rw e refl

apart : {A B : Type 0} (r s : Read A) (k : ℕ) → s ≡ Err (Depth k) → s ≡ r → ((i : ℕ) → r ≡ Err (Depth i) → B) → B
apart r s k e f h = h k (sym f ∙ e)

pub one_more : {A : Type 0} (n m k : ℕ) (r s : Read A) → DeeperAt 1 n r s → ((i : ℕ) → r ≡ Err (Depth i) → i + m ≤ n) → s ≡ Err (Depth k) → k + suc m ≤ n
one_more n m k (Ok x) s h below e = absurd (apart (Ok x) s k e (h.1) (λ i g. cc))
one_more n m k (Err (Syntax i)) s h below e = absurd (apart (Err (Syntax i)) s k e (h.1) (λ o g. cc))
one_more n m k (Err (Depth i)) s h below e = let b = below i refl in let l = left_deep k s e in omega (arith, b, l, h.1)

-- each level of depth goes past a token more
pub at_most : {A : Type 0} (p : ℕ → Parser A) → Rises p → (m : ℕ) (ts : List Token) (k : ℕ) → p m ts ≡ Err (Depth k) → k + m ≤ length ts
at_most p h zero ts k e = let w = within (length ts) k (p 0 ts) (p 1 ts) ((h 0 1 (omega arith)).run ts) e in omega (arith, w)
at_most p h (suc m) ts k e = one_more (length ts) m k (p m ts) (p (suc m) ts) ((h m (suc m) (omega arith)).run ts) (λ i g. at_most p h m ts i g) e

pub not_deep : {A : Type 0} (n m : ℕ) (r : Read A) → ((k : ℕ) → r ≡ Err (Depth k) → k + m ≤ n) → n < m → IsNotTooDeep r
not_deep n m (Ok x) h lt = tt
not_deep n m (Err (Syntax k)) h lt = tt
not_deep n m (Err (Depth k)) h lt = let b = h k refl in absurd (omega (arith, b, lt))

-- what parsers that rise answer
pub answers_deepen : {A : Type 0} (p : ℕ → Parser A) → Rises p → (d m : ℕ) (ts : List Token) → d < m → Deepens (p d ts) (p m ts) × (length ts < m → IsNotTooDeep (p m ts))
answers_deepen p h d m ts lt = (deepens (length ts) (p d ts) (p m ts) ((h d m lt).run ts), λ less. not_deep (length ts) m (p m ts) (λ k e. at_most p h m ts k e) less)
