-- The loop over parameters, and how the locals that they are go again.
use Rattle.std.proofs.Common.{◌≡◌, ℕ, ◌+◌, ◌≤◌, List, [], ◌∷◌, length, drop, Some, slice_get, refl, sym, subst}
use Rattle.vf_declared.specs.declared.ctype.CType.{CType}
use Rattle.vf_declared.specs.declared.locals.Local.TheVariants as locals
use Rattle.vf_syntax.specs.declared.item.Typed.{Typed}
use Rattle.vf_lower.specs.declared.draft.Draft.{Draft}
use Rattle.vf_lower.specs.Did.{Did}
use Rattle.vf_lower.specs.Lowering.{gives, taken, ◌⨾◌}
use Rattle.vf_lower.specs.Settings.{Setting}
use Rattle.vf_lower.proofs.Lists.{left_at, left_end}
use Rattle.vf_lower.proofs.Parts.{did_give, did_then}
use Rattle.vf_bodies.specs.declared.surroundings.Mark.{Mark}
use Rattle.vf_bodies.specs.Standing.{back_at, mark_of}
use Rattle.vf_bodies.proofs.Back.{Extends, extends_at, extends_more, gone_back}
use Rattle.vf_functions.specs.Definitions.{parameter, parameters, variable}

-- one more parameter
pub list_more : (c g : Setting) (xs : List Typed) (i : ℕ) (x : Typed) (d e f : Draft) (a : Setting) → slice_get xs i ≡ Some x → Did (parameter c x) d e g → Did (parameters g (drop (i + 1) xs)) e f a → Did (parameters c (drop i xs)) d f a
list_more c g xs i x d e f a h one rest = subst (λ ys. Did (parameters c ys) d f a) (sym (left_at xs i x h)) (did_then _ _ _ _ _ _ _ one rest)

-- no parameter is left
pub list_end : (c : Setting) (xs : List Typed) (i : ℕ) (d : Draft) → length xs ≤ i → Did (parameters c (drop i xs)) d d c
list_end c xs i d h = subst (λ ys. Did (parameters c ys) d d c) (sym (left_end xs i h)) (did_give d c)

-- behind a local there is one more
variable_extends : (c : Setting) (x : List ℕ) (t : CType) (n : ℕ) → Extends c (variable c x t n).left
unfolding ◌⨾◌ gives taken
variable_extends c x t n = record { names = x ∷ []; meanings = locals.Real t ∷ []; numbers = n ∷ []; is = refl }

-- behind parameters there are more
parameters_extend : (c : Setting) (xs : List Typed) (n : ℕ) → Extends c (parameters c xs n).left
unfolding ◌⨾◌ gives
parameters_extend c [] n = extends_at c c.statement
parameters_extend c (x ∷ xs) n = extends_more c (parameter c x n).left _ (variable_extends c _ _ n) (parameters_extend (parameter c x n).left xs (n + length (parameter c x n).locals))

-- going back to a mark in front of parameters
pub parameters_gone : (c d e : Setting) (k : Mark) (xs : List Typed) (f g : Draft) → Did (parameters c xs) f g d → k ≡ mark_of c → e ≡ back_at k d → e ≡ c
parameters_gone c d e k xs f g h marked back = gone_back c d e k marked back (subst (λ y. Extends c y) (sym h.left) (parameters_extend c xs (length f.locals)))
