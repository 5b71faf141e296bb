-- Lists that are spelled are read, item by item.
use Rattle.std.proofs.Common.{◌≡◌, ℕ, zero, suc, ◌≤◌, Bool, true, false, List, [], ◌∷◌, ◌++◌, length, Some, refl, sym, subst, ap, ◌∙◌, arith}
use Rattle.vf_lexer.specs.declared.token.Token.{Token}
use Rattle.vf_syntax.specs.Walks.{Walk, head_has}
use Rattle.vf_cursor.specs.Parsing.{Parser, ok, many_at, item_step}
use Rattle.vf_cursor.proofs.Loop.{many_stops}
use Rattle.vf_parse_expression.proofs.Collected.{Collects}
use Rattle.vf_grammar_read.proofs.expressions.Same.{some_same}
use Rattle.vf_grammar_read.proofs.expressions.Fronts.{gone}
use Rattle.vf_grammar_read.proofs.expressions.Eaten.{Eats}

append_none : {A : Type 0} (xs : List A) → xs ++ [] ≡ xs
append_none [] = refl
append_none (x ∷ xs) = ap (λ (ys : List _). x ∷ ys) (append_none xs)

append_one : {A : Type 0} (xs : List A) (x : A) (ys : List A) → (xs ++ x ∷ []) ++ ys ≡ xs ++ (x ∷ ys)
append_one [] x ys = refl
append_one (z ∷ xs) x ys = ap (λ (zs : List _). z ∷ zs) (append_one xs x ys)

-- an item that is spelled, nests no deeper than it may, and before something that does not go on, is read; it begins as the loop expects, and is itself no going on of an item in front
pub record Item {A : Type 0} (w : A → Walk) (n : A → ℕ) (d : ℕ) (Fine : List Token → Type 0) (more : Token → Bool) (p : Parser A) : Type 0 where
  pub full : (x : A) (ts rest : List Token) → w x ts ≡ Some rest → n x ≤ d → Fine rest → p ts ≡ ok x rest
  pub heads : (x : A) (ts rest : List Token) → w x ts ≡ Some rest → head_has more ts ≡ true
  pub fine : (x : A) (ts rest : List Token) → w x ts ≡ Some rest → Fine ts
  pub eats : (x : A) → Eats (w x)

-- what stands in front of some items, or of what stands behind them
pub first_fine : {A : Type 0} {w : A → Walk} {n : A → ℕ} {W : List A → Walk} {N : List A → ℕ} {d : ℕ} {Fine : List Token → Type 0} {more : Token → Bool} {p : Parser A} → Collects w n W N → Item w n d Fine more p
    → (xs : List A) (ts rest : List Token) → W xs ts ≡ Some rest → Fine rest → Fine ts
first_fine {Fine = Fine} c i [] ts rest h f = subst Fine (some_same (sym h ∙ c.nothing_walk ts)) f
first_fine {w = w} {W = W} c i (x ∷ xs) ts rest h f =
    let g = gone {g = W xs} (w x ts) (sym (c.item_walk x xs ts) ∙ h) in
    i.fine x ts g.0 g.1

pub items_full : {A : Type 0} {w : A → Walk} {n : A → ℕ} {W : List A → Walk} {N : List A → ℕ} {d : ℕ} {Fine : List Token → Type 0} {more : Token → Bool} {p : Parser A} → Collects w n W N → Item w n d Fine more p
    → (m : ℕ) (xs front : List A) (ts rest : List Token) → W xs ts ≡ Some rest → N xs ≤ d → Fine rest → head_has more rest ≡ false → length ts ≤ m → many_at m more (item_step p) front ts ≡ ok (front ++ xs) rest
items_full {more = more} {p = p} c i m [] front ts rest h deep f stop len =
    let same : ts ≡ rest = some_same (sym (c.nothing_walk ts) ∙ h) in
    let all = sym (append_none front) in
    many_stops more (item_step p) m front ts (subst (λ us. head_has more us ≡ false) (sym same) stop) ∙ (λ j. ok (all j) (same j))
items_full {w = w} {W = W} {N = N} {d = d} c i zero (x ∷ xs) front ts rest h deep f stop len =
    let g = gone {g = W xs} (w x ts) (sym (c.item_walk x xs ts) ∙ h) in
    absurd (omega (arith, len, (i.eats x).eat ts g.0 g.1))
items_full {w = w} {W = W} {N = N} {d = d} {more = more} {p = p} c i (suc m) (x ∷ xs) front ts rest h deep f stop len =
    let g = gone {g = W xs} (w x ts) (sym (c.item_walk x xs ts) ∙ h) in
    let parts = rw (c.item_deep x xs) at deep in
    let read : p ts ≡ ok x g.0 = i.full x ts g.0 g.1 (omega (arith, parts)) (first_fine c i xs g.0 rest g.2 f) in
    let others = items_full c i m xs (front ++ x ∷ []) g.0 rest g.2 (omega (arith, parts)) f stop (omega (arith, len, (i.eats x).eat ts g.0 g.1)) in
    let all = append_one front x xs in
    rw (i.heads x ts g.0 g.1, read) (others ∙ (λ j. ok (all j) rest))
