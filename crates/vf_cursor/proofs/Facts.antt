-- What is known where a parser has read something.
use Rattle.std.proofs.Common.{◌≡◌, ℕ, Bool, true, false, List, [], ◌∷◌, length, Result, Ok, Err, refl, sym, subst, ap, ◌⊎◌, inl, inr}
use Rattle.std.specs.Prelude.{if◌then◌else◌}
use Rattle.vf_lexer.specs.declared.token.Token.{Token}
use Rattle.vf_syntax.specs.Walks.{head_has}
use Rattle.vf_cursor.specs.declared.fault.Fault.{Fault}
use Rattle.vf_cursor.specs.Parsing.{Parser, ok, ◌>>=◌, take_at}

-- a parser that reads something in two parts has read both
pub bind_ok : {A B : Type 0} {r : Result A Fault} {f : A → Result B Fault} {y : B} → (r >>= f) ≡ Ok y → (x : A) × (r ≡ Ok x) × (f x ≡ Ok y)
bind_ok {r = Ok x} e = (x, refl, e)
bind_ok {r = Err z} e = absurd cc

pub ok_pair : {A : Type 0} (a c : A) (b d : List Token) → ok a b ≡ ok c d → (a ≡ c) × (b ≡ d)
ok_pair {A = A} a c b d e = let p : (a, b) ≡ (c, d) = cc in (ap (λ (x : A × List Token). x.0) p, ap (λ (x : A × List Token). x.1) p)

-- what holds of a value that was read, and of the tokens left, holds of the same under other names
pub moved : {A : Type 0} {a c : A} {b d : List Token} (R : A → List Token → Type 0) → ok a b ≡ ok c d → R a b → R c d
moved {a = a} {c = c} {b = b} {d = d} R e h = let p = ok_pair a c b d e in subst (λ y. R y d) p.0 (subst (λ r. R a r) p.1 h)

-- the two ways of a choice
pub chose : {X : Type 0} (b : Bool) (x y z : X) → (if b then x else y) ≡ z → ((b ≡ true) × (x ≡ z)) ⊎ ((b ≡ false) × (y ≡ z))
chose true x y z e = inl (refl, e)
chose false x y z e = inr (refl, e)

pub no_true : {B : Type 0} → false ≡ true → B
no_true h = absurd cc

-- a token that was taken passed the test
pub taken : (test : Token → Bool) (ts : List Token) (t : Token) (rest : List Token) → take_at test ts ≡ ok t rest → (ts ≡ t ∷ rest) × (test t ≡ true)
taken test [] t rest e = absurd cc
taken test (s ∷ ts) t rest e =
    elim (chose (test s) (ok s ts) (Err _) _ e) [
      | inl h ↦ let p = ok_pair s t ts rest h.1 in ((λ i. p.0 i ∷ p.1 i), subst (λ (u : Token). test u ≡ true) p.0 h.0)
      | inr h ↦ absurd cc
    ]
