-- The tokens that the code gives are one list, and it stops at one place or gives tokens.
use Rattle.std.proofs.Common.{◌≡◌, List, Option, refl, subst, ap₂}
use Rattle.vf_base.specs.declared.place.Place.{Place}
use Rattle.vf_lexer.specs.declared.token.Token.{Token}
use Rattle.vf_lexer.specs.Tokens.{Spot, Next, Piece_is, next_at}
use Rattle.vf_lexer.specs.Cuts.{with_first}
use Rattle.vf_lexer.proofs.Runs.{Gives, ended, passed, Stops, here, later}

-- a spot has one piece, and one spot behind it
one_behind : (n : Next) (x y : Option Token) (t u : Spot) → n ≡ Piece_is x t → n ≡ Piece_is y u → u ≡ t
one_behind n x y t u e f = cc

one_token : (n : Next) (x y : Option Token) (t u : Spot) → n ≡ Piece_is x t → n ≡ Piece_is y u → x ≡ y
one_token n x y t u e f = cc

pub same_tokens : {s : Spot} {a b : List Token} → Gives s a → Gives s b → a ≡ b
same_tokens (ended e) (ended f) = refl
same_tokens (ended e) (passed f h) = absurd cc
same_tokens (passed e g) (ended f) = absurd cc
same_tokens (passed {s = s} {t = t} {x = x} {tokens = a} e g) (passed {t = u} {x = y} {tokens = b} f h) =
    let rest : a ≡ b = same_tokens g (subst (λ z. Gives z b) (one_behind (next_at s) x y t u e f) h) in
    ap₂ with_first (one_token (next_at s) x y t u e f) rest

pub same_place : {s : Spot} {p q : Place} → Stops s p → Stops s q → p ≡ q
same_place (here e) (here f) = cc
same_place (here e) (later f h) = absurd cc
same_place (later e g) (here f) = absurd cc
same_place (later {s = s} {t = t} {x = x} e g) (later {t = u} {x = y} {p = q} f h) = same_place g (subst (λ z. Stops z q) (one_behind (next_at s) x y t u e f) h)

pub never_both : {s : Spot} {tokens : List Token} {p : Place} → Gives s tokens → Stops s p → ⊥
never_both (ended e) (here f) = absurd cc
never_both (ended e) (later f h) = absurd cc
never_both (passed e g) (here f) = absurd cc
never_both (passed {s = s} {t = t} {x = x} e g) (later {t = u} {x = y} {p = q} f h) = never_both g (subst (λ z. Stops z q) (one_behind (next_at s) x y t u e f) h)
