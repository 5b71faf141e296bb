-- What a loop over `many_at` does at each turn.
use Rattle.std.proofs.Common.{◌≡◌, ℕ, zero, suc, ◌-◌, ◌+◌, ◌<◌, Bool, true, false, List, [], ◌∷◌, Ok, Err, refl, ap, ◌∙◌, arith}
use Rattle.vf_lexer.specs.declared.token.Token.{Token}
use Rattle.vf_syntax.specs.Walks.{head_has}
use Rattle.vf_cursor.specs.declared.fault.Fault.{Fault}
use Rattle.vf_cursor.specs.Parsing.{Parser, ok, ◌>>=◌, many_at}

pub many_stops : {A : Type 0} (more : Token → Bool) (step : A → Parser A) (n : ℕ) (a : A) (ts : List Token) → head_has more ts ≡ false → many_at n more step a ts ≡ Ok (a, ts)
many_stops more step zero a ts h = refl
many_stops more step (suc n) a ts h = rw h refl

turn : {A : Type 0} (more : Token → Bool) (step : A → Parser A) (n : ℕ) (a : A) (ts : List Token) → head_has more ts ≡ true → many_at (suc n) more step a ts ≡ (step a ts >>= λ x. many_at n more step x.0 x.1)
turn more step n a ts h = rw h refl

pub many_goes : {A : Type 0} (more : Token → Bool) (step : A → Parser A) (n i : ℕ) (a b : A) (ts rest : List Token) → i < n → head_has more ts ≡ true → step a ts ≡ Ok (b, rest) → many_at (n - i) more step a ts ≡ many_at (n - (i + 1)) more step b rest
many_goes more step n i a b ts rest lt h s =
    let k : n - i ≡ suc (n - (i + 1)) = omega arith in
    rw k (turn more step (n - (i + 1)) a ts h ∙ rw s refl)

pub many_fails : {A : Type 0} (more : Token → Bool) (step : A → Parser A) (n i : ℕ) (a : A) (ts : List Token) (f : Fault) → i < n → head_has more ts ≡ true → step a ts ≡ Err f → many_at (n - i) more step a ts ≡ Err f
many_fails more step n i a ts f lt h s =
    let k : n - i ≡ suc (n - (i + 1)) = omega arith in
    rw k (turn more step (n - (i + 1)) a ts h ∙ rw s refl)
