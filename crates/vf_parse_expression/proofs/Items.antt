-- What a loop that collects items does at each turn.
use Rattle.std.proofs.Common.{◌≡◌, ℕ, ◌-◌, ◌+◌, ◌<◌, Bool, true, List, [], ◌∷◌, ◌++◌, Ok, Err, refl}
use Rattle.vf_lexer.specs.declared.token.Token.{Token}
use Rattle.vf_syntax.specs.Walks.{head_has}
use Rattle.vf_cursor.specs.declared.fault.Fault.{Fault}
use Rattle.vf_cursor.specs.Parsing.{Parser, many_at, item_step}
use Rattle.vf_cursor.proofs.Loop.{many_goes, many_fails}

pub items_go : {A : Type 0} (more : Token → Bool) (p : Parser A) (n i : ℕ) (xs : List A) (x : A) (ts rest : List Token) → i < n → head_has more ts ≡ true → p ts ≡ Ok (x, rest) → many_at (n - i) more (item_step p) xs ts ≡ many_at (n - (i + 1)) more (item_step p) (xs ++ x ∷ []) rest
items_go more p n i xs x ts rest lt h s = many_goes more (item_step p) n i xs (xs ++ x ∷ []) ts rest lt h (rw s refl)

pub items_fail : {A : Type 0} (more : Token → Bool) (p : Parser A) (n i : ℕ) (xs : List A) (ts : List Token) (f : Fault) → i < n → head_has more ts ≡ true → p ts ≡ Err f → many_at (n - i) more (item_step p) xs ts ≡ Err f
items_fail more p n i xs ts f lt h s = many_fails more (item_step p) n i xs ts f lt h (rw s refl)
