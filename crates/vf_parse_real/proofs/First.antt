-- Looking for the first token that is refused by name.
use Rattle.std.proofs.Common.{◌≡◌, true, false, List, ◌∷◌, Some, refl}
use Rattle.vf_lexer.specs.declared.token.Token.{Token}
use Rattle.vf_parse_real.specs.Unsupported.{is_unsupported, first_unsupported}

pub first_behind : (t : Token) (ts : List Token) → is_unsupported t ≡ false → first_unsupported (t ∷ ts) ≡ first_unsupported ts
first_behind t ts h = rw h refl

pub none_first : (t : Token) (ts : List Token) → is_unsupported t ≡ true → first_unsupported (t ∷ ts) ≡ Some t.place
none_first t ts h = rw h refl
