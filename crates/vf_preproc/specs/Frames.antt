-- Macros that are being replaced, one within another.
use Rattle.std.specs.Prelude.{◌≡◌, ℕ, zero, suc, false, nat_eq, Option, None, ◌-◌, List, [], ◌∷◌, ◌++◌, length, map, take, drop, reverse, ◌⊎◌}
use Rattle.std.specs.List.{list_any}
use Rattle.vf_lexer.specs.declared.token.Token.{Token}
use Rattle.vf_preproc.specs.declared.stack.Frame.{Frame}
use Rattle.vf_preproc.specs.Macros.{Table, replaced, at_use, macro_at, body}

-- the numbers of the macros that are being replaced
abbrev pub numbers_of : List Frame → List ℕ
numbers_of frames = map (λ (f : Frame). f.number) frames

-- what is still to come of the macros that are being replaced, innermost first: the rest of each one's tokens, at the place of the token in which it all began
abbrev pub rest_of : Table → Token → List Frame → List Token
rest_of table name [] = []
rest_of table name (f ∷ fs) = replaced (length table.names - suc (length fs)) table (f.number ∷ numbers_of fs) (map (at_use name) (drop f.at f.body.value)) ++ rest_of table name fs

-- the tokens that are kept: all, or the first 200,001
abbrev pub front : List Token → List Token
front tokens = take 200001 tokens

-- what is there once the frames of a stack, the innermost at its end, are done
abbrev pub done : Table → Token → List Token → List Frame → List Token
done table name tokens stack = front (tokens ++ rest_of table name (reverse stack))

-- the number of the macro that replaces a token, where so many may still stand within one another
abbrev pub opened : ℕ → Table → List ℕ → Token → Option ℕ
opened zero table hidden t = None
opened (suc n) table hidden t = macro_at table hidden t

-- what is due for a token that stands in the innermost of some macros, and behind it
abbrev pub due : Table → List Frame → Token → List Token
due table stack t = replaced (length table.names - length stack) table (numbers_of (reverse stack)) (t ∷ []) ++ rest_of table t (reverse stack)

-- the tokens of a macro are begun, unless it has none
abbrev pub Opens : Table → ℕ → List Frame → List Frame → Type 0
Opens table number old new = ((body table number ≡ []) × (new ≡ old)) ⊎ ((f : Frame) × (f.number ≡ number) × (f.at ≡ 0) × (f.body.value ≡ body table number) × (new ≡ old ++ f ∷ []))

-- a macro was the innermost of some, and is none of the others
pub record Tops (f : Frame) (old new : List Frame) : Type 0 where
  pub top : old ≡ new ++ f ∷ []
  pub apart : list_any (nat_eq f.number) (numbers_of (reverse new)) ≡ false
