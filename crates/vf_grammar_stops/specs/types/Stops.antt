-- Where a parser may refuse a token: no other tokens that begin alike, up to that token, are what it reads.
use Rattle.std.specs.Prelude.{◌≡◌, ℕ, false, List, [], ◌∷◌, ◌++◌, length, Option, Some, None, Err}
use Rattle.vf_lexer.specs.declared.punctuator.Punctuator.TheVariants.{Star}
use Rattle.vf_lexer.specs.declared.token.Token.{Token}
use Rattle.vf_syntax.specs.declared.side.Side.{Side}
use Rattle.vf_syntax.specs.declared.written.CType.{CType}
use Rattle.vf_syntax.specs.Walks.{head_has, is_mark}
use Rattle.vf_syntax.specs.Written.{ctype}
use Rattle.vf_cursor.specs.declared.fault.Fault.TheVariants.{Syntax}
use Rattle.vf_cursor.specs.Types.{is_width, ctype_at}

-- the next token
abbrev pub first : List Token → Option Token
first [] = None
first (t ∷ ts) = Some t

-- other tokens begin with those of ts up to and including the one in front of which n - 1 are left; with none left, they are those of ts
pub record BeginsUpTo (ts : List Token) (n : ℕ) (other : List Token) : Type 0 where
  pub used : List Token
  pub left : List Token
  pub others : List Token
  pub parts : ts ≡ used ++ left
  pub count : length left ≡ n
  pub other_parts : other ≡ used ++ others
  pub alike : first others ≡ first left

-- a token is refused in a type only where no tokens that are alike up to it begin with a type, before what is neither a word of an integer type nor a `*`
abbrev pub TypesStopAlike : Type 0
TypesStopAlike = (s : Side) (ts other rest : List Token) (n : ℕ) (t : CType) → ctype_at s ts ≡ Err (Syntax n) → BeginsUpTo ts n other → ctype s t other ≡ Some rest → head_has (is_width s) rest ≡ false → head_has (is_mark s Star) rest ≡ false → ⊥
