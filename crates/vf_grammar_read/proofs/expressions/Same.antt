-- What is written alike is the same: punctuators, keywords, integer types and places.
use Rattle.std.proofs.Common.{◌≡◌, ℕ, Bool, true, false, ◌&&◌, List, [], ◌∷◌, Option, Some, None, refl, sym, ap, ◌∙◌, nat_eq}
use Rattle.std.specs.Prelude.{if◌then◌else◌}
use Rattle.std.specs.List.{find}
use Rattle.std.specs.Str.{bytes_eq}
use Rattle.std.proofs.lemmas.Bool.{eqb-true}
use Rattle.std.proofs.lemmas.Slice.Eq.{bytes_eq-Decides}
use Rattle.vf_base.specs.declared.place.Place.{Place}
use Rattle.vf_base.specs.declared.int_type.IntType.{IntType}
use Rattle.vf_base.specs.declared.int_type.IntType.TheVariants as int_types
use Rattle.vf_lexer.specs.declared.punctuator.Punctuator.{Punctuator}
use Rattle.vf_lexer.specs.declared.punctuator.Punctuator.TheVariants as punctuators
use Rattle.vf_lexer.specs.Punctuators as marks
use Rattle.vf_syntax.specs.declared.keyword.Keyword.{Keyword}
use Rattle.vf_syntax.specs.declared.keyword.Keyword.TheVariants as keywords
use Rattle.vf_syntax.specs.Keywords.{spelling, is_keyword}
use Rattle.vf_syntax.specs.Walks.{same_place, type_number}

pub some_same : {A : Type 0} {a b : A} → Some a ≡ Some b → a ≡ b
some_same e = cc

pub no_true : {Y : Type 0} → false ≡ true → Y
no_true h = absurd cc

pub both : (a b : Bool) → (a && b) ≡ true → (a ≡ true) × (b ≡ true)
both true b h = (refl, h)
both false b h = no_true h

pub text_same : (a b : List ℕ) → bytes_eq a b ≡ true → a ≡ b
text_same a b h = (bytes_eq-Decides a b).0 h

-- all punctuators
abbrev all_marks : List Punctuator
all_marks = punctuators.OpenParenthesis ∷ punctuators.CloseParenthesis ∷ punctuators.OpenBrace ∷ punctuators.CloseBrace ∷ punctuators.OpenBracket ∷ punctuators.CloseBracket ∷ punctuators.Semicolon ∷ punctuators.Comma ∷ punctuators.Colon ∷ punctuators.Question ∷ punctuators.Plus ∷ punctuators.Minus ∷ punctuators.Star ∷ punctuators.Slash ∷ punctuators.Percent ∷ punctuators.Not ∷ punctuators.Becomes ∷ punctuators.Equal ∷ punctuators.NotEqual ∷ punctuators.Less ∷ punctuators.LessOrEqual ∷ punctuators.Greater ∷ punctuators.GreaterOrEqual ∷ punctuators.AndAnd ∷ punctuators.OrOr ∷ punctuators.Arrow ∷ punctuators.Hash ∷ punctuators.PlusPlus ∷ punctuators.MinusMinus ∷ punctuators.PlusBecomes ∷ punctuators.MinusBecomes ∷ punctuators.StarBecomes ∷ punctuators.SlashBecomes ∷ punctuators.PercentBecomes ∷ punctuators.Ampersand ∷ punctuators.Bar ∷ punctuators.Caret ∷ punctuators.Tilde ∷ punctuators.ShiftLeft ∷ punctuators.ShiftRight ∷ punctuators.AmpersandBecomes ∷ punctuators.BarBecomes ∷ punctuators.CaretBecomes ∷ punctuators.ShiftLeftBecomes ∷ punctuators.ShiftRightBecomes ∷ punctuators.Dot ∷ punctuators.Ellipsis ∷ punctuators.SeparatingAnd ∷ punctuators.PointsTo ∷ []

-- the punctuator that is written so
abbrev mark_of : List ℕ → Option Punctuator
mark_of text = find (λ p. bytes_eq text (marks.spelling p)) all_marks

mark_back : (p : Punctuator) → mark_of (marks.spelling p) ≡ Some p
mark_back punctuators.OpenParenthesis = refl
mark_back punctuators.CloseParenthesis = refl
mark_back punctuators.OpenBrace = refl
mark_back punctuators.CloseBrace = refl
mark_back punctuators.OpenBracket = refl
mark_back punctuators.CloseBracket = refl
mark_back punctuators.Semicolon = refl
mark_back punctuators.Comma = refl
mark_back punctuators.Colon = refl
mark_back punctuators.Question = refl
mark_back punctuators.Plus = refl
mark_back punctuators.Minus = refl
mark_back punctuators.Star = refl
mark_back punctuators.Slash = refl
mark_back punctuators.Percent = refl
mark_back punctuators.Not = refl
mark_back punctuators.Becomes = refl
mark_back punctuators.Equal = refl
mark_back punctuators.NotEqual = refl
mark_back punctuators.Less = refl
mark_back punctuators.LessOrEqual = refl
mark_back punctuators.Greater = refl
mark_back punctuators.GreaterOrEqual = refl
mark_back punctuators.AndAnd = refl
mark_back punctuators.OrOr = refl
mark_back punctuators.Arrow = refl
mark_back punctuators.Hash = refl
mark_back punctuators.PlusPlus = refl
mark_back punctuators.MinusMinus = refl
mark_back punctuators.PlusBecomes = refl
mark_back punctuators.MinusBecomes = refl
mark_back punctuators.StarBecomes = refl
mark_back punctuators.SlashBecomes = refl
mark_back punctuators.PercentBecomes = refl
mark_back punctuators.Ampersand = refl
mark_back punctuators.Bar = refl
mark_back punctuators.Caret = refl
mark_back punctuators.Tilde = refl
mark_back punctuators.ShiftLeft = refl
mark_back punctuators.ShiftRight = refl
mark_back punctuators.AmpersandBecomes = refl
mark_back punctuators.BarBecomes = refl
mark_back punctuators.CaretBecomes = refl
mark_back punctuators.ShiftLeftBecomes = refl
mark_back punctuators.ShiftRightBecomes = refl
mark_back punctuators.Dot = refl
mark_back punctuators.Ellipsis = refl
mark_back punctuators.SeparatingAnd = refl
mark_back punctuators.PointsTo = refl

pub mark_same : (p q : Punctuator) → bytes_eq (marks.spelling p) (marks.spelling q) ≡ true → p ≡ q
mark_same p q h = some_same (sym (mark_back p) ∙ ap mark_of (text_same (marks.spelling p) (marks.spelling q) h) ∙ mark_back q)

-- how a keyword is written is a keyword
pub keyword_is : (k : Keyword) → is_keyword (spelling k) ≡ true
unfolding is_keyword
keyword_is keywords.Struct = refl
keyword_is keywords.Typedef = refl
keyword_is keywords.Void = refl
keyword_is keywords.Bool = refl
keyword_is keywords.Signed = refl
keyword_is keywords.Unsigned = refl
keyword_is keywords.Char = refl
keyword_is keywords.Short = refl
keyword_is keywords.Int = refl
keyword_is keywords.Long = refl
keyword_is keywords.If = refl
keyword_is keywords.Else = refl
keyword_is keywords.While = refl
keyword_is keywords.For = refl
keyword_is keywords.Return = refl
keyword_is keywords.True = refl
keyword_is keywords.False = refl
keyword_is keywords.Malloc = refl
keyword_is keywords.Sizeof = refl
keyword_is keywords.Requires = refl
keyword_is keywords.Ensures = refl
keyword_is keywords.Invariant = refl
keyword_is keywords.Inductive = refl
keyword_is keywords.Fixpoint = refl
keyword_is keywords.Switch = refl
keyword_is keywords.Case = refl
keyword_is keywords.Predicate = refl
keyword_is keywords.PredicateFamily = refl
keyword_is keywords.PredicateFamilyInstance = refl
keyword_is keywords.PredicateCtor = refl
keyword_is keywords.Lemma = refl
keyword_is keywords.Real = refl
keyword_is keywords.Any = refl
keyword_is keywords.Emp = refl
keyword_is keywords.Result = refl
keyword_is keywords.This = refl
keyword_is keywords.CurrentThread = refl
keyword_is keywords.Open = refl
keyword_is keywords.Close = refl
keyword_is keywords.Leak = refl
keyword_is keywords.Assert = refl
keyword_is keywords.Auto = refl
keyword_is keywords.Break = refl
keyword_is keywords.Const = refl
keyword_is keywords.Continue = refl
keyword_is keywords.Default = refl
keyword_is keywords.Do = refl
keyword_is keywords.Double = refl
keyword_is keywords.Enum = refl
keyword_is keywords.Extern = refl
keyword_is keywords.Float = refl
keyword_is keywords.Goto = refl
keyword_is keywords.Inline = refl
keyword_is keywords.Register = refl
keyword_is keywords.Restrict = refl
keyword_is keywords.Static = refl
keyword_is keywords.Union = refl
keyword_is keywords.Volatile = refl

-- the integer type of a number
abbrev type_of : ℕ → Option IntType
type_of n = if nat_eq n 0 then Some int_types.Bool else (if nat_eq n 1 then Some int_types.Char else (if nat_eq n 2 then Some int_types.UChar else (if nat_eq n 3 then Some int_types.Short else (if nat_eq n 4 then Some int_types.UShort else (if nat_eq n 5 then Some int_types.Int else (if nat_eq n 6 then Some int_types.UInt else (if nat_eq n 7 then Some int_types.Long else (if nat_eq n 8 then Some int_types.ULong else (if nat_eq n 9 then Some int_types.LongLong else (if nat_eq n 10 then Some int_types.ULongLong else None))))))))))

type_back : (t : IntType) → type_of (type_number t) ≡ Some t
type_back int_types.Bool = refl
type_back int_types.Char = refl
type_back int_types.UChar = refl
type_back int_types.Short = refl
type_back int_types.UShort = refl
type_back int_types.Int = refl
type_back int_types.UInt = refl
type_back int_types.Long = refl
type_back int_types.ULong = refl
type_back int_types.LongLong = refl
type_back int_types.ULongLong = refl

pub type_same : (t u : IntType) → nat_eq (type_number t) (type_number u) ≡ true → t ≡ u
type_same t u h = some_same (sym (type_back t) ∙ ap type_of (eqb-true (type_number t) (type_number u) h) ∙ type_back u)

pub place_same : (p q : Place) → same_place p q ≡ true → p ≡ q
place_same p q h =
    let one = both _ _ h in
    let two = both _ _ one.0 in
    let file : p.file ≡ q.file = eqb-true p.file q.file two.0 in
    let line : p.line ≡ q.line = eqb-true p.line q.line two.1 in
    let column : p.column ≡ q.column = eqb-true p.column q.column one.1 in
    λ i. record { file = file i; line = line i; column = column i }
