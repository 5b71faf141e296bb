-- What is known of lists of patterns.
use Rattle.std.proofs.Common.{◌≡◌, List, [], ◌∷◌, ◌++◌, refl, sym, ap}
use Rattle.std.proofs.lemmas.List.{append-nil}
use Rattle.vf_syntax.specs.declared.pattern.Pattern.{Pattern}
use Rattle.vf_syntax.specs.declared.pattern.Pattern.TheVariants as patterns
use Rattle.vf_syntax.specs.GhostExprTree.{GhostExprTree}
use Rattle.vf_parse_pattern.specs.Patterns.{terms_of}

-- the expressions of a list and one more pattern
pub terms_of_more : (xs : List Pattern) (x : Pattern) → terms_of (xs ++ x ∷ []) ≡ terms_of xs ++ terms_of (x ∷ [])
terms_of_more [] x = refl
terms_of_more (patterns.Is e ∷ xs) x = ap (λ (ys : List GhostExprTree). e ∷ ys) (terms_of_more xs x)
terms_of_more (patterns.Binds p n ∷ xs) x = terms_of_more xs x
terms_of_more (patterns.Wild p ∷ xs) x = terms_of_more xs x

-- nothing behind a list
pub nothing_more : (xs : List GhostExprTree) → xs ++ [] ≡ xs
nothing_more xs = append-nil xs
