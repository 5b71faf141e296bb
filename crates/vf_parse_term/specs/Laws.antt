-- What is read is spelled so.
use Rattle.std.specs.Prelude.{◌≡◌, ℕ, ◌+◌, ◌≤◌, List, Option, Some}
use Rattle.vf_base.specs.declared.place.Place.{Place}
use Rattle.vf_lexer.specs.declared.punctuator.Punctuator.TheVariants.{OpenParenthesis, CloseParenthesis}
use Rattle.vf_lexer.specs.declared.token.Token.{Token}
use Rattle.vf_syntax.specs.declared.side.Side.TheVariants.{Ghost}
use Rattle.vf_syntax.specs.SortTree.{SortTree}
use Rattle.vf_syntax.specs.GhostExprTree.{GhostExprTree, ghost_expr_list}
use Rattle.vf_syntax.specs.Walks.{Walk, at, mark}
use Rattle.vf_syntax.specs.GhostExpressions.{sort_nesting, ghost_expr, ghost_rank, ghost_nesting, ghost_arguments, ghost_arguments_nesting}
use Rattle.vf_cursor.specs.Parsing.{Parser, ok}
use Rattle.vf_parse_term.specs.Terms.{rest_at, operand_at}

-- what a parser reads is spelled by the tokens that it takes, and no token in it nests deeper than a limit
abbrev pub IsSpelled : {A : Type 0} → Parser A → (A → Walk) → (A → ℕ) → ℕ → Type 0
IsSpelled {A = A} p walk nesting limit = (ts : List Token) (x : A) (rest : List Token) → p ts ≡ ok x rest → (walk x ts ≡ Some rest) × (nesting x ≤ limit)

-- how deep a sort nests, itself counted
abbrev pub sort_depth : SortTree → ℕ
sort_depth x = sort_nesting x + 1

-- how deep an expression nests, itself counted
abbrev pub term_depth : GhostExprTree → ℕ
term_depth x = ghost_nesting x + 1

-- an expression is spelled, is of a rank at most, and nests at most so deep, itself not counted
abbrev pub IsTerm : ℕ → ℕ → List Token → GhostExprTree → List Token → Type 0
IsTerm rank limit ts x rest = (ghost_expr x ts ≡ Some rest) × (ghost_rank x ≤ rank) × (ghost_nesting x ≤ limit)

-- arguments between parentheses are spelled, and nest at most so deep
abbrev pub AreArguments : ℕ → List Token → List GhostExprTree → List Token → Type 0
AreArguments limit ts xs rest = (inside : List Token) × (behind : List Token) × (mark Ghost OpenParenthesis ts ≡ Some inside) × (ghost_arguments (ghost_expr_list xs) inside ≡ Some behind)
    × (mark Ghost CloseParenthesis behind ≡ Some rest) × (ghost_arguments_nesting (ghost_expr_list xs) ≤ limit)

-- what goes on with a first operand, which tokens before it spell, gives an expression that they all spell
abbrev pub GoesOn : Parser GhostExprTree → ℕ → ℕ → Type 0
GoesOn u levels limit = (p : Place) (a : GhostExprTree) (all ts : List Token) → at p all ≡ Some all → IsTerm 2 limit all a ts → (x : GhostExprTree) (rest : List Token) → rest_at u levels p a ts ≡ ok x rest → IsTerm (levels + 2) limit all x rest
