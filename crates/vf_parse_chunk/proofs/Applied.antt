-- A name with patterns that are expressions is spelled as an application too.
use Rattle.std.proofs.Common.{◌≡◌, ℕ, ◌+◌, ◌≤◌, true, List, [], ◌∷◌, Some, refl, subst, ap, arith}
use Rattle.std.specs.Prelude.{max}
use Rattle.vf_lexer.specs.declared.punctuator.Punctuator.TheVariants as punctuators
use Rattle.vf_lexer.specs.declared.token.Token.{Token}
use Rattle.vf_syntax.specs.declared.side.Side.TheVariants.{Ghost}
use Rattle.vf_syntax.specs.declared.written.Name.{Name}
use Rattle.vf_syntax.specs.declared.pattern.Pattern.{Pattern}
use Rattle.vf_syntax.specs.declared.pattern.Pattern.TheVariants as patterns
use Rattle.vf_syntax.specs.GhostExprTree.{ghost_expr_list}
use Rattle.vf_syntax.specs.Walks.{Walk, ◌⨾◌, at, mark, identifier}
use Rattle.vf_syntax.specs.Lists.{behind_commas, separated, greatest}
use Rattle.vf_syntax.specs.GhostExpressions.{ghost_expr, ghost_nesting, ghost_arguments, more_ghost_arguments, ghost_arguments_nesting}
use Rattle.vf_syntax.specs.Assertions.{pattern, pattern_list, are_value_patterns, pattern_nesting}
use Rattle.vf_cursor.proofs.Facts.{no_true}
use Rattle.vf_parse_term.specs.Laws.{IsTerm}
use Rattle.vf_parse_pattern.specs.Patterns.{terms_of}
use Rattle.vf_parse_chunk.specs.declared.pieces.Value.TheVariants as values
use Rattle.vf_parse_chunk.specs.Pieces.{term_of}

more_values : (xs : List Pattern) → are_value_patterns xs ≡ true → behind_commas Ghost pattern xs ≡ more_ghost_arguments (ghost_expr_list (terms_of xs))
unfolding pattern
more_values [] h = refl
more_values (patterns.Is e ∷ xs) h = ap (λ (W : Walk). mark Ghost punctuators.Comma ⨾ ghost_expr e ⨾ W) (more_values xs h)
more_values (patterns.Binds p n ∷ xs) h = no_true h
more_values (patterns.Wild p ∷ xs) h = no_true h

separated_values : (xs : List Pattern) → are_value_patterns xs ≡ true → separated Ghost pattern xs ≡ ghost_arguments (ghost_expr_list (terms_of xs))
unfolding pattern
separated_values [] h = refl
separated_values (patterns.Is e ∷ xs) h = ap (λ (W : Walk). ghost_expr e ⨾ W) (more_values xs h)
separated_values (patterns.Binds p n ∷ xs) h = no_true h
separated_values (patterns.Wild p ∷ xs) h = no_true h

values_nest : (xs : List Pattern) → are_value_patterns xs ≡ true → greatest pattern_nesting xs ≡ ghost_arguments_nesting (ghost_expr_list (terms_of xs))
values_nest [] h = refl
values_nest (patterns.Is e ∷ xs) h = ap (λ (n : ℕ). max (ghost_nesting e + 1) n) (values_nest xs h)
values_nest (patterns.Binds p n ∷ xs) h = no_true h
values_nest (patterns.Wild p ∷ xs) h = no_true h

pub application_sound : (d : ℕ) (n : Name) (xs : List Pattern) (ts mid rest : List Token) → at n.place ts ≡ Some ts → identifier Ghost n.text ts ≡ Some mid → pattern_list xs mid ≡ Some rest
    → greatest pattern_nesting xs ≤ d → are_value_patterns xs ≡ true → IsTerm 0 d ts (term_of (values.Application n xs)) rest
unfolding pattern_list
application_sound d n xs ts mid rest here named list low h =
    let inside : (mark Ghost punctuators.OpenParenthesis ⨾ ghost_arguments (ghost_expr_list (terms_of xs)) ⨾ mark Ghost punctuators.CloseParenthesis) mid ≡ Some rest =
    subst (λ (W : Walk). (mark Ghost punctuators.OpenParenthesis ⨾ W ⨾ mark Ghost punctuators.CloseParenthesis) mid ≡ Some rest) (separated_values xs h) list in
    (rw (here, named) inside, omega arith, subst (λ (m : ℕ). m ≤ d) (values_nest xs h) low)
