-- Parameters, constructors and bodies of fixpoints stop alike on tokens that are alike, also where more may nest.
use Rattle.std.proofs.Common.{ℕ, ◌≤◌, Bool, true, false, List, [], ◌∷◌, Option, Some, None, arith}
use Rattle.vf_base.specs.declared.place.Place.{Place}
use Rattle.vf_lexer.specs.declared.punctuator.Punctuator.TheVariants as punctuators
use Rattle.vf_syntax.specs.declared.keyword.Keyword.TheVariants as keywords
use Rattle.vf_syntax.specs.declared.side.Side.TheVariants.{Ghost}
use Rattle.vf_syntax.specs.declared.written.Name.{Name}
use Rattle.vf_syntax.specs.declared.pattern.CasePattern.{CasePattern}
use Rattle.vf_syntax.specs.declared.item.GhostParameter.{GhostParameter}
use Rattle.vf_syntax.specs.declared.item.Constructor.{Constructor}
use Rattle.vf_syntax.specs.declared.item.ConstructorArgument.{ConstructorArgument}
use Rattle.vf_syntax.specs.declared.item.FixpointCase.{FixpointCase}
use Rattle.vf_syntax.specs.declared.item.FixpointBody.TheVariants as bodies
use Rattle.vf_syntax.specs.SortTree.{SortTree}
use Rattle.vf_syntax.specs.GhostExprTree.{GhostExprTree}
use Rattle.vf_syntax.specs.Walks.{head_has, is_mark, is_word, is_name}
use Rattle.vf_parse_ghost.specs.declared.parameters.Heading.{Heading}
use Rattle.vf_parse_ghost.specs.Parameters.{parameter_at, is_separator, next_parameter_at, parameter_step, more_parameters_at, parameters_inside_at, parameters_at, type_parameters_at, head_at}
use Rattle.vf_parse_ghost.specs.Constructors.{any_name_at, argument_at, arguments_at, any_arguments_at, constructor_at, other_constructor_at, constructor_step, more_constructors_at, constructors_at, bar_at}
use Rattle.vf_parse_ghost.specs.Fixpoints.{case_at, case_step, cases_at, value_at, switch_head_at, switch_at, fixpoint_body_at}
use Rattle.vf_grammar_stops.proofs.types.Local.{Does, then_like, done_like, mark_like, word_like, name_like, choice_like}
use Rattle.vf_grammar_stops.proofs.types.LoopAlike.{Takes, items_like}
use Rattle.vf_grammar_stops.proofs.expressions.Takes.{mark_takes, name_takes, then_takes, choice_takes}
use Rattle.vf_grammar_stops.proofs.terms.Pieces.{some_like, any_like}
use Rattle.vf_grammar_stops.proofs.terms.SortsAlike.{sort_takes, sort_like}
use Rattle.vf_grammar_stops.proofs.terms.TermsAlike.{term_like}
use Rattle.vf_grammar_stops.proofs.assertions.AssertionsAlike.{return_head_like, return_head_takes}

-- a parameter of a sort and a name
abbrev parameter_of : Bool → SortTree → Name → GhostParameter
parameter_of b s n = record { after_semicolon = b; sort = s; name = n }

pub parameter_like : (c : Bool) (d m : ℕ) → d ≤ m → Does false (parameter_at c d) (parameter_at c m)
unfolding parameter_at
parameter_like c d m le = then_like (sort_like d m le) (λ s. then_like (name_like Ghost) (λ n. done_like (parameter_of c s n)))

next_parameter_like : (d m : ℕ) → d ≤ m → Does false (next_parameter_at d) (next_parameter_at m)
unfolding next_parameter_at
next_parameter_like d m le =
    choice_like (is_mark Ghost punctuators.Semicolon) (then_like (mark_like Ghost punctuators.Semicolon) (λ z. parameter_like true d m le)) (then_like (mark_like Ghost punctuators.Comma) (λ z. parameter_like false d m le))

next_parameter_takes : (m : ℕ) → Takes (next_parameter_at m)
unfolding next_parameter_at
next_parameter_takes m =
    choice_takes (λ ts. head_has (is_mark Ghost punctuators.Semicolon) ts) (then_takes (mark_takes Ghost punctuators.Semicolon) (λ z. parameter_like true m m (omega arith)))
    (then_takes (mark_takes Ghost punctuators.Comma) (λ z. parameter_like false m m (omega arith)))

more_parameters_like : (d m : ℕ) → d ≤ m → (xs : List GhostParameter) → Does false (more_parameters_at d xs) (more_parameters_at m xs)
unfolding parameter_step
more_parameters_like d m le xs = items_like is_separator (next_parameter_like d m le) (next_parameter_takes m) xs

parameters_inside_like : (d m : ℕ) → d ≤ m → Does false (parameters_inside_at d) (parameters_inside_at m)
unfolding parameters_inside_at
parameters_inside_like d m le = choice_like (is_mark Ghost punctuators.CloseParenthesis) (done_like []) (then_like (parameter_like false d m le) (λ x. more_parameters_like d m le (x ∷ [])))

pub parameters_like : (d m : ℕ) → d ≤ m → Does false (parameters_at d) (parameters_at m)
unfolding parameters_at
parameters_like d m le = then_like (mark_like Ghost punctuators.OpenParenthesis) (λ o. then_like (parameters_inside_like d m le) (λ xs. then_like (mark_like Ghost punctuators.CloseParenthesis) (λ z. done_like xs)))

pub type_parameters_like : {b : Bool} → Does b type_parameters_at type_parameters_at
unfolding type_parameters_at
type_parameters_like =
    choice_like (is_mark Ghost punctuators.Less) (then_like (mark_like Ghost punctuators.Less) (λ o. then_like (some_like (name_like Ghost) (name_takes Ghost)) (λ xs. then_like (mark_like Ghost punctuators.Greater) (λ z. done_like xs)))) (done_like [])

-- a name with its parameters
abbrev heading_of : Name → List Name → List GhostParameter → Heading
heading_of n xs ps = record { name = n; type_parameters = xs; parameters = ps }

pub head_like : (d m : ℕ) → d ≤ m → Does false (head_at d) (head_at m)
unfolding head_at
head_like d m le = then_like (name_like Ghost) (λ n. then_like type_parameters_like (λ xs. then_like (parameters_like d m le) (λ ps. done_like (heading_of n xs ps))))

any_name_like : {b : Bool} → Does b any_name_at any_name_at
unfolding any_name_at
any_name_like = choice_like (is_name Ghost) (then_like (name_like Ghost) (λ n. done_like (Some n))) (done_like None)

-- an argument of a sort
abbrev argument_of : SortTree → Option Name → ConstructorArgument
argument_of s n = record { sort = s; name = n }

argument_like : (d m : ℕ) → d ≤ m → Does false (argument_at d) (argument_at m)
unfolding argument_at
argument_like d m le = then_like (sort_like d m le) (λ s. then_like any_name_like (λ n. done_like (argument_of s n)))

argument_takes : (m : ℕ) → Takes (argument_at m)
unfolding argument_at
argument_takes m = then_takes (sort_takes m) (λ s. then_like any_name_like (λ n. done_like (argument_of s n)))

arguments_like : (d m : ℕ) → d ≤ m → Does false (arguments_at d) (arguments_at m)
unfolding arguments_at
arguments_like d m le =
    then_like (mark_like Ghost punctuators.OpenParenthesis) (λ o. then_like (any_like (is_mark Ghost punctuators.CloseParenthesis) (argument_like d m le) (argument_takes m)) (λ xs. then_like (mark_like Ghost punctuators.CloseParenthesis) (λ z. done_like xs)))

any_arguments_like : (d m : ℕ) → d ≤ m → Does false (any_arguments_at d) (any_arguments_at m)
unfolding any_arguments_at
any_arguments_like d m le = choice_like (is_mark Ghost punctuators.OpenParenthesis) (then_like (arguments_like d m le) (λ xs. done_like (Some xs))) (done_like None)

-- a constructor with its arguments
abbrev constructor_of : Name → Option (List ConstructorArgument) → Constructor
constructor_of n xs = record { name = n; arguments = xs }

constructor_like : (d m : ℕ) → d ≤ m → Does false (constructor_at d) (constructor_at m)
unfolding constructor_at
constructor_like d m le = then_like (name_like Ghost) (λ n. then_like (any_arguments_like d m le) (λ xs. done_like (constructor_of n xs)))

other_constructor_like : (d m : ℕ) → d ≤ m → Does false (other_constructor_at d) (other_constructor_at m)
unfolding other_constructor_at
other_constructor_like d m le = then_like (mark_like Ghost punctuators.Bar) (λ z. constructor_like d m le)

other_constructor_takes : (m : ℕ) → Takes (other_constructor_at m)
unfolding other_constructor_at
other_constructor_takes m = then_takes (mark_takes Ghost punctuators.Bar) (λ z. constructor_like m m (omega arith))

more_constructors_like : (d m : ℕ) → d ≤ m → (xs : List Constructor) → Does false (more_constructors_at d xs) (more_constructors_at m xs)
unfolding constructor_step
more_constructors_like d m le xs = items_like (is_mark Ghost punctuators.Bar) (other_constructor_like d m le) (other_constructor_takes m) xs

pub constructors_like : (d m : ℕ) → d ≤ m → Does false (constructors_at d) (constructors_at m)
unfolding constructors_at
constructors_like d m le = then_like (constructor_like d m le) (λ x. more_constructors_like d m le (x ∷ []))

pub bar_like : {b : Bool} → Does b bar_at bar_at
unfolding bar_at
bar_like = choice_like (is_mark Ghost punctuators.Bar) (then_like (mark_like Ghost punctuators.Bar) (λ z. done_like true)) (done_like false)

-- a case of a fixpoint
abbrev case_of : Place → CasePattern → GhostExprTree → FixpointCase
case_of p k e = record { place = p; pattern = k; value = e }

case_like : (d m : ℕ) → d ≤ m → Does false (case_at d) (case_at m)
unfolding case_at
case_like d m le = then_like return_head_like (λ h. then_like (term_like d m le) (λ e. then_like (mark_like Ghost punctuators.Semicolon) (λ z. done_like (case_of h.0 h.1 e))))

case_takes : (m : ℕ) → Takes (case_at m)
unfolding case_at
case_takes m = then_takes return_head_takes (λ h. then_like (term_like m m (omega arith)) (λ e. then_like (mark_like Ghost punctuators.Semicolon) (λ z. done_like (case_of h.0 h.1 e))))

cases_like : (d m : ℕ) → d ≤ m → Does false (cases_at d) (cases_at m)
unfolding case_step
cases_like d m le = items_like (is_word Ghost keywords.Case) (case_like d m le) (case_takes m) []

value_like : (d m : ℕ) → d ≤ m → Does false (value_at d) (value_at m)
unfolding value_at
value_like d m le = then_like (word_like Ghost keywords.Return) (λ w. then_like (term_like d m le) (λ e. then_like (mark_like Ghost punctuators.Semicolon) (λ z. done_like (bodies.Value e))))

switch_head_like : {b : Bool} → Does b switch_head_at switch_head_at
unfolding switch_head_at
switch_head_like =
    then_like (word_like Ghost keywords.Switch) (λ w. then_like (mark_like Ghost punctuators.OpenParenthesis) (λ o. then_like (name_like Ghost) (λ n. then_like (mark_like Ghost punctuators.CloseParenthesis)
    (λ z. then_like (mark_like Ghost punctuators.OpenBrace) (λ y. done_like n)))))

switch_like : (d m : ℕ) → d ≤ m → Does false (switch_at d) (switch_at m)
unfolding switch_at
switch_like d m le = then_like switch_head_like (λ n. then_like (cases_like d m le) (λ xs. then_like (mark_like Ghost punctuators.CloseBrace) (λ z. done_like (bodies.Switch n xs))))

pub fixpoint_body_like : (d m : ℕ) → d ≤ m → Does false (fixpoint_body_at d) (fixpoint_body_at m)
unfolding fixpoint_body_at
fixpoint_body_like d m le = choice_like (is_word Ghost keywords.Switch) (switch_like d m le) (value_like d m le)
