-- Parameters, constructors and bodies of fixpoints go past what was too deep, where more may nest.
use Rattle.std.proofs.Common.{ℕ, Bool, true, false, List, [], ◌∷◌, Option, Some, None}
use Rattle.vf_base.specs.declared.place.Place.{Place}
use Rattle.vf_lexer.specs.declared.punctuator.Punctuator.TheVariants as punctuators
use Rattle.vf_syntax.specs.declared.keyword.Keyword.TheVariants as keywords
use Rattle.vf_syntax.specs.declared.side.Side.TheVariants.{Ghost}
use Rattle.vf_syntax.specs.declared.written.Name.{Name}
use Rattle.vf_syntax.specs.declared.pattern.CasePattern.{CasePattern}
use Rattle.vf_syntax.specs.declared.item.GhostParameter.{GhostParameter}
use Rattle.vf_syntax.specs.declared.item.Constructor.{Constructor}
use Rattle.vf_syntax.specs.declared.item.ConstructorArgument.{ConstructorArgument}
use Rattle.vf_syntax.specs.declared.item.FixpointCase.{FixpointCase}
use Rattle.vf_syntax.specs.declared.item.FixpointBody.TheVariants as bodies
use Rattle.vf_syntax.specs.SortTree.{SortTree}
use Rattle.vf_syntax.specs.GhostExprTree.{GhostExprTree}
use Rattle.vf_syntax.specs.Walks.{is_mark, is_word, is_name}
use Rattle.vf_parse_ghost.specs.declared.parameters.Heading.{Heading}
use Rattle.vf_parse_ghost.specs.Parameters.{parameter_at, is_separator, next_parameter_at, parameter_step, more_parameters_at, parameters_inside_at, parameters_at, type_parameters_at, head_at}
use Rattle.vf_parse_ghost.specs.Constructors.{any_name_at, argument_at, arguments_at, any_arguments_at, constructor_at, other_constructor_at, constructor_step, more_constructors_at, constructors_at, bar_at}
use Rattle.vf_parse_ghost.specs.Fixpoints.{case_at, case_step, cases_at, value_at, switch_head_at, switch_at, fixpoint_body_at}
use Rattle.vf_grammar_depth.proofs.expressions.Deeper.{Deeper, then_deep, done_deep, mark_deep, word_deep, name_deep, head_deep, items_deep}
use Rattle.vf_grammar_depth.proofs.terms.Pieces.{some_deep, any_deep}
use Rattle.vf_grammar_depth.proofs.assertions.Heads.{return_head_deep}
use Rattle.vf_grammar_depth.proofs.ghost_items.Inside.{Inside}

-- a parameter of a sort and a name
abbrev parameter_of : Bool → SortTree → Name → GhostParameter
parameter_of b s n = record { after_semicolon = b; sort = s; name = n }

pub parameter_deep : {j d m : ℕ} (c : Bool) → Inside j d m → Deeper j (parameter_at c d) (parameter_at c m)
unfolding parameter_at
parameter_deep c h = then_deep h.sorts (λ s. then_deep (name_deep Ghost) (λ n. done_deep (parameter_of c s n)))

next_parameter_deep : {j d m : ℕ} → Inside j d m → Deeper j (next_parameter_at d) (next_parameter_at m)
unfolding next_parameter_at
next_parameter_deep h =
    head_deep (is_mark Ghost punctuators.Semicolon) (then_deep (mark_deep Ghost punctuators.Semicolon) (λ z. parameter_deep true h)) (then_deep (mark_deep Ghost punctuators.Comma) (λ z. parameter_deep false h))

more_parameters_deep : {j d m : ℕ} → Inside j d m → (xs : List GhostParameter) → Deeper j (more_parameters_at d xs) (more_parameters_at m xs)
unfolding parameter_step
more_parameters_deep h xs = items_deep is_separator (next_parameter_deep h) xs

parameters_inside_deep : {j d m : ℕ} → Inside j d m → Deeper j (parameters_inside_at d) (parameters_inside_at m)
unfolding parameters_inside_at
parameters_inside_deep h = head_deep (is_mark Ghost punctuators.CloseParenthesis) (done_deep []) (then_deep (parameter_deep false h) (λ x. more_parameters_deep h (x ∷ [])))

pub parameters_deep : {j d m : ℕ} → Inside j d m → Deeper j (parameters_at d) (parameters_at m)
unfolding parameters_at
parameters_deep h = then_deep (mark_deep Ghost punctuators.OpenParenthesis) (λ o. then_deep (parameters_inside_deep h) (λ xs. then_deep (mark_deep Ghost punctuators.CloseParenthesis) (λ z. done_deep xs)))

pub type_parameters_deep : {j : ℕ} → Deeper j type_parameters_at type_parameters_at
unfolding type_parameters_at
type_parameters_deep =
    head_deep (is_mark Ghost punctuators.Less) (then_deep (mark_deep Ghost punctuators.Less) (λ o. then_deep (some_deep (name_deep Ghost)) (λ xs. then_deep (mark_deep Ghost punctuators.Greater) (λ z. done_deep xs)))) (done_deep [])

-- a name with its parameters
abbrev heading_of : Name → List Name → List GhostParameter → Heading
heading_of n xs ps = record { name = n; type_parameters = xs; parameters = ps }

pub heading_deep : {j d m : ℕ} → Inside j d m → Deeper j (head_at d) (head_at m)
unfolding head_at
heading_deep h = then_deep (name_deep Ghost) (λ n. then_deep type_parameters_deep (λ xs. then_deep (parameters_deep h) (λ ps. done_deep (heading_of n xs ps))))

any_name_deep : {j : ℕ} → Deeper j any_name_at any_name_at
unfolding any_name_at
any_name_deep = head_deep (is_name Ghost) (then_deep (name_deep Ghost) (λ n. done_deep (Some n))) (done_deep None)

-- an argument of a sort
abbrev argument_of : SortTree → Option Name → ConstructorArgument
argument_of s n = record { sort = s; name = n }

argument_deep : {j d m : ℕ} → Inside j d m → Deeper j (argument_at d) (argument_at m)
unfolding argument_at
argument_deep h = then_deep h.sorts (λ s. then_deep any_name_deep (λ n. done_deep (argument_of s n)))

arguments_deep : {j d m : ℕ} → Inside j d m → Deeper j (arguments_at d) (arguments_at m)
unfolding arguments_at
arguments_deep h =
    then_deep (mark_deep Ghost punctuators.OpenParenthesis) (λ o. then_deep (any_deep (is_mark Ghost punctuators.CloseParenthesis) (argument_deep h)) (λ xs. then_deep (mark_deep Ghost punctuators.CloseParenthesis) (λ z. done_deep xs)))

any_arguments_deep : {j d m : ℕ} → Inside j d m → Deeper j (any_arguments_at d) (any_arguments_at m)
unfolding any_arguments_at
any_arguments_deep h = head_deep (is_mark Ghost punctuators.OpenParenthesis) (then_deep (arguments_deep h) (λ xs. done_deep (Some xs))) (done_deep None)

-- a constructor with its arguments
abbrev constructor_of : Name → Option (List ConstructorArgument) → Constructor
constructor_of n xs = record { name = n; arguments = xs }

constructor_deep : {j d m : ℕ} → Inside j d m → Deeper j (constructor_at d) (constructor_at m)
unfolding constructor_at
constructor_deep h = then_deep (name_deep Ghost) (λ n. then_deep (any_arguments_deep h) (λ xs. done_deep (constructor_of n xs)))

other_constructor_deep : {j d m : ℕ} → Inside j d m → Deeper j (other_constructor_at d) (other_constructor_at m)
unfolding other_constructor_at
other_constructor_deep h = then_deep (mark_deep Ghost punctuators.Bar) (λ z. constructor_deep h)

more_constructors_deep : {j d m : ℕ} → Inside j d m → (xs : List Constructor) → Deeper j (more_constructors_at d xs) (more_constructors_at m xs)
unfolding constructor_step
more_constructors_deep h xs = items_deep (is_mark Ghost punctuators.Bar) (other_constructor_deep h) xs

pub constructors_deep : {j d m : ℕ} → Inside j d m → Deeper j (constructors_at d) (constructors_at m)
unfolding constructors_at
constructors_deep h = then_deep (constructor_deep h) (λ x. more_constructors_deep h (x ∷ []))

pub bar_deep : {j : ℕ} → Deeper j bar_at bar_at
unfolding bar_at
bar_deep = head_deep (is_mark Ghost punctuators.Bar) (then_deep (mark_deep Ghost punctuators.Bar) (λ z. done_deep true)) (done_deep false)

-- a case of a fixpoint
abbrev case_of : Place → CasePattern → GhostExprTree → FixpointCase
case_of p k e = record { place = p; pattern = k; value = e }

case_deep : {j d m : ℕ} → Inside j d m → Deeper j (case_at d) (case_at m)
unfolding case_at
case_deep h = then_deep return_head_deep (λ x. then_deep h.terms (λ e. then_deep (mark_deep Ghost punctuators.Semicolon) (λ z. done_deep (case_of x.0 x.1 e))))

cases_deep : {j d m : ℕ} → Inside j d m → Deeper j (cases_at d) (cases_at m)
unfolding case_step
cases_deep h = items_deep (is_word Ghost keywords.Case) (case_deep h) []

value_deep : {j d m : ℕ} → Inside j d m → Deeper j (value_at d) (value_at m)
unfolding value_at
value_deep h = then_deep (word_deep Ghost keywords.Return) (λ w. then_deep h.terms (λ e. then_deep (mark_deep Ghost punctuators.Semicolon) (λ z. done_deep (bodies.Value e))))

switch_head_deep : {j : ℕ} → Deeper j switch_head_at switch_head_at
unfolding switch_head_at
switch_head_deep =
    then_deep (word_deep Ghost keywords.Switch) (λ w. then_deep (mark_deep Ghost punctuators.OpenParenthesis) (λ o. then_deep (name_deep Ghost) (λ n. then_deep (mark_deep Ghost punctuators.CloseParenthesis)
    (λ z. then_deep (mark_deep Ghost punctuators.OpenBrace) (λ y. done_deep n)))))

switch_deep : {j d m : ℕ} → Inside j d m → Deeper j (switch_at d) (switch_at m)
unfolding switch_at
switch_deep h = then_deep switch_head_deep (λ n. then_deep (cases_deep h) (λ xs. then_deep (mark_deep Ghost punctuators.CloseBrace) (λ z. done_deep (bodies.Switch n xs))))

pub fixpoint_body_deep : {j d m : ℕ} → Inside j d m → Deeper j (fixpoint_body_at d) (fixpoint_body_at m)
unfolding fixpoint_body_at
fixpoint_body_deep h = head_deep (is_word Ghost keywords.Switch) (switch_deep h) (value_deep h)
