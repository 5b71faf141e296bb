-- Ghost items take a token at least, and begin with ghost text.
use Rattle.std.proofs.Common.{◌≡◌, Bool, true, false, List, [], ◌∷◌, Some, sym, subst}
use Rattle.std.specs.Prelude.{if◌then◌else◌}
use Rattle.vf_lexer.specs.declared.token.Token.{Token}
use Rattle.vf_syntax.specs.declared.keyword.Keyword.{Keyword}
use Rattle.vf_syntax.specs.declared.side.Side.TheVariants.{Ghost}
use Rattle.vf_syntax.specs.declared.written.Name.{Name}
use Rattle.vf_syntax.specs.declared.item.GhostParameter.{GhostParameter}
use Rattle.vf_syntax.specs.declared.item.Constructor.{Constructor}
use Rattle.vf_syntax.specs.declared.item.ConstructorArgument.{ConstructorArgument}
use Rattle.vf_syntax.specs.declared.item.FixpointBody.{FixpointBody}
use Rattle.vf_syntax.specs.declared.item.FixpointBody.TheVariants as fixpoints
use Rattle.vf_syntax.specs.declared.item.FixpointCase.{FixpointCase}
use Rattle.vf_syntax.specs.declared.item.GhostBody.{GhostBody}
use Rattle.vf_syntax.specs.declared.item.GhostItem.{GhostItem}
use Rattle.vf_syntax.specs.declared.item.GhostForm.{GhostForm}
use Rattle.vf_syntax.specs.declared.item.GhostForm.TheVariants as forms
use Rattle.vf_syntax.specs.AssertionTree.{part_list}
use Rattle.vf_syntax.specs.GhostCommandTree.{ghost_command_list}
use Rattle.vf_syntax.specs.Walks.{Walk, ◌⨾◌, never, at, word, head_has, is_on}
use Rattle.vf_syntax.specs.Written.{name}
use Rattle.vf_syntax.specs.Statements.{contract}
use Rattle.vf_syntax.specs.Units.{ghost_parameter, more_ghost_parameters, first_ghost_parameter, ghost_parameters_inside, ghost_parameters, type_parameters, constructor_argument, constructor_arguments, constructor, other_constructor, constructors, leading_bar, fixpoint_case, fixpoint_body, ghost_body, ghost_form, ghost_item}
use Rattle.vf_grammar_read.proofs.expressions.Fronts.{gone, at_stays, word_front}
use Rattle.vf_grammar_read.proofs.expressions.Eaten.{Keeps, Eats, keeps, keep_then, eat_then, then_eat, nothing_keeps, at_keeps, mark_eats, word_eats, name_eats}
use Rattle.vf_grammar_read.proofs.statements.GhostEaten.{never_keeps, optional_keeps, each_keeps, behind_commas_keep, separated_keep, sort_eats, ghost_expr_eats, case_pattern_keeps, assertion_keeps, commands_keep, contract_keeps}

ghost_parameter_keeps : (x : GhostParameter) → Keeps (ghost_parameter x)
unfolding ghost_parameter
ghost_parameter_keeps x = keep_then (keeps (sort_eats x.sort)) (keeps (name_eats _ x.name))

more_ghost_parameters_keep : (xs : List GhostParameter) → Keeps (more_ghost_parameters xs)
more_ghost_parameters_keep [] = nothing_keeps
more_ghost_parameters_keep (x ∷ xs) = keep_then (keeps (mark_eats _ _)) (keep_then (ghost_parameter_keeps x) (more_ghost_parameters_keep xs))

either_keeps : (b : Bool) (f : Walk) → Keeps f → Keeps (if b then never else f)
either_keeps true f h = never_keeps
either_keeps false f h = h

first_ghost_parameter_keeps : (x : GhostParameter) → Keeps (first_ghost_parameter x)
first_ghost_parameter_keeps x = either_keeps x.after_semicolon (ghost_parameter x) (ghost_parameter_keeps x)

ghost_parameters_inside_keep : (xs : List GhostParameter) → Keeps (ghost_parameters_inside xs)
ghost_parameters_inside_keep [] = nothing_keeps
ghost_parameters_inside_keep (x ∷ xs) = keep_then (first_ghost_parameter_keeps x) (more_ghost_parameters_keep xs)

ghost_parameters_keep : (xs : List GhostParameter) → Keeps (ghost_parameters xs)
unfolding ghost_parameters
ghost_parameters_keep xs = keep_then (keeps (mark_eats _ _)) (keep_then (ghost_parameters_inside_keep xs) (keeps (mark_eats _ _)))

type_parameters_keep : (xs : List Name) → Keeps (type_parameters xs)
unfolding type_parameters
type_parameters_keep [] = nothing_keeps
type_parameters_keep (x ∷ xs) = keep_then (keeps (mark_eats _ _)) (keep_then (keeps (name_eats _ x)) (keep_then (behind_commas_keep Ghost (name Ghost) (λ n. keeps (name_eats _ n)) xs) (keeps (mark_eats _ _))))

constructor_argument_keeps : (x : ConstructorArgument) → Keeps (constructor_argument x)
unfolding constructor_argument
constructor_argument_keeps x = keep_then (keeps (sort_eats x.sort)) (optional_keeps (name Ghost) (λ n. keeps (name_eats _ n)) x.name)

constructor_arguments_keep : (xs : List ConstructorArgument) → Keeps (constructor_arguments xs)
unfolding constructor_arguments
constructor_arguments_keep xs = keep_then (keeps (mark_eats _ _)) (keep_then (separated_keep Ghost constructor_argument constructor_argument_keeps xs) (keeps (mark_eats _ _)))

constructor_keeps : (x : Constructor) → Keeps (constructor x)
unfolding constructor
constructor_keeps x = keep_then (keeps (name_eats _ x.name)) (optional_keeps constructor_arguments constructor_arguments_keep x.arguments)

other_constructor_keeps : (x : Constructor) → Keeps (other_constructor x)
unfolding other_constructor
other_constructor_keeps x = keep_then (keeps (mark_eats _ _)) (constructor_keeps x)

constructors_keep : (xs : List Constructor) → Keeps (constructors xs)
unfolding constructors
constructors_keep [] = never_keeps
constructors_keep (x ∷ xs) = keep_then (constructor_keeps x) (each_keeps other_constructor other_constructor_keeps xs)

leading_bar_keeps : (b : Bool) → Keeps (leading_bar b)
leading_bar_keeps true = keeps (mark_eats _ _)
leading_bar_keeps false = nothing_keeps

fixpoint_case_keeps : (x : FixpointCase) → Keeps (fixpoint_case x)
unfolding fixpoint_case
fixpoint_case_keeps x = keep_then (at_keeps x.place) (keep_then (keeps (word_eats _ _)) (keep_then (case_pattern_keeps x.pattern) (keep_then (keeps (mark_eats _ _)) (keep_then (keeps (word_eats _ _)) (keep_then (keeps (ghost_expr_eats x.value)) (keeps (mark_eats _ _)))))))

fixpoint_body_keeps : (x : FixpointBody) → Keeps (fixpoint_body x)
unfolding fixpoint_body
fixpoint_body_keeps (fixpoints.Value e) = keep_then (keeps (word_eats _ _)) (keep_then (keeps (ghost_expr_eats e)) (keeps (mark_eats _ _)))
fixpoint_body_keeps (fixpoints.Switch n cs) = keep_then (keeps (word_eats _ _)) (keep_then (keeps (mark_eats _ _)) (keep_then (keeps (name_eats _ n)) (keep_then (keeps (mark_eats _ _)) (keep_then (keeps (mark_eats _ _)) (keep_then (each_keeps fixpoint_case fixpoint_case_keeps cs) (keeps (mark_eats _ _)))))))

ghost_body_keeps : (x : GhostBody) → Keeps (ghost_body x)
unfolding ghost_body
ghost_body_keeps x = keep_then (at_keeps x.place) (keep_then (keeps (mark_eats _ _)) (keep_then (commands_keep (ghost_command_list x.commands)) (keep_then (at_keeps x.last) (keeps (mark_eats _ _)))))

ghost_form_eats : (x : GhostForm) → Eats (ghost_form x)
unfolding ghost_form
ghost_form_eats (forms.Inductive n ts bar cs) = eat_then (word_eats _ _) (keep_then (keeps (name_eats _ n)) (keep_then (type_parameters_keep ts) (keep_then (keeps (mark_eats _ _)) (keep_then (leading_bar_keeps bar) (keep_then (constructors_keep cs) (keeps (mark_eats _ _)))))))
ghost_form_eats (forms.Fixpoint s n ts ps b) = eat_then (word_eats _ _) (keep_then (keeps (sort_eats s)) (keep_then (keeps (name_eats _ n)) (keep_then (type_parameters_keep ts) (keep_then (ghost_parameters_keep ps) (keep_then (keeps (mark_eats _ _)) (keep_then (fixpoint_body_keeps b) (keeps (mark_eats _ _))))))))
ghost_form_eats (forms.Predicate n ps) = eat_then (word_eats _ _) (keep_then (keeps (name_eats _ n)) (keep_then (ghost_parameters_keep ps) (keeps (mark_eats _ _))))
ghost_form_eats (forms.PredicateBody n ps a) = eat_then (word_eats _ _) (keep_then (keeps (name_eats _ n)) (keep_then (ghost_parameters_keep ps) (keep_then (keeps (mark_eats _ _)) (keep_then (assertion_keeps (part_list a)) (keeps (mark_eats _ _))))))
ghost_form_eats (forms.Family n index ps) = eat_then (word_eats _ _) (keep_then (keeps (name_eats _ n)) (keep_then (keeps (mark_eats _ _)) (keep_then (first_ghost_parameter_keeps index) (keep_then (keeps (mark_eats _ _)) (keep_then (ghost_parameters_keep ps) (keeps (mark_eats _ _)))))))
ghost_form_eats (forms.Instance n f ps a) = eat_then (word_eats _ _) (keep_then (keeps (name_eats _ n)) (keep_then (keeps (mark_eats _ _)) (keep_then (keeps (name_eats _ f)) (keep_then (keeps (mark_eats _ _)) (keep_then (ghost_parameters_keep ps) (keep_then (keeps (mark_eats _ _)) (keep_then (assertion_keeps (part_list a)) (keeps (mark_eats _ _)))))))))
ghost_form_eats (forms.PredicateConstructor n first second a) = eat_then (word_eats _ _) (keep_then (keeps (name_eats _ n)) (keep_then (ghost_parameters_keep first) (keep_then (ghost_parameters_keep second) (keep_then (keeps (mark_eats _ _)) (keep_then (assertion_keeps (part_list a)) (keeps (mark_eats _ _)))))))
ghost_form_eats (forms.LemmaPrototype n ts ps c) = eat_then (word_eats _ _) (keep_then (keeps (word_eats _ _)) (keep_then (keeps (name_eats _ n)) (keep_then (type_parameters_keep ts) (keep_then (ghost_parameters_keep ps) (keep_then (keeps (mark_eats _ _)) (contract_keeps c))))))
ghost_form_eats (forms.Lemma n ts ps c b) = eat_then (word_eats _ _) (keep_then (keeps (word_eats _ _)) (keep_then (keeps (name_eats _ n)) (keep_then (type_parameters_keep ts) (keep_then (ghost_parameters_keep ps) (keep_then (optional_keeps contract contract_keeps c) (ghost_body_keeps b))))))

pub ghost_item_eats : (x : GhostItem) → Eats (ghost_item x)
unfolding ghost_item
ghost_item_eats x = then_eat (at_keeps x.place) (ghost_form_eats x.form)

worded : (k : Keyword) (g : Walk) (ts rest : List Token) → (word Ghost k ⨾ g) ts ≡ Some rest → head_has (is_on Ghost) ts ≡ true
worded k g ts rest h = let m = gone {g = g} (word Ghost k ts) h in (word_front Ghost k ts m.0 m.1).side_is

ghost_form_begins : (x : GhostForm) (ts rest : List Token) → ghost_form x ts ≡ Some rest → head_has (is_on Ghost) ts ≡ true
unfolding ghost_form
ghost_form_begins (forms.Inductive n ts bar cs) us rest h = worded _ _ us rest h
ghost_form_begins (forms.Fixpoint s n ts ps b) us rest h = worded _ _ us rest h
ghost_form_begins (forms.Predicate n ps) us rest h = worded _ _ us rest h
ghost_form_begins (forms.PredicateBody n ps a) us rest h = worded _ _ us rest h
ghost_form_begins (forms.Family n index ps) us rest h = worded _ _ us rest h
ghost_form_begins (forms.Instance n f ps a) us rest h = worded _ _ us rest h
ghost_form_begins (forms.PredicateConstructor n first second a) us rest h = worded _ _ us rest h
ghost_form_begins (forms.LemmaPrototype n ts ps c) us rest h = worded _ _ us rest h
ghost_form_begins (forms.Lemma n ts ps c b) us rest h = worded _ _ us rest h

pub ghost_item_begins : (x : GhostItem) (ts rest : List Token) → ghost_item x ts ≡ Some rest → head_has (is_on Ghost) ts ≡ true
unfolding ghost_item
ghost_item_begins x ts rest h =
    let g = gone (at x.place ts) h in
    subst (λ us. head_has (is_on Ghost) us ≡ true) (sym (at_stays x.place ts g.0 g.1)) (ghost_form_begins x.form g.0 rest g.2)
