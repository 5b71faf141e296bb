-- Ghost items that are spelled take no token of real text.
use Rattle.std.proofs.Common.{Bool, true, false, List, [], ◌∷◌}
use Rattle.std.specs.Prelude.{if◌then◌else◌}
use Rattle.vf_syntax.specs.declared.side.Side.TheVariants.{Ghost}
use Rattle.vf_syntax.specs.declared.written.Name.{Name}
use Rattle.vf_syntax.specs.declared.item.GhostParameter.{GhostParameter}
use Rattle.vf_syntax.specs.declared.item.Constructor.{Constructor}
use Rattle.vf_syntax.specs.declared.item.ConstructorArgument.{ConstructorArgument}
use Rattle.vf_syntax.specs.declared.item.FixpointBody.{FixpointBody}
use Rattle.vf_syntax.specs.declared.item.FixpointBody.TheVariants as fixpoints
use Rattle.vf_syntax.specs.declared.item.FixpointCase.{FixpointCase}
use Rattle.vf_syntax.specs.declared.item.GhostBody.{GhostBody}
use Rattle.vf_syntax.specs.declared.item.GhostItem.{GhostItem}
use Rattle.vf_syntax.specs.declared.item.GhostForm.{GhostForm}
use Rattle.vf_syntax.specs.declared.item.GhostForm.TheVariants as forms
use Rattle.vf_syntax.specs.AssertionTree.{part_list}
use Rattle.vf_syntax.specs.GhostCommandTree.{ghost_command_list}
use Rattle.vf_syntax.specs.Walks.{Walk, never}
use Rattle.vf_syntax.specs.Written.{name}
use Rattle.vf_syntax.specs.Statements.{contract}
use Rattle.vf_syntax.specs.Units.{ghost_parameter, more_ghost_parameters, first_ghost_parameter, ghost_parameters_inside, ghost_parameters, type_parameters, constructor_argument, constructor_arguments, constructor, other_constructor, constructors, leading_bar, fixpoint_case, fixpoint_body, ghost_body, ghost_form, ghost_item}
use Rattle.vf_grammar_read.proofs.supported.Unseen.{Unseen, unseen_then, nothing_unseen, never_unseen, at_unseen, ghost_mark, ghost_word, name_unseen, optional_unseen, each_unseen, behind_commas_unseen, separated_unseen}
use Rattle.vf_grammar_read.proofs.supported.GhostUnseen.{sort_unseen, ghost_expr_unseen, case_pattern_unseen, assertion_unseen, commands_unseen, contract_unseen}

ghost_parameter_unseen : (x : GhostParameter) → Unseen (ghost_parameter x)
unfolding ghost_parameter
ghost_parameter_unseen x = unseen_then (sort_unseen x.sort) (name_unseen x.name)

more_ghost_parameters_unseen : (xs : List GhostParameter) → Unseen (more_ghost_parameters xs)
more_ghost_parameters_unseen [] = nothing_unseen
more_ghost_parameters_unseen (x ∷ xs) = unseen_then (ghost_mark _) (unseen_then (ghost_parameter_unseen x) (more_ghost_parameters_unseen xs))

either_unseen : (b : Bool) (f : Walk) → Unseen f → Unseen (if b then never else f)
either_unseen true f h = never_unseen
either_unseen false f h = h

first_ghost_parameter_unseen : (x : GhostParameter) → Unseen (first_ghost_parameter x)
first_ghost_parameter_unseen x = either_unseen x.after_semicolon (ghost_parameter x) (ghost_parameter_unseen x)

ghost_parameters_inside_unseen : (xs : List GhostParameter) → Unseen (ghost_parameters_inside xs)
ghost_parameters_inside_unseen [] = nothing_unseen
ghost_parameters_inside_unseen (x ∷ xs) = unseen_then (first_ghost_parameter_unseen x) (more_ghost_parameters_unseen xs)

ghost_parameters_unseen : (xs : List GhostParameter) → Unseen (ghost_parameters xs)
unfolding ghost_parameters
ghost_parameters_unseen xs = unseen_then (ghost_mark _) (unseen_then (ghost_parameters_inside_unseen xs) (ghost_mark _))

type_parameters_unseen : (xs : List Name) → Unseen (type_parameters xs)
unfolding type_parameters
type_parameters_unseen [] = nothing_unseen
type_parameters_unseen (x ∷ xs) = unseen_then (ghost_mark _) (unseen_then (name_unseen x) (unseen_then (behind_commas_unseen (name Ghost) (λ n. (name_unseen n)) xs) (ghost_mark _)))

constructor_argument_unseen : (x : ConstructorArgument) → Unseen (constructor_argument x)
unfolding constructor_argument
constructor_argument_unseen x = unseen_then (sort_unseen x.sort) (optional_unseen (name Ghost) (λ n. (name_unseen n)) x.name)

constructor_arguments_unseen : (xs : List ConstructorArgument) → Unseen (constructor_arguments xs)
unfolding constructor_arguments
constructor_arguments_unseen xs = unseen_then (ghost_mark _) (unseen_then (separated_unseen constructor_argument constructor_argument_unseen xs) (ghost_mark _))

constructor_unseen : (x : Constructor) → Unseen (constructor x)
unfolding constructor
constructor_unseen x = unseen_then (name_unseen x.name) (optional_unseen constructor_arguments constructor_arguments_unseen x.arguments)

other_constructor_unseen : (x : Constructor) → Unseen (other_constructor x)
unfolding other_constructor
other_constructor_unseen x = unseen_then (ghost_mark _) (constructor_unseen x)

constructors_unseen : (xs : List Constructor) → Unseen (constructors xs)
unfolding constructors
constructors_unseen [] = never_unseen
constructors_unseen (x ∷ xs) = unseen_then (constructor_unseen x) (each_unseen other_constructor other_constructor_unseen xs)

leading_bar_unseen : (b : Bool) → Unseen (leading_bar b)
leading_bar_unseen true = (ghost_mark _)
leading_bar_unseen false = nothing_unseen

fixpoint_case_unseen : (x : FixpointCase) → Unseen (fixpoint_case x)
unfolding fixpoint_case
fixpoint_case_unseen x = unseen_then (at_unseen x.place) (unseen_then (ghost_word _) (unseen_then (case_pattern_unseen x.pattern) (unseen_then (ghost_mark _) (unseen_then (ghost_word _) (unseen_then (ghost_expr_unseen x.value) (ghost_mark _))))))

fixpoint_body_unseen : (x : FixpointBody) → Unseen (fixpoint_body x)
unfolding fixpoint_body
fixpoint_body_unseen (fixpoints.Value e) = unseen_then (ghost_word _) (unseen_then (ghost_expr_unseen e) (ghost_mark _))
fixpoint_body_unseen (fixpoints.Switch n cs) = unseen_then (ghost_word _) (unseen_then (ghost_mark _) (unseen_then (name_unseen n) (unseen_then (ghost_mark _) (unseen_then (ghost_mark _) (unseen_then (each_unseen fixpoint_case fixpoint_case_unseen cs) (ghost_mark _))))))

ghost_body_unseen : (x : GhostBody) → Unseen (ghost_body x)
unfolding ghost_body
ghost_body_unseen x = unseen_then (at_unseen x.place) (unseen_then (ghost_mark _) (unseen_then (commands_unseen (ghost_command_list x.commands)) (unseen_then (at_unseen x.last) (ghost_mark _))))

ghost_form_unseen : (x : GhostForm) → Unseen (ghost_form x)
unfolding ghost_form
ghost_form_unseen (forms.Inductive n ts bar cs) = unseen_then (ghost_word _) (unseen_then (name_unseen n) (unseen_then (type_parameters_unseen ts) (unseen_then (ghost_mark _) (unseen_then (leading_bar_unseen bar) (unseen_then (constructors_unseen cs) (ghost_mark _))))))
ghost_form_unseen (forms.Fixpoint s n ts ps b) = unseen_then (ghost_word _) (unseen_then (sort_unseen s) (unseen_then (name_unseen n) (unseen_then (type_parameters_unseen ts) (unseen_then (ghost_parameters_unseen ps) (unseen_then (ghost_mark _) (unseen_then (fixpoint_body_unseen b) (ghost_mark _)))))))
ghost_form_unseen (forms.Predicate n ps) = unseen_then (ghost_word _) (unseen_then (name_unseen n) (unseen_then (ghost_parameters_unseen ps) (ghost_mark _)))
ghost_form_unseen (forms.PredicateBody n ps a) = unseen_then (ghost_word _) (unseen_then (name_unseen n) (unseen_then (ghost_parameters_unseen ps) (unseen_then (ghost_mark _) (unseen_then (assertion_unseen (part_list a)) (ghost_mark _)))))
ghost_form_unseen (forms.Family n index ps) = unseen_then (ghost_word _) (unseen_then (name_unseen n) (unseen_then (ghost_mark _) (unseen_then (first_ghost_parameter_unseen index) (unseen_then (ghost_mark _) (unseen_then (ghost_parameters_unseen ps) (ghost_mark _))))))
ghost_form_unseen (forms.Instance n f ps a) = unseen_then (ghost_word _) (unseen_then (name_unseen n) (unseen_then (ghost_mark _) (unseen_then (name_unseen f) (unseen_then (ghost_mark _) (unseen_then (ghost_parameters_unseen ps) (unseen_then (ghost_mark _) (unseen_then (assertion_unseen (part_list a)) (ghost_mark _))))))))
ghost_form_unseen (forms.PredicateConstructor n first second a) = unseen_then (ghost_word _) (unseen_then (name_unseen n) (unseen_then (ghost_parameters_unseen first) (unseen_then (ghost_parameters_unseen second) (unseen_then (ghost_mark _) (unseen_then (assertion_unseen (part_list a)) (ghost_mark _))))))
ghost_form_unseen (forms.LemmaPrototype n ts ps c) = unseen_then (ghost_word _) (unseen_then (ghost_word _) (unseen_then (name_unseen n) (unseen_then (type_parameters_unseen ts) (unseen_then (ghost_parameters_unseen ps) (unseen_then (ghost_mark _) (contract_unseen c))))))
ghost_form_unseen (forms.Lemma n ts ps c b) = unseen_then (ghost_word _) (unseen_then (ghost_word _) (unseen_then (name_unseen n) (unseen_then (type_parameters_unseen ts) (unseen_then (ghost_parameters_unseen ps) (unseen_then (optional_unseen contract contract_unseen c) (ghost_body_unseen b))))))

pub ghost_item_unseen : (x : GhostItem) → Unseen (ghost_item x)
unfolding ghost_item
ghost_item_unseen x = unseen_then (at_unseen x.place) (ghost_form_unseen x.form)
