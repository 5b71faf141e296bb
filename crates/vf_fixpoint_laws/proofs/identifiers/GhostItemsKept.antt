-- What ghost items leave stood there before.
use Rattle.std.proofs.Common.{Bool, true, false, List, [], ◌∷◌}
use Rattle.std.specs.Prelude.{if◌then◌else◌}
use Rattle.vf_syntax.specs.declared.side.Side.TheVariants.{Ghost}
use Rattle.vf_syntax.specs.declared.written.Name.{Name}
use Rattle.vf_syntax.specs.declared.item.GhostParameter.{GhostParameter}
use Rattle.vf_syntax.specs.declared.item.Constructor.{Constructor}
use Rattle.vf_syntax.specs.declared.item.ConstructorArgument.{ConstructorArgument}
use Rattle.vf_syntax.specs.declared.item.FixpointBody.{FixpointBody}
use Rattle.vf_syntax.specs.declared.item.FixpointBody.TheVariants as fixpoints
use Rattle.vf_syntax.specs.declared.item.FixpointCase.{FixpointCase}
use Rattle.vf_syntax.specs.declared.item.GhostBody.{GhostBody}
use Rattle.vf_syntax.specs.declared.item.GhostItem.{GhostItem}
use Rattle.vf_syntax.specs.declared.item.GhostForm.{GhostForm}
use Rattle.vf_syntax.specs.declared.item.GhostForm.TheVariants as forms
use Rattle.vf_syntax.specs.AssertionTree.{part_list}
use Rattle.vf_syntax.specs.GhostCommandTree.{ghost_command_list}
use Rattle.vf_syntax.specs.Walks.{Walk, never}
use Rattle.vf_syntax.specs.Written.{name}
use Rattle.vf_syntax.specs.Statements.{contract}
use Rattle.vf_syntax.specs.Units.{ghost_parameter, more_ghost_parameters, first_ghost_parameter, ghost_parameters_inside, ghost_parameters, type_parameters, constructor_argument, constructor_arguments, constructor, other_constructor, constructors, leading_bar, fixpoint_case, fixpoint_body, ghost_body, ghost_form, ghost_item}
use Rattle.vf_fixpoint_laws.proofs.identifiers.Keeps.{Keeps, keep_then, nothing_keeps, never_keeps, at_keeps, mark_keeps, word_keeps, name_keeps, optional_keeps, each_keeps, behind_commas_keep, separated_keep}
use Rattle.vf_fixpoint_laws.proofs.identifiers.GhostKept.{sort_keeps, ghost_expr_keeps, case_pattern_keeps, assertion_keeps, commands_keeps, contract_keeps}

ghost_parameter_keeps : (x : GhostParameter) → Keeps (ghost_parameter x)
unfolding ghost_parameter
ghost_parameter_keeps x = keep_then (sort_keeps x.sort) (name_keeps _ x.name)

more_ghost_parameters_keeps : (xs : List GhostParameter) → Keeps (more_ghost_parameters xs)
more_ghost_parameters_keeps [] = nothing_keeps
more_ghost_parameters_keeps (x ∷ xs) = keep_then (mark_keeps _ _) (keep_then (ghost_parameter_keeps x) (more_ghost_parameters_keeps xs))

either_keeps : (b : Bool) (f : Walk) → Keeps f → Keeps (if b then never else f)
either_keeps true f h = never_keeps
either_keeps false f h = h

first_ghost_parameter_keeps : (x : GhostParameter) → Keeps (first_ghost_parameter x)
first_ghost_parameter_keeps x = either_keeps x.after_semicolon (ghost_parameter x) (ghost_parameter_keeps x)

ghost_parameters_inside_keeps : (xs : List GhostParameter) → Keeps (ghost_parameters_inside xs)
ghost_parameters_inside_keeps [] = nothing_keeps
ghost_parameters_inside_keeps (x ∷ xs) = keep_then (first_ghost_parameter_keeps x) (more_ghost_parameters_keeps xs)

ghost_parameters_keeps : (xs : List GhostParameter) → Keeps (ghost_parameters xs)
unfolding ghost_parameters
ghost_parameters_keeps xs = keep_then (mark_keeps _ _) (keep_then (ghost_parameters_inside_keeps xs) (mark_keeps _ _))

pub type_parameters_keeps : (xs : List Name) → Keeps (type_parameters xs)
unfolding type_parameters
type_parameters_keeps [] = nothing_keeps
type_parameters_keeps (x ∷ xs) = keep_then (mark_keeps _ _) (keep_then (name_keeps _ x) (keep_then (behind_commas_keep _ (name Ghost) (λ n. name_keeps _ n) xs) (mark_keeps _ _)))

constructor_argument_keeps : (x : ConstructorArgument) → Keeps (constructor_argument x)
unfolding constructor_argument
constructor_argument_keeps x = keep_then (sort_keeps x.sort) (optional_keeps (name Ghost) (λ n. name_keeps _ n) x.name)

constructor_arguments_keeps : (xs : List ConstructorArgument) → Keeps (constructor_arguments xs)
unfolding constructor_arguments
constructor_arguments_keeps xs = keep_then (mark_keeps _ _) (keep_then (separated_keep _ constructor_argument constructor_argument_keeps xs) (mark_keeps _ _))

pub constructor_keeps : (x : Constructor) → Keeps (constructor x)
unfolding constructor
constructor_keeps x = keep_then (name_keeps _ x.name) (optional_keeps constructor_arguments constructor_arguments_keeps x.arguments)

pub other_constructor_keeps : (x : Constructor) → Keeps (other_constructor x)
unfolding other_constructor
other_constructor_keeps x = keep_then (mark_keeps _ _) (constructor_keeps x)

constructors_keeps : (xs : List Constructor) → Keeps (constructors xs)
unfolding constructors
constructors_keeps [] = never_keeps
constructors_keeps (x ∷ xs) = keep_then (constructor_keeps x) (each_keeps other_constructor other_constructor_keeps xs)

pub leading_bar_keeps : (b : Bool) → Keeps (leading_bar b)
leading_bar_keeps true = mark_keeps _ _
leading_bar_keeps false = nothing_keeps

fixpoint_case_keeps : (x : FixpointCase) → Keeps (fixpoint_case x)
unfolding fixpoint_case
fixpoint_case_keeps x = keep_then (at_keeps x.place) (keep_then (word_keeps _ _) (keep_then (case_pattern_keeps x.pattern) (keep_then (mark_keeps _ _) (keep_then (word_keeps _ _) (keep_then (ghost_expr_keeps x.value) (mark_keeps _ _))))))

fixpoint_body_keeps : (x : FixpointBody) → Keeps (fixpoint_body x)
unfolding fixpoint_body
fixpoint_body_keeps (fixpoints.Value e) = keep_then (word_keeps _ _) (keep_then (ghost_expr_keeps e) (mark_keeps _ _))
fixpoint_body_keeps (fixpoints.Switch n cs) = keep_then (word_keeps _ _) (keep_then (mark_keeps _ _) (keep_then (name_keeps _ n) (keep_then (mark_keeps _ _) (keep_then (mark_keeps _ _) (keep_then (each_keeps fixpoint_case fixpoint_case_keeps cs) (mark_keeps _ _))))))

ghost_body_keeps : (x : GhostBody) → Keeps (ghost_body x)
unfolding ghost_body
ghost_body_keeps x = keep_then (at_keeps x.place) (keep_then (mark_keeps _ _) (keep_then (commands_keeps (ghost_command_list x.commands)) (keep_then (at_keeps x.last) (mark_keeps _ _))))

ghost_form_keeps : (x : GhostForm) → Keeps (ghost_form x)
unfolding ghost_form
ghost_form_keeps (forms.Inductive n ts bar cs) = keep_then (word_keeps _ _) (keep_then (name_keeps _ n) (keep_then (type_parameters_keeps ts) (keep_then (mark_keeps _ _) (keep_then (leading_bar_keeps bar) (keep_then (constructors_keeps cs) (mark_keeps _ _))))))
ghost_form_keeps (forms.Fixpoint s n ts ps b) = keep_then (word_keeps _ _) (keep_then (sort_keeps s) (keep_then (name_keeps _ n) (keep_then (type_parameters_keeps ts) (keep_then (ghost_parameters_keeps ps) (keep_then (mark_keeps _ _) (keep_then (fixpoint_body_keeps b) (mark_keeps _ _)))))))
ghost_form_keeps (forms.Predicate n ps) = keep_then (word_keeps _ _) (keep_then (name_keeps _ n) (keep_then (ghost_parameters_keeps ps) (mark_keeps _ _)))
ghost_form_keeps (forms.PredicateBody n ps a) = keep_then (word_keeps _ _) (keep_then (name_keeps _ n) (keep_then (ghost_parameters_keeps ps) (keep_then (mark_keeps _ _) (keep_then (assertion_keeps (part_list a)) (mark_keeps _ _)))))
ghost_form_keeps (forms.Family n index ps) = keep_then (word_keeps _ _) (keep_then (name_keeps _ n) (keep_then (mark_keeps _ _) (keep_then (first_ghost_parameter_keeps index) (keep_then (mark_keeps _ _) (keep_then (ghost_parameters_keeps ps) (mark_keeps _ _))))))
ghost_form_keeps (forms.Instance n f ps a) = keep_then (word_keeps _ _) (keep_then (name_keeps _ n) (keep_then (mark_keeps _ _) (keep_then (name_keeps _ f) (keep_then (mark_keeps _ _) (keep_then (ghost_parameters_keeps ps) (keep_then (mark_keeps _ _) (keep_then (assertion_keeps (part_list a)) (mark_keeps _ _))))))))
ghost_form_keeps (forms.PredicateConstructor n first second a) = keep_then (word_keeps _ _) (keep_then (name_keeps _ n) (keep_then (ghost_parameters_keeps first) (keep_then (ghost_parameters_keeps second) (keep_then (mark_keeps _ _) (keep_then (assertion_keeps (part_list a)) (mark_keeps _ _))))))
ghost_form_keeps (forms.LemmaPrototype n ts ps c) = keep_then (word_keeps _ _) (keep_then (word_keeps _ _) (keep_then (name_keeps _ n) (keep_then (type_parameters_keeps ts) (keep_then (ghost_parameters_keeps ps) (keep_then (mark_keeps _ _) (contract_keeps c))))))
ghost_form_keeps (forms.Lemma n ts ps c b) = keep_then (word_keeps _ _) (keep_then (word_keeps _ _) (keep_then (name_keeps _ n) (keep_then (type_parameters_keeps ts) (keep_then (ghost_parameters_keeps ps) (keep_then (optional_keeps contract contract_keeps c) (ghost_body_keeps b))))))

pub ghost_item_keeps : (x : GhostItem) → Keeps (ghost_item x)
unfolding ghost_item
ghost_item_keeps x = keep_then (at_keeps x.place) (ghost_form_keeps x.form)
