-- Ghost items stop alike on tokens that are alike, also where more may nest.
use Rattle.std.proofs.Common.{ℕ, ◌≤◌, Bool, false, List}
use Rattle.vf_base.specs.declared.place.Place.{Place}
use Rattle.vf_lexer.specs.declared.punctuator.Punctuator.TheVariants as punctuators
use Rattle.vf_syntax.specs.declared.keyword.Keyword.TheVariants as keywords
use Rattle.vf_syntax.specs.declared.side.Side.TheVariants.{Ghost}
use Rattle.vf_syntax.specs.declared.written.Name.{Name}
use Rattle.vf_syntax.specs.declared.item.GhostParameter.{GhostParameter}
use Rattle.vf_syntax.specs.declared.item.GhostItem.{GhostItem}
use Rattle.vf_syntax.specs.declared.item.GhostForm.{GhostForm}
use Rattle.vf_syntax.specs.declared.item.GhostForm.TheVariants as forms
use Rattle.vf_syntax.specs.Walks.{is_mark, is_word}
use Rattle.vf_parse_ghost.specs.declared.parameters.Heading.{Heading}
use Rattle.vf_parse_ghost.specs.Items.{definition_at, inductive_at, fixpoint_at, predicate_by, predicate_at, index_at, family_at, function_at, instance_at, predicate_constructor_at, lemma_by, lemma_at, predicates_at, form_at, item_at}
use Rattle.vf_grammar_stops.proofs.types.Local.{Does, then_like, done_like, here_like, mark_like, word_like, name_like, choice_like}
use Rattle.vf_grammar_stops.proofs.terms.SortsAlike.{sort_like}
use Rattle.vf_grammar_stops.proofs.assertions.AssertionsAlike.{assertion_like}
use Rattle.vf_grammar_stops.proofs.commands.CommandsAlike.{body_like}
use Rattle.vf_grammar_stops.proofs.ghost_items.ClausesAlike.{contract_like, any_contract_like}
use Rattle.vf_grammar_stops.proofs.ghost_items.PartsAlike.{parameter_like, parameters_like, type_parameters_like, head_like, constructors_like, bar_like, fixpoint_body_like}

definition_like : (d m : ℕ) → d ≤ m → Does false (definition_at d) (definition_at m)
unfolding definition_at
definition_like d m le = then_like (mark_like Ghost punctuators.Becomes) (λ b. then_like (assertion_like d m le) (λ a. then_like (mark_like Ghost punctuators.Semicolon) (λ z. done_like a)))

inductive_like : (d m : ℕ) → d ≤ m → Does false (inductive_at d) (inductive_at m)
unfolding inductive_at
inductive_like d m le =
    then_like (word_like Ghost keywords.Inductive) (λ w. then_like (name_like Ghost) (λ n. then_like type_parameters_like (λ xs. then_like (mark_like Ghost punctuators.Becomes) (λ k. then_like bar_like
    (λ b. then_like (constructors_like d m le) (λ cs. then_like (mark_like Ghost punctuators.Semicolon) (λ z. done_like (forms.Inductive n xs b cs))))))))

fixpoint_like : (d m : ℕ) → d ≤ m → Does false (fixpoint_at d) (fixpoint_at m)
unfolding fixpoint_at
fixpoint_like d m le =
    then_like (word_like Ghost keywords.Fixpoint) (λ w. then_like (sort_like d m le) (λ s. then_like (head_like d m le) (λ h. then_like (mark_like Ghost punctuators.OpenBrace) (λ o. then_like (fixpoint_body_like d m le)
    (λ b. then_like (mark_like Ghost punctuators.CloseBrace) (λ z. done_like (forms.Fixpoint s h.name h.type_parameters h.parameters b)))))))

predicate_by_like : (d m : ℕ) → d ≤ m → (n : Name) (ps : List GhostParameter) → Does false (predicate_by d n ps) (predicate_by m n ps)
unfolding predicate_by
predicate_by_like d m le n ps =
    choice_like (is_mark Ghost punctuators.Becomes) (then_like (definition_like d m le) (λ a. done_like (forms.PredicateBody n ps a))) (then_like (mark_like Ghost punctuators.Semicolon) (λ z. done_like (forms.Predicate n ps)))

predicate_like : (d m : ℕ) → d ≤ m → Does false (predicate_at d) (predicate_at m)
unfolding predicate_at
predicate_like d m le = then_like (word_like Ghost keywords.Predicate) (λ w. then_like (name_like Ghost) (λ n. then_like (parameters_like d m le) (λ ps. predicate_by_like d m le n ps)))

index_like : (d m : ℕ) → d ≤ m → Does false (index_at d) (index_at m)
unfolding index_at
index_like d m le = then_like (mark_like Ghost punctuators.OpenParenthesis) (λ o. then_like (parameter_like false d m le) (λ x. then_like (mark_like Ghost punctuators.CloseParenthesis) (λ z. done_like x)))

family_like : (d m : ℕ) → d ≤ m → Does false (family_at d) (family_at m)
unfolding family_at
family_like d m le =
    then_like (word_like Ghost keywords.PredicateFamily) (λ w. then_like (name_like Ghost) (λ n. then_like (index_like d m le) (λ i. then_like (parameters_like d m le) (λ ps. then_like (mark_like Ghost punctuators.Semicolon) (λ z. done_like (forms.Family n i ps))))))

function_like : {b : Bool} → Does b function_at function_at
unfolding function_at
function_like = then_like (mark_like Ghost punctuators.OpenParenthesis) (λ o. then_like (name_like Ghost) (λ x. then_like (mark_like Ghost punctuators.CloseParenthesis) (λ z. done_like x)))

instance_like : (d m : ℕ) → d ≤ m → Does false (instance_at d) (instance_at m)
unfolding instance_at
instance_like d m le =
    then_like (word_like Ghost keywords.PredicateFamilyInstance) (λ w. then_like (name_like Ghost) (λ n. then_like function_like (λ f. then_like (parameters_like d m le) (λ ps. then_like (definition_like d m le) (λ a. done_like (forms.Instance n f ps a))))))

predicate_constructor_like : (d m : ℕ) → d ≤ m → Does false (predicate_constructor_at d) (predicate_constructor_at m)
unfolding predicate_constructor_at
predicate_constructor_like d m le =
    then_like (word_like Ghost keywords.PredicateCtor) (λ w. then_like (name_like Ghost) (λ n. then_like (parameters_like d m le) (λ ps. then_like (parameters_like d m le) (λ qs. then_like (definition_like d m le) (λ a. done_like (forms.PredicateConstructor n ps qs a))))))

lemma_by_like : (d m : ℕ) → d ≤ m → (h : Heading) → Does false (lemma_by d h) (lemma_by m h)
unfolding lemma_by
lemma_by_like d m le h =
    choice_like (is_mark Ghost punctuators.Semicolon) (then_like (mark_like Ghost punctuators.Semicolon) (λ s. then_like (contract_like d m le) (λ c. done_like (forms.LemmaPrototype h.name h.type_parameters h.parameters c))))
    (then_like (any_contract_like d m le) (λ c. then_like (body_like d m le) (λ b. done_like (forms.Lemma h.name h.type_parameters h.parameters c b))))

lemma_like : (d m : ℕ) → d ≤ m → Does false (lemma_at d) (lemma_at m)
unfolding lemma_at
lemma_like d m le = then_like (word_like Ghost keywords.Lemma) (λ w. then_like (word_like Ghost keywords.Void) (λ v. then_like (head_like d m le) (λ h. lemma_by_like d m le h)))

predicates_like : (d m : ℕ) → d ≤ m → Does false (predicates_at d) (predicates_at m)
unfolding predicates_at
predicates_like d m le =
    choice_like (is_word Ghost keywords.Predicate) (predicate_like d m le) (choice_like (is_word Ghost keywords.PredicateFamily) (family_like d m le)
    (choice_like (is_word Ghost keywords.PredicateFamilyInstance) (instance_like d m le) (predicate_constructor_like d m le)))

form_like : (d m : ℕ) → d ≤ m → Does false (form_at d) (form_at m)
unfolding form_at
form_like d m le =
    choice_like (is_word Ghost keywords.Inductive) (inductive_like d m le) (choice_like (is_word Ghost keywords.Fixpoint) (fixpoint_like d m le) (choice_like (is_word Ghost keywords.Lemma) (lemma_like d m le) (predicates_like d m le)))

-- a form at a place
abbrev item_of : Place → GhostForm → GhostItem
item_of p f = record { place = p; form = f }

pub item_like : (d m : ℕ) → d ≤ m → Does false (item_at d) (item_at m)
unfolding item_at
item_like d m le = then_like here_like (λ p. then_like (form_like d m le) (λ f. done_like (item_of p f)))
