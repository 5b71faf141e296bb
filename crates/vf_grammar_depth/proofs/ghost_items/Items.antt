-- Ghost items go past what was too deep, where more may nest.
use Rattle.std.proofs.Common.{ℕ, false, List}
use Rattle.vf_base.specs.declared.place.Place.{Place}
use Rattle.vf_lexer.specs.declared.punctuator.Punctuator.TheVariants as punctuators
use Rattle.vf_syntax.specs.declared.keyword.Keyword.TheVariants as keywords
use Rattle.vf_syntax.specs.declared.side.Side.TheVariants.{Ghost}
use Rattle.vf_syntax.specs.declared.written.Name.{Name}
use Rattle.vf_syntax.specs.declared.item.GhostParameter.{GhostParameter}
use Rattle.vf_syntax.specs.declared.item.GhostItem.{GhostItem}
use Rattle.vf_syntax.specs.declared.item.GhostForm.{GhostForm}
use Rattle.vf_syntax.specs.declared.item.GhostForm.TheVariants as forms
use Rattle.vf_syntax.specs.Walks.{is_mark, is_word}
use Rattle.vf_parse_ghost.specs.declared.parameters.Heading.{Heading}
use Rattle.vf_parse_ghost.specs.Items.{definition_at, inductive_at, fixpoint_at, predicate_by, predicate_at, index_at, family_at, function_at, instance_at, predicate_constructor_at, lemma_by, lemma_at, predicates_at, form_at, item_at}
use Rattle.vf_grammar_depth.proofs.expressions.Deeper.{Deeper, then_deep, done_deep, here_deep, mark_deep, word_deep, name_deep, head_deep}
use Rattle.vf_grammar_depth.proofs.ghost_items.Inside.{Inside}
use Rattle.vf_grammar_depth.proofs.ghost_items.Clauses.{contract_deep, any_contract_deep}
use Rattle.vf_grammar_depth.proofs.ghost_items.Parts.{parameter_deep, parameters_deep, type_parameters_deep, heading_deep, constructors_deep, bar_deep, fixpoint_body_deep}

definition_deep : {j d m : ℕ} → Inside j d m → Deeper j (definition_at d) (definition_at m)
unfolding definition_at
definition_deep i = then_deep (mark_deep Ghost punctuators.Becomes) (λ b. then_deep i.assertions (λ a. then_deep (mark_deep Ghost punctuators.Semicolon) (λ z. done_deep a)))

inductive_deep : {j d m : ℕ} → Inside j d m → Deeper j (inductive_at d) (inductive_at m)
unfolding inductive_at
inductive_deep i =
    then_deep (word_deep Ghost keywords.Inductive) (λ w. then_deep (name_deep Ghost) (λ n. then_deep type_parameters_deep (λ xs. then_deep (mark_deep Ghost punctuators.Becomes) (λ k. then_deep bar_deep
    (λ b. then_deep (constructors_deep i) (λ cs. then_deep (mark_deep Ghost punctuators.Semicolon) (λ z. done_deep (forms.Inductive n xs b cs))))))))

fixpoint_deep : {j d m : ℕ} → Inside j d m → Deeper j (fixpoint_at d) (fixpoint_at m)
unfolding fixpoint_at
fixpoint_deep i =
    then_deep (word_deep Ghost keywords.Fixpoint) (λ w. then_deep i.sorts (λ s. then_deep (heading_deep i) (λ h. then_deep (mark_deep Ghost punctuators.OpenBrace) (λ o. then_deep (fixpoint_body_deep i)
    (λ b. then_deep (mark_deep Ghost punctuators.CloseBrace) (λ z. done_deep (forms.Fixpoint s h.name h.type_parameters h.parameters b)))))))

predicate_by_deep : {j d m : ℕ} → Inside j d m → (n : Name) (ps : List GhostParameter) → Deeper j (predicate_by d n ps) (predicate_by m n ps)
unfolding predicate_by
predicate_by_deep i n ps =
    head_deep (is_mark Ghost punctuators.Becomes) (then_deep (definition_deep i) (λ a. done_deep (forms.PredicateBody n ps a))) (then_deep (mark_deep Ghost punctuators.Semicolon) (λ z. done_deep (forms.Predicate n ps)))

predicate_deep : {j d m : ℕ} → Inside j d m → Deeper j (predicate_at d) (predicate_at m)
unfolding predicate_at
predicate_deep i = then_deep (word_deep Ghost keywords.Predicate) (λ w. then_deep (name_deep Ghost) (λ n. then_deep (parameters_deep i) (λ ps. predicate_by_deep i n ps)))

index_deep : {j d m : ℕ} → Inside j d m → Deeper j (index_at d) (index_at m)
unfolding index_at
index_deep i = then_deep (mark_deep Ghost punctuators.OpenParenthesis) (λ o. then_deep (parameter_deep false i) (λ x. then_deep (mark_deep Ghost punctuators.CloseParenthesis) (λ z. done_deep x)))

family_deep : {j d m : ℕ} → Inside j d m → Deeper j (family_at d) (family_at m)
unfolding family_at
family_deep i =
    then_deep (word_deep Ghost keywords.PredicateFamily) (λ w. then_deep (name_deep Ghost) (λ n. then_deep (index_deep i) (λ k. then_deep (parameters_deep i) (λ ps. then_deep (mark_deep Ghost punctuators.Semicolon) (λ z. done_deep (forms.Family n k ps))))))

function_deep : {j : ℕ} → Deeper j function_at function_at
unfolding function_at
function_deep = then_deep (mark_deep Ghost punctuators.OpenParenthesis) (λ o. then_deep (name_deep Ghost) (λ x. then_deep (mark_deep Ghost punctuators.CloseParenthesis) (λ z. done_deep x)))

instance_deep : {j d m : ℕ} → Inside j d m → Deeper j (instance_at d) (instance_at m)
unfolding instance_at
instance_deep i =
    then_deep (word_deep Ghost keywords.PredicateFamilyInstance) (λ w. then_deep (name_deep Ghost) (λ n. then_deep function_deep (λ f. then_deep (parameters_deep i) (λ ps. then_deep (definition_deep i) (λ a. done_deep (forms.Instance n f ps a))))))

predicate_constructor_deep : {j d m : ℕ} → Inside j d m → Deeper j (predicate_constructor_at d) (predicate_constructor_at m)
unfolding predicate_constructor_at
predicate_constructor_deep i =
    then_deep (word_deep Ghost keywords.PredicateCtor) (λ w. then_deep (name_deep Ghost) (λ n. then_deep (parameters_deep i) (λ ps. then_deep (parameters_deep i) (λ qs. then_deep (definition_deep i) (λ a. done_deep (forms.PredicateConstructor n ps qs a))))))

lemma_by_deep : {j d m : ℕ} → Inside j d m → (h : Heading) → Deeper j (lemma_by d h) (lemma_by m h)
unfolding lemma_by
lemma_by_deep i h =
    head_deep (is_mark Ghost punctuators.Semicolon) (then_deep (mark_deep Ghost punctuators.Semicolon) (λ s. then_deep (contract_deep i) (λ c. done_deep (forms.LemmaPrototype h.name h.type_parameters h.parameters c))))
    (then_deep (any_contract_deep i) (λ c. then_deep i.lemma_bodies (λ b. done_deep (forms.Lemma h.name h.type_parameters h.parameters c b))))

lemma_deep : {j d m : ℕ} → Inside j d m → Deeper j (lemma_at d) (lemma_at m)
unfolding lemma_at
lemma_deep i = then_deep (word_deep Ghost keywords.Lemma) (λ w. then_deep (word_deep Ghost keywords.Void) (λ v. then_deep (heading_deep i) (λ h. lemma_by_deep i h)))

predicates_deep : {j d m : ℕ} → Inside j d m → Deeper j (predicates_at d) (predicates_at m)
unfolding predicates_at
predicates_deep i =
    head_deep (is_word Ghost keywords.Predicate) (predicate_deep i) (head_deep (is_word Ghost keywords.PredicateFamily) (family_deep i) (head_deep (is_word Ghost keywords.PredicateFamilyInstance) (instance_deep i) (predicate_constructor_deep i)))

form_deep : {j d m : ℕ} → Inside j d m → Deeper j (form_at d) (form_at m)
unfolding form_at
form_deep i = head_deep (is_word Ghost keywords.Inductive) (inductive_deep i) (head_deep (is_word Ghost keywords.Fixpoint) (fixpoint_deep i) (head_deep (is_word Ghost keywords.Lemma) (lemma_deep i) (predicates_deep i)))

-- a form at a place
abbrev item_of : Place → GhostForm → GhostItem
item_of p f = record { place = p; form = f }

pub item_deep : {j d m : ℕ} → Inside j d m → Deeper j (item_at d) (item_at m)
unfolding item_at
item_deep i = then_deep here_deep (λ p. then_deep (form_deep i) (λ f. done_deep (item_of p f)))
