-- Parsers of ghost items that nest at most d deep.
use Rattle.std.specs.Prelude.{ℕ, Bool, true, false, List, if◌then◌else◌}
use Rattle.vf_lexer.specs.declared.punctuator.Punctuator.TheVariants as punctuators
use Rattle.vf_syntax.specs.declared.keyword.Keyword.TheVariants as keywords
use Rattle.vf_syntax.specs.declared.side.Side.TheVariants.{Ghost}
use Rattle.vf_syntax.specs.declared.item.GhostItem.{GhostItem}
use Rattle.vf_syntax.specs.declared.item.GhostForm.{GhostForm}
use Rattle.vf_syntax.specs.declared.item.GhostForm.TheVariants as forms
use Rattle.vf_syntax.specs.declared.item.GhostParameter.{GhostParameter}
use Rattle.vf_syntax.specs.declared.written.Name.{Name}
use Rattle.vf_syntax.specs.SortTree.{SortTree}
use Rattle.vf_syntax.specs.AssertionTree.{PartTree}
use Rattle.vf_syntax.specs.Walks.{head_has, is_mark, is_word}
use Rattle.vf_cursor.specs.Parsing.{Parser, ok, ◌>>=◌, here_at, mark_at, word_at, name_at}
use Rattle.vf_parse_term.specs.Sorts.{sort_at}
use Rattle.vf_parse_assertion.specs.Parsers.{assertion_at}
use Rattle.vf_parse_command.specs.Commands.{body_at}
use Rattle.vf_parse_ghost.specs.declared.parameters.Heading.{Heading}
use Rattle.vf_parse_ghost.specs.Clauses.{contract_at, any_contract_at}
use Rattle.vf_parse_ghost.specs.Parameters.{parameter_at, parameters_at, type_parameters_at, head_at}
use Rattle.vf_parse_ghost.specs.Constructors.{constructors_at, bar_at}
use Rattle.vf_parse_ghost.specs.Fixpoints.{fixpoint_body_at}

-- "=" assertion ";"
unfoldable pub definition_at : ℕ → Parser (List PartTree)
definition_at d ts = mark_at Ghost punctuators.Becomes ts >>= λ m. assertion_at d m.1 >>= λ a. mark_at Ghost punctuators.Semicolon a.1 >>= λ z. ok a.0 z.1

-- "inductive" NAME [type parameters] "=" ["|"] constructors ";"
unfoldable pub inductive_at : ℕ → Parser GhostForm
inductive_at d ts = word_at Ghost keywords.Inductive ts >>= λ w. name_at Ghost w.1 >>= λ n. type_parameters_at n.1 >>= λ xs. mark_at Ghost punctuators.Becomes xs.1 >>= λ m. bar_at m.1 >>= λ b. constructors_at d b.1
    >>= λ cs. mark_at Ghost punctuators.Semicolon cs.1 >>= λ z. ok (forms.Inductive n.0 xs.0 b.0 cs.0) z.1

-- a fixpoint behind its parameters: "{" body "}"
unfoldable pub fixpoint_by : ℕ → SortTree → Heading → Parser GhostForm
fixpoint_by d s h ts = mark_at Ghost punctuators.OpenBrace ts >>= λ o. fixpoint_body_at d o.1
    >>= λ b. mark_at Ghost punctuators.CloseBrace b.1 >>= λ z. ok (forms.Fixpoint s h.name h.type_parameters h.parameters b.0) z.1

-- "fixpoint" sort NAME [type parameters] parameters "{" body "}"
unfoldable pub fixpoint_at : ℕ → Parser GhostForm
fixpoint_at d ts = word_at Ghost keywords.Fixpoint ts >>= λ w. sort_at d w.1 >>= λ s. head_at d s.1 >>= λ h. mark_at Ghost punctuators.OpenBrace h.1 >>= λ o. fixpoint_body_at d o.1
    >>= λ b. mark_at Ghost punctuators.CloseBrace b.1 >>= λ z. ok (forms.Fixpoint s.0 h.0.name h.0.type_parameters h.0.parameters b.0) z.1

-- a predicate behind its parameters: "=" assertion ";" or ";"
unfoldable pub predicate_by : ℕ → Name → List GhostParameter → Parser GhostForm
predicate_by d n ps ts = if head_has (is_mark Ghost punctuators.Becomes) ts then (definition_at d ts >>= λ a. ok (forms.PredicateBody n ps a.0) a.1) else (mark_at Ghost punctuators.Semicolon ts >>= λ z. ok (forms.Predicate n ps) z.1)

-- "predicate" NAME parameters ["=" assertion] ";"
unfoldable pub predicate_at : ℕ → Parser GhostForm
predicate_at d ts = word_at Ghost keywords.Predicate ts >>= λ w. name_at Ghost w.1 >>= λ n. parameters_at d n.1 >>= λ ps. predicate_by d n.0 ps.0 ps.1

-- "(" sort NAME ")"
unfoldable pub index_at : ℕ → Parser GhostParameter
index_at d ts = mark_at Ghost punctuators.OpenParenthesis ts >>= λ o. parameter_at false d o.1 >>= λ x. mark_at Ghost punctuators.CloseParenthesis x.1 >>= λ z. ok x.0 z.1

-- "predicate_family" NAME index parameters ";"
unfoldable pub family_at : ℕ → Parser GhostForm
family_at d ts = word_at Ghost keywords.PredicateFamily ts >>= λ w. name_at Ghost w.1 >>= λ n. index_at d n.1 >>= λ i. parameters_at d i.1 >>= λ ps. mark_at Ghost punctuators.Semicolon ps.1 >>= λ z. ok (forms.Family n.0 i.0 ps.0) z.1

-- "(" NAME ")"
unfoldable pub function_at : Parser Name
function_at ts = mark_at Ghost punctuators.OpenParenthesis ts >>= λ o. name_at Ghost o.1 >>= λ x. mark_at Ghost punctuators.CloseParenthesis x.1 >>= λ z. ok x.0 z.1

-- "predicate_family_instance" NAME "(" NAME ")" parameters "=" assertion ";"
unfoldable pub instance_at : ℕ → Parser GhostForm
instance_at d ts = word_at Ghost keywords.PredicateFamilyInstance ts >>= λ w. name_at Ghost w.1 >>= λ n. function_at n.1 >>= λ f. parameters_at d f.1 >>= λ ps. definition_at d ps.1 >>= λ a. ok (forms.Instance n.0 f.0 ps.0 a.0) a.1

-- "predicate_ctor" NAME parameters parameters "=" assertion ";"
unfoldable pub predicate_constructor_at : ℕ → Parser GhostForm
predicate_constructor_at d ts = word_at Ghost keywords.PredicateCtor ts >>= λ w. name_at Ghost w.1 >>= λ n. parameters_at d n.1 >>= λ ps. parameters_at d ps.1 >>= λ qs. definition_at d qs.1 >>= λ a. ok (forms.PredicateConstructor n.0 ps.0 qs.0 a.0) a.1

-- a lemma behind its parameters: ";" contract or [contract] body
unfoldable pub lemma_by : ℕ → Heading → Parser GhostForm
lemma_by d h ts = if head_has (is_mark Ghost punctuators.Semicolon) ts then (mark_at Ghost punctuators.Semicolon ts >>= λ m. contract_at d m.1 >>= λ c. ok (forms.LemmaPrototype h.name h.type_parameters h.parameters c.0) c.1)
    else (any_contract_at d ts >>= λ c. body_at d c.1 >>= λ b. ok (forms.Lemma h.name h.type_parameters h.parameters c.0 b.0) b.1)

-- "lemma" "void" NAME [type parameters] parameters and what stands behind them
unfoldable pub lemma_at : ℕ → Parser GhostForm
lemma_at d ts = word_at Ghost keywords.Lemma ts >>= λ w. word_at Ghost keywords.Void w.1 >>= λ v. head_at d v.1 >>= λ h. lemma_by d h.0 h.1

-- a ghost item that begins with a word for predicates
unfoldable pub predicates_at : ℕ → Parser GhostForm
predicates_at d ts = if head_has (is_word Ghost keywords.Predicate) ts then predicate_at d ts else (if head_has (is_word Ghost keywords.PredicateFamily) ts then family_at d ts
    else (if head_has (is_word Ghost keywords.PredicateFamilyInstance) ts then instance_at d ts else predicate_constructor_at d ts))

-- a ghost item, behind its place
unfoldable pub form_at : ℕ → Parser GhostForm
form_at d ts = if head_has (is_word Ghost keywords.Inductive) ts then inductive_at d ts else (if head_has (is_word Ghost keywords.Fixpoint) ts then fixpoint_at d ts
    else (if head_has (is_word Ghost keywords.Lemma) ts then lemma_at d ts else predicates_at d ts))

-- a ghost item
unfoldable pub item_at : ℕ → Parser GhostItem
item_at d ts = here_at ts >>= λ p. form_at d p.1 >>= λ f. ok (record { place = p.0; form = f.0 }) f.1
