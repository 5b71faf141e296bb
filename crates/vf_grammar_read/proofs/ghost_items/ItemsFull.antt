-- Ghost items that are spelled are read.
use Rattle.std.proofs.Common.{◌≡◌, ℕ, ◌+◌, ◌≤◌, Bool, false, List, Option, Some, None, refl, sym, subst, ◌∙◌, arith}
use Rattle.vf_lexer.specs.declared.punctuator.Punctuator.TheVariants as punctuators
use Rattle.vf_lexer.specs.declared.token.Token.{Token}
use Rattle.vf_syntax.specs.declared.keyword.Keyword.TheVariants as keywords
use Rattle.vf_syntax.specs.declared.side.Side.TheVariants.{Ghost}
use Rattle.vf_syntax.specs.declared.written.Name.{Name}
use Rattle.vf_syntax.specs.declared.contract.Contract.{Contract}
use Rattle.vf_syntax.specs.declared.item.Constructor.{Constructor}
use Rattle.vf_syntax.specs.declared.item.FixpointBody.{FixpointBody}
use Rattle.vf_syntax.specs.declared.item.GhostBody.{GhostBody}
use Rattle.vf_syntax.specs.declared.item.GhostForm.{GhostForm}
use Rattle.vf_syntax.specs.declared.item.GhostForm.TheVariants as forms
use Rattle.vf_syntax.specs.declared.item.GhostItem.{GhostItem}
use Rattle.vf_syntax.specs.declared.item.GhostParameter.{GhostParameter}
use Rattle.vf_syntax.specs.SortTree.{SortTree}
use Rattle.vf_syntax.specs.AssertionTree.{PartTree, part_list}
use Rattle.vf_syntax.specs.Walks.{◌⨾◌, at, mark, word, head_has, is_mark}
use Rattle.vf_syntax.specs.Written.{name}
use Rattle.vf_syntax.specs.Lists.{optional}
use Rattle.vf_syntax.specs.GhostExpressions.{sort, sort_nesting}
use Rattle.vf_syntax.specs.Assertions.{assertion, parts_nesting}
use Rattle.vf_syntax.specs.Statements.{contract}
use Rattle.vf_syntax.specs.Units.{first_ghost_parameter, ghost_parameters, type_parameters, leading_bar, constructors, fixpoint_body, ghost_body, ghost_form, ghost_item, ghost_form_nesting}
use Rattle.vf_cursor.specs.Parsing.{ok}
use Rattle.vf_cursor.proofs.Facts.{ok_pair}
use Rattle.vf_parse_ghost.specs.Items.{definition_at, inductive_at, fixpoint_at, predicate_by, predicate_at, index_at, family_at, function_at, instance_at, predicate_constructor_at, lemma_by, lemma_at, predicates_at, form_at, item_at}
use Rattle.vf_parse_ghost.specs.Laws.{item_depth}
use Rattle.vf_grammar_read.proofs.expressions.Same.{some_same}
use Rattle.vf_grammar_read.proofs.expressions.Fronts.{a_mark, Front, gone, mark_front, word_front}
use Rattle.vf_grammar_read.proofs.expressions.Taken.{here_read, mark_read, word_read, name_read}
use Rattle.vf_grammar_read.proofs.terms.Begins.{behind}
use Rattle.vf_grammar_read.proofs.assertions.Ends.{semicolon_ends}
use Rattle.vf_grammar_read.proofs.assertions.AssertionsFull.{assertion_full}
use Rattle.vf_grammar_read.proofs.commands.CommandsFull.{body_full}
use Rattle.vf_grammar_read.proofs.ghost_items.Clauses.{contract_full, contract_front, any_contract_full}
use Rattle.vf_grammar_read.proofs.ghost_items.Parameters.{sort_then_name, parameters_full, types_full, index_full, head_full}
use Rattle.vf_grammar_read.proofs.ghost_items.Constructors.{constructors_full, bar_full}
use Rattle.vf_grammar_read.proofs.ghost_items.Fixpoints.{fixpoint_full}

-- "=" assertion ";"
definition_full : (d : ℕ) (a : List PartTree) (ts rest : List Token) → (mark Ghost punctuators.Becomes ⨾ assertion (part_list a) ⨾ mark Ghost punctuators.Semicolon) ts ≡ Some rest → parts_nesting (part_list a) + 1 ≤ d → definition_at d ts ≡ ok a rest
unfolding definition_at
definition_full d a ts rest h deep =
    let m = gone (mark Ghost punctuators.Becomes ts) h in
    let b = gone (assertion (part_list a) m.0) m.2 in
    rw ((mark_read Ghost _ ts m.0 m.1).1, assertion_full d a m.0 b.0 b.1 deep (semicolon_ends b.0 rest b.2), (mark_read Ghost _ b.0 rest b.2).1) refl

inductive_parts : (d : ℕ) (n : Name) (xs : List Name) (bar : Bool) (cs : List Constructor) (ts after_word after_name after_types after_mark after_bar after_constructors rest : List Token) → word Ghost keywords.Inductive ts ≡ Some after_word → name Ghost n after_word ≡ Some after_name → type_parameters xs after_name ≡ Some after_types → mark Ghost punctuators.Becomes after_types ≡ Some after_mark → leading_bar bar after_mark ≡ Some after_bar → constructors cs after_bar ≡ Some after_constructors → mark Ghost punctuators.Semicolon after_constructors ≡ Some rest
    → ghost_form_nesting (forms.Inductive n xs bar cs) ≤ d → form_at d ts ≡ ok (forms.Inductive n xs bar cs) rest
unfolding ghost_form form_at inductive_at
inductive_parts d n xs bar cs ts after_word after_name after_types after_mark after_bar after_constructors rest has_word has_name has_types has_mark has_bar has_constructors has_rest deep =
    let f = word_front Ghost keywords.Inductive ts after_word has_word in
    let equals = mark_front Ghost punctuators.Becomes after_types after_mark has_mark in
    rw (f.words_are keywords.Inductive, (word_read Ghost _ ts after_word has_word).1, name_read Ghost n after_word after_name has_name, types_full xs after_name after_types has_types (equals.marks_are punctuators.Less), (mark_read Ghost _ after_types after_mark has_mark).1, bar_full bar cs after_mark after_bar after_constructors has_bar has_constructors, constructors_full d cs after_bar after_constructors has_constructors deep (mark_front Ghost punctuators.Semicolon after_constructors rest has_rest), (mark_read Ghost _ after_constructors rest has_rest).1) refl

inductive_full : (d : ℕ) (n : Name) (xs : List Name) (bar : Bool) (cs : List Constructor) (ts rest : List Token) → ghost_form (forms.Inductive n xs bar cs) ts ≡ Some rest → ghost_form_nesting (forms.Inductive n xs bar cs) ≤ d → form_at d ts ≡ ok (forms.Inductive n xs bar cs) rest
unfolding ghost_form
inductive_full d n xs bar cs ts rest h deep =
    let w = gone (word Ghost keywords.Inductive ts) h in
    let x = gone (name Ghost n w.0) w.2 in
    let t = gone (type_parameters xs x.0) x.2 in
    let m = gone (mark Ghost punctuators.Becomes t.0) t.2 in
    let b = gone (leading_bar bar m.0) m.2 in
    let c = gone (constructors cs b.0) b.2 in
    inductive_parts d n xs bar cs ts w.0 x.0 t.0 m.0 b.0 c.0 rest w.1 x.1 t.1 m.1 b.1 c.1 c.2 deep

fixpoint_parts : (d : ℕ) (s : SortTree) (n : Name) (xs : List Name) (ps : List GhostParameter) (b : FixpointBody) (ts after_word after_sort after_name after_types after_parameters after_opening after_inside rest : List Token) → word Ghost keywords.Fixpoint ts ≡ Some after_word → sort s after_word ≡ Some after_sort → name Ghost n after_sort ≡ Some after_name → type_parameters xs after_name ≡ Some after_types → ghost_parameters ps after_types ≡ Some after_parameters → mark Ghost punctuators.OpenBrace after_parameters ≡ Some after_opening → fixpoint_body b after_opening ≡ Some after_inside → mark Ghost punctuators.CloseBrace after_inside ≡ Some rest
    → ghost_form_nesting (forms.Fixpoint s n xs ps b) ≤ d → form_at d ts ≡ ok (forms.Fixpoint s n xs ps b) rest
unfolding ghost_form form_at fixpoint_at
fixpoint_parts d s n xs ps b ts after_word after_sort after_name after_types after_parameters after_opening after_inside rest has_word has_sort has_name has_types has_parameters has_opening has_inside has_rest deep =
    let f = word_front Ghost keywords.Fixpoint ts after_word has_word in
    rw (f.words_are keywords.Inductive, f.words_are keywords.Fixpoint, (word_read Ghost _ ts after_word has_word).1, sort_then_name d s n after_word after_sort after_name has_sort has_name (omega (arith, deep)), head_full d n xs ps after_sort after_name after_types after_parameters has_name has_types has_parameters (omega (arith, deep)), (mark_read Ghost _ after_parameters after_opening has_opening).1, fixpoint_full d b after_opening after_inside has_inside (omega (arith, deep)), (mark_read Ghost _ after_inside rest has_rest).1) refl

fixpoint_item : (d : ℕ) (s : SortTree) (n : Name) (xs : List Name) (ps : List GhostParameter) (b : FixpointBody) (ts rest : List Token) → ghost_form (forms.Fixpoint s n xs ps b) ts ≡ Some rest → ghost_form_nesting (forms.Fixpoint s n xs ps b) ≤ d → form_at d ts ≡ ok (forms.Fixpoint s n xs ps b) rest
unfolding ghost_form
fixpoint_item d s n xs ps b ts rest h deep =
    let w = gone (word Ghost keywords.Fixpoint ts) h in
    let g = gone (sort s w.0) w.2 in
    let x = gone (name Ghost n g.0) g.2 in
    let t = gone (type_parameters xs x.0) x.2 in
    let q = gone (ghost_parameters ps t.0) t.2 in
    let o = gone (mark Ghost punctuators.OpenBrace q.0) q.2 in
    let k = gone (fixpoint_body b o.0) o.2 in
    fixpoint_parts d s n xs ps b ts w.0 g.0 x.0 t.0 q.0 o.0 k.0 rest w.1 g.1 x.1 t.1 q.1 o.1 k.1 k.2 deep

predicate_full : (d : ℕ) (n : Name) (ps : List GhostParameter) (ts rest : List Token) → ghost_form (forms.Predicate n ps) ts ≡ Some rest → ghost_form_nesting (forms.Predicate n ps) ≤ d → form_at d ts ≡ ok (forms.Predicate n ps) rest
unfolding ghost_form form_at predicates_at predicate_at predicate_by
predicate_full d n ps ts rest h deep =
    let w = gone (word Ghost keywords.Predicate ts) h in
    let x = gone (name Ghost n w.0) w.2 in
    let q = gone (ghost_parameters ps x.0) x.2 in
    let f = word_front Ghost keywords.Predicate ts w.0 w.1 in
    let ends = mark_front Ghost punctuators.Semicolon q.0 rest q.2 in
    rw (f.words_are keywords.Inductive, f.words_are keywords.Fixpoint, f.words_are keywords.Lemma, f.words_are keywords.Predicate, (word_read Ghost _ ts w.0 w.1).1, name_read Ghost n w.0 x.0 x.1, parameters_full d ps x.0 q.0 q.1 deep, ends.marks_are punctuators.Becomes, (mark_read Ghost _ q.0 rest q.2).1) refl

predicate_body_full : (d : ℕ) (n : Name) (ps : List GhostParameter) (a : List PartTree) (ts rest : List Token) → ghost_form (forms.PredicateBody n ps a) ts ≡ Some rest → ghost_form_nesting (forms.PredicateBody n ps a) ≤ d → form_at d ts ≡ ok (forms.PredicateBody n ps a) rest
unfolding ghost_form form_at predicates_at predicate_at predicate_by
predicate_body_full d n ps a ts rest h deep =
    let w = gone (word Ghost keywords.Predicate ts) h in
    let x = gone (name Ghost n w.0) w.2 in
    let q = gone (ghost_parameters ps x.0) x.2 in
    let m = gone (mark Ghost punctuators.Becomes q.0) q.2 in
    let f = word_front Ghost keywords.Predicate ts w.0 w.1 in
    let equals = mark_front Ghost punctuators.Becomes q.0 m.0 m.1 in
    rw (f.words_are keywords.Inductive, f.words_are keywords.Fixpoint, f.words_are keywords.Lemma, f.words_are keywords.Predicate, (word_read Ghost _ ts w.0 w.1).1, name_read Ghost n w.0 x.0 x.1, parameters_full d ps x.0 q.0 q.1 (omega (arith, deep)), equals.marks_are punctuators.Becomes, definition_full d a q.0 rest q.2 (omega (arith, deep))) refl

-- "(" sort NAME ")"
index_read : (d : ℕ) (x : GhostParameter) (ts opened behind_it rest : List Token) → mark Ghost punctuators.OpenParenthesis ts ≡ Some opened → first_ghost_parameter x opened ≡ Some behind_it → mark Ghost punctuators.CloseParenthesis behind_it ≡ Some rest → sort_nesting x.sort + 1 ≤ d → index_at d ts ≡ ok x rest
unfolding index_at
index_read d x ts opened behind_it rest opens walk closes deep = rw ((mark_read Ghost _ ts opened opens).1, index_full d x opened behind_it walk deep, (mark_read Ghost _ behind_it rest closes).1) refl

family_parts : (d : ℕ) (n : Name) (x : GhostParameter) (ps : List GhostParameter) (ts after_word after_name after_opening after_index after_closing after_parameters rest : List Token) → word Ghost keywords.PredicateFamily ts ≡ Some after_word → name Ghost n after_word ≡ Some after_name → mark Ghost punctuators.OpenParenthesis after_name ≡ Some after_opening → first_ghost_parameter x after_opening ≡ Some after_index → mark Ghost punctuators.CloseParenthesis after_index ≡ Some after_closing → ghost_parameters ps after_closing ≡ Some after_parameters → mark Ghost punctuators.Semicolon after_parameters ≡ Some rest
    → ghost_form_nesting (forms.Family n x ps) ≤ d → form_at d ts ≡ ok (forms.Family n x ps) rest
unfolding ghost_form form_at predicates_at family_at
family_parts d n x ps ts after_word after_name after_opening after_index after_closing after_parameters rest has_word has_name has_opening has_index has_closing has_parameters has_rest deep =
    let f = word_front Ghost keywords.PredicateFamily ts after_word has_word in
    rw (f.words_are keywords.Inductive, f.words_are keywords.Fixpoint, f.words_are keywords.Lemma, f.words_are keywords.Predicate, f.words_are keywords.PredicateFamily, (word_read Ghost _ ts after_word has_word).1, name_read Ghost n after_word after_name has_name, index_read d x after_name after_opening after_index after_closing has_opening has_index has_closing (omega (arith, deep)), parameters_full d ps after_closing after_parameters has_parameters (omega (arith, deep)), (mark_read Ghost _ after_parameters rest has_rest).1) refl

family_full : (d : ℕ) (n : Name) (x : GhostParameter) (ps : List GhostParameter) (ts rest : List Token) → ghost_form (forms.Family n x ps) ts ≡ Some rest → ghost_form_nesting (forms.Family n x ps) ≤ d → form_at d ts ≡ ok (forms.Family n x ps) rest
unfolding ghost_form
family_full d n x ps ts rest h deep =
    let w = gone (word Ghost keywords.PredicateFamily ts) h in
    let m = gone (name Ghost n w.0) w.2 in
    let o = gone (mark Ghost punctuators.OpenParenthesis m.0) m.2 in
    let k = gone (first_ghost_parameter x o.0) o.2 in
    let z = gone (mark Ghost punctuators.CloseParenthesis k.0) k.2 in
    let q = gone (ghost_parameters ps z.0) z.2 in
    family_parts d n x ps ts w.0 m.0 o.0 k.0 z.0 q.0 rest w.1 m.1 o.1 k.1 z.1 q.1 q.2 deep

instance_parts : (d : ℕ) (n x : Name) (ps : List GhostParameter) (a : List PartTree) (ts after_word after_name after_opening after_function after_closing after_parameters rest : List Token) → word Ghost keywords.PredicateFamilyInstance ts ≡ Some after_word → name Ghost n after_word ≡ Some after_name → mark Ghost punctuators.OpenParenthesis after_name ≡ Some after_opening → name Ghost x after_opening ≡ Some after_function → mark Ghost punctuators.CloseParenthesis after_function ≡ Some after_closing → ghost_parameters ps after_closing ≡ Some after_parameters → (mark Ghost punctuators.Becomes ⨾ assertion (part_list a) ⨾ mark Ghost punctuators.Semicolon) after_parameters ≡ Some rest
    → ghost_form_nesting (forms.Instance n x ps a) ≤ d → form_at d ts ≡ ok (forms.Instance n x ps a) rest
unfolding ghost_form form_at predicates_at instance_at function_at
instance_parts d n x ps a ts after_word after_name after_opening after_function after_closing after_parameters rest has_word has_name has_opening has_function has_closing has_parameters has_rest deep =
    let f = word_front Ghost keywords.PredicateFamilyInstance ts after_word has_word in
    rw (
      f.words_are keywords.Inductive,
      f.words_are keywords.Fixpoint,
      f.words_are keywords.Lemma,
      f.words_are keywords.Predicate,
      f.words_are keywords.PredicateFamily,
      f.words_are keywords.PredicateFamilyInstance,
      (word_read Ghost _ ts after_word has_word).1,
      name_read Ghost n after_word after_name has_name,
      (mark_read Ghost _ after_name after_opening has_opening).1,
      name_read Ghost x after_opening after_function has_function,
      (mark_read Ghost _ after_function after_closing has_closing).1,
      parameters_full d ps after_closing after_parameters has_parameters (omega (arith, deep)),
      definition_full d a after_parameters rest has_rest (omega (arith, deep)),
    ) refl

instance_full : (d : ℕ) (n x : Name) (ps : List GhostParameter) (a : List PartTree) (ts rest : List Token) → ghost_form (forms.Instance n x ps a) ts ≡ Some rest → ghost_form_nesting (forms.Instance n x ps a) ≤ d → form_at d ts ≡ ok (forms.Instance n x ps a) rest
unfolding ghost_form
instance_full d n x ps a ts rest h deep =
    let w = gone (word Ghost keywords.PredicateFamilyInstance ts) h in
    let m = gone (name Ghost n w.0) w.2 in
    let o = gone (mark Ghost punctuators.OpenParenthesis m.0) m.2 in
    let k = gone (name Ghost x o.0) o.2 in
    let z = gone (mark Ghost punctuators.CloseParenthesis k.0) k.2 in
    let q = gone (ghost_parameters ps z.0) z.2 in
    instance_parts d n x ps a ts w.0 m.0 o.0 k.0 z.0 q.0 rest w.1 m.1 o.1 k.1 z.1 q.1 q.2 deep

constructor_parts : (d : ℕ) (n : Name) (first second : List GhostParameter) (a : List PartTree) (ts after_word after_name after_first_parameters after_parameters rest : List Token) → word Ghost keywords.PredicateCtor ts ≡ Some after_word → name Ghost n after_word ≡ Some after_name → ghost_parameters first after_name ≡ Some after_first_parameters → ghost_parameters second after_first_parameters ≡ Some after_parameters → (mark Ghost punctuators.Becomes ⨾ assertion (part_list a) ⨾ mark Ghost punctuators.Semicolon) after_parameters ≡ Some rest
    → ghost_form_nesting (forms.PredicateConstructor n first second a) ≤ d → form_at d ts ≡ ok (forms.PredicateConstructor n first second a) rest
unfolding ghost_form form_at predicates_at predicate_constructor_at
constructor_parts d n first second a ts after_word after_name after_first_parameters after_parameters rest has_word has_name has_first_parameters has_parameters has_rest deep =
    let f = word_front Ghost keywords.PredicateCtor ts after_word has_word in
    rw (
      f.words_are keywords.Inductive,
      f.words_are keywords.Fixpoint,
      f.words_are keywords.Lemma,
      f.words_are keywords.Predicate,
      f.words_are keywords.PredicateFamily,
      f.words_are keywords.PredicateFamilyInstance,
      (word_read Ghost _ ts after_word has_word).1,
      name_read Ghost n after_word after_name has_name,
      parameters_full d first after_name after_first_parameters has_first_parameters (omega (arith, deep)),
      parameters_full d second after_first_parameters after_parameters has_parameters (omega (arith, deep)),
      definition_full d a after_parameters rest has_rest (omega (arith, deep)),
    ) refl

constructor_full : (d : ℕ) (n : Name) (first second : List GhostParameter) (a : List PartTree) (ts rest : List Token) → ghost_form (forms.PredicateConstructor n first second a) ts ≡ Some rest → ghost_form_nesting (forms.PredicateConstructor n first second a) ≤ d → form_at d ts ≡ ok (forms.PredicateConstructor n first second a) rest
unfolding ghost_form
constructor_full d n first second a ts rest h deep =
    let w = gone (word Ghost keywords.PredicateCtor ts) h in
    let m = gone (name Ghost n w.0) w.2 in
    let p = gone (ghost_parameters first m.0) m.2 in
    let q = gone (ghost_parameters second p.0) p.2 in
    constructor_parts d n first second a ts w.0 m.0 p.0 q.0 rest w.1 m.1 p.1 q.1 q.2 deep

prototype_parts : (d : ℕ) (n : Name) (xs : List Name) (ps : List GhostParameter) (c : Contract) (ts after_word after_void after_name after_types after_parameters after_mark rest : List Token) → word Ghost keywords.Lemma ts ≡ Some after_word → word Ghost keywords.Void after_word ≡ Some after_void → name Ghost n after_void ≡ Some after_name → type_parameters xs after_name ≡ Some after_types → ghost_parameters ps after_types ≡ Some after_parameters → mark Ghost punctuators.Semicolon after_parameters ≡ Some after_mark → contract c after_mark ≡ Some rest
    → ghost_form_nesting (forms.LemmaPrototype n xs ps c) ≤ d → form_at d ts ≡ ok (forms.LemmaPrototype n xs ps c) rest
unfolding ghost_form form_at lemma_at lemma_by
prototype_parts d n xs ps c ts after_word after_void after_name after_types after_parameters after_mark rest has_word has_void has_name has_types has_parameters has_mark has_rest deep =
    let f = word_front Ghost keywords.Lemma ts after_word has_word in
    rw (f.words_are keywords.Inductive, f.words_are keywords.Fixpoint, f.words_are keywords.Lemma, (word_read Ghost _ ts after_word has_word).1, (word_read Ghost _ after_word after_void has_void).1, head_full d n xs ps after_void after_name after_types after_parameters has_name has_types has_parameters (omega (arith, deep)), (mark_front Ghost punctuators.Semicolon after_parameters after_mark has_mark).marks_are punctuators.Semicolon, (mark_read Ghost _ after_parameters after_mark has_mark).1, contract_full d c after_mark rest has_rest (omega (arith, deep))) refl

prototype_full : (d : ℕ) (n : Name) (xs : List Name) (ps : List GhostParameter) (c : Contract) (ts rest : List Token) → ghost_form (forms.LemmaPrototype n xs ps c) ts ≡ Some rest → ghost_form_nesting (forms.LemmaPrototype n xs ps c) ≤ d → form_at d ts ≡ ok (forms.LemmaPrototype n xs ps c) rest
unfolding ghost_form
prototype_full d n xs ps c ts rest h deep =
    let w = gone (word Ghost keywords.Lemma ts) h in
    let v = gone (word Ghost keywords.Void w.0) w.2 in
    let x = gone (name Ghost n v.0) v.2 in
    let t = gone (type_parameters xs x.0) x.2 in
    let q = gone (ghost_parameters ps t.0) t.2 in
    let m = gone (mark Ghost punctuators.Semicolon q.0) q.2 in
    prototype_parts d n xs ps c ts w.0 v.0 x.0 t.0 q.0 m.0 rest w.1 v.1 x.1 t.1 q.1 m.1 m.2 deep

body_front : (b : GhostBody) (ts rest : List Token) → ghost_body b ts ≡ Some rest → Front Ghost (a_mark punctuators.OpenBrace) ts
unfolding ghost_body
body_front b ts rest h =
    let g = gone (at b.place ts) h in
    let o = gone (mark Ghost punctuators.OpenBrace g.0) g.2 in
    behind b.place g.1 (mark_front Ghost punctuators.OpenBrace g.0 o.0 o.1)

-- no semicolon stands behind the parameters of a lemma with a body
no_semicolon : (c : Option Contract) (b : GhostBody) (ts mid rest : List Token) → optional contract c ts ≡ Some mid → ghost_body b mid ≡ Some rest → head_has (is_mark Ghost punctuators.Semicolon) ts ≡ false
no_semicolon None b ts mid rest h k = (body_front b ts rest (subst (λ us. ghost_body b us ≡ Some rest) (sym (some_same h)) k)).marks_are punctuators.Semicolon
no_semicolon (Some x) b ts mid rest h k = (contract_front x ts mid h).marks_are punctuators.Semicolon

lemma_parts : (d : ℕ) (n : Name) (xs : List Name) (ps : List GhostParameter) (c : Option Contract) (b : GhostBody) (ts after_word after_void after_name after_types after_parameters after_inside rest : List Token) → word Ghost keywords.Lemma ts ≡ Some after_word → word Ghost keywords.Void after_word ≡ Some after_void → name Ghost n after_void ≡ Some after_name → type_parameters xs after_name ≡ Some after_types → ghost_parameters ps after_types ≡ Some after_parameters → optional contract c after_parameters ≡ Some after_inside → ghost_body b after_inside ≡ Some rest
    → ghost_form_nesting (forms.Lemma n xs ps c b) ≤ d → form_at d ts ≡ ok (forms.Lemma n xs ps c b) rest
unfolding ghost_form form_at lemma_at lemma_by
lemma_parts d n xs ps c b ts after_word after_void after_name after_types after_parameters after_inside rest has_word has_void has_name has_types has_parameters has_inside has_rest deep =
    let f = word_front Ghost keywords.Lemma ts after_word has_word in
    rw (
      f.words_are keywords.Inductive,
      f.words_are keywords.Fixpoint,
      f.words_are keywords.Lemma,
      (word_read Ghost _ ts after_word has_word).1,
      (word_read Ghost _ after_word after_void has_void).1,
      head_full d n xs ps after_void after_name after_types after_parameters has_name has_types has_parameters (omega (arith, deep)),
      no_semicolon c b after_parameters after_inside rest has_inside has_rest,
      any_contract_full d c after_parameters after_inside has_inside (omega (arith, deep)) ((body_front b after_inside rest has_rest).words_are keywords.Requires),
      body_full d b after_inside rest has_rest (omega (arith, deep)),
    ) refl

lemma_full : (d : ℕ) (n : Name) (xs : List Name) (ps : List GhostParameter) (c : Option Contract) (b : GhostBody) (ts rest : List Token) → ghost_form (forms.Lemma n xs ps c b) ts ≡ Some rest → ghost_form_nesting (forms.Lemma n xs ps c b) ≤ d → form_at d ts ≡ ok (forms.Lemma n xs ps c b) rest
unfolding ghost_form
lemma_full d n xs ps c b ts rest h deep =
    let w = gone (word Ghost keywords.Lemma ts) h in
    let v = gone (word Ghost keywords.Void w.0) w.2 in
    let x = gone (name Ghost n v.0) v.2 in
    let t = gone (type_parameters xs x.0) x.2 in
    let q = gone (ghost_parameters ps t.0) t.2 in
    let k = gone (optional contract c q.0) q.2 in
    lemma_parts d n xs ps c b ts w.0 v.0 x.0 t.0 q.0 k.0 rest w.1 v.1 x.1 t.1 q.1 k.1 k.2 deep

form_full : (d : ℕ) (x : GhostForm) (ts rest : List Token) → ghost_form x ts ≡ Some rest → ghost_form_nesting x ≤ d → form_at d ts ≡ ok x rest
form_full d (forms.Inductive n xs bar cs) ts rest h deep = inductive_full d n xs bar cs ts rest h deep
form_full d (forms.Fixpoint s n xs ps b) ts rest h deep = fixpoint_item d s n xs ps b ts rest h deep
form_full d (forms.Predicate n ps) ts rest h deep = predicate_full d n ps ts rest h deep
form_full d (forms.PredicateBody n ps a) ts rest h deep = predicate_body_full d n ps a ts rest h deep
form_full d (forms.Family n x ps) ts rest h deep = family_full d n x ps ts rest h deep
form_full d (forms.Instance n x ps a) ts rest h deep = instance_full d n x ps a ts rest h deep
form_full d (forms.PredicateConstructor n first second a) ts rest h deep = constructor_full d n first second a ts rest h deep
form_full d (forms.LemmaPrototype n xs ps c) ts rest h deep = prototype_full d n xs ps c ts rest h deep
form_full d (forms.Lemma n xs ps c b) ts rest h deep = lemma_full d n xs ps c b ts rest h deep

pub item_full : (d : ℕ) (x : GhostItem) (ts rest : List Token) → ghost_item x ts ≡ Some rest → item_depth x ≤ d → item_at d ts ≡ ok x rest
unfolding ghost_item item_at
item_full d x ts rest h deep =
    let g = gone (at x.place ts) h in
    rw (here_read x.place ts g.0 g.1, form_full d x.form g.0 rest g.2 deep) refl

pub one_item : (x y : GhostItem) (ts rest : List Token) → ghost_item x ts ≡ Some rest → ghost_item y ts ≡ Some rest → x ≡ y
one_item x y ts rest h k =
    let one = item_full (item_depth x + item_depth y) x ts rest h (omega arith) in
    let two = item_full (item_depth x + item_depth y) y ts rest k (omega arith) in
    (ok_pair x y rest rest (sym one ∙ two)).0
