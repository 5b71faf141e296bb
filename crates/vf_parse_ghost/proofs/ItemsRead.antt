-- The ghost items that are read are spelled, and nest no deeper than is allowed.
use Rattle.std.proofs.Common.{◌≡◌, ℕ, ◌+◌, ◌≤◌, Bool, true, false, List, Option, Some, None, refl, sym, subst, arith, inl, inr}
use Rattle.vf_lexer.specs.declared.punctuator.Punctuator.TheVariants as punctuators
use Rattle.vf_lexer.specs.declared.token.Token.{Token}
use Rattle.vf_syntax.specs.declared.keyword.Keyword.TheVariants as keywords
use Rattle.vf_syntax.specs.declared.side.Side.TheVariants.{Ghost}
use Rattle.vf_syntax.specs.declared.written.Name.{Name}
use Rattle.vf_syntax.specs.declared.item.GhostItem.{GhostItem}
use Rattle.vf_syntax.specs.declared.item.GhostForm.{GhostForm}
use Rattle.vf_syntax.specs.declared.item.GhostForm.TheVariants as forms
use Rattle.vf_syntax.specs.declared.item.GhostParameter.{GhostParameter}
use Rattle.vf_syntax.specs.AssertionTree.{PartTree, part_list}
use Rattle.vf_syntax.specs.Walks.{head_has, is_mark, is_word, at, mark, word}
use Rattle.vf_syntax.specs.Written.{name}
use Rattle.vf_syntax.specs.Lists.{greatest}
use Rattle.vf_syntax.specs.Units.{ghost_form, ghost_item, ghost_parameter, ghost_parameters, first_ghost_parameter, ghost_parameter_nesting, ghost_form_nesting}
use Rattle.vf_cursor.specs.Parsing.{ok, here_at, mark_at, word_at, name_at}
use Rattle.vf_cursor.proofs.Facts.{bind_ok, moved, chose}
use Rattle.vf_parse_term.specs.Sorts.{sort_at}
use Rattle.vf_parse_term.proofs.Taken.{here_sound, mark_sound, word_sound, name_sound}
use Rattle.vf_parse_term.proofs.SortsRead.{sort_sound}
use Rattle.vf_parse_assertion.specs.Parsers.{assertion_at}
use Rattle.vf_parse_assertion.specs.Laws.{assertion_walk, assertion_depth}
use Rattle.vf_parse_assertion.proofs.PartsRead.{assertion_sound}
use Rattle.vf_parse_command.specs.Commands.{body_at}
use Rattle.vf_parse_command.proofs.CommandsRead.{body_sound}
use Rattle.vf_parse_ghost.specs.declared.parameters.Heading.{Heading}
use Rattle.vf_parse_ghost.specs.Clauses.{contract_at, any_contract_at}
use Rattle.vf_parse_ghost.specs.Parameters.{parameter_at, parameters_at, type_parameters_at, head_at}
use Rattle.vf_parse_ghost.specs.Constructors.{constructors_at, bar_at}
use Rattle.vf_parse_ghost.specs.Fixpoints.{fixpoint_body_at}
use Rattle.vf_parse_ghost.specs.Items.{definition_at, inductive_at, fixpoint_at, predicate_by, predicate_at, index_at, family_at, function_at, instance_at, predicate_constructor_at, lemma_by, lemma_at, predicates_at, form_at, item_at}
use Rattle.vf_parse_ghost.specs.Laws.{item_depth, GhostItemsAreSpelled}
use Rattle.vf_parse_ghost.proofs.ContractsRead.{contract_sound, any_contract_sound}
use Rattle.vf_parse_ghost.proofs.ParametersRead.{IsParameter, parameter_sound, parameters_sound, type_parameters_sound, IsHead, head_sound}
use Rattle.vf_parse_ghost.proofs.ConstructorsRead.{constructors_sound, bar_sound}
use Rattle.vf_parse_ghost.proofs.FixpointsRead.{fixpoint_body_sound}

-- a form is spelled, and nests at most so deep
abbrev IsForm : ℕ → List Token → GhostForm → List Token → Type 0
IsForm d ts x rest = (ghost_form x ts ≡ Some rest) × (ghost_form_nesting x ≤ d)

-- "=" assertion ";"
pub record IsDefinition (d : ℕ) (ts : List Token) (a : List PartTree) (rest : List Token) : Type 0 where
  pub inside : List Token
  pub behind : List Token
  pub becomes : mark Ghost punctuators.Becomes ts ≡ Some inside
  pub walk : assertion_walk a inside ≡ Some behind
  pub semicolon : mark Ghost punctuators.Semicolon behind ≡ Some rest
  pub deep : assertion_depth a ≤ d

definition_sound : (d : ℕ) (ts : List Token) (a : List PartTree) (rest : List Token) → definition_at d ts ≡ ok a rest → IsDefinition d ts a rest
unfolding definition_at
definition_sound d ts a rest eq =
    let m = bind_ok {r = mark_at Ghost punctuators.Becomes ts} eq in
    let b = bind_ok {r = assertion_at d m.0.1} m.2 in
    let z = bind_ok {r = mark_at Ghost punctuators.Semicolon b.0.1} b.2 in
    let k = assertion_sound d m.0.1 b.0.0 b.0.1 b.1 in
    moved (λ (y : List PartTree) r. IsDefinition d ts y r) z.2 (record {
      inside = m.0.1;
      behind = b.0.1;
      becomes = (mark_sound Ghost punctuators.Becomes ts m.0.0 m.0.1 m.1).0;
      walk = k.0;
      semicolon = (mark_sound Ghost punctuators.Semicolon b.0.1 z.0.0 z.0.1 z.1).0;
      deep = k.1;
    })

inductive_sound : (d : ℕ) (ts : List Token) (x : GhostForm) (rest : List Token) → inductive_at d ts ≡ ok x rest → IsForm d ts x rest
unfolding inductive_at ghost_form
inductive_sound d ts x rest eq =
    let w = bind_ok {r = word_at Ghost keywords.Inductive ts} eq in
    let n = bind_ok {r = name_at Ghost w.0.1} w.2 in
    let xs = bind_ok {r = type_parameters_at n.0.1} n.2 in
    let m = bind_ok {r = mark_at Ghost punctuators.Becomes xs.0.1} xs.2 in
    let b = bind_ok {r = bar_at m.0.1} m.2 in
    let cs = bind_ok {r = constructors_at d b.0.1} b.2 in
    let z = bind_ok {r = mark_at Ghost punctuators.Semicolon cs.0.1} cs.2 in
    let first = (word_sound Ghost keywords.Inductive ts w.0.0 w.0.1 w.1).0 in
    let named = (name_sound Ghost w.0.1 n.0.0 n.0.1 n.1).0 in
    let types = type_parameters_sound n.0.1 xs.0.0 xs.0.1 xs.1 in
    let becomes = (mark_sound Ghost punctuators.Becomes xs.0.1 m.0.0 m.0.1 m.1).0 in
    let bar = bar_sound m.0.1 b.0.0 b.0.1 b.1 in
    let k = constructors_sound d b.0.1 cs.0.0 cs.0.1 cs.1 in
    moved (λ (y : GhostForm) r. IsForm d ts y r) z.2 (rw (first, named, types, becomes, bar, k.0) (mark_sound Ghost punctuators.Semicolon cs.0.1 z.0.0 z.0.1 z.1).0, k.1)

fixpoint_sound : (d : ℕ) (ts : List Token) (x : GhostForm) (rest : List Token) → fixpoint_at d ts ≡ ok x rest → IsForm d ts x rest
unfolding fixpoint_at ghost_form
fixpoint_sound d ts x rest eq =
    let w = bind_ok {r = word_at Ghost keywords.Fixpoint ts} eq in
    let s = bind_ok {r = sort_at d w.0.1} w.2 in
    let h = bind_ok {r = head_at d s.0.1} s.2 in
    let o = bind_ok {r = mark_at Ghost punctuators.OpenBrace h.0.1} h.2 in
    let b = bind_ok {r = fixpoint_body_at d o.0.1} o.2 in
    let z = bind_ok {r = mark_at Ghost punctuators.CloseBrace b.0.1} b.2 in
    let first = (word_sound Ghost keywords.Fixpoint ts w.0.0 w.0.1 w.1).0 in
    let one = sort_sound d w.0.1 s.0.0 s.0.1 s.1 in
    let head = head_sound d s.0.1 h.0.0 h.0.1 h.1 in
    let opens = (mark_sound Ghost punctuators.OpenBrace h.0.1 o.0.0 o.0.1 o.1).0 in
    let body = fixpoint_body_sound d o.0.1 b.0.0 b.0.1 b.1 in
    let low_one = one.1 in
    let low_two = head.deep in
    let low_three = body.1 in
    moved (λ (y : GhostForm) r. IsForm d ts y r) z.2 (rw (first, one.0, head.first, head.types, head.parameters, opens, body.0) (mark_sound Ghost punctuators.CloseBrace b.0.1 z.0.0 z.0.1 z.1).0, omega (arith, low_one, low_two, low_three))

predicate_by_sound : (d : ℕ) (n : Name) (ps : List GhostParameter) (all mid typed ts : List Token) → word Ghost keywords.Predicate all ≡ Some mid → name Ghost n mid ≡ Some typed → (ghost_parameters ps typed ≡ Some ts) × (greatest ghost_parameter_nesting ps ≤ d)
    → (x : GhostForm) (rest : List Token) → predicate_by d n ps ts ≡ ok x rest → IsForm d all x rest
unfolding predicate_by ghost_form
predicate_by_sound d n ps all mid typed ts first named parameters x rest eq =
    elim (chose (head_has (is_mark Ghost punctuators.Becomes) ts) _ _ _ eq) [
      | inl h ↦
          let a = bind_ok {r = definition_at d ts} h.1 in
          let k = definition_sound d ts a.0.0 a.0.1 a.1 in
          let low = parameters.1 in
          let deep = k.deep in
          moved (λ (y : GhostForm) r. IsForm d all y r) a.2 (rw (first, named, parameters.0, k.becomes, k.walk) (k.semicolon), omega (arith, low, deep))
      | inr h ↦
          let z = bind_ok {r = mark_at Ghost punctuators.Semicolon ts} h.1 in
          moved (λ (y : GhostForm) r. IsForm d all y r) z.2 (rw (first, named, parameters.0) (mark_sound Ghost punctuators.Semicolon ts z.0.0 z.0.1 z.1).0, parameters.1)
    ]

predicate_sound : (d : ℕ) (ts : List Token) (x : GhostForm) (rest : List Token) → predicate_at d ts ≡ ok x rest → IsForm d ts x rest
unfolding predicate_at
predicate_sound d ts x rest eq =
    let w = bind_ok {r = word_at Ghost keywords.Predicate ts} eq in
    let n = bind_ok {r = name_at Ghost w.0.1} w.2 in
    let ps = bind_ok {r = parameters_at d n.0.1} n.2 in
    let first = (word_sound Ghost keywords.Predicate ts w.0.0 w.0.1 w.1).0 in
    let named = (name_sound Ghost w.0.1 n.0.0 n.0.1 n.1).0 in
    predicate_by_sound d n.0.0 ps.0.0 ts w.0.1 n.0.1 ps.0.1 first named (parameters_sound d n.0.1 ps.0.0 ps.0.1 ps.1) x rest ps.2

-- "(" sort NAME ")"
pub record IsIndex (d : ℕ) (ts : List Token) (x : GhostParameter) (rest : List Token) : Type 0 where
  pub inside : List Token
  pub behind : List Token
  pub opens : mark Ghost punctuators.OpenParenthesis ts ≡ Some inside
  pub walk : first_ghost_parameter x inside ≡ Some behind
  pub closes : mark Ghost punctuators.CloseParenthesis behind ≡ Some rest
  pub deep : ghost_parameter_nesting x ≤ d

first_parameter : (d : ℕ) (ts : List Token) (x : GhostParameter) (rest : List Token) → IsParameter false d ts x rest → first_ghost_parameter x ts ≡ Some rest
unfolding ghost_parameter
first_parameter d ts x rest h = rw (h.form) (h.walk)

index_sound : (d : ℕ) (ts : List Token) (x : GhostParameter) (rest : List Token) → index_at d ts ≡ ok x rest → IsIndex d ts x rest
unfolding index_at
index_sound d ts x rest eq =
    let o = bind_ok {r = mark_at Ghost punctuators.OpenParenthesis ts} eq in
    let y = bind_ok {r = parameter_at false d o.0.1} o.2 in
    let z = bind_ok {r = mark_at Ghost punctuators.CloseParenthesis y.0.1} y.2 in
    let k = parameter_sound false d o.0.1 y.0.0 y.0.1 y.1 in
    moved (λ (y : GhostParameter) r. IsIndex d ts y r) z.2 (record {
      inside = o.0.1;
      behind = y.0.1;
      opens = (mark_sound Ghost punctuators.OpenParenthesis ts o.0.0 o.0.1 o.1).0;
      walk = first_parameter d o.0.1 y.0.0 y.0.1 k;
      closes = (mark_sound Ghost punctuators.CloseParenthesis y.0.1 z.0.0 z.0.1 z.1).0;
      deep = k.deep;
    })

family_sound : (d : ℕ) (ts : List Token) (x : GhostForm) (rest : List Token) → family_at d ts ≡ ok x rest → IsForm d ts x rest
unfolding family_at ghost_form
family_sound d ts x rest eq =
    let w = bind_ok {r = word_at Ghost keywords.PredicateFamily ts} eq in
    let n = bind_ok {r = name_at Ghost w.0.1} w.2 in
    let i = bind_ok {r = index_at d n.0.1} n.2 in
    let ps = bind_ok {r = parameters_at d i.0.1} i.2 in
    let z = bind_ok {r = mark_at Ghost punctuators.Semicolon ps.0.1} ps.2 in
    let first = (word_sound Ghost keywords.PredicateFamily ts w.0.0 w.0.1 w.1).0 in
    let named = (name_sound Ghost w.0.1 n.0.0 n.0.1 n.1).0 in
    let index = index_sound d n.0.1 i.0.0 i.0.1 i.1 in
    let k = parameters_sound d i.0.1 ps.0.0 ps.0.1 ps.1 in
    let low = index.deep in
    let deep = k.1 in
    moved (λ (y : GhostForm) r. IsForm d ts y r) z.2 (rw (first, named, index.opens, index.walk, index.closes, k.0) (mark_sound Ghost punctuators.Semicolon ps.0.1 z.0.0 z.0.1 z.1).0, omega (arith, low, deep))

-- "(" NAME ")"
pub record IsFunction (ts : List Token) (x : Name) (rest : List Token) : Type 0 where
  pub inside : List Token
  pub behind : List Token
  pub opens : mark Ghost punctuators.OpenParenthesis ts ≡ Some inside
  pub walk : name Ghost x inside ≡ Some behind
  pub closes : mark Ghost punctuators.CloseParenthesis behind ≡ Some rest

function_sound : (ts : List Token) (x : Name) (rest : List Token) → function_at ts ≡ ok x rest → IsFunction ts x rest
unfolding function_at
function_sound ts x rest eq =
    let o = bind_ok {r = mark_at Ghost punctuators.OpenParenthesis ts} eq in
    let y = bind_ok {r = name_at Ghost o.0.1} o.2 in
    let z = bind_ok {r = mark_at Ghost punctuators.CloseParenthesis y.0.1} y.2 in
    moved (λ (y : Name) r. IsFunction ts y r) z.2 (record {
      inside = o.0.1;
      behind = y.0.1;
      opens = (mark_sound Ghost punctuators.OpenParenthesis ts o.0.0 o.0.1 o.1).0;
      walk = (name_sound Ghost o.0.1 y.0.0 y.0.1 y.1).0;
      closes = (mark_sound Ghost punctuators.CloseParenthesis y.0.1 z.0.0 z.0.1 z.1).0;
    })

instance_sound : (d : ℕ) (ts : List Token) (x : GhostForm) (rest : List Token) → instance_at d ts ≡ ok x rest → IsForm d ts x rest
unfolding instance_at ghost_form
instance_sound d ts x rest eq =
    let w = bind_ok {r = word_at Ghost keywords.PredicateFamilyInstance ts} eq in
    let n = bind_ok {r = name_at Ghost w.0.1} w.2 in
    let f = bind_ok {r = function_at n.0.1} n.2 in
    let ps = bind_ok {r = parameters_at d f.0.1} f.2 in
    let a = bind_ok {r = definition_at d ps.0.1} ps.2 in
    let first = (word_sound Ghost keywords.PredicateFamilyInstance ts w.0.0 w.0.1 w.1).0 in
    let named = (name_sound Ghost w.0.1 n.0.0 n.0.1 n.1).0 in
    let function = function_sound n.0.1 f.0.0 f.0.1 f.1 in
    let k = parameters_sound d f.0.1 ps.0.0 ps.0.1 ps.1 in
    let body = definition_sound d ps.0.1 a.0.0 a.0.1 a.1 in
    let low = k.1 in
    let deep = body.deep in
    moved (λ (y : GhostForm) r. IsForm d ts y r) a.2 (rw (first, named, function.opens, function.walk, function.closes, k.0, body.becomes, body.walk) (body.semicolon), omega (arith, low, deep))

predicate_constructor_sound : (d : ℕ) (ts : List Token) (x : GhostForm) (rest : List Token) → predicate_constructor_at d ts ≡ ok x rest → IsForm d ts x rest
unfolding predicate_constructor_at ghost_form
predicate_constructor_sound d ts x rest eq =
    let w = bind_ok {r = word_at Ghost keywords.PredicateCtor ts} eq in
    let n = bind_ok {r = name_at Ghost w.0.1} w.2 in
    let ps = bind_ok {r = parameters_at d n.0.1} n.2 in
    let qs = bind_ok {r = parameters_at d ps.0.1} ps.2 in
    let a = bind_ok {r = definition_at d qs.0.1} qs.2 in
    let first = (word_sound Ghost keywords.PredicateCtor ts w.0.0 w.0.1 w.1).0 in
    let named = (name_sound Ghost w.0.1 n.0.0 n.0.1 n.1).0 in
    let one = parameters_sound d n.0.1 ps.0.0 ps.0.1 ps.1 in
    let two = parameters_sound d ps.0.1 qs.0.0 qs.0.1 qs.1 in
    let body = definition_sound d qs.0.1 a.0.0 a.0.1 a.1 in
    let low_one = one.1 in
    let low_two = two.1 in
    let deep = body.deep in
    moved (λ (y : GhostForm) r. IsForm d ts y r) a.2 (rw (first, named, one.0, two.0, body.becomes, body.walk) (body.semicolon), omega (arith, low_one, low_two, deep))

-- "lemma" "void" and what fixpoints and lemmas have in front of their bodies
pub record LemmaHead (d : ℕ) (ts : List Token) (h : Heading) (rest : List Token) : Type 0 where
  pub worded : List Token
  pub voided : List Token
  pub first : word Ghost keywords.Lemma ts ≡ Some worded
  pub second : word Ghost keywords.Void worded ≡ Some voided
  pub head : IsHead d voided h rest

lemma_by_sound : (d : ℕ) (h : Heading) (all ts : List Token) → LemmaHead d all h ts → (x : GhostForm) (rest : List Token) → lemma_by d h ts ≡ ok x rest → IsForm d all x rest
unfolding lemma_by ghost_form
lemma_by_sound d h all ts l x rest eq =
    let head = l.head in
    let low = head.deep in
    elim (chose (head_has (is_mark Ghost punctuators.Semicolon) ts) _ _ _ eq) [
      | inl g ↦
          let m = bind_ok {r = mark_at Ghost punctuators.Semicolon ts} g.1 in
          let c = bind_ok {r = contract_at d m.0.1} m.2 in
          let semicolon = (mark_sound Ghost punctuators.Semicolon ts m.0.0 m.0.1 m.1).0 in
          let k = contract_sound d m.0.1 c.0.0 c.0.1 c.1 in
          let deep = k.1 in
          moved (λ (y : GhostForm) r. IsForm d all y r) c.2 (rw (l.first, l.second, head.first, head.types, head.parameters, semicolon) (k.0), omega (arith, low, deep))
      | inr g ↦
          let c = bind_ok {r = any_contract_at d ts} g.1 in
          let b = bind_ok {r = body_at d c.0.1} c.2 in
          let k = any_contract_sound d ts c.0.0 c.0.1 c.1 in
          let body = body_sound d c.0.1 b.0.0 b.0.1 b.1 in
          let deep = k.1 in
          let deep_body = body.1 in
          moved (λ (y : GhostForm) r. IsForm d all y r) b.2 (rw (l.first, l.second, head.first, head.types, head.parameters, k.0) (body.0), omega (arith, low, deep, deep_body))
    ]

lemma_sound : (d : ℕ) (ts : List Token) (x : GhostForm) (rest : List Token) → lemma_at d ts ≡ ok x rest → IsForm d ts x rest
unfolding lemma_at
lemma_sound d ts x rest eq =
    let w = bind_ok {r = word_at Ghost keywords.Lemma ts} eq in
    let v = bind_ok {r = word_at Ghost keywords.Void w.0.1} w.2 in
    let h = bind_ok {r = head_at d v.0.1} v.2 in
    let l : LemmaHead d ts h.0.0 h.0.1 =
    record { worded = w.0.1; voided = v.0.1; first = (word_sound Ghost keywords.Lemma ts w.0.0 w.0.1 w.1).0; second = (word_sound Ghost keywords.Void w.0.1 v.0.0 v.0.1 v.1).0; head = head_sound d v.0.1 h.0.0 h.0.1 h.1 } in
    lemma_by_sound d h.0.0 ts h.0.1 l x rest h.2

predicates_sound : (d : ℕ) (ts : List Token) (x : GhostForm) (rest : List Token) → predicates_at d ts ≡ ok x rest → IsForm d ts x rest
unfolding predicates_at
predicates_sound d ts x rest eq =
    elim (chose (head_has (is_word Ghost keywords.Predicate) ts) _ _ _ eq) [
      | inl h ↦ predicate_sound d ts x rest h.1
      | inr g ↦
          elim (chose (head_has (is_word Ghost keywords.PredicateFamily) ts) _ _ _ g.1) [
            | inl h ↦ family_sound d ts x rest h.1
            | inr g ↦
                elim (chose (head_has (is_word Ghost keywords.PredicateFamilyInstance) ts) _ _ _ g.1) [
                  | inl h ↦ instance_sound d ts x rest h.1
                  | inr h ↦ predicate_constructor_sound d ts x rest h.1
                ]
          ]
    ]

form_sound : (d : ℕ) (ts : List Token) (x : GhostForm) (rest : List Token) → form_at d ts ≡ ok x rest → IsForm d ts x rest
unfolding form_at
form_sound d ts x rest eq =
    elim (chose (head_has (is_word Ghost keywords.Inductive) ts) _ _ _ eq) [
      | inl h ↦ inductive_sound d ts x rest h.1
      | inr g ↦
          elim (chose (head_has (is_word Ghost keywords.Fixpoint) ts) _ _ _ g.1) [
            | inl h ↦ fixpoint_sound d ts x rest h.1
            | inr g ↦
                elim (chose (head_has (is_word Ghost keywords.Lemma) ts) _ _ _ g.1) [
                  | inl h ↦ lemma_sound d ts x rest h.1
                  | inr h ↦ predicates_sound d ts x rest h.1
                ]
          ]
    ]

-- a ghost item is spelled, and nests at most so deep
abbrev IsItem : ℕ → List Token → GhostItem → List Token → Type 0
IsItem d ts x rest = (ghost_item x ts ≡ Some rest) × (item_depth x ≤ d)

pub item_sound : GhostItemsAreSpelled
unfolding item_at ghost_item
item_sound d ts x rest eq =
    let p = bind_ok {r = here_at ts} eq in
    let f = bind_ok {r = form_at d p.0.1} p.2 in
    let here = here_sound ts p.0.0 p.0.1 p.1 in
    let same : form_at d ts ≡ ok f.0.0 f.0.1 = subst (λ (r : List Token). form_at d r ≡ ok f.0.0 f.0.1) here.0 f.1 in
    let k = form_sound d ts f.0.0 f.0.1 same in
    moved (λ (y : GhostItem) r. IsItem d ts y r) f.2 (rw (here.1) (k.0), k.1)
