-- What is read as an assignment, a call or a declaration is spelled so, and nests no deeper than it may.
use Rattle.std.proofs.Common.{◌≡◌, ℕ, ◌≤◌, List, Option, Some, None, refl, inl, inr, arith}
use Rattle.vf_lexer.specs.declared.punctuator.Punctuator.TheVariants as punctuators
use Rattle.vf_lexer.specs.declared.token.Token.{Token}
use Rattle.vf_syntax.specs.declared.side.Side.TheVariants.{Real}
use Rattle.vf_syntax.specs.declared.operator.AssignmentOperator.{AssignmentOperator}
use Rattle.vf_syntax.specs.declared.operator.StepOperator.{StepOperator}
use Rattle.vf_syntax.specs.declared.simple.Simple.{Simple}
use Rattle.vf_syntax.specs.declared.simple.First.{First}
use Rattle.vf_syntax.specs.declared.written.CType.{CType}
use Rattle.vf_syntax.specs.declared.written.Name.{Name}
use Rattle.vf_syntax.specs.ExprTree.{ExprTree}
use Rattle.vf_syntax.specs.Walks.{◌⨾◌, head_has, is_mark}
use Rattle.vf_syntax.specs.Written.{name, ctype, assignment_mark, step_mark}
use Rattle.vf_syntax.specs.Lists.{optional, or_none}
use Rattle.vf_syntax.specs.Expressions.{expr}
use Rattle.vf_syntax.specs.Statements.{is_call, is_left_side, simple, simple_nesting, first, first_nesting, initializer, whole_nesting}
use Rattle.vf_cursor.specs.Parsing.{Parser, ok, mark_at, name_at}
use Rattle.vf_cursor.specs.Types.{next_assignment, next_step, ctype_at}
use Rattle.vf_cursor.proofs.Facts.{bind_ok, moved, chose}
use Rattle.vf_parse_expression.proofs.Small.{goes, mark_walk, name_walk}
use Rattle.vf_parse_expression.proofs.TypesSound.{ctype_walk}
use Rattle.vf_parse_expression.proofs.OperandsSound.{Spelt, Reads}
use Rattle.vf_parse_simple.specs.Simples.{sees_declaration, declared_at, value_at, optional_value_at, assigned_at, step_after_at, step_before_at, called_at, stepped_by, behind_by, behind_at, simple_by, simple_at, first_declaration_at, first_at}

pub declared_sound : (ts : List Token) (x : CType × Name) (rest : List Token) → declared_at ts ≡ ok x rest → (ctype Real x.0 ⨾ name Real x.1) ts ≡ Some rest
unfolding declared_at
declared_sound ts x rest eq =
    let t = bind_ok {r = ctype_at Real ts} eq in
    let n = bind_ok {r = name_at Real t.0.1} t.2 in
    moved (λ (y : CType × Name) r. (ctype Real y.0 ⨾ name Real y.1) ts ≡ Some r) n.2 (goes (name Real n.0.0) (ctype_walk Real ts t.0.0 t.0.1 t.1) (name_walk Real t.0.1 n.0.0 n.0.1 n.1))

pub value_sound : (e : Parser ExprTree) (d : ℕ) → Reads 1 9 d e → (ts : List Token) (x : ExprTree) (rest : List Token) → value_at e ts ≡ ok x rest → (initializer x ts ≡ Some rest) × (whole_nesting x ≤ d)
unfolding value_at
value_sound e d he ts x rest eq =
    let m = bind_ok {r = mark_at Real punctuators.Becomes ts} eq in
    let a = he m.0.1 x rest m.2 in
    (goes (expr x) (mark_walk Real punctuators.Becomes ts m.0.0 m.0.1 m.1).1 a.walk, a.deep)

-- a value that may be absent was read
abbrev pub Valued : ℕ → List Token → Option ExprTree → List Token → Type 0
Valued d ts x rest = (optional initializer x ts ≡ Some rest) × (or_none whole_nesting x ≤ d)

pub optional_value_sound : (e : Parser ExprTree) (d : ℕ) → Reads 1 9 d e → (ts : List Token) (x : Option ExprTree) (rest : List Token) → optional_value_at e ts ≡ ok x rest → Valued d ts x rest
unfolding optional_value_at
optional_value_sound e d he ts x rest eq =
    elim (chose (head_has (is_mark Real punctuators.Becomes) ts) _ _ _ eq) [
      | inl h ↦
          let a = bind_ok {r = value_at e ts} h.1 in
          moved (λ (y : Option ExprTree) r. Valued d ts y r) a.2 (value_sound e d he ts a.0.0 a.0.1 a.1)
      | inr h ↦ moved (λ (y : Option ExprTree) r. Valued d ts y r) h.1 (refl, omega arith)
    ]

-- an assignment or a call was read
abbrev pub Done : ℕ → List Token → Simple → List Token → Type 0
Done d ts x rest = (simple x ts ≡ Some rest) × (simple_nesting x ≤ d)

-- it was read behind a primary expression with what stands behind that
abbrev pub SoundBehind : ℕ → ExprTree → Parser Simple → Type 0
SoundBehind d a p = (ss ts : List Token) (x : Simple) (rest : List Token) → Spelt 0 1 d a ss ts → p ts ≡ ok x rest → Done d ss x rest

assigned_sound : (e : Parser ExprTree) (d : ℕ) → Reads 1 9 d e → (a : ExprTree) (o : AssignmentOperator) → SoundBehind d a (assigned_at e a o)
unfolding assigned_at
assigned_sound e d he a o ss ts x rest ha eq =
    elim (chose (is_left_side a) _ _ _ eq) [
      | inl h ↦
          let m = bind_ok {r = mark_at Real (assignment_mark o) ts} h.1 in
          let b = bind_ok {r = e m.0.1} m.2 in
          let mw = mark_walk Real (assignment_mark o) ts m.0.0 m.0.1 m.1 in
          let bw = he m.0.1 b.0.0 b.0.1 b.1 in
          moved (λ y r. Done d ss y r) b.2 (rw (h.0, ha.walk, mw.0, mw.1) bw.walk, omega (arith, ha.deep, bw.deep))
      | inr h ↦ absurd cc
    ]

step_after_sound : (d : ℕ) (a : ExprTree) (o : StepOperator) → SoundBehind d a (step_after_at a o)
unfolding step_after_at
step_after_sound d a o ss ts x rest ha eq =
    elim (chose (is_left_side a) _ _ _ eq) [
      | inl h ↦
          let m = bind_ok {r = mark_at Real (step_mark o) ts} h.1 in
          let mw = mark_walk Real (step_mark o) ts m.0.0 m.0.1 m.1 in
          moved (λ y r. Done d ss y r) m.2 (rw (h.0, ha.walk, mw.0, mw.1) refl, omega (arith, ha.deep))
      | inr h ↦ absurd cc
    ]

step_before_sound : (f : Parser ExprTree) (d : ℕ) → Reads 0 1 d f → (o : StepOperator) (ts : List Token) (x : Simple) (rest : List Token) → step_before_at f o ts ≡ ok x rest → Done d ts x rest
unfolding step_before_at
step_before_sound f d hf o ts x rest eq =
    let m = bind_ok {r = mark_at Real (step_mark o) ts} eq in
    let a = bind_ok {r = f m.0.1} m.2 in
    let mw = mark_walk Real (step_mark o) ts m.0.0 m.0.1 m.1 in
    let aw = hf m.0.1 a.0.0 a.0.1 a.1 in
    elim (chose (is_left_side a.0.0) _ _ _ a.2) [
      | inl h ↦ moved (λ y r. Done d ts y r) h.1 (rw (mw.0, mw.1, h.0) aw.walk, omega (arith, aw.deep))
      | inr h ↦ absurd cc
    ]

called_sound : (d : ℕ) (a : ExprTree) → SoundBehind d a (called_at a)
unfolding called_at
called_sound d a ss ts x rest ha eq =
    elim (chose (is_call a) _ _ _ eq) [
      | inl h ↦ moved (λ y r. Done d ss y r) h.1 (rw h.0 ha.walk, omega (arith, ha.deep))
      | inr h ↦ absurd cc
    ]

stepped_sound : (d : ℕ) (a : ExprTree) (o : Option StepOperator) → SoundBehind d a (stepped_by a o)
stepped_sound d a None ss ts x rest ha eq = called_sound d a ss ts x rest ha eq
stepped_sound d a (Some o) ss ts x rest ha eq = step_after_sound d a o ss ts x rest ha eq

behind_by_sound : (e : Parser ExprTree) (d : ℕ) → Reads 1 9 d e → (a : ExprTree) (o : Option AssignmentOperator) → SoundBehind d a (behind_by e a o)
behind_by_sound e d he a None ss ts x rest ha eq = stepped_sound d a (next_step ts) ss ts x rest ha eq
behind_by_sound e d he a (Some o) ss ts x rest ha eq = assigned_sound e d he a o ss ts x rest ha eq

behind_sound : (e : Parser ExprTree) (d : ℕ) → Reads 1 9 d e → (a : ExprTree) → SoundBehind d a (behind_at e a)
unfolding behind_at
behind_sound e d he a ss ts x rest ha eq = behind_by_sound e d he a (next_assignment ts) ss ts x rest ha eq

simple_by_sound : (e f : Parser ExprTree) (d : ℕ) → Reads 1 9 d e → Reads 0 1 d f → (o : Option StepOperator) (ts : List Token) (x : Simple) (rest : List Token) → simple_by e f o ts ≡ ok x rest → Done d ts x rest
simple_by_sound e f d he hf None ts x rest eq =
    let a = bind_ok {r = f ts} eq in
    behind_sound e d he a.0.0 ts a.0.1 x rest (hf ts a.0.0 a.0.1 a.1) a.2
simple_by_sound e f d he hf (Some o) ts x rest eq = step_before_sound f d hf o ts x rest eq

pub simple_sound : (e f : Parser ExprTree) (d : ℕ) → Reads 1 9 d e → Reads 0 1 d f → (ts : List Token) (x : Simple) (rest : List Token) → simple_at e f ts ≡ ok x rest → Done d ts x rest
unfolding simple_at
simple_sound e f d he hf ts x rest eq = simple_by_sound e f d he hf (next_step ts) ts x rest eq

-- what stands first in a `for` was read
abbrev pub Began : ℕ → List Token → First → List Token → Type 0
Began d ts x rest = (first x ts ≡ Some rest) × (first_nesting x ≤ d)

first_declaration_sound : (e : Parser ExprTree) (d : ℕ) → Reads 1 9 d e → (ts : List Token) (x : First) (rest : List Token) → first_declaration_at e ts ≡ ok x rest → Began d ts x rest
unfolding first_declaration_at declared_at value_at
first_declaration_sound e d he ts x rest eq =
    let p = bind_ok {r = declared_at ts} eq in
    let t = bind_ok {r = ctype_at Real ts} p.1 in
    let n = bind_ok {r = name_at Real t.0.1} t.2 in
    let tn = moved (λ (y : CType × Name) r. (us : List Token) × (ctype Real y.0 ts ≡ Some us) × (name Real y.1 us ≡ Some r)) n.2 (t.0.1, ctype_walk Real ts t.0.0 t.0.1 t.1, name_walk Real t.0.1 n.0.0 n.0.1 n.1) in
    let v = bind_ok {r = value_at e p.0.1} p.2 in
    let m = bind_ok {r = mark_at Real punctuators.Becomes p.0.1} v.1 in
    let mw = mark_walk Real punctuators.Becomes p.0.1 m.0.0 m.0.1 m.1 in
    let aw = he m.0.1 v.0.0 v.0.1 m.2 in
    moved (λ y r. Began d ts y r) v.2 (rw (tn.1, tn.2, mw.1) aw.walk, aw.deep)

pub first_sound : (e f : Parser ExprTree) (d : ℕ) → Reads 1 9 d e → Reads 0 1 d f → (ts : List Token) (x : First) (rest : List Token) → first_at e f ts ≡ ok x rest → Began d ts x rest
unfolding first_at
first_sound e f d he hf ts x rest eq =
    elim (chose (sees_declaration ts) _ _ _ eq) [
      | inl h ↦ first_declaration_sound e d he ts x rest h.1
      | inr h ↦
          let a = bind_ok {r = simple_at e f ts} h.1 in
          moved (λ y r. Began d ts y r) a.2 (simple_sound e f d he hf ts a.0.0 a.0.1 a.1)
    ]
