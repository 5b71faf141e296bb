-- The ghost parameters and type parameters that are read are spelled, and nest no deeper than is allowed.
use Rattle.std.proofs.Common.{◌≡◌, ℕ, ◌≤◌, Bool, true, false, List, [], ◌∷◌, ◌++◌, length, Some, refl, sym, subst, ap, ◌∙◌, arith, inl, inr}
use Rattle.std.specs.Prelude.{max, if◌then◌else◌}
use Rattle.vf_lexer.specs.declared.punctuator.Punctuator.TheVariants as punctuators
use Rattle.vf_lexer.specs.declared.token.Token.{Token}
use Rattle.vf_syntax.specs.declared.side.Side.TheVariants.{Ghost}
use Rattle.vf_syntax.specs.declared.written.Name.{Name}
use Rattle.vf_syntax.specs.declared.item.GhostParameter.{GhostParameter}
use Rattle.vf_syntax.specs.Walks.{Walk, goes_on, ◌⨾◌, head_has, is_mark, mark}
use Rattle.vf_syntax.specs.Written.{name}
use Rattle.vf_syntax.specs.Lists.{each, behind_commas, separated, greatest}
use Rattle.vf_syntax.specs.Units.{ghost_parameter, more_ghost_parameters, first_ghost_parameter, ghost_parameters_inside, ghost_parameters, type_parameters, ghost_parameter_nesting}
use Rattle.vf_cursor.specs.Parsing.{ok, mark_at, name_at}
use Rattle.vf_cursor.proofs.Facts.{bind_ok, moved, chose}
use Rattle.vf_parse_term.specs.Pieces.{some_at}
use Rattle.vf_parse_term.specs.Sorts.{sort_at}
use Rattle.vf_parse_term.specs.Laws.{IsSpelled}
use Rattle.vf_parse_term.proofs.Taken.{mark_sound, name_sound}
use Rattle.vf_parse_term.proofs.Lists.{assoc_walk, through, items_sound, some_sound}
use Rattle.vf_parse_term.proofs.SortsRead.{sort_sound}
use Rattle.vf_parse_pattern.specs.Laws.{flat}
use Rattle.vf_parse_ghost.specs.declared.parameters.Heading.{Heading}
use Rattle.vf_parse_ghost.specs.Parameters.{parameter_at, is_separator, next_parameter_at, parameter_step, more_parameters_at, parameters_inside_at, parameters_at, type_parameters_at, head_at}

-- a parameter is spelled behind what it is said to stand behind, and nests at most so deep
pub record IsParameter (b : Bool) (d : ℕ) (ts : List Token) (x : GhostParameter) (rest : List Token) : Type 0 where
  pub form : x.after_semicolon ≡ b
  pub walk : ghost_parameter x ts ≡ Some rest
  pub deep : ghost_parameter_nesting x ≤ d

pub parameter_sound : (b : Bool) (d : ℕ) (ts : List Token) (x : GhostParameter) (rest : List Token) → parameter_at b d ts ≡ ok x rest → IsParameter b d ts x rest
unfolding parameter_at ghost_parameter
parameter_sound b d ts x rest eq =
    let s = bind_ok {r = sort_at d ts} eq in
    let n = bind_ok {r = name_at Ghost s.0.1} s.2 in
    let k = sort_sound d ts s.0.0 s.0.1 s.1 in
    moved (λ (y : GhostParameter) r. IsParameter b d ts y r) n.2 (record { form = refl; walk = rw (k.0) (name_sound Ghost s.0.1 n.0.0 n.0.1 n.1).0; deep = k.1 })

-- a parameter and what stands in front of it
abbrev pub next_walk : GhostParameter → Walk
next_walk x = mark Ghost (if x.after_semicolon then punctuators.Semicolon else punctuators.Comma) ⨾ ghost_parameter x

behind_semicolon : (x : GhostParameter) (ts mid rest : List Token) → x.after_semicolon ≡ true → mark Ghost punctuators.Semicolon ts ≡ Some mid → ghost_parameter x mid ≡ Some rest → next_walk x ts ≡ Some rest
unfolding ghost_parameter
behind_semicolon x ts mid rest h one two = rw (h, one) two

behind_comma : (x : GhostParameter) (ts mid rest : List Token) → x.after_semicolon ≡ false → mark Ghost punctuators.Comma ts ≡ Some mid → ghost_parameter x mid ≡ Some rest → next_walk x ts ≡ Some rest
unfolding ghost_parameter
behind_comma x ts mid rest h one two = rw (h, one) two

next_parameter_sound : (d : ℕ) → IsSpelled (next_parameter_at d) next_walk ghost_parameter_nesting d
unfolding next_parameter_at
next_parameter_sound d ts x rest eq =
    elim (chose (head_has (is_mark Ghost punctuators.Semicolon) ts) _ _ _ eq) [
      | inl h ↦
          let m = bind_ok {r = mark_at Ghost punctuators.Semicolon ts} h.1 in
          let k = parameter_sound true d m.0.1 x rest m.2 in
          (behind_semicolon x ts m.0.1 rest k.form (mark_sound Ghost punctuators.Semicolon ts m.0.0 m.0.1 m.1).0 k.walk, k.deep)
      | inr h ↦
          let m = bind_ok {r = mark_at Ghost punctuators.Comma ts} h.1 in
          let k = parameter_sound false d m.0.1 x rest m.2 in
          (behind_comma x ts m.0.1 rest k.form (mark_sound Ghost punctuators.Comma ts m.0.0 m.0.1 m.1).0 k.walk, k.deep)
    ]

more_same : (xs : List GhostParameter) → each next_walk xs ≡ more_ghost_parameters xs
more_same [] = refl
more_same (x ∷ xs) = assoc_walk (mark Ghost (if x.after_semicolon then punctuators.Semicolon else punctuators.Comma)) (ghost_parameter x) (each next_walk xs)
    ∙ ap (λ (W : Walk). mark Ghost (if x.after_semicolon then punctuators.Semicolon else punctuators.Comma) ⨾ ghost_parameter x ⨾ W) (more_same xs)

-- parameters are spelled, and nest at most so deep
abbrev AreInside : ℕ → List Token → List GhostParameter → List Token → Type 0
AreInside d ts xs rest = (ghost_parameters_inside xs ts ≡ Some rest) × (greatest ghost_parameter_nesting xs ≤ d)

inside_of : (d : ℕ) (x : GhostParameter) (xs : List GhostParameter) (ts mid rest : List Token) → IsParameter false d ts x mid → more_ghost_parameters xs mid ≡ Some rest → greatest ghost_parameter_nesting xs ≤ d → AreInside d ts (x ∷ xs) rest
unfolding ghost_parameter
inside_of d x xs ts mid rest one others low = let deep = one.deep in (rw (one.form, one.walk) others, omega (arith, deep, low))

inside_sound : (d : ℕ) (ts : List Token) (xs : List GhostParameter) (rest : List Token) → parameters_inside_at d ts ≡ ok xs rest → AreInside d ts xs rest
unfolding parameters_inside_at parameter_step
inside_sound d ts xs rest eq =
    elim (chose (head_has (is_mark Ghost punctuators.CloseParenthesis) ts) _ _ _ eq) [
      | inl h ↦ moved (λ (y : List GhostParameter) r. AreInside d ts y r) h.1 (refl, omega arith)
      | inr h ↦
          let x = bind_ok {r = parameter_at false d ts} h.1 in
          let k = items_sound (next_parameter_at d) next_walk ghost_parameter_nesting d (next_parameter_sound d) is_separator (length x.0.1) (x.0.0 ∷ []) x.0.1 xs rest x.2 in
          let others : more_ghost_parameters k.0 x.0.1 ≡ Some rest = subst (λ (W : Walk). W x.0.1 ≡ Some rest) (more_same k.0) k.2 in
          let whole : AreInside d ts (x.0.0 ∷ k.0) rest = inside_of d x.0.0 k.0 ts x.0.1 rest (parameter_sound false d ts x.0.0 x.0.1 x.1) others k.3 in
          subst (λ (y : List GhostParameter). AreInside d ts y rest) (sym k.1) whole
    ]

-- parameters between parentheses are spelled, and nest at most so deep
abbrev AreParameters : ℕ → List Token → List GhostParameter → List Token → Type 0
AreParameters d ts xs rest = (ghost_parameters xs ts ≡ Some rest) × (greatest ghost_parameter_nesting xs ≤ d)

parameters_walk : (xs : List GhostParameter) (ts inside behind rest : List Token) → mark Ghost punctuators.OpenParenthesis ts ≡ Some inside → ghost_parameters_inside xs inside ≡ Some behind → mark Ghost punctuators.CloseParenthesis behind ≡ Some rest → ghost_parameters xs ts ≡ Some rest
unfolding ghost_parameters
parameters_walk xs ts inside behind rest opens walk closes = rw (opens, walk) closes

pub parameters_sound : (d : ℕ) → IsSpelled (parameters_at d) ghost_parameters (greatest ghost_parameter_nesting) d
unfolding parameters_at
parameters_sound d ts xs rest eq =
    let o = bind_ok {r = mark_at Ghost punctuators.OpenParenthesis ts} eq in
    let ys = bind_ok {r = parameters_inside_at d o.0.1} o.2 in
    let z = bind_ok {r = mark_at Ghost punctuators.CloseParenthesis ys.0.1} ys.2 in
    let k = inside_sound d o.0.1 ys.0.0 ys.0.1 ys.1 in
    let opens = (mark_sound Ghost punctuators.OpenParenthesis ts o.0.0 o.0.1 o.1).0 in
    let closes = (mark_sound Ghost punctuators.CloseParenthesis ys.0.1 z.0.0 z.0.1 z.1).0 in
    moved (λ (y : List GhostParameter) r. AreParameters d ts y r) z.2 (parameters_walk ys.0.0 ts o.0.1 ys.0.1 z.0.1 opens k.0 closes, k.1)

one_name_sound : IsSpelled (name_at Ghost) (name Ghost) flat 0
one_name_sound ts x rest e = ((name_sound Ghost ts x rest e).0, omega arith)

names_walk : (x : Name) (xs : List Name) (ts inside behind rest : List Token) → mark Ghost punctuators.Less ts ≡ Some inside → separated Ghost (name Ghost) (x ∷ xs) inside ≡ Some behind → mark Ghost punctuators.Greater behind ≡ Some rest → type_parameters (x ∷ xs) ts ≡ Some rest
unfolding type_parameters
names_walk x xs ts inside behind rest opens walk closes = rw opens (through (name Ghost x) (behind_commas Ghost (name Ghost) xs) (mark Ghost punctuators.Greater) inside behind (Some rest) walk closes)

no_types : (ts : List Token) → type_parameters [] ts ≡ Some ts
unfolding type_parameters
no_types ts = refl

pub type_parameters_sound : (ts : List Token) (xs : List Name) (rest : List Token) → type_parameters_at ts ≡ ok xs rest → type_parameters xs ts ≡ Some rest
unfolding type_parameters_at
type_parameters_sound ts xs rest eq =
    elim (chose (head_has (is_mark Ghost punctuators.Less) ts) _ _ _ eq) [
      | inl h ↦
          let o = bind_ok {r = mark_at Ghost punctuators.Less ts} h.1 in
          let ys = bind_ok {r = some_at (name_at Ghost) o.0.1} o.2 in
          let z = bind_ok {r = mark_at Ghost punctuators.Greater ys.0.1} ys.2 in
          let k = some_sound (name_at Ghost) (name Ghost) flat 0 one_name_sound o.0.1 ys.0.0 ys.0.1 ys.1 in
          let opens = (mark_sound Ghost punctuators.Less ts o.0.0 o.0.1 o.1).0 in
          let closes = (mark_sound Ghost punctuators.Greater ys.0.1 z.0.0 z.0.1 z.1).0 in
          let walk = names_walk k.0 k.1 ts o.0.1 ys.0.1 z.0.1 opens k.3 closes in
          moved (λ (y : List Name) r. type_parameters y ts ≡ Some r) z.2 (subst (λ (y : List Name). type_parameters y ts ≡ Some z.0.1) (sym k.2) walk)
      | inr h ↦ moved (λ (y : List Name) r. type_parameters y ts ≡ Some r) h.1 (no_types ts)
    ]

-- a name, type parameters and parameters
pub record IsHead (d : ℕ) (ts : List Token) (h : Heading) (rest : List Token) : Type 0 where
  pub named : List Token
  pub typed : List Token
  pub first : name Ghost h.name ts ≡ Some named
  pub types : type_parameters h.type_parameters named ≡ Some typed
  pub parameters : ghost_parameters h.parameters typed ≡ Some rest
  pub deep : greatest ghost_parameter_nesting h.parameters ≤ d

pub head_sound : (d : ℕ) (ts : List Token) (h : Heading) (rest : List Token) → head_at d ts ≡ ok h rest → IsHead d ts h rest
unfolding head_at
head_sound d ts h rest eq =
    let n = bind_ok {r = name_at Ghost ts} eq in
    let xs = bind_ok {r = type_parameters_at n.0.1} n.2 in
    let ps = bind_ok {r = parameters_at d xs.0.1} xs.2 in
    let k = parameters_sound d xs.0.1 ps.0.0 ps.0.1 ps.1 in
    moved (λ (y : Heading) r. IsHead d ts y r) ps.2 (record {
      named = n.0.1;
      typed = xs.0.1;
      first = (name_sound Ghost ts n.0.0 n.0.1 n.1).0;
      types = type_parameters_sound n.0.1 xs.0.0 xs.0.1 xs.1;
      parameters = k.0;
      deep = k.1;
    })
