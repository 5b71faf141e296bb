-- The patterns that are read are spelled, and nest no deeper than is allowed.
use Rattle.std.proofs.Common.{◌≡◌, ℕ, ◌≤◌, Bool, true, false, List, [], ◌∷◌, ◌++◌, Option, Some, None, refl, sym, subst, ◌∙◌, arith, inl, inr}
use Rattle.vf_lexer.specs.declared.punctuator.Punctuator.TheVariants as punctuators
use Rattle.vf_lexer.specs.declared.token.Token.{Token}
use Rattle.vf_syntax.specs.declared.side.Side.TheVariants.{Ghost}
use Rattle.vf_syntax.specs.declared.written.Name.{Name}
use Rattle.vf_syntax.specs.declared.pattern.Pattern.{Pattern}
use Rattle.vf_syntax.specs.declared.pattern.CasePattern.{CasePattern}
use Rattle.vf_syntax.specs.Walks.{Walk, goes_on, ◌⨾◌, at, head_has, is_mark, is_wild, mark}
use Rattle.vf_syntax.specs.Written.{name}
use Rattle.vf_syntax.specs.Lists.{optional, separated, greatest, or_none}
use Rattle.vf_syntax.specs.Assertions.{pattern, pattern_list, name_list, case_pattern, pattern_nesting}
use Rattle.vf_cursor.specs.Parsing.{Parser, ok, ◌>>=◌, mark_at, wild_at, name_at}
use Rattle.vf_cursor.proofs.Facts.{bind_ok, moved, chose}
use Rattle.vf_parse_term.specs.Pieces.{any_at}
use Rattle.vf_parse_term.specs.Terms.{term_at}
use Rattle.vf_parse_term.specs.Laws.{IsSpelled}
use Rattle.vf_parse_term.proofs.Taken.{mark_sound, wild_sound, name_sound}
use Rattle.vf_parse_term.proofs.Lists.{any_sound}
use Rattle.vf_parse_term.proofs.TermsRead.{term_sound}
use Rattle.vf_parse_pattern.specs.Laws.{flat}
use Rattle.vf_parse_pattern.specs.Patterns.{pattern_at, patterns_at, any_patterns_at, names_at, any_names_at, case_pattern_at}

-- a pattern is spelled, and nests at most so deep
abbrev IsPattern : ℕ → List Token → Pattern → List Token → Type 0
IsPattern d ts x rest = (pattern x ts ≡ Some rest) × (pattern_nesting x ≤ d)

pub pattern_sound : (d : ℕ) → IsSpelled (pattern_at d) pattern pattern_nesting d
unfolding pattern_at pattern
pattern_sound d ts x rest e =
    elim (chose (head_has (is_mark Ghost punctuators.Question) ts) _ _ _ e) [
      | inl h ↦
          let q = bind_ok {r = mark_at Ghost punctuators.Question ts} h.1 in
          let n = bind_ok {r = name_at Ghost q.0.1} q.2 in
          let m = mark_sound Ghost punctuators.Question ts q.0.0 q.0.1 q.1 in
          moved (λ y r. IsPattern d ts y r) n.2 (rw (m.1, m.0) (name_sound Ghost q.0.1 n.0.0 n.0.1 n.1).0, omega arith)
      | inr g ↦
          elim (chose (head_has is_wild ts) _ _ _ g.1) [
            | inl h ↦
                let p = bind_ok {r = wild_at ts} h.1 in
                let w = wild_sound ts p.0.0 p.0.1 p.1 in
                moved (λ y r. IsPattern d ts y r) p.2 (rw (w.1) (w.0), omega arith)
            | inr h ↦ let t = bind_ok {r = term_at d ts} h.1 in moved (λ y r. IsPattern d ts y r) t.2 (term_sound d ts t.0.0 t.0.1 t.1)
          ]
    ]

-- patterns between parentheses are spelled, and nest at most so deep
abbrev ArePatterns : ℕ → List Token → List Pattern → List Token → Type 0
ArePatterns d ts xs rest = (pattern_list xs ts ≡ Some rest) × (greatest pattern_nesting xs ≤ d)

pub patterns_sound : (d : ℕ) → IsSpelled (patterns_at d) pattern_list (greatest pattern_nesting) d
unfolding patterns_at pattern_list
patterns_sound d ts x rest e =
    let a = bind_ok {r = mark_at Ghost punctuators.OpenParenthesis ts} e in
    let xs = bind_ok {r = any_at (is_mark Ghost punctuators.CloseParenthesis) (pattern_at d) a.0.1} a.2 in
    let z = bind_ok {r = mark_at Ghost punctuators.CloseParenthesis xs.0.1} xs.2 in
    let k = any_sound (is_mark Ghost punctuators.CloseParenthesis) (pattern_at d) pattern pattern_nesting d (pattern_sound d) a.0.1 xs.0.0 xs.0.1 xs.1 in
    let opens = mark_sound Ghost punctuators.OpenParenthesis ts a.0.0 a.0.1 a.1 in
    let closes = mark_sound Ghost punctuators.CloseParenthesis xs.0.1 z.0.0 z.0.1 z.1 in
    moved (λ y r. ArePatterns d ts y r) z.2 (rw (opens.0, k.0) (closes.0), k.1)

pub any_patterns_sound : (d : ℕ) → IsSpelled (any_patterns_at d) (optional pattern_list) (or_none (greatest pattern_nesting)) d
unfolding any_patterns_at
any_patterns_sound d ts x rest e =
    elim (chose (head_has (is_mark Ghost punctuators.OpenParenthesis) ts) _ _ _ e) [
      | inl h ↦ let xs = bind_ok {r = patterns_at d ts} h.1 in moved (λ (y : Option (List Pattern)) r. (optional pattern_list y ts ≡ Some r) × (or_none (greatest pattern_nesting) y ≤ d)) xs.2 (patterns_sound d ts xs.0.0 xs.0.1 xs.1)
      | inr h ↦ moved (λ (y : Option (List Pattern)) r. (optional pattern_list y ts ≡ Some r) × (or_none (greatest pattern_nesting) y ≤ d)) h.1 (refl, omega arith)
    ]

one_name_sound : IsSpelled (name_at Ghost) (name Ghost) flat 0
one_name_sound ts x rest e = ((name_sound Ghost ts x rest e).0, omega arith)

names_sound : (ts : List Token) (xs : List Name) (rest : List Token) → names_at ts ≡ ok xs rest → name_list xs ts ≡ Some rest
unfolding names_at name_list
names_sound ts x rest e =
    let a = bind_ok {r = mark_at Ghost punctuators.OpenParenthesis ts} e in
    let xs = bind_ok {r = any_at (is_mark Ghost punctuators.CloseParenthesis) (name_at Ghost) a.0.1} a.2 in
    let z = bind_ok {r = mark_at Ghost punctuators.CloseParenthesis xs.0.1} xs.2 in
    let k = any_sound (is_mark Ghost punctuators.CloseParenthesis) (name_at Ghost) (name Ghost) flat 0 one_name_sound a.0.1 xs.0.0 xs.0.1 xs.1 in
    let opens = mark_sound Ghost punctuators.OpenParenthesis ts a.0.0 a.0.1 a.1 in
    let closes = mark_sound Ghost punctuators.CloseParenthesis xs.0.1 z.0.0 z.0.1 z.1 in
    moved (λ (y : List Name) r. name_list y ts ≡ Some r) z.2 (rw (opens.0, k.0) (closes.0))

any_names_sound : (ts : List Token) (x : Option (List Name)) (rest : List Token) → any_names_at ts ≡ ok x rest → optional name_list x ts ≡ Some rest
unfolding any_names_at
any_names_sound ts x rest e =
    elim (chose (head_has (is_mark Ghost punctuators.OpenParenthesis) ts) _ _ _ e) [
      | inl h ↦ let xs = bind_ok {r = names_at ts} h.1 in moved (λ (y : Option (List Name)) r. optional name_list y ts ≡ Some r) xs.2 (names_sound ts xs.0.0 xs.0.1 xs.1)
      | inr h ↦ moved (λ (y : Option (List Name)) r. optional name_list y ts ≡ Some r) h.1 refl
    ]

pub case_pattern_sound : IsSpelled case_pattern_at case_pattern flat 0
unfolding case_pattern_at case_pattern
case_pattern_sound ts x rest e =
    let n = bind_ok {r = name_at Ghost ts} e in
    let xs = bind_ok {r = any_names_at n.0.1} n.2 in
    moved (λ (y : CasePattern) r. (case_pattern y ts ≡ Some r) × (flat y ≤ 0)) xs.2 (rw ((name_sound Ghost ts n.0.0 n.0.1 n.1).0) (any_names_sound n.0.1 xs.0.0 xs.0.1 xs.1), omega arith)
