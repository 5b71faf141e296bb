-- The ghost commands in which no other stands are spelled, and nest no deeper than is allowed.
use Rattle.std.proofs.Common.{◌≡◌, ℕ, ◌+◌, ◌≤◌, Bool, true, false, List, Option, Some, None, refl, sym, subst, arith, inl, inr}
use Rattle.vf_base.specs.declared.place.Place.{Place}
use Rattle.vf_lexer.specs.declared.punctuator.Punctuator.TheVariants as punctuators
use Rattle.vf_lexer.specs.declared.token.Token.{Token}
use Rattle.vf_syntax.specs.declared.keyword.Keyword.TheVariants as keywords
use Rattle.vf_syntax.specs.declared.side.Side.TheVariants.{Ghost}
use Rattle.vf_syntax.specs.GhostCommandTree.{GhostCommandTree}
use Rattle.vf_syntax.specs.GhostCommandTree as tree
use Rattle.vf_syntax.specs.Walks.{Walk, at, mark, word, head_has, is_mark, is_word}
use Rattle.vf_syntax.specs.Written.{name}
use Rattle.vf_syntax.specs.Lists.{optional, greatest, or_none}
use Rattle.vf_syntax.specs.Assertions.{share, pattern_list, pattern_nesting}
use Rattle.vf_syntax.specs.Commands.{command, command_nesting}
use Rattle.vf_cursor.specs.Parsing.{ok, here_at, mark_at, word_at, name_at}
use Rattle.vf_cursor.proofs.Facts.{bind_ok, moved, chose}
use Rattle.vf_parse_term.specs.Sorts.{sort_at}
use Rattle.vf_parse_term.specs.Terms.{term_at, arguments_at}
use Rattle.vf_parse_term.proofs.Taken.{here_sound, mark_sound, word_sound, name_sound}
use Rattle.vf_parse_term.proofs.SortsRead.{sort_sound}
use Rattle.vf_parse_term.proofs.TermsRead.{term_sound, arguments_sound}
use Rattle.vf_parse_pattern.specs.Shares.{any_share_at}
use Rattle.vf_parse_pattern.specs.Patterns.{patterns_at, any_patterns_at}
use Rattle.vf_parse_pattern.proofs.SharesRead.{any_share_sound}
use Rattle.vf_parse_pattern.proofs.PatternsRead.{patterns_sound, any_patterns_sound}
use Rattle.vf_parse_assertion.specs.Parsers.{assertion_at}
use Rattle.vf_parse_assertion.proofs.PartsRead.{assertion_sound}
use Rattle.vf_parse_command.specs.declared.flat.Target.{Target}
use Rattle.vf_parse_command.specs.Flats.{sees_assignment, sees_call, applied_at, open_at, close_at, leak_at, assert_at, declaration_at, assignment_at, call_at, value_at, flat_at}

-- tokens spell a ghost command, in which so many nest at most
abbrev IsCommand : ℕ → List Token → GhostCommandTree → List Token → Type 0
IsCommand d ts x rest = (command x ts ≡ Some rest) × (command_nesting x ≤ d)

-- what stands behind `open` and `close`
pub record IsApplied (d : ℕ) (ts : List Token) (x : Target) (rest : List Token) : Type 0 where
  pub shared : List Token
  pub named : List Token
  pub listed : List Token
  pub behind : List Token
  pub share : optional share x.share ts ≡ Some shared
  pub name : name Ghost x.name shared ≡ Some named
  pub first : pattern_list x.first named ≡ Some listed
  pub second : optional pattern_list x.second listed ≡ Some behind
  pub semicolon : mark Ghost punctuators.Semicolon behind ≡ Some rest
  pub first_deep : greatest pattern_nesting x.first ≤ d
  pub second_deep : or_none (greatest pattern_nesting) x.second ≤ d

applied_sound : (d : ℕ) (ts : List Token) (x : Target) (rest : List Token) → applied_at d ts ≡ ok x rest → IsApplied d ts x rest
unfolding applied_at
applied_sound d ts x rest eq =
    let s = bind_ok {r = any_share_at ts} eq in
    let n = bind_ok {r = name_at Ghost s.0.1} s.2 in
    let xs = bind_ok {r = patterns_at d n.0.1} n.2 in
    let ys = bind_ok {r = any_patterns_at d xs.0.1} xs.2 in
    let z = bind_ok {r = mark_at Ghost punctuators.Semicolon ys.0.1} ys.2 in
    let one = patterns_sound d n.0.1 xs.0.0 xs.0.1 xs.1 in
    let two = any_patterns_sound d xs.0.1 ys.0.0 ys.0.1 ys.1 in
    moved (λ (y : Target) r. IsApplied d ts y r) z.2 (record {
      shared = s.0.1;
      named = n.0.1;
      listed = xs.0.1;
      behind = ys.0.1;
      share = (any_share_sound ts s.0.0 s.0.1 s.1).0;
      name = (name_sound Ghost s.0.1 n.0.0 n.0.1 n.1).0;
      first = one.0;
      second = two.0;
      semicolon = (mark_sound Ghost punctuators.Semicolon ys.0.1 z.0.0 z.0.1 z.1).0;
      first_deep = one.1;
      second_deep = two.1;
    })

open_sound : (d : ℕ) (ts : List Token) (x : GhostCommandTree) (rest : List Token) → open_at d ts ≡ ok x rest → IsCommand d ts x rest
unfolding open_at
open_sound d ts x rest eq =
    let w = bind_ok {r = word_at Ghost keywords.Open ts} eq in
    let y = bind_ok {r = applied_at d w.0.1} w.2 in
    let k = applied_sound d w.0.1 y.0.0 y.0.1 y.1 in
    let first = word_sound Ghost keywords.Open ts w.0.0 w.0.1 w.1 in
    let one = k.first_deep in
    let two = k.second_deep in
    moved (λ z r. IsCommand d ts z r) y.2 (rw (first.1, first.0, k.share, k.name, k.first, k.second) (k.semicolon), omega (arith, one, two))

close_sound : (d : ℕ) (ts : List Token) (x : GhostCommandTree) (rest : List Token) → close_at d ts ≡ ok x rest → IsCommand d ts x rest
unfolding close_at
close_sound d ts x rest eq =
    let w = bind_ok {r = word_at Ghost keywords.Close ts} eq in
    let y = bind_ok {r = applied_at d w.0.1} w.2 in
    let k = applied_sound d w.0.1 y.0.0 y.0.1 y.1 in
    let first = word_sound Ghost keywords.Close ts w.0.0 w.0.1 w.1 in
    let one = k.first_deep in
    let two = k.second_deep in
    moved (λ z r. IsCommand d ts z r) y.2 (rw (first.1, first.0, k.share, k.name, k.first, k.second) (k.semicolon), omega (arith, one, two))

leak_sound : (d : ℕ) (ts : List Token) (x : GhostCommandTree) (rest : List Token) → leak_at d ts ≡ ok x rest → IsCommand d ts x rest
unfolding leak_at
leak_sound d ts x rest eq =
    let w = bind_ok {r = word_at Ghost keywords.Leak ts} eq in
    let a = bind_ok {r = assertion_at d w.0.1} w.2 in
    let z = bind_ok {r = mark_at Ghost punctuators.Semicolon a.0.1} a.2 in
    let first = word_sound Ghost keywords.Leak ts w.0.0 w.0.1 w.1 in
    let k = assertion_sound d w.0.1 a.0.0 a.0.1 a.1 in
    moved (λ y r. IsCommand d ts y r) z.2 (rw (first.1, first.0, k.0) (mark_sound Ghost punctuators.Semicolon a.0.1 z.0.0 z.0.1 z.1).0, k.1)

assert_sound : (d : ℕ) (ts : List Token) (x : GhostCommandTree) (rest : List Token) → assert_at d ts ≡ ok x rest → IsCommand d ts x rest
unfolding assert_at
assert_sound d ts x rest eq =
    let w = bind_ok {r = word_at Ghost keywords.Assert ts} eq in
    let a = bind_ok {r = assertion_at d w.0.1} w.2 in
    let z = bind_ok {r = mark_at Ghost punctuators.Semicolon a.0.1} a.2 in
    let first = word_sound Ghost keywords.Assert ts w.0.0 w.0.1 w.1 in
    let k = assertion_sound d w.0.1 a.0.0 a.0.1 a.1 in
    moved (λ y r. IsCommand d ts y r) z.2 (rw (first.1, first.0, k.0) (mark_sound Ghost punctuators.Semicolon a.0.1 z.0.0 z.0.1 z.1).0, k.1)

declaration_sound : (d : ℕ) (ts : List Token) (x : GhostCommandTree) (rest : List Token) → declaration_at d ts ≡ ok x rest → IsCommand d ts x rest
unfolding declaration_at
declaration_sound d ts x rest eq =
    let p = bind_ok {r = here_at ts} eq in
    let s = bind_ok {r = sort_at d p.0.1} p.2 in
    let n = bind_ok {r = name_at Ghost s.0.1} s.2 in
    let m = bind_ok {r = mark_at Ghost punctuators.Becomes n.0.1} n.2 in
    let e = bind_ok {r = term_at d m.0.1} m.2 in
    let z = bind_ok {r = mark_at Ghost punctuators.Semicolon e.0.1} e.2 in
    let here = here_sound ts p.0.0 p.0.1 p.1 in
    let same : sort_at d ts ≡ ok s.0.0 s.0.1 = subst (λ (r : List Token). sort_at d r ≡ ok s.0.0 s.0.1) here.0 s.1 in
    let one = sort_sound d ts s.0.0 s.0.1 same in
    let named = (name_sound Ghost s.0.1 n.0.0 n.0.1 n.1).0 in
    let becomes = (mark_sound Ghost punctuators.Becomes n.0.1 m.0.0 m.0.1 m.1).0 in
    let two = term_sound d m.0.1 e.0.0 e.0.1 e.1 in
    let low_one = one.1 in
    let low_two = two.1 in
    moved (λ y r. IsCommand d ts y r) z.2 (rw (here.1, one.0, named, becomes, two.0) (mark_sound Ghost punctuators.Semicolon e.0.1 z.0.0 z.0.1 z.1).0, omega (arith, low_one, low_two))

assignment_sound : (d : ℕ) (ts : List Token) (x : GhostCommandTree) (rest : List Token) → assignment_at d ts ≡ ok x rest → IsCommand d ts x rest
unfolding assignment_at
assignment_sound d ts x rest eq =
    let n = bind_ok {r = name_at Ghost ts} eq in
    let m = bind_ok {r = mark_at Ghost punctuators.Becomes n.0.1} n.2 in
    let e = bind_ok {r = term_at d m.0.1} m.2 in
    let z = bind_ok {r = mark_at Ghost punctuators.Semicolon e.0.1} e.2 in
    let named = name_sound Ghost ts n.0.0 n.0.1 n.1 in
    let becomes = (mark_sound Ghost punctuators.Becomes n.0.1 m.0.0 m.0.1 m.1).0 in
    let two = term_sound d m.0.1 e.0.0 e.0.1 e.1 in
    moved (λ y r. IsCommand d ts y r) z.2 (rw (named.1, named.2, becomes, two.0) (mark_sound Ghost punctuators.Semicolon e.0.1 z.0.0 z.0.1 z.1).0, two.1)

call_sound : (d : ℕ) (ts : List Token) (x : GhostCommandTree) (rest : List Token) → call_at d ts ≡ ok x rest → IsCommand d ts x rest
unfolding call_at
call_sound d ts x rest eq =
    let n = bind_ok {r = name_at Ghost ts} eq in
    let xs = bind_ok {r = arguments_at (term_at d) n.0.1} n.2 in
    let z = bind_ok {r = mark_at Ghost punctuators.Semicolon xs.0.1} xs.2 in
    let named = name_sound Ghost ts n.0.0 n.0.1 n.1 in
    let k = arguments_sound (term_at d) d (term_sound d) n.0.1 xs.0.0 xs.0.1 xs.1 in
    moved (λ y r. IsCommand d ts y r) z.2 (rw (named.1, named.2, k.2, k.3, k.4) (mark_sound Ghost punctuators.Semicolon xs.0.1 z.0.0 z.0.1 z.1).0, k.5)

value_sound : (d : ℕ) (ts : List Token) (x : GhostCommandTree) (rest : List Token) → value_at d ts ≡ ok x rest → IsCommand d ts x rest
unfolding value_at
value_sound d ts x rest eq =
    elim (chose (sees_assignment ts) _ _ _ eq) [
      | inl h ↦ assignment_sound d ts x rest h.1
      | inr g ↦
          elim (chose (sees_call ts) _ _ _ g.1) [
            | inl h ↦ call_sound d ts x rest h.1
            | inr h ↦ declaration_sound d ts x rest h.1
          ]
    ]

pub flat_sound : (d : ℕ) (ts : List Token) (x : GhostCommandTree) (rest : List Token) → flat_at d ts ≡ ok x rest → IsCommand d ts x rest
unfolding flat_at
flat_sound d ts x rest eq =
    elim (chose (head_has (is_word Ghost keywords.Open) ts) _ _ _ eq) [
      | inl h ↦ open_sound d ts x rest h.1
      | inr g ↦
          elim (chose (head_has (is_word Ghost keywords.Close) ts) _ _ _ g.1) [
            | inl h ↦ close_sound d ts x rest h.1
            | inr g ↦
                elim (chose (head_has (is_word Ghost keywords.Leak) ts) _ _ _ g.1) [
                  | inl h ↦ leak_sound d ts x rest h.1
                  | inr g ↦
                      elim (chose (head_has (is_word Ghost keywords.Assert) ts) _ _ _ g.1) [
                        | inl h ↦ assert_sound d ts x rest h.1
                        | inr h ↦ value_sound d ts x rest h.1
                      ]
                ]
          ]
    ]
