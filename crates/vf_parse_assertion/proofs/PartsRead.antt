-- The assertions that are read are spelled, and nest no deeper than is allowed.
use Rattle.std.proofs.Common.{◌≡◌, ℕ, zero, suc, ◌+◌, ◌≤◌, Bool, true, false, List, [], ◌∷◌, ◌++◌, length, Option, Some, None, refl, sym, subst, ap, ◌∙◌, append_assoc, arith, ◌⊎◌, inl, inr}
use Rattle.std.specs.Prelude.{max, not, ◌&&◌, ◌||◌, if◌then◌else◌}
use Rattle.std.proofs.lemmas.List.{append-nil}
use Rattle.vf_base.specs.declared.place.Place.{Place}
use Rattle.vf_lexer.specs.declared.punctuator.Punctuator.TheVariants as punctuators
use Rattle.vf_lexer.specs.declared.token.Token.{Token}
use Rattle.vf_syntax.specs.declared.keyword.Keyword.TheVariants as keywords
use Rattle.vf_syntax.specs.declared.side.Side.TheVariants.{Ghost}
use Rattle.vf_syntax.specs.GhostExprTree.{GhostExprTree}
use Rattle.vf_syntax.specs.AssertionTree.{PartTree, PartTrees, no_part, more_part, part_list, AssertionCaseTree, AssertionCaseTrees, assertion_case_list}
use Rattle.vf_syntax.specs.AssertionTree as tree
use Rattle.vf_syntax.specs.Walks.{Walk, goes_on, ◌⨾◌, at, mark, word, head_has, is_mark, is_word}
use Rattle.vf_syntax.specs.Lists.{each, greatest}
use Rattle.vf_syntax.specs.GhostExpressions.{ghost_expr, ghost_nesting}
use Rattle.vf_syntax.specs.Assertions.{case_pattern, is_value, is_lone_value, is_content, is_expression, is_conditional, is_conditional_last, part, assertion, more_parts, assertion_case, assertion_cases, part_nesting, parts_nesting, case_nesting, cases_nesting}
use Rattle.vf_cursor.specs.Parsing.{Parser, ok, ◌>>=◌, here_at, mark_at, word_at, many_at, many, item_step}
use Rattle.vf_cursor.proofs.Facts.{bind_ok, ok_pair, moved, chose, no_true}
use Rattle.vf_parse_term.specs.Terms.{term_at, rest_at, operand_at}
use Rattle.vf_parse_term.specs.Laws.{IsSpelled, IsTerm}
use Rattle.vf_parse_term.proofs.Taken.{here_sound, mark_sound, word_sound}
use Rattle.vf_parse_term.proofs.Lists.{through, items_sound}
use Rattle.vf_parse_term.proofs.SortsRead.{too_deep_never}
use Rattle.vf_parse_term.proofs.TermsRead.{term_sound, operand_sound, rest_sound}
use Rattle.vf_parse_pattern.specs.Patterns.{case_pattern_at}
use Rattle.vf_parse_pattern.proofs.PatternsRead.{case_pattern_sound}
use Rattle.vf_parse_chunk.specs.declared.pieces.Value.{Value}
use Rattle.vf_parse_chunk.specs.declared.pieces.Piece.{Piece}
use Rattle.vf_parse_chunk.specs.declared.pieces.Piece.TheVariants as pieces
use Rattle.vf_parse_chunk.specs.declared.pieces.Begun.{Begun}
use Rattle.vf_parse_chunk.specs.declared.pieces.Begun.TheVariants as begun
use Rattle.vf_parse_chunk.specs.Pieces.{part_of, term_of}
use Rattle.vf_parse_chunk.specs.Chunks.{begun_at, ended_at}
use Rattle.vf_parse_chunk.specs.Laws.{IsPart, IsTold, IsPiece, IsBegun}
use Rattle.vf_parse_chunk.proofs.ChunksRead.{begun_sound, ended_sound}
use Rattle.vf_parse_assertion.specs.declared.contents.Content.{Content}
use Rattle.vf_parse_assertion.specs.declared.contents.Content.TheVariants as contents
use Rattle.vf_parse_assertion.specs.Contents.{parts_of, enclosed, tree_of, chosen}
use Rattle.vf_parse_assertion.specs.Parsers.{begins_part, switch_head_at, case_head_at, return_head_at, case_at, case_step, cases_at, switch_at, enclosed_at, opening_at, second_branch_at, conditional_at, further_at, piece_by, piece_at, other_part_at, part_step, more_parts_at, several_at, joined_at, content_at, assertion_at}
use Rattle.vf_parse_assertion.specs.Laws.{assertion_walk, assertion_depth, AssertionsAreSpelled}
use Rattle.vf_parse_assertion.proofs.Plain.{IsPlain, begun_plain, ended_plain}

-- what the form of an assertion says of its tokens
abbrev IsToldContent : ℕ → List Token → Content → List Token → Type 0
IsToldContent d ts (contents.Lone x) rest = IsTold d ts x rest
IsToldContent d ts (contents.Several xs) rest = is_expression (part_list xs) ≡ false

-- tokens spell an assertion, whose parts nest at most so deep
pub record IsContent (d : ℕ) (ts : List Token) (c : Content) (rest : List Token) : Type 0 where
  pub walk : assertion (part_list (parts_of c)) ts ≡ Some rest
  pub deep : parts_nesting (part_list (parts_of c)) ≤ d
  pub told : IsToldContent d ts c rest

-- tokens spell an assertion, which nests at most so deep, itself counted
pub record IsInside (d : ℕ) (ts : List Token) (c : Content) (rest : List Token) : Type 0 where
  pub level : ℕ
  pub below : suc level ≤ d
  pub content : IsContent level ts c rest

-- what a parser reads is such an assertion
abbrev pub ReadsInside : ℕ → Parser Content → Type 0
ReadsInside d a = (ts : List Token) (c : Content) (rest : List Token) → a ts ≡ ok c rest → IsInside d ts c rest

-- a part is no conditional, or no part comes behind it
abbrev pub IsLast : PartTree → List Token → Type 0
IsLast x rest = (is_conditional x ≡ false) ⊎ (head_has (is_mark Ghost punctuators.SeparatingAnd) rest ≡ false)

-- a part is spelled, and where it is a conditional no part comes behind it
pub record IsWhole (d : ℕ) (ts : List Token) (x : Piece) (rest : List Token) : Type 0 where
  pub piece : IsPiece d ts x rest
  pub last : IsLast (part_of x) rest

not_content : (x : PartTree) → is_content x ≡ false → is_value x ≡ false
not_content (tree.conditional p c a b) h = refl
not_content x h = h

not_expression : (xs : PartTrees) → is_expression xs ≡ false → is_lone_value xs ≡ false
not_expression no_part h = refl
not_expression (more_part x no_part) h = not_content x h
not_expression (more_part x (more_part y ys)) h = refl

-- an assertion is one part that is an expression too, by its form
abbrev is_lone : Content → Bool
is_lone (contents.Lone (pieces.Value v)) = true
is_lone c = false

lone_told : (d : ℕ) (ts : List Token) (c : Content) (rest : List Token) → IsToldContent d ts c rest → is_lone_value (part_list (parts_of c)) ≡ is_lone c
lone_told d ts (contents.Lone (pieces.Value v)) rest h = h.2
lone_told d ts (contents.Lone (pieces.Conditional p c v w)) rest h = refl
lone_told d ts (contents.Lone (pieces.Other x)) rest h = not_content x h
lone_told d ts (contents.Several xs) rest h = not_expression (part_list xs) h

and_left : (a b : Bool) → a ≡ false → (a && b) ≡ false
and_left a b h = rw h refl

and_right : (a b : Bool) → b ≡ false → (a && b) ≡ false
and_right true b h = h
and_right false b h = refl

chosen_tree : (p : Place) (c : GhostExprTree) (x y : Content) → part_of (chosen p c x y) ≡ tree_of p c x y
chosen_tree p c (contents.Lone (pieces.Value v)) (contents.Lone (pieces.Value w)) = refl
chosen_tree p c (contents.Lone (pieces.Value v)) y = refl
chosen_tree p c x y = refl

-- what stands in a conditional behind its test
pub record Branches (d : ℕ) (ts : List Token) (x y : Content) (rest : List Token) : Type 0 where
  pub asked : List Token
  pub mid : List Token
  pub parted : List Token
  pub question : mark Ghost punctuators.Question ts ≡ Some asked
  pub first : IsInside d asked x mid
  pub colon : mark Ghost punctuators.Colon mid ≡ Some parted
  pub second : IsInside d parted y rest

conditional_walk : (p : Place) (c : GhostExprTree) (a b : PartTrees) (all ts asked mid parted rest : List Token) → at p all ≡ Some all → ghost_expr c all ≡ Some ts → mark Ghost punctuators.Question ts ≡ Some asked → assertion a asked ≡ Some mid
    → mark Ghost punctuators.Colon mid ≡ Some parted → assertion b parted ≡ Some rest → part (tree.conditional p c a b) all ≡ Some rest
conditional_walk p c a b all ts asked mid parted rest here test question first colon second = rw (here, test, question, first, colon) second

conditional_deep : (p : Place) (c : GhostExprTree) (a b : PartTrees) (d k j : ℕ) → ghost_nesting c ≤ d → parts_nesting a ≤ k → suc k ≤ d → parts_nesting b ≤ j → suc j ≤ d → part_nesting (tree.conditional p c a b) ≤ d
conditional_deep p c a b d k j test first under second below = omega (arith, test, first, under, second, below)

chosen_told : (d : ℕ) (p : Place) (c : GhostExprTree) (all ts : List Token) (x y : Content) (rest : List Token) → ghost_expr c all ≡ Some ts → ghost_nesting c ≤ d → (b : Branches d ts x y rest) → IsTold d all (chosen p c x y) rest
chosen_told d p c all ts (contents.Lone (pieces.Value v)) (contents.Lone (pieces.Value w)) rest test deep b =
    let one = b.first.content.told in
    let two = b.second.content.told in
    let low = one.1 in
    let below = b.first.below in
    let low_two = two.1 in
    let below_two = b.second.below in
    record {
      tested = ts;
      asked = b.asked;
      chosen = b.mid;
      parted = b.parted;
      test = test;
      question = b.question;
      first = one.0;
      colon = b.colon;
      second = two.0;
      test_deep = deep;
      first_deep = omega (arith, low, below);
      second_deep = omega (arith, low_two, below_two);
    }
chosen_told d p c all ts (contents.Lone (pieces.Value v)) y rest test deep b =
    and_right (is_lone_value (part_list (parts_of (contents.Lone (pieces.Value v))))) (is_lone_value (part_list (parts_of y))) (lone_told b.second.level b.parted y rest b.second.content.told)
chosen_told d p c all ts x y rest test deep b =
    and_left (is_lone_value (part_list (parts_of x))) (is_lone_value (part_list (parts_of y))) (lone_told b.first.level b.asked x b.mid b.first.content.told)

chosen_sound : (d : ℕ) (p : Place) (c : GhostExprTree) (all ts : List Token) (x y : Content) (rest : List Token) → at p all ≡ Some all → ghost_expr c all ≡ Some ts → ghost_nesting c ≤ d → Branches d ts x y rest → IsPiece d all (chosen p c x y) rest
chosen_sound d p c all ts x y rest here test deep b =
    let walk = conditional_walk p c (part_list (parts_of x)) (part_list (parts_of y)) all ts b.asked b.mid b.parted rest here test b.question b.first.content.walk b.colon b.second.content.walk in
    let low = conditional_deep p c (part_list (parts_of x)) (part_list (parts_of y)) d b.first.level b.second.level deep b.first.content.deep b.first.below b.second.content.deep b.second.below in
    (subst (λ (z : PartTree). (part z all ≡ Some rest) × (part_nesting z ≤ d)) (sym (chosen_tree p c x y)) (walk, low), chosen_told d p c all ts x y rest test deep b)

conditional_sound : (a : Parser Content) (d : ℕ) → ReadsInside d a → (p : Place) (c : GhostExprTree) (all ts : List Token) → at p all ≡ Some all → ghost_expr c all ≡ Some ts → ghost_nesting c ≤ d
    → (x : Piece) (rest : List Token) → conditional_at a p c ts ≡ ok x rest → IsWhole d all x rest
unfolding conditional_at second_branch_at
conditional_sound a d ha p c all ts here test deep x rest eq =
    let q = bind_ok {r = mark_at Ghost punctuators.Question ts} eq in
    let one = bind_ok {r = a q.0.1} q.2 in
    let k = bind_ok {r = mark_at Ghost punctuators.Colon one.0.1} one.2 in
    let two = bind_ok {r = a k.0.1} k.2 in
    elim (chose (head_has (is_mark Ghost punctuators.SeparatingAnd) two.0.1) _ _ _ two.2) [
      | inl h ↦ absurd (let s = h.1 in cc)
      | inr h ↦
          let b : Branches d ts one.0.0 two.0.0 two.0.1 =
          record {
            asked = q.0.1;
            mid = one.0.1;
            parted = k.0.1;
            question = (mark_sound Ghost punctuators.Question ts q.0.0 q.0.1 q.1).0;
            first = ha q.0.1 one.0.0 one.0.1 one.1;
            colon = (mark_sound Ghost punctuators.Colon one.0.1 k.0.0 k.0.1 k.1).0;
            second = ha k.0.1 two.0.0 two.0.1 two.1;
          } in
          moved (λ y r. IsWhole d all y r) h.1 (record { piece = chosen_sound d p c all ts one.0.0 two.0.0 two.0.1 here test deep b; last = inr h.0 })
    ]

group_walk : (p : Place) (a : PartTrees) (all inside behind rest : List Token) → at p all ≡ Some all → is_expression a ≡ false → mark Ghost punctuators.OpenParenthesis all ≡ Some inside → assertion a inside ≡ Some behind
    → mark Ghost punctuators.CloseParenthesis behind ≡ Some rest → part (tree.group p a) all ≡ Some rest
group_walk p a all inside behind rest here form opens walk closes = rw (here, form, opens, walk) closes

group_deep : (p : Place) (a : PartTrees) (d k : ℕ) → parts_nesting a ≤ k → suc k ≤ d → part_nesting (tree.group p a) ≤ d
group_deep p a d k low below = omega (arith, low, below)

enclosed_sound : (d : ℕ) (p : Place) (all inside behind rest : List Token) → at p all ≡ Some all → mark Ghost punctuators.OpenParenthesis all ≡ Some inside → mark Ghost punctuators.CloseParenthesis behind ≡ Some rest
    → (c : Content) → IsInside d inside c behind → IsBegun d all (enclosed p c) rest × IsPlain (enclosed p c)
enclosed_sound d p all inside behind rest here opens closes (contents.Lone (pieces.Value v)) h =
    let t = h.content.told in
    let low = t.1 in
    let below = h.below in
    ((rw (here, opens, t.0) closes, omega arith, omega (arith, low, below)), tt)
enclosed_sound d p all inside behind rest here opens closes (contents.Lone (pieces.Conditional q c v w)) h =
    let t = h.content.told in
    let test = t.test_deep in
    let first = t.first_deep in
    let second = t.second_deep in
    let below = h.below in
    ((rw (here, opens, t.test, t.question, t.first, t.colon, t.second) closes, omega arith, omega (arith, test, first, second, below)), tt)
enclosed_sound d p all inside behind rest here opens closes (contents.Lone (pieces.Other x)) h =
    let a = more_part x no_part in
    (((group_walk p a all inside behind rest here h.content.told opens h.content.walk closes, group_deep p a d h.level h.content.deep h.below), refl), refl)
enclosed_sound d p all inside behind rest here opens closes (contents.Several xs) h =
    let a = part_list xs in
    (((group_walk p a all inside behind rest here h.content.told opens h.content.walk closes, group_deep p a d h.level h.content.deep h.below), refl), refl)

-- a case of a `switch` nests at most so deep
abbrev IsCase : ℕ → List Token → AssertionCaseTree → List Token → Type 0
IsCase d ts x rest = (assertion_case x ts ≡ Some rest) × (case_nesting x ≤ d)

case_walk : (p : Place) (ts : List Token) → (c : _) (a : PartTrees) (cased named parted returned behind rest : List Token) → at p ts ≡ Some ts → word Ghost keywords.Case ts ≡ Some cased → case_pattern c cased ≡ Some named
    → mark Ghost punctuators.Colon named ≡ Some parted → word Ghost keywords.Return parted ≡ Some returned → assertion a returned ≡ Some behind → mark Ghost punctuators.Semicolon behind ≡ Some rest → assertion_case (tree.assertion_case p c a) ts ≡ Some rest
case_walk p ts c a cased named parted returned behind rest here one two three four five six = rw (here, one, two, three, four, five) six

case_sound : (a : Parser Content) (d : ℕ) → ReadsInside d a → IsSpelled (case_at a) assertion_case case_nesting d
unfolding case_at return_head_at case_head_at
case_sound a d ha ts x rest eq =
    let r = bind_ok {r = return_head_at ts} eq in
    let h = bind_ok {r = case_head_at ts} r.1 in
    let w = bind_ok {r = word_at Ghost keywords.Case ts} h.1 in
    let c = bind_ok {r = case_pattern_at w.0.1} w.2 in
    let k = bind_ok {r = mark_at Ghost punctuators.Colon c.0.1} c.2 in
    let t = bind_ok {r = word_at Ghost keywords.Return h.0.1} h.2 in
    let y = bind_ok {r = a r.0.1} r.2 in
    let z = bind_ok {r = mark_at Ghost punctuators.Semicolon y.0.1} y.2 in
    let case_ = word_sound Ghost keywords.Case ts w.0.0 w.0.1 w.1 in
    let pattern_ = (case_pattern_sound w.0.1 c.0.0 c.0.1 c.1).0 in
    let colon = (mark_sound Ghost punctuators.Colon c.0.1 k.0.0 k.0.1 k.1).0 in
    let heads = ok_pair (w.0.0, c.0.0) h.0.0 k.0.1 h.0.1 k.2 in
    let again = ok_pair h.0.0 r.0.0 t.0.1 r.0.1 t.2 in
    let return_ = (word_sound Ghost keywords.Return h.0.1 t.0.0 t.0.1 t.1).0 in
    let inside = ha r.0.1 y.0.0 y.0.1 y.1 in
    let semicolon = (mark_sound Ghost punctuators.Semicolon y.0.1 z.0.0 z.0.1 z.1).0 in
    let low = inside.content.deep in
    let below = inside.below in
    let colon_there : mark Ghost punctuators.Colon c.0.1 ≡ Some h.0.1 = subst (λ (s : List Token). mark Ghost punctuators.Colon c.0.1 ≡ Some s) heads.1 colon in
    let return_there : word Ghost keywords.Return h.0.1 ≡ Some r.0.1 = subst (λ (s : List Token). word Ghost keywords.Return h.0.1 ≡ Some s) again.1 return_ in
    let walk = case_walk w.0.0 ts c.0.0 (part_list (parts_of y.0.0)) w.0.1 c.0.1 h.0.1 r.0.1 y.0.1 z.0.1 case_.1 case_.0 pattern_ colon_there return_there inside.content.walk semicolon in
    let same : (w.0.0, c.0.0) ≡ r.0.0 = heads.0 ∙ again.0 in
    moved (λ y r. IsCase d ts y r) z.2 (subst (λ u. IsCase d ts (tree.assertion_case u.0 u.1 (part_list (parts_of y.0.0))) z.0.1) same (walk, omega (arith, low, below)))

cases_same : (xs : List AssertionCaseTree) → each assertion_case xs ≡ assertion_cases (assertion_case_list xs)
cases_same [] = refl
cases_same (x ∷ xs) = ap (λ (W : Walk). assertion_case x ⨾ W) (cases_same xs)

cases_deep : (xs : List AssertionCaseTree) → greatest case_nesting xs ≡ cases_nesting (assertion_case_list xs)
cases_deep [] = refl
cases_deep (x ∷ xs) = ap (λ (n : ℕ). max (case_nesting x) n) (cases_deep xs)

cases_sound : (a : Parser Content) (d : ℕ) → ReadsInside d a → (ts : List Token) (xs : List AssertionCaseTree) (rest : List Token) → cases_at a ts ≡ ok xs rest
    → (assertion_cases (assertion_case_list xs) ts ≡ Some rest) × (cases_nesting (assertion_case_list xs) ≤ d)
unfolding case_step
cases_sound a d ha ts xs rest eq =
    let k = items_sound (case_at a) assertion_case case_nesting d (case_sound a d ha) (is_word Ghost keywords.Case) (length ts) [] ts xs rest eq in
    let walk : assertion_cases (assertion_case_list k.0) ts ≡ Some rest = subst (λ (W : Walk). W ts ≡ Some rest) (cases_same k.0) k.2 in
    let low : cases_nesting (assertion_case_list k.0) ≤ d = subst (λ (n : ℕ). n ≤ d) (cases_deep k.0) k.3 in
    subst (λ (ys : List AssertionCaseTree). (assertion_cases (assertion_case_list ys) ts ≡ Some rest) × (cases_nesting (assertion_case_list ys) ≤ d)) (sym k.1) (walk, low)

-- what stands in a `switch` in front of its cases
pub record Head (d : ℕ) (ts : List Token) (e : GhostExprTree) (rest : List Token) : Type 0 where
  pub worded : List Token
  pub opened : List Token
  pub behind : List Token
  pub closed : List Token
  pub switches : word Ghost keywords.Switch ts ≡ Some worded
  pub opens : mark Ghost punctuators.OpenParenthesis worded ≡ Some opened
  pub term : ghost_expr e opened ≡ Some behind
  pub closes : mark Ghost punctuators.CloseParenthesis behind ≡ Some closed
  pub brace : mark Ghost punctuators.OpenBrace closed ≡ Some rest
  pub deep : ghost_nesting e + 1 ≤ d

pub head_sound : (d : ℕ) (ts : List Token) (e : GhostExprTree) (rest : List Token) → switch_head_at d ts ≡ ok e rest → Head d ts e rest
unfolding switch_head_at
head_sound d ts e rest eq =
    let w = bind_ok {r = word_at Ghost keywords.Switch ts} eq in
    let o = bind_ok {r = mark_at Ghost punctuators.OpenParenthesis w.0.1} w.2 in
    let t = bind_ok {r = term_at d o.0.1} o.2 in
    let z = bind_ok {r = mark_at Ghost punctuators.CloseParenthesis t.0.1} t.2 in
    let b = bind_ok {r = mark_at Ghost punctuators.OpenBrace z.0.1} z.2 in
    let k = term_sound d o.0.1 t.0.0 t.0.1 t.1 in
    moved (λ y r. Head d ts y r) b.2 (record {
      worded = w.0.1;
      opened = o.0.1;
      behind = t.0.1;
      closed = z.0.1;
      switches = (word_sound Ghost keywords.Switch ts w.0.0 w.0.1 w.1).0;
      opens = (mark_sound Ghost punctuators.OpenParenthesis w.0.1 o.0.0 o.0.1 o.1).0;
      term = k.0;
      closes = (mark_sound Ghost punctuators.CloseParenthesis t.0.1 z.0.0 z.0.1 z.1).0;
      brace = (mark_sound Ghost punctuators.OpenBrace z.0.1 b.0.0 b.0.1 b.1).0;
      deep = k.1;
    })

switch_walk : (d : ℕ) (p : Place) (e : GhostExprTree) (cs : AssertionCaseTrees) (ts braced behind rest : List Token) → at p ts ≡ Some ts → (h : Head d ts e braced) → assertion_cases cs braced ≡ Some behind → mark Ghost punctuators.CloseBrace behind ≡ Some rest
    → part (tree.switch_ p e cs) ts ≡ Some rest
switch_walk d p e cs ts braced behind rest here h cases closes = rw (here, h.switches, h.opens, h.term, h.closes, h.brace, cases) closes

switch_deep : (d : ℕ) (p : Place) (e : GhostExprTree) (cs : AssertionCaseTrees) → ghost_nesting e + 1 ≤ d → cases_nesting cs ≤ d → part_nesting (tree.switch_ p e cs) ≤ d
switch_deep d p e cs one two = omega (arith, one, two)

-- what begins a part is spelled, and is no conditional
abbrev IsOpening : ℕ → List Token → Begun → List Token → Type 0
IsOpening d ts b rest = IsBegun d ts b rest × IsPlain b

switch_sound : (a : Parser Content) (d : ℕ) → ReadsInside d a → (p : Place) (ts : List Token) → at p ts ≡ Some ts → (x : Begun) (rest : List Token) → switch_at d a p ts ≡ ok x rest → IsOpening d ts x rest
unfolding switch_at
switch_sound a d ha p ts here x rest eq =
    let e = bind_ok {r = switch_head_at d ts} eq in
    let xs = bind_ok {r = cases_at a e.0.1} e.2 in
    let z = bind_ok {r = mark_at Ghost punctuators.CloseBrace xs.0.1} xs.2 in
    let head = head_sound d ts e.0.0 e.0.1 e.1 in
    let cases = cases_sound a d ha e.0.1 xs.0.0 xs.0.1 xs.1 in
    let closes = (mark_sound Ghost punctuators.CloseBrace xs.0.1 z.0.0 z.0.1 z.1).0 in
    let walk = switch_walk d p e.0.0 (assertion_case_list xs.0.0) ts e.0.1 xs.0.1 z.0.1 here head cases.0 closes in
    moved (λ (y : Begun) r. IsOpening d ts y r) z.2 (((walk, switch_deep d p e.0.0 (assertion_case_list xs.0.0) head.deep cases.1), refl), refl)

opening_sound : (a : Parser Content) (d : ℕ) → ReadsInside d a → (p : Place) (ts : List Token) → at p ts ≡ Some ts → (x : Begun) (rest : List Token) → opening_at d a p ts ≡ ok x rest → IsOpening d ts x rest
unfolding opening_at enclosed_at
opening_sound a d ha p ts here x rest eq =
    elim (chose (head_has (is_mark Ghost punctuators.OpenParenthesis) ts) _ _ _ eq) [
      | inl h ↦
          let o = bind_ok {r = mark_at Ghost punctuators.OpenParenthesis ts} h.1 in
          let y = bind_ok {r = a o.0.1} o.2 in
          let z = bind_ok {r = mark_at Ghost punctuators.CloseParenthesis y.0.1} y.2 in
          let opens = (mark_sound Ghost punctuators.OpenParenthesis ts o.0.0 o.0.1 o.1).0 in
          let closes = (mark_sound Ghost punctuators.CloseParenthesis y.0.1 z.0.0 z.0.1 z.1).0 in
          moved (λ (b : Begun) r. IsOpening d ts b r) z.2 (enclosed_sound d p ts o.0.1 y.0.1 z.0.1 here opens closes y.0.0 (ha o.0.1 y.0.0 y.0.1 y.1))
      | inr g ↦
          elim (chose (head_has (is_word Ghost keywords.Switch) ts) _ _ _ g.1) [
            | inl h ↦ switch_sound a d ha p ts here x rest h.1
            | inr h ↦ (begun_sound d p ts x rest here h.1, begun_plain d p ts x rest h.1)
          ]
    ]

further_sound : (a : Parser Content) (d : ℕ) → ReadsInside d a → (p : Place) (e : GhostExprTree) (all ts : List Token) → at p all ≡ Some all → IsTerm 2 d all e ts
    → (x : Piece) (rest : List Token) → further_at d a p e ts ≡ ok x rest → IsWhole d all x rest
unfolding further_at
further_sound a d ha p e all ts here he x rest eq =
    let t = bind_ok {r = rest_at (operand_at d) 6 p e ts} eq in
    let term = rest_sound (operand_at d) d (operand_sound d) 6 (omega arith) p e all ts here he t.0.0 t.0.1 t.1 in
    elim (chose (head_has (is_mark Ghost punctuators.Question) t.0.1) _ _ _ t.2) [
      | inl h ↦ conditional_sound a d ha p t.0.0 all t.0.1 here term.0 term.2 x rest h.1
      | inr h ↦ record { piece = ended_sound d p t.0.0 all t.0.1 here term x rest h.1; last = inl (ended_plain d p t.0.0 t.0.1 x rest h.1) }
    ]

piece_by_sound : (a : Parser Content) (d : ℕ) → ReadsInside d a → (p : Place) (all ts : List Token) → at p all ≡ Some all → (b : Begun) → IsOpening d all b ts → (x : Piece) (rest : List Token) → piece_by d a p b ts ≡ ok x rest → IsWhole d all x rest
piece_by_sound a d ha p all ts here (begun.Whole y) hb x rest eq = moved (λ z r. IsWhole d all z r) eq (record { piece = hb.0; last = inl hb.1 })
piece_by_sound a d ha p all ts here (begun.Operand e) hb x rest eq = further_sound a d ha p e all ts here hb.0 x rest eq

piece_sound : (a : Parser Content) (d : ℕ) → ReadsInside d a → (ts : List Token) (x : Piece) (rest : List Token) → piece_at d a ts ≡ ok x rest → IsWhole d ts x rest
unfolding piece_at
piece_sound a d ha ts x rest eq =
    let p = bind_ok {r = here_at ts} eq in
    let b = bind_ok {r = opening_at d a p.0.0 p.0.1} p.2 in
    let here = here_sound ts p.0.0 p.0.1 p.1 in
    let same : opening_at d a p.0.0 ts ≡ ok b.0.0 b.0.1 = subst (λ (r : List Token). opening_at d a p.0.0 r ≡ ok b.0.0 b.0.1) here.0 b.1 in
    piece_by_sound a d ha p.0.0 ts b.0.1 here.1 b.0.0 (opening_sound a d ha p.0.0 ts here.1 b.0.0 b.0.1 same) x rest b.2

-- a part behind "&*&"
abbrev IsOther : ℕ → List Token → PartTree → List Token → Type 0
IsOther d ts x rest = ((mark Ghost punctuators.SeparatingAnd ⨾ part x) ts ≡ Some rest) × (part_nesting x ≤ d) × IsLast x rest

-- what a parser reads is such a part
abbrev ReadsOther : ℕ → Parser PartTree → Type 0
ReadsOther d p = (ts : List Token) (x : PartTree) (rest : List Token) → p ts ≡ ok x rest → IsOther d ts x rest

behind_and : (x : PartTree) (ts mid rest : List Token) → mark Ghost punctuators.SeparatingAnd ts ≡ Some mid → part x mid ≡ Some rest → (mark Ghost punctuators.SeparatingAnd ⨾ part x) ts ≡ Some rest
behind_and x ts mid rest one two = rw one two

other_sound : (a : Parser Content) (d : ℕ) → ReadsInside d a → ReadsOther d (other_part_at d a)
unfolding other_part_at
other_sound a d ha ts x rest eq =
    let m = bind_ok {r = mark_at Ghost punctuators.SeparatingAnd ts} eq in
    let y = bind_ok {r = piece_at d a m.0.1} m.2 in
    let k = piece_sound a d ha m.0.1 y.0.0 y.0.1 y.1 in
    let walk = behind_and (part_of y.0.0) ts m.0.1 y.0.1 (mark_sound Ghost punctuators.SeparatingAnd ts m.0.0 m.0.1 m.1).0 k.piece.0.0 in
    moved (λ z r. IsOther d ts z r) y.2 (walk, k.piece.0.1, k.last)

or_true : (b : Bool) → ((not b || true) && true) ≡ true
or_true true = refl
or_true false = refl

last_alone : (x : PartTree) → is_conditional_last (more_part x no_part) ≡ true
last_alone x = or_true (is_conditional x)

last_more : (x y : PartTree) (ys : PartTrees) → is_conditional x ≡ false → is_conditional_last (more_part y ys) ≡ true → is_conditional_last (more_part x (more_part y ys)) ≡ true
last_more x y ys one two = rw (one, two) refl

-- the parts that a loop reads behind a part
pub record Others (d : ℕ) (x : PartTree) (ts : List Token) (xs ys : List PartTree) (rest : List Token) : Type 0 where
  pub others : List PartTree
  pub joined : ys ≡ xs ++ others
  pub walk : more_parts (part_list others) ts ≡ Some rest
  pub deep : parts_nesting (part_list others) ≤ d
  pub last : is_conditional_last (more_part x (part_list others)) ≡ true

-- no conditional stands in front of more
plain_before : (x : PartTree) (ts : List Token) → head_has (is_mark Ghost punctuators.SeparatingAnd) ts ≡ true → IsLast x ts → is_conditional x ≡ false
plain_before x ts h (inl k) = k
plain_before x ts h (inr k) = no_true (sym k ∙ h)

more_sound : (p : Parser PartTree) (d : ℕ) → ReadsOther d p → (n : ℕ) (x : PartTree) (ts : List Token) → IsLast x ts → (xs ys : List PartTree) (rest : List Token) → many_at n (is_mark Ghost punctuators.SeparatingAnd) (item_step p) xs ts ≡ ok ys rest → Others d x ts xs ys rest
more_sound p d hp zero x ts hx xs ys rest e = moved (λ (y : List PartTree) r. Others d x ts xs y r) e (record { others = []; joined = sym (append-nil xs); walk = refl; deep = omega arith; last = last_alone x })
more_sound p d hp (suc n) x ts hx xs ys rest e =
    elim (chose (head_has (is_mark Ghost punctuators.SeparatingAnd) ts) _ _ _ e) [
      | inl h ↦
          let a = bind_ok {r = item_step p xs ts} h.1 in
          let b = bind_ok {r = p ts} a.1 in
          let q = ok_pair (xs ++ b.0.0 ∷ []) a.0.0 b.0.1 a.0.1 b.2 in
          let s = hp ts b.0.0 b.0.1 b.1 in
          let there : IsLast b.0.0 a.0.1 = subst (λ (r : List Token). IsLast b.0.0 r) q.1 s.2 in
          let k = more_sound p d hp n b.0.0 a.0.1 there a.0.0 ys rest a.2 in
          let behind : more_parts (part_list k.others) b.0.1 ≡ Some rest = subst (λ (r : List Token). more_parts (part_list k.others) r ≡ Some rest) (sym q.1) k.walk in
          let low = s.1 in
          let least = k.deep in
          record {
            others = b.0.0 ∷ k.others;
            joined = k.joined ∙ (ap (λ (y : List PartTree). y ++ k.others) (sym q.0) ∙ append_assoc xs (b.0.0 ∷ []) k.others);
            walk = through (mark Ghost punctuators.SeparatingAnd) (part b.0.0) (more_parts (part_list k.others)) ts b.0.1 (Some rest) s.0 behind;
            deep = omega (arith, low, least);
            last = last_more x b.0.0 (part_list k.others) (plain_before x ts h.0 hx) k.last;
          }
      | inr h ↦ moved (λ (y : List PartTree) r. Others d x ts xs y r) h.1 (record { others = []; joined = sym (append-nil xs); walk = refl; deep = omega arith; last = last_alone x })
    ]

list_walk : (x : PartTree) (xs : PartTrees) (ts mid rest : List Token) → is_conditional_last (more_part x xs) ≡ true → part x ts ≡ Some mid → more_parts xs mid ≡ Some rest → assertion (more_part x xs) ts ≡ Some rest
list_walk x xs ts mid rest last one others = rw (last, one) others

several_sound : (a : Parser Content) (d : ℕ) → ReadsInside d a → (x : PartTree) (all ts : List Token) → part x all ≡ Some ts → part_nesting x ≤ d → is_conditional x ≡ false
    → (c : Content) (rest : List Token) → several_at d a x ts ≡ ok c rest → IsContent d all c rest
unfolding several_at part_step
several_sound a d ha x all ts hx deep plain c rest eq =
    let p = other_part_at d a in
    let xs = bind_ok {r = item_step p (x ∷ []) ts} eq in
    let b = bind_ok {r = p ts} xs.1 in
    let q = ok_pair (x ∷ b.0.0 ∷ []) xs.0.0 b.0.1 xs.0.1 b.2 in
    let ys = bind_ok {r = more_parts_at d a xs.0.0 xs.0.1} xs.2 in
    let s = other_sound a d ha ts b.0.0 b.0.1 b.1 in
    let there : IsLast b.0.0 xs.0.1 = subst (λ (r : List Token). IsLast b.0.0 r) q.1 s.2 in
    let k = more_sound p d (other_sound a d ha) (length xs.0.1) b.0.0 xs.0.1 there xs.0.0 ys.0.0 ys.0.1 ys.1 in
    let behind : more_parts (part_list k.others) b.0.1 ≡ Some ys.0.1 = subst (λ (r : List Token). more_parts (part_list k.others) r ≡ Some ys.0.1) (sym q.1) k.walk in
    let two = through (mark Ghost punctuators.SeparatingAnd) (part b.0.0) (more_parts (part_list k.others)) ts b.0.1 (Some ys.0.1) s.0 behind in
    let same : ys.0.0 ≡ x ∷ b.0.0 ∷ k.others = k.joined ∙ ap (λ (y : List PartTree). y ++ k.others) (sym q.0) in
    let low = s.1 in
    let least = k.deep in
    let whole : IsContent d all (contents.Several (x ∷ b.0.0 ∷ k.others)) ys.0.1 =
    record {
      walk = list_walk x (more_part b.0.0 (part_list k.others)) all ts ys.0.1 (last_more x b.0.0 (part_list k.others) plain k.last) hx two;
      deep = omega (arith, deep, low, least);
      told = refl;
    } in
    moved (λ z r. IsContent d all z r) ys.2 (subst (λ (y : List PartTree). IsContent d all (contents.Several y) ys.0.1) (sym same) whole)

joined_sound : (a : Parser Content) (d : ℕ) → ReadsInside d a → (ts : List Token) (c : Content) (rest : List Token) → joined_at d a ts ≡ ok c rest → IsContent d ts c rest
unfolding joined_at
joined_sound a d ha ts c rest eq =
    let x = bind_ok {r = piece_at d a ts} eq in
    let k = piece_sound a d ha ts x.0.0 x.0.1 x.1 in
    elim (chose (head_has (is_mark Ghost punctuators.SeparatingAnd) x.0.1) _ _ _ x.2) [
      | inl h ↦ several_sound a d ha (part_of x.0.0) ts x.0.1 k.piece.0.0 k.piece.0.1 (plain_before (part_of x.0.0) x.0.1 h.0 k.last) c rest h.1
      | inr h ↦
          let low = k.piece.0.1 in
          moved (λ z r. IsContent d ts z r) h.1 (record { walk = list_walk (part_of x.0.0) no_part ts x.0.1 x.0.1 (last_alone (part_of x.0.0)) k.piece.0.0 refl; deep = omega (arith, low); told = k.piece.1 })
    ]

mutual
  unfolding content_at

  pub content_sound : (d : ℕ) → ReadsInside d (content_at d)
  content_sound zero ts c rest e = too_deep_never begins_part ts c rest e
  content_sound (suc d) ts c rest e = record { level = d; below = omega arith; content = joined_sound (content_at d) d (content_sound d) ts c rest e }

pub assertion_sound : AssertionsAreSpelled
unfolding assertion_at
assertion_sound d ts xs rest eq =
    let c = bind_ok {r = content_at d ts} eq in
    let k = content_sound d ts c.0.0 c.0.1 c.1 in
    let low = k.content.deep in
    let below = k.below in
    moved (λ (y : List PartTree) r. (assertion_walk y ts ≡ Some r) × (assertion_depth y ≤ d)) c.2 (k.content.walk, omega (arith, low, below))
