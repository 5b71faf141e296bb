-- The expressions that are read are spelled, and nest no deeper than is allowed.
use Rattle.std.proofs.Common.{◌≡◌, ℕ, zero, suc, ◌+◌, ◌≤◌, ◌<◌, Bool, true, false, List, [], ◌∷◌, ◌++◌, length, Option, Some, None, Ok, Err, refl, sym, subst, ap, ◌∙◌, arith, inl, inr}
use Rattle.std.specs.Prelude.{max, nat_eq, nat_lt, nat_le, ◌&&◌, if◌then◌else◌}
use Rattle.std.proofs.lemmas.Bool.{lt-ltb, le-leb}
use Rattle.vf_base.specs.declared.place.Place.{Place}
use Rattle.vf_lexer.specs.declared.punctuator.Punctuator.TheVariants as punctuators
use Rattle.vf_lexer.specs.declared.token.Token.{Token}
use Rattle.vf_syntax.specs.declared.keyword.Keyword.{Keyword}
use Rattle.vf_syntax.specs.declared.keyword.Keyword.TheVariants as keywords
use Rattle.vf_syntax.specs.declared.side.Side.TheVariants.{Ghost}
use Rattle.vf_syntax.specs.declared.operator.UnaryOperator.{UnaryOperator}
use Rattle.vf_syntax.specs.declared.operator.BinaryOperator.{BinaryOperator}
use Rattle.vf_syntax.specs.declared.operator.Level.{Level}
use Rattle.vf_syntax.specs.declared.written.Name.{Name}
use Rattle.vf_syntax.specs.GhostExprTree.{GhostExprTree, GhostLinkTree, ghost_expr_list, ghost_link_list, ghost_link}
use Rattle.vf_syntax.specs.GhostExprTree as tree
use Rattle.vf_syntax.specs.Walks.{Walk, goes_on, ◌⨾◌, provided, at, head_has, is_mark, is_word, is_name, mark, word, identifier, number}
use Rattle.vf_syntax.specs.Written.{unary_mark, binary_mark, level_of, looseness}
use Rattle.vf_syntax.specs.Lists.{each, behind_commas, separated, greatest}
use Rattle.vf_syntax.specs.GhostExpressions as spelled
use Rattle.vf_syntax.specs.GhostExpressions.{ghost_expr, ghost_rank, ghost_nesting, ghost_arguments, more_ghost_arguments, ghost_arguments_nesting, ghost_links, ghost_link_nesting, ghost_links_nesting, is_ghost_operand, ghost_joins_on}
use Rattle.vf_cursor.specs.Parsing.{Parser, ok, ◌>>=◌, here_at, mark_at, word_at, name_at, number_at, many}
use Rattle.vf_cursor.specs.Types.{next_mark, next_on, next_unary, found_then, on_level}
use Rattle.vf_syntax.specs.Written.{binary_of}
use Rattle.vf_cursor.proofs.Facts.{bind_ok, ok_pair, moved, chose, no_true}
use Rattle.vf_parse_term.specs.Pieces.{too_deep_at, any_at}
use Rattle.vf_parse_term.specs.Laws.{IsSpelled, term_depth, IsTerm, AreArguments, GoesOn}
use Rattle.vf_parse_term.specs.Terms.{begins_term, literal_at, constant_at, arguments_at, named_at, second_branch_at, branches_at, parenthesized_at, primary_form_at, primary_at, signed_by, signed_at, level_above, joins, link_by, link_at, link_step, chained, chain_at, joined_by, rest_at, joined_at, term_at, branch_at, unary_at, operand_at}
use Rattle.vf_parse_term.proofs.Taken.{here_sound, mark_sound, word_sound, name_sound, number_sound}
use Rattle.vf_parse_term.proofs.Lists.{through, items_sound, any_sound}
use Rattle.vf_parse_term.proofs.SortsRead.{too_deep_never}

-- how deep the branch of a conditional nests, itself and the conditional counted
abbrev pub branch_depth : GhostExprTree → ℕ
branch_depth x = ghost_nesting x + 2

-- what a parser reads is such an expression
abbrev pub Reads : ℕ → ℕ → Parser GhostExprTree → Type 0
Reads j d p = (ts : List Token) (x : GhostExprTree) (rest : List Token) → p ts ≡ ok x rest → IsTerm j d ts x rest

-- what a parser reads is an operand that stands behind an operator
abbrev pub ReadsUnder : ℕ → Parser GhostExprTree → Type 0
ReadsUnder d p = (ts : List Token) (x : GhostExprTree) (rest : List Token) → p ts ≡ ok x rest → (ghost_expr x ts ≡ Some rest) × (ghost_rank x ≤ 2) × (term_depth x ≤ d)

-- a word that is an expression
word_term : (k : Keyword) (p : Place) (d : ℕ) (ts : List Token) → at p ts ≡ Some ts → (y : GhostExprTree) → ghost_expr y ≡ (at p ⨾ word Ghost k) → ghost_rank y ≡ 0 → ghost_nesting y ≡ 0
    → (x : GhostExprTree) (rest : List Token) → (word_at Ghost k ts >>= λ a. ok y a.1) ≡ ok x rest → IsTerm 0 d ts x rest
word_term k p d ts here y walk rank nests x rest e =
    let a = bind_ok {r = word_at Ghost k ts} e in
    let w = (word_sound Ghost k ts a.0.0 a.0.1 a.1).0 in
    let both : (at p ⨾ word Ghost k) ts ≡ Some a.0.1 = rw here w in
    moved (λ z r. IsTerm 0 d ts z r) a.2 (subst (λ (W : Walk). W ts ≡ Some a.0.1) (sym walk) both, omega (arith, rank), omega (arith, nests))

literal_sound : (p : Place) (d : ℕ) (ts : List Token) → at p ts ≡ Some ts → (x : GhostExprTree) (rest : List Token) → literal_at p ts ≡ ok x rest → IsTerm 0 d ts x rest
unfolding literal_at
literal_sound p d ts here x rest e =
    elim (chose (head_has (is_word Ghost keywords.True) ts) _ _ _ e) [
      | inl h ↦ word_term keywords.True p d ts here (tree.true_ p) refl refl refl x rest h.1
      | inr g ↦
          elim (chose (head_has (is_word Ghost keywords.False) ts) _ _ _ g.1) [
            | inl h ↦ word_term keywords.False p d ts here (tree.false_ p) refl refl refl x rest h.1
            | inr h ↦
                let n = bind_ok {r = number_at Ghost ts} h.1 in
                moved (λ z r. IsTerm 0 d ts z r) n.2 (rw here (number_sound Ghost ts n.0.0 n.0.1 n.1), omega arith, omega arith)
          ]
    ]

constant_sound : (p : Place) (d : ℕ) (ts : List Token) → at p ts ≡ Some ts → (x : GhostExprTree) (rest : List Token) → constant_at p ts ≡ ok x rest → IsTerm 0 d ts x rest
unfolding constant_at
constant_sound p d ts here x rest e =
    elim (chose (head_has (is_word Ghost keywords.Result) ts) _ _ _ e) [
      | inl h ↦ word_term keywords.Result p d ts here (tree.result p) refl refl refl x rest h.1
      | inr g ↦
          elim (chose (head_has (is_word Ghost keywords.This) ts) _ _ _ g.1) [
            | inl h ↦ word_term keywords.This p d ts here (tree.this_ p) refl refl refl x rest h.1
            | inr g ↦
                elim (chose (head_has (is_word Ghost keywords.CurrentThread) ts) _ _ _ g.1) [
                  | inl h ↦ word_term keywords.CurrentThread p d ts here (tree.current_thread p) refl refl refl x rest h.1
                  | inr h ↦ literal_sound p d ts here x rest h.1
                ]
          ]
    ]

more_same : (xs : List GhostExprTree) → behind_commas Ghost ghost_expr xs ≡ more_ghost_arguments (ghost_expr_list xs)
more_same [] = refl
more_same (x ∷ xs) = ap (λ (W : Walk). mark Ghost punctuators.Comma ⨾ ghost_expr x ⨾ W) (more_same xs)

separated_same : (xs : List GhostExprTree) → separated Ghost ghost_expr xs ≡ ghost_arguments (ghost_expr_list xs)
separated_same [] = refl
separated_same (x ∷ xs) = ap (λ (W : Walk). ghost_expr x ⨾ W) (more_same xs)

nesting_same : (xs : List GhostExprTree) → greatest term_depth xs ≡ ghost_arguments_nesting (ghost_expr_list xs)
nesting_same [] = refl
nesting_same (x ∷ xs) = ap (λ (n : ℕ). max (ghost_nesting x + 1) n) (nesting_same xs)

pub arguments_sound : (e : Parser GhostExprTree) (d : ℕ) → IsSpelled e ghost_expr term_depth d → (ts : List Token) (xs : List GhostExprTree) (rest : List Token) → arguments_at e ts ≡ ok xs rest → AreArguments d ts xs rest
unfolding arguments_at
arguments_sound e d he ts xs rest eq =
    let a = bind_ok {r = mark_at Ghost punctuators.OpenParenthesis ts} eq in
    let ys = bind_ok {r = any_at (is_mark Ghost punctuators.CloseParenthesis) e a.0.1} a.2 in
    let b = bind_ok {r = mark_at Ghost punctuators.CloseParenthesis ys.0.1} ys.2 in
    let k = any_sound (is_mark Ghost punctuators.CloseParenthesis) e ghost_expr term_depth d he a.0.1 ys.0.0 ys.0.1 ys.1 in
    let inside : ghost_arguments (ghost_expr_list ys.0.0) a.0.1 ≡ Some ys.0.1 = subst (λ (W : Walk). W a.0.1 ≡ Some ys.0.1) (separated_same ys.0.0) k.0 in
    let low : ghost_arguments_nesting (ghost_expr_list ys.0.0) ≤ d = subst (λ (m : ℕ). m ≤ d) (nesting_same ys.0.0) k.1 in
    moved (λ y r. AreArguments d ts y r) b.2 (a.0.1, ys.0.1, (mark_sound Ghost punctuators.OpenParenthesis ts a.0.0 a.0.1 a.1).0, inside, (mark_sound Ghost punctuators.CloseParenthesis ys.0.1 b.0.0 b.0.1 b.1).0, low)

named_sound : (e : Parser GhostExprTree) (d : ℕ) → IsSpelled e ghost_expr term_depth d → (p : Place) (n : List ℕ) (all ts : List Token) → at p all ≡ Some all → identifier Ghost n all ≡ Some ts
    → (x : GhostExprTree) (rest : List Token) → named_at e p n ts ≡ ok x rest → IsTerm 0 d all x rest
unfolding named_at
named_sound e d he p n all ts here named x rest eq =
    elim (chose (head_has (is_mark Ghost punctuators.OpenParenthesis) ts) _ _ _ eq) [
      | inl h ↦
          let xs = bind_ok {r = arguments_at e ts} h.1 in
          let k = arguments_sound e d he ts xs.0.0 xs.0.1 xs.1 in
          let low = k.5 in
          moved (λ z r. IsTerm 0 d all z r) xs.2 (rw (here, named, k.2, k.3) k.4, omega arith, low)
      | inr h ↦ moved (λ z r. IsTerm 0 d all z r) h.1 (rw (here, named) refl, omega arith, omega arith)
    ]

branches_sound : (f : Parser GhostExprTree) (d : ℕ) → IsSpelled f ghost_expr branch_depth d → (p : Place) (c : GhostExprTree) (all inside ts : List Token) → at p all ≡ Some all → mark Ghost punctuators.OpenParenthesis all ≡ Some inside
    → ghost_expr c inside ≡ Some ts → term_depth c ≤ d → (x : GhostExprTree) (rest : List Token) → branches_at f p c ts ≡ ok x rest → IsTerm 0 d all x rest
unfolding branches_at second_branch_at
branches_sound f d hf p c all inside ts here opens test low x rest eq =
    let q = bind_ok {r = mark_at Ghost punctuators.Question ts} eq in
    let a = bind_ok {r = f q.0.1} q.2 in
    let k = bind_ok {r = mark_at Ghost punctuators.Colon a.0.1} a.2 in
    let b = bind_ok {r = f k.0.1} k.2 in
    let z = bind_ok {r = mark_at Ghost punctuators.CloseParenthesis b.0.1} b.2 in
    let question = (mark_sound Ghost punctuators.Question ts q.0.0 q.0.1 q.1).0 in
    let colon = (mark_sound Ghost punctuators.Colon a.0.1 k.0.0 k.0.1 k.1).0 in
    let closes = (mark_sound Ghost punctuators.CloseParenthesis b.0.1 z.0.0 z.0.1 z.1).0 in
    let one = hf q.0.1 a.0.0 a.0.1 a.1 in
    let two = hf k.0.1 b.0.0 b.0.1 b.1 in
    let low_one = one.1 in
    let low_two = two.1 in
    moved (λ y r. IsTerm 0 d all y r) z.2 (rw (here, opens, test, question, one.0, colon, two.0) closes, omega arith, omega (arith, low, low_one, low_two))

parenthesized_sound : (e f : Parser GhostExprTree) (d : ℕ) → IsSpelled e ghost_expr term_depth d → IsSpelled f ghost_expr branch_depth d → (p : Place) (ts : List Token) → at p ts ≡ Some ts
    → (x : GhostExprTree) (rest : List Token) → parenthesized_at e f p ts ≡ ok x rest → IsTerm 0 d ts x rest
unfolding parenthesized_at
parenthesized_sound e f d he hf p ts here x rest eq =
    let o = bind_ok {r = mark_at Ghost punctuators.OpenParenthesis ts} eq in
    let c = bind_ok {r = e o.0.1} o.2 in
    let opens = (mark_sound Ghost punctuators.OpenParenthesis ts o.0.0 o.0.1 o.1).0 in
    let inside = he o.0.1 c.0.0 c.0.1 c.1 in
    let low = inside.1 in
    elim (chose (head_has (is_mark Ghost punctuators.Question) c.0.1) _ _ _ c.2) [
      | inl h ↦ branches_sound f d hf p c.0.0 ts o.0.1 c.0.1 here opens inside.0 low x rest h.1
      | inr h ↦
          let z = bind_ok {r = mark_at Ghost punctuators.CloseParenthesis c.0.1} h.1 in
          let closes = (mark_sound Ghost punctuators.CloseParenthesis c.0.1 z.0.0 z.0.1 z.1).0 in
          moved (λ y r. IsTerm 0 d ts y r) z.2 (rw (here, opens, inside.0) closes, omega arith, low)
    ]

primary_form_sound : (e f : Parser GhostExprTree) (d : ℕ) → IsSpelled e ghost_expr term_depth d → IsSpelled f ghost_expr branch_depth d → (p : Place) (ts : List Token) → at p ts ≡ Some ts
    → (x : GhostExprTree) (rest : List Token) → primary_form_at e f p ts ≡ ok x rest → IsTerm 0 d ts x rest
unfolding primary_form_at
primary_form_sound e f d he hf p ts here x rest eq =
    elim (chose (head_has (is_mark Ghost punctuators.OpenParenthesis) ts) _ _ _ eq) [
      | inl h ↦ parenthesized_sound e f d he hf p ts here x rest h.1
      | inr g ↦
          elim (chose (head_has (is_name Ghost) ts) _ _ _ g.1) [
            | inl h ↦
                let n = bind_ok {r = name_at Ghost ts} h.1 in
                named_sound e d he p n.0.0.text ts n.0.1 here (name_sound Ghost ts n.0.0 n.0.1 n.1).2 x rest n.2
            | inr h ↦ constant_sound p d ts here x rest h.1
          ]
    ]

primary_sound : (e f : Parser GhostExprTree) (d : ℕ) → IsSpelled e ghost_expr term_depth d → IsSpelled f ghost_expr branch_depth d → Reads 0 d (primary_at e f)
unfolding primary_at
primary_sound e f d he hf ts x rest eq =
    let p = bind_ok {r = here_at ts} eq in
    let here = here_sound ts p.0.0 p.0.1 p.1 in
    let same : primary_form_at e f p.0.0 ts ≡ ok x rest = subst (λ (r : List Token). primary_form_at e f p.0.0 r ≡ ok x rest) here.0 p.2 in
    primary_form_sound e f d he hf p.0.0 ts here.1 x rest same

low_rank : (n : ℕ) → n ≤ 2 → nat_le n 2 ≡ true
low_rank n h = le-leb n 2 h

signed_by_sound : (e f u : Parser GhostExprTree) (d : ℕ) → IsSpelled e ghost_expr term_depth d → IsSpelled f ghost_expr branch_depth d → ReadsUnder d u → (o : Option UnaryOperator) → Reads 2 d (signed_by e f u o)
signed_by_sound e f u d he hf hu None ts x rest eq =
    let k = primary_sound e f d he hf ts x rest eq in
    let low = k.1 in
    (k.0, omega (arith, low), k.2)
signed_by_sound e f u d he hf hu (Some o) ts x rest eq =
    let p = bind_ok {r = mark_at Ghost (unary_mark o) ts} eq in
    let a = bind_ok {r = u p.0.1} p.2 in
    let m = mark_sound Ghost (unary_mark o) ts p.0.0 p.0.1 p.1 in
    let k = hu p.0.1 a.0.0 a.0.1 a.1 in
    let low = low_rank (ghost_rank a.0.0) k.1 in
    moved (λ y r. IsTerm 2 d ts y r) a.2 (rw (m.1, m.0, low) k.0, omega arith, k.2)

signed_sound : (e f u : Parser GhostExprTree) (d : ℕ) → IsSpelled e ghost_expr term_depth d → IsSpelled f ghost_expr branch_depth d → ReadsUnder d u → Reads 2 d (signed_at e f u)
unfolding signed_at
signed_sound e f u d he hf hu ts x rest eq = signed_by_sound e f u d he hf hu (next_unary Ghost ts) ts x rest eq

looseness_above : (j : ℕ) → j ≤ 5 → looseness (level_above j) ≡ j + 3
looseness_above zero h = refl
looseness_above (suc zero) h = refl
looseness_above (suc (suc zero)) h = refl
looseness_above (suc (suc (suc zero))) h = refl
looseness_above (suc (suc (suc (suc zero)))) h = refl
looseness_above (suc (suc (suc (suc (suc j))))) h = omega arith

level_of_found : (l : Level) (o : Option BinaryOperator) (b : BinaryOperator) → found_then o (on_level l) ≡ Some b → nat_eq (looseness (level_of b)) (looseness l) ≡ true
level_of_found l None b e = absurd cc
level_of_found l (Some c) b e =
    elim (chose (nat_eq (looseness (level_of c)) (looseness l)) (Some c) None _ e) [
      | inl h ↦ let same : c ≡ b = (let s = h.1 in cc) in subst (λ (y : BinaryOperator). nat_eq (looseness (level_of y)) (looseness l) ≡ true) same h.0
      | inr h ↦ absurd (let s = h.1 in cc)
    ]

level_of_next : (l : Level) (ts : List Token) (b : BinaryOperator) → next_on Ghost l ts ≡ Some b → nat_eq (looseness (level_of b)) (looseness l) ≡ true
unfolding next_on
level_of_next l ts b e = level_of_found l (found_then (next_mark Ghost ts) binary_of) b e

operand_below : (l : Level) (j : ℕ) (n : ℕ) → looseness l ≡ j + 3 → n ≤ j + 2 → nat_lt n (looseness l) ≡ true
operand_below l j n h g = lt-ltb n (looseness l) (omega (arith, h, g))

link_by_sound : (l : Level) (j d : ℕ) (p : Parser GhostExprTree) → looseness l ≡ j + 3 → Reads (j + 2) d p → (o : Option BinaryOperator) (ts : List Token) → next_on Ghost l ts ≡ o
    → (x : GhostLinkTree) (rest : List Token) → link_by p o ts ≡ ok x rest → (spelled.ghost_link l x ts ≡ Some rest) × (ghost_link_nesting x ≤ d)
link_by_sound l j d p hl hp None ts h x rest e = absurd cc
link_by_sound l j d p hl hp (Some o) ts h x rest e =
    let q = bind_ok {r = mark_at Ghost (binary_mark o) ts} e in
    let b = bind_ok {r = p q.0.1} q.2 in
    let m = mark_sound Ghost (binary_mark o) ts q.0.0 q.0.1 q.1 in
    let k = hp q.0.1 b.0.0 b.0.1 b.1 in
    let level = level_of_next l ts o h in
    let low = operand_below l j (ghost_rank b.0.0) hl k.1 in
    moved (λ (y : GhostLinkTree) r. (spelled.ghost_link l y ts ≡ Some r) × (ghost_link_nesting y ≤ d)) b.2 (rw (m.1, level, low, m.0) k.0, k.2)

link_sound : (l : Level) (j d : ℕ) (p : Parser GhostExprTree) → looseness l ≡ j + 3 → Reads (j + 2) d p → IsSpelled (link_at l p) (spelled.ghost_link l) ghost_link_nesting d
unfolding link_at
link_sound l j d p hl hp ts x rest e = link_by_sound l j d p hl hp (next_on Ghost l ts) ts refl x rest e

links_same : (l : Level) (xs : List GhostLinkTree) → each (spelled.ghost_link l) xs ≡ ghost_links l (ghost_link_list xs)
links_same l [] = refl
links_same l (x ∷ xs) = ap (λ (W : Walk). spelled.ghost_link l x ⨾ W) (links_same l xs)

links_nesting_same : (xs : List GhostLinkTree) → greatest ghost_link_nesting xs ≡ ghost_links_nesting (ghost_link_list xs)
links_nesting_same [] = refl
links_nesting_same (x ∷ xs) = ap (λ (n : ℕ). max (ghost_link_nesting x) n) (links_nesting_same xs)

chained_sound : (l : Level) (j d : ℕ) → looseness l ≡ j + 3 → (p : Place) (a : GhostExprTree) (all ts : List Token) → at p all ≡ Some all → IsTerm (j + 2) d all a ts
    → (xs : List GhostLinkTree) (rest : List Token) → ghost_links l (ghost_link_list xs) ts ≡ Some rest → ghost_links_nesting (ghost_link_list xs) ≤ d → IsTerm (j + 3) d all (chained p l a xs) rest
chained_sound l j d hl p a all ts here ha [] rest e low = let rank = ha.1 in (ha.0 ∙ e, omega (arith, rank), ha.2)
chained_sound l j d hl p a all ts here ha (x ∷ xs) rest e low =
    let below = operand_below l j (ghost_rank a) hl ha.1 in
    let nests = ha.2 in
    (rw (here, below, ha.0) e, omega (arith, hl), omega (arith, nests, low))

chain_sound : (l : Level) (j d : ℕ) (q : Parser GhostExprTree) → looseness l ≡ j + 3 → Reads (j + 2) d q → (p : Place) (a : GhostExprTree) (all ts : List Token) → at p all ≡ Some all → IsTerm (j + 2) d all a ts
    → (x : GhostExprTree) (rest : List Token) → chain_at l q p a ts ≡ ok x rest → IsTerm (j + 3) d all x rest
unfolding chain_at link_step
chain_sound l j d q hl hq p a all ts here ha x rest e =
    let xs = bind_ok {r = many (joins l) (link_step l q) [] ts} e in
    let k = items_sound (link_at l q) (spelled.ghost_link l) ghost_link_nesting d (link_sound l j d q hl hq) (joins l) (length ts) [] ts xs.0.0 xs.0.1 xs.1 in
    let same : k.0 ≡ xs.0.0 = sym k.1 in
    let links : ghost_links l (ghost_link_list xs.0.0) ts ≡ Some xs.0.1 = subst (λ (ys : List GhostLinkTree). ghost_links l (ghost_link_list ys) ts ≡ Some xs.0.1) same (subst (λ (W : Walk). W ts ≡ Some xs.0.1) (links_same l k.0) k.2) in
    let low : ghost_links_nesting (ghost_link_list xs.0.0) ≤ d = subst (λ (ys : List GhostLinkTree). ghost_links_nesting (ghost_link_list ys) ≤ d) same (subst (λ (m : ℕ). m ≤ d) (links_nesting_same k.0) k.3) in
    moved (λ y r. IsTerm (j + 3) d all y r) xs.2 (chained_sound l j d hl p a all ts here ha xs.0.0 xs.0.1 links low)

joined_sound : (u : Parser GhostExprTree) (j d : ℕ) → Reads 2 d u → GoesOn u j d → Reads (j + 2) d (joined_at u j)
unfolding joined_by
joined_sound u j d hu hr ts x rest e =
    let p = bind_ok {r = here_at ts} e in
    let here = here_sound ts p.0.0 p.0.1 p.1 in
    let a = bind_ok {r = u p.0.1} p.2 in
    let first : IsTerm 2 d ts a.0.0 a.0.1 = subst (λ (r : List Token). IsTerm 2 d r a.0.0 a.0.1) here.0 (hu p.0.1 a.0.0 a.0.1 a.1) in
    hr p.0.0 a.0.0 ts a.0.1 here.1 first x rest a.2

pub rest_sound : (u : Parser GhostExprTree) (d : ℕ) → Reads 2 d u → (j : ℕ) → j ≤ 6 → GoesOn u j d
unfolding rest_at
rest_sound u d hu zero h p a all ts here ha x rest e = let rank = ha.1 in moved (λ y r. IsTerm (0 + 2) d all y r) e (ha.0, omega (arith, rank), ha.2)
rest_sound u d hu (suc j) h p a all ts here ha x rest e =
    let b = bind_ok {r = rest_at u j p a ts} e in
    let lower = rest_sound u d hu j (omega arith) in
    let first = lower p a all ts here ha b.0.0 b.0.1 b.1 in
    let k = chain_sound (level_above j) j d (joined_at u j) (looseness_above j (omega arith)) (joined_sound u j d hu lower) p b.0.0 all b.0.1 here first x rest b.2 in
    let rank = k.1 in
    (k.0, omega (arith, rank), k.2)

mutual
  unfolding term_at branch_at unary_at

  pub term_sound : (d : ℕ) → IsSpelled (term_at d) ghost_expr term_depth d
  term_sound zero ts x rest e = too_deep_never begins_term ts x rest e
  term_sound (suc d) ts x rest e =
      let hu = signed_sound (term_at d) (branch_at d) (unary_at d) d (term_sound d) (branch_sound d) (unary_sound d) in
      let k = joined_sound (operand_at d) 6 d hu (rest_sound (operand_at d) d hu 6 (omega arith)) ts x rest e in
      let low = k.2 in
      (k.0, omega (arith, low))

  pub branch_sound : (d : ℕ) → IsSpelled (branch_at d) ghost_expr branch_depth d
  branch_sound zero ts x rest e = too_deep_never begins_term ts x rest e
  branch_sound (suc d) ts x rest e = let k = term_sound d ts x rest e in let low = k.1 in (k.0, omega (arith, low))

  pub unary_sound : (d : ℕ) → ReadsUnder d (unary_at d)
  unary_sound zero ts x rest e = too_deep_never begins_term ts x rest e
  unary_sound (suc d) ts x rest e =
      let k = signed_sound (term_at d) (branch_at d) (unary_at d) d (term_sound d) (branch_sound d) (unary_sound d) ts x rest e in
      let low = k.2 in
      (k.0, k.1, omega (arith, low))

pub operand_sound : (d : ℕ) → Reads 2 d (operand_at d)
operand_sound d = signed_sound (term_at d) (branch_at d) (unary_at d) d (term_sound d) (branch_sound d) (unary_sound d)
