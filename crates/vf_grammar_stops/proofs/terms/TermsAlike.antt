-- Expressions of ghost text stop alike on tokens that are alike, also where the others may nest deeper.
use Rattle.std.proofs.Common.{◌≡◌, ℕ, zero, suc, ◌≤◌, Bool, false, List, [], ◌∷◌, Option, Some, None, refl, sym, ap, ◌∙◌, arith}
use Rattle.std.proofs.lemmas.Bool.{or_parts}
use Rattle.vf_base.specs.declared.place.Place.{Place}
use Rattle.vf_lexer.specs.declared.punctuator.Punctuator.TheVariants as punctuators
use Rattle.vf_lexer.specs.declared.token.Token.{Token}
use Rattle.vf_syntax.specs.declared.keyword.Keyword.TheVariants as keywords
use Rattle.vf_syntax.specs.declared.side.Side.TheVariants.{Ghost}
use Rattle.vf_syntax.specs.declared.operator.UnaryOperator.{UnaryOperator}
use Rattle.vf_syntax.specs.declared.operator.BinaryOperator.{BinaryOperator}
use Rattle.vf_syntax.specs.declared.operator.Level.{Level}
use Rattle.vf_syntax.specs.GhostExprTree.{GhostExprTree, ghost_expr_list, ghost_link}
use Rattle.vf_syntax.specs.GhostExprTree as tree
use Rattle.vf_syntax.specs.Walks.{head_has, is_mark, is_word, is_name}
use Rattle.vf_syntax.specs.Written.{unary_mark, unary_of, binary_mark, binary_of}
use Rattle.vf_cursor.specs.Parsing.{Parser, number_at, number_of, punctuator_of, next_by, is_there}
use Rattle.vf_cursor.specs.Types.{next_on, next_unary, found_then, on_level}
use Rattle.vf_parse_term.specs.Pieces.{too_deep_at}
use Rattle.vf_parse_term.specs.Terms.{is_constant_word, begins_term, literal_at, constant_at, arguments_at, named_at, second_branch_at, branches_at, parenthesized_at, primary_form_at, primary_at, signed_by, signed_at, level_above, joins, link_by, link_at, link_step, chained, chain_at, joined_by, rest_at, joined_at, term_at, branch_at, unary_at, operand_at}
use Rattle.vf_parse_term.proofs.Heads.{begins_term_is}
use Rattle.vf_parse_term.proofs.TermsRead.{term_sound, operand_sound}
use Rattle.vf_grammar_read.proofs.terms.Eaten.{term_eats}
use Rattle.vf_grammar_stops.proofs.types.Local.{Does, then_like, done_like, fail_like, here_like, mark_like, word_like, name_like, choice_like}
use Rattle.vf_grammar_stops.proofs.types.LoopAlike.{Takes, items_like}
use Rattle.vf_grammar_stops.proofs.expressions.Heads.{Hangs, next_hangs, found_like, kind_like}
use Rattle.vf_grammar_stops.proofs.expressions.Takes.{mark_takes, then_takes, late_takes, both_take}
use Rattle.vf_grammar_stops.proofs.expressions.Refused.{Refuses, here_refuses}
use Rattle.vf_grammar_stops.proofs.terms.Refused.{none_of, kind_refuses, at_here_refuses}
use Rattle.vf_grammar_stops.proofs.terms.Pieces.{too_deep_like, any_like}

unary_hangs : Hangs (next_unary Ghost)
unfolding next_unary
unary_hangs r s h = ap (λ o. found_then o unary_of) (next_hangs Ghost punctuator_of r s h)

level_hangs : (l : Level) → Hangs (next_on Ghost l)
unfolding next_on
level_hangs l r s h = ap (λ o. found_then (found_then o binary_of) (on_level l)) (next_hangs Ghost punctuator_of r s h)

pub number_like : {b : Bool} → Does b (number_at Ghost) (number_at Ghost)
unfolding number_at
number_like = kind_like Ghost number_of

literal_like : {b : Bool} (p : Place) → Does b (literal_at p) (literal_at p)
unfolding literal_at
literal_like p =
    choice_like (is_word Ghost keywords.True) (then_like (word_like Ghost keywords.True) (λ a. done_like (tree.true_ p)))
    (choice_like (is_word Ghost keywords.False) (then_like (word_like Ghost keywords.False) (λ a. done_like (tree.false_ p)))
    (then_like number_like (λ n. done_like (tree.number p n.0 n.1))))

constant_like : {b : Bool} (p : Place) → Does b (constant_at p) (constant_at p)
unfolding constant_at
constant_like p =
    choice_like (is_word Ghost keywords.Result) (then_like (word_like Ghost keywords.Result) (λ a. done_like (tree.result p)))
    (choice_like (is_word Ghost keywords.This) (then_like (word_like Ghost keywords.This) (λ a. done_like (tree.this_ p)))
    (choice_like (is_word Ghost keywords.CurrentThread) (then_like (word_like Ghost keywords.CurrentThread) (λ a. done_like (tree.current_thread p))) (literal_like p)))

pub arguments_like : {b : Bool} {e g : Parser GhostExprTree} → Does b e g → Takes g → Does b (arguments_at e) (arguments_at g)
unfolding arguments_at
arguments_like he takes =
    then_like (mark_like Ghost punctuators.OpenParenthesis) (λ a. then_like (any_like (is_mark Ghost punctuators.CloseParenthesis) he takes) (λ xs. then_like (mark_like Ghost punctuators.CloseParenthesis) (λ b. done_like xs)))

named_like : {b : Bool} {e g : Parser GhostExprTree} → Does b e g → Takes g → (p : Place) (x : List ℕ) → Does b (named_at e p x) (named_at g p x)
unfolding named_at
named_like he takes p x = choice_like (is_mark Ghost punctuators.OpenParenthesis) (then_like (arguments_like he takes) (λ xs. done_like (tree.application p x (ghost_expr_list xs)))) (done_like (tree.name_ p x))

second_branch_like : {b : Bool} {f h : Parser GhostExprTree} → Does b f h → (p : Place) (c a : GhostExprTree) → Does b (second_branch_at f p c a) (second_branch_at h p c a)
unfolding second_branch_at
second_branch_like hf p c a = then_like (mark_like Ghost punctuators.Colon) (λ k. then_like hf (λ b. then_like (mark_like Ghost punctuators.CloseParenthesis) (λ z. done_like (tree.conditional p c a b))))

branches_like : {b : Bool} {f h : Parser GhostExprTree} → Does b f h → (p : Place) (c : GhostExprTree) → Does b (branches_at f p c) (branches_at h p c)
unfolding branches_at
branches_like hf p c = then_like (mark_like Ghost punctuators.Question) (λ q. then_like hf (λ a. second_branch_like hf p c a))

parenthesized_like : {b : Bool} {e g f h : Parser GhostExprTree} → Does b e g → Does b f h → (p : Place) → Does b (parenthesized_at e f p) (parenthesized_at g h p)
unfolding parenthesized_at
parenthesized_like he hf p =
    then_like (mark_like Ghost punctuators.OpenParenthesis) (λ o. then_like he (λ c. choice_like (is_mark Ghost punctuators.Question) (branches_like hf p c) (then_like (mark_like Ghost punctuators.CloseParenthesis) (λ z. done_like (tree.parenthesized p c)))))

primary_form_like : {b : Bool} {e g f h : Parser GhostExprTree} → Does b e g → Takes g → Does b f h → (p : Place) → Does b (primary_form_at e f p) (primary_form_at g h p)
unfolding primary_form_at
primary_form_like he takes hf p =
    choice_like (is_mark Ghost punctuators.OpenParenthesis) (parenthesized_like he hf p) (choice_like (is_name Ghost) (then_like (name_like Ghost) (λ n. named_like he takes p n.text)) (constant_like p))

pub primary_like : {b : Bool} {e g f h : Parser GhostExprTree} → Does b e g → Takes g → Does b f h → Does b (primary_at e f) (primary_at g h)
unfolding primary_at
primary_like he takes hf = then_like here_like (λ p. primary_form_like he takes hf p)

signed_by_like : {b : Bool} {e g f h u v : Parser GhostExprTree} → Does b e g → Takes g → Does b f h → Does b u v → (o : Option UnaryOperator) → Does b (signed_by e f u o) (signed_by g h v o)
signed_by_like he takes hf hu None = primary_like he takes hf
signed_by_like he takes hf hu (Some o) = then_like (mark_like Ghost (unary_mark o)) (λ p. then_like hu (λ a. done_like (tree.unary p o a)))

signed_like : {b : Bool} {e g f h u v : Parser GhostExprTree} → Does b e g → Takes g → Does b f h → Does b u v → Does b (signed_at e f u) (signed_at g h v)
unfolding signed_at
signed_like {e = e} {g = g} {f = f} {h = h} {u = u} {v = v} he takes hf hu = found_like (next_unary Ghost) unary_hangs (signed_by e f u) (signed_by g h v) (λ o. signed_by_like he takes hf hu o)

link_by_like : {b : Bool} {p q : Parser GhostExprTree} → Does b p q → (o : Option BinaryOperator) → Does b (link_by p o) (link_by q o)
link_by_like hp None = fail_like
link_by_like hp (Some o) = then_like (mark_like Ghost (binary_mark o)) (λ m. then_like hp (λ a. done_like (ghost_link m o a)))

link_like : {b : Bool} {p q : Parser GhostExprTree} (l : Level) → Does b p q → Does b (link_at l p) (link_at l q)
unfolding link_at
link_like {p = p} {q = q} l hp = found_like (next_on Ghost l) (level_hangs l) (link_by p) (link_by q) (λ o. link_by_like hp o)

some_link_takes : {q : Parser GhostExprTree} → Takes q → (o : BinaryOperator) → Takes (link_by q (Some o))
some_link_takes hq o = both_take (mark_takes Ghost (binary_mark o)) (λ m. then_takes hq (λ a. done_like (ghost_link m o a)))

link_by_takes : {q : Parser GhostExprTree} → Takes q → (o : Option BinaryOperator) → Takes (link_by q o)
link_by_takes hq None ts x rest e = absurd cc
link_by_takes hq (Some o) ts x rest e = some_link_takes hq o ts x rest e

link_takes : {q : Parser GhostExprTree} (l : Level) → Takes q → Takes (link_at l q)
unfolding link_at
link_takes l hq ts x rest e = link_by_takes hq (next_on Ghost l ts) ts x rest e

chain_like : {b : Bool} {p q : Parser GhostExprTree} (l : Level) → Does b p q → Takes q → (h : Place) (a : GhostExprTree) → Does b (chain_at l p h a) (chain_at l q h a)
unfolding chain_at link_step
chain_like l hp takes h a = then_like (items_like (joins l) (link_like l hp) (link_takes l takes) []) (λ xs. done_like (chained h l a xs))

-- what goes on with an operand, and goes on alike
abbrev pub RestsAlike : Parser GhostExprTree → Parser GhostExprTree → ℕ → Type 0
RestsAlike u v j = (p : Place) (a : GhostExprTree) → Does false (rest_at u j p a) (rest_at v j p a)

joined_like : {u v : Parser GhostExprTree} (j : ℕ) → Does false u v → RestsAlike u v j → Does false (joined_at u j) (joined_at v j)
unfolding joined_by
joined_like j hu hr = then_like here_like (λ p. then_like hu (λ a. hr p a))

joined_takes : {u : Parser GhostExprTree} (v : Parser GhostExprTree) (j : ℕ) → Takes u → RestsAlike u v j → Takes (joined_at u j)
unfolding joined_by
joined_takes v j takes hr = late_takes (here_like {b = false}) (λ p. then_takes takes (λ a. hr p a))

pub rest_like : {u v : Parser GhostExprTree} → Does false u v → Does false v v → Takes v → (j : ℕ) → RestsAlike u v j
unfolding rest_at
rest_like hu hv takes zero p a = done_like a
rest_like {v = v} hu hv takes (suc j) p a =
    then_like (rest_like hu hv takes j p a) (λ b. chain_like (level_above j) (joined_like j hu (rest_like hu hv takes j)) (joined_takes v j takes (rest_like hv hv takes j)) p b)

-- the tests of what begins an expression, each failed
pub record Unbegun (ts : List Token) : Type 0 where
  pub opening : head_has (is_mark Ghost punctuators.OpenParenthesis) ts ≡ false
  pub name : head_has (is_name Ghost) ts ≡ false
  pub constant : head_has is_constant_word ts ≡ false
  pub number : is_there (next_by Ghost number_of ts) ≡ false
  pub sign : is_there (next_unary Ghost ts) ≡ false

pub unbegun : (ts : List Token) → head_has begins_term ts ≡ false → Unbegun ts
unbegun ts h =
    let a = or_parts _ (is_there (next_unary Ghost ts)) (sym (begins_term_is ts) ∙ h) in
    let b = or_parts _ (is_there (next_by Ghost number_of ts)) a.0 in
    let c = or_parts _ (head_has is_constant_word ts) b.0 in
    let d = or_parts (head_has (is_mark Ghost punctuators.OpenParenthesis) ts) _ c.0 in
    record { opening = d.0; name = d.1; constant = c.1; number = b.1; sign = a.1 }

-- no word that is an expression comes next
record Wordless (ts : List Token) : Type 0 where
  truth : head_has (is_word Ghost keywords.True) ts ≡ false
  falsity : head_has (is_word Ghost keywords.False) ts ≡ false
  result_word : head_has (is_word Ghost keywords.Result) ts ≡ false
  this_word : head_has (is_word Ghost keywords.This) ts ≡ false
  thread : head_has (is_word Ghost keywords.CurrentThread) ts ≡ false

wordless : (ts : List Token) → head_has is_constant_word ts ≡ false → Wordless ts
unfolding is_constant_word
wordless [] h = record { truth = refl; falsity = refl; result_word = refl; this_word = refl; thread = refl }
wordless (t ∷ ts) h =
    let a = or_parts _ (is_word Ghost keywords.CurrentThread t) h in
    let b = or_parts _ (is_word Ghost keywords.This t) a.0 in
    let c = or_parts _ (is_word Ghost keywords.Result t) b.0 in
    let d = or_parts (is_word Ghost keywords.True t) _ c.0 in
    record { truth = d.0; falsity = d.1; result_word = c.1; this_word = b.1; thread = a.1 }

constant_refuses : (p : Place) (ts : List Token) → Unbegun ts → Wordless ts → Refuses (constant_at p) ts
unfolding constant_at literal_at number_at
constant_refuses p ts u w = rw (w.result_word, w.this_word, w.thread, w.truth, w.falsity, kind_refuses Ghost number_of ts u.number) refl

primary_form_refuses : (e f : Parser GhostExprTree) (p : Place) (ts : List Token) → Unbegun ts → Refuses (primary_form_at e f p) ts
unfolding primary_form_at
primary_form_refuses e f p ts u = rw (u.opening, u.name) (constant_refuses p ts u (wordless ts u.constant))

signed_refuses : (e f u : Parser GhostExprTree) (ts : List Token) → Unbegun ts → Refuses (signed_at e f u) ts
unfolding signed_at primary_at
signed_refuses e f u ts n = rw (none_of (next_unary Ghost ts) n.sign) (at_here_refuses (primary_form_at e f) ts (λ p. primary_form_refuses e f p ts n))

-- what can't begin an expression is refused at once
mutual
  unfolding term_at branch_at unary_at too_deep_at joined_by

  pub term_refuses : (m : ℕ) (ts : List Token) → head_has begins_term ts ≡ false → Refuses (term_at m) ts
  term_refuses zero ts h = rw h refl
  term_refuses (suc m) ts h = here_refuses (operand_at m) (rest_at (operand_at m) 6) ts (signed_refuses (term_at m) (branch_at m) (unary_at m) ts (unbegun ts h))

  branch_refuses : (m : ℕ) (ts : List Token) → head_has begins_term ts ≡ false → Refuses (branch_at m) ts
  branch_refuses zero ts h = rw h refl
  branch_refuses (suc m) ts h = term_refuses m ts h

  unary_refuses : (m : ℕ) (ts : List Token) → head_has begins_term ts ≡ false → Refuses (unary_at m) ts
  unary_refuses zero ts h = rw h refl
  unary_refuses (suc m) ts h = signed_refuses (term_at m) (branch_at m) (unary_at m) ts (unbegun ts h)

pub operand_refuses : (m : ℕ) (ts : List Token) → head_has begins_term ts ≡ false → Refuses (operand_at m) ts
operand_refuses m ts h = signed_refuses (term_at m) (branch_at m) (unary_at m) ts (unbegun ts h)

-- what is read as an expression takes a token
pub term_takes : (d : ℕ) → Takes (term_at d)
term_takes d ts x rest e = (term_eats x).eat ts rest ((term_sound d ts x rest e).0)

-- what is read as an operand takes a token
pub operand_takes : (d : ℕ) → Takes (operand_at d)
operand_takes d ts x rest e = (term_eats x).eat ts rest ((operand_sound d ts x rest e).0)

mutual
  unfolding term_at branch_at unary_at

  pub term_like : (d m : ℕ) → d ≤ m → Does false (term_at d) (term_at m)
  term_like zero m le = too_deep_like begins_term (term_at m) (term_refuses m)
  term_like (suc d) zero le = absurd (omega (arith, le))
  term_like (suc d) (suc m) le =
      let below : d ≤ m = omega (arith, le) in
      let same : m ≤ m = omega arith in
      let down = signed_like (term_like d m below) (term_takes m) (branch_like d m below) (unary_like d m below) in
      let level = signed_like (term_like m m same) (term_takes m) (branch_like m m same) (unary_like m m same) in
      joined_like 6 down (rest_like down level (operand_takes m) 6)

  branch_like : (d m : ℕ) → d ≤ m → Does false (branch_at d) (branch_at m)
  branch_like zero m le = too_deep_like begins_term (branch_at m) (branch_refuses m)
  branch_like (suc d) zero le = absurd (omega (arith, le))
  branch_like (suc d) (suc m) le = term_like d m (omega (arith, le))

  unary_like : (d m : ℕ) → d ≤ m → Does false (unary_at d) (unary_at m)
  unary_like zero m le = too_deep_like begins_term (unary_at m) (unary_refuses m)
  unary_like (suc d) zero le = absurd (omega (arith, le))
  unary_like (suc d) (suc m) le =
      let below : d ≤ m = omega (arith, le) in
      signed_like (term_like d m below) (term_takes m) (branch_like d m below) (unary_like d m below)

pub operand_like : (d m : ℕ) → d ≤ m → Does false (operand_at d) (operand_at m)
operand_like d m le = signed_like (term_like d m le) (term_takes m) (branch_like d m le) (unary_like d m le)
