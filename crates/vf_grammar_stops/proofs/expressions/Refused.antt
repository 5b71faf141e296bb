-- What can't begin an expression is refused at once.
use Rattle.std.proofs.Common.{◌≡◌, ℕ, zero, suc, false, ◌||◌, List, [], ◌∷◌, length, Option, Some, None, Err, refl, ap}
use Rattle.std.proofs.lemmas.Bool.{or_parts}
use Rattle.vf_base.specs.declared.place.Place.{Place}
use Rattle.vf_lexer.specs.declared.punctuator.Punctuator.{Punctuator}
use Rattle.vf_lexer.specs.declared.punctuator.Punctuator.TheVariants as punctuators
use Rattle.vf_lexer.specs.declared.token.Token.{Token}
use Rattle.vf_syntax.specs.declared.keyword.Keyword.TheVariants as keywords
use Rattle.vf_syntax.specs.declared.side.Side.TheVariants.{Real}
use Rattle.vf_syntax.specs.ExprTree.{ExprTree}
use Rattle.vf_syntax.specs.Walks.{head_has, is_mark, is_word, is_name}
use Rattle.vf_cursor.specs.declared.fault.Fault.TheVariants.{Syntax}
use Rattle.vf_cursor.specs.Parsing.{Parser, ◌>>=◌, here_at, mark_at, next_by, number_of, character_of, is_there}
use Rattle.vf_cursor.specs.Types.{next_unary}
use Rattle.vf_parse_expression.specs.Operands.{sees_cast, sees_primary, sees_operand}
use Rattle.vf_parse_expression.specs.Parsers.{parenthesized_at, word_primary_at, primary_at, post_at, unsigned_at, whole_operand_at, chain_at, tier_at, conditional_at, expr_at, unary_at, factor_at}
use Rattle.vf_grammar_stops.proofs.types.Local.{first_has}
use Rattle.vf_grammar_stops.proofs.expressions.Heads.{Hangs, number_hangs, character_hangs, unary_hangs}

-- the next token is refused
abbrev pub Refuses : {A : Type 0} → Parser A → List Token → Type 0
Refuses q ts = q ts ≡ Err (Syntax (length ts))

mark_refuses : (m : Punctuator) (ts : List Token) → head_has (is_mark Real m) ts ≡ false → Refuses (mark_at Real m) ts
unfolding mark_at
mark_refuses m [] h = refl
mark_refuses m (t ∷ ts) h = rw h refl

-- behind its place nothing was taken
pub here_refuses : {A B : Type 0} (p : Parser A) (g : Place → A → Parser B) (ts : List Token) → Refuses p ts → Refuses (λ us. here_at us >>= λ h. p h.1 >>= λ a. g h.0 a.0 a.1) ts
unfolding here_at
here_refuses p g [] e = refl
here_refuses p g (t ∷ ts) e = rw e refl

-- the tests of what begins a primary expression, each failed
pub record Unseen (ts : List Token) : Type 0 where
  pub number : is_there (next_by Real number_of ts) ≡ false
  pub character : is_there (next_by Real character_of ts) ≡ false
  pub truth : head_has (is_word Real keywords.True) ts ≡ false
  pub falsity : head_has (is_word Real keywords.False) ts ≡ false
  pub malloc : head_has (is_word Real keywords.Malloc) ts ≡ false
  pub name : head_has (is_name Real) ts ≡ false
  pub open_ : head_has (is_mark Real punctuators.OpenParenthesis) ts ≡ false

pub unseen : (ts : List Token) → sees_primary ts ≡ false → Unseen ts
unfolding sees_primary
unseen ts h =
    let a = or_parts (is_there (next_by Real number_of ts)) _ h in
    let c = or_parts (is_there (next_by Real character_of ts)) _ a.1 in
    let d = or_parts (head_has (is_word Real keywords.True) ts) _ c.1 in
    let e = or_parts (head_has (is_word Real keywords.False) ts) _ d.1 in
    let f = or_parts (head_has (is_word Real keywords.Malloc) ts) _ e.1 in
    let g = or_parts (head_has (is_name Real) ts) _ f.1 in
    record { number = a.0; character = c.0; truth = d.0; falsity = e.0; malloc = f.0; name = g.0; open_ = g.1 }

parenthesized_refuses : (e : Parser ExprTree) (ts : List Token) → head_has (is_mark Real punctuators.OpenParenthesis) ts ≡ false → Refuses (parenthesized_at e) ts
unfolding parenthesized_at
parenthesized_refuses e ts h = rw (mark_refuses punctuators.OpenParenthesis ts h) refl

word_primary_refuses : (e f : Parser ExprTree) (ts : List Token) → Unseen ts → Refuses (word_primary_at e f) ts
unfolding word_primary_at
word_primary_refuses e f ts u = rw (u.truth, u.falsity, u.malloc, u.name) (parenthesized_refuses e ts u.open_)

primary_refuses : (e f : Parser ExprTree) (ts : List Token) → Unseen ts → Refuses (primary_at e f) ts
unfolding primary_at
primary_refuses e f ts u = rw (u.number, u.character) (word_primary_refuses e f ts u)

pub post_refuses : (e f : Parser ExprTree) (ts : List Token) → Unseen ts → Refuses (post_at e f) ts
unfolding post_at
post_refuses e f ts u = here_refuses (primary_at e f) _ ts (primary_refuses e f ts u)

none_of : {A : Type 0} (o : Option A) → is_there o ≡ false → o ≡ None
none_of None h = refl
none_of (Some x) h = absurd cc

uncast : (ts : List Token) → head_has (is_mark Real punctuators.OpenParenthesis) ts ≡ false → sees_cast ts ≡ false
unfolding sees_cast
uncast ts h = rw h refl

unsigned_refuses : (e u f : Parser ExprTree) (ts : List Token) → Unseen ts → Refuses (unsigned_at e u f) ts
unfolding unsigned_at
unsigned_refuses e u f ts n = rw (uncast ts n.open_) (post_refuses e f ts n)

operand_refuses : (e u f : Parser ExprTree) (ts : List Token) → sees_operand ts ≡ false → Refuses (whole_operand_at e u f) ts
unfolding whole_operand_at sees_operand
operand_refuses e u f ts h =
    let a = or_parts (is_there (next_unary Real ts)) _ h in
    rw (none_of (next_unary Real ts) a.0) (unsigned_refuses e u f ts (unseen ts a.1))

tier_refuses : (u : Parser ExprTree) (j : ℕ) (ts : List Token) → Refuses u ts → Refuses (tier_at u j) ts
unfolding tier_at chain_at
tier_refuses u zero ts h = h
tier_refuses u (suc j) ts h = here_refuses (tier_at u j) _ ts (tier_refuses u j ts h)

conditional_refuses : (e o : Parser ExprTree) (ts : List Token) → Refuses o ts → Refuses (conditional_at e o) ts
unfolding conditional_at
conditional_refuses e o ts h = here_refuses (tier_at o 6) _ ts (tier_refuses o 6 ts h)

pub expr_refuses : (m : ℕ) (ts : List Token) → sees_operand ts ≡ false → Refuses (expr_at m) ts
unfolding expr_at
expr_refuses zero ts h = rw h refl
expr_refuses (suc m) ts h = conditional_refuses _ _ ts (operand_refuses _ _ _ ts h)

pub unary_refuses : (m : ℕ) (ts : List Token) → sees_operand ts ≡ false → Refuses (unary_at m) ts
unfolding unary_at
unary_refuses zero ts h = rw h refl
unary_refuses (suc m) ts h = operand_refuses _ _ _ ts h

pub factor_refuses : (m : ℕ) (ts : List Token) → sees_primary ts ≡ false → Refuses (factor_at m) ts
unfolding factor_at
factor_refuses zero ts h = rw h refl
factor_refuses (suc m) ts h = post_refuses _ _ ts (unseen ts h)

pub primary_hangs : Hangs sees_primary
unfolding sees_primary
primary_hangs r s h = λ i. number_hangs r s h i || (character_hangs r s h i || (first_has (is_word Real keywords.True) r s h i || (first_has (is_word Real keywords.False) r s h i
    || (first_has (is_word Real keywords.Malloc) r s h i || (first_has (is_name Real) r s h i || first_has (is_mark Real punctuators.OpenParenthesis) r s h i)))))

pub operand_hangs : Hangs sees_operand
unfolding sees_operand
operand_hangs r s h = λ i. ap is_there (unary_hangs r s h) i || primary_hangs r s h i
