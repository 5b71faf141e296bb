-- What expressions begin with, and that no expression between parentheses begins as a cast does.
use Rattle.std.proofs.Common.{◌≡◌, ◌≤◌, ◌<◌, ◌⊎◌, Bool, true, false, ◌&&◌, List, [], ◌∷◌, Some, refl, sym, subst, ap, ◌∙◌, inl, inr, arith}
use Rattle.std.proofs.lemmas.Bool.{leb-true}
use Rattle.vf_base.specs.declared.place.Place.{Place}
use Rattle.vf_lexer.specs.declared.punctuator.Punctuator.{Punctuator}
use Rattle.vf_lexer.specs.declared.punctuator.Punctuator.TheVariants as punctuators
use Rattle.vf_lexer.specs.declared.token.Token.{Token}
use Rattle.vf_syntax.specs.declared.keyword.Keyword.TheVariants as keywords
use Rattle.vf_syntax.specs.declared.side.Side.TheVariants.{Real}
use Rattle.vf_syntax.specs.declared.operator.UnaryOperator.{UnaryOperator}
use Rattle.vf_syntax.specs.declared.operator.UnaryOperator.TheVariants as unaries
use Rattle.vf_syntax.specs.declared.operator.Level.{Level}
use Rattle.vf_syntax.specs.declared.operator.Level.TheVariants as levels
use Rattle.vf_syntax.specs.ExprTree.{ExprTree, LinkTree, LinkTrees, PostfixTree, PostfixTrees, no_link, more_link, no_postfix, more_postfix}
use Rattle.vf_syntax.specs.ExprTree as tree
use Rattle.vf_syntax.specs.Walks.{provided, at, mark, word, head_has, is_mark, is_name}
use Rattle.vf_syntax.specs.Written.{unary_mark, binary_mark, looseness}
use Rattle.vf_syntax.specs.Expressions.{expr, link, links, postfix, postfixes, rank, is_within, is_operand, has_links, has_parts, joins_on}
use Rattle.vf_cursor.specs.Types.{is_type_word}
use Rattle.vf_parse_expression.specs.Operands.{after, sees_cast_type, sees_cast}
use Rattle.vf_grammar_read.proofs.expressions.Same.{some_same, no_true, both}
use Rattle.vf_grammar_read.proofs.expressions.Fronts.{Class, a_mark, a_word, a_name, a_number, a_character, class_mark, class_name, Front, gone, at_stays, mark_front, word_front, identifier_front, number_front, character_front, mark_took, identifier_took}
use Rattle.vf_grammar_read.proofs.expressions.TypesFull.{class_type, type_word_of}

-- a token can begin a primary expression
abbrev pub class_primary : Class → Bool
class_primary (a_mark punctuators.OpenParenthesis) = true
class_primary (a_mark p) = false
class_primary (a_word keywords.True) = true
class_primary (a_word keywords.False) = true
class_primary (a_word keywords.Malloc) = true
class_primary (a_word k) = false
class_primary a_name = true
class_primary a_number = true
class_primary a_character = true

-- a token can begin an expression
abbrev pub class_expr : Class → Bool
class_expr (a_mark punctuators.Minus) = true
class_expr (a_mark punctuators.Not) = true
class_expr c = class_primary c

-- what an expression begins with
pub record Begun (x : ExprTree) (ts : List Token) : Type 0 where
  pub class : Class
  pub front : Front Real class ts
  pub begins : class_expr class ≡ true
  pub close : rank x ≤ 1 → class_primary class ≡ true

pub behind : (p : Place) {c : Class} {ts us : List Token} → at p ts ≡ Some us → Front Real c us → Front Real c ts
behind p {c = c} {ts = ts} {us = us} h f = subst (λ vs. Front Real c vs) (sym (at_stays p ts us h)) f

-- a condition on the tree holds, and nothing is taken
pub met : (b : Bool) (ts us : List Token) → provided b ts ≡ Some us → (b ≡ true) × (ts ≡ us)
met true ts us h = (refl, some_same h)
met false ts us h = absurd cc

pub loose : (l : Level) → 3 ≤ looseness l
loose levels.Multiplicative = omega arith
loose levels.Additive = omega arith
loose levels.Relational = omega arith
loose levels.Equality = omega arith
loose levels.And = omega arith
loose levels.Or = omega arith

sign_begins : (o : UnaryOperator) → class_expr (a_mark (unary_mark o)) ≡ true
sign_begins unaries.Minus = refl
sign_begins unaries.Not = refl

pub expr_begins : (x : ExprTree) (ts rest : List Token) → expr x ts ≡ Some rest → Begun x ts
expr_begins (tree.number p n ty) ts rest h =
    let g = gone (at p ts) h in
    record { class = a_number; front = behind p g.1 (number_front Real n ty g.0 rest g.2); begins = refl; close = λ c. refl }
expr_begins (tree.character p n) ts rest h =
    let g = gone (at p ts) h in
    record { class = a_character; front = behind p g.1 (character_front n g.0 rest g.2); begins = refl; close = λ c. refl }
expr_begins (tree.true_ p) ts rest h =
    let g = gone (at p ts) h in
    record { class = a_word keywords.True; front = behind p g.1 (word_front Real _ g.0 rest g.2); begins = refl; close = λ c. refl }
expr_begins (tree.false_ p) ts rest h =
    let g = gone (at p ts) h in
    record { class = a_word keywords.False; front = behind p g.1 (word_front Real _ g.0 rest g.2); begins = refl; close = λ c. refl }
expr_begins (tree.name_ p x) ts rest h =
    let g = gone (at p ts) h in
    record { class = a_name; front = behind p g.1 (identifier_front Real x g.0 rest g.2); begins = refl; close = λ c. refl }
expr_begins (tree.parenthesized p a) ts rest h =
    let g = gone (at p ts) h in let m = gone (mark Real punctuators.OpenParenthesis g.0) g.2 in
    record { class = a_mark punctuators.OpenParenthesis; front = behind p g.1 (mark_front Real _ g.0 m.0 m.1); begins = refl; close = λ c. refl }
expr_begins (tree.malloc p tag) ts rest h =
    let g = gone (at p ts) h in let m = gone (word Real keywords.Malloc g.0) g.2 in
    record { class = a_word keywords.Malloc; front = behind p g.1 (word_front Real _ g.0 m.0 m.1); begins = refl; close = λ c. refl }
expr_begins (tree.malloc_ints p n star) ts rest h =
    let g = gone (at p ts) h in let m = gone (word Real keywords.Malloc g.0) g.2 in
    record { class = a_word keywords.Malloc; front = behind p g.1 (word_front Real _ g.0 m.0 m.1); begins = refl; close = λ c. refl }
expr_begins (tree.postfix p a parts) ts rest h =
    let g = gone (at p ts) h in
    let q = gone (provided (is_within 0 a && has_parts parts) g.0) g.2 in
    let w = met _ g.0 q.0 q.1 in
    let m = gone (expr a q.0) q.2 in
    let b = expr_begins a q.0 m.0 m.1 in
    let within : rank a ≤ 0 = leb-true (rank a) 0 (both _ _ w.0).0 in
    record { class = b.class; front = behind p g.1 (subst (λ us. Front Real b.class us) (sym w.1) b.front); begins = b.begins; close = λ c. b.close (omega (arith, within)) }
expr_begins (tree.unary p o a) ts rest h =
    let g = gone (at p ts) h in let m = gone (mark Real (unary_mark o) g.0) g.2 in
    record { class = a_mark (unary_mark o); front = behind p g.1 (mark_front Real _ g.0 m.0 m.1); begins = sign_begins o; close = λ c. absurd (omega (arith, c)) }
expr_begins (tree.cast p t a) ts rest h =
    let g = gone (at p ts) h in let m = gone (mark Real punctuators.OpenParenthesis g.0) g.2 in
    record { class = a_mark punctuators.OpenParenthesis; front = behind p g.1 (mark_front Real _ g.0 m.0 m.1); begins = refl; close = λ c. refl }
expr_begins (tree.chain p l a xs) ts rest h =
    let g = gone (at p ts) h in
    let q = gone (provided (is_operand l a && has_links xs) g.0) g.2 in
    let w = met _ g.0 q.0 q.1 in
    let m = gone (expr a q.0) q.2 in
    let b = expr_begins a q.0 m.0 m.1 in
    record { class = b.class; front = behind p g.1 (subst (λ us. Front Real b.class us) (sym w.1) b.front); begins = b.begins; close = λ c. absurd (omega (arith, c, loose l)) }
expr_begins (tree.conditional p c a b) ts rest h =
    let g = gone (at p ts) h in
    let q = gone (provided (is_within 8 c) g.0) g.2 in
    let w = met _ g.0 q.0 q.1 in
    let m = gone (expr c q.0) q.2 in
    let b = expr_begins c q.0 m.0 m.1 in
    record { class = b.class; front = behind p g.1 (subst (λ us. Front Real b.class us) (sym w.1) b.front); begins = b.begins; close = λ k. absurd (omega (arith, k)) }

-- no expression begins with a closing parenthesis
pub unclosed : (c : Class) → class_expr c ≡ true → class_mark c punctuators.CloseParenthesis ≡ false
unclosed (a_mark punctuators.OpenParenthesis) h = refl
unclosed (a_mark punctuators.Minus) h = refl
unclosed (a_mark punctuators.Not) h = refl
unclosed (a_mark p) h = no_true h
unclosed (a_word k) h = refl
unclosed a_name h = refl
unclosed a_number h = refl
unclosed a_character h = refl

-- a name with a star behind it
record Lone (t u : Token) : Type 0 where
  named : is_name Real t ≡ true
  starred : is_mark Real punctuators.Star u ≡ true

-- two tests can't be both
apart : {Y : Type 0} {b : Bool} → b ≡ true → b ≡ false → Y
apart h k = no_true (sym k ∙ h)

starless : {Y : Type 0} (m : Punctuator) (u : Token) (us rest : List Token) → class_mark (a_mark m) punctuators.Star ≡ false → is_mark Real punctuators.Star u ≡ true → mark Real m (u ∷ us) ≡ Some rest → Y
starless m u us rest h s e = apart s ((mark_front Real m (u ∷ us) rest e).marks_are punctuators.Star ∙ h)

part_apart : {Y : Type 0} (x : PostfixTree) (u : Token) (us rest : List Token) → is_mark Real punctuators.Star u ≡ true → postfix x (u ∷ us) ≡ Some rest → Y
part_apart (tree.field_ p n) u us rest s h =
    let g = gone (at p (u ∷ us)) h in let m = gone (mark Real punctuators.Arrow g.0) g.2 in
    apart s ((behind p g.1 (mark_front Real _ g.0 m.0 m.1)).marks_are punctuators.Star)
part_apart (tree.index_ p e) u us rest s h =
    let g = gone (at p (u ∷ us)) h in let m = gone (mark Real punctuators.OpenBracket g.0) g.2 in
    apart s ((behind p g.1 (mark_front Real _ g.0 m.0 m.1)).marks_are punctuators.Star)
part_apart (tree.call_ p xs) u us rest s h =
    let g = gone (at p (u ∷ us)) h in let m = gone (mark Real punctuators.OpenParenthesis g.0) g.2 in
    apart s ((behind p g.1 (mark_front Real _ g.0 m.0 m.1)).marks_are punctuators.Star)

parts_apart : {Y : Type 0} (xs : PostfixTrees) (u : Token) (us rest : List Token) → has_parts xs ≡ true → is_mark Real punctuators.Star u ≡ true → postfixes xs (u ∷ us) ≡ Some rest → Y
parts_apart no_postfix u us rest k s h = no_true k
parts_apart (more_postfix x xs) u us rest k s h = let m = gone (postfix x (u ∷ us)) h in part_apart x u us m.0 s m.1

-- no operand stands behind the star
links_apart : {Y : Type 0} (l : Level) (xs : LinkTrees) (u : Token) (us rest : List Token) → has_links xs ≡ true → head_has (is_mark Real punctuators.CloseParenthesis) us ≡ true → links l xs (u ∷ us) ≡ Some rest → Y
links_apart l no_link u us rest k c h = no_true k
links_apart l (more_link (tree.link p o a) xs) u us rest k c h =
    let m = gone (link l (tree.link p o a) (u ∷ us)) h in
    let g = gone (at p (u ∷ us)) m.1 in
    let q = gone (provided (joins_on l (tree.link p o a)) g.0) g.2 in
    let w = met _ g.0 q.0 q.1 in
    let n = gone (mark Real (binary_mark o) q.0) q.2 in
    let t = mark_took Real (binary_mark o) q.0 n.0 n.1 in
    let same : u ∷ us ≡ t.token ∷ n.0 = at_stays p (u ∷ us) g.0 g.1 ∙ w.1 ∙ t.parts in
    let tail : us ≡ n.0 = ap after same in
    let b = expr_begins a n.0 m.0 n.2 in
    apart (subst (λ vs. head_has (is_mark Real punctuators.CloseParenthesis) vs ≡ true) tail c) (b.front.marks_are punctuators.CloseParenthesis ∙ unclosed b.class b.begins)

nameless : {Y : Type 0} (c : Class) (t : Token) (us : List Token) → Front Real c (t ∷ us) → is_name Real t ≡ true → class_name c ≡ false → Y
nameless c t us f h k = apart h (f.names_are ∙ k)

loosely : (x : ExprTree) {P : Type 0} → (rank x ≤ 1) ⊎ P → 1 < rank x → P
loosely x (inl h) k = absurd (omega (arith, h, k))
loosely x (inr c) k = c

-- an expression that begins with such a name is that name alone, where it holds together closely or a closing parenthesis stands behind the star
lone : (x : ExprTree) (t u : Token) (us rest : List Token) → Lone t u → (rank x ≤ 1) ⊎ (head_has (is_mark Real punctuators.CloseParenthesis) us ≡ true) → expr x (t ∷ u ∷ us) ≡ Some rest → rest ≡ u ∷ us
lone (tree.name_ p x) t u us rest l k h =
    let g = gone (at p (t ∷ u ∷ us)) h in
    let n = identifier_took Real x g.0 rest g.2 in
    let same : t ∷ u ∷ us ≡ n.token ∷ rest = at_stays p (t ∷ u ∷ us) g.0 g.1 ∙ n.parts in
    sym (ap after same)
lone (tree.number p n ty) t u us rest l k h =
    let g = gone (at p (t ∷ u ∷ us)) h in
    nameless a_number t (u ∷ us) (behind p g.1 (number_front Real n ty g.0 rest g.2)) l.named refl
lone (tree.character p n) t u us rest l k h =
    let g = gone (at p (t ∷ u ∷ us)) h in
    nameless a_character t (u ∷ us) (behind p g.1 (character_front n g.0 rest g.2)) l.named refl
lone (tree.true_ p) t u us rest l k h =
    let g = gone (at p (t ∷ u ∷ us)) h in
    nameless (a_word keywords.True) t (u ∷ us) (behind p g.1 (word_front Real _ g.0 rest g.2)) l.named refl
lone (tree.false_ p) t u us rest l k h =
    let g = gone (at p (t ∷ u ∷ us)) h in
    nameless (a_word keywords.False) t (u ∷ us) (behind p g.1 (word_front Real _ g.0 rest g.2)) l.named refl
lone (tree.parenthesized p a) t u us rest l k h =
    let g = gone (at p (t ∷ u ∷ us)) h in let m = gone (mark Real punctuators.OpenParenthesis g.0) g.2 in
    nameless (a_mark punctuators.OpenParenthesis) t (u ∷ us) (behind p g.1 (mark_front Real _ g.0 m.0 m.1)) l.named refl
lone (tree.malloc p tag) t u us rest l k h =
    let g = gone (at p (t ∷ u ∷ us)) h in let m = gone (word Real keywords.Malloc g.0) g.2 in
    nameless (a_word keywords.Malloc) t (u ∷ us) (behind p g.1 (word_front Real _ g.0 m.0 m.1)) l.named refl
lone (tree.malloc_ints p n star) t u us rest l k h =
    let g = gone (at p (t ∷ u ∷ us)) h in let m = gone (word Real keywords.Malloc g.0) g.2 in
    nameless (a_word keywords.Malloc) t (u ∷ us) (behind p g.1 (word_front Real _ g.0 m.0 m.1)) l.named refl
lone (tree.unary p o a) t u us rest l k h =
    let g = gone (at p (t ∷ u ∷ us)) h in let m = gone (mark Real (unary_mark o) g.0) g.2 in
    nameless (a_mark (unary_mark o)) t (u ∷ us) (behind p g.1 (mark_front Real _ g.0 m.0 m.1)) l.named refl
lone (tree.cast p q a) t u us rest l k h =
    let g = gone (at p (t ∷ u ∷ us)) h in let m = gone (mark Real punctuators.OpenParenthesis g.0) g.2 in
    nameless (a_mark punctuators.OpenParenthesis) t (u ∷ us) (behind p g.1 (mark_front Real _ g.0 m.0 m.1)) l.named refl
lone (tree.postfix p a parts) t u us rest l k h =
    let g = gone (at p (t ∷ u ∷ us)) h in
    let q = gone (provided (is_within 0 a && has_parts parts) g.0) g.2 in
    let w = met _ g.0 q.0 q.1 in
    let m = gone (expr a q.0) q.2 in
    let same : t ∷ u ∷ us ≡ q.0 = at_stays p (t ∷ u ∷ us) g.0 g.1 ∙ w.1 in
    let within : rank a ≤ 0 = leb-true (rank a) 0 (both _ _ w.0).0 in
    let inner = lone a t u us m.0 l (inl (omega (arith, within))) (subst (λ vs. expr a vs ≡ Some m.0) (sym same) m.1) in
    parts_apart parts u us rest (both _ _ w.0).1 l.starred (subst (λ vs. postfixes parts vs ≡ Some rest) inner m.2)
lone (tree.chain p v a xs) t u us rest l k h =
    let g = gone (at p (t ∷ u ∷ us)) h in
    let q = gone (provided (is_operand v a && has_links xs) g.0) g.2 in
    let w = met _ g.0 q.0 q.1 in
    let m = gone (expr a q.0) q.2 in
    let same : t ∷ u ∷ us ≡ q.0 = at_stays p (t ∷ u ∷ us) g.0 g.1 ∙ w.1 in
    let close : head_has (is_mark Real punctuators.CloseParenthesis) us ≡ true = loosely (tree.chain p v a xs) k (omega (arith, loose v)) in
    let inner = lone a t u us m.0 l (inr close) (subst (λ vs. expr a vs ≡ Some m.0) (sym same) m.1) in
    links_apart v xs u us rest (both _ _ w.0).1 close (subst (λ vs. links v xs vs ≡ Some rest) inner m.2)
lone (tree.conditional p c a b) t u us rest l k h =
    let g = gone (at p (t ∷ u ∷ us)) h in
    let q = gone (provided (is_within 8 c) g.0) g.2 in
    let w = met _ g.0 q.0 q.1 in
    let m = gone (expr c q.0) q.2 in
    let same : t ∷ u ∷ us ≡ q.0 = at_stays p (t ∷ u ∷ us) g.0 g.1 ∙ w.1 in
    let close : head_has (is_mark Real punctuators.CloseParenthesis) us ≡ true = loosely (tree.conditional p c a b) k (omega arith) in
    let inner = lone c t u us m.0 l (inr close) (subst (λ vs. expr c vs ≡ Some m.0) (sym same) m.1) in
    let n = gone (mark Real punctuators.Question m.0) m.2 in
    starless punctuators.Question u us n.0 refl l.starred (subst (λ vs. mark Real punctuators.Question vs ≡ Some n.0) inner n.1)

-- a type in front is no expression in front
untyped : (c : Class) → class_expr c ≡ true → class_type c ≡ false
untyped (a_mark p) h = refl
untyped (a_word keywords.True) h = refl
untyped (a_word keywords.False) h = refl
untyped (a_word keywords.Malloc) h = refl
untyped (a_word k) h = no_true h
untyped a_name h = refl
untyped a_number h = refl
untyped a_character h = refl

pub no_type : (x : ExprTree) (ts rest : List Token) → expr x ts ≡ Some rest → head_has (is_type_word Real) ts ≡ false
no_type x ts rest h = let b = expr_begins x ts rest h in type_word_of Real b.class ts b.front ∙ untyped b.class b.begins

-- an expression in front of a closing parenthesis is no type of a cast
pub no_cast_type : (x : ExprTree) (ts rest : List Token) → expr x ts ≡ Some rest → Front Real (a_mark punctuators.CloseParenthesis) rest → sees_cast_type ts ≡ false
unfolding sees_cast_type
no_cast_type x ts rest h f = rw (no_type x ts rest h) (by_parts ts h)
  where
    three : (t u : Token) (us : List Token) → expr x (t ∷ u ∷ us) ≡ Some rest → (a b c : Bool) → is_name Real t ≡ a → is_mark Real punctuators.Star u ≡ b → head_has (is_mark Real punctuators.CloseParenthesis) us ≡ c → (a && (b && c)) ≡ false
    three t u us h true true true i j k =
        let same = lone x t u us rest (record { named = i; starred = j }) (inr k) h in
        apart j (subst (λ vs. head_has (is_mark Real punctuators.Star) vs ≡ false) same (f.marks_are punctuators.Star))
    three t u us h true true false i j k = refl
    three t u us h true false c i j k = refl
    three t u us h false b c i j k = refl

    two : (a : Bool) → (a && (false && false)) ≡ false
    two true = refl
    two false = refl

    by_parts : (ts : List Token) → expr x ts ≡ Some rest → (head_has (is_name Real) ts && (head_has (is_mark Real punctuators.Star) (after ts) && head_has (is_mark Real punctuators.CloseParenthesis) (after (after ts)))) ≡ false
    by_parts [] h = refl
    by_parts (t ∷ []) h = two (is_name Real t)
    by_parts (t ∷ u ∷ us) h = three t u us h (is_name Real t) (is_mark Real punctuators.Star u) (head_has (is_mark Real punctuators.CloseParenthesis) us) refl refl refl

-- what holds together as a primary expression with parts behind it does not begin as a cast does
pub uncast : (x : ExprTree) (ts rest : List Token) → expr x ts ≡ Some rest → rank x ≤ 1 → sees_cast ts ≡ false
unfolding sees_cast
uncast (tree.number p n ty) ts rest h c =
    let g = gone (at p ts) h in
    rw ((behind p g.1 (number_front Real n ty g.0 rest g.2)).marks_are punctuators.OpenParenthesis) refl
uncast (tree.character p n) ts rest h c =
    let g = gone (at p ts) h in
    rw ((behind p g.1 (character_front n g.0 rest g.2)).marks_are punctuators.OpenParenthesis) refl
uncast (tree.true_ p) ts rest h c =
    let g = gone (at p ts) h in
    rw ((behind p g.1 (word_front Real _ g.0 rest g.2)).marks_are punctuators.OpenParenthesis) refl
uncast (tree.false_ p) ts rest h c =
    let g = gone (at p ts) h in
    rw ((behind p g.1 (word_front Real _ g.0 rest g.2)).marks_are punctuators.OpenParenthesis) refl
uncast (tree.name_ p x) ts rest h c =
    let g = gone (at p ts) h in
    rw ((behind p g.1 (identifier_front Real x g.0 rest g.2)).marks_are punctuators.OpenParenthesis) refl
uncast (tree.malloc p tag) ts rest h c =
    let g = gone (at p ts) h in let m = gone (word Real keywords.Malloc g.0) g.2 in
    rw ((behind p g.1 (word_front Real _ g.0 m.0 m.1)).marks_are punctuators.OpenParenthesis) refl
uncast (tree.malloc_ints p n star) ts rest h c =
    let g = gone (at p ts) h in let m = gone (word Real keywords.Malloc g.0) g.2 in
    rw ((behind p g.1 (word_front Real _ g.0 m.0 m.1)).marks_are punctuators.OpenParenthesis) refl
uncast (tree.parenthesized p a) ts rest h c =
    let g = gone (at p ts) h in let m = gone (mark Real punctuators.OpenParenthesis g.0) g.2 in
    let k = mark_took Real punctuators.OpenParenthesis g.0 m.0 m.1 in
    let e = gone (expr a m.0) m.2 in
    let same : ts ≡ k.token ∷ m.0 = at_stays p ts g.0 g.1 ∙ k.parts in
    let inside : after ts ≡ m.0 = ap after same in
    let none : sees_cast_type (after ts) ≡ false = subst (λ us. sees_cast_type us ≡ false) (sym inside) (no_cast_type a m.0 e.0 e.1 (mark_front Real _ e.0 rest e.2)) in
    rw ((behind p g.1 (mark_front Real _ g.0 m.0 m.1)).marks_are punctuators.OpenParenthesis, none) refl
uncast (tree.postfix p a parts) ts rest h c =
    let g = gone (at p ts) h in
    let q = gone (provided (is_within 0 a && has_parts parts) g.0) g.2 in
    let w = met _ g.0 q.0 q.1 in
    let m = gone (expr a q.0) q.2 in
    let within : rank a ≤ 0 = leb-true (rank a) 0 (both _ _ w.0).0 in
    subst (λ us. sees_cast us ≡ false) (sym (at_stays p ts g.0 g.1 ∙ w.1)) (uncast a q.0 m.0 m.1 (omega (arith, within)))
uncast (tree.unary p o a) ts rest h c = absurd (omega (arith, c))
uncast (tree.cast p t a) ts rest h c = absurd (omega (arith, c))
uncast (tree.chain p l a xs) ts rest h c = absurd (omega (arith, c, loose l))
uncast (tree.conditional p k a b) ts rest h c = absurd (omega (arith, c))

-- no `*` stands behind the first word of what holds together closely, where none stands behind the whole
pub unstarred : (x : ExprTree) (ts rest : List Token) → expr x ts ≡ Some rest → rank x ≤ 1 → head_has (is_mark Real punctuators.Star) rest ≡ false → (head_has (is_name Real) ts && head_has (is_mark Real punctuators.Star) (after ts)) ≡ false
unstarred x [] rest h low f = refl
unstarred x (t ∷ []) rest h low f = right (is_name Real t)
  where
    right : (a : Bool) → (a && false) ≡ false
    right true = refl
    right false = refl
unstarred x (t ∷ u ∷ us) rest h low f = by_tests (is_name Real t) (is_mark Real punctuators.Star u) refl refl
  where
    by_tests : (a b : Bool) → is_name Real t ≡ a → is_mark Real punctuators.Star u ≡ b → (a && b) ≡ false
    by_tests true true i j =
        let same = lone x t u us rest (record { named = i; starred = j }) (inl low) h in
        apart j (subst (λ vs. head_has (is_mark Real punctuators.Star) vs ≡ false) same f)
    by_tests true false i j = refl
    by_tests false b i j = refl
