-- What is read as an expression is spelled so, and nests no deeper than it may.
use Rattle.std.proofs.Common.{◌≡◌, ℕ, zero, suc, ◌+◌, ◌≤◌, ◌<◌, Bool, true, false, List, [], ◌∷◌, length, Option, Some, None, refl, sym, subst, inl, inr, arith, nat_eq}
use Rattle.std.proofs.lemmas.Bool.{le-leb, lt-ltb, ne_eqb}
use Rattle.vf_base.specs.declared.place.Place.{Place}
use Rattle.vf_lexer.specs.declared.punctuator.Punctuator.TheVariants as punctuators
use Rattle.vf_lexer.specs.declared.token.Token.{Token}
use Rattle.vf_syntax.specs.declared.keyword.Keyword.TheVariants as keywords
use Rattle.vf_syntax.specs.declared.side.Side.TheVariants.{Real}
use Rattle.vf_syntax.specs.declared.operator.UnaryOperator.{UnaryOperator}
use Rattle.vf_syntax.specs.declared.operator.Level.{Level}
use Rattle.vf_syntax.specs.ExprTree.{ExprTree, LinkTree, PostfixTree, expr_list, link_list, postfix_list}
use Rattle.vf_syntax.specs.ExprTree as tree
use Rattle.vf_syntax.specs.Walks.{Walk, ◌⨾◌, goes_on, head_has, is_mark, is_word, is_name, at, mark, word}
use Rattle.vf_syntax.specs.Written.{unary_mark, looseness}
use Rattle.vf_syntax.specs.Expressions.{expr, link, links, postfix, postfixes, arguments, more_arguments, nesting, link_nesting, links_nesting, part_nesting, postfix_nesting, arguments_nesting, rank}
use Rattle.vf_cursor.specs.Parsing.{Parser, ok, here_at, mark_at, word_at, name_at, number_of, character_of, next_by, is_there, many, item_step}
use Rattle.vf_cursor.specs.Types.{next_unary, ctype_at}
use Rattle.vf_cursor.proofs.Facts.{bind_ok, moved, chose}
use Rattle.vf_parse_expression.specs.Operands.{sees_cast, sees_primary, sees_operand, joins, is_part, nth_level, operator_at, chained, posted}
use Rattle.vf_parse_expression.specs.Parsers.{too_deep, next_argument_at, more_arguments_at, arguments_at, index_at, call_at, part_at, parts_at, malloc_ints_at, malloc_inside_at, malloc_at, parenthesized_at, word_primary_at, primary_at, post_at, cast_at, signed_at, unsigned_at, found_operand, whole_operand_at, link_at, links_at, chain_at, tier_at, choice_at, conditional_at, expr_at, unary_at, factor_at}
use Rattle.vf_parse_expression.proofs.Small.{goes, here_walk, mark_walk, word_walk, name_parts}
use Rattle.vf_parse_expression.proofs.TypesSound.{ctype_walk}
use Rattle.vf_parse_expression.proofs.Collected.{Collects, Itemised, many_collected, many_behind, some_same}
use Rattle.vf_parse_expression.proofs.OperandsSound.{Spelt, Reads, operator_sound, level_looseness, number_primary_sound, character_primary_sound, field_sound, malloc_struct_sound}

-- where a looser hold or more nesting is allowed, so is what was read
pub wider : {k r d : ℕ} {x : ExprTree} {ts rest : List Token} (m s : ℕ) (f : ℕ) → r ≤ s → m + d ≤ f + k → Spelt k r d x ts rest → Spelt m s f x ts rest
wider m s f h g p = record { walk = p.walk; deep = omega (arith, h, g, p.deep); close = omega (arith, h, p.close) }

-- the arguments behind the first
pub arguments_collect : Collects (λ (x : ExprTree) (ts : List Token). goes_on (mark Real punctuators.Comma ts) (expr x)) (λ (x : ExprTree). nesting x + 1) (λ (xs : List ExprTree). more_arguments (expr_list xs)) (λ (xs : List ExprTree). arguments_nesting (expr_list xs))
arguments_collect = record { nothing_walk = λ ts. refl; item_walk = λ x xs ts. three (mark Real punctuators.Comma ts) (expr x) (more_arguments (expr_list xs)); nothing_deep = refl; item_deep = λ x xs. refl }
  where
    three : (o : Option (List Token)) (f g : Walk) → goes_on o (f ⨾ g) ≡ goes_on (goes_on o f) g
    three None f g = refl
    three (Some ts) f g = refl

pub parts_collect : Collects postfix part_nesting (λ (xs : List PostfixTree). postfixes (postfix_list xs)) (λ (xs : List PostfixTree). postfix_nesting (postfix_list xs))
parts_collect = record { nothing_walk = λ ts. refl; item_walk = λ x xs ts. refl; nothing_deep = refl; item_deep = λ x xs. refl }

pub links_collect : (l : Level) → Collects (link l) link_nesting (λ (xs : List LinkTree). links l (link_list xs)) (λ (xs : List LinkTree). links_nesting (link_list xs))
links_collect l = record { nothing_walk = λ ts. refl; item_walk = λ x xs ts. refl; nothing_deep = refl; item_deep = λ x xs. refl }

next_argument_sound : (e : Parser ExprTree) (d : ℕ) → Reads 1 9 d e → Itemised (λ (x : ExprTree) (ts : List Token). goes_on (mark Real punctuators.Comma ts) (expr x)) (λ (x : ExprTree). nesting x + 1) d (next_argument_at e)
unfolding next_argument_at
next_argument_sound e d he ts x rest eq =
    let c = bind_ok {r = mark_at Real punctuators.Comma ts} eq in
    let a = he c.0.1 x rest c.2 in
    (goes (expr x) (mark_walk Real punctuators.Comma ts c.0.0 c.0.1 c.1).1 a.walk, a.deep)

-- arguments were read
abbrev pub Given : ℕ → List Token → List ExprTree → List Token → Type 0
Given d ts xs rest = (arguments (expr_list xs) ts ≡ Some rest) × (arguments_nesting (expr_list xs) ≤ d)

pub arguments_sound : (e : Parser ExprTree) (d : ℕ) → Reads 1 9 d e → (ts : List Token) (xs : List ExprTree) (rest : List Token) → arguments_at e ts ≡ ok xs rest → Given d ts xs rest
unfolding arguments_at more_arguments_at
arguments_sound e d he ts xs rest eq =
    elim (chose (head_has (is_mark Real punctuators.CloseParenthesis) ts) _ _ _ eq) [
      | inl h ↦ moved (λ (y : List ExprTree) r. Given d ts y r) h.1 (refl, omega arith)
      | inr h ↦
          let a = bind_ok {r = e ts} h.1 in
          let one = he ts a.0.0 a.0.1 a.1 in
          let b = many_behind arguments_collect d (is_mark Real punctuators.Comma) (next_argument_at e) (next_argument_sound e d he) (length a.0.1) a.0.1 a.0.1 a.0.0 [] xs rest refl (omega arith) a.2 in
          subst (λ (ys : List ExprTree). Given d ts ys rest) (sym b.parts) (goes (more_arguments (expr_list b.others)) one.walk b.walk, omega (arith, one.deep, b.deep))
    ]

-- a part was read
abbrev pub Part : ℕ → List Token → PostfixTree → List Token → Type 0
Part d ts x rest = (postfix x ts ≡ Some rest) × (part_nesting x ≤ d)

pub index_sound : (e : Parser ExprTree) (d : ℕ) → Reads 1 9 d e → Itemised postfix part_nesting d (index_at e)
unfolding index_at
index_sound e d he ts x rest eq =
    let o = bind_ok {r = mark_at Real punctuators.OpenBracket ts} eq in
    let a = bind_ok {r = e o.0.1} o.2 in
    let c = bind_ok {r = mark_at Real punctuators.CloseBracket a.0.1} a.2 in
    let ow = mark_walk Real punctuators.OpenBracket ts o.0.0 o.0.1 o.1 in
    let aw = he o.0.1 a.0.0 a.0.1 a.1 in
    let cw = mark_walk Real punctuators.CloseBracket a.0.1 c.0.0 c.0.1 c.1 in
    moved (λ y r. Part d ts y r) c.2 (rw (ow.0, ow.1, aw.walk, cw.1) refl, aw.deep)

pub call_sound : (e : Parser ExprTree) (d : ℕ) → Reads 1 9 d e → Itemised postfix part_nesting d (call_at e)
unfolding call_at
call_sound e d he ts x rest eq =
    let o = bind_ok {r = mark_at Real punctuators.OpenParenthesis ts} eq in
    let a = bind_ok {r = arguments_at e o.0.1} o.2 in
    let c = bind_ok {r = mark_at Real punctuators.CloseParenthesis a.0.1} a.2 in
    let ow = mark_walk Real punctuators.OpenParenthesis ts o.0.0 o.0.1 o.1 in
    let aw = arguments_sound e d he o.0.1 a.0.0 a.0.1 a.1 in
    let cw = mark_walk Real punctuators.CloseParenthesis a.0.1 c.0.0 c.0.1 c.1 in
    moved (λ y r. Part d ts y r) c.2 (rw (ow.0, ow.1, aw.0, cw.1) refl, aw.1)

pub part_sound : (e : Parser ExprTree) (d : ℕ) → Reads 1 9 d e → Itemised postfix part_nesting d (part_at e)
unfolding part_at
part_sound e d he ts x rest eq =
    elim (chose (head_has (is_mark Real punctuators.Arrow) ts) _ _ _ eq) [
      | inl h ↦ field_sound d ts x rest h.1
      | inr h ↦
          elim (chose (head_has (is_mark Real punctuators.OpenBracket) ts) _ _ _ h.1) [
            | inl k ↦ index_sound e d he ts x rest k.1
            | inr k ↦ call_sound e d he ts x rest k.1
          ]
    ]

malloc_ints_sound : (f : Parser ExprTree) (d : ℕ) → Reads 1 1 d f → (p : Place) (ss us ts : List Token) (x : ExprTree) (rest : List Token) → at p ss ≡ Some ss → word Real keywords.Malloc ss ≡ Some us → mark Real punctuators.OpenParenthesis us ≡ Some ts
    → malloc_ints_at f p ts ≡ ok x rest → Spelt 0 0 d x ss rest
unfolding malloc_ints_at
malloc_ints_sound f d hf p ss us ts x rest h1 h2 h3 e =
    let n = bind_ok {r = f ts} e in
    let s = bind_ok {r = mark_at Real punctuators.Star n.0.1} n.2 in
    let a = bind_ok {r = word_at Real keywords.Sizeof s.0.1} s.2 in
    let b = bind_ok {r = mark_at Real punctuators.OpenParenthesis a.0.1} a.2 in
    let c = bind_ok {r = word_at Real keywords.Int b.0.1} b.2 in
    let g = bind_ok {r = mark_at Real punctuators.CloseParenthesis c.0.1} c.2 in
    let i = bind_ok {r = mark_at Real punctuators.CloseParenthesis g.0.1} g.2 in
    let nw = hf ts n.0.0 n.0.1 n.1 in
    let sw = mark_walk Real punctuators.Star n.0.1 s.0.0 s.0.1 s.1 in
    let aw = word_walk Real keywords.Sizeof s.0.1 a.0.0 a.0.1 a.1 in
    let bw = mark_walk Real punctuators.OpenParenthesis a.0.1 b.0.0 b.0.1 b.1 in
    let cw = word_walk Real keywords.Int b.0.1 c.0.0 c.0.1 c.1 in
    let gw = mark_walk Real punctuators.CloseParenthesis c.0.1 g.0.0 g.0.1 g.1 in
    let iw = mark_walk Real punctuators.CloseParenthesis g.0.1 i.0.0 i.0.1 i.1 in
    moved (λ y r. Spelt 0 0 d y ss r) i.2
    (record { walk = rw (h1, h2, h3, le-leb (rank n.0.0) 1 nw.close, nw.walk, sw.0, sw.1, aw.1, bw.1, cw.1, gw.1, iw.1) refl; deep = omega (arith, nw.deep); close = omega arith })

pub malloc_sound : (f : Parser ExprTree) (d : ℕ) → Reads 1 1 d f → Reads 0 0 d (malloc_at f)
unfolding malloc_at malloc_inside_at
malloc_sound f d hf ts x rest e =
    let w = bind_ok {r = word_at Real keywords.Malloc ts} e in
    let o = bind_ok {r = mark_at Real punctuators.OpenParenthesis w.0.1} w.2 in
    let ww = word_walk Real keywords.Malloc ts w.0.0 w.0.1 w.1 in
    let ow = mark_walk Real punctuators.OpenParenthesis w.0.1 o.0.0 o.0.1 o.1 in
    elim (chose (head_has (is_word Real keywords.Sizeof) o.0.1) _ _ _ o.2) [
      | inl h ↦ malloc_struct_sound w.0.0 d ts w.0.1 o.0.1 x rest ww.0 ww.1 ow.1 h.1
      | inr h ↦ malloc_ints_sound f d hf w.0.0 ts w.0.1 o.0.1 x rest ww.0 ww.1 ow.1 h.1
    ]

pub parenthesized_sound : (e : Parser ExprTree) (d : ℕ) → Reads 1 9 d e → Reads 0 0 d (parenthesized_at e)
unfolding parenthesized_at
parenthesized_sound e d he ts x rest eq =
    let o = bind_ok {r = mark_at Real punctuators.OpenParenthesis ts} eq in
    let a = bind_ok {r = e o.0.1} o.2 in
    let c = bind_ok {r = mark_at Real punctuators.CloseParenthesis a.0.1} a.2 in
    let ow = mark_walk Real punctuators.OpenParenthesis ts o.0.0 o.0.1 o.1 in
    let aw = he o.0.1 a.0.0 a.0.1 a.1 in
    let cw = mark_walk Real punctuators.CloseParenthesis a.0.1 c.0.0 c.0.1 c.1 in
    moved (λ y r. Spelt 0 0 d y ts r) c.2 (record { walk = rw (ow.0, ow.1, aw.walk, cw.1) refl; deep = omega (arith, aw.deep); close = omega arith })

pub word_primary_sound : (e f : Parser ExprTree) (d : ℕ) → Reads 1 9 d e → Reads 1 1 d f → Reads 0 0 d (word_primary_at e f)
unfolding word_primary_at
word_primary_sound e f d he hf ts x rest eq =
    elim (chose (head_has (is_word Real keywords.True) ts) _ _ _ eq) [
      | inl h ↦
          let w = bind_ok {r = word_at Real keywords.True ts} h.1 in
          let ww = word_walk Real keywords.True ts w.0.0 w.0.1 w.1 in
          moved (λ y r. Spelt 0 0 d y ts r) w.2 (record { walk = rw (ww.0, ww.1) refl; deep = omega arith; close = omega arith })
      | inr h ↦
          elim (chose (head_has (is_word Real keywords.False) ts) _ _ _ h.1) [
            | inl k ↦
                let w = bind_ok {r = word_at Real keywords.False ts} k.1 in
                let ww = word_walk Real keywords.False ts w.0.0 w.0.1 w.1 in
                moved (λ y r. Spelt 0 0 d y ts r) w.2 (record { walk = rw (ww.0, ww.1) refl; deep = omega arith; close = omega arith })
            | inr k ↦
                elim (chose (head_has (is_word Real keywords.Malloc) ts) _ _ _ k.1) [
                  | inl l ↦ malloc_sound f d hf ts x rest l.1
                  | inr l ↦
                      elim (chose (head_has (is_name Real) ts) _ _ _ l.1) [
                        | inl m ↦
                            let n = bind_ok {r = name_at Real ts} m.1 in
                            let nw = name_parts Real ts n.0.0 n.0.1 n.1 in
                            moved (λ y r. Spelt 0 0 d y ts r) n.2 (record { walk = rw (nw.0, nw.1) refl; deep = omega arith; close = omega arith })
                        | inr m ↦ parenthesized_sound e d he ts x rest m.1
                      ]
                ]
          ]
    ]

pub primary_sound : (e f : Parser ExprTree) (d : ℕ) → Reads 1 9 d e → Reads 1 1 d f → Reads 0 0 d (primary_at e f)
unfolding primary_at
primary_sound e f d he hf ts x rest eq =
    elim (chose (is_there (next_by Real number_of ts)) _ _ _ eq) [
      | inl h ↦ number_primary_sound d ts x rest h.1
      | inr h ↦
          elim (chose (is_there (next_by Real character_of ts)) _ _ _ h.1) [
            | inl k ↦ character_primary_sound d ts x rest k.1
            | inr k ↦ word_primary_sound e f d he hf ts x rest k.1
          ]
    ]

-- a list with an item is not empty
some_items : {A : Type 0} (x : A) (xs : List A) → nat_eq (length (x ∷ xs)) 0 ≡ false
some_items x xs = ne_eqb (length (x ∷ xs)) 0 (λ h. omega (arith, h))

posted_more : (p : Place) (a : ExprTree) (x : PostfixTree) (xs : List PostfixTree) → posted p a (x ∷ xs) ≡ tree.postfix p a (postfix_list (x ∷ xs))
posted_more p a x xs = rw (some_items x xs) refl

chained_more : (p : Place) (l : Level) (a : ExprTree) (x : LinkTree) (xs : List LinkTree) → chained p l a (x ∷ xs) ≡ tree.chain p l a (link_list (x ∷ xs))
chained_more p l a x xs = rw (some_items x xs) refl

-- what an operand with parts behind it comes to
posted_spelt : (p : Place) (d : ℕ) (a : ExprTree) (xs : List PostfixTree) (ss ts us rest : List Token) → at p ss ≡ Some ts → ss ≡ ts → Spelt 0 0 d a ts us → postfixes (postfix_list xs) us ≡ Some rest → postfix_nesting (postfix_list xs) ≤ d
    → Spelt 0 1 d (posted p a xs) ss rest
posted_spelt p d a [] ss ts us rest h1 h2 h3 h4 h5 =
    let same : us ≡ rest = some_same h4 in
    subst (λ s. Spelt 0 1 d a s rest) (sym h2) (subst (λ r. Spelt 0 1 d a ts r) same (wider 0 1 d (omega arith) (omega arith) h3))
posted_spelt p d a (x ∷ xs) ss ts us rest h1 h2 h3 h4 h5 =
    subst (λ (e : ExprTree). Spelt 0 1 d e ss rest) (sym (posted_more p a x xs))
    (record { walk = rw (h1, le-leb (rank a) 0 h3.close, h3.walk) h4; deep = omega (arith, h3.deep, h5); close = omega arith })

pub post_sound : (e f : Parser ExprTree) (d : ℕ) → Reads 1 9 d e → Reads 1 1 d f → Reads 0 1 d (post_at e f)
unfolding post_at parts_at
post_sound e f d he hf ts x rest eq =
    let h = bind_ok {r = here_at ts} eq in
    let a = bind_ok {r = primary_at e f h.0.1} h.2 in
    let xs = bind_ok {r = many is_part (item_step (part_at e)) [] a.0.1} a.2 in
    let hw = here_walk ts h.0.0 h.0.1 h.1 in
    let aw = primary_sound e f d he hf h.0.1 a.0.0 a.0.1 a.1 in
    let all = many_collected parts_collect d is_part (part_at e) (part_sound e d he) (length a.0.1) a.0.1 a.0.1 [] xs.0.0 xs.0.1 refl (omega arith) xs.1 in
    moved (λ y r. Spelt 0 1 d y ts r) xs.2 (posted_spelt h.0.0 d a.0.0 xs.0.0 ts h.0.1 a.0.1 xs.0.1 hw.0 hw.1 aw all.0 all.1)

pub signed_sound : (u : Parser ExprTree) (o : UnaryOperator) (d : ℕ) → Reads 1 2 d u → Reads 0 2 d (signed_at u o)
unfolding signed_at
signed_sound u o d hu ts x rest eq =
    let m = bind_ok {r = mark_at Real (unary_mark o) ts} eq in
    let a = bind_ok {r = u m.0.1} m.2 in
    let mw = mark_walk Real (unary_mark o) ts m.0.0 m.0.1 m.1 in
    let aw = hu m.0.1 a.0.0 a.0.1 a.1 in
    moved (λ y r. Spelt 0 2 d y ts r) a.2 (record { walk = rw (mw.0, mw.1, le-leb (rank a.0.0) 2 aw.close) aw.walk; deep = omega (arith, aw.deep); close = omega arith })

pub cast_sound : (u : Parser ExprTree) (d : ℕ) → Reads 1 2 d u → Reads 0 2 d (cast_at u)
unfolding cast_at
cast_sound u d hu ts x rest eq =
    let o = bind_ok {r = mark_at Real punctuators.OpenParenthesis ts} eq in
    let t = bind_ok {r = ctype_at Real o.0.1} o.2 in
    let c = bind_ok {r = mark_at Real punctuators.CloseParenthesis t.0.1} t.2 in
    let a = bind_ok {r = u c.0.1} c.2 in
    let ow = mark_walk Real punctuators.OpenParenthesis ts o.0.0 o.0.1 o.1 in
    let cw = mark_walk Real punctuators.CloseParenthesis t.0.1 c.0.0 c.0.1 c.1 in
    let aw = hu c.0.1 a.0.0 a.0.1 a.1 in
    moved (λ y r. Spelt 0 2 d y ts r) a.2
    (record { walk = rw (ow.0, ow.1, ctype_walk Real o.0.1 t.0.0 t.0.1 t.1, cw.1, le-leb (rank a.0.0) 2 aw.close) aw.walk; deep = omega (arith, aw.deep); close = omega arith })

found_sound : (e u f : Parser ExprTree) (d : ℕ) → Reads 1 9 d e → Reads 1 2 d u → Reads 1 1 d f → (o : Option UnaryOperator) → Reads 0 2 d (found_operand e u f o)
unfolding unsigned_at
found_sound e u f d he hu hf (Some o) ts x rest eq = signed_sound u o d hu ts x rest eq
found_sound e u f d he hu hf None ts x rest eq =
    elim (chose (sees_cast ts) _ _ _ eq) [
      | inl h ↦ cast_sound u d hu ts x rest h.1
      | inr h ↦ wider 0 2 d (omega arith) (omega arith) (post_sound e f d he hf ts x rest h.1)
    ]

pub operand_sound : (e u f : Parser ExprTree) (d : ℕ) → Reads 1 9 d e → Reads 1 2 d u → Reads 1 1 d f → Reads 0 2 d (whole_operand_at e u f)
unfolding whole_operand_at
operand_sound e u f d he hu hf ts x rest eq = found_sound e u f d he hu hf (next_unary Real ts) ts x rest eq

link_sound : (l : Level) (r d : ℕ) (p : Parser ExprTree) → r < looseness l → Reads 0 r d p → Itemised (link l) link_nesting d (link_at l p)
unfolding link_at
link_sound l r d p lt hp ts x rest eq =
    let o = bind_ok {r = operator_at l ts} eq in
    let b = bind_ok {r = p o.0.1} o.2 in
    let ow = operator_sound l ts o.0.0 o.0.1 o.1 in
    let bw = hp o.0.1 b.0.0 b.0.1 b.1 in
    let below : rank b.0.0 < looseness l = omega (arith, lt, bw.close) in
    moved (λ y q. (link l y ts ≡ Some q) × (link_nesting y ≤ d)) b.2 (rw (ow.0, ow.2, lt-ltb (rank b.0.0) (looseness l) below, ow.1) bw.walk, omega (arith, bw.deep))

chained_spelt : (p : Place) (l : Level) (r d : ℕ) (a : ExprTree) (xs : List LinkTree) (ss ts us rest : List Token) → r < looseness l → at p ss ≡ Some ts → ss ≡ ts → Spelt 0 r d a ts us → links l (link_list xs) us ≡ Some rest → links_nesting (link_list xs) ≤ d
    → Spelt 0 (looseness l) d (chained p l a xs) ss rest
chained_spelt p l r d a [] ss ts us rest lt h1 h2 h3 h4 h5 =
    let same : us ≡ rest = some_same h4 in
    subst (λ s. Spelt 0 (looseness l) d a s rest) (sym h2) (subst (λ q. Spelt 0 (looseness l) d a ts q) same (wider 0 (looseness l) d (omega (arith, lt)) (omega arith) h3))
chained_spelt p l r d a (x ∷ xs) ss ts us rest lt h1 h2 h3 h4 h5 =
    let below : rank a < looseness l = omega (arith, lt, h3.close) in
    subst (λ (e : ExprTree). Spelt 0 (looseness l) d e ss rest) (sym (chained_more p l a x xs))
    (record { walk = rw (h1, lt-ltb (rank a) (looseness l) below, h3.walk) h4; deep = omega (arith, h3.deep, h5); close = omega arith })

pub chain_sound : (l : Level) (r d : ℕ) (p : Parser ExprTree) → r < looseness l → Reads 0 r d p → Reads 0 (looseness l) d (chain_at l p)
unfolding chain_at links_at
chain_sound l r d p lt hp ts x rest eq =
    let h = bind_ok {r = here_at ts} eq in
    let a = bind_ok {r = p h.0.1} h.2 in
    let xs = bind_ok {r = many (joins l) (item_step (link_at l p)) [] a.0.1} a.2 in
    let hw = here_walk ts h.0.0 h.0.1 h.1 in
    let all = many_collected (links_collect l) d (joins l) (link_at l p) (link_sound l r d p lt hp) (length a.0.1) a.0.1 a.0.1 [] xs.0.0 xs.0.1 refl (omega arith) xs.1 in
    moved (λ y q. Spelt 0 (looseness l) d y ts q) xs.2 (chained_spelt h.0.0 l r d a.0.0 xs.0.0 ts h.0.1 a.0.1 xs.0.1 lt hw.0 hw.1 (hp h.0.1 a.0.0 a.0.1 a.1) all.0 all.1)

pub tier_sound : (u : Parser ExprTree) (d : ℕ) → Reads 0 2 d u → (j : ℕ) → j ≤ 6 → Reads 0 (j + 2) d (tier_at u j)
unfolding tier_at
tier_sound u d hu zero h ts x rest eq = hu ts x rest eq
tier_sound u d hu (suc j) h ts x rest eq =
    let level : looseness (nth_level j) ≡ j + 3 = level_looseness j (omega (arith, h)) in
    wider 0 (suc j + 2) d (omega (arith, level)) (omega arith) (chain_sound (nth_level j) (j + 2) d (tier_at u j) (omega (arith, level)) (tier_sound u d hu j (omega (arith, h))) ts x rest eq)

pub conditional_sound : (e o : Parser ExprTree) (d : ℕ) → Reads 1 9 d e → Reads 0 2 d o → Reads 0 9 d (conditional_at e o)
unfolding conditional_at choice_at
conditional_sound e o d he ho ts x rest eq =
    let h = bind_ok {r = here_at ts} eq in
    let c = bind_ok {r = tier_at o 6 h.0.1} h.2 in
    let hw = here_walk ts h.0.0 h.0.1 h.1 in
    let cw = tier_sound o d ho 6 (omega arith) h.0.1 c.0.0 c.0.1 c.1 in
    elim (chose (head_has (is_mark Real punctuators.Question) c.0.1) _ _ _ c.2) [
      | inl k ↦
          let q = bind_ok {r = mark_at Real punctuators.Question c.0.1} k.1 in
          let a = bind_ok {r = e q.0.1} q.2 in
          let l = bind_ok {r = mark_at Real punctuators.Colon a.0.1} a.2 in
          let b = bind_ok {r = e l.0.1} l.2 in
          let qw = mark_walk Real punctuators.Question c.0.1 q.0.0 q.0.1 q.1 in
          let aw = he q.0.1 a.0.0 a.0.1 a.1 in
          let lw = mark_walk Real punctuators.Colon a.0.1 l.0.0 l.0.1 l.1 in
          let bw = he l.0.1 b.0.0 b.0.1 b.1 in
          moved (λ y r. Spelt 0 9 d y ts r) b.2
          (record { walk = rw (hw.0, le-leb (rank c.0.0) 8 cw.close, cw.walk, qw.1, aw.walk, lw.1) bw.walk; deep = omega (arith, cw.deep, aw.deep, bw.deep); close = omega arith })
      | inr k ↦ moved (λ y r. Spelt 0 9 d y ts r) k.1 (subst (λ s. Spelt 0 9 d c.0.0 s c.0.1) (sym hw.1) (wider 0 9 d (omega arith) (omega arith) cw))
    ]

pub no_depth : {Y : Type 0} (begins : Bool) (ts : List Token) (x : ExprTree) (rest : List Token) → too_deep begins ts ≡ ok x rest → Y
no_depth true ts x rest e = absurd cc
no_depth false ts x rest e = absurd cc

mutual
  unfolding expr_at unary_at factor_at

  pub expr_sound : (d : ℕ) → Reads 1 9 d (expr_at d)
  expr_sound zero ts x rest eq = no_depth (sees_operand ts) ts x rest eq
  expr_sound (suc d) ts x rest eq =
      wider 1 9 (suc d) (omega arith) (omega arith)
      (conditional_sound (expr_at d) (whole_operand_at (expr_at d) (unary_at d) (factor_at d)) d (expr_sound d) (operand_sound (expr_at d) (unary_at d) (factor_at d) d (expr_sound d) (unary_sound d) (factor_sound d)) ts x rest eq)

  pub unary_sound : (d : ℕ) → Reads 1 2 d (unary_at d)
  unary_sound zero ts x rest eq = no_depth (sees_operand ts) ts x rest eq
  unary_sound (suc d) ts x rest eq = wider 1 2 (suc d) (omega arith) (omega arith) (operand_sound (expr_at d) (unary_at d) (factor_at d) d (expr_sound d) (unary_sound d) (factor_sound d) ts x rest eq)

  pub factor_sound : (d : ℕ) → Reads 1 1 d (factor_at d)
  factor_sound zero ts x rest eq = no_depth (sees_primary ts) ts x rest eq
  factor_sound (suc d) ts x rest eq = wider 1 1 (suc d) (omega arith) (omega arith) (post_sound (expr_at d) (factor_at d) d (expr_sound d) (factor_sound d) ts x rest eq)

pub postfix_sound : (d : ℕ) → Reads 0 1 d (post_at (expr_at d) (factor_at d))
postfix_sound d = post_sound (expr_at d) (factor_at d) d (expr_sound d) (factor_sound d)
