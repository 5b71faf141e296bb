-- Primary expressions with what stands behind them stop alike on tokens that are alike.
use Rattle.std.proofs.Common.{ℕ, ◌<◌, Bool, List, [], ◌∷◌, length, arith}
use Rattle.vf_base.specs.declared.place.Place.{Place}
use Rattle.vf_lexer.specs.declared.punctuator.Punctuator.TheVariants as punctuators
use Rattle.vf_syntax.specs.declared.keyword.Keyword.TheVariants as keywords
use Rattle.vf_syntax.specs.declared.side.Side.TheVariants.{Real}
use Rattle.vf_syntax.specs.declared.operator.Level.{Level}
use Rattle.vf_syntax.specs.ExprTree.{ExprTree, PostfixTree, expr_list}
use Rattle.vf_syntax.specs.ExprTree as tree
use Rattle.vf_syntax.specs.Walks.{is_mark, is_word, is_name}
use Rattle.vf_syntax.specs.Written.{binary_mark}
use Rattle.vf_cursor.specs.Parsing.{Parser, mark_at, number_of, character_of, next_by, is_there}
use Rattle.vf_cursor.proofs.Facts.{bind_ok, moved}
use Rattle.vf_parse_expression.specs.Operands.{is_part, posted, operator_at}
use Rattle.vf_parse_expression.specs.Parsers.{next_argument_at, more_arguments_at, arguments_at, index_at, call_at, part_at, parts_at, malloc_ints_at, malloc_inside_at, malloc_at, parenthesized_at, word_primary_at, primary_at, post_at, link_at}
use Rattle.vf_parse_expression.proofs.Small.{mark_walk}
use Rattle.vf_parse_expression.proofs.OperandsSound.{Reads, operator_sound}
use Rattle.vf_parse_expression.proofs.Sound.{part_sound}
use Rattle.vf_grammar_read.proofs.expressions.Eaten.{expr_eats, part_eats, mark_eats}
use Rattle.vf_grammar_stops.proofs.types.Local.{Does, then_like, done_like, here_like, mark_like, word_like, name_like, choice_like}
use Rattle.vf_grammar_stops.proofs.types.LoopAlike.{Takes, items_like}
use Rattle.vf_grammar_stops.proofs.expressions.Heads.{test_like, number_hangs, character_hangs}
use Rattle.vf_grammar_stops.proofs.expressions.OperandsAlike.{number_primary_like, character_primary_like, field_like, malloc_struct_like}

-- what is read as an expression takes a token
pub reads_take : (k r d : ℕ) (p : Parser ExprTree) → Reads k r d p → Takes p
reads_take k r d p h ts x rest e = (expr_eats x).eat ts rest ((h ts x rest e).walk)

pub next_argument_takes : (e : Parser ExprTree) → Takes e → Takes (next_argument_at e)
unfolding next_argument_at
next_argument_takes e he ts x rest eq =
    let c = bind_ok {r = mark_at Real punctuators.Comma ts} eq in
    let one = (mark_eats Real punctuators.Comma).eat ts c.0.1 ((mark_walk Real punctuators.Comma ts c.0.0 c.0.1 c.1).1) in
    let two = he c.0.1 x rest c.2 in
    omega (arith, one, two)

pub part_takes : (e : Parser ExprTree) (d : ℕ) → Reads 1 9 d e → Takes (part_at e)
part_takes e d he ts x rest eq = (part_eats x).eat ts rest ((part_sound e d he ts x rest eq).0)

pub link_takes : (l : Level) (p : Parser ExprTree) → Takes p → Takes (link_at l p)
unfolding link_at
link_takes l p hp ts x rest eq =
    let o = bind_ok {r = operator_at l ts} eq in
    let b = bind_ok {r = p o.0.1} o.2 in
    let one = (mark_eats Real (binary_mark o.0.0.1)).eat ts o.0.1 ((operator_sound l ts o.0.0 o.0.1 o.1).1) in
    let two = hp o.0.1 b.0.0 b.0.1 b.1 in
    moved (λ y r. length r < length ts) b.2 (omega (arith, one, two))

next_argument_like : {b : Bool} {e g : Parser ExprTree} → Does b e g → Does b (next_argument_at e) (next_argument_at g)
unfolding next_argument_at
next_argument_like he = then_like (mark_like Real punctuators.Comma) (λ c. he)

more_arguments_like : {b : Bool} {e g : Parser ExprTree} → Does b e g → Takes g → (xs : List ExprTree) → Does b (more_arguments_at e xs) (more_arguments_at g xs)
unfolding more_arguments_at
more_arguments_like {g = g} he hg xs = items_like (is_mark Real punctuators.Comma) (next_argument_like he) (next_argument_takes g hg) xs

arguments_like : {b : Bool} {e g : Parser ExprTree} → Does b e g → Takes g → Does b (arguments_at e) (arguments_at g)
unfolding arguments_at
arguments_like he hg = choice_like (is_mark Real punctuators.CloseParenthesis) (done_like []) (then_like he (λ a. more_arguments_like he hg (a ∷ [])))

index_like : {b : Bool} {e g : Parser ExprTree} → Does b e g → Does b (index_at e) (index_at g)
unfolding index_at
index_like he = then_like (mark_like Real punctuators.OpenBracket) (λ o. then_like he (λ a. then_like (mark_like Real punctuators.CloseBracket) (λ c. done_like (tree.index_ o a))))

call_like : {b : Bool} {e g : Parser ExprTree} → Does b e g → Takes g → Does b (call_at e) (call_at g)
unfolding call_at
call_like he hg = then_like (mark_like Real punctuators.OpenParenthesis) (λ o. then_like (arguments_like he hg) (λ xs. then_like (mark_like Real punctuators.CloseParenthesis) (λ c. done_like (tree.call_ o (expr_list xs)))))

part_like : {b : Bool} {e g : Parser ExprTree} → Does b e g → Takes g → Does b (part_at e) (part_at g)
unfolding part_at
part_like he hg = choice_like (is_mark Real punctuators.Arrow) field_like (choice_like (is_mark Real punctuators.OpenBracket) (index_like he) (call_like he hg))

pub parts_like : {b : Bool} {e g : Parser ExprTree} (d : ℕ) → Does b e g → Reads 1 9 d g → Does b (parts_at e) (parts_at g)
unfolding parts_at
parts_like {g = g} d he hg = items_like is_part (part_like he (reads_take 1 9 d g hg)) (part_takes g d hg) []

malloc_ints_like : {b : Bool} {f h : Parser ExprTree} → Does b f h → (p : Place) → Does b (malloc_ints_at f p) (malloc_ints_at h p)
unfolding malloc_ints_at
malloc_ints_like hf p =
    then_like hf (λ n. then_like (mark_like Real punctuators.Star) (λ s. then_like (word_like Real keywords.Sizeof) (λ a. then_like (mark_like Real punctuators.OpenParenthesis) (λ c. then_like (word_like Real keywords.Int)
    (λ d. then_like (mark_like Real punctuators.CloseParenthesis) (λ i. then_like (mark_like Real punctuators.CloseParenthesis) (λ j. done_like (tree.malloc_ints p n s))))))))

malloc_inside_like : {b : Bool} {f h : Parser ExprTree} → Does b f h → (p : Place) → Does b (malloc_inside_at f p) (malloc_inside_at h p)
unfolding malloc_inside_at
malloc_inside_like hf p = choice_like (is_word Real keywords.Sizeof) (malloc_struct_like p) (malloc_ints_like hf p)

malloc_like : {b : Bool} {f h : Parser ExprTree} → Does b f h → Does b (malloc_at f) (malloc_at h)
unfolding malloc_at
malloc_like hf = then_like (word_like Real keywords.Malloc) (λ w. then_like (mark_like Real punctuators.OpenParenthesis) (λ o. malloc_inside_like hf w))

parenthesized_like : {b : Bool} {e g : Parser ExprTree} → Does b e g → Does b (parenthesized_at e) (parenthesized_at g)
unfolding parenthesized_at
parenthesized_like he = then_like (mark_like Real punctuators.OpenParenthesis) (λ o. then_like he (λ a. then_like (mark_like Real punctuators.CloseParenthesis) (λ c. done_like (tree.parenthesized o a))))

word_primary_like : {b : Bool} {e g f h : Parser ExprTree} → Does b e g → Does b f h → Does b (word_primary_at e f) (word_primary_at g h)
unfolding word_primary_at
word_primary_like he hf =
    choice_like (is_word Real keywords.True) (then_like (word_like Real keywords.True) (λ w. done_like (tree.true_ w)))
    (choice_like (is_word Real keywords.False) (then_like (word_like Real keywords.False) (λ w. done_like (tree.false_ w)))
    (choice_like (is_word Real keywords.Malloc) (malloc_like hf)
    (choice_like (is_name Real) (then_like (name_like Real) (λ n. done_like (tree.name_ n.place n.text))) (parenthesized_like he))))

primary_like : {b : Bool} {e g f h : Parser ExprTree} → Does b e g → Does b f h → Does b (primary_at e f) (primary_at g h)
unfolding primary_at
primary_like he hf =
    test_like (λ ts. is_there (next_by Real number_of ts)) number_hangs number_primary_like
    (test_like (λ ts. is_there (next_by Real character_of ts)) character_hangs character_primary_like (word_primary_like he hf))

pub post_like : {b : Bool} {e g f h : Parser ExprTree} (d : ℕ) → Does b e g → Does b f h → Reads 1 9 d g → Does b (post_at e f) (post_at g h)
unfolding post_at
post_like d he hf hg = then_like here_like (λ p. then_like (primary_like he hf) (λ a. then_like (parts_like d he hg) (λ xs. done_like (posted p a xs))))
