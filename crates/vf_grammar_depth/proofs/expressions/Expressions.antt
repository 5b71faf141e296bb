-- Expressions that may nest deeper are read past each token that was too deep.
use Rattle.std.proofs.Common.{ℕ, zero, suc, List, [], ◌∷◌, Option, Some, None}
use Rattle.vf_base.specs.declared.place.Place.{Place}
use Rattle.vf_lexer.specs.declared.punctuator.Punctuator.TheVariants as punctuators
use Rattle.vf_syntax.specs.declared.keyword.Keyword.TheVariants as keywords
use Rattle.vf_syntax.specs.declared.side.Side.TheVariants.{Real}
use Rattle.vf_syntax.specs.declared.operator.UnaryOperator.{UnaryOperator}
use Rattle.vf_syntax.specs.declared.operator.BinaryOperator.{BinaryOperator}
use Rattle.vf_syntax.specs.declared.operator.Level.{Level}
use Rattle.vf_syntax.specs.ExprTree.{ExprTree, LinkTree, PostfixTree, expr_list}
use Rattle.vf_syntax.specs.ExprTree as tree
use Rattle.vf_syntax.specs.Walks.{is_mark, is_word, is_name}
use Rattle.vf_syntax.specs.Written.{unary_mark, binary_mark}
use Rattle.vf_cursor.specs.Parsing.{Parser, number_of, character_of, next_by, is_there}
use Rattle.vf_cursor.specs.Types.{next_on, next_unary}
use Rattle.vf_parse_expression.specs.Operands.{sees_cast, joins, is_part, nth_level, operator_found, operator_at, chained, posted, number_primary_at, character_primary_at, field_at, malloc_struct_at}
use Rattle.vf_parse_expression.specs.Parsers.{next_argument_at, more_arguments_at, arguments_at, index_at, call_at, part_at, parts_at, malloc_ints_at, malloc_inside_at, malloc_at, parenthesized_at, word_primary_at, primary_at, post_at, cast_at, signed_at, unsigned_at, found_operand, whole_operand_at, link_at, links_at, chain_at, tier_at, choice_at, conditional_at}
use Rattle.vf_grammar_depth.proofs.expressions.Deeper.{Deeper, then_deep, done_deep, fail_deep, here_deep, mark_deep, word_deep, name_deep, number_deep, character_deep, found_deep, choice_deep, head_deep, items_deep}
use Rattle.vf_grammar_depth.proofs.expressions.Types.{ctype_deep}

pub number_primary_deep : {j : ℕ} → Deeper j number_primary_at number_primary_at
unfolding number_primary_at
number_primary_deep = then_deep here_deep (λ h. then_deep (number_deep Real) (λ n. done_deep (tree.number h n.0 n.1)))

pub character_primary_deep : {j : ℕ} → Deeper j character_primary_at character_primary_at
unfolding character_primary_at
character_primary_deep = then_deep here_deep (λ h. then_deep character_deep (λ n. done_deep (tree.character h n)))

pub field_deep : {j : ℕ} → Deeper j field_at field_at
unfolding field_at
field_deep = then_deep (mark_deep Real punctuators.Arrow) (λ a. then_deep (name_deep Real) (λ n. done_deep (tree.field_ a n)))

pub malloc_struct_deep : {j : ℕ} (p : Place) → Deeper j (malloc_struct_at p) (malloc_struct_at p)
unfolding malloc_struct_at
malloc_struct_deep p =
    then_deep (word_deep Real keywords.Sizeof) (λ a. then_deep (mark_deep Real punctuators.OpenParenthesis) (λ c. then_deep (word_deep Real keywords.Struct) (λ d. then_deep (name_deep Real)
    (λ n. then_deep (mark_deep Real punctuators.CloseParenthesis) (λ f. then_deep (mark_deep Real punctuators.CloseParenthesis) (λ g. done_deep (tree.malloc p n)))))))

found_operator : {j : ℕ} (o : Option BinaryOperator) → Deeper j (operator_found o) (operator_found o)
found_operator None = fail_deep
found_operator (Some o) = then_deep (mark_deep Real (binary_mark o)) (λ m. done_deep (m, o))

pub operator_deep : {j : ℕ} (l : Level) → Deeper j (operator_at l) (operator_at l)
unfolding operator_at
operator_deep l = found_deep (next_on Real l) operator_found operator_found (λ o. found_operator o)

next_argument_deep : {j : ℕ} {e g : Parser ExprTree} → Deeper j e g → Deeper j (next_argument_at e) (next_argument_at g)
unfolding next_argument_at
next_argument_deep he = then_deep (mark_deep Real punctuators.Comma) (λ c. he)

more_arguments_deep : {j : ℕ} {e g : Parser ExprTree} → Deeper j e g → (xs : List ExprTree) → Deeper j (more_arguments_at e xs) (more_arguments_at g xs)
unfolding more_arguments_at
more_arguments_deep he xs = items_deep (is_mark Real punctuators.Comma) (next_argument_deep he) xs

arguments_deep : {j : ℕ} {e g : Parser ExprTree} → Deeper j e g → Deeper j (arguments_at e) (arguments_at g)
unfolding arguments_at
arguments_deep he = head_deep (is_mark Real punctuators.CloseParenthesis) (done_deep []) (then_deep he (λ a. more_arguments_deep he (a ∷ [])))

index_deep : {j : ℕ} {e g : Parser ExprTree} → Deeper j e g → Deeper j (index_at e) (index_at g)
unfolding index_at
index_deep he = then_deep (mark_deep Real punctuators.OpenBracket) (λ o. then_deep he (λ a. then_deep (mark_deep Real punctuators.CloseBracket) (λ c. done_deep (tree.index_ o a))))

call_deep : {j : ℕ} {e g : Parser ExprTree} → Deeper j e g → Deeper j (call_at e) (call_at g)
unfolding call_at
call_deep he = then_deep (mark_deep Real punctuators.OpenParenthesis) (λ o. then_deep (arguments_deep he) (λ xs. then_deep (mark_deep Real punctuators.CloseParenthesis) (λ c. done_deep (tree.call_ o (expr_list xs)))))

part_deep : {j : ℕ} {e g : Parser ExprTree} → Deeper j e g → Deeper j (part_at e) (part_at g)
unfolding part_at
part_deep he = head_deep (is_mark Real punctuators.Arrow) field_deep (head_deep (is_mark Real punctuators.OpenBracket) (index_deep he) (call_deep he))

pub parts_deep : {j : ℕ} {e g : Parser ExprTree} → Deeper j e g → Deeper j (parts_at e) (parts_at g)
unfolding parts_at
parts_deep he = items_deep is_part (part_deep he) []

malloc_ints_deep : {j : ℕ} {f h : Parser ExprTree} → Deeper j f h → (p : Place) → Deeper j (malloc_ints_at f p) (malloc_ints_at h p)
unfolding malloc_ints_at
malloc_ints_deep hf p =
    then_deep hf (λ n. then_deep (mark_deep Real punctuators.Star) (λ s. then_deep (word_deep Real keywords.Sizeof) (λ a. then_deep (mark_deep Real punctuators.OpenParenthesis) (λ c. then_deep (word_deep Real keywords.Int)
    (λ d. then_deep (mark_deep Real punctuators.CloseParenthesis) (λ i. then_deep (mark_deep Real punctuators.CloseParenthesis) (λ k. done_deep (tree.malloc_ints p n s))))))))

pub malloc_inside_deep : {j : ℕ} {f h : Parser ExprTree} → Deeper j f h → (p : Place) → Deeper j (malloc_inside_at f p) (malloc_inside_at h p)
unfolding malloc_inside_at
malloc_inside_deep hf p = head_deep (is_word Real keywords.Sizeof) (malloc_struct_deep p) (malloc_ints_deep hf p)

malloc_deep : {j : ℕ} {f h : Parser ExprTree} → Deeper j f h → Deeper j (malloc_at f) (malloc_at h)
unfolding malloc_at
malloc_deep hf = then_deep (word_deep Real keywords.Malloc) (λ w. then_deep (mark_deep Real punctuators.OpenParenthesis) (λ o. malloc_inside_deep hf w))

parenthesized_deep : {j : ℕ} {e g : Parser ExprTree} → Deeper j e g → Deeper j (parenthesized_at e) (parenthesized_at g)
unfolding parenthesized_at
parenthesized_deep he = then_deep (mark_deep Real punctuators.OpenParenthesis) (λ o. then_deep he (λ a. then_deep (mark_deep Real punctuators.CloseParenthesis) (λ c. done_deep (tree.parenthesized o a))))

word_primary_deep : {j : ℕ} {e g f h : Parser ExprTree} → Deeper j e g → Deeper j f h → Deeper j (word_primary_at e f) (word_primary_at g h)
unfolding word_primary_at
word_primary_deep he hf =
    head_deep (is_word Real keywords.True) (then_deep (word_deep Real keywords.True) (λ w. done_deep (tree.true_ w)))
    (head_deep (is_word Real keywords.False) (then_deep (word_deep Real keywords.False) (λ w. done_deep (tree.false_ w)))
    (head_deep (is_word Real keywords.Malloc) (malloc_deep hf)
    (head_deep (is_name Real) (then_deep (name_deep Real) (λ n. done_deep (tree.name_ n.place n.text))) (parenthesized_deep he))))

primary_deep : {j : ℕ} {e g f h : Parser ExprTree} → Deeper j e g → Deeper j f h → Deeper j (primary_at e f) (primary_at g h)
unfolding primary_at
primary_deep he hf =
    choice_deep (λ ts. is_there (next_by Real number_of ts)) number_primary_deep
    (choice_deep (λ ts. is_there (next_by Real character_of ts)) character_primary_deep (word_primary_deep he hf))

pub post_deep : {j : ℕ} {e g f h : Parser ExprTree} → Deeper j e g → Deeper j f h → Deeper j (post_at e f) (post_at g h)
unfolding post_at
post_deep he hf = then_deep here_deep (λ p. then_deep (primary_deep he hf) (λ a. then_deep (parts_deep he) (λ xs. done_deep (posted p a xs))))

signed_deep : {j : ℕ} {u v : Parser ExprTree} → Deeper j u v → (o : UnaryOperator) → Deeper j (signed_at u o) (signed_at v o)
unfolding signed_at
signed_deep hu o = then_deep (mark_deep Real (unary_mark o)) (λ m. then_deep hu (λ a. done_deep (tree.unary m o a)))

cast_deep : {j : ℕ} {u v : Parser ExprTree} → Deeper j u v → Deeper j (cast_at u) (cast_at v)
unfolding cast_at
cast_deep hu = then_deep (mark_deep Real punctuators.OpenParenthesis) (λ o. then_deep (ctype_deep Real) (λ t. then_deep (mark_deep Real punctuators.CloseParenthesis) (λ c. then_deep hu (λ a. done_deep (tree.cast o t a)))))

unsigned_deep : {j : ℕ} {e g u v f h : Parser ExprTree} → Deeper j e g → Deeper j u v → Deeper j f h → Deeper j (unsigned_at e u f) (unsigned_at g v h)
unfolding unsigned_at
unsigned_deep he hu hf = choice_deep sees_cast (cast_deep hu) (post_deep he hf)

found_operand_deep : {j : ℕ} {e g u v f h : Parser ExprTree} → Deeper j e g → Deeper j u v → Deeper j f h → (o : Option UnaryOperator) → Deeper j (found_operand e u f o) (found_operand g v h o)
found_operand_deep he hu hf None = unsigned_deep he hu hf
found_operand_deep he hu hf (Some o) = signed_deep hu o

pub operand_deep : {j : ℕ} {e g u v f h : Parser ExprTree} → Deeper j e g → Deeper j u v → Deeper j f h → Deeper j (whole_operand_at e u f) (whole_operand_at g v h)
unfolding whole_operand_at
operand_deep {e = e} {g = g} {u = u} {v = v} {f = f} {h = h} he hu hf = found_deep (next_unary Real) (found_operand e u f) (found_operand g v h) (λ o. found_operand_deep he hu hf o)

link_deep : {j : ℕ} {p q : Parser ExprTree} (l : Level) → Deeper j p q → Deeper j (link_at l p) (link_at l q)
unfolding link_at
link_deep l hp = then_deep (operator_deep l) (λ o. then_deep hp (λ a. done_deep (tree.link o.0 o.1 a)))

pub links_deep : {j : ℕ} {p q : Parser ExprTree} (l : Level) → Deeper j p q → Deeper j (links_at l p) (links_at l q)
unfolding links_at
links_deep l hp = items_deep (joins l) (link_deep l hp) []

chain_deep : {j : ℕ} {p q : Parser ExprTree} (l : Level) → Deeper j p q → Deeper j (chain_at l p) (chain_at l q)
unfolding chain_at
chain_deep l hp = then_deep here_deep (λ h. then_deep hp (λ a. then_deep (links_deep l hp) (λ xs. done_deep (chained h l a xs))))

pub tier_deep : {j : ℕ} {u v : Parser ExprTree} → Deeper j u v → (n : ℕ) → Deeper j (tier_at u n) (tier_at v n)
unfolding tier_at
tier_deep hu zero = hu
tier_deep hu (suc n) = chain_deep (nth_level n) (tier_deep hu n)

pub choice_at_deep : {j : ℕ} {e g : Parser ExprTree} → Deeper j e g → (p : Place) (c : ExprTree) → Deeper j (choice_at e p c) (choice_at g p c)
unfolding choice_at
choice_at_deep he p c =
    head_deep (is_mark Real punctuators.Question)
    (then_deep (mark_deep Real punctuators.Question) (λ q. then_deep he (λ a. then_deep (mark_deep Real punctuators.Colon) (λ k. then_deep he (λ d. done_deep (tree.conditional p c a d))))))
    (done_deep c)

pub conditional_deep : {j : ℕ} {e g u v : Parser ExprTree} → Deeper j e g → Deeper j u v → Deeper j (conditional_at e u) (conditional_at g v)
unfolding conditional_at
conditional_deep he hu = then_deep here_deep (λ h. then_deep (tier_deep hu 6) (λ c. choice_at_deep he h c))
