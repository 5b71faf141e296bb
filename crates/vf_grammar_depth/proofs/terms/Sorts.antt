-- Sorts go past what was too deep, where more may nest.
use Rattle.std.proofs.Common.{ℕ, List}
use Rattle.vf_base.specs.declared.place.Place.{Place}
use Rattle.vf_lexer.specs.declared.punctuator.Punctuator.TheVariants as punctuators
use Rattle.vf_syntax.specs.declared.keyword.Keyword.TheVariants as keywords
use Rattle.vf_syntax.specs.declared.side.Side.TheVariants.{Ghost}
use Rattle.vf_syntax.specs.declared.written.TypeForm.TheVariants as forms
use Rattle.vf_syntax.specs.SortTree.{SortTree, sort_list, no_sort}
use Rattle.vf_syntax.specs.SortTree as tree
use Rattle.vf_syntax.specs.Walks.{is_mark, is_word, is_name}
use Rattle.vf_cursor.specs.Parsing.{Parser}
use Rattle.vf_parse_term.specs.Sorts.{applied_sort_at, named_sort_at, predicate_sort_at, sort_form_at}
use Rattle.vf_grammar_depth.proofs.expressions.Deeper.{Deeper, then_deep, done_deep, mark_deep, word_deep, name_deep, head_deep}
use Rattle.vf_grammar_depth.proofs.expressions.Types.{ctype_deep}
use Rattle.vf_grammar_depth.proofs.terms.Pieces.{some_deep, any_deep}

-- a sort of named values, and a pointer
abbrev named_pointer : Place → List ℕ → SortTree
named_pointer p x = tree.type_ p (record { place = p; form = forms.NamedPointer x })

applied_sort_deep : {j : ℕ} {s r : Parser SortTree} → Deeper j s r → (p : Place) (x : List ℕ) → Deeper j (applied_sort_at s p x) (applied_sort_at r p x)
unfolding applied_sort_at
applied_sort_deep hs p x = then_deep (mark_deep Ghost punctuators.Less) (λ a. then_deep (some_deep hs) (λ xs. then_deep (mark_deep Ghost punctuators.Greater) (λ b. done_deep (tree.name_ p x (sort_list xs)))))

pub named_sort_deep : {j : ℕ} {s r : Parser SortTree} → Deeper j s r → (p : Place) (x : List ℕ) → Deeper j (named_sort_at s p x) (named_sort_at r p x)
unfolding named_sort_at
named_sort_deep hs p x =
    head_deep (is_mark Ghost punctuators.Star) (then_deep (mark_deep Ghost punctuators.Star) (λ a. done_deep (named_pointer p x)))
    (head_deep (is_mark Ghost punctuators.Less) (applied_sort_deep hs p x) (done_deep (tree.name_ p x no_sort)))

pub predicate_sort_deep : {j : ℕ} {s r : Parser SortTree} → Deeper j s r → (p : Place) → Deeper j (predicate_sort_at s p) (predicate_sort_at r p)
unfolding predicate_sort_at
predicate_sort_deep hs p =
    then_deep (word_deep Ghost keywords.Predicate) (λ a. then_deep (mark_deep Ghost punctuators.OpenParenthesis) (λ b. then_deep (any_deep (is_mark Ghost punctuators.CloseParenthesis) hs)
    (λ xs. then_deep (mark_deep Ghost punctuators.CloseParenthesis) (λ c. done_deep (tree.predicate_ p (sort_list xs))))))

pub sort_form_deep : {j : ℕ} {s r : Parser SortTree} → Deeper j s r → (p : Place) → Deeper j (sort_form_at s p) (sort_form_at r p)
unfolding sort_form_at
sort_form_deep hs p =
    head_deep (is_word Ghost keywords.Real) (then_deep (word_deep Ghost keywords.Real) (λ a. done_deep (tree.real_ p)))
    (head_deep (is_word Ghost keywords.Any) (then_deep (word_deep Ghost keywords.Any) (λ a. done_deep (tree.any_ p)))
    (head_deep (is_word Ghost keywords.Predicate) (predicate_sort_deep hs p)
    (head_deep (is_name Ghost) (then_deep (name_deep Ghost) (λ n. named_sort_deep hs p n.text))
    (then_deep (ctype_deep Ghost) (λ t. done_deep (tree.type_ p t))))))
