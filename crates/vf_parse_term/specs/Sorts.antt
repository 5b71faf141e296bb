-- The parser of sorts, by how many may stand in one another.
use Rattle.std.specs.Prelude.{ℕ, zero, suc, Bool, ◌||◌, List, [], if◌then◌else◌}
use Rattle.vf_base.specs.declared.place.Place.{Place}
use Rattle.vf_lexer.specs.declared.punctuator.Punctuator.TheVariants as punctuators
use Rattle.vf_lexer.specs.declared.token.Token.{Token}
use Rattle.vf_syntax.specs.declared.keyword.Keyword.TheVariants as keywords
use Rattle.vf_syntax.specs.declared.side.Side.TheVariants.{Ghost}
use Rattle.vf_syntax.specs.declared.written.TypeForm.TheVariants as forms
use Rattle.vf_syntax.specs.SortTree.{SortTree, sort_list, no_sort}
use Rattle.vf_syntax.specs.SortTree as tree
use Rattle.vf_syntax.specs.Walks.{head_has, is_mark, is_word, is_name}
use Rattle.vf_cursor.specs.Parsing.{Parser, ok, ◌>>=◌, here_at, mark_at, word_at, name_at}
use Rattle.vf_cursor.specs.Types.{is_type_word, ctype_at}
use Rattle.vf_parse_term.specs.Pieces.{too_deep_at, some_at, any_at}

-- a token can begin a sort
unfoldable pub begins_sort : Token → Bool
begins_sort t = is_word Ghost keywords.Real t || is_word Ghost keywords.Any t || is_word Ghost keywords.Predicate t || is_name Ghost t || is_type_word Ghost t

-- a sort between "<" and ">" behind a name, by the place and the text of the name
unfoldable pub applied_sort_at : Parser SortTree → Place → List ℕ → Parser SortTree
applied_sort_at s p x ts = mark_at Ghost punctuators.Less ts >>= λ a. some_at s a.1 >>= λ xs. mark_at Ghost punctuators.Greater xs.1 >>= λ b. ok (tree.name_ p x (sort_list xs.0)) b.1

-- a sort that begins with a name, behind it
unfoldable pub named_sort_at : Parser SortTree → Place → List ℕ → Parser SortTree
named_sort_at s p x ts = if head_has (is_mark Ghost punctuators.Star) ts then (mark_at Ghost punctuators.Star ts >>= λ a. ok (tree.type_ p (record { place = p; form = forms.NamedPointer x })) a.1)
    else (if head_has (is_mark Ghost punctuators.Less) ts then applied_sort_at s p x ts else ok (tree.name_ p x no_sort) ts)

-- the sort of predicates
unfoldable pub predicate_sort_at : Parser SortTree → Place → Parser SortTree
predicate_sort_at s p ts = word_at Ghost keywords.Predicate ts >>= λ a. mark_at Ghost punctuators.OpenParenthesis a.1 >>= λ b. any_at (is_mark Ghost punctuators.CloseParenthesis) s b.1
    >>= λ xs. mark_at Ghost punctuators.CloseParenthesis xs.1 >>= λ c. ok (tree.predicate_ p (sort_list xs.0)) c.1

-- a sort at a place
unfoldable pub sort_form_at : Parser SortTree → Place → Parser SortTree
sort_form_at s p ts = if head_has (is_word Ghost keywords.Real) ts then (word_at Ghost keywords.Real ts >>= λ a. ok (tree.real_ p) a.1)
    else (if head_has (is_word Ghost keywords.Any) ts then (word_at Ghost keywords.Any ts >>= λ a. ok (tree.any_ p) a.1)
    else (if head_has (is_word Ghost keywords.Predicate) ts then predicate_sort_at s p ts
    else (if head_has (is_name Ghost) ts then (name_at Ghost ts >>= λ n. named_sort_at s p n.0.text n.1)
    else (ctype_at Ghost ts >>= λ t. ok (tree.type_ p t.0) t.1))))

unfoldable mutual
  -- a sort in which fewer than so many stand in one another
  pub sort_at : ℕ → Parser SortTree
  sort_at zero ts = too_deep_at begins_sort ts
  sort_at (suc d) ts = here_at ts >>= λ p. sort_form_at (sort_at d) p.0 p.1
