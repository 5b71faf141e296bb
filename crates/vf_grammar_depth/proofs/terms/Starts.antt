-- What begins a sort or an expression of ghost text is taken, and what does not is refused at once.
use Rattle.std.proofs.Common.{◌≡◌, ℕ, Bool, true, false, ◌||◌, List, [], ◌∷◌, length, Option, Some, None, refl, sym, ◌∙◌}
use Rattle.std.proofs.lemmas.Bool.{or_parts}
use Rattle.vf_base.specs.declared.place.Place.{Place}
use Rattle.vf_lexer.specs.declared.punctuator.Punctuator.TheVariants as punctuators
use Rattle.vf_lexer.specs.declared.token.Token.{Token}
use Rattle.vf_syntax.specs.declared.keyword.Keyword.TheVariants as keywords
use Rattle.vf_syntax.specs.declared.side.Side.TheVariants.{Ghost}
use Rattle.vf_syntax.specs.declared.operator.UnaryOperator.{UnaryOperator}
use Rattle.vf_syntax.specs.SortTree.{SortTree, sort_list}
use Rattle.vf_syntax.specs.SortTree as sorts
use Rattle.vf_syntax.specs.GhostExprTree.{GhostExprTree}
use Rattle.vf_syntax.specs.GhostExprTree as tree
use Rattle.vf_syntax.specs.Walks.{head_has, is_mark, is_word, is_name}
use Rattle.vf_syntax.specs.Written.{unary_mark}
use Rattle.vf_cursor.specs.Parsing.{Parser, ◌>>=◌, here_at, number_at, number_of, next_by, is_there}
use Rattle.vf_cursor.specs.Types.{is_type_word, next_unary}
use Rattle.vf_parse_term.specs.Sorts.{begins_sort, predicate_sort_at, sort_form_at}
use Rattle.vf_parse_term.specs.Terms.{is_constant_word, begins_term, literal_at, constant_at, parenthesized_at, primary_form_at, primary_at, signed_by, signed_at, joined_by, joined_at}
use Rattle.vf_parse_term.proofs.Heads.{begins_term_is}
use Rattle.vf_grammar_depth.proofs.expressions.Deeper.{Deeper, keeps, then_deep, done_deep, mark_deep, head_deep}
use Rattle.vf_grammar_depth.proofs.expressions.Begun.{BegunAt, Begun, then_begun, here_begun, mark_begun, word_begun, name_begun, kind_begun, choice_begun, at_here_begun}
use Rattle.vf_grammar_depth.proofs.expressions.Starts.{begun_as, unary_marked}
use Rattle.vf_grammar_depth.proofs.expressions.TypeStarts.{begun_by, same_truth, types_begin, type_starts}
use Rattle.vf_grammar_depth.proofs.terms.Pieces.{any_deep}
use Rattle.vf_grammar_depth.proofs.terms.Sorts.{named_sort_deep}
use Rattle.vf_grammar_depth.proofs.terms.Terms.{named_deep, branches_deep, rest_deep}

predicate_sort_starts : {s r : Parser SortTree} → Deeper 0 s r → (p : Place) → Begun (head_has (is_word Ghost keywords.Predicate)) (predicate_sort_at r p)
unfolding predicate_sort_at
predicate_sort_starts hs p =
    then_begun (word_begun Ghost keywords.Predicate) (λ a. keeps (then_deep (mark_deep Ghost punctuators.OpenParenthesis) (λ b. then_deep (any_deep (is_mark Ghost punctuators.CloseParenthesis) hs)
    (λ xs. then_deep (mark_deep Ghost punctuators.CloseParenthesis) (λ c. done_deep (sorts.predicate_ p (sort_list xs)))))))

-- what begins a sort, in the order in which it is looked for
abbrev sorts_seen : List Token → Bool
sorts_seen ts = head_has (is_word Ghost keywords.Real) ts || (head_has (is_word Ghost keywords.Any) ts || (head_has (is_word Ghost keywords.Predicate) ts || (head_has (is_name Ghost) ts || types_begin Ghost ts)))

sorts_none : (t : Token) (ts : List Token) → sorts_seen (t ∷ ts) ≡ false → begins_sort t ≡ false
unfolding begins_sort
sorts_none t ts h =
    let a = or_parts (is_word Ghost keywords.Real t) _ h in
    let b = or_parts (is_word Ghost keywords.Any t) _ a.1 in
    let c = or_parts (is_word Ghost keywords.Predicate t) _ b.1 in
    let d = or_parts (is_name Ghost t) _ c.1 in
    let e = or_parts (is_type_word Ghost t) _ d.1 in
    rw (a.0, b.0, c.0, d.0, e.0) refl

none_sorts : (t : Token) (ts : List Token) → begins_sort t ≡ false → sorts_seen (t ∷ ts) ≡ false
unfolding begins_sort
none_sorts t ts h =
    let a = or_parts _ (is_type_word Ghost t) h in
    let b = or_parts _ (is_name Ghost t) a.0 in
    let c = or_parts _ (is_word Ghost keywords.Predicate t) b.0 in
    let d = or_parts (is_word Ghost keywords.Real t) _ c.0 in
    rw (d.0, d.1, c.1, b.1, a.1) refl

sorts_told : (ts : List Token) → sorts_seen ts ≡ head_has begins_sort ts
sorts_told [] = refl
sorts_told (t ∷ ts) = same_truth (sorts_seen (t ∷ ts)) (begins_sort t) (sorts_none t ts) (none_sorts t ts)

sort_form_starts : {s r : Parser SortTree} → Deeper 0 s r → (p : Place) → Begun (head_has begins_sort) (sort_form_at r p)
unfolding sort_form_at
sort_form_starts hs p =
    begun_by sorts_told (choice_begun (then_begun (word_begun Ghost keywords.Real) (λ a. keeps (done_deep {j = 0} (sorts.real_ p))))
    (choice_begun (then_begun (word_begun Ghost keywords.Any) (λ a. keeps (done_deep {j = 0} (sorts.any_ p))))
    (choice_begun (predicate_sort_starts hs p)
    (choice_begun (then_begun (name_begun Ghost) (λ n. keeps (named_sort_deep hs p n.text))) (then_begun (type_starts Ghost) (λ t. keeps (done_deep {j = 0} (sorts.type_ p t))))))))

pub sort_starts : {s r : Parser SortTree} → Deeper 0 s r → Begun (head_has begins_sort) (λ ts. here_at ts >>= λ p. sort_form_at r p.0 p.1)
sort_starts {r = r} hs = at_here_begun (sort_form_at r) refl (λ p. sort_form_starts hs p)

number_begun : Begun (λ ts. is_there (next_by Ghost number_of ts)) (number_at Ghost)
unfolding number_at
number_begun = kind_begun Ghost number_of

-- what begins a word that is an expression, or a number
abbrev constants_seen : List Token → Bool
constants_seen ts = head_has (is_word Ghost keywords.Result) ts || (head_has (is_word Ghost keywords.This) ts || (head_has (is_word Ghost keywords.CurrentThread) ts
    || (head_has (is_word Ghost keywords.True) ts || (head_has (is_word Ghost keywords.False) ts || is_there (next_by Ghost number_of ts)))))

constant_starts : (p : Place) → Begun constants_seen (constant_at p)
unfolding constant_at literal_at
constant_starts p =
    choice_begun (then_begun (word_begun Ghost keywords.Result) (λ a. keeps (done_deep {j = 0} (tree.result p)))) (choice_begun (then_begun (word_begun Ghost keywords.This) (λ a. keeps (done_deep {j = 0} (tree.this_ p))))
    (choice_begun (then_begun (word_begun Ghost keywords.CurrentThread) (λ a. keeps (done_deep {j = 0} (tree.current_thread p)))) (choice_begun (then_begun (word_begun Ghost keywords.True) (λ a. keeps (done_deep {j = 0} (tree.true_ p))))
    (choice_begun (then_begun (word_begun Ghost keywords.False) (λ a. keeps (done_deep {j = 0} (tree.false_ p)))) (then_begun number_begun (λ n. keeps (done_deep {j = 0} (tree.number p n.0 n.1))))))))

parenthesized_starts : {e g f h : Parser GhostExprTree} → Deeper 0 e g → Deeper 0 f h → (p : Place) → Begun (head_has (is_mark Ghost punctuators.OpenParenthesis)) (parenthesized_at g h p)
unfolding parenthesized_at
parenthesized_starts he hf p =
    then_begun (mark_begun Ghost punctuators.OpenParenthesis) (λ o. keeps (then_deep he (λ c. head_deep (is_mark Ghost punctuators.Question) (branches_deep hf p c) (then_deep (mark_deep Ghost punctuators.CloseParenthesis) (λ z. done_deep (tree.parenthesized p c))))))

-- what begins a primary expression
abbrev primaries_seen : List Token → Bool
primaries_seen ts = head_has (is_mark Ghost punctuators.OpenParenthesis) ts || (head_has (is_name Ghost) ts || constants_seen ts)

primary_form_starts : {e g f h : Parser GhostExprTree} → Deeper 0 e g → Deeper 0 f h → (p : Place) → Begun primaries_seen (primary_form_at g h p)
unfolding primary_form_at
primary_form_starts he hf p = choice_begun (parenthesized_starts he hf p) (choice_begun (then_begun (name_begun Ghost) (λ n. keeps (named_deep he p n.text))) (constant_starts p))

primary_starts : {e g f h : Parser GhostExprTree} → Deeper 0 e g → Deeper 0 f h → Begun primaries_seen (primary_at g h)
unfolding primary_at
primary_starts {g = g} {h = h} he hf = at_here_begun (primary_form_at g h) refl (λ p. primary_form_starts he hf p)

sign_starts : {u v : Parser GhostExprTree} (e f : Parser GhostExprTree) → Deeper 0 u v → (o : UnaryOperator) → Begun (head_has (is_mark Ghost (unary_mark o))) (signed_by e f v (Some o))
sign_starts e f hu o = then_begun (mark_begun Ghost (unary_mark o)) (λ m. keeps (then_deep hu (λ a. done_deep (tree.unary m o a))))

signed_by_starts : {e g f h u v : Parser GhostExprTree} → Deeper 0 e g → Deeper 0 f h → Deeper 0 u v → (ts : List Token) (o : Option UnaryOperator) → next_unary Ghost ts ≡ o → BegunAt (is_there o || primaries_seen ts) (length ts) (signed_by g h v o ts)
signed_by_starts he hf hu ts None e = (primary_starts he hf).run ts
signed_by_starts {g = g} {h = h} {v = v} he hf hu ts (Some o) e = begun_as _ true (length ts) (signed_by g h v (Some o) ts) (unary_marked Ghost ts o e) refl ((sign_starts g h hu o).run ts)

-- what begins an expression, in the order in which it is looked for
abbrev terms_seen : List Token → Bool
terms_seen ts = is_there (next_unary Ghost ts) || primaries_seen ts

-- the same, as it is told
abbrev terms_listed : List Token → Bool
terms_listed ts = head_has (is_mark Ghost punctuators.OpenParenthesis) ts || head_has (is_name Ghost) ts || head_has is_constant_word ts || is_there (next_by Ghost number_of ts) || is_there (next_unary Ghost ts)

terms_none : (t : Token) (ts : List Token) → terms_seen (t ∷ ts) ≡ false → terms_listed (t ∷ ts) ≡ false
unfolding is_constant_word
terms_none t ts h =
    let a = or_parts (is_there (next_unary Ghost (t ∷ ts))) _ h in
    let b = or_parts (is_mark Ghost punctuators.OpenParenthesis t) _ a.1 in
    let c = or_parts (is_name Ghost t) _ b.1 in
    let d = or_parts (is_word Ghost keywords.Result t) _ c.1 in
    let e = or_parts (is_word Ghost keywords.This t) _ d.1 in
    let f = or_parts (is_word Ghost keywords.CurrentThread t) _ e.1 in
    let g = or_parts (is_word Ghost keywords.True t) _ f.1 in
    let i = or_parts (is_word Ghost keywords.False t) _ g.1 in
    rw (b.0, c.0, g.0, i.0, d.0, e.0, f.0, i.1, a.0) refl

none_terms : (t : Token) (ts : List Token) → terms_listed (t ∷ ts) ≡ false → terms_seen (t ∷ ts) ≡ false
unfolding is_constant_word
none_terms t ts h =
    let a = or_parts _ (is_there (next_unary Ghost (t ∷ ts))) h in
    let b = or_parts _ (is_there (next_by Ghost number_of (t ∷ ts))) a.0 in
    let c = or_parts _ (is_constant_word t) b.0 in
    let d = or_parts (is_mark Ghost punctuators.OpenParenthesis t) _ c.0 in
    let e = or_parts _ (is_word Ghost keywords.CurrentThread t) c.1 in
    let f = or_parts _ (is_word Ghost keywords.This t) e.0 in
    let g = or_parts _ (is_word Ghost keywords.Result t) f.0 in
    let i = or_parts (is_word Ghost keywords.True t) _ g.0 in
    rw (a.1, d.0, d.1, g.1, f.1, e.1, i.0, i.1, b.1) refl

terms_told : (ts : List Token) → terms_seen ts ≡ head_has begins_term ts
unfolding next_unary
terms_told [] = refl
terms_told (t ∷ ts) = same_truth (terms_seen (t ∷ ts)) (terms_listed (t ∷ ts)) (terms_none t ts) (none_terms t ts) ∙ sym (begins_term_is (t ∷ ts))

pub signed_starts : {e g f h u v : Parser GhostExprTree} → Deeper 0 e g → Deeper 0 f h → Deeper 0 u v → Begun (head_has begins_term) (signed_at g h v)
unfolding signed_at
signed_starts {g = g} {h = h} {v = v} he hf hu = begun_by terms_told (record { run = λ ts. signed_by_starts he hf hu ts (next_unary Ghost ts) refl })

pub joined_starts : {begins : List Token → Bool} {u v : Parser GhostExprTree} → Deeper 0 u v → Begun begins v → (n : ℕ) → Begun begins (joined_at v n)
unfolding joined_by
joined_starts hu hv n = here_begun hv (λ p a. keeps (rest_deep hu n p a))
