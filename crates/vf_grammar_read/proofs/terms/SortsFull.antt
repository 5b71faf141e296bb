-- Sorts that are spelled are read, where what stands behind does not go on with them.
use Rattle.std.proofs.Common.{◌≡◌, ℕ, zero, suc, ◌+◌, ◌≤◌, max, true, false, List, [], ◌∷◌, Some, refl, sym, subst, ap, ◌∙◌, arith}
use Rattle.std.proofs.lemmas.Bool.{or_parts}
use Rattle.vf_base.specs.declared.place.Place.{Place}
use Rattle.vf_lexer.specs.declared.punctuator.Punctuator.TheVariants as punctuators
use Rattle.vf_lexer.specs.declared.token.Token.{Token}
use Rattle.vf_syntax.specs.declared.keyword.Keyword.{Keyword}
use Rattle.vf_syntax.specs.declared.keyword.Keyword.TheVariants as keywords
use Rattle.vf_syntax.specs.declared.side.Side.TheVariants.{Ghost}
use Rattle.vf_syntax.specs.declared.written.CType.{CType}
use Rattle.vf_syntax.specs.declared.written.TypeForm.{TypeForm}
use Rattle.vf_syntax.specs.declared.written.TypeForm.TheVariants as forms
use Rattle.vf_syntax.specs.SortTree.{SortTree, SortTrees, no_sort, more_sort, sort_list}
use Rattle.vf_syntax.specs.SortTree as tree
use Rattle.vf_syntax.specs.Walks.{Walk, ◌⨾◌, at, mark, word, identifier, head_has, is_mark}
use Rattle.vf_syntax.specs.Written.{ctype, type_form}
use Rattle.vf_syntax.specs.Lists.{behind_commas, separated, greatest}
use Rattle.vf_syntax.specs.GhostExpressions.{sort, sort_arguments, sorts_separated, more_sorts, sort_nesting, sorts_nesting}
use Rattle.vf_cursor.specs.Parsing.{Parser, ok, ◌>>=◌, here_at}
use Rattle.vf_cursor.specs.Types.{is_width}
use Rattle.vf_cursor.proofs.Facts.{ok_pair}
use Rattle.vf_parse_term.specs.Sorts.{applied_sort_at, named_sort_at, predicate_sort_at, sort_form_at, sort_at}
use Rattle.vf_parse_term.specs.Laws.{sort_depth}
use Rattle.vf_grammar_read.proofs.expressions.Same.{some_same, no_true}
use Rattle.vf_grammar_read.proofs.expressions.Fronts.{Class, a_word, class_mark, class_word, Front, gone, at_stays, mark_front, word_front, identifier_front}
use Rattle.vf_grammar_read.proofs.expressions.Taken.{here_read, mark_read, word_read, name_here}
use Rattle.vf_grammar_read.proofs.expressions.TypesFull.{number_word, width_of, integer_front, ctype_full, ctype_begins, Typed, by_word, by_name}
use Rattle.vf_grammar_read.specs.terms.Laws.{goes_on_with_sort}
use Rattle.vf_grammar_read.proofs.terms.Lists.{Listed, some_full, any_full}
use Rattle.vf_grammar_read.proofs.terms.Eaten.{sort_eats}

-- what stands behind does not go on with a sort
pub record Ended (ts : List Token) : Type 0 where
  pub no_arguments : head_has (is_mark Ghost punctuators.Less) ts ≡ false
  pub no_star : head_has (is_mark Ghost punctuators.Star) ts ≡ false
  pub no_width : head_has (is_width Ghost) ts ≡ false

pub ended : (ts : List Token) → goes_on_with_sort ts ≡ false → Ended ts
unfolding goes_on_with_sort
ended ts h =
    let a = or_parts (head_has (is_mark Ghost punctuators.Less) ts) _ h in
    let b = or_parts (head_has (is_mark Ghost punctuators.Star) ts) _ a.1 in
    record { no_arguments = a.0; no_star = b.0; no_width = b.1 }

-- no sort goes on with such a punctuator
pub mark_ended : (c : Class) (ts : List Token) → Front Ghost c ts → class_mark c punctuators.Less ≡ false → class_mark c punctuators.Star ≡ false → (head_has (is_width Ghost) ts ≡ false) → Ended ts
mark_ended c ts f a b w = record { no_arguments = f.marks_are punctuators.Less ∙ a; no_star = f.marks_are punctuators.Star ∙ b; no_width = w }

pub comma_ended : (ts rest : List Token) → mark Ghost punctuators.Comma ts ≡ Some rest → Ended ts
comma_ended ts rest h = let f = mark_front Ghost punctuators.Comma ts rest h in mark_ended _ ts f refl refl (width_of Ghost _ ts f)

greater_ended : (ts rest : List Token) → mark Ghost punctuators.Greater ts ≡ Some rest → Ended ts
greater_ended ts rest h = let f = mark_front Ghost punctuators.Greater ts rest h in mark_ended _ ts f refl refl (width_of Ghost _ ts f)

close_ended : (ts rest : List Token) → mark Ghost punctuators.CloseParenthesis ts ≡ Some rest → Ended ts
close_ended ts rest h = let f = mark_front Ghost punctuators.CloseParenthesis ts rest h in mark_ended _ ts f refl refl (width_of Ghost _ ts f)

-- lists of sorts as they stand in a tree
sort_items : SortTrees → List SortTree
sort_items no_sort = []
sort_items (more_sort x xs) = x ∷ sort_items xs

sort_items_are : (xs : SortTrees) → sort_list (sort_items xs) ≡ xs
unfolding sort_items
sort_items_are no_sort = refl
sort_items_are (more_sort x xs) = ap (more_sort x) (sort_items_are xs)

more_are : (xs : SortTrees) → more_sorts xs ≡ behind_commas Ghost sort (sort_items xs)
unfolding sort_items
more_are no_sort = refl
more_are (more_sort x xs) = ap (λ (W : Walk). mark Ghost punctuators.Comma ⨾ sort x ⨾ W) (more_are xs)

separated_are : (xs : SortTrees) → sorts_separated xs ≡ separated Ghost sort (sort_items xs)
unfolding sort_items
separated_are no_sort = refl
separated_are (more_sort x xs) = ap (λ (W : Walk). sort x ⨾ W) (more_are xs)

nesting_is : (xs : SortTrees) → sorts_nesting xs ≡ greatest sort_depth (sort_items xs)
unfolding sort_items
nesting_is no_sort = refl
nesting_is (more_sort x xs) = ap (λ (n : ℕ). max (sort_nesting x + 1) n) (nesting_is xs)

-- a sort that is spelled, nests no deeper than it may, and stands before what does not go on, is read
abbrev pub Full : ℕ → Parser SortTree → Type 0
Full d p = (x : SortTree) (ts rest : List Token) → sort x ts ≡ Some rest → sort_depth x ≤ d → Ended rest → p ts ≡ ok x rest

sort_listed : (d : ℕ) (s : Parser SortTree) → Full d s → Listed sort sort_depth d Ended s
sort_listed d s h = record { full = h; commas = comma_ended; eats = sort_eats }

-- two places of one token are the same
one_place : (p q : Place) (ts us vs : List Token) → at p ts ≡ Some us → at q us ≡ Some vs → p ≡ q
one_place p q ts us vs h k =
    let same = at_stays p ts us h in
    (ok_pair p q us vs (sym (here_read p ts us h) ∙ (subst (λ r. here_at r ≡ ok q vs) (sym same) (here_read q us vs k)))).0

-- no word of a type is another word of sorts
record Others (k : Keyword) : Type 0 where
  no_real : class_word (a_word k) keywords.Real ≡ false
  no_any : class_word (a_word k) keywords.Any ≡ false
  no_predicate : class_word (a_word k) keywords.Predicate ≡ false

others : (k : Keyword) → number_word k ≡ true → Others k
others keywords.Signed h = record { no_real = refl; no_any = refl; no_predicate = refl }
others keywords.Unsigned h = record { no_real = refl; no_any = refl; no_predicate = refl }
others keywords.Char h = record { no_real = refl; no_any = refl; no_predicate = refl }
others keywords.Short h = record { no_real = refl; no_any = refl; no_predicate = refl }
others keywords.Int h = record { no_real = refl; no_any = refl; no_predicate = refl }
others keywords.Long h = record { no_real = refl; no_any = refl; no_predicate = refl }
others k h = no_true h

-- what a form of type begins with
data Formed (f : TypeForm) (ts : List Token) : Type 0 where
  worded : (k : Keyword) → Front Ghost (a_word k) ts → Others k → Formed f ts
  called : (x : List ℕ) → f ≡ forms.NamedPointer x → Formed f ts

formed : (f : TypeForm) (ts rest : List Token) → type_form Ghost f ts ≡ Some rest → Formed f ts
unfolding type_form
formed (forms.Integer w) ts rest h = let i = integer_front Ghost w ts rest h in worded i.0 i.1 (others i.0 i.2)
formed forms.Bool ts rest h = worded keywords.Bool (word_front Ghost keywords.Bool ts rest h) (record { no_real = refl; no_any = refl; no_predicate = refl })
formed forms.VoidPointer ts rest h = let g = gone (word Ghost keywords.Void ts) h in worded keywords.Void (word_front Ghost keywords.Void ts g.0 g.1) (record { no_real = refl; no_any = refl; no_predicate = refl })
formed forms.IntPointer ts rest h = let g = gone (word Ghost keywords.Int ts) h in worded keywords.Int (word_front Ghost keywords.Int ts g.0 g.1) (record { no_real = refl; no_any = refl; no_predicate = refl })
formed (forms.StructPointer s) ts rest h = let g = gone (word Ghost keywords.Struct ts) h in worded keywords.Struct (word_front Ghost keywords.Struct ts g.0 g.1) (record { no_real = refl; no_any = refl; no_predicate = refl })
formed (forms.NamedPointer x) ts rest h = called x refl

-- a place stands where it stands
pub stands : (p : Place) (ts us : List Token) → at p ts ≡ Some us → at p us ≡ Some us
stands p ts us h = subst (λ r. at p r ≡ Some us) (at_stays p ts us h) h

-- a pointer to a named type is read
called_full : (s : Parser SortTree) (p : Place) (t : CType) (x : List ℕ) (ts rest : List Token) → at p ts ≡ Some ts → t.form ≡ forms.NamedPointer x → ctype Ghost t ts ≡ Some rest → sort_form_at s p ts ≡ ok (tree.type_ p t) rest
unfolding ctype type_form sort_form_at named_sort_at
called_full s p t x ts rest here same h =
    let g = gone (at t.place ts) h in
    let walk : (identifier Ghost x ⨾ mark Ghost punctuators.Star) g.0 ≡ Some rest = subst (λ (f : TypeForm). type_form Ghost f g.0 ≡ Some rest) same g.2 in
    let from_here : (identifier Ghost x ⨾ mark Ghost punctuators.Star) ts ≡ Some rest = subst (λ r. (identifier Ghost x ⨾ mark Ghost punctuators.Star) r ≡ Some rest) (sym (at_stays t.place ts g.0 g.1)) walk in
    let n = gone (identifier Ghost x ts) from_here in
    let f = identifier_front Ghost x ts n.0 n.1 in
    let star = mark_front Ghost punctuators.Star n.0 rest n.2 in
    let m = mark_read Ghost punctuators.Star n.0 rest n.2 in
    let place : p ≡ t.place = one_place p t.place ts ts g.0 here g.1 in
    let all : record { place = p; form = forms.NamedPointer x } ≡ t = λ i. record { place = place i; form = sym same i } in
    rw (f.words_are keywords.Real, f.words_are keywords.Any, f.words_are keywords.Predicate, f.names_are, name_here Ghost x p ts ts n.0 here n.1, star.marks_are punctuators.Star, m.1) (λ i. ok (tree.type_ p (all i)) rest)

worded_full : (s : Parser SortTree) (p : Place) (t : CType) (k : Keyword) (ts rest : List Token) → Front Ghost (a_word k) ts → Others k → ctype Ghost t ts ≡ Some rest → Ended rest → sort_form_at s p ts ≡ ok (tree.type_ p t) rest
unfolding sort_form_at
worded_full s p t k ts rest f o h e =
    rw (f.words_are keywords.Real ∙ o.no_real, f.words_are keywords.Any ∙ o.no_any, f.words_are keywords.Predicate ∙ o.no_predicate, f.names_are, ctype_full Ghost t ts rest h (record { no_width = e.no_width; no_star = e.no_star })) refl

type_full : (s : Parser SortTree) (p : Place) (t : CType) (ts rest : List Token) → at p ts ≡ Some ts → ctype Ghost t ts ≡ Some rest → Ended rest → sort_form_at s p ts ≡ ok (tree.type_ p t) rest
unfolding ctype
type_full s p t ts rest here h e =
    let g = gone (at t.place ts) h in
    by_form (subst (λ r. Formed t.form r) (sym (at_stays t.place ts g.0 g.1)) (formed t.form g.0 rest g.2))
  where
    by_form : Formed t.form ts → sort_form_at s p ts ≡ ok (tree.type_ p t) rest
    by_form (worded k f o) = worded_full s p t k ts rest f o h e
    by_form (called x same) = called_full s p t x ts rest here same h

-- sorts behind a first one are spelled as the items of a list
first_walk : (x : SortTree) (xs : SortTrees) (ts mid rest : List Token) → sort x ts ≡ Some mid → more_sorts xs mid ≡ Some rest → separated Ghost sort (x ∷ sort_items xs) ts ≡ Some rest
first_walk x xs ts mid rest h k = rw h (subst (λ (W : Walk). W mid ≡ Some rest) (more_are xs) k)

applied_full : (d : ℕ) (s : Parser SortTree) → Full d s → (p : Place) (x : List ℕ) (y : SortTree) (ys : SortTrees) (ts rest : List Token) → sort_arguments (more_sort y ys) ts ≡ Some rest → sorts_nesting (more_sort y ys) ≤ d → applied_sort_at s p x ts ≡ ok (tree.name_ p x (more_sort y ys)) rest
unfolding applied_sort_at
applied_full d s hs p x y ys ts rest h deep =
    let a = gone (mark Ghost punctuators.Less ts) h in
    let b = gone (sort y a.0) a.2 in
    let c = gone (more_sorts ys b.0) b.2 in
    let walk = first_walk y ys a.0 b.0 c.0 b.1 c.1 in
    let low : greatest sort_depth (y ∷ sort_items ys) ≤ d = omega (arith, deep, nesting_is ys) in
    let z = mark_front Ghost punctuators.Greater c.0 rest c.2 in
    let read = some_full sort sort_depth d Ended s (sort_listed d s hs) y (sort_items ys) a.0 c.0 walk low (greater_ended c.0 rest c.2) (z.marks_are punctuators.Comma) in
    let all = sort_items_are ys in
    rw ((mark_read Ghost _ ts a.0 a.1).1, read, (mark_read Ghost _ c.0 rest c.2).1) (λ i. ok (tree.name_ p x (more_sort y (all i))) rest)

name_full : (d : ℕ) (s : Parser SortTree) → Full d s → (p : Place) (x : List ℕ) (xs : SortTrees) (ts mid rest : List Token) → at p ts ≡ Some ts → identifier Ghost x ts ≡ Some mid → sort_arguments xs mid ≡ Some rest → sorts_nesting xs ≤ d → Ended rest → sort_form_at s p ts ≡ ok (tree.name_ p x xs) rest
unfolding sort_form_at named_sort_at
name_full d s hs p x no_sort ts mid rest here n h deep e =
    let f = identifier_front Ghost x ts mid n in
    let same : mid ≡ rest = some_same h in
    let star = subst (λ r. head_has (is_mark Ghost punctuators.Star) r ≡ false) (sym same) e.no_star in
    let less = subst (λ r. head_has (is_mark Ghost punctuators.Less) r ≡ false) (sym same) e.no_arguments in
    rw (f.words_are keywords.Real, f.words_are keywords.Any, f.words_are keywords.Predicate, f.names_are, name_here Ghost x p ts ts mid here n, star, less) (λ i. ok (tree.name_ p x no_sort) (same i))
name_full d s hs p x (more_sort y ys) ts mid rest here n h deep e =
    let f = identifier_front Ghost x ts mid n in
    let a = gone (mark Ghost punctuators.Less mid) h in
    let less = mark_front Ghost punctuators.Less mid a.0 a.1 in
    rw (f.words_are keywords.Real, f.words_are keywords.Any, f.words_are keywords.Predicate, f.names_are, name_here Ghost x p ts ts mid here n, less.marks_are punctuators.Star, less.marks_are punctuators.Less) (applied_full d s hs p x y ys mid rest h deep)

behind_mark : (p : Place) {c : Class} (ts : List Token) {us : List Token} → at p ts ≡ Some us → Front Ghost c us → class_mark c punctuators.CloseParenthesis ≡ false → head_has (is_mark Ghost punctuators.CloseParenthesis) ts ≡ false
behind_mark p {c = c} ts {us = us} h f other = subst (λ vs. head_has (is_mark Ghost punctuators.CloseParenthesis) vs ≡ false) (sym (at_stays p ts us h)) (f.marks_are punctuators.CloseParenthesis ∙ other)

type_open : (ts rest : List Token) → Typed Ghost ts rest → head_has (is_mark Ghost punctuators.CloseParenthesis) ts ≡ false
type_open ts rest (by_word k f h) = f.marks_are punctuators.CloseParenthesis
type_open ts rest (by_name mid t u f s one two) = f.marks_are punctuators.CloseParenthesis

-- no sort begins with a closing parenthesis
pub sort_open : (x : SortTree) (ts rest : List Token) → sort x ts ≡ Some rest → head_has (is_mark Ghost punctuators.CloseParenthesis) ts ≡ false
sort_open (tree.real_ p) ts rest h =
    let g = gone (at p ts) h in
    behind_mark p ts g.1 (word_front Ghost _ g.0 rest g.2) refl
sort_open (tree.any_ p) ts rest h =
    let g = gone (at p ts) h in
    behind_mark p ts g.1 (word_front Ghost _ g.0 rest g.2) refl
sort_open (tree.type_ p t) ts rest h =
    let g = gone (at p ts) h in
    subst (λ us. head_has (is_mark Ghost punctuators.CloseParenthesis) us ≡ false) (sym (at_stays p ts g.0 g.1)) (type_open g.0 rest (ctype_begins Ghost t g.0 rest g.2))
sort_open (tree.name_ p x xs) ts rest h =
    let g = gone (at p ts) h in let m = gone (identifier Ghost x g.0) g.2 in
    behind_mark p ts g.1 (identifier_front Ghost x g.0 m.0 m.1) refl
sort_open (tree.predicate_ p xs) ts rest h =
    let g = gone (at p ts) h in let m = gone (word Ghost keywords.Predicate g.0) g.2 in
    behind_mark p ts g.1 (word_front Ghost _ g.0 m.0 m.1) refl

predicate_full : (d : ℕ) (s : Parser SortTree) → Full d s → (p : Place) (xs : SortTrees) (ts rest : List Token) → (word Ghost keywords.Predicate ⨾ mark Ghost punctuators.OpenParenthesis ⨾ sorts_separated xs ⨾ mark Ghost punctuators.CloseParenthesis) ts ≡ Some rest
    → sorts_nesting xs ≤ d → sort_form_at s p ts ≡ ok (tree.predicate_ p xs) rest
unfolding sort_form_at predicate_sort_at
predicate_full d s hs p xs ts rest h deep =
    let a = gone (word Ghost keywords.Predicate ts) h in
    let b = gone (mark Ghost punctuators.OpenParenthesis a.0) a.2 in
    let c = gone (sorts_separated xs b.0) b.2 in
    let f = word_front Ghost keywords.Predicate ts a.0 a.1 in
    let z = mark_front Ghost punctuators.CloseParenthesis c.0 rest c.2 in
    let walk : separated Ghost sort (sort_items xs) b.0 ≡ Some c.0 = subst (λ (W : Walk). W b.0 ≡ Some c.0) (separated_are xs) c.1 in
    let low : greatest sort_depth (sort_items xs) ≤ d = omega (arith, deep, nesting_is xs) in
    let read = any_full (is_mark Ghost punctuators.CloseParenthesis) sort sort_depth d Ended s (sort_listed d s hs) sort_open (sort_items xs) b.0 c.0 walk low (close_ended c.0 rest c.2) (z.marks_are punctuators.Comma) (z.marks_are punctuators.CloseParenthesis) in
    let all = sort_items_are xs in
    rw (f.words_are keywords.Real, f.words_are keywords.Any, f.words_are keywords.Predicate, (word_read Ghost _ ts a.0 a.1).1, (mark_read Ghost _ a.0 b.0 b.1).1, read, (mark_read Ghost _ c.0 rest c.2).1) (λ i. ok (tree.predicate_ p (all i)) rest)

form_full : (d : ℕ) (s : Parser SortTree) → Full d s → (x : SortTree) (ts rest : List Token) → sort x ts ≡ Some rest → sort_nesting x ≤ d → Ended rest → (here_at ts >>= λ p. sort_form_at s p.0 p.1) ≡ ok x rest
unfolding sort_form_at
form_full d s hs (tree.real_ p) ts rest h deep e =
    let g = gone (at p ts) h in
    let f = word_front Ghost keywords.Real g.0 rest g.2 in
    rw (here_read p ts g.0 g.1, f.words_are keywords.Real, (word_read Ghost _ g.0 rest g.2).1) refl
form_full d s hs (tree.any_ p) ts rest h deep e =
    let g = gone (at p ts) h in
    let f = word_front Ghost keywords.Any g.0 rest g.2 in
    rw (here_read p ts g.0 g.1, f.words_are keywords.Real, f.words_are keywords.Any, (word_read Ghost _ g.0 rest g.2).1) refl
form_full d s hs (tree.type_ p t) ts rest h deep e =
    let g = gone (at p ts) h in
    rw (here_read p ts g.0 g.1) (type_full s p t g.0 rest (stands p ts g.0 g.1) g.2 e)
form_full d s hs (tree.name_ p x xs) ts rest h deep e =
    let g = gone (at p ts) h in let n = gone (identifier Ghost x g.0) g.2 in
    rw (here_read p ts g.0 g.1) (name_full d s hs p x xs g.0 n.0 rest (stands p ts g.0 g.1) n.1 n.2 deep e)
form_full d s hs (tree.predicate_ p xs) ts rest h deep e =
    let g = gone (at p ts) h in
    rw (here_read p ts g.0 g.1) (predicate_full d s hs p xs g.0 rest g.2 deep)

pub sort_full : (d : ℕ) → Full d (sort_at d)
unfolding sort_at
sort_full zero x ts rest h deep e = absurd (omega (arith, deep))
sort_full (suc d) x ts rest h deep e = form_full d (sort_at d) (sort_full d) x ts rest h (omega (arith, deep)) e
