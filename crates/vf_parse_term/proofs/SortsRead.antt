-- The sorts that are read are spelled, and nest no deeper than is allowed.
use Rattle.std.proofs.Common.{◌≡◌, ℕ, zero, suc, ◌+◌, ◌≤◌, Bool, true, false, List, [], ◌∷◌, Option, Some, None, Ok, Err, refl, sym, subst, ap, ◌∙◌, arith, inl, inr}
use Rattle.std.specs.Prelude.{max}
use Rattle.vf_base.specs.declared.place.Place.{Place}
use Rattle.vf_lexer.specs.declared.punctuator.Punctuator.TheVariants as punctuators
use Rattle.vf_lexer.specs.declared.token.Token.{Token}
use Rattle.vf_syntax.specs.declared.keyword.Keyword.TheVariants as keywords
use Rattle.vf_syntax.specs.declared.side.Side.TheVariants.{Ghost}
use Rattle.vf_syntax.specs.declared.written.Name.{Name}
use Rattle.vf_syntax.specs.declared.written.TypeForm.TheVariants as forms
use Rattle.vf_syntax.specs.declared.written.CType.{CType}
use Rattle.vf_syntax.specs.SortTree.{SortTree, sort_list, no_sort, more_sort}
use Rattle.vf_syntax.specs.SortTree as tree
use Rattle.vf_syntax.specs.Walks.{Walk, goes_on, ◌⨾◌, at, head_has, is_mark, is_word, is_name, mark, word, identifier}
use Rattle.vf_syntax.specs.Written.{type_form, ctype}
use Rattle.vf_syntax.specs.Lists.{behind_commas, separated, greatest}
use Rattle.vf_syntax.specs.GhostExpressions.{sort, sort_arguments, sorts_separated, more_sorts, sort_nesting, sorts_nesting}
use Rattle.vf_cursor.specs.Parsing.{Parser, ok, ◌>>=◌, here_at, mark_at, word_at, name_at}
use Rattle.vf_cursor.specs.Types.{ctype_at}
use Rattle.vf_cursor.proofs.Facts.{bind_ok, ok_pair, moved, chose, no_true}
use Rattle.vf_parse_term.specs.Pieces.{too_deep_at, some_at, any_at}
use Rattle.vf_parse_term.specs.Laws.{IsSpelled, sort_depth}
use Rattle.vf_parse_term.specs.Sorts.{begins_sort, applied_sort_at, named_sort_at, predicate_sort_at, sort_form_at, sort_at}
use Rattle.vf_parse_term.proofs.Taken.{here_sound, mark_sound, word_sound, name_sound}
use Rattle.vf_parse_term.proofs.Types.{ctype_sound}
use Rattle.vf_parse_term.proofs.Lists.{through, some_sound, any_sound}

more_same : (xs : List SortTree) → behind_commas Ghost sort xs ≡ more_sorts (sort_list xs)
more_same [] = refl
more_same (x ∷ xs) = ap (λ (W : Walk). mark Ghost punctuators.Comma ⨾ sort x ⨾ W) (more_same xs)

separated_same : (xs : List SortTree) → separated Ghost sort xs ≡ sorts_separated (sort_list xs)
separated_same [] = refl
separated_same (x ∷ xs) = ap (λ (W : Walk). sort x ⨾ W) (more_same xs)

nesting_same : (xs : List SortTree) → greatest sort_depth xs ≡ sorts_nesting (sort_list xs)
nesting_same [] = refl
nesting_same (x ∷ xs) = ap (λ (n : ℕ). max (sort_nesting x + 1) n) (nesting_same xs)

-- a sort is spelled, and nests at most so deep, itself not counted
abbrev IsSort : ℕ → List Token → SortTree → List Token → Type 0
IsSort d ts x rest = (sort x ts ≡ Some rest) × (sort_nesting x ≤ d)

pub too_deep_never : {A : Type 0} {B : Type 0} (begins : Token → Bool) (ts : List Token) (x : A) (rest : List Token) → too_deep_at begins ts ≡ ok x rest → B
unfolding too_deep_at
too_deep_never begins ts x rest e =
    elim (chose (head_has begins ts) _ _ _ e) [
      | inl h ↦ absurd cc
      | inr h ↦ absurd cc
    ]

applied_sound : (s : Parser SortTree) (d : ℕ) → IsSpelled s sort sort_depth d → (p : Place) (n : List ℕ) (all ts : List Token) → at p all ≡ Some all → identifier Ghost n all ≡ Some ts
    → (x : SortTree) (rest : List Token) → applied_sort_at s p n ts ≡ ok x rest → IsSort d all x rest
unfolding applied_sort_at
applied_sound s d hs p n all ts here named x rest e =
    let a = bind_ok {r = mark_at Ghost punctuators.Less ts} e in
    let xs = bind_ok {r = some_at s a.0.1} a.2 in
    let b = bind_ok {r = mark_at Ghost punctuators.Greater xs.0.1} xs.2 in
    let k = some_sound s sort sort_depth d hs a.0.1 xs.0.0 xs.0.1 xs.1 in
    let first = (mark_sound Ghost punctuators.Less ts a.0.0 a.0.1 a.1).0 in
    let last = (mark_sound Ghost punctuators.Greater xs.0.1 b.0.0 b.0.1 b.1).0 in
    let inside : sorts_separated (sort_list (k.0 ∷ k.1)) a.0.1 ≡ Some xs.0.1 = subst (λ (W : Walk). W a.0.1 ≡ Some xs.0.1) (separated_same (k.0 ∷ k.1)) k.3 in
    let low : sorts_nesting (sort_list (k.0 ∷ k.1)) ≤ d = subst (λ (m : ℕ). m ≤ d) (nesting_same (k.0 ∷ k.1)) k.4 in
    let built : IsSort d all (tree.name_ p n (sort_list (k.0 ∷ k.1))) b.0.1 = (rw (here, named, first) (through (sort k.0) (more_sorts (sort_list k.1)) (mark Ghost punctuators.Greater) a.0.1 xs.0.1 (Some b.0.1) inside last), low) in
    moved (λ y r. IsSort d all y r) b.2 (subst (λ (ys : List SortTree). IsSort d all (tree.name_ p n (sort_list ys)) b.0.1) (sym k.2) built)

named_pointer : (p : Place) (n : List ℕ) (all ts : List Token) → at p all ≡ Some all → identifier Ghost n all ≡ Some ts → (rest : List Token) → mark Ghost punctuators.Star ts ≡ Some rest
    → sort (tree.type_ p (record { place = p; form = forms.NamedPointer n })) all ≡ Some rest
unfolding ctype type_form
named_pointer p n all ts here named rest star = rw (here, here, named) star

named_sort_sound : (s : Parser SortTree) (d : ℕ) → IsSpelled s sort sort_depth d → (p : Place) (n : List ℕ) (all ts : List Token) → at p all ≡ Some all → identifier Ghost n all ≡ Some ts
    → (x : SortTree) (rest : List Token) → named_sort_at s p n ts ≡ ok x rest → IsSort d all x rest
unfolding named_sort_at
named_sort_sound s d hs p n all ts here named x rest e =
    elim (chose (head_has (is_mark Ghost punctuators.Star) ts) _ _ _ e) [
      | inl h ↦
          let a = bind_ok {r = mark_at Ghost punctuators.Star ts} h.1 in
          let star = (mark_sound Ghost punctuators.Star ts a.0.0 a.0.1 a.1).0 in
          moved (λ y r. IsSort d all y r) a.2 (named_pointer p n all ts here named a.0.1 star, omega arith)
      | inr g ↦
          elim (chose (head_has (is_mark Ghost punctuators.Less) ts) _ _ _ g.1) [
            | inl h ↦ applied_sound s d hs p n all ts here named x rest h.1
            | inr h ↦ moved (λ y r. IsSort d all y r) h.1 (rw (here, named) refl, omega arith)
          ]
    ]

predicate_sort_sound : (s : Parser SortTree) (d : ℕ) → IsSpelled s sort sort_depth d → (p : Place) (ts : List Token) → at p ts ≡ Some ts
    → (x : SortTree) (rest : List Token) → predicate_sort_at s p ts ≡ ok x rest → IsSort d ts x rest
unfolding predicate_sort_at
predicate_sort_sound s d hs p ts here x rest e =
    let a = bind_ok {r = word_at Ghost keywords.Predicate ts} e in
    let b = bind_ok {r = mark_at Ghost punctuators.OpenParenthesis a.0.1} a.2 in
    let xs = bind_ok {r = any_at (is_mark Ghost punctuators.CloseParenthesis) s b.0.1} b.2 in
    let c = bind_ok {r = mark_at Ghost punctuators.CloseParenthesis xs.0.1} xs.2 in
    let k = any_sound (is_mark Ghost punctuators.CloseParenthesis) s sort sort_depth d hs b.0.1 xs.0.0 xs.0.1 xs.1 in
    let first = (word_sound Ghost keywords.Predicate ts a.0.0 a.0.1 a.1).0 in
    let opens = (mark_sound Ghost punctuators.OpenParenthesis a.0.1 b.0.0 b.0.1 b.1).0 in
    let closes = (mark_sound Ghost punctuators.CloseParenthesis xs.0.1 c.0.0 c.0.1 c.1).0 in
    let inside : sorts_separated (sort_list xs.0.0) b.0.1 ≡ Some xs.0.1 = subst (λ (W : Walk). W b.0.1 ≡ Some xs.0.1) (separated_same xs.0.0) k.0 in
    let low : sorts_nesting (sort_list xs.0.0) ≤ d = subst (λ (m : ℕ). m ≤ d) (nesting_same xs.0.0) k.1 in
    moved (λ y r. IsSort d ts y r) c.2 (rw (here, first, opens, inside) closes, low)

sort_form_sound : (s : Parser SortTree) (d : ℕ) → IsSpelled s sort sort_depth d → (p : Place) (ts : List Token) → at p ts ≡ Some ts
    → (x : SortTree) (rest : List Token) → sort_form_at s p ts ≡ ok x rest → IsSort d ts x rest
unfolding sort_form_at
sort_form_sound s d hs p ts here x rest e =
    elim (chose (head_has (is_word Ghost keywords.Real) ts) _ _ _ e) [
      | inl h ↦ let a = bind_ok {r = word_at Ghost keywords.Real ts} h.1 in moved (λ y r. IsSort d ts y r) a.2 (rw here (word_sound Ghost keywords.Real ts a.0.0 a.0.1 a.1).0, omega arith)
      | inr g ↦
          elim (chose (head_has (is_word Ghost keywords.Any) ts) _ _ _ g.1) [
            | inl h ↦ let a = bind_ok {r = word_at Ghost keywords.Any ts} h.1 in moved (λ y r. IsSort d ts y r) a.2 (rw here (word_sound Ghost keywords.Any ts a.0.0 a.0.1 a.1).0, omega arith)
            | inr g ↦
                elim (chose (head_has (is_word Ghost keywords.Predicate) ts) _ _ _ g.1) [
                  | inl h ↦ predicate_sort_sound s d hs p ts here x rest h.1
                  | inr g ↦
                      elim (chose (head_has (is_name Ghost) ts) _ _ _ g.1) [
                        | inl h ↦
                            let n = bind_ok {r = name_at Ghost ts} h.1 in
                            named_sort_sound s d hs p n.0.0.text ts n.0.1 here (name_sound Ghost ts n.0.0 n.0.1 n.1).2 x rest n.2
                        | inr h ↦ let t = bind_ok {r = ctype_at Ghost ts} h.1 in moved (λ y r. IsSort d ts y r) t.2 (rw here (ctype_sound Ghost ts t.0.0 t.0.1 t.1), omega arith)
                      ]
                ]
          ]
    ]

pub sort_sound : (d : ℕ) → IsSpelled (sort_at d) sort sort_depth d
unfolding sort_at
sort_sound zero ts x rest e = too_deep_never begins_sort ts x rest e
sort_sound (suc d) ts x rest e =
    let p = bind_ok {r = here_at ts} e in
    let here = here_sound ts p.0.0 p.0.1 p.1 in
    let at_all : at p.0.0 p.0.1 ≡ Some p.0.1 = subst (λ (r : List Token). at p.0.0 r ≡ Some r) (sym here.0) here.1 in
    let k = sort_form_sound (sort_at d) d (sort_sound d) p.0.0 p.0.1 at_all x rest p.2 in
    let low = k.1 in
    (subst (λ (r : List Token). sort x r ≡ Some rest) here.0 k.0, omega (arith, low))
