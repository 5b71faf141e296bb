-- Sorts stop alike on tokens that are alike, also where the others may nest deeper.
use Rattle.std.proofs.Common.{◌≡◌, ℕ, zero, suc, ◌≤◌, Bool, false, List, [], ◌∷◌, refl, arith}
use Rattle.std.proofs.lemmas.Bool.{or_parts}
use Rattle.vf_base.specs.declared.place.Place.{Place}
use Rattle.vf_lexer.specs.declared.punctuator.Punctuator.TheVariants as punctuators
use Rattle.vf_lexer.specs.declared.token.Token.{Token}
use Rattle.vf_syntax.specs.declared.keyword.Keyword.TheVariants as keywords
use Rattle.vf_syntax.specs.declared.side.Side.TheVariants.{Ghost}
use Rattle.vf_syntax.specs.declared.written.TypeForm.TheVariants as forms
use Rattle.vf_syntax.specs.SortTree.{SortTree, sort_list, no_sort}
use Rattle.vf_syntax.specs.SortTree as tree
use Rattle.vf_syntax.specs.Walks.{head_has, is_mark, is_word, is_name}
use Rattle.vf_cursor.specs.Parsing.{Parser}
use Rattle.vf_cursor.specs.Types.{is_type_word}
use Rattle.vf_parse_term.specs.Pieces.{too_deep_at}
use Rattle.vf_parse_term.specs.Sorts.{begins_sort, applied_sort_at, named_sort_at, predicate_sort_at, sort_form_at, sort_at}
use Rattle.vf_parse_term.proofs.SortsRead.{sort_sound}
use Rattle.vf_grammar_read.proofs.terms.Eaten.{sort_eats}
use Rattle.vf_grammar_stops.proofs.types.Local.{Does, then_like, done_like, here_like, mark_like, word_like, name_like, choice_like}
use Rattle.vf_grammar_stops.proofs.types.LoopAlike.{Takes}
use Rattle.vf_grammar_stops.proofs.types.TypesAlike.{ctype_like}
use Rattle.vf_grammar_stops.proofs.expressions.Refused.{Refuses}
use Rattle.vf_grammar_stops.proofs.terms.Refused.{ctype_refuses, at_here_refuses}
use Rattle.vf_grammar_stops.proofs.terms.Pieces.{too_deep_like, some_like, any_like}

-- a sort of named values, and a pointer
abbrev named_pointer : Place → List ℕ → SortTree
named_pointer p x = tree.type_ p (record { place = p; form = forms.NamedPointer x })

applied_sort_like : {b : Bool} {s r : Parser SortTree} → Does b s r → Takes r → (p : Place) (x : List ℕ) → Does b (applied_sort_at s p x) (applied_sort_at r p x)
unfolding applied_sort_at
applied_sort_like hs takes p x = then_like (mark_like Ghost punctuators.Less) (λ a. then_like (some_like hs takes) (λ xs. then_like (mark_like Ghost punctuators.Greater) (λ b. done_like (tree.name_ p x (sort_list xs)))))

pub named_sort_like : {b : Bool} {s r : Parser SortTree} → Does b s r → Takes r → (p : Place) (x : List ℕ) → Does b (named_sort_at s p x) (named_sort_at r p x)
unfolding named_sort_at
named_sort_like hs takes p x =
    choice_like (is_mark Ghost punctuators.Star) (then_like (mark_like Ghost punctuators.Star) (λ a. done_like (named_pointer p x)))
    (choice_like (is_mark Ghost punctuators.Less) (applied_sort_like hs takes p x) (done_like (tree.name_ p x no_sort)))

predicate_sort_like : {b : Bool} {s r : Parser SortTree} → Does b s r → Takes r → (p : Place) → Does b (predicate_sort_at s p) (predicate_sort_at r p)
unfolding predicate_sort_at
predicate_sort_like hs takes p =
    then_like (word_like Ghost keywords.Predicate) (λ a. then_like (mark_like Ghost punctuators.OpenParenthesis) (λ b. then_like (any_like (is_mark Ghost punctuators.CloseParenthesis) hs takes)
    (λ xs. then_like (mark_like Ghost punctuators.CloseParenthesis) (λ c. done_like (tree.predicate_ p (sort_list xs))))))

sort_form_like : {b : Bool} {s r : Parser SortTree} → Does b s r → Takes r → (p : Place) → Does b (sort_form_at s p) (sort_form_at r p)
unfolding sort_form_at
sort_form_like hs takes p =
    choice_like (is_word Ghost keywords.Real) (then_like (word_like Ghost keywords.Real) (λ a. done_like (tree.real_ p)))
    (choice_like (is_word Ghost keywords.Any) (then_like (word_like Ghost keywords.Any) (λ a. done_like (tree.any_ p)))
    (choice_like (is_word Ghost keywords.Predicate) (predicate_sort_like hs takes p)
    (choice_like (is_name Ghost) (then_like (name_like Ghost) (λ n. named_sort_like hs takes p n.text))
    (then_like (ctype_like Ghost) (λ t. done_like (tree.type_ p t))))))

-- the tests of what begins a sort, each failed
record Unsorted (ts : List Token) : Type 0 where
  real : head_has (is_word Ghost keywords.Real) ts ≡ false
  any : head_has (is_word Ghost keywords.Any) ts ≡ false
  predicate : head_has (is_word Ghost keywords.Predicate) ts ≡ false
  name : head_has (is_name Ghost) ts ≡ false
  type_word : head_has (is_type_word Ghost) ts ≡ false

unsorted : (ts : List Token) → head_has begins_sort ts ≡ false → Unsorted ts
unfolding begins_sort
unsorted [] h = record { real = refl; any = refl; predicate = refl; name = refl; type_word = refl }
unsorted (t ∷ ts) h =
    let a = or_parts _ (is_type_word Ghost t) h in
    let b = or_parts _ (is_name Ghost t) a.0 in
    let c = or_parts _ (is_word Ghost keywords.Predicate t) b.0 in
    let d = or_parts (is_word Ghost keywords.Real t) _ c.0 in
    record { real = d.0; any = d.1; predicate = c.1; name = b.1; type_word = a.1 }

sort_form_refuses : (s : Parser SortTree) (p : Place) (ts : List Token) → Unsorted ts → Refuses (sort_form_at s p) ts
unfolding sort_form_at
sort_form_refuses s p ts u = rw (u.real, u.any, u.predicate, u.name, ctype_refuses Ghost ts u.type_word u.name) refl

-- what can't begin a sort is refused at once
pub sort_refuses : (m : ℕ) (ts : List Token) → head_has begins_sort ts ≡ false → Refuses (sort_at m) ts
unfolding sort_at too_deep_at
sort_refuses zero ts h = rw h refl
sort_refuses (suc m) ts h = at_here_refuses (sort_form_at (sort_at m)) ts (λ p. sort_form_refuses (sort_at m) p ts (unsorted ts h))

-- what is read as a sort takes a token
pub sort_takes : (d : ℕ) → Takes (sort_at d)
sort_takes d ts x rest e = (sort_eats x).eat ts rest ((sort_sound d ts x rest e).0)

pub sort_like : (d m : ℕ) → d ≤ m → Does false (sort_at d) (sort_at m)
unfolding sort_at
sort_like zero m le = too_deep_like begins_sort (sort_at m) (sort_refuses m)
sort_like (suc d) zero le = absurd (omega (arith, le))
sort_like (suc d) (suc m) le = then_like here_like (λ p. sort_form_like (sort_like d m (omega (arith, le))) (sort_takes m) p)
