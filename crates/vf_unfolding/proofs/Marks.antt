-- Numbers of terms as literals come, and as they are marked.
use Rattle.std.proofs.Common.{◌≡◌, ◌≤◌, ◌<◌, ◌+◌, ℕ, zero, suc, Bool, true, false, cond, nat_lt, List, [], ◌∷◌, ◌++◌, length, map, take, drop, get_or, refl, sym, ap, ap₂, ◌∙◌, subst, arith}
use Rattle.std.specs.Prelude.{pos, All, Contains}
use Rattle.std.proofs.Math.Seq.{take-append_seam, take-length}
use Rattle.std.proofs.lemmas.List.{map_push, map-append, length-take, get_or-take, take_more, take-append-le, take-append-drop}
use Rattle.std.proofs.lemmas.List.Elements.{All-push}
use Rattle.vf_closure.specs.Terms.{Head, Term, Terms, term, no_terms, and_term, number, IsAt, IsWithin, below}
use Rattle.vf_closure.specs.Literals.{Literal, compares}
use Rattle.vf_closure.specs.Closure.{asked}
use Rattle.vf_formula.specs.Rows.{row}
use Rattle.vf_formula.specs.Literals.{shown_literal}
use Rattle.vf_formula.specs.declared.literal.Literal as declared
use Rattle.vf_question.specs.declared.unfolding.Unfolding.{Unfolding}
use Rattle.vf_question.specs.Numbered.{place, with_one, with_term, with_row, with_all, with_literals, terms_of, all_terms}
use Rattle.vf_question.specs.Questions.{at}
use Rattle.vf_question.proofs.Has.{Has, contains_has, has_contains, has_place, place_has, at_place}
use Rattle.std.proofs.lemmas.Bool.{ltb-true}
use Rattle.vf_question.proofs.Places.{with_one_there}
use Rattle.vf_question.proofs.Asked.{terms_once, has_arising}
use Rattle.vf_interning.proofs.Parts.{kept_more}
use Rattle.vf_interning.proofs.Meaning.{gathered_more}
use Rattle.vf_unfolding.specs.Rounds.{zero_is_zero, AreNumbers}
use Rattle.vf_unfolding.proofs.Numbers.{has_number, its_number}

-- ---- lists of terms go on
one_goes_on : (b : Bool) (t : Term) (ts : List Term) → take (length ts) (cond b ts (ts ++ t ∷ [])) ≡ ts
one_goes_on true t ts = take-length ts
one_goes_on false t ts = take-append_seam ts (t ∷ [])

mutual
  term_goes_on : (t : Term) (ts : List Term) → take (length ts) (with_term t ts) ≡ ts
  term_goes_on (term h ps) ts = kept_more ts (with_row ps ts) (with_term (term h ps) ts) (row_goes_on ps ts) (one_goes_on (nat_lt (place (term h ps) (with_row ps ts)) (length (with_row ps ts))) (term h ps) (with_row ps ts))

  row_goes_on : (ps : Terms) (ts : List Term) → take (length ts) (with_row ps ts) ≡ ts
  row_goes_on no_terms ts = take-length ts
  row_goes_on (and_term p ps) ts = kept_more ts (with_term p ts) (with_row ps (with_term p ts)) (term_goes_on p ts) (row_goes_on ps (with_term p ts))

all_go_on : (us ts : List Term) → take (length ts) (with_all us ts) ≡ ts
all_go_on [] ts = take-length ts
all_go_on (u ∷ us) ts = kept_more ts (with_term u ts) (with_all us (with_term u ts)) (term_goes_on u ts) (all_go_on us (with_term u ts))

literals_go_on : (ls : List Literal) (ts : List Term) → take (length ts) (with_literals ls ts) ≡ ts
literals_go_on [] ts = take-length ts
literals_go_on (l ∷ ls) ts = kept_more ts (with_all (compares l) ts) (with_literals ls (with_all (compares l) ts)) (all_go_on (compares l) ts) (literals_go_on ls (with_all (compares l) ts))

pub not_longer : {X : Type 0} (xs ys : List X) → take (length xs) ys ≡ xs → length xs ≤ length ys
not_longer xs ys e = omega (arith, ap length e, length-take (length xs) ys)

-- literals one after the other
after_all : (ls ms : List Literal) (ts : List Term) → with_literals (ls ++ ms) ts ≡ with_literals ms (with_literals ls ts)
after_all [] ms ts = refl
after_all (l ∷ ls) ms ts = after_all ls ms (with_all (compares l) ts)

pub terms_more : (facts : List Literal) (l : Literal) → terms_of (facts ++ l ∷ []) ≡ with_all (compares l) (terms_of facts)
terms_more facts l = after_all facts (l ∷ []) []

-- more literals have no fewer terms
pub no_fewer_terms : (ls ms : List Literal) → length (terms_of ls) ≤ length (terms_of (ls ++ ms))
no_fewer_terms ls ms = let l = not_longer (terms_of ls) (with_literals ms (terms_of ls)) (literals_go_on ms (terms_of ls)) in omega (arith, l, ap length (after_all ls ms []))

-- with one literal more the terms go on
pub terms_go_on : (ls : List Literal) (l : Literal) → Contains ls zero_is_zero → take (length (all_terms ls)) (all_terms (ls ++ l ∷ [])) ≡ all_terms ls
terms_go_on ls l z = ap (take (length (all_terms ls))) (sym (gathered_more ls l (all_terms ls) (with_all (compares l) (all_terms ls)) z refl refl)) ∙ all_go_on (compares l) (all_terms ls)

at_stays : (ts us : List Term) (k : ℕ) → take (length ts) us ≡ ts → k < length ts → at us k ≡ at ts k
at_stays ts us k e l = sym (get_or-take (length ts) us k (number (pos 0)) l) ∙ ap (λ (xs : List Term). get_or xs k (number (pos 0))) e

each_stays : (ts us : List Term) (numbers : List ℕ) → take (length ts) us ≡ ts → All (λ k. k < length ts) numbers → map (at us) numbers ≡ map (at ts) numbers
each_stays ts us [] e h = refl
each_stays ts us (n ∷ ns) e h = ap₂ (λ (x : Term) (xs : List Term). x ∷ xs) (at_stays ts us n e (h 0 n (omega arith))) (each_stays ts us ns e (λ k d l. h (suc k) d (omega (arith, l))))

all_below : (m n : ℕ) (numbers : List ℕ) → m ≤ n → All (λ k. k < m) numbers → All (λ k. k < n) numbers
all_below m n [] l h k d w = absurd (omega arith)
all_below m n (x ∷ xs) l h zero d w = let r = h 0 d (omega arith) in omega (arith, r, l)
all_below m n (x ∷ xs) l h (suc k) d w = all_below m n xs l (λ i e v. h (suc i) e (omega (arith, v))) k d (omega (arith, w))

-- the numbers of the facts' terms stay where a literal comes
pub numbers_stay : (ls facts : List Literal) (numbers : List ℕ) (l : Literal) → Contains ls zero_is_zero → AreNumbers ls facts numbers → AreNumbers (ls ++ l ∷ []) facts numbers
numbers_stay ls facts numbers l z h = record {
  terms = each_stays (all_terms ls) (all_terms (ls ++ l ∷ [])) numbers (terms_go_on ls l z) h.within ∙ h.terms;
  within = all_below (length (all_terms ls)) (length (all_terms (ls ++ l ∷ []))) numbers (not_longer (all_terms ls) (all_terms (ls ++ l ∷ [])) (terms_go_on ls l z)) h.within;
}

-- ---- one number is marked
module _ (ls : List Literal) (numbers : List ℕ) (t : Term) (there : place t (all_terms ls) < length (all_terms ls)) (within : All (λ k. k < length (all_terms ls)) numbers) where
  abbrev ts : List Term
  ts = all_terms ls

  its_term : at ts (place t ts) ≡ t
  its_term = at_place t (number (pos 0)) ts (place_has t ts there)

  pub was_marked : Contains numbers (place t ts) → map (at ts) numbers ≡ with_one t (map (at ts) numbers)
  was_marked c =
      let h : Has (map (at ts) numbers) t = subst (Has (map (at ts) numbers)) its_term (has_number ts numbers (place t ts) (contains_has numbers (place t ts) c)) in
      with_one_there t (map (at ts) numbers) (has_place t (map (at ts) numbers) h)

  abbrev known : List Term
  known = map (at ts) numbers

  marked_case : (b : Bool) → nat_lt (place t known) (length known) ≡ b → (Contains numbers (place t ts) → ⊥) → known ++ t ∷ [] ≡ cond b known (known ++ t ∷ [])
  marked_case true e none =
      let h : Has known t = place_has t known (ltb-true (place t known) (length known) e) in
      absurd (none (has_contains numbers (place t ts) (its_number ts numbers (place t ts) (terms_once ls) within there (subst (Has known) (sym its_term) h))))
  marked_case false e none = refl

  pub is_marked : (Contains numbers (place t ts) → ⊥) → (now : List ℕ) → now ≡ numbers ++ place t ts ∷ [] → map (at ts) now ≡ with_one t (map (at ts) numbers)
  is_marked none now e =
      ap (map (at ts)) e ∙ map_push (at ts) numbers (place t ts) ∙ ap (λ (s : Term). map (at ts) numbers ++ s ∷ []) its_term ∙ marked_case (nat_lt (place t known) (length known)) refl none

  pub still_within : (now : List ℕ) → now ≡ numbers ++ place t ts ∷ [] → All (λ k. k < length ts) now
  still_within now e = subst (All (λ k. k < length ts)) (sym e) (All-push (λ k. k < length ts) numbers (place t ts) within there)

pub pushed_keeps : (xs ys : List ℕ) (x : ℕ) → ys ≡ xs ++ x ∷ [] → take (length xs) ys ≡ xs
pushed_keeps xs ys x e = ap (take (length xs)) e ∙ take-append_seam xs (x ∷ [])

pub same_keeps : (xs : List ℕ) → take (length xs) xs ≡ xs
same_keeps xs = take-length xs

-- what stands within a part stands within the term
pub part_within : (h : Head) (items : List Term) (i : ℕ) (p s t : Term) → IsAt p i (row items) → term h (row items) ≡ t → IsWithin s p → IsWithin s t
part_within h items i p s t a e w = subst (IsWithin s) e (below a w)

-- what stands within what a literal compares is a term of the literals
pub literal_there : (ls : List Literal) (l : Literal) (t s : Term) → Contains ls l → Contains (compares l) t → IsWithin s t → place s (all_terms ls) < length (all_terms ls)
literal_there ls l t s c k w = has_place s (all_terms ls) (has_arising ls zero s (asked {l = l} {s = t} c k w))

-- what was made at first stays at the front
pub made_kept : (first made now : List Unfolding) (m : Unfolding) → take (length first) made ≡ first → now ≡ made ++ m ∷ [] → take (length first) now ≡ first
made_kept first made now m e is = ap (take (length first)) is ∙ take-append-le (length first) made (m ∷ []) (omega (arith, ap length e, length-take (length first) made)) ∙ e

-- the front of a list, one further on
pub taken_more : (xs : List declared.Literal) (i : ℕ) (x : declared.Literal) (before after : List Literal) → i < length xs → x ≡ get_or xs i x → before ≡ map shown_literal (take i xs) → after ≡ before ++ shown_literal x ∷ [] → after ≡ map shown_literal (take (i + 1) xs)
taken_more xs i x before after l is b a =
    a ∙ ap (λ (ls : List Literal). ls ++ shown_literal x ∷ []) b ∙ ap (λ (y : declared.Literal). map shown_literal (take i xs) ++ shown_literal y ∷ []) is
    ∙ sym (ap (map shown_literal) (take_more xs i x l) ∙ map_push shown_literal (take i xs) (get_or xs i x))

-- the front of a list has no more terms than the whole
pub front_few : (xs : List declared.Literal) (n : ℕ) → length (terms_of (map shown_literal (take n xs))) ≤ length (terms_of (map shown_literal xs))
front_few xs n =
    let e : map shown_literal (take n xs) ++ map shown_literal (drop n xs) ≡ map shown_literal xs = sym (map-append shown_literal (take n xs) (drop n xs)) ∙ ap (map shown_literal) (take-append-drop n xs) in
    let l = no_fewer_terms (map shown_literal (take n xs)) (map shown_literal (drop n xs)) in
    omega (arith, l, ap (λ (ls : List Literal). length (terms_of ls)) e)
