-- Places, heads and nodes stay where a list of terms goes on.
use Rattle.std.proofs.Common.{◌≡◌, ◌≤◌, ◌<◌, ◌+◌, inl, inr, ℕ, suc, Bool, true, false, cond, List, [], ◌∷◌, ◌++◌, length, map, drop, get_or, refl, sym, ap, ap₂, ◌∙◌, arith}
use Rattle.std.specs.Ordering.{is_eq}
use Rattle.std.proofs.lemmas.Bool.{false≢true}
use Rattle.std.proofs.lemmas.List.{map-append, at_drop_more}
use Rattle.vf_table.specs.declared.node.Head.{Head}
use Rattle.vf_table.specs.declared.node.Head.TheVariants as heads
use Rattle.vf_closure.specs.Terms as terms
use Rattle.vf_closure.specs.Terms.{Kind, Integer, Other, Term, Terms, term, no_terms, and_term, number, kind_of, IsAt, here, further_on}
use Rattle.vf_normal.specs.Order.{compare, compare_heads}
use Rattle.vf_question.specs.Numbered.{place}
use Rattle.vf_question.specs.Tabled.{head_place, opaque, tabled_head, places, tabled}
use Rattle.vf_question.proofs.Has.{Has, contains_has, has_contains}
use Rattle.vf_question.proofs.Places.{one_is, one_told}
use Rattle.vf_question.proofs.Read.{head_of, head_is}
use Rattle.vf_interning.specs.Interned.{AreClosed}

-- ---- the way through a list
not_one : (b : Bool) → (b ≡ true → ⊥) → b ≡ false
not_one true h = absurd (h refl)
not_one false h = refl

pub place_found : (ts : List Term) (i : ℕ) (u t : Term) → i < length ts → u ≡ get_or ts i u → u ≡ t → place t (drop i ts) ≡ 0
place_found ts i u t l e h =
    at_drop_more (λ us. place t us) ts i u l
    ∙ ap (λ y. cond (is_eq (compare y t)) 0 (place t (drop (i + 1) ts) + 1)) (sym e)
    ∙ ap (λ b. cond b 0 (place t (drop (i + 1) ts) + 1)) (one_is u t h)

pub place_passed : (ts : List Term) (i : ℕ) (u t : Term) → i < length ts → u ≡ get_or ts i u → (u ≡ t → ⊥) → place t (drop i ts) ≡ place t (drop (i + 1) ts) + 1
place_passed ts i u t l e h =
    at_drop_more (λ us. place t us) ts i u l
    ∙ ap (λ y. cond (is_eq (compare y t)) 0 (place t (drop (i + 1) ts) + 1)) (sym e)
    ∙ ap (λ b. cond b 0 (place t (drop (i + 1) ts) + 1)) (not_one (is_eq (compare u t)) (λ k. h (one_told u t k)))

ends : (b : Bool) → b ≡ true → (n : ℕ) → cond b 0 n ≡ 0
ends true e n = refl
ends false e n = absurd (false≢true e)

new_case : (b : Bool) (n m k : ℕ) → k + 1 ≤ cond b 0 (n + 1) → (k ≤ n → m ≡ k) → cond b 0 (m + 1) ≡ k + 1
new_case true n m k l h = absurd (omega arith)
new_case false n m k l h = let e = h (omega arith) in omega arith

-- the place of a new term is its own
pub place_new : (t : Term) (ts : List Term) → length ts ≤ place t ts → place t (ts ++ t ∷ []) ≡ length ts
place_new t [] l = ends (is_eq (compare t t)) (one_is t t refl) (0 + 1)
place_new t (u ∷ us) l = let h : length us + 1 ≤ cond (is_eq (compare u t)) 0 (place t us + 1) = omega arith in let e = new_case (is_eq (compare u t)) (place t us) (place t (us ++ t ∷ [])) (length us) h (place_new t us) in omega arith

-- ---- lists that go on
chosen : (b : Bool) (n m k : ℕ) → n ≡ m → cond b k (n + 1) ≡ cond b k (m + 1)
chosen b n m k e = ap (λ i. cond b k (i + 1)) e

met : (b : Bool) (n m : ℕ) → b ≡ true → cond b 0 n ≡ cond b 0 m
met true n m e = refl
met false n m e = absurd (false≢true e)

pub place_stays : (t : Term) (ts us : List Term) → Has ts t → place t (ts ++ us) ≡ place t ts
place_stays t [] us h = absurd h
place_stays t (u ∷ ts) us (inl e) = met (is_eq (compare u t)) (place t (ts ++ us) + 1) (place t ts + 1) (one_is u t e)
place_stays t (u ∷ ts) us (inr h) = chosen (is_eq (compare u t)) (place t (ts ++ us)) (place t ts) 0 (place_stays t ts us h)

pub head_stays : (h : terms.Head) (ps : Terms) (ts us : List Term) → Has ts (term h ps) → head_place h (ts ++ us) ≡ head_place h ts
head_stays h ps [] us k = absurd k
head_stays h ps (term g qs ∷ ts) us (inl e) = met (is_eq (compare_heads g h)) (head_place h (ts ++ us) + 1) (head_place h ts + 1) (head_is g h (ap head_of e))
head_stays h ps (term g qs ∷ ts) us (inr k) = chosen (is_eq (compare_heads g h)) (head_place h (ts ++ us)) (head_place h ts) 0 (head_stays h ps ts us k)

-- the place of a new head is its own
pub head_new : (h : terms.Head) (ps : Terms) (ts : List Term) → head_place h (ts ++ term h ps ∷ []) ≡ head_place h ts
head_new h ps [] = ends (is_eq (compare_heads h h)) (head_is h h refl) (0 + 1)
head_new h ps (term g qs ∷ ts) = chosen (is_eq (compare_heads g h)) (head_place h (ts ++ term h ps ∷ [])) (head_place h ts) 0 (head_new h ps ts)

opaque_by : (k : Kind) (n m : ℕ) → n ≡ m → opaque k n ≡ opaque k m
opaque_by k n m e = ap (opaque k) e

pub tabled_head_by : (h : terms.Head) (us ts : List Term) → head_place h us ≡ head_place h ts → tabled_head us h ≡ tabled_head ts h
tabled_head_by (terms.Number z) us ts e = refl
tabled_head_by (terms.Truth b) us ts e = refl
tabled_head_by terms.Null us ts e = refl
tabled_head_by (terms.Function g) us ts e = ap heads.Function e
tabled_head_by (terms.Constructor c) us ts e = ap heads.Constructor e
tabled_head_by terms.Plus us ts e = refl
tabled_head_by (terms.Symbol k x) us ts e = ap (opaque k) e
tabled_head_by (terms.Fixpoint k f) us ts e = ap (opaque k) e
tabled_head_by (terms.Claims f) us ts e = ap (opaque Other) e
tabled_head_by (terms.Predicate p) us ts e = ap (opaque Other) e
tabled_head_by (terms.Share x) us ts e = ap (opaque Other) e
tabled_head_by (terms.Sum factors) us ts e = ap (opaque Integer) e
tabled_head_by (terms.Arithmetic op) us ts e = ap (opaque Integer) e
tabled_head_by (terms.Compare op) us ts e = ap (opaque Other) e
tabled_head_by terms.Not us ts e = ap (opaque Other) e
tabled_head_by terms.And us ts e = ap (opaque Other) e
tabled_head_by terms.Or us ts e = ap (opaque Other) e
tabled_head_by (terms.Choose k) us ts e = ap (opaque k) e
tabled_head_by terms.PointerSum us ts e = ap (opaque Other) e

-- each part of a row stands in the list
abbrev pub HasRow : List Term → Terms → Type 0
HasRow ts ps = (p : Term) (i : ℕ) → IsAt p i ps → Has ts p

pub places_stay : (ts us : List Term) (ps : Terms) → HasRow ts ps → places (ts ++ us) ps ≡ places ts ps
places_stay ts us no_terms h = refl
places_stay ts us (and_term p ps) h = ap₂ (λ n ns. n ∷ ns) (place_stays p ts us (h p 0 here)) (places_stay ts us ps (λ q i a. h q (suc i) (further_on a)))

pub tabled_stays : (ts us : List Term) (h : terms.Head) (ps : Terms) → Has ts (term h ps) → HasRow ts ps → tabled (ts ++ us) (term h ps) ≡ tabled ts (term h ps)
tabled_stays ts us h ps k r = ap₂ (λ (a : Head) (b : List ℕ). (a, b)) (tabled_head_by h (ts ++ us) ts (head_stays h ps ts us k)) (places_stay ts us ps r)

-- with each term its parts
pub closed_row : (ts : List Term) → AreClosed ts → (h : terms.Head) (ps : Terms) → Has ts (term h ps) → HasRow ts ps
closed_row ts c h ps k p i a = contains_has ts p (c h ps p i (has_contains ts (term h ps) k) a)

tabled_each : (ts us vs : List Term) → AreClosed ts → ((t : Term) → Has vs t → Has ts t) → map (tabled (ts ++ us)) vs ≡ map (tabled ts) vs
tabled_each ts us [] c h = refl
tabled_each ts us (term g ps ∷ vs) c h = ap₂ (λ x xs. x ∷ xs) (tabled_stays ts us g ps (h (term g ps) (inl refl)) (closed_row ts c g ps (h (term g ps) (inl refl)))) (tabled_each ts us vs c (λ t k. h t (inr k)))

-- the entries of a new term come behind those that there are
pub tabled_more : (ts : List Term) (h : terms.Head) (ps : Terms) → AreClosed ts → HasRow ts ps → map (tabled (ts ++ term h ps ∷ [])) (ts ++ term h ps ∷ []) ≡ map (tabled ts) ts ++ (tabled_head ts h, places ts ps) ∷ []
tabled_more ts h ps c r =
    map-append (tabled (ts ++ term h ps ∷ [])) ts (term h ps ∷ [])
    ∙ ap₂ (λ xs x. xs ++ x ∷ []) (tabled_each ts (term h ps ∷ []) ts c (λ t k. k))
    (ap₂ (λ (a : Head) (b : List ℕ). (a, b)) (tabled_head_by h (ts ++ term h ps ∷ []) ts (head_new h ps ts)) (places_stay ts (term h ps ∷ []) ps r))
