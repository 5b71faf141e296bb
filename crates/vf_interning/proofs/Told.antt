-- A node tells which term it is, and terms that are there change nothing.
use Rattle.std.proofs.Common.{◌≡◌, ◌≤◌, ◌<◌, ◌+◌, ◌⊎◌, inl, inr, ℕ, suc, Bool, true, false, cond, List, [], ◌∷◌, length, map, get_or, refl, sym, ap, ap₂, ◌∙◌, subst, arith}
use Rattle.std.specs.Prelude.{pos, Some, slice_get}
use Rattle.std.proofs.Common.{add-one}
use Rattle.std.specs.Ordering.{is_eq}
use Rattle.std.proofs.lemmas.Bool.{false≢true}
use Rattle.vf_table.specs.declared.node.Head.{Head}
use Rattle.vf_table.specs.declared.node.Head.TheVariants as heads
use Rattle.vf_table.specs.declared.node.Node.{Node}
use Rattle.vf_closure.specs.Terms as terms
use Rattle.vf_closure.specs.Terms.{Kind, Integer, Other, Term, Terms, term, no_terms, and_term, number, IsAt, here, further_on}
use Rattle.vf_normal.specs.Order.{compare_heads}
use Rattle.vf_reading.specs.Reading.{in_row}
use Rattle.vf_question.specs.Numbered.{with_one, with_term, with_row}
use Rattle.vf_question.specs.Tabled.{head_place, opaque, tabled_head, places, tabled, entries}
use Rattle.vf_question.specs.Questions.{at}
use Rattle.vf_question.proofs.Has.{Has, has_place, has_at}
use Rattle.vf_question.proofs.Places.{with_one_there}
use Rattle.vf_question.proofs.Read.{head_of, head_told, head_is, at_head, head_meant, meant, places_read, node_of, row_of_all}
use Rattle.vf_interning.specs.Interned.{AreClosed}
use Rattle.vf_interning.proofs.Stable.{HasRow, closed_row}

-- ---- terms that are there
mutual
  pub term_there : (ts : List Term) → AreClosed ts → (t : Term) → Has ts t → with_term t ts ≡ ts
  term_there ts c (term h ps) k = ap (with_one (term h ps)) (row_there ts c ps (closed_row ts c h ps k)) ∙ sym (with_one_there (term h ps) ts (has_place (term h ps) ts k))

  pub row_there : (ts : List Term) → AreClosed ts → (ps : Terms) → HasRow ts ps → with_row ps ts ≡ ts
  row_there ts c no_terms r = refl
  row_there ts c (and_term p ps) r = ap (with_row ps) (term_there ts c p (r p 0 here)) ∙ row_there ts c ps (λ q i a. r q (suc i) (further_on a))

-- ---- heads that are told apart

-- the number that a head of the table has
abbrev number_of : Head → ℕ
number_of (heads.Number z) = 0
number_of (heads.Truth b) = 0
number_of heads.Null = 0
number_of (heads.Function n) = n
number_of (heads.Constructor n) = n
number_of heads.Plus = 0
number_of (heads.Integer n) = n
number_of (heads.Other n) = n

opaque_number : (k : Kind) (n : ℕ) → number_of (opaque k n) ≡ n
opaque_number Integer n = refl
opaque_number Other n = refl

-- a head is known by itself, or by the place of the first term that has it
abbrev IsKnown : terms.Head → List Term → Type 0
IsKnown h ts = ((meant ts (tabled_head ts h) ≡ h) × (number_of (tabled_head ts h) ≡ 0)) ⊎ (number_of (tabled_head ts h) ≡ head_place h ts)

known : (h : terms.Head) (ts : List Term) → IsKnown h ts
known (terms.Number z) ts = inl (refl, refl)
known (terms.Truth b) ts = inl (refl, refl)
known terms.Null ts = inl (refl, refl)
known (terms.Function g) ts = inr refl
known (terms.Constructor c) ts = inr refl
known terms.Plus ts = inl (refl, refl)
known (terms.Symbol k x) ts = inr (opaque_number k (head_place (terms.Symbol k x) ts))
known (terms.Fixpoint k f) ts = inr (opaque_number k (head_place (terms.Fixpoint k f) ts))
known (terms.Claims f) ts = inr refl
known (terms.Predicate p) ts = inr refl
known (terms.Share x) ts = inr refl
known (terms.Sum factors) ts = inr refl
known (terms.Arithmetic op) ts = inr refl
known (terms.Compare op) ts = inr refl
known terms.Not ts = inr refl
known terms.And ts = inr refl
known terms.Or ts = inr refl
known (terms.Choose k) ts = inr (opaque_number k (head_place (terms.Choose k) ts))
known terms.PointerSum ts = inr refl

next : {A : Type 0} (x d : A) (xs : List A) (n : ℕ) → get_or (x ∷ xs) (n + 1) d ≡ get_or xs n d
next x d xs n = rw add-one refl

within_case : (b : Bool) (h g : terms.Head) (qs : Terms) (us : List Term) → is_eq (compare_heads g h) ≡ b → (head_place h us < length us → head_of (at us (head_place h us)) ≡ h)
    → cond b 0 (head_place h us + 1) < length (term g qs ∷ us) → head_of (at (term g qs ∷ us) (cond b 0 (head_place h us + 1))) ≡ h
within_case true h g qs us e r l = head_told g h e
within_case false h g qs us e r l = ap head_of (next (term g qs) (number (pos 0)) us (head_place h us)) ∙ r (omega arith)

-- the term at the place of a head has it
head_within : (h : terms.Head) (ts : List Term) → head_place h ts < length ts → head_of (at ts (head_place h ts)) ≡ h
head_within h [] l = absurd (omega arith)
head_within h (term g qs ∷ us) l = within_case (is_eq (compare_heads g h)) h g qs us refl (head_within h us) l

head_below : (h : terms.Head) (ps : Terms) (ts : List Term) → Has ts (term h ps) → head_place h ts < length ts
head_below h ps [] k = absurd k
head_below h ps (term g qs ∷ us) (inl e) = let r = first (is_eq (compare_heads g h)) (head_place h us + 1) (head_is g h (ap head_of e)) in omega (arith, r)
  where
    first : (b : Bool) (n : ℕ) → b ≡ true → cond b 0 n ≡ 0
    first true n e = refl
    first false n e = absurd (false≢true e)
head_below h ps (term g qs ∷ us) (inr k) = let r = head_below h ps us k in omega (arith, later (is_eq (compare_heads g h)) (head_place h us))
  where
    later : (b : Bool) (n : ℕ) → cond b 0 (n + 1) ≤ n + 1
    later true n = omega arith
    later false n = omega arith

not_empty : (ts : List Term) (t : Term) → Has ts t → 0 < length ts
not_empty [] t h = absurd h
not_empty (u ∷ us) t h = omega arith

number_below : (h : terms.Head) (ps : Terms) (ts : List Term) → Has ts (term h ps) → IsKnown h ts → number_of (tabled_head ts h) < length ts
number_below h ps ts k (inl e) = let n = not_empty ts (term h ps) k in omega (arith, e.1)
number_below h ps ts k (inr e) = let n = head_below h ps ts k in omega (arith, e)

head_by : (g h : terms.Head) (ps : Terms) (ts : List Term) → Has ts (term h ps) → tabled_head ts g ≡ tabled_head ts h → IsKnown g ts → meant ts (tabled_head ts g) ≡ g
head_by g h ps ts k e (inl m) = m.0
head_by g h ps ts k e (inr n) = let b = number_below h ps ts k (known h ts) in head_meant g ts (head_within g ts (let f : number_of (tabled_head ts g) ≡ number_of (tabled_head ts h) = ap number_of e in omega (arith, n)))

-- heads with one head in the table are one, where a term has one of them
head_one : (g h : terms.Head) (ps : Terms) (ts : List Term) → Has ts (term h ps) → tabled_head ts g ≡ tabled_head ts h → g ≡ h
head_one g h ps ts k e = sym (head_by g h ps ts k e (known g ts)) ∙ ap (meant ts) e ∙ head_meant h ts (at_head h ps ts k)

row_one : (ts : List Term) (ps qs : Terms) → HasRow ts ps → HasRow ts qs → places ts ps ≡ places ts qs → ps ≡ qs
row_one ts ps qs h k e = sym (places_read ts ps h) ∙ ap (in_row (at ts)) e ∙ places_read ts qs k

-- a node that has the entries of a term is that term's
pub told : (ts : List Term) (nodes : List Node) → map entries nodes ≡ map (tabled ts) ts → AreClosed ts → (a : ℕ) (m : Node) → slice_get nodes a ≡ Some m → (h : terms.Head) (ps : Terms) → HasRow ts ps → m.head ≡ tabled_head ts h → m.parts.items ≡ places ts ps → Has ts (term h ps)
told ts nodes same c a m s h ps r eh ep =
    let at_a = row_of_all entries (tabled ts) nodes ts a m (number (pos 0)) same s in
    let o = node_of ts (at ts a) m at_a.1 in
    let k : Has ts (term o.top o.row) = subst (Has ts) o.whole (has_at (number (pos 0)) ts a at_a.0) in
    let heads_are : h ≡ o.top = head_one h o.top o.row ts k (sym eh ∙ o.head) in
    let rows_are : ps ≡ o.row = row_one ts ps o.row r (closed_row ts c o.top o.row k) (sym ep ∙ o.parts) in
    subst (Has ts) (sym (ap₂ term heads_are rows_are)) k
