-- A table with one term more.
use Rattle.std.proofs.Common.{◌≡◌, ◌≤◌, ◌<◌, ◌+◌, ◌⊎◌, inl, inr, ℕ, zero, suc, List, [], ◌∷◌, ◌++◌, length, map, sym, ap, ap₂, ◌∙◌, subst, arith}
use Rattle.std.specs.Prelude.{ℤ, All}
use Rattle.std.proofs.lemmas.List.{map-append, length-map, length_push}
use Rattle.vf_table.specs.declared.node.Head.{Head}
use Rattle.vf_table.specs.declared.node.Head.TheVariants as heads
use Rattle.vf_table.specs.declared.node.Node.{Node}
use Rattle.vf_growing.specs.Steps.{IsTermOf}
use Rattle.vf_ground.specs.Held.{HasSmallNumber}
use Rattle.vf_closure.specs.Terms as terms
use Rattle.vf_closure.specs.Terms.{Kind, Integer, Other, Term, Terms, term, no_terms, and_term, number, IsAt, here, further_on}
use Rattle.vf_question.specs.Numbered.{place}
use Rattle.vf_question.specs.Tabled.{opaque, tabled_head, places, tabled, entries}
use Rattle.vf_question.specs.Plain.{IsPlain, IsPlainOver}
use Rattle.vf_question.proofs.Has.{Has, contains_has, has_contains, has_place, has_before}
use Rattle.vf_interning.specs.Interned.{AreClosed, HasParts, parts_of, IsTermTable}
use Rattle.vf_interning.specs.declared.numbering.TheConstants.{MOST_ARISING}
use Rattle.vf_interning.proofs.Stable.{HasRow, tabled_more}
use Rattle.vf_interning.proofs.Told.{told}

pub as_many : (nodes : List Node) (ts : List Term) → IsTermTable nodes ts → length nodes ≡ length ts
as_many nodes ts is = sym (length-map nodes entries) ∙ ap length is.tabled ∙ length-map ts (tabled ts)

pub row_of : (ts : List Term) (h : terms.Head) (ps : Terms) → HasParts ts (term h ps) → HasRow ts ps
row_of ts h ps c p i a = contains_has ts p (c p i a)

pub split : (ts : List Term) (t u : Term) → Has (ts ++ t ∷ []) u → Has ts u ⊎ (t ≡ u)
split [] t u (inl e) = inr e
split [] t u (inr h) = absurd h
split (v ∷ vs) t u (inl e) = inl (inl e)
split (v ∷ vs) t u (inr h) = elim (split vs t u h) [ inl k ↦ inl (inr k) | inr e ↦ inr e ]

parts_same : (ts : List Term) (h g : terms.Head) (ps qs : Terms) → term h ps ≡ term g qs → HasRow ts ps → HasRow ts qs
parts_same ts h g ps qs e r = subst (HasRow ts) (let k : ps ≡ qs = ap parts_of e in k) r

closed_more : (ts : List Term) (h : terms.Head) (ps : Terms) → AreClosed ts → HasRow ts ps → AreClosed (ts ++ term h ps ∷ [])
closed_more ts h ps c r g qs p i k a = has_contains (ts ++ term h ps ∷ []) p (has_before ts (term h ps ∷ []) p (elim (split ts (term h ps) (term g qs) (contains_has (ts ++ term h ps ∷ []) (term g qs) k)) [
  | inl j ↦ contains_has ts p (c g qs p i (has_contains ts (term g qs) j) a)
  | inr e ↦ parts_same ts h g ps qs e r p i a
]))

places_within : (ts : List Term) (ps : Terms) → HasRow ts ps → (n : ℕ) → length ts ≡ n → All (λ (k : ℕ). k < n) (places ts ps)
places_within ts no_terms r n e k d l = absurd (omega arith)
places_within ts (and_term p ps) r n e zero d l = let h = has_place p ts (r p 0 here) in omega arith
places_within ts (and_term p ps) r n e (suc k) d l = places_within ts ps (λ q i a. r q (suc i) (further_on a)) n e k d (omega arith)

-- the numbers of the parts are below that of the terms
pub parts_within : (nodes : List Node) (ts : List Term) (h : terms.Head) (ps : Terms) (parts : List ℕ) → IsTermTable nodes ts → HasRow ts ps → parts ≡ places ts ps → All (λ (k : ℕ). k < length nodes) parts
parts_within nodes ts h ps parts is r e = subst (All (λ (k : ℕ). k < length nodes)) (sym e) (places_within ts ps r (length nodes) (sym (as_many nodes ts is)))

-- one term more, whose parts are there
pub table_more : (nodes nodes' : List Node) (ts : List Term) (h : terms.Head) (ps : Terms) (m : Node) → IsTermTable nodes ts → HasRow ts ps → nodes' ≡ nodes ++ m ∷ [] → m.head ≡ tabled_head ts h → m.parts.items ≡ places ts ps → length ts + 1 ≤ MOST_ARISING → IsTermTable nodes' (ts ++ term h ps ∷ [])
table_more nodes nodes' ts h ps m is r n eh ep few = record {
  tabled = ap (map entries) n ∙ map-append entries nodes (m ∷ []) ∙ ap₂ (λ xs x. xs ++ x ∷ []) is.tabled (ap₂ (λ (a : Head) (b : List ℕ). (a, b)) eh ep) ∙ sym (tabled_more ts h ps is.closed r);
  closed = closed_more ts h ps is.closed r;
  few = omega (arith, length_push ts (term h ps));
}

-- a term that is not there has no node
pub no_node : (nodes : List Node) (ts : List Term) (h : terms.Head) (ps : Terms) (m : Node) → IsTermTable nodes ts → HasRow ts ps → m.head ≡ tabled_head ts h → m.parts.items ≡ places ts ps → length ts ≤ place (term h ps) ts → (k : ℕ) → IsTermOf nodes k m → ⊥
no_node nodes ts h ps m is r eh ep new k t =
    let here = told ts nodes is.tabled is.closed k t.kept t.found h ps r (sym t.same.head ∙ eh) (sym t.same.parts ∙ ep) in
    let l = has_place (term h ps) ts here in omega arith

not_number : (k : Kind) (n : ℕ) (c : ℤ) → opaque k n ≡ heads.Number c → ⊥
not_number Integer n c e = cc
not_number Other n c e = cc

number_head : (h : terms.Head) (ts : List Term) (c : ℤ) → tabled_head ts h ≡ heads.Number c → h ≡ terms.Number c
number_head (terms.Number z) ts c e = let k : z ≡ c = cc in ap terms.Number k
number_head (terms.Truth b) ts c e = cc
number_head terms.Null ts c e = cc
number_head (terms.Function g) ts c e = cc
number_head (terms.Constructor d) ts c e = cc
number_head terms.Plus ts c e = cc
number_head (terms.Symbol k x) ts c e = absurd (not_number k _ c e)
number_head (terms.Fixpoint k f) ts c e = absurd (not_number k _ c e)
number_head (terms.Claims f) ts c e = cc
number_head (terms.Predicate p) ts c e = cc
number_head (terms.Share x) ts c e = cc
number_head (terms.Sum factors) ts c e = cc
number_head (terms.Arithmetic op) ts c e = cc
number_head (terms.Compare op) ts c e = cc
number_head terms.Not ts c e = cc
number_head terms.And ts c e = cc
number_head terms.Or ts c e = cc
number_head (terms.Choose k) ts c e = absurd (not_number k _ c e)
number_head terms.PointerSum ts c e = cc

-- the number of a plain term is small
pub small_node : (ts : List Term) (h : terms.Head) (ps : Terms) (m : Node) → IsPlain (term h ps) → m.head ≡ tabled_head ts h → HasSmallNumber m
small_node ts h ps m plain eh c e = let P : terms.Head → Type 0 = λ g. IsPlainOver g ps in (subst P (number_head h ts c (sym eh ∙ e)) plain.0).1
