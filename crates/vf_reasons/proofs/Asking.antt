-- Questions over a basis, and what they tell.
use Rattle.std.proofs.Common.{◌≡◌, ◌≤◌, ◌<◌, ◌+◌, ◌⊎◌, inl, inr, ℕ, zero, suc, List, [], ◌∷◌, ◌++◌, length, map, Option, Some, None, refl, sym, ap, ap₂, ◌∙◌, subst, arith, append-nil}
use Rattle.std.specs.Prelude.{MatchOption, pos, Contains, slice_get}
use Rattle.vf_table.specs.declared.node.Head.{Head}
use Rattle.vf_table.specs.declared.node.Node.{Node}
use Rattle.vf_refute.specs.declared.steps.Fact.{Fact}
use Rattle.vf_refute.specs.declared.steps.Fact.TheVariants as facts_
use Rattle.vf_refute.specs.declared.steps.Derived.{Derived}
use Rattle.vf_refute.specs.declared.steps.Derived.TheVariants.{AreEqual, AreWithin, HaveDifference}
use Rattle.vf_refute.specs.declared.steps.Step.{Step}
use Rattle.vf_refute.specs.declared.steps.Step.TheVariants as steps_
use Rattle.vf_refute.specs.Refutations.{HasDerived, CannotBe, IsConflict, Refute, IsRefutation}
use Rattle.vf_refute.specs.Closure as over_table
use Rattle.vf_reading.specs.Reading.{ClosuresAgree}
use Rattle.vf_log.specs.Copies.{IsCopy, HaveSameTerms}
use Rattle.vf_closure.specs.Terms.{Term, number}
use Rattle.vf_closure.specs.Literals.{Literal, NotEqual, compares}
use Rattle.vf_closure.specs.Closure.{no_unfoldings, Same, Conflict, denied_equality}
use Rattle.vf_question.specs.Numbered.{place, with_all, all_terms}
use Rattle.vf_question.specs.Tabled.{entries, tabled, tabled_fact}
use Rattle.vf_question.specs.Questions.{at, IsQuestion}
use Rattle.vf_question.specs.declared.question.Question.{Question}
use Rattle.vf_question.specs.declared.unfolding.Unfolding.{Unfolding}
use Rattle.vf_question.specs.Unfolded.{equations}
use Rattle.vf_question.proofs.Has.{Has, contains_has, has_contains, has_at, place_at}
use Rattle.vf_question.proofs.Asked.{terms_once}
use Rattle.vf_question.proofs.Plainness.{leaves}
use Rattle.vf_question.proofs.Read.{is_question}
use Rattle.vf_question.proofs.Bounded.{agree}
use Rattle.vf_interning.proofs.Meaning.{gathered_more, numbers_more, plain_more, last_there}
use Rattle.vf_interning.proofs.Told.{term_there}
use Rattle.vf_unfolding.specs.Rounds.{zero_is_zero, IsCovered}
use Rattle.vf_unfolding.proofs.Covering.{same_over, conflict_over}
use Rattle.vf_recheck.specs.Refutations.{facts_over}
use Rattle.vf_recheck.proofs.Alike.{derives_alike, conflict_alike}
use Rattle.vf_reasons.specs.declared.basis.Basis.{Basis}
use Rattle.vf_reasons.specs.declared.draft.Draft.{Draft}
use Rattle.vf_reasons.specs.declared.equalities.Found.{Found}
use Rattle.vf_reasons.specs.Drafts.{with_equations, IsBasis, IsOver, IsFound, IsFoundBy, by_denial, without}
use Rattle.vf_reasons.specs.Shifts.{AreDenials}
use Rattle.vf_reasons.proofs.Lists.{where_is, get_left, has_split, has_left, has_right, has_here}
use Rattle.vf_reasons.proofs.Based.{gathered_with, plain_with_equations, plain_term}

-- ---- copies of a table
copied : (n c : Node) → IsCopy n c → entries c ≡ entries n
copied n c h = ap₂ (λ (a : Head) (b : List ℕ). (a, b)) h.head h.parts

pub same_entries : (nodes copies : List Node) → HaveSameTerms nodes copies → map entries copies ≡ map entries nodes
same_entries [] [] h = refl
same_entries [] (c ∷ cs) h = absurd (let l = h.long in omega (arith, l))
same_entries (n ∷ ns) [] h = absurd (let l = h.long in omega (arith, l))
same_entries (n ∷ ns) (c ∷ cs) h =
    let k = h.each 0 n refl in
    let e : c ≡ k.0 = let p = k.1 in cc in
    ap₂ (λ (x : Head × List ℕ) (xs : List (Head × List ℕ)). x ∷ xs) (ap entries e ∙ copied n k.0 k.2) (same_entries ns cs (record { long = let l = h.long in omega (arith, l); each = λ a m s. h.each (suc a) m s }))

refute_alike : (nodes others : List Node) → map entries nodes ≡ map entries others → (facts : List Fact) (known : List Derived) (steps : List Step) → Refute nodes facts known steps → Refute others facts known steps
refute_alike nodes others same facts known [] r = r
refute_alike nodes others same facts known (last ∷ []) r = conflict_alike nodes others same facts known last r
refute_alike nodes others same facts known (step ∷ next ∷ more) r = (r.0, derives_alike nodes others same facts known step r.0 r.1, r.2, refute_alike nodes others same facts (known ++ r.0 ∷ []) (next ∷ more) r.3)

-- a refutation over a copy of a table is one over the table
pub refutes_too : (nodes copies : List Node) (facts copied_facts : List Fact) (steps : List Step) → HaveSameTerms nodes copies → copied_facts ≡ facts → Refute copies copied_facts [] steps → Refute nodes facts [] steps
refutes_too nodes copies facts copied_facts steps h e r = subst (λ (fs : List Fact). Refute nodes fs [] steps) e (refute_alike copies nodes (same_entries nodes copies h) copied_facts [] steps r)

-- copies of a table and of facts over it are a question
pub copies_are : (ls : List Literal) (nodes : List Node) (ts : List Term) (facts : List Fact) (q : Question) → IsOver ls nodes ts facts → HaveSameTerms nodes q.nodes.items → q.facts.items ≡ facts → IsQuestion ls q
copies_are ls nodes ts facts q is same e =
    is_question ls q (leaves ls is.plain) (same_entries nodes q.nodes.items same ∙ subst (λ (vs : List Term). map entries nodes ≡ map (tabled vs) vs) is.gathered is.table.tabled) (e ∙ is.numbers ∙ ap (λ (vs : List Term). map (tabled_fact vs) ls) is.gathered)

-- what the refutation of copies tells
pub told : {V : Type 0} (items : V → List Step) (basis : Basis) (facts : List Fact) (q : Question) (o : Option V) → ClosuresAgree → HaveSameTerms basis.nodes.items q.nodes.items → q.facts.items ≡ facts → MatchOption o (over_table.Conflict q.nodes.items q.facts.items → ⊥) (λ v. IsRefutation q.nodes.items q.facts.items (items v))
    → MatchOption o ((ls : List Literal) → IsOver ls basis.nodes.items basis.terms.items facts → Conflict no_unfoldings ls → ⊥) (λ v. IsRefutation basis.nodes.items facts (items v))
told items basis facts q None law same e h = λ ls is k. h ((agree ls q (copies_are ls basis.nodes.items basis.terms.items facts q is same e) law).1 k)
told items basis facts q (Some v) law same e h = refutes_too basis.nodes.items q.nodes.items facts q.facts.items (items v) same e h

-- ---- the literals of a basis, and one denial more
covers_front : (ls ms : List Literal) (l : Literal) → Contains ls l → IsCovered (ls ++ ms) l
covers_front ls ms l c = inl (has_contains (ls ++ ms) l (has_left ls ms l (contains_has ls l c)))

module _ (ls : List Literal) (made : List Unfolding) (basis : Basis) (is : IsBasis ls made basis) where
  abbrev LS : List Literal
  LS = with_equations ls made

  abbrev TS : List Term
  TS = basis.terms.items

  pub basis_over : IsOver LS basis.nodes.items TS basis.facts.items
  basis_over = record {
    table = is.interned.table;
    gathered = gathered_with ls made basis is;
    numbers = is.interned.numbers ∙ ap (map (tabled_fact TS)) is.means;
    plain = plain_with_equations ls made basis is;
  }

  zero_in : Contains LS zero_is_zero
  zero_in = has_contains LS zero_is_zero (has_right ls (zero_is_zero ∷ equations made) zero_is_zero (inl refl))

  pub conflict_in : Conflict no_unfoldings (ls ++ equations made) → Conflict no_unfoldings LS
  conflict_in = conflict_over (ls ++ equations made) LS (λ l c. elim (has_split ls (equations made) l (contains_has (ls ++ equations made) l c)) [
    | inl k ↦ inl (has_contains LS l (has_left ls (zero_is_zero ∷ equations made) l k))
    | inr k ↦ inl (has_contains LS l (has_right ls (zero_is_zero ∷ equations made) l (inr k)))
  ])

  pub same_in : (s t : Term) → Same no_unfoldings (ls ++ equations made) s t → Same no_unfoldings LS s t
  same_in s t = same_over (ls ++ equations made) LS (λ l c. elim (has_split ls (equations made) l (contains_has (ls ++ equations made) l c)) [
    | inl k ↦ inl (has_contains LS l (has_left ls (zero_is_zero ∷ equations made) l k))
    | inr k ↦ inl (has_contains LS l (has_right ls (zero_is_zero ∷ equations made) l (inr k)))
  ])

  module _ (x y : ℕ) (xl : x < length TS) (yl : y < length TS) where
    abbrev denial : Literal
    denial = NotEqual (at TS x) (at TS y)

    there_x : Has TS (at TS x)
    there_x = has_at (number (pos 0)) TS x xl

    there_y : Has TS (at TS y)
    there_y = has_at (number (pos 0)) TS y yl

    placed : (z : ℕ) → z < length TS → place (at TS z) TS ≡ z
    placed z l = subst (λ (vs : List Term). z < length vs → place (at vs z) vs ≡ z) (sym (gathered_with ls made basis is)) (λ k. place_at (number (pos 0)) (all_terms LS) z (terms_once LS) k) l

    nothing_new : TS ≡ with_all (compares denial) TS
    nothing_new = sym (ap (λ (vs : List Term). with_all (at TS y ∷ []) vs) (term_there TS is.interned.table.closed (at TS x) there_x) ∙ term_there TS is.interned.table.closed (at TS y) there_y)

    pub denial_over : (facts : List Fact) → facts ≡ basis.facts.items ++ facts_.NotEqual x y ∷ [] → IsOver (LS ++ denial ∷ []) basis.nodes.items TS facts
    denial_over facts e = record {
      table = is.interned.table;
      gathered = gathered_more LS denial TS TS zero_in (gathered_with ls made basis is) nothing_new;
      numbers = e ∙ numbers_more basis.facts.items LS denial (facts_.NotEqual x y) TS [] TS (gathered_with ls made basis is) (is.interned.numbers ∙ ap (map (tabled_fact TS)) is.means) (sym (append-nil TS)) (sym (ap₂ facts_.NotEqual (placed x xl) (placed y yl)));
      plain = plain_more LS denial (plain_with_equations ls made basis is) (plain_term ls made basis is (at TS x) there_x, plain_term ls made basis is (at TS y) there_y);
    }

    pub denial_conflicts : Same no_unfoldings LS (at TS x) (at TS y) → Conflict no_unfoldings (LS ++ denial ∷ [])
    denial_conflicts s = denied_equality (last_there LS denial) (same_over LS (LS ++ denial ∷ []) (covers_front LS (denial ∷ [])) s)

-- ---- denials
pub no_denial : AreDenials []
no_denial k d l = absurd (omega arith)

pub one_denial : (x y : ℕ) → AreDenials (facts_.NotEqual x y ∷ [])
one_denial x y zero d l = tt
one_denial x y (suc k) d l = absurd (omega arith)

-- ---- what a last step names beside a denial
module _ (nodes : List Node) (facts : List Fact) (known : List Derived) (x y : ℕ) where
  abbrev beside : List Fact
  beside = facts ++ facts_.NotEqual x y ∷ []

  kept_fact : (f : Fact) → (facts_.NotEqual x y ≡ f → ⊥) → Contains beside f → Contains facts f
  kept_fact f never c = elim (has_split facts (facts_.NotEqual x y ∷ []) f (contains_has beside f c)) [
    | inl k ↦ has_contains facts f k
    | inr k ↦ elim k [ inl e ↦ absurd (never e) | inr q ↦ absurd q ]
  ]

  cannot_without : (d : Derived) → (d ≡ AreEqual x y → ⊥) → CannotBe nodes beside d → CannotBe nodes facts d
  cannot_without (AreEqual p q) never h = elim h [ inl k ↦ inl k | inr k ↦ inr (kept_fact (facts_.NotEqual p q) (λ e. never (let f : x ≡ p = cc in let g : y ≡ q = cc in ap₂ AreEqual (sym f) (sym g))) k) ]
  cannot_without (AreWithin p q c) never h = h
  cannot_without (HaveDifference p q c) never h = absurd h

  false_without : (i : ℕ) → slice_get beside i ≡ Some facts_.False → (i < length facts) ⊎ (i ≡ length facts) ⊎ ((k : ℕ) × (i ≡ length facts + 1 + k)) → slice_get facts i ≡ Some facts_.False
  false_without i h (inl l) = sym (get_left facts (facts_.NotEqual x y ∷ []) i l) ∙ h
  false_without i h (inr r) = absurd (not_denial (kept_fact facts_.False (λ e. cc) (has_contains beside facts_.False (has_here beside i facts_.False h))) r)
    where
      past : (xs : List Fact) (f g : Fact) (k : ℕ) → slice_get (xs ++ f ∷ []) k ≡ Some g → (length xs ≤ k) → f ≡ g
      past [] f g zero q l = cc
      past [] f g (suc k) q l = cc
      past (z ∷ xs) f g zero q l = absurd (omega (arith, l))
      past (z ∷ xs) f g (suc k) q l = past xs f g k q (omega (arith, l))

      not_denial : Contains facts facts_.False → (i ≡ length facts) ⊎ ((k : ℕ) × (i ≡ length facts + 1 + k)) → ⊥
      not_denial c (inl e) = let p = past facts (facts_.NotEqual x y) facts_.False i h (omega (arith, e)) in cc
      not_denial c (inr k) = let p = past facts (facts_.NotEqual x y) facts_.False i h (omega (arith, k.1)) in cc

  pub ends_without : (last : Step) → ((a : ℕ) → last ≡ steps_.Conflict a → HasDerived known a (AreEqual x y) → ⊥) → IsConflict nodes beside known last → IsConflict nodes facts known last
  ends_without (steps_.Conflict a) never h = record { derived = h.derived; has = h.has; cannot = cannot_without h.derived (λ e. never a refl (subst (HasDerived known a) e h.has)) h.cannot }
  ends_without (steps_.DeniedDifference a b) never h = record { x = h.x; y = h.y; c = h.c; above = h.above; below = h.below; denied = kept_fact (facts_.NotDifference h.x h.y h.c) (λ e. cc) h.denied }
  ends_without (steps_.Falsehood i) never h = false_without i h (where_is i (length facts))
  ends_without (steps_.Fact i) never h = absurd h
  ends_without (steps_.Reflexive t) never h = absurd h
  ends_without (steps_.Symmetric a) never h = absurd h
  ends_without (steps_.Transitive a b) never h = absurd h
  ends_without (steps_.Congruent a b steps) never h = absurd h
  ends_without (steps_.Part a i) never h = absurd h
  ends_without (steps_.Above a o) never h = absurd h
  ends_without (steps_.Below a o) never h = absurd h
  ends_without (steps_.LevelAbove a) never h = absurd h
  ends_without (steps_.LevelBelow a) never h = absurd h
  ends_without (steps_.Chain a b) never h = absurd h
  ends_without (steps_.Squeezed a b) never h = absurd h

pub found_is : (ls : List Literal) (basis : Basis) (draft : Draft) (x y : ℕ) (last : Step) (f : Found) → IsConflict basis.nodes.items (facts_over ls ++ facts_.NotEqual x y ∷ []) draft.known.items last → IsFoundBy draft.known.items last x y f → IsFound ls basis draft x y f
found_is ls basis draft x y last f h (by_denial e k) = k
found_is ls basis draft x y last f h (without never) = ends_without basis.nodes.items (facts_over ls) draft.known.items x y last never h
