-- Lemmas none of which reaches itself can be put in the order of their calls: each is put behind those of the others that it reaches.
use Rattle.std.specs.Prelude.{Contains}
use Rattle.std.proofs.Common.{◌≡◌, ◌⊎◌, Bool, true, false, not, cond, ◌&&◌, ◌||◌, List, [], ◌∷◌, ◌++◌, refl, sym, subst, ◌∙◌, inl, inr}
use Rattle.std.proofs.lemmas.Bool.{or_cases, false≢true}
use Rattle.vf_tree.specs.Core.{Identity}
use Rattle.vf_model.specs.Values.{same_identity}
use Rattle.vf_model.proofs.Equality.{identities_told}
use Rattle.vf_meaning.specs.Assertions.{BodyOf, Environment}
use Rattle.vf_linked.proofs.Members.{empty, either_in, first_in, later_in, apart_in, left_in, right_in}
use Rattle.vf_linked.specs.CallOrder.{CallsOther, Reaches, by_call, through, IsCallOrder, CallsAreOrdered}

-- ---- truth values
or_left : (a b : Bool) → a ≡ true → (a || b) ≡ true
or_left true b h = refl
or_left false b h = absurd (false≢true h)

or_right : (a b : Bool) → b ≡ true → (a || b) ≡ true
or_right true b h = refl
or_right false b h = h

both_true : (a b : Bool) → (a && b) ≡ true → (a ≡ true) × (b ≡ true)
both_true true b h = (refl, h)
both_true false b h = absurd (false≢true h)

and_true : (a b : Bool) → a ≡ true → b ≡ true → (a && b) ≡ true
and_true true b h k = k
and_true false b h k = absurd (false≢true h)

not_true : (b : Bool) → not b ≡ true → b ≡ true → ⊥
not_true true h k = false≢true h
not_true false h k = false≢true k

not_false : (b : Bool) → (b ≡ true → ⊥) → not b ≡ true
not_false true h = absurd (h refl)
not_false false h = refl

module _ (e : Environment) where
  -- ---- calls as a test
  calls_other : Identity → Identity → Bool
  calls_other caller callee = e.calls (BodyOf caller) callee && not (same_identity callee caller)

  calls_by : (caller callee : Identity) → calls_other caller callee ≡ true → CallsOther e caller callee
  unfolding calls_other
  calls_by caller callee h =
      let each = both_true (e.calls (BodyOf caller) callee) (not (same_identity callee caller)) h in
      record { calls = each.0; other = λ same. not_true (same_identity callee caller) each.1 ((identities_told callee caller).1 same) }

  by_calls : (caller callee : Identity) → CallsOther e caller callee → calls_other caller callee ≡ true
  unfolding calls_other
  by_calls caller callee h = and_true (e.calls (BodyOf caller) callee) (not (same_identity callee caller)) h.calls (not_false (same_identity callee caller) (λ same. h.other ((identities_told callee caller).0 same)))

  -- one of several calls a lemma
  one_calls : List Identity → Identity → Bool
  one_calls [] callee = false
  one_calls (g ∷ gs) callee = calls_other g callee || one_calls gs callee

  one_of : (gs : List Identity) (callee : Identity) → one_calls gs callee ≡ true → (g : Identity) × Contains gs g × CallsOther e g callee
  unfolding one_calls
  one_of [] callee h = absurd (false≢true h)
  one_of (g ∷ gs) callee h = elim (or_cases (calls_other g callee) (one_calls gs callee) h) [
    | inl one ↦ (g, first_in g gs, calls_by g callee one)
    | inr rest ↦ let (k, there, calls) = one_of gs callee rest in (k, later_in g k gs there, calls)
  ]

  of_one : (gs : List Identity) (g callee : Identity) → Contains gs g → CallsOther e g callee → one_calls gs callee ≡ true
  unfolding one_calls
  of_one [] g callee there calls = empty there
  of_one (x ∷ gs) g callee there calls = elim (either_in x g gs there) [
    | inl same ↦ or_left (calls_other x callee) (one_calls gs callee) (by_calls x callee (subst (λ z. CallsOther e z callee) (sym same) calls))
    | inr rest ↦ or_right (calls_other x callee) (one_calls gs callee) (of_one gs g callee rest calls)
  ]

  reaches_then : {a b c : Identity} → Reaches e a b → CallsOther e b c → Reaches e a c
  reaches_then (by_call first) last = through first (by_call last)
  reaches_then (through first rest) last = through first (reaches_then rest last)

  -- ---- a lemma, and others in order: those that it reaches, and the rest
  module _ (x : Identity) where
    -- a lemma is reached that this one calls, or one of those that are reached
    reached : List Identity → Identity → Bool
    reached fs b = calls_other x b || one_calls fs b

    front : List Identity → List Identity
    front [] = []
    front (b ∷ bs) = cond (reached (front bs) b) (b ∷ front bs) (front bs)

    rest : List Identity → List Identity
    rest [] = []
    rest (b ∷ bs) = cond (reached (front bs) b) (rest bs) (b ∷ rest bs)

    front_inside : (bs : List Identity) (a : Identity) → Contains (front bs) a → Contains bs a
    unfolding front
    front_inside [] a h = h
    front_inside (b ∷ bs) a h = by_test (reached (front bs) b) (λ c. front_inside bs a c) h
      where
        by_test : (t : Bool) → (Contains (front bs) a → Contains bs a) → Contains (cond t (b ∷ front bs) (front bs)) a → Contains (b ∷ bs) a
        by_test true inside h = elim (either_in b a (front bs) h) [ inl same ↦ subst (Contains (b ∷ bs)) same (first_in b bs) | inr later ↦ later_in b a bs (inside later) ]
        by_test false inside h = later_in b a bs (inside h)

    rest_inside : (bs : List Identity) (a : Identity) → Contains (rest bs) a → Contains bs a
    unfolding rest
    rest_inside [] a h = h
    rest_inside (b ∷ bs) a h = by_test (reached (front bs) b) (λ c. rest_inside bs a c) h
      where
        by_test : (t : Bool) → (Contains (rest bs) a → Contains bs a) → Contains (cond t (rest bs) (b ∷ rest bs)) a → Contains (b ∷ bs) a
        by_test true inside h = later_in b a bs (inside h)
        by_test false inside h = elim (either_in b a (rest bs) h) [ inl same ↦ subst (Contains (b ∷ bs)) same (first_in b bs) | inr later ↦ later_in b a bs (inside later) ]

    in_either : (bs : List Identity) (a : Identity) → Contains bs a → Contains (front bs) a ⊎ Contains (rest bs) a
    unfolding front rest
    in_either [] a h = inl h
    in_either (b ∷ bs) a h = elim (either_in b a bs h) [ inl same ↦ own (reached (front bs) b) same | inr later ↦ further (reached (front bs) b) (in_either bs a later) ]
      where
        own : (t : Bool) → b ≡ a → Contains (cond t (b ∷ front bs) (front bs)) a ⊎ Contains (cond t (rest bs) (b ∷ rest bs)) a
        own true same = inl (subst (Contains (b ∷ front bs)) same (first_in b (front bs)))
        own false same = inr (subst (Contains (b ∷ rest bs)) same (first_in b (rest bs)))

        further : (t : Bool) → Contains (front bs) a ⊎ Contains (rest bs) a → Contains (cond t (b ∷ front bs) (front bs)) a ⊎ Contains (cond t (rest bs) (b ∷ rest bs)) a
        further true (inl l) = inl (later_in b a (front bs) l)
        further true (inr r) = inr r
        further false (inl l) = inl l
        further false (inr r) = inr (later_in b a (rest bs) r)

    front_reached : (bs : List Identity) (a : Identity) → Contains (front bs) a → Reaches e x a
    unfolding front reached
    front_reached [] a h = empty h
    front_reached (b ∷ bs) a h = by_test (reached (front bs) b) refl (λ g there. front_reached bs g there) h
      where
        by_way : (calls_other x b || one_calls (front bs) b) ≡ true → ((g : Identity) → Contains (front bs) g → Reaches e x g) → Reaches e x b
        by_way is before = elim (or_cases (calls_other x b) (one_calls (front bs) b) is) [
          | inl direct ↦ by_call (calls_by x b direct)
          | inr one ↦ let (g, there, calls) = one_of (front bs) b one in reaches_then (before g there) calls
        ]

        by_test : (t : Bool) → reached (front bs) b ≡ t → ((g : Identity) → Contains (front bs) g → Reaches e x g) → Contains (cond t (b ∷ front bs) (front bs)) a → Reaches e x a
        by_test true is before h = elim (either_in b a (front bs) h) [ inl same ↦ subst (Reaches e x) same (by_way is before) | inr later ↦ before a later ]
        by_test false is before h = before a h

    front_ordered : (bs : List Identity) → IsCallOrder e bs → IsCallOrder e (front bs)
    unfolding front
    front_ordered [] h = tt
    front_ordered (b ∷ bs) h = by_test (reached (front bs) b) (front_ordered bs h.1)
      where
        by_test : (t : Bool) → IsCallOrder e (front bs) → IsCallOrder e (cond t (b ∷ front bs) (front bs))
        by_test true later = (λ c there. h.0 c (front_inside bs c there), later)
        by_test false later = later

    rest_ordered : (bs : List Identity) → IsCallOrder e bs → IsCallOrder e (rest bs)
    unfolding rest
    rest_ordered [] h = tt
    rest_ordered (b ∷ bs) h = by_test (reached (front bs) b) (rest_ordered bs h.1)
      where
        by_test : (t : Bool) → IsCallOrder e (rest bs) → IsCallOrder e (cond t (rest bs) (b ∷ rest bs))
        by_test true later = later
        by_test false later = (λ c there. h.0 c (rest_inside bs c there), later)

    -- what is reached calls nothing of the rest
    front_calls_none : (bs : List Identity) → IsCallOrder e bs → (a c : Identity) → Contains (front bs) a → Contains (rest bs) c → CallsOther e a c → ⊥
    unfolding front rest reached
    front_calls_none [] h a c in_front in_rest calls = empty in_front
    front_calls_none (b ∷ bs) h a c in_front in_rest calls = by_test (reached (front bs) b) refl (λ f r. front_calls_none bs h.1 a c f r calls) in_front in_rest
      where
        by_test : (t : Bool) → reached (front bs) b ≡ t → (Contains (front bs) a → Contains (rest bs) c → ⊥) → Contains (cond t (b ∷ front bs) (front bs)) a → Contains (cond t (rest bs) (b ∷ rest bs)) c → ⊥
        by_test true is none f r = elim (either_in b a (front bs) f) [
          | inl same ↦ h.0 c (rest_inside bs c r) (subst (λ z. CallsOther e z c) (sym same) calls)
          | inr later ↦ none later r
        ]
        by_test false is none f r = elim (either_in b c (rest bs) r) [
          | inl same ↦ false≢true (sym is ∙ or_right (calls_other x b) (one_calls (front bs) b) (of_one (front bs) a b f (subst (CallsOther e a) (sym same) calls)))
          | inr later ↦ none f later
        ]

    -- and this lemma calls nothing of the rest
    calls_no_rest : (bs : List Identity) (c : Identity) → Contains (rest bs) c → CallsOther e x c → ⊥
    unfolding rest reached
    calls_no_rest [] c there calls = empty there
    calls_no_rest (b ∷ bs) c there calls = by_test (reached (front bs) b) refl (λ r. calls_no_rest bs c r calls) there
      where
        by_test : (t : Bool) → reached (front bs) b ≡ t → (Contains (rest bs) c → ⊥) → Contains (cond t (rest bs) (b ∷ rest bs)) c → ⊥
        by_test true is none r = none r
        by_test false is none r = elim (either_in b c (rest bs) r) [
          | inl same ↦ false≢true (sym is ∙ or_left (calls_other x b) (one_calls (front bs) b) (by_calls x b (subst (CallsOther e x) (sym same) calls)))
          | inr later ↦ none later
        ]

  ordered_append : (fs rs : List Identity) → IsCallOrder e fs → IsCallOrder e rs → ((a c : Identity) → Contains fs a → Contains rs c → CallsOther e a c → ⊥) → IsCallOrder e (fs ++ rs)
  ordered_append [] rs first last none = last
  ordered_append (f ∷ fs) rs first last none = (
    λ c there calls. elim (apart_in c fs rs there) [ inl l ↦ first.0 c l calls | inr r ↦ none f c (first_in f fs) r calls ],
    ordered_append fs rs first.1 last (λ a c in_first in_last. none a c (later_in f a fs in_first) in_last),
  )

  module _ (acyclic : (g : Identity) → Reaches e g g → ⊥) where
    abbrev Ordered : List Identity → Type 0
    Ordered lemmas = (order : List Identity) × IsCallOrder e order × ((g : Identity) → (Contains lemmas g → Contains order g) × (Contains order g → Contains lemmas g))

    put : (x : Identity) (xs : List Identity) → Ordered xs → Ordered (x ∷ xs)
    put x xs (order, ordered, same) = (
      front x order ++ x ∷ rest x order,
      ordered_append (front x order) (x ∷ rest x order) (front_ordered x order ordered) (λ c there. calls_no_rest x order c there, rest_ordered x order ordered) (λ a c in_front there calls. elim (either_in x c (rest x order) there) [
        | inl own ↦ acyclic x (reaches_then (front_reached x order a in_front) (subst (CallsOther e a) (sym own) calls))
        | inr other ↦ front_calls_none x order ordered a c in_front other calls
      ]),
      λ g. (forth g, back g),
    )
      where
        forth : (g : Identity) → Contains (x ∷ xs) g → Contains (front x order ++ x ∷ rest x order) g
        forth g h = elim (either_in x g xs h) [
          | inl own ↦ right_in g (front x order) (x ∷ rest x order) (subst (Contains (x ∷ rest x order)) own (first_in x (rest x order)))
          | inr other ↦ elim (in_either x order g ((same g).0 other)) [
            | inl l ↦ left_in g (front x order) (x ∷ rest x order) l
            | inr r ↦ right_in g (front x order) (x ∷ rest x order) (later_in x g (rest x order) r)
          ]
        ]

        back : (g : Identity) → Contains (front x order ++ x ∷ rest x order) g → Contains (x ∷ xs) g
        back g h = elim (apart_in g (front x order) (x ∷ rest x order) h) [
          | inl l ↦ later_in x g xs ((same g).1 (front_inside x order g l))
          | inr r ↦ elim (either_in x g (rest x order) r) [ inl own ↦ subst (Contains (x ∷ xs)) own (first_in x xs) | inr other ↦ later_in x g xs ((same g).1 (rest_inside x order g other)) ]
        ]

    all_ordered : (lemmas : List Identity) → Ordered lemmas
    all_ordered [] = ([], tt, λ g. (λ h. h, λ h. h))
    all_ordered (x ∷ xs) = put x xs (all_ordered xs)

pub calls_are_ordered : CallsAreOrdered
calls_are_ordered e lemmas acyclic = all_ordered e acyclic lemmas
