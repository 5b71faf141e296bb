-- Marks put one behind the other, and the least of what is marked.
use Rattle.std.proofs.Common.{◌≡◌, ◌≢◌, ◌⊎◌, ℕ, zero, suc, ◌+◌, ◌<◌, ◌≤◌, Bool, true, false, not, cond, List, [], ◌∷◌, ◌++◌, length, map, take, get_or, Option, Some, refl, sym, ap, subst, ◌∙◌, inl, inr, arith}
use Rattle.std.specs.Prelude.{◌==◌, nat_le}
use Rattle.std.specs.declared.cmp.Ordering.{Ordering}
use Rattle.std.specs.declared.cmp.Ordering.TheVariants.{Less, Equal, Greater}
use Rattle.std.specs.Cmp.Lexicographic.{slice_cmp, nat_list_cmp_total}
use Rattle.std.specs.Ordering.{nat_cmp, ordering_reverse}
use Rattle.std.proofs.lemmas.Bool.Decides.{Decides-eqb, nat_tests}
use Rattle.std.proofs.lemmas.List.{length_push, length-map, length-take-le, get_or_append_left, get_or_push, get_or_read, get_or-map, get_or-take}
use Rattle.vf_link.specs.declared.statement.Topic.{Topic}
use Rattle.vf_link.specs.Statements.{place, shown}
use Rattle.vf_link.specs.Least.{IsLeastOf, IsMarkedText, lesser}
use Rattle.vf_link.specs.Linking.{agree}
use Rattle.vf_link.specs.Marks.{Marks, IsRepeated, IsContradicted, IsNoneOf, DisagreesWith}
use Rattle.vf_link.proofs.Lists.{contains_at}
use Rattle.vf_link.proofs.Places.{place_within}
use Rattle.vf_link.proofs.Leasts.{lesser_is, same_least}

below_or_at : (k n : ℕ) → k < n + 1 → (k < n) ⊎ (k ≡ n)
below_or_at k n h = grind arith

pub marks_push : (n : ℕ) (marks : List Bool) (b : Bool) (P : ℕ → Type 0) → Marks n marks P → (b ≡ true → P n) → (P n → b ≡ true) → Marks (n + 1) (marks ++ b ∷ []) P
marks_push n marks b P h to back = record {
  nodes = length_push marks b ∙ ap (λ k. k + 1) h.nodes;
  is = λ k w m. elim (below_or_at k n w) [
    | inl below ↦ h.is k below (sym (get_or_append_left marks (b ∷ []) false k (subst (λ j. k < j) (sym h.nodes) below)) ∙ m)
    | inr at ↦ subst P (sym at) (to (sym (get_or_push marks b false k (h.nodes ∙ sym at)) ∙ m))
  ];
  each = λ k w p. elim (below_or_at k n w) [
    | inl below ↦ get_or_append_left marks (b ∷ []) false k (subst (λ j. k < j) (sym h.nodes) below) ∙ h.each k below p
    | inr at ↦ get_or_push marks b false k (h.nodes ∙ sym at) ∙ back (subst P at p)
  ];
}

pub marks_more : (n : ℕ) (marks new : List Bool) (b : Bool) (P : ℕ → Type 0) → Marks n marks P → new ≡ marks ++ b ∷ [] → (b ≡ true → P n) → (P n → b ≡ true) → Marks (n + 1) new P
marks_more n marks new b P h is to back = subst (λ l. Marks (n + 1) l P) (sym is) (marks_push n marks b P h to back)

-- ---- each mark that is pushed

not_both : (b : Bool) → not b ≡ true → b ≡ true → ⊥
not_both true h e = absurd (let no : false ≡ true = h in cc)
not_both false h e = absurd (let no : false ≡ true = e in cc)

not_where : (b : Bool) → b ≢ true → not b ≡ true
not_where true h = absurd (h refl)
not_where false h = refl

le_from : (m n : ℕ) → nat_le m n ≡ true → m ≤ n
le_from m n h = grind (arith, nat_tests)

le_to : (m n : ℕ) → m ≤ n → nat_le m n ≡ true
le_to m n h = grind (arith, nat_tests)

pub first_is : (texts : List (List ℕ)) (firsts : List ℕ) (at : ℕ) → firsts ≡ map (place texts) texts → at < length texts → get_or firsts at 0 ≡ place texts (get_or texts at [])
first_is texts firsts at is within = ap (λ l. get_or l at 0) is ∙ get_or-map (place texts) texts at [] 0 within

pub first_within : (texts : List (List ℕ)) (firsts : List ℕ) (at : ℕ) → firsts ≡ map (place texts) texts → at < length texts → get_or firsts at 0 < length texts
first_within texts firsts at is within =
    subst (λ n. n < length texts) (sym (first_is texts firsts at is within)) (place_within texts (get_or texts at []) (contains_at texts at (get_or texts at []) [] within refl))

pub many_firsts : (texts : List (List ℕ)) (firsts : List ℕ) → firsts ≡ map (place texts) texts → length firsts ≡ length texts
many_firsts texts firsts is = ap length is ∙ length-map texts (place texts)

pub others_more : (firsts : List ℕ) (marks new : List Bool) (at : ℕ) → Marks at marks (λ k. get_or firsts k 0 ≢ k) → new ≡ marks ++ not (get_or firsts at 0 == at) ∷ []
    → Marks (at + 1) new (λ k. get_or firsts k 0 ≢ k)
others_more firsts marks new at h is = marks_more at marks new (not (get_or firsts at 0 == at)) (λ k. get_or firsts k 0 ≢ k) h is
    (λ m e. not_both (get_or firsts at 0 == at) m ((Decides-eqb (get_or firsts at 0) at).1 e))
    (λ ne. not_where (get_or firsts at 0 == at) (λ m. ne ((Decides-eqb (get_or firsts at 0) at).0 m)))

-- places that are not the first of their texts are those of texts that are repeated
pub repeats_marked : (texts : List (List ℕ)) (marks : List Bool) → Marks (length (map (place texts) texts)) marks (λ k. get_or (map (place texts) texts) k 0 ≢ k) → Marks (length texts) marks (IsRepeated texts)
repeats_marked texts marks h = record {
  nodes = h.nodes ∙ many;
  is = λ k w m p. h.is k (subst (λ n. k < n) (sym many) w) m (get_or-map (place texts) texts k [] 0 w ∙ p);
  each = λ k w p. h.each k (subst (λ n. k < n) (sym many) w) (λ e. p (sym (get_or-map (place texts) texts k [] 0 w) ∙ e));
}
  where
    many : length (map (place texts) texts) ≡ length texts
    many = length-map texts (place texts)

pub contradictions_more : (subjects contents : List (List ℕ)) (firsts : List ℕ) (marks new : List Bool) (at : ℕ) (one other : List ℕ) (same : Bool)
    → firsts ≡ map (place subjects) subjects → length contents ≡ length subjects → at < length subjects
    → one ≡ get_or contents (get_or firsts at 0) [] → other ≡ get_or contents at [] → (same ≡ true → one ≡ other) → (one ≡ other → same ≡ true)
    → Marks at marks (IsContradicted subjects contents) → new ≡ marks ++ not same ∷ [] → Marks (at + 1) new (IsContradicted subjects contents)
contradictions_more subjects contents firsts marks new at one other same firsts_are many within one_is other_is to back h is =
    let p = first_is subjects firsts at firsts_are within in
    let first : one ≡ get_or contents (place subjects (get_or subjects at [])) [] = one_is ∙ ap (λ n. get_or contents n []) p in
    marks_more at marks new (not same) (IsContradicted subjects contents) h is
    (λ m e. not_both same m (back (first ∙ e ∙ sym other_is)))
    (λ ne. not_where same (λ m. ne (sym first ∙ to m ∙ other_is)))

-- the place that was read is that where the text is mentioned first
pub first_place : (texts : List (List ℕ)) (firsts : List ℕ) (at first : ℕ) → firsts ≡ map (place texts) texts → at < length firsts → first ≡ get_or firsts at first → first ≡ place texts (get_or texts at [])
first_place texts firsts at first is within read =
    get_or_read firsts at first within read 0 ∙ first_is texts firsts at is (subst (λ n. at < n) (many_firsts texts firsts is) within)

pub unmet_more : (count : ℕ) (subjects : List (List ℕ)) (firsts : List ℕ) (marks new : List Bool) (at first : ℕ)
    → firsts ≡ map (place subjects) subjects → at < length firsts → first ≡ get_or firsts at first
    → Marks at marks (IsNoneOf count subjects) → new ≡ marks ++ nat_le count first ∷ [] → Marks (at + 1) new (IsNoneOf count subjects)
unmet_more count subjects firsts marks new at first firsts_are within read h is =
    let p = first_place subjects firsts at first firsts_are within read in
    marks_more at marks new (nat_le count first) (IsNoneOf count subjects) h is
    (λ m. subst (λ n. count ≤ n) p (le_from count first m))
    (λ le. le_to count first (subst (λ n. count ≤ n) (sym p) le))

not_is : (b : Bool) → not b ≡ true → b ≡ false
not_is true h = absurd (let no : false ≡ true = h in cc)
not_is false h = refl

-- signatures that are compared decide whether they disagree
pub disagreement : (count : ℕ) (subjects contents : List (List ℕ)) (firsts : List ℕ) (at first : ℕ) (one other : List ℕ) (agreed : Bool)
    → firsts ≡ map (place subjects) subjects → length contents ≡ length subjects → at < length firsts → first ≡ get_or firsts at first → count ≤ at → first < count
    → one ≡ get_or contents first [] → other ≡ get_or contents at [] → agreed ≡ agree one other
    → (not agreed ≡ true → DisagreesWith count subjects contents at) × (DisagreesWith count subjects contents at → not agreed ≡ true)
disagreement count subjects contents firsts at first one other agreed firsts_are many within read behind front one_is other_is agreed_is =
    let p = first_place subjects firsts at first firsts_are within read in
    let first_one : one ≡ get_or contents (place subjects (get_or subjects at [])) [] = one_is ∙ ap (λ n. get_or contents n []) p in
    let is : agreed ≡ agree (get_or contents (place subjects (get_or subjects at [])) []) (get_or contents at []) = agreed_is ∙ ap (λ s. agree s other) first_one ∙ ap (λ t. agree (get_or contents (place subjects (get_or subjects at [])) []) t) other_is in
    (λ h. (behind, subst (λ n. n < count) p front, sym is ∙ not_is agreed h), λ d. ap not (is ∙ d.2))

-- ---- the least of what is marked

-- no text stands before itself
before_itself : (s : List ℕ) → slice_cmp nat_cmp s s ≡ Less → ⊥
before_itself s h = no (slice_cmp nat_cmp s s) h (nat_list_cmp_total.antisymm s s)
  where
    no : (o : Ordering) → o ≡ Less → o ≡ ordering_reverse o → ⊥
    no Less e r = let both : Less ≡ Greater = r in absurd cc
    no Equal e r = absurd cc
    no Greater e r = absurd cc

itself_least : (s : List ℕ) → IsLeastOf (λ x. x ≡ s) (Some s)
itself_least s = record { is = refl; least = λ x e l. before_itself s (subst (λ y. slice_cmp nat_cmp y s ≡ Less) e l) }

module _ (topic : Topic) (texts : List (List ℕ)) (marks : List Bool) (at : ℕ) (within : at < length texts) where
  long : length (take at texts) ≡ at
  long = length-take-le at texts (omega arith)

  longer : length (take (at + 1) texts) ≡ at + 1
  longer = length-take-le (at + 1) texts (omega arith)

  more_texts : (x : List ℕ) → IsMarkedText topic (take at texts) marks x → IsMarkedText topic (take (at + 1) texts) marks x
  more_texts x m =
      let inside : m.at < at = subst (λ n. m.at < n) long m.within in
      record {
        at = m.at;
        within = subst (λ n. m.at < n) (sym longer) (omega arith);
        marked = m.marked;
        is = m.is ∙ ap (shown topic) (get_or-take at texts m.at [] inside ∙ sym (get_or-take (at + 1) texts m.at [] (omega arith)));
      }

  this_text : get_or marks at false ≡ true → (x : List ℕ) → x ≡ shown topic (get_or texts at []) → IsMarkedText topic (take (at + 1) texts) marks x
  this_text marked x is = record {
    at = at;
    within = subst (λ n. at < n) (sym longer) (omega arith);
    marked = marked;
    is = is ∙ ap (shown topic) (sym (get_or-take (at + 1) texts at [] (omega arith)));
  }

  old_or_this : (x : List ℕ) → IsMarkedText topic (take (at + 1) texts) marks x → IsMarkedText topic (take at texts) marks x ⊎ ((x ≡ shown topic (get_or texts at [])) × (get_or marks at false ≡ true))
  old_or_this x m = elim (below_or_at m.at at (subst (λ n. m.at < n) longer m.within)) [
    | inl below ↦ inl (record {
      at = m.at;
      within = subst (λ n. m.at < n) (sym long) below;
      marked = m.marked;
      is = m.is ∙ ap (shown topic) (get_or-take (at + 1) texts m.at [] (omega arith) ∙ sym (get_or-take at texts m.at [] below));
    })
    | inr here ↦ inr (m.is ∙ ap (shown topic) (get_or-take (at + 1) texts m.at [] (omega arith) ∙ ap (λ k. get_or texts k []) here), ap (λ k. get_or marks k false) (sym here) ∙ m.marked)
  ]

  -- one more that is marked
  pub least_more : (o : Option (List ℕ)) → get_or marks at false ≡ true → IsLeastOf (IsMarkedText topic (take at texts) marks) o
      → IsLeastOf (IsMarkedText topic (take (at + 1) texts) marks) (lesser o (Some (shown topic (get_or texts at []))))
  least_more o marked h =
      same_least (λ x. IsMarkedText topic (take at texts) marks x ⊎ (x ≡ shown topic (get_or texts at []))) (IsMarkedText topic (take (at + 1) texts) marks) (lesser o (Some (shown topic (get_or texts at []))))
      (λ x e. either x e) (λ x m. back x m)
      (lesser_is (IsMarkedText topic (take at texts) marks) (λ x. x ≡ shown topic (get_or texts at [])) o (Some (shown topic (get_or texts at []))) h (itself_least (shown topic (get_or texts at []))))
    where
      either : (x : List ℕ) → IsMarkedText topic (take at texts) marks x ⊎ (x ≡ shown topic (get_or texts at [])) → IsMarkedText topic (take (at + 1) texts) marks x
      either x (inl m) = more_texts x m
      either x (inr is) = this_text marked x is

      back : (x : List ℕ) → IsMarkedText topic (take (at + 1) texts) marks x → IsMarkedText topic (take at texts) marks x ⊎ (x ≡ shown topic (get_or texts at []))
      back x m = elim (old_or_this x m) [
        | inl old ↦ inl old
        | inr this ↦ inr this.0
      ]

  -- one more that is not
  pub least_same : (o : Option (List ℕ)) → get_or marks at false ≡ false → IsLeastOf (IsMarkedText topic (take at texts) marks) o → IsLeastOf (IsMarkedText topic (take (at + 1) texts) marks) o
  least_same o unmarked h = same_least (IsMarkedText topic (take at texts) marks) (IsMarkedText topic (take (at + 1) texts) marks) o more_texts (λ x m. elim (old_or_this x m) [
    | inl old ↦ old
    | inr this ↦ absurd (let both : true ≡ false = sym this.1 ∙ unmarked in cc)
  ]) h

  -- one more, which counts where it is marked
  pub least_next : (o r : Option (List ℕ)) (t : List ℕ) → t ≡ shown topic (get_or texts at []) → r ≡ cond (get_or marks at false) (lesser o (Some t)) o
      → IsLeastOf (IsMarkedText topic (take at texts) marks) o → IsLeastOf (IsMarkedText topic (take (at + 1) texts) marks) r
  least_next o r t is e h = by (get_or marks at false) refl
    where
      by : (b : Bool) → get_or marks at false ≡ b → IsLeastOf (IsMarkedText topic (take (at + 1) texts) marks) r
      by true m = subst (IsLeastOf (IsMarkedText topic (take (at + 1) texts) marks)) (sym (e ∙ ap (λ b. cond b (lesser o (Some t)) o) m ∙ ap (λ s. lesser o (Some s)) is)) (least_more o m h)
      by false m = subst (IsLeastOf (IsMarkedText topic (take (at + 1) texts) marks)) (sym (e ∙ ap (λ b. cond b (lesser o (Some t)) o) m)) (least_same o m h)

-- ---- marks of the texts in front

marked_within : (marks : List Bool) (k : ℕ) → get_or marks k false ≡ true → k < length marks
marked_within [] k h = absurd cc
marked_within (b ∷ marks) zero h = omega arith
marked_within (b ∷ marks) (suc k) h = let rest = marked_within marks k h in omega arith

in_front : (n : ℕ) (texts : List (List ℕ)) (k : ℕ) → k < length (take n texts) → (k < n) × (k < length texts)
in_front zero texts k w = absurd (let none : ⊥ = omega arith in none)
in_front (suc n) [] k w = absurd (let none : ⊥ = omega arith in none)
in_front (suc n) (t ∷ texts) zero w = (omega arith, omega arith)
in_front (suc n) (t ∷ texts) (suc k) w = let rest = in_front n texts k (omega arith) in (omega (arith, rest.0), omega (arith, rest.1))

to_front : (n : ℕ) (texts : List (List ℕ)) (k : ℕ) → k < n → k < length texts → k < length (take n texts)
to_front zero texts k w v = absurd (let none : ⊥ = omega arith in none)
to_front (suc n) [] k w v = absurd (let none : ⊥ = omega arith in none)
to_front (suc n) (t ∷ texts) zero w v = omega arith
to_front (suc n) (t ∷ texts) (suc k) w v = let rest = to_front n texts k (omega arith) (omega arith) in omega arith

module _ (topic : Topic) (texts : List (List ℕ)) (marks : List Bool) (n : ℕ) (few : length marks ≤ n) where
  of_front : (x : List ℕ) → IsMarkedText topic (take n texts) marks x → IsMarkedText topic texts marks x
  of_front x m = let w = in_front n texts m.at m.within in record {
    at = m.at;
    within = w.1;
    marked = m.marked;
    is = m.is ∙ ap (shown topic) (get_or-take n texts m.at [] w.0);
  }

  from_all : (x : List ℕ) → IsMarkedText topic texts marks x → IsMarkedText topic (take n texts) marks x
  from_all x m =
      let below = marked_within marks m.at m.marked in
      let w : m.at < n = omega arith in
      record {
        at = m.at;
        within = to_front n texts m.at w m.within;
        marked = m.marked;
        is = m.is ∙ ap (shown topic) (sym (get_or-take n texts m.at [] w));
      }

  -- where all marks are of texts in front, the least of these is the least of all
  pub least_in_front : (o : Option (List ℕ)) → IsLeastOf (IsMarkedText topic (take n texts) marks) o → IsLeastOf (IsMarkedText topic texts marks) o
  least_in_front o h = same_least (IsMarkedText topic (take n texts) marks) (IsMarkedText topic texts marks) o of_front from_all h

  pub least_to_front : (o : Option (List ℕ)) → IsLeastOf (IsMarkedText topic texts marks) o → IsLeastOf (IsMarkedText topic (take n texts) marks) o
  least_to_front o h = same_least (IsMarkedText topic texts marks) (IsMarkedText topic (take n texts) marks) o from_all of_front h
