-- Facts on classes and on the least congruence.
use Rattle.std.proofs.Common.{◌≡◌, ℕ, zero, suc, ◌<◌, ◌≤◌, ◌⊎◌, inl, inr, List, [], ◌∷◌, length, sum, get_or, slice_index, slice_get, Some, refl, sym, ◌∙◌, ap, subst, arith, All}
use Rattle.std.proofs.Math.Decide.{ℕ_discrete}
use Rattle.std.proofs.lemmas.Option.{slice_get_within, get_or_from_slice_get}
use Rattle.std.proofs.Math.Seq.{take-append_seam}
use Rattle.std.proofs.lemmas.List.{get_or_default}
use Rattle.std.proofs.lemmas.List.Elements.{Contains-push, Contains-append_left, Contains-push_cases}
use Rattle.std.proofs.Common.{◌++◌, ◌^◌, take}
use Rattle.std.proofs.lemmas.List.Sums.{sum_by-cons}
use Rattle.std.proofs.Common.{Bool, true, false, IsTrue, IsFalse}
use Rattle.vf_table.specs.declared.node.Node.{Node}
use Rattle.vf_table.specs.Tables.{IsInjective, PartsAreBelow}
use Rattle.vf_congruence.specs.Congruence.{Congruent, based, congruent_self, congruent_back, congruent_through, by_parts, of_parts, WereMerged}
use Rattle.vf_congruence.specs.Meeting.{AreTogether, PartsAreTogether, StayTogether, IsPaired, AreTogetherOrPaired, OnlyPairedMeet, OnlyCongruentMeet, IsSettledAt, IsSettled, IsStillAt, AreNumbersBounded, IsLeast}

-- a congruence over a base that another congruence has lies in that one
pub congruent_bind : {nodes : List Node} {base base' : ℕ → ℕ → Type 0} {a b : ℕ} → Congruent nodes base a b → ((x y : ℕ) → base x y → Congruent nodes base' x y) → Congruent nodes base' a b
congruent_bind (based {a = a} {b = b} h) f = f a b h
congruent_bind congruent_self f = congruent_self
congruent_bind (congruent_back h) f = congruent_back (congruent_bind h f)
congruent_bind (congruent_through h k) f = congruent_through (congruent_bind h f) (congruent_bind k f)
congruent_bind (by_parts p q e l h) f = by_parts p q e l (λ i w. congruent_bind (h i w) f)
congruent_bind (of_parts p q t e l w h) f = of_parts p q t e l w (congruent_bind h f)

-- and so with no nodes
pub congruent_bind_plain : {nodes : List Node} {base base' : ℕ → ℕ → Type 0} {a b : ℕ} → Congruent [] base a b → ((x y : ℕ) → base x y → Congruent nodes base' x y) → Congruent nodes base' a b
congruent_bind_plain (based {a = a} {b = b} h) f = f a b h
congruent_bind_plain congruent_self f = congruent_self
congruent_bind_plain (congruent_back h) f = congruent_back (congruent_bind_plain h f)
congruent_bind_plain (congruent_through h k) f = congruent_through (congruent_bind_plain h f) (congruent_bind_plain k f)
congruent_bind_plain (by_parts p q e l h) f = cc
congruent_bind_plain (of_parts p q t e l w h) f = cc

-- what one relabelling makes equal
pub renamed : (base : ℕ → ℕ → Type 0) (before after : List ℕ) (from to s t : ℕ) → length after ≡ length before →
    ((k : ℕ) → k < length before → slice_index before k ≡ from → slice_index after k ≡ to) →
    ((k : ℕ) → (slice_index before k ≡ from → ⊥) → slice_index after k ≡ slice_index before k) →
    s < length before → slice_index before s ≡ from → t < length before → slice_index before t ≡ to → Congruent [] base s t →
    ((x y : ℕ) → AreTogether before x y → base x y) →
    (x y : ℕ) → AreTogether after x y → Congruent [] base x y
renamed base before after from to s t long moved kept sin sis tin tis link old x y h =
    elim (ℕ_discrete (slice_index before x) from) [
      | yes p ↦ elim (ℕ_discrete (slice_index before y) from) [
        | yes q ↦ based (old x y (record { left = inx; right = iny; one = cc }))
        | no q ↦ congruent_through (based (old x s (record { left = inx; right = sin; one = cc }))) (congruent_through link (based (old t y (record { left = tin; right = iny; one = let e = moved x inx p in let f = kept y q in let g = h.one in cc }))))
      ]
      | no p ↦ elim (ℕ_discrete (slice_index before y) from) [
        | yes q ↦ congruent_back (congruent_through (based (old y s (record { left = iny; right = sin; one = cc }))) (congruent_through link (based (old t x (record { left = tin; right = inx; one = let e = moved y iny q in let f = kept x p in let g = h.one in cc })))))
        | no q ↦ based (old x y (record { left = inx; right = iny; one = let e = kept x p in let f = kept y q in let g = h.one in cc }))
      ]
    ]
  where
    inx : x < length before
    inx = let l = h.left in omega arith

    iny : y < length before
    iny = let l = h.right in omega arith

pub sum_le : (xs ys : List ℕ) → length xs ≡ length ys → ((k : ℕ) → k < length xs → get_or ys k 0 ≤ get_or xs k 0) → sum ys ≤ sum xs
sum_le [] [] e h = omega arith
sum_le [] (y ∷ ys) e h = omega arith
sum_le (x ∷ xs) [] e h = omega arith
sum_le (x ∷ xs) (y ∷ ys) e h = simp sum_by-cons (omega (arith, h 0 (omega arith), sum_le xs ys (omega arith) (λ k l. h (suc k) (omega arith))))

pub sum_falls : (xs ys : List ℕ) (j : ℕ) → length xs ≡ length ys → ((k : ℕ) → k < length xs → get_or ys k 0 ≤ get_or xs k 0) → j < length xs → get_or ys j 0 < get_or xs j 0 → sum ys < sum xs
sum_falls [] ys j e h l s = omega arith
sum_falls (x ∷ xs) [] j e h l s = omega arith
sum_falls (x ∷ xs) (y ∷ ys) zero e h l s = simp sum_by-cons (omega (arith, s, sum_le xs ys (omega arith) (λ k l. h (suc k) (omega arith))))
sum_falls (x ∷ xs) (y ∷ ys) (suc j) e h l s = simp sum_by-cons (omega (arith, h 0 (omega arith), sum_falls xs ys j (omega arith) (λ k l. h (suc k) (omega arith)) (omega arith) s))

pub renamed_falls : (before after : List ℕ) (from to s : ℕ) → length after ≡ length before →
    ((k : ℕ) → k < length before → slice_index before k ≡ from → slice_index after k ≡ to) →
    ((k : ℕ) → (slice_index before k ≡ from → ⊥) → slice_index after k ≡ slice_index before k) →
    s < length before → slice_index before s ≡ from → to < from → sum after < sum before
renamed_falls before after from to s long moved kept sin sis less =
    sum_falls before after s (sym long) each sin (let e = moved s sin sis in omega arith)
  where
    each : (k : ℕ) → k < length before → get_or after k 0 ≤ get_or before k 0
    each k l = elim (ℕ_discrete (slice_index before k) from) [ yes p ↦ (let e = moved k l p in omega arith) | no p ↦ (let e = kept k p in omega arith) ]

pub parts_are_terms : (nodes : List Node) (n a : ℕ) (m : Node) → PartsAreBelow nodes n → a < length nodes → slice_get nodes a ≡ Some m → All (λ x. x < n) m.parts.items
parts_are_terms nodes n a m terms l e = rw (get_or_from_slice_get nodes a m m e) at (terms a m l)

-- what is linked stays linked over one more pair
pub paired_more : (before middle after xs ys : List ℕ) (a b : ℕ) → OnlyPairedMeet before xs ys middle → OnlyPairedMeet middle (a ∷ []) (b ∷ []) after → IsPaired xs ys a b → OnlyPairedMeet before xs ys after
paired_more before middle after xs ys a b first second pair x y h =
    congruent_bind_plain (second x y h) (λ u w. elim [ inl k ↦ first u w k | inr k ↦ at_pair u w k ])
  where
    at_pair : (u w : ℕ) → IsPaired (a ∷ []) (b ∷ []) u w → Congruent [] (AreTogetherOrPaired before xs ys) u w
    at_pair u w k = one_place u w k.place k.within k.left k.right
      where
        one_place : (u w place : ℕ) → place < 1 → slice_index (a ∷ []) place ≡ u → slice_index (b ∷ []) place ≡ w → Congruent [] (AreTogetherOrPaired before xs ys) u w
        one_place u w zero l e f = based (inr (record { place = pair.place; within = pair.within; left = pair.left ∙ e; right = pair.right ∙ f }))
        one_place u w (suc n) l e f = absurd (omega arith)

pub paired_none : (classes xs ys : List ℕ) → OnlyPairedMeet classes xs ys classes
paired_none classes xs ys x y h = based (inl h)

pub only_none : (nodes : List Node) (classes : List ℕ) → OnlyCongruentMeet nodes classes classes
only_none nodes classes x y h = based h

pub only_more : (nodes : List Node) (before middle after : List ℕ) → OnlyCongruentMeet nodes before middle → OnlyCongruentMeet nodes middle after → OnlyCongruentMeet nodes before after
only_more nodes before middle after first second x y h = congruent_bind (second x y h) first

-- what linking the parts of equal trees adds, the congruence has
pub only_parts : (nodes : List Node) (before after : List ℕ) (a b : ℕ) (m n : Node) → slice_get nodes a ≡ Some m → slice_get nodes b ≡ Some n → IsInjective m.head → m.head ≡ n.head → length m.parts.items ≡ length n.parts.items → AreTogether before a b → OnlyPairedMeet before m.parts.items n.parts.items after → OnlyCongruentMeet nodes before after
only_parts nodes before after a b m n p q t e l one link x y h =
    congruent_bind_plain (link x y h) (λ u w. elim [ inl k ↦ based k | inr k ↦ at_pair u w k ])
  where
    at_pair : (u w : ℕ) → IsPaired m.parts.items n.parts.items u w → Congruent nodes (AreTogether before) u w
    at_pair u w k = subst (λ z. Congruent nodes (AreTogether before) z w) k.left (subst (λ z. Congruent nodes (AreTogether before) (slice_index m.parts.items k.place) z) k.right (of_parts p q t e l k.within (based one)))

-- what linking two wholes with equal parts adds, the congruence has
pub only_whole : (nodes : List Node) (before after : List ℕ) (a b : ℕ) (m n : Node) → slice_get nodes a ≡ Some m → slice_get nodes b ≡ Some n → m.head ≡ n.head → All (λ x. x < length before) m.parts.items → All (λ x. x < length before) n.parts.items → PartsAreTogether before m.parts.items n.parts.items → OnlyPairedMeet before (a ∷ []) (b ∷ []) after → OnlyCongruentMeet nodes before after
only_whole nodes before after a b m n p q e lm ln alike link x y h =
    congruent_bind_plain (link x y h) (λ u w. elim [ inl k ↦ based k | inr k ↦ at_pair u w k.place k.within k.left k.right ])
  where
    at_pair : (u w place : ℕ) → place < 1 → slice_index (a ∷ []) place ≡ u → slice_index (b ∷ []) place ≡ w → Congruent nodes (AreTogether before) u w
    at_pair u w zero l f g = subst (λ z. Congruent nodes (AreTogether before) z w) f (subst (λ z. Congruent nodes (AreTogether before) a z) g
        (by_parts p q e alike.0 (λ i w. based (record { left = lm i 0 w; right = ln i 0 (let z = alike.0 in omega arith); one = alike.1 i w }))))
    at_pair u w (suc n) l f g = absurd (omega arith)

-- a settled table that has the base has the congruence
pub settled_has : (nodes : List Node) (classes : List ℕ) (base : ℕ → ℕ → Type 0) → length nodes ≡ length classes → IsSettled nodes classes → ((x y : ℕ) → base x y → slice_index classes x ≡ slice_index classes y) → {a b : ℕ} → Congruent nodes base a b → slice_index classes a ≡ slice_index classes b
settled_has nodes classes base long settled has (based {a = a} {b = b} h) = has a b h
settled_has nodes classes base long settled has congruent_self = refl
settled_has nodes classes base long settled has (congruent_back h) = sym (settled_has nodes classes base long settled has h)
settled_has nodes classes base long settled has (congruent_through h k) = settled_has nodes classes base long settled has h ∙ settled_has nodes classes base long settled has k
settled_has nodes classes base long settled has (by_parts {a = a} {b = b} {m = m} {n = n} p q e l h) =
    (settled a b (is_term p) (is_term q)).whole m n p q e (l, λ i w. settled_has nodes classes base long settled has (h i w))
  where
    is_term : {x : ℕ} {m : Node} → slice_get nodes x ≡ Some m → x < length classes
    is_term {x = x} {m = m} p = let l : x < length nodes = slice_get_within nodes x m p in omega arith
settled_has nodes classes base long settled has (of_parts {a = a} {b = b} {m = m} {n = n} {i = i} p q t e l w h) =
    ((settled a b (is_term p) (is_term q)).part m n p q t e l (settled_has nodes classes base long settled has h)).1 i w
  where
    is_term : {x : ℕ} {m : Node} → slice_get nodes x ≡ Some m → x < length classes
    is_term {x = x} {m = m} p = let l : x < length nodes = slice_get_within nodes x m p in omega arith

-- one more turn of a loop that remembers whether something changed
pub changed_yes : (before middle after : List ℕ) (c d : Bool) → d ≡ true → (IsFalse c → middle ≡ before) → (IsTrue c → sum middle < sum before) → sum after < sum middle →
    (IsFalse d → after ≡ before) × (IsTrue d → sum after < sum before)
changed_yes before middle after true d e same falls less = (λ f. cc, λ t. let g = falls refl in omega arith)
changed_yes before middle after false d e same falls less = (λ f. cc, λ t. let g = ap sum (same refl) in omega arith)

pub changed_no : (before middle after : List ℕ) (c d : Bool) → d ≡ c → (IsFalse c → middle ≡ before) → (IsTrue c → sum middle < sum before) → after ≡ middle →
    (IsFalse d → after ≡ before) × (IsTrue d → sum after < sum before)
changed_no before middle after c d e same falls kept = (λ f. kept ∙ same (sym e ∙ f), λ t. let g = falls (sym e ∙ t) in let h = ap sum kept in omega arith)

-- ---- what makes the table settled at two terms, whose nodes are m and n

module _ (nodes : List Node) (classes : List ℕ) (a b : ℕ) (m n : Node) (em : slice_get nodes a ≡ Some m) (en : slice_get nodes b ≡ Some n) where
  pub settled_apart : (m.head ≡ n.head → length m.parts.items ≡ length n.parts.items → ⊥) → IsSettledAt nodes classes a b
  settled_apart apart = record {
    whole = λ m' n' p q e k. let i : m ≡ m' = cc in let j : n ≡ n' = cc in absurd (apart (cc) (let l = k.0 in cc));
    part = λ m' n' p q t e l k. let i : m ≡ m' = cc in let j : n ≡ n' = cc in absurd (apart (cc) (cc));
  }

  pub settled_not_injective : slice_index classes a ≡ slice_index classes b → (IsInjective m.head → ⊥) → IsSettledAt nodes classes a b
  settled_not_injective one not_injective = record {
    whole = λ m' n' p q e k. one;
    part = λ m' n' p q t e l k. let i : m' ≡ m = cc in absurd (not_injective (subst (λ (z : Node). IsInjective z.head) i t));
  }

  pub settled_injective : slice_index classes a ≡ slice_index classes b → PartsAreTogether classes m.parts.items n.parts.items → IsSettledAt nodes classes a b
  settled_injective one alike = record {
    whole = λ m' n' p q e k. one;
    part = λ m' n' p q t e l k. let i : m ≡ m' = cc in let j : n ≡ n' = cc in
        subst (λ (z : Node). PartsAreTogether classes z.parts.items n'.parts.items) i (subst (λ (z : Node). PartsAreTogether classes m.parts.items z.parts.items) j alike);
  }

  pub settled_unlike : (slice_index classes a ≡ slice_index classes b → ⊥) → (PartsAreTogether classes m.parts.items n.parts.items → ⊥) → IsSettledAt nodes classes a b
  settled_unlike two unlike = record {
    whole = λ m' n' p q e k. let i : m' ≡ m = cc in let j : n' ≡ n = cc in
        absurd (unlike (subst (λ (z : Node). PartsAreTogether classes z.parts.items n.parts.items) i (subst (λ (z : Node). PartsAreTogether classes m'.parts.items z.parts.items) j k)));
    part = λ m' n' p q t e l k. absurd (two k);
  }

pub written : (n : ℕ) (new rest : List ℕ) → length new ≡ n → take n (new ++ rest) ≡ new
written n new rest e = rw (← e) (take-append_seam new rest)

pub joined_sound : (nodes : List Node) (before middle after xs ys : List ℕ) → OnlyPairedMeet before xs ys middle → OnlyCongruentMeet nodes middle after → (x y : ℕ) → AreTogether after x y → Congruent nodes (AreTogetherOrPaired before xs ys) x y
joined_sound nodes before middle after xs ys only sound x y h =
    congruent_bind (sound x y h) (λ u w k. congruent_bind_plain (only u w k) (λ p q j. based j))

-- the one pair
pub only_pair : (C : ℕ → ℕ → Type 0) (a b : ℕ) → C a b → (x y : ℕ) → IsPaired (a ∷ []) (b ∷ []) x y → C x y
only_pair C a b h x y k = go x y k.place k.within k.left k.right
  where
    go : (x y place : ℕ) → place < 1 → slice_index (a ∷ []) place ≡ x → slice_index (b ∷ []) place ≡ y → C x y
    go x y zero l f g = subst (λ z. C z y) f (subst (λ z. C a z) g h)
    go x y (suc n) l f g = absurd (omega arith)

pub joined_complete : (nodes : List Node) (before middle after : List ℕ) (a b : ℕ) → a < length before → b < length before → length middle ≡ length before → StayTogether before middle → slice_index middle a ≡ slice_index middle b →
    ((x y : ℕ) → Congruent nodes (AreTogether middle) x y → slice_index after x ≡ slice_index after y) →
    (x y : ℕ) → Congruent nodes (AreTogetherOrPaired before (a ∷ []) (b ∷ [])) x y → slice_index after x ≡ slice_index after y
joined_complete nodes before middle after a b ina inb long kept joined complete x y h =
    complete x y (congruent_bind h (λ u w. elim [ inl k ↦ based (kept u w k) | inr k ↦ based (only_pair (AreTogether middle) a b (record { left = omega arith; right = omega arith; one = joined }) u w k) ]))

pub least_more : (nodes : List Node) (merged : List (ℕ × ℕ)) (before after : List ℕ) (a b : ℕ) → IsLeast nodes merged before → a < length before → b < length before → length after ≡ length before →
    ((x y : ℕ) → AreTogether after x y → Congruent nodes (AreTogetherOrPaired before (a ∷ []) (b ∷ [])) x y) →
    ((x y : ℕ) → Congruent nodes (AreTogetherOrPaired before (a ∷ []) (b ∷ [])) x y → slice_index after x ≡ slice_index after y) →
    IsLeast nodes (merged ++ (a, b) ∷ []) after
least_more nodes merged before after a b exact ina inb long sound complete = record {
  long = exact.long ∙ sym long;
  few = exact.few;
  parts = rw long exact.parts;
  terms = λ x y h. elim (Contains-push_cases merged (a, b) (x, y) h) [
    | inl k ↦ (let t = exact.terms x y k in (omega arith, omega arith))
    | inr e ↦ (let f = ap (λ (p : ℕ × ℕ). p.0) e in let g = ap (λ (p : ℕ × ℕ). p.1) e in (omega arith, omega arith))
  ];
  sound = λ x y h. congruent_bind (sound x y h) (λ u w. elim [
    | inl k ↦ congruent_bind (exact.sound u w k) (λ p q j. based (Contains-append_left merged ((a, b) ∷ []) (p, q) j))
    | inr k ↦ only_pair (Congruent nodes (WereMerged (merged ++ (a, b) ∷ []))) a b (based (Contains-push merged (a, b))) u w k
  ]);
  complete = λ x y h. complete x y (congruent_bind h (λ u w k. elim (Contains-push_cases merged (a, b) (u, w) k) [
    | inl j ↦ (let t = exact.terms u w j in based (inl (record { left = t.0; right = t.1; one = exact.complete u w (based j) })))
    | inr e ↦ based (inr (record { place = 0; within = omega arith; left = ap (λ (p : ℕ × ℕ). p.0) e; right = ap (λ (p : ℕ × ℕ). p.1) e }))
  ]));
}

-- classes that are all different, and then settled
pub least_none : (nodes : List Node) (before after : List ℕ) → length nodes ≡ length after → length after ≡ length before → length nodes < 2 ^ 32 → PartsAreBelow nodes (length nodes) →
    ((k : ℕ) → k < length before → slice_index before k ≡ k) → OnlyCongruentMeet nodes before after →
    ((x y : ℕ) → Congruent nodes (AreTogether before) x y → slice_index after x ≡ slice_index after y) →
    IsLeast nodes [] after
least_none nodes before after long long' few parts first sound complete = record {
  long = long;
  few = few;
  parts = rw (← long) parts;
  terms = λ x y h. absurd (let l = h.1 in omega arith);
  sound = λ x y h. congruent_bind (sound x y h) (λ u w k. let e = first u k.left in let f = first w k.right in let g = k.one in subst (λ z. Congruent nodes (WereMerged []) u z) (let r : u ≡ w = cc in r) congruent_self);
  complete = λ x y h. complete x y (congruent_bind h (λ u w k. absurd (let l = k.1 in omega arith)));
}

pub join_falls : (before middle : List ℕ) (a b : ℕ) (two : Bool) → slice_index middle a ≡ slice_index middle b → (IsFalse two → middle ≡ before) → (IsTrue two → sum middle < sum before) → (slice_index before a ≡ slice_index before b → ⊥) → sum middle < sum before
join_falls before middle a b true joined same falls apart = falls refl
join_falls before middle a b false joined same falls apart = absurd (apart (subst (λ (z : List ℕ). slice_index z a ≡ slice_index z b) (same refl) joined))

-- ---- what was settled stays so where nothing moved

parts_back : (classes : List ℕ) (xs ys : List ℕ) → PartsAreTogether classes xs ys → PartsAreTogether classes ys xs
parts_back classes xs ys h = (sym h.0, λ i w. sym (h.1 i (let l = h.0 in omega arith)))

pub settled_back : (nodes : List Node) (classes : List ℕ) (a b : ℕ) → IsSettledAt nodes classes a b → IsSettledAt nodes classes b a
settled_back nodes classes a b s = record {
  whole = λ m n p q e k. sym (s.whole n m q p (sym e) (parts_back classes m.parts.items n.parts.items k));
  part = λ m n p q t e l k. parts_back classes n.parts.items m.parts.items (s.part n m q p (subst IsInjective e t) (sym e) (sym l) (sym k));
}

pub settled_still : (nodes : List Node) (before classes : List ℕ) (a b : ℕ) → IsStillAt nodes before classes a → IsStillAt nodes before classes b → IsSettledAt nodes before a b → IsSettledAt nodes classes a b
settled_still nodes before classes a b one other s = record {
  whole = λ m n p q e k. sym one.own.same
      ∙ s.whole m n p q e (k.0, λ i w. (one.parts m p i w).same ∙ k.1 i w ∙ sym (other.parts n q i (let l = k.0 in omega arith)).same)
      ∙ other.own.same;
  part = λ m n p q t e l k.
      let h = s.part m n p q t e l (one.own.same ∙ k ∙ sym other.own.same) in
      (l, λ i w. sym (one.parts m p i w).same ∙ h.1 i w ∙ (other.parts n q i (omega arith)).same);
}

-- where each term is still, or settled with each other one
pub settled_rows : (nodes : List Node) (before classes : List ℕ) → IsSettled nodes before → ((j : ℕ) → j < length classes → IsStillAt nodes before classes j ⊎ ((k : ℕ) → k < length classes → IsSettledAt nodes classes j k)) → IsSettled nodes classes
settled_rows nodes before classes settled rows a b ina inb = elim (rows a ina) [
  | inr s ↦ s b inb
  | inl one ↦ elim (rows b inb) [
    | inr s ↦ settled_back nodes classes b a (s a ina)
    | inl other ↦ settled_still nodes before classes a b one other (settled a b one.own.within other.own.within)
  ]
]

-- classes of the least congruence leave nothing to join
pub least_settled : (nodes : List Node) (merged : List (ℕ × ℕ)) (classes : List ℕ) → IsLeast nodes merged classes → IsSettled nodes classes
least_settled nodes merged classes is a b ina inb = record {
  whole = λ m n p q e k. is.complete a b (by_parts p q e k.0 (λ i w. is.sound (slice_index m.parts.items i) (slice_index n.parts.items i) (record { left = below a m p i w; right = below b n q i (let l = k.0 in omega arith); one = k.1 i w })));
  part = λ m n p q t e l k. (l, λ i w. is.complete (slice_index m.parts.items i) (slice_index n.parts.items i) (of_parts p q t e l w (is.sound a b (record { left = ina; right = inb; one = k }))));
}
  where
    below : (x : ℕ) (m : Node) → slice_get nodes x ≡ Some m → (i : ℕ) → i < length m.parts.items → slice_index m.parts.items i < length classes
    below x m p i w = parts_are_terms nodes (length classes) x m is.parts (slice_get_within nodes x m p) p i 0 w

-- a pair that is in one class is merged already
pub least_same : (nodes : List Node) (merged : List (ℕ × ℕ)) (classes : List ℕ) (a b : ℕ) → IsLeast nodes merged classes → a < length classes → b < length classes → slice_index classes a ≡ slice_index classes b → IsLeast nodes (merged ++ (a, b) ∷ []) classes
least_same nodes merged classes a b is ina inb same = least_more nodes merged classes classes a b is ina inb refl
    (λ x y h. based (inl h))
    (λ x y h. settled_has nodes classes (AreTogetherOrPaired classes (a ∷ []) (b ∷ [])) is.long (least_settled nodes merged classes is)
    (λ u w. elim [ inl k ↦ k.one | inr k ↦ only_pair (λ u w. slice_index classes u ≡ slice_index classes w) a b same u w k ]) h)

-- two reads of a list that gave one number
pub read_same : (classes : List ℕ) (a b x y : ℕ) → a < length classes → b < length classes → x ≡ get_or classes a x → y ≡ get_or classes b y → x ≡ y → slice_index classes a ≡ slice_index classes b
read_same classes a b x y ina inb ex ey same = get_or_default classes a 0 x ina ∙ sym ex ∙ same ∙ ey ∙ sym (get_or_default classes b 0 y inb)

-- ---- the numbers of classes

-- one class is given the number of another
pub bounded_renamed : (before after : List ℕ) (from to s : ℕ) →
    ((k : ℕ) → k < length before → slice_index before k ≡ from → slice_index after k ≡ to) →
    ((k : ℕ) → (slice_index before k ≡ from → ⊥) → slice_index after k ≡ slice_index before k) →
    s < length before → slice_index before s ≡ to → AreNumbersBounded before after
bounded_renamed before after from to s moved kept sin sis m bound k l = elim (ℕ_discrete (slice_index before k) from) [
  | yes p ↦ (let e = moved k l p in let b = bound s sin in omega arith)
  | no p ↦ (let e = kept k p in let b = bound k l in omega arith)
]

pub bounded_more : (before middle after : List ℕ) → length middle ≡ length before → AreNumbersBounded before middle → AreNumbersBounded middle after → AreNumbersBounded before after
bounded_more before middle after long first second m bound k l = second m (λ i h. first m bound i (omega arith)) k (omega arith)

pub bounded_none : (classes : List ℕ) → AreNumbersBounded classes classes
bounded_none classes m bound k l = bound k l
