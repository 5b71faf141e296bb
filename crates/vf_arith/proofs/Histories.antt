-- Steps that come and go, with the distances after each.
use Rattle.std.proofs.Common.{◌≡◌, ℕ, zero, suc, ◌+◌, ◌-◌, ◌*◌, ◌^◌, ◌<◌, ◌≤◌, ◌⊎◌, inl, inr, List, [], ◌∷◌, ◌++◌, length, take, Option, Some, None, refl, sym, ◌∙◌, ap, subst, arith, Bool, true, false, eqb}
use Rattle.std.specs.Prelude.{ℤ, pos, ◌+ℤ◌, ◌≤ℤ◌, ◌==◌, cond, if◌then◌else◌, Contains}
use Rattle.std.proofs.Math.Dec.{ltb}
use Rattle.std.proofs.lemmas.Option.{slice_get_within}
use Rattle.std.proofs.Math.Seq.{take-append_seam}
use Rattle.std.proofs.lemmas.Int.{ints}
use Rattle.std.proofs.lemmas.Bool.{cases_lt, lt-ltb, le-ltb, eqb-true, eq-eqb}
use Rattle.std.proofs.lemmas.List.{append_cancel_left, map-append, length_push, append-nil, length-append}
use Rattle.std.proofs.lemmas.List.Elements.{Contains-push_cases}
use Rattle.vf_arith.specs.declared.bounds.Edge.{Edge}
use Rattle.vf_arith.specs.declared.bounds.Step.{Step}
use Rattle.vf_arith.specs.declared.bounds.Step.TheVariants.{Point, Bound}
use Rattle.vf_arith.specs.declared.journal.Saved.{Saved}
use Rattle.vf_arith.specs.declared.journal.Layer.{Layer}
use Rattle.std.specs.Prelude.{slice_get}
use Rattle.vf_arith.specs.Paths.{Path, path_none, HasNegativeCycle}
use Rattle.vf_arith.specs.Steps.{points_of, bounds_of, all_but_last}
use Rattle.vf_arith.proofs.Distances as ways
use Rattle.vf_arith.specs.Matrices.{IsUnder, AreDistances, IsMatrix, distance, entry, lesser, over_edge}
use Rattle.vf_arith.specs.Histories.{OnlySavedShorten, HasPathUnder, IsSaved, IsShortened, IsDistanceIn, IsState, AreSaved, steps_of, IsHistory, begun, continued, AreKept}

-- ---- lists

pub snoc_front : {X : Type 0} (xs ys : List X) (x y : X) → xs ++ x ∷ [] ≡ ys ++ y ∷ [] → xs ≡ ys
snoc_front xs ys x y e =
    let long : length xs ≡ length ys = omega (arith, ap length e, length_push xs x, length_push ys y) in
    sym (take-append_seam xs (x ∷ [])) ∙ ap (take (length xs)) e ∙ ap (λ k. take k (ys ++ y ∷ [])) long ∙ take-append_seam ys (y ∷ [])

pub snoc_last : {X : Type 0} (xs ys : List X) (x y : X) → xs ++ x ∷ [] ≡ ys ++ y ∷ [] → x ≡ y
snoc_last xs ys x y e = let same : x ∷ [] ≡ y ∷ [] = append_cancel_left ys (x ∷ []) (y ∷ []) (ap (λ zs. zs ++ x ∷ []) (sym (snoc_front xs ys x y e)) ∙ e) in cc

pub points_of-append : (a b : List Step) → points_of (a ++ b) ≡ points_of a + points_of b
points_of-append [] b = omega arith
points_of-append (Point ∷ a) b = let h = points_of-append a b in omega arith
points_of-append (Bound e ∷ a) b = points_of-append a b

pub bounds_of-append : (a b : List Step) → bounds_of (a ++ b) ≡ bounds_of a ++ bounds_of b
bounds_of-append [] b = refl
bounds_of-append (Point ∷ a) b = bounds_of-append a b
bounds_of-append (Bound e ∷ a) b = ap (λ es. e ∷ es) (bounds_of-append a b)

pub steps_of-push : (layers : List Layer) (l : Layer) → steps_of (layers ++ l ∷ []) ≡ steps_of layers ++ l.step ∷ []
steps_of-push layers l = map-append (λ (m : Layer). m.step) layers (l ∷ [])

points_push : (layers : List Layer) (l : Layer) → points_of (steps_of (layers ++ l ∷ [])) ≡ points_of (steps_of layers) + points_of (l.step ∷ [])
points_push layers l = ap points_of (steps_of-push layers l) ∙ points_of-append (steps_of layers) (l.step ∷ [])

bounds_push : (layers : List Layer) (l : Layer) → bounds_of (steps_of (layers ++ l ∷ [])) ≡ bounds_of (steps_of layers) ++ bounds_of (l.step ∷ [])
bounds_push layers l = ap bounds_of (steps_of-push layers l) ∙ bounds_of-append (steps_of layers) (l.step ∷ [])

-- ---- distances that are the same, place by place

distances_same : (width : ℕ) (edges : List Edge) (d e : ℕ → ℕ → Option ℤ) → ((x y : ℕ) → x < width → y < width → e x y ≡ d x y) → AreDistances width edges d → AreDistances width edges e
distances_same width edges d e same is = record {
  sound = λ x y v i j h. is.sound x y v i j (sym (same x y i j) ∙ h);
  own = λ x i. same x x i i ∙ is.own x i;
  points = is.points;
  edge = λ f m. subst (λ o. IsUnder o f.most) (sym (same f.from f.to ((is.points f m).0) ((is.points f m).1))) (is.edge f m);
  triangle = λ x y z a b i j k h l. subst (λ o. IsUnder o (a +ℤ b)) (sym (same x z i k)) (is.triangle x y z a b i j k (subst (λ o. IsUnder o a) (same x y i j) h) (subst (λ o. IsUnder o b) (same y z j k) l));
}

state_same : (width : ℕ) (steps : List Step) (c : Bool) (d e : ℕ → ℕ → Option ℤ) → ((x y : ℕ) → x < width → y < width → e x y ≡ d x y) → IsState width steps c d → IsState width steps c e
state_same width steps c d e same is = record { room = is.room; points = is.points; small = is.small; exact = λ f. distances_same width (bounds_of steps) d e same (is.exact f); bad = is.bad }

pub history_same : {width : ℕ} {layers : List Layer} {c : Bool} {d : ℕ → ℕ → Option ℤ} (e : ℕ → ℕ → Option ℤ) → ((x y : ℕ) → x < width → y < width → e x y ≡ d x y) → IsHistory width layers c d → IsHistory width layers c e
history_same {width} {d = d} e same (begun s) = begun (state_same width [] false d e same s)
history_same {width} {d = d} e same (continued {layers} {c} {c'} l h q saved s) = continued l h q (record {
  old = saved.old;
  others = λ x y i j. elim (saved.others x y i j) [ inl k ↦ inl k | inr k ↦ inr (same x y i j ∙ k) ];
}) (state_same width (steps_of (layers ++ l ∷ [])) c' d e same s)

pub state_of : {width : ℕ} {layers : List Layer} {c : Bool} {d : ℕ → ℕ → Option ℤ} → IsHistory width layers c d → IsState width (steps_of layers) c d
state_of (begun s) = s
state_of (continued l h q saved s) = s

-- ---- more room

diagonal : ℕ → ℕ → Option ℤ
diagonal x y = if x == y then Some (pos 0) else None

own_diagonal : (x : ℕ) → (if x == x then Some (pos 0) else None) ≡ Some (pos 0)
own_diagonal x = ap (λ (t : Bool). if t then Some (pos 0) else None) (eq-eqb x x refl)

diagonal_under : (x y : ℕ) (a : ℤ) → IsUnder (if x == y then Some (pos 0) else None) a → (x ≡ y) × (pos 0 ≤ℤ a)
diagonal_under x y a h = go (eqb x y) refl h
  where
    go : (t : Bool) → eqb x y ≡ t → IsUnder (if t then Some (pos 0) else None) a → (x ≡ y) × (pos 0 ≤ℤ a)
    go true e k = (eqb-true x y e, k)
    go false e k = absurd k

diagonal_value : (x y : ℕ) (v : ℤ) → (if x == y then Some (pos 0) else None) ≡ Some v → (x ≡ y) × (pos 0 ≡ v)
diagonal_value x y v h = go (eqb x y) refl h
  where
    go : (t : Bool) → eqb x y ≡ t → (if t then Some (pos 0) else None) ≡ Some v → (x ≡ y) × (pos 0 ≡ v)
    go true e k = (eqb-true x y e, let q : pos 0 ≡ v = cc in q)
    go false e k = absurd (cc)

weaker : (o : Option ℤ) (b c : ℤ) → IsUnder o b → b ≤ℤ c → IsUnder o c
weaker None b c h l = h
weaker (Some v) b c h l = omega (arith, ints)

-- a point's distances are among those below w, or beyond
In : ℕ → (ℕ → ℕ → Option ℤ) → (ℕ → ℕ → Option ℤ) → ℕ → ℕ → Type 0
In w d e x y = (x < w) × (y < w) × (e x y ≡ d x y)

module _ (w w' : ℕ) (edges : List Edge) (d e : ℕ → ℕ → Option ℤ) (more : w ≤ w') (wide : (x y : ℕ) → x < w' → y < w' → IsDistanceIn w d x y (e x y)) (is : AreDistances w edges d) where
  look : (x y : ℕ) → x < w' → y < w' → ((x < w) × (y < w) × (e x y ≡ d x y)) ⊎ (e x y ≡ (if x == y then Some (pos 0) else None))
  look x y i j = elim (cases_lt x w) [
    | inl a ↦ elim (cases_lt y w) [
      | inl b ↦ inl (a, b, (wide x y i j).inside a b)
      | inr b ↦ inr ((wide x y i j).beyond (inr b))
    ]
    | inr a ↦ inr ((wide x y i j).beyond (inl a))
  ]

  sound : (x y : ℕ) (v : ℤ) → x < w' → y < w' → e x y ≡ Some v → Path edges x y v
  sound x y v i j h = elim (look x y i j) [
    | inl k ↦ is.sound x y v k.0 k.1 (sym k.2 ∙ h)
    | inr k ↦ (let q = diagonal_value x y v (sym k ∙ h) in subst (λ z. Path edges x z v) q.0 (subst (λ (z : ℤ). Path edges x x z) q.1 path_none))
  ]

  triangle : (x y z : ℕ) (a b : ℤ) → x < w' → y < w' → z < w' → IsUnder (e x y) a → IsUnder (e y z) b → IsUnder (e x z) (a +ℤ b)
  triangle x y z a b i j k h l = elim (look x y i j) [
    | inl p ↦ elim (look y z j k) [
      | inl q ↦ subst (λ o. IsUnder o (a +ℤ b)) (sym ((wide x z i k).inside p.0 q.1)) (is.triangle x y z a b p.0 p.1 q.1 (subst (λ o. IsUnder o a) p.2 h) (subst (λ o. IsUnder o b) q.2 l))
      | inr q ↦ (let s = diagonal_under y z b (subst (λ o. IsUnder o b) q l) in weaker (e x z) a (a +ℤ b) (subst (λ t. IsUnder (e x t) a) s.0 h) (let r = s.1 in omega (arith, ints)))
    ]
    | inr p ↦ (let s = diagonal_under x y a (subst (λ o. IsUnder o a) p h) in weaker (e x z) b (a +ℤ b) (subst (λ t. IsUnder (e t z) b) (sym s.0) l) (let r = s.1 in omega (arith, ints)))
  ]

  pub distances_wide : AreDistances w' edges e
  distances_wide = record {
    sound = sound;
    own = λ x i. elim (look x x i i) [ inl k ↦ k.2 ∙ is.own x k.0 | inr k ↦ k ∙ own_diagonal x ];
    points = λ f m. let p = is.points f m in (omega (arith, p.0), omega (arith, p.1));
    edge = λ f m. let p = is.points f m in subst (λ o. IsUnder o f.most) (sym ((wide f.from f.to (omega (arith, p.0)) (omega (arith, p.1))).inside p.0 p.1)) (is.edge f m);
    triangle = triangle;
  }

-- the distances among the points below w, and beyond
wide_of : ℕ → (ℕ → ℕ → Option ℤ) → ℕ → ℕ → Option ℤ
wide_of w d x y = cond (ltb x w) (cond (ltb y w) (d x y) (if x == y then Some (pos 0) else None)) (if x == y then Some (pos 0) else None)

wide_is : (w : ℕ) (d : ℕ → ℕ → Option ℤ) (x y : ℕ) → IsDistanceIn w d x y (wide_of w d x y)
unfolding wide_of
wide_is w d x y = record {
  inside = λ i j. rw (lt-ltb x w i, lt-ltb y w j) refl;
  beyond = λ h. elim h [
    | inl i ↦ rw (le-ltb x w i) refl
    | inr j ↦ go (ltb x w) j
  ];
}
  where
    go : (t : Bool) → w ≤ y → cond t (cond (ltb y w) (d x y) (if x == y then Some (pos 0) else None)) (if x == y then Some (pos 0) else None) ≡ (if x == y then Some (pos 0) else None)
    go true j = rw (le-ltb y w j) refl
    go false j = refl

-- two that are the distance in one place are one
one_distance : (w : ℕ) (d : ℕ → ℕ → Option ℤ) (x y : ℕ) (o p : Option ℤ) → IsDistanceIn w d x y o → IsDistanceIn w d x y p → o ≡ p
one_distance w d x y o p a b = elim (cases_lt x w) [
  | inl i ↦ elim (cases_lt y w) [
    | inl j ↦ a.inside i j ∙ sym (b.inside i j)
    | inr j ↦ a.beyond (inr j) ∙ sym (b.beyond (inr j))
  ]
  | inr i ↦ a.beyond (inl i) ∙ sym (b.beyond (inl i))
]

state_wide : (w w' : ℕ) (steps : List Step) (c : Bool) (d : ℕ → ℕ → Option ℤ) → w ≤ w' → IsState w steps c d → IsState w' steps c (wide_of w d)
state_wide w w' steps c d more is = record {
  room = let r = is.room in omega arith;
  points = is.points;
  small = is.small;
  exact = λ f. distances_wide w w' (bounds_of steps) d (wide_of w d) more (λ x y i j. wide_is w d x y) (is.exact f);
  bad = is.bad;
}

history_wide : {w : ℕ} {layers : List Layer} {c : Bool} {d : ℕ → ℕ → Option ℤ} (w' : ℕ) → w ≤ w' → IsHistory w layers c d → IsHistory w' layers c (wide_of w d)
history_wide {w} {d = d} w' more (begun s) = begun (state_wide w w' [] false d more s)
history_wide {w} {d = d'} w' more (continued {layers} {c} {c'} {d} l h q saved s) = continued l (history_wide w' more h) q (record {
  old = λ t m. let o = saved.old t m in (omega (arith, o.0), omega (arith, o.1), o.2 ∙ sym ((wide_is w d t.x t.y).inside o.0 o.1));
  others = λ x y i j. others x y;
}) (state_wide w w' (steps_of (layers ++ l ∷ [])) c' d' more s)
  where
    others : (x y : ℕ) → IsSaved l.saved.items x y ⊎ (wide_of w d' x y ≡ wide_of w d x y)
    others x y = elim (cases_lt x w) [
      | inl i ↦ elim (cases_lt y w) [
        | inl j ↦ elim (saved.others x y i j) [
          | inl k ↦ inl k
          | inr k ↦ inr ((wide_is w d' x y).inside i j ∙ k ∙ sym ((wide_is w d x y).inside i j))
        ]
        | inr j ↦ inr ((wide_is w d' x y).beyond (inr j) ∙ sym ((wide_is w d x y).beyond (inr j)))
      ]
      | inr i ↦ inr ((wide_is w d' x y).beyond (inl i) ∙ sym ((wide_is w d x y).beyond (inl i)))
    ]

pub kept_wide : (size w w' : ℕ) (edges : List Edge) (c : Bool) (matrix matrix' : List (Option ℤ)) (layers : List Layer) → AreKept size w edges c matrix layers → w ≤ w' → w' ≤ 2 ^ 24 → length matrix' ≡ w' * w' →
    ((x y : ℕ) → x < w' → y < w' → IsDistanceIn w (distance w matrix) x y (distance w' matrix' x y)) → AreKept size w' edges c matrix' layers
kept_wide size w w' edges c matrix matrix' layers is more few long entries = record {
  few = few;
  long = long;
  points = is.points;
  edges_are = is.edges_are;
  history = history_same (distance w' matrix') (λ x y i j. one_distance w (distance w matrix) x y (distance w' matrix' x y) (wide_of w (distance w matrix) x y) (entries x y i j) (wide_is w (distance w matrix) x y)) (history_wide w' more is.history);
}

-- ---- one step more

pub nothing_saved : (width : ℕ) (saved : List Saved) (d : ℕ → ℕ → Option ℤ) → saved ≡ [] → AreSaved width saved d d
nothing_saved width saved d e = record { old = λ s m. absurd (let l = m.1 in let n = ap length e in omega arith); others = λ x y i j. inr refl }

state_point : (width : ℕ) (steps more : List Step) (c : Bool) (d : ℕ → ℕ → Option ℤ) → points_of more ≡ points_of steps + 1 → bounds_of more ≡ bounds_of steps → points_of steps < width → IsState width steps c d → IsState width more c d
state_point width steps more c d p b room is = record {
  room = omega arith;
  points = λ e m. let q = is.points e (subst (λ (es : List Edge). Contains es e) b m) in (omega (arith, q.0), omega (arith, q.1));
  small = λ e m. is.small e (subst (λ (es : List Edge). Contains es e) b m);
  exact = λ f. subst (λ es. AreDistances width es d) (sym b) (is.exact f);
  bad = λ t. subst HasNegativeCycle (sym b) (is.bad t);
}

pub kept_point : (size width : ℕ) (edges : List Edge) (c : Bool) (matrix : List (Option ℤ)) (layers : List Layer) (l : Layer) → AreKept size width edges c matrix layers → size < width → l.step ≡ Point → l.cyclic ≡ c → l.saved.items ≡ [] → AreKept (size + 1) width edges c matrix (layers ++ l ∷ [])
kept_point size width edges c matrix layers l is room step cyclic saved = record {
  few = is.few;
  long = is.long;
  points = let p = is.points in omega (arith, points);
  edges_are = is.edges_are ∙ sym bounds;
  history = continued l is.history cyclic (nothing_saved width l.saved.items (distance width matrix) saved)
      (state_point width (steps_of layers) (steps_of (layers ++ l ∷ [])) c (distance width matrix) points bounds (let p = is.points in omega arith) (state_of is.history));
}
  where
    points : points_of (steps_of (layers ++ l ∷ [])) ≡ points_of (steps_of layers) + 1
    points = points_push layers l ∙ ap (λ (s : Step). points_of (steps_of layers) + points_of (s ∷ [])) step

    bounds : bounds_of (steps_of (layers ++ l ∷ [])) ≡ bounds_of (steps_of layers)
    bounds = bounds_push layers l ∙ ap (λ (s : Step). bounds_of (steps_of layers) ++ bounds_of (s ∷ [])) step ∙ append-nil (bounds_of (steps_of layers))

pub matrix_of : (size width : ℕ) (edges : List Edge) (c : Bool) (matrix : List (Option ℤ)) (layers : List Layer) → AreKept size width edges c matrix layers → IsMatrix width edges c matrix
matrix_of size width edges c matrix layers is = subst (λ es. IsMatrix width es c matrix) (sym is.edges_are) (record {
  few = is.few;
  long = is.long;
  points = λ e m. let p = s.points e m in let r = s.room in (omega (arith, p.0), omega (arith, p.1));
  small = s.small;
  exact = s.exact;
  bad = s.bad;
})
  where
    s : IsState width (steps_of layers) c (distance width matrix)
    s = state_of is.history

-- its bounds are between its points
pub within : (size width : ℕ) (edges : List Edge) (c : Bool) (matrix : List (Option ℤ)) (layers : List Layer) → AreKept size width edges c matrix layers → (size ≤ width) × ((e : Edge) → Contains edges e → (e.from < size) × (e.to < size))
within size width edges c matrix layers is = (
  let r = (state_of is.history).room in let p = is.points in omega arith,
  λ e m. let q = (state_of is.history).points e (subst (λ (es : List Edge). Contains es e) is.edges_are m) in let p = is.points in (omega (arith, q.0), omega (arith, q.1)),
)

pub kept_bound : (size width : ℕ) (edges : List Edge) (c c' : Bool) (matrix matrix' : List (Option ℤ)) (layers : List Layer) (l : Layer) (e : Edge) → AreKept size width edges c matrix layers → e.from < size → e.to < size → l.step ≡ Bound e → l.cyclic ≡ c →
    AreSaved width l.saved.items (distance width matrix) (distance width matrix') → IsMatrix width (edges ++ e ∷ []) c' matrix' → AreKept size width (edges ++ e ∷ []) c' matrix' (layers ++ l ∷ [])
kept_bound size width edges c c' matrix matrix' layers l e is inx iny step cyclic saved next = record {
  few = next.few;
  long = next.long;
  points = let p = is.points in omega (arith, points);
  edges_are = ap (λ es. es ++ e ∷ []) is.edges_are ∙ sym bounds;
  history = continued l is.history cyclic saved (record {
    room = let r = (within size width edges c matrix layers is).0 in let p = is.points in omega (arith, points);
    points = λ f m. let p = is.points in elim (Contains-push_cases edges e f (of m)) [
      | inl k ↦ (let q = (within size width edges c matrix layers is).1 f k in (omega (arith, points, q.0), omega (arith, points, q.1)))
      | inr g ↦ (let a : f.from < size = subst (λ (w : Edge). w.from < size) g inx in let b : f.to < size = subst (λ (w : Edge). w.to < size) g iny in (omega (arith, points), omega (arith, points)))
    ];
    small = λ f m. next.small f (of m);
    exact = λ f. subst (λ es. AreDistances width es (distance width matrix')) same (next.exact f);
    bad = λ t. subst HasNegativeCycle same (next.bad t);
  });
}
  where
    points : points_of (steps_of (layers ++ l ∷ [])) ≡ points_of (steps_of layers)
    points = points_push layers l ∙ ap (λ (s : Step). points_of (steps_of layers) + points_of (s ∷ [])) step ∙ (let h : points_of (steps_of layers) + 0 ≡ points_of (steps_of layers) = omega arith in h)

    bounds : bounds_of (steps_of (layers ++ l ∷ [])) ≡ bounds_of (steps_of layers) ++ e ∷ []
    bounds = bounds_push layers l ∙ ap (λ (s : Step). bounds_of (steps_of layers) ++ bounds_of (s ∷ [])) step

    same : edges ++ e ∷ [] ≡ bounds_of (steps_of (layers ++ l ∷ []))
    same = ap (λ es. es ++ e ∷ []) is.edges_are ∙ sym bounds

    of : {f : Edge} → Contains (bounds_of (steps_of (layers ++ l ∷ []))) f → Contains (edges ++ e ∷ []) f
    of {f} m = subst (λ (es : List Edge). Contains es f) (sym same) m

-- what was kept of a matrix before it was written to
pub saved_shortened : (size : ℕ) (matrix matrix' before after : List (Option ℤ)) (most : ℤ) (saved : List Saved) → ((s : Saved) → Contains saved s → IsShortened size matrix before most after s) →
    ((x y : ℕ) → x < size → y < size → IsSaved saved x y ⊎ (distance size matrix' x y ≡ distance size matrix x y)) → AreSaved size saved (distance size matrix) (distance size matrix')
saved_shortened size matrix matrix' before after most saved only each = record { old = λ s m. let h = only s m in (h.left, h.right, h.old); others = each }

-- each distance is the lesser of what it was and the way over the edge
pub entries_shortened : (size : ℕ) (matrix matrix' before after : List (Option ℤ)) (most : ℤ) (saved : List Saved) → ((s : Saved) → Contains saved s → IsShortened size matrix before most after s) →
    ((x y : ℕ) → x < size → y < size → IsSaved saved x y ⊎ (lesser (distance size matrix x y) (over_edge (entry before x) most (entry after y)) ≡ distance size matrix x y)) →
    ((s : Saved) → Contains saved s → distance size matrix' s.x s.y ≡ over_edge (entry before s.x) most (entry after s.y)) →
    ((x y : ℕ) → x < size → y < size → IsSaved saved x y ⊎ (distance size matrix' x y ≡ distance size matrix x y)) →
    (x y : ℕ) → x < size → y < size → distance size matrix' x y ≡ lesser (distance size matrix x y) (over_edge (entry before x) most (entry after y))
entries_shortened size matrix matrix' before after most saved only looked put each x y i j = elim (looked x y i j) [
  | inl k ↦ at_saved x y k
  | inr q ↦ elim (each x y i j) [
    | inl k ↦ at_saved x y k
    | inr u ↦ u ∙ sym q
  ]
]
  where
    at_saved : (x y : ℕ) → IsSaved saved x y → distance size matrix' x y ≡ lesser (distance size matrix x y) (over_edge (entry before x) most (entry after y))
    at_saved x y k = subst (λ a. distance size matrix' a y ≡ lesser (distance size matrix a y) (over_edge (entry before a) most (entry after y))) k.left
        (subst (λ b. distance size matrix' k.kept.x b ≡ lesser (distance size matrix k.kept.x b) (over_edge (entry before k.kept.x) most (entry after b))) k.right
        (put k.kept k.found ∙ sym (ap (λ o. lesser o (over_edge (entry before k.kept.x) most (entry after k.kept.y))) (sym (only k.kept k.found).old) ∙ (only k.kept k.found).shorter)))

-- ---- one step back

pub record Popped (width : ℕ) (layers : List Layer) (l : Layer) (d : ℕ → ℕ → Option ℤ) : Type 0 where
  pub cyclic : Bool
  pub distances : ℕ → ℕ → Option ℤ
  pub history : IsHistory width layers cyclic distances
  pub same : l.cyclic ≡ cyclic
  pub saved : AreSaved width l.saved.items distances d

popped : {width : ℕ} {all : List Layer} {c : Bool} {d : ℕ → ℕ → Option ℤ} → IsHistory width all c d → (layers : List Layer) (l : Layer) → all ≡ layers ++ l ∷ [] → Popped width layers l d
popped (begun s) layers l e = absurd (let h = ap length e ∙ length_push layers l in omega arith)
popped {width} {d = d'} (continued {layers = ls} {c} {c'} {d} m h q saved s) layers l e =
    subst (λ (n : Layer). Popped width layers n d') (snoc_last ls layers m l e)
    (record { cyclic = c; distances = d; history = subst (λ (ks : List Layer). IsHistory width ks c d) (snoc_front ls layers m l e) h; same = q; saved = saved })

pub popped_kept : (size width : ℕ) (edges : List Edge) (c : Bool) (matrix : List (Option ℤ)) (all layers : List Layer) (l : Layer) → AreKept size width edges c matrix all → all ≡ layers ++ l ∷ [] → Popped width layers l (distance width matrix)
popped_kept size width edges c matrix all layers l is e = popped is.history layers l e

pub kept_back : (size width : ℕ) (edges : List Edge) (c : Bool) (matrix matrix' : List (Option ℤ)) (all layers : List Layer) (l : Layer) → AreKept size width edges c matrix all → all ≡ layers ++ l ∷ [] → length matrix' ≡ length matrix →
    ((s : Saved) → Contains l.saved.items s → distance width matrix' s.x s.y ≡ s.distance) →
    ((x y : ℕ) → x < width → y < width → IsSaved l.saved.items x y ⊎ (distance width matrix' x y ≡ distance width matrix x y)) →
    AreKept (size - points_of (l.step ∷ [])) width (take (length edges - length (bounds_of (l.step ∷ []))) edges) l.cyclic matrix' layers
kept_back size width edges c matrix matrix' all layers l is e long put each = record {
  few = is.few;
  long = long ∙ is.long;
  points = let p : size ≡ points_of (steps_of layers) + points_of (l.step ∷ []) = is.points ∙ ap (λ ls. points_of (steps_of ls)) e ∙ points_push layers l in omega arith;
  edges_are = bounds;
  history = subst (λ b. IsHistory width layers b (distance width matrix')) (sym p.same) (history_same (distance width matrix') entries p.history);
}
  where
    p : Popped width layers l (distance width matrix)
    p = popped is.history layers l e

    all_bounds : edges ≡ bounds_of (steps_of layers) ++ bounds_of (l.step ∷ [])
    all_bounds = is.edges_are ∙ ap (λ ls. bounds_of (steps_of ls)) e ∙ bounds_push layers l

    bounds : take (length edges - length (bounds_of (l.step ∷ []))) edges ≡ bounds_of (steps_of layers)
    bounds = let n : length edges - length (bounds_of (l.step ∷ [])) ≡ length (bounds_of (steps_of layers)) = omega (arith, ap length all_bounds ∙ length-append (bounds_of (steps_of layers)) (bounds_of (l.step ∷ []))) in
        ap (λ k. take k edges) n ∙ ap (take (length (bounds_of (steps_of layers)))) all_bounds ∙ take-append_seam (bounds_of (steps_of layers)) (bounds_of (l.step ∷ []))

    at_saved : (x y : ℕ) → IsSaved l.saved.items x y → distance width matrix' x y ≡ p.distances x y
    at_saved x y k = subst (λ a. distance width matrix' a y ≡ p.distances a y) k.left (subst (λ b. distance width matrix' k.kept.x b ≡ p.distances k.kept.x b) k.right (put k.kept k.found ∙ (p.saved.old k.kept k.found).2))

    entries : (x y : ℕ) → x < width → y < width → distance width matrix' x y ≡ p.distances x y
    entries x y i j = elim (each x y i j) [
      | inl k ↦ at_saved x y k
      | inr u ↦ elim (p.saved.others x y i j) [
        | inl k ↦ at_saved x y k
        | inr v ↦ u ∙ v
      ]
    ]

-- ---- none yet

pub kept_none : (width : ℕ) (matrix : List (Option ℤ)) (layers : List Layer) → layers ≡ [] → IsMatrix width [] false matrix → AreKept 0 width [] false matrix layers
kept_none width matrix layers e is = subst (λ ls. AreKept 0 width [] false matrix ls) (sym e) (record {
  few = is.few;
  long = is.long;
  points = refl;
  edges_are = refl;
  history = begun (record { room = omega arith; points = λ f m. absurd (let l = m.1 in omega arith); small = is.small; exact = is.exact; bad = is.bad });
})

-- ---- a point more, where there is no room

pub full : (size width : ℕ) (edges : List Edge) (c : Bool) (matrix : List (Option ℤ)) (layers : List Layer) → AreKept size width edges c matrix layers → width ≤ size → width ≡ size
full size width edges c matrix layers is h = let r = (within size width edges c matrix layers is).0 in omega arith

pub kept_wider : (size width w : ℕ) (edges : List Edge) (c : Bool) (matrix now matrix' : List (Option ℤ)) (layers : List Layer) (l : Layer) → AreKept size width edges c matrix layers → width ≤ size → size < w → w ≤ 2 ^ 24 → now ≡ matrix → length matrix' ≡ w * w →
    ((x y : ℕ) → x < w → y < w → IsDistanceIn size (distance size now) x y (distance w matrix' x y)) → l.step ≡ Point → l.cyclic ≡ c → l.saved.items ≡ [] → AreKept (size + 1) w edges c matrix' (layers ++ l ∷ [])
kept_wider size width w edges c matrix now matrix' layers l is h more few same long entries step cyclic saved =
    kept_point size w edges c matrix' layers l
    (kept_wide size width w edges c matrix matrix' layers is (let r = (within size width edges c matrix layers is).0 in omega arith) few long
    (λ x y i j. subst (λ k. IsDistanceIn k (distance k matrix) x y (distance w matrix' x y)) (sym (full size width edges c matrix layers is h)) (subst (λ m. IsDistanceIn size (distance size m) x y (distance w matrix' x y)) same (entries x y i j))))
    more step cyclic saved

pub points_back : (size width : ℕ) (edges : List Edge) (c : Bool) (matrix : List (Option ℤ)) (all layers : List Layer) (l : Layer) → AreKept size width edges c matrix all → all ≡ layers ++ l ∷ [] → points_of (l.step ∷ []) ≤ size
points_back size width edges c matrix all layers l is e = let p : size ≡ points_of (steps_of layers) + points_of (l.step ∷ []) = is.points ∙ ap (λ ls. points_of (steps_of ls)) e ∙ points_push layers l in omega arith

pub saved_points : (width : ℕ) (saved now : List Saved) (d e : ℕ → ℕ → Option ℤ) → AreSaved width saved d e → now ≡ saved → (s : Saved) → Contains now s → (s.x < width) × (s.y < width)
saved_points width saved now d e is same s m = let o = is.old s (subst (λ (l : List Saved). Contains l s) same m) in (o.0, o.1)

pub saved_one : (width : ℕ) (saved now : List Saved) (d e : ℕ → ℕ → Option ℤ) → AreSaved width saved d e → now ≡ saved → (s t : Saved) → Contains now s → Contains now t → s.x ≡ t.x → s.y ≡ t.y → s.distance ≡ t.distance
saved_one width saved now d e is same s t m n a b =
    (is.old s (subst (λ (l : List Saved). Contains l s) same m)).2 ∙ ap (λ x. d x s.y) a ∙ ap (λ y. d t.x y) b ∙ sym (is.old t (subst (λ (l : List Saved). Contains l t) same n)).2

-- ---- what the last step changed

pub record EndsIn {X : Type 0} (xs : List X) (x : X) : Type 0 where
  pub front : List X
  pub is : xs ≡ front ++ x ∷ []

ends_at : {X : Type 0} (xs : List X) (x : X) (n : ℕ) → n + 1 ≡ length xs → slice_get xs n ≡ Some x → EndsIn xs x
ends_at [] x n e h = absurd (omega arith)
ends_at (y ∷ []) x zero e h = record { front = []; is = let k : y ≡ x = cc in ap (λ z. z ∷ []) k }
ends_at (y ∷ []) x (suc n) e h = absurd (omega arith)
ends_at (y ∷ z ∷ zs) x zero e h = absurd (omega arith)
ends_at (y ∷ z ∷ zs) x (suc n) e h = let r = ends_at (z ∷ zs) x n (omega arith) h in record { front = y ∷ r.front; is = ap (λ ws. y ∷ ws) r.is }

pub ends_in : {X : Type 0} (xs : List X) (x : X) → slice_get xs (length xs - 1) ≡ Some x → EndsIn xs x
ends_in xs x e = ends_at xs x (length xs - 1) (let h = slice_get_within xs (length xs - 1) x e in omega arith) e

take_last : (ss : List Step) (s : Step) → take (length (ss ++ s ∷ []) - 1) (ss ++ s ∷ []) ≡ ss
take_last ss s = let h = length_push ss s in ap (λ n. take n (ss ++ s ∷ [])) (let k : length (ss ++ s ∷ []) - 1 ≡ length ss = omega arith in k) ∙ take-append_seam ss (s ∷ [])

cycle_more : (edges : List Edge) (e : Edge) → HasNegativeCycle edges → HasNegativeCycle (edges ++ e ∷ [])
cycle_more edges e h = record { point = h.point; total = h.total; cycle = ways.more e h.cycle; below = h.below }

cycle_step : (steps : List Step) (s : Step) → HasNegativeCycle (bounds_of steps) → HasNegativeCycle (bounds_of (steps ++ s ∷ []))
cycle_step steps Point h = subst HasNegativeCycle (sym (bounds_of-append steps (Point ∷ []) ∙ append-nil (bounds_of steps))) h
cycle_step steps (Bound e) h = subst HasNegativeCycle (sym (bounds_of-append steps (Bound e ∷ []))) (cycle_more (bounds_of steps) e h)

unset : (b : Bool) → (b ≡ true → ⊥) → b ≡ false
unset true h = absurd (h refl)
unset false h = refl

under_number : (o : Option ℤ) (c : ℤ) → IsUnder o c → (v : ℤ) × (o ≡ Some v) × (v ≤ℤ c)
under_number None c h = absurd h
under_number (Some v) c h = (v, refl, h)

module _ (size width : ℕ) (edges : List Edge) (c : Bool) (matrix : List (Option ℤ)) (all : List Layer) (weight : ℕ) (l : Layer) (is : AreKept size width edges c matrix all) (ends : EndsIn all l) where
  before_is : all_but_last (steps_of all) ≡ steps_of ends.front
  before_is = ap (λ (ls : List Layer). all_but_last (steps_of ls)) ends.is ∙ ap all_but_last (steps_of-push ends.front l) ∙ take_last (steps_of ends.front) l.step

  pub only_saved : (HasNegativeCycle edges → ⊥) → OnlySavedShorten (record { size = size; edges = edges; steps = steps_of all; weight = weight }) l.saved.items
  only_saved fine = subst (λ (ss : List Step). (x y : ℕ) (k : ℤ) → x < size → y < size → (IsSaved l.saved.items x y → ⊥) → Path edges x y k → HasPathUnder (bounds_of ss) x y k) (sym before_is)
      (λ x y k i j n h.
      let u = under_number (distance width matrix x y) k (ways.at_most width edges (distance width matrix) now_exact (omega (arith, room)) (omega (arith, room)) h) in
      let same : distance width matrix x y ≡ back.distances x y = still x y (omega (arith, room)) (omega (arith, room)) n in
      record { total = u.0; path = before_exact.sound x y u.0 (omega (arith, room)) (omega (arith, room)) (sym same ∙ u.1); under = u.2 })
    where
      back : Popped width ends.front l (distance width matrix)
      back = popped_kept size width edges c matrix all ends.front l is ends.is

      room : size ≤ width
      room = (within size width edges c matrix all is).0

      now_exact : AreDistances width edges (distance width matrix)
      now_exact = (matrix_of size width edges c matrix all is).exact (unset c (λ e. fine ((matrix_of size width edges c matrix all is).bad e)))

      before_exact : AreDistances width (bounds_of (steps_of ends.front)) back.distances
      before_exact = (state_of back.history).exact (unset back.cyclic (λ e. fine (subst HasNegativeCycle (sym (is.edges_are ∙ ap (λ (ls : List Layer). bounds_of (steps_of ls)) ends.is ∙ ap bounds_of (steps_of-push ends.front l))) (cycle_step (steps_of ends.front) l.step ((state_of back.history).bad e)))))

      still : (x y : ℕ) → x < width → y < width → (IsSaved l.saved.items x y → ⊥) → distance width matrix x y ≡ back.distances x y
      still x y i j n = elim (back.saved.others x y i j) [
        | inl m ↦ absurd (n m)
        | inr e ↦ e
      ]

-- before the first step there is nothing
pub none_saved : (size width : ℕ) (edges : List Edge) (c : Bool) (matrix : List (Option ℤ)) (all : List Layer) (weight : ℕ) (saved : List Saved) → AreKept size width edges c matrix all → length all ≡ 0 → OnlySavedShorten (record { size = size; edges = edges; steps = steps_of all; weight = weight }) saved
none_saved size width edges c matrix [] weight saved is e = λ x y k i j n h. absurd (let p = is.points in omega arith)
none_saved size width edges c matrix (l ∷ ls) weight saved is e = absurd (omega arith)
