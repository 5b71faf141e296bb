-- Walks against the edges, from the nodes that were finished last.
use Rattle.std.proofs.Common.{◌≡◌, ◌≢◌, ◌⊎◌, ℕ, ◌+◌, ◌<◌, ◌≤◌, Bool, List, [], ◌∷◌, ◌++◌, reverse, length, take, drop, sym, ap, subst, ◌∙◌, inl, inr, arith}
use Rattle.std.specs.Prelude.{Contains, slice_index}
use Rattle.std.proofs.lemmas.List.{take-append-drop, drop_more, take_more, reverse-append, reverse-reverse, append_assoc}
use Rattle.std.proofs.lemmas.List.Elements.{Contains-append_left, Contains-append_right, Contains-append_cases}
use Rattle.std.proofs.lemmas.Bool.{cases_eq}
use Rattle.vf_cycles.specs.Reaching.{Way, Reaches}
use Rattle.vf_cycles.specs.Graphs.{Edge, AreEdges, IsMarked, EachOnce, HasNoCycle, IsOrder}
use Rattle.vf_cycles.specs.Walks.{IsRanked, IsWalk, IsFinished, IsMarkedFrom}
use Rattle.vf_cycles.proofs.Lists.{here, there, nowhere, front_or_behind, reverse_push, in_reverse, from_reverse, once_apart, once_front, once_reverse}
use Rattle.vf_cycles.proofs.Ways.{one_step, both_ways, turned, last_step}

-- ---- finished nodes are closed under edges

pub closed : (sources targets finished : List ℕ) (seen : List Bool) (left : List ℕ) → IsWalk sources targets [] finished seen left
    → (u v : ℕ) → Contains finished u → Edge sources targets u v → Contains finished v
closed sources targets finished seen left w u v c e =
    let none : slice_index left (slice_index sources e.at) ≡ 0 = ap (slice_index left) e.begins ∙ w.done u c in
    from_reverse finished v (subst (λ x. Contains (reverse finished) x) e.ends (w.followed e.at e.within (omega arith)))

closed_way : (sources targets finished : List ℕ) (seen : List Bool) (left : List ℕ) → IsWalk sources targets [] finished seen left
    → (u v : ℕ) (through : List ℕ) → Contains finished u → Way (Edge sources targets) u through v → Contains finished v
closed_way sources targets finished seen left w u v [] c h = closed sources targets finished seen left w u v c h
closed_way sources targets finished seen left w u v (x ∷ xs) c h =
    closed_way sources targets finished seen left w x v xs (closed sources targets finished seen left w u x c h.0) h.1

pub edge_turned : (sources targets : List ℕ) → length sources ≡ length targets → (u v : ℕ) → Edge sources targets u v → Edge targets sources v u
edge_turned sources targets pairs u v e = record { at = e.at; within = let w = e.within in omega arith; begins = e.ends; ends = e.begins }

-- what reaches a node that a walk against the edges has finished is finished
pub closed_back : (sources targets finished : List ℕ) (seen : List Bool) (left : List ℕ) → length sources ≡ length targets → IsWalk targets sources [] finished seen left
    → (u v : ℕ) → Contains finished v → Reaches (Edge sources targets) u v → Contains finished u
closed_back sources targets finished seen left pairs w u v c r =
    let back = turned (Edge sources targets) (Edge targets sources) (edge_turned sources targets pairs) u v r in
    closed_way targets sources finished seen left w v u back.through c back.way

-- ---- one component

module _ (count : ℕ) (sources targets order : List ℕ) (at root : ℕ) (finished more : List ℕ) (seen seen' : List Bool) (left left' : List ℕ)
    (pairs : length sources ≡ length targets) (all : IsFinished count sources targets order) (within : at < length order) (is_root : root ≡ slice_index order at)
    (old : IsWalk targets sources [] finished seen left) (new : IsWalk targets sources [] (finished ++ more) seen' left') (nodes : length seen' ≡ count)
    (each : (u : ℕ) → Contains more u → (u ≡ root) ⊎ Reaches (Edge targets sources) root u)
    (covered : (u : ℕ) → Contains (drop (at + 1) order) u → Contains finished u)
    (ranked : IsRanked sources targets (drop (at + 1) order) (reverse (take (at + 1) order))) where
  pub front : reverse (take (at + 1) order) ≡ root ∷ reverse (take at order)
  front = ap reverse (take_more order at 0 within) ∙ reverse_push (take at order) (slice_index order at) ∙ ap (λ x. x ∷ reverse (take at order)) (sym is_root)

  pub behind : drop at order ≡ root ∷ drop (at + 1) order
  behind = drop_more order at 0 within ∙ ap (λ x. x ∷ drop (at + 1) order) (sym is_root)

  heads : IsRanked sources targets (drop (at + 1) order) (root ∷ reverse (take at order))
  heads = subst (IsRanked sources targets (drop (at + 1) order)) front ranked

  pub ranked_next : IsRanked sources targets (drop at order) (reverse (take at order))
  ranked_next = subst (λ l. IsRanked sources targets l (reverse (take at order))) (sym behind) heads.1

  -- new nodes are not old ones
  pub is_new : (u : ℕ) → Contains more u → Contains finished u → ⊥
  is_new u m f =
      let once : EachOnce (reverse more ++ reverse finished) = subst EachOnce (reverse-append finished more) new.once in
      once_apart (reverse more) (reverse finished) u once (in_reverse more u m) (in_reverse finished u f)

  pub more_within : (u : ℕ) → Contains more u → u < count
  more_within u m = subst (λ n. u < n) nodes (new.inside u (in_reverse (finished ++ more) u (Contains-append_right finished more u m)))

  -- a new node that is not the root stands in front of it in the order
  in_front : (u : ℕ) → Contains more u → u ≢ root → Contains (reverse (take at order)) u
  in_front u m other =
      let there_ : Contains (take at order ++ drop at order) u = subst (λ l. Contains l u) (sym (take-append-drop at order)) (all.each u (more_within u m)) in
      elim (Contains-append_cases (take at order) (drop at order) u there_) [
        | inl before ↦ in_reverse (take at order) u before
        | inr after ↦ elim (front_or_behind root u (drop (at + 1) order) (subst (λ l. Contains l u) behind after)) [
          | inl same ↦ absurd (other (sym same))
          | inr rest ↦ absurd (is_new u m (covered u rest))
        ]
      ]

  to_root : (u : ℕ) → Contains more u → u ≢ root → Reaches (Edge sources targets) u root
  to_root u m other = elim (each u m) [
    | inl same ↦ absurd (other same)
    | inr reach ↦ turned (Edge targets sources) (Edge sources targets) (edge_turned targets sources (sym pairs)) root u reach
  ]

  from_root : (u : ℕ) → Contains more u → u ≢ root → Reaches (Edge sources targets) root u
  from_root u m other = elim (heads.0 u (in_front u m other) (to_root u m other)) [
    | inl back ↦ back
    | inr out ↦ absurd (is_new u m (closed_back sources targets finished seen left pairs old u out.0 (covered out.0 out.1) out.2))
  ]

  around : (u : ℕ) → Contains more u → u ≢ root → Reaches (Edge sources targets) root root × Reaches (Edge sources targets) u u
  around u m other = (
    both_ways (Edge sources targets) root u root (from_root u m other) (to_root u m other),
    both_ways (Edge sources targets) u root u (to_root u m other) (from_root u m other),
  )

  another : (xs : List ℕ) → EachOnce xs → 1 < length xs → (u : ℕ) × Contains xs u × (u ≢ root)
  another [] once long = absurd (let no : ⊥ = omega arith in no)
  another (x ∷ []) once long = absurd (let no : ⊥ = omega arith in no)
  another (x ∷ y ∷ ys) once long = elim (cases_eq x root) [
    | inl same ↦ (y, there x y (y ∷ ys) (here y ys), λ e. once.0 (subst (λ z. Contains (y ∷ ys) z) (e ∙ sym same) (here y ys)))
    | inr other ↦ (x, here x (y ∷ ys), other)
  ]

  more_once : EachOnce more
  more_once = subst EachOnce (reverse-reverse more) (once_reverse (reverse more) (once_front (reverse more) (reverse finished) (subst EachOnce (reverse-append finished more) new.once)))

  -- where more than one node is new, each of them reaches itself
  pub all_around : 1 < length more → (u : ℕ) → Contains more u → Reaches (Edge sources targets) u u
  all_around long u m = elim (cases_eq u root) [
    | inl same ↦ let other = another more more_once long in
        subst (λ x. Reaches (Edge sources targets) x x) (sym same) (around other.0 other.1 other.2).0
    | inr other ↦ (around u m other).1
  ]

  only : (xs : List ℕ) → length xs ≤ 1 → Contains xs root → (u : ℕ) → Contains xs u → u ≡ root
  only [] short r u c = absurd (nowhere u c)
  only (x ∷ []) short r u c = elim (front_or_behind x u [] c) [
    | inl same ↦ elim (front_or_behind x root [] r) [
      | inl is ↦ sym same ∙ is
      | inr none ↦ absurd (nowhere root none)
    ]
    | inr none ↦ absurd (nowhere u none)
  ]
  only (x ∷ y ∷ ys) short r u c = absurd (let no : ⊥ = omega arith in no)

  -- where the root alone is new, it reaches itself by an edge or not at all
  pub alone : length more ≤ 1 → Contains more root → Reaches (Edge sources targets) root root → Edge sources targets root root
  alone short r reach = elim (last_step (Edge sources targets) root root reach) [
    | inl edge ↦ edge
    | inr last ↦ elim (Contains-append_cases finished more last.0 (closed targets sources (finished ++ more) seen' left' new root last.0
        (Contains-append_right finished more root r) (edge_turned sources targets pairs last.0 root last.2))) [
          | inl old_ ↦ absurd (is_new root r (closed_back sources targets finished seen left pairs old root last.0 old_ last.1))
          | inr fresh ↦ subst (λ x. Edge sources targets x root) (only more short r last.0 fresh) last.2
        ]
  ]

  -- what is marked of the new nodes where the root alone is new
  pub only_root : length more ≤ 1 → Contains more root → (u : ℕ) → Contains more u → u ≡ root
  only_root short r u c = only more short r u c

  two_or_less : (n : ℕ) → (n ≤ 1) ⊎ (1 < n)
  two_or_less n = grind arith

  module _ (marks marks' : List Bool) (marking : IsMarkedFrom targets sources root finished (finished ++ more) marks marks') (same : more ≡ marking.more)
      (loops : (u : ℕ) → Edge sources targets u u → IsMarked marks u)
      (sound : (u : ℕ) → IsMarked marks u → Reaches (Edge sources targets) u u)
      (complete : (u : ℕ) → Contains finished u → Reaches (Edge sources targets) u u → IsMarked marks u) where
    pub next_covered : (u : ℕ) → Contains (drop at order) u → Contains (finished ++ more) u
    next_covered u c = elim (front_or_behind root u (drop (at + 1) order) (subst (λ l. Contains l u) behind c)) [
      | inl is ↦ subst (λ x. Contains (finished ++ more) x) is marking.rooted
      | inr rest ↦ Contains-append_left finished more u (covered u rest)
    ]

    pub next_loops : (u : ℕ) → Edge sources targets u u → IsMarked marks' u
    next_loops u e = marking.kept u (loops u e)

    pub next_sound : (u : ℕ) → IsMarked marks' u → Reaches (Edge sources targets) u u
    next_sound u m = elim (marking.marked u m) [
      | inl old_ ↦ sound u old_
      | inr fresh ↦ all_around (subst (λ l. 1 < length l) (sym same) fresh.1) u (subst (λ l. Contains l u) (sym same) fresh.0)
    ]

    fresh_marked : (u : ℕ) → Contains more u → Reaches (Edge sources targets) u u → (length more ≤ 1) ⊎ (1 < length more) → IsMarked marks' u
    fresh_marked u m r (inl short) =
        let rooted : Contains more root = subst (λ l. Contains l root) (sym same) (marking.first u (subst (λ l. Contains l u) same m)) in
        let is : u ≡ root = only_root short rooted u m in
        subst (λ x. IsMarked marks' x) (sym is)
        (next_loops root (alone short rooted (subst (λ x. Reaches (Edge sources targets) x x) is r)))
    fresh_marked u m r (inr long) = marking.all (subst (λ l. 1 < length l) same long) u (subst (λ l. Contains l u) same m)

    pub next_complete : (u : ℕ) → Contains (finished ++ more) u → Reaches (Edge sources targets) u u → IsMarked marks' u
    next_complete u c r = elim (Contains-append_cases finished more u c) [
      | inl old_ ↦ marking.kept u (complete u old_ r)
      | inr fresh ↦ fresh_marked u fresh r (two_or_less (length more))
    ]

-- ---- the order where no node reaches itself

none_in_front : (sources targets ahead xs rest : List ℕ) (u : ℕ) → HasNoCycle sources targets → IsRanked sources targets ahead (xs ++ u ∷ rest)
    → ((z : ℕ) → Contains ahead z → Reaches (Edge sources targets) u z → ⊥) → (w : ℕ) → Contains xs w → Reaches (Edge sources targets) u w → ⊥
none_in_front sources targets ahead [] rest u none h out w c r = nowhere w c
none_in_front sources targets ahead (x ∷ xs) rest u none h out w c r = elim (front_or_behind x w xs c) [
  | inl same ↦ not_x (subst (λ z. Reaches (Edge sources targets) u z) (sym same) r)
  | inr behind ↦ none_in_front sources targets (x ∷ ahead) xs rest u none h.1
      (λ z d s. elim (front_or_behind x z ahead d) [
        | inl is ↦ not_x (subst (λ y. Reaches (Edge sources targets) u y) (sym is) s)
        | inr old ↦ out z old s
      ]) w behind r
]
  where
    not_x : Reaches (Edge sources targets) u x → ⊥
    not_x s = elim (h.0 u (Contains-append_right xs (u ∷ rest) u (here u rest)) s) [
      | inl back ↦ none u (both_ways (Edge sources targets) u x u s back)
      | inr found ↦ out found.0 found.1 found.2
    ]

pub is_order : (count : ℕ) (sources targets order : List ℕ) → AreEdges count sources targets → IsFinished count sources targets order → HasNoCycle sources targets → IsOrder count sources targets order
is_order count sources targets order edges all none = record {
  nodes = all.nodes;
  each = all.each;
  once = subst EachOnce (reverse-reverse order) (once_reverse (reverse order) all.once);
  back = back;
}
  where
    back : (before after : List ℕ) (u w : ℕ) → order ≡ before ++ u ∷ after → Edge sources targets u w → Contains before w
    back before after u w is edge =
        let turned_ : reverse order ≡ reverse after ++ u ∷ reverse before =
        ap reverse is ∙ reverse-append before (u ∷ after) ∙ ap (λ l. l ++ reverse before) (reverse-append (u ∷ []) after) ∙ append_assoc (reverse after) (u ∷ []) (reverse before) in
        let ranked_ = subst (IsRanked sources targets []) turned_ all.ranked in
        let reach = one_step (Edge sources targets) u w edge in
        let within : w < count = subst (λ x. x < count) edge.ends (edges.end edge.at (let p = edges.pairs in let b = edge.within in omega arith)) in
        elim (Contains-append_cases before (u ∷ after) w (subst (λ l. Contains l w) is (all.each w within))) [
          | inl there_ ↦ there_
          | inr rest ↦ elim (front_or_behind u w after rest) [
            | inl same ↦ absurd (none u (subst (λ x. Reaches (Edge sources targets) u x) (sym same) reach))
            | inr behind ↦ absurd (none_in_front sources targets [] (reverse after) (reverse before) u none ranked_ (λ z c r. nowhere z c) w (in_reverse after w behind) reach)
          ]
        ]
