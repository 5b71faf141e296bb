-- What is true of a walk stays true at each of its steps.
use Rattle.std.proofs.Common.{◌≡◌, ◌⊎◌, ℕ, zero, ◌+◌, ◌-◌, ◌*◌, ◌<◌, ◌≤◌, suc, Bool, true, false, List, [], ◌∷◌, ◌++◌, reverse, replicate, length, get_or, refl, sym, ap, subst, ◌∙◌, inl, inr, arith, append_assoc}
use Rattle.std.specs.Prelude.{Contains, slice_index, slice_set, sum}
use Rattle.std.proofs.lemmas.List.{get_or-set_same, get_or-set_other, length-set, length-replicate, append-nil, get_or_append_left, get_or_push}
use Rattle.std.proofs.lemmas.List.Elements.{Contains-append_left, Contains-append_right, Contains-append_cases, Contains-push, Contains-push_cases}
use Rattle.std.proofs.lemmas.List.Sums.{sum_by-set}
use Rattle.std.proofs.lemmas.Bool.{cases_eq}
use Rattle.vf_cycles.specs.Reaching.{Reaches}
use Rattle.vf_cycles.specs.Graphs.{Edge, AreEdges, IsMarked, EachOnce}
use Rattle.vf_cycles.specs.Walks.{IsLast, AreChained, IsPath, IsRanked, IsWalk, IsReached, seen_nodes}
use Rattle.vf_cycles.proofs.Lists.{here, nowhere, front_or_behind, between, between_itself, between_cases, once_between, reverse_push, from_reverse}
use Rattle.vf_cycles.proofs.Ways.{one_step, then_step}
use Rattle.vf_cycles.proofs.Ranks.{ranked_between, reach_out, path_front, path_push, path_reaches}

-- ---- a node is finished

-- the seen nodes stay in their order where the innermost open one is finished
pub finished_same : (open_ finished : List ℕ) (u : ℕ) → seen_nodes (open_ ++ u ∷ []) finished ≡ seen_nodes open_ (finished ++ u ∷ [])
finished_same open_ finished u = append_assoc open_ (u ∷ []) (reverse finished) ∙ ap (λ l. open_ ++ l) (sym (reverse_push finished u))

pub finishes : (sources targets open_ finished : List ℕ) (seen : List Bool) (left : List ℕ) (u : ℕ)
    → IsWalk sources targets (open_ ++ u ∷ []) finished seen left → slice_index left u ≡ 0 → IsWalk sources targets open_ (finished ++ u ∷ []) seen left
finishes sources targets open_ finished seen left u w none =
    let same = finished_same open_ finished u in
    record {
      nodes = w.nodes;
      inside = subst (λ l. (v : ℕ) → Contains l v → v < length seen) same w.inside;
      marked = subst (λ l. (v : ℕ) → Contains l v → IsMarked seen v) same w.marked;
      known = subst (λ l. (v : ℕ) → IsMarked seen v → Contains l v) same w.known;
      once = subst EachOnce same w.once;
      path = path_front sources targets open_ u w.path;
      ranked = subst (IsRanked sources targets []) same w.ranked;
      within = w.within;
      begins = w.begins;
      followed = subst (λ l. (k : ℕ) → k < length sources → slice_index left (slice_index sources k) ≤ k → Contains l (slice_index targets k)) same w.followed;
      done = λ v c. elim (Contains-push_cases finished u v c) [
        | inl old ↦ w.done v old
        | inr is ↦ subst (λ x. slice_index left x ≡ 0) is none
      ];
    }

pub finishes_reached : (sources targets base open_ finished : List ℕ) (root u : ℕ)
    → IsReached sources targets root base (open_ ++ u ∷ []) finished → IsReached sources targets root base open_ (finished ++ u ∷ [])
finishes_reached sources targets base open_ finished root u r = record {
  more = r.more ++ u ∷ [];
  parts = ap (λ l. l ++ u ∷ []) r.parts ∙ append_assoc base r.more (u ∷ []);
  rooted = moved root r.rooted;
  each = λ v c. r.each v (moved_back v c);
}
  where
    moved : (v : ℕ) → Contains (r.more ++ (open_ ++ u ∷ [])) v → Contains ((r.more ++ u ∷ []) ++ open_) v
    moved v c = elim (Contains-append_cases r.more (open_ ++ u ∷ []) v c) [
      | inl front ↦ Contains-append_left (r.more ++ u ∷ []) open_ v (Contains-append_left r.more (u ∷ []) v front)
      | inr behind ↦ elim (Contains-push_cases open_ u v behind) [
        | inl old ↦ Contains-append_right (r.more ++ u ∷ []) open_ v old
        | inr is ↦ Contains-append_left (r.more ++ u ∷ []) open_ v (subst (λ x. Contains (r.more ++ u ∷ []) x) is (Contains-push r.more u))
      ]
    ]

    moved_back : (v : ℕ) → Contains ((r.more ++ u ∷ []) ++ open_) v → Contains (r.more ++ (open_ ++ u ∷ [])) v
    moved_back v c = elim (Contains-append_cases (r.more ++ u ∷ []) open_ v c) [
      | inr old ↦ Contains-append_right r.more (open_ ++ u ∷ []) v (Contains-append_left open_ (u ∷ []) v old)
      | inl front ↦ elim (Contains-push_cases r.more u v front) [
        | inl old ↦ Contains-append_left r.more (open_ ++ u ∷ []) v old
        | inr is ↦ Contains-append_right r.more (open_ ++ u ∷ []) v (subst (λ x. Contains (open_ ++ u ∷ []) x) is (Contains-push open_ u))
      ]
    ]

-- ---- a node is opened

opened_same : (open_ finished : List ℕ) (w : ℕ) → open_ ++ w ∷ reverse finished ≡ seen_nodes (open_ ++ w ∷ []) finished
opened_same open_ finished w = sym (append_assoc open_ (w ∷ []) (reverse finished))

pub marked_more : (seen : List Bool) (w v : ℕ) → w < length seen → (w ≡ v) ⊎ IsMarked seen v → IsMarked (slice_set seen w true) v
marked_more seen w v within (inl same) = subst (λ x. IsMarked (slice_set seen w true) x) same (get_or-set_same seen w true false within)
marked_more seen w v within (inr old) = elim (cases_eq v w) [
  | inl same ↦ subst (λ x. IsMarked (slice_set seen w true) x) (sym same) (get_or-set_same seen w true false within)
  | inr apart ↦ get_or-set_other seen w v true false apart ∙ old
]

pub marked_less : (seen : List Bool) (w v : ℕ) → IsMarked (slice_set seen w true) v → (w ≡ v) ⊎ IsMarked seen v
marked_less seen w v h = elim (cases_eq v w) [
  | inl same ↦ inl (sym same)
  | inr apart ↦ inr (sym (get_or-set_other seen w v true false apart) ∙ h)
]

-- a new node is opened behind the open ones, from which it is reached
pub opens : (sources targets open_ finished : List ℕ) (seen : List Bool) (left : List ℕ) (w : ℕ) → length sources ≡ length targets
    → IsWalk sources targets open_ finished seen left → w < length seen → (IsMarked seen w → ⊥)
    → IsPath sources targets (open_ ++ w ∷ [])
    → IsWalk sources targets (open_ ++ w ∷ []) finished (slice_set seen w true) left
opens sources targets open_ finished seen left w pairs h within new path =
    let same = opened_same open_ finished w in
    let long : length (slice_set seen w true) ≡ length seen = length-set seen w true in
    let not_seen : Contains (seen_nodes open_ finished) w → ⊥ = λ c. new (h.marked w c) in
    let closed : (u v : ℕ) → Contains (reverse finished) u → Edge sources targets u v → Contains open_ v ⊎ Contains (reverse finished) v =
    λ u v c e. Contains-append_cases open_ (reverse finished) v
    (subst (λ x. Contains (seen_nodes open_ finished) x) e.ends (h.followed e.at e.within
    (let none : slice_index left (slice_index sources e.at) ≡ 0 = ap (slice_index left) e.begins ∙ h.done u (from_reverse finished u c) in omega arith))) in
    record {
      nodes = h.nodes ∙ sym long;
      inside = λ v c. subst (λ n. v < n) (sym long) (elim (between_cases open_ (reverse finished) w v (subst (λ l. Contains l v) (sym same) c)) [
        | inl is ↦ subst (λ x. x < length seen) is within
        | inr old ↦ h.inside v old
      ]);
      marked = λ v c. marked_more seen w v within (elim (between_cases open_ (reverse finished) w v (subst (λ l. Contains l v) (sym same) c)) [
        | inl is ↦ inl is
        | inr old ↦ inr (h.marked v old)
      ]);
      known = λ v m. subst (λ l. Contains l v) same (elim (marked_less seen w v m) [
        | inl is ↦ subst (λ x. Contains (open_ ++ w ∷ reverse finished) x) is (between_itself open_ (reverse finished) w)
        | inr old ↦ between open_ (reverse finished) w v (h.known v old)
      ]);
      once = subst EachOnce same (once_between open_ (reverse finished) w h.once not_seen);
      path = path;
      ranked = subst (IsRanked sources targets []) same (ranked_between sources targets [] open_ (reverse finished) w
          (λ x c. path_reaches sources targets open_ w x path c)
          (λ y c r. let out = reach_out sources targets open_ (reverse finished) y w closed
          (λ d. not_seen (Contains-append_left open_ (reverse finished) w d)) (λ d. not_seen (Contains-append_right open_ (reverse finished) w d)) c r in
          (out.0, inr out.1, out.2))
          h.ranked);
      within = λ v b. h.within v (subst (λ n. v < n) long b);
      begins = λ v b p. h.begins v (subst (λ n. v < n) long b) p;
      followed = λ k b l. subst (λ xs. Contains xs (slice_index targets k)) same (between open_ (reverse finished) w (slice_index targets k) (h.followed k b l));
      done = h.done;
    }

pub opens_reached : (sources targets base open_ finished : List ℕ) (root u w : ℕ)
    → Contains open_ u → Edge sources targets u w
    → IsReached sources targets root base open_ finished → IsReached sources targets root base (open_ ++ w ∷ []) finished
opens_reached sources targets base open_ finished root u w in_open edge r = record {
  more = r.more;
  parts = r.parts;
  rooted = subst (λ l. Contains l root) (append_assoc r.more open_ (w ∷ [])) (Contains-append_left (r.more ++ open_) (w ∷ []) root r.rooted);
  each = λ v c. elim (Contains-push_cases (r.more ++ open_) w v (subst (λ l. Contains l v) (sym (append_assoc r.more open_ (w ∷ []))) c)) [
    | inl old ↦ r.each v old
    | inr is ↦ inr (subst (λ x. Reaches (Edge sources targets) root x) is (from_root (r.each u (Contains-append_right r.more open_ u in_open))))
  ];
}
  where
    from_root : (u ≡ root) ⊎ Reaches (Edge sources targets) root u → Reaches (Edge sources targets) root w
    from_root (inl is) = one_step (Edge sources targets) root w (subst (λ x. Edge sources targets x w) is edge)
    from_root (inr reach) = then_step (Edge sources targets) root u w reach edge

-- ---- an edge is followed

-- the edge that was left last of a node, the one before it being left, leads to a node that is seen
pub follows : (sources targets open_ finished : List ℕ) (seen : List Bool) (left : List ℕ) (u b : ℕ)
    → IsWalk sources targets open_ finished seen left → u < length seen → 0 < slice_index left u
    → IsLast sources (slice_index sources (slice_index left u - 1)) (slice_index left u - 1) b
    → Contains (seen_nodes open_ finished) (slice_index targets (slice_index left u - 1))
    → IsWalk sources targets open_ finished seen (slice_set left u b)
follows sources targets open_ finished seen left u b h within some last to = record {
  nodes = length-set left u b ∙ h.nodes;
  inside = h.inside;
  marked = h.marked;
  known = h.known;
  once = h.once;
  path = h.path;
  ranked = h.ranked;
  within = λ v in_v. elim (cases_eq v u) [
    | inl same ↦ subst (λ n. n ≤ length sources) (sym (new v same)) (let most = h.within u within in omega (arith, last.within))
    | inr apart ↦ subst (λ n. n ≤ length sources) (sym (other v apart)) (h.within v in_v)
  ];
  begins = λ v in_v. elim (cases_eq v u) [
    | inl same ↦ subst (λ n. 0 < n → slice_index sources (n - 1) ≡ v) (sym (new v same)) (λ p. last.begins p ∙ h.begins u within some ∙ sym same)
    | inr apart ↦ subst (λ n. 0 < n → slice_index sources (n - 1) ≡ v) (sym (other v apart)) (h.begins v in_v)
  ];
  followed = λ k in_k. elim (cases_eq (slice_index sources k) u) [
    | inl same ↦ λ l. from_u k in_k same (subst (λ n. n ≤ k) (new (slice_index sources k) same) l)
    | inr apart ↦ λ l. h.followed k in_k (subst (λ n. n ≤ k) (other (slice_index sources k) apart) l)
  ];
  done = λ v c. elim (cases_eq v u) [
    | inl same ↦ absurd (let none : slice_index left u ≡ 0 = ap (slice_index left) (sym same) ∙ h.done v c in omega arith)
    | inr apart ↦ other v apart ∙ h.done v c
  ];
}
  where
    new : (v : ℕ) → v ≡ u → slice_index (slice_set left u b) v ≡ b
    new v same = ap (slice_index (slice_set left u b)) same ∙ get_or-set_same left u b 0 (let n = h.nodes in omega arith)

    other : (v : ℕ) → (v ≡ u → ⊥) → slice_index (slice_set left u b) v ≡ slice_index left v
    other v apart = get_or-set_other left u v b 0 apart

    at_or_behind : (k : ℕ) → (k < slice_index left u - 1) ⊎ ((k ≡ slice_index left u - 1) ⊎ (slice_index left u ≤ k))
    at_or_behind k = grind arith

    from_u : (k : ℕ) → k < length sources → slice_index sources k ≡ u → b ≤ k → Contains (seen_nodes open_ finished) (slice_index targets k)
    from_u k in_k same l = elim (at_or_behind k) [
      | inl before ↦ absurd (last.none k l before (same ∙ sym (h.begins u within some)))
      | inr (inl at) ↦ subst (λ n. Contains (seen_nodes open_ finished) (slice_index targets n)) (sym at) to
      | inr (inr behind) ↦ h.followed k in_k (subst (λ v. slice_index left v ≤ k) (sym same) behind)
    ]

-- there is less to do where the edge before another is left of a node
pub less_left : (left : List ℕ) (u b : ℕ) → u < length left → 0 < slice_index left u → b ≤ slice_index left u - 1 → 2 * sum (slice_set left u b) + 2 ≤ 2 * sum left
less_left left u b within some l =
    let total = sum_by-set (λ (x : ℕ). x) left u b 0 within in
    omega arith

-- ---- a step

module _ (sources targets last before open_ finished : List ℕ) (seen : List Bool) (left : List ℕ) (u b t : ℕ)
    (edges : AreEdges (length seen) sources targets) (chained : AreChained (length seen) sources last before)
    (walk : IsWalk sources targets (open_ ++ u ∷ []) finished seen left) where
  pub top_within : u < length seen
  top_within = walk.inside u (Contains-append_left (open_ ++ u ∷ []) (reverse finished) u (Contains-push open_ u))

  pub edge_within : 0 < slice_index left u → slice_index left u - 1 < length sources
  edge_within some = let w = walk.within u top_within in omega arith

  pub target_within : 0 < slice_index left u → t ≡ slice_index targets (slice_index left u - 1) → t < length seen
  target_within some is = subst (λ x. x < length seen) (sym is) (edges.end (slice_index left u - 1) (let w = edge_within some in let p = edges.pairs in omega arith))

  pub edge_followed : 0 < slice_index left u → t ≡ slice_index targets (slice_index left u - 1) → Edge sources targets u t
  edge_followed some is = record {
    at = slice_index left u - 1;
    within = edge_within some;
    begins = walk.begins u top_within some;
    ends = sym is;
  }

  chain : 0 < slice_index left u → b ≡ slice_index before (slice_index left u - 1) → IsLast sources (slice_index sources (slice_index left u - 1)) (slice_index left u - 1) b
  chain some is = subst (IsLast sources (slice_index sources (slice_index left u - 1)) (slice_index left u - 1)) (sym is) (chained.befores (slice_index left u - 1) (edge_within some))

  pub step_opens : 0 < slice_index left u → b ≡ slice_index before (slice_index left u - 1) → t ≡ slice_index targets (slice_index left u - 1) → (IsMarked seen t → ⊥)
      → IsWalk sources targets ((open_ ++ u ∷ []) ++ t ∷ []) finished (slice_set seen t true) (slice_set left u b)
  step_opens some is to new =
      let opened = opens sources targets (open_ ++ u ∷ []) finished seen left t edges.pairs walk (target_within some to) new
      (path_push sources targets open_ u t walk.path (edge_followed some to)) in
      let long : length (slice_set seen t true) ≡ length seen = length-set seen t true in
      let into : Contains (seen_nodes ((open_ ++ u ∷ []) ++ t ∷ []) finished) (slice_index targets (slice_index left u - 1)) =
      subst (λ x. Contains (seen_nodes ((open_ ++ u ∷ []) ++ t ∷ []) finished) x) to
      (Contains-append_left ((open_ ++ u ∷ []) ++ t ∷ []) (reverse finished) t (Contains-push (open_ ++ u ∷ []) t)) in
      follows sources targets ((open_ ++ u ∷ []) ++ t ∷ []) finished (slice_set seen t true) left u b opened (subst (λ n. u < n) (sym long) top_within) some (chain some is) into

  pub step_stays : 0 < slice_index left u → b ≡ slice_index before (slice_index left u - 1) → t ≡ slice_index targets (slice_index left u - 1) → IsMarked seen t
      → IsWalk sources targets (open_ ++ u ∷ []) finished seen (slice_set left u b)
  step_stays some is to old =
      follows sources targets (open_ ++ u ∷ []) finished seen left u b walk top_within some (chain some is) (subst (λ x. Contains (seen_nodes (open_ ++ u ∷ []) finished) x) to (walk.known t old))

  pub less_after : 0 < slice_index left u → b ≡ slice_index before (slice_index left u - 1) → 2 * sum (slice_set left u b) + 2 ≤ 2 * sum left
  less_after some is = less_left left u b (let n = walk.nodes in let w = top_within in omega arith) some (chain some is).within

-- a walk with equal parts
pub same_walk : (sources targets o p f g : List ℕ) (s r : List Bool) (l m : List ℕ) → o ≡ p → f ≡ g → s ≡ r → l ≡ m → IsWalk sources targets p g r m → IsWalk sources targets o f s l
same_walk sources targets o p f g s r l m eo ef es el w =
    subst (λ x. IsWalk sources targets x f s l) (sym eo)
    (subst (λ x. IsWalk sources targets p x s l) (sym ef)
    (subst (λ x. IsWalk sources targets p g x l) (sym es)
    (subst (λ x. IsWalk sources targets p g r x) (sym el) w)))

pub starts_reached : (sources targets base : List ℕ) (root : ℕ) → IsReached sources targets root base (root ∷ []) base
starts_reached sources targets base root = record {
  more = [];
  parts = sym (append-nil base);
  rooted = here root [];
  each = λ u c. elim (front_or_behind root u [] c) [
    | inl same ↦ inl (sym same)
    | inr none ↦ absurd (nowhere u none)
  ];
}

-- ---- a walk starts

unmarked : (n u : ℕ) → get_or (replicate n false) u false ≡ false
unmarked zero u = refl
unmarked (suc n) zero = refl
unmarked (suc n) (suc u) = unmarked n u

pub starts : (count : ℕ) (sources targets last before : List ℕ) → AreEdges count sources targets → AreChained count sources last before
    → IsWalk sources targets [] [] (replicate count false) last
starts count sources targets last before edges chained =
    let long : length (replicate count false) ≡ count = length-replicate count false in
    record {
      nodes = chained.nodes ∙ sym long;
      inside = λ u c. absurd (nowhere u c);
      marked = λ u c. absurd (nowhere u c);
      known = λ u m. absurd (let no = unmarked count u in cc);
      once = tt;
      path = tt;
      ranked = tt;
      within = λ u b. (chained.lasts u (subst (λ n. u < n) long b)).within;
      begins = λ u b. (chained.lasts u (subst (λ n. u < n) long b)).begins;
      followed = λ k b l. absurd ((chained.lasts (slice_index sources k) (edges.begin k b)).none k l b refl);
      done = λ u c. absurd (nowhere u c);
    }

-- ---- edges are chained one by one

pub last_here : (sources : List ℕ) (u n l : ℕ) → IsLast sources u n l → slice_index sources n ≡ u → IsLast sources u (n + 1) (n + 1)
last_here sources u n l h is = record {
  within = omega arith;
  begins = λ p. let at : n + 1 - 1 ≡ n = omega arith in ap (slice_index sources) at ∙ is;
  none = λ k a b e. let no : ⊥ = omega arith in no;
}

pub last_other : (sources : List ℕ) (u n l : ℕ) → IsLast sources u n l → (slice_index sources n ≡ u → ⊥) → IsLast sources u (n + 1) l
last_other sources u n l h other = record {
  within = let w = h.within in omega arith;
  begins = h.begins;
  none = λ k a b e. elim (below_or_at k n b) [
    | inl below ↦ h.none k a below e
    | inr at ↦ other (subst (λ j. slice_index sources j ≡ u) at e)
  ];
}
  where
    below_or_at : (k n : ℕ) → k < n + 1 → (k < n) ⊎ (k ≡ n)
    below_or_at k n h = grind arith

-- one more edge is chained
pub chain_more : (sources last before : List ℕ) (count edge x : ℕ) → length last ≡ count → length before ≡ edge → slice_index sources edge < count
    → ((u : ℕ) → u < count → IsLast sources u edge (slice_index last u)) → ((k : ℕ) → k < edge → IsLast sources (slice_index sources k) k (slice_index before k))
    → x ≡ slice_index last (slice_index sources edge)
    → ((u : ℕ) → u < count → IsLast sources u (edge + 1) (slice_index (slice_set last (slice_index sources edge) (edge + 1)) u))
    × ((k : ℕ) → k < edge + 1 → IsLast sources (slice_index sources k) k (slice_index (before ++ x ∷ []) k))
chain_more sources last before count edge x nodes edges begin lasts befores is = (lasts_more, befores_more)
  where
    lasts_more : (u : ℕ) → u < count → IsLast sources u (edge + 1) (slice_index (slice_set last (slice_index sources edge) (edge + 1)) u)
    lasts_more u b = elim (cases_eq u (slice_index sources edge)) [
      | inl same ↦
          let now : slice_index (slice_set last (slice_index sources edge) (edge + 1)) u ≡ edge + 1 =
          ap (slice_index (slice_set last (slice_index sources edge) (edge + 1))) same ∙ get_or-set_same last (slice_index sources edge) (edge + 1) 0 (omega arith) in
          subst (IsLast sources u (edge + 1)) (sym now) (last_here sources u edge (slice_index last u) (lasts u b) (sym same))
      | inr apart ↦
          let now : slice_index (slice_set last (slice_index sources edge) (edge + 1)) u ≡ slice_index last u = get_or-set_other last (slice_index sources edge) u (edge + 1) 0 apart in
          subst (IsLast sources u (edge + 1)) (sym now) (last_other sources u edge (slice_index last u) (lasts u b) (λ e. apart (sym e)))
    ]

    below_or_at : (k n : ℕ) → k < n + 1 → (k < n) ⊎ (k ≡ n)
    below_or_at k n h = grind arith

    befores_more : (k : ℕ) → k < edge + 1 → IsLast sources (slice_index sources k) k (slice_index (before ++ x ∷ []) k)
    befores_more k b = elim (below_or_at k edge b) [
      | inl below ↦
          let now : slice_index (before ++ x ∷ []) k ≡ slice_index before k = get_or_append_left before (x ∷ []) 0 k (omega arith) in
          subst (IsLast sources (slice_index sources k) k) (sym now) (befores k below)
      | inr at ↦
          let now : slice_index (before ++ x ∷ []) k ≡ slice_index last (slice_index sources k) =
          get_or_push before x 0 k (edges ∙ sym at) ∙ is ∙ ap (λ j. slice_index last (slice_index sources j)) (sym at) in
          subst (IsLast sources (slice_index sources k) k) (sym now)
          (subst (λ n. IsLast sources (slice_index sources k) n (slice_index last (slice_index sources k))) (sym at)
          (lasts (slice_index sources k) (subst (λ j. slice_index sources j < count) (sym at) begin)))
    ]
