-- Classes and bounds that agree hold the closure: it is the least that has the facts and what the terms give.
use Rattle.std.proofs.Common.{◌≡◌, ℕ, ◌<◌, ◌⊎◌, inl, inr, List, [], ◌∷◌, ◌++◌, length, refl, sym, subst, arith}
use Rattle.std.specs.Prelude.{ℤ, pos, ◌+ℤ◌, ◌≤ℤ◌, Contains}
use Rattle.std.proofs.lemmas.Int.{ints}
use Rattle.std.proofs.lemmas.Option.{slice_get_within}
use Rattle.std.proofs.lemmas.List.Elements.{Contains-append_left, Contains-push_cases}
use Rattle.vf_table.specs.declared.node.Node.{Node}
use Rattle.vf_table.specs.Tables.{IsInteger}
use Rattle.vf_congruence.specs.Congruence.{Congruent, based, congruent_self, congruent_back, congruent_through, by_parts, of_parts, WereMerged}
use Rattle.vf_arith.specs.declared.bounds.Edge.{Edge}
use Rattle.vf_arith.specs.Paths.{Path, path_none, path_edge, HasNegativeCycle}
use Rattle.vf_refute.specs.declared.steps.Fact.{Fact}
use Rattle.vf_refute.specs.declared.steps.Fact.TheVariants as fs
use Rattle.vf_refute.specs.Closure.{Same, given, same_self, same_back, same_through, congruent, injective, squeezed, Bound, most, difference_up, difference_down, still, weaker, sum_up, sum_down, number_up, number_down, chain, level, Conflict, below_itself, clash, denied_equality, denied_difference, falsehood}
use Rattle.vf_ground.specs.Held.{IsNear, edge, AreSound, AreComplete, ShowNoConflict, HaveGrown}

module _ (nodes : List Node) (facts : List Fact) (merged : List (ℕ × ℕ)) (edges : List Edge) where
  -- what follows in the tables is in the closure
  pub same_by : AreSound nodes facts merged edges → {a b : ℕ} → Congruent nodes (WereMerged merged) a b → Same nodes facts a b
  same_by sound (based {a = a} {b = b} h) = sound.equal a b h
  same_by sound congruent_self = same_self
  same_by sound (congruent_back h) = same_back (same_by sound h)
  same_by sound (congruent_through h k) = same_through (same_by sound h) (same_by sound k)
  same_by sound (by_parts p q e l h) = congruent p q e l (λ i w. same_by sound (h i w))
  same_by sound (of_parts p q t e l w h) = injective p q t e l w (same_by sound h)

  -- an edge, and the path that goes on from its end
  onward : {x y z : ℕ} {c d : ℤ} → Bound nodes facts x y c → ((y ≡ z) × (d ≡ pos 0)) ⊎ Bound nodes facts y z d → Bound nodes facts x z (c +ℤ d)
  onward {x} {y} {z} {c} {d} h (inl e) = subst (λ w. Bound nodes facts x w (c +ℤ d)) e.0 (weaker (let f = e.1 in omega (arith, ints)) h)
  onward h (inr k) = chain h k

  -- a path is nothing, or a bound
  path_by : AreSound nodes facts merged edges → {x y : ℕ} {c : ℤ} → Path edges x y c → ((x ≡ y) × (c ≡ pos 0)) ⊎ Bound nodes facts x y c
  path_by sound path_none = inl (refl, refl)
  path_by sound (path_edge e m h) = inr (onward (sound.bound e m) (path_by sound h))

  pub near_by : AreSound nodes facts merged edges → {x y : ℕ} {c : ℤ} → IsInteger nodes x → IsNear edges x y c → Bound nodes facts x y c
  near_by sound {x} {y} {c} i h = elim (path_by sound h.path) [
    | inl e ↦ subst (λ z. Bound nodes facts x z c) e.0 (weaker (let u = h.under in let f = e.1 in omega (arith, ints)) (still i))
    | inr k ↦ weaker h.under k
  ]

  pub cycle_by : AreSound nodes facts merged edges → HasNegativeCycle edges → Conflict nodes facts
  cycle_by sound h = elim (path_by sound h.cycle) [
    | inl e ↦ absurd (let l = h.below in let f = e.1 in omega (arith, ints))
    | inr k ↦ below_itself (weaker (let l = h.below in omega (arith, ints)) k)
  ]

near_weaker : {edges : List Edge} {x y : ℕ} {c d : ℤ} → c ≤ℤ d → IsNear edges x y c → IsNear edges x y d
near_weaker l h = record { total = h.total; path = h.path; under = let u = h.under in omega (arith, ints) }

path_join : {edges : List Edge} {x y z : ℕ} {c d : ℤ} → Path edges x y c → Path edges y z d → (s : ℤ) → s ≡ c +ℤ d → Path edges x z s
path_join {edges} {x} {y} {z} {c} {d} path_none k s e = subst (Path edges x z) (let h : d ≡ s = omega (arith, ints) in h) k
path_join {edges} {x} {y} {z} {c} {d} (path_edge {d = b} e m h) k s q = subst (Path edges e.from z) (let h : e.most +ℤ (b +ℤ d) ≡ s = omega (arith, ints) in h) (path_edge e m (path_join h k (b +ℤ d) refl))

near_join : {edges : List Edge} {x y z : ℕ} {c d : ℤ} → IsNear edges x y c → IsNear edges y z d → IsNear edges x z (c +ℤ d)
near_join h k = record { total = h.total +ℤ k.total; path = path_join h.path k.path (h.total +ℤ k.total) refl; under = let u = h.under in let w = k.under in omega (arith, ints) }

near_edge : {edges : List Edge} {x y : ℕ} {c : ℤ} → Contains edges (edge x y c) → IsNear edges x y c
near_edge {edges} {x} {y} {c} m = record { total = c +ℤ pos 0; path = path_edge (edge x y c) m path_none; under = omega (arith, ints) }

integer_in : (nodes : List Node) (x : ℕ) → IsInteger nodes x → x < length nodes
integer_in nodes x h = slice_get_within nodes x h.0 h.1

module _ (nodes : List Node) (facts : List Fact) (merged : List (ℕ × ℕ)) (edges : List Edge) (complete : AreComplete nodes facts merged edges) where
  mutual
    -- and the closure follows in the tables
    pub same_in : {a b : ℕ} → Same nodes facts a b → Congruent nodes (WereMerged merged) a b
    same_in (given {a = a} {b = b} h) = based (complete.facts_in (fs.Equal a b) h)
    same_in same_self = congruent_self
    same_in (same_back h) = congruent_back (same_in h)
    same_in (same_through h k) = congruent_through (same_in h) (same_in k)
    same_in (congruent p q e l h) = by_parts p q e l (λ i w. same_in (h i w))
    same_in (injective p q t e l w h) = of_parts p q t e l w (same_in h)
    same_in (squeezed {x = x} {y = y} i j h k) = (complete.settled x y (integer_in nodes x i) (integer_in nodes y j)).squeezed i j (bound_in h) (bound_in k)

    pub bound_in : {x y : ℕ} {c : ℤ} → Bound nodes facts x y c → IsNear edges x y c
    bound_in (most {x = x} {y = y} {c = c} h) = near_edge (complete.facts_in (fs.AtMost x y c) h)
    bound_in (difference_up {x = x} {y = y} {c = c} h) = near_edge (complete.facts_in (fs.Difference x y c) h).up
    bound_in (difference_down {x = x} {y = y} {c = c} h) = near_edge (complete.facts_in (fs.Difference x y c) h).down
    bound_in (still i) = record { total = pos 0; path = path_none; under = omega (arith, ints) }
    bound_in (weaker l h) = near_weaker l (bound_in h)
    bound_in (sum_up {a = a} {q = q} {c = c} p) = near_edge ((complete.terms_in a (slice_get_within nodes a p.node p.found)).sum q c p).up
    bound_in (sum_down {a = a} {q = q} {c = c} p) = near_edge ((complete.terms_in a (slice_get_within nodes a p.node p.found)).sum q c p).down
    bound_in (number_up {a = a} {o = o} {c = c} p z) = near_edge ((complete.terms_in a (slice_get_within nodes a p.0 p.1)).number c o p z).up
    bound_in (number_down {a = a} {o = o} {c = c} p z) = near_edge ((complete.terms_in a (slice_get_within nodes a p.0 p.1)).number c o p z).down
    bound_in (chain h k) = near_join (bound_in h) (bound_in k)
    bound_in (level {x = x} {y = y} i j h) = (complete.settled x y (integer_in nodes x i) (integer_in nodes y j)).level i j (same_in h)

  pub no_conflict : ShowNoConflict nodes facts merged edges → (HasNegativeCycle edges → ⊥) → Conflict nodes facts → ⊥
  no_conflict none fine (below_itself {x = x} h) =
      let n = bound_in h in fine (record { point = x; total = n.total; cycle = n.path; below = let u = n.under in omega (arith, ints) })
  no_conflict none fine (clash {a = a} {b = b} k h) = none.heads a b (slice_get_within nodes a k.0 k.2) (slice_get_within nodes b k.1 k.3) k (same_in h)
  no_conflict none fine (denied_equality {a = a} {b = b} m h) = none.unequal a b m (same_in h)
  no_conflict none fine (denied_difference {x = x} {y = y} {c = c} m h k) = none.differ x y c m (bound_in h) (bound_in k)
  no_conflict none fine (falsehood m) = none.not_false m

-- ---- how they grow

module _ (nodes : List Node) where
  pub grown_none : (merged : List (ℕ × ℕ)) (edges : List Edge) → HaveGrown nodes merged edges merged edges
  grown_none merged edges = record { merged_kept = λ a b h. h; edges_kept = λ e h. h; sound = λ facts s. s }

  pub grown_join : (m : List (ℕ × ℕ)) (e : List Edge) (m' : List (ℕ × ℕ)) (e' : List Edge) (m'' : List (ℕ × ℕ)) (e'' : List Edge) → HaveGrown nodes m e m' e' → HaveGrown nodes m' e' m'' e'' → HaveGrown nodes m e m'' e''
  grown_join m e m' e' m'' e'' g h = record {
    merged_kept = λ a b k. h.merged_kept a b (g.merged_kept a b k);
    edges_kept = λ f k. h.edges_kept f (g.edges_kept f k);
    sound = λ facts s. h.sound facts (g.sound facts s);
  }

  pub grown_edge : (merged : List (ℕ × ℕ)) (edges edges' : List Edge) (e : Edge) → edges' ≡ edges ++ e ∷ [] → ((facts : List Fact) → AreSound nodes facts merged edges → Bound nodes facts e.from e.to e.most) → HaveGrown nodes merged edges merged edges'
  grown_edge merged edges edges' e is right = record {
    merged_kept = λ a b h. h;
    edges_kept = λ f h. subst (λ (l : List Edge). Contains l f) (sym is) (Contains-append_left edges (e ∷ []) f h);
    sound = λ facts s. record {
      equal = s.equal;
      bound = λ f m. elim (Contains-push_cases edges e f (subst (λ (l : List Edge). Contains l f) is m)) [
        | inl k ↦ s.bound f k
        | inr g ↦ subst (λ (w : Edge). Bound nodes facts w.from w.to w.most) g (right facts s)
      ];
    };
  }

  pub grown_merge : (merged merged' : List (ℕ × ℕ)) (edges : List Edge) (a b : ℕ) → merged' ≡ merged ++ (a, b) ∷ [] → ((facts : List Fact) → AreSound nodes facts merged edges → Same nodes facts a b) → HaveGrown nodes merged edges merged' edges
  grown_merge merged merged' edges a b is right = record {
    merged_kept = λ x y h. subst (λ (l : List (ℕ × ℕ)). Contains l (x, y)) (sym is) (Contains-append_left merged ((a, b) ∷ []) (x, y) h);
    edges_kept = λ f h. h;
    sound = λ facts s. record {
      equal = λ x y m. elim (Contains-push_cases merged (a, b) (x, y) (subst (λ (l : List (ℕ × ℕ)). Contains l (x, y)) is m)) [
        | inl k ↦ s.equal x y k
        | inr g ↦ subst (λ (w : ℕ × ℕ). Same nodes facts w.0 w.1) g (right facts s)
      ];
      bound = s.bound;
    };
  }
