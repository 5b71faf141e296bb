-- How the ranks of nodes go on in a walk.
use Rattle.std.proofs.Common.{◌⊎◌, ℕ, List, [], ◌∷◌, ◌++◌, subst, inl, inr}
use Rattle.std.specs.Prelude.{Contains}
use Rattle.vf_cycles.specs.Reaching.{Way, Reaches}
use Rattle.vf_cycles.specs.Graphs.{Edge}
use Rattle.vf_cycles.specs.Walks.{IsPath, IsRanked}
use Rattle.vf_cycles.proofs.Lists.{here, there, nowhere, front_or_behind, between_cases}
use Rattle.vf_cycles.proofs.Ways.{one_step, step_then}

-- more nodes in front
pub ranked_more : (sources targets front more xs : List ℕ) → ((z : ℕ) → Contains front z → Contains more z) → IsRanked sources targets front xs → IsRanked sources targets more xs
ranked_more s t front more [] grows h = tt
ranked_more s t front more (x ∷ xs) grows h = (
  λ y c r. elim (h.0 y c r) [
    | inl back ↦ inl back
    | inr found ↦ inr (found.0, grows found.0 found.1, found.2)
  ],
  ranked_more s t (x ∷ front) (x ∷ more) xs (λ z c. elim (front_or_behind x z front c) [
    | inl same ↦ subst (λ w. Contains (x ∷ more) w) same (here x more)
    | inr rest ↦ there x z more (grows z rest)
  ]) h.1,
)

-- one more node between others: those in front of it reach it, and those behind that reach it reach one in front
pub ranked_between : (sources targets front s l : List ℕ) (w : ℕ) → ((x : ℕ) → Contains s x → Reaches (Edge sources targets) x w)
    → ((y : ℕ) → Contains l y → Reaches (Edge sources targets) y w → (z : ℕ) × (Contains front z ⊎ Contains s z) × Reaches (Edge sources targets) y z)
    → IsRanked sources targets front (s ++ l) → IsRanked sources targets front (s ++ w ∷ l)
ranked_between sources targets front [] l w to out h = (
  λ y c r. let found = out y c r in elim found.1 [
    | inl in_front ↦ inr (found.0, in_front, found.2)
    | inr none ↦ absurd (nowhere found.0 none)
  ],
  ranked_more sources targets front (w ∷ front) l (λ z c. there w z front c) h,
)
ranked_between sources targets front (x ∷ s) l w to out h = (
  λ y c r. elim (between_cases s l w y c) [
    | inl same ↦ inl (subst (λ z. Reaches (Edge sources targets) x z) same (to x (here x s)))
    | inr old ↦ h.0 y old r
  ],
  ranked_between sources targets (x ∷ front) s l w (λ z c. to z (there x z s c))
      (λ y c r. let found = out y c r in (found.0, moved front s x found.0 found.1, found.2)) h.1,
)
  where
    moved : (front s : List ℕ) (x z : ℕ) → Contains front z ⊎ Contains (x ∷ s) z → Contains (x ∷ front) z ⊎ Contains s z
    moved front s x z (inl c) = inl (there x z front c)
    moved front s x z (inr c) = elim (front_or_behind x z s c) [
      | inl same ↦ inl (subst (λ y. Contains (x ∷ front) y) same (here x front))
      | inr rest ↦ inr rest
    ]

-- where edges from these nodes lead to these or to some others, a way out of both passes one of the others
way_out : (sources targets s l : List ℕ) (y w : ℕ) (through : List ℕ) → ((u v : ℕ) → Contains l u → Edge sources targets u v → Contains s v ⊎ Contains l v)
    → (Contains s w → ⊥) → (Contains l w → ⊥) → Contains l y → Way (Edge sources targets) y through w → (z : ℕ) × Contains s z × Reaches (Edge sources targets) y z
way_out sources targets s l y w [] closed none_s none_l c h = elim (closed y w c h) [
  | inl in_s ↦ absurd (none_s in_s)
  | inr in_l ↦ absurd (none_l in_l)
]
way_out sources targets s l y w (v ∷ vs) closed none_s none_l c h = elim (closed y v c h.0) [
  | inl in_s ↦ (v, in_s, one_step (Edge sources targets) y v h.0)
  | inr in_l ↦
      let rest = way_out sources targets s l v w vs closed none_s none_l in_l h.1 in
      (rest.0, rest.1, step_then (Edge sources targets) y v rest.0 h.0 rest.2)
]

pub reach_out : (sources targets s l : List ℕ) (y w : ℕ) → ((u v : ℕ) → Contains l u → Edge sources targets u v → Contains s v ⊎ Contains l v)
    → (Contains s w → ⊥) → (Contains l w → ⊥) → Contains l y → Reaches (Edge sources targets) y w → (z : ℕ) × Contains s z × Reaches (Edge sources targets) y z
reach_out sources targets s l y w closed none_s none_l c r = way_out sources targets s l y w r.through closed none_s none_l c r.way

-- ---- paths

pub path_front : (sources targets xs : List ℕ) (u : ℕ) → IsPath sources targets (xs ++ u ∷ []) → IsPath sources targets xs
path_front s t [] u h = tt
path_front s t (x ∷ []) u h = tt
path_front s t (x ∷ y ∷ ys) u h = (h.0, path_front s t (y ∷ ys) u h.1)

pub path_push : (sources targets xs : List ℕ) (u w : ℕ) → IsPath sources targets (xs ++ u ∷ []) → Edge sources targets u w → IsPath sources targets ((xs ++ u ∷ []) ++ w ∷ [])
path_push s t [] u w h e = (e, tt)
path_push s t (x ∷ []) u w h e = (h.0, (e, tt))
path_push s t (x ∷ y ∷ ys) u w h e = (h.0, path_push s t (y ∷ ys) u w h.1 e)

-- each node on a path reaches the last one
pub path_reaches : (sources targets xs : List ℕ) (u x : ℕ) → IsPath sources targets (xs ++ u ∷ []) → Contains xs x → Reaches (Edge sources targets) x u
path_reaches s t [] u x h c = absurd (nowhere x c)
path_reaches s t (y ∷ []) u x h c = elim (front_or_behind y x [] c) [
  | inl same ↦ subst (λ z. Reaches (Edge s t) z u) same (one_step (Edge s t) y u h.0)
  | inr none ↦ absurd (nowhere x none)
]
path_reaches s t (y ∷ z ∷ zs) u x h c = elim (front_or_behind y x (z ∷ zs) c) [
  | inl same ↦ subst (λ v. Reaches (Edge s t) v u) same (step_then (Edge s t) y z u h.0 (path_reaches s t (z ∷ zs) u z h.1 (here z zs)))
  | inr rest ↦ path_reaches s t (z ∷ zs) u x h.1 rest
]
