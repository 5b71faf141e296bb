-- One more edge keeps a matrix of least distances, and what such a matrix says.
use Rattle.std.proofs.Common.{◌≡◌, ℕ, ◌<◌, ◌⊎◌, inl, inr, List, [], ◌∷◌, ◌++◌, Option, Some, None, refl, sym, ◌∙◌, ap, subst, arith}
use Rattle.std.specs.Prelude.{ℤ, pos, ◌+ℤ◌, ◌≤ℤ◌}
use Rattle.std.proofs.lemmas.Int.{ints, clamps, by_lt_z}
use Rattle.std.specs.Int.{int_min}
use Rattle.std.proofs.lemmas.List.Elements.{Contains-push, Contains-append_left, Contains-push_cases}
use Rattle.vf_arith.specs.declared.bounds.Edge.{Edge}
use Rattle.vf_arith.specs.Paths.{Path, path_none, path_edge}
use Rattle.vf_arith.specs.Matrices.{IsUnder, lesser, over_edge, AreDistances}

-- chains join, with more edges too
pub join : {edges : List Edge} {x y z : ℕ} {c d : ℤ} → Path edges x y c → Path edges y z d → (s : ℤ) → s ≡ c +ℤ d → Path edges x z s
join {edges} {x} {y} {z} {c} {d} path_none k s e = subst (Path edges x z) (let h : d ≡ s = omega (arith, ints) in h) k
join {edges} {x} {y} {z} {c} {d} (path_edge {d = b} e m h) k s q = subst (Path edges e.from z) (let h : e.most +ℤ (b +ℤ d) ≡ s = omega (arith, ints) in h) (path_edge e m (join h k (b +ℤ d) refl))

pub more : {edges : List Edge} {x y : ℕ} {c : ℤ} (e : Edge) → Path edges x y c → Path (edges ++ e ∷ []) x y c
more e path_none = path_none
more {edges} e (path_edge f m h) = path_edge f (Contains-append_left edges (e ∷ []) f m) (more e h)

-- a distance is at most each chain's sum
pub at_most : (size : ℕ) (edges : List Edge) (d : ℕ → ℕ → Option ℤ) → AreDistances size edges d → {x y : ℕ} {c : ℤ} → x < size → y < size → Path edges x y c → IsUnder (d x y) c
at_most size edges d is {x = x} inx iny path_none = subst (λ o. IsUnder o (pos 0)) (sym (is.own x inx)) (let h : pos 0 ≤ℤ pos 0 = omega (arith, ints) in h)
at_most size edges d is {y = y} inx iny (path_edge {d = b} e m h) =
    is.triangle e.from e.to y e.most b inx ((is.points e m).1) iny (is.edge e m) (at_most size edges d is ((is.points e m).1) iny h)

-- so there is no cycle below 0
pub no_cycle : (size : ℕ) (edges : List Edge) (d : ℕ → ℕ → Option ℤ) → AreDistances size edges d → {x : ℕ} {c : ℤ} → x < size → Path edges x x c → pos 0 ≤ℤ c
no_cycle size edges d is {x} {c} inx h = subst (λ o. IsUnder o c) (is.own x inx) (at_most size edges d is inx inx h)

least_cases : (v w c : ℤ) → int_min v w ≤ℤ c → (v ≤ℤ c) ⊎ (w ≤ℤ c)
least_cases v w c h = by_lt_z w v (λ k. inr (omega (arith, ints, clamps))) (λ k. inl (omega (arith, ints, clamps)))

-- what is within the lesser of two is within one of them
under_cases : (a b : Option ℤ) (c : ℤ) → IsUnder (lesser a b) c → IsUnder a c ⊎ IsUnder b c
under_cases None b c h = inr h
under_cases (Some v) None c h = inl h
under_cases (Some v) (Some w) c h = least_cases v w c h

under_left : (a b : Option ℤ) (c : ℤ) → IsUnder a c → IsUnder (lesser a b) c
under_left None b c h = absurd h
under_left (Some v) None c h = h
under_left (Some v) (Some w) c h = omega (arith, ints, clamps)

under_right : (a b : Option ℤ) (c : ℤ) → IsUnder b c → IsUnder (lesser a b) c
under_right None b c h = h
under_right (Some v) None c h = absurd h
under_right (Some v) (Some w) c h = omega (arith, ints, clamps)

least_is : (v w : ℤ) → (int_min v w ≡ v) ⊎ (int_min v w ≡ w)
least_is v w = by_lt_z w v (λ k. inr (omega (arith, ints, clamps))) (λ k. inl (omega (arith, ints, clamps)))

-- which of two the lesser is
lesser_cases : (a b : Option ℤ) (v : ℤ) → lesser a b ≡ Some v → (a ≡ Some v) ⊎ (b ≡ Some v)
lesser_cases None b v h = inr h
lesser_cases (Some u) None v h = inl h
lesser_cases (Some u) (Some w) v h = elim (least_is u w) [ inl e ↦ inl (ap Some (sym e) ∙ h) | inr e ↦ inr (ap Some (sym e) ∙ h) ]

-- the three parts of a sum
pub record Way (p : Option ℤ) (c : ℤ) (q : Option ℤ) (s : ℤ) : Type 0 where
  pub first : ℤ
  pub last : ℤ
  pub first_is : p ≡ Some first
  pub last_is : q ≡ Some last
  pub under : (first +ℤ c +ℤ last) ≤ℤ s

way_of : (p : Option ℤ) (c : ℤ) (q : Option ℤ) (s : ℤ) → IsUnder (over_edge p c q) s → Way p c q s
way_of None c q s h = absurd h
way_of (Some v) c None s h = absurd h
way_of (Some v) c (Some w) s h = record { first = v; last = w; first_is = refl; last_is = refl; under = h }

under_way : (p : Option ℤ) (c : ℤ) (q : Option ℤ) (s : ℤ) → Way p c q s → IsUnder (over_edge p c q) s
under_way p c q s k = subst (λ o. IsUnder (over_edge o c q) s) (sym k.first_is) (subst (λ o. IsUnder (over_edge (Some k.first) c o) s) (sym k.last_is) k.under)

pub is_under : (o : Option ℤ) (v : ℤ) → o ≡ Some v → IsUnder o v
is_under o v e = subst (λ z. IsUnder z v) (sym e) (let h : v ≤ℤ v = omega (arith, ints) in h)

-- what is within a bound has a value that is
pub record Under (o : Option ℤ) (c : ℤ) : Type 0 where
  pub number : ℤ
  pub is : o ≡ Some number
  pub under : number ≤ℤ c

under_value : (o : Option ℤ) (c : ℤ) → IsUnder o c → Under o c
under_value None c h = absurd h
under_value (Some v) c h = record { number = v; is = refl; under = h }

-- what a bound of one value says of another
at_value : (o : Option ℤ) (v c : ℤ) → o ≡ Some v → IsUnder o c → v ≤ℤ c
at_value o v c e h = subst (λ z. IsUnder z c) e h

-- one more edge, where it closes no cycle below 0
module _ (size : ℕ) (edges : List Edge) (d d' : ℕ → ℕ → Option ℤ) (e : Edge) (is : AreDistances size edges d)
    (inx : e.from < size) (iny : e.to < size)
    (fine : (t : ℤ) → d e.to e.from ≡ Some t → pos 0 ≤ℤ (t +ℤ e.most))
    (new : (x y : ℕ) → x < size → y < size → d' x y ≡ lesser (d x y) (over_edge (d x e.from) e.most (d e.to y))) where
  old_or : (x y : ℕ) (a : ℤ) → x < size → y < size → IsUnder (d' x y) a → IsUnder (d x y) a ⊎ Way (d x e.from) e.most (d e.to y) a
  old_or x y a i j h = elim (under_cases (d x y) (over_edge (d x e.from) e.most (d e.to y)) a (subst (λ o. IsUnder o a) (new x y i j) h)) [
    | inl k ↦ inl k
    | inr k ↦ inr (way_of (d x e.from) e.most (d e.to y) a k)
  ]

  by_old : (x y : ℕ) (a : ℤ) → x < size → y < size → IsUnder (d x y) a → IsUnder (d' x y) a
  by_old x y a i j h = subst (λ o. IsUnder o a) (sym (new x y i j)) (under_left (d x y) (over_edge (d x e.from) e.most (d e.to y)) a h)

  by_way : (x y : ℕ) (a : ℤ) → x < size → y < size → Way (d x e.from) e.most (d e.to y) a → IsUnder (d' x y) a
  by_way x y a i j h = subst (λ o. IsUnder o a) (sym (new x y i j)) (under_right (d x y) (over_edge (d x e.from) e.most (d e.to y)) a (under_way (d x e.from) e.most (d e.to y) a h))

  triangle : (x y z : ℕ) (a b : ℤ) → x < size → y < size → z < size → IsUnder (d' x y) a → IsUnder (d' y z) b → IsUnder (d' x z) (a +ℤ b)
  triangle x y z a b i j k h l = elim (old_or x y a i j h) [
    | inl p ↦ elim (old_or y z b j k l) [
      | inl q ↦ by_old x z (a +ℤ b) i k (is.triangle x y z a b i j k p q)
      | inr q ↦ old_new x y z a b i j k p q
    ]
    | inr p ↦ elim (old_or y z b j k l) [
      | inl q ↦ new_old x y z a b i j k p q
      | inr q ↦ new_new x y z a b i j k p q
    ]
  ]
    where
      old_new : (x y z : ℕ) (a b : ℤ) → x < size → y < size → z < size → IsUnder (d x y) a → Way (d y e.from) e.most (d e.to z) b → IsUnder (d' x z) (a +ℤ b)
      old_new x y z a b i j k p q =
          let m = under_value (d x e.from) (a +ℤ q.first) (is.triangle x y e.from a q.first i j inx p (is_under (d y e.from) q.first q.first_is)) in
          by_way x z (a +ℤ b) i k (record { first = m.number; last = q.last; first_is = m.is; last_is = q.last_is; under = let g = m.under in let f = q.under in omega (arith, ints) })

      new_old : (x y z : ℕ) (a b : ℤ) → x < size → y < size → z < size → Way (d x e.from) e.most (d e.to y) a → IsUnder (d y z) b → IsUnder (d' x z) (a +ℤ b)
      new_old x y z a b i j k p q =
          let m = under_value (d e.to z) (p.last +ℤ b) (is.triangle e.to y z p.last b iny j k (is_under (d e.to y) p.last p.last_is) q) in
          by_way x z (a +ℤ b) i k (record { first = p.first; last = m.number; first_is = p.first_is; last_is = m.is; under = let g = m.under in let f = p.under in omega (arith, ints) })

      new_new : (x y z : ℕ) (a b : ℤ) → x < size → y < size → z < size → Way (d x e.from) e.most (d e.to y) a → Way (d y e.from) e.most (d e.to z) b → IsUnder (d' x z) (a +ℤ b)
      new_new x y z a b i j k p q =
          let m = under_value (d e.to e.from) (p.last +ℤ q.first) (is.triangle e.to y e.from p.last q.first iny j inx (is_under (d e.to y) p.last p.last_is) (is_under (d y e.from) q.first q.first_is)) in
          by_way x z (a +ℤ b) i k (record { first = p.first; last = q.last; first_is = p.first_is; last_is = q.last_is; under = let t = fine m.number m.is in let g = m.under in let f = p.under in let f' = q.under in omega (arith, ints) })

  way_sound : (x y : ℕ) (v : ℤ) → x < size → y < size → over_edge (d x e.from) e.most (d e.to y) ≡ Some v → Path (edges ++ e ∷ []) x y v
  way_sound x y v i j h =
      let s = way_of (d x e.from) e.most (d e.to y) v (is_under (over_edge (d x e.from) e.most (d e.to y)) v h) in
      join (more e (is.sound x e.from s.first i inx s.first_is)) (path_edge e (Contains-push edges e) (more e (is.sound e.to y s.last iny j s.last_is))) v
      (exactly (d x e.from) e.most (d e.to y) v s.first s.last s.first_is s.last_is h)
    where
      exactly : (p : Option ℤ) (c : ℤ) (q : Option ℤ) (v f l : ℤ) → p ≡ Some f → q ≡ Some l → over_edge p c q ≡ Some v → v ≡ f +ℤ (c +ℤ l)
      exactly p c q v f l i j h = let g : over_edge (Some f) c (Some l) ≡ Some v = subst (λ o. over_edge o c (Some l) ≡ Some v) i (subst (λ o. over_edge p c o ≡ Some v) j h) in let k : f +ℤ c +ℤ l ≡ v = cc in omega (arith, ints)

  pub distances_more : AreDistances size (edges ++ e ∷ []) d'
  distances_more = record {
    sound = λ x y v i j h. elim (lesser_cases (d x y) (over_edge (d x e.from) e.most (d e.to y)) v (sym (new x y i j) ∙ h)) [
      | inl k ↦ more e (is.sound x y v i j k)
      | inr k ↦ way_sound x y v i j k
    ];
    own = λ x i. new x x i i ∙ stays x i;
    points = λ f m. elim (Contains-push_cases edges e f m) [ inl k ↦ is.points f k | inr g ↦ (subst (λ (w : Edge). w.from < size) g inx, subst (λ (w : Edge). w.to < size) g iny) ];
    edge = λ f m. elim (Contains-push_cases edges e f m) [
      | inl k ↦ by_old f.from f.to f.most ((is.points f k).0) ((is.points f k).1) (is.edge f k)
      | inr g ↦ subst (λ (w : Edge). IsUnder (d' w.from w.to) w.most) g
          (by_way e.from e.to e.most inx iny (record { first = pos 0; last = pos 0; first_is = is.own e.from inx; last_is = is.own e.to iny; under = omega (arith, ints) }))
    ];
    triangle = triangle;
  }
    where
      stays : (x : ℕ) → x < size → lesser (d x x) (over_edge (d x e.from) e.most (d e.to x)) ≡ Some (pos 0)
      stays x i = go (d x x) (over_edge (d x e.from) e.most (d e.to x)) (is.own x i) (λ s h. at_sum (way_of (d x e.from) e.most (d e.to x) s h))
        where
          at_sum : {s : ℤ} → Way (d x e.from) e.most (d e.to x) s → pos 0 ≤ℤ s
          at_sum {s} k =
              let m = under_value (d e.to e.from) (k.last +ℤ k.first) (is.triangle e.to x e.from k.last k.first iny i inx (is_under (d e.to x) k.last k.last_is) (is_under (d x e.from) k.first k.first_is)) in
              let t = fine m.number m.is in let g = m.under in let f = k.under in omega (arith, ints)

          go : (o p : Option ℤ) → o ≡ Some (pos 0) → ((s : ℤ) → IsUnder p s → pos 0 ≤ℤ s) → lesser o p ≡ Some (pos 0)
          go o None h k = subst (λ z. lesser z None ≡ Some (pos 0)) (sym h) refl
          go o (Some w) h k = subst (λ z. lesser z (Some w) ≡ Some (pos 0)) (sym h) (ap Some (let l = k w (is_under (Some w) w refl) in omega (arith, ints, clamps)))
