-- What one more fact or term adds to classes and bounds.
use Rattle.std.proofs.Common.{◌≡◌, ℕ, ◌<◌, inl, inr, List, [], ◌∷◌, ◌++◌, refl, sym, ◌∙◌, ap, subst, arith}
use Rattle.std.specs.Prelude.{ℤ, pos, neg_ℤ, ◌^◌, Contains, All, slice_index}
use Rattle.std.proofs.lemmas.Option.{slice_get_within, get_or_from_slice_get}
use Rattle.std.proofs.lemmas.List.Elements.{Contains-push, Contains-append_left, Contains-push_cases}
use Rattle.vf_table.specs.declared.node.Head.TheVariants.{Number}
use Rattle.vf_table.specs.declared.node.Node.{Node}
use Rattle.vf_table.specs.Tables.{PartsAreBelow, IsNumber, IsPlus}
use Rattle.vf_congruence.specs.Congruence.{WereMerged}
use Rattle.vf_arith.specs.declared.bounds.Edge.{Edge}
use Rattle.vf_arith.specs.Paths.{IsSmall}
use Rattle.vf_refute.specs.declared.steps.Fact.{Fact}
use Rattle.vf_refute.specs.declared.steps.Fact.TheVariants as fs
use Rattle.vf_refute.specs.Closure.{Same, given, Bound, most, difference_up, difference_down, sum_up, sum_down, number_up, number_down}
use Rattle.vf_ground.specs.Held.{edge, HasBoth, HasFact, HasTerm, AreSound, HasGained, HaveBoundsGrown, HasSmallNumber}
use Rattle.vf_ground.proofs.Closing.{grown_join, grown_edge}

kept_edge : (edges edges' : List Edge) (x : Edge) → edges' ≡ edges ++ x ∷ [] → (f : Edge) → Contains edges f → Contains edges' f
kept_edge edges edges' x is f h = subst (λ (l : List Edge). Contains l f) (sym is) (Contains-append_left edges (x ∷ []) f h)

new_edge : (edges edges' : List Edge) (x : Edge) → edges' ≡ edges ++ x ∷ [] → Contains edges' x
new_edge edges edges' x is = subst (λ (l : List Edge). Contains l x) (sym is) (Contains-push edges x)

sound_edge : (nodes : List Node) (facts : List Fact) (merged : List (ℕ × ℕ)) (edges edges' : List Edge) (x : Edge) → edges' ≡ edges ++ x ∷ [] → AreSound nodes facts merged edges → Bound nodes facts x.from x.to x.most → AreSound nodes facts merged edges'
sound_edge nodes facts merged edges edges' x is s right = record {
  equal = s.equal;
  bound = λ f m. elim (Contains-push_cases edges x f (subst (λ (l : List Edge). Contains l f) is m)) [
    | inl k ↦ s.bound f k
    | inr g ↦ subst (λ (w : Edge). Bound nodes facts w.from w.to w.most) g right
  ];
}

module _ (nodes : List Node) (merged : List (ℕ × ℕ)) (edges : List Edge) where
  pub gains_equal : (merged' : List (ℕ × ℕ)) (a b : ℕ) → merged' ≡ merged ++ (a, b) ∷ [] → HasGained nodes (fs.Equal a b) merged edges merged' edges
  gains_equal merged' a b is = record {
    merged_kept = λ x y h. subst (λ (l : List (ℕ × ℕ)). Contains l (x, y)) (sym is) (Contains-append_left merged ((a, b) ∷ []) (x, y) h);
    edges_kept = λ e h. h;
    sound = λ facts m s. record {
      equal = λ x y h. elim (Contains-push_cases merged (a, b) (x, y) (subst (λ (l : List (ℕ × ℕ)). Contains l (x, y)) is h)) [
        | inl k ↦ s.equal x y k
        | inr g ↦ subst (λ (w : ℕ × ℕ). Same nodes facts w.0 w.1) g (given m)
      ];
      bound = s.bound;
    };
    has = subst (λ (l : List (ℕ × ℕ)). Contains l (a, b)) (sym is) (Contains-push merged (a, b));
  }

  pub gains_most : (edges' : List Edge) (x y : ℕ) (c : ℤ) → edges' ≡ edges ++ edge x y c ∷ [] → HasGained nodes (fs.AtMost x y c) merged edges merged edges'
  gains_most edges' x y c is = record {
    merged_kept = λ a b h. h;
    edges_kept = kept_edge edges edges' (edge x y c) is;
    sound = λ facts m s. sound_edge nodes facts merged edges edges' (edge x y c) is s (most m);
    has = new_edge edges edges' (edge x y c) is;
  }

  pub gains_difference : (edges' : List Edge) (x y : ℕ) (c : ℤ) → edges' ≡ (edges ++ edge x y c ∷ []) ++ edge y x (neg_ℤ c) ∷ [] → HasGained nodes (fs.Difference x y c) merged edges merged edges'
  gains_difference edges' x y c is = record {
    merged_kept = λ a b h. h;
    edges_kept = λ f h. kept_edge (edges ++ edge x y c ∷ []) edges' (edge y x (neg_ℤ c)) is f (kept_edge edges (edges ++ edge x y c ∷ []) (edge x y c) refl f h);
    sound = λ facts m s. sound_edge nodes facts merged (edges ++ edge x y c ∷ []) edges' (edge y x (neg_ℤ c)) is
        (sound_edge nodes facts merged edges (edges ++ edge x y c ∷ []) (edge x y c) refl s (difference_up m)) (difference_down m);
    has = both_new edges' x y c is;
  }
    where
      both_new : (edges' : List Edge) (x y : ℕ) (c : ℤ) → edges' ≡ (edges ++ edge x y c ∷ []) ++ edge y x (neg_ℤ c) ∷ [] → HasBoth edges' x y c
      both_new edges' x y c is = record { up = kept_edge (edges ++ edge x y c ∷ []) edges' (edge y x (neg_ℤ c)) is (edge x y c) (Contains-push edges (edge x y c)); down = new_edge (edges ++ edge x y c ∷ []) edges' (edge y x (neg_ℤ c)) is }

pub fact_kept : (merged : List (ℕ × ℕ)) (edges : List Edge) (merged' : List (ℕ × ℕ)) (edges' : List Edge) → ((a b : ℕ) → WereMerged merged a b → WereMerged merged' a b) → ((e : Edge) → Contains edges e → Contains edges' e) → (l : Fact) → HasFact merged edges l → HasFact merged' edges' l
fact_kept merged edges merged' edges' m e (fs.Equal a b) h = m a b h
fact_kept merged edges merged' edges' m e (fs.NotEqual a b) h = h
fact_kept merged edges merged' edges' m e (fs.AtMost x y c) h = e (edge x y c) h
fact_kept merged edges merged' edges' m e (fs.Difference x y c) h = record { up = e (edge x y c) h.up; down = e (edge y x (neg_ℤ c)) h.down }
fact_kept merged edges merged' edges' m e (fs.NotDifference x y c) h = h
fact_kept merged edges merged' edges' m e fs.False h = h

pub both_kept : (edges edges' : List Edge) → ((e : Edge) → Contains edges e → Contains edges' e) → (x y : ℕ) (c : ℤ) → HasBoth edges x y c → HasBoth edges' x y c
both_kept edges edges' e x y c h = record { up = e (edge x y c) h.up; down = e (edge y x (neg_ℤ c)) h.down }

pub term_kept : (nodes : List Node) (edges edges' : List Edge) → ((e : Edge) → Contains edges e → Contains edges' e) → (a : ℕ) → HasTerm nodes edges a → HasTerm nodes edges' a
term_kept nodes edges edges' e a h = record {
  sum = λ q c p. both_kept edges edges' e a q c (h.sum q c p);
  number = λ c o p z. both_kept edges edges' e a o c (h.number c o p z);
}

-- two bounds, that follow, and where they are
pub two_added : (nodes : List Node) (edges edges' : List Edge) (x y : ℕ) (c : ℤ) → edges' ≡ (edges ++ edge x y c ∷ []) ++ edge y x (neg_ℤ c) ∷ [] → ((facts : List Fact) → Bound nodes facts x y c) → ((facts : List Fact) → Bound nodes facts y x (neg_ℤ c)) → HaveBoundsGrown nodes edges edges'
two_added nodes edges edges' x y c is up down = λ merged. grown_join nodes merged edges merged (edges ++ edge x y c ∷ []) merged edges'
    (grown_edge nodes merged edges (edges ++ edge x y c ∷ []) (edge x y c) refl (λ facts s. up facts))
    (grown_edge nodes merged (edges ++ edge x y c ∷ []) edges' (edge y x (neg_ℤ c)) is (λ facts s. down facts))

pub two_are : (edges edges' : List Edge) (x y : ℕ) (c : ℤ) → edges' ≡ (edges ++ edge x y c ∷ []) ++ edge y x (neg_ℤ c) ∷ [] → HasBoth edges' x y c
two_are edges edges' x y c is = record { up = kept_edge (edges ++ edge x y c ∷ []) edges' (edge y x (neg_ℤ c)) is (edge x y c) (Contains-push edges (edge x y c)); down = new_edge (edges ++ edge x y c ∷ []) edges' (edge y x (neg_ℤ c)) is }

pub number_added : (nodes : List Node) (edges edges' : List Edge) (a o : ℕ) (c : ℤ) → IsNumber nodes a c → IsNumber nodes o (pos 0) → edges' ≡ (edges ++ edge a o c ∷ []) ++ edge o a (neg_ℤ c) ∷ [] → HaveBoundsGrown nodes edges edges'
number_added nodes edges edges' a o c n z is = two_added nodes edges edges' a o c is (λ facts. number_up n z) (λ facts. number_down n z)

pub sum_added : (nodes : List Node) (edges edges' : List Edge) (a q : ℕ) (c : ℤ) → IsPlus nodes a q c → edges' ≡ (edges ++ edge a q c ∷ []) ++ edge q a (neg_ℤ c) ∷ [] → HaveBoundsGrown nodes edges edges'
sum_added nodes edges edges' a q c p is = two_added nodes edges edges' a q c is (λ facts. sum_up p) (λ facts. sum_down p)

-- a term is one number at most
pub number_one : (nodes : List Node) (a : ℕ) (c d : ℤ) → IsNumber nodes a c → IsNumber nodes a d → c ≡ d
number_one nodes a c d p q = let e = p.1 in let f = q.1 in let i : p.0 ≡ q.0 = cc in let h = p.2 in
    let k : p.0.head ≡ Number d = subst (λ (z : Node). z.head ≡ Number d) (sym i) q.2 in cc

-- and one sum at most
pub sum_one : (nodes : List Node) (a q r : ℕ) (c d : ℤ) → IsPlus nodes a q c → IsPlus nodes a r d → (q ≡ r) × (c ≡ d)
sum_one nodes a q r c d p s = let e = p.found in let f = s.found in let i : p.node ≡ s.node = cc in (
  sym p.part ∙ ap (λ (z : Node). slice_index z.parts.items 0) i ∙ s.part,
  number_one nodes (slice_index p.node.parts.items 1) c d p.number (subst (λ (z : Node). IsNumber nodes (slice_index z.parts.items 1) d) (sym i) s.number),
)

-- the part of a sum is a term
pub sum_part : (nodes : List Node) (n a q : ℕ) (c : ℤ) → PartsAreBelow nodes n → IsPlus nodes a q c → q < n
sum_part nodes n a q c below p =
    let l = slice_get_within nodes a p.node p.found in
    let w : All (λ x. x < n) p.node.parts.items = rw (get_or_from_slice_get nodes a p.node p.node p.found) at (below a p.node l) in
    let h = w 0 0 (let t = p.two in omega arith) in subst (λ z. z < n) p.part h

-- a number of the table is small
pub number_small : (nodes : List Node) (a : ℕ) (c : ℤ) → All HasSmallNumber nodes → IsNumber nodes a c → IsSmall (2 ^ 100) c
number_small nodes a c small p =
    let l = slice_get_within nodes a p.0 p.1 in
    (rw (get_or_from_slice_get nodes a p.0 p.0 p.1) at (small a p.0 l)) c p.2
