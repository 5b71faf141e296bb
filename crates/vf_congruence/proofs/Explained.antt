-- What was derived of labels stays derived.
use Rattle.std.proofs.Common.{[], ◌≡◌, ℕ, ◌<◌, List, length, Some, refl, sym, ◌∙◌, ap, subst, arith, get_or, set, slice_index, length-set, get_or-set_same, get_or-set_other}
use Rattle.std.proofs.Math.Decide.{ℕ_discrete}
use Rattle.vf_refute.specs.declared.steps.Derived.{Derived}
use Rattle.vf_refute.specs.declared.steps.Derived.TheVariants.{AreEqual}
use Rattle.std.specs.Prelude.{slice_get, slice_index_or}
use Rattle.std.proofs.lemmas.Option.{slice_get_within, slice_get-get_or, get_or_from_slice_get}
use Rattle.vf_table.specs.Tables.{IsInjective}
use Rattle.vf_congruence.specs.Congruence.{WereMerged}
use Rattle.vf_table.specs.declared.node.Node.{Node}
use Rattle.vf_refute.specs.Refutations.{HasDerived, ArePairwiseEqual, IsCongruent, AreParts}
use Rattle.vf_log.specs.Copies.{HaveSameTerms}
use Rattle.vf_log.specs.Derivations.{Derivation, IsContinued}
use Rattle.vf_congruence.specs.Explained.{AreExplained, AreReasons, IsOfWhole, IsOfPlace, IsParted}

pub explained_kept : {log log' : Derivation} {labels steps : List ℕ} → IsContinued log log' → AreExplained log.known labels steps → AreExplained log'.known labels steps
explained_kept {labels = labels} {steps = steps} h e = record { long = e.long; each = λ k l. h.kept (slice_index steps k) (AreEqual k (slice_index labels k)) (e.each k l) }

pub explained_set : (known : List Derived) (labels steps : List ℕ) (i to n : ℕ) → AreExplained known labels steps → i < length labels → HasDerived known n (AreEqual i to) → AreExplained known (set labels i to) (set steps i n)
explained_set known labels steps i to n h l d = record {
  long = simp length-set h.long;
  each = λ k m. elim (ℕ_discrete k i) [
    | yes p ↦ subst (λ z. HasDerived known (slice_index (set steps i n) z) (AreEqual z (slice_index (set labels i to) z))) (sym p) (at_i (omega arith) (let j = h.long in omega arith))
    | no p ↦ at_other k p (let j : length (set labels i to) ≡ length labels = length-set labels i to in omega arith)
  ];
}
  where
    at_i : i < length labels → i < length steps → HasDerived known (slice_index (set steps i n) i) (AreEqual i (slice_index (set labels i to) i))
    at_i u v = rw (get_or-set_same, get_or-set_same) d

    at_other : (k : ℕ) → (k ≡ i → ⊥) → k < length labels → HasDerived known (slice_index (set steps i n) k) (AreEqual k (slice_index (set labels i to) k))
    at_other k ne u = let x : get_or (set steps i n) k 0 ≡ get_or steps k 0 = rw get_or-set_other in let y : get_or (set labels i to) k 0 ≡ get_or labels k 0 = rw get_or-set_other in
        rw (x, y) (h.each k u)

pub whole_congruent : (nodes copies : List Node) (known : List Derived) (a b : ℕ) (steps labels : List ℕ) (m n : Node) → HaveSameTerms nodes copies → IsOfWhole nodes labels a b → slice_get nodes a ≡ Some m → slice_get nodes b ≡ Some n → ArePairwiseEqual known m.parts.items n.parts.items steps → IsCongruent copies known a b steps (AreEqual a b)
whole_congruent nodes copies known a b steps labels m n same w p q r =
    let f = same.each a m p in
    let g = same.each b n q in
    record {
      left = f.0;
      right = g.0;
      found_left = f.1;
      found_right = g.1;
      head = let i = w.found_left in let j = w.found_right in let k = w.head in let u : w.left ≡ m = cc in let v : w.right ≡ n = cc in let x = f.2.head in let y = g.2.head in cc;
      parts = subst (λ (z : List ℕ). ArePairwiseEqual known z g.0.parts.items steps) (sym f.2.parts) (subst (λ (z : List ℕ). ArePairwiseEqual known m.parts.items z steps) (sym g.2.parts) r);
      is = refl;
    }

module _ (nodes : List Node) (labels : List ℕ) (a b i : ℕ) (m n : Node) (h : IsOfPlace nodes labels a b i) (p : slice_get nodes a ≡ Some m) (q : slice_get nodes b ≡ Some n) where
  left_is : h.left ≡ m
  left_is = let j = h.found_left in cc

  right_is : h.right ≡ n
  right_is = let j = h.found_right in cc

  pub place_left : i < length m.parts.items
  place_left = subst (λ (z : Node). i < length z.parts.items) left_is h.within

  pub place_right : i < length n.parts.items
  place_right = subst (λ (z : Node). i < length z.parts.items) right_is (let j = h.long in let k = h.within in omega arith)

  pub place_apart : slice_index labels (slice_index m.parts.items i) ≡ slice_index labels (slice_index n.parts.items i) → ⊥
  place_apart e = h.apart (rw (left_is, right_is) e)

  pub place_parts : (copies : List Node) → HaveSameTerms nodes copies → AreParts copies a b i (slice_index m.parts.items i) (slice_index n.parts.items i)
  place_parts copies same =
      let f = same.each a m p in
      let g = same.each b n q in
      record {
        left = f.0;
        right = g.0;
        found_left = f.1;
        found_right = g.1;
        injective = subst IsInjective (let k = f.2.head in let u : h.left ≡ m = left_is in cc) h.injective;
        head = let x = f.2.head in let y = g.2.head in let u : h.left ≡ m = left_is in let v : h.right ≡ n = right_is in let k = h.head in cc;
        long = rw (f.2.parts, g.2.parts) (rw (left_is, right_is) at h.long);
        within = rw f.2.parts place_left;
        first = rw f.2.parts;
        second = rw g.2.parts;
      }

-- the pair at a place of the list
pub pair_read : (merged : List (ℕ × ℕ)) (i : ℕ) → i < length merged → slice_get merged i ≡ Some ((slice_index_or merged i (0, 0)).0, (slice_index_or merged i (0, 0)).1)
pair_read merged i l = slice_get-get_or merged i (0, 0) l

pub pair_in : (merged : List (ℕ × ℕ)) (i : ℕ) → i < length merged → WereMerged merged (slice_index_or merged i (0, 0)).0 (slice_index_or merged i (0, 0)).1
pair_in merged i l = (i, l, get_or_from_slice_get merged i (slice_index_or merged i (0, 0)) (slice_index_or merged i (0, 0)) (slice_get-get_or merged i (0, 0) l))

pub pair_found : (merged : List (ℕ × ℕ)) (x y : ℕ) (w : WereMerged merged x y) → slice_get merged w.0 ≡ Some (x, y)
pair_found merged x y w = slice_get-get_or merged w.0 (x, y) w.1 ∙ ap Some w.2

pub pair_joined : (labels : List ℕ) (merged : List (ℕ × ℕ)) (i x y : ℕ) → i < length merged → slice_index labels (slice_index_or merged i (0, 0)).0 ≡ slice_index labels (slice_index_or merged i (0, 0)).1 → slice_get merged i ≡ Some (x, y) → slice_index labels x ≡ slice_index labels y
pair_joined labels merged i x y l h e =
    let f = pair_read merged i l in
    let p : (slice_index_or merged i (0, 0)).0 ≡ x = cc in
    let q : (slice_index_or merged i (0, 0)).1 ≡ y = cc in
    ap (slice_index labels) (sym p) ∙ h ∙ ap (slice_index labels) q

pub reasons_kept : {log log' : Derivation} {merged : List (ℕ × ℕ)} {reasons : List ℕ} → IsContinued log log' → AreReasons log.known merged reasons → AreReasons log'.known merged reasons
reasons_kept {reasons = reasons} h e = record { long = e.long; each = λ i x y k. h.kept (slice_index reasons i) (AreEqual x y) (e.each i x y k) }

pub pair_apart : (labels : List ℕ) (merged : List (ℕ × ℕ)) (i : ℕ) → IsParted labels merged i → slice_index labels (slice_index_or merged i (0, 0)).0 ≡ slice_index labels (slice_index_or merged i (0, 0)).1 → ⊥
pair_apart labels merged i h e = h.apart (pair_joined labels merged i h.x h.y h.within e h.found)

-- where nothing was merged no reasons are wanted
pub no_reasons : (known : List Derived) (merged : List (ℕ × ℕ)) → merged ≡ [] → AreReasons known merged []
no_reasons known merged e = record { long = ap length (sym e); each = λ i x y f. absurd (let l = slice_get_within merged i (x, y) f in let m : length merged ≡ 0 = ap length e in omega arith) }
