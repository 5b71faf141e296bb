-- Pairs of sorts that are to be made equal, and how much is left to do of them.
use Rattle.std.specs.Prelude.{◌≡◌, ℕ, zero, suc, ◌+◌, ◌*◌, List, [], ◌∷◌, Some, None, sum_by}
use Rattle.vf_sorts.specs.declared.sort.Head.{Head}
use Rattle.vf_sorts.specs.declared.pair.Pair.{Pair}
use Rattle.vf_sorts.specs.Sorts.{Sort, sort, size_of}
use Rattle.vf_sorts.specs.Unknowns.{Filling, filled, Known, by_known, IsBelow}

-- the head of a sort
abbrev pub head_of : Sort → Head
head_of (sort h ts) = h

-- the sorts of two lists, place by place
abbrev pub paired : List Sort → List Sort → List Pair
paired (s ∷ ss) (t ∷ ts) = record { left = s; right = t } ∷ paired ss ts
paired _ _ = []

-- two sorts are equal as something sees them, where something fills the unknown ones
abbrev pub AreEqual : (Sort → Sort) → Filling → Pair → Type 0
AreEqual g f p = g (filled f p.left) ≡ g (filled f p.right)

-- the same of each of some pairs
abbrev pub AllEqual : (Sort → Sort) → Filling → List Pair → Type 0
AllEqual g f [] = Unit {0}
AllEqual g f (p ∷ pairs) = AreEqual g f p × AllEqual g f pairs

-- the unknown sorts of a pair have numbers below this
abbrev pub ArePairBelow : ℕ → Pair → Type 0
ArePairBelow n p = IsBelow n p.left × IsBelow n p.right

-- the same of each of some pairs
abbrev pub AreBelow : ℕ → List Pair → Type 0
AreBelow n [] = Unit {0}
AreBelow n (p ∷ pairs) = ArePairBelow n p × AreBelow n pairs

-- of how many unknown sorts nothing is known
abbrev pub open_count : Known → ℕ
open_count [] = 0
open_count (None ∷ known) = suc (open_count known)
open_count (Some s ∷ known) = open_count known

-- how large the sorts of a pair are with what is known
abbrev pub pair_size : Known → Pair → ℕ
pair_size known p = size_of (filled (by_known known) p.left) + size_of (filled (by_known known) p.right)

-- the same of all pairs together
abbrev pub load : Known → List Pair → ℕ
load known pairs = sum_by (pair_size known) pairs

-- what is left to do where so many sorts are unknown and the pairs are so large: to learn of a sort makes them larger, at most by their size
unfoldable pub left_to_do : ℕ → ℕ → ℕ
left_to_do zero size = size
left_to_do (suc n) size = suc (size + left_to_do n (size * size))

-- what is left to do of pairs
abbrev pub weight : Known → List Pair → ℕ
weight known pairs = left_to_do (open_count known) (load known pairs)
