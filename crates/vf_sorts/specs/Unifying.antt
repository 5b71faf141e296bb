-- Sorts are made equal pair by pair, in the order of the text, by the rules of Martelli and Montanari (1982); and what that makes known of the unknown ones.
use Rattle.std.specs.Prelude.{◌≡◌, ◌↔◌, ◌++◌, length, ℕ, zero, suc, nat_eq, Bool, false, ◌&&◌, if◌then◌else◌, List, [], ◌∷◌, Option, Some, None}
use Rattle.std.specs.Option.{option_map}
use Rattle.vf_sorts.specs.declared.sort.Head.{Head}
use Rattle.vf_sorts.specs.declared.sort.Head.TheVariants as heads
use Rattle.vf_sorts.specs.declared.pair.Pair.{Pair}
use Rattle.vf_sorts.specs.Sorts.{Sort, Sorts, sort, no_sorts, and_sort}
use Rattle.vf_sorts.specs.Told.{AreAlike, untold_head}
use Rattle.vf_sorts.specs.Codes.{are_stored_alike, head_code}
use Rattle.vf_sorts.specs.Unknowns.{Agrees, AgreesAsTold, Filling, Known, by_known, filled, is_in, with_known}
use Rattle.vf_sorts.specs.Pairs.{head_of, paired, weight}

-- whether two heads are one, up to what pointers tell
abbrev pub are_heads_alike : Head → Head → Bool
are_heads_alike h g = are_stored_alike (head_code (untold_head h)) (head_code (untold_head g))

-- the number of the unknown sort that a head is, where it is one
abbrev pub unknown_of : Head → Option ℕ
unknown_of (heads.Unknown u) = Some u
unknown_of h = None

-- a head is the unknown sort with a number
abbrev pub is_numbered : ℕ → Option ℕ → Bool
is_numbered u None = false
is_numbered u (Some v) = nat_eq v u

-- what is known where an unknown sort comes to be a sort: nothing new where it is that one itself, and it is none in which it stands
abbrev pub with_sort : Known → ℕ → Sort → Option Known
with_sort k u s = if is_numbered u (unknown_of (head_of s)) then Some k else if is_in u s then None else Some (with_known k u s)

-- sorts in a row as a list
abbrev pub listed : Sorts → List Sort
listed no_sorts = []
listed (and_sort t ts) = t ∷ listed ts

-- the parts of a sort
abbrev pub parts_of : Sort → List Sort
parts_of (sort h ts) = listed ts

-- what is known, and what is left to be made equal
abbrev pub Left : Type 0
Left = Known × List Pair

-- what is known, and what is left beside it
abbrev pub beside : List Pair → Known → Left
beside ps k = (k, ps)

-- the parts of two sorts that are no unknown ones are left, before what was left: there are as many of both, and their heads are one up to what pointers tell
abbrev pub with_parts : Known → List Pair → Sort → Sort → Option Left
with_parts k ps s t = if are_heads_alike (head_of s) (head_of t) && nat_eq (length (parts_of s)) (length (parts_of t)) then Some (k, paired (parts_of s) (parts_of t) ++ ps) else None

-- what comes of two sorts of which the first or else the second may be an unknown one
abbrev pub by_unknown : Known → List Pair → Sort → Sort → Option ℕ → Option ℕ → Option Left
by_unknown k ps s t (Some u) o = option_map (beside ps) (with_sort k u t)
by_unknown k ps s t None (Some u) = option_map (beside ps) (with_sort k u s)
by_unknown k ps s t None None = with_parts k ps s t

-- what comes of two sorts in which what is known stands for the unknown ones
abbrev pub by_heads : Known → List Pair → Sort → Sort → Option Left
by_heads k ps s t = by_unknown k ps s t (unknown_of (head_of s)) (unknown_of (head_of t))

-- what comes of the first pair: what is known then and what is left, or nothing where it can't be made equal
abbrev pub first_made : Known → Pair → List Pair → Option Left
first_made k p ps = by_heads k ps (filled (by_known k) p.left) (filled (by_known k) p.right)

-- what there is where something was made, and nothing else
abbrev pub where_made : {A : Type 0} → Bool → A → Option A
where_made made a = if made then Some a else None

-- what is made of what is left, if anything is
abbrev pub then_made : (Left → Option Known) → Option Left → Option Known
then_made f None = None
then_made f (Some l) = f l

-- what is known where each of some pairs is made equal, one after the other, with so many steps at most
abbrev pub made_within : ℕ → Known → List Pair → Option Known
made_within n k [] = Some k
made_within zero k (p ∷ ps) = None
made_within (suc n) k (p ∷ ps) = then_made (λ l. made_within n l.0 l.1) (first_made k p ps)

-- two sorts as a pair
abbrev pub pair_of : Sort → Sort → Pair
pair_of s t = record { left = s; right = t }

-- what is known where two sorts are made equal, which takes no more steps than what is left to do
abbrev pub unified : Known → Sort → Sort → Option Known
unified k s t = made_within (weight k (pair_of s t ∷ [])) k (pair_of s t ∷ [])

-- what is known makes two sorts equal, and nothing else: the sorts that agree with it are those that agreed with what was known and make the two alike; what pointers told is kept, and what they tell stands for the sorts that are learnt, of two that tell otherwise the first
pub record Equates (known : Known) (s t : Sort) (then_known : Known) : Type 0 where
  pub long : length then_known ≡ length known
  pub alike : (f : Filling) → Agrees f then_known ↔ (Agrees f known × AreAlike (filled f s) (filled f t))
  pub kept : (f : Filling) → AgreesAsTold f then_known → AgreesAsTold f known
  pub told : (f : Filling) → AgreesAsTold f known → filled f s ≡ filled f t → AgreesAsTold f then_known
  pub made : unified known s t ≡ Some then_known

-- nothing that agrees with what is known makes two sorts alike
pub record AreApart (known : Known) (s t : Sort) : Type 0 where
  pub apart : (f : Filling) → Agrees f known → AreAlike (filled f s) (filled f t) → ⊥
  pub unmade : unified known s t ≡ None
