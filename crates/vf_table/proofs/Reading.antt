-- What `get` says of a list.
use Rattle.std.proofs.Common.{◌≡◌, ℕ, ◌<◌, true, false, List, length, get_or, Some, refl, sym, ltb, subst, ◌∙◌, arith}
use Rattle.std.specs.Prelude.{Contains, All, slice_get}
use Rattle.std.proofs.lemmas.Option.{slice_get_read, slice_get_within}
use Rattle.std.proofs.lemmas.List.{get_or_default}
use borrow.Author.Tests.{true-ltb, false-ltb}
use Rattle.std.specs.Prelude.{ℤ}
use Rattle.vf_table.specs.declared.node.Node.{Node}
use Rattle.vf_table.specs.Tables.{IsNumber, IsPlus}

-- an item that was read stands in the list
pub item_read : {X : Type 0} (xs : List X) (i : ℕ) (x : X) → true ≡ ltb i (length xs) → x ≡ get_or xs i x → slice_get xs i ≡ Some x
item_read xs i x g h = slice_get_read xs (length xs) i x refl (true-ltb i (length xs) g) h

pub item_contained : {X : Type 0} (xs : List X) (i : ℕ) (x y : X) → true ≡ ltb i (length xs) → x ≡ get_or xs i x → x ≡ y → Contains xs y
item_contained xs i x y g h e = subst (Contains xs) e (i, true-ltb i (length xs) g, sym h)

-- what holds of all items holds of one that was read
pub item_has : {X : Type 0} (P : X → Type 0) (xs : List X) (i : ℕ) (x y : X) → All P xs → true ≡ ltb i (length xs) → x ≡ get_or xs i x → x ≡ y → P y
item_has P xs i x y all g h e = subst P (sym h ∙ e) (all i x (true-ltb i (length xs) g))

-- past the end there is no item
pub item_missing : {X : Type 0} (xs : List X) (i : ℕ) (y : X) → false ≡ ltb i (length xs) → slice_get xs i ≡ Some y → ⊥
item_missing xs i y g h = let l = false-ltb i (length xs) g in let w = slice_get_within xs i y h in omega arith

-- a number that was read, as lists of numbers are read everywhere
pub number_read : (xs : List ℕ) (i x : ℕ) → i < length xs → x ≡ get_or xs i x → get_or xs i 0 ≡ x
number_read xs i x l e = sym (e ∙ get_or_default xs i x 0 l)

-- the number of a sum whose node is known
pub same_node : (nodes : List Node) (a q : ℕ) (m : Node) (c : ℤ) → IsPlus nodes a q c → slice_get nodes a ≡ Some m → IsNumber nodes (get_or m.parts.items 1 0) c
same_node nodes a q m c p e = let f = p.found in let i : p.node ≡ m = cc in subst (λ (z : Node). IsNumber nodes (get_or z.parts.items 1 0) c) i p.number
