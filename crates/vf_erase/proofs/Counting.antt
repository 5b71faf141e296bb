-- What counts tell of the nodes between two of them.
use Rattle.std.proofs.Common.{◌≡◌, ℕ, zero, suc, ◌+◌, ◌-◌, ◌≤◌, Bool, true, false, if◌then◌else◌, List, [], ◌∷◌, ◌++◌, length, take, drop, Some, None, slice_get, refl, sym, ap, ◌∙◌, append_assoc, arith, take-add}
use Rattle.std.proofs.lemmas.List.{take_all, take-take, length-take-le, take-append-drop}
use Rattle.vf_steps.specs.declared.action.Node.{Node}
use Rattle.vf_steps.specs.Shown.{node_of, nodes_of}
use Rattle.vf_steps.specs.Tree.{NodeTree}
use Rattle.vf_functions.specs.Erased.{count_kept, gone_back, is_kept, skipped}
use Rattle.vf_lower.proofs.Lists.{left_at, left_end}
use Rattle.vf_functions.proofs.Counting.{count_behind}
use Rattle.vf_erase.specs.Counting.{counted, counts_behind, counts_of}

-- one more counts wherever it is counted
moved : (k m : ℕ) (b : Bool) → counted k b + m ≡ k + (if b then suc m else m)
moved k m true = omega arith
moved k m false = refl

-- the count at an index
count_at : (k : ℕ) (ns : List NodeTree) (i : ℕ) → i ≤ length ns → slice_get (counts_behind k ns) i ≡ Some (k + count_kept (take i ns))
count_at k [] zero h = ap Some (omega arith)
count_at k [] (suc i) h = absurd (omega arith)
count_at k (n ∷ ns) zero h = ap Some (omega arith)
count_at k (n ∷ ns) (suc i) h = count_at (counted k (is_kept n.action)) ns i (omega arith) ∙ ap Some (moved k (count_kept (take i ns)) (is_kept n.action))

-- the same of a whole body
pub count_of : (ns : List NodeTree) (i : ℕ) → i ≤ length ns → slice_get (counts_of ns) i ≡ Some (count_kept (take i ns))
count_of ns i h = count_at 0 ns i h ∙ ap Some (omega arith)

-- there is one count more than there are nodes
pub counts_length : (k : ℕ) (ns : List NodeTree) → length (counts_behind k ns) ≡ suc (length ns)
counts_length k [] = refl
counts_length k (n ∷ ns) = ap suc (counts_length (counted k (is_kept n.action)) ns)

-- how many are kept up to an index is how many are kept up to one before, and between
count_between : (ns : List NodeTree) (i k : ℕ) → count_kept (take (i + k) ns) ≡ count_kept (take i ns) + count_kept (take k (drop i ns))
count_between ns i k = ap count_kept (take-add i k ns) ∙ count_behind (take i ns) (take k (drop i ns))

-- how many nodes are skipped, within the body
pub skipped_within : (ns : List NodeTree) (i k : ℕ) → skipped k (drop i ns) ≡ count_kept (take (i + k) ns) - count_kept (take i ns)
skipped_within ns i k = let e = count_between ns i k in omega (arith, e)

-- up to its end
pub skipped_to_end : (ns : List NodeTree) (i k : ℕ) → i ≤ length ns → length ns ≤ i + k → skipped k (drop i ns) ≡ count_kept (take (length ns) ns) - count_kept (take i ns)
skipped_to_end ns i k h past = skipped_within ns i k ∙ ap (λ xs. count_kept xs - count_kept (take i ns)) (take_all (i + k) ns past ∙ sym (take_all (length ns) ns (omega arith)))

-- over how many nodes the way back goes
pub back_within : (ns : List NodeTree) (i k : ℕ) → i ≤ length ns → gone_back k (take i ns) ≡ count_kept (take i ns) - count_kept (take (i - k) ns)
back_within ns i k h =
    let from : length (take i ns) - k ≡ i - k = ap (λ n. n - k) (length-take-le i ns h) in
    let front : take (i - k) (take i ns) ≡ take (i - k) ns = take-take (i - k) i ns (omega arith) in
    let whole : count_kept (take i ns) ≡ count_kept (take (i - k) (take i ns)) + count_kept (drop (i - k) (take i ns)) = ap count_kept (sym (take-append-drop (i - k) (take i ns))) ∙ count_behind (take (i - k) (take i ns)) (drop (i - k) (take i ns)) in
    let same : count_kept (take (i - k) (take i ns)) ≡ count_kept (take (i - k) ns) = ap count_kept front in
    ap (λ j. count_kept (drop j (take i ns))) from ∙ omega (arith, whole, same)

-- a count that is read is the one at an index
pub count_read : (cs : List ℕ) (ns : List NodeTree) (i n : ℕ) → cs ≡ counts_of ns → i ≤ length ns → Some n ≡ slice_get cs i → n ≡ count_kept (take i ns)
count_read cs ns i n is h found = let e : Some n ≡ Some (count_kept (take i ns)) = found ∙ ap (λ xs. slice_get xs i) is ∙ count_of ns i h in cc

-- there is a count at each index, and behind the last node
pub count_there : {A : Type 0} (cs : List ℕ) (ns : List NodeTree) (i : ℕ) → cs ≡ counts_of ns → i ≤ length ns → None ≡ slice_get cs i → A
count_there cs ns i is h found = absurd (none_some (found ∙ ap (λ xs. slice_get xs i) is ∙ count_of ns i h))
  where
    none_some : {n : ℕ} → None ≡ Some n → ⊥
    none_some e = cc

-- one more count
pub counts_more : (ns : List NodeTree) (i k m : ℕ) (n : NodeTree) (cs now whole : List ℕ) → slice_get ns i ≡ Some n → now ≡ cs ++ k ∷ [] → m ≡ counted k (is_kept n.action) → cs ++ counts_behind k (drop i ns) ≡ whole → now ++ counts_behind m (drop (i + 1) ns) ≡ whole
counts_more ns i k m n cs now whole h step one so =
    (λ j. step j ++ counts_behind (one j) (drop (i + 1) ns)) ∙ append_assoc cs (k ∷ []) (counts_behind (counted k (is_kept n.action)) (drop (i + 1) ns)) ∙ ap (λ xs. cs ++ counts_behind k xs) (sym (left_at ns i n h)) ∙ so

-- the last count
pub counts_end : (ns : List NodeTree) (i k : ℕ) (cs now whole : List ℕ) → length ns ≤ i → now ≡ cs ++ k ∷ [] → cs ++ counts_behind k (drop i ns) ≡ whole → now ≡ whole
counts_end ns i k cs now whole h step so = step ∙ ap (λ xs. cs ++ counts_behind k xs) (sym (left_end ns i h)) ∙ so

-- what a node of the code shows at an index
pub shown_at : (xs : List Node) (i : ℕ) (x : Node) → slice_get xs i ≡ Some x → slice_get (nodes_of xs) i ≡ Some (node_of x)
shown_at [] i x h = absurd cc
shown_at (y ∷ ys) zero x h = let e : y ≡ x = cc in ap (λ z. Some (node_of z)) e
shown_at (y ∷ ys) (suc i) x h = shown_at ys i x h
