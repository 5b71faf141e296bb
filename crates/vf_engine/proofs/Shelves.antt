-- What becomes of the memory where a shelf is changed.
use Rattle.std.proofs.Common.{◌≡◌, ℕ, ◌+◌, ◌-◌, ◌≤◌, length, Bool, true, false, cond, List, [], map, Option, Some, None, is_some, IsSome, Result, Ok, Err, OnErr, refl, sym, ap, subst, ◌∙◌, ⊎_elim, arith}
use Rattle.std.specs.Option.{option_map, MatchOption}
use Rattle.std.specs.Ordering.{nat_cmp, is_eq}
use Rattle.std.specs.FinMap as finite
use Rattle.std.specs.FinMap.{from_entries}
use Rattle.std.proofs.lemmas.Bool.{cond-true, cond-false, cases_Bool}
use Rattle.vf_tree.specs.Core.{Identity}
use Rattle.vf_model.specs.Memory.{IsLeastFree, written, written_in}
use Rattle.vf_engine.specs.declared.value.Value.{Value}
use Rattle.vf_engine.specs.declared.blocks.Block.{Block}
use Rattle.vf_engine.specs.declared.blocks.Blocks.{Blocks}
use Rattle.vf_engine.specs.declared.shelf.Shelf.{Shelf}
use Rattle.vf_engine.specs.Values.{value_of}
use Rattle.vf_engine.specs.Memories.{block_of, entry_of, memory_of, IsSet}
use Rattle.vf_engine.specs.Shelves.{block_on, blocks_on, IsSameShelf, HasAt, IsChangedAt}
use Rattle.vf_engine.specs.Taken.{AreTaken, IsFirstFree}
use Rattle.vf_engine.proofs.Maps.{at, get_mapped, key_mapped, same_mapped, inserted, removed, len_put, len_taken, len_mapped, len_some, len_most}
use Rattle.vf_engine.proofs.Held.{at_held, entries_most, tied, apart, same_key, none_of}

-- how many blocks there are
abbrev pub count_on : Shelf → ℕ
count_on shelf = finite.len (from_entries {R = nat_cmp} (blocks_on shelf))

-- a look-up in the entries gives the block of the number
pub on_shelf : (s : Shelf) (q : ℕ) → at (blocks_on s) q ≡ block_on s q
on_shelf s q = at_held s.low.items s.beyond q

-- so does the memory
pub memory_get : (names : List Identity) (b : Blocks) (q : ℕ) → finite.get (memory_of names b) q ≡ option_map (block_of names) (block_on b.shelf q)
memory_get names b q = get_mapped (block_of names) (blocks_on b.shelf) q ∙ ap (option_map (block_of names)) (on_shelf b.shelf q)

-- the memory has a number where the shelf has it
pub memory_key : (names : List Identity) (b : Blocks) (q : ℕ) → finite.contains_key (memory_of names b) q ≡ is_some (block_on b.shelf q)
memory_key names b q = key_mapped (block_of names) (blocks_on b.shelf) q ∙ ap is_some (on_shelf b.shelf q)

-- and as many
pub memory_len : (names : List Identity) (b : Blocks) → finite.len (memory_of names b) ≡ count_on b.shelf
memory_len names b = len_mapped (block_of names) (blocks_on b.shelf)

looked : (s t : Shelf) (k : ℕ) (v : Option Block) → HasAt s t k v → (q : ℕ) → at (blocks_on t) q ≡ cond (is_eq (nat_cmp k q)) v (at (blocks_on s) q)
looked s t k v h q = on_shelf t q ∙ h q ∙ ap (cond (is_eq (nat_cmp k q)) v) (sym (on_shelf s q))

-- a block is put there
pub put_memory : (names : List Identity) (s t : Shelf) (k : ℕ) (v : Block) → HasAt s t k (Some v)
    → from_entries {R = nat_cmp} (map (entry_of names) (blocks_on t)) ≡ finite.insert (from_entries {R = nat_cmp} (map (entry_of names) (blocks_on s))) k (block_of names v)
put_memory names s t k v h = inserted (block_of names) (blocks_on s) (blocks_on t) k v (looked s t k (Some v) h)

-- a block is taken away
pub taken_memory : (names : List Identity) (s t : Shelf) (k : ℕ) → HasAt s t k None
    → from_entries {R = nat_cmp} (map (entry_of names) (blocks_on t)) ≡ finite.remove (from_entries {R = nat_cmp} (map (entry_of names) (blocks_on s))) k
taken_memory names s t k h = removed (block_of names) (blocks_on s) (blocks_on t) k (looked s t k None h)

-- nothing is changed
pub same_memory : (names : List Identity) (s t : Shelf) → IsSameShelf s t
    → from_entries {R = nat_cmp} (map (entry_of names) (blocks_on t)) ≡ from_entries {R = nat_cmp} (map (entry_of names) (blocks_on s))
same_memory names s t h = same_mapped (block_of names) (blocks_on s) (blocks_on t) (λ q. on_shelf t q ∙ h q ∙ sym (on_shelf s q))

-- there are as many where nothing is changed
pub same_count : (s t : Shelf) → IsSameShelf s t → count_on t ≡ count_on s
same_count s t h = sym (len_mapped (block_of []) (blocks_on t)) ∙ ap finite.len (same_memory [] s t h) ∙ len_mapped (block_of []) (blocks_on s)

-- one more where a block is put where there was none
pub put_new : (s t : Shelf) (k : ℕ) (v : Block) → HasAt s t k (Some v) → is_some (block_on s k) ≡ false → count_on t ≡ count_on s + 1
put_new s t k v h none =
    len_put (blocks_on s) (blocks_on t) k v (looked s t k (Some v) h)
    ∙ cond-false _ (count_on s) (count_on s + 1) (ap is_some (on_shelf s k) ∙ none)

-- as many where there was one
pub put_again : (s t : Shelf) (k : ℕ) (v : Block) → HasAt s t k (Some v) → IsSome (block_on s k) → count_on t ≡ count_on s
put_again s t k v h some =
    len_put (blocks_on s) (blocks_on t) k v (looked s t k (Some v) h)
    ∙ cond-true _ (count_on s) (count_on s + 1) (ap is_some (on_shelf s k) ∙ some)

-- one less where a block is taken away
pub taken_one : (s t : Shelf) (k : ℕ) → HasAt s t k None → IsSome (block_on s k) → count_on t ≡ count_on s - 1
taken_one s t k h some =
    len_taken (blocks_on s) (blocks_on t) k (looked s t k None h)
    ∙ cond-true _ (count_on s - 1) (count_on s) (ap is_some (on_shelf s k) ∙ some)

-- there is one
pub some_on : (s : Shelf) (k : ℕ) → IsSome (block_on s k) → 1 ≤ count_on s
some_on s k some = len_some (blocks_on s) k (ap is_some (on_shelf s k) ∙ some)

-- there are no more blocks than places
pub count_most : (s : Shelf) → count_on s ≤ length s.low.items + length s.beyond.entries
count_most s =
    let a = len_most (blocks_on s) in
    let b = entries_most s.low.items s.beyond in
    omega (arith, a, b)

-- each number that had a block has one where nothing is changed
pub same_still : (s t : Shelf) → IsSameShelf s t → (q : ℕ) → IsSome (block_on s q) → IsSome (block_on t q)
same_still s t h q some = ap is_some (h q) ∙ some

still_cond : (b : Bool) (v : Block) (o p : Option Block) → p ≡ cond b (Some v) o → IsSome o → IsSome p
still_cond true v o p is some = ap is_some is
still_cond false v o p is some = ap is_some is ∙ some

-- and where a block is put somewhere
pub put_still : (s t : Shelf) (k : ℕ) (v : Block) → HasAt s t k (Some v) → (q : ℕ) → IsSome (block_on s q) → IsSome (block_on t q)
put_still s t k v h q = still_cond (is_eq (nat_cmp k q)) v (block_on s q) (block_on t q) (h q)

-- where a block is put, there is one
pub put_there : (s t : Shelf) (k : ℕ) (v : Block) → HasAt s t k (Some v) → IsSome (block_on t k)
put_there s t k v h = ap is_some (h k ∙ cond-true _ (Some v) (block_on s k) (tied k k refl))

-- where one is taken away, each other number that had a block has one
pub taken_still : (s t : Shelf) (k : ℕ) → HasAt s t k None → (q : ℕ) → (q ≡ k → ⊥) → IsSome (block_on s q) → IsSome (block_on t q)
taken_still s t k h q other some = ap is_some (h q ∙ cond-false _ None (block_on s q) (apart k q (λ e. other (sym e)))) ∙ some

changed_some : (s t : Shelf) (k : ℕ) (R : Block → Block → Type 0) (o : Option Block)
    → MatchOption o (IsSameShelf s t) (λ block. (changed : Block) × HasAt s t k (Some changed) × R block changed) → (q : ℕ) → IsSome (block_on s q) → IsSome (block_on t q)
changed_some s t k R None h = same_still s t h
changed_some s t k R (Some block) h = put_still s t k h.0 h.1

-- a block is changed where another stands in its place
pub changed_at : (s t : Shelf) (k : ℕ) (R : Block → Block → Type 0) (block changed : Block) → block_on s k ≡ Some block → HasAt s t k (Some changed) → R block changed → IsChangedAt s t k R
changed_at s t k R block changed is put related =
    subst (λ o. MatchOption o (IsSameShelf s t) (λ b. (new : Block) × HasAt s t k (Some new) × R b new)) (sym is) (changed, put, related)

-- and where a block is changed
pub changed_still : (s t : Shelf) (k : ℕ) (R : Block → Block → Type 0) → IsChangedAt s t k R → (q : ℕ) → IsSome (block_on s q) → IsSome (block_on t q)
changed_still s t k R h = changed_some s t k R (block_on s k) h

changed_number : (s t : Shelf) (k : ℕ) (R : Block → Block → Type 0) (o : Option Block) → block_on s k ≡ o
    → MatchOption o (IsSameShelf s t) (λ block. (changed : Block) × HasAt s t k (Some changed) × R block changed) → count_on t ≡ count_on s
changed_number s t k R None is h = same_count s t h
changed_number s t k R (Some block) is h = put_again s t k h.0 h.1 (ap is_some is)

-- there are as many where a block is changed
pub changed_count : (s t : Shelf) (k : ℕ) (R : Block → Block → Type 0) → IsChangedAt s t k R → count_on t ≡ count_on s
changed_count s t k R h = changed_number s t k R (block_on s k) refl h

set_memory : (names : List Identity) (a : Blocks) (t : Shelf) (k index : ℕ) (v : Value) (o : Option Block) → block_on a.shelf k ≡ o
    → MatchOption o (IsSameShelf a.shelf t) (λ block. (changed : Block) × HasAt a.shelf t k (Some changed) × IsSet index v block changed)
    → from_entries {R = nat_cmp} (map (entry_of names) (blocks_on t)) ≡ written (memory_of names a) (record { block = k; index = index }) (value_of names v)
set_memory names a t k index v None is h =
    same_memory names a.shelf t h
    ∙ sym (ap (written_in (memory_of names a) (record { block = k; index = index }) (value_of names v)) (memory_get names a k ∙ ap (option_map (block_of names)) is))
set_memory names a t k index v (Some block) is h =
    put_memory names a.shelf t k h.0 h.1
    ∙ ap (finite.insert (memory_of names a) k) (h.2 names)
    ∙ sym (ap (written_in (memory_of names a) (record { block = k; index = index }) (value_of names v)) (memory_get names a k ∙ ap (option_map (block_of names)) is))

-- a cell is written where a block is changed so
pub written_memory : (names : List Identity) (a : Blocks) (t : Shelf) (k index : ℕ) (v : Value) → IsChangedAt a.shelf t k (IsSet index v)
    → from_entries {R = nat_cmp} (map (entry_of names) (blocks_on t)) ≡ written (memory_of names a) (record { block = k; index = index }) (value_of names v)
written_memory names a t k index v h = set_memory names a t k index v (block_on a.shelf k) refl h

-- the least number that has no block is the least free one of the memory
pub first_free : (names : List Identity) (b : Blocks) (n : ℕ) → IsFirstFree (block_on b.shelf) n → IsLeastFree (memory_of names b) n
first_free names b n first = record {
  from_one = first.from_one;
  free = memory_key names b n ∙ ap is_some first.free;
  least = λ k low high. memory_key names b k ∙ first.taken k low high;
}

-- nothing is taken away where there is nothing
pub none_taken : (s : Shelf) (k : ℕ) → is_some (block_on s k) ≡ false → HasAt s s k None
none_taken s k none q =
    ⊎_elim
    (λ same. subst (λ j. block_on s j ≡ cond (is_eq (nat_cmp k j)) None (block_on s j)) (same_key k q same)
    (none_of (block_on s k) none ∙ sym (cond-true _ None (block_on s k) (tied k k refl))))
    (λ other. sym (cond-false _ None (block_on s q) other))
    (cases_Bool (is_eq (nat_cmp k q)))

-- where one is taken away, all below the lesser of two numbers are taken
pub taken_less : (s t : Shelf) (k least now : ℕ) → HasAt s t k None → now ≤ least → (1 ≤ k → now ≤ k) → AreTaken (block_on s) least → AreTaken (block_on t) now
taken_less s t k least now h less below taken q low high =
    taken_still s t k h q (λ e. let far : now ≤ k = below (subst (λ n. 1 ≤ n) e low) in omega (arith, e, far, high)) (taken q low (omega (arith, less, high)))

-- there is no block where there is no place
pub none_on : (s : Shelf) → s.low.items ≡ [] → s.beyond.entries ≡ [] → count_on s ≤ 0
none_on s low beyond =
    let most = count_most s in
    let a : length s.low.items ≤ 0 = subst (λ xs. length xs ≤ 0) (sym low) (omega arith) in
    let b : length s.beyond.entries ≤ 0 = subst (λ xs. length xs ≤ 0) (sym beyond) (omega arith) in
    omega (arith, most, a, b)

-- what holds in any case holds after a failure
pub on_err : {X E P : Type 0} (r : Result X E) → P → OnErr r P
on_err (Ok x) p = tt
on_err (Err e) p = p
