-- Finite maps made of entries, by what a look-up in the entries gives.
use Rattle.std.proofs.Common.{◌≡◌, ℕ, ◌+◌, ◌-◌, ◌≤◌, length, is_some, Bool, true, false, cond, List, [], ◌∷◌, map, Option, Some, None, refl, sym, ap, ◌∙◌, ⊎_elim, arith}
use Rattle.std.specs.Option.{option_map}
use Rattle.std.specs.FinMap as finite
use Rattle.std.specs.FinMap.{FinMap, from_entries}
use Rattle.std.specs.Ordering.{nat_cmp, eq_by_cmp, is_eq}
use Rattle.std.specs.Cmp.{nat_cmp_total, eq_by_cmp_equiv}
use Rattle.std.specs.Map.{lookup}
use Rattle.std.proofs.lemmas.Bool.{false≢true, cases_lt}

-- an entry with its value changed
abbrev pub entry_by : {X Y : Type 0} → (X → Y) → ℕ × X → ℕ × Y
entry_by f e = (e.0, f e.1)

-- the value of the first entry with a key
abbrev pub at : {X : Type 0} → List (ℕ × X) → ℕ → Option X
at es q = lookup (λ k. is_eq (nat_cmp q k)) es

cond_map : {X Y : Type 0} (f : X → Y) (b : Bool) (x : X) (o : Option X) → cond b (Some (f x)) (option_map f o) ≡ option_map f (cond b (Some x) o)
cond_map f true x o = refl
cond_map f false x o = refl

find_mapped : {X Y : Type 0} (f : X → Y) (q : ℕ) (es : List (ℕ × X))
    → finite.find nat_cmp q (map (entry_by f) es) ≡ option_map f (at es q)
find_mapped f q [] = refl
find_mapped f q (e ∷ es) =
    ap (cond (is_eq (nat_cmp q e.0)) (Some (f e.1))) (find_mapped f q es) ∙ cond_map f (is_eq (nat_cmp q e.0)) e.1 _

find_at : {X : Type 0} (q : ℕ) (es : List (ℕ × X)) → finite.find nat_cmp q es ≡ at es q
find_at q [] = refl
find_at q (e ∷ es) = ap (cond (is_eq (nat_cmp q e.0)) (Some e.1)) (find_at q es)

-- the map has what a look-up gives
pub get_at : {X : Type 0} (es : List (ℕ × X)) (q : ℕ) → finite.get (from_entries {R = nat_cmp} es) q ≡ at es q
get_at es q = finite.get-from_entries nat_cmp_total es q ∙ find_at q es

-- the same where the values are changed
pub get_mapped : {X Y : Type 0} (f : X → Y) (es : List (ℕ × X)) (q : ℕ) → finite.get (from_entries {R = nat_cmp} (map (entry_by f) es)) q ≡ option_map f (at es q)
get_mapped f es q = finite.get-from_entries nat_cmp_total (map (entry_by f) es) q ∙ find_mapped f q es

some_mapped : {X Y : Type 0} (f : X → Y) (o : Option X) → is_some (option_map f o) ≡ is_some o
some_mapped f None = refl
some_mapped f (Some x) = refl

-- the map has a key where a look-up gives a value
pub key_mapped : {X Y : Type 0} (f : X → Y) (es : List (ℕ × X)) (q : ℕ) → finite.contains_key (from_entries {R = nat_cmp} (map (entry_by f) es)) q ≡ is_some (at es q)
key_mapped f es q = ap is_some (get_mapped f es q) ∙ some_mapped f (at es q)

mapped_cond : {X Y : Type 0} (f : X → Y) (b : Bool) (v o : Option X) → option_map f (cond b v o) ≡ cond b (option_map f v) (option_map f o)
mapped_cond f true v o = refl
mapped_cond f false v o = refl

turned : (k q : ℕ) → eq_by_cmp nat_cmp k q ≡ eq_by_cmp nat_cmp q k
turned k q = (eq_by_cmp_equiv nat_cmp_total).symm k q

same_reads : {Y : Type 0} (m n : FinMap nat_cmp Y) → ((q : ℕ) → finite.get m q ≡ finite.get n q) → m ≡ n
same_reads m n h = finite.same_map nat_cmp_total finite.nat_cmp-IsAntisymmetric m n h

-- entries with the same look-ups make the same map
pub same_mapped : {X Y : Type 0} (f : X → Y) (es ns : List (ℕ × X)) → ((q : ℕ) → at ns q ≡ at es q)
    → from_entries {R = nat_cmp} (map (entry_by f) ns) ≡ from_entries {R = nat_cmp} (map (entry_by f) es)
same_mapped f es ns h = same_reads _ _ (λ q. get_mapped f ns q ∙ ap (option_map f) (h q) ∙ sym (get_mapped f es q))

-- the same for values that stand for the same
pub alike_mapped : {X Y : Type 0} (f : X → Y) (es ns : List (ℕ × X)) → ((q : ℕ) → option_map f (at ns q) ≡ option_map f (at es q))
    → from_entries {R = nat_cmp} (map (entry_by f) ns) ≡ from_entries {R = nat_cmp} (map (entry_by f) es)
alike_mapped f es ns h = same_reads _ _ (λ q. get_mapped f ns q ∙ h q ∙ sym (get_mapped f es q))

-- entries with a value put at a key
pub inserted : {X Y : Type 0} (f : X → Y) (es ns : List (ℕ × X)) (k : ℕ) (v : X)
    → ((q : ℕ) → at ns q ≡ cond (is_eq (nat_cmp k q)) (Some v) (at es q))
    → from_entries {R = nat_cmp} (map (entry_by f) ns) ≡ finite.insert (from_entries {R = nat_cmp} (map (entry_by f) es)) k (f v)
inserted f es ns k v h =
    let old = from_entries {R = nat_cmp} (map (entry_by f) es) in
    same_reads _ _ (λ q. get_mapped f ns q ∙ ap (option_map f) (h q) ∙ mapped_cond f (is_eq (nat_cmp k q)) (Some v) (at es q)
    ∙ ap (cond (is_eq (nat_cmp k q)) (Some (f v))) (sym (get_mapped f es q))
    ∙ ap (λ b. cond b (Some (f v)) (finite.get old q)) (turned k q)
    ∙ sym (finite.get-insert nat_cmp_total old k (f v) q))

-- entries without a key
pub removed : {X Y : Type 0} (f : X → Y) (es ns : List (ℕ × X)) (k : ℕ)
    → ((q : ℕ) → at ns q ≡ cond (is_eq (nat_cmp k q)) None (at es q))
    → from_entries {R = nat_cmp} (map (entry_by f) ns) ≡ finite.remove (from_entries {R = nat_cmp} (map (entry_by f) es)) k
removed f es ns k h =
    let old = from_entries {R = nat_cmp} (map (entry_by f) es) in
    same_reads _ _ (λ q. get_mapped f ns q ∙ ap (option_map f) (h q) ∙ mapped_cond f (is_eq (nat_cmp k q)) None (at es q)
    ∙ ap (cond (is_eq (nat_cmp k q)) None) (sym (get_mapped f es q))
    ∙ ap (λ b. cond b None (finite.get old q)) (turned k q)
    ∙ sym (finite.get-remove nat_cmp_total old k q))

same_length : (b c : Bool) (m n : ℕ) → b ≡ c → m ≡ n → cond b m (m + 1) ≡ cond c n (n + 1)
same_length b c m n e h = ap (λ x. cond x m (m + 1)) e ∙ ap (λ x. cond c x (x + 1)) h

-- as many values as entries where they are not changed
pub len_mapped : {X Y : Type 0} (f : X → Y) (es : List (ℕ × X)) → finite.len (from_entries {R = nat_cmp} (map (entry_by f) es)) ≡ finite.len (from_entries {R = nat_cmp} es)
len_mapped f [] = finite.len-empty nat_cmp _ ∙ sym (finite.len-empty nat_cmp _)
len_mapped f (e ∷ es) =
    let rest = from_entries {R = nat_cmp} (map (entry_by f) es) in
    let plain = from_entries {R = nat_cmp} es in
    finite.len-insert nat_cmp_total rest e.0 (f e.1)
    ∙ same_length (finite.contains_key rest e.0) (finite.contains_key plain e.0) (finite.len rest) (finite.len plain) (key_mapped f es e.0 ∙ sym (ap is_some (get_at es e.0))) (len_mapped f es)
    ∙ sym (finite.len-insert nat_cmp_total plain e.0 e.1)

cond_most : (b : Bool) (n : ℕ) → cond b n (n + 1) ≤ n + 1
cond_most true n = omega arith
cond_most false n = omega arith

-- a map has no more keys than there are entries
pub len_most : {X : Type 0} (es : List (ℕ × X)) → finite.len (from_entries {R = nat_cmp} es) ≤ length es
len_most {X} [] = let none = finite.len-empty nat_cmp X in omega (arith, none)
len_most (e ∷ es) =
    let plain = from_entries {R = nat_cmp} es in
    let one = finite.len-insert nat_cmp_total plain e.0 e.1 in
    let few = cond_most (finite.contains_key plain e.0) (finite.len plain) in
    let rest = len_most es in
    omega (arith, one, few, rest)

-- how many keys there are where a value is put at one
pub len_put : {X : Type 0} (es ns : List (ℕ × X)) (k : ℕ) (v : X)
    → ((q : ℕ) → at ns q ≡ cond (is_eq (nat_cmp k q)) (Some v) (at es q))
    → finite.len (from_entries {R = nat_cmp} ns) ≡ cond (is_some (at es k)) (finite.len (from_entries {R = nat_cmp} es)) (finite.len (from_entries {R = nat_cmp} es) + 1)
len_put es ns k v h =
    let old = from_entries {R = nat_cmp} es in
    ap finite.len (same_reads (from_entries ns) (finite.insert old k v) (λ q. get_at ns q ∙ h q
    ∙ ap (cond (is_eq (nat_cmp k q)) (Some v)) (sym (get_at es q))
    ∙ ap (λ b. cond b (Some v) (finite.get old q)) (turned k q)
    ∙ sym (finite.get-insert nat_cmp_total old k v q)))
    ∙ finite.len-insert nat_cmp_total old k v
    ∙ ap (λ o. cond (is_some o) (finite.len old) (finite.len old + 1)) (get_at es k)

-- how many there are where a key is taken out
pub len_taken : {X : Type 0} (es ns : List (ℕ × X)) (k : ℕ)
    → ((q : ℕ) → at ns q ≡ cond (is_eq (nat_cmp k q)) None (at es q))
    → finite.len (from_entries {R = nat_cmp} ns) ≡ cond (is_some (at es k)) (finite.len (from_entries {R = nat_cmp} es) - 1) (finite.len (from_entries {R = nat_cmp} es))
len_taken es ns k h =
    let old = from_entries {R = nat_cmp} es in
    ap finite.len (same_reads (from_entries ns) (finite.remove old k) (λ q. get_at ns q ∙ h q
    ∙ ap (cond (is_eq (nat_cmp k q)) None) (sym (get_at es q))
    ∙ ap (λ b. cond b None (finite.get old q)) (turned k q)
    ∙ sym (finite.get-remove nat_cmp_total old k q)))
    ∙ finite.len-remove nat_cmp_total old k
    ∙ ap (λ o. cond (is_some o) (finite.len old - 1) (finite.len old)) (get_at es k)

-- where there is a key, there is at least one
pub len_some : {X : Type 0} (es : List (ℕ × X)) (k : ℕ) → is_some (at es k) ≡ true → 1 ≤ finite.len (from_entries {R = nat_cmp} es)
len_some es k is =
    let m = from_entries {R = nat_cmp} es in
    ⊎_elim
    (λ none. let no = ap (λ n. is_some (finite.get n k)) (finite.empty_of_len m (omega (arith, none))) ∙ ap is_some (finite.get-empty nat_cmp k) in absurd (false≢true (sym no ∙ ap is_some (get_at es k) ∙ is)))
    (λ some. some)
    (cases_lt (finite.len m) 1)
