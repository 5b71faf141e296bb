-- What the functions of patterns, shares, chunks and cells find is what their rules give.
use Rattle.std.proofs.Common.{◌≡◌, refl, ℕ, Bool, true, false, List, [], ◌∷◌, length, nat_eq, Option, Some, None, arith}
use Rattle.vf_base.specs.declared.place.Place.{Place}
use Rattle.vf_sorts.specs.Sorts.{Sort}
use Rattle.vf_sorts.specs.Unknowns.{AreBelow, IsBelow, IsResolved, Known}
use Rattle.vf_declared.specs.declared.ctype.CType.{CType}
use Rattle.vf_declared.specs.declared.scope.Scope.{Scope}
use Rattle.vf_syntax.specs.declared.pattern.Amount.{Amount}
use Rattle.vf_syntax.specs.declared.pattern.Amount.TheVariants as amounts
use Rattle.vf_syntax.specs.declared.pattern.Factor.{Factor}
use Rattle.vf_syntax.specs.declared.pattern.Factor.TheVariants as factors
use Rattle.vf_syntax.specs.declared.pattern.FactorLink.{FactorLink}
use Rattle.vf_syntax.specs.declared.pattern.Pattern.{Pattern}
use Rattle.vf_syntax.specs.declared.pattern.Pattern.TheVariants as patterns
use Rattle.vf_syntax.specs.declared.pattern.Share.{Share}
use Rattle.vf_syntax.specs.declared.written.Name.{Name}
use Rattle.vf_syntax.specs.GhostExprTree.{GhostExprTree}
use Rattle.vf_syntax.specs.GhostExprTree as tree
use Rattle.vf_sorting.specs.declared.context.Context.{Context}
use Rattle.vf_sorting.specs.HasSort.{HasSort}
use Rattle.vf_sorting.specs.Kinds.{bool_sort, resolved}
use Rattle.vf_sorting.specs.Operators.{place_of}
use Rattle.vf_sorting.specs.Schemes.{sort_of_type}
use Rattle.vf_binding.specs.declared.bound.Bound.{Bound}
use Rattle.vf_binding.specs.declared.chunk_sorts.ChunkSorts.{ChunkSorts}
use Rattle.vf_binding.specs.Bound.{name_refusal}
use Rattle.vf_binding.specs.Chunks.{AreHeadsBelow, IsTakenBelow, application_of, chunk_takes, is_known, is_plain, pointed_field, told_struct}
use Rattle.vf_binding.specs.Chunks as chunks
use Rattle.vf_binding.specs.Patterns as rules_of
use Rattle.vf_binding.specs.Shares.{fraction_sort, is_factor}
use Rattle.vf_binding.specs.Shares as shares
use Rattle.vf_binding.proofs.Lists.{all_below_more}
use Rattle.vf_binding.proofs.Pointed.{type_below}
use Rattle.vf_order_laws.proofs.walk.Results.{untold}
use Rattle.vf_order_laws.proofs.walk.Finding.{Found, found, stopped, Grows, found_after, found_as, found_unless, found_where, grows_on, stays}
use Rattle.vf_order_laws.specs.walk.Following.{choose}
use Rattle.vf_order_laws.specs.walk.Parts.{amount_of, by_field, by_heads, by_struct, by_takes, cell_of, chunk_of, factor_of, factors_of, head_of, heads_at, heads_of, is_taken_below, listed_at, pattern_of, patterns_of, share_of, taken_of, truth_of}
use Rattle.vf_order_laws.proofs.walk.PartsCome.{taken_told}
use Rattle.vf_order_laws.proofs.walk.SortsFound.{pass_found, sort_found}

-- ---- counts
pub same_told : (m n : ℕ) → nat_eq m n ≡ true → m ≡ n
same_told m n e = grind (arith, e)

pub other_told : (m n : ℕ) → nat_eq m n ≡ false → m ≡ n → ⊥
other_told m n e h = grind (arith, e, h)

-- ---- patterns
pattern_found : (s : Scope) (c : Context) (k : Known) (b : Bound) (w : Sort) → IsResolved k → IsBelow (length k) w → (x : Pattern) → Found (λ v. rules_of.Binds s c k b w x v.0 v.1 × Grows k v.0) (rules_of.FailsToBind s c k b w x) (pattern_of s c k b w x)
pattern_found s c k b w r l (patterns.Is e) = found_after (pass_found s c k w (place_of e) r l e) (λ k' h. found (rules_of.value h.0, h.1)) (λ y h. rules_of.value h)
pattern_found s c k b w r l (patterns.Binds p n) = found_unless _ (name_refusal s b n) (λ e. (rules_of.named e, stays r)) (λ y e. rules_of.named e)
pattern_found s c k b w r l (patterns.Wild p) = found (rules_of.anything, stays r)

all_found : (s : Scope) (c : Context) (k : Known) (b : Bound) (ts : List Sort) (xs : List Pattern) → IsResolved k → AreBelow (length k) ts → length ts ≡ length xs → Found (λ v. rules_of.AllBind s c k b ts xs v.0 v.1 × Grows k v.0) (rules_of.AnyFailsToBind s c k b ts xs) (patterns_of s c k b ts xs)
all_found s c k b [] [] r l n = found (rules_of.none_bind, stays r)
all_found s c k b [] (x ∷ xs) r l n = absurd (omega (arith, n))
all_found s c k b (t ∷ ts) [] r l n = absurd (omega (arith, n))
all_found s c k b (t ∷ ts) (x ∷ xs) r l n =
    found_after (pattern_found s c k b t r l.0 x)
    (λ v h. found_as (λ w g. (rules_of.one_binds h.0 g.0, grows_on h.1 g.1)) (λ y g. rules_of.later_pattern h.0 g)
    (all_found s c v.0 v.1 ts xs h.1.resolved (all_below_more _ _ h.1.longer ts l.1) (omega (arith, n))))
    (λ y h. rules_of.this_pattern h)

pub list_found : (s : Scope) (c : Context) (k : Known) (b : Bound) (ts : List Sort) (g : Place) (xs : List Pattern) → IsResolved k → AreBelow (length k) ts → Found (λ v. rules_of.AllBind s c k b ts xs v.0 v.1 × Grows k v.0) (rules_of.ListFails s c k b ts g xs) (listed_at s c k b ts g xs)
list_found s c k b ts g xs r l =
    found_where (nat_eq (length ts) (length xs))
    (λ e. found_as (λ v h. h) (λ y h. rules_of.one_of_them (same_told _ _ e) h) (all_found s c k b ts xs r l (same_told _ _ e)))
    (λ e. stopped (rules_of.other_count (other_told _ _ e)))

-- ---- patterns that may bind nothing
head_found : (s : Scope) (c : Context) (k : Known) (t : Sort) → IsResolved k → IsBelow (length k) t → (x : Pattern) → Found (λ k'. rules_of.HeadPasses s c k t x k' × Grows k k') (rules_of.HeadFails s c k t x) (head_of s c k t x)
head_found s c k t r l (patterns.Is e) = found_as (λ k' h. (rules_of.value h.0, h.1)) (λ y h. rules_of.value h) (pass_found s c k t (place_of e) r l e)
head_found s c k t r l (patterns.Binds p n) = stopped rules_of.named
head_found s c k t r l (patterns.Wild p) = stopped rules_of.anything

each_found : (s : Scope) (c : Context) (k : Known) (ts : List Sort) (xs : List Pattern) → IsResolved k → AreBelow (length k) ts → length ts ≡ length xs → Found (λ k'. rules_of.HeadsPass s c k ts xs k' × Grows k k') (rules_of.AnyHeadFails s c k ts xs) (heads_of s c k ts xs)
each_found s c k [] [] r l n = found (rules_of.none_pass, stays r)
each_found s c k [] (x ∷ xs) r l n = absurd (omega (arith, n))
each_found s c k (t ∷ ts) [] r l n = absurd (omega (arith, n))
each_found s c k (t ∷ ts) (x ∷ xs) r l n =
    found_after (head_found s c k t r l.0 x)
    (λ k₁ h. found_as (λ k' g. (rules_of.one_passes h.0 g.0, grows_on h.1 g.1)) (λ y g. rules_of.later_head h.0 g)
    (each_found s c k₁ ts xs h.1.resolved (all_below_more _ _ h.1.longer ts l.1) (omega (arith, n))))
    (λ y h. rules_of.this_head h)

pub heads_found : (s : Scope) (c : Context) (k : Known) (ts : List Sort) (g : Place) (xs : List Pattern) → IsResolved k → AreBelow (length k) ts → Found (λ k'. rules_of.HeadsPass s c k ts xs k' × Grows k k') (rules_of.HeadsFail s c k ts g xs) (heads_at s c k ts g xs)
heads_found s c k ts g xs r l =
    found_where (nat_eq (length ts) (length xs))
    (λ e. found_as (λ k' h. h) (λ y h. rules_of.one_of_them (same_told _ _ e) h) (each_found s c k ts xs r l (same_told _ _ e)))
    (λ e. stopped (rules_of.other_count (other_told _ _ e)))

-- ---- shares
-- the name of a fraction, which is no divisor
named_found : (s : Scope) (c : Context) (k : Known) (n : Name) → IsResolved k → (d : Bool) → Found (λ k'. shares.FactorPasses s c k d (factors.Name n) k' × Grows k k') (shares.FactorFails s c k d (factors.Name n)) (factor_of s c k d (factors.Name n))
unfolding choose
named_found s c k n r true = found_after (pass_found s c k fraction_sort n.place r tt (tree.name_ n.place n.text)) (λ k' h. stopped (shares.divisor h.0)) (λ y h. shares.named h)
named_found s c k n r false = found_after (pass_found s c k fraction_sort n.place r tt (tree.name_ n.place n.text)) (λ k' h. found (shares.named h.0, h.1)) (λ y h. shares.named h)

factor_found : (s : Scope) (c : Context) (k : Known) (d : Bool) → IsResolved k → (f : Factor) → Found (λ k'. shares.FactorPasses s c k d f k' × Grows k k') (shares.FactorFails s c k d f) (factor_of s c k d f)
factor_found s c k d r (factors.Number n i p) = found_where (is_factor d n) (λ e. found (shares.number e, stays r)) (λ e. stopped (shares.number e))
factor_found s c k d r (factors.Name n) = named_found s c k n r d

links_found : (s : Scope) (c : Context) (k : Known) → IsResolved k → (ls : List FactorLink) → Found (λ k'. shares.LinksPass s c k ls k' × Grows k k') (shares.AnyLinkFails s c k ls) (factors_of s c k ls)
links_found s c k r [] = found (shares.none_pass, stays r)
links_found s c k r (l ∷ ls) =
    found_after (factor_found s c k l.divides r l.factor)
    (λ k₁ h. found_as (λ k' g. (shares.one_passes h.0 g.0, grows_on h.1 g.1)) (λ y g. shares.later_link h.0 g) (links_found s c k₁ h.1.resolved ls))
    (λ y h. shares.this_link h)

amount_found : (s : Scope) (c : Context) (k : Known) (b : Bound) → IsResolved k → (m : Amount) → Found (λ v. shares.AmountPasses s c k b m v.0 v.1 × Grows k v.0) (shares.AmountFails s c k b m) (amount_of s c k b m)
amount_found s c k b r (amounts.Binds p n) = found_unless _ (name_refusal s b n) (λ e. (shares.bound e, stays r)) (λ y e. shares.bound e)
amount_found s c k b r (amounts.Product f ls) =
    found_after (factor_found s c k false r f)
    (λ k₁ h. found_after (links_found s c k₁ h.1.resolved ls) (λ k' g. found (shares.product h.0 g.0, grows_on h.1 g.1)) (λ y g. shares.links h.0 g))
    (λ y h. shares.first h)

pub share_found : (s : Scope) (c : Context) (k : Known) (b : Bound) (h : Option Share) → IsResolved k → Found (λ v. shares.SharePasses s c k b h v.0 v.1 × Grows k v.0) (shares.ShareFails s c k b h) (share_of s c k b h)
share_found s c k b None r = found (shares.whole, stays r)
share_found s c k b (Some h) r = found_as (λ v g. (shares.part g.0, g.1)) (λ y g. shares.part g) (amount_found s c k b r h.amount)

-- ---- chunks
-- what is taken, by its two parts
abbrev taking : Option (List Sort) → List Sort → ChunkSorts
taking hs ts = record { heads = hs; arguments = ts }

arguments_found : (s : Scope) (c : Context) (k : Known) (b : Bound) (ts : List Sort) (g : Place) (xs : List Pattern) → IsResolved k → AreBelow (length k) ts → (hs : Option (List Sort)) → AreHeadsBelow (length k) hs → (ys : Option (List Pattern)) → Found (λ v. chunks.ArgumentsBind s c k b (taking hs ts) xs ys v.0 v.1 × Grows k v.0) (chunks.ArgumentsFail s c k b (taking hs ts) g xs ys) (by_heads s c k b ts g xs hs ys)
arguments_found s c k b ts g xs r l None l' None = found_as (λ v h. (chunks.one_pair h.0, h.1)) (λ y h. chunks.one_pair h) (list_found s c k b ts g xs r l)
arguments_found s c k b ts g xs r l None l' (Some ys) = stopped chunks.needless_pair
arguments_found s c k b ts g xs r l (Some hs) l' None = stopped chunks.missing_pair
arguments_found s c k b ts g xs r l (Some hs) l' (Some ys) =
    found_after (heads_found s c k hs g xs r l')
    (λ k₁ h. found_as (λ v i. (chunks.two_pairs h.0 i.0, grows_on h.1 i.1)) (λ y i. chunks.second_pair h.0 i) (list_found s c k₁ b ts g ys h.1.resolved (all_below_more _ _ h.1.longer ts l)))
    (λ y h. chunks.first_pair h)

pub taken_found : (s : Scope) (c : Context) (k : Known) (b : Bound) (t : ChunkSorts) (n : Name) (xs : List Pattern) (ys : Option (List Pattern)) → IsResolved k → Found (λ v. IsTakenBelow (length k) t × chunks.ArgumentsBind s c k b t xs ys v.0 v.1 × Grows k v.0) (chunks.TakenFails s c k b t n xs ys) (taken_of s c k b t n xs ys)
taken_found s c k b t n xs ys r =
    found_where (is_taken_below (length k) t)
    (λ e. let l : IsTakenBelow (length k) t = (taken_told (length k) t).0 e in
    found_as (λ v h. (l, h.0, h.1)) (λ y h. chunks.arguments l h) (arguments_found s c k b t.arguments n.place xs r l.1 t.heads l.0 ys))
    (λ e. stopped (chunks.stray (untold (is_taken_below (length k) t) (taken_told (length k) t) e)))

truth_found : (s : Scope) (c : Context) (k : Known) (h : Option Share) (n : Name) (xs : List Pattern) (ys : Option (List Pattern)) → IsResolved k → Found (λ k'. chunks.TruthPasses s c k h n xs ys k' × Grows k k') (chunks.TruthFails s c k h n xs ys) (truth_of s c k h n xs ys)
truth_found s c k h n xs ys r =
    found_where (is_known s n)
    (λ i. found_where (is_plain h xs ys)
    (λ p. found_as (λ k' a. (chunks.truth i p a.0, a.1)) (λ y a. chunks.truth i p a) (pass_found s c k bool_sort n.place r tt (application_of n xs)))
    (λ p. stopped (chunks.no_chunk i p)))
    (λ i. stopped (chunks.no_name i))

pub chunk_found : (s : Scope) (c : Context) (k : Known) (b : Bound) (h : Option Share) (n : Name) (xs : List Pattern) (ys : Option (List Pattern)) → IsResolved k → Found (λ v. chunks.ChunkBinds s c k b h n xs ys v.0 v.1 × Grows k v.0) (chunks.ChunkFails s c k b h n xs ys) (chunk_of s c k b h n xs ys)
chunk_found s c k b h n xs ys r = found_after (share_found s c k b h r) (λ v i. by v i (chunk_takes s v.0 n) refl) (λ y i. chunks.share i)
  where
    by : (v : Known × Bound) → shares.SharePasses s c k b h v.0 v.1 × Grows k v.0 → (o : Option ChunkSorts) → chunk_takes s v.0 n ≡ o → Found (λ w. chunks.ChunkBinds s c k b h n xs ys w.0 w.1 × Grows k w.0) (chunks.ChunkFails s c k b h n xs ys) (by_takes s c v.0 v.1 h n xs ys o)
    by v i (Some t) e = found_as (λ w a. (chunks.chunk i.0 e a.0 a.1, grows_on i.1 a.2)) (λ y a. chunks.chunk i.0 e a) (taken_found s c v.0 v.1 t n xs ys i.1.resolved)
    by v i None e = found_after (truth_found s c v.0 h n xs ys i.1.resolved) (λ k' a. found (chunks.truth i.0 e a.0, grows_on i.1 a.1)) (λ y a. chunks.truth i.0 e a)

-- ---- cells
pub cell_found : (s : Scope) (c : Context) (k : Known) (b : Bound) (h : Option Share) (e : GhostExprTree) (f : Name) (x : Pattern) → IsResolved k → Found (λ v. chunks.CellBinds s c k b h e f x v.0 v.1 × Grows k v.0) (chunks.CellFails s c k b h e f x) (cell_of s c k b h e f x)
cell_found s c k b h e f x r = found_after (share_found s c k b h r) (λ v i. found_after (sort_found s c v.0 i.1.resolved e) (λ w p. in_struct v i w p (told_struct (resolved w.1 w.0)) refl) (λ y p. chunks.pointer i.0 p)) (λ y i. chunks.share i)
  where
    in_field : (v : Known × Bound) → shares.SharePasses s c k b h v.0 v.1 × Grows k v.0 → (w : Sort × Known) → HasSort s c v.0 e w.0 w.1 → Grows v.0 w.1 → (n : ℕ) → told_struct (resolved w.1 w.0) ≡ Some n → (o : Option CType) → pointed_field s n f ≡ o → Found (λ u. chunks.CellBinds s c k b h e f x u.0 u.1 × Grows k u.0) (chunks.CellFails s c k b h e f x) (by_field s c w.1 v.1 f x o)
    in_field v i w p g n t None q = stopped (chunks.no_field i.0 p t q)
    in_field v i w p g n t (Some u) q = found_as (λ z d. (chunks.cell i.0 p t q d.0, grows_on i.1 (grows_on g d.1))) (λ y d. chunks.content i.0 p t q d) (pattern_found s c w.1 v.1 (sort_of_type u) g.resolved (type_below _ u _ refl) x)

    in_struct : (v : Known × Bound) → shares.SharePasses s c k b h v.0 v.1 × Grows k v.0 → (w : Sort × Known) → HasSort s c v.0 e w.0 w.1 × Grows v.0 w.1 × IsBelow (length w.1) w.0 → (o : Option ℕ) → told_struct (resolved w.1 w.0) ≡ o → Found (λ u. chunks.CellBinds s c k b h e f x u.0 u.1 × Grows k u.0) (chunks.CellFails s c k b h e f x) (by_struct s c w.1 v.1 e f x o)
    in_struct v i w p None t = stopped (chunks.no_struct i.0 p.0 t)
    in_struct v i w p (Some n) t = in_field v i w p.0 p.1 n t (pointed_field s n f) refl
