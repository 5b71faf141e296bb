-- The rules of patterns, shares, chunks and cells come to what the functions come to.
use Rattle.std.proofs.Common.{◌≡◌, refl, ◌∙◌, ap, ℕ, suc, Bool, true, false, ◌&&◌, IsTrue, List, length, Option, Some, None, Ok, Err}
use Rattle.vf_base.specs.declared.place.Place.{Place}
use Rattle.vf_base.specs.declared.refusal.Refusal.{Refusal}
use Rattle.vf_sorts.specs.Sorts.{Sort, row}
use Rattle.vf_sorts.specs.Unknowns.{Known, all_numbered_below}
use Rattle.vf_sorts.proofs.Filled.{all_below_told}
use Rattle.vf_declared.specs.declared.scope.Scope.{Scope}
use Rattle.vf_syntax.specs.declared.pattern.Amount.{Amount}
use Rattle.vf_syntax.specs.declared.pattern.Factor.{Factor}
use Rattle.vf_syntax.specs.declared.pattern.FactorLink.{FactorLink}
use Rattle.vf_syntax.specs.declared.pattern.Pattern.{Pattern}
use Rattle.vf_syntax.specs.declared.pattern.Share.{Share}
use Rattle.vf_syntax.specs.declared.written.Name.{Name}
use Rattle.vf_syntax.specs.GhostExprTree.{GhostExprTree}
use Rattle.vf_sorting.specs.declared.context.Context.{Context}
use Rattle.vf_binding.specs.declared.bound.Bound.{Bound}
use Rattle.vf_binding.specs.declared.chunk_sorts.ChunkSorts.{ChunkSorts}
use Rattle.vf_binding.specs.Chunks.{AreHeadsBelow, IsTakenBelow}
use Rattle.vf_binding.specs.Chunks as chunks
use Rattle.vf_binding.specs.Patterns as rules_of
use Rattle.vf_binding.specs.Shares as shares
use Rattle.vf_order_laws.specs.walk.Following.{choose, pair}
use Rattle.vf_order_laws.proofs.walk.Results.{goes, other_count, refused_so, same_count, stops, unrefused, where_not, where_so}
use Rattle.vf_order_laws.specs.walk.Parts.{amount_of, are_heads_below, arguments_of, by_field, by_struct, by_takes, cell_of, chunk_of, factor_of, factors_of, head_of, heads_at, heads_of, is_taken_below, listed_at, pattern_of, patterns_of, share_of, taken_of, truth_of}
use Rattle.vf_order_laws.proofs.walk.SortsCome.{is_failed, is_passed, is_refused, sorted}

-- ---- patterns
pub binds : {s : Scope} {c : Context} {k k' : Known} {b b' : Bound} {w : Sort} {x : Pattern} → rules_of.Binds s c k b w x k' b' → pattern_of s c k b w x ≡ Ok (pair k' b')
binds (rules_of.value h) = goes _ (is_passed h) refl
binds (rules_of.named h) = unrefused h
binds rules_of.anything = refl

pub binds_not : {s : Scope} {c : Context} {k : Known} {b : Bound} {w : Sort} {x : Pattern} {r : Refusal} → rules_of.FailsToBind s c k b w x r → pattern_of s c k b w x ≡ Err r
binds_not (rules_of.value h) = stops _ (is_failed h)
binds_not (rules_of.named h) = refused_so _ h

all_bind : {s : Scope} {c : Context} {k k' : Known} {b b' : Bound} {ts : List Sort} {xs : List Pattern} → rules_of.AllBind s c k b ts xs k' b' → patterns_of s c k b ts xs ≡ Ok (pair k' b')
all_bind rules_of.none_bind = refl
all_bind (rules_of.one_binds x xs) = goes _ (binds x) (all_bind xs)

as_many : {s : Scope} {c : Context} {k k' : Known} {b b' : Bound} {ts : List Sort} {xs : List Pattern} → rules_of.AllBind s c k b ts xs k' b' → length ts ≡ length xs
as_many rules_of.none_bind = refl
as_many (rules_of.one_binds x xs) = ap suc (as_many xs)

any_not : {s : Scope} {c : Context} {k : Known} {b : Bound} {ts : List Sort} {xs : List Pattern} {r : Refusal} → rules_of.AnyFailsToBind s c k b ts xs r → patterns_of s c k b ts xs ≡ Err r
any_not (rules_of.this_pattern x) = stops _ (binds_not x)
any_not (rules_of.later_pattern x xs) = goes _ (binds x) (any_not xs)

pub list_binds : {s : Scope} {c : Context} {k k' : Known} {b b' : Bound} {ts : List Sort} (g : Place) {xs : List Pattern} → rules_of.AllBind s c k b ts xs k' b' → listed_at s c k b ts g xs ≡ Ok (pair k' b')
list_binds g h = where_so _ (same_count _ _ (as_many h)) (all_bind h)

pub list_fails : {s : Scope} {c : Context} {k : Known} {b : Bound} {ts : List Sort} {g : Place} {xs : List Pattern} {r : Refusal} → rules_of.ListFails s c k b ts g xs r → listed_at s c k b ts g xs ≡ Err r
list_fails (rules_of.other_count n) = where_not _ (other_count _ _ n) refl
list_fails (rules_of.one_of_them n h) = where_so _ (same_count _ _ n) (any_not h)

head_passes : {s : Scope} {c : Context} {k k' : Known} {t : Sort} {x : Pattern} → rules_of.HeadPasses s c k t x k' → head_of s c k t x ≡ Ok k'
head_passes (rules_of.value h) = is_passed h

head_fails : {s : Scope} {c : Context} {k : Known} {t : Sort} {x : Pattern} {r : Refusal} → rules_of.HeadFails s c k t x r → head_of s c k t x ≡ Err r
head_fails (rules_of.value h) = is_failed h
head_fails rules_of.named = refl
head_fails rules_of.anything = refl

heads_pass : {s : Scope} {c : Context} {k k' : Known} {ts : List Sort} {xs : List Pattern} → rules_of.HeadsPass s c k ts xs k' → heads_of s c k ts xs ≡ Ok k'
heads_pass rules_of.none_pass = refl
heads_pass (rules_of.one_passes x xs) = goes _ (head_passes x) (heads_pass xs)

many_heads : {s : Scope} {c : Context} {k k' : Known} {ts : List Sort} {xs : List Pattern} → rules_of.HeadsPass s c k ts xs k' → length ts ≡ length xs
many_heads rules_of.none_pass = refl
many_heads (rules_of.one_passes x xs) = ap suc (many_heads xs)

any_head_fails : {s : Scope} {c : Context} {k : Known} {ts : List Sort} {xs : List Pattern} {r : Refusal} → rules_of.AnyHeadFails s c k ts xs r → heads_of s c k ts xs ≡ Err r
any_head_fails (rules_of.this_head x) = stops _ (head_fails x)
any_head_fails (rules_of.later_head x xs) = goes _ (head_passes x) (any_head_fails xs)

pub all_heads_pass : {s : Scope} {c : Context} {k k' : Known} {ts : List Sort} (g : Place) {xs : List Pattern} → rules_of.HeadsPass s c k ts xs k' → heads_at s c k ts g xs ≡ Ok k'
all_heads_pass g h = where_so _ (same_count _ _ (many_heads h)) (heads_pass h)

pub heads_fail : {s : Scope} {c : Context} {k : Known} {ts : List Sort} {g : Place} {xs : List Pattern} {r : Refusal} → rules_of.HeadsFail s c k ts g xs r → heads_at s c k ts g xs ≡ Err r
heads_fail (rules_of.other_count n) = where_not _ (other_count _ _ n) refl
heads_fail (rules_of.one_of_them n h) = where_so _ (same_count _ _ n) (any_head_fails h)

-- ---- shares
factor_passes : {s : Scope} {c : Context} {k k' : Known} {d : Bool} {f : Factor} → shares.FactorPasses s c k d f k' → factor_of s c k d f ≡ Ok k'
unfolding choose
factor_passes (shares.number h) = where_so _ h refl
factor_passes (shares.named h) = goes _ (is_passed h) refl

factor_fails : {s : Scope} {c : Context} {k : Known} {d : Bool} {f : Factor} {r : Refusal} → shares.FactorFails s c k d f r → factor_of s c k d f ≡ Err r
unfolding choose
factor_fails (shares.number h) = where_not _ h refl
factor_fails (shares.named h) = stops _ (is_failed h)
factor_fails (shares.divisor h) = goes _ (is_passed h) refl

factors_pass : {s : Scope} {c : Context} {k k' : Known} {ls : List FactorLink} → shares.LinksPass s c k ls k' → factors_of s c k ls ≡ Ok k'
factors_pass shares.none_pass = refl
factors_pass (shares.one_passes l ls) = goes _ (factor_passes l) (factors_pass ls)

factors_fail : {s : Scope} {c : Context} {k : Known} {ls : List FactorLink} {r : Refusal} → shares.AnyLinkFails s c k ls r → factors_of s c k ls ≡ Err r
factors_fail (shares.this_link l) = stops _ (factor_fails l)
factors_fail (shares.later_link l ls) = goes _ (factor_passes l) (factors_fail ls)

amount_passes : {s : Scope} {c : Context} {k k' : Known} {b b' : Bound} {m : Amount} → shares.AmountPasses s c k b m k' b' → amount_of s c k b m ≡ Ok (pair k' b')
amount_passes (shares.bound h) = unrefused h
amount_passes (shares.product f ls) = goes _ (factor_passes f) (goes _ (factors_pass ls) refl)

amount_fails : {s : Scope} {c : Context} {k : Known} {b : Bound} {m : Amount} {r : Refusal} → shares.AmountFails s c k b m r → amount_of s c k b m ≡ Err r
amount_fails (shares.bound h) = refused_so _ h
amount_fails (shares.first f) = stops _ (factor_fails f)
amount_fails (shares.links f ls) = goes _ (factor_passes f) (stops _ (factors_fail ls))

pub share_passes : {s : Scope} {c : Context} {k k' : Known} {b b' : Bound} {h : Option Share} → shares.SharePasses s c k b h k' b' → share_of s c k b h ≡ Ok (pair k' b')
share_passes shares.whole = refl
share_passes (shares.part h) = amount_passes h

pub share_fails : {s : Scope} {c : Context} {k : Known} {b : Bound} {h : Option Share} {r : Refusal} → shares.ShareFails s c k b h r → share_of s c k b h ≡ Err r
share_fails (shares.part h) = amount_fails h

-- ---- chunks
arguments_bind : {s : Scope} {c : Context} {k k' : Known} {b b' : Bound} {t : ChunkSorts} (g : Place) {xs : List Pattern} {ys : Option (List Pattern)} → chunks.ArgumentsBind s c k b t xs ys k' b' → arguments_of s c k b t g xs ys ≡ Ok (pair k' b')
arguments_bind g (chunks.one_pair h) = list_binds _ h
arguments_bind g (chunks.two_pairs h i) = goes _ (all_heads_pass _ h) (list_binds _ i)

arguments_fail : {s : Scope} {c : Context} {k : Known} {b : Bound} {t : ChunkSorts} {g : Place} {xs : List Pattern} {ys : Option (List Pattern)} {r : Refusal} → chunks.ArgumentsFail s c k b t g xs ys r → arguments_of s c k b t g xs ys ≡ Err r
arguments_fail chunks.needless_pair = refl
arguments_fail chunks.missing_pair = refl
arguments_fail (chunks.one_pair h) = list_fails h
arguments_fail (chunks.first_pair h) = stops _ (heads_fail h)
arguments_fail (chunks.second_pair h i) = goes _ (all_heads_pass _ h) (list_fails i)

both : {P Q : Type 0} (a b : Bool) → (IsTrue a → P) × (P → IsTrue a) → (IsTrue b → Q) × (Q → IsTrue b) → (IsTrue (a && b) → P × Q) × (P × Q → IsTrue (a && b))
both true b p q = (λ e. (p.0 refl, q.0 e), λ h. q.1 h.1)
both false b p q = (λ e. absurd cc, λ h. p.1 h.0)

heads_told : (n : ℕ) (o : Option (List Sort)) → (IsTrue (are_heads_below n o) → AreHeadsBelow n o) × (AreHeadsBelow n o → IsTrue (are_heads_below n o))
heads_told n None = (λ e. tt, λ h. refl)
heads_told n (Some ts) = all_below_told n (row ts)

pub taken_told : (n : ℕ) (t : ChunkSorts) → (IsTrue (is_taken_below n t) → IsTakenBelow n t) × (IsTakenBelow n t → IsTrue (is_taken_below n t))
taken_told n t = both (are_heads_below n t.heads) (all_numbered_below n (row t.arguments)) (heads_told n t.heads) (all_below_told n (row t.arguments))

pub taken_so : (n : ℕ) (t : ChunkSorts) → IsTakenBelow n t → is_taken_below n t ≡ true
taken_so n t h = (taken_told n t).1 h

pub taken_not : (n : ℕ) (t : ChunkSorts) → (IsTakenBelow n t → ⊥) → is_taken_below n t ≡ false
taken_not n t h = by (is_taken_below n t) (taken_told n t).0
  where
    by : (b : Bool) → (IsTrue b → IsTakenBelow n t) → b ≡ false
    by true f = absurd (h (f refl))
    by false f = refl

pub taken_binds : {s : Scope} {c : Context} {k k' : Known} {b b' : Bound} {t : ChunkSorts} (n : Name) {xs : List Pattern} {ys : Option (List Pattern)} → IsTakenBelow (length k) t → chunks.ArgumentsBind s c k b t xs ys k' b' → taken_of s c k b t n xs ys ≡ Ok (pair k' b')
taken_binds {k = k} {t = t} n l h = where_so _ (taken_so (length k) t l) (arguments_bind _ h)

pub taken_fails : {s : Scope} {c : Context} {k : Known} {b : Bound} {t : ChunkSorts} {n : Name} {xs : List Pattern} {ys : Option (List Pattern)} {r : Refusal} → chunks.TakenFails s c k b t n xs ys r → taken_of s c k b t n xs ys ≡ Err r
taken_fails (chunks.stray {k = k} {t = t} h) = where_not _ (taken_not (length k) t h) refl
taken_fails (chunks.arguments {k = k} {t = t} l h) = where_so _ (taken_so (length k) t l) (arguments_fail h)

truth_passes : {s : Scope} {c : Context} {k k' : Known} {h : Option Share} {n : Name} {xs : List Pattern} {ys : Option (List Pattern)} → chunks.TruthPasses s c k h n xs ys k' → truth_of s c k h n xs ys ≡ Ok k'
truth_passes (chunks.truth i p e) = where_so _ i (where_so _ p (is_passed e))

truth_fails : {s : Scope} {c : Context} {k : Known} {h : Option Share} {n : Name} {xs : List Pattern} {ys : Option (List Pattern)} {r : Refusal} → chunks.TruthFails s c k h n xs ys r → truth_of s c k h n xs ys ≡ Err r
truth_fails (chunks.no_name i) = where_not _ i refl
truth_fails (chunks.no_chunk i p) = where_so _ i (where_not _ p refl)
truth_fails (chunks.truth i p e) = where_so _ i (where_so _ p (is_failed e))

pub chunk_binds : {s : Scope} {c : Context} {k k' : Known} {b b' : Bound} {h : Option Share} {n : Name} {xs : List Pattern} {ys : Option (List Pattern)} → chunks.ChunkBinds s c k b h n xs ys k' b' → chunk_of s c k b h n xs ys ≡ Ok (pair k' b')
chunk_binds {s = s} {c = c} (chunks.chunk {k₁ = k₁} {b₁ = b₁} {h = h} {n = n} {xs = xs} {ys = ys} i t l a) = goes _ (share_passes i) (ap (by_takes s c k₁ b₁ h n xs ys) t ∙ taken_binds n l a)
chunk_binds {s = s} {c = c} (chunks.truth {k₁ = k₁} {b₁ = b₁} {h = h} {n = n} {xs = xs} {ys = ys} i t a) = goes _ (share_passes i) (ap (by_takes s c k₁ b₁ h n xs ys) t ∙ goes _ (truth_passes a) refl)

pub chunk_fails : {s : Scope} {c : Context} {k : Known} {b : Bound} {h : Option Share} {n : Name} {xs : List Pattern} {ys : Option (List Pattern)} {r : Refusal} → chunks.ChunkFails s c k b h n xs ys r → chunk_of s c k b h n xs ys ≡ Err r
chunk_fails (chunks.share i) = stops _ (share_fails i)
chunk_fails {s = s} {c = c} (chunks.chunk {k₁ = k₁} {b₁ = b₁} {h = h} {n = n} {xs = xs} {ys = ys} i t a) = goes _ (share_passes i) (ap (by_takes s c k₁ b₁ h n xs ys) t ∙ taken_fails a)
chunk_fails {s = s} {c = c} (chunks.truth {k₁ = k₁} {b₁ = b₁} {h = h} {n = n} {xs = xs} {ys = ys} i t a) = goes _ (share_passes i) (ap (by_takes s c k₁ b₁ h n xs ys) t ∙ stops _ (truth_fails a))

pub cell_binds : {s : Scope} {c : Context} {k k' : Known} {b b' : Bound} {h : Option Share} {e : GhostExprTree} {f : Name} {x : Pattern} → chunks.CellBinds s c k b h e f x k' b' → cell_of s c k b h e f x ≡ Ok (pair k' b')
cell_binds {s = s} {c = c} (chunks.cell {k₂ = k₂} {b₁ = b₁} {e = e} {f = f} {x = x} i p t u d) = goes _ (share_passes i) (goes _ (sorted p) (ap (by_struct s c k₂ b₁ e f x) t ∙ (ap (by_field s c k₂ b₁ f x) u ∙ binds d)))

pub cell_fails : {s : Scope} {c : Context} {k : Known} {b : Bound} {h : Option Share} {e : GhostExprTree} {f : Name} {x : Pattern} {r : Refusal} → chunks.CellFails s c k b h e f x r → cell_of s c k b h e f x ≡ Err r
cell_fails (chunks.share i) = stops _ (share_fails i)
cell_fails (chunks.pointer i p) = goes _ (share_passes i) (stops _ (is_refused p))
cell_fails {s = s} {c = c} (chunks.no_struct {k₂ = k₂} {b₁ = b₁} {e = e} {f = f} {x = x} i p t) = goes _ (share_passes i) (goes _ (sorted p) (ap (by_struct s c k₂ b₁ e f x) t))
cell_fails {s = s} {c = c} (chunks.no_field {k₂ = k₂} {b₁ = b₁} {e = e} {f = f} {x = x} i p t u) = goes _ (share_passes i) (goes _ (sorted p) (ap (by_struct s c k₂ b₁ e f x) t ∙ ap (by_field s c k₂ b₁ f x) u))
cell_fails {s = s} {c = c} (chunks.content {k₂ = k₂} {b₁ = b₁} {e = e} {f = f} {x = x} i p t u d) = goes _ (share_passes i) (goes _ (sorted p) (ap (by_struct s c k₂ b₁ e f x) t ∙ (ap (by_field s c k₂ b₁ f x) u ∙ binds_not d)))
