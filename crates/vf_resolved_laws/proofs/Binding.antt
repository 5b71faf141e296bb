-- Patterns, values and shares are resolved as such of the sorts that sorting gave them.
use Rattle.std.proofs.Common.{◌≡◌, ℕ, zero, suc, ◌+◌, Bool, true, false, List, [], ◌∷◌, ◌++◌, length, Option, Some, refl, sym, subst, ap}
use Rattle.std.specs.Prelude.{slice_get}
use Rattle.vf_base.specs.declared.place.Place.{Place}
use Rattle.vf_meaning.specs.Ghost.{Name, Numbered}
use Rattle.vf_sorts.specs.Sorts.{Sort}
use Rattle.vf_sorts.specs.Unknowns.{AgreesAsTold, Known, settling}
use Rattle.vf_syntax.specs.declared.pattern.Amount.{Amount}
use Rattle.vf_syntax.specs.declared.pattern.Factor.{Factor}
use Rattle.vf_syntax.specs.declared.pattern.FactorLink.{FactorLink}
use Rattle.vf_syntax.specs.declared.pattern.Pattern.{Pattern}
use Rattle.vf_syntax.specs.declared.pattern.Share.{Share}
use Rattle.vf_syntax.specs.GhostExprTree as tree
use Rattle.vf_sorting.specs.HasSort.{Passes}
use Rattle.vf_sorting.specs.Kinds.{is_pointer}
use Rattle.vf_binding.specs.declared.bound.Bound.{Bound}
use Rattle.vf_binding.specs.Bound.{with_bound}
use Rattle.vf_binding.specs.Patterns.{AllBind, Binds, HeadPasses, HeadsPass, anything, none_bind, none_pass, one_binds, one_passes}
use Rattle.vf_binding.specs.Patterns as bindings
use Rattle.vf_binding.specs.Shares.{AmountPasses, FactorPasses, LinksPass, SharePasses, fraction_sort}
use Rattle.vf_binding.specs.Shares as sharing
use Rattle.vf_terms.specs.Settings.{Setting, settled}
use Rattle.vf_terms.specs.Readings.{read}
use Rattle.vf_resolved_parts.specs.Names.{kind_for}
use Rattle.vf_resolved_parts.specs.Patterns.{arguments_read, pattern_read, patterns_read}
use Rattle.vf_resolved_parts.specs.Shares.{amount_read, factor_read, links_read, share_read, written_share}
use Rattle.vf_resolved_parts.specs.declared.progress.Progress.{Progress}
use Rattle.vf_resolved_laws.specs.Given.{GivesSorts}
use Rattle.vf_resolved_laws.specs.Laws.{PatternFollows, PatternsFollow, PatternsKeepSorts, ShareFollows, ValuesFollow, progress_at}
use Rattle.vf_resolved_laws.specs.Patterns.{ArgumentHasSort, FactorHasSort, FactorsHaveSort, NamesHaveSorts}
use Rattle.vf_resolved_laws.proofs.Before.{before_pass}
use Rattle.vf_resolved_laws.proofs.Naming.{D}
use Rattle.vf_resolved_laws.proofs.Reading.{passes_read}

-- ---- lists
-- what stands in a list stands there with more behind it
pub stands_more : {A : Type 0} (xs ys : List A) (i : ℕ) (x : A) → slice_get xs i ≡ Some x → slice_get (xs ++ ys) i ≡ Some x
stands_more [] ys i x e = absurd cc
stands_more (y ∷ xs) ys zero x e = e
stands_more (y ∷ xs) ys (suc i) x e = stands_more xs ys i x e

-- what stands behind a list
stands_last : {A : Type 0} (xs : List A) (x : A) → slice_get (xs ++ x ∷ []) (length xs) ≡ Some x
stands_last [] x = refl
stands_last (y ∷ xs) x = stands_last xs x

module _ (s : Setting) (names : Name → Sort) (m : ℕ) (gives : GivesSorts (D s names) s) where
  -- the names that were bound first have their sorts where all have
  fewer : (b : Bound) (x : List ℕ) (t : Sort) → NamesHaveSorts (D s names) s m (with_bound b x t) → NamesHaveSorts (D s names) s m b
  fewer b x t h = record { each = λ i u e. h.each i u (stands_more b.sorts (t ∷ []) i u e) }

  -- the name that is bound last
  last_bound : (b : Bound) (x : List ℕ) (t : Sort) → NamesHaveSorts (D s names) s m (with_bound b x t) → names (Numbered (m + length b.sorts)) ≡ settled s t
  last_bound b x t h = h.each (length b.sorts) t (stands_last b.sorts t)

  -- an expression that passes for a sort, as a value
  value_has : {k k' : Known} {t : Sort} {q : Place} {e : tree.GhostExprTree} → Passes s.scope s.context k t q e k' → AgreesAsTold (settling s.known) k' → (u : ℕ) → u ≡ length k
      → ((read s (is_pointer (settled s t)) u e).next ≡ length k') × ArgumentHasSort (D s names) (record { kind = kind_for (settled s t); term = (read s (is_pointer (settled s t)) u e).term }) (settled s t)
  value_has {t = t} p a u at = let r = passes_read s names gives (is_pointer (settled s t)) p a refl u at in (r.0, record { kind = refl; has_sort = r.1 })

  -- ---- patterns
  pub pattern_has : {k k' : Known} {b b' : Bound} {t : Sort} {x : Pattern} → Binds s.scope s.context k b t x k' b' → AgreesAsTold (settling s.known) k' → PatternFollows (D s names) s m (pattern_read s m t (progress_at b k) x) t k' b'
  pattern_has {k} {b = b} (bindings.Binds.value p) a = let r = value_has p a (length k) refl in record { progress = ap (λ n. record { bound = b; next = n }) r.0; has_sort = λ h. r.1 }
  pattern_has {b = b} {t = t} (bindings.Binds.named {n = n} is) a = record { progress = refl; has_sort = λ h. record { sort = last_bound b n.text t h; kind = refl } }
  pattern_has anything a = record { progress = refl; has_sort = λ h. refl }

  pub before_binds : {k k' : Known} {b b' : Bound} {t : Sort} {x : Pattern} → Binds s.scope s.context k b t x k' b' → AgreesAsTold (settling s.known) k' → AgreesAsTold (settling s.known) k
  before_binds (bindings.Binds.value p) a = before_pass s.scope s.context (settling s.known) p a
  before_binds (bindings.Binds.named is) a = a
  before_binds anything a = a

  pub before_all : {k k' : Known} {b b' : Bound} {ts : List Sort} {xs : List Pattern} → AllBind s.scope s.context k b ts xs k' b' → AgreesAsTold (settling s.known) k' → AgreesAsTold (settling s.known) k
  before_all none_bind a = a
  before_all (one_binds x xs) a = before_binds x (before_all xs a)

  pub fewer_binds : {k k' : Known} {b b' : Bound} {t : Sort} {x : Pattern} → Binds s.scope s.context k b t x k' b' → NamesHaveSorts (D s names) s m b' → NamesHaveSorts (D s names) s m b
  fewer_binds (bindings.Binds.value p) h = h
  fewer_binds {b = b} {t = t} (bindings.Binds.named {n = n} is) h = fewer b n.text t h
  fewer_binds anything h = h

  pub fewer_all : {k k' : Known} {b b' : Bound} {ts : List Sort} {xs : List Pattern} → AllBind s.scope s.context k b ts xs k' b' → NamesHaveSorts (D s names) s m b' → NamesHaveSorts (D s names) s m b
  fewer_all none_bind h = h
  fewer_all (one_binds x xs) h = fewer_binds x (fewer_all xs h)

  pub patterns_have : {k k' : Known} {b b' : Bound} {ts : List Sort} {xs : List Pattern} → AllBind s.scope s.context k b ts xs k' b' → AgreesAsTold (settling s.known) k' → (g : Progress) → g ≡ progress_at b k
      → PatternsFollow (D s names) s m (patterns_read s m ts g xs) ts k' b'
  patterns_have none_bind a g at = record { progress = at; have_sorts = λ h. tt }
  patterns_have {k} {k'} {b = b} {b' = b'} (one_binds {t} {ts} {x} {xs} first rest) a g at =
      let y = pattern_has first (before_all rest a) in
      let z = patterns_have rest a (pattern_read s m t (progress_at b k) x).progress y.progress in
      subst (λ (q : Progress). PatternsFollow (D s names) s m (patterns_read s m (t ∷ ts) q (x ∷ xs)) (t ∷ ts) k' b') (sym at) (record { progress = z.progress; have_sorts = λ h. (y.has_sort (fewer_all rest h), z.have_sorts h) })

  -- ---- values that bind nothing
  pub before_heads : {k k' : Known} {ts : List Sort} {xs : List Pattern} → HeadsPass s.scope s.context k ts xs k' → AgreesAsTold (settling s.known) k' → AgreesAsTold (settling s.known) k
  before_heads none_pass a = a
  before_heads (one_passes (bindings.HeadPasses.value p) xs) a = before_pass s.scope s.context (settling s.known) p (before_heads xs a)

  pub values_have : {k k' : Known} {ts : List Sort} {xs : List Pattern} → HeadsPass s.scope s.context k ts xs k' → AgreesAsTold (settling s.known) k' → (u : ℕ) → u ≡ length k → ValuesFollow (D s names) s (arguments_read s ts u xs) ts k'
  values_have none_pass a u at = record { next = at; have_sorts = tt }
  values_have (one_passes {t} (bindings.HeadPasses.value {e} p) xs) a u at =
      let y = value_has p (before_heads xs a) u at in
      let z = values_have xs a (read s (is_pointer (settled s t)) u e).next y.0 in
      record { next = z.next; have_sorts = (y.1, z.have_sorts) }

  -- ---- shares
  factor_has : {k k' : Known} {d : Bool} {f : Factor} → FactorPasses s.scope s.context k d f k' → AgreesAsTold (settling s.known) k' → (u : ℕ) → u ≡ length k → ((factor_read s u d f).next ≡ length k') × FactorHasSort (D s names) (factor_read s u d f).factor
  factor_has {d = true} (sharing.FactorPasses.number is) a u at = (at, tt)
  factor_has {d = false} (sharing.FactorPasses.number is) a u at = (at, tt)
  factor_has (sharing.FactorPasses.named p) a u at = passes_read s names gives false p a refl u at

  before_factor : {k k' : Known} {d : Bool} {f : Factor} → FactorPasses s.scope s.context k d f k' → AgreesAsTold (settling s.known) k' → AgreesAsTold (settling s.known) k
  before_factor (sharing.FactorPasses.number is) a = a
  before_factor (sharing.FactorPasses.named p) a = before_pass s.scope s.context (settling s.known) p a

  before_links : {k k' : Known} {ls : List FactorLink} → LinksPass s.scope s.context k ls k' → AgreesAsTold (settling s.known) k' → AgreesAsTold (settling s.known) k
  before_links sharing.LinksPass.none_pass a = a
  before_links (sharing.LinksPass.one_passes l ls) a = before_factor l (before_links ls a)

  links_have : {k k' : Known} {ls : List FactorLink} → LinksPass s.scope s.context k ls k' → AgreesAsTold (settling s.known) k' → (u : ℕ) → u ≡ length k → ((links_read s u ls).next ≡ length k') × FactorsHaveSort (D s names) (links_read s u ls).factors
  links_have sharing.LinksPass.none_pass a u at = (at, tt)
  links_have (sharing.LinksPass.one_passes {l} {ls} first rest) a u at =
      let y = factor_has first (before_links rest a) u at in
      let z = links_have rest a (factor_read s u l.divides l.factor).next y.0 in
      (z.0, (y.1, z.1))

  amount_has : {k k' : Known} {b b' : Bound} {x : Amount} → AmountPasses s.scope s.context k b x k' b' → AgreesAsTold (settling s.known) k' → ShareFollows (D s names) s m (written_share (amount_read s m (progress_at b k) x)) k' b'
  amount_has {b = b} (sharing.AmountPasses.bound {n = n} is) a = record { progress = refl; has_sort = λ h. record { sort = last_bound b n.text fraction_sort h; kind = refl } }
  amount_has {k} {b = b} (sharing.AmountPasses.product {f} {ls} first rest) a =
      let y = factor_has first (before_links rest a) (length k) refl in
      let z = links_have rest a (factor_read s (length k) false f).next y.0 in
      record { progress = ap (λ n. record { bound = b; next = n }) z.0; has_sort = λ h. (y.1, z.1) }

  pub share_has : {k k' : Known} {b b' : Bound} {h : Option Share} → SharePasses s.scope s.context k b h k' b' → AgreesAsTold (settling s.known) k' → ShareFollows (D s names) s m (share_read s m (progress_at b k) h) k' b'
  share_has sharing.SharePasses.whole a = record { progress = refl; has_sort = λ h. tt }
  share_has (sharing.SharePasses.part amount) a = amount_has amount a

-- patterns keep sorts
pub patterns_keep_sorts : PatternsKeepSorts
patterns_keep_sorts s names m gives = record {
  binds = λ known then_known b then_bound t x p a. pattern_has s names m gives p a;
  all_bind = λ known then_known b then_bound ts xs p a. patterns_have s names m gives p a (progress_at b known) refl;
  heads_pass = λ known then_known ts xs p a. values_have s names m gives p a (length known) refl;
  shares = λ known then_known b then_bound x p a. share_has s names m gives p a;
}
