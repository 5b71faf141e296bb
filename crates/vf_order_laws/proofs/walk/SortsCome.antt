-- The rules of sorts come to what the function comes to.
use Rattle.std.proofs.Common.{◌≡◌, refl, ◌∙◌, ap, ℕ, Bool, true, false, ◌&&◌, ◌<◌, IsTrue, List, length, Ok, Err, arith}
use Rattle.vf_base.specs.declared.place.Place.{Place}
use Rattle.vf_base.specs.declared.refusal.Refusal.{Refusal}
use Rattle.vf_base.specs.declared.rule.Rule.TheVariants as rules
use Rattle.vf_sorts.specs.Sorts.{Sort, row}
use Rattle.vf_sorts.specs.Unknowns.{EachUnknownOf, IsBelow, Known, all_numbered_below, numbered_below}
use Rattle.vf_sorts.specs.Unifying.{AreApart, Equates, unified}
use Rattle.vf_sorts.proofs.Filled.{all_below_told, below_told}
use Rattle.vf_declared.specs.declared.scope.Scope.{Scope}
use Rattle.vf_syntax.specs.GhostExprTree.{GhostExprTree, GhostExprTrees, no_ghost_expr, more_ghost_expr, GhostLinkTree, GhostLinkTrees}
use Rattle.vf_syntax.specs.GhostExprTree as tree
use Rattle.vf_sorting.specs.declared.context.Context.{Context}
use Rattle.vf_sorting.specs.declared.scheme.Scheme.{Scheme}
use Rattle.vf_sorting.specs.HasSort as has
use Rattle.vf_sorting.specs.IsRefused as fails
use Rattle.vf_sorting.specs.Kinds.{is_pointer, resolved}
use Rattle.vf_sorting.specs.Scopes.{IsSchemeBelow}
use Rattle.vf_sorting.specs.Operators.{count, goes_inside}
use Rattle.vf_sorting.specs.Refusals.{refused}
use Rattle.vf_order_laws.proofs.walk.Results.{either_way, goes, same_count, stops, where_so, where_not, told_false}
use Rattle.vf_order_laws.specs.walk.Sorts.{Sorted, applied_at, at, is_scheme_below, link_of, links_of, made_at, met, named_at, passed, passed_all, result_at, sort_of, wanted}

-- ---- tests
both_so : {a b : Bool} → a ≡ true → b ≡ true → (a && b) ≡ true
both_so {b = b} e h = ap (λ x. x && b) e ∙ h

pub scheme_so : (n : ℕ) (g : Scheme) → IsSchemeBelow n g → is_scheme_below n g ≡ true
scheme_so n g h = both_so ((all_below_told n (row g.arguments)).1 h.0) ((below_told n g.result).1 h.1)

pub scheme_tells : (n : ℕ) (g : Scheme) → IsTrue (is_scheme_below n g) → IsSchemeBelow n g
scheme_tells n g h = by (all_numbered_below n (row g.arguments)) (numbered_below n g.result) (all_below_told n (row g.arguments)).0 (below_told n g.result).0 h
  where
    by : (a b : Bool) → (IsTrue a → EachUnknownOf (λ u. u < n) (row g.arguments)) → (IsTrue b → IsBelow n g.result) → IsTrue (a && b) → IsSchemeBelow n g
    by true b f j e = (f refl, j e)
    by false b f j e = absurd cc

pub scheme_not : (n : ℕ) (g : Scheme) → (IsSchemeBelow n g → ⊥) → is_scheme_below n g ≡ false
scheme_not n g h = by (is_scheme_below n g) (scheme_tells n g)
  where
    by : (b : Bool) → (IsTrue b → IsSchemeBelow n g) → b ≡ false
    by true f = absurd (h (f refl))
    by false f = refl

pub made_so : {k k' : Known} {t u : Sort} (p : Place) → Equates k t u k' → made_at p (unified k t u) ≡ Ok k'
unfolding made_at
made_so p e = ap (made_at p) e.made

pub counts : {s : Scope} {c : Context} {k k' : Known} {first n : ℕ} {ts : List Sort} {xs : GhostExprTrees} → has.ArePassed s c k first n ts xs k' → length ts ≡ count xs
counts has.none_passed = refl
counts (has.one_passed a b) = let r = counts b in omega (arith, r)

-- what is wanted of an expression that is not gone into
plainly : (s : Scope) (c : Context) (k : Known) (w : Sort) (q : Place) (e : GhostExprTree) → goes_inside (is_pointer (resolved k w)) e ≡ false → passed s c k w q e ≡ wanted k w q (sort_of s c k e)
plainly s c k w q (tree.parenthesized p a) h = absurd cc
plainly s c k w q (tree.number p n i) h = where_not _ h refl
plainly s c k w q (tree.conditional p a b d) h = where_not _ h refl
plainly s c k w q (tree.true_ p) h = refl
plainly s c k w q (tree.false_ p) h = refl
plainly s c k w q (tree.result p) h = refl
plainly s c k w q (tree.this_ p) h = refl
plainly s c k w q (tree.current_thread p) h = refl
plainly s c k w q (tree.name_ p x) h = refl
plainly s c k w q (tree.application p f xs) h = refl
plainly s c k w q (tree.unary p o a) h = refl
plainly s c k w q (tree.chain p l a xs) h = refl

-- ---- the sorts of expressions
mutual
  pub sorted : {s : Scope} {c : Context} {k k' : Known} {e : GhostExprTree} {t : Sort} → has.HasSort s c k e t k' → sort_of s c k e ≡ Ok (at t k')
  sorted has.number = refl
  sorted has.truth = refl
  sorted has.falsehood = refl
  sorted (has.result {k = k} {p = p} {t = t} h b) = ap (result_at p k) h ∙ where_so _ ((below_told (length k) t).1 b) refl
  sorted (has.this_ h) = where_so _ h refl
  sorted (has.thread h) = where_so _ h refl
  sorted (has.name_ {k = k} {p = p} {g = g} h b) = ap (named_at p k) h ∙ where_so _ (scheme_so (length k) g b) refl
  sorted {s = s} {c = c} (has.application {k = k} {p = p} {xs = xs} {g = g} n h b a) = where_not _ n (ap (applied_at p k (count xs) (λ k' first n ts. passed_all s c k' first n ts xs)) h ∙ where_so _ (scheme_so (length k) g b) (where_so _ (same_count _ _ (counts a)) (goes _ (all_passed a) refl)))
  sorted (has.parenthesized h) = sorted h
  sorted (has.conditional a b m) = goes _ (is_passed a) (goes _ (sorted b) (meets m))
  sorted (has.prefixed a) = goes _ (is_passed a) refl
  sorted (has.chain a l) = goes _ (sorted a) (links l)

  pub meets : {s : Scope} {c : Context} {k k' : Known} {z : Bool} {t u : Sort} {d : GhostExprTree} → has.Meets s c k z t d u k' → met k z t d (sort_of s c k d) ≡ Ok (at u k')
  meets (has.null_second h) = where_so _ h refl
  meets (has.null_first n h z) = where_not _ n (goes _ (sorted h) (where_so _ z refl))
  meets (has.any_beside n h z a) = where_not _ n (goes _ (sorted h) (where_not _ z (where_so _ a refl)))
  meets (has.alike n h z a e) = where_not _ n (goes _ (sorted h) (where_not _ z (where_not _ a (goes _ (made_so _ e) refl))))

  link : {s : Scope} {c : Context} {k k' : Known} {z : Bool} {p : Place} {t u : Sort} {x : GhostLinkTree} → has.LinkHasSort s c k z p t x u k' → link_of s c k z p t x ≡ Ok (at u k')
  link (has.compared e m) = where_so _ e (goes _ (meets m) refl)
  link (has.moved e m a) = where_not _ e (where_so _ m (goes _ (is_passed a) refl))
  link (has.joined e m q a) = where_not _ e (where_not _ m (goes _ (made_so _ q) (goes _ (is_passed a) refl)))

  links : {s : Scope} {c : Context} {k k' : Known} {z : Bool} {p : Place} {t u : Sort} {xs : GhostLinkTrees} → has.LinksHaveSort s c k z p t xs u k' → links_of s c k z p t xs ≡ Ok (at u k')
  links has.no_links = refl
  links (has.more_links x xs) = goes _ (link x) (links xs)

  pub is_passed : {s : Scope} {c : Context} {k k' : Known} {w : Sort} {q : Place} {e : GhostExprTree} → has.Passes s c k w q e k' → passed s c k w q e ≡ Ok k'
  is_passed (has.inside h) = is_passed h
  is_passed (has.null h) = where_so _ h refl
  is_passed (has.choice h a b d) = where_so _ h (goes _ (is_passed a) (goes _ (is_passed b) (is_passed d)))
  is_passed (has.any_wanted {e = e} n a h) = plainly _ _ _ _ _ e n ∙ where_so _ a (goes _ (sorted h) refl)
  is_passed (has.as_wanted {e = e} n a h q) = plainly _ _ _ _ _ e n ∙ where_not _ a (goes _ (sorted h) (made_so _ q))

  pub all_passed : {s : Scope} {c : Context} {k k' : Known} {first n : ℕ} {ts : List Sort} {xs : GhostExprTrees} → has.ArePassed s c k first n ts xs k' → passed_all s c k first n ts xs ≡ Ok k'
  all_passed has.none_passed = refl
  all_passed (has.one_passed a b) = goes _ (is_passed a) (all_passed b)

-- ---- the refusals of expressions
refused_either : (k : Known) (w : Sort) (q : Place) {v : Sorted} {r : Refusal} → v ≡ Err r → wanted k w q v ≡ Err r
refused_either k w q e = either_way _ (stops _ e) (stops _ e)

pub unmade_so : {k : Known} {t u : Sort} (p : Place) → AreApart k t u → made_at p (unified k t u) ≡ Err (refused rules.Typing p)
unfolding made_at
unmade_so p a = ap (made_at p) a.unmade

mutual
  pub is_refused : {s : Scope} {c : Context} {k : Known} {e : GhostExprTree} {r : Refusal} → fails.IsRefused s c k e r → sort_of s c k e ≡ Err r
  is_refused (fails.no_result {k = k} {p = p} h) = ap (result_at p k) h
  is_refused (fails.stray_result {k = k} {p = p} {t = t} h b) = ap (result_at p k) h ∙ where_not _ (told_false (numbered_below (length k) t) (below_told (length k) t) b) refl
  is_refused (fails.no_this h) = where_not _ h refl
  is_refused (fails.no_thread h) = where_not _ h refl
  is_refused (fails.no_value {k = k} {p = p} h) = ap (named_at p k) h
  is_refused (fails.stray_name {k = k} {p = p} {g = g} h b) = ap (named_at p k) h ∙ where_not _ (scheme_not (length k) g b) refl
  is_refused (fails.applied_local h) = where_so _ h refl
  is_refused {s = s} {c = c} (fails.no_function {k = k} {p = p} {xs = xs} n h) = where_not _ n (ap (applied_at p k (count xs) (λ k' first n ts. passed_all s c k' first n ts xs)) h)
  is_refused {s = s} {c = c} (fails.stray_application {k = k} {p = p} {xs = xs} {g = g} n h b) = where_not _ n (ap (applied_at p k (count xs) (λ k' first n ts. passed_all s c k' first n ts xs)) h ∙ where_not _ (scheme_not (length k) g b) refl)
  is_refused {s = s} {c = c} (fails.other_count {k = k} {p = p} {xs = xs} {g = g} n h b m) = where_not _ n (ap (applied_at p k (count xs) (λ k' first n ts. passed_all s c k' first n ts xs)) h ∙ where_so _ (scheme_so (length k) g b) (where_not _ m refl))
  is_refused {s = s} {c = c} (fails.argument {k = k} {p = p} {xs = xs} {g = g} n h b m a) = where_not _ n (ap (applied_at p k (count xs) (λ k' first n ts. passed_all s c k' first n ts xs)) h ∙ where_so _ (scheme_so (length k) g b) (where_so _ m (stops _ (any_fails a))))
  is_refused (fails.parenthesized h) = is_refused h
  is_refused (fails.test a) = stops _ (is_failed a)
  is_refused (fails.first_branch a b) = goes _ (is_passed a) (stops _ (is_refused b))
  is_refused (fails.second_branch a b m) = goes _ (is_passed a) (goes _ (sorted b) (meets_not m))
  is_refused (fails.prefixed a) = stops _ (is_failed a)
  is_refused (fails.start a) = stops _ (is_refused a)
  is_refused (fails.links a l) = goes _ (sorted a) (links_fail l)

  pub meets_not : {s : Scope} {c : Context} {k : Known} {z : Bool} {t : Sort} {d : GhostExprTree} {r : Refusal} → fails.FailsToMeet s c k z t d r → met k z t d (sort_of s c k d) ≡ Err r
  meets_not (fails.second n h) = where_not _ n (stops _ (is_refused h))
  meets_not (fails.apart n h z a q) = where_not _ n (goes _ (sorted h) (where_not _ z (where_not _ a (stops _ (unmade_so _ q)))))

  link_fails : {s : Scope} {c : Context} {k : Known} {z : Bool} {p : Place} {t : Sort} {x : GhostLinkTree} {r : Refusal} → fails.LinkFails s c k z p t x r → link_of s c k z p t x ≡ Err r
  link_fails (fails.compared e m) = where_so _ e (stops _ (meets_not m))
  link_fails (fails.moved e m a) = where_not _ e (where_so _ m (stops _ (is_failed a)))
  link_fails (fails.left e m q) = where_not _ e (where_not _ m (stops _ (unmade_so _ q)))
  link_fails (fails.right e m q a) = where_not _ e (where_not _ m (goes _ (made_so _ q) (stops _ (is_failed a))))

  links_fail : {s : Scope} {c : Context} {k : Known} {z : Bool} {p : Place} {t : Sort} {xs : GhostLinkTrees} {r : Refusal} → fails.LinksFail s c k z p t xs r → links_of s c k z p t xs ≡ Err r
  links_fail (fails.this_link x) = stops _ (link_fails x)
  links_fail (fails.later_link x xs) = goes _ (link x) (links_fail xs)

  pub is_failed : {s : Scope} {c : Context} {k : Known} {w : Sort} {q : Place} {e : GhostExprTree} {r : Refusal} → fails.Fails s c k w q e r → passed s c k w q e ≡ Err r
  is_failed (fails.inside h) = is_failed h
  is_failed (fails.choice_test h a) = where_so _ h (stops _ (is_failed a))
  is_failed (fails.choice_first h a b) = where_so _ h (goes _ (is_passed a) (stops _ (is_failed b)))
  is_failed (fails.choice_second h a b d) = where_so _ h (goes _ (is_passed a) (goes _ (is_passed b) (is_failed d)))
  is_failed {k = k} {w = w} {q = q} {e = e} (fails.no_sort n h) = plainly _ _ _ _ _ e n ∙ refused_either k w q (is_refused h)
  is_failed (fails.other_sort {e = e} n a h q) = plainly _ _ _ _ _ e n ∙ where_not _ a (goes _ (sorted h) (unmade_so _ q))

  pub any_fails : {s : Scope} {c : Context} {k : Known} {first n : ℕ} {ts : List Sort} {xs : GhostExprTrees} {r : Refusal} → fails.AnyFails s c k first n ts xs r → passed_all s c k first n ts xs ≡ Err r
  any_fails (fails.this_argument a) = stops _ (is_failed a)
  any_fails (fails.later_argument a b) = goes _ (is_passed a) (any_fails b)
