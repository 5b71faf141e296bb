-- What the function finds of expressions is what the rules of sorts give.
use Rattle.std.proofs.Common.{◌≡◌, refl, sym, subst, ℕ, zero, suc, ◌+◌, ◌≤◌, Bool, true, false, ◌&&◌, ◌||◌, nat_eq, List, [], ◌∷◌, ◌++◌, length, Option, Some, None, Result, Ok, Err, append_assoc, replicate, arith}
use Rattle.std.specs.Prelude.{MatchOption}
use Rattle.std.proofs.lemmas.List.{append-nil}
use Rattle.vf_base.specs.declared.place.Place.{Place}
use Rattle.vf_base.specs.declared.refusal.Refusal.{Refusal}
use Rattle.vf_base.specs.declared.rule.Rule.TheVariants as rules
use Rattle.vf_sorts.specs.Sorts.{Sort}
use Rattle.vf_sorts.specs.Unknowns.{AreBelow, IsBelow, IsResolved, Known, instance, numbered_below}
use Rattle.vf_sorts.specs.Unifying.{AreApart, Equates, unified}
use Rattle.vf_sorts.proofs.Filled.{below_told}
use Rattle.vf_sorts.proofs.Learning.{resolved_more}
use Rattle.vf_declared.specs.declared.scope.Scope.{Scope}
use Rattle.vf_syntax.specs.declared.operator.BinaryOperator.{BinaryOperator}
use Rattle.vf_syntax.specs.declared.operator.Level.{Level}
use Rattle.vf_syntax.specs.declared.operator.UnaryOperator.{UnaryOperator}
use Rattle.vf_syntax.specs.GhostExprTree.{GhostExprTree, GhostExprTrees, no_ghost_expr, more_ghost_expr, GhostLinkTree, GhostLinkTrees, no_ghost_link, more_ghost_link}
use Rattle.vf_syntax.specs.GhostExprTree as tree
use Rattle.vf_sorting.specs.declared.context.Context.{Context}
use Rattle.vf_sorting.specs.declared.scheme.Scheme.{Scheme}
use Rattle.vf_sorting.specs.HasSort as has
use Rattle.vf_sorting.specs.IsRefused as fails
use Rattle.vf_sorting.specs.Kinds.{bool_sort, int_sort, is_any, is_pointer, pointer_sort, resolved, with_fresh}
use Rattle.vf_sorting.specs.Operators.{count, goes_inside, is_equality, is_null, moves, operand_sort, place_of, prefix_sort}
use Rattle.vf_sorting.specs.Refusals.{refused}
use Rattle.vf_sorting.specs.Schemes.{application_scheme, name_scheme, names_predicate}
use Rattle.vf_sorting.proofs.Below.{below_more, fresh_length, instance_below}
use Rattle.vf_sorting.proofs.Steps.{instance_within, prefix_is, result_is, operand_below}
use Rattle.vf_order_laws.specs.walk.Following.{after}
use Rattle.vf_order_laws.specs.walk.Sorts.{Sorted, applied_at, beside, is_scheme_below, link_of, links_of, made_at, met, named_at, passed, passed_all, result_at, sort_of, wanted, word_at}
use Rattle.vf_order_laws.proofs.walk.Finding.{Found, Grows, PassFound, SortFound, found, found_after, found_as, found_where, grows_on, stays, stopped}
use Rattle.vf_order_laws.proofs.walk.SortsCome.{scheme_so, scheme_tells}
use Rattle.vf_order_laws.proofs.walk.UnifiedFound.{unified_tells}

-- ---- what is found of parts
-- of an expression
abbrev SortsSo : Scope → Context → GhostExprTree → Type 0
SortsSo s c e = (k : Known) → IsResolved k → SortFound s c k e (sort_of s c k e)

-- of an expression of which a sort is wanted
abbrev PassesSo : Scope → Context → GhostExprTree → Type 0
PassesSo s c e = (k : Known) (w : Sort) (q : Place) → IsResolved k → IsBelow (length k) w → PassFound s c k w q e (passed s c k w q e)

-- of an expression behind a sort
abbrev MetFound : Scope → Context → Known → Bool → Sort → GhostExprTree → Sorted → Type 0
MetFound s c k z t d r = Found (λ v. has.Meets s c k z t d v.0 v.1 × Grows k v.1 × IsBelow (length v.1) v.0) (fails.FailsToMeet s c k z t d) r

-- of an operator and its operand
abbrev LinkSo : Scope → Context → GhostLinkTree → Type 0
LinkSo s c x = (k : Known) (z : Bool) (p : Place) (t : Sort) → IsResolved k → IsBelow (length k) t → Found (λ v. has.LinkHasSort s c k z p t x v.0 v.1 × Grows k v.1 × IsBelow (length v.1) v.0) (fails.LinkFails s c k z p t x) (link_of s c k z p t x)

-- of operators and operands from left to right
abbrev LinksSo : Scope → Context → GhostLinkTrees → Type 0
LinksSo s c xs = (k : Known) (z : Bool) (p : Place) (t : Sort) → IsResolved k → IsBelow (length k) t → Found (λ v. has.LinksHaveSort s c k z p t xs v.0 v.1 × Grows k v.1 × IsBelow (length v.1) v.0) (fails.LinksFail s c k z p t xs) (links_of s c k z p t xs)

-- of arguments
abbrev ArgumentsSo : Scope → Context → GhostExprTrees → Type 0
ArgumentsSo s c xs = (k : Known) (first n : ℕ) (ts : List Sort) → IsResolved k → length ts ≡ count xs → AreBelow first ts → first + n ≤ length k → Found (λ k'. has.ArePassed s c k first n ts xs k' × Grows k k') (fails.AnyFails s c k first n ts xs) (passed_all s c k first n ts xs)

-- ---- what is known then
still_below : {k k' : Known} (t : Sort) → Grows k k' → IsBelow (length k) t → IsBelow (length k') t
still_below {k = k} {k' = k'} t g b = below_more (length k) (length k') g.longer t b

resolved_fresh : (n : ℕ) (k : Known) → IsResolved k → IsResolved (with_fresh k n)
resolved_fresh zero k r = subst IsResolved (sym (append-nil k)) r
resolved_fresh (suc n) k r = subst IsResolved (append_assoc k (None ∷ []) (replicate n None)) (resolved_fresh n (k ++ None ∷ []) (resolved_more k (k ++ None ∷ []) refl r))

fresh_grows : (k : Known) (n : ℕ) → IsResolved k → Grows k (with_fresh k n)
fresh_grows k n r = record { resolved = resolved_fresh n k r; longer = let e = fresh_length k n in omega (arith, e) }

instance_there : (k k' : Known) (n : ℕ) (t : Sort) → Grows (with_fresh k n) k' → IsBelow (length k) t → IsBelow (length k') (instance (length k) n t)
instance_there k k' n t g b = instance_within k k' (length k) n (instance (length k) n t) t refl (let e = fresh_length k n in let l = g.longer in omega (arith, e, l)) b refl

-- ---- two sorts
pub made_found : (k : Known) (t u : Sort) (p : Place) → IsResolved k → IsBelow (length k) t → IsBelow (length k) u → Found (λ k'. Equates k t u k' × Grows k k') (λ r. AreApart k t u × (r ≡ refused rules.Typing p)) (made_at p (unified k t u))
unfolding made_at
made_found k t u p r b c = by (unified k t u) (unified_tells k t u r b c)
  where
    by : (o : Option Known) → MatchOption o (AreApart k t u) (λ k'. Equates k t u k' × IsResolved k') → Found (λ k'. Equates k t u k' × Grows k k') (λ r. AreApart k t u × (r ≡ refused rules.Typing p)) (made_at p o)
    by None m = stopped (m, refl)
    by (Some k') m = found (m.0, record { resolved = m.1; longer = let e = m.0.long in omega (arith, e) })

-- ---- words
result_found : (s : Scope) (c : Context) (k : Known) → IsResolved k → (p : Place) (o : Option Sort) → c.result ≡ o → SortFound s c k (tree.result p) (result_at p k o)
result_found s c k r p None e = stopped (fails.no_result e)
result_found s c k r p (Some t) e = found_where (numbered_below (length k) t)
    (λ b. found (has.result e ((below_told (length k) t).0 b), stays r, (below_told (length k) t).0 b))
    (λ b. stopped (fails.stray_result e (λ h. let q = (below_told (length k) t).1 h in cc)))

this_found : (s : Scope) (c : Context) (k : Known) → IsResolved k → (p : Place) → SortFound s c k (tree.this_ p) (word_at p k pointer_sort c.has_this)
this_found s c k r p = found_where c.has_this (λ b. found (has.this_ b, stays r, tt)) (λ b. stopped (fails.no_this b))

thread_found : (s : Scope) (c : Context) (k : Known) → IsResolved k → (p : Place) → SortFound s c k (tree.current_thread p) (word_at p k int_sort c.has_thread)
thread_found s c k r p = found_where c.has_thread (λ b. found (has.thread b, stays r, tt)) (λ b. stopped (fails.no_thread b))

name_found : (s : Scope) (c : Context) (k : Known) → IsResolved k → (p : Place) (x : List ℕ) (o : Result Scheme Refusal) → name_scheme s p x ≡ o → SortFound s c k (tree.name_ p x) (named_at p k o)
name_found s c k r p x (Err e) h = stopped (fails.no_value h)
name_found s c k r p x (Ok g) h = found_where (is_scheme_below (length k) g)
    (λ b. let w = scheme_tells (length k) g b in found (has.name_ h w, fresh_grows k g.parameters r, instance_there k (with_fresh k g.parameters) g.parameters g.result (stays (resolved_fresh g.parameters k r)) w.1))
    (λ b. stopped (fails.stray_name h (λ w. let q = scheme_so (length k) g w in cc)))

-- ---- applications
applied_found : (s : Scope) (c : Context) (k : Known) → IsResolved k → (p : Place) (f : List ℕ) (xs : GhostExprTrees) → ArgumentsSo s c xs → names_predicate s k f ≡ false → (o : Result Scheme Refusal) → application_scheme s c.own p f ≡ o
    → SortFound s c k (tree.application p f xs) (applied_at p k (count xs) (λ k' first n ts. passed_all s c k' first n ts xs) o)
applied_found s c k r p f xs go a (Err e) h = stopped (fails.no_function a h)
applied_found s c k r p f xs go a (Ok g) h = found_where (is_scheme_below (length k) g)
    (λ b. let w = scheme_tells (length k) g b in found_where (nat_eq (length g.arguments) (count xs))
    (λ m. found_after (go (with_fresh k g.parameters) (length k) g.parameters g.arguments (resolved_fresh g.parameters k r) (grind (arith, m)) w.0 (let e = fresh_length k g.parameters in omega (arith, e)))
    (λ k' d. found (has.application a h w d.0, grows_on (fresh_grows k g.parameters r) d.1, instance_there k k' g.parameters g.result d.1 w.1))
    (λ x d. fails.argument a h w m d))
    (λ m. stopped (fails.other_count a h w m)))
    (λ b. stopped (fails.stray_application a h (λ w. let q = scheme_so (length k) g w in cc)))

application_found : (s : Scope) (c : Context) (k : Known) → IsResolved k → (p : Place) (f : List ℕ) (xs : GhostExprTrees) → ArgumentsSo s c xs → SortFound s c k (tree.application p f xs) (sort_of s c k (tree.application p f xs))
application_found s c k r p f xs go = found_where (names_predicate s k f)
    (λ a. stopped (fails.applied_local a))
    (λ a. applied_found s c k r p f xs go a (application_scheme s c.own p f) refl)

-- ---- an expression beside one in front of it
beside_found : (s : Scope) (c : Context) (k : Known) (z : Bool) (t : Sort) (d : GhostExprTree) → IsBelow (length k) t → (is_pointer (resolved k t) && is_null d) ≡ false → (v : Sort × Known) → has.HasSort s c k d v.0 v.1 × Grows k v.1 × IsBelow (length v.1) v.0
    → MetFound s c k z t d (beside (place_of d) z t v)
beside_found s c k z t d b n v h = found_where (is_pointer (resolved v.1 v.0) && z)
    (λ x. found (has.null_first n h.0 x, h.1, h.2))
    (λ x. found_where (is_any (resolved v.1 t) || is_any (resolved v.1 v.0))
    (λ y. found (has.any_beside n h.0 x y, h.1, tt))
    (λ y. found_after (made_found v.1 v.0 t (place_of d) h.1.resolved h.2 (still_below t h.1 b))
    (λ k' m. found (has.alike n h.0 x y m.0, grows_on h.1 m.1, still_below t m.1 (still_below t h.1 b)))
    (λ r m. subst (fails.FailsToMeet s c k z t d) (sym m.1) (fails.apart n h.0 x y m.0))))

met_found : (s : Scope) (c : Context) (k : Known) (z : Bool) (t : Sort) (d : GhostExprTree) → SortsSo s c d → IsResolved k → IsBelow (length k) t → MetFound s c k z t d (met k z t d (sort_of s c k d))
met_found s c k z t d go r b = found_where (is_pointer (resolved k t) && is_null d)
    (λ n. found (has.null_second n, stays r, b))
    (λ n. found_after (go k r) (λ v h. beside_found s c k z t d b n v h) (λ x h. fails.second n h))

-- ---- wholes
conditional_found : (s : Scope) (c : Context) (k : Known) → IsResolved k → (p : Place) (a b d : GhostExprTree) → PassesSo s c a → SortsSo s c b → SortsSo s c d → SortFound s c k (tree.conditional p a b d) (sort_of s c k (tree.conditional p a b d))
conditional_found s c k r p a b d go first second = found_after (go k bool_sort (place_of a) r tt)
    (λ k₁ h. found_after (first k₁ h.1.resolved)
    (λ v j. found_as (λ u m. (has.conditional h.0 j.0 m.0, grows_on h.1 (grows_on j.1 m.1), m.2)) (λ x m. fails.second_branch h.0 j.0 m) (met_found s c v.1 (is_null b) v.0 d second j.1.resolved j.2))
    (λ x j. fails.first_branch h.0 j))
    (λ x h. fails.test h)

prefixed_found : (s : Scope) (c : Context) (k : Known) → IsResolved k → (p : Place) (o : UnaryOperator) (a : GhostExprTree) → PassesSo s c a → SortFound s c k (tree.unary p o a) (sort_of s c k (tree.unary p o a))
prefixed_found s c k r p o a go = found_after (go k (prefix_sort o) (place_of a) r (prefix_is (length k) o))
    (λ k' h. found (has.prefixed h.0, h.1, prefix_is (length k') o))
    (λ x h. fails.prefixed h)

chain_found : (s : Scope) (c : Context) (k : Known) → IsResolved k → (p : Place) (l : Level) (a : GhostExprTree) (xs : GhostLinkTrees) → SortsSo s c a → LinksSo s c xs → SortFound s c k (tree.chain p l a xs) (sort_of s c k (tree.chain p l a xs))
chain_found s c k r p l a xs go rest = found_after (go k r)
    (λ v h. found_as (λ u j. (has.chain h.0 j.0, grows_on h.1 j.1, j.2)) (λ x j. fails.links h.0 j) (rest v.1 (is_null a) (place_of a) v.0 h.1.resolved h.2))
    (λ x h. fails.start h)

link_so : (s : Scope) (c : Context) (q : Place) (o : BinaryOperator) (a : GhostExprTree) → SortsSo s c a → PassesSo s c a → LinkSo s c (tree.ghost_link q o a)
link_so s c q o a sorts goes k z p t r b = found_where (is_equality o)
    (λ e. found_after (met_found s c k z t a sorts r b) (λ v m. found (has.compared e m.0, m.1, tt)) (λ x m. fails.compared e m))
    (λ e. found_where (moves o (resolved k t))
    (λ m. found_after (goes k int_sort (place_of a) r tt) (λ k' h. found (has.moved e m h.0, h.1, tt)) (λ x h. fails.moved e m h))
    (λ m. found_after (made_found k t (operand_sort o) p r b (operand_below (length k) o (operand_sort o) refl))
    (λ k₁ j. found_after (goes k₁ (operand_sort o) (place_of a) j.1.resolved (operand_below (length k₁) o (operand_sort o) refl))
    (λ k' h. found (has.joined e m j.0 h.0, grows_on j.1 h.1, result_is (length k') o))
    (λ x h. fails.right e m j.0 h))
    (λ x j. subst (fails.LinkFails s c k z p t (tree.ghost_link q o a)) (sym j.1) (fails.left e m j.0))))

links_so : (s : Scope) (c : Context) (x : GhostLinkTree) (xs : GhostLinkTrees) → LinkSo s c x → LinksSo s c xs → LinksSo s c (more_ghost_link x xs)
links_so s c x xs this rest k z p t r b = found_after (this k z p t r b)
    (λ v h. found_as (λ u j. (has.more_links h.0 j.0, grows_on h.1 j.1, j.2)) (λ y j. fails.later_link h.0 j) (rest v.1 false p v.0 h.1.resolved h.2))
    (λ y h. fails.this_link h)

-- ---- where a sort is wanted
wanted_found : (s : Scope) (c : Context) (k : Known) (w : Sort) (q : Place) (e : GhostExprTree) {v : Sorted} → IsBelow (length k) w → goes_inside (is_pointer (resolved k w)) e ≡ false → SortFound s c k e v → PassFound s c k w q e (wanted k w q v)
wanted_found s c k w q e b n v = found_where (is_any (resolved k w))
    (λ a. found_after v (λ x h. found (has.any_wanted n a h.0, h.1)) (λ x h. fails.no_sort n h))
    (λ a. found_after v
    (λ x h. found_as (λ k' m. (has.as_wanted n a h.0 m.0, grows_on h.1 m.1)) (λ y m. subst (fails.Fails s c k w q e) (sym m.1) (fails.other_sort n a h.0 m.0)) (made_found x.1 x.0 w q h.1.resolved h.2 (still_below w h.1 b)))
    (λ x h. fails.no_sort n h))

choice_found : (s : Scope) (c : Context) (k : Known) (w : Sort) (q p : Place) (a b d : GhostExprTree) → IsResolved k → IsBelow (length k) w → PassesSo s c a → PassesSo s c b → PassesSo s c d → is_pointer (resolved k w) ≡ true
    → PassFound s c k w q (tree.conditional p a b d) (after (λ k₁. after (λ k₂. passed s c k₂ w (place_of d) d) (passed s c k₁ w (place_of b) b)) (passed s c k bool_sort (place_of a) a))
choice_found s c k w q p a b d r l go first second h = found_after (go k bool_sort (place_of a) r tt)
    (λ k₁ i. found_after (first k₁ w (place_of b) i.1.resolved (still_below w i.1 l))
    (λ k₂ j. found_as (λ k' m. (has.choice h i.0 j.0 m.0, grows_on i.1 (grows_on j.1 m.1))) (λ x m. fails.choice_second h i.0 j.0 m) (second k₂ w (place_of d) j.1.resolved (still_below w j.1 (still_below w i.1 l))))
    (λ x j. fails.choice_first h i.0 j))
    (λ x i. fails.choice_test h i)

arguments_so : (s : Scope) (c : Context) (a : GhostExprTree) (xs : GhostExprTrees) → PassesSo s c a → ArgumentsSo s c xs → ArgumentsSo s c (more_ghost_expr a xs)
arguments_so s c a xs this rest k first n [] r m b l = absurd (omega (arith, m))
arguments_so s c a xs this rest k first n (t ∷ ts) r m b l = found_after (this k (instance first n t) (place_of a) r (below_more (first + n) (length k) l _ (instance_below first first n (omega arith) t b.0)))
    (λ k₁ h. found_as (λ k' j. (has.one_passed h.0 j.0, grows_on h.1 j.1)) (λ x j. fails.later_argument h.0 j) (rest k₁ first n ts h.1.resolved (omega (arith, m)) b.1 (let g = h.1.longer in omega (arith, g, l))))
    (λ x h. fails.this_argument h)

-- ---- expressions
mutual
  pub sort_found : (s : Scope) (c : Context) (k : Known) → IsResolved k → (e : GhostExprTree) → SortFound s c k e (sort_of s c k e)
  sort_found s c k r (tree.number p n i) = found (has.number, stays r, tt)
  sort_found s c k r (tree.true_ p) = found (has.truth, stays r, tt)
  sort_found s c k r (tree.false_ p) = found (has.falsehood, stays r, tt)
  sort_found s c k r (tree.result p) = result_found s c k r p c.result refl
  sort_found s c k r (tree.this_ p) = this_found s c k r p
  sort_found s c k r (tree.current_thread p) = thread_found s c k r p
  sort_found s c k r (tree.name_ p x) = name_found s c k r p x (name_scheme s p x) refl
  sort_found s c k r (tree.application p f xs) = application_found s c k r p f xs (λ k' first n ts. all_found s c k' first n ts xs)
  sort_found s c k r (tree.parenthesized p a) = found_as (λ v h. (has.parenthesized h.0, h.1, h.2)) (λ x h. fails.parenthesized h) (sort_found s c k r a)
  sort_found s c k r (tree.conditional p a b d) = conditional_found s c k r p a b d (λ k' w q. pass_so s c k' w q a) (λ k' r'. sort_found s c k' r' b) (λ k' r'. sort_found s c k' r' d)
  sort_found s c k r (tree.unary p o a) = prefixed_found s c k r p o a (λ k' w q. pass_so s c k' w q a)
  sort_found s c k r (tree.chain p l a xs) = chain_found s c k r p l a xs (λ k' r'. sort_found s c k' r' a) (λ k' z q t. links_found s c k' z q t xs)

  link_found : (s : Scope) (c : Context) (k : Known) (z : Bool) (p : Place) (t : Sort) (x : GhostLinkTree) → IsResolved k → IsBelow (length k) t → Found (λ v. has.LinkHasSort s c k z p t x v.0 v.1 × Grows k v.1 × IsBelow (length v.1) v.0) (fails.LinkFails s c k z p t x) (link_of s c k z p t x)
  link_found s c k z p t (tree.ghost_link q o a) = link_so s c q o a (λ k' r'. sort_found s c k' r' a) (λ k' w y. pass_so s c k' w y a) k z p t

  links_found : (s : Scope) (c : Context) (k : Known) (z : Bool) (p : Place) (t : Sort) (xs : GhostLinkTrees) → IsResolved k → IsBelow (length k) t → Found (λ v. has.LinksHaveSort s c k z p t xs v.0 v.1 × Grows k v.1 × IsBelow (length v.1) v.0) (fails.LinksFail s c k z p t xs) (links_of s c k z p t xs)
  links_found s c k z p t no_ghost_link = λ r b. found (has.no_links, stays r, b)
  links_found s c k z p t (more_ghost_link x xs) = links_so s c x xs (λ k' z' q t'. link_found s c k' z' q t' x) (λ k' z' q t'. links_found s c k' z' q t' xs) k z p t

  pass_so : (s : Scope) (c : Context) (k : Known) (w : Sort) (q : Place) (e : GhostExprTree) → IsResolved k → IsBelow (length k) w → PassFound s c k w q e (passed s c k w q e)
  pass_so s c k w q (tree.parenthesized p a) = λ r b. found_as (λ k' h. (has.inside h.0, h.1)) (λ x h. fails.inside h) (pass_so s c k w q a r b)
  pass_so s c k w q (tree.number p n i) = λ r b. found_where (is_pointer (resolved k w) && nat_eq n 0) (λ h. found (has.null h, stays r)) (λ h. wanted_found s c k w q (tree.number p n i) b h (found (has.number, stays r, tt)))
  pass_so s c k w q (tree.conditional p a b d) = λ r l. found_where (is_pointer (resolved k w))
      (λ h. choice_found s c k w q p a b d r l (λ k' w' y. pass_so s c k' w' y a) (λ k' w' y. pass_so s c k' w' y b) (λ k' w' y. pass_so s c k' w' y d) h)
      (λ h. wanted_found s c k w q (tree.conditional p a b d) l h (conditional_found s c k r p a b d (λ k' w' y. pass_so s c k' w' y a) (λ k' r'. sort_found s c k' r' b) (λ k' r'. sort_found s c k' r' d)))
  pass_so s c k w q (tree.true_ p) = λ r b. wanted_found s c k w q (tree.true_ p) b refl (found (has.truth, stays r, tt))
  pass_so s c k w q (tree.false_ p) = λ r b. wanted_found s c k w q (tree.false_ p) b refl (found (has.falsehood, stays r, tt))
  pass_so s c k w q (tree.result p) = λ r b. wanted_found s c k w q (tree.result p) b refl (result_found s c k r p c.result refl)
  pass_so s c k w q (tree.this_ p) = λ r b. wanted_found s c k w q (tree.this_ p) b refl (this_found s c k r p)
  pass_so s c k w q (tree.current_thread p) = λ r b. wanted_found s c k w q (tree.current_thread p) b refl (thread_found s c k r p)
  pass_so s c k w q (tree.name_ p x) = λ r b. wanted_found s c k w q (tree.name_ p x) b refl (name_found s c k r p x (name_scheme s p x) refl)
  pass_so s c k w q (tree.application p f xs) = λ r b. wanted_found s c k w q (tree.application p f xs) b refl (application_found s c k r p f xs (λ k' first n ts. all_found s c k' first n ts xs))
  pass_so s c k w q (tree.unary p o a) = λ r b. wanted_found s c k w q (tree.unary p o a) b refl (prefixed_found s c k r p o a (λ k' w' y. pass_so s c k' w' y a))
  pass_so s c k w q (tree.chain p l a xs) = λ r b. wanted_found s c k w q (tree.chain p l a xs) b refl (chain_found s c k r p l a xs (λ k' r'. sort_found s c k' r' a) (λ k' z y t. links_found s c k' z y t xs))

  all_found : (s : Scope) (c : Context) (k : Known) (first n : ℕ) (ts : List Sort) (xs : GhostExprTrees) → IsResolved k → length ts ≡ count xs → AreBelow first ts → first + n ≤ length k → Found (λ k'. has.ArePassed s c k first n ts xs k' × Grows k k') (fails.AnyFails s c k first n ts xs) (passed_all s c k first n ts xs)
  all_found s c k first n [] no_ghost_expr = λ r m b l. found (has.none_passed, stays r)
  all_found s c k first n (t ∷ ts) no_ghost_expr = λ r m b l. absurd (omega (arith, m))
  all_found s c k first n ts (more_ghost_expr a xs) = arguments_so s c a xs (λ k' w q. pass_so s c k' w q a) (λ k' first' n' ts'. all_found s c k' first' n' ts' xs) k first n ts

pub pass_found : (s : Scope) (c : Context) (k : Known) (w : Sort) (q : Place) → IsResolved k → IsBelow (length k) w → (e : GhostExprTree) → PassFound s c k w q e (passed s c k w q e)
pass_found s c k w q r b e = pass_so s c k w q e r b

pub passed_all_found : (s : Scope) (c : Context) (k : Known) (first n : ℕ) (ts : List Sort) (xs : GhostExprTrees) → IsResolved k → length ts ≡ count xs → AreBelow first ts → first + n ≤ length k → Found (λ k'. has.ArePassed s c k first n ts xs k' × Grows k k') (fails.AnyFails s c k first n ts xs) (passed_all s c k first n ts xs)
passed_all_found s c k first n ts xs r m b l = all_found s c k first n ts xs r m b l
