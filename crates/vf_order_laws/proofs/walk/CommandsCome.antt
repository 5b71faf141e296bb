-- The rules of ghost commands come to what the functions come to.
use Rattle.std.proofs.Common.{◌≡◌, refl, ◌∙◌, ap, ℕ, List, length, Option, Ok, Err}
use Rattle.vf_base.specs.declared.place.Place.{Place}
use Rattle.vf_base.specs.declared.refusal.Refusal.{Refusal}
use Rattle.vf_sorts.specs.Sorts.{Sort, row}
use Rattle.vf_sorts.specs.Unknowns.{Known, all_numbered_below, numbered_below}
use Rattle.vf_sorts.proofs.Filled.{all_below_told, below_told}
use Rattle.vf_declared.specs.declared.scope.Scope.{Scope}
use Rattle.vf_syntax.specs.declared.pattern.Pattern.{Pattern}
use Rattle.vf_syntax.specs.declared.pattern.Share.{Share}
use Rattle.vf_syntax.specs.declared.written.Name.{Name}
use Rattle.vf_syntax.specs.GhostExprTree.{GhostExprTree, GhostExprTrees}
use Rattle.vf_syntax.specs.SortTree.{SortTree}
use Rattle.vf_syntax.specs.GhostCommandTree.{GhostCommandTree, GhostCommandTrees, CommandCaseTree, CommandCaseTrees}
use Rattle.vf_sorting.specs.declared.context.Context.{Context}
use Rattle.vf_sorting.specs.Operators.{place_of}
use Rattle.vf_binding.specs.declared.bound.Bound.{Bound}
use Rattle.vf_binding.specs.declared.chunk_sorts.ChunkSorts.{ChunkSorts}
use Rattle.vf_commands.specs.declared.around.Around.{Around}
use Rattle.vf_commands.specs.Calls as calls
use Rattle.vf_commands.specs.Gives as gives
use Rattle.vf_commands.specs.IsRefused as fails
use Rattle.vf_commands.specs.Locals as locals
use Rattle.vf_commands.specs.Locals.{with_ghost}
use Rattle.vf_commands.specs.Opening as opening
use Rattle.vf_commands.specs.Switches.{are_cases}
use Rattle.vf_commands.specs.Switches as switches
use Rattle.vf_order_laws.specs.walk.Following.{pair}
use Rattle.vf_order_laws.proofs.walk.Results.{goes, refused_so, same_count, stops, told_false, unrefused, where_not, where_so}
use Rattle.vf_order_laws.proofs.walk.SortsCome.{all_passed, any_fails, counts, is_failed, is_passed, is_refused, made_so, sorted, unmade_so}
use Rattle.vf_order_laws.proofs.walk.PartsCome.{all_heads_pass, heads_fail, share_fails, share_passes, taken_binds, taken_fails, taken_not, taken_so}
use Rattle.vf_order_laws.specs.walk.Assertions.{by_datatype, switch_of, triple}
use Rattle.vf_order_laws.proofs.walk.AssertionsCome.{any_part_fails, case_binds, names_fail, parts_give}
use Rattle.vf_order_laws.specs.walk.Commands.{assignment_of, call_of, case_of, cases_of, close_by, close_of, close_taken, command_of, commands_of, declaration_of, open_of, open_taken, values_of}

-- ---- `open` and `close`
open_binds : {s : Scope} {c : Context} {k k' : Known} {b' : Bound} {h : Option Share} {n : Name} {xs : List Pattern} {ys : Option (List Pattern)} → opening.OpenBinds s c k h n xs ys k' b' → open_of s c k h n xs ys ≡ Ok (pair k' b')
open_binds {s = s} {c = c} (opening.opened {k₁ = k₁} {b₁ = b₁} {n = n} {xs = xs} {ys = ys} i t l a) = goes _ (share_passes i) (ap (open_taken s c k₁ b₁ n xs ys) t ∙ taken_binds n l a)

open_fails : {s : Scope} {c : Context} {k : Known} {h : Option Share} {n : Name} {xs : List Pattern} {ys : Option (List Pattern)} {r : Refusal} → opening.OpenFails s c k h n xs ys r → open_of s c k h n xs ys ≡ Err r
open_fails (opening.share i) = stops _ (share_fails i)
open_fails {s = s} {c = c} (opening.no_predicate {k₁ = k₁} {b₁ = b₁} {n = n} {xs = xs} {ys = ys} i t) = goes _ (share_passes i) (ap (open_taken s c k₁ b₁ n xs ys) t)
open_fails {s = s} {c = c} (opening.taken {k₁ = k₁} {b₁ = b₁} {n = n} {xs = xs} {ys = ys} i t a) = goes _ (share_passes i) (ap (open_taken s c k₁ b₁ n xs ys) t ∙ taken_fails a)

values_pass : {s : Scope} {c : Context} {k k' : Known} {t : ChunkSorts} (g : Place) {xs : List Pattern} {ys : Option (List Pattern)} → opening.ValuesPass s c k t xs ys k' → values_of s c k t g xs ys ≡ Ok k'
values_pass g (opening.one_pair h) = all_heads_pass g h
values_pass g (opening.two_pairs h i) = goes _ (all_heads_pass g h) (all_heads_pass g i)

values_fail : {s : Scope} {c : Context} {k : Known} {t : ChunkSorts} {g : Place} {xs : List Pattern} {ys : Option (List Pattern)} {r : Refusal} → opening.ValuesFail s c k t g xs ys r → values_of s c k t g xs ys ≡ Err r
values_fail opening.needless_pair = refl
values_fail opening.missing_pair = refl
values_fail (opening.one_pair h) = heads_fail h
values_fail (opening.first_pair h) = stops _ (heads_fail h)
values_fail (opening.second_pair h i) = goes _ (all_heads_pass _ h) (heads_fail i)

close_passes : {s : Scope} {c : Context} {k k' : Known} {h : Option Share} {n : Name} {xs : List Pattern} {ys : Option (List Pattern)} → opening.ClosePasses s c k h n xs ys k' → close_of s c k h n xs ys ≡ Ok k'
close_passes {s = s} {c = c} (opening.closed {k = k} {k₁ = k₁} {h = h} {n = n} {t = t} {xs = xs} {ys = ys} b i u l a) = ap (close_by s c k h n xs ys) b ∙ goes _ (share_passes i) (ap (close_taken s c k₁ n xs ys) u ∙ where_so _ (taken_so (length k₁) t l) (values_pass n.place a))

close_fails : {s : Scope} {c : Context} {k : Known} {h : Option Share} {n : Name} {xs : List Pattern} {ys : Option (List Pattern)} {r : Refusal} → opening.CloseFails s c k h n xs ys r → close_of s c k h n xs ys ≡ Err r
close_fails {s = s} {c = c} {n = n} (opening.bound_share {k = k} {h = h} {xs = xs} {ys = ys} b) = ap (close_by s c k h n xs ys) b
close_fails {s = s} {c = c} (opening.share {k = k} {h = h} {n = n} {xs = xs} {ys = ys} b i) = ap (close_by s c k h n xs ys) b ∙ stops _ (share_fails i)
close_fails {s = s} {c = c} (opening.no_predicate {k = k} {k₁ = k₁} {h = h} {n = n} {xs = xs} {ys = ys} b i u) = ap (close_by s c k h n xs ys) b ∙ goes _ (share_passes i) (ap (close_taken s c k₁ n xs ys) u)
close_fails {s = s} {c = c} (opening.stray {k = k} {k₁ = k₁} {h = h} {n = n} {t = t} {xs = xs} {ys = ys} b i u l) = ap (close_by s c k h n xs ys) b ∙ goes _ (share_passes i) (ap (close_taken s c k₁ n xs ys) u ∙ where_not _ (taken_not (length k₁) t l) refl)
close_fails {s = s} {c = c} (opening.values {k = k} {k₁ = k₁} {h = h} {n = n} {t = t} {xs = xs} {ys = ys} b i u l a) = ap (close_by s c k h n xs ys) b ∙ goes _ (share_passes i) (ap (close_taken s c k₁ n xs ys) u ∙ where_so _ (taken_so (length k₁) t l) (values_fail a))

-- ---- locals
declares : {s : Scope} {w : Around} {k k' : Known} {u : SortTree} {n : Name} {e : GhostExprTree} {t : Sort} → locals.Declares s w k u n e t k' → declaration_of s w k u n e ≡ Ok (pair (with_ghost s n.text t) k')
declares (locals.declares t n e) = goes _ t (goes _ (unrefused n) (goes _ (is_passed e) refl))

declaration_fails : {s : Scope} {w : Around} {k : Known} {u : SortTree} {n : Name} {e : GhostExprTree} {r : Refusal} → locals.DeclarationFails s w k u n e r → declaration_of s w k u n e ≡ Err r
declaration_fails (locals.its_sort t) = stops _ t
declaration_fails (locals.its_name t n) = goes _ t (stops _ (refused_so _ n))
declaration_fails (locals.its_value t n e) = goes _ t (goes _ (unrefused n) (stops _ (is_failed e)))

assigns : {s : Scope} {w : Around} {k k' : Known} {p : Place} {x : List ℕ} {e : GhostExprTree} → locals.Assigns s w k p x e k' → assignment_of s w k p x e ≡ Ok k'
assigns (locals.assigns {k = k} {t = t} h b e) = goes _ h (where_so _ ((below_told (length k) t).1 b) (is_passed e))

assignment_fails : {s : Scope} {w : Around} {k : Known} {p : Place} {x : List ℕ} {e : GhostExprTree} {r : Refusal} → locals.AssignmentFails s w k p x e r → assignment_of s w k p x e ≡ Err r
assignment_fails (locals.its_target h) = stops _ h
assignment_fails (locals.stray {k = k} {t = t} h b) = goes _ h (where_not _ (told_false (numbered_below (length k) t) (below_told (length k) t) b) refl)
assignment_fails (locals.its_value {k = k} {t = t} h b e) = goes _ h (where_so _ ((below_told (length k) t).1 b) (is_failed e))

-- ---- calls
call_passes : {s : Scope} {c : Context} {k k' : Known} {p : Place} {f : List ℕ} {xs : GhostExprTrees} → calls.CallPasses s c k p f xs k' → call_of s c k p f xs ≡ Ok k'
call_passes (calls.calls {k = k} {g = g} n h b a) = where_not _ n (goes _ h (where_so _ ((all_below_told (length k) (row g.arguments)).1 b) (where_so _ (same_count _ _ (counts a)) (all_passed a))))

call_fails : {s : Scope} {c : Context} {k : Known} {p : Place} {f : List ℕ} {xs : GhostExprTrees} {r : Refusal} → calls.CallFails s c k p f xs r → call_of s c k p f xs ≡ Err r
call_fails (calls.called_local n) = where_so _ n refl
call_fails (calls.no_lemma n h) = where_not _ n (stops _ h)
call_fails (calls.stray {k = k} {g = g} n h b) = where_not _ n (goes _ h (where_not _ (told_false (all_numbered_below (length k) (row g.arguments)) (all_below_told (length k) (row g.arguments)) b) refl))
call_fails (calls.other_count {k = k} {g = g} n h b m) = where_not _ n (goes _ h (where_so _ ((all_below_told (length k) (row g.arguments)).1 b) (where_not _ m refl)))
call_fails (calls.argument {k = k} {g = g} n h b m a) = where_not _ n (goes _ h (where_so _ ((all_below_told (length k) (row g.arguments)).1 b) (where_so _ m (any_fails a))))

-- ---- what stands in front of cases
switched : {s : Scope} {c : Context} {k k' : Known} {e : GhostExprTree} {cs : CommandCaseTrees} {first n : ℕ} → switches.Switches s c k e cs first n k' → switch_of s c k e (λ d. are_cases s d cs) ≡ Ok (triple first n k')
switched {s = s} {cs = cs} (switches.switches {k₁ = k₁} {e = e} {t = t} h d a q) = goes _ (sorted h) (ap (by_datatype s (place_of e) (λ d. are_cases s d cs) t k₁) d ∙ where_so _ a (goes _ (made_so _ q) refl))

switch_fails : {s : Scope} {c : Context} {k : Known} {e : GhostExprTree} {cs : CommandCaseTrees} {r : Refusal} → switches.SwitchFails s c k e cs r → switch_of s c k e (λ d. are_cases s d cs) ≡ Err r
switch_fails (switches.switched h) = stops _ (is_refused h)
switch_fails {s = s} {cs = cs} (switches.no_datatype {k₁ = k₁} {e = e} {t = t} h d) = goes _ (sorted h) (ap (by_datatype s (place_of e) (λ d. are_cases s d cs) t k₁) d)
switch_fails {s = s} {cs = cs} (switches.other_cases {k₁ = k₁} {e = e} {t = t} h d a) = goes _ (sorted h) (ap (by_datatype s (place_of e) (λ d. are_cases s d cs) t k₁) d ∙ where_not _ a refl)
switch_fails {s = s} {cs = cs} (switches.other_sorts {k₁ = k₁} {e = e} {t = t} h d a q) = goes _ (sorted h) (ap (by_datatype s (place_of e) (λ d. are_cases s d cs) t k₁) d ∙ where_so _ a (stops _ (unmade_so _ q)))

-- ---- commands
mutual
  pub command_gives : {w : Around} {s s' : Scope} {k k' : Known} {x : GhostCommandTree} → gives.CommandGives w s k x s' k' → command_of w s k x ≡ Ok (pair s' k')
  command_gives (gives.open_ h) = goes _ (open_binds h) refl
  command_gives (gives.close_ h) = goes _ (close_passes h) refl
  command_gives (gives.leak_ h) = parts_give h
  command_gives (gives.assert_ h) = parts_give h
  command_gives (gives.declaration h) = declares h
  command_gives (gives.assignment h) = goes _ (assigns h) refl
  command_gives (gives.call_ h) = goes _ (call_passes h) refl
  command_gives (gives.if_ e (gives.a_block a)) = goes _ (is_passed e) (goes _ (commands_give a) refl)
  command_gives (gives.if_else e (gives.a_block a) (gives.a_block b)) = goes _ (is_passed e) (goes _ (goes _ (commands_give a) refl) (goes _ (commands_give b) refl))
  command_gives (gives.switch_ v h) = goes _ (switched v) (cases_give h)
  command_gives (gives.block (gives.a_block a)) = goes _ (commands_give a) refl

  pub commands_give : {w : Around} {s s' : Scope} {k k' : Known} {xs : GhostCommandTrees} → gives.CommandsGive w s k xs s' k' → commands_of w s k xs ≡ Ok (pair s' k')
  commands_give gives.no_commands = refl
  commands_give (gives.more_commands x xs) = goes _ (command_gives x) (commands_give xs)

  case_gives : {w : Around} {s s' : Scope} {first n : ℕ} {k k' : Known} {x : CommandCaseTree} → gives.CaseGives w s first n k x s' k' → case_of w s first n k x ≡ Ok (pair s' k')
  case_gives (gives.a_case b h) = goes _ (case_binds _ b) (goes _ (commands_give h) refl)

  cases_give : {w : Around} {s s' : Scope} {first n : ℕ} {k k' : Known} {xs : CommandCaseTrees} → gives.CasesGive w s first n k xs s' k' → cases_of w s first n k xs ≡ Ok (pair s' k')
  cases_give gives.no_cases = refl
  cases_give (gives.more_cases x xs) = goes _ (case_gives x) (cases_give xs)

mutual
  pub command_fails : {w : Around} {s : Scope} {k : Known} {x : GhostCommandTree} {r : Refusal} → fails.CommandFails w s k x r → command_of w s k x ≡ Err r
  command_fails (fails.open_ h) = stops _ (open_fails h)
  command_fails (fails.close_ h) = stops _ (close_fails h)
  command_fails (fails.leak_ h) = any_part_fails h
  command_fails (fails.assert_ h) = any_part_fails h
  command_fails (fails.declaration h) = declaration_fails h
  command_fails (fails.assignment h) = stops _ (assignment_fails h)
  command_fails (fails.call_ h) = stops _ (call_fails h)
  command_fails (fails.if_test e) = stops _ (is_failed e)
  command_fails (fails.if_block e a) = goes _ (is_passed e) (stops _ (any_command_fails a))
  command_fails (fails.test e) = stops _ (is_failed e)
  command_fails (fails.first_block e a) = goes _ (is_passed e) (stops _ (stops _ (any_command_fails a)))
  command_fails (fails.second_block e (gives.a_block a) b) = goes _ (is_passed e) (goes _ (goes _ (commands_give a) refl) (stops _ (any_command_fails b)))
  command_fails (fails.switch_ v) = stops _ (switch_fails v)
  command_fails (fails.a_case v h) = goes _ (switched v) (any_case_fails h)
  command_fails (fails.block a) = stops _ (any_command_fails a)

  any_command_fails : {w : Around} {s : Scope} {k : Known} {xs : GhostCommandTrees} {r : Refusal} → fails.AnyCommandFails w s k xs r → commands_of w s k xs ≡ Err r
  any_command_fails (fails.this_command x) = stops _ (command_fails x)
  any_command_fails (fails.later_command x xs) = goes _ (command_gives x) (any_command_fails xs)

  case_fails : {w : Around} {s : Scope} {first n : ℕ} {k : Known} {x : CommandCaseTree} {r : Refusal} → fails.CaseFails w s first n k x r → case_of w s first n k x ≡ Err r
  case_fails (fails.name_ n) = stops _ (names_fail n)
  case_fails (fails.body b h) = goes _ (case_binds _ b) (stops _ (any_command_fails h))

  any_case_fails : {w : Around} {s : Scope} {first n : ℕ} {k : Known} {xs : CommandCaseTrees} {r : Refusal} → fails.AnyCaseFails w s first n k xs r → cases_of w s first n k xs ≡ Err r
  any_case_fails (fails.this_case x) = stops _ (case_fails x)
  any_case_fails (fails.later_case x xs) = goes _ (case_gives x) (any_case_fails xs)
