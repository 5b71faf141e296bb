-- The rules of assertions come to what the functions come to.
use Rattle.std.proofs.Common.{◌≡◌, refl, ◌∙◌, ap, ℕ, suc, List, length, Ok, Err}
use Rattle.vf_base.specs.declared.place.Place.{Place}
use Rattle.vf_base.specs.declared.refusal.Refusal.{Refusal}
use Rattle.vf_sorts.specs.Sorts.{Sort}
use Rattle.vf_sorts.specs.Unknowns.{Known}
use Rattle.vf_declared.specs.declared.scope.Scope.{Scope}
use Rattle.vf_syntax.specs.declared.written.Name.{Name}
use Rattle.vf_syntax.specs.GhostExprTree.{GhostExprTree}
use Rattle.vf_syntax.specs.AssertionTree.{PartTree, PartTrees, AssertionCaseTree, AssertionCaseTrees}
use Rattle.vf_sorting.specs.declared.context.Context.{Context}
use Rattle.vf_sorting.specs.Operators.{place_of}
use Rattle.vf_binding.specs.declared.bound.Bound.{Bound}
use Rattle.vf_binding.specs.Bound.{no_names}
use Rattle.vf_asserting.specs.Cases.{are_cases}
use Rattle.vf_asserting.specs.Cases as cases
use Rattle.vf_asserting.specs.Gives as gives
use Rattle.vf_asserting.specs.IsRefused as fails
use Rattle.vf_asserting.specs.Switches as switches
use Rattle.vf_order_laws.specs.walk.Following.{pair}
use Rattle.vf_order_laws.proofs.walk.Results.{goes, other_count, refused_so, same_count, stops, unrefused, where_not, where_so}
use Rattle.vf_order_laws.proofs.walk.SortsCome.{is_failed, is_passed, is_refused, made_so, sorted, unmade_so}
use Rattle.vf_order_laws.proofs.walk.PartsCome.{cell_binds, cell_fails, chunk_binds, chunk_fails}
use Rattle.vf_order_laws.specs.walk.Assertions.{by_datatype, case_names, case_of, cases_of, names_of, part_of, parts_of, switch_of, triple}

-- ---- the names of cases
names_bind : {s : Scope} {b b' : Bound} {ns : List Name} {ts : List Sort} → cases.NamesBind s b ns ts b' → names_of s b ns ts ≡ Ok b'
names_bind cases.none_bind = refl
names_bind (cases.one_binds n h) = goes _ (unrefused n) (names_bind h)

as_many : {s : Scope} {b b' : Bound} {ns : List Name} {ts : List Sort} → cases.NamesBind s b ns ts b' → length ns ≡ length ts
as_many cases.none_bind = refl
as_many (cases.one_binds n h) = ap suc (as_many h)

any_name_fails : {s : Scope} {b : Bound} {ns : List Name} {ts : List Sort} {r : Refusal} → cases.AnyNameFails s b ns ts r → names_of s b ns ts ≡ Err r
any_name_fails (cases.this_name n) = stops _ (refused_so _ n)
any_name_fails (cases.later_name n h) = goes _ (unrefused n) (any_name_fails h)

pub case_binds : {s : Scope} {b : Bound} {ns : List Name} {ts : List Sort} (g : Place) → cases.NamesBind s no_names ns ts b → case_names s ns ts g ≡ Ok b
case_binds g h = where_so _ (same_count _ _ (as_many h)) (names_bind h)

pub names_fail : {s : Scope} {ns : List Name} {ts : List Sort} {g : Place} {r : Refusal} → cases.NamesFail s ns ts g r → case_names s ns ts g ≡ Err r
names_fail (cases.other_count n) = where_not _ (other_count _ _ n) refl
names_fail (cases.one_of_them n h) = where_so _ (same_count _ _ n) (any_name_fails h)

-- ---- what stands in front of cases
pub switched : {s : Scope} {c : Context} {k k' : Known} {e : GhostExprTree} {cs : AssertionCaseTrees} {first n : ℕ} → switches.Switches s c k e cs first n k' → switch_of s c k e (λ d. are_cases s d cs) ≡ Ok (triple first n k')
switched {s = s} {cs = cs} (switches.switches {k₁ = k₁} {e = e} {t = t} h d a q) = goes _ (sorted h) (ap (by_datatype s (place_of e) (λ d. are_cases s d cs) t k₁) d ∙ where_so _ a (goes _ (made_so _ q) refl))

pub switch_fails : {s : Scope} {c : Context} {k : Known} {e : GhostExprTree} {cs : AssertionCaseTrees} {r : Refusal} → switches.SwitchFails s c k e cs r → switch_of s c k e (λ d. are_cases s d cs) ≡ Err r
switch_fails (switches.switched h) = stops _ (is_refused h)
switch_fails {s = s} {cs = cs} (switches.no_datatype {k₁ = k₁} {e = e} {t = t} h d) = goes _ (sorted h) (ap (by_datatype s (place_of e) (λ d. are_cases s d cs) t k₁) d)
switch_fails {s = s} {cs = cs} (switches.other_cases {k₁ = k₁} {e = e} {t = t} h d a) = goes _ (sorted h) (ap (by_datatype s (place_of e) (λ d. are_cases s d cs) t k₁) d ∙ where_not _ a refl)
switch_fails {s = s} {cs = cs} (switches.other_sorts {k₁ = k₁} {e = e} {t = t} h d a q) = goes _ (sorted h) (ap (by_datatype s (place_of e) (λ d. are_cases s d cs) t k₁) d ∙ where_so _ a (stops _ (unmade_so _ q)))

-- ---- assertions
mutual
  pub part_gives : {c : Context} {s s' : Scope} {k k' : Known} {x : PartTree} → gives.PartGives c s k x s' k' → part_of c s k x ≡ Ok (pair s' k')
  part_gives (gives.conditional e (gives.branch a) (gives.branch b)) = goes _ (is_passed e) (goes _ (goes _ (parts_give a) refl) (goes _ (parts_give b) refl))
  part_gives (gives.switch_ w h) = goes _ (switched w) (cases_give h)
  part_gives (gives.cell h) = goes _ (cell_binds h) refl
  part_gives (gives.chunk h) = goes _ (chunk_binds h) refl
  part_gives gives.empty_ = refl
  part_gives (gives.pure e) = goes _ (is_passed e) refl
  part_gives (gives.group h) = parts_give h

  pub parts_give : {c : Context} {s s' : Scope} {k k' : Known} {xs : PartTrees} → gives.Gives c s k xs s' k' → parts_of c s k xs ≡ Ok (pair s' k')
  parts_give gives.no_parts = refl
  parts_give (gives.more_parts x xs) = goes _ (part_gives x) (parts_give xs)

  case_gives : {c : Context} {s s' : Scope} {first n : ℕ} {k k' : Known} {x : AssertionCaseTree} → gives.CaseGives c s first n k x s' k' → case_of c s first n k x ≡ Ok (pair s' k')
  case_gives (gives.a_case b h) = goes _ (case_binds _ b) (goes _ (parts_give h) refl)

  cases_give : {c : Context} {s s' : Scope} {first n : ℕ} {k k' : Known} {xs : AssertionCaseTrees} → gives.CasesGive c s first n k xs s' k' → cases_of c s first n k xs ≡ Ok (pair s' k')
  cases_give gives.no_cases = refl
  cases_give (gives.more_cases x xs) = goes _ (case_gives x) (cases_give xs)

mutual
  part_fails : {c : Context} {s : Scope} {k : Known} {x : PartTree} {r : Refusal} → fails.PartFails c s k x r → part_of c s k x ≡ Err r
  part_fails (fails.test e) = stops _ (is_failed e)
  part_fails (fails.first_branch e a) = goes _ (is_passed e) (stops _ (stops _ (any_part_fails a)))
  part_fails (fails.second_branch e (gives.branch a) b) = goes _ (is_passed e) (goes _ (goes _ (parts_give a) refl) (stops _ (any_part_fails b)))
  part_fails (fails.switch_ w) = stops _ (switch_fails w)
  part_fails (fails.a_case w h) = goes _ (switched w) (any_case_fails h)
  part_fails (fails.cell h) = stops _ (cell_fails h)
  part_fails (fails.chunk h) = stops _ (chunk_fails h)
  part_fails (fails.pure e) = stops _ (is_failed e)
  part_fails (fails.group h) = any_part_fails h

  pub any_part_fails : {c : Context} {s : Scope} {k : Known} {xs : PartTrees} {r : Refusal} → fails.AnyPartFails c s k xs r → parts_of c s k xs ≡ Err r
  any_part_fails (fails.this_part x) = stops _ (part_fails x)
  any_part_fails (fails.later_part x xs) = goes _ (part_gives x) (any_part_fails xs)

  case_fails : {c : Context} {s : Scope} {first n : ℕ} {k : Known} {x : AssertionCaseTree} {r : Refusal} → fails.CaseFails c s first n k x r → case_of c s first n k x ≡ Err r
  case_fails (fails.name_ n) = stops _ (names_fail n)
  case_fails (fails.body b h) = goes _ (case_binds _ b) (stops _ (any_part_fails h))

  any_case_fails : {c : Context} {s : Scope} {first n : ℕ} {k : Known} {xs : AssertionCaseTrees} {r : Refusal} → fails.AnyCaseFails c s first n k xs r → cases_of c s first n k xs ≡ Err r
  any_case_fails (fails.this_case x) = stops _ (case_fails x)
  any_case_fails (fails.later_case x xs) = goes _ (case_gives x) (any_case_fails xs)
