-- Answers for names of cases and for what stands in front of cases, from the answers for their parts.
use Rattle.std.proofs.Common.{◌≡◌, ◌≢◌, ℕ, zero, suc, ◌+◌, ◌≤◌, ◌<◌, ◌^◌, Bool, true, false, List, [], ◌∷◌, ◌++◌, length, drop, Option, Some, None, slice_get, Result, Ok, Err, refl, sym, ◌∙◌, ap, subst, arith}
use Rattle.vf_base.specs.declared.place.Place.{Place}
use Rattle.vf_base.specs.declared.refusal.RuleFault.{RuleFault}
use Rattle.vf_base.specs.declared.refusal.RuleFault.TheVariants as faults
use Rattle.vf_base.specs.declared.rule.Rule.TheVariants as rules
use Rattle.vf_sorts.specs.declared.sort.Head.TheVariants as heads
use Rattle.vf_sorts.specs.Sorts.{Sort, row}
use Rattle.vf_sorts.specs.Unknowns.{EachUnknownOf, IsBelow, Known, instance, leaf}
use Rattle.vf_sorts.specs.Unifying.{Equates}
use Rattle.vf_declared.specs.declared.scope.Scope.{Scope}
use Rattle.vf_syntax.specs.declared.written.Name.{Name}
use Rattle.vf_syntax.specs.GhostExprTree.{GhostExprTree}
use Rattle.vf_syntax.specs.AssertionTree.{AssertionCaseTrees}
use Rattle.vf_sorting.specs.declared.context.Context.{Context}
use Rattle.vf_sorting.specs.Answers.{IsApart, IsEquated, IsSorted, Tells}
use Rattle.vf_sorting.specs.Kinds.{datatype_sort, parameter_sorts, resolved, with_fresh}
use Rattle.vf_sorting.specs.Operators.{place_of}
use Rattle.vf_sorting.specs.Refusals.{refused}
use Rattle.vf_sorting.proofs.Below.{below_more, fresh_length, instance_below}
use Rattle.vf_sorting.proofs.Lists.{left_at, left_end}
use Rattle.vf_sorting.proofs.Steps.{told}
use Rattle.vf_binding.specs.declared.bound.Bound.{Bound}
use Rattle.vf_binding.specs.Bound.{no_names}
use Rattle.vf_binding.specs.Answers.{IsNamed}
use Rattle.vf_binding.proofs.Steps.{failing, refusing, wanting}
use Rattle.vf_asserting.specs.declared.switches.Switched.{Switched}
use Rattle.vf_asserting.specs.Cases as cases
use Rattle.vf_asserting.specs.Cases.{are_cases, datatype_in, names_or_none}
use Rattle.vf_asserting.specs.Switches as switched
use Rattle.vf_asserting.specs.Switches.{parameters_of, unknown_datatype}
use Rattle.vf_asserting.specs.Answers.{AreNamed, IsCaseBound, IsSwitch}

-- ---- names of a case
pub names_end : {s : Scope} {b : Bound} (ns : List Name) (ts : List Sort) (i : ℕ) → length ns ≤ i → length ts ≤ i → AreNamed {A = Unit {0}} s b (drop i ns) (drop i ts) (Ok tt) b
names_end {s = s} {b = b} ns ts i l m =
    subst (λ (us : List Sort). AreNamed {A = Unit {0}} s b (drop i ns) us (Ok tt) b) (sym (left_end ts i m))
    (subst (λ (ys : List Name). AreNamed {A = Unit {0}} s b ys [] (Ok tt) b) (sym (left_end ns i l)) (record { answers = cases.none_bind }))

pub names_halt : {s : Scope} {b b' : Bound} {n : Name} {t : Sort} {res : Result (Unit {0}) RuleFault} (ns : List Name) (ts : List Sort) (i : ℕ) (e : RuleFault) → slice_get ns i ≡ Some n → slice_get ts i ≡ Some t → IsNamed {A = Unit {0}} s b n t (Err e) b' → res ≡ Err e → AreNamed s b (drop i ns) (drop i ts) res b'
names_halt {s = s} {b = b} {b' = b'} {n = n} {t = t} {res = res} ns ts i e g h a q =
    subst (λ (us : List Sort). AreNamed s b (drop i ns) us res b') (sym (left_at ts i t h))
    (subst (λ (ys : List Name). AreNamed s b ys (t ∷ drop (i + 1) ts) res b') (sym (left_at ns i n g)) (record { answers = failing _ _ _ e (λ r f. cases.this_name f) a.answers q }))

names_on : {s : Scope} {b b₁ : Bound} {n : Name} {ns : List Name} {t : Sort} {ts : List Sort} → IsNamed {A = Unit {0}} s b n t (Ok tt) b₁ → (r : Result (Unit {0}) RuleFault) (b' : Bound) → AreNamed s b₁ ns ts r b' → AreNamed s b (n ∷ ns) (t ∷ ts) r b'
names_on {s = s} {n = n} {ns = ns} {ts = ts} i (Ok v) b' j = record { answers = cases.one_binds i.answers.0 (subst (λ (x : Bound). cases.NamesBind s x ns ts b') i.answers.1 j.answers) }
names_on {s = s} {n = n} {ns = ns} {ts = ts} i (Err e) b' j = record { answers = told _ _ e (λ r h. cases.later_name i.answers.0 (subst (λ (x : Bound). cases.AnyNameFails s x ns ts r) i.answers.1 h)) j.answers }

pub names_next : {s : Scope} {b b₁ b' : Bound} {n : Name} {t : Sort} {r : Result (Unit {0}) RuleFault} (ns : List Name) (ts : List Sort) (i : ℕ) → slice_get ns i ≡ Some n → slice_get ts i ≡ Some t → IsNamed {A = Unit {0}} s b n t (Ok tt) b₁ → AreNamed s b₁ (drop (i + 1) ns) (drop (i + 1) ts) r b' → AreNamed s b (drop i ns) (drop i ts) r b'
names_next {s = s} {b = b} {b' = b'} {n = n} {t = t} {r = r} ns ts i g h a j =
    subst (λ (us : List Sort). AreNamed s b (drop i ns) us r b') (sym (left_at ts i t h))
    (subst (λ (ys : List Name). AreNamed s b ys (t ∷ drop (i + 1) ts) r b') (sym (left_at ns i n g)) (names_on a r b' j))

nothing_is : {A : Type 0} (xs : List A) → length xs ≡ 0 → xs ≡ []
nothing_is [] h = refl
nothing_is (x ∷ xs) h = absurd (omega (arith, h))

pub case_memory : {s : Scope} {ns : List Name} {ts : List Sort} {g : Place} {res : Result Bound RuleFault} → res ≡ Err faults.Memory → IsCaseBound s ns ts g res
case_memory q = record { answers = wanting _ _ q }

pub case_nameless_other : {s : Scope} {o : Option (List Name)} {ts : List Sort} {g : Place} {e : RuleFault} → o ≡ None → length ts ≢ 0 → e ≡ faults.Refused (refused rules.Typing g) → IsCaseBound s (names_or_none o) ts g (Err e)
case_nameless_other {s = s} {ts = ts} {g = g} {e = e} n l q = subst (λ (o : Option (List Name)). IsCaseBound s (names_or_none o) ts g (Err e)) (sym n) (record { answers = refusing _ _ _ q (cases.other_count (λ m. l (sym m))) })

pub case_nameless : {s : Scope} {o : Option (List Name)} {ts : List Sort} {g : Place} {b : Bound} → o ≡ None → length ts ≡ 0 → b ≡ no_names → IsCaseBound s (names_or_none o) ts g (Ok b)
case_nameless {s = s} {ts = ts} {g = g} {b = b} n l q = subst (λ (o : Option (List Name)). IsCaseBound s (names_or_none o) ts g (Ok b)) (sym n) (record { answers = subst (λ (us : List Sort). cases.NamesBind s no_names [] us b) (sym (nothing_is ts l)) (subst (cases.NamesBind s no_names [] []) (sym q) cases.none_bind) })

pub case_other : {s : Scope} {o : Option (List Name)} {ns : List Name} {ts : List Sort} {g : Place} {e : RuleFault} → o ≡ Some ns → length ns ≢ length ts → e ≡ faults.Refused (refused rules.Typing g) → IsCaseBound s (names_or_none o) ts g (Err e)
case_other {s = s} {ts = ts} {g = g} {e = e} n l q = subst (λ (o : Option (List Name)). IsCaseBound s (names_or_none o) ts g (Err e)) (sym n) (record { answers = refusing _ _ _ q (cases.other_count l) })

pub case_fails : {s : Scope} {o : Option (List Name)} {ns : List Name} {ts : List Sort} {g : Place} {b b' : Bound} {res : Result Bound RuleFault} (e : RuleFault) → o ≡ Some ns → length ns ≡ length ts → b ≡ no_names → AreNamed {A = Unit {0}} s b ns ts (Err e) b' → res ≡ Err e → IsCaseBound s (names_or_none o) ts g res
case_fails {s = s} {ns = ns} {ts = ts} {g = g} {res = res} e n l w i q = subst (λ (o : Option (List Name)). IsCaseBound s (names_or_none o) ts g res) (sym n) (record { answers = failing _ _ _ e (λ r h. cases.one_of_them l (subst (λ (x : Bound). cases.AnyNameFails s x ns ts r) w h)) i.answers q })

pub case_binds : {s : Scope} {o : Option (List Name)} {ns : List Name} {ts : List Sort} {g : Place} {b b' : Bound} → o ≡ Some ns → b ≡ no_names → AreNamed {A = Unit {0}} s b ns ts (Ok tt) b' → IsCaseBound s (names_or_none o) ts g (Ok b')
case_binds {s = s} {ns = ns} {ts = ts} {g = g} {b' = b'} n w i = subst (λ (o : Option (List Name)). IsCaseBound s (names_or_none o) ts g (Ok b')) (sym n) (record { answers = subst (λ (x : Bound). cases.NamesBind s x ns ts b') w i.answers })

-- ---- what stands in front of cases
pub switch_memory : {s : Scope} {c : Context} {k k' : Known} {e : GhostExprTree} {cs : AssertionCaseTrees} {res : Result Switched RuleFault} → res ≡ Err faults.Memory → IsSwitch s c k e cs res k'
switch_memory q = record { answers = wanting _ _ q }

pub switch_fails : {s : Scope} {c : Context} {k k' : Known} {x : GhostExprTree} {cs : AssertionCaseTrees} {res : Result Switched RuleFault} (e : RuleFault) → IsSorted s c k x (Err e) k' → res ≡ Err e → IsSwitch s c k x cs res k'
switch_fails e i q = record { answers = failing _ _ _ e (λ r h. switched.switched h) i.answers q }

-- the datatype of what is switched over
pub over : {u : Sort} {o m : Option ℕ} (k : Known) (t : Sort) → u ≡ resolved k t → o ≡ datatype_in u → o ≡ m → datatype_in (resolved k t) ≡ m
over k t v w y = ap datatype_in (sym v) ∙ sym w ∙ y

pub switch_plain : {s : Scope} {c : Context} {k k₁ k' : Known} {x : GhostExprTree} {cs : AssertionCaseTrees} {t u : Sort} {o : Option ℕ} {p : Place} {e : RuleFault} → IsSorted s c k x (Ok t) k₁ → u ≡ resolved k₁ t → o ≡ datatype_in u → o ≡ None → p ≡ place_of x → e ≡ faults.Refused (refused rules.Typing p) → IsSwitch s c k x cs (Err e) k'
switch_plain {k₁ = k₁} i v w y z q = record { answers = refusing _ _ _ (q ∙ ap (λ p. faults.Refused (refused rules.Typing p)) z) (switched.no_datatype i.answers.2 (over k₁ _ v w y)) }

pub switch_other : {s : Scope} {c : Context} {k k₁ k' : Known} {x : GhostExprTree} {cs : AssertionCaseTrees} {t u : Sort} {o : Option ℕ} {d : ℕ} {p : Place} {y : Bool} {e : RuleFault} → IsSorted s c k x (Ok t) k₁ → u ≡ resolved k₁ t → o ≡ datatype_in u → o ≡ Some d → y ≡ are_cases s d cs → y ≡ false → p ≡ place_of x → e ≡ faults.Refused (refused rules.Typing p) → IsSwitch s c k x cs (Err e) k'
switch_other {k₁ = k₁} i v w y l m z q = record { answers = refusing _ _ _ (q ∙ ap (λ p. faults.Refused (refused rules.Typing p)) z) (switched.other_cases i.answers.2 (over k₁ _ v w y) (sym l ∙ m)) }

-- type parameters have no unknown sorts
pub parameters_below : (m n : ℕ) → EachUnknownOf (λ u. u < m) (row (parameter_sorts n))
parameters_below m zero = tt
parameters_below m (suc n) = joined (parameter_sorts n) (parameters_below m n)
  where
    joined : (ts : List Sort) → EachUnknownOf (λ u. u < m) (row ts) → EachUnknownOf (λ u. u < m) (row (ts ++ leaf (heads.Parameter n) ∷ []))
    joined [] b = (tt, tt)
    joined (t ∷ ts) b = (b.0, joined ts b.1)

pub switch_left : {s : Scope} {c : Context} {k k₁ j : Known} {x : GhostExprTree} {t : Sort} (n : ℕ) → IsSorted s c k x (Ok t) k₁ → j ≡ with_fresh k₁ n → IsBelow (length j) t
switch_left {k₁ = k₁} {j = j} {t = t} n i q =
    let long : length j ≡ length k₁ + n = ap length q ∙ fresh_length k₁ n in
    below_more (length k₁) (length j) (omega (arith, long)) t i.answers.1

pub switch_right : (k₁ j : Known) (n d first : ℕ) (w v : Sort) → first ≡ length k₁ → j ≡ with_fresh k₁ n → w ≡ datatype_sort d n → v ≡ instance first n w → IsBelow (length j) v
switch_right k₁ j n d first w v f q e a =
    let long : length j ≡ length k₁ + n = ap length q ∙ fresh_length k₁ n in
    let at : first + n ≡ length j = omega (arith, long, f) in
    subst (IsBelow (length j)) (sym (a ∙ ap (instance first n) e))
    (subst (λ (m : ℕ). IsBelow m (instance first n (datatype_sort d n))) at (instance_below first first n (omega arith) (datatype_sort d n) (parameters_below first n)))

-- the datatype at unknown sorts that is wanted
pub wanting_is : (s : Scope) (k₁ : Known) (n d first : ℕ) (w v : Sort) → n ≡ parameters_of s d → first ≡ length k₁ → w ≡ datatype_sort d n → v ≡ instance first n w → v ≡ unknown_datatype s (length k₁) d
wanting_is s k₁ n d first w v p f e a = a ∙ ap (instance first n) e ∙ ap (λ (m : ℕ). instance first m (datatype_sort d m)) p ∙ ap (λ (m : ℕ). instance m (parameters_of s d) (datatype_sort d (parameters_of s d))) f

pub switch_apart : {s : Scope} {c : Context} {k k₁ j k' : Known} {x : GhostExprTree} {cs : AssertionCaseTrees} {t u w v : Sort} {o : Option ℕ} {d n first : ℕ} {p : Place} {y : Bool} {res : Result Switched RuleFault} (e : RuleFault) → IsSorted s c k x (Ok t) k₁ → u ≡ resolved k₁ t → o ≡ datatype_in u → o ≡ Some d → y ≡ are_cases s d cs → y ≡ true → n ≡ parameters_of s d → w ≡ datatype_sort d n → first ≡ length k₁ → j ≡ with_fresh k₁ n → v ≡ instance first n w → p ≡ place_of x → IsEquated {A = Unit {0}} j t v p (Err e) k' → res ≡ Err e → IsSwitch s c k x cs res k'
switch_apart {s = s} {c = c} {k = k} {k₁ = k₁} {j = j} {k' = k'} {x = x} {cs = cs} {t = t} {w = w} {v = v} {d = d} {n = n} {first = first} {p = p} e i q a b l m g h f r o z y res =
    record {
      answers = failing _ _ (IsApart (with_fresh k₁ (parameters_of s d)) t (unknown_datatype s (length k₁) d) (place_of x)) e (λ r h. subst (switched.SwitchFails s c k x cs) (sym h.1) (switched.other_sorts i.answers.2 (over k₁ _ q a b) (sym l ∙ m) h.0))
          (subst (λ (g : Place). Tells (IsApart (with_fresh k₁ (parameters_of s d)) t (unknown_datatype s (length k₁) d) g) e) z
          (subst (λ (v : Sort). Tells (IsApart (with_fresh k₁ (parameters_of s d)) t v p) e) (wanting_is s k₁ n d first w v g f h o)
          (subst (λ (j : Known). Tells (IsApart j t v p) e) (r ∙ ap (with_fresh k₁) g) y.answers))) res;
    }

pub switch_passes : {s : Scope} {c : Context} {k k₁ j k' : Known} {x : GhostExprTree} {cs : AssertionCaseTrees} {t u w v : Sort} {o : Option ℕ} {d n first : ℕ} {p : Place} {y : Bool} → IsSorted s c k x (Ok t) k₁ → u ≡ resolved k₁ t → o ≡ datatype_in u → o ≡ Some d → y ≡ are_cases s d cs → y ≡ true → n ≡ parameters_of s d → w ≡ datatype_sort d n → first ≡ length k₁ → j ≡ with_fresh k₁ n → first + n < 2 ^ 64 → v ≡ instance first n w → IsEquated {A = Unit {0}} j t v p (Ok tt) k' → IsSwitch s c k x cs (Ok (record { first = first; count = n })) k'
switch_passes {s = s} {c = c} {k = k} {k₁ = k₁} {j = j} {k' = k'} {x = x} {cs = cs} {t = t} {w = w} {v = v} {d = d} {n = n} {first = first} i q a b l m g h f r z o y =
    let long : length j ≡ length k₁ + n = ap length r ∙ fresh_length k₁ n in
    let e = y.answers.long in let le = i.answers.0 in
    record {
      answers = (
        z,
        (
          omega (arith, long, e, le),
          subst (λ (m : ℕ). switched.Switches s c k x cs m n k') (sym f)
              (subst (λ (m : ℕ). switched.Switches s c k x cs (length k₁) m k') (sym g)
              (switched.switches i.answers.2 (over k₁ _ q a b) (sym l ∙ m)
              (subst (λ (v : Sort). Equates (with_fresh k₁ (parameters_of s d)) t v k') (wanting_is s k₁ n d first w v g f h o)
              (subst (λ (j : Known). Equates j t v k') (r ∙ ap (with_fresh k₁) g) y.answers)))),
        ),
      );
    }
