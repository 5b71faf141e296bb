-- Which patterns stand for values of a sort, from what is known of unknown sorts and the names that are bound in the same part to what is known and bound then; and which are refused.
use Rattle.std.specs.Prelude.{◌≡◌, ◌≢◌, List, [], ◌∷◌, length, Some, None}
use Rattle.vf_base.specs.declared.place.Place.{Place}
use Rattle.vf_base.specs.declared.refusal.Refusal.{Refusal}
use Rattle.vf_base.specs.declared.rule.Rule.TheVariants as rules
use Rattle.vf_sorts.specs.Sorts.{Sort}
use Rattle.vf_sorts.specs.Unknowns.{Known}
use Rattle.vf_declared.specs.declared.scope.Scope.{Scope}
use Rattle.vf_syntax.specs.declared.pattern.Pattern.{Pattern}
use Rattle.vf_syntax.specs.declared.pattern.Pattern.TheVariants as patterns
use Rattle.vf_syntax.specs.declared.written.Name.{Name}
use Rattle.vf_syntax.specs.GhostExprTree.{GhostExprTree}
use Rattle.vf_sorting.specs.declared.context.Context.{Context}
use Rattle.vf_sorting.specs.HasSort.{Passes}
use Rattle.vf_sorting.specs.IsRefused.{Fails}
use Rattle.vf_sorting.specs.Operators.{place_of}
use Rattle.vf_sorting.specs.Refusals.{refused}
use Rattle.vf_binding.specs.declared.bound.Bound.{Bound}
use Rattle.vf_binding.specs.Bound.{name_refusal, with_bound}

-- a pattern stands for values of a sort: an expression passes for it, a name is bound at it, and `_` stands for every value
pub data Binds (s : Scope) (c : Context) : Known → Bound → Sort → Pattern → Known → Bound → Type 0 where
  value : {k k' : Known} {b : Bound} {w : Sort} {e : GhostExprTree} → Passes s c k w (place_of e) e k' → Binds s c k b w (patterns.Is e) k' b
  named : {k : Known} {b : Bound} {w : Sort} {p : Place} {n : Name} → name_refusal s b n ≡ None → Binds s c k b w (patterns.Binds p n) k (with_bound b n.text w)
  anything : {k : Known} {b : Bound} {w : Sort} {p : Place} → Binds s c k b w (patterns.Wild p) k b

-- a pattern is refused for values of a sort
pub data FailsToBind (s : Scope) (c : Context) : Known → Bound → Sort → Pattern → Refusal → Type 0 where
  value : {k : Known} {b : Bound} {w : Sort} {e : GhostExprTree} {r : Refusal} → Fails s c k w (place_of e) e r → FailsToBind s c k b w (patterns.Is e) r
  named : {k : Known} {b : Bound} {w : Sort} {p : Place} {n : Name} {r : Refusal} → name_refusal s b n ≡ Some r → FailsToBind s c k b w (patterns.Binds p n) r

-- patterns stand for values of these sorts, one for each, from left to right
pub data AllBind (s : Scope) (c : Context) : Known → Bound → List Sort → List Pattern → Known → Bound → Type 0 where
  none_bind : {k : Known} {b : Bound} → AllBind s c k b [] [] k b
  one_binds : {k k₁ k' : Known} {b b₁ b' : Bound} {t : Sort} {ts : List Sort} {x : Pattern} {xs : List Pattern} → Binds s c k b t x k₁ b₁ → AllBind s c k₁ b₁ ts xs k' b' → AllBind s c k b (t ∷ ts) (x ∷ xs) k' b'

-- the first of some patterns that is refused
pub data AnyFailsToBind (s : Scope) (c : Context) : Known → Bound → List Sort → List Pattern → Refusal → Type 0 where
  this_pattern : {k : Known} {b : Bound} {t : Sort} {ts : List Sort} {x : Pattern} {xs : List Pattern} {r : Refusal} → FailsToBind s c k b t x r → AnyFailsToBind s c k b (t ∷ ts) (x ∷ xs) r
  later_pattern : {k k₁ : Known} {b b₁ : Bound} {t : Sort} {ts : List Sort} {x : Pattern} {xs : List Pattern} {r : Refusal} → Binds s c k b t x k₁ b₁ → AnyFailsToBind s c k₁ b₁ ts xs r → AnyFailsToBind s c k b (t ∷ ts) (x ∷ xs) r

-- patterns in the parentheses behind what stands at a place are refused: by their count there, or one of them
pub data ListFails (s : Scope) (c : Context) : Known → Bound → List Sort → Place → List Pattern → Refusal → Type 0 where
  other_count : {k : Known} {b : Bound} {ts : List Sort} {g : Place} {xs : List Pattern} → length ts ≢ length xs → ListFails s c k b ts g xs (refused rules.Typing g)
  one_of_them : {k : Known} {b : Bound} {ts : List Sort} {g : Place} {xs : List Pattern} {r : Refusal} → length ts ≡ length xs → AnyFailsToBind s c k b ts xs r → ListFails s c k b ts g xs r

-- a pattern that may bind nothing passes for a sort: it is an expression that does
pub data HeadPasses (s : Scope) (c : Context) : Known → Sort → Pattern → Known → Type 0 where
  value : {k k' : Known} {t : Sort} {e : GhostExprTree} → Passes s c k t (place_of e) e k' → HeadPasses s c k t (patterns.Is e) k'

-- a pattern that may bind nothing is refused: an expression that does not pass, `?x` or `_`
pub data HeadFails (s : Scope) (c : Context) : Known → Sort → Pattern → Refusal → Type 0 where
  value : {k : Known} {t : Sort} {e : GhostExprTree} {r : Refusal} → Fails s c k t (place_of e) e r → HeadFails s c k t (patterns.Is e) r
  named : {k : Known} {t : Sort} {p : Place} {n : Name} → HeadFails s c k t (patterns.Binds p n) (refused rules.Typing p)
  anything : {k : Known} {t : Sort} {p : Place} → HeadFails s c k t (patterns.Wild p) (refused rules.Typing p)

-- patterns that may bind nothing pass for these sorts, one for each, from left to right
pub data HeadsPass (s : Scope) (c : Context) : Known → List Sort → List Pattern → Known → Type 0 where
  none_pass : {k : Known} → HeadsPass s c k [] [] k
  one_passes : {k k₁ k' : Known} {t : Sort} {ts : List Sort} {x : Pattern} {xs : List Pattern} → HeadPasses s c k t x k₁ → HeadsPass s c k₁ ts xs k' → HeadsPass s c k (t ∷ ts) (x ∷ xs) k'

-- the first of some patterns that may bind nothing and is refused
pub data AnyHeadFails (s : Scope) (c : Context) : Known → List Sort → List Pattern → Refusal → Type 0 where
  this_head : {k : Known} {t : Sort} {ts : List Sort} {x : Pattern} {xs : List Pattern} {r : Refusal} → HeadFails s c k t x r → AnyHeadFails s c k (t ∷ ts) (x ∷ xs) r
  later_head : {k k₁ : Known} {t : Sort} {ts : List Sort} {x : Pattern} {xs : List Pattern} {r : Refusal} → HeadPasses s c k t x k₁ → AnyHeadFails s c k₁ ts xs r → AnyHeadFails s c k (t ∷ ts) (x ∷ xs) r

-- patterns that may bind nothing, in the parentheses behind what stands at a place, are refused: by their count there, or one of them
pub data HeadsFail (s : Scope) (c : Context) : Known → List Sort → Place → List Pattern → Refusal → Type 0 where
  other_count : {k : Known} {ts : List Sort} {g : Place} {xs : List Pattern} → length ts ≢ length xs → HeadsFail s c k ts g xs (refused rules.Typing g)
  one_of_them : {k : Known} {ts : List Sort} {g : Place} {xs : List Pattern} {r : Refusal} → length ts ≡ length xs → AnyHeadFails s c k ts xs r → HeadsFail s c k ts g xs r
