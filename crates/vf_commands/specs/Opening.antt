-- What `open` declares, which `close` may stand, and which of the two are refused.
use Rattle.std.specs.Prelude.{◌≡◌, List, length, Option, Some, None}
use Rattle.vf_base.specs.declared.place.Place.{Place}
use Rattle.vf_base.specs.declared.refusal.Refusal.{Refusal}
use Rattle.vf_base.specs.declared.rule.Rule.TheVariants as rules
use Rattle.vf_sorts.specs.Sorts.{Sort}
use Rattle.vf_sorts.specs.Unknowns.{Known}
use Rattle.vf_declared.specs.declared.scope.Scope.{Scope}
use Rattle.vf_syntax.specs.declared.pattern.Amount.{Amount}
use Rattle.vf_syntax.specs.declared.pattern.Amount.TheVariants as amounts
use Rattle.vf_syntax.specs.declared.pattern.Pattern.{Pattern}
use Rattle.vf_syntax.specs.declared.pattern.Share.{Share}
use Rattle.vf_syntax.specs.declared.written.Name.{Name}
use Rattle.vf_sorting.specs.declared.context.Context.{Context}
use Rattle.vf_sorting.specs.Refusals.{refused}
use Rattle.vf_binding.specs.declared.bound.Bound.{Bound}
use Rattle.vf_binding.specs.declared.chunk_sorts.ChunkSorts.{ChunkSorts}
use Rattle.vf_binding.specs.Bound.{no_names}
use Rattle.vf_binding.specs.Chunks.{ArgumentsBind, IsTakenBelow, TakenFails, chunk_takes, with_arguments, with_heads}
use Rattle.vf_binding.specs.Patterns.{HeadsFail, HeadsPass}
use Rattle.vf_binding.specs.Shares.{ShareFails, SharePasses}

-- `open` may stand: its name makes chunks that take these arguments
pub data OpenBinds (s : Scope) (c : Context) : Known → Option Share → Name → List Pattern → Option (List Pattern) → Known → Bound → Type 0 where
  opened : {k k₁ k' : Known} {b₁ b' : Bound} {h : Option Share} {n : Name} {t : ChunkSorts} {xs : List Pattern} {ys : Option (List Pattern)} → SharePasses s c k no_names h k₁ b₁ → chunk_takes s k₁ n ≡ Some t → IsTakenBelow (length k₁) t → ArgumentsBind s c k₁ b₁ t xs ys k' b' → OpenBinds s c k h n xs ys k' b'

-- `open` is refused: its share, its name that makes no chunks, or its arguments
pub data OpenFails (s : Scope) (c : Context) : Known → Option Share → Name → List Pattern → Option (List Pattern) → Refusal → Type 0 where
  share : {k : Known} {h : Option Share} {n : Name} {xs : List Pattern} {ys : Option (List Pattern)} {r : Refusal} → ShareFails s c k no_names h r → OpenFails s c k h n xs ys r
  no_predicate : {k k₁ : Known} {b₁ : Bound} {h : Option Share} {n : Name} {xs : List Pattern} {ys : Option (List Pattern)} → SharePasses s c k no_names h k₁ b₁ → chunk_takes s k₁ n ≡ None → OpenFails s c k h n xs ys (refused rules.Name n.place)
  taken : {k k₁ : Known} {b₁ : Bound} {h : Option Share} {n : Name} {t : ChunkSorts} {xs : List Pattern} {ys : Option (List Pattern)} {r : Refusal} → SharePasses s c k no_names h k₁ b₁ → chunk_takes s k₁ n ≡ Some t → TakenFails s c k₁ b₁ t n xs ys r → OpenFails s c k h n xs ys r

-- the place of the `?` where how much a share is binds a name
abbrev pub amount_binds : Amount → Option Place
amount_binds (amounts.Binds p n) = Some p
amount_binds (amounts.Product f ls) = None

-- the same of a share that may be absent
abbrev pub share_binds : Option Share → Option Place
share_binds None = None
share_binds (Some h) = amount_binds h.amount

-- one or two pairs of parentheses have expressions alone, which pass for what a chunk takes
pub data ValuesPass (s : Scope) (c : Context) : Known → ChunkSorts → List Pattern → Option (List Pattern) → Known → Type 0 where
  one_pair : {k k' : Known} {ts : List Sort} {xs : List Pattern} → HeadsPass s c k ts xs k' → ValuesPass s c k (with_arguments ts) xs None k'
  two_pairs : {k k₁ k' : Known} {hs ts : List Sort} {xs ys : List Pattern} → HeadsPass s c k hs xs k₁ → HeadsPass s c k₁ ts ys k' → ValuesPass s c k (with_heads hs ts) xs (Some ys) k'

-- one or two pairs of parentheses behind a name at a place are refused where expressions alone may stand: by their count, or at the first expression that does not pass, `?x` or `_`
pub data ValuesFail (s : Scope) (c : Context) : Known → ChunkSorts → Place → List Pattern → Option (List Pattern) → Refusal → Type 0 where
  needless_pair : {k : Known} {ts : List Sort} {g : Place} {xs ys : List Pattern} → ValuesFail s c k (with_arguments ts) g xs (Some ys) (refused rules.Typing g)
  missing_pair : {k : Known} {hs ts : List Sort} {g : Place} {xs : List Pattern} → ValuesFail s c k (with_heads hs ts) g xs None (refused rules.Typing g)
  one_pair : {k : Known} {ts : List Sort} {g : Place} {xs : List Pattern} {r : Refusal} → HeadsFail s c k ts g xs r → ValuesFail s c k (with_arguments ts) g xs None r
  first_pair : {k : Known} {hs ts : List Sort} {g : Place} {xs ys : List Pattern} {r : Refusal} → HeadsFail s c k hs g xs r → ValuesFail s c k (with_heads hs ts) g xs (Some ys) r
  second_pair : {k k₁ : Known} {hs ts : List Sort} {g : Place} {xs ys : List Pattern} {r : Refusal} → HeadsPass s c k hs xs k₁ → HeadsFail s c k₁ ts g ys r → ValuesFail s c k (with_heads hs ts) g xs (Some ys) r

-- `close` may stand: its share binds no name, and its name makes chunks that take these expressions
pub data ClosePasses (s : Scope) (c : Context) : Known → Option Share → Name → List Pattern → Option (List Pattern) → Known → Type 0 where
  closed : {k k₁ k' : Known} {b₁ : Bound} {h : Option Share} {n : Name} {t : ChunkSorts} {xs : List Pattern} {ys : Option (List Pattern)} → share_binds h ≡ None → SharePasses s c k no_names h k₁ b₁ → chunk_takes s k₁ n ≡ Some t → IsTakenBelow (length k₁) t → ValuesPass s c k₁ t xs ys k' → ClosePasses s c k h n xs ys k'

-- `close` is refused: its share that binds a name or is refused itself, its name that makes no chunks, or its arguments
pub data CloseFails (s : Scope) (c : Context) : Known → Option Share → Name → List Pattern → Option (List Pattern) → Refusal → Type 0 where
  bound_share : {k : Known} {h : Option Share} {p : Place} {n : Name} {xs : List Pattern} {ys : Option (List Pattern)} → share_binds h ≡ Some p → CloseFails s c k h n xs ys (refused rules.Typing p)
  share : {k : Known} {h : Option Share} {n : Name} {xs : List Pattern} {ys : Option (List Pattern)} {r : Refusal} → share_binds h ≡ None → ShareFails s c k no_names h r → CloseFails s c k h n xs ys r
  no_predicate : {k k₁ : Known} {b₁ : Bound} {h : Option Share} {n : Name} {xs : List Pattern} {ys : Option (List Pattern)} → share_binds h ≡ None → SharePasses s c k no_names h k₁ b₁ → chunk_takes s k₁ n ≡ None → CloseFails s c k h n xs ys (refused rules.Name n.place)
  stray : {k k₁ : Known} {b₁ : Bound} {h : Option Share} {n : Name} {t : ChunkSorts} {xs : List Pattern} {ys : Option (List Pattern)} → share_binds h ≡ None → SharePasses s c k no_names h k₁ b₁ → chunk_takes s k₁ n ≡ Some t → (IsTakenBelow (length k₁) t → ⊥) → CloseFails s c k h n xs ys (refused rules.Typing n.place)
  values : {k k₁ : Known} {b₁ : Bound} {h : Option Share} {n : Name} {t : ChunkSorts} {xs : List Pattern} {ys : Option (List Pattern)} {r : Refusal} → share_binds h ≡ None → SharePasses s c k no_names h k₁ b₁ → chunk_takes s k₁ n ≡ Some t → IsTakenBelow (length k₁) t → ValuesFail s c k₁ t n.place xs ys r → CloseFails s c k h n xs ys r
