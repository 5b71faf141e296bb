-- What chunks are, which of them may stand in an assertion, and which are refused.
use Rattle.std.specs.Prelude.{◌≡◌, ℕ, Bool, true, false, not, ◌&&◌, ◌||◌, nat_eq, if◌then◌else◌, List, [], ◌∷◌, length, drop, codes, is_some, Option, Some, None}
use Rattle.std.specs.List.{starts_with}
use Rattle.vf_base.specs.declared.place.Place.{Place}
use Rattle.vf_base.specs.declared.refusal.Refusal.{Refusal}
use Rattle.vf_base.specs.declared.rule.Rule.TheVariants as rules
use Rattle.vf_sorts.specs.declared.sort.Head.TheVariants as heads
use Rattle.vf_sorts.specs.Sorts.{Sort, Sorts, no_sorts, and_sort, sort}
use Rattle.vf_sorts.specs.Unknowns.{AreBelow, Known}
use Rattle.vf_declared.specs.declared.ctype.CType.{CType}
use Rattle.vf_declared.specs.declared.declaration.Meaning.{Meaning}
use Rattle.vf_declared.specs.declared.declaration.Meaning.TheVariants as meanings
use Rattle.vf_declared.specs.declared.declaration.GhostDeclaration.{GhostDeclaration}
use Rattle.vf_declared.specs.declared.declaration.GhostDeclaration.TheVariants as ghosts
use Rattle.vf_declared.specs.declared.locals.Local.{Local}
use Rattle.vf_declared.specs.declared.scope.Scope.{Scope}
use Rattle.vf_declared.specs.Scopes.{declaration_of, field_of, ghost_of, later_predicate, local_of, tag_of}
use Rattle.vf_syntax.specs.declared.pattern.Pattern.{Pattern}
use Rattle.vf_syntax.specs.declared.pattern.Pattern.TheVariants as patterns
use Rattle.vf_syntax.specs.declared.pattern.Share.{Share}
use Rattle.vf_syntax.specs.declared.written.Name.{Name}
use Rattle.vf_syntax.specs.Assertions.{are_value_patterns}
use Rattle.vf_syntax.specs.GhostExprTree.{GhostExprTree, ghost_expr_list}
use Rattle.vf_syntax.specs.GhostExprTree as tree
use Rattle.vf_sorting.specs.declared.context.Context.{Context}
use Rattle.vf_sorting.specs.HasSort.{HasSort, Passes}
use Rattle.vf_sorting.specs.IsRefused.{Fails, IsRefused}
use Rattle.vf_sorting.specs.Kinds.{bool_sort, pointer_sort, resolved}
use Rattle.vf_sorting.specs.Operators.{place_of}
use Rattle.vf_sorting.specs.Refusals.{refused}
use Rattle.vf_sorting.specs.Schemes.{sort_of_local, sort_of_type, tests_type}
use Rattle.vf_binding.specs.declared.bound.Bound.{Bound}
use Rattle.vf_binding.specs.declared.chunk_sorts.ChunkSorts.{ChunkSorts}
use Rattle.vf_binding.specs.Patterns.{AllBind, Binds, FailsToBind, HeadsFail, HeadsPass, ListFails}
use Rattle.vf_binding.specs.Shares.{ShareFails, SharePasses}

-- sorts in a row, as a list
abbrev pub sorts_of : Sorts → List Sort
sorts_of no_sorts = []
sorts_of (and_sort t ts) = t ∷ sorts_of ts

-- the sorts of the arguments of one pair of parentheses
abbrev pub with_arguments : List Sort → ChunkSorts
with_arguments ts = record { heads = None; arguments = ts }

-- the sorts of two pairs of parentheses
abbrev pub with_heads : List Sort → List Sort → ChunkSorts
with_heads hs ts = record { heads = Some hs; arguments = ts }

-- what a value of a sort takes: one of a predicate sort takes arguments of the sorts that are its parts
abbrev pub value_takes : Sort → Option ChunkSorts
value_takes (sort heads.Predicate ts) = Some (with_arguments (sorts_of ts))
value_takes t = None

-- what a local takes, as far as is known
abbrev pub local_takes : Known → Option Local → Option ChunkSorts
local_takes k None = None
local_takes k (Some l) = value_takes (resolved k (sort_of_local l))

-- what is declared by annotations takes: a family its index in a pair of its own, a predicate constructor what it is applied to
abbrev pub ghost_takes : Option GhostDeclaration → Option ChunkSorts
ghost_takes (Some (ghosts.Predicate ts)) = Some (with_arguments ts)
ghost_takes (Some (ghosts.Family f)) = Some (with_heads (f.index ∷ []) f.arguments)
ghost_takes (Some (ghosts.PredicateConstructor c)) = Some (with_heads c.first c.second)
ghost_takes d = None

-- a name is `malloc_block_S` for a struct S that is seen from a file
abbrev pub names_block : Scope → List ℕ → ℕ → Bool
names_block s x file = starts_with nat_eq x (codes "malloc_block_") && is_some (tag_of s (drop 13 x) file)

-- `malloc_block_S` takes a pointer
abbrev pub block_takes : Scope → List ℕ → ℕ → Option ChunkSorts
block_takes s x file = if names_block s x file then Some (with_arguments (pointer_sort ∷ [])) else None

-- a predicate that stands later in the unit takes its arguments, where there is one
abbrev pub later_takes : Scope → List ℕ → ℕ → Option (List Sort) → Option ChunkSorts
later_takes s x file None = block_takes s x file
later_takes s x file (Some ts) = Some (with_arguments ts)

-- what a name of file level takes
abbrev pub declared_takes : Scope → List ℕ → ℕ → Option Meaning → Option ChunkSorts
declared_takes s x file None = later_takes s x file (later_predicate s x file)
declared_takes s x file (Some (meanings.Ghost n)) = ghost_takes (ghost_of s n)
declared_takes s x file (Some m) = None

-- the first of two, or the second where there is no first
abbrev pub first_of : {A : Type 0} → Option A → Option A → Option A
first_of (Some x) y = Some x
first_of None y = y

-- what a name takes as that of a chunk, where it is one: a local of a predicate sort hides a name of file level
abbrev pub chunk_takes : Scope → Known → Name → Option ChunkSorts
chunk_takes s k n = first_of (local_takes k (local_of s n.text)) (declared_takes s n.text n.place.file (declaration_of s n.text n.place.file))

-- the unknown sorts in sorts that may be none have numbers below this
abbrev pub AreHeadsBelow : ℕ → Option (List Sort) → Type 0
AreHeadsBelow n None = Unit {0}
AreHeadsBelow n (Some ts) = AreBelow n ts

-- the unknown sorts in what a chunk takes have numbers below this
abbrev pub IsTakenBelow : ℕ → ChunkSorts → Type 0
IsTakenBelow n t = AreHeadsBelow n t.heads × AreBelow n t.arguments

-- one or two pairs of parentheses are what a chunk takes: the first of two pairs binds nothing
pub data ArgumentsBind (s : Scope) (c : Context) : Known → Bound → ChunkSorts → List Pattern → Option (List Pattern) → Known → Bound → Type 0 where
  one_pair : {k k' : Known} {b b' : Bound} {ts : List Sort} {xs : List Pattern} → AllBind s c k b ts xs k' b' → ArgumentsBind s c k b (with_arguments ts) xs None k' b'
  two_pairs : {k k₁ k' : Known} {b b' : Bound} {hs ts : List Sort} {xs ys : List Pattern} → HeadsPass s c k hs xs k₁ → AllBind s c k₁ b ts ys k' b' → ArgumentsBind s c k b (with_heads hs ts) xs (Some ys) k' b'

-- one or two pairs of parentheses behind a name at a place are refused for what a chunk takes
pub data ArgumentsFail (s : Scope) (c : Context) : Known → Bound → ChunkSorts → Place → List Pattern → Option (List Pattern) → Refusal → Type 0 where
  needless_pair : {k : Known} {b : Bound} {ts : List Sort} {g : Place} {xs ys : List Pattern} → ArgumentsFail s c k b (with_arguments ts) g xs (Some ys) (refused rules.Typing g)
  missing_pair : {k : Known} {b : Bound} {hs ts : List Sort} {g : Place} {xs : List Pattern} → ArgumentsFail s c k b (with_heads hs ts) g xs None (refused rules.Typing g)
  one_pair : {k : Known} {b : Bound} {ts : List Sort} {g : Place} {xs : List Pattern} {r : Refusal} → ListFails s c k b ts g xs r → ArgumentsFail s c k b (with_arguments ts) g xs None r
  first_pair : {k : Known} {b : Bound} {hs ts : List Sort} {g : Place} {xs ys : List Pattern} {r : Refusal} → HeadsFail s c k hs g xs r → ArgumentsFail s c k b (with_heads hs ts) g xs (Some ys) r
  second_pair : {k k₁ : Known} {b : Bound} {hs ts : List Sort} {g : Place} {xs ys : List Pattern} {r : Refusal} → HeadsPass s c k hs xs k₁ → ListFails s c k₁ b ts g ys r → ArgumentsFail s c k b (with_heads hs ts) g xs (Some ys) r

-- a name of file level is declared, or is `is_T` for a function type T
abbrev pub is_known : Scope → Name → Bool
is_known s n = is_some (declaration_of s n.text n.place.file) || tests_type s n.text n.place.file

-- the expression that a pattern is, if it is one
abbrev pub value_of : Pattern → Option GhostExprTree
value_of (patterns.Is e) = Some e
value_of x = None

-- the expressions among patterns
abbrev pub values_of : List Pattern → List GhostExprTree
values_of [] = []
values_of (patterns.Is e ∷ xs) = e ∷ values_of xs
values_of (x ∷ xs) = values_of xs

-- a chunk is an application: it has no share, one pair of parentheses, and expressions alone in them
abbrev pub is_plain : Option Share → List Pattern → Option (List Pattern) → Bool
is_plain h xs ys = not (is_some h) && (not (is_some ys) && are_value_patterns xs)

-- a name over patterns as an application
abbrev pub application_of : Name → List Pattern → GhostExprTree
application_of n xs = tree.application n.place n.text (ghost_expr_list (values_of xs))

-- what a name takes has unknown sorts that nobody made, which is refused at the name, or the parentheses behind it are refused
pub data TakenFails (s : Scope) (c : Context) : Known → Bound → ChunkSorts → Name → List Pattern → Option (List Pattern) → Refusal → Type 0 where
  stray : {k : Known} {b : Bound} {t : ChunkSorts} {n : Name} {xs : List Pattern} {ys : Option (List Pattern)} → (IsTakenBelow (length k) t → ⊥) → TakenFails s c k b t n xs ys (refused rules.Typing n.place)
  arguments : {k : Known} {b : Bound} {t : ChunkSorts} {n : Name} {xs : List Pattern} {ys : Option (List Pattern)} {r : Refusal} → IsTakenBelow (length k) t → ArgumentsFail s c k b t n.place xs ys r → TakenFails s c k b t n xs ys r

-- a name that takes nothing is an application that is a truth value
pub data TruthPasses (s : Scope) (c : Context) : Known → Option Share → Name → List Pattern → Option (List Pattern) → Known → Type 0 where
  truth : {k k' : Known} {h : Option Share} {n : Name} {xs : List Pattern} {ys : Option (List Pattern)} → is_known s n ≡ true → is_plain h xs ys ≡ true → Passes s c k bool_sort n.place (application_of n xs) k' → TruthPasses s c k h n xs ys k'

-- a name that takes nothing is refused: it is not known, has the form of a chunk, or is no truth value
pub data TruthFails (s : Scope) (c : Context) : Known → Option Share → Name → List Pattern → Option (List Pattern) → Refusal → Type 0 where
  no_name : {k : Known} {h : Option Share} {n : Name} {xs : List Pattern} {ys : Option (List Pattern)} → is_known s n ≡ false → TruthFails s c k h n xs ys (refused rules.Name n.place)
  no_chunk : {k : Known} {h : Option Share} {n : Name} {xs : List Pattern} {ys : Option (List Pattern)} → is_known s n ≡ true → is_plain h xs ys ≡ false → TruthFails s c k h n xs ys (refused rules.Typing n.place)
  truth : {k : Known} {h : Option Share} {n : Name} {xs : List Pattern} {ys : Option (List Pattern)} {r : Refusal} → is_known s n ≡ true → is_plain h xs ys ≡ true → Fails s c k bool_sort n.place (application_of n xs) r → TruthFails s c k h n xs ys r

-- a chunk may stand: its name takes these arguments, or it is an application that is a truth value
pub data ChunkBinds (s : Scope) (c : Context) : Known → Bound → Option Share → Name → List Pattern → Option (List Pattern) → Known → Bound → Type 0 where
  chunk : {k k₁ k' : Known} {b b₁ b' : Bound} {h : Option Share} {n : Name} {t : ChunkSorts} {xs : List Pattern} {ys : Option (List Pattern)} → SharePasses s c k b h k₁ b₁ → chunk_takes s k₁ n ≡ Some t → IsTakenBelow (length k₁) t → ArgumentsBind s c k₁ b₁ t xs ys k' b' → ChunkBinds s c k b h n xs ys k' b'
  truth : {k k₁ k' : Known} {b b₁ : Bound} {h : Option Share} {n : Name} {xs : List Pattern} {ys : Option (List Pattern)} → SharePasses s c k b h k₁ b₁ → chunk_takes s k₁ n ≡ None → TruthPasses s c k₁ h n xs ys k' → ChunkBinds s c k b h n xs ys k' b₁

-- a chunk is refused
pub data ChunkFails (s : Scope) (c : Context) : Known → Bound → Option Share → Name → List Pattern → Option (List Pattern) → Refusal → Type 0 where
  share : {k : Known} {b : Bound} {h : Option Share} {n : Name} {xs : List Pattern} {ys : Option (List Pattern)} {r : Refusal} → ShareFails s c k b h r → ChunkFails s c k b h n xs ys r
  chunk : {k k₁ : Known} {b b₁ : Bound} {h : Option Share} {n : Name} {t : ChunkSorts} {xs : List Pattern} {ys : Option (List Pattern)} {r : Refusal} → SharePasses s c k b h k₁ b₁ → chunk_takes s k₁ n ≡ Some t → TakenFails s c k₁ b₁ t n xs ys r → ChunkFails s c k b h n xs ys r
  truth : {k k₁ : Known} {b b₁ : Bound} {h : Option Share} {n : Name} {xs : List Pattern} {ys : Option (List Pattern)} {r : Refusal} → SharePasses s c k b h k₁ b₁ → chunk_takes s k₁ n ≡ None → TruthFails s c k₁ h n xs ys r → ChunkFails s c k b h n xs ys r

-- the struct whose fields a pointer is known to point to, if it is one that tells it
abbrev pub told_struct : Sort → Option ℕ
told_struct (sort (heads.Pointer told) ts) = told
told_struct t = None

-- the type of a field of the struct that a value of a sort points to
abbrev pub pointed_field : Scope → ℕ → Name → Option CType
pointed_field s n f = field_of s n f.text f.place.file

-- a cell may stand: the pointer tells its struct, which has the field, and the content is of the field's sort
pub data CellBinds (s : Scope) (c : Context) : Known → Bound → Option Share → GhostExprTree → Name → Pattern → Known → Bound → Type 0 where
  cell : {k k₁ k₂ k' : Known} {b b₁ b' : Bound} {h : Option Share} {e : GhostExprTree} {t : Sort} {n : ℕ} {f : Name} {u : CType} {x : Pattern} → SharePasses s c k b h k₁ b₁ → HasSort s c k₁ e t k₂ → told_struct (resolved k₂ t) ≡ Some n → pointed_field s n f ≡ Some u → Binds s c k₂ b₁ (sort_of_type u) x k' b' → CellBinds s c k b h e f x k' b'

-- a cell is refused
pub data CellFails (s : Scope) (c : Context) : Known → Bound → Option Share → GhostExprTree → Name → Pattern → Refusal → Type 0 where
  share : {k : Known} {b : Bound} {h : Option Share} {e : GhostExprTree} {f : Name} {x : Pattern} {r : Refusal} → ShareFails s c k b h r → CellFails s c k b h e f x r
  pointer : {k k₁ : Known} {b b₁ : Bound} {h : Option Share} {e : GhostExprTree} {f : Name} {x : Pattern} {r : Refusal} → SharePasses s c k b h k₁ b₁ → IsRefused s c k₁ e r → CellFails s c k b h e f x r
  no_struct : {k k₁ k₂ : Known} {b b₁ : Bound} {h : Option Share} {e : GhostExprTree} {t : Sort} {f : Name} {x : Pattern} → SharePasses s c k b h k₁ b₁ → HasSort s c k₁ e t k₂ → told_struct (resolved k₂ t) ≡ None → CellFails s c k b h e f x (refused rules.Typing (place_of e))
  no_field : {k k₁ k₂ : Known} {b b₁ : Bound} {h : Option Share} {e : GhostExprTree} {t : Sort} {n : ℕ} {f : Name} {x : Pattern} → SharePasses s c k b h k₁ b₁ → HasSort s c k₁ e t k₂ → told_struct (resolved k₂ t) ≡ Some n → pointed_field s n f ≡ None → CellFails s c k b h e f x (refused rules.Name f.place)
  content : {k k₁ k₂ : Known} {b b₁ : Bound} {h : Option Share} {e : GhostExprTree} {t : Sort} {n : ℕ} {f : Name} {u : CType} {x : Pattern} {r : Refusal} → SharePasses s c k b h k₁ b₁ → HasSort s c k₁ e t k₂ → told_struct (resolved k₂ t) ≡ Some n → pointed_field s n f ≡ Some u → FailsToBind s c k₂ b₁ (sort_of_type u) x r → CellFails s c k b h e f x r
