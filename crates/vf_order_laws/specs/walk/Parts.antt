-- What patterns, shares, chunks and cells come to, as functions: what is known and bound then, or the first refusal.
use Rattle.std.specs.Prelude.{ℕ, Bool, true, false, ◌&&◌, nat_eq, List, [], ◌∷◌, length, Option, Some, None, Result, Ok, Err}
use Rattle.vf_base.specs.declared.place.Place.{Place}
use Rattle.vf_base.specs.declared.refusal.Refusal.{Refusal}
use Rattle.vf_base.specs.declared.rule.Rule.TheVariants as rules
use Rattle.vf_sorts.specs.Sorts.{Sort, row}
use Rattle.vf_sorts.specs.Unknowns.{Known, all_numbered_below}
use Rattle.vf_declared.specs.declared.ctype.CType.{CType}
use Rattle.vf_declared.specs.declared.scope.Scope.{Scope}
use Rattle.vf_syntax.specs.declared.pattern.Amount.{Amount}
use Rattle.vf_syntax.specs.declared.pattern.Amount.TheVariants as amounts
use Rattle.vf_syntax.specs.declared.pattern.Factor.{Factor}
use Rattle.vf_syntax.specs.declared.pattern.Factor.TheVariants as factors
use Rattle.vf_syntax.specs.declared.pattern.FactorLink.{FactorLink}
use Rattle.vf_syntax.specs.declared.pattern.Pattern.{Pattern}
use Rattle.vf_syntax.specs.declared.pattern.Pattern.TheVariants as patterns
use Rattle.vf_syntax.specs.declared.pattern.Share.{Share}
use Rattle.vf_syntax.specs.declared.written.Name.{Name}
use Rattle.vf_syntax.specs.GhostExprTree.{GhostExprTree}
use Rattle.vf_syntax.specs.GhostExprTree as tree
use Rattle.vf_sorting.specs.declared.context.Context.{Context}
use Rattle.vf_sorting.specs.Kinds.{bool_sort, resolved}
use Rattle.vf_sorting.specs.Operators.{place_of}
use Rattle.vf_sorting.specs.Refusals.{refused}
use Rattle.vf_sorting.specs.Schemes.{sort_of_type}
use Rattle.vf_binding.specs.declared.bound.Bound.{Bound}
use Rattle.vf_binding.specs.declared.chunk_sorts.ChunkSorts.{ChunkSorts}
use Rattle.vf_binding.specs.Bound.{name_refusal, with_bound}
use Rattle.vf_binding.specs.Shares.{fraction_sort, is_factor}
use Rattle.vf_binding.specs.Chunks.{application_of, chunk_takes, is_known, is_plain, pointed_field, told_struct}
use Rattle.vf_order_laws.specs.walk.Following.{after, choose, pair, unless_refused}
use Rattle.vf_order_laws.specs.walk.Sorts.{Passed, passed, sort_of}

-- what is known and bound then, or a refusal
abbrev pub BoundTo : Type 0
BoundTo = Result (Known × Bound) Refusal

-- a pattern for a value of a sort: an expression, `?x` or `_`
abbrev pub pattern_of : Scope → Context → Known → Bound → Sort → Pattern → BoundTo
pattern_of s c k b w (patterns.Is e) = after (λ k'. Ok (pair k' b)) (passed s c k w (place_of e) e)
pattern_of s c k b w (patterns.Binds p n) = unless_refused (pair k (with_bound b n.text w)) (name_refusal s b n)
pattern_of s c k b w (patterns.Wild p) = Ok (pair k b)

-- patterns from left to right
abbrev pub patterns_of : Scope → Context → Known → Bound → List Sort → List Pattern → BoundTo
patterns_of s c k b [] xs = Ok (pair k b)
patterns_of s c k b (t ∷ ts) [] = Ok (pair k b)
patterns_of s c k b (t ∷ ts) (x ∷ xs) = after (λ r. patterns_of s c r.0 r.1 ts xs) (pattern_of s c k b t x)

-- patterns in parentheses behind what stands at a place
abbrev pub listed_at : Scope → Context → Known → Bound → List Sort → Place → List Pattern → BoundTo
listed_at s c k b ts g xs = choose (nat_eq (length ts) (length xs)) (patterns_of s c k b ts xs) (Err (refused rules.Typing g))

-- a pattern in the first of two pairs of parentheses, which binds nothing
abbrev pub head_of : Scope → Context → Known → Sort → Pattern → Passed
head_of s c k t (patterns.Is e) = passed s c k t (place_of e) e
head_of s c k t (patterns.Binds p n) = Err (refused rules.Typing p)
head_of s c k t (patterns.Wild p) = Err (refused rules.Typing p)

-- such patterns from left to right
abbrev pub heads_of : Scope → Context → Known → List Sort → List Pattern → Passed
heads_of s c k [] xs = Ok k
heads_of s c k (t ∷ ts) [] = Ok k
heads_of s c k (t ∷ ts) (x ∷ xs) = after (λ k₁. heads_of s c k₁ ts xs) (head_of s c k t x)

-- heads in parentheses behind what stands at a place
abbrev pub heads_at : Scope → Context → Known → List Sort → Place → List Pattern → Passed
heads_at s c k ts g xs = choose (nat_eq (length ts) (length xs)) (heads_of s c k ts xs) (Err (refused rules.Typing g))

-- a factor of a share, which divides what stands in front of it or not
abbrev pub factor_of : Scope → Context → Known → Bool → Factor → Passed
factor_of s c k d (factors.Number n i p) = choose (is_factor d n) (Ok k) (Err (refused rules.Typing p))
factor_of s c k d (factors.Name n) = after (λ k'. choose d (Err (refused rules.Typing n.place)) (Ok k')) (passed s c k fraction_sort n.place (tree.name_ n.place n.text))

-- factors from left to right
abbrev pub factors_of : Scope → Context → Known → List FactorLink → Passed
factors_of s c k [] = Ok k
factors_of s c k (l ∷ ls) = after (λ k₁. factors_of s c k₁ ls) (factor_of s c k l.divides l.factor)

-- what stands in the brackets of a share: `?f`, or a product of factors
abbrev pub amount_of : Scope → Context → Known → Bound → Amount → BoundTo
amount_of s c k b (amounts.Binds p n) = unless_refused (pair k (with_bound b n.text fraction_sort)) (name_refusal s b n)
amount_of s c k b (amounts.Product f ls) = after (λ k₁. after (λ k'. Ok (pair k' b)) (factors_of s c k₁ ls)) (factor_of s c k false f)

-- the share in front of a chunk, if there is one
abbrev pub share_of : Scope → Context → Known → Bound → Option Share → BoundTo
share_of s c k b None = Ok (pair k b)
share_of s c k b (Some h) = amount_of s c k b h.amount

-- parentheses by the sorts that are taken in the first of two, if there are two
abbrev pub by_heads : Scope → Context → Known → Bound → List Sort → Place → List Pattern → Option (List Sort) → Option (List Pattern) → BoundTo
by_heads s c k b ts g xs None None = listed_at s c k b ts g xs
by_heads s c k b ts g xs None (Some ys) = Err (refused rules.Typing g)
by_heads s c k b ts g xs (Some hs) None = Err (refused rules.Typing g)
by_heads s c k b ts g xs (Some hs) (Some ys) = after (λ k₁. listed_at s c k₁ b ts g ys) (heads_at s c k hs g xs)

-- what stands in the parentheses behind the name of a chunk
abbrev pub arguments_of : Scope → Context → Known → Bound → ChunkSorts → Place → List Pattern → Option (List Pattern) → BoundTo
arguments_of s c k b t g xs ys = by_heads s c k b t.arguments g xs t.heads ys

-- the unknown sorts in sorts that may be none have numbers below this
abbrev pub are_heads_below : ℕ → Option (List Sort) → Bool
are_heads_below n None = true
are_heads_below n (Some ts) = all_numbered_below n (row ts)

-- the unknown sorts in what a chunk takes have numbers below this
abbrev pub is_taken_below : ℕ → ChunkSorts → Bool
is_taken_below n t = are_heads_below n t.heads && all_numbered_below n (row t.arguments)

-- a chunk of known sorts, whose unknown ones have to be there
abbrev pub taken_of : Scope → Context → Known → Bound → ChunkSorts → Name → List Pattern → Option (List Pattern) → BoundTo
taken_of s c k b t n xs ys = choose (is_taken_below (length k) t) (arguments_of s c k b t n.place xs ys) (Err (refused rules.Typing n.place))

-- an application that is a truth value, since its name is that of no chunk
abbrev pub truth_of : Scope → Context → Known → Option Share → Name → List Pattern → Option (List Pattern) → Passed
truth_of s c k h n xs ys = choose (is_known s n) (choose (is_plain h xs ys) (passed s c k bool_sort n.place (application_of n xs)) (Err (refused rules.Typing n.place))) (Err (refused rules.Name n.place))

-- a chunk or a truth value, by what its name takes
abbrev pub by_takes : Scope → Context → Known → Bound → Option Share → Name → List Pattern → Option (List Pattern) → Option ChunkSorts → BoundTo
by_takes s c k b h n xs ys (Some t) = taken_of s c k b t n xs ys
by_takes s c k b h n xs ys None = after (λ k'. Ok (pair k' b)) (truth_of s c k h n xs ys)

-- a chunk: its share first, and then what its name takes
abbrev pub chunk_of : Scope → Context → Known → Bound → Option Share → Name → List Pattern → Option (List Pattern) → BoundTo
chunk_of s c k b h n xs ys = after (λ r. by_takes s c r.0 r.1 h n xs ys (chunk_takes s r.0 n)) (share_of s c k b h)

-- the value of a field, by the type of the field
abbrev pub by_field : Scope → Context → Known → Bound → Name → Pattern → Option CType → BoundTo
by_field s c k b f x None = Err (refused rules.Name f.place)
by_field s c k b f x (Some u) = pattern_of s c k b (sort_of_type u) x

-- the same by the struct that an expression points to
abbrev pub by_struct : Scope → Context → Known → Bound → GhostExprTree → Name → Pattern → Option ℕ → BoundTo
by_struct s c k b e f x None = Err (refused rules.Typing (place_of e))
by_struct s c k b e f x (Some n) = by_field s c k b f x (pointed_field s n f)

-- a cell: its share, the expression in front of the arrow, the field, and the pattern behind it
abbrev pub cell_of : Scope → Context → Known → Bound → Option Share → GhostExprTree → Name → Pattern → BoundTo
cell_of s c k b h e f x = after (λ r. after (λ v. by_struct s c v.1 r.1 e f x (told_struct (resolved v.1 v.0))) (sort_of s c r.0 e)) (share_of s c k b h)
