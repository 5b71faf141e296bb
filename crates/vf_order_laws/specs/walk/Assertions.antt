-- What assertions come to, as functions: what is declared and known then, or the first refusal.
use Rattle.std.specs.Prelude.{ℕ, Bool, nat_eq, List, [], ◌∷◌, length, Option, Some, None, Result, Ok, Err}
use Rattle.vf_base.specs.declared.place.Place.{Place}
use Rattle.vf_base.specs.declared.refusal.Refusal.{Refusal}
use Rattle.vf_base.specs.declared.rule.Rule.TheVariants as rules
use Rattle.vf_sorts.specs.Sorts.{Sort}
use Rattle.vf_sorts.specs.Unknowns.{Known}
use Rattle.vf_sorts.specs.Unifying.{unified}
use Rattle.vf_declared.specs.declared.scope.Scope.{Scope}
use Rattle.vf_syntax.specs.declared.written.Name.{Name}
use Rattle.vf_syntax.specs.GhostExprTree.{GhostExprTree}
use Rattle.vf_syntax.specs.AssertionTree.{PartTree, PartTrees, no_part, more_part, AssertionCaseTree, AssertionCaseTrees, no_assertion_case, more_assertion_case}
use Rattle.vf_syntax.specs.AssertionTree as tree
use Rattle.vf_sorting.specs.declared.context.Context.{Context}
use Rattle.vf_sorting.specs.Kinds.{bool_sort, resolved, with_fresh}
use Rattle.vf_sorting.specs.Operators.{place_of}
use Rattle.vf_sorting.specs.Refusals.{refused}
use Rattle.vf_binding.specs.declared.bound.Bound.{Bound}
use Rattle.vf_binding.specs.Bound.{name_refusal, no_names, with_bound, with_names}
use Rattle.vf_asserting.specs.Leaving.{count, left}
use Rattle.vf_asserting.specs.Cases.{are_cases, datatype_in, names_or_none}
use Rattle.vf_asserting.specs.Switches.{case_sorts, parameters_of, unknown_datatype}
use Rattle.vf_order_laws.specs.walk.Following.{after, choose, pair, unless_refused}
use Rattle.vf_order_laws.specs.walk.Sorts.{made_at, passed, sort_of}
use Rattle.vf_order_laws.specs.walk.Parts.{cell_of, chunk_of}

-- what is declared and known then, or a refusal
abbrev pub Given : Type 0
Given = Result (Scope × Known) Refusal

-- what is known then, beside what is declared
abbrev pub still : Scope → Known → Given
still s k = Ok (pair s k)

-- names that are bound behind the part
abbrev pub naming : Scope → Known × Bound → Given
naming s r = Ok (pair (with_names s r.1) r.0)

-- the locals since are gone
abbrev pub leaving : ℕ → Scope × Known → Given
leaving n r = Ok (pair (left n r.0) r.1)

-- the names of a case
abbrev pub names_of : Scope → Bound → List Name → List Sort → Result Bound Refusal
names_of s b [] ts = Ok b
names_of s b (n ∷ ns) [] = Ok b
names_of s b (n ∷ ns) (t ∷ ts) = after (λ u. names_of s (with_bound b n.text t) ns ts) (unless_refused (tt {0}) (name_refusal s b n))

-- the names of a case behind its constructor, as many as this has arguments
abbrev pub case_names : Scope → List Name → List Sort → Place → Result Bound Refusal
case_names s ns ts g = choose (nat_eq (length ns) (length ts)) (names_of s no_names ns ts) (Err (refused rules.Typing g))

-- which unknown sorts stand for type parameters in cases, and what is known then
abbrev pub Switched : Type 0
Switched = Result (ℕ × ℕ × Known) Refusal

-- three things together
abbrev pub triple : ℕ → ℕ → Known → ℕ × ℕ × Known
triple m n k = (m, n, k)

-- a sort that is switched over at a place, by its datatype and by whether the cases are right for one
abbrev pub by_datatype : Scope → Place → (ℕ → Bool) → Sort → Known → Option ℕ → Switched
by_datatype s p are t k None = Err (refused rules.Typing p)
by_datatype s p are t k (Some d) = choose (are d) (after (λ k'. Ok (triple (length k) (parameters_of s d) k')) (made_at p (unified (with_fresh k (parameters_of s d)) t (unknown_datatype s (length k) d)))) (Err (refused rules.Typing p))

-- an expression that is switched over: it is looked at first, and its datatype and the cases then
abbrev pub switch_of : Scope → Context → Known → GhostExprTree → (ℕ → Bool) → Switched
switch_of s c k e are = after (λ r. by_datatype s (place_of e) are r.0 r.1 (datatype_in (resolved r.1 r.0))) (sort_of s c k e)

abbrev mutual
  -- a part of an assertion; what a branch or a case declares is gone behind it
  pub part_of : Context → Scope → Known → PartTree → Given
  part_of c s k (tree.conditional p e xs ys) = after (λ k₁. after (λ r. after (leaving (count r.0)) (parts_of c r.0 r.1 ys)) (after (leaving (count s)) (parts_of c s k₁ xs))) (passed s c k bool_sort (place_of e) e)
  part_of c s k (tree.switch_ p e cs) = after (λ w. cases_of c s w.0 w.1 w.2 cs) (switch_of s c k e (λ d. are_cases s d cs))
  part_of c s k (tree.cell p h e f x) = after (naming s) (cell_of s c k no_names h e f x)
  part_of c s k (tree.chunk p h n xs ys) = after (naming s) (chunk_of s c k no_names h n xs ys)
  part_of c s k (tree.empty_ p) = still s k
  part_of c s k (tree.pure p e) = after (still s) (passed s c k bool_sort (place_of e) e)
  part_of c s k (tree.group p xs) = parts_of c s k xs

  -- the parts of an assertion, one after the other
  pub parts_of : Context → Scope → Known → PartTrees → Given
  parts_of c s k no_part = still s k
  parts_of c s k (more_part x xs) = after (λ r. parts_of c r.0 r.1 xs) (part_of c s k x)

  -- a case: its names, and then the assertion in which they stand
  pub case_of : Context → Scope → ℕ → ℕ → Known → AssertionCaseTree → Given
  case_of c s first n k (tree.assertion_case p x xs) = after (λ b. after (leaving (count s)) (parts_of c (with_names s b) k xs)) (case_names s (names_or_none x.names) (case_sorts s first n x) x.constructor.place)

  -- cases, one after the other
  pub cases_of : Context → Scope → ℕ → ℕ → Known → AssertionCaseTrees → Given
  cases_of c s first n k no_assertion_case = still s k
  cases_of c s first n k (more_assertion_case x xs) = after (λ r. cases_of c r.0 first n r.1 xs) (case_of c s first n k x)
