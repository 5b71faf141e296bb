-- Ghost expressions as terms, with their sorts as they are known in the end. Unknown sorts are numbered as they are where the expression is sorted: each use of something with type parameters takes as many numbers.
use Rattle.std.specs.Prelude.{ℕ, ◌+◌, pos, Bool, true, false, ◌&&◌, ◌||◌, nat_eq, if◌then◌else◌, List, [], ◌∷◌, Option, Some, None}
use Rattle.vf_closure.specs.Terms.{Other, Truth, Null, Choose, PointerSum, Term, term, no_terms, and_term, number}
use Rattle.vf_sorts.specs.Sorts.{Sort}
use Rattle.vf_sorts.specs.Unknowns.{instance}
use Rattle.vf_syntax.specs.GhostExprTree.{GhostExprTree, GhostExprTrees, no_ghost_expr, more_ghost_expr, GhostLinkTree, GhostLinkTrees, no_ghost_link, more_ghost_link}
use Rattle.vf_syntax.specs.GhostExprTree as tree
use Rattle.vf_syntax.specs.declared.operator.BinaryOperator.{BinaryOperator}
use Rattle.vf_syntax.specs.declared.operator.UnaryOperator.{UnaryOperator}
use Rattle.vf_sorting.specs.declared.scheme.Scheme.{Scheme}
use Rattle.vf_sorting.specs.Kinds.{bool_sort, int_sort, is_any, is_pointer, pointer_sort, value_sort}
use Rattle.vf_sorting.specs.Operators.{is_equality, is_null, moves, prefix_sort, result_sort}
use Rattle.vf_sorting.specs.Schemes.{application_scheme, name_scheme}
use Rattle.vf_terms.specs.Settings.{Setting, settled, kind_of_sort}
use Rattle.vf_terms.specs.Named.{term_of_name, declaration_seen, applied_head, applied_term, scheme_or_int}
use Rattle.vf_terms.specs.Operated.{over_two, operator_head, prefixed_term}
use Rattle.vf_terms.specs.declared.reading.Reading.{Reading}
use Rattle.vf_terms.specs.declared.reading.Pair.{Pair}
use Rattle.vf_terms.specs.declared.reading.Row.{Row}

-- a term of a sort, and the first number of unknown sorts that is not used yet
abbrev pub reading : Sort → Term → ℕ → Reading
reading t x u = record { sort = t; term = x; next = u }

-- the null pointer
abbrev pub null_term : Term
null_term = term Null no_terms

-- a number, or the null pointer where a pointer is wanted and it is 0
abbrev pub number_reading : Bool → ℕ → ℕ → Reading
number_reading wanted n u = if wanted && nat_eq n 0 then reading pointer_sort null_term u else reading int_sort (number (pos n)) u

-- the sort of `result`, where it may stand
abbrev pub sort_or_int : Option Sort → Sort
sort_or_int None = int_sort
sort_or_int (Some t) = t

-- a use of a name at what it may be used at
abbrev pub used_at : Setting → Scheme → Term → ℕ → Reading
used_at s g x u = reading (settled s (instance u g.parameters g.result)) x (u + g.parameters)

-- a name in front of arguments, which stand here as terms, at what it may be applied at
abbrev pub applied_at : Setting → Scheme → List ℕ → ℕ → ℕ → Row → Reading
applied_at s g f from u xs =
    reading (settled s (instance u g.parameters g.result)) (applied_term (applied_head s (kind_of_sort (settled s (instance u g.parameters g.result))) f from (declaration_seen s.scope f from)) xs.terms) xs.next

-- a choice between pointers, and one between two terms of a common sort
abbrev pub chosen_pointer : Reading → Reading → Reading → Reading
chosen_pointer c a b = reading pointer_sort (term (Choose Other) (and_term c.term (and_term a.term (and_term b.term no_terms)))) b.next

abbrev pub chosen : Reading → Pair → Reading
chosen c p = reading p.sort (term (Choose (kind_of_sort p.sort)) (and_term c.term (and_term p.first (and_term p.second no_terms)))) p.next

-- what an operator makes of a left and a right operand where it compares for equality, where it moves a pointer, and else
abbrev pub compared : BinaryOperator → Pair → Reading
compared o p = reading bool_sort (over_two (operator_head o) p.first p.second) p.next

abbrev pub moved : Reading → Reading → Reading
moved x y = reading pointer_sort (over_two PointerSum x.term y.term) y.next

abbrev pub joined : BinaryOperator → Reading → Reading → Reading
joined o x y = reading (result_sort o) (over_two (operator_head o) x.term y.term) y.next

-- one term more in front of a row
abbrev pub in_front : Reading → Row → Row
in_front x xs = record { terms = x.term ∷ xs.terms; next = xs.next }

-- a left operand that is or is not a `0` beside a right one: a `0` is the null pointer beside a pointer, and beside `any` both are of any sort
abbrev pub paired : Bool → Reading → Reading → Pair
paired z x y =
    if is_pointer y.sort && z then record { first = null_term; second = y.term; sort = y.sort; next = y.next }
    else if is_any x.sort || is_any y.sort then record { first = x.term; second = y.term; sort = value_sort; next = y.next }
    else record { first = x.term; second = y.term; sort = x.sort; next = y.next }

-- the same where the right one is a `0` or is not, and this is its own reading
abbrev pub beside_by : Bool → Bool → Reading → Reading → Pair
beside_by n z x y = if is_pointer x.sort && n then record { first = x.term; second = null_term; sort = x.sort; next = x.next } else paired z x y

-- no terms
abbrev pub no_row : ℕ → Row
no_row u = record { terms = []; next = u }

-- an operator in front of an operand
abbrev pub prefixed : UnaryOperator → Reading → Reading
prefixed o x = reading (prefix_sort o) (prefixed_term o x.term) x.next

-- what an operator makes of a left operand, which is or is not a `0`, and a right one with its own reading
abbrev pub linked : BinaryOperator → Bool → Bool → Reading → Reading → Reading
linked o n z x y = if is_equality o then compared o (beside_by n z x y) else if moves o x.sort then moved x y else joined o x y

abbrev mutual
  -- an expression as a term, where a pointer is or is not wanted
  pub read : Setting → Bool → ℕ → GhostExprTree → Reading
  read s wanted u (tree.number p n i) = number_reading wanted n u
  read s wanted u (tree.true_ p) = reading bool_sort (term (Truth true) no_terms) u
  read s wanted u (tree.false_ p) = reading bool_sort (term (Truth false) no_terms) u
  read s wanted u (tree.result p) = reading (settled s (sort_or_int s.context.result)) s.result u
  read s wanted u (tree.this_ p) = reading pointer_sort s.this_value u
  read s wanted u (tree.current_thread p) = reading int_sort s.thread u
  read s wanted u (tree.name_ p x) = used_at s (scheme_or_int (name_scheme s.scope p x)) (term_of_name s x p.file) u
  read s wanted u (tree.application p f xs) =
      let g = scheme_or_int (application_scheme s.scope s.context.own p f) in
      applied_at s g f p.file u (read_all s u g.parameters g.arguments (u + g.parameters) xs)
  read s wanted u (tree.parenthesized p a) = read s wanted u a
  read s true u (tree.conditional p c a b) =
      let t = read s false u c in
      let x = read s true t.next a in
      chosen_pointer t x (read s true x.next b)
  read s false u (tree.conditional p c a b) =
      let t = read s false u c in
      let x = read s false t.next a in
      chosen t (beside_by (is_null b) (is_null a) x (read s false x.next b))
  read s wanted u (tree.unary p o a) = prefixed o (read s false u a)
  read s wanted u (tree.chain p l a xs) = read_links s (is_null a) (read s false u a) xs

  -- operators and operands behind a left operand, which is or is not a `0`, from left to right
  pub read_links : Setting → Bool → Reading → GhostLinkTrees → Reading
  read_links s z x no_ghost_link = x
  read_links s z x (more_ghost_link l ls) = read_links s false (read_link s z x l) ls

  -- an operator and its operand behind a left operand
  pub read_link : Setting → Bool → Reading → GhostLinkTree → Reading
  read_link s z x (tree.ghost_link q o a) = linked o (is_null a) z x (read s false x.next a)

  -- arguments for parameters of some sorts, where unknown sorts from a number on stand for so many type parameters
  pub read_all : Setting → ℕ → ℕ → List Sort → ℕ → GhostExprTrees → Row
  read_all s first n [] u xs = no_row u
  read_all s first n (t ∷ ts) u no_ghost_expr = no_row u
  read_all s first n (t ∷ ts) u (more_ghost_expr x xs) =
      let y = read s (is_pointer (settled s (instance first n t))) u x in
      in_front y (read_all s first n ts y.next xs)
