-- An expression is refused nowhere exactly where no two operands are out of order.
use Rattle.std.proofs.Common.{◌≡◌, Bool, true, false, if◌then◌else◌, List, [], ◌∷◌, ◌++◌, Option, Some, None, refl}
use Rattle.std.specs.Option.{option_or}
use Rattle.vf_base.specs.declared.place.Place.{Place}
use Rattle.vf_syntax.specs.ExprTree.{ExprTree, ExprTrees, no_expr, more_expr, LinkTree, LinkTrees, no_link, more_link, PostfixTree, PostfixTrees, no_postfix, more_postfix}
use Rattle.vf_syntax.specs.ExprTree as tree
use Rattle.vf_order.specs.Marks.{Mark, clash, marks, one_link_marks, part_marks}
use Rattle.vf_order.specs.Order.{orders, unordered, unordered_all, unordered_link, unordered_links, unordered_part, unordered_parts}
use Rattle.vf_order.specs.Ordered.{IsOrdered, AreArgumentsOrdered, IsLinkOrdered, AreLinksOrdered, IsPartOrdered, ArePartsOrdered}
use Rattle.vf_order.proofs.Pairs.{Ties, ties_one, ties_more, clash_in_order, in_order_clash, clash_fails, no_clash, pair_in_order, pair_fails}

-- a choice that is absent has no first
no_first : {A : Type 0} (x y : Option A) → option_or x y ≡ None → x ≡ None
no_first None y e = refl
no_first (Some a) y e = e

-- nor a second
no_second : {A : Type 0} (x y : Option A) → option_or x y ≡ None → y ≡ None
no_second None y e = e
no_second (Some a) y e = absurd cc

-- a choice of what is absent
no_choice : {A : Type 0} (x y : Option A) → x ≡ None → y ≡ None → option_or x y ≡ None
no_choice None y d e = e
no_choice (Some a) y d e = d

-- what is absent where a test fails
where_it_fails : (b : Bool) (x : Option Place) → (if b then None else x) ≡ None → b ≡ false → x ≡ None
where_it_fails true x e f = absurd cc
where_it_fails false x e f = e

-- the other way round
unless_it_holds : (b : Bool) (x : Option Place) → (b ≡ false → x ≡ None) → (if b then None else x) ≡ None
unless_it_holds true x f = refl
unless_it_holds false x f = f refl

mutual
  -- what is refused nowhere is ordered
  pub ordered : (e : ExprTree) → unordered e ≡ None → IsOrdered e
  ordered (tree.number p a b) h = tt
  ordered (tree.character p a) h = tt
  ordered (tree.true_ p) h = tt
  ordered (tree.false_ p) h = tt
  ordered (tree.name_ p a) h = tt
  ordered (tree.parenthesized p a) h = ordered a h
  ordered (tree.malloc p a) h = tt
  ordered (tree.malloc_ints p a b) h = ordered a h
  ordered (tree.postfix p a b) h = (ordered a (no_first (unordered a) (unordered_parts p (marks a) b) h), ordered_parts p (marks a) b (no_second (unordered a) (unordered_parts p (marks a) b) h))
  ordered (tree.unary p a b) h = ordered b h
  ordered (tree.cast p a b) h = ordered b h
  ordered (tree.chain p a b c) h = (ordered b (no_first (unordered b) (unordered_links (marks b) c) h), ordered_links (marks b ∷ []) (marks b) (ties_one (marks b)) c (no_second (unordered b) (unordered_links (marks b) c) h))
  ordered (tree.conditional p a b c) h =
      let rest = no_second (unordered a) (option_or (unordered b) (unordered c)) h in
      (ordered a (no_first (unordered a) (option_or (unordered b) (unordered c)) h), ordered b (no_first (unordered b) (unordered c) rest), ordered c (no_second (unordered b) (unordered c) rest))

  -- the same of arguments
  ordered_all : (before : List (List Mark)) (ms : List Mark) → Ties before ms → (xs : ExprTrees) → unordered_all ms xs ≡ None → AreArgumentsOrdered before xs
  ordered_all before ms t no_expr h = tt
  ordered_all before ms t (more_expr x xs) h =
      let one = no_first (option_or (clash ms (marks x)) (unordered x)) (unordered_all (ms ++ marks x) xs) h in
      let rest = no_second (option_or (clash ms (marks x)) (unordered x)) (unordered_all (ms ++ marks x) xs) h in
      (clash_in_order before ms t (marks x) (no_first (clash ms (marks x)) (unordered x) one), ordered x (no_second (clash ms (marks x)) (unordered x) one), ordered_all (marks x ∷ before) (ms ++ marks x) (ties_more before ms (marks x) t) xs rest)

  -- the same of an operand
  ordered_link : (before : List (List Mark)) (ms : List Mark) → Ties before ms → (x : LinkTree) → unordered_link ms x ≡ None → IsLinkOrdered before x
  ordered_link before ms t (tree.link p a b) h =
      let one = no_first (if orders a then None else clash ms (marks b)) (unordered b) h in
      (λ f. clash_in_order before ms t (marks b) (where_it_fails (orders a) (clash ms (marks b)) one f), ordered b (no_second (if orders a then None else clash ms (marks b)) (unordered b) h))

  -- the same of operands
  ordered_links : (before : List (List Mark)) (ms : List Mark) → Ties before ms → (xs : LinkTrees) → unordered_links ms xs ≡ None → AreLinksOrdered before xs
  ordered_links before ms t no_link h = tt
  ordered_links before ms t (more_link x xs) h =
      let one = no_first (unordered_link ms x) (unordered_links (ms ++ one_link_marks x) xs) h in
      let rest = no_second (unordered_link ms x) (unordered_links (ms ++ one_link_marks x) xs) h in
      (ordered_link before ms t x one, ordered_links (one_link_marks x ∷ before) (ms ++ one_link_marks x) (ties_more before ms (one_link_marks x) t) xs rest)

  -- the same of a read or call
  ordered_part : (ms : List Mark) (x : PostfixTree) → unordered_part ms x ≡ None → IsPartOrdered ms x
  ordered_part ms (tree.field_ q a) h = tt
  ordered_part ms (tree.index_ q a) h = (pair_in_order ms (marks a) (clash_fails ms (marks a) (no_first (clash ms (marks a)) (unordered a) h)), ordered a (no_second (clash ms (marks a)) (unordered a) h))
  ordered_part ms (tree.call_ q a) h = ordered_all (ms ∷ []) ms (ties_one ms) a h

  -- the same of reads and calls
  ordered_parts : (p : Place) (ms : List Mark) (xs : PostfixTrees) → unordered_parts p ms xs ≡ None → ArePartsOrdered p ms xs
  ordered_parts p ms no_postfix h = tt
  ordered_parts p ms (more_postfix x xs) h = (ordered_part ms x (no_first (unordered_part ms x) (unordered_parts p (part_marks p ms x) xs) h), ordered_parts p (part_marks p ms x) xs (no_second (unordered_part ms x) (unordered_parts p (part_marks p ms x) xs) h))

mutual
  -- what is ordered is refused nowhere
  pub accepted : (e : ExprTree) → IsOrdered e → unordered e ≡ None
  accepted (tree.number p a b) h = refl
  accepted (tree.character p a) h = refl
  accepted (tree.true_ p) h = refl
  accepted (tree.false_ p) h = refl
  accepted (tree.name_ p a) h = refl
  accepted (tree.parenthesized p a) h = accepted a h
  accepted (tree.malloc p a) h = refl
  accepted (tree.malloc_ints p a b) h = accepted a h
  accepted (tree.postfix p a b) h = no_choice (unordered a) (unordered_parts p (marks a) b) (accepted a h.0) (accepted_parts p (marks a) b h.1)
  accepted (tree.unary p a b) h = accepted b h
  accepted (tree.cast p a b) h = accepted b h
  accepted (tree.chain p a b c) h = no_choice (unordered b) (unordered_links (marks b) c) (accepted b h.0) (accepted_links (marks b ∷ []) (marks b) (ties_one (marks b)) c h.1)
  accepted (tree.conditional p a b c) h = no_choice (unordered a) (option_or (unordered b) (unordered c)) (accepted a h.0) (no_choice (unordered b) (unordered c) (accepted b h.1) (accepted c h.2))

  -- the same of arguments
  accepted_all : (before : List (List Mark)) (ms : List Mark) → Ties before ms → (xs : ExprTrees) → AreArgumentsOrdered before xs → unordered_all ms xs ≡ None
  accepted_all before ms t no_expr h = refl
  accepted_all before ms t (more_expr x xs) h =
      let one = no_choice (clash ms (marks x)) (unordered x) (in_order_clash before ms t (marks x) h.0) (accepted x h.1) in
      no_choice (option_or (clash ms (marks x)) (unordered x)) (unordered_all (ms ++ marks x) xs) one (accepted_all (marks x ∷ before) (ms ++ marks x) (ties_more before ms (marks x) t) xs h.2)

  -- the same of an operand
  accepted_link : (before : List (List Mark)) (ms : List Mark) → Ties before ms → (x : LinkTree) → IsLinkOrdered before x → unordered_link ms x ≡ None
  accepted_link before ms t (tree.link p a b) h =
      let one = unless_it_holds (orders a) (clash ms (marks b)) (λ f. in_order_clash before ms t (marks b) (h.0 f)) in
      no_choice (if orders a then None else clash ms (marks b)) (unordered b) one (accepted b h.1)

  -- the same of operands
  accepted_links : (before : List (List Mark)) (ms : List Mark) → Ties before ms → (xs : LinkTrees) → AreLinksOrdered before xs → unordered_links ms xs ≡ None
  accepted_links before ms t no_link h = refl
  accepted_links before ms t (more_link x xs) h = no_choice (unordered_link ms x) (unordered_links (ms ++ one_link_marks x) xs) (accepted_link before ms t x h.0) (accepted_links (one_link_marks x ∷ before) (ms ++ one_link_marks x) (ties_more before ms (one_link_marks x) t) xs h.1)

  -- the same of a read or call
  accepted_part : (ms : List Mark) (x : PostfixTree) → IsPartOrdered ms x → unordered_part ms x ≡ None
  accepted_part ms (tree.field_ q a) h = refl
  accepted_part ms (tree.index_ q a) h = no_choice (clash ms (marks a)) (unordered a) (no_clash ms (marks a) (pair_fails ms (marks a) h.0)) (accepted a h.1)
  accepted_part ms (tree.call_ q a) h = accepted_all (ms ∷ []) ms (ties_one ms) a h

  -- the same of reads and calls
  accepted_parts : (p : Place) (ms : List Mark) (xs : PostfixTrees) → ArePartsOrdered p ms xs → unordered_parts p ms xs ≡ None
  accepted_parts p ms no_postfix h = refl
  accepted_parts p ms (more_postfix x xs) h = no_choice (unordered_part ms x) (unordered_parts p (part_marks p ms x) xs) (accepted_part ms x h.0) (accepted_parts p (part_marks p ms x) xs h.1)
