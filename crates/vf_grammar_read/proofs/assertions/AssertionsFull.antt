-- Assertions that are spelled are read.
use Rattle.std.proofs.Common.{◌≡◌, ℕ, zero, suc, ◌+◌, ◌≤◌, true, false, not, ◌||◌, List, [], ◌∷◌, ◌++◌, length, Some, refl, sym, subst, ap, ◌∙◌, arith}
use Rattle.vf_lexer.specs.declared.punctuator.Punctuator.TheVariants as punctuators
use Rattle.vf_lexer.specs.declared.token.Token.{Token}
use Rattle.vf_syntax.specs.declared.side.Side.TheVariants.{Ghost}
use Rattle.vf_syntax.specs.AssertionTree.{PartTree, PartTrees, no_part, more_part, part_list}
use Rattle.vf_syntax.specs.Walks.{provided, mark, head_has, is_mark}
use Rattle.vf_syntax.specs.Assertions.{part, assertion, more_parts, part_nesting, parts_nesting, is_conditional, is_empty, is_conditional_last}
use Rattle.vf_cursor.specs.Parsing.{Parser, ok, many_at, item_step}
use Rattle.vf_cursor.proofs.Facts.{ok_pair}
use Rattle.vf_cursor.proofs.Loop.{many_stops}
use Rattle.vf_parse_assertion.specs.declared.contents.Content.{Content}
use Rattle.vf_parse_assertion.specs.declared.contents.Content.TheVariants as contents
use Rattle.vf_parse_assertion.specs.Contents.{parts_of}
use Rattle.vf_parse_assertion.specs.Parsers.{other_part_at, part_step, several_at, joined_at, content_at, assertion_at}
use Rattle.vf_parse_assertion.specs.Laws.{assertion_walk, assertion_depth}
use Rattle.vf_grammar_read.proofs.expressions.Same.{some_same, no_true, both}
use Rattle.vf_grammar_read.proofs.expressions.Fronts.{gone, mark_front}
use Rattle.vf_grammar_read.proofs.expressions.Taken.{mark_read}
use Rattle.vf_grammar_read.proofs.expressions.Begins.{met}
use Rattle.vf_grammar_read.proofs.expressions.Eaten.{mark_eats}
use Rattle.vf_grammar_read.proofs.chunks.ChunksFull.{Stops}
use Rattle.vf_grammar_read.proofs.assertions.Ends.{Ended, and_stops}
use Rattle.vf_grammar_read.proofs.assertions.Eaten.{part_eats}
use Rattle.vf_grammar_read.proofs.assertions.Contents.{part_items, piece_of, content_of, piece_back, content_back}
use Rattle.vf_grammar_read.proofs.assertions.Operands.{InsideFull}
use Rattle.vf_grammar_read.proofs.assertions.Parts.{piece_full}

append_none : {A : Type 0} (xs : List A) → xs ++ [] ≡ xs
append_none [] = refl
append_none (x ∷ xs) = ap (λ (ys : List _). x ∷ ys) (append_none xs)

append_one : {A : Type 0} (xs : List A) (x : A) (ys : List A) → (xs ++ x ∷ []) ++ ys ≡ xs ++ (x ∷ ys)
append_one [] x ys = refl
append_one (z ∷ xs) x ys = ap (λ (zs : List _). z ∷ zs) (append_one xs x ys)

-- behind parts stands an `&*&` or what ends them all
more_stops : (xs : PartTrees) (ts rest : List Token) → more_parts xs ts ≡ Some rest → Stops rest → Stops ts
more_stops no_part ts rest h s = subst Stops (some_same (sym h)) s
more_stops (more_part x xs) ts rest h s = let m = gone (mark Ghost punctuators.SeparatingAnd ts) h in and_stops ts m.0 m.1

-- where a conditional is the last part, no part comes behind it
last_here : (x : PartTree) (xs : PartTrees) (ts rest : List Token) → is_conditional_last (more_part x xs) ≡ true → more_parts xs ts ≡ Some rest → Ended rest → is_conditional x ≡ true → head_has (is_mark Ghost punctuators.SeparatingAnd) ts ≡ false
last_here x no_part ts rest last h end c = subst (λ us. head_has (is_mark Ghost punctuators.SeparatingAnd) us ≡ false) (some_same (sym h)) end.no_more
last_here x (more_part y ys) ts rest last h end c =
    let k = both (not (is_conditional x) || is_empty (more_part y ys)) (is_conditional_last (more_part y ys)) last in
    no_true (subst (λ b. (not b || false) ≡ true) c k.0)

-- of the parts behind one the last alone may be a conditional
last_tail : (x : PartTree) (xs : PartTrees) → is_conditional_last (more_part x xs) ≡ true → is_conditional_last xs ≡ true
last_tail x xs last = (both (not (is_conditional x) || is_empty xs) (is_conditional_last xs) last).1

-- the next part is read
other_full : (d : ℕ) (a : Parser Content) → InsideFull d a → (x : PartTree) (xs : PartTrees) (ts inside mid rest : List Token) → mark Ghost punctuators.SeparatingAnd ts ≡ Some inside → part x inside ≡ Some mid → more_parts xs mid ≡ Some rest
    → part_nesting x ≤ d → is_conditional_last (more_part x xs) ≡ true → Ended rest → other_part_at d a ts ≡ ok x mid
unfolding other_part_at
other_full d a ha x xs ts inside mid rest m h others deep last end =
    let back = piece_back x inside mid h in
    rw ((mark_read Ghost _ ts inside m).1, piece_full d a ha x inside mid h deep (more_stops xs mid rest others end.stops) (last_here x xs mid rest last others end)) (λ i. ok (back i) mid)

-- parts behind others are read
more_full : (d : ℕ) (a : Parser Content) → InsideFull d a → (n : ℕ) (xs : PartTrees) (front : List PartTree) (ts rest : List Token) → more_parts xs ts ≡ Some rest → parts_nesting xs ≤ d → is_conditional_last xs ≡ true → Ended rest → length ts ≤ n
    → many_at n (is_mark Ghost punctuators.SeparatingAnd) (item_step (other_part_at d a)) front ts ≡ ok (front ++ part_items xs) rest
more_full d a ha n no_part front ts rest h deep last end len =
    let same : ts ≡ rest = some_same h in
    let all = sym (append_none front) in
    many_stops (is_mark Ghost punctuators.SeparatingAnd) (item_step (other_part_at d a)) n front ts (subst (λ us. head_has (is_mark Ghost punctuators.SeparatingAnd) us ≡ false) (sym same) end.no_more) ∙ (λ j. ok (all j) (same j))
more_full d a ha zero (more_part x xs) front ts rest h deep last end len =
    let m = gone (mark Ghost punctuators.SeparatingAnd ts) h in
    absurd (omega (arith, len, (mark_eats Ghost punctuators.SeparatingAnd).eat ts m.0 m.1))
more_full d a ha (suc n) (more_part x xs) front ts rest h deep last end len =
    let m = gone (mark Ghost punctuators.SeparatingAnd ts) h in
    let q = gone (part x m.0) m.2 in
    let one = other_full d a ha x xs ts m.0 q.0 rest m.1 q.1 q.2 (omega (arith, deep)) last end in
    let others = more_full d a ha n xs (front ++ x ∷ []) q.0 rest q.2 (omega (arith, deep)) (last_tail x xs last) end (omega (arith, len, (mark_eats Ghost punctuators.SeparatingAnd).eat ts m.0 m.1, (part_eats x).eat m.0 q.0 q.1)) in
    let all = append_one front x (part_items xs) in
    rw ((mark_front Ghost _ ts m.0 m.1).marks_are punctuators.SeparatingAnd, one) (others ∙ (λ j. ok (all j) rest))

-- two parts or more, behind the first
several_full : (d : ℕ) (a : Parser Content) → InsideFull d a → (x y : PartTree) (ys : PartTrees) (ts rest : List Token) → more_parts (more_part y ys) ts ≡ Some rest → parts_nesting (more_part y ys) ≤ d → is_conditional_last (more_part y ys) ≡ true → Ended rest
    → several_at d a x ts ≡ ok (contents.Several (x ∷ y ∷ part_items ys)) rest
unfolding several_at part_step
several_full d a ha x y ys ts rest h deep last end =
    let m = gone (mark Ghost punctuators.SeparatingAnd ts) h in
    let q = gone (part y m.0) m.2 in
    let one = other_full d a ha y ys ts m.0 q.0 rest m.1 q.1 q.2 (omega (arith, deep)) last end in
    let others = more_full d a ha (length q.0) ys (x ∷ y ∷ []) q.0 rest q.2 (omega (arith, deep)) (last_tail y ys last) end (omega arith) in
    rw (one, others) refl

joined_full : (d : ℕ) (a : Parser Content) → InsideFull d a → (xs : PartTrees) (ts rest : List Token) → assertion xs ts ≡ Some rest → parts_nesting xs ≤ d → Ended rest → joined_at d a ts ≡ ok (content_of xs) rest
unfolding joined_at
joined_full d a ha no_part ts rest h deep end = absurd cc
joined_full d a ha (more_part x no_part) ts rest h deep end =
    let g = gone (provided (is_conditional_last (more_part x no_part)) ts) h in
    let w = met _ ts g.0 g.1 in
    let q = gone (part x g.0) g.2 in
    let walk : part x ts ≡ Some q.0 = subst (λ us. part x us ≡ Some q.0) (sym w.1) q.1 in
    let same : q.0 ≡ rest = some_same q.2 in
    let read = piece_full d a ha x ts q.0 walk (omega (arith, deep)) (more_stops no_part q.0 rest q.2 end.stops) (last_here x no_part q.0 rest w.0 q.2 end) in
    rw (read, subst (λ us. head_has (is_mark Ghost punctuators.SeparatingAnd) us ≡ false) (sym same) end.no_more) (λ i. ok (contents.Lone (piece_of x)) (same i))
joined_full d a ha (more_part x (more_part y ys)) ts rest h deep end =
    let g = gone (provided (is_conditional_last (more_part x (more_part y ys))) ts) h in
    let w = met _ ts g.0 g.1 in
    let q = gone (part x g.0) g.2 in
    let m = gone (mark Ghost punctuators.SeparatingAnd q.0) q.2 in
    let walk : part x ts ≡ Some q.0 = subst (λ us. part x us ≡ Some q.0) (sym w.1) q.1 in
    let read = piece_full d a ha x ts q.0 walk (omega (arith, deep)) (more_stops (more_part y ys) q.0 rest q.2 end.stops) (last_here x (more_part y ys) q.0 rest w.0 q.2 end) in
    rw (read, (mark_front Ghost _ q.0 m.0 m.1).marks_are punctuators.SeparatingAnd, piece_back x ts q.0 walk) (several_full d a ha x y ys q.0 rest q.2 (omega (arith, deep)) (last_tail x (more_part y ys) w.0) end)

mutual
  unfolding content_at

  pub content_full : (d : ℕ) → InsideFull d (content_at d)
  content_full zero xs ts rest h deep end = absurd (omega (arith, deep))
  content_full (suc d) xs ts rest h deep end = joined_full d (content_at d) (content_full d) xs ts rest h (omega (arith, deep)) end

listed : (zs : List PartTree) → part_items (part_list zs) ≡ zs
listed [] = refl
listed (z ∷ zs) = ap (λ (ws : List PartTree). z ∷ ws) (listed zs)

items_back : (xs ys : List PartTree) → part_list xs ≡ part_list ys → xs ≡ ys
items_back xs ys e = sym (listed xs) ∙ ap part_items e ∙ listed ys

pub assertion_full : (d : ℕ) (xs : List PartTree) (ts rest : List Token) → assertion_walk xs ts ≡ Some rest → assertion_depth xs ≤ d → Ended rest → assertion_at d ts ≡ ok xs rest
unfolding assertion_at
assertion_full d xs ts rest h deep end =
    let same = items_back (parts_of (content_of (part_list xs))) xs (content_back (part_list xs) ts rest h) in
    rw (content_full d (part_list xs) ts rest h deep end) (λ i. ok (same i) rest)

pub one_assertion : (xs ys : List PartTree) (ts rest : List Token) → assertion_walk xs ts ≡ Some rest → assertion_walk ys ts ≡ Some rest → Ended rest → xs ≡ ys
one_assertion xs ys ts rest h k end =
    let one = assertion_full (assertion_depth xs + assertion_depth ys) xs ts rest h (omega arith) end in
    let two = assertion_full (assertion_depth xs + assertion_depth ys) ys ts rest k (omega arith) end in
    (ok_pair xs ys rest rest (sym one ∙ two)).0
