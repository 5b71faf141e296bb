-- Loops over lists: what is kept, and what is left of the list, come to the same after each item.
use Rattle.std.proofs.Common.{◌≡◌, ℕ, ◌+◌, ◌≤◌, List, length, drop, Option, Some, None, slice_get, sym, ap, ◌∙◌}
use Rattle.std.specs.Option.{option_or}
use Rattle.vf_base.specs.declared.place.Place.{Place}
use Rattle.vf_syntax.specs.declared.item.Item.{Item}
use Rattle.vf_syntax.specs.ExprTree.{ExprTree, expr_list, LinkTree, link_list, PostfixTree, postfix_list}
use Rattle.vf_syntax.specs.StmtTree.{StmtTree, stmt_list}
use Rattle.vf_order.specs.declared.seen.Seen.{Seen}
use Rattle.vf_order.specs.declared.seen.Parts.{Parts}
use Rattle.vf_order.specs.Walked.{seen_of, beside, all_seen, link_seen, links_seen, operands_seen, part_seen, parts_seen}
use Rattle.vf_order.specs.Statements.{unordered_stmt, unordered_stmts, unordered_item, first_unordered}
use Rattle.vf_order.proofs.Lists.{left_at, left_none, left_end}
use Rattle.vf_order.proofs.Sums.{or_assoc, or_none, paired}

-- one more argument
pub all_more : (xs : List ExprTree) (i : ℕ) (x : ExprTree) (s k t whole : Seen) → slice_get xs i ≡ Some x → k ≡ seen_of x → t ≡ beside s k → all_seen s (expr_list (drop i xs)) ≡ whole → all_seen t (expr_list (drop (i + 1) xs)) ≡ whole
all_more xs i x s k t whole h hk ht kept = ap (λ a. all_seen a (expr_list (drop (i + 1) xs))) (ht ∙ ap (beside s) hk) ∙ sym (ap (λ ys. all_seen s (expr_list ys)) (left_at xs i x h)) ∙ kept

-- no argument stands at an index
pub all_none : (xs : List ExprTree) (i : ℕ) (s : Seen) → slice_get xs i ≡ None → all_seen s (expr_list (drop i xs)) ≡ s
all_none xs i s h = ap (λ ys. all_seen s (expr_list ys)) (left_none xs i h)

-- the list is done
pub all_end : (xs : List ExprTree) (i : ℕ) (s : Seen) → length xs ≤ i → all_seen s (expr_list (drop i xs)) ≡ s
all_end xs i s h = ap (λ ys. all_seen s (expr_list ys)) (left_end xs i h)

-- one more operand
pub links_more : (xs : List LinkTree) (i : ℕ) (x : LinkTree) (s t whole : Seen) → slice_get xs i ≡ Some x → t ≡ link_seen s x → links_seen s (link_list (drop i xs)) ≡ whole → links_seen t (link_list (drop (i + 1) xs)) ≡ whole
links_more xs i x s t whole h ht kept = ap (λ a. links_seen a (link_list (drop (i + 1) xs))) ht ∙ sym (ap (λ ys. links_seen s (link_list ys)) (left_at xs i x h)) ∙ kept

-- no operand stands at an index
pub links_none : (xs : List LinkTree) (i : ℕ) (s : Seen) → slice_get xs i ≡ None → links_seen s (link_list (drop i xs)) ≡ s
links_none xs i s h = ap (λ ys. links_seen s (link_list ys)) (left_none xs i h)

-- the list is done
pub links_end : (xs : List LinkTree) (i : ℕ) (s : Seen) → length xs ≤ i → links_seen s (link_list (drop i xs)) ≡ s
links_end xs i s h = ap (λ ys. links_seen s (link_list ys)) (left_end xs i h)

-- one more read or call
pub parts_more : (p : Place) (xs : List PostfixTree) (i : ℕ) (x : PostfixTree) (s : Parts) (o : Seen) (t whole : Parts) → slice_get xs i ≡ Some x → o ≡ operands_seen s.whole x → t ≡ paired o (part_seen p s.whole o x) → parts_seen p s (postfix_list (drop i xs)) ≡ whole → parts_seen p t (postfix_list (drop (i + 1) xs)) ≡ whole
parts_more p xs i x s o t whole h ho ht kept = ap (λ a. parts_seen p a (postfix_list (drop (i + 1) xs))) (ht ∙ ap (λ a. paired a (part_seen p s.whole a x)) ho) ∙ sym (ap (λ ys. parts_seen p s (postfix_list ys)) (left_at xs i x h)) ∙ kept

-- no read or call stands at an index
pub parts_none : (p : Place) (xs : List PostfixTree) (i : ℕ) (s : Parts) → slice_get xs i ≡ None → parts_seen p s (postfix_list (drop i xs)) ≡ s
parts_none p xs i s h = ap (λ ys. parts_seen p s (postfix_list ys)) (left_none xs i h)

-- the list is done
pub parts_end : (p : Place) (xs : List PostfixTree) (i : ℕ) (s : Parts) → length xs ≤ i → parts_seen p s (postfix_list (drop i xs)) ≡ s
parts_end p xs i s h = ap (λ ys. parts_seen p s (postfix_list ys)) (left_end xs i h)

-- one more statement
pub stmts_more : (xs : List StmtTree) (i : ℕ) (x : StmtTree) (s k t whole : Option Place) → slice_get xs i ≡ Some x → k ≡ unordered_stmt x → t ≡ option_or s k → option_or s (unordered_stmts (stmt_list (drop i xs))) ≡ whole → option_or t (unordered_stmts (stmt_list (drop (i + 1) xs))) ≡ whole
stmts_more xs i x s k t whole h hk ht kept = ap (λ a. option_or a (unordered_stmts (stmt_list (drop (i + 1) xs)))) (ht ∙ ap (option_or s) hk) ∙ or_assoc s (unordered_stmt x) (unordered_stmts (stmt_list (drop (i + 1) xs))) ∙ sym (ap (λ ys. option_or s (unordered_stmts (stmt_list ys))) (left_at xs i x h)) ∙ kept

-- no statement stands at an index
pub stmts_none : (xs : List StmtTree) (i : ℕ) (s : Option Place) → slice_get xs i ≡ None → option_or s (unordered_stmts (stmt_list (drop i xs))) ≡ s
stmts_none xs i s h = ap (λ ys. option_or s (unordered_stmts (stmt_list ys))) (left_none xs i h) ∙ or_none s

-- the list is done
pub stmts_end : (xs : List StmtTree) (i : ℕ) (s : Option Place) → length xs ≤ i → option_or s (unordered_stmts (stmt_list (drop i xs))) ≡ s
stmts_end xs i s h = ap (λ ys. option_or s (unordered_stmts (stmt_list ys))) (left_end xs i h) ∙ or_none s

-- one more item
pub items_more : (xs : List Item) (i : ℕ) (x : Item) (s k t whole : Option Place) → slice_get xs i ≡ Some x → k ≡ unordered_item x → t ≡ option_or s k → option_or s (first_unordered (drop i xs)) ≡ whole → option_or t (first_unordered (drop (i + 1) xs)) ≡ whole
items_more xs i x s k t whole h hk ht kept = ap (λ a. option_or a (first_unordered (drop (i + 1) xs))) (ht ∙ ap (option_or s) hk) ∙ or_assoc s (unordered_item x) (first_unordered (drop (i + 1) xs)) ∙ sym (ap (λ ys. option_or s (first_unordered ys)) (left_at xs i x h)) ∙ kept

-- no item stands at an index
pub items_none : (xs : List Item) (i : ℕ) (s : Option Place) → slice_get xs i ≡ None → option_or s (first_unordered (drop i xs)) ≡ s
items_none xs i s h = ap (λ ys. option_or s (first_unordered ys)) (left_none xs i h) ∙ or_none s

-- the list is done
pub items_end : (xs : List Item) (i : ℕ) (s : Option Place) → length xs ≤ i → option_or s (first_unordered (drop i xs)) ≡ s
items_end xs i s h = ap (λ ys. option_or s (first_unordered ys)) (left_end xs i h) ∙ or_none s
