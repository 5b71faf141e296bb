-- What is kept of expressions is what is kept of their marks and refusals.
use Rattle.std.proofs.Common.{◌≡◌, Bool, true, false, ◌||◌, if◌then◌else◌, List, [], ◌∷◌, ◌++◌, append_assoc, Option, Some, None, refl, sym, ap, ◌∙◌}
use Rattle.std.proofs.lemmas.List.{append-nil}
use Rattle.std.specs.Option.{option_or}
use Rattle.vf_base.specs.declared.place.Place.{Place}
use Rattle.vf_syntax.specs.declared.operator.AssignmentOperator.{AssignmentOperator}
use Rattle.vf_syntax.specs.declared.operator.Level.{Level}
use Rattle.vf_syntax.specs.declared.simple.Simple.{Simple}
use Rattle.vf_syntax.specs.declared.simple.Simple.TheVariants as simples
use Rattle.vf_syntax.specs.ExprTree.{ExprTree, ExprTrees, no_expr, more_expr, LinkTree, LinkTrees, no_link, more_link, PostfixTree, PostfixTrees, no_postfix, more_postfix}
use Rattle.vf_syntax.specs.ExprTree as tree
use Rattle.vf_order.specs.declared.seen.Seen.{Seen}
use Rattle.vf_order.specs.declared.seen.Parts.{Parts}
use Rattle.vf_order.specs.Marks.{Mark, call, read, holds_call, first_place, clash, marks, all_marks, one_link_marks, link_marks, operand_marks, part_marks, parts_marks}
use Rattle.vf_order.specs.Order.{orders, unordered, unordered_all, unordered_link, unordered_links, unordered_part, unordered_parts}
use Rattle.vf_order.specs.Walked.{seen, seen_of, clash_seen, behind, beside, all_seen, link_seen, links_seen, operands_seen, part_seen, further, parts_seen}
use Rattle.vf_order.specs.Statements.{last_operand_marks, target_marks, left_marks, unordered_simple}

-- a choice of choices
pub or_assoc : {A : Type 0} (x y z : Option A) → option_or (option_or x y) z ≡ option_or x (option_or y z)
or_assoc None y z = refl
or_assoc (Some a) y z = refl

-- nothing behind a choice
pub or_none : {A : Type 0} (x : Option A) → option_or x None ≡ x
or_none None = refl
or_none (Some a) = refl

-- one of two is true, and one of three
bool_assoc : (a b c : Bool) → ((a || b) || c) ≡ (a || (b || c))
bool_assoc true b c = refl
bool_assoc false b c = refl

-- calls of two lists
pub holds_call_joined : (ms ns : List Mark) → holds_call (ms ++ ns) ≡ (holds_call ms || holds_call ns)
holds_call_joined [] ns = refl
holds_call_joined (call p ∷ ms) ns = refl
holds_call_joined (read p ∷ ms) ns = holds_call_joined ms ns

-- the first of two lists
first_place_joined : (ms ns : List Mark) → first_place (ms ++ ns) ≡ option_or (first_place ms) (first_place ns)
first_place_joined [] ns = refl
first_place_joined (m ∷ ms) ns = refl

-- what is kept says where operands clash
clash_is : (ms ns : List Mark) (r s : Option Place) → clash_seen (seen ms r) (seen ns s) ≡ clash ms ns
clash_is [] ns r s = refl
clash_is (m ∷ ms) ns r s = refl

-- operands whose order is set
pub behind_is : (ms ns : List Mark) (r s : Option Place) → behind (seen ms r) (seen ns s) ≡ seen (ms ++ ns) (option_or r s)
behind_is ms ns r s = let a = holds_call_joined ms ns in let b = first_place_joined ms ns in rw (a, b) refl

-- operands whose order is not set
pub beside_is : (ms ns : List Mark) (r s : Option Place) → beside (seen ms r) (seen ns s) ≡ seen (ms ++ ns) (option_or r (option_or (clash ms ns) s))
beside_is ms ns r s = let a = holds_call_joined ms ns in let b = first_place_joined ms ns in let c = clash_is ms ns r s in rw (a, b, sym c) refl

-- arguments behind operands
pub all_is : (ms : List Mark) (r : Option Place) (xs : ExprTrees) → all_seen (seen ms r) xs ≡ seen (ms ++ all_marks xs) (option_or r (unordered_all ms xs))
all_is ms r no_expr = rw (append-nil ms, or_none r) refl
all_is ms r (more_expr x xs) =
    let one = beside_is ms (marks x) r (unordered x) in
    let rest = all_is (ms ++ marks x) (option_or r (option_or (clash ms (marks x)) (unordered x))) xs in
    let joined = append_assoc ms (marks x) (all_marks xs) in
    let choice = or_assoc r (option_or (clash ms (marks x)) (unordered x)) (unordered_all (ms ++ marks x) xs) in
    ap (λ s. all_seen s xs) one ∙ rest ∙ rw (joined, choice) refl

-- an operator and its operand behind operands
pub link_is : (ms : List Mark) (r : Option Place) (x : LinkTree) → link_seen (seen ms r) x ≡ seen (ms ++ one_link_marks x) (option_or r (unordered_link ms x))
link_is ms r (tree.link p a b) = by_order (orders a) ms (marks b) r (unordered b)
  where
    by_order : (o : Bool) (ms ns : List Mark) (r s : Option Place) → (if o then behind (seen ms r) (seen ns s) else beside (seen ms r) (seen ns s)) ≡ seen (ms ++ ns) (option_or r (option_or (if o then None else clash ms ns) s))
    by_order true ms ns r s = behind_is ms ns r s
    by_order false ms ns r s = beside_is ms ns r s

-- operators and their operands behind operands
pub links_is : (ms : List Mark) (r : Option Place) (xs : LinkTrees) → links_seen (seen ms r) xs ≡ seen (ms ++ link_marks xs) (option_or r (unordered_links ms xs))
links_is ms r no_link = rw (append-nil ms, or_none r) refl
links_is ms r (more_link x xs) =
    let one = link_is ms r x in
    let rest = links_is (ms ++ one_link_marks x) (option_or r (unordered_link ms x)) xs in
    let joined = append_assoc ms (one_link_marks x) (link_marks xs) in
    let choice = or_assoc r (unordered_link ms x) (unordered_links (ms ++ one_link_marks x) xs) in
    ap (λ s. links_seen s xs) one ∙ rest ∙ rw (joined, choice) refl

-- the operands of a read or call
operands_is : (ms : List Mark) (r : Option Place) (x : PostfixTree) → operands_seen (seen ms r) x ≡ seen (operand_marks ms x) (option_or r (unordered_part ms x))
operands_is ms r (tree.field_ q a) = rw (or_none r) refl
operands_is ms r (tree.index_ q a) = beside_is ms (marks a) r (unordered a)
operands_is ms r (tree.call_ q a) = all_is ms r a

-- a read between two lists is no call
read_between : (q : Place) (ms ns : List Mark) → holds_call (ms ++ read q ∷ ns) ≡ holds_call (ms ++ ns)
read_between q [] ns = refl
read_between q (call p ∷ ms) ns = refl
read_between q (read p ∷ ms) ns = read_between q ms ns

-- the first of a list and a read behind it
first_between : (q : Place) (ms ns : List Mark) → first_place (ms ++ read q ∷ ns) ≡ option_or (first_place ms) (Some q)
first_between q [] ns = refl
first_between q (m ∷ ms) ns = refl

-- a read or call
part_is : (p : Place) (ms : List Mark) (r s : Option Place) (x : PostfixTree) → part_seen p (seen ms r) (seen (operand_marks ms x) s) x ≡ seen (part_marks p ms x) s
part_is p ms r s (tree.field_ q a) =
    let calls = read_between q ms [] ∙ ap holds_call (append-nil ms) in
    let firsts = first_between q ms [] in
    λ i. record { has_call = sym calls i; first = sym firsts i; refusal = s }
part_is p ms r s (tree.index_ q a) =
    let calls = read_between q ms (marks a) in
    let firsts = first_between q ms (marks a) in
    λ i. record { has_call = sym calls i; first = sym firsts i; refusal = s }
part_is p ms r s (tree.call_ q a) = refl

-- operands and a whole
abbrev pub paired : Seen → Seen → Parts
paired o w = record { operands = o; whole = w }

-- the whole of these
abbrev whole_of : Parts → Seen
whole_of k = k.whole

-- the refusal that is kept
abbrev refusal_of : Seen → Option Place
refusal_of k = k.refusal

-- a further read or call
further_is : (p : Place) (os ms : List Mark) (r : Option Place) (x : PostfixTree) → further p (paired (seen os r) (seen ms r)) x ≡ paired (seen (operand_marks ms x) (option_or r (unordered_part ms x))) (seen (part_marks p ms x) (option_or r (unordered_part ms x)))
further_is p os ms r x =
    let refused = option_or r (unordered_part ms x) in
    let operands = operands_is ms r x in
    let whole = part_is p ms r refused x in
    ap (λ o. paired o (part_seen p (seen ms r) o x)) operands ∙ ap (paired (seen (operand_marks ms x) refused)) whole

-- reads and calls
pub parts_is : (p : Place) (os ms : List Mark) (r : Option Place) (xs : PostfixTrees) → parts_seen p (paired (seen os r) (seen ms r)) xs ≡ paired (seen (last_operand_marks p os ms xs) (option_or r (unordered_parts p ms xs))) (seen (parts_marks p ms xs) (option_or r (unordered_parts p ms xs)))
parts_is p os ms r no_postfix = rw (or_none r) refl
parts_is p os ms r (more_postfix x xs) =
    let one = further_is p os ms r x in
    let rest = parts_is p (operand_marks ms x) (part_marks p ms x) (option_or r (unordered_part ms x)) xs in
    let choice = or_assoc r (unordered_part ms x) (unordered_parts p (part_marks p ms x) xs) in
    ap (λ s. parts_seen p s xs) one ∙ rest ∙ rw choice refl

-- a left side with reads and calls
pub target_is : (w e d : ExprTree) (p : Place) (xs : PostfixTrees) (s : Seen) (k : Parts) → w ≡ tree.postfix p e xs → d ≡ e → s ≡ seen_of d → k ≡ parts_seen p (paired s s) xs → k ≡ paired (seen (target_marks w) (unordered w)) (seen_of w)
target_is w e d p xs s k hw hd hs hk =
    let read = hs ∙ ap seen_of hd in
    hk ∙ ap (λ a. parts_seen p (paired a a) xs) read ∙ parts_is p (marks e) (marks e) (unordered e) xs ∙ sym (ap (λ x. paired (seen (target_marks x) (unordered x)) (seen_of x)) hw)

-- an expression with reads and calls
pub postfix_is : (w e d : ExprTree) (p : Place) (xs : PostfixTrees) (s : Seen) (k : Parts) → w ≡ tree.postfix p e xs → d ≡ e → s ≡ seen_of d → k ≡ parts_seen p (paired s s) xs → k.whole ≡ seen_of w
postfix_is w e d p xs s k hw hd hs hk = ap whole_of (target_is w e d p xs s k hw hd hs hk)

-- a chain
pub chain_is : (w e d : ExprTree) (p : Place) (v : Level) (xs : LinkTrees) (s k : Seen) → w ≡ tree.chain p v e xs → d ≡ e → s ≡ seen_of d → k ≡ links_seen s xs → k ≡ seen_of w
chain_is w e d p v xs s k hw hd hs hk =
    let first = hs ∙ ap seen_of hd in
    hk ∙ ap (λ a. links_seen a xs) first ∙ links_is (marks e) (unordered e) xs ∙ sym (ap seen_of hw)

-- a choice
pub conditional_is : (w a b c x y z : ExprTree) (p : Place) (s t u v k : Seen) → w ≡ tree.conditional p a b c → x ≡ a → y ≡ b → z ≡ c → s ≡ seen_of x → t ≡ seen_of y → u ≡ seen_of z → v ≡ behind t u → k ≡ behind s v → k ≡ seen_of w
conditional_is w a b c x y z p s t u v k hw hx hy hz hs ht hu hv hk =
    let one = hs ∙ ap seen_of hx in
    let two = ht ∙ ap seen_of hy in
    let three = hu ∙ ap seen_of hz in
    let rest = hv ∙ (λ i. behind (two i) (three i)) ∙ behind_is (marks b) (marks c) (unordered b) (unordered c) in
    hk ∙ (λ i. behind (one i) (rest i)) ∙ behind_is (marks a) (marks b ++ marks c) (unordered a) (option_or (unordered b) (unordered c)) ∙ sym (ap seen_of hw)

-- an assignment
pub assignment_is : (w : Simple) (a : ExprTree) (o : AssignmentOperator) (q : Place) (e : ExprTree) (l k b : Seen) → w ≡ simples.Assignment a o q e → l ≡ seen (left_marks o a) (unordered a) → k ≡ seen_of e → b ≡ beside l k → b.refusal ≡ unordered_simple w
assignment_is w a o q e l k b h hl hk hb =
    let both = ap refusal_of (hb ∙ (λ i. beside (hl i) (hk i)) ∙ beside_is (left_marks o a) (marks e) (unordered a) (unordered e)) in
    both ∙ sym (ap unordered_simple h)
