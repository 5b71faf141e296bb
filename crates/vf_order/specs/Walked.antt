-- What is kept of what an expression holds, and how it grows from operand to operand.
use Rattle.std.specs.Prelude.{true, ◌&&◌, ◌||◌, if◌then◌else◌, List, Option, Some, None}
use Rattle.std.specs.Option.{option_or, is_some}
use Rattle.vf_base.specs.declared.place.Place.{Place}
use Rattle.vf_syntax.specs.ExprTree.{ExprTree, ExprTrees, no_expr, more_expr, LinkTree, LinkTrees, no_link, more_link, PostfixTree, PostfixTrees, no_postfix, more_postfix}
use Rattle.vf_syntax.specs.ExprTree as tree
use Rattle.vf_order.specs.declared.seen.Seen.{Seen}
use Rattle.vf_order.specs.declared.seen.Parts.{Parts}
use Rattle.vf_order.specs.Marks.{Mark, holds_call, first_place, marks}
use Rattle.vf_order.specs.Order.{orders, unordered}

-- what is kept of marks and a refusal
abbrev pub seen : List Mark → Option Place → Seen
seen ms r = record { has_call = holds_call ms; first = first_place ms; refusal = r }

-- what is kept of an expression
abbrev pub seen_of : ExprTree → Seen
seen_of e = seen (marks e) (unordered e)

-- where the later of two operands is refused
abbrev pub clash_seen : Seen → Seen → Option Place
clash_seen s t = if is_some s.first && (s.has_call || t.has_call) then t.first else None

-- operands and one behind them, whose order is set
abbrev pub behind : Seen → Seen → Seen
behind s t = record { has_call = s.has_call || t.has_call; first = option_or s.first t.first; refusal = option_or s.refusal t.refusal }

-- operands and one behind them, whose order is not set
abbrev pub beside : Seen → Seen → Seen
beside s t = record { has_call = s.has_call || t.has_call; first = option_or s.first t.first; refusal = option_or s.refusal (option_or (clash_seen s t) t.refusal) }

-- a call at a place, and its operands
abbrev pub called : Place → Seen → Seen
called p s = record { has_call = true; first = Some p; refusal = s.refusal }

-- a read at a place, behind a pointer and around its operands
abbrev pub read_behind : Place → Seen → Seen → Seen
read_behind q s t = record { has_call = t.has_call; first = option_or s.first (Some q); refusal = t.refusal }

-- arguments behind operands
abbrev pub all_seen : Seen → ExprTrees → Seen
all_seen s no_expr = s
all_seen s (more_expr x xs) = all_seen (beside s (seen_of x)) xs

-- an operator and its operand behind operands
abbrev pub link_seen : Seen → LinkTree → Seen
link_seen s (tree.link p a b) = if orders a then behind s (seen_of b) else beside s (seen_of b)

-- operators and their operands behind operands
abbrev pub links_seen : Seen → LinkTrees → Seen
links_seen s no_link = s
links_seen s (more_link x xs) = links_seen (link_seen s x) xs

-- the operands of a read or call behind an expression
abbrev pub operands_seen : Seen → PostfixTree → Seen
operands_seen s (tree.field_ q a) = s
operands_seen s (tree.index_ q a) = beside s (seen_of a)
operands_seen s (tree.call_ q a) = all_seen s a

-- a read or call behind an expression that begins at a place, of which the second are the operands
abbrev pub part_seen : Place → Seen → Seen → PostfixTree → Seen
part_seen p s t (tree.field_ q a) = read_behind q s t
part_seen p s t (tree.index_ q a) = read_behind q s t
part_seen p s t (tree.call_ q a) = called p t

-- a further read or call
abbrev pub further : Place → Parts → PostfixTree → Parts
further p s x = record { operands = operands_seen s.whole x; whole = part_seen p s.whole (operands_seen s.whole x) x }

-- reads and calls behind an expression that begins at a place
abbrev pub parts_seen : Place → Parts → PostfixTrees → Parts
parts_seen p s no_postfix = s
parts_seen p s (more_postfix x xs) = parts_seen p (further p s x) xs
