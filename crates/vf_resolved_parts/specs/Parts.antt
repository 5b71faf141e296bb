-- Chunks and cells, resolved.
use Rattle.std.specs.Prelude.{ℕ, false, List, [], ◌∷◌, Option, Some, None}
use Rattle.vf_base.specs.declared.place.Place.{Place}
use Rattle.vf_sorts.specs.Sorts.{Sort}
use Rattle.vf_syntax.specs.declared.pattern.Pattern.{Pattern}
use Rattle.vf_syntax.specs.declared.pattern.Share.{Share}
use Rattle.vf_syntax.specs.declared.written.Name.{Name}
use Rattle.vf_syntax.specs.GhostExprTree.{GhostExprTree}
use Rattle.vf_binding.specs.Bound.{no_names}
use Rattle.vf_binding.specs.Chunks.{chunk_takes, told_struct}
use Rattle.vf_binding.specs.declared.chunk_sorts.ChunkSorts.{ChunkSorts}
use Rattle.vf_terms.specs.Settings.{Setting}
use Rattle.vf_terms.specs.Readings.{read}
use Rattle.vf_terms.specs.declared.reading.Reading.{Reading}
use Rattle.vf_resolved.specs.declared.pattern.Argument.{Argument}
use Rattle.vf_resolved.specs.AssertionTree.{PartTree}
use Rattle.vf_resolved.specs.AssertionTree as tree
use Rattle.vf_resolved.specs.TruthTree as truths
use Rattle.vf_resolved_parts.specs.Heads.{cell_field, content_sort, field_type, form_of, head_for}
use Rattle.vf_resolved_parts.specs.Patterns.{ArgumentsRead, PatternRead, PatternsRead, application_read, arguments_read, counted, pattern_read, patterns_read}
use Rattle.vf_resolved_parts.specs.Shares.{ShareRead, share_read}
use Rattle.vf_resolved_parts.specs.declared.heads.Form.{Form}
use Rattle.vf_resolved_parts.specs.declared.progress.Progress.{Progress}

-- a part, and what it binds and numbers
pub record PartRead : Type 0 where
  pub part : PartTree
  pub progress : Progress

-- the parentheses of a chunk: the values in the first of two pairs, and the arguments
pub record PairsRead : Type 0 where
  pub first : List Argument
  pub arguments : PatternsRead

-- nothing is bound
abbrev pub beginning : ℕ → Progress
beginning u = record { bound = no_names; next = u }

-- patterns that may be none
abbrev pub patterns_or_none : Option (List Pattern) → List Pattern
patterns_or_none None = []
patterns_or_none (Some xs) = xs

-- two pairs of parentheses, the first of which is read
abbrev pub second_read : Setting → ℕ → List Sort → Progress → List Pattern → ArgumentsRead → PairsRead
second_read s m ts g ys xs = record { first = xs.arguments; arguments = patterns_read s m ts (counted g xs.next) ys }

-- one or two pairs of parentheses, by what a chunk takes
abbrev pub pairs_read : Setting → ℕ → Progress → Option (List Sort) → List Sort → List Pattern → Option (List Pattern) → PairsRead
pairs_read s m g None ts xs ys = record { first = []; arguments = patterns_read s m ts g xs }
pairs_read s m g (Some hs) ts xs ys = second_read s m ts g (patterns_or_none ys) (arguments_read s hs g.next xs)

-- a chunk with its share, what it is of, and its arguments
abbrev pub chunk_of : Place → ShareRead → Form → PairsRead → PartRead
chunk_of p h f xs = record { part = tree.chunk p h.share (head_for f xs.first) xs.arguments.patterns; progress = xs.arguments.progress }

-- an application as a truth value
abbrev pub truth_of : Place → Progress → Reading → PartRead
truth_of p g x = record { part = tree.pure p (truths.value x.term); progress = counted g x.next }

-- a chunk whose share is read, by what its name takes: one that takes nothing is a truth value
abbrev pub taken_read : Setting → ℕ → Place → Name → List Pattern → Option (List Pattern) → ShareRead → Option ChunkSorts → PartRead
taken_read s m p n xs ys h None = truth_of p h.progress (application_read s n h.progress.next xs)
taken_read s m p n xs ys h (Some t) = chunk_of p h (form_of s n) (pairs_read s m h.progress t.heads t.arguments xs ys)

-- a chunk, behind so many names
abbrev pub chunk_read : Setting → ℕ → Progress → Place → Option Share → Name → List Pattern → Option (List Pattern) → PartRead
chunk_read s m g p h n xs ys = taken_read s m p n xs ys (share_read s m g h) (chunk_takes s.scope s.known n)

-- a cell whose content is read
abbrev pub cell_of : Setting → Place → ShareRead → Reading → Name → PatternRead → PartRead
cell_of s p h e f x = record { part = tree.cell p h.share e.term (cell_field s (told_struct e.sort) f) x.pattern; progress = x.progress }

-- a cell whose share and pointer are read
abbrev pub content_read : Setting → ℕ → Place → Name → Pattern → ShareRead → Reading → PartRead
content_read s m p f x h e = cell_of s p h e f (pattern_read s m (content_sort (field_type s (told_struct e.sort) f)) (counted h.progress e.next) x)

-- a cell whose share is read
abbrev pub pointer_read : Setting → ℕ → Place → GhostExprTree → Name → Pattern → ShareRead → PartRead
pointer_read s m p e f x h = content_read s m p f x h (read s false h.progress.next e)

-- a cell, behind so many names
abbrev pub cell_read : Setting → ℕ → Progress → Place → Option Share → GhostExprTree → Name → Pattern → PartRead
cell_read s m g p h e f x = pointer_read s m p e f x (share_read s m g h)
