-- Patterns, resolved: what is bound in a part gets the numbers behind those of the names in front of the part.
use Rattle.std.specs.Prelude.{ℕ, ◌+◌, pos, List, [], ◌∷◌, length, map}
use Rattle.vf_closure.specs.Terms.{Term, number}
use Rattle.vf_sorts.specs.Sorts.{Sort}
use Rattle.vf_sorts.specs.Unknowns.{instance}
use Rattle.vf_syntax.specs.declared.pattern.Pattern.{Pattern}
use Rattle.vf_syntax.specs.declared.pattern.Pattern.TheVariants as patterns
use Rattle.vf_syntax.specs.declared.written.Name.{Name}
use Rattle.vf_syntax.specs.GhostExprTree.{GhostExprTree}
use Rattle.vf_sorting.specs.declared.scheme.Scheme.{Scheme}
use Rattle.vf_sorting.specs.Kinds.{int_sort, is_pointer}
use Rattle.vf_sorting.specs.Schemes.{application_scheme}
use Rattle.vf_binding.specs.declared.bound.Bound.{Bound}
use Rattle.vf_binding.specs.Bound.{with_bound}
use Rattle.vf_terms.specs.Settings.{Setting, settled}
use Rattle.vf_terms.specs.Named.{scheme_or_int}
use Rattle.vf_terms.specs.Readings.{applied_at, in_front, no_row, read, reading}
use Rattle.vf_terms.specs.declared.reading.Reading.{Reading}
use Rattle.vf_terms.specs.declared.reading.Row.{Row}
use Rattle.vf_resolved.specs.declared.pattern.Argument.{Argument}
use Rattle.vf_resolved.specs.declared.pattern.Pattern as resolved
use Rattle.vf_resolved.specs.declared.pattern.Pattern.TheVariants as forms
use Rattle.vf_resolved_parts.specs.Names.{kind_for, slot_for}
use Rattle.vf_resolved_parts.specs.declared.progress.Progress.{Progress}

-- a pattern, and what is bound and numbered behind it
pub record PatternRead : Type 0 where
  pub pattern : resolved.Pattern
  pub progress : Progress

-- some patterns, and what is bound and numbered behind them
pub record PatternsRead : Type 0 where
  pub patterns : List resolved.Pattern
  pub progress : Progress

-- what is bound, where the first number of unknown sorts that is not used yet is another
abbrev pub counted : Progress → ℕ → Progress
counted g u = record { bound = g.bound; next = u }

-- one name more, which has a sort
abbrev pub binding : Progress → List ℕ → Sort → Progress
binding g x t = record { bound = with_bound g.bound x t; next = g.next }

-- the number of the next name that a part binds, behind so many names
abbrev pub next_number : ℕ → Progress → ℕ
next_number m g = m + length g.bound.sorts

-- an expression that passes for a sort
abbrev pub passed : Setting → Sort → ℕ → GhostExprTree → Reading
passed s t u e = read s (is_pointer (settled s t)) u e

-- a value of a sort
abbrev pub argument_of : Setting → Sort → Term → Argument
argument_of s t x = record { kind = kind_for (settled s t); term = x }

-- an expression that passes for a sort, as a pattern
abbrev pub as_pattern : Setting → Sort → Progress → Reading → PatternRead
as_pattern s t g x = record { pattern = forms.Is (argument_of s t x.term); progress = counted g x.next }

-- a pattern for values of a sort, behind so many names
abbrev pub pattern_read : Setting → ℕ → Sort → Progress → Pattern → PatternRead
pattern_read s m t g (patterns.Is e) = as_pattern s t g (passed s t g.next e)
pattern_read s m t g (patterns.Binds p n) = record { pattern = forms.Binds (slot_for (next_number m g) (settled s t)); progress = binding g n.text t }
pattern_read s m t g (patterns.Wild p) = record { pattern = forms.Wild (kind_for (settled s t)); progress = g }

-- one pattern in front of others
abbrev pub pattern_in_front : PatternRead → PatternsRead → PatternsRead
pattern_in_front x xs = record { patterns = x.pattern ∷ xs.patterns; progress = xs.progress }

-- patterns for values of these sorts, from left to right
abbrev pub patterns_read : Setting → ℕ → List Sort → Progress → List Pattern → PatternsRead
patterns_read s m [] g xs = record { patterns = []; progress = g }
patterns_read s m (t ∷ ts) g [] = record { patterns = []; progress = g }
patterns_read s m (t ∷ ts) g (x ∷ xs) =
    let y = pattern_read s m t g x in
    pattern_in_front y (patterns_read s m ts y.progress xs)

-- a pattern that binds nothing and passes for a sort; another one may not stand there, and counts as the number 0
abbrev pub value_read : Setting → Sort → ℕ → Pattern → Reading
value_read s t u (patterns.Is e) = passed s t u e
value_read s t u x = reading int_sort (number (pos 0)) u

-- such patterns, one for each of these sorts, from left to right
abbrev pub values_read : Setting → List Sort → ℕ → List Pattern → Row
values_read s [] u xs = no_row u
values_read s (t ∷ ts) u [] = no_row u
values_read s (t ∷ ts) u (x ∷ xs) =
    let y = value_read s t u x in
    in_front y (values_read s ts y.next xs)

-- some values, and the first number of unknown sorts that is not used behind them
pub record ArgumentsRead : Type 0 where
  pub arguments : List Argument
  pub next : ℕ

-- one value in front of others
abbrev pub argument_in_front : Argument → ArgumentsRead → ArgumentsRead
argument_in_front x xs = record { arguments = x ∷ xs.arguments; next = xs.next }

-- the same as values of these sorts
abbrev pub arguments_read : Setting → List Sort → ℕ → List Pattern → ArgumentsRead
arguments_read s [] u xs = record { arguments = []; next = u }
arguments_read s (t ∷ ts) u [] = record { arguments = []; next = u }
arguments_read s (t ∷ ts) u (x ∷ xs) =
    let y = value_read s t u x in
    argument_in_front (argument_of s t y.term) (arguments_read s ts y.next xs)

-- a name in front of such patterns as what it may be applied at, where unknown sorts from a number on stand for type parameters
abbrev pub applied_to : Setting → Name → ℕ → List Pattern → Scheme → Reading
applied_to s n u xs g = applied_at s g n.text n.place.file u (values_read s (map (instance u g.parameters) g.arguments) (u + g.parameters) xs)

-- an application that is a truth value
abbrev pub application_read : Setting → Name → ℕ → List Pattern → Reading
application_read s n u xs = applied_to s n u xs (scheme_or_int (application_scheme s.scope s.context.own n.place n.text))
