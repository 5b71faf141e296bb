-- Symbols for locals, and expressions read with these.
use Rattle.std.specs.Prelude.{ℕ, suc, pos, List, [], ◌∷◌}
use Rattle.vf_closure.specs.Terms.{Symbol, Term, term, no_terms, number}
use Rattle.vf_meaning.specs.Ghost.{Numbered}
use Rattle.vf_sorts.specs.Sorts.{Sort}
use Rattle.vf_sorts.specs.Unknowns.{Known, filled, settling}
use Rattle.vf_declared.specs.declared.locals.Local.{Local}
use Rattle.vf_declared.specs.declared.scope.Scope.{Scope}
use Rattle.vf_declared.specs.Beginning.{no_locals}
use Rattle.vf_syntax.specs.GhostExprTree.{GhostExprTree}
use Rattle.vf_sorting.specs.declared.context.Context.{Context}
use Rattle.vf_sorting.specs.Kinds.{is_pointer}
use Rattle.vf_sorting.specs.Schemes.{sort_of_local}
use Rattle.vf_terms.specs.Settings.{Setting, kind_of_sort}
use Rattle.vf_terms.specs.Readings.{read}
use Rattle.vf_terms.specs.declared.reading.Reading.{Reading}

-- the symbol of a local with a number, of the kind of its sort as it is known in the end
abbrev pub symbol_of : Known → ℕ → Local → Term
symbol_of k n l = term (Symbol (kind_of_sort (filled (settling k) (sort_of_local l))) (Numbered n)) no_terms

-- the symbols of locals, numbered from a number on
abbrev pub symbols_from : Known → ℕ → List Local → List Term
symbols_from k n [] = []
symbols_from k n (l ∷ ls) = symbol_of k n l ∷ symbols_from k (suc n) ls

-- the setting in which each local stands for its symbol; `result`, `this` and `currentThread` stand for the number 0, and may not stand in bodies of fixpoints
abbrev pub with_symbols : Scope → Context → Known → List (List ℕ) → Setting
with_symbols s c k paths = record {
  scope = s;
  context = c;
  known = k;
  paths = paths;
  locals = symbols_from k 0 s.locals.meanings;
  «result» = number (pos 0);
  this_value = number (pos 0);
  thread = number (pos 0);
}

-- an expression that passes for a sort, read with these symbols
abbrev pub value_read : Scope → Context → Known → List (List ℕ) → Sort → ℕ → GhostExprTree → Reading
value_read s c k paths t u e = read (with_symbols s c k paths) (is_pointer (filled (settling k) t)) u e

-- what is declared without its locals
abbrev pub without_locals : Scope → Scope
without_locals s = record s { locals = no_locals }
