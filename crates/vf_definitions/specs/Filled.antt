-- Terms with arguments in place of their symbols.
use Rattle.std.specs.Prelude.{pos}
use Rattle.vf_meaning.specs.Ghost.{Name, Numbered}
use Rattle.vf_closure.specs.Terms.{Head, Symbol, Term, Terms, term, no_terms, and_term, number}
use Rattle.vf_normal.specs.Normal.{part_at, as_kind}

-- the argument that a name stands for: the one at the place of its number, counted from 0; where there is none, and for every other name, the number 0
abbrev pub argument_for : Terms → Name → Term
argument_for ts (Numbered k) = part_at ts k
argument_for ts _ = number (pos 0)

-- a head over parts: for a symbol its argument, as a term of the symbol's kind
abbrev pub filled_over : Terms → Head → Terms → Term
filled_over ts (Symbol k x) us = as_kind k (argument_for ts x)
filled_over ts h us = term h us

-- a term with arguments in place of its symbols
abbrev mutual
  pub filled : Terms → Term → Term
  filled ts (term h us) = filled_over ts h (all_filled ts us)

  -- terms in a row with arguments in place of their symbols
  pub all_filled : Terms → Terms → Terms
  all_filled ts no_terms = no_terms
  all_filled ts (and_term u us) = and_term (filled ts u) (all_filled ts us)

-- terms in a row, and others behind them
abbrev pub followed_by : Terms → Terms → Terms
followed_by no_terms us = us
followed_by (and_term t ts) us = and_term t (followed_by ts us)

-- a head is not that of a symbol
abbrev pub IsNoSymbol : Head → Type 0
IsNoSymbol (Symbol k x) = ⊥
IsNoSymbol h = Unit {0}
