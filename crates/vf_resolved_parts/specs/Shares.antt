-- Shares, resolved.
use Rattle.std.specs.Prelude.{ℕ, Bool, true, false, List, [], ◌∷◌, Option, Some, None}
use Rattle.vf_syntax.specs.declared.pattern.Amount.{Amount}
use Rattle.vf_syntax.specs.declared.pattern.Amount.TheVariants as amounts
use Rattle.vf_syntax.specs.declared.pattern.Factor.{Factor}
use Rattle.vf_syntax.specs.declared.pattern.Factor.TheVariants as factors
use Rattle.vf_syntax.specs.declared.pattern.FactorLink.{FactorLink}
use Rattle.vf_syntax.specs.declared.pattern.Share.{Share}
use Rattle.vf_binding.specs.Shares.{fraction_sort}
use Rattle.vf_sorting.specs.Schemes.{name_scheme}
use Rattle.vf_terms.specs.Settings.{Setting}
use Rattle.vf_terms.specs.Named.{scheme_or_int, term_of_name}
use Rattle.vf_terms.specs.Readings.{used_at}
use Rattle.vf_terms.specs.declared.reading.Reading.{Reading}
use Rattle.vf_resolved.specs.declared.pattern.Factor as resolved
use Rattle.vf_resolved.specs.declared.pattern.Factor.TheVariants as forms
use Rattle.vf_resolved.specs.declared.pattern.Share as shares
use Rattle.vf_resolved.specs.declared.pattern.Share.TheVariants.{Binds, Product}
use Rattle.vf_resolved_parts.specs.Names.{slot_for}
use Rattle.vf_resolved_parts.specs.Patterns.{binding, counted, next_number}
use Rattle.vf_resolved_parts.specs.declared.progress.Progress.{Progress}

-- a factor, and the first number of unknown sorts that is not used behind it
pub record FactorRead : Type 0 where
  pub factor : resolved.Factor
  pub next : ℕ

-- some factors, and the first number of unknown sorts that is not used behind them
pub record FactorsRead : Type 0 where
  pub factors : List resolved.Factor
  pub next : ℕ

-- how much a share is, and what is bound and numbered behind it
pub record AmountRead : Type 0 where
  pub amount : shares.Share
  pub progress : Progress

-- a share where one is written, and what is bound and numbered behind it
pub record ShareRead : Type 0 where
  pub share : Option shares.Share
  pub progress : Progress

-- a number as a factor or as a divisor
abbrev pub counted_as : Bool → ℕ → resolved.Factor
counted_as true n = forms.Over n
counted_as false n = forms.Times n

-- the name of a fraction as a factor
abbrev pub named_factor : Reading → FactorRead
named_factor x = record { factor = forms.Named x.term; next = x.next }

-- a factor or a divisor
abbrev pub factor_read : Setting → ℕ → Bool → Factor → FactorRead
factor_read s u d (factors.Number n i p) = record { factor = counted_as d n; next = u }
factor_read s u d (factors.Name n) = named_factor (used_at s (scheme_or_int (name_scheme s.scope n.place n.text)) (term_of_name s n.text n.place.file) u)

-- one factor in front of others
abbrev pub factor_in_front : FactorRead → FactorsRead → FactorsRead
factor_in_front x xs = record { factors = x.factor ∷ xs.factors; next = xs.next }

-- factors and divisors from left to right
abbrev pub links_read : Setting → ℕ → List FactorLink → FactorsRead
links_read s u [] = record { factors = []; next = u }
links_read s u (l ∷ ls) =
    let x = factor_read s u l.divides l.factor in
    factor_in_front x (links_read s x.next ls)

-- a factor, and factors and divisors behind it
abbrev pub product_read : Setting → ℕ → Factor → List FactorLink → FactorsRead
product_read s u f ls =
    let x = factor_read s u false f in
    factor_in_front x (links_read s x.next ls)

-- a product as a share
abbrev pub product_of : Progress → FactorsRead → AmountRead
product_of g xs = record { amount = Product xs.factors; progress = counted g xs.next }

-- how much a share is, behind so many names
abbrev pub amount_read : Setting → ℕ → Progress → Amount → AmountRead
amount_read s m g (amounts.Binds p n) = record { amount = Binds (slot_for (next_number m g) fraction_sort); progress = binding g n.text fraction_sort }
amount_read s m g (amounts.Product f ls) = product_of g (product_read s g.next f ls)

-- a share that is written
abbrev pub written_share : AmountRead → ShareRead
written_share x = record { share = Some x.amount; progress = x.progress }

-- a share, where one is written
abbrev pub share_read : Setting → ℕ → Progress → Option Share → ShareRead
share_read s m g None = record { share = None; progress = g }
share_read s m g (Some h) = written_share (amount_read s m g h.amount)
