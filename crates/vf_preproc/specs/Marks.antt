-- How the macros that are being replaced are kept: a list, and the set of their numbers.
use Rattle.std.specs.Prelude.{◌≡◌, ℕ, false, nat_eq, List, [], ◌∷◌, map, reverse}
use Rattle.std.specs.List.{list_any}
use Rattle.std.specs.BTreeSet.{BTreeSet, contains}
use Rattle.std.specs.Ordering.{nat_cmp}
use Rattle.vf_preproc.specs.declared.stack.Frame.{Frame}

-- the numbers of macros, the innermost first
abbrev pub marks_of : List Frame → List ℕ
marks_of frames = map (λ (f : Frame). f.number) (reverse frames)

-- no number stands twice among some
abbrev pub AreApart : List ℕ → Type 0
AreApart [] = Unit {0}
AreApart (n ∷ ns) = (list_any (nat_eq n) ns ≡ false) × AreApart ns

-- a set has just these numbers, of which none stands twice
pub record AreMarked (set : BTreeSet ℕ) (numbers : List ℕ) : Type 0 where
  pub same : (n : ℕ) → contains nat_cmp set n ≡ list_any (nat_eq n) numbers
  pub apart : AreApart numbers
