-- Laws of parts. Each is the contract of a public function with an empty body.
use Rattle.std.specs.Prelude.{◌≡◌, ◌↔◌, IsTrue}
use Rattle.std.specs.FinMap as map
use Rattle.vf_model.specs.Values.{Dyadic}
use Rattle.vf_model.specs.Memory.{Memory}
use Rattle.vf_meaning.specs.Fractions.{nought, whole, sum, AtMost}
use Rattle.vf_meaning.specs.Parts.{Location, Content, same_location, same_content, Part, nothing, single, ◌⊕◌, IsConsistent, IsSum, HasJust}
use Rattle.vf_meaning.specs.Fits.{Fits}

-- the test on locations says just that two are equal
abbrev pub TellsLocations : Type 0
TellsLocations = (k l : Location) → IsTrue (same_location k l) ↔ (k ≡ l)

-- the test on contents says just that two are equal
abbrev pub TellsContents : Type 0
TellsContents = (c d : Content) → IsTrue (same_content c d) ↔ (c ≡ d)

-- adding is the same from both sides, however it is grouped, and nothing adds nothing
abbrev pub PartsAdd : Type 0
PartsAdd =
    ((p q : Part) → p ⊕ q ≡ q ⊕ p)
    × ((p q r : Part) → (p ⊕ q) ⊕ r ≡ p ⊕ (q ⊕ r))
    × ((p : Part) → nothing ⊕ p ≡ p)

-- a sum is one from both sides
abbrev pub SumsTurn : Type 0
SumsTurn = (p q r : Part) → IsSum p q r → IsSum q p r

-- a sum of three parts can be grouped the other way, and its parts agree each with each
abbrev pub SumsRegroup : Type 0
SumsRegroup = (p q r s t : Part) → IsSum p q r → IsSum r s t → (u : Part) × IsSum q s u × IsSum p u t

-- every part is the sum of nothing and itself
abbrev pub NothingIsNeutral : Type 0
NothingIsNeutral = (p : Part) → IsSum nothing p p

-- a sum of parts that have one content at each location has one
abbrev pub SumsAreConsistent : Type 0
SumsAreConsistent = (p q r : Part) → IsConsistent p → IsConsistent q → IsSum p q r → IsConsistent r

-- one fraction of one location has just that
abbrev pub SinglesHaveJustThat : Type 0
SinglesHaveJustThat = (l : Location) (c : Content) (x : Dyadic) → HasJust (single l c x) l c x × IsConsistent (single l c x)

-- two fractions of one location with one content add to the sum of both
abbrev pub SinglesAdd : Type 0
SinglesAdd = (l : Location) (c : Content) (x y : Dyadic) → IsSum (single l c x) (single l c y) (single l c (sum x y))

-- a part that fits has one content at each location
abbrev pub FittingIsConsistent : Type 0
FittingIsConsistent = (p : Part) (m : Memory) → Fits p m → IsConsistent p

-- no more than the whole of a location is owned in a part that fits
abbrev pub FittingIsAtMostWhole : Type 0
FittingIsAtMostWhole = (p : Part) (m : Memory) (l : Location) (c : Content) → Fits p m → AtMost (p l c) whole

-- two parts whose sum fits agree, so who owns the whole of a location owns it alone
abbrev pub WholeIsAlone : Type 0
WholeIsAlone = (p q r : Part) (m : Memory) (l : Location) (c d : Content) → IsSum p q r → Fits r m → p l c ≡ whole → q l d ≡ nought

-- nothing fits the empty memory
abbrev pub NothingFitsEmpty : Type 0
NothingFitsEmpty = Fits nothing map.empty
