-- Steps that derive bounds.
use Rattle.std.specs.Prelude.{◌≡◌, ℕ, ◌^◌, ℤ, pos, ◌+ℤ◌, ◌<ℤ◌, ◌≤ℤ◌, List, length, Contains, Option, Some, None, slice_get, slice_index}
use Rattle.vf_arith.specs.declared.bounds.Edge.{Edge}
use Rattle.vf_arith.specs.Paths.{Path, IsLeast, IsSmall}
use Rattle.vf_refute.specs.declared.steps.Derived.{Derived}
use Rattle.vf_refute.specs.declared.steps.Derived.TheVariants.{AreWithin}
use Rattle.vf_refute.specs.Refutations.{HasDerived}

-- each bound that was added was derived, by the step that stands at its place
pub record AreReasons (known : List Derived) (edges : List Edge) (reasons : List ℕ) : Type 0 where
  pub long : length reasons ≡ length edges
  pub each : (i : ℕ) (e : Edge) → slice_get edges i ≡ Some e → HasDerived known (slice_index reasons i) (AreWithin e.from e.to e.most)

-- a step derived the least bound from x to y
pub record IsBoundBy (known : List Derived) (edges : List Edge) (x y s : ℕ) : Type 0 where
  pub total : ℤ
  pub least : IsLeast edges x y total
  pub derived : HasDerived known s (AreWithin x y total)

-- a step derived the bound of going over an edge, and then to y on a least path
pub record IsBoundOver (known : List Derived) (edges : List Edge) (first : Edge) (y s : ℕ) : Type 0 where
  pub rest : ℤ
  pub least : IsLeast edges first.to y rest
  pub derived : HasDerived known s (AreWithin first.from y (first.most +ℤ rest))

-- a step derived that a point is below itself
pub record IsBelowItself (known : List Derived) (s : ℕ) : Type 0 where
  pub point : ℕ
  pub total : ℤ
  pub derived : HasDerived known s (AreWithin point point total)
  pub below : total <ℤ pos 0

-- an edge closes a cycle below 0 with a least path from its end to its beginning
pub record DoesClose (edges : List Edge) (e : Edge) : Type 0 where
  pub back : ℤ
  pub least : IsLeast edges e.to e.from back
  pub below : (back +ℤ e.most) <ℤ pos 0

-- an edge closes no cycle below 0
abbrev pub StaysOpen : List Edge → Edge → Type 0
StaysOpen edges e = (c : ℤ) → Path edges e.to e.from c → pos 0 ≤ℤ (c +ℤ e.most)

-- each point that was reached has a step that derived the bound of going to it over a first edge, and then on a least path
abbrev pub AreReached : List Derived → List Edge → Edge → List (Option ℕ) → Type 0
AreReached known edges first steps = (y s : ℕ) → slice_get steps y ≡ Some (Some s) → IsBoundOver known edges first y s

-- an edge leads on from the points that were reached: it begins at one of them, ends at another, and a least path from x goes over it
pub record LeadsOn (edges : List Edge) (x : ℕ) (steps : List (Option ℕ)) (e : Edge) : Type 0 where
  pub step : ℕ
  pub reached : slice_get steps e.from ≡ Some (Some step)
  pub missing : (s : ℕ) → slice_get steps e.to ≡ Some (Some s) → ⊥
  pub before : ℤ
  pub to_it : IsLeast edges x e.from before
  pub behind : IsLeast edges x e.to (before +ℤ e.most)

-- the step of the point at which an edge begins that leads on, to a point without a step, and the bound over it is small
pub record IsLead (edges : List Edge) (x : ℕ) (steps : List (Option ℕ)) (e : Edge) (s : ℕ) : Type 0 where
  pub reached : slice_get steps e.from ≡ Some (Some s)
  pub missing : slice_get steps e.to ≡ Some None
  pub leads : LeadsOn edges x steps e
  pub small : IsSmall (2 ^ 125) (leads.before +ℤ e.most)

-- points that were reached stay so, by the same steps
abbrev pub HaveStayed : List (Option ℕ) → List (Option ℕ) → Type 0
HaveStayed before after = (y s : ℕ) → slice_get before y ≡ Some (Some s) → slice_get after y ≡ Some (Some s)

-- no edge leads on
abbrev pub IsClosed : List Edge → ℕ → List (Option ℕ) → Type 0
IsClosed edges x steps = (e : Edge) → Contains edges e → LeadsOn edges x steps e → ⊥
