-- Sums over lists of parts open and close at any member, and a share-out leaves no race.
use Rattle.std.proofs.Common.{◌≡◌, ℕ, zero, suc, ◌<◌, Bool, true, false, ◌||◌, List, [], ◌∷◌, ◌++◌, map, length, slice_get, Option, Some, None, refl, sym, ap, subst, ◌∙◌, ◌⊎◌, inl, inr, arith}
use Rattle.std.specs.Prelude.{IsTrue}
use Rattle.std.specs.Bool.{MatchBool}
use Rattle.std.specs.List.{range_with_len}
use Rattle.std.proofs.lemmas.Option.{slice_get-get_or}
use Rattle.std.proofs.lemmas.List.FromFn.{length-map-range_with_len, get_or-map-range_with_len}
use Rattle.std.specs.FinMap as finite
use Rattle.vf_tree.specs.Core.{ProgramTree}
use Rattle.vf_model.specs.Memory.{Memory, Cell, Block, Struct, Ints, Mutex, Handle, block_at, cells_at}
use Rattle.vf_model.specs.State.{End, State, Thread}
use Rattle.vf_model.specs.Acts.{Touch}
use Rattle.vf_model.specs.Races.{touch_in, touch_unended, next_touch}
use Rattle.vf_model.specs.Steps.{act_by}
use Rattle.vf_meaning.specs.Fractions.{whole, IsPositive}
use Rattle.vf_meaning.specs.Parts.{Location, Content, Part, nothing, IsSum}
use Rattle.vf_meaning.specs.Fits.{Fits}
use Rattle.vf_meaning.specs.ShareOuts.{ShareOut, SumsTo, parts_of, location_in, OwnsFor}
use Rattle.vf_meaning.specs.ShareOutLaws.{SumsOpen, SumsClose, MembersAreApart, ShareOutsExcludeRaces}
use Rattle.vf_meaning.proofs.Parts.{sums_turn, sums_regroup, in_left, not_nought, whole_is_alone}

-- ---- lists of parts
pub sums_open : SumsOpen
sums_open [] after q p h = h
sums_open (x ∷ xs) after q p h =
    let inner = sums_open xs after q h.0 h.1 in
    let other = sums_regroup q inner.0 h.0 x p inner.2 (sums_turn x h.0 p h.2) in
    (other.0, (inner.0, inner.1, sums_turn inner.0 x other.0 other.1), other.2)

pub sums_close : SumsClose
sums_close [] after q r p h s = (r, h, s)
sums_close (x ∷ xs) after q r p h s =
    let other = sums_regroup x h.0 r q p h.2 (sums_turn q r p s) in
    (other.0, sums_close xs after q h.0 other.0 h.1 (sums_turn h.0 q other.0 other.1), other.2)

member : (parts : List Part) (i : ℕ) (q p : Part) → slice_get parts i ≡ Some q → SumsTo parts p → (r : Part) × IsSum q r p
member [] i q p e h = absurd (none_some e)
  where
    none_some : {A : Type 0} {x : A} → None ≡ Some x → ⊥
    none_some e = cc
member (x ∷ xs) zero q p e h = (h.0, subst (λ z. IsSum z h.0 p) (some_same e) h.2)
  where
    some_same : {A : Type 0} {x y : A} → Some x ≡ Some y → x ≡ y
    some_same e = cc
member (x ∷ xs) (suc i) q p e h =
    let inner = member xs i q h.0 e h.1 in
    let other = sums_regroup q inner.0 h.0 x p inner.1 (sums_turn x h.0 p h.2) in
    (other.0, other.2)

pub members_are_apart : MembersAreApart
members_are_apart [] i j q r p other e f h = absurd (none_some e)
  where
    none_some : {A : Type 0} {x : A} → None ≡ Some x → ⊥
    none_some e = cc
members_are_apart (x ∷ xs) zero zero q r p other e f h = absurd (other refl)
members_are_apart (x ∷ xs) zero (suc j) q r p other e f h =
    let inner = member xs j r h.0 f h.1 in
    (h.0, inner.0, subst (λ z. IsSum z h.0 p) (some_same e) h.2, inner.1)
  where
    some_same : {A : Type 0} {x y : A} → Some x ≡ Some y → x ≡ y
    some_same e = cc
members_are_apart (x ∷ xs) (suc i) zero q r p other e f h =
    let inner = member xs i q h.0 e h.1 in
    let joined = sums_regroup q inner.0 h.0 x p inner.1 (sums_turn x h.0 p h.2) in
    (joined.0, inner.0, joined.2, subst (λ z. IsSum z inner.0 joined.0) (some_same f) (sums_turn inner.0 x joined.0 joined.1))
  where
    some_same : {A : Type 0} {x y : A} → Some x ≡ Some y → x ≡ y
    some_same e = cc
members_are_apart (x ∷ xs) (suc i) (suc j) q r p other e f h =
    let inner = members_are_apart xs i j q r h.0 (λ same. other (ap suc same)) e f h.1 in
    let joined = sums_regroup q inner.0 h.0 x p inner.2 (sums_turn x h.0 p h.2) in
    let last = sums_regroup r inner.1 inner.0 x joined.0 inner.3 joined.1 in
    (joined.0, last.0, joined.2, last.2)

-- ---- the part of a thread in a state's list
in_front : (xs zs : List Part) (t : ℕ) → t < length xs → slice_get (xs ++ zs) t ≡ slice_get xs t
in_front [] zs t l = absurd (nowhere t l)
  where
    nowhere : (k : ℕ) → k < 0 → ⊥
    nowhere k l = omega arith
in_front (x ∷ xs) zs zero l = refl
in_front (x ∷ xs) zs (suc t) l = in_front xs zs t (omega (arith, l))

in_range : (f : ℕ → Part) (zs : List Part) (n t : ℕ) → t < n → slice_get (map f (range_with_len 0 n) ++ zs) t ≡ Some (f t)
in_range f zs n t l =
    let long : t < length (map f (range_with_len 0 n)) = subst (λ k. t < k) (sym (length-map-range_with_len f 0 n)) l in
    in_front (map f (range_with_len 0 n)) zs t long ∙ slice_get-get_or (map f (range_with_len 0 n)) t nothing long ∙ ap Some (get_or-map-range_with_len f 0 n t t nothing l (omega arith))

own_part : (s : State) (o : ShareOut) (t : ℕ) → t < length s.threads → slice_get (parts_of s o) (suc t) ≡ Some (o.threads t)
own_part s o t l = in_range o.threads (map o.mutexes (finite.keys s.memory)) (length s.threads) t l

-- ---- who touches was started
waits : (o : Option Touch) → o ≡ None → (touch : Touch) → o ≡ Some touch → ⊥
waits o e touch f = cc

within : (threads : List Thread) (t : ℕ) → (slice_get threads t ≡ None) ⊎ (t < length threads)
within [] t = inl refl
within (x ∷ xs) zero = inr (omega arith)
within (x ∷ xs) (suc t) = elim (within xs t) [ inl e ↦ inl e | inr l ↦ inr (omega (arith, l)) ]

unknown : (p : ProgramTree) (s : State) (t : ℕ) (end : Option End) → slice_get s.threads t ≡ None → touch_unended p s t end ≡ None
unknown p s t (Some end) e = refl
unknown p s t None e = ap (λ z. touch_in (act_by p s t z)) e

started : (p : ProgramTree) (s : State) (t : ℕ) (touch : Touch) → next_touch p s t ≡ Some touch → t < length s.threads
started p s t touch e = elim (within s.threads t) [ inl none ↦ absurd (waits (next_touch p s t) (unknown p s t s.end none) touch e) | inr l ↦ l ]

-- ---- a cell that is there has a location
no_cell : (k : ℕ) → k < 0 → ⊥
no_cell k l = omega arith

located : (block : Option Block) (c : Cell) → c.index < length (cells_at block) → (l : Location) × (location_in block c ≡ Some l)
located None c h = absurd (no_cell c.index h)
located (Some (Struct g cells)) c h = (_, refl)
located (Some (Ints cells)) c h = (_, refl)
located (Some (Mutex holder)) c h = absurd (no_cell c.index h)
located (Some (Handle thread run argument)) c h = absurd (no_cell c.index h)

-- ---- some of what a touch covers is owned, and the whole where it is written
owns_whole : (touch : Touch) (p : Part) (l : Location) → OwnsFor touch p l → IsTrue touch.writes → (c : Content) × (p l c ≡ whole)
owns_whole touch p l h w = (h.0, subst (λ b. MatchBool b (p l h.0 ≡ whole) (IsPositive (p l h.0))) w h.1)

positive_whole : IsPositive whole
positive_whole = omega arith

owns_some : (touch : Touch) (p : Part) (l : Location) → OwnsFor touch p l → (c : Content) × IsPositive (p l c)
owns_some touch p l h = (h.0, some touch.writes h.1)
  where
    some : (b : Bool) → MatchBool b (p l h.0 ≡ whole) (IsPositive (p l h.0)) → IsPositive (p l h.0)
    some true e = subst IsPositive (sym e) positive_whole
    some false x = x

-- who owns the whole of a location leaves none to another
clash : (q r all : Part) (m : Memory) (l : Location) (c d : Content) (others rest : Part) → IsSum q others all → IsSum r rest others → Fits all m → q l c ≡ whole → IsPositive (r l d) → ⊥
clash q r all m l c d others rest a b f w x = not_nought (others l d) (whole_is_alone q others all m l c d a f w) (in_left r rest others b l d x)

either : (a b : Bool) → IsTrue (a || b) → IsTrue a ⊎ IsTrue b
either true b h = inl refl
either false b h = inr h

pub share_outs_exclude_races : ShareOutsExcludeRaces
share_outs_exclude_races e p s o h race =
    let first_started = started p s race.first race.first_touch race.first_touches in
    let second_started = started p s race.second race.second_touch race.second_touches in
    let at = located (block_at s.memory (race.cell).block) race.cell (race.by_first).there in
    let first_owns = h.access race.first race.first_touch race.cell at.0 race.first_touches race.by_first at.1 in
    let second_owns = h.access race.second race.second_touch race.cell at.0 race.second_touches race.by_second at.1 in
    let first_part = own_part s o race.first first_started in
    let second_part = own_part s o race.second second_started in
    elim (either (race.first_touch).writes (race.second_touch).writes race.writes) [
      | inl w ↦
          let apart = members_are_apart (parts_of s o) (suc race.first) (suc race.second) (o.threads race.first) (o.threads race.second) h.all
          (λ same. race.different (fewer same)) first_part second_part h.sums in
          let one = owns_whole race.first_touch (o.threads race.first) at.0 first_owns w in
          let other = owns_some race.second_touch (o.threads race.second) at.0 second_owns in
          clash (o.threads race.first) (o.threads race.second) h.all s.memory at.0 one.0 other.0 apart.0 apart.1 apart.2 apart.3 h.fits one.1 other.1
      | inr w ↦
          let apart = members_are_apart (parts_of s o) (suc race.second) (suc race.first) (o.threads race.second) (o.threads race.first) h.all
          (λ same. race.different (sym (fewer same))) second_part first_part h.sums in
          let one = owns_whole race.second_touch (o.threads race.second) at.0 second_owns w in
          let other = owns_some race.first_touch (o.threads race.first) at.0 first_owns in
          clash (o.threads race.second) (o.threads race.first) h.all s.memory at.0 one.0 other.0 apart.0 apart.1 apart.2 apart.3 h.fits one.1 other.1
    ]
  where
    fewer : {a b : ℕ} → suc a ≡ suc b → a ≡ b
    fewer e = omega (arith, e)
