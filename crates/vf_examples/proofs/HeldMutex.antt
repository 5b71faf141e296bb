-- For a memory of one held mutex there is a part that is all of it, and that satisfies its assertion.
use Rattle.std.proofs.Common.{◌≡◌, ◌≢◌, ℕ, false, cond, Some, None, refl, sym, ap, subst, ◌∙◌, inl, inr, arith}
use Rattle.std.specs.Ordering.{nat_cmp, eq_by_cmp}
use Rattle.std.specs.Cmp.{nat_cmp_total}
use Rattle.std.proofs.lemmas.Bool.{cases_eq}
use Rattle.std.proofs.lemmas.Bool.Decides.{nat_tests}
use Rattle.std.specs.FinMap as finite
use Rattle.vf_tree.specs.Core.{Identity}
use Rattle.vf_model.specs.Values.{Dyadic, Odd}
use Rattle.vf_model.specs.Memory.{Block, Mutex, block_at}
use Rattle.vf_meaning.specs.Fractions.{nought, whole, sum, IsPositive}
use Rattle.vf_meaning.specs.Parts.{Location, FieldCell, IndexCell, StructBlock, IntBlock, MutexAt, HeldAt, HandleAt, Content, MutexOf, HeldOf, block_of, Part, single, ◌⊕◌, IsSum, HasNone, HasJust}
use Rattle.vf_meaning.specs.Fits.{FitsAt, Fits}
use Rattle.vf_examples.specs.HeldMutex.{one_block, invariant, HeldMutexIsMeant}
use Rattle.vf_meaning.proofs.Fractions.{nought_adds_nothing, sum_commutes}
use Rattle.vf_meaning.proofs.Parts.{nought_or_positive, not_nought, single_only, singles_have_just_that}

-- ---- one location more
nought_unless : (x : Dyadic) → (IsPositive x → ⊥) → x ≡ nought
nought_unless x h = elim (nought_or_positive x) [ inl e ↦ e | inr y ↦ absurd (h y) ]

single_none : (k l : Location) (d : Content) (y : Dyadic) → l ≢ k → HasNone (single k d y) l
single_none k l d y other c = nought_unless (single k d y l c) (λ x. other (single_only k d y l c x).0)

apart : (k : Location) (d : Content) (y : Dyadic) (p : Part) → HasNone p k → IsSum (single k d y) p (single k d y ⊕ p)
apart k d y p h = record {
  agree = λ l c b x z. absurd (not_nought (p k b) (h b) (subst (λ w. IsPositive (p w b)) (single_only k d y l c x).0 z));
  adds = refl;
}

⊕-at : (p q : Part) (l : Location) (c : Content) → (p ⊕ q) l c ≡ sum (p l c) (q l c)
unfolding ◌⊕◌
⊕-at p q l c = refl

both_none : (x y : Dyadic) → x ≡ nought → y ≡ nought → sum x y ≡ nought
both_none x y e f = subst (λ z. sum z y ≡ nought) (sym e) (nought_adds_nothing y ∙ f)

none_more : (k l : Location) (d : Content) (y : Dyadic) (p : Part) → l ≢ k → HasNone p l → HasNone (single k d y ⊕ p) l
none_more k l d y p other h c = ⊕-at (single k d y) p l c ∙ both_none (single k d y l c) (p l c) (single_none k l d y other c) (h c)

just_more : (k l : Location) (d c : Content) (y x : Dyadic) (p : Part) → l ≢ k → HasJust p l c x → HasJust (single k d y ⊕ p) l c x
just_more k l d c y x p other h = record {
  here = ⊕-at (single k d y) p l c ∙ subst (λ z. sum z (p l c) ≡ x) (sym (single_none k l d y other c)) (nought_adds_nothing (p l c) ∙ h.here);
  else = λ b unlike. ⊕-at (single k d y) p l b ∙ both_none (single k d y l b) (p l b) (single_none k l d y other b) (h.else b unlike);
}

just_here : (k : Location) (d : Content) (y : Dyadic) (p : Part) → HasNone p k → HasJust (single k d y ⊕ p) k d y
just_here k d y p h = let own = (singles_have_just_that k d y).0 in record {
  here = ⊕-at (single k d y) p k d ∙ subst (λ z. sum (single k d y k d) z ≡ y) (sym (h d)) (sum_commutes (single k d y k d) nought ∙ nought_adds_nothing (single k d y k d) ∙ own.here);
  else = λ b unlike. ⊕-at (single k d y) p k b ∙ both_none (single k d y k b) (p k b) (own.else b unlike) (h b);
}

-- ---- a memory of one block
record FitsBlock (p : Part) (block : Block) : Type 0 where
  fields : (g : Identity) (i : ℕ) → FitsAt p (Some block) (FieldCell 1 g i)
  indexes : (i : ℕ) → FitsAt p (Some block) (IndexCell 1 i)
  structs : (g : Identity) → FitsAt p (Some block) (StructBlock 1 g)
  ints : FitsAt p (Some block) (IntBlock 1)
  mutex : FitsAt p (Some block) (MutexAt 1)
  held : FitsAt p (Some block) (HeldAt 1)
  handle : FitsAt p (Some block) (HandleAt 1)
  elsewhere : (l : Location) → block_of l ≢ 1 → HasNone p l

here : (block : Block) → block_at (one_block block) 1 ≡ Some block
here block = finite.get-insert nat_cmp_total finite.empty 1 block 1

other_number : (b : ℕ) → (b ≡ 1 → ⊥) → eq_by_cmp nat_cmp b 1 ≡ false
other_number b h = grind (arith, nat_tests)

not_here : (block : Block) (b : ℕ) → (b ≡ 1 → ⊥) → block_at (one_block block) b ≡ None
not_here block b h = finite.get-insert nat_cmp_total finite.empty 1 block b ∙ ap (λ t. cond t (Some block) (block_at finite.empty b)) (other_number b h) ∙ finite.get-empty nat_cmp b

none_there : (p : Part) (l : Location) → HasNone p l → FitsAt p None l
none_there p (FieldCell b g i) h = h
none_there p (IndexCell b i) h = h
none_there p (StructBlock b g) h = h
none_there p (IntBlock b) h = h
none_there p (MutexAt b) h = h
none_there p (HeldAt b) h = h
none_there p (HandleAt b) h = h

at_block : (p : Part) (block : Block) → FitsBlock p block → (l : Location) → block_of l ≡ 1 → FitsAt p (Some block) l
at_block p block h (FieldCell b g i) e = subst (λ z. FitsAt p (Some block) (FieldCell z g i)) (sym e) (h.fields g i)
at_block p block h (IndexCell b i) e = subst (λ z. FitsAt p (Some block) (IndexCell z i)) (sym e) (h.indexes i)
at_block p block h (StructBlock b g) e = subst (λ z. FitsAt p (Some block) (StructBlock z g)) (sym e) (h.structs g)
at_block p block h (IntBlock b) e = subst (λ z. FitsAt p (Some block) (IntBlock z)) (sym e) h.ints
at_block p block h (MutexAt b) e = subst (λ z. FitsAt p (Some block) (MutexAt z)) (sym e) h.mutex
at_block p block h (HeldAt b) e = subst (λ z. FitsAt p (Some block) (HeldAt z)) (sym e) h.held
at_block p block h (HandleAt b) e = subst (λ z. FitsAt p (Some block) (HandleAt z)) (sym e) h.handle

one_fits : (p : Part) (block : Block) → FitsBlock p block → Fits p (one_block block)
one_fits p block h l =
    elim (cases_eq (block_of l) 1) [
      | inl e ↦ subst (λ o. FitsAt p o l) (sym (ap (block_at (one_block block)) e ∙ here block)) (at_block p block h l e)
      | inr o ↦ subst (λ b. FitsAt p b l) (sym (not_here block (block_of l) o)) (none_there p l (h.elsewhere l o))
    ]

-- ---- kinds of locations differ
field_mutex : {b c i : ℕ} {g : Identity} → FieldCell b g i ≡ MutexAt c → ⊥
field_mutex e = cc

field_held : {b c i : ℕ} {g : Identity} → FieldCell b g i ≡ HeldAt c → ⊥
field_held e = cc

index_mutex : {b c i : ℕ} → IndexCell b i ≡ MutexAt c → ⊥
index_mutex e = cc

index_held : {b c i : ℕ} → IndexCell b i ≡ HeldAt c → ⊥
index_held e = cc

struct_mutex : {b c : ℕ} {g : Identity} → StructBlock b g ≡ MutexAt c → ⊥
struct_mutex e = cc

struct_held : {b c : ℕ} {g : Identity} → StructBlock b g ≡ HeldAt c → ⊥
struct_held e = cc

ints_mutex : {b c : ℕ} → IntBlock b ≡ MutexAt c → ⊥
ints_mutex e = cc

ints_held : {b c : ℕ} → IntBlock b ≡ HeldAt c → ⊥
ints_held e = cc

mutex_held : {b c : ℕ} → MutexAt b ≡ HeldAt c → ⊥
mutex_held e = cc

mutex_handle : {b c : ℕ} → MutexAt b ≡ HandleAt c → ⊥
mutex_handle e = cc

held_handle : {b c : ℕ} → HeldAt b ≡ HandleAt c → ⊥
held_handle e = cc

positive_whole : IsPositive whole
positive_whole = omega arith

-- ---- a held mutex
half_of_it : Dyadic
half_of_it = Odd 0 0

held_chunk : Part
held_chunk = single (HeldAt 1) (HeldOf invariant 0 half_of_it) whole

held_part : Part
held_part = single (MutexAt 1) (MutexOf invariant) half_of_it ⊕ held_chunk

held_none : (l : Location) → l ≢ MutexAt 1 → l ≢ HeldAt 1 → HasNone held_part l
unfolding held_part held_chunk
held_none l h k = none_more (MutexAt 1) l _ half_of_it held_chunk h (single_none (HeldAt 1) l _ whole k)

held_sum : IsSum (single (MutexAt 1) (MutexOf invariant) half_of_it) held_chunk held_part
unfolding held_part held_chunk
held_sum = apart (MutexAt 1) _ half_of_it held_chunk (single_none (HeldAt 1) (MutexAt 1) _ whole mutex_held)

of_mutex : HasJust held_part (MutexAt 1) (MutexOf invariant) half_of_it
unfolding held_part held_chunk
of_mutex = just_here (MutexAt 1) _ half_of_it held_chunk (single_none (HeldAt 1) (MutexAt 1) _ whole mutex_held)

of_held : HasJust held_part (HeldAt 1) (HeldOf invariant 0 half_of_it) whole
unfolding held_part held_chunk
of_held = just_more (MutexAt 1) (HeldAt 1) _ _ half_of_it whole held_chunk (λ e. mutex_held (sym e)) (singles_have_just_that (HeldAt 1) (HeldOf invariant 0 half_of_it) whole).0

positive_half : IsPositive half_of_it
unfolding half_of_it
positive_half = omega arith

two_halves : sum half_of_it half_of_it ≡ whole
unfolding half_of_it
two_halves = refl

held_fits : FitsBlock held_part (Mutex (Some 0))
held_fits = record {
  fields = λ g i. held_none (FieldCell 1 g i) field_mutex field_held;
  indexes = λ i. held_none (IndexCell 1 i) index_mutex index_held;
  structs = λ g. held_none (StructBlock 1 g) struct_mutex struct_held;
  ints = held_none (IntBlock 1) ints_mutex ints_held;
  mutex = record { invariant = invariant; given = half_of_it; left = half_of_it; positive = positive_half; parted = two_halves; held = of_held; mutex = of_mutex };
  held = record { invariant = invariant; given = half_of_it; left = half_of_it; positive = positive_half; parted = two_halves; held = of_held; mutex = of_mutex };
  handle = held_none (HandleAt 1) (λ e. mutex_handle (sym e)) (λ e. held_handle (sym e));
  elsewhere = λ l other. held_none l (λ e. other (ap block_of e)) (λ e. other (ap block_of e));
}

pub held_mutex_is_meant : HeldMutexIsMeant
unfolding held_chunk half_of_it
held_mutex_is_meant = record {
  part = held_part;
  fits = one_fits held_part _ held_fits;
  satisfies = λ e. (
    0,
    (
      single (MutexAt 1) (MutexOf invariant) half_of_it,
      held_chunk,
      held_sum,
      (half_of_it, record { is = refl; positive = positive_half }, record { block = 1; invariant = invariant; meet = (refl, (refl, tt)); owns = refl }),
      (whole, record { is = refl; positive = positive_whole }, record { block = 1; invariant = invariant; holder = 0; given = half_of_it; meet = (refl, (refl, (refl, (refl, tt)))); owns = refl }),
    ),
  );
}
