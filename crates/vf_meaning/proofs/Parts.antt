-- The laws of parts: sums regroup, and what fits is consistent and owned once.
use Rattle.std.proofs.Common.{◌≡◌, ◌≢◌, ℕ, zero, suc, ◌+◌, ◌<◌, Bool, true, false, cond, ◌&&◌, ◌==◌, Option, Some, None, refl, sym, ap, ap₂, subst, ◌∙◌, ◌⊎◌, inl, inr, ⊎_elim, arith}
use Rattle.std.proofs.Math.Path.{fun_ext}
use Rattle.std.specs.Ordering.{nat_cmp}
use Rattle.std.specs.FinMap as map
use Rattle.std.specs.Cmp.Lexicographic.{bytes_decides}
use Rattle.std.proofs.lemmas.Bool.{false≢true, eqb-true, eq-eqb, and_parts, and_from, cases_Bool}
use Rattle.vf_tree.specs.Core.{Identity}
use Rattle.vf_model.specs.Values.{Dyadic, Whole, Odd, Value, same_identity}
use Rattle.vf_model.specs.Memory.{Block, Struct, Ints, Mutex, Handle, block_at}
use Rattle.vf_meaning.specs.Fractions.{exponent, nought, whole, sum, units, IsPositive, AtMost}
use Rattle.vf_meaning.specs.Valuations.{is_same, same_fraction}
use Rattle.vf_meaning.specs.Parts.{Location, FieldCell, IndexCell, StructBlock, IntBlock, MutexAt, HeldAt, HandleAt, Content, CellOf, Bare, LengthOf, MutexOf, HeldOf, HandleOf, block_of, same_location, same_held, same_content, Part, nothing, single, ◌⊕◌, IsSum, HasNone, HasJust}
use Rattle.vf_meaning.specs.Fits.{there, HasThere, FitsMutex, FitsHeld, FitsHandle, FitsAt}
use Rattle.vf_meaning.specs.PartLaws.{TellsLocations, TellsContents, PartsAdd, SumsTurn, SumsRegroup, NothingIsNeutral, SumsAreConsistent, SinglesHaveJustThat, SinglesAdd, FittingIsConsistent, FittingIsAtMostWhole, WholeIsAlone, NothingFitsEmpty}
use Rattle.vf_meaning.proofs.Fractions.{sum_commutes, sum_associates, sum_units, nought_adds_nothing, stays_positive, order_is_by_sums, order_is_total, units_positive}
use Rattle.vf_meaning.proofs.Values.{tells_values}

-- ---- tests
value_own : (v : Value) → is_same v v ≡ true
value_own v = (tells_values v v).1 refl

identity_own : (g : Identity) → same_identity g g ≡ true
identity_own g = (bytes_decides g g).1 refl

location_told : (k l : Location) → same_location k l ≡ true → k ≡ l
location_told (FieldCell b g i) (FieldCell c h j) e =
    let p = and_parts (b == c) _ e in
    let q = and_parts (same_identity g h) (i == j) p.1 in
    ap₂ (λ x y. FieldCell x y i) (eqb-true b c p.0) ((bytes_decides g h).0 q.0) ∙ ap (λ x. FieldCell c h x) (eqb-true i j q.1)
location_told (IndexCell b i) (IndexCell c j) e = let p = and_parts (b == c) (i == j) e in ap₂ IndexCell (eqb-true b c p.0) (eqb-true i j p.1)
location_told (StructBlock b g) (StructBlock c h) e = let p = and_parts (b == c) (same_identity g h) e in ap₂ StructBlock (eqb-true b c p.0) ((bytes_decides g h).0 p.1)
location_told (IntBlock b) (IntBlock c) e = ap IntBlock (eqb-true b c e)
location_told (MutexAt b) (MutexAt c) e = ap MutexAt (eqb-true b c e)
location_told (HeldAt b) (HeldAt c) e = ap HeldAt (eqb-true b c e)
location_told (HandleAt b) (HandleAt c) e = ap HandleAt (eqb-true b c e)
location_told _ _ e = absurd (false≢true e)

location_own : (l : Location) → same_location l l ≡ true
location_own (FieldCell b g i) = and_from (b == b) _ (eq-eqb b b refl) (and_from (same_identity g g) (i == i) (identity_own g) (eq-eqb i i refl))
location_own (IndexCell b i) = and_from (b == b) (i == i) (eq-eqb b b refl) (eq-eqb i i refl)
location_own (StructBlock b g) = and_from (b == b) (same_identity g g) (eq-eqb b b refl) (identity_own g)
location_own (IntBlock b) = eq-eqb b b refl
location_own (MutexAt b) = eq-eqb b b refl
location_own (HeldAt b) = eq-eqb b b refl
location_own (HandleAt b) = eq-eqb b b refl

pub tells_locations : TellsLocations
tells_locations k l = (location_told k l, λ e. subst (λ x. same_location k x ≡ true) e (location_own k))

fraction_told : (a b : Dyadic) → same_fraction a b ≡ true → a ≡ b
fraction_told (Whole k) (Whole l) h = ap Whole (eqb-true k l h)
fraction_told (Odd j m) (Odd i n) h = let p = and_parts (j == i) (m == n) h in ap₂ Odd (eqb-true j i p.0) (eqb-true m n p.1)
fraction_told _ _ h = absurd (false≢true h)

fraction_own : (a : Dyadic) → same_fraction a a ≡ true
fraction_own (Whole k) = eq-eqb k k refl
fraction_own (Odd j m) = and_from (j == j) (m == m) (eq-eqb j j refl) (eq-eqb m m refl)

held_told : (a b : Option Value) → same_held a b ≡ true → a ≡ b
held_told None None h = refl
held_told (Some v) (Some w) h = ap Some ((tells_values v w).0 h)
held_told _ _ h = absurd (false≢true h)

held_own : (a : Option Value) → same_held a a ≡ true
held_own None = refl
held_own (Some v) = value_own v

content_told : (c d : Content) → same_content c d ≡ true → c ≡ d
content_told (CellOf v) (CellOf w) h = ap CellOf (held_told v w h)
content_told Bare Bare h = refl
content_told (LengthOf n) (LengthOf k) h = ap LengthOf (eqb-true n k h)
content_told (MutexOf p) (MutexOf q) h = ap MutexOf ((tells_values p q).0 h)
content_told (HeldOf p t f) (HeldOf q u g) h =
    let a = and_parts (is_same p q) _ h in
    let b = and_parts (t == u) (same_fraction f g) a.1 in
    ap₂ (λ x y. HeldOf x y f) ((tells_values p q).0 a.0) (eqb-true t u b.0) ∙ ap (λ x. HeldOf q u x) (fraction_told f g b.1)
content_told (HandleOf r d i) (HandleOf s e j) h =
    let a = and_parts (is_same r s) _ h in
    let b = and_parts (is_same d e) (is_same i j) a.1 in
    ap₂ (λ x y. HandleOf x y i) ((tells_values r s).0 a.0) ((tells_values d e).0 b.0) ∙ ap (λ x. HandleOf s e x) ((tells_values i j).0 b.1)
content_told _ _ h = absurd (false≢true h)

content_own : (c : Content) → same_content c c ≡ true
content_own (CellOf v) = held_own v
content_own Bare = refl
content_own (LengthOf n) = eq-eqb n n refl
content_own (MutexOf p) = value_own p
content_own (HeldOf p t f) = and_from (is_same p p) _ (value_own p) (and_from (t == t) (same_fraction f f) (eq-eqb t t refl) (fraction_own f))
content_own (HandleOf r d i) = and_from (is_same r r) _ (value_own r) (and_from (is_same d d) (is_same i i) (value_own d) (value_own i))

pub tells_contents : TellsContents
tells_contents c d = (content_told c d, λ e. subst (λ x. same_content c x ≡ true) e (content_own c))

pub same_or_not : (c d : Content) → (c ≡ d) ⊎ (c ≢ d)
same_or_not c d =
    ⊎_elim (λ yes1. inl (content_told c d yes1)) (λ no1. inr (λ e. false≢true (sym no1 ∙ (tells_contents c d).1 e))) (cases_Bool (same_content c d))

-- ---- fractions that are positive or 0
pub nought_or_positive : (x : Dyadic) → (x ≡ nought) ⊎ IsPositive x
nought_or_positive (Whole zero) = inl refl
nought_or_positive (Whole (suc k)) = inr (omega arith)
nought_or_positive (Odd j m) = inr (omega arith)

pub not_nought : (x : Dyadic) → x ≡ nought → IsPositive x → ⊥
not_nought x e h = none (subst IsPositive e h)
  where
    none : 0 < 0 → ⊥
    none l = omega arith

pub positive_left : (a b : Dyadic) → IsPositive a → IsPositive (sum a b)
positive_left a b h = stays_positive.0 a b h

pub positive_right : (a b : Dyadic) → IsPositive b → IsPositive (sum a b)
positive_right a b h = subst IsPositive (sum_commutes b a) (stays_positive.0 b a h)

pub positive_either : (a b : Dyadic) → IsPositive (sum a b) → IsPositive a ⊎ IsPositive b
positive_either a b h =
    ⊎_elim (λ none. inr (subst IsPositive (nought_adds_nothing b) (subst (λ x. IsPositive (sum x b)) none h))) (λ some. inl some) (nought_or_positive a)

-- ---- sums of parts
pub ⊕-comm : (p q : Part) → p ⊕ q ≡ q ⊕ p
unfolding ◌⊕◌
⊕-comm p q = fun_ext (λ l. fun_ext (λ c. sum_commutes (p l c) (q l c)))

pub ⊕-assoc : (p q r : Part) → (p ⊕ q) ⊕ r ≡ p ⊕ (q ⊕ r)
unfolding ◌⊕◌
⊕-assoc p q r = fun_ext (λ l. fun_ext (λ c. sum_associates (p l c) (q l c) (r l c)))

pub nothing-⊕ : (p : Part) → nothing ⊕ p ≡ p
unfolding ◌⊕◌ nothing
nothing-⊕ p = fun_ext (λ l. fun_ext (λ c. nought_adds_nothing (p l c)))

pub parts_add : PartsAdd
parts_add = (⊕-comm, ⊕-assoc, nothing-⊕)

pub sums_turn : SumsTurn
sums_turn p q r h = record { agree = λ l c d x y. sym (h.agree l d c y x); adds = h.adds ∙ ⊕-comm p q }

pub ⊕-at : (p q : Part) (l : Location) (c : Content) → (p ⊕ q) l c ≡ sum (p l c) (q l c)
unfolding ◌⊕◌
⊕-at p q l c = refl

pub sum_at : (p q r : Part) → IsSum p q r → (l : Location) (c : Content) → r l c ≡ sum (p l c) (q l c)
sum_at p q r h l c = ap (λ x. x l c) h.adds ∙ ⊕-at p q l c

pub in_left : (p q r : Part) → IsSum p q r → (l : Location) (c : Content) → IsPositive (p l c) → IsPositive (r l c)
in_left p q r h l c x = subst IsPositive (sym (sum_at p q r h l c)) (positive_left (p l c) (q l c) x)

pub in_right : (p q r : Part) → IsSum p q r → (l : Location) (c : Content) → IsPositive (q l c) → IsPositive (r l c)
in_right p q r h l c x = subst IsPositive (sym (sum_at p q r h l c)) (positive_right (p l c) (q l c) x)

pub in_either : (p q r : Part) → IsSum p q r → (l : Location) (c : Content) → IsPositive (r l c) → IsPositive (p l c) ⊎ IsPositive (q l c)
in_either p q r h l c x = positive_either (p l c) (q l c) (subst IsPositive (sum_at p q r h l c) x)

pub sums_regroup : SumsRegroup
sums_regroup p q r s t a b =
    let inner : IsSum q s (q ⊕ s) = record { agree = λ l c d x y. b.agree l c d (in_right p q r a l c x) y; adds = refl } in (
      q ⊕ s,
      inner,
      record {
        agree = λ l c d x y. ⊎_elim (λ z. a.agree l c d x z) (λ z. b.agree l c d (in_left p q r a l c x) z) (in_either q s (q ⊕ s) inner l d y);
        adds = b.adds ∙ ap (λ z. z ⊕ s) a.adds ∙ ⊕-assoc p q s;
      },
    )

pub nothing_is_neutral : NothingIsNeutral
unfolding nothing
nothing_is_neutral p = record { agree = λ l c d x y. absurd (not_nought nought refl x); adds = sym (nothing-⊕ p) }

pub sums_are_consistent : SumsAreConsistent
sums_are_consistent p q r m n h l c d x y =
    elim (in_either p q r h l c x) [
      | inl a ↦ elim (in_either p q r h l d y) [ inl b ↦ m l c d a b | inr b ↦ h.agree l c d a b ]
      | inr a ↦ elim (in_either p q r h l d y) [ inl b ↦ sym (h.agree l d c b a) | inr b ↦ n l c d a b ]
    ]

-- ---- one location
pub single_here : (l : Location) (c : Content) (x : Dyadic) → single l c x l c ≡ x
unfolding single
single_here l c x = ap (λ b. cond b x nought) (and_from (same_location l l) (same_content c c) (location_own l) (content_own c))

pub single_only : (l : Location) (c : Content) (x : Dyadic) (k : Location) (d : Content) → IsPositive (single l c x k d) → (k ≡ l) × (d ≡ c)
unfolding single
single_only l c x k d h =
    elim (cases_Bool (same_location k l && same_content d c)) [
      | inl e ↦ let p = and_parts (same_location k l) (same_content d c) e in (location_told k l p.0, content_told d c p.1)
      | inr e ↦ absurd (not_nought (cond (same_location k l && same_content d c) x nought) (ap (λ b. cond b x nought) e) h)
    ]

single_else : (l : Location) (c : Content) (x : Dyadic) (d : Content) → d ≢ c → single l c x l d ≡ nought
single_else l c x d h = ⊎_elim (λ none. none) (λ some. absurd (h (single_only l c x l d some).1)) (nought_or_positive (single l c x l d))

pub singles_have_just_that : SinglesHaveJustThat
singles_have_just_that l c x = (
  record { here = single_here l c x; else = single_else l c x },
  λ k d e y z. (single_only l c x k d y).1 ∙ sym (single_only l c x k e z).1,
)

pub singles_add : SinglesAdd
unfolding single ◌⊕◌
singles_add l c x y = record {
  agree = λ k d e a b. (single_only l c x k d a).1 ∙ sym (single_only l c y k e b).1;
  adds = fun_ext (λ k. fun_ext (λ d. both (same_location k l && same_content d c) x y));
}
  where
    both : (b : Bool) (x y : Dyadic) → cond b (sum x y) nought ≡ sum (cond b x nought) (cond b y nought)
    both true x y = refl
    both false x y = refl

-- ---- what fits
pub just_one : (p : Part) (l : Location) (c : Content) (x : Dyadic) → HasJust p l c x → (d : Content) → IsPositive (p l d) → d ≡ c
just_one p l c x h d y = ⊎_elim (λ same. same) (λ other. absurd (not_nought (p l d) (h.else d other) y)) (same_or_not d c)

-- a location of which at most the whole of one content is owned
record IsLimited (p : Part) (l : Location) : Type 0 where
  content : Content
  fraction : Dyadic
  just : HasJust p l content fraction
  most : AtMost fraction whole

whole_most : AtMost whole whole
whole_most = omega arith

nought_most : AtMost nought whole
nought_most = omega arith

there_limits : (p : Part) (l : Location) (o : Option Content) → HasThere p l o → HasNone p l ⊎ IsLimited p l
there_limits p l None h = inl h
there_limits p l (Some c) h = inr (record { content = c; fraction = whole; just = h; most = whole_most })

mutex_limits : (p : Part) (b : ℕ) (o : Option Block) → FitsMutex p b o → HasNone p (MutexAt b) ⊎ IsLimited p (MutexAt b)
mutex_limits p b (Some (Mutex None)) h = inr (record { content = MutexOf h.0; fraction = whole; just = h.1; most = whole_most })
mutex_limits p b (Some (Mutex (Some t))) h = inr (record { content = MutexOf h.invariant; fraction = h.left; just = h.mutex; most = (order_is_by_sums h.left whole).1 (h.given, h.parted) })
mutex_limits p b None h = inl h
mutex_limits p b (Some (Struct g cells)) h = inl h
mutex_limits p b (Some (Ints cells)) h = inl h
mutex_limits p b (Some (Handle t r a)) h = inl h

held_limits : (p : Part) (b : ℕ) (o : Option Block) → FitsHeld p b o → HasNone p (HeldAt b) ⊎ IsLimited p (HeldAt b)
held_limits p b (Some (Mutex (Some t))) h = inr (record { content = HeldOf h.invariant t h.given; fraction = whole; just = h.held; most = whole_most })
held_limits p b (Some (Mutex None)) h = inl h
held_limits p b None h = inl h
held_limits p b (Some (Struct g cells)) h = inl h
held_limits p b (Some (Ints cells)) h = inl h
held_limits p b (Some (Handle t r a)) h = inl h

handle_limits : (p : Part) (b : ℕ) (o : Option Block) → FitsHandle p b o → HasNone p (HandleAt b) ⊎ IsLimited p (HandleAt b)
handle_limits p b (Some (Handle t r a)) h = inr (record { content = _; fraction = whole; just = h.1; most = whole_most })
handle_limits p b (Some (Mutex o)) h = inl h
handle_limits p b None h = inl h
handle_limits p b (Some (Struct g cells)) h = inl h
handle_limits p b (Some (Ints cells)) h = inl h

limits : (p : Part) (block : Option Block) (l : Location) → FitsAt p block l → HasNone p l ⊎ IsLimited p l
limits p block (FieldCell b g i) h = there_limits p (FieldCell b g i) (there block (FieldCell b g i)) h
limits p block (IndexCell b i) h = there_limits p (IndexCell b i) (there block (IndexCell b i)) h
limits p block (StructBlock b g) h = there_limits p (StructBlock b g) (there block (StructBlock b g)) h
limits p block (IntBlock b) h = there_limits p (IntBlock b) (there block (IntBlock b)) h
limits p block (MutexAt b) h = mutex_limits p b block h
limits p block (HeldAt b) h = held_limits p b block h
limits p block (HandleAt b) h = handle_limits p b block h

pub fitting_is_consistent : FittingIsConsistent
fitting_is_consistent p m h l c d x y =
    elim (limits p (block_at m (block_of l)) l (h l)) [
      | inl none ↦ absurd (not_nought (p l c) (none c) x)
      | inr one ↦ just_one p l one.content one.fraction one.just c x ∙ sym (just_one p l one.content one.fraction one.just d y)
    ]

pub fitting_is_at_most_whole : FittingIsAtMostWhole
fitting_is_at_most_whole p m l c h =
    elim (limits p (block_at m (block_of l)) l (h l)) [
      | inl none ↦ subst (λ x. AtMost x whole) (sym (none c)) nought_most
      | inr one ↦ ⊎_elim
          (λ same. subst (λ x. AtMost x whole) (sym one.just.here ∙ ap (λ d. p l d) (sym same)) one.most)
          (λ other. subst (λ x. AtMost x whole) (sym (one.just.else c other)) nought_most)
          (same_or_not c one.content)
    ]

-- nothing can be added to the whole
pub no_more : (y : Dyadic) → AtMost (sum whole y) whole → y ≡ nought
no_more y l =
    let e = order_is_total.1 (sum whole y) whole l ((order_is_by_sums whole (sum whole y)).1 (y, refl)) in
    ⊎_elim (λ none. none) (λ some. absurd (over (units whole (exponent y)) (units y (exponent y)) (sym (sum_units whole y (exponent y) (omega arith)) ∙ ap (λ x. units x (exponent y)) e) (units_positive y (exponent y) some)))
    (nought_or_positive y)
  where
    over : (a b : ℕ) → a + b ≡ a → 0 < b → ⊥
    over a b h k = omega arith

pub whole_is_alone : WholeIsAlone
whole_is_alone p q r m l c d s f w =
    ⊎_elim (λ none. none) (λ some.
    let most = fitting_is_at_most_whole r m l c f in
    let total : r l c ≡ sum whole (q l c) = sum_at p q r s l c ∙ ap (λ x. sum x (q l c)) w in
    let own = no_more (q l c) (subst (λ x. AtMost x whole) total most) in
    let one = s.agree l c d (subst IsPositive (sym w) positive_whole) some in
    ap (λ x. q l x) (sym one) ∙ own)
    (nought_or_positive (q l d))
  where
    positive_whole : IsPositive whole
    positive_whole = omega arith

nothing_fits_none : (l : Location) → FitsAt nothing None l
unfolding nothing
nothing_fits_none (FieldCell b g i) = λ c. refl
nothing_fits_none (IndexCell b i) = λ c. refl
nothing_fits_none (StructBlock b g) = λ c. refl
nothing_fits_none (IntBlock b) = λ c. refl
nothing_fits_none (MutexAt b) = λ c. refl
nothing_fits_none (HeldAt b) = λ c. refl
nothing_fits_none (HandleAt b) = λ c. refl

pub nothing_fits_empty : NothingFitsEmpty
nothing_fits_empty l = subst (λ o. FitsAt nothing o l) (sym (map.get-empty nat_cmp (block_of l))) (nothing_fits_none l)
