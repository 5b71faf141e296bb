-- Where no leak stands nothing is leaked, and nothing is lost.
use Rattle.std.proofs.Common.{◌≡◌, ◌≢◌, ℕ, zero, suc, ◌<◌, ◌≤◌, ◌+◌, List, [], ◌∷◌, ◌++◌, map, length, slice_get, Option, Some, None, refl, sym, ap, subst, ◌∙◌, ◌⊎◌, inl, inr, arith}
use Rattle.std.specs.Prelude.{cond}
use Rattle.std.specs.List.{range_with_len}
use Rattle.std.specs.FinMap as finite
use Rattle.std.proofs.lemmas.Bool.{cases_eq}
use Rattle.vf_tree.specs.Core.{Identity, ProgramTree}
use Rattle.vf_model.specs.declared.words.Event.{Event}
use Rattle.vf_model.specs.Values.{Value}
use Rattle.vf_model.specs.Memory.{Block, Struct, Ints, Mutex, Handle, block_at}
use Rattle.vf_model.specs.State.{State}
use Rattle.vf_meaning.specs.Fractions.{whole, IsPositive}
use Rattle.vf_meaning.specs.Assertions.{Environment}
use Rattle.vf_meaning.specs.Parts.{Location, FieldCell, IndexCell, StructBlock, IntBlock, MutexAt, HeldAt, HandleAt, Content, Bare, LengthOf, MutexOf, HeldOf, block_of, Part, nothing, ◌⊕◌}
use Rattle.vf_meaning.specs.Fits.{there, HasThere, FitsMutex, FitsHeld, FitsAt}
use Rattle.vf_meaning.specs.ShareOuts.{ShareOut, SumsTo, parts_of, IsHandleOf, IsShareOut}
use Rattle.vf_meaning.specs.Kept.{before, LeaksNext, Kept}
use Rattle.vf_meaning.proofs.Parts.{nothing-⊕, in_either, not_nought}
use Rattle.vf_meaning.proofs.FitSteps.{own_identity}
use Rattle.vf_safety.specs.LeakLaws.{LeaksNowhere, NothingIsLeaked, OthersHaveEnded, IsThere, Has, LiesIn, in_main, in_ended, in_mutex, NothingIsLost, NoBlockIsLeft}
use Rattle.vf_safety.proofs.Listed.{IsNumberOf, there_number, long_enough}
use Rattle.vf_safety.proofs.Programs.{accepted_programs_are_safe}

positive_whole : IsPositive whole
positive_whole = omega arith

-- ---- what was leaked
no_leak_next : (e : Environment) (p : ProgramTree) → LeaksNowhere e p → (s : State) (t : ℕ) → LeaksNext e p s t → ⊥
no_leak_next e p none s t h = none (h.frame).function h.f (h.frame).step h.function h.leaks

-- what was leaked in share-outs is nothing where no leak stands
pub never_leaked : (e : Environment) (p : ProgramTree) (events : List Event) → LeaksNowhere e p → (k : Kept e p events) → (n : ℕ) → n ≤ length events → (k.outs n).leaked ≡ nothing
never_leaked e p events none k zero l = k.unleaked
never_leaked e p events none k (suc n) l = by_event (slice_get events n) refl (never_leaked e p events none k n (omega (arith, l)))
  where
    past : (xs : List Event) (n : ℕ) → slice_get xs n ≡ None → n < length xs → ⊥
    past [] n is l = absurd (nowhere n l)
      where
        nowhere : (n : ℕ) → n < 0 → ⊥
        nowhere n l = omega (arith, l)
    past (x ∷ xs) zero is l = some_none is
      where
        some_none : Some x ≡ None → ⊥
        some_none h = cc
    past (x ∷ xs) (suc n) is l = past xs n is (omega (arith, l))

    by_event : (o : Option Event) → slice_get events n ≡ o → (k.outs n).leaked ≡ nothing → (k.outs (suc n)).leaked ≡ nothing
    by_event None is earlier = absurd (past events n is (omega (arith, l)))
    by_event (Some event) is earlier =
        let h = k.leaks n event is in
        (h.sums).adds ∙ ap (λ z. z ⊕ (k.outs n).leaked) (h.unleaked (no_leak_next e p none (before p events n) event.thread)) ∙ nothing-⊕ (k.outs n).leaked ∙ earlier

pub nothing_is_leaked : NothingIsLeaked
nothing_is_leaked e p accepted none events = let k = (accepted_programs_are_safe e p accepted events).1 in record { kept = k; unleaked = never_leaked e p events none k }

-- ---- who has what a sum has
none_of_nothing : (q : Part) (l : Location) (c : Content) → q ≡ nothing → IsPositive (q l c) → ⊥
unfolding nothing
none_of_nothing q l c is positive = not_nought (q l c) (ap (λ (z : Part). z l c) is) positive

abbrev AnyOf : (Part → Type 0) → List Part → Type 0
AnyOf P [] = ⊥
AnyOf P (q ∷ qs) = P q ⊎ AnyOf P qs

any_positive : (qs : List Part) (all : Part) (l : Location) (c : Content) → SumsTo qs all → IsPositive (all l c) → AnyOf (λ q. IsPositive (q l c)) qs
any_positive [] all l c is positive = none_of_nothing all l c is positive
any_positive (q ∷ qs) all l c h positive = elim (in_either q h.0 all h.2 l c positive) [ inl x ↦ inl x | inr x ↦ inr (any_positive qs h.0 l c h.1 x) ]

any_apart : (P : Part → Type 0) (xs ys : List Part) → AnyOf P (xs ++ ys) → AnyOf P xs ⊎ AnyOf P ys
any_apart P [] ys h = inr h
any_apart P (x ∷ xs) ys (inl h) = inl (inl h)
any_apart P (x ∷ xs) ys (inr h) = elim (any_apart P xs ys h) [ inl a ↦ inl (inr a) | inr b ↦ inr b ]

any_in_range : (P : Part → Type 0) (f : ℕ → Part) (a n : ℕ) → AnyOf P (map f (range_with_len a n)) → (t : ℕ) × (t < a + n) × P (f t)
any_in_range P f a zero h = absurd h
any_in_range P f a (suc n) (inl h) = (a, omega arith, h)
any_in_range P f a (suc n) (inr h) = let (t, l, x) = any_in_range P f (a + 1) n h in (t, omega (arith, l), x)

any_mapped : (P : Part → Type 0) (f : ℕ → Part) (bs : List ℕ) → AnyOf P (map f bs) → (b : ℕ) × P (f b)
any_mapped P f [] h = absurd h
any_mapped P f (b ∷ bs) (inl h) = (b, h)
any_mapped P f (b ∷ bs) (inr h) = any_mapped P f bs h

-- ---- a handle of a thread is there or not
abbrev IsOf : Option Block → ℕ → Type 0
IsOf block t = (run : Identity) × (argument : Value) × (block ≡ Some (Handle t run argument))

is_of : (block : Option Block) (t : ℕ) → IsOf block t ⊎ (IsOf block t → ⊥)
is_of None t = inr (λ h. none_some h.2)
  where
    none_some : {x : Block} → None ≡ Some x → ⊥
    none_some h = cc
is_of (Some (Struct g cells)) t = inr (λ h. other h.2)
  where
    other : {run : Identity} {argument : Value} → Some (Struct g cells) ≡ Some (Handle t run argument) → ⊥
    other h = cc
is_of (Some (Ints cells)) t = inr (λ h. other h.2)
  where
    other : {run : Identity} {argument : Value} → Some (Ints cells) ≡ Some (Handle t run argument) → ⊥
    other h = cc
is_of (Some (Mutex holder)) t = inr (λ h. other h.2)
  where
    other : {run : Identity} {argument : Value} → Some (Mutex holder) ≡ Some (Handle t run argument) → ⊥
    other h = cc
is_of (Some (Handle u k a)) t = elim (cases_eq u t) [ inl same ↦ inl (k, a, ap (λ z. Some (Handle z k a)) same) | inr apart ↦ inr (λ h. apart (same_thread h.2)) ]
  where
    same_thread : {run : Identity} {argument : Value} → Some (Handle u k a) ≡ Some (Handle t run argument) → u ≡ t
    same_thread h = cc

among_numbers : (s : State) (t : ℕ) (bs : List ℕ) → ((b : ℕ) × IsHandleOf s b t) ⊎ ((b : ℕ) → IsNumberOf b bs → IsHandleOf s b t → ⊥)
among_numbers s t [] = inr (λ b h k. h)
among_numbers s t (b ∷ bs) = elim (is_of (block_at s.memory b) t) [
  | inl h ↦ inl (b, h)
  | inr none ↦ elim (among_numbers s t bs) [ inl h ↦ inl h | inr others ↦ inr (λ c one h. not_one c b one (λ same. none (subst (λ z. IsHandleOf s z t) same h)) (λ later. others c later h)) ]
]
  where
    not_one : (c b : ℕ) → IsNumberOf c (b ∷ bs) → (c ≡ b → ⊥) → (IsNumberOf c bs → ⊥) → ⊥
    not_one c b (inl same) first later = first (sym same)
    not_one c b (inr h) first later = later h

has_handle : (s : State) (t : ℕ) → ((b : ℕ) × IsHandleOf s b t) ⊎ ((b : ℕ) → IsHandleOf s b t → ⊥)
has_handle s t = elim (among_numbers s t (finite.keys s.memory)) [ inl h ↦ inl h | inr none ↦ inr (λ b h. none b (there_number s.memory b (Handle t h.0 h.1) h.2) h) ]

is_free : (block : Option Block) → (block ≡ Some (Mutex None)) ⊎ (block ≢ Some (Mutex None))
is_free None = inr (λ h. cc)
is_free (Some (Struct g cells)) = inr (λ h. cc)
is_free (Some (Ints cells)) = inr (λ h. cc)
is_free (Some (Mutex None)) = inl refl
is_free (Some (Mutex (Some t))) = inr (λ h. cc)
is_free (Some (Handle t run argument)) = inr (λ h. cc)

-- ---- where what is there lies
module _ (e : Environment) (p : ProgramTree) (s : State) (o : ShareOut) (h : IsShareOut e p s o) (none : o.leaked ≡ nothing) (ended : OthersHaveEnded s) where
  by_thread : (t : ℕ) (l : Location) (c : Content) → t < 0 + length s.threads → IsPositive (o.threads t l c) → LiesIn s o l
  by_thread zero l c known positive = in_main (c, positive)
  by_thread (suc t) l c known positive =
      let has_ended = ended (suc t) (suc_zero t) (omega (arith, known)) in
      elim (has_handle s (suc t)) [
        | inl handle ↦ in_ended (suc t) handle.0 (suc_zero t) has_ended handle.1 (c, positive)
        | inr unjoined ↦ absurd (none_of_nothing (o.threads (suc t)) l c (h.joined (suc t) (suc_zero t) has_ended unjoined) positive)
      ]
    where
      suc_zero : (t : ℕ) → suc t ≢ 0
      suc_zero t h = cc

  by_mutex : (b : ℕ) (l : Location) (c : Content) → IsPositive (o.mutexes b l c) → LiesIn s o l
  by_mutex b l c positive = elim (is_free (block_at s.memory b)) [
    | inl free ↦ in_mutex b free (c, positive)
    | inr other ↦ absurd (none_of_nothing (o.mutexes b) l c (h.held b other) positive)
  ]

  by_owner : (l : Location) (c : Content) → AnyOf (λ q. IsPositive (q l c)) (parts_of s o) → LiesIn s o l
  by_owner l c (inl leaked) = absurd (none_of_nothing o.leaked l c none leaked)
  by_owner l c (inr others) = elim (any_apart (λ q. IsPositive (q l c)) (map o.threads (range_with_len 0 (length s.threads))) (map o.mutexes (finite.keys s.memory)) others) [
    | inl threads ↦ let (t, known, positive) = any_in_range (λ q. IsPositive (q l c)) o.threads 0 (length s.threads) threads in by_thread t l c known positive
    | inr mutexes ↦ let (b, positive) = any_mapped (λ q. IsPositive (q l c)) o.mutexes (finite.keys s.memory) mutexes in by_mutex b l c positive
  ]

  pub lies_there : (l : Location) → Has h.all l → LiesIn s o l
  lies_there l (c, positive) = by_owner l c (any_positive (parts_of s o) h.all l c h.sums positive)

-- what is there of a memory is in each part that fits it
has_by : (q : Part) (l : Location) (o : Option Content) (c : Content) → o ≡ Some c → HasThere q l o → Has q l
has_by q l None c is h = absurd (none_some is)
  where
    none_some : None ≡ Some c → ⊥
    none_some h = cc
has_by q l (Some d) c is h = (d, subst IsPositive (sym h.here) positive_whole)

fits_has : (q : Part) (block : Option Block) (l : Location) → FitsAt q block l → IsThere block l → Has q l
fits_has q block (FieldCell b g i) fits h = has_by q (FieldCell b g i) (there block (FieldCell b g i)) h.0 h.1 fits
fits_has q block (IndexCell b i) fits h = has_by q (IndexCell b i) (there block (IndexCell b i)) h.0 h.1 fits
fits_has q block (StructBlock b g) fits h = has_by q (StructBlock b g) (there block (StructBlock b g)) h.0 h.1 fits
fits_has q block (IntBlock b) fits h = has_by q (IntBlock b) (there block (IntBlock b)) h.0 h.1 fits
fits_has q block (MutexAt b) fits h = let (v, just) = subst (FitsMutex q b) h fits in (MutexOf v, subst IsPositive (sym just.here) positive_whole)
fits_has q block (HeldAt b) fits h = let held = subst (FitsHeld q b) h.1 fits in (HeldOf held.invariant h.0 held.given, subst IsPositive (sym (held.held).here) positive_whole)
fits_has q None (HandleAt b) fits h = absurd h
fits_has q (Some (Struct g cells)) (HandleAt b) fits h = absurd h
fits_has q (Some (Ints cells)) (HandleAt b) fits h = absurd h
fits_has q (Some (Mutex holder)) (HandleAt b) fits h = absurd h
fits_has q (Some (Handle t run argument)) (HandleAt b) fits h = (_, subst IsPositive (sym (fits.1).here) positive_whole)

pub nothing_is_lost : NothingIsLost
nothing_is_lost e p accepted none events =
    let k = nothing_is_leaked e p accepted none events in (
      k,
      λ j result r ended.
          let inside = long_enough events j r.event r.is in
          let out = (k.kept).share_outs (suc j) (omega (arith, inside)) in
          record {
            ensured = (k.kept).ensured j r.event result r.is r.of_main r.returns r.last;
            lies = λ l h. lies_there e p (before p events (suc j)) ((k.kept).outs (suc j)) out (k.unleaked (suc j) (omega (arith, inside))) ended l (fits_has out.all (block_at (before p events (suc j)).memory (block_of l)) l (out.fits l) h);
          },
    )

-- ---- each block has a location
some_place : (b : ℕ) (block : Block) → (l : Location) × (block_of l ≡ b) × IsThere (Some block) l
some_place b (Struct g cells) = (StructBlock b g, refl, (Bare, same_there g cells))
  where
    same_there : (g : Identity) (cells : List (Option Value)) → there (Some (Struct g cells)) (StructBlock b g) ≡ Some Bare
    same_there g cells = ap (λ z. cond z (Some Bare) None) (own_identity g)
some_place b (Ints cells) = (IntBlock b, refl, (LengthOf (length cells), refl))
some_place b (Mutex None) = (MutexAt b, refl, refl)
some_place b (Mutex (Some t)) = (HeldAt b, refl, (t, refl))
some_place b (Handle t run argument) = (HandleAt b, refl, tt)

pub no_block_is_left : NoBlockIsLeft
no_block_is_left e p accepted none last events j result r ended shared b = by_block (block_at (before p events (suc j)).memory b) refl
  where
    by_block : (o : Option Block) → block_at (before p events (suc j)).memory b ≡ o → o ≡ None
    by_block None is = refl
    by_block (Some block) is =
        let (k, settled) = nothing_is_lost e p accepted none events in
        let here = settled j result r ended in
        let (l, of_block, there_is) = some_place b block in
        absurd (nobody (here.lies l (subst (λ z. IsThere z l) (sym is ∙ ap (block_at (before p events (suc j)).memory) (sym of_block)) there_is)) (last (k.kept).main (k.kept).contract (k.kept).is_main (k.kept).of_main (k.kept).under result _ here.ensured))
      where
        nobody : {out : ShareOut} {l : Location} → LiesIn (before p events (suc j)) out l → out.threads 0 ≡ nothing → ⊥
        nobody (in_main has) nothing_there = none_of_nothing _ _ has.0 nothing_there has.1
        nobody (in_ended t c other has_ended handle has) nothing_there = shared.handleless c t handle
        nobody (in_mutex c free has) nothing_there = shared.mutexless c free
