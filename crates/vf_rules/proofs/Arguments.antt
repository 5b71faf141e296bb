-- The arguments of chunks: what is asked of them, made sure by the values that they have.
use Rattle.std.proofs.Common.{◌≡◌, ℕ, zero, suc, ◌<◌, ◌-◌, List, [], ◌∷◌, ◌++◌, length, slice_get, Option, Some, None, pos, refl, sym, ap, ap₂, subst, ◌∙◌, ◌⊎◌, inl, inr}
use Rattle.vf_tree.specs.Core.{Identity, ProgramTree}
use Rattle.vf_model.specs.Values.{Dyadic, Value, Values}
use Rattle.vf_model.specs.Values as values
use Rattle.vf_meaning.specs.Fractions.{IsPositive}
use Rattle.vf_meaning.specs.Ghost.{Sort, Pointers, Name}
use Rattle.vf_meaning.specs.Valuations.{Valuation, no_value, value_at, listed}
use Rattle.vf_meaning.specs.GhostValues.{Interpretation, value_of}
use Rattle.vf_meaning.specs.Names.{Uses}
use Rattle.vf_meaning.specs.Assertions.{Head, BlockOf, Named, Family, Applied, BodyName, Instance, BodyTree, Environment}
use Rattle.vf_meaning.specs.Sorts.{HasSort}
use Rattle.vf_meaning.specs.Parts.{Location, MutexAt, HeldAt, HandleAt, Content, MutexOf, HeldOf, HandleOf, Part, single}
use Rattle.vf_meaning.proofs.Parts.{single_here}
use Rattle.vf_meaning.specs.Chunks.{Wanted, Just, Meets, AllMeet, start_of, IsRowAt, Primitive, Mutexes, HeldMutexes, Handles, IntBlocks, IntCells, Others, primitive}
use Rattle.vf_meaning.specs.Chunks as chunks
use Rattle.vf_meaning.specs.Satisfaction.{SatisfiesBody, SatisfiesPrimitive, SatisfiesFamily, SatisfiesHead, SatisfiesIf, MeansAt}
use Rattle.vf_rules.specs.Terms.{Term}
use Rattle.vf_rules.specs.Fresh.{UsesArguments}
use Rattle.vf_rules.specs.Types.{IsTypedContent, IsTypedPart}
use Rattle.vf_rules.specs.Produce.{valued_of, valued_arguments, HasBodySort, primitive_sorts, HasPredicateSort, HasArgumentSort}

-- ---- what is asked, and where nothing is the value that there is
abbrev pub first : List Value → Value
first [] = no_value
first (u ∷ us) = u

abbrev pub rest : List Value → List Value
rest [] = []
rest (u ∷ us) = us

abbrev pub refine_one : ℕ → Wanted → List Value → Wanted
refine_one n (Just w) us = Just w
refine_one zero chunks.Anything us = chunks.Anything
refine_one (suc n) chunks.Anything us = Just (first us)

-- the first n of what is asked, made sure
abbrev pub refined : ℕ → List Wanted → List Value → List Wanted
refined n [] us = []
refined n (w ∷ ws) us = refine_one n w us ∷ refined (n - 1) ws (rest us)

meets_one : (n : ℕ) (w : Wanted) (u : Value) (us : List Value) → Meets w u → Meets (refine_one n w (u ∷ us)) u
meets_one n (Just w) u us h = h
meets_one zero chunks.Anything u us h = tt
meets_one (suc n) chunks.Anything u us h = refl

meets_refined : (n : ℕ) (ws : List Wanted) (us : List Value) → AllMeet ws us → AllMeet (refined n ws us) us
meets_refined n [] [] h = tt
meets_refined n [] (u ∷ us) h = h
meets_refined n (w ∷ ws) [] h = absurd (none w ws h)
  where
    none : (w : Wanted) (ws : List Wanted) → AllMeet (w ∷ ws) [] → ⊥
    none w ws h = h
meets_refined n (w ∷ ws) (u ∷ us) h = (meets_one n w u us h.0, meets_refined (n - 1) ws us h.1)

pub refine_none : (w : Wanted) (us : List Value) → refine_one 0 w us ≡ w
refine_none (Just w) us = refl
refine_none chunks.Anything us = refl

pub refined_none : (ws : List Wanted) (us : List Value) → refined 0 ws us ≡ ws
refined_none [] us = refl
refined_none (w ∷ ws) us = ap₂ (λ a b. a ∷ b) (refine_none w us) (refined_none ws (rest us))

-- ---- the values that the arguments of a head have
-- the value of a number
abbrev pub value_of_number : List Value → ℕ → Value
value_of_number us zero = first us
value_of_number us (suc k) = value_of_number (rest us) k

-- values have the sorts that are known of the arguments of their numbers
abbrev pub AreOfArguments : Environment → (ℕ → Sort → Type 0) → List Value → Type 0
AreOfArguments e Has us = (k : ℕ) (s : Sort) → Has k s → HasSort e (value_of_number us k) s

none_some : {A B : Type 0} {x : A} → None ≡ Some x → B
none_some e = cc

some_same : {A : Type 0} {x y : A} → Some x ≡ Some y → x ≡ y
some_same e = cc

-- values have sorts, one by one
abbrev ListSorted : Environment → List Sort → List Value → Type 0
ListSorted e [] us = Unit {0}
ListSorted e (s ∷ sorts) us = HasSort e (first us) s × ListSorted e sorts (rest us)

sorted_at : (e : Environment) (sorts : List Sort) (us : List Value) → ListSorted e sorts us → (k : ℕ) (s : Sort) → slice_get sorts k ≡ Some s → HasSort e (value_of_number us k) s
sorted_at e [] us h k s is = none_some is
sorted_at e (x ∷ sorts) us h zero s is = subst (HasSort e (first us)) (some_same is) h.0
sorted_at e (x ∷ sorts) us h (suc k) s is = sorted_at e sorts (rest us) h.1 k s is

value_listed : (vs : Values) (k : ℕ) → value_of_number (listed vs) k ≡ value_at vs k
value_listed values.none zero = refl
value_listed values.none (suc k) = no_values k
  where
    no_values : (k : ℕ) → value_of_number [] k ≡ no_value
    no_values zero = refl
    no_values (suc k) = no_values k
value_listed (values.more v vs) zero = refl
value_listed (values.more v vs) (suc k) = value_listed vs k

-- what is owned of a location has its type
owned_typed : (e : Environment) (prog : ProgramTree) (l : Location) (c : Content) (x : Dyadic) (p : Part) → IsPositive x → p ≡ single l c x → IsTypedPart e prog p → IsTypedContent e prog l c
owned_typed e prog l c x p positive owns typed = typed l c (subst IsPositive (sym (ap (λ z. z l c) owns ∙ single_here l c x)) positive)

-- a pointer into a row, and null where the row is empty
pointer_of_row : List (Option Value) → Value → Value
pointer_of_row [] u = values.Null
pointer_of_row (held ∷ row) u = u

-- where nothing is asked of the pointer of a row it may be this one
chosen_pointer : Wanted → List (Option Value) → Value → Value
chosen_pointer (Just w) row u = u
chosen_pointer chunks.Anything row u = pointer_of_row row u

pointer_sorted : (e : Environment) (x : Dyadic) (u : Value) (row : List (Option Value)) (p : Part) → IsRowAt x u row p → HasSort e (pointer_of_row row u) Pointers
unfolding pointer_of_row
pointer_sorted e x u [] p h = inl refl
pointer_sorted e x (values.Pointer b o) (held ∷ row) p h = inl refl
pointer_sorted e x (values.Number z) (held ∷ row) p h = absurd h
pointer_sorted e x (values.Truth z) (held ∷ row) p h = absurd h
pointer_sorted e x values.Null (held ∷ row) p h = absurd h
pointer_sorted e x (values.Function g) (held ∷ row) p h = absurd h
pointer_sorted e x (values.Constructed c vs) (held ∷ row) p h = absurd h
pointer_sorted e x (values.Predicate q vs) (held ∷ row) p h = absurd h
pointer_sorted e x (values.Fraction d) (held ∷ row) p h = absurd h

pointer_meets : (w : Wanted) (u : Value) (row : List (Option Value)) (us : List Value) → Meets w u → Meets (refine_one 2 w (pointer_of_row row u ∷ us)) (chosen_pointer w row u)
unfolding chosen_pointer
pointer_meets (Just w) u row us h = h
pointer_meets chunks.Anything u row us h = refl

row_still : (w : Wanted) (x : Dyadic) (u : Value) (row : List (Option Value)) (p : Part) → IsRowAt x u row p → IsRowAt x (chosen_pointer w row u) row p
unfolding chosen_pointer pointer_of_row
row_still (Just w) x u row p h = h
row_still chunks.Anything x u [] p h = h
row_still chunks.Anything x u (held ∷ row) p h = h

module _ (e : Environment) (prog : ProgramTree) (n : ℕ) where
  -- arguments as asked, made sure by values that have their sorts
  abbrev Valued : (List Wanted → Part → Type 0) → (ℕ → Sort → Type 0) → ℕ → List Wanted → Part → Type 0
  Valued Holds Has m ws p = (us : List Value) × Holds (refined m ws us) p × AreOfArguments e Has us

  body_sorted : (x : Dyadic) (b : BodyName) (vs : Values) (p : Part) → MeansAt e n x b vs p → AreOfArguments e (HasBodySort e b) (listed vs)
  body_sorted x b vs p h k s has = go n h (e.bodies b) refl
    where
      at : (m : ℕ) (o : Option BodyTree) → e.bodies b ≡ o → SatisfiesIf e (MeansAt e m) x o vs p → HasSort e (value_of_number (listed vs) k) s
      at m None is h = absurd h
      at m (Some body) is h =
          let (inside, known) = has body is in
          subst (λ z. HasSort e z s) (h.begins k (subst (λ z. k < z) (sym h.number) inside) ∙ sym (value_listed vs k)) (h.sorts k s known)

      go : (m : ℕ) → MeansAt e m x b vs p → (o : Option BodyTree) → e.bodies b ≡ o → HasSort e (value_of_number (listed vs) k) s
      go zero h o is = absurd h
      go (suc m) h o is = at m o is (subst (λ z. SatisfiesIf e (MeansAt e m) x z vs p) is h)

  body_valued : (m : ℕ) (x : Dyadic) (b : BodyName) (ws : List Wanted) (p : Part) → SatisfiesBody (MeansAt e n) x b ws p → Valued (SatisfiesBody (MeansAt e n) x b) (HasBodySort e b) m ws p
  body_valued m x b ws p h = (listed h.0, (h.0, meets_refined m ws (listed h.0) h.1, h.2), body_sorted x b h.0 p h.2)

  primitive_valued : (k : Primitive) (m : ℕ) (x : Dyadic) (q : Identity) (ws : List Wanted) (p : Part) → IsPositive x → IsTypedPart e prog p → SatisfiesPrimitive (MeansAt e n) k x q ws p
      → Valued (SatisfiesPrimitive (MeansAt e n) k x q) (HasPredicateSort e k q) (valued_of k m) ws p
  primitive_valued Mutexes m x q ws p above typed h =
      let invariant = owned_typed e prog (MutexAt h.block) (MutexOf h.invariant) x p above h.owns typed in (
        start_of h.block ∷ h.invariant ∷ [],
        record { block = h.block; invariant = h.invariant; meet = meets_refined m ws _ h.meet; owns = h.owns },
        sorted_at e (primitive_sorts Mutexes) _ (inl refl, (invariant, tt)),
      )
  primitive_valued HeldMutexes m x q ws p above typed h =
      let held = owned_typed e prog (HeldAt h.block) (HeldOf h.invariant h.holder h.given) x p above h.owns typed in (
        start_of h.block ∷ h.invariant ∷ values.Number (pos h.holder) ∷ values.Fraction h.given ∷ [],
        record { block = h.block; invariant = h.invariant; holder = h.holder; given = h.given; meet = meets_refined m ws _ h.meet; owns = h.owns },
        sorted_at e (primitive_sorts HeldMutexes) _ (inl refl, (held.0, (inl refl, ((inl refl, held.1), tt)))),
      )
  primitive_valued Handles m x q ws p above typed h =
      let handle = owned_typed e prog (HandleAt h.block) (HandleOf h.run h.argument h.info) x p above h.owns typed in (
        start_of h.block ∷ h.run ∷ h.argument ∷ h.info ∷ [],
        record { block = h.block; run = h.run; argument = h.argument; info = h.info; meet = meets_refined m ws _ h.meet; owns = h.owns },
        sorted_at e (primitive_sorts Handles) _ (inl refl, (handle.0, (handle.1, (handle.2, tt)))),
      )
  primitive_valued IntBlocks m x q ws p above typed h = (
    start_of h.block ∷ values.Number (pos h.size) ∷ [],
    record { block = h.block; size = h.size; meet = meets_refined m ws _ h.meet; owns = h.owns },
    sorted_at e (primitive_sorts IntBlocks) _ (inl refl, (inl refl, tt)),
  )
  primitive_valued IntCells m x q (at ∷ many ∷ which ∷ []) p above typed h = (
    pointer_of_row h.1 h.0 ∷ values.Number (pos (length h.1)) ∷ [],
    (
      chosen_pointer at h.1 h.0,
      h.1,
      pointer_meets at h.0 h.1 _ h.2,
      meets_one 1 many (values.Number (pos (length h.1))) [] h.3,
      subst (λ z. chunks.RowMeets z h.1) (sym (refine_none which [])) h.4,
      row_still at x h.0 h.1 p h.5,
    ),
    sorted_at e (primitive_sorts IntCells) _ (pointer_sorted e x h.0 h.1 p h.5, (inl refl, tt)),
  )
  primitive_valued IntCells m x q [] p above typed h = absurd h
  primitive_valued IntCells m x q (at ∷ []) p above typed h = absurd h
  primitive_valued IntCells m x q (at ∷ many ∷ []) p above typed h = absurd h
  primitive_valued IntCells m x q (at ∷ many ∷ which ∷ more ∷ ws) p above typed h = absurd h
  primitive_valued Others m x q ws p above typed h = body_valued m x _ ws p h

  family_valued : (m : ℕ) (x : Dyadic) (q : Identity) (w : Value) (ws : List Wanted) (p : Part) → SatisfiesFamily (MeansAt e n) x q w ws p
      → Valued (SatisfiesFamily (MeansAt e n) x q w) (λ k s. (g : Identity) → HasBodySort e (Instance q g) k s) m ws p
  family_valued m x q (values.Function g) ws p h = let (us, holds, sorted) = body_valued m x _ ws p h in (us, holds, λ k s has. sorted k s (has g))
  family_valued m x q _ ws p h = absurd h

  pub head_valued : (i : Interpretation) (c : Dyadic) (m : ℕ) (x : Dyadic) (head : Head) (v : Valuation) (ws : List Wanted) (p : Part) → IsPositive x → IsTypedPart e prog p → SatisfiesHead (MeansAt e n) i c x head v ws p
      → Valued (SatisfiesHead (MeansAt e n) i c x head v) (HasArgumentSort e head) (valued_arguments head m) ws p
  head_valued i c m x (BlockOf g) v ws p above typed h = (start_of h.block ∷ [], record { block = h.block; meet = meets_refined m ws _ h.meet; owns = h.owns }, sorted_at e (Pointers ∷ []) _ (inl refl, tt))
  head_valued i c m x (Named q) v ws p above typed h = primitive_valued (primitive q) m x q ws p above typed h
  head_valued i c m x (Family q t) v ws p above typed h = family_valued m x q (value_of i v t) ws p h
  head_valued i c m x (Applied t) v ws p above typed h = ([], subst (λ us. SatisfiesHead (MeansAt e n) i c x (Applied t) v us p) (sym (refined_none ws [])) h, λ k s has. absurd has)

-- ---- a term is among arguments
abbrev pub Among : List (Option Term) → Term → Type 0
Among [] t = ⊥
Among (o ∷ ts) t = (o ≡ Some t) ⊎ Among ts t

pub among_more : (ts us : List (Option Term)) (t : Term) → Among ts t → Among (ts ++ us) t
among_more [] us t h = absurd h
among_more (o ∷ ts) us t h = elim h [ inl e ↦ inl e | inr k ↦ inr (among_more ts us t k) ]

pub among_last : (ts : List (Option Term)) (t : Term) → Among (ts ++ Some t ∷ []) t
among_last [] t = inl refl
among_last (o ∷ ts) t = inr (among_last ts t)

pub among_uses : (ts : List (Option Term)) (t : Term) (x : Name) → Among ts t → Uses t x → UsesArguments ts x
among_uses [] t x h u = absurd h
among_uses (None ∷ ts) t x h u = elim h [ inl e ↦ absurd (none_some e) | inr k ↦ among_uses ts t x k u ]
  where
    none_some : {t : Term} → None ≡ Some t → ⊥
    none_some e = cc
among_uses (Some o ∷ ts) t x h u = elim h [ inl e ↦ inl (subst (λ z. Uses z x) (sym (some_same e)) u) | inr k ↦ inr (among_uses ts t x k u) ]
  where
    some_same : {a b : Term} → Some a ≡ Some b → a ≡ b
    some_same e = cc
