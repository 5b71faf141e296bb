-- A part that is shared among owners: threads, mutexes, and what was leaked.
use Rattle.std.proofs.Common.{◌≡◌, ◌≢◌, ℕ, List, [], ◌∷◌, map, refl, sym, ap, ap₂, subst, ◌∙◌, ◌⊎◌, inl, inr}
use Rattle.std.proofs.lemmas.Bool.{cases_eq}
use Rattle.vf_meaning.specs.Parts.{Part, nothing, ◌⊕◌, IsSum}
use Rattle.vf_meaning.specs.ShareOuts.{SumsTo}
use Rattle.vf_meaning.proofs.Parts.{sums_turn, sums_regroup, nothing_is_neutral, nothing-⊕}

-- who owns a part
pub data Owner : Type 0 where
  OfThread : ℕ → Owner
  OfMutex : ℕ → Owner
  Leaked : Owner

thread_same : {t u : ℕ} → OfThread t ≡ OfThread u → t ≡ u
thread_same h = cc

mutex_same : {b c : ℕ} → OfMutex b ≡ OfMutex c → b ≡ c
mutex_same h = cc

pub same_or_other : (o x : Owner) → (o ≡ x) ⊎ (o ≢ x)
same_or_other (OfThread t) (OfThread u) = elim (cases_eq t u) [ inl e ↦ inl (ap OfThread e) | inr other ↦ inr (λ h. other (thread_same h)) ]
same_or_other (OfMutex b) (OfMutex c) = elim (cases_eq b c) [ inl e ↦ inl (ap OfMutex e) | inr other ↦ inr (λ h. other (mutex_same h)) ]
same_or_other Leaked Leaked = inl refl
same_or_other (OfThread t) (OfMutex c) = inr (λ h. cc)
same_or_other (OfThread t) Leaked = inr (λ h. cc)
same_or_other (OfMutex b) (OfThread u) = inr (λ h. cc)
same_or_other (OfMutex b) Leaked = inr (λ h. cc)
same_or_other Leaked (OfThread u) = inr (λ h. cc)
same_or_other Leaked (OfMutex c) = inr (λ h. cc)

-- what each owner has
abbrev pub Owning : Type 0
Owning = Owner → Part

-- the first where the left holds, else the second
pub chosen : {A B C : Type 0} → A ⊎ B → C → C → C
chosen (inl h) q r = q
chosen (inr h) q r = r

pub chosen_left : {A C : Type 0} (h : A ⊎ (A → ⊥)) (q r : C) → A → chosen h q r ≡ q
unfolding chosen
chosen_left (inl e) q r is = refl
chosen_left (inr other) q r is = absurd (other is)

pub chosen_right : {A C : Type 0} (h : A ⊎ (A → ⊥)) (q r : C) → (A → ⊥) → chosen h q r ≡ r
unfolding chosen
chosen_right (inl e) q r other = absurd (other e)
chosen_right (inr h) q r other = refl

-- the same with another part for one owner
pub with_part : Owning → Owner → Part → Owning
with_part parts o q x = chosen (same_or_other x o) q (parts x)

pub part_own : (parts : Owning) (o : Owner) (q : Part) → with_part parts o q o ≡ q
unfolding with_part
part_own parts o q = chosen_left (same_or_other o o) q (parts o) refl

pub part_other : (parts : Owning) (o : Owner) (q : Part) (x : Owner) → x ≢ o → with_part parts o q x ≡ parts x
unfolding with_part
part_other parts o q x other = chosen_right (same_or_other x o) q (parts x) other

-- an owner is one of several
abbrev pub IsAmong : Owner → List Owner → Type 0
IsAmong o [] = ⊥
IsAmong o (x ∷ xs) = (x ≡ o) ⊎ IsAmong o xs

-- no owner stands twice
abbrev pub AreDistinct : List Owner → Type 0
AreDistinct [] = Unit {0}
AreDistinct (x ∷ xs) = (IsAmong x xs → ⊥) × AreDistinct xs

among_or_not : (o : Owner) (xs : List Owner) → IsAmong o xs ⊎ (IsAmong o xs → ⊥)
among_or_not o [] = inr (λ h. h)
among_or_not o (x ∷ xs) =
    elim (same_or_other x o) [
      | inl e ↦ inl (inl e)
      | inr other ↦ elim (among_or_not o xs) [ inl h ↦ inl (inr h) | inr none ↦ inr (λ h. either other none h) ]
    ]
  where
    either : {A B : Type 0} → (A → ⊥) → (B → ⊥) → A ⊎ B → ⊥
    either f g (inl a) = f a
    either f g (inr b) = g b

-- A part is shared out: it is the sum of what some owners have, and no other owner has anything
pub record Shared (parts : Owning) (all : Part) : Type 0 where
  pub owners : List Owner
  pub distinct : AreDistinct owners
  pub covered : (o : Owner) → (IsAmong o owners → ⊥) → parts o ≡ nothing
  pub sums : SumsTo (map parts owners) all

-- two ways of sharing agree on some owners
same_parts : (parts others : Owning) (xs : List Owner) → ((o : Owner) → IsAmong o xs → parts o ≡ others o) → map parts xs ≡ map others xs
same_parts parts others [] h = refl
same_parts parts others (x ∷ xs) h = ap₂ (λ q qs. q ∷ qs) (h x (inl refl)) (same_parts parts others xs (λ o i. h o (inr i)))

not_same : (x : Owner) (xs : List Owner) → (IsAmong x xs → ⊥) → (o : Owner) → IsAmong o xs → o ≢ x
not_same x xs none o i h = none (subst (λ z. IsAmong z xs) h i)

-- what one owner has, and what the others have
pub record Opened (parts : Owning) (o : Owner) (all : Part) : Type 0 where
  pub rest : Part
  pub sums : IsSum (parts o) rest all
  pub shared : Shared (with_part parts o nothing) rest

open_sums : (parts : Owning) (o : Owner) (xs : List Owner) (all : Part) → AreDistinct xs → IsAmong o xs → SumsTo (map parts xs) all → (rest : Part) × IsSum (parts o) rest all × SumsTo (map (with_part parts o nothing) xs) rest
open_sums parts o [] all distinct i h = absurd i
open_sums parts o (x ∷ xs) all distinct (inl e) h = (
  h.0,
  subst (λ z. IsSum (parts z) h.0 all) e h.2,
  (
    h.0,
    subst (λ z. SumsTo z h.0) (same_parts parts (with_part parts o nothing) xs (λ y i. sym (part_other parts o nothing y (λ k. not_same x xs distinct.0 y i (k ∙ sym e))))) h.1,
    subst (λ z. IsSum z h.0 h.0) (sym (ap (with_part parts o nothing) e ∙ part_own parts o nothing)) (nothing_is_neutral h.0),
  ),
)
open_sums parts o (x ∷ xs) all distinct (inr i) h =
    let (rest, sums, others) = open_sums parts o xs h.0 distinct.1 i h.1 in
    let (both, one, whole_is) = sums_regroup (parts o) rest h.0 (parts x) all sums (sums_turn (parts x) h.0 all h.2) in
    (both, whole_is, (rest, others, subst (λ z. IsSum z rest both) (sym (part_other parts o nothing x (λ e. distinct.0 (subst (λ z. IsAmong z xs) (sym e) i)))) (sums_turn rest (parts x) both one)))

pub opened : (parts : Owning) (all : Part) (h : Shared parts all) (o : Owner) → Opened parts o all
opened parts all h o =
    elim (among_or_not o h.owners) [
      | inl i ↦
          let r = open_sums parts o h.owners all h.distinct i h.sums in
          record {
            rest = r.0;
            sums = r.1;
            shared = record { owners = h.owners; distinct = h.distinct; covered = λ x none. cleared parts o x (h.covered x none); sums = r.2 };
          }
      | inr none ↦
          let empty = h.covered o none in
          record {
            rest = all;
            sums = subst (λ z. IsSum z all all) (sym empty) (nothing_is_neutral all);
            shared = record {
              owners = h.owners;
              distinct = h.distinct;
              covered = λ x other. cleared parts o x (h.covered x other);
              sums = subst (λ z. SumsTo z all) (same_parts parts (with_part parts o nothing) h.owners (λ x i. sym (part_other parts o nothing x (λ e. none (subst (λ z. IsAmong z h.owners) e i))))) h.sums;
            };
          }
    ]
  where
    cleared : (parts : Owning) (o x : Owner) → parts x ≡ nothing → with_part parts o nothing x ≡ nothing
    cleared parts o x none = elim (same_or_other x o) [ inl e ↦ ap (with_part parts o nothing) e ∙ part_own parts o nothing | inr other ↦ part_other parts o nothing x other ∙ none ]

close_sums : (parts : Owning) (o : Owner) (q : Part) (xs : List Owner) (rest all : Part) → AreDistinct xs → IsAmong o xs → parts o ≡ nothing → SumsTo (map parts xs) rest → IsSum q rest all → SumsTo (map (with_part parts o q) xs) all
close_sums parts o q [] rest all distinct i none h sums = absurd i
close_sums parts o q (x ∷ xs) rest all distinct (inl e) none h sums =
    let rest_is : rest ≡ h.0 = (h.2).adds ∙ ap (λ z. z ⊕ h.0) (ap parts e ∙ none) ∙ nothing-⊕ h.0 in (
      h.0,
      subst (λ z. SumsTo z h.0) (same_parts parts (with_part parts o q) xs (λ y i. sym (part_other parts o q y (λ k. not_same x xs distinct.0 y i (k ∙ sym e))))) h.1,
      subst (λ z. IsSum z h.0 all) (sym (ap (with_part parts o q) e ∙ part_own parts o q)) (subst (λ z. IsSum q z all) rest_is sums),
    )
close_sums parts o q (x ∷ xs) rest all distinct (inr i) none h sums =
    let (both, one, whole_is) = sums_regroup (parts x) h.0 rest q all h.2 (sums_turn q rest all sums) in
    (both, close_sums parts o q xs h.0 both distinct.1 i none h.1 (sums_turn h.0 q both one), subst (λ z. IsSum z both all) (sym (part_other parts o q x (λ e. distinct.0 (subst (λ z. IsAmong z xs) (sym e) i)))) whole_is)

-- an owner without a part gets one
pub closed : (parts : Owning) (rest : Part) (h : Shared parts rest) (o : Owner) (q all : Part) → parts o ≡ nothing → IsSum q rest all → Shared (with_part parts o q) all
closed parts rest h o q all none sums =
    elim (among_or_not o h.owners) [
      | inl i ↦ record { owners = h.owners; distinct = h.distinct; covered = λ x other. part_other parts o q x (λ e. other (subst (λ z. IsAmong z h.owners) (sym e) i)) ∙ h.covered x other; sums = close_sums parts o q h.owners rest all h.distinct i none h.sums sums }
      | inr new ↦ record {
        owners = o ∷ h.owners;
        distinct = (new, h.distinct);
        covered = λ x other. part_other parts o q x (λ e. other (inl (sym e))) ∙ h.covered x (λ i. other (inr i));
        sums = (
          rest,
          subst (λ z. SumsTo z rest) (same_parts parts (with_part parts o q) h.owners (λ x i. sym (part_other parts o q x (λ e. new (subst (λ z. IsAmong z h.owners) e i))))) h.sums,
          subst (λ z. IsSum z rest all) (sym (part_own parts o q)) sums,
        );
      }
    ]

-- an owner gets more
pub record Added (parts : Owning) (o : Owner) (q all : Part) : Type 0 where
  pub new : Part
  pub sums : IsSum q (parts o) new
  pub shared : Shared (with_part (with_part parts o nothing) o new) all

pub added : (parts : Owning) (rest : Part) (h : Shared parts rest) (o : Owner) (q all : Part) → IsSum q rest all → Added parts o q all
added parts rest h o q all sums =
    let x = opened parts rest h o in
    let (both, one, whole_is) = sums_regroup (parts o) x.rest rest q all x.sums (sums_turn q rest all sums) in
    let (new, inner, outer) = turned q (parts o) x.rest both all one whole_is in
    record { new = new; sums = inner; shared = closed (with_part parts o nothing) x.rest x.shared o new all (part_own parts o nothing) outer }
  where
    turned : (q own rest both all : Part) → IsSum rest q both → IsSum own both all → (new : Part) × IsSum q own new × IsSum new rest all
    turned q own rest both all one two =
        let (new, inner, outer) = sums_regroup rest q both own all one (sums_turn own both all two) in
        (new, inner, sums_turn rest new all outer)

-- nothing is shared where no owner has anything
nothing_sums : (parts : Owning) (xs : List Owner) (all : Part) → ((o : Owner) → parts o ≡ nothing) → SumsTo (map parts xs) all → all ≡ nothing
nothing_sums parts [] all none h = h
nothing_sums parts (x ∷ xs) all none h = (h.2).adds ∙ ap (λ z. z ⊕ h.0) (none x) ∙ nothing-⊕ h.0 ∙ nothing_sums parts xs h.0 none h.1

pub nothing_shared : (parts : Owning) (all : Part) → Shared parts all → ((o : Owner) → parts o ≡ nothing) → all ≡ nothing
nothing_shared parts all h none = nothing_sums parts h.owners all none h.sums

-- what is shared is the sum over any list of different owners that has all who own something
pub gathered : (xs : List Owner) (parts : Owning) (all : Part) → Shared parts all → AreDistinct xs → ((o : Owner) → (IsAmong o xs → ⊥) → parts o ≡ nothing) → SumsTo (map parts xs) all
gathered [] parts all h distinct none = nothing_shared parts all h (λ o. none o (λ i. i))
gathered (x ∷ xs) parts all h distinct none =
    let o = opened parts all h x in
    let inner = gathered xs (with_part parts x nothing) o.rest o.shared distinct.1 (λ y other. elim (same_or_other y x) [
      | inl e ↦ ap (with_part parts x nothing) e ∙ part_own parts x nothing
      | inr apart ↦ part_other parts x nothing y apart ∙ none y (λ i. either x y xs apart other i)
    ]) in
    (o.rest, subst (λ z. SumsTo z o.rest) (same_parts (with_part parts x nothing) parts xs (λ y i. part_other parts x nothing y (not_same x xs distinct.0 y i))) inner, o.sums)
  where
    either : (x y : Owner) (xs : List Owner) → (y ≢ x) → (IsAmong y xs → ⊥) → (x ≡ y) ⊎ IsAmong y xs → ⊥
    either x y xs f g (inl e) = f (sym e)
    either x y xs f g (inr i) = g i
