-- The constructors that are declared stand among items, each in the datatype of its number.
use Rattle.std.proofs.Common.{◌≡◌, refl, sym, ap, subst, ◌∙◌, ◌⊎◌, inl, inr, ⊎_elim, ℕ, zero, suc, ◌+◌, ◌≤◌, true, false, List, [], ◌∷◌, ◌++◌, length, length-append, slice_get, Option, Some, None, is_some, arith}
use Rattle.std.specs.Prelude.{◌<◌}
use Rattle.std.specs.Option.{option_or}
use Rattle.vf_names.specs.Names.{number_of}
use Rattle.vf_declared.specs.declared.declaration.Constructor.{Constructor}
use Rattle.vf_declared.specs.declared.declaration.GhostDeclaration.{GhostDeclaration}
use Rattle.vf_declared.specs.declared.declaration.GhostDeclaration.TheVariants as ghosts
use Rattle.vf_declared.specs.declared.scope.Scope.{Scope}
use Rattle.vf_syntax.specs.declared.item.Constructor.{Constructor as Written}
use Rattle.vf_syntax.specs.declared.item.Item.{Item}
use Rattle.vf_syntax.specs.declared.written.Name.{Name}
use Rattle.vf_recursion.specs.Faults.{constructors_at, constructors_named, names_of, or_none}
use Rattle.vf_fixpoint_laws.proofs.definable.Lists.{number_front}
use Rattle.vf_fixpoint_laws.proofs.descending.Building.{AreBuilt, Builds, IsBuilt, built_at, builds_more, number_at}
use Rattle.vf_fixpoint_laws.proofs.descending.Levels.{Adds, AreFresh, AreOther, IsOther, More, all_both, all_wider, level, longer}
use Rattle.vf_fixpoint_laws.proofs.descending.Lists.{none_some, some_same}
use Rattle.vf_fixpoint_laws.proofs.descending.Meanings.{IsOrderly, Means, means_before, means_either, numbered}

-- ---- constructors that items name
named_more : (y : List ℕ) (xs ys : List Item) → constructors_named y (xs ++ ys) ≡ option_or (constructors_named y xs) (constructors_named y ys)
named_more y [] ys = refl
named_more y (x ∷ xs) ys = by (constructors_at y x) (named_more y xs ys)
  where
    by : (o : Option (List (List ℕ))) → constructors_named y (xs ++ ys) ≡ option_or (constructors_named y xs) (constructors_named y ys) → option_or o (constructors_named y (xs ++ ys)) ≡ option_or (option_or o (constructors_named y xs)) (constructors_named y ys)
    by None e = e
    by (Some L) e = refl

-- a name is one of some names
abbrev pub IsOneOf : List ℕ → List (List ℕ) → Type 0
IsOneOf z L = (j : ℕ) × (slice_get L j ≡ Some z)

-- names that there are stay, where more items come behind
stays_named : (y z : List ℕ) (xs ys : List Item) → IsOneOf z (or_none (constructors_named y xs)) → IsOneOf z (or_none (constructors_named y (xs ++ ys)))
stays_named y z xs ys h = subst (λ o. IsOneOf z (or_none o)) (sym (named_more y xs ys)) (by (constructors_named y xs) h)
  where
    by : (o : Option (List (List ℕ))) → IsOneOf z (or_none o) → IsOneOf z (or_none (option_or o (constructors_named y ys)))
    by None h = absurd (none_some h.1)
    by (Some L) h = h

-- ---- declarations of datatypes with numbers below one
abbrev pub IsBelow : ℕ → GhostDeclaration → Type 0
IsBelow m (ghosts.Datatype d) = d < m
IsBelow m (ghosts.Constructor k) = k.datatype < m
IsBelow m g = Unit {0}

abbrev pub AreBelow : ℕ → List GhostDeclaration → Type 0
AreBelow m [] = Unit {0}
AreBelow m (g ∷ gs) = IsBelow m g × AreBelow m gs

below_at : (m : ℕ) (gs : List GhostDeclaration) (k : ℕ) (g : GhostDeclaration) → AreBelow m gs → slice_get gs k ≡ Some g → IsBelow m g
below_at m [] k g h e = absurd cc
below_at m (x ∷ gs) zero g h e = subst (IsBelow m) (some_same e) h.0
below_at m (x ∷ gs) (suc k) g h e = below_at m gs k g h.1 e

below_wider : (m n : ℕ) → m ≤ n → (g : GhostDeclaration) → IsBelow m g → IsBelow n g
below_wider m n l (ghosts.Datatype d) h = omega (arith, l, h)
below_wider m n l (ghosts.Constructor k) h = omega (arith, l, h)
below_wider m n l (ghosts.Fixpoint f) h = tt
below_wider m n l (ghosts.Predicate f) h = tt
below_wider m n l (ghosts.Family f) h = tt
below_wider m n l (ghosts.PredicateConstructor f) h = tt
below_wider m n l (ghosts.Lemma f) h = tt

all_below_wider : (m n : ℕ) → m ≤ n → (gs : List GhostDeclaration) → AreBelow m gs → AreBelow n gs
all_below_wider m n l [] h = tt
all_below_wider m n l (g ∷ gs) h = (below_wider m n l g h.0, all_below_wider m n l gs h.1)

below_both : (m : ℕ) (gs hs : List GhostDeclaration) → AreBelow m gs → AreBelow m hs → AreBelow m (gs ++ hs)
below_both m [] hs h k = k
below_both m (g ∷ gs) hs h k = (h.0, below_both m gs hs h.1 k)

other_below : (m : ℕ) (g : GhostDeclaration) → IsOther g → IsBelow m g
other_below m (ghosts.Datatype d) h = absurd h
other_below m (ghosts.Constructor k) h = absurd h
other_below m (ghosts.Fixpoint f) h = tt
other_below m (ghosts.Predicate f) h = tt
other_below m (ghosts.Family f) h = tt
other_below m (ghosts.PredicateConstructor f) h = tt
other_below m (ghosts.Lemma f) h = tt

others_below : (m : ℕ) (gs : List GhostDeclaration) → AreOther gs → AreBelow m gs
others_below m [] h = tt
others_below m (g ∷ gs) h = (other_below m g h.0, others_below m gs h.1)

one_built_below : (m d : ℕ) (g : GhostDeclaration) → d < m → IsBuilt d g → IsBelow m g
one_built_below m d (ghosts.Constructor k) l h = omega (arith, l, h)
one_built_below m d (ghosts.Datatype e) l h = absurd h
one_built_below m d (ghosts.Fixpoint f) l h = absurd h
one_built_below m d (ghosts.Predicate f) l h = absurd h
one_built_below m d (ghosts.Family f) l h = absurd h
one_built_below m d (ghosts.PredicateConstructor f) l h = absurd h
one_built_below m d (ghosts.Lemma f) l h = absurd h

built_below : (m d : ℕ) (gs : List GhostDeclaration) → d < m → AreBuilt d gs → AreBelow m gs
built_below m d [] l h = tt
built_below m d (g ∷ gs) l h = (one_built_below m d g l h.0, built_below m d gs l h.1)

-- ---- what stands
-- a datatype's name is that of an item which names each of its constructors
abbrev pub AreNamed : List Item → Scope → Type 0
AreNamed xs s = (y z : List ℕ) (d : ℕ) (k : Constructor) → Means (level s) y (ghosts.Datatype d) → Means (level s) z (ghosts.Constructor k) → k.datatype ≡ d → IsOneOf z (or_none (constructors_named y xs))

-- what is declared behind items: names beside meanings, datatypes with numbers below their count, and the constructors that the items name
pub record Stands (xs : List Item) (s : Scope) : Type 0 where
  pub orderly : IsOrderly (level s)
  pub whole : AreBelow (length s.datatypes) s.ghosts
  pub declared : (y : List ℕ) (L : List (List ℕ)) → constructors_named y xs ≡ Some L → is_some (number_of s.names y) ≡ true
  pub named : AreNamed xs s

orderly_more : (s t : Scope) → More (level s) (level t) → IsOrderly (level s) → IsOrderly (level t)
orderly_more s t m o = record {
  beside =
      let a : length (level t).names ≡ length (level s).names + length m.more_names = ap length m.names ∙ length-append (level s).names m.more_names in
      let b : length (level t).meanings ≡ length (level s).meanings + length m.more_meanings = ap length m.meanings ∙ length-append (level s).meanings m.more_meanings in
      let p = o.beside in
      let q = m.beside in
      omega (arith, a, b, p, q);
  fresh = subst (AreFresh 0 (length t.ghosts)) (sym m.meanings)
      (all_both 0 (length t.ghosts) (level s).meanings m.more_meanings (all_wider 0 (length s.ghosts) 0 (length t.ghosts) (omega arith) (longer s.ghosts m.more_ghosts t.ghosts m.ghosts) (level s).meanings o.fresh)
      (all_wider (length s.ghosts) (length t.ghosts) 0 (length t.ghosts) (omega arith) (omega arith) m.more_meanings m.fresh));
}

found_more : (xs ys : List (List ℕ)) (y : List ℕ) (o : Option ℕ) → number_of xs y ≡ o → is_some o ≡ true → is_some (number_of (xs ++ ys) y) ≡ true
found_more xs ys y None e h = absurd cc
found_more xs ys y (Some n) e h = ap is_some (number_front xs ys y n e)

declared_more : (s t : Scope) → More (level s) (level t) → (y : List ℕ) → is_some (number_of s.names y) ≡ true → is_some (number_of t.names y) ≡ true
declared_more s t m y h = subst (λ xs. is_some (number_of xs y) ≡ true) (sym m.names) (found_more s.names m.more_names y (number_of s.names y) refl h)

-- ---- an item that declares no datatype
-- no item names constructors
abbrev pub NamesNone : Item → Type 0
NamesNone x = (y : List ℕ) → constructors_at y x ≡ None

one_or_none : (o p : Option (List (List ℕ))) → p ≡ None → option_or o (option_or p None) ≡ o
one_or_none o p e = ap (λ q. option_or o (option_or q None)) e ∙ by o
  where
    by : (o : Option (List (List ℕ))) → option_or o None ≡ o
    by None = refl
    by (Some L) = refl

none_named : (x : Item) → NamesNone x → (y : List ℕ) (xs : List Item) → constructors_named y (xs ++ x ∷ []) ≡ constructors_named y xs
none_named x h y xs = named_more y xs (x ∷ []) ∙ one_or_none (constructors_named y xs) (constructors_at y x) (h y)

pub stands_other : {xs : List Item} {s t : Scope} (x : Item) → NamesNone x → Stands xs s → Adds s t → Stands (xs ++ x ∷ []) t
stands_other {xs} {s} {t} x none h a = record {
  orderly = orderly_more s t a.more h.orderly;
  whole = subst (AreBelow (length t.datatypes)) (sym (a.more).ghosts) (below_both (length t.datatypes) s.ghosts (a.more).more_ghosts (subst (λ ds. AreBelow (length ds) s.ghosts) (sym a.datatypes) h.whole) (others_below (length t.datatypes) (a.more).more_ghosts a.others));
  declared = λ y L e. declared_more s t a.more y (h.declared y L (sym (none_named x none y xs) ∙ e));
  named = λ y z d k p q e. stays_named y z xs (x ∷ []) (h.named y z d k (means_before a h.orderly y (ghosts.Datatype d) (λ o. o) p) (means_before a h.orderly z (ghosts.Constructor k) (λ o. o) q) e);
}

-- ---- an item that declares a datatype
-- an item names the constructors of a datatype
pub record NamesDatatype (n : Name) (cs : List Written) (x : Item) : Type 0 where
  pub same : constructors_at n.text x ≡ Some (names_of cs)
  pub only : (y : List ℕ) (L : List (List ℕ)) → constructors_at y x ≡ Some L → y ≡ n.text

module _ (n : Name) (cs : List Written) (x : Item) (its : NamesDatatype n cs x) (xs : List Item) (s t : Scope) (h : Stands xs s) (b : Builds n cs s t) where
  not_yet : constructors_named n.text xs ≡ None
  not_yet = by (constructors_named n.text xs) refl
    where
      by : (o : Option (List (List ℕ))) → constructors_named n.text xs ≡ o → o ≡ None
      by None e = refl
      by (Some L) e = absurd (let p : is_some (number_of s.names n.text) ≡ true = h.declared n.text L e in let q : is_some (number_of s.names n.text) ≡ false = ap is_some b.new in let r : true ≡ false = sym p ∙ q in cc)

  named_now : constructors_named n.text (xs ++ x ∷ []) ≡ Some (names_of cs)
  named_now = named_more n.text xs (x ∷ []) ∙ ((λ i. option_or (not_yet i) (option_or (its.same i) None)))

  abbrev added : List GhostDeclaration
  added = ghosts.Datatype (length s.datatypes) ∷ b.built

  -- a new name stands with what it means at the same place
  record IsNew (y : List ℕ) (g : GhostDeclaration) : Type 0 where
    place : ℕ
    named : slice_get (n.text ∷ names_of cs) place ≡ Some y
    is : slice_get added place ≡ Some g

  either : (y : List ℕ) (g : GhostDeclaration) → Means (level t) y g → Means (level s) y g ⊎ IsNew y g
  either y g m =
      ⊎_elim (λ p. inl p)
      (λ q.
      let e = number_at (length s.ghosts) (n.text ∷ names_of cs) q.place (length s.ghosts + q.number) q.means in
      let same : q.number ≡ q.place = omega (arith, e) in
      inr (record { place = q.place; named = q.named; is = subst (λ (i : ℕ). slice_get added i ≡ Some g) same q.is }))
      (means_either (builds_more b) h.orderly y g m)

  new_datatype : (y : List ℕ) (d : ℕ) (p : ℕ) → slice_get (n.text ∷ names_of cs) p ≡ Some y → slice_get added p ≡ Some (ghosts.Datatype d) → (y ≡ n.text) × (d ≡ length s.datatypes)
  new_datatype y d zero e f = (sym (some_same e), same f)
    where
      same : ◌≡◌ {A = Option GhostDeclaration} (Some (ghosts.Datatype (length s.datatypes))) (Some (ghosts.Datatype d)) → d ≡ length s.datatypes
      same e = cc
  new_datatype y d (suc p) e f = absurd (built_at (length s.datatypes) b.built p (ghosts.Datatype d) b.of f)

  new_constructor : (z : List ℕ) (k : Constructor) (p : ℕ) → slice_get (n.text ∷ names_of cs) p ≡ Some z → slice_get added p ≡ Some (ghosts.Constructor k) → IsOneOf z (names_of cs) × (k.datatype ≡ length s.datatypes)
  new_constructor z k zero e f = absurd cc
  new_constructor z k (suc p) e f = ((p, e), built_at (length s.datatypes) b.built p (ghosts.Constructor k) b.of f)

  old_datatype : (y : List ℕ) (d : ℕ) → Means (level s) y (ghosts.Datatype d) → d < length s.datatypes
  old_datatype y d m = below_at (length s.datatypes) s.ghosts m.number (ghosts.Datatype d) h.whole m.is

  old_constructor : (z : List ℕ) (k : Constructor) → Means (level s) z (ghosts.Constructor k) → k.datatype < length s.datatypes
  old_constructor z k m = below_at (length s.datatypes) s.ghosts m.number (ghosts.Constructor k) h.whole m.is

  named_there : AreNamed (xs ++ x ∷ []) t
  named_there y z d k p q e = by (either y (ghosts.Datatype d) p) (either z (ghosts.Constructor k) q)
    where
      by : Means (level s) y (ghosts.Datatype d) ⊎ IsNew y (ghosts.Datatype d) → Means (level s) z (ghosts.Constructor k) ⊎ IsNew z (ghosts.Constructor k) → IsOneOf z (or_none (constructors_named y (xs ++ x ∷ [])))
      by (inl a) (inl c) = stays_named y z xs (x ∷ []) (h.named y z d k a c e)
      by (inl a) (inr c) = absurd (let l = old_datatype y d a in let r = (new_constructor z k c.place c.named c.is).1 in omega (arith, l, r, e))
      by (inr a) (inl c) = absurd (let l = old_constructor z k c in let r = (new_datatype y d a.place a.named a.is).1 in omega (arith, l, r, e))
      by (inr a) (inr c) = subst (λ (w : List ℕ). IsOneOf z (or_none (constructors_named w (xs ++ x ∷ [])))) (sym (new_datatype y d a.place a.named a.is).0) (subst (λ o. IsOneOf z (or_none o)) (sym named_now) (new_constructor z k c.place c.named c.is).0)

  new_there : is_some (number_of t.names n.text) ≡ true
  new_there = subst (λ ns. is_some (number_of ns n.text) ≡ true) (sym b.names) (numbered (s.names ++ n.text ∷ names_of cs) n.text (length s.names) (at s.names))
    where
      at : (ns : List (List ℕ)) → slice_get (ns ++ n.text ∷ names_of cs) (length ns) ≡ Some n.text
      at [] = refl
      at (y ∷ ns) = at ns

  pub stands_datatype : Stands (xs ++ x ∷ []) t
  stands_datatype = record {
    orderly = orderly_more s t (builds_more b) h.orderly;
    whole =
        let l = b.datatypes in
        subst (AreBelow (length t.datatypes)) (sym b.ghosts) (below_both (length t.datatypes) s.ghosts added (all_below_wider (length s.datatypes) (length t.datatypes) (omega (arith, l)) s.ghosts h.whole)
        (omega (arith, l), built_below (length t.datatypes) (length s.datatypes) b.built (omega (arith, l)) b.of));
    declared = λ y L e. there y (constructors_named y xs) refl L (sym (named_more y xs (x ∷ [])) ∙ e);
    named = named_there;
  }
    where
      own : (y : List ℕ) (o : Option (List (List ℕ))) → constructors_at y x ≡ o → (L : List (List ℕ)) → option_or o None ≡ Some L → is_some (number_of t.names y) ≡ true
      own y None f L e = absurd (none_some e)
      own y (Some M) f L e = subst (λ (w : List ℕ). is_some (number_of t.names w) ≡ true) (sym (its.only y M f)) new_there

      there : (y : List ℕ) (o : Option (List (List ℕ))) → constructors_named y xs ≡ o → (L : List (List ℕ)) → option_or o (option_or (constructors_at y x) None) ≡ Some L → is_some (number_of t.names y) ≡ true
      there y None f L e = own y (constructors_at y x) refl L e
      there y (Some M) f L e = declared_more s t (builds_more b) y (h.declared y M f)
