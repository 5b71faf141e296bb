-- What names mean at file level, where more is declared behind.
use Rattle.std.proofs.Common.{◌≡◌, refl, sym, ap, subst, ◌∙◌, ◌⊎◌, inl, inr, ⊎_elim, ℕ, zero, suc, ◌+◌, Bool, true, false, cond, List, [], ◌∷◌, ◌++◌, length, map, slice_get, Some, is_some, arith}
use Rattle.std.specs.Prelude.{◌<◌}
use Rattle.std.specs.List.{position_from}
use Rattle.std.specs.Str.{bytes_eq}
use Rattle.std.proofs.lemmas.Slice.Eq.{bytes_eq-Decides}
use Rattle.vf_names.specs.Names.{number_of}
use Rattle.vf_declared.specs.declared.declaration.GhostDeclaration.{GhostDeclaration}
use Rattle.vf_declared.specs.declared.declaration.Meaning.TheVariants as meanings
use Rattle.vf_declared.specs.declared.scope.Scope.{Scope}
use Rattle.vf_fixpoint_laws.proofs.definable.Lists.{get_front}
use Rattle.vf_fixpoint_laws.proofs.descending.Levels.{Adds, AreFresh, IsOther, Level, More, fresh_at, level, other_at}
use Rattle.vf_fixpoint_laws.proofs.descending.Lists.{some_same}

-- ---- lists
-- what stands at a place of two lists stands in the first or behind it
pub get_either : {A : Type 0} (xs ys : List A) (n : ℕ) (x : A) → slice_get (xs ++ ys) n ≡ Some x → ((n < length xs) × (slice_get xs n ≡ Some x)) ⊎ ((k : ℕ) × (n ≡ length xs + k) × (slice_get ys k ≡ Some x))
get_either [] ys n x e = inr (n, omega arith, e)
get_either (y ∷ xs) ys zero x e = inl (omega arith, e)
get_either (y ∷ xs) ys (suc n) x e = ⊎_elim (λ p. inl (let a = p.0 in omega (arith, a), p.1)) (λ q. inr (q.0, let b = q.1 in omega (arith, b), q.2)) (get_either xs ys n x e)

pub get_counted : {A : Type 0} (xs : List A) (n : ℕ) (x : A) → slice_get xs n ≡ Some x → n < length xs
get_counted [] n x e = absurd cc
get_counted (y ∷ xs) zero x e = omega arith
get_counted (y ∷ xs) (suc n) x e = let h = get_counted xs n x e in omega (arith, h)

pub get_mapped : {A B : Type 0} (f : A → B) (xs : List A) (n : ℕ) (x : A) → slice_get xs n ≡ Some x → slice_get (map f xs) n ≡ Some (f x)
get_mapped f [] n x e = absurd cc
get_mapped f (y ∷ xs) zero x e = ap (λ z. Some (f z)) (some_same e)
get_mapped f (y ∷ xs) (suc n) x e = get_mapped f xs n x e

pub get_end : {A : Type 0} (xs : List A) (x : A) → slice_get (xs ++ x ∷ []) (length xs) ≡ Some x
get_end [] x = refl
get_end (y ∷ xs) x = get_end xs x

-- a name that stands at a place has a number
numbered_from : (x : List ℕ) (i : ℕ) (xs : List (List ℕ)) (k : ℕ) → slice_get xs k ≡ Some x → is_some (position_from (bytes_eq x) i xs) ≡ true
numbered_from x i [] k e = absurd cc
numbered_from x i (y ∷ xs) zero e = ap (λ b. is_some (cond b (Some i) (position_from (bytes_eq x) (i + 1) xs))) ((bytes_eq-Decides x y).1 (sym (some_same e)))
numbered_from x i (y ∷ xs) (suc k) e = by (bytes_eq x y) (numbered_from x (i + 1) xs k e)
  where
    by : (b : Bool) → is_some (position_from (bytes_eq x) (i + 1) xs) ≡ true → is_some (cond b (Some i) (position_from (bytes_eq x) (i + 1) xs)) ≡ true
    by true h = refl
    by false h = h

pub numbered : (xs : List (List ℕ)) (x : List ℕ) (k : ℕ) → slice_get xs k ≡ Some x → is_some (number_of xs x) ≡ true
numbered xs x k e = numbered_from x 0 xs k e

-- ---- meanings
-- a name of file level means something that annotations declare
pub record Means (c : Level) (x : List ℕ) (g : GhostDeclaration) : Type 0 where
  pub place : ℕ
  pub named : slice_get c.names place ≡ Some x
  pub number : ℕ
  pub means : slice_get c.meanings place ≡ Some (meanings.Ghost number)
  pub is : slice_get c.ghosts number ≡ Some g

-- it does so where more is declared
pub means_more : {c d : Level} {x : List ℕ} {g : GhostDeclaration} → More c d → Means c x g → Means d x g
means_more {c} {x = x} {g = g} m h = record {
  place = h.place;
  named = ap (λ xs. slice_get xs h.place) m.names ∙ get_front c.names m.more_names h.place x h.named;
  number = h.number;
  means = ap (λ xs. slice_get xs h.place) m.meanings ∙ get_front c.meanings m.more_meanings h.place (meanings.Ghost h.number) h.means;
  is = ap (λ xs. slice_get xs h.number) m.ghosts ∙ get_front c.ghosts m.more_ghosts h.number g h.is;
}

-- names stand beside meanings, which are numbers of what annotations declare
pub record IsOrderly (c : Level) : Type 0 where
  pub beside : length c.names ≡ length c.meanings
  pub fresh : AreFresh 0 (length c.ghosts) c.meanings

-- a name that is new means something new
pub record MeansNew {c d : Level} (m : More c d) (x : List ℕ) (g : GhostDeclaration) : Type 0 where
  pub place : ℕ
  pub named : slice_get m.more_names place ≡ Some x
  pub number : ℕ
  pub means : slice_get m.more_meanings place ≡ Some (meanings.Ghost (length c.ghosts + number))
  pub is : slice_get m.more_ghosts number ≡ Some g

-- what a name means where more is declared it means in front already, or it is new
pub means_either : {c d : Level} (m : More c d) → IsOrderly c → (x : List ℕ) (g : GhostDeclaration) → Means d x g → Means c x g ⊎ MeansNew m x g
means_either {c} {d} m o x g h = by (get_either c.names m.more_names h.place x (subst (λ xs. slice_get xs h.place ≡ Some x) m.names h.named))
  where
    means_here : slice_get (c.meanings ++ m.more_meanings) h.place ≡ Some (meanings.Ghost h.number)
    means_here = subst (λ xs. slice_get xs h.place ≡ Some (meanings.Ghost h.number)) m.meanings h.means

    is_here : slice_get (c.ghosts ++ m.more_ghosts) h.number ≡ Some g
    is_here = subst (λ xs. slice_get xs h.number ≡ Some g) m.ghosts h.is

    old : slice_get c.names h.place ≡ Some x → slice_get c.meanings h.place ≡ Some (meanings.Ghost h.number) → Means c x g
    old e f = record {
      place = h.place;
      named = e;
      number = h.number;
      means = f;
      is =
          let l = (fresh_at 0 (length c.ghosts) c.meanings h.place h.number o.fresh f).1 in
          ⊎_elim (λ p. p.1) (λ q. absurd (let b = q.1 in omega (arith, b, l))) (get_either c.ghosts m.more_ghosts h.number g is_here);
    }

    new : (k : ℕ) → h.place ≡ length c.names + k → slice_get m.more_names k ≡ Some x → (j : ℕ) → h.place ≡ length c.meanings + j → slice_get m.more_meanings j ≡ Some (meanings.Ghost h.number) → MeansNew m x g
    new k a e j b f =
        let beside = o.beside in
        let same : j ≡ k = omega (arith, a, b, beside) in
        let l = (fresh_at (length c.ghosts) (length d.ghosts) m.more_meanings j h.number m.fresh f).0 in
        ⊎_elim (λ p. absurd (let b = p.0 in omega (arith, b, l)))
        (λ q. record {
          place = k;
          named = e;
          number = q.0;
          means = subst (λ (i : ℕ). slice_get m.more_meanings k ≡ Some (meanings.Ghost i)) q.1 (subst (λ (i : ℕ). slice_get m.more_meanings i ≡ Some (meanings.Ghost h.number)) same f);
          is = q.2;
        })
        (get_either c.ghosts m.more_ghosts h.number g is_here)

    by : ((h.place < length c.names) × (slice_get c.names h.place ≡ Some x)) ⊎ ((k : ℕ) × (h.place ≡ length c.names + k) × (slice_get m.more_names k ≡ Some x)) → Means c x g ⊎ MeansNew m x g
    by (inl p) =
        ⊎_elim (λ q. inl (old p.1 q.1)) (λ r. absurd (let a = p.0 in let b = r.1 in let beside = o.beside in omega (arith, a, b, beside))) (get_either c.meanings m.more_meanings h.place (meanings.Ghost h.number) means_here)
    by (inr p) =
        ⊎_elim (λ q. absurd (let a = p.1 in let b = q.0 in let beside = o.beside in omega (arith, a, b, beside))) (λ r. inr (new p.0 p.1 p.2 r.0 r.1 r.2)) (get_either c.meanings m.more_meanings h.place (meanings.Ghost h.number) means_here)

-- what is of a datatype was so in front of what declares none
pub means_before : {s t : Scope} → Adds s t → IsOrderly (level s) → (x : List ℕ) (g : GhostDeclaration) → (IsOther g → ⊥) → Means (level t) x g → Means (level s) x g
means_before a o x g of h = ⊎_elim (λ p. p) (λ q. absurd (of (other_at (a.more).more_ghosts q.number g a.others q.is))) (means_either a.more o x g h)
