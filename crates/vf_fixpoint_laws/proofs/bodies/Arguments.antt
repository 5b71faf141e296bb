-- Values of the sorts of a list, one by one.
use Rattle.std.proofs.Common.{◌≡◌, ℕ, zero, suc, List, [], ◌∷◌, ◌++◌, length, map, Some, refl, subst, ap}
use Rattle.std.specs.Prelude.{slice_get}
use Rattle.vf_model.specs.Values.{Values, none, more}
use Rattle.vf_meaning.specs.Valuations.{appended, value_at}
use Rattle.vf_meaning.specs.Valuations as valuations
use Rattle.vf_sorts.specs.Sorts.{Sort}
use Rattle.vf_sorts.specs.Told.{AreAlike}
use Rattle.vf_declared.specs.declared.locals.Local.{Local}
use Rattle.vf_sorting.specs.Schemes.{sort_of_local}
use Rattle.vf_binding.specs.Bound.{bound_local}
use Rattle.vf_fixpoint_laws.specs.values.Declares.{Declared}
use Rattle.vf_fixpoint_laws.specs.values.Worth.{HasValue, HaveValues, Sets}
use Rattle.vf_fixpoint_laws.proofs.values.Having.{value_alike}
use Rattle.vf_fixpoint_laws.specs.bodies.Closed.{Each}

pub each_more : (P Q : Sort → Type 0) (ts : List Sort) → ((t : Sort) → P t → Q t) → Each P ts → Each Q ts
each_more P Q [] f e = tt
each_more P Q (t ∷ ts) f e = (f t e.0, each_more P Q ts f e.1)

pub mapped_appended : {A B : Type 0} (f : A → B) (xs ys : List A) → map f (xs ++ ys) ≡ map f xs ++ map f ys
mapped_appended f [] ys = refl
mapped_appended f (x ∷ xs) ys = ap (λ zs. f x ∷ zs) (mapped_appended f xs ys)

-- the sort at the place of a local
pub sort_there : (ts : List Sort) (m : ℕ) (l : Local) → slice_get (map bound_local ts) m ≡ Some l → slice_get ts m ≡ Some (sort_of_local l)
sort_there [] m l e = absurd cc
sort_there (t ∷ ts) zero l e = let q : bound_local t ≡ l = cc in ap (λ (z : Local). Some (sort_of_local z)) q
sort_there (t ∷ ts) (suc m) l e = sort_there ts m l e

pub each_there : (P : Sort → Type 0) (ts : List Sort) (m : ℕ) (t : Sort) → Each P ts → slice_get ts m ≡ Some t → P t
each_there P [] m t a e = absurd cc
each_there P (u ∷ ts) zero t a e = let q : u ≡ t = cc in subst P q a.0
each_there P (u ∷ ts) (suc m) t a e = each_there P ts m t a.1 e

module _ (d : Declared) (sets : Sets) where
  -- sorts that are alike have the same values
  pub have_alike : (F G : Sort → Sort) (ts : List Sort) (vs : Values) → Each (λ t. AreAlike (F t) (G t)) ts → HaveValues d sets vs (map F ts) → HaveValues d sets vs (map G ts)
  have_alike F G [] none e h = tt
  have_alike F G [] (more v vs) e h = absurd h
  have_alike F G (t ∷ ts) none e h = absurd h
  have_alike F G (t ∷ ts) (more v vs) e h = (value_alike d sets v (F t) (G t) e.0 h.0, have_alike F G ts vs e.1 h.1)

  -- there are as many values as sorts
  pub have_count : (F : Sort → Sort) (ts : List Sort) (vs : Values) → HaveValues d sets vs (map F ts) → valuations.count vs ≡ length ts
  have_count F [] none h = refl
  have_count F [] (more v vs) h = absurd h
  have_count F (t ∷ ts) none h = absurd h
  have_count F (t ∷ ts) (more v vs) h = ap suc (have_count F ts vs h.1)

  -- the value at a place
  pub have_there : (F : Sort → Sort) (ts : List Sort) (vs : Values) (m : ℕ) (t : Sort) → HaveValues d sets vs (map F ts) → slice_get ts m ≡ Some t → HasValue d sets (value_at vs m) (F t)
  have_there F [] vs m t h e = absurd cc
  have_there F (u ∷ ts) none m t h e = absurd h
  have_there F (u ∷ ts) (more v vs) zero t h e = let q : u ≡ t = cc in subst (λ (z : Sort). HasValue d sets v (F z)) q h.0
  have_there F (u ∷ ts) (more v vs) (suc m) t h e = have_there F ts vs m t h.1 e

  -- values behind others
  pub have_appended : (F : Sort → Sort) (ts us : List Sort) (vs ws : Values) → HaveValues d sets vs (map F ts) → HaveValues d sets ws (map F us) → HaveValues d sets (appended vs ws) (map F (ts ++ us))
  have_appended F [] us none ws h l = l
  have_appended F [] us (more v vs) ws h l = absurd h
  have_appended F (t ∷ ts) us none ws h l = absurd h
  have_appended F (t ∷ ts) us (more v vs) ws h l = (h.0, have_appended F ts us vs ws h.1 l)

  -- sorts that are given one after the other
  pub have_mapped : (F G : Sort → Sort) (ts : List Sort) (vs : Values) → HaveValues d sets vs (map (λ t. F (G t)) ts) → HaveValues d sets vs (map F (map G ts))
  have_mapped F G [] vs h = h
  have_mapped F G (t ∷ ts) none h = absurd h
  have_mapped F G (t ∷ ts) (more v vs) h = (h.0, have_mapped F G ts vs h.1)
