-- What a merge tells, one argument after another.
use Rattle.std.proofs.Common.{◌≡◌, ℕ, ◌+◌, ◌<◌, ◌≤◌, List, [], ◌∷◌, drop, length, get_or, refl, subst, ap, Result, Ok, add-one}
use Rattle.std.proofs.Math.Seq.{drop-cons}
use Rattle.std.proofs.Math.ListN.{drop_of_length-le}
use Rattle.vf_base.specs.declared.place.Place.{Place}
use Rattle.vf_base.specs.declared.refusal.Refusal.{Refusal}
use Rattle.vf_base.specs.declared.refusal.RuleFault.{RuleFault}
use Rattle.vf_closure.specs.Literals.{Literal}
use Rattle.vf_asking.specs.Journal.{Seen}
use Rattle.vf_asking.specs.Course.{Course, try, Follows, Blames, Reaches}
use Rattle.vf_asking.proofs.Following.{reaches_try, reaches_step, reaches_end, reaches_blames, reaches_here, follows_done, blames_try}
use Rattle.vf_chunk.specs.declared.chunk.Argument.{Argument}
use Rattle.vf_chunk.specs.declared.chunk.Argument.TheVariants.{Unknown}
use Rattle.vf_take.specs.Merges.{learns_one, learns}
use Rattle.vf_take.proofs.Positions.{rest_of}

left_from : (xs : List Argument) (i : ℕ) (d : Argument) → i < length xs → drop i xs ≡ get_or xs i d ∷ drop (i + 1) xs
left_from xs i d low = rw add-one (drop-cons xs i d low)

module _ (place : Place) (path : List Literal) (c : Course (Result (List Literal) Refusal)) (s : Seen) where
  pub learns_start : (xs ys : List Argument) → c ≡ learns place path (drop 1 xs) (drop 1 ys) → Reaches c s (learns place path (drop 1 xs) (drop 1 ys)) s
  learns_start xs ys e = reaches_here _ _ s e

module _ (place : Place) (c : Course (Result (List Literal) Refusal)) (s : Seen) where
  first_told : (path : List Literal) (xs ys : List Argument) (i : ℕ) (a b : Argument) (t : Seen) → i < length xs → i < length ys → a ≡ get_or xs i a → b ≡ get_or ys i b → Reaches c s (learns place path (drop i xs) (drop i ys)) t → Reaches c s (try (learns_one place path a b) (λ more. learns place more (drop (i + 1) xs) (drop (i + 1) ys))) t
  unfolding learns
  first_told path xs ys i a b t low less is also r =
      subst (λ (zs : List Argument). Reaches c s (learns place path (a ∷ drop (i + 1) xs) zs) t) (rest_of ys i b less also)
      (subst (λ (zs : List Argument). Reaches c s (learns place path zs (drop i ys)) t) (rest_of xs i a low is) r)

  pub learns_step : (path more : List Literal) (xs ys : List Argument) (i : ℕ) (a b : Argument) (t u : Seen) → i < length xs → i < length ys → a ≡ get_or xs i a → b ≡ get_or ys i b → Reaches c s (learns place path (drop i xs) (drop i ys)) t → Follows (learns_one place path a b) t u (Ok more) → Reaches c s (learns place more (drop (i + 1) xs) (drop (i + 1) ys)) u
  learns_step path more xs ys i a b t u low less is also r p =
      reaches_step c _ _ s t u (first_told path xs ys i a b t low less is also r)
      (reaches_try (learns_one place path a b) (λ x. learns place x (drop (i + 1) xs) (drop (i + 1) ys)) t u more p)

  pub learns_fails : (path : List Literal) (xs ys : List Argument) (i : ℕ) (a b : Argument) (t u : Seen) (f : RuleFault) → i < length xs → i < length ys → a ≡ get_or xs i a → b ≡ get_or ys i b → Reaches c s (learns place path (drop i xs) (drop i ys)) t → Blames (learns_one place path a b) t u f → Blames c s u f
  learns_fails path xs ys i a b t u f low less is also r h =
      reaches_blames c _ s t u f (first_told path xs ys i a b t low less is also r)
      (blames_try (learns_one place path a b) (λ x. learns place x (drop (i + 1) xs) (drop (i + 1) ys)) t u f h)

  -- a row has ended
  pub learns_short : (path here : List Literal) (xs ys : List Argument) (i : ℕ) (t : Seen) → here ≡ path → i < length xs → length ys ≤ i → Reaches c s (learns place path (drop i xs) (drop i ys)) t → Follows c s t (Ok here)
  unfolding learns
  learns_short path here xs ys i t same low short r =
      let left = subst (λ (zs : List Argument). Reaches c s (learns place path zs (drop i ys)) t) (left_from xs i Unknown low) r in
      let all = subst (λ (zs : List Argument). Reaches c s (learns place path (get_or xs i Unknown ∷ drop (i + 1) xs) zs) t) (drop_of_length-le ys short) left in
      reaches_end c _ s t t (Ok here) all (follows_done (Ok path) (Ok here) t t refl (ap Ok same))

  pub learns_end : (path here : List Literal) (xs ys : List Argument) (i : ℕ) (t : Seen) → here ≡ path → length xs ≤ i → Reaches c s (learns place path (drop i xs) (drop i ys)) t → Follows c s t (Ok here)
  unfolding learns
  learns_end path here xs ys i t same short r =
      let all = subst (λ (zs : List Argument). Reaches c s (learns place path zs (drop i ys)) t) (drop_of_length-le xs short) r in
      reaches_end c _ s t t (Ok here) all (by (drop i ys))
    where
      by : (zs : List Argument) → Follows (learns place path [] zs) t t (Ok here)
      by [] = follows_done (Ok path) (Ok here) t t refl (ap Ok same)
      by (z ∷ zs) = follows_done (Ok path) (Ok here) t t refl (ap Ok same)
