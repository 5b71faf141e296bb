-- Arguments against patterns, one after another.
use Rattle.std.proofs.Common.{◌≡◌, ℕ, zero, suc, ◌+◌, ◌<◌, ◌≤◌, List, [], ◌∷◌, drop, length, get_or, refl, sym, subst, ap, Result, Ok, Bool, true, false, cond, arith}
use Rattle.std.proofs.Math.ListN.{drop_of_length-le}
use Rattle.vf_base.specs.declared.place.Place.{Place}
use Rattle.vf_base.specs.declared.refusal.Refusal.{Refusal}
use Rattle.vf_base.specs.declared.refusal.RuleFault.{RuleFault}
use Rattle.vf_closure.specs.Literals.{Literal}
use Rattle.vf_asking.specs.Journal.{Seen}
use Rattle.vf_asking.specs.Course.{Course, done, try, Follows, Blames, Reaches}
use Rattle.vf_asking.proofs.Following.{reaches_try, reaches_step, reaches_end, reaches_blames, reaches_here, follows_done, blames_try}
use Rattle.vf_chunk.specs.declared.chunk.Argument.{Argument}
use Rattle.vf_take.specs.declared.wanted.Pattern.{Pattern}
use Rattle.vf_take.specs.declared.wanted.Match.{Match}
use Rattle.vf_take.specs.declared.wanted.Match.TheVariants.{Matches, Lacks, Differs}
use Rattle.vf_take.specs.Usable.{ArgumentCanBeCompared, ArgumentsCanBeCompared, PatternCanBeCompared, PatternsCanBeCompared}
use Rattle.vf_take.specs.Fits.{matches, all_match, so_far, is_different}
use Rattle.vf_take.proofs.Positions.{rest_of}

-- an argument and a pattern can be compared where all can
argument_there : (xs : List Argument) (i : ℕ) (d : Argument) → i < length xs → ArgumentsCanBeCompared xs → ArgumentCanBeCompared (get_or xs i d)
argument_there [] i d low all = absurd (omega arith)
argument_there (x ∷ xs) zero d low all = all.0
argument_there (x ∷ xs) (suc i) d low all = argument_there xs i d (omega arith) all.1

pub argument_compared : (xs : List Argument) (i : ℕ) (a : Argument) → i < length xs → a ≡ get_or xs i a → ArgumentsCanBeCompared xs → ArgumentCanBeCompared a
argument_compared xs i a low is all = subst ArgumentCanBeCompared (sym is) (argument_there xs i a low all)

pattern_there : (ps : List Pattern) (i : ℕ) (d : Pattern) → i < length ps → PatternsCanBeCompared ps → PatternCanBeCompared (get_or ps i d)
pattern_there [] i d low all = absurd (omega arith)
pattern_there (p ∷ ps) zero d low all = all.0
pattern_there (p ∷ ps) (suc i) d low all = pattern_there ps i d (omega arith) all.1

pub pattern_compared : (ps : List Pattern) (i : ℕ) (p : Pattern) → i < length ps → p ≡ get_or ps i p → PatternsCanBeCompared ps → PatternCanBeCompared p
pattern_compared ps i p low is all = subst PatternCanBeCompared (sym is) (pattern_there ps i p low all)

module _ (place : Place) (path : List Literal) (c : Course (Result Match Refusal)) (s : Seen) where
  pub match_start : (xs : List Argument) (ps : List Pattern) → c ≡ all_match place path false xs ps → Reaches c s (all_match place path false (drop 0 xs) (drop 0 ps)) s
  match_start xs ps e = reaches_here _ _ s e

  -- what the first of what is left comes to, and what follows
  abbrev onward : Bool → List Argument → List Pattern → ℕ → Match → Course (Result Match Refusal)
  onward lacks xs ps i m = cond (is_different m) (done (Ok Differs)) (all_match place path (so_far lacks m) (drop (i + 1) xs) (drop (i + 1) ps))

  here_and_on : (lacks : Bool) (xs : List Argument) (ps : List Pattern) (i : ℕ) (a : Argument) (b : Pattern) (t : Seen) → i < length xs → i < length ps → a ≡ get_or xs i a → b ≡ get_or ps i b → Reaches c s (all_match place path lacks (drop i xs) (drop i ps)) t → Reaches c s (try (matches place path a b) (onward lacks xs ps i)) t
  unfolding all_match
  here_and_on lacks xs ps i a b t low less is also r =
      subst (λ (ys : List Pattern). Reaches c s (all_match place path lacks (a ∷ drop (i + 1) xs) ys) t) (rest_of ps i b less also)
      (subst (λ (ys : List Argument). Reaches c s (all_match place path lacks ys (drop i ps)) t) (rest_of xs i a low is) r)

  pub match_step : (here : List Literal) (lacks next : Bool) (xs : List Argument) (ps : List Pattern) (i : ℕ) (a : Argument) (b : Pattern) (m : Match) (t u : Seen) → here ≡ path → i < length xs → i < length ps → a ≡ get_or xs i a → b ≡ get_or ps i b → is_different m ≡ false → next ≡ so_far lacks m → Reaches c s (all_match place path lacks (drop i xs) (drop i ps)) t → Follows (matches place here a b) t u (Ok m) → Reaches c s (all_match place path next (drop (i + 1) xs) (drop (i + 1) ps)) u
  match_step here lacks next xs ps i a b m t u same low less is also on_ new r p =
      let one = subst (λ (x : List Literal). Follows (matches place x a b) t u (Ok m)) same p in
      let next_ : Reaches c s (onward lacks xs ps i m) u = reaches_step c _ _ s t u (here_and_on lacks xs ps i a b t low less is also r) (reaches_try (matches place path a b) (onward lacks xs ps i) t u m one) in
      subst (λ (z : Bool). Reaches c s (all_match place path z (drop (i + 1) xs) (drop (i + 1) ps)) u) (sym new)
      (subst (λ z. Reaches c s (cond z (done (Ok Differs)) (all_match place path (so_far lacks m) (drop (i + 1) xs) (drop (i + 1) ps))) u) on_ next_)

  pub match_differs : (here : List Literal) (lacks : Bool) (xs : List Argument) (ps : List Pattern) (i : ℕ) (a : Argument) (b : Pattern) (m : Match) (t u : Seen) → here ≡ path → i < length xs → i < length ps → a ≡ get_or xs i a → b ≡ get_or ps i b → is_different m ≡ true → Reaches c s (all_match place path lacks (drop i xs) (drop i ps)) t → Follows (matches place here a b) t u (Ok m) → Follows c s u (Ok Differs)
  match_differs here lacks xs ps i a b m t u same low less is also off r p =
      let one = subst (λ (x : List Literal). Follows (matches place x a b) t u (Ok m)) same p in
      let next_ : Reaches c s (onward lacks xs ps i m) u = reaches_step c _ _ s t u (here_and_on lacks xs ps i a b t low less is also r) (reaches_try (matches place path a b) (onward lacks xs ps i) t u m one) in
      reaches_end c _ s u u (Ok Differs)
      (subst (λ z. Reaches c s (cond z (done (Ok Differs)) (all_match place path (so_far lacks m) (drop (i + 1) xs) (drop (i + 1) ps))) u) off next_)
      (follows_done (Ok Differs) (Ok Differs) u u refl refl)

  pub match_fail : (here : List Literal) (lacks : Bool) (xs : List Argument) (ps : List Pattern) (i : ℕ) (a : Argument) (b : Pattern) (t u : Seen) (f : RuleFault) → here ≡ path → i < length xs → i < length ps → a ≡ get_or xs i a → b ≡ get_or ps i b → Reaches c s (all_match place path lacks (drop i xs) (drop i ps)) t → Blames (matches place here a b) t u f → Blames c s u f
  match_fail here lacks xs ps i a b t u f same low less is also r h =
      let one = subst (λ (x : List Literal). Blames (matches place x a b) t u f) same h in
      reaches_blames c _ s t u f (here_and_on lacks xs ps i a b t low less is also r)
      (blames_try (matches place path a b) (onward lacks xs ps i) t u f one)

  -- nothing is left
  match_end : (lacks : Bool) (xs : List Argument) (ps : List Pattern) (i : ℕ) (m : Match) (t : Seen) → length xs ≤ i → length ps ≤ i → m ≡ cond lacks Lacks Matches → Reaches c s (all_match place path lacks (drop i xs) (drop i ps)) t → Follows c s t (Ok m)
  unfolding all_match
  match_end lacks xs ps i m t none last is r =
      let right = subst (λ (ys : List Pattern). Reaches c s (all_match place path lacks (drop i xs) ys) t) (drop_of_length-le ps last) r in
      let all = subst (λ (ys : List Argument). Reaches c s (all_match place path lacks ys []) t) (drop_of_length-le xs none) right in
      reaches_end c _ s t t (Ok m) all (follows_done (Ok (cond lacks Lacks Matches)) (Ok m) t t refl (ap Ok is))

  pub match_lacks : (lacks : Bool) (xs : List Argument) (ps : List Pattern) (i : ℕ) (t : Seen) → length xs ≤ i → length ps ≤ i → lacks ≡ true → Reaches c s (all_match place path lacks (drop i xs) (drop i ps)) t → Follows c s t (Ok Lacks)
  match_lacks lacks xs ps i t none last e r = match_end lacks xs ps i Lacks t none last (sym (ap (λ b. cond b Lacks Matches) e)) r

  pub match_all : (lacks : Bool) (xs : List Argument) (ps : List Pattern) (i : ℕ) (t : Seen) → length xs ≤ i → length ps ≤ i → lacks ≡ false → Reaches c s (all_match place path lacks (drop i xs) (drop i ps)) t → Follows c s t (Ok Matches)
  match_all lacks xs ps i t none last e r = match_end lacks xs ps i Matches t none last (sym (ap (λ b. cond b Lacks Matches) e)) r
