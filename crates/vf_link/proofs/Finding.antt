-- Places that are found while texts come one by one.
use Rattle.std.proofs.Common.{◌≡◌, ℕ, zero, suc, ◌+◌, ◌<◌, cond, not, Bool, true, false, List, [], ◌∷◌, ◌++◌, length, map, take, drop, get_or, Bor, Option, Some, None, refl, sym, ap, subst, ◌∙◌, arith}
use Rattle.std.specs.List.{position_from, position_or_len}
use Rattle.std.specs.Str.{bytes_eq}
use Rattle.std.specs.HashMap.{HashMap, get_by}
use Rattle.std.proofs.lemmas.List.{append_assoc, take_more, take-append-drop, drop_more, length-map, length-take-le, get_or-take, map_push}
use Rattle.std.proofs.lemmas.Slice.Eq.{bytes_eq-Decides}
use Rattle.vf_link.specs.Statements.{place}

found_first : {A : Type 0} (p : A → Bool) (xs : List A) (b : Bool) (i n : ℕ) → cond b (Some i) (position_from p (i + 1) xs) ≡ Some n
    → (position_from p (i + 1) xs ≡ Some n → n ≡ i + 1 + position_or_len p xs) → n ≡ i + cond (not b) (1 + position_or_len p xs) 0
found_first p xs true i n h more = let same : n ≡ i = cc in omega arith
found_first p xs false i n h more = let rest = more h in omega arith

-- the place that is found is the first
pub found_place : {A : Type 0} (p : A → Bool) (xs : List A) (i n : ℕ) → position_from p i xs ≡ Some n → n ≡ i + position_or_len p xs
found_place p [] i n h = absurd cc
found_place p (x ∷ xs) i n h = found_first p xs (p x) i n h (found_place p xs (i + 1) n)

kept_found : (b : Bool) (i : ℕ) (o q : Option ℕ) (n : ℕ) → (o ≡ Some n → q ≡ Some n) → cond b (Some i) o ≡ Some n → cond b (Some i) q ≡ Some n
kept_found true i o q n go h = h
kept_found false i o q n go h = go h

-- and stays so where more come behind
pub found_still : {A : Type 0} (p : A → Bool) (xs ys : List A) (i n : ℕ) → position_from p i xs ≡ Some n → position_from p i (xs ++ ys) ≡ Some n
found_still p [] ys i n h = absurd cc
found_still p (x ∷ xs) ys i n h = kept_found (p x) i _ _ n (found_still p xs ys (i + 1) n) h

kept_missed : (b : Bool) (i : ℕ) (o q m : Option ℕ) → (o ≡ None → q ≡ m) → cond b (Some i) o ≡ None → cond b (Some i) q ≡ m
kept_missed true i o q m go h = absurd cc
kept_missed false i o q m go h = go h

-- what is not found is the next one, or not there
pub missed_next : {A : Type 0} (p : A → Bool) (xs : List A) (x : A) (i : ℕ) → position_from p i xs ≡ None → position_from p i (xs ++ x ∷ []) ≡ cond (p x) (Some (i + length xs)) None
missed_next p [] x i h = ap (λ n. cond (p x) (Some n) None) (let e : i ≡ i + 0 = omega arith in e)
missed_next p (y ∷ ys) x i h =
    let sum : i + 1 + length ys ≡ i + length (y ∷ ys) = omega arith in
    kept_missed (p y) i _ _ _ (λ none. missed_next p ys x (i + 1) none ∙ ap (λ n. cond (p x) (Some n) None) sum) h

-- maps that are the same have the same look-ups
pub same_look_up : {S : Type 0} (m n : HashMap (Bor (List ℕ)) ℕ S) → m ≡ n → (q : List ℕ) → get_by (λ (k : Bor (List ℕ)). bytes_eq q k.now) m ≡ get_by (λ (k : Bor (List ℕ)). bytes_eq q k.now) n
same_look_up {S = S} m n e q = ap (λ (o : HashMap (Bor (List ℕ)) ℕ S). get_by (λ (k : Bor (List ℕ)). bytes_eq q k.now) o) e

-- what was put in the place of a value, and then back, is as it was
pub put_back : (text q : List ℕ) (at first : ℕ) (o : Option ℕ) → (bytes_eq text q ≡ true → o ≡ Some first)
    → cond (bytes_eq text q) (Some first) (cond (bytes_eq text q) (Some at) o) ≡ o
put_back text q at first o was = by (bytes_eq text q) refl
  where
    by : (b : Bool) → bytes_eq text q ≡ b → cond (bytes_eq text q) (Some first) (cond (bytes_eq text q) (Some at) o) ≡ o
    by true e = ap (λ b. cond b (Some first) (cond b (Some at) o)) e ∙ sym (was e)
    by false e = ap (λ b. cond b (Some first) (cond b (Some at) o)) e

pub same_bytes : (s t : List ℕ) (b : Bool) → bytes_eq s t ≡ b → (b ≡ true → s ≡ t)
same_bytes s t b e h = (bytes_eq-Decides s t).0 (e ∙ h)

module _ (texts : List (List ℕ)) (at : ℕ) (within : at < length texts) where
  abbrev text : List ℕ
  text = get_or texts at []

  parts : texts ≡ (take at texts ++ get_or texts at [] ∷ []) ++ drop (at + 1) texts
  parts = sym (take-append-drop at texts) ∙ ap (λ l. take at texts ++ l) (drop_more texts at [] within) ∙ sym (append_assoc (take at texts) (get_or texts at [] ∷ []) (drop (at + 1) texts))

  itself : bytes_eq (get_or texts at []) (get_or texts at []) ≡ true
  itself = (bytes_eq-Decides (get_or texts at []) (get_or texts at [])).1 refl

  -- a text that was mentioned before has that place
  pub place_found : (f : ℕ) → position_from (bytes_eq (get_or texts at [])) 0 (take at texts) ≡ Some f → place texts (get_or texts at []) ≡ f
  place_found f h =
      let p = bytes_eq (get_or texts at []) in
      let whole : position_from p 0 texts ≡ Some f =
      subst (λ l. position_from p 0 l ≡ Some f) (take-append-drop at texts) (found_still p (take at texts) (drop at texts) 0 f h) in
      let is = found_place p texts 0 f whole in omega arith

  -- a new one has its own
  pub place_new : position_from (bytes_eq (get_or texts at [])) 0 (take at texts) ≡ None → place texts (get_or texts at []) ≡ at
  place_new h =
      let p = bytes_eq (get_or texts at []) in
      let here : position_from p 0 (take at texts ++ get_or texts at [] ∷ []) ≡ Some (0 + length (take at texts)) =
      missed_next p (take at texts) (get_or texts at []) 0 h ∙ ap (λ b. cond b (Some (0 + length (take at texts))) None) itself in
      let whole : position_from p 0 texts ≡ Some (0 + length (take at texts)) =
      subst (λ l. position_from p 0 l ≡ Some (0 + length (take at texts))) (sym parts)
      (found_still p (take at texts ++ get_or texts at [] ∷ []) (drop (at + 1) texts) 0 (0 + length (take at texts)) here) in
      let is = found_place p texts 0 (0 + length (take at texts)) whole in
      let long = length-take-le at texts (omega arith) in
      omega arith

  -- where a text stands that is mentioned there first, it is found before it is mentioned again
  pub found_before : (f : ℕ) → f < at → place texts (get_or texts f []) ≡ f → get_or texts f [] ≡ get_or texts at [] → position_from (bytes_eq (get_or texts at [])) 0 (take at texts) ≡ Some f
  found_before f h first same = by (position_from (bytes_eq (get_or texts at [])) 0 (take at texts)) refl
    where
      is : place texts (get_or texts at []) ≡ f
      is = ap (place texts) (sym same) ∙ first

      by : (o : Option ℕ) → position_from (bytes_eq (get_or texts at [])) 0 (take at texts) ≡ o → position_from (bytes_eq (get_or texts at [])) 0 (take at texts) ≡ Some f
      by (Some n) e = e ∙ ap Some (sym (place_found n e) ∙ is)
      by None e = absurd (let new = place_new e in let old = is in omega arith)

  -- the places of the texts so far
  pub places_so_far : (fs : List ℕ) → fs ≡ map (place texts) (take at texts) → length fs ≡ at
  places_so_far fs h = ap length h ∙ length-map (take at texts) (place texts) ∙ length-take-le at texts (omega arith)

  pub place_so_far : (fs : List ℕ) (f : ℕ) → fs ≡ map (place texts) (take at texts) → f < at → get_or fs f 0 ≡ place texts (get_or texts f [])
  place_so_far fs f h before =
      ap (λ l. get_or l f 0) h ∙ mapped f (take at texts) (let long = length-take-le at texts (omega arith) in omega arith) ∙ ap (place texts) (get_or-take at texts f [] before)
    where
      mapped : (k : ℕ) (xs : List (List ℕ)) → k < length xs → get_or (map (place texts) xs) k 0 ≡ place texts (get_or xs k [])
      mapped k [] few = absurd (omega arith)
      mapped zero (x ∷ xs) few = refl
      mapped (suc k) (x ∷ xs) few = mapped k xs (omega arith)

  pub one_more : (fs : List ℕ) (f : ℕ) → fs ≡ map (place texts) (take at texts) → place texts (get_or texts at []) ≡ f → fs ++ f ∷ [] ≡ map (place texts) (take (at + 1) texts)
  one_more fs f h is =
      ap (λ l. l ++ f ∷ []) h ∙ ap (λ n. map (place texts) (take at texts) ++ n ∷ []) (sym is) ∙ sym (map_push (place texts) (take at texts) (get_or texts at []))
      ∙ ap (map (place texts)) (sym (take_more texts at [] within))

  -- where the text was mentioned before, no look-up changes
  pub look_up_same : (f : ℕ) → position_from (bytes_eq (get_or texts at [])) 0 (take at texts) ≡ Some f → (q : List ℕ)
      → position_from (bytes_eq q) 0 (take at texts) ≡ position_from (bytes_eq q) 0 (take (at + 1) texts)
  look_up_same f h q = by (position_from (bytes_eq q) 0 (take at texts)) refl
    where
      next : take (at + 1) texts ≡ take at texts ++ get_or texts at [] ∷ []
      next = take_more texts at [] within

      by : (o : Option ℕ) → position_from (bytes_eq q) 0 (take at texts) ≡ o → position_from (bytes_eq q) 0 (take at texts) ≡ position_from (bytes_eq q) 0 (take (at + 1) texts)
      by (Some n) e = e ∙ sym (ap (position_from (bytes_eq q) 0) next ∙ found_still (bytes_eq q) (take at texts) (get_or texts at [] ∷ []) 0 n e)
      by None e = e ∙ sym (ap (position_from (bytes_eq q) 0) next ∙ missed_next (bytes_eq q) (take at texts) (get_or texts at []) 0 e ∙ other (bytes_eq q (get_or texts at [])) refl)
        where
          other : (b : Bool) → bytes_eq q (get_or texts at []) ≡ b → cond (bytes_eq q (get_or texts at [])) (Some (0 + length (take at texts))) None ≡ None
          other false is = ap (λ b. cond b (Some (0 + length (take at texts))) None) is
          other true is =
              let same : q ≡ get_or texts at [] = same_bytes q (get_or texts at []) true is refl in
              let none : position_from (bytes_eq (get_or texts at [])) 0 (take at texts) ≡ None = ap (λ s. position_from (bytes_eq s) 0 (take at texts)) (sym same) ∙ e in
              absurd cc

  -- where it is new, it has its place from then on
  pub look_up_here : position_from (bytes_eq (get_or texts at [])) 0 (take at texts) ≡ None → position_from (bytes_eq (get_or texts at [])) 0 (take (at + 1) texts) ≡ Some at
  look_up_here h =
      ap (position_from (bytes_eq (get_or texts at [])) 0) (take_more texts at [] within)
      ∙ missed_next (bytes_eq (get_or texts at [])) (take at texts) (get_or texts at []) 0 h
      ∙ ap (λ b. cond b (Some (0 + length (take at texts))) None) itself
      ∙ ap Some (let long = length-take-le at texts (omega arith) in let e : 0 + length (take at texts) ≡ at = omega arith in e)

  -- and other look-ups do not change
  pub look_up_other : (q : List ℕ) → bytes_eq q (get_or texts at []) ≡ false → position_from (bytes_eq q) 0 (take at texts) ≡ position_from (bytes_eq q) 0 (take (at + 1) texts)
  look_up_other q apart = by (position_from (bytes_eq q) 0 (take at texts)) refl
    where
      next : take (at + 1) texts ≡ take at texts ++ get_or texts at [] ∷ []
      next = take_more texts at [] within

      by : (o : Option ℕ) → position_from (bytes_eq q) 0 (take at texts) ≡ o → position_from (bytes_eq q) 0 (take at texts) ≡ position_from (bytes_eq q) 0 (take (at + 1) texts)
      by (Some n) e = e ∙ sym (ap (position_from (bytes_eq q) 0) next ∙ found_still (bytes_eq q) (take at texts) (get_or texts at [] ∷ []) 0 n e)
      by None e = e ∙ sym (ap (position_from (bytes_eq q) 0) next ∙ missed_next (bytes_eq q) (take at texts) (get_or texts at []) 0 e ∙ ap (λ b. cond b (Some (0 + length (take at texts))) None) apart)

  -- where it is new, each look-up finds it where that is what is looked for, and else what was found before
  pub look_up_more : position_from (bytes_eq (get_or texts at [])) 0 (take at texts) ≡ None → (q : List ℕ) (o : Option ℕ) → o ≡ position_from (bytes_eq q) 0 (take at texts)
      → cond (bytes_eq (get_or texts at []) q) (Some at) o ≡ position_from (bytes_eq q) 0 (take (at + 1) texts)
  look_up_more new q o before = by (bytes_eq (get_or texts at []) q) refl (bytes_eq q (get_or texts at [])) refl
    where
      by : (b : Bool) → bytes_eq (get_or texts at []) q ≡ b → (d : Bool) → bytes_eq q (get_or texts at []) ≡ d → cond (bytes_eq (get_or texts at []) q) (Some at) o ≡ position_from (bytes_eq q) 0 (take (at + 1) texts)
      by true e d f =
          ap (λ b. cond b (Some at) o) e ∙ sym (look_up_here new)
          ∙ ap (λ t. position_from (bytes_eq t) 0 (take (at + 1) texts)) (same_bytes (get_or texts at []) q true e refl)
      by false e false f = ap (λ b. cond b (Some at) o) e ∙ before ∙ look_up_other q f
      by false e true f =
          let same : q ≡ get_or texts at [] = same_bytes q (get_or texts at []) true f refl in
          let found : bytes_eq (get_or texts at []) q ≡ true = (bytes_eq-Decides (get_or texts at []) q).1 (sym same) in
          absurd (let no : false ≡ true = sym e ∙ found in cc)
