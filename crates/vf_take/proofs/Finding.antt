-- Looking for a chunk of a head, from place to place.
use Rattle.std.proofs.Common.{◌≡◌, ℕ, suc, ◌+◌, ◌<◌, ◌≤◌, List, [], ◌∷◌, drop, length, get_or, refl, sym, subst, ap, ◌∙◌, Result, Ok, Bool, true, false, cond, arith}
use Rattle.std.specs.Prelude.{Option, Some, None}
use Rattle.std.proofs.Math.ListN.{drop_of_length-le}
use Rattle.vf_base.specs.declared.refusal.Refusal.{Refusal}
use Rattle.vf_base.specs.declared.refusal.RuleFault.{RuleFault}
use Rattle.vf_closure.specs.Literals.{Literal}
use Rattle.vf_asking.specs.Journal.{Seen}
use Rattle.vf_asking.specs.Course.{Course, try, Follows, Blames, Reaches}
use Rattle.vf_asking.proofs.Following.{follows_try, reaches_try, reaches_step, reaches_end, reaches_blames, reaches_here, follows_done, blames_try}
use Rattle.vf_chunk.specs.declared.chunk.Chunk.{Chunk}
use Rattle.vf_chunk.specs.Heads.{is_one_name}
use Rattle.vf_chunk.specs.Heaps.{first_of}
use Rattle.vf_take.specs.declared.wanted.Places.{Places}
use Rattle.vf_take.specs.declared.wanted.Portion.{Portion}
use Rattle.vf_take.specs.declared.wanted.Found.{Found}
use Rattle.vf_take.specs.declared.wanted.Wanted.{Wanted}
use Rattle.vf_take.specs.Fits.{tries}
use Rattle.vf_take.specs.Takes.{finds, or_later}
use Rattle.vf_take.proofs.Positions.{rest_of, dropped}

-- ---- chunks of other heads are passed over
module _ (places : Places) (path : List Literal) (w : Wanted) where
  passed : (cs : List Chunk) (at : ℕ) → finds places path w cs at ≡ finds places path w (drop (first_of w.head.name cs) cs) (at + first_of w.head.name cs)
  unfolding finds
  passed [] at = let e : at ≡ at + 0 = omega arith in ap (finds places path w []) e
  passed (c ∷ cs) at = by (is_one_name c.head.name w.head.name) refl (passed cs (at + 1))
    where
      by : (b : Bool) → is_one_name c.head.name w.head.name ≡ b → finds places path w cs (at + 1) ≡ finds places path w (drop (first_of w.head.name cs) cs) (at + 1 + first_of w.head.name cs) → finds places path w (c ∷ cs) at ≡ finds places path w (drop (cond b 0 (suc (first_of w.head.name cs))) (c ∷ cs)) (at + cond b 0 (suc (first_of w.head.name cs)))
      by true e h = let f : at ≡ at + 0 = omega arith in ap (finds places path w (c ∷ cs)) f
      by false e h =
          let f : at + 1 + first_of w.head.name cs ≡ at + suc (first_of w.head.name cs) = omega arith in
          ap (λ b. cond b (try (tries places path w c) (or_later at (finds places path w cs (at + 1)))) (finds places path w cs (at + 1))) e
          ∙ h ∙ ap (finds places path w (drop (first_of w.head.name cs) cs)) f

  -- from one place on to the next of the head
  pub passed_on : (cs : List Chunk) (i j : ℕ) → j ≡ i + first_of w.head.name (drop i cs) → finds places path w (drop i cs) i ≡ finds places path w (drop j cs) j
  passed_on cs i j is =
      passed (drop i cs) i
      ∙ ap (λ xs. finds places path w xs (i + first_of w.head.name (drop i cs))) (dropped cs i (first_of w.head.name (drop i cs)))
      ∙ ap (λ n. finds places path w (drop n cs) n) (sym is)

  module _ (c : Course (Result (Option Found) Refusal)) (s : Seen) where
    pub finds_start : (cs : List Chunk) (j : ℕ) → c ≡ finds places path w cs 0 → j ≡ 0 + first_of w.head.name (drop 0 cs) → Reaches c s (finds places path w (drop j cs) j) s
    finds_start cs j e is = reaches_here _ _ s (e ∙ passed_on cs 0 j is)

    tried_first : (cs : List Chunk) (i : ℕ) (d : Chunk) (t : Seen) → i < length cs → d ≡ get_or cs i d → is_one_name d.head.name w.head.name ≡ true → Reaches c s (finds places path w (drop i cs) i) t → Reaches c s (try (tries places path w d) (or_later i (finds places path w (drop (i + 1) cs) (i + 1)))) t
    unfolding finds
    tried_first cs i d t low is one r =
        subst (λ b. Reaches c s (cond b (try (tries places path w d) (or_later i (finds places path w (drop (i + 1) cs) (i + 1)))) (finds places path w (drop (i + 1) cs) (i + 1))) t) one
        (subst (λ (xs : List Chunk). Reaches c s (finds places path w xs i) t) (rest_of cs i d low is) r)

    pub finds_step : (here : List Literal) (cs : List Chunk) (i j : ℕ) (d : Chunk) (o : Option Portion) (t u : Seen) → o ≡ None → here ≡ path → i < length cs → d ≡ get_or cs i d → is_one_name d.head.name w.head.name ≡ true → Reaches c s (finds places path w (drop i cs) i) t → Follows (tries places here w d) t u (Ok o) → j ≡ i + 1 + first_of w.head.name (drop (i + 1) cs) → Reaches c s (finds places path w (drop j cs) j) u
    finds_step here cs i j d o t u none same low is one r p to =
        let moved = subst (λ (z : Option Portion). Follows (tries places path w d) t u (Ok z)) none (subst (λ (x : List Literal). Follows (tries places x w d) t u (Ok o)) same p) in
        let later : Reaches c s (finds places path w (drop (i + 1) cs) (i + 1)) u = reaches_step c _ _ s t u (tried_first cs i d t low is one r) (reaches_try (tries places path w d) (or_later i (finds places path w (drop (i + 1) cs) (i + 1))) t u None moved) in
        subst (λ (x : Course (Result (Option Found) Refusal)). Reaches c s x u) (passed_on cs (i + 1) j to) later

    pub finds_found : (here : List Literal) (cs : List Chunk) (i : ℕ) (d : Chunk) (p : Portion) (o : Option Portion) (t u : Seen) → o ≡ Some p → here ≡ path → i < length cs → d ≡ get_or cs i d → is_one_name d.head.name w.head.name ≡ true → Reaches c s (finds places path w (drop i cs) i) t → Follows (tries places here w d) t u (Ok o) → Follows c s u (Ok (Some (record { at = i; portion = p })))
    finds_found here cs i d p o t u some same low is one r q =
        let moved = subst (λ (z : Option Portion). Follows (tries places path w d) t u (Ok z)) some (subst (λ (x : List Literal). Follows (tries places x w d) t u (Ok o)) same q) in
        reaches_end c _ s t u (Ok (Some (record { at = i; portion = p }))) (tried_first cs i d t low is one r)
        (follows_try (tries places path w d) (or_later i (finds places path w (drop (i + 1) cs) (i + 1))) t u u (Some p) (Ok (Some (record { at = i; portion = p }))) moved (follows_done (Ok (Some (record { at = i; portion = p }))) (Ok (Some (record { at = i; portion = p }))) u u refl refl))

    pub finds_fail : (here : List Literal) (cs : List Chunk) (i : ℕ) (d : Chunk) (t u : Seen) (f : RuleFault) → here ≡ path → i < length cs → d ≡ get_or cs i d → is_one_name d.head.name w.head.name ≡ true → Reaches c s (finds places path w (drop i cs) i) t → Blames (tries places here w d) t u f → Blames c s u f
    finds_fail here cs i d t u f same low is one r b =
        let moved = subst (λ (x : List Literal). Blames (tries places x w d) t u f) same b in
        reaches_blames c _ s t u f (tried_first cs i d t low is one r) (blames_try (tries places path w d) (or_later i (finds places path w (drop (i + 1) cs) (i + 1))) t u f moved)

    pub finds_end : (cs : List Chunk) (i : ℕ) (t : Seen) → length cs ≤ i → Reaches c s (finds places path w (drop i cs) i) t → Follows c s t (Ok None)
    unfolding finds
    finds_end cs i t none r =
        reaches_end c _ s t t (Ok None) (subst (λ (xs : List Chunk). Reaches c s (finds places path w xs i) t) (drop_of_length-le cs none) r) (follows_done (Ok None) (Ok None) t t refl refl)
