-- Looking for a cell of a field, from place to place.
use Rattle.std.proofs.Common.{◌≡◌, ℕ, suc, ◌+◌, ◌<◌, ◌≤◌, List, [], ◌∷◌, drop, length, get_or, refl, sym, subst, ap, ◌∙◌, Result, Ok, Bool, true, false, cond}
use Rattle.std.proofs.Math.ListN.{drop_of_length-le}
use Rattle.vf_base.specs.declared.rule.Rule.TheVariants as rules
use Rattle.vf_base.specs.declared.refusal.Refusal.{Refusal}
use Rattle.vf_base.specs.declared.refusal.RuleFault.{RuleFault}
use Rattle.vf_base.specs.declared.refusal.RuleFault.TheVariants.{Refused}
use Rattle.vf_closure.specs.Terms.{Term}
use Rattle.vf_closure.specs.Literals.{Literal}
use Rattle.vf_asking.specs.Journal.{Seen}
use Rattle.vf_asking.specs.Course.{Course, done, try, refusal, Follows, Blames, Reaches}
use Rattle.vf_asking.proofs.Following.{follows_try, reaches_try, reaches_step, reaches_end, reaches_blames, reaches_here, follows_done, blames_try, blames_later, blames_refused}
use Rattle.vf_chunk.specs.declared.chunk.Argument.{Argument}
use Rattle.vf_chunk.specs.declared.chunk.Chunk.{Chunk}
use Rattle.vf_chunk.specs.declared.head.HeadName.{HeadName}
use Rattle.vf_chunk.specs.Heads.{is_one_name}
use Rattle.vf_chunk.specs.Heaps.{first_of}
use Rattle.vf_take.specs.declared.wanted.Places.{Places}
use Rattle.vf_take.specs.Results.{Faults}
use Rattle.vf_take.specs.Usable.{known_at, ArgumentsCanBeCompared, ChunkCanBeCompared}
use Rattle.vf_take.specs.Reads.{points, content, reads}
use Rattle.vf_take.proofs.Results.{done_gives, done_faults}
use Rattle.vf_take.proofs.Positions.{rest_of, dropped}

-- the arguments of the chunk at a place
module _ (cs : List Chunk) (i : ℕ) (d : Chunk) (xs : List Argument) (is : d ≡ get_or cs i d) (all : xs ≡ (get_or cs i d).arguments) where
  pub arguments_of : xs ≡ d.arguments
  arguments_of = all ∙ ap (λ (e : Chunk). e.arguments) (sym is)

  pub arguments_here : ChunkCanBeCompared d → ArgumentsCanBeCompared xs
  arguments_here h = subst ArgumentsCanBeCompared (sym arguments_of) h.arguments

module _ (places : Places) (path : List Literal) (name : HeadName) (p : Term) where
  -- what follows where a cell's pointer is compared
  abbrev onward : Chunk → Course (Result Term Refusal) → Bool → Course (Result Term Refusal)
  onward d later met = cond met (done (content places.part (known_at d.arguments 1))) later

  passed : (cs : List Chunk) → reads places path name p cs ≡ reads places path name p (drop (first_of name cs) cs)
  unfolding reads
  passed [] = refl
  passed (c ∷ cs) = by (is_one_name c.head.name name) refl (passed cs)
    where
      by : (b : Bool) → is_one_name c.head.name name ≡ b → reads places path name p cs ≡ reads places path name p (drop (first_of name cs) cs) → reads places path name p (c ∷ cs) ≡ reads places path name p (drop (cond b 0 (suc (first_of name cs))) (c ∷ cs))
      by true e h = refl
      by false e h = ap (λ b. cond b (try (points places.statement path p (known_at c.arguments 0)) (onward c (reads places path name p cs))) (reads places path name p cs)) e ∙ h

  passed_on : (cs : List Chunk) (i j : ℕ) → j ≡ i + first_of name (drop i cs) → reads places path name p (drop i cs) ≡ reads places path name p (drop j cs)
  passed_on cs i j is =
      passed (drop i cs)
      ∙ ap (reads places path name p) (dropped cs i (first_of name (drop i cs)))
      ∙ ap (λ n. reads places path name p (drop n cs)) (sym is)

  module _ (c : Course (Result Term Refusal)) (s : Seen) where
    pub reads_start : (cs : List Chunk) (j : ℕ) → c ≡ reads places path name p cs → j ≡ 0 + first_of name (drop 0 cs) → Reaches c s (reads places path name p (drop j cs)) s
    reads_start cs j e is = reaches_here _ _ s (e ∙ passed_on cs 0 j is)

    compared_first : (cs : List Chunk) (i : ℕ) (d : Chunk) (t : Seen) → i < length cs → d ≡ get_or cs i d → is_one_name d.head.name name ≡ true → Reaches c s (reads places path name p (drop i cs)) t → Reaches c s (try (points places.statement path p (known_at d.arguments 0)) (onward d (reads places path name p (drop (i + 1) cs)))) t
    unfolding reads
    compared_first cs i d t low is one r =
        subst (λ b. Reaches c s (cond b (try (points places.statement path p (known_at d.arguments 0)) (onward d (reads places path name p (drop (i + 1) cs)))) (reads places path name p (drop (i + 1) cs))) t) one
        (subst (λ (xs : List Chunk). Reaches c s (reads places path name p xs) t) (rest_of cs i d low is) r)

    -- the pointer of a cell whose arguments are at hand
    here_points : (here : List Literal) (d : Chunk) (xs : List Argument) (r : Result Bool Refusal) (t u : Seen) → here ≡ path → xs ≡ d.arguments → Follows (points places.statement here p (known_at xs 0)) t u r → Follows (points places.statement path p (known_at d.arguments 0)) t u r
    here_points here d xs r t u same all q =
        subst (λ (zs : List Argument). Follows (points places.statement path p (known_at zs 0)) t u r) all (subst (λ (x : List Literal). Follows (points places.statement x p (known_at xs 0)) t u r) same q)

    pub reads_step : (here : List Literal) (cs : List Chunk) (i j : ℕ) (d : Chunk) (xs : List Argument) (y : Bool) (t u : Seen) → y ≡ false → here ≡ path → i < length cs → d ≡ get_or cs i d → xs ≡ d.arguments → is_one_name d.head.name name ≡ true → Reaches c s (reads places path name p (drop i cs)) t → Follows (points places.statement here p (known_at xs 0)) t u (Ok y) → j ≡ i + 1 + first_of name (drop (i + 1) cs) → Reaches c s (reads places path name p (drop j cs)) u
    reads_step here cs i j d xs y t u met same low is all one r q to =
        let moved = subst (λ (z : Bool). Follows (points places.statement path p (known_at d.arguments 0)) t u (Ok z)) met (here_points here d xs (Ok y) t u same all q) in
        let later : Reaches c s (reads places path name p (drop (i + 1) cs)) u = reaches_step c _ _ s t u (compared_first cs i d t low is one r) (reaches_try (points places.statement path p (known_at d.arguments 0)) (onward d (reads places path name p (drop (i + 1) cs))) t u false moved) in
        subst (λ (x : Course (Result Term Refusal)). Reaches c s x u) (passed_on cs (i + 1) j to) later

    pub reads_gives : (here : List Literal) (cs : List Chunk) (i : ℕ) (d : Chunk) (xs : List Argument) (y : Bool) (v : Term) (t u : Seen) → y ≡ true → here ≡ path → i < length cs → d ≡ get_or cs i d → xs ≡ d.arguments → is_one_name d.head.name name ≡ true → Reaches c s (reads places path name p (drop i cs)) t → Follows (points places.statement here p (known_at xs 0)) t u (Ok y) → content places.part (known_at xs 1) ≡ Ok v → Follows c s u (Ok v)
    reads_gives here cs i d xs y v t u met same low is all one r q e =
        let moved = subst (λ (z : Bool). Follows (points places.statement path p (known_at d.arguments 0)) t u (Ok z)) met (here_points here d xs (Ok y) t u same all q) in
        let given = subst (λ (zs : List Argument). content places.part (known_at zs 1) ≡ Ok v) all e in
        reaches_end c _ s t u (Ok v) (compared_first cs i d t low is one r)
        (follows_try (points places.statement path p (known_at d.arguments 0)) (onward d (reads places path name p (drop (i + 1) cs))) t u u true (Ok v) moved (done_gives (content places.part (known_at d.arguments 1)) v u given))

    pub reads_faults : (here : List Literal) (cs : List Chunk) (i : ℕ) (d : Chunk) (xs : List Argument) (y : Bool) (f : RuleFault) (t u : Seen) → y ≡ true → here ≡ path → i < length cs → d ≡ get_or cs i d → xs ≡ d.arguments → is_one_name d.head.name name ≡ true → Reaches c s (reads places path name p (drop i cs)) t → Follows (points places.statement here p (known_at xs 0)) t u (Ok y) → Faults (content places.part (known_at xs 1)) f → Blames c s u f
    reads_faults here cs i d xs y f t u met same low is all one r q e =
        let moved = subst (λ (z : Bool). Follows (points places.statement path p (known_at d.arguments 0)) t u (Ok z)) met (here_points here d xs (Ok y) t u same all q) in
        let told = subst (λ (zs : List Argument). Faults (content places.part (known_at zs 1)) f) all e in
        reaches_blames c _ s t u f (compared_first cs i d t low is one r)
        (blames_later (points places.statement path p (known_at d.arguments 0)) (onward d (reads places path name p (drop (i + 1) cs))) t u u true f moved (done_faults (content places.part (known_at d.arguments 1)) f u told))

    pub reads_fail : (here : List Literal) (cs : List Chunk) (i : ℕ) (d : Chunk) (xs : List Argument) (t u : Seen) (f : RuleFault) → here ≡ path → i < length cs → d ≡ get_or cs i d → xs ≡ d.arguments → is_one_name d.head.name name ≡ true → Reaches c s (reads places path name p (drop i cs)) t → Blames (points places.statement here p (known_at xs 0)) t u f → Blames c s u f
    reads_fail here cs i d xs t u f same low is all one r b =
        let moved = subst (λ (zs : List Argument). Blames (points places.statement path p (known_at zs 0)) t u f) all (subst (λ (x : List Literal). Blames (points places.statement x p (known_at xs 0)) t u f) same b) in
        reaches_blames c _ s t u f (compared_first cs i d t low is one r) (blames_try (points places.statement path p (known_at d.arguments 0)) (onward d (reads places path name p (drop (i + 1) cs))) t u f moved)

    pub reads_end : (cs : List Chunk) (i : ℕ) (f : RuleFault) (t : Seen) → length cs ≤ i → f ≡ Refused (refusal rules.NoChunk places.part) → Reaches c s (reads places path name p (drop i cs)) t → Blames c s t f
    unfolding reads
    reads_end cs i f t none is r =
        subst (λ (x : RuleFault). Blames c s t x) (sym is)
        (reaches_blames c _ s t t _ (subst (λ (xs : List Chunk). Reaches c s (reads places path name p xs) t) (drop_of_length-le cs none) r) (blames_refused _ t t (refusal rules.NoChunk places.part) (follows_done _ _ t t refl refl)))
