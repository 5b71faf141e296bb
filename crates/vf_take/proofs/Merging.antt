-- Younger chunks, one after another.
use Rattle.std.proofs.Common.{◌≡◌, ℕ, zero, suc, ◌+◌, ◌-◌, ◌<◌, ◌≤◌, List, [], ◌∷◌, ◌++◌, length, refl, sym, subst, ap, ◌∙◌, Result, Ok, Err, arith}
use Rattle.std.specs.Prelude.{Some, None, slice_get}
use Rattle.vf_base.specs.declared.rule.Rule.TheVariants as rules
use Rattle.vf_base.specs.declared.refusal.Refusal.{Refusal}
use Rattle.vf_base.specs.declared.refusal.RuleFault.{RuleFault}
use Rattle.vf_base.specs.declared.refusal.RuleFault.TheVariants.{Refused}
use Rattle.vf_closure.specs.Literals.{Literal}
use Rattle.vf_asking.specs.Journal.{Seen}
use Rattle.vf_asking.specs.Course.{Course, try, refusal, Follows, Blames, Reaches}
use Rattle.vf_asking.proofs.Following.{reaches_try, reaches_step, reaches_end, reaches_blames, reaches_here, follows_done, blames_try, blames_refused}
use Rattle.vf_chunk.specs.declared.chunk.Chunk.{Chunk}
use Rattle.vf_take.specs.declared.wanted.Places.{Places}
use Rattle.vf_take.specs.declared.wanted.Portion.{Portion}
use Rattle.vf_take.specs.declared.wanted.Gathered.{Gathered}
use Rattle.vf_take.specs.declared.wanted.Attempt.{Attempt}
use Rattle.vf_take.specs.declared.wanted.Taken.{Taken}
use Rattle.vf_take.specs.declared.wanted.Wanted.{Wanted}
use Rattle.vf_take.specs.Results.{Faults}
use Rattle.vf_take.specs.Usable.{ChunkCanBeCompared, HeapCanBeCompared}
use Rattle.vf_take.specs.Takes.{taken_at, beside}
use Rattle.vf_take.specs.Merges.{gathers_one, gathers, attempts, settled, merging}
use Rattle.vf_take.proofs.Results.{done_gives, done_faults}
use Rattle.vf_take.proofs.Taking.{beside_faults}

-- ---- chunks that can be compared
pub heap_first : (cs ds : List Chunk) (c : Chunk) → cs ≡ c ∷ ds → HeapCanBeCompared cs → ChunkCanBeCompared c
heap_first cs ds c e h = (subst HeapCanBeCompared e h).0

pub heap_rest : (cs ds : List Chunk) (c : Chunk) → cs ≡ c ∷ ds → HeapCanBeCompared cs → HeapCanBeCompared ds
heap_rest cs ds c e h = (subst HeapCanBeCompared e h).1

heap_more : (cs : List Chunk) (c : Chunk) → HeapCanBeCompared cs → ChunkCanBeCompared c → HeapCanBeCompared (cs ++ c ∷ [])
heap_more [] c h k = (k, tt)
heap_more (d ∷ ds) c h k = (h.0, heap_more ds c h.1 k)

pub heap_put : (cs ds : List Chunk) (c : Chunk) → ds ≡ cs ++ c ∷ [] → HeapCanBeCompared cs → ChunkCanBeCompared c → HeapCanBeCompared ds
heap_put cs ds c e h k = subst HeapCanBeCompared (sym e) (heap_more cs c h k)

-- ---- an older chunk takes in younger ones
module _ (places : Places) (c : Course (Result (Gathered × List Literal) Refusal)) (s : Seen) where
  pub gathers_start : (path : List Literal) (g h : Gathered) (ds es : List Chunk) → c ≡ gathers places path g ds → h ≡ g → es ≡ ds → Reaches c s (gathers places path h es) s
  gathers_start path g h ds es e f k = reaches_here _ _ s (e ∙ (λ i. gathers places path (sym f i) (sym k i)))

  gathers_first : (path : List Literal) (g : Gathered) (d : Chunk) (ds rest : List Chunk) (t : Seen) → rest ≡ d ∷ ds → Reaches c s (gathers places path g rest) t → Reaches c s (try (gathers_one places path g d) (λ h. gathers places h.1 h.0 ds)) t
  unfolding gathers
  gathers_first path g d ds rest t is r = subst (λ (xs : List Chunk). Reaches c s (gathers places path g xs) t) is r

  pub gathers_step : (path more : List Literal) (g h : Gathered) (d : Chunk) (ds rest : List Chunk) (t u : Seen) → rest ≡ d ∷ ds → Reaches c s (gathers places path g rest) t → Follows (gathers_one places path g d) t u (Ok (h, more)) → Reaches c s (gathers places more h ds) u
  gathers_step path more g h d ds rest t u is r p =
      reaches_step c _ _ s t u (gathers_first path g d ds rest t is r) (reaches_try (gathers_one places path g d) (λ x. gathers places x.1 x.0 ds) t u (h, more) p)

  pub gathers_fails : (path : List Literal) (g : Gathered) (d : Chunk) (ds rest : List Chunk) (t u : Seen) (f : RuleFault) → rest ≡ d ∷ ds → Reaches c s (gathers places path g rest) t → Blames (gathers_one places path g d) t u f → Blames c s u f
  gathers_fails path g d ds rest t u f is r b =
      reaches_blames c _ s t u f (gathers_first path g d ds rest t is r) (blames_try (gathers_one places path g d) (λ x. gathers places x.1 x.0 ds) t u f b)

  pub gathers_end : (path here : List Literal) (g : Gathered) (rest : List Chunk) (t : Seen) → here ≡ path → length rest ≤ 0 → Reaches c s (gathers places path g rest) t → Follows c s t (Ok (g, here))
  unfolding gathers
  gathers_end path here g [] t same none r = reaches_end c _ s t t (Ok (g, here)) r (follows_done (Ok (g, path)) (Ok (g, here)) t t refl (λ i. Ok (g, same i)))
  gathers_end path here g (x ∷ rest) t same none r = absurd (omega (arith, none))

-- ---- attempts, the oldest first
module _ (places : Places) (w : Wanted) (c : Course (Result (Taken × List Literal) Refusal)) (s : Seen) where
  pub merging_start : (n : ℕ) (path : List Literal) (before rest cs : List Chunk) → c ≡ merging n places path w [] cs → before ≡ [] → rest ≡ cs → Reaches c s (merging (n - 0) places path w before rest) s
  merging_start n path before rest cs e f k =
      let z : n ≡ n - 0 = omega arith in
      reaches_here _ _ s (e ∙ (λ i. merging (z i) places path w (sym f i) (sym k i)))

  merging_first : (n k : ℕ) (path : List Literal) (before : List Chunk) (d : Chunk) (ds rest : List Chunk) (t : Seen) → k < n → rest ≡ d ∷ ds → Reaches c s (merging (n - k) places path w before rest) t → Reaches c s (try (attempts places path w d ds) (λ a. settled places before a.0 a.1 a.0.portion (merging (n - (k + 1)) places a.1 w (before ++ a.0.gathered.chunk ∷ []) a.0.gathered.stay))) t
  unfolding merging
  merging_first n k path before d ds rest t low is r =
      let more : n - k ≡ suc (n - (k + 1)) = omega (arith, low) in
      subst (λ (xs : List Chunk). Reaches c s (merging (suc (n - (k + 1))) places path w before xs) t) is
      (subst (λ m. Reaches c s (merging m places path w before rest) t) more r)

  abbrev behind : ℕ → ℕ → List Chunk → Attempt × List Literal → Course (Result (Taken × List Literal) Refusal)
  behind n k before a = settled places before a.0 a.1 a.0.portion (merging (n - (k + 1)) places a.1 w (before ++ a.0.gathered.chunk ∷ []) a.0.gathered.stay)

  attempted : (n k : ℕ) (path more : List Literal) (before : List Chunk) (a : Attempt) (d : Chunk) (ds rest : List Chunk) (t u : Seen) → k < n → rest ≡ d ∷ ds → Reaches c s (merging (n - k) places path w before rest) t → Follows (attempts places path w d ds) t u (Ok (a, more)) → Reaches c s (settled places before a more a.portion (merging (n - (k + 1)) places more w (before ++ a.gathered.chunk ∷ []) a.gathered.stay)) u
  attempted n k path more before a d ds rest t u low is r p =
      reaches_step c _ _ s t u (merging_first n k path before d ds rest t low is r) (reaches_try (attempts places path w d ds) (behind n k before) t u (a, more) p)

  -- it does not fit
  pub merging_step : (n k : ℕ) (path more : List Literal) (before older : List Chunk) (a : Attempt) (d : Chunk) (ds rest : List Chunk) (t u : Seen) → k < n → rest ≡ d ∷ ds → Reaches c s (merging (n - k) places path w before rest) t → Follows (attempts places path w d ds) t u (Ok (a, more)) → a.portion ≡ None → older ≡ before ++ a.gathered.chunk ∷ [] → Reaches c s (merging (n - (k + 1)) places more w older a.gathered.stay) u
  merging_step n k path more before older a d ds rest t u low is r p none put =
      let later = merging (n - (k + 1)) places more w (before ++ a.gathered.chunk ∷ []) a.gathered.stay in
      subst (λ (xs : List Chunk). Reaches c s (merging (n - (k + 1)) places more w xs a.gathered.stay) u) (sym put)
      (subst (λ o. Reaches c s (settled places before a more o later) u) none (attempted n k path more before a d ds rest t u low is r p))

  -- it fits
  pub merging_takes : (n k : ℕ) (path more : List Literal) (before : List Chunk) (a : Attempt) (d : Chunk) (ds rest : List Chunk) (x : Portion) (y : Taken) (t u : Seen) → k < n → rest ≡ d ∷ ds → Reaches c s (merging (n - k) places path w before rest) t → Follows (attempts places path w d ds) t u (Ok (a, more)) → a.portion ≡ Some x → taken_at places (before ++ a.gathered.chunk ∷ a.gathered.stay) (length before) x (slice_get (before ++ a.gathered.chunk ∷ a.gathered.stay) (length before)) ≡ Ok y → Follows c s u (Ok (y, more))
  merging_takes n k path more before a d ds rest x y t u low is r p some e =
      let later = merging (n - (k + 1)) places more w (before ++ a.gathered.chunk ∷ []) a.gathered.stay in
      reaches_end c _ s u u (Ok (y, more)) (subst (λ o. Reaches c s (settled places before a more o later) u) some (attempted n k path more before a d ds rest t u low is r p)) (done_gives _ (y, more) u (ap (beside more) e))

  pub merging_faults : (n k : ℕ) (path more : List Literal) (before : List Chunk) (a : Attempt) (d : Chunk) (ds rest : List Chunk) (x : Portion) (f : RuleFault) (t u : Seen) → k < n → rest ≡ d ∷ ds → Reaches c s (merging (n - k) places path w before rest) t → Follows (attempts places path w d ds) t u (Ok (a, more)) → a.portion ≡ Some x → Faults (taken_at places (before ++ a.gathered.chunk ∷ a.gathered.stay) (length before) x (slice_get (before ++ a.gathered.chunk ∷ a.gathered.stay) (length before))) f → Blames c s u f
  merging_faults n k path more before a d ds rest x f t u low is r p some h =
      let later = merging (n - (k + 1)) places more w (before ++ a.gathered.chunk ∷ []) a.gathered.stay in
      reaches_blames c _ s u u f (subst (λ o. Reaches c s (settled places before a more o later) u) some (attempted n k path more before a d ds rest t u low is r p)) (done_faults _ f u (beside_faults more _ f h))

  pub merging_fails : (n k : ℕ) (path : List Literal) (before : List Chunk) (d : Chunk) (ds rest : List Chunk) (f : RuleFault) (t u : Seen) → k < n → rest ≡ d ∷ ds → Reaches c s (merging (n - k) places path w before rest) t → Blames (attempts places path w d ds) t u f → Blames c s u f
  merging_fails n k path before d ds rest f t u low is r b =
      reaches_blames c _ s t u f (merging_first n k path before d ds rest t low is r) (blames_try (attempts places path w d ds) (behind n k before) t u f b)

  -- nothing is left
  pub merging_short : (n k : ℕ) (path : List Literal) (before rest : List Chunk) (f : RuleFault) (t : Seen) → length rest ≤ 0 → f ≡ Refused (refusal rules.NoChunk places.part) → Reaches c s (merging (n - k) places path w before rest) t → Blames c s t f
  unfolding merging
  merging_short n k path before rest f t none is r =
      subst (λ (x : RuleFault). Blames c s t x) (sym is) (reaches_blames c _ s t t _ r (blames_refused _ t t (refusal rules.NoChunk places.part) (by (n - k) rest none)))
    where
      by : (m : ℕ) (xs : List Chunk) → length xs ≤ 0 → Follows (merging m places path w before xs) t t (Err (refusal rules.NoChunk places.part))
      by zero xs e = follows_done _ _ t t refl refl
      by (suc m) [] e = follows_done _ _ t t refl refl
      by (suc m) (x ∷ xs) e = absurd (omega (arith, e))

  pub merging_end : (n k : ℕ) (path : List Literal) (before rest : List Chunk) (f : RuleFault) (t : Seen) → n ≤ k → f ≡ Refused (refusal rules.NoChunk places.part) → Reaches c s (merging (n - k) places path w before rest) t → Blames c s t f
  unfolding merging
  merging_end n k path before rest f t high is r =
      let z : n - k ≡ 0 = omega (arith, high) in
      subst (λ (x : RuleFault). Blames c s t x) (sym is) (reaches_blames c _ s t t _ (subst (λ m. Reaches c s (merging m places path w before rest) t) z r) (blames_refused _ t t (refusal rules.NoChunk places.part) (follows_done _ _ t t refl refl)))
