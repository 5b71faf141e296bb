-- Chunks that take in younger ones.
use Rattle.std.proofs.Common.{◌≡◌, ◌<◌, ◌≤◌, length, get_or, arith, refl, sym, subst, ap, ◌∙◌, Result, Ok, Err, Bool, true, false, List, [], ◌∷◌, ◌++◌}
use Rattle.std.specs.Prelude.{Option, Some, None, slice_get}
use Rattle.std.proofs.lemmas.Option.{slice_get_read}
use Rattle.vf_base.specs.declared.place.Place.{Place}
use Rattle.vf_base.specs.declared.refusal.Refusal.{Refusal}
use Rattle.vf_base.specs.declared.refusal.RuleFault.{RuleFault}
use Rattle.vf_base.specs.declared.refusal.RuleFault.TheVariants.{Refused, Memory}
use Rattle.vf_closure.specs.Terms.{Term}
use Rattle.vf_closure.specs.Literals.{Literal}
use Rattle.vf_asking.specs.Journal.{Seen}
use Rattle.vf_asking.specs.Course.{Course, done, try, Follows, Blames}
use Rattle.vf_asking.proofs.Following.{follows_done, follows_try, follows_if, follows_unless, blames_try, blames_later, blames_memory}
use Rattle.vf_asking.proofs.Seeing.{grew_not, grew_on, grew_path, grew_node, grew_begun}
use Rattle.vf_equality.specs.Equality.{equal}
use Rattle.vf_chunk.specs.declared.chunk.Chunk.{Chunk}
use Rattle.vf_chunk.specs.Heads.{is_one_name}
use Rattle.vf_take.specs.declared.wanted.Places.{Places}
use Rattle.vf_take.specs.declared.wanted.Pattern.{Pattern}
use Rattle.vf_take.specs.declared.wanted.Pattern.TheVariants as patterns
use Rattle.vf_take.specs.declared.wanted.Portion.{Portion}
use Rattle.vf_take.specs.declared.wanted.Gathered.{Gathered}
use Rattle.vf_take.specs.declared.wanted.Attempt.{Attempt}
use Rattle.vf_take.specs.declared.wanted.Wanted.{Wanted}
use Rattle.vf_take.specs.Usable.{known_at}
use Rattle.vf_take.proofs.Results.{not_both}
use Rattle.vf_take.specs.Fits.{tries}
use Rattle.vf_take.specs.Merges.{joins, merges, gathers_if, gathers_one, gathers, begins, starts, alone, tries_gathered, attempts_if, attempts}

-- ---- which chunk takes in others
module _ (place : Place) (path : List Literal) (a : Option Term) (ps : List Pattern) (s t : Seen) where
  -- the first pattern
  first_is : (p q : Pattern) → 0 < length ps → p ≡ get_or ps 0 p → p ≡ q → Some q ≡ slice_get ps 0
  first_is p q low is e = sym (slice_get_read ps (length ps) 0 p refl low is ∙ ap Some e)

  pub begins_equal : (x y : Term) (p : Pattern) (r : Result Bool Refusal) → 0 < length ps → Some x ≡ a → p ≡ get_or ps 0 p → p ≡ patterns.Is y → Follows (equal place path x y) s t r → Follows (begins place path a (slice_get ps 0)) s t r
  unfolding begins
  begins_equal x y p r low e f g h = subst (λ z. Follows (begins place path z (slice_get ps 0)) s t r) e (subst (λ z. Follows (begins place path (Some x) z) s t r) (first_is p (patterns.Is y) low f g) h)

  pub begins_fail : (x y : Term) (p : Pattern) (f : RuleFault) → 0 < length ps → Some x ≡ a → p ≡ get_or ps 0 p → p ≡ patterns.Is y → Blames (equal place path x y) s t f → Blames (begins place path a (slice_get ps 0)) s t f
  unfolding begins
  begins_fail x y p r low e f g h = subst (λ z. Blames (begins place path z (slice_get ps 0)) s t r) e (subst (λ z. Blames (begins place path (Some x) z) s t r) (first_is p (patterns.Is y) low f g) h)

  pub begins_named : (x : Term) (p : Pattern) → 0 < length ps → Some x ≡ a → p ≡ get_or ps 0 p → p ≡ patterns.Name → Follows (begins place path a (slice_get ps 0)) s s (Ok true)
  unfolding begins
  begins_named x p low e f g = subst (λ z. Follows (begins place path z (slice_get ps 0)) s s (Ok true)) e (subst (λ z. Follows (begins place path (Some x) z) s s (Ok true)) (first_is p patterns.Name low f g) (follows_done (Ok true) (Ok true) s s refl refl))

  pub begins_wild : (x : Term) (p : Pattern) → 0 < length ps → Some x ≡ a → p ≡ get_or ps 0 p → p ≡ patterns.Wild → Follows (begins place path a (slice_get ps 0)) s s (Ok true)
  unfolding begins
  begins_wild x p low e f g = subst (λ z. Follows (begins place path z (slice_get ps 0)) s s (Ok true)) e (subst (λ z. Follows (begins place path (Some x) z) s s (Ok true)) (first_is p patterns.Wild low f g) (follows_done (Ok true) (Ok true) s s refl refl))

  pub begins_lacks : None ≡ a → Follows (begins place path a (slice_get ps 0)) s s (Ok false)
  unfolding begins
  begins_lacks e = subst (λ z. Follows (begins place path z (slice_get ps 0)) s s (Ok false)) e (follows_done (Ok false) (Ok false) s s refl refl)

  pub begins_unasked : length ps ≤ 0 → Follows (begins place path a (slice_get ps 0)) s s (Ok false)
  unfolding begins
  begins_unasked none = by a ps none
    where
      by : (a : Option Term) (qs : List Pattern) → length qs ≤ 0 → Follows (begins place path a (slice_get qs 0)) s s (Ok false)
      by (Some x) [] high = follows_done (Ok false) (Ok false) s s refl refl
      by None [] high = follows_done (Ok false) (Ok false) s s refl refl
      by a (q ∷ qs) high = absurd (omega (arith, high))

pub ruleset beginning = (begins_equal, begins_fail, begins_named, begins_wild, begins_lacks, begins_unasked, grew_not)

module _ (place : Place) (path : List Literal) (w : Wanted) (c : Chunk) (s t : Seen) where
  pub starts_not : is_one_name c.head.name w.head.name ≡ false → Follows (starts place path w c) s s (Ok false)
  unfolding starts
  starts_not n = follows_unless (is_one_name c.head.name w.head.name) _ _ s s (Ok false) (not_both (is_one_name c.head.name w.head.name) n) (follows_done (Ok false) (Ok false) s s refl refl)

  pub starts_begins : (y : Result Bool Refusal) → is_one_name c.head.name w.head.name ≡ true → Follows (begins place path (known_at c.arguments 0) (slice_get w.patterns 0)) s t y → Follows (starts place path w c) s t y
  unfolding starts
  starts_begins y e p = follows_if (is_one_name c.head.name w.head.name) _ _ s t y e p

  pub starts_fail : (f : RuleFault) → is_one_name c.head.name w.head.name ≡ true → Blames (begins place path (known_at c.arguments 0) (slice_get w.patterns 0)) s t f → Blames (starts place path w c) s t f
  unfolding Blames
  starts_fail (Refused e) g p = starts_begins (Err e) g p
  starts_fail Memory g p = tt

pub ruleset starting = (starts_not, starts_begins, starts_fail, grew_not)

-- ---- one younger chunk
module _ (places : Places) (path : List Literal) (g : Gathered) (d : Chunk) (s t : Seen) where
  abbrev asks : Course (Result Bool Refusal)
  asks = joins places.statement path g.chunk d

  pub gathers_fail : (f : RuleFault) → Blames (joins places.statement path g.chunk d) s t f → Blames (gathers_one places path g d) s t f
  unfolding gathers_one
  gathers_fail f p = blames_try asks (gathers_if places path g d) s t f p

  pub gathers_not : (here : List Literal) (h : Gathered) → here ≡ path → Follows (joins places.statement path g.chunk d) s t (Ok false) → h ≡ record { chunk = g.chunk; stay = g.stay ++ d ∷ []; has_merged = g.has_merged } → Follows (gathers_one places path g d) s t (Ok (h, here))
  unfolding gathers_one gathers_if
  gathers_not here h same p is =
      follows_try asks (gathers_if places path g d) s t t false (Ok (h, here)) p (follows_done (Ok (record { chunk = g.chunk; stay = g.stay ++ d ∷ []; has_merged = g.has_merged }, path)) (Ok (h, here)) t t refl (λ i. Ok (is i, same i)))

module _ (places : Places) (path : List Literal) (g : Gathered) (d : Chunk) (s t u : Seen) where
  pub gathers_in : (here more : List Literal) (m : Chunk) (h : Gathered) → here ≡ path → Follows (joins places.statement path g.chunk d) s t (Ok true) → Follows (merges places here g.chunk d) t u (Ok (m, more)) → h ≡ record { chunk = m; stay = g.stay; has_merged = true } → Follows (gathers_one places path g d) s u (Ok (h, more))
  unfolding gathers_one gathers_if
  gathers_in here more m h same p q is =
      let moved = subst (λ (x : List Literal). Follows (merges places x g.chunk d) t u (Ok (m, more))) same q in
      follows_try (joins places.statement path g.chunk d) (gathers_if places path g d) s t u true (Ok (h, more)) p
      (follows_try (merges places path g.chunk d) _ t u u (m, more) (Ok (h, more)) moved (follows_done (Ok (record { chunk = m; stay = g.stay; has_merged = true }, more)) (Ok (h, more)) u u refl (λ i. Ok (is i, more))))

  pub gathers_in_fail : (here : List Literal) (f : RuleFault) → here ≡ path → Follows (joins places.statement path g.chunk d) s t (Ok true) → Blames (merges places here g.chunk d) t u f → Blames (gathers_one places path g d) s u f
  unfolding gathers_one gathers_if
  gathers_in_fail here f same p q =
      let moved = subst (λ (x : List Literal). Blames (merges places x g.chunk d) t u f) same q in
      blames_later (joins places.statement path g.chunk d) (gathers_if places path g d) s t u true f p (blames_try (merges places path g.chunk d) _ t u f moved)

pub ruleset gathering_one = (gathers_fail, gathers_not, gathers_in, gathers_in_fail, blames_memory, grew_not, grew_on, grew_path, grew_node, grew_begun)

-- ---- a chunk that took in others
module _ (places : Places) (path : List Literal) (w : Wanted) (g : Gathered) (s t : Seen) where
  pub tried_not : g.has_merged ≡ false → Follows (tries_gathered places w (g, path)) s s (Ok (record { gathered = g; portion = None }, path))
  unfolding tries_gathered
  tried_not n = follows_unless g.has_merged _ _ s s (Ok (record { gathered = g; portion = None }, path)) (not_both g.has_merged n) (follows_done (Ok (record { gathered = g; portion = None }, path)) (Ok (record { gathered = g; portion = None }, path)) s s refl refl)

  pub tried_with : (here : List Literal) (p : Option Portion) → here ≡ path → g.has_merged ≡ true → Follows (tries places path w g.chunk) s t (Ok p) → Follows (tries_gathered places w (g, path)) s t (Ok (record { gathered = g; portion = p }, here))
  unfolding tries_gathered
  tried_with here p same e q =
      follows_if g.has_merged _ _ s t (Ok (record { gathered = g; portion = p }, here)) e
      (follows_try (tries places path w g.chunk) (λ x. done (Ok (record { gathered = g; portion = x }, path))) s t t p (Ok (record { gathered = g; portion = p }, here)) q (follows_done (Ok (record { gathered = g; portion = p }, path)) (Ok (record { gathered = g; portion = p }, here)) t t refl (λ i. Ok (record { gathered = g; portion = p }, same i))))

  -- what follows where it was tried
  abbrev behind : Option Portion → Course (Result (Attempt × List Literal) Refusal)
  behind x = done (Ok (record { gathered = g; portion = x }, path))

  tried_blamed : (f : RuleFault) → g.has_merged ≡ true → Blames (try (tries places path w g.chunk) behind) s t f → Blames (tries_gathered places w (g, path)) s t f
  unfolding Blames tries_gathered
  tried_blamed (Refused x) e q = follows_if g.has_merged _ _ s t (Err x) e q
  tried_blamed Memory e q = tt

  pub tried_fails : (f : RuleFault) → g.has_merged ≡ true → Blames (tries places path w g.chunk) s t f → Blames (tries_gathered places w (g, path)) s t f
  tried_fails f e q = tried_blamed f e (blames_try (tries places path w g.chunk) behind s t f q)

pub ruleset trying_gathered = (tried_not, tried_with, tried_fails, grew_not, grew_on, grew_path, grew_node, grew_begun)

-- ---- a chunk with younger ones
module _ (places : Places) (path : List Literal) (w : Wanted) (c : Chunk) (ds : List Chunk) (s t : Seen) where
  pub attempts_fail : (f : RuleFault) → Blames (starts places.statement path w c) s t f → Blames (attempts places path w c ds) s t f
  unfolding attempts
  attempts_fail f p = blames_try (starts places.statement path w c) (attempts_if places path w c ds) s t f p

  pub attempts_not : (here : List Literal) → here ≡ path → Follows (starts places.statement path w c) s t (Ok false) → Follows (attempts places path w c ds) s t (Ok (record { gathered = record { chunk = c; stay = ds; has_merged = false }; portion = None }, here))
  unfolding attempts attempts_if
  attempts_not here same p =
      follows_try (starts places.statement path w c) (attempts_if places path w c ds) s t t false (Ok (record { gathered = record { chunk = c; stay = ds; has_merged = false }; portion = None }, here)) p
      (follows_done (Ok (record { gathered = record { chunk = c; stay = ds; has_merged = false }; portion = None }, path)) (Ok (record { gathered = record { chunk = c; stay = ds; has_merged = false }; portion = None }, here)) t t refl (λ i. Ok (record { gathered = record { chunk = c; stay = ds; has_merged = false }; portion = None }, same i)))

module _ (places : Places) (path : List Literal) (w : Wanted) (c : Chunk) (ds : List Chunk) (s t u : Seen) where
  pub attempts_gather_fail : (here : List Literal) (f : RuleFault) → here ≡ path → Follows (starts places.statement path w c) s t (Ok true) → Blames (gathers places here (alone c) ds) t u f → Blames (attempts places path w c ds) s u f
  unfolding attempts attempts_if
  attempts_gather_fail here f same p q =
      let moved = subst (λ (x : List Literal). Blames (gathers places x (alone c) ds) t u f) same q in
      blames_later (starts places.statement path w c) (attempts_if places path w c ds) s t u true f p (blames_try (gathers places path (alone c) ds) (tries_gathered places w) t u f moved)

  pub attempts_try_fail : (v : Seen) (here more : List Literal) (g : Gathered) (f : RuleFault) → here ≡ path → Follows (starts places.statement path w c) s t (Ok true) → Follows (gathers places here (alone c) ds) t u (Ok (g, more)) → Blames (tries_gathered places w (g, more)) u v f → Blames (attempts places path w c ds) s v f
  unfolding attempts attempts_if
  attempts_try_fail v here more g f same p q r =
      let moved = subst (λ (x : List Literal). Follows (gathers places x (alone c) ds) t u (Ok (g, more))) same q in
      blames_later (starts places.statement path w c) (attempts_if places path w c ds) s t v true f p (blames_later (gathers places path (alone c) ds) (tries_gathered places w) t u v (g, more) f moved r)

  pub attempts_gives : (v : Seen) (here more : List Literal) (g : Gathered) (y : Result (Attempt × List Literal) Refusal) → here ≡ path → Follows (starts places.statement path w c) s t (Ok true) → Follows (gathers places here (alone c) ds) t u (Ok (g, more)) → Follows (tries_gathered places w (g, more)) u v y → Follows (attempts places path w c ds) s v y
  unfolding attempts attempts_if
  attempts_gives v here more g y same p q r =
      let moved = subst (λ (x : List Literal). Follows (gathers places x (alone c) ds) t u (Ok (g, more))) same q in
      follows_try (starts places.statement path w c) (attempts_if places path w c ds) s t v true y p (follows_try (gathers places path (alone c) ds) (tries_gathered places w) t u v (g, more) y moved r)

pub ruleset attempting = (attempts_fail, attempts_not, attempts_gather_fail, attempts_try_fail, attempts_gives, grew_not, grew_on, grew_path, grew_node, grew_begun)
