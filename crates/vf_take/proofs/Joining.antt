-- Two chunks of one location.
use Rattle.std.proofs.Common.{◌≡◌, refl, sym, subst, ap, Result, Ok, Err, Bool, true, false, List, drop}
use Rattle.std.specs.Prelude.{Option, Some, None}
use Rattle.vf_base.specs.declared.place.Place.{Place}
use Rattle.vf_base.specs.declared.refusal.Refusal.{Refusal}
use Rattle.vf_base.specs.declared.refusal.RuleFault.{RuleFault}
use Rattle.vf_base.specs.declared.refusal.RuleFault.TheVariants.{Refused, Memory}
use Rattle.vf_closure.specs.Terms.{Term}
use Rattle.vf_closure.specs.Literals.{Literal}
use Rattle.vf_asking.specs.Journal.{Seen}
use Rattle.vf_asking.specs.Course.{Course, done, try, Follows, Blames}
use Rattle.vf_asking.proofs.Following.{follows_done, follows_try, follows_if, follows_unless, blames_try, blames_later, blames_memory}
use Rattle.vf_asking.proofs.Seeing.{grew_not, grew_on, grew_path, grew_node, grew_begun}
use Rattle.vf_equality.specs.Equality.{equal, learned}
use Rattle.vf_chunk.specs.declared.chunk.Argument.{Argument}
use Rattle.vf_chunk.specs.declared.chunk.Argument.TheVariants.{Known, Unknown}
use Rattle.vf_chunk.specs.declared.chunk.Chunk.{Chunk}
use Rattle.vf_chunk.specs.Heads.{is_of_rows}
use Rattle.vf_take.specs.declared.wanted.Places.{Places}
use Rattle.vf_take.specs.Results.{Faults}
use Rattle.vf_take.specs.Usable.{known_at}
use Rattle.vf_take.specs.Merges.{arguments_equal, may_join, rows_join, joins, learns_one, learns, merged_by, with_path, merges}
use Rattle.vf_take.proofs.Results.{done_gives, done_faults, not_both}

-- ---- two arguments
module _ (place : Place) (path : List Literal) (a b : Option Term) (s t : Seen) where
  pub both_known : (x y : Term) (r : Result Bool Refusal) → Some x ≡ a → Some y ≡ b → Follows (equal place path x y) s t r → Follows (arguments_equal place path a b) s t r
  unfolding arguments_equal
  both_known x y r e f p = subst (λ z. Follows (arguments_equal place path z b) s t r) e (subst (λ z. Follows (arguments_equal place path (Some x) z) s t r) f p)

  pub both_fail : (x y : Term) (f : RuleFault) → Some x ≡ a → Some y ≡ b → Blames (equal place path x y) s t f → Blames (arguments_equal place path a b) s t f
  unfolding arguments_equal
  both_fail x y f e g p = subst (λ z. Blames (arguments_equal place path z b) s t f) e (subst (λ z. Blames (arguments_equal place path (Some x) z) s t f) g p)

  pub first_lacks : None ≡ a → Follows (arguments_equal place path a b) s s (Ok false)
  unfolding arguments_equal
  first_lacks e = subst (λ z. Follows (arguments_equal place path z b) s s (Ok false)) e (follows_done (Ok false) (Ok false) s s refl refl)

  pub second_lacks : (x : Term) → Some x ≡ a → None ≡ b → Follows (arguments_equal place path a b) s s (Ok false)
  unfolding arguments_equal
  second_lacks x e f = subst (λ z. Follows (arguments_equal place path z b) s s (Ok false)) e (subst (λ z. Follows (arguments_equal place path (Some x) z) s s (Ok false)) f (follows_done (Ok false) (Ok false) s s refl refl))

pub ruleset comparing = (both_known, both_fail, first_lacks, second_lacks, grew_not)

-- ---- two chunks
module _ (place : Place) (path : List Literal) (c d : Chunk) where
  abbrev firsts : List Literal → Course (Result Bool Refusal)
  firsts here = arguments_equal place here (known_at d.arguments 0) (known_at c.arguments 0)

  abbrev seconds : List Literal → Course (Result Bool Refusal)
  seconds here = arguments_equal place here (known_at d.arguments 1) (known_at c.arguments 1)

  pub joins_not : (s : Seen) → may_join c d ≡ false → Follows (joins place path c d) s s (Ok false)
  unfolding joins
  joins_not s n = follows_unless (may_join c d) _ _ s s (Ok false) (not_both (may_join c d) n) (follows_done (Ok false) (Ok false) s s refl refl)

  joins_by : (s t : Seen) (y : Result Bool Refusal) → may_join c d ≡ true → Follows (try (firsts path) (rows_join place path c d)) s t y → Follows (joins place path c d) s t y
  unfolding joins
  joins_by s t y e p = follows_if (may_join c d) _ _ s t y e p

  joins_blamed : (s t : Seen) (f : RuleFault) → may_join c d ≡ true → Blames (try (firsts path) (rows_join place path c d)) s t f → Blames (joins place path c d) s t f
  unfolding Blames
  joins_blamed s t (Refused e) m p = joins_by s t (Err e) m p
  joins_blamed s t Memory m p = tt

  pub joins_fail : (s t : Seen) (f : RuleFault) → may_join c d ≡ true → Blames (arguments_equal place path (known_at d.arguments 0) (known_at c.arguments 0)) s t f → Blames (joins place path c d) s t f
  joins_fail s t f m p = joins_blamed s t f m (blames_try (firsts path) (rows_join place path c d) s t f p)

  pub joins_apart : (s t : Seen) → may_join c d ≡ true → Follows (arguments_equal place path (known_at d.arguments 0) (known_at c.arguments 0)) s t (Ok false) → Follows (joins place path c d) s t (Ok false)
  unfolding rows_join
  joins_apart s t m p = joins_by s t (Ok false) m (follows_try (firsts path) (rows_join place path c d) s t t false (Ok false) p (follows_done (Ok false) (Ok false) t t refl refl))

  pub joins_other : (s t : Seen) → may_join c d ≡ true → Follows (arguments_equal place path (known_at d.arguments 0) (known_at c.arguments 0)) s t (Ok true) → is_of_rows c.head.name ≡ false → Follows (joins place path c d) s t (Ok true)
  unfolding rows_join
  joins_other s t m p n = joins_by s t (Ok true) m (follows_try (firsts path) (rows_join place path c d) s t t true (Ok true) p (follows_unless (is_of_rows c.head.name) _ _ t t (Ok true) (not_both (is_of_rows c.head.name) n) (follows_done (Ok true) (Ok true) t t refl refl)))

  pub joins_rows : (s t u : Seen) (here : List Literal) (y : Result Bool Refusal) → here ≡ path → may_join c d ≡ true → Follows (arguments_equal place path (known_at d.arguments 0) (known_at c.arguments 0)) s t (Ok true) → is_of_rows c.head.name ≡ true → Follows (arguments_equal place here (known_at d.arguments 1) (known_at c.arguments 1)) t u y → Follows (joins place path c d) s u y
  unfolding rows_join
  joins_rows s t u here y same m p e q =
      let moved = subst (λ (x : List Literal). Follows (seconds x) t u y) same q in
      joins_by s u y m (follows_try (firsts path) (rows_join place path c d) s t u true y p (follows_if (is_of_rows c.head.name) _ _ t u y e moved))

  rows_blamed : (t u : Seen) (f : RuleFault) → is_of_rows c.head.name ≡ true → Blames (seconds path) t u f → Blames (rows_join place path c d true) t u f
  unfolding Blames rows_join
  rows_blamed t u (Refused x) e q = follows_if (is_of_rows c.head.name) _ _ t u (Err x) e q
  rows_blamed t u Memory e q = tt

  pub joins_rows_fail : (s t u : Seen) (here : List Literal) (f : RuleFault) → here ≡ path → may_join c d ≡ true → Follows (arguments_equal place path (known_at d.arguments 0) (known_at c.arguments 0)) s t (Ok true) → is_of_rows c.head.name ≡ true → Blames (arguments_equal place here (known_at d.arguments 1) (known_at c.arguments 1)) t u f → Blames (joins place path c d) s u f
  joins_rows_fail s t u here f same m p e q =
      let moved = subst (λ (x : List Literal). Blames (seconds x) t u f) same q in
      joins_blamed s u f m (blames_later (firsts path) (rows_join place path c d) s t u true f p (rows_blamed t u f e moved))

pub ruleset joining = (joins_not, joins_fail, joins_apart, joins_other, joins_rows, joins_rows_fail, blames_memory, grew_not, grew_on, grew_path, grew_node, grew_begun)

-- ---- what a merge tells
module _ (place : Place) (path : List Literal) (a b : Argument) (s t : Seen) where
  pub learns_known : (x y : Term) (r : Result (List Literal) Refusal) → a ≡ Known x → b ≡ Known y → Follows (learned place path x y) s t r → Follows (learns_one place path a b) s t r
  unfolding learns_one
  learns_known x y r e f p = subst (λ z. Follows (learns_one place path z b) s t r) (sym e) (subst (λ z. Follows (learns_one place path (Known x) z) s t r) (sym f) p)

  pub learns_fail : (x y : Term) (f : RuleFault) → a ≡ Known x → b ≡ Known y → Blames (learned place path x y) s t f → Blames (learns_one place path a b) s t f
  unfolding learns_one
  learns_fail x y f e g p = subst (λ z. Blames (learns_one place path z b) s t f) (sym e) (subst (λ z. Blames (learns_one place path (Known x) z) s t f) (sym g) p)

  pub learns_not_first : a ≡ Unknown → Follows (learns_one place path a b) s s (Ok path)
  unfolding learns_one
  learns_not_first e = subst (λ z. Follows (learns_one place path z b) s s (Ok path)) (sym e) (follows_done (Ok path) (Ok path) s s refl refl)

  pub learns_not_second : (x : Term) → a ≡ Known x → b ≡ Unknown → Follows (learns_one place path a b) s s (Ok path)
  unfolding learns_one
  learns_not_second x e f = subst (λ z. Follows (learns_one place path z b) s s (Ok path)) (sym e) (subst (λ z. Follows (learns_one place path (Known x) z) s s (Ok path)) (sym f) (follows_done (Ok path) (Ok path) s s refl refl))

pub ruleset learning_one = (learns_known, learns_fail, learns_not_first, learns_not_second, grew_not)

-- ---- a merge
module _ (places : Places) (path : List Literal) (c d : Chunk) (s t : Seen) where
  abbrev told : Course (Result (List Literal) Refusal)
  told = learns places.name path (drop 1 c.arguments) (drop 1 d.arguments)

  pub merges_gives : (more : List Literal) (m : Chunk) → Follows (learns places.name path (drop 1 c.arguments) (drop 1 d.arguments)) s t (Ok more) → merged_by places.statement c d ≡ Ok m → Follows (merges places path c d) s t (Ok (m, more))
  unfolding merges
  merges_gives more m p e = follows_try told (λ x. done (with_path x (merged_by places.statement c d))) s t t more (Ok (m, more)) p (done_gives (with_path more (merged_by places.statement c d)) (m, more) t (ap (with_path more) e))

  pub merges_faults : (more : List Literal) (f : RuleFault) → Follows (learns places.name path (drop 1 c.arguments) (drop 1 d.arguments)) s t (Ok more) → Faults (merged_by places.statement c d) f → Blames (merges places path c d) s t f
  unfolding merges
  merges_faults more f p h = blames_later told (λ x. done (with_path x (merged_by places.statement c d))) s t t more f p (done_faults (with_path more (merged_by places.statement c d)) f t (with_faults f h))
    where
      with_faults : (f : RuleFault) → Faults (merged_by places.statement c d) f → Faults (with_path more (merged_by places.statement c d)) f
      with_faults (Refused e) h = ap (with_path more) h
      with_faults Memory h = tt

  pub merges_fails : (f : RuleFault) → Blames (learns places.name path (drop 1 c.arguments) (drop 1 d.arguments)) s t f → Blames (merges places path c d) s t f
  unfolding merges
  merges_fails f p = blames_try told (λ x. done (with_path x (merged_by places.statement c d))) s t f p

pub ruleset merging = (merges_gives, merges_faults, merges_fails)
