-- Trying a chunk.
use Rattle.std.proofs.Common.{◌≡◌, ℕ, refl, subst, Result, Ok, Err, true, false, length, List}
use Rattle.std.specs.Prelude.{Option, None, nat_eq}
use Rattle.std.proofs.lemmas.Bool.Decides.{nat_tests}
use Rattle.std.proofs.Common.{arith}
use Rattle.vf_base.specs.declared.refusal.Refusal.{Refusal}
use Rattle.vf_base.specs.declared.refusal.RuleFault.{RuleFault}
use Rattle.vf_base.specs.declared.refusal.RuleFault.TheVariants.{Refused, Memory}
use Rattle.vf_closure.specs.Literals.{Literal}
use Rattle.vf_asking.specs.Journal.{Seen}
use Rattle.vf_asking.specs.Course.{try, Follows, Blames}
use Rattle.vf_asking.proofs.Following.{follows_done, follows_try, follows_if, follows_unless, blames_try, blames_later}
use Rattle.vf_asking.proofs.Seeing.{grew_not, grew_on, grew_path, grew_node, grew_begun}
use Rattle.vf_equality.specs.Equality.{all_equal}
use Rattle.vf_chunk.specs.declared.chunk.Chunk.{Chunk}
use Rattle.vf_take.specs.declared.wanted.Places.{Places}
use Rattle.vf_take.specs.declared.wanted.Wanted.{Wanted}
use Rattle.vf_take.specs.declared.wanted.Match.{Match}
use Rattle.vf_take.specs.declared.wanted.Portion.{Portion}
use Rattle.vf_take.specs.Results.{Faults}
use Rattle.vf_take.specs.Fits.{all_match, shared, suits, tries}
use Rattle.vf_take.proofs.Results.{done_gives, done_faults}

even_counts : (n m : ℕ) → n ≡ m → nat_eq n m ≡ true
even_counts n m e = grind (arith, nat_tests)

uneven_counts : (n m : ℕ) → (n ≡ m → ⊥) → nat_eq n m ≡ true → ⊥
uneven_counts n m h e = h (grind (arith, nat_tests))

module _ (places : Places) (path : List Literal) (w : Wanted) (c : Chunk) (s t : Seen) where
  -- the arguments, and then the share
  pub suits_gives : (m : Match) (p : Option Portion) → Follows (all_match places.statement path false c.arguments w.patterns) s t (Ok m) → shared places m w.share c.share ≡ Ok p → Follows (suits places path w c true) s t (Ok p)
  unfolding suits
  suits_gives m p f e = follows_try (all_match places.statement path false c.arguments w.patterns) _ s t t m (Ok p) f (done_gives (shared places m w.share c.share) p t e)

  pub suits_faults : (m : Match) (f : RuleFault) → Follows (all_match places.statement path false c.arguments w.patterns) s t (Ok m) → Faults (shared places m w.share c.share) f → Blames (suits places path w c true) s t f
  unfolding suits
  suits_faults m f g h = blames_later (all_match places.statement path false c.arguments w.patterns) _ s t t m f g (done_faults (shared places m w.share c.share) f t h)

  pub suits_fails : (f : RuleFault) → Blames (all_match places.statement path false c.arguments w.patterns) s t f → Blames (suits places path w c true) s t f
  unfolding suits
  suits_fails f h = blames_try (all_match places.statement path false c.arguments w.patterns) _ s t f h

  -- the head terms, and then the arguments
  pub tries_uneven : (length c.arguments ≡ length w.patterns → ⊥) → Follows (tries places path w c) s s (Ok None)
  unfolding tries
  tries_uneven n = follows_unless (nat_eq (length c.arguments) (length w.patterns)) _ _ s s (Ok None) (uneven_counts (length c.arguments) (length w.patterns) n) (follows_done (Ok None) (Ok None) s s refl refl)

  pub tries_apart : length c.arguments ≡ length w.patterns → Follows (all_equal places.statement path c.head.terms w.head.terms) s t (Ok false) → Follows (tries places path w c) s t (Ok None)
  unfolding tries suits
  tries_apart e f = follows_if (nat_eq (length c.arguments) (length w.patterns)) _ _ s t (Ok None) (even_counts (length c.arguments) (length w.patterns) e) (follows_try (all_equal places.statement path c.head.terms w.head.terms) (suits places path w c) s t t false (Ok None) f (follows_done (Ok None) (Ok None) t t refl refl))

  tries_by : (y : Result (Option Portion) Refusal) → length c.arguments ≡ length w.patterns → Follows (try (all_equal places.statement path c.head.terms w.head.terms) (suits places path w c)) s t y → Follows (tries places path w c) s t y
  unfolding tries
  tries_by y e f = follows_if (nat_eq (length c.arguments) (length w.patterns)) _ _ s t y (even_counts (length c.arguments) (length w.patterns) e) f

  tries_blamed : (f : RuleFault) → length c.arguments ≡ length w.patterns → Blames (try (all_equal places.statement path c.head.terms w.head.terms) (suits places path w c)) s t f → Blames (tries places path w c) s t f
  unfolding Blames
  tries_blamed (Refused e) g h = tries_by (Err e) g h
  tries_blamed Memory g h = tt

  pub tries_fails : (f : RuleFault) → length c.arguments ≡ length w.patterns → Blames (all_equal places.statement path c.head.terms w.head.terms) s t f → Blames (tries places path w c) s t f
  tries_fails f e h = tries_blamed f e (blames_try (all_equal places.statement path c.head.terms w.head.terms) (suits places path w c) s t f h)

module _ (places : Places) (path : List Literal) (w : Wanted) (c : Chunk) (s t u : Seen) where
  pub tries_suits : (here : List Literal) (y : Result (Option Portion) Refusal) → here ≡ path → length c.arguments ≡ length w.patterns → Follows (all_equal places.statement path c.head.terms w.head.terms) s t (Ok true) → Follows (suits places here w c true) t u y → Follows (tries places path w c) s u y
  tries_suits here y same e f g =
      tries_by places path w c s u y e (follows_try (all_equal places.statement path c.head.terms w.head.terms) (suits places path w c) s t u true y f (subst (λ (x : List Literal). Follows (suits places x w c true) t u y) same g))

  pub tries_suit_fails : (here : List Literal) (f : RuleFault) → here ≡ path → length c.arguments ≡ length w.patterns → Follows (all_equal places.statement path c.head.terms w.head.terms) s t (Ok true) → Blames (suits places here w c true) t u f → Blames (tries places path w c) s u f
  tries_suit_fails here f same e g h =
      tries_blamed places path w c s u f e (blames_later (all_equal places.statement path c.head.terms w.head.terms) (suits places path w c) s t u true f g (subst (λ (x : List Literal). Blames (suits places x w c true) t u f) same h))

pub ruleset suiting = (suits_gives, suits_faults, suits_fails)

pub ruleset trying = (tries_uneven, tries_apart, tries_fails, tries_suits, tries_suit_fails, grew_not, grew_on, grew_path, grew_node, grew_begun)
