-- Following courses: what the calls of an asker and of rules come to.
use Rattle.std.proofs.Common.{◌≡◌, inl, inr, ◌+◌, ◌<◌, ◌≤◌, refl, subst, sym, ap, Result, Ok, Err, Bool, true, false, cond, length}
use Rattle.std.specs.Prelude.{IsTrue}
use Rattle.vf_base.specs.declared.place.Place.{Place}
use Rattle.vf_base.specs.declared.rule.Rule.TheVariants.{Paths, Terms}
use Rattle.vf_base.specs.declared.refusal.Refusal.{Refusal}
use Rattle.vf_base.specs.declared.refusal.RuleFault.{RuleFault}
use Rattle.vf_base.specs.declared.refusal.RuleFault.TheVariants.{Refused, Memory}
use Rattle.vf_trail.specs.declared.node.Node.{Node}
use Rattle.vf_trail.specs.declared.trail.TheConstants.{MOST_FACTS}
use Rattle.vf_asking.specs.declared.answers.Answer.TheVariants.{Proved, Unknown}
use Rattle.vf_formula.specs.Literals.{shown_literal}
use Rattle.vf_formula.specs.declared.literal.Literal.{Literal}
use Rattle.vf_asking.specs.declared.journal.Journal.{Journal}
use Rattle.vf_asking.specs.Question.{has_too_many_terms}
use Rattle.vf_asking.specs.Journal.{Seen, seen, noted, counted, path_at, HasAsked, HasPushed, IsAsBefore}
use Rattle.vf_asking.specs.Course.{Course, done, ask, push, after, went, try, refusal, asked, pushed, Follows, Blames, Reaches}
use Rattle.vf_asking.proofs.Seeing.{seen_asked, seen_pushed, seen_before, pushed_path, pushed_node, grew_asked, grew_pushed, grew_before}

pub follows_done : {A : Type 0} (x y : A) (s t : Seen) → t ≡ s → y ≡ x → Follows (done x) s t y
unfolding Follows
follows_done x y s t e d = (e, d)

pub follows_after : {A B : Type 0} (c : Course A) (f : A → Course B) (s t u : Seen) (x : A) (y : B) → Follows c s t x → Follows (f x) t u y → Follows (after c f) s u y
unfolding Follows after
follows_after (done z) f s t u x y p q = subst (λ w. Follows (f w) s u y) p.1 (subst (λ w. Follows (f x) w u y) p.0 q)
follows_after (ask path goal c d) f s t u x y p q =
    elim p [ inl h ↦ inl (follows_after c f (noted s path goal Proved) t u x y h q) | inr h ↦ inr (follows_after d f (noted s path goal Unknown) t u x y h q) ]
follows_after (push c d) f s t u x y p q =
    elim p [ inl h ↦ inl (h.0, follows_after c f (counted s) t u x y h.1 q) | inr h ↦ inr (h.0, follows_after d f s t u x y h.1 q) ]

pub follows_try : {A B : Type 0} (c : Course (Result A Refusal)) (f : A → Course (Result B Refusal)) (s t u : Seen) (x : A) (y : Result B Refusal) → Follows c s t (Ok x) → Follows (f x) t u y → Follows (try c f) s u y
unfolding try
follows_try c f s t u x y p q = follows_after c (went f) s t u (Ok x) y p q

pub follows_fails : {A B : Type 0} (c : Course (Result A Refusal)) (f : A → Course (Result B Refusal)) (s t : Seen) (e : Refusal) → Follows c s t (Err e) → Follows (try c f) s t (Err e)
unfolding try
follows_fails c f s t e p = follows_after c (went f) s t t (Err e) (Err e) p (follows_done (Err e) (Err e) t t refl refl)

pub follows_if : {A : Type 0} (b : Bool) (c d : Course A) (s t : Seen) (y : A) → b ≡ true → Follows c s t y → Follows (cond b c d) s t y
follows_if b c d s t y e p = subst (λ w. Follows (cond w c d) s t y) (sym e) p

pub follows_unless : {A : Type 0} (b : Bool) (c d : Course A) (s t : Seen) (y : A) → (b ≡ true → ⊥) → Follows d s t y → Follows (cond b c d) s t y
follows_unless true c d s t y e p = absurd (e refl)
follows_unless false c d s t y e p = p

-- questions
module _ (place : Place) (at : Node) (goal : Literal) (j k : Journal) where
  pub follows_proved : (IsTrue (has_too_many_terms (path_at j at) (shown_literal goal)) → ⊥) → HasAsked at goal Proved j k → Follows (asked place (path_at j at) (shown_literal goal)) (seen j) (seen k) (Ok true)
  unfolding asked Follows
  follows_proved few a = follows_unless (has_too_many_terms (path_at j at) (shown_literal goal)) _ _ (seen j) (seen k) (Ok true) few (inl (seen_asked at goal Proved j k a, refl))

  pub follows_unknown : (IsTrue (has_too_many_terms (path_at j at) (shown_literal goal)) → ⊥) → HasAsked at goal Unknown j k → Follows (asked place (path_at j at) (shown_literal goal)) (seen j) (seen k) (Ok false)
  unfolding asked Follows
  follows_unknown few a = follows_unless (has_too_many_terms (path_at j at) (shown_literal goal)) _ _ (seen j) (seen k) (Ok false) few (inr (seen_asked at goal Unknown j k a, refl))

  pub follows_terms : IsTrue (has_too_many_terms (path_at j at) (shown_literal goal)) → IsAsBefore j k → Follows (asked place (path_at j at) (shown_literal goal)) (seen j) (seen k) (Err (refusal Terms place))
  unfolding asked Follows
  follows_terms many b = follows_if (has_too_many_terms (path_at j at) (shown_literal goal)) _ _ (seen j) (seen k) (Err (refusal Terms place)) many (seen_before j k b, refl)

-- facts
module _ (place : Place) (at : Node) (fact : Literal) (j k : Journal) where
  pub follows_pushed : (node : Node) → length j.trail.facts < MOST_FACTS → node.number ≡ length j.trail.facts + 1 → HasPushed at fact j k → Follows (pushed place (path_at j at) (shown_literal fact)) (seen j) (seen k) (Ok (path_at k node))
  unfolding pushed Follows seen
  follows_pushed node room e p = inl (room, (seen_pushed at fact j k p, ap Ok (pushed_path at node fact j k p e)))

  pub follows_full : MOST_FACTS ≤ length j.trail.facts → IsAsBefore j k → Follows (pushed place (path_at j at) (shown_literal fact)) (seen j) (seen k) (Err (refusal Paths place))
  unfolding pushed Follows seen
  follows_full full b = inr (full, (seen_before j k b, refl))

-- loops
pub reaches_here : {A : Type 0} (c d : Course A) (s : Seen) → c ≡ d → Reaches c s d s
reaches_here c d s e = record { by = λ u y p. subst (λ w. Follows w s u y) (sym e) p }

pub reaches_step : {A : Type 0} (c d e : Course A) (s t u : Seen) → Reaches c s d t → Reaches d t e u → Reaches c s e u
reaches_step c d e s t u p q = record { by = λ v y r. p.by v y (q.by v y r) }

pub reaches_after : {A B : Type 0} (c : Course A) (f : A → Course B) (s t : Seen) (x : A) → Follows c s t x → Reaches (after c f) s (f x) t
reaches_after c f s t x p = record { by = λ u y q. follows_after c f s t u x y p q }

pub reaches_try : {A B : Type 0} (c : Course (Result A Refusal)) (f : A → Course (Result B Refusal)) (s t : Seen) (x : A) → Follows c s t (Ok x) → Reaches (try c f) s (f x) t
reaches_try c f s t x p = record { by = λ u y q. follows_try c f s t u x y p q }

pub reaches_end : {A : Type 0} (c d : Course A) (s t u : Seen) (y : A) → Reaches c s d t → Follows d t u y → Follows c s u y
reaches_end c d s t u y r p = r.by u y p

-- faults that a call hands on
pub blames_refused : {A : Type 0} (c : Course (Result A Refusal)) (s t : Seen) (e : Refusal) → Follows c s t (Err e) → Blames c s t (Refused e)
unfolding Blames
blames_refused c s t e p = p

pub blames_memory : {A : Type 0} (c : Course (Result A Refusal)) (s t : Seen) (f : RuleFault) → f ≡ Memory → Blames c s t f
unfolding Blames
blames_memory c s t f e = subst (λ g. Blames c s t g) (sym e) tt

pub blames_try : {A B : Type 0} (c : Course (Result A Refusal)) (f : A → Course (Result B Refusal)) (s t : Seen) (e : RuleFault) → Blames c s t e → Blames (try c f) s t e
unfolding Blames
blames_try c f s t (Refused e) p = follows_fails c f s t e p
blames_try c f s t Memory p = tt

pub blames_later : {A B : Type 0} (c : Course (Result A Refusal)) (f : A → Course (Result B Refusal)) (s t u : Seen) (x : A) (e : RuleFault) → Follows c s t (Ok x) → Blames (f x) t u e → Blames (try c f) s u e
unfolding Blames
blames_later c f s t u x (Refused e) p q = follows_try c f s t u x (Err e) p q
blames_later c f s t u x Memory p q = tt

pub blames_after : {A B : Type 0} (c : Course A) (f : A → Course (Result B Refusal)) (s t u : Seen) (x : A) (e : RuleFault) → Follows c s t x → Blames (f x) t u e → Blames (after c f) s u e
unfolding Blames
blames_after c f s t u x (Refused e) p q = follows_after c f s t u x (Err e) p q
blames_after c f s t u x Memory p q = tt

pub reaches_blames : {A : Type 0} (c d : Course (Result A Refusal)) (s t u : Seen) (e : RuleFault) → Reaches c s d t → Blames d t u e → Blames c s u e
unfolding Blames
reaches_blames c d s t u (Refused e) r p = r.by u (Err e) p
reaches_blames c d s t u Memory r p = tt

pub ruleset follows = (follows_done, follows_after, follows_try, blames_refused, blames_memory, blames_try, blames_later, blames_after)

-- what an asker's answers come to
pub ruleset asking = (follows_proved, follows_unknown, follows_terms, blames_refused, blames_memory, grew_asked, grew_before)

-- what an asker's pushes come to
pub ruleset noting = (follows_pushed, follows_full, blames_refused, blames_memory, grew_pushed, grew_before, pushed_node)
