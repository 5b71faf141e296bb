-- What right answers allow: from a run of a course, and by the parts of one.
use Rattle.std.proofs.Common.{◌≡◌, inl, inr, ℕ, ◌-◌, ◌≤◌, zero, suc, refl, subst, sym, List, [], ◌∷◌, ◌++◌, length, drop, arith, length-append, Bool, true, false, cond, Result, Ok, Err}
use Rattle.std.specs.Prelude.{All}
use Rattle.std.proofs.lemmas.Bool.{true≢false}
use Rattle.vf_base.specs.declared.place.Place.{Place}
use Rattle.vf_base.specs.declared.rule.Rule.{Rule}
use Rattle.vf_base.specs.declared.rule.Rule.TheVariants as rules
use Rattle.vf_base.specs.declared.refusal.Refusal.{Refusal}
use Rattle.vf_asking.specs.declared.answers.Answer.{Answer}
use Rattle.vf_asking.specs.declared.answers.Answer.TheVariants.{Proved, Unknown}
use Rattle.vf_closure.specs.Literals.{Literal}
use Rattle.vf_asking.specs.Journal.{Asked, Seen, noted, counted}
use Rattle.vf_asking.specs.Question.{has_too_many_terms}
use Rattle.vf_asking.specs.Course.{Course, done, ask, push, after, went, try, refusal, asked, pushed, Follows}
use Rattle.vf_meaning.specs.GhostValues.{Interpretation}
use Rattle.vf_closure.specs.Laws.{Entails}
use Rattle.vf_asking.specs.Right.{IsRight, AreRightFrom}
use Rattle.vf_asking.proofs.Determined.{only_append}
use Rattle.vf_exec.specs.Main.{required}
use Rattle.vf_sound.specs.Allowed.{Allows, definitions_of, RightAnswersAllow}

-- ---- a run
right_among : (entries : List Asked) (e : Asked) (more : List Asked) (origin : ℕ) → origin ≤ length entries → All IsRight (drop origin ((entries ++ e ∷ []) ++ more)) → IsRight e
right_among [] e more zero low h = h 0 e (omega arith)
right_among [] e more (suc n) low h = absurd (omega arith)
right_among (x ∷ xs) e more zero low h = right_among xs e more zero (omega arith) (λ k d within. h (suc k) d (omega arith))
right_among (x ∷ xs) e more (suc n) low h = right_among xs e more n (omega arith) h

-- the answer that a run began with is right where the run's answers are
right_first : {A : Type 0} (c : Course A) (s t : Seen) (path : List Literal) (goal : Literal) (answer : Answer) (y : A) (origin : ℕ) → origin ≤ length s.entries → Follows c (noted s path goal answer) t y → AreRightFrom origin t → IsRight (record { unit = length s.units - 1; definitions = definitions_of s; path = path; goal = goal; answer = answer })
right_first c s t path goal answer y origin low p r =
    let a = only_append c (noted s path goal answer) t y p in
    right_among s.entries _ a.new_entries origin low (subst (λ es. All IsRight (drop origin es)) a.entries r)

longer : (s : Seen) (path : List Literal) (goal : Literal) (answer : Answer) (origin : ℕ) → origin ≤ length s.entries → origin ≤ length (noted s path goal answer).entries
longer s path goal answer origin low = simp length-append (omega arith)

pub right_answers_allow : {A : Type 0} → RightAnswersAllow A
unfolding Follows Allows
right_answers_allow i (done x) origin s t y meets low p r = p.1
right_answers_allow i (ask path goal c d) origin s t y meets low (inl p) r =
    inl ((right_first c s t path goal Proved y origin low p r).proved refl i meets, right_answers_allow i c origin (noted s path goal Proved) t y meets (longer s path goal Proved origin low) p r)
right_answers_allow i (ask path goal c d) origin s t y meets low (inr p) r = inr (right_answers_allow i d origin (noted s path goal Unknown) t y meets (longer s path goal Unknown origin low) p r)
right_answers_allow i (push c d) origin s t y meets low (inl p) r = inl (right_answers_allow i c origin (counted s) t y meets low p.1 r)
right_answers_allow i (push c d) origin s t y meets low (inr p) r = inr (right_answers_allow i d origin s t y meets low p.1 r)

-- ---- the parts of a course
module _ (i : Interpretation) where
  -- a course came to a value, from which the next came to its end
  pub record Came {A B : Type 0} (c : Course A) (f : A → Course B) (y : B) : Type 0 where
    pub value : A
    pub first : Allows i c value
    pub later : Allows i (f value) y

  pub allows_after : {A B : Type 0} (c : Course A) (f : A → Course B) (y : B) → Allows i (after c f) y → Came c f y
  unfolding Allows after
  allows_after (done x) f y p = record { value = x; first = refl; later = p }
  allows_after (ask path goal c d) f y (inl p) = let r = allows_after c f y p.1 in record { value = r.value; first = inl (p.0, r.first); later = r.later }
  allows_after (ask path goal c d) f y (inr p) = let r = allows_after d f y p in record { value = r.value; first = inr r.first; later = r.later }
  allows_after (push c d) f y (inl p) = let r = allows_after c f y p in record { value = r.value; first = inl r.first; later = r.later }
  allows_after (push c d) f y (inr p) = let r = allows_after d f y p in record { value = r.value; first = inr r.first; later = r.later }

  -- the same of courses that may refuse, where the whole did not
  pub record Went {A B : Type 0} (c : Course (Result A Refusal)) (f : A → Course (Result B Refusal)) (y : B) : Type 0 where
    pub value : A
    pub first : Allows i c (Ok value)
    pub later : Allows i (f value) (Ok y)

  no_refusal : {A B : Type 0} {y : A} {x : B} → Ok y ≡ Err x → ⊥
  no_refusal e = cc

  went_on : {A B : Type 0} (c : Course (Result A Refusal)) (f : A → Course (Result B Refusal)) (y : B) (r : Result A Refusal) → Allows i c r → Allows i (went f r) (Ok y) → Went c f y
  unfolding Allows
  went_on c f y (Ok x) p q = record { value = x; first = p; later = q }
  went_on c f y (Err x) p q = absurd (no_refusal q)

  pub allows_try : {A B : Type 0} (c : Course (Result A Refusal)) (f : A → Course (Result B Refusal)) (y : B) → Allows i (try c f) (Ok y) → Went c f y
  unfolding try
  allows_try c f y p = let r = allows_after c (went f) (Ok y) p in went_on c f y r.value r.first r.later

  pub allows_done : {A : Type 0} (x y : A) → Allows i (done x) y → y ≡ x
  unfolding Allows
  allows_done x y p = p

  -- where a result was had at once, it is the one that follows
  pub had : {A B : Type 0} (r : Result A Refusal) (f : A → Course (Result B Refusal)) (y : B) → Allows i (try (done r) f) (Ok y) → (x : A) × (r ≡ Ok x) × Allows i (f x) (Ok y)
  had r f y p = let w = allows_try (done r) f y p in (w.value, sym (allows_done r (Ok w.value) w.first), w.later)

  -- ---- questions and facts
  unless_refused : {A : Type 0} (b : Bool) (x : Refusal) (c : Course (Result A Refusal)) (y : A) → Allows i (cond b (done (Err x)) c) (Ok y) → Allows i c (Ok y)
  unfolding Allows
  unless_refused true x c y p = absurd (no_refusal p)
  unless_refused false x c y p = p

  -- what a question and a goal that has to be proved come to
  abbrev is_proved : Bool → Result Bool Refusal
  is_proved b = Ok b

  abbrev passed : Result (Unit {0}) Refusal
  passed = Ok tt

  answered : (path : List Literal) (goal : Literal) → Allows i (ask path goal (done (is_proved true)) (done (is_proved false))) (is_proved true) → Entails i path goal
  unfolding Allows
  answered path goal (inl p) = p.0
  answered path goal (inr p) = let e : is_proved true ≡ is_proved false = p in let f : true ≡ false = cc in absurd (true≢false f)

  pub asked_entails : (place : Place) (path : List Literal) (goal : Literal) → Allows i (asked place path goal) (Ok true) → Entails i path goal
  unfolding asked
  asked_entails place path goal p = answered path goal (unless_refused (has_too_many_terms path goal) (refusal rules.Terms place) (ask path goal (done (Ok true)) (done (Ok false))) true p)

  proved : (rule : Rule) (place : Place) (path : List Literal) (goal : Literal) (b : Bool) → Allows i (asked place path goal) (Ok b) → Allows i (cond b (done passed) (done (Err (refusal rule place)))) passed → Entails i path goal
  proved rule place path goal true a q = asked_entails place path goal a
  proved rule place path goal false a q = absurd (no_refusal (allows_done (Err (refusal rule place)) (Ok tt) q))

  pub required_entails : (rule : Rule) (place : Place) (path : List Literal) (goal : Literal) → Allows i (required rule place path goal) (Ok tt) → Entails i path goal
  unfolding required
  required_entails rule place path goal p = let w = allows_try (asked place path goal) _ tt p in proved rule place path goal w.value w.first w.later

  pub pushed_path : (place : Place) (path : List Literal) (fact : Literal) (new : List Literal) → Allows i (pushed place path fact) (Ok new) → new ≡ path ++ fact ∷ []
  unfolding pushed Allows
  pushed_path place path fact new (inl p) = let e : Ok new ≡ Ok (path ++ fact ∷ []) = p in cc
  pushed_path place path fact new (inr p) = absurd (no_refusal p)
