-- Rules as courses of questions: what is asked, and what comes of each answer.
use Rattle.std.specs.Prelude.{◌≡◌, ◌⊎◌, ◌<◌, ◌≤◌, Bool, true, false, if◌then◌else◌, List, [], ◌∷◌, ◌++◌, Result, Ok, Err, MatchResult}
use Rattle.vf_base.specs.declared.place.Place.{Place}
use Rattle.vf_base.specs.declared.rule.Rule.{Rule}
use Rattle.vf_base.specs.declared.rule.Rule.TheVariants.{Paths, Terms}
use Rattle.vf_base.specs.declared.refusal.Refusal.{Refusal}
use Rattle.vf_base.specs.declared.refusal.Shown.TheVariants.{Nothing}
use Rattle.vf_base.specs.declared.refusal.RuleFault.{RuleFault}
use Rattle.vf_base.specs.declared.refusal.RuleFault.TheVariants.{Refused, Memory}
use Rattle.vf_trail.specs.declared.trail.TheConstants.{MOST_FACTS}
use Rattle.vf_asking.specs.declared.answers.Answer.TheVariants.{Proved, Unknown}
use Rattle.vf_closure.specs.Literals.{Literal}
use Rattle.vf_asking.specs.Journal.{Seen, noted, counted}
use Rattle.vf_asking.specs.Question.{has_too_many_terms}

-- A course comes to a result (done), asks a goal under the facts of a path and has a course for each answer, first where it is proved (ask), or adds a fact and has a course for the case that the trail takes it and one for the case that it is full (push)
pub data Course (A : Type 0) : Type 0 where
  done : A → Course A
  ask : List Literal → Literal → Course A → Course A → Course A
  push : Course A → Course A → Course A

-- a course, and then another that its result decides
unfoldable pub after : {A B : Type 0} → Course A → (A → Course B) → Course B
after (done x) f = f x
after (ask path goal proved unknown) f = ask path goal (after proved f) (after unknown f)
after (push taken full) f = push (after taken f) (after full f)

-- what follows a result that may be a refusal
abbrev pub went : {A B : Type 0} → (A → Course (Result B Refusal)) → Result A Refusal → Course (Result B Refusal)
went f (Ok x) = f x
went f (Err e) = done (Err e)

-- a course that may refuse, and then another where it does not
unfoldable pub try : {A B : Type 0} → Course (Result A Refusal) → (A → Course (Result B Refusal)) → Course (Result B Refusal)
try c f = after c (went f)

-- a refusal that shows nothing
abbrev pub refusal : Rule → Place → Refusal
refusal rule place = record { rule = rule; place = place; shown = Nothing }

-- whether the goal is proved; a question that has too many terms is refused at the place
unfoldable pub asked : Place → List Literal → Literal → Course (Result Bool Refusal)
asked place path goal = if has_too_many_terms path goal then done (Err (refusal Terms place)) else ask path goal (done (Ok true)) (done (Ok false))

-- the path with one more fact; where the trail is full it is refused at the place
unfoldable pub pushed : Place → List Literal → Literal → Course (Result (List Literal) Refusal)
pushed place path fact = push (done (Ok (path ++ fact ∷ []))) (done (Err (refusal Paths place)))

-- from what was seen before to what is seen after, whose entries have the answers, the course comes to a result
unfoldable pub Follows : {A : Type 0} → Course A → Seen → Seen → A → Type 0
Follows (done x) s t y = (t ≡ s) × (y ≡ x)
Follows (ask path goal proved unknown) s t y = Follows proved (noted s path goal Proved) t y ⊎ Follows unknown (noted s path goal Unknown) t y
Follows (push taken full) s t y = ((s.facts < MOST_FACTS) × Follows taken (counted s) t y) ⊎ ((MOST_FACTS ≤ s.facts) × Follows full s t y)

-- a fault of a call is the refusal that its course comes to, or want of memory
unfoldable pub Blames : {A : Type 0} → Course (Result A Refusal) → Seen → Seen → RuleFault → Type 0
Blames c s t (Refused e) = Follows c s t (Err e)
Blames c s t Memory = Unit {0}

-- a call comes to what its course comes to, but for want of memory
abbrev pub Says : {X A : Type 0} → Course (Result A Refusal) → (X → A) → Seen → Seen → Result X RuleFault → Type 0
Says c w s t r = MatchResult r (λ x. Follows c s t (Ok (w x))) (λ e. Blames c s t e)

-- what is left of a course when a part of it is done, as in a loop
pub record Reaches {A : Type 0} (c : Course A) (s : Seen) (d : Course A) (t : Seen) : Type 0 where
  pub by : (u : Seen) (y : A) → Follows d t u y → Follows c s u y
