-- Ways put together, turned and carried over.
use Rattle.std.proofs.Common.{◌⊎◌, List, [], ◌∷◌, inl, inr}
use Rattle.vf_cycles.specs.Reaching.{Way, Reaches}

pub one_step : {A : Type 0} (R : A → A → Type 0) (a b : A) → R a b → Reaches R a b
one_step R a b h = record { through = []; way = h }

pub step_then : {A : Type 0} (R : A → A → Type 0) (a b c : A) → R a b → Reaches R b c → Reaches R a c
step_then R a b c h r = record { through = b ∷ r.through; way = (h, r.way) }

way_then : {A : Type 0} (R : A → A → Type 0) (a b c : A) (cs : List A) → Way R a cs b → Reaches R b c → Reaches R a c
way_then R a b c [] w r = step_then R a b c w r
way_then R a b c (d ∷ ds) w r = step_then R a d c w.0 (way_then R d b c ds w.1 r)

pub both_ways : {A : Type 0} (R : A → A → Type 0) (a b c : A) → Reaches R a b → Reaches R b c → Reaches R a c
both_ways R a b c p q = way_then R a b c p.through p.way q

pub then_step : {A : Type 0} (R : A → A → Type 0) (a b c : A) → Reaches R a b → R b c → Reaches R a c
then_step R a b c p h = both_ways R a b c p (one_step R b c h)

turned_way : {A : Type 0} (R S : A → A → Type 0) → ((x y : A) → R x y → S y x) → (a b : A) (cs : List A) → Way R a cs b → Reaches S b a
turned_way R S turn a b [] w = one_step S b a (turn a b w)
turned_way R S turn a b (c ∷ cs) w = then_step S b c a (turned_way R S turn c b cs w.1) (turn a c w.0)

-- against a relation the other way round
pub turned : {A : Type 0} (R S : A → A → Type 0) → ((x y : A) → R x y → S y x) → (a b : A) → Reaches R a b → Reaches S b a
turned R S turn a b r = turned_way R S turn a b r.through r.way

carried_way : {A B : Type 0} (R : A → A → Type 0) (S : B → B → Type 0) (f : A → B) → ((x y : A) → R x y → S (f x) (f y)) → (a b : A) (cs : List A) → Way R a cs b → Reaches S (f a) (f b)
carried_way R S f step a b [] w = one_step S (f a) (f b) (step a b w)
carried_way R S f step a b (c ∷ cs) w = step_then S (f a) (f c) (f b) (step a c w.0) (carried_way R S f step c b cs w.1)

-- along a function that keeps the relation
pub carried : {A B : Type 0} (R : A → A → Type 0) (S : B → B → Type 0) (f : A → B) → ((x y : A) → R x y → S (f x) (f y)) → (a b : A) → Reaches R a b → Reaches S (f a) (f b)
carried R S f step a b r = carried_way R S f step a b r.through r.way

last_of_way : {A : Type 0} (R : A → A → Type 0) (a b : A) (cs : List A) → Way R a cs b → R a b ⊎ ((c : A) × Reaches R a c × R c b)
last_of_way R a b [] w = inl w
last_of_way R a b (c ∷ cs) w = elim (last_of_way R c b cs w.1) [
  | inl h ↦ inr (c, one_step R a c w.0, h)
  | inr r ↦ inr (r.0, step_then R a c r.0 w.0 r.1, r.2)
]

-- the last step of a way
pub last_step : {A : Type 0} (R : A → A → Type 0) (a b : A) → Reaches R a b → R a b ⊎ ((c : A) × Reaches R a c × R c b)
last_step R a b r = last_of_way R a b r.through r.way
