-- What holds of all that something may come to.
use Rattle.std.proofs.Common.{◌≡◌, refl, subst, Option, Some, None, Result, Ok, Err}
use Rattle.vf_base.specs.declared.refusal.Refusal.{Refusal}
use Rattle.vf_datatypes.specs.Walking.{behind, unless}
use Rattle.vf_walk.specs.Walking.{Only, Then}
use Rattle.vf_walk.specs.Walking as walking

-- a fact holds of what a result has, if it has any
abbrev pub Comes : {A : Type 0} → (A → Type 0) → Result A Refusal → Type 0
Comes {A = A} P r = (a : A) → r ≡ Ok a → P a

-- a fact holds of all that a walk leaves
abbrev pub Leads : {A : Type 0} → (A → Type 0) → (Result A Refusal → Type 0) → Type 0
Leads {A = A} P W = (a : A) → W (Ok a) → P a

ok_same : {A : Type 0} {a b : A} → ◌≡◌ {A = Result A Refusal} (Ok a) (Ok b) → a ≡ b
ok_same h = cc

pub apart : {A : Type 0} {x : Refusal} {a : A} → ◌≡◌ {A = Result A Refusal} (Err x) (Ok a) → ⊥
apart h = cc

pub none_some : {A : Type 0} {a : A} → ◌≡◌ {A = Option A} None (Some a) → ⊥
none_some h = cc

pub ok_comes : {A : Type 0} (P : A → Type 0) {a : A} → P a → Comes P (Ok a)
ok_comes P p b e = subst P (ok_same e) p

pub unless_comes : {A : Type 0} (P : A → Type 0) (o : Option Refusal) (r : Result A Refusal) → Comes P r → Comes P (unless o r)
unless_comes P None r h b e = h b e
unless_comes P (Some x) r h b e = absurd (apart e)

pub behind_comes : {A B : Type 0} (P : A → Type 0) (Q : B → Type 0) (f : A → Result B Refusal) (r : Result A Refusal) → Comes P r → ((a : A) → P a → Comes Q (f a)) → Comes Q (behind f r)
behind_comes P Q f (Ok a) h k b e = k a (h a refl) b e
behind_comes P Q f (Err x) h k b e = absurd (apart e)

pub only_leads : {A : Type 0} (P : A → Type 0) (r : Result A Refusal) → Comes P r → Leads P (Only r)
only_leads P r h a o = h a o.is

then_leads_to : {A B : Type 0} (P : A → Type 0) (Q : B → Type 0) {V : Result A Refusal → Type 0} {W : A → Result B Refusal → Type 0} → Leads P V → ((a : A) → P a → Leads Q (W a)) → (w : Result B Refusal) → Then V W w → (b : B) → w ≡ Ok b → Q b
then_leads_to P Q h k w (walking.stops v) b e = absurd (apart e)
then_leads_to P Q {W = W} h k w (walking.goes {a = a} v u) b e = k a (h a v) b (subst (W a) e u)

pub then_leads : {A B : Type 0} (P : A → Type 0) (Q : B → Type 0) {V : Result A Refusal → Type 0} {W : A → Result B Refusal → Type 0} → Leads P V → ((a : A) → P a → Leads Q (W a)) → Leads Q (Then V W)
then_leads P Q h k b t = then_leads_to P Q h k (Ok b) t b refl
