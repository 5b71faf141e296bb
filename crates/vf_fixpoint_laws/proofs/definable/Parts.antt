-- Parts of the text that leave what is declared at file level as it is, or add to it.
use Rattle.std.proofs.Common.{◌≡◌, refl, ap, Bool, true, false, if◌then◌else◌, Option, Some, None, Result, Ok, Err, ℕ}
use Rattle.vf_base.specs.declared.refusal.Refusal.{Refusal}
use Rattle.vf_declared.specs.declared.scope.Scope.{Scope}
use Rattle.vf_declared.specs.Beginning.{no_locals}
use Rattle.vf_datatypes.specs.Walking as datatypes
use Rattle.vf_walk.specs.Walking.{Only, Optional, Then, Walked, behind, unless}
use Rattle.vf_erasure_laws.specs.seen.Unseen.{AddsGhosts}
use Rattle.vf_erasure_laws.proofs.hidden.Adding.{IsKept}
use Rattle.vf_erasure_laws.proofs.hidden.Coming.{Comes, Leads, apart, ok_comes, only_leads, then_leads}
use Rattle.vf_fixpoint_laws.proofs.definable.Extending.{Grows, Keeps, core, grows_before, keeps_both, keeps_same}

-- ---- what parts come to
pub walk_comes : {A B : Type 0} (P : A → Type 0) (Q : B → Type 0) (f : A → Result B Refusal) (r : Result A Refusal) → Comes P r → ((a : A) → P a → Comes Q (f a)) → Comes Q (behind f r)
walk_comes P Q f (Ok a) h k b e = k a (h a refl) b e
walk_comes P Q f (Err x) h k b e = absurd (apart e)

-- anything
abbrev pub Any : {A : Type 0} → A → Type 0
Any a = Unit {0}

pub any_comes : {A B : Type 0} (Q : B → Type 0) (f : A → Result B Refusal) (r : Result A Refusal) → ((a : A) → Comes Q (f a)) → Comes Q (behind f r)
any_comes Q f r k = walk_comes Any Q f r (λ a e. tt) (λ a u. k a)

pub err_comes : {A : Type 0} (P : A → Type 0) (x : Refusal) → Comes P (Err x)
err_comes P x a e = absurd (apart e)

pub if_comes : {A : Type 0} (P : A → Type 0) (b : Bool) (a : A) (x : Refusal) → (b ≡ true → P a) → Comes P (if b then Ok a else Err x)
if_comes P true a x h = ok_comes P (h refl)
if_comes P false a x h = err_comes P x

pub else_comes : {A : Type 0} (P : A → Type 0) (b : Bool) (a : A) (x : Refusal) → P a → Comes P (if b then Err x else Ok a)
else_comes P true a x h = err_comes P x
else_comes P false a x h = ok_comes P h

-- something behind a check that passed
pub passed_comes : {A : Type 0} (P : A → Type 0) (o : Option Refusal) (r : Result A Refusal) → (o ≡ None → Comes P r) → Comes P (datatypes.unless o r)
passed_comes P None r h = h refl
passed_comes P (Some x) r h = err_comes P x

-- ---- nothing at file level
pub keeps_adding : {s t : Scope} → AddsGhosts s t → Keeps s t
keeps_adding a = record { same = ap core a.is }

pub keeps_kept : IsKept Keeps
keeps_kept = record {
  same = keeps_same;
  both = λ h k. keeps_both h k;
  named = λ s b e. record { same = refl };
  one = λ s x t. record { same = refl };
  gone = λ h. record { same = h.same };
}

pub unless_keeps : (o : Option Refusal) (s : Scope) → Comes (Keeps s) (unless o s)
unless_keeps None s = ok_comes (Keeps s) (keeps_same s)
unless_keeps (Some x) s = err_comes (Keeps s) x

pub behind_keeps : (f : Scope → Walked) {s : Scope} (r : Walked) → Comes (Keeps s) r → ((t : Scope) → Comes (Keeps t) (f t)) → Comes (Keeps s) (behind f r)
behind_keeps f {s = s} r h k = walk_comes (Keeps s) (Keeps s) f r h (λ t a u e. keeps_both a (k t u e))

pub then_keeps : {s : Scope} {V : Walked → Type 0} {W : Scope → Walked → Type 0} → Leads (Keeps s) V → ((t : Scope) → Leads (Keeps t) (W t)) → Leads (Keeps s) (Then V W)
then_keeps {s = s} h k = then_leads (Keeps s) (Keeps s) h (λ t a u w. keeps_both a (k t u w))

pub ok_keeps : {s t : Scope} → Keeps s t → Leads (Keeps s) (Only (Ok t))
ok_keeps {s = s} {t = t} h = only_leads (Keeps s) (Ok t) (ok_comes (Keeps s) h)

pub optional_keeps : {A : Type 0} (F : A → Scope → Walked → Type 0) (o : Option A) (s : Scope) → ((a : A) → Leads (Keeps s) (F a s)) → Leads (Keeps s) (Optional F o s)
optional_keeps F None s h = ok_keeps (keeps_same s)
optional_keeps F (Some a) s h = h a

-- ---- more at file level, and then nothing
pub then_grows : {m : ℕ} {s : Scope} {V : Walked → Type 0} {W : Scope → Walked → Type 0} → Leads (Grows m s) V → ((t : Scope) → Leads (Keeps t) (W t)) → Leads (Grows m s) (Then V W)
then_grows {m = m} {s = s} h k = then_leads (Grows m s) (Grows m s) h (λ t a u w. grows_before a (k t u w))

pub behind_grows : {m : ℕ} {s : Scope} (f : Scope → Walked) (r : Walked) → Comes (Grows m s) r → ((t : Scope) → Comes (Keeps t) (f t)) → Comes (Grows m s) (behind f r)
behind_grows {m = m} {s = s} f r h k = walk_comes (Grows m s) (Grows m s) f r h (λ t a u e. grows_before a (k t u e))

-- more at file level, and no locals are left
pub record Ends (m : ℕ) (s t : Scope) : Type 0 where
  pub grows : Grows m s t
  pub locals : t.locals ≡ no_locals

-- nothing at file level, and no locals are left
pub record Cleared (s t : Scope) : Type 0 where
  pub keeps : Keeps s t
  pub locals : t.locals ≡ no_locals

pub then_ends : {m : ℕ} {s : Scope} {V : Walked → Type 0} {W : Scope → Walked → Type 0} → Leads (Grows m s) V → ((t : Scope) → Leads (Cleared t) (W t)) → Leads (Ends m s) (Then V W)
then_ends {m = m} {s = s} h k = then_leads (Grows m s) (Ends m s) h (λ t a u w. let r = k t u w in record { grows = grows_before a r.keeps; locals = r.locals })
