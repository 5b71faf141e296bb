-- Parts of the text that leave the names of file level and the tags as they are, and parts that bring some.
use Rattle.std.proofs.Common.{◌≡◌, refl, sym, ap, ◌∙◌, ℕ, Bool, true, false, if◌then◌else◌, List, [], ◌∷◌, ◌++◌, length, Option, Some, None, Result, Ok, Err}
use Rattle.vf_base.specs.declared.refusal.Refusal.{Refusal}
use Rattle.vf_names.specs.Names.{number_of}
use Rattle.vf_declared.specs.declared.declaration.Declaration.{Declaration}
use Rattle.vf_declared.specs.declared.declaration.Meaning.{Meaning}
use Rattle.vf_declared.specs.declared.scope.Scope.{Scope}
use Rattle.vf_declared.specs.Writing.{with_name, with_name_again}
use Rattle.vf_datatypes.specs.Walking as datatypes
use Rattle.vf_walk.specs.Walking.{Only, Optional, Then, Walked, behind, unless}
use Rattle.vf_erasure_laws.specs.seen.Unseen.{AddsGhosts}
use Rattle.vf_erasure_laws.proofs.hidden.Adding.{IsKept}
use Rattle.vf_erasure_laws.proofs.hidden.Coming.{Comes, Leads, apart, ok_comes, only_leads, then_leads}
use Rattle.vf_erasure_laws.proofs.hidden.Declarations.{as_many_again}
use Rattle.vf_erasure_laws.proofs.hidden.Lists.{one_beside}
use Rattle.vf_env_laws.specs.Declared.{put_all}
use Rattle.vf_env_laws.proofs.Putting.{put_both, put_known, put_new}

-- ---- nothing new
-- the second scope has the names of file level and the tags of the first, and as many declarations
pub record Keeps (s t : Scope) : Type 0 where
  pub names : t.names ≡ s.names
  pub tags : t.tags ≡ s.tags
  pub count : length t.declarations ≡ length s.declarations

pub keeps_same : (s : Scope) → Keeps s s
keeps_same s = record { names = refl; tags = refl; count = refl }

pub keeps_both : {s t u : Scope} → Keeps s t → Keeps t u → Keeps s u
keeps_both h k = record { names = k.names ∙ h.names; tags = k.tags ∙ h.tags; count = k.count ∙ h.count }

-- more names of annotations among the locals
pub keeps_adding : {s t : Scope} → AddsGhosts s t → Keeps s t
keeps_adding a = record { names = ap (λ (t : Scope). t.names) a.is; tags = ap (λ (t : Scope). t.tags) a.is; count = ap (λ (t : Scope). length t.declarations) a.is }

pub keeps_kept : IsKept Keeps
keeps_kept = record {
  same = keeps_same;
  both = λ h k. keeps_both h k;
  named = λ s b e. record { names = refl; tags = refl; count = refl };
  one = λ s x t. record { names = refl; tags = refl; count = refl };
  gone = λ h. record { names = h.names; tags = h.tags; count = h.count };
}

-- a name that is declared again
pub keeps_again : (s : Scope) (n file : ℕ) → Keeps s (with_name_again s n file)
keeps_again s n file = record { names = refl; tags = refl; count = as_many_again file s.declarations n }

-- ---- what parts come to
pub walk_comes : {A B : Type 0} (P : A → Type 0) (Q : B → Type 0) (f : A → Result B Refusal) (r : Result A Refusal) → Comes P r → ((a : A) → P a → Comes Q (f a)) → Comes Q (behind f r)
walk_comes P Q f (Ok a) h k b e = k a (h a refl) b e
walk_comes P Q f (Err x) h k b e = absurd (apart e)

-- anything
abbrev pub Any : {A : Type 0} → A → Type 0
Any a = Unit {0}

pub any_comes : {A B : Type 0} (Q : B → Type 0) (f : A → Result B Refusal) (r : Result A Refusal) → ((a : A) → Comes Q (f a)) → Comes Q (behind f r)
any_comes Q f r k = walk_comes Any Q f r (λ a e. tt) (λ a u. k a)

pub err_comes : {A : Type 0} (P : A → Type 0) (x : Refusal) → Comes P (Err x)
err_comes P x a e = absurd (apart e)

pub if_comes : {A : Type 0} (P : A → Type 0) (b : Bool) (a : A) (x : Refusal) → (b ≡ true → P a) → Comes P (if b then Ok a else Err x)
if_comes P true a x h = ok_comes P (h refl)
if_comes P false a x h = err_comes P x

pub else_comes : {A : Type 0} (P : A → Type 0) (b : Bool) (a : A) (x : Refusal) → P a → Comes P (if b then Err x else Ok a)
else_comes P true a x h = err_comes P x
else_comes P false a x h = ok_comes P h

-- what a check leaves as it is
pub unless_keeps : (o : Option Refusal) (s : Scope) → Comes (Keeps s) (unless o s)
unless_keeps None s = ok_comes (Keeps s) (keeps_same s)
unless_keeps (Some x) s = err_comes (Keeps s) x

-- something behind a check that passed
pub passed_comes : {A : Type 0} (P : A → Type 0) (o : Option Refusal) (r : Result A Refusal) → (o ≡ None → Comes P r) → Comes P (datatypes.unless o r)
passed_comes P None r h = h refl
passed_comes P (Some x) r h = err_comes P x

pub behind_keeps : (f : Scope → Walked) {s : Scope} (r : Walked) → Comes (Keeps s) r → ((t : Scope) → Comes (Keeps t) (f t)) → Comes (Keeps s) (behind f r)
behind_keeps f {s = s} r h k = walk_comes (Keeps s) (Keeps s) f r h (λ t a u e. keeps_both a (k t u e))

pub then_keeps : {s : Scope} {V : Walked → Type 0} {W : Scope → Walked → Type 0} → Leads (Keeps s) V → ((t : Scope) → Leads (Keeps t) (W t)) → Leads (Keeps s) (Then V W)
then_keeps {s = s} h k = then_leads (Keeps s) (Keeps s) h (λ t a u w. keeps_both a (k t u w))

pub ok_keeps : {s t : Scope} → Keeps s t → Leads (Keeps s) (Only (Ok t))
ok_keeps {s = s} {t = t} h = only_leads (Keeps s) (Ok t) (ok_comes (Keeps s) h)

pub optional_keeps : {A : Type 0} (F : A → Scope → Walked → Type 0) (o : Option A) (s : Scope) → ((a : A) → Leads (Keeps s) (F a s)) → Leads (Keeps s) (Optional F o s)
optional_keeps F None s h = ok_keeps (keeps_same s)
optional_keeps F (Some a) s h = h a

-- ---- new names
-- each name of file level stands beside its declaration
abbrev pub IsBeside : Scope → Type 0
IsBeside s = length s.names ≡ length s.declarations

-- the second scope has the names of file level and the tags of the first, and behind them these, unless they are there already
pub record Brings (xs ys : List (List ℕ)) (s t : Scope) : Type 0 where
  pub names : t.names ≡ put_all s.names xs
  pub tags : t.tags ≡ put_all s.tags ys
  pub beside : IsBeside t

pub beside_kept : {s t : Scope} → IsBeside s → Keeps s t → IsBeside t
beside_kept b h = ap length h.names ∙ (b ∙ sym h.count)

pub brings_none : {s t : Scope} → IsBeside s → Keeps s t → Brings [] [] s t
brings_none b h = record { names = h.names; tags = h.tags; beside = beside_kept b h }

-- some, and then nothing
pub brings_before : {xs ys : List (List ℕ)} {s t u : Scope} → Brings xs ys s t → Keeps t u → Brings xs ys s u
brings_before b h = record { names = h.names ∙ b.names; tags = h.tags ∙ b.tags; beside = beside_kept b.beside h }

-- nothing, and then some
pub brings_behind : {xs ys : List (List ℕ)} {s t u : Scope} → Keeps s t → Brings xs ys t u → Brings xs ys s u
brings_behind {xs = xs} {ys = ys} h b = record { names = b.names ∙ ap (λ ns. put_all ns xs) h.names; tags = b.tags ∙ ap (λ ns. put_all ns ys) h.tags; beside = b.beside }

-- some, and then others
pub brings_both : {xs ys zs us : List (List ℕ)} {s t u : Scope} → Brings xs ys s t → Brings zs us t u → Brings (xs ++ zs) (ys ++ us) s u
brings_both {xs = xs} {ys = ys} {zs = zs} {us = us} {s = s} h k = record {
  names = k.names ∙ ap (λ ns. put_all ns zs) h.names ∙ sym (put_both s.names xs zs);
  tags = k.tags ∙ ap (λ ns. put_all ns us) h.tags ∙ sym (put_both s.tags ys us);
  beside = k.beside;
}

-- a name that is new
pub brings_name : (s : Scope) (x : List ℕ) (m : Meaning) (file : ℕ) → IsBeside s → number_of s.names x ≡ None → Brings (x ∷ []) [] s (with_name s x m file)
brings_name s x m file b none =
    let d : Declaration = record { meaning = m; files = file ∷ [] } in
    record { names = sym (put_new s.names x none); tags = refl; beside = one_beside s.names x s.declarations d b }

-- a name that is there
pub brings_known : {s t : Scope} (x : List ℕ) (k : ℕ) → IsBeside s → number_of s.names x ≡ Some k → Keeps s t → Brings (x ∷ []) [] s t
brings_known {s = s} x k b known h = record { names = h.names ∙ sym (put_known s.names x k known); tags = h.tags; beside = beside_kept b h }

pub then_brings : {xs ys : List (List ℕ)} {s : Scope} {V : Walked → Type 0} {W : Scope → Walked → Type 0} → Leads (Brings xs ys s) V → ((t : Scope) → Leads (Keeps t) (W t)) → Leads (Brings xs ys s) (Then V W)
then_brings {xs = xs} {ys = ys} {s = s} h k = then_leads (Brings xs ys s) (Brings xs ys s) h (λ t a u w. brings_before a (k t u w))

pub behind_brings : {xs ys : List (List ℕ)} {s : Scope} (f : Scope → Walked) (r : Walked) → Comes (Brings xs ys s) r → ((t : Scope) → Comes (Keeps t) (f t)) → Comes (Brings xs ys s) (behind f r)
behind_brings {xs = xs} {ys = ys} {s = s} f r h k = walk_comes (Brings xs ys s) (Brings xs ys s) f r h (λ t a u e. brings_before a (k t u e))

-- ---- names that may be there
-- a name stands for nothing yet, or for something already
abbrev pub Stands : Scope → List ℕ → Option ℕ → Type 0
Stands s x None = number_of s.names x ≡ None
Stands s x (Some k) = (j : ℕ) × (number_of s.names x ≡ Some j)
