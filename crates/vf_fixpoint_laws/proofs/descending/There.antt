-- A name that means something where it stands: its number, and its declaration.
use Rattle.std.proofs.Common.{◌≡◌, refl, ap, ◌∙◌, ℕ, Bool, true, false, List, slice_get, Option, Some, None}
use Rattle.std.specs.Prelude.{if◌then◌else◌}
use Rattle.vf_names.specs.Names.{number_of}
use Rattle.vf_declared.specs.declared.declaration.Declaration.{Declaration}
use Rattle.vf_declared.specs.declared.declaration.Meaning.{Meaning}
use Rattle.vf_declared.specs.declared.scope.Scope.{Scope}
use Rattle.vf_declared.specs.Scopes.{at_index, declaration_of, declared_in, is_visible}
use Rattle.vf_terms.specs.Named.{declaration_seen, seen_from}
use Rattle.vf_fixpoint_laws.proofs.descending.Lists.{none_some, some_same}

-- a name that means something has a number, and a declaration that is seen
pub record IsThere (s : Scope) (x : List ℕ) (from : ℕ) (m : Meaning) : Type 0 where
  pub number : ℕ
  pub found : number_of s.names x ≡ Some number
  pub declaration : Declaration
  pub at : slice_get s.declarations number ≡ Some declaration
  pub means : declaration.meaning ≡ m
  pub seen : declaration_seen s x from ≡ Some declaration

there_seen : (s : Scope) (x : List ℕ) (from : ℕ) (m : Meaning) (n : ℕ) → number_of s.names x ≡ Some n → (d : Declaration) → slice_get s.declarations n ≡ Some d → (b : Bool) → is_visible s from d.files ≡ b → (if b then Some d.meaning else None) ≡ Some m → IsThere s x from m
there_seen s x from m n e d f true v h =
    record { number = n; found = e; declaration = d; at = f; means = some_same h; seen = ap (λ o. seen_from s from (at_index s.declarations o)) e ∙ (ap (seen_from s from) f ∙ ap (λ c. if c then Some d else None) v) }
there_seen s x from m n e d f false v h = absurd (none_some h)

there_at : (s : Scope) (x : List ℕ) (from : ℕ) (m : Meaning) (n : ℕ) → number_of s.names x ≡ Some n → (o : Option Declaration) → slice_get s.declarations n ≡ o → declared_in s from o ≡ Some m → IsThere s x from m
there_at s x from m n e None f h = absurd (none_some h)
there_at s x from m n e (Some d) f h = there_seen s x from m n e d f (is_visible s from d.files) refl h

there_of : (s : Scope) (x : List ℕ) (from : ℕ) (m : Meaning) (o : Option ℕ) → number_of s.names x ≡ o → declared_in s from (at_index s.declarations o) ≡ Some m → IsThere s x from m
there_of s x from m None e h = absurd (none_some h)
there_of s x from m (Some n) e h = there_at s x from m n e (slice_get s.declarations n) refl h

pub is_there : (s : Scope) (x : List ℕ) (from : ℕ) (m : Meaning) → declaration_of s x from ≡ Some m → IsThere s x from m
is_there s x from m h = there_of s x from m (number_of s.names x) refl h
