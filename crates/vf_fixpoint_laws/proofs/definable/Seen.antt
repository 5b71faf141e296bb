-- Names that are seen from the file where they are declared again.
use Rattle.std.proofs.Common.{◌≡◌, refl, sym, subst, ◌∙◌, ap, ℕ, Bool, true, false, if◌then◌else◌, List, Option, Some, None, slice_get}
use Rattle.vf_names.specs.Names.{number_of}
use Rattle.vf_declared.specs.declared.declaration.Declaration.{Declaration}
use Rattle.vf_declared.specs.declared.declaration.Meaning.{Meaning}
use Rattle.vf_declared.specs.declared.scope.Scope.{Scope}
use Rattle.vf_declared.specs.Scopes.{at_index, declaration_of, declared_in, is_visible}
use Rattle.vf_syntax.specs.declared.written.Name.{Name}
use Rattle.vf_predicates.specs.Earlier.{seen_too, stands_too}
use Rattle.vf_fixpoint_laws.specs.definable.Files.{SeesThrough}
use Rattle.vf_fixpoint_laws.proofs.definable.Extending.{Core, Grows, Keeps, core, grows_again, grows_kept, keeps_same, visible_bare}
use Rattle.vf_fixpoint_laws.proofs.definable.Seeing.{bare}

-- a name of file level has a number, and its declaration is seen from a file
pub record IsSeen (c : Core) (x : List ℕ) (file : ℕ) : Type 0 where
  pub number : ℕ
  pub is : number_of c.names x ≡ Some number
  pub seen : (d : Declaration) → slice_get c.declarations number ≡ Some d → is_visible c.frame file d.files ≡ true

-- a name is new, or it is seen from a file
abbrev pub NewOrSeen : Core → List ℕ → ℕ → Option ℕ → Type 0
NewOrSeen c x file None = Unit {0}
NewOrSeen c x file (Some k) = IsSeen c x file

pub seen_kept : {s t : Scope} → Keeps s t → (x : List ℕ) (file : ℕ) → IsSeen (core s) x file → IsSeen (core t) x file
seen_kept h x file e = subst (λ c. IsSeen c x file) (sym h.same) e

pub new_or_seen_kept : {s t : Scope} → Keeps s t → (x : List ℕ) (file : ℕ) (o : Option ℕ) → NewOrSeen (core s) x file o → NewOrSeen (core t) x file o
new_or_seen_kept h x file None e = tt
new_or_seen_kept h x file (Some k) e = seen_kept h x file e

-- a name that means something in a file is seen from it
visible_where : (b : Bool) (m n : Meaning) → ◌≡◌ {A = Option Meaning} (if b then Some m else None) (Some n) → b ≡ true
visible_where true m n e = refl
visible_where false m n e = absurd cc

placed : (s : Scope) (x : List ℕ) (file j : ℕ) (o : Option Declaration) (m : Meaning) → number_of s.names x ≡ Some j → slice_get s.declarations j ≡ o → declared_in s file o ≡ Some m → IsSeen (core s) x file
placed s x file j None m e f g = absurd cc
placed s x file j (Some d) m e f g = record { number = j; is = e; seen = λ c h. subst (λ (c : Declaration). is_visible (bare s) file c.files ≡ true) (some (sym f ∙ h)) (visible_bare s file d.files ∙ visible_where (is_visible s file d.files) d.meaning m g) }
  where
    some : {c : Declaration} → ◌≡◌ {A = Option Declaration} (Some d) (Some c) → d ≡ c
    some e = cc

named : (s : Scope) (x : List ℕ) (file : ℕ) (o : Option ℕ) (m : Meaning) → number_of s.names x ≡ o → declared_in s file (at_index s.declarations o) ≡ Some m → IsSeen (core s) x file
named s x file None m e g = absurd cc
named s x file (Some j) m e g = placed s x file j (slice_get s.declarations j) m e refl g

pub declared_seen : (s : Scope) (x : List ℕ) (file : ℕ) (m : Meaning) → declaration_of s x file ≡ Some m → IsSeen (core s) x file
declared_seen s x file m e = named s x file (number_of s.names x) m refl e

-- such a name may be declared in the file too
too_grows : (m : ℕ) (s : Scope) → SeesThrough s → (n : Name) → IsSeen (core s) n.text n.place.file → (o : Option ℕ) → number_of s.names n.text ≡ o → Grows m s (stands_too s n o)
too_grows m s v n h None e = grows_kept m (keeps_same s)
too_grows m s v n h (Some j) e = grows_again m s v j n.place.file (λ d f. sym (visible_bare s n.place.file d.files) ∙ h.seen d (ap (slice_get s.declarations) (same (sym h.is ∙ e)) ∙ f))
  where
    same : ◌≡◌ {A = Option ℕ} (Some h.number) (Some j) → h.number ≡ j
    same e = cc

pub seen_grows : (m : ℕ) (s : Scope) → SeesThrough s → (n : Name) → IsSeen (core s) n.text n.place.file → Grows m s (seen_too s n)
seen_grows m s v n h = too_grows m s v n h (number_of s.names n.text) refl
