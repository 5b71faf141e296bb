-- What an item declares at file level: nothing, a name that is there in one more file, or one name more.
use Rattle.std.proofs.Common.{◌≡◌, sym, subst, ◌∙◌, ap, ℕ, true, List, [], ◌∷◌, ◌++◌, length, None}
use Rattle.vf_names.specs.Names.{number_of}
use Rattle.vf_declared.specs.declared.declaration.GhostDeclaration.{GhostDeclaration}
use Rattle.vf_declared.specs.declared.declaration.GhostDeclaration.TheVariants as ghosts
use Rattle.vf_declared.specs.declared.declaration.Meaning.{Meaning}
use Rattle.vf_declared.specs.declared.declaration.Meaning.TheVariants as meanings
use Rattle.vf_declared.specs.declared.scope.Scope.{Scope}
use Rattle.vf_declared.specs.Writing.{changed}
use Rattle.vf_syntax.specs.declared.written.Name.{Name}
use Rattle.vf_datatypes.specs.Datatypes.{with_next}
use Rattle.vf_datatypes.specs.NewNames.{is_of_c}
use Rattle.vf_walk.specs.Walking.{Then, Walked, behind}
use Rattle.vf_erasure_laws.proofs.hidden.Coming.{Comes, Leads, then_leads}
use Rattle.vf_fixpoint_laws.proofs.definable.Extending.{Core, Keeps, again, core}
use Rattle.vf_fixpoint_laws.proofs.definable.Parts.{walk_comes}

-- ---- one thing more
-- one more name, declared in a file
abbrev pub with_name : Core → List ℕ → Meaning → ℕ → Core
with_name c x m file = record c { names = c.names ++ x ∷ []; declarations = c.declarations ++ (record { meaning = m; files = file ∷ [] }) ∷ [] }

-- one more thing that annotations declare
abbrev pub with_ghost : Core → GhostDeclaration → Core
with_ghost c g = record c { ghosts = c.ghosts ++ g ∷ [] }

-- the name with a number is declared in a file too
abbrev pub with_file : Core → ℕ → ℕ → Core
with_file c k file = record c { declarations = changed (again file) c.declarations k }

-- ---- what C text declares
-- nothing, a name that is there in one more file, or one new name of C
pub data Plain (c : Core) : Core → Type 0 where
  nothing : {e : Core} → e ≡ c → Plain c e
  one_file : {e : Core} (k file : ℕ) → e ≡ with_file c k file → Plain c e
  one_name : {e : Core} (x : List ℕ) (m : Meaning) (file : ℕ) → number_of c.names x ≡ None → is_of_c m ≡ true → e ≡ with_name c x m file → Plain c e

pub record PlainFrom (s t : Scope) : Type 0 where
  pub is : Plain (core s) (core t)

pub plain_kept : {s t : Scope} → Keeps s t → PlainFrom s t
plain_kept h = record { is = nothing h.same }

pub plain_before : {s t u : Scope} → PlainFrom s t → Keeps t u → PlainFrom s u
plain_before {s = s} h k = record { is = subst (Plain (core s)) (sym k.same) h.is }

pub plain_behind : {s t u : Scope} → Keeps s t → PlainFrom t u → PlainFrom s u
plain_behind {u = u} k h = record { is = subst (λ c. Plain c (core u)) k.same h.is }

pub then_plain : {s : Scope} {V : Walked → Type 0} {W : Scope → Walked → Type 0} → Leads (PlainFrom s) V → ((t : Scope) → Leads (Keeps t) (W t)) → Leads (PlainFrom s) (Then V W)
then_plain {s = s} h k = then_leads (PlainFrom s) (PlainFrom s) h (λ t a u w. plain_before a (k t u w))

pub behind_plain : {s : Scope} (f : Scope → Walked) (r : Walked) → Comes (PlainFrom s) r → ((t : Scope) → Comes (Keeps t) (f t)) → Comes (PlainFrom s) (behind f r)
behind_plain {s = s} f r h k = walk_comes (PlainFrom s) (PlainFrom s) f r h (λ t a u e. plain_before a (k t u e))

-- ---- what annotations declare
-- a new name of annotations, and what it means
pub record New (n : Name) (g : GhostDeclaration) (c e : Core) : Type 0 where
  pub fresh : number_of c.names n.text ≡ None
  pub is : e ≡ with_ghost (with_name c n.text (meanings.Ghost (length c.ghosts)) n.place.file) g

pub record NewFrom (n : Name) (g : GhostDeclaration) (s t : Scope) : Type 0 where
  pub is : New n g (core s) (core t)

pub new_before : {n : Name} {g : GhostDeclaration} {s t u : Scope} → NewFrom n g s t → Keeps t u → NewFrom n g s u
new_before h k = record { is = record { fresh = h.is.fresh; is = k.same ∙ h.is.is } }

-- behind a new name that has the next number, what it means
pub new_behind : (s : Scope) (n : Name) (g : GhostDeclaration) {t : Scope} (u : Scope) → number_of s.names n.text ≡ None → Keeps (with_next s n) t → core u ≡ with_ghost (core t) g → NewFrom n g s u
new_behind s n g u a k e = record { is = record { fresh = a; is = e ∙ ap (λ c. with_ghost c g) k.same } }

-- a family, a predicate constructor or a lemma
abbrev pub IsOther : GhostDeclaration → Type 0
IsOther (ghosts.Family f) = Unit {0}
IsOther (ghosts.PredicateConstructor k) = Unit {0}
IsOther (ghosts.Lemma l) = Unit {0}
IsOther g = ⊥

-- what C text may declare, or one of these
pub data Others (c e : Core) : Type 0 where
  plain : Plain c e → Others c e
  ghost : (n : Name) (g : GhostDeclaration) → IsOther g → New n g c e → Others c e

pub record OthersFrom (s t : Scope) : Type 0 where
  pub is : Others (core s) (core t)

others_kept : {c e f : Core} → f ≡ e → Others c e → Others c f
others_kept {c = c} k (plain h) = plain (subst (Plain c) (sym k) h)
others_kept k (ghost n g o h) = ghost n g o (record { fresh = h.fresh; is = k ∙ h.is })

pub others_before : {s t u : Scope} → OthersFrom s t → Keeps t u → OthersFrom s u
others_before h k = record { is = others_kept k.same h.is }

pub others_plain : {s t : Scope} → PlainFrom s t → OthersFrom s t
others_plain h = record { is = plain h.is }

pub others_ghost : {s t : Scope} (n : Name) (g : GhostDeclaration) → IsOther g → NewFrom n g s t → OthersFrom s t
others_ghost n g o h = record { is = ghost n g o h.is }

pub then_others : {s : Scope} {V : Walked → Type 0} {W : Scope → Walked → Type 0} → Leads (OthersFrom s) V → ((t : Scope) → Leads (Keeps t) (W t)) → Leads (OthersFrom s) (Then V W)
then_others {s = s} h k = then_leads (OthersFrom s) (OthersFrom s) h (λ t a u w. others_before a (k t u w))
