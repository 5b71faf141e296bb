-- What names mean hangs on names, declarations and files alone.
use Rattle.std.proofs.Common.{◌≡◌, refl, ◌∙◌, ap, ℕ, false, ◌||◌, if◌then◌else◌, nat_eq, List, [], ◌∷◌, slice_get, Option, Some, None}
use Rattle.vf_declared.specs.declared.declaration.Declaration.{Declaration}
use Rattle.vf_declared.specs.declared.locals.Locals.{Locals}
use Rattle.vf_declared.specs.declared.scope.Scope.{Scope}
use Rattle.vf_declared.specs.Beginning.{no_locals}
use Rattle.vf_declared.specs.Scopes.{at_name, declaration_of, declared_in, is_among, is_declared, is_later_predicate, is_visible, later_predicate, sees, stands_in}

-- a scope without locals and without all that is declared so far
abbrev pub bare : Scope → Scope
bare s = record s { locals = no_locals; names = []; declarations = []; tags = []; structures = []; functions = []; sides = []; function_types = []; ghosts = []; ghost_sides = []; datatypes = [] }

sees_same : (s t : Scope) (from file : ℕ) → bare t ≡ bare s → sees t from file ≡ sees s from file
sees_same s t from file e = ap (λ (s : Scope). nat_eq from s.file || (nat_eq from file || is_among (slice_get s.headers from) file)) e

-- the same files are seen
pub visible_same : (s t : Scope) (from : ℕ) (files : List ℕ) → bare t ≡ bare s → is_visible t from files ≡ is_visible s from files
visible_same s t from [] e = refl
visible_same s t from (file ∷ files) e = λ i. sees_same s t from file e i || visible_same s t from files e i

pub declared_same : (s t : Scope) (from : ℕ) (o : Option Declaration) → bare t ≡ bare s → declared_in t from o ≡ declared_in s from o
declared_same s t from None e = refl
declared_same s t from (Some d) e = ap (λ b. if b then Some d.meaning else None) (visible_same s t from d.files e)

standing_same : (s t : Scope) (from : ℕ) (o : Option (List ℕ)) → bare t ≡ bare s → stands_in t from o ≡ stands_in s from o
standing_same s t from None e = refl
standing_same s t from (Some files) e = visible_same s t from files e

later_same : (s t : Scope) (x : List ℕ) (from : ℕ) → bare t ≡ bare s → is_declared t x ≡ is_declared s x → is_later_predicate t x from ≡ is_later_predicate s x from
later_same s t x from e h =
    (λ i. if h i then false else stands_in t from (at_name (e i).predicates (e i).predicate_files x))
    ∙ ap (λ b. if is_declared s x then false else b) (standing_same s t from (at_name s.predicates s.predicate_files x) e)

-- a predicate that stands later stands later where its name is not declared either
pub predicates_same : (s t : Scope) (x : List ℕ) (from : ℕ) → bare t ≡ bare s → is_declared t x ≡ is_declared s x → later_predicate t x from ≡ later_predicate s x from
predicates_same s t x from e h = λ i. if later_same s t x from e h i then at_name (e i).predicates (e i).predicate_sorts x else None

-- ---- locals do not count
abbrev pub with_locals : Scope → Locals → Scope
with_locals s l = record s { locals = l }

pub meaning_with : (s : Scope) (l : Locals) (x : List ℕ) (from : ℕ) → declaration_of (with_locals s l) x from ≡ declaration_of s x from
meaning_with s l x from = declared_same s (with_locals s l) from (at_name s.names s.declarations x) refl

pub predicates_with : (s : Scope) (l : Locals) (x : List ℕ) (from : ℕ) → later_predicate (with_locals s l) x from ≡ later_predicate s x from
predicates_with s l x from = predicates_same s (with_locals s l) x from refl refl
