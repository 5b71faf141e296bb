-- Scopes of a unit in which more is declared.
use Rattle.std.proofs.Common.{◌≡◌, refl, sym, subst, ◌∙◌, ap, ℕ, zero, suc, ◌≤◌, Bool, true, false, ◌||◌, if◌then◌else◌, List, [], ◌∷◌, ◌++◌, length, Option, Some, None, slice_get, append_assoc, append-nil, arith}
use Rattle.vf_declared.specs.declared.declaration.Datatype.{Datatype}
use Rattle.vf_declared.specs.declared.declaration.Declaration.{Declaration}
use Rattle.vf_declared.specs.declared.declaration.GhostDeclaration.{GhostDeclaration}
use Rattle.vf_declared.specs.declared.declaration.GhostDeclaration.TheVariants as ghosts
use Rattle.vf_declared.specs.declared.declaration.Meaning.{Meaning}
use Rattle.vf_declared.specs.declared.scope.Scope.{Scope}
use Rattle.vf_declared.specs.Scopes.{has, is_visible, sees}
use Rattle.vf_declared.specs.Writing.{changed, changed_at, with_file, with_ghost, with_name, with_name_again}
use Rattle.vf_fixpoint_laws.specs.definable.Files.{SeesThrough}
use Rattle.vf_fixpoint_laws.proofs.definable.Lists.{one_beside, or_behind}
use Rattle.vf_fixpoint_laws.proofs.definable.Seeing.{bare, visible_same}

-- ---- declarations that are the same
-- a declaration means the same as an earlier one, and is seen from the same files
pub record IsSame (s : Scope) (d e : Declaration) : Type 0 where
  pub meaning : e.meaning ≡ d.meaning
  pub files : (from : ℕ) → is_visible s from e.files ≡ is_visible s from d.files

-- each declaration of a first list is the same as the one at its place in a second, which may go on
pub data Front (s : Scope) : List Declaration → List Declaration → Type 0 where
  no_more : {es : List Declaration} → Front s [] es
  one_more : {d e : Declaration} {ds es : List Declaration} → IsSame s d e → Front s ds es → Front s (d ∷ ds) (e ∷ es)

same_itself : (s : Scope) (d : Declaration) → IsSame s d d
same_itself s d = record { meaning = refl; files = λ from. refl }

same_both : {s : Scope} {c d e : Declaration} → IsSame s c d → IsSame s d e → IsSame s c e
same_both h k = record { meaning = k.meaning ∙ h.meaning; files = λ from. k.files from ∙ h.files from }

front_itself : (s : Scope) (ds : List Declaration) → Front s ds ds
front_itself s [] = no_more
front_itself s (d ∷ ds) = one_more (same_itself s d) (front_itself s ds)

front_both : {s : Scope} {cs ds es : List Declaration} → Front s cs ds → Front s ds es → Front s cs es
front_both no_more k = no_more
front_both (one_more a h) (one_more b k) = one_more (same_both a b) (front_both h k)

front_push : (s : Scope) (ds es : List Declaration) → Front s ds (ds ++ es)
front_push s [] es = no_more
front_push s (d ∷ ds) es = one_more (same_itself s d) (front_push s ds es)

-- ---- a declaration in one more file
abbrev pub again : ℕ → Declaration → Declaration
again file d = record d { files = with_file d.files file }

visible_push : (s : Scope) (from file : ℕ) (files : List ℕ) → is_visible s from (files ++ file ∷ []) ≡ (is_visible s from files || sees s from file)
visible_push s from file [] = or_none (sees s from file)
  where
    or_none : (b : Bool) → (b || false) ≡ b
    or_none true = refl
    or_none false = refl
visible_push s from file (f ∷ files) = ap (λ b. sees s from f || b) (visible_push s from file files) ∙ either (sees s from f) (is_visible s from files) (sees s from file)
  where
    either : (a b c : Bool) → (a || (b || c)) ≡ ((a || b) || c)
    either true b c = refl
    either false b c = refl

visible_through : (s : Scope) → SeesThrough s → (from file : ℕ) (files : List ℕ) → sees s from file ≡ true → is_visible s file files ≡ true → is_visible s from files ≡ true
visible_through s o from file [] e h = absurd (let k : false ≡ true = h in cc)
visible_through s o from file (f ∷ files) e h = by_test (sees s file f) refl h (visible_through s o from file files e)
  where
    by_test : (b : Bool) → sees s file f ≡ b → (b || is_visible s file files) ≡ true → (is_visible s file files ≡ true → is_visible s from files ≡ true) → (sees s from f || is_visible s from files) ≡ true
    by_test true g h k = ap (λ b. b || is_visible s from files) (o from file f e g)
    by_test false g h k = behind (sees s from f) (k h)
      where
        behind : (a : Bool) {b : Bool} → b ≡ true → (a || b) ≡ true
        behind true h = refl
        behind false h = h

added_same : (s : Scope) → SeesThrough s → (file : ℕ) (files : List ℕ) → is_visible s file files ≡ true → (b : Bool) → has files file ≡ b → (from : ℕ) → is_visible s from (with_file files file) ≡ is_visible s from files
added_same s o file files h true e from = ap (λ (b : Bool). is_visible s from (if b then files else files ++ file ∷ [])) e
added_same s o file files h false e from = ap (λ (b : Bool). is_visible s from (if b then files else files ++ file ∷ [])) e ∙ (visible_push s from file files ∙ or_behind (is_visible s from files) (sees s from file) (λ k. visible_through s o from file files k h))

-- a declaration that is seen from a file is the same in that file too
pub again_same : (s : Scope) → SeesThrough s → (file : ℕ) (d : Declaration) → is_visible s file d.files ≡ true → IsSame s d (again file d)
again_same s o file d h = record { meaning = refl; files = added_same s o file d.files h (has d.files file) refl }

later : (file : ℕ) (c : Declaration) (ds : List Declaration) (n : ℕ) (o : Option Declaration) → changed_at (again file) (c ∷ ds) (suc n) o ≡ c ∷ changed_at (again file) ds n o
later file c ds n None = refl
later file c ds n (Some d) = refl

front_again : (s : Scope) (file : ℕ) (ds : List Declaration) (n : ℕ) → ((d : Declaration) → slice_get ds n ≡ Some d → IsSame s d (again file d)) → Front s ds (changed (again file) ds n)
front_again s file [] n h = no_more
front_again s file (d ∷ ds) zero h = one_more (h d refl) (front_itself s ds)
front_again s file (d ∷ ds) (suc n) h = subst (Front s (d ∷ ds)) (sym (later file d ds n (slice_get ds n))) (one_more (same_itself s d) (front_again s file ds n h))

as_many_again : (file : ℕ) (ds : List Declaration) (n : ℕ) → length (changed (again file) ds n) ≡ length ds
as_many_again file [] n = refl
as_many_again file (d ∷ ds) zero = refl
as_many_again file (d ∷ ds) (suc n) = ap length (later file d ds n (slice_get ds n)) ∙ ap suc (as_many_again file ds n)

-- ---- datatypes and constructors
-- a declaration is of a datatype with a number below one, if it is of a datatype
abbrev pub IsOf : ℕ → GhostDeclaration → Type 0
IsOf m (ghosts.Datatype d) = suc d ≤ m
IsOf m (ghosts.Constructor k) = suc k.datatype ≤ m
IsOf m g = Unit {0}

abbrev pub AreOf : ℕ → List GhostDeclaration → Type 0
AreOf m [] = Unit {0}
AreOf m (g ∷ gs) = IsOf m g × AreOf m gs

is_wider : {m n : ℕ} → m ≤ n → (g : GhostDeclaration) → IsOf m g → IsOf n g
is_wider h (ghosts.Datatype d) e = omega (arith, h, e)
is_wider h (ghosts.Constructor k) e = omega (arith, h, e)
is_wider h (ghosts.Fixpoint f) e = tt
is_wider h (ghosts.Predicate f) e = tt
is_wider h (ghosts.Family f) e = tt
is_wider h (ghosts.PredicateConstructor f) e = tt
is_wider h (ghosts.Lemma f) e = tt

pub are_wider : {m n : ℕ} → m ≤ n → (gs : List GhostDeclaration) → AreOf m gs → AreOf n gs
are_wider h [] e = tt
are_wider h (g ∷ gs) e = (is_wider h g e.0, are_wider h gs e.1)

pub are_both : (m : ℕ) (gs hs : List GhostDeclaration) → AreOf m gs → AreOf m hs → AreOf m (gs ++ hs)
are_both m [] hs e f = f
are_both m (g ∷ gs) hs e f = (e.0, are_both m gs hs e.1 f)

pub is_of : (m : ℕ) (gs : List GhostDeclaration) (n : ℕ) (g : GhostDeclaration) → AreOf m gs → slice_get gs n ≡ Some g → IsOf m g
is_of m [] n g e f = absurd cc
is_of m (h ∷ gs) zero g e f = subst (IsOf m) (same f) e.0
  where
    same : ◌≡◌ {A = Option GhostDeclaration} (Some h) (Some g) → h ≡ g
    same e = cc
is_of m (h ∷ gs) (suc n) g e f = is_of m gs n g e.1 f

-- ---- scopes
-- what of a scope names mean: its files and what stands later, its names of file level, and what annotations declare
pub record Core : Type 0 where
  pub frame : Scope
  pub names : List (List ℕ)
  pub declarations : List Declaration
  pub ghosts : List GhostDeclaration
  pub datatypes : List Datatype

abbrev pub core : Scope → Core
core s = record { frame = bare s; names = s.names; declarations = s.declarations; ghosts = s.ghosts; datatypes = s.datatypes }

-- each name stands beside its declaration
abbrev pub IsBeside : Core → Type 0
IsBeside c = length c.names ≡ length c.declarations

-- in the second more is declared than in the first, and datatypes and constructors that are new are of datatypes with numbers below one
pub record Extends (m : ℕ) (c d : Core) : Type 0 where
  pub frame : d.frame ≡ c.frame
  pub more_names : List (List ℕ)
  pub names : d.names ≡ c.names ++ more_names
  pub declarations : Front c.frame c.declarations d.declarations
  pub beside : IsBeside c → IsBeside d
  pub more_ghosts : List GhostDeclaration
  pub ghosts : d.ghosts ≡ c.ghosts ++ more_ghosts
  pub of : AreOf m more_ghosts
  pub more_datatypes : List Datatype
  pub datatypes : d.datatypes ≡ c.datatypes ++ more_datatypes

pub extends_itself : (m : ℕ) (c : Core) → Extends m c c
extends_itself m c = record {
  frame = refl;
  more_names = [];
  names = sym (append-nil c.names);
  declarations = front_itself c.frame c.declarations;
  beside = λ h. h;
  more_ghosts = [];
  ghosts = sym (append-nil c.ghosts);
  of = tt;
  more_datatypes = [];
  datatypes = sym (append-nil c.datatypes);
}

pub extends_both : {m : ℕ} {c d e : Core} → Extends m c d → Extends m d e → Extends m c e
extends_both {m = m} {c = c} {d = d} {e = e} h k = record {
  frame = k.frame ∙ h.frame;
  more_names = h.more_names ++ k.more_names;
  names = k.names ∙ (ap (λ xs. xs ++ k.more_names) h.names ∙ append_assoc c.names h.more_names k.more_names);
  declarations = front_both h.declarations (subst (λ f. Front f d.declarations e.declarations) h.frame k.declarations);
  beside = λ b. k.beside (h.beside b);
  more_ghosts = h.more_ghosts ++ k.more_ghosts;
  ghosts = k.ghosts ∙ (ap (λ xs. xs ++ k.more_ghosts) h.ghosts ∙ append_assoc c.ghosts h.more_ghosts k.more_ghosts);
  of = are_both m h.more_ghosts k.more_ghosts h.of k.of;
  more_datatypes = h.more_datatypes ++ k.more_datatypes;
  datatypes = k.datatypes ∙ (ap (λ xs. xs ++ k.more_datatypes) h.datatypes ∙ append_assoc c.datatypes h.more_datatypes k.more_datatypes);
}

pub extends_wider : {m n : ℕ} {c d : Core} → m ≤ n → Extends m c d → Extends n c d
extends_wider l h = record { frame = h.frame; more_names = h.more_names; names = h.names; declarations = h.declarations; beside = h.beside; more_ghosts = h.more_ghosts; ghosts = h.ghosts; of = are_wider l h.more_ghosts h.of; more_datatypes = h.more_datatypes; datatypes = h.datatypes }

-- ---- nothing new, but for locals and for what names do not mean
pub record Keeps (s t : Scope) : Type 0 where
  pub same : core t ≡ core s

-- more at file level
pub record Grows (m : ℕ) (s t : Scope) : Type 0 where
  pub extends : Extends m (core s) (core t)

pub keeps_same : (s : Scope) → Keeps s s
keeps_same s = record { same = refl }

pub keeps_both : {s t u : Scope} → Keeps s t → Keeps t u → Keeps s u
keeps_both h k = record { same = k.same ∙ h.same }

pub grows_kept : (m : ℕ) {s t : Scope} → Keeps s t → Grows m s t
grows_kept m {s = s} h = record { extends = subst (Extends m (core s)) (sym h.same) (extends_itself m (core s)) }

pub grows_both : {m : ℕ} {s t u : Scope} → Grows m s t → Grows m t u → Grows m s u
grows_both h k = record { extends = extends_both h.extends k.extends }

-- something, and then nothing
pub grows_before : {m : ℕ} {s t u : Scope} → Grows m s t → Keeps t u → Grows m s u
grows_before {m = m} {s = s} h k = record { extends = subst (Extends m (core s)) (sym k.same) h.extends }

-- nothing, and then something
pub grows_behind : {m : ℕ} {s t u : Scope} → Keeps s t → Grows m t u → Grows m s u
grows_behind {m = m} {u = u} k h = record { extends = subst (λ c. Extends m c (core u)) k.same h.extends }

pub grows_wider : {m n : ℕ} {s t : Scope} → m ≤ n → Grows m s t → Grows n s t
grows_wider l h = record { extends = extends_wider l h.extends }

-- files see through each other as before
pub sees_kept : {m : ℕ} {s t : Scope} → Grows m s t → SeesThrough s → SeesThrough t
sees_kept {s = s} {t = t} h o = subst SeesThrough (sym h.extends.frame) o

-- what is visible does not hang on what is declared
pub visible_bare : (s : Scope) (from : ℕ) (files : List ℕ) → is_visible (bare s) from files ≡ is_visible s from files
visible_bare s from files = visible_same s (bare s) from files refl

-- ---- one more
pub grows_name : (m : ℕ) (s : Scope) (x : List ℕ) (d : Meaning) (file : ℕ) → Grows m s (with_name s x d file)
grows_name m s x d file = record {
  extends = record {
    frame = refl;
    more_names = x ∷ [];
    names = refl;
    declarations = front_push (bare s) s.declarations _;
    beside = λ h. one_beside s.names x s.declarations _ h;
    more_ghosts = [];
    ghosts = sym (append-nil s.ghosts);
    of = tt;
    more_datatypes = [];
    datatypes = sym (append-nil s.datatypes);
  };
}

pub grows_ghost : (m : ℕ) (s : Scope) (g : GhostDeclaration) → IsOf m g → Grows m s (with_ghost s g)
grows_ghost m s g e = record {
  extends = record {
    frame = refl;
    more_names = [];
    names = sym (append-nil s.names);
    declarations = front_itself (bare s) s.declarations;
    beside = λ h. h;
    more_ghosts = g ∷ [];
    ghosts = refl;
    of = (e, tt);
    more_datatypes = [];
    datatypes = sym (append-nil s.datatypes);
  };
}

pub grows_datatype : (m : ℕ) (s : Scope) (d : Datatype) → Grows m s (record s { datatypes = s.datatypes ++ d ∷ [] })
grows_datatype m s d = record {
  extends = record {
    frame = refl;
    more_names = [];
    names = sym (append-nil s.names);
    declarations = front_itself (bare s) s.declarations;
    beside = λ h. h;
    more_ghosts = [];
    ghosts = sym (append-nil s.ghosts);
    of = tt;
    more_datatypes = d ∷ [];
    datatypes = refl;
  };
}

-- a name that is declared in a file too from which it is seen
pub grows_again : (m : ℕ) (s : Scope) → SeesThrough s → (n file : ℕ) → ((d : Declaration) → slice_get s.declarations n ≡ Some d → is_visible s file d.files ≡ true) → Grows m s (with_name_again s n file)
grows_again m s o n file h = record {
  extends = record {
    frame = refl;
    more_names = [];
    names = sym (append-nil s.names);
    declarations = front_again (bare s) file s.declarations n (λ d e. again_same (bare s) o file d (visible_bare s file d.files ∙ h d e));
    beside = λ b. b ∙ sym (as_many_again file s.declarations n);
    more_ghosts = [];
    ghosts = sym (append-nil s.ghosts);
    of = tt;
    more_datatypes = [];
    datatypes = sym (append-nil s.datatypes);
  };
}
