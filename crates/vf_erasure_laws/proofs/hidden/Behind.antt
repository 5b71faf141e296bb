-- Scopes of which C text sees the same but for locals, behind those that were there.
use Rattle.std.proofs.Common.{◌≡◌, refl, sym, subst, ◌∙◌, ap, ℕ, true, List, [], ◌∷◌, ◌++◌, length, take, map, filter, slice_get, append_assoc, append-nil}
use Rattle.vf_declared.specs.declared.declaration.Declaration.{Declaration}
use Rattle.vf_declared.specs.declared.declaration.Meaning.TheVariants as meanings
use Rattle.vf_declared.specs.declared.locals.Local.{Local}
use Rattle.vf_declared.specs.declared.locals.Local.TheVariants as locals
use Rattle.vf_declared.specs.declared.locals.Locals.{Locals}
use Rattle.vf_declared.specs.declared.scope.Scope.{Scope}
use Rattle.vf_declared.specs.Beginning.{no_locals}
use Rattle.vf_declared.specs.Changes.{IsAligned, first_locals}
use Rattle.vf_declared.specs.Writing.{with_name, with_name_again}
use Rattle.vf_asserting.specs.Leaving.{count, left}
use Rattle.vf_erasure_laws.specs.seen.Seen.{IsOrderly, declares_c, names_of_c, real_locals, seen, seen_sides}
use Rattle.vf_erasure_laws.specs.seen.Unseen.{AddsGhosts, IsUnseen}
use Rattle.vf_erasure_laws.proofs.hidden.Lists.{front, one_beside, past}
use Rattle.vf_erasure_laws.proofs.hidden.Adding.{IsKept, adds_bound, adds_one}
use Rattle.vf_erasure_laws.proofs.hidden.Declarations.{IsGhostAt, as_many_again, declarations_again, names_again, one_more_declaration, one_more_name}

-- a scope without locals and without all that annotations declare, and without names of file level
abbrev pub bare : Scope → Scope
bare s = record s { locals = no_locals; names = []; declarations = []; ghosts = []; ghost_sides = []; datatypes = [] }

-- in the second scope C text sees the same as in the first, but for locals that stand behind those of the first
pub record IsBehind (s t : Scope) : Type 0 where
  pub more_names : List (List ℕ)
  pub more_meanings : List Local
  pub locals : t.locals ≡ record { names = s.locals.names ++ more_names; meanings = s.locals.meanings ++ more_meanings }
  pub rest : bare t ≡ bare s
  pub beside : length t.names ≡ length t.declarations
  pub names : names_of_c t.names t.declarations ≡ names_of_c s.names s.declarations
  pub declarations : filter declares_c t.declarations ≡ filter declares_c s.declarations

-- ---- the first scope itself, and what C text sees
pub behind_itself : {s : Scope} → IsOrderly s → IsBehind s s
behind_itself {s = s} o = record {
  more_names = [];
  more_meanings = [];
  locals = λ i. record { names = sym (append-nil s.locals.names) i; meanings = sym (append-nil s.locals.meanings) i };
  rest = refl;
  beside = o.names;
  names = refl;
  declarations = refl;
}

-- all that C text sees, of a scope without locals and names of file level, and of these
abbrev shown : Scope → Locals → List (List ℕ) → List Declaration → Scope
unfolding seen
shown b l xs ds = record b { locals = real_locals l; names = xs; declarations = ds; predicates = []; predicate_files = []; predicate_sorts = []; sides = map seen_sides b.sides; ghosts = []; ghost_sides = []; datatypes = [] }

pub unseen : {s t : Scope} → IsOrderly s → IsBehind s t → t.locals ≡ s.locals → IsUnseen s t
unfolding seen
unseen {s = s} {t = t} o h e = record {
  same = λ i. shown (h.rest i) (e i) (h.names i) (h.declarations i);
  locals = e;
  orderly = record {
    locals = subst IsAligned (sym e) o.locals;
    names = h.beside;
    prototypes = λ k x l a b. o.prototypes k x l (ap (λ (b : Scope). slice_get b.sides k) (sym h.rest) ∙ a) b;
  };
}

-- ---- one step more, of which C text sees nothing at file level
pub behind_too : {s t : Scope} (u : Scope) → IsBehind s t → u.locals ≡ t.locals → bare u ≡ bare t → u.names ≡ t.names → u.declarations ≡ t.declarations → IsBehind s u
behind_too {s = s} u h l b n d = record {
  more_names = h.more_names;
  more_meanings = h.more_meanings;
  locals = l ∙ h.locals;
  rest = b ∙ h.rest;
  beside = ap length n ∙ (h.beside ∙ ap length (sym d));
  names = (λ i. names_of_c (n i) (d i)) ∙ h.names;
  declarations = ap (filter declares_c) d ∙ h.declarations;
}

-- more locals
pub behind_more : {s t : Scope} (xs : List (List ℕ)) (ls : List Local) → IsBehind s t → IsBehind s (record t { locals = record { names = t.locals.names ++ xs; meanings = t.locals.meanings ++ ls } })
behind_more {s = s} xs ls h = record {
  more_names = h.more_names ++ xs;
  more_meanings = h.more_meanings ++ ls;
  locals = ap (λ (l : Locals). record { names = l.names ++ xs; meanings = l.meanings ++ ls }) h.locals ∙ (λ i. record { names = append_assoc s.locals.names h.more_names xs i; meanings = append_assoc s.locals.meanings h.more_meanings ls i });
  rest = h.rest;
  beside = h.beside;
  names = h.names;
  declarations = h.declarations;
}

pub behind_adding : {s t u : Scope} → IsBehind s t → AddsGhosts t u → IsBehind s u
behind_adding {s = s} h a = subst (IsBehind s) (sym a.is) (behind_more a.names (map locals.Ghost a.ghosts) h)

-- fewer locals, though not fewer than the first scope has
behind_fewer : {s t : Scope} (xs : List (List ℕ)) (n : ℕ) → IsAligned s.locals → length (s.locals.names ++ xs) ≡ n → IsBehind s t → IsBehind s (left n t)
behind_fewer {s = s} xs n a e h = record {
  more_names = take (length xs) h.more_names;
  more_meanings = take (length xs) h.more_meanings;
  locals =
      (λ i. first_locals (h.locals i) (sym e i))
      ∙ (λ i. record { names = past s.locals.names xs s.locals.names h.more_names refl i; meanings = past s.locals.names xs s.locals.meanings h.more_meanings a i });
  rest = h.rest;
  beside = h.beside;
  names = h.names;
  declarations = h.declarations;
}

behind_left : {s t u : Scope} → IsAligned s.locals → IsBehind s t → IsBehind s u → IsBehind s (left (count t) u)
behind_left {t = t} a h k = behind_fewer h.more_names (count t) a (ap (λ (l : Locals). length l.names) (sym h.locals)) k

-- behind all of it the first locals alone are left
first_left : {s t : Scope} → IsOrderly s → IsBehind s t → first_locals t.locals (count s) ≡ s.locals
first_left {s = s} o h = ap (λ (l : Locals). first_locals l (count s)) h.locals ∙ (λ i. record { names = front s.locals.names s.locals.names h.more_names refl i; meanings = front s.locals.names s.locals.meanings h.more_meanings o.locals i })

pub unseen_left : {s t : Scope} (u : Scope) → IsOrderly s → IsBehind s t → u.locals ≡ first_locals t.locals (count s) → bare u ≡ bare t → u.names ≡ t.names → u.declarations ≡ t.declarations → IsUnseen s u
unseen_left {s = s} {t = t} u o h l b n d = unseen o (behind_too u (behind_fewer [] (count s) o.locals (ap length (append-nil s.locals.names)) h) l b n d) (l ∙ first_left o h)

-- ---- names of file level
pub behind_name : {s t : Scope} (x : List ℕ) (n file : ℕ) → IsBehind s t → IsBehind s (with_name t x (meanings.Ghost n) file)
behind_name {t = t} x n file h =
    let d : Declaration = record { meaning = meanings.Ghost n; files = file ∷ [] } in
    record {
      more_names = h.more_names;
      more_meanings = h.more_meanings;
      locals = h.locals;
      rest = h.rest;
      beside = one_beside t.names x t.declarations d h.beside;
      names = one_more_name t.names t.declarations x d h.beside refl ∙ h.names;
      declarations = one_more_declaration t.declarations d refl ∙ h.declarations;
    }

pub behind_again : {s t : Scope} (n file : ℕ) → IsGhostAt t.declarations n → IsBehind s t → IsBehind s (with_name_again t n file)
behind_again {t = t} n file g h = record {
  more_names = h.more_names;
  more_meanings = h.more_meanings;
  locals = h.locals;
  rest = h.rest;
  beside = h.beside ∙ sym (as_many_again file t.declarations n);
  names = names_again file t.names t.declarations n ∙ h.names;
  declarations = declarations_again file t.declarations n g ∙ h.declarations;
}

-- ---- a relation that is kept
-- wherever the first scope is behind a scope, the second is
abbrev pub Stays : Scope → Scope → Scope → Type 0
Stays s t u = IsBehind s t → IsBehind s u

pub stays_kept : (s : Scope) → IsAligned s.locals → IsKept (Stays s)
stays_kept s a = record {
  same = λ t h. h;
  both = λ f g h. g (f h);
  named = λ t b e h. behind_adding h (adds_bound t b e);
  one = λ t x u h. behind_adding h (adds_one t x (record { is_variable = true; sort = u }));
  gone = λ f h. behind_left a h (f h);
}
