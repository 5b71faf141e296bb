-- What is declared in the body of a fixpoint is so behind the whole unit, where the name of the fixpoint is the last of file level.
use Rattle.std.proofs.Common.{◌≡◌, refl, sym, subst, ◌∙◌, ap, ℕ, zero, suc, ◌+◌, ◌≤◌, Bool, true, false, if◌then◌else◌, List, [], ◌∷◌, ◌++◌, length, length-append, take, map, slice_get, is_some, Option, Some, None, arith}
use Rattle.std.proofs.lemmas.List.{length-map}
use Rattle.vf_names.specs.Names.{number_of}
use Rattle.vf_names.proofs.Numbering.{number_of-push}
use Rattle.vf_declared.specs.declared.declaration.Constructor.{Constructor}
use Rattle.vf_declared.specs.declared.declaration.Declaration.{Declaration}
use Rattle.vf_declared.specs.declared.declaration.Fixpoint.{Fixpoint}
use Rattle.vf_declared.specs.declared.declaration.GhostDeclaration.{GhostDeclaration}
use Rattle.vf_declared.specs.declared.declaration.GhostDeclaration.TheVariants as ghosts
use Rattle.vf_declared.specs.declared.declaration.Meaning.{Meaning}
use Rattle.vf_declared.specs.declared.declaration.Meaning.TheVariants as meanings
use Rattle.vf_declared.specs.declared.locals.Local.{Local}
use Rattle.vf_declared.specs.declared.locals.Locals.{Locals}
use Rattle.vf_declared.specs.declared.scope.Scope.{Scope}
use Rattle.vf_declared.specs.Beginning.{no_locals}
use Rattle.vf_declared.specs.Changes.{IsAligned}
use Rattle.vf_declared.specs.Scopes.{at_index, at_name, declaration_of, declared_in, ghost_of, local_of}
use Rattle.vf_syntax.specs.declared.item.GhostParameter.{GhostParameter}
use Rattle.vf_syntax.specs.declared.written.Name.{Name}
use Rattle.vf_sorting.specs.Schemes.{sort_of_local}
use Rattle.vf_binding.specs.Bound.{bound_local}
use Rattle.vf_asserting.specs.Cases.{datatype_in}
use Rattle.vf_defining.specs.Units.{within_fixpoint}
use Rattle.vf_defining.specs.UpTo.{through, up_to}
use Rattle.vf_erasure_laws.proofs.hidden.Coming.{none_some}
use Rattle.vf_fixpoint_laws.specs.definable.Preserved.{Preserves, PreservesDatatypes}
use Rattle.vf_fixpoint_laws.proofs.definable.Extending.{AreOf, Core, Front, Grows, IsBeside, IsSame, are_both, core, is_of, no_more, one_more}
use Rattle.vf_fixpoint_laws.proofs.definable.Ghosts.{IsHead}
use Rattle.vf_fixpoint_laws.proofs.definable.Lists.{get_below, get_front, number_front, one_beside, take_front}
use Rattle.vf_fixpoint_laws.proofs.definable.Naming.{Any}
use Rattle.vf_fixpoint_laws.proofs.definable.Parameters.{local_known}
use Rattle.vf_fixpoint_laws.proofs.definable.Seeing.{bare, declared_same, predicates_same}

some_same : {A : Type 0} {a b : A} → ◌≡◌ {A = Option A} (Some a) (Some b) → a ≡ b
some_same e = cc

get_end : {A : Type 0} (xs : List A) (x : A) → slice_get (xs ++ x ∷ []) (length xs) ≡ Some x
get_end [] x = refl
get_end (y ∷ xs) x = get_end xs x

-- ---- declarations at the same places
-- of as many declarations as stand in front each means the same from every file
front_means : (s : Scope) {ds es : List Declaration} → Front s ds es → (from j : ℕ) → declared_in s from (slice_get (take (length ds) es) j) ≡ declared_in s from (slice_get ds j)
front_means s no_more from j = refl
front_means s (one_more h hs) from zero = λ i. if h.files from i then Some (h.meaning i) else None
front_means s (one_more h hs) from (suc j) = front_means s hs from j

front_at : (s : Scope) {ds es : List Declaration} → Front s ds es → (from : ℕ) (o : Option ℕ) → declared_in s from (at_index (take (length ds) es) o) ≡ declared_in s from (at_index ds o)
front_at s h from None = refl
front_at s h from (Some j) = front_means s h from j

-- the declaration at the place of one in front
record IsThere (s : Scope) (d : Declaration) (es : List Declaration) (j : ℕ) : Type 0 where
  declaration : Declaration
  is : slice_get es j ≡ Some declaration
  same : IsSame s d declaration

front_there : (s : Scope) {ds es : List Declaration} → Front s ds es → (j : ℕ) (d : Declaration) → slice_get ds j ≡ Some d → IsThere s d es j
front_there s no_more j d e = absurd (none_some e)
front_there s (one_more {e = b} h hs) zero d e = record { declaration = b; is = refl; same = subst (λ c. IsSame s c b) (some_same e) h }
front_there s (one_more h hs) (suc j) d e = let r = front_there s hs j d e in record { declaration = r.declaration; is = r.is; same = r.same }

-- ---- behind a fixpoint, in front of its body
-- where a fixpoint stands no locals are declared, names stand beside declarations, and datatypes are complete
pub record IsBetween (s : Scope) : Type 0 where
  pub locals : s.locals ≡ no_locals
  pub beside : IsBeside (core s)
  pub whole : AreOf (length s.datatypes) s.ghosts

module _ (n : Name) (gs : List GhostParameter) (s u t : Scope) (m : ℕ) (b : IsBetween s) (h : IsHead n gs s u) (g : Grows m u t) where
  own_names : u.names ≡ s.names ++ n.text ∷ []
  own_names = ap (λ (c : Core). c.names) h.is

  as_many : length u.names ≡ suc (length s.names)
  as_many = ap length own_names ∙ (let e : length (s.names ++ n.text ∷ []) ≡ length s.names + 1 = length-append s.names (n.text ∷ []) in let k : length (s.names ++ n.text ∷ []) ≡ suc (length s.names) = omega (arith, e) in k)

  -- the number of its name behind the whole unit
  pub own_number : number_of t.names n.text ≡ Some (length s.names)
  own_number = ap (λ ns. number_of ns n.text) g.extends.names ∙ number_front u.names g.extends.more_names n.text (length s.names) (ap (λ ns. number_of ns n.text) own_names ∙ number_of-push s.names n.text h.new)

  up_to_itself : through (number_of t.names n.text) ≡ length u.names
  up_to_itself = ap through own_number ∙ sym as_many

  names_up_to : take (through (number_of t.names n.text)) t.names ≡ u.names
  names_up_to = (λ i. take (up_to_itself i) (g.extends.names i)) ∙ take_front u.names g.extends.more_names

  abbrev own_declaration : Declaration
  own_declaration = record { meaning = meanings.Ghost (length s.ghosts); files = n.place.file ∷ [] }

  own_declarations : u.declarations ≡ s.declarations ++ own_declaration ∷ []
  own_declarations = ap (λ (c : Core). c.declarations) h.is

  beside : length u.names ≡ length u.declarations
  beside = ap length own_names ∙ (one_beside s.names n.text s.declarations own_declaration b.beside ∙ ap length (sym own_declarations))

  -- the scope of its body with the names that are declared up to it
  abbrev shorter : Scope
  shorter = within_fixpoint (up_to n t) gs h.fixpoint.arguments

  frame_same : bare t ≡ bare u
  frame_same = g.extends.frame

  -- names that are declared up to it
  shorter_means : (x : List ℕ) (from : ℕ) → declaration_of shorter x from ≡ declaration_of u x from
  shorter_means x from =
      declared_same u shorter from (at_name shorter.names shorter.declarations x) frame_same
      ∙ (ap (λ ns. declared_in u from (at_name ns shorter.declarations x)) names_up_to
      ∙ (ap (λ k. declared_in u from (at_index (take k t.declarations) (number_of u.names x))) (up_to_itself ∙ beside)
      ∙ (sym (declared_same u (bare u) from (at_index (take (length u.declarations) t.declarations) (number_of u.names x)) refl)
      ∙ (front_at (bare u) g.extends.declarations from (number_of u.names x)
      ∙ declared_same u (bare u) from (at_name u.names u.declarations x) refl))))

  locals_same : shorter.locals ≡ u.locals
  locals_same =
      let names : map (λ (g : GhostParameter). g.name.text) gs ≡ u.locals.names = sym (h.locals ∙ ap (λ (l : Locals). l.names ++ map (λ (g : GhostParameter). g.name.text) gs) b.locals) in
      let sorts : map bound_local h.fixpoint.arguments ≡ u.locals.meanings = sym (h.sorts ∙ ap (λ (l : Locals). l.meanings ++ map bound_local h.fixpoint.arguments) b.locals) in
      λ i. record { names = names i; meanings = sorts i }

  own_locals : u.locals.names ≡ map (λ (g : GhostParameter). g.name.text) gs
  own_locals = h.locals ∙ ap (λ (l : Locals). l.names ++ map (λ (g : GhostParameter). g.name.text) gs) b.locals

  aligned : IsAligned u.locals
  aligned =
      let names : length u.locals.names ≡ length gs = ap length own_locals ∙ length-map gs (λ (g : GhostParameter). g.name.text) in
      let sorts : length u.locals.meanings ≡ length h.fixpoint.arguments = ap length (h.sorts ∙ ap (λ (l : Locals). l.meanings ++ map bound_local h.fixpoint.arguments) b.locals) ∙ length-map h.fixpoint.arguments bound_local in
      names ∙ (h.as_many ∙ sym sorts)

  own_ghosts : u.ghosts ≡ s.ghosts ++ ghosts.Fixpoint h.fixpoint ∷ []
  own_ghosts = ap (λ (c : Core). c.ghosts) h.is

  own_datatypes : u.datatypes ≡ s.datatypes
  own_datatypes = ap (λ (c : Core). c.datatypes) h.is

  whole : AreOf (length s.datatypes) u.ghosts
  whole = subst (AreOf (length s.datatypes)) (sym own_ghosts) (are_both (length s.datatypes) s.ghosts (ghosts.Fixpoint h.fixpoint ∷ []) b.whole (tt, tt))

  datatype_same : (d : ℕ) → suc d ≤ length s.datatypes → slice_get t.datatypes d ≡ slice_get u.datatypes d
  datatype_same d l = ap (λ ds. slice_get ds d) g.extends.datatypes ∙ get_below u.datatypes g.extends.more_datatypes d (subst (λ k. suc d ≤ k) (sym (ap length own_datatypes)) l)

  stdlib_same : t.has_stdlib ≡ u.has_stdlib
  stdlib_same = ap (λ (f : Scope). f.has_stdlib) frame_same

  ghosts_kept : (k : ℕ) (d : GhostDeclaration) → slice_get u.ghosts k ≡ Some d → slice_get t.ghosts k ≡ Some d
  ghosts_kept k d e = ap (λ gs. slice_get gs k) g.extends.ghosts ∙ get_front u.ghosts g.extends.more_ghosts k d e

  constructors_kept : (k : ℕ) (c : Constructor) → slice_get u.ghosts k ≡ Some (ghosts.Constructor c) → slice_get t.datatypes c.datatype ≡ slice_get u.datatypes c.datatype
  constructors_kept k c e = datatype_same c.datatype (is_of (length s.datatypes) u.ghosts k (ghosts.Constructor c) whole e)

  -- what is declared in its body is so with the names that are declared up to it
  pub shorter_preserves : Preserves Any u shorter
  shorter_preserves = record {
    locals = locals_same;
    aligned = aligned;
    has_stdlib = stdlib_same;
    names = λ x from a. shorter_means x from;
    predicates = λ x from a. predicates_same u shorter x from frame_same (ap (λ ns. is_some (number_of ns x)) names_up_to);
    function_types = λ x from k e. shorter_means x from ∙ e;
    annotations = ghosts_kept;
    constructors = constructors_kept;
  }

  of_local : (o : Option ℕ) (l : Local) (d : ℕ) → at_index (map bound_local h.fixpoint.arguments) o ≡ Some l → datatype_in (sort_of_local l) ≡ Some d → slice_get t.datatypes d ≡ slice_get u.datatypes d
  of_local None l d e f = absurd (none_some e)
  of_local (Some j) l d e f = let r = local_known s.ghosts h.fixpoint.arguments j l h.known e d f in datatype_same d (is_of (length s.datatypes) s.ghosts r.0 (ghosts.Datatype d) b.whole r.1)

  local_datatypes : (x : List ℕ) (l : Local) (d : ℕ) → local_of u x ≡ Some l → datatype_in (sort_of_local l) ≡ Some d → slice_get t.datatypes d ≡ slice_get u.datatypes d
  local_datatypes x l d e f = of_local (number_of u.locals.names x) l d (ap (λ ls. at_index ls (number_of u.locals.names x)) (sym (h.sorts ∙ ap (λ (l : Locals). l.meanings ++ map bound_local h.fixpoint.arguments) b.locals)) ∙ e) f

  pub shorter_datatypes : PreservesDatatypes u shorter
  shorter_datatypes = record { same = local_datatypes }

  -- its number and its declaration are the same
  pub own_ghost : ghost_of u (length s.ghosts) ≡ Some (ghosts.Fixpoint h.fixpoint)
  own_ghost = ap (λ gs. slice_get gs (length s.ghosts)) own_ghosts ∙ get_end s.ghosts (ghosts.Fixpoint h.fixpoint)

  ghost_behind : ghost_of t (length s.ghosts) ≡ Some (ghosts.Fixpoint h.fixpoint)
  ghost_behind = ap (λ gs. slice_get gs (length s.ghosts)) g.extends.ghosts ∙ get_front u.ghosts g.extends.more_ghosts (length s.ghosts) (ghosts.Fixpoint h.fixpoint) own_ghost

  there : IsThere (bare u) own_declaration t.declarations (length s.names)
  there = front_there (bare u) g.extends.declarations (length s.names) own_declaration (ap (λ ds. slice_get ds (length s.names)) own_declarations ∙ (ap (slice_get (s.declarations ++ own_declaration ∷ [])) b.beside ∙ get_end s.declarations own_declaration))

  meant : (c : Bool) (d : Meaning) (k : ℕ) → (if c then Some d else None) ≡ Some (meanings.Ghost k) → d ≡ meanings.Ghost k
  meant true d k e = some_same e
  meant false d k e = absurd (none_some e)

  one_number : (k : ℕ) → declaration_of t n.text n.place.file ≡ Some (meanings.Ghost k) → length s.ghosts ≡ k
  one_number k e = same (sym there.same.meaning ∙ meant _ there.declaration.meaning k (sym (ap (declared_in t n.place.file) (ap (at_index t.declarations) own_number ∙ there.is)) ∙ e))
    where
      same : {i j : ℕ} → meanings.Ghost i ≡ meanings.Ghost j → i ≡ j
      same e = cc

  one_fixpoint : (f : Fixpoint) → ghost_of t (length s.ghosts) ≡ Some (ghosts.Fixpoint f) → h.fixpoint ≡ f
  one_fixpoint f e = same (sym ghost_behind ∙ e)
    where
      same : {f g : Fixpoint} → ◌≡◌ {A = Option GhostDeclaration} (Some (ghosts.Fixpoint f)) (Some (ghosts.Fixpoint g)) → f ≡ g
      same e = cc

  pub is_itself : (k : ℕ) (f : Fixpoint) → declaration_of t n.text n.place.file ≡ Some (meanings.Ghost k) → ghost_of t k ≡ Some (ghosts.Fixpoint f) → (length s.ghosts ≡ k) × (h.fixpoint ≡ f)
  is_itself k f e i = let o = one_number k e in (o, one_fixpoint f (ap (ghost_of t) o ∙ i))
