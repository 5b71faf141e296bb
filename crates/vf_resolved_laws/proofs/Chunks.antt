-- Cells and chunks have the sorts that they take.
use Rattle.std.proofs.Common.{◌≡◌, ℕ, ◌+◌, Bool, true, false, List, [], ◌∷◌, length, Option, Some, None, refl, sym, subst, ap, ◌∙◌}
use Rattle.std.specs.Prelude.{if◌then◌else◌, ◌&&◌, not, map, drop, slice_get, nat_eq, codes, is_some}
use Rattle.std.specs.List.{starts_with}
use Rattle.vf_base.specs.declared.int_type.IntType.TheVariants as integers
use Rattle.vf_base.specs.declared.place.Place.{Place}
use Rattle.vf_tree.specs.Core.{Identity}
use Rattle.vf_names.specs.Names.{number_of}
use Rattle.vf_meaning.specs.Ghost.{Name}
use Rattle.vf_closure.specs.Terms.{Term}
use Rattle.vf_sorts.specs.declared.sort.Head.{Head}
use Rattle.vf_sorts.specs.declared.sort.Head.TheVariants as heads
use Rattle.vf_sorts.specs.Sorts.{Sort, Sorts, sort, no_sorts, and_sort}
use Rattle.vf_sorts.specs.Pairs.{head_of}
use Rattle.vf_sorts.specs.Unknowns.{AgreesAsTold, Filling, Known, filled, filled_all, instance, leaf, settling}
use Rattle.vf_declared.specs.declared.ctype.CType.{CType}
use Rattle.vf_declared.specs.declared.ctype.CType.TheVariants as types
use Rattle.vf_declared.specs.declared.declaration.Declaration.{Declaration}
use Rattle.vf_declared.specs.declared.declaration.Family.{Family}
use Rattle.vf_declared.specs.declared.declaration.GhostDeclaration.{GhostDeclaration}
use Rattle.vf_declared.specs.declared.declaration.GhostDeclaration.TheVariants as ghosts
use Rattle.vf_declared.specs.declared.declaration.Meaning.{Meaning}
use Rattle.vf_declared.specs.declared.declaration.Meaning.TheVariants as meanings
use Rattle.vf_declared.specs.declared.locals.Local.{Local}
use Rattle.vf_declared.specs.Scopes.{at_index, at_name, declaration_of, declared_in, ghost_of, is_later_predicate, is_visible, later_predicate, tag_of}
use Rattle.vf_syntax.specs.declared.pattern.Pattern.{Pattern}
use Rattle.vf_syntax.specs.declared.pattern.Pattern.TheVariants as patterns
use Rattle.vf_syntax.specs.declared.pattern.Share.{Share}
use Rattle.vf_syntax.specs.declared.written.Name as written
use Rattle.vf_syntax.specs.Assertions.{are_value_patterns}
use Rattle.vf_syntax.specs.GhostExprTree.{GhostExprTree, ghost_expr_list}
use Rattle.vf_sorting.specs.HasSort.{HasSort, Passes}
use Rattle.vf_sorting.specs.Kinds.{bool_sort, is_pointer, is_predicate, pointer_sort, resolved}
use Rattle.vf_sorting.specs.Schemes.{application_scheme, is_predicate_local, sort_of_local, sort_of_type}
use Rattle.vf_sorting.specs.declared.scheme.Scheme.{Scheme}
use Rattle.vf_binding.specs.declared.bound.Bound.{Bound}
use Rattle.vf_binding.specs.declared.chunk_sorts.ChunkSorts.{ChunkSorts}
use Rattle.vf_binding.specs.Chunks.{ArgumentsBind, CellBinds, ChunkBinds, TruthPasses, application_of, block_takes, chunk_takes, declared_takes, first_of, ghost_takes, is_plain, later_takes, local_takes, pointed_field, sorts_of, told_struct, value_takes, values_of, with_arguments, with_heads}
use Rattle.vf_binding.specs.Chunks as binding
use Rattle.vf_binding.specs.Patterns.{Binds}
use Rattle.vf_terms.specs.Settings.{Setting, settled}
use Rattle.vf_terms.specs.Named.{declaration_seen, files_or_none, identity_of, local_term, name_term, scheme_or_int, seen_from}
use Rattle.vf_terms.specs.Readings.{applied_at, in_front, read, read_all}
use Rattle.vf_terms.specs.declared.reading.Reading.{Reading}
use Rattle.vf_resolved.specs.AssertionTree as parts
use Rattle.vf_resolved.specs.declared.pattern.Argument.{Argument}
use Rattle.vf_resolved.specs.declared.pattern.Share as resolved_shares
use Rattle.vf_resolved_parts.specs.declared.heads.Form.{Form}
use Rattle.vf_resolved_parts.specs.declared.heads.Form.TheVariants as forms
use Rattle.vf_resolved_parts.specs.declared.progress.Progress.{Progress}
use Rattle.vf_resolved_parts.specs.Heads.{block_form, cell_field, content_sort, declared_form, field_type, fields_of, form_of, ghost_form, head_for, integer_in, meant_form, place_in, struct_identity, undeclared_form}
use Rattle.vf_resolved_parts.specs.Parts.{cell_read, chunk_of, chunk_read, pairs_read, pointer_read, taken_read, truth_of}
use Rattle.vf_resolved_parts.specs.Patterns.{application_read, arguments_read, pattern_read, values_read}
use Rattle.vf_resolved_parts.specs.Shares.{share_read}
use Rattle.vf_resolved_laws.specs.Given.{GivesSorts}
use Rattle.vf_resolved_laws.specs.Heads.{Declares}
use Rattle.vf_resolved_laws.specs.Laws.{CellsKeepSorts, ChunksKeepSorts, PartFollows, PatternFollows, progress_at}
use Rattle.vf_resolved_laws.specs.Parts.{ChunkIsDecided, ChunkTakes, IsDecided, LaterHaveSorts, block, cell, chunk, constructor, family, later, predicate, pure, value}
use Rattle.vf_resolved_laws.specs.Patterns.{AllHaveSorts, ArgumentHasSort, NamesHaveSorts, PatternHasSort, ShareHasSort}
use Rattle.vf_resolved_laws.specs.Terms.{TermHasSort}
use Rattle.vf_resolved_laws.proofs.Before.{before, before_pass, told_first}
use Rattle.vf_resolved_laws.proofs.Binding.{before_all, before_binds, before_heads, fewer_all, fewer_binds, pattern_has, patterns_have, share_has, values_have}
use Rattle.vf_resolved_laws.proofs.Naming.{D}
use Rattle.vf_resolved_laws.proofs.Operating.{second_of}
use Rattle.vf_resolved_laws.proofs.Pointers.{has_told}
use Rattle.vf_resolved_laws.proofs.Reading.{IsRead, has_read, no_and_yes, nothing_wanted, passes_read}
use Rattle.vf_resolved_laws.proofs.Sorting.{pointers_one}
use Rattle.vf_resolved_laws.specs.Terms as laws

-- ---- sorts
-- the sort of a type of C is known
type_settled : (s : Setting) (u : CType) → settled s (sort_of_type u) ≡ sort_of_type u
type_settled s (types.Integer integers.Bool) = refl
type_settled s (types.Integer integers.Char) = refl
type_settled s (types.Integer integers.UChar) = refl
type_settled s (types.Integer integers.Short) = refl
type_settled s (types.Integer integers.UShort) = refl
type_settled s (types.Integer integers.Int) = refl
type_settled s (types.Integer integers.UInt) = refl
type_settled s (types.Integer integers.Long) = refl
type_settled s (types.Integer integers.ULong) = refl
type_settled s (types.Integer integers.LongLong) = refl
type_settled s (types.Integer integers.ULongLong) = refl
type_settled s types.Void = refl
type_settled s types.VoidPointer = refl
type_settled s types.IntPointer = refl
type_settled s (types.StructPointer n) = refl
type_settled s (types.FunctionPointer n) = refl
type_settled s (types.Function n) = refl

-- what a pointer tells is in the head of its sort
told_bare : (h : Head) (ts : Sorts) → told_struct (sort h ts) ≡ told_struct (leaf h)
told_bare heads.Int ts = refl
told_bare heads.Bool ts = refl
told_bare (heads.Pointer w) ts = refl
told_bare heads.Real ts = refl
told_bare heads.Any ts = refl
told_bare (heads.Parameter i) ts = refl
told_bare (heads.Unknown u) ts = refl
told_bare (heads.Datatype d) ts = refl
told_bare heads.Predicate ts = refl

told_alike : (t u : Sort) → head_of t ≡ head_of u → told_struct t ≡ told_struct u
told_alike (sort h ts) (sort g us) e = told_bare h ts ∙ ap (λ (k : Head). told_struct (leaf k)) e ∙ sym (told_bare g us)

told_filled : (f : Filling) (t : Sort) (n : ℕ) → told_struct t ≡ Some n → told_struct (filled f t) ≡ Some n
told_filled f (sort heads.Int ts) n e = absurd cc
told_filled f (sort heads.Bool ts) n e = absurd cc
told_filled f (sort (heads.Pointer w) ts) n e = e
told_filled f (sort heads.Real ts) n e = absurd cc
told_filled f (sort heads.Any ts) n e = absurd cc
told_filled f (sort (heads.Parameter i) ts) n e = absurd cc
told_filled f (sort (heads.Unknown u) ts) n e = absurd cc
told_filled f (sort (heads.Datatype d) ts) n e = absurd cc
told_filled f (sort heads.Predicate ts) n e = absurd cc

told_pointer : (t : Sort) (n : ℕ) → told_struct t ≡ Some n → is_pointer t ≡ true
told_pointer (sort heads.Int ts) n e = absurd cc
told_pointer (sort heads.Bool ts) n e = absurd cc
told_pointer (sort (heads.Pointer w) ts) n e = refl
told_pointer (sort heads.Real ts) n e = absurd cc
told_pointer (sort heads.Any ts) n e = absurd cc
told_pointer (sort (heads.Parameter i) ts) n e = absurd cc
told_pointer (sort (heads.Unknown u) ts) n e = absurd cc
told_pointer (sort (heads.Datatype d) ts) n e = absurd cc
told_pointer (sort heads.Predicate ts) n e = absurd cc

-- a sort takes nothing where it is none of predicates
takes_nothing : (t : Sort) → value_takes t ≡ None → is_predicate t ≡ false
takes_nothing (sort heads.Int ts) e = refl
takes_nothing (sort heads.Bool ts) e = refl
takes_nothing (sort (heads.Pointer w) ts) e = refl
takes_nothing (sort heads.Real ts) e = refl
takes_nothing (sort heads.Any ts) e = refl
takes_nothing (sort (heads.Parameter i) ts) e = refl
takes_nothing (sort (heads.Unknown u) ts) e = refl
takes_nothing (sort (heads.Datatype d) ts) e = refl
takes_nothing (sort heads.Predicate ts) e = absurd cc

takes_something : (t : Sort) (v : ChunkSorts) → value_takes t ≡ Some v → is_predicate t ≡ true
takes_something (sort heads.Int ts) v e = absurd cc
takes_something (sort heads.Bool ts) v e = absurd cc
takes_something (sort (heads.Pointer w) ts) v e = absurd cc
takes_something (sort heads.Real ts) v e = absurd cc
takes_something (sort heads.Any ts) v e = absurd cc
takes_something (sort (heads.Parameter i) ts) v e = absurd cc
takes_something (sort (heads.Unknown u) ts) v e = absurd cc
takes_something (sort (heads.Datatype d) ts) v e = absurd cc
takes_something (sort heads.Predicate ts) v e = refl

filled_parts : (f : Filling) (ts : Sorts) → sorts_of (filled_all f ts) ≡ map (filled f) (sorts_of ts)
filled_parts f no_sorts = refl
filled_parts f (and_sort t ts) = ap (λ (us : List Sort). filled f t ∷ us) (filled_parts f ts)

-- something takes these sorts
abbrev may_take : ChunkSorts → Option ChunkSorts
may_take t = Some t

same_sorts : {t u : ChunkSorts} → may_take t ≡ may_take u → t ≡ u
same_sorts e = cc

module _ (s : Setting) (names : Name → Sort) (m : ℕ) (gives : GivesSorts (D s names) s) where
  abbrev Agrees : Known → Type 0
  Agrees k = AgreesAsTold (settling s.known) k

  abbrev Named : Bound → Type 0
  Named b = NamesHaveSorts (D s names) s m b

  -- ---- cells
  -- a cell whose share is read
  pointer_has : {k₁ k₂ k' : Known} {b₁ b' : Bound} {e : GhostExprTree} {t : Sort} {n : ℕ} {u : CType} {x : Pattern} (f : written.Name) (p : Place) (h : Option resolved_shares.Share) → (Named b' → ShareHasSort (D s names) h)
      → HasSort s.scope s.context k₁ e t k₂ → told_struct (resolved k₂ t) ≡ Some n → pointed_field s.scope n f ≡ Some u → Binds s.scope s.context k₂ b₁ (sort_of_type u) x k' b' → Agrees k'
      → PartFollows (D s names) s m (pointer_read s m p e f x (record { share = h; progress = progress_at b₁ k₁ })) k' b'
  pointer_has {k₁} {k₂} {k'} {b₁} {b'} {e} {t} {n} {u} {x} f p h is sorted told field content a =
      subst (λ o. At o (read s false (length k₁) e).next) (sym told_is) (subst (At (Some n)) (sym r.0) (subst With (sym field) there))
    where
      after : Agrees k₂
      after = before_binds s names m gives content a

      r : IsRead s names gives (read s false (length k₁) e) t k₂
      r = has_read s names gives false sorted after (nothing_wanted s names gives t) (length k₁) refl

      known_told : told_struct (settled s t) ≡ Some n
      known_told = ap told_struct (sym (told_first (settling s.known) k₂ t after)) ∙ told_filled (settling s.known) (resolved k₂ t) n told

      told_is : told_struct (read s false (length k₁) e).sort ≡ Some n
      told_is = told_alike (read s false (length k₁) e).sort (settled s t) (has_told s names gives sorted after (length k₁) refl (told_pointer (settled s t) n known_told)) ∙ known_told

      -- the struct that is told, and the first number of unknown sorts behind the pointer
      At : Option ℕ → ℕ → Type 0
      At o nx = PartFollows (D s names) s m (record {
        part = parts.cell p h (read s false (length k₁) e).term (cell_field s o f) (pattern_read s m (content_sort (field_type s o f)) (record { bound = b₁; next = nx }) x).pattern;
        progress = (pattern_read s m (content_sort (field_type s o f)) (record { bound = b₁; next = nx }) x).progress;
      }) k' b'

      -- the type of the field
      With : Option CType → Type 0
      With v = PartFollows (D s names) s m (record {
        part = parts.cell p h (read s false (length k₁) e).term (record { structure = struct_identity s n; index = place_in f.text (fields_of s.scope n); integer = integer_in v }) (pattern_read s m (content_sort v) (progress_at b₁ k₂) x).pattern;
        progress = (pattern_read s m (content_sort v) (progress_at b₁ k₂) x).progress;
      }) k' b'

      y : PatternFollows (D s names) s m (pattern_read s m (sort_of_type u) (progress_at b₁ k₂) x) (sort_of_type u) k' b'
      y = pattern_has s names m gives content a

      there : With (Some u)
      there = record {
        progress = y.progress;
        has_sorts = λ named. cell {u = u} (is named) (laws.as_one r.2 (pointers_one (settled s t) pointer_sort (told_pointer (settled s t) n known_told) refl)) (record { number = n; name = f; stands = field; is = refl }) (subst (PatternHasSort (D s names) (pattern_read s m (sort_of_type u) (progress_at b₁ k₂) x).pattern) (type_settled s u) (y.has_sort named));
      }

  cell_has : {k k' : Known} {b b' : Bound} {h : Option Share} {e : GhostExprTree} {f : written.Name} {x : Pattern} (p : Place) → CellBinds s.scope s.context k b h e f x k' b' → Agrees k' → PartFollows (D s names) s m (cell_read s m (progress_at b k) p h e f x) k' b'
  cell_has {k} {k'} {b} {b'} {h} {e} {f} {x} p (binding.CellBinds.cell {k₁} {k₂} {b₁} share sorted told field content) a =
      let after = before_binds s names m gives content a in
      let y = share_has s names m gives share (before s.scope s.context (settling s.known) sorted after) in
      subst (λ (g : Progress). PartFollows (D s names) s m (pointer_read s m p e f x (record { share = (share_read s m (progress_at b k) h).share; progress = g })) k' b') (sym y.progress)
      (pointer_has f p (share_read s m (progress_at b k) h).share (λ named. y.has_sort (fewer_binds s names m gives content named)) sorted told field content a)

  -- ---- what chunks are of
  -- values have the sorts of the first of two pairs of parentheses, where there are two
  abbrev HeadsHave : Option (List Sort) → List Argument → Type 0
  HeadsHave None xs = Unit {0}
  HeadsHave (Some hs) xs = AllHaveSorts (ArgumentHasSort (D s names)) xs (map (settled s) hs)

  -- what a name is in front of parentheses takes arguments of some sorts
  abbrev Fits : Form → ChunkSorts → Type 0
  Fits g t = (xs : List Argument) → HeadsHave t.heads xs → ChunkTakes (D s names) (head_for g xs) (map (settled s) t.arguments)

  family_fits : (c : Identity) (n : ℕ) (k : Family) → Declares (D s names) c n (ghosts.Family k) → (xs : List Argument) → AllHaveSorts (ArgumentHasSort (D s names)) xs (settled s k.index ∷ []) → ChunkTakes (D s names) (head_for (forms.Family c) xs) (map (settled s) k.arguments)
  family_fits c n k is [] have = absurd have
  family_fits c n k is (x ∷ xs) have = family is (settling s.known) have.0

  module _ (x : List ℕ) (from : ℕ) (laters : LaterHaveSorts s.scope) (t : ChunkSorts) where
    ghost_fits : (c : Identity) (n : ℕ) (o : Option GhostDeclaration) → ((d : GhostDeclaration) → o ≡ Some d → Declares (D s names) c n d) → ghost_takes o ≡ Some t → Fits (ghost_form c o) t
    ghost_fits c n (Some (ghosts.Predicate ts)) is e = subst (Fits (forms.Predicate c)) (same_sorts e) (λ xs have. predicate (is (ghosts.Predicate ts) refl) (settling s.known))
    ghost_fits c n (Some (ghosts.Family k)) is e = subst (Fits (forms.Family c)) (same_sorts e) (family_fits c n k (is (ghosts.Family k) refl))
    ghost_fits c n (Some (ghosts.PredicateConstructor k)) is e = subst (Fits (forms.Constructor c)) (same_sorts e) (λ xs have. constructor (is (ghosts.PredicateConstructor k) refl) (settling s.known) have)
    ghost_fits c n (Some (ghosts.Constructor k)) is e = absurd cc
    ghost_fits c n (Some (ghosts.Fixpoint f)) is e = absurd cc
    ghost_fits c n (Some (ghosts.Datatype d)) is e = absurd cc
    ghost_fits c n (Some (ghosts.Lemma l)) is e = absurd cc
    ghost_fits c n None is e = absurd cc

    meaning_fits : (d : Declaration) → at_name s.scope.names s.scope.declarations x ≡ Some d → (k : Meaning) → d.meaning ≡ k → declared_takes s.scope x from (Some k) ≡ Some t → Fits (meant_form s x d.files k) t
    meaning_fits d found (meanings.Ghost n) means e =
        ghost_fits (identity_of s.paths d.files x) n (ghost_of s.scope n) (λ o is. record { named = record { name = x; declaration = d; found = found; means = means; is = refl }; stands = is }) e
    meaning_fits d found (meanings.Function n) means e = absurd cc
    meaning_fits d found (meanings.FunctionType n) means e = absurd cc

    block_fits : (b : Bool) (o : Option ℕ) → (if b && is_some o then Some (with_arguments (pointer_sort ∷ [])) else None) ≡ Some t → Fits (if b then block_form s o else forms.Other) t
    block_fits true (Some k) e = subst (Fits (forms.Block (struct_identity s k))) (same_sorts e) (λ xs have. block k)
    block_fits true None e = absurd cc
    block_fits false o e = absurd cc

    later_fits : (o : Option (List Sort)) → later_predicate s.scope x from ≡ o → (b : Bool) → is_later_predicate s.scope x from ≡ b → later_takes s.scope x from o ≡ Some t
        → Fits (if b then forms.Predicate (identity_of s.paths (files_or_none (at_name s.scope.predicates s.scope.predicate_files x)) x) else undeclared_form s x from) t
    later_fits (Some ts) stands true is e = subst (Fits (forms.Predicate (identity_of s.paths (files_or_none (at_name s.scope.predicates s.scope.predicate_files x)) x))) (same_sorts e) (λ xs have. later x from stands refl (settling s.known))
    later_fits (Some ts) stands false is e = absurd (let q : None ≡ Some ts = ap (λ b. if b then at_name s.scope.predicates s.scope.predicate_sorts x else None) (sym is) ∙ stands in cc)
    later_fits None stands true is e = no_and_yes (is_later_predicate s.scope x from) (laters x from stands) is
    later_fits None stands false is e = block_fits (starts_with nat_eq x (codes "malloc_block_")) (tag_of s.scope (drop 13 x) from) e

    visible_fits : (d : Declaration) → at_name s.scope.names s.scope.declarations x ≡ Some d → (b : Bool) → declared_takes s.scope x from (if b then Some d.meaning else None) ≡ Some t → Fits (declared_form s x from (if b then Some d else None)) t
    visible_fits d found true e = meaning_fits d found d.meaning refl e
    visible_fits d found false e = later_fits (later_predicate s.scope x from) refl (is_later_predicate s.scope x from) refl e

    found_fits : (o : Option Declaration) → at_name s.scope.names s.scope.declarations x ≡ o → declared_takes s.scope x from (declared_in s.scope from o) ≡ Some t → Fits (declared_form s x from (seen_from s.scope from o)) t
    found_fits (Some d) found e = visible_fits d found (is_visible s.scope from d.files) e
    found_fits None found e = later_fits (later_predicate s.scope x from) refl (is_later_predicate s.scope x from) refl e

    declared_fits : declared_takes s.scope x from (declaration_of s.scope x from) ≡ Some t → Fits (declared_form s x from (declaration_seen s.scope x from)) t
    declared_fits e = found_fits (at_name s.scope.names s.scope.declarations x) refl e

    -- ---- a local
    module _ (k : Known) (agrees : Agrees k) where
      abbrev Taken : Option ChunkSorts → Type 0
      Taken o = first_of o (declared_takes s.scope x from (declaration_of s.scope x from)) ≡ Some t

      -- a local with a term, whose sort is resolved as far as it is known there and in the end
      sorted_fits : (z : Term) (l r q : Sort) → TermHasSort (D s names) z (settled s l) → resolved k l ≡ q → value_takes r ≡ value_takes q → Taken (value_takes q)
          → Fits (if is_predicate r then forms.Value z else declared_form s x from (declaration_seen s.scope x from)) t
      sorted_fits z l r (sort heads.Int ts) has is same e = subst (λ b. Fits (if b then forms.Value z else declared_form s x from (declaration_seen s.scope x from)) t) (sym (takes_nothing r same)) (declared_fits e)
      sorted_fits z l r (sort heads.Bool ts) has is same e = subst (λ b. Fits (if b then forms.Value z else declared_form s x from (declaration_seen s.scope x from)) t) (sym (takes_nothing r same)) (declared_fits e)
      sorted_fits z l r (sort (heads.Pointer w) ts) has is same e = subst (λ b. Fits (if b then forms.Value z else declared_form s x from (declaration_seen s.scope x from)) t) (sym (takes_nothing r same)) (declared_fits e)
      sorted_fits z l r (sort heads.Real ts) has is same e = subst (λ b. Fits (if b then forms.Value z else declared_form s x from (declaration_seen s.scope x from)) t) (sym (takes_nothing r same)) (declared_fits e)
      sorted_fits z l r (sort heads.Any ts) has is same e = subst (λ b. Fits (if b then forms.Value z else declared_form s x from (declaration_seen s.scope x from)) t) (sym (takes_nothing r same)) (declared_fits e)
      sorted_fits z l r (sort (heads.Parameter i) ts) has is same e = subst (λ b. Fits (if b then forms.Value z else declared_form s x from (declaration_seen s.scope x from)) t) (sym (takes_nothing r same)) (declared_fits e)
      sorted_fits z l r (sort (heads.Unknown u) ts) has is same e = subst (λ b. Fits (if b then forms.Value z else declared_form s x from (declaration_seen s.scope x from)) t) (sym (takes_nothing r same)) (declared_fits e)
      sorted_fits z l r (sort (heads.Datatype d) ts) has is same e = subst (λ b. Fits (if b then forms.Value z else declared_form s x from (declaration_seen s.scope x from)) t) (sym (takes_nothing r same)) (declared_fits e)
      sorted_fits z l r (sort heads.Predicate ts) has is same e =
          subst (λ b. Fits (if b then forms.Value z else declared_form s x from (declaration_seen s.scope x from)) t) (sym (takes_something r (with_arguments (sorts_of ts)) same))
          (subst (Fits (forms.Value z)) (same_sorts e)
          (λ xs have. subst (ChunkTakes (D s names) (head_for (forms.Value z) xs)) (filled_parts (settling s.known) ts) (value (subst (TermHasSort (D s names) z) (sym (told_first (settling s.known) k l agrees) ∙ ap (filled (settling s.known)) is) has))))

      local_fits : (n : ℕ) (o : Option Local) → slice_get s.scope.locals.meanings n ≡ o → local_takes s.known o ≡ local_takes k o → Taken (local_takes k o)
          → Fits (if is_predicate_local s.known o then forms.Value (local_term (slice_get s.locals n)) else declared_form s x from (declaration_seen s.scope x from)) t
      local_fits n (Some l) there same e = sorted_fits (local_term (slice_get s.locals n)) (sort_of_local l) (resolved s.known (sort_of_local l)) (resolved k (sort_of_local l)) (gives.locals n l there) refl same e
      local_fits n None there same e = declared_fits e

      named_fits : (o : Option ℕ) → local_takes s.known (at_index s.scope.locals.meanings o) ≡ local_takes k (at_index s.scope.locals.meanings o) → Taken (local_takes k (at_index s.scope.locals.meanings o))
          → Fits (if is_predicate_local s.known (at_index s.scope.locals.meanings o) then forms.Value (name_term s x from o) else declared_form s x from (declaration_seen s.scope x from)) t
      named_fits (Some n) same e = local_fits n (slice_get s.scope.locals.meanings n) refl same e
      named_fits None same e = declared_fits e

  form_fits : (n : written.Name) → LaterHaveSorts s.scope → (t : ChunkSorts) (k : Known) → Agrees k → IsDecided s.scope k s.known n → chunk_takes s.scope k n ≡ Some t → Fits (form_of s n) t
  form_fits n laters t k agrees same e = named_fits n.text n.place.file laters t k agrees (number_of s.scope.locals.names n.text) same e

  -- ---- applications
  -- expressions as values that bind nothing are read as arguments are
  values_alike : (first n : ℕ) (ts : List Sort) (u : ℕ) (xs : List Pattern) → are_value_patterns xs ≡ true → values_read s (map (instance first n) ts) u xs ≡ read_all s first n ts u (ghost_expr_list (values_of xs))
  values_alike first n [] u xs e = refl
  values_alike first n (t ∷ ts) u [] e = refl
  values_alike first n (t ∷ ts) u (patterns.Is a ∷ xs) e = ap (in_front (read s (is_pointer (settled s (instance first n t))) u a)) (values_alike first n ts (read s (is_pointer (settled s (instance first n t))) u a).next xs e)
  values_alike first n (t ∷ ts) u (patterns.Binds p x ∷ xs) e = absurd cc
  values_alike first n (t ∷ ts) u (patterns.Wild p ∷ xs) e = absurd cc

  application_alike : (n : written.Name) (u : ℕ) (xs : List Pattern) → are_value_patterns xs ≡ true → application_read s n u xs ≡ read s false u (application_of n xs)
  application_alike n u xs e = by (scheme_or_int (application_scheme s.scope s.context.own n.place n.text))
    where
      by : (g : Scheme) → applied_at s g n.text n.place.file u (values_read s (map (instance u g.parameters) g.arguments) (u + g.parameters) xs) ≡ applied_at s g n.text n.place.file u (read_all s u g.parameters g.arguments (u + g.parameters) (ghost_expr_list (values_of xs)))
      by g = ap (applied_at s g n.text n.place.file u) (values_alike u g.parameters g.arguments (u + g.parameters) xs e)

  -- a chunk that is an application
  truth_has : {k k' : Known} {b : Bound} {n : written.Name} (xs : List Pattern) (p : Place) (g : Progress) → g ≡ progress_at b k → Passes s.scope s.context k bool_sort n.place (application_of n xs) k' → are_value_patterns xs ≡ true → Agrees k'
      → PartFollows (D s names) s m (truth_of p g (application_read s n g.next xs)) k' b
  truth_has {k} {k'} {b} {n} xs p g at passes plain a =
      let r = passes_read s names gives false passes a refl (length k) refl in
      subst (λ (q : Progress). PartFollows (D s names) s m (truth_of p q (application_read s n q.next xs)) k' b) (sym at)
      (subst (λ (y : Reading). PartFollows (D s names) s m (truth_of p (progress_at b k) y) k' b) (sym (application_alike n (length k) xs plain))
      (record { progress = ap (λ u. record { bound = b; next = u }) r.0; has_sorts = λ named. pure r.1 }))

  -- ---- chunks
  arguments_have : {k k' : Known} {b b' : Bound} {t : ChunkSorts} {xs : List Pattern} {ys : Option (List Pattern)} (p : Place) (h : Option resolved_shares.Share) (f : Form) (g : Progress) → g ≡ progress_at b k → (Named b' → ShareHasSort (D s names) h) → Fits f t
      → ArgumentsBind s.scope s.context k b t xs ys k' b' → Agrees k' → PartFollows (D s names) s m (chunk_of p (record { share = h; progress = g }) f (pairs_read s m g t.heads t.arguments xs ys)) k' b'
  arguments_have p h f g at is fits (binding.ArgumentsBind.one_pair all) a =
      let y = patterns_have s names m gives all a g at in
      record { progress = y.progress; has_sorts = λ named. chunk (is named) (fits [] tt) (y.have_sorts named) }
  arguments_have {k} {k'} {b} {b'} p h f g at is fits (binding.ArgumentsBind.two_pairs {k₁} {hs} {ts} {xs} {ys} heads all) a =
      let z = values_have s names m gives heads (before_all s names m gives all a) (length k) refl in
      let y = patterns_have s names m gives all a (record { bound = b; next = (arguments_read s hs (length k) xs).next }) (ap (λ u. record { bound = b; next = u }) z.next) in
      subst (λ (q : Progress). PartFollows (D s names) s m (chunk_of p (record { share = h; progress = q }) f (pairs_read s m q (Some hs) ts xs (Some ys))) k' b') (sym at)
      (record { progress = y.progress; has_sorts = λ named. chunk (is named) (fits (arguments_read s hs (length k) xs).arguments z.have_sorts) (y.have_sorts named) })

  before_arguments : {k k' : Known} {b b' : Bound} {t : ChunkSorts} {xs : List Pattern} {ys : Option (List Pattern)} → ArgumentsBind s.scope s.context k b t xs ys k' b' → Agrees k' → Agrees k
  before_arguments (binding.ArgumentsBind.one_pair all) a = before_all s names m gives all a
  before_arguments (binding.ArgumentsBind.two_pairs heads all) a = before_heads s names m gives heads (before_all s names m gives all a)

  fewer_arguments : {k k' : Known} {b b' : Bound} {t : ChunkSorts} {xs : List Pattern} {ys : Option (List Pattern)} → ArgumentsBind s.scope s.context k b t xs ys k' b' → Named b' → Named b
  fewer_arguments (binding.ArgumentsBind.one_pair all) named = fewer_all s names m gives all named
  fewer_arguments (binding.ArgumentsBind.two_pairs heads all) named = fewer_all s names m gives all named

  plain_values : (h : Option Share) (xs : List Pattern) (ys : Option (List Pattern)) → is_plain h xs ys ≡ true → are_value_patterns xs ≡ true
  plain_values h xs ys e = second_of (not (is_some ys)) (are_value_patterns xs) (second_of (not (is_some h)) (not (is_some ys) && are_value_patterns xs) e)

  chunk_has : {k k' : Known} {b b' : Bound} {h : Option Share} {n : written.Name} {xs : List Pattern} {ys : Option (List Pattern)} (p : Place) → LaterHaveSorts s.scope → (binds : ChunkBinds s.scope s.context k b h n xs ys k' b') → ChunkIsDecided s.known binds → Agrees k'
      → PartFollows (D s names) s m (chunk_read s m (progress_at b k) p h n xs ys) k' b'
  chunk_has {k} {k'} {b} {b'} {h} {n} {xs} {ys} p laters (binding.ChunkBinds.chunk {k₁} {b₁} {t} share takes below all) same a =
      let there = before_arguments all a in
      let y = share_has s names m gives share there in
      let taken : chunk_takes s.scope s.known n ≡ Some t = ap (λ o. first_of o (declared_takes s.scope n.text n.place.file (declaration_of s.scope n.text n.place.file))) same ∙ takes in
      subst (λ o. PartFollows (D s names) s m (taken_read s m p n xs ys (share_read s m (progress_at b k) h) o) k' b') (sym taken)
      (arguments_have p (share_read s m (progress_at b k) h).share (form_of s n) (share_read s m (progress_at b k) h).progress y.progress (λ named. y.has_sort (fewer_arguments all named)) (form_fits n laters t k₁ there same takes) all a)
  chunk_has {k} {k'} {b} {b'} {h} {n} {xs} {ys} p laters (binding.ChunkBinds.truth {k₁} {b₁} share takes (binding.TruthPasses.truth known plain passes)) same a =
      let there = before_pass s.scope s.context (settling s.known) passes a in
      let y = share_has s names m gives share there in
      let taken : chunk_takes s.scope s.known n ≡ None = ap (λ o. first_of o (declared_takes s.scope n.text n.place.file (declaration_of s.scope n.text n.place.file))) same ∙ takes in
      subst (λ o. PartFollows (D s names) s m (taken_read s m p n xs ys (share_read s m (progress_at b k) h) o) k' b') (sym taken)
      (truth_has xs p (share_read s m (progress_at b k) h).progress y.progress passes (plain_values h xs ys plain) a)

-- cells keep sorts
pub cells_keep_sorts : CellsKeepSorts
cells_keep_sorts s names m gives known then_known b then_bound p h e f x binds a = cell_has s names m gives p binds a

-- chunks keep sorts
pub chunks_keep_sorts : ChunksKeepSorts
chunks_keep_sorts s names m gives laters known then_known b then_bound p h n xs ys binds same a = chunk_has s names m gives p laters binds same a
