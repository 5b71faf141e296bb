-- What a fixpoint is declared with stays behind it.
use Rattle.std.proofs.Common.{◌≡◌, refl, sym, ap, subst, ◌∙◌, ℕ, List, [], ◌∷◌, ◌++◌, length, append-nil, slice_get, Option, Some, None}
use Rattle.std.proofs.lemmas.List.{map-append}
use Rattle.vf_names.specs.Names.{number_of}
use Rattle.vf_names.proofs.Numbering.{number_of-push}
use Rattle.vf_sorts.specs.Sorts.{Sort}
use Rattle.vf_syntax.specs.declared.item.GhostParameter.{GhostParameter}
use Rattle.vf_syntax.specs.declared.written.Name.{Name}
use Rattle.vf_syntax.specs.SortTree.{SortTree}
use Rattle.vf_declared.specs.declared.declaration.Declaration.{Declaration}
use Rattle.vf_declared.specs.declared.declaration.Fixpoint.{Fixpoint}
use Rattle.vf_declared.specs.declared.declaration.GhostDeclaration.{GhostDeclaration}
use Rattle.vf_declared.specs.declared.declaration.GhostDeclaration.TheVariants as ghosts
use Rattle.vf_declared.specs.declared.declaration.Meaning.{Meaning}
use Rattle.vf_declared.specs.declared.declaration.Meaning.TheVariants as meanings
use Rattle.vf_declared.specs.declared.scope.Scope.{Scope}
use Rattle.vf_declared.specs.Writing.{with_ghost}
use Rattle.vf_sorting.specs.Spelling.{written_sort}
use Rattle.vf_datatypes.specs.Datatypes.{with_next}
use Rattle.vf_datatypes.specs.NewNames.{name_refusal}
use Rattle.vf_datatypes.specs.NewNames as names
use Rattle.vf_datatypes.specs.Walking.{behind}
use Rattle.vf_heads.specs.Heads.{fixpoint_behind, given_fixpoint, named_fixpoint, with_fixpoint}
use Rattle.vf_heads.specs.Parameters.{none_taken, parameters_behind}
use Rattle.vf_defining.specs.Symbols.{without_locals}
use Rattle.vf_defining.specs.Units.{IsNumbered, Written}
use Rattle.vf_erasure_laws.proofs.hidden.Coming.{Comes, behind_comes, ok_comes}
use Rattle.vf_fixpoint_laws.proofs.definable.Lists.{get_front, number_front}
use Rattle.vf_fixpoint_laws.proofs.definable.Parts.{Any, passed_comes}
use Rattle.vf_fixpoint_laws.proofs.descending.Building.{new_name}
use Rattle.vf_fixpoint_laws.proofs.descending.Levels.{Level, More, level, means_of}
use Rattle.vf_fixpoint_laws.proofs.descending.Lists.{some_same}
use Rattle.vf_fixpoint_laws.proofs.descending.Meanings.{IsOrderly, get_end, get_mapped, means_more}
use Rattle.vf_fixpoint_laws.proofs.descending.Spelled.{AreSpelled, AreTaken, IsSpelled, parameters_taken}
use Rattle.vf_fixpoint_laws.proofs.descending.There.{is_there}

-- ---- sorts that are written stay so
one_stays : {c d : Level} → More c d → (x : SortTree) (t : Sort) → IsSpelled c x t → IsSpelled d x t
one_stays m x t h e f = let r = h e f in (r.0, r.1, means_more m r.2)

pub spelled_more : {c d : Level} → More c d → (gs : List GhostParameter) (ts : List Sort) → AreSpelled c gs ts → AreSpelled d gs ts
spelled_more m [] [] h = tt
spelled_more m [] (t ∷ ts) h = absurd h
spelled_more m (g ∷ gs) [] h = absurd h
spelled_more m (g ∷ gs) (t ∷ ts) h = (one_stays m g.sort t h.0, spelled_more m gs ts h.1)

-- what comes to a name that is there already
ghost_more : (s : Scope) (g : GhostDeclaration) → More (level s) (level (with_ghost s g))
ghost_more s g = record { more_names = []; names = sym (append-nil s.names); more_meanings = []; meanings = sym (append-nil (means_of s.declarations)); beside = refl; more_ghosts = g ∷ []; ghosts = refl; fresh = tt }

-- ---- heads
-- a fixpoint stands in front of its body: its name is new and has the next number, and the sorts of its parameters are written
pub record IsHead (n : Name) (gs : List GhostParameter) (s u : Scope) : Type 0 where
  pub new : number_of s.names n.text ≡ None
  pub fixpoint : Fixpoint
  pub is : level u ≡ level (with_ghost (with_next s n) (ghosts.Fixpoint fixpoint))
  pub spelled : AreSpelled (level u) gs fixpoint.arguments

head_of : (n : Name) (gs : List GhostParameter) (s : Scope) (m : ℕ) (t : Sort) → number_of s.names n.text ≡ None → (ps : List (List ℕ)) → Comes (IsHead n gs s) (behind (with_fixpoint m t) (parameters_behind ps gs (none_taken (with_next s n))))
head_of n gs s m t new ps =
    behind_comes (AreTaken gs (none_taken (with_next s n))) (IsHead n gs s) (with_fixpoint m t) (parameters_behind ps gs (none_taken (with_next s n))) (parameters_taken ps gs (none_taken (with_next s n)))
    (λ k h.
    let f : Fixpoint = record { parameters = m; arguments = k.sorts; «result» = t } in
    let is : level (with_ghost k.scope (ghosts.Fixpoint f)) ≡ level (with_ghost (with_next s n) (ghosts.Fixpoint f)) = ap (λ (c : Level). record { names = c.names; meanings = c.meanings; ghosts = c.ghosts ++ ghosts.Fixpoint f ∷ []; datatypes = c.datatypes }) h.level_is in
    ok_comes (IsHead n gs s) (record {
      new = new;
      fixpoint = f;
      is = is;
      spelled = subst (λ c. AreSpelled c gs k.sorts) (sym is) (spelled_more (ghost_more (with_next s n) (ghosts.Fixpoint f)) gs k.sorts (subst (AreSpelled (level (with_next s n)) gs) (sym h.sorts) h.spelled));
    }))

pub fixpoint_head : (r : SortTree) (n : Name) (ns : List Name) (gs : List GhostParameter) (s : Scope) → Comes (IsHead n gs s) (fixpoint_behind r n ns gs s)
fixpoint_head r n ns gs s =
    behind_comes Any (IsHead n gs s) (given_fixpoint r n gs s) (names.parameters_behind s ns []) (λ ps u. tt)
    (λ ps u. behind_comes Any (IsHead n gs s) (named_fixpoint n gs s ps) (written_sort s ps r) (λ t v. tt)
    (λ t v. passed_comes (IsHead n gs s) (name_refusal s n) (behind (with_fixpoint (length ps) t) (parameters_behind ps gs (none_taken (with_next s n)))) (λ e. head_of n gs s (length ps) t (new_name s n e) ps)))

-- ---- behind a head
same_number : {m n : ℕ} → ◌≡◌ {A = Option Meaning} (Some (meanings.Ghost m)) (Some (meanings.Ghost n)) → m ≡ n
same_number e = cc

same_fixpoint : {f g : Fixpoint} → ◌≡◌ {A = Option GhostDeclaration} (Some (ghosts.Fixpoint f)) (Some (ghosts.Fixpoint g)) → f ≡ g
same_fixpoint e = cc

-- a fixpoint that its name means has parameters whose sorts are written
abbrev pub HasHead : Written → Scope → Type 0
HasHead w t = (k : ℕ) (f : Fixpoint) → IsNumbered (without_locals t) w k f → AreSpelled (level t) w.parameters f.arguments

module _ (w : Written) (s u t : Scope) (o : IsOrderly (level s)) (h : IsHead w.name w.parameters s u) (m : More (level u) (level t)) where
  its_names : t.names ≡ (s.names ++ w.name.text ∷ []) ++ m.more_names
  its_names = m.names ∙ ap (λ (c : Level). c.names ++ m.more_names) h.is

  its_number : number_of t.names w.name.text ≡ Some (length s.names)
  its_number = ap (λ xs. number_of xs w.name.text) its_names ∙ number_front (s.names ++ w.name.text ∷ []) m.more_names w.name.text (length s.names) (number_of-push s.names w.name.text h.new)

  its_meaning : slice_get (means_of t.declarations) (length s.names) ≡ Some (meanings.Ghost (length s.ghosts))
  its_meaning =
      ap (λ ms. slice_get ms (length s.names))
      (m.meanings ∙ (ap (λ (c : Level). c.meanings ++ m.more_meanings) h.is ∙ ap (λ ms. ms ++ m.more_meanings) (map-append (λ (d : Declaration). d.meaning) s.declarations (record { meaning = meanings.Ghost (length s.ghosts); files = w.name.place.file ∷ [] } ∷ []))))
      ∙ get_front (means_of s.declarations ++ meanings.Ghost (length s.ghosts) ∷ []) m.more_meanings (length s.names) (meanings.Ghost (length s.ghosts)) (ap (slice_get (means_of s.declarations ++ meanings.Ghost (length s.ghosts) ∷ [])) o.beside ∙ get_end (means_of s.declarations) (meanings.Ghost (length s.ghosts)))

  its_ghost : slice_get t.ghosts (length s.ghosts) ≡ Some (ghosts.Fixpoint h.fixpoint)
  its_ghost =
      ap (λ gs. slice_get gs (length s.ghosts)) (m.ghosts ∙ ap (λ (c : Level). c.ghosts ++ m.more_ghosts) h.is)
      ∙ get_front (s.ghosts ++ ghosts.Fixpoint h.fixpoint ∷ []) m.more_ghosts (length s.ghosts) (ghosts.Fixpoint h.fixpoint) (get_end s.ghosts (ghosts.Fixpoint h.fixpoint))

  pub has_head : HasHead w t
  has_head k f numbered =
      let r = is_there (without_locals t) w.name.text w.name.place.file (meanings.Ghost k) numbered.means in
      let place : r.number ≡ length s.names = some_same (sym r.found ∙ its_number) in
      let means : slice_get (means_of t.declarations) r.number ≡ Some (meanings.Ghost k) = get_mapped (λ (d : Declaration). d.meaning) t.declarations r.number r.declaration r.at ∙ ap Some r.means in
      let number : k ≡ length s.ghosts = same_number (sym means ∙ (ap (slice_get (means_of t.declarations)) place ∙ its_meaning)) in
      let same : h.fixpoint ≡ f = same_fixpoint (sym its_ghost ∙ (ap (slice_get t.ghosts) (sym number) ∙ numbered.is)) in
      subst (λ (g : Fixpoint). AreSpelled (level t) w.parameters g.arguments) same (spelled_more m w.parameters h.fixpoint.arguments h.spelled)
