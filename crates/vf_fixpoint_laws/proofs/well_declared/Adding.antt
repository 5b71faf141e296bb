-- Names that mean what they meant before, and names that are new.
use Rattle.std.proofs.Common.{◌≡◌, refl, sym, subst, ◌∙◌, ap, ℕ, suc, ◌+◌, ◌≤◌, ◌⊎◌, inl, inr, ⊎_elim, true, false, List, [], ◌∷◌, ◌++◌, length, length-append, append_assoc, Some, slice_get, arith}
use Rattle.vf_declared.specs.declared.declaration.Constructor.{Constructor}
use Rattle.vf_declared.specs.declared.declaration.Datatype.{Datatype}
use Rattle.vf_declared.specs.declared.declaration.Declaration.{Declaration}
use Rattle.vf_declared.specs.declared.declaration.GhostDeclaration.{GhostDeclaration}
use Rattle.vf_declared.specs.declared.declaration.GhostDeclaration.TheVariants as ghosts
use Rattle.vf_declared.specs.declared.declaration.Meaning.{Meaning}
use Rattle.vf_declared.specs.declared.declaration.Meaning.TheVariants as meanings
use Rattle.vf_declared.specs.Scopes.{at_name}
use Rattle.vf_syntax.specs.declared.written.Name.{Name}
use Rattle.vf_datatypes.specs.NewNames.{is_of_c}
use Rattle.vf_fixpoint_laws.proofs.definable.Extending.{Core}
use Rattle.vf_fixpoint_laws.proofs.definable.Lists.{get_below, get_front, one_beside}
use Rattle.vf_fixpoint_laws.specs.bodies.Closed.{Each, IsClosed}
use Rattle.vf_fixpoint_laws.proofs.well_declared.Cores.{IsOther, New, Others, Plain, ghost, nothing, one_file, one_name, plain, with_file, with_ghost, with_name}
use Rattle.vf_fixpoint_laws.proofs.well_declared.Ghosts.{Constructs, IsDatatype, no_more, one_more}
use Rattle.vf_fixpoint_laws.proofs.well_declared.Lists.{IsLater, IsNamed, as_many_again, found_again, found_front, found_new, found_push, get_at_last, later_itself, named_again, some_same}

-- ---- what names mean
-- a name means something that annotations declare by a number, wherever it is seen
pub record Means (c : Core) (x : List ℕ) (n : ℕ) (g : GhostDeclaration) : Type 0 where
  pub declaration : Declaration
  pub found : at_name c.names c.declarations x ≡ Some declaration
  pub meaning : declaration.meaning ≡ meanings.Ghost n
  pub stands : slice_get c.ghosts n ≡ Some g

-- each name stands beside its declaration, and what names mean is there
pub record IsOrdered (c : Core) : Type 0 where
  pub beside : length c.names ≡ length c.declarations
  pub below : (x : List ℕ) (d : Declaration) (n : ℕ) → at_name c.names c.declarations x ≡ Some d → d.meaning ≡ meanings.Ghost n → suc n ≤ length c.ghosts

-- a name meant the same before, with files that go on
pub record Meant (c : Core) (x : List ℕ) (n : ℕ) (g : GhostDeclaration) (d : Declaration) : Type 0 where
  pub before : Means c x n g
  pub later : IsLater before.declaration d

-- names mean what they meant before, and what else they mean in some files is such
pub record Adds (F : List ℕ → List ℕ → GhostDeclaration → Type 0) (c e : Core) : Type 0 where
  pub frame : e.frame ≡ c.frame
  pub ordered : IsOrdered e
  pub kept : (x : List ℕ) (d : Declaration) → at_name c.names c.declarations x ≡ Some d → IsNamed e.names e.declarations x d
  pub ghosts : (n : ℕ) (g : GhostDeclaration) → slice_get c.ghosts n ≡ Some g → slice_get e.ghosts n ≡ Some g
  pub old_or_new : (x : List ℕ) (n : ℕ) (g : GhostDeclaration) (m : Means e x n g) → Meant c x n g m.declaration ⊎ F x m.declaration.files g

-- ---- nothing
adds_itself : (F : List ℕ → List ℕ → GhostDeclaration → Type 0) (c : Core) → IsOrdered c → Adds F c c
adds_itself F c o = record {
  frame = refl;
  ordered = o;
  kept = λ x d e. record { after = d; stands = e; later = later_itself d };
  ghosts = λ n g e. e;
  old_or_new = λ x n g m. inl (record { before = m; later = later_itself m.declaration });
}

later_both : {c d e : Declaration} → IsLater c d → IsLater d e → IsLater c e
later_both {c = c} h k = record { meaning = k.meaning ∙ h.meaning; more = h.more ++ k.more; files = k.files ∙ (ap (λ fs. fs ++ k.more) h.files ∙ append_assoc c.files h.more k.more) }

pub adds_both : {F : List ℕ → List ℕ → GhostDeclaration → Type 0} {c e f : Core} → ((x fs more : List ℕ) (g : GhostDeclaration) → F x fs g → F x (fs ++ more) g) → Adds F c e → Adds F e f → Adds F c f
adds_both {F = F} {c = c} l h k = record {
  frame = k.frame ∙ h.frame;
  ordered = k.ordered;
  kept = λ x d i. let a = h.kept x d i in let b = k.kept x a.after a.stands in record { after = b.after; stands = b.stands; later = later_both a.later b.later };
  ghosts = λ n g i. k.ghosts n g (h.ghosts n g i);
  old_or_new = λ x n g m. ⊎_elim (λ w. ⊎_elim (λ v. inl (record { before = v.before; later = later_both v.later w.later })) (λ f. inr (subst (λ fs. F x fs g) (sym w.later.files) (l x w.before.declaration.files w.later.more g f))) (h.old_or_new x n g w.before)) (λ f. inr f) (k.old_or_new x n g m);
}

-- ---- one thing more
adds_file : (F : List ℕ → List ℕ → GhostDeclaration → Type 0) (c : Core) (k file : ℕ) → IsOrdered c → Adds F c (with_file c k file)
adds_file F c k file o = record {
  frame = refl;
  ordered = record { beside = o.beside ∙ sym (as_many_again file c.declarations k); below = λ x d n e m. let w = found_again file c.names c.declarations k x d e in o.below x w.before n w.stood (sym w.later.meaning ∙ m) };
  kept = λ x d e. named_again file c.names c.declarations k x d e;
  ghosts = λ n g e. e;
  old_or_new = λ x n g m. let w = found_again file c.names c.declarations k x m.declaration m.found in inl (record { before = record { declaration = w.before; found = w.stood; meaning = sym w.later.meaning ∙ m.meaning; stands = m.stands }; later = w.later });
}

of_c_only : {A : Type 0} {m : Meaning} (n : ℕ) → is_of_c m ≡ true → m ≡ meanings.Ghost n → A
of_c_only n e f = absurd (let h : true ≡ false = sym e ∙ ap is_of_c f in cc)

adds_name : (F : List ℕ → List ℕ → GhostDeclaration → Type 0) (c : Core) (x : List ℕ) (m : Meaning) (file : ℕ) → is_of_c m ≡ true → IsOrdered c → Adds F c (with_name c x m file)
adds_name F c x m file i o = record {
  frame = refl;
  ordered = record { beside = one_beside c.names x c.declarations _ o.beside; below = λ y d n e j. ⊎_elim (λ f. o.below y d n f j) (λ f. of_c_only n i (sym (ap (λ (d : Declaration). d.meaning) f.1) ∙ j)) (found_push c.names c.declarations x _ o.beside y d e) };
  kept = λ y d e. record { after = d; stands = found_front c.names c.declarations x _ y d e; later = later_itself d };
  ghosts = λ n g e. e;
  old_or_new = λ y n g j. ⊎_elim (λ f. inl (record { before = record { declaration = j.declaration; found = f; meaning = j.meaning; stands = j.stands }; later = later_itself j.declaration })) (λ f. of_c_only n i (sym (ap (λ (d : Declaration). d.meaning) f.1) ∙ j.meaning)) (found_push c.names c.declarations x _ o.beside y j.declaration j.found);
}

pub plain_adds : (F : List ℕ → List ℕ → GhostDeclaration → Type 0) {c e : Core} → IsOrdered c → Plain c e → Adds F c e
plain_adds F {c = c} o (nothing a) = subst (Adds F c) (sym a) (adds_itself F c o)
plain_adds F {c = c} o (one_file k file a) = subst (Adds F c) (sym a) (adds_file F c k file o)
plain_adds F {c = c} o (one_name x m file f i a) = subst (Adds F c) (sym a) (adds_name F c x m file i o)

ghost_number_same : {m n : ℕ} → ◌≡◌ {A = Meaning} (meanings.Ghost m) (meanings.Ghost n) → m ≡ n
ghost_number_same e = cc

adds_ghost : (F : List ℕ → List ℕ → GhostDeclaration → Type 0) (c : Core) (n : Name) (g : GhostDeclaration) → F n.text (n.place.file ∷ []) g → IsOrdered c → Adds F c (with_ghost (with_name c n.text (meanings.Ghost (length c.ghosts)) n.place.file) g)
adds_ghost F c n g a o = record {
  frame = refl;
  ordered = record { beside = one_beside c.names n.text c.declarations _ o.beside; below = λ x d k e m. ⊎_elim (λ f. let b = o.below x d k f m in omega (arith, b, longer)) (λ f. let b = number d k f.1 m in omega (arith, b, longer)) (found_push c.names c.declarations n.text _ o.beside x d e) };
  kept = λ x d e. record { after = d; stands = found_front c.names c.declarations n.text _ x d e; later = later_itself d };
  ghosts = λ k h e. get_front c.ghosts (g ∷ []) k h e;
  old_or_new = λ x k h m. ⊎_elim
      (λ f. inl (record { before = record { declaration = m.declaration; found = f; meaning = m.meaning; stands = sym (get_below c.ghosts (g ∷ []) k (o.below x m.declaration k f m.meaning)) ∙ m.stands }; later = later_itself m.declaration }))
      (λ f. inr (subst (λ x. F x m.declaration.files h) (sym f.0) (subst (λ (d : Declaration). F n.text d.files h) (sym f.1) (subst (F n.text (n.place.file ∷ [])) (some_same (sym (get_at_last c.ghosts g k (number m.declaration k f.1 m.meaning)) ∙ m.stands)) a))))
      (found_push c.names c.declarations n.text _ o.beside x m.declaration m.found);
}
  where
    longer : length (c.ghosts ++ g ∷ []) ≡ length c.ghosts + 1
    longer = length-append c.ghosts (g ∷ [])

    number : (d : Declaration) (k : ℕ) → d ≡ record { meaning = meanings.Ghost (length c.ghosts); files = n.place.file ∷ [] } → d.meaning ≡ meanings.Ghost k → k ≡ length c.ghosts
    number d k f m = ghost_number_same (sym m ∙ ap (λ (d : Declaration). d.meaning) f)

pub new_adds : (F : List ℕ → List ℕ → GhostDeclaration → Type 0) {n : Name} {g : GhostDeclaration} {c e : Core} → F n.text (n.place.file ∷ []) g → IsOrdered c → New n g c e → Adds F c e
new_adds F {n = n} {g = g} {c = c} a o h = subst (Adds F c) (sym h.is) (adds_ghost F c n g a o)

-- what is new is found
pub new_means : {n : Name} {g : GhostDeclaration} {c e : Core} → IsOrdered c → New n g c e → Means e n.text (length c.ghosts) g
new_means {n = n} {g = g} {c = c} o h = subst (λ e. Means e n.text (length c.ghosts) g) (sym h.is) (record { declaration = record { meaning = meanings.Ghost (length c.ghosts); files = n.place.file ∷ [] }; found = found_new c.names c.declarations n.text _ o.beside h.fresh; meaning = refl; stands = get_at_last c.ghosts g (length c.ghosts) refl })

-- what is new is a family, a predicate constructor or a lemma
abbrev pub OfOthers : List ℕ → List ℕ → GhostDeclaration → Type 0
OfOthers x fs g = IsOther g

pub others_add : {c e : Core} → IsOrdered c → Others c e → Adds OfOthers c e
others_add o (plain p) = plain_adds OfOthers o p
others_add o (ghost n g i a) = new_adds OfOthers i o a

-- ---- datatypes
-- what is new is a datatype with a number and so many type parameters, or one of its constructors
pub data OfDatatype (n : Name) (d m : ℕ) (x fs : List ℕ) (g : GhostDeclaration) : Type 0 where
  itself : x ≡ n.text → g ≡ ghosts.Datatype d → OfDatatype n d m x fs g
  its_own : (k : Constructor) → g ≡ ghosts.Constructor k → k.datatype ≡ d → Each (IsClosed m) k.arguments → OfDatatype n d m x fs g

of_later : (n : Name) (d m : ℕ) (x fs more : List ℕ) (g : GhostDeclaration) → OfDatatype n d m x fs g → OfDatatype n d m x (fs ++ more) g
of_later n d m x fs more g (itself e f) = itself e f
of_later n d m x fs more g (its_own k e f c) = its_own k e f c

constructs_add : (n : Name) {d m : ℕ} {c e : Core} → IsOrdered c → Constructs d m c e → Adds (OfDatatype n d m) c e
constructs_add n {d = d} {m = m} o (no_more {c = c} a) = subst (Adds (OfDatatype n d m) c) (sym a) (adds_itself (OfDatatype n d m) c o)
constructs_add n {d = d} {m = m} o (one_more x k e i a b) = let h = new_adds (OfDatatype n d m) (its_own k refl e i) o a in adds_both (of_later n d m) h (constructs_add n h.ordered b)

adds_complete : {F : List ℕ → List ℕ → GhostDeclaration → Type 0} {c e : Core} (ds : List Datatype) → Adds F c e → Adds F c (record e { datatypes = ds })
adds_complete ds h = record {
  frame = h.frame;
  ordered = record { beside = h.ordered.beside; below = h.ordered.below };
  kept = h.kept;
  ghosts = h.ghosts;
  old_or_new = λ x n g m. h.old_or_new x n g (record { declaration = m.declaration; found = m.found; meaning = m.meaning; stands = m.stands });
}

pub datatype_adds : {n : Name} {ns : List Name} {c e : Core} → IsOrdered c → IsDatatype n ns c e → Adds (OfDatatype n (length c.datatypes) (length ns)) c e
datatype_adds {n = n} {ns = ns} {c = c} o a =
    let d = length c.datatypes in
    let h = new_adds (OfDatatype n d (length ns)) (itself refl refl) o a.named in
    subst (Adds (OfDatatype n d (length ns)) c) (sym a.is) (adds_complete (a.built.datatypes ++ a.datatype ∷ []) (adds_both (of_later n d (length ns)) h (constructs_add n h.ordered a.constructs)))

-- its name is found
pub datatype_found : {n : Name} {ns : List Name} {c e : Core} → IsOrdered c → IsDatatype n ns c e → (d : Declaration) × (at_name e.names e.declarations n.text ≡ Some d)
datatype_found {n = n} {ns = ns} {c = c} o a =
    let h = new_adds (OfDatatype n (length c.datatypes) (length ns)) (itself refl refl) o a.named in
    let m = new_means o a.named in
    let k = (constructs_add n h.ordered a.constructs).kept n.text m.declaration m.found in
    (k.after, (λ i. at_name (a.is i).names (a.is i).declarations n.text) ∙ k.stands)

-- no datatype is complete but itself
pub new_datatypes : {n : Name} {g : GhostDeclaration} {c e : Core} → New n g c e → e.datatypes ≡ c.datatypes
new_datatypes a = ap (λ (c : Core). c.datatypes) a.is

pub plain_datatypes : {c e : Core} → Plain c e → e.datatypes ≡ c.datatypes
plain_datatypes (nothing a) = ap (λ (c : Core). c.datatypes) a
plain_datatypes (one_file k file a) = ap (λ (c : Core). c.datatypes) a
plain_datatypes (one_name x m file f i a) = ap (λ (c : Core). c.datatypes) a

pub others_datatypes : {c e : Core} → Others c e → e.datatypes ≡ c.datatypes
others_datatypes (plain p) = plain_datatypes p
others_datatypes (ghost n g i a) = new_datatypes a

constructs_datatypes : {d m : ℕ} {c e : Core} → Constructs d m c e → e.datatypes ≡ c.datatypes
constructs_datatypes (no_more a) = ap (λ (c : Core). c.datatypes) a
constructs_datatypes (one_more n k e l a b) = constructs_datatypes b ∙ new_datatypes a

pub datatype_datatypes : {n : Name} {ns : List Name} {c e : Core} (a : IsDatatype n ns c e) → e.datatypes ≡ c.datatypes ++ a.datatype ∷ []
datatype_datatypes a = ap (λ (c : Core). c.datatypes) a.is ∙ ap (λ ds. ds ++ a.datatype ∷ []) (constructs_datatypes a.constructs ∙ new_datatypes a.named)
