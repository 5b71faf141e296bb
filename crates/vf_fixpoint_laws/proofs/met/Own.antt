-- The definitions of one identity are those of one item.
use Rattle.std.proofs.Common.{◌≡◌, ◌⊎◌, inl, inr, refl, sym, subst, ap, ◌∙◌, ⊎_elim, ℕ, zero, suc, Bool, true, false, cond, List, [], ◌∷◌, ◌++◌, Option, Some, None, arith}
use Rattle.std.specs.Prelude.{Contains}
use Rattle.vf_tree.specs.Core.{Identity}
use Rattle.vf_model.specs.Values.{same_identity}
use Rattle.vf_syntax.specs.declared.item.Item.{Item}
use Rattle.vf_declared.specs.declared.declaration.Fixpoint as declaration
use Rattle.vf_declared.specs.declared.declaration.Meaning.TheVariants as meanings
use Rattle.vf_declared.specs.declared.scope.Scope.{Scope}
use Rattle.vf_terms.specs.Named.{declaration_seen}
use Rattle.vf_definitions.specs.declared.fixpoint.Fixpoint as definitions
use Rattle.vf_defining.specs.Symbols.{without_locals}
use Rattle.vf_defining.specs.Bodies.{files_of, identity_at}
use Rattle.vf_defining.specs.Units.{HaveDefinitions, no_items, more_items, IsNumbered, ItemDefines, other_item, stray_item, fixpoint, Written, written_in}
use Rattle.vf_fixpoint_laws.proofs.bodies.Taken.{one_of}
use Rattle.vf_fixpoint_laws.specs.descending.Ranks.{HavePlainNames, name_in}
use Rattle.vf_fixpoint_laws.proofs.descending.Definitions.{of_item}
use Rattle.vf_fixpoint_laws.proofs.descending.Lists.{some_same}
use Rattle.vf_fixpoint_laws.proofs.descending.Ranks.{named}
use Rattle.vf_fixpoint_laws.proofs.descending.There.{is_there}
use Rattle.vf_fixpoint_laws.specs.met.Valued.{first_for}
use Rattle.vf_fixpoint_laws.proofs.met.Meeting.{first_found, first_there}
use Rattle.vf_fixpoint_laws.proofs.met.Once.{EachIsOnce}

-- ---- lists
apart : {A : Type 0} (xs ys : List A) (a : A) → Contains (xs ++ ys) a → Contains xs a ⊎ Contains ys a
apart [] ys a c = inr c
apart (x ∷ xs) ys a (zero, l, is) = inl (zero, omega arith, is)
apart (x ∷ xs) ys a (suc k, l, is) = ⊎_elim (λ p. inl (suc p.0, omega (arith, p.1), p.2)) (λ q. inr q) (apart xs ys a (k, omega (arith, l), is))

-- the first of some definitions is the first where more come behind
first_front : (ds es : List definitions.Fixpoint) (c : Identity) (z : definitions.Fixpoint) → first_for ds c ≡ Some z → first_for (ds ++ es) c ≡ Some z
first_front [] es c z e = absurd cc
first_front (d ∷ ds) es c z e = by (same_identity d.identity c) e (first_front ds es c z)
  where
    by : (b : Bool) → cond b (Some d) (first_for ds c) ≡ Some z → (first_for ds c ≡ Some z → first_for (ds ++ es) c ≡ Some z) → cond b (Some d) (first_for (ds ++ es) c) ≡ Some z
    by true e h = e
    by false e h = h e

-- where none of some is, the first is behind
first_behind : (ds es : List definitions.Fixpoint) (c : Identity) → first_for ds c ≡ None → first_for (ds ++ es) c ≡ first_for es c
first_behind [] es c e = refl
first_behind (d ∷ ds) es c e = by (same_identity d.identity c) e (first_behind ds es c)
  where
    by : (b : Bool) → cond b (Some d) (first_for ds c) ≡ None → (first_for ds c ≡ None → first_for (ds ++ es) c ≡ first_for es c) → cond b (Some d) (first_for (ds ++ es) c) ≡ first_for es c
    by true e h = absurd cc
    by false e h = h e

-- ---- names
module _ (s : Scope) (plain : HavePlainNames s) (paths : List (List ℕ)) where
  abbrev Bare : Scope
  Bare = without_locals s

  -- fixpoints of one identity have one name
  same_name : (v w : Written) (m n : ℕ) (f g : declaration.Fixpoint) → IsNumbered Bare v m f → IsNumbered Bare w n g → identity_at Bare paths v.name ≡ identity_at Bare paths w.name → v.name.text ≡ w.name.text
  same_name v w m n f g a b e =
      let p = is_there Bare v.name.text v.name.place.file (meanings.Ghost m) a.means in
      let q = is_there Bare w.name.text w.name.place.file (meanings.Ghost n) b.means in
      some_same (sym (named s plain paths (files_of (declaration_seen Bare v.name.text v.name.place.file)) v.name.text p.number p.found) ∙ (ap name_in e ∙ named s plain paths (files_of (declaration_seen Bare w.name.text w.name.place.file)) w.name.text q.number q.found))

  -- ---- the item of a definition
  -- the fixpoint that an item with a definition is
  record IsWrittenAs (item : Item) (x : definitions.Fixpoint) : Type 0 where
    written : Written
    is : written_in item ≡ Some written
    number : ℕ
    declared : declaration.Fixpoint
    numbered : IsNumbered Bare written number declared
    identity : x.identity ≡ identity_at Bare paths written.name

  written_as : (item : Item) (ds : List definitions.Fixpoint) (x : definitions.Fixpoint) → ItemDefines Bare paths item ds → Contains ds x → IsWrittenAs item x
  written_as item ds x (other_item e) (k, l, is) = absurd (omega (arith, l))
  written_as item ds x (stray_item e stray) (k, l, is) = absurd (omega (arith, l))
  written_as item ds x (fixpoint {w} {n} {f} {b} e numbered defines) there = record { written = w; is = e; number = n; declared = f; numbered = numbered; identity = (one_of Bare paths w b f.result x there).identity }

  -- a definition, and the first of its identity, are among those of one item
  pub record AreOfItem (xs : List Item) (c : Identity) (x y : definitions.Fixpoint) : Type 0 where
    pub item : Item
    pub among : Contains xs item
    pub own : List definitions.Fixpoint
    pub defines : ItemDefines Bare paths item own
    pub first : first_for own c ≡ Some x
    pub there : Contains own y

  of_later : {x' : Item} {xs : List Item} {c : Identity} {x y : definitions.Fixpoint} → AreOfItem xs c x y → AreOfItem (x' ∷ xs) c x y
  of_later h = record { item = h.item; among = (suc h.among.0, (let l = h.among.1 in omega (arith, l)), h.among.2); own = h.own; defines = h.defines; first = h.first; there = h.there }

  pub are_of_item : (xs : List Item) (fs : List definitions.Fixpoint) → HaveDefinitions Bare paths xs fs → EachIsOnce xs → (c : Identity) (x y : definitions.Fixpoint) → first_for fs c ≡ Some x → Contains fs y → y.identity ≡ c → AreOfItem xs c x y
  are_of_item xs fs no_items once c x y e there is = absurd cc
  are_of_item xs fs (more_items {x = item} {xs = ys} {ds} {es} d h) once c x y e there is = by (first_for ds c) refl (are_of_item ys es h once.1 c x y)
    where
      -- a later definition of the identity is of an item with the same name
      twice : {A : Type 0} (z : definitions.Fixpoint) → first_for ds c ≡ Some z → Contains es y → A
      twice z q later =
          let f = first_found ds c z q in
          let a = written_as item ds z d f.0 in
          let b = of_item Bare paths ys es h y later in
          absurd (once.0 a.written a.is b.item b.written b.among b.is (same_name b.written a.written b.number a.number b.declared a.declared b.numbered a.numbered (sym b.identity ∙ (is ∙ (sym f.1 ∙ a.identity)))))

      by : (o : Option definitions.Fixpoint) → first_for ds c ≡ o → (first_for es c ≡ Some x → Contains es y → y.identity ≡ c → AreOfItem ys c x y) → AreOfItem (item ∷ ys) c x y
      by (Some z) q further =
          ⊎_elim (λ p. record { item = item; among = (zero, omega arith, refl); own = ds; defines = d; first = q ∙ (sym (first_front ds es c z q) ∙ e); there = p }) (λ p. twice z q p) (apart ds es y there)
      by None q further =
          ⊎_elim
          (λ p. let r = first_there ds y p in absurd (let w : first_for ds c ≡ Some r.0 = subst (λ (g : Identity). first_for ds g ≡ Some r.0) is r.1 in let v : None ≡ Some r.0 = sym q ∙ w in cc))
          (λ p. of_later (further (sym (first_behind ds es c q) ∙ e) p is))
          (apart ds es y there)
