-- The fixpoints of an accepted unit stand in the order of its items.
use Rattle.std.proofs.Common.{◌≡◌, refl, sym, ap, subst, ◌∙◌, ◌⊎◌, inl, inr, ⊎_elim, ℕ, zero, suc, ◌≤◌, List, [], ◌∷◌, ◌++◌, length, take, slice_get, Option, Some, None, arith}
use Rattle.std.specs.Prelude.{◌<◌, Contains}
use Rattle.std.proofs.lemmas.List.{length-map}
use Rattle.vf_tree.specs.Core.{Identity}
use Rattle.vf_names.specs.Names.{number_of}
use Rattle.vf_sorts.specs.declared.sort.Head.TheVariants as heads
use Rattle.vf_sorts.specs.Sorts.{Sorts, sort}
use Rattle.vf_syntax.specs.declared.item.GhostParameter.{GhostParameter}
use Rattle.vf_syntax.specs.declared.item.Item.{Item}
use Rattle.vf_declared.specs.declared.declaration.Declaration.{Declaration}
use Rattle.vf_declared.specs.declared.declaration.Fixpoint as declaration
use Rattle.vf_declared.specs.declared.declaration.GhostDeclaration.TheVariants as ghosts
use Rattle.vf_declared.specs.declared.declaration.Meaning.TheVariants as meanings
use Rattle.vf_declared.specs.declared.scope.Scope.{Scope}
use Rattle.vf_declared.specs.Changes.{IsAligned}
use Rattle.vf_declared.specs.Scopes.{at_index, at_name, ghost_of}
use Rattle.vf_equations.specs.Fixpoints.{result_in}
use Rattle.vf_terms.specs.Named.{declaration_seen, identity_of}
use Rattle.vf_definitions.specs.declared.fixpoint.Body.{Body}
use Rattle.vf_definitions.specs.declared.fixpoint.Fixpoint as definitions
use Rattle.vf_defining.specs.Bodies.{files_of, identity_at}
use Rattle.vf_defining.specs.Fixpoints.{Defines}
use Rattle.vf_defining.specs.Symbols.{without_locals}
use Rattle.vf_defining.specs.Units.{HaveDefinitions, no_items, more_items, IsNumbered, ItemDefines, other_item, stray_item, fixpoint, Written, definitions_of, within_fixpoint, written_in}
use Rattle.vf_defining.specs.UpTo.{through, up_to}
use Rattle.vf_recursion.specs.Faults.{constructors_of, first_fault}
use Rattle.vf_entailment.specs.Laws.{AreIntegers}
use Rattle.vf_view_laws.specs.Order.{BodyGoesBack}
use Rattle.vf_view_laws.proofs.Smaller.{further}
use Rattle.vf_fixpoint_laws.specs.bodies.Units.{EachIsWritten}
use Rattle.vf_fixpoint_laws.specs.descending.Ranks.{HavePlainNames, ranks_of}
use Rattle.vf_fixpoint_laws.proofs.descending.Definitions.{item_accepted}
use Rattle.vf_fixpoint_laws.proofs.descending.Going.{AreAsMany as HaveAsMany, parameters_aligned}
use Rattle.vf_fixpoint_laws.proofs.descending.Lists.{get_taken, none_some, number_taken, one_name, some_same}
use Rattle.vf_fixpoint_laws.proofs.descending.Ranks.{rank_is}
use Rattle.vf_fixpoint_laws.proofs.descending.Reading.{IsSelf}
use Rattle.vf_fixpoint_laws.proofs.descending.There.{IsThere, is_there}
use Rattle.vf_unit_laws.specs.Fixpoints.{AreAsMany, Signatures, written_behind}
use Rattle.vf_unit_laws.proofs.Ascending.{Ascend, from_there}
use Rattle.vf_unit_laws.proofs.Bodies.{body_back}
use Rattle.vf_unit_laws.proofs.Integers.{defines_integers}
use Rattle.vf_unit_laws.proofs.Listed.{AreListed, item_listed, none_listed}
use Rattle.vf_unit_laws.proofs.Reading.{AreKnown}

-- ---- names up to another
below_or_same : (j k : ℕ) → j < suc k → (j < k) ⊎ (j ≡ k)
below_or_same zero zero l = inr refl
below_or_same zero (suc k) l = inl (omega arith)
below_or_same (suc j) zero l = absurd (omega (arith, l))
below_or_same (suc j) (suc k) l = ⊎_elim (λ p. inl (omega (arith, p))) (λ q. inr (ap suc q)) (below_or_same j k (omega (arith, l)))

-- a name among the first of some names stands with its declaration among all
record IsAmongFirst (k : ℕ) (names : List (List ℕ)) (ds : List Declaration) (x : List ℕ) (d : Declaration) : Type 0 where
  number : ℕ
  found : number_of names x ≡ Some number
  below : number < k
  at : slice_get ds number ≡ Some d

among_first : (k : ℕ) (names : List (List ℕ)) (ds : List Declaration) (x : List ℕ) (d : Declaration) (o : Option ℕ) → number_of (take k names) x ≡ o → at_index (take k ds) o ≡ Some d → IsAmongFirst k names ds x d
among_first k names ds x d None e h = absurd (none_some h)
among_first k names ds x d (Some j) e h = let r = number_taken k names x j e in record { number = j; found = r.0; below = r.1; at = get_taken k ds j d h }

same_number : {m n : ℕ} → meanings.Ghost m ≡ meanings.Ghost n → m ≡ n
same_number e = cc

same_fixpoint : {a b : declaration.Fixpoint} → Some (ghosts.Fixpoint a) ≡ Some (ghosts.Fixpoint b) → a ≡ b
same_fixpoint e = cc

module _ (s : Scope) (plain : HavePlainNames s) (paths : List (List ℕ)) where
  abbrev Bare : Scope
  Bare = without_locals s

  -- the rank of a name that has a number is that number
  named_rank : (w : Written) (k : ℕ) → number_of s.names w.name.text ≡ Some k → ranks_of s (identity_at Bare paths w.name) ≡ k
  named_rank w k found = rank_is s plain paths (files_of (declaration_seen Bare w.name.text w.name.place.file)) w.name.text k found

  module _ (xs : List Item) (each : EachIsWritten s paths xs) (many : HaveAsMany Bare xs) (kept : first_fault xs ≡ None) where
    -- items stand behind earlier ones: the identities of these have numbers below one, and each fixpoint of the unit is one of them or stands among the items
    pub record AreNext (earlier : List Identity) (low : ℕ) (ys : List Item) : Type 0 where
      pub before : (i : Identity) → Contains earlier i → ranks_of s i < low
      pub rest : (y : Item) (v : Written) (m : ℕ) (h : declaration.Fixpoint) → Contains xs y → written_in y ≡ Some v → IsNumbered Bare v m h → Contains earlier (identity_at Bare paths v.name) ⊎ Contains ys y
      pub there : (y : Item) → Contains ys y → Contains xs y

    -- the next item has no fixpoint
    none_next : {earlier : List Identity} {low next : ℕ} {y : Item} {ys : List Item} → low ≤ next → ((v : Written) (m : ℕ) (h : declaration.Fixpoint) → written_in y ≡ Some v → IsNumbered Bare v m h → ⊥) → AreNext earlier low (y ∷ ys) → AreNext earlier next ys
    none_next {earlier} {low} {next} {y} {ys} up none a = record {
      before = λ i among. let l = a.before i among in omega (arith, l, up);
      rest = λ z v m h among is numbered. by z v m h is numbered (a.rest z v m h among is numbered);
      there = λ z among. a.there z (further z y ys among);
    }
      where
        by : (z : Item) (v : Written) (m : ℕ) (h : declaration.Fixpoint) → written_in z ≡ Some v → IsNumbered Bare v m h → Contains earlier (identity_at Bare paths v.name) ⊎ Contains (y ∷ ys) z → Contains earlier (identity_at Bare paths v.name) ⊎ Contains ys z
        by z v m h is numbered (inl p) = inl p
        by z v m h is numbered (inr (zero, l, same)) = absurd (none v m h (ap written_in same ∙ is) numbered)
        by z v m h is numbered (inr (suc k, l, same)) = inr (k, omega (arith, l), same)

    -- the next item is a fixpoint
    one_next : {earlier : List Identity} {low next k : ℕ} {y : Item} {ys : List Item} (w : Written) → written_in y ≡ Some w → number_of s.names w.name.text ≡ Some k → k < next → low ≤ next → AreNext earlier low (y ∷ ys) → AreNext (identity_at Bare paths w.name ∷ earlier) next ys
    one_next {earlier} {low} {next} {k} {y} {ys} w own found below up a = record {
      before = before;
      rest = λ z v m h among is numbered. by z v is (a.rest z v m h among is numbered);
      there = λ z among. a.there z (further z y ys among);
    }
      where
        before : (i : Identity) → Contains (identity_at Bare paths w.name ∷ earlier) i → ranks_of s i < next
        before i (zero, l, same) = subst (λ (j : Identity). ranks_of s j < next) same (let r = named_rank w k found in omega (arith, r, below))
        before i (suc j, l, same) = let r = a.before i (j, omega (arith, l), same) in omega (arith, r, up)

        by : (z : Item) (v : Written) → written_in z ≡ Some v → Contains earlier (identity_at Bare paths v.name) ⊎ Contains (y ∷ ys) z → Contains (identity_at Bare paths w.name ∷ earlier) (identity_at Bare paths v.name) ⊎ Contains ys z
        by z v is (inl p) = inl (further (identity_at Bare paths v.name) (identity_at Bare paths w.name) earlier p)
        by z v is (inr (zero, l, same)) = inl (zero, omega arith, ap (λ (u : Written). identity_at Bare paths u.name) (some_same (sym own ∙ (ap written_in same ∙ is))))
        by z v is (inr (suc j, l, same)) = inr (j, omega (arith, l), same)

    -- ---- the next fixpoint
    module _ (earlier : List Identity) (low : ℕ) (y : Item) (ys : List Item) (a : AreNext earlier low (y ∷ ys)) (ascend : Ascend s low (y ∷ ys)) (w : Written) (is_own : written_in y ≡ Some w) (n : ℕ) (f : declaration.Fixpoint) (numbered : IsNumbered Bare w n f) where
      abbrev c : Identity
      c = identity_at Bare paths w.name

      own : IsThere Bare w.name.text w.name.place.file (meanings.Ghost n)
      own = is_there Bare w.name.text w.name.place.file (meanings.Ghost n) numbered.means

      among_all : Contains xs y
      among_all = a.there y (zero, omega arith, refl)

      as_many : length w.parameters ≡ length f.arguments
      as_many = many y w n f among_all is_own numbered

      -- its number is not below the first, and below those of later fixpoints
      own_past : low ≤ own.number
      own_past =
          let h = from_there s (y ∷ ys) low ascend y w (zero, omega arith, refl) is_own in
          let same : own.number ≡ h.0 = some_same (sym own.found ∙ h.1) in
          let l = h.2 in
          omega (arith, same, l)

      pub is_new : Contains earlier c → ⊥
      is_new among =
          let l = a.before c among in
          let r = named_rank w own.number own.found in
          let p = own_past in
          omega (arith, l, r, p)

      later_past : (z : Item) (v : Written) → Contains (y ∷ ys) z → written_in z ≡ Some v → (k : ℕ) × (number_of s.names v.name.text ≡ Some k) × (own.number ≤ k)
      later_past z v (zero, l, same) is = (own.number, ap (λ (u : Written). number_of s.names u.name.text) (some_same (sym is ∙ (sym (ap written_in same) ∙ is_own))) ∙ own.found, omega arith)
      later_past z v (suc j, l, same) is =
          let (next, up, head, later) = ascend in
          let h = head w is_own in
          let e : own.number ≡ h.number = some_same (sym own.found ∙ h.found) in
          let b = h.below in
          let r = from_there s ys next later z v (j, omega (arith, l), same) is in
          let q = r.2 in
          (r.0, r.1, omega (arith, e, b, q))

      -- what is declared before it is the fixpoint of an earlier item
      is_earlier : (x : List ℕ) (d : Declaration) (m : ℕ) (g : declaration.Fixpoint) (k : ℕ) → number_of s.names x ≡ Some k → k < own.number → slice_get s.declarations k ≡ Some d → d.meaning ≡ meanings.Ghost m → ghost_of s m ≡ Some (ghosts.Fixpoint g) → Contains earlier (identity_of paths d.files x)
      is_earlier x d m g k found below at means is =
          let h = each (identity_of paths d.files x) g (record { name = x; declaration = d; number = m; found = ap (at_index s.declarations) found ∙ at; means = means; stands = is; is = refl }) in
          ⊎_elim (λ p. subst (Contains earlier) h.identity p) (λ q. absurd (late h.written h.identity (later_past h.item h.written q h.is))) (a.rest h.item h.written h.number g h.among h.is (record { means = h.numbered.means; is = h.numbered.is }))
        where
          late : (v : Written) → identity_at Bare paths v.name ≡ identity_of paths d.files x → (j : ℕ) × (number_of s.names v.name.text ≡ Some j) × (own.number ≤ j) → ⊥
          late v same (j, named, past) =
              let r : ranks_of s (identity_of paths d.files x) ≡ k = rank_is s plain paths d.files x k found in
              let q : ranks_of s (identity_at Bare paths v.name) ≡ j = named_rank v j named in
              let e : j ≡ k = sym q ∙ (ap (ranks_of s) same ∙ r) in
              omega (arith, e, past, below)

      -- and what has its number is itself
      is_itself : (o : Option ℕ) → ((p : ℕ) → o ≡ Some p → p < length w.parameters) → (x : List ℕ) (d : Declaration) (m : ℕ) (g : declaration.Fixpoint) → number_of s.names x ≡ Some own.number → slice_get s.declarations own.number ≡ Some d → d.meaning ≡ meanings.Ghost m → ghost_of s m ≡ Some (ghosts.Fixpoint g)
          → IsSelf paths c w.name.text o x d.files g
      is_itself o below x d m g found at means is =
          let same : d ≡ own.declaration = some_same (sym at ∙ own.at) in
          let named : x ≡ w.name.text = one_name s.names x w.name.text own.number found own.found in
          let number : m ≡ n = same_number (sym means ∙ (ap (λ (e : Declaration). e.meaning) same ∙ own.means)) in
          let fixed : f ≡ g = same_fixpoint (sym numbered.is ∙ (ap (ghost_of s) (sym number) ∙ is)) in
          let long : length w.parameters ≡ length g.arguments = as_many ∙ ap (λ (z : declaration.Fixpoint). length z.arguments) fixed in
          record {
            named = named;
            identity = ap (λ (e : Declaration). identity_of paths e.files x) same ∙ (ap (identity_of paths own.declaration.files) named ∙ ap (λ z. identity_of paths (files_of z) w.name.text) (sym own.seen));
            enough = λ p e. let l = below p e in omega (arith, l, long);
          }

      -- how many names of file level count in its body
      abbrev first : ℕ
      first = through (number_of s.names w.name.text)

      counted : first ≡ suc own.number
      counted = ap through own.found

      among_first_there : (x : List ℕ) (d : Declaration) → at_name (take first s.names) (take first s.declarations) x ≡ Some d → IsAmongFirst (suc own.number) s.names s.declarations x d
      among_first_there x d found = subst (λ k. IsAmongFirst k s.names s.declarations x d) counted (among_first first s.names s.declarations x d (number_of (take first s.names) x) refl found)

      all_known : (o : Option ℕ) → ((p : ℕ) → o ≡ Some p → p < length w.parameters) → AreKnown (within_fixpoint (up_to w.name Bare) w.parameters f.arguments) paths earlier c w.name.text o
      all_known o below x d m g found means is =
          let r = among_first_there x d found in
          ⊎_elim (λ l. inl (is_earlier x d m g r.number r.found l r.at means is)) (λ e. inr (is_itself o below x d m g (subst (λ j. number_of s.names x ≡ Some j) e r.found) (subst (λ j. slice_get s.declarations j ≡ Some d) e r.at) means is))
          (below_or_same r.number own.number r.below)

      own_means : (d : Declaration) → at_name (take first s.names) (take first s.declarations) w.name.text ≡ Some d → d.meaning ≡ meanings.Ghost n
      own_means d found =
          let r = among_first_there w.name.text d found in
          let e : r.number ≡ own.number = some_same (sym r.found ∙ own.found) in
          ap (λ (z : Declaration). z.meaning) (some_same (sym (subst (λ j. slice_get s.declarations j ≡ Some d) e r.at) ∙ own.at)) ∙ own.means

      aligned : IsAligned (within_fixpoint (up_to w.name Bare) w.parameters f.arguments).locals
      aligned = parameters_aligned Bare plain paths w n f numbered as_many

      module _ (b : Body) (defines : Defines (within_fixpoint (up_to w.name Bare) w.parameters f.arguments) paths n w.body b) where
        pub goes_back : BodyGoesBack earlier c (length w.parameters) b
        goes_back =
            subst (λ (k : ℕ). BodyGoesBack earlier c k b) (length-map w.parameters (λ (g : GhostParameter). g.name.text))
            (body_back earlier c w.name paths w.parameters f n (within_fixpoint (up_to w.name Bare) w.parameters f.arguments) aligned refl refl own_means numbered.is all_known w.body b (constructors_of xs w.parameters w.body) defines (item_accepted xs kept y w among_all is_own))

        pub gives_integers : (ts : Sorts) → f.result ≡ sort heads.Int ts → AreIntegers b
        gives_integers ts e = defines_integers (within_fixpoint (up_to w.name Bare) w.parameters f.arguments) paths n ts aligned (ap result_in numbered.is ∙ e) w.body b defines

    -- ---- all items
    many_front : (g : Signatures) (ds es : List definitions.Fixpoint) → AreAsMany g (ds ++ es) → AreAsMany g es
    many_front g [] es h = h
    many_front g (d ∷ ds) es h = many_front g ds es (λ f there. h f (further f d (ds ++ es) there))

    -- one item in front of later ones
    item_front : (g : Signatures) (y : Item) (ys : List Item) (es : List definitions.Fixpoint) (earlier : List Identity) (low : ℕ) → Ascend s low (y ∷ ys) → AreNext earlier low (y ∷ ys) → (ds : List definitions.Fixpoint) → ItemDefines Bare paths y ds → AreAsMany g (ds ++ es)
        → ((before : List Identity) (next : ℕ) → Ascend s next ys → AreNext before next ys → AreAsMany g es → AreListed before (written_behind g before es) es) → AreListed earlier (written_behind g earlier (ds ++ es)) (ds ++ es)
    item_front g y ys es earlier low ascend a ds (other_item e) long later =
        let (next, up, head, rest) = ascend in
        later earlier next rest (none_next up (λ v k z is numbered. none_some (sym e ∙ is)) a) long
    item_front g y ys es earlier low ascend a ds (stray_item {w} e stray) long later =
        let (next, up, head, rest) = ascend in
        later earlier next rest (none_next up (λ v k z is numbered. stray k z (subst (λ (u : Written). IsNumbered Bare u k z) (some_same (sym is ∙ e)) numbered)) a) long
    item_front g y ys es earlier low ascend a ds (fixpoint {w} {n} {f} {b} e numbered defines) long later =
        let (next, up, head, rest) = ascend in
        let k = head w e in
        item_listed g earlier (identity_at Bare paths w.name) (length w.parameters) b es
        (is_new earlier low y ys a ascend w e n f numbered)
        (goes_back earlier low y ys a ascend w e n f numbered b defines)
        (later (identity_at Bare paths w.name ∷ earlier) next rest (one_next w e k.found k.below up a) (many_front g (definitions_of Bare paths w b f.result) es long))
        f.result (gives_integers earlier low y ys a ascend w e n f numbered b defines) long

    pub items_listed : (g : Signatures) (ys : List Item) (fs : List definitions.Fixpoint) → HaveDefinitions Bare paths ys fs → (earlier : List Identity) (low : ℕ) → Ascend s low ys → AreNext earlier low ys → AreAsMany g fs → AreListed earlier (written_behind g earlier fs) fs
    items_listed g ys fs no_items earlier low ascend a long = none_listed earlier
    items_listed g _ _ (more_items {x = y} {xs = ys} {ds} {es} d h) earlier low ascend a long = item_front g y ys es earlier low ascend a ds d long (items_listed g ys es h)

    -- nothing stands before the first item
    pub at_first : (low : ℕ) → AreNext [] low xs
    at_first low = record { before = λ i among. absurd (let l = among.1 in omega (arith, l)); rest = λ y v m h among is numbered. inr among; there = λ y among. among }
