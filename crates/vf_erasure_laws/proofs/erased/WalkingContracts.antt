-- What C text sees behind the contract of a function, and what is kept of a prototype and taken from one.
use Rattle.std.proofs.Common.{◌≡◌, ℕ, Bool, true, false, List, [], ◌∷◌, ◌++◌, length, map, filter, Option, Some, None, Ok, slice_get, refl, sym, ap, subst, ◌∙◌, append-nil}
use Rattle.std.proofs.lemmas.List.{length-map}
use Rattle.vf_base.specs.declared.place.Place.{Place}
use Rattle.vf_declared.specs.declared.ctype.CType.{CType}
use Rattle.vf_declared.specs.declared.declaration.Sides.{Sides}
use Rattle.vf_declared.specs.declared.declaration.Signature.{Signature}
use Rattle.vf_declared.specs.declared.locals.GhostLocal.{GhostLocal}
use Rattle.vf_declared.specs.declared.locals.Local.TheVariants as locals
use Rattle.vf_declared.specs.declared.locals.Locals.{Locals}
use Rattle.vf_declared.specs.declared.scope.Scope.{Scope}
use Rattle.vf_declared.specs.Changes.{IsAligned}
use Rattle.vf_declared.specs.Writing.{changed, with_body, with_prototype}
use Rattle.vf_syntax.specs.declared.contract.Contract.{Contract}
use Rattle.vf_syntax.specs.declared.item.Signature.{Signature as WrittenSignature}
use Rattle.vf_syntax.specs.declared.item.Typed.{Typed}
use Rattle.vf_walk.specs.declared.annotations.Owner.{Owner}
use Rattle.vf_walk.specs.Items.{first_renamed, listed, no_locals, prototype_in, real_types, taken_from, taken_unless, taken_where, WalksContract, without_locals}
use Rattle.vf_walk.specs.Meanings.{Meanings}
use Rattle.vf_walk.specs.Walking.{Optional}
use Rattle.vf_erasure_laws.specs.seen.Seen.{AreBehindPrototype, IsOrderly, is_real, real_locals, real_names, seen, seen_sides}
use Rattle.vf_erasure_laws.specs.seen.Unseen.{AddsGhosts, AreUnseen}
use Rattle.vf_erasure_laws.specs.erased.Walks.{AreTyped, IsSettled}
use Rattle.vf_erasure_laws.proofs.erased.WalkingSteps.{apart, ok_same}
use Rattle.vf_erasure_laws.proofs.erased.WalkingExtends.{beside_behind, extends_orderly, ghosts_extend}
use Rattle.vf_erasure_laws.proofs.erased.WalkingSeen.{no_real_names, real_beside, real_names_behind, seen_ghosts}
use Rattle.vf_erasure_laws.proofs.erased.WalkingStatements.{adds_none}
use Rattle.vf_erasure_laws.proofs.erased.WalkingLists.{all_real, all_real_names, as_before, is_changed, length_changed, map_changed, OneChanged, one_changed, real_by_types, types_behind, types_of_types, some_same}
use Rattle.vf_erasure_laws.proofs.erased.WalkingTypes.{as_many_texts, none_renamed, texts}

-- a contract, or none
pub contract_adds : {s t : Scope} (m : Meanings) → AreUnseen m → (o : Owner) (c : Option Contract) → IsOrderly s → Optional (m.contract o) c s (Ok t) → AddsGhosts s t
contract_adds m d o None i h = adds_none (sym (ok_same h.is))
contract_adds m d o (Some c) i h = d.contract o c _ _ i h

-- ---- without locals
pub settled_without : (t : Scope) → IsOrderly t → length t.sides ≡ length t.functions → AreTyped t.sides t.functions → IsSettled (without_locals t)
settled_without t o n h = record { orderly = record { locals = refl; names = o.names; prototypes = o.prototypes }; cleared = refl; numbered = n; typed = h }

pub seen_without : (t : Scope) → seen (without_locals t) ≡ without_locals (seen t)
unfolding seen real_locals
seen_without t = refl

-- where nothing is declared all is in order
pub settled_empty : (s : Scope) → s.locals ≡ no_locals → s.names ≡ [] → s.declarations ≡ [] → s.sides ≡ [] → s.functions ≡ [] → IsSettled s
settled_empty s l n d e f = record {
  orderly = record {
    locals = subst IsAligned (sym l) refl;
    names = ap length n ∙ sym (ap length d);
    prototypes = λ k x m a b. no_sides (ap (λ xs. slice_get xs k) (sym e) ∙ a);
  };
  cleared = l;
  numbered = ap length e ∙ sym (ap length f);
  typed = λ k x m g a b c. no_sides (ap (λ xs. slice_get xs k) (sym e) ∙ a);
}
  where
    no_sides : {A : Type 0} {x : Sides} → ◌≡◌ {A = Option Sides} None (Some x) → A
    no_sides h = absurd cc

-- ---- what is kept of a prototype
types_of_ghosts : (gs : List GhostLocal) → real_types (map locals.Ghost gs) ≡ []
types_of_ghosts [] = refl
types_of_ghosts (g ∷ gs) = types_of_ghosts gs

-- its parameters, and behind them names of its contract
module _ (xs : List (List ℕ)) (ts : List CType) (ns : List (List ℕ)) (gs : List GhostLocal) where
  abbrev behind_parameters : Locals → Locals
  behind_parameters l = record { names = l.names ++ ns; meanings = l.meanings ++ map locals.Ghost gs }

  parameters_first : (l : Locals) → l ≡ record { names = xs; meanings = map locals.Real ts } → length xs ≡ length ts → length ns ≡ length gs → AreBehindPrototype (behind_parameters l)
  parameters_first l e a b = subst (λ l. AreBehindPrototype (behind_parameters l)) (sym e) (record {
    aligned = beside_behind xs ns (map locals.Real ts) (map locals.Ghost gs) (a ∙ sym (length-map ts locals.Real)) (b ∙ sym (length-map gs locals.Ghost));
    rest = ns;
    first = ap (λ zs. zs ++ ns) (sym (real_names_behind xs ns (map locals.Real ts) (map locals.Ghost gs) (a ∙ sym (length-map ts locals.Real)) ∙ (λ i. all_real_names xs ts a i ++ no_real_names ns gs i) ∙ append-nil xs));
  })

  parameters_types : (l : Locals) → l ≡ record { names = xs; meanings = map locals.Real ts } → real_types (behind_parameters l).meanings ≡ ts
  parameters_types l e =
      ap (λ (l : Locals). real_types (behind_parameters l).meanings) e ∙ types_behind (map locals.Real ts) (map locals.Ghost gs)
      ∙ (λ i. types_of_types ts i ++ types_of_ghosts gs i) ∙ append-nil ts

abbrev keeping : Locals → Sides → Sides
keeping l x = record x { prototype = Some l }

kept_locals : {x : Sides} {l k : Locals} (y : Sides) → x ≡ keeping k y → x.prototype ≡ Some l → k ≡ l
kept_locals y e h = some_same (sym (ap (λ (z : Sides). z.prototype) e) ∙ h)

kept_prototypes : (ss : List Sides) (n : ℕ) (m : Locals) → AreBehindPrototype m → ((k : ℕ) (x : Sides) (l : Locals) → slice_get ss k ≡ Some x → x.prototype ≡ Some l → AreBehindPrototype l) → (k : ℕ) (x : Sides) (l : Locals) → slice_get (changed (keeping m) ss n) k ≡ Some x → x.prototype ≡ Some l → AreBehindPrototype l
kept_prototypes ss n m b h k x l a c = by_one (one_changed (keeping m) ss n k x a)
  where
    by_one : OneChanged (keeping m) ss n k x → AreBehindPrototype l
    by_one (as_before e) = h k x l e c
    by_one (is_changed y e i r) = subst AreBehindPrototype (kept_locals y r c) b

kept_types : (ss : List Sides) (fs : List Signature) (n : ℕ) (m : Locals) (f : Signature) → slice_get fs n ≡ Some f → real_types m.meanings ≡ f.parameters → AreTyped ss fs → AreTyped (changed (keeping m) ss n) fs
kept_types ss fs n m f at is h k x l g a b c = by_one (one_changed (keeping m) ss n k x a)
  where
    by_one : OneChanged (keeping m) ss n k x → real_types l.meanings ≡ g.parameters
    by_one (as_before e) = h k x l g e b c
    by_one (is_changed y e i r) =
        let same : f ≡ g = some_same (sym at ∙ ap (slice_get fs) (sym i) ∙ c) in
        ap (λ (l : Locals). real_types l.meanings) (sym (kept_locals y r b)) ∙ is ∙ ap (λ (f : Signature). f.parameters) same

pub kept_settled : {u : Scope} (v : Scope) (xs : List (List ℕ)) (ts : List CType) (k : ℕ) (f : Signature) → v.locals ≡ record { names = xs; meanings = map locals.Real ts } → length xs ≡ length ts → IsOrderly v → length v.sides ≡ length v.functions → AreTyped v.sides v.functions → slice_get v.functions k ≡ Some f → f.parameters ≡ ts → AddsGhosts v u → IsSettled (without_locals (with_prototype u k u.locals))
kept_settled v xs ts k f e a o n h at is g =
    let l = behind_parameters xs ts g.names g.ghosts v.locals in
    subst (λ (u : Scope). IsSettled (without_locals (with_prototype u k u.locals))) (sym g.is) (record {
      orderly = record { locals = refl; names = o.names; prototypes = kept_prototypes v.sides k l (parameters_first xs ts g.names g.ghosts v.locals e a g.beside) o.prototypes };
      cleared = refl;
      numbered = length_changed (keeping l) v.sides k ∙ n;
      typed = kept_types v.sides v.functions k l f at (parameters_types xs ts g.names g.ghosts v.locals e ∙ sym is) h;
    })

pub kept_seen : (k : ℕ) (u : Scope) → seen (without_locals (with_prototype u k u.locals)) ≡ without_locals (with_prototype (seen u) k (seen u).locals)
unfolding seen real_locals
kept_seen k u = λ i. record (without_locals (seen u)) { sides = map_changed seen_sides (keeping u.locals) (keeping (real_locals u.locals)) (λ x. refl) u.sides k i }

-- ---- a function that has a body
abbrev defining : Sides → Sides
defining x = record x { is_defined = true }

pub body_seen : (k : ℕ) (u : Scope) → seen (with_body u k) ≡ with_body (seen u) k
unfolding seen
body_seen k u = λ i. record (seen u) { sides = map_changed seen_sides defining defining (λ x. refl) u.sides k i }

pub body_orderly : (k : ℕ) (u : Scope) → IsOrderly u → IsOrderly (with_body u k)
body_orderly k u o = record { locals = o.locals; names = o.names; prototypes = λ j x l a b. by_one j x l b (one_changed defining u.sides k j x a) }
  where
    by_one : (j : ℕ) (x : Sides) (l : Locals) → x.prototype ≡ Some l → OneChanged defining u.sides k j x → AreBehindPrototype l
    by_one j x l b (as_before e) = o.prototypes j x l e b
    by_one j x l b (is_changed y e i r) = o.prototypes j y l e (sym (ap (λ (z : Sides). z.prototype) r) ∙ b)

pub body_typed : (k : ℕ) (ss : List Sides) (fs : List Signature) → AreTyped ss fs → AreTyped (changed defining ss k) fs
body_typed k ss fs h j x l f a b c = by_one (one_changed defining ss k j x a)
  where
    by_one : OneChanged defining ss k j x → real_types l.meanings ≡ f.parameters
    by_one (as_before e) = h j x l f e b c
    by_one (is_changed y e i r) = h j y l f e (sym (ap (λ (z : Sides). z.prototype) r) ∙ b) c

-- ---- what is taken from a prototype
-- behind the contract of a definition C text sees the same, and all but locals is the same
pub record Contracted (s t : Scope) : Type 0 where
  pub same : seen t ≡ seen s
  pub orderly : IsOrderly t
  pub rest : without_locals t ≡ without_locals s

contracted_same : {s t : Scope} → IsOrderly s → t ≡ s → Contracted s t
contracted_same {s} o e = subst (Contracted s) (sym e) (record { same = refl; orderly = o; rest = refl })

contracted_ghosts : {s t : Scope} → IsOrderly s → AddsGhosts s t → Contracted s t
contracted_ghosts o g = record { same = seen_ghosts o.locals g; orderly = extends_orderly (ghosts_extend g) o; rest = ap without_locals g.is }

-- the locals of C behind a prototype whose names and types are those of the parameters
taken_locals : (ps : List Typed) (ts : List CType) (l m : Locals) → m ≡ record { names = texts ps; meanings = map locals.Real ts } → length (texts ps) ≡ length ts → AreBehindPrototype l → real_types l.meanings ≡ ts → first_renamed l.names ps ≡ None → real_locals l ≡ real_locals m
unfolding real_locals
taken_locals ps ts l m e a b t h =
    let long : length (real_names l.names l.meanings) ≡ length ps =
    real_beside l.names l.meanings b.aligned ∙ ap length (real_by_types l.meanings) ∙ length-map (real_types l.meanings) locals.Real ∙ ap length t ∙ sym a ∙ as_many_texts ps in
    let names : real_names l.names l.meanings ≡ texts ps = none_renamed (real_names l.names l.meanings) b.rest ps long (ap (λ ns. first_renamed ns ps) (sym b.first) ∙ h) in
    let meanings : filter is_real l.meanings ≡ map locals.Real ts = real_by_types l.meanings ∙ ap (map locals.Real) t in
    (λ i. record { names = names i; meanings = meanings i })
    ∙ sym (ap real_locals e ∙ (λ i. record { names = all_real_names (texts ps) ts a i; meanings = all_real ts i }))

other_locals : (s : Scope) (l : Locals) → real_locals l ≡ real_locals s.locals → seen (record s { locals = l }) ≡ seen s
unfolding seen
other_locals s l e = λ i. record (seen s) { locals = e i }

-- the prototype of a function with its types
record HasPrototype (o : Option Sides) (l : Locals) : Type 0 where
  sides : Sides
  at : o ≡ Some sides
  kept : sides.prototype ≡ Some l

prototype_at : {l : Locals} (o : Option Sides) → prototype_in o ≡ Some l → HasPrototype o l
prototype_at None h = absurd cc
prototype_at (Some x) h = record { sides = x; at = refl; kept = h }

module _ (ps : List Typed) (ts : List CType) (s : Scope) (k : ℕ) (f : Signature) (e : s.locals ≡ record { names = texts ps; meanings = map locals.Real ts }) (a : length (texts ps) ≡ length ts) (o : IsOrderly s) (h : AreTyped s.sides s.functions) (at : slice_get s.functions k ≡ Some f) (is : f.parameters ≡ ts) where
  by_names : {t : Scope} (l : Locals) → HasPrototype (slice_get s.sides k) l → (p : Option Place) → first_renamed l.names ps ≡ p → taken_unless l p s ≡ Ok t → Contracted s t
  by_names l x (Some p) r w = absurd (apart w)
  by_names l x None r w =
      let b = o.prototypes k x.sides l x.at x.kept in
      let same = taken_locals ps ts l s.locals e a b (h k x.sides l f x.at x.kept at ∙ is) r in
      subst (Contracted s) (ok_same w) (record { same = other_locals s l same; orderly = record { locals = b.aligned; names = o.names; prototypes = o.prototypes }; rest = refl })

  by_prototype : {t : Scope} (q : Option Locals) → prototype_in (slice_get s.sides k) ≡ q → taken_from ps q s ≡ Ok t → Contracted s t
  by_prototype None r w = contracted_same o (sym (ok_same w))
  by_prototype (Some l) r w = by_names l (prototype_at (slice_get s.sides k) r) (first_renamed l.names ps) refl w

  taken : {t : Scope} (takes : Bool) → taken_where takes ps (prototype_in (slice_get s.sides k)) s ≡ Ok t → Contracted s t
  taken true w = by_prototype (prototype_in (slice_get s.sides k)) refl w
  taken false w = contracted_same o (sym (ok_same w))

pub contracted : {t : Scope} (m : Meanings) → AreUnseen m → (g : WrittenSignature) (given : CType) (c : Option Contract) (ts : List CType) (s : Scope) (k : ℕ) (f : Signature) → s.locals ≡ record { names = texts (listed g.parameters); meanings = map locals.Real ts } → length (texts (listed g.parameters)) ≡ length ts → IsOrderly s → AreTyped s.sides s.functions → slice_get s.functions k ≡ Some f → f.parameters ≡ ts → WalksContract m g given k c s (Ok t) → Contracted s t
contracted m d g given None ts s k f e a o h at is w = taken (listed g.parameters) ts s k f e a o h at is m.takes w.is
contracted m d g given (Some c) ts s k f e a o h at is w = contracted_ghosts o (d.contract _ c _ _ o w)
