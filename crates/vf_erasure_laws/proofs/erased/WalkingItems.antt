-- The walk over an item without its annotations comes to what C text sees of what the item declares.
use Rattle.std.proofs.Common.{◌≡◌, nat_eq, Bool, true, false, List, [], ◌∷◌, length, map, Option, Some, None, Ok, slice_get, refl, sym, ap, subst, ◌∙◌}
use Rattle.std.specs.List.{cons_option}
use Rattle.std.specs.Option.{option_map}
use Rattle.std.proofs.lemmas.List.{length-map}
use Rattle.vf_declared.specs.declared.ctype.CType.{CType}
use Rattle.vf_declared.specs.declared.declaration.Sides.{Sides}
use Rattle.vf_declared.specs.declared.declaration.Signature.{Signature}
use Rattle.vf_declared.specs.declared.locals.Local.TheVariants as locals
use Rattle.vf_declared.specs.declared.locals.Locals.{Locals}
use Rattle.vf_declared.specs.declared.scope.Scope.{Scope}
use Rattle.vf_declared.specs.Writing.{with_body, with_prototype}
use Rattle.vf_syntax.specs.declared.contract.Contract.{Contract}
use Rattle.vf_syntax.specs.declared.item.Body.{Body}
use Rattle.vf_syntax.specs.declared.item.Item.{Item}
use Rattle.vf_syntax.specs.declared.item.Item.TheVariants as items
use Rattle.vf_syntax.specs.declared.item.Signature.{Signature as WrittenSignature}
use Rattle.vf_syntax.specs.declared.written.Name.{Name}
use Rattle.vf_syntax.specs.StmtTree.{stmt_list}
use Rattle.vf_walk.specs.Items.{defined, function_number, kept, listed, real_types, owner, signature_walked, WalksBodyIf, WalksDefinition, WalksItem, WalksItems, WalksPrototype, without_locals}
use Rattle.vf_walk.specs.Meanings.{Meanings, no_meanings}
use Rattle.vf_walk.specs.Statements.{WalksStmts}
use Rattle.vf_walk.specs.Walking.{behind, Only, Optional, Then, Walked}
use Rattle.vf_walk.specs.Walking as walking
use Rattle.vf_annotations.specs.Forms.{meanings}
use Rattle.vf_erasure_laws.proofs.hidden.Laws.{annotations_are_unseen}
use Rattle.vf_erasure_laws.specs.seen.Seen.{IsOrderly, real_locals, seen, seen_sides}
use Rattle.vf_erasure_laws.specs.seen.Unseen.{AreUnseen, IsUnseen}
use Rattle.vf_erasure_laws.specs.plain.Stripped.{stripped_body, stripped_item, stripped_items}
use Rattle.vf_erasure_laws.proofs.plain.UnitsKept.{parts_same}
use Rattle.vf_erasure_laws.specs.erased.Walks.{AreTyped, AnnotatedWalksAreSeen, IsSettled, WalksAreSeen, WalksStripped}
use Rattle.vf_erasure_laws.proofs.erased.WalkingSteps.{apart, ok_same, on, through, went}
use Rattle.vf_erasure_laws.proofs.erased.WalkingExtends.{Extends, stmts_extend}
use Rattle.vf_erasure_laws.proofs.erased.WalkingSeen.{seen_ghosts}
use Rattle.vf_erasure_laws.proofs.erased.WalkingStatements.{stmts_seen}
use Rattle.vf_erasure_laws.proofs.erased.WalkingFunctions.{head_seen, number_alike, signature_signs}
use Rattle.vf_erasure_laws.proofs.erased.WalkingContracts.{body_orderly, body_seen, body_typed, contract_adds, contracted, kept_seen, kept_settled, seen_without, settled_without}
use Rattle.vf_erasure_laws.proofs.erased.WalkingLists.{get_map, length_changed, types_of_real, some_same}
use Rattle.vf_erasure_laws.proofs.erased.WalkingStructs.{fields_go, struct_goes, structured_settled, type_goes}
use Rattle.vf_erasure_laws.proofs.erased.WalkingTypes.{texts}

-- an item comes to its end, and without annotations to what C text sees
pub record Goes (x : Option Item) (s t : Scope) : Type 0 where
  pub settled : IsSettled t
  pub walks : WalksStripped x s t

-- the locals behind a prototype, of which those of C are given
record HasKept (y : Sides) (m : Locals) : Type 0 where
  locals : Locals
  kept : y.prototype ≡ Some locals
  same : real_locals locals ≡ m

-- ---- prototypes
prototype_goes : {t : Scope} (m : Meanings) → AreUnseen m → (g : WrittenSignature) (c : Option Contract) (s : Scope) → IsSettled s → WalksPrototype m g c s (Ok t) → Goes (Some (items.Prototype g None None)) s t
prototype_goes {t} m d g c s o h =
    let k = went h in
    let heads = head_seen s g false k.first.is in
    let j = went k.next in
    let i = went j.first in
    let signs = signature_signs g k.at false s o heads.of i.first.is in
    let adds = contract_adds m d (owner g k.at.given false) c signs.signed.orderly i.next in
    let n = function_number s k.at.earlier in
    let is : without_locals (with_prototype j.at n j.at.locals) ≡ t = ok_same j.next.is in
    record {
      settled = subst IsSettled is (kept_settled i.at (texts (listed g.parameters)) signs.signed.types n signs.signed.function signs.signed.declares signs.signed.as_many signs.signed.orderly signs.signed.numbered signs.signed.typed signs.signed.at signs.signed.takes adds);
      walks = walking.goes (record { is = heads.again })
          (walking.goes (walking.goes (record { is = signs.again }) (record { is = ap Ok (sym (seen_ghosts signs.signed.orderly.locals adds)) }))
          (record { is = ap (λ k. kept k (seen j.at)) (number_alike s k.at.earlier) ∙ ap Ok (sym (kept_seen n j.at)) ∙ ap (λ (u : Scope). Ok (seen u)) is }));
    }

-- ---- functions with their bodies
-- a body adds locals
record BodyGoes (b : Bool) (given : CType) (x : Body) (s t : Scope) : Type 0 where
  extends : Extends s t
  walks : WalksBodyIf b no_meanings given (stripped_body x) (seen s) (Ok (seen t))

body_goes : {t : Scope} (m : Meanings) → AreUnseen m → (b : Bool) (given : CType) (x : Body) (s : Scope) → IsOrderly s → WalksBodyIf b m given x s (Ok t) → BodyGoes b given x s t
body_goes {t} m d true given x s o h = record {
  extends = stmts_extend m d given (stmt_list x.statements) s _ o h;
  walks = subst (λ xs. WalksStmts no_meanings given xs (seen s) (Ok (seen t))) (sym (parts_same x.statements)) (stmts_seen m d given (stmt_list x.statements) s _ o h);
}
body_goes m d false given x s o h = absurd (apart h.is)

file_alike : (n : Name) (s : Scope) → nat_eq n.place.file (seen s).file ≡ nat_eq n.place.file s.file
unfolding seen
file_alike n s = refl

definition_goes : {t : Scope} (m : Meanings) → AreUnseen m → (g : WrittenSignature) (c : Option Contract) (b : Body) (s : Scope) → IsSettled s → WalksDefinition m g c b s (Ok t) → Goes (Some (items.Function g None None (stripped_body b))) s t
definition_goes {t} m d g c b s o h =
    let k = went h in
    let heads = head_seen s g true k.first.is in
    let j = went k.next in
    let i = went j.first in
    let l = went i.first in
    let n = function_number s k.at.earlier in
    let w = through (defined n) (signature_walked g k.at s) l.first.is in
    let signs = signature_signs g k.at true s o heads.of w.first in
    let is : with_body w.at n ≡ l.at = ok_same w.next in
    let orderly : IsOrderly l.at = subst IsOrderly is (body_orderly n w.at signs.signed.orderly) in
    let typed : AreTyped l.at.sides l.at.functions = subst (λ (u : Scope). AreTyped u.sides u.functions) is (body_typed n w.at.sides w.at.functions signs.signed.typed) in
    let numbered : length l.at.sides ≡ length l.at.functions = subst (λ (u : Scope). length u.sides ≡ length u.functions) is (length_changed (λ (x : Sides). record x { is_defined = true }) w.at.sides n ∙ signs.signed.numbered) in
    let at : slice_get l.at.functions n ≡ Some signs.signed.function = subst (λ (u : Scope). slice_get u.functions n ≡ Some signs.signed.function) is signs.signed.at in
    let declares : l.at.locals ≡ record { names = texts (listed g.parameters); meanings = map locals.Real signs.signed.types } = subst (λ (u : Scope). u.locals ≡ record { names = texts (listed g.parameters); meanings = map locals.Real signs.signed.types }) is signs.signed.declares in
    let taken = contracted m d g k.at.given c signs.signed.types l.at n signs.signed.function declares signs.signed.as_many orderly typed at signs.signed.takes l.next in
    let body = body_goes m d (nat_eq g.name.place.file i.at.file) k.at.given b i.at taken.orderly i.next in
    let same : without_locals l.at ≡ t = sym (ap without_locals body.extends.is ∙ taken.rest) ∙ ok_same j.next.is in
    record {
      settled = subst IsSettled same (settled_without l.at orderly numbered typed);
      walks = walking.goes (record { is = heads.again })
          (walking.goes
          (walking.goes
          (walking.goes
          (record { is = on (defined (function_number (seen s) k.at.earlier)) (signature_walked g k.at (seen s)) signs.again (ap (λ k. defined k (seen w.at)) (number_alike s k.at.earlier) ∙ ap Ok (sym (body_seen n w.at)) ∙ ap (λ (u : Scope). Ok (seen u)) is) })
          (record { is = ap Ok (sym taken.same) }))
          (subst (λ b₁. WalksBodyIf b₁ no_meanings k.at.given (stripped_body b) (seen i.at) (Ok (seen j.at))) (sym (file_alike g.name i.at)) body.walks))
          (record { is = ap Ok (sym (seen_without j.at)) ∙ ap (λ (u : Scope). Ok (seen u)) (ok_same j.next.is) }));
    }

-- ---- ghost items
sides_of_seen : (s : Scope) → (seen s).sides ≡ map seen_sides s.sides
unfolding seen
sides_of_seen s = refl

functions_of_seen : (s : Scope) → (seen s).functions ≡ s.functions
unfolding seen
functions_of_seen s = refl

-- the locals of C behind a prototype are those that another prototype has of which C text sees the same
same_kept : {l : Locals} (x y : Sides) → seen_sides y ≡ seen_sides x → x.prototype ≡ Some l → HasKept y (real_locals l)
same_kept {l} x y e h = by_prototype y.prototype refl (ap (λ (z : Sides). z.prototype) e ∙ ap (option_map real_locals) h)
  where
    by_prototype : (o : Option Locals) → y.prototype ≡ o → option_map real_locals o ≡ Some (real_locals l) → HasKept y (real_locals l)
    by_prototype None i k = absurd cc
    by_prototype (Some r) i k = record { locals = r; kept = i; same = some_same k }

same_typed : (xs ys : List Sides) (fs : List Signature) → map seen_sides xs ≡ map seen_sides ys → AreTyped ys fs → AreTyped xs fs
unfolding real_locals
same_typed xs ys fs e h k x l f a b c = by_item (slice_get ys k) refl (sym (get_map seen_sides ys k) ∙ ap (λ zs. slice_get zs k) (sym e) ∙ get_map seen_sides xs k ∙ ap (option_map seen_sides) a)
  where
    by_item : (o : Option Sides) → slice_get ys k ≡ o → option_map seen_sides o ≡ Some (seen_sides x) → real_types l.meanings ≡ f.parameters
    by_item None i j = absurd cc
    by_item (Some y) i j =
        let r = same_kept x y (some_same j) b in
        sym (types_of_real l.meanings) ∙ ap (λ (l : Locals). real_types l.meanings) (sym r.same) ∙ types_of_real r.locals.meanings ∙ h k y r.locals f i r.kept c

ghost_settled : {s t : Scope} → IsSettled s → IsUnseen s t → IsSettled t
ghost_settled {s} {t} o h =
    let sides : map seen_sides t.sides ≡ map seen_sides s.sides = sym (sides_of_seen t) ∙ ap (λ (u : Scope). u.sides) h.same ∙ sides_of_seen s in
    let functions : t.functions ≡ s.functions = sym (functions_of_seen t) ∙ ap (λ (u : Scope). u.functions) h.same ∙ functions_of_seen s in
    record {
      orderly = h.orderly;
      cleared = h.locals ∙ o.cleared;
      numbered = sym (length-map t.sides seen_sides) ∙ ap length sides ∙ length-map s.sides seen_sides ∙ o.numbered ∙ ap length (sym functions);
      typed = subst (AreTyped t.sides) (sym functions) (same_typed t.sides s.sides s.functions sides o.typed);
    }

-- ---- items
-- an item comes to its end, and without its annotations to what C text sees of what it declares
pub item_goes : (m : Meanings) → AreUnseen m → (x : Item) (s t : Scope) → IsSettled s → WalksItem m x s (Ok t) → Goes (stripped_item x) s t
item_goes m d (items.Opaque p n) s t o h = let k = struct_goes n true s h.is in record { settled = structured_settled o k.structured; walks = record { is = k.again } }
item_goes m d (items.Struct p n xs) s t o h = let k = fields_go n xs s o h.is in record { settled = k.settled; walks = record { is = k.again } }
item_goes m d (items.FunctionType p g c) s t o h = let k = type_goes m d g c s o h in record { settled = k.settled; walks = k.walks }
item_goes m d (items.Prototype g k c) s t o h = prototype_goes m d g c s o h
item_goes m d (items.Function g k c b) s t o h = definition_goes m d g c b s o h
item_goes m d (items.Ghost g) s t o h = let k = d.item g s t o.orderly h in record { settled = ghost_settled o k; walks = k.same }

-- an item in front of others, or nothing
in_front : (o : Option Item) (xs : List Item) (s u t : Scope) → WalksStripped o s u → WalksItems no_meanings xs (seen u) (Ok (seen t)) → WalksItems no_meanings (cons_option o xs) (seen s) (Ok (seen t))
in_front None xs s u t h k = subst (λ v. WalksItems no_meanings xs v (Ok (seen t))) h k
in_front (Some y) xs s u t h k = walking.goes h k

-- where the annotations of a unit are not seen, the walk over its items without annotations comes to what C text sees of what they declare
pub walks_are_seen : WalksAreSeen
walks_are_seen m [] s t d o h = (subst IsSettled (ok_same h.is) o, record { is = ap (λ (u : Scope). Ok (seen u)) (ok_same h.is) })
walks_are_seen m (x ∷ xs) s t d o h =
    let k = went h in
    let first = item_goes m d x s k.at o k.first in
    let rest = walks_are_seen m xs k.at t d first.settled k.next in
    (rest.0, in_front (stripped_item x) (stripped_items xs) s k.at t first.walks rest.1)

-- the same of all annotations that there are
pub annotated_walks_are_seen : AnnotatedWalksAreSeen
annotated_walks_are_seen d xs s t o h = walks_are_seen (meanings d) xs s t (annotations_are_unseen d) o h
