-- The walk over items comes to what the functions come to, and to nothing else.
use Rattle.std.proofs.Common.{◌≡◌, ℕ, Bool, true, false, nat_eq, List, [], ◌∷◌, Option, Some, None, sym, subst, slice_get}
use Rattle.vf_declared.specs.declared.ctype.CType.{CType}
use Rattle.vf_declared.specs.declared.scope.Scope.{Scope}
use Rattle.vf_syntax.specs.declared.contract.Contract.{Contract}
use Rattle.vf_syntax.specs.declared.item.Body.{Body}
use Rattle.vf_syntax.specs.declared.item.Item.{Item}
use Rattle.vf_syntax.specs.declared.item.Item.TheVariants as items
use Rattle.vf_syntax.specs.declared.item.Signature.{Signature}
use Rattle.vf_syntax.specs.declared.written.Name.{Name}
use Rattle.vf_syntax.specs.StmtTree.{stmt_list}
use Rattle.vf_walk.specs.Items.{WalksBody, WalksBodyIf, WalksContract, WalksItem, WalksItems, listed, prototype_in, taken_where}
use Rattle.vf_walk.specs.Meanings.{Meanings}
use Rattle.vf_walk.specs.Walking.{Only, Walked}
use Rattle.vf_order_laws.specs.walk.Items.{body_at, body_if, contract_at, item_of, items_of}
use Rattle.vf_order_laws.specs.walk.Walks.{Walks}
use Rattle.vf_order_laws.specs.walk.Agreeing.{AnnotationsAreWalked, AreWalked}
use Rattle.vf_order_laws.proofs.walk.Walking.{only_walked, optional_walked, then_walked}
use Rattle.vf_order_laws.proofs.walk.StatementsCome.{stmts_walked}

body_if_walked : (b : Bool) (m : Meanings) (f : Walks) → AnnotationsAreWalked m f → (t : CType) (x : Body) (s : Scope) → AreWalked (WalksBodyIf b m t x s) (body_if b f t x s)
body_if_walked true m f d t x s = stmts_walked m f d t (stmt_list x.statements) s
body_if_walked false m f d t x s = only_walked _

body_walked : (m : Meanings) (f : Walks) → AnnotationsAreWalked m f → (n : Name) (t : CType) (x : Body) (s : Scope) → AreWalked (WalksBody m n t x s) (body_at f n t x s)
body_walked m f d n t x s = body_if_walked (nat_eq n.place.file s.file) m f d t x s

contract_walked : (m : Meanings) (f : Walks) → AnnotationsAreWalked m f → (g : Signature) (t : CType) (k : ℕ) (c : Option Contract) (s : Scope) → AreWalked (WalksContract m g t k c s) (contract_at f g t k c s)
contract_walked m f d g t k None s = subst (λ (b : Bool). AreWalked (Only (taken_where b (listed g.parameters) (prototype_in (slice_get s.sides k)) s)) (contract_at f g t k None s)) (sym d.takes) (only_walked _)
contract_walked m f d g t k (Some c) s = d.contract _ c s

item_walked : (m : Meanings) (f : Walks) → AnnotationsAreWalked m f → (x : Item) (s : Scope) → AreWalked (WalksItem m x s) (item_of f x s)
item_walked m f d (items.Opaque p n) s = only_walked _
item_walked m f d (items.Struct p n xs) s = only_walked _
item_walked m f d (items.FunctionType p g c) s = then_walked (only_walked _) (λ t. then_walked (then_walked (only_walked _) (optional_walked _ _ (d.contract _) c)) (λ u. only_walked _))
item_walked m f d (items.Prototype g k c) s = then_walked (only_walked _) (λ h. then_walked (then_walked (only_walked _) (optional_walked _ _ (d.contract _) c)) (λ t. only_walked _))
item_walked m f d (items.Function g k c b) s = then_walked (only_walked _) (λ h. then_walked (then_walked (then_walked (only_walked _) (contract_walked m f d g h.given _ c)) (body_walked m f d g.name h.given b)) (λ t. only_walked _))
item_walked m f d (items.Ghost g) s = d.item g s

pub items_walked : (m : Meanings) (f : Walks) → AnnotationsAreWalked m f → (xs : List Item) (s : Scope) → AreWalked (WalksItems m xs s) (items_of f xs s)
items_walked m f d [] s = only_walked _
items_walked m f d (x ∷ xs) s = then_walked (item_walked m f d x s) (items_walked m f d xs)

-- where the walk over items comes to something the function finds that
pub items_come : {m : Meanings} {f : Walks} → AnnotationsAreWalked m f → (xs : List Item) (s : Scope) {w : Walked} → WalksItems m xs s w → items_of f xs s ≡ w
items_come {m = m} {f = f} d xs s {w = w} h = (items_walked m f d xs s).comes w h

-- and the walk comes to what the function finds
pub items_found : {m : Meanings} {f : Walks} → AnnotationsAreWalked m f → (xs : List Item) (s : Scope) → WalksItems m xs s (items_of f xs s)
items_found {m = m} {f = f} d xs s = (items_walked m f d xs s).found
