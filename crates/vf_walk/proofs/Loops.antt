-- Loops over lists: the walk over what is left comes to the same after each item.
use Rattle.std.proofs.Common.{◌≡◌, ℕ, ◌+◌, ◌≤◌, true, false, if◌then◌else◌, List, [], ◌∷◌, ◌++◌, length, drop, Result, Ok, Err, Option, Some, None, slice_get, refl, sym, ap, ◌∙◌, subst}
use Rattle.vf_base.specs.declared.refusal.RuleFault.{RuleFault}
use Rattle.vf_declared.specs.declared.ctype.CType.{CType}
use Rattle.vf_declared.specs.declared.scope.Scope.{Scope}
use Rattle.vf_syntax.specs.StmtTree.{StmtTree, stmt_list}
use Rattle.vf_declared.specs.declared.declaration.Fields.{Fields}
use Rattle.vf_base.specs.declared.refusal.Refusal.{Refusal}
use Rattle.vf_base.specs.declared.place.Place.{Place}
use Rattle.std.specs.Str.{bytes_eq}
use Rattle.std.proofs.lemmas.List.{append_assoc, append-nil}
use Rattle.vf_declared.specs.declared.locals.Local.{Local}
use Rattle.vf_declared.specs.declared.locals.Local.TheVariants as locals
use Rattle.vf_syntax.specs.declared.item.Item.{Item}
use Rattle.vf_syntax.specs.declared.item.Typed.{Typed}
use Rattle.vf_walk.specs.Meanings.{Meanings}
use Rattle.vf_walk.specs.Items.{field_walked, fields_behind, first_renamed, parameters_walked, real_types, WalksItem, WalksItems}
use Rattle.vf_walk.specs.Statements.{variable, WalksStmt, WalksStmts}
use Rattle.vf_walk.specs.Walking.{Walked, behind, Follows, Gives, Then}
use Rattle.vf_walk.specs.Walking as walking
use Rattle.vf_walk.proofs.Lists.{left_at, left_none, left_end}
use Rattle.vf_walk.proofs.Steps.{end_here, ended, stays, stop}

-- whatever the walk over the rest may come to, the whole walk may come to
pub record Leads (P Q : Walked → Type 0) : Type 0 where
  pub leads : (w : Walked) → P w → Q w

-- at the start the rest is the whole
pub leads_here : (P : Walked → Type 0) → Leads P P
leads_here P = record { leads = λ w h. h }

-- a walk that follows the rest follows the whole
follow : {P Q : Walked → Type 0} {r : Result (Unit {0}) RuleFault} {s : Scope} → Leads P Q → Follows P r s → Follows Q r s
follow l (walking.to_end h) = walking.to_end (l.leads _ h)
follow l (walking.to_refusal h) = walking.to_refusal (l.leads _ h)
follow l walking.out_of_memory = walking.out_of_memory

-- a first part is done
part_done : {P W : Walked → Type 0} {Q : Scope → Walked → Type 0} {s : Scope} → P (Ok s) → Leads (Then P Q) W → Leads (Q s) W
part_done h l = record { leads = λ w k. l.leads w (walking.goes h k) }

-- one more statement
pub stmts_more : (m : Meanings) (t : CType) (xs : List StmtTree) (i : ℕ) (x : StmtTree) (s u : Scope) (W : Walked → Type 0) → slice_get xs i ≡ Some x → Follows (WalksStmt m t x s) (Ok tt) u → Leads (WalksStmts m t (stmt_list (drop i xs)) s) W → Leads (WalksStmts m t (stmt_list (drop (i + 1) xs)) u) W
stmts_more m t xs i x s u W h step l = part_done (ended step) (subst (λ (ys : List StmtTree). Leads (WalksStmts m t (stmt_list ys) s) W) (left_at xs i x h) l)

-- a statement is refused
pub stmts_stop : (m : Meanings) (t : CType) (xs : List StmtTree) (i : ℕ) (x : StmtTree) (s u v : Scope) (e : RuleFault) (W : Walked → Type 0) → slice_get xs i ≡ Some x → Follows (WalksStmt m t x s) (Err e) u → Leads (WalksStmts m t (stmt_list (drop i xs)) s) W → Follows W (Err e) v
stmts_stop m t xs i x s u v e W h step l = follow (subst (λ (ys : List StmtTree). Leads (WalksStmts m t (stmt_list ys) s) W) (left_at xs i x h) l) (end_here step refl)

-- no statement stands at an index
pub stmts_none : (m : Meanings) (t : CType) (xs : List StmtTree) (i : ℕ) (s : Scope) (W : Walked → Type 0) → slice_get xs i ≡ None → Leads (WalksStmts m t (stmt_list (drop i xs)) s) W → Follows W (Ok tt) s
stmts_none m t xs i s W h l = follow (subst (λ (ys : List StmtTree). Leads (WalksStmts m t (stmt_list ys) s) W) (left_none xs i h) l) (stays s)

-- the list is done
pub stmts_end : (m : Meanings) (t : CType) (xs : List StmtTree) (i : ℕ) (s : Scope) (W : Walked → Type 0) → length xs ≤ i → Leads (WalksStmts m t (stmt_list (drop i xs)) s) W → Follows W (Ok tt) s
stmts_end m t xs i s W h l = follow (subst (λ (ys : List StmtTree). Leads (WalksStmts m t (stmt_list ys) s) W) (left_end xs i h) l) (stays s)

-- what the fields that are left come to, where one stands first
fields_at : (s : Scope) (xs : List Typed) (i : ℕ) (x : Typed) (fs : Fields) → slice_get xs i ≡ Some x → fields_behind s (drop i xs) fs ≡ behind (fields_behind s (drop (i + 1) xs)) (field_walked s x fs)
fields_at s xs i x fs h = ap (λ ys. fields_behind s ys fs) (left_at xs i x h)

-- one more field
pub fields_more : (s : Scope) (xs : List Typed) (i : ℕ) (x : Typed) (fs gs : Fields) (whole : Result Fields Refusal) → slice_get xs i ≡ Some x → field_walked s x fs ≡ Ok gs → fields_behind s (drop i xs) fs ≡ whole → fields_behind s (drop (i + 1) xs) gs ≡ whole
fields_more s xs i x fs gs whole h step kept = sym (fields_at s xs i x fs h ∙ ap (behind (fields_behind s (drop (i + 1) xs))) step) ∙ kept

-- a field is refused
pub fields_stop : (s : Scope) (xs : List Typed) (i : ℕ) (x : Typed) (fs gs hs : Fields) (e : RuleFault) (whole : Result Fields Refusal) → slice_get xs i ≡ Some x → Gives (Err e) gs (field_walked s x fs) → fields_behind s (drop i xs) fs ≡ whole → Gives (Err e) hs whole
fields_stop s xs i x fs gs hs e whole h step kept = subst (Gives (Err e) hs) (sym (fields_at s xs i x fs h) ∙ kept) (stop (fields_behind s (drop (i + 1) xs)) (field_walked s x fs) e gs hs step)

-- no field stands at an index
pub fields_none : (s : Scope) (xs : List Typed) (i : ℕ) (fs : Fields) → slice_get xs i ≡ None → fields_behind s (drop i xs) fs ≡ Ok fs
fields_none s xs i fs h = ap (λ ys. fields_behind s ys fs) (left_none xs i h)

-- the list is done
pub fields_end : (s : Scope) (xs : List Typed) (i : ℕ) (fs : Fields) → length xs ≤ i → fields_behind s (drop i xs) fs ≡ Ok fs
fields_end s xs i fs h = ap (λ ys. fields_behind s ys fs) (left_end xs i h)

-- what the parameters that are left come to, where one stands first
parameters_at : (xs : List Typed) (i : ℕ) (x : Typed) (s : Scope) → slice_get xs i ≡ Some x → parameters_walked (drop i xs) s ≡ behind (parameters_walked (drop (i + 1) xs)) (variable x.name x.written s)
parameters_at xs i x s h = ap (λ ys. parameters_walked ys s) (left_at xs i x h)

-- one more parameter
pub parameters_more : (xs : List Typed) (i : ℕ) (x : Typed) (s u : Scope) (whole : Walked) → slice_get xs i ≡ Some x → variable x.name x.written s ≡ Ok u → parameters_walked (drop i xs) s ≡ whole → parameters_walked (drop (i + 1) xs) u ≡ whole
parameters_more xs i x s u whole h step kept = sym (parameters_at xs i x s h ∙ ap (behind (parameters_walked (drop (i + 1) xs))) step) ∙ kept

-- a parameter is refused
pub parameters_stop : (xs : List Typed) (i : ℕ) (x : Typed) (s u v : Scope) (e : RuleFault) (whole : Walked) → slice_get xs i ≡ Some x → Gives (Err e) u (variable x.name x.written s) → parameters_walked (drop i xs) s ≡ whole → Gives (Err e) v whole
parameters_stop xs i x s u v e whole h step kept = subst (Gives (Err e) v) (sym (parameters_at xs i x s h) ∙ kept) (stop (parameters_walked (drop (i + 1) xs)) (variable x.name x.written s) e u v step)

-- no parameter stands at an index
pub parameters_none : (xs : List Typed) (i : ℕ) (s : Scope) → slice_get xs i ≡ None → parameters_walked (drop i xs) s ≡ Ok s
parameters_none xs i s h = ap (λ ys. parameters_walked ys s) (left_none xs i h)

-- the list is done
pub parameters_end : (xs : List Typed) (i : ℕ) (s : Scope) → length xs ≤ i → parameters_walked (drop i xs) s ≡ Ok s
parameters_end xs i s h = ap (λ ys. parameters_walked ys s) (left_end xs i h)

-- the types of a first local and of those behind it
types_first : (x : Local) (xs : List Local) → real_types (x ∷ xs) ≡ real_types (x ∷ []) ++ real_types xs
types_first (locals.Real t) xs = refl
types_first (locals.Ghost g) xs = refl

-- one more local
pub types_more : (xs : List Local) (i : ℕ) (x : Local) (ts us whole : List CType) → slice_get xs i ≡ Some x → us ≡ ts ++ real_types (x ∷ []) → ts ++ real_types (drop i xs) ≡ whole → us ++ real_types (drop (i + 1) xs) ≡ whole
types_more xs i x ts us whole h is kept = ap (λ ys. ys ++ real_types (drop (i + 1) xs)) is ∙ append_assoc ts (real_types (x ∷ [])) (real_types (drop (i + 1) xs)) ∙ ap (λ ys. ts ++ ys) (sym (types_first x (drop (i + 1) xs))) ∙ sym (ap (λ ys. ts ++ real_types ys) (left_at xs i x h)) ∙ kept

-- no local stands at an index
pub types_none : (xs : List Local) (i : ℕ) (ts : List CType) → slice_get xs i ≡ None → ts ++ real_types (drop i xs) ≡ ts
types_none xs i ts h = ap (λ ys. ts ++ real_types ys) (left_none xs i h) ∙ append-nil ts

-- the list is done
pub types_end : (xs : List Local) (i : ℕ) (ts : List CType) → length xs ≤ i → ts ++ real_types (drop i xs) ≡ ts
types_end xs i ts h = ap (λ ys. ts ++ real_types ys) (left_end xs i h) ∙ append-nil ts

-- what names and parameters that are left come to, where one of each stands first
renamed_at : (ns : List (List ℕ)) (ps : List Typed) (i : ℕ) (n : List ℕ) (p : Typed) → slice_get ns i ≡ Some n → slice_get ps i ≡ Some p → first_renamed (drop i ns) (drop i ps) ≡ (if bytes_eq n p.name.text then first_renamed (drop (i + 1) ns) (drop (i + 1) ps) else Some p.name.place)
renamed_at ns ps i n p h k = ap (λ xs. first_renamed xs (drop i ps)) (left_at ns i n h) ∙ ap (λ ys. first_renamed (n ∷ drop (i + 1) ns) ys) (left_at ps i p k)

-- a parameter has another name
pub renamed_here : (ns : List (List ℕ)) (ps : List Typed) (i : ℕ) (n : List ℕ) (p : Typed) → slice_get ns i ≡ Some n → slice_get ps i ≡ Some p → bytes_eq n p.name.text ≡ false → first_renamed (drop i ns) (drop i ps) ≡ Some p.name.place
renamed_here ns ps i n p h k e = renamed_at ns ps i n p h k ∙ ap (λ b. if b then first_renamed (drop (i + 1) ns) (drop (i + 1) ps) else Some p.name.place) e

-- a parameter has the same name
pub renamed_more : (ns : List (List ℕ)) (ps : List Typed) (i : ℕ) (n : List ℕ) (p : Typed) (whole : Option Place) → slice_get ns i ≡ Some n → slice_get ps i ≡ Some p → bytes_eq n p.name.text ≡ true → first_renamed (drop i ns) (drop i ps) ≡ whole → first_renamed (drop (i + 1) ns) (drop (i + 1) ps) ≡ whole
renamed_more ns ps i n p whole h k e kept = sym (renamed_at ns ps i n p h k ∙ ap (λ b. if b then first_renamed (drop (i + 1) ns) (drop (i + 1) ps) else Some p.name.place) e) ∙ kept

-- nothing is renamed where there are no parameters
pub renamed_nothing : (ns : List (List ℕ)) → first_renamed ns [] ≡ None
renamed_nothing [] = refl
renamed_nothing (n ∷ ns) = refl

-- no parameter stands at an index
pub renamed_none : (ns : List (List ℕ)) (ps : List Typed) (i : ℕ) → slice_get ps i ≡ None → first_renamed (drop i ns) (drop i ps) ≡ None
renamed_none ns ps i h = ap (λ ys. first_renamed (drop i ns) ys) (left_none ps i h) ∙ renamed_nothing (drop i ns)

-- no name stands at an index
pub renamed_nameless : (ns : List (List ℕ)) (ps : List Typed) (i : ℕ) → slice_get ns i ≡ None → first_renamed (drop i ns) (drop i ps) ≡ None
renamed_nameless ns ps i h = ap (λ xs. first_renamed xs (drop i ps)) (left_none ns i h)

-- the list is done
pub renamed_end : (ns : List (List ℕ)) (ps : List Typed) (i : ℕ) → length ps ≤ i → first_renamed (drop i ns) (drop i ps) ≡ None
renamed_end ns ps i h = ap (λ ys. first_renamed (drop i ns) ys) (left_end ps i h) ∙ renamed_nothing (drop i ns)

-- one more item
pub items_more : (m : Meanings) (xs : List Item) (i : ℕ) (x : Item) (s u : Scope) (W : Walked → Type 0) → slice_get xs i ≡ Some x → Follows (WalksItem m x s) (Ok tt) u → Leads (WalksItems m (drop i xs) s) W → Leads (WalksItems m (drop (i + 1) xs) u) W
items_more m xs i x s u W h step l = part_done (ended step) (subst (λ (ys : List Item). Leads (WalksItems m ys s) W) (left_at xs i x h) l)

-- an item is refused
pub items_stop : (m : Meanings) (xs : List Item) (i : ℕ) (x : Item) (s u v : Scope) (e : RuleFault) (W : Walked → Type 0) → slice_get xs i ≡ Some x → Follows (WalksItem m x s) (Err e) u → Leads (WalksItems m (drop i xs) s) W → Follows W (Err e) v
items_stop m xs i x s u v e W h step l = follow (subst (λ (ys : List Item). Leads (WalksItems m ys s) W) (left_at xs i x h) l) (end_here step refl)

-- no item stands at an index
pub items_none : (m : Meanings) (xs : List Item) (i : ℕ) (s : Scope) (W : Walked → Type 0) → slice_get xs i ≡ None → Leads (WalksItems m (drop i xs) s) W → Follows W (Ok tt) s
items_none m xs i s W h l = follow (subst (λ (ys : List Item). Leads (WalksItems m ys s) W) (left_none xs i h) l) (stays s)

-- the list is done
pub items_end : (m : Meanings) (xs : List Item) (i : ℕ) (s : Scope) (W : Walked → Type 0) → length xs ≤ i → Leads (WalksItems m (drop i xs) s) W → Follows W (Ok tt) s
items_end m xs i s W h l = follow (subst (λ (ys : List Item). Leads (WalksItems m ys s) W) (left_end xs i h) l) (stays s)
