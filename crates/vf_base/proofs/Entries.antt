-- Lists of paths with their bytes, read from the front.
use Rattle.std.proofs.Common.{◌≡◌, ◌≢◌, ℕ, zero, suc, ◌+◌, ◌<◌, length, Bool, true, false, cond, List, [], ◌∷◌, ◌++◌, take, set, get_or, Some, None, slice_get, refl, sym, ap, ◌∙◌, add-one}
use Rattle.std.specs.Ordering.{nat_cmp, is_eq, eq_by_cmp}
use Rattle.std.specs.declared.cmp.Ordering.{Ordering}
use Rattle.std.specs.declared.cmp.Ordering.TheVariants.{Less, Equal, Greater}
use Rattle.std.specs.Cmp.{tied_itself}
use Rattle.std.specs.Cmp.Lexicographic.{slice_cmp, nat_list_cmp_total}
use Rattle.std.specs.FinMap.{find, from_entries, insert, get, get-from_entries, get-insert, same_map, from_entries_push, slice_cmp-IsAntisymmetric, nat_cmp-IsAntisymmetric}
use Rattle.std.proofs.lemmas.Option.{get_or_from_slice_get, slice_get_read}
use Rattle.vf_base.specs.Outside.{FileMap, ChangesAtMost}
use Rattle.vf_base.specs.InMemory.{IsFirstAt, IsNowhere}

abbrev pub Entries : Type 0
Entries = List (List ℕ × List ℕ)

-- the order of paths
abbrev pub path_cmp : List ℕ → List ℕ → Ordering
path_cmp = slice_cmp nat_cmp

equal : (o : Ordering) → is_eq o ≡ true → o ≡ Equal
equal Less e = cc
equal Equal e = refl
equal Greater e = cc

pub same_path : (p q : List ℕ) → eq_by_cmp path_cmp p q ≡ true → p ≡ q
same_path p q e = slice_cmp-IsAntisymmetric nat_cmp-IsAntisymmetric p q (equal (path_cmp p q) e)

pub own_path : (p : List ℕ) → eq_by_cmp path_cmp p p ≡ true
own_path p = ap is_eq (tied_itself nat_list_cmp_total p)

decided : (b : Bool) → (b ≡ true → ⊥) → b ≡ false
decided true apart = absurd (apart refl)
decided false apart = refl

pub other_path : (p q : List ℕ) → p ≢ q → eq_by_cmp path_cmp p q ≡ false
other_path p q apart = decided _ (λ e. apart (same_path p q e))

-- where a list has no entry at a path, neither its first entry nor the rest is at it
missed_first : (b : Bool) (x : List ℕ) (o : _) → cond b (Some x) o ≡ None → b ≡ false
missed_first true x o e = cc
missed_first false x o e = refl

missed_rest : (b : Bool) (x : List ℕ) (o : _) → cond b (Some x) o ≡ None → o ≡ None
missed_rest true x o e = cc
missed_rest false x o e = e

-- an entry at another path is passed
pub find-take_more : (es : Entries) (i : ℕ) (path : List ℕ) (e : List ℕ × List ℕ) → slice_get es i ≡ Some e → path ≢ e.0 → find path_cmp path (take i es) ≡ None → find path_cmp path (take (suc i) es) ≡ None
find-take_more [] i path e is other none = cc
find-take_more (x ∷ es) zero path e is other none =
    let first : x ≡ e = cc in
    rw (first, other_path path e.0 other) refl
find-take_more (x ∷ es) (suc i) path e is other none =
    let apart : eq_by_cmp path_cmp path x.0 ≡ false = missed_first _ _ _ none in
    rw apart (find-take_more es i path e is other (missed_rest _ _ _ none))

-- the first entry at a path is the one that is found
pub find_first_at : (es : Entries) (i : ℕ) (path bytes : List ℕ) → slice_get es i ≡ Some (path, bytes) → find path_cmp path (take i es) ≡ None → find path_cmp path es ≡ Some bytes
find_first_at [] i path bytes is none = cc
find_first_at (x ∷ es) zero path bytes is none =
    let first : x ≡ (path, bytes) = cc in
    rw (first, own_path path) refl
find_first_at (x ∷ es) (suc i) path bytes is none =
    let apart : eq_by_cmp path_cmp path x.0 ≡ false = missed_first _ _ _ none in
    rw apart (find_first_at es i path bytes is (missed_rest _ _ _ none))

-- the second of two like tests is never reached
twice : {A : Type 0} (b : Bool) (x y z : A) → cond b x z ≡ cond b x (cond b y z)
twice true x y z = refl
twice false x y z = refl

-- two tests that do not both hold change places
swapped : {A : Type 0} (a b : Bool) (x y z : A) → (a ≡ true → b ≡ true → ⊥) → cond a x (cond b y z) ≡ cond b y (cond a x z)
swapped true true x y z apart = absurd (apart refl refl)
swapped true false x y z apart = refl
swapped false b x y z apart = refl

differ : {a b : Bool} → a ≡ b → a ≡ true → b ≡ false → ⊥
differ e p q = cc

-- to write at the first entry of a path is to insert
find-set_first : (es : Entries) (i : ℕ) (path old new q : List ℕ) → slice_get es i ≡ Some (path, old) → find path_cmp path (take i es) ≡ None → find path_cmp q (set es i (path, new)) ≡ cond (eq_by_cmp path_cmp q path) (Some new) (find path_cmp q es)
find-set_first [] i path old new q is none = cc
find-set_first (x ∷ es) zero path old new q is none =
    let first : x ≡ (path, old) = cc in
    rw first (twice (eq_by_cmp path_cmp q path) (Some new) (Some old) (find path_cmp q es))
find-set_first (x ∷ es) (suc i) path old new q is none =
    ap (cond (eq_by_cmp path_cmp q x.0) (Some x.1)) (find-set_first es i path old new q is (missed_rest _ _ _ none))
    ∙ (swapped (eq_by_cmp path_cmp q x.0) (eq_by_cmp path_cmp q path) (Some x.1) (Some new) (find path_cmp q es) (λ a b. differ (ap (λ p. eq_by_cmp path_cmp p x.0) (same_path q path b)) a (missed_first _ _ _ none)))

pub from_entries-set_first : (es : Entries) (i : ℕ) (path old new : List ℕ) → slice_get es i ≡ Some (path, old) → find path_cmp path (take i es) ≡ None → from_entries {R = path_cmp} (set es i (path, new)) ≡ insert (from_entries es) path new
from_entries-set_first es i path old new is none =
    same_map nat_list_cmp_total (slice_cmp-IsAntisymmetric nat_cmp-IsAntisymmetric) _ _
    (λ q. get-from_entries nat_list_cmp_total _ q ∙ find-set_first es i path old new q is none
    ∙ sym (get-insert nat_list_cmp_total _ path new q ∙ ap (cond (eq_by_cmp path_cmp q path) (Some new)) (get-from_entries nat_list_cmp_total es q)))

-- to put an entry at a new path at the end is to insert
pub from_entries-push : (es : Entries) (path new : List ℕ) → find path_cmp path es ≡ None → from_entries {R = path_cmp} (es ++ (path, new) ∷ []) ≡ insert (from_entries es) path new
from_entries-push es path new none = from_entries_push nat_list_cmp_total (slice_cmp-IsAntisymmetric nat_cmp-IsAntisymmetric) es path new none

-- what a search from the front answers is what the map has
pub get-first : (read kept : Entries) (i : ℕ) (path : List ℕ) (e : List ℕ × List ℕ) → IsFirstAt read path i → read ≡ kept → e ≡ get_or read i e → (bytes : List ℕ) → bytes ≡ (get_or read i e).1 → Some bytes ≡ get (from_entries {R = path_cmp} kept) path
get-first read kept i path e first same is bytes content =
    let there : e ≡ (path, first.0.0) = is ∙ get_or_from_slice_get read i _ e first.0.1 in
    let found : find path_cmp path read ≡ Some first.0.0 = find_first_at read i path first.0.0 first.0.1 first.1 in
    ap Some (content ∙ ap (λ (x : List ℕ × List ℕ). x.1) (sym is ∙ there)) ∙ sym found ∙ ap (find path_cmp path) same ∙ sym (get-from_entries nat_list_cmp_total kept path)

pub get-nowhere : (read kept : Entries) (path : List ℕ) → IsNowhere read path → read ≡ kept → None ≡ get (from_entries {R = path_cmp} kept) path
get-nowhere read kept path none same = sym none ∙ ap (find path_cmp path) same ∙ sym (get-from_entries nat_list_cmp_total kept path)

-- the index of an entry at the path, with none before it
pub first_at : (es : Entries) (i : ℕ) (path : List ℕ) (e : List ℕ × List ℕ) → i < length es → e ≡ get_or es i e → e.0 ≡ path → IsNowhere (take i es) path → IsFirstAt es path i
first_at es i path e within is same none = ((e.1, slice_get_read es _ i e refl within is ∙ ap (λ p. Some (p, e.1)) same), none)

pub passed_at : (es : Entries) (i : ℕ) (path : List ℕ) (e : List ℕ × List ℕ) → i < length es → e ≡ get_or es i e → path ≢ e.0 → IsNowhere (take i es) path → IsNowhere (take (i + 1) es) path
passed_at es i path e within is other none = rw add-one (find-take_more es i path e (slice_get_read es _ i e refl within is) other none)

-- what a write at the first entry, or at the end, makes of the map
pub map-set_first : (read kept made : Entries) (i : ℕ) (path new name content : List ℕ) → IsFirstAt read path i → read ≡ kept → name ≡ path → content ≡ new → made ≡ set kept i (name, content) → from_entries {R = path_cmp} made ≡ insert (from_entries kept) path new
map-set_first read kept made i path new name content first same named filled is =
    let start : slice_get kept i ≡ Some (path, first.0.0) = ap (λ es. slice_get es i) (sym same) ∙ first.0.1 in
    let none : find path_cmp path (take i kept) ≡ None = ap (λ es. find path_cmp path (take i es)) (sym same) ∙ first.1 in
    ap from_entries (is ∙ ap (λ n. set kept i (n, content)) named ∙ ap (λ b. set kept i (path, b)) filled) ∙ from_entries-set_first kept i path first.0.0 new start none

pub map-push : (read kept made : Entries) (path new name content : List ℕ) → IsNowhere read path → read ≡ kept → name ≡ path → content ≡ new → made ≡ kept ++ (name, content) ∷ [] → from_entries {R = path_cmp} made ≡ insert (from_entries kept) path new
map-push read kept made path new name content none same named filled is =
    let nowhere : find path_cmp path kept ≡ None = ap (find path_cmp path) (sym same) ∙ none in
    ap from_entries (is ∙ ap (λ n. kept ++ (n, content) ∷ []) named ∙ ap (λ b. kept ++ (path, b) ∷ []) filled) ∙ from_entries-push kept path new nowhere

-- to insert at a path keeps the others
pub others_kept : (m : FileMap) (path bytes : List ℕ) → ChangesAtMost (Some m) (Some (insert m path bytes)) path
others_kept m path bytes = λ other apart.
    get-insert nat_list_cmp_total m path bytes other ∙ ap (λ b. cond b (Some bytes) (get m other)) (other_path other path apart)
