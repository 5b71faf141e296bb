-- A header shows the same names of annotations behind the items of two units.
use Rattle.std.proofs.Common.{◌≡◌, refl, sym, ap, subst, ◌∙◌, ℕ, Bool, true, List, [], ◌∷◌, length, None, Ok}
use Rattle.vf_declared.specs.declared.scope.Scope.{Scope}
use Rattle.vf_declared.specs.Scopes.{at_name, declaration_of, declared_in}
use Rattle.vf_syntax.specs.declared.item.Item.{Item}
use Rattle.vf_syntax.specs.declared.item.Item.TheVariants as items
use Rattle.vf_asserting.specs.Cases.{ghost_number}
use Rattle.vf_datatypes.specs.declared.stated.Stated.{Stated}
use Rattle.vf_annotations.specs.Forms.{meanings}
use Rattle.vf_walk.specs.Items.{WalksItems}
use Rattle.vf_header_laws.specs.c_names.Items.{IsBetweenItems}
use Rattle.vf_header_laws.specs.c_names.Parts.{is_part_of}
use Rattle.vf_header_laws.specs.c_names.Same.{ConsistsOfHeaders, neither}
use Rattle.vf_header_laws.specs.c_names.Units.{IsBeginning, IsHeaderOfBoth}
use Rattle.vf_header_laws.proofs.c_names.Elsewhere.{consists_same}
use Rattle.vf_header_laws.proofs.c_names.Files.{OfOneUnit, part_same}
use Rattle.vf_header_laws.proofs.c_names.Growing.{both_at}
use Rattle.vf_header_laws.proofs.c_names.Steps.{ok_same, went}
use Rattle.vf_header_laws.proofs.c_names.Types.{both_map}
use Rattle.vf_header_laws.specs.ghost_names.Items.{IsDeclaredOutside, IsFormInside}
use Rattle.vf_header_laws.specs.ghost_names.Same.{ShowTheSameGhosts}
use Rattle.vf_header_laws.specs.ghost_names.Units.{HaveTheSameGhosts, HeadersMeanTheSameGhosts, inside, none, outside_first, outside_second, UnitsShowTheSameGhosts}
use Rattle.vf_header_laws.proofs.ghost_names.Behind.{form_behind, form_between}
use Rattle.vf_header_laws.proofs.ghost_names.Elsewhere.{item_unseen, IsUnseen}
use Rattle.vf_header_laws.proofs.ghost_names.Growing.{grows_itself, stand_grow}
use Rattle.vf_header_laws.proofs.ghost_names.Inside.{forms_inside_show_the_same}
use Rattle.vf_header_laws.proofs.ghost_names.Two.{AreTwo, part_both, two_grow}

parts_same : {s t : Scope} (header : ℕ) → OfOneUnit s t → is_part_of s header ≡ is_part_of t header
parts_same header h = λ i x. sym (part_same header x h) i

-- a header that sees what it saw shows what it showed
itself : {s : Scope} (header : ℕ) → IsBetweenItems s → IsUnseen header s s
itself {s} header b = record { grows = grows_itself s; names = λ from name p. refl; between = b }

shows_as_before : {header : ℕ} {s t u v : Scope} → AreTwo header s t → IsUnseen header s u → IsUnseen header t v → ShowTheSameGhosts header s t → ShowTheSameGhosts header u v
shows_as_before {header} {s} {t} {u} {v} two h k r = record {
  files = (two_grow h.grows.unit k.grows.unit two).files;
  names = λ from name p.
      let q : is_part_of s header from ≡ true = sym (part_same header from h.grows.unit) ∙ p in
      both_at (h.names from name q) (k.names from name (sym (part_both two from) ∙ q)) (both_map (λ n m z. stand_grow h.grows k.grows z) (r.names from name q));
}

units_show : (header : ℕ) (d e : Stated) (part : ℕ → Bool) (xs ys : List Item) (s t u v : Scope) → HaveTheSameGhosts part xs ys → part ≡ is_part_of s header → part ≡ is_part_of t header → ConsistsOfHeaders s header → ConsistsOfHeaders t header → IsBetweenItems s → IsBetweenItems t → WalksItems (meanings d) xs s (Ok u) → WalksItems (meanings e) ys t (Ok v) → ShowTheSameGhosts header s t → ShowTheSameGhosts header u v
units_show header d e part [] [] s t u v none p q c f a b i j h = subst (λ z. ShowTheSameGhosts header z v) (ok_same i.is) (subst (ShowTheSameGhosts header s) (ok_same j.is) h)
units_show header d e part (items.Ghost x ∷ xs) (items.Ghost y ∷ ys) s t u v (inside w r) p q c f a b i j h =
    let k = went i in
    let l = went j in
    let first = (form_behind d x.form s k.at a.names k.first).grows.unit in
    let second = (form_behind e x.form t l.at b.names l.first).grows.unit in
    units_show header d e part xs ys k.at l.at u v r (p ∙ parts_same header first) (q ∙ parts_same header second) (consists_same first c) (consists_same second f) (form_between d x.form s k.at a k.first) (form_between e x.form t l.at b l.first) k.next l.next
    (forms_inside_show_the_same header d e x.form s t k.at l.at c f a b (subst (λ z. IsFormInside z x.form) p w) k.first l.first h)
units_show header d e part (x ∷ xs) ys s t u v (outside_first w r) p q c f a b i j h =
    let k = went i in
    let first = item_unseen header d x s k.at c a (subst (λ z. IsDeclaredOutside z x) p w) k.first in
    units_show header d e part xs ys k.at t u v r (p ∙ parts_same header first.grows.unit) q (consists_same first.grows.unit c) f first.between b k.next j
    (shows_as_before (record { first = c; second = f; files = h.files }) first (itself header b) h)
units_show header d e part xs (y ∷ ys) s t u v (outside_second w r) p q c f a b i j h =
    let l = went j in
    let second = item_unseen header e y t l.at f b (subst (λ z. IsDeclaredOutside z y) q w) l.first in
    units_show header d e part xs ys s l.at u v r p (q ∙ parts_same header second.grows.unit) c (consists_same second.grows.unit f) a second.between i l.next
    (shows_as_before (record { first = c; second = f; files = h.files }) (itself header a) second h)

pub headers_mean_the_same_ghosts : HeadersMeanTheSameGhosts
headers_mean_the_same_ghosts header d e xs ys s t u v c f a b r i j h =
    let two : AreTwo header s t = record { first = c; second = f; files = h.files } in
    units_show header d e (is_part_of s header) xs ys s t u v r refl (λ k x. part_both two x k) c f a b i j h

-- ---- beginnings
beginnings_show : (header : ℕ) (s t : Scope) → IsBeginning s → IsBeginning t → IsHeaderOfBoth header s t → ShowTheSameGhosts header s t
beginnings_show header s t a b h = record {
  files = h.files;
  names = λ from name p. both_at (ap ghost_number (nothing_there s name from a)) (ap ghost_number (nothing_there t name from b)) neither;
}
  where
    nothing_there : (s : Scope) (name : List ℕ) (from : ℕ) → IsBeginning s → declaration_of s name from ≡ None
    nothing_there s name from b = ap (λ xs. declared_in s from (at_name xs s.declarations name)) b.names

-- in front of the items of a unit is a place between items
pub between_beginning : (s : Scope) → IsBeginning s → IsBetweenItems s
between_beginning s b = record {
  names = ap length b.names ∙ sym (ap length b.declarations);
  tags = ap length b.tags ∙ sym (ap length b.structures);
  cleared = b.locals;
}

pub units_show_the_same_ghosts : UnitsShowTheSameGhosts
units_show_the_same_ghosts header d e xs ys s t u v a b h r i j = headers_mean_the_same_ghosts header d e xs ys s t u v h.first h.second (between_beginning s a) (between_beginning t b) r i j (beginnings_show header s t a b h)
