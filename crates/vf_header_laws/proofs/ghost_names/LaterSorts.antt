-- Over which sorts predicates are told of, as a header sees them.
use Rattle.std.proofs.Common.{◌≡◌, refl, sym, ap, subst, ◌∙◌, ℕ, Bool, true, false, ◌&&◌, ◌||◌, if◌then◌else◌, List, [], ◌∷◌, length, Option, Some, None, Ok}
use Rattle.std.specs.Option.{option_or}
use Rattle.std.specs.Str.{bytes_eq}
use Rattle.std.specs.Cmp.Lexicographic.{bytes_decides}
use Rattle.std.proofs.lemmas.Bool.{false≢true}
use Rattle.vf_names.specs.Names.{number_of}
use Rattle.vf_sorts.specs.Sorts.{Sort}
use Rattle.vf_declared.specs.declared.declaration.Declaration.{Declaration}
use Rattle.vf_declared.specs.declared.declaration.GhostDeclaration.{GhostDeclaration}
use Rattle.vf_declared.specs.declared.declaration.GhostDeclaration.TheVariants as ghosts
use Rattle.vf_declared.specs.declared.declaration.Meaning.TheVariants as meaning
use Rattle.vf_declared.specs.declared.scope.Scope.{Scope}
use Rattle.vf_declared.specs.Scopes.{at_index, at_name, ghost_of, is_declared, is_visible, sees, stands_in}
use Rattle.vf_syntax.specs.declared.item.GhostForm.{GhostForm}
use Rattle.vf_syntax.specs.declared.item.GhostForm.TheVariants as forms
use Rattle.vf_syntax.specs.declared.item.Item.{Item}
use Rattle.vf_syntax.specs.declared.item.Item.TheVariants as items
use Rattle.vf_syntax.specs.declared.written.Name.{Name}
use Rattle.vf_syntax.specs.AssertionTree.{part_list}
use Rattle.vf_datatypes.specs.declared.stated.Stated.{Stated}
use Rattle.vf_gathering.specs.Named.{in_front, predicate_in, predicate_of, predicates_in}
use Rattle.vf_gathering.specs.Standing.{files_of}
use Rattle.vf_asserting.specs.Cases.{ghost_number}
use Rattle.vf_annotations.specs.Forms.{FormComes, meanings}
use Rattle.vf_walk.specs.Items.{WalksItem, WalksItems}
use Rattle.vf_header_laws.specs.c_names.Items.{IsBetweenItems}
use Rattle.vf_header_laws.specs.c_names.Parts.{is_part_of}
use Rattle.vf_header_laws.specs.c_names.Same.{Both, both, neither}
use Rattle.vf_header_laws.proofs.c_names.Files.{part_same, visible_alike}
use Rattle.vf_header_laws.proofs.c_names.Growing.{both_at}
use Rattle.vf_header_laws.proofs.c_names.Lists.{is_name, none_some, some_same}
use Rattle.vf_header_laws.proofs.c_names.Steps.{ok_same, went}
use Rattle.vf_header_laws.specs.ghost_names.Later.{ForeseeTheSame, KnowsPredicates, stands_anywhere}
use Rattle.vf_header_laws.specs.ghost_names.LaterSorts.{AreDeclaredAsTold, IsDeclaredAsTold, LaterSortsAgree, SortsAreForeseen, SortsStayForeseen, told_of}
use Rattle.vf_header_laws.specs.ghost_names.Meaning.{ghost_at}
use Rattle.vf_header_laws.specs.ghost_names.Same.{AreOneSorts, DeclareTheSame, ShowTheSameGhosts, StandForTheSame}
use Rattle.vf_header_laws.specs.ghost_names.Same as same
use Rattle.vf_header_laws.proofs.ghost_names.Declaring.{again_adds, new_means}
use Rattle.vf_header_laws.proofs.ghost_names.Growing.{Grows, grows_both, grows_itself, is_ghost_name}
use Rattle.vf_header_laws.proofs.ghost_names.Heads.{again, Declares, new, predicate_body_declares, predicate_declares}
use Rattle.vf_header_laws.proofs.ghost_names.Later.{files_seen, item_then, items_then, predicates_are_foreseen, stands_same}
use Rattle.vf_header_laws.proofs.ghost_names.Rest.{KeepsPredicates}
use Rattle.vf_header_laws.proofs.ghost_names.Units.{between_beginning, units_show_the_same_ghosts}

-- ---- a predicate is declared in each file in which it stands
abbrev IsGhost : Scope → List ℕ → ℕ → Type 0
IsGhost s x from = (k : ℕ) × (ghost_at s x from ≡ Some k)

ghost_grows : {s t : Scope} (x : List ℕ) (from : ℕ) → Grows s t → IsGhost s x from → IsGhost t x from
ghost_grows x from g h = (h.0, g.names x from h.0 h.1)

or_there : (o : Option ℕ) (k : ℕ) → (n : ℕ) × (option_or o (Some k) ≡ Some n)
or_there None k = (k, refl)
or_there (Some m) k = (m, refl)

itself : (x : List ℕ) → bytes_eq x x ≡ true
itself x = (bytes_decides x x).1 refl

-- a name that is declared is seen from each file that sees where it stands
declared_seen : {n : Name} {Q : GhostDeclaration → Type 0} {s t : Scope} (from : ℕ) → length s.names ≡ length s.declarations → Declares n Q s t → sees s from n.place.file ≡ true → IsGhost t n.text from
declared_seen {s = s} from b (new d q) v = (length s.ghosts, new_means from b d v)
declared_seen {n} {s = s} from b (again {k = k} d) v =
    let o = or_there (ghost_at s n.text from) k in (
      o.0,
      (again_adds b d).names n.text from
          ∙ ap (λ w. option_or (ghost_at s n.text from) (if w && sees s from n.place.file then Some k else None)) (itself n.text)
          ∙ ap (λ w. option_or (ghost_at s n.text from) (if w then Some k else None)) v
          ∙ o.1,
    )

form_seen : (d : Stated) (x : GhostForm) (s t : Scope) (n : Name) (from : ℕ) → length s.names ≡ length s.declarations → FormComes d x s (Ok t) → predicate_in x ≡ Some n → sees s from n.place.file ≡ true → IsGhost t n.text from
form_seen d (forms.Predicate m gs) s t n from b h e v = subst (λ (n : Name). sees s from n.place.file ≡ true → IsGhost t n.text from) (some_same e) (declared_seen from b (predicate_declares m gs s h)) v
form_seen d (forms.PredicateBody m gs a) s t n from b h e v = subst (λ (n : Name). sees s from n.place.file ≡ true → IsGhost t n.text from) (some_same e) (declared_seen from b (predicate_body_declares m gs (part_list a) s h)) v
form_seen d (forms.Inductive m ns c cs) s t n from b h e v = none_some e
form_seen d (forms.Fixpoint r m ns gs c) s t n from b h e v = none_some e
form_seen d (forms.Family m i gs) s t n from b h e v = none_some e
form_seen d (forms.Instance f g gs a) s t n from b h e v = none_some e
form_seen d (forms.PredicateConstructor m fs gs a) s t n from b h e v = none_some e
form_seen d (forms.LemmaPrototype m ns gs c) s t n from b h e v = none_some e
form_seen d (forms.Lemma m ns gs c k) s t n from b h e v = none_some e

item_seen : (d : Stated) (x : Item) (s t : Scope) (n : Name) (from : ℕ) → length s.names ≡ length s.declarations → WalksItem (meanings d) x s (Ok t) → predicate_of x ≡ Some n → sees s from n.place.file ≡ true → IsGhost t n.text from
item_seen d (items.Ghost x) s t n from b h e v = form_seen d x.form s t n from b h e v
item_seen d (items.Opaque p m) s t n from b h e v = none_some e
item_seen d (items.Struct p m xs) s t n from b h e v = none_some e
item_seen d (items.FunctionType p g c) s t n from b h e v = none_some e
item_seen d (items.Prototype g k c) s t n from b h e v = none_some e
item_seen d (items.Function g k c x) s t n from b h e v = none_some e

pub items_grow : (d : Stated) (xs : List Item) (s t : Scope) → IsBetweenItems s → WalksItems (meanings d) xs s (Ok t) → Grows s t
items_grow d [] s t b h = subst (Grows s) (ok_same h.is) (grows_itself s)
items_grow d (x ∷ xs) s t b h =
    let k = went h in
    let i = item_then d x s k.at b k.first in
    grows_both i.grows (items_grow d xs k.at t i.between k.next)

either : {A : Type 0} (a b : Bool) → (a || b) ≡ true → (a ≡ true → A) → (b ≡ true → A) → A
either true b e f g = f refl
either false b e f g = g e

-- one more predicate, or none
front_seen : {A : Type 0} (s : Scope) (from : ℕ) (x : List ℕ) (ns : List Name) (o : Option Name) → is_visible s from (files_of x (in_front o ns)) ≡ true → ((n : Name) → o ≡ Some n → x ≡ n.text → sees s from n.place.file ≡ true → A) → (is_visible s from (files_of x ns) ≡ true → A) → A
front_seen s from x ns None e f g = g e
front_seen {A} s from x ns (Some n) e f g = by_test (bytes_eq x n.text) refl e
  where
    by_test : (b : Bool) → bytes_eq x n.text ≡ b → is_visible s from (if b then n.place.file ∷ files_of x ns else files_of x ns) ≡ true → A
    by_test true i v = either (sees s from n.place.file) (is_visible s from (files_of x ns)) v (λ w. f n refl (is_name x n.text i) w) g
    by_test false i v = g v

stands_seen : (d : Stated) (xs : List Item) (s u : Scope) (x : List ℕ) (from : ℕ) → IsBetweenItems s → WalksItems (meanings d) xs s (Ok u) → is_visible s from (files_of x (predicates_in xs)) ≡ true → IsGhost u x from
stands_seen d [] s u x from b h v = absurd (false≢true v)
stands_seen d (y ∷ ys) s u x from b h v =
    let k = went h in
    let i = item_then d y s k.at b k.first in
    front_seen s from x (predicates_in ys) (predicate_of y) v
    (λ n e f w. ghost_grows x from (items_grow d ys k.at u i.between k.next) (subst (λ x. IsGhost k.at x from) (sym f) (item_seen d y s k.at n from b.names k.first e w)))
    (λ w. stands_seen d ys k.at u x from i.between k.next (visible_alike from (files_of x (predicates_in ys)) i.grows.unit ∙ w))

-- ---- a predicate is declared as it is told
-- what is told of a predicate, and what it is declared by
record IsToldOf (s u : Scope) (name : List ℕ) (from : ℕ) : Type 0 where
  sorts : List Sort
  told : told_of s name from ≡ Some sorts
  number : ℕ
  means : ghost_at u name from ≡ Some number
  is : ghost_of u number ≡ Some (ghosts.Predicate sorts)

is_told : (s u : Scope) (name : List ℕ) (from : ℕ) → AreDeclaredAsTold s u → stands_anywhere s name from ≡ true → IsGhost u name from → IsToldOf s u name from
is_told s u name from a v g = by_number (number_of s.predicates name) refl v
  where
    by_number : (o : Option ℕ) → number_of s.predicates name ≡ o → stands_in s from (at_index s.predicate_files o) ≡ true → IsToldOf s u name from
    by_number None e w = absurd (false≢true w)
    by_number (Some k) e w =
        let i : IsDeclaredAsTold s u name k = a name k e in
        let j = is_ghost_name u name from g.0 g.1 in
        let d : j.declaration ≡ i.declaration = some_same (sym j.at ∙ i.found) in
        let m : meaning.Ghost g.0 ≡ meaning.Ghost i.number = sym j.means ∙ (ap (λ (d : Declaration). d.meaning) d ∙ i.means) in
        record {
          sorts = i.sorts;
          told = ap (λ b. if b then at_name s.predicates s.predicate_sorts name else None) v ∙ (ap (at_index s.predicate_sorts) e ∙ i.told);
          number = i.number;
          means = g.1 ∙ ap (λ m. ghost_number (Some m)) m;
          is = i.is;
        }

-- predicates that are the same are over the same sorts
over_same : {header : ℕ} {u v : Scope} {f g : GhostDeclaration} (ts us : List Sort) → DeclareTheSame header u v f g → f ≡ ghosts.Predicate ts → g ≡ ghosts.Predicate us → AreOneSorts header u v ts us
over_same {header} {u} {v} ts us (same.predicates {ts = ts₁} {us = us₁} r) e f =
    let h : ts₁ ≡ ts = cc in
    let k : us₁ ≡ us = cc in
    subst (λ ts. AreOneSorts header u v ts us) h (subst (AreOneSorts header u v ts₁) k r)
over_same ts us (same.datatypes a b r) e f = absurd cc
over_same ts us (same.constructors a r) e f = absurd cc
over_same ts us (same.fixpoints a r q) e f = absurd cc
over_same ts us (same.families a r) e f = absurd cc
over_same ts us (same.predicate_constructors q r) e f = absurd cc
over_same ts us (same.lemmas a r) e f = absurd cc

stand_over : {header : ℕ} {u v : Scope} (n m : ℕ) (ts us : List Sort) → ghost_of u n ≡ Some (ghosts.Predicate ts) → ghost_of v m ≡ Some (ghosts.Predicate us) → Both (StandForTheSame header u v) (Some n) (Some m) → AreOneSorts header u v ts us
stand_over n m ts us e f (both r) = over_same ts us r.same (some_same (sym r.at_first ∙ e)) (some_same (sym r.at_second ∙ f))

-- ---- whole units
not_told : (s : Scope) (name : List ℕ) (from : ℕ) → stands_anywhere s name from ≡ false → told_of s name from ≡ None
not_told s name from e = ap (λ b. if b then at_name s.predicates s.predicate_sorts name else None) e

-- what stands in one of two units is told of and declared
stands_told : (d : Stated) (xs : List Item) (s u : Scope) (name : List ℕ) (from : ℕ) → IsBetweenItems s → KnowsPredicates xs s → AreDeclaredAsTold s u → WalksItems (meanings d) xs s (Ok u) → stands_anywhere s name from ≡ true → IsToldOf s u name from
stands_told d xs s u name from b k a h v = is_told s u name from a v (stands_seen d xs s u name from b h (sym (ap (stands_in s from) (k.files name) ∙ files_seen s from (files_of name (predicates_in xs))) ∙ v))

pub sorts_are_foreseen : SortsAreForeseen
sorts_are_foreseen header d e xs ys s t u v a b h k l m n r i j = record { sorts = λ file name p. by_test file name p (stands_anywhere s name file) refl }
  where
    foreseen : ForeseeTheSame header s t
    foreseen = predicates_are_foreseen header xs ys s t h k l r

    shows : ShowTheSameGhosts header u v
    shows = units_show_the_same_ghosts header d e xs ys s t u v a b h r i j

    by_test : (file : ℕ) (name : List ℕ) → is_part_of s header file ≡ true → (w : Bool) → stands_anywhere s name file ≡ w → Both (AreOneSorts header u v) (told_of s name file) (told_of t name file)
    by_test file name p false f = both_at (not_told s name file f) (not_told t name file (sym (foreseen.predicates file name p) ∙ f)) neither
    by_test file name p true f =
        let first = stands_told d xs s u name file (between_beginning s a) k m i f in
        let second = stands_told e ys t v name file (between_beginning t b) l n j (sym (foreseen.predicates file name p) ∙ f) in
        let part : is_part_of u header file ≡ true = part_same header file (items_grow d xs s u (between_beginning s a) i).unit ∙ p in
        both_at first.told second.told (both (stand_over first.number second.number first.sorts second.sorts first.is second.is (both_at (sym first.means) (sym second.means) (shows.names file name part))))

-- ---- behind items
told_same : (s t : Scope) (name : List ℕ) (from : ℕ) → KeepsPredicates s t → told_of t name from ≡ told_of s name from
told_same s t name from k = λ i. if stands_same s t name from k i then at_name (k.predicates i) (k.predicate_sorts i) name else None

pub sorts_stay_foreseen : SortsStayForeseen
sorts_stay_foreseen header d e xs ys s t p q u v a b h k r =
    let i = items_then d xs s p a h in
    let j = items_then e ys t q b k in
    record { sorts = λ file name w. both_at (told_same s p name file i) (told_same t q name file j) (r.sorts file name (sym (part_same header file i.unit) ∙ w)) }

-- ---- predicates that stand later
-- what is declared stands later no more
pub later_sorts_agree : LaterSortsAgree
later_sorts_agree header s t u v file name h p e = by_test (is_declared s name) refl
  where
    later : Scope → Bool → Option (List Sort)
    later s b = if (if b then false else stands_anywhere s name file) then at_name s.predicates s.predicate_sorts name else None

    by_test : (b : Bool) → is_declared s name ≡ b → Both (AreOneSorts header u v) (later s (is_declared s name)) (later t (is_declared t name))
    by_test true f = both_at (ap (later s) f) (ap (later t) (sym e ∙ f)) neither
    by_test false f = both_at (ap (later s) f) (ap (later t) (sym e ∙ f)) (h.sorts file name p)
