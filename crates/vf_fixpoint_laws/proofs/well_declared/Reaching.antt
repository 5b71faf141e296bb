-- What is declared behind the items of a unit is what was told ahead of them.
use Rattle.std.proofs.Common.{◌≡◌, refl, sym, subst, ◌∙◌, ap, ℕ, ⊎_elim, List, [], ◌∷◌, length, is_some, if◌then◌else◌, Option, Some, None, Ok, slice_get}
use Rattle.vf_names.specs.Names.{number_of}
use Rattle.vf_sorts.specs.Sorts.{Sort}
use Rattle.vf_declared.specs.declared.declaration.GhostDeclaration.{GhostDeclaration}
use Rattle.vf_declared.specs.declared.declaration.GhostDeclaration.TheVariants as ghosts
use Rattle.vf_declared.specs.declared.declaration.Meaning.{Meaning}
use Rattle.vf_declared.specs.declared.declaration.Meaning.TheVariants as meanings
use Rattle.vf_declared.specs.declared.locals.Locals.{Locals}
use Rattle.vf_declared.specs.declared.scope.Scope.{Scope}
use Rattle.vf_declared.specs.Scopes.{declaration_of, ghost_of}
use Rattle.vf_syntax.specs.declared.item.GhostForm.{GhostForm}
use Rattle.vf_syntax.specs.declared.item.GhostForm.TheVariants as forms
use Rattle.vf_syntax.specs.declared.item.GhostParameter.{GhostParameter}
use Rattle.vf_syntax.specs.declared.item.Item.{Item}
use Rattle.vf_syntax.specs.declared.item.Item.TheVariants as items
use Rattle.vf_syntax.specs.declared.written.Name.{Name}
use Rattle.vf_sorting.specs.Schemes.{count_in}
use Rattle.vf_asserting.specs.Cases.{ghost_number}
use Rattle.vf_datatypes.specs.declared.stated.Stated.{Stated}
use Rattle.vf_datatypes.specs.Datatypes.{with_next}
use Rattle.vf_gathering.specs.declared.ahead.Ahead.{Ahead}
use Rattle.vf_gathering.specs.declared.foretold.Foretold.{Foretold}
use Rattle.vf_gathering.specs.Ahead as ahead
use Rattle.vf_gathering.specs.Foretold as foretold
use Rattle.vf_predicates.specs.Earlier.{if_predicate, predicate_sorts}
use Rattle.vf_walk.specs.Items.{WalksItems}
use Rattle.vf_annotations.specs.Forms.{meanings as walked}
use Rattle.vf_erasure_laws.proofs.hidden.Coming.{Leads, ok_comes, only_leads, then_leads}
use Rattle.vf_fixpoint_laws.proofs.definable.Extending.{Core, core}
use Rattle.vf_fixpoint_laws.proofs.definable.Seeing.{with_locals}
use Rattle.vf_env.specs.Named.{named, tagged}
use Rattle.vf_env_laws.proofs.Keeping.{Brings}
use Rattle.vf_fixpoint_laws.proofs.well_declared.Adding.{Adds, IsOrdered, Means, OfDatatype, datatype_adds, its_own, itself, new_adds, new_datatypes, others_add, others_datatypes}
use Rattle.vf_fixpoint_laws.proofs.well_declared.Cores.{New, Others, plain}
use Rattle.vf_fixpoint_laws.proofs.well_declared.Foretold.{Foretells, foretells_again, foretells_first, foretells_kept}
use Rattle.vf_fixpoint_laws.proofs.well_declared.Ghosts.{IsDatatype, PredicateFrom, WritesIn, first}
use Rattle.vf_fixpoint_laws.proofs.well_declared.Ghosts as ghost_items
use Rattle.vf_fixpoint_laws.proofs.well_declared.Items.{FormLeaves, ItemLeaves, item_leaves}
use Rattle.vf_fixpoint_laws.proofs.well_declared.Lists.{found_push, none_behind}
use Rattle.vf_fixpoint_laws.proofs.well_declared.Numbers.{Goes, Numbers, goes_items, numbers_datatype, numbers_kept}
use Rattle.vf_fixpoint_laws.proofs.well_declared.Tags.{item_brings, tags_told}
use Rattle.vf_fixpoint_laws.proofs.well_declared.Told.{IsTold, parameters_told, seen, written_told}

-- ---- between items
-- what is declared is what was told so far, in the files of a unit
pub record Reaches (b : Scope) (a : Ahead) (t : Foretold) (c : Core) : Type 0 where
  pub frame : c.frame ≡ b
  pub ordered : IsOrdered c
  pub numbers : Numbers a c
  pub foretells : Foretells t c

-- nothing that is told is new
reaches_kept : {F : List ℕ → List ℕ → GhostDeclaration → Type 0} {b : Scope} {a : Ahead} {t : Foretold} {c e : Core} → ((x fs : List ℕ) (k : ℕ) → F x fs (ghosts.Datatype k) → ⊥) → ((x fs : List ℕ) (ts : List Sort) → F x fs (ghosts.Predicate ts) → ⊥) → Adds F c e → e.datatypes ≡ c.datatypes → Reaches b a t c → Reaches b a t e
reaches_kept f g h q r = record { frame = h.frame ∙ r.frame; ordered = h.ordered; numbers = numbers_kept f h q r.numbers; foretells = foretells_kept g h r.foretells }

reaches_others : {b : Scope} {a : Ahead} {t : Foretold} {c e : Core} → Others c e → Reaches b a t c → Reaches b a t e
reaches_others o r = reaches_kept (λ x fs k i. i) (λ x fs ts i. i) (others_add r.ordered o) (others_datatypes o) r

-- what is new is this
abbrev IsThis : GhostDeclaration → List ℕ → List ℕ → GhostDeclaration → Type 0
IsThis g x fs h = h ≡ g

reaches_new : {b : Scope} {a : Ahead} {t : Foretold} {n : Name} {g : GhostDeclaration} {c e : Core} → ((k : ℕ) → ◌≡◌ {A = GhostDeclaration} (ghosts.Datatype k) g → ⊥) → ((ts : List Sort) → ◌≡◌ {A = GhostDeclaration} (ghosts.Predicate ts) g → ⊥) → New n g c e → Reaches b a t c → Reaches b a t e
reaches_new {g = g} f h o r = reaches_kept (λ x fs k i. f k i) (λ x fs ts i. h ts i) (new_adds (IsThis g) refl r.ordered o) (new_datatypes o) r

-- ---- datatypes
no_predicate : {n : Name} {d m : ℕ} (x fs : List ℕ) (ts : List Sort) → OfDatatype n d m x fs (ghosts.Predicate ts) → ⊥
no_predicate x fs ts (itself e f) = cc
no_predicate x fs ts (its_own k f e c) = cc

reaches_datatype : {b : Scope} {a : Ahead} {t : Foretold} {n : Name} {ns : List Name} {c e : Core} → IsDatatype n ns c e → Reaches b a t c → Reaches b (ahead.with_datatype a n (length ns)) t e
reaches_datatype d r =
    let h = datatype_adds r.ordered d in
    record { frame = h.frame ∙ r.frame; ordered = h.ordered; numbers = numbers_datatype r.ordered d r.numbers; foretells = foretells_kept no_predicate h r.foretells }

-- ---- predicates
-- the sorts that are written where the name of a predicate is new are as they are told in the end
new_told : (w a : Ahead) (s : Scope) (n : Name) (l : Locals) → Goes a w → IsOrdered (core s) → Numbers a (core s) → s.tags ≡ a.tags → IsTold w (with_locals (with_next s n) l)
new_told w a s n l g o b e = record {
  datatypes = λ x j k m. ⊎_elim (λ f. of_old x j k (record { declaration = m.declaration; found = f; meaning = m.meaning; stands = m.stands })) (λ f. absurd (none_behind s.ghosts (ghosts.Datatype k) (ap (slice_get s.ghosts) (number (sym (ap (λ d. d.meaning) f.1) ∙ m.meaning)) ∙ m.stands))) (found_push s.names s.declarations n.text _ o.beside x m.declaration m.found);
  tags = λ x k i. g.tags x k (sym (ap (λ ns. number_of ns x) e) ∙ i);
}
  where
    number : {j k : ℕ} → ◌≡◌ {A = Meaning} (meanings.Ghost j) (meanings.Ghost k) → j ≡ k
    number e = cc

    of_old : (x : List ℕ) (j k : ℕ) → Means (core s) x j (ghosts.Datatype k) → (number_of w.datatypes x ≡ Some k) × (slice_get w.counts k ≡ Some (count_in (slice_get s.datatypes k)))
    of_old x j k m = let p = b.numbered x j k m in (g.datatypes x k p.0, g.counts k _ p.1)

-- a predicate that is declared already
record MeansPredicate (s : Scope) (x : List ℕ) : Type 0 where
  number : ℕ
  sorts : List Sort
  means : Means (core s) x number (ghosts.Predicate sorts)

predicate_in : (o : Option GhostDeclaration) (ts : List Sort) → predicate_sorts o ≡ Some ts → o ≡ Some (ghosts.Predicate ts)
predicate_in None ts e = absurd cc
predicate_in (Some (ghosts.Predicate us)) ts e = let h : us ≡ ts = cc in ap (λ ts. Some (ghosts.Predicate ts)) h
predicate_in (Some (ghosts.Datatype d)) ts e = absurd cc
predicate_in (Some (ghosts.Constructor d)) ts e = absurd cc
predicate_in (Some (ghosts.Fixpoint d)) ts e = absurd cc
predicate_in (Some (ghosts.Family d)) ts e = absurd cc
predicate_in (Some (ghosts.PredicateConstructor d)) ts e = absurd cc
predicate_in (Some (ghosts.Lemma d)) ts e = absurd cc

predicate_by : (s : Scope) (n : Name) (o : Option Meaning) (k : ℕ) → declaration_of s n.text n.place.file ≡ o → if_predicate s (ghost_number o) ≡ Some k → MeansPredicate s n.text
predicate_by s n None k e f = absurd cc
predicate_by s n (Some (meanings.Function j)) k e f = absurd cc
predicate_by s n (Some (meanings.FunctionType j)) k e f = absurd cc
predicate_by s n (Some (meanings.Ghost j)) k e f = by_sorts (predicate_sorts (ghost_of s j)) refl f
  where
    by_sorts : (o : Option (List Sort)) → predicate_sorts (ghost_of s j) ≡ o → ◌≡◌ {A = Option ℕ} (if is_some o then Some j else None) (Some k) → MeansPredicate s n.text
    by_sorts None g i = absurd cc
    by_sorts (Some ts) g i = let m = seen s n.text n.place.file (meanings.Ghost j) e in record { number = j; sorts = ts; means = record { declaration = m.declaration; found = m.found; meaning = m.meaning; stands = predicate_in (ghost_of s j) ts g } }

predicate_datatypes : {n : Name} {ts : List Sort} {c e : Core} {b : Scope} {a : Ahead} {t u : Foretold} → New n (ghosts.Predicate ts) c e → Reaches b a t c → Foretells u e → Reaches b a u e
predicate_datatypes {ts = ts} o r f =
    let h = new_adds (IsThis (ghosts.Predicate ts)) refl r.ordered o in
    record { frame = h.frame ∙ r.frame; ordered = h.ordered; numbers = numbers_kept (λ x fs k i. apart i) h (new_datatypes o) r.numbers; foretells = f }
  where
    apart : {k : ℕ} {us : List Sort} → ◌≡◌ {A = GhostDeclaration} (ghosts.Datatype k) (ghosts.Predicate us) → ⊥
    apart e = cc

reaches_predicate : {b : Scope} (w a : Ahead) {t : Foretold} (n : Name) (gs : List GhostParameter) (s u : Scope) → Goes a w → s.tags ≡ a.tags → PredicateFrom n gs s u → Reaches b a t (core s) → Reaches b a (foretold.with_predicate w t n gs) (core u)
reaches_predicate w a n gs s u g e (first ts h o) r =
    let q = parameters_told w (WritesIn s n) (λ p t i. written_told w (with_locals (with_next s n) i.0) (new_told w a s n i.0 g r.ordered r.numbers e) p.sort t i.1) gs ts h in
    predicate_datatypes o.is r (foretells_first w gs q r.ordered o.is r.foretells)
reaches_predicate w a n gs s u g e (ghost_items.again k i p) r =
    let m = predicate_by s n (declaration_of s n.text n.place.file) k refl i in
    let f = r.foretells.known n.text m.number m.sorts m.means in
    let v = reaches_others (plain p.is) r in
    record { frame = v.frame; ordered = v.ordered; numbers = v.numbers; foretells = foretells_again w n gs f.0 f.1 v.foretells }

-- ---- items
fixpoint_reaches : {b : Scope} {a : Ahead} {t : Foretold} (n : Name) (gs : List GhostParameter) (s u : Scope) → ghost_items.IsFixpoint n gs s u → Reaches b a t (core s) → Reaches b a t (core u)
fixpoint_reaches n gs s u l r = reaches_new (λ k e. cc) (λ ts e. cc) l.new.is r

form_reaches : {b : Scope} (w a : Ahead) {t : Foretold} (x : GhostForm) (s u : Scope) → Goes a w → s.tags ≡ a.tags → FormLeaves x s u → Reaches b a t (core s) → Reaches b (ahead.with_form a x) (foretold.with_form w t x) (core u)
form_reaches w a (forms.Inductive n ns b cs) s u g e l r = reaches_datatype l r
form_reaches w a (forms.Fixpoint y n ns gs b) s u g e l r = fixpoint_reaches n gs s u l r
form_reaches w a (forms.Predicate n gs) s u g e l r = reaches_predicate w a n gs s u g e l r
form_reaches w a (forms.PredicateBody n gs x) s u g e l r = reaches_predicate w a n gs s u g e l r
form_reaches w a (forms.Family n i gs) s u g e l r = reaches_others l.is r
form_reaches w a (forms.Instance f h gs x) s u g e l r = reaches_others l.is r
form_reaches w a (forms.PredicateConstructor n fs gs x) s u g e l r = reaches_others l.is r
form_reaches w a (forms.LemmaPrototype n ns gs c) s u g e l r = reaches_others l.is r
form_reaches w a (forms.Lemma n ns gs c b) s u g e l r = reaches_others l.is r

reaches_tag : {b : Scope} {a : Ahead} {t : Foretold} {c : Core} (n : Name) → Reaches b a t c → Reaches b (ahead.with_tag a n) t c
reaches_tag n r = record { frame = r.frame; ordered = r.ordered; numbers = record { as_many = r.numbers.as_many; counted = r.numbers.counted; declared = r.numbers.declared; numbered = r.numbers.numbered }; foretells = r.foretells }

item_reaches : {b : Scope} (w a : Ahead) {t : Foretold} (x : Item) (s u : Scope) → Goes a w → s.tags ≡ a.tags → ItemLeaves x s u → Reaches b a t (core s) → Reaches b (ahead.with_item a x) (foretold.with_item w t x) (core u)
item_reaches w a (items.Opaque p n) s u g e l r = reaches_tag n (reaches_others l.is r)
item_reaches w a (items.Struct p n xs) s u g e l r = reaches_tag n (reaches_others l.is r)
item_reaches w a (items.FunctionType p f c) s u g e l r = reaches_others l.is r
item_reaches w a (items.Prototype f k c) s u g e l r = reaches_others l.is r
item_reaches w a (items.Function f k c y) s u g e l r = reaches_others l.is r
item_reaches w a (items.Ghost x) s u g e l r = form_reaches w a x.form s u g e l r

-- what items reach
abbrev ReachesTo : Scope → Ahead → Foretold → Scope → Type 0
ReachesTo b a t s = Reaches b a t (core s)

-- what an item leaves, and the names and tags that it brings
record LeavesItem (x : Item) (s u : Scope) : Type 0 where
  leaves : ItemLeaves x s u
  brings : Brings (named x) (tagged x) s u

pub items_reach : (b : Scope) (d : Stated) (w : Ahead) (ys : List Item) (a : Ahead) (t : Foretold) (s : Scope) → w ≡ ahead.with_items a ys → s.tags ≡ a.tags → Reaches b a t (core s) → Leads (ReachesTo b w (foretold.with_items w t ys)) (WalksItems (walked d) ys s)
items_reach b d w [] a t s q e r = only_leads (ReachesTo b w t) (Ok s) (ok_comes (ReachesTo b w t) (subst (λ a. Reaches b a t (core s)) (sym q) r))
items_reach b d w (y ∷ ys) a t s q e r =
    then_leads (LeavesItem y s) (ReachesTo b w (foretold.with_items w t (y ∷ ys))) (λ u h. record { leaves = item_leaves d y s r.ordered.beside u h; brings = item_brings d y s r.ordered.beside u h })
    (λ u l v h. items_reach b d w ys (ahead.with_item a y) (foretold.with_item w t y) u q (tags_told a y s u l.brings e) (item_reaches w a y s u (subst (Goes a) (sym q) (goes_items a (y ∷ ys))) e l.leaves r) v h)
