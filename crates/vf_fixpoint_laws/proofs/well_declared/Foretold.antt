-- The predicates that are told ahead of items are declared as they are told.
use Rattle.std.proofs.Common.{◌≡◌, refl, sym, subst, ◌∙◌, ap, ℕ, zero, suc, ⊎_elim, Bool, true, false, if◌then◌else◌, List, [], ◌∷◌, ◌++◌, length, nat_lt, Option, Some, None, slice_get, slice_set}
use Rattle.vf_names.specs.Names.{number_of}
use Rattle.vf_names.proofs.Numbering.{number_of-push}
use Rattle.vf_sorts.specs.Sorts.{Sort}
use Rattle.vf_declared.specs.declared.declaration.GhostDeclaration.{GhostDeclaration}
use Rattle.vf_declared.specs.declared.declaration.GhostDeclaration.TheVariants as ghosts
use Rattle.vf_syntax.specs.declared.item.GhostParameter.{GhostParameter}
use Rattle.vf_syntax.specs.declared.written.Name.{Name}
use Rattle.vf_gathering.specs.declared.ahead.Ahead.{Ahead}
use Rattle.vf_gathering.specs.declared.foretold.Foretold.{Foretold}
use Rattle.vf_gathering.specs.Foretold.{with_predicate, with_sorts}
use Rattle.vf_gathering.specs.Standing.{or_none, with_number}
use Rattle.vf_gathering.specs.Told.{told_parameters}
use Rattle.vf_fixpoint_laws.proofs.definable.Extending.{Core}
use Rattle.vf_fixpoint_laws.proofs.definable.Lists.{get_front, number_front, one_beside}
use Rattle.vf_fixpoint_laws.proofs.well_declared.Adding.{Adds, IsOrdered, Means, new_adds, new_means}
use Rattle.vf_fixpoint_laws.proofs.well_declared.Cores.{New}
use Rattle.vf_fixpoint_laws.proofs.well_declared.Lists.{get_at_last, none_beside, number_push}

-- ---- what is foretold
-- a predicate with a number among those that were told is declared over the sorts that were told of it, and first in the file that was
pub record IsForetold (t : Foretold) (c : Core) (x : List ℕ) (k : ℕ) : Type 0 where
  pub number : ℕ
  pub sorts : List Sort
  pub means : Means c x number (ghosts.Predicate sorts)
  pub told : slice_get t.sorts k ≡ Some sorts
  pub file : ℕ
  pub more : List ℕ
  pub declared : means.declaration.files ≡ file ∷ more
  pub others : List ℕ
  pub stated : slice_get t.stated.files k ≡ Some (file ∷ others)

-- each predicate that is declared was told, and each that was told is declared so
pub record Foretells (t : Foretold) (c : Core) : Type 0 where
  pub sorted : length t.stated.names ≡ length t.sorts
  pub placed : length t.stated.names ≡ length t.stated.files
  pub known : (x : List ℕ) (n : ℕ) (ts : List Sort) → Means c x n (ghosts.Predicate ts) → (k : ℕ) × (number_of t.stated.names x ≡ Some k)
  pub told : (x : List ℕ) (k : ℕ) → number_of t.stated.names x ≡ Some k → IsForetold t c x k

-- so it stays where no predicate is new
foretold_kept : {F : List ℕ → List ℕ → GhostDeclaration → Type 0} {t : Foretold} {c e : Core} (x : List ℕ) (k : ℕ) → Adds F c e → IsForetold t c x k → IsForetold t e x k
foretold_kept x k a f =
    let w = a.kept x f.means.declaration f.means.found in
    record {
      number = f.number;
      sorts = f.sorts;
      means = record { declaration = w.after; found = w.stands; meaning = w.later.meaning ∙ f.means.meaning; stands = a.ghosts f.number (ghosts.Predicate f.sorts) f.means.stands };
      told = f.told;
      file = f.file;
      more = f.more ++ w.later.more;
      declared = w.later.files ∙ ap (λ fs. fs ++ w.later.more) f.declared;
      others = f.others;
      stated = f.stated;
    }

pub foretells_kept : {F : List ℕ → List ℕ → GhostDeclaration → Type 0} {t : Foretold} {c e : Core} → ((x fs : List ℕ) (ts : List Sort) → F x fs (ghosts.Predicate ts) → ⊥) → Adds F c e → Foretells t c → Foretells t e
foretells_kept f a h = record {
  sorted = h.sorted;
  placed = h.placed;
  known = λ x n ts m. ⊎_elim (λ w. h.known x n ts w.before) (λ i. absurd (f x m.declaration.files ts i)) (a.old_or_new x n (ghosts.Predicate ts) m);
  told = λ x k e. foretold_kept x k a (h.told x k e);
}

-- ---- a new predicate
-- one predicate more, by the number of its name among those that were told
abbrev pub with_predicate_at : Foretold → Name → List Sort → Option ℕ → Foretold
with_predicate_at t n ts o = record { stated = with_number t.stated n o; sorts = with_sorts t.sorts ts o }

-- what is new has a name, and is one thing
abbrev IsThis : Name → GhostDeclaration → List ℕ → List ℕ → GhostDeclaration → Type 0
IsThis n g x fs h = (x ≡ n.text) × (fs ≡ n.place.file ∷ [])

unknown : {t : Foretold} {c : Core} (n : Name) → Foretells t c → number_of c.names n.text ≡ None → number_of t.stated.names n.text ≡ None
unknown {t = t} {c = c} n h e = by_number (number_of t.stated.names n.text) refl
  where
    by_number : (o : Option ℕ) → number_of t.stated.names n.text ≡ o → number_of t.stated.names n.text ≡ None
    by_number None f = f
    by_number (Some k) f = let i = h.told n.text k f in absurd (none_beside c.names c.declarations n.text i.means.declaration e i.means.found)

told_more : {t : Foretold} {n : Name} {ts : List Sort} {c e : Core} → IsOrdered c → New n (ghosts.Predicate ts) c e → Foretells t c → number_of t.stated.names n.text ≡ None → Foretells (with_predicate_at t n ts None) e
told_more {t = t} {n = n} {ts = ts} {c = c} {e = e} o a h u = record {
  sorted = one_beside t.stated.names n.text t.sorts ts h.sorted;
  placed = one_beside t.stated.names n.text t.stated.files (n.place.file ∷ []) h.placed;
  known = λ x j us m. ⊎_elim (λ w. let i = h.known x j us w.before in (i.0, number_front t.stated.names (n.text ∷ []) x i.0 i.1)) (λ f. (length t.stated.names, ap (number_of (t.stated.names ++ n.text ∷ [])) f.0 ∙ number_of-push t.stated.names n.text u)) (adds.old_or_new x j (ghosts.Predicate us) m);
  told = λ x k i. ⊎_elim (λ f. old x k (foretold_kept x k adds (h.told x k f))) (λ f. new x k f.0 f.1) (number_push t.stated.names n.text x k i);
}
  where
    adds : Adds (IsThis n (ghosts.Predicate ts)) c e
    adds = new_adds (IsThis n (ghosts.Predicate ts)) (refl, refl) o a

    old : (x : List ℕ) (k : ℕ) → IsForetold t e x k → IsForetold (with_predicate_at t n ts None) e x k
    old x k f = record { number = f.number; sorts = f.sorts; means = f.means; told = get_front t.sorts (ts ∷ []) k f.sorts f.told; file = f.file; more = f.more; declared = f.declared; others = f.others; stated = get_front t.stated.files ((n.place.file ∷ []) ∷ []) k (f.file ∷ f.others) f.stated }

    files : (m : Means e n.text (length c.ghosts) (ghosts.Predicate ts)) → m.declaration.files ≡ n.place.file ∷ []
    files m = ⊎_elim (λ w. absurd (none_beside c.names c.declarations n.text w.before.declaration a.fresh w.before.found)) (λ f. f.1) (adds.old_or_new n.text (length c.ghosts) (ghosts.Predicate ts) m)

    new : (x : List ℕ) (k : ℕ) → x ≡ n.text → k ≡ length t.stated.names → IsForetold (with_predicate_at t n ts None) e x k
    new x k f i = subst (λ x. IsForetold (with_predicate_at t n ts None) e x k) (sym f) (record {
      number = length c.ghosts;
      sorts = ts;
      means = new_means o a;
      told = get_at_last t.sorts ts k (i ∙ h.sorted);
      file = n.place.file;
      more = [];
      declared = files (new_means o a);
      others = [];
      stated = get_at_last t.stated.files (n.place.file ∷ []) k (i ∙ h.placed);
    })

pub foretells_first : (w : Ahead) {t : Foretold} {n : Name} (gs : List GhostParameter) {ts : List Sort} {c e : Core} → ts ≡ told_parameters w gs → IsOrdered c → New n (ghosts.Predicate ts) c e → Foretells t c → Foretells (with_predicate w t n gs) e
foretells_first w {t = t} {n = n} gs {ts = ts} {e = e} q o a h =
    let u = unknown n h a.fresh in
    subst (λ us. Foretells (with_predicate_at t n us (number_of t.stated.names n.text)) e) q (subst (λ o. Foretells (with_predicate_at t n ts o) e) (sym u) (told_more o a h u))

-- ---- a predicate that is declared once more
set_first : (fss : List (List ℕ)) (k j file first : ℕ) (others : List ℕ) → slice_get fss j ≡ Some (first ∷ others) → (more : List ℕ) × (slice_get (slice_set fss k (or_none (slice_get fss k) ++ file ∷ [])) j ≡ Some (first ∷ more))
set_first [] k j file first others e = absurd cc
set_first (fs ∷ fss) zero zero file first others e = let h : fs ≡ first ∷ others = cc in (others ++ file ∷ [], ap (λ fs. Some (fs ++ file ∷ [])) h)
set_first (fs ∷ fss) zero (suc j) file first others e = (others, e)
set_first (fs ∷ fss) (suc k) zero file first others e = (others, e)
set_first (fs ∷ fss) (suc k) (suc j) file first others e = set_first fss k j file first others e

set_long : (fss : List (List ℕ)) (k : ℕ) (fs : List ℕ) → length (slice_set fss k fs) ≡ length fss
set_long [] k fs = refl
set_long (gs ∷ fss) zero fs = refl
set_long (gs ∷ fss) (suc k) fs = ap suc (set_long fss k fs)

told_again : {t : Foretold} {c : Core} (n : Name) (ts : List Sort) (k : ℕ) → Foretells t c → Foretells (with_predicate_at t n ts (Some k)) c
told_again {t = t} {c = c} n ts k h = by_test (nat_lt k (length t.stated.files))
  where
    by_test : (b : Bool) → Foretells (record { stated = if b then (record { names = t.stated.names; files = slice_set t.stated.files k (or_none (slice_get t.stated.files k) ++ n.place.file ∷ []) }) else t.stated; sorts = t.sorts }) c
    by_test false = record { sorted = h.sorted; placed = h.placed; known = h.known; told = λ x j e. let f = h.told x j e in record { number = f.number; sorts = f.sorts; means = f.means; told = f.told; file = f.file; more = f.more; declared = f.declared; others = f.others; stated = f.stated } }
    by_test true = record {
      sorted = h.sorted;
      placed = h.placed ∙ sym (set_long t.stated.files k (or_none (slice_get t.stated.files k) ++ n.place.file ∷ []));
      known = h.known;
      told = λ x j e. let f = h.told x j e in let s = set_first t.stated.files k j n.place.file f.file f.others f.stated in record { number = f.number; sorts = f.sorts; means = f.means; told = f.told; file = f.file; more = f.more; declared = f.declared; others = s.0; stated = s.1 };
    }

pub foretells_again : (w : Ahead) {t : Foretold} {c : Core} (n : Name) (gs : List GhostParameter) (k : ℕ) → number_of t.stated.names n.text ≡ Some k → Foretells t c → Foretells (with_predicate w t n gs) c
foretells_again w {t = t} {c = c} n gs k e h = subst (λ o. Foretells (with_predicate_at t n (told_parameters w gs) o) c) (sym e) (told_again n (told_parameters w gs) k h)
