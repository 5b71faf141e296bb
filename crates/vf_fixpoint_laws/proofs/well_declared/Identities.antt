-- An identity tells the name in it, where no `#` stands in names.
use Rattle.std.proofs.Common.{◌≡◌, refl, sym, ◌∙◌, ap, ℕ, Bool, true, false, ◌||◌, nat_eq, List, [], ◌∷◌, ◌++◌, append_assoc, Some}
use Rattle.std.specs.List.{flat_map, list_any}
use Rattle.std.specs.Str.{bytes_eq}
use Rattle.std.specs.Cmp.Lexicographic.{bytes_decides}
use Rattle.std.proofs.lemmas.List.Folds.{list_any-append}
use Rattle.vf_names.specs.Names.{number_of}
use Rattle.vf_syntax.specs.declared.item.Item.{Item}
use Rattle.vf_terms.specs.Named.{first_path, identity_of}
use Rattle.vf_env.specs.Named.{named}
use Rattle.vf_env.specs.Trees.{is_among}
use Rattle.vf_env_laws.specs.Declared.{declared_by}
use Rattle.vf_env_laws.proofs.Putting.{only_names_of_items, place_among}
use Rattle.vf_fixpoint_laws.specs.well_declared.Names.{AreUnmarked, is_marked, mark}

-- ---- texts without the mark
either_true : (a : Bool) → (a || true) ≡ true
either_true true = refl
either_true false = refl

marked_behind : (xs ys : List ℕ) → is_marked (xs ++ mark ∷ ys) ≡ true
marked_behind [] ys = refl
marked_behind (x ∷ xs) ys = ap (λ b. nat_eq mark x || b) (marked_behind xs ys) ∙ either_true (nat_eq mark x)

not_both : {A : Type 0} {b : Bool} → b ≡ true → b ≡ false → A
not_both e f = absurd (let h : true ≡ false = sym e ∙ f in cc)

-- what stands behind the last mark is the same where the whole is
pub behind_mark : (xs ys us vs : List ℕ) → is_marked ys ≡ false → is_marked vs ≡ false → xs ++ mark ∷ ys ≡ us ++ mark ∷ vs → ys ≡ vs
behind_mark [] ys [] vs a b e = cc
behind_mark [] ys (u ∷ us) vs a b e = let h : ys ≡ us ++ mark ∷ vs = cc in not_both (ap is_marked h ∙ marked_behind us vs) a
behind_mark (x ∷ xs) ys [] vs a b e = let h : vs ≡ xs ++ mark ∷ ys = cc in not_both (ap is_marked h ∙ marked_behind xs ys) b
behind_mark (x ∷ xs) ys (u ∷ us) vs a b e = behind_mark xs ys us vs a b (let h : xs ++ mark ∷ ys ≡ us ++ mark ∷ vs = cc in h)

pub identity_tells : (paths : List (List ℕ)) (fs gs x y : List ℕ) → is_marked x ≡ false → is_marked y ≡ false → identity_of paths fs x ≡ identity_of paths gs y → x ≡ y
identity_tells paths fs gs x y a b e = behind_mark (first_path paths fs) x (first_path paths gs) y a b (sym (append_assoc (first_path paths fs) (mark ∷ []) x) ∙ (e ∙ append_assoc (first_path paths gs) (mark ∷ []) y))

-- ---- names of items
none_of : (a b : Bool) → (a || b) ≡ false → a ≡ false
none_of true b e = absurd cc
none_of false b e = refl

nor_of : (a b : Bool) → (a || b) ≡ false → b ≡ false
nor_of true b e = absurd cc
nor_of false b e = e

unmarked_among : (ns : List (List ℕ)) (x : List ℕ) → is_among ns x ≡ true → list_any is_marked ns ≡ false → is_marked x ≡ false
unmarked_among [] x e f = absurd cc
unmarked_among (n ∷ ns) x e f = by_test (bytes_eq x n) refl e (λ g. unmarked_among ns x g (nor_of (is_marked n) (list_any is_marked ns) f))
  where
    by_test : (b : Bool) → bytes_eq x n ≡ b → (b || is_among ns x) ≡ true → (is_among ns x ≡ true → is_marked x ≡ false) → is_marked x ≡ false
    by_test true t g h = ap is_marked ((bytes_decides x n).0 t) ∙ none_of (is_marked n) (list_any is_marked ns) f
    by_test false t g h = h g

unmarked_in : (xs : List Item) (x : List ℕ) → list_any (λ item. is_among (named item) x) xs ≡ true → list_any is_marked (flat_map named xs) ≡ false → is_marked x ≡ false
unmarked_in [] x e f = absurd cc
unmarked_in (y ∷ ys) x e f = by_test (is_among (named y) x) refl e (λ g. unmarked_in ys x g (nor_of (list_any is_marked (named y)) (list_any is_marked (flat_map named ys)) parted))
  where
    parted : (list_any is_marked (named y) || list_any is_marked (flat_map named ys)) ≡ false
    parted = sym (list_any-append is_marked (named y) (flat_map named ys)) ∙ f

    by_test : (b : Bool) → is_among (named y) x ≡ b → (b || list_any (λ item. is_among (named item) x) ys) ≡ true → (list_any (λ item. is_among (named item) x) ys ≡ true → is_marked x ≡ false) → is_marked x ≡ false
    by_test true t g h = unmarked_among (named y) x t (none_of (list_any is_marked (named y)) (list_any is_marked (flat_map named ys)) parted)
    by_test false t g h = h g

-- a name that items declare has no mark, where none of theirs has
pub unmarked_name : (xs : List Item) (names : List (List ℕ)) → names ≡ declared_by named xs → AreUnmarked xs → (x : List ℕ) (k : ℕ) → number_of names x ≡ Some k → is_marked x ≡ false
unmarked_name xs names is a x k e = unmarked_in xs x (sym (only_names_of_items named xs x) ∙ (ap (λ ns. is_among ns x) (sym is) ∙ place_among names x k e)) a
