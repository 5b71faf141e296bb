-- Lists of numbers beside names, where one more item declares some of the names.
use Rattle.std.proofs.Common.{◌≡◌, refl, sym, ap, subst, ◌∙◌, ℕ, ◌+◌, ◌≤◌, Bool, true, false, ◌||◌, cond, List, [], ◌∷◌, ◌++◌, length, take, map, slice_get, slice_set, Option, Some, None, arith}
use Rattle.std.specs.Option.{option_map}
use Rattle.std.specs.Str.{bytes_eq}
use Rattle.std.specs.Cmp.Lexicographic.{bytes_decides}
use Rattle.std.proofs.lemmas.List.{length-map, length-take-le, map-append}
use Rattle.std.proofs.lemmas.List.Folds.{list_any-append}
use Rattle.std.proofs.lemmas.Option.{slice_get-map, slice_get_past, slice_get_within}
use Rattle.vf_names.specs.Names.{number_of}
use Rattle.vf_names.proofs.Numbering.{name_there}
use Rattle.vf_declared.proofs.Lists.{taken_all, taken_more}
use Rattle.vf_syntax.specs.declared.item.Constructor.{Constructor}
use Rattle.vf_syntax.specs.declared.item.Item.{Item}
use Rattle.vf_env.specs.Named.{constructor_name}
use Rattle.vf_env.specs.Trees.{HasTrees, declaring, is_among}
use Rattle.vf_env.specs.Noted.{AreNoted, ending_with, with_item}
use Rattle.vf_env.proofs.Lists.{ending_again, not_last, numbers_more, set_again, set_here, set_long, set_there}

-- ---- some names, and then others
both_if : (a b : Bool) (n : ℕ) (ns : List ℕ) → cond (a || b) (ending_with ns n) ns ≡ cond b (ending_with (cond a (ending_with ns n) ns) n) (cond a (ending_with ns n) ns)
both_if true true n ns = sym (ending_again ns n)
both_if true false n ns = refl
both_if false b n ns = refl

both_items : (xs ys : List (List ℕ)) (n : ℕ) (x ns : List ℕ) → with_item (xs ++ ys) n x ns ≡ with_item ys n x (with_item xs n x ns)
both_items xs ys n x ns = ap (λ b. cond b (ending_with ns n) ns) (list_any-append (bytes_eq x) xs ys) ∙ both_if (is_among xs x) (is_among ys x) n ns

both_optional : (xs ys : List (List ℕ)) (n : ℕ) (x : List ℕ) (o : Option (List ℕ)) → option_map (with_item ys n x) (option_map (with_item xs n x) o) ≡ option_map (with_item (xs ++ ys) n x) o
both_optional xs ys n x None = refl
both_optional xs ys n x (Some ns) = ap Some (sym (both_items xs ys n x ns))

pub noted_both : {names xs ys : List (List ℕ)} {n : ℕ} {old between new : List (List ℕ)} → AreNoted names xs n old between → AreNoted names ys n between new → AreNoted names (xs ++ ys) n old new
noted_both {xs = xs} {ys = ys} {n = n} {old = old} h g = record {
  beside = g.beside ∙ h.beside;
  lists = λ x k e. g.lists x k e ∙ ap (option_map (with_item ys n x)) (h.lists x k e) ∙ both_optional xs ys n x (slice_get old k);
}

-- ---- one name
-- for another name nothing changes
other_optional : (b : Bool) (n : ℕ) (o : Option (List ℕ)) → b ≡ false → o ≡ option_map (λ ns. cond (b || false) (ending_with ns n) ns) o
other_optional true n o e = absurd cc
other_optional false n None e = refl
other_optional false n (Some ns) e = refl

own_optional : (b : Bool) (n : ℕ) (ns : List ℕ) → b ≡ true → Some (ending_with ns n) ≡ option_map (λ ns. cond (b || false) (ending_with ns n) ns) (Some ns)
own_optional true n ns e = refl
own_optional false n ns e = absurd cc

-- a name whose number is past the lists
pub noted_past : (names : List (List ℕ)) (name : List ℕ) (n at : ℕ) (old : List (List ℕ)) → number_of names name ≡ Some at → length old ≤ at → AreNoted names (name ∷ []) n old old
noted_past names name n at old is past = record { beside = refl; lists = λ x k e. by (bytes_eq x name) x k refl e }
  where
    by : (b : Bool) (x : List ℕ) (k : ℕ) → bytes_eq x name ≡ b → number_of names x ≡ Some k → slice_get old k ≡ option_map (with_item (name ∷ []) n x) (slice_get old k)
    by true x k b e =
        let same : x ≡ name = (bytes_decides x name).0 b in
        let number : number_of names name ≡ Some k = ap (number_of names) (sym same) ∙ e in
        let place : at ≡ k = cc in
        let none : slice_get old k ≡ None = slice_get_past old k (omega (arith, past, place)) in
        none ∙ ap (option_map (with_item (name ∷ []) n x)) (sym none)
    by false x k b e = other_optional (bytes_eq x name) n (slice_get old k) b

-- the name with a number, whose list is taken out, changed and put back
pub noted_at : (names : List (List ℕ)) (name : List ℕ) (n at : ℕ) (old between new : List (List ℕ)) (ns gap ms : List ℕ) → number_of names name ≡ Some at → slice_get old at ≡ Some ns → between ≡ slice_set old at gap → ms ≡ ending_with ns n → new ≡ slice_set between at ms → AreNoted names (name ∷ []) n old new
noted_at names name n at old between new ns gap ms is there out made back = record { beside = ap length whole ∙ set_long old at (ending_with ns n); lists = λ x k e. by (bytes_eq x name) x k refl e }
  where
    whole : new ≡ slice_set old at (ending_with ns n)
    whole = back ∙ ap (λ l. slice_set l at ms) out ∙ set_again old at gap ms ∙ ap (slice_set old at) made

    by : (b : Bool) (x : List ℕ) (k : ℕ) → bytes_eq x name ≡ b → number_of names x ≡ Some k → slice_get new k ≡ option_map (with_item (name ∷ []) n x) (slice_get old k)
    by true x k b e =
        let same : x ≡ name = (bytes_decides x name).0 b in
        let number : number_of names name ≡ Some k = ap (number_of names) (sym same) ∙ e in
        let place : k ≡ at = cc in
        ap (slice_get new) place ∙ ap (λ l. slice_get l at) whole ∙ set_here old at (ending_with ns n) (slice_get_within old at ns there)
        ∙ own_optional (bytes_eq x name) n ns b
        ∙ ap (option_map (with_item (name ∷ []) n x)) (sym there ∙ ap (slice_get old) (sym place))
    by false x k b e =
        let apart : k ≡ at → ⊥ = λ p. absurd (
        let one : slice_get names at ≡ Some x = ap (slice_get names) (sym p) ∙ name_there names x k e in
        let other : slice_get names at ≡ Some name = name_there names name at is in
        let same : x ≡ name = cc in
        let yes : bytes_eq x name ≡ true = (bytes_decides x name).1 same in
        let no : ⊥ = cc in no) in
        ap (λ l. slice_get l k) whole ∙ set_there old at k (ending_with ns n) apart ∙ other_optional (bytes_eq x name) n (slice_get old k) b

-- ---- items
noted_once : (b : Bool) (ns : List ℕ) (n : ℕ) (last : Bool) → last ≡ false → cond b (cond last ns (ns ++ n ∷ [])) ns ≡ ns ++ cond b (n ∷ []) []
noted_once true ns n true e = absurd cc
noted_once true ns n false e = refl
noted_once false ns n last e = sym (nothing_behind ns)
  where
    nothing_behind : (xs : List ℕ) → xs ++ [] ≡ xs
    nothing_behind [] = refl
    nothing_behind (x ∷ xs) = ap (λ ys. x ∷ ys) (nothing_behind xs)

-- one more item
declaring_more : (declared : Item → List (List ℕ)) (x : List ℕ) (items : List Item) (y : Item) → with_item (declared y) (length items) x (declaring declared x items) ≡ declaring declared x (items ++ y ∷ [])
declaring_more declared x items y =
    noted_once (is_among (declared y) x) (declaring declared x items) (length items) _ (not_last (λ item. is_among (declared item) x) items)
    ∙ ap (λ k. declaring declared x items ++ cond (is_among (declared y) x) (k ∷ []) []) (let e : length items ≡ 0 + length items = omega arith in e)
    ∙ sym (numbers_more (λ item. is_among (declared item) x) 0 items y)

-- lists that are right for the first items are right with one more
pub trees_more : (declared : Item → List (List ℕ)) (names : List (List ℕ)) (items : List Item) (at : ℕ) (y : Item) (old new : List (List ℕ)) → slice_get items at ≡ Some y → AreNoted names (declared y) at old new → HasTrees declared names (take at items) old → HasTrees declared names (take (at + 1) items) new
trees_more declared names items at y old new there noted h = record { beside = noted.beside ∙ h.beside; lists = λ x k e. step x k e }
  where
    count : length (take at items) ≡ at
    count = length-take-le at items (let l = slice_get_within items at y there in omega (arith, l))

    step : (x : List ℕ) (k : ℕ) → number_of names x ≡ Some k → slice_get new k ≡ Some (declaring declared x (take (at + 1) items))
    step x k e =
        noted.lists x k e ∙ ap (option_map (with_item (declared y) at x)) (h.lists x k e)
        ∙ ap Some (ap (λ n. with_item (declared y) n x (declaring declared x (take at items))) (sym count) ∙ declaring_more declared x (take at items) y ∙ ap (declaring declared x) (sym (taken_more items at y there)))

-- in front of the items each list is empty
pub trees_begin : (declared : Item → List (List ℕ)) (names : List (List ℕ)) (items : List Item) (trees : List (List ℕ)) → trees ≡ map (λ name. []) names → HasTrees declared names (take 0 items) trees
trees_begin declared names items trees h = record {
  beside = ap length h ∙ length-map names (λ name. []);
  lists = λ x k e. ap (λ l. slice_get l k) h ∙ slice_get-map (λ name. []) names k ∙ ap (option_map (λ name. [])) (name_there names x k e);
}

-- lists that are right for the first items are right where no item stands behind those
pub trees_none : (declared : Item → List (List ℕ)) (names : List (List ℕ)) (items : List Item) (at : ℕ) (trees : List (List ℕ)) → slice_get items at ≡ None → HasTrees declared names (take at items) trees → HasTrees declared names items trees
trees_none declared names items at trees none h = subst (λ xs. HasTrees declared names xs trees) (taken_all items at none) h

-- ---- constructors
-- one more constructor
pub constructors_more : (names : List (List ℕ)) (cs : List Constructor) (at : ℕ) (c : Constructor) (n : ℕ) (old between new : List (List ℕ)) → slice_get cs at ≡ Some c → AreNoted names (c.name.text ∷ []) n between new → AreNoted names (map constructor_name (take at cs)) n old between → AreNoted names (map constructor_name (take (at + 1) cs)) n old new
constructors_more names cs at c n old between new there g h = subst (λ xs. AreNoted names xs n old new) (sym (ap (map constructor_name) (taken_more cs at c there) ∙ map-append constructor_name (take at cs) (c ∷ []))) (noted_both h g)
