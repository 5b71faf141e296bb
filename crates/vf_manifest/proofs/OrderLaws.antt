-- The order of lines by their keys is that of their texts.
use Rattle.std.proofs.Common.{◌≡◌, ℕ, ◌<◌, Bool, true, List, [], ◌∷◌, ◌++◌, map, refl, sym, ap, ◌∙◌, inl, inr, arith}
use Rattle.std.specs.Prelude.{◌&&◌, codes}
use Rattle.std.specs.declared.cmp.Ordering.{Ordering}
use Rattle.std.specs.declared.cmp.Ordering.TheVariants.{Less, Equal, Greater}
use Rattle.std.specs.Cmp.Lexicographic.{slice_cmp}
use Rattle.std.specs.Ordering.{nat_cmp, ordering_then}
use Rattle.std.specs.List.{list_all, list_any, AllByRecursion}
use Rattle.std.specs.Str.{bytes_eq}
use Rattle.std.proofs.lemmas.Bool.{and_parts, and_from, or_cases, lt-ltb}
use Rattle.std.proofs.lemmas.Bool.Decides.{nat_tests}
use Rattle.std.proofs.lemmas.Cmp.{ranked}
use Rattle.std.proofs.lemmas.List.{append_cancel_left}
use Rattle.std.proofs.lemmas.List.Folds.{list_all-append}
use Rattle.std.proofs.lemmas.Slice.Eq.{bytes_eq-Decides}
use Rattle.vf_manifest.specs.Identities.{Identity}
use Rattle.vf_manifest.specs.declared.line.Line.{Line}
use Rattle.vf_manifest.specs.declared.line.Line.TheVariants as lines
use Rattle.vf_manifest.specs.declared.line.Version.TheVariants.{Second}
use Rattle.vf_manifest.specs.Words.{is_visible, is_path_byte, is_file_path, is_prelude_path, prelude_paths, is_path, is_word_byte, is_name, identity_text, is_identity, is_own_identity}
use Rattle.vf_manifest.specs.Signatures.{is_signature}
use Rattle.vf_manifest.specs.Lines.{key, signature_part, told_part, spelled, is_line}
use Rattle.vf_manifest.specs.Manifests.{Ascends, IsLineOf, IsManifest}
use Rattle.vf_manifest.proofs.WordLaws.{name_bytes, own_is}

-- ---- texts with more behind them

-- a text begins below this byte, or is empty
abbrev pub BeginsBelow : List ℕ → ℕ → Type 0
BeginsBelow [] x = Unit {0}
BeginsBelow (y ∷ ys) x = y < x

below : (z y : ℕ) (zs ys : List ℕ) → z < y → slice_cmp nat_cmp (z ∷ zs) (y ∷ ys) ≡ Less
below z y zs ys h = grind (arith, nat_tests, lt-ltb z y h)

before_nothing : (s : List ℕ) (y : ℕ) (ys : List ℕ) → BeginsBelow s y → slice_cmp nat_cmp s (y ∷ ys) ≡ Less
before_nothing [] y ys h = refl
before_nothing (z ∷ zs) y ys h = below z y zs ys h

same_order : (o : Ordering) (x y : ℕ) (p q : Ordering) → o ≡ nat_cmp x y → ordering_then o p ≡ Less → (x ≡ y → p ≡ Less → q ≡ Less) → ordering_then o q ≡ Less
same_order Less x y p q is h more = refl
same_order Equal x y p q is h more = more (ranked x y Equal is) h
same_order Greater x y p q is h more = absurd (cc h)

-- where a text stands before another, it does with more behind both: if it is the front of the other, what is behind it begins below what goes on there
before_append : (a b s t : List ℕ) → slice_cmp nat_cmp a b ≡ Less → ((x : ℕ) (rest : List ℕ) → b ≡ a ++ x ∷ rest → BeginsBelow s x) → slice_cmp nat_cmp (a ++ s) (b ++ t) ≡ Less
before_append [] [] s t h more = absurd (cc h)
before_append [] (y ∷ ys) s t h more = before_nothing s y (ys ++ t) (more y ys refl)
before_append (x ∷ xs) [] s t h more = absurd (cc h)
before_append (x ∷ xs) (y ∷ ys) s t h more =
    same_order (nat_cmp x y) x y (slice_cmp nat_cmp xs ys) (slice_cmp nat_cmp (xs ++ s) (ys ++ t)) refl h
    (λ same rest. before_append xs ys s t rest (λ z zs e. more z zs (ap (λ w. w ∷ ys) (sym same) ∙ ap (λ w. x ∷ w) e)))

-- ---- identities are visible

each_is : (p q : ℕ → Bool) → ((b : ℕ) → p b ≡ true → q b ≡ true) → (xs : List ℕ) → list_all p xs ≡ true → list_all q xs ≡ true
each_is p q h [] e = refl
each_is p q h (x ∷ xs) e = let parts = and_parts (p x) (list_all p xs) e in and_from (q x) (list_all q xs) (h x parts.0) (each_is p q h xs parts.1)

path_byte_visible : (b : ℕ) → is_path_byte b ≡ true → is_visible b ≡ true
path_byte_visible b h = grind (arith, nat_tests)

word_byte_visible : (b : ℕ) → is_word_byte b ≡ true → is_visible b ≡ true
word_byte_visible b h = grind (arith, nat_tests)

among_visible : (text : List ℕ) (ts : List (List ℕ)) → list_any (λ t. bytes_eq text t) ts ≡ true → list_all (list_all is_visible) ts ≡ true → list_all is_visible text ≡ true
among_visible text [] e h = absurd (cc e)
among_visible text (t ∷ ts) e h =
    let parts = and_parts (list_all is_visible t) (list_all (list_all is_visible) ts) h in
    elim (or_cases (bytes_eq text t) (list_any (λ s. bytes_eq text s) ts) e) [
      | inl same ↦ ap (list_all is_visible) ((bytes_eq-Decides text t).0 same) ∙ parts.0
      | inr rest ↦ among_visible text ts rest parts.1
    ]

file_visible : (path : List ℕ) → list_all is_path_byte path ≡ true → list_all is_visible path ≡ true
file_visible path h = each_is is_path_byte is_visible path_byte_visible path h

identity_visible : (i : Identity) → is_identity i ≡ true → list_all is_visible (identity_text i) ≡ true
identity_visible i h =
    let parts = and_parts (is_path i.path) (is_name i.name) h in
    let name = each_is is_word_byte is_visible word_byte_visible i.name (name_bytes i.name parts.1) in
    let path : list_all is_visible i.path ≡ true =
    elim (or_cases (is_file_path i.path) (is_prelude_path i.path) parts.0) [
      | inl file ↦ file_visible i.path (and_parts _ (list_all is_path_byte i.path) file).1
      | inr prelude ↦ among_visible i.path prelude_paths prelude refl
    ] in
    list_all-append is_visible i.path (35 ∷ i.name) ∙ and_from (list_all is_visible i.path) (list_all is_visible i.name) path name

beyond : (j : Identity) (front : List ℕ) (x : ℕ) (rest : List ℕ) → is_identity j ≡ true → identity_text j ≡ front ++ x ∷ rest → 32 < x
beyond j front x rest h e =
    let all : (list_all is_visible front && list_all is_visible (x ∷ rest)) ≡ true = sym (list_all-append is_visible front (x ∷ rest)) ∙ ap (list_all is_visible) (sym e) ∙ identity_visible j h in
    let here = and_parts (is_visible x) (list_all is_visible rest) (and_parts (list_all is_visible front) (list_all is_visible (x ∷ rest)) all).1 in
    let seen : is_visible x ≡ true = here.0 in
    grind (arith, nat_tests)

-- ---- lines

other_kind : (p q : ℕ) (x y : List ℕ) → (p ≡ q → ⊥) → 46 ∷ p ∷ x ≡ 46 ∷ q ∷ y → ⊥
other_kind p q x y h e = h (cc e)

goes_on_below : (l m : Line) (x : ℕ) (rest : List ℕ) → is_line m ≡ true → key m ≡ key l ++ x ∷ rest → BeginsBelow (signature_part l) x
goes_on_below (lines.Body p f) m x rest h e = tt
goes_on_below (lines.Calls a b) m x rest h e = tt
goes_on_below (lines.Claims a b) m x rest h e = tt
goes_on_below (lines.Instance a b f) m x rest h e = tt
goes_on_below (lines.Struct p f) m x rest h e = tt
goes_on_below (lines.Uses f d) m x rest h e = tt
goes_on_below (lines.Provides i s) (lines.Provides j t) x rest h e =
    beyond j (identity_text i) x rest (and_parts (is_identity j) (is_signature t) h).0 (append_cancel_left (codes ".provides ") (identity_text j) (identity_text i ++ x ∷ rest) e)
goes_on_below (lines.Provides i s) (lines.Body p f) x rest h e = absurd (other_kind 98 112 _ _ (λ d. omega (arith, d)) e)
goes_on_below (lines.Provides i s) (lines.Calls a b) x rest h e = absurd (other_kind 99 112 _ _ (λ d. omega (arith, d)) e)
goes_on_below (lines.Provides i s) (lines.Claims a b) x rest h e = absurd (other_kind 99 112 _ _ (λ d. omega (arith, d)) e)
goes_on_below (lines.Provides i s) (lines.Instance a b f) x rest h e = absurd (other_kind 105 112 _ _ (λ d. omega (arith, d)) e)
goes_on_below (lines.Provides i s) (lines.Requires j t) x rest h e = absurd (other_kind 114 112 _ _ (λ d. omega (arith, d)) e)
goes_on_below (lines.Provides i s) (lines.Struct p f) x rest h e = absurd (other_kind 115 112 _ _ (λ d. omega (arith, d)) e)
goes_on_below (lines.Provides i s) (lines.Uses f d) x rest h e = absurd (other_kind 117 112 _ _ (λ d. omega (arith, d)) e)
goes_on_below (lines.Requires i s) (lines.Requires j t) x rest h e =
    beyond j (identity_text i) x rest (own_is j (and_parts (is_own_identity j) (is_signature t) h).0) (append_cancel_left (codes ".requires ") (identity_text j) (identity_text i ++ x ∷ rest) e)
goes_on_below (lines.Requires i s) (lines.Body p f) x rest h e = absurd (other_kind 98 114 _ _ (λ d. omega (arith, d)) e)
goes_on_below (lines.Requires i s) (lines.Calls a b) x rest h e = absurd (other_kind 99 114 _ _ (λ d. omega (arith, d)) e)
goes_on_below (lines.Requires i s) (lines.Claims a b) x rest h e = absurd (other_kind 99 114 _ _ (λ d. omega (arith, d)) e)
goes_on_below (lines.Requires i s) (lines.Instance a b f) x rest h e = absurd (other_kind 105 114 _ _ (λ d. omega (arith, d)) e)
goes_on_below (lines.Requires i s) (lines.Provides j t) x rest h e = absurd (other_kind 112 114 _ _ (λ d. omega (arith, d)) e)
goes_on_below (lines.Requires i s) (lines.Struct p f) x rest h e = absurd (other_kind 115 114 _ _ (λ d. omega (arith, d)) e)
goes_on_below (lines.Requires i s) (lines.Uses f d) x rest h e = absurd (other_kind 117 114 _ _ (λ d. omega (arith, d)) e)

ascend_from : (l : Line) (ls : List Line) → IsLineOf Second l → AllByRecursion (IsLineOf Second) ls → Ascends (key l) (map key ls) → Ascends (spelled Second l) (map (spelled Second) ls)
ascend_from l [] g each a = tt
ascend_from l (m ∷ ls) g each a =
    (before_append (key l) (key m) (told_part Second l) (told_part Second m) a.0 (λ x rest e. goes_on_below l m x rest each.0.0 e), ascend_from m ls each.0 each.1 a.1)

nothing_before : (l : Line) → slice_cmp nat_cmp [] (spelled Second l) ≡ Less
nothing_before (lines.Body p f) = refl
nothing_before (lines.Calls a b) = refl
nothing_before (lines.Claims a b) = refl
nothing_before (lines.Instance a b f) = refl
nothing_before (lines.Provides i s) = refl
nothing_before (lines.Requires i s) = refl
nothing_before (lines.Struct p f) = refl
nothing_before (lines.Uses f d) = refl

-- the texts of a manifest's lines ascend too
pub texts_ascend : (ls : List Line) → IsManifest ls → Ascends [] (map (spelled Second) ls)
texts_ascend [] m = tt
texts_ascend (l ∷ ls) m = (nothing_before l, ascend_from l ls m.each.0 m.each.1 m.order.1)
