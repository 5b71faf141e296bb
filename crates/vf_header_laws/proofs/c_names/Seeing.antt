-- Which files are seen from a header.
use Rattle.std.proofs.Common.{◌≡◌, ℕ, Bool, true, false, cond, ◌||◌, nat_eq, List, [], ◌∷◌, refl, sym, ap, ◌∙◌}
use Rattle.std.proofs.lemmas.Bool.{eq-eqb, false≢true}
use Rattle.vf_declared.specs.declared.scope.Scope.{Scope}
use Rattle.vf_declared.specs.Scopes.{has, is_visible, sees}
use Rattle.vf_header_laws.specs.c_names.Parts.{IsHeader, is_part_of, LiesWithin, part_of, parts_among, StandsIn}

-- a header sees the files of which it consists
pub sees_parts : (s : Scope) (header file : ℕ) → IsHeader s header → sees s header file ≡ is_part_of s header file
sees_parts s header file h = ap (λ b. b || is_part_of s header file) h

pub same_number : (n : ℕ) → nat_eq n n ≡ true
same_number n = eq-eqb n n refl

-- files that are visible stand there
pub visible_stands : (s : Scope) (header : ℕ) (files : List ℕ) → IsHeader s header → is_visible s header files ≡ true → StandsIn s header files
visible_stands s header [] h v = absurd (false≢true v)
visible_stands s header (file ∷ files) h v = by_test (sees s header file) refl v (visible_stands s header files h)
  where
    by_test : (b : Bool) → sees s header file ≡ b → (b || is_visible s header files) ≡ true → (is_visible s header files ≡ true → StandsIn s header files) → StandsIn s header (file ∷ files)
    by_test true e v f = record { file = file; among = ap (λ b. b || has files file) (same_number file); part = sym (sees_parts s header file h) ∙ e }
    by_test false e v f = let r = f v in record { file = r.file; among = behind (nat_eq file r.file) (has files r.file) r.among; part = r.part }
      where
        behind : (a b : Bool) → b ≡ true → (a || b) ≡ true
        behind true b e = refl
        behind false b e = e

-- the files of which a header consists are all that is visible from it, and from a header that lies within it
pub visible_in_part : (s : Scope) (header from : ℕ) (files : List ℕ) → IsHeader s from → LiesWithin s header from → is_visible (part_of header s) from (parts_among s header files) ≡ is_visible s from files
visible_in_part s header from [] h w = refl
visible_in_part s header from (file ∷ files) h w = by_test (is_part_of s header file) refl (visible_in_part s header from files h w)
  where
    unseen : (b : Bool) → is_part_of s from file ≡ b → is_part_of s header file ≡ false → sees s from file ≡ false
    unseen true e k = absurd (false≢true (sym k ∙ w file e))
    unseen false e k = sees_parts s from file h ∙ e

    by_test : (b : Bool) → is_part_of s header file ≡ b → is_visible (part_of header s) from (parts_among s header files) ≡ is_visible s from files → is_visible (part_of header s) from (cond b (file ∷ parts_among s header files) (parts_among s header files)) ≡ (sees s from file || is_visible s from files)
    by_test true e r = ap (λ b. sees s from file || b) r
    by_test false e r = r ∙ sym (ap (λ b. b || is_visible s from files) (unseen (is_part_of s from file) refl e))
