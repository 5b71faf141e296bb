-- The words of lines have no bytes that part them, and are read as they are spelled.
use Rattle.std.proofs.Common.{◌≡◌, ℕ, Bool, true, false, cond, List, [], ◌∷◌, ◌++◌, length, Option, Some, None, refl, sym, ap, subst, ◌∙◌, inl, inr, cond}
use Rattle.std.specs.Prelude.{◌==◌, not, ◌&&◌}
use Rattle.std.specs.Char.{is_ascii_digit}
use Rattle.std.specs.List.{list_all}
use Rattle.std.proofs.lemmas.Bool.{and_parts, and_from, or_cases, or_left, cond-true}
use Rattle.vf_manifest.specs.Identities.{Identity}
use Rattle.vf_manifest.specs.Cuts.{◌>>=◌, cut}
use Rattle.vf_manifest.specs.Words.{is_path_byte, is_file_path, prelude_paths, is_prelude_path, is_path, is_letter, is_word_byte, is_name, identity_text, is_identity, is_own_identity}
use Rattle.vf_manifest.specs.Lines.{two}
use Rattle.vf_manifest.specs.Reading.{tested, identity_at, both}
use Rattle.vf_manifest.proofs.Cutting.{without, some_is, bind_some, guarded, cut_takes, cut_again, without_each, without-append, without_among}

pub name_bytes : (name : List ℕ) → is_name name ≡ true → list_all is_word_byte name ≡ true
name_bytes [] h = absurd (cc h)
name_bytes (b ∷ bs) h =
    let parts = and_parts (is_letter b) (list_all is_word_byte bs) h in
    and_from (is_word_byte b) (list_all is_word_byte bs) (or_left (is_letter b) (is_ascii_digit b) parts.0) parts.1

pub name_without : (c : ℕ) (name : List ℕ) → is_word_byte c ≡ false → is_name name ≡ true → without c name ≡ true
name_without c name h e = without_each is_word_byte c h name (name_bytes name e)

pub file_without : (c : ℕ) (path : List ℕ) → is_path_byte c ≡ false → is_file_path path ≡ true → without c path ≡ true
file_without c path h e = without_each is_path_byte c h path (and_parts (not (length path == 0)) (list_all is_path_byte path) e).1

pub path_without : (c : ℕ) (path : List ℕ) → is_path_byte c ≡ false → list_all (without c) prelude_paths ≡ true → is_path path ≡ true → without c path ≡ true
path_without c path h k e =
    elim (or_cases (is_file_path path) (is_prelude_path path) e) [
      | inl file ↦ file_without c path h file
      | inr prelude ↦ without_among c path prelude_paths prelude k
    ]

pub own_is : (i : Identity) → is_own_identity i ≡ true → is_identity i ≡ true
own_is i h =
    let parts = and_parts (is_file_path i.path) (is_name i.name) h in
    and_from (is_path i.path) (is_name i.name) (or_left (is_file_path i.path) (is_prelude_path i.path) parts.0) parts.1

pub identity_without : (c : ℕ) (i : Identity) → is_path_byte c ≡ false → list_all (without c) prelude_paths ≡ true → is_word_byte c ≡ false → (35 == c) ≡ false → is_identity i ≡ true → without c (identity_text i) ≡ true
identity_without c i h k w ne e =
    let parts = and_parts (is_path i.path) (is_name i.name) e in
    let name = name_without c i.name w parts.1 in
    without-append c i.path (35 ∷ i.name) (path_without c i.path h k parts.0) (and_from (not (35 == c)) (without c i.name) (ap not ne) name)

-- ---- readers

-- a reader reads the texts of what is good, and nothing else
pub record Reads {A : Type 0} (read : List ℕ → Option A) (spell : A → List ℕ) (good : A → Bool) : Type 0 where
  pub takes : (text : List ℕ) (x : A) → read text ≡ Some x → (text ≡ spell x) × (good x ≡ true)
  pub again : (x : A) → good x ≡ true → read (spell x) ≡ Some x

pub tested_reads : (test : List ℕ → Bool) → Reads (tested test) (λ t. t) test
tested_reads test = record {
  takes = λ text x e. let g = guarded (test text) text x e in (g.1, sym (ap test g.1) ∙ g.0);
  again = λ x h. cond-true (test x) (Some x) None h;
}

identity_takes : (test : Identity → Bool) (text : List ℕ) (i : Identity) → identity_at test text ≡ Some i → (text ≡ identity_text i) × (test i ≡ true)
unfolding identity_at
identity_takes test text i e =
    let p = bind_some (cut 35 text) (λ p. cond (test (record { path = p.0; name = p.1 })) (Some (record { path = p.0; name = p.1 })) None) i e in
    let made : Identity = record { path = p.0.0; name = p.0.1 } in
    let g = guarded (test made) made i p.2 in
    (cut_takes 35 text p.0 p.1 ∙ ap identity_text g.1, sym (ap test g.1) ∙ g.0)

identity_again : (test : Identity → Bool) (i : Identity) → without 35 i.path ≡ true → test i ≡ true → identity_at test (identity_text i) ≡ Some i
unfolding identity_at
identity_again test i h e =
    ap (λ o. o >>= λ p. cond (test (record { path = p.0; name = p.1 })) (Some (record { path = p.0; name = p.1 })) None) (cut_again 35 i.path i.name h)
    ∙ cond-true (test i) (Some i) None e

pub identity_reads : Reads (identity_at is_identity) identity_text is_identity
identity_reads = record {
  takes = λ text i e. identity_takes is_identity text i e;
  again = λ i h. identity_again is_identity i (path_without 35 i.path refl refl (and_parts (is_path i.path) (is_name i.name) h).0) h;
}

pub own_reads : Reads (identity_at is_own_identity) identity_text is_own_identity
own_reads = record {
  takes = λ text i e. identity_takes is_own_identity text i e;
  again = λ i h. identity_again is_own_identity i (file_without 35 i.path refl (and_parts (is_file_path i.path) (is_name i.name) h).0) h;
}

pub both_reads : {A B : Type 0} (r : List ℕ → Option A) (s : A → List ℕ) (g : A → Bool) (r' : List ℕ → Option B) (s' : B → List ℕ) (g' : B → Bool)
    → Reads r s g → ((x : A) → g x ≡ true → without 32 (s x) ≡ true) → Reads r' s' g'
    → Reads (both r r') (λ x. two (s x.0) (s' x.1)) (λ x. g x.0 && g' x.1)
unfolding both
both_reads {A} {B} r s g r' s' g' first parted second = record {
  takes = λ text x e.
      let p = bind_some (cut 32 text) (λ p. r p.0 >>= λ y. r' p.1 >>= λ z. Some (y, z)) x e in
      let y = bind_some (r p.0.0) (λ y. r' p.0.1 >>= λ z. Some (y, z)) x p.2 in
      let z = bind_some (r' p.0.1) (λ z. Some (y.0, z)) x y.2 in
      let t = first.takes p.0.0 y.0 y.1 in
      let u = second.takes p.0.1 z.0 z.1 in
      let parts : text ≡ two (s y.0) (s' z.0) = cut_takes 32 text p.0 p.1 ∙ ap (λ a. a ++ 32 ∷ p.0.1) t.0 ∙ ap (λ b. s y.0 ++ 32 ∷ b) u.0 in
      subst (λ (w : A × B). (text ≡ two (s w.0) (s' w.1)) × ((g w.0 && g' w.1) ≡ true)) (some_is (y.0, z.0) x z.2) (parts, and_from (g y.0) (g' z.0) t.1 u.1);
  again = λ x h.
      let good = and_parts (g x.0) (g' x.1) h in
      ap (λ o. o >>= λ p. r p.0 >>= λ y. r' p.1 >>= λ z. Some (y, z)) (cut_again 32 (s x.0) (s' x.1) (parted x.0 good.0))
      ∙ ap (λ o. o >>= λ y. r' (s' x.1) >>= λ z. Some (y, z)) (first.again x.0 good.0)
      ∙ ap (λ o. o >>= λ z. Some (x.0, z)) (second.again x.1 good.1);
}
