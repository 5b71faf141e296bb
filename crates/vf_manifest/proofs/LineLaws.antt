-- Lines are read as they are spelled.
use Rattle.std.proofs.Common.{◌≡◌, ℕ, Bool, true, cond, List, [], ◌∷◌, ◌++◌, length, Option, Some, None, refl, sym, ap, subst, ◌∙◌, inl, inr}
use Rattle.std.specs.Prelude.{◌==◌, ◌&&◌, ◌||◌, codes}
use Rattle.std.specs.List.{list_all}
use Rattle.std.specs.Str.{bytes_eq}
use Rattle.std.proofs.lemmas.Bool.{and_parts, and_from}
use Rattle.std.proofs.lemmas.List.{append-nil}
use Rattle.std.proofs.lemmas.Slice.Eq.{bytes_eq-Decides}
use Rattle.vf_manifest.specs.Identities.{Identity}
use Rattle.vf_manifest.specs.declared.line.Line.{Line}
use Rattle.vf_manifest.specs.declared.line.Line.TheVariants as lines
use Rattle.vf_manifest.specs.declared.line.Version.{Version}
use Rattle.vf_manifest.specs.declared.line.Version.TheVariants.{First, Second}
use Rattle.vf_manifest.specs.declared.kind.Kind.{Kind}
use Rattle.vf_manifest.specs.declared.kind.Kind.TheVariants.{Body, Calls, Claims, Instance, Provides, Requires, Struct, Uses}
use Rattle.vf_manifest.specs.Cuts.{◌>>=◌, cut}
use Rattle.vf_manifest.specs.Words.{is_visible, is_file_path, is_path, is_lower_hex, is_digest, identity_text, is_identity, is_own_identity}
use Rattle.vf_manifest.specs.Signatures.{is_signature, is_function, is_lemma}
use Rattle.vf_manifest.specs.Lines.{two, key, signature_part, spelled, is_line, Untold, IsOf}
use Rattle.vf_manifest.specs.Manifests.{IsLineOf}
use Rattle.vf_manifest.specs.Reading.{tested, identity_at, both, kind_of, pair_at, placed_at, located_at, instance_at, used_at, signed_at, words_at, line_at}
use Rattle.vf_manifest.proofs.Cutting.{without, some_is, none_some, bind_some, chosen, cut_takes, without_each, without-append}
use Rattle.vf_manifest.proofs.WordLaws.{file_without, path_without, own_is, identity_without, Reads, tested_reads, identity_reads, own_reads, both_reads}

-- ---- kinds

-- the first word of a line of this kind
abbrev pub word_of : Kind → List ℕ
word_of Body = codes ".body"
word_of Calls = codes ".calls"
word_of Claims = codes ".claims"
word_of Instance = codes ".instance"
word_of Provides = codes ".provides"
word_of Requires = codes ".requires"
word_of Struct = codes ".struct"
word_of Uses = codes ".uses"

abbrev from_uses : List ℕ → Option Kind
from_uses w = cond (bytes_eq w (codes ".uses")) (Some Uses) None

abbrev from_struct : List ℕ → Option Kind
from_struct w = cond (bytes_eq w (codes ".struct")) (Some Struct) (from_uses w)

abbrev from_requires : List ℕ → Option Kind
from_requires w = cond (bytes_eq w (codes ".requires")) (Some Requires) (from_struct w)

abbrev from_provides : List ℕ → Option Kind
from_provides w = cond (bytes_eq w (codes ".provides")) (Some Provides) (from_requires w)

abbrev from_instance : List ℕ → Option Kind
from_instance w = cond (bytes_eq w (codes ".instance")) (Some Instance) (from_provides w)

abbrev from_claims : List ℕ → Option Kind
from_claims w = cond (bytes_eq w (codes ".claims")) (Some Claims) (from_instance w)

abbrev from_calls : List ℕ → Option Kind
from_calls w = cond (bytes_eq w (codes ".calls")) (Some Calls) (from_claims w)

tried : (w : List ℕ) (first k : Kind) (other : Option Kind) → (other ≡ Some k → w ≡ word_of k) → cond (bytes_eq w (word_of first)) (Some first) other ≡ Some k → w ≡ word_of k
tried w first k other rest e =
    elim (chosen (bytes_eq w (word_of first)) (Some first) other (Some k) e) [
      | inl h ↦ (bytes_eq-Decides w (word_of first)).0 h.0 ∙ ap word_of (some_is first k h.1)
      | inr h ↦ rest h.1
    ]

kind_takes : (w : List ℕ) (k : Kind) → kind_of w ≡ Some k → w ≡ word_of k
kind_takes w k e =
    tried w Body k (from_calls w)
    (λ e1. tried w Calls k (from_claims w)
    (λ e2. tried w Claims k (from_instance w)
    (λ e3. tried w Instance k (from_provides w)
    (λ e4. tried w Provides k (from_requires w)
    (λ e5. tried w Requires k (from_struct w)
    (λ e6. tried w Struct k (from_uses w)
    (λ e7. tried w Uses k None (λ e8. absurd (none_some k e8)) e7)
    e6) e5) e4) e3) e2) e1) e

-- ---- words

pub no_blank : (i : Identity) → is_identity i ≡ true → without 32 (identity_text i) ≡ true
no_blank i h = identity_without 32 i refl refl refl refl h

own_no_blank : (i : Identity) → is_own_identity i ≡ true → without 32 (identity_text i) ≡ true
own_no_blank i h = no_blank i (own_is i h)

file_no_blank : (f : List ℕ) → is_file_path f ≡ true → without 32 f ≡ true
file_no_blank f h = file_without 32 f refl h

pair_reads : Reads pair_at (λ x. two (identity_text x.0) (identity_text x.1)) (λ x. is_identity x.0 && is_identity x.1)
pair_reads = both_reads (identity_at is_identity) identity_text is_identity (identity_at is_identity) identity_text is_identity identity_reads no_blank identity_reads

placed_reads : Reads placed_at (λ x. two (identity_text x.0) x.1) (λ x. is_own_identity x.0 && is_file_path x.1)
placed_reads = both_reads (identity_at is_own_identity) identity_text is_own_identity (tested is_file_path) (λ t. t) is_file_path own_reads own_no_blank (tested_reads is_file_path)

located_reads : Reads located_at (λ x. two (identity_text x.0) x.1) (λ x. is_identity x.0 && is_path x.1)
located_reads = both_reads (identity_at is_identity) identity_text is_identity (tested is_path) (λ t. t) is_path identity_reads no_blank (tested_reads is_path)

instance_reads : Reads instance_at (λ x. two (identity_text x.0) (two (identity_text x.1.0) x.1.1)) (λ x. is_identity x.0 && (is_identity x.1.0 && is_path x.1.1))
instance_reads = both_reads (identity_at is_identity) identity_text is_identity located_at (λ x. two (identity_text x.0) x.1) (λ x. is_identity x.0 && is_path x.1) identity_reads no_blank located_reads

used_reads : Reads used_at (λ x. two x.0 x.1) (λ x. is_file_path x.0 && is_digest x.1)
used_reads = both_reads (tested is_file_path) (λ t. t) is_file_path (tested is_digest) (λ t. t) is_digest (tested_reads is_file_path) file_no_blank (tested_reads is_digest)

told_reads : (test : Identity → Bool) → Reads (identity_at test) identity_text test → ((i : Identity) → test i ≡ true → without 32 (identity_text i) ≡ true)
    → Reads (both (identity_at test) (tested is_signature)) (λ x. two (identity_text x.0) x.1) (λ x. test x.0 && is_signature x.1)
told_reads test reads parted = both_reads (identity_at test) identity_text test (tested is_signature) (λ t. t) is_signature reads parted (tested_reads is_signature)

-- what is not told is a signature
untold_good : is_signature (codes "?") ≡ true
unfolding is_signature
untold_good = refl

-- an identity and its signature, in version 1
first_takes : (test : Identity → Bool) → Reads (identity_at test) identity_text test → (text : List ℕ) (x : Identity × List ℕ) → signed_at First test text ≡ Some x
    → (text ≡ identity_text x.0) × ((test x.0 && is_signature x.1) ≡ true) × (x.1 ≡ codes "?")
unfolding signed_at
first_takes test reads text x e =
    let y = bind_some (identity_at test text) (λ i. Some (i, codes "?")) x e in
    let t = reads.takes text y.0 y.1 in
    subst (λ (w : Identity × List ℕ). (text ≡ identity_text w.0) × ((test w.0 && is_signature w.1) ≡ true) × (w.1 ≡ codes "?")) (some_is (y.0, codes "?") x y.2)
    (t.0, and_from (test y.0) (is_signature (codes "?")) t.1 untold_good, refl)

first_again : (test : Identity → Bool) → Reads (identity_at test) identity_text test → (i : Identity) → test i ≡ true → signed_at First test (identity_text i) ≡ Some (i, codes "?")
unfolding signed_at
first_again test reads i h = ap (λ o. o >>= λ i. Some (i, codes "?")) (reads.again i h)

second_takes : (test : Identity → Bool) → Reads (identity_at test) identity_text test → ((i : Identity) → test i ≡ true → without 32 (identity_text i) ≡ true)
    → (text : List ℕ) (x : Identity × List ℕ) → signed_at Second test text ≡ Some x → (text ≡ two (identity_text x.0) x.1) × ((test x.0 && is_signature x.1) ≡ true)
unfolding signed_at
second_takes test reads parted text x e = (told_reads test reads parted).takes text x e

second_again : (test : Identity → Bool) → Reads (identity_at test) identity_text test → ((i : Identity) → test i ≡ true → without 32 (identity_text i) ≡ true)
    → (i : Identity) (s : List ℕ) → (test i && is_signature s) ≡ true → signed_at Second test (two (identity_text i) s) ≡ Some (i, s)
unfolding signed_at
second_again test reads parted i s h = (told_reads test reads parted).again (i, s) h

-- ---- lines

-- a line without a signature is spelled alike in each version
pub plain : (v : Version) (l : Line) → signature_part l ≡ [] → spelled v l ≡ key l
plain First l h = append-nil (key l)
plain Second l h = ap (λ t. key l ++ t) h ∙ append-nil (key l)

is_of : (v : Version) (l : Line) → Untold l → IsOf v l
is_of First l h = h
is_of Second l h = tt

plain_line : (v : Version) (l m : Line) (text : List ℕ) → signature_part l ≡ [] → Untold l → text ≡ key l → is_line l ≡ true → ◌≡◌ {A = Option Line} (Some l) (Some m) → (text ≡ spelled v m) × IsLineOf v m
plain_line v l m text none untold parts good e =
    subst (λ (n : Line). (text ≡ spelled v n) × IsLineOf v n) (some_is l m e) (parts ∙ sym (plain v l none), (good, is_of v l untold))

words_takes : (v : Version) (k : Kind) (text : List ℕ) (l : Line) → words_at v k text ≡ Some l → (word_of k ++ 32 ∷ text ≡ spelled v l) × IsLineOf v l
unfolding words_at
words_takes v Body text l e =
    let x = bind_some (placed_at text) (λ x. Some (lines.Body x.0 x.1)) l e in
    let t = placed_reads.takes text x.0 x.1 in
    plain_line v (lines.Body x.0.0 x.0.1) l (codes ".body " ++ text) refl tt (ap (λ a. codes ".body " ++ a) t.0) t.1 x.2
words_takes v Calls text l e =
    let x = bind_some (pair_at text) (λ x. Some (lines.Calls x.0 x.1)) l e in
    let t = pair_reads.takes text x.0 x.1 in
    plain_line v (lines.Calls x.0.0 x.0.1) l (codes ".calls " ++ text) refl tt (ap (λ a. codes ".calls " ++ a) t.0) t.1 x.2
words_takes v Claims text l e =
    let x = bind_some (pair_at text) (λ x. Some (lines.Claims x.0 x.1)) l e in
    let t = pair_reads.takes text x.0 x.1 in
    plain_line v (lines.Claims x.0.0 x.0.1) l (codes ".claims " ++ text) refl tt (ap (λ a. codes ".claims " ++ a) t.0) t.1 x.2
words_takes v Instance text l e =
    let x = bind_some (instance_at text) (λ x. Some (lines.Instance x.0 x.1.0 x.1.1)) l e in
    let t = instance_reads.takes text x.0 x.1 in
    plain_line v (lines.Instance x.0.0 x.0.1.0 x.0.1.1) l (codes ".instance " ++ text) refl tt (ap (λ a. codes ".instance " ++ a) t.0) t.1 x.2
words_takes First Provides text l e =
    let x = bind_some (signed_at First is_identity text) (λ x. Some (lines.Provides x.0 x.1)) l e in
    let t = first_takes is_identity identity_reads text x.0 x.1 in
    subst (λ (n : Line). (codes ".provides " ++ text ≡ spelled First n) × IsLineOf First n) (some_is (lines.Provides x.0.0 x.0.1) l x.2)
    (ap (λ a. codes ".provides " ++ a) t.0 ∙ sym (append-nil (key (lines.Provides x.0.0 x.0.1))), (t.1, t.2))
words_takes Second Provides text l e =
    let x = bind_some (signed_at Second is_identity text) (λ x. Some (lines.Provides x.0 x.1)) l e in
    let t = second_takes is_identity identity_reads no_blank text x.0 x.1 in
    subst (λ (n : Line). (codes ".provides " ++ text ≡ spelled Second n) × IsLineOf Second n) (some_is (lines.Provides x.0.0 x.0.1) l x.2)
    (ap (λ a. codes ".provides " ++ a) t.0, (t.1, tt))
words_takes First Requires text l e =
    let x = bind_some (signed_at First is_own_identity text) (λ x. Some (lines.Requires x.0 x.1)) l e in
    let t = first_takes is_own_identity own_reads text x.0 x.1 in
    subst (λ (n : Line). (codes ".requires " ++ text ≡ spelled First n) × IsLineOf First n) (some_is (lines.Requires x.0.0 x.0.1) l x.2)
    (ap (λ a. codes ".requires " ++ a) t.0 ∙ sym (append-nil (key (lines.Requires x.0.0 x.0.1))), (t.1, t.2))
words_takes Second Requires text l e =
    let x = bind_some (signed_at Second is_own_identity text) (λ x. Some (lines.Requires x.0 x.1)) l e in
    let t = second_takes is_own_identity own_reads own_no_blank text x.0 x.1 in
    subst (λ (n : Line). (codes ".requires " ++ text ≡ spelled Second n) × IsLineOf Second n) (some_is (lines.Requires x.0.0 x.0.1) l x.2)
    (ap (λ a. codes ".requires " ++ a) t.0, (t.1, tt))
words_takes v Struct text l e =
    let x = bind_some (placed_at text) (λ x. Some (lines.Struct x.0 x.1)) l e in
    let t = placed_reads.takes text x.0 x.1 in
    plain_line v (lines.Struct x.0.0 x.0.1) l (codes ".struct " ++ text) refl tt (ap (λ a. codes ".struct " ++ a) t.0) t.1 x.2
words_takes v Uses text l e =
    let x = bind_some (used_at text) (λ x. Some (lines.Uses x.0 x.1)) l e in
    let t = used_reads.takes text x.0 x.1 in
    plain_line v (lines.Uses x.0.0 x.0.1) l (codes ".uses " ++ text) refl tt (ap (λ a. codes ".uses " ++ a) t.0) t.1 x.2

-- a text that is read as a line spells it
pub line_takes : (v : Version) (text : List ℕ) (l : Line) → line_at v text ≡ Some l → (text ≡ spelled v l) × IsLineOf v l
unfolding line_at
line_takes v text l e =
    let p = bind_some (cut 32 text) (λ p. kind_of p.0 >>= λ k. words_at v k p.1) l e in
    let k = bind_some (kind_of p.0.0) (λ k. words_at v k p.0.1) l p.2 in
    let w = words_takes v k.0 p.0.1 l k.2 in
    (cut_takes 32 text p.0 p.1 ∙ ap (λ a. a ++ 32 ∷ p.0.1) (kind_takes p.0.0 k.0 k.1) ∙ w.0, w.1)

-- the text of a line is read as that line
pub line_again : (v : Version) (l : Line) → IsLineOf v l → line_at v (spelled v l) ≡ Some l
unfolding line_at cut words_at
line_again v (lines.Body p f) h = ap (line_at v) (plain v (lines.Body p f) refl) ∙ ap (λ o. o >>= λ x. Some (lines.Body x.0 x.1)) (placed_reads.again (p, f) h.0)
line_again v (lines.Calls a b) h = ap (line_at v) (plain v (lines.Calls a b) refl) ∙ ap (λ o. o >>= λ x. Some (lines.Calls x.0 x.1)) (pair_reads.again (a, b) h.0)
line_again v (lines.Claims a b) h = ap (line_at v) (plain v (lines.Claims a b) refl) ∙ ap (λ o. o >>= λ x. Some (lines.Claims x.0 x.1)) (pair_reads.again (a, b) h.0)
line_again v (lines.Instance a b f) h = ap (line_at v) (plain v (lines.Instance a b f) refl) ∙ ap (λ o. o >>= λ x. Some (lines.Instance x.0 x.1.0 x.1.1)) (instance_reads.again (a, (b, f)) h.0)
line_again First (lines.Provides i s) h =
    ap (line_at First) (append-nil (key (lines.Provides i s)))
    ∙ ap (λ o. o >>= λ x. Some (lines.Provides x.0 x.1)) (first_again is_identity identity_reads i (and_parts (is_identity i) (is_signature s) h.0).0)
    ∙ ap (λ t. Some (lines.Provides i t)) (sym h.1)
line_again Second (lines.Provides i s) h = ap (λ o. o >>= λ x. Some (lines.Provides x.0 x.1)) (second_again is_identity identity_reads no_blank i s h.0)
line_again First (lines.Requires i s) h =
    ap (line_at First) (append-nil (key (lines.Requires i s)))
    ∙ ap (λ o. o >>= λ x. Some (lines.Requires x.0 x.1)) (first_again is_own_identity own_reads i (and_parts (is_own_identity i) (is_signature s) h.0).0)
    ∙ ap (λ t. Some (lines.Requires i t)) (sym h.1)
line_again Second (lines.Requires i s) h = ap (λ o. o >>= λ x. Some (lines.Requires x.0 x.1)) (second_again is_own_identity own_reads own_no_blank i s h.0)
line_again v (lines.Struct p f) h = ap (line_at v) (plain v (lines.Struct p f) refl) ∙ ap (λ o. o >>= λ x. Some (lines.Struct x.0 x.1)) (placed_reads.again (p, f) h.0)
line_again v (lines.Uses f d) h = ap (line_at v) (plain v (lines.Uses f d) refl) ∙ ap (λ o. o >>= λ x. Some (lines.Uses x.0 x.1)) (used_reads.again (f, d) h.0)

-- ---- no line has a line feed in it

in_line : (i : Identity) → is_identity i ≡ true → without 10 (identity_text i) ≡ true
in_line i h = identity_without 10 i refl refl refl refl h

own_in_line : (i : Identity) → is_own_identity i ≡ true → without 10 (identity_text i) ≡ true
own_in_line i h = in_line i (own_is i h)

file_in_line : (f : List ℕ) → is_file_path f ≡ true → without 10 f ≡ true
file_in_line f h = file_without 10 f refl h

signature_in_line : (s : List ℕ) → is_signature s ≡ true → without 10 s ≡ true
unfolding is_signature
signature_in_line s h = without_each is_visible 10 refl s (and_parts (list_all is_visible s) (bytes_eq s (codes "?") || is_function s || is_lemma s) h).0

digest_in_line : (d : List ℕ) → is_digest d ≡ true → without 10 d ≡ true
digest_in_line d h = without_each is_lower_hex 10 refl d (and_parts (length d == 64) (list_all is_lower_hex d) h).1

two_in_line : (a b : List ℕ) → without 10 a ≡ true → without 10 b ≡ true → without 10 (two a b) ≡ true
two_in_line a b h k = without-append 10 a (32 ∷ b) h k

pub spelled_in_line : (v : Version) (l : Line) → IsLineOf v l → without 10 (spelled v l) ≡ true
spelled_in_line v (lines.Body p f) h =
    let g = and_parts (is_own_identity p) (is_file_path f) h.0 in
    ap (without 10) (plain v (lines.Body p f) refl) ∙ two_in_line (identity_text p) f (own_in_line p g.0) (file_in_line f g.1)
spelled_in_line v (lines.Calls a b) h =
    let g = and_parts (is_identity a) (is_identity b) h.0 in
    ap (without 10) (plain v (lines.Calls a b) refl) ∙ two_in_line (identity_text a) (identity_text b) (in_line a g.0) (in_line b g.1)
spelled_in_line v (lines.Claims a b) h =
    let g = and_parts (is_identity a) (is_identity b) h.0 in
    ap (without 10) (plain v (lines.Claims a b) refl) ∙ two_in_line (identity_text a) (identity_text b) (in_line a g.0) (in_line b g.1)
spelled_in_line v (lines.Instance a b f) h =
    let g = and_parts (is_identity a) (is_identity b && is_path f) h.0 in
    let k = and_parts (is_identity b) (is_path f) g.1 in
    ap (without 10) (plain v (lines.Instance a b f) refl)
    ∙ two_in_line (identity_text a) (two (identity_text b) f) (in_line a g.0) (two_in_line (identity_text b) f (in_line b k.0) (path_without 10 f refl refl k.1))
spelled_in_line First (lines.Provides i s) h = ap (without 10) (append-nil (key (lines.Provides i s))) ∙ in_line i (and_parts (is_identity i) (is_signature s) h.0).0
spelled_in_line Second (lines.Provides i s) h =
    let g = and_parts (is_identity i) (is_signature s) h.0 in
    two_in_line (identity_text i) s (in_line i g.0) (signature_in_line s g.1)
spelled_in_line First (lines.Requires i s) h = ap (without 10) (append-nil (key (lines.Requires i s))) ∙ own_in_line i (and_parts (is_own_identity i) (is_signature s) h.0).0
spelled_in_line Second (lines.Requires i s) h =
    let g = and_parts (is_own_identity i) (is_signature s) h.0 in
    two_in_line (identity_text i) s (own_in_line i g.0) (signature_in_line s g.1)
spelled_in_line v (lines.Struct p f) h =
    let g = and_parts (is_own_identity p) (is_file_path f) h.0 in
    ap (without 10) (plain v (lines.Struct p f) refl) ∙ two_in_line (identity_text p) f (own_in_line p g.0) (file_in_line f g.1)
spelled_in_line v (lines.Uses f d) h =
    let g = and_parts (is_file_path f) (is_digest d) h.0 in
    ap (without 10) (plain v (lines.Uses f d) refl) ∙ two_in_line f d (file_in_line f g.0) (digest_in_line d g.1)
