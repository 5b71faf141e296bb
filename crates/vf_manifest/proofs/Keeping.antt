-- Lines that stand in one piece of memory.
use Rattle.std.proofs.Common.{◌≡◌, ℕ, ◌+◌, ◌-◌, ◌≤◌, List, [], ◌∷◌, ◌++◌, suc, length, map, take, drop, get_or, refl, sym, ap, subst, append_assoc, ◌∙◌, arith}
use Rattle.std.specs.Prelude.{All}
use Rattle.std.proofs.lemmas.List.{take_all, take-append-le, drop-append-le, length-drop, length-append, map_push}
use Rattle.std.proofs.lemmas.List.Elements.{All-push}
use Rattle.std.proofs.Math.Seq.{drop-append_seam}
use Rattle.vf_manifest.specs.declared.line.Line.{Line}
use Rattle.vf_manifest.specs.declared.line.Line.TheVariants.{Body, Calls, Claims, Instance, Provides, Requires, Struct, Uses}
use Rattle.vf_manifest.specs.declared.spot.Spot.{Spot}
use Rattle.vf_manifest.specs.Identities.{Identity}
use Rattle.vf_manifest.specs.Words.{identity_text}
use Rattle.vf_manifest.specs.Lines.{subject, content, two}
use Rattle.vf_manifest.specs.Kept.{named, shape_of, line_by, line_at, part, IsKept}
use Rattle.vf_manifest.proofs.Naming.{named as named_again, front_at, behind_at}

-- ---- parts of bytes

-- more bytes behind a part leave it as it is
part_more : (bytes more : List ℕ) (i j : ℕ) → i ≤ j → j ≤ length bytes → part (bytes ++ more) i j ≡ part bytes i j
part_more bytes more i j ordered ends =
    let room : length (drop i bytes) ≡ length bytes - i = length-drop i bytes in
    ap (take (j - i)) (drop-append-le i bytes more (omega arith)) ∙ take-append-le (j - i) (drop i bytes) more (omega arith)

-- the bytes that were put behind are a part
part_last : (a b : List ℕ) (i j : ℕ) → i ≡ length a → j ≡ length (a ++ b) → part (a ++ b) i j ≡ b
part_last a b i j starts ends =
    let total : length (a ++ b) ≡ length a + length b = length-append a b in
    let many : j - i ≡ length b = omega arith in
    ap (λ n. take (j - i) (drop n (a ++ b))) starts ∙ ap (take (j - i)) (drop-append_seam a b) ∙ take_all (j - i) b (omega arith)

part_first : (a b c : List ℕ) (i j : ℕ) → i ≡ length a → j ≡ length (a ++ b) → part ((a ++ b) ++ c) i j ≡ b
part_first a b c i j starts ends =
    let total : length (a ++ b) ≡ length a + length b = length-append a b in
    part_more (a ++ b) c i j (omega arith) (omega arith) ∙ part_last a b i j starts ends

-- ---- lines that stand there stay

line_more : (bytes more : List ℕ) (s : Spot) → IsKept bytes s → line_at (bytes ++ more) s ≡ line_at bytes s
line_more bytes more s k =
    let ordered : s.start ≤ s.middle = k.0 in
    let within : s.middle ≤ s.end = k.1 in
    let ends : s.end ≤ length bytes = k.2 in
    ap (λ a. line_by s.shape.kind s.shape a (part (bytes ++ more) s.middle s.end)) (part_more bytes more s.start s.middle ordered (omega arith))
    ∙ ap (λ b. line_by s.shape.kind s.shape (part bytes s.start s.middle) b) (part_more bytes more s.middle s.end within ends)

kept_more : (bytes more : List ℕ) (s : Spot) → IsKept bytes s → IsKept (bytes ++ more) s
kept_more bytes more s k =
    let ordered : s.start ≤ s.middle = k.0 in
    let within : s.middle ≤ s.end = k.1 in
    let ends : s.end ≤ length bytes = k.2 in
    let total : length (bytes ++ more) ≡ length bytes + length more = length-append bytes more in (
      ordered,
      within,
      omega arith,
      ap subject (line_more bytes more s k) ∙ k.3 ∙ sym (part_more bytes more s.start s.middle ordered (omega arith)),
      ap content (line_more bytes more s k) ∙ k.4 ∙ sym (part_more bytes more s.middle s.end within ends),
    )

lines_more : (bytes more : List ℕ) (ss : List Spot) → All (IsKept bytes) ss → map (line_at (bytes ++ more)) ss ≡ map (line_at bytes) ss
lines_more bytes more [] all = refl
lines_more bytes more (s ∷ ss) all =
    ap (λ t. t ∷ map (line_at (bytes ++ more)) ss) (line_more bytes more s (all 0 s (omega arith)))
    ∙ ap (λ ts. line_at bytes s ∷ ts) (lines_more bytes more ss (λ k d h. all (suc k) d (omega (arith, h))))

-- ---- a line comes back from its shape and words

named_is : (i : Identity) → named (length i.path) (identity_text i) ≡ i
named_is i = named_again (identity_text i) i.path i.name refl

line_again : (l : Line) → line_by (shape_of l).kind (shape_of l) (subject l) (content l) ≡ l
line_again (Body predicate file) = ap (λ i. Body i file) (named_is predicate)
line_again (Calls caller callee) = ap (λ i. Calls i (named (length callee.path) (identity_text callee))) (named_is caller) ∙ ap (λ i. Calls caller i) (named_is callee)
line_again (Claims function claimed) = ap (λ i. Claims i (named (length claimed.path) (identity_text claimed))) (named_is function) ∙ ap (λ i. Claims function i) (named_is claimed)
line_again (Instance family function file) =
    let a = identity_text family in
    let b = identity_text function in
    ap (λ t. Instance (named (length family.path) t) (named (length function.path) (drop (length a + 1) (two a b))) file) (front_at a 32 b)
    ∙ ap (λ t. Instance (named (length family.path) a) (named (length function.path) t) file) (behind_at a 32 b)
    ∙ ap (λ i. Instance i (named (length function.path) b) file) (named_is family) ∙ ap (λ i. Instance family i file) (named_is function)
line_again (Provides provided signature) = ap (λ i. Provides i signature) (named_is provided)
line_again (Requires required signature) = ap (λ i. Requires i signature) (named_is required)
line_again (Struct tag file) = ap (λ i. Struct i file) (named_is tag)
line_again (Uses header digest) = refl

-- ---- one line more

-- where a line was put behind some bytes
pub record IsPut (bytes : List ℕ) (l : Line) (s : Spot) (all : List ℕ) : Type 0 where
  pub shape : s.shape ≡ shape_of l
  pub whole : all ≡ (bytes ++ subject l) ++ content l
  pub start : s.start ≡ length bytes
  pub middle : s.middle ≡ length (bytes ++ subject l)
  pub end : s.end ≡ length all

-- both words stand there
words_there : (bytes : List ℕ) (l : Line) (s : Spot) (all : List ℕ) → IsPut bytes l s all → (part all s.start s.middle ≡ subject l) × (part all s.middle s.end ≡ content l)
words_there bytes l s all p = (
  ap (λ b. part b s.start s.middle) p.whole ∙ part_first bytes (subject l) (content l) s.start s.middle p.start p.middle,
  ap (λ b. part b s.middle s.end) p.whole ∙ part_last (bytes ++ subject l) (content l) s.middle s.end p.middle (p.end ∙ ap length p.whole),
)

-- and the line
line_there : (bytes : List ℕ) (l : Line) (s : Spot) (all : List ℕ) → IsPut bytes l s all → line_at all s ≡ l
line_there bytes l s all p =
    let words = words_there bytes l s all p in
    ap (λ a. line_by s.shape.kind s.shape a (part all s.middle s.end)) words.0 ∙ ap (λ b. line_by s.shape.kind s.shape (subject l) b) words.1
    ∙ ap (λ h. line_by h.kind h (subject l) (content l)) p.shape ∙ line_again l

kept_there : (bytes : List ℕ) (l : Line) (s : Spot) (all : List ℕ) → IsPut bytes l s all → IsKept all s
kept_there bytes l s all p =
    let words = words_there bytes l s all p in
    let line = line_there bytes l s all p in
    let starts = p.start in
    let middles = p.middle in
    let ends = p.end in
    let first = length-append bytes (subject l) in
    let both = length-append (bytes ++ subject l) (content l) in
    let whole : length all ≡ length ((bytes ++ subject l) ++ content l) = ap length p.whole in
    (omega arith, omega arith, omega arith, ap subject line ∙ sym words.0, ap content line ∙ sym words.1)

whole_is : (bytes : List ℕ) (l : Line) (s : Spot) (all : List ℕ) → IsPut bytes l s all → all ≡ bytes ++ (subject l ++ content l)
whole_is bytes l s all p = p.whole ∙ append_assoc bytes (subject l) (content l)

pub lines_put : (bytes : List ℕ) (l : Line) (s : Spot) (all : List ℕ) (ss ts : List Spot) → IsPut bytes l s all → ts ≡ ss ++ s ∷ [] → All (IsKept bytes) ss
    → map (line_at all) ts ≡ map (line_at bytes) ss ++ l ∷ []
lines_put bytes l s all ss ts p is kept =
    ap (map (line_at all)) is ∙ map_push (line_at all) ss s
    ∙ ap (λ x. map (line_at all) ss ++ x ∷ []) (line_there bytes l s all p)
    ∙ ap (λ xs. xs ++ l ∷ []) (ap (λ b. map (line_at b) ss) (whole_is bytes l s all p) ∙ lines_more bytes (subject l ++ content l) ss kept)

pub all_kept : (bytes : List ℕ) (l : Line) (s : Spot) (all : List ℕ) (ss ts : List Spot) → IsPut bytes l s all → ts ≡ ss ++ s ∷ [] → All (IsKept bytes) ss → All (IsKept all) ts
all_kept bytes l s all ss ts p is kept =
    subst (λ xs. All (IsKept all) xs) (sym is)
    (All-push (IsKept all) ss s
    (λ k d h. subst (λ b. IsKept b (get_or ss k d)) (sym (whole_is bytes l s all p)) (kept_more bytes (subject l ++ content l) (get_or ss k d) (kept k d h)))
    (kept_there bytes l s all p))
