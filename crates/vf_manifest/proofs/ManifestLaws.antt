-- Reading a manifest line by line.
use Rattle.std.proofs.Common.{◌≡◌, ℕ, ◌+◌, ◌-◌, ◌≤◌, List, [], ◌∷◌, ◌++◌, length, take, map, Some, None, refl, sym, ap, subst, ◌∙◌, inl, inr, append_assoc, length-append, arith}
use Rattle.std.specs.declared.cmp.Ordering.TheVariants.{Less}
use Rattle.std.specs.Cmp.Lexicographic.{slice_cmp}
use Rattle.std.specs.Ordering.{nat_cmp}
use Rattle.std.specs.List.{flat_map, AllByRecursion}
use Rattle.std.proofs.lemmas.List.{append-nil, append_cancel_left, take_at}
use Rattle.std.proofs.lemmas.List.Concat.{flat_map-append}
use Rattle.vf_manifest.specs.declared.line.Line.{Line}
use Rattle.vf_manifest.specs.declared.line.Version.{Version}
use Rattle.vf_manifest.specs.declared.line.Version.TheVariants.{First, Second}
use Rattle.vf_manifest.specs.Cuts.{cut}
use Rattle.vf_manifest.specs.Lines.{key, signature_part, spelled}
use Rattle.vf_manifest.specs.Manifests.{Ascends, IsLineOf, IsManifestOf, IsManifest, head, ended, text_of, IsManifestText, NoLine, HasFault}
use Rattle.vf_manifest.specs.Reading.{line_at}
use Rattle.vf_manifest.proofs.Cutting.{some_is, none_some, cut_takes, cut_again}
use Rattle.vf_manifest.proofs.LineLaws.{line_takes, line_again, spelled_in_line}

-- the last key of lines, or this text where there are none
abbrev pub last_key : List ℕ → List Line → List ℕ
last_key low [] = low
last_key low (l ∷ ls) = last_key (key l) ls

pub last_key-more : (low : List ℕ) (ls : List Line) (l : Line) → last_key low (ls ++ l ∷ []) ≡ key l
last_key-more low [] l = refl
last_key-more low (m ∷ ls) l = last_key-more (key m) ls l

ascends_more : (low : List ℕ) (ls : List Line) (l : Line) → Ascends low (map key ls) → slice_cmp nat_cmp (last_key low ls) (key l) ≡ Less → Ascends low (map key (ls ++ l ∷ []))
ascends_more low [] l a h = (h, tt)
ascends_more low (m ∷ ls) l a h = (a.0, ascends_more (key m) ls l a.1 h)

ascends_last : (low : List ℕ) (ls : List Line) (l : Line) → Ascends low (map key (ls ++ l ∷ [])) → slice_cmp nat_cmp (last_key low ls) (key l) ≡ Less
ascends_last low [] l a = a.0
ascends_last low (m ∷ ls) l a = ascends_last (key m) ls l a.1

ascends_front : (low : List ℕ) (ls ms : List Line) → Ascends low (map key (ls ++ ms)) → Ascends low (map key ls)
ascends_front low [] ms a = tt
ascends_front low (l ∷ ls) ms a = (a.0, ascends_front (key l) ls ms a.1)

each_more : (v : Version) (ls : List Line) (l : Line) → AllByRecursion (IsLineOf v) ls → IsLineOf v l → AllByRecursion (IsLineOf v) (ls ++ l ∷ [])
each_more v [] l a h = (h, tt)
each_more v (m ∷ ls) l a h = (a.0, each_more v ls l a.1 h)

each_last : (v : Version) (ls : List Line) (l : Line) → AllByRecursion (IsLineOf v) (ls ++ l ∷ []) → IsLineOf v l
each_last v [] l a = a.0
each_last v (m ∷ ls) l a = each_last v ls l a.1

each_front : (v : Version) (ls ms : List Line) → AllByRecursion (IsLineOf v) (ls ++ ms) → AllByRecursion (IsLineOf v) ls
each_front v [] ms a = tt
each_front v (l ∷ ls) ms a = (a.0, each_front v ls ms a.1)

each_second : (v : Version) (ls : List Line) → AllByRecursion (IsLineOf v) ls → AllByRecursion (IsLineOf Second) ls
each_second v [] a = tt
each_second v (l ∷ ls) a = ((a.0.0, tt), each_second v ls a.1)

front_of : (v : Version) (ls ms : List Line) → IsManifestOf v (ls ++ ms) → IsManifestOf v ls
front_of v ls ms m = record { each = each_front v ls ms m.each; order = ascends_front [] ls ms m.order }

-- a manifest as one version has it is a manifest
pub is_manifest : (v : Version) (ls : List Line) → IsManifestOf v ls → IsManifest ls
is_manifest v ls m = record { each = each_second v ls m.each; order = m.order }

-- ---- what was read so far

-- these lines stand in front of what is left of a text
pub record SoFar (bytes : List ℕ) (version : Version) (lines : List Line) (last left : List ℕ) (number : ℕ) : Type 0 where
  pub front : IsManifestOf version lines
  pub parts : bytes ≡ text_of version lines ++ left
  pub last_is : last ≡ last_key [] lines
  pub count : number ≡ length lines + 2
  pub room : number + length left ≤ length bytes + 2

pub starts : (bytes : List ℕ) (v : Version) (rest : List ℕ) → bytes ≡ head v ++ rest → SoFar bytes v [] [] rest 2
starts bytes v rest e = record {
  front = record { each = tt; order = tt };
  parts = e ∙ ap (λ h. h ++ rest) (sym (append-nil (head v)));
  last_is = refl;
  count = refl;
  room = omega (arith, ap length e, length-append (head v) rest);
}

-- all was read
pub is_done : (bytes : List ℕ) (v : Version) (ls : List Line) (last left : List ℕ) (number : ℕ) → SoFar bytes v ls last left number → left ≡ [] → IsManifestText bytes ls
is_done bytes v ls last left number s e = (v, s.front, s.parts ∙ ap (λ r. text_of v ls ++ r) e ∙ append-nil (text_of v ls))

regroup : (h f t rest : List ℕ) → (h ++ f) ++ (t ++ 10 ∷ rest) ≡ (h ++ (f ++ ((t ++ 10 ∷ []) ++ []))) ++ rest
regroup h f t rest = simp (append_assoc, append-nil)

text_more : (v : Version) (ls : List Line) (l : Line) (rest : List ℕ) → text_of v ls ++ (spelled v l ++ 10 ∷ rest) ≡ text_of v (ls ++ l ∷ []) ++ rest
text_more v ls l rest =
    regroup (head v) (flat_map (ended v) ls) (spelled v l) rest
    ∙ ap (λ f. (head v ++ f) ++ rest) (sym (flat_map-append (ended v) ls (l ∷ [])))

length_more : (ls : List Line) (l : Line) → length (ls ++ l ∷ []) ≡ length ls + 1
length_more ls l = length-append ls (l ∷ [])

-- one more line
pub goes_on : (bytes : List ℕ) (v : Version) (ls : List Line) (last left : List ℕ) (number : ℕ) (text rest : List ℕ) (l : Line) → SoFar bytes v ls last left number
    → cut 10 left ≡ Some (text, rest) → line_at v text ≡ Some l → slice_cmp nat_cmp last (key l) ≡ Less → SoFar bytes v (ls ++ l ∷ []) (key l) rest (number + 1)
goes_on bytes v ls last left number text rest l s e is h =
    let t = line_takes v text l is in
    let left_is : left ≡ text ++ 10 ∷ rest = cut_takes 10 left (text, rest) e in
    let behind : slice_cmp nat_cmp (last_key [] ls) (key l) ≡ Less = ap (λ k. slice_cmp nat_cmp k (key l)) (sym s.last_is) ∙ h in
    let many : length (ls ++ l ∷ []) ≡ length ls + 1 = length_more ls l in
    let count = s.count in
    let room = s.room in
    record {
      front = record { each = each_more v ls l s.front.each t.1; order = ascends_more [] ls l s.front.order behind };
      parts = s.parts ∙ ap (λ r. text_of v ls ++ r) (left_is ∙ ap (λ a. a ++ 10 ∷ rest) t.0) ∙ text_more v ls l rest;
      last_is = sym (last_key-more [] ls l);
      count = omega (arith, many, count);
      room = omega (arith, room, ap length left_is, length-append text (10 ∷ rest));
    }

-- ---- faults

-- a line stands at the front of what is left
cut_line : (v : Version) (l : Line) (after left : List ℕ) → left ≡ spelled v l ++ 10 ∷ after → IsLineOf v l → cut 10 left ≡ Some (spelled v l, after)
cut_line v l after left e good = ap (cut 10) e ∙ cut_again 10 (spelled v l) after (spelled_in_line v l good)

no_line : (v : Version) (ls : List Line) (left : List ℕ) → (left ≡ [] → ⊥)
    → ((l : Line) (after : List ℕ) → left ≡ spelled v l ++ 10 ∷ after → IsLineOf v l → slice_cmp nat_cmp (last_key [] ls) (key l) ≡ Less → ⊥) → NoLine v ls left
no_line v ls left some h = record {
  left = some;
  none = λ l after e m. h l after (e ∙ append_assoc (spelled v l) (10 ∷ []) after) (each_last v ls l m.each) (ascends_last [] ls l m.order);
}

fails_behind : (bytes : List ℕ) (v : Version) (ls : List Line) (last left : List ℕ) (number : ℕ) → SoFar bytes v ls last left number → NoLine v ls left → HasFault bytes number
fails_behind bytes v ls last left number s none = inr (record { version = v; lines = ls; rest = left; front = s.front; parts = s.parts; none = none; count = s.count })

not_empty : (left text rest : List ℕ) → cut 10 left ≡ Some (text, rest) → left ≡ [] → ⊥
not_empty left text rest e none = omega (arith, ap length (sym none ∙ cut_takes 10 left (text, rest) e), length-append text (10 ∷ rest))

-- the line does not end
pub unended : (bytes : List ℕ) (v : Version) (ls : List Line) (last left : List ℕ) (number : ℕ) → SoFar bytes v ls last left number
    → (left ≡ [] → ⊥) → cut 10 left ≡ None → HasFault bytes number
unended bytes v ls last left number s some none =
    fails_behind bytes v ls last left number s
    (no_line v ls left some (λ l after e good behind. none_some (spelled v l, after) (sym none ∙ cut_line v l after left e good)))

same_text : (v : Version) (l : Line) (after left text rest : List ℕ) → left ≡ spelled v l ++ 10 ∷ after → IsLineOf v l → cut 10 left ≡ Some (text, rest) → spelled v l ≡ text
same_text v l after left text rest e good is = ap (λ (p : List ℕ × List ℕ). p.0) (some_is (spelled v l, after) (text, rest) (sym (cut_line v l after left e good) ∙ is))

-- the line is none
pub no_such_line : (bytes : List ℕ) (v : Version) (ls : List Line) (last left : List ℕ) (number : ℕ) (text rest : List ℕ) → SoFar bytes v ls last left number
    → cut 10 left ≡ Some (text, rest) → line_at v text ≡ None → HasFault bytes number
no_such_line bytes v ls last left number text rest s is none =
    fails_behind bytes v ls last left number s
    (no_line v ls left (not_empty left text rest is)
    (λ l after e good behind. none_some l (sym none ∙ ap (line_at v) (sym (same_text v l after left text rest e good is)) ∙ line_again v l good)))

-- the line stands not behind the one before it
pub out_of_order : (bytes : List ℕ) (v : Version) (ls : List Line) (last left : List ℕ) (number : ℕ) (text rest : List ℕ) (l : Line) → SoFar bytes v ls last left number
    → cut 10 left ≡ Some (text, rest) → line_at v text ≡ Some l → (slice_cmp nat_cmp last (key l) ≡ Less → ⊥) → HasFault bytes number
out_of_order bytes v ls last left number text rest l s is line h =
    fails_behind bytes v ls last left number s
    (no_line v ls left (not_empty left text rest is)
    (λ m after e good behind.
    let same : m ≡ l = some_is m l (sym (line_again v m good) ∙ ap (line_at v) (same_text v m after left text rest e good is) ∙ line) in
    h (ap (λ k. slice_cmp nat_cmp k (key l)) s.last_is ∙ ap (λ n. slice_cmp nat_cmp (last_key [] ls) (key n)) (sym same) ∙ behind)))

-- ---- a text with a fault is no manifest's

one_version : (v w : Version) (x y : List ℕ) → head v ++ x ≡ head w ++ y → v ≡ w
one_version First First x y e = refl
one_version First Second x y e = absurd (let d : ◌≡◌ {A = ℕ} 49 50 = cc e in omega (arith, d))
one_version Second First x y e = absurd (let d : ◌≡◌ {A = ℕ} 50 49 = cc e in omega (arith, d))
one_version Second Second x y e = refl

-- the first line of two texts of lines is one
one_line : (v : Version) (l m : Line) (x y : List ℕ) → IsLineOf v l → IsLineOf v m → ended v l ++ x ≡ ended v m ++ y → (l ≡ m) × (x ≡ y)
one_line v l m x y g k e =
    let both : Some (spelled v l, x) ≡ Some (spelled v m, y) =
    sym (cut_line v l x (spelled v l ++ 10 ∷ x) refl g)
    ∙ ap (cut 10) (sym (append_assoc (spelled v l) (10 ∷ []) x) ∙ e ∙ append_assoc (spelled v m) (10 ∷ []) y)
    ∙ cut_line v m y (spelled v m ++ 10 ∷ y) refl k in
    let p = some_is (spelled v l, x) (spelled v m, y) both in
    (some_is l m (sym (line_again v l g) ∙ ap (λ (q : List ℕ × List ℕ). line_at v q.0) p ∙ line_again v m k), ap (λ (q : List ℕ × List ℕ). q.1) p)

no_more : (v : Version) (l : Line) (x : List ℕ) → ended v l ++ x ≡ [] → ⊥
no_more v l x e = omega (arith, ap length e, length-append (spelled v l ++ 10 ∷ []) x, length-append (spelled v l) (10 ∷ []))

-- lines that are read stand in front of what no line can begin
no_rest : (v : Version) (done ls ms : List Line) (rest : List ℕ) → AllByRecursion (IsLineOf v) ls → NoLine v (done ++ ls) rest → IsManifestOf v (done ++ ms)
    → AllByRecursion (IsLineOf v) ms → flat_map (ended v) ls ++ rest ≡ flat_map (ended v) ms → ⊥
no_rest v done [] [] rest a none m b e = none.left e
no_rest v done [] (x ∷ ms) rest a none m b e =
    none.none x (flat_map (ended v) ms) e
    (subst (λ d. IsManifestOf v (d ++ x ∷ [])) (sym (append-nil done)) (front_of v (done ++ x ∷ []) ms (subst (λ d. IsManifestOf v d) (sym (append_assoc done (x ∷ []) ms)) m)))
no_rest v done (l ∷ ls) [] rest a none m b e = no_more v l (flat_map (ended v) ls ++ rest) (sym (append_assoc (ended v l) (flat_map (ended v) ls) rest) ∙ e)
no_rest v done (l ∷ ls) (x ∷ ms) rest a none m b e =
    let p = one_line v l x (flat_map (ended v) ls ++ rest) (flat_map (ended v) ms) a.0 b.0 (sym (append_assoc (ended v l) (flat_map (ended v) ls) rest) ∙ e) in
    no_rest v (done ++ l ∷ []) ls ms rest a.1
    (subst (λ d. NoLine v d rest) (sym (append_assoc done (l ∷ []) ls)) none)
    (subst (λ d. IsManifestOf v d) (ap (λ y. done ++ y ∷ ms) (sym p.0) ∙ sym (append_assoc done (l ∷ []) ms)) m) b.1 p.1

-- a text with a fault stands for no manifest
pub never_both : (bytes : List ℕ) (number : ℕ) (ms : List Line) → HasFault bytes number → IsManifestText bytes ms → ⊥
never_both bytes number ms (inl f) t = f.0 t.0 (flat_map (ended t.0) ms) t.2
never_both bytes number ms (inr f) t =
    let whole : head f.version ++ (flat_map (ended f.version) f.lines ++ f.rest) ≡ head t.0 ++ flat_map (ended t.0) ms =
    sym (append_assoc (head f.version) (flat_map (ended f.version) f.lines) f.rest) ∙ sym f.parts ∙ t.2 in
    let same : f.version ≡ t.0 = one_version f.version t.0 (flat_map (ended f.version) f.lines ++ f.rest) (flat_map (ended t.0) ms) whole in
    along f.version t.0 same f.lines f.rest f.front f.none t.1 whole
  where
    along : (v w : Version) → v ≡ w → (ls : List Line) (rest : List ℕ) → IsManifestOf v ls → NoLine v ls rest → IsManifestOf w ms
        → head v ++ (flat_map (ended v) ls ++ rest) ≡ head w ++ flat_map (ended w) ms → ⊥
    along v w same ls rest front none m whole =
        subst (λ w. IsManifestOf w ms → head v ++ (flat_map (ended v) ls ++ rest) ≡ head w ++ flat_map (ended w) ms → ⊥) same
        (λ m whole. no_rest v [] ls ms rest front.each none m m.each (append_cancel_left (head v) (flat_map (ended v) ls ++ rest) (flat_map (ended v) ms) whole)) m whole

-- ---- one reading

same_lines : (v : Version) (ls ms : List Line) → AllByRecursion (IsLineOf v) ls → AllByRecursion (IsLineOf v) ms → flat_map (ended v) ls ≡ flat_map (ended v) ms → ls ≡ ms
same_lines v [] [] a b e = refl
same_lines v [] (m ∷ ms) a b e = absurd (no_more v m (flat_map (ended v) ms) (sym e))
same_lines v (l ∷ ls) [] a b e = absurd (no_more v l (flat_map (ended v) ls) e)
same_lines v (l ∷ ls) (m ∷ ms) a b e =
    let p = one_line v l m (flat_map (ended v) ls) (flat_map (ended v) ms) a.0 b.0 e in
    let rest = same_lines v ls ms a.1 b.1 p.1 in
    let first = p.0 in
    cc

-- a text stands for one manifest at most
pub one_manifest : (bytes : List ℕ) (ls ms : List Line) → IsManifestText bytes ls → IsManifestText bytes ms → ls ≡ ms
one_manifest bytes ls ms t u =
    let whole : head t.0 ++ flat_map (ended t.0) ls ≡ head u.0 ++ flat_map (ended u.0) ms = sym t.2 ∙ u.2 in
    let same : t.0 ≡ u.0 = one_version t.0 u.0 (flat_map (ended t.0) ls) (flat_map (ended u.0) ms) whole in
    along t.0 u.0 same t.1 u.1 whole
  where
    along : (v w : Version) → v ≡ w → IsManifestOf v ls → IsManifestOf w ms → head v ++ flat_map (ended v) ls ≡ head w ++ flat_map (ended w) ms → ls ≡ ms
    along v w same a b whole =
        subst (λ w. IsManifestOf w ms → head v ++ flat_map (ended v) ls ≡ head w ++ flat_map (ended w) ms → ls ≡ ms) same
        (λ b whole. same_lines v ls ms a.each b.each (append_cancel_left (head v) (flat_map (ended v) ls) (flat_map (ended v) ms) whole)) b whole

-- ---- keys

-- in version 1 a line's text is its key
pub key_first : (l : Line) (text : List ℕ) → text ≡ spelled First l → text ≡ key l
key_first l text e = e ∙ append-nil (key l)

-- so it is in version 2 where the line has no signature
pub key_plain : (l : Line) (text : List ℕ) → text ≡ spelled Second l → signature_part l ≡ [] → text ≡ key l
key_plain l text e none = e ∙ ap (λ t. key l ++ t) none ∙ append-nil (key l)

told_text : (l : Line) (text s : List ℕ) → text ≡ spelled Second l → signature_part l ≡ 32 ∷ s → text ≡ key l ++ 32 ∷ s
told_text l text s e told = e ∙ ap (λ t. key l ++ t) told

pub key_room : (l : Line) (text s : List ℕ) → text ≡ spelled Second l → signature_part l ≡ 32 ∷ s → length s + 1 ≤ length text
key_room l text s e told = omega (arith, ap length (told_text l text s e told), length-append (key l) (32 ∷ s))

-- else the key stands before the blank and the signature
pub key_told : (l : Line) (text s : List ℕ) → text ≡ spelled Second l → signature_part l ≡ 32 ∷ s → take (length text - 1 - length s) text ≡ key l
key_told l text s e told =
    ap (take (length text - 1 - length s)) (told_text l text s e told)
    ∙ take_at (key l) (32 ∷ s) (length text - 1 - length s) (omega (arith, ap length (told_text l text s e told), length-append (key l) (32 ∷ s)))
