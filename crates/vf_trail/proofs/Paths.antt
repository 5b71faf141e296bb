-- Paths under a push, and step by step.
use Rattle.std.proofs.Common.{◌≡◌, ℕ, ◌+◌, ◌≤◌, suc, zero, ◌<◌, List, [], ◌∷◌, ◌++◌, length, take, drop, refl, sym, ap, ◌∙◌, arith, Option, Some, None, eq-eqb, append_assoc, length-append, length-take}
use Rattle.std.specs.Prelude.{◌-◌, option_map, reverse, slice_get}
use Rattle.std.proofs.lemmas.List.{reverse-append, length-reverse, append-nil}
use Rattle.std.proofs.lemmas.Bool.{ne_eqb}
use Rattle.std.proofs.lemmas.Option.{slice_get_within}
use Rattle.vf_trail.specs.Falls.{ParentsFall}
use Rattle.vf_trail.specs.Trail.{path_in, path_of, PathsStay, PathsStep}

pub path_in_here : {L : Type 0} (rows : List (ℕ × L)) (parent : ℕ) (fact : L) → path_in ((parent, fact) ∷ rows) (length rows + 1) ≡ path_in rows parent ++ fact ∷ []
path_in_here rows parent fact = rw (eq-eqb (length rows + 1) (length rows + 1) refl) refl

pub path_in_older : {L : Type 0} (rows : List (ℕ × L)) (row : ℕ × L) (node : ℕ) → node ≤ length rows → path_in (row ∷ rows) node ≡ path_in rows node
path_in_older rows row node h = rw (ne_eqb node (length rows + 1) (λ e. omega arith)) refl

pub reverse_push : {L : Type 0} (xs : List L) (x : L) → reverse (xs ++ x ∷ []) ≡ x ∷ reverse xs
reverse_push xs x = reverse-append xs (x ∷ [])

pub path_kept_one : {L : Type 0} (facts : List (ℕ × L)) (row : ℕ × L) (node : ℕ) → node ≤ length facts → path_of (facts ++ row ∷ []) node ≡ path_of facts node
unfolding path_of
path_kept_one facts row node h =
    rw (reverse_push facts row) (path_in_older (reverse facts) row node (rw (length-reverse facts) h))

pub path_kept : {L : Type 0} (facts more : List (ℕ × L)) (node : ℕ) → node ≤ length facts → path_of (facts ++ more) node ≡ path_of facts node
path_kept facts [] node h = rw append-nil refl
path_kept facts (row ∷ more) node h =
    let longer : node ≤ length (facts ++ row ∷ []) = rw (length-append facts (row ∷ [])) (omega arith) in
    rw (sym (append_assoc facts (row ∷ []) more)) (path_kept (facts ++ row ∷ []) more node longer ∙ path_kept_one facts row node h)

pub path_added : {L : Type 0} (facts : List (ℕ × L)) (parent : ℕ) (fact : L) → path_of (facts ++ (parent, fact) ∷ []) (length facts + 1) ≡ path_of facts parent ++ fact ∷ []
unfolding path_of
path_added facts parent fact =
    rw (reverse_push facts (parent, fact), sym (length-reverse facts)) (path_in_here (reverse facts) parent fact)

pub path_root_in : {L : Type 0} (rows : List (ℕ × L)) → path_in rows 0 ≡ []
path_root_in [] = refl
path_root_in (row ∷ rows) = path_in_older rows row 0 (omega arith) ∙ path_root_in rows

pub path_root : {L : Type 0} (facts : List (ℕ × L)) → path_of facts 0 ≡ []
unfolding path_of
path_root facts = path_root_in (reverse facts)

-- a pair is known by its parts
both_parts : {A B : Type 0} (o : Option (A × B)) (a : A) (b : B) → option_map (λ row. row.0) o ≡ Some a → option_map (λ row. row.1) o ≡ Some b → o ≡ Some (a, b)
both_parts None a b p q = cc
both_parts (Some (x, y)) a b p q = cc

-- a list is what stands before an item, the item, and what stands after it
pub split_at : {L : Type 0} (xs : List L) (k : ℕ) (x : L) → slice_get xs k ≡ Some x → xs ≡ take k xs ++ x ∷ drop (suc k) xs
split_at [] k x e = cc
split_at (y ∷ ys) zero x e = cc
split_at (y ∷ ys) (suc k) x e = ap (λ rest. y ∷ rest) (split_at ys k x e)

pub path_between : {L : Type 0} (before after : List (ℕ × L)) (parent : ℕ) (fact : L) → parent ≤ length before → path_of (before ++ (parent, fact) ∷ after) (length before + 1) ≡ path_of (before ++ (parent, fact) ∷ after) parent ++ fact ∷ []
path_between before after parent fact h =
    let there : length before + 1 ≤ length (before ++ (parent, fact) ∷ []) = rw (length-append before ((parent, fact) ∷ [])) (omega arith) in
    let same = append_assoc before ((parent, fact) ∷ []) after in
    let up = path_kept (before ++ (parent, fact) ∷ []) after (length before + 1) there in
    let here = path_added before parent fact in
    let above = path_kept before ((parent, fact) ∷ after) parent h in
    cc

pub path_step : {L : Type 0} (facts : List (ℕ × L)) (index parent : ℕ) (fact : L) → ParentsFall facts → slice_get facts index ≡ Some (parent, fact) → path_of facts (index + 1) ≡ path_of facts parent ++ fact ∷ []
path_step facts index parent fact falls e =
    let within = slice_get_within facts index (parent, fact) e in
    let before : length (take index facts) ≡ index = rw (length-take index facts) (omega arith) in
    let low : parent ≤ length (take index facts) = rw before (falls index parent fact e) in
    let split = split_at facts index (parent, fact) e in
    let step = path_between (take index facts) (drop (suc index) facts) parent fact low in
    cc

pub paths_stay : {L : Type 0} → PathsStay L
paths_stay = record { kept = path_kept; added = path_added }

pub paths_step : {L : Type 0} → PathsStep L
paths_step = record { root = path_root; step = path_step }

-- a path is the path of the parent that the trail has for it, and the fact that it has for it
pub path_parent : {L : Type 0} (facts : List (ℕ × L)) (node parent : ℕ) (fact : L) → 0 < node → ParentsFall facts → option_map (λ row. row.0) (slice_get facts (node - 1)) ≡ Some parent → option_map (λ row. row.1) (slice_get facts (node - 1)) ≡ Some fact → path_of facts node ≡ path_of facts parent ++ fact ∷ []
path_parent facts node parent fact low falls p q =
    let e = both_parts (slice_get facts (node - 1)) parent fact p q in
    let same : node - 1 + 1 ≡ node = omega arith in
    rw same at (path_step facts (node - 1) parent fact falls e)
