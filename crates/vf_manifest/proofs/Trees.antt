-- The texts of trees of sorts are those that are read as sorts.
use Rattle.std.proofs.Common.{◌≡◌, ℕ, Bool, true, false, cond, List, [], ◌∷◌, ◌++◌, Some, None, refl, sym, ap, ◌∙◌, append_assoc, inl, inr}
use Rattle.std.specs.Prelude.{◌==◌, ◌⊎◌, not, ◌&&◌, ◌||◌, codes}
use Rattle.std.specs.Char.{is_ascii_digit}
use Rattle.std.specs.List.{list_all, list_any}
use Rattle.std.specs.Str.{bytes_eq}
use Rattle.std.proofs.lemmas.Bool.{and_parts, and_from, or_left, or_right, or_cases}
use Rattle.std.proofs.lemmas.List.{append-nil}
use Rattle.vf_manifest.specs.Cuts.{holds}
use Rattle.vf_manifest.specs.Words.{is_letter, is_word_byte, is_name}
use Rattle.vf_manifest.specs.Signatures.{is_empty, is_numeral, is_at_most, is_parameter, own_sorts, is_sort_byte, is_sort_word, is_datatype, can_begin, next, are_sorts}
use Rattle.vf_manifest.specs.Trees.{Shape, Word, Applied, Predicate, Sorts, None_left, Sort_then, is_none_left, bare, sort_text, joined, is_shape, are_good}
use Rattle.vf_manifest.proofs.WordLaws.{name_bytes}
use Rattle.vf_manifest.specs.declared.signature.Stage.{Stage}
use Rattle.vf_manifest.specs.declared.signature.Stage.TheVariants.{Begins, BeginsOrEnds, Ended}

-- what closes a list of sorts: a parenthesis or an angle bracket
abbrev pub closer : Bool → ℕ
closer true = 41
closer false = 62

-- a list of sorts may begin at this stage
abbrev pub MayBegin : Stage → Sorts → Type 0
MayBegin Begins ss = is_none_left ss ≡ false
MayBegin BeginsOrEnds ss = Unit {0}
MayBegin Ended ss = ⊥

-- a word is read as a whole
feed : (k : List ℕ) (stage : Stage) (v w cl text : List ℕ) → list_all is_sort_byte w ≡ true → are_sorts k stage v cl (w ++ text) ≡ are_sorts k stage (v ++ w) cl text
unfolding are_sorts
feed k stage v [] cl text h = ap (λ u. are_sorts k stage u cl text) (sym (append-nil v))
feed k stage v (b ∷ w) cl text h =
    let parts = and_parts (is_sort_byte b) (list_all is_sort_byte w) h in
    ap (λ t. cond t (are_sorts k stage (v ++ b ∷ []) cl (w ++ text)) (holds (next k stage v cl b) (λ s. are_sorts k s.0 [] s.1 (w ++ text)))) parts.0
    ∙ feed k stage (v ++ b ∷ []) w cl text parts.1
    ∙ ap (λ u. are_sorts k stage u cl text) (append_assoc v (b ∷ []) w)

closed : (k : List ℕ) (p : Bool) (st rest : List ℕ) → are_sorts k Ended [] (closer p ∷ st) (closer p ∷ rest) ≡ are_sorts k Ended [] st rest
unfolding are_sorts next
closed k true st rest = refl
closed k false st rest = refl

none_closed : (k : List ℕ) (p : Bool) (st rest : List ℕ) → are_sorts k BeginsOrEnds [] (closer p ∷ st) (closer p ∷ rest) ≡ are_sorts k Ended [] st rest
unfolding are_sorts next
none_closed k true st rest = refl
none_closed k false st rest = refl

word_closed : (k : List ℕ) (stage : Stage) (w : List ℕ) (p : Bool) (st rest : List ℕ) → can_begin stage ≡ true → is_sort_word k w ≡ true
    → are_sorts k stage w (closer p ∷ st) (closer p ∷ rest) ≡ are_sorts k Ended [] st rest
unfolding are_sorts next
word_closed k Begins w true st rest b h = ap (λ t. holds {A = Stage × List ℕ} (cond (t || false) (Some (Ended, st)) None) (λ s. are_sorts k s.0 [] s.1 rest)) h
word_closed k Begins w false st rest b h = ap (λ t. holds {A = Stage × List ℕ} (cond (t || false) (Some (Ended, st)) None) (λ s. are_sorts k s.0 [] s.1 rest)) h
word_closed k BeginsOrEnds w true st rest b h = ap (λ t. holds {A = Stage × List ℕ} (cond (t || is_empty w) (Some (Ended, st)) None) (λ s. are_sorts k s.0 [] s.1 rest)) h
word_closed k BeginsOrEnds w false st rest b h = ap (λ t. holds {A = Stage × List ℕ} (cond (t || is_empty w) (Some (Ended, st)) None) (λ s. are_sorts k s.0 [] s.1 rest)) h
word_closed k Ended w p st rest b h = absurd (cc b)

word_comma : (k : List ℕ) (stage : Stage) (w : List ℕ) (c : ℕ) (st text : List ℕ) → can_begin stage ≡ true → is_sort_word k w ≡ true
    → are_sorts k stage w (c ∷ st) (44 ∷ text) ≡ are_sorts k Begins [] (c ∷ st) text
unfolding are_sorts next
word_comma k Begins w c st text b h = ap (λ t. holds {A = Stage × List ℕ} (cond (t && true) (Some (Begins, c ∷ st)) None) (λ s. are_sorts k s.0 [] s.1 text)) h
word_comma k BeginsOrEnds w c st text b h = ap (λ t. holds {A = Stage × List ℕ} (cond (t && true) (Some (Begins, c ∷ st)) None) (λ s. are_sorts k s.0 [] s.1 text)) h
word_comma k Ended w c st text b h = absurd (cc b)

ended_comma : (k : List ℕ) (c : ℕ) (st text : List ℕ) → are_sorts k Ended [] (c ∷ st) (44 ∷ text) ≡ are_sorts k Begins [] (c ∷ st) text
unfolding are_sorts next
ended_comma k c st text = refl

applied : (k : List ℕ) (stage : Stage) (w cl text : List ℕ) → can_begin stage ≡ true → is_datatype w ≡ true → are_sorts k stage w cl (60 ∷ text) ≡ are_sorts k Begins [] (62 ∷ cl) text
unfolding are_sorts next
applied k stage w cl text b h =
    ap (λ t. holds {A = Stage × List ℕ} (cond t (Some (Begins, 62 ∷ cl)) None) (λ s. are_sorts k s.0 [] s.1 text)) (and_from (can_begin stage) (is_datatype w) b h)

predicate : (k : List ℕ) (stage : Stage) (cl text : List ℕ) → can_begin stage ≡ true → are_sorts k stage (codes "pred") cl (40 ∷ text) ≡ are_sorts k BeginsOrEnds [] (41 ∷ cl) text
unfolding are_sorts next
predicate k stage cl text b =
    ap (λ t. holds {A = Stage × List ℕ} (cond t (Some (BeginsOrEnds, 41 ∷ cl)) None) (λ s. are_sorts k s.0 [] s.1 text)) (and_from (can_begin stage) true b refl)

name_sort_bytes : (w : List ℕ) → list_all is_word_byte w ≡ true → list_all is_sort_byte w ≡ true
name_sort_bytes [] h = refl
name_sort_bytes (b ∷ w) h =
    let parts = and_parts (is_word_byte b) (list_all is_word_byte w) h in
    and_from (is_sort_byte b) (list_all is_sort_byte w) (or_left (is_word_byte b) (b == 36) parts.0) (name_sort_bytes w parts.1)

digit_sort_bytes : (w : List ℕ) → list_all is_ascii_digit w ≡ true → list_all is_sort_byte w ≡ true
digit_sort_bytes [] h = refl
digit_sort_bytes (b ∷ w) h =
    let parts = and_parts (is_ascii_digit b) (list_all is_ascii_digit w) h in
    and_from (is_sort_byte b) (list_all is_sort_byte w) (or_left (is_word_byte b) (b == 36) (or_right (is_letter b) (is_ascii_digit b) parts.0)) (digit_sort_bytes w parts.1)

numeral_digits : (w : List ℕ) → is_numeral w ≡ true → list_all is_ascii_digit w ≡ true
numeral_digits [] h = refl
numeral_digits (b ∷ w) h = (and_parts (is_ascii_digit b && list_all is_ascii_digit w) (not (b == 48) || is_empty w) h).0

parameter_bytes : (k w : List ℕ) → is_parameter k w ≡ true → list_all is_sort_byte w ≡ true
parameter_bytes k [] h = refl
parameter_bytes k (b ∷ i) h =
    let a = and_parts (b == 36 && is_numeral i && not (bytes_eq i (codes "0"))) (is_at_most i k) h in
    let d = and_parts (b == 36 && is_numeral i) (not (bytes_eq i (codes "0"))) a.0 in
    let n = and_parts (b == 36) (is_numeral i) d.0 in
    and_from (is_sort_byte b) (list_all is_sort_byte i) (or_right (is_word_byte b) (b == 36) n.0) (digit_sort_bytes i (numeral_digits i n.1))

sort_word_bytes : (k w : List ℕ) → is_sort_word k w ≡ true → list_all is_sort_byte w ≡ true
sort_word_bytes k w h =
    elim (or_cases (is_name w) (is_parameter k w) h) [
      | inl name ↦ name_sort_bytes w (name_bytes w name)
      | inr parameter ↦ parameter_bytes k w parameter
    ]

datatype_bytes : (w : List ℕ) → is_datatype w ≡ true → list_all is_sort_byte w ≡ true
datatype_bytes w h = name_sort_bytes w (name_bytes w (and_parts (is_name w) (not (list_any (λ s. bytes_eq w s) own_sorts)) h).0)

abbrev pub Runs : List ℕ → Sorts → Type 0
Runs k ss = (stage : Stage) (p : Bool) (st rest : List ℕ) → MayBegin stage ss → are_sorts k stage [] (closer p ∷ st) (bare (joined ss) ++ closer p ∷ rest) ≡ are_sorts k Ended [] st rest

begins : (stage : Stage) (ss : Sorts) → MayBegin stage ss → can_begin stage ≡ true
begins Begins ss h = refl
begins BeginsOrEnds ss h = refl
begins Ended ss h = absurd h

may_begin : (inside : Sorts) → not (is_none_left inside) ≡ true → MayBegin Begins inside
may_begin None_left h = absurd (cc h)
may_begin (Sort_then s i b) h = refl

-- a sort is read, and what follows stands behind an ended sort
sort_ends : (k : List ℕ) (shape : Shape) (inside : Sorts) (stage : Stage) (p : Bool) (st : List ℕ) (b : ℕ) (more : List ℕ) → can_begin stage ≡ true → is_shape k shape inside ≡ true → Runs k inside
    → (b ≡ closer p) ⊎ (b ≡ 44) → are_sorts k stage [] (closer p ∷ st) (sort_text shape (bare (joined inside)) ++ b ∷ more) ≡ are_sorts k Ended [] (closer p ∷ st) (b ∷ more)
sort_ends k (Word w) inside stage p st b more can h runs (inl e) =
    let g = and_parts (is_sort_word k w) (is_none_left inside) h in
    feed k stage [] w (closer p ∷ st) (b ∷ more) (sort_word_bytes k w g.0)
    ∙ ap (λ c. are_sorts k stage w (closer p ∷ st) (c ∷ more)) e ∙ word_closed k stage w p st more can g.0 ∙ sym (closed k p st more)
    ∙ ap (λ c. are_sorts k Ended [] (closer p ∷ st) (c ∷ more)) (sym e)
sort_ends k (Word w) inside stage p st b more can h runs (inr e) =
    let g = and_parts (is_sort_word k w) (is_none_left inside) h in
    feed k stage [] w (closer p ∷ st) (b ∷ more) (sort_word_bytes k w g.0)
    ∙ ap (λ c. are_sorts k stage w (closer p ∷ st) (c ∷ more)) e ∙ word_comma k stage w (closer p) st more can g.0 ∙ sym (ended_comma k (closer p) st more)
    ∙ ap (λ c. are_sorts k Ended [] (closer p ∷ st) (c ∷ more)) (sym e)
sort_ends k (Applied w) inside stage p st b more can h runs follows =
    let g = and_parts (is_datatype w) (not (is_none_left inside)) h in
    ap (are_sorts k stage [] (closer p ∷ st)) (append_assoc w (60 ∷ (bare (joined inside) ++ 62 ∷ [])) (b ∷ more))
    ∙ feed k stage [] w (closer p ∷ st) (60 ∷ ((bare (joined inside) ++ 62 ∷ []) ++ b ∷ more)) (datatype_bytes w g.0)
    ∙ applied k stage w (closer p ∷ st) ((bare (joined inside) ++ 62 ∷ []) ++ b ∷ more) can g.0
    ∙ ap (are_sorts k Begins [] (62 ∷ closer p ∷ st)) (append_assoc (bare (joined inside)) (62 ∷ []) (b ∷ more))
    ∙ runs Begins false (closer p ∷ st) (b ∷ more) (may_begin inside g.1)
sort_ends k Predicate inside stage p st b more can h runs follows =
    feed k stage [] (codes "pred") (closer p ∷ st) (40 ∷ ((bare (joined inside) ++ 41 ∷ []) ++ b ∷ more)) refl
    ∙ predicate k stage (closer p ∷ st) ((bare (joined inside) ++ 41 ∷ []) ++ b ∷ more) can
    ∙ ap (are_sorts k BeginsOrEnds [] (41 ∷ closer p ∷ st)) (append_assoc (bare (joined inside)) (41 ∷ []) (b ∷ more))
    ∙ runs BeginsOrEnds true (closer p ∷ st) (b ∷ more) tt

-- the text of a tree of sorts is read up to what closes it
pub sorts_run : (k : List ℕ) (ss : Sorts) → are_good k ss ≡ true → Runs k ss
sorts_run k None_left good Begins p st rest h = absurd (cc h)
sorts_run k None_left good BeginsOrEnds p st rest h = none_closed k p st rest
sorts_run k None_left good Ended p st rest h = absurd h
sorts_run k (Sort_then shape inside None_left) good stage p st rest h =
    let g = and_parts (is_shape k shape inside) (are_good k inside && true) good in
    let i = and_parts (are_good k inside) true g.1 in
    ap (are_sorts k stage [] (closer p ∷ st)) (append_assoc (sort_text shape (bare (joined inside))) [] (closer p ∷ rest))
    ∙ sort_ends k shape inside stage p st (closer p) rest (begins stage (Sort_then shape inside None_left) h) g.0 (sorts_run k inside i.0) (inl refl)
    ∙ closed k p st rest
sorts_run k (Sort_then shape inside (Sort_then s i b)) good stage p st rest h =
    let g = and_parts (is_shape k shape inside) (are_good k inside && are_good k (Sort_then s i b)) good in
    let q = and_parts (are_good k inside) (are_good k (Sort_then s i b)) g.1 in
    ap (are_sorts k stage [] (closer p ∷ st)) (append_assoc (sort_text shape (bare (joined inside))) (joined (Sort_then s i b)) (closer p ∷ rest))
    ∙ sort_ends k shape inside stage p st 44 (bare (joined (Sort_then s i b)) ++ closer p ∷ rest) (begins stage (Sort_then shape inside (Sort_then s i b)) h) g.0 (sorts_run k inside q.0) (inr refl)
    ∙ ended_comma k (closer p) st (bare (joined (Sort_then s i b)) ++ closer p ∷ rest)
    ∙ sorts_run k (Sort_then s i b) q.1 Begins p st rest refl

-- nothing is left where no bracket is open
pub all_ended : (k : List ℕ) → are_sorts k Ended [] [] [] ≡ true
unfolding are_sorts
all_ended k = refl
