-- Statements of lines put together.
use Rattle.std.proofs.Common.{◌≡◌, ℕ, zero, suc, ◌+◌, ◌<◌, List, [], ◌∷◌, ◌++◌, length, take, get_or, Option, Some, refl, sym, ap, subst, ◌∙◌, arith}
use Rattle.std.specs.Prelude.{IfSome, slice_get}
use Rattle.std.proofs.lemmas.List.{append-nil, append_assoc, map-append, take_more}
use Rattle.std.proofs.lemmas.List.Elements.{filter_map-append}
use Rattle.vf_manifest.specs.declared.line.Line.{Line}
use Rattle.vf_link.specs.declared.statement.Topic.{Topic}
use Rattle.vf_link.proofs.Lists.{get_at, got_is}
use Rattle.vf_link.specs.Statements.{Statement}
use Rattle.vf_link.specs.Statements.{all_lines, statement, statements, subjects, contents}

pub lines_push : (ms : List (List Line)) (m : List Line) → all_lines (ms ++ m ∷ []) ≡ all_lines ms ++ m
lines_push [] m = append-nil m
lines_push (n ∷ ms) m = ap (λ l. n ++ l) (lines_push ms m) ∙ sym (append_assoc n (all_lines ms) m)

pub subjects_more : (topic : Topic) (ls ms : List Line) → subjects (statements topic (ls ++ ms)) ≡ subjects (statements topic ls) ++ subjects (statements topic ms)
subjects_more topic ls ms = ap subjects (filter_map-append (statement topic) ls ms) ∙ map-append (λ s. s.subject) (statements topic ls) (statements topic ms)

pub contents_more : (topic : Topic) (ls ms : List Line) → contents (statements topic (ls ++ ms)) ≡ contents (statements topic ls) ++ contents (statements topic ms)
contents_more topic ls ms = ap contents (filter_map-append (statement topic) ls ms) ∙ map-append (λ s. s.content) (statements topic ls) (statements topic ms)

-- nothing is said of nothing
abbrev pub nothing : Statement
nothing = record { subject = []; content = [] }

pub subject_at : (xs : List Statement) (k : ℕ) → get_or (subjects xs) k [] ≡ (get_or xs k nothing).subject
subject_at [] k = refl
subject_at (x ∷ xs) zero = refl
subject_at (x ∷ xs) (suc k) = subject_at xs k

pub content_at : (xs : List Statement) (k : ℕ) → get_or (contents xs) k [] ≡ (get_or xs k nothing).content
content_at [] k = refl
content_at (x ∷ xs) zero = refl
content_at (x ∷ xs) (suc k) = content_at xs k

-- ---- one more line, and one more manifest

pub subjects_line : (topic : Topic) (base old new : List (List ℕ)) (ls : List Line) (i : ℕ) (l : Line) → i < length ls → l ≡ get_or ls i l
    → old ≡ base ++ subjects (statements topic (take i ls)) → new ≡ old ++ subjects (statements topic (l ∷ [])) → new ≡ base ++ subjects (statements topic (take (i + 1) ls))
subjects_line topic base old new ls i l within is h more =
    more ∙ ap (λ xs. xs ++ subjects (statements topic (l ∷ []))) h ∙ append_assoc base (subjects (statements topic (take i ls))) (subjects (statements topic (l ∷ [])))
    ∙ ap (λ xs. base ++ xs) (sym (subjects_more topic (take i ls) (l ∷ [])) ∙ ap (λ xs. subjects (statements topic xs)) (ap (λ x. take i ls ++ x ∷ []) is ∙ sym (take_more ls i l within)))

pub contents_line : (topic : Topic) (base old new : List (List ℕ)) (ls : List Line) (i : ℕ) (l : Line) → i < length ls → l ≡ get_or ls i l
    → old ≡ base ++ contents (statements topic (take i ls)) → new ≡ old ++ contents (statements topic (l ∷ [])) → new ≡ base ++ contents (statements topic (take (i + 1) ls))
contents_line topic base old new ls i l within is h more =
    more ∙ ap (λ xs. xs ++ contents (statements topic (l ∷ []))) h ∙ append_assoc base (contents (statements topic (take i ls))) (contents (statements topic (l ∷ [])))
    ∙ ap (λ xs. base ++ xs) (sym (contents_more topic (take i ls) (l ∷ [])) ∙ ap (λ xs. contents (statements topic xs)) (ap (λ x. take i ls ++ x ∷ []) is ∙ sym (take_more ls i l within)))

pub lines_more : (ms : List (List Line)) (i : ℕ) (m : List Line) → i < length ms → m ≡ get_or ms i m → all_lines (take (i + 1) ms) ≡ all_lines (take i ms) ++ m
lines_more ms i m within is = ap all_lines (take_more ms i m within ∙ ap (λ x. take i ms ++ x ∷ []) (sym is)) ∙ lines_push (take i ms) m

pub subjects_manifest : (topic : Topic) (base old new : List (List ℕ)) (ms : List (List Line)) (i : ℕ) (m : List Line) → i < length ms → m ≡ get_or ms i m
    → old ≡ base ++ subjects (statements topic (all_lines (take i ms))) → new ≡ old ++ subjects (statements topic m) → new ≡ base ++ subjects (statements topic (all_lines (take (i + 1) ms)))
subjects_manifest topic base old new ms i m within is h more =
    more ∙ ap (λ xs. xs ++ subjects (statements topic m)) h ∙ append_assoc base (subjects (statements topic (all_lines (take i ms)))) (subjects (statements topic m))
    ∙ ap (λ xs. base ++ xs) (sym (subjects_more topic (all_lines (take i ms)) m) ∙ ap (λ xs. subjects (statements topic xs)) (sym (lines_more ms i m within is)))

pub contents_manifest : (topic : Topic) (base old new : List (List ℕ)) (ms : List (List Line)) (i : ℕ) (m : List Line) → i < length ms → m ≡ get_or ms i m
    → old ≡ base ++ contents (statements topic (all_lines (take i ms))) → new ≡ old ++ contents (statements topic m) → new ≡ base ++ contents (statements topic (all_lines (take (i + 1) ms)))
contents_manifest topic base old new ms i m within is h more =
    more ∙ ap (λ xs. xs ++ contents (statements topic m)) h ∙ append_assoc base (contents (statements topic (all_lines (take i ms)))) (contents (statements topic m))
    ∙ ap (λ xs. base ++ xs) (sym (contents_more topic (all_lines (take i ms)) m) ∙ ap (λ xs. contents (statements topic xs)) (sym (lines_more ms i m within is)))

-- ---- one more line, which is told by its place

pub subjects_place : (topic : Topic) (base old new : List (List ℕ)) (ls : List Line) (i : ℕ) → i < length ls → old ≡ base ++ subjects (statements topic (take i ls))
    → IfSome (slice_get ls i) (λ l. new ≡ old ++ subjects (statements topic (l ∷ []))) → new ≡ base ++ subjects (statements topic (take (i + 1) ls))
subjects_place topic base old new [] i within h more = absurd (let none : ⊥ = omega arith in none)
subjects_place topic base old new (y ∷ ys) i within h more =
    let x = get_or (y ∷ ys) i y in
    let there : slice_get (y ∷ ys) i ≡ Some x = get_at (y ∷ ys) i y within in
    subjects_line topic base old new (y ∷ ys) i x within (sym (got_is (y ∷ ys) i x x there)) h
    (subst (λ (o : Option Line). IfSome o (λ l. new ≡ old ++ subjects (statements topic (l ∷ [])))) there more)

pub contents_place : (topic : Topic) (base old new : List (List ℕ)) (ls : List Line) (i : ℕ) → i < length ls → old ≡ base ++ contents (statements topic (take i ls))
    → IfSome (slice_get ls i) (λ l. new ≡ old ++ contents (statements topic (l ∷ []))) → new ≡ base ++ contents (statements topic (take (i + 1) ls))
contents_place topic base old new [] i within h more = absurd (let none : ⊥ = omega arith in none)
contents_place topic base old new (y ∷ ys) i within h more =
    let x = get_or (y ∷ ys) i y in
    let there : slice_get (y ∷ ys) i ≡ Some x = get_at (y ∷ ys) i y within in
    contents_line topic base old new (y ∷ ys) i x within (sym (got_is (y ∷ ys) i x x there)) h
    (subst (λ (o : Option Line). IfSome o (λ l. new ≡ old ++ contents (statements topic (l ∷ [])))) there more)
