-- What a run of a course leaves, and what determines its result.
use Rattle.std.proofs.Common.{◌≡◌, inl, inr, ℕ, ◌-◌, ◌≤◌, zero, suc, refl, subst, sym, ◌∙◌, ap, List, [], ◌∷◌, ◌++◌, length, drop, arith, append_assoc, length-append}
use Rattle.std.specs.Prelude.{All}
use Rattle.std.proofs.lemmas.List.{append-nil}
use Rattle.vf_asking.specs.declared.answers.Answer.{Answer}
use Rattle.vf_asking.specs.declared.answers.Answer.TheVariants.{Proved, Unknown}
use Rattle.vf_closure.specs.Literals.{Literal}
use Rattle.vf_asking.specs.Journal.{Asked, Seen, definitions_at, noted, counted}
use Rattle.vf_asking.specs.Course.{Course, done, ask, push, Follows}
use Rattle.vf_asking.specs.Right.{IsRight, AreRightFrom}
use Rattle.vf_asking.specs.Runs.{OnlyAppends, CoursesOnlyAppend, CoursesAreDetermined, RightCoursesAreDetermined}

appends_not : (s t : Seen) → t ≡ s → OnlyAppends s t
appends_not s t e = record { new_entries = []; entries = (λ i. (e i).entries) ∙ sym (append-nil s.entries); units = λ i. (e i).units; facts = let f = ap (λ (w : Seen). w.facts) e in omega arith }

appends_on : (s t u : Seen) → OnlyAppends s t → OnlyAppends t u → OnlyAppends s u
appends_on s t u a b = record {
  new_entries = a.new_entries ++ b.new_entries;
  entries = b.entries ∙ ap (λ es. es ++ b.new_entries) a.entries ∙ append_assoc s.entries a.new_entries b.new_entries;
  units = b.units ∙ a.units;
  facts = omega (arith, a.facts, b.facts);
}

appends_noted : (s : Seen) (path : List Literal) (goal : Literal) (answer : Answer) → OnlyAppends s (noted s path goal answer)
appends_noted s path goal answer = record { new_entries = _; entries = refl; units = refl; facts = omega arith }

appends_counted : (s : Seen) → OnlyAppends s (counted s)
appends_counted s = record { new_entries = []; entries = sym (append-nil s.entries); units = refl; facts = omega arith }

pub only_append : {A : Type 0} → CoursesOnlyAppend A
unfolding Follows
only_append (done x) s t y p = appends_not s t p.0
only_append (ask path goal c d) s t y p = elim p [
  | inl h ↦ appends_on s (noted s path goal Proved) t (appends_noted s path goal Proved) (only_append c (noted s path goal Proved) t y h)
  | inr h ↦ appends_on s (noted s path goal Unknown) t (appends_noted s path goal Unknown) (only_append d (noted s path goal Unknown) t y h)
]
only_append (push c d) s t y p = elim p [
  | inl h ↦ appends_on s (counted s) t (appends_counted s) (only_append c (counted s) t y h.1)
  | inr h ↦ only_append d s t y h.1
]

same_next : (xs : List Asked) (d e : Asked) (p q : List Asked) → (xs ++ d ∷ []) ++ p ≡ (xs ++ e ∷ []) ++ q → d ≡ e
same_next [] d e p q h = cc
same_next (x ∷ xs) d e p q h = let rest : (xs ++ d ∷ []) ++ p ≡ (xs ++ e ∷ []) ++ q = cc in same_next xs d e p q rest

apart : {A B C : Type 0} (c : Course A) (d : Course B) (s t u : Seen) (path : List Literal) (goal : Literal) (y : A) (z : B) → Follows c (noted s path goal Proved) t y → Follows d (noted s path goal Unknown) u z → t.entries ≡ u.entries → C
apart c d s t u path goal y z p q h =
    let a = only_append c (noted s path goal Proved) t y p in
    let b = only_append d (noted s path goal Unknown) u z q in
    let e = same_next s.entries _ _ a.new_entries b.new_entries (sym a.entries ∙ h ∙ b.entries) in
    let f : Proved ≡ Unknown = ap (λ (x : Asked). x.answer) e in cc

pub determined : {A : Type 0} → CoursesAreDetermined A
unfolding Follows
determined (done x) s t u y z p q h = (p.1 ∙ sym q.1, p.0 ∙ sym q.0)
determined (ask path goal c d) s t u y z (inl p) (inl q) h = determined c (noted s path goal Proved) t u y z p q h
determined (ask path goal c d) s t u y z (inr p) (inr q) h = determined d (noted s path goal Unknown) t u y z p q h
determined (ask path goal c d) s t u y z (inl p) (inr q) h = apart c d s t u path goal y z p q h
determined (ask path goal c d) s t u y z (inr p) (inl q) h = apart c d s u t path goal z y q p (sym h)
determined (push c d) s t u y z (inl p) (inl q) h = determined c (counted s) t u y z p.1 q.1 h
determined (push c d) s t u y z (inr p) (inr q) h = determined d s t u y z p.1 q.1 h
determined (push c d) s t u y z (inl p) (inr q) h = let a = p.0 in let b = q.0 in absurd (omega arith)
determined (push c d) s t u y z (inr p) (inl q) h = let a = p.0 in let b = q.0 in absurd (omega arith)

all_next : (xs : List Asked) (e : Asked) (more : List Asked) → All IsRight ((xs ++ e ∷ []) ++ more) → IsRight e
all_next [] e more h = h 0 e (omega arith)
all_next (x ∷ xs) e more h = all_next xs e more (λ k d low. h (suc k) d (omega arith))

right_next : (xs : List Asked) (e : Asked) (more : List Asked) (origin : ℕ) → origin ≤ length xs → All IsRight (drop origin ((xs ++ e ∷ []) ++ more)) → IsRight e
right_next xs e more zero low h = all_next xs e more h
right_next [] e more (suc n) low h = absurd (omega arith)
right_next (x ∷ xs) e more (suc n) low h = right_next xs e more n (omega arith) h

-- the answer to a question that a run began with is right where the run's answers are
right_first : {A : Type 0} (c : Course A) (s t : Seen) (path : List Literal) (goal : Literal) (answer : Answer) (y : A) (origin : ℕ) → origin ≤ length s.entries → Follows c (noted s path goal answer) t y → AreRightFrom origin t → IsRight (record { unit = length s.units - 1; definitions = definitions_at s.units (length s.units - 1); path = path; goal = goal; answer = answer })
right_first c s t path goal answer y origin low p r =
    let a = only_append c (noted s path goal answer) t y p in
    right_next s.entries _ a.new_entries origin low (subst (λ es. All IsRight (drop origin es)) a.entries r)

both_answers : {A B C : Type 0} (c : Course A) (d : Course B) (s t u : Seen) (path : List Literal) (goal : Literal) (y : A) (z : B) (origin : ℕ) → origin ≤ length s.entries → Follows c (noted s path goal Proved) t y → Follows d (noted s path goal Unknown) u z → AreRightFrom origin t → AreRightFrom origin u → C
both_answers c d s t u path goal y z origin low p q a b =
    let yes_ = right_first c s t path goal Proved y origin low p a in
    let no_ = right_first d s u path goal Unknown z origin low q b in
    absurd (no_.unknown refl (yes_.refuted refl))

longer : (s : Seen) (path : List Literal) (goal : Literal) (answer : Answer) (origin : ℕ) → origin ≤ length s.entries → origin ≤ length (noted s path goal answer).entries
longer s path goal answer origin low = simp length-append (omega arith)

pub right_determined : {A : Type 0} → RightCoursesAreDetermined A
unfolding Follows
right_determined (done x) origin s t u y z low p q a b = (p.1 ∙ sym q.1, p.0 ∙ sym q.0)
right_determined (ask path goal c d) origin s t u y z low (inl p) (inl q) a b = right_determined c origin (noted s path goal Proved) t u y z (longer s path goal Proved origin low) p q a b
right_determined (ask path goal c d) origin s t u y z low (inr p) (inr q) a b = right_determined d origin (noted s path goal Unknown) t u y z (longer s path goal Unknown origin low) p q a b
right_determined (ask path goal c d) origin s t u y z low (inl p) (inr q) a b = both_answers c d s t u path goal y z origin low p q a b
right_determined (ask path goal c d) origin s t u y z low (inr p) (inl q) a b = both_answers c d s u t path goal z y origin low q p b a
right_determined (push c d) origin s t u y z low (inl p) (inl q) a b = right_determined c origin (counted s) t u y z low p.1 q.1 a b
right_determined (push c d) origin s t u y z low (inr p) (inr q) a b = right_determined d origin s t u y z low p.1 q.1 a b
right_determined (push c d) origin s t u y z low (inl p) (inr q) a b = let e = p.0 in let f = q.0 in absurd (omega arith)
right_determined (push c d) origin s t u y z low (inr p) (inl q) a b = let e = p.0 in let f = q.0 in absurd (omega arith)
