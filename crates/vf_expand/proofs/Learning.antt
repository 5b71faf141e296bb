-- What is known of paths as more becomes known.
use Rattle.std.proofs.Common.{◌≡◌, ◌≤◌, ℕ, ◌+◌, zero, suc, refl, sym, ap, subst, ◌∙◌, cond, Bool, true, false, List, [], ◌∷◌, ◌++◌, length, slice_get, Option, Some, None, Result, Ok, Err, option_map, inl, inr, ◌⊎◌, arith}
use Rattle.std.specs.List.{position_from}
use Rattle.std.specs.Str.{bytes_eq}
use Rattle.std.specs.Cmp.Lexicographic.{bytes_decides}
use Rattle.std.proofs.lemmas.Option.{slice_get-map}
use Rattle.std.proofs.lemmas.List.{map-append, append-nil}
use Rattle.vf_base.specs.Outside.{Rose}
use Rattle.vf_names.specs.Names.{number_of}
use Rattle.vf_names.proofs.Numbering.{missed-push, name_there}
use Rattle.vf_snapshot.specs.declared.held.Held.{Held}
use Rattle.vf_snapshot.specs.declared.held.Held.TheVariants as known
use Rattle.vf_snapshot.specs.declared.held.SnapFault.{SnapFault}
use Rattle.vf_snapshot.specs.declared.held.SnapFault.TheVariants as faults
use Rattle.vf_snapshot.specs.Holdings.{Holdings, Grows, IsHeldAt, Learns, answer, number_in, paths}
use Rattle.vf_snapshot.proofs.Knowing.{last_there}
use Rattle.vf_preproc.specs.UnitText.{Library}
use Rattle.vf_preproc.specs.Units.{Tells}
use Rattle.vf_expand.specs.Worlds.{World, prelude_text, IsToldBy, AllTold, Reads}

-- what is found at a place is found there with more behind
found-more : {A : Type 0} (t : A → Bool) (i : ℕ) (xs more : List A) (n : ℕ) → position_from t i xs ≡ Some n → position_from t i (xs ++ more) ≡ Some n
found-more t i [] more n h = absurd cc
found-more t i (y ∷ ys) more n h = kept (t y) (found-more t (i + 1) ys more n) h
  where
    kept : (b : Bool) → (position_from t (i + 1) ys ≡ Some n → position_from t (i + 1) (ys ++ more) ≡ Some n) → cond b (Some i) (position_from t (i + 1) ys) ≡ Some n → cond b (Some i) (position_from t (i + 1) (ys ++ more)) ≡ Some n
    kept true go at = at
    kept false go at = go at

-- what stands in a list stands there with more behind
there-more : {A : Type 0} (xs more : List A) (n : ℕ) (x : A) → slice_get xs n ≡ Some x → slice_get (xs ++ more) n ≡ Some x
there-more [] more n x h = absurd cc
there-more (y ∷ ys) more zero x h = h
there-more (y ∷ ys) more (suc n) x h = there-more ys more n x h

-- what is held stays so as more becomes known
pub held_grows : (old new : Holdings) (path : List ℕ) (n : ℕ) (h : Held) → Grows old new → IsHeldAt old path n h → IsHeldAt new path n h
held_grows old new path n h (more, is) at = (
  ap (λ held. number_in held path) is ∙ ap (λ names. number_of names path) (map-append (λ (e : List ℕ × Held). e.0) old more) ∙ found-more (bytes_eq path) 0 (paths old) (paths more) n at.0,
  ap (λ held. slice_get held n) is ∙ there-more old more n (path, h) at.1,
)

-- what an entry holds, or else this
abbrev held_in : Held → Option (List ℕ × Held) → Held
held_in h None = h
held_in h (Some e) = e.1

-- what is held of a path is one thing
pub held_once : (held : Holdings) (path : List ℕ) (n m : ℕ) (h k : Held) → IsHeldAt held path n h → IsHeldAt held path m k → h ≡ k
held_once held path n m h k at other =
    let same : Some n ≡ Some m = sym at.0 ∙ other.0 in
    let one : n ≡ m = cc in
    ap (held_in h) (sym at.1 ∙ ap (slice_get held) one ∙ other.1)

-- of a path that has a number something is held
pub something_held : (held : Holdings) (path : List ℕ) (n : ℕ) → number_in held path ≡ Some n → (h : Held) × IsHeldAt held path n h
something_held held path n at = entry (slice_get held n) refl
  where
    name : option_map (λ (e : List ℕ × Held). e.0) (slice_get held n) ≡ Some path
    name = sym (slice_get-map (λ (e : List ℕ × Held). e.0) held n) ∙ name_there (paths held) path n at

    entry : (o : Option (List ℕ × Held)) → slice_get held n ≡ o → (h : Held) × IsHeldAt held path n h
    entry None is = let no : None ≡ Some path = sym (ap (option_map (λ (e : List ℕ × Held). e.0)) is) ∙ name in absurd cc
    entry (Some (p, h)) is =
        let named : Some p ≡ Some path = sym (ap (option_map (λ (e : List ℕ × Held). e.0)) is) ∙ name in
        let same : p ≡ path = cc in
        (h, (at, is ∙ ap (λ q. Some (q, h)) same))

-- what is held once more is known was held before, or is what became known
pub old_or_new : (old : Holdings) (path : List ℕ) (held : Held) (other : List ℕ) (n : ℕ) (h : Held) → IsHeldAt (old ++ (path, held) ∷ []) other n h
    → IsHeldAt old other n h ⊎ ((other ≡ path) × (h ≡ held) × (number_in old other ≡ None))
old_or_new old path held other n h at = by_number (number_in old other) refl
  where
    by_test : number_in old other ≡ None → (b : Bool) → bytes_eq other path ≡ b → cond b (Some (0 + length (paths old))) None ≡ Some n → IsHeldAt old other n h ⊎ ((other ≡ path) × (h ≡ held) × (number_in old other ≡ None))
    by_test none false test found = absurd cc
    by_test none true test found =
        let same : other ≡ path = (bytes_decides other path).0 test in
        let last : 0 + length (paths old) ≡ n = cc in
        let size : length (paths old) ≡ length old = length-map old in
        let place : length old ≡ n = omega arith in
        let value : held ≡ h = ap (held_in h) (sym (last_there old (path, held)) ∙ ap (slice_get (old ++ (path, held) ∷ [])) place ∙ at.1) in
        inr (same, sym value, none)
      where
        length-map : (xs : Holdings) → length (paths xs) ≡ length xs
        length-map [] = refl
        length-map (x ∷ xs) = ap suc (length-map xs)

    by_number : (o : Option ℕ) → number_in old other ≡ o → IsHeldAt old other n h ⊎ ((other ≡ path) × (h ≡ held) × (number_in old other ≡ None))
    by_number None none =
        by_test none (bytes_eq other path) refl (sym (missed-push (bytes_eq other) 0 (paths old) path none) ∙ ap (λ names. number_of names other) (sym (map-append (λ (e : List ℕ × Held). e.0) old ((path, held) ∷ []))) ∙ at.0)
    by_number (Some m) is =
        let before = something_held old other m is in
        let now : IsHeldAt (old ++ (path, held) ∷ []) other m before.0 = held_grows old (old ++ (path, held) ∷ []) other m before.0 ((path, held) ∷ [], refl) before.1 in
        let same : before.0 ≡ h = held_once (old ++ (path, held) ∷ []) other m n before.0 h now at in
        let numbers : Some m ≡ Some n = sym now.0 ∙ at.0 in
        let place : m ≡ n = cc in
        inl (is ∙ ap Some place, ap (slice_get old) (sym place) ∙ before.1.1 ∙ ap (λ x. Some (other, x)) same)

-- a library that tells what is held told it before too
pub tells_before : (library : Library) (old new : Holdings) → Grows old new → Tells library new → Tells library old
tells_before library old new grows tells = λ path n h at. tells path n h (held_grows old new path n h grows at)

-- a count that rose rose as well from an earlier one to a later one
rose_between : (a b c d : ℕ) → a ≤ b → c ≤ d → Rose b c → Rose a d
rose_between a b c d first last rose = omega arith

pub grows_then : (a b c : Holdings) → Grows a b → Grows b c → Grows a c
grows_then a b c (more, is) (most, then) = (more ++ most, then ∙ ap (λ h. h ++ most) is ∙ append_assoc' a more most)
  where
    append_assoc' : (x y z : Holdings) → (x ++ y) ++ z ≡ x ++ (y ++ z)
    append_assoc' [] y z = refl
    append_assoc' (e ∷ x) y z = ap (λ r. e ∷ r) (append_assoc' x y z)

-- a count does not fall while it stands still
pub no_less : (n : ℕ) → n ≤ n
no_less n = omega arith

-- nothing was read
pub reads_same : (old new : World) → new.held ≡ old.held → new.contents ≡ old.contents → old.failures ≤ new.failures → old.absences ≤ new.absences → old.put_failures ≤ new.put_failures → Reads old new
reads_same old new held contents failures absences put_failures = record {
  grows = ([], held ∙ sym (append-nil old.held));
  contents = contents;
  failures = failures;
  absences = absences;
  put_failures = put_failures;
  absent = λ path n none at. let no : None ≡ Some n = sym none ∙ ap (λ h. number_in h path) (sym held) ∙ at.0 in absurd cc;
  told = λ told. subst (AllTold old.contents) (sym held) told;
}

-- files were read, and then more
pub reads_then : (a b c : World) → Reads a b → Reads b c → Reads a c
reads_then a b c r s = record {
  grows = grows_then a.held b.held c.held r.grows s.grows;
  contents = s.contents ∙ r.contents;
  failures = let first = r.failures in let last = s.failures in omega arith;
  absences = let first = r.absences in let last = s.absences in omega arith;
  put_failures = let first = r.put_failures in let last = s.put_failures in omega arith;
  absent = λ path n none at. shown path n none at (number_in b.held path) refl;
  told = λ told. subst (λ m. AllTold m c.held) r.contents (s.told (subst (λ m. AllTold m b.held) (sym r.contents) (r.told told)));
}
  where
    shown : (path : List ℕ) (n : ℕ) → number_in a.held path ≡ None → IsHeldAt c.held path n known.Missing → (o : Option ℕ) → number_in b.held path ≡ o → Rose a.absences c.absences
    shown path n none at None is = rose_between a.absences b.absences c.absences c.absences r.absences (let e : c.absences ≤ c.absences = omega arith in e) (s.absent path n is at)
    shown path n none at (Some m) is =
        let before = something_held b.held path m is in
        let same : before.0 ≡ known.Missing = held_once c.held path m n before.0 known.Missing (held_grows b.held c.held path m before.0 s.grows before.1) at in
        rose_between a.absences a.absences b.absences c.absences (let e : a.absences ≤ a.absences = omega arith in e) s.absences (r.absent path m none (subst (IsHeldAt b.held path m) same before.1))

-- one more path became known, and what is known of it is right
pub reads_more : (old new : World) (path : List ℕ) (held : Held) → new.held ≡ old.held ++ (path, held) ∷ [] → new.contents ≡ old.contents → old.failures ≤ new.failures → old.absences ≤ new.absences → old.put_failures ≤ new.put_failures
    → (held ≡ known.Missing → Rose old.absences new.absences) → IsToldBy old.contents path held (prelude_text path) → Reads old new
reads_more old new path held is contents failures absences put_failures rose right = record {
  grows = ((path, held) ∷ [], is);
  contents = contents;
  failures = failures;
  absences = absences;
  put_failures = put_failures;
  absent = λ other n none at. missed other n none (old_or_new old.held path held other n known.Missing (subst (λ h. IsHeldAt h other n known.Missing) is at));
  told = λ told other n h at. told_now told other n h (old_or_new old.held path held other n h (subst (λ w. IsHeldAt w other n h) is at));
}
  where
    missed : (other : List ℕ) (n : ℕ) → number_in old.held other ≡ None → IsHeldAt old.held other n known.Missing ⊎ ((other ≡ path) × (known.Missing ≡ held) × (number_in old.held other ≡ None)) → Rose old.absences new.absences
    missed other n none (inl before) = let no : None ≡ Some n = sym none ∙ before.0 in absurd cc
    missed other n none (inr (same, value, not)) = rose (sym value)

    told_now : AllTold old.contents old.held → (other : List ℕ) (n : ℕ) (h : Held) → IsHeldAt old.held other n h ⊎ ((other ≡ path) × (h ≡ held) × (number_in old.held other ≡ None)) → IsToldBy old.contents other h (prelude_text other)
    told_now told other n h (inl before) = told other n h before
    told_now told other n h (inr (same, value, not)) = subst (λ p. IsToldBy old.contents p h (prelude_text p)) (sym same) (subst (λ x. IsToldBy old.contents path x (prelude_text path)) (sym value) right)

-- what a path that was asked for for the first time teaches
pub reads_learnt : (old new : World) (path : List ℕ) (result : Result ℕ SnapFault) → prelude_text path ≡ None → Learns old.contents path old.held new.held result → new.contents ≡ old.contents → old.failures ≤ new.failures → old.absences ≤ new.absences → old.put_failures ≤ new.put_failures
    → (result ≡ Err faults.Missing → Rose old.absences new.absences) → Reads old new
reads_learnt old new path (Err faults.ReadFault) plain learns contents failures absences put_failures rose = reads_same old new learns contents failures absences put_failures
reads_learnt old new path (Err faults.Memory) plain learns contents failures absences put_failures rose = reads_same old new learns contents failures absences put_failures
reads_learnt old new path (Ok n) plain (held, is, now, knows) contents failures absences put_failures rose =
    reads_more old new path held now contents failures absences put_failures (λ missing. rose (is ∙ ap (answer (length old.held)) missing)) (subst (IsToldBy old.contents path held) (sym plain) knows)
reads_learnt old new path (Err faults.Missing) plain (held, is, now, knows) contents failures absences put_failures rose =
    reads_more old new path held now contents failures absences put_failures (λ missing. rose refl) (subst (IsToldBy old.contents path held) (sym plain) knows)
reads_learnt old new path (Err (faults.TooLong n)) plain (held, is, now, knows) contents failures absences put_failures rose =
    reads_more old new path held now contents failures absences put_failures (λ missing. rose (is ∙ ap (answer (length old.held)) missing)) (subst (IsToldBy old.contents path held) (sym plain) knows)

-- what asking for a path that is none of the prelude teaches
pub reads_asked : (old new : World) (path : List ℕ) (result : Result ℕ SnapFault) → prelude_text path ≡ None
    → ((n : ℕ) (h : Held) → number_in old.held path ≡ Some n → slice_get old.held n ≡ Some (path, h) → new.held ≡ old.held)
    → (number_in old.held path ≡ None → Learns old.contents path old.held new.held result)
    → new.contents ≡ old.contents → old.failures ≤ new.failures → old.absences ≤ new.absences → old.put_failures ≤ new.put_failures
    → (result ≡ Err faults.Missing → number_in old.held path ≡ None → Rose old.absences new.absences) → Reads old new
reads_asked old new path result plain known_before learnt contents failures absences put_failures rose = by_number (number_in old.held path) refl
  where
    by_number : (o : Option ℕ) → number_in old.held path ≡ o → Reads old new
    by_number None none = reads_learnt old new path result plain (learnt none) contents failures absences put_failures (λ missing. rose missing none)
    by_number (Some n) is =
        let before = something_held old.held path n is in
        reads_same old new (known_before n before.0 is before.1.1) contents failures absences put_failures

-- the text of a header of the prelude is kept
pub reads_kept : (old new : World) (path text : List ℕ) → prelude_text path ≡ Some text
    → ((n : ℕ) → number_in old.held path ≡ Some n → new.held ≡ old.held)
    → (number_in old.held path ≡ None → new.held ≡ old.held ++ (path, known.Bytes text) ∷ [])
    → new.contents ≡ old.contents → old.failures ≤ new.failures → old.absences ≤ new.absences → old.put_failures ≤ new.put_failures → Reads old new
reads_kept old new path text is_text known_before kept contents failures absences put_failures = by_number (number_in old.held path) refl
  where
    by_number : (o : Option ℕ) → number_in old.held path ≡ o → Reads old new
    by_number None none = reads_more old new path (known.Bytes text) (kept none) contents failures absences put_failures (λ missing. absurd cc) (subst (IsToldBy old.contents path (known.Bytes text)) (sym is_text) refl)
    by_number (Some n) is = reads_same old new (known_before n is) contents failures absences put_failures
