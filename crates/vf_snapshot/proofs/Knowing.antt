-- What a front of a file tells of it, and how what is held goes on.
use Rattle.std.proofs.Common.{◌≡◌, ℕ, ◌+◌, ◌<◌, ◌≤◌, suc, zero, min, arith, refl, sym, ap, subst, ◌∙◌, cond, Bool, true, false, length-append, List, [], ◌∷◌, ◌++◌, map, length, take, Option, Some, None, Result, Ok, Err, IfOk, OnOk, IfSome, slice_get, option_map}
use Rattle.std.proofs.Math.Dec.{leb}
use Rattle.std.proofs.lemmas.Bool.{cond-true, cond-false}
use Rattle.std.proofs.lemmas.Bool.Decides.{leb_tells}
use Rattle.std.proofs.lemmas.List.{length-take, take_all, map-append, append-nil}
use Rattle.std.proofs.lemmas.Option.{slice_get-map, slice_get_within}
use Rattle.vf_base.specs.Outside.{Contents, IsFront}
use Rattle.vf_snapshot.specs.declared.held.Held.{Held}
use Rattle.vf_snapshot.specs.declared.held.Held.TheVariants as known
use Rattle.vf_snapshot.specs.declared.held.SnapFault.{SnapFault}
use Rattle.vf_snapshot.specs.declared.held.SnapFault.TheVariants as faults
use Rattle.std.specs.String.{string_bytes}
use Rattle.vf_names.proofs.Numbering.{number_of-push}
use Rattle.std.proofs.lemmas.List.{length-map}
use Rattle.vf_names.specs.Names.{number_of, put, put_found}
use Rattle.vf_snapshot.specs.declared.snapshot.Entry.{Entry}
use Rattle.vf_snapshot.specs.Entries.{entry_of, Match}
use Rattle.vf_snapshot.specs.Holdings.{Holdings, paths, number_in, known_of, IsKnown, answer, Learns, Stands, Grows, IsHeldAt}

-- a front of more than 1,048,576 bytes is of a file that is too long
pub too_long : (front all : List ℕ) → 1048576 < length front → front ≡ take 1048577 all → known.TooLong ≡ known_of (Some all)
too_long front all more is =
    let size : length front ≡ min 1048577 (length all) = ap length is ∙ length-take 1048577 all in
    let over : leb (length all) 1048576 ≡ false = grind (arith, leb_tells) in
    sym (cond-false _ (known.Bytes all) known.TooLong over)

-- a shorter front is the whole file
pub whole : (front all : List ℕ) → length front ≤ 1048576 → front ≡ take 1048577 all → known.Bytes front ≡ known_of (Some all)
whole front all few is =
    let size : length front ≡ min 1048577 (length all) = ap length is ∙ length-take 1048577 all in
    let fits : length all ≤ 1048577 = omega arith in
    let under : leb (length all) 1048576 ≡ true = grind (arith, leb_tells) in
    ap known.Bytes (is ∙ take_all 1048577 all fits) ∙ sym (cond-true _ (known.Bytes all) known.TooLong under)

-- the paths of kept entries
pub paths-entries : (es : List Entry) → paths (map entry_of es) ≡ map (λ (e : Entry). string_bytes e.path) es
paths-entries [] = refl
paths-entries (e ∷ es) = ap (λ ps. string_bytes e.path ∷ ps) (paths-entries es)

-- what is got from a list of values stands there as the value of something
behind : {A B : Type 0} (f : A → B) (o : Option A) (y : B) → option_map f o ≡ Some y → (x : A) × (o ≡ Some x) × (f x ≡ y)
behind f None y h = absurd cc
behind f (Some x) y h = (x, refl, cc)

-- an entry stands where the number of its path says
entry_there : (es : List Entry) (path : List ℕ) (n : ℕ) → slice_get (map (λ (e : Entry). string_bytes e.path) es) n ≡ Some path
    → (n < length es) × ((held : Held) × (slice_get (map entry_of es) n ≡ Some (path, held)))
entry_there es path n h =
    told (behind (λ (e : Entry). string_bytes e.path) (slice_get es n) path (sym (slice_get-map (λ (e : Entry). string_bytes e.path) es n) ∙ h))
  where
    told : (e : Entry) × (slice_get es n ≡ Some e) × (string_bytes e.path ≡ path) → (n < length es) × ((held : Held) × (slice_get (map entry_of es) n ≡ Some (path, held)))
    told (e, at, is) = (slice_get_within es n e at, (e.held, slice_get-map entry_of es n ∙ ap (option_map entry_of) at ∙ ap (λ p. Some (p, e.held)) is))

-- the number of a path by the names is the one by what is held
pub number_by_names : (names : List (List ℕ)) (es : List Entry) (now : Holdings) (path : List ℕ) → Match names es → map entry_of es ≡ now → number_of names path ≡ number_in now path
number_by_names names es now path m is = ap (λ ns. number_of ns path) (m.paths ∙ sym (paths-entries es) ∙ ap paths is)

-- the entry of a path that has a number, which fits
pub numbered : (names : List (List ℕ)) (es : List Entry) (now : Holdings) (path : List ℕ) (n : ℕ) → Match names es → map entry_of es ≡ now → slice_get names n ≡ Some path
    → (n < 4294967296) × ((held : Held) × (slice_get now n ≡ Some (path, held)))
numbered names es now path n m is at = told (entry_there es path n (ap (λ ns. slice_get ns n) (sym m.paths) ∙ at))
  where
    told : (n < length es) × ((held : Held) × (slice_get (map entry_of es) n ≡ Some (path, held))) → (n < 4294967296) × ((held : Held) × (slice_get now n ≡ Some (path, held)))
    told (within, (held, there)) = let few : length es < 4294967296 = m.few in (omega arith, (held, ap (λ h. slice_get h n) (sym is) ∙ there))

-- one more entry
pub Match-push : (names made : List (List ℕ)) (es : List Entry) (e : Entry) (path : List ℕ) → Match names es → number_of names path ≡ None → made ≡ put names path → string_bytes e.path ≡ path → length es + 1 < 4294967296 → Match made (es ++ e ∷ [])
Match-push names made es e path m none is same few = record {
  paths = is ∙ ap (put_found names path) none ∙ ap (λ ns. ns ++ path ∷ []) m.paths ∙ ap (λ p. map (λ (x : Entry). string_bytes x.path) es ++ p ∷ []) (sym same) ∙ sym (map-append (λ (x : Entry). string_bytes x.path) es (e ∷ []));
  few = let size : length (es ++ e ∷ []) ≡ length es + 1 = length-append es (e ∷ []) in omega arith;
}

-- the last of what is held
pub last_there : (old : Holdings) (e : List ℕ × Held) → slice_get (old ++ e ∷ []) (length old) ≡ Some e
last_there [] e = refl
last_there (x ∷ xs) e = last_there xs e

-- the answer for a path of which there is now something to know
pub learns : (told : Contents) (path : List ℕ) (old new : Holdings) (held : Held) (n : ℕ) (result : Result ℕ SnapFault) → option_map (λ (e : List ℕ × Held). answer n e.1) (slice_get new n) ≡ Some result → n ≡ length old → new ≡ old ++ (path, held) ∷ [] → IsKnown told path held
    → result ≡ answer (length old) held
learns told path old new held n result asked last is knows =
    let there : slice_get new n ≡ Some (path, held) = ap (λ h. slice_get h n) is ∙ ap (λ k. slice_get (old ++ (path, held) ∷ []) k) last ∙ last_there old (path, held) in
    let same : Some (answer n held) ≡ Some result = sym (ap (option_map (λ (e : List ℕ × Held). answer n e.1)) there) ∙ asked in
    let one : result ≡ answer n held = cc in
    one ∙ ap (λ k. answer k held) last

pub Learns-answer : (told : Contents) (path : List ℕ) (old new : Holdings) (held : Held) (result : Result ℕ SnapFault) → result ≡ answer (length old) held → new ≡ old ++ (path, held) ∷ [] → IsKnown told path held → Learns told path old new result
Learns-answer told path old new (known.Bytes bytes) result e is knows = subst (Learns told path old new) (sym e) (known.Bytes bytes, refl, is, knows)
Learns-answer told path old new known.TooLong result e is knows = subst (Learns told path old new) (sym e) (known.TooLong, refl, is, knows)
Learns-answer told path old new known.Missing result e is knows = subst (Learns told path old new) (sym e) (known.Missing, refl, is, knows)

-- the answer Missing is that of a missing file
pub answers_missing : (held : Held) (n : ℕ) → answer n held ≡ Err faults.Missing → held ≡ known.Missing
answers_missing (known.Bytes bytes) n h = absurd cc
answers_missing known.TooLong n h = absurd cc
answers_missing known.Missing n h = refl

-- what is held under the number of an answer
pub Stands-answer : (held : Holdings) (path : List ℕ) (n : ℕ) (h : Held) (result : Result ℕ SnapFault) → IsHeldAt held path n h → result ≡ answer n h → Stands held path result
Stands-answer held path n (known.Bytes bytes) result at e = subst (Stands held path) (sym e) (bytes, at)
Stands-answer held path n known.TooLong result at e = subst (Stands held path) (sym e) at
Stands-answer held path n known.Missing result at e = subst (Stands held path) (sym e) (n, at)

-- the answer that was asked for under a number
pub asked_at : (held : Holdings) (path : List ℕ) (n : ℕ) (h : Held) (result : Result ℕ SnapFault) → slice_get held n ≡ Some (path, h) → option_map (λ (e : List ℕ × Held). answer n e.1) (slice_get held n) ≡ Some result → result ≡ answer n h
asked_at held path n h result at asked =
    let same : Some (answer n h) ≡ Some result = sym (ap (option_map (λ (e : List ℕ × Held). answer n e.1)) at) ∙ asked in
    cc

-- nothing more is held
pub same_grows : (old new : Holdings) → new ≡ old → Grows old new
same_grows old new e = ([], e ∙ sym (append-nil old))

paths-push : (old : Holdings) (path : List ℕ) (held : Held) → paths (old ++ (path, held) ∷ []) ≡ paths old ++ path ∷ []
paths-push old path held = map-append (λ (e : List ℕ × Held). e.0) old ((path, held) ∷ [])

-- a new path is held under the next number
pub held_new : (old new : Holdings) (path : List ℕ) (held : Held) (n : ℕ) → number_in old path ≡ None → n ≡ length old → new ≡ old ++ (path, held) ∷ [] → IsHeldAt new path n held
held_new old new path held n none last is =
    let size : length (paths old) ≡ length old = length-map old (λ (e : List ℕ × Held). e.0) in (
      ap (λ h. number_in h path) is ∙ ap (λ ps. number_of ps path) (paths-push old path held) ∙ number_of-push (paths old) path none ∙ ap Some (size ∙ sym last),
      ap (λ h. slice_get h n) is ∙ ap (λ k. slice_get (old ++ (path, held) ∷ []) k) last ∙ last_there old (path, held),
    )

-- where one more entry was put it stands
pub put_there : {E : Type 0} (r : Result ℕ E) (old new : Holdings) (path : List ℕ) (held : Held) → number_in old path ≡ None → IfOk r (λ n. n ≡ length old) → OnOk r (new ≡ old ++ (path, held) ∷ []) → IfOk r (λ n. (h : Held) × IsHeldAt new path n h)
put_there (Ok n) old new path held none last is = (held, held_new old new path held n none last is)
put_there (Err e) old new path held none last is = tt

-- the same for a new path that was read
pub learnt_there : (path : List ℕ) (old new : Holdings) (held : Held) (n : ℕ) (result : Result ℕ SnapFault) → number_in old path ≡ None → option_map (λ (e : List ℕ × Held). answer n e.1) (slice_get new n) ≡ Some result → n ≡ length old → new ≡ old ++ (path, held) ∷ []
    → Stands new path result
learnt_there path old new held n result none asked last is =
    let there : IsHeldAt new path n held = held_new old new path held n none last is in
    Stands-answer new path n held result there (asked_at new path n held result there.1 asked)
