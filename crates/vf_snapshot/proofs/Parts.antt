-- Parts of paths, and how they are joined again.
use Rattle.std.proofs.Common.{◌≡◌, ℕ, suc, zero, ◌+◌, ◌<◌, ◌≤◌, length, get_or, take, drop, refl, sym, ap, subst, ◌∙◌, List, [], ◌∷◌, ◌++◌, append_assoc, add-one, arith, reverse, fold, cond, true, false}
use Rattle.std.proofs.Math.Seq.{take-suc, drop-cons}
use Rattle.std.proofs.lemmas.List.{reverse-append, reverse-reverse}
use Rattle.std.specs.List.{join_with_byte}
use Rattle.vf_snapshot.specs.Paths.{parts_from, with_part}

-- the last part comes first when the parts are turned round
pub reverse_push : (xs : List (List ℕ)) (x : List ℕ) → reverse (xs ++ x ∷ []) ≡ x ∷ reverse xs
reverse_push xs x = reverse-append xs (x ∷ [])

-- the path of parts with one more behind
pub join-push : (p : List ℕ) (ps : List (List ℕ)) (x : List ℕ) → join_with_byte 47 ((p ∷ ps) ++ x ∷ []) ≡ join_with_byte 47 (p ∷ ps) ++ 47 ∷ x
join-push p [] x = refl
join-push p (q ∷ ps) x = ap (λ r. p ++ (47 ∷ r)) (join-push q ps x) ∙ sym (append_assoc p (47 ∷ join_with_byte 47 (q ∷ ps)) (47 ∷ x))

-- the path of the first parts, with the next one
pub join-take : (ps : List (List ℕ)) (i : ℕ) (d : List ℕ) → 0 < i → i < length ps → join_with_byte 47 (take (i + 1) ps) ≡ join_with_byte 47 (take i ps) ++ 47 ∷ get_or ps i d
join-take [] i d some within = absurd (omega arith)
join-take (p ∷ ps) zero d some within = absurd (omega arith)
join-take (p ∷ ps) (suc i) d some within =
    let inside : i < length ps = omega arith in
    rw (add-one, take-suc ps i d inside) (join-push p (take i ps) (get_or ps i d))

-- behind a slash the next part goes on the path
pub join_more : (ps : List (List ℕ)) (i : ℕ) (part text mid : List ℕ) → 0 < i → i < length ps → part ≡ get_or ps i part → text ≡ join_with_byte 47 (take i ps) → mid ≡ text ++ 47 ∷ [] → mid ++ part ≡ join_with_byte 47 (take (i + 1) ps)
join_more ps i part text mid some within is so_far slash =
    ap (λ t. t ++ part) slash ∙ append_assoc text (47 ∷ []) part ∙ ap (λ t. t ++ 47 ∷ part) so_far
    ∙ ap (λ p. join_with_byte 47 (take i ps) ++ 47 ∷ p) is ∙ sym (join-take ps i part some within)

-- the first part begins it
pub join_first : (ps : List (List ℕ)) (i : ℕ) (part text mid : List ℕ) → i ≤ 0 → i < length ps → part ≡ get_or ps i part → text ≡ join_with_byte 47 (take i ps) → mid ≡ text → mid ++ part ≡ join_with_byte 47 (take (i + 1) ps)
join_first [] i part text mid none within is so_far same = absurd (omega arith)
join_first (p ∷ ps) zero part text mid none within is so_far same = ap (λ t. t ++ part) (same ∙ so_far) ∙ is
join_first (p ∷ ps) (suc i) part text mid none within is so_far same = absurd (omega arith)
