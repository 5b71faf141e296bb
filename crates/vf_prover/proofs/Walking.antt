-- The facts of a path, from a node up to the root.
use Rattle.std.proofs.Common.{◌≡◌, ℕ, ◌+◌, ◌==◌, Bool, true, false, List, [], ◌∷◌, ◌++◌, length, sym, ap, ◌∙◌, append_assoc}
use Rattle.std.specs.Prelude.{reverse, All, if◌then◌else◌}
use Rattle.std.proofs.lemmas.List.{reverse-append}
use Rattle.std.proofs.lemmas.List.Elements.{All-nil, All-cons, All-head, All-tail, All-append}
use Rattle.vf_trail.specs.Trail.{path_in, path_of}

-- a fact that is passed stands in front of those passed before
pub passed : {L : Type 0} (above next : List L) (fact : L) (facts more : List L) → above ≡ next ++ fact ∷ [] → more ≡ facts ++ fact ∷ [] → (whole : List L) → whole ≡ above ++ reverse facts → whole ≡ next ++ reverse more
passed above next fact facts more e f whole h =
    h
    ∙ ap (λ ls. ls ++ reverse facts) e
    ∙ append_assoc next (fact ∷ []) (reverse facts)
    ∙ ap (λ ls. next ++ ls) (sym (reverse-append facts (fact ∷ [])) ∙ ap reverse (sym f))

module _ {L : Type 0} (P : L → Type 0) where
  all_reverse : (rows : List (ℕ × L)) → All (λ row. P row.1) rows → All (λ row. P row.1) (reverse rows)
  all_reverse [] h = h
  all_reverse (r ∷ rs) h =
      rw (reverse-append (r ∷ []) rs) (All-append (λ (row : ℕ × L). P row.1) (reverse rs) (r ∷ []) (all_reverse rs (All-tail (λ (row : ℕ × L). P row.1) r rs h)) (All-cons (λ (row : ℕ × L). P row.1) r [] (All-head (λ (row : ℕ × L). P row.1) r rs h) (All-nil (λ (row : ℕ × L). P row.1))))

  in_by : (b : Bool) (above below : List L) (x : L) → All P above → All P below → P x → All P (if b then above ++ x ∷ [] else below)
  in_by true above below x h k p = All-append P above (x ∷ []) h (All-cons P x [] p (All-nil P))
  in_by false above below x h k p = k

  all_in : (rows : List (ℕ × L)) (node : ℕ) → All (λ row. P row.1) rows → All P (path_in rows node)
  all_in [] node h = All-nil P
  all_in (r ∷ rs) node h =
      let rest = All-tail (λ (row : ℕ × L). P row.1) r rs h in
      in_by (node == length rs + 1) (path_in rs r.0) (path_in rs node) r.1 (all_in rs r.0 rest) (all_in rs node rest) (All-head (λ (row : ℕ × L). P row.1) r rs h)

  -- what holds of each fact of a trail holds of each fact of a path
  pub all_on_path : (facts : List (ℕ × L)) (node : ℕ) → All (λ row. P row.1) facts → All P (path_of facts node)
  unfolding path_of
  all_on_path facts node h = all_in (reverse facts) node (all_reverse facts h)
