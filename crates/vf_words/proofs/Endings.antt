-- Paths, and what they end in.
use Rattle.std.proofs.Common.{◌≡◌, ◌∙◌, sym, ap, subst, ℕ, ◌-◌, ◌≤◌, List, ◌++◌, length, drop, take, IsTrue, arith}
use Rattle.std.specs.List.{All}
use Rattle.std.proofs.lemmas.List.{drop_at, length-append, take-append-drop}
use Rattle.vf_words.specs.Words.{is_path_byte, IsPathTo}

-- a path has just these two parts
pub path_to : (ending path : List ℕ) → ((stem : List ℕ) × (path ≡ stem ++ ending)) → All (λ b. IsTrue (is_path_byte b)) path → IsPathTo ending path
path_to ending path ends bytes = record { bytes = bytes; stem = ends.0; ends = ends.1 }

-- what stands behind a front
behind_front : (front end : List ℕ) → drop (length (front ++ end) - length end) (front ++ end) ≡ end
behind_front front end = drop_at front end (length (front ++ end) - length end) (omega (arith, length-append front end))

-- a text ends in another where that is what stands at its end
pub ends_where : (text end : List ℕ) → length end ≤ length text → drop (length text - length end) text ≡ end → (stem : List ℕ) × (text ≡ stem ++ end)
ends_where text end low is = (take (length text - length end) text, sym (take-append-drop (length text - length end) text) ∙ ap (λ e. take (length text - length end) text ++ e) is)

pub where_ends : (text end : List ℕ) → ((stem : List ℕ) × (text ≡ stem ++ end)) → drop (length text - length end) text ≡ end
where_ends text end (stem, is) = subst (λ t. drop (length t - length end) t ≡ end) (sym is) (behind_front stem end)

pub ends_long : (text end : List ℕ) → ((stem : List ℕ) × (text ≡ stem ++ end)) → length end ≤ length text
ends_long text end (stem, is) = omega (arith, ap length is, length-append stem end)
