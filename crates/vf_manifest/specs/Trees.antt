-- Signatures of lemmas as trees of sorts.
use Rattle.std.specs.Prelude.{◌≡◌, ℕ, Bool, true, false, not, ◌&&◌, List, [], ◌∷◌, ◌++◌, codes}
use Rattle.vf_manifest.specs.Signatures.{is_numeral, is_datatype, is_sort_word}

-- what a sort is but for the sorts in its brackets: a word alone, a datatype's name, or a predicate
pub data Shape : Type 0 where
  Word : List ℕ → Shape
  Applied : List ℕ → Shape
  Predicate : Shape

-- sorts in a row: none, or a sort with those in its brackets, and those behind it
pub data Sorts : Type 0 where
  None_left : Sorts
  Sort_then : Shape → Sorts → Sorts → Sorts

-- there is no sort
abbrev pub is_none_left : Sorts → Bool
is_none_left None_left = true
is_none_left (Sort_then shape inside behind) = false

-- a text without the comma in front of it
abbrev pub bare : List ℕ → List ℕ
bare [] = []
bare (comma ∷ text) = text

-- the text of a sort with this text in its brackets
abbrev pub sort_text : Shape → List ℕ → List ℕ
sort_text (Word w) inside = w
sort_text (Applied w) inside = w ++ 60 ∷ (inside ++ 62 ∷ [])
sort_text Predicate inside = codes "pred" ++ 40 ∷ (inside ++ 41 ∷ [])

-- the texts of sorts, each with a comma in front of it
abbrev pub joined : Sorts → List ℕ
joined None_left = []
joined (Sort_then shape inside behind) = 44 ∷ (sort_text shape (bare (joined inside)) ++ joined behind)

-- the text of sorts with commas between them
abbrev pub sorts_text : Sorts → List ℕ
sorts_text ss = bare (joined ss)

-- a word alone has no sorts in brackets, and is a name or one of so many type parameters; a datatype's name has some
abbrev pub is_shape : List ℕ → Shape → Sorts → Bool
is_shape k (Word w) inside = is_sort_word k w && is_none_left inside
is_shape k (Applied w) inside = is_datatype w && not (is_none_left inside)
is_shape k Predicate inside = true

-- sorts with so many type parameters
abbrev pub are_good : List ℕ → Sorts → Bool
are_good k None_left = true
are_good k (Sort_then shape inside behind) = is_shape k shape inside && (are_good k inside && are_good k behind)

-- a text is the signature of a lemma: `lemma/`, the number of its type parameters, and its sorts in parentheses
pub record IsLemma (text : List ℕ) : Type 0 where
  pub parameters : List ℕ
  pub sorts : Sorts
  pub numeral : is_numeral parameters ≡ true
  pub good : are_good parameters sorts ≡ true
  pub parts : text ≡ codes "lemma/" ++ (parameters ++ 40 ∷ (sorts_text sorts ++ 41 ∷ []))
