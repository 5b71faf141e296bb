-- Signatures of functions and lemmas, as they stand in manifests.
use Rattle.std.specs.Prelude.{ℕ, ◌==◌, Bool, true, false, not, ◌||◌, ◌&&◌, nat_lt, List, [], ◌∷◌, ◌++◌, length, codes, Option, Some, None, if◌then◌else◌}
use Rattle.std.specs.Char.{is_ascii_digit}
use Rattle.std.specs.List.{list_all, list_any, slice_split}
use Rattle.std.specs.Str.{bytes_eq}
use Rattle.std.specs.Cmp.Lexicographic.{slice_cmp}
use Rattle.std.specs.Ordering.{nat_cmp, is_gt}
use Rattle.vf_manifest.specs.Cuts.{cut, holds}
use Rattle.vf_manifest.specs.Words.{is_visible, is_word_byte, is_name}
use Rattle.vf_manifest.specs.declared.signature.Stage.{Stage}
use Rattle.vf_manifest.specs.declared.signature.Stage.TheVariants.{Begins, BeginsOrEnds, Ended}

-- a text has no byte
abbrev pub is_empty : List ℕ → Bool
is_empty [] = true
is_empty (b ∷ bs) = false

-- ---- functions

-- the types of C without names
abbrev pub plain_types : List (List ℕ)
plain_types = codes "void" ∷ codes "bool" ∷ codes "char" ∷ codes "uchar" ∷ codes "short" ∷ codes "ushort" ∷ codes "int" ∷ codes "uint" ∷ codes "long" ∷ codes "ulong" ∷ codes "llong" ∷ codes "ullong" ∷ codes "void*" ∷ codes "int*" ∷ []

-- a name and a star
abbrev pub is_starred_name : List ℕ → Bool
is_starred_name text = holds (cut 42 text) (λ p. is_name p.0 && is_empty p.1)

-- a pointer to a struct of this tag, or to a function of a type with this name
abbrev pub is_pointer_type : List ℕ → Bool
is_pointer_type text = holds (cut 58 text) (λ p. (bytes_eq p.0 (codes "struct") || bytes_eq p.0 (codes "fn")) && is_starred_name p.1)

-- a type of C
unfoldable pub is_type : List ℕ → Bool
is_type text = list_any (λ t. bytes_eq text t) plain_types || is_pointer_type text

-- types with commas between them, or none
unfoldable pub are_types : List ℕ → Bool
are_types text = is_empty text || list_all is_type (slice_split (λ b. b == 44) text)

-- a function: the type of its result, and those of its parameters in parentheses
unfoldable pub is_function : List ℕ → Bool
is_function text = holds (cut 40 text) (λ p. is_type p.0 && holds (cut 41 p.1) (λ q. are_types q.0 && is_empty q.1))

-- ---- lemmas

-- digits in decimal without leading zeros
abbrev pub is_numeral : List ℕ → Bool
is_numeral [] = false
is_numeral (b ∷ bs) = is_ascii_digit b && list_all is_ascii_digit bs && (not (b == 48) || is_empty bs)

-- of two such numbers the first is at most the second: it has fewer digits, or as many and does not stand behind it in the order of bytes
abbrev pub is_at_most : List ℕ → List ℕ → Bool
is_at_most i k = nat_lt (length i) (length k) || length i == length k && not (is_gt (slice_cmp nat_cmp i k))

-- a type parameter of so many: `$` and its number, from 1 on
abbrev pub is_parameter : List ℕ → List ℕ → Bool
is_parameter k [] = false
is_parameter k (b ∷ i) = b == 36 && is_numeral i && not (bytes_eq i (codes "0")) && is_at_most i k

-- the sorts that have names of their own
abbrev pub own_sorts : List (List ℕ)
own_sorts = codes "int" ∷ codes "bool" ∷ codes "ptr" ∷ codes "real" ∷ codes "any" ∷ []

-- the name of a datatype that has sorts behind it
abbrev pub is_datatype : List ℕ → Bool
is_datatype word = is_name word && not (list_any (λ s. bytes_eq word s) own_sorts)

-- a sort of one word: a name, or one of so many type parameters
abbrev pub is_sort_word : List ℕ → List ℕ → Bool
is_sort_word k word = is_name word || is_parameter k word

-- a byte of such a word
abbrev pub is_sort_byte : ℕ → Bool
is_sort_byte b = is_word_byte b || b == 36

-- a sort can begin at this stage
abbrev pub can_begin : Stage → Bool
can_begin Begins = true
can_begin BeginsOrEnds = true
can_begin Ended = false

-- a sort ends behind this word, where it began at this stage
abbrev pub ends_sort : List ℕ → Stage → List ℕ → Bool
ends_sort k Begins word = is_sort_word k word
ends_sort k BeginsOrEnds word = is_sort_word k word
ends_sort k Ended word = is_empty word

-- an empty list of sorts ends here
abbrev pub ends_none : Stage → List ℕ → Bool
ends_none Begins word = false
ends_none BeginsOrEnds word = is_empty word
ends_none Ended word = false

-- the byte closes the bracket that was opened last
abbrev pub closes : List ℕ → ℕ → Option (Stage × List ℕ)
closes [] b = None
closes (c ∷ cs) b = if b == c then Some (Ended, cs) else None

-- what a byte behind a word leads to: the next stage, and the bytes that will close the open brackets
unfoldable pub next : List ℕ → Stage → List ℕ → List ℕ → ℕ → Option (Stage × List ℕ)
next k stage word open_ b =
    if b == 40 then (if can_begin stage && bytes_eq word (codes "pred") then Some (BeginsOrEnds, 41 ∷ open_) else None) else
    if b == 60 then (if can_begin stage && is_datatype word then Some (Begins, 62 ∷ open_) else None) else
    if b == 44 then (if ends_sort k stage word && not (is_empty open_) then Some (Begins, open_) else None) else
    if ends_sort k stage word || ends_none stage word then closes open_ b else None

-- sorts, from a stage on, behind these bytes of a word, up to the end of all open brackets
unfoldable pub are_sorts : List ℕ → Stage → List ℕ → List ℕ → List ℕ → Bool
are_sorts k stage word open_ [] = not (can_begin stage) && is_empty word && is_empty open_
are_sorts k stage word open_ (b ∷ bs) = if is_sort_byte b then are_sorts k stage (word ++ b ∷ []) open_ bs else holds (next k stage word open_ b) (λ s. are_sorts k s.0 [] s.1 bs)

-- a lemma: `lemma/`, the number of its type parameters, and its sorts in parentheses
unfoldable pub is_lemma : List ℕ → Bool
is_lemma text = holds (cut 47 text) (λ p. bytes_eq p.0 (codes "lemma") && holds (cut 40 p.1) (λ q. is_numeral q.0 && are_sorts q.0 BeginsOrEnds [] (41 ∷ []) q.1))

-- a signature: `?`, or that of a function or a lemma; no blank stands in it
unfoldable pub is_signature : List ℕ → Bool
is_signature text = list_all is_visible text && (bytes_eq text (codes "?") || is_function text || is_lemma text)
