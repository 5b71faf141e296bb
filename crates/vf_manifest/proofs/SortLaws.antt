-- Words among the sorts of a lemma are read at once.
use Rattle.std.proofs.Common.{◌≡◌, ℕ, suc, ◌+◌, Bool, true, false, cond, List, [], ◌∷◌, ◌++◌, take, drop, Some, None, refl, sym, ap, ◌∙◌, append_assoc, arith}
use Rattle.std.specs.Prelude.{not, ◌&&◌}
use Rattle.std.specs.List.{prefix_len}
use Rattle.std.proofs.lemmas.List.{append-nil}
use Rattle.vf_manifest.specs.Cuts.{holds}
use Rattle.vf_manifest.specs.Signatures.{is_empty, can_begin, is_sort_byte, next, are_sorts}
use Rattle.vf_manifest.specs.declared.signature.Stage.{Stage}

word_at : (t : Bool) (k : List ℕ) (stage : Stage) (w closers : List ℕ) (b : ℕ) (bs : List ℕ) (m : ℕ) (other : Bool) → is_sort_byte b ≡ t
    → ((v : List ℕ) → are_sorts k stage v closers bs ≡ are_sorts k stage (v ++ take m bs) closers (drop m bs))
    → are_sorts k stage w closers (b ∷ bs) ≡ are_sorts k stage (w ++ take (cond t (1 + m) 0) (b ∷ bs)) closers (drop (cond t (1 + m) 0) (b ∷ bs))
unfolding are_sorts
word_at true k stage w closers b bs m other is rest =
    let more : 1 + m ≡ suc m = omega arith in
    ap (λ t. cond t (are_sorts k stage (w ++ b ∷ []) closers bs) (holds (next k stage w closers b) (λ s. are_sorts k s.0 [] s.1 bs))) is
    ∙ rest (w ++ b ∷ [])
    ∙ ap (λ v. are_sorts k stage v closers (drop m bs)) (append_assoc w (b ∷ []) (take m bs))
    ∙ ap (λ n. are_sorts k stage (w ++ take n (b ∷ bs)) closers (drop n (b ∷ bs))) (sym more)
word_at false k stage w closers b bs m other is rest = ap (λ v. are_sorts k stage v closers (b ∷ bs)) (sym (append-nil w))

-- the bytes of a word are read one by one, up to the first that is of no word
pub word_read : (k : List ℕ) (stage : Stage) (w closers text : List ℕ) → are_sorts k stage w closers text ≡ are_sorts k stage (w ++ take (prefix_len is_sort_byte text) text) closers (drop (prefix_len is_sort_byte text) text)
word_read k stage w closers [] = ap (λ v. are_sorts k stage v closers []) (sym (append-nil w))
word_read k stage w closers (b ∷ bs) =
    word_at (is_sort_byte b) k stage w closers b bs (prefix_len is_sort_byte bs) true refl (λ v. word_read k stage v closers bs)

first_at : (b : ℕ) (bs : List ℕ) (t : Bool) (m : ℕ) → is_sort_byte b ≡ t → (c : ℕ) (cs : List ℕ) → drop (cond t (1 + m) 0) (b ∷ bs) ≡ c ∷ cs → (drop m bs ≡ c ∷ cs → is_sort_byte c ≡ false) → is_sort_byte c ≡ false
first_at b bs true m is c cs e rest =
    let more : 1 + m ≡ suc m = omega arith in
    rest (ap (λ n. drop n (b ∷ bs)) (sym more) ∙ e)
first_at b bs false m is c cs e rest = let same : b ≡ c = cc e in ap is_sort_byte (sym same) ∙ is

-- what stands behind a word is of no word
pub stops_at : (text : List ℕ) (c : ℕ) (cs : List ℕ) → drop (prefix_len is_sort_byte text) text ≡ c ∷ cs → is_sort_byte c ≡ false
stops_at [] c cs e = absurd (cc e)
stops_at (b ∷ bs) c cs e = first_at b bs (is_sort_byte b) (prefix_len is_sort_byte bs) refl c cs e (stops_at bs c cs)

-- a byte behind a word leads on
pub steps : (k : List ℕ) (stage : Stage) (w closers : List ℕ) (c : ℕ) (cs : List ℕ) → is_sort_byte c ≡ false → are_sorts k stage w closers (c ∷ cs) ≡ holds (next k stage w closers c) (λ s. are_sorts k s.0 [] s.1 cs)
unfolding are_sorts
steps k stage w closers c cs h = ap (λ t. cond t (are_sorts k stage (w ++ c ∷ []) closers cs) (holds (next k stage w closers c) (λ s. are_sorts k s.0 [] s.1 cs))) h

-- a word and what stands behind it
read_word : (k : List ℕ) (stage : Stage) (closers left word rest : List ℕ) → word ≡ take (prefix_len is_sort_byte left) left → rest ≡ drop (prefix_len is_sort_byte left) left
    → are_sorts k stage [] closers left ≡ are_sorts k stage word closers rest
read_word k stage closers left word rest w r =
    word_read k stage [] closers left
    ∙ ap (λ v. are_sorts k stage v closers (drop (prefix_len is_sort_byte left) left)) (sym w)
    ∙ ap (λ t. are_sorts k stage word closers t) (sym r)

-- the text ends behind the word
pub sorts_end : (k : List ℕ) (stage : Stage) (closers left word rest : List ℕ) (total : Bool) → word ≡ take (prefix_len is_sort_byte left) left → rest ≡ drop (prefix_len is_sort_byte left) left
    → rest ≡ [] → are_sorts k stage [] closers left ≡ total → (not (can_begin stage) && is_empty word && is_empty closers) ≡ total
unfolding are_sorts
sorts_end k stage closers left word rest total w r none e =
    sym (ap (λ t. are_sorts k stage word closers t) none) ∙ sym (read_word k stage closers left word rest w r) ∙ e

behind_word : (left rest : List ℕ) (b : ℕ) (more : List ℕ) → rest ≡ drop (prefix_len is_sort_byte left) left → rest ≡ b ∷ more → is_sort_byte b ≡ false
behind_word left rest b more r e = stops_at left b more (sym r ∙ e)

-- the byte behind the word leads on
pub sorts_on : (k : List ℕ) (stage after : Stage) (closers closers' left word rest : List ℕ) (b : ℕ) (more : List ℕ) (total : Bool) → word ≡ take (prefix_len is_sort_byte left) left
    → rest ≡ drop (prefix_len is_sort_byte left) left → rest ≡ b ∷ more → Some (after, closers') ≡ next k stage word closers b → are_sorts k stage [] closers left ≡ total → are_sorts k after [] closers' more ≡ total
sorts_on k stage after closers closers' left word rest b more total w r e n so_far =
    ap (λ o. holds o (λ s. are_sorts k s.0 [] s.1 more)) n
    ∙ sym (steps k stage word closers b more (behind_word left rest b more r e))
    ∙ sym (ap (λ t. are_sorts k stage word closers t) e)
    ∙ sym (read_word k stage closers left word rest w r) ∙ so_far

-- the byte behind the word leads nowhere
pub sorts_stop : (k : List ℕ) (stage : Stage) (closers left word rest : List ℕ) (b : ℕ) (more : List ℕ) (total : Bool) → word ≡ take (prefix_len is_sort_byte left) left
    → rest ≡ drop (prefix_len is_sort_byte left) left → rest ≡ b ∷ more → None ≡ next k stage word closers b → are_sorts k stage [] closers left ≡ total → false ≡ total
sorts_stop k stage closers left word rest b more total w r e n so_far =
    ap (λ o. holds o (λ s. are_sorts k s.0 [] s.1 more)) n
    ∙ sym (steps k stage word closers b more (behind_word left rest b more r e))
    ∙ sym (ap (λ t. are_sorts k stage word closers t) e)
    ∙ sym (read_word k stage closers left word rest w r) ∙ so_far
