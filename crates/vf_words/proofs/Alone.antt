-- Words ask for one command, and for one thing of it.
use Rattle.std.proofs.Common.{◌≡◌, ◌∙◌, sym, ap, ℕ, List, [], ◌∷◌, length, Some, codes, arith}
use Rattle.vf_snapshot.specs.Paths.{normal}
use Rattle.vf_words.specs.Positionals.{positionals}
use Rattle.vf_words.specs.Words.{Gives, IsRun, IsTry, IsTrace, IsLink, IsUpgrade}

-- the first word of a list, and those behind it
abbrev first : List (List ℕ) → List ℕ
first [] = []
first (w ∷ ws) = w

abbrev others : List (List ℕ) → List (List ℕ)
others [] = []
others (w ∷ ws) = ws

-- how many bytes a word has, and its first byte
abbrev byte : List ℕ → ℕ
byte [] = 0
byte (b ∷ bs) = b

-- the name of words
pub same_name : (n m : List ℕ) (words xs ys : List (List ℕ)) → Gives n words xs → Gives m words ys → n ≡ m
same_name n m words xs ys p q = ap first (sym p.words_are ∙ q.words_are)

-- the positional words of words
pub same_given : (n m : List ℕ) (words xs ys : List (List ℕ)) → Gives n words xs → Gives m words ys → xs ≡ ys
same_given n m words xs ys p q =
    let behind : p.behind ≡ q.behind = ap others (sym p.words_are ∙ q.words_are) in
    let both : Some xs ≡ Some ys = sym p.positional ∙ ap positionals behind ∙ q.positional in cc

-- names of other lengths, and with other first bytes, are other names
other_length : (n m : List ℕ) (words xs ys : List (List ℕ)) → (length n ≡ length m → ⊥) → Gives n words xs → Gives m words ys → ⊥
other_length n m words xs ys other p q = other (ap length (same_name n m words xs ys p q))

other_byte : (n m : List ℕ) (words xs ys : List (List ℕ)) → (byte n ≡ byte m → ⊥) → Gives n words xs → Gives m words ys → ⊥
other_byte n m words xs ys other p q = other (ap byte (same_name n m words xs ys p q))

-- words are a run of one schedule and one file
pub one_schedule : (words : List (List ℕ)) (s f s2 f2 : List ℕ) → IsRun words s f → IsRun words s2 f2 → s ≡ s2
one_schedule words s f s2 f2 p q = ap first (same_given (codes "run") (codes "run") words (s ∷ p.word ∷ []) (s2 ∷ q.word ∷ []) p.gives q.gives)

one_word : (words : List (List ℕ)) (s f s2 f2 : List ℕ) (p : IsRun words s f) (q : IsRun words s2 f2) → p.word ≡ q.word
one_word words s f s2 f2 p q = ap (λ ws. first (others ws)) (same_given (codes "run") (codes "run") words (s ∷ p.word ∷ []) (s2 ∷ q.word ∷ []) p.gives q.gives)

pub one_file : (words : List (List ℕ)) (s f s2 f2 : List ℕ) → IsRun words s f → IsRun words s2 f2 → f ≡ f2
one_file words s f s2 f2 p q = p.file_is ∙ ap (normal []) (one_word words s f s2 f2 p q) ∙ sym q.file_is

pub run_is_no_try : (words : List (List ℕ)) (s f s2 : List ℕ) (fs : List (List ℕ)) → IsRun words s f → IsTry words s2 fs → ⊥
run_is_no_try words s f s2 fs p q = other_byte (codes "run") (codes "try") words (s ∷ p.word ∷ []) (s2 ∷ q.given) (λ e. omega (arith, e)) p.gives q.gives

pub run_is_no_trace : (words : List (List ℕ)) (s f s2 : List ℕ) (fs : List (List ℕ)) → IsRun words s f → IsTrace words s2 fs → ⊥
run_is_no_trace words s f s2 fs p q = other_length (codes "run") (codes "trace") words (s ∷ p.word ∷ []) (s2 ∷ q.given) (λ e. omega (arith, e)) p.gives q.gives

pub run_is_no_link : (words : List (List ℕ)) (s f : List ℕ) (ms : List (List ℕ)) → IsRun words s f → IsLink words ms → ⊥
run_is_no_link words s f ms p q = other_length (codes "run") (codes "link") words (s ∷ p.word ∷ []) ms (λ e. omega (arith, e)) p.gives q.gives

pub run_is_no_upgrade : (words : List (List ℕ)) (s f m : List ℕ) → IsRun words s f → IsUpgrade words m → ⊥
run_is_no_upgrade words s f m p q = other_length (codes "run") (codes "upgrade") words (s ∷ p.word ∷ []) (m ∷ []) (λ e. omega (arith, e)) p.gives q.gives

pub upgrade_is_no_try : (words : List (List ℕ)) (m s : List ℕ) (fs : List (List ℕ)) → IsUpgrade words m → IsTry words s fs → ⊥
upgrade_is_no_try words m s fs p q = other_length (codes "upgrade") (codes "try") words (m ∷ []) (s ∷ q.given) (λ e. omega (arith, e)) p.gives q.gives

pub upgrade_is_no_trace : (words : List (List ℕ)) (m s : List ℕ) (fs : List (List ℕ)) → IsUpgrade words m → IsTrace words s fs → ⊥
upgrade_is_no_trace words m s fs p q = other_length (codes "upgrade") (codes "trace") words (m ∷ []) (s ∷ q.given) (λ e. omega (arith, e)) p.gives q.gives

pub upgrade_is_no_link : (words : List (List ℕ)) (m : List ℕ) (ms : List (List ℕ)) → IsUpgrade words m → IsLink words ms → ⊥
upgrade_is_no_link words m ms p q = other_length (codes "upgrade") (codes "link") words (m ∷ []) ms (λ e. omega (arith, e)) p.gives q.gives

-- one manifest is written again
pub one_manifest : (words : List (List ℕ)) (m n : List ℕ) → IsUpgrade words m → IsUpgrade words n → m ≡ n
one_manifest words m n p q = ap first (same_given (codes "upgrade") (codes "upgrade") words (m ∷ []) (n ∷ []) p.gives q.gives)
