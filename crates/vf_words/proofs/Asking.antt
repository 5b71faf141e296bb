-- What words ask for, by their name and their positional words.
use Rattle.std.proofs.Common.{◌≡◌, ◌∙◌, refl, sym, ap, subst, ℕ, suc, ◌+◌, List, [], ◌∷◌, length, Some, None, IsUtf8, arith}
use Rattle.std.specs.List.{All}
use Rattle.std.specs.Borrow.{Bor}
use Rattle.vf_words.specs.declared.command.Name.{Name}
use Rattle.vf_words.specs.declared.command.Name.TheVariants as names
use Rattle.vf_words.specs.declared.command.Command.{Command}
use Rattle.vf_words.specs.declared.command.Command.TheVariants.{Run, Try, Trace, Link, Upgrade}
use Rattle.vf_words.specs.Positionals.{positionals, texts}
use Rattle.vf_words.specs.Words.{AskNothing, Gives, IsLink, IsManifestPath, IsSourcePath}
use Rattle.vf_words.specs.Given.{Fits, FitsNone, text_of}
use Rattle.vf_words.specs.Commands.{Asks}
use Rattle.vf_words.proofs.Alone.{same_given, same_name}
use Rattle.vf_words.proofs.Suiting.{words_all}

-- the words have this name, and these positional words
pub gives : (words behind : List (Bor (List ℕ))) (word : Bor (List ℕ)) (name : List ℕ) (given : List (List ℕ)) → words ≡ word ∷ behind → word.now ≡ name → positionals (texts behind) ≡ Some given → Gives name (texts words) given
gives words behind word name given are named is = record { behind = texts behind; words_are = ap texts are ∙ ap (λ w. w ∷ texts behind) named; positional = is }

-- a command that has these is asked for
pub asks : (words given : List (List ℕ)) (name : Name) (command : Command) → Gives (text_of name) words given → Fits name given command → Asks words command
asks words given names.Run (Run r) g h = (record { word = r.word.now; gives = subst (Gives (text_of names.Run) words) h.are g; source = h.source; file_is = refl }, h.source)
asks words given names.Try (Try r) g h =
    (record { given = texts r.words.items; gives = subst (Gives (text_of names.Try) words) h.are g; some = h.some; sources = h.sources; files_are = refl }, words_all IsSourcePath r.words.items h.sources)
asks words given names.Trace (Trace r) g h =
    (record { given = texts r.words.items; gives = subst (Gives (text_of names.Trace) words) h.are g; some = h.some; sources = h.sources; files_are = refl }, words_all IsSourcePath r.words.items h.sources)
asks words given names.Link (Link ms) g h = subst (IsLink words) h.1 (record { gives = g; some = h.0.some; paths = h.0.paths })
asks words given names.Upgrade (Upgrade m) g h = record { gives = subst (Gives (text_of names.Upgrade) words) h.are g; path = h.path }
asks words given names.Run (Try r) g h = absurd h
asks words given names.Run (Trace r) g h = absurd h
asks words given names.Run (Link ms) g h = absurd h
asks words given names.Run (Upgrade m) g h = absurd h
asks words given names.Try (Run r) g h = absurd h
asks words given names.Try (Trace r) g h = absurd h
asks words given names.Try (Link ms) g h = absurd h
asks words given names.Try (Upgrade m) g h = absurd h
asks words given names.Trace (Run r) g h = absurd h
asks words given names.Trace (Try r) g h = absurd h
asks words given names.Trace (Link ms) g h = absurd h
asks words given names.Trace (Upgrade m) g h = absurd h
asks words given names.Link (Run r) g h = absurd h
asks words given names.Link (Try r) g h = absurd h
asks words given names.Link (Trace r) g h = absurd h
asks words given names.Link (Upgrade m) g h = absurd h
asks words given names.Upgrade (Run r) g h = absurd h
asks words given names.Upgrade (Try r) g h = absurd h
asks words given names.Upgrade (Trace r) g h = absurd h
asks words given names.Upgrade (Link ms) g h = absurd h

-- how many bytes a name has, with the number of its first: other names have other numbers
abbrev weight : List ℕ → ℕ
weight [] = 0
weight (b ∷ bs) = length (b ∷ bs) + b

-- words ask for nothing where no command of their name fits
module _ (words given : List (List ℕ)) (name : Name) (g : Gives (text_of name) words given) where
  of_name : (n : Name) (xs : List (List ℕ)) → Gives (text_of n) words xs → (n ≡ name) × (given ≡ xs)
  of_name n xs p = (one n name (same_name (text_of n) (text_of name) words xs given p g), same_given (text_of name) (text_of n) words given xs g p)
    where
      one : (n m : Name) → text_of n ≡ text_of m → n ≡ m
      one names.Run names.Run e = refl
      one names.Run names.Try e = let same : 117 ≡ 119 = ap weight e in absurd (omega (arith, same))
      one names.Run names.Trace e = let same : 117 ≡ 121 = ap weight e in absurd (omega (arith, same))
      one names.Run names.Link e = let same : 117 ≡ 112 = ap weight e in absurd (omega (arith, same))
      one names.Run names.Upgrade e = let same : 117 ≡ 124 = ap weight e in absurd (omega (arith, same))
      one names.Try names.Run e = let same : 119 ≡ 117 = ap weight e in absurd (omega (arith, same))
      one names.Try names.Try e = refl
      one names.Try names.Trace e = let same : 119 ≡ 121 = ap weight e in absurd (omega (arith, same))
      one names.Try names.Link e = let same : 119 ≡ 112 = ap weight e in absurd (omega (arith, same))
      one names.Try names.Upgrade e = let same : 119 ≡ 124 = ap weight e in absurd (omega (arith, same))
      one names.Trace names.Run e = let same : 121 ≡ 117 = ap weight e in absurd (omega (arith, same))
      one names.Trace names.Try e = let same : 121 ≡ 119 = ap weight e in absurd (omega (arith, same))
      one names.Trace names.Trace e = refl
      one names.Trace names.Link e = let same : 121 ≡ 112 = ap weight e in absurd (omega (arith, same))
      one names.Trace names.Upgrade e = let same : 121 ≡ 124 = ap weight e in absurd (omega (arith, same))
      one names.Link names.Run e = let same : 112 ≡ 117 = ap weight e in absurd (omega (arith, same))
      one names.Link names.Try e = let same : 112 ≡ 119 = ap weight e in absurd (omega (arith, same))
      one names.Link names.Trace e = let same : 112 ≡ 121 = ap weight e in absurd (omega (arith, same))
      one names.Link names.Link e = refl
      one names.Link names.Upgrade e = let same : 112 ≡ 124 = ap weight e in absurd (omega (arith, same))
      one names.Upgrade names.Run e = let same : 124 ≡ 117 = ap weight e in absurd (omega (arith, same))
      one names.Upgrade names.Try e = let same : 124 ≡ 119 = ap weight e in absurd (omega (arith, same))
      one names.Upgrade names.Trace e = let same : 124 ≡ 121 = ap weight e in absurd (omega (arith, same))
      one names.Upgrade names.Link e = let same : 124 ≡ 112 = ap weight e in absurd (omega (arith, same))
      one names.Upgrade names.Upgrade e = refl

  pub asks_nothing : FitsNone name given → AskNothing words
  asks_nothing none = record {
    run = λ s f p. let o = of_name names.Run (s ∷ p.word ∷ []) p.gives in subst (λ n. FitsNone n given) (sym o.0) none s p.word (record { are = o.1; source = p.source });
    try = λ s fs p. let o = of_name names.Try (s ∷ p.given) p.gives in subst (λ n. FitsNone n given) (sym o.0) none s p.given (record { are = o.1; some = p.some; sources = p.sources });
    trace = λ s fs p. let o = of_name names.Trace (s ∷ p.given) p.gives in subst (λ n. FitsNone n given) (sym o.0) none s p.given (record { are = o.1; some = p.some; sources = p.sources });
    link = λ ms p. let o = of_name names.Link ms p.gives in subst (λ n. FitsNone n given) (sym o.0) none (record { some = λ e. p.some (sym o.1 ∙ e); paths = subst (All IsManifestPath) (sym o.1) p.paths });
    upgrade = λ m p. let o = of_name names.Upgrade (m ∷ []) p.gives in subst (λ n. FitsNone n given) (sym o.0) none m (record { are = o.1; path = p.path });
  }

-- words of no name, words that begin with no command's name, and words among which an option is asked for
pub no_words : (words : List (List ℕ)) → ((name : Name) (given : List (List ℕ)) → Gives (text_of name) words given → ⊥) → AskNothing words
no_words words never = record {
  run = λ s f p. never names.Run (s ∷ p.word ∷ []) p.gives;
  try = λ s fs p. never names.Try (s ∷ p.given) p.gives;
  trace = λ s fs p. never names.Trace (s ∷ p.given) p.gives;
  link = λ ms p. never names.Link ms p.gives;
  upgrade = λ m p. never names.Upgrade (m ∷ []) p.gives;
}

pub none_at_all : (words : List (Bor (List ℕ))) → length words ≡ 0 → AskNothing (texts words)
none_at_all [] e = no_words [] (λ name given g. let no : [] ≡ text_of name ∷ g.behind = g.words_are in absurd cc)
none_at_all (w ∷ ws) e = absurd (omega (arith, e))

pub no_name : (words behind : List (Bor (List ℕ))) (word : Bor (List ℕ)) → words ≡ word ∷ behind → ((n : Name) → word.now ≡ text_of n → ⊥) → AskNothing (texts words)
no_name words behind word are never = no_words (texts words) (λ name given g. never name (let both : word.now ∷ texts behind ≡ text_of name ∷ g.behind = sym (ap texts are) ∙ g.words_are in cc))

pub no_positionals : (words behind : List (Bor (List ℕ))) (word : Bor (List ℕ)) → words ≡ word ∷ behind → positionals (texts behind) ≡ None → AskNothing (texts words)
no_positionals words behind word are none = no_words (texts words) (λ name given g.
    let both : word.now ∷ texts behind ≡ text_of name ∷ g.behind = sym (ap texts are) ∙ g.words_are in
    let same : texts behind ≡ g.behind = cc in
    let no : None ≡ Some given = sym none ∙ ap positionals same ∙ g.positional in absurd cc)

-- words behind the first are text as well
pub behind_is_text : (words behind : List (Bor (List ℕ))) (word : Bor (List ℕ)) → words ≡ word ∷ behind → All (λ w. IsUtf8 w.now) words → All (λ w. IsUtf8 w.now) behind
behind_is_text words behind word are all = let whole : All (λ w. IsUtf8 w.now) (word ∷ behind) = subst (All (λ w. IsUtf8 w.now)) are all in λ k x low. whole (suc k) x (omega (arith, low))
