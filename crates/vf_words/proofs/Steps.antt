-- One word more, as clap reads it.
use Rattle.std.proofs.Common.{◌≡◌, refl, ℕ, Bool, true, false, List, [], ◌∷◌, ◌++◌, Option, Some, None, codes, chars, bytes_eq}
use Rattle.std.specs.Option.{unwrap_or}
use Rattle.clap.specs.Lexer.{long_of, short_of}
use Rattle.clap.specs.Walk.{Held, Rule, Text, Waiting, Walk, idle, positional, walked}
use Rattle.clap.specs.Simple.{Shape, built, filled, with_index}
use Rattle.clap.specs.Kinds.{Kinds}
use Rattle.clap.specs.Faults.{flags_fault, turn_fault}
use Rattle.clap.specs.declared.error.kind.ErrorKind.TheVariants as kind
use Rattle.vf_words.specs.Reader.{reader, words_rule}

-- the one argument, as it is built
abbrev pub rule : Rule
rule = with_index 1 (filled words_rule)

abbrev pub rules : List Rule
rules = rule ∷ []

-- the command of a name, as it is built
abbrev pub shape : Text → Shape
shape name = (built (reader name)).top

-- the words that were taken so far, if any
abbrev pub Taken : Type 0
Taken = Option (List Text)

abbrev pub pended : Taken → Option (Text × List Text)
pended None = None
pended (Some vs) = Some (codes "words", vs)

abbrev pub holds : Taken → Held
holds q = record { rows = []; pending = pended q; skip = 0 }

-- what takes the next word
abbrev pub state : Bool → Waiting
state true = positional
state false = idle

-- between two words: whether a word was taken, whether "--" was met, and what was taken
abbrev pub between : Bool → Bool → Taken → Walk
between some trailing q = record { held = holds q; waiting = state some; position = 1; is_trailing = trailing; stopped = None }

-- one word more
abbrev pub more : Taken → Text → Taken
more q w = Some (unwrap_or q [] ++ w ∷ [])

pub walked_trailing : (b : Bool) (q : Taken) (w : Text) → walked rules [] (between b true q) w ≡ between true true (more q w)
unfolding walked
walked_trailing b None w = refl
walked_trailing b (Some vs) w = refl

pub walked_end : (b : Bool) (q : Taken) (w : Text) → bytes_eq w (codes "--") ≡ true → walked rules [] (between b false q) w ≡ between b true q
unfolding walked
walked_end true q w is = rw is refl
walked_end false q w is = rw is refl

pub walked_plain : (b : Bool) (q : Taken) (w : Text) → bytes_eq w (codes "--") ≡ false → long_of w ≡ None → short_of w ≡ None → walked rules [] (between b false q) w ≡ between true false (more q w)
unfolding walked
walked_plain true None w no_end no_long no_short = rw (no_end, no_long, no_short) refl
walked_plain true (Some vs) w no_end no_long no_short = rw (no_end, no_long, no_short) refl
walked_plain false None w no_end no_long no_short = rw (no_end, no_long, no_short) refl
walked_plain false (Some vs) w no_end no_long no_short = rw (no_end, no_long, no_short) refl

-- what clap says of one word
pub turn_trailing : (name : Text) (b : Bool) (q : Taken) (w : Text) → turn_fault (shape name) [] (between b true q) w ≡ []
turn_trailing name b None w = refl
turn_trailing name b (Some vs) w = refl

pub turn_end : (name : Text) (b : Bool) (q : Taken) (w : Text) → bytes_eq w (codes "--") ≡ true → turn_fault (shape name) [] (between b false q) w ≡ []
turn_end name true q w is = rw is refl
turn_end name false q w is = rw is refl

pub turn_plain : (name : Text) (b : Bool) (q : Taken) (w : Text) → bytes_eq w (codes "--") ≡ false → long_of w ≡ None → short_of w ≡ None → turn_fault (shape name) [] (between b false q) w ≡ []
turn_plain name true None w no_end no_long no_short = rw (no_end, no_long, no_short) refl
turn_plain name true (Some vs) w no_end no_long no_short = rw (no_end, no_long, no_short) refl
turn_plain name false None w no_end no_long no_short = rw (no_end, no_long, no_short) refl
turn_plain name false (Some vs) w no_end no_long no_short = rw (no_end, no_long, no_short) refl

abbrev pub unknown : Kinds
unknown = kind.UnknownArgument ∷ []

pub turn_long : (name : Text) (b : Bool) (q : Taken) (w : Text) (p : Text × Option Text) → bytes_eq w (codes "--") ≡ false → long_of w ≡ Some p → turn_fault (shape name) [] (between b false q) w ≡ unknown
turn_long name true q w p no_end long = rw (no_end, long) refl
turn_long name false q w p no_end long = rw (no_end, long) refl

pub turn_short : (name : Text) (b : Bool) (q : Taken) (w : Text) (x : ℕ) (xs cs : List ℕ) (c : ℕ) → bytes_eq w (codes "--") ≡ false → long_of w ≡ None → short_of w ≡ Some (x ∷ xs) → chars (x ∷ xs) ≡ c ∷ cs → turn_fault (shape name) [] (between b false q) w ≡ unknown
unfolding flags_fault
turn_short name true q w x xs cs c no_end no_long short spelt = rw (no_end, no_long, short, spelt) refl
turn_short name false q w x xs cs c no_end no_long short spelt = rw (no_end, no_long, short, spelt) refl
