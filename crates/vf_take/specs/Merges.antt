-- Merging chunks of one location, where no chunk alone fits.
use Rattle.std.specs.Prelude.{ℕ, zero, suc, Bool, true, false, cond, ◌&&◌, List, [], ◌∷◌, ◌++◌, length, drop, Option, Some, None, Result, Ok, Err, slice_get}
use Rattle.vf_base.specs.declared.place.Place.{Place}
use Rattle.vf_base.specs.declared.rule.Rule.TheVariants as rules
use Rattle.vf_base.specs.declared.refusal.Refusal.{Refusal}
use Rattle.vf_meaning.specs.Fractions.{sum}
use Rattle.vf_closure.specs.Terms.{Term}
use Rattle.vf_closure.specs.Literals.{Literal}
use Rattle.vf_fractions.specs.Kept.{has_form}
use Rattle.vf_asking.specs.Course.{Course, done, try, refusal}
use Rattle.vf_equality.specs.Equality.{equal, learned}
use Rattle.vf_chunk.specs.declared.chunk.Argument.{Argument}
use Rattle.vf_chunk.specs.declared.chunk.Argument.TheVariants.{Known}
use Rattle.vf_chunk.specs.declared.chunk.Chunk.{Chunk}
use Rattle.vf_chunk.specs.Shares.{are_of_one_product}
use Rattle.vf_chunk.specs.Heads.{is_one_name, is_bare, is_primitive, is_of_rows}
use Rattle.vf_chunk.specs.Chunks.{merged}
use Rattle.vf_take.specs.declared.wanted.Places.{Places}
use Rattle.vf_take.specs.declared.wanted.Pattern.{Pattern}
use Rattle.vf_take.specs.declared.wanted.Pattern.TheVariants as patterns
use Rattle.vf_take.specs.declared.wanted.Portion.{Portion}
use Rattle.vf_take.specs.declared.wanted.Wanted.{Wanted}
use Rattle.vf_take.specs.declared.wanted.Found.{Found}
use Rattle.vf_take.specs.declared.wanted.Taken.{Taken}
use Rattle.vf_take.specs.declared.wanted.Gathered.{Gathered}
use Rattle.vf_take.specs.declared.wanted.Attempt.{Attempt}
use Rattle.vf_take.specs.Usable.{known_at}
use Rattle.vf_take.specs.Fits.{tries}
use Rattle.vf_take.specs.Takes.{finds, taken_at, beside}

-- ---- which chunks are merged
-- whether two terms are there and equal
unfoldable pub arguments_equal : Place → List Literal → Option Term → Option Term → Course (Result Bool Refusal)
arguments_equal place path (Some t) (Some u) = equal place path t u
arguments_equal place path a b = done (Ok false)

-- whether two chunks may be of one location: of one head without head terms, and their shares of one product
abbrev pub may_join : Chunk → Chunk → Bool
may_join older younger = is_one_name younger.head.name older.head.name && (is_bare older.head && (is_bare younger.head && are_of_one_product younger.share older.share))

-- what follows where the first arguments are compared: for rows of int cells the lengths have to be equal too
unfoldable pub rows_join : Place → List Literal → Chunk → Chunk → Bool → Course (Result Bool Refusal)
rows_join place path older younger false = done (Ok false)
rows_join place path older younger true = cond (is_of_rows older.head.name) (arguments_equal place path (known_at younger.arguments 1) (known_at older.arguments 1)) (done (Ok true))

-- whether an older chunk takes in a younger one
unfoldable pub joins : Place → List Literal → Chunk → Chunk → Course (Result Bool Refusal)
joins place path older younger = cond (may_join older younger) (try (arguments_equal place path (known_at younger.arguments 0) (known_at older.arguments 0)) (rows_join place path older younger)) (done (Ok false))

-- ---- what a merge tells
-- that two arguments are equal, where both are known
unfoldable pub learns_one : Place → List Literal → Argument → Argument → Course (Result (List Literal) Refusal)
learns_one place path (Known t) (Known u) = learned place path t u
learns_one place path a b = done (Ok path)

-- that arguments are equal one by one, where both are known
unfoldable pub learns : Place → List Literal → List Argument → List Argument → Course (Result (List Literal) Refusal)
learns place path (a ∷ xs) (b ∷ ys) = try (learns_one place path a b) (λ more. learns place more xs ys)
learns place path _ _ = done (Ok path)

-- two chunks merged, where the sum of their fractions has a form (rule 44)
abbrev pub merged_by : Place → Chunk → Chunk → Result Chunk Refusal
merged_by statement older younger = cond (has_form (sum older.share.coefficient younger.share.coefficient)) (Ok (merged older younger)) (Err (refusal rules.Fraction statement))

-- a chunk, and the facts that are known then
abbrev pub with_path : List Literal → Result Chunk Refusal → Result (Chunk × List Literal) Refusal
with_path path (Ok c) = Ok (c, path)
with_path path (Err e) = Err e

-- an older chunk takes in a younger one: the arguments behind the first are known to be equal from then on
unfoldable pub merges : Places → List Literal → Chunk → Chunk → Course (Result (Chunk × List Literal) Refusal)
merges places path older younger = try (learns places.name path (drop 1 older.arguments) (drop 1 younger.arguments)) (λ more. done (with_path more (merged_by places.statement older younger)))

-- what follows where a younger chunk is compared: it is taken in, or stays behind those that stay
unfoldable pub gathers_if : Places → List Literal → Gathered → Chunk → Bool → Course (Result (Gathered × List Literal) Refusal)
gathers_if places path g d true = try (merges places path g.chunk d) (λ m. done (Ok (record { chunk = m.0; stay = g.stay; has_merged = true }, m.1)))
gathers_if places path g d false = done (Ok (record { chunk = g.chunk; stay = g.stay ++ d ∷ []; has_merged = g.has_merged }, path))

-- an older chunk takes in a younger one if it joins it
unfoldable pub gathers_one : Places → List Literal → Gathered → Chunk → Course (Result (Gathered × List Literal) Refusal)
gathers_one places path g d = try (joins places.statement path g.chunk d) (gathers_if places path g d)

-- an older chunk takes in each younger one that it joins, one after another; those that stay keep their order
unfoldable pub gathers : Places → List Literal → Gathered → List Chunk → Course (Result (Gathered × List Literal) Refusal)
gathers places path g [] = done (Ok (g, path))
gathers places path g (d ∷ ds) = try (gathers_one places path g d) (λ h. gathers places h.1 h.0 ds)

-- ---- which chunk takes in others
-- whether a chunk's first argument is as wanted: an expression is asked equal, a name or `_` is met by every known one
unfoldable pub begins : Place → List Literal → Option Term → Option Pattern → Course (Result Bool Refusal)
begins place path (Some t) (Some (patterns.Is u)) = equal place path t u
begins place path (Some t) (Some p) = done (Ok true)
begins place path a p = done (Ok false)

-- whether a chunk takes in others: it is of the wanted head, and its first argument is as wanted
unfoldable pub starts : Place → List Literal → Wanted → Chunk → Course (Result Bool Refusal)
starts place path w c = cond (is_one_name c.head.name w.head.name) (begins place path (known_at c.arguments 0) (slice_get w.patterns 0)) (done (Ok false))

-- a chunk that takes in none yet
abbrev pub alone : Chunk → Gathered
alone c = record { chunk = c; stay = []; has_merged = false }

-- a chunk that took in others is tried
unfoldable pub tries_gathered : Places → Wanted → Gathered × List Literal → Course (Result (Attempt × List Literal) Refusal)
tries_gathered places w g = cond g.0.has_merged (try (tries places g.1 w g.0.chunk) (λ p. done (Ok (record { gathered = g.0; portion = p }, g.1)))) (done (Ok (record { gathered = g.0; portion = None }, g.1)))

-- what follows where it is known whether a chunk takes in others
unfoldable pub attempts_if : Places → List Literal → Wanted → Chunk → List Chunk → Bool → Course (Result (Attempt × List Literal) Refusal)
attempts_if places path w c cs true = try (gathers places path (alone c) cs) (tries_gathered places w)
attempts_if places path w c cs false = done (Ok (record { gathered = record { chunk = c; stay = cs; has_merged = false }; portion = None }, path))

-- a chunk with younger ones: what it becomes, and what is taken of it where it took in any and fits
unfoldable pub attempts : Places → List Literal → Wanted → Chunk → List Chunk → Course (Result (Attempt × List Literal) Refusal)
attempts places path w c cs = try (starts places.statement path w c) (attempts_if places path w c cs)

-- what follows an attempt behind chunks that fit no more
abbrev pub settled : Places → List Chunk → Attempt → List Literal → Option Portion → Course (Result (Taken × List Literal) Refusal) → Course (Result (Taken × List Literal) Refusal)
settled places before a path (Some p) later = done (beside path (taken_at places (before ++ a.gathered.chunk ∷ a.gathered.stay) (length before) p (slice_get (before ++ a.gathered.chunk ∷ a.gathered.stay) (length before))))
settled places before a path None later = later

-- The chunks take in younger ones, the oldest first, and each that took in any is tried, at most as many as a number says; those before them did so already. Where none fits it is rule 22
unfoldable pub merging : ℕ → Places → List Literal → Wanted → List Chunk → List Chunk → Course (Result (Taken × List Literal) Refusal)
merging zero places path w before cs = done (Err (refusal rules.NoChunk places.part))
merging (suc n) places path w before [] = done (Err (refusal rules.NoChunk places.part))
merging (suc n) places path w before (c ∷ cs) = try (attempts places path w c cs) (λ a. settled places before a.0 a.1 a.0.portion (merging n places a.1 w (before ++ a.0.gathered.chunk ∷ []) a.0.gathered.stay))

-- what follows where no chunk alone fits: chunks of a primitive head are merged
abbrev pub taken_or_merged : Places → List Literal → Wanted → List Chunk → Option Found → Course (Result (Taken × List Literal) Refusal)
taken_or_merged places path w cs (Some f) = done (beside path (taken_at places cs f.at f.portion (slice_get cs f.at)))
taken_or_merged places path w cs None = cond (is_primitive w.head.name) (merging (length cs) places path w [] cs) (done (Err (refusal rules.NoChunk places.part)))

-- Take: the oldest chunk that fits, alone or with others that are merged with it
unfoldable pub takes : Places → List Literal → Wanted → List Chunk → Course (Result (Taken × List Literal) Refusal)
takes places path w cs = try (finds places path w cs 0) (taken_or_merged places path w cs)
