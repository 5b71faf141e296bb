-- How much is left to do of a walk: a number that falls with each of its steps.
use Rattle.std.specs.Prelude.{◌<◌, ◌≤◌, ℕ, zero, suc, ◌+◌, ◌*◌, ◌-◌, List, [], ◌∷◌, length, map, reverse}
use Rattle.vf_expand.specs.declared.frames.Open.{Open}
use Rattle.vf_expand.specs.declared.frames.Line.{Line}
use Rattle.vf_expand.specs.declared.frames.Line.TheVariants as lines
use Rattle.vf_expand.specs.declared.frames.Waiting.{Waiting}
use Rattle.vf_expand.specs.declared.state.Walk.{Walk}
use Rattle.vf_expand.specs.declared.state.Next.{Next}
use Rattle.vf_expand.specs.declared.state.Next.TheVariants as nexts

-- how many tokens are left of a file
abbrev pub left_of : Open → ℕ
left_of o = length o.tokens - o.at

-- how many tokens are left of each file that waits, the innermost first
abbrev pub lefts_of : List Waiting → List ℕ
lefts_of stack = map (λ (w : Waiting). left_of w.file) (reverse stack)

-- what a token weighs where so many includes may still stand within one another: more than all tokens of one file that it may include
unfoldable pub token_weight : ℕ → ℕ
token_weight zero = 1
token_weight (suc room) = 18446744073709551617 * token_weight room

-- what files weigh, innermost first, by the tokens that are left of each; the end of a file weighs as much as a token
abbrev pub weight_of : List ℕ → ℕ
weight_of [] = 0
weight_of (n ∷ ns) = (n + 1) * token_weight (32 - length ns) + weight_of ns

-- what is left of a walk
abbrev pub weight : Walk → ℕ
weight w = weight_of (left_of w.current ∷ lefts_of w.stack.items)

-- what is left of a walk whose innermost file has one token more
abbrev pub weight_before : Walk → ℕ
weight_before w = weight_of (suc (left_of w.current) ∷ lefts_of w.stack.items)

-- a line that was followed is left behind, and at a file's end nothing comes back
abbrev pub LineFalls : ℕ → ℕ → Line → Type 0
LineFalls old new lines.End = new ≤ old
LineFalls old new lines.Done = new < old
LineFalls old new (lines.Include i) = new < old

-- less is left of a walk that goes on
abbrev pub NextFalls : ℕ → Next → Type 0
NextFalls old (nexts.Goes w) = weight w < old
NextFalls old (nexts.Ends unit) = Unit {0}
