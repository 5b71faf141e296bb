-- Whether a chunk fits what is wanted: head terms and then expressions, from the left up to the first that is not proved equal, and then the share.
use Rattle.std.specs.Prelude.{Bool, true, false, cond, nat_eq, List, [], ◌∷◌, length, Option, Some, None, Result, Ok, Err}
use Rattle.vf_base.specs.declared.place.Place.{Place}
use Rattle.vf_base.specs.declared.rule.Rule.TheVariants as rules
use Rattle.vf_base.specs.declared.refusal.Refusal.{Refusal}
use Rattle.vf_meaning.specs.Fractions.{is_at_most}
use Rattle.vf_closure.specs.Literals.{Literal}
use Rattle.vf_asking.specs.Course.{Course, done, try, refusal}
use Rattle.vf_equality.specs.Equality.{equal, all_equal}
use Rattle.vf_chunk.specs.declared.share.Share.{Share}
use Rattle.vf_chunk.specs.declared.share.Ratio.{Ratio}
use Rattle.vf_chunk.specs.declared.share.Ratio.TheVariants as ratios
use Rattle.vf_chunk.specs.declared.chunk.Argument.{Argument}
use Rattle.vf_chunk.specs.declared.chunk.Argument.TheVariants.{Known, Unknown}
use Rattle.vf_chunk.specs.declared.chunk.Chunk.{Chunk}
use Rattle.vf_chunk.specs.Shares.{can_be_taken, over, ratio_of}
use Rattle.vf_take.specs.declared.wanted.Places.{Places}
use Rattle.vf_take.specs.declared.wanted.Pattern.{Pattern}
use Rattle.vf_take.specs.declared.wanted.Pattern.TheVariants as patterns
use Rattle.vf_take.specs.declared.wanted.SharePattern.{SharePattern}
use Rattle.vf_take.specs.declared.wanted.SharePattern.TheVariants as shares
use Rattle.vf_take.specs.declared.wanted.Wanted.{Wanted}
use Rattle.vf_take.specs.declared.wanted.Match.{Match}
use Rattle.vf_take.specs.declared.wanted.Match.TheVariants.{Matches, Lacks, Differs}
use Rattle.vf_take.specs.declared.wanted.Portion.{Portion}
use Rattle.vf_take.specs.declared.wanted.Portion.TheVariants.{Whole, Part}

-- ---- arguments
-- an argument against a pattern: an expression is asked equal; unknown content lacks what an expression or a name wants
unfoldable pub matches : Place → List Literal → Argument → Pattern → Course (Result Match Refusal)
matches place path (Known t) (patterns.Is u) = try (equal place path t u) (λ yes. done (Ok (cond yes Matches Differs)))
matches place path (Known t) p = done (Ok Matches)
matches place path Unknown patterns.Wild = done (Ok Matches)
matches place path Unknown p = done (Ok Lacks)

-- what is known of arguments when one more is compared
abbrev pub so_far : Bool → Match → Bool
so_far lacks Lacks = true
so_far lacks m = lacks

-- whether an argument differs
abbrev pub is_different : Match → Bool
is_different Differs = true
is_different m = false

-- arguments against patterns, one by one, from the left up to the first that differs; the flag says whether one before lacks its value
unfoldable pub all_match : Place → List Literal → Bool → List Argument → List Pattern → Course (Result Match Refusal)
all_match place path lacks [] [] = done (Ok (cond lacks Lacks Matches))
all_match place path lacks (a ∷ xs) (p ∷ ps) = try (matches place path a p) (λ m. cond (is_different m) (done (Ok Differs)) (all_match place path (so_far lacks m) xs ps))
all_match place path lacks _ _ = done (Ok Differs)

-- ---- shares
-- the part of a share that a smaller or equal one takes: all of it, or the fraction
abbrev pub portion_of : Share → Share → Portion
portion_of wanted share = cond (is_at_most share.coefficient wanted.coefficient) (Whole None) (Part wanted.coefficient)

-- what `?f` takes of a share: all of it, f being the share over the scale; a fraction without form is refused (rule 44)
abbrev pub named_portion : Place → Ratio → Result (Option Portion) Refusal
named_portion place (ratios.Share f) = Ok (Some (Whole (Some f)))
named_portion place ratios.NoForm = Err (refusal rules.Fraction place)
named_portion place ratios.NoShare = Ok None

-- what is taken of a share, if it fits
abbrev pub portion : Place → SharePattern → Share → Result (Option Portion) Refusal
portion place (shares.Is wanted) share = Ok (cond (can_be_taken wanted share) (Some (portion_of wanted share)) None)
portion place (shares.Name scale) share = named_portion place (ratio_of (over share scale))

-- a chunk whose share fits is refused where its content lacks a value (rule 23)
abbrev pub known : Place → Match → Option Portion → Result (Option Portion) Refusal
known place m None = Ok None
known place Lacks (Some p) = Err (refusal rules.Unset place)
known place m (Some p) = Ok (Some p)

-- the same of a share that may be refused
abbrev pub known_of : Place → Match → Result (Option Portion) Refusal → Result (Option Portion) Refusal
known_of place m (Ok p) = known place m p
known_of place m (Err e) = Err e

-- what follows where the arguments are compared: what is taken of the share, if it fits
abbrev pub shared : Places → Match → SharePattern → Share → Result (Option Portion) Refusal
shared places Differs wanted share = Ok None
shared places m wanted share = known_of places.part m (portion places.statement wanted share)

-- ---- chunks
-- what follows where the head terms are compared
unfoldable pub suits : Places → List Literal → Wanted → Chunk → Bool → Course (Result (Option Portion) Refusal)
suits places path w c false = done (Ok None)
suits places path w c true = try (all_match places.statement path false c.arguments w.patterns) (λ m. done (shared places m w.share c.share))

-- a chunk of the wanted head, and what is taken of it where it fits; with another number of arguments it does not
unfoldable pub tries : Places → List Literal → Wanted → Chunk → Course (Result (Option Portion) Refusal)
tries places path w c = cond (nat_eq (length c.arguments) (length w.patterns)) (try (all_equal places.statement path c.head.terms w.head.terms) (suits places path w c)) (done (Ok None))
