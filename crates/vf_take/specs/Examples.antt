-- Take and reading in examples: a cell of one field at one pointer.
use Rattle.std.specs.Prelude.{◌≡◌, List, [], ◌∷◌, ◌++◌, Some, None, Ok, Err, codes}
use Rattle.vf_base.specs.declared.rule.Rule.TheVariants as rules
use Rattle.vf_model.specs.Values.{Dyadic, Odd}
use Rattle.vf_meaning.specs.Fractions.{whole}
use Rattle.vf_meaning.specs.Ghost.{Numbered}
use Rattle.vf_closure.specs.Terms.{Integer, Other, Symbol, Term, term, no_terms}
use Rattle.vf_closure.specs.Literals.{Literal}
use Rattle.vf_asking.specs.Course.{push, done, refusal}
use Rattle.vf_equality.specs.Equality.{equality}
use Rattle.vf_chunk.specs.declared.share.Share.{Share}
use Rattle.vf_chunk.specs.declared.head.HeadName.TheVariants.{Cell}
use Rattle.vf_chunk.specs.declared.head.Head.{Head}
use Rattle.vf_chunk.specs.declared.chunk.Argument.{Argument}
use Rattle.vf_chunk.specs.declared.chunk.Argument.TheVariants.{Known, Unknown}
use Rattle.vf_chunk.specs.declared.chunk.Origin.TheVariants as origins
use Rattle.vf_chunk.specs.declared.chunk.Chunk.{Chunk}
use Rattle.vf_take.specs.declared.wanted.Places.{Places}
use Rattle.vf_take.specs.declared.wanted.Pattern.{Pattern}
use Rattle.vf_take.specs.declared.wanted.Pattern.TheVariants as patterns
use Rattle.vf_take.specs.declared.wanted.SharePattern.{SharePattern}
use Rattle.vf_take.specs.declared.wanted.SharePattern.TheVariants as shares
use Rattle.vf_take.specs.declared.wanted.Wanted.{Wanted}
use Rattle.vf_take.specs.Merges.{takes}
use Rattle.vf_take.specs.Reads.{reads}

-- a pointer, and two numbers
abbrev pub pointer : Term
pointer = term (Symbol Other (Numbered 0)) no_terms

abbrev pub first_value : Term
first_value = term (Symbol Integer (Numbered 1)) no_terms

abbrev pub second_value : Term
second_value = term (Symbol Integer (Numbered 2)) no_terms

-- one half
abbrev pub one_half : Dyadic
one_half = Odd 0 0

-- a fraction as a share
abbrev pub share_of : Dyadic → Share
share_of x = record { coefficient = x; factors = [] }

-- the head of a field's cell
abbrev pub field : Head
field = record { name = Cell (codes "a.c#s") 0; terms = [] }

-- a fraction of the cell at the pointer, with its content
abbrev pub cell : Dyadic → Argument → Chunk
cell x content = record { head = field; share = share_of x; arguments = Known pointer ∷ content ∷ []; origin = origins.Other }

-- the wanted cell at the pointer
abbrev pub wanted : SharePattern → Pattern → Wanted
wanted share content = record { head = field; patterns = patterns.Is pointer ∷ content ∷ []; share = share }

module _ (places : Places) (path : List Literal) where
  -- a write wants the whole cell: half of it does not fit, without a question
  abbrev pub HalfIsNotEnough : Type 0
  HalfIsNotEnough = takes places path (wanted (shares.Is (share_of whole)) patterns.Wild) (cell one_half (Known first_value) ∷ []) ≡ done (Err (refusal rules.NoChunk places.part))

  -- two halves of it are merged, and their contents are known to be equal from then on
  abbrev pub HalvesAreMerged : Type 0
  HalvesAreMerged =
      takes places path (wanted (shares.Is (share_of whole)) patterns.Wild) (cell one_half (Known first_value) ∷ cell one_half (Known second_value) ∷ [])
      ≡ push (done (Ok (record { chunk = cell whole (Known first_value); bound = None; heap = [] }, path ++ equality first_value second_value ∷ []))) (done (Err (refusal rules.Paths places.name)))

  -- of the whole cell half is taken, and half is left in its place
  abbrev pub HalfIsLeft : Type 0
  HalfIsLeft =
      takes places path (wanted (shares.Is (share_of one_half)) patterns.Name) (cell whole (Known first_value) ∷ [])
      ≡ done (Ok (record { chunk = cell one_half (Known first_value); bound = None; heap = cell one_half (Known first_value) ∷ [] }, path))

  -- whatever share there is is taken, and has a name then
  abbrev pub AnyShareIsTaken : Type 0
  AnyShareIsTaken =
      takes places path (wanted (shares.Name (share_of whole)) patterns.Wild) (cell one_half Unknown ∷ [])
      ≡ done (Ok (record { chunk = cell one_half Unknown; bound = Some (share_of one_half); heap = [] }, path))

  -- content that is not known is not read
  abbrev pub UnknownIsNotTaken : Type 0
  UnknownIsNotTaken = takes places path (wanted (shares.Is (share_of whole)) patterns.Name) (cell whole Unknown ∷ []) ≡ done (Err (refusal rules.Unset places.part))

  abbrev pub UnknownIsNotRead : Type 0
  UnknownIsNotRead = reads places path field.name pointer (cell whole Unknown ∷ []) ≡ done (Err (refusal rules.Unset places.part))

  -- half a cell is read
  abbrev pub HalfIsRead : Type 0
  HalfIsRead = reads places path field.name pointer (cell one_half (Known first_value) ∷ []) ≡ done (Ok first_value)

-- all of these, wherever refusals stand and whatever is known
pub record TakesInExamples : Type 0 where
  pub half_is_not_enough : (places : Places) (path : List Literal) → HalfIsNotEnough places path
  pub halves_are_merged : (places : Places) (path : List Literal) → HalvesAreMerged places path
  pub half_is_left : (places : Places) (path : List Literal) → HalfIsLeft places path
  pub any_share_is_taken : (places : Places) (path : List Literal) → AnyShareIsTaken places path
  pub unknown_is_not_taken : (places : Places) (path : List Literal) → UnknownIsNotTaken places path
  pub unknown_is_not_read : (places : Places) (path : List Literal) → UnknownIsNotRead places path
  pub half_is_read : (places : Places) (path : List Literal) → HalfIsRead places path
