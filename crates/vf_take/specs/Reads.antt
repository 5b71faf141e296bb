-- Reading the content of a cell.
use Rattle.std.specs.Prelude.{Bool, false, cond, List, [], ◌∷◌, Option, Some, None, Result, Ok, Err}
use Rattle.vf_base.specs.declared.place.Place.{Place}
use Rattle.vf_base.specs.declared.rule.Rule.TheVariants as rules
use Rattle.vf_base.specs.declared.refusal.Refusal.{Refusal}
use Rattle.vf_closure.specs.Terms.{Term}
use Rattle.vf_closure.specs.Literals.{Literal}
use Rattle.vf_asking.specs.Course.{Course, done, try, refusal}
use Rattle.vf_equality.specs.Equality.{equal}
use Rattle.vf_chunk.specs.declared.chunk.Chunk.{Chunk}
use Rattle.vf_chunk.specs.declared.head.HeadName.{HeadName}
use Rattle.vf_chunk.specs.Heads.{is_one_name}
use Rattle.vf_take.specs.declared.wanted.Places.{Places}
use Rattle.vf_take.specs.Usable.{known_at}

-- whether a cell's pointer is equal to another
unfoldable pub points : Place → List Literal → Term → Option Term → Course (Result Bool Refusal)
points place path p (Some t) = equal place path t p
points place path p None = done (Ok false)

-- the content of a cell; unknown content is rule 23
abbrev pub content : Place → Option Term → Result Term Refusal
content place (Some t) = Ok t
content place None = Err (refusal rules.Unset place)

-- the content of the oldest cell of a field whose pointer is proved equal, whatever its share; where there is none it is rule 22
unfoldable pub reads : Places → List Literal → HeadName → Term → List Chunk → Course (Result Term Refusal)
reads places path name p [] = done (Err (refusal rules.NoChunk places.part))
reads places path name p (c ∷ cs) =
    cond (is_one_name c.head.name name)
    (try (points places.statement path p (known_at c.arguments 0)) (λ yes. cond yes (done (content places.part (known_at c.arguments 1))) (reads places path name p cs)))
    (reads places path name p cs)
