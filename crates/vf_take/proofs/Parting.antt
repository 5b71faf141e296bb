-- A part of the chunk at a place.
use Rattle.std.proofs.Common.{◌≡◌, ℕ, ◌<◌, List, length, get_or, refl, sym, ap, subst, ◌∙◌, Ok, Err, true, false, cond}
use Rattle.std.specs.Prelude.{Option, Some, None, slice_get, slice_set}
use Rattle.std.specs.List.{remove}
use Rattle.std.proofs.lemmas.Option.{slice_get_read}
use Rattle.vf_base.specs.declared.rule.Rule.TheVariants as rules
use Rattle.vf_base.specs.declared.refusal.RuleFault.{RuleFault}
use Rattle.vf_base.specs.declared.refusal.RuleFault.TheVariants.{Refused}
use Rattle.vf_model.specs.Values.{Dyadic}
use Rattle.vf_fractions.specs.Kept.{has_form}
use Rattle.vf_fractions.specs.Arithmetic.{difference}
use Rattle.vf_asking.specs.Course.{refusal}
use Rattle.vf_chunk.specs.declared.share.Share.{Share}
use Rattle.vf_chunk.specs.declared.chunk.Chunk.{Chunk}
use Rattle.vf_chunk.specs.Chunks.{part_of, rest_of}
use Rattle.vf_take.specs.declared.wanted.Places.{Places}
use Rattle.vf_take.specs.declared.wanted.Portion.TheVariants.{Whole, Part}
use Rattle.vf_take.specs.declared.wanted.Taken.{Taken}
use Rattle.vf_take.specs.Results.{Faults}
use Rattle.vf_take.specs.Takes.{taken_at}
use Rattle.vf_take.proofs.Results.{chosen, faults_refused, faults_memory}

module _ (places : Places) (cs ds : List Chunk) (at : ℕ) (x : Dyadic) (c : Chunk) (within : at < length cs) (same : ds ≡ cs) (is : c ≡ get_or ds at c) where
  read_at : slice_get cs at ≡ Some c
  read_at = slice_get_read cs (length cs) at c refl within (subst (λ (xs : List Chunk). c ≡ get_or xs at c) same is)

  -- the part is there
  pub part_taken : (t : Taken) → has_form (difference c.share.coefficient x) ≡ true → t ≡ record { chunk = part_of c x; bound = None; heap = slice_set cs at (rest_of c x) } → taken_at places cs at (Part x) (slice_get cs at) ≡ Ok t
  part_taken t form e =
      ap (λ o. taken_at places cs at (Part x) o) read_at
      ∙ ap (λ b. cond b (Ok (record { chunk = part_of c x; bound = None; heap = slice_set cs at (rest_of c x) })) (Err (refusal rules.Fraction places.statement))) form
      ∙ ap Ok (sym e)

  -- what is left has no form
  pub part_refused : (f : RuleFault) → has_form (difference c.share.coefficient x) ≡ false → f ≡ Refused (refusal rules.Fraction places.statement) → Faults (taken_at places cs at (Part x) (slice_get cs at)) f
  part_refused f form e =
      faults_refused (taken_at places cs at (Part x) (slice_get cs at)) (refusal rules.Fraction places.statement) f e
      (ap (λ o. taken_at places cs at (Part x) o) read_at
      ∙ ap (λ b. cond b (Ok (record { chunk = part_of c x; bound = None; heap = slice_set cs at (rest_of c x) })) (Err (refusal rules.Fraction places.statement))) form)

-- all of it
pub whole_taken : (places : Places) (cs ds : List Chunk) (at : ℕ) (bound : Option Share) (c : Chunk) → slice_get cs at ≡ Some c → ds ≡ remove cs at → taken_at places cs at (Whole bound) (slice_get cs at) ≡ Ok (record { chunk = c; bound = bound; heap = ds })
whole_taken places cs ds at bound c is e =
    ap (λ o. taken_at places cs at (Whole bound) o) is ∙ ap (λ (xs : List Chunk). Ok (record { chunk = c; bound = bound; heap = xs })) (sym e)

pub ruleset parting = (part_taken, part_refused, whole_taken, faults_memory)
