-- What is unfolded is plain.
use Rattle.std.proofs.Common.{◌≡◌, Bool, true, false, cond, ◌==◌, List, Option, Some, None, sym, ◌∙◌}
use Rattle.std.specs.Prelude.{Result, Ok, Err, IfOk}
use Rattle.std.specs.Option.{option_and_then}
use Rattle.vf_closure.specs.Terms.{Constructor, Term, Terms, term, count}
use Rattle.vf_question.specs.Plain.{IsPlain}
use Rattle.vf_definitions.specs.Filled.{filled, followed_by}
use Rattle.vf_definitions.specs.Kept.{kept_form}
use Rattle.vf_definitions.specs.Unfolded.{case_for, parts_of, body_for, returned, case_result, case_returned, unfoldings_of}
use Rattle.vf_definitions.specs.declared.fixpoint.Case.{Case}
use Rattle.vf_definitions.specs.declared.fixpoint.Body.{Body}
use Rattle.vf_definitions.specs.declared.fixpoint.Body.TheVariants.{Returns, Switches}
use Rattle.vf_definitions.specs.declared.fixpoint.Fixpoint as declared
use Rattle.vf_definitions.proofs.Keeping.{form_plain}

pub returned_plain : (ts : Terms) (x : Body) (b : Term) → returned ts x ≡ Some b → IsPlain b
returned_plain ts (Returns y) b e = form_plain (filled ts y) b e
returned_plain ts (Switches k cases) b e = absurd (cc)

returned_in : (ts : Terms) (o : Option Body) (b : Term) → option_and_then (returned ts) o ≡ Some b → IsPlain b
returned_in ts None b e = absurd (cc)
returned_in ts (Some x) b e = returned_plain ts x b e

pub body_plain : (fs : List declared.Fixpoint) (t b : Term) → (unfoldings_of fs).body t ≡ Some b → IsPlain b
body_plain fs t b e = returned_in (parts_of t) (body_for fs t) b e

result_plain : (ts us : Terms) (c : Case) (b : Term) → case_result ts us c ≡ Some b → IsPlain b
result_plain ts us c b e = by (count us == c.names) e
  where
    by : (x : Bool) → cond x (kept_form (filled (followed_by ts us) c.result)) None ≡ Some b → IsPlain b
    by true h = form_plain (filled (followed_by ts us) c.result) b h
    by false h = absurd (cc)

result_in : (ts us : Terms) (o : Option Case) (b : Term) → option_and_then (case_result ts us) o ≡ Some b → IsPlain b
result_in ts us None b e = absurd (cc)
result_in ts us (Some c) b e = result_plain ts us c b e

pub case_of : (ts : Terms) (k : Term) (x : Body) (b : Term) → case_returned ts k x ≡ Some b → IsPlain b
case_of ts (term (Constructor c) us) (Switches n cases) b e = result_in ts us (case_for cases c) b e
case_of ts k x b e = absurd (cc)

case_in : (ts : Terms) (k : Term) (o : Option Body) (b : Term) → option_and_then (case_returned ts k) o ≡ Some b → IsPlain b
case_in ts k None b e = absurd (cc)
case_in ts k (Some x) b e = case_of ts k x b e

pub case_plain : (fs : List declared.Fixpoint) (t k b : Term) → (unfoldings_of fs).case t k ≡ Some b → IsPlain b
case_plain fs t k b e = case_in (parts_of t) k (body_for fs t) b e

-- what is given is plain where what is wanted is
pub plain_by : {E : Type 0} (r : Result (Option Term) E) (w : Option Term) → IfOk r (λ o. o ≡ w) → ((b : Term) → w ≡ Some b → IsPlain b) → IfOk r (λ o. (b : Term) → o ≡ Some b → IsPlain b)
plain_by (Ok o) w e h = λ b f. h b (sym e ∙ f)
plain_by (Err x) w e h = tt
