-- What is true of every journal stays true.
use Rattle.std.proofs.Common.{◌≡◌, ℕ, ◌<◌, ◌≤◌, List, [], ◌∷◌, ◌++◌, length, arith, length-append}
use Rattle.std.specs.Prelude.{Result, Ok, Err, OnOk, OnErr, IsTrue}
use Rattle.std.proofs.lemmas.List.Elements.{All-push}
use Rattle.vf_formula.specs.Literals.{shown_literal}
use Rattle.vf_formula.specs.declared.literal.Literal.{Literal}
use Rattle.vf_question.specs.Plain.{IsPlainLiteral}
use Rattle.vf_definitions.specs.declared.fixpoint.Fixpoint.{Fixpoint}
use Rattle.vf_asking.specs.Plain.{is_plain_literal}
use Rattle.vf_asking.specs.Whole.{AreOfUnits, ArePlaced, ArePlainFacts}
use Rattle.vf_asking.proofs.Testing.{plain_literals_decide}
use Rattle.vf_asking.specs.declared.journal.Entry.{Entry}

-- what follows from a clause for each outcome of a call
pub either_way : {T E A B C : Type 0} (r : Result T E) → OnOk r A → OnErr r B → (A → C) → (B → C) → C
either_way (Ok x) a b f g = f a
either_way (Err e) a b f g = g b

pub plain_pushed : (facts more : List (ℕ × Literal)) (at : ℕ) (fact : Literal) → more ≡ facts ++ (at, fact) ∷ [] → ArePlainFacts facts → IsPlainLiteral (shown_literal fact) → ArePlainFacts more
plain_pushed facts more at fact e h one = rw e (All-push (λ row. IsTrue (is_plain_literal (shown_literal row.1))) facts (at, fact) h ((plain_literals_decide (shown_literal fact)).1 one))

pub placed_pushed : (facts more : List (ℕ × Literal)) (row : ℕ × Literal) (entries : List Entry) → more ≡ facts ++ row ∷ [] → ArePlaced facts entries → ArePlaced more entries
placed_pushed facts more row entries e h k d low = rw (e, length-append facts (row ∷ [])) (omega (arith, h k d low))

pub placed_kept : (facts : List (ℕ × Literal)) (entries more : List Entry) (entry : Entry) → more ≡ entries ++ entry ∷ [] → ArePlaced facts entries → entry.at.number ≤ length facts → ArePlaced facts more
placed_kept facts entries more entry e h one = rw e (All-push (λ x. x.at.number ≤ length facts) entries entry h one)

pub of_units_kept : (units : List (List Fixpoint)) (entries more : List Entry) (entry : Entry) → more ≡ entries ++ entry ∷ [] → AreOfUnits units entries → entry.unit < length units → AreOfUnits units more
of_units_kept units entries more entry e h one = rw e (All-push (λ x. x.unit < length units) entries entry h one)
