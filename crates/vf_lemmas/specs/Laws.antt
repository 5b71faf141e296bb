-- What holds of accepted lemmas. Each law is the contract of a public function with an empty body.
use Rattle.std.specs.Prelude.{◌≡◌, ℕ, List, slice_get, Some}
use Rattle.vf_tree.specs.Core.{ProgramTree}
use Rattle.vf_meaning.specs.Assertions.{Environment}
use Rattle.vf_rules.specs.Lemmas.{LemmaTree, LemmaHolds}
use Rattle.vf_lemmas.specs.Proves.{AreAcceptedLemmas}

-- of accepted lemmas each holds
abbrev pub AcceptedLemmasHold : Type 0
AcceptedLemmasHold =
    (e : Environment) (p : ProgramTree) (lemmas : List LemmaTree) → AreAcceptedLemmas e p lemmas → (place : ℕ) (lemma : LemmaTree) → slice_get lemmas place ≡ Some lemma → LemmaHolds e p lemma
