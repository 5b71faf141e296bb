-- The order that is left for lemmas none of which reaches itself over the calls between them. The law is the contract of a public function with an empty body.
use Rattle.std.specs.Prelude.{◌≢◌, ◌↔◌, List, [], ◌∷◌, Contains, IsTrue}
use Rattle.vf_tree.specs.Core.{Identity}
use Rattle.vf_meaning.specs.Assertions.{BodyOf, Environment}

-- the body of a lemma calls another lemma
pub record CallsOther (e : Environment) (caller callee : Identity) : Type 0 where
  pub calls : IsTrue (e.calls (BodyOf caller) callee)
  pub other : callee ≢ caller

-- a lemma reaches another one over calls between lemmas, by one call or through others
pub data Reaches (e : Environment) : Identity → Identity → Type 0 where
  by_call : {caller callee : Identity} → CallsOther e caller callee → Reaches e caller callee
  through : {caller callee last : Identity} → CallsOther e caller callee → Reaches e callee last → Reaches e caller last

-- in a list of lemmas those that the body of one calls stand before it, as far as they are in the list
abbrev pub IsCallOrder : Environment → List Identity → Type 0
IsCallOrder e [] = Unit {0}
IsCallOrder e (g ∷ gs) = ((h : Identity) → Contains gs h → CallsOther e g h → ⊥) × IsCallOrder e gs

-- lemmas none of which reaches itself over calls can be put in the order of their calls
abbrev pub CallsAreOrdered : Type 0
CallsAreOrdered = (e : Environment) (lemmas : List Identity) → ((g : Identity) → Reaches e g g → ⊥) → (order : List Identity) × IsCallOrder e order × ((g : Identity) → Contains lemmas g ↔ Contains order g)
