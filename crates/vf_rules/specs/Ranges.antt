-- The invariant of sorts and ranges of symbolic states: what rules that ask for no types may rest on, and that the rules keep it. Each law is the contract of a public function with an empty body.
use Rattle.std.specs.Prelude.{◌≡◌, ℕ, ◌≤ℤ◌, ◌==◌, cond, List, [], ◌∷◌, ◌++◌, Option, Some, None, slice_get}
use Rattle.vf_base.specs.declared.int_type.IntType.{IntType}
use Rattle.vf_tree.specs.Core.{Identity, Field, TypeTree, ProgramTree, NotEqual, LessEqual}
use Rattle.vf_model.specs.Integers.{least, greatest}
use Rattle.vf_meaning.specs.Ghost.{Sort, Pointers, Number, Null, Compare}
use Rattle.vf_meaning.specs.Assertions.{Assertion, Environment}
use Rattle.vf_rules.specs.Terms.{Term, Store}
use Rattle.vf_rules.specs.States.{Fact, Holds, OfSort, CellOf, SymbolicChunk, SymbolicState, Entails, assuming_all, with_chunks}
use Rattle.vf_rules.specs.Fresh.{symbol}
use Rattle.vf_rules.specs.Types.{type_of_field, facts_of_type}
use Rattle.vf_rules.specs.Produce.{Produce}
use Rattle.vf_rules.specs.Take.{Takes, Removes, Changes}
use Rattle.vf_rules.specs.Consume.{EntailsAll, Consume}
use Rattle.vf_rules.specs.Laws.{Outcome, IsAmong}
use Rattle.vf_rules.specs.Evaluate.{IsInRange}
use Rattle.vf_rules.specs.Accept.{with_local, cell_chunk, new_chunks}

-- locals have their types, one by one: each that has a term has, on a path, a value in the range of its type
abbrev pub LocalsTyped : Environment → List Fact → List TypeTree → List (Option Term) → Type 0
LocalsTyped e path [] [] = Unit {0}
LocalsTyped e path (type ∷ types) (None ∷ ts) = LocalsTyped e path types ts
LocalsTyped e path (type ∷ types) (Some t ∷ ts) = EntailsAll e path (facts_of_type type t) × LocalsTyped e path types ts
LocalsTyped e path _ _ = ⊥

-- the content of a cell, if a chunk is one and its content is known, has on a path a value in the range of the field's type
abbrev pub ContentTyped : Environment → ProgramTree → List Fact → SymbolicChunk → Type 0
ContentTyped e p path c =
    (field : Field) (pointer content : Term) (others : List (Option Term)) (type : TypeTree) → c.head ≡ CellOf field → c.arguments ≡ Some pointer ∷ Some content ∷ others → type_of_field p field.structure field.index ≡ Some type
    → EntailsAll e path (facts_of_type type content)

-- and so of each of several chunks
abbrev pub ContentsTyped : Environment → ProgramTree → List Fact → List SymbolicChunk → Type 0
ContentsTyped e p path [] = Unit {0}
ContentsTyped e p path (c ∷ cs) = ContentTyped e p path c × ContentsTyped e p path cs

-- each symbol that has a sort has, on a path, a value of it
abbrev pub SymbolsSorted : Environment → List Fact → (ℕ → Option Sort) → Type 0
SymbolsSorted e path kinds = (y : ℕ) (s : Sort) → kinds y ≡ Some s → Entails e path (OfSort (symbol y) s)

-- the invariant: locals have the types of the function, known contents of cells those of their fields, and symbols their sorts
pub record IsTypedState (e : Environment) (p : ProgramTree) (types : List TypeTree) (kinds : ℕ → Option Sort) (st : SymbolicState) : Type 0 where
  pub locals : LocalsTyped e st.path types st.locals
  pub contents : ContentsTyped e p st.path st.chunks
  pub symbols : SymbolsSorted e st.path kinds

-- what is assumed, seen or known besides keeps it
abbrev pub FactsKeepTypes : Type 0
FactsKeepTypes =
    (e : Environment) (p : ProgramTree) (types : List TypeTree) (kinds : ℕ → Option Sort) (st : SymbolicState) (fs : List Fact) → IsTypedState e p types kinds st → IsTypedState e p types kinds (assuming_all st fs)

-- what changes nothing of what a state stands for keeps it: entailed facts, joined chunks, predicate values by their names
abbrev pub ChangesKeepTypes : Type 0
ChangesKeepTypes = (e : Environment) (p : ProgramTree) (types : List TypeTree) (kinds : ℕ → Option Sort) (st new : SymbolicState) → Changes e st new → IsTypedState e p types kinds st → IsTypedState e p types kinds new

-- a local that gets a term of its type keeps it: of an expression, of a call's result, or of new memory
abbrev pub SettingKeepsTypes : Type 0
SettingKeepsTypes =
    (e : Environment) (p : ProgramTree) (types : List TypeTree) (kinds : ℕ → Option Sort) (st : SymbolicState) (x : ℕ) (type : TypeTree) (t : Term)
    → slice_get types x ≡ Some type → EntailsAll e st.path (facts_of_type type t) → IsTypedState e p types kinds st → IsTypedState e p types kinds (with_local st x t)

-- a local that is loaded from a cell has the type of the field, which is its own, and so keeps it
abbrev pub LoadingKeepsTypes : Type 0
LoadingKeepsTypes =
    (e : Environment) (p : ProgramTree) (types : List TypeTree) (kinds : ℕ → Option Sort) (st : SymbolicState) (x : ℕ) (field : Field) (type : TypeTree) (c : SymbolicChunk) (others : List SymbolicChunk) (pointer content : Term)
    → Removes c st.chunks others → c.head ≡ CellOf field → c.arguments ≡ Some pointer ∷ Some content ∷ [] → type_of_field p field.structure field.index ≡ Some type → slice_get types x ≡ Some type
    → IsTypedState e p types kinds st → IsTypedState e p types kinds (with_local st x content)

-- taking a share of a chunk keeps it
abbrev pub TakingKeepsTypes : Type 0
TakingKeepsTypes =
    (e : Environment) (p : ProgramTree) (types : List TypeTree) (kinds : ℕ → Option Sort) (st : SymbolicState) (wanted : Term) (c : SymbolicChunk) (left : List SymbolicChunk)
    → Takes e st.path wanted c st.chunks left → IsTypedState e p types kinds st → IsTypedState e p types kinds (with_chunks st left)

-- a cell that is taken and written with a term of the field's type keeps it
abbrev pub StoringKeepsTypes : Type 0
StoringKeepsTypes =
    (e : Environment) (p : ProgramTree) (types : List TypeTree) (kinds : ℕ → Option Sort) (st : SymbolicState) (wanted pointer w : Term) (c : SymbolicChunk) (others : List SymbolicChunk) (field : Field)
    → Takes e st.path wanted c st.chunks others → ((type : TypeTree) → type_of_field p field.structure field.index ≡ Some type → EntailsAll e st.path (facts_of_type type w))
    → IsTypedState e p types kinds st → IsTypedState e p types kinds (with_chunks st (others ++ cell_chunk field pointer (Some w) ∷ []))

-- new memory keeps it: where none is granted the local is null, and else a new symbol points to cells of unknown content
abbrev pub AllocatingKeepsTypes : Type 0
AllocatingKeepsTypes =
    (e : Environment) (p : ProgramTree) (types : List TypeTree) (kinds : ℕ → Option Sort) (st : SymbolicState) (x y n : ℕ) (g : Identity) (type : TypeTree)
    → slice_get types x ≡ Some type → ((t : Term) → facts_of_type type t ≡ OfSort t Pointers ∷ []) → IsTypedState e p types kinds st
    → IsTypedState e p types kinds (with_local st x Null)
    × IsTypedState e p types kinds (with_local (assuming_all (with_chunks st (st.chunks ++ new_chunks g (symbol y) 0 n)) (OfSort (symbol y) Pointers ∷ Holds (Compare NotEqual (symbol y) Null) ∷ [])) x (symbol y))

-- a symbol of which a sort is known may be given that sort
abbrev pub NamingKeepsTypes : Type 0
NamingKeepsTypes =
    (e : Environment) (p : ProgramTree) (types : List TypeTree) (kinds : ℕ → Option Sort) (st : SymbolicState) (y : ℕ) (s : Sort)
    → Entails e st.path (OfSort (symbol y) s) → IsTypedState e p types kinds st → IsTypedState e p types (λ z. cond (z == y) (Some s) (kinds z)) st

-- producing an assertion keeps it in every state that is so got
abbrev pub ProducingKeepsTypes : Type 0
ProducingKeepsTypes =
    (e : Environment) (p : ProgramTree) (types : List TypeTree) (kinds : ℕ → Option Sort) (sorts : List Sort) (scale : Term) (a : Assertion) (s : Store) (st : SymbolicState) (outs : List Outcome)
    → Produce e p sorts scale a s st (IsAmong outs) → IsTypedState e p types kinds st → Produce e p sorts scale a s st (λ s1 st1. IsAmong outs s1 st1 × IsTypedState e p types kinds st1)

-- and so does consuming one
abbrev pub ConsumingKeepsTypes : Type 0
ConsumingKeepsTypes =
    (e : Environment) (p : ProgramTree) (types : List TypeTree) (kinds : ℕ → Option Sort) (sorts : List Sort) (scale : Term) (a : Assertion) (s : Store) (st : SymbolicState) (outs : List Outcome)
    → Consume e p sorts scale a s st (IsAmong outs) → IsTypedState e p types kinds st → Consume e p sorts scale a s st (λ s1 st1. IsAmong outs s1 st1 × IsTypedState e p types kinds st1)

-- a term in the range of an integer type is within each bound of another one that is as wide there, so that a conversion asks for the other bound alone
abbrev pub RangesWiden : Type 0
RangesWiden =
    (e : Environment) (path : List Fact) (from into : IntType) (t : Term) → IsInRange e path from t
    → (least into ≤ℤ least from → Entails e path (Holds (Compare LessEqual (Number (least into)) t))) × (greatest from ≤ℤ greatest into → Entails e path (Holds (Compare LessEqual t (Number (greatest into)))))
