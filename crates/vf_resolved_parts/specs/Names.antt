-- Names by their numbers, and the symbols that stand for them.
use Rattle.std.specs.Prelude.{ℕ, suc, Bool, true, false, List, [], ◌∷◌}
use Rattle.vf_meaning.specs.Ghost.{Numbered}
use Rattle.vf_closure.specs.Terms.{Symbol, Term, term, no_terms}
use Rattle.vf_formula.specs.Heads.{shown_kind}
use Rattle.vf_formula.specs.declared.head.Kind.{Kind}
use Rattle.vf_formula.specs.declared.head.Kind.TheVariants as kinds
use Rattle.vf_sorts.specs.declared.sort.Head.TheVariants as heads
use Rattle.vf_sorts.specs.Sorts.{Sort, sort}
use Rattle.vf_resolved.specs.declared.pattern.Slot.{Slot}

-- the kind of the terms of a sort
abbrev pub kind_for : Sort → Kind
kind_for (sort heads.Int ts) = kinds.Integer
kind_for t = kinds.Other

-- it is the sort of truth values
abbrev pub is_truth : Sort → Bool
is_truth (sort heads.Bool ts) = true
is_truth t = false

-- the name with a number, which has a sort
abbrev pub slot_for : ℕ → Sort → Slot
slot_for n t = record { number = n; kind = kind_for t }

-- the names with numbers from one on, which have these sorts
abbrev pub slots_from : ℕ → List Sort → List Slot
slots_from n [] = []
slots_from n (t ∷ ts) = slot_for n t ∷ slots_from (suc n) ts

-- the symbol of a name
abbrev pub symbol_for : Slot → Term
symbol_for x = term (Symbol (shown_kind x.kind) (Numbered x.number)) no_terms

-- the symbols of the names with numbers from one on, which have these sorts
abbrev pub symbols_from : ℕ → List Sort → List Term
symbols_from n [] = []
symbols_from n (t ∷ ts) = symbol_for (slot_for n t) ∷ symbols_from (suc n) ts
