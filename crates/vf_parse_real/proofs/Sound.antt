-- What is read as a unit is spelled by all of the tokens, and nests no deeper than it may.
use Rattle.std.proofs.Common.{◌≡◌, ℕ, ◌≤◌, List, [], ◌∷◌, length, Some, refl, arith}
use Rattle.vf_base.specs.declared.place.Place.{Place}
use Rattle.vf_lexer.specs.declared.token.Token.{Token}
use Rattle.vf_syntax.specs.declared.side.Grammar.{Grammar}
use Rattle.vf_syntax.specs.declared.contract.Contract.{Contract}
use Rattle.vf_syntax.specs.declared.contract.Claim.{Claim}
use Rattle.vf_syntax.specs.declared.contract.Invariant.{Invariant}
use Rattle.vf_syntax.specs.declared.item.GhostItem.{GhostItem}
use Rattle.vf_syntax.specs.declared.item.Item.{Item}
use Rattle.vf_syntax.specs.declared.item.Unit as units
use Rattle.vf_syntax.specs.GhostCommandTree.{GhostCommandTree}
use Rattle.vf_syntax.specs.Lists.{each, greatest}
use Rattle.vf_syntax.specs.Units.{item, item_nesting, unit, Spells}
use Rattle.vf_cursor.specs.declared.fault.Fault.{Fault}
use Rattle.vf_cursor.specs.declared.fault.Fault.TheVariants as faults
use Rattle.vf_cursor.specs.declared.fault.Stop.{Stop}
use Rattle.vf_cursor.specs.declared.fault.Stop.TheVariants as stops
use Rattle.vf_cursor.specs.Parsing.{Parser, Read, ok, Fails, many, item_step, end_at}
use Rattle.vf_cursor.proofs.Facts.{bind_ok, moved}
use Rattle.vf_parse_expression.proofs.Collected.{Collects, Itemised, many_collected}
use Rattle.vf_parse_statement.specs.Annotations.{ReadsCommands, ReadsInvariants, ReadsContracts, ReadsClaims, ReadsItems}
use Rattle.vf_parse_item.specs.Parsers.{item_at}
use Rattle.vf_parse_item.proofs.Sound.{item_sound}
use Rattle.vf_parse_real.specs.Units.{is_any, items_by, unit_by, unit_at}
use Rattle.vf_parse_real.specs.Faults.{stop_of, Refuses}

items_collect : (g : Grammar) → Collects (item g) item_nesting (each (item g)) (greatest item_nesting)
items_collect g = record { nothing_walk = λ ts. refl; item_walk = λ x xs ts. refl; nothing_deep = refl; item_deep = λ x xs. refl }

-- items were read
abbrev pub Listed : Grammar → ℕ → List Token → List Item → List Token → Type 0
Listed g d ts xs rest = (each (item g) xs ts ≡ Some rest) × (greatest item_nesting xs ≤ d)

unit_by_sound : (g : Grammar) (p : Parser Item) (d : ℕ) → Itemised (item g) item_nesting d p → (ts : List Token) (xs : List Item) (rest : List Token) → unit_by p ts ≡ ok xs rest → Listed g d ts xs rest
unfolding unit_by items_by end_at
unit_by_sound g p d hp ts xs rest eq =
    let a = bind_ok {r = many is_any (item_step p) [] ts} eq in
    let all = many_collected (items_collect g) d is_any p hp (length ts) ts ts [] a.0.0 a.0.1 refl (omega arith) a.1 in
    at_end a.0.1 a.0.0 a.2 all
  where
    at_end : (us : List Token) (ys : List Item) → end_at ys us ≡ ok xs rest → Listed g d ts ys us → Listed g d ts xs rest
    at_end [] ys e h = moved (λ (y : List Item) r. Listed g d ts y r) e h
    at_end (t ∷ us) ys e h = absurd cc

pub unit_sound : (g : Grammar) (c : ℕ → Parser GhostCommandTree) (i : ℕ → Parser Invariant) (k : ℕ → Parser Contract) (l : Parser Claim) (x : ℕ → Parser GhostItem)
    → ReadsCommands c → ReadsInvariants i → ReadsContracts k → ReadsClaims l → ReadsItems x
    → (d : ℕ) (u : units.Unit) (ts : List Token) → unit_at g c i k l x d ts ≡ ok u.items [] → Spells g d u ts
unfolding unit
unit_sound g c i k l x hc hi hk hl hx d u ts eq =
    let h = unit_by_sound g (item_at g c i k l x d) d (item_sound g c i k l x hc hi hk hl hx d) ts u.items [] eq in
    record { spelled = h.0; nested = h.1 }

-- what is answered where reading stopped
pub refused : (stop : Stop) (end : Place) (ts : List Token) (read : Read (List Item)) → Fails stop read → Refuses (stop_of ts end stop) end ts read
refused stops.Memory end ts read h = tt
refused (stops.Fault (faults.Syntax n)) end ts read h = (faults.Syntax n, h, refl)
refused (stops.Fault (faults.Depth n)) end ts read h = (faults.Depth n, h, refl)
