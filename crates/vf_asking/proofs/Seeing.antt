-- What rules see of a journal as it grows.
use Rattle.std.proofs.Common.{◌≡◌, ℕ, zero, ◌+◌, ◌-◌, ◌<◌, ◌≤◌, suc, List, [], ◌∷◌, ◌++◌, length, refl, sym, ap, ◌∙◌, arith, append_assoc, length-append}
use Rattle.std.specs.Prelude.{map, All}
use Rattle.std.proofs.lemmas.List.{map-append, append-nil}
use Rattle.vf_trail.specs.declared.node.Node.{Node}
use Rattle.vf_trail.specs.Trail.{path_of}
use Rattle.vf_trail.proofs.Paths.{path_kept, path_added, path_root}
use Rattle.vf_asking.specs.declared.answers.Answer.{Answer}
use Rattle.vf_closure.specs.Literals as pure
use Rattle.vf_formula.specs.Literals.{shown_literal}
use Rattle.vf_formula.specs.declared.literal.Literal.{Literal}
use Rattle.vf_definitions.specs.declared.fixpoint.Fixpoint.{Fixpoint}
use Rattle.vf_asking.specs.declared.journal.Entry.{Entry}
use Rattle.vf_asking.specs.declared.journal.Journal.{Journal}
use Rattle.vf_asking.specs.Journal.{definitions_at, Asked, Seen, path_to, asked_of, seen, nothing_seen, noted, counted, begun, path_at, HasNode, IsAsBefore, HasBegun, HasPushed, HasAsked, Grew}

-- a unit's definitions stay as units are begun
unit_kept : (units : List (List Fixpoint)) (d : List Fixpoint) (k : ℕ) → k < length units → definitions_at (units ++ d ∷ []) k ≡ definitions_at units k
unit_kept [] d k low = absurd (omega arith)
unit_kept (u ∷ us) d zero low = refl
unit_kept (u ∷ us) d (suc k) low = unit_kept us d k (omega (arith, low))

abbrev with_path : List (List Fixpoint) → Entry → List pure.Literal → Asked
with_path units e path = record { unit = e.unit; definitions = definitions_at units e.unit; path = path; goal = shown_literal e.goal; answer = e.answer }

abbrev with_definitions : List (ℕ × Literal) → Entry → List Fixpoint → Asked
with_definitions facts e d = record { unit = e.unit; definitions = d; path = path_to facts e.at.number; goal = shown_literal e.goal; answer = e.answer }

-- entries keep their paths as the trail grows
asked_kept : (units : List (List Fixpoint)) (facts more : List (ℕ × Literal)) (entries : List Entry) → All (λ e. e.at.number ≤ length facts) entries → map (asked_of units (facts ++ more)) entries ≡ map (asked_of units facts) entries
asked_kept units facts more [] h = refl
asked_kept units facts more (e ∷ es) h =
    let here : e.at.number ≤ length facts = h 0 e (omega arith) in
    let rest = asked_kept units facts more es (λ k d low. h (suc k) d (omega arith)) in
    let same = ap (λ p. with_path units e (map shown_literal p)) (path_kept facts more e.at.number here) in
    λ i. same i ∷ rest i

-- and their definitions as units are begun
asked_begun : (units : List (List Fixpoint)) (d : List Fixpoint) (facts : List (ℕ × Literal)) (entries : List Entry) → All (λ e. e.unit < length units) entries → map (asked_of (units ++ d ∷ []) facts) entries ≡ map (asked_of units facts) entries
asked_begun units d facts [] h = refl
asked_begun units d facts (e ∷ es) h =
    let here : e.unit < length units = h 0 e (omega arith) in
    let rest = asked_begun units d facts es (λ k x low. h (suc k) x (omega arith)) in
    let same = ap (with_definitions facts e) (unit_kept units d e.unit here) in
    λ i. same i ∷ rest i

pub seen_nothing : (j : Journal) → j.trail.facts ≡ [] → j.units ≡ [] → j.entries ≡ [] → seen j ≡ nothing_seen
unfolding seen
seen_nothing j f u e = λ i. record { units = u i; entries = map (asked_of (u i) (f i)) (e i); facts = length (f i) }

pub seen_before : (j k : Journal) → IsAsBefore j k → seen k ≡ seen j
unfolding seen
seen_before j k b = λ i. record { units = b.units i; entries = map (asked_of (b.units i) (b.facts i)) (b.entries i); facts = length (b.facts i) }

abbrev with_entries : Journal → List Asked → Seen
with_entries j entries = record { units = j.units; entries = entries; facts = length j.trail.facts }

pub seen_asked : (at : Node) (goal : Literal) (answer : Answer) (j k : Journal) → HasAsked at goal answer j k → seen k ≡ noted (seen j) (path_at j at) (shown_literal goal) answer
unfolding seen path_at
seen_asked at goal answer j k a =
    (λ i. record { units = a.units i; entries = map (asked_of (a.units i) (a.facts i)) (a.entries i); facts = length (a.facts i) })
    ∙ ap (with_entries j) (map-append (asked_of j.units j.trail.facts) j.entries (record { unit = length j.units - 1; at = at; goal = goal; answer = answer } ∷ []))

pub seen_pushed : (at : Node) (fact : Literal) (j k : Journal) → HasPushed at fact j k → seen k ≡ counted (seen j)
unfolding seen
seen_pushed at fact j k p =
    let kept = asked_kept j.units j.trail.facts ((at.number, fact) ∷ []) j.entries j.placed in
    let more : length (j.trail.facts ++ (at.number, fact) ∷ []) ≡ length j.trail.facts + 1 = length-append j.trail.facts ((at.number, fact) ∷ []) in
    (λ i. record { units = p.units i; entries = map (asked_of (p.units i) (p.facts i)) (p.entries i); facts = length (p.facts i) })
    ∙ (λ i. record { units = j.units; entries = kept i; facts = more i })

pub seen_begun : (defs : List Fixpoint) (j k : Journal) → HasBegun defs j k → seen k ≡ begun defs (seen j)
unfolding seen
seen_begun defs j k b =
    (λ i. record { units = b.units i; entries = map (asked_of (b.units i) (b.facts i)) (b.entries i); facts = length (b.facts i) })
    ∙ ap (λ es. record { units = j.units ++ defs ∷ []; entries = es; facts = length j.trail.facts }) (asked_begun j.units defs j.trail.facts j.entries j.of_units)

pub grew_not : (j : Journal) → Grew j j
grew_not j = record { new_facts = []; facts = sym (append-nil j.trail.facts); units = refl; new_entries = []; entries = sym (append-nil j.entries) }

pub grew_before : (j k : Journal) → IsAsBefore j k → Grew j k
grew_before j k b = record { new_facts = []; facts = b.facts ∙ sym (append-nil j.trail.facts); units = b.units; new_entries = []; entries = b.entries ∙ sym (append-nil j.entries) }

pub grew_pushed : (at : Node) (fact : Literal) (j k : Journal) → HasPushed at fact j k → Grew j k
grew_pushed at fact j k p = record { new_facts = (at.number, fact) ∷ []; facts = p.facts; units = p.units; new_entries = []; entries = p.entries ∙ sym (append-nil j.entries) }

pub grew_asked : (at : Node) (goal : Literal) (answer : Answer) (j k : Journal) → HasAsked at goal answer j k → Grew j k
grew_asked at goal answer j k a = record {
  new_facts = [];
  facts = a.facts ∙ sym (append-nil j.trail.facts);
  units = a.units;
  new_entries = record { unit = length j.units - 1; at = at; goal = goal; answer = answer } ∷ [];
  entries = a.entries;
}

pub grew_on : (j k l : Journal) → Grew j k → Grew k l → Grew j l
grew_on j k l g h = record {
  new_facts = g.new_facts ++ h.new_facts;
  facts = h.facts ∙ ap (λ fs. fs ++ h.new_facts) g.facts ∙ append_assoc j.trail.facts g.new_facts h.new_facts;
  units = h.units ∙ g.units;
  new_entries = g.new_entries ++ h.new_entries;
  entries = h.entries ∙ ap (λ es. es ++ h.new_entries) g.entries ∙ append_assoc j.entries g.new_entries h.new_entries;
}

-- nodes stay, and so do their paths
pub grew_node : (j k : Journal) (at : Node) → Grew j k → HasNode j at → HasNode k at
unfolding HasNode
grew_node j k at g h = omega (arith, ap length g.facts, length-append j.trail.facts g.new_facts)

pub grew_path : (j k : Journal) (at : Node) → Grew j k → HasNode j at → path_at k at ≡ path_at j at
unfolding HasNode path_at
grew_path j k at g h = ap (λ fs. path_to fs at.number) g.facts ∙ ap (map shown_literal) (path_kept j.trail.facts g.new_facts at.number h)

pub grew_begun : (j k : Journal) → Grew j k → 0 < length j.units → 0 < length k.units
grew_begun j k g h = omega (arith, ap length g.units)

-- a unit stays begun: its definitions, and so its number
pub grew_units : (j k : Journal) → Grew j k → length k.units ≡ length j.units
grew_units j k g = ap length g.units

-- the node of a new fact is there, and its path is its parent's with the fact at the end
pub pushed_node : (at node : Node) (fact : Literal) (j k : Journal) → HasPushed at fact j k → node.number ≡ length j.trail.facts + 1 → HasNode k node
unfolding HasNode
pushed_node at node fact j k p e = omega (arith, ap length p.facts, length-append j.trail.facts ((at.number, fact) ∷ []))

pub pushed_path : (at node : Node) (fact : Literal) (j k : Journal) → HasPushed at fact j k → node.number ≡ length j.trail.facts + 1 → path_at k node ≡ path_at j at ++ shown_literal fact ∷ []
unfolding path_at
pushed_path at node fact j k p e =
    (λ i. path_to (p.facts i) (e i))
    ∙ ap (map shown_literal) (path_added j.trail.facts at.number fact)
    ∙ map-append shown_literal (path_of j.trail.facts at.number) (fact ∷ [])

-- the root is there, with no fact above it
pub root_node : (node : Node) (j : Journal) → node.number ≡ 0 → HasNode j node
unfolding HasNode
root_node node j e = omega arith

pub root_path : (node : Node) (j : Journal) → node.number ≡ 0 → path_at j node ≡ []
unfolding path_at
root_path node j e = ap (λ n. path_to j.trail.facts n) e ∙ ap (map shown_literal) (path_root j.trail.facts)

-- after a unit is begun, one is
pub begun_first : (defs : List Fixpoint) (j k : Journal) → HasBegun defs j k → 0 < length k.units
begun_first defs j k b = omega (arith, ap length b.units, length-append j.units (defs ∷ []))

-- what a beginning comes to
pub ruleset beginning = (seen_begun, begun_first, root_node, root_path)

-- what stays as pushes and questions come
pub ruleset grown = (grew_not, grew_before, grew_on, grew_node, grew_path, grew_begun, grew_units, root_node, root_path)
