-- Steps that go on from others.
use Rattle.std.proofs.Common.{◌≡◌, ℕ, ◌+◌, List, [], ◌∷◌, ◌++◌, length, take, refl, sym, ◌∙◌, ap, append_assoc, arith}
use Rattle.std.proofs.lemmas.List.{append-nil, take_at}
use Rattle.vf_growing.specs.declared.journal.Step as merging
use Rattle.vf_growing.specs.declared.journal.Step.TheVariants.{Term, Merge}
use Rattle.vf_growing.specs.Steps.{Growth, terms_of, merges_of}
use Rattle.vf_arith.specs.declared.bounds.Edge.{Edge}
use Rattle.vf_arith.specs.declared.bounds.Step.TheVariants.{Bound}
use Rattle.vf_arith.specs.Paths.{Network}
use Rattle.vf_arith.specs.Steps.{points_of, bounds_of}
use Rattle.vf_arith.proofs.Histories.{points_of-append, bounds_of-append}
use Rattle.vf_combination.specs.Exchanged.{IsOnward, AreOfSteps, AreBoundsOfSteps, HaveClassesGoneOn, HaveBoundsGoneOn, AreFitting, HaveGoneOn}

pub onward_same : {X : Type 0} (xs ys : List X) → ys ≡ xs → IsOnward xs ys
onward_same xs ys e = record { more = []; is = e ∙ sym (append-nil xs) }

pub onward_push : {X : Type 0} (xs ys : List X) (x : X) → ys ≡ xs ++ x ∷ [] → IsOnward xs ys
onward_push xs ys x e = record { more = x ∷ []; is = e }

pub onward_join : {X : Type 0} (xs ys zs : List X) → IsOnward xs ys → IsOnward ys zs → IsOnward xs zs
onward_join xs ys zs g h = record { more = g.more ++ h.more; is = h.is ∙ ap (λ l. l ++ h.more) g.is ∙ append_assoc xs g.more h.more }

pub onward_take : {X : Type 0} (xs ys : List X) (n : ℕ) → n ≡ length xs → IsOnward xs ys → take n ys ≡ xs
onward_take xs ys n e h = ap (take n) h.is ∙ take_at xs h.more n (sym e)

pub terms_of-append : (a b : List merging.Step) → terms_of (a ++ b) ≡ terms_of a + terms_of b
terms_of-append [] b = omega arith
terms_of-append (Term ∷ a) b = let h = terms_of-append a b in omega arith
terms_of-append (Merge x y ∷ a) b = terms_of-append a b

pub merges_of-append : (a b : List merging.Step) → merges_of (a ++ b) ≡ merges_of a ++ merges_of b
merges_of-append [] b = refl
merges_of-append (Term ∷ a) b = merges_of-append a b
merges_of-append (Merge x y ∷ a) b = ap (λ ps. (x, y) ∷ ps) (merges_of-append a b)

pub classes_same : (c c' : Growth) → AreOfSteps c → c'.nodes ≡ c.nodes → c'.merged ≡ c.merged → c'.steps ≡ c.steps → HaveClassesGoneOn c c'
classes_same c c' is nodes merged steps = record {
  of_steps = record { terms = ap length nodes ∙ is.terms ∙ ap terms_of (sym steps); merged = merged ∙ is.merged ∙ ap merges_of (sym steps) };
  nodes = nodes;
  steps = onward_same c.steps c'.steps steps;
}

pub classes_merged : (c c' : Growth) (a b : ℕ) → AreOfSteps c → c'.nodes ≡ c.nodes → c'.merged ≡ c.merged ++ (a, b) ∷ [] → c'.steps ≡ c.steps ++ Merge a b ∷ [] → HaveClassesGoneOn c c'
classes_merged c c' a b is nodes merged steps = record {
  of_steps = record {
    terms = let e = ap length nodes in let t = is.terms in let s = ap terms_of steps in let k = terms_of-append c.steps (Merge a b ∷ []) in omega arith;
    merged = merged ∙ ap (λ ps. ps ++ (a, b) ∷ []) is.merged ∙ sym (merges_of-append c.steps (Merge a b ∷ [])) ∙ ap merges_of (sym steps);
  };
  nodes = nodes;
  steps = onward_push c.steps c'.steps (Merge a b) steps;
}

pub bounds_added : (b b' : Network) (e : Edge) → AreBoundsOfSteps b → b'.size ≡ b.size → b'.edges ≡ b.edges ++ e ∷ [] → b'.steps ≡ b.steps ++ Bound e ∷ [] → HaveBoundsGoneOn b b'
bounds_added b b' e is size edges steps = record {
  of_steps = record {
    points = let t = is.points in let s = ap points_of steps in let k = points_of-append b.steps (Bound e ∷ []) in omega arith;
    edges = edges ∙ ap (λ es. es ++ e ∷ []) is.edges ∙ sym (bounds_of-append b.steps (Bound e ∷ [])) ∙ ap bounds_of (sym steps);
  };
  size = size;
  steps = onward_push b.steps b'.steps (Bound e) steps;
}

pub bounds_join : (b b' b'' : Network) → HaveBoundsGoneOn b b' → HaveBoundsGoneOn b' b'' → HaveBoundsGoneOn b b''
bounds_join b b' b'' g h = record { of_steps = h.of_steps; size = h.size ∙ g.size; steps = onward_join b.steps b'.steps b''.steps g.steps h.steps }

pub classes_stay : (c : Growth) → AreOfSteps c → HaveClassesGoneOn c c
classes_stay c is = classes_same c c is refl refl refl

pub on_join : (c : Growth) (b : Network) (c' : Growth) (b' : Network) (c'' : Growth) (b'' : Network) → HaveGoneOn c b c' b' → HaveGoneOn c' b' c'' b'' → HaveGoneOn c b c'' b''
on_join c b c' b' c'' b'' g h = record {
  classes = record { of_steps = h.classes.of_steps; nodes = h.classes.nodes ∙ g.classes.nodes; steps = onward_join c.steps c'.steps c''.steps g.classes.steps h.classes.steps };
  bounds = bounds_join b b' b'' g.bounds h.bounds;
}

pub on_bounds : (c : Growth) (b b' : Network) → AreFitting c b → HaveBoundsGoneOn b b' → HaveGoneOn c b c b'
on_bounds c b b' is h = record { classes = classes_stay c is.classes; bounds = h }

pub fitting_on : (c : Growth) (b : Network) (c' : Growth) (b' : Network) → AreFitting c b → HaveGoneOn c b c' b' → AreFitting c' b'
fitting_on c b c' b' is h = record { classes = h.classes.of_steps; bounds = h.bounds.of_steps; size = h.bounds.size ∙ is.size ∙ ap length (sym h.classes.nodes) }
