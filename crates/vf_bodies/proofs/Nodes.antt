-- Nodes behind one another, as they are added one by one.
use Rattle.std.proofs.Common.{◌≡◌, List, [], ◌∷◌, ◌++◌, ap, ◌∙◌, append_assoc}
use Rattle.vf_steps.specs.Tree.{NodeTree}

-- one node, and several behind it
pub added : (d w z ns : List NodeTree) (x y : NodeTree) → w ≡ d ++ x ∷ [] → x ≡ y → z ≡ w ++ ns → z ≡ d ++ y ∷ ns
added d w z ns x y hw hx hz = hz ∙ ap (λ l. l ++ ns) (hw ∙ ap (λ v. d ++ v ∷ []) hx) ∙ append_assoc d (y ∷ []) ns

-- several between one node and two
pub enclosed : (d ns w y z u : List NodeTree) (x a b c e : NodeTree) → w ≡ d ++ x ∷ [] → x ≡ a → y ≡ w ++ ns → z ≡ y ++ b ∷ [] → b ≡ c → u ≡ z ++ e ∷ [] → u ≡ d ++ (a ∷ ns ++ c ∷ e ∷ [])
enclosed d ns w y z u x a b c e hw hx hy hz hb hu =
    hu ∙ ap (λ l. l ++ e ∷ []) (hz ∙ ap (λ l. l ++ b ∷ []) (added d w y ns x a hw hx hy) ∙ ap (λ v. (d ++ a ∷ ns) ++ v ∷ []) hb)
    ∙ append_assoc (d ++ a ∷ ns) (c ∷ []) (e ∷ []) ∙ append_assoc d (a ∷ ns) (c ∷ e ∷ [])
