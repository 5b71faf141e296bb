-- What a sink takes piece by piece.
use Rattle.std.proofs.Common.{◌≡◌, ℕ, ◌+◌, ◌-◌, length, length-drop, arith, List, ◌++◌, Option, Some, None, option_map, take, drop, sym, ap, ◌∙◌, append_assoc}
use Rattle.std.proofs.Math.Seq.{take-add}
use Rattle.std.proofs.lemmas.List.{take_all}
use Rattle.vf_base.specs.Outside.{Takes}

-- bytes that are taken after others
pub Takes-append : (a b c : Option (List ℕ)) (xs ys : List ℕ) → Takes a b xs → Takes b c ys → Takes a c (xs ++ ys)
Takes-append None b c xs ys p q = q ∙ ap (option_map (λ t. t ++ ys)) p
Takes-append (Some t) b c xs ys p q = q ∙ ap (option_map (λ t. t ++ ys)) p ∙ ap Some (append_assoc t xs ys)

-- the next bytes of a piece
pub Takes-take : (a b c : Option (List ℕ)) (at n : ℕ) (piece : List ℕ) → Takes a b (take at piece) → Takes b c (take n (take (length piece - at) (drop at piece))) → Takes a c (take (at + n) piece)
Takes-take a b c at n piece p q =
    let rest : take (length piece - at) (drop at piece) ≡ drop at piece = take_all _ _ (omega (arith, length-drop at piece)) in
    Takes-append a b c _ _ p (q ∙ ap (λ xs. option_map (λ t. t ++ take n xs) b) rest) ∙ ap (λ xs. option_map (λ t. t ++ xs) a) (sym (take-add at n piece))
