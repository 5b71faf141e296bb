-- The definitions of the outside world at small examples.
use Rattle.std.proofs.Common.{◌≡◌, [], ◌∷◌, Some, None, Ok, refl}
use Rattle.vf_base.specs.Outside.{last_count, next_count, Takes}
use Rattle.vf_base.specs.InMemory.{IsFirstAt, IsNowhere}
use Rattle.vf_base.specs.Host.{after_host_write}

-- a count goes up by one, and stands still at its last value
counts_up : next_count 7 ≡ 8
counts_up = refl

stands_still : next_count last_count ≡ last_count
stands_still = refl

-- of two entries at the path [1], the first counts
first_of_two : IsFirstAt ((2 ∷ [], 5 ∷ []) ∷ (1 ∷ [], 6 ∷ []) ∷ (1 ∷ [], 7 ∷ []) ∷ []) (1 ∷ []) 1
first_of_two = ((6 ∷ [], refl), refl)

nowhere : IsNowhere ((2 ∷ [], 5 ∷ []) ∷ []) (1 ∷ [])
nowhere = refl

-- what is told grows by what was taken, and what is untold stays untold
told : Takes (Some (1 ∷ 2 ∷ [])) (Some (1 ∷ 2 ∷ 3 ∷ [])) (3 ∷ [])
told = refl

untold : Takes None None (3 ∷ [])
untold = refl

-- to take nothing of a piece counts as a failure, unless the piece is empty
nothing_taken : after_host_write 4 (1 ∷ []) (Ok 0) ≡ 5
nothing_taken = refl

empty_piece : after_host_write 4 [] (Ok 0) ≡ 4
empty_piece = refl

some_taken : after_host_write 4 (1 ∷ 2 ∷ []) (Ok 1) ≡ 4
some_taken = refl
