-- Share-outs of what is not there, and of what a step leaves alone.
use Rattle.std.proofs.Common.{◌≡◌, ℕ, List, [], ◌∷◌, ◌++◌, length, map, Some, None, refl, sym, ap, subst, ◌∙◌, arith}
use Rattle.std.specs.List.{range_with_len}
use Rattle.std.specs.Ordering.{nat_cmp}
use Rattle.std.specs.FinMap as finite
use Rattle.vf_model.specs.Memory.{Memory, Block, Cell, HasCell, cells_at, block_at}
use Rattle.vf_meaning.specs.Parts.{nothing}
use Rattle.vf_meaning.specs.Fits.{Fits}
use Rattle.vf_meaning.specs.ShareOuts.{SumsTo}
use Rattle.vf_meaning.proofs.Parts.{nothing_is_neutral, nothing_fits_empty}
use Rattle.vf_sound.specs.Shares.{NothingIsShared, QuietStepsKeep}

-- ---- nothing
sums_to_nothing : (bs : List ℕ) → SumsTo (map (λ b. nothing) bs) nothing
sums_to_nothing [] = refl
sums_to_nothing (b ∷ bs) = (nothing, sums_to_nothing bs, nothing_is_neutral nothing)

both_sum_to_nothing : (ts bs : List ℕ) → SumsTo (map (λ t. nothing) ts ++ map (λ b. nothing) bs) nothing
both_sum_to_nothing [] bs = sums_to_nothing bs
both_sum_to_nothing (t ∷ ts) bs = (nothing, both_sum_to_nothing ts bs, nothing_is_neutral nothing)

none_some : {A : Type 0} {x : A} → None ≡ Some x → ⊥
none_some e = cc

no_block : (m : Memory) (b : ℕ) → m ≡ finite.empty → block_at m b ≡ None
no_block m b e = ap (λ z. block_at z b) e ∙ finite.get-empty nat_cmp b

no_such_block : {A : Type 0} (m : Memory) (b : ℕ) (block : Block) → m ≡ finite.empty → block_at m b ≡ Some block → A
no_such_block m b block e is = absurd (none_some (sym (no_block m b e) ∙ is))

no_cell : (m : Memory) (c : Cell) → m ≡ finite.empty → HasCell m c → ⊥
no_cell m c empty there = let none : length (cells_at (block_at m c.block)) ≡ 0 = ap (λ o. length (cells_at o)) (no_block m c.block empty) in omega arith

pub nothing_is_shared : NothingIsShared
nothing_is_shared e p s empty = record {
  all = nothing;
  sums = (nothing, both_sum_to_nothing (range_with_len 0 (length s.threads)) (finite.keys s.memory), nothing_is_neutral nothing);
  fits = subst (λ m. Fits nothing m) (sym empty) nothing_fits_empty;
  joined = λ t other ended none. refl;
  held = λ b other. refl;
  free = λ b q is positive. no_such_block s.memory b _ empty is;
  left = λ b t run argument info is ended positive. no_such_block s.memory b _ empty is;
  access = λ t touch c l touches covers is. absurd (no_cell s.memory c empty covers.there);
}

-- ---- quiet steps
pub quiet_steps_keep : QuietStepsKeep
quiet_steps_keep e p s new o out quiet owns = record {
  all = out.all;
  sums = subst (λ n. SumsTo (o.leaked ∷ (map o.threads (range_with_len 0 n) ++ map o.mutexes (finite.keys new.memory))) out.all) (sym quiet.threads)
      (subst (λ m. SumsTo (o.leaked ∷ (map o.threads (range_with_len 0 (length s.threads)) ++ map o.mutexes (finite.keys m))) out.all) (sym quiet.memory) out.sums);
  fits = subst (λ m. Fits out.all m) (sym quiet.memory) out.fits;
  joined = λ t other ended none. out.joined t other (quiet.ended t ended) (λ b handle. none b (handle.0, handle.1, same b ∙ handle.2));
  held = λ b other. out.held b (λ is. other (same b ∙ is));
  free = λ b q is positive. out.free b q (sym (same b) ∙ is) positive;
  left = λ b t run argument info is ended positive. out.left b t run argument info (sym (same b) ∙ is) (quiet.ended t ended) positive;
  access = owns;
}
  where
    same : (b : ℕ) → block_at new.memory b ≡ block_at s.memory b
    same b = ap (λ m. block_at m b) quiet.memory
