-- Parts of stored data.
use Rattle.std.proofs.Common.{ℕ}
use base.Stored.{Gv, gnil, gnum, gcons, num}

-- the first part
abbrev pub head : Gv → Gv
head gnil = gnil
head (gnum n) = gnil
head (gcons a b) = a

-- the parts behind the first
abbrev pub tail : Gv → Gv
tail gnil = gnil
tail (gnum n) = gnil
tail (gcons a b) = b

-- the number in front
abbrev pub tag : Gv → ℕ
tag g = num (head g)
