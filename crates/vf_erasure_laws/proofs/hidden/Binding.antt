-- The names that patterns bind stand beside their sorts.
use Rattle.std.proofs.Common.{◌≡◌, refl, List, length, Option}
use Rattle.vf_sorts.specs.Sorts.{Sort}
use Rattle.vf_sorts.specs.Unknowns.{Known}
use Rattle.vf_declared.specs.declared.scope.Scope.{Scope}
use Rattle.vf_syntax.specs.declared.pattern.Amount.{Amount}
use Rattle.vf_syntax.specs.declared.pattern.Pattern.{Pattern}
use Rattle.vf_syntax.specs.declared.pattern.Share.{Share}
use Rattle.vf_syntax.specs.declared.written.Name.{Name}
use Rattle.vf_syntax.specs.GhostExprTree.{GhostExprTree}
use Rattle.vf_sorting.specs.declared.context.Context.{Context}
use Rattle.vf_binding.specs.declared.bound.Bound.{Bound}
use Rattle.vf_binding.specs.declared.chunk_sorts.ChunkSorts.{ChunkSorts}
use Rattle.vf_binding.specs.Bound.{with_bound}
use Rattle.vf_binding.specs.Patterns as patterns
use Rattle.vf_binding.specs.Shares as shares
use Rattle.vf_binding.specs.Chunks as chunks
use Rattle.vf_asserting.specs.Cases as cases
use Rattle.vf_commands.specs.Opening as opening
use Rattle.vf_erasure_laws.proofs.hidden.Lists.{one_beside}

-- each name stands beside a sort
abbrev pub IsBeside : Bound → Type 0
IsBeside b = length b.names ≡ length b.sorts

one_more : (b : Bound) (n : Name) (t : Sort) → IsBeside b → IsBeside (with_bound b n.text t)
one_more b n t e = one_beside b.names n.text b.sorts t e

binds : {s : Scope} {c : Context} {k k' : Known} {b b' : Bound} {t : Sort} {x : Pattern} → patterns.Binds s c k b t x k' b' → IsBeside b → IsBeside b'
binds (patterns.value p) e = e
binds (patterns.named {b = b} {w = w} {n = n} o) e = one_more b n w e
binds patterns.anything e = e

all_bind : {s : Scope} {c : Context} {k k' : Known} {b b' : Bound} {ts : List Sort} {xs : List Pattern} → patterns.AllBind s c k b ts xs k' b' → IsBeside b → IsBeside b'
all_bind patterns.none_bind e = e
all_bind (patterns.one_binds h hs) e = all_bind hs (binds h e)

amount : {s : Scope} {c : Context} {k k' : Known} {b b' : Bound} {m : Amount} → shares.AmountPasses s c k b m k' b' → IsBeside b → IsBeside b'
amount (shares.bound {b = b} {n = n} o) e = one_more b n shares.fraction_sort e
amount (shares.product f l) e = e

share : {s : Scope} {c : Context} {k k' : Known} {b b' : Bound} {h : Option Share} → shares.SharePasses s c k b h k' b' → IsBeside b → IsBeside b'
share shares.whole e = e
share (shares.part m) e = amount m e

arguments : {s : Scope} {c : Context} {k k' : Known} {b b' : Bound} {t : ChunkSorts} {xs : List Pattern} {ys : Option (List Pattern)} → chunks.ArgumentsBind s c k b t xs ys k' b' → IsBeside b → IsBeside b'
arguments (chunks.one_pair h) e = all_bind h e
arguments (chunks.two_pairs g h) e = all_bind h e

-- what a chunk binds
pub chunk : {s : Scope} {c : Context} {k k' : Known} {b b' : Bound} {h : Option Share} {n : Name} {xs : List Pattern} {ys : Option (List Pattern)} → chunks.ChunkBinds s c k b h n xs ys k' b' → IsBeside b → IsBeside b'
chunk (chunks.chunk h t l a) e = arguments a (share h e)
chunk (chunks.truth h t p) e = share h e

-- what a cell binds
pub cell : {s : Scope} {c : Context} {k k' : Known} {b b' : Bound} {h : Option Share} {a : GhostExprTree} {f : Name} {x : Pattern} → chunks.CellBinds s c k b h a f x k' b' → IsBeside b → IsBeside b'
cell (chunks.cell h p t u x) e = binds x (share h e)

-- what the names of a case bind
pub names : {s : Scope} {b b' : Bound} {ns : List Name} {ts : List Sort} → cases.NamesBind s b ns ts b' → IsBeside b → IsBeside b'
names cases.none_bind e = e
names (cases.one_binds {b = b} {n = n} {t = t} o h) e = names h (one_more b n t e)

-- what `open` binds
pub opened : {s : Scope} {c : Context} {k k' : Known} {b : Bound} {h : Option Share} {n : Name} {xs : List Pattern} {ys : Option (List Pattern)} → opening.OpenBinds s c k h n xs ys k' b → IsBeside b
opened (opening.opened h t l a) = arguments a (share h refl)
