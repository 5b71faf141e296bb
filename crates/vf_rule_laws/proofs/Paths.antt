-- What longer paths entail, and several facts at once.
use Rattle.std.proofs.Common.{List, [], ◌∷◌, ◌++◌}
use Rattle.vf_meaning.specs.Valuations.{Valuation}
use Rattle.vf_meaning.specs.Assertions.{Environment}
use Rattle.vf_rules.specs.States.{Fact, Meets, Entails}
use Rattle.vf_rules.specs.Consume.{EntailsAll}

module _ (e : Environment) where
  pub meets_front : (v : Valuation) (fs gs : List Fact) → Meets e v (fs ++ gs) → Meets e v fs
  meets_front v [] gs m = tt
  meets_front v (f ∷ fs) gs m = (m.0, meets_front v fs gs m.1)

  pub meets_back : (v : Valuation) (fs gs : List Fact) → Meets e v (fs ++ gs) → Meets e v gs
  meets_back v [] gs m = m
  meets_back v (f ∷ fs) gs m = meets_back v fs gs m.1

  -- several facts are entailed where what meets the path meets all of them, and only there
  pub all_by : (path fs : List Fact) → ((v : Valuation) → Meets e v path → Meets e v fs) → EntailsAll e path fs
  all_by path [] h = tt
  all_by path (f ∷ fs) h = (record { by = λ v m. (h v m).0 }, all_by path fs (λ v m. (h v m).1))

  pub all_met : (path fs : List Fact) → EntailsAll e path fs → (v : Valuation) → Meets e v path → Meets e v fs
  all_met path [] h v m = tt
  all_met path (f ∷ fs) h v m = ((h.0).by v m, all_met path fs h.1 v m)

  -- a longer path entails as much
  pub all_longer : (path gs fs : List Fact) → EntailsAll e path fs → EntailsAll e (path ++ gs) fs
  all_longer path gs fs h = all_by (path ++ gs) fs (λ v m. all_met path fs h v (meets_front v path gs m))

  -- and it entails what was added
  pub added_entailed : (path fs : List Fact) → EntailsAll e (path ++ fs) fs
  added_entailed path fs = all_by (path ++ fs) fs (λ v m. meets_back v path fs m)

  -- what follows from entailed facts is entailed
  pub entailed_from : (path fs : List Fact) (f : Fact) → EntailsAll e path fs → Entails e fs f → Entails e path f
  entailed_from path fs f h k = record { by = λ v m. k.by v (all_met path fs h v m) }

  pub all_from : (path fs gs : List Fact) → EntailsAll e path fs → EntailsAll e fs gs → EntailsAll e path gs
  all_from path fs gs h k = all_by path gs (λ v m. all_met fs gs k v (all_met path fs h v m))

  -- facts in a row
  pub all_joined : (path fs gs : List Fact) → EntailsAll e path fs → EntailsAll e path gs → EntailsAll e path (fs ++ gs)
  all_joined path [] gs h k = k
  all_joined path (f ∷ fs) gs h k = (h.0, all_joined path fs gs h.1 k)
