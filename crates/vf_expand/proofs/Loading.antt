-- What a library tells of a file that was read.
use Rattle.std.proofs.Common.{◌≡◌, ℕ, ◌≤◌, refl, sym, ap, subst, ◌∙◌, Bool, List, length, Some, slice_get, Result, Ok, Err, inl, inr, option_map, IfOk}
use Rattle.vf_base.specs.declared.place.Place.{Place}
use Rattle.vf_snapshot.specs.declared.held.Held.{Held}
use Rattle.vf_snapshot.specs.declared.held.Held.TheVariants as known
use Rattle.vf_snapshot.specs.declared.held.SnapFault.{SnapFault}
use Rattle.vf_snapshot.specs.declared.held.SnapFault.TheVariants as snap_faults
use Rattle.vf_snapshot.specs.Holdings.{Holdings, IsHeldAt, Stands, bytes_of}
use Rattle.vf_preproc.specs.declared.sources.Loaded.{Loaded}
use Rattle.vf_preproc.specs.declared.fault.ExpandFault.{ExpandFault}
use Rattle.vf_preproc.specs.declared.fault.ExpandFault.TheVariants as faults
use Rattle.vf_preproc.specs.Directives.{Fault, Refused, Missing, no_include}
use Rattle.vf_preproc.specs.UnitText.{Library, Source, Text, Faulty, TooLong, Absent, Unknown, loaded, beginning}
use Rattle.vf_preproc.specs.Units.{Tells, TellsOf}
use Rattle.vf_preproc.specs.Targets.{is_ghost_path}
use Rattle.vf_expand.specs.Steps.{Faults}
use Rattle.vf_expand.specs.Wholes.{named, fault_of, fault_at, Cut, NamedGives}

-- what was made of a file's bytes is what a library tells
pub cut_told : (library : Library) (path : List ℕ) (number : ℕ) (bytes : List ℕ) (r : Result Loaded ExpandFault) → TellsOf library path number (known.Bytes bytes) → Cut (is_ghost_path path) number bytes r → NamedGives (named (library path)) r
cut_told library path number bytes (Ok file) tells (short, same_number, same_bytes, lexes) =
    let told = tells.1 short file.tokens lexes in
    ap named told ∙ ap (λ n. Ok (record { number = n; bytes = bytes; tokens = file.tokens })) (sym same_number) ∙ ap (λ b. Ok (record { number = file.number; bytes = b; tokens = file.tokens })) (sym same_bytes)
cut_told library path number bytes (Err (faults.Refused r)) tells (quiet, inl (long, rule, place)) =
    (ap named (tells.0 long) ∙ ap (λ x. Err (Refused x (beginning number))) (sym rule) ∙ ap (λ p. Err (Refused r.rule p)) (sym place), quiet)
cut_told library path number bytes (Err (faults.Refused r)) tells (quiet, inr (short, rule, none)) =
    (ap named (tells.2 short r.place none) ∙ ap (λ x. Err (Refused x r.place)) (sym rule), quiet)
cut_told library path number bytes (Err faults.Missing) tells h = absurd h
cut_told library path number bytes (Err faults.ReadFault) tells h = absurd h
cut_told library path number bytes (Err faults.Memory) tells h = tt

-- the bytes that a snapshot has under a number
pub held_bytes : (held : Holdings) (number : ℕ) (path bytes now : List ℕ) → slice_get held number ≡ Some (path, known.Bytes bytes) → option_map (λ (e : List ℕ × Held). bytes_of e.1) (slice_get held number) ≡ Some now → now ≡ bytes
held_bytes held number path bytes now at asked =
    let same : Some bytes ≡ Some now = sym (ap (option_map (λ (e : List ℕ × Held). bytes_of e.1)) at) ∙ asked in
    cc

-- a fault of the snapshot is what a library tells
pub fault_told : (library : Library) (held : Holdings) (path : List ℕ) (fault : SnapFault) → Tells library held → Stands held path (Err fault) → NamedGives (named (library path)) (Err (fault_of fault))
fault_told library held path snap_faults.Missing tells (number, at) = ap named (tells path number known.Missing at)
fault_told library held path (snap_faults.TooLong number) tells at = (ap named (tells path number known.TooLong at), refl)
fault_told library held path snap_faults.ReadFault tells at = tt
fault_told library held path snap_faults.Memory tells at = tt

-- a file that was read is one to include
pub read_included : (hash : Place) (source : Source) (file : Loaded) → named source ≡ Ok file → loaded hash source ≡ Ok file
read_included hash Unknown file h = absurd cc
read_included hash Absent file h = absurd cc
read_included hash (TooLong number) file h = absurd cc
read_included hash (Faulty place) file h = absurd cc
read_included hash (Text number bytes tokens) file h = h

-- a missing file is none to include
pub missing_included : (hash : Place) (source : Source) → named source ≡ Err Missing → loaded hash source ≡ no_include hash
missing_included hash Unknown h = absurd cc
missing_included hash Absent h = refl
missing_included hash (TooLong number) h = absurd cc
missing_included hash (Faulty place) h = absurd cc
missing_included hash (Text number bytes tokens) h = absurd cc

-- a file that is refused is refused where it is included
refused_included : (hash : Place) (source : Source) (fault : Fault) → (fault ≡ Missing → ⊥) → named source ≡ Err fault → loaded hash source ≡ Err fault
refused_included hash Unknown fault other h = h
refused_included hash Absent fault other h = let same : fault ≡ Missing = cc in absurd (other same)
refused_included hash (TooLong number) fault other h = h
refused_included hash (Faulty place) fault other h = h
refused_included hash (Text number bytes tokens) fault other h = absurd cc

-- a fault of a file is one of its include
pub fault_included : (hash : Place) (source : Source) (e : ExpandFault) → NamedGives (named source) (Err e) → Faults (fault_at hash e) (loaded hash source)
fault_included hash source (faults.Refused r) h = (refused_included hash source (Refused r.rule r.place) (λ same. absurd cc) h.0, h.1)
fault_included hash source faults.Missing h = (missing_included hash source h, refl)
fault_included hash source faults.ReadFault h = tt
fault_included hash source faults.Memory h = tt

-- a fault of reading at an include is one of the file
pub read_fault_included : (hash : Place) (e : ExpandFault) → fault_at hash e ≡ faults.ReadFault → e ≡ faults.ReadFault
read_fault_included hash (faults.Refused r) h = absurd cc
read_fault_included hash faults.Missing h = absurd cc
read_fault_included hash faults.ReadFault h = refl
read_fault_included hash faults.Memory h = absurd cc

-- a file that was cut is short, and a file that cannot be cut is there and was read
pub cut_short : (ghost : Bool) (number : ℕ) (bytes : List ℕ) (r : Result Loaded ExpandFault) → Cut ghost number bytes r → IfOk r (λ file. length file.bytes ≤ 1048576)
cut_short ghost number bytes (Ok file) (short, same_number, same_bytes, lexes) = subst (λ b. length b ≤ 1048576) (sym same_bytes) short
cut_short ghost number bytes (Err e) h = tt

pub cut_there : (ghost : Bool) (number : ℕ) (bytes : List ℕ) (r : Result Loaded ExpandFault) → Cut ghost number bytes r → r ≡ Err faults.Missing → ⊥
cut_there ghost number bytes r h is = subst (Cut ghost number bytes) is h

pub cut_read : (ghost : Bool) (number : ℕ) (bytes : List ℕ) (r : Result Loaded ExpandFault) → Cut ghost number bytes r → r ≡ Err faults.ReadFault → ⊥
cut_read ghost number bytes r h is = subst (Cut ghost number bytes) is h

-- where a file is missing that is held
pub stands_missing : (held : Holdings) (path : List ℕ) (fault : SnapFault) → Stands held path (Err fault) → fault_of fault ≡ faults.Missing → (number : ℕ) × IsHeldAt held path number known.Missing
stands_missing held path snap_faults.Missing stands h = stands
stands_missing held path (snap_faults.TooLong n) stands h = absurd cc
stands_missing held path snap_faults.ReadFault stands h = absurd cc
stands_missing held path snap_faults.Memory stands h = absurd cc

pub read_fault_named : (fault : SnapFault) → fault_of fault ≡ faults.ReadFault → fault ≡ snap_faults.ReadFault
read_fault_named snap_faults.Missing h = absurd cc
read_fault_named (snap_faults.TooLong n) h = absurd cc
read_fault_named snap_faults.ReadFault h = refl
read_fault_named snap_faults.Memory h = absurd cc

-- the fault of an answer
abbrev pub fault_in : {A : Type 0} → Result A ExpandFault → ExpandFault
fault_in (Ok x) = faults.Memory
fault_in (Err e) = e

-- an include has no fault of a missing named file
pub there_included : (hash : Place) (e : ExpandFault) → fault_at hash e ≡ faults.Missing → ⊥
there_included hash (faults.Refused r) h = absurd cc
there_included hash faults.Missing h = absurd cc
there_included hash faults.ReadFault h = absurd cc
there_included hash faults.Memory h = absurd cc
