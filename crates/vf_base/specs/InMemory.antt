-- What the versions of files and sinks in memory keep, and what one call makes of it.
use Rattle.std.specs.Prelude.{◌≡◌, ℕ, List, take, ◌++◌, Some, None, Result, Ok, Err, slice_get, refl}
use Rattle.std.specs.Coded.{Coded, code_by, coded×, coded_list, coded_ℕ}
use Rattle.std.specs.Ordering.{nat_cmp}
use Rattle.std.specs.Cmp.Lexicographic.{slice_cmp}
use Rattle.std.specs.FinMap.{find, insert, code}
use Rattle.vf_base.specs.Outside.{FileMap, next_count}
use Rattle.vf_base.specs.declared.files.FileFault.{FileFault}
use Rattle.vf_base.specs.declared.files.FileFault.TheVariants as read_faults
use Rattle.vf_base.specs.declared.files.PutFault.{PutFault}
use Rattle.vf_base.specs.declared.files.PutFault.TheVariants as put_faults
use Rattle.vf_base.specs.declared.sink.SinkFault.{SinkFault}
use Rattle.vf_base.specs.declared.sink.SinkFault.TheVariants as sink_faults

-- the first of the entries at a path has this index: the entry there is the path's, and none before it is
abbrev pub IsFirstAt : List (List ℕ × List ℕ) → List ℕ → ℕ → Type 0
IsFirstAt entries path at =
    ((bytes : List ℕ) × (slice_get entries at ≡ Some (path, bytes))) × (find (slice_cmp nat_cmp) path (take at entries) ≡ None)

-- no entry is at the path
abbrev pub IsNowhere : List (List ℕ × List ℕ) → List ℕ → Type 0
IsNowhere entries path = find (slice_cmp nat_cmp) path entries ≡ None

-- a map of files is stored as the list of its entries
abbrev pub map_code : Coded FileMap
map_code = code (coded_list coded_ℕ) (coded_list coded_ℕ)

-- files in memory: the map, the numbers of the calls that are to fail (the first call has number 0), how many calls there were, and the counts of refusals
pub record FilesState : Type 0 where
  pub map : FileMap
  pub fails : List ℕ
  pub calls : ℕ
  pub failures : ℕ
  pub absences : ℕ
  pub put_failures : ℕ

abbrev pub files_code : Coded FilesState
files_code =
    code_by (FileMap × (List ℕ × (ℕ × (ℕ × (ℕ × ℕ)))))
    (coded× map_code (coded× (coded_list coded_ℕ) (coded× coded_ℕ (coded× coded_ℕ (coded× coded_ℕ coded_ℕ)))))
    (λ s. (s.map, (s.fails, (s.calls, (s.failures, (s.absences, s.put_failures))))))
    (λ p. record { map = p.0; fails = p.1.0; calls = p.1.1.0; failures = p.1.1.1.0; absences = p.1.1.1.1.0; put_failures = p.1.1.1.1.1 })
    (λ _. refl)

-- the files after a read that gave this answer: one more call, and one more refusal of its kind
abbrev pub after_read : FilesState → Result (Unit {0}) FileFault → FilesState
after_read s (Ok _) = record s { calls = next_count s.calls }
after_read s (Err read_faults.Missing) = record s { calls = next_count s.calls; absences = next_count s.absences }
after_read s (Err read_faults.Failed) = record s { calls = next_count s.calls; failures = next_count s.failures }
after_read s (Err read_faults.Memory) = record s { calls = next_count s.calls }

-- the files after a write of bytes at a path that gave this answer
abbrev pub after_put : FilesState → List ℕ → List ℕ → Result (Unit {0}) PutFault → FilesState
after_put s path bytes (Ok _) = record s { map = insert s.map path bytes; calls = next_count s.calls }
after_put s path bytes (Err put_faults.Failed) = record s { calls = next_count s.calls; put_failures = next_count s.put_failures }
after_put s path bytes (Err put_faults.Memory) = record s { calls = next_count s.calls }

-- files that never fail: the map, and how many reads found no file
pub record SureFilesState : Type 0 where
  pub map : FileMap
  pub absences : ℕ

abbrev pub sure_files_code : Coded SureFilesState
sure_files_code = code_by (FileMap × ℕ) (coded× map_code coded_ℕ) (λ s. (s.map, s.absences)) (λ p. record { map = p.0; absences = p.1 }) (λ _. refl)

-- the files after a read that gave this answer: one more absence where there was no file
abbrev pub after_sure_read : SureFilesState → Result (Unit {0}) FileFault → SureFilesState
after_sure_read s (Ok _) = s
after_sure_read s (Err read_faults.Missing) = record s { absences = next_count s.absences }
after_sure_read s (Err read_faults.Failed) = s
after_sure_read s (Err read_faults.Memory) = s

-- a sink in memory: the bytes that it took, the numbers of the calls that are to fail, how many bytes it takes a call, how many calls there were, and the count of failures
pub record SinkState : Type 0 where
  pub taken : List ℕ
  pub fails : List ℕ
  pub most : ℕ
  pub calls : ℕ
  pub failures : ℕ

-- the sink after a write of bytes that gave this answer
abbrev pub after_write : SinkState → List ℕ → Result ℕ SinkFault → SinkState
after_write s bytes (Ok n) = record s { taken = s.taken ++ take n bytes; calls = next_count s.calls }
after_write s bytes (Err sink_faults.Failed) = record s { calls = next_count s.calls; failures = next_count s.failures }
after_write s bytes (Err sink_faults.Memory) = record s { calls = next_count s.calls }
