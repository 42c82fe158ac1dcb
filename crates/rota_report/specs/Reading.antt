-- What comes of reading the columns that rotas name. No public contract cites it.
use Rattle.std.specs.Prelude.{ℕ, ◌≡◌, ◌≤◌, ◌<◌, ◌+◌, ◌^◌, ◌⊎◌, IfOk, length, List, Option, Some, None, Result, Ok, Err}
use Rattle.pg_interval.specs.declared.pg_interval.Interval.{Interval}
use Rattle.relation_files.specs.Files.{IsToldBy, IsFileCause}
use Rattle.relation_tables.specs.declared.Relation.{Relation}
use Rattle.rota_words.specs.Orders.{Named}
use Rattle.rota_report.specs.declared.failure.Failure.{Failure}
use Rattle.rota_report.specs.declared.failure.Failure.TheVariants.{File, NoColumn, NoMemory}
use Rattle.rota_report.specs.Program.{steps_of}

-- the file tells relations of which this holds
abbrev pub Tells : Option (List ℕ) → Option (List ℕ) → (List Relation → Type 0) → Type 0
Tells left new_left Holds = (relations : List Relation) × IsToldBy left new_left relations × Holds relations

abbrev pub HasReadColumn : Named → Result (List Interval) Failure → Option (List ℕ) → Option (List ℕ) → ℕ → ℕ → Type 0
HasReadColumn n (Ok steps) left new_left faults new_faults = Tells left new_left (λ relations. steps_of relations n ≡ Some steps)
HasReadColumn n (Err (File e)) left new_left faults new_faults = IsFileCause e left new_left faults new_faults
HasReadColumn n (Err NoColumn) left new_left faults new_faults = Tells left new_left (λ relations. steps_of relations n ≡ None)
HasReadColumn n (Err NoMemory) left new_left faults new_faults = Tells left new_left (λ _. Unit {0})
HasReadColumn n (Err failure) left new_left faults new_faults = ⊥

abbrev pub HasReadColumns : Named → Named → Result (List Interval × List Interval) Failure → Option (List ℕ) → Option (List ℕ) → ℕ → ℕ
    → Type 0
HasReadColumns n m (Ok columns) left new_left faults new_faults =
    Tells left new_left (λ relations. (steps_of relations n ≡ Some columns.0) × (steps_of relations m ≡ Some columns.1))
HasReadColumns n m (Err (File e)) left new_left faults new_faults = IsFileCause e left new_left faults new_faults
HasReadColumns n m (Err NoColumn) left new_left faults new_faults =
    Tells left new_left (λ relations. (steps_of relations n ≡ None) ⊎ (steps_of relations m ≡ None))
HasReadColumns n m (Err NoMemory) left new_left faults new_faults = Tells left new_left (λ _. Unit {0})
HasReadColumns n m (Err failure) left new_left faults new_faults = ⊥

-- The same of one column, where the count of the file's faults doesn't fall.
pub record ReadsColumn (n : Named) (result : Result (List Interval) Failure) (left new_left : Option (List ℕ)) (faults new_faults : ℕ) : Type 0 where
  pub read : HasReadColumn n result left new_left faults new_faults
  pub never_falls : faults ≤ new_faults

-- The same of two columns, each of which has fewer than 2^32 - 1 intervals.
pub record ReadsColumns (n m : Named) (result : Result (List Interval × List Interval) Failure) (left new_left : Option (List ℕ))
    (faults new_faults : ℕ) : Type 0 where
  pub read : HasReadColumns n m result left new_left faults new_faults
  pub few : IfOk result (λ columns. length columns.0 + 1 < 2 ^ 32)
  pub others_few : IfOk result (λ columns. length columns.1 + 1 < 2 ^ 32)
  pub never_falls : faults ≤ new_faults
