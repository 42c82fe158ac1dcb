-- What the program owes: what comes of its words.
use Rattle.std.specs.Prelude.{ℕ, ◌≡◌, List, Option, Result, Ok, Err}
use Rattle.pg_interval.specs.declared.pg_interval.Interval.{Interval}
use Rattle.pg_text.specs.Words.{printed_style}
use Rattle.relation_files.specs.Files.{IsToldBy, IsFileCause}
use Rattle.relation_tables.specs.declared.Relation.{Relation}
use Rattle.rota_words.specs.Orders.{Named, Ordered, lines, clashes, Orders}
use Rattle.rota_report.specs.declared.failure.Failure.{Failure}
use Rattle.rota_report.specs.declared.failure.Failure.TheVariants.{Usage, File}
use Rattle.rota_report.specs.Columns.{column_of}
use Rattle.rota_report.specs.Outcomes.{IsUntouched, HasListed, HasCompared}

-- What the program sees of its surroundings, when it begins and when it ends: what is left of the relation file, what was written, and the
-- counts of faults of both.
pub record Surroundings : Type 0 where
  pub file : Option (List ℕ)
  pub file_faults : ℕ
  pub out : Option (List ℕ)
  pub out_faults : ℕ

-- the surroundings by what their traits tell
abbrev pub surroundings : {F K : Type 0} → (F → Option (List ℕ)) → (F → ℕ) → (K → Option (List ℕ)) → (K → ℕ) → F → K → Surroundings
surroundings left faults written write_faults file out =
    record { file = left file; file_faults = faults file; out = written out; out_faults = write_faults out }

-- the intervals of the column that a rota names
abbrev pub steps_of : List Relation → Named → Option (List Interval)
steps_of relations n = column_of relations n.relation n.column

-- what comes of an order over these relations
abbrev pub HasTold : Ordered → List Relation → Result (Unit {0}) Failure → Surroundings → Surroundings → Type 0
HasTold (lines n style) relations result old new =
    HasListed n.start (printed_style style) (steps_of relations n) result old.out new.out old.out_faults new.out_faults
HasTold (clashes n m) relations result old new =
    HasCompared n.start m.start (steps_of relations n) (steps_of relations m) result old.out new.out old.out_faults new.out_faults

-- What comes of an order: the file is refused, and nothing was written; or what comes of it over the relations that the file tells.
abbrev pub HasCarriedOut : Ordered → Result (Unit {0}) Failure → Surroundings → Surroundings → Type 0
HasCarriedOut o (Err (File e)) old new = IsFileCause e old.file new.file old.file_faults new.file_faults
    × IsUntouched old.out new.out old.out_faults new.out_faults
HasCarriedOut o result old new = (relations : List Relation) × IsToldBy old.file new.file relations × HasTold o relations result old new

-- What comes of the words: nothing where they are no order, and else what comes of their order.
abbrev pub HasRun : List (List ℕ) → Result (Unit {0}) Failure → Surroundings → Surroundings → Type 0
HasRun words (Err Usage) old new = ((o : Ordered) → ¬ Orders words o) × (new ≡ old)
HasRun words result old new = (o : Ordered) × Orders words o × HasCarriedOut o result old new
