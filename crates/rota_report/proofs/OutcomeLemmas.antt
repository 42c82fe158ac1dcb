-- What comes of an order comes of the words that order it.
use Rattle.std.proofs.Common.{◌≡◌, ℕ, ◌⊎◌, inl, inr, List, Option, Some, None, Result, Ok, Err, sym, subst}
use Rattle.pg_interval.specs.declared.pg_interval.Interval.{Interval}
use Rattle.pg_interval.specs.Reading.{Style}
use Rattle.pg_text.specs.declared.format.interval_style.IntervalStyle.{IntervalStyle}
use Rattle.pg_text.specs.Words.{printed_style}
use Rattle.rota_moments.specs.declared.moment.Moment.{Moment}
use Rattle.relation_files.specs.Files.{IsToldBy}
use Rattle.relation_tables.specs.declared.Relation.{Relation}
use Rattle.rota_words.specs.Orders.{Named, lines, clashes, Orders}
use Rattle.rota_report.specs.declared.failure.Failure.{Failure}
use Rattle.rota_report.specs.declared.failure.Failure.TheVariants.{Usage, File, NoColumn, OutOfRange, TotalOverflow, WriteFault, NoMemory}
use Rattle.rota_report.specs.Outcomes.{IsUntouched, HasListed, HasCompared}
use Rattle.rota_report.specs.Program.{Surroundings, HasCarriedOut, HasRun, steps_of}
use Rattle.rota_report.specs.Reading.{HasReadColumns}

no_usage : (start : Moment) (style : Style) (column : Option (List Interval)) (old new : Option (List ℕ)) (faults new_faults : ℕ)
    → HasListed start style column (Err Usage) old new faults new_faults → ⊥
no_usage start style None old new faults new_faults h = h
no_usage start style (Some steps) old new faults new_faults h = h

pub run_listed : (words : List (List ℕ)) (n : Named) (style : IntervalStyle) (r : Result (Unit {0}) Failure) (old new : Surroundings)
    → Orders words (lines n style) → HasCarriedOut (lines n style) r old new → HasRun words r old new
run_listed words n style (Ok done) old new o h = (lines n style, o, h)
run_listed words n style (Err Usage) old new o h =
    absurd (no_usage n.start (printed_style style) (steps_of h.0 n) old.out new.out old.out_faults new.out_faults h.2)
run_listed words n style (Err (File e)) old new o h = (lines n style, o, h)
run_listed words n style (Err NoColumn) old new o h = (lines n style, o, h)
run_listed words n style (Err OutOfRange) old new o h = (lines n style, o, h)
run_listed words n style (Err TotalOverflow) old new o h = (lines n style, o, h)
run_listed words n style (Err WriteFault) old new o h = (lines n style, o, h)
run_listed words n style (Err NoMemory) old new o h = (lines n style, o, h)

-- ---- the clashes of two rotas

no_column : (start other : Moment) (steps others : Option (List Interval)) (old new : Option (List ℕ)) (faults new_faults : ℕ)
    → (steps ≡ None) ⊎ (others ≡ None) → IsUntouched old new faults new_faults
    → HasCompared start other steps others (Err NoColumn) old new faults new_faults
no_column start other None None old new faults new_faults h u = u
no_column start other None (Some others) old new faults new_faults h u = u
no_column start other (Some steps) None old new faults new_faults h u = u
no_column start other (Some steps) (Some others) old new faults new_faults (inl h) u = cc
no_column start other (Some steps) (Some others) old new faults new_faults (inr h) u = cc

no_memory : (start other : Moment) (steps others : Option (List Interval)) (old new : Option (List ℕ)) (faults new_faults : ℕ)
    → IsUntouched old new faults new_faults → HasCompared start other steps others (Err NoMemory) old new faults new_faults
no_memory start other None None old new faults new_faults u = u
no_memory start other None (Some others) old new faults new_faults u = u
no_memory start other (Some steps) None old new faults new_faults u = u
no_memory start other (Some steps) (Some others) old new faults new_faults u = (inl u.0, u.1)

-- the columns were not read, and nothing was written
pub columns_refused : (n m : Named) (failure : Failure) (old new : Surroundings)
    → HasReadColumns n m (Err failure) old.file new.file old.file_faults new.file_faults
    → IsUntouched old.out new.out old.out_faults new.out_faults → HasCarriedOut (clashes n m) (Err failure) old new
columns_refused n m Usage old new h u = absurd h
columns_refused n m (File e) old new h u = (h, u)
columns_refused n m NoColumn old new h u =
    (h.0, h.1, no_column n.start m.start (steps_of h.0 n) (steps_of h.0 m) old.out new.out old.out_faults new.out_faults h.2 u)
columns_refused n m OutOfRange old new h u = absurd h
columns_refused n m TotalOverflow old new h u = absurd h
columns_refused n m WriteFault old new h u = absurd h
columns_refused n m NoMemory old new h u =
    (h.0, h.1, no_memory n.start m.start (steps_of h.0 n) (steps_of h.0 m) old.out new.out old.out_faults new.out_faults u)

columns_are : (start other : Moment) (steps others : List Interval) (a b : Option (List Interval)) (r : Result (Unit {0}) Failure)
    (old new : Option (List ℕ)) (faults new_faults : ℕ) → a ≡ Some steps → b ≡ Some others
    → HasCompared start other (Some steps) (Some others) r old new faults new_faults
    → HasCompared start other a b r old new faults new_faults
columns_are start other steps others a b r old new faults new_faults first second h =
    let P : Option (List Interval) → Type 0 = λ x. HasCompared start other x b r old new faults new_faults in
    let Q : Option (List Interval) → Type 0 = λ x. HasCompared start other (Some steps) x r old new faults new_faults in
    subst P (sym first) (subst Q (sym second) h)

-- the columns were read
pub columns_compared : (n m : Named) (relations : List Relation) (steps others : List Interval) (r : Result (Unit {0}) Failure)
    (old new : Surroundings) → IsToldBy old.file new.file relations → steps_of relations n ≡ Some steps
    → steps_of relations m ≡ Some others
    → HasCompared n.start m.start (Some steps) (Some others) r old.out new.out old.out_faults new.out_faults
    → HasCarriedOut (clashes n m) r old new
columns_compared n m relations steps others (Err (File e)) old new told first second h = absurd h
columns_compared n m relations steps others (Ok done) old new told first second h =
    (relations, told, columns_are n.start m.start steps others _ _ (Ok done) _ _ _ _ first second h)
columns_compared n m relations steps others (Err Usage) old new told first second h =
    (relations, told, columns_are n.start m.start steps others _ _ (Err Usage) _ _ _ _ first second h)
columns_compared n m relations steps others (Err NoColumn) old new told first second h =
    (relations, told, columns_are n.start m.start steps others _ _ (Err NoColumn) _ _ _ _ first second h)
columns_compared n m relations steps others (Err OutOfRange) old new told first second h =
    (relations, told, columns_are n.start m.start steps others _ _ (Err OutOfRange) _ _ _ _ first second h)
columns_compared n m relations steps others (Err TotalOverflow) old new told first second h =
    (relations, told, columns_are n.start m.start steps others _ _ (Err TotalOverflow) _ _ _ _ first second h)
columns_compared n m relations steps others (Err WriteFault) old new told first second h =
    (relations, told, columns_are n.start m.start steps others _ _ (Err WriteFault) _ _ _ _ first second h)
columns_compared n m relations steps others (Err NoMemory) old new told first second h =
    (relations, told, columns_are n.start m.start steps others _ _ (Err NoMemory) _ _ _ _ first second h)
