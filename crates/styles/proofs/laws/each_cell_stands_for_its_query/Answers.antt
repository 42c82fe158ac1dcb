use Rattle.query_texts.specs.QueryTexts.{trimmed}
use Rattle.interval_texts.specs.Reading.{interval_of}
use Rattle.styles.specs.Told.{interval_asked}
use Rattle.styles.proofs.Showing.{answered_alone, answered_one, shows}
use Rattle.styles.proofs.laws.each_cell_stands_for_its_query.Goals as goal

pub returns-clause-simple : goal.returns-clause-simple
returns-clause-simple c = λ client query i within stands.
    let back = c.printed_texts_are_read_back.ensures in
    answered_alone (interval_of (trimmed query)) i stands
    (shows i (back.postgres i within) (back.verbose i within) (back.iso i within) (back.sql i within))

pub returns-clause-extended : goal.returns-clause-extended
returns-clause-extended c = λ client p limit i within stands.
    let back = c.printed_texts_are_read_back.ensures in
    answered_one p.result_column_format (interval_asked p) i stands
    (shows i (back.postgres i within) (back.verbose i within) (back.iso i within) (back.sql i within))
