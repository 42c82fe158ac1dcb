mod FewRows
mod ColumnLemmas
mod OutcomeLemmas
mod SinkLemmas
