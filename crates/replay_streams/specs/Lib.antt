pub mod RecordedRuns
