pub mod Laws
pub mod FieldLaws
pub mod RecordingLaws
pub mod Loops
