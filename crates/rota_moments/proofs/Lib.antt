mod CalendarLemmas
mod DateLemmas
pub mod DigitLemmas
mod MomentLemmas
mod ReadingLemmas
mod RotaLemmas
