mod GainLemmas
mod ShiftLemmas
mod PairLemmas
