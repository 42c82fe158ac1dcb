mod Padding
mod WordLemmas
