mod Recorded
mod Outcomes
