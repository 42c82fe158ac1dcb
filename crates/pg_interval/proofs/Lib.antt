pub mod ByteRanges
pub mod PrintedBytes
pub mod CellLemmas
pub mod DecimalsLemmas
pub mod DigitTexts
mod FrontFields
mod FrontItems
mod FrontReads
mod FrontSigns
pub mod IsoReads
pub mod NormalFacts
pub mod NormalFormLemmas
pub mod OptionLemmas
pub mod PairSums
pub mod PartTexts
pub mod PostgresReads
pub mod PrintedLemmas
pub mod PutDigits
mod SqlLengths
pub mod SqlReads
pub mod SpacedParts
pub mod Stands
mod TextsPrinted
mod TextsRead
pub mod TimeTexts
pub mod VerboseReads
pub mod VerboseTexts
pub mod Widths
mod ReadFields
mod ReadItems
mod ReadNumbers
mod ReadSums
mod ReadTimes
mod ReadTokens
mod ReadWhole
pub mod SeenUnits
