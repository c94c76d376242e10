mod FormattedLemmas
mod OrderLawsLemmas
mod Comparisons
mod LawsLemmas
pub mod Inserted
mod ComparingLemmas
mod FieldsLemmas
mod Places
mod EscapesLemmas
mod SizeOrder
