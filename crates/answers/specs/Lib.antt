-- The text of answers, reports and comparisons.
pub mod CallText
pub mod Plural
pub mod ReportText
pub mod PassText
