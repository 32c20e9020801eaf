pub mod Sentences
pub mod RecordBound
