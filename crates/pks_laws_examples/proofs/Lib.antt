pub mod WorkedRows
pub mod ReasonedRows
