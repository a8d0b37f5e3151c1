pub mod Entries
pub mod FormLists
pub mod HeightLaws
pub mod Least
pub mod Noting
pub mod Past
pub mod Lengths
