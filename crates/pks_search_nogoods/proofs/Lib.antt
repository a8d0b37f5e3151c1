pub mod Costs
mod Finding
mod Noting
mod Serving
mod Standing
mod Behind
mod Tables
