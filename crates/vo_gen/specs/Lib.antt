pub mod Words
pub mod Workload
