pub mod Answering
pub mod Feeding
pub mod Loans
