mod SetLaws
pub mod OperationLaws
