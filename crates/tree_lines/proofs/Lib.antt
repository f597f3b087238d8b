pub mod ChangeProofs
