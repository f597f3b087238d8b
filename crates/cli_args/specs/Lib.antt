pub mod Numbers
pub mod Shapes
pub mod PlainRequest
pub mod Commands
pub mod Request
pub mod Forms
